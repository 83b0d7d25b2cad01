use Rattle.std.specs.Prelude.{refl}
use Rattle.dm_central.proofs.CallLemmas.{arguments_stepped, arguments_stood, arguments_failed, arguments_entered, arguments_entered_aside}
use Rattle.dm_central.proofs.laws.call_steps.Goals as goal

pub returns-clause-stepped : goal.returns-clause-stepped
returns-clause-stepped c = λ change stage mode world locks beside kind place other inner named at x n y among agrees.
    arguments_stepped change stage mode world locks beside at.added kind place other inner at.passed named at.is_named at.avoid at.safe at.closed x n y among agrees

pub returns-clause-stood : goal.returns-clause-stood
returns-clause-stood c = λ change stage mode world locks beside kind place other inner named at parts y agrees.
    arguments_stood change stage mode world locks beside at.added kind place other inner at.passed named at.is_named at.avoid at.safe at.closed _ y parts refl agrees

pub returns-clause-failed : goal.returns-clause-failed
returns-clause-failed c = λ change stage mode world locks beside kind other inner named at holes opened tree pure is meets move.
    arguments_failed change stage mode world locks beside at.added kind (record { file = 0; byte = 0; line = 1; column = 1 }) other inner at.passed named at.is_named at.avoid at.safe at.closed move holes opened tree pure is meets

pub returns-clause-entered : goal.returns-clause-entered
returns-clause-entered c = λ change stage mode world locks beside kind place other inner named at called_kind holes values h.
    arguments_entered change stage mode world locks beside at.added kind place other inner at.passed named at.is_named at.avoid at.safe at.closed h.elsewhere values called_kind holes h.other_holes h.opened h.run h.is h.no_name h.behind h.yields h.gives h.typed h.entered

pub returns-clause-entered_aside : goal.returns-clause-entered_aside
returns-clause-entered_aside c = λ change stage mode world locks beside kind place other inner named at elsewhere values called_kind holes run pure found is value comes lacks entered closed yields behind.
    arguments_entered_aside change stage mode world locks beside at.added kind place other inner at.passed named at.is_named at.avoid at.safe at.closed elsewhere values called_kind holes run pure found is value comes lacks entered closed yields behind
