use Rattle.std.proofs.Common.{◌≡◌, IfOk, sym, ◌∙◌, subst, List, ℕ}
use Rattle.dm_unit.proofs.DefinitionLemmas.{text-some, text-none}
use Rattle.dm_unit.proofs.definition.manifest_text.Goals as goal

pub returns-in_ok-from_slice-in-None-clause-text : goal.returns-in_ok-from_slice-in-None-clause-text
returns-in_ok-from_slice-in-None-clause-text c = c.in_ok-from_slice-in-None.ensures.items ∙ text-none c.args.define.now (sym c.in-None.is ∙ c.equals_sign.ensures)

pub returns-in-Some-clause-text : goal.returns-in-Some-clause-text
returns-in-Some-clause-text c =
    subst (λ (bytes : List ℕ). IfOk c.with_blank.result (λ text. text.items ≡ bytes)) (text-some c.args.define.now c.in-Some.place (sym c.in-Some.is ∙ c.equals_sign.ensures)) c.with_blank.ensures
