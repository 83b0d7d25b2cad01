use Rattle.std.proofs.Common.{◌≡◌, ℕ, Bool, not, List, Option, None, Some, Ok, Result, ap, ◌∙◌, refl, sym}
use Rattle.std.proofs.lemmas.List.{append-nil}
use Rattle.dm_token.specs.declared.stop.Stop.{Stop}
use Rattle.dm_token.specs.declared.expansion.Definition.{Definition}
use Rattle.dm_expand.specs.declared.machine.Level as code_level
use Rattle.dm_expand.specs.declared.machine.Filling as code_filling
use Rattle.dm_expand.specs.declared.substitute.Whole as code_whole
use Rattle.dm_expand.specs.Steps.{Progress, Output}
use Rattle.dm_macro.specs.Bodies.{Part}
use Rattle.dm_expand.specs.Pastes as pastes
use Rattle.dm_expand.specs.Substitution.{Filled, filled_all}
use Rattle.dm_expand.specs.Expansion.{Macros, expanded}
use Rattle.dm_expand.specs.HeadViews.{macros_of}
use Rattle.dm_expand.specs.Views.{pieces_in}
use Rattle.dm_expand.specs.ListViews.{fills, pieces_before}
use Rattle.dm_expand.specs.Works.{parts_from, parts_waiting, completed, completed_from, completed_whole, outward, scanned_on}
use Rattle.dm_expand.proofs.StepLemmas.{stops_handed_as}
use Rattle.dm_expand.proofs.SubstitutionLemmas.{filled_all-nothing}
use Rattle.dm_expand.proofs.WorkLemmas.{completed-stops}
use Rattle.dm_expand.proofs.machine.go_on.Goals as goal

-- what a replacement becomes with these pieces, where its parts from one on are filled
abbrev filled_from : Macros → code_level.Level → code_filling.Filling → Bool → List pastes.Piece → List Part → Progress → Result Output Stop
filled_from macros level filling pasted pieces parts progress =
    completed macros level filling.site filling.hidden filling.body.definition.now (pieces_before pieces (filled_all (expanded macros) filling.site (not pasted) parts progress))

-- whether `##` is in the list is told by the body
by_body : (macros : Macros) (level : code_level.Level) (filling : code_filling.Filling) (from : ℕ) (progress : Progress)
    → completed_from macros level filling from progress ≡ filled_from macros level filling filling.body.pastes (pieces_in filling.pieces) (parts_from filling.body.definition.now from) progress
by_body macros level filling from progress =
    ap (λ (b : Bool). filled_from macros level filling b (pieces_in filling.pieces) (parts_from filling.body.definition.now from) progress) (sym filling.body.has_paste)

pub returns-in_err-left-clause-stop : goal.returns-in_err-left-clause-stop
returns-in_err-left-clause-stop c =
    let macros : Macros = macros_of c.args.macros.now in
    let filling : code_filling.Filling = c.parts.filling in
    let definition : Definition = filling.body.definition.now in
    let all : Result Filled Stop → Result Output Stop = λ r. completed macros c.parts.level filling.site filling.hidden definition r in
    stops_handed_as c.from_residual.result c.in_err-left.field-0.0 (pieces_before (pieces_in filling.pieces) (filled_all (expanded macros) filling.site (not filling.body.pastes) (parts_from definition c.parts.next) c.parts.progress)) _ c.from_residual.ensures.1
    (λ other is. c.parts.invariant.0 ∙ by_body macros c.parts.level filling c.parts.next c.parts.progress ∙ ap all is ∙ completed-stops macros c.parts.level filling.site filling.hidden definition other)
    (c.in_err-left.ensures.stop (expanded macros))

-- the same where no part is left
to_the_end : (macros : Macros) (level : code_level.Level) (filling : code_filling.Filling) (from : ℕ) (progress after : Progress) (pieces : List pastes.Piece) (left : Option code_whole.Whole)
    → pieces_before (pieces_in filling.pieces) (filled_all (expanded macros) filling.site (not filling.body.pastes) (parts_from filling.body.definition.now from) progress)
    ≡ pieces_before pieces (filled_all (expanded macros) filling.site (not filling.body.pastes) (parts_waiting filling.body.definition.now left) after)
    → left ≡ None → completed_from macros level filling from progress ≡ completed macros level filling.site filling.hidden filling.body.definition.now (Ok (fills pieces after))
to_the_end macros level filling from progress after pieces left is none =
    let definition : Definition = filling.body.definition.now in
    by_body macros level filling from progress
    ∙ ap (λ (r : Result Filled Stop). completed macros level filling.site filling.hidden definition r)
    (is
    ∙ ap (λ (l : Option code_whole.Whole). pieces_before pieces (filled_all (expanded macros) filling.site (not filling.body.pastes) (parts_waiting definition l) after)) none
    ∙ ap (pieces_before pieces) (filled_all-nothing (expanded macros) filling.site (not filling.body.pastes) after)
    ∙ ap (λ (xs : List pastes.Piece). Ok (fills xs after)) (append-nil pieces))

-- the same where a part waits
to_a_whole : (macros : Macros) (level : code_level.Level) (filling after : code_filling.Filling) (from : ℕ) (progress now : Progress) (left : Option code_whole.Whole) (waits : code_whole.Whole)
    → pieces_before (pieces_in filling.pieces) (filled_all (expanded macros) filling.site (not filling.body.pastes) (parts_from filling.body.definition.now from) progress)
    ≡ pieces_before (pieces_in after.pieces) (filled_all (expanded macros) filling.site (not filling.body.pastes) (parts_waiting filling.body.definition.now left) now)
    → left ≡ Some waits → after ≡ record filling { pieces = after.pieces } → completed_from macros level filling from progress ≡ completed_whole macros level after waits now
to_a_whole macros level filling after from progress now left waits is some are =
    let definition : Definition = filling.body.definition.now in
    by_body macros level filling from progress
    ∙ ap (λ (r : Result Filled Stop). completed macros level filling.site filling.hidden definition r)
    (is ∙ ap (λ (l : Option code_whole.Whole). pieces_before (pieces_in after.pieces) (filled_all (expanded macros) filling.site (not filling.body.pastes) (parts_waiting definition l) now)) some)
    ∙ ap (λ (b : Bool). filled_from macros level filling b (pieces_in after.pieces) (parts_waiting definition (Some waits)) now) filling.body.has_paste
    ∙ ap (λ (f : code_filling.Filling). completed_whole macros level f waits now) (sym are)

pub returns-in_err-leave-clause-stop : goal.returns-in_err-leave-clause-stop
returns-in_err-leave-clause-stop c =
    let macros : Macros = macros_of c.args.macros.now in
    let filling : code_filling.Filling = c.parts.filling in
    let pieces : List pastes.Piece = pieces_in c.fill_from.new.pieces in
    stops_handed_as c.from_residual-in_err-leave.result c.in_err-leave.field-0.0 (completed macros c.parts.level filling.site filling.hidden filling.body.definition.now (Ok (fills pieces c.fill_from.new.progress))) _ c.from_residual-in_err-leave.ensures.1
    (λ other is. c.parts.invariant.0 ∙ to_the_end macros c.parts.level filling c.parts.next c.parts.progress c.fill_from.new.progress pieces c.in_ok-left.left (c.in_ok-left.ensures.ok (expanded macros)) c.in_default.is ∙ is)
    (c.in_err-leave.ensures.stop macros)

pub returns-in_default-clause-ok : goal.returns-in_default-clause-ok
returns-in_default-clause-ok c =
    let macros : Macros = macros_of c.args.macros.now in
    let pieces : List pastes.Piece = pieces_in c.fill_from.new.pieces in
    ap (outward macros c.args.waiting.now.items)
    (c.parts.invariant.0
    ∙ to_the_end macros c.parts.level c.parts.filling c.parts.next c.parts.progress c.fill_from.new.progress pieces c.in_ok-left.left (c.in_ok-left.ensures.ok (expanded macros)) c.in_default.is
    ∙ c.in_ok-leave.ensures.ok macros)
    ∙ ap (λ ws. outward macros ws (scanned_on macros c.leave.new.level c.leave.new.progress)) (sym c.parts.invariant.1)

pub returns-in_err-filling-clause-stop : goal.returns-in_err-filling-clause-stop
returns-in_err-filling-clause-stop c =
    let macros : Macros = macros_of c.args.macros.now in
    let now : Progress = c.fill_from.new.progress in
    let after : code_filling.Filling = record c.parts.filling { pieces = c.fill_from.new.pieces } in
    stops_handed_as c.from_residual-in_err-filling.result c.in_err-filling.field-0.0 (completed_whole macros c.parts.level after c.in-Some.whole now) _ c.from_residual-in_err-filling.ensures.1
    (λ other is. c.parts.invariant.0 ∙ to_a_whole macros c.parts.level c.parts.filling after c.parts.next c.parts.progress now c.in_ok-left.left c.in-Some.whole (c.in_ok-left.ensures.ok (expanded macros)) c.in-Some.is refl ∙ is)
    (c.in_err-filling.ensures.stop c.parts.level)
