use Rattle.std.proofs.Common.{◌≡◌, ◌<◌, ℕ, not, List, Result, ap, ◌∙◌, sym, arith}
use Rattle.std.specs.List.{list_any}
use Rattle.dm_token.specs.declared.stop.Stop.{Stop}
use Rattle.dm_token.specs.declared.expansion.Mark.TheVariants.{Expansion}
use Rattle.dm_macro.specs.Signs.{is_hash_hash}
use Rattle.dm_expand.specs.Steps.{Progress, Output, begin}
use Rattle.dm_expand.specs.Laws.{Follows}
use Rattle.dm_expand.specs.Pastes.{Piece}
use Rattle.dm_expand.specs.Substitution.{filled_all}
use Rattle.dm_expand.specs.Expansion.{Macros, Invocation, expanded, site_of}
use Rattle.dm_expand.specs.HeadViews.{macros_of, site_with}
use Rattle.dm_expand.specs.Views.{pieces_in}
use Rattle.dm_expand.specs.ListViews.{invocation_value, pieces_before}
use Rattle.dm_expand.specs.Works.{parts_from, completed, outward}
use Rattle.dm_expand.proofs.ProgressLemmas.{begin-follows, follows_on}
use Rattle.dm_expand.proofs.StepLemmas.{stops_handed_as}
use Rattle.dm_expand.proofs.SubstitutionLemmas.{within_on, each-ok}
use Rattle.dm_expand.proofs.WorkLemmas.{replace-is, replace-stops}
use Rattle.dm_expand.proofs.machine.replace.Goals as goal

pub returns-in_err-begin-clause-stop : goal.returns-in_err-begin-clause-stop
returns-in_err-begin-clause-stop c =
    let macros : Macros = macros_of c.args.macros.now in
    let progress : Progress = c.args.progress.now in
    stops_handed_as c.from_residual.result c.in_err-begin.field-0.0 (begin c.args.invocation.found.number c.args.invocation.name c.args.invocation.foreign progress) _ c.from_residual.ensures.1
    (λ other is. replace-stops macros c.args.level.now c.args.invocation progress other is)
    c.in_err-begin.ensures.stop

pub go_on-requires : goal.go_on-requires
go_on-requires c =
    let progress : Progress = c.args.progress.now in
    let now : Progress = c.begin.new.self in
    let begun = each-ok (λ (q : Progress). Follows progress q × (progress.spent < q.spent)) _ now c.in_ok-begin.ensures.ok (begin-follows c.args.invocation.found.number c.args.invocation.name c.args.invocation.foreign progress) in
    within_on progress now c.requires begun.0

pub returns-in_err-go_on-clause-stop : goal.returns-in_err-go_on-clause-stop
unfolding site_of
returns-in_err-go_on-clause-stop c =
    let macros : Macros = macros_of c.args.macros.now in
    let definition = c.args.invocation.found.body.definition.now in
    let progress : Progress = c.args.progress.now in
    let now : Progress = c.begin.new.self in
    let invocation : Invocation = invocation_value c.args.invocation c.args.level.now.rest in
    let site : c.in_ok-site.site ≡ site_of invocation progress.instance =
    c.in_ok-site.ensures ∙ ap (λ (n : ℕ). site_with invocation.name (Expansion invocation.macro.number n) invocation.arguments) c.next_instance-instance.ensures in
    let starts : List Piece → Result Output Stop = λ xs. completed macros c.args.level.now c.in_ok-site.site c.args.invocation.hidden definition (pieces_before xs
    (filled_all (expanded macros) c.in_ok-site.site (not (list_any is_hash_hash definition.body)) (parts_from definition 0) now)) in
    stops_handed_as c.from_residual-in_err-go_on.result c.in_err-go_on.field-0.0 (starts (pieces_in c.new.result)) _ c.from_residual-in_err-go_on.ensures.1
    (λ other is. replace-is macros c.args.level.now c.args.invocation c.in_ok-site.site progress now site c.in_ok-begin.ensures.ok ∙ ap starts (sym c.new.ensures) ∙ is)
    c.in_err-go_on.ensures.stop

pub returns-clause-ok : goal.returns-clause-ok
unfolding site_of
returns-clause-ok c =
    let macros : Macros = macros_of c.args.macros.now in
    let definition = c.args.invocation.found.body.definition.now in
    let progress : Progress = c.args.progress.now in
    let now : Progress = c.begin.new.self in
    let invocation : Invocation = invocation_value c.args.invocation c.args.level.now.rest in
    let site : c.in_ok-site.site ≡ site_of invocation progress.instance =
    c.in_ok-site.ensures ∙ ap (λ (n : ℕ). site_with invocation.name (Expansion invocation.macro.number n) invocation.arguments) c.next_instance-instance.ensures in
    let starts : List Piece → Result Output Stop = λ xs. completed macros c.args.level.now c.in_ok-site.site c.args.invocation.hidden definition (pieces_before xs
    (filled_all (expanded macros) c.in_ok-site.site (not (list_any is_hash_hash definition.body)) (parts_from definition 0) now)) in
    ap (outward macros c.args.waiting.now.items)
    (replace-is macros c.args.level.now c.args.invocation c.in_ok-site.site progress now site c.in_ok-begin.ensures.ok ∙ ap starts (sym c.new.ensures))
    ∙ c.in_ok-go_on.ensures.ok

pub returns-clause-follows : goal.returns-clause-follows
returns-clause-follows c =
    let progress : Progress = c.args.progress.now in
    let now : Progress = c.begin.new.self in
    let begun = each-ok (λ (q : Progress). Follows progress q × (progress.spent < q.spent)) _ now c.in_ok-begin.ensures.ok (begin-follows c.args.invocation.found.number c.args.invocation.name c.args.invocation.foreign progress) in
    follows_on progress now c.go_on.new.progress begun.0 c.in_ok-go_on.ensures.follows

pub returns-clause-rises : goal.returns-clause-rises
returns-clause-rises c =
    let progress : Progress = c.args.progress.now in
    let now : Progress = c.begin.new.self in
    let begun = each-ok (λ (q : Progress). Follows progress q × (progress.spent < q.spent)) _ now c.in_ok-begin.ensures.ok (begin-follows c.args.invocation.found.number c.args.invocation.name c.args.invocation.foreign progress) in
    omega (arith, begun.1, c.in_ok-go_on.ensures.follows.rises)
