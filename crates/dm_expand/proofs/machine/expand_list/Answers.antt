use Rattle.std.proofs.Common.{◌++◌, [], List, Option, Result, Ok, ap, ◌∙◌, sym, subst, map}
use Rattle.std.proofs.lemmas.List.{map-append}
use Rattle.dm_token.specs.declared.stop.Stop.{Stop}
use Rattle.dm_token.specs.declared.token.Token.{Token}
use Rattle.dm_expand.specs.declared.head.Invocation as code_invocation
use Rattle.dm_expand.specs.declared.machine.Level as code_level
use Rattle.dm_expand.specs.declared.machine.Waiting as code_waiting
use Rattle.dm_expand.specs.Items.{Item}
use Rattle.dm_expand.specs.Steps.{Progress, Output}
use Rattle.dm_expand.specs.Expansion.{Macros, expanded, token_of}
use Rattle.dm_expand.specs.HeadViews.{macros_of}
use Rattle.dm_expand.specs.ListViews.{gives, tokens_before}
use Rattle.dm_expand.specs.Works.{outward, invoked_on, found_on, IsEnd}
use Rattle.dm_expand.proofs.ProgressLemmas.{follows_itself, follows_on}
use Rattle.dm_expand.proofs.StepLemmas.{stops_handed_as}
use Rattle.dm_expand.proofs.SubstitutionLemmas.{tokens_before-nothing, tokens_before-append, within_on}
use Rattle.dm_expand.proofs.WorkLemmas.{outward-nothing, outward-stops}
use Rattle.dm_expand.proofs.machine.expand_list.Goals as goal

pub expansions-init : goal.expansions-init
expansions-init c =
    let macros : Macros = macros_of c.args.macros.now in
    let progress : Progress = c.args.progress.now in
    let rest : Result Output Stop = expanded macros c.of-2.result progress in
    let start : Result Output Stop = tokens_before c.new.result.items rest in (
      [],
      c.new-put.ensures.items,
      ap (λ (xs : List Item). expanded macros xs progress) (sym (c.of-2.ensures ∙ c.in_ok-source.ensures))
          ∙ sym (tokens_before-nothing rest)
          ∙ ap (λ (xs : List Item). tokens_before xs rest) (sym c.new.ensures.items)
          ∙ sym (outward-nothing macros start)
          ∙ ap (λ (ws : List code_waiting.Waiting). outward macros ws start) (sym c.new-waiting.ensures.items)
          ∙ sym (tokens_before-nothing (outward macros c.new-waiting.result.items start)),
      follows_itself progress c.requires.spent,
      c.requires,
    )

pub expansions-preserved : goal.expansions-preserved
expansions-preserved c =
    let macros : Macros = macros_of c.args.macros.now in
    let progress : Progress = c.advance.new.progress in
    let waiting : List code_waiting.Waiting = c.advance.new.waiting.items in
    let before : List Item = c.expansions.invariant.0 in
    let more : List Item = c.in_ok-invocation.ensures.found.0 in
    let follows = follows_on _ _ _ c.expansions.invariant.3 c.in_ok-invocation.ensures.follows in (
      before ++ more,
      c.in_ok-invocation.ensures.found.1 ∙ ap (λ (xs : List Token). xs ++ map token_of more) c.expansions.invariant.1 ∙ sym (map-append token_of before more),
      c.expansions.invariant.2
          ∙ ap (tokens_before before)
          (c.in_ok-invocation.ensures.found.2
          ∙ ap (λ (found : Option code_invocation.Invocation). tokens_before more (outward macros waiting (found_on macros c.advance.new.level found progress))) c.in-Some.is
          ∙ ap (tokens_before more) c.in_ok-replace.ensures.ok)
          ∙ tokens_before-append before more _,
      follows_on _ _ _ follows c.in_ok-replace.ensures.follows,
      within_on _ _ (within_on _ _ c.expansions.invariant.4 c.in_ok-invocation.ensures.follows) c.in_ok-replace.ensures.follows,
    )

pub returns-in_err-replace-clause-stop : goal.returns-in_err-replace-clause-stop
returns-in_err-replace-clause-stop c =
    let macros : Macros = macros_of c.args.macros.now in
    let progress : Progress = c.advance.new.progress in
    let waiting : List code_waiting.Waiting = c.advance.new.waiting.items in
    let before : List Item = c.expansions.invariant.0 in
    let more : List Item = c.in_ok-invocation.ensures.found.0 in
    stops_handed_as c.from_residual-in_err-replace.result c.in_err-replace.field-0.0 (invoked_on macros c.advance.new.level c.in-Some.invocation progress) _ c.from_residual-in_err-replace.ensures.1
    (λ other is.
    c.expansions.invariant.2
    ∙ ap (tokens_before before)
    (c.in_ok-invocation.ensures.found.2
    ∙ ap (λ (found : Option code_invocation.Invocation). tokens_before more (outward macros waiting (found_on macros c.advance.new.level found progress))) c.in-Some.is
    ∙ ap (tokens_before more) (ap (outward macros waiting) is ∙ outward-stops macros waiting other)))
    c.in_err-replace.ensures.stop

pub returns-clause-ok : goal.returns-clause-ok
returns-clause-ok c =
    let macros : Macros = macros_of c.args.macros.now in
    let progress : Progress = c.advance.new.progress in
    let level : code_level.Level = c.advance.new.level in
    let waiting : List code_waiting.Waiting = c.advance.new.waiting.items in
    let before : List Item = c.expansions.invariant.0 in
    let more : List Item = c.in_ok-invocation.ensures.found.0 in
    let out : List Item = level.out.items in (
      (before ++ more) ++ out,
      c.in_ok-put_all.ensures.put
          ∙ ap (λ (xs : List Token). xs ++ map token_of out)
          (c.in_ok-invocation.ensures.found.1 ∙ ap (λ (xs : List Token). xs ++ map token_of more) c.expansions.invariant.1 ∙ sym (map-append token_of before more))
          ∙ sym (map-append token_of (before ++ more) out),
      c.expansions.invariant.2
          ∙ ap (tokens_before before)
          (c.in_ok-invocation.ensures.found.2
          ∙ ap (λ (found : Option code_invocation.Invocation). tokens_before more (outward macros waiting (found_on macros level found progress))) c.in_default.is
          ∙ ap (λ (ws : List code_waiting.Waiting). tokens_before more (outward macros ws (Ok (gives out progress)))) (subst (IsEnd waiting) c.in_default.is c.in_ok-invocation.ensures.end)
          ∙ ap (tokens_before more) (outward-nothing macros (Ok (gives out progress))))
          ∙ tokens_before-append before more (Ok (gives out progress)),
    )
