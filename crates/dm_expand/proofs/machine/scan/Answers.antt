use Rattle.std.proofs.Common.{◌≡◌, ◌∷◌, ◌++◌, List, Option, Ok, ap, ◌∙◌, sym}
use Rattle.std.proofs.lemmas.List.{append-nil}
use Rattle.dm_expand.specs.declared.head.Invocation as code_invocation
use Rattle.dm_expand.specs.declared.machine.Level as code_level
use Rattle.dm_expand.specs.Items.{Item}
use Rattle.dm_expand.specs.Steps.{Progress}
use Rattle.dm_expand.specs.Expansion as expansion
use Rattle.dm_expand.specs.HeadViews.{macros_of}
use Rattle.dm_expand.specs.ListViews.{gives, tokens_before}
use Rattle.dm_expand.specs.Works.{passed_on, found_on, scanned_on}
use Rattle.dm_expand.proofs.ArgumentLemmas.{next-is, next-nothing}
use Rattle.dm_expand.proofs.ProgressLemmas.{expanded-nothing}
use Rattle.dm_expand.proofs.SubstitutionLemmas.{tokens_before-append}
use Rattle.dm_macro.proofs.NamedLemmas.{not_some}
use Rattle.dm_expand.proofs.WorkLemmas.{passed-put, passed_on-found, put-more}
use Rattle.dm_expand.proofs.machine.scan.Goals as goal

pub returns-then-is_some-clause-found : goal.returns-then-is_some-clause-found
returns-then-is_some-clause-found c =
    let macros : expansion.Macros = macros_of c.args.macros.now in
    let progress : Progress = c.args.progress.now in
    let after : code_level.Level = c.put_some.new.level in
    let found : Option code_invocation.Invocation = c.in_ok-found.found in
    let before : List Item = c.tokens.invariant.0 in
    let more : List Item = c.in_ok-put_some.ensures.0 in
    let next : c.tokens.level.rest ≡ c.in-Some.item ∷ c.next.new.self = next-is c.in_ok-item.field-0 c.in-Some.item c.tokens.level.rest c.next.new.self c.in_ok-item.ensures.next c.in-Some.is in (
      before ++ more,
      put-more c.args.outermost c.args.put.now.items c.tokens.put.items c.put_some.new.put.items before more c.tokens.invariant.1 c.in_ok-put_some.ensures.1,
      c.tokens.invariant.2
          ∙ ap (tokens_before before)
          (ap (λ (xs : List Item). tokens_before c.tokens.level.out.items (expansion.expanded macros xs progress)) next
          ∙ c.in_ok-found.ensures.found
          ∙ passed-put macros c.scan_next.new.level after found progress more c.in_ok-put_some.ensures.2 c.in_ok-put_some.ensures.3
          ∙ ap (tokens_before more) (passed_on-found macros after found progress (sym c.if-is_some.ensures)))
          ∙ tokens_before-append before more (found_on macros after found progress),
    )

pub tokens-preserved : goal.tokens-preserved
tokens-preserved c =
    let macros : expansion.Macros = macros_of c.args.macros.now in
    let progress : Progress = c.args.progress.now in
    let after : code_level.Level = c.put_some.new.level in
    let found : Option code_invocation.Invocation = c.in_ok-found.found in
    let before : List Item = c.tokens.invariant.0 in
    let more : List Item = c.in_ok-put_some.ensures.0 in
    let next : c.tokens.level.rest ≡ c.in-Some.item ∷ c.next.new.self = next-is c.in_ok-item.field-0 c.in-Some.item c.tokens.level.rest c.next.new.self c.in_ok-item.ensures.next c.in-Some.is in (
      before ++ more,
      put-more c.args.outermost c.args.put.now.items c.tokens.put.items c.put_some.new.put.items before more c.tokens.invariant.1 c.in_ok-put_some.ensures.1,
      c.tokens.invariant.2
          ∙ ap (tokens_before before)
          (ap (λ (xs : List Item). tokens_before c.tokens.level.out.items (expansion.expanded macros xs progress)) next
          ∙ c.in_ok-found.ensures.found
          ∙ passed-put macros c.scan_next.new.level after found progress more c.in_ok-put_some.ensures.2 c.in_ok-put_some.ensures.3
          ∙ ap (λ (f : Option code_invocation.Invocation). tokens_before more (passed_on macros after f progress)) (not_some found (sym c.if-is_some.ensures)))
          ∙ tokens_before-append before more (scanned_on macros after progress),
    )

pub returns-clause-found : goal.returns-clause-found
returns-clause-found c =
    let macros : expansion.Macros = macros_of c.args.macros.now in
    let out : List Item = c.tokens.level.out.items in
    let progress : Progress = c.args.progress.now in (
      c.tokens.invariant.0,
      c.tokens.invariant.1,
      c.tokens.invariant.2
          ∙ ap (tokens_before c.tokens.invariant.0)
          (ap (λ (xs : List Item). tokens_before out (expansion.expanded macros xs progress)) (next-nothing c.in_ok-item.field-0 c.tokens.level.rest c.next.new.self c.in_ok-item.ensures.next c.in_default.is).0
          ∙ ap (tokens_before out) (expanded-nothing macros progress)
          ∙ ap (λ (xs : List Item). Ok (gives xs progress)) (append-nil out)),
    )
