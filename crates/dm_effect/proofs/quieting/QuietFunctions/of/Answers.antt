-- One more external declaration has entered.
use Rattle.std.proofs.Common.{◌≡◌, ℕ, max, List, [], ◌∷◌, ◌++◌, take, ◌+◌, ap, sym, subst, ◌∙◌}
use Rattle.std.proofs.lemmas.List.{take_more}
use Rattle.dm_tree.specs.declared.unit.CoreExternal.{CoreExternal}
use Rattle.dm_effect.specs.Tables.{end_of, AreSince, Enters}
use Rattle.dm_effect.proofs.TableLemmas.{end-behind, one-behind}
use Rattle.dm_effect.proofs.quieting.QuietFunctions.of.Goals as goal

pub loop-external-preserved : goal.loop-external-preserved
loop-external-preserved c =
    let externals : List CoreExternal = c.items-externals.result.now in
    let i : ℕ = c.loop-external.external-index in
    let last : CoreExternal = c.external-item.result in
    let front : List CoreExternal = take i externals in
    let whole : take (i + 1) externals ≡ front ++ last ∷ [] = take_more externals i last c.loop-external-test.true ∙ ap (λ (one : CoreExternal). front ++ one ∷ []) (sym c.external-item.is) in
    let token : c.later-end.result ≡ max (end_of front) last.span.after = c.later-end.ensures ∙ ap (λ (end : ℕ). max end last.span.after) c.loop-external.invariant.0 in (
      token ∙ sym (ap end_of whole ∙ end-behind front last),
      subst (λ (them : List CoreExternal). AreSince them c.enter.new.since.items) (sym whole)
          (one-behind front last c.loop-external.since.items c.enter.new.since.items c.loop-external.invariant.1
          (subst (λ (token : ℕ). Enters c.loop-external.since.items token last c.enter.new.since.items) token c.in_ok-enter.ensures)),
    )
