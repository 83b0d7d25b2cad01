use Rattle.std.proofs.Common.{List, map, length, ap, ◌∙◌, sym, subst, arith}
use Rattle.std.proofs.lemmas.List.{with_items_is}
use Rattle.dm_token.specs.declared.expansion.Expansion.{Expansion}
use Rattle.dm_expand.specs.Steps.{Progress, take_argument, taken_by}
use Rattle.dm_expand.specs.Laws.{AreNumbered}
use Rattle.dm_expand.proofs.ProgressLemmas.{taken-numbered}
use Rattle.dm_expand.proofs.ListLemmas.{length_map}
use Rattle.dm_expand.proofs.progress.Progress.take.Goals as goal

pub returns : goal.returns
unfolding take_argument
returns c =
    let with_expansions : List Expansion → Progress = λ es. record { instance = c.self.inside.instance; spent = c.self.inside.spent; expansions = es } in
    let kept = with_items_is c.self.inside.expansions c.take_in.new.expansions (omega (arith, ap length c.take_in.ensures, length_map (taken_by c.args.argument.now) c.as_mut_slice.result.now, c.as_mut_slice.ensures.len)) in
    ap with_expansions (kept ∙ c.take_in.ensures ∙ ap (map (taken_by c.args.argument.now)) c.as_mut_slice.ensures.value)
    ∙ ap (λ (p : Progress). take_argument c.args.argument.now p) c.self.view_is

pub invariant_of-self : goal.invariant_of-self
invariant_of-self c =
    let kept = with_items_is c.self.inside.expansions c.take_in.new.expansions (omega (arith, ap length c.take_in.ensures, length_map (taken_by c.args.argument.now) c.as_mut_slice.result.now, c.as_mut_slice.ensures.len)) in
    subst (λ (es : List Expansion). AreNumbered c.self.inside.first es c.self.inside.instance) (sym (kept ∙ c.take_in.ensures ∙ ap (map (taken_by c.args.argument.now)) c.as_mut_slice.ensures.value))
    (taken-numbered c.args.argument.now c.self.inside.first c.self.inside.expansions.items c.self.inside.instance c.self.invariant)
