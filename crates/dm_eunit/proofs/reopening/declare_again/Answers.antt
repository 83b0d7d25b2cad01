-- The names in turn.
use Rattle.std.specs.Prelude.{true, ◌≡◌, ◌+◌, drop, slice_get}
use Rattle.std.proofs.Common.{sym, ap, ◌∙◌, subst}
use Rattle.std.proofs.lemmas.List.Elements.{All-cons}
use Rattle.dm_eexpr.proofs.LoopLemmas.{cut}
use Rattle.dm_eunit.specs.declared.naming.Numbered.{Numbered}
use Rattle.dm_eunit.specs.Naming.{with_name, with_names}
use Rattle.dm_eunit.specs.Reopening.{is_unlinked, AreUnlinked}
use Rattle.dm_eunit.proofs.ReopeningLemmas.{same-on}
use Rattle.dm_eunit.proofs.reopening.declare_again.Goals as goal

pub loop-one-preserved : goal.loop-one-preserved
loop-one-preserved c =
    let i = c.loop-one.one-index in
    let names = c.args.names.now in
    let one = c.one-item.result in
    let rest = cut names i one c.loop-one-test.true c.one-item.is in
    let P : Numbered → Type 0 = λ it. is_unlinked (slice_get c.args.known.now.declared it.number) ≡ true in (
      λ scope outer e.
          let now = c.loop-one.invariant.0 scope outer e in
          (with_name now.0 one, c.in_ok-declare_one.ensures.scopes now.0 outer now.1, sym (ap (with_names now.0) rest) ∙ now.2),
      same-on c.args.known.now c.loop-one.known c.declare_one.new.known c.loop-one.invariant.1 c.in_ok-declare_one.ensures.rest,
      λ others. c.loop-one.invariant.2 (subst (AreUnlinked c.args.known.now.declared) (sym rest) (All-cons P one (drop (i + 1) names)
          (ap (λ entries. is_unlinked (slice_get entries one.number)) (sym c.loop-one.invariant.1.declared) ∙ c.in_ok-declare_one.ensures.unlinked) others)),
    )
