-- A definition and the `#undef`s before it are the first of those to come.
use Rattle.std.proofs.Common.{◌≤◌, ◌+◌, ◌-◌, ◌++◌, drop, length, nat_le, ap, subst, ◌∙◌, arith}
use Rattle.std.specs.List.{prefix_len}
use Rattle.dm_mentions.specs.Mentions as mentions
use Rattle.dm_mentions.specs.Mentions.{undefined_from}
use Rattle.dm_mentions.proofs.EventLemmas.{one-more, at-the-end}
use Rattle.dm_mentions.proofs.events.events.Goals as goal

pub loop-number-preserved : goal.loop-number-preserved
loop-number-preserved c =
    let pp = c.args.pp.now in
    let counts = pp.read_before_undefined in
    let undefined = c.loop-number.undefined in
    let end = c.end_of_undefined-end.result in (
      subst (λ all. end ≤ length all) c.items-counts.ensures c.end_of_undefined-end.ensures.within,
      one-more c.loop-number.found.items pp.read counts (mentions.events pp) c.loop-number.number undefined c.loop-number.invariant.1
          c.add_undefined.new.events.items c.push.new.self.items end (omega (arith, c.loop-number-test.true, c.len-number-end.ensures, c.len.ensures))
          (c.end_of_undefined-end.ensures.end ∙ ap (λ all. undefined + prefix_len (λ count. nat_le count c.loop-number.number) (drop undefined all)) c.items-counts.ensures)
          c.in_ok-add_undefined.ensures c.in_ok-push.ensures.items,
    )

pub returns : goal.returns
returns c =
    let pp = c.args.pp.now in
    let found = c.loop-number.found.items in
    let undefined = c.loop-number.undefined in
    at-the-end found pp.read pp.read_before_undefined (mentions.events pp) c.loop-number.number undefined c.loop-number.invariant.1
    c.add_undefined-2.new.events.items (omega (arith, c.loop-number-test.false, c.len-number-end.ensures, c.len.ensures))
    (c.in_ok-add_undefined-2.ensures ∙ ap (λ all. found ++ undefined_from undefined (length all - undefined)) c.items-counts.ensures)
