-- One initialiser after another.
use Rattle.std.proofs.Common.{rules, ◌↔◌, ap, refl, sym, subst, arith}
use denote.Param.Weighed.{most}
use Rattle.dm_tree.specs.declared.tree.Initial.{size-Initial}
use Rattle.dm_agree.proofs.InitialLemmas.{braces-same}
use Rattle.dm_agree.proofs.StepLemmas.{through, too-long, differs, goes-on, at-end, SameItems, SameInitial, items-more, items-short, items-long}
use Rattle.dm_agree.proofs.initial.+initials.Goals as goal

pub are_same_initials-returns-in_default-split_first : goal.are_same_initials-returns-in_default-split_first
are_same_initials-returns-in_default-split_first t c a b =
    too-long (SameItems a b) (SameInitial a b) refl (items-more a b) (items-short a b) (items-long a b)
    c.args.new.now c.loop-initial.left.now c.args.old.now c.loop-initial.others.now (c.loop-initial.invariant.1 a b) c.in-Some.initial.now c.in-Some.rest.now c.in-Some.ensures.cases.0 (search rules)

pub are_same_initials-returns-then-not-is_same_initial : goal.are_same_initials-returns-then-not-is_same_initial
are_same_initials-returns-then-not-is_same_initial t c a b =
    differs (SameItems a b) (SameInitial a b) refl (items-more a b) (items-short a b) (items-long a b)
    c.args.new.now c.loop-initial.left.now c.args.old.now c.loop-initial.others.now (c.loop-initial.invariant.1 a b) c.in-Some.initial.now c.in-Some.rest.now
    c.in-Some-split_first.other.now c.in-Some-split_first.behind.now c.in-Some.ensures.cases.0 c.in-Some-split_first.ensures.cases.0
    c.is_same_initial.result (c.is_same_initial.ensures a b) c.if-not-is_same_initial.true

pub are_same_initials-loop-initial-preserved : goal.are_same_initials-loop-initial-preserved
are_same_initials-loop-initial-preserved t c =
    let deep = ap (most size-Initial) c.in-Some.ensures.cases.0 in
    let below = c.loop-initial.invariant.0 in (
      omega (arith, deep, below),
      λ a b.
          goes-on (SameItems a b) (SameInitial a b) refl (items-more a b) (items-short a b) (items-long a b)
          c.args.new.now c.loop-initial.left.now c.args.old.now c.loop-initial.others.now (c.loop-initial.invariant.1 a b) c.in-Some.initial.now c.in-Some.rest.now
          c.in-Some-split_first.other.now c.in-Some-split_first.behind.now c.in-Some.ensures.cases.0 c.in-Some-split_first.ensures.cases.0
          c.is_same_initial.result (c.is_same_initial.ensures a b) c.if-not-is_same_initial.false,
    )

pub are_same_initials-returns : goal.are_same_initials-returns
are_same_initials-returns t c a b =
    at-end (SameItems a b) (SameInitial a b) refl (items-more a b) (items-short a b) (items-long a b)
    c.args.new.now c.loop-initial.left.now c.args.old.now c.loop-initial.others.now (c.loop-initial.invariant.1 a b) (search rules) c.is_empty.result (search rules)

pub is_same_initial-returns-in-Parts-Parts : goal.is_same_initial-returns-in-Parts-Parts
is_same_initial-returns-in-Parts-Parts t c a b =
    let here = c.in-Parts-Parts in
    through (c.are_same_initials.ensures a b)
    (subst (λ list. SameItems a b list c.items-in-Parts-Parts.result.now ↔ SameInitial a b c.args.new.now c.args.old.now) (sym c.items.ensures)
    (subst (λ others. SameItems a b here.list others ↔ SameInitial a b c.args.new.now c.args.old.now) (sym c.items-in-Parts-Parts.ensures)
    (braces-same a b c.args.new.now c.args.old.now here.list here.others here.is-0 here.is-1)))
