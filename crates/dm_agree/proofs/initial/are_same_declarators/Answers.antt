-- One declarator after another.
use Rattle.std.proofs.Common.{rules, refl}
use Rattle.dm_agree.proofs.StepLemmas.{too-long, differs, goes-on, at-end, SameDeclarators, SameDeclarator, declarators-more, declarators-short, declarators-long}
use Rattle.dm_agree.proofs.initial.are_same_declarators.Goals as goal

pub returns-in_default-split_first : goal.returns-in_default-split_first
returns-in_default-split_first c a b =
    let block = c.args.block in
    too-long (SameDeclarators a b block) (SameDeclarator a b block) refl (declarators-more a b block) (declarators-short a b block) (declarators-long a b block)
    c.args.new.now c.loop-local.left.now c.args.old.now c.loop-local.others.now (c.loop-local.invariant a b) c.in-Some.local.now c.in-Some.rest.now c.in-Some.ensures.cases.0 (search rules)

pub returns-then-not-is_same_declarator : goal.returns-then-not-is_same_declarator
returns-then-not-is_same_declarator c a b =
    let block = c.args.block in
    differs (SameDeclarators a b block) (SameDeclarator a b block) refl (declarators-more a b block) (declarators-short a b block) (declarators-long a b block)
    c.args.new.now c.loop-local.left.now c.args.old.now c.loop-local.others.now (c.loop-local.invariant a b) c.in-Some.local.now c.in-Some.rest.now
    c.in-Some-split_first.other.now c.in-Some-split_first.behind.now c.in-Some.ensures.cases.0 c.in-Some-split_first.ensures.cases.0
    c.is_same_declarator.result (c.is_same_declarator.ensures a b) c.if-not-is_same_declarator.true

pub loop-local-preserved : goal.loop-local-preserved
loop-local-preserved c a b =
    let block = c.args.block in
    goes-on (SameDeclarators a b block) (SameDeclarator a b block) refl (declarators-more a b block) (declarators-short a b block) (declarators-long a b block)
    c.args.new.now c.loop-local.left.now c.args.old.now c.loop-local.others.now (c.loop-local.invariant a b) c.in-Some.local.now c.in-Some.rest.now
    c.in-Some-split_first.other.now c.in-Some-split_first.behind.now c.in-Some.ensures.cases.0 c.in-Some-split_first.ensures.cases.0
    c.is_same_declarator.result (c.is_same_declarator.ensures a b) c.if-not-is_same_declarator.false

pub returns : goal.returns
returns c a b =
    let block = c.args.block in
    at-end (SameDeclarators a b block) (SameDeclarator a b block) refl (declarators-more a b block) (declarators-short a b block) (declarators-long a b block)
    c.args.new.now c.loop-local.left.now c.args.old.now c.loop-local.others.now (c.loop-local.invariant a b) (search rules) c.is_empty.result (search rules)
