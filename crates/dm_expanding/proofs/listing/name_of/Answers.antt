-- The first of what is left decides.
use Rattle.std.proofs.Common.{◌∙◌, sym, arith, rules}
use Rattle.dm_expanding.proofs.ListingSteps.{agrees-others, name_of-first, name_of-none, name_of-others}
use Rattle.dm_expanding.proofs.listing.name_of.Goals as goal

pub returns-then-first-instance-clause-place : goal.returns-then-first-instance-clause-place
returns-then-first-instance-clause-place c =
    sym (name_of-first c.args.instance c.search.rest.now c.in-Some.first.now c.in-Some.others.now c.args.other c.in-Some.ensures.cases.0 c.if-first-instance.true)
    ∙ c.search.invariant.here

pub search-preserved : goal.search-preserved
search-preserved c = record {
  agrees = agrees-others c.args.expansions.now c.search.rest.now c.in-Some.first.now c.in-Some.others.now c.search.least c.max-least.result c.in-Some.ensures.cases.0 c.search.invariant.agrees
      (omega arith) (omega arith);
  here =
      name_of-others c.args.instance c.search.rest.now c.in-Some.first.now c.in-Some.others.now c.args.other c.in-Some.ensures.cases.0 c.if-first-instance.false
      ∙ c.search.invariant.here;
}

pub returns-clause-place : goal.returns-clause-place
returns-clause-place c = sym (name_of-none c.args.instance c.search.rest.now c.args.other (search rules)) ∙ c.search.invariant.here
