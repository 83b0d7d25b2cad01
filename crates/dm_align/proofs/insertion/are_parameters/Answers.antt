-- One number after another, from the last one on.
use Rattle.std.proofs.Common.{rules, ◌≡◌, ◌≤◌, ◌<◌, ◌+◌, ℕ, Bool, true, false, not, nat_eq, refl, sym, ap, ◌∙◌}
use Rattle.std.proofs.lemmas.Bool.{false≢true}
use Rattle.std.specs.HashSet.{contains}
use Rattle.dm_align.specs.declared.insertion.Inserted.{Inserted}
use Rattle.dm_align.proofs.ParameterLemmas.{not-put, twice, one-more-seen}
use Rattle.dm_align.proofs.insertion.are_parameters.Goals as goal

abbrev Put : Inserted → ℕ → Type 0
Put it number = (it.first ≤ number) × (number < it.first + it.count)

again : (b : Bool) → b ≡ not (not b)
again true = refl
again false = refl

pub returns-then-not-is_put : goal.returns-then-not-is_put
returns-then-not-is_put c =
    let seen = c.loop-number.invariant in
    not-put (Put c.args.it.now) c.args.numbers.now c.loop-number.left.now c.in-Some.before.now seen.done c.in-Some.number.now seen.split (search rules)
    (λ put. false≢true (sym c.if-not-is_put.true ∙ c.is_put.ensures.1 put))

pub returns-then-not-branch : goal.returns-then-not-branch
returns-then-not-branch c =
    let seen = c.loop-number.invariant in
    twice (Put c.args.it.now) c.args.numbers.now c.loop-number.left.now c.in-Some.before.now seen.done c.in-Some.number.now seen.split (search rules)
    (sym (seen.same c.in-Some.number.now) ∙ (again _ ∙ ap not (sym c.in_ok-insert.ensures.added ∙ c.if-not-branch.true)))

pub loop-number-preserved : goal.loop-number-preserved
loop-number-preserved c =
    one-more-seen (Put c.args.it.now) c.args.numbers.now c.loop-number.left.now c.in-Some.before.now c.in-Some.number.now (contains nat_eq c.loop-number.seen) (contains nat_eq c.insert.new.self)
    c.loop-number.invariant (search rules) (c.is_put.ensures.0 c.if-not-is_put.false)
    (again _ ∙ ap not (sym c.in_ok-insert.ensures.added ∙ c.if-not-branch.false)) c.in_ok-insert.ensures.updates.0
