use Rattle.std.proofs.Common.{◌≡◌, ℕ, ◌+◌, ◌<◌, Bool, true, ◌&&◌, nat_lt, List, Some, length, slice_get, refl, sym, ap, subst, ◌∙◌, arith}
use Rattle.std.proofs.lemmas.Option.{slice_get_read}
use Rattle.dm_token.specs.declared.token.CToken.{CToken}
use Rattle.dm_runs.specs.declared.stand.Stand.{Stand}
use Rattle.dm_runs.specs.Beginnings.{begins}
use Rattle.dm_runs.specs.Runs.{is_behind, is_later, part_by}
use Rattle.dm_runs.proofs.ReachLemmas.{Reached, reach-nothing, reach-next, none-before}
use Rattle.dm_runs.proofs.reach.reach_of.Goals as goal

pub loop-position-init : goal.loop-position-init
loop-position-init c =
    let stand = c.args.stand.now in
    let run = c.args.run in
    let tokens : List CToken = c.args.tokens.now in
    let prefix = c.args.prefix.now in (
      c.requires.ordered,
      subst (λ (items : List ℕ). Reached (is_later stand.names.now stand.definition.now prefix) tokens run.first run.first 0 items) (sym c.new-reach.ensures.items)
          (reach-nothing (is_later stand.names.now stand.definition.now prefix) tokens run.first (λ at j token lt got. none-before stand.names.now tokens stand.definition.now prefix run at c.requires.under j token lt got)),
    )

pub loop-position-preserved : goal.loop-position-preserved
loop-position-preserved c =
    let stand = c.args.stand.now in
    let run = c.args.run in
    let tokens : List CToken = c.args.tokens.now in
    let prefix = c.args.prefix.now in
    let k = c.loop-position.position in
    let token : CToken = c.index-tokens-position.result in
    let below : k < run.after = c.loop-position-test.true in
    let inside : k < length tokens = omega (arith, below, c.requires.inside) in
    let here : slice_get tokens k ≡ Some token = slice_get_read tokens (length tokens) k token refl inside c.index-tokens-position.is in
    let begun : begins prefix token.trail ≡ true = c.requires.under.all k token here c.loop-position.auto.position below in
    let passes : (at : ℕ) → nat_lt at c.part_of-part.result ≡ is_later stand.names.now stand.definition.now prefix at token = λ at.
    c.part_of-part.ensures at
    ∙ ap (λ (s : Stand). is_behind at (part_by s.names.now s.definition.now token.place (slice_get token.trail c.length-outer.result))) c.in_ok-origins.ensures
    ∙ ap (λ (n : ℕ). is_behind at (part_by stand.names.now stand.definition.now token.place (slice_get token.trail n))) c.length-outer.ensures
    ∙ sym (ap (λ (b : Bool). b && is_behind at (part_by stand.names.now stand.definition.now token.place (slice_get token.trail (length prefix)))) begun) in (
      omega (arith, below),
      reach-next (is_later stand.names.now stand.definition.now prefix) tokens run.first k c.loop-position.last c.part_of-part.result c.loop-position.reach.items token c.loop-position.invariant.1 here passes
          c.max-last.result c.max-last.ensures c.push.new.self.items c.in_ok-push.ensures.items (k + 1) refl,
    )

pub returns-clause-reached : goal.returns-clause-reached
returns-clause-reached c = c.loop-position.invariant.1.all

pub returns-clause-count : goal.returns-clause-count
returns-clause-count c =
    let low = c.loop-position.invariant.0 in
    let high = c.loop-position-test.false in
    let count = c.loop-position.invariant.1.count in
    omega (arith, low, high, count)
