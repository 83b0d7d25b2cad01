-- The places are linked from the last one on.
use Rattle.std.proofs.Common.{◌≡◌, ◌<◌, ◌+◌, ◌-◌, ℕ, length, Some, subst, refl, arith}
use Rattle.std.proofs.lemmas.Option.{slice_get_read}
use Rattle.dm_sites.specs.Links.{AreLinkedFrom}
use Rattle.dm_sites.proofs.SiteLemmas.{got}
use Rattle.dm_sites.proofs.links.link.Goals as goal

pub loop-number-preserved : goal.loop-number-preserved
loop-number-preserved c =
    let number = c.loop-number.number - 1 in
    let within : number < length c.args.found.now = let le = c.loop-number.invariant.0 in omega (arith, le) in
    let one_more : c.loop-number.number ≡ number + 1 = omega arith in (
      omega (arith, within),
      λ types all same.
          c.in_ok-link_one.ensures types all
          (got types all c.args.found.now same number (Some c.index-found-number.result) (slice_get_read c.args.found.now _ number c.index-found-number.result refl within c.index-found-number.is))
          (subst (λ (n : ℕ). AreLinkedFrom n all c.loop-number.heads.items c.loop-number.next.items) one_more (c.loop-number.invariant.1 types all same)),
    )
