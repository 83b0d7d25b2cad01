-- The new object stands last, and its number has that place.
use Rattle.std.proofs.Common.{◌≡◌, ◌<◌, ◌∷◌, ◌++◌, [], Some, length, length-set, set, refl, rules, sym, subst, ◌∙◌}
use Rattle.dm_program.specs.Placing.{ArePlaced}
use Rattle.dm_program.specs.declared.fixed.Static.{Static}
use Rattle.dm_program.proofs.GatherLemmas.{placed-append}
use Rattle.dm_program.proofs.gathering.Gathering.append.Goals as goal

pub invariant_of-self-2 : goal.invariant_of-self-2
invariant_of-self-2 c =
    let self = c.args.self.now in
    let one : Static = record { declared = c.args.number; initial = c.args.initial } in
    let last : c.len-place.result ≡ length self.statics.items = search rules in
    let inside : c.args.number < length self.places.items = subst (λ n. c.args.number < n) (sym self.sized) c.requires.within in record {
      placed =
          subst (ArePlaced (set self.places.items c.args.number (Some c.len-place.result))) (sym c.in_ok-push.ensures.items)
          (subst (λ k. ArePlaced (set self.places.items c.args.number (Some k)) (self.statics.items ++ one ∷ [])) (sym last)
          (placed-append self.places.items self.statics.items c.args.number one refl inside c.requires.fresh self.placed));
      sized = length-set self.places.items c.args.number (Some c.len-place.result) ∙ self.sized;
    }
