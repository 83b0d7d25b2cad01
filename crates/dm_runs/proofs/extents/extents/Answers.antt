use Rattle.std.proofs.Common.{◌≡◌, ◌+◌, ◌-◌, List, [], ◌∷◌, ◌++◌, length, map, take, fold, replicate, get_or, Option, None, refl, sym, ap, ◌∙◌, subst, arith, vec_len}
use Rattle.std.specs.List.{flat_map}
use Rattle.std.proofs.lemmas.Option.{slice_get_within}
use Rattle.std.proofs.lemmas.List.{take_more, length-take-le, length-map, take_at, take_all}
use Rattle.std.proofs.lemmas.Simd.{splat_is_map}
use Rattle.dm_token.specs.declared.expansion.Mark.{Mark}
use Rattle.dm_token.specs.declared.token.CToken.{CToken}
use Rattle.dm_runs.specs.declared.extents.Extent.{Extent}
use Rattle.dm_runs.specs.Beginnings.{beginnings_of, once_more}
use Rattle.dm_runs.specs.Extents.{extended_at}
use Rattle.dm_runs.proofs.GrowthLemmas.{Covers, no-numbers}
use Rattle.dm_runs.proofs.ExtentLemmas.{extent_in, trails_of, flat-fold, extents-step, covers-more}
use Rattle.dm_runs.proofs.extents.extents.Goals as goal

pub extend_all-requires-clause-within : goal.extend_all-requires-clause-within
extend_all-requires-clause-within c = λ i inside.
    let are = c.in_ok-path.ensures.numbers in
    let numbers = c.in_ok-path.path.numbers.items in
    let known = are.known i (omega (arith, inside, c.deref.ensures.len, ap length c.deref.ensures.value)) in
    let within = slice_get_within c.walk.new.self.trails.items (get_or numbers i 0) (take i c.index-tokens-position.result.trail) known in
    omega (arith, within, ap (λ ns. get_or ns i 0) c.deref.ensures.value, c.deref_mut.ensures.len, c.in_ok-resize-2.ensures.len, c.len-in-loop-position.ensures, c.walk.new.self.trails.ok.0, c.resize-in-loop-position.new.self.ok.0)

pub loop-position-preserved : goal.loop-position-preserved
loop-position-preserved c =
    let inv = c.loop-position.invariant in
    let p = c.loop-position.position in
    let all = c.args.tokens.now in
    let tokens : List CToken = take p all in
    let token : CToken = c.index-tokens-position.result in
    let found = c.loop-position.beginnings.trails.items in
    let whole = c.walk.new.self.trails.items in
    let walked = c.in_ok-path.ensures in
    let count : length tokens ≡ p = length-take-le p all (omega (arith, c.loop-position-test.true)) in
    let more : tokens ++ token ∷ [] ≡ take (p + 1) all = ap (λ (t : CToken). tokens ++ t ∷ []) c.index-tokens-position.is ∙ sym (take_more all p token c.loop-position-test.true) in
    let n = c.len-in-loop-position.result in
    let old = c.loop-position.extents in
    let seen : List Mark → Option Extent = extent_in tokens in
    let numbers = c.in_ok-path.path.numbers.items in
    let size : n ≡ length whole = omega (arith, c.len-in-loop-position.ensures, c.walk.new.self.trails.ok.0) in
    let before : vec_len old ≡ length (map seen found) = omega (arith, old.ok.0, ap length inv.extents) in
    let resized : c.deref_mut.result.now ≡ take (length whole) (map seen found) ++ replicate (length whole - length (map seen found)) None =
    c.deref_mut.ensures.value ∙ c.in_ok-resize-2.ensures.items ∙ ap (λ m. take m old.items ++ replicate (m - vec_len old) None) size
    ∙ ap (λ (es : List (Option Extent)). take (length whole) es ++ replicate (length whole - vec_len old) None) inv.extents
    ∙ ap (λ m. take (length whole) (map seen found) ++ replicate (length whole - m) None) before in
    let after : c.extend_all.new.extents ≡ map (extent_in (take (p + 1) all)) whole =
    c.extend_all.ensures ∙ ap (λ es. fold (extended_at p) es c.deref.result.now) resized
    ∙ ap (fold (extended_at p) (take (length whole) (map seen found) ++ replicate (length whole - length (map seen found)) None)) c.deref.ensures.value
    ∙ ap (λ m. fold (extended_at m) (take (length whole) (map seen found) ++ replicate (length whole - length (map seen found)) None) numbers) (sym count)
    ∙ extents-step found whole tokens token numbers walked.linked.apart walked.trails inv.covers walked.numbers
    ∙ ap (λ (ts : List CToken). map (extent_in ts) whole) more in
    record {
      linked = walked.linked;
      trails = walked.trails ∙ ap (λ ts. fold once_more ts (beginnings_of token.trail)) inv.trails
          ∙ flat-fold (λ (one : CToken). beginnings_of one.trail) c.args.beginnings.now.trails.items tokens token
          ∙ ap (λ (ts : List CToken). fold once_more c.args.beginnings.now.trails.items (flat_map (λ (one : CToken). beginnings_of one.trail) ts)) more;
      covers = subst (λ (ts : List CToken). Covers whole (trails_of ts)) more (covers-more found whole tokens token inv.linked.root walked.trails inv.covers);
      path = walked.path;
      extents = take_at c.extend_all.new.extents _ _ (omega (arith, ap length after, length-map whole (extent_in (take (p + 1) all)), size, c.in_ok-resize-2.ensures.len)) ∙ after;
    }

pub loop-position-init : goal.loop-position-init
loop-position-init c =
    let found = c.args.beginnings.now.trails.items in
    let n = c.len.result in
    let size : n ≡ length found = omega (arith, c.len.ensures, c.args.beginnings.now.trails.ok.0) in
    record {
      linked = c.requires.linked;
      trails = refl;
      covers = λ p k t e h. cc;
      path = no-numbers (λ trail. trail.now) c.new-path.result.trail found c.new-path.result.numbers.items c.new-path.ensures;
      extents = c.in_ok-resize.ensures.items ∙ ap (λ (es : List (Option Extent)). take n es ++ replicate (n - vec_len c.new-extents.result) None) c.new-extents.ensures.items
          ∙ ap (λ (es : List (Option Extent)). es ++ replicate (n - vec_len c.new-extents.result) None) (take_all n [] (omega arith)) ∙ ap (λ m. replicate m None) (omega (arith, c.new-extents.ensures.len)) ∙ splat_is_map found n None (sym size);
    }

pub returns-clause-shape : goal.returns-clause-shape
returns-clause-shape c =
    let all = c.args.tokens.now in
    let whole = c.loop-position.beginnings.trails.items in
    let inv = c.loop-position.invariant in
    let every : take c.loop-position.position all ≡ all = take_all c.loop-position.position all c.loop-position-test.false in
    record {
      linked = inv.linked;
      covers = subst (λ (ts : List CToken). Covers whole (trails_of ts)) every inv.covers;
      are = inv.extents ∙ ap (λ (ts : List CToken). map (extent_in ts) whole) every;
    }
