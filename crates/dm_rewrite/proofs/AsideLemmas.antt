-- The evaluation of a tree that the program hasn't begun, followed on the side: what it comes to the tree comes to, and where it is undefined the
-- tree is.
use Rattle.std.specs.Prelude.{◌≡◌, refl, ◌⊎◌, ℕ, zero, suc, List, [], Option, Some, None}
use Rattle.std.proofs.Common.{true≢false, ap, sym, ◌∙◌, subst, inl, inr}
use Rattle.dm_meaning.specs.Among.{IsAmong}
use Rattle.dm_meaning.specs.Values.{At}
use Rattle.dm_meaning.specs.Operations.{World, Scene}
use Rattle.dm_meaning.specs.Running.{Run, done, Hole, here, within, Holes, in_first, in_others, filled_in, all_filled_in, IsOpen}
use Rattle.dm_meaning.specs.Expressions.{Move, goes, calls, fails, exits, kind_of_run, moves}
use Rattle.dm_rewrite.specs.Aside.{Claims, Follows, AsideFits, IsForeseen}
use Rattle.dm_rewrite.specs.Computed.{Computed, computed, IsPure, ArePure}
use Rattle.dm_rewrite.specs.KeptMemory.{HasSameObjects, KeepsPlaces}
use Rattle.dm_rewrite.specs.PureSteps.{Meets, StepKeeps}
use Rattle.dm_meaning.proofs.MoveLemmas.{move_lifts}
use Rattle.dm_rewrite.proofs.ComputedKeptLemmas.{kept_computation}
use Rattle.dm_rewrite.proofs.ComputedLemmas.{computed_step}
use Rattle.dm_rewrite.proofs.SettleLemmas.{went, failed, Beside, FailsBeside, ComesTo, settles, leads_on, Left, step_left, steps_left, undefined_meets}

-- ---- parts of trees that neither store nor call

mutual
  pub filled_pure : (hole : Hole) (a b : Run) → IsPure (filled_in hole a) → IsPure b → IsPure (filled_in hole b)
  filled_pure here a b h k = k
  filled_pure (within doing kind place holes) a b h k = (h.0, all_filled_pure holes a b h.1 k)

  all_filled_pure : (holes : Holes) (a b : Run) → ArePure (all_filled_in holes a) → IsPure b → ArePure (all_filled_in holes b)
  all_filled_pure (in_first hole rest) a b h k = (filled_pure hole a b h.0 k, h.1)
  all_filled_pure (in_others first holes) a b h k = (h.0, all_filled_pure holes a b h.1 k)

mutual
  pub part_pure : (hole : Hole) (run : Run) → IsPure (filled_in hole run) → IsPure run
  part_pure here run h = h
  part_pure (within doing kind place holes) run h = part_pure_in holes run h.1

  part_pure_in : (holes : Holes) (run : Run) → ArePure (all_filled_in holes run) → IsPure run
  part_pure_in (in_first hole rest) run h = part_pure hole run h.0
  part_pure_in (in_others first holes) run h = part_pure_in holes run h.1

module _ (scene : Scene) (world : World) where
  -- ---- inside a tree

  steps_inside : (locks : List At) (hole : Hole) → IsOpen hole → (n : ℕ) (a b : Run) → IsPure (filled_in hole a) → Beside scene world locks n a b
      → Beside scene world locks n (filled_in hole a) (filled_in hole b)
  steps_inside locks hole o zero a b pure e = ap (filled_in hole) e
  steps_inside locks hole o (suc n) a b pure (middle, pure_later, k, more) =
      let whole = filled_pure hole a middle pure pure_later in
      (filled_in hole middle, whole, move_lifts scene world locks hole a (went world middle) o k, steps_inside locks hole o n middle b whole more)

  pub fails_inside : (locks : List At) (hole : Hole) → IsOpen hole → (run : Run) → IsPure (filled_in hole run) → FailsBeside scene world locks run
      → FailsBeside scene world locks (filled_in hole run)
  fails_inside locks hole o run pure h = record {
    count = h.count;
    last = filled_in hole h.last;
    steps = steps_inside locks hole o h.count run h.last pure h.steps;
    cause = h.cause;
    place = h.place;
    fails = move_lifts scene world locks hole h.last (failed h.cause h.place) o h.fails;
  }

  -- a part that may be evaluated comes to something where the whole does, and the whole comes to the same with the part's result in its place
  record IsPartOf (hole : Hole) (run : Run) (was : Computed) : Type 0 where
    part : Computed
    is : computed scene world run ≡ Some part
    filled : Left scene world (filled_in hole (done (kind_of_run run) part.result [])) was

  part_of : (hole : Hole) → IsOpen hole → (run : Run) → IsPure (filled_in hole run) → (was : Computed)
      → computed scene world (filled_in hole run) ≡ Some was → IsPartOf hole run was
  part_of hole o run pure was e = by_either (settles scene world [] run (part_pure hole run pure))
    where
      by_either : ComesTo scene world [] run ⊎ FailsBeside scene world [] run → IsPartOf hole run was
      by_either (inl h) = record {
        part = h.found;
        is = h.is;
        filled =
            steps_left scene world [] h.count (filled_in hole run) (filled_in hole (done (kind_of_run run) h.found.result [])) pure was e
            (steps_inside [] hole o h.count run _ pure h.steps);
      }
      by_either (inr h) =
          let meets = undefined_meets scene world [] (filled_in hole run) pure (fails_inside [] hole o run pure h) was e in
          absurd (true≢false (sym meets.2))

  -- ---- on the side

  claims_first : (locks : List At) (tree aside : Run) → IsPure tree → IsAmong (went world aside) (moves scene world locks tree) → (o : Option Computed)
      → computed scene world tree ≡ o → Claims scene world tree aside ⊎ Meets locks o
  claims_first locks tree aside pure k None e = inr tt
  claims_first locks tree aside pure k (Some found) e =
      let left = step_left scene world locks tree aside pure found e k in
      inl (record { found = found; is = e; now = left.now; is_now = left.is; leads = left.leads })

  -- Each step of such an evaluation goes on so, unless the tree comes to nothing now or reads what is locked.
  pub aside_step : (locks : List At) (tree aside : Run) → IsPure tree → IsPure aside → kind_of_run aside ≡ kind_of_run tree
      → Follows scene world tree aside → (m : Move Run Hole) → IsAmong m (moves scene world locks aside) → AsideFits scene world locks tree m
  aside_step locks tree aside pure pure_aside same h m k = by_move m k (computed_step scene world locks aside pure_aside m k)
    where
      by_follows : (after : Run) → IsAmong (went world after) (moves scene world locks aside) → Follows scene world tree aside
          → Claims scene world tree after ⊎ Meets locks (computed scene world tree)
      by_follows after l (inl e) =
          claims_first locks tree after pure (subst (λ a. IsAmong (went world after) (moves scene world locks a)) e l) (computed scene world tree) refl
      by_follows after l (inr c) =
          let one = step_left scene world locks aside after pure_aside c.now c.is_now l in
          inl (record { found = c.found; is = c.is; now = one.now; is_now = one.is; leads = leads_on c.found c.now one.now c.leads one.leads })

      by_fail : Follows scene world tree aside → Meets locks (computed scene world aside) → Meets locks (computed scene world tree)
      by_fail (inl e) meets = subst (λ a. Meets locks (computed scene world a)) e meets
      by_fail (inr c) meets =
          let met = subst (Meets locks) c.is_now meets in
          subst (Meets locks) (sym c.is) (met.0, c.leads.fewer met.0 met.1, met.2)

      by_move : (x : Move Run Hole) → IsAmong x (moves scene world locks aside)
          → StepKeeps scene world locks (kind_of_run aside) (computed scene world aside) x → AsideFits scene world locks tree x
      by_move (goes after middle) l fits =
          (fits.0, fits.1, fits.2 ∙ same, by_follows middle (subst (λ w. IsAmong (went w middle) (moves scene world locks aside)) fits.0 l) h)
      by_move (calls f arguments kind hole) l fits = absurd fits
      by_move (fails cause place) l fits = by_fail h fits
      by_move (exits status) l fits = absurd fits

  -- It claims something, or the tree comes to nothing.
  claims_now : (tree aside : Run) → Follows scene world tree aside → (o : Option Computed) → computed scene world tree ≡ o
      → Claims scene world tree aside ⊎ (o ≡ None)
  claims_now tree aside (inr c) o e = inl c
  claims_now tree aside (inl f) None e = inr refl
  claims_now tree aside (inl f) (Some found) e = inl (record {
    found = found;
    is = e;
    now = found;
    is_now = ap (computed scene world) f ∙ e;
    leads = record { result = refl; fewer = λ at k. k };
  })

  -- So a part of it can be evaluated in any way that gives what is foreseen, as by a call in another program, while all else stands still.
  pub part_foreseen : (tree : Run) (hole : Hole) (run : Run) → IsOpen hole → IsPure (filled_in hole run) → Follows scene world tree (filled_in hole run)
      → IsForeseen scene world tree hole run ⊎ (computed scene world tree ≡ None)
  part_foreseen tree hole run o pure h = by_claims (claims_now tree (filled_in hole run) h (computed scene world tree) refl)
    where
      by_claims : Claims scene world tree (filled_in hole run) ⊎ (computed scene world tree ≡ None)
          → IsForeseen scene world tree hole run ⊎ (computed scene world tree ≡ None)
      by_claims (inl c) =
          let there = part_of hole o run pure c.now c.is_now in
          inl (record {
            part = there.part;
            is = there.is;
            claims = record {
              found = c.found;
              is = c.is;
              now = there.filled.now;
              is_now = there.filled.is;
              leads = leads_on c.found c.now there.filled.now c.leads there.filled.leads;
            };
          })
      by_claims (inr e) = inr e

-- The claim stays while others change memory, but not what the tree reads.
pub claims_kept : (scene : Scene) (world later : World) → HasSameObjects world.memory later.memory → (tree aside : Run) → IsPure tree → IsPure aside
    → (c : Claims scene world tree aside) → KeepsPlaces world.memory later.memory c.found.reads → Claims scene later tree aside
claims_kept scene world later same_objects tree aside pure pure_aside c all = record {
  found = c.found;
  is = kept_computation scene world later same_objects tree pure c.found c.is all;
  now = c.now;
  is_now = kept_computation scene world later same_objects aside pure_aside c.now c.is_now (λ at k. all at (c.leads.fewer at k));
  leads = c.leads;
}
