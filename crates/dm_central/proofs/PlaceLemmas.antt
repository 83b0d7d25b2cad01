-- Where an argument that is evaluated at once stands in the old program's expression: at one place, which may be evaluated; and another run may
-- stand there.
use Rattle.std.specs.Prelude.{◌≡◌, refl, ◌⊎◌, ℕ, zero, suc, ◌+◌, ◌==◌, Bool, true, false, IsTrue, List, [], ◌∷◌, length, Option, Some, None, if◌then◌else◌}
use Rattle.std.proofs.Common.{arith, ap, sym, ◌∙◌, subst, inl, inr}
use Rattle.dm_type.specs.CTypes.{CType}
use Rattle.dm_tree.specs.Trees.{object, read, Spans, Tree, Trees, node, no_trees, more_trees, kind_of}
use Rattle.dm_meaning.specs.Among.{IsAmong}
use Rattle.dm_meaning.specs.Running.{Run, done, to_do, Runs, no_runs, more_runs, Open, every, first_open, others_open, open_parts, Hole, here, within, Holes, in_first, in_others, filled_in, all_filled_in, IsOpen, AreOpen, hole_in}
use Rattle.dm_meaning.specs.Called.{Called}
use Rattle.dm_meaning.specs.CalledWithAll.{given, AreDistinct, times_here, times_named, times_named_in}
use Rattle.dm_meaning.proofs.OptionLemmas.{none_is_some, some_is_some}
use Rattle.dm_meaning.proofs.GrowLemmas.{equal_of, differ_is}
use Rattle.dm_meaning.proofs.MatchLemmas.{filled_twice, opened_twice}
use Rattle.dm_meaning.proofs.StandLemmas.{run_list, doing_elsewhere, renamed_elsewhere, reading_named, given_first, given_later}
use Rattle.dm_central.specs.Arguments.{IsSameBut, AreSameBut, IsUntouched, IsStanding, Stands, StandBelow, StandsWhole, Way, at_once, untouched, runs_at, trees_at}
use Rattle.dm_central.specs.ArgumentSteps.{IsAtOnce, StandsOnce}

sum_one : (m n : ℕ) → m + n ≡ 1 → ((m ≡ 1) × (n ≡ 0)) ⊎ ((m ≡ 0) × (n ≡ 1))
sum_one zero n e = inr (refl, omega (arith, e))
sum_one (suc zero) n e = inl (refl, omega (arith, e))
sum_one (suc (suc m)) n e = absurd (too_many e)
  where
    too_many : suc (suc m) + n ≡ 1 → ⊥
    too_many f = omega (arith, f)

sum_left : (m n : ℕ) → m + n ≡ 0 → m ≡ 0
sum_left m n e = omega (arith, e)

sum_right : (m n : ℕ) → m + n ≡ 0 → n ≡ 0
sum_right m n e = omega (arith, e)

sums : (m n a b : ℕ) → m ≡ a → n ≡ b → m + n ≡ a + b
sums m n a b e f = ap (λ x. x + n) e ∙ ap (λ y. a + y) f

rest_one : (m n : ℕ) → m ≡ 0 → m + n ≡ 1 → n ≡ 1
rest_one m n e f = omega (arith, e, f)

zero_one : zero ≡ 1 → ⊥
zero_one e = omega (arith, e)

one_of_if : (b : Bool) → (0 + (((if b then 1 else 0) + 0) + 0)) ≡ 1 → b ≡ true
one_of_if true e = refl
one_of_if false e = absurd (zero_one e)

-- ---- the place of a parameter

module _ (change : Called) (kind_at : ℕ → Option CType) (tree_at : ℕ → Option (Option Tree)) (d : ℕ) (own : (c : ℕ) → change.rename c ≡ d → ⊥) (not_tree : (t : Tree) → tree_at d ≡ Some (Some t) → ⊥) (run_at : ℕ → Option (Option Run)) where
  reads_elsewhere : (q : ℕ) (kind named_kind : CType) (spans named_spans : Spans) → (q ≡ d → ⊥) → times_named d (node read kind spans (more_trees (node (object q) named_kind named_spans no_trees) no_trees)) ≡ 0
  reads_elsewhere q kind named_kind spans named_spans differ = ap (λ b. (0 + (((if b then 1 else 0) + 0) + 0))) (differ_is q d differ)

  mutual
    same_elsewhere : (tree was : Tree) → IsSameBut change tree_at tree was → times_named d tree ≡ 0
    same_elsewhere (node label kind spans parts) (node other other_kind other_spans others) (inl h) =
        sums (times_here d label) (times_named_in d parts) 0 0 (ap (times_here d) h.0 ∙ renamed_elsewhere change d own other) (all_same_elsewhere parts others h.3)
    same_elsewhere (node label kind spans parts) was (inr (reads, e, g)) =
        ap (times_named d) reads.is ∙ reads_elsewhere reads.parameter (kind_of was) reads.named_kind reads.spans reads.named_spans (λ f. not_tree was (subst (λ q. tree_at q ≡ Some (Some was)) f e))

    all_same_elsewhere : (trees others : Trees) → AreSameBut change tree_at trees others → times_named_in d trees ≡ 0
    all_same_elsewhere no_trees no_trees h = refl
    all_same_elsewhere no_trees (more_trees other others) h = absurd h
    all_same_elsewhere (more_trees first rest) no_trees h = absurd h
    all_same_elsewhere (more_trees first rest) (more_trees other others) h =
        sums (times_named d first) (times_named_in d rest) 0 0 (same_elsewhere first other h.0) (all_same_elsewhere rest others h.1)

  -- other runs are the same
  abbrev IsBeside : (ℕ → Option (Option Run)) → Type 0
  IsBeside later_at = (e : ℕ) → (d ≡ e → ⊥) → later_at e ≡ run_at e

  mutual
    -- what doesn't name it stays
    beside_stands : (later_at : ℕ → Option (Option Run)) → IsBeside later_at → (tree : Tree) (other : Run) → times_named d tree ≡ 0 → Stands change kind_at tree_at run_at tree other → Stands change kind_at tree_at later_at tree other
    beside_stands later_at b tree (done kind result locks) e h = absurd h
    beside_stands later_at b (node label kind spans parts) (to_do doing other_kind place others) e h =
        (h.0, h.1, h.2, all_beside_stand later_at b (open_parts doing) parts others (sum_right (times_here d label) (times_named_in d parts) e) h.3)

    all_beside_stand : (later_at : ℕ → Option (Option Run)) → IsBeside later_at → (opens : Open) (parts : Trees) (others : Runs) → times_named_in d parts ≡ 0 → StandBelow change kind_at tree_at run_at opens parts others
        → StandBelow change kind_at tree_at later_at opens parts others
    all_beside_stand later_at b opens no_trees no_runs e h = tt
    all_beside_stand later_at b opens no_trees (more_runs other others) e h = absurd h
    all_beside_stand later_at b opens (more_trees first rest) no_runs e h = absurd h
    all_beside_stand later_at b opens (more_trees first rest) (more_runs other others) e (inl s, k) =
        (inl s, all_beside_stand later_at b (others_open opens) rest others (sum_right (times_named d first) (times_named_in d rest) e) k)
    all_beside_stand later_at b opens (more_trees first rest) (more_runs other others) e (inr (o, inl s), k) = (
      inr (
        o,
        inl (record {
          kind = s.kind;
          reads = s.reads;
          typed = s.typed;
          stands =
              b s.reads.parameter (λ f.
              zero_one (sym (sum_left (times_named d first) (times_named_in d rest) e)
              ∙ (ap (times_named d) s.reads.is ∙ reading_named d s.reads.parameter s.kind s.reads.named_kind s.reads.spans s.reads.named_spans (sym f)))) ∙ s.stands;
        }),
      ),
      all_beside_stand later_at b (others_open opens) rest others (sum_right (times_named d first) (times_named_in d rest) e) k,
    )
    all_beside_stand later_at b opens (more_trees first rest) (more_runs other others) e (inr (o, inr s), k) = (
      inr (o, inr (beside_stands later_at b first other (sum_left (times_named d first) (times_named_in d rest) e) s)),
      all_beside_stand later_at b (others_open opens) rest others (sum_right (times_named d first) (times_named_in d rest) e) k,
    )

  -- where the run of the parameter stands, and that another one may stand there
  record IsAt (run : Run) (tree : Tree) (other : Run) : Type 0 where
    pub hole : Hole
    pub opened : IsOpen hole
    pub is : other ≡ filled_in hole run
    pub again : (later_at : ℕ → Option (Option Run)) (after : Run) → later_at d ≡ Some (Some after) → IsBeside later_at → Stands change kind_at tree_at later_at tree (filled_in hole after)

  record AreAt (run : Run) (opens : Open) (trees : Trees) (others : Runs) : Type 0 where
    pub holes : Holes
    pub opened : AreOpen opens holes
    pub is : others ≡ all_filled_in holes run
    pub again : (later_at : ℕ → Option (Option Run)) (after : Run) → later_at d ≡ Some (Some after) → IsBeside later_at → StandBelow change kind_at tree_at later_at opens trees (all_filled_in holes after)

  abbrev PartStands : Open → Tree → Run → Type 0
  PartStands opens first other = IsUntouched change tree_at first other ⊎ (IsTrue (first_open opens) × (IsStanding change kind_at run_at first other ⊎ Stands change kind_at tree_at run_at first other))

  -- it stands there itself, and so may another one
  standing_is : (run : Run) → run_at d ≡ Some (Some run) → (tree : Tree) (other : Run) → times_named d tree ≡ 1 → IsStanding change kind_at run_at tree other
      → (other ≡ run) × ((later_at : ℕ → Option (Option Run)) (after : Run) → later_at d ≡ Some (Some after) → IsStanding change kind_at later_at tree after)
  standing_is run found tree other e s =
      let same : s.reads.parameter ≡ d = equal_of s.reads.parameter d (one_of_if (s.reads.parameter == d) (sym (ap (times_named d) s.reads.is) ∙ e)) in (
        some_is_some other run (some_is_some (Some other) (Some run) (sym s.stands ∙ ap run_at same ∙ found)),
        λ later_at after g. record { kind = s.kind; reads = s.reads; typed = s.typed; stands = ap later_at same ∙ g },
      )

  -- it stands in the first part
  at_first : (run : Run) → run_at d ≡ Some (Some run) → (opens : Open) (first : Tree) (rest : Trees) (other : Run) (others : Runs) → times_named d first ≡ 1 → times_named_in d rest ≡ 0
      → PartStands opens first other → StandBelow change kind_at tree_at run_at (others_open opens) rest others
      → (Stands change kind_at tree_at run_at first other → IsAt run first other) → AreAt run opens (more_trees first rest) (more_runs other others)
  at_first run found opens first rest other others e f (inl s) k later = absurd (zero_one (sym (same_elsewhere first s.was s.same) ∙ e))
  at_first run found opens first rest other others e f (inr (o, inl s)) k later =
      let stood = standing_is run found first other e s in
      record {
        holes = in_first here others;
        opened = (o, tt);
        is = ap (λ r. more_runs r others) stood.0;
        again = λ later_at after g b. (inr (o, inl (stood.1 later_at after g)), all_beside_stand later_at b (others_open opens) rest others f k);
      }
  at_first run found opens first rest other others e f (inr (o, inr s)) k later =
      let there = later s in
      record {
        holes = in_first there.hole others;
        opened = (o, there.opened);
        is = ap (λ r. more_runs r others) there.is;
        again = λ later_at after g b. (inr (o, inr (there.again later_at after g b)), all_beside_stand later_at b (others_open opens) rest others f k);
      }

  -- or in another one
  beside_part : (later_at : ℕ → Option (Option Run)) → IsBeside later_at → (opens : Open) (first : Tree) (other : Run) → times_named d first ≡ 0 → PartStands opens first other
      → IsUntouched change tree_at first other ⊎ (IsTrue (first_open opens) × (IsStanding change kind_at later_at first other ⊎ Stands change kind_at tree_at later_at first other))
  beside_part later_at b opens first other e h = (all_beside_stand later_at b opens (more_trees first no_trees) (more_runs other no_runs) (sums (times_named d first) 0 0 0 e refl) (h, tt)).0

  at_rest : (run : Run) (opens : Open) (first : Tree) (rest : Trees) (other : Run) (others : Runs) → times_named d first ≡ 0
      → PartStands opens first other → AreAt run (others_open opens) rest others → AreAt run opens (more_trees first rest) (more_runs other others)
  at_rest run opens first rest other others e h there = record {
    holes = in_others other there.holes;
    opened = there.opened;
    is = ap (more_runs other) there.is;
    again = λ later_at after g b. (beside_part later_at b opens first other e h, there.again later_at after g b);
  }

  by_sum : (run : Run) → run_at d ≡ Some (Some run) → (opens : Open) (first : Tree) (rest : Trees) (other : Run) (others : Runs)
      → ((times_named d first ≡ 1) × (times_named_in d rest ≡ 0)) ⊎ ((times_named d first ≡ 0) × (times_named_in d rest ≡ 1))
      → PartStands opens first other → StandBelow change kind_at tree_at run_at (others_open opens) rest others
      → (times_named d first ≡ 1 → Stands change kind_at tree_at run_at first other → IsAt run first other)
      → (times_named_in d rest ≡ 1 → StandBelow change kind_at tree_at run_at (others_open opens) rest others → AreAt run (others_open opens) rest others)
      → AreAt run opens (more_trees first rest) (more_runs other others)
  by_sum run found opens first rest other others (inl (e, f)) h k one more = at_first run found opens first rest other others e f h k (one e)
  by_sum run found opens first rest other others (inr (e, f)) h k one more = at_rest run opens first rest other others e h (more f k)

  mutual
    place_of : (run : Run) → run_at d ≡ Some (Some run) → (tree : Tree) (other : Run) → times_named d tree ≡ 1 → Stands change kind_at tree_at run_at tree other → IsAt run tree other
    place_of run found tree (done kind result locks) e h = absurd h
    place_of run found (node label kind spans parts) (to_do doing other_kind place others) e h =
        let below = places_of run found (open_parts doing) parts others (rest_one (times_here d label) (times_named_in d parts) (doing_elsewhere change d own label doing h.0) e) h.3 in
        record {
          hole = within doing other_kind place below.holes;
          opened = below.opened;
          is = ap (to_do doing other_kind place) below.is;
          again = λ later_at after g b. (h.0, h.1, h.2, below.again later_at after g b);
        }

    places_of : (run : Run) → run_at d ≡ Some (Some run) → (opens : Open) (trees : Trees) (others : Runs) → times_named_in d trees ≡ 1 → StandBelow change kind_at tree_at run_at opens trees others → AreAt run opens trees others
    places_of run found opens no_trees no_runs e h = absurd (zero_one e)
    places_of run found opens no_trees (more_runs other others) e h = absurd h
    places_of run found opens (more_trees first rest) no_runs e h = absurd h
    places_of run found opens (more_trees first rest) (more_runs other others) e h =
        by_sum run found opens first rest other others (sum_one (times_named d first) (times_named_in d rest) e) h.0 h.1 (place_of run found first other) (places_of run found (others_open opens) rest others)

  -- likewise where it may stand for the whole tree
  pub record IsAtWhole (run : Run) (tree : Tree) (other : Run) : Type 0 where
    pub hole : Hole
    pub opened : IsOpen hole
    pub is : other ≡ filled_in hole run
    pub again : (later_at : ℕ → Option (Option Run)) (after : Run) → later_at d ≡ Some (Some after) → IsBeside later_at → StandsWhole change kind_at tree_at later_at tree (filled_in hole after)

  pub place_whole : (run : Run) → run_at d ≡ Some (Some run) → (tree : Tree) (other : Run) → times_named d tree ≡ 1 → StandsWhole change kind_at tree_at run_at tree other → IsAtWhole run tree other
  place_whole run found tree other e (inl s) = absurd (zero_one (sym (same_elsewhere tree s.was s.same) ∙ e))
  place_whole run found tree other e (inr (inl s)) =
      let stood = standing_is run found tree other e s in
      record { hole = here; opened = tt; is = stood.0; again = λ later_at after g b. inr (inl (stood.1 later_at after g)) }
  place_whole run found tree other e (inr (inr s)) =
      let there = place_of run found tree other e s in
      record { hole = there.hole; opened = there.opened; is = there.is; again = λ later_at after g b. inr (inr (there.again later_at after g b)) }

-- ---- the place of a part of an argument

-- which parameter the part belongs to, and where it is in its argument
record IsListed (ps : List ℕ) (ways : List Way) (holes : Holes) : Type 0 where
  pub number : ℕ
  pub among : IsAmong number ps
  pub hole : Hole
  pub opened : AreOpen every holes → IsOpen hole
  pub way : given ps ways number ≡ Some at_once
  pub tree : given ps (trees_at ways) number ≡ Some None
  pub there : (run : Run) → given ps (runs_at ways (all_filled_in holes run)) number ≡ Some (Some (filled_in hole run))
  pub others : (run after : Run) (e : ℕ) → (number ≡ e → ⊥) → given ps (runs_at ways (all_filled_in holes after)) e ≡ given ps (runs_at ways (all_filled_in holes run)) e

suc_none : (n : ℕ) → suc n ≡ 0 → ⊥
suc_none n e = omega (arith, e)

suc_same : (m n : ℕ) → suc m ≡ suc n → m ≡ n
suc_same m n e = omega (arith, e)

listed_later : (p : ℕ) (ps : List ℕ) → (IsAmong p ps → ⊥) → (way : Way) (ways : List Way) (first : Run) (holes : Holes) → IsListed ps ways holes → IsListed (p ∷ ps) (way ∷ ways) (in_others first holes)
listed_later p ps apart way ways first holes later = by_way way
  where
    differs : p ≡ later.number → ⊥
    differs f = apart (subst (λ n. IsAmong n ps) (sym f) later.among)

    by_case : {A : Type 0} (x : A) (a b : Option A) (t : Bool) → a ≡ b → (if t then Some x else a) ≡ (if t then Some x else b)
    by_case x a b true f = refl
    by_case x a b false f = f

    by_way : (w : Way) → IsListed (p ∷ ps) (w ∷ ways) (in_others first holes)
    by_way at_once = record {
      number = later.number;
      among = inr later.among;
      hole = later.hole;
      opened = later.opened;
      way = given_later p ps at_once ways later.number differs ∙ later.way;
      tree = given_later p ps None (trees_at ways) later.number differs ∙ later.tree;
      there = λ r. given_later p ps (Some first) (runs_at ways (all_filled_in holes r)) later.number differs ∙ later.there r;
      others = λ r after c differ. by_case (Some first) _ _ (p == c) (later.others r after c differ);
    }
    by_way (untouched t) = record {
      number = later.number;
      among = inr later.among;
      hole = later.hole;
      opened = later.opened;
      way = given_later p ps (untouched t) ways later.number differs ∙ later.way;
      tree = given_later p ps (Some t) (trees_at ways) later.number differs ∙ later.tree;
      there = λ r. given_later p ps None (runs_at ways (all_filled_in holes r)) later.number differs ∙ later.there r;
      others = λ r after c differ. by_case None _ _ (p == c) (later.others r after c differ);
    }

listed_at : (ps : List ℕ) → AreDistinct ps → (ways : List Way) (holes : Holes) (run : Run) → IsAtOnce ways holes → length (run_list (all_filled_in holes run)) ≡ length ps → IsListed ps ways holes
listed_at [] apart ways (in_first hole rest) run i e = absurd (suc_none (length (run_list rest)) e)
listed_at [] apart ways (in_others first holes) run i e = absurd (suc_none (length (run_list (all_filled_in holes run))) e)
listed_at (p ∷ ps) apart [] holes run i e = absurd i
listed_at (p ∷ ps) apart (at_once ∷ ways) (in_first hole rest) run i e = record {
  number = p;
  among = inl refl;
  hole = hole;
  opened = λ o. o.1;
  way = given_first p ps at_once ways;
  tree = given_first p ps None (trees_at ways);
  there = λ r. given_first p ps (Some (filled_in hole r)) (runs_at ways rest);
  others = λ r after c differ. given_later p ps (Some (filled_in hole after)) (runs_at ways rest) c differ ∙ sym (given_later p ps (Some (filled_in hole r)) (runs_at ways rest) c differ);
}
listed_at (p ∷ ps) apart (untouched t ∷ ways) (in_first hole rest) run i e = absurd i
listed_at (p ∷ ps) apart (at_once ∷ ways) (in_others first holes) run i e =
    listed_later p ps apart.0 at_once ways first holes (listed_at ps apart.1 ways holes run i (suc_same (length (run_list (all_filled_in holes run))) (length ps) e))
listed_at (p ∷ ps) apart (untouched t ∷ ways) (in_others first holes) run i e =
    listed_later p ps apart.0 (untouched t) ways first holes (listed_at ps apart.1 ways holes run i (suc_same (length (run_list (all_filled_in holes run))) (length ps) e))

pub part_of : (change : Called) (kinds : List CType) (ways : List Way) → AreDistinct change.added.parameters → ((p : ℕ) → IsAmong p change.added.parameters → (c : ℕ) → change.rename c ≡ p → ⊥)
    → (tree : Tree) → ((p : ℕ) → given change.added.parameters ways p ≡ Some at_once → times_named p tree ≡ 1) → (other : Run) (holes : Holes) (run : Run) → IsAtOnce ways holes
    → length (run_list (all_filled_in holes run)) ≡ length change.added.parameters
    → StandsWhole change (given change.added.parameters kinds) (given change.added.parameters (trees_at ways)) (given change.added.parameters (runs_at ways (all_filled_in holes run))) tree other → StandsOnce change kinds ways tree other holes run
part_of change kinds ways apart own tree once other holes run i e h =
    let place = listed_at change.added.parameters apart ways holes run i e in
    let there =
    place_whole change (given change.added.parameters kinds) (given change.added.parameters (trees_at ways)) place.number (own place.number place.among)
    (λ t f. none_is_some t (some_is_some None (Some t) (sym place.tree ∙ f)))
    (given change.added.parameters (runs_at ways (all_filled_in holes run))) (filled_in place.hole run) (place.there run) tree other (once place.number place.way) h in
    record {
      hole = hole_in there.hole place.hole;
      opened = λ o. opened_twice there.hole place.hole there.opened (place.opened o);
      is = there.is ∙ sym (filled_twice there.hole place.hole run);
      again = λ after.
          subst (StandsWhole change (given change.added.parameters kinds) (given change.added.parameters (trees_at ways)) (given change.added.parameters (runs_at ways (all_filled_in holes after))) tree) (sym (filled_twice there.hole place.hole after))
          (there.again (given change.added.parameters (runs_at ways (all_filled_in holes after))) (filled_in place.hole after) (place.there after) (place.others run after));
    }
