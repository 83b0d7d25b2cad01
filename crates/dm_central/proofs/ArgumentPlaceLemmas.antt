-- Where the arguments of a call stand in the old program: one that is evaluated at once, and an untouched one whose parameter is read first.
use Rattle.std.specs.Prelude.{◌≡◌, refl, ℕ, zero, suc, List, [], ◌∷◌, ◌++◌, length, Some, None}
use Rattle.std.proofs.Common.{arith, ap, sym, ◌∙◌, subst, inl, inr}
use Rattle.dm_type.specs.CTypes.{CType}
use Rattle.dm_tree.specs.Trees.{call, Tree}
use Rattle.dm_meaning.specs.Among.{IsAmong}
use Rattle.dm_meaning.specs.Operations.{World}
use Rattle.dm_meaning.specs.Running.{evaluates, Run, Runs, no_runs, more_runs, begun, Holes, all_filled_in, locks_in, locks_in_all}
use Rattle.dm_meaning.specs.Called.{Called}
use Rattle.dm_meaning.specs.CalledWithAll.{given, AreDistinct}
use Rattle.dm_meaning.specs.Extending.{AreAmong}
use Rattle.dm_meaning.proofs.OptionLemmas.{none_is_some, some_is_some}
use Rattle.dm_meaning.proofs.StandLemmas.{run_list, given_first, given_later}
use Rattle.dm_rewrite.specs.Effects.{Effect, Stage, effects_in}
use Rattle.dm_central.specs.Standing.{StandsIn}
use Rattle.dm_central.specs.Arguments.{Way, at_once, untouched, runs_at, trees_at, AllFollowed, StandsWhole, ReadsSomewhere, ReadsFirst, StandsOpen}
use Rattle.dm_central.specs.ArgumentSteps.{IsAtOnce, StandsOnce}
use Rattle.dm_central.specs.Agreement.{Mode, IsPassed}
use Rattle.dm_central.proofs.FirstPlaceLemmas.{whole_there}
use Rattle.dm_central.proofs.PlaceLemmas.{part_of}
use Rattle.dm_central.proofs.SomewhereLemmas.{whole_somewhere, whole_locks, given_locks}

-- the parameter of an untouched argument
record IsNumbered (ps : List ℕ) (ways : List Way) (inner : Runs) (tree : Tree) : Type 0 where
  number : ℕ
  among : IsAmong number ps
  way : given ps ways number ≡ Some (untouched tree)
  there : given ps (trees_at ways) number ≡ Some (Some tree)
  no_run : given ps (runs_at ways inner) number ≡ Some None

zero_suc : (n : ℕ) → zero ≡ suc n → ⊥
zero_suc n e = omega (arith, e)

less_one : (m n : ℕ) → suc m ≡ suc n → m ≡ n
less_one m n e = omega (arith, e)

later_number : (p : ℕ) (ps : List ℕ) → (IsAmong p ps → ⊥) → (way : Way) (ways : List Way) (first : Run) (rest : Runs) (tree : Tree) → IsNumbered ps ways rest tree → IsNumbered (p ∷ ps) (way ∷ ways) (more_runs first rest) tree
later_number p ps apart way ways first rest tree h = by_way way
  where
    differs : p ≡ h.number → ⊥
    differs f = apart (subst (λ n. IsAmong n ps) (sym f) h.among)

    by_way : (w : Way) → IsNumbered (p ∷ ps) (w ∷ ways) (more_runs first rest) tree
    by_way at_once = record {
      number = h.number;
      among = inr h.among;
      way = given_later p ps at_once ways h.number differs ∙ h.way;
      there = given_later p ps None (trees_at ways) h.number differs ∙ h.there;
      no_run = given_later p ps (Some first) (runs_at ways rest) h.number differs ∙ h.no_run;
    }
    by_way (untouched t) = record {
      number = h.number;
      among = inr h.among;
      way = given_later p ps (untouched t) ways h.number differs ∙ h.way;
      there = given_later p ps (Some t) (trees_at ways) h.number differs ∙ h.there;
      no_run = given_later p ps None (runs_at ways rest) h.number differs ∙ h.no_run;
    }

module _ (stage : Stage) (world : World) (around : List Effect) where
  numbered_at : (ps : List ℕ) → AreDistinct ps → (ways : List Way) (inner : Runs) → AllFollowed stage world around ways inner → length (run_list inner) ≡ length ps → (tree : Tree) → IsAmong (untouched tree) ways
      → IsNumbered ps ways inner tree
  numbered_at ps apart [] inner h e tree k = absurd k
  numbered_at [] apart (way ∷ ways) no_runs h e tree k = absurd (by_way way h)
    where
      by_way : (w : Way) → AllFollowed stage world around (w ∷ ways) no_runs → ⊥
      by_way at_once f = f
      by_way (untouched t) f = f
  numbered_at [] apart (way ∷ ways) (more_runs first rest) h e tree k = absurd (zero_suc (length (run_list rest)) (sym e))
  numbered_at (p ∷ ps) apart (way ∷ ways) no_runs h e tree k = absurd (zero_suc (length ps) e)
  numbered_at (p ∷ ps) apart (at_once ∷ ways) (more_runs first rest) h e tree (inl k) = absurd (cc)
  numbered_at (p ∷ ps) apart (untouched t ∷ ways) (more_runs first rest) h e tree (inl k) = record {
    number = p;
    among = inl refl;
    way = given_first p ps (untouched t) ways ∙ ap Some (sym k);
    there = given_first p ps (Some t) (trees_at ways) ∙ ap (λ x. Some (Some x)) (sym (its_tree t tree k));
    no_run = given_first p ps None (runs_at ways rest);
  }
    where
      its_tree : (a b : Tree) → untouched b ≡ untouched a → b ≡ a
      its_tree a b f = cc
  numbered_at (p ∷ ps) apart (at_once ∷ ways) (more_runs first rest) h e tree (inr k) =
      later_number p ps apart.0 at_once ways first rest tree (numbered_at ps apart.1 ways rest h (less_one (length (run_list rest)) (length ps) e) tree k)
  numbered_at (p ∷ ps) apart (untouched t ∷ ways) (more_runs first rest) h e tree (inr k) =
      later_number p ps apart.0 (untouched t) ways first rest tree (numbered_at ps apart.1 ways rest h.1 (less_one (length (run_list rest)) (length ps) e) tree k)

module _ (change : Called) (stage : Stage) (mode : Mode) (world : World) (beside : List Effect) (distinct : AreDistinct change.added.parameters) (own : (p : ℕ) → IsAmong p change.added.parameters → (c : ℕ) → change.rename c ≡ p → ⊥)
    (kind : CType) (other : Run) (inner : Runs) (passed : IsPassed change stage mode world beside (evaluates call) kind other inner) where
  pub at_once_there : (holes : Holes) (run : Run) → inner ≡ all_filled_in holes run → IsAtOnce passed.ways holes → StandsOnce change passed.kinds passed.ways change.body other holes run
  at_once_there holes run e i =
      part_of change passed.kinds passed.ways distinct own change.body passed.once other holes run i (sym (ap (λ rs. length (run_list rs)) e) ∙ passed.each)
      (subst (λ rs. StandsWhole change (given change.added.parameters passed.kinds) (given change.added.parameters (trees_at passed.ways)) (given change.added.parameters (runs_at passed.ways rs)) change.body other) e passed.stands)

  -- each untouched argument whose parameter has a first occurrence
  pub first_there : (tree : Tree) → IsAmong (untouched tree) passed.ways → ((p : ℕ) → given change.added.parameters passed.ways p ≡ Some (untouched tree) → ReadsFirst p change.body)
      → StandsOpen (begun tree) other
  first_there tree among reads =
      let at = numbered_at stage world (effects_in stage inner ++ beside) change.added.parameters distinct passed.ways inner passed.followed passed.each tree among in
      whole_there change (given change.added.parameters (trees_at passed.ways)) at.number (own at.number at.among) tree at.there (given change.added.parameters passed.kinds) (given change.added.parameters (runs_at passed.ways inner))
      (λ run f. none_is_some run (some_is_some None (Some run) (sym at.no_run ∙ f))) change.body other passed.stands (reads at.number at.way)

  -- each untouched argument whose parameter is read
  pub somewhere_there : (tree : Tree) → IsAmong (untouched tree) passed.ways → ((p : ℕ) → given change.added.parameters passed.ways p ≡ Some (untouched tree) → ReadsSomewhere p change.body)
      → StandsIn (begun tree) other
  somewhere_there tree among reads =
      let at = numbered_at stage world (effects_in stage inner ++ beside) change.added.parameters distinct passed.ways inner passed.followed passed.each tree among in
      whole_somewhere change (given change.added.parameters (trees_at passed.ways)) at.number (own at.number at.among) tree at.there (given change.added.parameters passed.kinds) (given change.added.parameters (runs_at passed.ways inner))
      (λ run f. none_is_some run (some_is_some None (Some run) (sym at.no_run ∙ f))) change.body other passed.stands (reads at.number at.way)

  -- what is locked in the expression is locked in the arguments
  pub argument_locks : AreAmong (locks_in other) (locks_in_all inner)
  argument_locks =
      whole_locks change (given change.added.parameters passed.kinds) (given change.added.parameters (trees_at passed.ways)) (given change.added.parameters (runs_at passed.ways inner)) (locks_in_all inner)
      (λ p run e. given_locks change.added.parameters passed.ways inner p run e) change.body other passed.stands
