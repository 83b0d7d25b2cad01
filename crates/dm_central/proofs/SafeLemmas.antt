-- The expressions that always come to something do so in each part of a tree, and other locks than a part's own are of trees beside it.
use Rattle.std.specs.Prelude.{◌≡◌, refl, ◌⊎◌, ℕ, Bool, true, false, ◌||◌, List, [], ◌∷◌, ◌++◌, Some, if◌then◌else◌}
use Rattle.std.proofs.Common.{ap, sym, ◌∙◌, subst, inl, inr}
use Rattle.std.proofs.lemmas.Bool.{false≢true}
use Rattle.dm_token.specs.declared.place.Place.{Place}
use Rattle.dm_tree.specs.Trees.{call, Tree}
use Rattle.dm_type.specs.CTypes.{CType}
use Rattle.dm_meaning.specs.Among.{IsAmong}
use Rattle.dm_meaning.specs.Values.{Name, numbered, literal_of, elsewhere, At, same_name, along, overlaps, overlaps_any}
use Rattle.dm_meaning.specs.Operations.{World}
use Rattle.dm_meaning.specs.Running.{Doing, evaluates, Run, done, to_do, Runs, no_runs, more_runs, begun, Open, first_open, others_open, Holes, in_first, in_others, here, all_filled_in, AreOpen, locks_in, locks_in_all, every, open_parts}
use Rattle.dm_meaning.specs.Called.{Called}
use Rattle.dm_meaning.specs.CalledWithAll.{given}
use Rattle.dm_meaning.proofs.AmongLemmas.{among_left, among_right, among_either}
use Rattle.dm_meaning.proofs.ConstantLemmas.{no_locks}
use Rattle.dm_meaning.proofs.GrowLemmas.{equal_of}
use Rattle.dm_meaning.proofs.OptionLemmas.{and_left}
use Rattle.dm_rewrite.specs.Computed.{Computed, computed}
use Rattle.dm_rewrite.specs.PureSteps.{Meets}
use Rattle.dm_rewrite.specs.Effects.{Effect, on_object, Stage, by_name, lock_effects, own_effects, effects_of, effects_in, Hits, IsFree}
use Rattle.dm_central.specs.Added.{IsAdded}
use Rattle.dm_central.specs.Standing.{StandsIn, StandsAmong}
use Rattle.dm_central.specs.Arguments.{ReadsApart, Way, at_once, untouched, AllFollowed, ReadsSomewhere, ReadsFirst}
use Rattle.dm_central.specs.ArgumentSteps.{IsAtOnce}
use Rattle.dm_central.specs.Agreement.{Mode, outside, open_effects, beside_first, before_rest, AreUnbegun, IfOpen, IsReading, IsPassed, RunAgrees, RunsAgree}
use Rattle.dm_central.specs.Outcomes.{ComesSafely, AreSafe}
use Rattle.dm_central.proofs.ArgumentPlaceLemmas.{at_once_there, somewhere_there, argument_locks}
use Rattle.dm_central.proofs.SomewhereLemmas.{first_somewhere}
use Rattle.dm_central.proofs.StandingLemmas.{open_stands, stands_within, stands_filled}

-- ---- locks

or_true : (a b : Bool) → (a || b) ≡ true → (a ≡ true) ⊎ (b ≡ true)
or_true true b e = inl refl
or_true false b e = inr e

-- a place of a numbered object overlaps places of that object alone
same_number : (place lock : Name) (n : ℕ) → place ≡ numbered n → same_name place lock ≡ true → lock ≡ numbered n
same_number place (numbered m) n e f = sym (ap numbered (equal_of n m (ap (λ name. same_name name (numbered m)) (sym e) ∙ f)))
same_number place (literal_of bytes unit) n e f = absurd (false≢true (ap (λ name. same_name name (literal_of bytes unit)) (sym e) ∙ f))
same_number place (elsewhere identifier) n e f = absurd (false≢true (ap (λ name. same_name name (elsewhere identifier)) (sym e) ∙ f))

pub record IsLocked (locks : List At) (n : ℕ) : Type 0 where
  pub lock : At
  pub among : IsAmong lock locks
  pub name : lock.name ≡ numbered n

pub locked_there : (at : At) (locks : List At) (n : ℕ) → at.name ≡ numbered n → overlaps_any at locks ≡ true → IsLocked locks n
locked_there at [] n e f = absurd (false≢true f)
locked_there at (lock ∷ locks) n e f = by_either (or_true (overlaps at lock) (overlaps_any at locks) f) (locked_there at locks n e)
  where
    by_either : (overlaps at lock ≡ true) ⊎ (overlaps_any at locks ≡ true) → (overlaps_any at locks ≡ true → IsLocked locks n) → IsLocked (lock ∷ locks) n
    by_either (inl g) later = record { lock = lock; among = inl refl; name = same_number at.name lock.name n e (and_left (same_name at.name lock.name) (along at.path lock.path) g) }
    by_either (inr g) later = let there = later g in record { lock = there.lock; among = inr there.among; name = there.name }

free_left : (closed : List ℕ) (xs ys : List Effect) (n : ℕ) → IsFree closed (xs ++ ys) n → IsFree closed xs n
free_left closed xs ys n h effect l = h effect (among_left effect xs ys l)

free_right : (closed : List ℕ) (xs ys : List Effect) (n : ℕ) → IsFree closed (xs ++ ys) n → IsFree closed ys n
free_right closed xs ys n h effect l = h effect (among_right effect xs ys l)

module _ (stage : Stage) where
  lock_hits : (locks : List At) (lock : At) (n : ℕ) → IsAmong lock locks → lock.name ≡ numbered n → IsFree stage.closed (lock_effects locks) n → ⊥
  lock_hits [] lock n l e free = l
  lock_hits (other ∷ locks) lock n (inl f) e free = free (on_object n) (among_left (on_object n) (by_name other.name) (lock_effects locks) (subst (λ name. IsAmong (on_object n) (by_name name)) (sym (ap (λ (at : At). at.name) (sym f) ∙ e)) (inl refl))) refl
  lock_hits (other ∷ locks) lock n (inr l) e free = lock_hits locks lock n l e (free_right stage.closed (by_name other.name) (lock_effects locks) n free)

  mutual
    -- a lock of a tree is one of its effects
    pub lock_there : (run : Run) (lock : At) (n : ℕ) → IsAmong lock (locks_in run) → lock.name ≡ numbered n → IsFree stage.closed (effects_of stage run) n → ⊥
    lock_there (done kind result locks) lock n l e free = lock_hits locks lock n l e free
    lock_there (to_do doing kind place parts) lock n l e free = locks_there parts lock n l e (free_right stage.closed (own_effects stage doing parts) (effects_in stage parts) n free)

    pub locks_there : (parts : Runs) (lock : At) (n : ℕ) → IsAmong lock (locks_in_all parts) → lock.name ≡ numbered n → IsFree stage.closed (effects_in stage parts) n → ⊥
    locks_there no_runs lock n l e free = l
    locks_there (more_runs first rest) lock n l e free =
        by_either (among_either lock (locks_in first) (locks_in_all rest) l)
        (λ k. lock_there first lock n k e (free_left stage.closed (effects_of stage first) (effects_in stage rest) n free))
        (λ k. locks_there rest lock n k e (free_right stage.closed (effects_of stage first) (effects_in stage rest) n free))
      where
        by_either : IsAmong lock (locks_in first) ⊎ IsAmong lock (locks_in_all rest) → (IsAmong lock (locks_in first) → ⊥) → (IsAmong lock (locks_in_all rest) → ⊥) → ⊥
        by_either (inl k) one more = one k
        by_either (inr k) one more = more k

-- an untouched argument reads nothing that is written beside it
pub followed_apart : (stage : Stage) (ways : List Way) (world : World) (around : List Effect) (runs : Runs) → AllFollowed stage world around ways runs → (tree : Tree) → IsAmong (untouched tree) ways → ReadsApart stage around (begun tree)
followed_apart stage [] world around runs h tree k = absurd k
followed_apart stage (at_once ∷ ways) world around no_runs h tree k = absurd h
followed_apart stage (untouched t ∷ ways) world around no_runs h tree k = absurd h
followed_apart stage (at_once ∷ ways) world around (more_runs first rest) h tree (inl e) = absurd (cc)
followed_apart stage (at_once ∷ ways) world around (more_runs first rest) h tree (inr k) = followed_apart stage ways world around rest h tree k
followed_apart stage (untouched t ∷ ways) world around (more_runs first rest) h tree (inl e) = subst (λ u. ReadsApart stage around (begun u)) (sym (its_tree tree t e)) h.0.apart
  where
    its_tree : (a b : Tree) → untouched a ≡ untouched b → a ≡ b
    its_tree a b f = cc
followed_apart stage (untouched t ∷ ways) world around (more_runs first rest) h tree (inr k) = followed_apart stage ways world around rest h.1 tree k

module _ (change : Called) (stage : Stage) (mode : Mode) (world : World) (locks : List At) where
  -- a lock is one of these trees', or on an object on which trees before or beside them have an effect
  abbrev Blocks : List Effect → At → Type 0
  Blocks effects lock = (n : ℕ) → lock.name ≡ numbered n → IsFree stage.closed effects n → ⊥

  abbrev pub AllSafe : List Effect → List Effect → Open → Runs → Type 0
  AllSafe before beside opens others =
      (safe : Tree → Bool) → mode ≡ outside safe
      → ((lock : At) → IsAmong lock locks → IsAmong lock (locks_in_all others) ⊎ Blocks (before ++ beside) lock)
      × ((tree : Tree) → safe tree ≡ true → StandsAmong (begun tree) opens others → ComesSafely stage.scene world (begun tree))

  -- the parts of a node
  pub safe_below : (beside : List Effect) (doing : Doing) (kind : CType) (place : Place) (others : Runs) → AreSafe stage mode world locks beside (to_do doing kind place others) → AllSafe [] beside (open_parts doing) others
  safe_below beside doing kind place others h safe e = let sure = h safe e in (sure.0, λ tree picked stands. sure.1 tree picked (inr (open_stands (begun tree) doing others stands)))

  -- operands that may not be evaluated have no locks
  unbegun_none : (beside : List Effect) (run other : Run) → AreUnbegun change stage mode beside run other → (lock : At) → IsAmong lock (locks_in other) → ⊥
  unbegun_none beside run other h lock l = subst (IsAmong lock) (ap locks_in h.stands ∙ no_locks h.was) l

  -- those of the others are among their effects
  open_lock : (before beside : List Effect) (opens : Open) (parts others : Runs) → RunsAgree change stage mode world before beside opens parts others → (lock : At) → IsAmong lock (locks_in_all others) → Blocks (open_effects stage opens others) lock
  open_lock before beside opens no_runs no_runs h lock l = absurd l
  open_lock before beside opens no_runs (more_runs other others) h lock l = absurd h
  open_lock before beside opens (more_runs first rest) no_runs h lock l = absurd h
  open_lock before beside opens (more_runs first rest) (more_runs other others) h lock l =
      by_either (among_either lock (locks_in other) (locks_in_all others) l) (open_lock (before_rest stage opens before other) beside (others_open opens) rest others h.1 lock)
    where
      by_open : (b : Bool) → IfOpen b (RunAgrees change stage mode world (beside_first stage opens before beside others) first other ⊎ IsReading change mode first other) (AreUnbegun change stage mode beside first other)
          → IsAmong lock (locks_in other) → (n : ℕ) → lock.name ≡ numbered n → IsFree stage.closed (if b then effects_of stage other else []) n → ⊥
      by_open true x m n e free = lock_there stage other lock n m e free
      by_open false x m n e free = unbegun_none beside first other x lock m

      by_either : IsAmong lock (locks_in other) ⊎ IsAmong lock (locks_in_all others) → (IsAmong lock (locks_in_all others) → Blocks (open_effects stage (others_open opens) others) lock)
          → Blocks (open_effects stage opens (more_runs other others)) lock
      by_either (inl m) more = λ n e free. by_open (first_open opens) h.0 m n e (free_left stage.closed _ (open_effects stage (others_open opens) others) n free)
      by_either (inr m) more = λ n e free. more m n e (free_right stage.closed _ (open_effects stage (others_open opens) others) n free)

  -- an operand that may be evaluated
  pub safe_first : (before beside : List Effect) (opens : Open) (first : Run) (rest : Runs) (other : Run) (others : Runs) → first_open opens ≡ true
      → RunsAgree change stage mode world (before_rest stage opens before other) beside (others_open opens) rest others → AllSafe before beside opens (more_runs other others) → AreSafe stage mode world locks (beside_first stage opens before beside others) other
  safe_first before beside opens first rest other others o h all safe e =
      let sure = all safe e in
      (λ lock l. by_lock lock (sure.0 lock l), λ tree picked stands. sure.1 tree picked (inl (o, stands)))
    where
      effects_are : beside_first stage opens before beside others ≡ before ++ (open_effects stage (others_open opens) others ++ beside)
      effects_are = ap (λ b. if b then before ++ (open_effects stage (others_open opens) others ++ beside) else beside) o

      by_place : (lock : At) → IsAmong lock (locks_in other) ⊎ IsAmong lock (locks_in_all others) → IsAmong lock (locks_in other) ⊎ Blocks (beside_first stage opens before beside others) lock
      by_place lock (inl l) = inl l
      by_place lock (inr l) = inr (λ n f free.
          open_lock (before_rest stage opens before other) beside (others_open opens) rest others h lock l n f
          (free_left stage.closed (open_effects stage (others_open opens) others) beside n (free_right stage.closed before (open_effects stage (others_open opens) others ++ beside) n (subst (λ es. IsFree stage.closed es n) effects_are free))))

      by_lock : (lock : At) → IsAmong lock (locks_in other ++ locks_in_all others) ⊎ Blocks (before ++ beside) lock → IsAmong lock (locks_in other) ⊎ Blocks (beside_first stage opens before beside others) lock
      by_lock lock (inl l) = by_place lock (among_either lock (locks_in other) (locks_in_all others) l)
      by_lock lock (inr blocks) = inr (λ n f free.
          let all_free = subst (λ es. IsFree stage.closed es n) effects_are free in
          blocks n f (λ effect l. by_side all_free effect (among_either effect before beside l)))
        where
          by_side : {n : ℕ} → IsFree stage.closed (before ++ (open_effects stage (others_open opens) others ++ beside)) n → (effect : Effect) → IsAmong effect before ⊎ IsAmong effect beside → Hits stage.closed effect n → ⊥
          by_side all_free effect (inl l) = all_free effect (among_left effect before (open_effects stage (others_open opens) others ++ beside) l)
          by_side all_free effect (inr l) = all_free effect (among_right effect before (open_effects stage (others_open opens) others ++ beside) (among_right effect (open_effects stage (others_open opens) others) beside l))

  -- and the operands behind it
  pub safe_rest : (before beside : List Effect) (opens : Open) (first : Run) (rest : Runs) (other : Run) (others : Runs) → RunsAgree change stage mode world before beside opens (more_runs first rest) (more_runs other others)
      → AllSafe before beside opens (more_runs other others) → AllSafe (before_rest stage opens before other) beside (others_open opens) others
  safe_rest before beside opens first rest other others h all safe e =
      let sure = all safe e in
      (λ lock l. by_lock lock (sure.0 lock l), λ tree picked stands. sure.1 tree picked (inr stands))
    where
      -- effects are added
      more_before : (b : Bool) (lock : At) → Blocks (before ++ beside) lock → Blocks ((if b then before ++ effects_of stage other else before) ++ beside) lock
      more_before false lock blocks = blocks
      more_before true lock blocks = λ n f free. blocks n f (λ effect l. by_side free effect (among_either effect before beside l))
        where
          by_side : {n : ℕ} → IsFree stage.closed ((before ++ effects_of stage other) ++ beside) n → (effect : Effect) → IsAmong effect before ⊎ IsAmong effect beside → Hits stage.closed effect n → ⊥
          by_side free effect (inl l) = free effect (among_left effect (before ++ effects_of stage other) beside (among_left effect before (effects_of stage other) l))
          by_side free effect (inr l) = free effect (among_right effect (before ++ effects_of stage other) beside l)

      own_lock : (b : Bool) → IfOpen b (RunAgrees change stage mode world (beside_first stage opens before beside others) first other ⊎ IsReading change mode first other) (AreUnbegun change stage mode beside first other)
          → (lock : At) → IsAmong lock (locks_in other) → Blocks ((if b then before ++ effects_of stage other else before) ++ beside) lock
      own_lock true x lock l = λ n f free. lock_there stage other lock n l f (free_right stage.closed before (effects_of stage other) n (free_left stage.closed (before ++ effects_of stage other) beside n free))
      own_lock false x lock l = λ n f free. unbegun_none beside first other x lock l

      by_place : (lock : At) → IsAmong lock (locks_in other) ⊎ IsAmong lock (locks_in_all others) → IsAmong lock (locks_in_all others) ⊎ Blocks (before_rest stage opens before other ++ beside) lock
      by_place lock (inl l) = inr (own_lock (first_open opens) h.0 lock l)
      by_place lock (inr l) = inl l

      by_lock : (lock : At) → IsAmong lock (locks_in other ++ locks_in_all others) ⊎ Blocks (before ++ beside) lock → IsAmong lock (locks_in_all others) ⊎ Blocks (before_rest stage opens before other ++ beside) lock
      by_lock lock (inl l) = by_place lock (among_either lock (locks_in other) (locks_in_all others) l)
      by_lock lock (inr blocks) = inr (more_before (first_open opens) lock blocks)

  -- ---- arguments

  module _ (added : IsAdded change) (beside : List Effect) (kind : CType) (other : Run) (inner : Runs) (passed : IsPassed change stage mode world beside (evaluates call) kind other inner) where
    -- the parameter of an untouched argument is read
    late_somewhere : (tree : Tree) → IsAmong (untouched tree) passed.ways → (p : ℕ) → given change.added.parameters passed.ways p ≡ Some (untouched tree) → ReadsSomewhere p change.body
    late_somewhere tree among p e = by_late (passed.late tree among)
      where
        by_late : ((passed.safe tree ≡ true) × ((q : ℕ) → given change.added.parameters passed.ways q ≡ Some (untouched tree) → ReadsSomewhere q change.body))
            ⊎ ((q : ℕ) → given change.added.parameters passed.ways q ≡ Some (untouched tree) → ReadsFirst q change.body) → ReadsSomewhere p change.body
        by_late (inl h) = h.1 p e
        by_late (inr h) = first_somewhere p change.body (h p e)

    pub argument_stands : (tree : Tree) → IsAmong (untouched tree) passed.ways → StandsIn (begun tree) other
    argument_stands tree among = somewhere_there change stage mode world beside added.distinct added.own kind other inner passed tree among (late_somewhere tree among)

    -- what stands in an argument stands in one that is evaluated at once, or in an untouched one
    pub record StandsAtOnce (ways : List Way) (tree : Tree) (runs : Runs) : Type 0 where
      pub holes : Holes
      pub run : Run
      pub is : runs ≡ all_filled_in holes run
      pub position : IsAtOnce ways holes
      pub opened : AreOpen every holes
      pub stands : StandsIn (begun tree) run

    pub record StandsAside (ways : List Way) (tree : Tree) : Type 0 where
      pub whole : Tree
      pub among : IsAmong (untouched whole) ways
      pub stands : StandsIn (begun tree) (begun whole)

    stands_where : (around : List Effect) (ways : List Way) (runs : Runs) → AllFollowed stage world around ways runs → (tree : Tree) → StandsAmong (begun tree) every runs → StandsAtOnce ways tree runs ⊎ StandsAside ways tree
    stands_where around ways no_runs h tree k = absurd k
    stands_where around [] (more_runs first rest) h tree k = absurd h
    stands_where around (at_once ∷ ways) (more_runs first rest) h tree (inl k) = inl (record { holes = in_first here rest; run = first; is = refl; position = tt; opened = (refl, tt); stands = k.1 })
    stands_where around (untouched t ∷ ways) (more_runs first rest) h tree (inl k) = inr (record { whole = t; among = inl refl; stands = h.0.parts tree k.1 })
    stands_where around (at_once ∷ ways) (more_runs first rest) h tree (inr k) = by_rest (stands_where around ways rest h tree k)
      where
        by_rest : StandsAtOnce ways tree rest ⊎ StandsAside ways tree → StandsAtOnce (at_once ∷ ways) tree (more_runs first rest) ⊎ StandsAside (at_once ∷ ways) tree
        by_rest (inl s) = inl (record { holes = in_others first s.holes; run = s.run; is = ap (more_runs first) s.is; position = s.position; opened = s.opened; stands = s.stands })
        by_rest (inr s) = inr (record { whole = s.whole; among = inr s.among; stands = s.stands })
    stands_where around (untouched t ∷ ways) (more_runs first rest) h tree (inr k) = by_rest (stands_where around ways rest h.1 tree k)
      where
        by_rest : StandsAtOnce ways tree rest ⊎ StandsAside ways tree → StandsAtOnce (untouched t ∷ ways) tree (more_runs first rest) ⊎ StandsAside (untouched t ∷ ways) tree
        by_rest (inl s) = inl (record { holes = in_others first s.holes; run = s.run; is = ap (more_runs first) s.is; position = s.position; opened = s.opened; stands = s.stands })
        by_rest (inr s) = inr (record { whole = s.whole; among = inr s.among; stands = s.stands })

    stands_there : (tree : Tree) → StandsAmong (begun tree) every inner → StandsIn (begun tree) other
    stands_there tree k = by_place (stands_where (effects_in stage inner ++ beside) passed.ways inner passed.followed tree k)
      where
        by_place : StandsAtOnce passed.ways tree inner ⊎ StandsAside passed.ways tree → StandsIn (begun tree) other
        by_place (inl s) =
            let part = at_once_there change stage mode world beside added.distinct added.own kind other inner passed s.holes s.run s.is s.position in
            stands_within (begun tree) s.run other s.stands (subst (StandsIn s.run) (sym part.is) (stands_filled part.hole s.run (part.opened s.opened)))
        by_place (inr s) = stands_within (begun tree) (begun s.whole) other s.stands (argument_stands s.whole s.among)

    -- the arguments of a call
    pub safe_arguments : AreSafe stage mode world locks beside other → AllSafe [] beside every inner
    safe_arguments h safe e =
        let sure = h safe e in
        (λ lock l. by_lock lock (sure.0 lock l), λ tree picked stands. sure.1 tree picked (stands_there tree stands))
      where
        by_lock : (lock : At) → IsAmong lock (locks_in other) ⊎ Blocks beside lock → IsAmong lock (locks_in_all inner) ⊎ Blocks beside lock
        by_lock lock (inl l) = inl (argument_locks change stage mode world beside added.distinct added.own kind other inner passed lock l)
        by_lock lock (inr blocks) = inr blocks

    -- a safe argument comes to something, and meets no lock
    pub safe_argument : AreSafe stage mode world locks beside other → (tree : Tree) → IsAmong (untouched tree) passed.ways → passed.safe tree ≡ true → Meets locks (computed stage.scene world (begun tree)) → ⊥
    safe_argument h tree among picked meets =
        let sure = h passed.safe passed.elsewhere in
        let there = sure.1 tree picked (argument_stands tree among) in
        let met = subst (Meets locks) there.1 meets in
        let named = there.2 met.0 met.1 in
        let locked = locked_there met.0 locks named.0 named.1 met.2 in
        by_lock there.0 there.1 met.0 met.1 named.0 named.1 locked.lock locked.name (sure.0 locked.lock locked.among)
      where
        by_lock : (found : Computed) → computed stage.scene world (begun tree) ≡ Some found → (at : At) → IsAmong at found.reads → (n : ℕ) → at.name ≡ numbered n → (lock : At) → lock.name ≡ numbered n
            → IsAmong lock (locks_in other) ⊎ Blocks beside lock → ⊥
        by_lock found is at l n e lock f (inl k) = lock_there stage other lock n k f (passed.calm tree among world found is at l n e)
        by_lock found is at l n e lock f (inr blocks) =
            blocks n f (free_right stage.closed (effects_in stage inner) beside n (followed_apart stage passed.ways world (effects_in stage inner ++ beside) inner passed.followed tree among world found is at l n e))
