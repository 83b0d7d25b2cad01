-- What the matching of steps of two programs needs beside trees that agree: what renaming keeps, parts left out of parts left out, and objects
-- that are spare.
use Rattle.std.specs.Prelude.{◌≡◌, refl, ◌⊎◌, ℕ, Bool, true, false, ◌&&◌, ◌||◌, IsTrue, List, [], ◌∷◌, ◌++◌, map, None, option_map}
use Rattle.std.proofs.Common.{ap, sym, ◌∙◌, subst, inl, inr}
use Rattle.dm_token.specs.declared.place.Place.{Place}
use Rattle.dm_type.specs.CTypes.{CType}
use Rattle.dm_tree.specs.Trees.{Label, enumerator, function}
use Rattle.dm_meaning.specs.Among.{IsAmong}
use Rattle.dm_meaning.specs.Values.{Name, numbered, literal_of, elsewhere, At, Value, same_name, along, overlaps_any}
use Rattle.dm_meaning.specs.Memory.{Memory, Block, look_up, new_block}
use Rattle.dm_meaning.specs.Programs.{Program, layout}
use Rattle.dm_meaning.specs.Operations.{World, Scene, whole}
use Rattle.dm_meaning.specs.Running.{Doing, evaluates, gives_truth, gives_value, Run, to_do, Runs, no_runs, more_runs, Open, first_open, others_open, open_of, open_parts, operands_in, Hole, here, within, Holes, in_first, in_others, filled_in, all_filled_in, IsOpen, AreOpen, hole_in, holes_in}
use Rattle.dm_meaning.specs.Expressions.{Move, lifted, function_in, where_open, moves, moves_in}
use Rattle.dm_meaning.specs.Statements.{type_declared}
use Rattle.dm_meaning.specs.Replaced.{relabelled}
use Rattle.dm_meaning.specs.Called.{Called, new_of, means_the_same}
use Rattle.dm_meaning.specs.Extending.{AreAmong}
use Rattle.dm_meaning.specs.MoreObjects.{IsMadeName, LocksMade}
use Rattle.dm_meaning.proofs.AmongLemmas.{among_left, among_right, among_either, among-map_from}
use Rattle.dm_meaning.proofs.MoveLemmas.{IsToDo, moving_to_do, none_first, none_later}
use Rattle.dm_meaning.proofs.OptionLemmas.{none_is_some}
use Rattle.dm_meaning.proofs.RunLemmas.{redone}
use Rattle.dm_meaning.proofs.GrowLemmas.{differ_is}
use Rattle.dm_meaning.proofs.YieldLemmas.{may_give}

-- ---- names and forms

-- in the added function names mean the same as elsewhere
abbrev pub may_stand : Program → Bool → Doing → Bool
may_stand program true (evaluates label) = means_the_same program label
may_stand program inside doing = true

pub open_of_relabelled : (rename : ℕ → ℕ) (label : Label) → open_of (relabelled rename label) ≡ open_of label
open_of_relabelled rename (enumerator d) = refl
open_of_relabelled rename label = refl

pub open_parts_redone : (rename : ℕ → ℕ) (doing : Doing) → open_parts (redone rename doing) ≡ open_parts doing
open_parts_redone rename (evaluates label) = open_of_relabelled rename label
open_parts_redone rename gives_truth = refl
open_parts_redone rename gives_value = refl

pub function_in_redone : (rename : ℕ → ℕ) (doing : Doing) → function_in (redone rename doing) ≡ option_map rename (function_in doing)
function_in_redone rename (evaluates (function d)) = refl
function_in_redone rename (evaluates label) = refl
function_in_redone rename gives_truth = refl
function_in_redone rename gives_value = refl

pub among_nothing : (locks others : List At) → locks ≡ [] → AreAmong locks others
among_nothing locks others e lock k = absurd (subst (λ l. IsAmong lock l) e k)

pub among_joined : (a b c d : List At) → AreAmong a c → AreAmong b d → AreAmong (a ++ b) (c ++ d)
among_joined a b c d h k lock l = by_either (among_either lock a b l)
  where
    by_either : IsAmong lock a ⊎ IsAmong lock b → IsAmong lock (c ++ d)
    by_either (inl x) = among_left lock c d (h lock x)
    by_either (inr y) = among_right lock c d (k lock y)

pub relabelled_gives : (rename : ℕ → ℕ) (label : Label) → may_give (relabelled rename label) ≡ may_give label
relabelled_gives rename (enumerator d) = refl
relabelled_gives rename label = refl

pub stands_always : (program : Program) (inside : Bool) → may_stand program inside gives_value ≡ true
stands_always program true = refl
stands_always program false = refl

pub truth_stands : (program : Program) (inside : Bool) → may_stand program inside gives_truth ≡ true
truth_stands program true = refl
truth_stands program false = refl

-- ---- steps

mutual
  -- a part left out of a part left out
  pub filled_twice : (outer inner : Hole) (run : Run) → filled_in (hole_in outer inner) run ≡ filled_in outer (filled_in inner run)
  filled_twice here inner run = refl
  filled_twice (within doing kind place holes) inner run = ap (to_do doing kind place) (all_filled_twice holes inner run)

  pub all_filled_twice : (holes : Holes) (inner : Hole) (run : Run) → all_filled_in (holes_in holes inner) run ≡ all_filled_in holes (filled_in inner run)
  all_filled_twice (in_first hole rest) inner run = ap (λ r. more_runs r rest) (filled_twice hole inner run)
  all_filled_twice (in_others first holes) inner run = ap (more_runs first) (all_filled_twice holes inner run)

mutual
  pub opened_twice : (outer inner : Hole) → IsOpen outer → IsOpen inner → IsOpen (hole_in outer inner)
  opened_twice here inner h k = k
  opened_twice (within doing kind place holes) inner h k = all_opened_twice (open_parts doing) holes inner h k

  all_opened_twice : (opens : Open) (holes : Holes) (inner : Hole) → AreOpen opens holes → IsOpen inner → AreOpen opens (holes_in holes inner)
  all_opened_twice opens (in_first hole rest) inner h k = (h.0, opened_twice hole inner h.1 k)
  all_opened_twice opens (in_others first holes) inner h k = all_opened_twice (others_open opens) holes inner h k

-- a renamed form that gives a value names no function
pub not_function : (rename : ℕ → ℕ) (label : Label) → may_give (relabelled rename label) ≡ true → function_in (evaluates label) ≡ None
not_function rename (function d) e = absurd (cc)
not_function rename label e = refl

pub among_both : (a b c : List At) → AreAmong a c → AreAmong b c → AreAmong (a ++ b) c
among_both a b c h k lock l = by_either (among_either lock a b l)
  where
    by_either : IsAmong lock a ⊎ IsAmong lock b → IsAmong lock c
    by_either (inl x) = h lock x
    by_either (inr y) = k lock y

-- the added function is named
pub record IsNamedRun (change : Called) (run : Run) : Type 0 where
  pub kind : CType
  pub place : Place
  pub is : run ≡ to_do (evaluates (function change.added.function)) kind place no_runs

-- a step of a part holds the node back
pub moving_holds : (scene : Scene) (world : World) (locks : List At) (opens : Open) (parts : Runs) (m : Move Runs Holes) → IsAmong m (moves_in scene world locks opens parts) → operands_in opens parts ≡ None
moving_holds scene world locks opens no_runs m h = absurd h
moving_holds scene world locks opens (more_runs first rest) m h =
    by_either (first_open opens) refl (among_either m _ _ h) (moving_holds scene world locks (others_open opens) rest)
  where
    from_first : (b : Bool) → IsAmong m (where_open b (map (lifted (λ run. more_runs run rest) (λ hole. in_first hole rest)) (moves scene world locks first))) → IsTrue b × IsToDo first
    from_first true k = let from = among-map_from (lifted (λ run. more_runs run rest) (λ hole. in_first hole rest)) m _ k in (refl, moving_to_do scene world locks first from.0 from.1)
    from_first false k = absurd k

    by_either : (b : Bool) → first_open opens ≡ b
        → IsAmong m (where_open (first_open opens) (map (lifted (λ run. more_runs run rest) (λ hole. in_first hole rest)) (moves scene world locks first)))
        ⊎ IsAmong m (map (lifted (more_runs first) (in_others first)) (moves_in scene world locks (others_open opens) rest))
        → ((x : Move Runs Holes) → IsAmong x (moves_in scene world locks (others_open opens) rest) → operands_in (others_open opens) rest ≡ None)
        → operands_in opens (more_runs first rest) ≡ None
    by_either b e (inl k) later = let there = from_first (first_open opens) k in none_first (first_open opens) first (operands_in (others_open opens) rest) there.0 there.1
    by_either b e (inr k) later =
        let from = among-map_from (lifted (more_runs first) (in_others first)) m _ k in
        none_later (first_open opens) first (operands_in (others_open opens) rest) (later from.0 from.1)

-- what has been made isn't n, so n isn't locked
pub unlocked : (memory : Memory) (n : ℕ) → look_up memory n ≡ None → (locks : List At) → LocksMade memory locks → overlaps_any (whole (numbered n)) locks ≡ false
unlocked memory n e [] h = refl
unlocked memory n e (lock ∷ locks) h =
    ap (λ b. b || overlaps_any (whole (numbered n)) locks) (by_name lock.name (h lock (inl refl)))
    ∙ unlocked memory n e locks (λ x k. h x (inr k))
  where
    by_name : (name : Name) → IsMadeName memory name → (same_name (numbered n) name && along [] lock.path) ≡ false
    by_name (numbered m) made = ap (λ b. b && along [] lock.path) (differ_is n m (λ f. none_is_some made.0 (sym e ∙ ap (look_up memory) f ∙ made.1)))
    by_name (literal_of bytes unit) made = refl
    by_name (elsewhere identifier) made = refl

-- the object of the parameter
abbrev pub parameter_block : Called → ℕ → Value → Block
parameter_block change p value = record (new_block (layout change.old) (type_declared (new_of change) p)) { contents = value }
