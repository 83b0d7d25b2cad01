-- Objects keep their types: in later memory each name, place and thing that is left to do is what it was.
use Rattle.std.specs.Prelude.{◌≡◌, refl, ℕ, suc, ◌+◌, ◌≤◌, ◌==◌, Bool, true, false, ◌||◌, List, [], ◌∷◌, ◌++◌, length, Option, Some, None, option_map, if◌then◌else◌}
use Rattle.std.proofs.Common.{arith, ap, sym, ◌∙◌, subst}
use Rattle.std.proofs.lemmas.Bool.{false≢true}
use Rattle.dm_type.specs.CTypes.{CType, bare, is_const}
use Rattle.dm_tree.specs.Trees.{Tree}
use Rattle.dm_meaning.specs.Values.{Name, numbered, literal_of, elsewhere, part, past, Path, At, Value, with_part}
use Rattle.dm_meaning.specs.Objects.{Layout, Reached, object_of, outside, foreign, unknown, from_part, element, part_at}
use Rattle.dm_meaning.specs.Memory.{Memory, Block, look_up, changed_block, new_block, look, reached_in, reached, written, killed}
use Rattle.dm_meaning.specs.Programs.{Program, layout}
use Rattle.dm_meaning.specs.Operations.{Objects, object_named, whole, part_of}
use Rattle.dm_meaning.specs.States.{Use, drops, chooses, selects, repeats, continues, returns, initialises, Task, begins, declares, initials, evaluates, again, tests, ends, ends_switch, leaves, skips, hands_back, Frame, Caller}
use Rattle.dm_meaning.specs.Statements.{type_declared, named_from, made_from}
use Rattle.dm_meaning.specs.Steps.{given_from}
use Rattle.dm_meaning.proofs.ExtendLemmas.{look_changed}
use Rattle.dm_meaning.proofs.OptionLemmas.{none_is_some, some_is_some}
use Rattle.dm_sound.specs.TypedStates.{IsOfKind, AreNamed, IsPlace, UseFits, TaskFits, TasksFit, IsTypedFrame, AreTypedCallers}

-- ---- types of objects

-- each object is there later, with its type
abbrev pub Keeps : Memory → Memory → Type 0
Keeps memory later = (n : ℕ) (block : Block) → look_up memory n ≡ Some block → IsOfKind later n block.kind

pub keeps_same : (memory : Memory) → Keeps memory memory
keeps_same memory n block e = (block, e, refl)

pub keeps_then : (memory other later : Memory) → Keeps memory other → Keeps other later → Keeps memory later
keeps_then memory other later h k n block e =
    let first = h n block e in
    let second = k n first.0 first.1 in
    (second.0, second.1, second.2 ∙ first.2)

kind_if : (b : Bool) (change : Block → Block) (block : Block) → ((x : Block) → (change x).kind ≡ x.kind) → (if b then change block else block).kind ≡ block.kind
kind_if true change block h = h block
kind_if false change block h = refl

keeps_changed : (m : ℕ) (change : Block → Block) (memory : Memory) → ((x : Block) → (change x).kind ≡ x.kind) → Keeps memory (changed_block m change memory)
keeps_changed m change memory h n block e =
    (if n == m then change block else block, look_changed m change memory n ∙ ap (option_map (λ (x : Block). if n == m then change x else x)) e, kind_if (n == m) change block h)

keeps_written_in : (name : Name) (path : Path) (value : Value) (memory : Memory) → Keeps memory (written memory (record { name = name; path = path }) value)
keeps_written_in (numbered m) path value memory = keeps_changed m (λ (block : Block). record block { contents = with_part path value block.contents }) memory (λ x. refl)
keeps_written_in (literal_of bytes unit) path value memory = keeps_same memory
keeps_written_in (elsewhere identifier) path value memory = keeps_same memory

pub keeps_written : (at : At) (value : Value) (memory : Memory) → Keeps memory (written memory at value)
keeps_written at value memory = keeps_written_in at.name at.path value memory

pub keeps_killed : (ns : List ℕ) (memory : Memory) → Keeps memory (killed ns memory)
keeps_killed [] memory = keeps_same memory
keeps_killed (m ∷ ns) memory =
    let end : Block → Block = λ block. record block { alive = false } in
    keeps_then memory (changed_block m end memory) (killed ns (changed_block m end memory)) (keeps_changed m end memory (λ x. refl)) (keeps_killed ns (changed_block m end memory))

equal_of : (a b : ℕ) → (a == b) ≡ true → a ≡ b
equal_of a b e = grind arith

pub same : (n : ℕ) → (n == n) ≡ true
same n = grind arith

pub keeps_added : (m : ℕ) (one : Block) (memory : Memory) → look_up memory m ≡ None → Keeps memory ((m, one) ∷ memory)
keeps_added m one memory new n block e = by_name (m == n) refl
  where
    by_name : (b : Bool) → (m == n) ≡ b → IsOfKind ((m, one) ∷ memory) n block.kind
    by_name true f = absurd (none_is_some block (sym new ∙ ap (look_up memory) (equal_of m n f) ∙ e))
    by_name false f = (block, ap (λ b. if b then Some one else look_up memory n) f ∙ e, refl)

-- ---- names

module _ (program : Program) where
  pub named_later : (memory later : Memory) → Keeps memory later → (objects : Objects) → AreNamed program memory objects → AreNamed program later objects
  named_later memory later k [] h = tt
  named_later memory later k (entry ∷ entries) h =
      let there = k entry.1 h.0.0 h.0.1 in
      ((there.0, there.1, there.2 ∙ h.0.2), named_later memory later k entries h.1)

  -- the object that a declaration names
  pub named_there : (memory : Memory) (objects : Objects) → AreNamed program memory objects → (d n : ℕ) → object_named objects d ≡ Some n → IsOfKind memory n (type_declared program d)
  named_there memory [] h d n e = absurd (none_is_some n e)
  named_there memory (entry ∷ entries) h d n e = by_name (entry.0 == d) refl e (named_there memory entries h.1 d n)
    where
      by_name : (b : Bool) → (entry.0 == d) ≡ b → (if b then Some entry.1 else object_named entries d) ≡ Some n → (object_named entries d ≡ Some n → IsOfKind memory n (type_declared program d))
          → IsOfKind memory n (type_declared program d)
      by_name true f g later =
          subst (λ m. IsOfKind memory m (type_declared program d)) (some_is_some entry.1 n g)
          (subst (λ c. IsOfKind memory entry.1 (type_declared program c)) (equal_of entry.0 d f) h.0)
      by_name false f g later = later g

  -- new objects have names of their own
  module _ (names : ℕ → ℕ) (distinct : (i j : ℕ) → names i ≡ names j → i ≡ j) where
    abbrev pub AreNewFrom : ℕ → Memory → Type 0
    AreNewFrom i memory = (j : ℕ) → i ≤ j → look_up memory (names j) ≡ None

    pub new_added : (i : ℕ) (one : Block) (memory : Memory) → AreNewFrom i memory → AreNewFrom (suc i) ((names i, one) ∷ memory)
    new_added i one memory new j le = by_name (names i == names j) refl
      where
        apart : i ≡ j → ⊥
        apart e = omega (arith, e, le)

        by_name : (b : Bool) → (names i == names j) ≡ b → (if b then Some one else look_up memory (names j)) ≡ None
        by_name true f = absurd (apart (distinct i j (equal_of (names i) (names j) f)))
        by_name false f = new j (omega (arith, le))

    pub named_added : (i d : ℕ) (one : Block) (objects : Objects) (memory : Memory) → one.kind ≡ type_declared program d → AreNewFrom i memory → AreNamed program memory objects
        → AreNamed program ((names i, one) ∷ memory) ((d, names i) ∷ objects)
    named_added i d one objects memory e new h =
        ((one, ap (λ b. if b then Some one else look_up memory (names i)) (same (names i)), e), named_later memory ((names i, one) ∷ memory) (keeps_added (names i) one memory (new i (omega arith))) objects h)

    pub made_keeps : (i : ℕ) (ds : List ℕ) (memory : Memory) → AreNewFrom i memory → Keeps memory (made_from program names i ds memory)
    made_keeps i [] memory new = keeps_same memory
    made_keeps i (d ∷ ds) memory new =
        let one = new_block (layout program) (type_declared program d) in
        keeps_then memory ((names i, one) ∷ memory) (made_from program names (suc i) ds ((names i, one) ∷ memory)) (keeps_added (names i) one memory (new i (omega arith)))
        (made_keeps (suc i) ds ((names i, one) ∷ memory) (new_added i one memory new))

    pub made_named : (i : ℕ) (ds : List ℕ) (objects : Objects) (memory : Memory) → AreNewFrom i memory → AreNamed program memory objects → AreNamed program (made_from program names i ds memory) (named_from names i ds objects)
    made_named i [] objects memory new h = h
    made_named i (d ∷ ds) objects memory new h =
        let one = new_block (layout program) (type_declared program d) in
        made_named (suc i) ds ((d, names i) ∷ objects) ((names i, one) ∷ memory) (new_added i one memory new) (named_added i d one objects memory refl new h)

    -- the objects of parameters
    pub record AreGiven (n : ℕ) (memory later : Memory) (objects : Objects) : Type 0 where
      pub keeps : Keeps memory later
      pub named : AreNamed program later objects
      pub new : AreNewFrom n later

    pub given_then : (n i : ℕ) (one : Block) (memory later : Memory) (objects : Objects) → AreNewFrom i memory → AreGiven n ((names i, one) ∷ memory) later objects → AreGiven n memory later objects
    given_then n i one memory later objects new h = record {
      keeps = keeps_then memory ((names i, one) ∷ memory) later (keeps_added (names i) one memory (new i (omega arith))) h.keeps;
      named = h.named;
      new = h.new;
    }

    pub given_named : (i : ℕ) (ds : List ℕ) (values : List Value) (objects : Objects) (memory : Memory) (n : ℕ) → n ≡ i + length ds → AreNewFrom i memory → AreNamed program memory objects
        → AreGiven n memory (given_from program names i ds values memory) (named_from names i ds objects)
    given_named i [] [] objects memory n e new h = record { keeps = keeps_same memory; named = h; new = λ j le. new j (omega (arith, e, le)) }
    given_named i [] (value ∷ values) objects memory n e new h = record { keeps = keeps_same memory; named = h; new = λ j le. new j (omega (arith, e, le)) }
    given_named i (d ∷ ds) [] objects memory n e new h =
        let one = new_block (layout program) (type_declared program d) in
        given_then n i one memory (given_from program names (suc i) ds [] ((names i, one) ∷ memory)) (named_from names (suc i) ds ((d, names i) ∷ objects)) new
        (given_named (suc i) ds [] ((d, names i) ∷ objects) ((names i, one) ∷ memory) n (omega (arith, e)) (new_added i one memory new) (named_added i d one objects memory refl new h))
    given_named i (d ∷ ds) (value ∷ values) objects memory n e new h =
        let one = record (new_block (layout program) (type_declared program d)) { contents = value } in
        given_then n i one memory (given_from program names (suc i) ds values ((names i, one) ∷ memory)) (named_from names (suc i) ds ((d, names i) ∷ objects)) new
        (given_named (suc i) ds values ((d, names i) ∷ objects) ((names i, one) ∷ memory) n (omega (arith, e)) (new_added i one memory new) (named_added i d one objects memory refl new h))

-- ---- places

abbrev is_object : Reached → Bool
is_object (object_of type fixed) = true
is_object reached = false

reached_later : (laid : Layout) (memory later : Memory) → Keeps memory later → (path : Path) (n : ℕ) (kind : CType) (f : Bool) → (o : Option Block) → look_up memory n ≡ o → reached_in laid path o ≡ object_of kind f
    → reached_in laid path (look_up later n) ≡ object_of kind f
reached_later laid memory later k path n kind f None e g = absurd (false≢true (ap is_object g))
reached_later laid memory later k path n kind f (Some block) e g =
    let there = k n block e in
    ap (reached_in laid path) there.1 ∙ ap (λ (t : CType). part_at laid false t path) there.2 ∙ g

place_in : (laid : Layout) (memory later : Memory) → Keeps memory later → (name : Name) (path : Path) (kind : CType) (f : Bool) → reached_in laid path (look memory name) ≡ object_of kind f
    → reached_in laid path (look later name) ≡ object_of kind f
place_in laid memory later k (numbered n) path kind f e = reached_later laid memory later k path n kind f (look_up memory n) refl e
place_in laid memory later k (literal_of bytes unit) path kind f e = e
place_in laid memory later k (elsewhere identifier) path kind f e = e

pub place_later : (laid : Layout) (memory later : Memory) → Keeps memory later → (at : At) (kind : CType) → IsPlace laid memory at kind → IsPlace laid later at kind
place_later laid memory later k at kind h = (h.0, place_in laid memory later k at.name at.path (bare kind) h.0 h.1)

-- the whole object of a declaration
pub whole_place : (laid : Layout) (memory : Memory) (n : ℕ) (kind : CType) → IsOfKind memory n kind → IsPlace laid memory (whole (numbered n)) kind
whole_place laid memory n kind h = (is_const h.0.kind, ap (reached_in laid []) h.1 ∙ ap (λ (t : CType). object_of (bare t) (is_const h.0.kind)) h.2)

same_kind : (a b : CType) (f g : Bool) → object_of a f ≡ object_of b g → a ≡ b
same_kind a b f g e = cc

-- one more part
part_there : (laid : Layout) (fixed : Bool) (type : CType) (path : Path) (kind : CType) (f : Bool) → part_at laid fixed type path ≡ object_of kind f → (n : ℕ) (inner : CType) → element laid kind n ≡ object_of inner false
    → (g : Bool) × (part_at laid fixed type (path ++ part n ∷ []) ≡ object_of (bare inner) g)
part_there laid fixed type [] kind f e n inner h =
    let last : CType → Reached = λ i. part_at laid (fixed || is_const type) i [] in
    ((fixed || is_const type) || is_const inner, ap (λ (t : CType). from_part (element laid t n) last) (same_kind (bare type) kind (fixed || is_const type) f e) ∙ ap (λ (r : Reached). from_part r last) h)
part_there laid fixed type (past ∷ path) kind f e n inner h = absurd (false≢true (ap is_object e))
part_there laid fixed type (part m ∷ path) kind f e n inner h =
    by_element (element laid (bare type) m) e (λ i k. part_there laid (fixed || is_const type) i path kind f k n inner h)
  where
    by_element : (r : Reached) → from_part r (λ (i : CType). part_at laid (fixed || is_const type) i path) ≡ object_of kind f
        → ((i : CType) → part_at laid (fixed || is_const type) i path ≡ object_of kind f → (g : Bool) × (part_at laid (fixed || is_const type) i (path ++ part n ∷ []) ≡ object_of (bare inner) g))
        → (g : Bool) × (from_part r (λ (i : CType). part_at laid (fixed || is_const type) i (path ++ part n ∷ [])) ≡ object_of (bare inner) g)
    by_element (object_of i c) k later = later i k
    by_element outside k later = absurd (false≢true (ap is_object k))
    by_element foreign k later = absurd (false≢true (ap is_object k))
    by_element unknown k later = absurd (false≢true (ap is_object k))

pub part_place : (laid : Layout) (memory : Memory) (at : At) (kind : CType) → IsPlace laid memory at kind → (n : ℕ) (inner : CType) → element laid (bare kind) n ≡ object_of inner false → IsPlace laid memory (part_of at n) inner
part_place laid memory at kind h n inner e = by_block (look memory at.name) h.1
  where
    by_block : (o : Option Block) → reached_in laid at.path o ≡ object_of (bare kind) h.0 → (g : Bool) × (reached_in laid (at.path ++ part n ∷ []) o ≡ object_of (bare inner) g)
    by_block None k = absurd (false≢true (ap is_object k))
    by_block (Some block) k = part_there laid false block.kind at.path (bare kind) h.0 k n inner e

-- ---- what is left to do

module _ (program : Program) (memory later : Memory) (keeps : Keeps memory later) where
  pub use_later : (result : CType) (tree : Tree) (use_of : Use) → UseFits program memory result tree use_of → UseFits program later result tree use_of
  use_later result tree drops h = h
  use_later result tree (chooses first second) h = h
  use_later result tree (selects items) h = h
  use_later result tree (repeats loop) h = h
  use_later result tree (continues loop) h = h
  use_later result tree returns h = h
  use_later result tree (initialises at kind) h = (place_later (layout program) memory later keeps at kind h.0, h.1)

  task_later : (result : CType) (task : Task) → TaskFits program memory result task → TaskFits program later result task
  task_later result (begins tree) h = h
  task_later result (declares declarator trees) h = h
  task_later result (initials at kind initialiser trees) h = (place_later (layout program) memory later keeps at kind h.0, h.1)
  task_later result (evaluates place run use_of) h = (h.0, h.1, h.2, use_later result h.0 use_of h.3, h.4)
  task_later result (again saved loop) h = (named_later program memory later keeps saved h.0, h.1)
  task_later result (tests saved loop) h = (named_later program memory later keeps saved h.0, h.1)
  task_later result (ends saved) h = named_later program memory later keeps saved h
  task_later result (ends_switch saved) h = named_later program memory later keeps saved h
  task_later result leaves h = h
  task_later result skips h = h
  task_later result (hands_back value) h = h

  pub tasks_later : (result : CType) (tasks : List Task) → TasksFit program memory result tasks → TasksFit program later result tasks
  tasks_later result [] h = tt
  tasks_later result (task ∷ tasks) h = (task_later result task h.0, tasks_later result tasks h.1)

  pub frame_later : (frame : Frame) → IsTypedFrame program memory frame → IsTypedFrame program later frame
  frame_later frame h = record {
    definition = h.definition;
    defined = h.defined;
    named = named_later program memory later keeps frame.objects h.named;
    tasks = tasks_later _ frame.tasks h.tasks;
  }

  pub callers_later : (called : ℕ) (callers : List Caller) → AreTypedCallers program memory called callers → AreTypedCallers program later called callers
  callers_later called [] h = tt
  callers_later called (caller ∷ callers) h = (
    record {
      frame = frame_later caller.frame h.0.frame;
      tree = h.0.tree;
      typed = h.0.typed;
      comes = h.0.comes;
      use_of = use_later _ h.0.tree caller.use_of h.0.use_of;
      whole = h.0.whole;
      result = h.0.result;
      gives = h.0.gives;
      covered = h.0.covered;
    },
    callers_later caller.frame.function callers h.1,
  )
