-- The names of objects that mean the same in every frame, from the beginning of a run on: those of static storage duration.
use Rattle.std.specs.Prelude.{◌≡◌, refl, ◌⊎◌, ℕ, suc, ◌==◌, Bool, true, false, ◌||◌, List, [], ◌∷◌, ◌++◌, Option, Some, None, pos, if◌then◌else◌}
use Rattle.std.proofs.Common.{true≢false, ap, sym, ◌∙◌, subst, inl, inr}
use Rattle.dm_token.specs.declared.place.Place.{Place}
use Rattle.dm_int.specs.declared.Kind.TheVariants.{Int}
use Rattle.dm_type.specs.CTypes.{CType}
use Rattle.dm_tree.specs.Trees.{object}
use Rattle.dm_meaning.specs.declared.cause.Cause.TheVariants.{NoValue}
use Rattle.dm_meaning.specs.Among.{IsAmong}
use Rattle.dm_meaning.specs.Machines.{undefined}
use Rattle.dm_meaning.specs.Values.{Value, integer_value, unset}
use Rattle.dm_meaning.specs.Programs.{Definition, Static, Program, declaration_of, definition_of}
use Rattle.dm_meaning.specs.Operations.{Objects, object_named}
use Rattle.dm_meaning.specs.Running.{Run, done, to_do, Hole, locks_in}
use Rattle.dm_meaning.specs.Expressions.{Move, goes, calls, fails, exits, moves}
use Rattle.dm_meaning.specs.States.{Use, Task, begins, declares, initials, evaluates, again, tests, ends, ends_switch, leaves, skips, hands_back, Caller, State}
use Rattle.dm_meaning.specs.Statements.{Turned, onward, refused, type_declared, named_from, begin_statement, begin_declarator, begin_initialiser, concluded, unfolded, ended, after_break, after_continue}
use Rattle.dm_meaning.specs.Steps.{opened, lacks_value, gone_back, handed_back, is_main, gives_nothing, body_place, no_place, closed, turned, moved, scene_of, expression_steps, task_steps, Step}
use Rattle.dm_meaning.specs.Units.{static_numbers, Begins}
use Rattle.dm_meaning.specs.Called.{is_static_number, is_nowhere_local, means_the_same}
use Rattle.dm_meaning.proofs.FrameLemmas.{StateLacks, lacks_later, begins_lacking}
use Rattle.dm_meaning.proofs.AmongLemmas.{among-map_from}
use Rattle.dm_meaning.proofs.OptionLemmas.{none_is_some}
use Rattle.dm_meaning.proofs.RunLemmas.{renamed_objects, object_renamed}
use Rattle.dm_meaning.proofs.StateLemmas.{from_steps}

-- an object has the name
abbrev pub IsNamed : Objects → ℕ → Type 0
IsNamed objects d = (n : ℕ) × (object_named objects d ≡ Some n)

-- each object of static storage duration that the program defines has a name
abbrev pub AreKnown : Program → Objects → Type 0
AreKnown program objects = (d : ℕ) → is_static_number program.statics d ≡ true → IsNamed objects d

-- ---- the beginning of a run

named_more : (e m : ℕ) (objects : Objects) (d : ℕ) → IsNamed objects d → IsNamed ((e, m) ∷ objects) d
named_more e m objects d h = by_case (e == d)
  where
    by_case : (b : Bool) → (n : ℕ) × ((if b then Some m else object_named objects d) ≡ Some n)
    by_case true = (m, refl)
    by_case false = h

or_true : (a b : Bool) → (a || b) ≡ true → (a ≡ true) ⊎ (b ≡ true)
or_true true b e = inl refl
or_true false b e = inr e

all_named : (names : ℕ → ℕ) (i : ℕ) (statics : List Static) (objects : Objects) (d : ℕ) → (is_static_number statics d ≡ true) ⊎ IsNamed objects d → IsNamed (named_from names i (static_numbers statics) objects) d
all_named names i [] objects d (inl e) = absurd (true≢false (sym e))
all_named names i [] objects d (inr h) = h
all_named names i (static ∷ statics) objects d (inr h) =
    all_named names (suc i) statics ((static.declared, names i) ∷ objects) d (inr (named_more static.declared (names i) objects d h))
all_named names i (static ∷ statics) objects d (inl e) = by_name (or_true (static.declared == d) (is_static_number statics d) e) (all_named names (suc i) statics ((static.declared, names i) ∷ objects) d)
  where
    by_name : ((static.declared == d) ≡ true) ⊎ (is_static_number statics d ≡ true)
        → ((is_static_number statics d ≡ true) ⊎ IsNamed ((static.declared, names i) ∷ objects) d → IsNamed (named_from names (suc i) (static_numbers statics) ((static.declared, names i) ∷ objects)) d)
        → IsNamed (named_from names (suc i) (static_numbers statics) ((static.declared, names i) ∷ objects)) d
    by_name (inl f) later = later (inr (names i, ap (λ b. if b then Some (names i) else object_named objects d) f))
    by_name (inr f) later = later (inl f)

begins_named : (program : Program) (input : List ℕ) (state : State) → Begins program input state → AreKnown program state.statics
begins_named program input state (bytes, names, fresh, main, is_main, e) =
    subst (λ (s : State). AreKnown program s.statics) (sym e) (λ d f. all_named names 0 program.statics [] d (inl f))

-- ---- steps

turned_statics : (state : State) (t : Turned) → (turned state t).statics ≡ state.statics
turned_statics state (onward objects tasks memory) = refl
turned_statics state (refused cause place) = refl

opened_statics : (program : Program) (names : ℕ → ℕ) (state : State) (rest : List Task) (place : Place) (use_of : Use) (kind : CType) (hole : Hole) (arguments : List Value) (o : Option Definition)
    → (opened program names state rest place use_of kind hole arguments o).statics ≡ state.statics
opened_statics program names state rest place use_of kind hole arguments None = refl
opened_statics program names state rest place use_of kind hole arguments (Some definition) = refl

moved_statics : (program : Program) (names : ℕ → ℕ) (state : State) (rest : List Task) (place : Place) (use_of : Use) (m : Move Run Hole) → (moved program names state rest place use_of m).statics ≡ state.statics
moved_statics program names state rest place use_of (goes world run) = refl
moved_statics program names state rest place use_of (calls f arguments kind hole) = opened_statics program names state rest place use_of kind hole arguments (definition_of program f)
moved_statics program names state rest place use_of (fails cause at) = refl
moved_statics program names state rest place use_of (exits status) = refl

if_statics : (b : Bool) (s t : State) (statics : Objects) → s.statics ≡ statics → t.statics ≡ statics → (if b then s else t).statics ≡ statics
if_statics true s t statics h k = h
if_statics false s t statics h k = k

back_statics : (state : State) (value : Value) (callers : List Caller) → (handed_back state value callers).statics ≡ state.statics
back_statics state value [] = refl
back_statics state value (caller ∷ callers) =
    if_statics (lacks_value caller.kind value) (record state { standing = undefined NoValue caller.place }) (gone_back state value caller callers) state.statics refl refl

closed_statics : (program : Program) (state : State) → (closed program state).statics ≡ state.statics
closed_statics program state =
    let other = if gives_nothing (type_declared program state.frame.function) then record state { frame = record state.frame { tasks = hands_back unset ∷ [] } }
    else record state { standing = undefined NoValue (body_place (definition_of program state.frame.function) no_place) } in
    if_statics (is_main (declaration_of program state.frame.function)) (record state { frame = record state.frame { tasks = hands_back (integer_value Int (pos 0)) ∷ [] } }) other state.statics refl
    (if_statics (gives_nothing (type_declared program state.frame.function)) (record state { frame = record state.frame { tasks = hands_back unset ∷ [] } })
    (record state { standing = undefined NoValue (body_place (definition_of program state.frame.function) no_place) }) state.statics refl refl)

one_statics : (state other one : State) → one.statics ≡ state.statics → IsAmong other (one ∷ []) → other.statics ≡ state.statics
one_statics state other one e (inl f) = ap (λ (s : State). s.statics) f ∙ e
one_statics state other one e (inr k) = absurd k

expression_statics : (program : Program) (names : ℕ → ℕ) (state : State) (rest : List Task) (place : Place) (use_of : Use) (run : Run) (other : State)
    → IsAmong other (expression_steps program names state rest place use_of run) → other.statics ≡ state.statics
expression_statics program names state rest place use_of (done kind result locks) other k =
    one_statics state other _ (turned_statics state (concluded program state.frame.objects rest state.world.memory place use_of result)) k
expression_statics program names state rest place use_of (to_do doing kind at parts) other k =
    let from = among-map_from (moved program names state rest place use_of) other (moves (scene_of program state) state.world (locks_in (to_do doing kind at parts)) (to_do doing kind at parts)) k in
    ap (λ (s : State). s.statics) from.2 ∙ moved_statics program names state rest place use_of from.0

task_statics : (program : Program) (names : ℕ → ℕ) (state : State) (tasks : List Task) (other : State) → IsAmong other (task_steps program names state tasks) → other.statics ≡ state.statics
task_statics program names state [] other k = one_statics state other (closed program state) (closed_statics program state) k
task_statics program names state (begins tree ∷ rest) other k = one_statics state other _ (turned_statics state (begin_statement program names state.frame.objects rest state.world.memory tree)) k
task_statics program names state (declares declarator trees ∷ rest) other k = one_statics state other _ (turned_statics state (begin_declarator program state.frame.objects rest state.world.memory declarator trees)) k
task_statics program names state (initials at kind initialiser trees ∷ rest) other k = one_statics state other _ (turned_statics state (begin_initialiser program state.frame.objects rest state.world.memory at kind initialiser trees)) k
task_statics program names state (evaluates place run use_of ∷ rest) other k = expression_statics program names state rest place use_of run other k
task_statics program names state (again saved loop ∷ rest) other k = absurd k
task_statics program names state (tests saved loop ∷ rest) other k = absurd k
task_statics program names state (ends saved ∷ rest) other k = one_statics state other _ (turned_statics state (ended saved state.frame.objects rest state.world.memory)) k
task_statics program names state (ends_switch saved ∷ rest) other k = one_statics state other _ (turned_statics state (ended saved state.frame.objects rest state.world.memory)) k
task_statics program names state (leaves ∷ rest) other k = one_statics state other _ (turned_statics state (after_break state.frame.objects state.world.memory rest)) k
task_statics program names state (skips ∷ rest) other k = one_statics state other _ (turned_statics state (after_continue state.frame.objects state.world.memory rest)) k
task_statics program names state (hands_back value ∷ rest) other k = one_statics state other (handed_back state value state.callers) (back_statics state value state.callers) k

-- a step changes none of them
named_later : (program : Program) (state other : State) → Step program state other → AreKnown program state.statics → AreKnown program other.statics
named_later program state other step h =
    subst (AreKnown program) (sym (task_statics program step.0 state (unfolded state.frame.tasks) other (from_steps state.standing _ other step.2).1)) h

-- ---- frames

-- such an object is found before a frame's own
found_first : (statics own : Objects) (d n : ℕ) → object_named statics d ≡ Some n → object_named (statics ++ own) d ≡ Some n
found_first [] own d n e = absurd (none_is_some n e)
found_first (entry ∷ entries) own d n e = by_case (entry.0 == d) e (found_first entries own d n)
  where
    by_case : (b : Bool) → (if b then Some entry.1 else object_named entries d) ≡ Some n → (object_named entries d ≡ Some n → object_named (entries ++ own) d ≡ Some n)
        → (if b then Some entry.1 else object_named (entries ++ own) d) ≡ Some n
    by_case true f later = f
    by_case false f later = later f

-- it is the same in two frames
same_static : (rename : ℕ → ℕ) → ((c d : ℕ) → rename c ≡ rename d → c ≡ d) → (statics own others : Objects) (d : ℕ) → IsNamed statics d
    → object_named (renamed_objects rename statics ++ own) (rename d) ≡ object_named (statics ++ others) d
same_static rename injective statics own others d h =
    found_first (renamed_objects rename statics) own (rename d) h.0 (object_renamed rename injective statics d ∙ h.1) ∙ sym (found_first statics others d h.0 h.1)

-- what a frame doesn't name is found beside it
found_beside : (statics own : Objects) (d : ℕ) → object_named own d ≡ None → object_named (statics ++ own) d ≡ object_named statics d
found_beside [] own d e = e
found_beside (entry ∷ entries) own d e = ap (λ o. if entry.0 == d then Some entry.1 else o) (found_beside entries own d e)

-- ---- what is known of the names in a state

-- each object of static storage duration that the program defines has a name, and no frame has one of an object that no function has as its own
abbrev pub NamesKnown : Program → State → Type 0
NamesKnown program state = AreKnown program state.statics × ((d : ℕ) → is_nowhere_local program d ≡ true → StateLacks d state)

pub begins_known : (program : Program) (input : List ℕ) (state : State) → Begins program input state → NamesKnown program state
begins_known program input state beginning = (begins_named program input state beginning, λ d apart. begins_lacking program d apart input state beginning)

pub known_later : (program : Program) (state other : State) → Step program state other → NamesKnown program state → NamesKnown program other
known_later program state other step known = (named_later program state other step known.0, λ d apart. lacks_later program d apart state other step (known.1 d apart))

-- such a name means the same in the added function
pub same_named : (program : Program) (rename : ℕ → ℕ) → ((c d : ℕ) → rename c ≡ rename d → c ≡ d) → (state : State) → NamesKnown program state → (own : Objects) (d : ℕ) → object_named own (rename d) ≡ None
    → means_the_same program (object d) ≡ true → object_named (renamed_objects rename state.statics ++ own) (rename d) ≡ object_named (state.statics ++ state.frame.objects) d
same_named program rename injective state known own d other e = by_case (or_true (is_static_number program.statics d) (is_nowhere_local program d) e)
  where
    by_case : (is_static_number program.statics d ≡ true) ⊎ (is_nowhere_local program d ≡ true)
        → object_named (renamed_objects rename state.statics ++ own) (rename d) ≡ object_named (state.statics ++ state.frame.objects) d
    by_case (inl f) = same_static rename injective state.statics own state.frame.objects d (known.0 d f)
    by_case (inr f) =
        found_beside (renamed_objects rename state.statics) own (rename d) other ∙ object_renamed rename injective state.statics d
        ∙ sym (found_beside state.statics state.frame.objects d (known.1 d f).0.0)
