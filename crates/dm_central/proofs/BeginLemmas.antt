-- The beginnings of runs: no frame waits, and the objects of `main` and of static storage duration are distinct.
use Rattle.std.specs.Prelude.{◌≡◌, refl, ℕ, suc, ◌+◌, ◌≤◌, false, List, [], ◌∷◌, length, Option, Some, None}
use Rattle.std.proofs.Common.{arith, ap, sym, subst, inl, inr}
use Rattle.dm_tree.specs.Trees.{Initialiser, parts_of}
use Rattle.dm_meaning.specs.Among.{IsAmong}
use Rattle.dm_meaning.specs.Lifetimes.{numbers_of}
use Rattle.dm_meaning.specs.Memory.{Memory, Block, new_block, killed, IsFresh}
use Rattle.dm_meaning.specs.MoreObjects.{IsMade, ObjectsMade}
use Rattle.dm_meaning.specs.Objects.{all_zero}
use Rattle.dm_meaning.specs.Operations.{World, Objects, object_named}
use Rattle.dm_meaning.specs.Programs.{Program, Definition, Static, layout}
use Rattle.dm_meaning.specs.States.{State}
use Rattle.dm_meaning.specs.Statements.{type_declared, declared_in, named_from, made_from}
use Rattle.dm_meaning.specs.Steps.{given_from, opened_frame, opened_memory}
use Rattle.dm_meaning.specs.Units.{static_numbers, zeroed_from, initialised, all_initialised, statics_memory, arguments_for, start, Begins}
use Rattle.dm_meaning.specs.Values.{Value}
use Rattle.dm_meaning.proofs.GrowLemmas.{made_changed, made_added, made_itself}
use Rattle.dm_central.specs.Waiting.{any_name, any_run, FrameHas, IsEntry, AreOwn, IsWaiting}
use Rattle.dm_central.proofs.ShapeLemmas.{items_have_none}
use Rattle.dm_central.proofs.WaitingLemmas.{Beyond, all_more}

-- ---- what stays made

pub made_killed : (ns : List ℕ) (memory : Memory) (n : ℕ) → IsMade memory n → IsMade (killed ns memory) n
made_killed [] memory n h = h
made_killed (m ∷ ns) memory n h = made_killed ns _ n (made_changed m (λ block. record block { alive = false }) memory n h)

made_made : (program : Program) (names : ℕ → ℕ) (i : ℕ) (ds : List ℕ) (memory : Memory) (n : ℕ) → IsMade memory n → IsMade (made_from program names i ds memory) n
made_made program names i [] memory n h = h
made_made program names i (d ∷ ds) memory n h = made_made program names (suc i) ds _ n (made_added (names i) (new_block (layout program) (type_declared program d)) memory n h)

made_given : (program : Program) (names : ℕ → ℕ) (i : ℕ) (ds : List ℕ) (values : List Value) (memory : Memory) (n : ℕ) → IsMade memory n → IsMade (given_from program names i ds values memory) n
made_given program names i [] values memory n h = h
made_given program names i (d ∷ ds) [] memory n h = made_given program names (suc i) ds [] _ n (made_added (names i) (new_block (layout program) (type_declared program d)) memory n h)
made_given program names i (d ∷ ds) (value ∷ values) memory n h =
    made_given program names (suc i) ds values _ n (made_added (names i) (record (new_block (layout program) (type_declared program d)) { contents = value }) memory n h)

pub made_opened : (program : Program) (names : ℕ → ℕ) (definition : Definition) (arguments : List Value) (memory : Memory) (n : ℕ) → IsMade memory n → IsMade (opened_memory program names definition arguments memory) n
made_opened program names definition arguments memory n h =
    made_made program names (length definition.parameters) (declared_in program (parts_of definition.body)) (given_from program names 0 definition.parameters arguments memory) n
    (made_given program names 0 definition.parameters arguments memory n h)

-- ---- objects of static storage duration

zeroed_made : (program : Program) (names : ℕ → ℕ) (i : ℕ) (ds : List ℕ) (memory : Memory) (objects : Objects) → ObjectsMade memory objects → ObjectsMade (zeroed_from program names i ds memory) (named_from names i ds objects)
zeroed_made program names i [] memory objects h = h
zeroed_made program names i (d ∷ ds) memory objects h =
    zeroed_made program names (suc i) ds ((names i, zero_block) ∷ memory) ((d, names i) ∷ objects) (λ n l. one n l)
  where
    zero_block : Block
    zero_block = record (new_block (layout program) (type_declared program d)) { contents = all_zero (layout program) (type_declared program d) }

    one : (n : ℕ) → IsAmong n (numbers_of ((d, names i) ∷ objects)) → IsMade ((names i, zero_block) ∷ memory) n
    one n (inl e) = subst (IsMade ((names i, zero_block) ∷ memory)) (sym e) (made_itself (names i) zero_block memory)
    one n (inr l) = made_added (names i) zero_block memory n (h n l)

one_initialised : (program : Program) (objects : Objects) (known : Memory) (static : Static) (o : Option ℕ) (initialiser : Option Initialiser) (memory : Memory) (n : ℕ) → IsMade memory n
    → IsMade (initialised program objects known static o initialiser memory) n
one_initialised program objects known static None initialiser memory n h = h
one_initialised program objects known static (Some m) None memory n h = h
one_initialised program objects known static (Some m) (Some initialiser) memory n h = made_changed m _ memory n h

all_initialised_made : (program : Program) (objects : Objects) (known : Memory) (statics : List Static) (memory : Memory) (n : ℕ) → IsMade memory n → IsMade (all_initialised program objects known statics memory) n
all_initialised_made program objects known [] memory n h = h
all_initialised_made program objects known (static ∷ statics) memory n h =
    all_initialised_made program objects known statics _ n (one_initialised program objects known static (object_named objects static.declared) static.initialiser memory n h)

-- ---- names

numbers_count : (statics : List Static) → length (static_numbers statics) ≡ length statics
numbers_count [] = refl
numbers_count (static ∷ statics) = ap suc (numbers_count statics)

module _ (program : Program) (names : ℕ → ℕ) (fresh : IsFresh names []) where
  none_older : (w : World) → IsAmong w [] → (n : ℕ) → IsMade w.memory n → IsMade [] n
  none_older w l n k = absurd l

  pub own_statics : AreOwn [] [] (named_from names 0 (static_numbers program.statics) []) × Beyond names [] (length program.statics) (named_from names 0 (static_numbers program.statics) [])
  own_statics =
      all_more names [] fresh [] [] none_older 0 (static_numbers program.statics) [] (record { apart = λ x y k l e. no_entry x k; local = λ x y k l e. absurd k; missing = λ w l n k. absurd k }) (λ k later entry l e. no_entry entry l) (length program.statics)
      (subst (λ n. 0 + n ≤ length program.statics) (sym (numbers_count program.statics)) (at_zero (length program.statics)))
    where
      at_zero : (n : ℕ) → 0 + n ≤ n
      at_zero n = omega arith

      no_entry : {A : Type 0} (x : ℕ × ℕ) → IsEntry [] [] x → A
      no_entry x (inl k) = absurd k
      no_entry x (inr k) = absurd k

  abbrev others : ℕ → ℕ
  others i = names (suc (length program.statics) + i)

  abbrev statics : Objects
  statics = named_from names 0 (static_numbers program.statics) []

  pub own_frame : (main : Definition) → FrameHas (AreOwn statics []) (opened_frame program others main)
  own_frame main =
      let items = parts_of main.body in
      let others_fresh : IsFresh others [] = (λ i j e. same_rest (length program.statics) i j (fresh.0 (suc (length program.statics) + i) (suc (length program.statics) + j) e), λ i. refl) in
      let first = all_more others [] others_fresh statics [] none_older 0 main.parameters [] (record { apart = λ x y k l e. own_statics.0.apart x y (static_entry x k) (static_entry y l) e; local = λ x y k l e. absurd l; missing = λ w l n k. absurd k })
      (λ k later entry l e. own_statics.1 (suc (length program.statics) + k) (further (length program.statics) k) entry (static_entry entry l) e) (length main.parameters) (at_zero (length main.parameters)) in
      let second = all_more others [] others_fresh statics [] none_older (length main.parameters) (declared_in program items) (named_from others 0 main.parameters []) first.0 first.1
      (length main.parameters + length (declared_in program items)) (itself (length main.parameters + length (declared_in program items))) in
      (second.0, items_have_none program (AreOwn statics []) any_name any_run items)
    where
      at_zero : (n : ℕ) → 0 + n ≤ n
      at_zero n = omega arith

      itself : (n : ℕ) → n ≤ n
      itself n = omega arith

      same_rest : (a i j : ℕ) → suc a + i ≡ suc a + j → i ≡ j
      same_rest a i j e = omega (arith, e)

      further : (a k : ℕ) → a ≤ suc a + k
      further a k = omega arith

      static_entry : (x : ℕ × ℕ) → IsEntry statics [] x → IsEntry [] statics x
      static_entry x (inl k) = inr k
      static_entry x (inr k) = absurd k

  waiting_start : (main : Definition) (input : List ℕ) → IsWaiting [] (start names program main input)
  waiting_start main input = record {
    statics = λ n l.
        made_opened program others main (arguments_for (names (length program.statics)) main.parameters) _ n
        (made_added (names (length program.statics)) _ (statics_memory program names statics) n
        (all_initialised_made program statics (zeroed_from program names 0 (static_numbers program.statics) []) program.statics (zeroed_from program names 0 (static_numbers program.statics) []) n
        (zeroed_made program names 0 (static_numbers program.statics) [] [] (λ m k. absurd k) n l)));
    frame = own_frame main;
    callers = tt;
    since = λ w l. absurd l;
  }

pub begins_waiting : (program : Program) (input : List ℕ) (state : State) → Begins program input state → IsWaiting [] state
begins_waiting program input state (bytes, names, fresh, main, is_main, e) = subst (IsWaiting []) (sym e) (waiting_start program names fresh main input)
