-- When a run begins, the objects of `main` are closed that certain declarations name.
use Rattle.std.specs.Prelude.{◌≡◌, refl, ◌⊎◌, ℕ, suc, ◌+◌, ◌≤◌, Bool, true, List, [], ◌∷◌, length, None}
use Rattle.std.proofs.Common.{arith, ap, sym, ◌∙◌, subst, inl, inr}
use Rattle.dm_tree.specs.Trees.{parts_of}
use Rattle.dm_meaning.specs.Among.{IsAmong}
use Rattle.dm_meaning.specs.Memory.{Block, look_up, new_block, IsFresh}
use Rattle.dm_meaning.specs.MoreObjects.{IsMade, ObjectsMade}
use Rattle.dm_meaning.specs.Objects.{all_zero}
use Rattle.dm_meaning.specs.Operations.{Objects}
use Rattle.dm_meaning.specs.Programs.{Program, Definition, layout}
use Rattle.dm_meaning.specs.States.{State}
use Rattle.dm_meaning.specs.Statements.{declared_in, named_from}
use Rattle.dm_meaning.specs.Units.{statics_memory, argv_kind, arguments_for, start, Begins}
use Rattle.dm_meaning.proofs.AmongLemmas.{among-map}
use Rattle.dm_meaning.proofs.GrowLemmas.{made_itself}
use Rattle.dm_meaning.proofs.OptionLemmas.{none_is_some}
use Rattle.dm_meaning.proofs.SpareStateLemmas.{settled_beginnings}
use Rattle.dm_rewrite.specs.ClosedStates.{ProgramNamesOnly, OnlyNames, IsUnreached}
use Rattle.dm_rewrite.proofs.ClosedStartLemmas.{unreached_start}
use Rattle.dm_central.specs.ClosedFrames.{AreClosedIn, AreAllClosed}
use Rattle.dm_central.specs.Waiting.{any_name, any_run}
use Rattle.dm_central.proofs.BeginLemmas.{made_opened, own_statics, own_frame, begins_waiting}
use Rattle.dm_central.proofs.ClosedFrameLemmas.{from_named, only_from}
use Rattle.dm_central.proofs.ShapeLemmas.{items_have_none}
use Rattle.dm_central.proofs.SteadyLemmas.{named_among}
use Rattle.dm_central.proofs.WholeLemmas.{main_among}

module _ (program : Program) (test : ℕ → Bool) (all : (d : ℕ) → test d ≡ true → ProgramNamesOnly d program) (names : ℕ → ℕ) (fresh : IsFresh names [])
    (main : Definition) (found : IsAmong main program.functions) (input : List ℕ) where
  abbrev first : State
  first = start names program main input

  abbrev Missed : ℕ → Objects → Type 0
  Missed n objects = (entry : ℕ × ℕ) → IsAmong entry objects → entry.1 ≡ n → ⊥

  missed_only : (n d : ℕ) (objects : Objects) → Missed n objects → OnlyNames n d objects
  missed_only n d objects missed = only_from n d objects (λ entry l e. absurd (missed entry l e))

  -- an object that is neither of static storage duration nor argv's
  begins_unreached : (d n : ℕ) → test d ≡ true → Missed n first.statics → (names (length program.statics) ≡ n → ⊥) → OnlyNames n d first.frame.objects → IsUnreached n d first
  begins_unreached d n picked missed not_argv only =
      unreached_start n d program (all d picked) names main found input (λ e f. missed (e, n) (named_among first.statics e n f) refl) (missed_only n d first.statics missed) not_argv only

  -- the frame's own objects are others
  begins_own : (entry : ℕ × ℕ) → IsAmong entry first.frame.objects → test entry.0 ≡ true → IsUnreached entry.1 entry.0 first
  begins_own entry l picked = by_name (named entry l)
    where
      count : ℕ
      count = length program.statics

      later : (a j : ℕ) → a ≤ suc a + j
      later a j = omega arith

      other : (a j : ℕ) → a ≡ suc a + j → ⊥
      other a j e = omega (arith, e)

      named : (x : ℕ × ℕ) → IsAmong x first.frame.objects → (j : ℕ) × (x.1 ≡ names (suc (length program.statics) + j))
      named x k = by_local (from_named (λ i. names (suc (length program.statics) + i)) (length main.parameters) (declared_in program (parts_of main.body))
          (named_from (λ i. names (suc (length program.statics) + i)) 0 main.parameters []) x k)
        where
          by_parameter : IsAmong x [] ⊎ ((j : ℕ) × (x.1 ≡ names (suc (length program.statics) + j))) → (j : ℕ) × (x.1 ≡ names (suc (length program.statics) + j))
          by_parameter (inl m) = absurd m
          by_parameter (inr m) = m

          by_local : IsAmong x (named_from (λ i. names (suc (length program.statics) + i)) 0 main.parameters []) ⊎ ((j : ℕ) × (x.1 ≡ names (suc (length program.statics) + j)))
              → (j : ℕ) × (x.1 ≡ names (suc (length program.statics) + j))
          by_local (inl m) = by_parameter (from_named (λ i. names (suc (length program.statics) + i)) 0 main.parameters [] x m)
          by_local (inr m) = m

      by_name : (j : ℕ) × (entry.1 ≡ names (suc (length program.statics) + j)) → IsUnreached entry.1 entry.0 first
      by_name (j, e) =
          begins_unreached entry.0 entry.1 picked
          (λ static k f. (own_statics program names fresh).1 (suc count + j) (later count j) static (inr k) (f ∙ e))
          (λ f. other count j (fresh.0 count (suc count + j) (f ∙ e)))
          (only_from entry.1 entry.0 first.frame.objects (λ one k f. (own_frame program names fresh main).0.apart one entry (inr k) (inr l) f))

  begins_unmade : ObjectsMade first.world.memory first.statics → ObjectsMade first.world.memory first.frame.objects → (d : ℕ) → test d ≡ true → (n : ℕ) → look_up first.world.memory n ≡ None
      → IsUnreached n d first
  begins_unmade statics own d picked n e =
      begins_unreached d n picked (λ entry l f. missed first.statics statics entry l f) (λ f. not_argv f)
      (missed_only n d first.frame.objects (λ entry l f. missed first.frame.objects own entry l f))
    where
      unmade : (m : ℕ) → IsMade first.world.memory m → m ≡ n → ⊥
      unmade m made f = none_is_some made.0 (sym e ∙ ap (look_up first.world.memory) (sym f) ∙ made.1)

      missed : (objects : Objects) → ObjectsMade first.world.memory objects → Missed n objects
      missed objects made entry l f = unmade entry.1 (made entry.1 (among-map (λ (x : ℕ × ℕ). x.1) entry objects l)) f

      argv_block : Block
      argv_block = record (new_block (layout program) argv_kind) { contents = all_zero (layout program) argv_kind }

      not_argv : names (length program.statics) ≡ n → ⊥
      not_argv f =
          unmade (names (length program.statics))
          (made_opened program (λ i. names (suc (length program.statics) + i)) main (arguments_for (names (length program.statics)) main.parameters)
          ((names (length program.statics), argv_block) ∷ statics_memory program names first.statics) (names (length program.statics))
          (made_itself (names (length program.statics)) argv_block (statics_memory program names first.statics))) f

  all_closed_start : ObjectsMade first.world.memory first.statics → ObjectsMade first.world.memory first.frame.objects → AreAllClosed test first
  all_closed_start statics own = record {
    unmade = begins_unmade statics own;
    frame = (
      λ entry l picked. record { made = own entry.1 (among-map (λ (x : ℕ × ℕ). x.1) entry first.frame.objects l); unreached = begins_own entry l picked },
      items_have_none program (AreClosedIn test first) any_name any_run (parts_of main.body),
    );
    callers = tt;
  }

pub begins_all_closed : (program : Program) (test : ℕ → Bool) → ((d : ℕ) → test d ≡ true → ProgramNamesOnly d program) → (input : List ℕ) (state : State) → Begins program input state
    → AreAllClosed test state
begins_all_closed program test all input state (bytes, names, fresh, main, is_main, e) =
    let begins : Begins program input (start names program main input) = (bytes, names, fresh, main, is_main, refl) in
    subst (AreAllClosed test) (sym e)
    (all_closed_start program test all names fresh main (main_among program program.functions main is_main) input
    (begins_waiting program input (start names program main input) begins).statics
    (settled_beginnings program input (start names program main input) begins).frame.0)
