-- The premises of the laws, for the example.
use Rattle.std.specs.Prelude.{nat_eq, ◌≡◌, refl, ℕ, ◌+◌, ◌==◌, Bool, true, false, ◌&&◌, All, [], ◌∷◌, ◌++◌, Some, None, slice_get, IsTrue, if◌then◌else◌}
use Rattle.std.specs.List.{IsDistinct}
use Rattle.std.proofs.Common.{arith, ap, sym, subst, inl}
use Rattle.std.proofs.lemmas.Bool.{false≢true}
use Rattle.std.proofs.lemmas.Int.{ints}
use Rattle.std.proofs.lemmas.List.Elements.{All-nil, All-cons}
use Rattle.dm_type.specs.Tables.{no_type}
use Rattle.dm_tree.specs.Scenes.{IsStatement}
use Rattle.dm_tree.specs.Trees.{Tree}
use Rattle.dm_tree.specs.Typing.{IsEntry, IsWellTyped, ExternalFits, IsWellTypedUnit, file_scene, body_scene}
use Rattle.dm_tree.specs.Units.{Declaration, External, defines_function}
use Rattle.dm_tree.specs.Views.{view_of_unit}
use Rattle.dm_meaning.specs.Machines.{Goes, RunsTo}
use Rattle.dm_meaning.specs.Memory.{Block}
use Rattle.dm_meaning.specs.Operations.{object_named}
use Rattle.dm_meaning.specs.Statements.{is_automatic_declaration}
use Rattle.dm_meaning.specs.Steps.{Step}
use Rattle.dm_meaning.specs.Units.{Begins, machine_of}
use Rattle.dm_meaning.proofs.GrowLemmas.{equal_of}
use Rattle.dm_sound.specs.TypedTrees.{IsProper}
use Rattle.dm_sound.specs.TypedRuns.{IsProperForm, IsProperUnit, IsTypedProgram}
use Rattle.dm_sound.specs.TypedStates.{IsTypedState}
use Rattle.dm_sound.specs.Examples as typed
use Rattle.dm_sound.specs.Examples.{int, main_entry}
use Rattle.dm_sound.proofs.ExampleLemmas.{table_sound, body_seen}
use Rattle.dm_sound.proofs.BeginLemmas.{begins_typed}
use Rattle.dm_sound.proofs.FillLemmas.{declares_fill}
use Rattle.dm_sound.proofs.UnitLemmas.{unit_typed}
use Rattle.dm_effect.specs.Scoped.{is_scoped, is_automatic, IsScopedUnit}
use Rattle.dm_initialised.specs.Settled.{IsSettledProgram}
use Rattle.dm_initialised.specs.Living.{IsLivingState}
use Rattle.dm_initialised.specs.SetStates.{IsSetState}
use Rattle.dm_initialised.specs.Units.{FormGives, IsInitialisedUnit}
use Rattle.dm_initialised.specs.Examples.{entry, one, declaration, back, external, unit, program, needs, no_needs, main, beginning, behind}
use Rattle.dm_initialised.proofs.BeginLemmas.{begins_set}
use Rattle.dm_initialised.proofs.LivingLemmas.{run_lives}
use Rattle.dm_initialised.proofs.UnitLemmas.{unit_settled}

-- ---- the unit

single : {A : Type 0} (P : A → Type 0) (x : A) → P x → All P (x ∷ [])
single P x h = All-cons P x [] h (All-nil P)

both_of : {A : Type 0} (P : A → Type 0) (x y : A) → P x → P y → All P (x ∷ y ∷ [])
both_of P x y h k = All-cons P x (y ∷ []) h (single P y k)

one_fits : IsWellTyped (body_scene (file_scene no_type unit.declared) int) one
one_fits = ((refl, (omega (arith, ints), omega (arith, ints))), tt)

declaration_fits : IsWellTyped (body_scene (file_scene no_type unit.declared) int) declaration
declaration_fits = (((omega arith, All-nil _, ((((λ h. (refl, refl)), (refl, ((refl, refl, refl, λ h. absurd (false≢true h)), tt), refl)), refl), refl)), refl), (one_fits, tt))

back_fits : IsWellTyped (body_scene (file_scene no_type unit.declared) int) back
back_fits = (((refl, refl, refl), refl), (((refl, refl, refl), (((refl, refl), tt), tt)), tt))

external_fits : ExternalFits (file_scene no_type unit.declared) external
external_fits = (All-nil _, All-nil _, ((refl, (tt, refl, ((both_of IsStatement declaration back refl refl, refl), (declaration_fits, (back_fits, tt)))), (λ e. (refl, refl))), refl))

once : IsDistinct nat_eq (0 ∷ [])
unfolding IsDistinct
once = (tt, tt)

unit_fits : IsWellTypedUnit no_type unit
unit_fits = record {
  entries = both_of IsEntry main_entry entry (refl, refl) (refl, λ h. h);
  externals = single (ExternalFits (file_scene no_type unit.declared)) external external_fits;
  once = once;
}

unit_proper : IsProperUnit unit
unit_proper = record {
  entries = both_of (λ (x : Declaration). IsProper x.kind) main_entry entry (tt, tt) tt;
  externals = single (λ (x : External). IsProperForm x.form) external (tt, ((tt, ((tt, tt), tt)), ((tt, ((tt, ((tt, tt), tt)), tt)), tt)));
}

pub program_typed : IsTypedProgram program
program_typed = unit_typed no_type unit table_sound unit_fits unit_proper

pub unit_scoped : IsScopedUnit unit
unit_scoped = refl

automatic_there : (d : ℕ) → needs d ≡ true → IsTrue (is_automatic_declaration (slice_get unit.declared d))
automatic_there d e = subst (λ k. IsTrue (is_automatic_declaration (slice_get unit.declared k))) (sym (equal_of d 1 e)) refl

pub unit_initialised : IsInitialisedUnit needs unit
unit_initialised = record {
  automatic = automatic_there;
  functions = single (λ (x : External). FormGives needs x.form) external
      ((((λ n a. a), tt)), (tt, ((((λ e. (refl, refl)), tt), ((tt, tt), tt)), ((tt, ((tt, ((tt, tt), tt)), tt)), tt))));
}

pub program_settled : IsSettledProgram needs program
program_settled = unit_settled no_type unit needs unit_initialised unit_scoped

-- ---- its runs

pub unit_begins : Begins program [] beginning
unit_begins = (All-nil _, (λ i. i), ((λ i j e. e), λ i. refl), main, refl, refl)

pub unit_runs : RunsTo (machine_of program) [] 0 beginning
unfolding Goes
unit_runs = record { start = beginning; begins = unit_begins; goes = refl }

pub beginning_lives : IsLivingState beginning
beginning_lives = run_lives program [] 0 beginning unit_runs

pub object_there : object_named (beginning.statics ++ beginning.frame.objects) 1 ≡ Some 1
object_there = refl

pub beginning_typed : IsTypedState program beginning
beginning_typed = begins_typed program program_typed (declares_fill program program_typed.scope.table program_typed.scope.proper) [] beginning unit_begins

pub beginning_set : IsSetState program needs beginning
beginning_set = begins_set program program_typed needs program_settled [] beginning unit_begins

other_name : (k i : ℕ) → k ≡ 1 → (k == 2 + i) ≡ false
other_name k i e = grind arith

zero_name : (k i : ℕ) → k ≡ 0 → (k == 2 + i) ≡ false
zero_name k i e = grind arith

neither : (a b : Bool) (x y : Block) → a ≡ false → b ≡ false → (if a then Some x else (if b then Some y else None)) ≡ None
neither true b x y e f = absurd (false≢true (sym e))
neither false true x y e f = absurd (false≢true (sym f))
neither false false x y e f = refl

pub first_step : Step program beginning behind
first_step = ((λ i. 2 + i), ((λ i j e. omega (arith, e)), λ i. neither (1 == 2 + i) (0 == 2 + i) _ _ (other_name 1 i refl) (zero_name 0 i refl)), inl refl)

-- ---- the unit of the code, in which nothing needs to be set

pub core_scoped : IsScopedUnit (view_of_unit typed.types typed.core_unit)
core_scoped = ap (λ b. b && true) (subst (λ (tree : Tree). is_scoped (is_automatic (view_of_unit typed.types typed.core_unit).declared) [] tree ≡ true) (sym body_seen) refl)

pub core_initialised : IsInitialisedUnit no_needs (view_of_unit typed.types typed.core_unit)
core_initialised = record {
  automatic = λ d e. absurd (false≢true e);
  functions = single (λ (x : External). FormGives no_needs x.form) _
      (subst (λ (tree : Tree). FormGives no_needs (defines_function 0 [] tree)) (sym body_seen) (tt, (tt, tt)));
}
