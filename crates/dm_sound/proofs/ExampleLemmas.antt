-- The premises of the laws, for the example.
use Rattle.std.specs.Prelude.{nat_eq, ◌≡◌, refl, ℕ, zero, suc, ◌+◌, ◌==◌, Bool, true, false, ◌&&◌, ◌||◌, IsTrue, All, [], ◌∷◌, Some, None, pos, codes, if◌then◌else◌}
use Rattle.std.specs.List.{IsDistinct}
use Rattle.std.proofs.Common.{arith, ap, sym, ◌∙◌, subst, inl, inr}
use Rattle.std.proofs.lemmas.Bool.{false≢true}
use Rattle.std.proofs.lemmas.Int.{ints}
use Rattle.dm_int.specs.declared.Kind.TheVariants.{Int}
use Rattle.dm_type.specs.CTypes.{CType, integer, void, function as function_type, no_types, bare}
use Rattle.dm_type.specs.Structs.{AreSameStructs}
use Rattle.dm_type.specs.Tables.{Table, no_type, types_of, type_of, Has}
use Rattle.dm_tree.specs.declared.tree.Form.{roll-Form}
use Rattle.dm_tree.specs.declared.tree.Form.TheOpen as layer
use Rattle.dm_tree.specs.declared.tree.Form.TheFolds as folds
use Rattle.dm_tree.specs.declared.unit.Linkage.TheVariants.{External as Outer}
use Rattle.dm_tree.specs.declared.unit.Sort.TheVariants.{Function}
use Rattle.dm_tree.specs.Scenes.{HasConst, itself, is_void}
use Rattle.dm_tree.specs.Trees.{block as block_form, Tree, node, no_trees}
use Rattle.dm_tree.specs.TypeNumbers.{argv_kind, IsTypedUnit, are_known, are_known_in_form, form_known, initial_known, core_known, local_known}
use Rattle.dm_tree.specs.Typing.{IsEntry, ExternalFits, IsWellTypedUnit, file_scene}
use Rattle.dm_tree.specs.Units.{Declaration, External, defines_function, TypedUnit}
use Rattle.dm_tree.specs.Views.{Opened, OpenedInitial, OpenedLocal, opened, view, opened_form, view_of_unit, form_layer, initial_layer, core_layer, local_layer, node_of}
use Rattle.dm_meaning.specs.Machines.{Goes, RunsTo}
use Rattle.dm_meaning.specs.Units.{machine_of, Begins}
use Rattle.dm_meaning.specs.Values.{integer_value}
use Rattle.dm_meaning.specs.Memory.{Block, look_up}
use Rattle.dm_meaning.specs.Programs.{Definition, layout}
use Rattle.dm_meaning.specs.Running.{every}
use Rattle.dm_meaning.specs.Steps.{Step}
use Rattle.dm_meaning.proofs.OptionLemmas.{none_is_some, some_is_some}
use Rattle.dm_sound.specs.Lacks.{GivesValues}
use Rattle.dm_sound.specs.TypedValues.{own_type, has_values, HasType, IsGiven, AreTyped}
use Rattle.dm_sound.specs.TypedTrees.{IsProper, IsSoundTable, IsTyped}
use Rattle.dm_sound.specs.TypedSteps.{AreOperands}
use Rattle.dm_sound.specs.TypedRuns.{HoleComesFrom, IsProperForm, IsProperUnit, IsTypedProgram, IsTypedWorld, result_of}
use Rattle.dm_sound.specs.TypedStates.{IsTypedState}
use Rattle.dm_sound.specs.Examples.{one_table, other_table, somewhere, no_span, spans, main_definition, started, types, core_body, core_unit, core_program, core_started, int, entry, external, unit, main_entry, body, main_external, running_unit, running, beginning, behind, program, counted, name, world_with, operands, negated, negation, two, one_of_two}
use Rattle.dm_sound.proofs.UnitLemmas.{unit_typed}

-- ---- the unit

pub table_sound : IsSoundTable no_type
table_sound = record {
  complete = λ at members e n one f. absurd (none_is_some members e);
  layered = ((λ n. n), (λ at members n one inner others e f g h. absurd (none_is_some members e)), λ at members e. absurd (none_is_some members e));
  sizes = λ at content one e f. absurd (none_is_some content e);
}

nothing : {A : Type 0} (P : A → Type 0) → All P []
nothing P k d inside = absurd (omega arith)

single : {A : Type 0} (P : A → Type 0) (x : A) → P x → All P (x ∷ [])
single P x h zero d inside = h
single P x h (suc k) d inside = absurd (omega arith)

external_fits : ExternalFits (file_scene no_type unit.declared) external
external_fits = (nothing _, nothing _, (nothing _, ((((λ h. (refl, refl)), refl), refl), refl)))

none_twice : IsDistinct nat_eq []
unfolding IsDistinct
none_twice = tt

pub unit_fits : IsWellTypedUnit no_type unit
unit_fits = record {
  entries = single IsEntry entry (refl, λ h. refl);
  externals = single (ExternalFits (file_scene no_type unit.declared)) external external_fits;
  once = none_twice;
}

pub unit_proper : IsProperUnit unit
unit_proper = record {
  entries = single (λ (one : Declaration). IsProper one.kind) entry tt;
  externals = single (λ (one : External). IsProperForm one.form) external (nothing _);
}

pub program_typed : IsTypedProgram program
program_typed = unit_typed no_type unit table_sound unit_fits unit_proper

-- ---- the expressions

no_const : (table : Table) → HasConst table (integer Int) → ⊥
no_const table (itself type is) = false≢true is

pub counted_typed : IsTyped program void counted
counted_typed = record {
  breaks = false;
  continues = false;
  labels = None;
  typed = (((refl, refl, refl, no_const no_type), refl, (refl, tt)), (((refl, refl), tt), tt));
  proper = (tt, ((tt, tt), tt));
}

five_in : (b : Bool) (block : Block) → (if b then Some (record { kind = int; contents = integer_value Int (pos 5); alive = true; writable = true }) else None) ≡ Some block → HasType (layout program) block.kind block.contents
five_in true block e = subst (λ (x : Block). HasType (layout program) x.kind x.contents) (some_is_some _ block e) (refl, (omega (arith, ints), omega (arith, ints)))
five_in false block e = absurd (none_is_some block e)

pub five_typed : AreTyped (layout program) (world_with 5).memory
five_typed n block e = five_in (7 == n) block e

pub world_typed : IsTypedWorld program (world_with 5)
world_typed = record { memory = five_typed; input = nothing _ }

pub operands_fit : AreOperands (layout program) every name operands
operands_fit = ((refl, refl), tt)

pub negation_comes : HoleComesFrom (layout program) negated int negation
negation_comes = (refl, (refl, (refl, (refl, refl), tt)))

pub five_given : IsGiven (layout program) int (integer_value Int (pos 5))
five_given = record { typed = (refl, (omega (arith, ints), omega (arith, ints))); set = λ h. refl; whole = refl }

pub one_has : HasType (layout program) two one_of_two
one_has = (refl, ((refl, (omega (arith, ints), omega (arith, ints))), (refl, tt)))

-- ---- a state

both_of : {A : Type 0} (P : A → Type 0) (x y : A) → P x → P y → All P (x ∷ y ∷ [])
both_of P x y h k zero d inside = h
both_of P x y h k (suc zero) d inside = k
both_of P x y h k (suc (suc n)) d inside = absurd (omega arith)

main_fits : ExternalFits (file_scene no_type running_unit.declared) main_external
main_fits = (nothing _, nothing _, ((refl, (tt, refl, ((nothing _, refl), tt)), (λ e. (refl, refl))), refl))

first_fits : ExternalFits (file_scene no_type running_unit.declared) external
first_fits = (nothing _, nothing _, (nothing _, ((((λ h. (refl, refl)), refl), refl), refl)))

once : IsDistinct nat_eq (1 ∷ [])
unfolding IsDistinct
once = (tt, tt)

running_fits : IsWellTypedUnit no_type running_unit
running_fits = record {
  entries = both_of IsEntry entry main_entry (refl, λ h. refl) (refl, refl);
  externals = both_of (ExternalFits (file_scene no_type running_unit.declared)) external main_external first_fits main_fits;
  once = once;
}

running_proper : IsProperUnit running_unit
running_proper = record {
  entries = both_of (λ (one : Declaration). IsProper one.kind) entry main_entry tt (tt, tt);
  externals = both_of (λ (one : External). IsProperForm one.form) external main_external (nothing _) (tt, tt);
}

pub running_typed : IsTypedProgram running
running_typed = unit_typed no_type running_unit table_sound running_fits running_proper

pub running_gives : GivesValues running
running_gives definition (inl e) =
    subst (λ (d : Definition). IsTrue (is_void (bare (result_of running d.function)) || has_values (own_type (result_of running d.function)))) (sym e) refl
running_gives definition (inr e) = absurd e

five_there : (b : Bool) (block : Block) → (if b then Some (record { kind = int; contents = integer_value Int (pos 5); alive = true; writable = true }) else None) ≡ Some block → HasType (layout running) block.kind block.contents
five_there true block e = subst (λ (x : Block). HasType (layout running) x.kind x.contents) (some_is_some _ block e) (refl, (omega (arith, ints), omega (arith, ints)))
five_there false block e = absurd (none_is_some block e)

body_typed : IsTyped running int body
body_typed = record { breaks = false; continues = false; labels = None; typed = ((nothing _, refl), tt); proper = (tt, tt) }

pub beginning_typed : IsTypedState running beginning
beginning_typed = record {
  world = record { memory = λ n block e. five_there (7 == n) block e; input = nothing _ };
  statics = ((record { kind = int; contents = integer_value Int (pos 5); alive = true; writable = true }, refl, refl), tt);
  frame = record { definition = record { function = 1; parameters = []; body = body }; defined = refl; named = tt; tasks = (body_typed, tt) };
  callers = tt;
}

-- names from 8 on are those of no object
new_name : (i : ℕ) → look_up (world_with 5).memory (8 + i) ≡ None
new_name i = ap (λ b. if b then Some (record { kind = int; contents = integer_value Int (pos 5); alive = true; writable = true }) else None) (other i)
  where
    other : (i : ℕ) → (7 == 8 + i) ≡ false
    other i = grind arith

pub first_step : Step running beginning behind
first_step = ((λ i. 8 + i), ((λ i j e. omega (arith, e)), new_name), inl refl)

pub one_step : Goes (machine_of running) 1 beginning behind
unfolding Goes
one_step = (behind, first_step, refl)

-- ---- a run

far_apart : (i j : ℕ) → 8 + i ≡ 8 + j → i ≡ j
far_apart i j e = omega (arith, e)

pub running_begins : Begins running [] started
running_begins = (nothing _, (λ i. 8 + i), (far_apart, λ i. refl), main_definition, refl, refl)

pub types_sound : IsSoundTable types
types_sound = record {
  complete = λ at members e n one f. absurd (none_is_some members e);
  layered = ((λ n. n), (λ at members n one inner others e f g h. absurd (none_is_some members e)), λ at members e. absurd (none_is_some members e));
  sizes = λ at content one e f. absurd (none_is_some content e);
}

argv_there : Has types 2 argv_kind
unfolding types_of
argv_there = (omega arith, refl)

main_type : type_of types 4 ≡ function_type int no_types
unfolding types_of
main_type = refl

void_type : type_of types 5 ≡ void
unfolding types_of
void_type = refl

-- the body of the unit of the code is the block
form_seen : opened_form types (roll-Form (layer.Block [])) ≡ opened block_form []
form_seen = folds.fold-roll-Form Opened OpenedInitial Tree OpenedLocal (form_layer types) initial_layer (core_layer types) local_layer (layer.Block [])

pub body_seen : view types core_body ≡ body
body_seen =
    folds.fold-roll-Core Opened OpenedInitial Tree OpenedLocal (form_layer types) initial_layer (core_layer types) local_layer (record { form = roll-Form (layer.Block []); kind = 5; inner = no_span; outer = no_span; place = somewhere })
    ∙ ap (λ (form : Opened). node_of form (type_of types 5) no_span no_span somewhere) form_seen ∙ ap (λ (type : CType). node block_form type spans no_trees) void_type

form_known_all : are_known_in_form 6 (roll-Form (layer.Block [])) ≡ true
form_known_all = folds.fold-roll-Form Bool Bool Bool Bool (form_known 6) initial_known (core_known 6) local_known (layer.Block [])

body_known : are_known 6 core_body ≡ true
body_known =
    folds.fold-roll-Core Bool Bool Bool Bool (form_known 6) initial_known (core_known 6) local_known (record { form = roll-Form (layer.Block []); kind = 5; inner = no_span; outer = no_span; place = somewhere }) ∙ form_known_all

abbrev unit_with : CType → Tree → TypedUnit
unit_with type tree = record {
  declared = record { name = codes "main"; sort = Function; kind = type; linkage = Outer; place = somewhere } ∷ [];
  externals = record { span = no_span; constants = []; form = defines_function 0 [] tree } ∷ [];
}

alone : External
alone = record { span = no_span; constants = []; form = defines_function 0 [] body }

alone_once : IsDistinct nat_eq (0 ∷ [])
unfolding IsDistinct
alone_once = (tt, tt)

alone_fits : IsWellTypedUnit types (unit_with (function_type int no_types) body)
unfolding alone
alone_fits = record {
  entries = single IsEntry main_entry (refl, refl);
  externals = single (ExternalFits (file_scene types (main_entry ∷ []))) alone (nothing _, nothing _, ((refl, (tt, refl, ((nothing _, refl), tt)), (λ e. (refl, refl))), refl));
  once = alone_once;
}

core_fits : IsWellTypedUnit types (view_of_unit types core_unit)
core_fits =
    subst (λ (tree : Tree). IsWellTypedUnit types (unit_with (type_of types 4) tree)) (sym body_seen)
    (subst (λ (type : CType). IsWellTypedUnit types (unit_with type body)) (sym main_type) alone_fits)

pub core_typed : IsTypedUnit types core_unit
core_typed = record {
  argv = argv_there;
  known_in_entries = refl;
  known_in_trees = ap (λ b. b && true) body_known;
  typed = core_fits;
}

pub core_run : RunsTo (machine_of core_program) [] 0 core_started
unfolding Goes
core_run = record { start = core_started; begins = (nothing _, (λ i. i), ((λ i j e. e), λ i. refl), _, refl, refl); goes = refl }

-- ---- two tables

pub tables_same : AreSameStructs one_table other_table
unfolding types_of
tables_same = refl
