-- The arguments of a call of the added function, under evaluation.
--     Entry      a parameter of the added function that runs
--     AllYield kinds runs      the arguments come to values of these types
--     HaveCome kinds values runs      they have come to these values
use Rattle.std.specs.Prelude.{◌≡◌, ℕ, false, List, [], ◌∷◌, length, map, None}
use Rattle.dm_type.specs.CTypes.{CType, bare}
use Rattle.dm_tree.specs.Scenes.{is_void}
use Rattle.dm_meaning.specs.Values.{At, Value}
use Rattle.dm_meaning.specs.Causes.{is_unset}
use Rattle.dm_meaning.specs.Operations.{of_value, Operand}
use Rattle.dm_meaning.specs.Running.{Run, done, Runs, no_runs, more_runs, Holes, in_first, in_others, all_filled_in}
use Rattle.dm_meaning.specs.Expressions.{Move, goes, calls, fails, exits, value_of, function_named, kind_of_run}
use Rattle.dm_meaning.proofs.YieldLemmas.{Yields, HoleYields, filled_yields}
use Rattle.dm_meaning.proofs.StandLemmas.{run_list}

-- ---- parameters in the added function

-- a parameter of the added function that runs: its number, its object's, and the value of the argument
pub record Entry : Type 0 where
  pub parameter : ℕ
  pub stored : ℕ
  pub value : Value

-- ---- arguments

-- the arguments come to values of these types, none of them void
abbrev pub AllYield : List CType → Runs → Type 0
AllYield [] no_runs = Unit {0}
AllYield [] (more_runs first rest) = ⊥
AllYield (kind ∷ kinds) no_runs = ⊥
AllYield (kind ∷ kinds) (more_runs first rest) = Yields kind first × (is_void (bare kind) ≡ false) × AllYield kinds rest

-- likewise when a value of the type of the part that is left out stands there
abbrev pub HolesYield : List CType → CType → Holes → Type 0
HolesYield [] filler holes = ⊥
HolesYield (kind ∷ kinds) filler (in_first hole rest) = HoleYields kind filler hole × (is_void (bare kind) ≡ false) × AllYield kinds rest
HolesYield (kind ∷ kinds) filler (in_others first holes) = Yields kind first × (is_void (bare kind) ≡ false) × HolesYield kinds filler holes

pub all_filled_yield : (kinds : List CType) (filler : CType) (holes : Holes) (run : Run) → HolesYield kinds filler holes → Yields filler run → AllYield kinds (all_filled_in holes run)
all_filled_yield [] filler holes run h y = absurd h
all_filled_yield (kind ∷ kinds) filler (in_first hole rest) run h y = (filled_yields kind filler hole run h.0 y, h.1, h.2)
all_filled_yield (kind ∷ kinds) filler (in_others first holes) run h y = (h.0, h.1, all_filled_yield kinds filler holes run h.2 y)

abbrev pub MoveYieldsAll : List CType → Move Runs Holes → Type 0
MoveYieldsAll kinds (goes world parts) = AllYield kinds parts
MoveYieldsAll kinds (calls f arguments filler holes) = HolesYield kinds filler holes
MoveYieldsAll kinds (fails cause place) = Unit {0}
MoveYieldsAll kinds (exits status) = Unit {0}

-- what arguments come to: values of these types
abbrev pub AreGiving : List CType → Runs → Type 0
AreGiving [] no_runs = Unit {0}
AreGiving (kind ∷ kinds) (more_runs first rest) = (kind ≡ kind_of_run first) × (function_named first ≡ None) × AreGiving kinds rest
AreGiving kinds runs = ⊥

-- the arguments have come to these values
abbrev pub HaveCome : List CType → List Value → Runs → Type 0
HaveCome [] [] no_runs = Unit {0}
HaveCome (kind ∷ kinds) (value ∷ values) (more_runs first rest) =
    ((locks : List At) × (first ≡ done kind (of_value value) locks)) × (is_unset value ≡ false) × HaveCome kinds values rest
HaveCome kinds values runs = ⊥

-- the arguments that are evaluated have come to values
pub record IsCome (kinds : List CType) (operands : List Operand) (inner : Runs) : Type 0 where
  pub values : List Value
  pub is : map (λ (a : Operand). value_of a.result) operands ≡ values
  pub come : HaveCome kinds values inner
  pub count : length values ≡ length (run_list inner)
