-- Translation units in which integer constant expressions have become enumerators (6.9).
--     change_of table new old rename      the change between the programs of two units
--     IsUnitReplacement table new old rename      the units are the same but for such places and declarations of enumerators
use Rattle.std.specs.Prelude.{◌≡◌, ◌⊎◌, ℕ, List, [], ◌∷◌, map, option_map}
use Rattle.dm_type.specs.Tables.{Table}
use Rattle.dm_tree.specs.Trees.{block, label_of, trees_of}
use Rattle.dm_tree.specs.Units.{External, ExternalForm, declares, defines_function, TypedUnit}
use Rattle.dm_meaning.specs.Programs.{declaration_at}
use Rattle.dm_meaning.specs.Units.{definitions_in, all_locals, statics_from, program_of}
use Rattle.dm_meaning.specs.Replaced.{Replaced, renamed_declarator, Zipped, Agrees, AllAgree, facts_of}

-- the change between the programs of two units, whose types are the same
abbrev pub change_of : Table → TypedUnit → TypedUnit → (ℕ → ℕ) → Replaced
change_of table new old rename = record {
  old = program_of table old;
  declared = new.declared;
  functions = definitions_in new.externals;
  statics = statics_from new.declared (all_locals new.externals) [];
  rename = rename;
}

-- external declarations agree: their declarators and initialisers, or a function's parameters and body
abbrev pub FormAgrees : Replaced → ExternalForm → ExternalForm → Type 0
FormAgrees change (declares declarators trees) (declares others other_trees) =
    (declarators ≡ map (renamed_declarator change.rename) others) × Zipped (Agrees change) trees other_trees
FormAgrees change (defines_function f parameters body) (defines_function g others other) =
    (f ≡ change.rename g) × (parameters ≡ map change.rename others) × (label_of body ≡ block) × (label_of other ≡ block)
    × AllAgree change (trees_of body) (trees_of other)
FormAgrees change form other = ⊥

-- a declaration without declarators, as that of an enumerator
abbrev pub IsBare : External → Type 0
IsBare external = external.form ≡ declares [] []

-- the external declarations agree one by one, but for bare ones that are added
abbrev pub ExternalsAgree : Replaced → List External → List External → Type 0
ExternalsAgree change [] [] = Unit {0}
ExternalsAgree change [] (other ∷ others) = ⊥
ExternalsAgree change (external ∷ externals) [] = IsBare external × ExternalsAgree change externals []
ExternalsAgree change (external ∷ externals) (other ∷ others) =
    (FormAgrees change external.form other.form × ExternalsAgree change externals others)
    ⊎ (IsBare external × ExternalsAgree change externals (other ∷ others))

-- Each old declaration has one number among the new ones, with its name, sort and type, and the external declarations agree.
pub record IsUnitReplacement (table : Table) (new old : TypedUnit) (rename : ℕ → ℕ) : Type 0 where
  pub injective : (c d : ℕ) → rename c ≡ rename d → c ≡ d
  pub told : (d : ℕ) → option_map facts_of (declaration_at new.declared (rename d)) ≡ option_map facts_of (declaration_at old.declared d)
  pub externals : ExternalsAgree (change_of table new old rename) new.externals old.externals
