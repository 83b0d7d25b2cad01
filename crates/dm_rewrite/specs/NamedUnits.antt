-- Translation units of which one declares a const object more, and reads it in place of constant expressions of its value (6.6, 6.9).
--     change_of table new old rename added kind value      the change between the programs of two units
--     IsUnitNaming table new old rename added kind value      the units are the same but for the declaration and such places
use Rattle.std.specs.Prelude.{◌≡◌, ℕ, true, List, [], ◌∷◌, ◌++◌, map, Some, option_map, ℤ}
use Rattle.dm_int.specs.declared.Kind.{Kind}
use Rattle.dm_int.specs.Kinds.{convert}
use Rattle.dm_type.specs.CTypes.{integer, const}
use Rattle.dm_type.specs.Tables.{Table}
use Rattle.dm_tree.specs.declared.unit.Sort.TheVariants.{Object}
use Rattle.dm_tree.specs.Trees.{block, Declarator, one_expression, Tree, label_of, trees_of}
use Rattle.dm_tree.specs.Units.{Declaration, External, ExternalForm, declares, defines_function, TypedUnit}
use Rattle.dm_meaning.specs.Programs.{declaration_at, declaration_of, constant_of}
use Rattle.dm_meaning.specs.Statements.{Local}
use Rattle.dm_meaning.specs.Units.{is_static, locals_in, all_locals, statics_from, definitions_in, program_of}
use Rattle.dm_meaning.specs.Replaced.{renamed_declarator, Zipped, facts_of}
use Rattle.dm_rewrite.specs.NamedConstants.{Named, new_of, AllAgree, IsRenamed}

-- the change between the programs of two units, whose types are the same
abbrev pub change_of : Table → TypedUnit → TypedUnit → (ℕ → ℕ) → ℕ → Kind → ℤ → Named
change_of table new old rename added kind value = record {
  old = program_of table old;
  declared = new.declared;
  functions = definitions_in new.externals;
  statics = statics_from new.declared (all_locals new.externals) [];
  rename = rename;
  added = added;
  kind = kind;
  value = value;
}

-- an object of static storage duration in a function has the same initialiser
abbrev pub SameIfStatic : Named → Local → Local → Type 0
SameIfStatic change local other = is_static change.declared local ≡ true → Zipped (IsRenamed change) local.expressions other.expressions

-- external declarations agree: their declarators and initialisers, or a function's parameters and body
abbrev pub FormAgrees : Named → ExternalForm → ExternalForm → Type 0
FormAgrees change (declares declarators trees) (declares others other_trees) =
    (declarators ≡ map (renamed_declarator change.rename) others) × Zipped (IsRenamed change) trees other_trees
FormAgrees change (defines_function f parameters body) (defines_function g others other) =
    (f ≡ change.rename g) × (parameters ≡ map change.rename others) × (label_of body ≡ block) × (label_of other ≡ block)
    × AllAgree change (trees_of body) (trees_of other) × Zipped (SameIfStatic change) (locals_in body) (locals_in other)
FormAgrees change form other = ⊥

abbrev pub ExternalAgrees : Named → External → External → Type 0
ExternalAgrees change external other = FormAgrees change external.form other.form

-- the declaration of the added object: static or external, of a const integer type, and initialised by a constant expression, which has the value
-- when it is converted to that type
pub record IsAddedDeclaration (change : Named) (external : External) : Type 0 where
  pub declarator : Declarator
  pub tree : Tree
  pub form : external.form ≡ declares (declarator ∷ []) (tree ∷ [])
  pub declared : declarator.declared ≡ change.added
  pub defines : declarator.defines ≡ true
  pub initialiser : declarator.initialiser ≡ Some one_expression
  pub declaration : Declaration
  pub entry : declaration_of (new_of change) change.added ≡ Some declaration
  pub sort : declaration.sort ≡ Object true
  pub kind : declaration.kind ≡ const (integer change.kind)
  pub number : ℤ
  pub constant : constant_of (new_of change) tree ≡ Some number
  pub converted : convert change.kind number ≡ change.value

-- Each old declaration has one number among the new ones, with its name, sort and type, and the added object has another. The external
-- declarations agree one by one, but for the one that is added.
pub record IsUnitNaming (table : Table) (new old : TypedUnit) (rename : ℕ → ℕ) (added : ℕ) (kind : Kind) (value : ℤ) : Type 0 where
  pub injective : (c d : ℕ) → rename c ≡ rename d → c ≡ d
  pub apart : (d : ℕ) → rename d ≡ added → ⊥
  pub told : (d : ℕ) → option_map facts_of (declaration_at new.declared (rename d)) ≡ option_map facts_of (declaration_at old.declared d)
  pub before : List External
  pub adds : External
  pub behind : List External
  pub externals : new.externals ≡ before ++ adds ∷ behind
  pub others : Zipped (ExternalAgrees (change_of table new old rename added kind value)) (before ++ behind) old.externals
  pub declaration : IsAddedDeclaration (change_of table new old rename added kind value) adds
