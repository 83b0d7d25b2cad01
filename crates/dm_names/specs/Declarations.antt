-- The numbers of the entries that the declarators of a typed unit declare, in the order of the source (6.7, 6.9).
--     numbers_in before statement      numbers, and behind them those of the declarations in a statement
--     numbers_declared before externals      likewise those of external declarations, in the bodies of functions too
--     source_of tokens unit      the tokens with these numbers
--     visible_behind unit source externals k      the numbers of the structs whose tags are in file scope behind the first k external declarations
use Rattle.std.specs.Prelude.{ℕ, List, [], ◌∷◌, ◌++◌, map, flat_map, filter_map, take, Option, Some, None, option_and_then, slice_get, if◌then◌else◌}
use Rattle.dm_token.specs.declared.token.CToken.{CToken}
use Rattle.dm_type.specs.CTypes.{CType, struct}
use Rattle.dm_type.specs.Tables.{Table, type_of}
use Rattle.dm_syn.specs.Trees as tree
use Rattle.dm_tree.specs.Trees.{Label, block, declare, if_statement, switch, case, default, while_loop, do_loop, for_loop, Declarator, Tree, Trees, node, no_trees, more_trees}
use Rattle.dm_tree.specs.Units.{Declaration, External, ExternalForm, declares, defines_function, TypedUnit}
use Rattle.dm_names.specs.declared.identifier.Entered.{Entered}
use Rattle.dm_names.specs.declared.seen.Shown.{Shown}
use Rattle.dm_names.specs.Meanings.{shown_by}
use Rattle.dm_names.specs.Seen.{Source}

abbrev pub numbers_of : List Declarator → List ℕ
numbers_of declarators = map (λ (one : Declarator). one.declared) declarators

-- behind a node, where these are the numbers behind its parts: statements stand in statements (6.8)
abbrev pub numbers_by : Label → List ℕ → List ℕ → List ℕ
numbers_by (declare lengths declarators) before behind = before ++ numbers_of declarators
numbers_by block before behind = behind
numbers_by if_statement before behind = behind
numbers_by switch before behind = behind
numbers_by case before behind = behind
numbers_by default before behind = behind
numbers_by while_loop before behind = behind
numbers_by do_loop before behind = behind
numbers_by (for_loop first second third) before behind = behind
numbers_by label before behind = before

-- the numbers before a statement, and behind them those of its declarations
abbrev mutual
  pub numbers_in : List ℕ → Tree → List ℕ
  numbers_in before (node label kind spans parts) = numbers_by label before (numbers_in_all before parts)

  pub numbers_in_all : List ℕ → Trees → List ℕ
  numbers_in_all before no_trees = before
  numbers_in_all before (more_trees first others) = numbers_in_all (numbers_in before first) others

abbrev pub numbers_in_form : List ℕ → ExternalForm → List ℕ
numbers_in_form before (declares declarators expressions) = before ++ numbers_of declarators
numbers_in_form before (defines_function number parameters body) = numbers_in (before ++ number ∷ []) body

abbrev pub numbers_declared : List ℕ → List External → List ℕ
numbers_declared before [] = before
numbers_declared before (first ∷ others) = numbers_declared (numbers_in_form before first.form) others

abbrev pub source_of : List CToken → TypedUnit → Source
source_of tokens one = record { tokens = tokens; numbers = numbers_declared [] one.externals }

-- ---- structs that can be named

abbrev pub struct_number : CType → Option ℕ
struct_number (struct number) = Some number
struct_number type = None

abbrev pub number_of_struct : Table → ℕ → Option ℕ
number_of_struct types kind = struct_number (type_of types kind)

abbrev pub struct_of : TypedUnit → Entered → Option ℕ
struct_of one entered =
    if entered.tag then option_and_then (λ (entry : Declaration). struct_number entry.kind) (slice_get one.declared entered.number) else None

abbrev pub structs_shown : TypedUnit → Shown → List ℕ
structs_shown one shown = filter_map (struct_of one) shown.entered

abbrev pub structs_in : TypedUnit → List Shown → List ℕ
structs_in one all = flat_map (structs_shown one) all

abbrev pub visible_behind : TypedUnit → List CToken → List tree.External → ℕ → List ℕ
visible_behind one tokens externals k = structs_in one (take k (shown_by (source_of tokens one) externals))
