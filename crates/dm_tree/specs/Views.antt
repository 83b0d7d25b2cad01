-- What the trees and units of the code stand for: the numbers of types written out, and each node's label and parts told apart.
--     view types tree      the tree
--     view_of_declared types entry      the entry of a declaration
--     view_of_unit types unit      the unit
use Rattle.std.specs.Prelude.{ℕ, Bool, List, [], ◌∷◌, ◌++◌, map, flat_map, length, Option, Some, None, is_some}
use Rattle.dm_token.specs.declared.place.Place.{Place}
use Rattle.dm_token.specs.declared.place.Span.{Span}
use Rattle.dm_type.specs.CTypes.{CType}
use Rattle.dm_type.specs.Tables.{Table, type_of}
use Rattle.dm_tree.specs.declared.tree.Core.{Core}
use Rattle.dm_tree.specs.declared.tree.Form.{Form}
use Rattle.dm_tree.specs.declared.tree.Form.TheOpen as layer
use Rattle.dm_tree.specs.declared.tree.Form.TheFolds as folds
use Rattle.dm_tree.specs.declared.tree.Local.{Local}
use Rattle.dm_tree.specs.declared.unit.CoreExternal.{CoreExternal}
use Rattle.dm_tree.specs.declared.unit.CoreExternalForm.{CoreExternalForm}
use Rattle.dm_tree.specs.declared.unit.CoreExternalForm.TheVariants as code
use Rattle.dm_tree.specs.declared.unit.CoreUnit.{CoreUnit}
use Rattle.dm_tree.specs.declared.unit.Declared.{Declared}
use Rattle.dm_tree.specs.Trees as label
use Rattle.dm_tree.specs.Trees.{Label, Declarator, Initialiser, Initialisers, one_expression, in_braces, no_items, more_items, Tree, node, trees}
use Rattle.dm_tree.specs.Units.{Declaration, External, ExternalForm, declares, defines_function, TypedUnit}

-- a form: its label, and its parts in order
pub record Opened : Type 0 where
  pub label : Label
  pub parts : List Tree

abbrev pub opened : Label → List Tree → Opened
opened label parts = record { label = label; parts = parts }

-- an initialiser, and its expressions in order
pub record OpenedInitial : Type 0 where
  pub initialiser : Initialiser
  pub expressions : List Tree

-- a declarator, and the expressions of its initialiser
pub record OpenedLocal : Type 0 where
  pub declarator : Declarator
  pub expressions : List Tree

-- the items of a list in braces
abbrev pub items_of : List OpenedInitial → Initialisers
items_of [] = no_items
items_of (first ∷ rest) = more_items first.initialiser (items_of rest)

abbrev pub expressions_of_items : List OpenedInitial → List Tree
expressions_of_items items = flat_map (λ (one : OpenedInitial). one.expressions) items

abbrev pub declarators_of : List OpenedLocal → List Declarator
declarators_of locals = map (λ (one : OpenedLocal). one.declarator) locals

abbrev pub expressions_of_locals : List OpenedLocal → List Tree
expressions_of_locals locals = flat_map (λ (one : OpenedLocal). one.expressions) locals

-- a tree that may be absent
abbrev pub if_there : Option Tree → List Tree
if_there None = []
if_there (Some tree) = tree ∷ []

-- one layer, whose trees are seen already
abbrev pub form_layer : Table → layer.Form-F Opened OpenedInitial Tree OpenedLocal → Opened
form_layer types (layer.Number value) = opened (label.number value) []
form_layer types (layer.Enumerator at) = opened (label.enumerator at) []
form_layer types (layer.Literal bytes unit) = opened (label.literal bytes unit) []
form_layer types (layer.Object at) = opened (label.object at) []
form_layer types (layer.Function at) = opened (label.function at) []
form_layer types (layer.Read a) = opened label.read (a ∷ [])
form_layer types (layer.Decay a) = opened label.decay (a ∷ [])
form_layer types (layer.Convert a lengths) = opened label.convert (a ∷ lengths)
form_layer types (layer.Address a) = opened label.address (a ∷ [])
form_layer types (layer.Follow a) = opened label.follow (a ∷ [])
form_layer types (layer.Member a n) = opened (label.member n) (a ∷ [])
form_layer types (layer.Unary sign a) = opened (label.unary sign) (a ∷ [])
form_layer types (layer.Binary op a b) = opened (label.binary op) (a ∷ b ∷ [])
form_layer types (layer.Both a b) = opened label.both (a ∷ b ∷ [])
form_layer types (layer.Either a b) = opened label.either (a ∷ b ∷ [])
form_layer types (layer.Choose a b c) = opened label.choose (a ∷ b ∷ c ∷ [])
form_layer types (layer.Comma a b) = opened label.comma (a ∷ b ∷ [])
form_layer types (layer.Store a b) = opened label.store (a ∷ b ∷ [])
form_layer types (layer.Update op works a b) = opened (label.update op (type_of types works)) (a ∷ b ∷ [])
form_layer types (layer.Count plus before a) = opened (label.count plus before) (a ∷ [])
form_layer types (layer.Call a arguments) = opened label.call (a ∷ arguments)
form_layer types (layer.SizeofTree a) = opened label.sizeof_tree (a ∷ [])
form_layer types (layer.SizeofKind type lengths) = opened (label.sizeof_kind (type_of types type)) lengths
form_layer types (layer.Block items) = opened label.block items
form_layer types (layer.Declare lengths locals) =
    opened (label.declare (length lengths) (declarators_of locals)) (lengths ++ expressions_of_locals locals)
form_layer types (layer.Full a) = opened label.full (a ∷ [])
form_layer types layer.Empty = opened label.empty []
form_layer types (layer.If a b c) = opened label.if_statement (a ∷ b ∷ if_there c)
form_layer types (layer.Switch a items) = opened label.switch (a ∷ items)
form_layer types (layer.Case a b) = opened label.case (a ∷ b ∷ [])
form_layer types (layer.Default a) = opened label.default (a ∷ [])
form_layer types (layer.While a b) = opened label.while_loop (a ∷ b ∷ [])
form_layer types (layer.Do a b) = opened label.do_loop (a ∷ b ∷ [])
form_layer types (layer.For a b c body) =
    opened (label.for_loop (is_some a) (is_some b) (is_some c)) (if_there a ++ (if_there b ++ (if_there c ++ body ∷ [])))
form_layer types layer.Break = opened label.break []
form_layer types layer.Continue = opened label.continue []
form_layer types (layer.Return a) = opened label.return (if_there a)

abbrev pub initial_layer : layer.Initial-F Opened OpenedInitial Tree OpenedLocal → OpenedInitial
initial_layer (layer.Value a) = record { initialiser = one_expression; expressions = a ∷ [] }
initial_layer (layer.Parts items) = record { initialiser = in_braces (items_of items); expressions = expressions_of_items items }

-- a declarator with an initialiser or without
abbrev pub local_of : ℕ → Bool → Option OpenedInitial → OpenedLocal
local_of declared defines None =
    record { declarator = record { declared = declared; defines = defines; initialiser = None }; expressions = [] }
local_of declared defines (Some initial) =
    record { declarator = record { declared = declared; defines = defines; initialiser = Some initial.initialiser }; expressions = initial.expressions }

abbrev pub local_layer : layer.Local-F Opened OpenedInitial Tree OpenedLocal → OpenedLocal
local_layer local = local_of local.declared local.defines local.initial

-- a node by its label and parts
abbrev pub node_of : Opened → CType → Span → Span → Place → Tree
node_of form kind inner outer place =
    node form.label kind (record { inner = inner; outer = outer; place = place }) (trees form.parts)

abbrev pub core_layer : Table → layer.Core-F Opened OpenedInitial Tree OpenedLocal → Tree
core_layer types core = node_of core.form (type_of types core.kind) core.inner core.outer core.place

abbrev pub view : Table → Core → Tree
view types = folds.fold-Core Opened OpenedInitial Tree OpenedLocal (form_layer types) initial_layer (core_layer types) local_layer

-- the label and the parts of a form
abbrev pub opened_form : Table → Form → Opened
opened_form types = folds.fold-Form Opened OpenedInitial Tree OpenedLocal (form_layer types) initial_layer (core_layer types) local_layer

abbrev pub view_of_local : Table → Local → OpenedLocal
view_of_local types = folds.fold-Local Opened OpenedInitial Tree OpenedLocal (form_layer types) initial_layer (core_layer types) local_layer

-- the entry of a declaration
abbrev pub view_of_declared : Table → Declared → Declaration
view_of_declared types entry =
    record { name = entry.name; sort = entry.sort; kind = type_of types entry.kind; linkage = entry.linkage; place = entry.place }

-- an external declaration
abbrev pub view_of_form : Table → CoreExternalForm → ExternalForm
view_of_form types (code.Declaration locals) = declares (declarators_of (map (view_of_local types) locals)) (expressions_of_locals (map (view_of_local types) locals))
view_of_form types (code.Function function parameters body) = defines_function function parameters (view types body)

abbrev pub view_of_external : Table → CoreExternal → External
view_of_external types one =
    record { span = one.span; constants = map (view types) one.constants; form = view_of_form types one.form }

-- the unit
abbrev pub view_of_unit : Table → CoreUnit → TypedUnit
view_of_unit types one =
    record { declared = map (view_of_declared types) one.declared; externals = map (view_of_external types) one.externals }

-- the entries of the declarations
abbrev pub entries_of : Table → List Declared → List Declaration
entries_of types declared = map (view_of_declared types) declared
