-- The typing of declarations (6.7).
--     specified setting stands alone known specifiers      what a list of specifiers says
--     typed_declarator setting known base declarator      the type of what a declarator declares
--     typed_item setting specified standing item      what a declarator with its initialiser declares
--     typed_declaration setting standing declaration      a declaration
use Rattle.std.specs.Prelude.{ℕ, Bool, true, false, ◌&&◌, ◌||◌, not, if◌then◌else◌, List, [], ◌∷◌, ◌++◌, Option, Some, None, unwrap_or, slice_get, bytes_eq, codes}
use Rattle.dm_token.specs.declared.place.Span.{Span}
use Rattle.dm_type.specs.Alike.{are_compatible}
use Rattle.dm_type.specs.CTypes.{CType}
use Rattle.dm_syn.specs.Spans.{declarator_span}
use Rattle.dm_syn.specs.Scopes.{declarator_name}
use Rattle.dm_syn.specs.Trees.{Specifiers, Words, Declarator, Initialiser, Item}
use Rattle.dm_syn.specs.Trees as tree
use Rattle.dm_tree.specs.declared.unit.Sort.{Sort}
use Rattle.dm_tree.specs.declared.unit.Linkage.TheVariants.{External}
use Rattle.dm_tree.specs.Initialisers.{is_fixed, is_object, is_function_sort}
use Rattle.dm_tree.specs.Trees.{Tree}
use Rattle.dm_tree.specs.Trees as label
use Rattle.dm_tree.specs.Scenes.{is_array}
use Rattle.dm_tree.specs.Typing.{has_linkage, is_main_type}
use Rattle.dm_tree.specs.Units.{Declaration}
use Rattle.dm_typing.specs.Known.{Known, Setting, Outcome, after, with_it}
use Rattle.dm_typing.specs.Conversions.{is_complete}
use Rattle.dm_typing.specs.Specifiers.{Said, nothing_said, Where, of_declaration}
use Rattle.dm_typing.specs.Typing.{is_file_scope, words_said, typed_said, steps_of, derived}
use Rattle.dm_edecl.specs.Standing.{Standing, Progress, goes_on, stops, further, typing, collecting, keeps}
use Rattle.dm_edecl.specs.Linkages.{Storage, storage_of, is_extern, is_static, is_same_linkage, entry_of, whole_kind, may_be_declared, declared_here, number_here, kind_seen, object_here, is_defined}
use Rattle.dm_edecl.specs.Initialising.{Initial, completed, expressions_alone, typed_initialiser}

-- ---- specifiers (6.7.1 to 6.7.4)

-- what the specifiers of a declaration say: their type, their storage-class specifier and whether `inline` stands among them; and their
-- first token
pub record Specified : Type 0 where
  pub kind : CType
  pub storage : Storage
  pub inline : Bool
  pub first : ℕ

abbrev pub specified_by : Said → ℕ → CType → Specified
specified_by said first kind = record { kind = kind; storage = storage_of said.storage; inline = said.inline; first = first }

abbrev pub specified : Setting → Where → Bool → Known → Specifiers → Outcome Specified
specified setting stands alone known (tree.listed span words) =
    after (words_said setting true alone known nothing_said words)
    (λ then_known said. with_it (typed_said then_known stands span.first said) (λ behind kind. specified_by said span.first kind))

-- a declaration of one specifier alone, as `struct S;` (6.7.2.3p7)
abbrev pub is_one_word : Words → Bool
is_one_word (tree.more_words first tree.no_words) = true
is_one_word words = false

abbrev pub is_alone : Specifiers → List Item → Bool
is_alone (tree.listed span words) [] = is_one_word words
is_alone specifiers items = false

-- ---- declarators (6.7.6)

abbrev pub typed_declarator : Setting → Known → CType → Declarator → Outcome CType
typed_declarator setting known base declarator =
    after (steps_of setting true known declarator) (λ behind steps. derived behind base steps)

-- the token of the declared name
abbrev pub name_at : Declarator → ℕ
name_at declarator = unwrap_or (declarator_name declarator) (declarator_span declarator).first

-- ---- what a declarator declares, before its initialiser

-- C3: `static` stands on no function in a block (6.7.1p7)
abbrev pub is_misplaced_static : Known → Storage → Sort → Bool
is_misplaced_static known storage sort = is_function_sort sort && is_static storage && not (is_file_scope known.scopes)

-- C5: an object is complete, unless it is declared `extern` and isn't initialised; its initialiser completes an array (6.7p7, 6.7.9p22)
abbrev pub is_complete_or_array : Known → Bool → CType → Bool
is_complete_or_array known initialised kind = is_complete known kind || initialised && is_array kind

abbrev pub may_be_object : Known → Storage → Bool → Sort → CType → Bool
may_be_object known storage initialised sort kind =
    not (is_object sort) || is_extern storage && not initialised || is_complete_or_array known initialised kind

-- C36: `main` in file scope is a function with external linkage and one of two types (5.1.2.2.1p1)
abbrev pub fits_main : Declaration → Bool
fits_main entry =
    not (bytes_eq entry.name (codes "main")) || is_function_sort entry.sort && is_same_linkage External entry.linkage && is_main_type entry.kind

abbrev pub may_be_main : Known → Declaration → Bool
may_be_main known entry = not (is_file_scope known.scopes) || fits_main entry

-- C2, C3, C5 and C36 of a declarator that begins at a token and names its entity at another
abbrev pub declarable : {A : Type 0} → Specified → Standing → Bool → ℕ → ℕ → Declaration → Progress A → Progress A
declarable said standing initialised here name entry next =
    keeps (may_be_declared standing entry) 2 name
    (keeps (not (is_misplaced_static standing.known said.storage entry.sort)) 3 said.first
    (keeps (may_be_object standing.known said.storage initialised entry.sort (kind_seen standing entry)) 5 here
    (keeps (may_be_main standing.known entry) 36 name next)))

-- ---- initialisers

-- a declarator that is typed, with the trees of its lengths and enumerator values and the expressions of its initialiser
pub record Local : Type 0 where
  pub constants : List Tree
  pub declarator : label.Declarator
  pub expressions : List Tree

abbrev pub local_plain : ℕ → Bool → Local
local_plain number defines =
    record { constants = []; declarator = record { declared = number; defines = defines; initialiser = None }; expressions = [] }

abbrev pub local_initialised : ℕ → Initial → Local
local_initialised number initial = record {
  constants = [];
  declarator = record { declared = number; defines = true; initialiser = Some initial.form };
  expressions = initial.expressions;
}

abbrev pub with_lengths : List Tree → Local → Local
with_lengths constants local = record local { constants = constants }

-- C9: a typedef has no initialiser, nor has an object with linkage that is declared in a block (6.7.9p5)
abbrev pub may_be_initialised : Known → Declaration → Bool
may_be_initialised known entry =
    is_function_sort entry.sort || is_object entry.sort && (is_file_scope known.scopes || not (has_linkage entry.linkage))

-- C2: an object whose type its initialiser completes agrees with all its declarations (6.2.7p2), and is defined once (6.9p3, p5); and C5
-- of an array that its initialiser completes
abbrev pub may_define : Standing → ℕ → CType → Bool
may_define standing number kind =
    are_compatible (unwrap_or (whole_kind number standing.linked) kind) kind && not (is_defined number standing.linked)

abbrev pub object_defined : Standing → Declaration → ℕ → ℕ → ℕ → CType → Initial → Progress Local
object_defined standing entry number here name kind initial =
    keeps (may_define standing number kind) 2 name
    (keeps (is_complete standing.known kind) 5 here
    (goes_on (object_here standing entry number kind) (local_initialised number initial)))

abbrev pub initialised : Setting → Standing → Declaration → ℕ → Span → ℕ → ℕ → CType → Initialiser → Progress Local
initialised setting standing entry number span here name kind initialiser =
    if may_be_initialised standing.known entry
    then typing standing (typed_initialiser setting (is_fixed entry.sort) standing.known (completed setting kind initialiser) initialiser)
    (λ behind initial. object_defined behind entry number here name (completed setting kind initialiser) initial)
    else typing standing (expressions_alone setting standing.known initialiser) (λ behind trees. stops 9 span.first)

-- ---- declarators with their initialisers

-- without an initialiser an object is defined, tentatively in file scope, unless it is declared `extern` (6.7p5, 6.9.2p2)
abbrev pub defines_object : Storage → Sort → Bool
defines_object storage sort = is_object sort && not (is_extern storage)

abbrev pub item_plain : Setting → Specified → Standing → Declarator → Declaration → Progress Local
item_plain setting said standing declarator entry =
    declarable said standing false (declarator_span declarator).first (name_at declarator) entry
    (goes_on (declared_here standing entry)
    (local_plain (number_here standing entry) (defines_object said.storage entry.sort)))

abbrev pub item_initialised : Setting → Specified → Standing → Span → Declarator → Initialiser → Declaration → Progress Local
item_initialised setting said standing span declarator initialiser entry =
    declarable said standing true (declarator_span declarator).first (name_at declarator) entry
    (initialised setting (declared_here standing entry) entry (number_here standing entry) span
    (declarator_span declarator).first (name_at declarator) (kind_seen standing entry) initialiser)

abbrev pub item_with : List Tree → Progress Local → Progress Local
item_with constants item = further item (λ behind local. goes_on behind (with_lengths constants local))

abbrev pub typed_item : Setting → Specified → Standing → Item → Progress Local
typed_item setting said standing (tree.plain span declarator) =
    collecting standing (typed_declarator setting standing.known said.kind declarator)
    (λ behind constants kind. item_with constants
    (item_plain setting said behind declarator (entry_of setting behind.known said.storage (name_at declarator) kind)))
typed_item setting said standing (tree.initialised span declarator initialiser) =
    collecting standing (typed_declarator setting standing.known said.kind declarator)
    (λ behind constants kind. item_with constants
    (item_initialised setting said behind span declarator initialiser (entry_of setting behind.known said.storage (name_at declarator) kind)))

abbrev pub typed_items : Setting → Specified → Standing → List Item → Progress (List Local)
typed_items setting said standing [] = goes_on standing []
typed_items setting said standing (first ∷ others) =
    further (typed_item setting said standing first) (λ then_standing made. further (typed_items setting said then_standing others)
    (λ behind more. goes_on behind (made ∷ more)))

-- ---- declarations

-- a declaration that is typed: the trees of its lengths and enumerator values, and its declarators
pub record Declared : Type 0 where
  pub constants : List Tree
  pub locals : List Local

abbrev pub declarators_of : List Local → List label.Declarator
declarators_of [] = []
declarators_of (first ∷ others) = first.declarator ∷ declarators_of others

abbrev pub constants_of : List Local → List Tree
constants_of [] = []
constants_of (first ∷ others) = first.constants ++ constants_of others

abbrev pub expressions_of : List Local → List Tree
expressions_of [] = []
expressions_of (first ∷ others) = first.expressions ++ expressions_of others

-- C3: `inline` stands in the declaration of functions alone (6.7.4p1)
abbrev pub is_function_entry : Option Declaration → Bool
is_function_entry None = false
is_function_entry (Some entry) = is_function_sort entry.sort

abbrev pub are_functions : Known → List Local → Bool
are_functions known [] = true
are_functions known (first ∷ others) = is_function_entry (slice_get known.declared first.declarator.declared) && are_functions known others

abbrev pub is_there : {A : Type 0} → List A → Bool
is_there [] = false
is_there (first ∷ others) = true

abbrev pub may_be_inline : Known → List Local → Bool
may_be_inline known locals = is_there locals && are_functions known locals

abbrev pub declared_by : List Tree → Specified → Standing → List Local → Progress Declared
declared_by constants said standing locals =
    keeps (not said.inline || may_be_inline standing.known locals) 3 said.first
    (goes_on standing (record { constants = constants ++ constants_of locals; locals = locals }))

abbrev pub typed_declaration : Setting → Standing → tree.Declaration → Progress Declared
typed_declaration setting standing (tree.declaring span specifiers items) =
    collecting standing (specified setting of_declaration (is_alone specifiers items) standing.known specifiers)
    (λ then_standing constants said. further (typed_items setting said then_standing items)
    (λ behind locals. declared_by constants said behind locals))
