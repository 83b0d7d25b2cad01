-- What is seen of the names of a translation unit on the way through its syntax, in the order of the source (6.2.1, 6.2.3, 6.7.2.3): what
-- the open scopes declare, and the entry that each identifier and tag means that isn't the name of a member. A declaration counts from
-- behind its declarator, its tag or its enumerator on (6.2.1p7).
--     Source      the tokens of a unit, and the numbers of the entries that its declarators declare, in order
--     Seen      what is seen so far of an external declaration, with the scopes that are open
--     expr source seen tree, declaration .., stmt .., external ..      what is seen behind a piece of syntax
use Rattle.std.specs.Prelude.{ℕ, ◌+◌, max, Bool, true, false, ◌&&◌, not, if◌then◌else◌, List, [], ◌∷◌, ◌++◌, drop, Option, Some, None, is_some, unwrap_or, slice_get}
use Rattle.dm_token.specs.declared.token.CToken.{CToken}
use Rattle.dm_syn.specs.Scopes.{declarator_name}
use Rattle.dm_syn.specs.Sources.{spelling_of_token}
use Rattle.dm_syn.specs.Trees as tree
use Rattle.dm_names.specs.declared.identifier.Entered.{Entered}
use Rattle.dm_names.specs.declared.nest.Scope.{Scope}
use Rattle.dm_names.specs.declared.seen.Seen.{Seen}
use Rattle.dm_names.specs.Scopes.{Scopes, nothing_declared, is_declared_here, meaning_of, declared_in, is_file_scope, first_of}

pub record Source : Type 0 where
  pub tokens : List CToken
  pub numbers : List ℕ

abbrev pub spelled : Source → ℕ → List ℕ
spelled source at = spelling_of_token (slice_get source.tokens at)

-- ---- identifiers and tags

-- what the name at a token means there
abbrev pub mentioned : Source → Bool → ℕ → Seen → Seen
mentioned source tag at seen =
    record seen { identifiers = seen.identifiers ++ record { at = at; tag = tag; number = meaning_of tag (spelled source at) seen.scopes } ∷ [] }

-- The declaration of an entry by its number; one more in the same scope is one of the same.
abbrev pub entered_if : Bool → Bool → List ℕ → ℕ → List Entered → List Entered
entered_if true tag name number entered = entered ++ record { name = name; tag = tag; number = number } ∷ []
entered_if false tag name number entered = entered

abbrev pub with_entered : Bool → Bool → List ℕ → ℕ → Seen → Seen
with_entered in_file tag name number seen = record seen { entered = entered_if in_file tag name number seen.entered }

abbrev pub is_new_in_file : Bool → List ℕ → Scopes → Bool
is_new_in_file tag name scopes = is_file_scope scopes && not (is_declared_here tag name scopes)

abbrev pub declared : Bool → List ℕ → ℕ → Seen → Seen
declared tag name number seen =
    record (with_entered (is_new_in_file tag name seen.scopes) tag name number seen) { scopes = declared_in tag name number seen.scopes }

abbrev pub declaring : Source → Bool → ℕ → ℕ → Seen → Seen
declaring source tag at number seen = mentioned source tag at (declared tag (spelled source at) number seen)

-- a tag, an enumerator and a parameter have a new entry
abbrev pub declaring_new : Source → Bool → ℕ → Seen → Seen
declaring_new source tag at seen = record (declaring source tag at seen.entries seen) { entries = seen.entries + 1 }

-- a declarator has a new one or, where its name is declared again, an earlier one (6.2.2, 6.7p3)
abbrev pub declaring_next : Source → ℕ → ℕ → Seen → Seen
declaring_next source at number seen =
    record (declaring source false at number seen) { declarators = seen.declarators + 1; entries = max seen.entries (number + 1) }

abbrev pub number_here : Source → Seen → ℕ
number_here source seen = unwrap_or (slice_get source.numbers seen.declarators) seen.entries

abbrev pub naming : Source → Option ℕ → Seen → Seen
naming source None seen = seen
naming source (Some at) seen = declaring_next source at (number_here source seen) seen

abbrev pub naming_new : Source → Option ℕ → Seen → Seen
naming_new source None seen = seen
naming_new source (Some at) seen = declaring_new source false at seen

-- ---- tags (6.7.2.3)

-- `struct` with a tag alone: the struct that the tag means, or a new one. In a declaration of nothing else it is one of the innermost
-- scope (p7, p8)
abbrev pub is_known_tag : Bool → List ℕ → Scopes → Bool
is_known_tag true name scopes = is_declared_here true name scopes
is_known_tag false name scopes = is_some (meaning_of true name scopes)

abbrev pub struct_named : Source → Bool → Option ℕ → Seen → Seen
struct_named source alone None seen = seen
struct_named source alone (Some at) seen =
    if is_known_tag alone (spelled source at) seen.scopes then mentioned source true at seen else declaring_new source true at seen

-- where members follow, the struct that the tag means in this scope, or a new one
abbrev pub struct_begun : Source → Option ℕ → Seen → Seen
struct_begun source tag seen = struct_named source true tag seen

abbrev pub enum_named : Source → Option ℕ → Seen → Seen
enum_named source None seen = seen
enum_named source (Some at) seen = mentioned source true at seen

abbrev pub enum_begun : Source → Option ℕ → Seen → Seen
enum_begun source None seen = seen
enum_begun source (Some at) seen = declaring_new source true at seen

-- ---- scopes

abbrev pub opened : Scope → Seen → Seen
opened scope seen = record seen { scopes = scope ∷ seen.scopes }

abbrev pub closed : Seen → Seen
closed inside = record inside { scopes = drop 1 inside.scopes }

abbrev pub in_block : Seen → (Seen → Seen) → Seen
in_block seen within = closed (within (opened nothing_declared seen))

-- The scope of a parameter list ends with it. That of the list that stands first in a declarator opens again at the body of a definition
-- (6.2.1p4)
abbrev pub either : Option Scope → Option Scope → Option Scope
either None other = other
either (Some scope) other = Some scope

abbrev pub list_closed : Option Scope → Seen → Seen
list_closed before inside = record (closed inside) { own = either before (first_of inside.scopes) }

abbrev pub list_opened : Seen → Seen
list_opened seen = record (opened nothing_declared seen) { own = None }

abbrev pub in_list : Seen → (Seen → Seen) → Seen
in_list seen within = list_closed seen.own (within (list_opened seen))

-- ---- expressions, type names, specifiers and declarators

unfoldable mutual
  -- 6.5; the name of a member has a name space of its own
  pub expr : Source → Seen → tree.Expr → Seen
  expr source seen (tree.name span) = mentioned source false span.first seen
  expr source seen (tree.constant span) = seen
  expr source seen (tree.literal span) = seen
  expr source seen (tree.paren span inner) = expr source seen inner
  expr source seen (tree.index span left right) = expr source (expr source seen left) right
  expr source seen (tree.call span callee arguments) = exprs source (expr source seen callee) arguments
  expr source seen (tree.member span left name) = expr source seen left
  expr source seen (tree.arrow span left name) = expr source seen left
  expr source seen (tree.postfix span left operator) = expr source seen left
  expr source seen (tree.prefix span operator operand) = expr source seen operand
  expr source seen (tree.sizeof_expr span operand) = expr source seen operand
  expr source seen (tree.sizeof_name span name) = type_name source seen name
  expr source seen (tree.cast span name operand) = expr source (type_name source seen name) operand
  expr source seen (tree.binary span left operator right) = expr source (expr source seen left) right
  expr source seen (tree.conditional span first second third) = expr source (expr source (expr source seen first) second) third
  expr source seen (tree.assign span left operator right) = expr source (expr source seen left) right
  expr source seen (tree.comma span parts) = exprs source seen parts

  pub exprs : Source → Seen → tree.Exprs → Seen
  exprs source seen tree.no_exprs = seen
  exprs source seen (tree.more_exprs first others) = exprs source (expr source seen first) others

  -- 6.7.7
  pub type_name : Source → Seen → tree.TypeName → Seen
  type_name source seen (tree.type_name span its_specifiers its_declarator) = declarator source (specifiers source false seen its_specifiers) its_declarator

  -- 6.7. `alone` says that a declaration has nothing but these specifiers
  pub specifiers : Source → Bool → Seen → tree.Specifiers → Seen
  specifiers source alone seen (tree.listed span its_words) = words source alone seen its_words

  pub words : Source → Bool → Seen → tree.Words → Seen
  words source alone seen tree.no_words = seen
  words source alone seen (tree.more_words first others) = words source alone (specifier source alone seen first) others

  pub specifier : Source → Bool → Seen → tree.Specifier → Seen
  specifier source alone seen (tree.keyword at) = seen
  specifier source alone seen (tree.typedef_name at) = mentioned source false at seen
  specifier source alone seen (tree.struct_only span tag) = struct_named source alone tag seen
  specifier source alone seen (tree.struct_with span tag its_members) = members source (struct_begun source tag seen) its_members
  specifier source alone seen (tree.enum_only span tag trailing) = enum_named source tag seen
  specifier source alone seen (tree.enum_with span tag its_enumerators trailing) = enumerators source (enum_begun source tag seen) its_enumerators

  -- 6.7.2.1
  pub members : Source → Seen → tree.Members → Seen
  members source seen tree.no_members = seen
  members source seen (tree.more_members first others) = members source (member source seen first) others

  pub member : Source → Seen → tree.Member → Seen
  member source seen (tree.members span its_specifiers its_declarators) = declarators source (specifiers source false seen its_specifiers) its_declarators

  pub declarators : Source → Seen → tree.Declarators → Seen
  declarators source seen tree.no_declarators = seen
  declarators source seen (tree.more_declarators first others) = declarators source (declarator source seen first) others

  -- 6.7.2.2
  pub enumerators : Source → Seen → tree.Enumerators → Seen
  enumerators source seen tree.no_enumerators = seen
  enumerators source seen (tree.more_enumerators first others) = enumerators source (enumerator source seen first) others

  pub enumerator : Source → Seen → tree.Enumerator → Seen
  enumerator source seen (tree.bare span name) = declaring_new source false name seen
  enumerator source seen (tree.valued span name value) = declaring_new source false name (expr source seen value)

  -- 6.7.6: what stands in it, its own name apart
  pub declarator : Source → Seen → tree.Declarator → Seen
  declarator source seen (tree.shaped span pointers its_direct) = direct source seen its_direct

  pub direct : Source → Seen → tree.Direct → Seen
  direct source seen tree.absent = seen
  direct source seen (tree.declared name) = seen
  direct source seen (tree.enclosed inner) = declarator source seen inner
  direct source seen (tree.array inner) = direct source seen inner
  direct source seen (tree.sized inner length) = expr source (direct source seen inner) length
  direct source seen (tree.function inner its_parameters) = in_list (direct source seen inner) (λ inside. parameters source inside its_parameters)

  -- 6.7.6.3
  pub parameters : Source → Seen → tree.Parameters → Seen
  parameters source seen tree.no_parameters = seen
  parameters source seen (tree.more_parameters first others) = parameters source (parameter source seen first) others

  pub parameter : Source → Seen → tree.Parameter → Seen
  parameter source seen (tree.parameter span its_specifiers its_declarator) =
      naming_new source (declarator_name its_declarator) (declarator source (specifiers source false seen its_specifiers) its_declarator)

unfoldable mutual
  -- 6.7.9
  pub initialiser : Source → Seen → tree.Initialiser → Seen
  initialiser source seen (tree.value span value) = expr source seen value
  initialiser source seen (tree.braces span items trailing) = initialisers source seen items

  pub initialisers : Source → Seen → tree.Initialisers → Seen
  initialisers source seen tree.no_initialisers = seen
  initialisers source seen (tree.more_initialisers first others) = initialisers source (initialiser source seen first) others

-- ---- declarations (6.7)

abbrev pub named : Source → Seen → tree.Declarator → Seen
named source seen its_declarator = naming source (declarator_name its_declarator) (declarator source seen its_declarator)

abbrev pub item : Source → Seen → tree.Item → Seen
item source seen (tree.plain span its_declarator) = named source seen its_declarator
item source seen (tree.initialised span its_declarator its_initialiser) = initialiser source (named source seen its_declarator) its_initialiser

abbrev pub items : Source → Seen → List tree.Item → Seen
items source seen [] = seen
items source seen (first ∷ others) = items source (item source seen first) others

-- a declaration of one specifier alone, as `struct S;`
abbrev pub is_one_word : tree.Words → Bool
is_one_word (tree.more_words first tree.no_words) = true
is_one_word words = false

abbrev pub is_alone : tree.Specifiers → List tree.Item → Bool
is_alone (tree.listed span its_words) [] = is_one_word its_words
is_alone its_specifiers items = false

abbrev pub declaration : Source → Seen → tree.Declaration → Seen
declaration source seen (tree.declaring span its_specifiers its_items) =
    items source (specifiers source (is_alone its_specifiers its_items) seen its_specifiers) its_items

-- ---- statements (6.8)

abbrev pub optional : Source → Seen → Option tree.Expr → Seen
optional source seen None = seen
optional source seen (Some value) = expr source seen value

abbrev pub start : Source → Seen → tree.ForStart → Seen
start source seen (tree.declares its_declaration) = declaration source seen its_declaration
start source seen (tree.evaluates value) = optional source seen value

-- a block, a selection and an iteration statement are scopes, and so are the statements in these two (6.8.2, 6.8.4p3, 6.8.5p5)
unfoldable mutual
  pub stmt : Source → Seen → tree.Stmt → Seen
  stmt source seen (tree.expression span value) = optional source seen value
  stmt source seen (tree.break span) = seen
  stmt source seen (tree.continue span) = seen
  stmt source seen (tree.return span value) = optional source seen value
  stmt source seen (tree.block span its_items) = in_block seen (λ inside. block_items source inside its_items)
  stmt source seen (tree.if_only span condition body) =
      in_block seen (λ inside. in_block (expr source inside condition) (λ part. stmt source part body))
  stmt source seen (tree.if_else span condition body other) =
      in_block seen (λ inside. in_block (in_block (expr source inside condition) (λ part. stmt source part body)) (λ part. stmt source part other))
  stmt source seen (tree.switch span subject its_items) =
      in_block seen (λ inside. in_block (expr source inside subject) (λ part. switch_items source part its_items))
  stmt source seen (tree.while span condition body) =
      in_block seen (λ inside. in_block (expr source inside condition) (λ part. stmt source part body))
  stmt source seen (tree.do_while span body condition) =
      in_block seen (λ inside. expr source (in_block inside (λ part. stmt source part body)) condition)
  stmt source seen (tree.for_loop span its_start condition step body) =
      in_block seen (λ inside.
      in_block (optional source (optional source (start source inside its_start) condition) step) (λ part. stmt source part body))

  pub block_items : Source → Seen → tree.BlockItems → Seen
  block_items source seen tree.no_items = seen
  block_items source seen (tree.more_items first others) = block_items source (block_item source seen first) others

  pub block_item : Source → Seen → tree.BlockItem → Seen
  block_item source seen (tree.declared_item its_declaration) = declaration source seen its_declaration
  block_item source seen (tree.stated_item its_stmt) = stmt source seen its_stmt

  pub switch_items : Source → Seen → tree.SwitchItems → Seen
  switch_items source seen tree.no_switch_items = seen
  switch_items source seen (tree.more_switch_items first others) = switch_items source (switch_item source seen first) others

  pub switch_item : Source → Seen → tree.SwitchItem → Seen
  switch_item source seen (tree.case span label inner) = switch_item source (expr source seen label) inner
  switch_item source seen (tree.default span inner) = switch_item source seen inner
  switch_item source seen (tree.unlabelled span its_stmt) = stmt source seen its_stmt

-- ---- external declarations (6.9)

abbrev pub own_scope : Option Scope → Scope
own_scope None = nothing_declared
own_scope (Some scope) = scope

-- the body of a function is one scope with its parameters, which is kept no longer
abbrev pub without_own : Seen → Seen
without_own seen = record seen { own = None }

abbrev pub own_block : Source → Seen → tree.BlockItems → Seen
own_block source seen its_items = closed (block_items source (opened (own_scope seen.own) (without_own seen)) its_items)

abbrev pub body : Source → Seen → tree.Stmt → Seen
body source seen (tree.block span its_items) = own_block source seen its_items
body source seen other = stmt source seen other

abbrev pub heading : Source → Seen → tree.Specifiers → tree.Declarator → Seen
heading source seen its_specifiers its_declarator = named source (without_own (specifiers source false seen its_specifiers)) its_declarator

abbrev pub external : Source → Seen → tree.External → Seen
external source seen (tree.external span its_declaration) = declaration source seen its_declaration
external source seen (tree.definition span its_specifiers its_declarator its_body) = body source (heading source seen its_specifiers its_declarator) its_body
