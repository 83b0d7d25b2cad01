-- The identifiers that are seen are tokens that are identifiers: by induction over the grammar.
use Rattle.std.specs.Prelude.{◌≡◌, ℕ, Bool, true, false, if◌then◌else◌, List, [], ◌∷◌, ◌++◌, Option, Some, None, refl}
use Rattle.std.specs.List.{AllByRecursion}
use Rattle.std.proofs.Common.{sym, ap, ◌∙◌, subst}
use Rattle.dm_syn.specs.declared.declared.Declared.{Declared}
use Rattle.dm_syn.specs.declared.symbol.Symbol.{Symbol}
use Rattle.dm_syn.specs.declared.symbol.Symbol.TheVariants as symbol
use Rattle.dm_syn.specs.Grammar.{IsExpr, AreArguments, AreMoreExprs, IsTypeName, IsSpecifiers, AreWords, Types, IsSpecifier, AreMembers, IsMember, AreMoreDeclarators, AreMoreEnumerators, IsEnumerator, IsDeclarator, IsDirect, AreParameters, AreMoreParameters, IsParameter}
use Rattle.dm_syn.specs.Scopes.{declarator_name, direct_name, item_declares}
use Rattle.dm_syn.specs.Sources.{Source as Text, symbol_at, seen_as, names_type, spelling_at, symbol_in}
use Rattle.dm_syn.specs.Spans.{item_span}
use Rattle.dm_syn.specs.Statements.{IsInitialiser, AreMoreInitialisers, IsItem, AreMoreItems, AreItems, IsDeclaration, IsOptional, IsStart, IsStmt, AreBlockItems, IsBlockItem, AreSwitchItems, IsSwitchItem, IsBlock, IsExternal}
use Rattle.dm_syn.specs.Symbols.{is_identifier}
use Rattle.dm_syn.specs.Trees.{Expr, Exprs, TypeName, Specifiers, Words, Specifier, Members, Member, Declarators, Enumerators, Enumerator, Declarator, Direct, Parameters, Parameter, Initialiser, Initialisers, Item, Declaration, ForStart, Stmt, BlockItems, BlockItem, SwitchItems, SwitchItem, External}
use Rattle.dm_syn.specs.Trees as tree
use Rattle.dm_names.specs.declared.identifier.Identifier.{Identifier}
use Rattle.dm_names.specs.declared.seen.Seen.{Seen}
use Rattle.dm_names.specs.Scopes.{nothing_declared}
use Rattle.dm_names.specs.Seen.{Source, spelled, mentioned, declaring, declaring_new, number_here, naming, naming_new, is_known_tag, struct_named, enum_named, enum_begun, opened, closed, list_opened, expr, exprs, type_name, specifiers, words, specifier, members, member, declarators, enumerators, enumerator, declarator, direct, parameters, parameter, initialiser, initialisers, named, item, items, is_alone, declaration, optional, start, stmt, block_items, block_item, switch_items, switch_item, own_scope, without_own, body, heading, external}

-- the token is an identifier, unless it is a tag
abbrev pub IsWord : Text → Identifier → Type 0
IsWord text one = one.tag ≡ false → is_identifier (symbol_at text one.at) ≡ true

abbrev pub AllWords : Text → Seen → Type 0
AllWords text seen = AllByRecursion (IsWord text) seen.identifiers

all-push : (text : Text) (xs : List Identifier) (x : Identifier) → AllByRecursion (IsWord text) xs → IsWord text x → AllByRecursion (IsWord text) (xs ++ x ∷ [])
all-push text [] x h k = (k, tt)
all-push text (y ∷ xs) x h k = (h.0, all-push text xs x h.1 k)

seen-word : (it : Symbol) (test : Bool) → is_identifier (seen_as it test) ≡ true → is_identifier it ≡ true
seen-word symbol.Identifier test h = refl
seen-word it test h = h

word-there : (text : Text) (names : List Declared) (at : ℕ) → is_identifier (symbol_in text names at) ≡ true → is_identifier (symbol_at text at) ≡ true
unfolding symbol_in
word-there text names at h = seen-word (symbol_at text at) (names_type text names (spelling_at text at)) h

module _ (source : Source) (text : Text) where
  Is : ℕ → Type 0
  Is at = is_identifier (symbol_at text at) ≡ true

  mentioned-words : (at : ℕ) (seen : Seen) → Is at → AllWords text seen → AllWords text (mentioned source false at seen)
  unfolding Is
  mentioned-words at seen is h = all-push text seen.identifiers _ h (λ e. is)

  tag-words : (at : ℕ) (seen : Seen) → AllWords text seen → AllWords text (mentioned source true at seen)
  tag-words at seen h = all-push text seen.identifiers _ h (λ e. absurd (cc))

  name-words : (at number : ℕ) (seen : Seen) → Is at → AllWords text seen → AllWords text (declaring source false at number seen)
  unfolding Is
  name-words at number seen is h = all-push text seen.identifiers _ h (λ e. is)

  new-tag-words : (at : ℕ) (seen : Seen) → AllWords text seen → AllWords text (declaring_new source true at seen)
  new-tag-words at seen h = all-push text seen.identifiers _ h (λ e. absurd (cc))

  struct-words : (alone : Bool) (tag : Option ℕ) (seen : Seen) → AllWords text seen → AllWords text (struct_named source alone tag seen)
  struct-words alone None seen h = h
  struct-words alone (Some at) seen h = by (is_known_tag alone (spelled source at) seen.scopes)
    where
      by : (test : Bool) → AllWords text (if test then mentioned source true at seen else declaring_new source true at seen)
      by true = tag-words at seen h
      by false = new-tag-words at seen h

  enum-words : (tag : Option ℕ) (seen : Seen) → AllWords text seen → AllWords text (enum_named source tag seen)
  enum-words None seen h = h
  enum-words (Some at) seen h = tag-words at seen h

  begun-words : (tag : Option ℕ) (seen : Seen) → AllWords text seen → AllWords text (enum_begun source tag seen)
  begun-words None seen h = h
  begun-words (Some at) seen h = new-tag-words at seen h

  -- the name of a declarator
  IsName : Option ℕ → Type 0
  IsName name = (at : ℕ) → name ≡ Some at → is_identifier (symbol_at text at) ≡ true

  mutual
    unfolding IsName IsDeclarator IsDirect

    shape-name : (names : List Declared) (of_parameter : Bool) (shape : Declarator) → IsDeclarator text names of_parameter shape → IsName (declarator_name shape)
    shape-name names of_parameter (tree.shaped span pointers it) is = direct-is names of_parameter _ it is.1

    direct-is : (names : List Declared) (of_parameter : Bool) (here : ℕ) (it : Direct) → IsDirect text names of_parameter here it → IsName (direct_name it)
    direct-is names of_parameter here tree.absent is at e = absurd (cc)
    direct-is names of_parameter here (tree.declared name) is at e =
        let same : name ≡ at = cc in word-there text names at (subst (λ k. is_identifier (symbol_in text names k) ≡ true) (sym is.0 ∙ same) is.1)
    direct-is names of_parameter here (tree.enclosed shape) is at e = shape-name names of_parameter shape is.3 at e
    direct-is names of_parameter here (tree.array it) is at e = direct-is names of_parameter here it is.0 at e
    direct-is names of_parameter here (tree.sized it length) is at e = direct-is names of_parameter here it is.0 at e
    direct-is names of_parameter here (tree.function it these) is at e = direct-is names of_parameter here it is.0 at e

  naming-words : (name : Option ℕ) (seen : Seen) → IsName name → AllWords text seen → AllWords text (naming source name seen)
  unfolding IsName Is
  naming-words None seen is h = h
  naming-words (Some at) seen is h = name-words at (number_here source seen) seen (is at refl) h

  new-words : (name : Option ℕ) (seen : Seen) → IsName name → AllWords text seen → AllWords text (naming_new source name seen)
  unfolding IsName Is
  new-words None seen is h = h
  new-words (Some at) seen is h = name-words at seen.entries seen (is at refl) h

  mutual
    unfolding Is IsExpr AreArguments AreMoreExprs IsTypeName IsSpecifiers AreWords IsSpecifier AreMembers IsMember AreMoreDeclarators AreMoreEnumerators IsEnumerator IsDeclarator IsDirect AreParameters AreMoreParameters IsParameter expr exprs type_name specifiers words specifier members member declarators enumerators enumerator declarator direct parameters parameter

    expr-words : (names : List Declared) (it : Expr) (seen : Seen) → IsExpr text names it → AllWords text seen → AllWords text (expr source seen it)
    expr-words names (tree.name span) seen is h = mentioned-words span.first seen (word-there text names span.first (ap is_identifier is.0)) h
    expr-words names (tree.constant span) seen is h = h
    expr-words names (tree.literal span) seen is h = h
    expr-words names (tree.paren span inner) seen is h = expr-words names inner seen is.2 h
    expr-words names (tree.index span a b) seen is h = expr-words _ b (expr source seen a) is.5 (expr-words names a seen is.1 h)
    expr-words names (tree.call span callee arguments) seen is h = arguments-words _ _ arguments (expr source seen callee) is.4 (expr-words names callee seen is.1 h)
    expr-words names (tree.member span whole name) seen is h = expr-words names whole seen is.1 h
    expr-words names (tree.arrow span operand name) seen is h = expr-words names operand seen is.1 h
    expr-words names (tree.postfix span operand operator) seen is h = expr-words names operand seen is.1 h
    expr-words names (tree.prefix span operator operand) seen is h = expr-words names operand seen is.2 h
    expr-words names (tree.sizeof_expr span operand) seen is h = expr-words names operand seen is.2 h
    expr-words names (tree.sizeof_name span name) seen is h = type-words names name seen is.3 h
    expr-words names (tree.cast span name operand) seen is h = expr-words _ operand (type_name source seen name) is.5 (type-words names name seen is.2 h)
    expr-words names (tree.binary span a operator b) seen is h = expr-words _ b (expr source seen a) is.6 (expr-words names a seen is.1 h)
    expr-words names (tree.conditional span a b d) seen is h =
        expr-words _ d (expr source (expr source seen a) b) is.8 (expr-words _ b (expr source seen a) is.5 (expr-words names a seen is.1 h))
    expr-words names (tree.assign span a operator b) seen is h = expr-words _ b (expr source seen a) is.6 (expr-words names a seen is.1 h)
    expr-words names (tree.comma span tree.no_exprs) seen is h = absurd is
    expr-words names (tree.comma span (tree.more_exprs first tree.no_exprs)) seen is h = absurd is
    expr-words names (tree.comma span (tree.more_exprs first (tree.more_exprs second others))) seen is h =
        more-words _ _ (tree.more_exprs second others) (expr source seen first) is.3 (expr-words names first seen is.1 h)

    arguments-words : (names : List Declared) (at : ℕ) (all : Exprs) (seen : Seen) → AreArguments text names at all → AllWords text seen → AllWords text (exprs source seen all)
    arguments-words names at tree.no_exprs seen is h = h
    arguments-words names at (tree.more_exprs first others) seen is h = more-words _ _ others (expr source seen first) is.3 (expr-words names first seen is.1 h)

    more-words : (names : List Declared) (at : ℕ) (all : Exprs) (seen : Seen) → AreMoreExprs text names at all → AllWords text seen → AllWords text (exprs source seen all)
    more-words names at tree.no_exprs seen is h = h
    more-words names at (tree.more_exprs first others) seen is h = more-words _ _ others (expr source seen first) is.4 (expr-words names first seen is.2 h)

    type-words : (names : List Declared) (name : TypeName) (seen : Seen) → IsTypeName text names name → AllWords text seen → AllWords text (type_name source seen name)
    type-words names (tree.type_name span these shape) seen is h = shape-words _ false shape (specifiers source false seen these) is.3 (specifiers-words false names these seen is.1 h)

    specifiers-words : (alone : Bool) (names : List Declared) (these : Specifiers) (seen : Seen) → IsSpecifiers text names these → AllWords text seen → AllWords text (specifiers source alone seen these)
    specifiers-words alone names (tree.listed span tree.no_words) seen is h = absurd is
    specifiers-words alone names (tree.listed span (tree.more_words first others)) seen is h = all-words alone names _ _ (tree.more_words first others) seen is.0 h

    all-words : (alone : Bool) (names : List Declared) (at : ℕ) (types : Types) (all : Words) (seen : Seen) → AreWords text names at types all → AllWords text seen → AllWords text (words source alone seen all)
    all-words alone names at types tree.no_words seen is h = h
    all-words alone names at types (tree.more_words first others) seen is h = all-words alone _ _ _ others (specifier source alone seen first) is.1 (word-words alone names at types first seen is.0 h)

    word-words : (alone : Bool) (names : List Declared) (at : ℕ) (types : Types) (word : Specifier) (seen : Seen) → IsSpecifier text names at types word → AllWords text seen → AllWords text (specifier source alone seen word)
    word-words alone names at types (tree.keyword word) seen is h = h
    word-words alone names at types (tree.typedef_name name) seen is h =
        mentioned-words name seen (subst (λ k. is_identifier (symbol_at text k) ≡ true) (sym is.0) (word-there text names at (ap is_identifier is.1))) h
    word-words alone names at types (tree.struct_only span tag) seen is h = struct-words alone tag seen h
    word-words alone names at types (tree.struct_with span tag tree.no_members) seen is h = absurd is
    word-words alone names at types (tree.struct_with span tag (tree.more_members first others)) seen is h =
        members-words names _ (tree.more_members first others) (struct_named source true tag seen) is.5 (struct-words true tag seen h)
    word-words alone names at types (tree.enum_only span tag trailing) seen is h = enum-words tag seen h
    word-words alone names at types (tree.enum_with span tag tree.no_enumerators trailing) seen is h = absurd is
    word-words alone names at types (tree.enum_with span tag (tree.more_enumerators first others) trailing) seen is h =
        enumerators-words _ _ others (enumerator source (enum_begun source tag seen) first) is.7 (enumerator-words names first (enum_begun source tag seen) is.6 (begun-words tag seen h))

    members-words : (names : List Declared) (at : ℕ) (all : Members) (seen : Seen) → AreMembers text names at all → AllWords text seen → AllWords text (members source seen all)
    members-words names at tree.no_members seen is h = h
    members-words names at (tree.more_members first others) seen is h = members-words _ _ others (member source seen first) is.2 (member-words names first seen is.1 h)

    member-words : (names : List Declared) (one : Member) (seen : Seen) → IsMember text names one → AllWords text seen → AllWords text (member source seen one)
    member-words names (tree.members span these tree.no_declarators) seen is h = absurd is
    member-words names (tree.members span these (tree.more_declarators first others)) seen is h =
        declarators-words _ _ others (declarator source (specifiers source false seen these) first) is.5
        (shape-words _ false first (specifiers source false seen these) is.3 (specifiers-words false names these seen is.1 h))

    declarators-words : (names : List Declared) (at : ℕ) (all : Declarators) (seen : Seen) → AreMoreDeclarators text names at all → AllWords text seen → AllWords text (declarators source seen all)
    declarators-words names at tree.no_declarators seen is h = h
    declarators-words names at (tree.more_declarators first others) seen is h = declarators-words _ _ others (declarator source seen first) is.4 (shape-words names false first seen is.2 h)

    enumerators-words : (names : List Declared) (at : ℕ) (all : Enumerators) (seen : Seen) → AreMoreEnumerators text names at all → AllWords text seen → AllWords text (enumerators source seen all)
    enumerators-words names at tree.no_enumerators seen is h = h
    enumerators-words names at (tree.more_enumerators first others) seen is h = enumerators-words _ _ others (enumerator source seen first) is.3 (enumerator-words names first seen is.2 h)

    enumerator-words : (names : List Declared) (one : Enumerator) (seen : Seen) → IsEnumerator text names one → AllWords text seen → AllWords text (enumerator source seen one)
    enumerator-words names (tree.bare span at) seen is h = name-words at seen.entries seen (word-there text names at is.1) h
    enumerator-words names (tree.valued span at value) seen is h =
        name-words at (expr source seen value).entries (expr source seen value) (word-there text names at is.1) (expr-words names value seen is.4 h)

    shape-words : (names : List Declared) (of_parameter : Bool) (shape : Declarator) (seen : Seen) → IsDeclarator text names of_parameter shape → AllWords text seen → AllWords text (declarator source seen shape)
    shape-words names of_parameter (tree.shaped span pointers it) seen is h = direct-words names of_parameter _ it seen is.1 h

    direct-words : (names : List Declared) (of_parameter : Bool) (at : ℕ) (it : Direct) (seen : Seen) → IsDirect text names of_parameter at it → AllWords text seen → AllWords text (direct source seen it)
    direct-words names of_parameter at tree.absent seen is h = h
    direct-words names of_parameter at (tree.declared name) seen is h = h
    direct-words names of_parameter at (tree.enclosed shape) seen is h = shape-words names of_parameter shape seen is.3 h
    direct-words names of_parameter at (tree.array it) seen is h = direct-words names of_parameter at it seen is.0 h
    direct-words names of_parameter at (tree.sized it value) seen is h = expr-words _ value (direct source seen it) is.3 (direct-words names of_parameter at it seen is.0 h)
    direct-words names of_parameter at (tree.function it these) seen is h =
        parameters-words _ _ these (list_opened (direct source seen it)) is.2 (direct-words names of_parameter at it seen is.0 h)

    parameters-words : (names : List Declared) (at : ℕ) (these : Parameters) (seen : Seen) → AreParameters text names at these → AllWords text seen → AllWords text (parameters source seen these)
    parameters-words names at tree.no_parameters seen is h = h
    parameters-words names at (tree.more_parameters first others) seen is h = more-parameters-words _ _ others (parameter source seen first) is.2 (parameter-words names first seen is.1 h)

    more-parameters-words : (names : List Declared) (at : ℕ) (these : Parameters) (seen : Seen) → AreMoreParameters text names at these → AllWords text seen → AllWords text (parameters source seen these)
    more-parameters-words names at tree.no_parameters seen is h = h
    more-parameters-words names at (tree.more_parameters first others) seen is h = more-parameters-words _ _ others (parameter source seen first) is.3 (parameter-words names first seen is.2 h)

    parameter-words : (names : List Declared) (one : Parameter) (seen : Seen) → IsParameter text names one → AllWords text seen → AllWords text (parameter source seen one)
    parameter-words names (tree.parameter span these shape) seen is h =
        new-words (declarator_name shape) (declarator source (specifiers source false seen these) shape) (shape-name _ true shape is.3)
        (shape-words _ true shape (specifiers source false seen these) is.3 (specifiers-words false names these seen is.1 h))

  mutual
    unfolding IsInitialiser AreMoreInitialisers initialiser initialisers

    initialiser-words : (names : List Declared) (one : Initialiser) (seen : Seen) → IsInitialiser text names one → AllWords text seen → AllWords text (initialiser source seen one)
    initialiser-words names (tree.value span value) seen is h = expr-words names value seen is.1 h
    initialiser-words names (tree.braces span tree.no_initialisers trailing) seen is h = absurd is
    initialiser-words names (tree.braces span (tree.more_initialisers first others) trailing) seen is h =
        initialisers-words _ _ others (initialiser source seen first) is.3 (initialiser-words names first seen is.2 h)

    initialisers-words : (names : List Declared) (at : ℕ) (all : Initialisers) (seen : Seen) → AreMoreInitialisers text names at all → AllWords text seen → AllWords text (initialisers source seen all)
    initialisers-words names at tree.no_initialisers seen is h = h
    initialisers-words names at (tree.more_initialisers first others) seen is h = initialisers-words _ _ others (initialiser source seen first) is.3 (initialiser-words names first seen is.2 h)

  -- ---- declarations and statements

  named-words : (names : List Declared) (shape : Declarator) (seen : Seen) → IsDeclarator text names false shape → AllWords text seen → AllWords text (named source seen shape)
  named-words names shape seen is h = naming-words (declarator_name shape) (declarator source seen shape) (shape-name names false shape is) (shape-words names false shape seen is h)

  item-words : (names : List Declared) (is_type : Bool) (one : Item) (seen : Seen) → IsItem text names is_type one → AllWords text seen → AllWords text (item source seen one)
  unfolding IsItem
  item-words names is_type (tree.plain span shape) seen is h = named-words names shape seen is.1 h
  item-words names is_type (tree.initialised span shape set) seen is h = initialiser-words _ set (named source seen shape) is.5 (named-words names shape seen is.1 h)

  more-items-words : (names : List Declared) (is_type : Bool) (at : ℕ) (all : List Item) (seen : Seen) → AreMoreItems text names is_type at all → AllWords text seen → AllWords text (items source seen all)
  unfolding AreMoreItems
  more-items-words names is_type at [] seen is h = h
  more-items-words names is_type at (first ∷ others) seen is h = more-items-words (item_declares text is_type first ++ names) is_type (item_span first).after others (item source seen first) is.3 (item-words names is_type first seen is.2 h)

  items-words : (names : List Declared) (is_type : Bool) (at : ℕ) (all : List Item) (seen : Seen) → AreItems text names is_type at all → AllWords text seen → AllWords text (items source seen all)
  unfolding AreItems
  items-words names is_type at [] seen is h = h
  items-words names is_type at (first ∷ others) seen is h = more-items-words (item_declares text is_type first ++ names) is_type (item_span first).after others (item source seen first) is.2 (item-words names is_type first seen is.1 h)

  declaration-words : (names : List Declared) (one : Declaration) (seen : Seen) → IsDeclaration text names one → AllWords text seen → AllWords text (declaration source seen one)
  unfolding IsDeclaration
  declaration-words names (tree.declaring span these all) seen is h =
      items-words _ _ _ all (specifiers source (is_alone these all) seen these) is.2 (specifiers-words (is_alone these all) names these seen is.1 h)

  optional-words : (names : List Declared) (at : ℕ) (it : Option Expr) (seen : Seen) → IsOptional text names at it → AllWords text seen → AllWords text (optional source seen it)
  optional-words names at None seen is h = h
  optional-words names at (Some it) seen is h = expr-words names it seen is.1 h

  start-words : (names : List Declared) (at : ℕ) (one : ForStart) (seen : Seen) → IsStart text names at one → AllWords text seen → AllWords text (start source seen one)
  unfolding IsStart
  start-words names at (tree.declares one) seen is h = declaration-words names one seen is.1 h
  start-words names at (tree.evaluates it) seen is h = optional-words names at it seen is.0 h

  abbrev part : Seen → Seen
  part seen = opened nothing_declared seen

  mutual
    unfolding IsStmt AreBlockItems IsBlockItem AreSwitchItems IsSwitchItem stmt block_items block_item switch_items switch_item

    stmt-words : (names : List Declared) (it : Stmt) (seen : Seen) → IsStmt text names it → AllWords text seen → AllWords text (stmt source seen it)
    stmt-words names (tree.block span all) seen is h = block-words _ _ _ all (part seen) is.1.1 h
    stmt-words names (tree.expression span it) seen is h = optional-words names _ it seen is.0 h
    stmt-words names (tree.if_only span condition body) seen is h = stmt-words _ body (part (expr source (part seen) condition)) is.3 (expr-words names condition (part seen) is.1.2 h)
    stmt-words names (tree.if_else span condition body other) seen is h =
        stmt-words _ other (part (closed (stmt source (part (expr source (part seen) condition)) body))) is.6
        (stmt-words _ body (part (expr source (part seen) condition)) is.3 (expr-words names condition (part seen) is.1.2 h))
    stmt-words names (tree.switch span subject all) seen is h = switch-words _ _ _ all (part (expr source (part seen) subject)) is.3.1 (expr-words names subject (part seen) is.1.2 h)
    stmt-words names (tree.while span condition body) seen is h = stmt-words _ body (part (expr source (part seen) condition)) is.3 (expr-words names condition (part seen) is.1.2 h)
    stmt-words names (tree.do_while span body condition) seen is h = expr-words names condition (closed (stmt source (part (part seen)) body)) is.4.2 (stmt-words names body (part (part seen)) is.2 h)
    stmt-words names (tree.for_loop span its_start condition step body) seen is h =
        let a = start source (part seen) its_start in let b = optional source a condition in let d = optional source b step in
        stmt-words _ body (part d) is.8 (optional-words _ _ step b is.5 (optional-words _ _ condition a is.3 (start-words names _ its_start (part seen) is.2 h)))
    stmt-words names (tree.break span) seen is h = h
    stmt-words names (tree.continue span) seen is h = h
    stmt-words names (tree.return span it) seen is h = optional-words names _ it seen is.1 h

    block-words : (names : List Declared) (at : ℕ) (behind : List Declared) (all : BlockItems) (seen : Seen) → AreBlockItems text names at all behind → AllWords text seen → AllWords text (block_items source seen all)
    block-words names at behind tree.no_items seen is h = h
    block-words names at behind (tree.more_items first others) seen is h = block-words _ _ behind others (block_item source seen first) is.2 (block-item-words names first seen is.1 h)

    block-item-words : (names : List Declared) (one : BlockItem) (seen : Seen) → IsBlockItem text names one → AllWords text seen → AllWords text (block_item source seen one)
    block-item-words names (tree.declared_item one) seen is h = declaration-words names one seen is h
    block-item-words names (tree.stated_item one) seen is h = stmt-words names one seen is h

    switch-words : (names : List Declared) (at : ℕ) (behind : List Declared) (all : SwitchItems) (seen : Seen) → AreSwitchItems text names at all behind → AllWords text seen → AllWords text (switch_items source seen all)
    switch-words names at behind tree.no_switch_items seen is h = h
    switch-words names at behind (tree.more_switch_items first others) seen is h = switch-words _ _ behind others (switch_item source seen first) is.2 (switch-item-words names first seen is.1 h)

    switch-item-words : (names : List Declared) (one : SwitchItem) (seen : Seen) → IsSwitchItem text names one → AllWords text seen → AllWords text (switch_item source seen one)
    switch-item-words names (tree.case span value inner) seen is h = switch-item-words _ inner (expr source seen value) is.6 (expr-words names value seen is.2 h)
    switch-item-words names (tree.default span inner) seen is h = switch-item-words names inner seen is.3 h
    switch-item-words names (tree.unlabelled span one) seen is h = stmt-words names one seen is.1 h

  body-words : (names : List Declared) (it : Stmt) (seen : Seen) → IsBlock it → IsStmt text names it → AllWords text seen → AllWords text (body source seen it)
  unfolding IsStmt
  body-words names (tree.block span all) seen block is h = block-words _ _ _ all (opened (own_scope seen.own) (without_own seen)) is.1.1 h
  body-words names (tree.expression span it) seen block is h = absurd block
  body-words names (tree.if_only span condition it) seen block is h = absurd block
  body-words names (tree.if_else span condition it other) seen block is h = absurd block
  body-words names (tree.switch span operand items) seen block is h = absurd block
  body-words names (tree.while span condition it) seen block is h = absurd block
  body-words names (tree.do_while span it condition) seen block is h = absurd block
  body-words names (tree.for_loop span start condition step it) seen block is h = absurd block
  body-words names (tree.break span) seen block is h = absurd block
  body-words names (tree.continue span) seen block is h = absurd block
  body-words names (tree.return span it) seen block is h = absurd block

  pub external-words : (names : List Declared) (one : External) (seen : Seen) → IsExternal text names one → AllWords text seen → AllWords text (external source seen one)
  unfolding IsExternal
  external-words names (tree.external span one) seen is h = declaration-words names one seen is.1 h
  external-words names (tree.definition span these shape it) seen is h =
      body-words _ it (heading source seen these shape) is.7 is.8 (named-words _ shape (without_own (specifiers source false seen these)) is.3 (specifiers-words false names these seen is.1 h))
