-- The grammar of expressions, type names, specifiers and declarators (6.5, 6.7.2, 6.7.6, 6.7.7), a clause a production: which trees
-- stand at a place, where these declarations are in scope.
--     level source expr      the level of the first production of 6.5 that derives an expression
--     IsExpr source names expr      the expression is well formed where it stands
--     IsTypeName source names name      and likewise the other trees
-- A tree stands at the tokens of its span: each of its parts and of its own tokens begins where the one before it ends.
use Rattle.std.specs.Prelude.{◌≡◌, ◌≢◌, ◌≤◌, ℕ, zero, suc, ◌+◌, Bool, true, false, List, [], ◌∷◌, ◌++◌, Option, Some, None, IsTrue, IsSome, unwrap_or}
use Rattle.dm_syn.specs.declared.declared.Declared.{Declared}
use Rattle.dm_syn.specs.declared.symbol.Symbol.{Symbol}
use Rattle.dm_syn.specs.declared.symbol.Symbol.TheVariants as symbol
use Rattle.dm_syn.specs.Symbols.{infix_level, is_identifier}
use Rattle.dm_syn.specs.Sources.{Source, symbol_at, symbol_in}
use Rattle.dm_syn.specs.Trees.{Expr, Exprs, TypeName, Specifiers, Words, Specifier, Members, Member, Declarators, Enumerators, Enumerator, Declarator, Direct, Parameters, Parameter}
use Rattle.dm_syn.specs.Trees as tree
use Rattle.dm_syn.specs.Spans.{expr_span, exprs_after, type_name_span, specifiers_span, specifier_after, words_after, member_span, members_after, declarator_span, declarators_after, enumerator_span, enumerators_after, parameter_span, parameters_after, pointers_after, direct_after}
use Rattle.dm_syn.specs.Scopes.{declarator_name, expr_declares, exprs_declares, type_name_declares, specifiers_declares, specifier_declares, member_declares, members_declares, declarator_declares, declarators_declares, enumerator_declares, enumerators_declares, direct_declares, parameter_declares, parameters_declares}

-- the level of an operator between two operands
abbrev pub operator_level : Source → ℕ → ℕ
operator_level source at = unwrap_or (infix_level (symbol_at source at)) 0

-- The level of an expression is that of the first production of 6.5 that derives it: 0 with commas, 1 an assignment, 2 a conditional
-- expression, 3 to 12 operators between two operands, 13 a cast, 14 a unary, 15 a postfix and 16 a primary expression.
abbrev pub level : Source → Expr → ℕ
level source (tree.name span) = 16
level source (tree.constant span) = 16
level source (tree.literal span) = 16
level source (tree.paren span inner) = 16
level source (tree.index span left right) = 15
level source (tree.call span callee arguments) = 15
level source (tree.member span left name) = 15
level source (tree.arrow span left name) = 15
level source (tree.postfix span left operator) = 15
level source (tree.prefix span operator operand) = 14
level source (tree.sizeof_expr span operand) = 14
level source (tree.sizeof_name span name) = 14
level source (tree.cast span name operand) = 13
level source (tree.binary span left operator right) = operator_level source operator
level source (tree.conditional span first second third) = 2
level source (tree.assign span left operator right) = 1
level source (tree.comma span parts) = 0

-- an operand of a prefix operator is a unary expression behind `++` and `--`, and a cast expression behind the others (6.5.3); no
-- other symbol is one
abbrev pub prefix_level : Symbol → Option ℕ
prefix_level symbol.Increment = Some 14
prefix_level symbol.Ampersand = Some 13
prefix_level symbol.Star = Some 13
prefix_level symbol.Additive = Some 13
prefix_level symbol.Complement = Some 13
prefix_level _ = None

-- an assignment operator (6.5.16)
abbrev pub is_assignment : Symbol → Bool
is_assignment symbol.Equals = true
is_assignment symbol.Compound = true
is_assignment _ = false

-- a keyword that is a specifier or a qualifier
abbrev pub is_specifier_word : Symbol → Bool
is_specifier_word symbol.Const = true
is_specifier_word symbol.Typedef = true
is_specifier_word symbol.Storage = true
is_specifier_word symbol.TypeWord = true
is_specifier_word _ = false

-- the type specifiers so far: none, those that stand together, or a typedef name, beside which none other stands
pub data Types : Type 0 where
  no_type : Types
  type_words : Types
  one_name : Types

-- behind a keyword
abbrev pub types_behind_word : Symbol → Types → Types
types_behind_word symbol.TypeWord types = type_words
types_behind_word _ types = types

-- behind a specifier
abbrev pub types_behind : Source → ℕ → Specifier → Types → Types
types_behind source at (tree.keyword word) types = types_behind_word (symbol_at source at) types
types_behind source at (tree.typedef_name name) types = one_name
types_behind source at (tree.struct_only span tag) types = type_words
types_behind source at (tree.struct_with span tag _) types = type_words
types_behind source at (tree.enum_only span tag trailing) types = type_words
types_behind source at (tree.enum_with span tag _ trailing) types = type_words

-- whether another type specifier may stand behind these
abbrev pub TakesType : Types → Type 0
TakesType no_type = Unit {0}
TakesType type_words = Unit {0}
TakesType one_name = ⊥

-- a keyword that is a type specifier stands where one may
abbrev pub TakesWord : Symbol → Types → Type 0
TakesWord symbol.TypeWord types = TakesType types
TakesWord _ types = Unit {0}

-- an identifier that names a type is one more specifier exactly where there is no type specifier yet
abbrev pub EndsBefore : Types → Symbol → Type 0
EndsBefore no_type next = next ≢ symbol.TypedefName
EndsBefore type_words next = Unit {0}
EndsBefore one_name next = Unit {0}

-- it isn't empty
abbrev pub IsNotEmpty : Declarator → Type 0
IsNotEmpty (tree.shaped span [] tree.absent) = ⊥
IsNotEmpty _ = Unit {0}

-- directly behind a `(` in a parameter's declarator, an identifier that names a type begins a parameter list (6.7.6.3p11)
abbrev pub MayBeEnclosed : Bool → Symbol → Type 0
MayBeEnclosed true next = next ≢ symbol.TypedefName
MayBeEnclosed false next = Unit {0}

-- a tag at a place, if there is one
abbrev pub IsTag : Source → List Declared → ℕ → Option ℕ → Type 0
IsTag source names at None = Unit {0}
IsTag source names at (Some tag) = (tag ≡ at) × IsTrue (is_identifier (symbol_in source names at))

abbrev pub tag_after : ℕ → Option ℕ → ℕ
tag_after at None = at
tag_after at (Some tag) = at + 1

-- a comma before the closing brace, if there is one
abbrev pub IsTrailing : Source → List Declared → ℕ → Bool → Type 0
IsTrailing source names at true = symbol_in source names at ≡ symbol.Comma
IsTrailing source names at false = Unit {0}

abbrev pub trailing_after : ℕ → Bool → ℕ
trailing_after at true = at + 1
trailing_after at false = at

-- so many `const` stand there
abbrev pub AreConsts : Source → List Declared → ℕ → ℕ → Type 0
AreConsts source names at zero = Unit {0}
AreConsts source names at (suc count) = (symbol_in source names at ≡ symbol.Const) × AreConsts source names (at + 1) count

-- `*`, each with so many `const` behind it
abbrev pub ArePointers : Source → List Declared → ℕ → List ℕ → Type 0
ArePointers source names at [] = Unit {0}
ArePointers source names at (consts ∷ others) =
    (symbol_in source names at ≡ symbol.Star) × AreConsts source names (at + 1) consts × ArePointers source names (at + 1 + consts) others

unfoldable mutual
  -- primary expressions (6.5.1)
  pub IsExpr : Source → List Declared → Expr → Type 0
  IsExpr source names (tree.name span) = (symbol_in source names span.first ≡ symbol.Identifier) × (span.after ≡ span.first + 1)
  IsExpr source names (tree.constant span) = (symbol_in source names span.first ≡ symbol.Constant) × (span.after ≡ span.first + 1)
  IsExpr source names (tree.literal span) = (symbol_in source names span.first ≡ symbol.Literal) × (span.after ≡ span.first + 1)
  IsExpr source names (tree.paren span inner) =
      (symbol_in source names span.first ≡ symbol.LeftParen)
      × ((expr_span inner).first ≡ span.first + 1) × IsExpr source names inner
      × (symbol_in source (expr_declares source inner ++ names) (expr_span inner).after ≡ symbol.RightParen)
      × (span.after ≡ (expr_span inner).after + 1)
  -- postfix expressions (6.5.2)
  IsExpr source names (tree.index span left right) =
      ((expr_span left).first ≡ span.first) × IsExpr source names left × (15 ≤ level source left)
      × (symbol_in source (expr_declares source left ++ names) (expr_span left).after ≡ symbol.LeftBracket)
      × ((expr_span right).first ≡ (expr_span left).after + 1) × IsExpr source (expr_declares source left ++ names) right
      × (symbol_in source (expr_declares source right ++ (expr_declares source left ++ names)) (expr_span right).after ≡ symbol.RightBracket)
      × (span.after ≡ (expr_span right).after + 1)
  IsExpr source names (tree.call span callee arguments) =
      ((expr_span callee).first ≡ span.first) × IsExpr source names callee × (15 ≤ level source callee)
      × (symbol_in source (expr_declares source callee ++ names) (expr_span callee).after ≡ symbol.LeftParen)
      × AreArguments source (expr_declares source callee ++ names) ((expr_span callee).after + 1) arguments
      × (symbol_in source (exprs_declares source arguments ++ (expr_declares source callee ++ names)) (exprs_after ((expr_span callee).after + 1) arguments) ≡ symbol.RightParen)
      × (span.after ≡ exprs_after ((expr_span callee).after + 1) arguments + 1)
  IsExpr source names (tree.member span left name) =
      ((expr_span left).first ≡ span.first) × IsExpr source names left × (15 ≤ level source left)
      × (symbol_in source (expr_declares source left ++ names) (expr_span left).after ≡ symbol.Dot)
      × (name ≡ (expr_span left).after + 1) × IsTrue (is_identifier (symbol_in source (expr_declares source left ++ names) name))
      × (span.after ≡ name + 1)
  IsExpr source names (tree.arrow span left name) =
      ((expr_span left).first ≡ span.first) × IsExpr source names left × (15 ≤ level source left)
      × (symbol_in source (expr_declares source left ++ names) (expr_span left).after ≡ symbol.Arrow)
      × (name ≡ (expr_span left).after + 1) × IsTrue (is_identifier (symbol_in source (expr_declares source left ++ names) name))
      × (span.after ≡ name + 1)
  IsExpr source names (tree.postfix span left operator) =
      ((expr_span left).first ≡ span.first) × IsExpr source names left × (15 ≤ level source left)
      × (operator ≡ (expr_span left).after) × (symbol_in source (expr_declares source left ++ names) operator ≡ symbol.Increment)
      × (span.after ≡ operator + 1)
  -- unary expressions (6.5.3)
  IsExpr source names (tree.prefix span operator operand) =
      (operator ≡ span.first)
      × ((expr_span operand).first ≡ operator + 1) × IsExpr source names operand
      × ((least : ℕ) × (prefix_level (symbol_in source names operator) ≡ Some least) × (least ≤ level source operand))
      × (span.after ≡ (expr_span operand).after)
  IsExpr source names (tree.sizeof_expr span operand) =
      (symbol_in source names span.first ≡ symbol.Sizeof)
      × ((expr_span operand).first ≡ span.first + 1) × IsExpr source names operand × (14 ≤ level source operand)
      × (span.after ≡ (expr_span operand).after)
  IsExpr source names (tree.sizeof_name span name) =
      (symbol_in source names span.first ≡ symbol.Sizeof) × (symbol_in source names (span.first + 1) ≡ symbol.LeftParen)
      × ((type_name_span name).first ≡ span.first + 2) × IsTypeName source names name
      × (symbol_in source (type_name_declares source name ++ names) (type_name_span name).after ≡ symbol.RightParen)
      × (span.after ≡ (type_name_span name).after + 1)
  -- cast expressions (6.5.4)
  IsExpr source names (tree.cast span name operand) =
      (symbol_in source names span.first ≡ symbol.LeftParen)
      × ((type_name_span name).first ≡ span.first + 1) × IsTypeName source names name
      × (symbol_in source (type_name_declares source name ++ names) (type_name_span name).after ≡ symbol.RightParen)
      × ((expr_span operand).first ≡ (type_name_span name).after + 1) × IsExpr source (type_name_declares source name ++ names) operand
      × (13 ≤ level source operand)
      × (span.after ≡ (expr_span operand).after)
  -- two operands, of which the left one may have the operator's level (6.5.5 to 6.5.14)
  IsExpr source names (tree.binary span left operator right) =
      ((expr_span left).first ≡ span.first) × IsExpr source names left
      × (operator ≡ (expr_span left).after) × (infix_level (symbol_at source operator) ≡ Some (operator_level source operator))
      × (operator_level source operator ≤ level source left)
      × ((expr_span right).first ≡ operator + 1) × IsExpr source (expr_declares source left ++ names) right
      × (operator_level source operator + 1 ≤ level source right)
      × (span.after ≡ (expr_span right).after)
  -- the conditional operator (6.5.15)
  IsExpr source names (tree.conditional span first second third) =
      ((expr_span first).first ≡ span.first) × IsExpr source names first × (3 ≤ level source first)
      × (symbol_in source (expr_declares source first ++ names) (expr_span first).after ≡ symbol.Question)
      × ((expr_span second).first ≡ (expr_span first).after + 1) × IsExpr source (expr_declares source first ++ names) second
      × (symbol_in source (expr_declares source second ++ (expr_declares source first ++ names)) (expr_span second).after ≡ symbol.Colon)
      × ((expr_span third).first ≡ (expr_span second).after + 1)
      × IsExpr source (expr_declares source second ++ (expr_declares source first ++ names)) third × (2 ≤ level source third)
      × (span.after ≡ (expr_span third).after)
  -- assignments (6.5.16)
  IsExpr source names (tree.assign span left operator right) =
      ((expr_span left).first ≡ span.first) × IsExpr source names left × (14 ≤ level source left)
      × (operator ≡ (expr_span left).after) × IsTrue (is_assignment (symbol_at source operator))
      × ((expr_span right).first ≡ operator + 1) × IsExpr source (expr_declares source left ++ names) right × (1 ≤ level source right)
      × (span.after ≡ (expr_span right).after)
  -- two or more expressions with commas between them (6.5.17)
  IsExpr source names (tree.comma span tree.no_exprs) = ⊥
  IsExpr source names (tree.comma span (tree.more_exprs first tree.no_exprs)) = ⊥
  IsExpr source names (tree.comma span (tree.more_exprs first (tree.more_exprs second others))) =
      ((expr_span first).first ≡ span.first) × IsExpr source names first × (1 ≤ level source first)
      × AreMoreExprs source (expr_declares source first ++ names) (expr_span first).after (tree.more_exprs second others)
      × (span.after ≡ exprs_after (expr_span first).after (tree.more_exprs second others))

  -- expressions without a comma, with commas between them, which stand at a place; there may be none
  pub AreArguments : Source → List Declared → ℕ → Exprs → Type 0
  AreArguments source names at tree.no_exprs = Unit {0}
  AreArguments source names at (tree.more_exprs first others) =
      ((expr_span first).first ≡ at) × IsExpr source names first × (1 ≤ level source first)
      × AreMoreExprs source (expr_declares source first ++ names) (expr_span first).after others

  -- such expressions, with a comma before each
  pub AreMoreExprs : Source → List Declared → ℕ → Exprs → Type 0
  AreMoreExprs source names at tree.no_exprs = Unit {0}
  AreMoreExprs source names at (tree.more_exprs first others) =
      (symbol_in source names at ≡ symbol.Comma)
      × ((expr_span first).first ≡ at + 1) × IsExpr source names first × (1 ≤ level source first)
      × AreMoreExprs source (expr_declares source first ++ names) (expr_span first).after others

  -- a type name: specifiers and an abstract declarator, which may be empty (6.7.7)
  pub IsTypeName : Source → List Declared → TypeName → Type 0
  IsTypeName source names (tree.type_name span specifiers declarator) =
      ((specifiers_span specifiers).first ≡ span.first) × IsSpecifiers source names specifiers
      × ((declarator_span declarator).first ≡ (specifiers_span specifiers).after)
      × IsDeclarator source (specifiers_declares source specifiers ++ names) false declarator
      × (declarator_name declarator ≡ None) × (span.after ≡ (declarator_span declarator).after)

  -- one or more specifiers (6.7, 6.7.2.1)
  pub IsSpecifiers : Source → List Declared → Specifiers → Type 0
  IsSpecifiers source names (tree.listed span tree.no_words) = ⊥
  IsSpecifiers source names (tree.listed span (tree.more_words first others)) =
      AreWords source names span.first no_type (tree.more_words first others)
      × (span.after ≡ words_after span.first (tree.more_words first others))

  -- specifiers behind others, up to the last
  pub AreWords : Source → List Declared → ℕ → Types → Words → Type 0
  AreWords source names at types tree.no_words = EndsBefore types (symbol_in source names at)
  AreWords source names at types (tree.more_words first others) =
      IsSpecifier source names at types first
      × AreWords source (specifier_declares source first ++ names) (specifier_after at first) (types_behind source at first types) others

  -- one specifier, behind such type specifiers
  pub IsSpecifier : Source → List Declared → ℕ → Types → Specifier → Type 0
  IsSpecifier source names at types (tree.keyword word) =
      (word ≡ at) × IsTrue (is_specifier_word (symbol_at source at)) × TakesWord (symbol_at source at) types
  -- a typedef name stands only where no other type specifier does (6.7.8)
  IsSpecifier source names at types (tree.typedef_name name) =
      (name ≡ at) × (symbol_in source names at ≡ symbol.TypedefName) × (types ≡ no_type)
  -- 6.7.2.1
  IsSpecifier source names at types (tree.struct_only span tag) =
      TakesType types × (span.first ≡ at) × (symbol_in source names at ≡ symbol.Struct)
      × IsSome tag × IsTag source names (at + 1) tag × (span.after ≡ at + 2)
  IsSpecifier source names at types (tree.struct_with span tag tree.no_members) = ⊥
  IsSpecifier source names at types (tree.struct_with span tag (tree.more_members first others)) =
      TakesType types × (span.first ≡ at) × (symbol_in source names at ≡ symbol.Struct)
      × IsTag source names (at + 1) tag × (symbol_in source names (tag_after (at + 1) tag) ≡ symbol.LeftBrace)
      × AreMembers source names (tag_after (at + 1) tag + 1) (tree.more_members first others)
      × (symbol_in source (members_declares source (tree.more_members first others) ++ names)
      (members_after (tag_after (at + 1) tag + 1) (tree.more_members first others)) ≡ symbol.RightBrace)
      × (span.after ≡ members_after (tag_after (at + 1) tag + 1) (tree.more_members first others) + 1)
  -- 6.7.2.2
  IsSpecifier source names at types (tree.enum_only span tag trailing) =
      TakesType types × (span.first ≡ at) × (symbol_in source names at ≡ symbol.Enum)
      × IsSome tag × IsTag source names (at + 1) tag × (trailing ≡ false) × (span.after ≡ at + 2)
  IsSpecifier source names at types (tree.enum_with span tag tree.no_enumerators trailing) = ⊥
  IsSpecifier source names at types (tree.enum_with span tag (tree.more_enumerators first others) trailing) =
      TakesType types × (span.first ≡ at) × (symbol_in source names at ≡ symbol.Enum)
      × IsTag source names (at + 1) tag × (symbol_in source names (tag_after (at + 1) tag) ≡ symbol.LeftBrace)
      × ((enumerator_span first).first ≡ tag_after (at + 1) tag + 1) × IsEnumerator source names first
      × AreMoreEnumerators source (enumerator_declares source first ++ names) (enumerator_span first).after others
      × IsTrailing source (enumerators_declares source others ++ (enumerator_declares source first ++ names)) (enumerators_after (enumerator_span first).after others) trailing
      × (symbol_in source (enumerators_declares source others ++ (enumerator_declares source first ++ names))
      (trailing_after (enumerators_after (enumerator_span first).after others) trailing) ≡ symbol.RightBrace)
      × (span.after ≡ trailing_after (enumerators_after (enumerator_span first).after others) trailing + 1)

  -- declarations of members, one behind the other
  pub AreMembers : Source → List Declared → ℕ → Members → Type 0
  AreMembers source names at tree.no_members = Unit {0}
  AreMembers source names at (tree.more_members first others) =
      ((member_span first).first ≡ at) × IsMember source names first
      × AreMembers source (member_declares source first ++ names) (member_span first).after others

  -- specifiers and one or more declarators
  pub IsMember : Source → List Declared → Member → Type 0
  IsMember source names (tree.members span specifiers tree.no_declarators) = ⊥
  IsMember source names (tree.members span specifiers (tree.more_declarators first others)) =
      ((specifiers_span specifiers).first ≡ span.first) × IsSpecifiers source names specifiers
      × ((declarator_span first).first ≡ (specifiers_span specifiers).after)
      × IsDeclarator source (specifiers_declares source specifiers ++ names) false first × IsSome (declarator_name first)
      × AreMoreDeclarators source (declarator_declares source first ++ (specifiers_declares source specifiers ++ names)) (declarator_span first).after others
      × (symbol_in source (declarators_declares source others ++ (declarator_declares source first ++ (specifiers_declares source specifiers ++ names)))
      (declarators_after (declarator_span first).after others) ≡ symbol.Semicolon)
      × (span.after ≡ declarators_after (declarator_span first).after others + 1)

  -- declarators with a comma before each
  pub AreMoreDeclarators : Source → List Declared → ℕ → Declarators → Type 0
  AreMoreDeclarators source names at tree.no_declarators = Unit {0}
  AreMoreDeclarators source names at (tree.more_declarators first others) =
      (symbol_in source names at ≡ symbol.Comma)
      × ((declarator_span first).first ≡ at + 1) × IsDeclarator source names false first × IsSome (declarator_name first)
      × AreMoreDeclarators source (declarator_declares source first ++ names) (declarator_span first).after others

  -- enumerators with a comma before each
  pub AreMoreEnumerators : Source → List Declared → ℕ → Enumerators → Type 0
  AreMoreEnumerators source names at tree.no_enumerators = Unit {0}
  AreMoreEnumerators source names at (tree.more_enumerators first others) =
      (symbol_in source names at ≡ symbol.Comma)
      × ((enumerator_span first).first ≡ at + 1) × IsEnumerator source names first
      × AreMoreEnumerators source (enumerator_declares source first ++ names) (enumerator_span first).after others

  -- an enumerator, whose value is a conditional expression (6.6)
  pub IsEnumerator : Source → List Declared → Enumerator → Type 0
  IsEnumerator source names (tree.bare span name) =
      (name ≡ span.first) × IsTrue (is_identifier (symbol_in source names name)) × (span.after ≡ name + 1)
  IsEnumerator source names (tree.valued span name value) =
      (name ≡ span.first) × IsTrue (is_identifier (symbol_in source names name))
      × (symbol_in source names (name + 1) ≡ symbol.Equals)
      × ((expr_span value).first ≡ name + 2) × IsExpr source names value × (2 ≤ level source value)
      × (span.after ≡ (expr_span value).after)

  -- a declarator, of a parameter or not (6.7.6), or an abstract declarator, which may be empty (6.7.7)
  pub IsDeclarator : Source → List Declared → Bool → Declarator → Type 0
  IsDeclarator source names of_parameter (tree.shaped span pointers direct) =
      ArePointers source names span.first pointers
      × IsDirect source names of_parameter (pointers_after span.first pointers) direct
      × (span.after ≡ direct_after (pointers_after span.first pointers) direct)

  -- what stands behind the pointers, at a place
  pub IsDirect : Source → List Declared → Bool → ℕ → Direct → Type 0
  IsDirect source names of_parameter at tree.absent = Unit {0}
  IsDirect source names of_parameter at (tree.declared name) = (name ≡ at) × IsTrue (is_identifier (symbol_in source names at))
  IsDirect source names of_parameter at (tree.enclosed declarator) =
      (symbol_in source names at ≡ symbol.LeftParen) × MayBeEnclosed of_parameter (symbol_in source names (at + 1))
      × ((declarator_span declarator).first ≡ at + 1) × IsDeclarator source names of_parameter declarator × IsNotEmpty declarator
      × (symbol_in source (declarator_declares source declarator ++ names) (declarator_span declarator).after ≡ symbol.RightParen)
  -- 6.7.6.2
  IsDirect source names of_parameter at (tree.array direct) =
      IsDirect source names of_parameter at direct
      × (symbol_in source (direct_declares source direct ++ names) (direct_after at direct) ≡ symbol.LeftBracket)
      × (symbol_in source (direct_declares source direct ++ names) (direct_after at direct + 1) ≡ symbol.RightBracket)
  IsDirect source names of_parameter at (tree.sized direct length) =
      IsDirect source names of_parameter at direct
      × (symbol_in source (direct_declares source direct ++ names) (direct_after at direct) ≡ symbol.LeftBracket)
      × ((expr_span length).first ≡ direct_after at direct + 1)
      × IsExpr source (direct_declares source direct ++ names) length × (2 ≤ level source length)
      × (symbol_in source (expr_declares source length ++ (direct_declares source direct ++ names)) (expr_span length).after ≡ symbol.RightBracket)
  -- 6.7.6.3
  IsDirect source names of_parameter at (tree.function direct parameters) =
      IsDirect source names of_parameter at direct
      × (symbol_in source (direct_declares source direct ++ names) (direct_after at direct) ≡ symbol.LeftParen)
      × AreParameters source (direct_declares source direct ++ names) (direct_after at direct + 1) parameters
      × (symbol_in source (parameters_declares source parameters ++ (direct_declares source direct ++ names))
      (parameters_after (direct_after at direct + 1) parameters) ≡ symbol.RightParen)

  -- parameters with commas between them, which stand at a place; there may be none
  pub AreParameters : Source → List Declared → ℕ → Parameters → Type 0
  AreParameters source names at tree.no_parameters = Unit {0}
  AreParameters source names at (tree.more_parameters first others) =
      ((parameter_span first).first ≡ at) × IsParameter source names first
      × AreMoreParameters source (parameter_declares source first ++ names) (parameter_span first).after others

  -- parameters with a comma before each
  pub AreMoreParameters : Source → List Declared → ℕ → Parameters → Type 0
  AreMoreParameters source names at tree.no_parameters = Unit {0}
  AreMoreParameters source names at (tree.more_parameters first others) =
      (symbol_in source names at ≡ symbol.Comma)
      × ((parameter_span first).first ≡ at + 1) × IsParameter source names first
      × AreMoreParameters source (parameter_declares source first ++ names) (parameter_span first).after others

  -- a parameter: specifiers and a declarator, an abstract declarator or neither (6.7.6)
  pub IsParameter : Source → List Declared → Parameter → Type 0
  IsParameter source names (tree.parameter span specifiers declarator) =
      ((specifiers_span specifiers).first ≡ span.first) × IsSpecifiers source names specifiers
      × ((declarator_span declarator).first ≡ (specifiers_span specifiers).after)
      × IsDeclarator source (specifiers_declares source specifiers ++ names) true declarator
      × (span.after ≡ (declarator_span declarator).after)
