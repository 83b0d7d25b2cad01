-- What is seen behind a piece of syntax goes on from what was seen before it.
use Rattle.std.specs.Prelude.{◌≡◌, ℕ, ◌≤◌, Bool, true, false, if◌then◌else◌, List, [], ◌∷◌, ◌++◌, drop, length, Option, Some, None, refl}
use Rattle.std.specs.List.{AllByRecursion}
use Rattle.std.proofs.Common.{ap, ◌∙◌, arith}
use Rattle.dm_syn.specs.Scopes.{declarator_name}
use Rattle.dm_syn.specs.Trees.{Expr, Exprs, TypeName, Specifiers, Words, Specifier, Members, Member, Declarators, Enumerators, Enumerator, Declarator, Direct, Parameters, Parameter, Initialiser, Initialisers, Item, Declaration, ForStart, Stmt, BlockItems, BlockItem, SwitchItems, SwitchItem}
use Rattle.dm_syn.specs.Trees as tree
use Rattle.dm_names.specs.declared.identifier.Identifier.{Identifier}
use Rattle.dm_names.specs.declared.nest.Scope.{Scope}
use Rattle.dm_names.specs.declared.seen.Seen.{Seen}
use Rattle.dm_names.specs.Scopes.{Scopes, nothing_declared, declared_in, meaning_of, first_of}
use Rattle.dm_names.specs.Seen.{Source, spelled, mentioned, declaring, declaring_new, declaring_next, number_here, naming, naming_new, is_known_tag, struct_named, enum_named, enum_begun, opened, closed, in_block, either, list_closed, list_opened, expr, exprs, type_name, specifiers, words, specifier, members, member, declarators, enumerators, enumerator, declarator, direct, parameters, parameter, initialiser, initialisers, named, item, items, is_alone, declaration, optional, start, stmt, block_items, block_item, switch_items, switch_item}

-- the identifiers of before are among those of now, the outer scopes are the same, as many are open, and where `exact` says so, no declarator came
pub record Grows (Q : Identifier → Type 0) (exact : Bool) (old new : Seen) : Type 0 where
  pub told : AllByRecursion Q new.identifiers → AllByRecursion Q old.identifiers
  pub outer : drop 1 new.scopes ≡ drop 1 old.scopes
  pub depth : length new.scopes ≡ length old.scopes
  pub own : (scope : Scope) → old.own ≡ Some scope → new.own ≡ Some scope
  pub entries : old.entries ≤ new.entries
  pub declarators : exact ≡ true → new.declarators ≡ old.declarators

pub all-front : {A : Type 0} (Q : A → Type 0) (xs ys : List A) → AllByRecursion Q (xs ++ ys) → AllByRecursion Q xs
all-front Q [] ys h = tt
all-front Q (x ∷ xs) ys h = (h.0, all-front Q xs ys h.1)

pub all-back : {A : Type 0} (Q : A → Type 0) (xs ys : List A) → AllByRecursion Q (xs ++ ys) → AllByRecursion Q ys
all-back Q [] ys h = h
all-back Q (x ∷ xs) ys h = all-back Q xs ys h.1

length-declared : (tag : Bool) (name : List ℕ) (number : ℕ) (scopes : Scopes) → length (declared_in tag name number scopes) ≡ length scopes
length-declared tag name number [] = refl
length-declared tag name number (scope ∷ outer) = refl

pub drop-declared : (tag : Bool) (name : List ℕ) (number : ℕ) (scopes : Scopes) → drop 1 (declared_in tag name number scopes) ≡ drop 1 scopes
drop-declared tag name number [] = refl
drop-declared tag name number (scope ∷ outer) = refl

module _ (Q : Identifier → Type 0) where
  pub itself : (exact : Bool) (seen : Seen) → Grows Q exact seen seen
  itself exact seen = record { told = λ h. h; outer = refl; depth = refl; own = λ scope e. e; entries = omega arith; declarators = λ yes. refl }

  pub joined : (exact : Bool) (a b c : Seen) → Grows Q exact a b → Grows Q exact b c → Grows Q exact a c
  joined exact a b c f g = record {
    told = λ h. f.told (g.told h);
    outer = g.outer ∙ f.outer;
    depth = g.depth ∙ f.depth;
    own = λ scope e. g.own scope (f.own scope e);
    entries = let one = f.entries in let two = g.entries in omega (arith, one, two);
    declarators = λ yes. g.declarators yes ∙ f.declarators yes;
  }

  pub loosely : (a b : Seen) → Grows Q true a b → Grows Q false a b
  loosely a b f = record { told = f.told; outer = f.outer; depth = f.depth; own = f.own; entries = f.entries; declarators = λ no. f.declarators refl }

  module _ (source : Source) where
    pub mentioned-grows : (exact tag : Bool) (at : ℕ) (seen : Seen) → Grows Q exact seen (mentioned source tag at seen)
    mentioned-grows exact tag at seen = record {
      told = λ h. all-front Q seen.identifiers (record { at = at; tag = tag; number = meaning_of tag (spelled source at) seen.scopes } ∷ []) h;
      outer = refl;
      depth = refl;
      own = λ scope e. e;
      entries = omega arith;
      declarators = λ yes. refl;
    }

    pub declaring-grows : (exact tag : Bool) (at number : ℕ) (seen : Seen) → Grows Q exact seen (declaring source tag at number seen)
    declaring-grows exact tag at number seen = record {
      told = λ h. all-front Q seen.identifiers (record { at = at; tag = tag; number = meaning_of tag (spelled source at) (declared_in tag (spelled source at) number seen.scopes) } ∷ []) h;
      outer = drop-declared tag (spelled source at) number seen.scopes;
      depth = length-declared tag (spelled source at) number seen.scopes;
      own = λ scope e. e;
      entries = omega arith;
      declarators = λ yes. refl;
    }

    pub new-grows : (exact tag : Bool) (at : ℕ) (seen : Seen) → Grows Q exact seen (declaring_new source tag at seen)
    new-grows exact tag at seen = let made = declaring-grows exact tag at seen.entries seen in record {
      told = made.told;
      outer = made.outer;
      depth = made.depth;
      own = made.own;
      entries = omega arith;
      declarators = made.declarators;
    }

    next-grows : (at number : ℕ) (seen : Seen) → Grows Q false seen (declaring_next source at number seen)
    next-grows at number seen = let made = declaring-grows false false at number seen in record {
      told = made.told;
      outer = made.outer;
      depth = made.depth;
      own = made.own;
      entries = omega arith;
      declarators = λ no. absurd (cc);
    }

    pub naming-grows : (name : Option ℕ) (seen : Seen) → Grows Q false seen (naming source name seen)
    naming-grows None seen = itself false seen
    naming-grows (Some at) seen = next-grows at (number_here source seen) seen

    pub naming-new-grows : (name : Option ℕ) (seen : Seen) → Grows Q true seen (naming_new source name seen)
    naming-new-grows None seen = itself true seen
    naming-new-grows (Some at) seen = new-grows true false at seen

    pub struct-grows : (alone : Bool) (tag : Option ℕ) (seen : Seen) → Grows Q true seen (struct_named source alone tag seen)
    struct-grows alone None seen = itself true seen
    struct-grows alone (Some at) seen = by (is_known_tag alone (spelled source at) seen.scopes)
      where
        by : (b : Bool) → Grows Q true seen (if b then mentioned source true at seen else declaring_new source true at seen)
        by true = mentioned-grows true true at seen
        by false = new-grows true true at seen

    enum-named-grows : (tag : Option ℕ) (seen : Seen) → Grows Q true seen (enum_named source tag seen)
    enum-named-grows None seen = itself true seen
    enum-named-grows (Some at) seen = mentioned-grows true true at seen

    enum-begun-grows : (tag : Option ℕ) (seen : Seen) → Grows Q true seen (enum_begun source tag seen)
    enum-begun-grows None seen = itself true seen
    enum-begun-grows (Some at) seen = new-grows true true at seen

    pub block-grows : (scope : Scope) (seen inside : Seen) → Grows Q false (opened scope seen) inside → Grows Q false seen (closed inside)
    block-grows scope seen inside g = record { told = g.told; outer = ap (drop 1) g.outer; depth = ap length g.outer; own = g.own; entries = g.entries; declarators = λ no. absurd (cc) }

    kept-own : (before first : Option Scope) (scope : Scope) → before ≡ Some scope → either before first ≡ Some scope
    kept-own None first scope e = absurd (cc)
    kept-own (Some other) first scope e = e

    pub list-grows : (seen inside : Seen) → Grows Q true (list_opened seen) inside → Grows Q true seen (list_closed seen.own inside)
    list-grows seen inside g = record {
      told = g.told;
      outer = ap (drop 1) g.outer;
      depth = ap length g.outer;
      own = λ scope e. kept-own seen.own (first_of inside.scopes) scope e;
      entries = g.entries;
      declarators = g.declarators;
    }

    mutual
      unfolding expr exprs type_name specifiers words specifier members member declarators enumerators enumerator declarator direct parameters parameter

      pub expr-grows : (seen : Seen) (it : Expr) → Grows Q true seen (expr source seen it)
      expr-grows seen (tree.name span) = mentioned-grows true false span.first seen
      expr-grows seen (tree.constant span) = itself true seen
      expr-grows seen (tree.literal span) = itself true seen
      expr-grows seen (tree.paren span inner) = expr-grows seen inner
      expr-grows seen (tree.index span a b) = joined true seen _ _ (expr-grows seen a) (expr-grows (expr source seen a) b)
      expr-grows seen (tree.call span callee arguments) = joined true seen _ _ (expr-grows seen callee) (exprs-grow (expr source seen callee) arguments)
      expr-grows seen (tree.member span whole name) = expr-grows seen whole
      expr-grows seen (tree.arrow span operand name) = expr-grows seen operand
      expr-grows seen (tree.postfix span operand operator) = expr-grows seen operand
      expr-grows seen (tree.prefix span operator operand) = expr-grows seen operand
      expr-grows seen (tree.sizeof_expr span operand) = expr-grows seen operand
      expr-grows seen (tree.sizeof_name span name) = name-grows seen name
      expr-grows seen (tree.cast span name operand) = joined true seen _ _ (name-grows seen name) (expr-grows (type_name source seen name) operand)
      expr-grows seen (tree.binary span a operator b) = joined true seen _ _ (expr-grows seen a) (expr-grows (expr source seen a) b)
      expr-grows seen (tree.conditional span a b c) =
          joined true seen _ _ (expr-grows seen a) (joined true (expr source seen a) _ _ (expr-grows (expr source seen a) b) (expr-grows (expr source (expr source seen a) b) c))
      expr-grows seen (tree.assign span a operator b) = joined true seen _ _ (expr-grows seen a) (expr-grows (expr source seen a) b)
      expr-grows seen (tree.comma span parts) = exprs-grow seen parts

      pub exprs-grow : (seen : Seen) (all : Exprs) → Grows Q true seen (exprs source seen all)
      exprs-grow seen tree.no_exprs = itself true seen
      exprs-grow seen (tree.more_exprs first others) = joined true seen _ _ (expr-grows seen first) (exprs-grow (expr source seen first) others)

      pub name-grows : (seen : Seen) (name : TypeName) → Grows Q true seen (type_name source seen name)
      name-grows seen (tree.type_name span these shape) = joined true seen _ _ (specifiers-grow false seen these) (declarator-grows (specifiers source false seen these) shape)

      pub specifiers-grow : (alone : Bool) (seen : Seen) (these : Specifiers) → Grows Q true seen (specifiers source alone seen these)
      specifiers-grow alone seen (tree.listed span all) = words-grow alone seen all

      pub words-grow : (alone : Bool) (seen : Seen) (all : Words) → Grows Q true seen (words source alone seen all)
      words-grow alone seen tree.no_words = itself true seen
      words-grow alone seen (tree.more_words first others) = joined true seen _ _ (word-grows alone seen first) (words-grow alone (specifier source alone seen first) others)

      pub word-grows : (alone : Bool) (seen : Seen) (word : Specifier) → Grows Q true seen (specifier source alone seen word)
      word-grows alone seen (tree.keyword at) = itself true seen
      word-grows alone seen (tree.typedef_name at) = mentioned-grows true false at seen
      word-grows alone seen (tree.struct_only span tag) = struct-grows alone tag seen
      word-grows alone seen (tree.struct_with span tag its_members) = joined true seen _ _ (struct-grows true tag seen) (members-grow (struct_named source true tag seen) its_members)
      word-grows alone seen (tree.enum_only span tag trailing) = enum-named-grows tag seen
      word-grows alone seen (tree.enum_with span tag all trailing) = joined true seen _ _ (enum-begun-grows tag seen) (enumerators-grow (enum_begun source tag seen) all)

      pub members-grow : (seen : Seen) (all : Members) → Grows Q true seen (members source seen all)
      members-grow seen tree.no_members = itself true seen
      members-grow seen (tree.more_members first others) = joined true seen _ _ (member-grows seen first) (members-grow (member source seen first) others)

      pub member-grows : (seen : Seen) (one : Member) → Grows Q true seen (member source seen one)
      member-grows seen (tree.members span these all) = joined true seen _ _ (specifiers-grow false seen these) (declarators-grow (specifiers source false seen these) all)

      pub declarators-grow : (seen : Seen) (all : Declarators) → Grows Q true seen (declarators source seen all)
      declarators-grow seen tree.no_declarators = itself true seen
      declarators-grow seen (tree.more_declarators first others) = joined true seen _ _ (declarator-grows seen first) (declarators-grow (declarator source seen first) others)

      pub enumerators-grow : (seen : Seen) (all : Enumerators) → Grows Q true seen (enumerators source seen all)
      enumerators-grow seen tree.no_enumerators = itself true seen
      enumerators-grow seen (tree.more_enumerators first others) = joined true seen _ _ (enumerator-grows seen first) (enumerators-grow (enumerator source seen first) others)

      pub enumerator-grows : (seen : Seen) (one : Enumerator) → Grows Q true seen (enumerator source seen one)
      enumerator-grows seen (tree.bare span at) = new-grows true false at seen
      enumerator-grows seen (tree.valued span at value) = joined true seen _ _ (expr-grows seen value) (new-grows true false at (expr source seen value))

      pub declarator-grows : (seen : Seen) (shape : Declarator) → Grows Q true seen (declarator source seen shape)
      declarator-grows seen (tree.shaped span pointers it) = direct-grows seen it

      pub direct-grows : (seen : Seen) (it : Direct) → Grows Q true seen (direct source seen it)
      direct-grows seen tree.absent = itself true seen
      direct-grows seen (tree.declared name) = itself true seen
      direct-grows seen (tree.enclosed inner) = declarator-grows seen inner
      direct-grows seen (tree.array inner) = direct-grows seen inner
      direct-grows seen (tree.sized inner value) = joined true seen _ _ (direct-grows seen inner) (expr-grows (direct source seen inner) value)
      direct-grows seen (tree.function inner these) =
          joined true seen _ _ (direct-grows seen inner) (list-grows (direct source seen inner) _ (parameters-grow (list_opened (direct source seen inner)) these))

      pub parameters-grow : (seen : Seen) (these : Parameters) → Grows Q true seen (parameters source seen these)
      parameters-grow seen tree.no_parameters = itself true seen
      parameters-grow seen (tree.more_parameters first others) = joined true seen _ _ (parameter-grows seen first) (parameters-grow (parameter source seen first) others)

      pub parameter-grows : (seen : Seen) (one : Parameter) → Grows Q true seen (parameter source seen one)
      parameter-grows seen (tree.parameter span these shape) =
          joined true seen _ _ (specifiers-grow false seen these) (joined true (specifiers source false seen these) _ _ (declarator-grows (specifiers source false seen these) shape)
          (naming-new-grows (declarator_name shape) (declarator source (specifiers source false seen these) shape)))

    mutual
      unfolding initialiser initialisers

      pub initialiser-grows : (seen : Seen) (one : Initialiser) → Grows Q true seen (initialiser source seen one)
      initialiser-grows seen (tree.value span value) = expr-grows seen value
      initialiser-grows seen (tree.braces span all trailing) = initialisers-grow seen all

      pub initialisers-grow : (seen : Seen) (all : Initialisers) → Grows Q true seen (initialisers source seen all)
      initialisers-grow seen tree.no_initialisers = itself true seen
      initialisers-grow seen (tree.more_initialisers first others) = joined true seen _ _ (initialiser-grows seen first) (initialisers-grow (initialiser source seen first) others)

    -- ---- declarations and statements

    pub named-grows : (seen : Seen) (shape : Declarator) → Grows Q false seen (named source seen shape)
    named-grows seen shape = joined false seen _ _ (loosely seen _ (declarator-grows seen shape)) (naming-grows (declarator_name shape) (declarator source seen shape))

    pub item-grows : (seen : Seen) (one : Item) → Grows Q false seen (item source seen one)
    item-grows seen (tree.plain span shape) = named-grows seen shape
    item-grows seen (tree.initialised span shape set) =
        joined false seen _ _ (named-grows seen shape) (loosely (named source seen shape) _ (initialiser-grows (named source seen shape) set))

    pub items-grow : (seen : Seen) (all : List Item) → Grows Q false seen (items source seen all)
    items-grow seen [] = itself false seen
    items-grow seen (first ∷ others) = joined false seen _ _ (item-grows seen first) (items-grow (item source seen first) others)

    pub declaration-grows : (seen : Seen) (one : Declaration) → Grows Q false seen (declaration source seen one)
    declaration-grows seen (tree.declaring span these all) =
        let behind = specifiers source (is_alone these all) seen these in
        joined false seen behind _ (loosely seen behind (specifiers-grow (is_alone these all) seen these)) (items-grow behind all)

    pub optional-grows : (seen : Seen) (value : Option Expr) → Grows Q true seen (optional source seen value)
    optional-grows seen None = itself true seen
    optional-grows seen (Some value) = expr-grows seen value

    pub start-grows : (seen : Seen) (one : ForStart) → Grows Q false seen (start source seen one)
    start-grows seen (tree.declares one) = declaration-grows seen one
    start-grows seen (tree.evaluates value) = loosely seen _ (optional-grows seen value)

    pub inner-grows : (seen : Seen) (within : Seen → Seen) → ((inside : Seen) → Grows Q false inside (within inside)) → Grows Q false seen (in_block seen within)
    inner-grows seen within h = block-grows nothing_declared seen (within (opened nothing_declared seen)) (h (opened nothing_declared seen))

    mutual
      unfolding stmt block_items block_item switch_items switch_item

      pub stmt-grows : (seen : Seen) (it : Stmt) → Grows Q false seen (stmt source seen it)
      stmt-grows seen (tree.expression span value) = loosely seen _ (optional-grows seen value)
      stmt-grows seen (tree.break span) = itself false seen
      stmt-grows seen (tree.continue span) = itself false seen
      stmt-grows seen (tree.return span value) = loosely seen _ (optional-grows seen value)
      stmt-grows seen (tree.block span all) = inner-grows seen _ (λ inside. items-in-grow inside all)
      stmt-grows seen (tree.if_only span condition body) =
          inner-grows seen _ (λ inside. joined false inside _ _ (loosely inside _ (expr-grows inside condition)) (inner-grows (expr source inside condition) _ (λ part. stmt-grows part body)))
      stmt-grows seen (tree.if_else span condition body other) =
          inner-grows seen _ (λ inside. joined false inside _ _ (loosely inside _ (expr-grows inside condition))
          (joined false (expr source inside condition) _ _ (inner-grows (expr source inside condition) _ (λ part. stmt-grows part body)) (inner-grows _ _ (λ part. stmt-grows part other))))
      stmt-grows seen (tree.switch span subject all) =
          inner-grows seen _ (λ inside. joined false inside _ _ (loosely inside _ (expr-grows inside subject)) (inner-grows (expr source inside subject) _ (λ part. switch-grows part all)))
      stmt-grows seen (tree.while span condition body) =
          inner-grows seen _ (λ inside. joined false inside _ _ (loosely inside _ (expr-grows inside condition)) (inner-grows (expr source inside condition) _ (λ part. stmt-grows part body)))
      stmt-grows seen (tree.do_while span body condition) =
          inner-grows seen _ (λ inside. joined false inside _ _ (inner-grows inside _ (λ part. stmt-grows part body)) (loosely _ _ (expr-grows _ condition)))
      stmt-grows seen (tree.for_loop span its_start condition step body) =
          inner-grows seen _ (λ inside. joined false inside _ _ (start-grows inside its_start) (joined false (start source inside its_start) _ _ (loosely _ _ (optional-grows _ condition))
          (joined false _ _ _ (loosely _ _ (optional-grows _ step)) (inner-grows _ _ (λ part. stmt-grows part body)))))

      pub items-in-grow : (seen : Seen) (all : BlockItems) → Grows Q false seen (block_items source seen all)
      items-in-grow seen tree.no_items = itself false seen
      items-in-grow seen (tree.more_items first others) = joined false seen _ _ (item-in-grows seen first) (items-in-grow (block_item source seen first) others)

      pub item-in-grows : (seen : Seen) (one : BlockItem) → Grows Q false seen (block_item source seen one)
      item-in-grows seen (tree.declared_item one) = declaration-grows seen one
      item-in-grows seen (tree.stated_item one) = stmt-grows seen one

      pub switch-grows : (seen : Seen) (all : SwitchItems) → Grows Q false seen (switch_items source seen all)
      switch-grows seen tree.no_switch_items = itself false seen
      switch-grows seen (tree.more_switch_items first others) = joined false seen _ _ (switch-item-grows seen first) (switch-grows (switch_item source seen first) others)

      pub switch-item-grows : (seen : Seen) (one : SwitchItem) → Grows Q false seen (switch_item source seen one)
      switch-item-grows seen (tree.case span value inner) = joined false seen _ _ (loosely seen _ (expr-grows seen value)) (switch-item-grows (expr source seen value) inner)
      switch-item-grows seen (tree.default span inner) = switch-item-grows seen inner
      switch-item-grows seen (tree.unlabelled span one) = stmt-grows seen one
