-- No token is seen twice among the identifiers of a unit: those of a piece of syntax stand inside its tokens, by induction over the grammar.
use Rattle.std.specs.Prelude.{◌≡◌, ℕ, zero, suc, ◌==◌, slice_get, find, ◌+◌, ◌<◌, ◌≤◌, ◌⊎◌, Bool, true, false, if◌then◌else◌, List, [], ◌∷◌, ◌++◌, Option, Some, None, refl}
use Rattle.std.specs.List.{AllByRecursion}
use Rattle.std.proofs.Common.{sym, ap, ◌∙◌, subst, arith, append_assoc, append-nil, inl, inr}
use Rattle.dm_token.specs.declared.token.CToken.{CToken}
use Rattle.dm_syn.specs.declared.declared.Declared.{Declared}
use Rattle.dm_syn.specs.Grammar.{IsExpr, AreArguments, AreMoreExprs, IsTypeName, IsSpecifiers, AreWords, Types, IsSpecifier, IsTag, tag_after, trailing_after, AreMembers, IsMember, AreMoreDeclarators, AreMoreEnumerators, IsEnumerator, IsDeclarator, IsDirect, AreParameters, AreMoreParameters, IsParameter}
use Rattle.dm_syn.specs.Scopes.{declarator_name, direct_name, item_declares}
use Rattle.dm_syn.specs.Sources.{Source as Text}
use Rattle.dm_syn.specs.Spans.{expr_span, type_name_span, specifiers_span, member_span, enumerator_span, declarator_span, parameter_span, initialiser_span, item_span, declaration_span, stmt_span, block_item_span, switch_item_span, external_span, exprs_after, specifier_after, words_after, members_after, declarators_after, enumerators_after, parameters_after, pointers_after, direct_after, initialisers_after, items_after, block_items_after, switch_items_after}
use Rattle.dm_syn.specs.Statements.{IsInitialiser, AreMoreInitialisers, IsItem, AreMoreItems, AreItems, IsDeclaration, IsOptional, optional_after, IsStart, start_after, IsStmt, AreBlockItems, IsBlockItem, AreSwitchItems, IsSwitchItem, IsBlock, IsExternal}
use Rattle.dm_syn.specs.Trees.{Expr, Exprs, TypeName, Specifiers, Words, Specifier, Members, Member, Declarators, Enumerators, Enumerator, Declarator, Direct, Parameters, Parameter, Initialiser, Initialisers, Item, Declaration, ForStart, Stmt, BlockItems, BlockItem, SwitchItems, SwitchItem, External}
use Rattle.dm_syn.specs.Trees as tree
use Rattle.std.specs.FinMap as map
use Rattle.dm_type.specs.TableLaws.{injected}
use Rattle.dm_typing.proofs.KindLemmas.{same-numbers, numbers-same}
use Rattle.dm_pexpr.specs.Answers.{source_with}
use Rattle.dm_pexpr.specs.NameMaps.{NameMap}
use Rattle.dm_reading.specs.Syntax.{names_behind, Stand, IsSyntax}
use Rattle.dm_names.specs.Meanings.{nothing_seen, next_external, shown_from, identifiers_in, identifiers_of, is_at, meaning_at}
use Rattle.dm_names.specs.declared.identifier.Identifier.{Identifier}
use Rattle.dm_names.specs.declared.seen.Seen.{Seen}
use Rattle.dm_names.specs.Scopes.{nothing_declared}
use Rattle.dm_names.specs.Seen.{Source, spelled, mentioned, declaring_new, naming, naming_new, is_known_tag, struct_named, enum_named, enum_begun, opened, closed, list_opened, expr, exprs, type_name, specifiers, words, specifier, members, member, declarators, enumerators, enumerator, declarator, direct, parameters, parameter, initialiser, initialisers, named, item, items, is_alone, declaration, optional, start, stmt, block_items, block_item, switch_items, switch_item, own_scope, without_own, body, heading, external}

-- ---- identifiers inside a range, and apart

abbrev IsIn : ℕ → ℕ → Identifier → Type 0
IsIn low high one = (low ≤ one.at) × (one.at < high)

abbrev pub AreApart : List Identifier → Type 0
AreApart [] = Unit {0}
AreApart (one ∷ others) = AllByRecursion (λ (other : Identifier). one.at ≡ other.at → ⊥) others × AreApart others

pub record Adds (low high : ℕ) (old new : List Identifier) : Type 0 where
  pub more : List Identifier
  pub is : new ≡ old ++ more
  pub within : AllByRecursion (IsIn low high) more
  pub apart : AreApart more
  pub risen : low ≤ high

join-all : (Q : Identifier → Type 0) (xs ys : List Identifier) → AllByRecursion Q xs → AllByRecursion Q ys → AllByRecursion Q (xs ++ ys)
join-all Q [] ys h k = k
join-all Q (x ∷ xs) ys h k = (h.0, join-all Q xs ys h.1 k)

within-wider : (a b low high : ℕ) (xs : List Identifier) → low ≤ a → b ≤ high → AllByRecursion (IsIn a b) xs → AllByRecursion (IsIn low high) xs
within-wider a b low high [] l m h = tt
within-wider a b low high (x ∷ xs) l m h = let one = h.0.0 in let two = h.0.1 in ((omega (arith, l, one), omega (arith, m, two)), within-wider a b low high xs l m h.1)

from-all : (a b d e : ℕ) (x : Identifier) (ys : List Identifier) → (b ≤ d) ⊎ (e ≤ a) → IsIn a b x → AllByRecursion (IsIn d e) ys → AllByRecursion (λ (other : Identifier). x.at ≡ other.at → ⊥) ys
from-all a b d e x [] side is h = tt
from-all a b d e x (y ∷ ys) side is h = (by side, from-all a b d e x ys side is h.1)
  where
    by : (b ≤ d) ⊎ (e ≤ a) → x.at ≡ y.at → ⊥
    by (inl l) same = let one = is.1 in let two = h.0.0 in omega (arith, l, one, two, same)
    by (inr l) same = let one = is.0 in let two = h.0.1 in omega (arith, l, one, two, same)

join-apart : (a b d e : ℕ) (xs ys : List Identifier) → (b ≤ d) ⊎ (e ≤ a) → AllByRecursion (IsIn a b) xs → AllByRecursion (IsIn d e) ys → AreApart xs → AreApart ys → AreApart (xs ++ ys)
join-apart a b d e [] ys side h k p q = q
join-apart a b d e (x ∷ xs) ys side h k p q =
    (join-all (λ (other : Identifier). x.at ≡ other.at → ⊥) xs ys p.0 (from-all a b d e x ys side h.0 k), join-apart a b d e xs ys side h.1 k p.1 q)

adds-none : (low high : ℕ) (ids : List Identifier) → low ≤ high → Adds low high ids ids
adds-none low high ids l = record { more = []; is = sym (append-nil ids); within = tt; apart = tt; risen = l }

adds-one : (low high : ℕ) (ids : List Identifier) (x : Identifier) → low ≤ x.at → x.at < high → Adds low high ids (ids ++ x ∷ [])
adds-one low high ids x l m = record { more = x ∷ []; is = refl; within = ((l, m), tt); apart = (tt, tt); risen = omega (arith, l, m) }

adds-in : {a b : ℕ} {old new : List Identifier} (low high : ℕ) → Adds a b old new → low ≤ a → b ≤ high → Adds low high old new
adds-in {a} {b} low high adds l m = record {
  more = adds.more;
  is = adds.is;
  within = within-wider a b low high adds.more l m adds.within;
  apart = adds.apart;
  risen = let r = adds.risen in omega (arith, l, m, r);
}

-- the second ones stand behind the first, or before them
adds-next : {a b d e : ℕ} {old mid new : List Identifier} (low high : ℕ) → Adds a b old mid → Adds d e mid new → b ≤ d → low ≤ a → e ≤ high → Adds low high old new
adds-next {a} {b} {d} {e} {old} {mid} {new} low high one two l m n =
    let r = one.risen in let s = two.risen in record {
      more = one.more ++ two.more;
      is = two.is ∙ ap (λ xs. xs ++ two.more) one.is ∙ append_assoc old one.more two.more;
      within = join-all (IsIn low high) one.more two.more (within-wider a b low high one.more m (omega (arith, l, n, s)) one.within) (within-wider d e low high two.more (omega (arith, l, m, r)) n two.within);
      apart = join-apart a b d e one.more two.more (inl l) one.within two.within one.apart two.apart;
      risen = omega (arith, l, m, n, r, s);
    }

adds-before : {a b d e : ℕ} {old mid new : List Identifier} (low high : ℕ) → Adds a b old mid → Adds d e mid new → e ≤ a → low ≤ d → b ≤ high → Adds low high old new
adds-before {a} {b} {d} {e} {old} {mid} {new} low high one two l m n =
    let r = one.risen in let s = two.risen in record {
      more = one.more ++ two.more;
      is = two.is ∙ ap (λ xs. xs ++ two.more) one.is ∙ append_assoc old one.more two.more;
      within = join-all (IsIn low high) one.more two.more (within-wider a b low high one.more (omega (arith, l, m, s)) n one.within) (within-wider d e low high two.more m (omega (arith, l, n, r)) two.within);
      apart = join-apart a b d e one.more two.more (inr l) one.within two.within one.apart two.apart;
      risen = omega (arith, l, m, n, r, s);
    }

-- ---- numbers

apart-numbers : (n m : ℕ) → (n ≡ m → ⊥) → (n == m) ≡ false
apart-numbers n m differ = by (n == m) refl
  where
    by : (test : Bool) → (n == m) ≡ test → test ≡ false
    by true e = absurd (differ (same-numbers n m e))
    by false e = refl

module _ (source : Source) (text : Text) where
  -- what a piece adds that has these tokens
  abbrev Spans : ℕ → ℕ → Seen → Seen → Type 0
  Spans low high old new = Adds low high old.identifiers new.identifiers

  -- a declarator, whose own name isn't seen yet
  record Shapes (name : Option ℕ) (first behind : ℕ) (old new : Seen) : Type 0 where
    pub none : name ≡ None → Spans first behind old new
    pub some : (n : ℕ) → name ≡ Some n → Spans (n + 1) behind old new
    pub at : (n : ℕ) → name ≡ Some n → first ≤ n

  tag-adds : (names : List Declared) (alone : Bool) (at : ℕ) (tag : Option ℕ) (seen : Seen) → IsTag text names at tag → Spans at (tag_after at tag) seen (struct_named source alone tag seen)
  tag-adds names alone at None seen is = adds-none at at seen.identifiers (omega arith)
  tag-adds names alone at (Some tag) seen is = by (is_known_tag alone (spelled source tag) seen.scopes)
    where
      by : (test : Bool) → Spans at (at + 1) seen (if test then mentioned source true tag seen else declaring_new source true tag seen)
      by true = let e = is.0 in adds-one at (at + 1) seen.identifiers _ (omega (arith, e)) (omega (arith, e))
      by false = let e = is.0 in adds-one at (at + 1) seen.identifiers _ (omega (arith, e)) (omega (arith, e))

  enum-adds : (names : List Declared) (at : ℕ) (tag : Option ℕ) (seen : Seen) → IsTag text names at tag → Spans at (tag_after at tag) seen (enum_named source tag seen)
  enum-adds names at None seen is = adds-none at at seen.identifiers (omega arith)
  enum-adds names at (Some tag) seen is = let e = is.0 in adds-one at (at + 1) seen.identifiers _ (omega (arith, e)) (omega (arith, e))

  begun-adds : (names : List Declared) (at : ℕ) (tag : Option ℕ) (seen : Seen) → IsTag text names at tag → Spans at (tag_after at tag) seen (enum_begun source tag seen)
  begun-adds names at None seen is = adds-none at at seen.identifiers (omega arith)
  begun-adds names at (Some tag) seen is = let e = is.0 in adds-one at (at + 1) seen.identifiers _ (omega (arith, e)) (omega (arith, e))

  tag-low : (at : ℕ) (tag : Option ℕ) → (at ≤ tag_after at tag) × (tag_after at tag ≤ at + 1)
  tag-low at None = (omega arith, omega arith)
  tag-low at (Some tag) = (omega arith, omega arith)

  trailing-low : (at : ℕ) (trailing : Bool) → at ≤ trailing_after at trailing
  trailing-low at true = omega arith
  trailing-low at false = omega arith

  pointers-low : (at : ℕ) (pointers : List ℕ) → at ≤ pointers_after at pointers
  pointers-low at [] = omega arith
  pointers-low at (consts ∷ others) = let rest = pointers-low (at + 1 + consts) others in omega (arith, rest)

  -- the whole of a declarator with its name
  name-adds : {first behind : ℕ} {old mid : Seen} (name : Option ℕ) → Shapes name first behind old mid → Spans first behind old (naming_new source name mid) × Spans first behind old (naming source name mid)
  name-adds {first} {behind} {old} {mid} None shapes = (shapes.none refl, shapes.none refl)
  name-adds {first} {behind} {old} {mid} (Some n) shapes =
      let parts = shapes.some n refl in let low = shapes.at n refl in (
        adds-before first behind parts (adds-one n (n + 1) mid.identifiers _ (omega arith) (omega arith)) (omega arith) low (omega arith),
        adds-before first behind parts (adds-one n (n + 1) mid.identifiers _ (omega arith) (omega arith)) (omega arith) low (omega arith),
      )

  -- and without it
  shape-adds : {first behind : ℕ} {old mid : Seen} (name : Option ℕ) → Shapes name first behind old mid → Spans first behind old mid
  shape-adds {first} {behind} None shapes = shapes.none refl
  shape-adds {first} {behind} (Some n) shapes = let low = shapes.at n refl in adds-in first behind (shapes.some n refl) (omega (arith, low)) (omega arith)

  shapes-wider : {a first b behind : ℕ} {old mid : Seen} (name : Option ℕ) → Shapes name a b old mid → first ≤ a → b ≤ behind → Shapes name first behind old mid
  shapes-wider {a} {first} {b} {behind} name shapes l m = record {
    none = λ e. adds-in first behind (shapes.none e) l m;
    some = λ n e. adds-in (n + 1) behind (shapes.some n e) (omega arith) m;
    at = λ n e. let low = shapes.at n e in omega (arith, l, low);
  }

  shapes-next : {first b d e behind : ℕ} {old mid new : Seen} (name : Option ℕ) → Shapes name first b old mid → Spans d e mid new → b ≤ d → e ≤ behind → Shapes name first behind old new
  shapes-next {first} {b} {d} {e} {behind} name shapes adds l m = record {
    none = λ same. adds-next first behind (shapes.none same) adds l (omega arith) m;
    some = λ n same. adds-next (n + 1) behind (shapes.some n same) adds l (omega arith) m;
    at = shapes.at;
  }

  mutual
    unfolding IsExpr AreArguments AreMoreExprs IsTypeName IsSpecifiers AreWords IsSpecifier AreMembers IsMember AreMoreDeclarators AreMoreEnumerators IsEnumerator IsDeclarator IsDirect AreParameters AreMoreParameters IsParameter expr exprs type_name specifiers words specifier members member declarators enumerators enumerator declarator direct parameters parameter

    expr-adds : (names : List Declared) (it : Expr) (seen : Seen) → IsExpr text names it → Spans (expr_span it).first (expr_span it).after seen (expr source seen it)
    expr-adds names (tree.name span) seen is = let e = is.1 in adds-one span.first span.after seen.identifiers _ (omega arith) (omega (arith, e))
    expr-adds names (tree.constant span) seen is = let e = is.1 in adds-none span.first span.after seen.identifiers (omega (arith, e))
    expr-adds names (tree.literal span) seen is = let e = is.1 in adds-none span.first span.after seen.identifiers (omega (arith, e))
    expr-adds names (tree.paren span inner) seen is =
        let e = is.1 in let f = is.4 in adds-in span.first span.after (expr-adds names inner seen is.2) (omega (arith, e)) (omega (arith, f))
    expr-adds names (tree.index span a b) seen is =
        let e = is.0 in let f = is.4 in let g = is.7 in
        adds-next span.first span.after (expr-adds names a seen is.1) (expr-adds _ b (expr source seen a) is.5) (omega (arith, f)) (omega (arith, e)) (omega (arith, g))
    expr-adds names (tree.call span callee arguments) seen is =
        let e = is.0 in let g = is.6 in
        adds-next span.first span.after (expr-adds names callee seen is.1) (arguments-add _ _ arguments (expr source seen callee) is.4) (omega arith) (omega (arith, e)) (omega (arith, g))
    expr-adds names (tree.member span whole name) seen is =
        let e = is.0 in let f = is.4 in let g = is.6 in adds-in span.first span.after (expr-adds names whole seen is.1) (omega (arith, e)) (omega (arith, f, g))
    expr-adds names (tree.arrow span operand name) seen is =
        let e = is.0 in let f = is.4 in let g = is.6 in adds-in span.first span.after (expr-adds names operand seen is.1) (omega (arith, e)) (omega (arith, f, g))
    expr-adds names (tree.postfix span operand operator) seen is =
        let e = is.0 in let f = is.3 in let g = is.5 in adds-in span.first span.after (expr-adds names operand seen is.1) (omega (arith, e)) (omega (arith, f, g))
    expr-adds names (tree.prefix span operator operand) seen is =
        let e = is.0 in let f = is.1 in let g = is.4 in adds-in span.first span.after (expr-adds names operand seen is.2) (omega (arith, e, f)) (omega (arith, g))
    expr-adds names (tree.sizeof_expr span operand) seen is =
        let e = is.1 in let g = is.4 in adds-in span.first span.after (expr-adds names operand seen is.2) (omega (arith, e)) (omega (arith, g))
    expr-adds names (tree.sizeof_name span name) seen is =
        let e = is.2 in let g = is.5 in adds-in span.first span.after (type-adds names name seen is.3) (omega (arith, e)) (omega (arith, g))
    expr-adds names (tree.cast span name operand) seen is =
        let e = is.1 in let f = is.4 in let g = is.7 in
        adds-next span.first span.after (type-adds names name seen is.2) (expr-adds _ operand (type_name source seen name) is.5) (omega (arith, f)) (omega (arith, e)) (omega (arith, g))
    expr-adds names (tree.binary span a operator b) seen is =
        let e = is.0 in let f = is.2 in let g = is.5 in let h = is.8 in
        adds-next span.first span.after (expr-adds names a seen is.1) (expr-adds _ b (expr source seen a) is.6) (omega (arith, f, g)) (omega (arith, e)) (omega (arith, h))
    expr-adds names (tree.conditional span a b d) seen is =
        let e = is.0 in let f = is.4 in let g = is.7 in let h = is.10 in
        adds-next span.first span.after
        (adds-next (expr_span a).first (expr_span b).after (expr-adds names a seen is.1) (expr-adds _ b (expr source seen a) is.5) (omega (arith, f)) (omega arith) (omega arith))
        (expr-adds _ d (expr source (expr source seen a) b) is.8) (omega (arith, g)) (omega (arith, e)) (omega (arith, h))
    expr-adds names (tree.assign span a operator b) seen is =
        let e = is.0 in let f = is.3 in let g = is.5 in let h = is.8 in
        adds-next span.first span.after (expr-adds names a seen is.1) (expr-adds _ b (expr source seen a) is.6) (omega (arith, f, g)) (omega (arith, e)) (omega (arith, h))
    expr-adds names (tree.comma span tree.no_exprs) seen is = absurd is
    expr-adds names (tree.comma span (tree.more_exprs first tree.no_exprs)) seen is = absurd is
    expr-adds names (tree.comma span (tree.more_exprs first (tree.more_exprs second others))) seen is =
        let e = is.0 in let g = is.4 in
        adds-next span.first span.after (expr-adds names first seen is.1) (more-add _ _ (tree.more_exprs second others) (expr source seen first) is.3) (omega arith) (omega (arith, e)) (omega (arith, g))

    arguments-add : (names : List Declared) (at : ℕ) (all : Exprs) (seen : Seen) → AreArguments text names at all → Spans at (exprs_after at all) seen (exprs source seen all)
    arguments-add names at tree.no_exprs seen is = adds-none at at seen.identifiers (omega arith)
    arguments-add names at (tree.more_exprs first others) seen is =
        let e = is.0 in adds-next at _ (expr-adds names first seen is.1) (more-add _ _ others (expr source seen first) is.3) (omega arith) (omega (arith, e)) (omega arith)

    more-add : (names : List Declared) (at : ℕ) (all : Exprs) (seen : Seen) → AreMoreExprs text names at all → Spans at (exprs_after at all) seen (exprs source seen all)
    more-add names at tree.no_exprs seen is = adds-none at at seen.identifiers (omega arith)
    more-add names at (tree.more_exprs first others) seen is =
        let e = is.1 in adds-next at _ (expr-adds names first seen is.2) (more-add _ _ others (expr source seen first) is.4) (omega arith) (omega (arith, e)) (omega arith)

    type-adds : (names : List Declared) (name : TypeName) (seen : Seen) → IsTypeName text names name → Spans (type_name_span name).first (type_name_span name).after seen (type_name source seen name)
    type-adds names (tree.type_name span these shape) seen is =
        let e = is.0 in let f = is.2 in let g = is.5 in
        adds-next span.first span.after (specifiers-add false names these seen is.1)
        (shape-adds (declarator_name shape) (shapes-of _ false shape (specifiers source false seen these) is.3)) (omega (arith, f)) (omega (arith, e)) (omega (arith, g))

    specifiers-add : (alone : Bool) (names : List Declared) (these : Specifiers) (seen : Seen) → IsSpecifiers text names these
        → Spans (specifiers_span these).first (specifiers_span these).after seen (specifiers source alone seen these)
    specifiers-add alone names (tree.listed span tree.no_words) seen is = absurd is
    specifiers-add alone names (tree.listed span (tree.more_words first others)) seen is =
        let e = is.1 in adds-in span.first span.after (words-add alone names span.first _ (tree.more_words first others) seen is.0) (omega arith) (omega (arith, e))

    words-add : (alone : Bool) (names : List Declared) (at : ℕ) (types : Types) (all : Words) (seen : Seen) → AreWords text names at types all → Spans at (words_after at all) seen (words source alone seen all)
    words-add alone names at types tree.no_words seen is = adds-none at at seen.identifiers (omega arith)
    words-add alone names at types (tree.more_words first others) seen is =
        adds-next at _ (word-adds alone names at types first seen is.0) (words-add alone _ _ _ others (specifier source alone seen first) is.1) (omega arith) (omega arith) (omega arith)

    word-adds : (alone : Bool) (names : List Declared) (at : ℕ) (types : Types) (word : Specifier) (seen : Seen) → IsSpecifier text names at types word
        → Spans at (specifier_after at word) seen (specifier source alone seen word)
    word-adds alone names at types (tree.keyword word) seen is = adds-none at (at + 1) seen.identifiers (omega arith)
    word-adds alone names at types (tree.typedef_name name) seen is = let e = is.0 in adds-one at (at + 1) seen.identifiers _ (omega (arith, e)) (omega (arith, e))
    word-adds alone names at types (tree.struct_only span tag) seen is =
        let g = is.5 in let low = (tag-low (at + 1) tag).1 in adds-in at span.after (tag-adds names alone (at + 1) tag seen is.4) (omega arith) (omega (arith, g, low))
    word-adds alone names at types (tree.struct_with span tag tree.no_members) seen is = absurd is
    word-adds alone names at types (tree.struct_with span tag (tree.more_members first others)) seen is =
        let g = is.7 in
        adds-next at span.after (tag-adds names true (at + 1) tag seen is.3) (members-add names _ (tree.more_members first others) (struct_named source true tag seen) is.5) (omega arith) (omega arith) (omega (arith, g))
    word-adds alone names at types (tree.enum_only span tag trailing) seen is =
        let g = is.6 in let low = (tag-low (at + 1) tag).1 in adds-in at span.after (enum-adds names (at + 1) tag seen is.4) (omega arith) (omega (arith, g, low))
    word-adds alone names at types (tree.enum_with span tag tree.no_enumerators trailing) seen is = absurd is
    word-adds alone names at types (tree.enum_with span tag (tree.more_enumerators first others) trailing) seen is =
        let e = is.5 in let g = is.10 in let low = trailing-low (enumerators_after (enumerator_span first).after others) trailing in
        adds-next at span.after (begun-adds names (at + 1) tag seen is.3)
        (adds-next (enumerator_span first).first (enumerators_after (enumerator_span first).after others) (enumerator-adds names first (enum_begun source tag seen) is.6)
        (enumerators-add _ _ others (enumerator source (enum_begun source tag seen) first) is.7) (omega arith) (omega arith) (omega arith))
        (omega (arith, e)) (omega arith) (omega (arith, g, low))

    members-add : (names : List Declared) (at : ℕ) (all : Members) (seen : Seen) → AreMembers text names at all → Spans at (members_after at all) seen (members source seen all)
    members-add names at tree.no_members seen is = adds-none at at seen.identifiers (omega arith)
    members-add names at (tree.more_members first others) seen is =
        let e = is.0 in adds-next at _ (member-adds names first seen is.1) (members-add _ _ others (member source seen first) is.2) (omega arith) (omega (arith, e)) (omega arith)

    member-adds : (names : List Declared) (one : Member) (seen : Seen) → IsMember text names one → Spans (member_span one).first (member_span one).after seen (member source seen one)
    member-adds names (tree.members span these tree.no_declarators) seen is = absurd is
    member-adds names (tree.members span these (tree.more_declarators first others)) seen is =
        let e = is.0 in let f = is.2 in let g = is.7 in
        adds-next span.first span.after (specifiers-add false names these seen is.1)
        (adds-next (declarator_span first).first (declarators_after (declarator_span first).after others)
        (shape-adds (declarator_name first) (shapes-of _ false first (specifiers source false seen these) is.3))
        (declarators-add _ _ others (declarator source (specifiers source false seen these) first) is.5) (omega arith) (omega arith) (omega arith))
        (omega (arith, f)) (omega (arith, e)) (omega (arith, g))

    declarators-add : (names : List Declared) (at : ℕ) (all : Declarators) (seen : Seen) → AreMoreDeclarators text names at all → Spans at (declarators_after at all) seen (declarators source seen all)
    declarators-add names at tree.no_declarators seen is = adds-none at at seen.identifiers (omega arith)
    declarators-add names at (tree.more_declarators first others) seen is =
        let e = is.1 in
        adds-next at _ (shape-adds (declarator_name first) (shapes-of names false first seen is.2)) (declarators-add _ _ others (declarator source seen first) is.4) (omega arith) (omega (arith, e)) (omega arith)

    enumerators-add : (names : List Declared) (at : ℕ) (all : Enumerators) (seen : Seen) → AreMoreEnumerators text names at all → Spans at (enumerators_after at all) seen (enumerators source seen all)
    enumerators-add names at tree.no_enumerators seen is = adds-none at at seen.identifiers (omega arith)
    enumerators-add names at (tree.more_enumerators first others) seen is =
        let e = is.1 in adds-next at _ (enumerator-adds names first seen is.2) (enumerators-add _ _ others (enumerator source seen first) is.3) (omega arith) (omega (arith, e)) (omega arith)

    enumerator-adds : (names : List Declared) (one : Enumerator) (seen : Seen) → IsEnumerator text names one → Spans (enumerator_span one).first (enumerator_span one).after seen (enumerator source seen one)
    enumerator-adds names (tree.bare span at) seen is = let e = is.0 in let f = is.2 in adds-one span.first span.after seen.identifiers _ (omega (arith, e)) (omega (arith, e, f))
    enumerator-adds names (tree.valued span at value) seen is =
        let e = is.0 in let f = is.3 in let g = is.6 in
        adds-before span.first span.after (expr-adds names value seen is.4) (adds-one span.first (span.first + 1) (expr source seen value).identifiers _ (omega (arith, e)) (omega (arith, e)))
        (omega (arith, e, f)) (omega arith) (omega (arith, g))

    shapes-of : (names : List Declared) (of_parameter : Bool) (shape : Declarator) (seen : Seen) → IsDeclarator text names of_parameter shape
        → Shapes (declarator_name shape) (declarator_span shape).first (declarator_span shape).after seen (declarator source seen shape)
    shapes-of names of_parameter (tree.shaped span pointers it) seen is =
        let e = is.2 in let low = pointers-low span.first pointers in
        shapes-wider (direct_name it) (directs-of names of_parameter _ it seen is.1) (omega (arith, low)) (omega (arith, e))

    directs-of : (names : List Declared) (of_parameter : Bool) (here : ℕ) (it : Direct) (seen : Seen) → IsDirect text names of_parameter here it
        → Shapes (direct_name it) here (direct_after here it) seen (direct source seen it)
    directs-of names of_parameter here tree.absent seen is = record { none = λ e. adds-none here here seen.identifiers (omega arith); some = λ n e. absurd (cc); at = λ n e. absurd (cc) }
    directs-of names of_parameter here (tree.declared name) seen is = record {
      none = λ e. absurd (cc);
      some = λ n e. let same : name ≡ n = cc in let f = is.0 in adds-none (n + 1) (here + 1) seen.identifiers (omega (arith, same, f));
      at = λ n e. let same : name ≡ n = cc in let f = is.0 in omega (arith, same, f);
    }
    directs-of names of_parameter here (tree.enclosed shape) seen is =
        let e = is.2 in shapes-wider (declarator_name shape) (shapes-of names of_parameter shape seen is.3) (omega (arith, e)) (omega arith)
    directs-of names of_parameter here (tree.array it) seen is = shapes-wider (direct_name it) (directs-of names of_parameter here it seen is.0) (omega arith) (omega arith)
    directs-of names of_parameter here (tree.sized it value) seen is =
        let e = is.2 in shapes-next (direct_name it) (directs-of names of_parameter here it seen is.0) (expr-adds _ value (direct source seen it) is.3) (omega (arith, e)) (omega arith)
    directs-of names of_parameter here (tree.function it these) seen is =
        shapes-next (direct_name it) (directs-of names of_parameter here it seen is.0) (parameters-add _ _ these (list_opened (direct source seen it)) is.2) (omega arith) (omega arith)

    parameters-add : (names : List Declared) (at : ℕ) (these : Parameters) (seen : Seen) → AreParameters text names at these → Spans at (parameters_after at these) seen (parameters source seen these)
    parameters-add names at tree.no_parameters seen is = adds-none at at seen.identifiers (omega arith)
    parameters-add names at (tree.more_parameters first others) seen is =
        let e = is.0 in adds-next at _ (parameter-adds names first seen is.1) (more-parameters-add _ _ others (parameter source seen first) is.2) (omega arith) (omega (arith, e)) (omega arith)

    more-parameters-add : (names : List Declared) (at : ℕ) (these : Parameters) (seen : Seen) → AreMoreParameters text names at these → Spans at (parameters_after at these) seen (parameters source seen these)
    more-parameters-add names at tree.no_parameters seen is = adds-none at at seen.identifiers (omega arith)
    more-parameters-add names at (tree.more_parameters first others) seen is =
        let e = is.1 in adds-next at _ (parameter-adds names first seen is.2) (more-parameters-add _ _ others (parameter source seen first) is.3) (omega arith) (omega (arith, e)) (omega arith)

    parameter-adds : (names : List Declared) (one : Parameter) (seen : Seen) → IsParameter text names one → Spans (parameter_span one).first (parameter_span one).after seen (parameter source seen one)
    parameter-adds names (tree.parameter span these shape) seen is =
        let e = is.0 in let f = is.2 in let g = is.4 in
        adds-next span.first span.after (specifiers-add false names these seen is.1)
        (name-adds (declarator_name shape) (shapes-of _ true shape (specifiers source false seen these) is.3)).0 (omega (arith, f)) (omega (arith, e)) (omega (arith, g))

  mutual
    unfolding IsInitialiser AreMoreInitialisers initialiser initialisers

    initialiser-adds : (names : List Declared) (one : Initialiser) (seen : Seen) → IsInitialiser text names one → Spans (initialiser_span one).first (initialiser_span one).after seen (initialiser source seen one)
    initialiser-adds names (tree.value span value) seen is = let e = is.0 in let g = is.3 in adds-in span.first span.after (expr-adds names value seen is.1) (omega (arith, e)) (omega (arith, g))
    initialiser-adds names (tree.braces span tree.no_initialisers trailing) seen is = absurd is
    initialiser-adds names (tree.braces span (tree.more_initialisers first others) trailing) seen is =
        let e = is.1 in let g = is.6 in let low = trailing-low (initialisers_after (initialiser_span first).after others) trailing in
        adds-next span.first span.after (initialiser-adds names first seen is.2) (initialisers-add _ _ others (initialiser source seen first) is.3) (omega arith) (omega (arith, e)) (omega (arith, g, low))

    initialisers-add : (names : List Declared) (at : ℕ) (all : Initialisers) (seen : Seen) → AreMoreInitialisers text names at all → Spans at (initialisers_after at all) seen (initialisers source seen all)
    initialisers-add names at tree.no_initialisers seen is = adds-none at at seen.identifiers (omega arith)
    initialisers-add names at (tree.more_initialisers first others) seen is =
        let e = is.1 in adds-next at _ (initialiser-adds names first seen is.2) (initialisers-add _ _ others (initialiser source seen first) is.3) (omega arith) (omega (arith, e)) (omega arith)

  -- ---- declarations and statements

  named-adds : (names : List Declared) (shape : Declarator) (seen : Seen) → IsDeclarator text names false shape → Spans (declarator_span shape).first (declarator_span shape).after seen (named source seen shape)
  named-adds names shape seen is = (name-adds (declarator_name shape) (shapes-of names false shape seen is)).1

  item-adds : (names : List Declared) (is_type : Bool) (one : Item) (seen : Seen) → IsItem text names is_type one → Spans (item_span one).first (item_span one).after seen (item source seen one)
  unfolding IsItem
  item-adds names is_type (tree.plain span shape) seen is = let e = is.0 in let g = is.3 in adds-in span.first span.after (named-adds names shape seen is.1) (omega (arith, e)) (omega (arith, g))
  item-adds names is_type (tree.initialised span shape set) seen is =
      let e = is.0 in let f = is.4 in let g = is.6 in
      adds-next span.first span.after (named-adds names shape seen is.1) (initialiser-adds _ set (named source seen shape) is.5) (omega (arith, f)) (omega (arith, e)) (omega (arith, g))

  more-items-add : (names : List Declared) (is_type : Bool) (at : ℕ) (all : List Item) (seen : Seen) → AreMoreItems text names is_type at all → Spans at (items_after at all) seen (items source seen all)
  unfolding AreMoreItems
  more-items-add names is_type at [] seen is = adds-none at at seen.identifiers (omega arith)
  more-items-add names is_type at (first ∷ others) seen is =
      let e = is.1 in
      adds-next at _ (item-adds names is_type first seen is.2) (more-items-add (item_declares text is_type first ++ names) is_type (item_span first).after others (item source seen first) is.3) (omega arith) (omega (arith, e)) (omega arith)

  items-add : (names : List Declared) (is_type : Bool) (at : ℕ) (all : List Item) (seen : Seen) → AreItems text names is_type at all → Spans at (items_after at all) seen (items source seen all)
  unfolding AreItems
  items-add names is_type at [] seen is = adds-none at at seen.identifiers (omega arith)
  items-add names is_type at (first ∷ others) seen is =
      let e = is.0 in
      adds-next at _ (item-adds names is_type first seen is.1) (more-items-add (item_declares text is_type first ++ names) is_type (item_span first).after others (item source seen first) is.2) (omega arith) (omega (arith, e)) (omega arith)

  declaration-adds : (names : List Declared) (one : Declaration) (seen : Seen) → IsDeclaration text names one → Spans (declaration_span one).first (declaration_span one).after seen (declaration source seen one)
  unfolding IsDeclaration
  declaration-adds names (tree.declaring span these all) seen is =
      let e = is.0 in let g = is.4 in
      adds-next span.first span.after (specifiers-add (is_alone these all) names these seen is.1) (items-add _ _ _ all (specifiers source (is_alone these all) seen these) is.2) (omega arith) (omega (arith, e)) (omega (arith, g))

  optional-adds : (names : List Declared) (at : ℕ) (it : Option Expr) (seen : Seen) → IsOptional text names at it → Spans at (optional_after at it) seen (optional source seen it)
  optional-adds names at None seen is = adds-none at at seen.identifiers (omega arith)
  optional-adds names at (Some it) seen is = let e = is.0 in adds-in at _ (expr-adds names it seen is.1) (omega (arith, e)) (omega arith)

  start-adds : (names : List Declared) (at : ℕ) (one : ForStart) (seen : Seen) → IsStart text names at one → Spans at (start_after at one) seen (start source seen one)
  unfolding IsStart
  start-adds names at (tree.declares one) seen is = let e = is.0 in adds-in at _ (declaration-adds names one seen is.1) (omega (arith, e)) (omega arith)
  start-adds names at (tree.evaluates it) seen is = adds-in at _ (optional-adds names at it seen is.0) (omega arith) (omega arith)

  abbrev part : Seen → Seen
  part seen = opened nothing_declared seen

  mutual
    unfolding IsStmt AreBlockItems IsBlockItem AreSwitchItems IsSwitchItem stmt block_items block_item switch_items switch_item

    stmt-adds : (names : List Declared) (it : Stmt) (seen : Seen) → IsStmt text names it → Spans (stmt_span it).first (stmt_span it).after seen (stmt source seen it)
    stmt-adds names (tree.block span all) seen is = let g = is.2 in adds-in span.first span.after (block-adds _ _ _ all (part seen) is.1.1) (omega arith) (omega (arith, g))
    stmt-adds names (tree.expression span it) seen is = let g = is.2 in adds-in span.first span.after (optional-adds names span.first it seen is.0) (omega arith) (omega (arith, g))
    stmt-adds names (tree.if_only span condition body) seen is =
        let e = is.1.1 in let f = is.2 in let g = is.5 in
        adds-next span.first span.after (expr-adds names condition (part seen) is.1.2) (stmt-adds _ body (part (expr source (part seen) condition)) is.3) (omega (arith, f)) (omega (arith, e)) (omega (arith, g))
    stmt-adds names (tree.if_else span condition body other) seen is =
        let e = is.1.1 in let f = is.2 in let k = is.5 in let g = is.7 in
        adds-next span.first span.after
        (adds-next span.first (stmt_span body).after (expr-adds names condition (part seen) is.1.2) (stmt-adds _ body (part (expr source (part seen) condition)) is.3) (omega (arith, f)) (omega (arith, e)) (omega arith))
        (stmt-adds _ other (part (closed (stmt source (part (expr source (part seen) condition)) body))) is.6) (omega (arith, k)) (omega arith) (omega (arith, g))
    stmt-adds names (tree.switch span subject all) seen is =
        let e = is.1.1 in let g = is.4 in
        adds-next span.first span.after (expr-adds names subject (part seen) is.1.2) (switch-adds _ _ _ all (part (expr source (part seen) subject)) is.3.1) (omega arith) (omega (arith, e)) (omega (arith, g))
    stmt-adds names (tree.while span condition body) seen is =
        let e = is.1.1 in let f = is.2 in let g = is.4 in
        adds-next span.first span.after (expr-adds names condition (part seen) is.1.2) (stmt-adds _ body (part (expr source (part seen) condition)) is.3) (omega (arith, f)) (omega (arith, e)) (omega (arith, g))
    stmt-adds names (tree.do_while span body condition) seen is =
        let e = is.1 in let f = is.4.1 in let g = is.6 in
        adds-next span.first span.after (stmt-adds names body (part (part seen)) is.2) (expr-adds names condition (closed (stmt source (part (part seen)) body)) is.4.2) (omega (arith, f)) (omega (arith, e)) (omega (arith, g))
    stmt-adds names (tree.for_loop span its_start condition step body) seen is =
        let a = start source (part seen) its_start in let b = optional source a condition in let d = optional source b step in
        let p = start_after (span.first + 2) its_start in let q = optional_after p condition in let r = optional_after (q + 1) step in
        let e = is.7 in let g = is.9 in
        adds-next span.first span.after
        (adds-next span.first r (start-adds names (span.first + 2) its_start (part seen) is.2)
        (adds-next p r (optional-adds _ p condition a is.3) (optional-adds _ (q + 1) step b is.5) (omega arith) (omega arith) (omega arith)) (omega arith) (omega arith) (omega arith))
        (stmt-adds _ body (part d) is.8) (omega (arith, e)) (omega arith) (omega (arith, g))
    stmt-adds names (tree.break span) seen is = let g = is.2 in adds-none span.first span.after seen.identifiers (omega (arith, g))
    stmt-adds names (tree.continue span) seen is = let g = is.2 in adds-none span.first span.after seen.identifiers (omega (arith, g))
    stmt-adds names (tree.return span it) seen is = let g = is.3 in adds-in span.first span.after (optional-adds names (span.first + 1) it seen is.1) (omega arith) (omega (arith, g))

    block-adds : (names : List Declared) (at : ℕ) (behind : List Declared) (all : BlockItems) (seen : Seen) → AreBlockItems text names at all behind → Spans at (block_items_after at all) seen (block_items source seen all)
    block-adds names at behind tree.no_items seen is = adds-none at at seen.identifiers (omega arith)
    block-adds names at behind (tree.more_items first others) seen is =
        let e = is.0 in adds-next at _ (block-item-adds names first seen is.1) (block-adds _ _ behind others (block_item source seen first) is.2) (omega arith) (omega (arith, e)) (omega arith)

    block-item-adds : (names : List Declared) (one : BlockItem) (seen : Seen) → IsBlockItem text names one → Spans (block_item_span one).first (block_item_span one).after seen (block_item source seen one)
    block-item-adds names (tree.declared_item one) seen is = declaration-adds names one seen is
    block-item-adds names (tree.stated_item one) seen is = stmt-adds names one seen is

    switch-adds : (names : List Declared) (at : ℕ) (behind : List Declared) (all : SwitchItems) (seen : Seen) → AreSwitchItems text names at all behind → Spans at (switch_items_after at all) seen (switch_items source seen all)
    switch-adds names at behind tree.no_switch_items seen is = adds-none at at seen.identifiers (omega arith)
    switch-adds names at behind (tree.more_switch_items first others) seen is =
        let e = is.0 in adds-next at _ (switch-item-adds names first seen is.1) (switch-adds _ _ behind others (switch_item source seen first) is.2) (omega arith) (omega (arith, e)) (omega arith)

    switch-item-adds : (names : List Declared) (one : SwitchItem) (seen : Seen) → IsSwitchItem text names one → Spans (switch_item_span one).first (switch_item_span one).after seen (switch_item source seen one)
    switch-item-adds names (tree.case span value inner) seen is =
        let e = is.1 in let f = is.5 in let g = is.7 in
        adds-next span.first span.after (expr-adds names value seen is.2) (switch-item-adds _ inner (expr source seen value) is.6) (omega (arith, f)) (omega (arith, e)) (omega (arith, g))
    switch-item-adds names (tree.default span inner) seen is = let e = is.2 in let g = is.4 in adds-in span.first span.after (switch-item-adds names inner seen is.3) (omega (arith, e)) (omega (arith, g))
    switch-item-adds names (tree.unlabelled span one) seen is = let e = is.0 in let g = is.2 in adds-in span.first span.after (stmt-adds names one seen is.1) (omega (arith, e)) (omega (arith, g))

  body-adds : (names : List Declared) (it : Stmt) (seen : Seen) → IsBlock it → IsStmt text names it → Spans (stmt_span it).first (stmt_span it).after seen (body source seen it)
  unfolding IsStmt
  body-adds names (tree.block span all) seen block is = let g = is.2 in adds-in span.first span.after (block-adds _ _ _ all (opened (own_scope seen.own) (without_own seen)) is.1.1) (omega arith) (omega (arith, g))
  body-adds names (tree.expression span it) seen block is = absurd block
  body-adds names (tree.if_only span condition it) seen block is = absurd block
  body-adds names (tree.if_else span condition it other) seen block is = absurd block
  body-adds names (tree.switch span operand items) seen block is = absurd block
  body-adds names (tree.while span condition it) seen block is = absurd block
  body-adds names (tree.do_while span it condition) seen block is = absurd block
  body-adds names (tree.for_loop span start condition step it) seen block is = absurd block
  body-adds names (tree.break span) seen block is = absurd block
  body-adds names (tree.continue span) seen block is = absurd block
  body-adds names (tree.return span it) seen block is = absurd block

  pub external-adds : (names : List Declared) (one : External) (seen : Seen) → IsExternal text names one → Spans (external_span one).first (external_span one).after seen (external source seen one)
  unfolding IsExternal
  external-adds names (tree.external span one) seen is = let e = is.0 in let g = is.2 in adds-in span.first span.after (declaration-adds names one seen is.1) (omega (arith, e)) (omega (arith, g))
  external-adds names (tree.definition span these shape it) seen is =
      let e = is.0 in let f = is.2 in let k = is.6 in let g = is.9 in
      adds-next span.first span.after
      (adds-next span.first (declarator_span shape).after (specifiers-add false names these seen is.1) (named-adds _ shape (without_own (specifiers source false seen these)) is.3) (omega (arith, f)) (omega (arith, e)) (omega arith))
      (body-adds _ it (heading source seen these shape) is.7 is.8) (omega (arith, k)) (omega arith) (omega (arith, g))

-- ---- units

AreFrom : ℕ → List Identifier → Type 0
AreFrom low all = AllByRecursion (λ (one : Identifier). low ≤ one.at) all

from-within : (low high : ℕ) (all : List Identifier) → AllByRecursion (IsIn low high) all → AreFrom low all
unfolding AreFrom
from-within low high [] h = tt
from-within low high (one ∷ others) h = (h.0.0, from-within low high others h.1)

from-wider : (low more : ℕ) (all : List Identifier) → low ≤ more → AreFrom more all → AreFrom low all
unfolding AreFrom
from-wider low more [] l h = tt
from-wider low more (one ∷ others) l h = (let k = h.0 in omega (arith, l, k), from-wider low more others l h.1)

from-join : (low : ℕ) (xs ys : List Identifier) → AreFrom low xs → AreFrom low ys → AreFrom low (xs ++ ys)
unfolding AreFrom
from-join low xs ys h k = join-all (λ (one : Identifier). low ≤ one.at) xs ys h k

all-other : (low high : ℕ) (x : Identifier) (ys : List Identifier) → IsIn low high x → AreFrom high ys → AllByRecursion (λ (other : Identifier). x.at ≡ other.at → ⊥) ys
unfolding AreFrom
all-other low high x [] is k = tt
all-other low high x (y ∷ ys) is k = ((λ same. let one = is.1 in let two = k.0 in omega (arith, one, two, same)), all-other low high x ys is k.1)

apart-behind : (low high : ℕ) (xs ys : List Identifier) → AllByRecursion (IsIn low high) xs → AreFrom high ys → AreApart xs → AreApart ys → AreApart (xs ++ ys)
apart-behind low high [] ys h k p q = q
apart-behind low high (x ∷ xs) ys h k p q =
    (join-all (λ (other : Identifier). x.at ≡ other.at → ⊥) xs ys p.0 (all-other low high x ys h.0 k), apart-behind low high xs ys h.1 k p.1 q)

shown-apart : (source : Source) (tokens : List CToken) (names : NameMap) (at to : ℕ) (known : NameMap) (all : List External) (seen : Seen) → seen.identifiers ≡ [] → Stand tokens names at all to known
    → AreFrom at (identifiers_in (shown_from source seen all)) × AreApart (identifiers_in (shown_from source seen all))
unfolding Stand AreFrom
shown-apart source tokens names at to known [] seen none is = (tt, tt)
shown-apart source tokens names at to known (first ∷ others) seen none is =
    let mid = external source seen first in
    let adds = external-adds source (source_with tokens names) [] first seen is.0.formed.0 in
    let same : mid.identifiers ≡ adds.more = adds.is ∙ ap (λ xs. xs ++ adds.more) none in
    let rest = shown-apart source tokens (names_behind tokens names first) (external_span first).after to known others (next_external mid) refl is.1 in
    let more = identifiers_in (shown_from source (next_external mid) others) in
    let begins = is.0.begins in let low = adds.risen in
    subst (λ xs. AreFrom at (xs ++ more) × AreApart (xs ++ more)) (sym same) (
      from-join at adds.more more (from-wider at (external_span first).first adds.more (omega (arith, begins)) (from-within (external_span first).first (external_span first).after adds.more adds.within))
          (from-wider at (external_span first).after more (omega (arith, begins, low)) rest.0),
      apart-behind (external_span first).first (external_span first).after adds.more more adds.within rest.0 adds.apart rest.1,
    )

-- the first one at a token is the only one
found-one : (all : List Identifier) (k : ℕ) (one : Identifier) → AreApart all → slice_get all k ≡ Some one → find (is_at one.at) all ≡ Some one
found-one [] k one apart e = absurd (cc)
found-one (first ∷ others) zero one apart e =
    let same : first ≡ one = injected first one e in
    subst (λ (it : Identifier). find (is_at it.at) (first ∷ others) ≡ Some it) same (ap (λ b. if b then Some first else find (is_at first.at) others) (numbers-same first.at first.at refl))
found-one (first ∷ others) (suc k) one apart e =
    ap (λ b. if b then Some first else find (is_at one.at) others) (apart-numbers first.at one.at (differs others k one apart.0 e)) ∙ found-one others k one apart.1 e
  where
    differs : (rest : List Identifier) (n : ℕ) (it : Identifier) → AllByRecursion (λ (other : Identifier). first.at ≡ other.at → ⊥) rest → slice_get rest n ≡ Some it → first.at ≡ it.at → ⊥
    differs [] n it h f same = absurd (cc)
    differs (x ∷ rest) zero it h f same = h.0 (same ∙ sym (ap (λ (other : Identifier). other.at) (injected x it f)))
    differs (x ∷ rest) (suc n) it h f same = differs rest n it h.1 f same

pub unit-found : (source : Source) (tokens : List CToken) (externals : List External) (k : ℕ) (one : Identifier) → IsSyntax tokens externals → slice_get (identifiers_of source externals) k ≡ Some one
    → meaning_at source externals one.at ≡ Some one
unit-found source tokens externals k one syntax e =
    found-one (identifiers_of source externals) k one (shown-apart source tokens map.empty 0 _ syntax.0 externals nothing_seen refl syntax.1).1 e
