-- Well-formed specifiers are read from their tokens, where what reads their parts does so.
use Rattle.std.proofs.Common.{◌≡◌, ℕ, zero, suc, ◌+◌, ◌<◌, ◌≤◌, Bool, true, false, not, ◌&&◌, List, ◌++◌, Option, Some, None, IsSome, refl, sym, ap, ◌∙◌, subst, arith, length, append_assoc}
use Rattle.dm_token.specs.Limits.{greatest_height}
use Rattle.dm_syn.specs.declared.declared.Declared.{Declared}
use Rattle.dm_syn.specs.declared.symbol.Symbol.{Symbol}
use Rattle.dm_syn.specs.declared.symbol.Symbol.TheVariants as symbol
use Rattle.dm_syn.specs.Symbols.{is, is_identifier, begins_specifiers}
use Rattle.dm_syn.specs.Sources.{Source, symbol_at, symbol_in, names_type, spelling_at}
use Rattle.dm_syn.specs.Trees.{Expr, Specifiers, Words, Specifier, Members, Member, Declarators, Enumerators, Enumerator, Declarator}
use Rattle.dm_syn.specs.Trees as tree
use Rattle.dm_syn.specs.Spans.{expr_span, specifiers_span, specifier_after, words_after, member_span, members_after, declarator_span, declarators_after, enumerator_span, enumerators_after}
use Rattle.dm_syn.specs.Scopes.{expr_declares, specifiers_declares, words_declares, specifier_declares, members_declares, member_declares, declarators_declares, declarator_declares, enumerators_declares, enumerator_declares}
use Rattle.dm_syn.specs.Heights.{specifiers_height, specifier_height, highest_word, words_node, members_height, member_height, declarators_height, enumerators_height, enumerator_height}
use Rattle.dm_syn.specs.Grammar.{is_specifier_word, Types, no_type, types_behind, IsTag, tag_after, IsTrailing, trailing_after, IsSpecifiers, AreWords, IsSpecifier, AreMembers, IsMember, AreMoreDeclarators, AreMoreEnumerators, IsEnumerator}
use Rattle.dm_pexpr.specs.Parsing.{Parts, named, span_of, checked, all_turns, Word, plain_word, type_word, name_word, struct_word, enum_word, word_kind, is_one_more, specifier_of, words_of, words_from, prepend_word, specifiers_from, specifiers_of, struct_of, struct_behind, struct_from, checked_specifier, tag_at, members_of, members_from, prepend_member, member_of, member_from, member_behind, member_with, more_declarators, more_declarators_from, prepend_declarator, enum_of, enum_behind, enum_from, enum_with, enum_closed, enumerator_of, valued_from, more_enumerators, more_enumerators_from, prepend_enumerator}
use Rattle.dm_pexpr.proofs.Positions.{present, member-on, members-on, declarator-on, specifier-on, enumerator-on}
use Rattle.dm_pexpr.proofs.SymbolLemmas.{seen-word}
use Rattle.dm_pexpr.proofs.SpecifierSymbols.{follows_specifiers, follows_declarator, declarator-specifiers, specifiers-no-brace, word-no-brace, identifier-no-right-brace, specifier-no-right-brace, words-end, IsWord, is_plain, is_type, word-is, takes-struct, takes-enum, ends_item, ends-alike, ends-stops, ends-no-equals, plain-more}
use Rattle.dm_pexpr.proofs.Expressions.{fits, holds, it-is, if-true, if-false, both-tests}
use Rattle.dm_pexpr.proofs.Declarators.{ReadsParts, declarator-begins, specifiers-begin, it-is-not}
use Rattle.dm_pexpr.proofs.TestLemmas.{second-no}

-- a keyword among specifiers is seen as it stands
word-seen : (source : Source) (names : List Declared) (at : ℕ) → is_specifier_word (symbol_at source at) ≡ true → symbol_in source names at ≡ symbol_at source at
unfolding symbol_in
word-seen source names at h = seen-word (symbol_at source at) (names_type source names (spelling_at source at)) h

-- no brace stands where a specifier does
specifier-no-brace : (source : Source) (names : List Declared) (at : ℕ) (types : Types) (it : Specifier) → IsSpecifier source names at types it → is (symbol_in source names at) symbol.LeftBrace ≡ false
unfolding IsSpecifier
specifier-no-brace source names at types (tree.keyword word) h =
    ap (λ (it : Symbol). is it symbol.LeftBrace) (word-seen source names at h.1) ∙ word-no-brace (symbol_at source at) h.1
specifier-no-brace source names at types (tree.typedef_name name) h = it-is-not _ symbol.TypedefName symbol.LeftBrace h.1 refl
specifier-no-brace source names at types (tree.struct_only span tag) h = it-is-not _ symbol.Struct symbol.LeftBrace h.2 refl
specifier-no-brace source names at types (tree.struct_with span tag tree.no_members) h = absurd h
specifier-no-brace source names at types (tree.struct_with span tag (tree.more_members first others)) h = it-is-not _ symbol.Struct symbol.LeftBrace h.2 refl
specifier-no-brace source names at types (tree.enum_only span tag trailing) h = it-is-not _ symbol.Enum symbol.LeftBrace h.2 refl
specifier-no-brace source names at types (tree.enum_with span tag tree.no_enumerators trailing) h = absurd h
specifier-no-brace source names at types (tree.enum_with span tag (tree.more_enumerators first others) trailing) h = it-is-not _ symbol.Enum symbol.LeftBrace h.2 refl

-- a token stands there
word-no-end : (it : Symbol) → is_specifier_word it ≡ true → it ≡ symbol.End → ⊥
word-no-end it h e = let no = sym (ap is_specifier_word e) ∙ h in cc

specifier-present : (source : Source) (names : List Declared) (at : ℕ) (types : Types) (it : Specifier) → IsSpecifier source names at types it → at < length source.tokens
unfolding IsSpecifier
specifier-present source names at types (tree.keyword word) h = present source names at (symbol_at source at) (word-seen source names at h.1) (word-no-end (symbol_at source at) h.1)
specifier-present source names at types (tree.typedef_name name) h = present source names at symbol.TypedefName h.1 (λ (e : symbol.TypedefName ≡ symbol.End). cc)
specifier-present source names at types (tree.struct_only span tag) h = present source names at symbol.Struct h.2 (λ (e : symbol.Struct ≡ symbol.End). cc)
specifier-present source names at types (tree.struct_with span tag tree.no_members) h = absurd h
specifier-present source names at types (tree.struct_with span tag (tree.more_members first others)) h = present source names at symbol.Struct h.2 (λ (e : symbol.Struct ≡ symbol.End). cc)
specifier-present source names at types (tree.enum_only span tag trailing) h = present source names at symbol.Enum h.2 (λ (e : symbol.Enum ≡ symbol.End). cc)
specifier-present source names at types (tree.enum_with span tag tree.no_enumerators trailing) h = absurd h
specifier-present source names at types (tree.enum_with span tag (tree.more_enumerators first others) trailing) h = present source names at symbol.Enum h.2 (λ (e : symbol.Enum ≡ symbol.End). cc)

-- no brace stands behind the first of some specifiers
next-no-brace : (source : Source) (others : Words) (names : List Declared) (at : ℕ) (types : Types) → AreWords source names at types others
    → follows_specifiers (symbol_in source (words_declares source others ++ names) (words_after at others)) ≡ true → is (symbol_in source names at) symbol.LeftBrace ≡ false
unfolding AreWords words_declares
next-no-brace source tree.no_words names at types h f = specifiers-no-brace _ f
next-no-brace source (tree.more_words first others) names at types h f = specifier-no-brace source names at types first h.0

-- the tag at a place is seen
tag-seen : (source : Source) (names : List Declared) (at : ℕ) (tag : Option ℕ) → IsTag source names at tag → symbol_in source names (tag_after at tag) ≡ symbol.LeftBrace
    → tag_at source names at ≡ tag
tag-seen source names at None h b = if-false _ _ _ (ap is_identifier b)
tag-seen source names at (Some tag) h b = if-true _ _ _ h.1 ∙ ap Some (sym h.0)

module _ (source : Source) (parts : Parts) (depth : ℕ) (reads : ReadsParts source parts depth) where
  -- declarators of members
  declarators-follow : (others : Declarators) (names : List Declared) (at : ℕ) → AreMoreDeclarators source names at others
      → symbol_in source (declarators_declares source others ++ names) (declarators_after at others) ≡ symbol.Semicolon → follows_declarator (symbol_in source names at) ≡ true
  unfolding AreMoreDeclarators declarators_declares
  declarators-follow tree.no_declarators names at h e = ap follows_declarator e
  declarators-follow (tree.more_declarators first others) names at h e = ap follows_declarator h.0

  more-declarators-read : (it : Declarators) (turns : ℕ) (names : List Declared) (at : ℕ) → AreMoreDeclarators source names at it → 1 ≤ depth
      → declarators_height it ≤ depth → declarators_height it ≤ greatest_height → length source.tokens < at + turns
      → symbol_in source (declarators_declares source it ++ names) (declarators_after at it) ≡ symbol.Semicolon → more_declarators source parts turns names at ≡ Some it
  unfolding AreMoreDeclarators declarators_declares declarators_height more_declarators
  more-declarators-read tree.no_declarators zero names at h some d l t e = refl
  more-declarators-read tree.no_declarators (suc turns) names at h some d l t e = if-false _ _ _ (it-is-not _ symbol.Semicolon symbol.Comma e refl)
  more-declarators-read (tree.more_declarators first others) zero names at h some d l t e =
      absurd (omega (arith, t, present source names at symbol.Comma h.0 (λ (it : symbol.Comma ≡ symbol.End). cc)))
  more-declarators-read (tree.more_declarators first others) (suc turns) names at h some d l t e =
      let ends : symbol_in source (declarators_declares source others ++ (declarator_declares source first ++ names)) (declarators_after (declarator_span first).after others) ≡ symbol.Semicolon =
      subst (λ (all : List Declared). symbol_in source all (declarators_after (declarator_span first).after others) ≡ symbol.Semicolon)
      (append_assoc (declarators_declares source others) (declarator_declares source first) names) e in
      if-true _ _ _ (it-is (symbol_in source names at) symbol.Comma h.0)
      ∙ ap (more_declarators_from (λ one. more_declarators source parts turns (declarator_declares source one ++ names) (declarator_span one).after))
      (ap (parts.declarator named names) (sym h.1)
      ∙ reads.declarator named names first h.2 h.3 some (omega (arith, d)) (omega (arith, l)) (declarators-follow others _ _ h.4 ends))
      ∙ ap (prepend_declarator first) (more-declarators-read others turns (declarator_declares source first ++ names) (declarator_span first).after h.4 some (omega (arith, d)) (omega (arith, l))
      (omega (arith, t, h.1, declarator-on source names false first h.2)) ends)

  -- members
  member-read : (names : List Declared) (it : Member) → IsMember source names it → 1 ≤ depth → member_height it ≤ depth → member_height it ≤ greatest_height
      → member_of source parts names (member_span it).first ≡ Some it
  unfolding IsMember member_height declarators_height member_of
  member-read names (tree.members span specifiers tree.no_declarators) h some d l = absurd h
  member-read names (tree.members span specifiers (tree.more_declarators first others)) h some d l =
      let follow : follows_declarator (symbol_in source (declarator_declares source first ++ (specifiers_declares source specifiers ++ names)) (declarator_span first).after) ≡ true =
      declarators-follow others _ _ h.5 h.6 in
      ap (member_from source parts names span.first) (ap (parts.specifiers names) (sym h.0)
      ∙ reads.specifiers names specifiers h.1 (omega (arith, d)) (omega (arith, l))
      (subst (λ (at : ℕ). follows_specifiers (symbol_in source (specifiers_declares source specifiers ++ names) at) ≡ true) h.2
      (declarator-begins source _ false first h.3 (declarator-specifiers _ follow))))
      ∙ ap (member_behind source parts (specifiers_declares source specifiers ++ names) span.first specifiers)
      (ap (parts.declarator named (specifiers_declares source specifiers ++ names)) (sym h.2)
      ∙ reads.declarator named (specifiers_declares source specifiers ++ names) first h.3 h.4 some (omega (arith, d)) (omega (arith, l)) follow)
      ∙ ap (member_with source (declarator_declares source first ++ (specifiers_declares source specifiers ++ names)) span.first specifiers first)
      (more-declarators-read others (all_turns source) (declarator_declares source first ++ (specifiers_declares source specifiers ++ names)) (declarator_span first).after h.5 some
      (omega (arith, d)) (omega (arith, l)) (omega arith) h.6)
      ∙ holds _ _ (it-is _ symbol.Semicolon h.6)
      ∙ ap (λ (after : ℕ). Some (tree.members (span_of span.first after) specifiers (tree.more_declarators first others))) (sym h.7)

  member-begins : (names : List Declared) (it : Member) → IsMember source names it → begins_specifiers (symbol_in source names (member_span it).first) ≡ true
  unfolding IsMember
  member-begins names (tree.members span specifiers tree.no_declarators) h = absurd h
  member-begins names (tree.members span specifiers (tree.more_declarators first others)) h =
      ap (λ (at : ℕ). begins_specifiers (symbol_in source names at)) (sym h.0) ∙ specifiers-begin source names specifiers h.1

  members-read : (it : Members) (turns : ℕ) (names : List Declared) (at : ℕ) → AreMembers source names at it → 1 ≤ depth
      → members_height it ≤ depth → members_height it ≤ greatest_height → length source.tokens < at + turns
      → symbol_in source (members_declares source it ++ names) (members_after at it) ≡ symbol.RightBrace → members_of source parts turns names at ≡ Some it
  unfolding AreMembers members_declares members_height members_of
  members-read tree.no_members zero names at h some d l t e =
      absurd (omega (arith, t, present source _ at symbol.RightBrace e (λ (it : symbol.RightBrace ≡ symbol.End). cc)))
  members-read tree.no_members (suc turns) names at h some d l t e = if-true _ _ _ (it-is _ symbol.RightBrace e)
  members-read (tree.more_members first others) zero names at h some d l t e =
      absurd (omega (
        arith,
        t,
        h.0,
        member-on source names first h.1,
        members-on source _ _ others h.2,
        present source _ _ symbol.RightBrace e (λ (it : symbol.RightBrace ≡ symbol.End). cc),
      ))
  members-read (tree.more_members first others) (suc turns) names at h some d l t e =
      let ends : symbol_in source (members_declares source others ++ (member_declares source first ++ names)) (members_after (member_span first).after others) ≡ symbol.RightBrace =
      subst (λ (all : List Declared). symbol_in source all (members_after (member_span first).after others) ≡ symbol.RightBrace)
      (append_assoc (members_declares source others) (member_declares source first) names) e in
      if-false _ _ _ (ap (λ (place : ℕ). is (symbol_in source names place) symbol.RightBrace) (sym h.0) ∙ specifier-no-right-brace _ (member-begins names first h.1))
      ∙ ap (members_from (λ one. members_of source parts turns (member_declares source one ++ names) (member_span one).after))
      (ap (member_of source parts names) (sym h.0) ∙ member-read names first h.1 some (omega (arith, d)) (omega (arith, l)))
      ∙ ap (prepend_member first) (members-read others turns (member_declares source first ++ names) (member_span first).after h.2 some (omega (arith, d)) (omega (arith, l))
      (omega (arith, t, h.0, member-on source names first h.1)) ends)

  -- enumerators
  enumerator-read : (names : List Declared) (it : Enumerator) → IsEnumerator source names it → enumerator_height it ≤ depth → enumerator_height it ≤ greatest_height
      → ends_item (symbol_in source (enumerator_declares source it ++ names) (enumerator_span it).after) ≡ true
      → enumerator_of source parts names (enumerator_span it).first ≡ Some it
  unfolding IsEnumerator enumerator_height enumerator_of
  enumerator-read names (tree.bare span name) h d l f =
      let place : span.first + 1 ≡ span.after = omega (arith, h.0, h.2) in
      if-true _ _ _ (ap (λ (at : ℕ). is_identifier (symbol_in source names at)) (sym h.0) ∙ h.1)
      ∙ if-false _ _ _ (ap (λ (at : ℕ). is (symbol_in source names at) symbol.Equals) place ∙ ends-no-equals _ (ends-alike source _ names _ f))
      ∙ (λ i. Some (tree.bare (span_of span.first (place i)) (sym h.0 i)))
  enumerator-read names (tree.valued span name value) h d l f =
      let equals : symbol_in source names (span.first + 1) ≡ symbol.Equals = ap (λ (at : ℕ). symbol_in source names (at + 1)) (sym h.0) ∙ h.2 in
      let place : span.first + 2 ≡ (expr_span value).first = omega (arith, h.0, h.3) in
      if-true _ _ _ (ap (λ (at : ℕ). is_identifier (symbol_in source names at)) (sym h.0) ∙ h.1)
      ∙ if-true _ _ _ (it-is _ symbol.Equals equals)
      ∙ ap (valued_from span.first) (ap (parts.expr 2 names) place
      ∙ reads.expr 2 names value h.4 h.5 (omega (arith, d)) (omega (arith, l))
      (ends-stops _ (ends-alike source _ (expr_declares source value ++ names) _
      (subst (λ (at : ℕ). ends_item (symbol_in source (enumerator_declares source (tree.valued span name value) ++ names) at) ≡ true) h.6 f))))
      ∙ (λ i. Some (tree.valued (span_of span.first (sym h.6 i)) (sym h.0 i) value))

  -- how enumerators end
  EndsEnum : List Declared → ℕ → Bool → Type 0
  EndsEnum names at trailing = IsTrailing source names at trailing × (symbol_in source names (trailing_after at trailing) ≡ symbol.RightBrace)

  ends-with-item : (names : List Declared) (at : ℕ) (trailing : Bool) → EndsEnum names at trailing → ends_item (symbol_in source names at) ≡ true
  unfolding EndsEnum
  ends-with-item names at true e = ap ends_item e.0
  ends-with-item names at false e = ap ends_item e.1

  no-more-enumerators : (names : List Declared) (at : ℕ) (trailing : Bool) → EndsEnum names at trailing
      → (is (symbol_in source names at) symbol.Comma && not (is (symbol_in source names (at + 1)) symbol.RightBrace)) ≡ false
  unfolding EndsEnum
  no-more-enumerators names at true e = second-no _ _ (ap (λ (it : Symbol). not (is it symbol.RightBrace)) e.1)
  no-more-enumerators names at false e = ap (λ (it : Symbol). is it symbol.Comma && not (is (symbol_in source names (at + 1)) symbol.RightBrace)) e.1

  trailing-seen : (names : List Declared) (at : ℕ) (trailing : Bool) → EndsEnum names at trailing → is (symbol_in source names at) symbol.Comma ≡ trailing
  unfolding EndsEnum
  trailing-seen names at true e = it-is _ symbol.Comma e.0
  trailing-seen names at false e = it-is-not _ symbol.RightBrace symbol.Comma e.1 refl

  enumerators-follow : (others : Enumerators) (names : List Declared) (at : ℕ) (trailing : Bool) → AreMoreEnumerators source names at others
      → EndsEnum (enumerators_declares source others ++ names) (enumerators_after at others) trailing → ends_item (symbol_in source names at) ≡ true
  unfolding AreMoreEnumerators enumerators_declares
  enumerators-follow tree.no_enumerators names at trailing h e = ends-with-item names at trailing e
  enumerators-follow (tree.more_enumerators first others) names at trailing h e = ap ends_item h.0

  enumerator-first : (names : List Declared) (it : Enumerator) → IsEnumerator source names it → is_identifier (symbol_in source names (enumerator_span it).first) ≡ true
  unfolding IsEnumerator
  enumerator-first names (tree.bare span name) h = ap (λ (at : ℕ). is_identifier (symbol_in source names at)) (sym h.0) ∙ h.1
  enumerator-first names (tree.valued span name value) h = ap (λ (at : ℕ). is_identifier (symbol_in source names at)) (sym h.0) ∙ h.1

  more-enumerators-read : (it : Enumerators) (turns : ℕ) (names : List Declared) (at : ℕ) (trailing : Bool) → AreMoreEnumerators source names at it
      → enumerators_height it ≤ depth → enumerators_height it ≤ greatest_height → length source.tokens < at + turns
      → EndsEnum (enumerators_declares source it ++ names) (enumerators_after at it) trailing → more_enumerators source parts turns names at ≡ Some it
  unfolding AreMoreEnumerators enumerators_declares enumerators_height more_enumerators
  more-enumerators-read tree.no_enumerators zero names at trailing h d l t e = refl
  more-enumerators-read tree.no_enumerators (suc turns) names at trailing h d l t e = if-false _ _ _ (no-more-enumerators names at trailing e)
  more-enumerators-read (tree.more_enumerators first others) zero names at trailing h d l t e =
      absurd (omega (arith, t, present source names at symbol.Comma h.0 (λ (it : symbol.Comma ≡ symbol.End). cc)))
  more-enumerators-read (tree.more_enumerators first others) (suc turns) names at trailing h d l t e =
      let ends : EndsEnum (enumerators_declares source others ++ (enumerator_declares source first ++ names)) (enumerators_after (enumerator_span first).after others) trailing =
      subst (λ (all : List Declared). EndsEnum all (enumerators_after (enumerator_span first).after others) trailing)
      (append_assoc (enumerators_declares source others) (enumerator_declares source first) names) e in
      if-true _ _ _ (both-tests _ _ (it-is (symbol_in source names at) symbol.Comma h.0)
      (ap not (ap (λ (place : ℕ). is (symbol_in source names place) symbol.RightBrace) (sym h.1) ∙ identifier-no-right-brace _ (enumerator-first names first h.2))))
      ∙ ap (more_enumerators_from (λ one. more_enumerators source parts turns (enumerator_declares source one ++ names) (enumerator_span one).after))
      (ap (enumerator_of source parts names) (sym h.1)
      ∙ enumerator-read names first h.2 (omega (arith, d)) (omega (arith, l)) (enumerators-follow others _ _ trailing h.3 ends))
      ∙ ap (prepend_enumerator first) (more-enumerators-read others turns (enumerator_declares source first ++ names) (enumerator_span first).after trailing h.3 (omega (arith, d)) (omega (arith, l))
      (omega (arith, t, h.1, enumerator-on source names first h.2)) ends)

  member-high : (it : Member) → 1 ≤ member_height it
  unfolding member_height
  member-high (tree.members span specifiers declarators) = omega arith

  -- reading one specifier
  SpecifierRead : List Declared → ℕ → Types → Specifier → Type 0
  SpecifierRead names at types it =
      (word : Word) × (word_kind (symbol_in source names at) ≡ word) × (is_one_more types word ≡ true) × (specifier_of source parts names at word ≡ Some it)

  keyword-read : (names : List Declared) (at : ℕ) (types : Types) (word : ℕ) → word ≡ at → is_specifier_word (symbol_at source at) ≡ true
      → IsWord (symbol_at source at) types → SpecifierRead names at types (tree.keyword word)
  unfolding SpecifierRead specifier_of
  keyword-read names at types word place w (is_plain kind) =
      (plain_word, ap word_kind (word-seen source names at w) ∙ kind, plain-more types, ap (λ (here : ℕ). Some (tree.keyword here)) (sym place))
  keyword-read names at types word place w (is_type kind more) =
      (type_word, ap word_kind (word-seen source names at w) ∙ kind, more, ap (λ (here : ℕ). Some (tree.keyword here)) (sym place))

  name-one-more : (types : Types) → types ≡ no_type → is_one_more types name_word ≡ true
  name-one-more types e = ap (λ (these : Types). is_one_more these name_word) e

  specifier-read : (names : List Declared) (at : ℕ) (types : Types) (it : Specifier) → IsSpecifier source names at types it
      → specifier_height it ≤ depth + 1 → specifier_height it ≤ greatest_height
      → is (symbol_in source (specifier_declares source it ++ names) (specifier_after at it)) symbol.LeftBrace ≡ false → SpecifierRead names at types it
  unfolding IsSpecifier specifier_height members_height enumerators_height specifier_declares enumerators_declares specifier_of struct_of enum_of SpecifierRead EndsEnum
  specifier-read names at types (tree.keyword word) h d l b = keyword-read names at types word h.0 h.1 (word-is (symbol_at source at) types h.1 h.2)
  specifier-read names at types (tree.typedef_name name) h d l b =
      (name_word, ap word_kind h.1, name-one-more types h.2, ap (λ (here : ℕ). Some (tree.typedef_name here)) (sym h.0))
  specifier-read names at types (tree.struct_only span None) h d l b = let none : IsSome {T = ℕ} None = h.3 in absurd (cc)
  specifier-read names at types (tree.struct_only span (Some tag)) h d l b = (
    struct_word,
    ap word_kind h.2,
    takes-struct types h.0,
    ap (struct_behind source parts names at) (if-true _ _ _ h.4.1)
        ∙ if-false _ _ _ (ap (λ (place : ℕ). is (symbol_in source names place) symbol.LeftBrace) (let p : at + 1 + 1 ≡ span.after = omega (arith, h.5) in p) ∙ b)
        ∙ (λ i. Some (tree.struct_only (span_of (sym h.1 i) (sym h.5 i)) (Some (sym h.4.0 i)))),
  )
  specifier-read names at types (tree.struct_with span tag tree.no_members) h d l b = absurd h
  specifier-read names at types (tree.struct_with span tag (tree.more_members first others)) h d l b =
      let high : 1 ≤ member_height first = member-high first in (
        struct_word,
        ap word_kind h.2,
        takes-struct types h.0,
        ap (struct_behind source parts names at) (tag-seen source names (at + 1) tag h.3 h.4)
            ∙ if-true _ _ _ (it-is _ symbol.LeftBrace h.4)
            ∙ ap (struct_from at tag (tag_after (at + 1) tag + 1))
            (members-read (tree.more_members first others) (all_turns source) names (tag_after (at + 1) tag + 1) h.5 (omega (arith, d, high)) (omega (arith, d)) (omega (arith, l)) (omega arith) h.6)
            ∙ (λ i. checked_specifier (tree.struct_with (span_of (sym h.1 i) (sym h.7 i)) tag (tree.more_members first others)))
            ∙ fits _ _ l,
      )
  specifier-read names at types (tree.enum_only span None trailing) h d l b = let none : IsSome {T = ℕ} None = h.3 in absurd (cc)
  specifier-read names at types (tree.enum_only span (Some tag) trailing) h d l b = (
    enum_word,
    ap word_kind h.2,
    takes-enum types h.0,
    ap (enum_behind source parts names at) (if-true _ _ _ h.4.1)
        ∙ if-false _ _ _ (ap (λ (place : ℕ). is (symbol_in source names place) symbol.LeftBrace) (let p : at + 1 + 1 ≡ span.after = omega (arith, h.6) in p) ∙ b)
        ∙ (λ i. Some (tree.enum_only (span_of (sym h.1 i) (sym h.6 i)) (Some (sym h.4.0 i)) (sym h.5 i))),
  )
  specifier-read names at types (tree.enum_with span tag tree.no_enumerators trailing) h d l b = absurd h
  specifier-read names at types (tree.enum_with span tag (tree.more_enumerators first others) trailing) h d l b =
      let inside : List Declared = enumerator_declares source first ++ names in
      let ends : EndsEnum (enumerators_declares source others ++ (enumerator_declares source first ++ names)) (enumerators_after (enumerator_span first).after others) trailing = (h.8, h.9) in (
        enum_word,
        ap word_kind h.2,
        takes-enum types h.0,
        ap (enum_behind source parts names at) (tag-seen source names (at + 1) tag h.3 h.4)
            ∙ if-true _ _ _ (it-is _ symbol.LeftBrace h.4)
            ∙ ap (enum_from source parts names at tag) (ap (enumerator_of source parts names) (sym h.5)
            ∙ enumerator-read names first h.6 (omega (arith, d)) (omega (arith, l)) (enumerators-follow others (enumerator_declares source first ++ names) (enumerator_span first).after trailing h.7 ends))
            ∙ ap (enum_with source (enumerator_declares source first ++ names) at tag first)
            (more-enumerators-read others (all_turns source) (enumerator_declares source first ++ names) (enumerator_span first).after trailing h.7 (omega (arith, d)) (omega (arith, l)) (omega arith) ends)
            ∙ ap (enum_closed source (enumerators_declares source others ++ (enumerator_declares source first ++ names)) at tag (tree.more_enumerators first others) (enumerators_after (enumerator_span first).after others))
            (trailing-seen _ _ trailing ends)
            ∙ holds _ _ (it-is _ symbol.RightBrace h.9)
            ∙ (λ i. checked_specifier (tree.enum_with (span_of (sym h.1 i) (sym h.10 i)) tag (tree.more_enumerators first others) trailing))
            ∙ fits _ _ l,
      )

  words-read : (it : Words) (turns : ℕ) (names : List Declared) (at : ℕ) (types : Types) → AreWords source names at types it
      → highest_word it ≤ depth + 1 → highest_word it ≤ greatest_height → length source.tokens < at + turns
      → follows_specifiers (symbol_in source (words_declares source it ++ names) (words_after at it)) ≡ true → words_of source parts turns names at types ≡ Some it
  unfolding AreWords words_declares highest_word words_of SpecifierRead
  words-read tree.no_words zero names at types h d l t f = if-false _ _ _ (words-end types _ h f)
  words-read tree.no_words (suc turns) names at types h d l t f = if-false _ _ _ (words-end types _ h f)
  words-read (tree.more_words first others) zero names at types h d l t f = absurd (omega (arith, t, specifier-present source names at types first h.0))
  words-read (tree.more_words first others) (suc turns) names at types h d l t f =
      let follow : follows_specifiers (symbol_in source (words_declares source others ++ (specifier_declares source first ++ names)) (words_after (specifier_after at first) others)) ≡ true =
      subst (λ (all : List Declared). follows_specifiers (symbol_in source all (words_after (specifier_after at first) others)) ≡ true)
      (append_assoc (words_declares source others) (specifier_declares source first) names) f in
      let one : SpecifierRead names at types first = specifier-read names at types first h.0 (omega (arith, d)) (omega (arith, l))
      (next-no-brace source others (specifier_declares source first ++ names) (specifier_after at first) (types_behind source at first types) h.1 follow) in
      if-true _ _ _ (ap (is_one_more types) one.1 ∙ one.2)
      ∙ ap (words_from (λ it. words_of source parts turns (specifier_declares source it ++ names) (specifier_after at it) (types_behind source at it types)))
      (ap (specifier_of source parts names at) one.1 ∙ one.3)
      ∙ ap (prepend_word first) (words-read others turns (specifier_declares source first ++ names) (specifier_after at first) (types_behind source at first types) h.1 (omega (arith, d)) (omega (arith, l))
      (omega (arith, t, specifier-on source names at types first h.0)) follow)

  highest-low : (it : Words) (most : ℕ) → words_node it (highest_word it) ≤ most → highest_word it ≤ most
  unfolding highest_word
  highest-low tree.no_words most h = omega arith
  highest-low (tree.more_words first tree.no_words) most h = h
  highest-low (tree.more_words first (tree.more_words second others)) most h = omega (arith, h)

  -- Well-formed specifiers are those that are read.
  pub specifiers-read : (names : List Declared) (it : Specifiers) → IsSpecifiers source names it → specifiers_height it ≤ depth + 1 → specifiers_height it ≤ greatest_height
      → follows_specifiers (symbol_in source (specifiers_declares source it ++ names) (specifiers_span it).after) ≡ true
      → specifiers_of source parts names (specifiers_span it).first ≡ Some it
  unfolding IsSpecifiers specifiers_height specifiers_declares specifiers_of
  specifiers-read names (tree.listed span tree.no_words) h d l f = absurd h
  specifiers-read names (tree.listed span (tree.more_words first others)) h d l f =
      ap (specifiers_from span.first) (words-read (tree.more_words first others) (all_turns source) names span.first no_type h.0
      (highest-low (tree.more_words first others) (depth + 1) d) (highest-low (tree.more_words first others) greatest_height l) (omega arith)
      (subst (λ (at : ℕ). follows_specifiers (symbol_in source (words_declares source (tree.more_words first others) ++ names) at) ≡ true) h.1 f))
      ∙ ap (λ (after : ℕ). checked (specifiers_height (tree.listed (span_of span.first after) (tree.more_words first others))) (tree.listed (span_of span.first after) (tree.more_words first others))) (sym h.1)
      ∙ fits _ _ l
