-- Specifiers that are read are well formed, where what reads their parts gives well-formed parts.
use Rattle.std.proofs.Common.{◌≡◌, ℕ, zero, suc, ◌+◌, Bool, true, false, not, ◌&&◌, ⊎_elim, List, ◌++◌, Option, Some, None, IsSome, refl, sym, ap, ◌∙◌, subst, append_assoc, if◌then◌else◌}
use Rattle.dm_syn.specs.declared.declared.Declared.{Declared}
use Rattle.dm_syn.specs.declared.symbol.Symbol.{Symbol}
use Rattle.dm_syn.specs.declared.symbol.Symbol.TheVariants as symbol
use Rattle.dm_syn.specs.Symbols.{is, is_identifier}
use Rattle.dm_syn.specs.Sources.{Source, symbol_at, symbol_in}
use Rattle.dm_syn.specs.Trees.{Expr, Specifiers, Words, Specifier, Members, Member, Declarators, Enumerators, Enumerator, Declarator, Direct, Parameters, Parameter}
use Rattle.dm_syn.specs.Trees as tree
use Rattle.dm_syn.specs.Spans.{specifiers_span, specifier_after, member_span, members_after, declarator_span, declarators_after, enumerator_span, enumerators_after}
use Rattle.dm_syn.specs.Scopes.{declarator_name, specifiers_declares, specifier_declares, member_declares, members_declares, declarator_declares, enumerator_declares, enumerators_declares}
use Rattle.dm_syn.specs.Grammar.{is_specifier_word, Types, no_type, types_behind, TakesWord, TakesType, IsTag, tag_after, IsTrailing, trailing_after, IsSpecifiers, AreWords, IsSpecifier, AreMembers, IsMember, AreMoreDeclarators, AreMoreEnumerators, IsEnumerator, IsDeclarator}
use Rattle.dm_pexpr.specs.Parsing.{Parts, named, span_of, all_turns, Word, plain_word, type_word, name_word, struct_word, enum_word, no_word, word_kind, is_one_more, specifier_of, words_of, words_from, prepend_word, specifiers_from, specifiers_of, struct_of, struct_from, struct_tagged, tag_at, members_of, members_from, prepend_member, member_of, member_from, member_behind, member_with, more_declarators, more_declarators_from, prepend_declarator, enum_of, enum_from, enum_with, enum_tagged, enumerator_of, valued_from, more_enumerators, more_enumerators_from, prepend_enumerator}
use Rattle.dm_pexpr.proofs.SymbolTests.{is-it, WordIs, word-kind-is, word-at, no-more-words, takes-more-type, takes-more-struct, takes-more-enum, takes-more-name}
use Rattle.dm_pexpr.proofs.Soundness.{GivesFormed, inside, where-some, checked-some, branch, both-hold}

-- a tag that is seen

tag-is-if : (source : Source) (names : List Declared) (at : ℕ) (test : Bool) → is_identifier (symbol_in source names at) ≡ test → IsTag source names at (if test then Some at else None)
tag-is-if source names at true t = (refl, t)
tag-is-if source names at false t = tt

tag-is : (source : Source) (names : List Declared) (at : ℕ) → IsTag source names at (tag_at source names at)
tag-is source names at = tag-is-if source names at (is_identifier (symbol_in source names at)) refl

-- the comma before a closing brace
pub trailing-is : (source : Source) (names : List Declared) (at : ℕ) (test : Bool) → is (symbol_in source names at) symbol.Comma ≡ test → IsTrailing source names at test
trailing-is source names at true t = is-it _ symbol.Comma t
trailing-is source names at false t = tt

word-takes : (one other : Symbol) (types : Types) → other ≡ one → one ≡ symbol.TypeWord → TakesType types → TakesWord other types
word-takes one other types same is t = subst (λ (it : Symbol). TakesWord it types) (sym (same ∙ is)) t

module _ (source : Source) (parts : Parts) (formed : GivesFormed source parts) where
  -- declarators of members
  declarator-before : (first : Declarator) (rest : Option Declarators) (it : Declarators) → prepend_declarator first rest ≡ Some it → (others : Declarators) × (rest ≡ Some others) × (tree.more_declarators first others ≡ it)
  declarator-before first None it h = absurd (cc)
  declarator-before first (Some others) it h = (others, refl, inside _ _ h)

  declarators-taken : (others : Declarator → Option Declarators) (found : Option Declarator) (it : Declarators) → more_declarators_from others found ≡ Some it
      → (first : Declarator) × (found ≡ Some first) × (rest : Declarators) × (others first ≡ Some rest) × (tree.more_declarators first rest ≡ it)
  declarators-taken others None it h = absurd (cc)
  declarators-taken others (Some first) it h = let rest = declarator-before first (others first) it h in (first, refl, rest.0, rest.1, rest.2)

  more-declarators-formed : (turns : ℕ) (names : List Declared) (at : ℕ) (it : Declarators) → more_declarators source parts turns names at ≡ Some it → AreMoreDeclarators source names at it
  unfolding more_declarators AreMoreDeclarators
  more-declarators-formed zero names at it h = subst (AreMoreDeclarators source names at) (inside _ _ h) tt
  more-declarators-formed (suc turns) names at it h =
      ⊎_elim
      (λ goes.
      let all = declarators-taken (λ first. more_declarators source parts turns (declarator_declares source first ++ names) (declarator_span first).after) (parts.declarator named names (at + 1)) it goes.1 in
      let one = formed.declarator named names (at + 1) all.0 all.1 in
      subst (AreMoreDeclarators source names at) all.4
      (is-it _ symbol.Comma goes.0, one.1, one.0, one.2, more-declarators-formed turns (declarator_declares source all.0 ++ names) (declarator_span all.0).after all.2 all.3))
      (λ ends. subst (AreMoreDeclarators source names at) (inside _ _ ends.1) tt)
      (branch (is (symbol_in source names at) symbol.Comma) _ _ it h)

  -- members
  StandsMember : List Declared → ℕ → Member → Type 0
  StandsMember names at it = IsMember source names it × ((member_span it).first ≡ at)

  member-with-formed : (names : List Declared) (at : ℕ) (specifiers : Specifiers) (first : Declarator) (found : Option Declarators) (it : Member)
      → IsSpecifiers source names specifiers → (specifiers_span specifiers).first ≡ at
      → IsDeclarator source (specifiers_declares source specifiers ++ names) false first → (declarator_span first).first ≡ (specifiers_span specifiers).after → IsSome (declarator_name first)
      → more_declarators source parts (all_turns source) (declarator_declares source first ++ (specifiers_declares source specifiers ++ names)) (declarator_span first).after ≡ found
      → member_with source (declarator_declares source first ++ (specifiers_declares source specifiers ++ names)) at specifiers first found ≡ Some it → StandsMember names at it
  unfolding IsMember StandsMember
  member-with-formed names at specifiers first None it s p d q n e h = absurd (cc)
  member-with-formed names at specifiers first (Some others) it s p d q n e h =
      let those = more-declarators-formed (all_turns source) (declarator_declares source first ++ (specifiers_declares source specifiers ++ names)) (declarator_span first).after others e in
      let ends = where-some _ _ it h in
      subst (StandsMember names at) (inside (tree.members (span_of at (declarators_after (declarator_span first).after others + 1)) specifiers (tree.more_declarators first others)) it ends.1) ((p, s, q, d, n, those, is-it _ symbol.Semicolon ends.0, refl), refl)

  member-behind-formed : (names : List Declared) (at : ℕ) (specifiers : Specifiers) (found : Option Declarator) (it : Member)
      → IsSpecifiers source names specifiers → (specifiers_span specifiers).first ≡ at
      → parts.declarator named (specifiers_declares source specifiers ++ names) (specifiers_span specifiers).after ≡ found
      → member_behind source parts (specifiers_declares source specifiers ++ names) at specifiers found ≡ Some it → StandsMember names at it
  member-behind-formed names at specifiers None it s p e h = absurd (cc)
  member-behind-formed names at specifiers (Some first) it s p e h =
      let one = formed.declarator named (specifiers_declares source specifiers ++ names) (specifiers_span specifiers).after first e in
      member-with-formed names at specifiers first _ it s p one.0 one.1 one.2 refl h

  member-from-formed : (names : List Declared) (at : ℕ) (found : Option Specifiers) (it : Member) → parts.specifiers names at ≡ found
      → member_from source parts names at found ≡ Some it → StandsMember names at it
  member-from-formed names at None it e h = absurd (cc)
  member-from-formed names at (Some specifiers) it e h =
      let one = formed.specifiers names at specifiers e in
      member-behind-formed names at specifiers _ it one.0 one.1 refl h

  member-formed : (names : List Declared) (at : ℕ) (it : Member) → member_of source parts names at ≡ Some it → StandsMember names at it
  unfolding member_of
  member-formed names at it h = member-from-formed names at _ it refl h

  member-before : (first : Member) (rest : Option Members) (it : Members) → prepend_member first rest ≡ Some it → (others : Members) × (rest ≡ Some others) × (tree.more_members first others ≡ it)
  member-before first None it h = absurd (cc)
  member-before first (Some others) it h = (others, refl, inside _ _ h)

  members-taken : (others : Member → Option Members) (found : Option Member) (it : Members) → members_from others found ≡ Some it
      → (first : Member) × (found ≡ Some first) × (rest : Members) × (others first ≡ Some rest) × (tree.more_members first rest ≡ it)
  members-taken others None it h = absurd (cc)
  members-taken others (Some first) it h = let rest = member-before first (others first) it h in (first, refl, rest.0, rest.1, rest.2)

  -- members with the brace that closes them
  Closed : List Declared → ℕ → Members → Type 0
  Closed names at it = AreMembers source names at it × (symbol_in source (members_declares source it ++ names) (members_after at it) ≡ symbol.RightBrace)

  closed-more : (names : List Declared) (at : ℕ) (first : Member) (others : Members) → IsMember source names first → (member_span first).first ≡ at
      → Closed (member_declares source first ++ names) (member_span first).after others → Closed names at (tree.more_members first others)
  unfolding AreMembers Closed members_declares
  closed-more names at first others f p o =
      ((p, f, o.0), ap (λ (all : List Declared). symbol_in source all (members_after (member_span first).after others)) (append_assoc (members_declares source others) (member_declares source first) names) ∙ o.1)

  closed-none : (names : List Declared) (at : ℕ) → symbol_in source names at ≡ symbol.RightBrace → Closed names at tree.no_members
  unfolding AreMembers Closed members_declares
  closed-none names at b = (tt, b)

  members-formed : (turns : ℕ) (names : List Declared) (at : ℕ) (it : Members) → members_of source parts turns names at ≡ Some it → Closed names at it
  unfolding members_of StandsMember
  members-formed zero names at it h = absurd (cc)
  members-formed (suc turns) names at it h =
      ⊎_elim
      (λ ends. subst (Closed names at) (inside _ _ ends.1) (closed-none names at (is-it _ symbol.RightBrace ends.0)))
      (λ goes.
      let all = members-taken (λ first. members_of source parts turns (member_declares source first ++ names) (member_span first).after) (member_of source parts names at) it goes.1 in
      let one = member-formed names at all.0 all.1 in
      subst (Closed names at) all.4 (closed-more names at all.0 all.2 one.0 one.1 (members-formed turns (member_declares source all.0 ++ names) (member_span all.0).after all.2 all.3)))
      (branch (is (symbol_in source names at) symbol.RightBrace) _ _ it h)

  -- one specifier at a place
  Specified : List Declared → ℕ → Types → Specifier → Type 0
  Specified names at types it = IsSpecifier source names at types it

  struct-from-formed : (names : List Declared) (at : ℕ) (types : Types) (tag : Option ℕ) (found : Option Members) (it : Specifier) → TakesType types → symbol_in source names at ≡ symbol.Struct
      → IsTag source names (at + 1) tag → symbol_in source names (tag_after (at + 1) tag) ≡ symbol.LeftBrace
      → members_of source parts (all_turns source) names (tag_after (at + 1) tag + 1) ≡ found
      → struct_from at tag (tag_after (at + 1) tag + 1) found ≡ Some it → Specified names at types it
  unfolding Specified IsSpecifier Closed
  struct-from-formed names at types tag None it t s g b e h = absurd (cc)
  struct-from-formed names at types tag (Some tree.no_members) it t s g b e h = absurd (cc)
  struct-from-formed names at types tag (Some (tree.more_members first others)) it t s g b e h =
      let those = members-formed (all_turns source) names (tag_after (at + 1) tag + 1) (tree.more_members first others) e in
      subst (Specified names at types) (checked-some _ _ it h) (t, refl, s, g, b, those.0, those.1, refl)

  struct-tagged-formed : (names : List Declared) (at : ℕ) (types : Types) (tag : Option ℕ) (it : Specifier) → TakesType types → symbol_in source names at ≡ symbol.Struct
      → IsTag source names (at + 1) tag → struct_tagged at tag ≡ Some it → Specified names at types it
  unfolding Specified IsSpecifier
  struct-tagged-formed names at types None it t s g h = absurd (cc)
  struct-tagged-formed names at types (Some tag) it t s g h = subst (Specified names at types) (inside _ _ h) (t, refl, s, refl, g, refl)

  struct-formed : (names : List Declared) (at : ℕ) (types : Types) (it : Specifier) → TakesType types → symbol_in source names at ≡ symbol.Struct
      → struct_of source parts names at ≡ Some it → Specified names at types it
  unfolding struct_of
  struct-formed names at types it t s h =
      ⊎_elim
      (λ braces. struct-from-formed names at types (tag_at source names (at + 1)) _ it t s (tag-is source names (at + 1)) (is-it _ symbol.LeftBrace braces.0) refl braces.1)
      (λ none. struct-tagged-formed names at types (tag_at source names (at + 1)) it t s (tag-is source names (at + 1)) none.1)
      (branch (is (symbol_in source names (tag_after (at + 1) (tag_at source names (at + 1)))) symbol.LeftBrace) _ _ it h)

  -- enumerators
  StandsEnumerator : List Declared → ℕ → Enumerator → Type 0
  StandsEnumerator names at it = IsEnumerator source names it × ((enumerator_span it).first ≡ at)

  valued-formed : (names : List Declared) (at : ℕ) (found : Option Expr) (it : Enumerator) → is_identifier (symbol_in source names at) ≡ true → symbol_in source names (at + 1) ≡ symbol.Equals
      → parts.expr 2 names (at + 2) ≡ found → valued_from at found ≡ Some it → StandsEnumerator names at it
  unfolding IsEnumerator StandsEnumerator
  valued-formed names at None it i q e h = absurd (cc)
  valued-formed names at (Some value) it i q e h =
      let one = formed.expr 2 names (at + 2) value e in
      subst (StandsEnumerator names at) (inside _ _ h) ((refl, i, q, one.1, one.0, one.2, refl), refl)

  enumerator-formed : (names : List Declared) (at : ℕ) (it : Enumerator) → enumerator_of source parts names at ≡ Some it → StandsEnumerator names at it
  unfolding IsEnumerator StandsEnumerator enumerator_of
  enumerator-formed names at it h =
      ⊎_elim
      (λ name.
      ⊎_elim (λ with_value. valued-formed names at _ it name.0 (is-it _ symbol.Equals with_value.0) refl with_value.1)
      (λ without. subst (StandsEnumerator names at) (inside _ _ without.1) ((refl, name.0, refl), refl))
      (branch (is (symbol_in source names (at + 1)) symbol.Equals) _ _ it name.1))
      (λ no. absurd (cc no.1))
      (branch (is_identifier (symbol_in source names at)) _ _ it h)

  enumerator-before : (first : Enumerator) (rest : Option Enumerators) (it : Enumerators) → prepend_enumerator first rest ≡ Some it → (others : Enumerators) × (rest ≡ Some others) × (tree.more_enumerators first others ≡ it)
  enumerator-before first None it h = absurd (cc)
  enumerator-before first (Some others) it h = (others, refl, inside _ _ h)

  enumerators-taken : (others : Enumerator → Option Enumerators) (found : Option Enumerator) (it : Enumerators) → more_enumerators_from others found ≡ Some it
      → (first : Enumerator) × (found ≡ Some first) × (rest : Enumerators) × (others first ≡ Some rest) × (tree.more_enumerators first rest ≡ it)
  enumerators-taken others None it h = absurd (cc)
  enumerators-taken others (Some first) it h = let rest = enumerator-before first (others first) it h in (first, refl, rest.0, rest.1, rest.2)

  more-enumerators-formed : (turns : ℕ) (names : List Declared) (at : ℕ) (it : Enumerators) → more_enumerators source parts turns names at ≡ Some it → AreMoreEnumerators source names at it
  unfolding more_enumerators AreMoreEnumerators StandsEnumerator
  more-enumerators-formed zero names at it h = subst (AreMoreEnumerators source names at) (inside _ _ h) tt
  more-enumerators-formed (suc turns) names at it h =
      ⊎_elim
      (λ goes.
      let all = enumerators-taken (λ first. more_enumerators source parts turns (enumerator_declares source first ++ names) (enumerator_span first).after) (enumerator_of source parts names (at + 1)) it goes.1 in
      let one = enumerator-formed names (at + 1) all.0 all.1 in
      subst (AreMoreEnumerators source names at) all.4
      (is-it _ symbol.Comma (both-hold _ _ goes.0).0, one.1, one.0, more-enumerators-formed turns (enumerator_declares source all.0 ++ names) (enumerator_span all.0).after all.2 all.3))
      (λ ends. subst (AreMoreEnumerators source names at) (inside _ _ ends.1) tt)
      (branch (is (symbol_in source names at) symbol.Comma && not (is (symbol_in source names (at + 1)) symbol.RightBrace)) _ _ it h)

  enum-with-formed : (names : List Declared) (at : ℕ) (types : Types) (tag : Option ℕ) (first : Enumerator) (found : Option Enumerators) (it : Specifier) → TakesType types → symbol_in source names at ≡ symbol.Enum
      → IsTag source names (at + 1) tag → symbol_in source names (tag_after (at + 1) tag) ≡ symbol.LeftBrace
      → IsEnumerator source names first → (enumerator_span first).first ≡ tag_after (at + 1) tag + 1
      → more_enumerators source parts (all_turns source) (enumerator_declares source first ++ names) (enumerator_span first).after ≡ found
      → enum_with source (enumerator_declares source first ++ names) at tag first found ≡ Some it → Specified names at types it
  unfolding Specified IsSpecifier
  enum-with-formed names at types tag first None it t s g b f p e h = absurd (cc)
  enum-with-formed names at types tag first (Some others) it t s g b f p e h =
      let those = more-enumerators-formed (all_turns source) (enumerator_declares source first ++ names) (enumerator_span first).after others e in
      let ends = where-some _ _ it h in
      subst (Specified names at types) (checked-some _ (tree.enum_with (span_of at (trailing_after (enumerators_after (enumerator_span first).after others) (is (symbol_in source (enumerators_declares source others ++ (enumerator_declares source first ++ names)) (enumerators_after (enumerator_span first).after others)) symbol.Comma) + 1)) tag (tree.more_enumerators first others) (is (symbol_in source (enumerators_declares source others ++ (enumerator_declares source first ++ names)) (enumerators_after (enumerator_span first).after others)) symbol.Comma)) it ends.1)
      (t, refl, s, g, b, p, f, those, trailing-is source _ _ _ refl, is-it _ symbol.RightBrace ends.0, refl)

  enum-from-formed : (names : List Declared) (at : ℕ) (types : Types) (tag : Option ℕ) (found : Option Enumerator) (it : Specifier) → TakesType types → symbol_in source names at ≡ symbol.Enum
      → IsTag source names (at + 1) tag → symbol_in source names (tag_after (at + 1) tag) ≡ symbol.LeftBrace
      → enumerator_of source parts names (tag_after (at + 1) tag + 1) ≡ found
      → enum_from source parts names at tag found ≡ Some it → Specified names at types it
  unfolding StandsEnumerator
  enum-from-formed names at types tag None it t s g b e h = absurd (cc)
  enum-from-formed names at types tag (Some first) it t s g b e h =
      let one = enumerator-formed names (tag_after (at + 1) tag + 1) first e in
      enum-with-formed names at types tag first _ it t s g b one.0 one.1 refl h

  enum-tagged-formed : (names : List Declared) (at : ℕ) (types : Types) (tag : Option ℕ) (it : Specifier) → TakesType types → symbol_in source names at ≡ symbol.Enum
      → IsTag source names (at + 1) tag → enum_tagged at tag ≡ Some it → Specified names at types it
  unfolding Specified IsSpecifier
  enum-tagged-formed names at types None it t s g h = absurd (cc)
  enum-tagged-formed names at types (Some tag) it t s g h = subst (Specified names at types) (inside _ _ h) (t, refl, s, refl, g, refl, refl)

  enum-formed : (names : List Declared) (at : ℕ) (types : Types) (it : Specifier) → TakesType types → symbol_in source names at ≡ symbol.Enum
      → enum_of source parts names at ≡ Some it → Specified names at types it
  unfolding enum_of
  enum-formed names at types it t s h =
      ⊎_elim
      (λ braces. enum-from-formed names at types (tag_at source names (at + 1)) _ it t s (tag-is source names (at + 1)) (is-it _ symbol.LeftBrace braces.0) refl braces.1)
      (λ none. enum-tagged-formed names at types (tag_at source names (at + 1)) it t s (tag-is source names (at + 1)) none.1)
      (branch (is (symbol_in source names (tag_after (at + 1) (tag_at source names (at + 1)))) symbol.LeftBrace) _ _ it h)

  specifier-formed : (names : List Declared) (at : ℕ) (types : Types) (word : Word) (it : Specifier) → WordIs (symbol_in source names at) word → is_one_more types word ≡ true
      → specifier_of source parts names at word ≡ Some it → Specified names at types it
  unfolding Specified IsSpecifier specifier_of
  specifier-formed names at types plain_word it w m h =
      let same = word-at source names at w.0 in
      subst (IsSpecifier source names at types) (inside _ _ h)
      (refl, sym (ap is_specifier_word same) ∙ w.0, subst (λ (it : Symbol). TakesWord it types) same (w.1 types))
  specifier-formed names at types type_word it w m h =
      let same = word-at source names at w.0 in
      subst (IsSpecifier source names at types) (inside _ _ h)
      (refl, sym (ap is_specifier_word same) ∙ w.0, word-takes (symbol_in source names at) (symbol_at source at) types (sym same) w.1 (takes-more-type types m))
  specifier-formed names at types name_word it w m h = subst (IsSpecifier source names at types) (inside _ _ h) (refl, w, takes-more-name types m)
  specifier-formed names at types struct_word it w m h = struct-formed names at types it (takes-more-struct types m) w h
  specifier-formed names at types enum_word it w m h = enum-formed names at types it (takes-more-enum types m) w h
  specifier-formed names at types no_word it w m h = absurd (cc)

  word-before : (first : Specifier) (rest : Option Words) (it : Words) → prepend_word first rest ≡ Some it → (others : Words) × (rest ≡ Some others) × (tree.more_words first others ≡ it)
  word-before first None it h = absurd (cc)
  word-before first (Some others) it h = (others, refl, inside _ _ h)

  words-taken : (others : Specifier → Option Words) (found : Option Specifier) (it : Words) → words_from others found ≡ Some it
      → (first : Specifier) × (found ≡ Some first) × (rest : Words) × (others first ≡ Some rest) × (tree.more_words first rest ≡ it)
  words-taken others None it h = absurd (cc)
  words-taken others (Some first) it h = let rest = word-before first (others first) it h in (first, refl, rest.0, rest.1, rest.2)

  words-formed : (turns : ℕ) (names : List Declared) (at : ℕ) (types : Types) (it : Words) → words_of source parts turns names at types ≡ Some it → AreWords source names at types it
  unfolding words_of AreWords Specified
  words-formed zero names at types it h =
      ⊎_elim (λ more. absurd (cc more.1)) (λ ends. subst (AreWords source names at types) (inside _ _ ends.1) (no-more-words types _ ends.0))
      (branch (is_one_more types (word_kind (symbol_in source names at))) _ _ it h)
  words-formed (suc turns) names at types it h =
      ⊎_elim
      (λ goes.
      let all = words-taken (λ first. words_of source parts turns (specifier_declares source first ++ names) (specifier_after at first) (types_behind source at first types))
      (specifier_of source parts names at (word_kind (symbol_in source names at))) it goes.1 in
      subst (AreWords source names at types) all.4 (
        specifier-formed names at types (word_kind (symbol_in source names at)) all.0 (word-kind-is _) goes.0 all.1,
        words-formed turns (specifier_declares source all.0 ++ names) (specifier_after at all.0) (types_behind source at all.0 types) all.2 all.3,
      ))
      (λ ends. subst (AreWords source names at types) (inside _ _ ends.1) (no-more-words types _ ends.0))
      (branch (is_one_more types (word_kind (symbol_in source names at))) _ _ it h)

  specifiers-from-formed : (names : List Declared) (at : ℕ) (found : Option Words) (it : Specifiers) → ((words : Words) → found ≡ Some words → AreWords source names at no_type words)
      → specifiers_from at found ≡ Some it → IsSpecifiers source names it × ((specifiers_span it).first ≡ at)
  unfolding IsSpecifiers
  specifiers-from-formed names at None it w h = absurd (cc)
  specifiers-from-formed names at (Some tree.no_words) it w h = absurd (cc)
  specifiers-from-formed names at (Some (tree.more_words first others)) it w h =
      subst (λ (this : Specifiers). IsSpecifiers source names this × ((specifiers_span this).first ≡ at)) (checked-some _ _ it h) ((w (tree.more_words first others) refl, refl), refl)

  -- Specifiers that are read are well formed.
  pub specifiers-formed : (names : List Declared) (at : ℕ) (it : Specifiers) → specifiers_of source parts names at ≡ Some it → IsSpecifiers source names it × ((specifiers_span it).first ≡ at)
  unfolding specifiers_of
  specifiers-formed names at it h = specifiers-from-formed names at _ it (λ words e. words-formed (all_turns source) names at no_type words e) h
