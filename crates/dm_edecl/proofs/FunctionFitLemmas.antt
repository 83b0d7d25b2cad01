-- Function definitions fit.
use Rattle.std.specs.Prelude.{◌≡◌, ◌==◌, ℕ, ◌<◌, ◌≤◌, Bool, true, false, ◌||◌, not, if◌then◌else◌, IsTrue, ◌⊎◌, List, [], ◌∷◌, ◌++◌, length, Option, Some, None, IsSome, slice_get, bytes_eq, codes, refl}
use Rattle.std.proofs.Common.{sym, ap, ◌∙◌, subst, arith, inl, inr, ⊎_elim}
use Rattle.std.proofs.lemmas.List.Elements.{All-append}
use Rattle.std.proofs.lemmas.Slice.Eq.{bytes_eq-Decides}
use Rattle.dm_spell.specs.Keywords.{extern_word, typedef_word}
use Rattle.dm_token.specs.declared.place.Span.{Span}
use Rattle.dm_type.specs.Alike.{are_compatible}
use Rattle.dm_type.specs.CTypes.{CType, CTypes, void, integer, pointer, array, struct, function as function_type, const, no_types, more_types, all_of, bare}
use Rattle.dm_type.specs.TableLaws.{injected}
use Rattle.dm_type.specs.Tables.{type_of, content_of}
use Rattle.dm_name_map.specs.Numbers.{Numbers}
use Rattle.dm_syn.specs.declared.declared.Declared.{Declared as Seen}
use Rattle.dm_syn.specs.Spans.{declarator_span}
use Rattle.dm_syn.specs.Grammar.{IsSpecifiers, IsDeclarator, IsDirect, AreParameters}
use Rattle.dm_syn.specs.Statements.{own_in_pointers, own_parameters, own_in_direct, IsBlock, IsStmt, IsExternal}
use Rattle.dm_syn.specs.Trees.{Specifiers, Declarator, Direct, Parameters, Stmt, External}
use Rattle.dm_syn.specs.Trees as tree
use Rattle.dm_tree.specs.declared.unit.Sort.TheVariants.{Function}
use Rattle.dm_tree.specs.declared.unit.Linkage.{Linkage}
use Rattle.dm_tree.specs.declared.unit.Linkage.TheVariants.{External as Outer}
use Rattle.dm_tree.specs.Composites.{covers, cover_parameters}
use Rattle.dm_tree.specs.Initialisers.{is_function_sort}
use Rattle.dm_tree.specs.Scenes.{Scene, Names, IsConstant, IsComplete, is_void, is_array, is_function}
use Rattle.dm_tree.specs.Trees.{Tree, node, trees, label_of}
use Rattle.dm_tree.specs.Trees as label
use Rattle.dm_tree.specs.Typing.{FitsSort, IsEntry, IsWellTyped, has_linkage, body_scene, ParameterFits, ParametersFit, DefinitionFits, FunctionFits, is_main_type, ExternalFits}
use Rattle.dm_tree.specs.Units.{Declaration, defines_function}
use Rattle.dm_tree.specs.Units as unit
use Rattle.dm_typing.specs.Known.{Known, Setting, Outcome, given, broken, after, with_it, obeys, if_given}
use Rattle.dm_typing.specs.Conversions.{is_complete}
use Rattle.dm_typing.specs.Specifiers.{Said, nothing_said, type_said, Where, of_definition, are_allowed, with_said_const, is_one_at_most, is_static_alone, is_typedef_alone}
use Rattle.dm_typing.specs.Sound.{IsProper, IsType, AreSoundTokens, IsSoundKnown, KnowsMore, GivesMore}
use Rattle.dm_typing.specs.Typing.{TypedParameter, Step, kinds_of, is_no_parameters, without_void, is_result, entered, words_said, typed_said, steps_of, derived, parameters_of}
use Rattle.dm_typing.proofs.ConversionLemmas.{bare-again, bare-proper}
use Rattle.dm_typing.proofs.CoverLemmas.{covers-itself, covers-compatible}
use Rattle.dm_typing.proofs.DerivedLemmas.{SaidFits, said-more, entered-sound}
use Rattle.dm_typing.proofs.KindLemmas.{numbers-same}
use Rattle.dm_typing.proofs.KnownLemmas.{after-more, with-more}
use Rattle.dm_typing.proofs.TypeLemmas.{both-hold, compatible-back}
use Rattle.dm_typing.proofs.WholeLemmas.{words-more}
use Rattle.dm_edecl.specs.Standing.{Linked, Standing, Progress, goes_on, stops, further, knowing, keeps}
use Rattle.dm_edecl.specs.Linkages.{Storage, unsaid, typedef, extern, static, storage_of, is_same_linkage, sort_of, entry_of, kind_seen, number_here, with_link_if, named_here, function_here, is_defined}
use Rattle.dm_edecl.specs.Declaring.{Specified, specified_by, specified, typed_declarator, name_at, fits_main, declarators_of, expressions_of, typed_declaration}
use Rattle.dm_edecl.specs.Statements.{Within, statement, typed_items_in}
use Rattle.dm_edecl.specs.Units.{defined_parameters, own_defined, Heading, innermost, typed_heading, put_before, numbers_of, body_within, typed_body, external_of, function_defined, typed_external}
use Rattle.dm_edecl.specs.Settled.{is_linked, IsSoundStanding, Keeps, is_open, IsFinal, Settles}
use Rattle.dm_edecl.specs.Results.{IsResult, GivesResult, DefinesResult}
use Rattle.dm_edecl.specs.Fit.{AllConstants, DeclarationFits, IsSoundWithin, StandsIn, StmtFits, StmtsFit}
use Rattle.dm_edecl.proofs.CompletionLemmas.{covers-bare, covers-main, covers-void}
use Rattle.dm_edecl.proofs.DeclarationFitLemmas.{constants-final, declarator-typed, declared-final, complete-final, declarable-settles, names-final, declaration-settles}
use Rattle.dm_edecl.proofs.EntryLemmas.{entry-fits}
use Rattle.dm_edecl.proofs.KeepsLemmas.{keeps-itself, keeps-final, knowing-keeps, settles-from, settles-further, settles-keeps, settles-collecting, settles-scope}
use Rattle.dm_edecl.proofs.LinkLemmas.{bound-last}
use Rattle.dm_edecl.proofs.NamingLemmas.{declarator-declared, three-hold, linkages-same}
use Rattle.dm_edecl.proofs.ParameterLemmas.{IsDefinedOne, AllDefined, IsOwnList, all-later, own-defined, SameAs, list-same, Found, OwnIn, own-declarator, FunctionIn, derived-call}
use Rattle.dm_edecl.proofs.RetypingLemmas.{IsDeclared}
use Rattle.dm_edecl.proofs.StatementFitLemmas.{block-settles, block-fits}
use Rattle.dm_edecl.proofs.StatementStepLemmas.{At, made-settles}

-- ---- specifiers of a definition

pub is_typedef_word : Storage → Bool
is_typedef_word typedef = true
is_typedef_word unsaid = false
is_typedef_word extern = false
is_typedef_word static = false

-- no typedef is defined (6.9.1p4)
no-typedef : (storage : List ℕ) → is_one_at_most storage ≡ true → not (is_typedef_alone storage) ≡ true → is_typedef_word (storage_of storage) ≡ false
unfolding is_typedef_word
no-typedef [] h g = refl
no-typedef (row ∷ []) h g = by-test (row == typedef_word) (row == extern_word) g
  where
    by-test : (one other : Bool) → not one ≡ true → is_typedef_word (if one then typedef else if other then extern else static) ≡ false
    by-test true other g = absurd (cc)
    by-test false true g = refl
    by-test false false g = refl
no-typedef (row ∷ other ∷ rest) h g = absurd (cc)

abbrev pub IsDefining : Known → Specified → Type 0
IsDefining known said = IsType known said.kind × (is_typedef_word said.storage ≡ false)

abbrev pub IsAllowed : Where → Said → Known → CType → Type 0
IsAllowed stands said known kind = IsType known kind × (are_allowed stands said ≡ true)

allowed-more : (known : Known) (stands : Where) (here : ℕ) (said : Said) → GivesMore known IsType (typed_said known stands here said)
    → GivesMore known (IsAllowed stands said) (typed_said known stands here said)
allowed-more known stands here said h = by-type (type_said said) (are_allowed stands said) refl h
  where
    by-type : (found : Option CType) (test : Bool) → are_allowed stands said ≡ test
        → GivesMore known IsType (if_given found 3 here (λ type. obeys test 3 here (given known (with_said_const said.const type))))
        → GivesMore known (IsAllowed stands said) (if_given found 3 here (λ type. obeys test 3 here (given known (with_said_const said.const type))))
    by-type None test e g = tt
    by-type (Some type) true e g = (g.0, g.1, g.2, (g.3, e))
    by-type (Some type) false e g = tt

module _ (setting : Setting) (tokens : AreSoundTokens setting.source.tokens) where
  defining-more : (known : Known) (names : List Seen) (specifiers : Specifiers) → IsSpecifiers setting.source names specifiers → IsSoundKnown known
      → GivesMore known IsDefining (specified setting of_definition false known specifiers)
  unfolding IsSpecifiers
  defining-more known names (tree.listed span tree.no_words) h sound = absurd h
  defining-more known names (tree.listed span (tree.more_words first others)) h sound =
      after-more known SaidFits IsDefining (words_said setting true false known nothing_said (tree.more_words first others)) _
      (words-more setting tokens true known _ _ _ false nothing_said (tree.more_words first others) h.0 sound tt)
      (λ behind said more still fits. with-more behind (IsAllowed of_definition said) IsDefining (typed_said behind of_definition span.first said) (λ last kind. specified_by said span.first kind)
      (allowed-more behind of_definition span.first said (said-more behind of_definition span.first said still fits))
      (λ last kind further fine is.
      let parts = three-hold (is_one_at_most said.storage) (not said.inline || is_static_alone said.storage) (not (is_typedef_alone said.storage)) is.1 in
      (is.0, no-typedef said.storage parts.0 parts.2)))

-- ---- the heading

-- what it says is a function with these parameters, each of which has an entry, and with a result that functions may have
abbrev pub IsHeading : ℕ → Known → Heading → Type 0
IsHeading base known heading =
    IsType known heading.kind
    × ((result : CType) × (heading.kind ≡ function_type result (all_of (kinds_of heading.parameters))) × (is_result known result ≡ true))
    × AllDefined base known heading.parameters

-- the parameters are well formed
abbrev pub IsFormed : Setting → Option Parameters → Type 0
IsFormed setting found = (these : Parameters) → found ≡ Some these → (names : List Seen) × ((at : ℕ) × AreParameters setting.source names at these)

none-formed : (setting : Setting) → IsFormed setting None
none-formed setting = λ these e. absurd (cc)

pointers-formed : (setting : Setting) (consts : List ℕ) (nearest : Option Parameters) → IsFormed setting nearest → IsFormed setting (own_in_pointers consts nearest)
pointers-formed setting [] nearest h = h
pointers-formed setting (one ∷ others) nearest h = none-formed setting

module _ (setting : Setting) where
  mutual
    unfolding IsDeclarator IsDirect

    own-formed : (names : List Seen) (of_parameter : Bool) (nearest : Option Parameters) (declarator : Declarator) → IsDeclarator setting.source names of_parameter declarator
        → IsFormed setting nearest → IsFormed setting (own_parameters nearest declarator)
    own-formed names of_parameter nearest (tree.shaped span consts direct) h near =
        direct-formed _ of_parameter _ (own_in_pointers consts nearest) direct h.1 (pointers-formed setting consts nearest near)

    direct-formed : (names : List Seen) (of_parameter : Bool) (at : ℕ) (nearest : Option Parameters) (direct : Direct) → IsDirect setting.source names of_parameter at direct
        → IsFormed setting nearest → IsFormed setting (own_in_direct nearest direct)
    direct-formed names of_parameter at nearest tree.absent h near = near
    direct-formed names of_parameter at nearest (tree.declared name) h near = near
    direct-formed names of_parameter at nearest (tree.enclosed declarator) h near = own-formed _ of_parameter nearest declarator h.3 near
    direct-formed names of_parameter at nearest (tree.array direct) h near = direct-formed _ of_parameter at None direct h.0 (none-formed setting)
    direct-formed names of_parameter at nearest (tree.sized direct length) h near = direct-formed _ of_parameter at None direct h.0 (none-formed setting)
    direct-formed names of_parameter at nearest (tree.function direct these) h near =
        direct-formed _ of_parameter at (Some these) direct h.0
        (λ own e. let same : these ≡ own = injected these own e in
        subst (λ it. (names : List Seen) × ((at : ℕ) × AreParameters setting.source names at it)) same (_, (_, h.2)))

same-given : {A : Type 0} (one other : Known) (a b : A) → given one a ≡ given other b → (one ≡ other) × (a ≡ b)
same-given one other a b e = (cc, cc)

-- of the `void` of an empty list nothing is left
without-void-defined : (base : ℕ) (known : Known) (typed : List TypedParameter) → IsOwnList base known typed → AllDefined base known (without_void typed)
unfolding AllDefined
without-void-defined base known typed own = by-test (is_no_parameters typed) refl
  where
    by-test : (test : Bool) → is_no_parameters typed ≡ test → AllDefined base known (if test then [] else typed)
    by-test true e = tt
    by-test false e = ⊎_elim (λ alone. absurd (cc)) (λ all. all) own

heading-last : (known behind inside : Known) (base : ℕ) (typed : List TypedParameter) (scope : Numbers) (outcome : Outcome CType) → GivesMore known IsType outcome
    → FunctionIn behind (without_void typed) outcome → KnowsMore inside behind → IsSoundKnown inside → AllDefined base inside (without_void typed)
    → GivesMore known (IsHeading base) (with_it outcome (λ last kind. record { kind = kind; parameters = without_void typed; scope = scope }))
unfolding FunctionIn
heading-last known behind inside base typed scope (given last kind) h f more sound all =
    (h.0, h.1, h.2, (h.3, (f.1.0, f.1.1, subst (λ it. is_result it f.1.0 ≡ true) (sym f.0) f.1.2), subst (λ it. AllDefined base it (without_void typed)) (sym f.0) (all-later base base inside behind (without_void typed) more sound (omega arith) all)))
heading-last known behind inside base typed scope (broken rule at) h f more sound all = tt

heading-then : (setting : Setting) (known inside : Known) (base : CType) (these : Parameters) (typed : List TypedParameter) (scope : Numbers) (steps : Outcome (List Step)) (many : ℕ)
    → OwnIn setting None known these steps → GivesMore known IsType (after steps (λ behind made. derived behind base made))
    → parameters_of setting true (entered known) these ≡ given inside typed → IsSoundKnown inside → AllDefined many inside (without_void typed)
    → GivesMore known (IsHeading many) (with_it (after steps (λ behind made. derived behind base made)) (λ last kind. record { kind = kind; parameters = without_void typed; scope = scope }))
unfolding OwnIn
heading-then setting known inside base these typed scope (given behind steps) many own h e sound all =
    ⊎_elim (λ here. let no = here.0 in absurd (cc)) (λ found. by-found found) own
  where
    by-found : Found setting known these behind steps
        → GivesMore known (IsHeading many) (with_it (derived behind base steps) (λ last kind. record { kind = kind; parameters = without_void typed; scope = scope }))
    by-found found =
        let same = same-given found.inner inside found.typed typed (sym found.same ∙ e) in
        let call = derived-call behind base found.front found.at (without_void found.typed) in
        let steps-call = subst (λ it. FunctionIn behind (without_void found.typed) (derived behind base it)) (sym found.steps_are) call in
        heading-last known behind inside many typed scope (derived behind base steps) h
        (subst (λ it. FunctionIn behind (without_void it) (derived behind base steps)) same.1 steps-call) (subst (λ it. KnowsMore it behind) same.0 found.more) sound all
heading-then setting known inside base these typed scope (broken rule at) many own h e sound all = tt

module _ (setting : Setting) (tokens : AreSoundTokens setting.source.tokens) where
  heading-by : (known : Known) (base : CType) (declarator : Declarator) (these : Parameters) (own : Outcome (List TypedParameter))
      → GivesMore (entered known) (IsOwnList (length known.declared)) own → SameAs own (parameters_of setting true (entered known) these)
      → OwnIn setting None known these (steps_of setting true known declarator) → GivesMore known IsType (typed_declarator setting known base declarator)
      → GivesMore known (IsHeading (length known.declared))
      (after own (λ inside typed. with_it (typed_declarator setting known base declarator)
      (λ behind kind. record { kind = kind; parameters = without_void typed; scope = innermost inside.scopes })))
  unfolding SameAs
  heading-by known base declarator these (given inside typed) h e found type =
      heading-then setting known inside base these typed (innermost inside.scopes) (steps_of setting true known declarator) (length known.declared) found type e h.1
      (without-void-defined (length known.declared) inside typed h.3)
  heading-by known base declarator these (broken rule at) h e found type = tt

  heading-more : (known : Known) (names : List Seen) (base : CType) (declarator : Declarator) → IsDeclarator setting.source names false declarator → IsSome (own_parameters None declarator)
      → IsSoundKnown known → IsType known base → GivesMore known (IsHeading (length known.declared)) (typed_heading setting known base declarator)
  heading-more known names base declarator is some sound base-is = by-own (own_parameters None declarator) refl some
    where
      by-own : (found : Option Parameters) → own_parameters None declarator ≡ found → IsSome found
          → GivesMore known (IsHeading (length known.declared))
          (after (own_defined setting known found) (λ inside typed. with_it (typed_declarator setting known base declarator)
          (λ behind kind. record { kind = kind; parameters = without_void typed; scope = innermost inside.scopes })))
      by-own (Some these) e is-some =
          let formed = own-formed setting names false None declarator is (none-formed setting) these e in
          heading-by known base declarator these (defined_parameters setting true (entered known) these)
          (own-defined setting tokens (entered known) formed.0 formed.1.0 these formed.1.1 (entered-sound known sound)) (list-same setting true (entered known) these)
          (own-declarator setting tokens known names None these false declarator is sound e) (declarator-typed setting tokens known names base declarator is sound base-is)
      by-own None e is-some = absurd (cc)

-- ---- parameters at the end

-- a parameter keeps its type, since nothing completes it
parameter-final : (t : Standing) (final : Scene) (base : ℕ) (one : TypedParameter) (number : ℕ) (type : CType) → IsSoundStanding t → IsFinal t final
    → ((n : ℕ) → base ≤ n → is_linked n t.linked ≡ false) → IsDefinedOne base t.known one → one.declared ≡ Some number → covers (bare type) (bare one.kind) ≡ true
    → Names final number (ParameterFits final type)
parameter-final t final base one number type sound last apart is e c =
    let has = is.0.1 number e in
    let end = last.declared number has.entry has.at in
    let shut : is_open has.entry.kind ≡ false = subst (λ it. is_open it ≡ false) (sym has.kind) has.shut in
    let same : end.0.kind ≡ one.kind = end.2.kept (apart number has.low) shut ∙ has.kind in
    names-final final number (ParameterFits final type) end.0 end.1 (
      end.2.same.sort ∙ has.sort,
      subst (λ it. are_compatible (bare it) (bare type) ≡ true) (sym same) (compatible-back (bare type) (bare one.kind) (covers-compatible (bare type) (bare one.kind) c)),
      complete-final t final sound last end.0.kind one.kind (subst (λ it. covers it one.kind ≡ true) (sym same) (covers-itself one.kind)) is.1,
    )

unqualified-covers : (type other : CType) (types others : CTypes) → cover_parameters (more_types type types) (more_types other others) ≡ true
    → (covers (bare type) (bare other) ≡ true) × (cover_parameters types others ≡ true)
unqualified-covers (const type) other types others h = both-hold (covers type (bare other)) (cover_parameters types others) h
unqualified-covers type other types others h = both-hold (covers (bare type) (bare other)) (cover_parameters types others) h

no-parameters : (type : CType) (types : CTypes) → cover_parameters (more_types type types) no_types ≡ true → ⊥
no-parameters (const type) types h = absurd (cc)
no-parameters type types h = absurd (cc)

pub parameters-final : (t : Standing) (final : Scene) (base : ℕ) (these : List TypedParameter) (types : CTypes) → IsSoundStanding t → IsFinal t final
    → ((n : ℕ) → base ≤ n → is_linked n t.linked ≡ false) → AllDefined base t.known these → cover_parameters types (all_of (kinds_of these)) ≡ true
    → ParametersFit final (numbers_of these) types
unfolding AllDefined
parameters-final t final base [] no_types sound last apart all c = tt
parameters-final t final base [] (more_types type types) sound last apart all c = absurd (no-parameters type types c)
parameters-final t final base (one ∷ others) no_types sound last apart all c = absurd (cc)
parameters-final t final base (one ∷ others) (more_types type types) sound last apart all c =
    let parts = unqualified-covers type one.kind types (all_of (kinds_of others)) c in
    by-declared one.declared refl (parameters-final t final base others types sound last apart all.1 parts.1) parts.0
  where
    by-declared : (found : Option ℕ) → one.declared ≡ found → ParametersFit final (numbers_of others) types → covers (bare type) (bare one.kind) ≡ true
        → ParametersFit final (put_before found (numbers_of others)) (more_types type types)
    by-declared (Some number) e rest first = (parameter-final t final base one number type sound last apart all.0 e first, rest)
    by-declared None e rest first = let named = all.0.2 in absurd (cc)

-- ---- the function at the end

covers-call : (whole result : CType) (types : CTypes) → covers whole (function_type result types) ≡ true
    → (more : CType) × ((others : CTypes) × (whole ≡ function_type more others) × (covers more result ≡ true) × (cover_parameters others types ≡ true))
covers-call (function_type more others) result types h =
    let parts = both-hold (covers more result) (cover_parameters others types) h in (more, (others, refl, parts.0, parts.1))
covers-call whole result types h = absurd (cc)

function-sort : (storage : Storage) (test : Bool) (linkage : Linkage) → is_typedef_word storage ≡ false → test ≡ true → sort_of storage test linkage ≡ Function
unfolding is_typedef_word
function-sort unsaid true linkage h e = refl
function-sort extern true linkage h e = refl
function-sort static true linkage h e = refl
function-sort typedef true linkage h e = absurd (cc)
function-sort storage false linkage h e = absurd (cc)

if-named : (named fits : Bool) → (not named || fits) ≡ true → named ≡ true → fits ≡ true
if-named true fits h e = h
if-named false fits h e = absurd (cc)

covers-array : (a b : CType) → covers a b ≡ true → is_array a ≡ is_array b
covers-array (array a m) (array b n) h = refl
covers-array (function_type a types) (function_type b others) h = refl
covers-array void void h = refl
covers-array (integer kind) (integer other) h = refl
covers-array (pointer a) (pointer b) h = refl
covers-array (struct m) (struct n) h = refl
covers-array (const a) (const b) h = refl
covers-array a b h = absurd (cc)

-- what is void or complete here is so at the end
result-final : (t : Standing) (final : Scene) → IsSoundStanding t → IsFinal t final → (more result : CType) → covers more result ≡ true → is_result t.known result ≡ true
    → IsResult final more
result-final t final sound last more result c h =
    let parts = three-hold (not (is_function result)) (not (is_array result)) (is_void (bare result) || is_complete t.known result) h in
    (ap not (covers-array more result c) ∙ parts.1, by-void (is_void (bare result)) refl parts.2)
  where
    by-void : (test : Bool) → is_void (bare result) ≡ test → (test || is_complete t.known result) ≡ true → IsTrue (is_void (bare more)) ⊎ IsComplete final more
    by-void true e g = inl (covers-void (bare more) (bare result) (covers-bare more result c) ∙ e)
    by-void false e g = inr (complete-final t final sound last more result c g)

-- its body is a block
abbrev pub BodyFits : Within → Scene → Tree → Type 0
BodyFits within scene made = StmtFits within scene made × (label_of made ≡ label.block)

body-sound : (kind result : CType) (types : CTypes) → kind ≡ function_type result types → IsProper kind → IsSoundWithin (body_within kind)
body-sound kind result types e proper =
    subst (λ it. IsSoundWithin (body_within it)) (sym e)
    (let parts = subst IsProper e proper in record { plain_result = sym (bare-again result parts.0); proper = bare-proper result parts.0 })

-- what stands in the body stands in the function
body-stands : (final : Scene) (kind result more : CType) (types : CTypes) → kind ≡ function_type result types → covers more result ≡ true
    → StandsIn (body_within kind) (body_scene final more)
body-stands final kind result more types e c =
    subst (λ it. StandsIn (body_within it) (body_scene final more)) (sym e)
    (record { result = covers-bare more result c; breaks = λ yes. absurd (cc); continues = λ yes. absurd (cc) })

module _ (setting : Setting) (tokens : AreSoundTokens setting.source.tokens) where
  body-settles : (within : Within) → IsSoundWithin within → (s : Standing) (scope : Numbers) (names : List Seen) (body : Stmt) → IsBlock body → IsStmt setting.source names body
      → IsSoundStanding s → Settles (BodyFits within) s (typed_body setting within s scope body)
  unfolding IsStmt
  body-settles within fine s scope names (tree.block span items) block is sound =
      settles-scope (BodyFits within) scope s (λ inside. further (typed_items_in setting within inside items) (λ behind all. goes_on behind (statement setting span label.block all))) sound
      (λ t inside. made-settles (StmtsFit within) (BodyFits within) t (typed_items_in setting within t items) (statement setting span label.block)
      (block-settles setting tokens within fine t _ _ items _ is.1.1 inside) (λ u all kept h final last. (block-fits setting span within u all h final last, refl)))
  body-settles within fine s scope names body block is sound = absurd block

module _ (t : Standing) (entry : Declaration) (heading : Heading) (base : ℕ) (sound : IsSoundStanding t) (is : IsHeading base t.known heading) (same : entry.kind ≡ heading.kind)
    (apart : (n : ℕ) → is_linked n t.linked ≡ true → n < base) (sort : entry.sort ≡ Function) (linked : has_linkage entry.linkage ≡ true)
    (declared : IsDeclared t (function_here t entry) (number_here t entry) (kind_seen t entry) entry) (main : fits_main entry ≡ true) where
  abbrev u : Standing
  u = function_here t entry

  abbrev x : Linked
  x = record { number = number_here t entry; kind = entry.kind; defines = true }

  apart-from : (n : ℕ) → base ≤ n → is_linked n t.linked ≡ false
  apart-from n low = never (is_linked n t.linked) (λ h. let one = apart n h in omega (arith, one, low))
    where
      never : (test : Bool) → (test ≡ true → ⊥) → test ≡ false
      never true h = absurd (h refl)
      never false h = refl

  main-fits : (later : Declaration) → later.name ≡ entry.name → later.linkage ≡ entry.linkage → covers later.kind entry.kind ≡ true → later.name ≡ codes "main"
      → IsTrue (is_main_type later.kind) × (later.linkage ≡ Outer)
  main-fits later name linkage c e =
      let named = (bytes_eq-Decides entry.name (codes "main")).1 (sym name ∙ e) in
      let fits = if-named (bytes_eq entry.name (codes "main")) _ main named in
      let parts = three-hold (is_function_sort entry.sort) (is_same_linkage Outer entry.linkage) (is_main_type entry.kind) fits in
      (covers-main later.kind entry.kind c parts.2, linkage ∙ sym (linkages-same Outer entry.linkage parts.1))

  pub definition-fits : (final : Scene) → IsFinal u final → (made : Tree) → ((scene : Scene) → scene.types ≡ final.types → scene.declared ≡ final.declared → StandsIn (body_within heading.kind) scene
      → IsWellTyped scene made) → label_of made ≡ label.block
      → Names final (number_here t entry) (FunctionFits final (numbers_of heading.parameters) made) × Names final (number_here t entry) (λ later. GivesResult final later.kind)
  definition-fits final last made typed block =
      let before = keeps-final t u final declared.kept last in
      let end = declared-final t u (number_here t entry) (kind_seen t entry) entry declared final last in
      let three = last.declared (number_here t entry) declared.now declared.at in
      let later-same : three.0 ≡ end.later = injected three.0 end.later (sym three.1 ∙ end.at) in
      let bound = bound-last x three.0.kind (number_here t entry) t.linked three.2.bound (numbers-same (number_here t entry) (number_here t entry) refl) in
      let wide : covers end.later.kind entry.kind ≡ true = subst (λ (it : Declaration). covers it.kind entry.kind ≡ true) later-same bound in
      let result = is.1.0 in
      let types = all_of (kinds_of heading.parameters) in
      let call = covers-call end.later.kind result types (subst (λ it. covers end.later.kind it ≡ true) (same ∙ is.1.1) wide) in
      let names = end.linked linked in (
        names-final final (number_here t entry) (FunctionFits final (numbers_of heading.parameters) made) end.later end.at (
          end.sort ∙ sort,
          subst (DefinitionFits final (numbers_of heading.parameters) made) (sym call.1.1) (
            parameters-final t final base heading.parameters call.1.0 sound before apart-from is.2 call.1.3,
            block,
            typed (body_scene final call.0) refl refl (body-stands final heading.kind result call.0 types is.1.1 call.1.2),
          ),
          main-fits end.later names.0 names.1 wide,
        ),
        names-final final (number_here t entry) (λ later. GivesResult final later.kind) end.later end.at
            (subst (GivesResult final) (sym call.1.1) (result-final t final sound before call.0 result call.1.2 is.1.2)),
      )

-- ---- external declarations

linked-function : (storage : Storage) (kind : CType) (entry : Declaration) → IsEntry entry → entry.sort ≡ Function → has_linkage entry.linkage ≡ true
linked-function storage kind entry is e = (subst (λ sort. FitsSort sort entry.kind (has_linkage entry.linkage)) e is).1

-- lengths that are collected are no more knowledge
knows-but : (known : Known) (constants : List Tree) → KnowsMore known (record known { constants = constants })
knows-but known constants = record {
  shapes = omega arith;
  types = λ id inside. refl;
  contents = λ at content h. h;
  structs = omega arith;
  declared = λ at entry h. h;
}

-- a scene with the same types and entries comes at the end too
final-again : (s : Standing) (final other : Scene) → other.types ≡ final.types → other.declared ≡ final.declared → IsFinal s final → IsFinal s other
final-again s final other types entries last = record {
  types = λ id inside. ap (λ table. type_of table id) types ∙ last.types id inside;
  contents = λ at content h. ap (λ table. content_of table at) types ∙ last.contents at content h;
  declared = λ at entry h. let one = last.declared at entry h in (one.0, ap (λ list. slice_get list at) entries ∙ one.1, one.2);
}

-- an external declaration fits, and a function that it defines gives a type that functions give
abbrev pub FitsWhole : Scene → unit.External → Type 0
FitsWhole final one = ExternalFits final one × DefinesResult final one.form

fits-alone : (s : Standing) (progress : Progress unit.External) → Settles FitsWhole s progress → Settles ExternalFits s progress
fits-alone s (goes_on behind one) h = (h.0, h.1, λ final last. (h.2 final last).0)
fits-alone s (stops rule at) h = tt

module _ (setting : Setting) (tokens : AreSoundTokens setting.source.tokens) where
  function-settles : (said : Specified) (t : Standing) (span : Span) (declarator : Declarator) (names : List Seen) (body : Stmt) (constants : List Tree) (heading : Heading) (base : ℕ)
      → IsSoundStanding t → IsHeading base t.known heading → is_typedef_word said.storage ≡ false → ((n : ℕ) → is_linked n t.linked ≡ true → n < base) → IsBlock body
      → IsStmt setting.source names body → At t AllConstants constants
      → Settles FitsWhole t
      (function_defined setting said t span declarator body constants heading (entry_of setting t.known said.storage (name_at declarator) heading.kind))
  function-settles said t span declarator names body constants heading base sound is word apart block formed all =
      let entry = entry_of setting t.known said.storage (name_at declarator) heading.kind in
      let number = number_here t entry in
      let within = body_within heading.kind in
      let u = function_here t entry in
      let made : Tree → unit.External = λ tree. external_of span constants (defines_function number (numbers_of heading.parameters) tree) in
      let rest = further (typed_body setting within u heading.scope body) (λ behind tree. goes_on behind (made tree)) in
      settles-keeps FitsWhole t (not (is_defined number t.linked)) 2 (name_at declarator) _
      (λ new. declarable-settles FitsWhole said t t false (declarator_span declarator).first (name_at declarator) entry (keeps (fits_main entry) 36 (name_at declarator) rest)
      (λ a b c d. settles-keeps FitsWhole t (fits_main entry) 36 (name_at declarator) rest
      (λ main.
      let entry-is = entry-fits setting t.known said.storage (name_at declarator) heading.kind a in
      let function : is_function heading.kind ≡ true = subst (λ it. is_function it ≡ true) (sym is.1.1) refl in
      let sort : entry.sort ≡ Function = function-sort said.storage (is_function heading.kind) entry.linkage word function in
      let linked = linked-function said.storage heading.kind entry entry-is sort in
      let first = declarator-declared t entry true sound entry-is is.0 b in
      let declared : IsDeclared t u number (kind_seen t entry) entry =
      subst (λ test. IsDeclared t (record t { known = named_here t entry; linked = with_link_if test number entry.kind true t.linked }) number (kind_seen t entry) entry) linked first in
      settles-from FitsWhole t u rest declared.kept
      (settles-further (BodyFits within) FitsWhole u (typed_body setting within u heading.scope body) (λ behind tree. goes_on behind (made tree))
      (body-settles setting tokens within (body-sound heading.kind is.1.0 (all_of (kinds_of heading.parameters)) is.1.1 is.0.0) u heading.scope names body block formed declared.sound)
      (λ v tree inside kept fits. (
        inside,
        keeps-itself v,
        (λ final last.
            let before = keeps-final u v final kept last in
            let mine = all final (keeps-final t u final declared.kept before) in
            let function = definition-fits t entry heading base sound is refl apart sort linked declared main final before tree
            (λ scene types entries stands. (fits scene (final-again v final scene types entries last)).0.2 stands) (fits final last).1 in
            ((mine.0, mine.1, function.0), function.1)),
      ))))))

  -- two lists of constants, one behind the other
  both-constants : (s t : Standing) (one other : List Tree) → Keeps s t → At s AllConstants one → At t AllConstants other → At t AllConstants (one ++ other)
  both-constants s t one other kept h g final last =
      let first = h final (keeps-final s t final kept last) in
      let second = g final last in
      (All-append (IsWellTyped final) one other first.0 second.0, All-append (IsConstant final) one other first.1 second.1)

  pub whole-settles : (s : Standing) (names : List Seen) (external : External) → IsExternal setting.source names external → IsSoundStanding s
      → Settles FitsWhole s (typed_external setting s external)
  unfolding IsExternal
  whole-settles s names (tree.external span declaration) h sound =
      made-settles DeclarationFits FitsWhole s (typed_declaration setting s declaration)
      (λ one. external_of span one.constants (unit.declares (declarators_of one.locals) (expressions_of one.locals))) (declaration-settles setting tokens s names declaration h.1 sound)
      (λ t one kept fits final last. let is = fits final last in ((is.0.0, is.0.1, (is.1, is.2)), tt))
  whole-settles s names (tree.definition span specifiers declarator body) h sound =
      settles-collecting IsDefining FitsWhole s (specified setting of_definition false s.known specifiers) _ sound (defining-more setting tokens s.known names specifiers h.1 sound.known)
      (λ known said more still defining inside.
      let t = knowing s known in
      settles-collecting (IsHeading (length t.known.declared)) FitsWhole t (typed_heading setting t.known said.kind declarator) _ inside
      (heading-more setting tokens t.known _ said.kind declarator h.3 h.5 inside.known defining.0)
      (λ last heading further fine is then_inside.
      let v = knowing t last in
      let base = length t.known.declared in
      function-settles said v span declarator _ body (known.constants ++ last.constants) heading (length t.known.declared) then_inside (is.0, is.1, all-later base base last v.known heading.parameters (knows-but last t.known.constants) fine (omega arith) is.2) defining.1 inside.within h.7 h.8
      (both-constants t v known.constants last.constants (knowing-keeps t last inside further) (λ final end. constants-final t final inside end known.constants still.constants)
      (λ final end. constants-final v final then_inside end last.constants fine.constants))))

  pub external-settles : (s : Standing) (names : List Seen) (one : External) → IsExternal setting.source names one → IsSoundStanding s
      → Settles ExternalFits s (typed_external setting s one)
  external-settles s names one h sound = fits-alone s (typed_external setting s one) (whole-settles s names one h sound)
