-- The refusals of the tokens of phase 7, of their syntax and of their typing stand at preprocessing tokens.
use Rattle.std.proofs.Common.{◌≡◌, ℕ, zero, suc, ◌<◌, Bool, true, false, cond, ◌&&◌, ◌⊎◌, inl, inr, List, [], ◌∷◌, length, map, Option, None, Some, Result, Ok, Err, sym, subst, arith}
use Rattle.std.specs.Prelude.{MatchOption, slice_get, position, bytes_eq, option_map, nat_lt, ℤ, pos}
use Rattle.std.specs.FinMap as finite
use Rattle.std.specs.List.{AllByRecursion}
use Rattle.dm_token.specs.declared.place.Place.{Place}
use Rattle.dm_token.specs.declared.stop.Refusal.{Refusal}
use Rattle.dm_token.specs.declared.stop.Stop.TheVariants.{Refused}
use Rattle.dm_token.specs.declared.token.Class.TheVariants.{Keyword}
use Rattle.dm_token.specs.declared.token.PpKind.{PpKind}
use Rattle.dm_token.specs.declared.token.PpKind.TheVariants.{Identifier, Number, Character, Literal, Punctuator, Header, Stray}
use Rattle.dm_token.specs.declared.token.Token.{Token}
use Rattle.dm_token.specs.declared.token.CToken.{CToken}
use Rattle.dm_token.specs.Refusals as refusals
use Rattle.dm_spell.specs.Tables.{keyword_rows}
use Rattle.dm_int.specs.declared.Kind.{Kind}
use Rattle.dm_int.specs.declared.Kind.TheVariants.{Int}
use Rattle.dm_ctok.specs.Escapes.{elements, between_quotes, character_of}
use Rattle.dm_ctok.specs.Integers.{integer_of}
use Rattle.dm_ctok.specs.Joins.{is_literal_class, joined, onto, joins}
use Rattle.dm_ctok.specs.Tokens.{plain, refused, word, valued, number, is_prefixed, character, of_values, literal, of_kind, token_of, first_left_out, behind_first, each, joined_unless_refused, ctokens_of}
use Rattle.dm_pexpr.specs.NameMaps.{NameMap}
use Rattle.dm_syn.specs.Spans.{external_span}
use Rattle.dm_syn.specs.Trees.{External}
use Rattle.dm_syn.specs.declared.statement.External.{External as Written}
use Rattle.dm_syn.specs.Views as view
use Rattle.dm_tree.specs.Units.{TypedUnit}
use Rattle.dm_typing.specs.Known.{Outcome, broken, place_of_token}
use Rattle.dm_typing.specs.Sound.{BreaksWithin}
use Rattle.dm_typing.proofs.LaterLemmas.{begins-itself}
use Rattle.dm_edecl.specs.Placing.{externals_after}
use Rattle.dm_edecl.specs.Units.{typed_unit}
use Rattle.dm_edecl.proofs.UnitPlacingLemmas.{unit-within}
use Rattle.dm_reading.specs.Elaborated.{Elaborates}
use Rattle.dm_reading.specs.Layered.{HasLayers}
use Rattle.dm_reading.specs.Syntax.{names_behind, Stand, IsSyntax, Refuses}
use Rattle.dm_formed.proofs.SourceLemmas.{syntax-externals}

-- external declarations that stand one behind the other end where the last does
stand-ends : (tokens : List CToken) (externals : List External) (names : NameMap) (at to : ℕ) (known : NameMap) → Stand tokens names at externals to known → externals_after at externals ≡ to
unfolding Stand
stand-ends tokens [] names at to known h = h.0
stand-ends tokens (it ∷ others) names at to known h = stand-ends tokens others (names_behind tokens names it) (external_span it).after to known h.1

-- a rule that is broken inside tokens is broken at one of them
broken-inside : (end : ℕ) (outcome : Outcome TypedUnit) (rule at : ℕ) → outcome ≡ broken rule at → BreaksWithin 0 end outcome → at < end
broken-inside end outcome rule at is within = (subst (BreaksWithin 0 end) is within).1

module _ (In : Place → Type 0) where
  abbrev pub TokensLie : List Token → Type 0
  TokensLie tokens = AllByRecursion (λ (token : Token). In token.pp.place) tokens

  abbrev CTokensLie : List CToken → Type 0
  CTokensLie tokens = AllByRecursion (λ (token : CToken). In token.place) tokens

  -- a token stands so, or is refused there
  abbrev Lies : Result CToken Refusal → Type 0
  Lies (Ok token) = In token.place
  Lies (Err refusal) = In refusal.place

  abbrev AllLie : Result (List CToken) Refusal → Type 0
  AllLie (Ok tokens) = CTokensLie tokens
  AllLie (Err refusal) = In refusal.place

  -- ONE TOKEN

  word-lies : (token : Token) (row : Option ℕ) → In token.pp.place → Lies (word token row)
  unfolding word
  word-lies token None stands = stands
  word-lies token (Some row) stands = by (nat_lt row first_left_out)
    where
      by : (b : Bool) → Lies (cond b (Ok (plain token (Keyword row))) (Err (refused token refusals.out_of_subset)))
      by true = stands
      by false = stands

  valued-lies : (token : Token) (constant : Option (ℤ × Kind)) → In token.pp.place → Lies (valued token constant)
  unfolding valued
  valued-lies token None stands = stands
  valued-lies token (Some constant) stands = stands

  number-lies : (token : Token) → In token.pp.place → Lies (number token)
  unfolding number
  number-lies token stands = valued-lies token (option_map (λ integer. (pos integer.0, integer.1)) (integer_of token.pp.spelling)) stands

  values-lie : (token : Token) (bytes : Option (List ℕ)) → In token.pp.place → Lies (of_values token bytes)
  unfolding of_values
  values-lie token None stands = stands
  values-lie token (Some bytes) stands = stands

  character-lies : (token : Token) → In token.pp.place → Lies (character token)
  unfolding character
  character-lies token stands = by (is_prefixed token.pp.spelling)
    where
      by : (b : Bool) → Lies (cond b (Err (refused token refusals.out_of_subset)) (valued token (option_map (λ value. (value, Int)) (character_of token.pp.spelling))))
      by true = stands
      by false = valued-lies token (option_map (λ value. (value, Int)) (character_of token.pp.spelling)) stands

  literal-lies : (token : Token) → In token.pp.place → Lies (literal token)
  unfolding literal
  literal-lies token stands = by (is_prefixed token.pp.spelling)
    where
      by : (b : Bool) → Lies (cond b (Err (refused token refusals.out_of_subset)) (of_values token (elements (between_quotes token.pp.spelling))))
      by true = stands
      by false = values-lie token (elements (between_quotes token.pp.spelling)) stands

  kind-lies : (token : Token) (kind : PpKind) → In token.pp.place → Lies (of_kind token kind)
  unfolding of_kind
  kind-lies token Identifier stands = word-lies token (position (bytes_eq token.pp.spelling) keyword_rows) stands
  kind-lies token Number stands = number-lies token stands
  kind-lies token Character stands = character-lies token stands
  kind-lies token Literal stands = literal-lies token stands
  kind-lies token (Punctuator row) stands = stands
  kind-lies token Header stands = stands
  kind-lies token Stray stands = stands

  token-lies : (token : Token) → In token.pp.place → Lies (token_of token)
  unfolding token_of
  token-lies token stands = kind-lies token token.pp.kind stands

  -- ALL TOKENS

  behind-lies : (first : Result CToken Refusal) (others : Result (List CToken) Refusal) → Lies first → AllLie others → AllLie (behind_first first others)
  behind-lies (Ok token) (Ok tokens) stands all = (stands, all)
  behind-lies (Ok token) (Err refusal) stands all = all
  behind-lies (Err refusal) others stands all = stands

  each-lies : (tokens : List Token) → TokensLie tokens → AllLie (each tokens)
  unfolding each
  each-lies [] all = tt
  each-lies (token ∷ tokens) all = behind-lies (token_of token) (each tokens) (token-lies token all.0) (each-lies tokens all.1)

  onto-lies : (a : CToken) (tokens : List CToken) → In a.place → CTokensLie tokens → CTokensLie (onto a tokens)
  unfolding onto joined
  onto-lies a [] stands all = (stands, tt)
  onto-lies a (b ∷ tokens) stands all = by (is_literal_class a.class && is_literal_class b.class)
    where
      by : (t : Bool) → CTokensLie (cond t (joined a b ∷ tokens) (a ∷ b ∷ tokens))
      by true = (stands, all.1)
      by false = (stands, all)

  joins-lie : (tokens : List CToken) → CTokensLie tokens → CTokensLie (joins tokens)
  unfolding joins
  joins-lie [] all = tt
  joins-lie (a ∷ tokens) all = onto-lies a (joins tokens) all.0 (joins-lie tokens all.1)

  ctokens-lie : (tokens : List Token) → TokensLie tokens → AllLie (ctokens_of tokens)
  unfolding ctokens_of
  ctokens-lie tokens all = by (each tokens) (each-lies tokens all)
    where
      by : (r : Result (List CToken) Refusal) → AllLie r → AllLie (joined_unless_refused r)
      by (Ok made) lie = joins-lie made lie
      by (Err refusal) lie = lie

  pub refused-lies : (tokens : List Token) (refusal : Refusal) → TokensLie tokens → ctokens_of tokens ≡ Err refusal → In refusal.place
  refused-lies tokens refusal all is = subst AllLie is (ctokens-lie tokens all)

  -- THE SYNTAX

  token-at : (tokens : List CToken) (at : ℕ) (refusal : Refusal) → CTokensLie tokens → MatchOption (slice_get tokens at) ⊥ (λ (token : CToken). refusal ≡ record { number = 16; detail = 0; place = token.place }) → In refusal.place
  token-at [] at refusal all is = absurd is
  token-at (token ∷ tokens) zero refusal all is = subst (λ (r : Refusal). In r.place) (sym is) all.0
  token-at (token ∷ tokens) (suc at) refusal all is = token-at tokens at refusal all.1 is

  pub syntax-lies : (tokens : List Token) (made : List CToken) (refusal : Refusal) → TokensLie tokens → ctokens_of tokens ≡ Ok made → Refuses made (Refused refusal) → In refusal.place
  syntax-lies tokens made refusal all is refuses = token-at made refuses.0 refusal (subst AllLie is (ctokens-lie tokens all)) refuses.2

  -- THE TYPING

  place-lies : (tokens : List CToken) (at : ℕ) → CTokensLie tokens → at < length tokens → In (place_of_token (slice_get tokens at))
  place-lies [] at all inside = absurd (omega (arith, inside))
  place-lies (token ∷ tokens) zero all inside = all.0
  place-lies (token ∷ tokens) (suc at) all inside = place-lies tokens at all.1 (omega (arith, inside))

  pub typing-lies : (tokens : List Token) (made : List CToken) (externals : List External) (refusal : Refusal) → TokensLie tokens → ctokens_of tokens ≡ Ok made → IsSyntax made externals
      → Elaborates made externals (Err (Refused refusal)) → In refusal.place
  typing-lies tokens made externals refusal all is syntax breaks =
      let here = breaks.1 breaks.0 (begins-itself breaks.0) in
      let inside = broken-inside (externals_after 0 externals) (typed_unit breaks.0 made externals) here.0 here.1 here.2 (unit-within breaks.0 made externals (syntax-externals made externals syntax)) in
      let ends = stand-ends made externals finite.empty 0 (length made) syntax.0 syntax.1 in
      subst (λ (r : Refusal). In r.place) (sym here.3) (place-lies made here.1 (subst AllLie is (ctokens-lie tokens all)) (omega (arith, inside, ends)))

  -- ALL LAYERS

  pub layers-lie : (tokens : List Token) (refusal : Refusal) → TokensLie tokens → HasLayers tokens (Err (Refused refusal)) → In refusal.place
  layers-lie tokens refusal all (inl is) = refused-lies tokens refusal all is
  layers-lie tokens refusal all (inr behind) = by behind.2
    where
      by : Refuses behind.0 (Refused refusal) ⊎ ((syntax : List Written) × IsSyntax behind.0 (map view.external syntax) × Elaborates behind.0 (map view.external syntax) (Err (Refused refusal))) → In refusal.place
      by (inl refuses) = syntax-lies tokens behind.0 refusal all behind.1 refuses
      by (inr typed) = typing-lies tokens behind.0 (map view.external typed.0) refusal all behind.1 typed.1 typed.2
