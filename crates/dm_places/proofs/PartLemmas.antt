-- The tokens of a file's parts are tokens of the file, and a macro's line is refused at one of its tokens.
use Rattle.std.proofs.Common.{◌≡◌, ℕ, Bool, true, false, cond, not, ◌&&◌, inl, inr, List, [], ◌∷◌, Option, None, Some, IsSomeAnd, slice_get, bytes_eq, refl, sym, subst}
use Rattle.std.specs.List.{AllByRecursion, list_any}
use Rattle.std.specs.Option.{option_map_or}
use Rattle.dm_token.specs.Refusals as refusals
use Rattle.dm_token.specs.declared.place.Place.{Place}
use Rattle.dm_token.specs.declared.stop.Stop.{Stop}
use Rattle.dm_token.specs.declared.token.PpToken.{PpToken}
use Rattle.dm_token.specs.declared.expansion.Definition.{Definition}
use Rattle.dm_token.specs.declared.expansion.Origin.{Origin}
use Rattle.dm_macro.specs.Signs.{is_hash}
use Rattle.dm_macro.specs.Forms.{Gives, bare_hash, refused, is_parameter, hash_not_before}
use Rattle.dm_macro.specs.Tables.{Table}
use Rattle.dm_unit.specs.Definitions.{CannotDefine}
use Rattle.dm_unit.specs.Lines.{Part, directive, text, lines_of, in_first_line, is_line_start, parts_in, parts_of, with_text}
use Rattle.dm_local.proofs.ExpansionLemmas.{TokensIn, StopIn, all-append}
use Rattle.dm_local.proofs.TokenLemmas.{gives-in}

module _ (In : Place → Type 0) where
  abbrev pub PartIn : Part → Type 0
  PartIn (directive start behind) = TokensIn In (start ∷ behind)
  PartIn (text tokens) = TokensIn In tokens

  lines-in : (tokens : List PpToken) → TokensIn In tokens → AllByRecursion (TokensIn In) (lines_of tokens)
  unfolding lines_of
  lines-in [] all = tt
  lines-in (t ∷ ts) all = by (is_line_start ts) (lines_of ts) (lines-in ts all.1)
    where
      joined : (lines : List (List PpToken)) → AllByRecursion (TokensIn In) lines → AllByRecursion (TokensIn In) (in_first_line t lines)
      joined [] are = ((all.0, tt), tt)
      joined (line ∷ lines) are = ((all.0, are.0), are.1)

      by : (b : Bool) (lines : List (List PpToken)) → AllByRecursion (TokensIn In) lines → AllByRecursion (TokensIn In) (cond b ((t ∷ []) ∷ lines) (in_first_line t lines))
      by true lines are = ((all.0, tt), are)
      by false lines are = joined lines are

  with_text-in : (line : List PpToken) (parts : List Part) → TokensIn In line → AllByRecursion PartIn parts → AllByRecursion PartIn (with_text line parts)
  with_text-in line [] all parts = (all, tt)
  with_text-in line (text tokens ∷ parts) all are = (all-append (λ (one : PpToken). In one.place) line tokens all are.0, are.1)
  with_text-in line (directive start behind ∷ parts) all are = (all, are)

  parts_in-in : (lines : List (List PpToken)) → AllByRecursion (TokensIn In) lines → AllByRecursion PartIn (parts_in lines)
  unfolding parts_in
  parts_in-in [] all = tt
  parts_in-in ([] ∷ lines) all = parts_in-in lines all.1
  parts_in-in ((t ∷ ts) ∷ lines) all = by (is_hash t) (parts_in lines) (parts_in-in lines all.1)
    where
      by : (b : Bool) (parts : List Part) → AllByRecursion PartIn parts → AllByRecursion PartIn (cond b (directive t ts ∷ parts) (with_text (t ∷ ts) parts))
      by true parts are = (all.0, are)
      by false parts are = with_text-in (t ∷ ts) parts all.0 are

  pub parts-in : (tokens : List PpToken) → TokensIn In tokens → AllByRecursion PartIn (parts_of tokens)
  unfolding parts_of
  parts-in tokens all = parts_in-in (lines_of tokens) (lines-in tokens all)

  -- A LINE THAT DEFINES NO MACRO

  hash-in : (test : PpToken → Bool) (ts : List PpToken) (t : PpToken) → TokensIn In ts → hash_not_before test ts ≡ Some t → In t.place
  hash-in test [] t all is = absurd (cc)
  hash-in test (u ∷ ts) t all is = by (is_hash u && not (option_map_or test (slice_get ts 0) false)) is (hash-in test ts t all.1)
    where
      by : (b : Bool) → cond b (Some u) (hash_not_before test ts) ≡ Some t → (hash_not_before test ts ≡ Some t → In t.place) → In t.place
      by true e next = let same : u ≡ t = cc in subst (λ (x : PpToken). In x.place) same all.0
      by false e next = next e

  bare-in : (definition : Definition) (t : PpToken) → TokensIn In definition.body → bare_hash definition ≡ Some t → In t.place
  bare-in definition t all is = by definition.parameters is
    where
      by : (o : Option (List (List ℕ))) → option_map_or (λ names. hash_not_before (is_parameter (λ n. list_any (bytes_eq n) names) definition.variadic) definition.body) o None ≡ Some t → In t.place
      by None e = absurd (cc)
      by (Some names) e = hash-in (is_parameter (λ n. list_any (bytes_eq n) names) definition.variadic) definition.body t all e

  name-in : (line : List PpToken) (origin : Origin) (whole : Bool) (definition : Definition) → TokensIn In line → Gives line origin whole definition → In definition.place
  name-in [] origin whole definition all gives = absurd gives
  name-in (hash ∷ []) origin whole definition all gives = absurd gives
  name-in (hash ∷ (word ∷ [])) origin whole definition all gives = absurd gives
  name-in (hash ∷ (word ∷ (name ∷ behind))) origin whole definition all gives = subst (λ (d : Definition). In d.place) (sym gives.1) all.1.1.0

  pub cannot-in : (table : Table) (line : List PpToken) (origin : Origin) (whole : Bool) (stop : Stop) → TokensIn In line → CannotDefine table line origin whole stop → StopIn In stop
  cannot-in table line origin whole stop all (inl misformed) = by line all misformed.1
    where
      by : (ts : List PpToken) → TokensIn In ts → IsSomeAnd (slice_get ts 0) (λ hash. stop ≡ refused refusals.form hash.place) → StopIn In stop
      by [] all is = absurd is
      by (t ∷ ts) all is = subst (StopIn In) (sym is) all.0
  cannot-in table line origin whole stop all (inr (inl bare)) = by (bare_hash bare.0) refl bare.2
    where
      by : (o : Option PpToken) → bare_hash bare.0 ≡ o → IsSomeAnd o (λ operator. stop ≡ refused refusals.hash_operand operator.place) → StopIn In stop
      by None e is = absurd is
      by (Some t) e is = subst (StopIn In) (sym is) (bare-in bare.0 t (gives-in In line origin whole bare.0 all bare.1) e)
  cannot-in table line origin whole stop all (inr (inr redefines)) = subst (StopIn In) (sym redefines.4) (name-in line origin whole redefines.0 all redefines.1)
