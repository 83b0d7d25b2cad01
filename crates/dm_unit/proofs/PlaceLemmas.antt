-- The file of a stop at a define of the manifest, or at the main file.
use Rattle.std.proofs.Common.{◌≡◌, ◌≢◌, ℕ, zero, suc, Bool, true, false, cond, not, ◌&&◌, ◌⊎◌, inl, inr, List, [], ◌∷◌, ◌++◌, map, drop, Option, None, Some, IsSomeAnd, slice_get, Result, Ok, Err, bytes_eq, refl, sym, ap, ◌∙◌, subst}
use Rattle.std.specs.List.{list_any, after_first}
use Rattle.std.specs.Option.{option_map_or}
use Rattle.dm_token.specs.Refusals as refusals
use Rattle.dm_token.specs.declared.token.PpToken.{PpToken}
use Rattle.dm_token.specs.declared.stop.Refusal.{Refusal}
use Rattle.dm_token.specs.declared.stop.Stop.{Stop}
use Rattle.dm_token.specs.declared.stop.Stop.TheVariants.{Memory, Refused, Limit, ReadFault}
use Rattle.dm_token.specs.declared.expansion.Origin.{Origin}
use Rattle.dm_token.specs.declared.expansion.Definition.{Definition}
use Rattle.dm_io.specs.Files.{Files}
use Rattle.dm_phase.specs.declared.Character.{Character}
use Rattle.dm_phase.specs.Answer.{flat_of}
use Rattle.dm_lex.specs.Cuts.{Piece, first_state, Cuts, OpensAt}
use Rattle.dm_lex.specs.Tokens.{refusal_at}
use Rattle.dm_lex.proofs.ExistLemmas.{cut_exists}
use Rattle.dm_macro.specs.Signs.{is_hash, is_right_parenthesis}
use Rattle.dm_macro.specs.Forms.{Gives, bare_hash, refused, is_function_like, replacement_list, parameters_of, is_variadic, is_parameter, hash_not_before, definition_of}
use Rattle.dm_macro.specs.Tables.{Table, Refuses}
use Rattle.dm_search.specs.Loaded.{Loaded, name_of, is_held, is_absent}
use Rattle.dm_search.specs.Loading.{Loads}
use Rattle.dm_unit.specs.Sources.{reading_of, tokens_of_flat, tokens_or_open}
use Rattle.dm_unit.specs.Definitions.{at_start, one_token, implied_body, is_equals_sign, define_text}
use Rattle.dm_unit.specs.Loaders.{IsOf, file_of}
use Rattle.dm_unit.specs.Views.{AreIn, NamesMain, IsLineOf, TextStops}
use Rattle.dm_unit.proofs.GrowLemmas.{refused-file}
use Rattle.dm_unit.proofs.SearchLemmas.{stop-file}

-- TOKENS IN A FILE

in-drop : (file n : ℕ) (ts : List PpToken) → AreIn file ts → AreIn file (drop n ts)
in-drop file zero ts all = all
in-drop file (suc n) [] all = tt
in-drop file (suc n) (t ∷ ts) all = in-drop file n ts all.1

in-append : (file : ℕ) (ts us : List PpToken) → AreIn file ts → AreIn file us → AreIn file (ts ++ us)
in-append file [] us first second = second
in-append file (t ∷ ts) us first second = (first.0, in-append file ts us first.1 second)

at-start-in : (main : ℕ) (ts : List PpToken) → AreIn main (map (at_start main) ts)
at-start-in main [] = tt
at-start-in main (t ∷ ts) = (refl, at-start-in main ts)

implied-in : (main : ℕ) (define : List ℕ) → AreIn main (implied_body main define)
implied-in main define = by (list_any is_equals_sign define)
  where
    by : (b : Bool) → AreIn main (cond b [] (one_token main ∷ []))
    by true = tt
    by false = (refl, tt)

-- the line of a define stands in the main file
pub line-in : (main : ℕ) (define : List ℕ) (line : List PpToken) → IsLineOf main define line → AreIn main line
line-in main define line is =
    subst (AreIn main) (sym is.2) (refl, (refl, in-append main (map (at_start main) is.0) (implied_body main define) (at-start-in main is.0) (implied-in main define)))

-- THE STOP OF A DEFINITION

hash-in : (file : ℕ) (test : PpToken → Bool) (ts : List PpToken) (t : PpToken) → AreIn file ts → hash_not_before test ts ≡ Some t → t.place.file ≡ file
hash-in file test [] t all is = absurd (cc)
hash-in file test (u ∷ ts) t all is = by (is_hash u && not (option_map_or test (slice_get ts 0) false)) is (hash-in file test ts t all.1)
  where
    by : (b : Bool) → cond b (Some u) (hash_not_before test ts) ≡ Some t → (hash_not_before test ts ≡ Some t → t.place.file ≡ file) → t.place.file ≡ file
    by true e next = let same : u ≡ t = cc in ap (λ (x : PpToken). x.place.file) (sym same) ∙ all.0
    by false e next = next e

body-in : (file : ℕ) (behind : List PpToken) → AreIn file behind → AreIn file (replacement_list behind)
body-in file behind all = by (is_function_like behind)
  where
    by : (b : Bool) → AreIn file (cond b (after_first is_right_parenthesis behind) behind)
    by true = in-drop file _ behind all
    by false = all

bare-in : (file : ℕ) (hash name : PpToken) (behind : List PpToken) (origin : Origin) (plain : Bool) (t : PpToken) → AreIn file behind → bare_hash (definition_of hash name behind origin plain) ≡ Some t → t.place.file ≡ file
bare-in file hash name behind origin plain t all is = by (parameters_of behind) is
  where
    by : (o : Option (List (List ℕ))) → option_map_or (λ names. hash_not_before (is_parameter (λ n. list_any (bytes_eq n) names) (is_variadic behind)) (replacement_list behind)) o None ≡ Some t → t.place.file ≡ file
    by None e = absurd (cc)
    by (Some names) e = hash-in file (is_parameter (λ n. list_any (bytes_eq n) names) (is_variadic behind)) (replacement_list behind) t (body-in file behind all) e

gives-in : (main : ℕ) (line : List PpToken) (origin : Origin) (plain : Bool) (definition : Definition) → AreIn main line → Gives line origin plain definition
    → (definition.place.file ≡ main) × ((t : PpToken) → bare_hash definition ≡ Some t → t.place.file ≡ main)
gives-in main [] origin plain definition all gives = absurd gives
gives-in main (hash ∷ []) origin plain definition all gives = absurd gives
gives-in main (hash ∷ (directive ∷ [])) origin plain definition all gives = absurd gives
gives-in main (hash ∷ (directive ∷ (name ∷ behind))) origin plain definition all gives = (
  ap (λ (d : Definition). d.place.file) gives.1 ∙ all.1.1.0,
  λ t is. bare-in main hash name behind origin plain t all.1.1.1 (sym (ap bare_hash gives.1) ∙ is),
)

pub refuses-main : (main : ℕ) (table : Table) (line : List PpToken) (origin : Origin) (plain : Bool) (stop : Stop) → AreIn main line → Refuses table line origin plain stop → stop ≢ Memory → IsOf (file_of stop) main
refuses-main main table line origin plain stop all (inl memory) not = absurd (not memory)
refuses-main main table line origin plain stop all (inr (inl misformed)) not = by line all misformed.1
  where
    by : (ts : List PpToken) → AreIn main ts → IsSomeAnd (slice_get ts 0) (λ hash. stop ≡ refused refusals.form hash.place) → IsOf (file_of stop) main
    by [] all is = absurd is
    by (t ∷ ts) all is = subst (λ s. IsOf (file_of s) main) (sym is) (sym all.0)
refuses-main main table line origin plain stop all (inr (inr (inl bare))) not = by (bare_hash bare.0) refl bare.2
  where
    by : (o : Option PpToken) → bare_hash bare.0 ≡ o → IsSomeAnd o (λ operator. stop ≡ refused refusals.hash_operand operator.place) → IsOf (file_of stop) main
    by None e is = absurd is
    by (Some t) e is = subst (λ s. IsOf (file_of s) main) (sym is) (sym ((gives-in main line origin plain bare.0 all bare.1).1 t e))
refuses-main main table line origin plain stop all (inr (inr (inr redefines))) not =
    subst (λ s. IsOf (file_of s) main) (sym redefines.4) (sym (gives-in main line origin plain redefines.0 all redefines.1).0)

-- THE STOP OF A TEXT

reading-file : (file : ℕ) (bytes : List ℕ) (refusal : Refusal) → reading_of file bytes ≡ Err refusal → refusal.place.file ≡ file
unfolding reading_of
reading-file file bytes refusal is = by (flat_of file bytes) refl is
  where
    opened : (text : List Character) (cut : ((pieces : List Piece) × Cuts first_state pieces text) ⊎ ((pieces : List Piece) × (left : List Character) × OpensAt first_state pieces text left))
        → tokens_or_open file bytes text cut ≡ Err refusal → refusal.place.file ≡ file
    opened text (inl cut) e = absurd (cc)
    opened text (inr opening) e = let same : refusal_at file bytes opening.1 ≡ refusal = cc in ap (λ (r : Refusal). r.place.file) (sym same)

    by : (flat : Result (List Character) Refusal) → flat_of file bytes ≡ flat → tokens_of_flat file bytes flat ≡ Err refusal → refusal.place.file ≡ file
    by (Ok text) f e = opened text (cut_exists first_state text) e
    by (Err other) f e = let same : other ≡ refusal = cc in refused-file file bytes refusal (inl (f ∙ ap Err same))

pub text-main : (main : ℕ) (define : List ℕ) (stop : Stop) → TextStops main define stop → stop ≢ Memory → IsOf (file_of stop) main
text-main main define Memory stops not = absurd (not refl)
text-main main define (Refused refusal) stops not = by stops.2
  where
    by : ◌≡◌ {A = Result (List PpToken) Stop} (Err (Refused refusal)) (Err (Refused stops.0)) → main ≡ refusal.place.file
    by e = let same : refusal ≡ stops.0 = cc in sym (ap (λ (r : Refusal). r.place.file) same ∙ reading-file main (define_text define) stops.0 stops.1)
text-main main define (Limit passed) stops not = absurd (by stops.2)
  where
    by : ◌≡◌ {A = Result (List PpToken) Stop} (Err (Limit passed)) (Err (Refused stops.0)) → ⊥
    by e = cc
text-main main define (ReadFault file) stops not = absurd (by stops.2)
  where
    by : ◌≡◌ {A = Result (List PpToken) Stop} (Err (ReadFault file)) (Err (Refused stops.0)) → ⊥
    by e = cc

-- THE STOP OF THE MAIN FILE

pub load-names : (told : Option Files) (old : Loaded) (file : ℕ) (result : Result Bool Stop) (new : Loaded) → (is_held old file ≡ true → result ≡ Ok true) → (is_held old file ≡ false → is_absent old (name_of old file) ≡ true → result ≡ Ok false)
    → (is_held old file ≡ false → is_absent old (name_of old file) ≡ false → Loads told (name_of old file) old file result new) → NamesMain file result
load-names told old file (Ok there) new held absent read = tt
load-names told old file (Err stop) new held absent read = λ not. by (is_held old file) (is_absent old (name_of old file)) refl refl not
  where
    by : (h a : Bool) → is_held old file ≡ h → is_absent old (name_of old file) ≡ a → stop ≢ Memory → IsOf (file_of stop) file
    by true a h e not = absurd (wrong true (held h))
      where
        wrong : (there : Bool) → ◌≡◌ {A = Result Bool Stop} (Err stop) (Ok there) → ⊥
        wrong there e = cc
    by false true h e not = absurd (wrong false (absent h e))
      where
        wrong : (there : Bool) → ◌≡◌ {A = Result Bool Stop} (Err stop) (Ok there) → ⊥
        wrong there e = cc
    by false false h e not = stop-file told (name_of old file) old file stop (read h e).0 not
