-- Where the tokens of files, of their parts and of macros' bodies stand.
use Rattle.std.proofs.Common.{ℕ, zero, suc, ◌<◌, Bool, true, false, cond, ◌&&◌, ◌⊎◌, inl, inr, List, [], ◌∷◌, ◌++◌, drop, map, Result, Ok, Err, refl, sym, subst}
use Rattle.std.specs.List.{AllByRecursion, after_first, list_any}
use Rattle.std.specs.Result.{result_unwrap_or}
use Rattle.dm_token.specs.declared.place.Place.{Place}
use Rattle.dm_token.specs.declared.stop.Refusal.{Refusal}
use Rattle.dm_token.specs.declared.token.PpToken.{PpToken}
use Rattle.dm_token.specs.declared.expansion.Definition.{Definition}
use Rattle.dm_token.specs.declared.expansion.Origin.{Origin}
use Rattle.dm_spell.specs.Punctuators.{left_parenthesis, right_parenthesis}
use Rattle.dm_phase.specs.declared.Character.{Character}
use Rattle.dm_phase.specs.Answer.{flat_of}
use Rattle.dm_lex.specs.declared.state.State.{State as LexState}
use Rattle.dm_lex.specs.Cuts.{Piece, token, blank, comment, first_state, state_behind, Cuts, OpensAt}
use Rattle.dm_lex.specs.Tokens.{tokens_of}
use Rattle.dm_lex.proofs.ExistLemmas.{cut_exists}
use Rattle.dm_macro.specs.Signs.{is_hash, is_punctuator, is_identifier, is_right_parenthesis}
use Rattle.dm_macro.specs.Forms.{Gives, is_function_like}
use Rattle.dm_macro.specs.Tables.{Table, Defines}
use Rattle.dm_unit.specs.Sources.{reading_of, tokens_of_flat, tokens_or_open}
use Rattle.dm_unit.specs.Definitions.{at_start, one_token, implied_body, is_equals_sign, define_line}
use Rattle.dm_unit.specs.Conditions.{Item, plain, defined, measured, is_defined_word, parenthesized_item, defined_item, first_item, items, token_for, replaced}
use Rattle.dm_unit.specs.Lines.{Part, directive, text, lines_of, in_first_line, is_line_start, parts_in, parts_of, with_text}
use Rattle.dm_unit.specs.Views.{AreIn}
use Rattle.dm_local.proofs.ExpansionLemmas.{TokensIn, DefinitionsIn, all-append}

-- LISTS

all-drop : {A : Type 0} (P : A → Type 0) (n : ℕ) (xs : List A) → AllByRecursion P xs → AllByRecursion P (drop n xs)
all-drop P zero xs all = all
all-drop P (suc n) [] all = tt
all-drop P (suc n) (x ∷ xs) all = all-drop P n xs all.1

pub bodies-weaker : (In Wide : Place → Type 0) → ((place : Place) → In place → Wide place) → (read : List Definition) → DefinitionsIn In read → DefinitionsIn Wide read
bodies-weaker In Wide wider [] all = tt
bodies-weaker In Wide wider (one ∷ read) all = (tokens one.body all.0, bodies-weaker In Wide wider read all.1)
  where
    tokens : (ts : List PpToken) → TokensIn In ts → TokensIn Wide ts
    tokens [] all = tt
    tokens (t ∷ ts) all = (wider t.place all.0, tokens ts all.1)

-- tokens of a file stand in one of more files
pub at-under : (file count : ℕ) (tokens : List PpToken) → file < count → AreIn file tokens → TokensIn (λ place. place.file < count) tokens
at-under file count [] inside all = tt
at-under file count (t ∷ ts) inside all = (subst (λ n. n < count) (sym all.0) inside, at-under file count ts inside all.1)

pub at-append : (file : ℕ) (ts us : List PpToken) → AreIn file ts → AreIn file us → AreIn file (ts ++ us)
at-append file [] us first second = second
at-append file (t ∷ ts) us first second = (first.0, at-append file ts us first.1 second)

pub at-drop : (file n : ℕ) (ts : List PpToken) → AreIn file ts → AreIn file (drop n ts)
at-drop file zero ts all = all
at-drop file (suc n) [] all = tt
at-drop file (suc n) (t ∷ ts) all = at-drop file n ts all.1

-- THE DEFINES OF A MANIFEST

pub define_line-at : (main : ℕ) (define : List ℕ) (tokens : List PpToken) → AreIn main (define_line main define tokens)
define_line-at main define tokens = (refl, (refl, at-append main (map (at_start main) tokens) (implied_body main define) (starts tokens) (implied (list_any is_equals_sign define))))
  where
    starts : (ts : List PpToken) → AreIn main (map (at_start main) ts)
    starts [] = tt
    starts (t ∷ ts) = (refl, starts ts)

    implied : (b : Bool) → AreIn main (cond b [] (one_token main ∷ []))
    implied true = tt
    implied false = (refl, tt)

-- MACROS

pub gives-in : (In : Place → Type 0) (line : List PpToken) (origin : Origin) (whole : Bool) (definition : Definition) → TokensIn In line → Gives line origin whole definition → TokensIn In definition.body
gives-in In [] origin whole definition all gives = absurd gives
gives-in In (hash ∷ []) origin whole definition all gives = absurd gives
gives-in In (hash ∷ (word ∷ [])) origin whole definition all gives = absurd gives
gives-in In (hash ∷ (word ∷ (name ∷ behind))) origin whole definition all gives = subst (λ (d : Definition). TokensIn In d.body) (sym gives.1) (by (is_function_like behind))
  where
    by : (b : Bool) → TokensIn In (cond b (after_first is_right_parenthesis behind) behind)
    by true = all-drop (λ (t : PpToken). In t.place) _ behind all.1.1.1
    by false = all.1.1.1

pub defines-in : (In : Place → Type 0) (before after : Table) (line : List PpToken) (origin : Origin) (whole : Bool) → DefinitionsIn In before.read → TokensIn In line → Defines before line origin whole after
    → DefinitionsIn In after.read
defines-in In before after line origin whole read all defines =
    subst (λ (t : Table). DefinitionsIn In t.read) (sym defines.4)
    (all-append (λ (one : Definition). TokensIn In one.body) before.read (defines.0 ∷ []) read (gives-in In line origin whole defines.0 all defines.1, tt))

-- CONDITIONS

abbrev ItemIn : (Place → Type 0) → Item → Type 0
ItemIn In (plain one) = In one.place
ItemIn In (defined word name last) = In word.place

parenthesized-in : (In : Place → Type 0) (word first : PpToken) (others : List PpToken) → In word.place → ItemIn In (parenthesized_item word first others).item
parenthesized-in In word first [] stands = stands
parenthesized-in In word first (name ∷ []) stands = stands
parenthesized-in In word first (name ∷ (last ∷ others)) stands = by (is_punctuator left_parenthesis first && is_identifier name && is_punctuator right_parenthesis last)
  where
    by : (b : Bool) → ItemIn In (cond b (measured (defined word name last) 3) (measured (plain word) 0)).item
    by true = stands
    by false = stands

defined-in : (In : Place → Type 0) (word : PpToken) (others : List PpToken) → In word.place → ItemIn In (defined_item word others).item
defined-in In word [] stands = stands
defined-in In word (first ∷ others) stands = by (is_identifier first)
  where
    by : (b : Bool) → ItemIn In (cond b (measured (defined word first first) 1) (parenthesized_item word first others)).item
    by true = stands
    by false = parenthesized-in In word first others stands

first-in : (In : Place → Type 0) (first : PpToken) (others : List PpToken) → In first.place → ItemIn In (first_item first others).item
first-in In first others stands = by (is_defined_word first)
  where
    by : (b : Bool) → ItemIn In (cond b (defined_item first others) (measured (plain first) 0)).item
    by true = defined-in In first others stands
    by false = stands

items-in : (In : Place → Type 0) (skip : ℕ) (tokens : List PpToken) → TokensIn In tokens → AllByRecursion (ItemIn In) (items skip tokens)
unfolding items
items-in In skip [] all = tt
items-in In (suc skip) (one ∷ others) all = items-in In skip others all.1
items-in In zero (one ∷ others) all = (first-in In one others all.0, items-in In (first_item one others).more others all.1)

pub replaced-in : (In : Place → Type 0) (table : Table) (operands : List PpToken) → TokensIn In operands → TokensIn In (replaced table operands)
replaced-in In table operands all = by (items 0 operands) (items-in In 0 operands all)
  where
    by : (found : List Item) → AllByRecursion (ItemIn In) found → TokensIn In (map (token_for table) found)
    by [] all = tt
    by (plain one ∷ found) all = (all.0, by found all.1)
    by (defined word name last ∷ found) all = (all.0, by found all.1)

-- FILES

tokens-at : (file : ℕ) (bytes : List ℕ) (state : LexState) (pieces : List Piece) → AreIn file (tokens_of file bytes state pieces)
unfolding tokens_of
tokens-at file bytes state [] = tt
tokens-at file bytes state (token kind spelling ∷ pieces) = (refl, tokens-at file bytes (state_behind state (token kind spelling)) pieces)
tokens-at file bytes state (blank character ∷ pieces) = tokens-at file bytes (state_behind state (blank character)) pieces
tokens-at file bytes state (comment left ∷ pieces) = tokens-at file bytes (state_behind state (comment left)) pieces

-- the tokens of a file stand in it
pub reading-at : (file : ℕ) (bytes : List ℕ) → AreIn file (result_unwrap_or (reading_of file bytes) [])
unfolding reading_of
reading-at file bytes = by (flat_of file bytes)
  where
    cut : (flat : List Character) (found : ((pieces : List Piece) × Cuts first_state pieces flat) ⊎ ((pieces : List Piece) × (left : List Character) × OpensAt first_state pieces flat left))
        → AreIn file (result_unwrap_or (tokens_or_open file bytes flat found) [])
    cut flat (inl pieces) = tokens-at file bytes first_state pieces.0
    cut flat (inr opening) = tt

    by : (flat : Result (List Character) Refusal) → AreIn file (result_unwrap_or (tokens_of_flat file bytes flat) [])
    by (Ok flat) = cut flat (cut_exists first_state flat)
    by (Err refusal) = tt

-- a part of a file
abbrev pub IsPartAt : ℕ → Part → Type 0
IsPartAt file (directive start behind) = AreIn file (start ∷ behind)
IsPartAt file (text tokens) = AreIn file tokens

lines-at : (file : ℕ) (tokens : List PpToken) → AreIn file tokens → AllByRecursion (AreIn file) (lines_of tokens)
unfolding lines_of
lines-at file [] all = tt
lines-at file (t ∷ ts) all = by (is_line_start ts) (lines_of ts) (lines-at file ts all.1)
  where
    joined : (lines : List (List PpToken)) → AllByRecursion (AreIn file) lines → AllByRecursion (AreIn file) (in_first_line t lines)
    joined [] are = ((all.0, tt), tt)
    joined (line ∷ lines) are = ((all.0, are.0), are.1)

    by : (b : Bool) (lines : List (List PpToken)) → AllByRecursion (AreIn file) lines → AllByRecursion (AreIn file) (cond b ((t ∷ []) ∷ lines) (in_first_line t lines))
    by true lines are = ((all.0, tt), are)
    by false lines are = joined lines are

with_text-at : (file : ℕ) (line : List PpToken) (parts : List Part) → AreIn file line → AllByRecursion (IsPartAt file) parts → AllByRecursion (IsPartAt file) (with_text line parts)
with_text-at file line [] all parts = (all, tt)
with_text-at file line (text tokens ∷ parts) all are = (at-append file line tokens all are.0, are.1)
with_text-at file line (directive start behind ∷ parts) all are = (all, are)

parts_in-at : (file : ℕ) (lines : List (List PpToken)) → AllByRecursion (AreIn file) lines → AllByRecursion (IsPartAt file) (parts_in lines)
unfolding parts_in
parts_in-at file [] all = tt
parts_in-at file ([] ∷ lines) all = parts_in-at file lines all.1
parts_in-at file ((t ∷ ts) ∷ lines) all = by (is_hash t) (parts_in lines) (parts_in-at file lines all.1)
  where
    by : (b : Bool) (parts : List Part) → AllByRecursion (IsPartAt file) parts → AllByRecursion (IsPartAt file) (cond b (directive t ts ∷ parts) (with_text (t ∷ ts) parts))
    by true parts are = (all.0, are)
    by false parts are = with_text-at file (t ∷ ts) parts all.0 are

pub parts-at : (file : ℕ) (tokens : List PpToken) → AreIn file tokens → AllByRecursion (IsPartAt file) (parts_of tokens)
unfolding parts_of
parts-at file tokens all = parts_in-at file (lines_of tokens) (lines-at file tokens all)
