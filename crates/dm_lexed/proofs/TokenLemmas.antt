-- The parts of a file whose identifiers are words, and the bodies of the macros that it defines (6.10, 6.10.3).
use Rattle.std.proofs.Common.{ℕ, zero, suc, Bool, true, false, cond, List, [], ◌∷◌, drop, map, refl, sym, subst}
use Rattle.std.specs.List.{AllByRecursion, after_first, list_any}
use Rattle.dm_token.specs.declared.token.PpToken.{PpToken}
use Rattle.dm_token.specs.declared.expansion.Definition.{Definition}
use Rattle.dm_token.specs.declared.expansion.Origin.{Origin}
use Rattle.dm_macro.specs.Signs.{is_hash, is_right_parenthesis}
use Rattle.dm_macro.specs.Forms.{Gives, is_function_like}
use Rattle.dm_macro.specs.Tables.{Table, Defines}
use Rattle.dm_lex.specs.Classes.{is_identifier, is_nondigit, is_word, behind}
use Rattle.dm_unit.specs.Definitions.{at_start, one_token, implied_body, is_equals_sign, define_line}
use Rattle.dm_unit.specs.Lines.{Part, directive, text, lines_of, in_first_line, is_line_start, parts_in, parts_of, with_text}
use Rattle.dm_lexed.specs.Words.{FitsKind}
use Rattle.dm_lexed.proofs.WordLemmas.{TokensFit}
use Rattle.dm_lexed.proofs.ExpansionLemmas.{DefinitionsFit, all-append}

abbrev Fits : PpToken → Type 0
Fits one = FitsKind one.kind one.spelling

-- THE PARTS OF A FILE

abbrev pub PartFits : Part → Type 0
PartFits (directive start behind) = TokensFit (start ∷ behind)
PartFits (text tokens) = TokensFit tokens

lines-fit : (tokens : List PpToken) → TokensFit tokens → AllByRecursion TokensFit (lines_of tokens)
unfolding lines_of
lines-fit [] all = tt
lines-fit (t ∷ ts) all = by (is_line_start ts) (lines_of ts) (lines-fit ts all.1)
  where
    joined : (lines : List (List PpToken)) → AllByRecursion TokensFit lines → AllByRecursion TokensFit (in_first_line t lines)
    joined [] are = ((all.0, tt), tt)
    joined (line ∷ lines) are = ((all.0, are.0), are.1)

    by : (b : Bool) (lines : List (List PpToken)) → AllByRecursion TokensFit lines → AllByRecursion TokensFit (cond b ((t ∷ []) ∷ lines) (in_first_line t lines))
    by true lines are = ((all.0, tt), are)
    by false lines are = joined lines are

with_text-fits : (line : List PpToken) (parts : List Part) → TokensFit line → AllByRecursion PartFits parts → AllByRecursion PartFits (with_text line parts)
with_text-fits line [] all parts = (all, tt)
with_text-fits line (text tokens ∷ parts) all are = (all-append Fits line tokens all are.0, are.1)
with_text-fits line (directive start behind ∷ parts) all are = (all, are)

parts_in-fit : (lines : List (List PpToken)) → AllByRecursion TokensFit lines → AllByRecursion PartFits (parts_in lines)
unfolding parts_in
parts_in-fit [] all = tt
parts_in-fit ([] ∷ lines) all = parts_in-fit lines all.1
parts_in-fit ((t ∷ ts) ∷ lines) all = by (is_hash t) (parts_in lines) (parts_in-fit lines all.1)
  where
    by : (b : Bool) (parts : List Part) → AllByRecursion PartFits parts → AllByRecursion PartFits (cond b (directive t ts ∷ parts) (with_text (t ∷ ts) parts))
    by true parts are = (all.0, are)
    by false parts are = with_text-fits (t ∷ ts) parts all.0 are

pub parts-fit : (tokens : List PpToken) → TokensFit tokens → AllByRecursion PartFits (parts_of tokens)
unfolding parts_of
parts-fit tokens all = parts_in-fit (lines_of tokens) (lines-fit tokens all)

-- MACROS

all-drop : (n : ℕ) (tokens : List PpToken) → TokensFit tokens → TokensFit (drop n tokens)
all-drop zero tokens all = all
all-drop (suc n) [] all = tt
all-drop (suc n) (t ∷ ts) all = all-drop n ts all.1

gives-fits : (line : List PpToken) (origin : Origin) (whole : Bool) (definition : Definition) → TokensFit line → Gives line origin whole definition → TokensFit definition.body
gives-fits [] origin whole definition all gives = absurd gives
gives-fits (hash ∷ []) origin whole definition all gives = absurd gives
gives-fits (hash ∷ (word ∷ [])) origin whole definition all gives = absurd gives
gives-fits (hash ∷ (word ∷ (name ∷ behind))) origin whole definition all gives = subst (λ (d : Definition). TokensFit d.body) (sym gives.1) (by (is_function_like behind))
  where
    by : (b : Bool) → TokensFit (cond b (after_first is_right_parenthesis behind) behind)
    by true = all-drop _ behind all.1.1.1
    by false = all.1.1.1

pub defines-fit : (before after : Table) (line : List PpToken) (origin : Origin) (whole : Bool) → DefinitionsFit before.read → TokensFit line → Defines before line origin whole after → DefinitionsFit after.read
defines-fit before after line origin whole read all defines =
    subst (λ (t : Table). DefinitionsFit t.read) (sym defines.4)
    (all-append (λ (one : Definition). TokensFit one.body) before.read (defines.0 ∷ []) read (gives-fits line origin whole defines.0 all defines.1, tt))

-- THE DEFINES OF A MANIFEST

pub define_line-fits : (main : ℕ) (define : List ℕ) (tokens : List PpToken) → TokensFit tokens → TokensFit (define_line main define tokens)
unfolding is_identifier is_nondigit is_word behind
define_line-fits main define tokens all =
    (tt, (refl, all-append Fits (map (at_start main) tokens) (implied_body main define) (starts tokens all) (implied (list_any is_equals_sign define))))
  where
    starts : (ts : List PpToken) → TokensFit ts → TokensFit (map (at_start main) ts)
    starts [] all = tt
    starts (t ∷ ts) all = (all.0, starts ts all.1)

    implied : (b : Bool) → TokensFit (cond b [] (one_token main ∷ []))
    implied true = tt
    implied false = (tt, tt)
