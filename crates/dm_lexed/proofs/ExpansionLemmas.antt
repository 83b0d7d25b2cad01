-- What an expansion makes of words and of macros whose bodies have words has words (6.10.3).
use Rattle.std.proofs.Common.{ℕ, zero, suc, ◌-◌, Bool, true, false, cond, ◌&&◌, ◌||◌, List, [], ◌∷◌, ◌++◌, length, map, Option, Some, None, Result, Ok, Err, IfSome, IfOk}
use Rattle.std.specs.Prelude.{option_and_then, codes, nat_lt, slice_get, slice_index_or, ◌==◌}
use Rattle.std.specs.List.{AllByRecursion, list_any}
use Rattle.std.specs.FinSet as set
use Rattle.std.specs.Fmt.{decimal}
use Rattle.dm_token.specs.declared.place.Place.{Place}
use Rattle.dm_token.specs.declared.stop.Stop.{Stop}
use Rattle.dm_token.specs.declared.token.PpKind.{PpKind}
use Rattle.dm_token.specs.declared.token.PpKind.TheVariants.{Number, Literal}
use Rattle.dm_token.specs.declared.token.PpToken.{PpToken}
use Rattle.dm_token.specs.declared.token.Token.{Token}
use Rattle.dm_token.specs.declared.expansion.Definition.{Definition}
use Rattle.dm_macro.specs.Bodies.{Part, plain, hash, beside, whole, paste, part_of, other_part, parameter_part, token_part, parts_behind, parts_of, places_of, parameter_of, parameters_of, is_last, is_first, first_parameter, named_parameters}
use Rattle.dm_macro.specs.Signs.{is_hash, is_hash_hash, is_identifier, is_word}
use Rattle.dm_macro.specs.Tables.{number_of}
use Rattle.dm_lex.specs.Classes.{class_of}
use Rattle.dm_expand.specs.HideSets.{HiddenNumbers}
use Rattle.dm_expand.specs.Items.{Item, of_source, with_blank, first_with_blank}
use Rattle.dm_expand.specs.Steps.{Progress, Output, ◌>>=◌, greatest_work, at_start, begin, spend}
use Rattle.dm_expand.specs.Arguments.{Enclosed, enclosed_in, inside_too, in_first, separated, separates, exact_arguments, variadic_arguments, arguments_of, opens, closes, depth_behind}
use Rattle.dm_expand.specs.Pastes.{Site, Piece, token, placemarker, operator, made, joined_as, joined_tokens, joined_with, joined, piece_before, pasted_behind, pasted, tokens_of}
use Rattle.dm_expand.specs.Predefined.{root_of, in_place_of, file_literal, predefined}
use Rattle.dm_expand.specs.Substitution.{Expander, Filled, argument_for, body_item, argument_item, placed, operands, filled, filled_all, is_operator, hidden_besides, finished, substituted}
use Rattle.dm_expand.specs.Expansion.{Macros, Macro, numbered, macro_of, Invocation, Head, put, replace, refuse, with_arguments, enclosing, function_like, object_like, invoked, head_by, head_of, token_before, site_of, replaced, by_case, scanned, expanded_within, expanded, Answer, token_of, answer_of, expansion_of}
use Rattle.dm_lexed.specs.Words.{FitsKind, ArePpWords}
use Rattle.dm_lexed.proofs.WordLemmas.{TokensFit, class-fits}

-- LISTS

pub all-append : {A : Type 0} (P : A → Type 0) (xs ys : List A) → AllByRecursion P xs → AllByRecursion P ys → AllByRecursion P (xs ++ ys)
all-append P [] ys first second = second
all-append P (x ∷ xs) ys first second = (first.0, all-append P xs ys first.1 second)

all-map : {A B : Type 0} (P : A → Type 0) (Q : B → Type 0) (f : A → B) (xs : List A) → ((x : A) → P x → Q (f x)) → AllByRecursion P xs → AllByRecursion Q (map f xs)
all-map P Q f [] each all = tt
all-map P Q f (x ∷ xs) each all = (each x all.0, all-map P Q f xs each all.1)

all-at : {A : Type 0} (P : A → Type 0) (xs : List A) (i : ℕ) → AllByRecursion P xs → IfSome (slice_get xs i) P
all-at P [] i all = tt
all-at P (x ∷ xs) zero all = all.0
all-at P (x ∷ xs) (suc i) all = all-at P xs i all.1

some-then : {A B : Type 0} (P : A → Type 0) (Q : B → Type 0) (next : A → Option B) (o : Option A) → IfSome o P → ((x : A) → P x → IfSome (next x) Q) → IfSome (option_and_then next o) Q
some-then P Q next None has then = tt
some-then P Q next (Some x) has then = then x has

ok-then : {A B : Type 0} (P : A → Type 0) (Q : B → Type 0) (r : Result A Stop) (next : A → Result B Stop) → IfOk r P → ((x : A) → P x → IfOk (next x) Q) → IfOk (r >>= next) Q
ok-then P Q (Ok x) next has then = then x has
ok-then P Q (Err stop) next has then = tt

abbrev Any : {A : Type 0} → A → Type 0
Any x = Unit {0}

any-ok : {A : Type 0} (r : Result A Stop) → IfOk r Any
any-ok (Ok x) = tt
any-ok (Err stop) = tt

any-some : {A : Type 0} (o : Option A) → IfSome o Any
any-some None = tt
any-some (Some x) = tt

-- WHAT FITS

abbrev pub DefinitionsFit : List Definition → Type 0
DefinitionsFit read = AllByRecursion (λ (one : Definition). TokensFit one.body) read

abbrev ItemFits : Item → Type 0
ItemFits item = FitsKind item.pp.kind item.pp.spelling

abbrev ItemsFit : List Item → Type 0
ItemsFit items = AllByRecursion ItemFits items

abbrev OutputFits : Output → Type 0
OutputFits output = ItemsFit output.tokens

abbrev PieceFits : Piece → Type 0
PieceFits (token item) = ItemFits item
PieceFits (placemarker blank) = Unit {0}
PieceFits (operator item) = ItemFits item

abbrev PiecesFit : List Piece → Type 0
PiecesFit pieces = AllByRecursion PieceFits pieces

abbrev FilledFits : Filled → Type 0
FilledFits given = PiecesFit given.pieces

abbrev Fits : PpToken → Type 0
Fits pp = FitsKind pp.kind pp.spelling

abbrev PartFits : Part → Type 0
PartFits (plain pp) = Fits pp
PartFits (hash pp parameter) = Unit {0}
PartFits (beside pp parameter occurrence) = Unit {0}
PartFits (whole pp parameter occurrence) = Unit {0}
PartFits (paste pp) = Fits pp

abbrev PartsFit : List Part → Type 0
PartsFit parts = AllByRecursion PartFits parts

abbrev ArgumentsFit : List (List Item) → Type 0
ArgumentsFit arguments = AllByRecursion ItemsFit arguments

-- PIECES

blank-fits : (blank : Bool) (items : List Item) → ItemsFit items → ItemsFit (first_with_blank blank items)
unfolding first_with_blank with_blank
blank-fits blank [] all = tt
blank-fits blank (item ∷ items) all = (all.0, all.1)

argument_for-fits : (site : Site) (parameter : ℕ) → ArgumentsFit site.arguments → ItemsFit (argument_for site parameter)
unfolding argument_for
argument_for-fits site parameter all = by site.arguments parameter all
  where
    by : (arguments : List (List Item)) (n : ℕ) → ArgumentsFit arguments → ItemsFit (slice_index_or arguments n [])
    by [] n all = tt
    by (items ∷ arguments) zero all = all.0
    by (items ∷ arguments) (suc n) all = by arguments n all.1

placed-fits : (site : Site) (pp : PpToken) (parameter occurrence : ℕ) (items : List Item) → ItemsFit items → ItemsFit (placed site pp parameter occurrence items)
unfolding placed argument_item
placed-fits site pp parameter occurrence items all = blank-fits pp.blank_before _ (all-map ItemFits ItemFits (argument_item site parameter occurrence) items (λ item fits. fits) all)

tokens-fit : (items : List Item) → ItemsFit items → PiecesFit (map token items)
tokens-fit items all = all-map ItemFits PieceFits token items (λ item fits. fits) all

operands-fit : (blank : Bool) (items : List Item) → ItemsFit items → PiecesFit (operands blank items)
unfolding operands
operands-fit blank [] all = (tt, tt)
operands-fit blank (item ∷ items) all = tokens-fit (item ∷ items) all

-- PASTES (6.10.3.3)

joined_tokens-fits : (site : Site) (left right : Item) → IfOk (joined_tokens site left right) PieceFits
unfolding joined_tokens joined_as made
joined_tokens-fits site left right = by (class_of (left.pp.spelling ++ right.pp.spelling)) (class-fits (left.pp.spelling ++ right.pp.spelling))
  where
    by : (o : Option PpKind) → IfSome o (λ (kind : PpKind). FitsKind kind (left.pp.spelling ++ right.pp.spelling)) → IfOk (joined_as site left right o) PieceFits
    by (Some kind) fits = fits
    by None fits = tt

joined_with-fits : (site : Site) (left : Item) (right : Piece) → ItemFits left → IfOk (joined_with site left right) PieceFits
unfolding joined_with made
joined_with-fits site left (placemarker blank) first = first
joined_with-fits site left (token right) first = joined_tokens-fits site left right
joined_with-fits site left (operator right) first = joined_tokens-fits site left right

joined-fits : (site : Site) (left right : Piece) → PieceFits left → PieceFits right → IfOk (joined site left right) PieceFits
unfolding joined made
joined-fits site (placemarker blank) (placemarker other) first second = tt
joined-fits site (placemarker blank) (token right) first second = second
joined-fits site (placemarker blank) (operator right) first second = second
joined-fits site (token left) right first second = joined_with-fits site left right first
joined-fits site (operator left) right first second = joined_with-fits site left right first

before-fits : (piece : Piece) (r : Result (List Piece) Stop) → PieceFits piece → IfOk r PiecesFit → IfOk (piece_before piece r) PiecesFit
unfolding piece_before
before-fits piece (Ok others) first all = (first, all)
before-fits piece (Err stop) first all = tt

pasted_behind-fits : (site : Site) (left : Piece) (pieces : List Piece) → PieceFits left → PiecesFit pieces → IfOk (pasted_behind site left pieces) PiecesFit
unfolding pasted_behind
pasted_behind-fits site left [] first others = (first, tt)
pasted_behind-fits site left (token right ∷ pieces) first others = before-fits left (pasted_behind site (token right) pieces) first (pasted_behind-fits site (token right) pieces others.0 others.1)
pasted_behind-fits site left (placemarker blank ∷ pieces) first others = before-fits left (pasted_behind site (placemarker blank) pieces) first (pasted_behind-fits site (placemarker blank) pieces tt others.1)
pasted_behind-fits site left (operator item ∷ []) first others = (first, (others.0, tt))
pasted_behind-fits site left (operator item ∷ right ∷ pieces) first others =
    ok-then PieceFits PiecesFit (joined site left right) _ (joined-fits site left right first others.1.0) (λ both fits. pasted_behind-fits site both pieces fits others.1.1)

pasted-fits : (site : Site) (pieces : List Piece) → PiecesFit pieces → IfOk (pasted site pieces) PiecesFit
unfolding pasted
pasted-fits site [] all = tt
pasted-fits site (piece ∷ others) all = pasted_behind-fits site piece others all.0 all.1

tokens_of-fit : (pieces : List Piece) → PiecesFit pieces → ItemsFit (tokens_of pieces)
unfolding tokens_of
tokens_of-fit [] all = tt
tokens_of-fit (token item ∷ pieces) all = (all.0, tokens_of-fit pieces all.1)
tokens_of-fit (placemarker blank ∷ pieces) all = tokens_of-fit pieces all.1
tokens_of-fit (operator item ∷ pieces) all = (all.0, tokens_of-fit pieces all.1)

finished-fits : (site : Site) (hidden : HiddenNumbers) (items : List Item) → ItemsFit items → ItemsFit (finished site hidden items)
unfolding finished hidden_besides
finished-fits site hidden items all = blank-fits site.name.pp.blank_before _ (all-map ItemFits ItemFits (hidden_besides hidden) items (λ item fits. fits) all)

-- PARTS

token_part-fits : (pp : PpToken) (next : Option ℕ) → Fits pp → PartFits (token_part pp next)
unfolding token_part
token_part-fits pp None fits = fits
token_part-fits pp (Some parameter) fits = elim (is_hash pp) as (λ b. PartFits (cond b (hash pp parameter) (plain pp))) [ true ↦ tt | false ↦ fits ]

parameter_part-fits : (names : List (List ℕ)) (before : List PpToken) (pp : PpToken) (behind : List PpToken) (parameter : ℕ) → PartsFit (parameter_part names before pp behind parameter)
unfolding parameter_part
parameter_part-fits names before pp behind parameter = by (is_last is_hash before) (is_last is_hash_hash before || is_first is_hash_hash behind)
  where
    by : (a b : Bool) → PartsFit (cond a [] (cond b (beside pp parameter (places_of names parameter before) ∷ []) (whole pp parameter (places_of names parameter before) ∷ [])))
    by true b = tt
    by false true = (tt, tt)
    by false false = (tt, tt)

other_part-fits : (names : List (List ℕ)) (before : List PpToken) (pp : PpToken) (behind : List PpToken) (mine : Option ℕ) → Fits pp → PartsFit (other_part names before pp behind mine)
unfolding other_part
other_part-fits names before pp behind None fits = (token_part-fits pp (first_parameter names behind) fits, tt)
other_part-fits names before pp behind (Some parameter) fits = parameter_part-fits names before pp behind parameter

part_of-fits : (names : List (List ℕ)) (before : List PpToken) (pp : PpToken) (behind : List PpToken) → Fits pp → PartsFit (part_of names before pp behind)
unfolding part_of
part_of-fits names before pp behind fits =
    elim (is_hash_hash pp) as (λ b. PartsFit (cond b (paste pp ∷ []) (other_part names before pp behind (parameter_of names pp)))) [
      | true ↦ (fits, tt)
      | false ↦ other_part-fits names before pp behind (parameter_of names pp) fits
    ]

parts_behind-fit : (names : List (List ℕ)) (before tokens : List PpToken) → TokensFit tokens → PartsFit (parts_behind names before tokens)
unfolding parts_behind
parts_behind-fit names before [] all = tt
parts_behind-fit names before (pp ∷ behind) all =
    all-append PartFits (part_of names before pp behind) (parts_behind names (before ++ pp ∷ []) behind) (part_of-fits names before pp behind all.0) (parts_behind-fit names (before ++ pp ∷ []) behind all.1)

parts_of-fit : (definition : Definition) → TokensFit definition.body → PartsFit (parts_of definition)
unfolding parts_of
parts_of-fit definition all = parts_behind-fit (parameters_of definition) [] definition.body all

-- ARGUMENTS

record EnclosedFits (enclosed : Enclosed) : Type 0 where
  inside : ItemsFit enclosed.inside
  rest : ItemsFit enclosed.rest

inside_too-fits : (item : Item) (o : Option Enclosed) → ItemFits item → IfSome o EnclosedFits → IfSome (inside_too item o) EnclosedFits
unfolding inside_too
inside_too-fits item None first all = tt
inside_too-fits item (Some enclosed) first all = record { inside = (first, all.inside); rest = all.rest }

enclosed-fits : (depth : ℕ) (items : List Item) → ItemsFit items → IfSome (enclosed_in depth items) EnclosedFits
unfolding enclosed_in
enclosed-fits depth [] all = tt
enclosed-fits depth (item ∷ others) all =
    elim (closes item && (depth == 0)) as (λ b. IfSome (cond b (Some (record { inside = []; closing = item; rest = others })) (inside_too item (enclosed_in (depth_behind depth item) others))) EnclosedFits) [
      | true ↦ record { inside = tt; rest = all.1 }
      | false ↦ inside_too-fits item (enclosed_in (depth_behind depth item) others) all.0 (enclosed-fits (depth_behind depth item) others all.1)
    ]

in_first-fits : (item : Item) (arguments : List (List Item)) → ItemFits item → ArgumentsFit arguments → ArgumentsFit (in_first item arguments)
unfolding in_first
in_first-fits item [] first all = ((first, tt), tt)
in_first-fits item (argument ∷ arguments) first all = ((first, all.0), all.1)

separated-fits : (commas depth : ℕ) (items : List Item) → ItemsFit items → ArgumentsFit (separated commas depth items)
unfolding separated
separated-fits commas depth [] all = (tt, tt)
separated-fits commas depth (item ∷ others) all =
    elim (separates item && (depth == 0) && nat_lt 0 commas) as (λ b. ArgumentsFit (cond b ([] ∷ separated (commas - 1) depth others) (in_first item (separated commas (depth_behind depth item) others)))) [
      | true ↦ (tt, separated-fits (commas - 1) depth others all.1)
      | false ↦ in_first-fits item (separated commas (depth_behind depth item) others) all.0 (separated-fits commas (depth_behind depth item) others all.1)
    ]

exact-fits : (count : ℕ) (given : List (List Item)) → ArgumentsFit given → IfSome (exact_arguments count given) ArgumentsFit
unfolding exact_arguments
exact-fits zero [] all = tt
exact-fits zero ([] ∷ []) all = tt
exact-fits zero ((item ∷ items) ∷ []) all = tt
exact-fits zero ([] ∷ (next ∷ others)) all = tt
exact-fits zero ((item ∷ items) ∷ (next ∷ others)) all = tt
exact-fits (suc others) given all = elim (length given == suc others) as (λ b. IfSome (cond b (Some given) None) ArgumentsFit) [ true ↦ all | false ↦ tt ]

variadic-fits : (parameters : ℕ) (given : List (List Item)) → ArgumentsFit given → IfSome (variadic_arguments parameters given) ArgumentsFit
unfolding variadic_arguments
variadic-fits parameters given all = by (length given == parameters) (length given == suc parameters)
  where
    by : (a b : Bool) → IfSome (cond a (Some (given ++ [] ∷ [])) (cond b (Some given) None)) ArgumentsFit
    by true b = all-append ItemsFit given ([] ∷ []) all (tt, tt)
    by false true = all
    by false false = tt

arguments-fit : (definition : Definition) (inside : List Item) → ItemsFit inside → IfSome (arguments_of definition inside) ArgumentsFit
unfolding arguments_of
arguments-fit definition inside all =
    let parameters = length (named_parameters definition.parameters) in
    elim definition.variadic as (λ b. IfSome (cond b (variadic_arguments parameters (separated parameters 0 inside)) (exact_arguments parameters (separated parameters 0 inside))) ArgumentsFit) [
      | true ↦ variadic-fits parameters (separated parameters 0 inside) (separated-fits parameters 0 inside all)
      | false ↦ exact-fits parameters (separated parameters 0 inside) (separated-fits parameters 0 inside all)
    ]

-- THE HEAD

abbrev MacroFits : Macro → Type 0
MacroFits macro = TokensFit macro.definition.body

record InvocationFits (invocation : Invocation) : Type 0 where
  macro : MacroFits invocation.macro
  arguments : ArgumentsFit invocation.arguments
  rest : ItemsFit invocation.rest

abbrev HeadFits : Head → Type 0
HeadFits (put item) = ItemFits item
HeadFits (replace invocation) = InvocationFits invocation
HeadFits refuse = Unit {0}

with_arguments-fits : (macro : Macro) (name opening : Item) (enclosed : Enclosed) (o : Option (List (List Item))) → MacroFits macro → EnclosedFits enclosed → IfSome o ArgumentsFit
    → HeadFits (with_arguments macro name opening enclosed o)
unfolding with_arguments
with_arguments-fits macro name opening enclosed None body all arguments = tt
with_arguments-fits macro name opening enclosed (Some given) body all arguments = record { macro = body; arguments = arguments; rest = all.rest }

enclosing-fits : (macro : Macro) (name opening : Item) (o : Option Enclosed) → MacroFits macro → IfSome o EnclosedFits → HeadFits (enclosing macro name opening o)
unfolding enclosing
enclosing-fits macro name opening None body all = tt
enclosing-fits macro name opening (Some enclosed) body all =
    with_arguments-fits macro name opening enclosed (arguments_of macro.definition enclosed.inside) body all (arguments-fit macro.definition enclosed.inside all.inside)

function_like-fits : (macro : Macro) (name : Item) (rest : List Item) → MacroFits macro → ItemFits name → ItemsFit rest → HeadFits (function_like macro name rest)
unfolding function_like
function_like-fits macro name [] body first all = first
function_like-fits macro name (next ∷ others) body first all =
    elim (opens next) as (λ b. HeadFits (cond b (enclosing macro name next (enclosed_in 0 others)) (put name))) [
      | true ↦ enclosing-fits macro name next (enclosed_in 0 others) body (enclosed-fits 0 others all.1)
      | false ↦ first
    ]

invoked-fits : (macro : Macro) (o : Option (List (List ℕ))) (name : Item) (rest : List Item) → MacroFits macro → ItemFits name → ItemsFit rest → HeadFits (invoked macro o name rest)
unfolding invoked object_like
invoked-fits macro None name rest body first all = record { macro = body; arguments = tt; rest = all }
invoked-fits macro (Some parameters) name rest body first all = function_like-fits macro name rest body first all

numbered-fits : (read : List Definition) (number : ℕ) → DefinitionsFit read → IfSome (numbered read number) MacroFits
unfolding numbered
numbered-fits read number all = some-then (λ (one : Definition). TokensFit one.body) MacroFits _ (slice_get read number) (all-at (λ (one : Definition). TokensFit one.body) read number all) (λ one fits. fits)

macro_of-fits : (macros : Macros) (pp : PpToken) → DefinitionsFit macros.table.read → IfSome (macro_of macros pp) MacroFits
unfolding macro_of
macro_of-fits macros pp all =
    elim (is_identifier pp) as (λ b. IfSome (cond b (option_and_then (numbered macros.table.read) (number_of macros.table pp.spelling)) None) MacroFits) [
      | true ↦ some-then Any MacroFits (numbered macros.table.read) (number_of macros.table pp.spelling) (any-some (number_of macros.table pp.spelling)) (λ number _. numbered-fits macros.table.read number all)
      | false ↦ tt
    ]

predefined-fits : (names : List (List ℕ)) (root : Place) (item : Item) → ItemFits item → ItemFits (predefined names root item)
unfolding predefined in_place_of
predefined-fits names root item fits =
    by (is_word (codes "__LINE__") item.pp) (is_word (codes "__FILE__") item.pp) (is_word (codes "__STDC__") item.pp) (is_word (codes "__STDC_HOSTED__") item.pp) (is_word (codes "__STDC_VERSION__") item.pp)
  where
    by : (a b c d e : Bool) → ItemFits (cond a (in_place_of item Number (decimal root.line)) (cond b (in_place_of item Literal (file_literal names root)) (cond c (in_place_of item Number (codes "1"))
        (cond d (in_place_of item Number (codes "1")) (cond e (in_place_of item Number (codes "201112L")) item)))))
    by true b c d e = tt
    by false true c d e = tt
    by false false true d e = tt
    by false false false true e = tt
    by false false false false true = tt
    by false false false false false = fits

head-fits : (macros : Macros) (p : Progress) (item : Item) (rest : List Item) → DefinitionsFit macros.table.read → ItemFits item → ItemsFit rest → HeadFits (head_of macros p item rest)
unfolding head_of head_by
head-fits macros p item rest read first all = by (macro_of macros item.pp) (macro_of-fits macros item.pp read)
  where
    by : (o : Option Macro) → IfSome o MacroFits → HeadFits (head_by macros p o item rest)
    by None fits = predefined-fits macros.files (root_of p.expansions item.trail item.pp.place) item first
    by (Some macro) fits =
        elim (set.contains item.hidden macro.number) as (λ b. HeadFits (cond b (put item) (invoked macro macro.definition.parameters item rest))) [
          | true ↦ first
          | false ↦ invoked-fits macro macro.definition.parameters item rest fits first all
        ]

-- EXPANDERS

abbrev Keeps : Expander → Type 0
Keeps one = (items : List Item) (p : Progress) → ItemsFit items → IfOk (one items p) OutputFits

module _ (one : Expander) (keeps : Keeps one) where
  filled-fits : (site : Site) (part : Part) (p : Progress) → ArgumentsFit site.arguments → PartFits part → IfOk (filled one site part p) FilledFits
  unfolding filled body_item made
  filled-fits site (plain pp) p all fits = (fits, tt)
  filled-fits site (hash pp parameter) p all fits = (tt, tt)
  filled-fits site (beside pp parameter occurrence) p all fits =
      operands-fit pp.blank_before _ (placed-fits site pp parameter occurrence (argument_for site parameter) (argument_for-fits site parameter all))
  filled-fits site (whole pp parameter occurrence) p all fits =
      ok-then OutputFits FilledFits (one (argument_for site parameter) p) _ (keeps (argument_for site parameter) p (argument_for-fits site parameter all))
      (λ output given. tokens-fit _ (placed-fits site pp parameter occurrence output.tokens given))
  filled-fits site (paste pp) p all fits = (fits, tt)

  filled_all-fits : (site : Site) (counts : Bool) (parts : List Part) (p : Progress) → ArgumentsFit site.arguments → PartsFit parts → IfOk (filled_all one site counts parts p) FilledFits
  unfolding filled_all
  filled_all-fits site counts [] p all fit = tt
  filled_all-fits site counts (part ∷ parts) p all fit =
      ok-then FilledFits FilledFits (filled one site part p) _ (filled-fits site part p all fit.0)
      (λ given first.
      ok-then Any FilledFits (cond counts (spend site.name.pp.place (length given.pieces) given.progress) (Ok given.progress)) _ (any-ok _)
      (λ q _.
      ok-then FilledFits FilledFits (filled_all one site counts parts q) _ (filled_all-fits site counts parts q all fit.1)
      (λ others second. all-append PieceFits given.pieces others.pieces first second)))

  substituted-fits : (site : Site) (hidden : HiddenNumbers) (parts : List Part) (p : Progress) → ArgumentsFit site.arguments → PartsFit parts → IfOk (substituted one site hidden parts p) OutputFits
  unfolding substituted
  substituted-fits site hidden parts p all fit =
      ok-then FilledFits OutputFits (filled_all one site _ parts p) _ (filled_all-fits site _ parts p all fit)
      (λ given first.
      ok-then PiecesFit OutputFits (pasted site given.pieces) _ (pasted-fits site given.pieces first)
      (λ joined second.
      ok-then Any OutputFits (cond (list_any is_operator parts) (spend site.name.pp.place (length (tokens_of joined)) given.progress) (Ok given.progress)) _ (any-ok _)
      (λ q _. finished-fits site hidden (tokens_of joined) (tokens_of-fit joined second))))

  replaced-fits : (invocation : Invocation) (p : Progress) → InvocationFits invocation → IfOk (replaced one invocation p) OutputFits
  unfolding replaced site_of
  replaced-fits invocation p all =
      ok-then Any OutputFits (begin invocation.macro.number invocation.name invocation.foreign p) _ (any-ok _)
      (λ q _.
      ok-then OutputFits OutputFits (substituted one (site_of invocation p.instance) invocation.hidden (parts_of invocation.macro.definition) q) _
      (substituted-fits (site_of invocation p.instance) invocation.hidden (parts_of invocation.macro.definition) q all.arguments (parts_of-fit invocation.macro.definition all.macro))
      (λ output second. keeps (output.tokens ++ invocation.rest) output.progress (all-append ItemFits output.tokens invocation.rest second all.rest)))

  token_before-fits : (item : Item) (r : Result Output Stop) → ItemFits item → IfOk r OutputFits → IfOk (token_before item r) OutputFits
  unfolding token_before
  token_before-fits item (Ok output) first rest = (first, rest)
  token_before-fits item (Err stop) first rest = tt

  case-fits : (item : Item) (p : Progress) (others : Result Output Stop) (head : Head) → HeadFits head → IfOk others OutputFits → IfOk (by_case one item p others head) OutputFits
  unfolding by_case
  case-fits item p others (put out) fits rest = token_before-fits out others fits rest
  case-fits item p others (replace invocation) fits rest = replaced-fits invocation p fits
  case-fits item p others refuse fits rest = tt

  scanned-fits : (macros : Macros) (items : List Item) (p : Progress) → DefinitionsFit macros.table.read → ItemsFit items → IfOk (scanned macros one items p) OutputFits
  unfolding scanned
  scanned-fits macros [] p read all = tt
  scanned-fits macros (item ∷ rest) p read all =
      case-fits item p (scanned macros one rest p) (head_of macros p item rest) (head-fits macros p item rest read all.0 all.1) (scanned-fits macros rest p read all.1)

within-keeps : (macros : Macros) (depth : ℕ) → DefinitionsFit macros.table.read → Keeps (expanded_within macros depth)
unfolding expanded_within
within-keeps macros zero read items p all = tt
within-keeps macros (suc depth) read items p all = scanned-fits (expanded_within macros depth) (within-keeps macros depth read) macros items p read all

abbrev pub AnswerFits : Answer → Type 0
AnswerFits answer = ArePpWords answer.tokens

pub expansion-fits : (macros : Macros) (group : List PpToken) (instance spent : ℕ) → DefinitionsFit macros.table.read → TokensFit group → IfOk (expansion_of macros group instance spent) AnswerFits
unfolding expansion_of expanded at_start of_source answer_of token_of
expansion-fits macros group instance spent read all =
    ok-then OutputFits AnswerFits _ _
    (within-keeps macros (suc (greatest_work - spent)) read (map of_source group) (at_start instance spent) (all-map Fits ItemFits of_source group (λ one fits. fits) all))
    (λ output given. all-map ItemFits (λ (one : Token). FitsKind one.pp.kind one.pp.spelling) token_of output.tokens (λ item fits. fits) given)
