-- Each expansion that a token came through is listed.
--     expansion-listed      where a group of tokens is expanded
use Rattle.std.proofs.Common.{◌≡◌, ℕ, zero, suc, ◌+◌, ◌-◌, Bool, true, false, cond, ◌&&◌, ◌||◌, List, [], ◌∷◌, ◌++◌, length, map, Option, Some, None, Result, Ok, Err, refl, sym, ap, subst, ◌∙◌}
use Rattle.std.specs.Prelude.{IfSome, codes, nat_lt, nat_le, slice_index_or, ◌==◌}
use Rattle.std.specs.List.{AllByRecursion, list_any}
use Rattle.std.specs.FinSet as set
use Rattle.std.specs.Fmt.{decimal}
use Rattle.std.proofs.lemmas.Bool.{eq-eqb}
use Rattle.dm_token.specs.declared.place.Place.{Place}
use Rattle.dm_token.specs.declared.stop.Stop.{Stop}
use Rattle.dm_token.specs.declared.token.PpKind.{PpKind}
use Rattle.dm_token.specs.declared.token.PpKind.TheVariants.{Number, Literal}
use Rattle.dm_token.specs.declared.token.PpToken.{PpToken}
use Rattle.dm_token.specs.declared.token.Token.{Token}
use Rattle.dm_token.specs.declared.expansion.Definition.{Definition}
use Rattle.dm_token.specs.declared.expansion.Expansion as made_of
use Rattle.dm_token.specs.declared.expansion.Mark.{Mark}
use Rattle.dm_token.specs.declared.expansion.Mark.TheVariants.{Expansion, Argument}
use Rattle.dm_macro.specs.Bodies.{Part, plain, hash, beside, whole, paste, parts_of, named_parameters}
use Rattle.dm_macro.specs.Signs.{is_word}
use Rattle.dm_expand.specs.HideSets.{HiddenNumbers}
use Rattle.dm_expand.specs.Items.{Item, of_source, with_blank, first_with_blank}
use Rattle.dm_expand.specs.Steps.{Progress, Output, ◌>>=◌, greatest_work, at_start, too_much, spend, begin, take_argument, taken_by}
use Rattle.dm_expand.specs.Arguments.{Enclosed, enclosed_in, inside_too, in_first, separated, separates, exact_arguments, variadic_arguments, arguments_of, opens, closes, depth_behind}
use Rattle.dm_expand.specs.Pastes.{Site, Piece, token, placemarker, operator, made, joined_as, joined_tokens, joined_with, joined, piece_before, pasted_behind, pasted, tokens_of}
use Rattle.dm_expand.specs.Predefined.{root_of, in_place_of, file_literal, predefined}
use Rattle.dm_expand.specs.Substitution.{Expander, Filled, argument_for, argument_item, body_item, placed, operands, filled, filled_all, is_operator, hidden_besides, finished, substituted}
use Rattle.dm_expand.specs.Trails.{same_mark, past, body_trail, argument_trail}
use Rattle.dm_expand.specs.Expansion.{Macros, Macro, Invocation, Head, put, replace, refuse, macro_of, with_arguments, enclosing, function_like, object_like, invoked, head_by, head_of, token_before, site_of, replaced, by_case, no_arguments, scanned, expanded_within, expanded, token_of, answer_of, expansion_of, Answer}
use Rattle.dm_local.specs.Marks.{is_expansion_with, IsListed, AreListed}
use Rattle.dm_local.proofs.ExpansionLemmas.{all-append}

-- LISTS

all-map : {A B : Type 0} (P : A → Type 0) (Q : B → Type 0) (f : A → B) (xs : List A) → ((x : A) → P x → Q (f x)) → AllByRecursion P xs → AllByRecursion Q (map f xs)
all-map P Q f [] each all = tt
all-map P Q f (x ∷ xs) each all = (each x all.0, all-map P Q f xs each all.1)

all-later : {A : Type 0} (P Q : A → Type 0) (xs : List A) → ((x : A) → P x → Q x) → AllByRecursion P xs → AllByRecursion Q xs
all-later P Q [] each all = tt
all-later P Q (x ∷ xs) each all = (each x all.0, all-later P Q xs each all.1)

or-right : (a b : Bool) → b ≡ true → (a || b) ≡ true
or-right true b e = refl
or-right false b e = e

any-front : {A : Type 0} (test : A → Bool) (xs ys : List A) → list_any test xs ≡ true → list_any test (xs ++ ys) ≡ true
any-front test (x ∷ xs) ys e = by (test x) e (any-front test xs ys)
  where
    by : (b : Bool) → (b || list_any test xs) ≡ true → (list_any test xs ≡ true → list_any test (xs ++ ys) ≡ true) → (b || list_any test (xs ++ ys)) ≡ true
    by true h next = refl
    by false h next = next h
any-front test [] ys e = absurd (false-is e)
  where
    false-is : false ≡ true → ⊥
    false-is h = cc

any-back : {A : Type 0} (test : A → Bool) (xs ys : List A) → list_any test ys ≡ true → list_any test (xs ++ ys) ≡ true
any-back test [] ys e = e
any-back test (x ∷ xs) ys e = or-right (test x) (list_any test (xs ++ ys)) (any-back test xs ys e)

-- EXPANSIONS THAT ARE LISTED STAY LISTED

abbrev pub Covers : List made_of.Expansion → List made_of.Expansion → Type 0
Covers before after = (mark : Mark) → IsListed before mark → IsListed after mark

pub front-covers : (before behind : List made_of.Expansion) → Covers before (before ++ behind)
front-covers before behind (Expansion number instance) h = any-front (is_expansion_with number instance) before behind h
front-covers before behind (Argument parameter occurrence) h = tt

pub back-covers : (before behind : List made_of.Expansion) → Covers behind (before ++ behind)
back-covers before behind (Expansion number instance) h = any-back (is_expansion_with number instance) before behind h
back-covers before behind (Argument parameter occurrence) h = tt

any-taken : (argument : List Item) (number instance : ℕ) (expansions : List made_of.Expansion)
    → list_any (is_expansion_with number instance) (map (taken_by argument) expansions) ≡ list_any (is_expansion_with number instance) expansions
unfolding taken_by
any-taken argument number instance [] = refl
any-taken argument number instance (one ∷ expansions) = ap (λ (b : Bool). is_expansion_with number instance one || b) (any-taken argument number instance expansions)

taken-covers : (argument : List Item) (p : Progress) → Covers p.expansions (take_argument argument p).expansions
unfolding take_argument
taken-covers argument p (Expansion number instance) h = any-taken argument number instance p.expansions ∙ h
taken-covers argument p (Argument parameter occurrence) h = tt

new-listed : (number instance : ℕ) (expansions : List made_of.Expansion) (one : made_of.Expansion) → one.definition ≡ number → one.instance ≡ instance
    → list_any (is_expansion_with number instance) (expansions ++ one ∷ []) ≡ true
new-listed number instance expansions one e f = any-back (is_expansion_with number instance) expansions (one ∷ []) (is (one.definition == number) (one.instance == instance) (eq-eqb one.definition number e) (eq-eqb one.instance instance f))
  where
    is : (a b : Bool) → a ≡ true → b ≡ true → ((a && b) || false) ≡ true
    is a b g h = cc

-- what is answered has a property
abbrev pub Holds : {A : Type 0} → (A → Type 0) → Result A Stop → Type 0
Holds P (Ok answer) = P answer
Holds P (Err stop) = Unit {0}

holds-then : {A B : Type 0} (P : A → Type 0) (Q : B → Type 0) (r : Result A Stop) (next : A → Result B Stop) → Holds P r → ((answer : A) → P answer → Holds Q (next answer)) → Holds Q (r >>= next)
holds-then P Q (Ok answer) next has then = then answer has
holds-then P Q (Err stop) next has then = tt

module _ (E : List made_of.Expansion) where
  abbrev TrailIn : List Mark → Type 0
  TrailIn trail = AllByRecursion (IsListed E) trail

  abbrev ItemIn : Item → Type 0
  ItemIn item = TrailIn item.trail

  abbrev ItemsIn : List Item → Type 0
  ItemsIn items = AllByRecursion ItemIn items

  abbrev PieceIn : Piece → Type 0
  PieceIn (token item) = ItemIn item
  PieceIn (placemarker blank) = Unit {0}
  PieceIn (operator item) = ItemIn item

  abbrev PiecesIn : List Piece → Type 0
  PiecesIn pieces = AllByRecursion PieceIn pieces

  record SiteIn (site : Site) : Type 0 where
    name : ItemIn site.name
    mark : IsListed E site.mark
    arguments : AllByRecursion ItemsIn site.arguments

  -- PIECES

  past-in : (name trail : List Mark) → TrailIn trail → TrailIn (past name trail)
  unfolding past
  past-in [] trail all = all
  past-in (mark ∷ marks) [] all = tt
  past-in (mark ∷ marks) (first ∷ others) all =
      elim (same_mark mark first) as (λ b. TrailIn (cond b (past marks others) (first ∷ others))) [ true ↦ past-in marks others all.1 | false ↦ all ]

  body-in : (site : Site) → SiteIn site → TrailIn (body_trail site.name.trail site.mark)
  unfolding body_trail
  body-in site all = all-append (IsListed E) site.name.trail (site.mark ∷ []) all.name (all.mark, tt)

  blank-in : (blank : Bool) (items : List Item) → ItemsIn items → ItemsIn (first_with_blank blank items)
  unfolding first_with_blank with_blank
  blank-in blank [] all = tt
  blank-in blank (item ∷ items) all = (all.0, all.1)

  argument-in : (arguments : List (List Item)) (parameter : ℕ) → AllByRecursion ItemsIn arguments → ItemsIn (slice_index_or arguments parameter [])
  argument-in [] parameter all = tt
  argument-in (items ∷ arguments) zero all = all.0
  argument-in (items ∷ arguments) (suc parameter) all = argument-in arguments parameter all.1

  argument_for-in : (site : Site) (parameter : ℕ) → SiteIn site → ItemsIn (argument_for site parameter)
  unfolding argument_for
  argument_for-in site parameter all = argument-in site.arguments parameter all.arguments

  argument_item-in : (site : Site) (parameter occurrence : ℕ) (item : Item) → SiteIn site → ItemIn item → ItemIn (argument_item site parameter occurrence item)
  unfolding argument_item argument_trail
  argument_item-in site parameter occurrence item all stands =
      all-append (IsListed E) (body_trail site.name.trail site.mark) (Argument parameter occurrence ∷ past site.name.trail item.trail) (body-in site all) (tt, past-in site.name.trail item.trail stands)

  placed-in : (site : Site) (pp : PpToken) (parameter occurrence : ℕ) (items : List Item) → SiteIn site → ItemsIn items → ItemsIn (placed site pp parameter occurrence items)
  unfolding placed
  placed-in site pp parameter occurrence items site_in all =
      blank-in pp.blank_before _ (all-map ItemIn ItemIn (argument_item site parameter occurrence) items (λ item stands. argument_item-in site parameter occurrence item site_in stands) all)

  tokens-in : (items : List Item) → ItemsIn items → PiecesIn (map token items)
  tokens-in items all = all-map ItemIn PieceIn token items (λ item stands. stands) all

  operands-in : (blank : Bool) (items : List Item) → ItemsIn items → PiecesIn (operands blank items)
  unfolding operands
  operands-in blank [] all = (tt, tt)
  operands-in blank (item ∷ items) all = tokens-in (item ∷ items) all

  -- PASTES

  joined_as-in : (site : Site) (left right : Item) (kind : Option PpKind) → SiteIn site → Holds PieceIn (joined_as site left right kind)
  unfolding joined_as made
  joined_as-in site left right (Some kind) all = body-in site all
  joined_as-in site left right None all = tt

  joined_tokens-in : (site : Site) (left right : Item) → SiteIn site → Holds PieceIn (joined_tokens site left right)
  unfolding joined_tokens
  joined_tokens-in site left right all = joined_as-in site left right _ all

  joined_with-in : (site : Site) (left : Item) (right : Piece) → SiteIn site → Holds PieceIn (joined_with site left right)
  unfolding joined_with made
  joined_with-in site left (placemarker blank) all = body-in site all
  joined_with-in site left (token right) all = joined_tokens-in site left right all
  joined_with-in site left (operator right) all = joined_tokens-in site left right all

  joined-in : (site : Site) (left right : Piece) → SiteIn site → Holds PieceIn (joined site left right)
  unfolding joined made
  joined-in site (placemarker blank) (placemarker other) all = tt
  joined-in site (placemarker blank) (token right) all = body-in site all
  joined-in site (placemarker blank) (operator right) all = body-in site all
  joined-in site (token left) right all = joined_with-in site left right all
  joined-in site (operator left) right all = joined_with-in site left right all

  piece_before-in : (piece : Piece) (r : Result (List Piece) Stop) → PieceIn piece → Holds PiecesIn r → Holds PiecesIn (piece_before piece r)
  unfolding piece_before
  piece_before-in piece (Ok others) first all = (first, all)
  piece_before-in piece (Err stop) first all = tt

  pasted_behind-in : (site : Site) (left : Piece) (pieces : List Piece) → SiteIn site → PieceIn left → PiecesIn pieces → Holds PiecesIn (pasted_behind site left pieces)
  unfolding pasted_behind
  pasted_behind-in site left [] all first others = (first, tt)
  pasted_behind-in site left (token right ∷ pieces) all first others = piece_before-in left (pasted_behind site (token right) pieces) first (pasted_behind-in site (token right) pieces all others.0 others.1)
  pasted_behind-in site left (placemarker blank ∷ pieces) all first others =
      piece_before-in left (pasted_behind site (placemarker blank) pieces) first (pasted_behind-in site (placemarker blank) pieces all tt others.1)
  pasted_behind-in site left (operator item ∷ []) all first others = (first, (others.0, tt))
  pasted_behind-in site left (operator item ∷ right ∷ pieces) all first others =
      holds-then PieceIn PiecesIn (joined site left right) _ (joined-in site left right all) (λ both stands. pasted_behind-in site both pieces all stands others.1.1)

  pasted-in : (site : Site) (pieces : List Piece) → SiteIn site → PiecesIn pieces → Holds PiecesIn (pasted site pieces)
  unfolding pasted
  pasted-in site [] all pieces = tt
  pasted-in site (piece ∷ others) all pieces = pasted_behind-in site piece others all pieces.0 pieces.1

  tokens_of-in : (pieces : List Piece) → PiecesIn pieces → ItemsIn (tokens_of pieces)
  unfolding tokens_of
  tokens_of-in [] all = tt
  tokens_of-in (token item ∷ pieces) all = (all.0, tokens_of-in pieces all.1)
  tokens_of-in (placemarker blank ∷ pieces) all = tokens_of-in pieces all.1
  tokens_of-in (operator item ∷ pieces) all = (all.0, tokens_of-in pieces all.1)

  finished-in : (site : Site) (hidden : HiddenNumbers) (items : List Item) → ItemsIn items → ItemsIn (finished site hidden items)
  unfolding finished hidden_besides
  finished-in site hidden items all = blank-in site.name.pp.blank_before _ (all-map ItemIn ItemIn (hidden_besides hidden) items (λ item stands. stands) all)

  -- ARGUMENTS

  abbrev EnclosedIn : Enclosed → Type 0
  EnclosedIn enclosed = ItemsIn enclosed.inside × ItemIn enclosed.closing × ItemsIn enclosed.rest

  inside_too-in : (item : Item) (o : Option Enclosed) → ItemIn item → IfSome o EnclosedIn → IfSome (inside_too item o) EnclosedIn
  unfolding inside_too
  inside_too-in item None first all = tt
  inside_too-in item (Some enclosed) first all = ((first, all.0), all.1, all.2)

  enclosed-in : (depth : ℕ) (items : List Item) → ItemsIn items → IfSome (enclosed_in depth items) EnclosedIn
  unfolding enclosed_in
  enclosed-in depth [] all = tt
  enclosed-in depth (item ∷ others) all =
      elim (closes item && (depth == 0)) as (λ b. IfSome (cond b (Some (record { inside = []; closing = item; rest = others })) (inside_too item (enclosed_in (depth_behind depth item) others))) EnclosedIn) [
        | true ↦ (tt, all.0, all.1)
        | false ↦ inside_too-in item (enclosed_in (depth_behind depth item) others) all.0 (enclosed-in (depth_behind depth item) others all.1)
      ]

  in_first-in : (item : Item) (arguments : List (List Item)) → ItemIn item → AllByRecursion ItemsIn arguments → AllByRecursion ItemsIn (in_first item arguments)
  unfolding in_first
  in_first-in item [] first all = ((first, tt), tt)
  in_first-in item (argument ∷ arguments) first all = ((first, all.0), all.1)

  separated-in : (commas depth : ℕ) (items : List Item) → ItemsIn items → AllByRecursion ItemsIn (separated commas depth items)
  unfolding separated
  separated-in commas depth [] all = (tt, tt)
  separated-in commas depth (item ∷ others) all =
      elim (separates item && (depth == 0) && nat_lt 0 commas) as (λ b. AllByRecursion ItemsIn (cond b ([] ∷ separated (commas - 1) depth others) (in_first item (separated commas (depth_behind depth item) others)))) [
        | true ↦ (tt, separated-in (commas - 1) depth others all.1)
        | false ↦ in_first-in item (separated commas (depth_behind depth item) others) all.0 (separated-in commas (depth_behind depth item) others all.1)
      ]

  exact-in : (count : ℕ) (given : List (List Item)) → AllByRecursion ItemsIn given → IfSome (exact_arguments count given) (AllByRecursion ItemsIn)
  unfolding exact_arguments
  exact-in zero [] all = tt
  exact-in zero ([] ∷ []) all = tt
  exact-in zero ((item ∷ items) ∷ []) all = tt
  exact-in zero ([] ∷ (next ∷ others)) all = tt
  exact-in zero ((item ∷ items) ∷ (next ∷ others)) all = tt
  exact-in (suc others) given all = elim (length given == suc others) as (λ b. IfSome (cond b (Some given) None) (AllByRecursion ItemsIn)) [ true ↦ all | false ↦ tt ]

  variadic-in : (parameters : ℕ) (given : List (List Item)) → AllByRecursion ItemsIn given → IfSome (variadic_arguments parameters given) (AllByRecursion ItemsIn)
  unfolding variadic_arguments
  variadic-in parameters given all = by (length given == parameters) (length given == suc parameters)
    where
      by : (a b : Bool) → IfSome (cond a (Some (given ++ [] ∷ [])) (cond b (Some given) None)) (AllByRecursion ItemsIn)
      by true b = all-append ItemsIn given ([] ∷ []) all (tt, tt)
      by false true = all
      by false false = tt

  arguments-in : (definition : Definition) (inside : List Item) → ItemsIn inside → IfSome (arguments_of definition inside) (AllByRecursion ItemsIn)
  unfolding arguments_of
  arguments-in definition inside all =
      let parameters = length (named_parameters definition.parameters) in
      elim definition.variadic as (λ b. IfSome (cond b (variadic_arguments parameters (separated parameters 0 inside)) (exact_arguments parameters (separated parameters 0 inside))) (AllByRecursion ItemsIn)) [
        | true ↦ variadic-in parameters (separated parameters 0 inside) (separated-in parameters 0 inside all)
        | false ↦ exact-in parameters (separated parameters 0 inside) (separated-in parameters 0 inside all)
      ]

  -- THE HEAD

  record InvocationIn (invocation : Invocation) : Type 0 where
    name : ItemIn invocation.name
    arguments : AllByRecursion ItemsIn invocation.arguments
    rest : ItemsIn invocation.rest

  abbrev HeadIn : Head → Type 0
  HeadIn (put item) = ItemIn item
  HeadIn (replace invocation) = InvocationIn invocation
  HeadIn refuse = Unit {0}

  with_arguments-in : (macro : Macro) (name opening : Item) (enclosed : Enclosed) (o : Option (List (List Item))) → ItemIn name → EnclosedIn enclosed → IfSome o (AllByRecursion ItemsIn)
      → HeadIn (with_arguments macro name opening enclosed o)
  unfolding with_arguments
  with_arguments-in macro name opening enclosed None first all arguments = tt
  with_arguments-in macro name opening enclosed (Some given) first all arguments = record { name = first; arguments = arguments; rest = all.2 }

  enclosing-in : (macro : Macro) (name opening : Item) (o : Option Enclosed) → ItemIn name → IfSome o EnclosedIn → HeadIn (enclosing macro name opening o)
  unfolding enclosing
  enclosing-in macro name opening None first all = tt
  enclosing-in macro name opening (Some enclosed) first all =
      with_arguments-in macro name opening enclosed (arguments_of macro.definition enclosed.inside) first all (arguments-in macro.definition enclosed.inside all.0)

  function_like-in : (macro : Macro) (name : Item) (rest : List Item) → ItemIn name → ItemsIn rest → HeadIn (function_like macro name rest)
  unfolding function_like
  function_like-in macro name [] first all = first
  function_like-in macro name (next ∷ others) first all =
      elim (opens next) as (λ b. HeadIn (cond b (enclosing macro name next (enclosed_in 0 others)) (put name))) [
        | true ↦ enclosing-in macro name next (enclosed_in 0 others) first (enclosed-in 0 others all.1)
        | false ↦ first
      ]

  invoked-in : (macro : Macro) (o : Option (List (List ℕ))) (name : Item) (rest : List Item) → ItemIn name → ItemsIn rest → HeadIn (invoked macro o name rest)
  unfolding invoked object_like
  invoked-in macro None name rest first all = record { name = first; arguments = tt; rest = all }
  invoked-in macro (Some parameters) name rest first all = function_like-in macro name rest first all

  predefined-in : (names : List (List ℕ)) (root : Place) (item : Item) → ItemIn item → ItemIn (predefined names root item)
  unfolding predefined in_place_of
  predefined-in names root item stands =
      by (is_word (codes "__LINE__") item.pp) (is_word (codes "__FILE__") item.pp) (is_word (codes "__STDC__") item.pp) (is_word (codes "__STDC_HOSTED__") item.pp) (is_word (codes "__STDC_VERSION__") item.pp)
    where
      by : (a b c d e : Bool) → ItemIn (cond a (in_place_of item Number (decimal root.line)) (cond b (in_place_of item Literal (file_literal names root)) (cond c (in_place_of item Number (codes "1"))
          (cond d (in_place_of item Number (codes "1")) (cond e (in_place_of item Number (codes "201112L")) item)))))
      by true b c d e = stands
      by false true c d e = stands
      by false false true d e = stands
      by false false false true e = stands
      by false false false false true = stands
      by false false false false false = stands

  head-in : (macros : Macros) (p : Progress) (item : Item) (rest : List Item) → ItemIn item → ItemsIn rest → HeadIn (head_of macros p item rest)
  unfolding head_of head_by
  head-in macros p item rest first all = by (macro_of macros item.pp)
    where
      by : (o : Option Macro) → HeadIn (head_by macros p o item rest)
      by None = predefined-in macros.files (root_of p.expansions item.trail item.pp.place) item first
      by (Some macro) =
          elim (set.contains item.hidden macro.number) as (λ b. HeadIn (cond b (put item) (invoked macro macro.definition.parameters item rest))) [
            | true ↦ first
            | false ↦ invoked-in macro macro.definition.parameters item rest first all
          ]

-- WITH MORE EXPANSIONS

module _ (E F : List made_of.Expansion) (more : Covers E F) where
  item-later : (item : Item) → ItemIn E item → ItemIn F item
  item-later item all = all-later (IsListed E) (IsListed F) item.trail more all

  items-later : (items : List Item) → ItemsIn E items → ItemsIn F items
  items-later items all = all-later (ItemIn E) (ItemIn F) items item-later all

  piece-later : (piece : Piece) → PieceIn E piece → PieceIn F piece
  piece-later (token item) all = item-later item all
  piece-later (placemarker blank) all = tt
  piece-later (operator item) all = item-later item all

  pieces-later : (pieces : List Piece) → PiecesIn E pieces → PiecesIn F pieces
  pieces-later pieces all = all-later (PieceIn E) (PieceIn F) pieces piece-later all

  site-later : (site : Site) → SiteIn E site → SiteIn F site
  site-later site all = record { name = item-later site.name all.name; mark = more site.mark all.mark; arguments = all-later (ItemsIn E) (ItemsIn F) site.arguments items-later all.arguments }

  pub listed-later : (tokens : List Token) → AreListed E tokens → AreListed F tokens
  listed-later tokens all = all-later (λ (one : Token). AllByRecursion (IsListed E) one.trail) (λ (one : Token). AllByRecursion (IsListed F) one.trail) tokens (λ one h. all-later (IsListed E) (IsListed F) one.trail more h) all

-- PROGRESS

abbrev Extends : Progress → Progress → Type 0
Extends p q = Covers p.expansions q.expansions

abbrev OutputIn : Progress → Output → Type 0
OutputIn p output = Extends p output.progress × ItemsIn output.progress.expansions output.tokens

abbrev FilledIn : Progress → Filled → Type 0
FilledIn p given = Extends p given.progress × PiecesIn given.progress.expansions given.pieces

abbrev SpentIn : Progress → Progress → Type 0
SpentIn p q = (q.expansions ≡ p.expansions) × (q.instance ≡ p.instance)

spend-in : (place : Place) (work : ℕ) (p : Progress) → Holds (SpentIn p) (spend place work p)
unfolding spend too_much
spend-in place work p =
    elim (nat_le (p.spent + work) greatest_work) as (λ b. Holds (SpentIn p) (cond b (Ok (record p { spent = p.spent + work })) (Err (too_much place)))) [ true ↦ (refl, refl) | false ↦ tt ]

counts-in : (counts : Bool) (place : Place) (work : ℕ) (p : Progress) → Holds (SpentIn p) (cond counts (spend place work p) (Ok p))
counts-in true place work p = spend-in place work p
counts-in false place work p = (refl, refl)

same-extends : (p q : Progress) → SpentIn p q → Extends p q
same-extends p q same mark h = subst (λ (expansions : List made_of.Expansion). IsListed expansions mark) (sym same.0) h

begin-in : (definition : ℕ) (name : Item) (foreign : Bool) (p : Progress) → Holds (λ q. Extends p q × IsListed q.expansions (Expansion definition p.instance)) (begin definition name foreign p)
unfolding begin
begin-in definition name foreign p =
    holds-then (SpentIn p) (λ q. Extends p q × IsListed q.expansions (Expansion definition p.instance)) (spend name.pp.place 1 p) _ (spend-in name.pp.place 1 p)
    (λ q same. (λ mark h. front-covers q.expansions _ mark (same-extends p q same mark h), new-listed definition p.instance q.expansions _ refl same.1))

abbrev Works : Expander → Type 0
Works expander = (items : List Item) (p : Progress) → ItemsIn p.expansions items → Holds (OutputIn p) (expander items p)

module _ (expander : Expander) (works : Works expander) where
  filled-in : (site : Site) (part : Part) (p : Progress) → SiteIn p.expansions site → Holds (FilledIn p) (filled expander site part p)
  unfolding filled body_item made
  filled-in site (plain pp) p all = (λ mark h. h, (body-in p.expansions site all, tt))
  filled-in site (hash pp parameter) p all =
      let covers = taken-covers (argument_for site parameter) p in
      (covers, (body-in (take_argument (argument_for site parameter) p).expansions site (site-later p.expansions (take_argument (argument_for site parameter) p).expansions covers site all), tt))
  filled-in site (beside pp parameter occurrence) p all =
      let covers = taken-covers (argument_for site parameter) p in
      let items = placed-in p.expansions site pp parameter occurrence (argument_for site parameter) all (argument_for-in p.expansions site parameter all) in
      (covers, pieces-later p.expansions (take_argument (argument_for site parameter) p).expansions covers _ (operands-in p.expansions pp.blank_before _ items))
  filled-in site (whole pp parameter occurrence) p all =
      holds-then (OutputIn p) (FilledIn p) (expander (argument_for site parameter) p) _ (works (argument_for site parameter) p (argument_for-in p.expansions site parameter all))
      (λ output given.
      (given.0, tokens-in output.progress.expansions _ (placed-in output.progress.expansions site pp parameter occurrence output.tokens (site-later p.expansions output.progress.expansions given.0 site all) given.1)))
  filled-in site (paste pp) p all = (λ mark h. h, (body-in p.expansions site all, tt))

  filled_all-in : (site : Site) (counts : Bool) (parts : List Part) (p : Progress) → SiteIn p.expansions site → Holds (FilledIn p) (filled_all expander site counts parts p)
  unfolding filled_all
  filled_all-in site counts [] p all = (λ mark h. h, tt)
  filled_all-in site counts (part ∷ parts) p all =
      holds-then (FilledIn p) (FilledIn p) (filled expander site part p) _ (filled-in site part p all)
      (λ given first.
      holds-then (SpentIn given.progress) (FilledIn p) (cond counts (spend site.name.pp.place (length given.pieces) given.progress) (Ok given.progress)) _
      (counts-in counts site.name.pp.place (length given.pieces) given.progress)
      (λ q second.
      let there = same-extends given.progress q second in
      holds-then (FilledIn q) (FilledIn p) (filled_all expander site counts parts q) _
      (filled_all-in site counts parts q (site-later p.expansions q.expansions (λ mark h. there mark (first.0 mark h)) site all))
      (λ others third. (
        λ mark h. third.0 mark (there mark (first.0 mark h)),
        all-append (PieceIn others.progress.expansions) given.pieces others.pieces
            (pieces-later given.progress.expansions others.progress.expansions (λ mark h. third.0 mark (there mark h)) given.pieces first.1) third.1,
      ))))

  substituted-in : (site : Site) (hidden : HiddenNumbers) (parts : List Part) (p : Progress) → SiteIn p.expansions site → Holds (OutputIn p) (substituted expander site hidden parts p)
  unfolding substituted
  substituted-in site hidden parts p all =
      holds-then (FilledIn p) (OutputIn p) (filled_all expander site _ parts p) _ (filled_all-in site _ parts p all)
      (λ given first.
      let E = given.progress.expansions in
      holds-then (PiecesIn E) (OutputIn p) (pasted site given.pieces) _ (pasted-in E site given.pieces (site-later p.expansions E first.0 site all) first.1)
      (λ joined second.
      holds-then (SpentIn given.progress) (OutputIn p) (cond (list_any is_operator parts) (spend site.name.pp.place (length (tokens_of joined)) given.progress) (Ok given.progress)) _
      (counts-in (list_any is_operator parts) site.name.pp.place (length (tokens_of joined)) given.progress)
      (λ q third.
      let there = same-extends given.progress q third in
      (λ mark h. there mark (first.0 mark h), items-later E q.expansions there _ (finished-in E site hidden (tokens_of joined) (tokens_of-in E joined second))))))

  later-output : (p q : Progress) → Extends p q → (r : Result Output Stop) → Holds (OutputIn q) r → Holds (OutputIn p) r
  later-output p q more (Ok output) h = (λ mark k. h.0 mark (more mark k), h.1)
  later-output p q more (Err stop) h = tt

  replaced-in : (invocation : Invocation) (p : Progress) → InvocationIn p.expansions invocation → Holds (OutputIn p) (replaced expander invocation p)
  unfolding replaced site_of
  replaced-in invocation p all =
      holds-then (λ (q : Progress). Extends p q × IsListed q.expansions (Expansion invocation.macro.number p.instance)) (OutputIn p) (begin invocation.macro.number invocation.name invocation.foreign p) _
      (begin-in invocation.macro.number invocation.name invocation.foreign p)
      (λ q first.
      holds-then (OutputIn q) (OutputIn p) (substituted expander (site_of invocation p.instance) invocation.hidden (parts_of invocation.macro.definition) q) _
      (substituted-in (site_of invocation p.instance) invocation.hidden (parts_of invocation.macro.definition) q (record {
        name = item-later p.expansions q.expansions first.0 invocation.name all.name;
        mark = first.1;
        arguments = all-later (ItemsIn p.expansions) (ItemsIn q.expansions) invocation.arguments (items-later p.expansions q.expansions first.0) all.arguments;
      }))
      (λ output second.
      later-output p output.progress (λ mark h. second.0 mark (first.0 mark h)) (expander (output.tokens ++ invocation.rest) output.progress)
      (works (output.tokens ++ invocation.rest) output.progress
      (all-append (ItemIn output.progress.expansions) output.tokens invocation.rest second.1
      (items-later p.expansions output.progress.expansions (λ mark h. second.0 mark (first.0 mark h)) invocation.rest all.rest)))))

  before-in : (item : Item) (p : Progress) (r : Result Output Stop) → ItemIn p.expansions item → Holds (OutputIn p) r → Holds (OutputIn p) (token_before item r)
  unfolding token_before
  before-in item p (Ok output) first h = (h.0, (item-later p.expansions output.progress.expansions h.0 item first, h.1))
  before-in item p (Err stop) first h = tt

  scanned-in : (macros : Macros) (items : List Item) (p : Progress) → ItemsIn p.expansions items → Holds (OutputIn p) (scanned macros expander items p)
  unfolding scanned by_case no_arguments
  scanned-in macros [] p all = (λ mark h. h, tt)
  scanned-in macros (item ∷ rest) p all = by (head_of macros p item rest) (head-in p.expansions macros p item rest all.0 all.1) (scanned-in macros rest p all.1)
    where
      by : (head : Head) → HeadIn p.expansions head → Holds (OutputIn p) (scanned macros expander rest p) → Holds (OutputIn p) (by_case expander item p (scanned macros expander rest p) head)
      by (put out) stands others = before-in out p _ stands others
      by (replace invocation) stands others = replaced-in invocation p stands
      by refuse stands others = tt

within-in : (macros : Macros) (depth : ℕ) → Works (expanded_within macros depth)
unfolding expanded_within
within-in macros zero items p all = tt
within-in macros (suc depth) items p all = scanned-in (expanded_within macros depth) (within-in macros depth) macros items p all

source-in : (E : List made_of.Expansion) (group : List PpToken) → ItemsIn E (map of_source group)
unfolding of_source
source-in E [] = tt
source-in E (pp ∷ group) = (tt, source-in E group)

pub expansion-listed : (macros : Macros) (group : List PpToken) (instance spent : ℕ) → Holds (λ (answer : Answer). AreListed answer.expansions answer.tokens) (expansion_of macros group instance spent)
unfolding expansion_of expanded at_start answer_of token_of
expansion-listed macros group instance spent =
    holds-then (OutputIn (at_start instance spent)) (λ (answer : Answer). AreListed answer.expansions answer.tokens) _ _
    (within-in macros (suc (greatest_work - spent)) (map of_source group) (at_start instance spent) (source-in [] group))
    (λ output given. all-map (ItemIn output.progress.expansions) (λ (one : Token). AllByRecursion (IsListed output.progress.expansions) one.trail) token_of output.tokens (λ item stands. stands) given.1)
