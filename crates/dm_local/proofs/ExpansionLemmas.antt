-- What an expansion makes stands where its tokens and its macros stand. Where these files have the same names, it is the same.
use Rattle.std.proofs.Common.{◌≡◌, ℕ, zero, suc, ◌+◌, ◌-◌, Bool, true, false, cond, ◌&&◌, ◌||◌, List, [], ◌∷◌, ◌++◌, length, map, Option, Some, None, Result, Ok, Err, refl, sym, ap, ◌∙◌}
use Rattle.std.specs.Prelude.{IfSome, option_and_then, codes, nat_lt, nat_le, slice_get, slice_index_or, ◌==◌}
use Rattle.std.specs.List.{AllByRecursion, list_any}
use Rattle.dm_token.specs.declared.place.Place.{Place}
use Rattle.dm_token.specs.declared.stop.Stop.{Stop}
use Rattle.dm_token.specs.declared.stop.Stop.TheVariants.{Memory, Refused, Limit, ReadFault}
use Rattle.dm_token.specs.declared.token.PpKind.{PpKind}
use Rattle.dm_token.specs.declared.token.PpToken.{PpToken}
use Rattle.dm_token.specs.declared.expansion.Definition.{Definition}
use Rattle.dm_token.specs.declared.expansion.Expansion as made_of
use Rattle.dm_token.specs.declared.expansion.Mark.{Mark}
use Rattle.dm_token.specs.declared.expansion.Mark.TheVariants.{Expansion, Argument}
use Rattle.dm_macro.specs.Bodies.{Part, plain, hash, beside, whole, paste, part_of, other_part, parameter_part, token_part, parts_behind, parts_of, places_of, parameter_of, parameters_of, is_last, is_first, first_parameter, named_parameters}
use Rattle.dm_macro.specs.Signs.{is_hash, is_hash_hash, is_identifier, is_word}
use Rattle.dm_macro.specs.Tables.{Table, number_of}
use Rattle.std.specs.FinSet as set
use Rattle.std.specs.Fmt.{decimal}
use Rattle.std.proofs.Common.{subst}
use Rattle.dm_token.specs.declared.token.PpKind.TheVariants.{Number, Literal}
use Rattle.dm_token.specs.declared.token.Token.{Token}
use Rattle.dm_expand.specs.AnswerViews.{looked_up}
use Rattle.dm_expand.specs.HideSets.{HiddenNumbers}
use Rattle.dm_expand.specs.Items.{Item, of_source, with_blank, first_with_blank}
use Rattle.dm_expand.specs.Steps.{Progress, Output, ◌>>=◌, greatest_work, at_start, too_much, spend, begin, take_argument, taken_by}
use Rattle.dm_expand.specs.Arguments.{Enclosed, enclosed_in, inside_too, in_first, separated, separates, exact_arguments, variadic_arguments, arguments_of, opens, closes, depth_behind}
use Rattle.dm_expand.specs.Pastes.{Site, Piece, token, placemarker, operator, made, no_token, joined_as, joined_tokens, joined_with, joined, piece_before, pasted_behind, pasted, tokens_of}
use Rattle.dm_expand.specs.Predefined.{name_of, root_of, in_place_of, file_literal, predefined}
use Rattle.dm_expand.specs.Substitution.{Expander, Filled, argument_for, argument_item, body_item, placed, operands, filled, filled_all, is_operator, hidden_besides, finished, substituted}
use Rattle.dm_expand.specs.Expansion.{Macros, Macro, Invocation, Head, put, replace, refuse, numbered, macro_of, with_arguments, enclosing, function_like, object_like, invoked, head_by, head_of, token_before, site_of, replaced, by_case, no_arguments, scanned, expanded_within, expanded, token_of, answer_of, expansion_of, Answer}

-- LISTS

pub all-append : {A : Type 0} (P : A → Type 0) (xs ys : List A) → AllByRecursion P xs → AllByRecursion P ys → AllByRecursion P (xs ++ ys)
all-append P [] ys first second = second
all-append P (x ∷ xs) ys first second = (first.0, all-append P xs ys first.1 second)

all-map : {A B : Type 0} (P : A → Type 0) (Q : B → Type 0) (f : A → B) (xs : List A) → ((x : A) → P x → Q (f x)) → AllByRecursion P xs → AllByRecursion Q (map f xs)
all-map P Q f [] each all = tt
all-map P Q f (x ∷ xs) each all = (each x all.0, all-map P Q f xs each all.1)

all-at : {A : Type 0} (P : A → Type 0) (xs : List A) (i : ℕ) → AllByRecursion P xs → IfSome (slice_get xs i) P
all-at P [] i all = tt
all-at P (x ∷ xs) zero all = all.0
all-at P (x ∷ xs) (suc i) all = all-at P xs i all.1

some-then : {A B : Type 0} (P : A → Type 0) (Q : B → Type 0) (next : A → Option B) (o : Option A) → IfSome o P → ((x : A) → P x → IfSome (next x) Q) → IfSome (option_and_then next o) Q
some-then P Q next None has then = tt
some-then P Q next (Some x) has then = then x has

module _ (In : Place → Type 0) where
  -- WHAT STANDS SO

  abbrev pub TokensIn : List PpToken → Type 0
  TokensIn tokens = AllByRecursion (λ (one : PpToken). In one.place) tokens

  abbrev pub DefinitionsIn : List Definition → Type 0
  DefinitionsIn read = AllByRecursion (λ (one : Definition). TokensIn one.body) read

  abbrev pub ExpansionsIn : List made_of.Expansion → Type 0
  ExpansionsIn expansions = AllByRecursion (λ (one : made_of.Expansion). In one.name) expansions

  abbrev pub ItemIn : Item → Type 0
  ItemIn item = In item.pp.place

  abbrev pub ItemsIn : List Item → Type 0
  ItemsIn items = AllByRecursion ItemIn items

  abbrev ProgressIn : Progress → Type 0
  ProgressIn progress = ExpansionsIn progress.expansions

  abbrev OutputIn : Output → Type 0
  OutputIn output = ItemsIn output.tokens × ProgressIn output.progress

  abbrev PieceIn : Piece → Type 0
  PieceIn (token item) = ItemIn item
  PieceIn (placemarker blank) = Unit {0}
  PieceIn (operator item) = ItemIn item

  abbrev PiecesIn : List Piece → Type 0
  PiecesIn pieces = AllByRecursion PieceIn pieces

  abbrev FilledIn : Filled → Type 0
  FilledIn given = PiecesIn given.pieces × ProgressIn given.progress

  abbrev PartIn : Part → Type 0
  PartIn (plain pp) = In pp.place
  PartIn (hash pp parameter) = In pp.place
  PartIn (beside pp parameter occurrence) = In pp.place
  PartIn (whole pp parameter occurrence) = In pp.place
  PartIn (paste pp) = In pp.place

  abbrev PartsIn : List Part → Type 0
  PartsIn parts = AllByRecursion PartIn parts

  record SiteIn (site : Site) : Type 0 where
    name : ItemIn site.name
    arguments : AllByRecursion ItemsIn site.arguments

  -- what is answered has a property, or it is refused where something stands so
  abbrev pub StopIn : Stop → Type 0
  StopIn Memory = Unit {0}
  StopIn (Refused refusal) = In refusal.place
  StopIn (Limit limit) = Unit {0}
  StopIn (ReadFault file) = Unit {0}

  abbrev pub Stands : {A : Type 0} → (A → Type 0) → Result A Stop → Type 0
  Stands P (Ok answer) = P answer
  Stands P (Err stop) = StopIn stop

  -- two steps are one, whose answer has a property
  abbrev pub Same : {A : Type 0} → (A → Type 0) → Result A Stop → Result A Stop → Type 0
  Same P one other = (other ≡ one) × Stands P one

  then-same : {A B : Type 0} (P : A → Type 0) (Q : B → Type 0) (one other : Result A Stop) (next after : A → Result B Stop)
      → Same P one other → ((answer : A) → P answer → Same Q (next answer) (after answer)) → Same Q (one >>= next) (other >>= after)
  then-same P Q (Ok answer) other next after same then = (ap (λ r. r >>= after) same.0 ∙ (then answer same.1).0, (then answer same.1).1)
  then-same P Q (Err stop) other next after same then = (ap (λ r. r >>= after) same.0, same.1)

  -- PIECES

  blank-in : (blank : Bool) (items : List Item) → ItemsIn items → ItemsIn (first_with_blank blank items)
  unfolding first_with_blank with_blank
  blank-in blank [] all = tt
  blank-in blank (item ∷ items) all = (all.0, all.1)

  spend-in : (place : Place) (work : ℕ) (p : Progress) → ProgressIn p → Stands ProgressIn (spend place work p)
  unfolding spend too_much
  spend-in place work p all =
      elim (nat_le (p.spent + work) greatest_work) as (λ b. Stands ProgressIn (cond b (Ok (record p { spent = p.spent + work })) (Err (too_much place)))) [ true ↦ all | false ↦ tt ]

  counts-in : (counts : Bool) (place : Place) (work : ℕ) (p : Progress) → ProgressIn p → Stands ProgressIn (cond counts (spend place work p) (Ok p))
  counts-in true place work p all = spend-in place work p all
  counts-in false place work p all = all

  taken-in : (argument : List Item) (expansions : List made_of.Expansion) → ExpansionsIn expansions → ExpansionsIn (map (taken_by argument) expansions)
  unfolding taken_by
  taken-in argument [] all = tt
  taken-in argument (one ∷ expansions) all = (all.0, taken-in argument expansions all.1)

  take-in : (argument : List Item) (p : Progress) → ProgressIn p → ProgressIn (take_argument argument p)
  unfolding take_argument
  take-in argument p all = taken-in argument p.expansions all

  argument-in : (arguments : List (List Item)) (parameter : ℕ) → AllByRecursion ItemsIn arguments → ItemsIn (slice_index_or arguments parameter [])
  argument-in [] parameter all = tt
  argument-in (items ∷ arguments) zero all = all.0
  argument-in (items ∷ arguments) (suc parameter) all = argument-in arguments parameter all.1

  argument_for-in : (site : Site) (parameter : ℕ) → SiteIn site → ItemsIn (argument_for site parameter)
  unfolding argument_for
  argument_for-in site parameter all = argument-in site.arguments parameter all.arguments

  placed-in : (site : Site) (pp : PpToken) (parameter occurrence : ℕ) (items : List Item) → ItemsIn items → ItemsIn (placed site pp parameter occurrence items)
  unfolding placed argument_item
  placed-in site pp parameter occurrence items all = blank-in pp.blank_before _ (all-map ItemIn ItemIn (argument_item site parameter occurrence) items (λ item stands. stands) all)

  tokens-in : (items : List Item) → ItemsIn items → PiecesIn (map token items)
  tokens-in items all = all-map ItemIn PieceIn token items (λ item stands. stands) all

  operands-in : (blank : Bool) (items : List Item) → ItemsIn items → PiecesIn (operands blank items)
  unfolding operands
  operands-in blank [] all = (tt, tt)
  operands-in blank (item ∷ items) all = tokens-in (item ∷ items) all

  -- PASTES

  joined_as-in : (site : Site) (left right : Item) (kind : Option PpKind) → SiteIn site → Stands PieceIn (joined_as site left right kind)
  unfolding joined_as no_token made
  joined_as-in site left right (Some kind) all = all.name
  joined_as-in site left right None all = all.name

  joined_tokens-in : (site : Site) (left right : Item) → SiteIn site → Stands PieceIn (joined_tokens site left right)
  unfolding joined_tokens
  joined_tokens-in site left right all = joined_as-in site left right _ all

  joined_with-in : (site : Site) (left : Item) (right : Piece) → SiteIn site → Stands PieceIn (joined_with site left right)
  unfolding joined_with made
  joined_with-in site left (placemarker blank) all = all.name
  joined_with-in site left (token right) all = joined_tokens-in site left right all
  joined_with-in site left (operator right) all = joined_tokens-in site left right all

  joined-in : (site : Site) (left right : Piece) → SiteIn site → Stands PieceIn (joined site left right)
  unfolding joined made
  joined-in site (placemarker blank) (placemarker other) all = tt
  joined-in site (placemarker blank) (token right) all = all.name
  joined-in site (placemarker blank) (operator right) all = all.name
  joined-in site (token left) right all = joined_with-in site left right all
  joined-in site (operator left) right all = joined_with-in site left right all

  piece_before-in : (piece : Piece) (r : Result (List Piece) Stop) → PieceIn piece → Stands PiecesIn r → Stands PiecesIn (piece_before piece r)
  unfolding piece_before
  piece_before-in piece (Ok others) first all = (first, all)
  piece_before-in piece (Err stop) first all = all

  stands-then : {A B : Type 0} (P : A → Type 0) (Q : B → Type 0) (r : Result A Stop) (next : A → Result B Stop) → Stands P r → ((answer : A) → P answer → Stands Q (next answer)) → Stands Q (r >>= next)
  stands-then P Q (Ok answer) next has then = then answer has
  stands-then P Q (Err stop) next has then = has

  pasted_behind-in : (site : Site) (left : Piece) (pieces : List Piece) → SiteIn site → PieceIn left → PiecesIn pieces → Stands PiecesIn (pasted_behind site left pieces)
  unfolding pasted_behind
  pasted_behind-in site left [] all first others = (first, tt)
  pasted_behind-in site left (token right ∷ pieces) all first others = piece_before-in left (pasted_behind site (token right) pieces) first (pasted_behind-in site (token right) pieces all others.0 others.1)
  pasted_behind-in site left (placemarker blank ∷ pieces) all first others =
      piece_before-in left (pasted_behind site (placemarker blank) pieces) first (pasted_behind-in site (placemarker blank) pieces all tt others.1)
  pasted_behind-in site left (operator item ∷ []) all first others = (first, (others.0, tt))
  pasted_behind-in site left (operator item ∷ right ∷ pieces) all first others =
      stands-then PieceIn PiecesIn (joined site left right) _ (joined-in site left right all) (λ both stands. pasted_behind-in site both pieces all stands others.1.1)

  pasted-in : (site : Site) (pieces : List Piece) → SiteIn site → PiecesIn pieces → Stands PiecesIn (pasted site pieces)
  unfolding pasted
  pasted-in site [] all pieces = tt
  pasted-in site (piece ∷ others) all pieces = pasted_behind-in site piece others all pieces.0 pieces.1

  tokens_of-in : (pieces : List Piece) → PiecesIn pieces → ItemsIn (tokens_of pieces)
  unfolding tokens_of
  tokens_of-in [] all = tt
  tokens_of-in (token item ∷ pieces) all = (all.0, tokens_of-in pieces all.1)
  tokens_of-in (placemarker blank ∷ pieces) all = tokens_of-in pieces all.1
  tokens_of-in (operator item ∷ pieces) all = (all.0, tokens_of-in pieces all.1)

  finished-in : (site : Site) (hidden : HiddenNumbers) (items : List Item) → ItemsIn items → ItemsIn (finished site hidden items)
  unfolding finished hidden_besides
  finished-in site hidden items all = blank-in site.name.pp.blank_before _ (all-map ItemIn ItemIn (hidden_besides hidden) items (λ item stands. stands) all)

  -- PARTS

  token_part-in : (pp : PpToken) (next : Option ℕ) → In pp.place → PartIn (token_part pp next)
  unfolding token_part
  token_part-in pp None stands = stands
  token_part-in pp (Some parameter) stands = elim (is_hash pp) as (λ b. PartIn (cond b (hash pp parameter) (plain pp))) [ true ↦ stands | false ↦ stands ]

  parameter_part-in : (names : List (List ℕ)) (before : List PpToken) (pp : PpToken) (behind : List PpToken) (parameter : ℕ) → In pp.place → PartsIn (parameter_part names before pp behind parameter)
  unfolding parameter_part
  parameter_part-in names before pp behind parameter stands = by (is_last is_hash before) (is_last is_hash_hash before || is_first is_hash_hash behind)
    where
      by : (a b : Bool) → PartsIn (cond a [] (cond b (beside pp parameter (places_of names parameter before) ∷ []) (whole pp parameter (places_of names parameter before) ∷ [])))
      by true b = tt
      by false true = (stands, tt)
      by false false = (stands, tt)

  other_part-in : (names : List (List ℕ)) (before : List PpToken) (pp : PpToken) (behind : List PpToken) (mine : Option ℕ) → In pp.place → PartsIn (other_part names before pp behind mine)
  unfolding other_part
  other_part-in names before pp behind None stands = (token_part-in pp (first_parameter names behind) stands, tt)
  other_part-in names before pp behind (Some parameter) stands = parameter_part-in names before pp behind parameter stands

  part_of-in : (names : List (List ℕ)) (before : List PpToken) (pp : PpToken) (behind : List PpToken) → In pp.place → PartsIn (part_of names before pp behind)
  unfolding part_of
  part_of-in names before pp behind stands =
      elim (is_hash_hash pp) as (λ b. PartsIn (cond b (paste pp ∷ []) (other_part names before pp behind (parameter_of names pp)))) [
        | true ↦ (stands, tt)
        | false ↦ other_part-in names before pp behind (parameter_of names pp) stands
      ]

  parts_behind-in : (names : List (List ℕ)) (before tokens : List PpToken) → TokensIn tokens → PartsIn (parts_behind names before tokens)
  unfolding parts_behind
  parts_behind-in names before [] all = tt
  parts_behind-in names before (pp ∷ behind) all =
      all-append PartIn (part_of names before pp behind) (parts_behind names (before ++ pp ∷ []) behind) (part_of-in names before pp behind all.0) (parts_behind-in names (before ++ pp ∷ []) behind all.1)

  parts_of-in : (definition : Definition) → TokensIn definition.body → PartsIn (parts_of definition)
  unfolding parts_of
  parts_of-in definition all = parts_behind-in (parameters_of definition) [] definition.body all

  -- ARGUMENTS

  abbrev EnclosedIn : Enclosed → Type 0
  EnclosedIn enclosed = ItemsIn enclosed.inside × ItemIn enclosed.closing × ItemsIn enclosed.rest

  inside_too-in : (item : Item) (o : Option Enclosed) → ItemIn item → IfSome o EnclosedIn → IfSome (inside_too item o) EnclosedIn
  unfolding inside_too
  inside_too-in item None first all = tt
  inside_too-in item (Some enclosed) first all = ((first, all.0), all.1, all.2)

  enclosed-in : (depth : ℕ) (items : List Item) → ItemsIn items → IfSome (enclosed_in depth items) EnclosedIn
  unfolding enclosed_in
  enclosed-in depth [] all = tt
  enclosed-in depth (item ∷ others) all =
      elim (closes item && (depth == 0)) as (λ b. IfSome (cond b (Some (record { inside = []; closing = item; rest = others })) (inside_too item (enclosed_in (depth_behind depth item) others))) EnclosedIn) [
        | true ↦ (tt, all.0, all.1)
        | false ↦ inside_too-in item (enclosed_in (depth_behind depth item) others) all.0 (enclosed-in (depth_behind depth item) others all.1)
      ]

  in_first-in : (item : Item) (arguments : List (List Item)) → ItemIn item → AllByRecursion ItemsIn arguments → AllByRecursion ItemsIn (in_first item arguments)
  unfolding in_first
  in_first-in item [] first all = ((first, tt), tt)
  in_first-in item (argument ∷ arguments) first all = ((first, all.0), all.1)

  separated-in : (commas depth : ℕ) (items : List Item) → ItemsIn items → AllByRecursion ItemsIn (separated commas depth items)
  unfolding separated
  separated-in commas depth [] all = (tt, tt)
  separated-in commas depth (item ∷ others) all =
      elim (separates item && (depth == 0) && nat_lt 0 commas) as (λ b. AllByRecursion ItemsIn (cond b ([] ∷ separated (commas - 1) depth others) (in_first item (separated commas (depth_behind depth item) others)))) [
        | true ↦ (tt, separated-in (commas - 1) depth others all.1)
        | false ↦ in_first-in item (separated commas (depth_behind depth item) others) all.0 (separated-in commas (depth_behind depth item) others all.1)
      ]

  exact-in : (count : ℕ) (given : List (List Item)) → AllByRecursion ItemsIn given → IfSome (exact_arguments count given) (AllByRecursion ItemsIn)
  unfolding exact_arguments
  exact-in zero [] all = tt
  exact-in zero ([] ∷ []) all = tt
  exact-in zero ((item ∷ items) ∷ []) all = tt
  exact-in zero ([] ∷ (next ∷ others)) all = tt
  exact-in zero ((item ∷ items) ∷ (next ∷ others)) all = tt
  exact-in (suc others) given all = elim (length given == suc others) as (λ b. IfSome (cond b (Some given) None) (AllByRecursion ItemsIn)) [ true ↦ all | false ↦ tt ]

  variadic-in : (parameters : ℕ) (given : List (List Item)) → AllByRecursion ItemsIn given → IfSome (variadic_arguments parameters given) (AllByRecursion ItemsIn)
  unfolding variadic_arguments
  variadic-in parameters given all = by (length given == parameters) (length given == suc parameters)
    where
      by : (a b : Bool) → IfSome (cond a (Some (given ++ [] ∷ [])) (cond b (Some given) None)) (AllByRecursion ItemsIn)
      by true b = all-append ItemsIn given ([] ∷ []) all (tt, tt)
      by false true = all
      by false false = tt

  arguments-in : (definition : Definition) (inside : List Item) → ItemsIn inside → IfSome (arguments_of definition inside) (AllByRecursion ItemsIn)
  unfolding arguments_of
  arguments-in definition inside all =
      let parameters = length (named_parameters definition.parameters) in
      elim definition.variadic as (λ b. IfSome (cond b (variadic_arguments parameters (separated parameters 0 inside)) (exact_arguments parameters (separated parameters 0 inside))) (AllByRecursion ItemsIn)) [
        | true ↦ variadic-in parameters (separated parameters 0 inside) (separated-in parameters 0 inside all)
        | false ↦ exact-in parameters (separated parameters 0 inside) (separated-in parameters 0 inside all)
      ]

  -- THE HEAD

  abbrev MacroIn : Macro → Type 0
  MacroIn macro = TokensIn macro.definition.body

  record InvocationIn (invocation : Invocation) : Type 0 where
    macro : MacroIn invocation.macro
    name : ItemIn invocation.name
    arguments : AllByRecursion ItemsIn invocation.arguments
    rest : ItemsIn invocation.rest

  abbrev HeadIn : Head → Type 0
  HeadIn (put item) = ItemIn item
  HeadIn (replace invocation) = InvocationIn invocation
  HeadIn refuse = Unit {0}

  with_arguments-in : (macro : Macro) (name opening : Item) (enclosed : Enclosed) (o : Option (List (List Item))) → MacroIn macro → ItemIn name → EnclosedIn enclosed → IfSome o (AllByRecursion ItemsIn)
      → HeadIn (with_arguments macro name opening enclosed o)
  unfolding with_arguments
  with_arguments-in macro name opening enclosed None body first all arguments = tt
  with_arguments-in macro name opening enclosed (Some given) body first all arguments = record { macro = body; name = first; arguments = arguments; rest = all.2 }

  enclosing-in : (macro : Macro) (name opening : Item) (o : Option Enclosed) → MacroIn macro → ItemIn name → IfSome o EnclosedIn → HeadIn (enclosing macro name opening o)
  unfolding enclosing
  enclosing-in macro name opening None body first all = tt
  enclosing-in macro name opening (Some enclosed) body first all =
      with_arguments-in macro name opening enclosed (arguments_of macro.definition enclosed.inside) body first all (arguments-in macro.definition enclosed.inside all.0)

  function_like-in : (macro : Macro) (name : Item) (rest : List Item) → MacroIn macro → ItemIn name → ItemsIn rest → HeadIn (function_like macro name rest)
  unfolding function_like
  function_like-in macro name [] body first all = first
  function_like-in macro name (next ∷ others) body first all =
      elim (opens next) as (λ b. HeadIn (cond b (enclosing macro name next (enclosed_in 0 others)) (put name))) [
        | true ↦ enclosing-in macro name next (enclosed_in 0 others) body first (enclosed-in 0 others all.1)
        | false ↦ first
      ]

  invoked-in : (macro : Macro) (o : Option (List (List ℕ))) (name : Item) (rest : List Item) → MacroIn macro → ItemIn name → ItemsIn rest → HeadIn (invoked macro o name rest)
  unfolding invoked object_like
  invoked-in macro None name rest body first all = record { macro = body; name = first; arguments = tt; rest = all }
  invoked-in macro (Some parameters) name rest body first all = function_like-in macro name rest body first all

  numbered-in : (read : List Definition) (number : ℕ) → DefinitionsIn read → IfSome (numbered read number) MacroIn
  unfolding numbered
  numbered-in read number all = some-then (λ (one : Definition). TokensIn one.body) MacroIn _ (slice_get read number) (all-at (λ (one : Definition). TokensIn one.body) read number all) (λ one stands. stands)

  name-in : (instance : ℕ) (expansions : List made_of.Expansion) (other : Place) → ExpansionsIn expansions → In other → In (name_of instance expansions other)
  unfolding name_of
  name-in instance [] other all stands = stands
  name-in instance (one ∷ others) other all stands =
      elim (one.instance == instance) as (λ b. In (cond b one.name (name_of instance others other))) [ true ↦ all.0 | false ↦ name-in instance others other all.1 stands ]

  root-in : (expansions : List made_of.Expansion) (trail : List Mark) (place : Place) → ExpansionsIn expansions → In place → In (root_of expansions trail place)
  unfolding root_of
  root-in expansions [] place all stands = stands
  root-in expansions (Expansion definition instance ∷ marks) place all stands = name-in instance expansions place all stands
  root-in expansions (Argument parameter occurrence ∷ marks) place all stands = stands

  macro_of-in : (macros : Macros) (pp : PpToken) → DefinitionsIn macros.table.read → IfSome (macro_of macros pp) MacroIn
  unfolding macro_of
  macro_of-in macros pp all =
      elim (is_identifier pp) as (λ b. IfSome (cond b (option_and_then (numbered macros.table.read) (number_of macros.table pp.spelling)) None) MacroIn) [
        | true ↦ some-then (λ _. Unit {0}) MacroIn (numbered macros.table.read) (number_of macros.table pp.spelling) (any (number_of macros.table pp.spelling)) (λ number _. numbered-in macros.table.read number all)
        | false ↦ tt
      ]
    where
      any : (o : Option ℕ) → IfSome o (λ _. Unit {0})
      any None = tt
      any (Some number) = tt

  predefined-in : (names : List (List ℕ)) (root : Place) (item : Item) → ItemIn item → ItemIn (predefined names root item)
  unfolding predefined in_place_of
  predefined-in names root item stands =
      by (is_word (codes "__LINE__") item.pp) (is_word (codes "__FILE__") item.pp) (is_word (codes "__STDC__") item.pp) (is_word (codes "__STDC_HOSTED__") item.pp) (is_word (codes "__STDC_VERSION__") item.pp)
    where
      by : (a b c d e : Bool) → ItemIn (cond a (in_place_of item Number (decimal root.line)) (cond b (in_place_of item Literal (file_literal names root)) (cond c (in_place_of item Number (codes "1"))
          (cond d (in_place_of item Number (codes "1")) (cond e (in_place_of item Number (codes "201112L")) item)))))
      by true b c d e = stands
      by false true c d e = stands
      by false false true d e = stands
      by false false false true e = stands
      by false false false false true = stands
      by false false false false false = stands

  head-in : (macros : Macros) (p : Progress) (item : Item) (rest : List Item) → DefinitionsIn macros.table.read → ItemIn item → ItemsIn rest → HeadIn (head_of macros p item rest)
  unfolding head_of head_by
  head-in macros p item rest read first all = by (macro_of macros item.pp) (macro_of-in macros item.pp read)
    where
      by : (o : Option Macro) → IfSome o MacroIn → HeadIn (head_by macros p o item rest)
      by None stands = predefined-in macros.files (root_of p.expansions item.trail item.pp.place) item first
      by (Some macro) stands =
          elim (set.contains item.hidden macro.number) as (λ b. HeadIn (cond b (put item) (invoked macro macro.definition.parameters item rest))) [
            | true ↦ first
            | false ↦ invoked-in macro macro.definition.parameters item rest stands first all
          ]

  predefined-alike : (names more : List (List ℕ)) (root : Place) (item : Item) → file_literal more root ≡ file_literal names root → predefined more root item ≡ predefined names root item
  unfolding predefined
  predefined-alike names more root item same = ap (λ text. cond (is_word (codes "__LINE__") item.pp) (in_place_of item Number (decimal root.line)) (cond (is_word (codes "__FILE__") item.pp) (in_place_of item Literal text) (cond (is_word (codes "__STDC__") item.pp) (in_place_of item Number (codes "1")) (cond (is_word (codes "__STDC_HOSTED__") item.pp) (in_place_of item Number (codes "1")) (cond (is_word (codes "__STDC_VERSION__") item.pp) (in_place_of item Number (codes "201112L")) item))))) same

  head-alike : (table : Table) (names more : List (List ℕ)) (item : Item) (rest : List Item) (p : Progress) → ((place : Place) → In place → file_literal more place ≡ file_literal names place)
      → ItemIn item → ProgressIn p → head_of (looked_up table more) p item rest ≡ head_of (looked_up table names) p item rest
  unfolding head_of head_by macro_of
  head-alike table names more item rest p named stands done = by (macro_of (looked_up table names) item.pp)
    where
      by : (o : Option Macro) → head_by (looked_up table more) p o item rest ≡ head_by (looked_up table names) p o item rest
      by None = ap put (predefined-alike names more (root_of p.expansions item.trail item.pp.place) item (named (root_of p.expansions item.trail item.pp.place) (root-in p.expansions item.trail item.pp.place done stands)))
      by (Some macro) = refl

  -- TWO EXPANDERS THAT DO THE SAME

  abbrev Alike : Expander → Expander → Type 0
  Alike one other = (items : List Item) (p : Progress) → ItemsIn items → ProgressIn p → Same OutputIn (one items p) (other items p)

  module _ (one other : Expander) (alike : Alike one other) where
    filled-alike : (site : Site) (part : Part) (p : Progress) → SiteIn site → PartIn part → ProgressIn p → Same FilledIn (filled one site part p) (filled other site part p)
    unfolding filled body_item made
    filled-alike site (plain pp) p all stands done = (refl, ((stands, tt), done))
    filled-alike site (hash pp parameter) p all stands done = (refl, ((all.name, tt), take-in (argument_for site parameter) p done))
    filled-alike site (beside pp parameter occurrence) p all stands done =
        (refl, (operands-in pp.blank_before _ (placed-in site pp parameter occurrence (argument_for site parameter) (argument_for-in site parameter all)), take-in (argument_for site parameter) p done))
    filled-alike site (whole pp parameter occurrence) p all stands done =
        then-same OutputIn FilledIn (one (argument_for site parameter) p) (other (argument_for site parameter) p) _ _ (alike (argument_for site parameter) p (argument_for-in site parameter all) done)
        (λ output given. (refl, (tokens-in _ (placed-in site pp parameter occurrence output.tokens given.0), given.1)))
    filled-alike site (paste pp) p all stands done = (refl, ((stands, tt), done))

    filled_all-alike : (site : Site) (counts : Bool) (parts : List Part) (p : Progress) → SiteIn site → PartsIn parts → ProgressIn p → Same FilledIn (filled_all one site counts parts p) (filled_all other site counts parts p)
    unfolding filled_all
    filled_all-alike site counts [] p all parts_in done = (refl, (tt, done))
    filled_all-alike site counts (part ∷ parts) p all parts_in done =
        then-same FilledIn FilledIn (filled one site part p) (filled other site part p) _ _ (filled-alike site part p all parts_in.0 done)
        (λ given first.
        then-same ProgressIn FilledIn (cond counts (spend site.name.pp.place (length given.pieces) given.progress) (Ok given.progress)) _ _ _
        (refl, counts-in counts site.name.pp.place (length given.pieces) given.progress first.1)
        (λ q second.
        then-same FilledIn FilledIn (filled_all one site counts parts q) (filled_all other site counts parts q) _ _ (filled_all-alike site counts parts q all parts_in.1 second)
        (λ others third. (refl, (all-append PieceIn given.pieces others.pieces first.0 third.0, third.1)))))

    substituted-alike : (site : Site) (hidden : HiddenNumbers) (parts : List Part) (p : Progress) → SiteIn site → PartsIn parts → ProgressIn p → Same OutputIn (substituted one site hidden parts p) (substituted other site hidden parts p)
    unfolding substituted
    substituted-alike site hidden parts p all parts_in done =
        then-same FilledIn OutputIn (filled_all one site _ parts p) (filled_all other site _ parts p) _ _ (filled_all-alike site _ parts p all parts_in done)
        (λ given first.
        then-same PiecesIn OutputIn (pasted site given.pieces) _ _ _ (refl, pasted-in site given.pieces all first.0)
        (λ joined second.
        then-same ProgressIn OutputIn (cond (list_any is_operator parts) (spend site.name.pp.place (length (tokens_of joined)) given.progress) (Ok given.progress)) _ _ _
        (refl, counts-in (list_any is_operator parts) site.name.pp.place (length (tokens_of joined)) given.progress first.1)
        (λ q third. (refl, (finished-in site hidden (tokens_of joined) (tokens_of-in joined second), third)))))

    begin-in : (definition : ℕ) (name : Item) (foreign : Bool) (p : Progress) → ItemIn name → ProgressIn p → Stands ProgressIn (begin definition name foreign p)
    unfolding begin
    begin-in definition name foreign p stands done =
        stands-then ProgressIn ProgressIn (spend name.pp.place 1 p) _ (spend-in name.pp.place 1 p done)
        (λ q counted. all-append (λ (made : made_of.Expansion). In made.name) q.expansions _ counted (stands, tt))

    replaced-alike : (invocation : Invocation) (p : Progress) → InvocationIn invocation → ProgressIn p → Same OutputIn (replaced one invocation p) (replaced other invocation p)
    unfolding replaced site_of
    replaced-alike invocation p all done =
        then-same ProgressIn OutputIn (begin invocation.macro.number invocation.name invocation.foreign p) _ _ _ (refl, begin-in invocation.macro.number invocation.name invocation.foreign p all.name done)
        (λ q first.
        then-same OutputIn OutputIn (substituted one (site_of invocation p.instance) invocation.hidden (parts_of invocation.macro.definition) q) (substituted other (site_of invocation p.instance) invocation.hidden (parts_of invocation.macro.definition) q) _ _
        (substituted-alike (site_of invocation p.instance) invocation.hidden (parts_of invocation.macro.definition) q (record { name = all.name; arguments = all.arguments }) (parts_of-in invocation.macro.definition all.macro) first)
        (λ output second. alike (output.tokens ++ invocation.rest) output.progress (all-append ItemIn output.tokens invocation.rest second.0 all.rest) second.1))

    before-alike : (item : Item) (r s : Result Output Stop) → ItemIn item → Same OutputIn r s → Same OutputIn (token_before item r) (token_before item s)
    unfolding token_before
    before-alike item (Ok output) s first same = (ap (token_before item) same.0, ((first, same.1.0), same.1.1))
    before-alike item (Err stop) s first same = (ap (token_before item) same.0, same.1)

    -- two sets of names that call the files of places alike
    scanned-alike : (table : Table) (names more : List (List ℕ)) (items : List Item) (p : Progress) → ((place : Place) → In place → file_literal more place ≡ file_literal names place)
        → DefinitionsIn table.read → ItemsIn items → ProgressIn p → Same OutputIn (scanned (looked_up table names) one items p) (scanned (looked_up table more) other items p)
    unfolding scanned by_case no_arguments
    scanned-alike table names more [] p named read all done = (refl, (tt, done))
    scanned-alike table names more (item ∷ rest) p named read all done =
        subst (λ head. Same OutputIn (by_case one item p (scanned (looked_up table names) one rest p) (head_of (looked_up table names) p item rest)) (by_case other item p (scanned (looked_up table more) other rest p) head))
        (sym (head-alike table names more item rest p named all.0 done))
        (by (head_of (looked_up table names) p item rest) (head-in (looked_up table names) p item rest read all.0 all.1) (scanned-alike table names more rest p named read all.1 done))
      where
        by : (head : Head) → HeadIn head → Same OutputIn (scanned (looked_up table names) one rest p) (scanned (looked_up table more) other rest p) → Same OutputIn (by_case one item p (scanned (looked_up table names) one rest p) head) (by_case other item p (scanned (looked_up table more) other rest p) head)
        by (put out) stands others = before-alike out _ _ stands others
        by (replace invocation) stands others = replaced-alike invocation p stands done
        by refuse stands others = (refl, all.0)

  within-alike : (table : Table) (names more : List (List ℕ)) (depth : ℕ) → ((place : Place) → In place → file_literal more place ≡ file_literal names place)
      → DefinitionsIn table.read → Alike (expanded_within (looked_up table names) depth) (expanded_within (looked_up table more) depth)
  unfolding expanded_within
  within-alike table names more zero named read items p all done = (refl, tt)
  within-alike table names more (suc depth) named read items p all done =
      scanned-alike (expanded_within (looked_up table names) depth) (expanded_within (looked_up table more) depth) (within-alike table names more depth named read) table names more items p named read all done

  abbrev pub AnswerIn : Answer → Type 0
  AnswerIn answer = AllByRecursion (λ (one : Token). In one.pp.place) answer.tokens × ExpansionsIn answer.expansions

  pub expansion-alike : (table : Table) (names more : List (List ℕ)) (group : List PpToken) (instance spent : ℕ) → ((place : Place) → In place → file_literal more place ≡ file_literal names place)
      → DefinitionsIn table.read → TokensIn group → Same AnswerIn (expansion_of (looked_up table names) group instance spent) (expansion_of (looked_up table more) group instance spent)
  unfolding expansion_of expanded at_start of_source answer_of token_of
  expansion-alike table names more group instance spent named read all =
      then-same OutputIn AnswerIn _ _ _ _
      (within-alike table names more (suc (greatest_work - spent)) named read (map of_source group) (at_start instance spent) (all-map (λ (one : PpToken). In one.place) ItemIn of_source group (λ token stands. stands) all) tt)
      (λ output given. (refl, (all-map ItemIn (λ (one : Token). In one.pp.place) token_of output.tokens (λ item stands. stands) given.0, given.1)))
