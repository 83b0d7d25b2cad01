-- Substitution, a part at a time, and the work that its tokens are.
use Rattle.std.proofs.Common.{◌≡◌, ℕ, ◌+◌, ◌<◌, Bool, true, false, cond, ◌||◌, List, [], ◌∷◌, ◌++◌, length, take, drop, get_or, Option, Some, None, refl, sym, ap, ◌∙◌, subst, arith, Result, Ok, Err, append_assoc}
use Rattle.std.specs.List.{list_any}
use Rattle.std.proofs.lemmas.List.{at_drop_more, take_more}
use Rattle.std.proofs.lemmas.List.Folds.{list_any-append}
use Rattle.dm_token.specs.declared.stop.Stop.{Stop}
use Rattle.dm_token.specs.declared.token.PpToken.{PpToken}
use Rattle.dm_token.specs.declared.expansion.Definition.{Definition}
use Rattle.dm_expand.specs.HideSets.{HiddenNumbers}
use Rattle.dm_macro.specs.Signs.{is_hash, is_hash_hash}
use Rattle.dm_expand.specs.Items.{Item}
use Rattle.dm_expand.specs.Steps.{Progress, Output, ◌>>=◌}
use Rattle.dm_macro.specs.Bodies.{Part, plain, hash, beside, whole, paste, part_of, other_part, parameter_part, token_part, parts_behind, parts_of, parameters_of, places_of, parameter_of, is_last, is_first, first_parameter}
use Rattle.dm_expand.specs.Pastes.{Site, Piece, joined, pasted, tokens_of}
use Rattle.dm_expand.specs.Substitution.{Expander, Filled, filled, filled_all, is_operator, finished}
use Rattle.dm_expand.specs.Expansion.{token_before}
use Rattle.dm_expand.specs.Laws.{Follows, Each}
use Rattle.dm_expand.specs.Views.{IsWithin, tokens_left}
use Rattle.dm_expand.specs.ListViews.{gives, fills, pieces_before, tokens_before, counted_if}
use Rattle.dm_expand.specs.Works.{put_together}

-- PROGRESS

pub within_on : (p q : Progress) → IsWithin p → Follows p q → IsWithin q
within_on p q within follows = record { spent = follows.within; instance = omega (arith, within.instance, follows.counted, follows.rises) }

pub each-ok : {A : Type 0} (P : A → Type 0) (r : Result A Stop) (answer : A) → r ≡ Ok answer → Each P r → P answer
each-ok P r answer is each = subst (Each P) is each

-- PARTS

token_part-operator : (pp : PpToken) (o : Option ℕ) → is_operator (token_part pp o) ≡ false
unfolding token_part is_operator
token_part-operator pp None = refl
token_part-operator pp (Some parameter) = elim (is_hash pp) as (λ b. is_operator (cond b (hash pp parameter) (plain pp)) ≡ false) [ true ↦ refl | false ↦ refl ]

parameter_part-operator : (names : List (List ℕ)) (before : List PpToken) (pp : PpToken) (behind : List PpToken) (parameter : ℕ) → list_any is_operator (parameter_part names before pp behind parameter) ≡ false
unfolding parameter_part is_operator
parameter_part-operator names before pp behind parameter =
    elim (is_last is_hash before) as (λ b. list_any is_operator (cond b [] (cond (is_last is_hash_hash before || is_first is_hash_hash behind) (beside pp parameter (places_of names parameter before) ∷ []) (whole pp parameter (places_of names parameter before) ∷ []))) ≡ false) [
      | true ↦ refl
      | false ↦ elim (is_last is_hash_hash before || is_first is_hash_hash behind) as (λ b. list_any is_operator (cond b (beside pp parameter (places_of names parameter before) ∷ []) (whole pp parameter (places_of names parameter before) ∷ [])) ≡ false) [ true ↦ refl | false ↦ refl ]
    ]

other_part-operator : (names : List (List ℕ)) (before : List PpToken) (pp : PpToken) (behind : List PpToken) (o : Option ℕ) → list_any is_operator (other_part names before pp behind o) ≡ false
unfolding other_part
other_part-operator names before pp behind None = ap (λ b. b || false) (token_part-operator pp (first_parameter names behind))
other_part-operator names before pp behind (Some parameter) = parameter_part-operator names before pp behind parameter

part_of-operator : (names : List (List ℕ)) (before : List PpToken) (pp : PpToken) (behind : List PpToken) → list_any is_operator (part_of names before pp behind) ≡ is_hash_hash pp
unfolding part_of is_operator
part_of-operator names before pp behind =
    elim (is_hash_hash pp) as (λ b. list_any is_operator (cond b (paste pp ∷ []) (other_part names before pp behind (parameter_of names pp))) ≡ b) [
      | true ↦ refl
      | false ↦ other_part-operator names before pp behind (parameter_of names pp)
    ]

-- a replacement list has the operator where it has the token
pub parts-operator : (names : List (List ℕ)) (before tokens : List PpToken) → list_any is_operator (parts_behind names before tokens) ≡ list_any is_hash_hash tokens
unfolding parts_behind
parts-operator names before [] = refl
parts-operator names before (pp ∷ behind) =
    list_any-append is_operator (part_of names before pp behind) (parts_behind names (before ++ pp ∷ []) behind)
    ∙ ap (λ b. b || list_any is_operator (parts_behind names (before ++ pp ∷ []) behind)) (part_of-operator names before pp behind)
    ∙ ap (λ b. is_hash_hash pp || b) (parts-operator names (before ++ pp ∷ []) behind)

-- the part at an index, and those behind it
pub parts-at : (names : List (List ℕ)) (body : List PpToken) (i : ℕ) (pp : PpToken) → i < length body → pp ≡ get_or body i pp
    → parts_behind names (take i body) (drop i body) ≡ part_of names (take i body) pp (drop (i + 1) body) ++ parts_behind names (take (i + 1) body) (drop (i + 1) body)
unfolding parts_behind
parts-at names body i pp lt is =
    at_drop_more (parts_behind names (take i body)) body i pp lt
    ∙ ap (λ t. part_of names (take i body) t (drop (i + 1) body) ++ parts_behind names (take i body ++ t ∷ []) (drop (i + 1) body)) (sym is)
    ∙ ap (λ before. part_of names (take i body) pp (drop (i + 1) body) ++ parts_behind names before (drop (i + 1) body)) (ap (λ t. take i body ++ t ∷ []) is ∙ sym (take_more body i pp lt))

pub operators-are : (definition : Definition) → list_any is_operator (parts_of definition) ≡ list_any is_hash_hash definition.body
unfolding parts_of
operators-are definition = parts-operator (parameters_of definition) [] definition.body

pub parts_of-is : (definition : Definition) → parts_of definition ≡ parts_behind (parameters_of definition) [] definition.body
unfolding parts_of
parts_of-is definition = refl

-- THE PARTS ONE AFTER ANOTHER

abbrev joined_to : Filled → Filled → Result Filled Stop
joined_to first others = Ok (record { pieces = first.pieces ++ others.pieces; progress = others.progress })

abbrev after_count : Expander → Site → Bool → List Part → Filled → Progress → Result Filled Stop
after_count expander site counts parts first counted = filled_all expander site counts parts counted >>= joined_to first

abbrev after_first : Expander → Site → Bool → List Part → Filled → Result Filled Stop
after_first expander site counts parts first =
    counted_if counts site.name.pp.place (length first.pieces) first.progress >>= after_count expander site counts parts first

joined_to-is : (first : Filled) (r : Result Filled Stop) → (r >>= joined_to first) ≡ pieces_before first.pieces r
joined_to-is first (Ok others) = refl
joined_to-is first (Err stop) = refl

pub filled_all-part : (expander : Expander) (site : Site) (counts : Bool) (part : Part) (parts : List Part) (p : Progress) (first : Filled) (q : Progress)
    → filled expander site part p ≡ Ok first → counted_if counts site.name.pp.place (length first.pieces) first.progress ≡ Ok q
    → filled_all expander site counts (part ∷ parts) p ≡ pieces_before first.pieces (filled_all expander site counts parts q)
unfolding filled_all
filled_all-part expander site counts part parts p first q is counted =
    ap (λ r. r >>= after_first expander site counts parts) is
    ∙ ap (λ r. r >>= after_count expander site counts parts first) counted
    ∙ joined_to-is first (filled_all expander site counts parts q)

pub filled_all-count-stops : (expander : Expander) (site : Site) (counts : Bool) (part : Part) (parts : List Part) (p : Progress) (first : Filled) (stop : Stop)
    → filled expander site part p ≡ Ok first → counted_if counts site.name.pp.place (length first.pieces) first.progress ≡ Err stop
    → filled_all expander site counts (part ∷ parts) p ≡ Err stop
unfolding filled_all
filled_all-count-stops expander site counts part parts p first stop is counted =
    ap (λ r. r >>= after_first expander site counts parts) is ∙ ap (λ r. r >>= after_count expander site counts parts first) counted

pub parts-end : (names : List (List ℕ)) (before : List PpToken) → parts_behind names before [] ≡ []
unfolding parts_behind
parts-end names before = refl

pub filled_all-nothing : (expander : Expander) (site : Site) (counts : Bool) (p : Progress) → filled_all expander site counts [] p ≡ Ok (fills [] p)
unfolding filled_all
filled_all-nothing expander site counts p = refl

pub pieces_before-append : (pieces more : List Piece) (r : Result Filled Stop) → pieces_before pieces (pieces_before more r) ≡ pieces_before (pieces ++ more) r
pieces_before-append pieces more (Ok given) = ap (λ (x : List Piece). Ok (fills x given.progress)) (sym (append_assoc pieces more given.pieces))
pieces_before-append pieces more (Err stop) = refl

pub pieces_before-nothing : (r : Result Filled Stop) → pieces_before [] r ≡ r
pieces_before-nothing (Ok given) = refl
pieces_before-nothing (Err stop) = refl

-- THE REPLACEMENT

abbrev after_paste : Site → HiddenNumbers → List Part → Filled → List Piece → Result Output Stop
after_paste site hidden parts pieces joined =
    counted_if (list_any is_operator parts) site.name.pp.place (length (tokens_of joined)) pieces.progress
    >>= λ counted. Ok (record { tokens = finished site hidden (tokens_of joined); progress = counted })

-- the tokens that are left are those of the pieces that are left
joined-is : (site : Site) (hidden : HiddenNumbers) (parts : List Part) (pieces : Filled) (tokens : List Item) (q : Progress) (r : Result (List Piece) Stop)
    → (r >>= λ joined. Ok (tokens_of joined)) ≡ Ok tokens → counted_if (list_any is_operator parts) site.name.pp.place (length tokens) pieces.progress ≡ Ok q
    → (r >>= after_paste site hidden parts pieces) ≡ Ok (gives (finished site hidden tokens) q)
joined-is site hidden parts pieces tokens q (Ok joined) left counted =
    let same : tokens_of joined ≡ tokens = cc in
    ap (λ ts. counted_if (list_any is_operator parts) site.name.pp.place (length ts) pieces.progress >>= λ counted. Ok (record { tokens = finished site hidden ts; progress = counted })) same
    ∙ ap (λ r. r >>= λ counted. Ok (record { tokens = finished site hidden tokens; progress = counted })) counted
joined-is site hidden parts pieces tokens q (Err stop) left counted = cc

joined-over : (site : Site) (hidden : HiddenNumbers) (parts : List Part) (pieces : Filled) (tokens : List Item) (stop : Stop) (r : Result (List Piece) Stop)
    → (r >>= λ joined. Ok (tokens_of joined)) ≡ Ok tokens → counted_if (list_any is_operator parts) site.name.pp.place (length tokens) pieces.progress ≡ Err stop
    → (r >>= after_paste site hidden parts pieces) ≡ Err stop
joined-over site hidden parts pieces tokens stop (Ok joined) left counted =
    let same : tokens_of joined ≡ tokens = cc in
    ap (λ ts. counted_if (list_any is_operator parts) site.name.pp.place (length ts) pieces.progress >>= λ counted. Ok (record { tokens = finished site hidden ts; progress = counted })) same
    ∙ ap (λ r. r >>= λ counted. Ok (record { tokens = finished site hidden tokens; progress = counted })) counted
joined-over site hidden parts pieces tokens stop (Err other) left counted = cc

paste-stops : (site : Site) (hidden : HiddenNumbers) (parts : List Part) (pieces : Filled) (stop : Stop) (r : Result (List Piece) Stop)
    → (r >>= λ joined. Ok (tokens_of joined)) ≡ Err stop → (r >>= after_paste site hidden parts pieces) ≡ Err stop
paste-stops site hidden parts pieces stop (Ok joined) left = cc
paste-stops site hidden parts pieces stop (Err other) left = let same : other ≡ stop = cc in ap Err same

pub put_together-is : (site : Site) (hidden : HiddenNumbers) (parts : List Part) (pieces : Filled) (tokens : List Item) (q : Progress)
    → tokens_left site pieces.pieces ≡ Ok tokens → counted_if (list_any is_operator parts) site.name.pp.place (length tokens) pieces.progress ≡ Ok q
    → put_together site hidden parts pieces ≡ Ok (gives (finished site hidden tokens) q)
unfolding put_together tokens_left
put_together-is site hidden parts pieces tokens q left counted = joined-is site hidden parts pieces tokens q (pasted site pieces.pieces) left counted

pub put_together-paste-stops : (site : Site) (hidden : HiddenNumbers) (parts : List Part) (pieces : Filled) (stop : Stop)
    → tokens_left site pieces.pieces ≡ Err stop → put_together site hidden parts pieces ≡ Err stop
unfolding put_together tokens_left
put_together-paste-stops site hidden parts pieces stop left = paste-stops site hidden parts pieces stop (pasted site pieces.pieces) left

pub put_together-count-stops : (site : Site) (hidden : HiddenNumbers) (parts : List Part) (pieces : Filled) (tokens : List Item) (stop : Stop)
    → tokens_left site pieces.pieces ≡ Ok tokens → counted_if (list_any is_operator parts) site.name.pp.place (length tokens) pieces.progress ≡ Err stop
    → put_together site hidden parts pieces ≡ Err stop
unfolding put_together tokens_left
put_together-count-stops site hidden parts pieces tokens stop left counted = joined-over site hidden parts pieces tokens stop (pasted site pieces.pieces) left counted

-- EXPANSION

pub tokens_before-token : (out : List Item) (item : Item) (r : Result Output Stop) → tokens_before out (token_before item r) ≡ tokens_before (out ++ item ∷ []) r
unfolding token_before
tokens_before-token out item (Ok output) = ap (λ (x : List Item). Ok (gives x output.progress)) (sym (append_assoc out (item ∷ []) output.tokens))
tokens_before-token out item (Err stop) = refl

pub tokens_before-nothing : (r : Result Output Stop) → tokens_before [] r ≡ r
tokens_before-nothing (Ok output) = refl
tokens_before-nothing (Err stop) = refl

pub tokens_before-append : (out more : List Item) (r : Result Output Stop) → tokens_before out (tokens_before more r) ≡ tokens_before (out ++ more) r
tokens_before-append out more (Ok output) = ap (λ (x : List Item). Ok (gives x output.progress)) (sym (append_assoc out more output.tokens))
tokens_before-append out more (Err stop) = refl
