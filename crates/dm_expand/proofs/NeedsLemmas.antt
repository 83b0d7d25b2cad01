-- Parts of a replacement list whose arguments are the same among others become the same.
use Rattle.std.proofs.Common.{◌≡◌, ℕ, ◌+◌, Bool, true, false, not, cond, ◌||◌, List, [], ◌∷◌, ◌++◌, length, map, set, Option, Some, None, refl, sym, ap, ◌∙◌, arith, Result, Ok, Err}
use Rattle.std.specs.FinSet as finite
use Rattle.std.specs.List.{list_any}
use Rattle.std.proofs.lemmas.Bool.{eqb-false}
use Rattle.std.proofs.lemmas.List.{get_or-set_other}
use Rattle.dm_macro.proofs.RoleLemmas.{places-first}
use Rattle.dm_token.specs.declared.stop.Stop.{Stop}
use Rattle.dm_token.specs.declared.token.PpKind.{PpKind}
use Rattle.dm_token.specs.declared.token.PpKind.TheVariants.{Literal}
use Rattle.dm_token.specs.declared.token.PpToken.{PpToken}
use Rattle.dm_token.specs.declared.expansion.Definition.{Definition}
use Rattle.dm_expand.specs.HideSets.{HiddenNumbers}
use Rattle.dm_macro.specs.Signs.{is_hash, is_hash_hash}
use Rattle.dm_expand.specs.declared.machine.Level as code_level
use Rattle.dm_expand.specs.declared.machine.Waiting as code_waiting
use Rattle.dm_expand.specs.Items.{Item, first_with_blank}
use Rattle.dm_expand.specs.Steps.{Progress, Output, ◌>>=◌, take_argument}
use Rattle.dm_macro.specs.Bodies.{Part, plain, hash, beside, whole, paste, part_of, other_part, parameter_part, token_part, parts_behind, parts_of, places_of, parameter_of, is_last, is_first, is_at, first_parameter}
use Rattle.dm_expand.specs.Strings.{quoted}
use Rattle.dm_expand.specs.Pastes.{Site, Piece, token, placemarker, operator, made, no_token, joined_as, joined_tokens, joined_with, joined, piece_before, pasted_behind, pasted, tokens_of}
use Rattle.dm_expand.specs.Substitution.{Expander, Filled, filled, filled_all, placed, operands, argument_for, argument_item, body_item, finished, is_operator}
use Rattle.dm_expand.specs.Expansion.{Macros, expanded}
use Rattle.dm_expand.specs.Views.{pieces_in}
use Rattle.dm_expand.specs.ListViews.{gives, fills, pieces_before, tokens_before, counted_if}
use Rattle.dm_expand.specs.Works.{parts_from, argument_pieces, put_together, goes_on, completed, filled_behind, taken_up}
use Rattle.dm_expand.specs.Needs.{with_others, IsServed, AreServed}
use Rattle.dm_expand.proofs.ListLemmas.{map-same}

-- WITHOUT AN ARGUMENT THAT NO TOKEN NAMES

-- the arguments without the one for a parameter
abbrev without : Site → ℕ → List (List Item)
without site parameter = set site.arguments parameter []

spared : (site : Site) (parameter other : ℕ) → is_at parameter (Some other) ≡ false → argument_for (with_others site (without site parameter)) other ≡ argument_for site other
unfolding argument_for is_at
spared site parameter other apart = get_or-set_other site.arguments parameter other [] [] (eqb-false other parameter apart)

token_part-served : (site : Site) (parameter : ℕ) (pp : PpToken) (next : Option ℕ) → is_at parameter next ≡ false → AreServed site (without site parameter) (token_part pp next ∷ [])
unfolding token_part
token_part-served site parameter pp None apart = (tt, tt)
token_part-served site parameter pp (Some other) apart =
    elim (is_hash pp) as (λ b. AreServed site (without site parameter) (cond b (hash pp other) (plain pp) ∷ [])) [
      | true ↦ (spared site parameter other apart, tt)
      | false ↦ (tt, tt)
    ]

parameter_part-served : (site : Site) (parameter : ℕ) (names : List (List ℕ)) (before : List PpToken) (pp : PpToken) (behind : List PpToken) (other : ℕ)
    → is_at parameter (Some other) ≡ false → AreServed site (without site parameter) (parameter_part names before pp behind other)
unfolding parameter_part
parameter_part-served site parameter names before pp behind other apart =
    elim (is_last is_hash before) as (λ b. AreServed site (without site parameter) (cond b [] (cond (is_last is_hash_hash before || is_first is_hash_hash behind) (beside pp other (places_of names other before) ∷ []) (whole pp other (places_of names other before) ∷ [])))) [
      | true ↦ tt
      | false ↦ elim (is_last is_hash_hash before || is_first is_hash_hash behind) as (λ b. AreServed site (without site parameter) (cond b (beside pp other (places_of names other before) ∷ []) (whole pp other (places_of names other before) ∷ []))) [
        | true ↦ (spared site parameter other apart, tt)
        | false ↦ (spared site parameter other apart, tt)
      ]
    ]

other_part-served : (site : Site) (parameter : ℕ) (names : List (List ℕ)) (before : List PpToken) (pp : PpToken) (behind : List PpToken) (mine : Option ℕ)
    → is_at parameter mine ≡ false → is_at parameter (first_parameter names behind) ≡ false → AreServed site (without site parameter) (other_part names before pp behind mine)
unfolding other_part
other_part-served site parameter names before pp behind None apart next = token_part-served site parameter pp (first_parameter names behind) next
other_part-served site parameter names before pp behind (Some other) apart next = parameter_part-served site parameter names before pp behind other apart

part_of-served : (site : Site) (parameter : ℕ) (names : List (List ℕ)) (before : List PpToken) (pp : PpToken) (behind : List PpToken)
    → is_at parameter (parameter_of names pp) ≡ false → is_at parameter (first_parameter names behind) ≡ false → AreServed site (without site parameter) (part_of names before pp behind)
unfolding part_of
part_of-served site parameter names before pp behind apart next =
    elim (is_hash_hash pp) as (λ b. AreServed site (without site parameter) (cond b (paste pp ∷ []) (other_part names before pp behind (parameter_of names pp)))) [
      | true ↦ (tt, tt)
      | false ↦ other_part-served site parameter names before pp behind (parameter_of names pp) apart next
    ]

served-append : (site : Site) (others : List (List Item)) (parts more : List Part) → AreServed site others parts → AreServed site others more → AreServed site others (parts ++ more)
served-append site others [] more first second = second
served-append site others (part ∷ parts) more first second = (first.0, served-append site others parts more first.1 second)

head-unnamed : (names : Bool) (count : ℕ) → cond names 1 0 + count ≡ 0 → names ≡ false
head-unnamed true count none = absurd (omega arith)
head-unnamed false count none = refl

rest-unnamed : (names : Bool) (count : ℕ) → cond names 1 0 + count ≡ 0 → count ≡ 0
rest-unnamed true count none = absurd (omega arith)
rest-unnamed false count none = omega arith

first-unnamed : (names : List (List ℕ)) (parameter : ℕ) (tokens : List PpToken) → places_of names parameter tokens ≡ 0 → is_at parameter (first_parameter names tokens) ≡ false
unfolding first_parameter is_at
first-unnamed names parameter [] none = refl
first-unnamed names parameter (pp ∷ others) none = head-unnamed (is_at parameter (parameter_of names pp)) (places_of names parameter others) (sym (places-first names parameter pp others) ∙ none)

-- where no token names a parameter, its argument isn't needed
pub unnamed-served : (site : Site) (names : List (List ℕ)) (parameter : ℕ) (before tokens : List PpToken)
    → places_of names parameter tokens ≡ 0 → AreServed site (set site.arguments parameter []) (parts_behind names before tokens)
unfolding parts_behind
unnamed-served site names parameter before [] none = tt
unnamed-served site names parameter before (pp ∷ behind) none =
    let counted : cond (is_at parameter (parameter_of names pp)) 1 0 + places_of names parameter behind ≡ 0 = sym (places-first names parameter pp behind) ∙ none in
    let others : places_of names parameter behind ≡ 0 = rest-unnamed (is_at parameter (parameter_of names pp)) (places_of names parameter behind) counted in
    served-append site (without site parameter) (part_of names before pp behind) (parts_behind names (before ++ pp ∷ []) behind)
    (part_of-served site parameter names before pp behind (head-unnamed (is_at parameter (parameter_of names pp)) (places_of names parameter behind) counted) (first-unnamed names parameter behind others))
    (unnamed-served site names parameter (before ++ pp ∷ []) behind others)

-- the arguments themselves serve
pub all-served : (site : Site) (parts : List Part) → AreServed site site.arguments parts
all-served site [] = tt
all-served site (plain pp ∷ parts) = (tt, all-served site parts)
all-served site (hash pp parameter ∷ parts) = (refl, all-served site parts)
all-served site (beside pp parameter occurrence ∷ parts) = (refl, all-served site parts)
all-served site (whole pp parameter occurrence ∷ parts) = (refl, all-served site parts)
all-served site (paste pp ∷ parts) = (tt, all-served site parts)

-- WHAT PARTS BECOME

-- steps that do the same do the same behind a step
then-same : {A B : Type 0} (one other : A → Result B Stop) (r : Result A Stop) → ((answer : A) → one answer ≡ other answer) → (r >>= one) ≡ (r >>= other)
then-same one other (Ok answer) same = same answer
then-same one other (Err stop) same = refl

argument_item-same : (site : Site) (others : List (List Item)) (parameter occurrence : ℕ) (item : Item) → argument_item (with_others site others) parameter occurrence item ≡ argument_item site parameter occurrence item
unfolding argument_item
argument_item-same site others parameter occurrence item = refl

placed-same : (site : Site) (others : List (List Item)) (pp : PpToken) (parameter occurrence : ℕ) (items : List Item) → placed (with_others site others) pp parameter occurrence items ≡ placed site pp parameter occurrence items
unfolding placed
placed-same site others pp parameter occurrence items =
    ap (first_with_blank pp.blank_before) (map-same (argument_item (with_others site others) parameter occurrence) (argument_item site parameter occurrence) items (argument_item-same site others parameter occurrence))

filled-same : (expander : Expander) (site : Site) (others : List (List Item)) (part : Part) (p : Progress) → IsServed site others part → filled expander (with_others site others) part p ≡ filled expander site part p
unfolding filled made body_item
filled-same expander site others (plain pp) p same = refl
filled-same expander site others (hash pp parameter) p same =
    ap (λ (xs : List Item). Ok (fills (token (made site Literal (quoted xs) pp.blank_before finite.empty) ∷ []) (take_argument xs p))) same
filled-same expander site others (beside pp parameter occurrence) p same =
    ap (λ (xs : List Item). Ok (fills (operands pp.blank_before xs) (take_argument (argument_for (with_others site others) parameter) p))) (placed-same site others pp parameter occurrence (argument_for (with_others site others) parameter))
    ∙ ap (λ (xs : List Item). Ok (fills (operands pp.blank_before (placed site pp parameter occurrence xs)) (take_argument xs p))) same
filled-same expander site others (whole pp parameter occurrence) p same =
    let becomes : Site → Output → Result Filled Stop = λ s output. Ok (fills (map token (placed s pp parameter occurrence output.tokens)) output.progress) in
    ap (λ (xs : List Item). expander xs p >>= becomes (with_others site others)) same
    ∙ then-same (becomes (with_others site others)) (becomes site) (expander (argument_for site parameter) p) (λ output. ap (λ (xs : List Item). Ok (fills (map token xs) output.progress)) (placed-same site others pp parameter occurrence output.tokens))
filled-same expander site others (paste pp) p same = refl

-- parts that are served become the same
filled_all-same : (expander : Expander) (site : Site) (others : List (List Item)) (counts : Bool) (parts : List Part) (p : Progress)
    → AreServed site others parts → filled_all expander (with_others site others) counts parts p ≡ filled_all expander site counts parts p
unfolding filled_all
filled_all-same expander site others counts [] p served = refl
filled_all-same expander site others counts (part ∷ parts) p served =
    let joined_to : Filled → Filled → Result Filled Stop = λ first more. Ok (fills (first.pieces ++ more.pieces) more.progress) in
    let after : Site → Filled → Result Filled Stop = λ s first. counted_if counts site.name.pp.place (length first.pieces) first.progress >>= λ counted. filled_all expander s counts parts counted >>= joined_to first in
    ap (λ (r : Result Filled Stop). r >>= after (with_others site others)) (filled-same expander site others part p served.0)
    ∙ then-same (after (with_others site others)) (after site) (filled expander site part p) (λ first.
    then-same (λ counted. filled_all expander (with_others site others) counts parts counted >>= joined_to first) (λ counted. filled_all expander site counts parts counted >>= joined_to first)
    (counted_if counts site.name.pp.place (length first.pieces) first.progress)
    (λ counted. ap (λ (r : Result Filled Stop). r >>= joined_to first) (filled_all-same expander site others counts parts counted served.1)))

-- THE REPLACEMENT

joined_as-same : (site : Site) (others : List (List Item)) (left right : Item) (kind : Option PpKind) → joined_as (with_others site others) left right kind ≡ joined_as site left right kind
unfolding joined_as made no_token
joined_as-same site others left right (Some kind) = refl
joined_as-same site others left right None = refl

joined_tokens-same : (site : Site) (others : List (List Item)) (left right : Item) → joined_tokens (with_others site others) left right ≡ joined_tokens site left right
unfolding joined_tokens
joined_tokens-same site others left right = joined_as-same site others left right _

joined_with-same : (site : Site) (others : List (List Item)) (left : Item) (right : Piece) → joined_with (with_others site others) left right ≡ joined_with site left right
unfolding joined_with made
joined_with-same site others left (placemarker blank) = refl
joined_with-same site others left (token right) = joined_tokens-same site others left right
joined_with-same site others left (operator right) = joined_tokens-same site others left right

joined-same : (site : Site) (others : List (List Item)) (left right : Piece) → joined (with_others site others) left right ≡ joined site left right
unfolding joined made
joined-same site others (placemarker blank) (placemarker other) = refl
joined-same site others (placemarker blank) (token right) = refl
joined-same site others (placemarker blank) (operator right) = refl
joined-same site others (token left) right = joined_with-same site others left right
joined-same site others (operator left) right = joined_with-same site others left right

pasted_behind-same : (site : Site) (others : List (List Item)) (left : Piece) (pieces : List Piece) → pasted_behind (with_others site others) left pieces ≡ pasted_behind site left pieces
unfolding pasted_behind
pasted_behind-same site others left [] = refl
pasted_behind-same site others left (token right ∷ pieces) = ap (piece_before left) (pasted_behind-same site others (token right) pieces)
pasted_behind-same site others left (placemarker blank ∷ pieces) = ap (piece_before left) (pasted_behind-same site others (placemarker blank) pieces)
pasted_behind-same site others left (operator item ∷ []) = refl
pasted_behind-same site others left (operator item ∷ right ∷ pieces) =
    ap (λ (r : Result Piece Stop). r >>= λ both. pasted_behind (with_others site others) both pieces) (joined-same site others left right)
    ∙ then-same (λ both. pasted_behind (with_others site others) both pieces) (λ both. pasted_behind site both pieces) (joined site left right) (λ both. pasted_behind-same site others both pieces)

pasted-same : (site : Site) (others : List (List Item)) (pieces : List Piece) → pasted (with_others site others) pieces ≡ pasted site pieces
unfolding pasted
pasted-same site others [] = refl
pasted-same site others (piece ∷ pieces) = pasted_behind-same site others piece pieces

put_together-same : (site : Site) (others : List (List Item)) (hidden : HiddenNumbers) (parts : List Part) (pieces : Filled) → put_together (with_others site others) hidden parts pieces ≡ put_together site hidden parts pieces
unfolding put_together finished
put_together-same site others hidden parts pieces =
    ap (λ (r : Result (List Piece) Stop). r >>= λ joined. counted_if (list_any is_operator parts) site.name.pp.place (length (tokens_of joined)) pieces.progress >>= λ counted. Ok (gives (finished site hidden (tokens_of joined)) counted)) (pasted-same site others pieces.pieces)

completed-same : (macros : Macros) (level : code_level.Level) (site : Site) (others : List (List Item)) (hidden : HiddenNumbers) (definition : Definition) (given : Result Filled Stop)
    → completed macros level (with_others site others) hidden definition given ≡ completed macros level site hidden definition given
unfolding completed
completed-same macros level site others hidden definition given =
    ap (λ (r : Result Output Stop). tokens_before level.out.items (r >>= goes_on macros level))
    (then-same (put_together (with_others site others) hidden (parts_of definition)) (put_together site hidden (parts_of definition)) given (put_together-same site others hidden (parts_of definition)))

filled_behind-same : (macros : Macros) (site : Site) (others : List (List Item)) (counts : Bool) (parts : List Part) (pieces : List Piece) (p : Progress)
    → AreServed site others parts → filled_behind macros (with_others site others) counts parts pieces p ≡ filled_behind macros site counts parts pieces p
unfolding filled_behind
filled_behind-same macros site others counts parts pieces p served =
    let behind : Site → Progress → Result Filled Stop = λ s counted. pieces_before pieces (filled_all (expanded macros) s counts parts counted) in
    then-same (behind (with_others site others)) (behind site) (counted_if counts site.name.pp.place (length pieces) p) (λ counted. ap (pieces_before pieces) (filled_all-same (expanded macros) site others counts parts counted served))

-- the same that waits, with other arguments
abbrev pub waits_with : code_waiting.Waiting → List (List Item) → code_waiting.Waiting
waits_with waits others = record waits { filling = record waits.filling { site = with_others waits.filling.site others } }

-- What waits goes on in the same way with other arguments that serve what is behind.
pub taken_up-same : (macros : Macros) (waits : code_waiting.Waiting) (others : List (List Item)) (argument : Result Output Stop)
    → AreServed waits.filling.site others (parts_from waits.filling.body.definition.now waits.whole.behind) → taken_up macros (waits_with waits others) argument ≡ taken_up macros waits argument
unfolding taken_up
taken_up-same macros waits others argument served =
    let site : Site = waits.filling.site in
    let definition : Definition = waits.filling.body.definition.now in
    let counts : Bool = not (list_any is_hash_hash definition.body) in
    let parts : List Part = parts_from definition waits.whole.behind in
    let pieces : List Piece = pieces_in waits.filling.pieces in
    let behind : Site → Output → Result Filled Stop = λ s output. filled_behind macros s counts parts (argument_pieces s waits.whole output.tokens) output.progress in
    completed-same macros waits.level site others waits.filling.hidden definition (pieces_before pieces (argument >>= behind (with_others site others)))
    ∙ ap (λ (r : Result Filled Stop). completed macros waits.level site waits.filling.hidden definition (pieces_before pieces r))
    (then-same (behind (with_others site others)) (behind site) argument (λ output.
    ap (λ (xs : List Item). filled_behind macros (with_others site others) counts parts (map token xs) output.progress) (placed-same site others waits.whole.token.now waits.whole.parameter waits.whole.occurrence output.tokens)
    ∙ filled_behind-same macros site others counts parts (argument_pieces site waits.whole output.tokens) output.progress served))

-- It goes on in the same way in a list of the same tokens.
pub taken_up-level : (macros : Macros) (waits : code_waiting.Waiting) (level : code_level.Level) (argument : Result Output Stop)
    → level.rest ≡ waits.level.rest → level.out.items ≡ waits.level.out.items → taken_up macros (record waits { level = level }) argument ≡ taken_up macros waits argument
unfolding taken_up completed
taken_up-level macros waits level argument rest out =
    let site : Site = waits.filling.site in
    let definition : Definition = waits.filling.body.definition.now in
    let given : Result Filled Stop = pieces_before (pieces_in waits.filling.pieces) (argument >>= λ output. filled_behind macros site (not (list_any is_hash_hash definition.body)) (parts_from definition waits.whole.behind) (argument_pieces site waits.whole output.tokens) output.progress) in
    let together : Result Output Stop = given >>= put_together site waits.filling.hidden (parts_of definition) in
    let again : List Item → Output → Result Output Stop = λ behind replacement. expanded macros (replacement.tokens ++ behind) replacement.progress in
    ap (λ (xs : List Item). tokens_before xs (together >>= again level.rest)) out
    ∙ ap (λ (xs : List Item). tokens_before waits.level.out.items (together >>= again xs)) rest
