-- Lists whose expansion waits for that of an argument.
use Rattle.std.proofs.Common.{◌≡◌, ℕ, suc, ◌+◌, ◌-◌, Bool, true, false, not, ◌==◌, List, [], ◌∷◌, ◌++◌, length, map, Option, Some, None, refl, sym, ap, ◌∙◌, arith, append_assoc, Result, Ok, Err}
use Rattle.std.specs.List.{list_any}
use Rattle.std.proofs.lemmas.Bool.{ne_eqb}
use Rattle.std.proofs.lemmas.List.{map-append}
use Rattle.std.specs.Option.{is_some}
use Rattle.dm_token.specs.declared.stop.Stop.{Stop}
use Rattle.dm_token.specs.declared.token.PpToken.{PpToken}
use Rattle.dm_token.specs.declared.token.Token.{Token}
use Rattle.dm_token.specs.declared.expansion.Definition.{Definition}
use Rattle.dm_expand.specs.HideSets.{HiddenNumbers}
use Rattle.dm_macro.specs.Signs.{is_hash_hash}
use Rattle.dm_expand.specs.declared.head.Invocation as code_invocation
use Rattle.dm_expand.specs.declared.machine.Level as code_level
use Rattle.dm_expand.specs.declared.machine.Waiting as code_waiting
use Rattle.dm_expand.specs.Items.{Item}
use Rattle.dm_expand.specs.Steps.{Progress, Output, ◌>>=◌, begin}
use Rattle.dm_macro.specs.Bodies.{Part, whole, parts_of}
use Rattle.dm_expand.specs.Pastes.{Site, Piece, token}
use Rattle.dm_expand.specs.Substitution.{Filled, filled, filled_all, placed, argument_for, substituted}
use Rattle.dm_expand.specs.Expansion.{Macros, expanded, replaced, site_of, token_of}
use Rattle.dm_expand.specs.Views.{pieces_in}
use Rattle.dm_expand.specs.ListViews.{gives, fills, pieces_before, tokens_before, counted_if, invocation_value}
use Rattle.dm_expand.specs.Works.{parts_from, argument_pieces, put_together, goes_on, completed, completed_whole, filled_behind, taken_up, outward, scanned_on, invoked_on, passed_on, found_on, ArePut, load}
use Rattle.dm_expand.proofs.SubstitutionLemmas.{operators-are, parts_of-is, pieces_before-append, pieces_before-nothing, tokens_before-append, tokens_before-nothing}

-- A PART THAT WAITS

counted-then : (macros : Macros) (site : Site) (counts : Bool) (parts : List Part) (pieces : List Piece) (r : Result Progress Stop)
    → (r >>= λ counted. filled_all (expanded macros) site counts parts counted >>= λ others. Ok (fills (pieces ++ others.pieces) others.progress))
    ≡ (r >>= λ counted. pieces_before pieces (filled_all (expanded macros) site counts parts counted))
counted-then macros site counts parts pieces (Ok counted) = others-then (filled_all (expanded macros) site counts parts counted)
  where
    others-then : (r : Result Filled Stop) → (r >>= λ others. Ok (fills (pieces ++ others.pieces) others.progress)) ≡ pieces_before pieces r
    others-then (Ok others) = refl
    others-then (Err stop) = refl
counted-then macros site counts parts pieces (Err stop) = refl

-- a parameter whose argument is expanded first
pub filled_all-whole : (macros : Macros) (site : Site) (counts : Bool) (pp : PpToken) (parameter occurrence : ℕ) (parts : List Part) (p : Progress)
    → filled_all (expanded macros) site counts (whole pp parameter occurrence ∷ parts) p
    ≡ (expanded macros (argument_for site parameter) p >>= λ output. filled_behind macros site counts parts (map token (placed site pp parameter occurrence output.tokens)) output.progress)
unfolding filled_all filled filled_behind
filled_all-whole macros site counts pp parameter occurrence parts p = by_result (expanded macros (argument_for site parameter) p)
  where
    by_result : (r : Result Output Stop)
        → ((r >>= λ expanded. Ok (fills (map token (placed site pp parameter occurrence expanded.tokens)) expanded.progress)) >>= λ first.
        counted_if counts site.name.pp.place (length first.pieces) first.progress >>= λ counted.
        filled_all (expanded macros) site counts parts counted >>= λ others. Ok (fills (first.pieces ++ others.pieces) others.progress))
        ≡ (r >>= λ output. filled_behind macros site counts parts (map token (placed site pp parameter occurrence output.tokens)) output.progress)
    by_result (Ok output) = counted-then macros site counts parts (map token (placed site pp parameter occurrence output.tokens)) (counted_if counts site.name.pp.place (length (map token (placed site pp parameter occurrence output.tokens))) output.progress)
    by_result (Err stop) = refl

-- LISTS

pub outward-nothing : (macros : Macros) (inner : Result Output Stop) → outward macros [] inner ≡ inner
unfolding outward
outward-nothing macros inner = refl

pub outward-push : (macros : Macros) (waiting : List code_waiting.Waiting) (waits : code_waiting.Waiting) (inner : Result Output Stop)
    → outward macros (waiting ++ waits ∷ []) inner ≡ outward macros waiting (taken_up macros waits inner)
unfolding outward
outward-push macros [] waits inner = refl
outward-push macros (other ∷ waiting) waits inner = ap (taken_up macros other) (outward-push macros waiting waits inner)

pub completed-stops : (macros : Macros) (level : code_level.Level) (site : Site) (hidden : HiddenNumbers) (definition : Definition) (stop : Stop) → completed macros level site hidden definition (Err stop) ≡ Err stop
unfolding completed
completed-stops macros level site hidden definition stop = refl

pub taken_up-stops : (macros : Macros) (waits : code_waiting.Waiting) (stop : Stop) → taken_up macros waits (Err stop) ≡ Err stop
unfolding taken_up completed
taken_up-stops macros waits stop = refl

pub outward-stops : (macros : Macros) (waiting : List code_waiting.Waiting) (stop : Stop) → outward macros waiting (Err stop) ≡ Err stop
unfolding outward
outward-stops macros [] stop = refl
outward-stops macros (waits ∷ waiting) stop = ap (taken_up macros waits) (outward-stops macros waiting stop) ∙ taken_up-stops macros waits stop

pub load-push : (waiting : List code_waiting.Waiting) (waits : code_waiting.Waiting) → load (waiting ++ waits ∷ []) ≡ load waiting + suc (length waits.filling.body.definition.now.body - waits.whole.behind)
unfolding load
load-push [] waits = omega arith
load-push (other ∷ waiting) waits = omega (arith, load-push waiting waits)

-- ITS STEPS

-- a part that waits is taken up with the expansion of its argument
pub taken_up-whole : (macros : Macros) (waits : code_waiting.Waiting) (p : Progress)
    → completed_whole macros waits.level waits.filling waits.whole p ≡ taken_up macros waits (expanded macros (argument_for waits.filling.site waits.whole.parameter) p)
unfolding taken_up
taken_up-whole macros waits p =
    ap (λ (r : Result Filled Stop). completed macros waits.level waits.filling.site waits.filling.hidden waits.filling.body.definition.now (pieces_before (pieces_in waits.filling.pieces) r))
    (filled_all-whole macros waits.filling.site (not (list_any is_hash_hash waits.filling.body.definition.now.body)) waits.whole.token.now waits.whole.parameter waits.whole.occurrence (parts_from waits.filling.body.definition.now waits.whole.behind) p)

-- an argument's list is entered
pub enter-is : (macros : Macros) (waiting : List code_waiting.Waiting) (waits : code_waiting.Waiting) (inner : code_level.Level) (p : Progress)
    → inner.out.items ≡ [] → inner.rest ≡ argument_for waits.filling.site waits.whole.parameter
    → outward macros waiting (completed_whole macros waits.level waits.filling waits.whole p) ≡ outward macros (waiting ++ waits ∷ []) (scanned_on macros inner p)
enter-is macros waiting waits inner p nothing argument =
    ap (outward macros waiting) (taken_up-whole macros waits p)
    ∙ ap (λ (xs : List Item). outward macros waiting (taken_up macros waits (expanded macros xs p))) (sym argument)
    ∙ ap (λ (r : Result Output Stop). outward macros waiting (taken_up macros waits r)) (sym (tokens_before-nothing (expanded macros inner.rest p)))
    ∙ ap (λ (xs : List Item). outward macros waiting (taken_up macros waits (tokens_before xs (expanded macros inner.rest p)))) (sym nothing)
    ∙ sym (outward-push macros waiting waits (scanned_on macros inner p))

-- a replacement goes before what follows its invocation
pub leave-is : (macros : Macros) (level after : code_level.Level) (site : Site) (hidden : HiddenNumbers) (definition : Definition) (pieces : Filled) (tokens : List Item) (q : Progress)
    → put_together site hidden (parts_of definition) pieces ≡ Ok (gives tokens q) → after.rest ≡ tokens ++ level.rest → after.out.items ≡ level.out.items
    → completed macros level site hidden definition (Ok pieces) ≡ scanned_on macros after q
unfolding completed
leave-is macros level after site hidden definition pieces tokens q together rest out =
    ap (λ (r : Result Output Stop). tokens_before level.out.items (r >>= goes_on macros level)) together
    ∙ ap (λ (xs : List Item). tokens_before level.out.items (expanded macros xs q)) (sym rest)
    ∙ ap (λ (xs : List Item). tokens_before xs (expanded macros after.rest q)) (sym out)

pub leave-stops : (macros : Macros) (level : code_level.Level) (site : Site) (hidden : HiddenNumbers) (definition : Definition) (pieces : Filled) (stop : Stop)
    → put_together site hidden (parts_of definition) pieces ≡ Err stop → completed macros level site hidden definition (Ok pieces) ≡ Err stop
unfolding completed
leave-stops macros level site hidden definition pieces stop together =
    ap (λ (r : Result Output Stop). tokens_before level.out.items (r >>= goes_on macros level)) together

-- an argument that is expanded takes its parameter's place
pub take_up-is : (macros : Macros) (waits : code_waiting.Waiting) (output : Output) (more all : List Piece) (q : Progress)
    → more ≡ argument_pieces waits.filling.site waits.whole output.tokens
    → counted_if (not (list_any is_hash_hash waits.filling.body.definition.now.body)) waits.filling.site.name.pp.place (length (argument_pieces waits.filling.site waits.whole output.tokens)) output.progress ≡ Ok q
    → all ≡ pieces_in waits.filling.pieces ++ more
    → taken_up macros waits (Ok output)
    ≡ completed macros waits.level waits.filling.site waits.filling.hidden waits.filling.body.definition.now (pieces_before all
    (filled_all (expanded macros) waits.filling.site (not (list_any is_hash_hash waits.filling.body.definition.now.body)) (parts_from waits.filling.body.definition.now waits.whole.behind) q))
unfolding taken_up filled_behind
take_up-is macros waits output more all q is counted are =
    let becomes : Result Filled Stop → Result Output Stop = λ r. completed macros waits.level waits.filling.site waits.filling.hidden waits.filling.body.definition.now r in
    let pieces : List Piece = pieces_in waits.filling.pieces in
    let others : Progress → Result Filled Stop = λ p. filled_all (expanded macros) waits.filling.site (not (list_any is_hash_hash waits.filling.body.definition.now.body)) (parts_from waits.filling.body.definition.now waits.whole.behind) p in
    ap (λ (r : Result Progress Stop). becomes (pieces_before pieces (r >>= λ counted. pieces_before (argument_pieces waits.filling.site waits.whole output.tokens) (others counted)))) counted
    ∙ ap (λ (xs : List Piece). becomes (pieces_before pieces (pieces_before xs (others q)))) (sym is)
    ∙ ap becomes (pieces_before-append pieces more (others q))
    ∙ ap (λ (xs : List Piece). becomes (pieces_before xs (others q))) (sym are)

pub take_up-count-stops : (macros : Macros) (waits : code_waiting.Waiting) (output : Output) (stop : Stop)
    → counted_if (not (list_any is_hash_hash waits.filling.body.definition.now.body)) waits.filling.site.name.pp.place (length (argument_pieces waits.filling.site waits.whole output.tokens)) output.progress ≡ Err stop
    → taken_up macros waits (Ok output) ≡ Err stop
unfolding taken_up filled_behind completed
take_up-count-stops macros waits output stop counted =
    let counts : Bool = not (list_any is_hash_hash waits.filling.body.definition.now.body) in
    let others : Progress → Result Filled Stop = λ p. filled_all (expanded macros) waits.filling.site counts (parts_from waits.filling.body.definition.now waits.whole.behind) p in
    ap (λ (r : Result Progress Stop). completed macros waits.level waits.filling.site waits.filling.hidden waits.filling.body.definition.now (pieces_before (pieces_in waits.filling.pieces) (r >>= λ counted. pieces_before (argument_pieces waits.filling.site waits.whole output.tokens) (others counted)))) counted

-- a macro is replaced
pub replace-is : (macros : Macros) (level : code_level.Level) (invocation : code_invocation.Invocation) (site : Site) (p q : Progress)
    → site ≡ site_of (invocation_value invocation level.rest) p.instance
    → begin invocation.found.number invocation.name invocation.foreign p ≡ Ok q
    → invoked_on macros level invocation p
    ≡ completed macros level site invocation.hidden invocation.found.body.definition.now (pieces_before [] (filled_all (expanded macros) site (not (list_any is_hash_hash invocation.found.body.definition.now.body)) (parts_from invocation.found.body.definition.now 0) q))
unfolding completed replaced substituted put_together
replace-is macros level invocation site p q is begun =
    let definition : Definition = invocation.found.body.definition.now in
    let value = invocation_value invocation level.rest in
    let all : Result Filled Stop → Result Output Stop = λ r. completed macros level site invocation.hidden definition r in
    ap (λ (r : Result Progress Stop). tokens_before level.out.items (r >>= λ begun. substituted (expanded macros) (site_of value p.instance) invocation.hidden (parts_of definition) begun >>= goes_on macros level)) begun
    ∙ ap (λ (s : Site). tokens_before level.out.items (substituted (expanded macros) s invocation.hidden (parts_of definition) q >>= goes_on macros level)) (sym is)
    ∙ ap (λ (b : Bool). all (filled_all (expanded macros) site (not b) (parts_of definition) q)) (operators-are definition)
    ∙ ap (λ (parts : List Part). all (filled_all (expanded macros) site (not (list_any is_hash_hash definition.body)) parts q)) (parts_of-is definition)
    ∙ ap all (sym (pieces_before-nothing (filled_all (expanded macros) site (not (list_any is_hash_hash definition.body)) (parts_from definition 0) q)))

pub replace-stops : (macros : Macros) (level : code_level.Level) (invocation : code_invocation.Invocation) (p : Progress) (stop : Stop)
    → begin invocation.found.number invocation.name invocation.foreign p ≡ Err stop → invoked_on macros level invocation p ≡ Err stop
unfolding replaced
replace-stops macros level invocation p stop begun =
    let value = invocation_value invocation level.rest in
    ap (λ (r : Result Progress Stop). tokens_before level.out.items (r >>= λ begun. substituted (expanded macros) (site_of value p.instance) invocation.hidden (parts_of invocation.found.body.definition.now) begun >>= goes_on macros level)) begun

-- WHAT IS PUT OUT

-- tokens that were put out of a list before
pub passed-put : (macros : Macros) (level after : code_level.Level) (found : Option code_invocation.Invocation) (p : Progress) (more : List Item)
    → level.out.items ≡ more ++ after.out.items → after.rest ≡ level.rest → passed_on macros level found p ≡ tokens_before more (passed_on macros after found p)
passed-put macros level after None p more out rest =
    ap (λ (xs : List Item). tokens_before xs (expanded macros level.rest p)) out
    ∙ sym (tokens_before-append more after.out.items (expanded macros level.rest p))
    ∙ ap (λ (xs : List Item). tokens_before more (tokens_before after.out.items (expanded macros xs p))) (sym rest)
passed-put macros level after (Some invocation) p more out rest =
    let made : List Item → Result Output Stop = λ behind. replaced (expanded macros) (invocation_value invocation behind) p in
    ap (λ (xs : List Item). tokens_before xs (made level.rest)) out
    ∙ sym (tokens_before-append more after.out.items (made level.rest))
    ∙ ap (λ (xs : List Item). tokens_before more (tokens_before after.out.items (made xs))) (sym rest)

-- tokens that are put out after others
pub put_behind : (before mid after : List Token) (more behind : List Item) → mid ≡ before ++ map token_of more → after ≡ mid ++ map token_of behind → after ≡ before ++ map token_of (more ++ behind)
put_behind before mid after more behind first second =
    second ∙ ap (λ (xs : List Token). xs ++ map token_of behind) first ∙ append_assoc before (map token_of more) (map token_of behind) ∙ ap (λ (xs : List Token). before ++ xs) (sym (map-append token_of more behind))

-- the same, where of an inner list none are put out
pub put-more : (outermost : Bool) (before mid after : List Token) (more behind : List Item) → ArePut outermost before more mid → ArePut outermost mid behind after → ArePut outermost before (more ++ behind) after
put-more outermost before mid after more behind first second = (
  put_behind before mid after more behind first.0 second.0,
  λ inner. ap (λ (xs : List Item). xs ++ behind) (first.1 inner) ∙ second.1 inner,
)

-- none are put out of a list that isn't the outermost one
pub outward-put : (macros : Macros) (waiting : List code_waiting.Waiting) (more : List Item) (r : Result Output Stop)
    → ((length waiting == 0) ≡ false → more ≡ []) → outward macros waiting (tokens_before more r) ≡ tokens_before more (outward macros waiting r)
outward-put macros [] more r none = outward-nothing macros (tokens_before more r) ∙ ap (tokens_before more) (sym (outward-nothing macros r))
outward-put macros (waits ∷ waiting) more r none =
    let nothing : more ≡ [] = none (ne_eqb (length (waits ∷ waiting)) 0 (λ (e : length (waits ∷ waiting) ≡ 0). omega (arith, e))) in
    ap (outward macros (waits ∷ waiting)) (ap (λ (xs : List Item). tokens_before xs r) nothing ∙ tokens_before-nothing r)
    ∙ sym (ap (λ (xs : List Item). tokens_before xs (outward macros (waits ∷ waiting) r)) nothing ∙ tokens_before-nothing (outward macros (waits ∷ waiting) r))

-- where a macro is replaced next in the midst of a list, and else the list goes on
pub passed_on-found : (macros : Macros) (level : code_level.Level) (found : Option code_invocation.Invocation) (p : Progress) → is_some found ≡ true → passed_on macros level found p ≡ found_on macros level found p
passed_on-found macros level None p is = cc
passed_on-found macros level (Some invocation) p is = refl
