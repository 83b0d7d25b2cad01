-- What the laws of expansion say.
use Rattle.std.proofs.Common.{◌≡◌, ℕ, ◌<◌, ◌≤◌, Bool, true, false, ◌||◌, ◌&&◌, List, [], ◌∷◌, ◌++◌, length, get_or, eqb, arith, Some, Ok, refl, sym, ap, ◌∙◌}
use Rattle.std.specs.Prelude.{codes, bytes_eq}
use Rattle.std.specs.FinSet as set
use Rattle.std.proofs.lemmas.Bool.{cond-true, cond-false, false≢true}
use Rattle.dm_token.specs.declared.place.Place.{Place}
use Rattle.dm_token.specs.declared.token.PpToken.{PpToken}
use Rattle.dm_macro.specs.Signs.{is_word, is_identifier}
use Rattle.dm_expand.specs.Items.{Item}
use Rattle.dm_expand.specs.Steps.{Progress}
use Rattle.dm_expand.specs.Predefined.{is_predefined, predefined, root_of}
use Rattle.dm_expand.specs.Expansion.{Macros, Macro, put, head_of, head_by, macro_of, token_before, expanded}
use Rattle.dm_expand.specs.Laws.{IsNoName, AreNoNames}
use Rattle.dm_expand.proofs.ProgressLemmas.{expanded-nothing, expanded-put}

-- A token whose name is in its own hide set is put out as it is.
pub head_of-hidden : (macros : Macros) (macro : Macro) (item : Item) (rest : List Item) (p : Progress) → macro_of macros item.pp ≡ Some macro → set.contains item.hidden macro.number ≡ true → head_of macros p item rest ≡ put item
unfolding head_of head_by
head_of-hidden macros macro item rest p is hides = ap (λ found. head_by macros p found item rest) is ∙ cond-true _ _ _ hides

or_false : (a b : Bool) → (a || b) ≡ false → (a ≡ false) × (b ≡ false)
or_false true b e = absurd (false≢true (sym e))
or_false false b e = (refl, e)

-- a token that is no predefined name stays
pub predefined-stays : (files : List (List ℕ)) (root : Place) (item : Item) → is_predefined item.pp ≡ false → predefined files root item ≡ item
unfolding predefined
predefined-stays files root item is =
    let version = or_false _ (is_word (codes "__STDC_VERSION__") item.pp) is in
    let hosted = or_false _ (is_word (codes "__STDC_HOSTED__") item.pp) version.0 in
    let stdc = or_false _ (is_word (codes "__STDC__") item.pp) hosted.0 in
    let file = or_false (is_word (codes "__LINE__") item.pp) (is_word (codes "__FILE__") item.pp) stdc.0 in
    cond-false _ _ _ file.0 ∙ cond-false _ _ _ file.1 ∙ cond-false _ _ _ stdc.1 ∙ cond-false _ _ _ hosted.1 ∙ cond-false _ _ _ version.1

pub head_of-no_name : (macros : Macros) (item : Item) (rest : List Item) (p : Progress) → IsNoName macros item → head_of macros p item rest ≡ put item
unfolding head_of head_by
head_of-no_name macros item rest p is =
    ap (λ found. head_by macros p found item rest) is.no_macro ∙ ap put (predefined-stays macros.files (root_of p.expansions item.trail item.pp.place) item is.no_predefined)

and_false : (b : Bool) → (b && false) ≡ false
and_false true = refl
and_false false = refl

-- a word that begins otherwise
word-apart : (pp : PpToken) (word : List ℕ) → 1 ≤ length pp.spelling → eqb (get_or pp.spelling 0 0) 95 ≡ false → is_word (95 ∷ word) pp ≡ false
word-apart pp word some apart =
    elim pp.spelling as (λ spelling. 1 ≤ length spelling → eqb (get_or spelling 0 0) 95 ≡ false → (is_identifier pp && bytes_eq spelling (95 ∷ word)) ≡ false) [
      | [] ↦ λ some apart. absurd (omega arith)
      | first ∷ others ↦ λ some apart. ap (λ b. is_identifier pp && (b && bytes_eq others word)) apart ∙ and_false (is_identifier pp)
    ] some apart

word-empty : (pp : PpToken) (first : ℕ) (word : List ℕ) → length pp.spelling < 1 → is_word (first ∷ word) pp ≡ false
word-empty pp first word none =
    elim pp.spelling as (λ spelling. length spelling < 1 → (is_identifier pp && bytes_eq spelling (first ∷ word)) ≡ false) [
      | [] ↦ λ none. and_false (is_identifier pp)
      | x ∷ others ↦ λ none. absurd (omega arith)
    ] none

other-word : (word : List ℕ) (pp : PpToken) → is_identifier pp ≡ false → is_word word pp ≡ false
other-word word pp is = ap (λ b. b && bytes_eq pp.spelling word) is

neither : (a b : Bool) → a ≡ false → b ≡ false → (a || b) ≡ false
neither a b is are = ap (λ c. c || b) is ∙ are

-- a word that each predefined name differs from
no_word : (pp : PpToken) → ((word : List ℕ) → is_word (95 ∷ word) pp ≡ false) → is_predefined pp ≡ false
no_word pp other =
    neither _ _ (neither _ _ (neither _ _ (neither _ _ (other (codes "_LINE__")) (other (codes "_FILE__"))) (other (codes "_STDC__"))) (other (codes "_STDC_HOSTED__"))) (other (codes "_STDC_VERSION__"))

-- each predefined name begins with `_`
pub begins_otherwise : (pp : PpToken) → 1 ≤ length pp.spelling → eqb (get_or pp.spelling 0 0) 95 ≡ false → is_predefined pp ≡ false
begins_otherwise pp some apart = no_word pp (λ word. word-apart pp word some apart)

pub no_bytes : (pp : PpToken) → length pp.spelling < 1 → is_predefined pp ≡ false
no_bytes pp none = no_word pp (λ word. word-empty pp 95 word none)

-- what is no identifier names nothing
pub other-no_name : (macros : Macros) (item : Item) → is_identifier item.pp ≡ false → IsNoName macros item
unfolding macro_of
other-no_name macros item is =
    let other : (word : List ℕ) → is_word word item.pp ≡ false = λ word. other-word word item.pp is in
    record {
      no_macro = cond-false _ _ _ is;
      no_predefined =
          neither _ _ (neither _ _ (neither _ _ (neither _ _ (other (codes "__LINE__")) (other (codes "__FILE__"))) (other (codes "__STDC__"))) (other (codes "__STDC_HOSTED__"))) (other (codes "__STDC_VERSION__"));
    }

before_others : (item : Item) (items : List Item) (p : Progress) → token_before item (Ok (record { tokens = items; progress = p })) ≡ Ok (record { tokens = item ∷ items; progress = p })
unfolding token_before
before_others item items p = refl

-- A text without names of macros is its own expansion.
pub expanded-no_names : (macros : Macros) (items : List Item) (p : Progress) → AreNoNames macros items → expanded macros items p ≡ Ok (record { tokens = items; progress = p })
expanded-no_names macros [] p are = expanded-nothing macros p
expanded-no_names macros (item ∷ items) p are =
    expanded-put macros item item items p (head_of-no_name macros item items p are.0)
    ∙ ap (token_before item) (expanded-no_names macros items p are.1)
    ∙ before_others item items p

-- one token more that names nothing
pub no_names-more : (macros : Macros) (items : List Item) (item : Item) → AreNoNames macros items → IsNoName macros item → AreNoNames macros (items ++ item ∷ [])
no_names-more macros [] item are is = (is, tt)
no_names-more macros (first ∷ items) item are is = (are.0, no_names-more macros items item are.1 is)
