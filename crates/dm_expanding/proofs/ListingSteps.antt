-- Steps of the listing of a unit's tokens.
use Rattle.std.proofs.Common.{◌≡◌, ◌≢◌, ◌∙◌, ℕ, ◌+◌, ◌<◌, ◌≤◌, List, [], ◌∷◌, ◌++◌, length, drop, get_or, refl, sym, ap, ap₂, arith, append_assoc, drop-cons, drop_of_length-le, add-one}
use Rattle.std.proofs.lemmas.Bool.{eq-eqb, ne_eqb}
use Rattle.dm_token.specs.declared.place.Place.{Place}
use Rattle.dm_token.specs.declared.token.Token.{Token}
use Rattle.dm_token.specs.declared.expansion.Expansion.{Expansion}
use Rattle.dm_expand.specs.Predefined.{name_of}
use Rattle.dm_expanding.specs.Listings.{AgreesFrom, gap, listed_behind, root}

-- the name of the first expansion, where it has the number
pub name_of-first : (instance : ℕ) (expansions : List Expansion) (first : Expansion) (others : List Expansion) (other : Place) → expansions ≡ first ∷ others → first.instance ≡ instance
    → name_of instance expansions other ≡ first.name
unfolding name_of
name_of-first instance expansions first others other is has = ap (λ e. name_of instance e other) is ∙ rw (eq-eqb first.instance instance has) refl

-- the name is that among the others, where the first has another number
pub name_of-others : (instance : ℕ) (expansions : List Expansion) (first : Expansion) (others : List Expansion) (other : Place) → expansions ≡ first ∷ others → first.instance ≢ instance
    → name_of instance others other ≡ name_of instance expansions other
unfolding name_of
name_of-others instance expansions first others other is differs =
    sym (ap (λ e. name_of instance e other) is ∙ rw (ne_eqb first.instance instance differs) refl)

-- there is no name where there are no expansions
pub name_of-none : (instance : ℕ) (expansions : List Expansion) (other : Place) → length expansions ≡ 0 → name_of instance expansions other ≡ other
unfolding name_of
name_of-none instance [] other none = refl
name_of-none instance (first ∷ others) other none = absurd (omega arith)

-- the first expansion is passed over
pub agrees-others : (all rest : List Expansion) (first : Expansion) (others : List Expansion) (least more : ℕ) → rest ≡ first ∷ others → AgreesFrom all rest least → least ≤ more → first.instance < more
    → AgreesFrom all others more
agrees-others all rest first others least more is agrees above passed instance other order =
    let differs : first.instance ≢ instance = λ same. omega arith in
    name_of-others instance rest first others other is differs ∙ agrees instance other (omega arith)

-- a token more
pub listed_behind-token : (expansions : List Expansion) (before : Place) (tokens : List Token) (index : ℕ) (token : Token) (text more whole : List ℕ) (place : Place)
    → index < length tokens → token ≡ get_or tokens index token → place ≡ root expansions token → more ≡ (text ++ gap before place) ++ token.pp.spelling
    → text ++ listed_behind expansions before (drop index tokens) ≡ whole → more ++ listed_behind expansions place (drop (index + 1) tokens) ≡ whole
unfolding listed_behind
listed_behind-token expansions before tokens index token text more whole place inside is at added so_far =
    let behind = drop (index + 1) tokens in
    let next : drop index tokens ≡ token ∷ behind = drop-cons tokens index token inside ∙ ap₂ (λ (t : Token) (n : ℕ). t ∷ drop n tokens) (sym is) (sym (add-one index)) in
    let listed : listed_behind expansions before (drop index tokens) ≡ gap before place ++ (token.pp.spelling ++ listed_behind expansions place behind) =
    ap (listed_behind expansions before) next ∙ ap (λ p. gap before p ++ (token.pp.spelling ++ listed_behind expansions p behind)) (sym at) in
    ap (λ t. t ++ listed_behind expansions place behind) added
    ∙ append_assoc (text ++ gap before place) token.pp.spelling (listed_behind expansions place behind)
    ∙ append_assoc text (gap before place) (token.pp.spelling ++ listed_behind expansions place behind)
    ∙ ap (λ t. text ++ t) (sym listed)
    ∙ so_far

-- the end
pub listed_behind-end : (expansions : List Expansion) (before : Place) (tokens : List Token) (index : ℕ) → length tokens ≤ index → listed_behind expansions before (drop index tokens) ≡ 10 ∷ []
unfolding listed_behind
listed_behind-end expansions before tokens index past = ap (listed_behind expansions before) (drop_of_length-le tokens past)
