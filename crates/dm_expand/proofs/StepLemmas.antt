-- Work that is counted, expansions that begin, and what is known of them.
use Rattle.std.proofs.Common.{◌≡◌, ℕ, suc, ◌+◌, ◌<◌, ◌≤◌, Bool, false, List, [], ◌∷◌, ◌++◌, refl, sym, ap, ◌∙◌, subst, arith, Result, Ok, Err}
use Rattle.std.proofs.lemmas.Bool.{cond-true, cond-false, le-leb, lt-leb}
use Rattle.dm_token.specs.Limits.{most_work}
use Rattle.dm_token.specs.declared.place.Place.{Place}
use Rattle.dm_token.specs.declared.stop.Stop.{Stop}
use Rattle.dm_token.specs.declared.stop.Stop.TheVariants.{Memory, Refused, Limit, ReadFault}
use Rattle.dm_token.specs.declared.expansion.Expansion.{Expansion}
use Rattle.dm_token.specs.declared.expansion.Mark.{Mark}
use Rattle.dm_expand.specs.Items.{Item}
use Rattle.dm_expand.specs.Steps.{Progress, ◌>>=◌, greatest_work, too_much, spend, begin}
use Rattle.std.specs.Result.{IsErrAnd, IfErr}
use Rattle.dm_expand.specs.Views.{StopsAs}
use Rattle.dm_expand.proofs.PasteLemmas.{stops_through}

pub greatest_work-is : greatest_work ≡ most_work
unfolding greatest_work
greatest_work-is = refl

pub spend-fits : (place : Place) (work : ℕ) (p : Progress) → p.spent + work ≤ most_work → spend place work p ≡ Ok (record p { spent = p.spent + work })
unfolding spend greatest_work
spend-fits place work p fits = cond-true _ _ _ (le-leb _ _ fits)

pub spend-over : (place : Place) (work : ℕ) (p : Progress) → most_work < p.spent + work → spend place work p ≡ Err (too_much place)
unfolding spend greatest_work
spend-over place work p over = cond-false _ _ _ (lt-leb _ _ over)

-- the expansions with one more
abbrev pub pushed : ℕ → Bool → Progress → Place → List Mark → List Expansion
pushed definition foreign counted place trail =
    counted.expansions ++ record { definition = definition; instance = counted.instance; name = place; trail = trail; taken = false; foreign = foreign } ∷ []

-- an expansion that has begun
abbrev pub begun : ℕ → Item → Bool → Progress → Progress
begun definition name foreign counted =
    record { instance = suc counted.instance; spent = counted.spent; expansions = pushed definition foreign counted name.pp.place name.trail }

pub begun-is : (definition : ℕ) (name : Item) (foreign : Bool) (counted : Progress) (expansions : List Expansion) → expansions ≡ pushed definition foreign counted name.pp.place name.trail
    → begun definition name foreign counted ≡ record { instance = counted.instance + 1; spent = counted.spent; expansions = expansions }
begun-is definition name foreign counted expansions are =
    let more : suc counted.instance ≡ counted.instance + 1 = omega arith in
    let with_instance : ℕ → Progress = λ n. record { instance = n; spent = counted.spent; expansions = pushed definition foreign counted name.pp.place name.trail } in
    let with_expansions : List Expansion → Progress = λ es. record { instance = counted.instance + 1; spent = counted.spent; expansions = es } in
    ap with_instance more ∙ ap with_expansions (sym are)

began : ℕ → Item → Bool → Progress → Result Progress Stop
began definition name foreign counted = Ok (begun definition name foreign counted)

pub begin-counted : (definition : ℕ) (name : Item) (foreign : Bool) (p counted : Progress) → spend name.pp.place 1 p ≡ Ok counted → begin definition name foreign p ≡ Ok (begun definition name foreign counted)
unfolding begin began
begin-counted definition name foreign p counted is = ap (λ r. r >>= began definition name foreign) is

pub begin-stops : (definition : ℕ) (name : Item) (foreign : Bool) (p : Progress) (stop : Stop) → spend name.pp.place 1 p ≡ Err stop → begin definition name foreign p ≡ Err stop
unfolding begin began
begin-stops definition name foreign p stop is = ap (λ r. r >>= began definition name foreign) is

-- a stop that is one of what was to be done
pub stops-as : {A : Type 0} (meaning : Result A Stop) (stop : Stop) → meaning ≡ Err stop → StopsAs meaning stop
stops-as meaning Memory is = tt
stops-as meaning (Refused refusal) is = is
stops-as meaning (Limit limit) is = is
stops-as meaning (ReadFault file) is = is

-- a stop that is handed on
pub stops_handed : {A B : Type 0} (result : Result A Stop) (stop : Stop) (meaning : Result B Stop) → IsErrAnd result (λ e. e ≡ stop) → meaning ≡ Err stop → IfErr result (λ s. StopsAs meaning s)
stops_handed (Ok answer) stop meaning handed is = tt
stops_handed (Err e) stop meaning handed is = stops-as meaning e (is ∙ ap Err (sym handed))

pub stops_handed_as : {A B C : Type 0} (result : Result A Stop) (stop : Stop) (first : Result C Stop) (meaning : Result B Stop) → IsErrAnd result (λ e. e ≡ stop) → ((other : Stop) → first ≡ Err other → meaning ≡ Err other) → StopsAs first stop → IfErr result (λ s. StopsAs meaning s)
stops_handed_as (Ok answer) stop first meaning handed through is = tt
stops_handed_as (Err e) stop first meaning handed through is = stops_through first meaning e through (subst (StopsAs first) (sym handed) is)

-- the same for each of several meanings
pub stops_handed_each : {A B C I : Type 0} (result : Result A Stop) (stop : Stop) (first : I → Result C Stop) (meaning : I → Result B Stop) → IsErrAnd result (λ e. e ≡ stop) → ((i : I) (other : Stop) → first i ≡ Err other → meaning i ≡ Err other) → ((i : I) → StopsAs (first i) stop) → IfErr result (λ s. (i : I) → StopsAs (meaning i) s)
stops_handed_each (Ok answer) stop first meaning handed through are = tt
stops_handed_each (Err e) stop first meaning handed through are = λ i. stops_through (first i) (meaning i) e (through i) (subst (StopsAs (first i)) (sym handed) (are i))
