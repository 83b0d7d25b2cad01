-- The first cause of two lists, from those of each.
use Rattle.std.specs.Prelude.{◌≡◌, List, [], ◌∷◌, ◌++◌, Option, Some, None}
use Rattle.std.proofs.Common.{refl, ap, sym, ◌∙◌, arith}
use Rattle.dm_meaning.specs.declared.cause.Cause.{Cause}
use Rattle.dm_meaning.specs.Causes.{earlier, earliest}

-- the first of two causes in the table's order, where there are any
abbrev pub sooner : Option Cause → Option Cause → Option Cause
sooner None second = second
sooner (Some cause) second = Some (earlier cause second)

earlier-earlier : (a b : Cause) (c : Option Cause) → earlier a (Some (earlier b c)) ≡ earlier (earlier a (Some b)) c
earlier-earlier a b None = refl
earlier-earlier a b (Some c) = grind arith

sooner-sooner : (a : Cause) (b c : Option Cause) → sooner (Some a) (sooner b c) ≡ sooner (sooner (Some a) b) c
sooner-sooner a None c = refl
sooner-sooner a (Some b) c = ap Some (earlier-earlier a b c)

-- the first cause of two lists is the sooner of the first ones
pub earliest-append : (first second : List Cause) → earliest (first ++ second) ≡ sooner (earliest first) (earliest second)
earliest-append [] second = refl
earliest-append (cause ∷ causes) second = ap (λ later. sooner (Some cause) later) (earliest-append causes second) ∙ sooner-sooner cause (earliest causes) (earliest second)

pub joined : (a b : Option Cause) (first second : List Cause) → a ≡ earliest first → b ≡ earliest second → sooner a b ≡ earliest (first ++ second)
joined a b first second p q = ap (λ x. sooner x b) p ∙ (ap (sooner (earliest first)) q ∙ sym (earliest-append first second))
