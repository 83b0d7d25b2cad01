-- Steps of the search for a unit in a list.
use Rattle.std.proofs.Common.{◌≡◌, ◌∙◌, suc, ℕ, ◌+◌, false, List, ◌∷◌, take, Some, All, sym, ap, ap₂, subst, arith, if◌then◌else◌, bytes_eq}
use Rattle.dm_token.specs.declared.unit.Unit.{Unit as Source}
use Rattle.dm_manifest.specs.Units.{IsLawful}
use Rattle.dm_sources.specs.Sources.{unit_named}

-- a unit with another main file is passed over
pub unit_named-others : (file : List ℕ) (units : List Source) (unit : Source) (others : List Source) → units ≡ unit ∷ others → bytes_eq unit.file file ≡ false
    → unit_named file others ≡ unit_named file units
unit_named-others file units unit others is other = sym (ap (unit_named file) is ∙ ap (λ b. if b then Some unit else unit_named file others) other)

-- the units behind the first are lawful
pub All-others : (units : List Source) (unit : Source) (others : List Source) → units ≡ unit ∷ others → All IsLawful units → All IsLawful others
All-others units unit others is lawful k d below =
    let first : All IsLawful (unit ∷ others) = subst (All IsLawful) is lawful in
    first (suc k) d (omega arith)

-- the items still to come, where one is taken
pub take-items : (items : List Source) (count : ℕ) (unit : Source) (others : List Source) (fewer : ℕ) → items ≡ unit ∷ others → fewer + 1 ≡ count → take count items ≡ unit ∷ take fewer others
take-items items count unit others fewer is counted =
    let more : count ≡ suc fewer = omega arith in
    ap₂ (λ (n : ℕ) (list : List Source). take n list) more is
