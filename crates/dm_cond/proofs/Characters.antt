-- The value of a character constant is one of `long`.
use Rattle.std.proofs.Common.{◌≡◌, ℕ, ℤ, pos, List, Option, Some, None, option_map, option_and_then, arith, subst}
use Rattle.std.proofs.lemmas.Int.{ints}
use Rattle.dm_int.specs.declared.Kind.TheVariants.{Char, Long}
use Rattle.dm_int.specs.Kinds.{InRange, convert}
use Rattle.dm_int.specs.Ranges.{in_range-convert}
use Rattle.dm_ctok.specs.Escapes.{character_of, single, elements, between_quotes}

-- each value of `char` is one of `long`
widened : (v : ℤ) → InRange Char v → InRange Long v
widened v h = grind (arith, ints)

-- what is converted to `char`, if anything
converted : (o : Option ℕ) (v : ℤ) → option_map (λ value. convert Char (pos value)) o ≡ Some v → InRange Long v
converted None v e = absurd (cc)
converted (Some n) v e =
    let same : convert Char (pos n) ≡ v = cc in
    subst (InRange Long) same (widened (convert Char (pos n)) (in_range-convert Char (pos n)))

pub character-in_range : (spelling : List ℕ) (v : ℤ) → character_of spelling ≡ Some v → InRange Long v
unfolding character_of
character-in_range spelling v e = converted (option_and_then single (elements (between_quotes spelling))) v e
