-- The value of a character constant is one of `long`.
use Rattle.std.proofs.Common.{rules, sym, arith}
use Rattle.std.proofs.lemmas.Int.{ints}
use Rattle.dm_int.specs.declared.Kind.TheVariants.{Long}
use Rattle.dm_int.specs.Kinds.{InRange}
use Rattle.dm_cond.proofs.Characters.{character-in_range}
use Rattle.dm_cond.proofs.symbol.character.Goals as goal

pub returns-clause-sound : goal.returns-clause-sound
returns-clause-sound c =
    let bounds : InRange Long c.in_ok-value.value = character-in_range c.args.spelling.now c.in_ok-value.value (sym c.in_ok-value.ensures) in
    let least = bounds.0 in
    let greatest = bounds.1 in
    first_of (search rules, omega (arith, ints), grind (arith, ints))
