use Rattle.std.proofs.Common.{◌≡◌, ◌<◌, ◌≤◌, true, false, List, [], ◌∷◌, length, map, arith, refl}
use Rattle.dm_syn.specs.declared.declaration.Specifier.{Specifier}
use Rattle.dm_syn.specs.Views as view
use Rattle.dm_names.specs.Seen.{is_one_word}
use Rattle.dm_names.proofs.declarations.is_one_word.Goals as goal

of_one : (words : List Specifier) → 1 ≤ length words → length words < 2 → true ≡ is_one_word (view.words (map view.specifier words))
of_one [] some few = absurd (omega (arith, some))
of_one (first ∷ []) some few = refl
of_one (first ∷ second ∷ others) some few = absurd (omega (arith, few))

of_more : (words : List Specifier) → 2 ≤ length words → false ≡ is_one_word (view.words (map view.specifier words))
of_more [] some = absurd (omega (arith, some))
of_more (first ∷ []) some = absurd (omega (arith, some))
of_more (first ∷ second ∷ others) some = refl

pub returns-in-len1 : goal.returns-in-len1
returns-in-len1 c = of_one c.args.words.now c.in-len1.len_at_least c.in-len1.len_below

pub returns-in-len2-up : goal.returns-in-len2-up
returns-in-len2-up c = of_more c.args.words.now c.in-len2-up.len_at_least
