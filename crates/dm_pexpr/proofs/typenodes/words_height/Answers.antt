use Rattle.std.proofs.Common.{◌≡◌, ◌+◌, ◌<◌, ◌≤◌, ℕ, List, [], ◌∷◌, length, map, arith, refl, ◌∙◌, sym}
use Rattle.dm_syn.specs.declared.declaration.Specifier.{Specifier}
use Rattle.dm_syn.specs.Heights.{words_node}
use Rattle.dm_syn.specs.Views as view
use Rattle.dm_pexpr.proofs.typenodes.words_height.Goals as goal

-- one specifier is no node
of-one : (words : List Specifier) → 1 ≤ length words → length words < 2 → (a : ℕ) → words_node (view.words (map view.specifier words)) a ≡ a
of-one [] some few a = absurd (omega (arith, some))
of-one (first ∷ []) some few a = refl
of-one (first ∷ second ∷ others) some few a = absurd (omega (arith, few))

-- more are one
of-more : (words : List Specifier) → 2 ≤ length words → (a : ℕ) → words_node (view.words (map view.specifier words)) a ≡ a + 1
of-more [] some a = absurd (omega (arith, some))
of-more (first ∷ []) some a = absurd (omega (arith, some))
of-more (first ∷ second ∷ others) some a = refl

pub returns-in-len1 : goal.returns-in-len1
returns-in-len1 c small = sym (of-one c.args.words.now c.in-len1.len_at_least c.in-len1.len_below c.args.highest)

pub returns-in-len2-up : goal.returns-in-len2-up
returns-in-len2-up c small = c.over.ensures small ∙ sym (of-more c.args.words.now c.in-len2-up.len_at_least c.args.highest)
