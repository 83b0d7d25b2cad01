use Rattle.std.proofs.Common.{◌≡◌, ◌+◌, ◌<◌, ◌≤◌, ℕ, List, [], ◌∷◌, length, map, arith, refl, ap, ◌∙◌, sym}
use Rattle.dm_syn.specs.declared.declaration.Specifier.{Specifier}
use Rattle.dm_syn.specs.Capped.{capped}
use Rattle.dm_syn.specs.Heights.{words_node}
use Rattle.dm_syn.specs.Views as view
use Rattle.dm_syn.proofs.heights.words_node.Goals as goal

-- one specifier is no node
of_one : (words : List Specifier) → 1 ≤ length words → length words < 2 → (a : ℕ) → words_node (view.words (map view.specifier words)) a ≡ a
of_one [] some few a = absurd (omega (arith, some))
of_one (first ∷ []) some few a = refl
of_one (first ∷ second ∷ others) some few a = absurd (omega (arith, few))

-- more are one
of_more : (words : List Specifier) → 2 ≤ length words → (a : ℕ) → words_node (view.words (map view.specifier words)) a ≡ a + 1
of_more [] some a = absurd (omega (arith, some))
of_more (first ∷ []) some a = absurd (omega (arith, some))
of_more (first ∷ second ∷ others) some a = refl

pub returns-in-len1 : goal.returns-in-len1
returns-in-len1 c a is = is ∙ ap capped (sym (of_one c.args.words.now c.in-len1.len_at_least c.in-len1.len_below a))

pub returns-in-len2-up : goal.returns-in-len2-up
returns-in-len2-up c a is = c.over.ensures a is ∙ ap capped (sym (of_more c.args.words.now c.in-len2-up.len_at_least a))
