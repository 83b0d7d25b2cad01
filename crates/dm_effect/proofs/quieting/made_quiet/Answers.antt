-- By what its body returns alone.
use Rattle.std.proofs.Common.{◌≡◌, ℕ, Bool, true, false, ◌&&◌, ◌==◌, not, List, Option, ap, refl, sym, ◌∙◌}
use Rattle.dm_type.specs.Tables.{Table}
use Rattle.dm_tree.specs.declared.unit.CoreExternalForm.{CoreExternalForm}
use Rattle.dm_tree.specs.Trees.{Tree}
use Rattle.dm_tree.specs.Views.{view_of_form}
use Rattle.dm_effect.specs.Entities.{passes}
use Rattle.dm_effect.specs.Questions.{is_quiet_since}
use Rattle.dm_effect.specs.Quiet.{is_quiet_with}
use Rattle.dm_effect.specs.Tables.{joins}
use Rattle.dm_effect.proofs.quieting.made_quiet.Goals as goal

abbrev joined_by : Table → List (Option ℕ) → ℕ → ℕ → CoreExternalForm → Bool
joined_by types since token d form = joins (is_quiet_since since token) d (view_of_form types form)

abbrev with_value : List (Option ℕ) → ℕ → Bool → Option Tree → Bool
with_value since token this value = this && passes (is_quiet_with (is_quiet_since since token)) value

and_false : (b : Bool) → (b && false) ≡ false
and_false true = refl
and_false false = refl

and_true : (b : Bool) → (b && true) ≡ b
and_true true = refl
and_true false = refl

pub returns-in-None : goal.returns-in-None
returns-in-None c types d =
    ap (joined_by types c.args.since.now c.args.token d) c.in-Function.is
    ∙ (ap (with_value c.args.since.now c.args.token (c.in-Function.function == d)) (c.in-None.ensures types) ∙ and_false (c.in-Function.function == d))

pub returns-then-any_node : goal.returns-then-any_node
returns-then-any_node c types d =
    ap (joined_by types c.args.since.now c.args.token d) c.in-Function.is
    ∙ (ap (with_value c.args.since.now c.args.token (c.in-Function.function == d)) (c.in-Some.ensures types)
    ∙ (ap (λ b. (c.in-Function.function == d) && not b) (sym (c.any_node.ensures types) ∙ c.if-any_node.true) ∙ and_false (c.in-Function.function == d)))

pub returns-else-any_node : goal.returns-else-any_node
returns-else-any_node c types d =
    ap (joined_by types c.args.since.now c.args.token d) c.in-Function.is
    ∙ (ap (with_value c.args.since.now c.args.token (c.in-Function.function == d)) (c.in-Some.ensures types)
    ∙ (ap (λ b. (c.in-Function.function == d) && not b) (sym (c.any_node.ensures types) ∙ c.if-any_node.false) ∙ and_true (c.in-Function.function == d)))
