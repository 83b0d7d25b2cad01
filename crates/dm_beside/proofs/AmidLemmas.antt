-- What is told by a fact of which only is known that it holds, and what makes an argument stable.
use Rattle.std.proofs.Common.{◌≡◌, Bool, true, false, ◌&&◌, ◌||◌, List, ap, ◌∙◌}
use Rattle.std.proofs.Math.Logic.{∥∥₁_elim}
use Rattle.std.specs.Coded.{codes}
use Rattle.std.specs.List.{list_all}
use Rattle.dm_tree.specs.Trees.{Tree}
use Rattle.dm_tree.specs.Units.{TypedUnit}
use Rattle.dm_effect.specs.Quiet.{is_quiet}
use Rattle.dm_effect.specs.Stable.{is_pure, is_stable_among, is_steady}

pub same-answer : {Fact : Type 0} → ∥ Fact ∥₁ → (a b : Bool) → (Fact → a ≡ b) → a ≡ b
same-answer holds a b told = ∥∥₁_elim holds (hlevel codes) told

module _ (one : TypedUnit) (trees : List Tree) (argument : Tree) where
  pub acting : is_pure argument ≡ false → is_stable_among one trees argument ≡ false
  acting acts = ap (λ b. b && (list_all (is_quiet one) trees || is_steady one trees argument)) acts

  pub quiet : is_pure argument ≡ true → list_all (is_quiet one) trees ≡ true → is_stable_among one trees argument ≡ true
  quiet pure all = ap (λ b. b && (list_all (is_quiet one) trees || is_steady one trees argument)) pure ∙ ap (λ b. b || is_steady one trees argument) all

  pub steady : is_pure argument ≡ true → list_all (is_quiet one) trees ≡ false → is_stable_among one trees argument ≡ is_steady one trees argument
  steady pure some = ap (λ b. b && (list_all (is_quiet one) trees || is_steady one trees argument)) pure ∙ ap (λ b. b || is_steady one trees argument) some
