-- Numbers that stay numbered when more types are.
use Rattle.std.specs.Prelude.{◌≡◌, ℕ, List, [], ◌∷◌, ◌++◌, length, All, Result, Ok, Err, IfOk, OnOk, OnErr}
use Rattle.std.proofs.Common.{arith, sym, subst, length-append}
use Rattle.std.proofs.Math.Seq.{get_or-append_seam}
use Rattle.std.proofs.lemmas.List.{get_or_append_left}
use Rattle.dm_type.specs.Tables.{Table, IsId}
use Rattle.dm_edeclarator.specs.declared.declarators.PlacedStep.{PlacedStep}
use Rattle.dm_edeclarator.specs.declared.declarators.Step.{Step}
use Rattle.dm_edeclarator.specs.declared.declarators.Step.TheVariants as step
use Rattle.dm_edeclarator.specs.declared.declarators.TypedParameter.{TypedParameter}
use Rattle.dm_edeclarator.specs.declared.specifiers.Said.{Said}
use Rattle.dm_edeclarator.specs.Steps.{SaidFits, ParametersFit, FitsIn, StepsFit, Anything}
use Rattle.dm_typing.specs.Views.{Begins}
use Rattle.dm_typing.proofs.LaterLemmas.{begins-length}

module _ (old new : Table) where
  pub id-later : (id : ℕ) → Begins old.shapes new.shapes → IsId old id → IsId new id
  id-later id more inside = let le = begins-length old.shapes new.shapes more in omega (arith, le, inside)

  pub said-later : (said : Said) → Begins old.shapes new.shapes → SaidFits old said → SaidFits new said
  said-later said more fits k d inside = id-later _ more (fits k d inside)

  pub parameters-later : (parameters : List TypedParameter) → Begins old.shapes new.shapes → ParametersFit old parameters → ParametersFit new parameters
  parameters-later parameters more fit k d inside = id-later _ more (fit k d inside)

  step-later : (one : Step) → Begins old.shapes new.shapes → FitsIn old one → FitsIn new one
  step-later (step.Pointing const) more fits = fits
  step-later (step.Arraying n) more fits = fits
  step-later (step.Calling parameters) more fits = parameters-later parameters more fits

  pub steps-later : (steps : List PlacedStep) → Begins old.shapes new.shapes → StepsFit old steps → StepsFit new steps
  steps-later steps more fit k d inside = step-later _ more (fit k d inside)

pub anything-if-ok : {A E : Type 0} (types : Table) (result : Result A E) → IfOk result (Anything types)
anything-if-ok types (Ok it) = tt
anything-if-ok types (Err fault) = tt

-- ---- parts of lists

pub all-parts : {A : Type 0} (P : A → Type 0) (xs : List A) (x : A) → All P (xs ++ x ∷ []) → All P xs × P x
all-parts P xs x all = (
  λ k d lt. subst P (get_or_append_left xs (x ∷ []) d k lt) (all k d (let l = length-append xs (x ∷ []) in omega (arith, l, lt))),
  subst P (get_or-append_seam xs x [] x) (all (length xs) x (let l = length-append xs (x ∷ []) in omega (arith, l))),
)

-- after a step that may fail
pub anyway : {A B E : Type 0} (P : A → Type 0) (answer : Result B E) (new one other : A) → OnOk answer (new ≡ one) → OnErr answer (new ≡ other) → P one → P other → P new
anyway P (Ok it) new one other ok err first second = subst P (sym ok) first
anyway P (Err fault) new one other ok err first second = subst P (sym err) second
