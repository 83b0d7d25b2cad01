-- Declarations in functions, in units of which one calls the added function.
use Rattle.std.specs.Prelude.{◌≡◌, refl, ℕ, All}
use Rattle.std.proofs.lemmas.List.Elements.{All-nil, All-cons}
use Rattle.dm_tree.specs.Trees.{Label, enumerator, object, function, declare, is_statement, Trees, no_trees, more_trees, listed}
use Rattle.dm_meaning.specs.Replaced.{relabelled}
use Rattle.dm_refine.specs.Calls.{IsEvaluated, AreEvaluated}

pub all_evaluated : (f : ℕ) (trees : Trees) → AreEvaluated f trees → All (IsEvaluated f) (listed trees)
all_evaluated f no_trees h = All-nil (IsEvaluated f)
all_evaluated f (more_trees first rest) h = All-cons (IsEvaluated f) first (listed rest) h.0 (all_evaluated f rest h.1)

-- a label with other numbers is a statement as before
pub same_statement : (rename : ℕ → ℕ) (label : Label) → is_statement (relabelled rename label) ≡ is_statement label
same_statement rename (enumerator d) = refl
same_statement rename (object d) = refl
same_statement rename (function d) = refl
same_statement rename (declare lengths declarators) = refl
same_statement rename label = refl
