-- Which functions are quiet behind one more external declaration.
use Rattle.std.proofs.Common.{◌≡◌, ℕ, Bool, true, false, ◌&&◌, ◌||◌, ◌==◌, if◌then◌else◌, List, [], ◌∷◌, ◌++◌, refl, ap, ◌∙◌}
use Rattle.std.proofs.lemmas.List.Sums.{fold-append}
use Rattle.dm_tree.specs.Units.{External, ExternalForm, declares, defines_function}
use Rattle.dm_effect.specs.Quiet.{is_one_of, quiet_functions, returns_quietly, with_function, with_quiet}
use Rattle.dm_effect.specs.Tables.{joins}

joined : (e b : Bool) (f d : ℕ) (functions : List ℕ) → (f == d) ≡ e → is_one_of (if b then f ∷ functions else functions) d ≡ ((e && b) || is_one_of functions d)
joined true true f d functions is = ap (λ x. x || is_one_of functions d) is
joined false true f d functions is = ap (λ x. x || is_one_of functions d) is
joined true false f d functions is = refl
joined false false f d functions is = refl

pub with-function : (functions : List ℕ) (form : ExternalForm) (d : ℕ) → is_one_of (with_function functions form) d ≡ (joins (is_one_of functions) d form || is_one_of functions d)
with-function functions (declares declarators trees) d = refl
with-function functions (defines_function f parameters body) d = joined (f == d) (returns_quietly (is_one_of functions) body) f d functions refl

pub quiet-behind : (before : List External) (last : External) (d : ℕ)
    → is_one_of (quiet_functions (before ++ last ∷ [])) d ≡ (joins (is_one_of (quiet_functions before)) d last.form || is_one_of (quiet_functions before) d)
quiet-behind before last d =
    ap (λ functions. is_one_of functions d) (fold-append with_quiet [] before (last ∷ [])) ∙ with-function (quiet_functions before) last.form d
