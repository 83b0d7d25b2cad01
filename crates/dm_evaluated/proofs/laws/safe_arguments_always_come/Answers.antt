use Rattle.std.specs.Prelude.{◌≡◌, refl, ◌⊎◌, ℕ, Bool, true, false, ◌||◌, ◌==◌, List, [], ◌∷◌, map, Some, ℤ, is_some}
use Rattle.std.proofs.Common.{ap, sym, subst, inl, inr}
use Rattle.dm_type.specs.Tables.{Table}
use Rattle.dm_tree.specs.Constants.{constant}
use Rattle.dm_tree.specs.Trees.{Tree}
use Rattle.dm_tree.specs.Units.{TypedUnit}
use Rattle.dm_meaning.specs.Called.{is_static_number}
use Rattle.dm_meaning.specs.Programs.{Static, constant_of}
use Rattle.dm_meaning.specs.Units.{program_of}
use Rattle.dm_meaning.proofs.OptionLemmas.{and_left, and_right, is_some_some}
use Rattle.dm_effect.specs.Forms.{is_built}
use Rattle.dm_effect.specs.Safe.{safe_rule}
use Rattle.dm_effect.specs.Stable.{is_pure}
use Rattle.dm_initialised.specs.Units.{has_first_value}
use Rattle.dm_late.specs.Settled.{erased_program, erased_static}
use Rattle.dm_safe.specs.SafePrograms.{IsSafeTree, IsSetDeclaration}
use Rattle.dm_steady.proofs.StableLemmas.{pure_argument}
use Rattle.dm_in_place.specs.InPlace.{is_safe_in_place, is_set_at}
use Rattle.dm_evaluated.proofs.BodyLemmas.{bodies_spare}
use Rattle.dm_evaluated.proofs.laws.safe_arguments_always_come.Goals as goal

-- objects of static storage duration are the same ones
same_statics : (statics : List Static) (d : ℕ) → is_static_number (map erased_static statics) d ≡ is_static_number statics d
same_statics [] d = refl
same_statics (static ∷ statics) d = ap (λ b. (static.declared == d) || b) (same_statics statics d)

declared_too : (types : Table) (one : TypedUnit) (needs : ℕ → Bool) (d : ℕ) → IsSetDeclaration (program_of types one) needs d → IsSetDeclaration (erased_program (program_of types one)) needs d
declared_too types one needs d here = record {
  entry = here.entry;
  declared = here.declared;
  integer = here.integer;
  set = subst (λ b. (b ≡ true) ⊎ ((needs d ≡ true) × (b ≡ false))) (sym (same_statics (program_of types one).statics d)) here.set;
}

tree_safe : (types : Table) (one : TypedUnit) (tree : Tree) → is_safe_in_place types one tree ≡ true → IsSafeTree (erased_program (program_of types one)) (is_set_at one tree) tree
tree_safe types one tree e = record {
  pure = pure_argument tree (and_left (is_pure tree) (is_some (constant types one.declared tree) || is_built (safe_rule (is_set_at one tree)) tree) e);
  form = by_form (is_some (constant types one.declared tree)) refl (and_right (is_pure tree) (is_some (constant types one.declared tree) || is_built (safe_rule (is_set_at one tree)) tree) e);
}
  where
    by_form : (b : Bool) → is_some (constant types one.declared tree) ≡ b → (b || is_built (safe_rule (is_set_at one tree)) tree) ≡ true
        → ((z : ℤ) × (constant_of (erased_program (program_of types one)) tree ≡ Some z)) ⊎ (is_built (safe_rule (is_set_at one tree)) tree ≡ true)
    by_form true f g = inl (is_some_some (constant types one.declared tree) f)
    by_form false f g = inr g

pub returns : goal.returns
returns c types one typed scoped sound =
    c.settled_safe_expressions_always_come.ensures (program_of types one) (has_first_value one) (is_set_at one) (is_safe_in_place types one) sound
    (c.units_give_settled_programs.ensures types one (has_first_value one) (c.first_values_are_given.ensures one) scoped)
    (record {
      trees = tree_safe types one;
      objects = λ tree d e. declared_too types one (has_first_value one) d (c.set_objects_are_declared.ensures types one typed tree d e);
      initialisers = bodies_spare types one typed;
    })
