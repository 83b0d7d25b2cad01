-- The automatic objects of a unit that have first values are as `IsInitialisedUnit` asks.
use Rattle.std.specs.Prelude.{◌≡◌, refl, ℕ, ◌==◌, Bool, true, false, not, ◌&&◌, ◌||◌, is_some, if◌then◌else◌, IsTrue, IsSome, All, List, [], ◌∷◌, ◌++◌}
use Rattle.std.specs.List.{list_all}
use Rattle.std.proofs.Common.{arith, sym, ap, ◌∙◌, subst, inl, inr}
use Rattle.std.proofs.lemmas.Bool.{false≢true}
use Rattle.std.proofs.lemmas.List.Elements.{All-nil, All-cons}
use Rattle.dm_tree.specs.Trees.{Label, declare, switch, Declarator, Tree, Trees, node, no_trees, more_trees}
use Rattle.dm_tree.specs.Units.{External, ExternalForm, declares, defines_function, TypedUnit}
use Rattle.dm_meaning.specs.Among.{IsAmong}
use Rattle.dm_meaning.proofs.OptionLemmas.{and_left, and_right}
use Rattle.dm_effect.specs.Scoped.{Scope, is_in_scope, is_automatic}
use Rattle.dm_initialised.specs.Settled.{GiveValues, declared_in_parts, AreOthers}
use Rattle.dm_initialised.specs.Units.{numbers_below, AreOnce, LabelGives, TreeGives, TreesGive, FormGives, IsInitialisedUnit, is_once, gives_first, given_by, given_in, given_in_all, given_in_form, has_first_value}

itself : (n : ℕ) → (n == n) ≡ true
itself n = grind arith

among_scope : (scope : Scope) (d : ℕ) → IsAmong d scope → is_in_scope scope d ≡ true
among_scope (c ∷ scope) d (inl e) = ap (λ n. (n == d) || is_in_scope scope d) (sym e) ∙ ap (λ b. b || is_in_scope scope d) (itself d)
among_scope (c ∷ scope) d (inr a) = or_right (c == d) (is_in_scope scope d) (among_scope scope d a)
  where
    or_right : (one other : Bool) → other ≡ true → (one || other) ≡ true
    or_right true other e = refl
    or_right false other e = e
among_scope [] d a = absurd a

module _ (needs : ℕ → Bool) where
  once_given : (ns : List ℕ) → ((d : ℕ) → needs d ≡ true → is_once d ns ≡ true) → AreOnce needs ns
  once_given [] h = tt
  once_given (n ∷ ns) h = (
    (λ e a. by_own (subst (λ b. (if b then not (is_in_scope ns n) else is_once n ns) ≡ true) (itself n) (h n e)) a),
    once_given ns (λ d e. by_test d (n == d) (h d e)),
  )
    where
      by_own : not (is_in_scope ns n) ≡ true → IsAmong n ns → ⊥
      by_own e a = false≢true (ap not (sym (among_scope ns n a)) ∙ e)

      once_absent : (ms : List ℕ) (d : ℕ) → not (is_in_scope ms d) ≡ true → is_once d ms ≡ true
      once_absent [] d e = refl
      once_absent (m ∷ ms) d e = pick (m == d) e (once_absent ms d)
        where
          pick : (b : Bool) → not (b || is_in_scope ms d) ≡ true → (not (is_in_scope ms d) ≡ true → is_once d ms ≡ true) → (if b then not (is_in_scope ms d) else is_once d ms) ≡ true
          pick true e later = absurd (false≢true e)
          pick false e later = later e

      by_test : (d : ℕ) (b : Bool) → (if b then not (is_in_scope ns d) else is_once d ns) ≡ true → is_once d ns ≡ true
      by_test d true e = once_absent ns d e
      by_test d false e = e

  -- a declarator of an object, where each of the object's gives it its first value
  gives_own : (one : Declarator) → gives_first one.declared one ≡ true → IsTrue one.defines × IsSome one.initialiser
  gives_own one e =
      let both = subst (λ b. (not b || (one.defines && is_some one.initialiser)) ≡ true) (itself one.declared) e in
      (and_left one.defines (is_some one.initialiser) both, and_right one.defines (is_some one.initialiser) both)

  values_given : (declarators : List Declarator) → ((d : ℕ) → needs d ≡ true → list_all (gives_first d) declarators ≡ true) → GiveValues needs declarators
  values_given [] h = tt
  values_given (one ∷ others) h = (
    (λ e. gives_own one (and_left (gives_first one.declared one) (list_all (gives_first one.declared) others) (h one.declared e))),
    values_given others (λ d e. and_right (gives_first d one) (list_all (gives_first d) others) (h d e)),
  )

  none_declared : (numbers : Scope) → ((d : ℕ) → needs d ≡ true → not (is_in_scope numbers d) ≡ true) → AreOthers needs numbers
  none_declared numbers h d e a = false≢true (ap not (sym (among_scope numbers d a)) ∙ h d e)

  label_gives : (label : Label) (parts : Trees) → ((d : ℕ) → needs d ≡ true → given_by d label parts ≡ true) → LabelGives needs label parts
  label_gives (declare lengths declarators) parts h = values_given declarators h
  label_gives switch parts h = none_declared (declared_in_parts parts) h
  label_gives label parts h = tt

  mutual
    tree_gives : (tree : Tree) → ((d : ℕ) → needs d ≡ true → given_in d tree ≡ true) → TreeGives needs tree
    tree_gives (node label kind spans parts) h = (
      label_gives label parts (λ d e. and_left (given_by d label parts) (given_in_all d parts) (h d e)),
      trees_give parts (λ d e. and_right (given_by d label parts) (given_in_all d parts) (h d e)),
    )

    trees_give : (trees : Trees) → ((d : ℕ) → needs d ≡ true → given_in_all d trees ≡ true) → TreesGive needs trees
    trees_give no_trees h = tt
    trees_give (more_trees first rest) h = (
      tree_gives first (λ d e. and_left (given_in d first) (given_in_all d rest) (h d e)),
      trees_give rest (λ d e. and_right (given_in d first) (given_in_all d rest) (h d e)),
    )

  form_gives : (form : ExternalForm) → ((d : ℕ) → needs d ≡ true → given_in_form d form ≡ true) → FormGives needs form
  form_gives (declares declarators trees) h = tt
  form_gives (defines_function f parameters body) h =
      let numbers : List ℕ = parameters ++ numbers_below body in (
        once_given numbers (λ d e. and_left (is_once d numbers) (given_in d body) (h d e)),
        tree_gives body (λ d e. and_right (is_once d numbers) (given_in d body) (h d e)),
      )

  all_give : (externals : List External) → ((d : ℕ) → needs d ≡ true → list_all (λ (external : External). given_in_form d external.form) externals ≡ true)
      → All (λ (external : External). FormGives needs external.form) externals
  all_give [] h = All-nil _
  all_give (one ∷ others) h =
      let Given : ℕ → External → Bool = λ d external. given_in_form d external.form in
      All-cons (λ (external : External). FormGives needs external.form) one others
      (form_gives one.form (λ d e. and_left (Given d one) (list_all (Given d) others) (h d e)))
      (all_give others (λ d e. and_right (Given d one) (list_all (Given d) others) (h d e)))

pub first_values_given : (one : TypedUnit) → IsInitialisedUnit (has_first_value one) one
first_values_given one =
    let given : ℕ → Bool = λ d. list_all (λ (external : External). given_in_form d external.form) one.externals in
    record {
      automatic = λ d e. and_left (is_automatic one.declared d) (given d) e;
      functions = all_give (has_first_value one) one.externals (λ d e. and_right (is_automatic one.declared d) (given d) e);
    }
