-- Quiet functions of a unit return the value of a tree that writes nothing.
--     quiet_before      a function that is quiet before a tree is quiet in the unit
--     are_quiet      each quiet function of a unit, since none is defined twice (6.9p3)
use Rattle.std.specs.Prelude.{nat_eq, ◌≡◌, refl, ◌⊎◌, ℕ, zero, suc, Bool, true, false, ◌||◌, ◌==◌, All, List, [], ◌∷◌, ◌++◌, fold, take, if◌then◌else◌}
use Rattle.std.specs.List.{AllByRecursion, IsDistinct}
use Rattle.std.proofs.Common.{ap, sym, ◌∙◌, subst, arith, inl, inr}
use Rattle.std.proofs.lemmas.Bool.{true≢false, false≢true}
use Rattle.std.proofs.lemmas.List.Elements.{All-head, All-tail}
use Rattle.dm_type.specs.Tables.{Table}
use Rattle.dm_tree.specs.Trees.{block, return, Tree, node, no_trees, more_trees}
use Rattle.dm_tree.specs.Typing.{FormFits, ExternalFits, IsWellTypedUnit, defined_by, defined_functions, file_scene, body_scene}
use Rattle.dm_tree.specs.Units.{Declaration, External, ExternalForm, declares, defines_function, TypedUnit}
use Rattle.dm_meaning.specs.Among.{IsAmong}
use Rattle.dm_meaning.specs.Programs.{Definition}
use Rattle.dm_meaning.specs.Units.{definitions_by, definitions_in}
use Rattle.dm_effect.specs.Quiet.{returns_quietly, is_one_of, with_function, with_quiet, quiet_functions, before}
use Rattle.dm_late.specs.Late.{ReturnsQuietly}
use Rattle.dm_standing.proofs.TypedLemmas.{typed_body}
use Rattle.dm_steady.proofs.PartLemmas.{IsTyped, typed_part}
use Rattle.dm_steady.proofs.StableLemmas.{quiet_tree}

or_right : (a b : Bool) → b ≡ true → (a || b) ≡ true
or_right true b e = refl
or_right false b e = e

-- ---- more functions become quiet

one_more : (b : Bool) (f g : ℕ) (functions : List ℕ) → is_one_of functions g ≡ true → is_one_of (if b then f ∷ functions else functions) g ≡ true
one_more true f g functions e = or_right (f == g) (is_one_of functions g) e
one_more false f g functions e = e

by_form : (functions : List ℕ) (form : ExternalForm) (g : ℕ) → is_one_of functions g ≡ true → is_one_of (with_function functions form) g ≡ true
by_form functions (declares declarators trees) g e = e
by_form functions (defines_function f parameters body) g e = one_more (returns_quietly (is_one_of functions) body) f g functions e

still_quiet : (functions : List ℕ) (externals : List External) (g : ℕ) → is_one_of functions g ≡ true → is_one_of (fold with_quiet functions externals) g ≡ true
still_quiet functions [] g e = e
still_quiet functions (external ∷ externals) g e = still_quiet (with_quiet functions external) externals g (by_form functions external.form g e)

quiet_later : (n : ℕ) (functions : List ℕ) (externals : List External) (g : ℕ) → is_one_of (fold with_quiet functions (take n externals)) g ≡ true → is_one_of (fold with_quiet functions externals) g ≡ true
quiet_later zero functions externals g e = still_quiet functions externals g (subst (λ (them : List External). is_one_of (fold with_quiet functions them) g ≡ true) (none externals) e)
  where
    none : (them : List External) → take 0 them ≡ []
    none [] = refl
    none (x ∷ xs) = refl
quiet_later (suc n) functions [] g e = e
quiet_later (suc n) functions (external ∷ externals) g e = quiet_later n (with_quiet functions external) externals g e

pub quiet_before : (one : TypedUnit) (g : ℕ) (tree : Tree) → is_one_of (quiet_functions (before tree one.externals)) g ≡ true → is_one_of (quiet_functions one.externals) g ≡ true
quiet_before one g tree e = quiet_later _ [] one.externals g e

-- ---- each is defined once

equal_nat : (a b : ℕ) → (a == b) ≡ true → a ≡ b
equal_nat a b e = grind (arith, e)

same_number : (n : ℕ) → nat_eq n n ≡ true
same_number n = grind arith

-- one that becomes quiet is defined there
by_test : (f g : ℕ) (functions others : List ℕ) (b : Bool) → is_one_of (if b then f ∷ functions else functions) g ≡ true → (is_one_of functions g ≡ true) ⊎ IsAmong g (f ∷ others)
by_test f g functions others true e = by_same (f == g) refl e
  where
    by_same : (b : Bool) → (f == g) ≡ b → (b || is_one_of functions g) ≡ true → (is_one_of functions g ≡ true) ⊎ IsAmong g (f ∷ others)
    by_same true is k = inr (inl (sym (equal_nat f g is)))
    by_same false is k = inl k
by_test f g functions others false e = inl e

became : (functions : List ℕ) (form : ExternalForm) (others : List ℕ) (g : ℕ) → (is_one_of (with_function functions form) g ≡ true) ⊎ IsAmong g others → (is_one_of functions g ≡ true) ⊎ IsAmong g (defined_by form ++ others)
became functions (declares declarators trees) others g h = h
became functions (defines_function f parameters body) others g (inl e) = by_test f g functions others (returns_quietly (is_one_of functions) body) e
became functions (defines_function f parameters body) others g (inr l) = inr (inr l)

was_defined : (functions : List ℕ) (externals : List External) (g : ℕ) → is_one_of (fold with_quiet functions externals) g ≡ true → (is_one_of functions g ≡ true) ⊎ IsAmong g (defined_functions externals)
was_defined functions [] g e = inl e
was_defined functions (external ∷ externals) g e = became functions external.form (defined_functions externals) g (was_defined (with_quiet functions external) externals g e)

each_of : (P : ℕ → Type 0) (list : List ℕ) → AllByRecursion P list → (g : ℕ) → IsAmong g list → P g
each_of P [] h g l = absurd l
each_of P (first ∷ list) h g (inl e) = subst P (sym e) h.0
each_of P (first ∷ list) h g (inr l) = each_of P list h.1 g l

distinct_ones : (f : ℕ) (list : List ℕ) → IsDistinct nat_eq (f ∷ list) → AllByRecursion (λ (y : ℕ). nat_eq f y ≡ false) list × IsDistinct nat_eq list
unfolding IsDistinct
distinct_ones f list h = h

-- ---- what it returns

quiet_body : (functions : List ℕ) (quiet : ℕ → Bool) → ((g : ℕ) → is_one_of functions g ≡ true → quiet g ≡ true) → (f : ℕ) (parameters : List ℕ) (body : Tree) → IsTyped body → returns_quietly (is_one_of functions) body ≡ true
    → ReturnsQuietly quiet (record { function = f; parameters = parameters; body = body })
quiet_body functions quiet up f parameters (node block kind spans (more_trees (node return item_kind item_spans (more_trees value no_trees)) no_trees)) typed e =
    record {
      kind = item_kind;
      spans = item_spans;
      value = value;
      returns_it = refl;
      quietly = quiet_tree (is_one_of functions) quiet up value
          (typed_part value (node block kind spans (more_trees (node return item_kind item_spans (more_trees value no_trees)) no_trees)) (record { way = 0 ∷ 0 ∷ []; leads = refl }) typed) e;
    }
quiet_body functions quiet up f parameters (node block kind spans (more_trees (node return item_kind item_spans (more_trees value (more_trees second rest))) no_trees)) typed e = absurd (false≢true e)
quiet_body functions quiet up f parameters (node block kind spans (more_trees (node return item_kind item_spans no_trees) no_trees)) typed e = absurd (false≢true e)
quiet_body functions quiet up f parameters (node block kind spans (more_trees (node label item_kind item_spans parts) no_trees)) typed e = absurd (false≢true e)
quiet_body functions quiet up f parameters (node block kind spans (more_trees first (more_trees second rest))) typed e = absurd (false≢true e)
quiet_body functions quiet up f parameters (node block kind spans no_trees) typed e = absurd (false≢true e)
quiet_body functions quiet up f parameters (node label kind spans parts) typed e = absurd (false≢true e)

module _ (types : Table) (declared : List Declaration) where
  abbrev AreSo : List ℕ → List External → Type 0
  AreSo functions externals =
      IsDistinct nat_eq (defined_functions externals) → AllByRecursion (λ (y : ℕ). is_one_of functions y ≡ false) (defined_functions externals) → All (ExternalFits (file_scene types declared)) externals
      → (definition : Definition) → IsAmong definition (definitions_in externals) → is_one_of (fold with_quiet functions externals) definition.function ≡ true
      → ReturnsQuietly (is_one_of (fold with_quiet functions externals)) definition

  not_both : (b : Bool) → b ≡ false → b ≡ true → ⊥
  not_both true e h = true≢false e
  not_both false e h = false≢true h

  -- the function of a definition, where others follow
  of_function : (functions : List ℕ) (f : ℕ) (parameters : List ℕ) (body : Tree) (externals : List External) → IsTyped body → is_one_of functions f ≡ false
      → AllByRecursion (λ (y : ℕ). nat_eq f y ≡ false) (defined_functions externals) → (b : Bool) → returns_quietly (is_one_of functions) body ≡ b
      → is_one_of (fold with_quiet (if b then f ∷ functions else functions) externals) f ≡ true
      → ReturnsQuietly (is_one_of (fold with_quiet (if b then f ∷ functions else functions) externals)) (record { function = f; parameters = parameters; body = body })
  of_function functions f parameters body externals typed new others true quiet e =
      quiet_body functions (is_one_of (fold with_quiet (f ∷ functions) externals))
      (λ g is. still_quiet (f ∷ functions) externals g (or_right (f == g) (is_one_of functions g) is)) f parameters body typed quiet
  of_function functions f parameters body externals typed new others false quiet e = by_side (was_defined functions externals f e)
    where
      by_side : (is_one_of functions f ≡ true) ⊎ IsAmong f (defined_functions externals)
          → ReturnsQuietly (is_one_of (fold with_quiet functions externals)) (record { function = f; parameters = parameters; body = body })
      by_side (inl is) = absurd (not_both (is_one_of functions f) new is)
      by_side (inr l) =
          let differs : nat_eq f f ≡ false = each_of (λ (y : ℕ). nat_eq f y ≡ false) (defined_functions externals) others f l in
          absurd (not_both (nat_eq f f) differs (same_number f))

  none_more : (functions : List ℕ) (f : ℕ) (b : Bool) (list : List ℕ) → AllByRecursion (λ (y : ℕ). nat_eq f y ≡ false) list → AllByRecursion (λ (y : ℕ). is_one_of functions y ≡ false) list
      → AllByRecursion (λ (y : ℕ). is_one_of (if b then f ∷ functions else functions) y ≡ false) list
  none_more functions f b [] h k = tt
  none_more functions f b (y ∷ list) h k = (by_bool b, none_more functions f b list h.1 k.1)
    where
      both : (a c : Bool) → a ≡ false → c ≡ false → (a || c) ≡ false
      both true c e g = e
      both false c e g = g

      by_bool : (b : Bool) → is_one_of (if b then f ∷ functions else functions) y ≡ false
      by_bool true = both (f == y) (is_one_of functions y) h.0 k.0
      by_bool false = k.0

  behind_form : (functions : List ℕ) (form : ExternalForm) (externals : List External) → ((more : List ℕ) → AreSo more externals) → IsDistinct nat_eq (defined_by form ++ defined_functions externals)
      → AllByRecursion (λ (y : ℕ). is_one_of functions y ≡ false) (defined_by form ++ defined_functions externals) → FormFits (file_scene types declared) form → All (ExternalFits (file_scene types declared)) externals
      → (definition : Definition) → IsAmong definition (definitions_by form ++ definitions_in externals) → is_one_of (fold with_quiet (with_function functions form) externals) definition.function ≡ true
      → ReturnsQuietly (is_one_of (fold with_quiet (with_function functions form) externals)) definition
  behind_form functions (declares declarators trees) externals rest distinct new fits others_fit definition l e = rest functions distinct new others_fit definition l e
  behind_form functions (defines_function f parameters body) externals rest distinct new fits others_fit definition (inl same) e =
      let it = typed_body types declared f parameters body fits in
      let ones = distinct_ones f (defined_functions externals) distinct in
      let b = returns_quietly (is_one_of functions) body in
      subst (ReturnsQuietly (is_one_of (fold with_quiet (if b then f ∷ functions else functions) externals))) (sym same)
      (of_function functions f parameters body externals (body_scene (file_scene types declared) it.result, it.typed) new.0 ones.0 b refl
      (ap (λ (one : Definition). is_one_of (fold with_quiet (if b then f ∷ functions else functions) externals) one.function) (sym same) ∙ e))
  behind_form functions (defines_function f parameters body) externals rest distinct new fits others_fit definition (inr l) e =
      let ones = distinct_ones f (defined_functions externals) distinct in
      let b = returns_quietly (is_one_of functions) body in
      rest (if b then f ∷ functions else functions) ones.1 (none_more functions f b (defined_functions externals) ones.0 new.1) others_fit definition l e

  all_quiet : (externals : List External) (functions : List ℕ) → AreSo functions externals
  all_quiet [] functions distinct new fit definition l e = absurd l
  all_quiet (external ∷ externals) functions distinct new fit definition l e =
      behind_form functions external.form externals (all_quiet externals) distinct new (All-head (ExternalFits (file_scene types declared)) external externals fit).2
      (All-tail (ExternalFits (file_scene types declared)) external externals fit) definition l e

none_yet : (list : List ℕ) → AllByRecursion (λ (y : ℕ). is_one_of [] y ≡ false) list
none_yet [] = tt
none_yet (y ∷ list) = (refl, none_yet list)

pub are_quiet : (types : Table) (one : TypedUnit) → IsWellTypedUnit types one → (definition : Definition) → IsAmong definition (definitions_in one.externals)
    → is_one_of (quiet_functions one.externals) definition.function ≡ true → ReturnsQuietly (is_one_of (quiet_functions one.externals)) definition
are_quiet types one typed definition l e =
    all_quiet types one.declared one.externals [] typed.once (none_yet (defined_functions one.externals)) typed.externals definition l e
