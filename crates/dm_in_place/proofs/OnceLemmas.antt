-- Where each automatic object is declared once, one that is a parameter has no declarator, and another one has one.
--     sole      two declarators of such an object are one
--     no_other      a parameter has none
--     first_given      an object all of whose declarators have initialisers has a first value
use Rattle.std.specs.Prelude.{◌≡◌, refl, ℕ, ◌==◌, Bool, true, false, not, ◌&&◌, ◌||◌, is_some, IfSome, IsSome, if◌then◌else◌, List, [], ◌∷◌, ◌++◌, map, take, drop, Option, Some, None, slice_get}
use Rattle.std.specs.List.{list_all, AllByRecursion}
use Rattle.std.proofs.Common.{ap, ap₂, sym, ◌∙◌, subst, inl, inr}
use Rattle.std.proofs.lemmas.Bool.{false≢true}
use Rattle.std.proofs.lemmas.List.{map-append}
use Rattle.dm_type.specs.CTypes.{CType}
use Rattle.dm_type.specs.Tables.{Table}
use Rattle.dm_tree.specs.Initialisers.{expressions_of, DeclaratorsFit, FitsEntry, InitialiserFits}
use Rattle.dm_tree.specs.Scenes.{Scene}
use Rattle.dm_tree.specs.Trees.{Declarator, Initialiser, Label, declare, switch, Spans, Tree, Trees, node, no_trees, more_trees, listed}
use Rattle.dm_tree.specs.Typing.{AreWellTyped, file_scene, FormFits, inside, IsWellTyped, IsWellTypedUnit}
use Rattle.dm_tree.specs.Units.{Declaration, External, ExternalForm, declares, defines_function, TypedUnit}
use Rattle.dm_meaning.specs.Among.{IsAmong}
use Rattle.dm_meaning.specs.Statements.{expressions_of as counted, Local, with_expressions}
use Rattle.dm_meaning.proofs.AmongLemmas.{among_left, among_right, among-map}
use Rattle.dm_meaning.proofs.GrowLemmas.{equal_of}
use Rattle.dm_meaning.proofs.OptionLemmas.{and_left, and_right}
use Rattle.dm_meaning.proofs.WholeLemmas.{statement-fits}
use Rattle.dm_sound.proofs.LocalLemmas.{same_count}
use Rattle.dm_effect.specs.Entities.{locals_here, locals_of_unit}
use Rattle.dm_effect.specs.Scoped.{declared_here, is_automatic, is_in_scope, is_scoped, is_scoped_external, is_scoped_form, IsScopedUnit}
use Rattle.dm_initialised.specs.Once.{FormSwitchesDeclareNothing, IsDeclaredOnce, numbers_of_form, numbers_of_functions, SwitchesDeclareNothing, AllSwitchesDeclareNothing}
use Rattle.dm_initialised.specs.Units.{AreOnce, given_by, given_in, given_in_all, given_in_form, gives_first, has_first_value, is_once, numbers_below, numbers_below_all}
use Rattle.dm_initialised.proofs.UnitLemmas.{once_apart, once_left, once_right, scope_among}
use Rattle.dm_in_place.proofs.LocalLemmas.{external_typed, function_typed, InForm, local_there, locals_below, locals_below_all, unit_local}

-- ---- numbers

abbrev pub number_of : Local → ℕ
number_of local = local.declarator.declared

with_numbers : (declarators : List Declarator) (trees : List Tree) → map number_of (with_expressions declarators trees) ≡ map (λ (one : Declarator). one.declared) declarators
with_numbers [] trees = refl
with_numbers (one ∷ others) trees = ap (λ them. one.declared ∷ them) (with_numbers others (drop (counted one.initialiser) trees))

here_numbers : (label : Label) (kind : CType) (spans : Spans) (parts : Trees) → map number_of (locals_here (node label kind spans parts)) ≡ declared_here label
here_numbers (declare lengths declarators) kind spans parts = with_numbers declarators (drop lengths (listed parts))
here_numbers label kind spans parts = refl

mutual
  below_numbers : (tree : Tree) → map number_of (locals_below tree) ≡ numbers_below tree
  below_numbers (node label kind spans parts) =
      map-append number_of (locals_here (node label kind spans parts)) (locals_below_all parts)
      ∙ ap₂ (λ (front back : List ℕ). front ++ back) (here_numbers label kind spans parts) (all_below_numbers parts)

  all_below_numbers : (trees : Trees) → map number_of (locals_below_all trees) ≡ numbers_below_all trees
  all_below_numbers no_trees = refl
  all_below_numbers (more_trees first rest) =
      map-append number_of (locals_below first) (locals_below_all rest) ∙ ap₂ (λ (front back : List ℕ). front ++ back) (below_numbers first) (all_below_numbers rest)

-- ---- one declarator

abbrev pub InBody : Local → ExternalForm → Type 0
InBody local (declares declarators trees) = ⊥
InBody local (defines_function f parameters body) = IsAmong local (locals_below body)

abbrev pub IsParameterOf : ℕ → ExternalForm → Type 0
IsParameterOf d (declares declarators trees) = ⊥
IsParameterOf d (defines_function f parameters body) = IsAmong d parameters

body_number : (form : ExternalForm) (local : Local) → InBody local form → IsAmong (number_of local) (numbers_of_form form)
body_number (declares declarators trees) local a = absurd a
body_number (defines_function f parameters body) local a =
    among_right (number_of local) parameters (numbers_below body) (subst (IsAmong (number_of local)) (below_numbers body) (among-map number_of local (locals_below body) a))

parameter_number : (form : ExternalForm) (d : ℕ) → IsParameterOf d form → IsAmong d (numbers_of_form form)
parameter_number (declares declarators trees) d a = absurd a
parameter_number (defines_function f parameters body) d a = among_left d parameters (numbers_below body) a

in_functions : (externals : List External) (external : External) (d : ℕ) → IsAmong external externals → IsAmong d (numbers_of_form external.form) → IsAmong d (numbers_of_functions externals)
in_functions [] external d a k = absurd a
in_functions (first ∷ rest) external d (inl e) k = among_left d (numbers_of_form first.form) (numbers_of_functions rest) (subst (λ (it : External). IsAmong d (numbers_of_form it.form)) e k)
in_functions (first ∷ rest) external d (inr a) k = among_right d (numbers_of_form first.form) (numbers_of_functions rest) (in_functions rest external d a k)

module _ (needs : ℕ → Bool) (d : ℕ) (needed : needs d ≡ true) where
  sole_listed : (locals : List Local) → AreOnce needs (map number_of locals) → (a b : Local) → IsAmong a locals → IsAmong b locals → number_of a ≡ d → number_of b ≡ d → a ≡ b
  sole_listed [] once a b x y e f = absurd x
  sole_listed (first ∷ rest) once a b (inl x) (inl y) e f = x ∙ sym y
  sole_listed (first ∷ rest) once a b (inl x) (inr y) e f =
      absurd (once.0 (subst (λ n. needs n ≡ true) (sym e ∙ ap number_of x) needed) (subst (λ n. IsAmong n (map number_of rest)) (f ∙ (sym e ∙ ap number_of x)) (among-map number_of b rest y)))
  sole_listed (first ∷ rest) once a b (inr x) (inl y) e f =
      absurd (once.0 (subst (λ n. needs n ≡ true) (sym f ∙ ap number_of y) needed) (subst (λ n. IsAmong n (map number_of rest)) (e ∙ (sym f ∙ ap number_of y)) (among-map number_of a rest x)))
  sole_listed (first ∷ rest) once a b (inr x) (inr y) e f = sole_listed rest once.1 a b x y e f

  sole_form : (form : ExternalForm) → AreOnce needs (numbers_of_form form) → (a b : Local) → InBody a form → InBody b form → number_of a ≡ d → number_of b ≡ d → a ≡ b
  sole_form (declares declarators trees) once a b x y e f = absurd x
  sole_form (defines_function g parameters body) once a b x y e f =
      sole_listed (locals_below body) (subst (AreOnce needs) (sym (below_numbers body)) (once_right needs parameters (numbers_below body) once)) a b x y e f

  number_there : (form : ExternalForm) (local : Local) → InBody local form → number_of local ≡ d → IsAmong d (numbers_of_form form)
  number_there form local a e = subst (λ n. IsAmong n (numbers_of_form form)) e (body_number form local a)

  sole_in : (externals : List External) → AreOnce needs (numbers_of_functions externals) → (one other : External) → IsAmong one externals → IsAmong other externals → (a b : Local) → InBody a one.form → InBody b other.form
      → number_of a ≡ d → number_of b ≡ d → a ≡ b
  sole_in [] once one other k l a b x y e f = absurd k
  sole_in (first ∷ rest) once one other (inl k) (inl l) a b x y e f =
      sole_form first.form (once_left needs (numbers_of_form first.form) (numbers_of_functions rest) once) a b (subst (λ (it : External). InBody a it.form) k x) (subst (λ (it : External). InBody b it.form) l y) e f
  sole_in (first ∷ rest) once one other (inl k) (inr l) a b x y e f =
      absurd (once_apart needs (numbers_of_form first.form) (numbers_of_functions rest) once d needed
      (number_there first.form a (subst (λ (it : External). InBody a it.form) k x) e) (in_functions rest other d l (number_there other.form b y f)))
  sole_in (first ∷ rest) once one other (inr k) (inl l) a b x y e f =
      absurd (once_apart needs (numbers_of_form first.form) (numbers_of_functions rest) once d needed
      (number_there first.form b (subst (λ (it : External). InBody b it.form) l y) f) (in_functions rest one d k (number_there one.form a x e)))
  sole_in (first ∷ rest) once one other (inr k) (inr l) a b x y e f =
      sole_in rest (once_right needs (numbers_of_form first.form) (numbers_of_functions rest) once) one other k l a b x y e f

  none_form : (form : ExternalForm) → AreOnce needs (numbers_of_form form) → IsParameterOf d form → (local : Local) → InBody local form → number_of local ≡ d → ⊥
  none_form (declares declarators trees) once p local x e = p
  none_form (defines_function g parameters body) once p local x e =
      once_apart needs parameters (numbers_below body) once d needed p
      (subst (λ n. IsAmong n (numbers_below body)) e (subst (IsAmong (number_of local)) (below_numbers body) (among-map number_of local (locals_below body) x)))

  none_in : (externals : List External) → AreOnce needs (numbers_of_functions externals) → (one other : External) → IsAmong one externals → IsAmong other externals → IsParameterOf d one.form → (local : Local) → InBody local other.form
      → number_of local ≡ d → ⊥
  none_in [] once one other k l p local x e = k
  none_in (first ∷ rest) once one other (inl k) (inl l) p local x e =
      none_form first.form (once_left needs (numbers_of_form first.form) (numbers_of_functions rest) once) (subst (λ (it : External). IsParameterOf d it.form) k p) local
      (subst (λ (it : External). InBody local it.form) l x) e
  none_in (first ∷ rest) once one other (inl k) (inr l) p local x e =
      once_apart needs (numbers_of_form first.form) (numbers_of_functions rest) once d needed
      (parameter_number first.form d (subst (λ (it : External). IsParameterOf d it.form) k p)) (in_functions rest other d l (number_there other.form local x e))
  none_in (first ∷ rest) once one other (inr k) (inl l) p local x e =
      once_apart needs (numbers_of_form first.form) (numbers_of_functions rest) once d needed
      (number_there first.form local (subst (λ (it : External). InBody local it.form) l x) e) (in_functions rest one d k (parameter_number one.form d p))
  none_in (first ∷ rest) once one other (inr k) (inr l) p local x e =
      none_in rest (once_right needs (numbers_of_form first.form) (numbers_of_functions rest) once) one other k l p local x e

  -- it isn't declared twice
  once_test : (numbers : List ℕ) → AreOnce needs numbers → is_once d numbers ≡ true
  once_test [] h = refl
  once_test (n ∷ ns) h = by_name (n == d) refl (once_test ns h.1)
    where
      by_scope : n ≡ d → (b : Bool) → is_in_scope ns d ≡ b → not b ≡ true
      by_scope same true e = absurd (h.0 (subst (λ c. needs c ≡ true) (sym same) needed) (subst (λ c. IsAmong c ns) (sym same) (scope_among ns d e)))
      by_scope same false e = refl

      by_name : (b : Bool) → (n == d) ≡ b → is_once d ns ≡ true → (if b then not (is_in_scope ns d) else is_once d ns) ≡ true
      by_name true e later = by_scope (equal_of n d e) (is_in_scope ns d) refl
      by_name false e later = later

-- ---- first values

and_both : (a b : Bool) → a ≡ true → b ≡ true → (a && b) ≡ true
and_both true b e f = f
and_both false b e f = absurd (false≢true e)

module _ (d : ℕ) where
  -- each declarator of the object has an initialiser
  abbrev pub AreGiven : List Local → Type 0
  AreGiven locals = (local : Local) → IsAmong local locals → number_of local ≡ d → is_some local.declarator.initialiser ≡ true

  fits_defines : (scene : Scene) (one : Declarator) (trees : List Tree) (entry : Option Declaration) → IfSome entry (FitsEntry scene one trees) → IsSome entry → is_some one.initialiser ≡ true → one.defines ≡ true
  fits_defines scene one trees None fits is e = absurd (cc)
  fits_defines scene one trees (Some entry) fits is e = by_initialiser one.initialiser fits.1 e
    where
      by_initialiser : (initialiser : Option Initialiser) → InitialiserFits scene entry one.defines initialiser trees → is_some initialiser ≡ true → one.defines ≡ true
      by_initialiser None f g = absurd (false≢true g)
      by_initialiser (Some it) f g = f.0

  declarators_give : (scene : Scene) (declarators : List Declarator) (trees : List Tree) → DeclaratorsFit scene declarators trees → AreGiven (with_expressions declarators trees) → list_all (gives_first d) declarators ≡ true
  declarators_give scene [] trees fit given = refl
  declarators_give scene (one ∷ others) trees fit given =
      and_both (gives_first d one) (list_all (gives_first d) others) (by_name (one.declared == d) refl)
      (declarators_give scene others (drop (counted one.initialiser) trees) (subst (λ n. DeclaratorsFit scene others (drop n trees)) (same_count one.initialiser) fit.1) (λ local a e. given local (inr a) e))
    where
      by_name : (b : Bool) → (one.declared == d) ≡ b → (not b || (one.defines && is_some one.initialiser)) ≡ true
      by_name true e =
          let initialised = given (record { declarator = one; expressions = take (counted one.initialiser) trees }) (inl refl) (equal_of one.declared d e) in
          and_both one.defines (is_some one.initialiser) (fits_defines scene one (take (expressions_of one) trees) (slice_get scene.declared one.declared) fit.0.0 fit.0.1 initialised) initialised
      by_name false e = refl

  given_label : (scene : Scene) (label : Label) (kind : CType) (spans : Spans) (parts : Trees) → IsWellTyped scene (node label kind spans parts) → SwitchesDeclareNothing (node label kind spans parts)
      → AreGiven (locals_here (node label kind spans parts)) → given_by d label parts ≡ true
  given_label scene (declare lengths declarators) kind spans parts typed switches given =
      declarators_give scene declarators (drop lengths (listed parts)) (statement-fits scene (declare lengths declarators) kind (listed parts) refl typed.0).2 given
  given_label scene switch kind spans parts typed switches given = ap (λ them. not (is_in_scope them d)) switches.0
  given_label scene label kind spans parts typed switches given = refl

  mutual
    pub given_tree : (scene : Scene) (tree : Tree) → IsWellTyped scene tree → SwitchesDeclareNothing tree → AreGiven (locals_below tree) → given_in d tree ≡ true
    given_tree scene (node label kind spans parts) typed switches given =
        and_both (given_by d label parts) (given_in_all d parts)
        (given_label scene label kind spans parts typed switches (λ local a e. given local (among_left local (locals_here (node label kind spans parts)) (locals_below_all parts) a) e))
        (given_trees (inside scene label (listed parts)) parts typed.1 switches.1 (λ local a e. given local (among_right local (locals_here (node label kind spans parts)) (locals_below_all parts) a) e))

    given_trees : (scene : Scene) (trees : Trees) → AreWellTyped scene trees → AllSwitchesDeclareNothing trees → AreGiven (locals_below_all trees) → given_in_all d trees ≡ true
    given_trees scene no_trees typed switches given = refl
    given_trees scene (more_trees first rest) typed switches given =
        and_both (given_in d first) (given_in_all d rest)
        (given_tree scene first typed.0 switches.0 (λ local a e. given local (among_left local (locals_below first) (locals_below_all rest) a) e))
        (given_trees scene rest typed.1 switches.1 (λ local a e. given local (among_right local (locals_below first) (locals_below_all rest) a) e))

module _ (types : Table) (one : TypedUnit) (typed : IsWellTypedUnit types one) (scoped : IsScopedUnit one) (once : IsDeclaredOnce one) (d : ℕ) (automatic : is_automatic one.declared d ≡ true) where
  abbrev needs : ℕ → Bool
  needs = is_automatic one.declared

  all_true : {X : Type 0} (test : X → Bool) (x : X) (xs : List X) → list_all test xs ≡ true → IsAmong x xs → test x ≡ true
  all_true test x [] e a = absurd a
  all_true test x (first ∷ rest) e (inl same) = ap test same ∙ and_left (test first) (list_all test rest) e
  all_true test x (first ∷ rest) e (inr a) = all_true test x rest (and_right (test first) (list_all test rest) e) a

  -- no declarator in file scope is of an automatic object
  in_file : (declarators : List Declarator) (trees : List Tree) → list_all (λ (it : Declarator). not (needs it.declared)) declarators ≡ true → (local : Local) → IsAmong local (with_expressions declarators trees) → number_of local ≡ d → ⊥
  in_file [] trees e local a f = a
  in_file (first ∷ rest) trees e local (inl same) f =
      let here : needs first.declared ≡ true = ap needs (sym (ap number_of same) ∙ f) ∙ automatic in
      false≢true (sym (ap not here) ∙ and_left (not (needs first.declared)) (list_all (λ (it : Declarator). not (needs it.declared)) rest) e)
  in_file (first ∷ rest) trees e local (inr a) f = in_file rest (drop (counted first.initialiser) trees) (and_right (not (needs first.declared)) (list_all (λ (it : Declarator). not (needs it.declared)) rest) e) local a f

  in_body : (form : ExternalForm) → is_scoped_form needs form ≡ true → (local : Local) → InForm local form → number_of local ≡ d → InBody local form
  in_body (declares declarators trees) e local a f =
      in_file declarators trees (and_left (list_all (λ (it : Declarator). not (needs it.declared)) declarators) (list_all (is_scoped needs []) trees) e) local a f
  in_body (defines_function g parameters body) e local a f = a

  pub from_body : (local : Local) → IsAmong local (locals_of_unit one) → number_of local ≡ d → (external : External) × IsAmong external one.externals × InBody local external.form
  from_body local a f =
      let from = unit_local types one typed local a in
      (from.0, from.1, in_body from.0.form (all_true (is_scoped_external one.declared) from.0 one.externals scoped from.1) local from.2 f)

  pub sole : (local other : Local) → IsAmong local (locals_of_unit one) → IsAmong other (locals_of_unit one) → number_of local ≡ d → number_of other ≡ d → local ≡ other
  sole local other a b e f =
      let x = from_body local a e in
      let y = from_body other b f in
      sole_in needs d automatic one.externals once.once x.0 y.0 x.1 y.1 local other x.2 y.2 e f

  pub no_other : (external : External) → IsAmong external one.externals → IsParameterOf d external.form → (local : Local) → IsAmong local (locals_of_unit one) → number_of local ≡ d → ⊥
  no_other external k p local a e =
      let x = from_body local a e in
      none_in needs d automatic one.externals once.once external x.0 k x.1 p local x.2 e

  -- ---- first values

  each_switches : (externals : List External) → AllByRecursion (λ (external : External). FormSwitchesDeclareNothing external.form) externals → (external : External) → IsAmong external externals → FormSwitchesDeclareNothing external.form
  each_switches [] h external a = absurd a
  each_switches (first ∷ rest) h external (inl e) = subst (λ (it : External). FormSwitchesDeclareNothing it.form) (sym e) h.0
  each_switches (first ∷ rest) h external (inr a) = each_switches rest h.1 external a

  form_once : (externals : List External) → AreOnce needs (numbers_of_functions externals) → (external : External) → IsAmong external externals → AreOnce needs (numbers_of_form external.form)
  form_once [] h external a = absurd a
  form_once (first ∷ rest) h external (inl e) = subst (λ (it : External). AreOnce needs (numbers_of_form it.form)) (sym e) (once_left needs (numbers_of_form first.form) (numbers_of_functions rest) h)
  form_once (first ∷ rest) h external (inr a) = form_once rest (once_right needs (numbers_of_form first.form) (numbers_of_functions rest) h) external a

  form_given : (external : External) → IsAmong external one.externals → (form : ExternalForm) → external.form ≡ form → AreGiven d (locals_of_unit one) → FormFits (file_scene types one.declared) form → FormSwitchesDeclareNothing form
      → AreOnce needs (numbers_of_form form) → given_in_form d form ≡ true
  form_given external k (declares declarators trees) e given fits switches once_here = refl
  form_given external k (defines_function g parameters body) e given fits switches once_here =
      let inner = function_typed (file_scene types one.declared) parameters body (slice_get one.declared g) fits.0 fits.1 in
      and_both (is_once d (parameters ++ numbers_below body)) (given_in d body) (once_test needs d automatic (parameters ++ numbers_below body) once_here)
      (given_tree d inner.0 body inner.1 switches (λ local a f. given local (local_there types one typed external g parameters body k e local a) f))

  all_given : (externals : List External) → ((external : External) → IsAmong external externals → given_in_form d external.form ≡ true) → list_all (λ (external : External). given_in_form d external.form) externals ≡ true
  all_given [] h = refl
  all_given (first ∷ rest) h =
      and_both (given_in_form d first.form) (list_all (λ (external : External). given_in_form d external.form) rest) (h first (inl refl)) (all_given rest (λ external a. h external (inr a)))

  pub first_given : AreGiven d (locals_of_unit one) → has_first_value one d ≡ true
  first_given given =
      and_both (is_automatic one.declared d) (list_all (λ (external : External). given_in_form d external.form) one.externals) automatic
      (all_given one.externals (λ external k.
      form_given external k external.form refl given (external_typed types one typed external k).2 (each_switches one.externals once.items external k) (form_once one.externals once.once external k)))
