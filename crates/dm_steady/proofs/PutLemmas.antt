-- The function that is put in: its parameters by their numbers, and its expression.
--     one_number      each parameter has one number
--     argument_of      where a parameter occurs once in a run, and first, its argument is found, and is first in the run
--     form_puts      the parameters are what was put in, and the expression is well typed
use Rattle.std.specs.Prelude.{◌≡◌, refl, ◌⊎◌, ℕ, zero, suc, ◌<◌, Bool, true, false, not, ◌||◌, ◌==◌, List, [], ◌∷◌, length, Option, Some, None, slice_get}
use Rattle.std.specs.List.{AllByRecursion, list_any}
use Rattle.std.specs.Option.{IsSomeAnd}
use Rattle.std.proofs.Common.{ap, sym, ◌∙◌, subst, arith, ⊎_elim}
use Rattle.std.proofs.lemmas.Bool.{false≢true, and_parts}
use Rattle.dm_token.specs.declared.place.Span.{Span}
use Rattle.dm_type.specs.CTypes.{CType}
use Rattle.dm_type.specs.Tables.{Table}
use Rattle.dm_tree.specs.Scenes.{Scene}
use Rattle.dm_tree.specs.Trees.{full, return, Tree, Trees, node, no_trees, more_trees, parts_of, listed}
use Rattle.dm_tree.specs.Typing.{FormFits, inside, IsWellTyped, AreWellTyped, file_scene, body_scene}
use Rattle.dm_tree.specs.Units.{Declaration, ExternalForm, declares, defines_function, TypedUnit}
use Rattle.dm_meaning.specs.Among.{IsAmong}
use Rattle.dm_meaning.proofs.GrowLemmas.{equal_is}
use Rattle.dm_meaning.proofs.OptionLemmas.{none_is_some, some_is_some}
use Rattle.dm_sites.specs.Links.{passes}
use Rattle.dm_sites.specs.Sites.{Site, site_of}
use Rattle.dm_agree.specs.Agreement.{added_function}
use Rattle.dm_align.specs.Units.{Insertion, IsPut, are_different, IsBodyOf, FormAdds}
use Rattle.dm_beside.specs.Evaluation.{is_first_in, is_once_first}
use Rattle.dm_standing.proofs.TypedLemmas.{typed_body}

-- ---- lists

pub record IsNumbered (p : ℕ) (list : List ℕ) : Type 0 where
  pub number : ℕ
  pub few : number < length list
  pub there : slice_get list number ≡ Some p

pub numbered : (p : ℕ) (list : List ℕ) → IsAmong p list → IsNumbered p list
numbered p [] h = absurd h
numbered p (d ∷ list) h =
    ⊎_elim (λ same. record { number = 0; few = omega arith; there = ap Some (sym same) })
    (λ more. let it = numbered p list more in let few = it.few in record { number = suc it.number; few = omega (arith, few); there = it.there }) h

or_right : (a b : Bool) → b ≡ true → (a || b) ≡ true
or_right true b e = refl
or_right false b e = e

or_left : (a b : Bool) → a ≡ true → (a || b) ≡ true
or_left true b e = refl
or_left false b e = absurd (false≢true e)

any_there : (d : ℕ) (list : List ℕ) (n : ℕ) → slice_get list n ≡ Some d → list_any (λ (c : ℕ). c == d) list ≡ true
any_there d [] n e = absurd (none_is_some d e)
any_there d (c ∷ list) zero e = or_left (c == d) (list_any (λ (x : ℕ). x == d) list) (equal_is c d (some_is_some c d e))
any_there d (c ∷ list) (suc n) e = or_right (c == d) (list_any (λ (x : ℕ). x == d) list) (any_there d list n e)

pub one_number : (list : List ℕ) → are_different list ≡ true → (m n p : ℕ) → slice_get list m ≡ Some p → slice_get list n ≡ Some p → m ≡ n
one_number [] h m n p e g = absurd (none_is_some p e)
one_number (d ∷ list) h zero zero p e g = refl
one_number (d ∷ list) h zero (suc n) p e g =
    let both = and_parts (not (list_any (λ (c : ℕ). c == d) list)) (are_different list) h in
    let same = some_is_some d p e in
    absurd (false≢true (sym (ap not (any_there d list n (g ∙ ap Some (sym same)))) ∙ both.0))
one_number (d ∷ list) h (suc m) zero p e g =
    let both = and_parts (not (list_any (λ (c : ℕ). c == d) list)) (are_different list) h in
    let same = some_is_some d p g in
    absurd (false≢true (sym (ap not (any_there d list m (e ∙ ap Some (sym same)))) ∙ both.0))
one_number (d ∷ list) h (suc m) (suc n) p e g =
    ap suc (one_number list (and_parts (not (list_any (λ (c : ℕ). c == d) list)) (are_different list) h).1 m n p e g)

pub number_has : (P : ℕ → Type 0) (list : List ℕ) → AllByRecursion P list → (n p : ℕ) → slice_get list n ≡ Some p → P p
number_has P [] h n p e = absurd (none_is_some p e)
number_has P (d ∷ list) h zero p e = subst P (some_is_some d p e) h.0
number_has P (d ∷ list) h (suc n) p e = number_has P list h.1 n p e

-- ---- the rule

pub record IsOnlyFirst (first : Span → Bool) (spans : List Span) : Type 0 where
  pub only : Span
  pub alone : spans ≡ only ∷ []
  pub is : first only ≡ true

pub only_first : (first : Span → Bool) (spans : List Span) → is_once_first first spans ≡ true → IsOnlyFirst first spans
only_first first [] e = absurd (false≢true e)
only_first first (only ∷ []) e = record { only = only; alone = refl; is = e }
only_first first (only ∷ another ∷ rest) e = absurd (false≢true e)

pub record IsArgument (one : TypedUnit) (site : Site) (only : Span) : Type 0 where
  pub argument : Site
  pub found : site_of one only ≡ Some argument
  pub first : is_first_in site argument ≡ true

pub argument_of : (one : TypedUnit) (site : Site) (only : Span) → passes (is_first_in site) (site_of one only) ≡ true → IsArgument one site only
argument_of one site only e = by_found (site_of one only) refl e
  where
    by_found : (o : Option Site) → site_of one only ≡ o → passes (is_first_in site) o ≡ true → IsArgument one site only
    by_found None is k = absurd (false≢true k)
    by_found (Some argument) is k = record { argument = argument; found = is; first = k }

-- ---- what is put in

pub record HasTyped (body : Tree) : Type 0 where
  pub scene : Scene
  pub typed : IsWellTyped scene body

item_typed : (scene : Scene) (result : CType) (body : Tree) (items : Trees) → IsBodyOf result body (listed items) → AreWellTyped scene items → HasTyped body
item_typed scene result body (more_trees (node return kind spans (more_trees value no_trees)) no_trees) h typed =
    record { scene = inside scene return (value ∷ []); typed = subst (IsWellTyped (inside scene return (value ∷ []))) (sym h.0) typed.0.1.0 }
item_typed scene result body (more_trees (node full kind spans (more_trees value no_trees)) no_trees) h typed =
    record { scene = inside scene full (value ∷ []); typed = subst (IsWellTyped (inside scene full (value ∷ []))) (sym h.0) typed.0.1.0 }
item_typed scene result body items h typed = absurd h

whole_typed : (scene : Scene) (result : CType) (body whole : Tree) → IsBodyOf result body (parts_of whole) → IsWellTyped scene whole → HasTyped body
whole_typed scene result body (node label kind spans parts) h typed = item_typed (inside scene label (listed parts)) result body parts h typed.1

pub record IsPutFunction (put : Insertion) (parameters : List ℕ) (body : Tree) : Type 0 where
  pub own : AllByRecursion (IsPut put) parameters
  pub different : are_different parameters ≡ true
  pub typed : HasTyped body

some_body : (found : Option Declaration) (Name Sort Linkage : Declaration → Type 0) (result_in : Declaration → CType) (body : Tree) (parts : List Tree)
    → IsSomeAnd found (λ (entry : Declaration). Name entry × (Sort entry × Linkage entry × IsBodyOf (result_in entry) body parts)) → (result : CType) × IsBodyOf result body parts
some_body None Name Sort Linkage result_in body parts h = absurd h
some_body (Some entry) Name Sort Linkage result_in body parts h = (result_in entry, h.1.2)

pub form_puts : (types : Table) (new : TypedUnit) (put : Insertion) (f : ℕ) (parameters : List ℕ) (body : Tree) (form : ExternalForm) → FormFits (file_scene types new.declared) form
    → FormAdds types new put (added_function f parameters body) form → IsPutFunction put parameters body
form_puts types new put f parameters body (declares declarators trees) fits h = absurd h
form_puts types new put f parameters body (defines_function g others whole) fits h =
    let it = typed_body types new.declared g others whole fits in
    let is = some_body (slice_get new.declared f) _ _ _ _ body (parts_of whole) h.3.1 in
    record { own = h.2.0; different = h.2.1; typed = whole_typed (body_scene (file_scene types new.declared) it.result) is.0 body whole is.1 it.typed }
