-- The functions of two programs that are related one by one, where the new one has one more.
--     related_lookup, related_main, found_added      what a number names, the function `main`, and the added function
--     none_static      no object of automatic storage duration is one of static storage duration
use Rattle.std.specs.Prelude.{◌≡◌, refl, ℕ, ◌==◌, Bool, true, false, List, [], ◌∷◌, ◌++◌, map, codes, Option, Some, None, option_map, is_some, if◌then◌else◌}
use Rattle.std.specs.Str.{bytes_eq}
use Rattle.std.proofs.Common.{ap, sym, ◌∙◌, subst, inl, inr}
use Rattle.std.proofs.lemmas.Bool.{false≢true}
use Rattle.dm_type.specs.CTypes.{CType}
use Rattle.dm_tree.specs.declared.unit.Sort.{Sort}
use Rattle.dm_tree.specs.declared.unit.Sort.TheVariants.{Object, Function, Typedef, Enumerator, Tag}
use Rattle.dm_tree.specs.Units.{Declaration}
use Rattle.dm_meaning.specs.Among.{IsAmong}
use Rattle.dm_meaning.specs.Programs.{Definition, Static, Program, declaration_at, declaration_of, definition_in}
use Rattle.dm_meaning.specs.Replaced.{Zipped, facts_of}
use Rattle.dm_meaning.specs.Statements.{Local, is_automatic_sort, is_automatic_declaration}
use Rattle.dm_meaning.specs.Steps.{is_main}
use Rattle.dm_meaning.specs.Units.{is_static_sort, is_static_declaration, is_static, with_initialiser, with_static, statics_from, static_numbers, main_in}
use Rattle.dm_meaning.proofs.GrowLemmas.{equal_is, differ_is}
use Rattle.dm_meaning.proofs.OptionLemmas.{and_right}
use Rattle.dm_meaning.proofs.RunLemmas.{OptionAgrees, same_renamed}
use Rattle.dm_late.specs.Settled.{erased_static}

-- ---- pairs

pub zipped_map : {A B C : Type 0} (R : A → C → Type 0) (h : B → C) (xs : List A) (ys : List B) → Zipped (λ x y. R x (h y)) xs ys → Zipped R xs (map h ys)
zipped_map R h [] [] k = tt
zipped_map R h [] (y ∷ ys) k = absurd k
zipped_map R h (x ∷ xs) [] k = absurd k
zipped_map R h (x ∷ xs) (y ∷ ys) k = (k.0, zipped_map R h xs ys k.1)

pub record HasPartner {A B : Type 0} (R : A → B → Type 0) (y : B) : Type 0 where
  pub partner : A
  pub related : R partner y

pub zipped_partner : {A B : Type 0} (R : A → B → Type 0) (xs : List A) (ys : List B) → Zipped R xs ys → (y : B) → IsAmong y ys → HasPartner R y
zipped_partner R xs [] k y l = absurd l
zipped_partner R [] (z ∷ ys) k y l = absurd k
zipped_partner R (x ∷ xs) (z ∷ ys) k y (inl e) = record { partner = x; related = subst (R x) (sym e) k.0 }
zipped_partner R (x ∷ xs) (z ∷ ys) k y (inr l) = zipped_partner R xs ys k.1 y l

if_related : {A B : Type 0} (R : A → B → Type 0) (b : Bool) (x : A) (y : B) (rest : Option A) (others : Option B) → R x y → OptionAgrees R rest others → OptionAgrees R (if b then Some x else rest) (if b then Some y else others)
if_related R true x y rest others h k = h
if_related R false x y rest others h k = k

pub weaker_option : {A B : Type 0} (R S : A → B → Type 0) → ((x : A) (y : B) → R x y → S x y) → (x : Option A) (y : Option B) → OptionAgrees R x y → OptionAgrees S x y
weaker_option R S g None None h = tt
weaker_option R S g None (Some y) h = absurd h
weaker_option R S g (Some x) None h = absurd h
weaker_option R S g (Some x) (Some y) h = g x y h

pub both_some : {A B : Type 0} (R : A → B → Type 0) (x : Option A) (y : Option B) → OptionAgrees R x y → is_some x ≡ is_some y
both_some R None None h = refl
both_some R None (Some y) h = absurd h
both_some R (Some x) None h = absurd h
both_some R (Some x) (Some y) h = refl

-- ---- functions

main_fact : Option (List ℕ × Sort × CType) → Bool
main_fact None = false
main_fact (Some facts) = bytes_eq facts.0 (codes "main")

main_is : (found : Option Declaration) → is_main found ≡ main_fact (option_map facts_of found)
unfolding main_fact
main_is None = refl
main_is (Some entry) = refl

module _ (added : Definition) (rename : ℕ → ℕ) (injective : (c d : ℕ) → rename c ≡ rename d → c ≡ d) (apart : (d : ℕ) → rename d ≡ added.function → ⊥) (R : Definition → Definition → Type 0)
    (same : (definition other : Definition) → R definition other → definition.function ≡ rename other.function) where
  other_first : (g : ℕ) (rest : Option Definition) → (if added.function == rename g then Some added else rest) ≡ rest
  other_first g rest = ap (λ b. if b then Some added else rest) (differ_is added.function (rename g) (λ e. apart g (sym e)))

  without_added : (before behind : List Definition) (g : ℕ) → definition_in (before ++ added ∷ behind) (rename g) ≡ definition_in (before ++ behind) (rename g)
  without_added [] behind g = other_first g (definition_in behind (rename g))
  without_added (first ∷ before) behind g = ap (λ (rest : Option Definition). if first.function == rename g then Some first else rest) (without_added before behind g)

  zipped_lookup : (definitions others : List Definition) → Zipped R definitions others → (g : ℕ) → OptionAgrees R (definition_in definitions (rename g)) (definition_in others g)
  zipped_lookup [] [] h g = tt
  zipped_lookup [] (other ∷ others) h g = absurd h
  zipped_lookup (first ∷ rest) [] h g = absurd h
  zipped_lookup (first ∷ rest) (other ∷ others) h g =
      subst (λ b. OptionAgrees R (if b then Some first else definition_in rest (rename g)) (definition_in (other ∷ others) g))
      (sym (ap (λ n. n == rename g) (same first other h.0) ∙ same_renamed rename injective other.function g))
      (if_related R (other.function == g) first other (definition_in rest (rename g)) (definition_in others g) h.0 (zipped_lookup rest others h.1 g))

  pub related_lookup : (before behind others : List Definition) → Zipped R (before ++ behind) others → (g : ℕ) → OptionAgrees R (definition_in (before ++ added ∷ behind) (rename g)) (definition_in others g)
  related_lookup before behind others h g = subst (λ (found : Option Definition). OptionAgrees R found (definition_in others g)) (sym (without_added before behind g)) (zipped_lookup (before ++ behind) others h g)

  pub found_added : (before behind others : List Definition) → Zipped R (before ++ behind) others → definition_in (before ++ added ∷ behind) added.function ≡ Some added
  found_added [] behind others h = ap (λ b. if b then Some added else definition_in behind added.function) (equal_is added.function added.function refl)
  found_added (first ∷ before) behind [] h = absurd h
  found_added (first ∷ before) behind (other ∷ others) h =
      ap (λ b. if b then Some first else definition_in (before ++ added ∷ behind) added.function) (differ_is first.function added.function (λ e. apart other.function (sym (same first other h.0) ∙ e)))
      ∙ found_added before behind others h.1

  module _ (new old : Program) (told : (d : ℕ) → option_map facts_of (declaration_of new (rename d)) ≡ option_map facts_of (declaration_of old d)) (not_main : is_main (declaration_of new added.function) ≡ false) where
    main_without : (before behind : List Definition) → main_in new (before ++ added ∷ behind) ≡ main_in new (before ++ behind)
    main_without [] behind = ap (λ b. if b then Some added else main_in new behind) not_main
    main_without (first ∷ before) behind = ap (λ (rest : Option Definition). if is_main (declaration_of new first.function) then Some first else rest) (main_without before behind)

    zipped_main : (definitions others : List Definition) → Zipped R definitions others → OptionAgrees R (main_in new definitions) (main_in old others)
    zipped_main [] [] h = tt
    zipped_main [] (other ∷ others) h = absurd h
    zipped_main (first ∷ rest) [] h = absurd h
    zipped_main (first ∷ rest) (other ∷ others) h =
        subst (λ b. OptionAgrees R (if b then Some first else main_in new rest) (main_in old (other ∷ others)))
        (sym (ap (λ n. is_main (declaration_of new n)) (same first other h.0)
        ∙ (main_is (declaration_of new (rename other.function)) ∙ (ap main_fact (told other.function) ∙ sym (main_is (declaration_of old other.function))))))
        (if_related R (is_main (declaration_of old other.function)) first other (main_in new rest) (main_in old others) h.0 (zipped_main rest others h.1))

    pub related_main : (before behind others : List Definition) → Zipped R (before ++ behind) others → OptionAgrees R (main_in new (before ++ added ∷ behind)) (main_in old others)
    related_main before behind others h = subst (λ (found : Option Definition). OptionAgrees R found (main_in old others)) (sym (main_without before behind)) (zipped_main (before ++ behind) others h)

-- ---- objects of static storage duration

module _ (declared : List Declaration) where
  abbrev AreStatic : List Static → Type 0
  AreStatic statics = (d : ℕ) → IsAmong d (static_numbers statics) → is_static_declaration (declaration_at declared d) ≡ true

  first_number : (b : Bool) (static : Static) (local : Local)
      → (if b then record { declared = static.declared; initialiser = local.declarator.initialiser; expressions = local.expressions } else static).declared ≡ static.declared
  first_number true static local = refl
  first_number false static local = refl

  with_one : (local : Local) (statics : List Static) → is_static_declaration (declaration_at declared local.declarator.declared) ≡ true → AreStatic statics → AreStatic (with_static local statics)
  with_one local [] e h d (inl f) = ap (λ n. is_static_declaration (declaration_at declared n)) f ∙ e
  with_one local [] e h d (inr l) = absurd l
  with_one local (static ∷ statics) e h d l = by_bool (static.declared == local.declarator.declared) l (with_one local statics e (λ c k. h c (inr k)) d)
    where
      by_bool : (b : Bool) → IsAmong d (static_numbers (if b then with_initialiser static local ∷ statics else static ∷ with_static local statics))
          → (IsAmong d (static_numbers (with_static local statics)) → is_static_declaration (declaration_at declared d) ≡ true) → is_static_declaration (declaration_at declared d) ≡ true
      by_bool true (inl f) later = h d (inl (f ∙ first_number (is_some local.declarator.initialiser) static local))
      by_bool true (inr k) later = h d (inr k)
      by_bool false (inl f) later = h d (inl f)
      by_bool false (inr k) later = later k

  all_static : (locals : List Local) (statics : List Static) → AreStatic statics → AreStatic (statics_from declared locals statics)
  all_static [] statics h = h
  all_static (local ∷ locals) statics h = all_static locals (if is_static declared local then with_static local statics else statics) (by_bool (is_static declared local) refl)
    where
      by_bool : (b : Bool) → is_static declared local ≡ b → AreStatic (if b then with_static local statics else statics)
      by_bool true e = with_one local statics (and_right local.declarator.defines (is_static_declaration (declaration_at declared local.declarator.declared)) e) h
      by_bool false e = h

  not_both : (found : Option Declaration) → is_static_declaration found ≡ true → is_automatic_declaration found ≡ true → ⊥
  not_both None e g = false≢true e
  not_both (Some entry) e g = by_sort entry.sort e g
    where
      by_sort : (sort : Sort) → is_static_sort sort ≡ true → is_automatic_sort sort ≡ true → ⊥
      by_sort (Object true) k l = false≢true l
      by_sort (Object false) k l = false≢true k
      by_sort Function k l = false≢true k
      by_sort Typedef k l = false≢true k
      by_sort (Enumerator value) k l = false≢true k
      by_sort Tag k l = false≢true k

  numbers_erased : (statics : List Static) → static_numbers (map erased_static statics) ≡ static_numbers statics
  numbers_erased [] = refl
  numbers_erased (static ∷ statics) = ap (λ (ns : List ℕ). static.declared ∷ ns) (numbers_erased statics)

  pub none_static : (locals : List Local) (d : ℕ) → is_automatic_declaration (declaration_at declared d) ≡ true → IsAmong d (static_numbers (map erased_static (statics_from declared locals []))) → ⊥
  none_static locals d e l =
      not_both (declaration_at declared d) (all_static locals [] (λ c k. absurd k) d (subst (IsAmong d) (numbers_erased (statics_from declared locals [])) l)) e
