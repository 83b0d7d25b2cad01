-- Objects of static storage duration, where declarators agree, and initialisers where they are of such objects.
--     LocalAgrees change local other      declarators agree
--     statics_agree      so do the objects that they define
use Rattle.std.specs.Prelude.{◌≡◌, refl, ℕ, ◌==◌, Bool, true, false, ◌&&◌, List, [], ◌∷◌, Option, Some, None, option_map, is_some, if◌then◌else◌}
use Rattle.std.proofs.Common.{ap, sym, ◌∙◌, subst}
use Rattle.dm_type.specs.CTypes.{CType}
use Rattle.dm_tree.specs.declared.unit.Sort.{Sort}
use Rattle.dm_tree.specs.Trees.{Declarator}
use Rattle.dm_tree.specs.Units.{Declaration}
use Rattle.dm_meaning.specs.Programs.{Static, declaration_at}
use Rattle.dm_meaning.specs.Replaced.{Replaced, renamed_declarator, Zipped, Agrees, facts_of, StaticAgrees}
use Rattle.dm_meaning.specs.Statements.{Local}
use Rattle.dm_meaning.specs.Units.{is_static_sort, is_static_declaration, is_static, with_initialiser, with_static, statics_from}
use Rattle.dm_meaning.proofs.RunLemmas.{same_renamed}

abbrev pub LocalAgrees : Replaced → Local → Local → Type 0
LocalAgrees change local other =
    (local.declarator ≡ renamed_declarator change.rename other.declarator)
    × (is_static change.declared local ≡ true → Zipped (Agrees change) local.expressions other.expressions)

static_fact : Option (List ℕ × Sort × CType) → Bool
static_fact None = false
static_fact (Some facts) = is_static_sort facts.1

static_is : (o : Option Declaration) → is_static_declaration o ≡ static_fact (option_map facts_of o)
unfolding static_fact
static_is None = refl
static_is (Some declaration) = refl

module _ (change : Replaced) (injective : (c d : ℕ) → change.rename c ≡ change.rename d → c ≡ d)
    (told : (d : ℕ) → option_map facts_of (declaration_at change.declared (change.rename d)) ≡ option_map facts_of (declaration_at change.old.declared d)) where
  same_static : (local other : Local) → LocalAgrees change local other → is_static change.declared local ≡ is_static change.old.declared other
  same_static local other h =
      ap (λ (declarator : Declarator). declarator.defines && is_static_declaration (declaration_at change.declared declarator.declared)) h.0
      ∙ ap (λ b. other.declarator.defines && b)
      (static_is (declaration_at change.declared (change.rename other.declarator.declared)) ∙ ap static_fact (told other.declarator.declared) ∙ sym (static_is (declaration_at change.old.declared other.declarator.declared)))

  module _ (local other : Local) (h : local.declarator ≡ renamed_declarator change.rename other.declarator) (k : Zipped (Agrees change) local.expressions other.expressions) where
    by_initialiser : (b : Bool) (s t : Static) → StaticAgrees change s t
        → StaticAgrees change (if b then record { declared = s.declared; initialiser = local.declarator.initialiser; expressions = local.expressions } else s)
        (if b then record { declared = t.declared; initialiser = other.declarator.initialiser; expressions = other.expressions } else t)
    by_initialiser true s t agrees = (agrees.0, ap (λ (declarator : Declarator). declarator.initialiser) h, k)
    by_initialiser false s t agrees = agrees

    initialised : (s t : Static) → StaticAgrees change s t → StaticAgrees change (with_initialiser s local) (with_initialiser t other)
    initialised s t agrees =
        subst (λ b. StaticAgrees change (if b then record { declared = s.declared; initialiser = local.declarator.initialiser; expressions = local.expressions } else s) (with_initialiser t other))
        (sym (ap (λ (declarator : Declarator). is_some declarator.initialiser) h)) (by_initialiser (is_some other.declarator.initialiser) s t agrees)

    by_number : (b : Bool) (s t : Static) (ss us ts vs : List Static) → StaticAgrees change s t → Zipped (StaticAgrees change) ss ts → Zipped (StaticAgrees change) us vs
        → Zipped (StaticAgrees change) (if b then with_initialiser s local ∷ ss else s ∷ us) (if b then with_initialiser t other ∷ ts else t ∷ vs)
    by_number true s t ss us ts vs one same rest = (initialised s t one, same)
    by_number false s t ss us ts vs one same rest = (one, rest)

    with_static_agrees : (statics others : List Static) → Zipped (StaticAgrees change) statics others → Zipped (StaticAgrees change) (with_static local statics) (with_static other others)
    with_static_agrees [] [] agree = ((ap (λ (declarator : Declarator). declarator.declared) h, ap (λ (declarator : Declarator). declarator.initialiser) h, k), tt)
    with_static_agrees [] (t ∷ ts) agree = absurd agree
    with_static_agrees (s ∷ ss) [] agree = absurd agree
    with_static_agrees (s ∷ ss) (t ∷ ts) agree =
        let same : (s.declared == local.declarator.declared) ≡ (t.declared == other.declarator.declared) =
        ap (λ d. d == local.declarator.declared) agree.0.0
        ∙ ap (λ (declarator : Declarator). change.rename t.declared == declarator.declared) h
        ∙ same_renamed change.rename injective t.declared other.declarator.declared in
        subst (λ b. Zipped (StaticAgrees change) (if b then with_initialiser s local ∷ ss else s ∷ with_static local ss) (with_static other (t ∷ ts))) (sym same)
        (by_number (t.declared == other.declarator.declared) s t ss (with_static local ss) ts (with_static other ts) agree.0 agree.1 (with_static_agrees ss ts agree.1))

  one_more : (local other : Local) → LocalAgrees change local other → (statics others : List Static) → Zipped (StaticAgrees change) statics others
      → Zipped (StaticAgrees change) (if is_static change.declared local then with_static local statics else statics) (if is_static change.old.declared other then with_static other others else others)
  one_more local other h statics others agree =
      subst (λ b. Zipped (StaticAgrees change) (if is_static change.declared local then with_static local statics else statics) (if b then with_static other others else others)) (same_static local other h)
      (by_bool (is_static change.declared local) h.1)
    where
      by_bool : (b : Bool) → (b ≡ true → Zipped (Agrees change) local.expressions other.expressions)
          → Zipped (StaticAgrees change) (if b then with_static local statics else statics) (if b then with_static other others else others)
      by_bool true k = with_static_agrees local other h.0 (k refl) statics others agree
      by_bool false k = agree

  pub statics_agree : (locals others : List Local) → Zipped (LocalAgrees change) locals others → (statics other_statics : List Static) → Zipped (StaticAgrees change) statics other_statics
      → Zipped (StaticAgrees change) (statics_from change.declared locals statics) (statics_from change.old.declared others other_statics)
  statics_agree [] [] h statics other_statics agree = agree
  statics_agree [] (other ∷ others) h statics other_statics agree = absurd h
  statics_agree (local ∷ locals) [] h statics other_statics agree = absurd h
  statics_agree (local ∷ locals) (other ∷ others) h statics other_statics agree = statics_agree locals others h.1 _ _ (one_more local other h.0 statics other_statics agree)
