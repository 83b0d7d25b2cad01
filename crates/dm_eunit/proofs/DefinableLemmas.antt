-- The steps of the code through the declarator of a function definition, where it declares the function.
use Rattle.std.specs.Prelude.{◌≡◌, ℕ, Bool, true, false, ◌&&◌, ◌||◌, ◌==◌, not, if◌then◌else◌, List, [], ◌∷◌, length, Option, Some, None, is_some, unwrap_or, Ok, Err, refl}
use Rattle.std.proofs.Common.{sym, ap, ap₂, ◌∙◌, subst, arith}
use Rattle.dm_token.specs.declared.stop.Stop.{Stop}
use Rattle.dm_type.specs.declared.shape.Shape.{Shape}
use Rattle.dm_syn.specs.Sources.{Source}
use Rattle.dm_syn.specs.Spans.{declarator_span}
use Rattle.dm_syn.specs.Trees.{Declarator}
use Rattle.dm_tree.specs.declared.unit.Declared.{Declared}
use Rattle.dm_tree.specs.Typing.{has_linkage}
use Rattle.dm_tree.specs.Units.{Declaration}
use Rattle.dm_typing.specs.Known.{Setting}
use Rattle.dm_typing.specs.Views.{Begins, type_over, known_over, Grows}
use Rattle.dm_typing.proofs.LaterLemmas.{begins-on}
use Rattle.dm_edecl.specs.Standing.{Linked, Standing, Progress, goes_on, keeps}
use Rattle.dm_edecl.specs.Linkages.{composite_with, whole_kind, entry_of, number_before, number_here, kind_seen, may_be_declared, function_here, with_link_if, named_here, is_defined}
use Rattle.dm_edecl.specs.Declaring.{Specified, name_at, fits_main, declarable}
use Rattle.dm_edecl.specs.Settled.{is_linked}
use Rattle.dm_estanding.specs.declared.standing.Standing.{Standing as Held}
use Rattle.dm_estanding.specs.Proceeding.{IsLawful, Remembers, Reached, Proceeds}
use Rattle.dm_estanding.specs.Summaries.{storage_seen, entry_over, StandsFor, declared_as}
use Rattle.dm_estanding.specs.Undoing.{IsWithin}
use Rattle.dm_estanding.proofs.DeclaringLemmas.{below-held}
use Rattle.dm_estanding.proofs.LawfulLemmas.{proper-over, entries-proper, declared-agrees, declared-lawful}
use Rattle.dm_estanding.proofs.ProceedingLemmas.{stands-grown}
use Rattle.dm_estanding.proofs.WithinLemmas.{within-itself, within-on, within-grown}
use Rattle.dm_edeclaration.specs.declared.specified.Specification.{Specification}
use Rattle.dm_edeclaration.specs.Steps.{specified_over, broken_unless, rule_broken, Permits}
use Rattle.dm_edeclaration.proofs.DeclarableLemmas.{by_rule, declarable-by}
use Rattle.dm_edeclaration.proofs.ItemLemmas.{permits-fails}
use Rattle.dm_eunit.specs.Functions.{or_broken, definition_broken, function_declared, NumberFits, number_over}

-- ---- definitions

-- what is defined is linked
defined-linked : (n : ℕ) (linked : List Linked) → is_defined n linked ≡ true → is_linked n linked ≡ true
defined-linked n [] h = absurd (cc)
defined-linked n (one ∷ others) h = go (defined-linked n others) one.defines (one.number == n) h
  where
    go : (is_defined n others ≡ true → is_linked n others ≡ true) → (defines same : Bool) → (defines && same || is_defined n others) ≡ true
        → is_some (if same then Some (composite_with one.kind (whole_kind n others)) else whole_kind n others) ≡ true
    go rest defines true k = refl
    go rest true false k = rest k
    go rest false false k = rest k

pub here-some : (s : Standing) (entry : Declaration) (n : ℕ) → Some n ≡ number_before s entry → n ≡ number_here s entry
here-some s entry n h = ap (λ found. unwrap_or found (length s.known.declared)) h

-- a new function isn't defined yet
pub here-none : (s : Standing) (entry : Declaration) → IsLawful s → ◌≡◌ {A = Option ℕ} None (number_before s entry) → false ≡ is_defined (number_here s entry) s.linked
here-none s entry lawful h =
    sym (go (is_defined (length s.known.declared) s.linked) refl) ∙ ap (λ found. is_defined (unwrap_or found (length s.known.declared)) s.linked) h
  where
    go : (test : Bool) → is_defined (length s.known.declared) s.linked ≡ test → is_defined (length s.known.declared) s.linked ≡ false
    go false e = e
    go true e =
        let inside = lawful.within (length s.known.declared) (defined-linked (length s.known.declared) s.linked e) in
        absurd (omega (arith, inside))

-- ---- rules

keeps-by : {A : Type 0} (test : Bool) (rule at : ℕ) (broken : Option (ℕ × ℕ)) (next : Progress A) → keeps test rule at (by_rule broken next) ≡ by_rule (broken_unless test rule at broken) next
keeps-by true rule at broken next = refl
keeps-by false rule at broken next = refl

both-by : {A : Type 0} (first second : Option (ℕ × ℕ)) (next : Progress A) → by_rule first (by_rule second next) ≡ by_rule (or_broken first second) next
both-by None second next = refl
both-by (Some fault) second next = refl

pub definition-by : {A : Type 0} (said : Specified) (s : Standing) (declarator : Declarator) (entry : Declaration) (next : Progress A)
    → keeps (not (is_defined (number_here s entry) s.linked)) 2 (name_at declarator)
    (declarable said s false (declarator_span declarator).first (name_at declarator) entry (keeps (fits_main entry) 36 (name_at declarator) next))
    ≡ by_rule (definition_broken said s (declarator_span declarator).first (name_at declarator) entry) next
definition-by said s declarator entry next =
    let here = (declarator_span declarator).first in
    let name = name_at declarator in
    let fresh = not (is_defined (number_here s entry) s.linked) in
    let last = broken_unless (fits_main entry) 36 name None in
    let inner = rule_broken said s false here name entry in
    ap (λ p. keeps fresh 2 name (declarable said s false here name entry p)) (keeps-by (fits_main entry) 36 name None next)
    ∙ ap (keeps fresh 2 name) (declarable-by said s false here name entry (by_rule last next))
    ∙ ap (keeps fresh 2 name) (both-by inner last next)
    ∙ keeps-by fresh 2 name (or_broken inner last) next

-- ---- the function

module _ (setting : Setting) (now : Held) (said : Specification) (declarator : Declarator) (kind here at : ℕ) (entry : Declared)
    (here-is : here ≡ (declarator_span declarator).first) (at-is : at ≡ name_at declarator)
    (entry-is : (later : List Shape) → Begins now.known.types.shapes later
    → entry_over later entry ≡ entry_of setting (known_over later now.known) (storage_seen said.storage) at (type_over later kind)) where
  abbrev pub function-whole : List Shape → Standing → Progress ℕ
  function-whole later before =
      function_declared (specified_over later said) before declarator (entry_of setting before.known (storage_seen said.storage) (name_at declarator) (type_over later kind))

  abbrev function-next : List Shape → Standing → Progress ℕ
  function-next later before = goes_on (function_here before (entry_over later entry)) (number_here before (entry_over later entry))

  abbrev function-broken : List Shape → Standing → Option (ℕ × ℕ)
  function-broken later before = definition_broken (specified_over later said) before here at (entry_over later entry)

  function-by : (later : List Shape) → Begins now.known.types.shapes later → (before : Standing) → StandsFor later now.known now.links before
      → function-whole later before ≡ by_rule (function-broken later before) (function-next later before)
  function-by later on before stands =
      ap (function_declared (specified_over later said) before declarator)
      (ap₂ (λ known name. entry_of setting known (storage_seen said.storage) name (type_over later kind)) stands.known (sym at-is) ∙ sym (entry-is later on))
      ∙ definition-by (specified_over later said) before declarator (entry_over later entry) (function-next later before)
      ∙ ap (λ rule. by_rule rule (function-next later before))
      (ap₂ (λ one other. definition_broken (specified_over later said) before one other (entry_over later entry)) (sym here-is) (sym at-is))

  module _ (source : Source) (mid : Held) (grows : Grows now.known mid.known) where
    pub function-fails : (fault : Stop)
        → ((later : List Shape) → Begins mid.known.types.shapes later → (before : Standing) → StandsFor later now.known now.links before → IsLawful before
        → Permits later source (Err fault) (function-broken later before) before (entry_over later entry))
        → Proceeds NumberFits number_over source now mid (Err fault) function-whole
    function-fails fault permits =
        permits-fails NumberFits number_over source now mid function-whole function-broken function-next (λ later. entry_over later entry) fault grows.shapes permits
        (λ later on before stands. function-by later (begins-on now.known.types.shapes mid.known.types.shapes later grows.shapes on) before stands)

    module _ (new : Held) (links : mid.links ≡ now.links) (retyped : mid.retyped.items ≡ now.retyped.items) (seen number : ℕ) (linked : has_linkage entry.linkage ≡ true)
        (permits : (later : List Shape) → Begins mid.known.types.shapes later → (before : Standing) → StandsFor later now.known now.links before → IsLawful before
        → Permits later source (Ok seen) (function-broken later before) before (entry_over later entry))
        (known : (later : List Shape) → Begins new.known.types.shapes later → (before : Standing) → StandsFor later mid.known mid.links before → IsLawful before
        → has_linkage entry.linkage ≡ true
        → may_be_declared before (entry_over later entry) ≡ true → type_over later seen ≡ kind_seen before (entry_over later entry)
        → StandsFor later new.known new.links (function_here before (entry_over later entry)))
        (counted : (later : List Shape) (before : Standing) → StandsFor later mid.known mid.links before → IsLawful before → number ≡ number_here before (entry_over later entry))
        (within : IsWithin mid new) where
      function-within : IsWithin now new
      function-within = within-on now mid new (within-grown now now mid (within-itself now) grows retyped) within

      -- a function has linkage
      function-is : (s : Standing) (one : Declaration) → has_linkage one.linkage ≡ true → declared_as s one true ≡ function_here s one
      function-is s one h = ap (λ test. record s { known = named_here s one; linked = with_link_if test (number_here s one) one.kind true s.linked }) h

      function-reached : (later : List Shape) → Begins new.known.types.shapes later → (before : Standing) → StandsFor later now.known now.links before → IsLawful before
          → may_be_declared before (entry_over later entry) ≡ true → type_over later seen ≡ kind_seen before (entry_over later entry)
          → Reached later new before (function_here before (entry_over later entry))
      function-reached later on before stands lawful may is =
          let e = entry_over later entry in
          let entries = entries-proper later now.known before stands.known in
          let proper = proper-over later entry.kind in
          let below = below-held later now.known before.known stands.known now.known.numbers in
          let same = function-is before e linked in
          record {
            stands = known later on before (stands-grown later now.known mid.known now.links mid.links before grows links stands) lawful linked may is;
            lawful = subst IsLawful same (declared-lawful before e true lawful entries proper below may);
            remembers = subst (λ s. Remembers before s) same (declared-agrees before e true lawful entries proper may).remembers;
          }

      pub function-made : Proceeds NumberFits number_over source now new (Ok number) function-whole
      function-made = record {
        shapes = function-within.shapes;
        numbered = tt;
        within = function-within;
        gives = λ later on before stands lawful.
            let on-mid = begins-on mid.known.types.shapes new.known.types.shapes later within.shapes on in
            let on-now = begins-on now.known.types.shapes mid.known.types.shapes later grows.shapes on-mid in
            let p = permits later on-mid before stands lawful in (
              function_here before (entry_over later entry),
              function-by later on-now before stands ∙ ap (λ rule. by_rule rule (function-next later before)) p.0
                  ∙ ap (goes_on (function_here before (entry_over later entry)))
                  (sym (counted later before (stands-grown later now.known mid.known now.links mid.links before grows links stands) lawful)),
              function-reached later on before stands lawful p.1 p.2,
            );
      }
