-- The steps of the code through a declarator and its initialiser.
use Rattle.std.specs.Prelude.{◌≡◌, ℕ, Bool, true, false, ◌&&◌, ◌||◌, if◌then◌else◌, List, [], Option, Some, None, Result, Ok, Err, IsErrAnd, refl}
use Rattle.std.proofs.Common.{sym, ap, ap₂, ◌∙◌, subst}
use Rattle.dm_token.specs.declared.place.Span.{Span}
use Rattle.dm_token.specs.declared.stop.Stop.{Stop}
use Rattle.dm_token.specs.declared.stop.Stop.TheVariants as stop
use Rattle.dm_type.specs.declared.shape.Shape.{Shape}
use Rattle.dm_type.specs.CTypes.{CType}
use Rattle.dm_type.specs.Tables.{Table}
use Rattle.dm_syn.specs.Sources.{Source}
use Rattle.dm_syn.specs.Spans.{declarator_span}
use Rattle.dm_syn.specs.Trees.{Declarator, Initialiser}
use Rattle.dm_tree.specs.declared.tree.Initial.{Initial as InitialHeld}
use Rattle.dm_tree.specs.declared.tree.Local.{Local as LocalHeld}
use Rattle.dm_tree.specs.declared.unit.Declared.{Declared}
use Rattle.dm_tree.specs.Initialisers.{is_fixed, is_object, is_function_sort}
use Rattle.dm_tree.specs.Trees.{Tree}
use Rattle.dm_tree.specs.Typing.{IsEntry, has_linkage}
use Rattle.dm_tree.specs.Units.{Declaration}
use Rattle.dm_typing.specs.Known.{Known, Setting, Outcome, given, broken}
use Rattle.dm_typing.specs.Conversions.{is_complete}
use Rattle.dm_typing.specs.Views.{Begins, type_over, known_over, refusal_at, Gives, Grows}
use Rattle.dm_typing.proofs.LaterLemmas.{begins-itself, begins-on}
use Rattle.dm_edeclarator.specs.Steps.{Anything, Follows}
use Rattle.dm_eexpr.proofs.CycleLemmas.{if-ok}
use Rattle.dm_eexpr.proofs.KeepLemmas.{Adds, KeepsIn, Leads, SameTrees, with-keeps, with-leads}
use Rattle.dm_edecl.specs.Standing.{Standing, Progress, goes_on, stops, keeps, typing, knowing}
use Rattle.dm_edecl.specs.Linkages.{entry_of, kind_seen, may_be_declared, number_here, declared_here, object_here, known_kind}
use Rattle.dm_edecl.specs.Initialising.{Initial, completed, typed_initialiser, expressions_alone}
use Rattle.dm_edecl.specs.Declaring.{is_misplaced_static, name_at, Local, local_plain, local_initialised, defines_object, may_be_initialised, may_define, object_defined, initialised, item_plain, item_initialised}
use Rattle.dm_edecl.proofs.EntryLemmas.{entry-fits}
use Rattle.dm_einitial.specs.Steps.{initial_over, InitialFits, dropped, nothing_over}
use Rattle.dm_estanding.specs.declared.standing.Standing.{Standing as Held}
use Rattle.dm_estanding.specs.Proceeding.{IsLawful, Reached, Advances, Proceeds}
use Rattle.dm_estanding.specs.Summaries.{storage_seen, entry_over, StandsFor, MayBeAdded}
use Rattle.dm_estanding.specs.Undoing.{IsWithin}
use Rattle.dm_estanding.proofs.DeclaringLemmas.{below-held}
use Rattle.dm_estanding.proofs.LawfulLemmas.{proper-over, entries-proper, declared-agrees, declared-lawful, object-agrees, object-lawful}
use Rattle.dm_estanding.proofs.ProceedingLemmas.{Arrives, starts, types, type-fails, stops-there, advances-on, stands-grown, typed-within, typed-adds, typed-gives, typed-reached}
use Rattle.dm_estanding.proofs.WithinLemmas.{within-itself, within-on, within-grown}
use Rattle.dm_edeclaration.specs.declared.specified.Specification.{Specification}
use Rattle.dm_edeclaration.specs.Steps.{specified_over, rule_broken, Permits, IsNamed, ProceedsWhere, bare_over, LocalFits, object_initialised}
use Rattle.dm_edeclaration.proofs.DeclarableLemmas.{by_rule, declarable-by, not-misplaced, named-here, named-still, may-be-defined, defined-added}
use Rattle.dm_edeclaration.proofs.InitialKeepLemmas.{alone-keeps, alone-trees, initialiser-keeps, initialiser-trees}
use Rattle.dm_edeclaration.proofs.StepLemmas.{plain-over, initialised-over, plain-fits, initialised-fits}

-- ---- what may not be declared

module _ {C D : Type 0} (seen : C → D) (source : Source) (later : List Shape) (new : Held) (before : Standing) (entry : Declaration) where
  stopping : (fault : Stop) (violated : Option (ℕ × ℕ)) (next whole : Progress D) → Permits later source (Err fault) violated before entry → whole ≡ by_rule violated next
      → Advances seen source later new before (Err fault) whole
  stopping stop.Memory violated next whole p e = tt
  stopping (stop.Refused refusal) violated next whole p e = (p.0, p.1, e ∙ ap (λ it. by_rule it next) p.2, p.3)
  stopping (stop.Limit limit) violated next whole p e = absurd p
  stopping (stop.ReadFault file) violated next whole p e = absurd p

pub permits-fails : {C D : Type 0} (Fits : Table → C → Type 0) (seen : List Shape → C → D) (source : Source) (now new : Held) (whole : List Shape → Standing → Progress D)
    (violated : List Shape → Standing → Option (ℕ × ℕ)) (next : List Shape → Standing → Progress D) (entry : List Shape → Declaration) (fault : Stop)
    → Begins now.known.types.shapes new.known.types.shapes
    → ((later : List Shape) → Begins new.known.types.shapes later → (before : Standing) → StandsFor later now.known now.links before → IsLawful before
    → Permits later source (Err fault) (violated later before) before (entry later))
    → ((later : List Shape) → Begins new.known.types.shapes later → (before : Standing) → StandsFor later now.known now.links before
    → whole later before ≡ by_rule (violated later before) (next later before))
    → Proceeds Fits seen source now new (Err fault) whole
permits-fails Fits seen source now new whole violated next entry fault more permits is = record {
  shapes = more;
  numbered = tt;
  within = tt;
  gives = λ later on before stands lawful.
      stopping (seen later) source later new before (entry later) fault (violated later before) (next later before) (whole later before) (permits later on before stands lawful) (is later on before stands);
}

-- ---- the entry that is declared

-- the code has the entry that the definition declares
module _ (setting : Setting) (now : Held) (said : Specification) (declarator : Declarator) (kind here at : ℕ) (entry : Declared)
    (here-is : here ≡ (declarator_span declarator).first) (at-is : at ≡ name_at declarator)
    (entry-is : (later : List Shape) → Begins now.known.types.shapes later
    → entry_over later entry ≡ entry_of setting (known_over later now.known) (storage_seen said.storage) at (type_over later kind)) where
  abbrev pub own-entry : List Shape → Standing → Declaration
  own-entry later before = entry_of setting before.known (storage_seen said.storage) (name_at declarator) (type_over later kind)

  pub own-is : (later : List Shape) → Begins now.known.types.shapes later → (before : Standing) → StandsFor later now.known now.links before → own-entry later before ≡ entry_over later entry
  own-is later on before stands =
      ap₂ (λ known name. entry_of setting known (storage_seen said.storage) name (type_over later kind)) stands.known (sym at-is) ∙ sym (entry-is later on)

  rule-at : (later : List Shape) (before : Standing) (initialised : Bool)
      → rule_broken (specified_over later said) before initialised (declarator_span declarator).first (name_at declarator) (entry_over later entry)
      ≡ rule_broken (specified_over later said) before initialised here at (entry_over later entry)
  rule-at later before initialised = ap₂ (λ one other. rule_broken (specified_over later said) before initialised one other (entry_over later entry)) (sym here-is) (sym at-is)

  abbrev pub plain-next : List Shape → Standing → Progress Local
  plain-next later before =
      goes_on (declared_here before (entry_over later entry)) (local_plain (number_here before (entry_over later entry)) (defines_object (storage_seen said.storage) entry.sort))

  pub plain-by : (later : List Shape) → Begins now.known.types.shapes later → (before : Standing) → StandsFor later now.known now.links before
      → item_plain setting (specified_over later said) before declarator (own-entry later before)
      ≡ by_rule (rule_broken (specified_over later said) before false here at (entry_over later entry)) (plain-next later before)
  plain-by later on before stands =
      ap (item_plain setting (specified_over later said) before declarator) (own-is later on before stands)
      ∙ declarable-by (specified_over later said) before false (declarator_span declarator).first (name_at declarator) (entry_over later entry) (plain-next later before)
      ∙ ap (λ rule. by_rule rule (plain-next later before)) (rule-at later before false)

  abbrev pub initialised-next : Span → Initialiser → List Shape → Standing → Progress Local
  initialised-next span one later before =
      initialised setting (declared_here before (entry_over later entry)) (entry_over later entry) (number_here before (entry_over later entry)) span
      (declarator_span declarator).first (name_at declarator) (kind_seen before (entry_over later entry)) one

  pub initialised-by : (span : Span) (one : Initialiser) (later : List Shape) → Begins now.known.types.shapes later → (before : Standing) → StandsFor later now.known now.links before
      → item_initialised setting (specified_over later said) before span declarator one (own-entry later before)
      ≡ by_rule (rule_broken (specified_over later said) before true here at (entry_over later entry)) (initialised-next span one later before)
  initialised-by span one later on before stands =
      ap (item_initialised setting (specified_over later said) before span declarator one) (own-is later on before stands)
      ∙ declarable-by (specified_over later said) before true (declarator_span declarator).first (name_at declarator) (entry_over later entry) (initialised-next span one later before)
      ∙ ap (λ rule. by_rule rule (initialised-next span one later before)) (rule-at later before true)

  -- ---- behind the declarator

  module _ (mid new : Held) (grows : Grows now.known mid.known) (links : mid.links ≡ now.links) (retyped : mid.retyped.items ≡ now.retyped.items) (seen number : ℕ)
      (known : (later : List Shape) → Begins new.known.types.shapes later → (before : Standing) → StandsFor later mid.known mid.links before → IsLawful before
      → may_be_declared before (entry_over later entry) ≡ true → type_over later seen ≡ kind_seen before (entry_over later entry)
      → StandsFor later new.known new.links (declared_here before (entry_over later entry)))
      (counted : (later : List Shape) (before : Standing) → StandsFor later mid.known mid.links before → IsLawful before → number ≡ number_here before (entry_over later entry))
      (within : IsWithin mid new) where
    pub declared-within : IsWithin now new
    declared-within = within-on now mid new (within-grown now now mid (within-itself now) grows retyped) within

    pub on-mid : (later : List Shape) → Begins new.known.types.shapes later → Begins mid.known.types.shapes later
    on-mid later on = begins-on mid.known.types.shapes new.known.types.shapes later within.shapes on

    pub on-now : (later : List Shape) → Begins new.known.types.shapes later → Begins now.known.types.shapes later
    on-now later on = begins-on now.known.types.shapes mid.known.types.shapes later grows.shapes (on-mid later on)

    pub declared-reached : (later : List Shape) → Begins new.known.types.shapes later → (before : Standing) → StandsFor later now.known now.links before → IsLawful before
        → may_be_declared before (entry_over later entry) ≡ true → type_over later seen ≡ kind_seen before (entry_over later entry)
        → Reached later new before (declared_here before (entry_over later entry))
    declared-reached later on before stands lawful may is =
        let e = entry_over later entry in
        let entries = entries-proper later now.known before stands.known in
        let proper = proper-over later entry.kind in
        let below = below-held later now.known before.known stands.known now.known.numbers in
        record {
          stands = known later on before (stands-grown later now.known mid.known now.links mid.links before grows links stands) lawful may is;
          lawful = declared-lawful before e false lawful entries proper below may;
          remembers = (declared-agrees before e false lawful entries proper may).remembers;
        }

    pub declared-number : (later : List Shape) (before : Standing) → StandsFor later now.known now.links before → IsLawful before → number ≡ number_here before (entry_over later entry)
    declared-number later before stands lawful = counted later before (stands-grown later now.known mid.known now.links mid.links before grows links stands) lawful

    -- without an initialiser
    pub plain-made : (source : Source) (defines : Bool) → defines ≡ defines_object (storage_seen said.storage) entry.sort
        → ((later : List Shape) → Begins mid.known.types.shapes later → (before : Standing) → StandsFor later now.known now.links before → IsLawful before
        → Permits later source (Ok seen) (rule_broken (specified_over later said) before false here at (entry_over later entry)) before (entry_over later entry))
        → Proceeds LocalFits bare_over source now new (Ok (record { declared = number; defines = defines; initial = None }))
        (λ later before. item_plain setting (specified_over later said) before declarator (own-entry later before))
    plain-made source defines defines-is permits = record {
      shapes = declared-within.shapes;
      numbered = plain-fits new.known.types number defines;
      within = declared-within;
      gives = λ later on before stands lawful.
          let p = permits later (on-mid later on) before stands lawful in (
            declared_here before (entry_over later entry),
            plain-by later (on-now later on) before stands
                ∙ ap (λ rule. by_rule rule (plain-next later before)) p.0
                ∙ ap (goes_on (declared_here before (entry_over later entry)))
                (ap₂ local_plain (sym (declared-number later before stands lawful)) (sym defines-is) ∙ sym (plain-over later number defines)),
            declared-reached later on before stands lawful p.1 p.2,
          );
    }

    -- with one
    module _ (source : Source) (span : Span) (one : Initialiser)
        (permits : (later : List Shape) → Begins mid.known.types.shapes later → (before : Standing) → StandsFor later now.known now.links before → IsLawful before
        → Permits later source (Ok seen) (rule_broken (specified_over later said) before true here at (entry_over later entry)) before (entry_over later entry)) where
      pub initialised-made : (last : Held) (result : Result LocalHeld Stop)
          → ((later : List Shape) → ProceedsWhere (IsNamed (entry_over later entry) number) LocalFits bare_over source new last result
          (λ after before. initialised setting before (entry_over later entry) number span here at (type_over after seen) one))
          → Proceeds LocalFits bare_over source now last result
          (λ later before. item_initialised setting (specified_over later said) before span declarator one (own-entry later before))
      initialised-made last result rest = record {
        shapes = begins-on now.known.types.shapes new.known.types.shapes last.known.types.shapes declared-within.shapes (rest []).shapes;
        numbered = (rest []).numbered;
        within = if-ok (λ it. IsWithin new last) (λ it. IsWithin now last) result (λ it then_within. within-on now new last declared-within then_within) (rest []).within;
        gives = λ later on before stands lawful.
            let then_on = begins-on new.known.types.shapes last.known.types.shapes later (rest []).shapes on in
            let p = permits later (on-mid later then_on) before stands lawful in
            let e = entry_over later entry in
            let own = own-is later (on-now later then_on) before stands in
            let below = below-held later now.known before.known stands.known now.known.numbers in
            let reached = declared-reached later then_on before stands lawful p.1 p.2 in
            let number-is = declared-number later before stands lawful in
            let plain-static : is_misplaced_static before.known (storage_seen said.storage) (own-entry later before).sort ≡ false =
            ap (λ (it : Declaration). is_misplaced_static before.known (storage_seen said.storage) it.sort) own ∙ not-misplaced (specified_over later said) before true here at e p.0 in
            let is = subst IsEntry own (entry-fits setting before.known (storage_seen said.storage) (name_at declarator) (type_over later kind) plain-static) in
            let named = subst (λ n. IsNamed e n (declared_here before e)) (sym number-is) (named-here before e lawful below p.1 is) in
            let whole =
            initialised-by span one later (on-now later then_on) before stands
            ∙ ap (λ rule. by_rule rule (initialised-next span one later before)) p.0
            ∙ ap (λ n. initialised setting (declared_here before e) e n span (declarator_span declarator).first (name_at declarator) (kind_seen before e) one) (sym number-is)
            ∙ ap (λ n. initialised setting (declared_here before e) e number span n (name_at declarator) (kind_seen before e) one) (sym here-is)
            ∙ ap (λ n. initialised setting (declared_here before e) e number span here n (kind_seen before e) one) (sym at-is)
            ∙ ap (λ type. initialised setting (declared_here before e) e number span here at type one) (sym p.2) in
            subst (Advances (bare_over later) source later last before result) (sym whole)
            (advances-on (bare_over later) source later new last before (declared_here before e) result
            (initialised setting (declared_here before e) e number span here at (type_over later seen) one) reached
            ((rest later).gives later on (declared_here before e) reached.stands reached.lawful named));
      }

-- ---- answers where something holds

module _ {C D : Type 0} (P : Standing → Type 0) (Fits : Table → C → Type 0) (seen : List Shape → C → D) (source : Source) (old new : Held) (whole : List Shape → Standing → Progress D) where
  -- what is given anyway
  pub where-proceeds : (other : List Shape → Standing → Progress D) → ((later : List Shape) (s : Standing) → StandsFor later old.known old.links s → whole later s ≡ other later s)
      → (result : Result C Stop) → Proceeds Fits seen source old new result other → ProceedsWhere P Fits seen source old new result whole
  where-proceeds other is result p = record {
    shapes = p.shapes;
    numbered = p.numbered;
    within = p.within;
    gives = λ later on s stands lawful holds. subst (Advances (seen later) source later new s result) (sym (is later s stands)) (p.gives later on s stands lawful);
  }

  pub where-relays : (result : Result C Stop) (fault : Stop) → IsErrAnd result (λ e. e ≡ fault) → ProceedsWhere P Fits seen source old new (Err fault) whole
      → ProceedsWhere P Fits seen source old new result whole
  where-relays (Ok it) fault handed p = absurd handed
  where-relays (Err e) fault handed p = subst (λ s. ProceedsWhere P Fits seen source old new (Err s) whole) (sym handed) p

  pub where-starves : (result : Result C Stop) → Begins old.known.types.shapes new.known.types.shapes → IsErrAnd result (λ e. e ≡ stop.Memory) → ProceedsWhere P Fits seen source old new result whole
  where-starves result more handed =
      where-relays result stop.Memory handed (record { shapes = more; numbered = tt; within = tt; gives = λ later on s stands lawful holds. tt })

-- ---- what may have no initialiser

module _ (setting : Setting) (source : Source) (span : Span) (one : Initialiser) (now new : Held) where
  abbrev pub alone-whole : List Shape → Standing → Progress Local
  alone-whole later s = typing s (expressions_alone setting s.known one) (λ behind trees. stops 9 span.first)

  abbrev alone-run : List Shape → Known → Outcome (Unit {0})
  alone-run later known = dropped (expressions_alone setting known one)

  abbrev alone-rest : List Shape → Standing → Unit {0} → Progress Local
  alone-rest later behind it = stops 9 span.first

  alone-dropped : (s : Standing) (outcome : Outcome (List Tree)) → ◌≡◌ {A = Progress Local} (typing s outcome (λ behind trees. stops 9 span.first)) (typing s (dropped outcome) (λ behind it. stops 9 span.first))
  alone-dropped s (given known trees) = refl
  alone-dropped s (broken rule at) = refl

  alone-starts : Arrives now now alone-whole (λ later behind. typing behind (alone-run later behind.known) (alone-rest later))
  alone-starts =
      starts now alone-whole (λ later behind. typing behind (alone-run later behind.known) (alone-rest later))
      (λ later s stands lawful. alone-dropped s (expressions_alone setting s.known one))

  pub alone-fails : (fault : Stop) → Follows {A = Unit {0}} Anything nothing_over source now.known new.known (Err fault) (λ later. dropped (expressions_alone setting (known_over later now.known) one))
      → Proceeds LocalFits bare_over source now new (Err fault) alone-whole
  alone-fails fault f = type-fails Anything nothing_over source now now new alone-whole alone-run alone-rest alone-starts LocalFits bare_over fault f

  pub alone-stops : (it : Unit {0}) (fault : Stop) → Follows Anything nothing_over source now.known new.known (Ok it) (λ later. dropped (expressions_alone setting (known_over later now.known) one))
      → new.links ≡ now.links → new.retyped.items ≡ now.retyped.items → fault ≡ stop.Refused (refusal_at source 9 span.first) → Proceeds LocalFits bare_over source now new (Err fault) alone-whole
  alone-stops it fault f links retyped same =
      stops-there LocalFits bare_over source now new alone-whole 9 span.first fault
      (types Anything nothing_over source now now new alone-whole alone-run alone-rest alone-starts it f links retyped
      (λ later known. with-keeps known (expressions_alone setting known one) (λ behind trees. tt) (alone-keeps setting known one))
      (λ later known. with-leads SameTrees known (expressions_alone setting known one) (λ behind trees. tt) (alone-trees setting known one))) same

-- what may have an initialiser is a function or an object
pub starts-by : (function object other : Bool) → (function || object && other) ≡ true → (function || object) ≡ true
starts-by true object other h = refl
starts-by false true other h = refl
starts-by false false other h = absurd (cc)

-- ---- the initialiser

module _ (setting : Setting) (source : Source) (entry : Declaration) (number here at : ℕ) (one : Initialiser) where
  module _ (now typed : Held) (type : ℕ) (links : typed.links ≡ now.links) (retyped : typed.retyped.items ≡ now.retyped.items) where
    abbrev object-whole : List Shape → Standing → Progress Local
    object-whole later s = object_initialised setting entry number here at one s (type_over later type)

    object-run : List Shape → Known → Outcome Initial
    object-run later known = typed_initialiser setting (is_fixed entry.sort) known (type_over later type) one

    object-keeps : (later : List Shape) (known : Known) → KeepsIn known (object-run later known)
    unfolding object-run
    object-keeps later known = initialiser-keeps setting (is_fixed entry.sort) known (type_over later type) one

    fails-there : (later : List Shape) (s : Standing) (fault : Stop) (outcome : Outcome Initial) → Gives (initial_over later) source (known_over later typed.known) (Err fault) outcome
        → Advances (bare_over later) source later typed s (Err fault) (typing s outcome (λ behind initial. object_defined behind entry number here at (type_over later type) initial))
    fails-there later s stop.Memory outcome g = tt
    fails-there later s (stop.Refused refusal) outcome g = (g.0, g.1, ap (λ o. typing s o (λ behind initial. object_defined behind entry number here at (type_over later type) initial)) g.2, g.3)
    fails-there later s (stop.Limit limit) outcome g = absurd g
    fails-there later s (stop.ReadFault file) outcome g = absurd g

    -- the initialiser breaks a rule
    pub initial-fails : (P : Standing → Type 0) (fault : Stop)
        → Follows InitialFits initial_over source now.known typed.known (Err fault) (λ later. typed_initialiser setting (is_fixed entry.sort) (known_over later now.known) (type_over later type) one)
        → ProceedsWhere P LocalFits bare_over source now typed (Err fault) object-whole
    initial-fails P fault f = record {
      shapes = f.shapes;
      numbered = tt;
      within = tt;
      gives = λ later on s stands lawful holds.
          fails-there later s fault (typed_initialiser setting (is_fixed entry.sort) s.known (type_over later type) one)
          (subst (λ known. Gives (initial_over later) source (known_over later typed.known) (Err fault) (typed_initialiser setting (is_fixed entry.sort) known (type_over later type) one))
          (sym stands.known) (f.gives later on));
    }

    -- or it is typed, and the object defined
    pub initial-made : (initial : InitialHeld) (last : Held) (result : Result LocalHeld Stop)
        → Follows InitialFits initial_over source now.known typed.known (Ok initial) (λ later. typed_initialiser setting (is_fixed entry.sort) (known_over later now.known) (type_over later type) one)
        → ProceedsWhere (IsNamed entry number) LocalFits bare_over source typed last result
        (λ later s. object_defined s entry number here at (type_over later type) (initial_over later initial))
        → ProceedsWhere (IsNamed entry number) LocalFits bare_over source now last result object-whole
    unfolding object-run
    initial-made initial last result f rest = record {
      shapes = begins-on now.known.types.shapes typed.known.types.shapes last.known.types.shapes f.shapes rest.shapes;
      numbered = rest.numbered;
      within = if-ok (λ it. IsWithin typed last) (λ it. IsWithin now last) result
          (λ it within. within-on now typed last (typed-within now typed typed.known refl refl refl links retyped InitialFits initial_over source initial object-run f object-keeps) within) rest.within;
      gives = λ later on s stands lawful named.
          let on-typed = begins-on typed.known.types.shapes last.known.types.shapes later rest.shapes on in
          let k = known_over later typed.known in
          let gives = typed-gives now typed typed.known refl refl refl links retyped InitialFits initial_over source initial object-run f object-keeps later on-typed s stands.known in
          let same : SameTrees s.known k = (subst (Leads SameTrees s.known) gives (initialiser-trees setting (is_fixed entry.sort) s.known (type_over later type) one)).leads in
          let adds : Adds s.known k = subst (λ it. Adds it k) (sym stands.known)
          (typed-adds now typed typed.known refl refl refl links retyped InitialFits initial_over source initial object-run f object-keeps later on-typed) in
          let reached = typed-reached now typed typed.known refl refl refl links retyped InitialFits initial_over source initial object-run f object-keeps later on-typed s stands lawful
          (ap (λ trees. record k { constants = trees }) same) in
          subst (Advances (bare_over later) source later last s result)
          (sym (ap (λ outcome. typing s outcome (λ behind it. object_defined behind entry number here at (type_over later type) it)) gives))
          (advances-on (bare_over later) source later typed last s (knowing s k) result (object_defined (knowing s k) entry number here at (type_over later type) (initial_over later initial)) reached
          (rest.gives later on (knowing s k) reached.stands reached.lawful (named-still s k adds lawful entry number named)));
    }

module _ (setting : Setting) (source : Source) (entry : Declaration) (number : ℕ) (span : Span) (here at : ℕ) (one : Initialiser) where
  either-left : Standing → CType → Bool → Progress Local
  either-left s type test =
      if test then object_initialised setting entry number here at one s (completed setting type one)
      else typing s (expressions_alone setting s.known one) (λ behind trees. stops 9 span.first)

  pub alone-left : (s : Standing) (type : CType) → may_be_initialised s.known entry ≡ false
      → initialised setting s entry number span here at type one ≡ typing s (expressions_alone setting s.known one) (λ behind trees. stops 9 span.first)
  unfolding either-left
  alone-left s type may = ap (either-left s type) may

  may-left : (s : Standing) (type : CType) → may_be_initialised s.known entry ≡ true
      → initialised setting s entry number span here at type one ≡ object_initialised setting entry number here at one s (completed setting type one)
  unfolding either-left
  may-left s type may = ap (either-left s type) may

  -- the initialiser completes the type
  pub completed-made : (P : Standing → Type 0) (now mid last : Held) (type whole : ℕ) (result : Result LocalHeld Stop)
      → ((later : List Shape) (s : Standing) → StandsFor later now.known now.links s → may_be_initialised s.known entry ≡ true)
      → Grows now.known mid.known → mid.links ≡ now.links → mid.retyped.items ≡ now.retyped.items
      → ((later : List Shape) → Begins mid.known.types.shapes later → type_over later whole ≡ completed setting (type_over later type) one)
      → ProceedsWhere P LocalFits bare_over source mid last result (λ later s. object_initialised setting entry number here at one s (type_over later whole))
      → ProceedsWhere P LocalFits bare_over source now last result (λ later s. initialised setting s entry number span here at (type_over later type) one)
  completed-made P now mid last type whole result may grows links retyped whole-is rest = record {
    shapes = begins-on now.known.types.shapes mid.known.types.shapes last.known.types.shapes grows.shapes rest.shapes;
    numbered = rest.numbered;
    within = if-ok (λ it. IsWithin mid last) (λ it. IsWithin now last) result (λ it within. within-on now mid last (within-grown now now mid (within-itself now) grows retyped) within) rest.within;
    gives = λ later on s stands lawful holds.
        let then_on = begins-on mid.known.types.shapes last.known.types.shapes later rest.shapes on in
        subst (Advances (bare_over later) source later last s result)
        (sym (may-left s (type_over later type) (may later s stands) ∙ ap (object_initialised setting entry number here at one s) (sym (whole-is later then_on))))
        (rest.gives later on s (stands-grown later now.known mid.known now.links mid.links s grows links stands) lawful holds);
  }

-- ---- the object

module _ (entry : Declaration) (number here at : ℕ) (source : Source) (now new : Held) (kind : ℕ) (initial : InitialHeld) where
  abbrev defined-of : List Shape → Standing → Progress Local
  defined-of later s = object_defined s entry number here at (type_over later kind) (initial_over later initial)

  abbrev defined-rest : List Shape → Standing → Progress Local
  defined-rest later s = goes_on (object_here s entry number (type_over later kind)) (local_initialised number (initial_over later initial))

  abbrev defined-left : Bool → Bool → List Shape → Standing → Progress Local
  defined-left may whole later s = keeps may 2 at (keeps whole 5 here (defined-rest later s))

  pub object-made : (starts : (is_function_sort entry.sort || is_object entry.sort) ≡ true)
      → ((later : List Shape) → Begins now.known.types.shapes later → (s : Standing) → StandsFor later now.known now.links s → may_define s number (type_over later kind) ≡ true)
      → ((later : List Shape) → Begins now.known.types.shapes later → is_complete (known_over later now.known) (type_over later kind) ≡ true)
      → ((later : List Shape) → Begins new.known.types.shapes later → (s : Standing) → StandsFor later now.known now.links s
      → (has_linkage entry.linkage ≡ true → MayBeAdded (known_kind number (type_over later kind) s.known).declared s.linked entry.name number (type_over later kind) true)
      → StandsFor later new.known new.links (object_here s entry number (type_over later kind)))
      → IsWithin now new → InitialFits new.known.types initial
      → ProceedsWhere (IsNamed entry number) LocalFits bare_over source now new (Ok (record { declared = number; defines = true; initial = Some initial })) defined-of
  object-made starts may whole known within fits = record {
    shapes = within.shapes;
    numbered = initialised-fits new.known.types number true initial fits;
    within = within;
    gives = λ later on s stands lawful named.
        let then_on = begins-on now.known.types.shapes new.known.types.shapes later within.shapes on in
        let type = type_over later kind in
        let proper = proper-over later kind in
        let is = may later then_on s stands in
        let complete = ap (λ known. is_complete known type) stands.known ∙ whole later then_on in
        let defined = may-be-defined s entry number type lawful named is starts in (
          object_here s entry number type,
          ap₂ (λ test other. defined-left test other later s) is complete ∙ ap (goes_on (object_here s entry number type)) (sym (initialised-over later number initial)),
          record {
            stands = known later on s stands (λ linked. defined-added s entry number type lawful named is proper linked);
            lawful = object-lawful s lawful number type proper entry defined;
            remembers = (object-agrees s lawful number type proper entry defined).remembers;
          },
        );
  }

  pub never-whole : (fault : Stop) → ((later : List Shape) → Begins now.known.types.shapes later → (s : Standing) → StandsFor later now.known now.links s → may_define s number (type_over later kind) ≡ true)
      → ((later : List Shape) → Begins now.known.types.shapes later → is_complete (known_over later now.known) (type_over later kind) ≡ false)
      → fault ≡ stop.Refused (refusal_at source 5 here) → (P : Standing → Type 0) → ProceedsWhere P LocalFits bare_over source now now (Err fault) defined-of
  never-whole fault may whole same P =
      subst (λ f. ProceedsWhere P LocalFits bare_over source now now (Err f) defined-of) (sym same)
      (record {
        shapes = begins-itself now.known.types.shapes;
        numbered = tt;
        within = tt;
        gives = λ later on s stands lawful named. (
          5,
          here,
          ap₂ (λ test other. defined-left test other later s) (may later on s stands) (ap (λ known. is_complete known (type_over later kind)) stands.known ∙ whole later on),
          refl,
        );
      })
