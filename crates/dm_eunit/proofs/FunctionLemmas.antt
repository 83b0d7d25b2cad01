-- The steps of the code through a function definition.
use Rattle.std.specs.Prelude.{◌≡◌, ℕ, true, false, List, [], ◌∷◌, ◌++◌, length, map, Option, Some, None, Result, Ok, Err, slice_index_or, refl}
use Rattle.std.specs.FinMap as finite
use Rattle.std.specs.List.{list_all}
use Rattle.std.proofs.Common.{sym, ap, ◌∙◌, subst}
use Rattle.std.proofs.lemmas.Bool.{and_from}
use Rattle.std.proofs.lemmas.List.{map-append}
use Rattle.std.proofs.lemmas.List.Elements.{All-head, All-tail, All-append}
use Rattle.dm_token.specs.declared.place.Span.{Span}
use Rattle.dm_token.specs.declared.stop.Stop.{Stop}
use Rattle.dm_type.specs.declared.shape.Shape.{Shape}
use Rattle.dm_type.specs.CTypes.{CType}
use Rattle.dm_type.specs.Tables.{Table}
use Rattle.dm_syn.specs.Spans.{declarator_span}
use Rattle.dm_syn.specs.Trees.{Specifiers, Declarator, Stmt}
use Rattle.dm_syn.specs.Trees as tree
use Rattle.dm_tree.specs.declared.tree.Core.{Core}
use Rattle.dm_tree.specs.declared.unit.CoreExternal.{CoreExternal}
use Rattle.dm_tree.specs.declared.unit.CoreExternalForm.TheVariants.{Function}
use Rattle.dm_tree.specs.Trees.{Tree}
use Rattle.dm_tree.specs.TypeNumbers.{are_known}
use Rattle.dm_tree.specs.Units.{Declaration, External, defines_function}
use Rattle.dm_typing.specs.declared.known.Known.{Known as Known-held}
use Rattle.dm_typing.specs.Fitting.{IsNumbered, AreNumbered}
use Rattle.dm_typing.specs.Views.{Begins, type_over, view_over, known_over}
use Rattle.dm_typing.proofs.LaterLemmas.{begins-on, trees-later}
use Rattle.dm_edeclarator.specs.Steps.{SameBesideConstants, Follows}
use Rattle.dm_edeclarator.proofs.FitLemmas.{id-later}
use Rattle.dm_typing.specs.Known.{Known, Setting, Outcome, given, broken, after, with_it}
use Rattle.dm_typing.specs.Specifiers.{of_definition}
use Rattle.dm_typing.specs.Typing.{TypedParameter, without_void}
use Rattle.dm_syn.specs.Statements.{own_parameters}
use Rattle.dm_eexpr.proofs.KeepLemmas.{KeepsIn, with-keeps}
use Rattle.dm_edecl.specs.Standing.{Standing, Progress, goes_on, further, knowing, collecting}
use Rattle.dm_edecl.specs.Linkages.{entry_of, number_here, function_here}
use Rattle.dm_edecl.specs.Declaring.{Specified, specified, typed_declarator, name_at}
use Rattle.dm_edecl.specs.Units.{own_defined, Heading, innermost, typed_heading, body_within, typed_body, external_of, typed_external}
use Rattle.dm_edecl.specs.Units as units
use Rattle.dm_estanding.specs.declared.links.Links.{Links}
use Rattle.dm_estanding.specs.declared.standing.Retyped.{Retyped}
use Rattle.dm_estanding.specs.declared.standing.Standing.{Standing as Held}
use Rattle.dm_estanding.specs.Kinds.{HaveKinds, WereTypes}
use Rattle.dm_estanding.specs.Proceeding.{Proceeds}
use Rattle.dm_estanding.specs.Summaries.{storage_seen}
use Rattle.dm_estanding.proofs.ProceedingLemmas.{Arrives, starts, restated, passes, fails, ends, done, collects, collect-fails}
use Rattle.dm_edeclaration.specs.declared.specified.Specification.{Specification}
use Rattle.dm_edeclaration.specs.Steps.{specified_over, SpecifiedFits}
use Rattle.dm_edeclaration.proofs.DeclarableLemmas.{by_rule}
use Rattle.dm_edeclaration.proofs.StepLemmas.{specified-keeps, declarator-keeps}
use Rattle.dm_eunit.specs.declared.heading.Heading.{Heading as HeadingHeld}
use Rattle.dm_eunit.specs.declared.naming.Numbered.{Numbered}
use Rattle.dm_eunit.specs.Functions.{definition_broken, function_declared, NumberFits, number_over, function_ended, function_defined, function_headed, external_over, ExternalFits}
use Rattle.dm_eunit.specs.Headings.{headed_over, HeadedFits}
use Rattle.dm_eunit.specs.Naming.{with_names}
use Rattle.dm_eunit.specs.Parts.{Headed, headed_by, headed}
use Rattle.dm_eunit.proofs.DefinableLemmas.{definition-by}

-- ---- the definition in the steps of the code

further-by : {A B : Type 0} (broken : Option (ℕ × ℕ)) (progress : Progress A) (next : Standing → A → Progress B) → further (by_rule broken progress) next ≡ by_rule broken (further progress next)
further-by None progress next = refl
further-by (Some fault) progress next = refl

function-defined-is : (setting : Setting) (said : Specified) (s : Standing) (span : Span) (declarator : Declarator) (body : Stmt) (constants : List Tree) (heading : Heading) (entry : Declaration)
    → units.function_defined setting said s span declarator body constants heading entry ≡ function_defined setting said s span constants declarator body (headed_by heading) entry
function-defined-is setting said s span declarator body constants heading entry =
    let broken = definition_broken said s (declarator_span declarator).first (name_at declarator) entry in
    let ends : Standing → ℕ → Progress External = λ behind number. function_ended setting number span constants body (headed_by heading) behind in
    let here : Progress ℕ = goes_on (function_here s entry) (number_here s entry) in
    definition-by said s declarator entry (ends (function_here s entry) (number_here s entry))
    ∙ sym (further-by broken here ends)
    ∙ ap (λ progress. further progress ends) (sym (definition-by said s declarator entry here))

headed-is : (setting : Setting) (said : Specified) (s : Standing) (span : Span) (declarator : Declarator) (body : Stmt) (constants : List Tree) (outcome : Outcome Heading)
    → collecting s outcome (λ behind more heading. units.function_defined setting said behind span declarator body (constants ++ more) heading
    (entry_of setting behind.known said.storage (name_at declarator) heading.kind))
    ≡ collecting s (headed outcome) (λ behind more heading. function_defined setting said behind span (constants ++ more) declarator body heading
    (entry_of setting behind.known said.storage (name_at declarator) heading.kind))
headed-is setting said s span declarator body constants (given known heading) =
    let behind = knowing s known in
    function-defined-is setting said behind span declarator body (constants ++ known.constants) heading (entry_of setting behind.known said.storage (name_at declarator) heading.kind)
headed-is setting said s span declarator body constants (broken rule at) = refl

abbrev pub function-next : Setting → Span → Declarator → Stmt → Standing → List Tree → Specified → Progress External
function-next setting span declarator body behind constants said = function_headed setting said behind span constants declarator body

pub function-is : (setting : Setting) (s : Standing) (span : Span) (specifiers : Specifiers) (declarator : Declarator) (body : Stmt)
    → typed_external setting s (tree.definition span specifiers declarator body)
    ≡ collecting s (specified setting of_definition false s.known specifiers) (function-next setting span declarator body)
function-is setting s span specifiers declarator body = go (specified setting of_definition false s.known specifiers)
  where
    go : (outcome : Outcome Specified)
        → collecting s outcome (λ then_standing constants said. collecting then_standing (typed_heading setting then_standing.known said.kind declarator) (λ behind more heading.
        units.function_defined setting said behind span declarator body (constants ++ more) heading (entry_of setting behind.known said.storage (name_at declarator) heading.kind)))
        ≡ collecting s outcome (function-next setting span declarator body)
    go (given known said) = headed-is setting said (knowing s known) span declarator body known.constants (typed_heading setting (knowing s known).known said.kind declarator)
    go (broken rule at) = refl

-- ---- what is known behind the declarator

pub heading-keeps : (setting : Setting) (known : Known) (base : CType) (declarator : Declarator) → KeepsIn known (headed (typed_heading setting known base declarator))
heading-keeps setting known base declarator = go (own_defined setting known (own_parameters None declarator))
  where
    go : (own : Outcome (List TypedParameter)) → KeepsIn known (headed (after own (λ inside parameters. with_it (typed_declarator setting known base declarator)
        (λ behind kind. record { kind = kind; parameters = without_void parameters; scope = innermost inside.scopes }))))
    go (given inside parameters) =
        let whole : Known → CType → Heading = λ behind kind. record { kind = kind; parameters = without_void parameters; scope = innermost inside.scopes } in
        with-keeps known (with_it (typed_declarator setting known base declarator) whole) (λ behind heading. headed_by heading)
        (with-keeps known (typed_declarator setting known base declarator) whole (declarator-keeps setting known base declarator))
    go (broken rule at) = record { leads = tt }

-- ---- behind the declarator

pub list-known : (types : Table) (trees : List Core) → AreNumbered types trees → list_all (are_known (length types.shapes)) trees ≡ true
list-known types [] all = refl
list-known types (tree ∷ trees) all =
    and_from (are_known (length types.shapes) tree) (list_all (are_known (length types.shapes)) trees) (All-head (IsNumbered types) tree trees all)
    (list-known types trees (All-tail (IsNumbered types) tree trees all))

module _ (setting : Setting) (said : Specification) (span : Span) (constants : List Core) (declarator : Declarator) (body : Stmt) (heading : HeadingHeld) (now mid new : Held) where
  abbrev pub defined-whole : List Shape → Standing → Progress External
  defined-whole later before =
      function_defined setting (specified_over later said) before span (map (view_over later) constants) declarator body (headed_over later heading)
      (entry_of setting before.known (storage_seen said.storage) (name_at declarator) (type_over later heading.kind))

  abbrev pub defined-one : List Shape → Standing → Progress ℕ
  defined-one later before =
      function_declared (specified_over later said) before declarator (entry_of setting before.known (storage_seen said.storage) (name_at declarator) (type_over later heading.kind))

  abbrev defined-next : List Shape → Standing → ℕ → Progress External
  defined-next later behind number = function_ended setting number span (map (view_over later) constants) body (headed_over later heading) behind

  abbrev pub body-run : List Shape → Standing → Progress Tree
  body-run later behind = typed_body setting (body_within (type_over later heading.kind)) behind (with_names finite.empty heading.own.names.items) body

  abbrev body-ends : ℕ → List Shape → Standing → Tree → Progress External
  body-ends number later behind made = goes_on behind (external_of span (map (view_over later) constants) (defines_function number heading.own.numbers made))

  defined-starts : Arrives now now defined-whole (λ later behind. further (defined-one later behind) (defined-next later))
  defined-starts = starts now defined-whole (λ later behind. further (defined-one later behind) (defined-next later)) (λ later before stands lawful. refl)

  -- the names are those of the parameters
  pub body-named : (names : List Numbered) → names ≡ heading.own.names.items → (result : Result Core Stop)
      → Proceeds IsNumbered view_over setting.source mid new result (λ later behind. typed_body setting (body_within (type_over later heading.kind)) behind (with_names finite.empty names) body)
      → Proceeds IsNumbered view_over setting.source mid new result body-run
  body-named names same result p =
      subst (λ these. Proceeds IsNumbered view_over setting.source mid new result
      (λ later behind. typed_body setting (body_within (type_over later heading.kind)) behind (with_names finite.empty these) body)) same p

  module _ (number : ℕ) (declared : Proceeds NumberFits number_over setting.source now mid (Ok number) defined-one) where
    body-starts : Arrives now mid defined-whole (λ later behind. further (body-run later behind) (body-ends number later))
    body-starts = passes NumberFits number_over setting.source now now mid defined-whole defined-one defined-next number defined-starts declared

    pub body-fails : (fault : Stop) → Proceeds IsNumbered view_over setting.source mid new (Err fault) body-run → Proceeds ExternalFits external_over setting.source now new (Err fault) defined-whole
    body-fails fault p = fails IsNumbered view_over setting.source now mid new defined-whole ExternalFits external_over body-run (body-ends number) fault body-starts p

    pub body-made : (made : Core) → Proceeds IsNumbered view_over setting.source mid new (Ok made) body-run → AreNumbered now.known.types constants
        → Proceeds ExternalFits external_over setting.source now new (Ok (record { span = span; constants = constants; form = Function number heading.own.numbers made })) defined-whole
    body-made made p trees =
        done ExternalFits external_over setting.source now new defined-whole (record { span = span; constants = constants; form = Function number heading.own.numbers made })
        (passes IsNumbered view_over setting.source now mid new defined-whole body-run (body-ends number) made body-starts p)
        (and_from (list_all (are_known (length new.known.types.shapes)) constants) (are_known (length new.known.types.shapes) made)
        (list-known new.known.types constants (trees-later now.known.types new.known.types constants
        (begins-on now.known.types.shapes mid.known.types.shapes new.known.types.shapes declared.shapes p.shapes) trees)) p.numbered)

-- ---- behind the specifiers

-- the summaries and the changes stay numbered
pub kinds-later : (old new : Table) (links : Links) → Begins old.shapes new.shapes → HaveKinds old links → HaveKinds new links
kinds-later old new links more all number whole h = id-later old new whole.kind more (all number whole h)

pub changes-later : (old new : Table) (changes : List Retyped) → Begins old.shapes new.shapes → WereTypes old changes → WereTypes new changes
changes-later old new changes more all k d inside = id-later old new (slice_index_or changes k d).kind more (all k d inside)

pub joined-trees : (now typed mid : Known-held) (constants more all : List Core) → Begins now.types.shapes typed.types.shapes → mid.types ≡ typed.types → more ≡ typed.constants → all ≡ constants ++ more
    → AreNumbered now.types constants → AreNumbered mid.types all
joined-trees now typed mid constants more all grown same taken all-is trees =
    subst (AreNumbered mid.types) (sym all-is)
    (All-append (IsNumbered mid.types) constants more
    (subst (λ types. AreNumbered types constants) (sym same) (trees-later now.types typed.types constants grown trees))
    (subst (λ types. AreNumbered types more) (sym same) (subst (AreNumbered typed.types) (sym taken) typed.trees)))

module _ (setting : Setting) (said : Specification) (span : Span) (constants : List Core) (declarator : Declarator) (body : Stmt) (now : Held) where
  abbrev pub headed-whole : List Shape → Standing → Progress External
  headed-whole later before = function_headed setting (specified_over later said) before span (map (view_over later) constants) declarator body

  abbrev headed-one : List Shape → Known → Outcome Headed
  headed-one later known = headed (typed_heading setting known (type_over later said.kind) declarator)

  abbrev headed-next : List Shape → Standing → List Tree → Headed → Progress External
  headed-next later behind more heading =
      function_defined setting (specified_over later said) behind span (map (view_over later) constants ++ more) declarator body heading
      (entry_of setting behind.known (storage_seen said.storage) (name_at declarator) heading.kind)

  headed-starts : Arrives now now headed-whole (λ later behind. collecting behind (headed-one later behind.known) (headed-next later))
  headed-starts = starts now headed-whole (λ later behind. collecting behind (headed-one later behind.known) (headed-next later)) (λ later before stands lawful. refl)

  pub heading-fails : (new : Held) (fault : Stop) → Follows HeadedFits headed_over setting.source now.known new.known (Err fault) (λ later. headed-one later (known_over later now.known))
      → Proceeds ExternalFits external_over setting.source now new (Err fault) headed-whole
  heading-fails new fault f = collect-fails HeadedFits headed_over setting.source now now new headed-whole headed-one headed-next headed-starts ExternalFits external_over fault f

  module _ (typed : Known-held) (mid : Held) (heading : HeadingHeld) (more all : List Core)
      (f : Follows HeadedFits headed_over setting.source now.known typed (Ok heading) (λ later. headed-one later (known_over later now.known)))
      (same : SameBesideConstants typed mid.known) (none : mid.known.constants ≡ []) (taken : more ≡ typed.constants) (links : mid.links ≡ now.links)
      (retyped : mid.retyped.items ≡ now.retyped.items) (all-is : all ≡ constants ++ more) where
    headed-collected : Arrives now mid headed-whole (defined-whole setting said span all declarator body heading mid mid mid)
    headed-collected =
        restated now mid headed-whole (λ later behind. headed-next later behind (map (view_over later) more) (headed_over later heading)) (defined-whole setting said span all declarator body heading mid mid mid)
        (collects HeadedFits headed_over setting.source now now mid headed-whole headed-one headed-next headed-starts heading typed more f same none taken links retyped
        (λ later known. heading-keeps setting known (type_over later said.kind) declarator))
        (λ later on behind stands lawful.
        ap (λ trees. function_defined setting (specified_over later said) behind span trees declarator body (headed_over later heading)
        (entry_of setting behind.known (storage_seen said.storage) (name_at declarator) (type_over later heading.kind)))
        (sym (map-append (view_over later) constants more) ∙ ap (map (view_over later)) (sym all-is)))

    pub headed-made : (new : Held) (result : Result CoreExternal Stop) → Proceeds ExternalFits external_over setting.source mid new result (defined-whole setting said span all declarator body heading mid mid mid)
        → Proceeds ExternalFits external_over setting.source now new result headed-whole
    headed-made new result p = ends ExternalFits external_over setting.source now mid new headed-whole (defined-whole setting said span all declarator body heading mid mid mid) headed-collected result p

-- ---- definitions

module _ (setting : Setting) (span : Span) (specifiers : Specifiers) (declarator : Declarator) (body : Stmt) (now : Held) where
  abbrev pub function-whole : List Shape → Standing → Progress External
  function-whole later before = typed_external setting before (tree.definition span specifiers declarator body)

  abbrev function-one : List Shape → Known → Outcome Specified
  function-one later known = specified setting of_definition false known specifiers

  abbrev function-then : List Shape → Standing → List Tree → Specified → Progress External
  function-then later = function-next setting span declarator body

  function-starts : Arrives now now function-whole (λ later behind. collecting behind (function-one later behind.known) (function-then later))
  function-starts =
      starts now function-whole (λ later behind. collecting behind (function-one later behind.known) (function-then later))
      (λ later before stands lawful. function-is setting before span specifiers declarator body)

  pub specifiers-fail : (new : Held) (fault : Stop) → Follows SpecifiedFits specified_over setting.source now.known new.known (Err fault) (λ later. function-one later (known_over later now.known))
      → Proceeds ExternalFits external_over setting.source now new (Err fault) function-whole
  specifiers-fail new fault f = collect-fails SpecifiedFits specified_over setting.source now now new function-whole function-one function-then function-starts ExternalFits external_over fault f

  pub function-made : (typed : Known-held) (mid : Held) (said : Specification) (constants : List Core)
      → Follows SpecifiedFits specified_over setting.source now.known typed (Ok said) (λ later. function-one later (known_over later now.known))
      → SameBesideConstants typed mid.known → mid.known.constants ≡ [] → constants ≡ typed.constants → mid.links ≡ now.links → mid.retyped.items ≡ now.retyped.items
      → (new : Held) (result : Result CoreExternal Stop) → Proceeds ExternalFits external_over setting.source mid new result (headed-whole setting said span constants declarator body mid)
      → Proceeds ExternalFits external_over setting.source now new result function-whole
  function-made typed mid said constants f same none taken links retyped new result p =
      ends ExternalFits external_over setting.source now mid new function-whole (headed-whole setting said span constants declarator body mid)
      (collects SpecifiedFits specified_over setting.source now now mid function-whole function-one function-then function-starts said typed constants f same none taken links retyped
      (λ later known. specified-keeps setting of_definition false known specifiers)) result p
