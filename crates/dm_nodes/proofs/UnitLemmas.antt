-- The nodes of external declarations, and so of units, stand where those of the syntax do.
use Rattle.std.specs.Prelude.{◌≡◌, refl, ℕ, zero, suc, Bool, true, false, ◌&&◌, not, if◌then◌else◌, List, [], ◌∷◌, ◌++◌, Option, Some, None, is_some, slice_get}
use Rattle.std.specs.List.{AllByRecursion}
use Rattle.std.proofs.Common.{ap, subst}
use Rattle.dm_token.specs.declared.place.Span.{Span}
use Rattle.dm_token.specs.declared.token.CToken.{CToken}
use Rattle.dm_name_map.specs.Numbers.{Numbers}
use Rattle.dm_type.specs.declared.shape.Shape.{Shape}
use Rattle.dm_type.specs.CTypes.{CType}
use Rattle.dm_syn.specs.Spans.{declarator_span, external_span}
use Rattle.dm_syn.specs.Statements.{own_in_pointers, own_parameters, own_in_direct}
use Rattle.dm_syn.specs.Trees.{Declarator, Direct, Parameters, Parameter, Stmt, External}
use Rattle.dm_syn.specs.Trees as tree
use Rattle.dm_tree.specs.Trees.{Spans, Tree}
use Rattle.dm_tree.specs.Trees as label
use Rattle.dm_tree.specs.Units.{Declaration, TypedUnit}
use Rattle.dm_tree.specs.Units as unit
use Rattle.dm_typing.specs.declared.extent.Extent.{Extent}
use Rattle.dm_typing.specs.Known.{Known, Setting, Outcome, given, broken}
use Rattle.dm_typing.specs.Conversions.{spans_at, is_complete}
use Rattle.dm_typing.specs.Specifiers.{of_definition}
use Rattle.dm_typing.specs.Typing.{TypedParameter, parameter_of, parameter_at, entered, is_no_parameters}
use Rattle.dm_edecl.specs.Standing.{Standing, Progress, goes_on, stops, further, opened}
use Rattle.dm_edecl.specs.Linkages.{entry_of, function_here, number_here, is_defined}
use Rattle.dm_edecl.specs.Declaring.{Specified, specified, typed_declarator, name_at, fits_main, expressions_of, typed_declaration}
use Rattle.dm_edecl.specs.Statements.{Within, typed_items_in}
use Rattle.dm_edecl.specs.Units.{is_only, may_be_defined, defined_parameter, defined_parameters, own_defined, Heading, typed_heading, body_within, typed_body, function_defined, typed_external, typed_externals, unit_setting, beginning, unit_of, typed_unit}
use Rattle.dm_nodes.specs.Nodes.{StandsIn, trees_in, IsOf, AreOf}
use Rattle.dm_nodes.specs.Syntax.{in_specifiers, in_declarator, in_direct, in_parameters, in_parameter, in_stmt, in_external}
use Rattle.dm_nodes.proofs.FormLemmas.{Each, EachOf, Good, Any, after-yields, with-yields, obeys-yields}
use Rattle.dm_nodes.proofs.ExpressionLemmas.{At, at-front, at-back, each-append, Keeps, parameter-of-keeps}
use Rattle.dm_nodes.proofs.DeclarationLemmas.{Bare, bare-good, Comes, further-comes, collecting-comes, keeps-comes, function-bare, specified-keeps, typed-declarator-keeps, declarable-comes, EachDeclared, declaration-comes}
use Rattle.dm_nodes.proofs.StatementLemmas.{statement-each, closed-comes, stmt-comes, block-comes}

module _ (P : Spans → Type 0) (setting : Setting) where
  -- ---- the parameters of a definition

  abbrev AtOwn : Option Parameters → Type 0
  AtOwn None = Unit {0}
  AtOwn (Some parameters) = At P setting (in_parameters parameters)

  own-pointers : (pointers : List ℕ) (nearest : Option Parameters) → AtOwn nearest → AtOwn (own_in_pointers pointers nearest)
  own-pointers [] nearest h = h
  own-pointers (consts ∷ pointers) nearest h = tt

  mutual
    own-at : (nearest : Option Parameters) (declarator : Declarator) → AtOwn nearest → At P setting (in_declarator declarator) → AtOwn (own_parameters nearest declarator)
    own-at nearest (tree.shaped span pointers direct) h at = own-direct (own_in_pointers pointers nearest) direct (own-pointers pointers nearest h) at

    own-direct : (nearest : Option Parameters) (direct : Direct) → AtOwn nearest → At P setting (in_direct direct) → AtOwn (own_in_direct nearest direct)
    own-direct nearest tree.absent h at = h
    own-direct nearest (tree.declared name) h at = h
    own-direct nearest (tree.enclosed declarator) h at = own-at nearest declarator h at
    own-direct nearest (tree.array direct) h at = own-direct None direct tt at
    own-direct nearest (tree.sized direct value) h at = own-direct None direct tt (at-front P setting (in_direct direct) _ at)
    own-direct nearest (tree.function direct parameters) h at =
        own-direct (Some parameters) direct (at-back P setting (in_direct direct) (in_parameters parameters) at) (at-front P setting (in_direct direct) (in_parameters parameters) at)

  defined-keeps : (known : Known) (span : Span) (declarator : Declarator) (one : TypedParameter) → Good P known → Keeps P setting (may_be_defined known span declarator one (given known one))
  defined-keeps known span declarator one good =
      obeys-yields P (Any P) (is_complete known one.kind) 5 (parameter_at span declarator) _ (obeys-yields P (Any P) (is_some one.declared) 35 span.first _ (good, tt))

  parameter-keeps : (alone : Bool) (known : Known) (parameter : Parameter) → At P setting (in_parameter parameter) → Good P known → Keeps P setting (defined_parameter setting alone known parameter)
  parameter-keeps alone known (tree.parameter span specifiers declarator) at good =
      after-yields P (Any P) (Any P) (parameter_of setting true known (tree.parameter span specifiers declarator)) _ (parameter-of-keeps P setting true known (tree.parameter span specifiers declarator) at good)
      (λ behind one still any. by behind one still (alone && is_no_parameters (one ∷ [])))
    where
      by : (behind : Known) (one : TypedParameter) → Good P behind → (b : Bool) → Keeps P setting (if b then given behind one else may_be_defined behind span declarator one (given behind one))
      by behind one still true = (still, tt)
      by behind one still false = defined-keeps behind span declarator one still

  parameters-keep : (alone : Bool) (known : Known) (parameters : Parameters) → At P setting (in_parameters parameters) → Good P known → Keeps P setting (defined_parameters setting alone known parameters)
  parameters-keep alone known tree.no_parameters at good = (good, tt)
  parameters-keep alone known (tree.more_parameters first others) at good =
      after-yields P (Any P) (Any P) (defined_parameter setting (alone && is_only others) known first) _
      (parameter-keeps (alone && is_only others) known first (at-front P setting (in_parameter first) (in_parameters others) at) good)
      (λ then_known made now any. with-yields P (Any P) (Any P) (defined_parameters setting false then_known others) _
      (parameters-keep false then_known others (at-back P setting (in_parameter first) (in_parameters others) at) now) (λ behind more any. tt))

  own-keeps : (known : Known) (own : Option Parameters) → AtOwn own → Good P known → Keeps P setting (own_defined setting known own)
  own-keeps known None at good = (good, tt)
  own-keeps known (Some parameters) at good = parameters-keep true (entered known) parameters at good

  heading-keeps : (known : Known) (base : CType) (declarator : Declarator) → At P setting (in_declarator declarator) → Good P known → Keeps P setting (typed_heading setting known base declarator)
  heading-keeps known base declarator at good =
      after-yields P (Any P) (Any P) (own_defined setting known (own_parameters None declarator)) _ (own-keeps known (own_parameters None declarator) (own-at None declarator tt at) good)
      (λ inside parameters now any. with-yields P (Any P) (Any P) (typed_declarator setting known base declarator) _ (typed-declarator-keeps P setting known base declarator at good) (λ behind kind any. tt))

  -- ---- function definitions

  body-comes : (within : Within) (standing : Standing) (scope : Numbers) (body : Stmt) → At P setting (in_stmt body) → Bare P setting standing → Comes P setting (Each P) (typed_body setting within standing scope body)
  body-comes within standing scope (tree.block span items) at good =
      closed-comes P setting (Each P) standing _
      (further-comes P setting (EachOf P) (Each P) (typed_items_in setting within (opened scope standing) items) _ (block-comes P setting within (opened scope standing) items at.1 good)
      (λ behind trees still each. (still, statement-each P setting span label.block trees at.0 each)))
  body-comes within standing scope (tree.expression span expr) at good = stmt-comes P setting within standing (tree.expression span expr) at good
  body-comes within standing scope (tree.if_only span condition body) at good = stmt-comes P setting within standing (tree.if_only span condition body) at good
  body-comes within standing scope (tree.if_else span condition body other) at good = stmt-comes P setting within standing (tree.if_else span condition body other) at good
  body-comes within standing scope (tree.switch span operand items) at good = stmt-comes P setting within standing (tree.switch span operand items) at good
  body-comes within standing scope (tree.while span condition body) at good = stmt-comes P setting within standing (tree.while span condition body) at good
  body-comes within standing scope (tree.do_while span body condition) at good = stmt-comes P setting within standing (tree.do_while span body condition) at good
  body-comes within standing scope (tree.for_loop span start condition step body) at good = stmt-comes P setting within standing (tree.for_loop span start condition step body) at good
  body-comes within standing scope (tree.break span) at good = stmt-comes P setting within standing (tree.break span) at good
  body-comes within standing scope (tree.continue span) at good = stmt-comes P setting within standing (tree.continue span) at good
  body-comes within standing scope (tree.return span expr) at good = stmt-comes P setting within standing (tree.return span expr) at good

  -- an external declaration with this span, all of whose trees stand so
  abbrev pub EachExternal : Span → unit.External → Type 0
  EachExternal span it = (it.span ≡ span) × EachOf P (it.constants ++ trees_in it.form)

  defined-comes : (said : Specified) (standing : Standing) (span : Span) (declarator : Declarator) (body : Stmt) (constants : List Tree) (heading : Heading) (entry : Declaration) → At P setting (in_stmt body)
      → Bare P setting standing → EachOf P constants → Comes P setting (EachExternal span) (function_defined setting said standing span declarator body constants heading entry)
  defined-comes said standing span declarator body constants heading entry at good each =
      keeps-comes P setting (EachExternal span) (not (is_defined (number_here standing entry) standing.linked)) 2 (name_at declarator) _
      (declarable-comes P setting (EachExternal span) said standing false (declarator_span declarator).first (name_at declarator) entry _
      (keeps-comes P setting (EachExternal span) (fits_main entry) 36 (name_at declarator) _
      (further-comes P setting (Each P) (EachExternal span) (typed_body setting (body_within heading.kind) (function_here standing entry) heading.scope body) _
      (body-comes (body_within heading.kind) (function_here standing entry) heading.scope body at (function-bare P setting standing entry good))
      (λ behind made still one. (still, (refl, each-append P setting constants (made ∷ []) each (one, tt)))))))

  external-comes : (standing : Standing) (external : External) → At P setting (in_external external) → Bare P setting standing → Comes P setting (EachExternal (external_span external)) (typed_external setting standing external)
  external-comes standing (tree.external span declaration) at good =
      further-comes P setting (EachDeclared P setting) (EachExternal span) (typed_declaration setting standing declaration) _ (declaration-comes P setting standing declaration at good)
      (λ behind one still each. (still, (refl, each-append P setting one.constants (expressions_of one.locals) each.0 each.1)))
  external-comes standing (tree.definition span specifiers declarator body) at good =
      let rest = at-back P setting (in_specifiers specifiers) (in_declarator declarator ++ in_stmt body) at in
      collecting-comes P setting (Any P) (EachExternal span) standing (specified setting of_definition false standing.known specifiers) _ good
      (specified-keeps P setting of_definition false standing.known specifiers (at-front P setting (in_specifiers specifiers) (in_declarator declarator ++ in_stmt body) at) (bare-good P setting standing good))
      (λ then_standing constants said now lengths any. collecting-comes P setting (Any P) (EachExternal span) then_standing (typed_heading setting then_standing.known said.kind declarator) _ now
      (heading-keeps then_standing.known said.kind declarator (at-front P setting (in_declarator declarator) (in_stmt body) rest) (bare-good P setting then_standing now))
      (λ behind more heading still others any. defined-comes said behind span declarator body (constants ++ more) heading (entry_of setting behind.known said.storage (name_at declarator) heading.kind)
      (at-back P setting (in_declarator declarator) (in_stmt body) rest) still (each-append P setting constants more lengths others)))

-- ---- the nodes of the syntax

-- each piece of syntax is among the pieces
among : {A : Type 0} (Q : A → Type 0) (items : List A) → ((k : ℕ) (one : A) → slice_get items k ≡ Some one → Q one) → AllByRecursion Q items
among Q [] h = tt
among Q (first ∷ others) h = (h zero first refl, among Q others (λ k one e. h (suc k) one e))

stand-in : (setting : Setting) (list : List Extent) → At (StandsIn setting.source list) setting list
stand-in setting list = among (λ one. StandsIn setting.source list (spans_at setting.source one)) list (λ k one e. (k, one, e, refl))

module _ (setting : Setting) where
  -- a list of external declarations
  externals-come : (standing : Standing) (externals : List External) → standing.known.constants ≡ [] → (behind : Standing) (all : List unit.External) → typed_externals setting standing externals ≡ goes_on behind all
      → AreOf setting.source externals all
  externals-come standing [] bare behind all is = subst (AreOf setting.source []) (made-is standing behind [] all is) tt
    where
      made-is : (s t : Standing) (one other : List unit.External) → ◌≡◌ {A = Progress (List unit.External)} (goes_on s one) (goes_on t other) → one ≡ other
      made-is s t one other e = cc
  externals-come standing (first ∷ others) bare behind all is =
      by (typed_external setting standing first)
      (external-comes (StandsIn setting.source (in_external first)) setting standing first (stand-in setting (in_external first)) bare)
      (λ then_standing still last list e. externals-come then_standing others still last list e) is
    where
      no-stop : (rule at : ℕ) → ◌≡◌ {A = Progress (List unit.External)} (stops rule at) (goes_on behind all) → ⊥
      no-stop rule at e = cc

      made-is : (s : Standing) (one : List unit.External) → ◌≡◌ {A = Progress (List unit.External)} (goes_on s one) (goes_on behind all) → one ≡ all
      made-is s one e = cc

      rest : (then_standing : Standing) (made : unit.External) → ((last : Standing) (list : List unit.External) → typed_externals setting then_standing others ≡ goes_on last list → AreOf setting.source others list)
          → IsOf setting.source first made
          → (more : Progress (List unit.External)) → typed_externals setting then_standing others ≡ more → further more (λ last list. goes_on last (made ∷ list)) ≡ goes_on behind all → AreOf setting.source (first ∷ others) all
      rest then_standing made later one (stops rule at) e k = absurd (no-stop rule at k)
      rest then_standing made later one (goes_on last list) e k = subst (AreOf setting.source (first ∷ others)) (made-is last (made ∷ list) k) (one, later last list e)

      by : (one : Progress unit.External) → Comes (StandsIn setting.source (in_external first)) setting (EachExternal (StandsIn setting.source (in_external first)) setting (external_span first)) one
          → ((then_standing : Standing) → then_standing.known.constants ≡ [] → (last : Standing) (list : List unit.External) → typed_externals setting then_standing others ≡ goes_on last list → AreOf setting.source others list)
          → further one (λ then_standing made. further (typed_externals setting then_standing others) (λ last more. goes_on last (made ∷ more))) ≡ goes_on behind all → AreOf setting.source (first ∷ others) all
      by (stops rule at) h later k = absurd (no-stop rule at k)
      by (goes_on then_standing made) h later k = rest then_standing made (later then_standing h.0) h.1 (typed_externals setting then_standing others) refl k

-- a unit
pub unit-nodes : (shapes : List Shape) (tokens : List CToken) (externals : List External) (known : Known) (one : TypedUnit) → typed_unit shapes tokens externals ≡ given known one
    → AreOf (unit_setting tokens externals).source externals one.externals
unit-nodes shapes tokens externals known one is = by (typed_externals (unit_setting tokens externals) (beginning shapes) externals) refl is
  where
    made-is : (k : Known) (other : TypedUnit) → ◌≡◌ {A = Outcome TypedUnit} (given k other) (given known one) → other.externals ≡ one.externals
    made-is k other e = ap (λ (it : TypedUnit). it.externals) (same k other e)
      where
        same : (k : Known) (other : TypedUnit) → ◌≡◌ {A = Outcome TypedUnit} (given k other) (given known one) → other ≡ one
        same k other e = cc

    no-unit : (rule at : ℕ) → ◌≡◌ {A = Outcome TypedUnit} (broken rule at) (given known one) → ⊥
    no-unit rule at e = cc

    by : (made : Progress (List unit.External)) → typed_externals (unit_setting tokens externals) (beginning shapes) externals ≡ made → unit_of made ≡ given known one → AreOf (unit_setting tokens externals).source externals one.externals
    by (goes_on behind all) e k = subst (AreOf (unit_setting tokens externals).source externals) (made-is behind.known _ k) (externals-come (unit_setting tokens externals) (beginning shapes) externals refl behind all e)
    by (stops rule at) e k = absurd (no-unit rule at k)
