-- Names in external declarations, and so in units, mean what the typing says.
use Rattle.std.specs.Prelude.{◌≡◌, refl, ℕ, zero, suc, ◌+◌, false, not, List, [], ◌∷◌, ◌++◌, Some, None, IsSome, slice_get}
use Rattle.std.specs.List.{AllByRecursion}
use Rattle.std.specs.FinMap as map
use Rattle.std.proofs.Common.{sym, ap, ◌∙◌, subst}
use Rattle.dm_token.specs.declared.place.Span.{Span}
use Rattle.dm_token.specs.declared.token.CToken.{CToken}
use Rattle.dm_type.specs.declared.shape.Shape.{Shape}
use Rattle.dm_syn.specs.declared.declared.Declared.{Declared as Scoped}
use Rattle.dm_syn.specs.Scopes.{declarator_name, specifiers_declares, named_declares, defines_types}
use Rattle.dm_syn.specs.Sources.{Source as Text, spelling_at}
use Rattle.dm_syn.specs.Spans.{declarator_span, external_span}
use Rattle.dm_syn.specs.Statements.{own_parameters, body_declares, IsBlock, IsStmt, IsExternal}
use Rattle.dm_syn.specs.Trees.{Declarator, Stmt, External}
use Rattle.dm_syn.specs.Trees as tree
use Rattle.dm_pexpr.specs.Answers.{source_with}
use Rattle.dm_pexpr.specs.NameMaps.{NameMap}
use Rattle.dm_tree.specs.Trees.{Tree}
use Rattle.dm_tree.specs.Units.{Declaration, TypedUnit}
use Rattle.dm_tree.specs.Units as unit
use Rattle.dm_typing.specs.Known.{Known, Outcome, given, broken}
use Rattle.dm_typing.specs.Specifiers.{of_definition}
use Rattle.dm_edecl.specs.Standing.{Standing, Progress, goes_on, stops, opened, closed}
use Rattle.dm_name_map.specs.Numbers.{Numbers}
use Rattle.dm_edecl.specs.Linkages.{entry_of, function_here, number_here, is_defined}
use Rattle.dm_edecl.specs.Declaring.{Specified, specified, name_at, fits_main, expressions_of, typed_declaration}
use Rattle.dm_edecl.specs.Statements.{Within, typed_items_in}
use Rattle.dm_edecl.specs.Units.{Heading, typed_heading, body_within, typed_body, function_defined, typed_external, typed_externals, unit_setting, beginning, unit_of, typed_unit}
use Rattle.dm_reading.specs.Syntax.{names_behind, Stand, IsSyntax}
use Rattle.dm_names.specs.declared.identifier.Identifier.{Identifier}
use Rattle.dm_names.specs.declared.nest.Scope.{Scope}
use Rattle.dm_names.specs.declared.seen.Seen.{Seen}
use Rattle.dm_names.specs.Declarations.{numbers_declared, source_of}
use Rattle.dm_names.specs.Meanings.{nothing_seen, next_external, shown_from, identifiers_in, identifiers_of}
use Rattle.dm_names.specs.Seen.{opened as open_seen, closed as close_seen, naming as naming_seen, specifiers, declarator, declaration, block_items, own_scope, without_own, body, external}
use Rattle.dm_numbered.specs.Numbered.{EachMeant, trees_in, AreMeant, is_hash, ArePlain}
use Rattle.dm_numbered.proofs.GrowthLemmas.{Grows, all-front, all-back, specifiers-grow, declarator-grows, naming-grows, items-in-grow}
use Rattle.dm_numbered.proofs.ScopeLemmas.{IsAlike, empty-alike, IsUnder, empty-under}
use Rattle.dm_numbered.proofs.StateLemmas.{Frame, IsAmong, Good, In}
use Rattle.dm_numbered.proofs.ApartLemmas.{unit-found}
use Rattle.dm_numbered.proofs.NumberLemmas.{numbers_then, form_then, externals_then, unit-then, all-meant}
use Rattle.dm_numbered.proofs.FormLemmas.{Any}
use Rattle.dm_numbered.proofs.ExpressionLemmas.{each-append}
use Rattle.dm_numbered.proofs.DeclarationLemmas.{source, Left, left-same, Comes, further-comes, collecting-comes, keeps-comes, Fits, named-good, specified-keeps, declarable-comes, EachDeclared, declared_then, declaration-comes}
use Rattle.dm_numbered.proofs.StatementLemmas.{AllMeant, meant-list, meant-append, Says, SayAll, closed-comes, declaration-named, block-comes}
use Rattle.dm_numbered.proofs.HeadingLemmas.{KeepsOwn, under-more, heading-yields}

module _ (c : Frame) where
  plain-good : (known : Known) (seen : Seen) → Good c known seen → Good c known (without_own seen)
  plain-good known seen good = record { alike = good.alike; entries = good.entries; under = good.under; constants = good.constants }

  next-good : (known : Known) (seen : Seen) → Good c known seen → Good c known (next_external seen)
  next-good known seen good = record { alike = good.alike; entries = good.entries; under = good.under; constants = good.constants }

  -- another claim
  comes-so : {A : Type 0} (Q R : Standing → A → Type 0) (one : Progress A) → Comes c Q one → ((behind : Standing) (it : A) → Q behind it → R behind it) → Comes c R one
  comes-so Q R (goes_on behind it) h step = step behind it h
  comes-so Q R (stops rule at) h step = tt

  -- ---- function definitions

  -- the scope that the typing gives the body is that which the names open again
  abbrev IsReopened : Numbers → Seen → Type 0
  IsReopened scope seen = IsAlike scope (own_scope seen.own) × IsUnder seen.entries (own_scope seen.own)

  closed-if : {A : Type 0} (n : A → List ℕ → List ℕ) (E : A → Type 0) (s : Standing) (seen inner : Seen) (scope : Numbers) (own : Scope) (one : Progress A) (H : Type 0)
      → (H → IsAlike scope own × IsUnder seen.entries own) → Grows c.Told false (open_seen own seen) inner
      → Comes c (Fits c (opened scope s).known (open_seen own seen) inner n E) one → Comes c (λ behind it. H → Fits c s.known seen (close_seen inner) n E behind it) (closed s one)
  closed-if n E s seen inner scope own (goes_on inside it) H first grows h = λ have. closed-comes c n E s seen inner scope own (goes_on inside it) (λ good. first have) grows h
  closed-if n E s seen inner scope own (stops rule at) H first grows h = tt

  -- the body is a block
  body-comes : (text : Text) (names : List Scoped) (within : Within) (s : Standing) (scope : Numbers) (it : Stmt) (seen : Seen) → IsBlock it → IsStmt text names it → In c (body (source c) seen it)
      → Comes c (λ behind made. IsReopened scope seen → Says c s.known seen (body (source c) seen it) behind made) (typed_body c.setting within s scope it)
  unfolding IsStmt
  body-comes text names within s scope (tree.block span all) seen block is told =
      let plain = without_own seen in let part = open_seen (own_scope seen.own) plain in
      let inner = block_items (source c) part all in
      comes-so (λ behind made. IsReopened scope seen → Says c s.known plain (close_seen inner) behind made) (λ behind made. IsReopened scope seen → Says c s.known seen (close_seen inner) behind made) _
      (closed-if numbers_then (EachMeant c.all) s plain inner scope (own_scope seen.own) _ (IsReopened scope seen) (λ have. have) (items-in-grow c.Told (source c) part all)
      (further-comes c (SayAll c (opened scope s).known part inner) (Says c (opened scope s).known part inner) (typed_items_in c.setting within (opened scope s) all) _
      (block-comes c text names (span.first + 1) is.1.0 within (opened scope s) all part is.1.1 told)
      (λ behind list fits rest good left. let f = fits rest good left in (f.0, f.1, (tt, meant-list c list f.2)))))
      (λ behind made fits have rest good left. fits have rest (plain-good s.known seen good) left)
  body-comes text names within s scope (tree.expression span it) seen block is told = absurd block
  body-comes text names within s scope (tree.if_only span condition it) seen block is told = absurd block
  body-comes text names within s scope (tree.if_else span condition it other) seen block is told = absurd block
  body-comes text names within s scope (tree.switch span operand items) seen block is told = absurd block
  body-comes text names within s scope (tree.while span condition it) seen block is told = absurd block
  body-comes text names within s scope (tree.do_while span it condition) seen block is told = absurd block
  body-comes text names within s scope (tree.for_loop span start condition step it) seen block is told = absurd block
  body-comes text names within s scope (tree.break span) seen block is told = absurd block
  body-comes text names within s scope (tree.continue span) seen block is told = absurd block
  body-comes text names within s scope (tree.return span it) seen block is told = absurd block

  abbrev pub external_then : unit.External → List ℕ → List ℕ
  external_then it rest = form_then it.form rest

  abbrev pub MeantExternal : unit.External → Type 0
  MeantExternal it = AllMeant c (it.constants ++ trees_in it.form)

  abbrev MeantBody : List Tree → unit.External → Type 0
  MeantBody constants it = (it.constants ≡ constants) × AllMeant c (trees_in it.form)

  -- behind its declarator
  defined-comes : (text : Text) (names : List Scoped) (said : Specified) (s : Standing) (span : Span) (shape : Declarator) (it : Stmt) (constants : List Tree) (one : Heading) (entry : Declaration) (seen : Seen)
      → IsSome (declarator_name shape) → entry.name ≡ spelling_at c.setting.source (name_at shape) → IsBlock it → IsStmt text names it → In c (body (source c) (naming_seen (source c) (declarator_name shape) seen) it)
      → In c (naming_seen (source c) (declarator_name shape) seen)
      → Comes c (λ behind made. KeepsOwn c seen one → Fits c s.known seen (body (source c) (naming_seen (source c) (declarator_name shape) seen) it) external_then (MeantBody constants) behind made) (function_defined c.setting said s span shape it constants one entry)
  defined-comes text names said s span shape it constants one entry seen some called block is told told_name =
      let mid = naming_seen (source c) (declarator_name shape) seen in let last = body (source c) mid it in
      let grows = naming-grows c.Told (source c) (declarator_name shape) seen in
      let R : Standing → unit.External → Type 0 = λ behind made. KeepsOwn c seen one → Fits c s.known seen last external_then (MeantBody constants) behind made in
      keeps-comes c R (not (is_defined (number_here s entry) s.linked)) 2 (name_at shape) _
      (declarable-comes c R said s false (declarator_span shape).first (name_at shape) entry _
      (keeps-comes c R (fits_main entry) 36 (name_at shape) _
      (further-comes c (λ behind made. IsReopened one.scope mid → Says c (function_here s entry).known mid last behind made) R (typed_body c.setting (body_within one.kind) (function_here s entry) one.scope it) _
      (body-comes text names (body_within one.kind) (function_here s entry) one.scope it mid block is told)
      (λ behind made fits own rest good left.
      let named_fits = named-good c s seen (declarator_name shape) (declarator_span shape).first entry (numbers_then made rest) some called told_name good left in
      let opens : IsReopened one.scope mid =
      subst (λ found. IsAlike one.scope (own_scope found) × IsUnder mid.entries (own_scope found)) (sym (grows.own own.0 own.1)) (own.2, under-more c seen.entries mid.entries own.0 grows.entries own.3) in
      let f = fits opens rest named_fits.0 named_fits.1 in
      (f.0, f.1, (refl, (f.2, tt)))))))

  body-told : (seen : Seen) (it : Stmt) → IsBlock it → In c (body (source c) seen it) → In c seen
  body-told seen (tree.block span all) block told = (items-in-grow c.Told (source c) (open_seen (own_scope seen.own) (without_own seen)) all).told told
  body-told seen (tree.expression span it) block told = absurd block
  body-told seen (tree.if_only span condition it) block told = absurd block
  body-told seen (tree.if_else span condition it other) block told = absurd block
  body-told seen (tree.switch span operand items) block told = absurd block
  body-told seen (tree.while span condition it) block told = absurd block
  body-told seen (tree.do_while span it condition) block told = absurd block
  body-told seen (tree.for_loop span start condition step it) block told = absurd block
  body-told seen (tree.break span) block told = absurd block
  body-told seen (tree.continue span) block told = absurd block
  body-told seen (tree.return span it) block told = absurd block

  -- ---- external declarations

  external-comes : (text : Text) (names : List Scoped) (s : Standing) (one : External) (seen : Seen) → IsExternal text names one → In c (external (source c) seen one)
      → Comes c (Fits c s.known seen (external (source c) seen one) external_then MeantExternal) (typed_external c.setting s one)
  unfolding IsExternal
  external-comes text names s (tree.external span one) seen is told =
      let last = declaration (source c) seen one in
      further-comes c (Fits c s.known seen last (declared_then c) (EachDeclared c)) (Fits c s.known seen last external_then MeantExternal) (typed_declaration c.setting s one) _
      (declaration-comes c s one seen (declaration-named text names one is.1) told)
      (λ behind it fits rest good left.
      let f = fits rest good left in
      (f.0, f.1, meant-append c it.constants (expressions_of it.locals) (all-meant c it.constants f.2.0) (all-meant c (expressions_of it.locals) f.2.1)))
  external-comes text names s (tree.definition span these shape it) seen is told =
      let mid = specifiers (source c) false seen these in let start = without_own mid in let next = declarator (source c) start shape in
      let own = naming_seen (source c) (declarator_name shape) next in let last = body (source c) own it in
      let R = Fits c s.known seen last external_then MeantExternal in
      let in_name = body-told own it is.7 told in
      let in_shape = (naming-grows c.Told (source c) (declarator_name shape) next).told in_name in
      let in_these = (declarator-grows c.Told (source c) start shape).told in_shape in
      collecting-comes c seen mid (Any c) R s (specified c.setting of_definition false s.known these) _ (specified-keeps c of_definition false s.known these seen in_these)
      (λ then_standing constants said h. collecting-comes c start next (KeepsOwn c next) R then_standing (typed_heading c.setting then_standing.known said.kind shape) _
      (λ good. heading-yields c then_standing.known said.kind shape start refl in_shape good is.5)
      (λ behind more one k. let entry = entry_of c.setting behind.known said.storage (name_at shape) one.kind in
      comes-so (λ last_standing made. KeepsOwn c next one → Fits c behind.known next last external_then (MeantBody (constants ++ more)) last_standing made) R _
      (defined-comes text (body_declares text (own_parameters None shape) ++ (named_declares text (defines_types text these) shape ++ (specifiers_declares text these ++ names))) said behind span shape it (constants ++ more) one entry next
      is.4 refl is.7 is.8 told in_name)
      (λ last_standing made fits rest good left.
      let now = h good in
      let then_now = k (plain-good then_standing.known mid now.0) in
      let same_start = left-same c seen mid (external_then made rest) ((specifiers-grow c.Told (source c) false seen these).declarators refl) left in
      let same_next = left-same c start next (external_then made rest) ((declarator-grows c.Told (source c) start shape).declarators refl) same_start in
      let f = fits then_now.2 rest then_now.0 same_next in (
        f.0,
        f.1,
        meant-append c made.constants (trees_in made.form)
            (subst (AllMeant c) (sym f.2.0) (all-meant c (constants ++ more) (each-append c constants more now.1 then_now.1))) f.2.1,
      ))))

  -- what is seen behind all
  abbrev pub behind_all : Seen → List External → Seen
  behind_all seen [] = seen
  behind_all seen (first ∷ others) = behind_all (next_external (external (source c) seen first)) others

  pub externals-come : (tokens : List CToken) (names : NameMap) (at to : ℕ) (known : NameMap) (s : Standing) (all : List External) (seen : Seen) → Stand tokens names at all to known
      → AllByRecursion c.Told (identifiers_in (shown_from (source c) seen all)) → Comes c (Fits c s.known seen (behind_all seen all) externals_then (AreMeant c.all)) (typed_externals c.setting s all)
  unfolding Stand
  externals-come tokens names at to known s [] seen is told = λ rest good left. (good, left, tt)
  externals-come tokens names at to known s (first ∷ others) seen is told =
      let mid = external (source c) seen first in let next = next_external mid in let last = behind_all next others in
      let more = identifiers_in (shown_from (source c) next others) in
      further-comes c (Fits c s.known seen mid external_then MeantExternal) (Fits c s.known seen last externals_then (AreMeant c.all)) (typed_external c.setting s first) _
      (external-comes (source_with tokens names) [] s first seen is.0.formed.0 (all-front c.Told mid.identifiers more told))
      (λ then_standing made fits. further-comes c (Fits c then_standing.known next last externals_then (AreMeant c.all)) (Fits c s.known seen last externals_then (AreMeant c.all)) (typed_externals c.setting then_standing others) _
      (externals-come tokens (names_behind tokens names first) (external_span first).after to known then_standing others next is.1 (all-back c.Told mid.identifiers more told))
      (λ behind list then_fits rest good left.
      let f = fits (externals_then list rest) good left in
      let g = then_fits rest (next-good then_standing.known mid f.0) f.1 in
      (g.0, g.1, (f.2, g.2))))

-- ---- units

among : {A : Type 0} (Q : A → Type 0) (all : List A) → ((k : ℕ) (one : A) → slice_get all k ≡ Some one → Q one) → AllByRecursion Q all
among Q [] h = tt
among Q (first ∷ others) h = (h zero first refl, among Q others (λ k one e. h (suc k) one e))

module _ (shapes : List Shape) (tokens : List CToken) (externals : List External) (one : TypedUnit) (syntax : IsSyntax tokens externals)
    (plain : ArePlain tokens (identifiers_of (source_of tokens one) externals)) where
  abbrev all : List Identifier
  all = identifiers_of (source_of tokens one) externals

  plain-at : (it : Identifier) → IsAmong all it → it.tag ≡ false → is_hash (spelling_at (unit_setting tokens externals).source it.at) ≡ false
  unfolding spelling_at
  plain-at it among e = plain among.0 it among.1 e

  abbrev frame : Frame
  frame = record {
    Told = IsAmong all;
    all = all;
    told = λ it h. unit-found (source_of tokens one) tokens externals h.0 it syntax h.1;
    setting = unit_setting tokens externals;
    numbers = numbers_declared [] one.externals;
    plain = plain-at;
  }

  begins-good : Good frame (beginning shapes).known nothing_seen
  begins-good = record { alike = (empty-alike, tt); entries = refl; under = (empty-under 0, tt); constants = tt }

  begins-left : Left frame nothing_seen (externals_then one.externals [])
  begins-left = unit-then one.externals

  pub unit-meant : (known : Known) → typed_unit shapes tokens externals ≡ given known one → AreMeant all one.externals
  unit-meant known is = by (typed_externals (unit_setting tokens externals) (beginning shapes) externals)
      (externals-come frame tokens map.empty 0 _ syntax.0 (beginning shapes) externals nothing_seen syntax.1 (among (IsAmong all) all (λ k it e. (k, e)))) is
    where
      same : (k : Known) (other : TypedUnit) → ◌≡◌ {A = Outcome TypedUnit} (given k other) (given known one) → other ≡ one
      same k other e = cc

      no-unit : (rule at : ℕ) → ◌≡◌ {A = Outcome TypedUnit} (broken rule at) (given known one) → ⊥
      no-unit rule at e = cc

      by : (made : Progress (List unit.External)) → Comes frame (Fits frame (beginning shapes).known nothing_seen (behind_all frame nothing_seen externals) externals_then (AreMeant all)) made
          → unit_of made ≡ given known one → AreMeant all one.externals
      by (goes_on behind list) h e =
          let made = ap (λ (it : TypedUnit). it.externals) (same behind.known _ e) in
          subst (AreMeant all) made (h [] begins-good (begins-left ∙ ap (λ these. externals_then these []) (sym made))).2
      by (stops rule at) h e = absurd (no-unit rule at e)
