-- Statements are well typed at the end of the unit.
use Rattle.std.specs.Prelude.{◌≡◌, ℕ, ℤ, true, false, not, List, [], ◌∷◌, ◌++◌, length, All, flat_map, Option, Some, None, is_some, IfSome, refl}
use Rattle.std.proofs.Common.{sym, ap, ◌∙◌, subst, arith}
use Rattle.std.proofs.lemmas.List.{length-append}
use Rattle.std.proofs.lemmas.List.Elements.{All-nil, All-cons, All-head, All-tail}
use Rattle.std.proofs.Math.Seq.{take-append_seam, drop-append_seam}
use Rattle.dm_token.specs.declared.place.Span.{Span}
use Rattle.dm_int.specs.declared.Kind.{Kind}
use Rattle.dm_type.specs.CTypes.{CType, void, integer, bare}
use Rattle.dm_syn.specs.declared.declared.Declared.{Declared as Seen}
use Rattle.dm_syn.specs.Spans.{declaration_span}
use Rattle.dm_syn.specs.Grammar.{IsExpr}
use Rattle.dm_syn.specs.Statements.{IsOptional, IsDeclaration, IsStart, IsStmt, AreBlockItems, IsBlockItem, AreSwitchItems, IsSwitchItem}
use Rattle.dm_syn.specs.Trees.{Expr, ForStart, Stmt, BlockItems, BlockItem, SwitchItems, SwitchItem}
use Rattle.dm_syn.specs.Trees as tree
use Rattle.dm_tree.specs.Composites.{covers}
use Rattle.dm_tree.specs.Constants.{integer_kind}
use Rattle.dm_tree.specs.Initialisers.{DeclaratorsFit}
use Rattle.dm_tree.specs.Operands.{IsPromoted}
use Rattle.dm_tree.specs.Scenes.{Scene, IsValue, IsStatement, IsConstant, is_void, constant_of as constant_in}
use Rattle.dm_tree.specs.Trees.{Label, Spans, Tree, Trees, node, no_trees, more_trees, trees, listed, label_of, kind_of, is_statement}
use Rattle.dm_tree.specs.Trees as label
use Rattle.dm_tree.specs.Typing.{IsCondition, IsStart as MayStart, FitsReturn, Fits, inside, IsWellTyped, AreWellTyped, AllWellTyped, labels_of}
use Rattle.dm_typing.specs.Known.{Known, Setting, given}
use Rattle.dm_typing.specs.Sound.{AreSoundTokens, IsSoundValue, IsSoundKnown, GivesMore}
use Rattle.dm_tree.proofs.ListLemmas.{listed-trees}
use Rattle.dm_typing.proofs.CoverLemmas.{covers-through}
use Rattle.dm_typing.proofs.GrowthLemmas.{constant-stays}
use Rattle.dm_typing.proofs.KnownLemmas.{stays-so, with-more}
use Rattle.dm_typing.proofs.RuleLemmas.{value-sound}
use Rattle.dm_edecl.specs.Standing.{Standing, goes_on, further, knowing, typing, in_scope}
use Rattle.dm_edecl.specs.Declaring.{Declared, declarators_of, expressions_of, typed_declaration}
use Rattle.dm_edecl.specs.Statements.{Within, in_loop, in_switch, statement, Subject, CaseValue, Labelled, AllLabelled, is_label_among, typed_value, typed_optional, typed_condition, typed_optional_condition, typed_subject, typed_case, typed_return, full_statement, declaration_tree, declared_in, typed_start, for_statement, typed_stmt, typed_items_in, typed_item_in, typed_switch_items, typed_switch_item}
use Rattle.dm_edecl.specs.Sound.{AllSound, IsSoundCondition, IsSoundSubject, IsSoundReturn}
use Rattle.dm_edecl.specs.Settled.{IsSoundStanding, IsFinal, Settles}
use Rattle.dm_edecl.specs.Fit.{DeclarationFits, IsSoundWithin, StandsIn, StmtFits, StmtsFit}
use Rattle.dm_edecl.proofs.CompletionLemmas.{covers-void}
use Rattle.dm_edecl.proofs.DeclarationFitLemmas.{declaration-settles, not-true}
use Rattle.dm_edecl.proofs.KeepsLemmas.{keeps-itself, final-later, expression-final, settles-further, settles-keeps}
use Rattle.dm_edecl.proofs.LabelLemmas.{Adds, adds-nothing, adds-both, adds-one, adds-distinct}
use Rattle.dm_edecl.proofs.StatementLemmas.{IsNewCase, value-gives, condition-gives, subject-gives, new-case-gives, return-gives, void-is}
use Rattle.dm_edecl.proofs.StatementStepLemmas.{plain, looping, switching, plain-final, looping-final, switching-final, stands-plain, stands-looping, stands-switching, At, at-further, Types, types-by, typing-settles, value-settles, made-settles, scope-settles, part-settles, headed-settles, either-settles, footed-settles, loop-settles, more-settle}

-- ---- trees

abbrev pub AllTyped : Scene → List Tree → Type 0
AllTyped scene [] = Unit {0}
AllTyped scene (first ∷ others) = IsWellTyped scene first × AllTyped scene others

well-trees : (scene : Scene) (parts : List Tree) → AllTyped scene parts → AreWellTyped scene (trees parts)
well-trees scene [] h = tt
well-trees scene (first ∷ others) h = (h.0, well-trees scene others h.1)

all-typed : (scene : Scene) (parts : List Tree) → AllWellTyped scene parts → AllTyped scene parts
all-typed scene [] h = tt
all-typed scene (first ∷ others) h = (All-head (IsWellTyped scene) first others h, all-typed scene others (All-tail (IsWellTyped scene) first others h))

both-typed : (scene : Scene) (parts others : List Tree) → AllTyped scene parts → AllTyped scene others → AllTyped scene (parts ++ others)
both-typed scene [] others h g = g
both-typed scene (first ∷ parts) others h g = (h.0, both-typed scene parts others h.1 g)

-- a statement's node of such parts
node-typed : (setting : Setting) (span : Span) (scene : Scene) (form : Label) (parts : List Tree) → Fits scene form void parts → AllTyped (inside scene form parts) parts
    → IsWellTyped scene (statement setting span form parts)
node-typed setting span scene form parts fits all =
    let back = sym (listed-trees parts) in (
      subst (Fits scene form void) back fits,
      subst (λ list. AreWellTyped (inside scene form list) (trees parts)) back (well-trees (inside scene form parts) parts all),
    )

-- ---- what statements have

-- at most one of such trees
abbrev pub AtMostOne : (Tree → Type 0) → List Tree → Type 0
AtMostOne P [] = Unit {0}
AtMostOne P (one ∷ []) = P one
AtMostOne P values = ⊥

abbrev pub ValueFits : Scene → Tree → Type 0
ValueFits scene value = IsValue value × IsWellTyped scene value

abbrev pub ConditionFits : Scene → Tree → Type 0
ConditionFits scene value = IsCondition value × IsWellTyped scene value

abbrev pub OptionalFits : Scene → List Tree → Type 0
OptionalFits scene values = AtMostOne (ValueFits scene) values

abbrev pub TestFits : Scene → List Tree → Type 0
TestFits scene values = AtMostOne (ConditionFits scene) values

abbrev pub SubjectFits : Scene → Subject → Type 0
SubjectFits scene one = ValueFits scene one.tree × (kind_of one.tree ≡ integer one.kind) × IsPromoted one.kind

abbrev pub CaseFits : Kind → List (Option ℤ) → Scene → CaseValue → Type 0
CaseFits kind labels scene one =
    ValueFits scene one.tree × (kind_of one.tree ≡ integer kind) × (constant_in scene one.tree ≡ Some one.value) × (is_label_among (Some one.value) labels ≡ false)

abbrev pub StartFits : Scene → List Tree → Type 0
StartFits scene values = AtMostOne (λ one. MayStart one × IsWellTyped scene one) values

-- at most one condition
abbrev pub OneCondition : Known → List Tree → Type 0
OneCondition known values = AtMostOne (IsSoundCondition known) values

abbrev pub OneSound : Known → List Tree → Type 0
OneSound known values = AtMostOne (IsSoundValue known) values

value-final : (s : Standing) (final : Scene) → IsSoundStanding s → IsFinal s final → (value : Tree) → IsSoundValue s.known value → ValueFits final value
value-final s final sound last value is = (is.0, expression-final s final sound last value (value-sound s.known value is))

optional-final : (s : Standing) (final : Scene) → IsSoundStanding s → IsFinal s final → (values : List Tree) → OneSound s.known values → OptionalFits final values
optional-final s final sound last [] is = tt
optional-final s final sound last (one ∷ []) is = value-final s final sound last one is
optional-final s final sound last (one ∷ two ∷ rest) is = absurd is

test-final : (s : Standing) (final : Scene) → IsSoundStanding s → IsFinal s final → (values : List Tree) → OneCondition s.known values → TestFits final values
test-final s final sound last [] is = tt
test-final s final sound last (one ∷ []) is = let value = value-final s final sound last one is.0 in ((value.0, is.1), value.1)
test-final s final sound last (one ∷ two ∷ rest) is = absurd is

module _ (setting : Setting) (tokens : AreSoundTokens setting.source.tokens) where
  condition-types : (s : Standing) (names : List Seen) (expr : Expr) → IsExpr setting.source names expr → IsSoundStanding s → Types ConditionFits s (typed_condition setting s.known expr)
  condition-types s names expr is sound =
      types-by IsSoundCondition ConditionFits s (typed_condition setting s.known expr) sound (condition-gives setting tokens s.known names expr is sound.known)
      (λ known value still fine final last. let one = value-final (knowing s known) final still last value fine.0 in ((one.0, fine.1), one.1))

  subject-types : (s : Standing) (names : List Seen) (expr : Expr) → IsExpr setting.source names expr → IsSoundStanding s → Types SubjectFits s (typed_subject setting s.known expr)
  subject-types s names expr is sound =
      types-by IsSoundSubject SubjectFits s (typed_subject setting s.known expr) sound (subject-gives setting tokens s.known names expr is sound.known)
      (λ known one still fine final last. (value-final (knowing s known) final still last one.tree fine.0, fine.1, fine.2))

  case-types : (s : Standing) (names : List Seen) (kind : Kind) (labels : List (Option ℤ)) (expr : Expr) → IsExpr setting.source names expr → IsSoundStanding s
      → Types (CaseFits kind labels) s (typed_case setting s.known kind labels expr)
  case-types s names kind labels expr is sound =
      types-by (IsNewCase kind labels) (CaseFits kind labels) s (typed_case setting s.known kind labels expr) sound (new-case-gives setting tokens s.known names kind labels expr is sound.known)
      (λ known one still fine final last. (
        value-final (knowing s known) final still last one.tree fine.0.0,
        fine.0.1,
        constant-stays (knowing s known).known final (final-later (knowing s known) final still last) still.known.complete one.tree one.value fine.0.2,
        not-true (is_label_among (Some one.value) labels) fine.1,
      ))

  optional-one : (known : Known) (names : List Seen) (at : ℕ) (expr : Option Expr) → IsOptional setting.source names at expr → IsSoundKnown known
      → GivesMore known OneSound (typed_optional setting known expr)
  optional-one known names at None is sound = stays-so known OneSound [] sound tt
  optional-one known names at (Some expr) is sound =
      with-more known IsSoundValue OneSound (typed_value setting known expr) (λ behind value. value ∷ []) (value-gives setting tokens known names expr is.1 sound)
      (λ behind value more still fine. fine)

  optional-types : (s : Standing) (names : List Seen) (at : ℕ) (expr : Option Expr) → IsOptional setting.source names at expr → IsSoundStanding s
      → Types OptionalFits s (typed_optional setting s.known expr)
  optional-types s names at expr is sound =
      types-by OneSound OptionalFits s (typed_optional setting s.known expr) sound (optional-one s.known names at expr is sound.known)
      (λ known values still fine final last. optional-final (knowing s known) final still last values fine)

  test-types : (s : Standing) (names : List Seen) (at : ℕ) (expr : Option Expr) → IsOptional setting.source names at expr → IsSoundStanding s
      → Types TestFits s (typed_optional_condition setting s.known expr)
  test-types s names at None is sound =
      types-by OneCondition TestFits s (given s.known []) sound (stays-so s.known OneCondition [] sound.known tt)
      (λ known values still fine final last. test-final (knowing s known) final still last values fine)
  test-types s names at (Some expr) is sound =
      types-by OneCondition TestFits s (typed_optional_condition setting s.known (Some expr)) sound
      (with-more s.known IsSoundCondition OneCondition (typed_condition setting s.known expr) (λ behind value. value ∷ []) (condition-gives setting tokens s.known names expr is.1 sound.known)
      (λ behind value more still fine. fine))
      (λ known values still fine final last. test-final (knowing s known) final still last values fine)

-- ---- lists of statements

stmts-typed : (within : Within) (scene : Scene) (all : List Tree) → StmtsFit within scene all → StandsIn within scene → AllTyped scene all
stmts-typed within scene [] h stands = tt
stmts-typed within scene (first ∷ others) h stands = (h.0.2 stands, stmts-typed within scene others h.1 stands)

stmts-are : (within : Within) (scene : Scene) (all : List Tree) → StmtsFit within scene all → All IsStatement all
stmts-are within scene [] h = All-nil IsStatement
stmts-are within scene (first ∷ others) h = All-cons IsStatement first others h.0.0 (stmts-are within scene others h.1)

-- ---- each form of a statement

module _ (setting : Setting) (span : Span) (within : Within) (t : Standing) where
  pub block-fits : (all : List Tree) → At t (StmtsFit within) all → At t (StmtFits within) (statement setting span label.block all)
  block-fits all h final last = (
    refl,
    refl,
    (λ stands.
        node-typed setting span final label.block all (stmts-are within final all (h final last), refl)
        (stmts-typed within (plain final) all (h (plain final) (plain-final t final last)) (stands-plain within final stands))),
  )

  full-fits : (values : List Tree) → At t OptionalFits values → At t (StmtFits within) (full_statement setting span values)
  full-fits [] h final last = (refl, refl, (λ stands. node-typed setting span final label.empty [] (tt, refl) tt))
  full-fits (one ∷ []) h final last =
      let inner = h (plain final) (plain-final t final last) in
      (refl, refl, (λ stands. node-typed setting span final label.full (one ∷ []) ((h final last).0, refl) (inner.1, tt)))
  full-fits (one ∷ two ∷ rest) h final last = absurd (h final last)

  if-fits : (value made : Tree) → At t ConditionFits value → At t (StmtFits within) made → At t (StmtFits within) (statement setting span label.if_statement (value ∷ made ∷ []))
  if-fits value made v m final last =
      let inner = plain-final t final last in (
        refl,
        refl,
        (λ stands.
            node-typed setting span final label.if_statement (value ∷ made ∷ []) (((v final last).0, (m final last).0), refl)
            ((v (plain final) inner).1, ((m (plain final) inner).2 (stands-plain within final stands), tt))),
      )

  else-fits : (value one other : Tree) → At t ConditionFits value → At t (StmtFits within) one → At t (StmtFits within) other
      → At t (StmtFits within) (statement setting span label.if_statement (value ∷ one ∷ other ∷ []))
  else-fits value one other v m n final last =
      let inner = plain-final t final last in (
        refl,
        refl,
        (λ stands.
            let within-plain = stands-plain within final stands in
            node-typed setting span final label.if_statement (value ∷ one ∷ other ∷ []) (((v final last).0, (m final last).0, (n final last).0), refl)
            ((v (plain final) inner).1, ((m (plain final) inner).2 within-plain, ((n (plain final) inner).2 within-plain, tt)))),
      )

  while-fits : (value made : Tree) → At t ConditionFits value → At t (StmtFits (in_loop within)) made
      → At t (StmtFits within) (statement setting span label.while_loop (value ∷ made ∷ []))
  while-fits value made v m final last =
      let inner = looping-final t final last in (
        refl,
        refl,
        (λ stands.
            node-typed setting span final label.while_loop (value ∷ made ∷ []) (((v final last).0, (m final last).0), refl)
            ((v (looping final) inner).1, ((m (looping final) inner).2 (stands-looping within final stands), tt))),
      )

  do-fits : (made value : Tree) → At t (StmtFits (in_loop within)) made → At t ConditionFits value → At t (StmtFits within) (statement setting span label.do_loop (made ∷ value ∷ []))
  do-fits made value m v final last =
      let inner = looping-final t final last in (
        refl,
        refl,
        (λ stands.
            node-typed setting span final label.do_loop (made ∷ value ∷ []) (((m final last).0, (v final last).0), refl)
            ((m (looping final) inner).2 (stands-looping within final stands), ((v (looping final) inner).1, tt))),
      )

  break-fits : within.breaks ≡ true → At t (StmtFits within) (statement setting span label.break [])
  break-fits may final last = (refl, refl, (λ stands. node-typed setting span final label.break [] (stands.breaks may, refl) tt))

  continue-fits : within.continues ≡ true → At t (StmtFits within) (statement setting span label.continue [])
  continue-fits may final last = (refl, refl, (λ stands. node-typed setting span final label.continue [] (stands.continues may, refl) tt))

  declaration-typed : (one : Declared) → At t DeclarationFits one → (final : Scene) → IsFinal t final → IsWellTyped final (declaration_tree setting span one)
  declaration-typed one h final last =
      let before = one.constants in
      let behind = expressions_of one.locals in
      let here = h final last in
      let inner = h (plain final) (plain-final t final last) in
      let l = length-append before behind in
      node-typed setting span final (label.declare (length before) (declarators_of one.locals)) (before ++ behind) (
        (
          omega (arith, l),
          subst (All (IsConstant final)) (sym (take-append_seam before behind)) here.0.1,
          subst (DeclaratorsFit final (declarators_of one.locals)) (sym (drop-append_seam before behind)) here.2,
        ),
        refl,
      ) (both-typed (plain final) before behind (all-typed (plain final) before inner.0.0) (all-typed (plain final) behind inner.1))

  declaration-fits : (one : Declared) → At t DeclarationFits one → At t (StmtFits within) (declaration_tree setting span one)
  declaration-fits one h final last = (refl, refl, (λ stands. declaration-typed one h final last))

  -- the first three parts of a `for` that are there, and its body
  for-fits : (first second third : List Tree) (made : Tree) → At t StartFits first → At t TestFits second → At t OptionalFits third → At t (StmtFits (in_loop within)) made
      → At t (StmtFits within) (for_statement setting span first second third made)
  for-fits first second third made a b c m final last =
      let inner = looping-final t final last in (
        refl,
        refl,
        (λ stands.
            let body = (m (looping final) inner).2 (stands-looping within final stands) in
            for-typed first second third (a (looping final) inner) (b (looping final) inner) (c (looping final) inner) (m final last).0 body),
      )
    where
      for-typed : (first second third : List Tree) → AtMostOne (λ one. MayStart one × IsWellTyped (looping final) one) first → TestFits (looping final) second
          → OptionalFits (looping final) third → IsStatement made → IsWellTyped (looping final) made → IsWellTyped final (for_statement setting span first second third made)
      for-typed (x ∷ other ∷ rest) second third a b c is m = absurd a
      for-typed first (y ∷ other ∷ rest) third a b c is m = absurd b
      for-typed first second (z ∷ other ∷ rest) a b c is m = absurd c
      for-typed [] [] [] a b c is m = node-typed setting span final (label.for_loop false false false) (made ∷ []) (is, refl) (m, tt)
      for-typed [] [] (z ∷ []) a b c is m = node-typed setting span final (label.for_loop false false true) (z ∷ made ∷ []) ((c.0, is), refl) (c.1, (m, tt))
      for-typed [] (y ∷ []) [] a b c is m = node-typed setting span final (label.for_loop false true false) (y ∷ made ∷ []) ((b.0, is), refl) (b.1, (m, tt))
      for-typed [] (y ∷ []) (z ∷ []) a b c is m =
          node-typed setting span final (label.for_loop false true true) (y ∷ z ∷ made ∷ []) ((b.0, (c.0, is)), refl) (b.1, (c.1, (m, tt)))
      for-typed (x ∷ []) [] [] a b c is m = node-typed setting span final (label.for_loop true false false) (x ∷ made ∷ []) ((a.0, is), refl) (a.1, (m, tt))
      for-typed (x ∷ []) [] (z ∷ []) a b c is m =
          node-typed setting span final (label.for_loop true false true) (x ∷ z ∷ made ∷ []) ((a.0, (c.0, is)), refl) (a.1, (c.1, (m, tt)))
      for-typed (x ∷ []) (y ∷ []) [] a b c is m =
          node-typed setting span final (label.for_loop true true false) (x ∷ y ∷ made ∷ []) ((a.0, (b.0, is)), refl) (a.1, (b.1, (m, tt)))
      for-typed (x ∷ []) (y ∷ []) (z ∷ []) a b c is m =
          node-typed setting span final (label.for_loop true true true) (x ∷ y ∷ z ∷ made ∷ []) ((a.0, (b.0, (c.0, is))), refl) (a.1, (b.1, (c.1, (m, tt))))

-- ---- returns

return-more : (result more : CType) (parts : List Tree) → covers more result ≡ true → FitsReturn result parts → FitsReturn more parts
return-more result more [] c h = void-is more (covers-void more result c ∙ ap is_void h)
return-more result more (value ∷ []) c h = (h.0, covers-through more result (kind_of value) c h.1, ap not (covers-void more result c) ∙ h.2)
return-more result more (value ∷ other ∷ rest) c h = absurd h

sound-typed : (s : Standing) (final : Scene) → IsSoundStanding s → IsFinal s final → (parts : Trees) → AllSound s.known (listed parts) → AreWellTyped final parts
sound-typed s final sound last no_trees are = tt
sound-typed s final sound last (more_trees first rest) are = (expression-final s final sound last first are.0, sound-typed s final sound last rest are.1)

return-fits : (within : Within) (s : Standing) → IsSoundStanding s → (made : Tree) → IsSoundReturn within.result s.known made → At s (StmtFits within) made
return-fits within s sound (node label.return kind spans parts) h final last = (
  refl,
  refl,
  (λ stands. ((return-more within.result final.result (listed parts) stands.result h.1, h.0), sound-typed s (plain final) sound (plain-final s final last) parts h.2)),
)
return-fits within s sound made h final last = absurd h

-- ---- labels

-- an item of a switch, with its labels
abbrev pub ItemFits : Within → Kind → List (Option ℤ) → Scene → Labelled → Type 0
ItemFits within kind labels scene made =
    IsStatement made.tree × (StandsIn within scene → scene.labels ≡ Some kind → IsWellTyped scene made.tree) × Adds labels made.labels (labels_of scene made.tree)

pub AllItems : Within → Kind → Scene → List Tree → Type 0
AllItems within kind scene [] = Unit {0}
AllItems within kind scene (first ∷ others) =
    IsStatement first × (StandsIn within scene → scene.labels ≡ Some kind → IsWellTyped scene first) × AllItems within kind scene others

abbrev pub ItemsFit : Within → Kind → List (Option ℤ) → Scene → AllLabelled → Type 0
ItemsFit within kind labels scene made = AllItems within kind scene made.trees × Adds labels made.labels (flat_map (labels_of scene) made.trees)

items-typed : (within : Within) (kind : Kind) (scene : Scene) (all : List Tree) → AllItems within kind scene all → StandsIn within scene → scene.labels ≡ Some kind → AllTyped scene all
unfolding AllItems
items-typed within kind scene [] h stands e = tt
items-typed within kind scene (first ∷ others) h stands e = (h.1 stands e, items-typed within kind scene others h.2 stands e)

items-are : (within : Within) (kind : Kind) (scene : Scene) (all : List Tree) → AllItems within kind scene all → All IsStatement all
unfolding AllItems
items-are within kind scene [] h = All-nil IsStatement
items-are within kind scene (first ∷ others) h = All-cons IsStatement first others h.0 (items-are within kind scene others h.2)

module _ (setting : Setting) (span : Span) (within : Within) (t : Standing) where
  case-fits : (kind : Kind) (labels : List (Option ℤ)) (one : CaseValue) (made : Labelled) → At t (CaseFits kind labels) one
      → At t (ItemFits within kind (Some one.value ∷ labels)) made
      → At t (ItemFits within kind labels) (record { tree = statement setting span label.case (one.tree ∷ made.tree ∷ []); labels = made.labels })
  case-fits kind labels one made v m final last =
      let value = v final last in
      let item = m final last in (
        refl,
        (λ stands e.
            node-typed setting span final label.case (one.tree ∷ made.tree ∷ []) (
              (
                subst (λ found. IfSome found (λ k. kind_of one.tree ≡ integer k)) (sym e) value.1,
                ap is_some e,
                (value.0.0, ap is_some value.2),
                item.0,
              ),
              refl,
            ) (value.0.1, (item.1 stands e, tt))),
        subst (λ found. Adds labels made.labels (found ∷ labels_of final made.tree)) (sym value.2)
            (adds-both labels (Some one.value ∷ labels) made.labels (Some one.value ∷ []) (labels_of final made.tree) (adds-one (Some one.value) labels value.3) item.2),
      )

  default-fits : (kind : Kind) (labels : List (Option ℤ)) (made : Labelled) → is_label_among None labels ≡ false → At t (ItemFits within kind (None ∷ labels)) made
      → At t (ItemFits within kind labels) (record { tree = statement setting span label.default (made.tree ∷ []); labels = made.labels })
  default-fits kind labels made new m final last =
      let item = m final last in (
        refl,
        (λ stands e. node-typed setting span final label.default (made.tree ∷ []) ((ap is_some e, item.0), refl) (item.1 stands e, tt)),
        adds-both labels (None ∷ labels) made.labels (None ∷ []) (labels_of final made.tree) (adds-one None labels new) item.2,
      )

  plain-item-fits : (kind : Kind) (labels : List (Option ℤ)) (made : Tree) → At t (StmtFits within) made → At t (ItemFits within kind labels) (record { tree = made; labels = labels })
  plain-item-fits kind labels made m final last =
      let item = m final last in
      (item.0, (λ stands e. item.2 stands), subst (Adds labels labels) (sym item.1) (adds-nothing labels))

  more-items-fit : (kind : Kind) (labels : List (Option ℤ)) (made : Labelled) (more : AllLabelled) → At t (ItemFits within kind labels) made → At t (ItemsFit within kind made.labels) more
      → At t (ItemsFit within kind labels) (record { trees = made.tree ∷ more.trees; labels = more.labels })
  unfolding AllItems
  more-items-fit kind labels made more m n final last =
      let item = m final last in
      let rest = n final last in
      ((item.0, item.1, rest.0), adds-both labels made.labels more.labels (labels_of final made.tree) (flat_map (labels_of final) more.trees) item.2 rest.1)

-- the value of the subject has the kind of the labels
switch-fits : (setting : Setting) (span : Span) (within : Within) (t : Standing) (one : Subject) (made : AllLabelled) → At t SubjectFits one
    → At t (ItemsFit (in_switch within) one.kind []) made → At t (StmtFits within) (statement setting span label.switch (one.tree ∷ made.trees))
switch-fits setting span within t one made v m final last = (
  refl,
  refl,
  (λ stands.
      let subject = v final last in
      let items = m final last in
      let found : integer_kind (kind_of one.tree) ≡ Some one.kind = ap integer_kind subject.1 in
      let scene : inside final label.switch (one.tree ∷ made.trees) ≡ switching one.kind final = ap (λ it. record final { breaks = true; labels = it }) found in
      let inner = switching-final t final one.kind last in
      node-typed setting span final label.switch (one.tree ∷ made.trees) (
        (
          subject.0.0,
          subject.1 ∙ ap bare (sym subject.1),
          subst (λ it. IfSome it IsPromoted) (sym found) subject.2,
          ap is_some found,
          items-are (in_switch within) one.kind final made.trees items.0,
          adds-distinct [] made.labels (flat_map (labels_of final) made.trees) items.1,
        ),
        refl,
      )
      (subst (λ it. AllTyped it (one.tree ∷ made.trees)) (sym scene) (
        (v (switching one.kind final) inner).0.1,
        items-typed (in_switch within) one.kind (switching one.kind final) made.trees (m (switching one.kind final) inner).0 (stands-switching within final one.kind stands) refl,
      ))),
)

-- ---- the syntax

loop-within : (within : Within) → IsSoundWithin within → IsSoundWithin (in_loop within)
loop-within within is = record { plain_result = is.plain_result; proper = is.proper }

switch-within : (within : Within) → IsSoundWithin within → IsSoundWithin (in_switch within)
switch-within within is = record { plain_result = is.plain_result; proper = is.proper }

abbrev pub MayBegin : Scene → Tree → Type 0
MayBegin scene made = MayStart made × IsWellTyped scene made

anywhere : Within
anywhere = record { result = void; breaks = false; continues = false }

value-start : (value : Tree) → IsValue value → MayStart value
value-start (node (label.declare lengths declarators) kind spans parts) h = tt
value-start value h = h

values-start : (scene : Scene) (values : List Tree) → OptionalFits scene values → StartFits scene values
values-start scene [] h = tt
values-start scene (one ∷ []) h = (value-start one h.0, h.1)
values-start scene (one ∷ two ∷ rest) h = absurd h

no-items : (within : Within) (kind : Kind) (labels : List (Option ℤ)) (scene : Scene) → ItemsFit within kind labels scene (record { trees = []; labels = labels })
unfolding AllItems
no-items within kind labels scene = (tt, adds-nothing labels)

module _ (setting : Setting) (tokens : AreSoundTokens setting.source.tokens) where
  declared-in-settles : (within : Within) (s : Standing) (names : List Seen) (declaration : tree.Declaration) → IsDeclaration setting.source names declaration → IsSoundStanding s
      → Settles (StmtFits within) s (declared_in setting s declaration)
  declared-in-settles within s names declaration is sound =
      made-settles DeclarationFits (StmtFits within) s (typed_declaration setting s declaration) (declaration_tree setting (declaration_span declaration))
      (declaration-settles setting tokens s names declaration is sound) (λ t one kept h. declaration-fits setting (declaration_span declaration) within t one h)

  start-settles : (s : Standing) (names : List Seen) (at : ℕ) (start : ForStart) → IsStart setting.source names at start → IsSoundStanding s → Settles StartFits s (typed_start setting s start)
  unfolding IsStart
  start-settles s names at (tree.declares declaration) is sound =
      made-settles MayBegin StartFits s (declared_in setting s declaration) (λ made. made ∷ [])
      (made-settles DeclarationFits MayBegin s (typed_declaration setting s declaration) (declaration_tree setting (declaration_span declaration))
      (declaration-settles setting tokens s names declaration is.1 sound)
      (λ t one kept h final last. (tt, declaration-typed setting (declaration_span declaration) anywhere t one h final last)))
      (λ t made kept h final last. h final last)
  start-settles s names at (tree.evaluates expr) is sound =
      value-settles OptionalFits StartFits s (typed_optional setting s.known expr) (λ values. values) (optional-types setting tokens s names at expr is.0 sound)
      (λ t values kept h final last. values-start final values (h final last))

  headed-subject : (within : Within) → IsSoundWithin within → (s : Standing) (names : List Seen) (span : Span) (operand : Expr) (items : SwitchItems) → IsExpr setting.source names operand
      → IsSoundStanding s
      → ((one : Subject) (t : Standing) → IsSoundStanding t → Settles (ItemsFit (in_switch within) one.kind []) t (typed_switch_items setting (in_switch within) one.kind t [] items))
      → Settles (StmtFits within) s (in_scope s (λ inside. typing inside (typed_subject setting inside.known operand) (λ then_inside one.
      further (in_scope then_inside (λ part. typed_switch_items setting (in_switch within) one.kind part [] items))
      (λ behind made. goes_on behind (statement setting span label.switch (one.tree ∷ made.trees))))))
  headed-subject within fine s names span operand items is sound rest =
      scope-settles (StmtFits within) s
      (λ inside. typing inside (typed_subject setting inside.known operand) (λ then_inside one.
      further (in_scope then_inside (λ part. typed_switch_items setting (in_switch within) one.kind part [] items))
      (λ behind made. goes_on behind (statement setting span label.switch (one.tree ∷ made.trees))))) sound
      (λ t inside. typing-settles SubjectFits (StmtFits within) t (typed_subject setting t.known operand)
      (λ then_inside one. further (in_scope then_inside (λ part. typed_switch_items setting (in_switch within) one.kind part [] items))
      (λ behind made. goes_on behind (statement setting span label.switch (one.tree ∷ made.trees)))) (subject-types setting tokens t names operand is inside)
      (λ u one still has. part-settles (ItemsFit (in_switch within) one.kind []) (StmtFits within) u (λ part. typed_switch_items setting (in_switch within) one.kind part [] items)
      (λ (made : AllLabelled). statement setting span label.switch (one.tree ∷ made.trees)) still (rest one)
      (λ v made kept mine. switch-fits setting span within v one made (at-further SubjectFits u v one kept has) mine)))

  case-settles : (within : Within) (kind : Kind) (s : Standing) (labels : List (Option ℤ)) (span : Span) (expr : Expr) (item : SwitchItem)
      → Types (CaseFits kind labels) s (typed_case setting s.known kind labels expr)
      → ((t : Standing) (one : CaseValue) → IsSoundStanding t → Settles (ItemFits within kind (Some one.value ∷ labels)) t (typed_switch_item setting within kind t (Some one.value ∷ labels) item))
      → Settles (ItemFits within kind labels) s (typing s (typed_case setting s.known kind labels expr) (λ then_standing one.
      further (typed_switch_item setting within kind then_standing (Some one.value ∷ labels) item)
      (λ behind made. goes_on behind (record { tree = statement setting span label.case (one.tree ∷ made.tree ∷ []); labels = made.labels }))))
  case-settles within kind s labels span expr item h rest =
      typing-settles (CaseFits kind labels) (ItemFits within kind labels) s (typed_case setting s.known kind labels expr)
      (λ then_standing one. further (typed_switch_item setting within kind then_standing (Some one.value ∷ labels) item)
      (λ behind made. goes_on behind (record { tree = statement setting span label.case (one.tree ∷ made.tree ∷ []); labels = made.labels }))) h
      (λ t one inside has. made-settles (ItemFits within kind (Some one.value ∷ labels)) (ItemFits within kind labels) t (typed_switch_item setting within kind t (Some one.value ∷ labels) item)
      (λ (made : Labelled). record { tree = statement setting span label.case (one.tree ∷ made.tree ∷ []); labels = made.labels }) (rest t one inside)
      (λ u made kept m. case-fits setting span within u kind labels one made (at-further (CaseFits kind labels) t u one kept has) m))

  mutual
    unfolding typed_stmt typed_items_in typed_item_in typed_switch_items typed_switch_item IsStmt AreBlockItems IsBlockItem AreSwitchItems IsSwitchItem

    pub stmt-settles : (within : Within) → IsSoundWithin within → (s : Standing) (names : List Seen) (stmt : Stmt) → IsStmt setting.source names stmt → IsSoundStanding s
        → Settles (StmtFits within) s (typed_stmt setting within s stmt)
    stmt-settles within fine s names (tree.block span items) is sound =
        scope-settles (StmtFits within) s
        (λ inside. further (typed_items_in setting within inside items) (λ behind trees. goes_on behind (statement setting span label.block trees))) sound
        (λ t inside. made-settles (StmtsFit within) (StmtFits within) t (typed_items_in setting within t items) (statement setting span label.block)
        (block-settles within fine t _ _ items _ is.1.1 inside) (λ u all kept h. block-fits setting span within u all h))
    stmt-settles within fine s names (tree.expression span expr) is sound =
        value-settles OptionalFits (StmtFits within) s (typed_optional setting s.known expr) (full_statement setting span) (optional-types setting tokens s names _ expr is.0 sound)
        (λ t values kept h. full-fits setting span within t values h)
    stmt-settles within fine s names (tree.if_only span condition body) is sound =
        headed-settles ConditionFits (StmtFits within) (StmtFits within) s (λ known. typed_condition setting known condition) (λ value part. typed_stmt setting within part body)
        (λ value made. statement setting span label.if_statement (value ∷ made ∷ [])) sound (λ t inside. condition-types setting tokens t names condition is.1.2 inside)
        (λ value t inside. stmt-settles within fine t _ body is.3 inside) (λ t value made v m. if-fits setting span within t value made v m)
    stmt-settles within fine s names (tree.if_else span condition body other) is sound =
        either-settles ConditionFits (StmtFits within) (StmtFits within) s (λ known. typed_condition setting known condition) (λ part. typed_stmt setting within part body)
        (λ part. typed_stmt setting within part other) (λ value first second. statement setting span label.if_statement (value ∷ first ∷ second ∷ [])) sound
        (λ t inside. condition-types setting tokens t names condition is.1.2 inside) (λ t inside. stmt-settles within fine t _ body is.3 inside)
        (λ t inside. stmt-settles within fine t _ other is.6 inside) (λ t value one two v m n. else-fits setting span within t value one two v m n)
    stmt-settles within fine s names (tree.switch span operand items) is sound =
        headed-subject within fine s names span operand items is.1.2 sound (λ one t inside. switch-items-settle (in_switch within) (switch-within within fine) one.kind t _ _ [] items _ is.3.1 inside)
    stmt-settles within fine s names (tree.while span condition body) is sound =
        headed-settles ConditionFits (StmtFits (in_loop within)) (StmtFits within) s (λ known. typed_condition setting known condition)
        (λ value part. typed_stmt setting (in_loop within) part body) (λ value made. statement setting span label.while_loop (value ∷ made ∷ [])) sound
        (λ t inside. condition-types setting tokens t names condition is.1.2 inside)
        (λ value t inside. stmt-settles (in_loop within) (loop-within within fine) t _ body is.3 inside) (λ t value made v m. while-fits setting span within t value made v m)
    stmt-settles within fine s names (tree.do_while span body condition) is sound =
        footed-settles ConditionFits (StmtFits (in_loop within)) (StmtFits within) s (λ part. typed_stmt setting (in_loop within) part body) (λ known. typed_condition setting known condition)
        (λ made value. statement setting span label.do_loop (made ∷ value ∷ [])) sound (λ t inside. stmt-settles (in_loop within) (loop-within within fine) t _ body is.2 inside)
        (λ t inside. condition-types setting tokens t _ condition is.4.2 inside) (λ t made value m v. do-fits setting span within t made value m v)
    stmt-settles within fine s names (tree.for_loop span start condition step body) is sound =
        loop-settles StartFits TestFits OptionalFits (StmtFits (in_loop within)) (StmtFits within) s (λ inside. typed_start setting inside start)
        (λ known. typed_optional_condition setting known condition) (λ known. typed_optional setting known step) (λ part. typed_stmt setting (in_loop within) part body)
        (for_statement setting span) sound (λ t inside. start-settles t names _ start is.2 inside) (λ t inside. test-types setting tokens t _ _ condition is.3 inside)
        (λ t inside. optional-types setting tokens t _ _ step is.5 inside) (λ t inside. stmt-settles (in_loop within) (loop-within within fine) t _ body is.8 inside)
        (λ t one two three made a b c m. for-fits setting span within t one two three made a b c m)
    stmt-settles within fine s names (tree.break span) is sound =
        settles-keeps (StmtFits within) s within.breaks 33 span.first (goes_on s (statement setting span label.break [])) (λ yes. (sound, keeps-itself s, break-fits setting span within s yes))
    stmt-settles within fine s names (tree.continue span) is sound =
        settles-keeps (StmtFits within) s within.continues 33 span.first (goes_on s (statement setting span label.continue [])) (λ yes. (sound, keeps-itself s, continue-fits setting span within s yes))
    stmt-settles within fine s names (tree.return span expr) is sound =
        value-settles (StmtFits within) (StmtFits within) s (typed_return setting s.known within.result span expr) (λ made. made)
        (types-by (IsSoundReturn within.result) (StmtFits within) s (typed_return setting s.known within.result span expr) sound
        (return-gives setting tokens s.known names within.result span _ expr fine.plain_result fine.proper is.1 sound.known)
        (λ known made still h. return-fits within (knowing s known) still made h)) (λ t made kept h. h)

    pub block-settles : (within : Within) → IsSoundWithin within → (s : Standing) (names : List Seen) (at : ℕ) (items : BlockItems) (behind : List Seen)
        → AreBlockItems setting.source names at items behind → IsSoundStanding s → Settles (StmtsFit within) s (typed_items_in setting within s items)
    block-settles within fine s names at tree.no_items behind is sound = (sound, keeps-itself s, (λ final last. tt))
    block-settles within fine s names at (tree.more_items first others) behind is sound =
        more-settle (StmtFits within) (StmtsFit within) (StmtsFit within) s (typed_item_in setting within s first) (λ t made. typed_items_in setting within t others) (λ made more. made ∷ more)
        (block-item-settles within fine s _ first is.1 sound) (λ t made inside. block-settles within fine t _ _ others behind is.2 inside)
        (λ t made more m n final last. (m final last, n final last))

    block-item-settles : (within : Within) → IsSoundWithin within → (s : Standing) (names : List Seen) (item : BlockItem) → IsBlockItem setting.source names item → IsSoundStanding s
        → Settles (StmtFits within) s (typed_item_in setting within s item)
    block-item-settles within fine s names (tree.declared_item declaration) is sound = declared-in-settles within s names declaration is sound
    block-item-settles within fine s names (tree.stated_item stmt) is sound = stmt-settles within fine s names stmt is sound

    switch-items-settle : (within : Within) → IsSoundWithin within → (kind : Kind) (s : Standing) (names : List Seen) (at : ℕ) (labels : List (Option ℤ)) (items : SwitchItems)
        (behind : List Seen) → AreSwitchItems setting.source names at items behind → IsSoundStanding s
        → Settles (ItemsFit within kind labels) s (typed_switch_items setting within kind s labels items)
    switch-items-settle within fine kind s names at labels tree.no_switch_items behind is sound = (sound, keeps-itself s, (λ final last. no-items within kind labels final))
    switch-items-settle within fine kind s names at labels (tree.more_switch_items first others) behind is sound =
        settles-further (ItemFits within kind labels) (ItemsFit within kind labels) s (typed_switch_item setting within kind s labels first)
        (λ then_standing made. further (typed_switch_items setting within kind then_standing made.labels others)
        (λ behind more. goes_on behind (record { trees = made.tree ∷ more.trees; labels = more.labels })))
        (switch-item-settles within fine kind s _ labels first is.1 sound)
        (λ t made inside kept m. made-settles (ItemsFit within kind made.labels) (ItemsFit within kind labels) t (typed_switch_items setting within kind t made.labels others)
        (λ (more : AllLabelled). record { trees = made.tree ∷ more.trees; labels = more.labels })
        (switch-items-settle within fine kind t _ _ made.labels others behind is.2 inside)
        (λ u more further n. more-items-fit setting (record { first = at; after = at }) within u kind labels made more (at-further (ItemFits within kind labels) t u made further m) n))

    switch-item-settles : (within : Within) → IsSoundWithin within → (kind : Kind) (s : Standing) (names : List Seen) (labels : List (Option ℤ)) (item : SwitchItem)
        → IsSwitchItem setting.source names item → IsSoundStanding s → Settles (ItemFits within kind labels) s (typed_switch_item setting within kind s labels item)
    switch-item-settles within fine kind s names labels (tree.case span expr item) is sound =
        case-settles within kind s labels span expr item (case-types setting tokens s names kind labels expr is.2 sound)
        (λ t one inside. switch-item-settles within fine kind t _ (Some one.value ∷ labels) item is.6 inside)
    switch-item-settles within fine kind s names labels (tree.default span item) is sound =
        settles-keeps (ItemFits within kind labels) s (not (is_label_among None labels)) 31 span.first
        (further (typed_switch_item setting within kind s (None ∷ labels) item)
        (λ behind made. goes_on behind (record { tree = statement setting span label.default (made.tree ∷ []); labels = made.labels })))
        (λ new. made-settles (ItemFits within kind (None ∷ labels)) (ItemFits within kind labels) s (typed_switch_item setting within kind s (None ∷ labels) item)
        (λ (made : Labelled). record { tree = statement setting span label.default (made.tree ∷ []); labels = made.labels })
        (switch-item-settles within fine kind s names (None ∷ labels) item is.3 sound)
        (λ t made kept m. default-fits setting span within t kind labels made (not-true (is_label_among None labels) new) m))
    switch-item-settles within fine kind s names labels (tree.unlabelled span stmt) is sound =
        made-settles (StmtFits within) (ItemFits within kind labels) s (typed_stmt setting within s stmt) (λ made. record { tree = made; labels = labels })
        (stmt-settles within fine s names stmt is.1 sound) (λ t made kept m. plain-item-fits setting span within t kind labels made m)
