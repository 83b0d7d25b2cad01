-- The expression of an added function, against that of a run, where arguments may be read late.
--     early late ps      the parameters that aren't read late
--     body_stands      the arguments of these stand in parts that may be evaluated, the others stand untouched anywhere
use Rattle.std.specs.Prelude.{◌≡◌, refl, ◌⊎◌, ℕ, Bool, true, false, not, IsTrue, List, [], ◌∷◌, Option, Some, slice_get, if◌then◌else◌}
use Rattle.std.proofs.Common.{arith, ap, sym, ◌∙◌, subst, inl, inr}
use Rattle.std.proofs.lemmas.Bool.{true≢false}
use Rattle.dm_runs.specs.declared.run.Occurrence.{Occurrence}
use Rattle.dm_runs.specs.declared.run.Run.{Run}
use Rattle.dm_type.specs.CTypes.{CType, bare}
use Rattle.dm_tree.specs.Scenes.{Scene}
use Rattle.dm_tree.specs.Trees.{Label, read, is_statement, Spans, Tree, Trees, node, no_trees, more_trees, kind_of, listed}
use Rattle.dm_tree.specs.Typing.{Fits, inside, IsWellTyped, AreWellTyped}
use Rattle.dm_meaning.specs.Among.{IsAmong}
use Rattle.dm_meaning.specs.Called.{Called, Gives, is_nowhere_local}
use Rattle.dm_meaning.specs.Objects.{agree_without_const}
use Rattle.dm_meaning.specs.Replaced.{relabelled}
use Rattle.dm_meaning.specs.Running.{evaluates, Run as Evaluation, begun, all_begun, Open, first_open, others_open, open_of}
use Rattle.dm_meaning.specs.Statements.{kind_declared}
use Rattle.dm_meaning.specs.Wholes.{is_expression, are_expressions}
use Rattle.dm_meaning.proofs.AmongLemmas.{among_left, among_right}
use Rattle.dm_meaning.proofs.MatchLemmas.{open_of_relabelled}
use Rattle.dm_meaning.proofs.OptionLemmas.{and_left, and_right}
use Rattle.dm_effect.specs.Scoped.{names_in_scope, same_scopes, is_scoped, are_scoped}
use Rattle.dm_agree.specs.Agreement.{Rewriting, Here, here_below, SameBody, SameBodies, Left, left_at, standing_in, standing_below}
use Rattle.dm_central.specs.Arguments.{ReadsParameter, IsSameBut, AreSameBut, IsUntouched, IsStanding, Stands, StandBelow, StandsWhole}
use Rattle.dm_plain.specs.Plain.{AreTypesPlain, AllTypesPlain}
use Rattle.dm_refine.proofs.CallBodyLemmas.{slice_among, not_true, read_object, names_first, scopes_inside, ReadsHere, IsNodeHere, by_here, same_meaning, left_here}
use Rattle.dm_refine.proofs.ConstantTreeLemmas.{inside_declared}
use Rattle.dm_refine.proofs.ReadFirstLemmas.{NamesNone, NameNone, IfFirst, OnlyFirst, OnlyFirstBelow, either}
use Rattle.dm_late.specs.Settled.{erased, all_erased}
use Rattle.dm_late.proofs.GivenLemmas.{tree_if, run_if}

-- ---- parameters that aren't read late

abbrev pub early : (ℕ → Bool) → List ℕ → List ℕ
early late [] = []
early late (p ∷ ps) = if late p then early late ps else p ∷ early late ps

early_one : (b : Bool) (p q : ℕ) (rest : List ℕ) → b ≡ false → p ≡ q → IsAmong p (if b then rest else q ∷ rest)
early_one true p q rest e same = absurd (true≢false e)
early_one false p q rest e same = inl same

early_other : (b : Bool) (p q : ℕ) (rest : List ℕ) → IsAmong p rest → IsAmong p (if b then rest else q ∷ rest)
early_other true p q rest k = k
early_other false p q rest k = inr k

pub among_early : (late : ℕ → Bool) (ps : List ℕ) (p : ℕ) → late p ≡ false → IsAmong p ps → IsAmong p (early late ps)
among_early late [] p e k = absurd k
among_early late (q ∷ ps) p e (inl same) = early_one (late q) p q (early late ps) (subst (λ n. late n ≡ false) same e) same
among_early late (q ∷ ps) p e (inr k) = early_other (late q) p q (early late ps) (among_early late ps p e k)

from_early : (b : Bool) (p q : ℕ) (rest : List ℕ) → IsAmong p (if b then rest else q ∷ rest) → ((b ≡ false) × (p ≡ q)) ⊎ IsAmong p rest
from_early true p q rest k = inr k
from_early false p q rest (inl e) = inl (refl, e)
from_early false p q rest (inr k) = inr k

pub early_among : (late : ℕ → Bool) (ps : List ℕ) (p : ℕ) → IsAmong p (early late ps) → IsAmong p ps × (late p ≡ false)
early_among late [] p k = absurd k
early_among late (q ∷ ps) p k =
    either ((late q ≡ false) × (p ≡ q)) (IsAmong p (early late ps)) (IsAmong p (q ∷ ps) × (late p ≡ false)) (λ h. (inl h.1, ap late h.1 ∙ h.0))
    (λ l. let found = early_among late ps p l in (inr found.0, found.1)) (from_early (late q) p q (early late ps) k)

-- ---- the expression

module _ (at : Spans) (change : Called) (own : (p : ℕ) → IsAmong p change.added.parameters → (d : ℕ) → change.rename d ≡ p → ⊥) (automatic : ℕ → Bool)
    (still : (d : ℕ) → automatic (change.rename d) ≡ false → is_nowhere_local change.old d ≡ true) (late : ℕ → Bool)
    (kind_at : ℕ → Option CType) (tree_at : ℕ → Option (Option Tree)) (run_at : ℕ → Option (Option Evaluation)) where
  abbrev ps : List ℕ
  ps = change.added.parameters

  -- what stands for a parameter
  pub record IsGiven (p : ℕ) (tree : Tree) : Type 0 where
    pub kind_is : kind_at p ≡ Some (kind_of tree)
    pub tree_is : tree_at p ≡ Some (tree_if (late p) (erased at tree))
    pub run_is : run_at p ≡ Some (run_if (late p) (erased at tree))
    pub gives : late p ≡ true → Gives (erased at tree)

  abbrev pub AreGiven : (ℕ → List Left) → Type 0
  AreGiven lefts = (n : ℕ) (left : Left) → IsAmong left (lefts n) → (p : ℕ) → slice_get ps n ≡ Some p → IsGiven p left.tree

  read_parameter : (scene : Scene) → scene.declared ≡ change.declared → (label : Label) (kind : CType) (spans : Spans) (parts : Trees) (other : Tree) → Fits scene label kind (listed parts)
      → AreWellTyped (inside scene label (listed parts)) parts → (occurrences : List Occurrence) → (h : ReadsHere ps occurrences label kind parts other)
      → (reads : ReadsParameter change (node label kind spans parts) (kind_of other)) × (reads.parameter ≡ h.parameter)
  read_parameter scene e label kind spans parts other fits typed occurrences h =
      let there = read_object change.declared scene e kind parts h.parameter (subst (λ (l : Label). Fits scene l kind (listed parts)) h.reads.0 fits)
      (subst (λ (l : Label). AreWellTyped (inside scene l (listed parts)) parts) h.reads.0 typed) h.reads.2 in (
        record {
          parameter = h.parameter;
          spans = spans;
          named_kind = there.named_kind;
          named_spans = there.named_spans;
          is = ap (λ (l : Label). node l kind spans parts) h.reads.0 ∙ (ap (λ (k : CType). node read k spans parts) h.reads.1 ∙ ap (λ (ps : Trees). node read (kind_of other) spans ps) there.alone);
          own = ap not (subst (λ (k : CType). agree_without_const (bare (kind_declared (slice_get change.declared h.parameter))) k ≡ true) h.reads.1 there.own);
        },
        refl,
      )

  given_here : (occurrences : List Occurrence) (runs : List Run) (label : Label) (kind : CType) (parts : Trees) (other : Tree) (below : ℕ → List Left)
      → AreGiven (λ n. left_at n occurrences runs other (below n)) → (h : ReadsHere ps occurrences label kind parts other) → IsGiven h.parameter other
  given_here occurrences runs label kind parts other below gives h =
      gives h.one.parameter (record { runs = runs; tree = other })
      (subst (λ (found : List Occurrence). IsAmong {X = Left} (record { runs = runs; tree = other }) (left_at h.one.parameter found runs other (below h.one.parameter))) (sym h.is)
      (left_here change own automatic still h.one.parameter h.one h.others runs other (below h.one.parameter) refl)) h.parameter h.found

  -- a late argument stands there
  late_same : (tree other : Tree) → (reads : ReadsParameter change tree (kind_of other)) → IsGiven reads.parameter other → late reads.parameter ≡ true
      → (tree_at reads.parameter ≡ Some (Some (erased at other))) × Gives (erased at other)
  late_same tree other reads given e = (given.tree_is ∙ ap (λ b. Some (tree_if b (erased at other))) e, given.gives e)

  by_late : (b : Bool) (R : Type 0) → (b ≡ true → R) → (b ≡ false → R) → R
  by_late true R f g = f refl
  by_late false R f g = g refl

  mutual
    pub body_but : (rewriting : Rewriting) → rewriting.rename ≡ change.rename → (run : Run) (scene : Scene) → scene.declared ≡ change.declared → (here : Here) (tree other : Tree) → IsWellTyped scene tree
        → is_expression tree ≡ true → is_scoped automatic ps tree ≡ true → AreTypesPlain automatic tree → NamesNone (early late ps) tree → SameBody rewriting ps run here tree other
        → AreGiven (λ n. standing_in rewriting run n here other) → IsSameBut change tree_at tree (erased at other)
    body_but rewriting r run scene e here (node label kind spans parts) (node other other_kind other_spans others) typed expression scoped plain none h gives =
        let was = node other other_kind other_spans others in
        let none_below : NameNone (early late ps) parts = λ p k. omega (arith, none p k) in
        either (IsNodeHere rewriting here.occurrences label kind was (SameBodies rewriting ps run other other_spans parts others)) (ReadsHere ps here.occurrences label kind parts was)
        (IsSameBut change tree_at (node label kind spans parts) (erased at was))
        (λ same.
        let renamed = same.same.0 ∙ ap (λ rename. relabelled rename other) r in
        inl (
          renamed,
          same.same.1,
          same_meaning change own automatic still label other renamed (and_left (names_in_scope automatic ps label) _ scoped),
          bodies_but rewriting r run (inside scene label (listed parts)) (inside_declared scene label (listed parts) ∙ e) other other_spans parts others typed.1
              (and_right (not (is_statement label)) _ expression)
              (scopes_inside automatic ps label parts (not_true (is_statement label) (and_left (not (is_statement label)) _ expression)) plain.0 (and_right (names_in_scope automatic ps label) _ scoped))
              plain.1 none_below same.below
              (subst (λ (occurrences : List Occurrence). AreGiven (λ n. left_at n occurrences here.runs was (standing_below rewriting run n other other_spans others))) same.none gives),
        ))
        (λ reads.
        let parameter = read_parameter scene e label kind spans parts was typed.0 typed.1 here.occurrences reads in
        let given = given_here here.occurrences here.runs label kind parts was (λ n. standing_below rewriting run n other other_spans others) gives reads in
        by_late (late reads.parameter) (IsSameBut change tree_at (node label kind spans parts) (erased at was))
        (λ f. let found = late_same (node label kind spans parts) was parameter.0 (subst (λ p. IsGiven p was) (sym parameter.1) given) (ap late parameter.1 ∙ f) in inr (parameter.0, found.0, found.1))
        (λ f. absurd (names_first parts reads.parameter reads.reads.2 (none_below reads.parameter (among_early late ps reads.parameter f (slice_among ps reads.one.parameter reads.parameter reads.found))))))
        (by_here rewriting ps here.occurrences here.runs label kind parts was _ h)

    bodies_but : (rewriting : Rewriting) → rewriting.rename ≡ change.rename → (run : Run) (scene : Scene) → scene.declared ≡ change.declared → (label : Label) (spans : Spans) (trees others : Trees)
        → AreWellTyped scene trees → are_expressions trees ≡ true → are_scoped automatic (same_scopes ps trees) trees ≡ true → AllTypesPlain automatic trees → NameNone (early late ps) trees
        → SameBodies rewriting ps run label spans trees others → AreGiven (λ n. standing_below rewriting run n label spans others) → AreSameBut change tree_at trees (all_erased at others)
    bodies_but rewriting r run scene e label spans no_trees no_trees typed expression scoped plain none h gives = tt
    bodies_but rewriting r run scene e label spans no_trees (more_trees other others) typed expression scoped plain none h gives = absurd h
    bodies_but rewriting r run scene e label spans (more_trees one rest) no_trees typed expression scoped plain none h gives = absurd h
    bodies_but rewriting r run scene e label spans (more_trees one rest) (more_trees other others) typed expression scoped plain none h gives =
        let here = here_below rewriting run label spans other in (
          body_but rewriting r run scene e here one other typed.0 (and_left (is_expression one) _ expression) (and_left (is_scoped automatic ps one) _ scoped) plain.0
              (λ p k. omega (arith, none p k)) h.0 (λ n left k p f. gives n left (among_left left (standing_in rewriting run n here other) (standing_below rewriting run n label spans others) k) p f),
          bodies_but rewriting r run scene e label spans rest others typed.1 (and_right (is_expression one) _ expression) (and_right (is_scoped automatic ps one) _ scoped) plain.1
              (λ p k. omega (arith, none p k)) h.1 (λ n left k p f. gives n left (among_right left (standing_in rewriting run n here other) (standing_below rewriting run n label spans others) k) p f),
        )

  -- what stands in a part that may be evaluated may stand untouched
  abbrev Part : Tree → Evaluation → Type 0
  Part tree other = IsUntouched change tree_at tree other ⊎ (IsStanding change kind_at run_at tree other ⊎ Stands change kind_at tree_at run_at tree other)

  part_of : (b : Bool) (tree : Tree) (other : Evaluation) → IsUntouched change tree_at tree other ⊎ (IsTrue b × Part tree other)
      → IsUntouched change tree_at tree other ⊎ (IsTrue b × (IsStanding change kind_at run_at tree other ⊎ Stands change kind_at tree_at run_at tree other))
  part_of b tree other (inl h) = inl h
  part_of b tree other (inr (o, inl h)) = inl h
  part_of b tree other (inr (o, inr h)) = inr (o, h)

  open_part : (b : Bool) (first other : Type 0) (tree : Tree) (evaluation : Evaluation) → IfFirst b first other → (first → Part tree evaluation) → (other → IsUntouched change tree_at tree evaluation)
      → IsUntouched change tree_at tree evaluation ⊎ (IsTrue b × (IsStanding change kind_at run_at tree evaluation ⊎ Stands change kind_at tree_at run_at tree evaluation))
  open_part true first other tree evaluation h f g = part_of true tree evaluation (inr (refl, f h))
  open_part false first other tree evaluation h f g = inl (g h)

  mutual
    pub body_stands : (rewriting : Rewriting) → rewriting.rename ≡ change.rename → (run : Run) (scene : Scene) → scene.declared ≡ change.declared → (here : Here) (tree other : Tree) → IsWellTyped scene tree
        → is_expression tree ≡ true → is_scoped automatic ps tree ≡ true → AreTypesPlain automatic tree → OnlyFirst (early late ps) tree → SameBody rewriting ps run here tree other
        → AreGiven (λ n. standing_in rewriting run n here other) → StandsWhole change kind_at tree_at run_at tree (begun (erased at other))
    body_stands rewriting r run scene e here (node label kind spans parts) (node other other_kind other_spans others) typed expression scoped plain first h gives =
        let was = node other other_kind other_spans others in
        either (IsNodeHere rewriting here.occurrences label kind was (SameBodies rewriting ps run other other_spans parts others)) (ReadsHere ps here.occurrences label kind parts was)
        (StandsWhole change kind_at tree_at run_at (node label kind spans parts) (begun (erased at was)))
        (λ same.
        let renamed = same.same.0 ∙ ap (λ rename. relabelled rename other) r in
        inr (inr (
          ap evaluates renamed,
          same.same.1,
          same_meaning change own automatic still label other renamed (and_left (names_in_scope automatic ps label) _ scoped),
          bodies_stand rewriting r run (inside scene label (listed parts)) (inside_declared scene label (listed parts) ∙ e) other other_spans (open_of other) parts others typed.1
              (and_right (not (is_statement label)) _ expression)
              (scopes_inside automatic ps label parts (not_true (is_statement label) (and_left (not (is_statement label)) _ expression)) plain.0 (and_right (names_in_scope automatic ps label) _ scoped))
              plain.1 (subst (λ (opens : Open). OnlyFirstBelow (early late ps) opens parts) (ap open_of renamed ∙ open_of_relabelled change.rename other) first) same.below
              (subst (λ (occurrences : List Occurrence). AreGiven (λ n. left_at n occurrences here.runs was (standing_below rewriting run n other other_spans others))) same.none gives),
        )))
        (λ reads.
        let parameter = read_parameter scene e label kind spans parts was typed.0 typed.1 here.occurrences reads in
        let given = given_here here.occurrences here.runs label kind parts was (λ n. standing_below rewriting run n other other_spans others) gives reads in
        by_late (late reads.parameter) (StandsWhole change kind_at tree_at run_at (node label kind spans parts) (begun (erased at was)))
        (λ f.
        let found = late_same (node label kind spans parts) was parameter.0 (subst (λ p. IsGiven p was) (sym parameter.1) given) (ap late parameter.1 ∙ f) in
        inl (record { was = erased at was; same = inr (parameter.0, found.0, found.1); is = refl }))
        (λ f.
        inr (inl (record {
          kind = other_kind;
          reads = parameter.0;
          typed = ap kind_at parameter.1 ∙ given.kind_is;
          stands = ap run_at parameter.1 ∙ (given.run_is ∙ ap (λ b. Some (run_if b (erased at was))) f);
        }))))
        (by_here rewriting ps here.occurrences here.runs label kind parts was _ h)

    bodies_stand : (rewriting : Rewriting) → rewriting.rename ≡ change.rename → (run : Run) (scene : Scene) → scene.declared ≡ change.declared → (label : Label) (spans : Spans) (opens : Open) (trees others : Trees)
        → AreWellTyped scene trees → are_expressions trees ≡ true → are_scoped automatic (same_scopes ps trees) trees ≡ true → AllTypesPlain automatic trees → OnlyFirstBelow (early late ps) opens trees
        → SameBodies rewriting ps run label spans trees others → AreGiven (λ n. standing_below rewriting run n label spans others)
        → StandBelow change kind_at tree_at run_at opens trees (all_begun (all_erased at others))
    bodies_stand rewriting r run scene e label spans opens no_trees no_trees typed expression scoped plain first h gives = tt
    bodies_stand rewriting r run scene e label spans opens no_trees (more_trees other others) typed expression scoped plain first h gives = absurd h
    bodies_stand rewriting r run scene e label spans opens (more_trees one rest) no_trees typed expression scoped plain first h gives = absurd h
    bodies_stand rewriting r run scene e label spans opens (more_trees one rest) (more_trees other others) typed expression scoped plain first h gives =
        let here = here_below rewriting run label spans other in
        let there : AreGiven (λ n. standing_in rewriting run n here other) =
        λ n left k p f. gives n left (among_left left (standing_in rewriting run n here other) (standing_below rewriting run n label spans others) k) p f in (
          open_part (first_open opens) (OnlyFirst (early late ps) one) (NamesNone (early late ps) one) one (begun (erased at other)) first.0
              (λ only. body_stands rewriting r run scene e here one other typed.0 (and_left (is_expression one) _ expression) (and_left (is_scoped automatic ps one) _ scoped) plain.0 only h.0 there)
              (λ none.
              record {
                was = erased at other;
                same = body_but rewriting r run scene e here one other typed.0 (and_left (is_expression one) _ expression) (and_left (is_scoped automatic ps one) _ scoped) plain.0 none h.0 there;
                is = refl;
              }),
          bodies_stand rewriting r run scene e label spans (others_open opens) rest others typed.1 (and_right (is_expression one) _ expression) (and_right (is_scoped automatic ps one) _ scoped) plain.1 first.1 h.1
              (λ n left k p f. gives n left (among_right left (standing_in rewriting run n here other) (standing_below rewriting run n label spans others) k) p f),
        )
