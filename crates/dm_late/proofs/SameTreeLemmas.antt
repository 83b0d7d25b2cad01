-- The trees that stand for a parameter in a run differ in their places alone.
--     same_tree      old trees that agree with one new tree are the same, but for their places
use Rattle.std.specs.Prelude.{◌≡◌, refl, ℕ, zero, suc, ◌+◌, true, false, not, List, [], ◌∷◌, All, Option, Some, None, option_map, slice_get}
use Rattle.std.proofs.Common.{arith, ap, sym, ◌∙◌, subst, inl, inr}
use Rattle.std.proofs.lemmas.Bool.{true≢false}
use Rattle.dm_runs.specs.declared.run.Occurrence.{Occurrence}
use Rattle.dm_runs.specs.declared.run.Run.{Run}
use Rattle.dm_type.specs.CTypes.{CType}
use Rattle.dm_type.specs.Tables.{Table}
use Rattle.dm_tree.specs.Constants.{constant}
use Rattle.dm_tree.specs.Scenes.{Scene}
use Rattle.dm_tree.specs.Trees.{Label, enumerator, object, function, read, call, declare, is_statement, Spans, Tree, Trees, node, no_trees, more_trees, label_of, spans_of, trees_of, listed}
use Rattle.dm_tree.specs.Typing.{Fits, inside, IsEntry, IsWellTyped, AreWellTyped}
use Rattle.dm_meaning.specs.Among.{IsAmong}
use Rattle.dm_meaning.specs.Called.{Called, new_of}
use Rattle.dm_meaning.specs.CalledWithAll.{AreDistinct}
use Rattle.dm_meaning.specs.Programs.{declaration_of}
use Rattle.dm_meaning.specs.Replaced.{relabelled, facts_of}
use Rattle.dm_meaning.specs.Wholes.{is_expression, are_expressions}
use Rattle.dm_meaning.proofs.AmongLemmas.{among_left, among_right}
use Rattle.dm_meaning.proofs.OptionLemmas.{none_is_some, some_is_some, and_left, and_right}
use Rattle.dm_effect.specs.Entities.{object_first, function_first}
use Rattle.dm_agree.specs.Standing.{runs_below}
use Rattle.dm_agree.specs.Agreement.{Added, Rewriting, Here, here_at, here_below, SameBody, SameBodies, Left, left_at, standing_in, standing_below, standing_for, IsCallOf, AtRun, AllLeft, Agrees, AllAgree, PassesFrom}
use Rattle.dm_refine.proofs.CallBodyLemmas.{slice_among, one_position, not_true, ReadsHere, IsNodeHere, by_here, left_here}
use Rattle.dm_refine.proofs.CallLocalLemmas.{same_statement}
use Rattle.dm_refine.proofs.CallTreeLemmas.{AddsFunction, IsAddedEntry, AreArguments, at_run, call_parts}
use Rattle.dm_refine.proofs.ConstantTreeLemmas.{inside_declared}
use Rattle.dm_refine.proofs.ReadFirstLemmas.{either}
use Rattle.dm_late.specs.Settled.{erased, all_erased}

-- ---- labels

abbrev number_in : Label → Option ℕ
number_in (enumerator d) = Some d
number_in (object d) = Some d
number_in (function d) = Some d
number_in label = None

abbrev with_number : Label → Option ℕ → Label
with_number label None = label
with_number label (Some d) = relabelled (λ c. d) label

abbrev blanked : Label → Label
blanked label = relabelled (λ d. 0) label

label_is : (label : Label) → is_statement label ≡ false → label ≡ with_number (blanked label) (number_in label)
label_is (enumerator d) e = refl
label_is (object d) e = refl
label_is (function d) e = refl
label_is (declare lengths declarators) e = absurd (true≢false e)
label_is label e = refl

blanked_renamed : (rename : ℕ → ℕ) (label : Label) → is_statement label ≡ false → blanked (relabelled rename label) ≡ blanked label
blanked_renamed rename (enumerator d) e = refl
blanked_renamed rename (object d) e = refl
blanked_renamed rename (function d) e = refl
blanked_renamed rename (declare lengths declarators) e = absurd (true≢false e)
blanked_renamed rename label e = refl

number_renamed : (rename : ℕ → ℕ) (label : Label) → number_in (relabelled rename label) ≡ option_map rename (number_in label)
number_renamed rename (enumerator d) = refl
number_renamed rename (object d) = refl
number_renamed rename (function d) = refl
number_renamed rename (declare lengths declarators) = refl
number_renamed rename label = refl

same_number : (rename : ℕ → ℕ) → ((c d : ℕ) → rename c ≡ rename d → c ≡ d) → (a b : Option ℕ) → option_map rename a ≡ option_map rename b → a ≡ b
same_number rename injective None None e = refl
same_number rename injective None (Some d) e = absurd (none_is_some (rename d) e)
same_number rename injective (Some c) None e = absurd (none_is_some (rename c) (sym e))
same_number rename injective (Some c) (Some d) e = ap Some (injective c d (some_is_some (rename c) (rename d) e))

pub same_label : (rename : ℕ → ℕ) → ((c d : ℕ) → rename c ≡ rename d → c ≡ d) → (first second : Label) → is_statement first ≡ false → relabelled rename first ≡ relabelled rename second → first ≡ second
same_label rename injective first second n e =
    let other = sym (same_statement rename second) ∙ (ap is_statement (sym e) ∙ (same_statement rename first ∙ n)) in
    label_is first n
    ∙ (ap (λ (l : Label). with_number l (number_in first)) (sym (blanked_renamed rename first n) ∙ (ap blanked e ∙ blanked_renamed rename second other))
    ∙ (ap (with_number (blanked second)) (same_number rename injective (number_in first) (number_in second) (sym (number_renamed rename first) ∙ (ap number_in e ∙ number_renamed rename second)))
    ∙ sym (label_is second other)))

pub all_left_among : (R : List Run → Tree → Type 0) (lefts : List Left) → AllLeft R lefts → (left : Left) → IsAmong left lefts → R left.runs left.tree
all_left_among R [] h left l = absurd l
all_left_among R (first ∷ rest) h left (inl e) = subst (λ (one : Left). R one.runs one.tree) (sym e) h.0
all_left_among R (first ∷ rest) h left (inr k) = all_left_among R rest h.1 left k

same_node : (at : Spans) (first second : Label) (kind other : CType) (parts others : Trees) → first ≡ second → kind ≡ other → parts ≡ others → node first kind at parts ≡ node second other at others
same_node at first second kind other parts others e f g =
    ap (λ (l : Label). node l kind at parts) e ∙ (ap (λ (k : CType). node second k at parts) f ∙ ap (λ (ps : Trees). node second other at ps) g)

same_more : (first second : Tree) (rest others : Trees) → first ≡ second → rest ≡ others → more_trees first rest ≡ more_trees second others
same_more first second rest others e f = ap (λ (t : Tree). more_trees t rest) e ∙ ap (λ (ts : Trees). more_trees second ts) f

function_label : (d : ℕ) (label : Label) (rename : ℕ → ℕ) → function d ≡ relabelled rename label → (g : ℕ) × (d ≡ rename g)
function_label d (function g) rename e = (g, cc)
function_label d (enumerator g) rename e = absurd (cc)
function_label d (object g) rename e = absurd (cc)
function_label d (declare lengths declarators) rename e = absurd (cc)
function_label d label rename e = absurd (cc)

object_label : (d : ℕ) (label : Label) (rename : ℕ → ℕ) → object d ≡ relabelled rename label → (c : ℕ) × (d ≡ rename c)
object_label d (object c) rename e = (c, cc)
object_label d (enumerator c) rename e = absurd (cc)
object_label d (function c) rename e = absurd (cc)
object_label d (declare lengths declarators) rename e = absurd (cc)
object_label d label rename e = absurd (cc)

no_call : (d : ℕ) → function d ≡ call → ⊥
no_call d e = cc

no_read : (d : ℕ) → object d ≡ read → ⊥
no_read d e = cc

module _ (at : Spans) (change : Called) (told : (d : ℕ) → option_map facts_of (declaration_of (new_of change) (change.rename d)) ≡ option_map facts_of (declaration_of change.old d))
    (injective : (c d : ℕ) → change.rename c ≡ change.rename d → c ≡ d) (types : Table) (entries : All IsEntry change.declared)
    (entry : IsAddedEntry types change.declared change.added.function change.added.parameters) (runs : List Run) (added : Added) (adds : AddsFunction change added)
    (distinct : AreDistinct change.added.parameters) (own : (p : ℕ) → IsAmong p change.added.parameters → (d : ℕ) → change.rename d ≡ p → ⊥)
    (apart : (d : ℕ) → change.rename d ≡ change.added.function → ⊥) where
  abbrev ps : List ℕ
  ps = change.added.parameters

  abbrev it : Rewriting
  it = record { runs = runs; added = added; rename = change.rename; value = constant change.old.table change.old.declared }

  run_here : (run : Run) (inner : List Run) (label : Label) (kind : CType) (parts : Trees) (other : Tree) (Passed : Type 0) → AtRun it added run inner label kind parts other Passed
      → IsCallOf it change.added.function ps change.body run inner label kind parts other × Passed
  run_here run inner label kind parts other Passed h = at_run change told injective types entries entry runs added adds distinct added adds run inner label kind parts other Passed h

  -- ---- an old name is neither that of the added function nor that of a parameter

  name_apart : (standing : List Run) (d : ℕ) (kind : CType) (spans : Spans) (below : Trees) (other : Tree) → d ≡ change.added.function → Agrees it standing (node (function d) kind spans below) other → ⊥
  name_apart [] d kind spans below other e h = let found = function_label d (label_of other) change.rename h.0.0 in apart found.0 (sym found.1 ∙ e)
  name_apart (run ∷ inner) d kind spans below other e h = no_call d (run_here run inner (function d) kind below other _ h).0.0

  function_apart : (label : Label) (spans : Spans) (parts others : Trees) → function_first parts ≡ Some change.added.function → AllAgree it label spans parts others → ⊥
  function_apart label spans (more_trees (node (function d) kind own_spans below) rest) (more_trees other others) e h =
      name_apart (runs_below runs label spans other) d kind own_spans below other (some_is_some d change.added.function e) h.0
  function_apart label spans (more_trees (node (function d) kind own_spans below) rest) no_trees e h = absurd h
  function_apart label spans (more_trees (node one kind own_spans below) rest) others e h = absurd (none_is_some change.added.function e)
  function_apart label spans no_trees others e h = absurd (none_is_some change.added.function e)

  parameter_apart : (run : Run) (here : Here) (d : ℕ) (kind : CType) (spans : Spans) (below : Trees) (other : Tree) → IsAmong d ps → SameBody it ps run here (node (object d) kind spans below) other → ⊥
  parameter_apart run here d kind spans below other k h =
      either (IsNodeHere it here.occurrences (object d) kind other _) (ReadsHere ps here.occurrences (object d) kind below other) ⊥
      (λ same. let found = object_label d (label_of other) change.rename same.same.0 in own d k found.0 (sym found.1))
      (λ reads. no_read d reads.reads.0) (by_here it ps here.occurrences here.runs (object d) kind below other _ h)

  object_apart : (run : Run) (label : Label) (spans : Spans) (parts others : Trees) (d : ℕ) → object_first parts ≡ Some d → IsAmong d ps → SameBodies it ps run label spans parts others → ⊥
  object_apart run label spans (more_trees (node (object c) kind own_spans below) rest) (more_trees other others) d e k h =
      parameter_apart run (here_below it run label spans other) c kind own_spans below other (subst (λ n. IsAmong n ps) (sym (some_is_some c d e)) k) h.0
  object_apart run label spans (more_trees (node (object c) kind own_spans below) rest) no_trees d e k h = absurd h
  object_apart run label spans (more_trees (node one kind own_spans below) rest) others d e k h = absurd (none_is_some d e)
  object_apart run label spans no_trees others d e k h = absurd (none_is_some d e)

  -- ---- the expression of two runs

  abbrev AreEqual : (ℕ → List Left) → (ℕ → List Left) → Type 0
  AreEqual lefts others =
      (n p : ℕ) → slice_get ps n ≡ Some p → (left other : Left) → IsAmong left (lefts n) → IsAmong other (others n) → erased at left.tree ≡ erased at other.tree

  left_is : (runs : List Run) (tree : Tree) (one : Occurrence) (more : List Occurrence) (below : List Left) (n : ℕ) (occurrences : List Occurrence) → occurrences ≡ one ∷ more → one.parameter ≡ n
      → IsAmong {X = Left} (record { runs = runs; tree = tree }) (left_at n occurrences runs tree below)
  left_is runs tree one more below n occurrences e f =
      subst (λ (found : List Occurrence). IsAmong {X = Left} (record { runs = runs; tree = tree }) (left_at n found runs tree below)) (sym e)
      (left_here change own (λ d. true) (λ d g. absurd (true≢false g)) n one more runs tree below f)

  mutual
    body_equal : (run other_run : Run) (here there : Here) (tree one other : Tree) → is_expression tree ≡ true → SameBody it ps run here tree one → SameBody it ps other_run there tree other
        → AreEqual (λ n. standing_in it run n here one) (λ n. standing_in it other_run n there other) → erased at one ≡ erased at other
    body_equal run other_run here there (node label kind spans parts) (node one one_kind one_spans ones) (node other other_kind other_spans others) expression h k equal =
        let first = node one one_kind one_spans ones in
        let second = node other other_kind other_spans others in
        let below : ℕ → List Left = λ n. standing_below it run n one one_spans ones in
        let other_below : ℕ → List Left = λ n. standing_below it other_run n other other_spans others in
        either (IsNodeHere it here.occurrences label kind first (SameBodies it ps run one one_spans parts ones)) (ReadsHere ps here.occurrences label kind parts first) (erased at first ≡ erased at second)
        (λ same.
        either (IsNodeHere it there.occurrences label kind second (SameBodies it ps other_run other other_spans parts others)) (ReadsHere ps there.occurrences label kind parts second) (erased at first ≡ erased at second)
        (λ also.
        same_node at one other one_kind other_kind (all_erased at ones) (all_erased at others)
        (same_label change.rename injective one other
        (sym (same_statement change.rename one) ∙ (ap is_statement (sym same.same.0) ∙ not_true (is_statement label) (and_left (not (is_statement label)) _ expression))) (sym same.same.0 ∙ also.same.0))
        (sym same.same.1 ∙ also.same.1)
        (bodies_equal run other_run one other one_spans other_spans parts ones others (and_right (not (is_statement label)) _ expression) same.below also.below
        (subst (λ (occurrences : List Occurrence). AreEqual (λ n. left_at n occurrences here.runs first (below n)) (λ n. other_below n)) same.none
        (subst (λ (occurrences : List Occurrence). AreEqual (λ n. left_at n here.occurrences here.runs first (below n)) (λ n. left_at n occurrences there.runs second (other_below n))) also.none equal))))
        (λ reads. absurd (object_apart run one one_spans parts ones reads.parameter reads.reads.2 (slice_among ps reads.one.parameter reads.parameter reads.found) same.below))
        (by_here it ps there.occurrences there.runs label kind parts second _ k))
        (λ reads.
        either (IsNodeHere it there.occurrences label kind second (SameBodies it ps other_run other other_spans parts others)) (ReadsHere ps there.occurrences label kind parts second) (erased at first ≡ erased at second)
        (λ also. absurd (object_apart other_run other other_spans parts others reads.parameter reads.reads.2 (slice_among ps reads.one.parameter reads.parameter reads.found) also.below))
        (λ also.
        let same = some_is_some reads.parameter also.parameter (sym reads.reads.2 ∙ also.reads.2) in
        let position = one_position ps distinct also.one.parameter reads.one.parameter reads.parameter (also.found ∙ ap Some (sym same)) reads.found in
        equal reads.one.parameter reads.parameter reads.found (record { runs = here.runs; tree = first }) (record { runs = there.runs; tree = second })
        (left_is here.runs first reads.one reads.others (below reads.one.parameter) reads.one.parameter here.occurrences reads.is refl)
        (left_is there.runs second also.one also.others (other_below reads.one.parameter) reads.one.parameter there.occurrences also.is position))
        (by_here it ps there.occurrences there.runs label kind parts second _ k))
        (by_here it ps here.occurrences here.runs label kind parts first _ h)

    bodies_equal : (run other_run : Run) (label other_label : Label) (spans other_spans : Spans) (trees ones others : Trees) → are_expressions trees ≡ true
        → SameBodies it ps run label spans trees ones → SameBodies it ps other_run other_label other_spans trees others
        → AreEqual (λ n. standing_below it run n label spans ones) (λ n. standing_below it other_run n other_label other_spans others) → all_erased at ones ≡ all_erased at others
    bodies_equal run other_run label other_label spans other_spans no_trees no_trees no_trees expression h k equal = refl
    bodies_equal run other_run label other_label spans other_spans no_trees no_trees (more_trees other others) expression h k equal = absurd k
    bodies_equal run other_run label other_label spans other_spans no_trees (more_trees one ones) others expression h k equal = absurd h
    bodies_equal run other_run label other_label spans other_spans (more_trees tree trees) no_trees others expression h k equal = absurd h
    bodies_equal run other_run label other_label spans other_spans (more_trees tree trees) (more_trees one ones) no_trees expression h k equal = absurd k
    bodies_equal run other_run label other_label spans other_spans (more_trees tree trees) (more_trees one ones) (more_trees other others) expression h k equal =
        let here = here_below it run label spans one in
        let there = here_below it other_run other_label other_spans other in
        same_more (erased at one) (erased at other) (all_erased at ones) (all_erased at others)
        (body_equal run other_run here there tree one other (and_left (is_expression tree) _ expression) h.0 k.0
        (λ n p e left right l m.
        equal n p e left right (among_left left (standing_in it run n here one) (standing_below it run n label spans ones) l)
        (among_left right (standing_in it other_run n there other) (standing_below it other_run n other_label other_spans others) m)))
        (bodies_equal run other_run label other_label spans other_spans trees ones others (and_right (is_expression tree) _ expression) h.1 k.1
        (λ n p e left right l m.
        equal n p e left right (among_right left (standing_in it run n here one) (standing_below it run n label spans ones) l)
        (among_right right (standing_in it other_run n there other) (standing_below it other_run n other_label other_spans others) m)))

  module _ (body_expression : is_expression change.body ≡ true) where
    -- ---- trees

    -- a call of the added function in a well-typed tree
    pub call_arguments : (scene : Scene) → scene.declared ≡ change.declared → (label : Label) (kind : CType) (named : Tree) (rest : Trees) → label ≡ call → function_first (more_trees named rest) ≡ Some change.added.function
        → Fits scene label kind (named ∷ listed rest) → IsWellTyped (inside scene label (named ∷ listed rest)) named → AreArguments ps rest
    call_arguments scene e label kind named rest is first fits typed =
        (call_parts change told injective types entries entry scene e kind named rest first (subst (λ (l : Label). Fits scene l kind (named ∷ listed rest)) is fits)
        (subst (λ (l : Label). IsWellTyped (inside scene l (named ∷ listed rest)) named) is typed)).1

    mutual
      pub same_tree : (scene : Scene) → scene.declared ≡ change.declared → (tree : Tree) → IsWellTyped scene tree → is_expression tree ≡ true → (standing other_standing : List Run) (one other : Tree)
          → Agrees it standing tree one → Agrees it other_standing tree other → erased at one ≡ erased at other
      same_tree scene e (node label kind spans parts) typed expression [] [] (node one one_kind one_spans ones) (node other other_kind other_spans others) h k =
          same_node at one other one_kind other_kind (all_erased at ones) (all_erased at others)
          (same_label change.rename injective one other (sym (same_statement change.rename one) ∙ (ap is_statement (sym h.0.0) ∙ not_true (is_statement label) (and_left (not (is_statement label)) _ expression))) (sym h.0.0 ∙ k.0.0))
          (sym h.0.1 ∙ k.0.1)
          (same_trees (inside scene label (listed parts)) (inside_declared scene label (listed parts) ∙ e) one other one_spans other_spans parts typed.1 (and_right (not (is_statement label)) _ expression) ones others h.1 k.1)
      same_tree scene e (node label kind spans parts) typed expression [] (run ∷ inner) one other h k =
          absurd (function_apart (label_of one) (spans_of one) parts (trees_of one) (run_here run inner label kind parts other _ k).0.2 h.1)
      same_tree scene e (node label kind spans parts) typed expression (run ∷ inner) [] one other h k =
          absurd (function_apart (label_of other) (spans_of other) parts (trees_of other) (run_here run inner label kind parts one _ h).0.2 k.1)
      same_tree scene e (node label kind spans no_trees) typed expression (run ∷ inner) (other_run ∷ others) one other h k =
          absurd (none_is_some change.added.function (run_here run inner label kind no_trees one _ h).0.2)
      same_tree scene e (node label kind spans (more_trees named rest)) typed expression (run ∷ inner) (other_run ∷ other_inner) one other h k =
          let there = run_here run inner label kind (more_trees named rest) one _ h in
          let also = run_here other_run other_inner label kind (more_trees named rest) other _ k in
          body_equal run other_run (here_at run inner one) (here_at other_run other_inner other) change.body one other body_expression there.0.3 also.0.3
          (λ n p f left right l m.
          same_passed (inside scene label (named ∷ listed rest)) (inside_declared scene label (named ∷ listed rest) ∙ e) 0 ps rest (call_arguments scene e label kind named rest there.0.0 there.0.2 typed.0 typed.1.0) typed.1.1
          (and_right (is_expression named) _ (and_right (not (is_statement label)) _ expression)) run other_run inner other_inner one other there.1 also.1 n p f n (omega arith) left right l m)

      same_trees : (scene : Scene) → scene.declared ≡ change.declared → (label other_label : Label) (spans other_spans : Spans) (trees : Trees) → AreWellTyped scene trees → are_expressions trees ≡ true → (ones others : Trees)
          → AllAgree it label spans trees ones → AllAgree it other_label other_spans trees others → all_erased at ones ≡ all_erased at others
      same_trees scene e label other_label spans other_spans no_trees typed expression no_trees no_trees h k = refl
      same_trees scene e label other_label spans other_spans no_trees typed expression no_trees (more_trees other others) h k = absurd k
      same_trees scene e label other_label spans other_spans no_trees typed expression (more_trees one ones) others h k = absurd h
      same_trees scene e label other_label spans other_spans (more_trees tree trees) typed expression no_trees others h k = absurd h
      same_trees scene e label other_label spans other_spans (more_trees tree trees) typed expression (more_trees one ones) no_trees h k = absurd k
      same_trees scene e label other_label spans other_spans (more_trees tree trees) typed expression (more_trees one ones) (more_trees other others) h k =
          same_more (erased at one) (erased at other) (all_erased at ones) (all_erased at others)
          (same_tree scene e tree typed.0 (and_left (is_expression tree) _ expression) (runs_below runs label spans one) (runs_below runs other_label other_spans other) one other h.0 k.0)
          (same_trees scene e label other_label spans other_spans trees typed.1 (and_right (is_expression tree) _ expression) ones others h.1 k.1)

      -- an argument agrees with all trees that stand for its parameter
      pub same_passed : (scene : Scene) → scene.declared ≡ change.declared → (m : ℕ) (qs : List ℕ) (rest : Trees) → AreArguments qs rest → AreWellTyped scene rest → are_expressions rest ≡ true
          → (run other_run : Run) (inner other_inner : List Run) (one other : Tree) → PassesFrom it m rest run inner one → PassesFrom it m rest other_run other_inner other
          → (k p : ℕ) → slice_get qs k ≡ Some p → (n : ℕ) → n ≡ m + k → (left right : Left) → IsAmong left (standing_for it run inner n one) → IsAmong right (standing_for it other_run other_inner n other)
          → erased at left.tree ≡ erased at right.tree
      same_passed scene e m [] rest arguments typed expression run other_run inner other_inner one other h k i p f n at left right l r = absurd (none_is_some p f)
      same_passed scene e m (q ∷ qs) no_trees arguments typed expression run other_run inner other_inner one other h k i p f n at left right l r = absurd arguments
      same_passed scene e m (q ∷ qs) (more_trees first rest) arguments typed expression run other_run inner other_inner one other h k zero p f n at left right l r =
          let same : n ≡ m = omega (arith, at) in
          same_tree scene e first typed.0 (and_left (is_expression first) _ expression) left.runs right.runs left.tree right.tree
          (all_left_among (λ left_runs left_tree. Agrees it left_runs first left_tree) (standing_for it run inner m one) h.0 left (subst (λ i. IsAmong left (standing_for it run inner i one)) same l))
          (all_left_among (λ left_runs left_tree. Agrees it left_runs first left_tree) (standing_for it other_run other_inner m other) k.0 right (subst (λ i. IsAmong right (standing_for it other_run other_inner i other)) same r))
      same_passed scene e m (q ∷ qs) (more_trees first rest) arguments typed expression run other_run inner other_inner one other h k (suc i) p f n at left right l r =
          same_passed scene e (suc m) qs rest arguments.1 typed.1 (and_right (is_expression first) _ expression) run other_run inner other_inner one other h.1 k.1 i p f n (omega (arith, at)) left right l r
