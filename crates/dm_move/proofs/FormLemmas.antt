-- Steps of nodes by their forms in the code.
use Rattle.std.proofs.Common.{rules, ◌≡◌, ℕ, suc, ◌≤◌, Bool, true, false, not, ◌&&◌, List, [], ◌∷◌, ◌++◌, length, map, IsTrue, pos, refl, sym, ap, subst, ◌∙◌, arith}
use Rattle.std.proofs.lemmas.Bool.{and_parts}
use Rattle.std.proofs.lemmas.List.{length-map}
use Rattle.dm_token.specs.declared.place.Place.{Place}
use Rattle.dm_type.specs.CTypes.{CType}
use Rattle.dm_type.specs.Layouts.{size_of}
use Rattle.dm_type.specs.Tables.{Table, type_of}
use Rattle.dm_tree.specs.declared.tree.Core.{Core, out-Core}
use Rattle.dm_tree.specs.declared.tree.Core as q
use Rattle.dm_tree.specs.declared.tree.Form.{Form}
use Rattle.dm_tree.specs.declared.tree.Form.TheVariants as form
use Rattle.dm_tree.specs.Trees as label
use Rattle.dm_tree.specs.Trees.{Label, both, either, choose, comma, call, sizeof_tree, trees, is_statement, label_of}
use Rattle.dm_tree.specs.TypeNumbers.{are_known, are_known_in_form}
use Rattle.dm_tree.specs.Views.{Opened, opened, opened_form, view, node_of}
use Rattle.dm_tree.proofs.ViewLemmas.{view-core, are_known-core, opened-Both, are_known-Both, opened-Either, are_known-Either, opened-Choose, are_known-Choose, opened-Comma, are_known-Comma, opened-Convert, opened-SizeofTree}
use Rattle.dm_meaning.specs.Expressions.{Move, goes, as_move, by_truth, both_chosen, either_chosen, operand_chosen, on_operand, going_on, call_step, function_named, form_step, kind_of_run, nth_run, value_of}
use Rattle.dm_meaning.specs.Operations.{World, Scene, Objects, of_value, truth_in, truth_of, operate, number_alone, enumerator_number, designated, object_named}
use Rattle.dm_meaning.specs.Operations as operations
use Rattle.dm_meaning.specs.Programs.{or_zero}
use Rattle.dm_meaning.specs.Running as running
use Rattle.dm_meaning.specs.Running.{Run, done, gives_truth, gives_value, Runs, Hole, begun, locks_in_all, open_of, only_first, nothing}
use Rattle.dm_meaning.specs.Values.{At}
use Rattle.dm_operate.specs.declared.evaluation.Operand.{Operand}
use Rattle.dm_operate.specs.Evaluations.{asks_names, view_of_operand}
use Rattle.dm_postfix.specs.Postfix.{Waiting as PostfixWaiting, node_of as waits_as, Evaluated, Slots, no_slots, operand, closed, arity}
use Rattle.dm_postfix.specs.Reductions.{as_operand, filled, step_at}
use Rattle.dm_postfix.proofs.BegunLemmas.{closed-begun}
use Rattle.dm_program.specs.Sources.{Source}
use Rattle.dm_expression.specs.declared.waiting.Doing.{Doing}
use Rattle.dm_expression.specs.declared.waiting.Doing.TheVariants.{Evaluates, GivesTruth, GivesValue}
use Rattle.dm_expression.specs.declared.waiting.Waiting.{Waiting}
use Rattle.dm_expression.specs.Waiting.{are_expressions, is_expression, view_of_waiting, waiting_of}
use Rattle.dm_expression.proofs.NodeLemmas.{filled-locks}
use Rattle.dm_expression.proofs.PutLemmas.{arity-open}
use Rattle.dm_expression.proofs.NodeLemmas as nodes
use Rattle.dm_move.specs.declared.step.Step.{Step}
use Rattle.dm_frame.specs.Tasks.{ExpressionFits}
use Rattle.dm_move.specs.Steps.{locks_all, scene_with, view_of_step, AreOperands, IsFormStep, IsStep}
use Rattle.dm_move.specs.Ways.{is_operated, slots_in, IsOperated}
use Rattle.dm_move.proofs.SettleLemmas.{waits-truth, waits-value}

-- ---- nodes of the code

pub step-form : (table : Table) (core : Core) (scene : Scene) (world : World) (held : List At) (own : List Evaluated)
    → step_at scene world held (waiting_of Evaluates (view table core)) own
    ≡ form_step scene world held (opened_form table (out-Core core).form).label (type_of table (out-Core core).kind) (out-Core core).place
    (filled (slots_in (opened_form table (out-Core core).form)) own) (map as_operand own)
step-form table core scene world held own = ap (λ tree. step_at scene world held (waiting_of Evaluates tree) own) (view-core table core)

pub slots-form : (table : Table) (core : Core) → (waiting_of Evaluates (view table core)).slots ≡ slots_in (opened_form table (out-Core core).form)
slots-form table core = ap (λ tree. (waiting_of Evaluates tree).slots) (view-core table core)

-- ---- parts

none-more : (n : ℕ) → 0 ≡ suc n → ⊥
none-more n e = omega (arith, e)

-- the second part, where the first alone is evaluated
pub second-part : (slots rest : Slots) (run : Run) (own : List Evaluated) → slots ≡ operand (closed run rest) → length own ≡ arity slots → nth_run 1 (filled slots own) ≡ run
second-part slots rest run [] is size = absurd (none-more (arity rest) (size ∙ ap arity is))
second-part slots rest run (one ∷ own) is size = ap (λ s. nth_run 1 (filled s (one ∷ own))) is

pub third-part : (slots rest : Slots) (second run : Run) (own : List Evaluated) → slots ≡ operand (closed second (closed run rest)) → length own ≡ arity slots → nth_run 2 (filled slots own) ≡ run
third-part slots rest second run [] is size = absurd (none-more (arity rest) (size ∙ ap arity is))
third-part slots rest second run (one ∷ own) is size = ap (λ s. nth_run 2 (filled s (one ∷ own))) is

none-own : (own : List Evaluated) → length own ≡ 0 → own ≡ []
none-own [] e = refl
none-own (one ∷ own) e = absurd (none-more (length own) (sym e))

-- a node's own locks are those of its operands
pub own-locks : (one : Opened) (own : List Evaluated) → length own ≡ arity (slots_in one) → locks_in_all (filled (slots_in one) own) ≡ nodes.locks_all own
own-locks one own size = filled-locks (slots_in one) own (closed-begun (open_of one.label) (trees one.parts)) (sym size)

same-locks : (own : List Evaluated) → nodes.locks_all own ≡ locks_all own
same-locks [] = refl
same-locks (one ∷ own) = ap (λ rest. one.locks ++ rest) (same-locks own)

-- ---- the step of each form

module _ (table : Table) (scene : Scene) (world : World) (held : List At) (kind : CType) (place : Place) (results : List Operand) (own : List Evaluated) where
  abbrev pub parts-of : Form → Runs
  parts-of f = filled (slots_in (opened_form table f)) own

  abbrev pub step-of : Form → Move Run Hole
  step-of f = form_step scene world held (opened_form table f).label kind place (parts-of f) (map as_operand own)

  -- by a truth of the only operand
  abbrev on-truth : (Bool → Run) → List operations.Operand → Move Run Hole
  on-truth next operands = on_operand place operands (λ a. by_truth world place (truth_of world.memory (value_of a.result)) next)

  abbrev seen-results : List operations.Operand
  seen-results = map (view_of_operand table) results

  pub step-both : (f : Form) (a b : Core) → f ≡ form.Both a b → AreOperands table results (slots_in (opened_form table f)) own
      → on-truth (both_chosen kind place (parts-of f)) seen-results ≡ step-of f
  step-both f a b is are =
      ap (on-truth (both_chosen kind place (parts-of f))) (sym are.same)
      ∙ ap (λ (one : Opened). form_step scene world held one.label kind place (parts-of f) (map as_operand own)) (sym (ap (opened_form table) is ∙ opened-Both table a b))

  pub second-both : (f : Form) (a b : Core) → f ≡ form.Both a b → AreOperands table results (slots_in (opened_form table f)) own → nth_run 1 (parts-of f) ≡ begun (view table b)
  second-both f a b is are = second-part (slots_in (opened_form table f)) no_slots (begun (view table b)) own (ap slots_in (ap (opened_form table) is ∙ opened-Both table a b)) are.all

  pub step-either : (f : Form) (a b : Core) → f ≡ form.Either a b → AreOperands table results (slots_in (opened_form table f)) own
      → on-truth (either_chosen kind place (parts-of f)) seen-results ≡ step-of f
  step-either f a b is are =
      ap (on-truth (either_chosen kind place (parts-of f))) (sym are.same)
      ∙ ap (λ (one : Opened). form_step scene world held one.label kind place (parts-of f) (map as_operand own)) (sym (ap (opened_form table) is ∙ opened-Either table a b))

  pub second-either : (f : Form) (a b : Core) → f ≡ form.Either a b → AreOperands table results (slots_in (opened_form table f)) own → nth_run 1 (parts-of f) ≡ begun (view table b)
  second-either f a b is are = second-part (slots_in (opened_form table f)) no_slots (begun (view table b)) own (ap slots_in (ap (opened_form table) is ∙ opened-Either table a b)) are.all

  pub step-choose : (f : Form) (a b c : Core) → f ≡ form.Choose a b c → AreOperands table results (slots_in (opened_form table f)) own
      → on-truth (operand_chosen kind place (parts-of f)) seen-results ≡ step-of f
  step-choose f a b c is are =
      ap (on-truth (operand_chosen kind place (parts-of f))) (sym are.same)
      ∙ ap (λ (one : Opened). form_step scene world held one.label kind place (parts-of f) (map as_operand own)) (sym (ap (opened_form table) is ∙ opened-Choose table a b c))

  pub second-choose : (f : Form) (a b c : Core) → f ≡ form.Choose a b c → AreOperands table results (slots_in (opened_form table f)) own → nth_run 1 (parts-of f) ≡ begun (view table b)
  second-choose f a b c is are =
      second-part (slots_in (opened_form table f)) (closed (begun (view table c)) no_slots) (begun (view table b)) own (ap slots_in (ap (opened_form table) is ∙ opened-Choose table a b c)) are.all

  pub third-choose : (f : Form) (a b c : Core) → f ≡ form.Choose a b c → AreOperands table results (slots_in (opened_form table f)) own → nth_run 2 (parts-of f) ≡ begun (view table c)
  third-choose f a b c is are =
      third-part (slots_in (opened_form table f)) no_slots (begun (view table b)) (begun (view table c)) own (ap slots_in (ap (opened_form table) is ∙ opened-Choose table a b c)) are.all

  pub step-comma : (f : Form) (a b : Core) → f ≡ form.Comma a b → AreOperands table results (slots_in (opened_form table f)) own
      → goes world (going_on running.gives_value kind place (begun (view table b))) ≡ step-of f
  step-comma f a b is are =
      let e = ap (opened_form table) is ∙ opened-Comma table a b in
      ap (λ run. goes world (going_on running.gives_value kind place run)) (sym (second-part (slots_in (opened_form table f)) no_slots (begun (view table b)) own (ap slots_in e) are.all))
      ∙ ap (λ (one : Opened). form_step scene world held one.label kind place (parts-of f) (map as_operand own)) (sym e)

  opened-Call : (a : Core) (arguments : List Core) → opened_form table (form.Call a arguments) ≡ opened label.call (view table a ∷ map (view table) arguments)
  opened-Call a arguments = search (rules, q.the_lemmas)

  pub step-call : (f : Form) (a : Core) (arguments : List Core) → f ≡ form.Call a arguments → AreOperands table results (slots_in (opened_form table f)) own
      → call_step scene world kind place (map (λ x. value_of x.result) seen-results) (function_named (begun (view table a))) ≡ step-of f
  step-call f a arguments is are =
      let e = ap (opened_form table) is ∙ opened-Call a arguments in
      ap (λ (xs : List operations.Operand). call_step scene world kind place (map (λ x. value_of x.result) xs) (function_named (begun (view table a)))) (sym are.same)
      ∙ ap (λ (one : Opened). form_step scene world held one.label kind place (filled (slots_in one) own) (map as_operand own)) (sym e)

  kind-begun : (a : Core) → kind_of_run (begun (view table a)) ≡ type_of table (out-Core a).kind
  kind-begun a = ap (λ tree. kind_of_run (begun tree)) (view-core table a)

  pub step-measures : (f : Form) (a : Core) → f ≡ form.SizeofTree a → AreOperands table results (slots_in (opened_form table f)) own → scene.program.table ≡ table
      → as_move kind place (locks_all own) (number_alone world kind (pos (or_zero (size_of table (type_of table (out-Core a).kind))))) ≡ step-of f
  step-measures f a is are same =
      let e = ap (opened_form table) is ∙ opened-SizeofTree table a in
      let none = none-own own (are.all ∙ ap (λ (one : Opened). arity (slots_in one)) e) in
      ap (λ all. as_move kind place (locks_all all) (number_alone world kind (pos (or_zero (size_of table (type_of table (out-Core a).kind)))))) none
      ∙ (ap (λ type. as_move kind place [] (number_alone world kind (pos (or_zero (size_of table type))))) (sym (kind-begun a))
      ∙ (ap (λ t. as_move kind place [] (number_alone world kind (pos (or_zero (size_of t (kind_of_run (begun (view table a)))))))) (sym same)
      ∙ ap (λ (one : Opened). form_step scene world held one.label kind place (filled (slots_in one) own) (map as_operand own)) (sym e)))

  pub step-operated : (f : Form) → is_operated (opened_form table f).label ≡ true → AreOperands table results (slots_in (opened_form table f)) own
      → as_move kind place (locks_all own) (operate scene world held (opened_form table f).label kind seen-results) ≡ step-of f
  step-operated f is are =
      ap (λ (xs : List operations.Operand). as_move kind place (locks_all own) (operate scene world held (opened_form table f).label kind xs)) (sym are.same)
      ∙ (ap (λ locks. as_move kind place locks (operate scene world held (opened_form table f).label kind (map as_operand own)))
      (sym (own-locks (opened_form table f) own are.all ∙ same-locks own))
      ∙ sym (by-operator (opened_form table f).label is))
    where
      by-operator : (own_label : Label) → is_operated own_label ≡ true
          → form_step scene world held own_label kind place (parts-of f) (map as_operand own) ≡ as_move kind place (locks_in_all (parts-of f)) (operate scene world held own_label kind (map as_operand own))
      by-operator both is = absurd (cc)
      by-operator either is = absurd (cc)
      by-operator choose is = absurd (cc)
      by-operator comma is = absurd (cc)
      by-operator call is = absurd (cc)
      by-operator sizeof_tree is = absurd (cc)
      by-operator other is = refl

-- the operands of an operator
pub named-operated : (table : Table) (core : Core) → IsOperated (opened_form table (out-Core core).form) → asks_names (label_of (view table core)) ≡ false
named-operated table core is = ap (λ tree. asks_names (label_of tree)) (view-core table core) ∙ is.names

not-first : (a b : Bool) → IsTrue (not a && b) → a ≡ false
not-first true b h = absurd (cc)
not-first false b h = refl

pub few-operands : (table : Table) (core : Core) (results : List Operand) (own : List Evaluated) → ExpressionFits table core → IsOperated (opened_form table (out-Core core).form)
    → AreOperands table results (slots_in (opened_form table (out-Core core).form)) own → length results ≤ 2
few-operands table core results own fits is are =
    let one = opened_form table (out-Core core).form in
    let expression = subst (λ tree. IsTrue (is_expression tree)) (view-core table core) (fits.1 table) in
    let few = is.few (not-first (is_statement one.label) (are_expressions (trees one.parts)) expression) in
    let a = sym (length-map own as_operand) ∙ (ap length are.same ∙ length-map results (view_of_operand table)) in
    let b = are.all in
    omega (arith, few, a, b)

-- ---- conversions, and sizeof of a type name, which have trees in the type name

pub operated-convert : (table : Table) (f : Form) (a : Core) (lengths : List Core) → f ≡ form.Convert a lengths → IsOperated (opened_form table f)
operated-convert table f a lengths is =
    let one = view table a ∷ map (view table) lengths in
    let few = arity-open only_first one in
    subst IsOperated (sym (ap (opened_form table) is ∙ opened-Convert table a lengths)) (record { operates = refl; names = refl; few = λ h. omega (arith, few) })

opened-SizeofKind : (table : Table) (type : ℕ) (lengths : List Core) → opened_form table (form.SizeofKind type lengths) ≡ opened (label.sizeof_kind (type_of table type)) (map (view table) lengths)
opened-SizeofKind table type lengths = search (rules, q.the_lemmas)

pub operated-sizeof_kind : (table : Table) (f : Form) (type : ℕ) (lengths : List Core) → f ≡ form.SizeofKind type lengths → IsOperated (opened_form table f)
operated-sizeof_kind table f type lengths is =
    let few = arity-open nothing (map (view table) lengths) in
    subst IsOperated (sym (ap (opened_form table) is ∙ opened-SizeofKind table type lengths)) (record { operates = refl; names = refl; few = λ h. omega (arith, few) })

-- ---- names

module _ (table : Table) (scene : Scene) (world : World) (held : List At) (kind : CType) (place : Place) (results : List Operand) (own : List Evaluated) (f : Form) (d : ℕ)
    (are : AreOperands table results (slots_in (opened_form table f)) own) where
  named-as : (own_label : Label) → opened_form table f ≡ opened own_label [] → is_operated own_label ≡ true
      → as_move kind place (locks_all own) (operate scene world held own_label kind (map (view_of_operand table) results))
      ≡ form_step scene world held (opened_form table f).label kind place (filled (slots_in (opened_form table f)) own) (map as_operand own)
  named-as own_label is operated =
      ap (λ (one : Opened). as_move kind place (locks_all own) (operate scene world held one.label kind (map (view_of_operand table) results))) (sym is)
      ∙ step-operated table scene world held kind place results own f (ap (λ (one : Opened). is_operated one.label) is ∙ operated) are

  opened-Enumerator : opened_form table (form.Enumerator d) ≡ opened (label.enumerator d) []
  opened-Enumerator = search (rules, q.the_lemmas)

  opened-Object : opened_form table (form.Object d) ≡ opened (label.object d) []
  opened-Object = search (rules, q.the_lemmas)

  pub enumerator-named : f ≡ form.Enumerator d → as_move kind place (locks_all own) (number_alone world kind (enumerator_number scene.program d))
      ≡ form_step scene world held (opened_form table f).label kind place (filled (slots_in (opened_form table f)) own) (map as_operand own)
  enumerator-named is = named-as (label.enumerator d) (ap (opened_form table) is ∙ opened-Enumerator) refl

  pub object-named : f ≡ form.Object d → as_move kind place (locks_all own) (designated world (object_named scene.objects d))
      ≡ form_step scene world held (opened_form table f).label kind place (filled (slots_in (opened_form table f)) own) (map as_operand own)
  object-named is = named-as (label.object d) (ap (opened_form table) is ∙ opened-Object) refl

-- ---- operands that are evaluated next fit

known-form : (n : ℕ) (core : Core) → IsTrue (are_known n core) → IsTrue (are_known_in_form n (out-Core core).form)
known-form n core h = (and_parts _ _ (sym (are_known-core n core) ∙ h)).1

expression-form : (types : Table) (core : Core) (one : Opened) → opened_form types (out-Core core).form ≡ one → IsTrue (is_expression (view types core))
    → IsTrue (is_expression (node_of one (type_of types (out-Core core).kind) (out-Core core).inner (out-Core core).outer (out-Core core).place))
expression-form types core one is h =
    subst (λ (one : Opened). IsTrue (is_expression (node_of one (type_of types (out-Core core).kind) (out-Core core).inner (out-Core core).outer (out-Core core).place))) is
    (subst (λ tree. IsTrue (is_expression tree)) (view-core types core) h)

module _ (table : Table) (core : Core) (fits : ExpressionFits table core) where
  pub fits-both : (a b : Core) → (out-Core core).form ≡ form.Both a b → ExpressionFits table b
  fits-both a b is =
      let n = length table.shapes in (
        (and_parts _ _ (sym (are_known-Both n a b) ∙ (ap (are_known_in_form n) (sym is) ∙ known-form n core fits.0))).1,
        λ types. (and_parts _ _ (and_parts _ _ (expression-form types core _ (ap (opened_form types) is ∙ opened-Both types a b) (fits.1 types))).1).0,
      )

  pub fits-either : (a b : Core) → (out-Core core).form ≡ form.Either a b → ExpressionFits table b
  fits-either a b is =
      let n = length table.shapes in (
        (and_parts _ _ (sym (are_known-Either n a b) ∙ (ap (are_known_in_form n) (sym is) ∙ known-form n core fits.0))).1,
        λ types. (and_parts _ _ (and_parts _ _ (expression-form types core _ (ap (opened_form types) is ∙ opened-Either types a b) (fits.1 types))).1).0,
      )

  pub fits-comma : (a b : Core) → (out-Core core).form ≡ form.Comma a b → ExpressionFits table b
  fits-comma a b is =
      let n = length table.shapes in (
        (and_parts _ _ (sym (are_known-Comma n a b) ∙ (ap (are_known_in_form n) (sym is) ∙ known-form n core fits.0))).1,
        λ types. (and_parts _ _ (and_parts _ _ (expression-form types core _ (ap (opened_form types) is ∙ opened-Comma types a b) (fits.1 types))).1).0,
      )

  pub fits-choose : (a b c : Core) → (out-Core core).form ≡ form.Choose a b c → ExpressionFits table b × ExpressionFits table c
  fits-choose a b c is =
      let n = length table.shapes in
      let known = and_parts _ _ (and_parts _ _ (sym (are_known-Choose n a b c) ∙ (ap (are_known_in_form n) (sym is) ∙ known-form n core fits.0))).1 in
      let expressions = λ (types : Table). and_parts _ _ (and_parts _ _ (expression-form types core _ (ap (opened_form types) is ∙ opened-Choose types a b c) (fits.1 types))).1 in (
        (known.0, λ types. (expressions types).0),
        (known.1, λ types. (and_parts _ _ (expressions types).1).0),
      )

-- the type of the operand of sizeof
pub known-measures : (n : ℕ) (core a : Core) → (out-Core core).form ≡ form.SizeofTree a → IsTrue (are_known n core) → IsTrue (are_known n a)
known-measures n core a is h = sym (known-SizeofTree n a) ∙ (ap (are_known_in_form n) (sym is) ∙ known-form n core h)
  where
    known-SizeofTree : (n : ℕ) (a : Core) → are_known_in_form n (form.SizeofTree a) ≡ are_known n a
    known-SizeofTree n a = search (rules, q.the_lemmas)

-- ---- the step of a node that waits

-- where it is evaluated as its form says
pub step-evaluates : (source : Source) (statics objects : Objects) (held : List At) (node : Waiting) (results : List Operand) (before after : World) (step : Step) → node.doing ≡ Evaluates
    → IsFormStep source statics objects held node.node.now results before after step → IsStep source statics objects held node results before after step
step-evaluates source statics objects held node results before after step is h =
    subst (λ (doing : Doing). (own : List Evaluated) → AreOperands source.table results (waiting_of doing (view source.table node.node.now)).slots own
    → view_of_step source.table (type_of source.table (out-Core node.node.now).kind) (out-Core node.node.now).place (locks_all own) after step
    ≡ step_at (scene_with source statics objects) before held (waiting_of doing (view source.table node.node.now)) own) (sym is)
    (λ own are. h own (record { same = are.same; all = are.all ∙ ap arity (slots-form source.table node.node.now) })
    ∙ sym (step-form source.table node.node.now (scene_with source statics objects) before held own))

-- one operand
abbrev one_slot : Slots
one_slot = operand no_slots

truth-of-own : (scene : Scene) (world : World) (held : List At) (kind : CType) (place : Place) (own : List Evaluated) → length own ≡ 1
    → on_operand place (map as_operand own) (λ a. by_truth world place (truth_of world.memory (value_of a.result)) (λ truth. done kind (of_value (truth_in kind truth)) (locks_all own)))
    ≡ step_at scene world held (waits_as gives_truth kind place one_slot) own
truth-of-own scene world held kind place [] size = absurd (omega (arith, size))
truth-of-own scene world held kind place (one ∷ []) size = refl
truth-of-own scene world held kind place (one ∷ other ∷ own) size = absurd (omega (arith, size))

value-of-own : (scene : Scene) (world : World) (held : List At) (kind : CType) (place : Place) (own : List Evaluated) → length own ≡ 1
    → on_operand place (map as_operand own) (λ a. goes world (done kind a.result (locks_all own))) ≡ step_at scene world held (waits_as gives_value kind place one_slot) own
value-of-own scene world held kind place [] size = absurd (omega (arith, size))
value-of-own scene world held kind place (one ∷ []) size = refl
value-of-own scene world held kind place (one ∷ other ∷ own) size = absurd (omega (arith, size))

module _ (source : Source) (statics objects : Objects) (held : List At) (node : Waiting) (results : List Operand) (before after : World) (step : Step) where
  abbrev kind-of-node : CType
  kind-of-node = type_of source.table (out-Core node.node.now).kind

  abbrev place-of-node : Place
  place-of-node = (out-Core node.node.now).place

  -- the step of a node that waits so
  as-waiting : (waiting : PostfixWaiting) → view_of_waiting source.table node ≡ waiting
      → ((own : List Evaluated) → AreOperands source.table results waiting.slots own
      → view_of_step source.table kind-of-node place-of-node (locks_all own) after step ≡ step_at (scene_with source statics objects) before held waiting own)
      → IsStep source statics objects held node results before after step
  as-waiting waiting is h =
      subst (λ (waiting : PostfixWaiting). (own : List Evaluated) → AreOperands source.table results waiting.slots own
      → view_of_step source.table kind-of-node place-of-node (locks_all own) after step ≡ step_at (scene_with source statics objects) before held waiting own) (sym is) h

  pub step-truth : node.doing ≡ GivesTruth
      → ((own : List Evaluated) → view_of_step source.table kind-of-node place-of-node (locks_all own) after step
      ≡ on_operand place-of-node (map (view_of_operand source.table) results) (λ a. by_truth before place-of-node (truth_of before.memory (value_of a.result)) (λ truth. done kind-of-node (of_value (truth_in kind-of-node truth)) (locks_all own))))
      → IsStep source statics objects held node results before after step
  step-truth is h =
      as-waiting (waits_as gives_truth kind-of-node place-of-node one_slot)
      (ap (λ (doing : Doing). waiting_of doing (view source.table node.node.now)) is ∙ waits-truth source.table node.node.now)
      (λ own are. h own
      ∙ (ap (λ (xs : List operations.Operand). on_operand place-of-node xs (λ a. by_truth before place-of-node (truth_of before.memory (value_of a.result)) (λ truth. done kind-of-node (of_value (truth_in kind-of-node truth)) (locks_all own)))) (sym are.same)
      ∙ truth-of-own (scene_with source statics objects) before held kind-of-node place-of-node own are.all))

  pub step-value : node.doing ≡ GivesValue
      → ((own : List Evaluated) → view_of_step source.table kind-of-node place-of-node (locks_all own) after step
      ≡ on_operand place-of-node (map (view_of_operand source.table) results) (λ a. goes before (done kind-of-node a.result (locks_all own))))
      → IsStep source statics objects held node results before after step
  step-value is h =
      as-waiting (waits_as gives_value kind-of-node place-of-node one_slot)
      (ap (λ (doing : Doing). waiting_of doing (view source.table node.node.now)) is ∙ waits-value source.table node.node.now)
      (λ own are. h own
      ∙ (ap (λ (xs : List operations.Operand). on_operand place-of-node xs (λ a. goes before (done kind-of-node a.result (locks_all own)))) (sym are.same)
      ∙ value-of-own (scene_with source statics objects) before held kind-of-node place-of-node own are.all))
