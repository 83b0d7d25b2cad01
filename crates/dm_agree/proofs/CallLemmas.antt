-- Calls of the added function, and what they pass.
use Rattle.std.proofs.Common.{rules, ◌≡◌, ◌↔◌, ◌<◌, ◌≤◌, ℕ, zero, suc, IsTrue, List, [], ◌∷◌, length, map, drop, get_or, drop-cons, Some, None, slice_get, refl, sym, ap, ◌∙◌, subst, arith}
use Rattle.std.proofs.lemmas.Bool.{and_parts}
use denote.Param.Weighed.{most}
use Rattle.dm_runs.specs.declared.run.Run.{Run}
use Rattle.dm_type.specs.Tables.{Table}
use Rattle.dm_tree.specs.declared.tree.Core.{Core, out-Core, size-Core}
use Rattle.dm_tree.specs.declared.tree.Core as q
use Rattle.dm_tree.specs.declared.tree.Form.TheVariants as form
use Rattle.dm_tree.specs.Trees as label
use Rattle.dm_tree.specs.Trees.{Tree, Trees, more_trees, label_of, kind_of, trees_of, trees}
use Rattle.dm_tree.specs.TypeNumbers.{are_known}
use Rattle.dm_tree.specs.Views.{Opened, opened, opened_form, view}
use Rattle.dm_tree.proofs.ViewLemmas.{view-core}
use Rattle.dm_effect.specs.Entities.{function_first}
use Rattle.dm_agree.specs.declared.body.Argument.{Argument as CodeArgument}
use Rattle.dm_agree.specs.Agreement.{Rewriting, here_at, IsCallOf, Passes, PassesFrom, SameBody}
use Rattle.dm_agree.specs.Arguments.{Argument, AllPassed, Passed, seen_all, seen, trees_in}
use Rattle.dm_agree.specs.Index.{first_parameter}
use Rattle.dm_agree.specs.Parts.{are_all_known}
use Rattle.dm_agree.proofs.AgreeLemmas.{trees-seen}
use Rattle.dm_agree.proofs.ArgumentLemmas.{argument-there, arguments-pass}
use Rattle.dm_agree.proofs.StepLemmas.{itself, through}

-- ---- a call

opened-Call : (types : Table) (named : Core) (arguments : List Core) → opened_form types (form.Call named arguments) ≡ opened label.call (view types named ∷ map (view types) arguments)
opened-Call types named arguments = search (rules, q.the_lemmas)

call-label : (types : Table) (core named : Core) (arguments : List Core) → (out-Core core).form ≡ form.Call named arguments → label_of (view types core) ≡ label.call
call-label types core named arguments is = ap label_of (view-core types core) ∙ ap (λ (o : Opened). o.label) (ap (opened_form types) is ∙ opened-Call types named arguments)

call-parts : (types : Table) (core named : Core) (arguments : List Core) → (out-Core core).form ≡ form.Call named arguments
    → trees_of (view types core) ≡ more_trees (view types named) (trees (map (view types) arguments))
call-parts types core named arguments is = trees-seen types core ∙ ap (λ (o : Opened). trees o.parts) (ap (opened_form types) is ∙ opened-Call types named arguments)

-- a call, by the function and what stands behind its name
pub at-call : (it : Rewriting) (f : ℕ) (parameters : List ℕ) (body : Tree) (run : Run) (inner : List Run) (other : Tree) (types : Table) (core named : Core) (arguments : List Core)
    → (out-Core core).form ≡ form.Call named arguments
    → ((function_first (more_trees (view types named) (trees (map (view types) arguments))) ≡ Some f)
    × ((kind_of (view types core) ≡ kind_of other) × (SameBody it parameters run (here_at run inner other) body other × PassesFrom it 0 (trees (map (view types) arguments)) run inner other)))
    ↔ (IsCallOf it f parameters body run inner (label_of (view types core)) (kind_of (view types core)) (trees_of (view types core)) other × Passes it (trees_of (view types core)) run inner other)
at-call it f parameters body run inner other types core named arguments is =
    let parts = call-parts types core named arguments is in (
      λ all. (
        (call-label types core named arguments is, all.1.0, subst (λ (one : Trees). function_first one ≡ Some f) (sym parts) all.0, all.1.1.0),
        subst (λ (one : Trees). Passes it one run inner other) (sym parts) all.1.1.1,
      ),
      λ whole. (subst (λ (one : Trees). function_first one ≡ Some f) parts whole.0.2, (whole.0.1, (whole.0.3, subst (λ (one : Trees). Passes it one run inner other) parts whole.1))),
    )

-- ---- arguments

pub argument-known : (n : ℕ) (arguments : List Core) (p : ℕ) (one : Core) → slice_get arguments p ≡ Some one → IsTrue (are_all_known n arguments) → IsTrue (are_known n one)
argument-known n [] p one is known = absurd (cc)
argument-known n (first ∷ rest) zero one is known =
    let same : first ≡ one = cc in
    ap (are_known n) (sym same) ∙ (and_parts (are_known n first) (are_all_known n rest) known).0
argument-known n (first ∷ rest) (suc p) one is known = argument-known n rest p one is (and_parts (are_known n first) (are_all_known n rest) known).1

pub argument-size : (arguments : List Core) (p : ℕ) (one : Core) → slice_get arguments p ≡ Some one → size-Core one ≤ most size-Core arguments
argument-size [] p one is = absurd (cc)
argument-size (first ∷ rest) zero one is =
    let same : first ≡ one = cc in
    let size = ap size-Core same in
    omega (arith, size)
argument-size (first ∷ rest) (suc p) one is = let below = argument-size rest p one is in omega (arith, below)

pub argument-seen : (types : Table) (arguments : List Core) (p : ℕ) (one : Core) → slice_get arguments p ≡ Some one → slice_get (map (view types) arguments) p ≡ Some (view types one)
argument-seen types [] p one is = absurd (cc)
argument-seen types (first ∷ rest) zero one is =
    let same : first ≡ one = cc in
    ap (λ (core : Core). Some (view types core)) same
argument-seen types (first ∷ rest) (suc p) one is = argument-seen types rest p one is

pub no-argument-seen : (types : Table) (arguments : List Core) (p : ℕ) → slice_get arguments p ≡ None → slice_get (map (view types) arguments) p ≡ None
no-argument-seen types [] p is = refl
no-argument-seen types (first ∷ rest) zero is = absurd (cc)
no-argument-seen types (first ∷ rest) (suc p) is = no-argument-seen types rest p is

-- where an occurrence has the whole tree of the run
pub one-argument : (it : Rewriting) (run : Run) (inner : List Run) (other : Tree) (arguments : List Tree) (p : ℕ) → first_parameter (here_at run inner other).occurrences ≡ Some p
    → Passed it (slice_get arguments p) (record { runs = inner; tree = other }) ↔ PassesFrom it 0 (trees arguments) run inner other
one-argument it run inner other arguments p is =
    through (λ passed. (passed, tt), λ all. all.0)
    (subst (λ (found : List Argument). AllPassed it arguments found ↔ PassesFrom it 0 (trees arguments) run inner other) (argument-there it run (here_at run inner other) other p is)
    (arguments-pass it run inner other arguments))

-- one of those that were found
pub next-passed : (it : Rewriting) (arguments : List Tree) (types : Table) (found : List CodeArgument) (i : ℕ) (one : CodeArgument) → i < length found → one ≡ get_or found i one
    → (Passed it (slice_get arguments one.parameter) (seen types one).left × AllPassed it arguments (seen_all types (drop (suc i) found))) ↔ AllPassed it arguments (seen_all types (drop i found))
next-passed it arguments types found i one lt is =
    let cut : drop i found ≡ one ∷ drop (suc i) found = drop-cons found i one lt ∙ ap (λ (first : CodeArgument). first ∷ drop (suc i) found) (sym is) in
    let both : Type 0 = Passed it (slice_get arguments one.parameter) (seen types one).left × AllPassed it arguments (seen_all types (drop (suc i) found)) in
    subst (λ (left : List CodeArgument). both ↔ AllPassed it arguments (seen_all types left)) (sym cut) itself

pub found-known : (n : ℕ) (found : List CodeArgument) (i : ℕ) (one : CodeArgument) → i < length found → one ≡ get_or found i one → IsTrue (are_all_known n (trees_in found)) → IsTrue (are_known n one.tree.now)
found-known n [] i one lt is known = absurd (omega arith)
found-known n (first ∷ rest) zero one lt is known = ap (λ (a : CodeArgument). are_known n a.tree.now) is ∙ (and_parts (are_known n first.tree.now) (are_all_known n (trees_in rest)) known).0
found-known n (first ∷ rest) (suc i) one lt is known = found-known n rest i one (omega arith) is (and_parts (are_known n first.tree.now) (are_all_known n (trees_in rest)) known).1
