-- What agreement of two trees comes to, by the runs that stand there.
use Rattle.std.proofs.Common.{rules, ◌≡◌, ◌↔◌, ◌<◌, ◌≤◌, ◌&&◌, ℕ, Bool, zero, suc, IsTrue, List, [], ◌∷◌, ◌++◌, length, map, drop, get_or, drop-cons, Some, Bor, ℤ, refl, sym, ap, ◌∙◌, subst, arith}
use Rattle.std.proofs.lemmas.Bool.{and_parts}
use denote.Param.Weighed.{most}
use Rattle.dm_runs.specs.declared.run.Run.{Run}
use Rattle.dm_type.specs.Tables.{Table}
use Rattle.dm_tree.specs.declared.tree.Core.{Core, out-Core, size-Core}
use Rattle.dm_tree.specs.declared.tree.Core as q
use Rattle.dm_tree.specs.declared.tree.Form.{size-Form}
use Rattle.dm_tree.specs.declared.tree.Form.TheVariants as form
use Rattle.dm_tree.specs.Trees as label
use Rattle.dm_tree.specs.Trees.{Label, Spans, Tree, Trees, node, no_trees, more_trees, label_of, kind_of, spans_of, trees_of, trees}
use Rattle.dm_tree.specs.TypeNumbers.{are_known}
use Rattle.dm_tree.specs.Views.{Opened, opened, opened_form, view}
use Rattle.dm_tree.proofs.ViewLemmas.{view-core, opened-Comma}
use Rattle.dm_agree.specs.Agreement.{Rewriting, Added, nothing, added_function, added_enumerator, added_constant, SameNode, IsReadOf, IsCallOf, AtRun, Agrees, AllAgree, Passes}
use Rattle.dm_agree.specs.Parts.{nows, are_all_known}
use Rattle.dm_agree.specs.Runs.{runs_in}
use Rattle.dm_agree.specs.Standing.{runs_below}
use Rattle.dm_agree.proofs.StepLemmas.{itself}

-- ---- where no run stands

pub apart-runs : (it : Rewriting) (new other : Tree)
    → (SameNode it (label_of new) (kind_of new) other × AllAgree it (label_of other) (spans_of other) (trees_of new) (trees_of other)) ↔ Agrees it [] new other
apart-runs it (node label kind spans parts) other = itself

-- ---- where one does

at-run : (it : Rewriting) (added : Added) → it.added ≡ added → (run : Run) (inner : List Run) (new other : Tree)
    → AtRun it added run inner (label_of new) (kind_of new) (trees_of new) other (Passes it (trees_of new) run inner other) ↔ Agrees it (run ∷ inner) new other
at-run it added is run inner (node label kind spans parts) other =
    subst (λ (one : Added). AtRun it one run inner label kind parts other (Passes it parts run inner other) ↔ Agrees it (run ∷ inner) (node label kind spans parts) other) is itself

pub at-nothing : (it : Rewriting) → it.added ≡ nothing → (run : Run) (inner : List Run) (new other : Tree) → Agrees it (run ∷ inner) new other → ⊥
at-nothing it is run inner new other agrees = (at-run it nothing is run inner new other).1 agrees

pub at-function : (it : Rewriting) (f : ℕ) (parameters : List ℕ) (body : Tree) → it.added ≡ added_function f parameters body → (run : Run) (inner : List Run) (new other : Tree)
    → (IsCallOf it f parameters body run inner (label_of new) (kind_of new) (trees_of new) other × Passes it (trees_of new) run inner other) ↔ Agrees it (run ∷ inner) new other
at-function it f parameters body is run inner new other = at-run it (added_function f parameters body) is run inner new other

pub at-enumerator : (it : Rewriting) (d : ℕ) (value : ℤ) → it.added ≡ added_enumerator d value → (run : Run) (inner : List Run) (new other : Tree)
    → ((label_of new ≡ label.enumerator d) × (kind_of new ≡ kind_of other) × (trees_of new ≡ no_trees) × (it.value other ≡ Some value)) ↔ Agrees it (run ∷ inner) new other
at-enumerator it d value is run inner new other = at-run it (added_enumerator d value) is run inner new other

pub at-constant : (it : Rewriting) (d : ℕ) (value : ℤ) → it.added ≡ added_constant d value → (run : Run) (inner : List Run) (new other : Tree)
    → (IsReadOf (Some d) (label_of new) (kind_of new) (trees_of new) other × (it.value other ≡ Some value)) ↔ Agrees it (run ∷ inner) new other
at-constant it d value is run inner new other = at-run it (added_constant d value) is run inner new other

-- ---- trees of the code

pub trees-seen : (types : Table) (core : Core) → trees_of (view types core) ≡ trees (opened_form types (out-Core core).form).parts
trees-seen types core = ap trees_of (view-core types core)

-- the parts of a node
pub seen-parts : (types : Table) (core : Core) (refs items : List (Bor Core)) → refs ≡ items → map (view types) (nows items) ≡ (opened_form types (out-Core core).form).parts
    → trees (map (view types) (nows refs)) ≡ trees_of (view types core)
seen-parts types core refs items same is = ap (λ (parts : List (Bor Core)). trees (map (view types) (nows parts))) same ∙ (ap trees is ∙ sym (trees-seen types core))

opened-Read : (types : Table) (a : Core) → opened_form types (form.Read a) ≡ opened label.read (view types a ∷ [])
opened-Read types a = search (rules, q.the_lemmas)

pub read-label : (types : Table) (core a : Core) → (out-Core core).form ≡ form.Read a → label_of (view types core) ≡ label.read
read-label types core a is = ap label_of (view-core types core) ∙ ap (λ (o : Opened). o.label) (ap (opened_form types) is ∙ opened-Read types a)

pub read-parts : (types : Table) (core a : Core) → (out-Core core).form ≡ form.Read a → trees_of (view types core) ≡ more_trees (view types a) no_trees
read-parts types core a is = trees-seen types core ∙ ap (λ (o : Opened). trees o.parts) (ap (opened_form types) is ∙ opened-Read types a)

pub comma-parts : (types : Table) (core a b : Core) → (out-Core core).form ≡ form.Comma a b → trees_of (view types core) ≡ more_trees (view types a) (more_trees (view types b) no_trees)
comma-parts types core a b is = trees-seen types core ∙ ap (λ (o : Opened). trees o.parts) (ap (opened_form types) is ∙ opened-Comma types a b)

pub comma-sizes : (core a b : Core) → (out-Core core).form ≡ form.Comma a b → (size-Core a < size-Core core) × (size-Core b < size-Core core)
comma-sizes core a b is = (search (rules, q.the_lemmas), search (rules, q.the_lemmas))

-- ---- parts one by one

module _ (it : Rewriting) (label : Label) (spans : Spans) (new old : Table) where
  abbrev pub PartsAgree : List (Bor Core) → List (Bor Core) → Type 0
  PartsAgree parts others = AllAgree it label spans (trees (map (view new) (nows parts))) (trees (map (view old) (nows others)))

  pub counts-agree : (parts others : List (Bor Core)) → PartsAgree parts others → length parts ≡ length others
  counts-agree [] [] h = refl
  counts-agree [] (y ∷ ys) h = absurd h
  counts-agree (x ∷ xs) [] h = absurd h
  counts-agree (x ∷ xs) (y ∷ ys) h = ap suc (counts-agree xs ys h.1)

  pub next-part : (parts others : List (Bor Core)) (i : ℕ) (x y : Bor Core) → i < length parts → i < length others → x ≡ get_or parts i x → y ≡ get_or others i y
      → (Agrees it (runs_below it.runs label spans (view old y.now)) (view new x.now) (view old y.now) × PartsAgree (drop (suc i) parts) (drop (suc i) others))
      ↔ PartsAgree (drop i parts) (drop i others)
  next-part parts others i x y first second is_x is_y =
      let cut : drop i parts ≡ x ∷ drop (suc i) parts = drop-cons parts i x first ∙ ap (λ (one : Bor Core). one ∷ drop (suc i) parts) (sym is_x) in
      let other_cut : drop i others ≡ y ∷ drop (suc i) others = drop-cons others i y second ∙ ap (λ (one : Bor Core). one ∷ drop (suc i) others) (sym is_y) in
      let both : Type 0 = Agrees it (runs_below it.runs label spans (view old y.now)) (view new x.now) (view old y.now) × PartsAgree (drop (suc i) parts) (drop (suc i) others) in
      subst (λ (one : List (Bor Core)). both ↔ PartsAgree one (drop i others)) (sym cut)
      (subst (λ (one : List (Bor Core)). both ↔ PartsAgree (x ∷ drop (suc i) parts) one) (sym other_cut) itself)

  -- ---- the trees of lists one by one

  abbrev pub ListsAgree : List Core → List Core → Type 0
  ListsAgree list others = AllAgree it label spans (trees (map (view new) list)) (trees (map (view old) others))

  pub lengths-agree : (list others : List Core) → ListsAgree list others → length list ≡ length others
  lengths-agree [] [] h = refl
  lengths-agree [] (y ∷ ys) h = absurd h
  lengths-agree (x ∷ xs) [] h = absurd h
  lengths-agree (x ∷ xs) (y ∷ ys) h = ap suc (lengths-agree xs ys h.1)

  pub next-listed : (list others : List Core) (i : ℕ) (x y : Core) → i < length list → i < length others → x ≡ get_or list i x → y ≡ get_or others i y
      → (Agrees it (runs_below it.runs label spans (view old y)) (view new x) (view old y) × ListsAgree (drop (suc i) list) (drop (suc i) others))
      ↔ ListsAgree (drop i list) (drop i others)
  next-listed list others i x y first second is_x is_y =
      let cut : drop i list ≡ x ∷ drop (suc i) list = drop-cons list i x first ∙ ap (λ (one : Core). one ∷ drop (suc i) list) (sym is_x) in
      let other_cut : drop i others ≡ y ∷ drop (suc i) others = drop-cons others i y second ∙ ap (λ (one : Core). one ∷ drop (suc i) others) (sym is_y) in
      let both : Type 0 = Agrees it (runs_below it.runs label spans (view old y)) (view new x) (view old y) × ListsAgree (drop (suc i) list) (drop (suc i) others) in
      subst (λ (one : List Core). both ↔ ListsAgree one (drop i others)) (sym cut)
      (subst (λ (one : List Core). both ↔ ListsAgree (x ∷ drop (suc i) list) one) (sym other_cut) itself)

  -- of two lists and two behind them
  pub lists-together : (list behind others rest : List Core) → length list ≡ length others
      → (ListsAgree list others × ListsAgree behind rest) ↔ ListsAgree (list ++ behind) (others ++ rest)
  lists-together [] behind [] rest same = (λ both. both.1, λ all. (tt, all))
  lists-together [] behind (y ∷ ys) rest same = absurd (omega (arith, same))
  lists-together (x ∷ xs) behind [] rest same = absurd (omega (arith, same))
  lists-together (x ∷ xs) behind (y ∷ ys) rest same =
      let more = lists-together xs behind ys rest (omega (arith, same)) in
      (λ both. (both.0.0, more.0 (both.0.1, both.1)), λ all. let parts = more.1 all.1 in ((all.0, parts.0), parts.1))

pub known-listed : (n : ℕ) (list : List Core) (i : ℕ) (x : Core) → i < length list → x ≡ get_or list i x → IsTrue (are_all_known n list) → IsTrue (are_known n x)
known-listed n [] i x lt is h = absurd (omega arith)
known-listed n (y ∷ ys) zero x lt is h = ap (are_known n) is ∙ (and_parts (are_known n y) (are_all_known n ys) h).0
known-listed n (y ∷ ys) (suc i) x lt is h = known-listed n ys i x (omega arith) is (and_parts (are_known n y) (are_all_known n ys) h).1

pub size-listed : (list : List Core) (i : ℕ) (x : Core) → i < length list → x ≡ get_or list i x → size-Core x ≤ most size-Core list
size-listed [] i x lt is = absurd (omega arith)
size-listed (y ∷ ys) zero x lt is = let same = ap size-Core is in omega (arith, same)
size-listed (y ∷ ys) (suc i) x lt is = let below = size-listed ys i x (omega arith) is in omega (arith, below)

-- what is known of two lists together is known of each
pub known-together : (n : ℕ) (list behind : List Core) → IsTrue (are_all_known n (list ++ behind)) → IsTrue (are_all_known n list) × IsTrue (are_all_known n behind)
known-together n [] behind h = (refl, h)
known-together n (x ∷ xs) behind h =
    let both = and_parts (are_known n x) (are_all_known n (xs ++ behind)) h in
    let rest = known-together n xs behind both.1 in
    (and_joined (are_known n x) (are_all_known n xs) both.0 rest.0, rest.1)
  where
    and_joined : (a b : Bool) → IsTrue a → IsTrue b → IsTrue (a && b)
    and_joined a b first second = ap (λ one. one && b) first ∙ second

pub size-together : (list behind : List Core) → (most size-Core list ≤ most size-Core (list ++ behind)) × (most size-Core behind ≤ most size-Core (list ++ behind))
size-together [] behind = (omega arith, omega arith)
size-together (x ∷ xs) behind = let rest = size-together xs behind in let first = rest.0 in let second = rest.1 in (omega (arith, first), omega (arith, second))

pub known-get : (n : ℕ) (parts : List (Bor Core)) (i : ℕ) (x : Bor Core) → i < length parts → x ≡ get_or parts i x → IsTrue (are_all_known n (nows parts)) → IsTrue (are_known n x.now)
known-get n [] i x lt is h = absurd (omega arith)
known-get n (y ∷ ys) zero x lt is h = ap (λ (one : Bor Core). are_known n one.now) is ∙ (and_parts (are_known n y.now) (are_all_known n (nows ys)) h).0
known-get n (y ∷ ys) (suc i) x lt is h = known-get n ys i x (omega arith) is (and_parts (are_known n y.now) (are_all_known n (nows ys)) h).1

pub size-get : (parts : List (Bor Core)) (i : ℕ) (x : Bor Core) → i < length parts → x ≡ get_or parts i x → size-Core x.now ≤ most size-Core (nows parts)
size-get [] i x lt is = absurd (omega arith)
size-get (y ∷ ys) zero x lt is = let same = ap (λ (one : Bor Core). size-Core one.now) is in omega (arith, same)
size-get (y ∷ ys) (suc i) x lt is = let below = size-get ys i x (omega arith) is in omega (arith, below)

pub form-size : (core : Core) → size-Form (out-Core core).form < size-Core core
form-size core = search (rules, q.the_lemmas)

pub with-known : {P Q : Type 0} (test : Bool) → P → (IsTrue test ↔ Q) → IsTrue test ↔ (P × Q)
with-known test known says = (λ passed. (known, says.0 passed), λ both. says.1 both.1)

-- two nodes that are the same, by their operands
pub operands-agree : (it : Rewriting) (new old : Table) (core other : Core) (front behind others rest : List Core)
    → SameNode it (label_of (view new core)) (kind_of (view new core)) (view old other)
    → map (view new) (front ++ behind) ≡ (opened_form new (out-Core core).form).parts → map (view old) (others ++ rest) ≡ (opened_form old (out-Core other).form).parts
    → length front ≡ length others
    → (ListsAgree it (label_of (view old other)) (spans_of (view old other)) new old front others × ListsAgree it (label_of (view old other)) (spans_of (view old other)) new old behind rest)
    ↔ Agrees it [] (view new core) (view old other)
operands-agree it new old core other front behind others rest same_node is other_is same =
    let label = label_of (view old other) in
    let spans = spans_of (view old other) in
    let together = lists-together it label spans new old front behind others rest same in
    let whole = apart-runs it (view new core) (view old other) in
    let parts = ap trees is ∙ sym (trees-seen new core) in
    let other_parts = ap trees other_is ∙ sym (trees-seen old other) in
    let listed = trees (map (view new) (front ++ behind)) in (
      λ both. whole.0 (
        same_node,
        subst (λ (ts : Trees). AllAgree it label spans ts (trees_of (view old other))) parts
            (subst (λ (ts : Trees). AllAgree it label spans listed ts) other_parts (together.0 both)),
      ),
      λ agrees. together.1 (subst (λ (ts : Trees). AllAgree it label spans listed ts) (sym other_parts)
          (subst (λ (ts : Trees). AllAgree it label spans ts (trees_of (view old other))) (sym parts) (whole.1 agrees).1)),
    )

-- no run is found
pub none-found : (runs : List (Bor Run)) → (length runs ≡ 0) ↔ (runs_in runs ≡ [])
none-found [] = (λ e. refl, λ e. refl)
none-found (one ∷ others) = (λ e. absurd (omega arith), λ e. absurd (cc))
