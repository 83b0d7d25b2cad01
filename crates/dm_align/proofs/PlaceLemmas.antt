-- The places of expressions so far, and those in trees that wait.
use Rattle.std.proofs.Common.{◌≡◌, ◌↔◌, ◌<◌, ◌+◌, ◌-◌, ℕ, zero, suc, Bool, true, false, ◌&&◌, ◌||◌, ◌==◌, IsTrue, Bor, List, [], ◌∷◌, ◌++◌, map, flat_map, length, take, get_or, slice_index_or, append_assoc, refl, sym, ap, ◌∙◌, subst, arith}
use Rattle.std.specs.HashSet.{HashSet}
use Rattle.std.specs.List.{AllByRecursion, list_any, sum_by}
use Rattle.std.proofs.lemmas.Bool.{eq-eqb}
use Rattle.std.proofs.lemmas.List.Folds.{list_any-append, list_any_more}
use Rattle.std.proofs.lemmas.List.Sums.{sum_by-append, sum_by-cons}
use Rattle.std.proofs.Math.Bool.{or-true, or-false, or_assoc}
use Rattle.dm_token.specs.declared.place.Span.{Span}
use Rattle.dm_type.specs.Tables.{Table, no_type}
use Rattle.dm_tree.specs.declared.tree.Core.{Core, out-Core}
use Rattle.dm_tree.specs.Initialisers.{is_same_span}
use Rattle.dm_tree.specs.Paths.{all_in, all_in_trees, nodes_in, nodes_in_trees}
use Rattle.dm_tree.specs.Trees.{Tree, node, label_of, spans_of, trees_of, trees}
use Rattle.dm_tree.specs.declared.unit.CoreExternal.{CoreExternal}
use Rattle.dm_tree.specs.Units.{External}
use Rattle.dm_tree.specs.Views.{opened_form, view, view_of_external}
use Rattle.dm_effect.specs.Entities.{nodes_of_external, trees_in_external}
use Rattle.dm_sites.specs.Standing.{is_value}
use Rattle.dm_agree.specs.Parts.{nows}
use Rattle.dm_agree.specs.Standing.{extents, narrowing, stands, widened}
use Rattle.dm_agree.proofs.AgreeLemmas.{trees-seen}
use Rattle.dm_agree.proofs.StandingLemmas.{all-extents, bare, no-extents}
use Rattle.dm_agree.proofs.StepLemmas.{denied}
use Rattle.dm_align.specs.declared.places.Extent.{Extent}
use Rattle.dm_align.specs.declared.places.Waiting.{Waiting}
use Rattle.dm_align.specs.Places.{AreAdded, has, is_wanted, stands_in, is_unevaluated_in, is_unevaluated_below, waits, waits_unevaluated, waiting_of, nodes_left}
use Rattle.dm_align.specs.Units.{is_in_sizeof, is_sizeof}

-- ---- tests

pub beside : (h s w p : Bool) → ((h || s) || (w || p)) ≡ (h || (w || (s || p)))
beside true s w p = refl
beside false true w p = sym (or-true w)
beside false false w p = refl

mixed : (h a w b c g : Bool) → ((h || a) || (w || ((b || c) || g))) ≡ (h || (w || ((a || b) || (c || g))))
mixed true a w b c g = refl
mixed false true w b c g = sym (or-true w)
mixed false false w b c g = ap (λ rest. w || rest) (or_assoc b c g)

and-or : (u s f : Bool) → (u && (s || f)) ≡ ((u && s) || (u && f))
and-or true s f = refl
and-or false s f = refl

or-and : (u z f : Bool) → ((u || z) && f) ≡ ((u && f) || (z && f))
or-and true true f = elim f as (λ v. v ≡ (v || v)) [ true ↦ refl | false ↦ refl ]
or-and true false f = sym (or-false f)
or-and false z f = refl

pub beside-unevaluated : (h u s w z f g : Bool) → ((h || (u && s)) || (w || (((u || z) && f) || g))) ≡ (h || (w || ((u && (s || f)) || ((z && f) || g))))
beside-unevaluated h u s w z f g =
    ap (λ one. (h || (u && s)) || (w || (one || g))) (or-and u z f)
    ∙ (mixed h (u && s) w (u && f) (z && f) g ∙ ap (λ one. h || (w || (one || ((z && f) || g)))) (sym (and-or u s f)))

-- ---- tests of lists

pub any-map : {A B : Type 0} (p : B → Bool) (f : A → B) (xs : List A) → list_any p (map f xs) ≡ list_any (λ x. p (f x)) xs
any-map p f [] = refl
any-map p f (x ∷ xs) = ap (λ rest. p (f x) || rest) (any-map p f xs)

pub any-flat : {A B : Type 0} (p : B → Bool) (f : A → List B) (xs : List A) → list_any p (flat_map f xs) ≡ list_any (λ x. list_any p (f x)) xs
any-flat p f [] = refl
any-flat p f (x ∷ xs) = list_any-append p (f x) (flat_map f xs) ∙ ap (λ rest. list_any p (f x) || rest) (any-flat p f xs)

and-any : {A : Type 0} (b : Bool) (p q : A → Bool) (xs : List A) → list_any (λ x. (b && p x) || q x) xs ≡ ((b && list_any p xs) || list_any q xs)
and-any true p q [] = refl
and-any false p q [] = refl
and-any b p q (x ∷ xs) =
    ap (λ rest. ((b && p x) || q x) || rest) (and-any b p q xs) ∙ (four (b && p x) (q x) (b && list_any p xs) (list_any q xs) ∙ ap (λ one. one || (q x || list_any q xs)) (sym (and-or b (p x) (list_any p xs))))
  where
    four : (a c d e : Bool) → ((a || c) || (d || e)) ≡ ((a || d) || (c || e))
    four true c d e = refl
    four false true d e = sym (or-true d)
    four false false d e = refl

sum-map : {A B : Type 0} (f : B → ℕ) (g : A → B) (xs : List A) → sum_by f (map g xs) ≡ sum_by (λ x. f (g x)) xs
sum-map f g [] = refl
sum-map f g (x ∷ xs) =
    let one = sum_by-cons f (g x) (map g xs) in let other = sum_by-cons (λ y. f (g y)) x xs in let rest = sum-map f g xs in omega (arith, one, other, rest)

-- ---- extents

pub narrower : {S : Type 0} (old now : HashSet Extent S) (inner span : Span) (left : ℕ) (whole : Bool) → 0 < left
    → has now span ≡ (is_same_span span (widened inner left) || has old span)
    → (has old span || list_any (is_same_span span) (narrowing inner left)) ≡ whole → (has now span || list_any (is_same_span span) (narrowing inner (left - 1))) ≡ whole
narrower old now inner span zero whole some update so_far = absurd (omega arith)
narrower old now inner span (suc left) whole some update so_far =
    let less : suc left - 1 ≡ left = omega arith in
    ap (λ n. has now span || list_any (is_same_span span) (narrowing inner n)) less
    ∙ (ap (λ one. one || list_any (is_same_span span) (narrowing inner left)) update
    ∙ (swap (is_same_span span (widened inner (suc left))) (has old span) (list_any (is_same_span span) (narrowing inner left)) ∙ so_far))
  where
    swap : (s h n : Bool) → ((s || h) || n) ≡ (h || (s || n))
    swap true h n = sym (or-true h)
    swap false h n = refl

pub narrowest-there : {S : Type 0} (old now : HashSet Extent S) (inner span : Span) (left : ℕ) (whole : Bool) → left ≡ 0
    → has now span ≡ (is_same_span span (widened inner 0) || has old span)
    → (has old span || list_any (is_same_span span) (narrowing inner left)) ≡ whole → has now span ≡ whole
narrowest-there old now inner span left whole none update so_far =
    update
    ∙ (ap (λ one. is_same_span span one || has old span) (bare inner)
    ∙ (around (is_same_span span inner) (has old span) ∙ (ap (λ n. has old span || list_any (is_same_span span) (narrowing inner n)) (sym none) ∙ so_far)))
  where
    around : (s h : Bool) → (s || h) ≡ (h || (s || false))
    around true h = sym (or-true h)
    around false h = sym (or-false h)

-- ---- marked tokens

module _ (before after : List Bool) (added : Span) (marks : (n : ℕ) → slice_index_or after n false ≡ (slice_index_or before n false || added.first == n)) where
  pub begun-kept : (span : Span) → IsTrue (is_wanted before span) → IsTrue (is_wanted after span)
  begun-kept span wanted = marks span.first ∙ ap (λ test. test || added.first == span.first) wanted

  pub begun-marked : IsTrue (is_wanted after added)
  begun-marked = marks added.first ∙ (ap (λ test. is_wanted before added || test) (eq-eqb added.first added.first refl) ∙ or-true (is_wanted before added))

-- ---- trees

all-in : (tree : Tree) → all_in tree ≡ tree ∷ all_in_trees (trees_of tree)
all-in (node label kind spans parts) = refl

all-listed : (p : Tree → Bool) (ts : List Tree) → list_any p (all_in_trees (trees ts)) ≡ list_any (λ t. list_any p (all_in t)) ts
all-listed p [] = refl
all-listed p (t ∷ ts) = list_any-append p (all_in t) (all_in_trees (trees ts)) ∙ ap (λ rest. list_any p (all_in t) || rest) (all-listed p ts)

nodes-in : (tree : Tree) → nodes_in tree ≡ 1 + nodes_in_trees (trees_of tree)
nodes-in (node label kind spans parts) = refl

nodes-listed : (ts : List Tree) → nodes_in_trees (trees ts) ≡ sum_by nodes_in ts
nodes-listed [] = refl
nodes-listed (t ∷ ts) = let one = sum_by-cons nodes_in t ts in let rest = nodes-listed ts in omega (arith, one, rest)

-- a tree of the code with its parts
module _ (types : Table) (core : Core) (parts : List (Bor Core)) (are : map (view types) (nows parts) ≡ (opened_form types (out-Core core).form).parts) where
  below : trees_of (view types core) ≡ trees (map (view types) (nows parts))
  below = trees-seen types core ∙ ap trees (sym are)

  any-below : (p : Tree → Bool) → list_any p (all_in_trees (trees_of (view types core))) ≡ list_any (λ (part : Bor Core). list_any p (all_in (view types part.now))) parts
  any-below p =
      ap (λ ts. list_any p (all_in_trees ts)) below ∙ (all-listed p (map (view types) (nows parts))
      ∙ (any-map (λ t. list_any p (all_in t)) (view types) (nows parts) ∙ any-map (λ (c : Core). list_any p (all_in (view types c))) (λ (one : Bor Core). one.now) parts))

  any-here : (p : Tree → Bool) → list_any p (all_in (view types core)) ≡ (p (view types core) || list_any (λ (part : Bor Core). list_any p (all_in (view types part.now))) parts)
  any-here p = ap (list_any p) (all-in (view types core)) ∙ ap (λ rest. p (view types core) || rest) (any-below p)

  waits-more : (span : Span) (u : Bool) (before after : List Waiting) → after ≡ before ++ map (waiting_of u) parts
      → waits types span after ≡ (waits types span before || list_any (λ (part : Bor Core). stands_in span (view types part.now)) parts)
  waits-more span u before after is =
      let p = λ (one : Waiting). stands_in span (view types one.tree.now) in
      ap (list_any p) is ∙ (list_any-append p before (map (waiting_of u) parts) ∙ ap (λ rest. waits types span before || rest) (any-map p (waiting_of u) parts))

  pub entered : (span : Span) (h now : Bool) (u : Bool) (before after : List Waiting) → now ≡ (h || stands span (view types core)) → after ≡ before ++ map (waiting_of u) parts
      → (now || waits types span after) ≡ (h || (waits types span before || stands_in span (view types core)))
  entered span h now u before after has_now is =
      ap (λ one. one || waits types span after) has_now
      ∙ (ap (λ rest. (h || stands span (view types core)) || rest) (waits-more span u before after is)
      ∙ (beside h (stands span (view types core)) (waits types span before) (list_any (λ (part : Bor Core). stands_in span (view types part.now)) parts)
      ∙ ap (λ one. h || (waits types span before || one)) (sym (any-here (stands span)))))

  waits-more-unevaluated : (span : Span) (u : Bool) (before after : List Waiting) → after ≡ before ++ map (waiting_of u) parts
      → waits_unevaluated types span after
      ≡ (waits_unevaluated types span before || ((u && list_any (λ (part : Bor Core). stands_in span (view types part.now)) parts) || list_any (λ (part : Bor Core). is_unevaluated_in span (view types part.now)) parts))
  waits-more-unevaluated span u before after is =
      let p = λ (one : Waiting). is_unevaluated_below one.unevaluated span (view types one.tree.now) in
      ap (list_any p) is ∙ (list_any-append p before (map (waiting_of u) parts) ∙ ap (λ rest. waits_unevaluated types span before || rest)
      (any-map p (waiting_of u) parts ∙ and-any u (λ (part : Bor Core). stands_in span (view types part.now)) (λ (part : Bor Core). is_unevaluated_in span (view types part.now)) parts))

  pub entered-unevaluated : (span : Span) (h now u z : Bool) (before after : List Waiting) → now ≡ (h || (u && stands span (view types core))) → z ≡ is_sizeof (label_of (view types core))
      → after ≡ before ++ map (waiting_of (u || z)) parts
      → (now || waits_unevaluated types span after) ≡ (h || (waits_unevaluated types span before || is_unevaluated_below u span (view types core)))
  entered-unevaluated span h now u z before after has_now sizeof is =
      let tree = view types core in
      let s = stands span tree in
      let w = waits_unevaluated types span before in
      let f = list_any (λ (part : Bor Core). stands_in span (view types part.now)) parts in
      let g = list_any (λ (part : Bor Core). is_unevaluated_in span (view types part.now)) parts in
      let here : is_in_sizeof span tree ≡ (z && f) =
      ap (λ one. one && list_any (stands span) (all_in_trees (trees_of tree))) (sym sizeof) ∙ ap (λ one. z && one) (any-below (stands span)) in
      let whole : is_unevaluated_below u span tree ≡ ((u && (s || f)) || ((z && f) || g)) =
      ap (λ one. (u && one) || is_unevaluated_in span tree) (any-here (stands span))
      ∙ ap (λ one. (u && (s || f)) || one) (any-here (is_in_sizeof span) ∙ ap (λ one. one || g) here) in
      ap (λ one. one || waits_unevaluated types span after) has_now
      ∙ (ap (λ rest. (h || (u && s)) || rest) (waits-more-unevaluated span (u || z) before after is)
      ∙ (beside-unevaluated h u s w z f g ∙ ap (λ one. h || (w || one)) (sym whole)))

pub nodes-entered : (core : Core) (parts : List (Bor Core)) (u : Bool) (before after : List Waiting) → map (view no_type) (nows parts) ≡ (opened_form no_type (out-Core core).form).parts
    → after ≡ before ++ map (waiting_of u) parts → nodes_left after + 1 ≡ nodes_left before + nodes_in (view no_type core)
nodes-entered core parts u before after are is =
    let n = λ (one : Waiting). nodes_in (view no_type one.tree.now) in
    let all = ap (sum_by n) is ∙ sum_by-append n before (map (waiting_of u) parts) in
    let parts_nodes = sum-map n (waiting_of u) parts in
    let whole = nodes-in (view no_type core) in
    let below_it = ap nodes_in_trees (below no_type core parts are) ∙ nodes-listed (map (view no_type) (nows parts)) in
    let shown = sum-map nodes_in (view no_type) (nows parts) in
    let refs = sum-map (λ (c : Core). nodes_in (view no_type c)) (λ (one : Bor Core). one.now) parts in
    omega (arith, all, parts_nodes, whole, below_it, shown, refs)

-- ---- lists of trees that wait

waiting-together : (u : Bool) (refs others : List (Bor Core)) → map (waiting_of u) (refs ++ others) ≡ map (waiting_of u) refs ++ map (waiting_of u) others
waiting-together u [] others = refl
waiting-together u (x ∷ refs) others = ap (λ (list : List Waiting). waiting_of u x ∷ list) (waiting-together u refs others)

nows-together : (refs others : List (Bor Core)) → nows (refs ++ others) ≡ nows refs ++ nows others
nows-together [] others = refl
nows-together (x ∷ refs) others = ap (λ (list : List Core). x.now ∷ list) (nows-together refs others)

-- one tree more waits
pub nows-more : (refs : List (Bor Core)) (one : Bor Core) (left rest all : List Core) → left ≡ one.now ∷ rest → nows refs ++ left ≡ all → nows (refs ++ one ∷ []) ++ rest ≡ all
nows-more refs one left rest all is so_far = moved refs ∙ (ap (λ (list : List Core). nows refs ++ list) (sym is) ∙ so_far)
  where
    moved : (refs : List (Bor Core)) → nows (refs ++ one ∷ []) ++ rest ≡ nows refs ++ one.now ∷ rest
    moved [] = refl
    moved (x ∷ refs) = ap (λ (list : List Core). x.now ∷ list) (moved refs)

pub waiting-more : (u : Bool) (refs : List (Bor Core)) (one : Bor Core) (before now after : List Waiting) → now ≡ before ++ map (waiting_of u) refs → after ≡ now ++ waiting_of u one ∷ []
    → after ≡ before ++ map (waiting_of u) (refs ++ one ∷ [])
waiting-more u refs one before now after so_far is =
    is ∙ (ap (λ (list : List Waiting). list ++ waiting_of u one ∷ []) so_far
    ∙ (append_assoc before (map (waiting_of u) refs) (waiting_of u one ∷ []) ∙ ap (λ (list : List Waiting). before ++ list) (sym (waiting-together u refs (one ∷ [])))))

-- those of two lists wait, one behind the other
pub added-together : (u : Bool) (front behind : List Core) (before amid after : List Waiting) → AreAdded u front before amid → AreAdded u behind amid after → AreAdded u (front ++ behind) before after
added-together u front behind before amid after first second = (
  first.0 ++ second.0,
  nows-together first.0 second.0 ∙ (λ i. first.1 i ++ second.1 i),
  second.2 ∙ (ap (λ (list : List Waiting). list ++ map (waiting_of u) second.0) first.2
      ∙ (append_assoc before (map (waiting_of u) first.0) (map (waiting_of u) second.0) ∙ ap (λ (list : List Waiting). before ++ list) (sym (waiting-together u first.0 second.0)))),
)

-- what waits last is taken
pub waits-last : (p : Waiting → Bool) (all front : List Waiting) (one : Waiting) → all ≡ front ++ one ∷ [] → list_any p all ≡ (list_any p front || p one)
waits-last p all front one is = ap (list_any p) is ∙ (list_any-append p front (one ∷ []) ∙ ap (λ last. list_any p front || last) (or-false (p one)))

pub nodes-last : (all front : List Waiting) (one : Waiting) → all ≡ front ++ one ∷ [] → nodes_left all ≡ nodes_left front + nodes_in (view no_type one.tree.now)
nodes-last all front one is =
    let n = λ (each : Waiting). nodes_in (view no_type each.tree.now) in
    let both = ap (sum_by n) is ∙ sum_by-append n front (one ∷ []) in
    let last = sum_by-cons n one [] in
    omega (arith, both, last)

-- one item more
pub any-step : {A : Type 0} (p : A → Bool) (xs : List A) (i : ℕ) (x : A) (h old now : Bool) → i < length xs → x ≡ get_or xs i x → old ≡ (h || list_any p (take i xs)) → now ≡ (old || p x)
    → now ≡ (h || list_any p (take (i + 1) xs))
any-step p xs i x h old now less is so_far more =
    more ∙ (ap (λ one. one || p x) so_far ∙ (or_assoc h (list_any p (take i xs)) (p x)
    ∙ ap (λ rest. h || rest) (ap (λ one. list_any p (take i xs) || p one) is ∙ sym (list_any_more p xs i x less))))

-- ---- what is no expression that is written

pub not-standing : (types : Table) (core : Core) (span : Span) → is_value (view types core) ≡ false → stands span (view types core) ≡ false
not-standing types core span none = ap (list_any (is_same_span span)) (no-extents (view types core) none)

pub standing-by : (types : Table) (core : Core) (span : Span) (pairs : ℕ) → is_value (view types core) ≡ true → narrowing (out-Core core).inner pairs ≡ extents (spans_of (view types core))
    → list_any (is_same_span span) (narrowing (out-Core core).inner pairs) ≡ stands span (view types core)
standing-by types core span pairs some is = ap (list_any (is_same_span span)) (is ∙ sym (all-extents (view types core) some))

pub and-none : (u s : Bool) → s ≡ false → (u && s) ≡ false
and-none true s none = none
and-none false s none = refl

-- ---- lists of which all items have a property

module _ {A : Type 0} (P : A → Type 0) (all left : List A) (so_far : AllByRecursion P left ↔ AllByRecursion P all) where
  pub one-fails : (x : A) (rest : List A) → left ≡ x ∷ rest → (test : Bool) → (IsTrue test ↔ P x) → test ≡ false → IsTrue false ↔ AllByRecursion P all
  one-fails x rest is test says refused = denied test says refused (λ every. (subst (AllByRecursion P) is (so_far.1 every)).0)

  pub rest-decides : (x : A) (rest : List A) → left ≡ x ∷ rest → (test : Bool) → (IsTrue test ↔ P x) → test ≡ true → AllByRecursion P rest ↔ AllByRecursion P all
  rest-decides x rest is test says passed =
      (λ more. so_far.0 (subst (AllByRecursion P) (sym is) (says.0 passed, more)), λ every. (subst (AllByRecursion P) is (so_far.1 every)).1)

  pub none-left : left ≡ [] → IsTrue true ↔ AllByRecursion P all
  none-left none = (λ e. so_far.0 (subst (AllByRecursion P) (sym none) tt), λ every. refl)

-- ---- the trees of external declarations

pub any-nodes : (types : Table) (p : Tree → Bool) (refs : List (Bor Core)) (external : External) → map (view types) (nows refs) ≡ trees_in_external external
    → list_any (λ (one : Bor Core). list_any p (all_in (view types one.now))) refs ≡ list_any p (nodes_of_external external)
any-nodes types p refs external are =
    sym (any-map (λ (core : Core). list_any p (all_in (view types core))) (λ (one : Bor Core). one.now) refs)
    ∙ (sym (any-map (λ t. list_any p (all_in t)) (view types) (nows refs))
    ∙ (ap (list_any (λ t. list_any p (all_in t))) are ∙ sym (any-flat p all_in (trees_in_external external))))

pub any-unit : (types : Table) (p : Tree → Bool) (externals : List CoreExternal)
    → list_any (λ (one : CoreExternal). list_any p (nodes_of_external (view_of_external types one))) externals ≡ list_any p (flat_map nodes_of_external (map (view_of_external types) externals))
any-unit types p externals =
    sym (any-flat p nodes_of_external (map (view_of_external types) externals) ∙ any-map (λ (one : External). list_any p (nodes_of_external one)) (view_of_external types) externals)

pub one-listed : (types : Table) (items : List (Bor Core)) (one : Bor Core) (rest : List Core)
    → map (view types) (nows (items ++ one ∷ [])) ++ map (view types) rest ≡ map (view types) (nows items) ++ map (view types) (one.now ∷ rest)
one-listed types [] one rest = refl
one-listed types (x ∷ items) one rest = ap (λ (more : List Tree). view types x.now ∷ more) (one-listed types items one rest)
