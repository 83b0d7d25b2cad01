-- The expression of an added function, against that of a run.
--     counted      as many trees stand for a parameter as it is read times
use Rattle.std.specs.Prelude.{◌≡◌, refl, ◌⊎◌, ℕ, zero, suc, ◌+◌, Bool, true, false, not, ◌&&◌, ◌||◌, ◌==◌, IsTrue, IfSome, IsSome, List, [], ◌∷◌, length, Option, Some, None, slice_get, if◌then◌else◌}
use Rattle.std.proofs.Common.{arith, ap, sym, ◌∙◌, subst, inl, inr, length-append}
use Rattle.std.proofs.lemmas.Bool.{true≢false, false≢true}
use Rattle.dm_runs.specs.declared.run.Occurrence.{Occurrence}
use Rattle.dm_runs.specs.declared.run.Run.{Run}
use Rattle.dm_type.specs.CTypes.{CType, bare}
use Rattle.dm_tree.specs.Composites.{covers}
use Rattle.dm_tree.specs.Initialisers.{is_object}
use Rattle.dm_tree.specs.Scenes.{Scene}
use Rattle.dm_tree.specs.Trees.{Label, enumerator, object, function, read, convert, sizeof_kind, block, declare, for_loop, is_statement, Spans, Tree, Trees, node, no_trees, more_trees, listed}
use Rattle.dm_tree.specs.Typing.{Fits, inside, IsWellTyped, AreWellTyped}
use Rattle.dm_tree.specs.Units.{Declaration}
use Rattle.dm_meaning.specs.Among.{IsAmong}
use Rattle.dm_meaning.specs.Called.{Called, means_the_same, is_static_number, is_nowhere_local}
use Rattle.dm_meaning.specs.CalledWithAll.{AreDistinct, times_here, times_named, times_named_in}
use Rattle.dm_meaning.specs.Objects.{agree_without_const}
use Rattle.dm_meaning.specs.Replaced.{relabelled}
use Rattle.dm_meaning.specs.Statements.{kind_declared}
use Rattle.dm_meaning.proofs.GrowLemmas.{equal_is, equal_of, differ_is}
use Rattle.dm_meaning.proofs.OptionLemmas.{none_is_some, some_is_some, and_left, and_right}
use Rattle.dm_effect.specs.Entities.{object_first}
use Rattle.dm_effect.specs.Scoped.{is_in_scope, names_in_scope, scopes_of, same_scopes, is_scoped, are_scoped}
use Rattle.dm_agree.specs.Agreement.{Rewriting, SameNode, IsReadOf, Here, here_below, BodyBy, SameBody, SameBodies, Left, left_at, standing_in, standing_below}
use Rattle.dm_plain.specs.Plain.{IsNoLocal, NamesNoLocal, NameNoLocal, TypeNamesNone}
use Rattle.dm_refine.proofs.ConstantTreeLemmas.{inside_declared}
use Rattle.dm_refine.proofs.CoverLemmas.{agrees_covered}
use Rattle.dm_refine.proofs.ReadFirstLemmas.{times_read, either}

-- ---- numbers

pub slice_among : {A : Type 0} (items : List A) (n : ℕ) (x : A) → slice_get items n ≡ Some x → IsAmong x items
slice_among [] n x e = absurd (none_is_some x e)
slice_among (first ∷ rest) zero x e = inl (sym (some_is_some first x e))
slice_among (first ∷ rest) (suc n) x e = inr (slice_among rest n x e)

-- a number has one position among distinct ones
pub one_position : (ps : List ℕ) → AreDistinct ps → (m n p : ℕ) → slice_get ps m ≡ Some p → slice_get ps n ≡ Some p → m ≡ n
one_position [] distinct m n p e f = absurd (none_is_some p e)
one_position (q ∷ ps) distinct zero zero p e f = refl
one_position (q ∷ ps) distinct zero (suc n) p e f = absurd (distinct.0 (subst (λ x. IsAmong x ps) (sym (some_is_some q p e)) (slice_among ps n p f)))
one_position (q ∷ ps) distinct (suc m) zero p e f = absurd (distinct.0 (subst (λ x. IsAmong x ps) (sym (some_is_some q p f)) (slice_among ps m p e)))
one_position (q ∷ ps) distinct (suc m) (suc n) p e f = ap suc (one_position ps distinct.1 m n p e f)

pub same_position : (ps : List ℕ) → AreDistinct ps → (m n d p : ℕ) → slice_get ps m ≡ Some d → slice_get ps n ≡ Some p → (m == n) ≡ (d == p)
same_position ps distinct m n d p e f = by_bool (m == n) refl
  where
    by_bool : (b : Bool) → (m == n) ≡ b → (m == n) ≡ (d == p)
    by_bool true g = g ∙ sym (equal_is d p (some_is_some d p (sym e ∙ (ap (slice_get ps) (equal_of m n g) ∙ f))))
    by_bool false g = g ∙ sym (differ_is d p (λ same. true≢false (sym (equal_is m n (one_position ps distinct m n p (e ∙ ap Some same) f)) ∙ g)))

both_true : (a b : Bool) → a ≡ true → b ≡ true → (a && b) ≡ true
both_true true b e f = f
both_true false b e f = absurd (false≢true e)

pub or_other : (a b : Bool) → b ≡ false → (a || b) ≡ true → a ≡ true
or_other true b e h = refl
or_other false b e h = absurd (false≢true (sym e ∙ h))

pub not_true : (a : Bool) → not a ≡ true → a ≡ false
not_true true e = absurd (false≢true e)
not_true false e = refl

pub or_true : (a b : Bool) → b ≡ true → (a || b) ≡ true
or_true true b e = refl
or_true false b e = e

-- ---- an object that is read

-- as an object of its own type (6.5p7)
pub record ReadsObject (declared : List Declaration) (kind : CType) (parts : Trees) (d : ℕ) : Type 0 where
  pub named_kind : CType
  pub named_spans : Spans
  pub alone : parts ≡ more_trees (node (object d) named_kind named_spans no_trees) no_trees
  pub own : agree_without_const (bare (kind_declared (slice_get declared d))) kind ≡ true

entry_own : (found : Option Declaration) (named kind : CType) → kind ≡ bare named → IfSome found (λ entry. IsTrue (is_object entry.sort && covers entry.kind named)) → IsSome found
    → agree_without_const (bare (kind_declared found)) kind ≡ true
entry_own None named kind e fits is = absurd (false≢true is)
entry_own (Some entry) named kind e fits is =
    ap (agree_without_const (bare entry.kind)) e ∙ agrees_covered entry.kind named (and_right (is_object entry.sort) (covers entry.kind named) fits)

pub read_object : (declared : List Declaration) (scene : Scene) → scene.declared ≡ declared → (kind : CType) (parts : Trees) (d : ℕ) → Fits scene read kind (listed parts)
    → AreWellTyped (inside scene read (listed parts)) parts → object_first parts ≡ Some d → ReadsObject declared kind parts d
read_object declared scene same kind (more_trees (node (object c) named spans no_trees) no_trees) d fits typed e =
    let is = some_is_some c d e in
    record {
      named_kind = named;
      named_spans = spans;
      alone = ap (λ n. more_trees (node (object n) named spans no_trees) no_trees) is;
      own = subst (λ n. agree_without_const (bare (kind_declared (slice_get declared n))) kind ≡ true) is
          (entry_own (slice_get declared c) named kind fits.2
          (subst (λ (ds : List Declaration). IfSome (slice_get ds c) (λ (entry : Declaration). IsTrue (is_object entry.sort && covers entry.kind named))) same typed.0.0.0)
          (subst (λ (ds : List Declaration). IsSome (slice_get ds c)) same typed.0.0.1));
    }
read_object declared scene same kind (more_trees (node (object c) named spans no_trees) (more_trees second rest)) d fits typed e = absurd fits
read_object declared scene same kind (more_trees (node (object c) named spans (more_trees below others)) rest) d fits typed e = absurd typed.0.0
read_object declared scene same kind (more_trees (node label named spans below) rest) d fits typed e = absurd (none_is_some d e)
read_object declared scene same kind no_trees d fits typed e = absurd (none_is_some d e)

pub names_first : (parts : Trees) (d : ℕ) → object_first parts ≡ Some d → times_named_in d parts ≡ 0 → ⊥
names_first (more_trees (node (object c) kind spans below) rest) d e none =
    let one : times_here d (object c) ≡ 1 = ap (λ b. if b then 1 else 0) (equal_is c d (some_is_some c d e)) in
    omega (arith, one, none)
names_first (more_trees (node label kind spans below) rest) d e none = absurd (none_is_some d e)
names_first no_trees d e none = absurd (none_is_some d e)

-- ---- scopes

-- what names no automatic object does so in any scopes
no_local_named : (automatic : ℕ → Bool) (scope : List ℕ) (label : Label) → IsNoLocal automatic label → names_in_scope automatic scope label ≡ true
no_local_named automatic scope (object d) h = ap (λ b. not b || is_in_scope scope d) h
no_local_named automatic scope label h = refl

mutual
  no_local_scoped : (automatic : ℕ → Bool) (scope : List ℕ) (tree : Tree) → NamesNoLocal automatic tree → is_scoped automatic scope tree ≡ true
  no_local_scoped automatic scope (node label kind spans parts) h =
      both_true (names_in_scope automatic scope label) _ (no_local_named automatic scope label h.0) (no_locals_scoped automatic (scopes_of scope label parts) parts h.1)

  no_locals_scoped : (automatic : ℕ → Bool) (scopes : List (Option (List ℕ))) (trees : Trees) → NameNoLocal automatic trees → are_scoped automatic scopes trees ≡ true
  no_locals_scoped automatic scopes no_trees h = refl
  no_locals_scoped automatic [] (more_trees first rest) h = refl
  no_locals_scoped automatic (None ∷ scopes) (more_trees first rest) h = no_locals_scoped automatic scopes rest h.1
  no_locals_scoped automatic (Some scope ∷ scopes) (more_trees first rest) h =
      both_true (is_scoped automatic scope first) _ (no_local_scoped automatic scope first h.0) (no_locals_scoped automatic scopes rest h.1)

-- the parts of an expression stand in its scope
pub scopes_inside : (automatic : ℕ → Bool) (scope : List ℕ) (label : Label) (parts : Trees) → is_statement label ≡ false → TypeNamesNone automatic label parts
    → are_scoped automatic (scopes_of scope label parts) parts ≡ true → are_scoped automatic (same_scopes scope parts) parts ≡ true
scopes_inside automatic scope convert no_trees e none h = h
scopes_inside automatic scope convert (more_trees operand lengths) e none h =
    both_true (is_scoped automatic scope operand) _ (and_left (is_scoped automatic scope operand) _ h) (no_locals_scoped automatic (same_scopes scope lengths) lengths none)
scopes_inside automatic scope (sizeof_kind type) lengths e none h = no_locals_scoped automatic (same_scopes scope lengths) lengths none
scopes_inside automatic scope (declare lengths declarators) parts e none h = absurd (true≢false e)
scopes_inside automatic scope block parts e none h = absurd (true≢false e)
scopes_inside automatic scope (for_loop first second third) parts e none h = absurd (true≢false e)
scopes_inside automatic scope label parts e none h = h

-- a number that isn't among others
pub not_in_scope : (c : ℕ) (ps : List ℕ) → ((p : ℕ) → IsAmong p ps → c ≡ p → ⊥) → is_in_scope ps c ≡ false
not_in_scope c [] other = refl
not_in_scope c (q ∷ ps) other =
    ap (λ b. b || is_in_scope ps c) (differ_is q c (λ e. other q (inl refl) (sym e))) ∙ not_in_scope c ps (λ p k. other p (inr k))

-- ---- what stands at a tree of the body

-- a parameter is read
pub record ReadsHere (ps : List ℕ) (occurrences : List Occurrence) (label : Label) (kind : CType) (parts : Trees) (other : Tree) : Type 0 where
  pub one : Occurrence
  pub others : List Occurrence
  pub is : occurrences ≡ one ∷ others
  pub parameter : ℕ
  pub found : slice_get ps one.parameter ≡ Some parameter
  pub reads : IsReadOf (Some parameter) label kind parts other

-- there is no occurrence
pub record IsNodeHere (rewriting : Rewriting) (occurrences : List Occurrence) (label : Label) (kind : CType) (other : Tree) (Below : Type 0) : Type 0 where
  pub none : occurrences ≡ []
  pub same : SameNode rewriting label kind other
  pub below : Below

pub by_here : (rewriting : Rewriting) (ps : List ℕ) (occurrences : List Occurrence) (runs : List Run) (label : Label) (kind : CType) (parts : Trees) (other : Tree) (Below : Type 0)
    → BodyBy rewriting ps occurrences runs label kind parts other Below → IsNodeHere rewriting occurrences label kind other Below ⊎ ReadsHere ps occurrences label kind parts other
by_here rewriting ps [] [] label kind parts other Below h = inl (record { none = refl; same = h.0; below = h.1 })
by_here rewriting ps [] (run ∷ runs) label kind parts other Below h = absurd h
by_here rewriting ps (one ∷ others) runs label kind parts other Below h = by_found (slice_get ps one.parameter) refl h
  where
    by_found : (found : Option ℕ) → slice_get ps one.parameter ≡ found → IsReadOf found label kind parts other
        → IsNodeHere rewriting (one ∷ others) label kind other Below ⊎ ReadsHere ps (one ∷ others) label kind parts other
    by_found None e reads = absurd reads
    by_found (Some d) e reads = inr (record { one = one; others = others; is = refl; parameter = d; found = e; reads = reads })

-- ---- the expression

module _ (change : Called) (own : (p : ℕ) → IsAmong p change.added.parameters → (d : ℕ) → change.rename d ≡ p → ⊥) where
  abbrev ps : List ℕ
  ps = change.added.parameters

  module _ (automatic : ℕ → Bool) (still : (d : ℕ) → automatic (change.rename d) ≡ false → is_nowhere_local change.old d ≡ true) where
    pub same_meaning : (label other : Label) → label ≡ relabelled change.rename other → names_in_scope automatic ps label ≡ true → means_the_same change.old other ≡ true
    same_meaning label (object d) e h =
        or_true (is_static_number change.old.statics d) (is_nowhere_local change.old d)
        (still d (not_true (automatic (change.rename d))
        (or_other (not (automatic (change.rename d))) (is_in_scope ps (change.rename d)) (not_in_scope (change.rename d) ps (λ p k. own p k d)) (sym (ap (names_in_scope automatic ps) e) ∙ h))))
    same_meaning label other e h = refl

    -- where an occurrence is, the tree itself
    pub left_here : (n : ℕ) (one : Occurrence) (others : List Occurrence) (runs : List Run) (tree : Tree) (below : List Left) → one.parameter ≡ n
        → IsAmong {X = Left} (record { runs = runs; tree = tree }) (left_at n (one ∷ others) runs tree below)
    left_here n one others runs tree below e =
        subst (λ b. IsAmong {X = Left} (record { runs = runs; tree = tree }) (if b then record { runs = runs; tree = tree } ∷ [] else [])) (sym (equal_is one.parameter n e)) (inl refl)

  -- ---- how many trees stand for a parameter

  module _ (distinct : AreDistinct ps) (n p : ℕ) (found : slice_get ps n ≡ Some p) where
    -- an old name is that of no parameter
    other_name : (label : Label) → times_here p (relabelled change.rename label) ≡ 0
    other_name (object d) = ap (λ b. if b then 1 else 0) (differ_is (change.rename d) p (own p (slice_among ps n p found) d))
    other_name (enumerator d) = refl
    other_name (function d) = refl
    other_name (declare lengths declarators) = refl
    other_name label = refl

    left_count : (b : Bool) (left : Left) → length (if b then left ∷ [] else []) ≡ (if b then 1 else 0)
    left_count true left = refl
    left_count false left = refl

    read_counted : (scene : Scene) → scene.declared ≡ change.declared → (label : Label) (kind : CType) (spans : Spans) (parts : Trees) (other : Tree) → Fits scene label kind (listed parts)
        → AreWellTyped (inside scene label (listed parts)) parts → (occurrences : List Occurrence) (runs : List Run) (below : List Left) → ReadsHere ps occurrences label kind parts other
        → length (left_at n occurrences runs other below) ≡ times_named p (node label kind spans parts)
    read_counted scene e label kind spans parts other fits typed occurrences runs below h =
        let there = read_object change.declared scene e kind parts h.parameter (subst (λ (l : Label). Fits scene l kind (listed parts)) h.reads.0 fits)
        (subst (λ (l : Label). AreWellTyped (inside scene l (listed parts)) parts) h.reads.0 typed) h.reads.2 in
        let is = ap (λ (l : Label). node l kind spans parts) h.reads.0 ∙ ap (λ (ps : Trees). node read kind spans ps) there.alone in
        ap (λ (found : List Occurrence). length (left_at n found runs other below)) h.is
        ∙ (left_count (h.one.parameter == n) (record { runs = runs; tree = other })
        ∙ (ap (λ b. if b then 1 else 0) (same_position ps distinct h.one.parameter n h.parameter p h.found found)
        ∙ (sym (times_read p h.parameter kind there.named_kind spans there.named_spans) ∙ sym (ap (times_named p) is))))

    mutual
      pub counted : (rewriting : Rewriting) → rewriting.rename ≡ change.rename → (run : Run) (scene : Scene) → scene.declared ≡ change.declared → (here : Here) (tree other : Tree) → IsWellTyped scene tree
          → SameBody rewriting ps run here tree other → length (standing_in rewriting run n here other) ≡ times_named p tree
      counted rewriting r run scene e here (node label kind spans parts) (node other other_kind other_spans others) typed h =
          let was = node other other_kind other_spans others in
          let below = standing_below rewriting run n other other_spans others in
          either (IsNodeHere rewriting here.occurrences label kind was (SameBodies rewriting ps run other other_spans parts others)) (ReadsHere ps here.occurrences label kind parts was)
          (length (standing_in rewriting run n here was) ≡ times_named p (node label kind spans parts))
          (λ same.
          let none = ap (times_here p) (same.same.0 ∙ ap (λ rename. relabelled rename other) r) ∙ other_name other in
          ap (λ (occurrences : List Occurrence). length (left_at n occurrences here.runs was below)) same.none
          ∙ (all_counted rewriting r run (inside scene label (listed parts)) (inside_declared scene label (listed parts) ∙ e) other other_spans parts others typed.1 same.below
          ∙ omega (arith, none)))
          (λ reads. read_counted scene e label kind spans parts was typed.0 typed.1 here.occurrences here.runs below reads)
          (by_here rewriting ps here.occurrences here.runs label kind parts was _ h)

      all_counted : (rewriting : Rewriting) → rewriting.rename ≡ change.rename → (run : Run) (scene : Scene) → scene.declared ≡ change.declared → (label : Label) (spans : Spans) (trees others : Trees)
          → AreWellTyped scene trees → SameBodies rewriting ps run label spans trees others → length (standing_below rewriting run n label spans others) ≡ times_named_in p trees
      all_counted rewriting r run scene e label spans no_trees no_trees typed h = refl
      all_counted rewriting r run scene e label spans no_trees (more_trees other others) typed h = absurd h
      all_counted rewriting r run scene e label spans (more_trees first rest) no_trees typed h = absurd h
      all_counted rewriting r run scene e label spans (more_trees first rest) (more_trees other others) typed h =
          length-append (standing_in rewriting run n (here_below rewriting run label spans other) other) (standing_below rewriting run n label spans others)
          ∙ (ap (λ m. m + length (standing_below rewriting run n label spans others)) (counted rewriting r run scene e (here_below rewriting run label spans other) first other typed.0 h.0)
          ∙ ap (λ m. times_named p first + m) (all_counted rewriting r run scene e label spans rest others typed.1 h.1))
