-- Whether a parameter is read first, by a test.
--     reads_first p tree      it is
--     first_read, read_test      the test tells
use Rattle.std.specs.Prelude.{◌≡◌, refl, ℕ, Bool, true, false, ◌&&◌, ◌||◌, ◌==◌}
use Rattle.std.proofs.Common.{ap, ◌∙◌, arith, inl, inr}
use Rattle.std.proofs.lemmas.Bool.{false≢true, and_parts}
use Rattle.dm_tree.specs.Trees.{object, read, Tree, Trees, node, no_trees, more_trees}
use Rattle.dm_meaning.specs.Running.{Open, first_open, others_open, open_of}
use Rattle.dm_meaning.proofs.GrowLemmas.{equal_is}
use Rattle.dm_central.specs.Arguments.{IsParameterNode, ReadsFirst, ReadsFirstBelow}

abbrev pub is_read_of : ℕ → Tree → Bool
is_read_of p (node read kind spans (more_trees (node (object d) named_kind named_spans no_trees) no_trees)) = d == p
is_read_of p tree = false

abbrev mutual
  pub reads_first : ℕ → Tree → Bool
  reads_first p (node label kind spans parts) = is_read_of p (node label kind spans parts) || reads_first_below p (open_of label) parts

  pub reads_first_below : ℕ → Open → Trees → Bool
  reads_first_below p opens no_trees = false
  reads_first_below p opens (more_trees first rest) = (first_open opens && reads_first p first) || reads_first_below p (others_open opens) rest

equal_nat : (a b : ℕ) → (a == b) ≡ true → a ≡ b
equal_nat a b e = grind (arith, e)

by_either : (a b : Bool) (R : Type 0) → (a || b) ≡ true → (a ≡ true → R) → (b ≡ true → R) → R
by_either true b R e f g = f refl
by_either false b R e f g = g e

or_left : (a b : Bool) → a ≡ true → (a || b) ≡ true
or_left true b e = refl
or_left false b e = absurd (false≢true e)

or_right : (a b : Bool) → b ≡ true → (a || b) ≡ true
or_right true b e = refl
or_right false b e = e

both : (a b : Bool) → a ≡ true → b ≡ true → (a && b) ≡ true
both true b e g = g
both false b e g = absurd (false≢true e)

node_read : (p : ℕ) (tree : Tree) → is_read_of p tree ≡ true → IsParameterNode p tree
node_read p (node read kind spans (more_trees (node (object d) named_kind named_spans no_trees) no_trees)) e =
    record {
      kind = kind;
      spans = spans;
      named_kind = named_kind;
      named_spans = named_spans;
      is = ap (λ (n : ℕ). node read kind spans (more_trees (node (object n) named_kind named_spans no_trees) no_trees)) (equal_nat d p e);
    }
node_read p (node read kind spans (more_trees (node (object d) named_kind named_spans no_trees) (more_trees second rest))) e = absurd (false≢true e)
node_read p (node read kind spans (more_trees (node (object d) named_kind named_spans (more_trees first rest)) others)) e = absurd (false≢true e)
node_read p (node read kind spans (more_trees (node label named_kind named_spans below) others)) e = absurd (false≢true e)
node_read p (node read kind spans no_trees) e = absurd (false≢true e)
node_read p (node label kind spans parts) e = absurd (false≢true e)

mutual
  pub first_read : (p : ℕ) (tree : Tree) → reads_first p tree ≡ true → ReadsFirst p tree
  first_read p (node label kind spans parts) e =
      by_either (is_read_of p (node label kind spans parts)) (reads_first_below p (open_of label) parts) (ReadsFirst p (node label kind spans parts)) e (λ k. inl (node_read p (node label kind spans parts) k))
      (λ k. inr (first_read_below p (open_of label) parts k))

  first_read_below : (p : ℕ) (opens : Open) (trees : Trees) → reads_first_below p opens trees ≡ true → ReadsFirstBelow p opens trees
  first_read_below p opens no_trees e = absurd (false≢true e)
  first_read_below p opens (more_trees first rest) e =
      by_either (first_open opens && reads_first p first) (reads_first_below p (others_open opens) rest) (ReadsFirstBelow p opens (more_trees first rest)) e
      (λ k. let parts = and_parts (first_open opens) (reads_first p first) k in inl (parts.0, first_read p first parts.1)) (λ k. inr (first_read_below p (others_open opens) rest k))

mutual
  pub read_test : (p : ℕ) (tree : Tree) → ReadsFirst p tree → reads_first p tree ≡ true
  read_test p (node label kind spans parts) (inl h) =
      or_left (is_read_of p (node label kind spans parts)) (reads_first_below p (open_of label) parts) (ap (is_read_of p) h.is ∙ equal_is p p refl)
  read_test p (node label kind spans parts) (inr h) =
      or_right (is_read_of p (node label kind spans parts)) (reads_first_below p (open_of label) parts) (read_test_below p (open_of label) parts h)

  read_test_below : (p : ℕ) (opens : Open) (trees : Trees) → ReadsFirstBelow p opens trees → reads_first_below p opens trees ≡ true
  read_test_below p opens no_trees h = absurd h
  read_test_below p opens (more_trees first rest) (inl h) =
      or_left (first_open opens && reads_first p first) (reads_first_below p (others_open opens) rest) (both (first_open opens) (reads_first p first) h.0 (read_test p first h.1))
  read_test_below p opens (more_trees first rest) (inr h) =
      or_right (first_open opens && reads_first p first) (reads_first_below p (others_open opens) rest) (read_test_below p (others_open opens) rest h)
