-- Where the old program has an untouched argument in the added function's expression whose parameter is read first, it stands in a part that may
-- be evaluated.
use Rattle.std.specs.Prelude.{◌≡◌, refl, ℕ, IsTrue, Option, Some}
use Rattle.std.proofs.Common.{ap, sym, ◌∙◌, subst, inl, inr}
use Rattle.dm_token.specs.declared.place.Place.{Place}
use Rattle.dm_type.specs.CTypes.{CType}
use Rattle.dm_tree.specs.Trees.{Label, object, read, Spans, Tree, Trees, node, no_trees, more_trees, label_of, kind_of, trees_of}
use Rattle.dm_meaning.specs.Running.{Doing, evaluates, gives_truth, gives_value, Run, done, to_do, Runs, no_runs, more_runs, begun, all_begun, Open, first_open, others_open, open_of, open_parts, here, within, Holes, in_first, in_others, all_filled_in, AreOpen}
use Rattle.dm_meaning.specs.Replaced.{relabelled}
use Rattle.dm_meaning.specs.Called.{Called}
use Rattle.dm_meaning.proofs.OptionLemmas.{some_is_some}
use Rattle.dm_meaning.proofs.RunLemmas.{redone}
use Rattle.dm_meaning.proofs.MatchLemmas.{open_of_relabelled, open_parts_redone}
use Rattle.dm_meaning.proofs.StandLemmas.{label_in}
use Rattle.dm_central.specs.Arguments.{IsSameBut, AreSameBut, IsUntouched, IsStanding, Stands, StandBelow, StandsWhole, IsParameterNode, ReadsFirst, ReadsFirstBelow, StandsOpen}

-- the first part of a node
first_part : Tree → Tree
first_part (node label kind spans (more_trees first rest)) = first
first_part (node label kind spans no_trees) = node label kind spans no_trees

named_in : Label → ℕ
named_in (object d) = d
named_in label = 0

pub same_parameter : (p q : ℕ) (kind type : CType) (spans other : Spans) (named_kind named_type : CType) (named_spans named_other : Spans)
    → node read kind spans (more_trees (node (object p) named_kind named_spans no_trees) no_trees) ≡ node read type other (more_trees (node (object q) named_type named_other no_trees) no_trees) → p ≡ q
unfolding first_part named_in
same_parameter p q kind type spans other named_kind named_type named_spans named_other e = ap (λ t. named_in (label_of (first_part t))) e

pub object_not_read : (q : ℕ) (kind type : CType) (spans other : Spans) (parts : Trees) → node (object q) kind spans no_trees ≡ node read type other parts → ⊥
object_not_read q kind type spans other parts e = cc (ap label_of e)

-- a parameter's read reads that one
reads_only : (p q : ℕ) (kind named_kind : CType) (spans named_spans : Spans) → ReadsFirst p (node read kind spans (more_trees (node (object q) named_kind named_spans no_trees) no_trees)) → q ≡ p
reads_only p q kind named_kind spans named_spans (inl h) = same_parameter q p kind h.kind spans h.spans named_kind h.named_kind named_spans h.named_spans h.is
reads_only p q kind named_kind spans named_spans (inr (inl (o, inl h))) = absurd (object_not_read q named_kind h.kind named_spans h.spans _ h.is)
reads_only p q kind named_kind spans named_spans (inr (inl (o, inr h))) = absurd h
reads_only p q kind named_kind spans named_spans (inr (inr h)) = absurd h

module _ (change : Called) (tree_at : ℕ → Option (Option Tree)) (p : ℕ) (own : (c : ℕ) → change.rename c ≡ p → ⊥) (argument : Tree) (stands : tree_at p ≡ Some (Some argument)) where
  -- the argument stands in a part that may be evaluated
  abbrev IsThere : Run → Type 0
  IsThere other = StandsOpen (begun argument) other

  record AreThere (opens : Open) (others : Runs) : Type 0 where
    holes : Holes
    opened : AreOpen opens holes
    is : others ≡ all_filled_in holes (begun argument)

  pub its_own : (other : Tree) → tree_at p ≡ Some (Some other) → other ≡ argument
  its_own other e = some_is_some other argument (some_is_some (Some other) (Some argument) (sym e ∙ stands))

  pub not_renamed : (label : Label) → object p ≡ relabelled change.rename label → ⊥
  unfolding named_in
  not_renamed (object c) e = own c (sym (ap named_in e))
  not_renamed label e = cc

  in_node : (label : Label) (kind : CType) (place : Place) (opens : Open) (others : Runs) → open_of label ≡ opens → AreThere opens others → IsThere (to_do (evaluates label) kind place others)
  in_node label kind place opens others e h = record {
    hole = within (evaluates label) kind place h.holes;
    opened = subst (λ o. AreOpen o h.holes) (sym e) h.opened;
    is = ap (to_do (evaluates label) kind place) h.is;
  }

  in_first_part : (opens : Open) (other : Run) (others : Runs) → IsTrue (first_open opens) → IsThere other → AreThere opens (more_runs other others)
  in_first_part opens other others o h = record { holes = in_first h.hole others; opened = (o, h.opened); is = ap (λ r. more_runs r others) h.is }

  in_other_part : (opens : Open) (other : Run) (others : Runs) → AreThere (others_open opens) others → AreThere opens (more_runs other others)
  in_other_part opens other others h = record { holes = in_others other h.holes; opened = h.opened; is = ap (more_runs other) h.is }

  -- a parameter isn't renamed, so its read is no node of the old program
  pub not_the_same : (tree was : Tree) → IsParameterNode p tree → (label_of tree ≡ relabelled change.rename (label_of was)) → AreSameBut change tree_at (trees_of tree) (trees_of was) → ⊥
  not_the_same tree was h e same = by_parts (trees_of was) (subst (λ t. AreSameBut change tree_at (trees_of t) (trees_of was)) h.is same)
    where
      by_parts : (others : Trees) → AreSameBut change tree_at (more_trees (node (object p) h.named_kind h.named_spans no_trees) no_trees) others → ⊥
      by_parts no_trees k = k
      by_parts (more_trees other others) (inl k, l) = not_renamed (label_of other) k.0
      by_parts (more_trees other others) (inr (reads, k, g), l) = object_not_read p h.named_kind _ h.named_spans _ _ reads.is

  mutual
    same_there : (tree was : Tree) → IsSameBut change tree_at tree was → ReadsFirst p tree → IsThere (begun was)
    same_there (node label kind spans parts) (node other other_kind other_spans others) (inl h) (inl r) =
        absurd (not_the_same (node label kind spans parts) (node other other_kind other_spans others) r h.0 h.3)
    same_there (node label kind spans parts) (node other other_kind other_spans others) (inl h) (inr r) =
        in_node other other_kind other_spans.place (open_of label) (all_begun others) (sym (open_of_relabelled change.rename other) ∙ sym (ap open_of h.0)) (all_same_there (open_of label) parts others h.3 r)
    same_there (node label kind spans parts) was (inr (reads, e, g)) r =
        let is_p : reads.parameter ≡ p = reads_only p reads.parameter (kind_of was) reads.named_kind reads.spans reads.named_spans (subst (ReadsFirst p) reads.is r) in
        record { hole = here; opened = tt; is = ap begun (its_own was (subst (λ d. tree_at d ≡ Some (Some was)) is_p e)) }

    all_same_there : (opens : Open) (trees others : Trees) → AreSameBut change tree_at trees others → ReadsFirstBelow p opens trees → AreThere opens (all_begun others)
    all_same_there opens no_trees others h r = absurd r
    all_same_there opens (more_trees first rest) no_trees h r = absurd h
    all_same_there opens (more_trees first rest) (more_trees other others) h (inl r) = in_first_part opens (begun other) (all_begun others) r.0 (same_there first other h.0 r.1)
    all_same_there opens (more_trees first rest) (more_trees other others) h (inr r) = in_other_part opens (begun other) (all_begun others) (all_same_there (others_open opens) rest others h.1 r)

  module _ (kind_at : ℕ → Option CType) (run_at : ℕ → Option (Option Run)) (not_run : (run : Run) → run_at p ≡ Some (Some run) → ⊥) where
    read_not : (tree : Tree) (other : Run) → IsStanding change kind_at run_at tree other → ReadsFirst p tree → ⊥
    read_not tree other s r =
        let is_p : s.reads.parameter ≡ p = reads_only p s.reads.parameter s.kind s.reads.named_kind s.reads.spans s.reads.named_spans (subst (ReadsFirst p) s.reads.is r) in
        not_run other (subst (λ d. run_at d ≡ Some (Some other)) is_p s.stands)

    untouched_there : (tree : Tree) (other : Run) → IsUntouched change tree_at tree other → ReadsFirst p tree → IsThere other
    untouched_there tree other h r = let there = same_there tree h.was h.same r in record { hole = there.hole; opened = there.opened; is = h.is ∙ there.is }

    doing_is : (label : Label) (doing : Doing) → evaluates label ≡ redone change.rename doing → (other : Label) × (doing ≡ evaluates other) × (label ≡ relabelled change.rename other)
    doing_is label (evaluates other) e = (other, refl, ap label_in e)
    doing_is label gives_truth e = absurd (cc)
    doing_is label gives_value e = absurd (cc)

    mutual
      stands_there : (tree : Tree) (other : Run) → Stands change kind_at tree_at run_at tree other → ReadsFirst p tree → IsThere other
      stands_there tree (done kind result locks) h r = absurd h
      stands_there (node label kind spans parts) (to_do doing other_kind place others) h (inl r) = absurd (by_parts others (subst (λ t. StandBelow change kind_at tree_at run_at (open_parts doing) (trees_of t) others) r.is h.3))
        where
          by_parts : (xs : Runs) → StandBelow change kind_at tree_at run_at (open_parts doing) (more_trees (node (object p) r.named_kind r.named_spans no_trees) no_trees) xs → ⊥
          by_parts no_runs k = k
          by_parts (more_runs x xs) (inl u, k) = by_same u.was u.same
            where
              by_same : (was : Tree) → IsSameBut change tree_at (node (object p) r.named_kind r.named_spans no_trees) was → ⊥
              by_same was (inl s) = not_renamed (label_of was) s.0
              by_same was (inr (reads, s, g)) = object_not_read p r.named_kind _ r.named_spans _ _ reads.is
          by_parts (more_runs x xs) (inr (o, inl s), k) = object_not_read p r.named_kind _ r.named_spans _ _ s.reads.is
          by_parts (more_runs (done x_kind x_result x_locks) xs) (inr (o, inr s), k) = s
          by_parts (more_runs (to_do x_doing x_kind x_place x_parts) xs) (inr (o, inr s), k) = by_doing (doing_is (object p) x_doing s.0)
            where
              by_doing : ((l : Label) × (x_doing ≡ evaluates l) × (object p ≡ relabelled change.rename l)) → ⊥
              by_doing (l, e, f) = not_renamed l f
      stands_there (node label kind spans parts) (to_do doing other_kind place others) h (inr r) =
          by_doing (doing_is label doing h.0)
          (all_stand_there (open_parts doing) parts others h.3 (subst (λ o. ReadsFirstBelow p o parts) (ap open_parts h.0 ∙ open_parts_redone change.rename doing) r))
        where
          by_doing : ((l : Label) × (doing ≡ evaluates l) × (label ≡ relabelled change.rename l)) → AreThere (open_parts doing) others → IsThere (to_do doing other_kind place others)
          by_doing (l, e, f) there = record { hole = within doing other_kind place there.holes; opened = there.opened; is = ap (to_do doing other_kind place) there.is }

      all_stand_there : (opens : Open) (trees : Trees) (others : Runs) → StandBelow change kind_at tree_at run_at opens trees others → ReadsFirstBelow p opens trees → AreThere opens others
      all_stand_there opens no_trees others h r = absurd r
      all_stand_there opens (more_trees first rest) no_runs h r = absurd h
      all_stand_there opens (more_trees first rest) (more_runs other others) (inl u, k) (inl r) = in_first_part opens other others r.0 (untouched_there first other u r.1)
      all_stand_there opens (more_trees first rest) (more_runs other others) (inr (o, inl s), k) (inl r) = absurd (read_not first other s r.1)
      all_stand_there opens (more_trees first rest) (more_runs other others) (inr (o, inr s), k) (inl r) = in_first_part opens other others r.0 (stands_there first other s r.1)
      all_stand_there opens (more_trees first rest) (more_runs other others) (h, k) (inr r) = in_other_part opens other others (all_stand_there (others_open opens) rest others k r)

    -- The argument stands where the expression may evaluate it at once.
    pub whole_there : (tree : Tree) (other : Run) → StandsWhole change kind_at tree_at run_at tree other → ReadsFirst p tree → IsThere other
    whole_there tree other (inl u) r = untouched_there tree other u r
    whole_there tree other (inr (inl s)) r = absurd (read_not tree other s r)
    whole_there tree other (inr (inr s)) r = stands_there tree other s r
