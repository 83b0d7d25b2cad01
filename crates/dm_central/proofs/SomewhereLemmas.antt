-- Where the old program has an untouched argument in the added function's expression whose parameter is read somewhere, it stands in a part.
use Rattle.std.specs.Prelude.{◌≡◌, refl, ◌⊎◌, ℕ, List, [], ◌∷◌, Option, Some, None, IsTrue, ◌++◌, if◌then◌else◌, true, false, Bool, ◌==◌}
use Rattle.std.proofs.Common.{ap, sym, ◌∙◌, subst, inl, inr}
use Rattle.dm_type.specs.CTypes.{CType}
use Rattle.dm_tree.specs.Trees.{Label, enumerator, object, function, read, convert, sizeof_kind, Spans, Tree, Trees, node, no_trees, more_trees, label_of, kind_of, trees_of}
use Rattle.dm_meaning.specs.Among.{IsAmong}
use Rattle.dm_meaning.specs.Values.{At}
use Rattle.dm_meaning.specs.Running.{Doing, evaluates, gives_truth, gives_value, Run, done, to_do, Runs, no_runs, more_runs, begun, all_begun, Open, first_open, others_open, open_of, open_parts, locks_in, locks_in_all, every, only_first, nothing}
use Rattle.dm_meaning.specs.Replaced.{relabelled}
use Rattle.dm_meaning.specs.Called.{Called}
use Rattle.dm_meaning.specs.CalledWithAll.{given}
use Rattle.dm_meaning.specs.Extending.{AreAmong}
use Rattle.dm_meaning.proofs.AmongLemmas.{among_left, among_right, among_either}
use Rattle.dm_meaning.proofs.ConstantLemmas.{no_locks}
use Rattle.dm_meaning.proofs.OptionLemmas.{none_is_some, some_is_some}
use Rattle.dm_meaning.proofs.RunLemmas.{redone}
use Rattle.dm_meaning.proofs.StandLemmas.{label_in}
use Rattle.dm_central.specs.Standing.{standing_of, standing_parts, StandsIn, StandsAmong}
use Rattle.dm_central.specs.Arguments.{Way, runs_at, at_once, untouched, IsSameBut, AreSameBut, IsUntouched, IsStanding, Stands, StandBelow, StandsWhole, ReadsSomewhere, ReadsBelow, ReadsFirst, ReadsFirstBelow}
use Rattle.dm_central.proofs.FirstPlaceLemmas.{same_parameter, object_not_read, its_own, not_renamed, not_the_same}
use Rattle.dm_central.proofs.StandingLemmas.{stands_self}

abbrev FirstBelow : ℕ → Trees → Type 0
FirstBelow p no_trees = Unit {0}
FirstBelow p (more_trees first rest) = (ReadsFirst p first → ReadsSomewhere p first) × FirstBelow p rest

-- what may be evaluated isn't in a type name
same_below : (p : ℕ) (opens : Open) (trees : Trees) → ReadsFirstBelow p opens trees → FirstBelow p trees → ReadsBelow p opens trees
same_below p opens no_trees h one = h
same_below p opens (more_trees first rest) (inl h) one = inl (h.0, one.0 h.1)
same_below p opens (more_trees first rest) (inr h) one = inr (same_below p (others_open opens) rest h one.1)

every_below : (p : ℕ) (opens : Open) (trees : Trees) → ReadsFirstBelow p opens trees → FirstBelow p trees → ReadsBelow p every trees
every_below p opens no_trees h one = h
every_below p opens (more_trees first rest) (inl h) one = inl (refl, one.0 h.1)
every_below p opens (more_trees first rest) (inr h) one = inr (every_below p (others_open opens) rest h one.1)

standing_below : (p : ℕ) (label : Label) (trees : Trees) → ReadsFirstBelow p (open_of label) trees → FirstBelow p trees → ReadsBelow p (standing_of label) trees
standing_below p convert trees h one = same_below p only_first trees h one
standing_below p (sizeof_kind type) trees h one = same_below p nothing trees h one
standing_below p label trees h one = every_below p (open_of label) trees h one

mutual
  -- what is read first is read
  pub first_somewhere : (p : ℕ) (tree : Tree) → ReadsFirst p tree → ReadsSomewhere p tree
  first_somewhere p (node label kind spans parts) (inl h) = inl h
  first_somewhere p (node label kind spans parts) (inr h) = inr (standing_below p label parts h (first_below p parts))

  first_below : (p : ℕ) (trees : Trees) → FirstBelow p trees
  first_below p no_trees = tt
  first_below p (more_trees first rest) = (λ h. first_somewhere p first h, first_below p rest)

-- a renamed form has its type names where it had them
standing_relabelled : (rename : ℕ → ℕ) (label : Label) → standing_of (relabelled rename label) ≡ standing_of label
standing_relabelled rename (object d) = refl
standing_relabelled rename (function d) = refl
standing_relabelled rename (enumerator d) = refl
standing_relabelled rename label = refl

standing_redone : (rename : ℕ → ℕ) (doing : Doing) → standing_parts (redone rename doing) ≡ standing_parts doing
standing_redone rename (evaluates label) = standing_relabelled rename label
standing_redone rename gives_truth = refl
standing_redone rename gives_value = refl

-- a parameter's read reads that one
reads_that : (p q : ℕ) (kind named_kind : CType) (spans named_spans : Spans) → ReadsSomewhere p (node read kind spans (more_trees (node (object q) named_kind named_spans no_trees) no_trees)) → q ≡ p
reads_that p q kind named_kind spans named_spans (inl h) = same_parameter q p kind h.kind spans h.spans named_kind h.named_kind named_spans h.named_spans h.is
reads_that p q kind named_kind spans named_spans (inr (inl (o, inl h))) = absurd (object_not_read q named_kind h.kind named_spans h.spans _ h.is)
reads_that p q kind named_kind spans named_spans (inr (inl (o, inr h))) = absurd h
reads_that p q kind named_kind spans named_spans (inr (inr h)) = absurd h

module _ (change : Called) (tree_at : ℕ → Option (Option Tree)) (p : ℕ) (own : (c : ℕ) → change.rename c ≡ p → ⊥) (argument : Tree) (stands : tree_at p ≡ Some (Some argument)) where
  abbrev IsThere : Run → Type 0
  IsThere other = StandsIn (begun argument) other

  below_there : (label : Label) (kind : CType) (spans : Spans) (others : Trees) → StandsAmong (begun argument) (standing_of label) (all_begun others) → IsThere (begun (node label kind spans others))
  below_there label kind spans others h = inr h

  mutual
    same_there : (tree was : Tree) → IsSameBut change tree_at tree was → ReadsSomewhere p tree → IsThere (begun was)
    same_there (node label kind spans parts) (node other other_kind other_spans others) (inl h) (inl r) =
        absurd (not_the_same change tree_at p own argument stands (node label kind spans parts) (node other other_kind other_spans others) r h.0 h.3)
    same_there (node label kind spans parts) (node other other_kind other_spans others) (inl h) (inr r) = below_there other other_kind other_spans others (all_same_there (standing_of other) parts others h.3 (subst (λ o. ReadsBelow p o parts) (ap standing_of h.0 ∙ standing_relabelled change.rename other) r))
    same_there (node label kind spans parts) was (inr (reads, e, g)) r =
        let is_p : reads.parameter ≡ p = reads_that p reads.parameter (kind_of was) reads.named_kind reads.spans reads.named_spans (subst (ReadsSomewhere p) reads.is r) in
        subst (λ t. IsThere (begun t)) (sym (its_own change tree_at p own argument stands was (subst (λ d. tree_at d ≡ Some (Some was)) is_p e))) (stands_self (begun argument))

    all_same_there : (stand : Open) (trees others : Trees) → AreSameBut change tree_at trees others → ReadsBelow p stand trees → StandsAmong (begun argument) stand (all_begun others)
    all_same_there stand no_trees others h r = absurd r
    all_same_there stand (more_trees first rest) no_trees h r = absurd h
    all_same_there stand (more_trees first rest) (more_trees other others) h (inl r) = inl (r.0, same_there first other h.0 r.1)
    all_same_there stand (more_trees first rest) (more_trees other others) h (inr r) = inr (all_same_there (others_open stand) rest others h.1 r)

  module _ (kind_at : ℕ → Option CType) (run_at : ℕ → Option (Option Run)) (not_run : (run : Run) → run_at p ≡ Some (Some run) → ⊥) where
    read_not : (tree : Tree) (other : Run) → IsStanding change kind_at run_at tree other → ReadsSomewhere p tree → ⊥
    read_not tree other s r =
        let is_p : s.reads.parameter ≡ p = reads_that p s.reads.parameter s.kind s.reads.named_kind s.reads.spans s.reads.named_spans (subst (ReadsSomewhere p) s.reads.is r) in
        not_run other (subst (λ d. run_at d ≡ Some (Some other)) is_p s.stands)

    untouched_there : (tree : Tree) (other : Run) → IsUntouched change tree_at tree other → ReadsSomewhere p tree → IsThere other
    untouched_there tree other h r = subst IsThere (sym h.is) (same_there tree h.was h.same r)

    doing_is : (label : Label) (doing : Doing) → evaluates label ≡ redone change.rename doing → (other : Label) × (doing ≡ evaluates other) × (label ≡ relabelled change.rename other)
    doing_is label (evaluates other) e = (other, refl, ap label_in e)
    doing_is label gives_truth e = absurd (cc)
    doing_is label gives_value e = absurd (cc)

    -- no part is the parameter's name
    no_name : (opens : Open) (named_kind : CType) (named_spans : Spans) (xs : Runs) → StandBelow change kind_at tree_at run_at opens (more_trees (node (object p) named_kind named_spans no_trees) no_trees) xs → ⊥
    no_name opens named_kind named_spans no_runs k = k
    no_name opens named_kind named_spans (more_runs x xs) (inl u, k) = by_same u.was u.same
      where
        by_same : (was : Tree) → IsSameBut change tree_at (node (object p) named_kind named_spans no_trees) was → ⊥
        by_same was (inl s) = not_renamed change tree_at p own argument stands (label_of was) s.0
        by_same was (inr (reads, s, g)) = object_not_read p named_kind _ named_spans _ _ reads.is
    no_name opens named_kind named_spans (more_runs x xs) (inr (o, inl s), k) = object_not_read p named_kind _ named_spans _ _ s.reads.is
    no_name opens named_kind named_spans (more_runs (done x_kind x_result x_locks) xs) (inr (o, inr s), k) = s
    no_name opens named_kind named_spans (more_runs (to_do x_doing x_kind x_place x_parts) xs) (inr (o, inr s), k) = by_doing (doing_is (object p) x_doing s.0)
      where
        by_doing : ((l : Label) × (x_doing ≡ evaluates l) × (object p ≡ relabelled change.rename l)) → ⊥
        by_doing (l, e, f) = not_renamed change tree_at p own argument stands l f

    mutual
      stands_there : (tree : Tree) (other : Run) → Stands change kind_at tree_at run_at tree other → ReadsSomewhere p tree → IsThere other
      stands_there tree (done kind result locks) h r = absurd h
      stands_there (node label kind spans parts) (to_do doing other_kind place others) h (inl r) =
          absurd (no_name (open_parts doing) r.named_kind r.named_spans others (subst (λ t. StandBelow change kind_at tree_at run_at (open_parts doing) (trees_of t) others) r.is h.3))
      stands_there (node label kind spans parts) (to_do doing other_kind place others) h (inr r) =
          inr (all_stand_there (standing_parts doing) (open_parts doing) parts others h.3 (subst (λ o. ReadsBelow p o parts) (ap standing_parts h.0 ∙ standing_redone change.rename doing) r))

      all_stand_there : (stand opens : Open) (trees : Trees) (others : Runs) → StandBelow change kind_at tree_at run_at opens trees others → ReadsBelow p stand trees → StandsAmong (begun argument) stand others
      all_stand_there stand opens no_trees others h r = absurd r
      all_stand_there stand opens (more_trees first rest) no_runs h r = absurd h
      all_stand_there stand opens (more_trees first rest) (more_runs other others) (inl u, k) (inl r) = inl (r.0, untouched_there first other u r.1)
      all_stand_there stand opens (more_trees first rest) (more_runs other others) (inr (o, inl s), k) (inl r) = absurd (read_not first other s r.1)
      all_stand_there stand opens (more_trees first rest) (more_runs other others) (inr (o, inr s), k) (inl r) = inl (r.0, stands_there first other s r.1)
      all_stand_there stand opens (more_trees first rest) (more_runs other others) (h, k) (inr r) = inr (all_stand_there (others_open stand) (others_open opens) rest others k r)

    -- The argument stands in the expression.
    pub whole_somewhere : (tree : Tree) (other : Run) → StandsWhole change kind_at tree_at run_at tree other → ReadsSomewhere p tree → IsThere other
    whole_somewhere tree other (inl u) r = untouched_there tree other u r
    whole_somewhere tree other (inr (inl s)) r = absurd (read_not tree other s r)
    whole_somewhere tree other (inr (inr s)) r = stands_there tree other s r

-- ---- the expression's locks

-- those of an expression with arguments in it are those of the arguments
module _ (change : Called) (kind_at : ℕ → Option CType) (tree_at : ℕ → Option (Option Tree)) (run_at : ℕ → Option (Option Run)) (locks : List At) (covered : (p : ℕ) (run : Run) → run_at p ≡ Some (Some run) → AreAmong (locks_in run) locks) where
  untouched_locks : (tree : Tree) (other : Run) → IsUntouched change tree_at tree other → AreAmong (locks_in other) locks
  untouched_locks tree other h lock l = absurd (subst (IsAmong lock) (ap locks_in h.is ∙ no_locks h.was) l)

  standing_locks : (tree : Tree) (other : Run) → IsStanding change kind_at run_at tree other → AreAmong (locks_in other) locks
  standing_locks tree other s lock l = covered s.reads.parameter other s.stands lock l

  mutual
    stands_locks : (tree : Tree) (other : Run) → Stands change kind_at tree_at run_at tree other → AreAmong (locks_in other) locks
    stands_locks tree (done kind result own_locks) h lock l = absurd h
    stands_locks (node label kind spans parts) (to_do doing other_kind place others) h lock l = below_locks (open_parts doing) parts others h.3 lock l

    below_locks : (opens : Open) (trees : Trees) (others : Runs) → StandBelow change kind_at tree_at run_at opens trees others → AreAmong (locks_in_all others) locks
    below_locks opens no_trees no_runs h lock l = absurd l
    below_locks opens no_trees (more_runs other others) h lock l = absurd h
    below_locks opens (more_trees first rest) no_runs h lock l = absurd h
    below_locks opens (more_trees first rest) (more_runs other others) (h, k) lock l =
        by_either h (among_either lock (locks_in other) (locks_in_all others) l) (λ s. stands_locks first other s lock) (below_locks (others_open opens) rest others k lock)
      where
        by_either : IsUntouched change tree_at first other ⊎ (IsTrue (first_open opens) × (IsStanding change kind_at run_at first other ⊎ Stands change kind_at tree_at run_at first other))
            → IsAmong lock (locks_in other) ⊎ IsAmong lock (locks_in_all others) → (Stands change kind_at tree_at run_at first other → IsAmong lock (locks_in other) → IsAmong lock locks)
            → (IsAmong lock (locks_in_all others) → IsAmong lock locks) → IsAmong lock locks
        by_either part (inr m) one more = more m
        by_either (inl u) (inl m) one more = untouched_locks first other u lock m
        by_either (inr (o, inl s)) (inl m) one more = standing_locks first other s lock m
        by_either (inr (o, inr s)) (inl m) one more = one s m

  pub whole_locks : (tree : Tree) (other : Run) → StandsWhole change kind_at tree_at run_at tree other → AreAmong (locks_in other) locks
  whole_locks tree other (inl u) = untouched_locks tree other u
  whole_locks tree other (inr (inl s)) = standing_locks tree other s
  whole_locks tree other (inr (inr s)) = stands_locks tree other s

-- those of an argument that stands in the old program are those of the arguments
pub given_locks : (ps : List ℕ) (ways : List Way) (inner : Runs) (p : ℕ) (run : Run) → given ps (runs_at ways inner) p ≡ Some (Some run) → AreAmong (locks_in run) (locks_in_all inner)
given_locks [] ways inner p run e lock l = absurd (none_is_some (Some run) e)
given_locks (q ∷ ps) [] inner p run e lock l = absurd (none_is_some (Some run) e)
given_locks (q ∷ ps) (way ∷ ways) no_runs p run e lock l = absurd (none_is_some (Some run) e)
given_locks (q ∷ ps) (at_once ∷ ways) (more_runs first rest) p run e lock l = by_name (q == p) e (given_locks ps ways rest p run)
  where
    by_name : (b : Bool) → (if b then Some (Some first) else given ps (runs_at ways rest) p) ≡ Some (Some run) → (given ps (runs_at ways rest) p ≡ Some (Some run) → AreAmong (locks_in run) (locks_in_all rest))
        → IsAmong lock (locks_in first ++ locks_in_all rest)
    by_name true f later = among_left lock (locks_in first) (locks_in_all rest) (subst (λ r. IsAmong lock (locks_in r)) (sym (some_is_some first run (some_is_some (Some first) (Some run) f))) l)
    by_name false f later = among_right lock (locks_in first) (locks_in_all rest) (later f lock l)
given_locks (q ∷ ps) (untouched tree ∷ ways) (more_runs first rest) p run e lock l = by_name (q == p) e (given_locks ps ways rest p run)
  where
    by_name : (b : Bool) → (if b then Some None else given ps (runs_at ways rest) p) ≡ Some (Some run) → (given ps (runs_at ways rest) p ≡ Some (Some run) → AreAmong (locks_in run) (locks_in_all rest))
        → IsAmong lock (locks_in first ++ locks_in_all rest)
    by_name true f later = absurd (none_is_some run (some_is_some None (Some run) f))
    by_name false f later = among_right lock (locks_in first) (locks_in_all rest) (later f lock l)
