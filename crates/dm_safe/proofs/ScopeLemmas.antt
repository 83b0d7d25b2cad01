-- What is named in a full expression under evaluation is in scope there.
use Rattle.std.specs.Prelude.{◌≡◌, refl, ◌⊎◌, ℕ, zero, suc, Bool, true, false, not, ◌&&◌, IsTrue, MatchBool, [], ◌∷◌, Some}
use Rattle.std.proofs.Common.{ap, sym, ◌∙◌, subst, inl, inr, true≢false}
use Rattle.std.proofs.lemmas.Bool.{false≢true}
use Rattle.dm_token.specs.declared.place.Place.{Place}
use Rattle.dm_type.specs.CTypes.{CType}
use Rattle.dm_tree.specs.Trees.{Label, object, convert, both, either, choose, comma, sizeof_kind, block, declare, for_loop, is_statement, Spans, Tree, Trees, node, no_trees, more_trees, label_of, trees_of}
use Rattle.dm_meaning.specs.Among.{IsAmong}
use Rattle.dm_meaning.specs.Objects.{Layout}
use Rattle.dm_meaning.specs.Running.{Doing, evaluates, gives_truth, gives_value, Run, done, to_do, Runs, no_runs, more_runs, begun, Open, every, only_first, nothing, first_open, others_open, open_of}
use Rattle.dm_meaning.specs.Wholes.{is_expression, are_expressions}
use Rattle.dm_meaning.proofs.OptionLemmas.{and_left, and_right}
use Rattle.dm_sound.specs.TypedRuns.{only, is_logical, ComesFrom, AllComeFrom}
use Rattle.dm_sound.proofs.ComeLemmas.{begun_comes}
use Rattle.dm_effect.specs.Scoped.{Scope, same_scopes, scopes_of}
use Rattle.dm_initialised.specs.Settled.{NameIsSettled, IsSettled, AreSettled}
use Rattle.dm_central.specs.Standing.{standing_of, StandsIn, StandsAmong}

-- ---- trees under evaluation in which no statement is

abbrev pub WholeDoing : Doing → Type 0
WholeDoing (evaluates label) = is_statement label ≡ false
WholeDoing gives_truth = Unit {0}
WholeDoing gives_value = Unit {0}

abbrev mutual
  pub WholeRun : Run → Type 0
  WholeRun (done kind result locks) = Unit {0}
  WholeRun (to_do doing kind place parts) = WholeDoing doing × WholeRuns parts

  pub WholeRuns : Runs → Type 0
  WholeRuns no_runs = Unit {0}
  WholeRuns (more_runs first rest) = WholeRun first × WholeRuns rest

not_statement : (b : Bool) → not b ≡ true → b ≡ false
not_statement true e = absurd (false≢true e)
not_statement false e = refl

pub only_whole : (n : ℕ) (trees : Trees) → are_expressions trees ≡ true → are_expressions (only n trees) ≡ true
only_whole n no_trees e = refl
only_whole zero (more_trees first rest) e = alone (is_expression first) (and_left (is_expression first) (are_expressions rest) e)
  where
    alone : (b : Bool) → b ≡ true → (b && true) ≡ true
    alone true f = refl
    alone false f = f
only_whole (suc n) (more_trees first rest) e = only_whole n rest (and_right (is_expression first) (are_expressions rest) e)

pub below_whole : (tree : Tree) → is_expression tree ≡ true → are_expressions (trees_of tree) ≡ true
below_whole (node label kind spans parts) e = and_right (not (is_statement label)) (are_expressions parts) e

label_whole : (tree : Tree) → is_expression tree ≡ true → is_statement (label_of tree) ≡ false
label_whole (node label kind spans parts) e = not_statement (is_statement label) (and_left (not (is_statement label)) (are_expressions parts) e)

module _ (laid : Layout) where
  pub part_comes : (b : Bool) (tree : Tree) (run : Run) → MatchBool b (ComesFrom laid tree run) (run ≡ begun tree) → ComesFrom laid tree run
  part_comes true tree run h = h
  part_comes false tree run h = subst (ComesFrom laid tree) (sym h) (begun_comes laid tree)

  mutual
    pub comes_whole : (tree : Tree) (run : Run) → ComesFrom laid tree run → is_expression tree ≡ true → WholeRun run
    comes_whole tree (done kind result locks) h e = tt
    comes_whole tree (to_do (evaluates label) kind place parts) h e = (ap is_statement h.1.0 ∙ label_whole tree e, all_come_whole (open_of label) (trees_of tree) parts h.1.1 (below_whole tree e))
    comes_whole tree (to_do gives_truth kind place parts) h e = (tt, all_come_whole every (only 1 (trees_of tree)) parts h.1.1 (only_whole 1 (trees_of tree) (below_whole tree e)))
    comes_whole tree (to_do gives_value kind place parts) h e =
        (tt, by_label h.1 (λ k. all_come_whole every (only 1 (trees_of tree)) parts k (only_whole 1 (trees_of tree) (below_whole tree e))) (λ k. all_come_whole every (only 2 (trees_of tree)) parts k (only_whole 2 (trees_of tree) (below_whole tree e))))
      where
        by_label : ((label_of tree ≡ comma) × AllComeFrom laid every (only 1 (trees_of tree)) parts)
            ⊎ ((label_of tree ≡ choose) × (AllComeFrom laid every (only 1 (trees_of tree)) parts ⊎ AllComeFrom laid every (only 2 (trees_of tree)) parts))
            → (AllComeFrom laid every (only 1 (trees_of tree)) parts → WholeRuns parts) → (AllComeFrom laid every (only 2 (trees_of tree)) parts → WholeRuns parts) → WholeRuns parts
        by_label (inl (f, k)) second third = second k
        by_label (inr (f, inl k)) second third = second k
        by_label (inr (f, inr k)) second third = third k

    all_come_whole : (opens : Open) (trees : Trees) (runs : Runs) → AllComeFrom laid opens trees runs → are_expressions trees ≡ true → WholeRuns runs
    all_come_whole opens no_trees no_runs h e = tt
    all_come_whole opens no_trees (more_runs first rest) h e = absurd h
    all_come_whole opens (more_trees tree trees) no_runs h e = absurd h
    all_come_whole opens (more_trees tree trees) (more_runs run runs) h e =
        (comes_whole tree run (part_comes (first_open opens) tree run h.0) (and_left (is_expression tree) (are_expressions trees) e), all_come_whole (others_open opens) trees runs h.1 (and_right (is_expression tree) (are_expressions trees) e))

-- ---- names in scope

-- where parts stand, they have the scope of the whole
abbrev IsSame : Scope → Label → Type 0
IsSame scope label = (standing_of label ≡ every) × ((parts : Trees) → scopes_of scope label parts ≡ same_scopes scope parts)

same_label : (scope : Scope) (label : Label) → is_statement label ≡ false → IsSame scope label ⊎ ((label ≡ convert) ⊎ ((type : CType) × (label ≡ sizeof_kind type)))
same_label scope convert e = inr (inl refl)
same_label scope (sizeof_kind type) e = inr (inr (type, refl))
same_label scope block e = absurd (true≢false e)
same_label scope (declare lengths declarators) e = absurd (true≢false e)
same_label scope (for_loop first second third) e = absurd (true≢false e)
same_label scope label e = inl (refl, λ parts. refl)

nothing_stands : (part : Run) (runs : Runs) → StandsAmong part nothing runs → ⊥
nothing_stands part no_runs h = h
nothing_stands part (more_runs first rest) (inl h) = false≢true h.0
nothing_stands part (more_runs first rest) (inr h) = nothing_stands part rest h

doing_is : (l : Doing) (d : ℕ) (kind own : CType) (place spot : Place) (parts : Runs) → to_do l kind place parts ≡ to_do (evaluates (object d)) own spot no_runs → l ≡ evaluates (object d)
doing_is l d kind own place spot parts e = ap doing_of e
  where
    doing_of : Run → Doing
    doing_of (done k r ls) = gives_value
    doing_of (to_do doing k p ps) = doing

label_is : (l m : Label) → evaluates l ≡ evaluates m → l ≡ m
label_is l m e = cc

module _ (laid : Layout) (needs : ℕ → Bool) (scope : Scope) (d : ℕ) (needed : needs d ≡ true) (named_kind : CType) (named_place : Place) where
  abbrev name : Run
  name = to_do (evaluates (object d)) named_kind named_place no_runs

  not_truth : (kind : CType) (place : Place) (parts : Runs) → to_do gives_truth kind place parts ≡ name → ⊥
  not_truth kind place parts e = cc (doing_is gives_truth d kind named_kind place named_place parts e)

  not_value : (kind : CType) (place : Place) (parts : Runs) → to_do gives_value kind place parts ≡ name → ⊥
  not_value kind place parts e = cc (doing_is gives_value d kind named_kind place named_place parts e)

  -- parts in one scope
  abbrev EachSettled : Trees → Type 0
  EachSettled no_trees = Unit {0}
  EachSettled (more_trees first rest) = IsSettled needs scope first × EachSettled rest

  each_settled : (trees : Trees) → AreSettled needs (same_scopes scope trees) trees → EachSettled trees
  each_settled no_trees h = tt
  each_settled (more_trees first rest) h = (h.0, each_settled rest h.1)

  only_settled : (n : ℕ) (trees : Trees) → EachSettled trees → EachSettled (only n trees)
  only_settled n no_trees h = tt
  only_settled zero (more_trees first rest) h = (h.0, tt)
  only_settled (suc n) (more_trees first rest) h = only_settled n rest h.1

  own_name : (label l : Label) (kind own : CType) (place : Place) (spans : Spans) (trees : Trees) (parts : Runs) → l ≡ label → to_do (evaluates l) kind place parts ≡ name → IsSettled needs scope (node label own spans trees) → IsAmong d scope
  own_name label l kind own place spans trees parts e f h =
      by_object label (sym e ∙ label_is l (object d) (doing_is (evaluates l) d kind named_kind place named_place parts f)) h
    where
      by_object : (m : Label) → m ≡ object d → IsSettled needs scope (node m own spans trees) → IsAmong d scope
      by_object m g k = (subst (λ t. NameIsSettled needs scope t) g k.0) needed

  mutual
    pub name_in_scope : (tree : Tree) (run : Run) → ComesFrom laid tree run → WholeRun run → IsSettled needs scope tree → StandsIn name run → IsAmong d scope
    name_in_scope tree (done kind result locks) h w s e = absurd (cc)
    name_in_scope (node label kind spans trees) (to_do (evaluates l) own place parts) h w s (inl e) = own_name label l own kind place spans trees parts h.1.0 e s
    name_in_scope (node label kind spans trees) (to_do (evaluates l) own place parts) h w s (inr k) =
        by_label (same_label scope label (ap is_statement (sym h.1.0) ∙ w.0)) (λ same e. all_in_scope (open_of l) trees parts h.1.1 w.1 (each_settled trees (subst (λ scopes. AreSettled needs scopes trees) (same.1 trees) s.2)) e)
        (λ settled e. first_in_scope (open_of l) trees parts h.1.1 w.1 settled e)
      where
        standing : standing_of l ≡ standing_of label
        standing = ap standing_of h.1.0

        by_label : IsSame scope label ⊎ ((label ≡ convert) ⊎ ((type : CType) × (label ≡ sizeof_kind type))) → (IsSame scope label → StandsAmong name every parts → IsAmong d scope)
            → (AreSettled needs (Some scope ∷ []) trees → StandsAmong name only_first parts → IsAmong d scope) → IsAmong d scope
        by_label (inl same) all first = all same (subst (λ stand. StandsAmong name stand parts) (standing ∙ same.0) k)
        by_label (inr (inl e)) all first = first (subst (λ m. AreSettled needs (scopes_of scope m trees) trees) e s.2) (subst (λ stand. StandsAmong name stand parts) (standing ∙ ap standing_of e) k)
        by_label (inr (inr (type, e))) all first = absurd (nothing_stands name parts (subst (λ stand. StandsAmong name stand parts) (standing ∙ ap standing_of e) k))
    name_in_scope tree (to_do gives_truth own place parts) h w s (inl e) = absurd (not_truth own place parts e)
    name_in_scope (node label kind spans trees) (to_do gives_truth own place parts) h w s (inr k) =
        all_in_scope every (only 1 trees) parts h.1.1 w.1 (only_settled 1 trees (each_settled trees (by_logical label h.1.0 s.2))) k
      where
        by_logical : (m : Label) → IsTrue (is_logical m) → AreSettled needs (scopes_of scope m trees) trees → AreSettled needs (same_scopes scope trees) trees
        by_logical both e t = t
        by_logical either e t = t
        by_logical m e t = absurd (false≢true e)
    name_in_scope tree (to_do gives_value own place parts) h w s (inl e) = absurd (not_value own place parts e)
    name_in_scope (node label kind spans trees) (to_do gives_value own place parts) h w s (inr k) =
        by_chosen h.1 (λ settled come. all_in_scope every (only 1 trees) parts come w.1 (only_settled 1 trees settled) k) (λ settled come. all_in_scope every (only 2 trees) parts come w.1 (only_settled 2 trees settled) k)
      where
        settled_in : (m : Label) → label ≡ m → AreSettled needs (scopes_of scope m trees) trees
        settled_in m e = subst (λ l. AreSettled needs (scopes_of scope l trees) trees) e s.2

        by_chosen : ((label ≡ comma) × AllComeFrom laid every (only 1 trees) parts) ⊎ ((label ≡ choose) × (AllComeFrom laid every (only 1 trees) parts ⊎ AllComeFrom laid every (only 2 trees) parts))
            → (EachSettled trees → AllComeFrom laid every (only 1 trees) parts → IsAmong d scope) → (EachSettled trees → AllComeFrom laid every (only 2 trees) parts → IsAmong d scope) → IsAmong d scope
        by_chosen (inl (e, come)) second third = second (each_settled trees (settled_in comma e)) come
        by_chosen (inr (e, inl come)) second third = second (each_settled trees (settled_in choose e)) come
        by_chosen (inr (e, inr come)) second third = third (each_settled trees (settled_in choose e)) come

    all_in_scope : (opens : Open) (trees : Trees) (runs : Runs) → AllComeFrom laid opens trees runs → WholeRuns runs → EachSettled trees → StandsAmong name every runs → IsAmong d scope
    all_in_scope opens no_trees no_runs h w s k = absurd k
    all_in_scope opens no_trees (more_runs first rest) h w s k = absurd h
    all_in_scope opens (more_trees tree trees) no_runs h w s k = absurd k
    all_in_scope opens (more_trees tree trees) (more_runs run runs) h w s (inl k) = name_in_scope tree run (part_comes laid (first_open opens) tree run h.0) w.0 s.0 k.1
    all_in_scope opens (more_trees tree trees) (more_runs run runs) h w s (inr k) = all_in_scope (others_open opens) trees runs h.1 w.1 s.1 k

    first_in_scope : (opens : Open) (trees : Trees) (runs : Runs) → AllComeFrom laid opens trees runs → WholeRuns runs → AreSettled needs (Some scope ∷ []) trees → StandsAmong name only_first runs → IsAmong d scope
    first_in_scope opens no_trees no_runs h w s k = absurd k
    first_in_scope opens no_trees (more_runs first rest) h w s k = absurd h
    first_in_scope opens (more_trees tree trees) no_runs h w s k = absurd k
    first_in_scope opens (more_trees tree trees) (more_runs run runs) h w s (inl k) = name_in_scope tree run (part_comes laid (first_open opens) tree run h.0) w.0 s.0 k.1
    first_in_scope opens (more_trees tree trees) (more_runs run runs) h w s (inr k) = absurd (nothing_stands name runs k)
