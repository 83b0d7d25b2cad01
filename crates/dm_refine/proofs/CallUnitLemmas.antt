-- Aligned units, where a function is put in.
use Rattle.std.specs.Prelude.{◌≡◌, refl, ℕ, ◌+◌, ◌==◌, Bool, true, false, not, ◌||◌, List, [], ◌∷◌, ◌++◌, Option, Some, None, option_map}
use Rattle.std.specs.List.{list_any, AllByRecursion}
use Rattle.std.proofs.Common.{ap, sym, ◌∙◌, subst, inl, inr}
use Rattle.std.proofs.lemmas.Bool.{true≢false, false≢true}
use Rattle.dm_type.specs.CTypes.{CType, void, integer, pointer, array, struct, function as function_type, const}
use Rattle.dm_tree.specs.declared.unit.Sort.{Sort}
use Rattle.dm_tree.specs.Composites.{covers}
use Rattle.dm_tree.specs.Scenes.{is_function as is_function_type}
use Rattle.dm_tree.specs.Trees.{block, return, is_statement, Spans, Tree, node, no_trees, more_trees, label_of, parts_of, listed}
use Rattle.dm_tree.specs.Units.{Declaration, External}
use Rattle.dm_meaning.specs.Among.{IsAmong}
use Rattle.dm_meaning.specs.CalledWithAll.{AreDistinct}
use Rattle.dm_meaning.specs.Replaced.{Zipped, facts_of}
use Rattle.dm_meaning.specs.Statements.{Local, is_automatic_declaration, is_automatic_sort}
use Rattle.dm_meaning.specs.Units.{locals_by, locals_in, locals_in_all, locals_of, all_locals}
use Rattle.dm_meaning.proofs.OptionLemmas.{and_left, and_right}
use Rattle.dm_meaning.proofs.GrowLemmas.{equal_is}
use Rattle.dm_meaning.proofs.StatementLemmas.{zipped_append}
use Rattle.dm_align.specs.Units as aligned
use Rattle.dm_align.specs.Units.{Insertion, are_different}
use Rattle.dm_refine.proofs.CallPutLemmas.{single_tree}
use Rattle.dm_refine.proofs.ConstantLocalLemmas.{no_locals}
use Rattle.dm_refine.proofs.CallBodyLemmas.{not_true, or_true}

-- ---- the added definition

-- it declares nothing else
expression_locals : (tree : Tree) → is_statement (label_of tree) ≡ false → locals_in tree ≡ []
expression_locals (node label kind spans parts) e = no_locals label (listed parts) (locals_in_all parts) e

pub whole_locals : (whole body : Tree) (kind : CType) (spans : Spans) → label_of whole ≡ block → parts_of whole ≡ node return kind spans (more_trees body no_trees) ∷ [] → is_statement (label_of body) ≡ false
    → locals_in whole ≡ []
whole_locals (node label type own parts) body kind spans b e expression =
    ap (λ l. locals_by l (listed parts) (locals_in_all parts)) b
    ∙ (ap locals_in_all (single_tree parts (node return kind spans (more_trees body no_trees)) e) ∙ ap (λ (ls : List Local). (ls ++ []) ++ []) (expression_locals body expression))

pub locals_but_added : (Same : Local → Local → Type 0) (before behind others : List External) (external : External) → locals_of external.form ≡ []
    → Zipped (λ (one other : External). Zipped Same (locals_of one.form) (locals_of other.form)) (before ++ behind) others
    → Zipped Same (all_locals (before ++ external ∷ behind)) (all_locals others)
locals_but_added Same [] behind others external none h =
    subst (λ (ls : List Local). Zipped Same (ls ++ all_locals behind) (all_locals others)) (sym none) (all_same behind others h)
  where
    all_same : (externals others : List External) → Zipped (λ (one other : External). Zipped Same (locals_of one.form) (locals_of other.form)) externals others
        → Zipped Same (all_locals externals) (all_locals others)
    all_same [] [] k = tt
    all_same [] (other ∷ others) k = absurd k
    all_same (first ∷ rest) [] k = absurd k
    all_same (first ∷ rest) (other ∷ others) k =
        zipped_append Same (locals_of first.form) (locals_of other.form) (all_locals rest) (all_locals others) k.0 (all_same rest others k.1)
locals_but_added Same (first ∷ before) behind [] external none h = absurd h
locals_but_added Same (first ∷ before) behind (other ∷ others) external none h =
    zipped_append Same (locals_of first.form) (locals_of other.form) (all_locals (before ++ external ∷ behind)) (all_locals others) h.0 (locals_but_added Same before behind others external none h.1)

-- ---- facts of declarations

pub automatic_fact : Option (List ℕ × Sort × CType) → Bool
automatic_fact None = false
automatic_fact (Some facts) = is_automatic_sort facts.1

pub automatic_is : (found : Option Declaration) → is_automatic_declaration found ≡ automatic_fact (option_map facts_of found)
unfolding automatic_fact
automatic_is None = refl
automatic_is (Some entry) = refl

-- what covers a function type is one
covers_function : (whole type : CType) → covers whole type ≡ true → is_function_type type ≡ true → is_function_type whole ≡ true
covers_function (function_type result kinds) type h e = refl
covers_function whole (function_type result kinds) h e = by_whole whole h
  where
    by_whole : (one : CType) → covers one (function_type result kinds) ≡ true → is_function_type one ≡ true
    by_whole (function_type other others) k = refl
    by_whole void k = absurd (false≢true k)
    by_whole (integer kind) k = absurd (false≢true k)
    by_whole (pointer inner) k = absurd (false≢true k)
    by_whole (array inner n) k = absurd (false≢true k)
    by_whole (struct n) k = absurd (false≢true k)
    by_whole (const inner) k = absurd (false≢true k)
covers_function whole void h e = absurd (false≢true e)
covers_function whole (integer kind) h e = absurd (false≢true e)
covers_function whole (pointer inner) h e = absurd (false≢true e)
covers_function whole (array inner n) h e = absurd (false≢true e)
covers_function whole (struct n) h e = absurd (false≢true e)
covers_function whole (const inner) h e = absurd (false≢true e)

pub no_function : (whole type : CType) → covers whole type ≡ true → is_function_type whole ≡ false → is_function_type type ≡ false
no_function whole type h e = by_bool (is_function_type type) refl
  where
    by_bool : (b : Bool) → is_function_type type ≡ b → is_function_type type ≡ false
    by_bool false n = n
    by_bool true n = absurd (true≢false (sym (covers_function whole type h n) ∙ e))

-- ---- parameters

among_any : (d : ℕ) (ds : List ℕ) → IsAmong d ds → list_any (λ c. c == d) ds ≡ true
among_any d [] h = absurd h
among_any d (c ∷ ds) (inl e) = ap (λ b. b || list_any (λ c. c == d) ds) (equal_is c d (sym e))
among_any d (c ∷ ds) (inr k) = or_true (c == d) (list_any (λ c. c == d) ds) (among_any d ds k)

pub distinct_of : (ps : List ℕ) → are_different ps ≡ true → AreDistinct ps
distinct_of [] e = tt
distinct_of (p ∷ ps) e = (
  λ k. true≢false (sym (among_any p ps k) ∙ not_true (list_any (λ c. c == p) ps) (and_left (not (list_any (λ c. c == p) ps)) (are_different ps) e)),
  distinct_of ps (and_right (not (list_any (λ c. c == p) ps)) (are_different ps) e),
)

pub all_put : (put : Insertion) (ps : List ℕ) → AllByRecursion (aligned.IsPut put) ps → (p : ℕ) → IsAmong p ps → aligned.IsPut put p
all_put put [] h p k = absurd k
all_put put (q ∷ ps) h p (inl e) = subst (aligned.IsPut put) (sym e) h.0
all_put put (q ∷ ps) h p (inr k) = all_put put ps h.1 p k
