-- Arguments that pass the test for stable ones are stable, as the late reading of arguments asks it.
--     closed_in unit d      an object of automatic storage duration and scalar type, whose address is taken nowhere
--     stable_around      what passes beside some trees is stable beside them
--     stable_beside      beside others too, each of which neither stores nor calls, or stands in one of them; and so are its parts
use Rattle.std.specs.Prelude.{◌≡◌, refl, ◌⊎◌, ℕ, Bool, true, false, ◌&&◌, ◌||◌, not, List, [], ◌∷◌, Option, Some, None, slice_get, if◌then◌else◌}
use Rattle.std.specs.List.{list_any, list_all, filter_map, cons_option, AllByRecursion}
use Rattle.std.proofs.Common.{ap, sym, ◌∙◌, subst, inl, inr}
use Rattle.std.proofs.lemmas.Bool.{true≢false, false≢true}
use Rattle.std.proofs.lemmas.List.Folds.{list_any-append}
use Rattle.dm_type.specs.CTypes.{CType}
use Rattle.dm_tree.specs.Paths.{Path, tree_at, all_in, all_in_trees}
use Rattle.dm_tree.specs.Scenes.{Scene}
use Rattle.dm_tree.specs.Trees.{Label, number, enumerator, object, function, read, decay, address, store, update, count, call, Spans, Tree, Trees, node, no_trees, more_trees, trees_of, listed, is_statement}
use Rattle.dm_tree.specs.Typing.{Fits, inside, IsWellTyped, AreWellTyped}
use Rattle.dm_tree.specs.Units.{TypedUnit}
use Rattle.dm_meaning.specs.Among.{IsAmong}
use Rattle.dm_meaning.specs.Running.{begun, all_begun}
use Rattle.dm_meaning.proofs.OptionLemmas.{and_left, and_right}
use Rattle.dm_effect.specs.Entities.{object_first, is_named, is_store, is_addressed, writes, writes_here}
use Rattle.dm_effect.specs.Forms.{settled, by_parts, ruled, is_built, are_built, all_there}
use Rattle.dm_effect.specs.Quiet.{disturbs, is_quiet_with, is_quiet, is_one_of, quiet_functions, before}
use Rattle.dm_effect.specs.Sequencing.{around, beside}
use Rattle.dm_effect.specs.Stable.{is_call, acts, is_pure, is_scalar_local, stays, steady_rule, is_steady, is_stable_among}
use Rattle.dm_rewrite.specs.Computed.{is_pure_label, IsPure, ArePure}
use Rattle.dm_central.specs.QuietFrames.{is_quiet_node, WritesNothing, AllWriteNothing}
use Rattle.dm_late.specs.Late.{Judged, NotWritten, NoneWritten, ReadsSteady, IsSteady, AreSteady, IsStable}
use Rattle.dm_steady.proofs.PartLemmas.{IsPartOf, inherited, IsTyped, typed_part}

-- ---- tests

pub not_false : (b : Bool) → not b ≡ true → b ≡ false
not_false true e = absurd (false≢true e)
not_false false e = refl

pub not_true : (b : Bool) → not b ≡ false → b ≡ true
not_true true e = refl
not_true false e = absurd (true≢false e)

pub neither : (a b : Bool) → (a || b) ≡ false → (a ≡ false) × (b ≡ false)
neither true b e = absurd (true≢false e)
neither false b e = (refl, e)

-- ---- trees in which no node passes a test

module _ (test : Tree → Bool) (P : Tree → Type 0) (All : Trees → Type 0) (none : All no_trees) (more : (first : Tree) (rest : Trees) → P first → All rest → All (more_trees first rest))
    (here : (label : Label) (kind : CType) (spans : Spans) (parts : Trees) → test (node label kind spans parts) ≡ false → All parts → P (node label kind spans parts)) where
  mutual
    pub nowhere : (tree : Tree) → list_any test (all_in tree) ≡ false → P tree
    nowhere (node label kind spans parts) e =
        let both = neither (test (node label kind spans parts)) (list_any test (all_in_trees parts)) e in here label kind spans parts both.0 (nowhere_below parts both.1)

    nowhere_below : (trees : Trees) → list_any test (all_in_trees trees) ≡ false → All trees
    nowhere_below no_trees e = none
    nowhere_below (more_trees first rest) e =
        let both = neither (list_any test (all_in first)) (list_any test (all_in_trees rest)) (sym (list_any-append test (all_in first) (all_in_trees rest)) ∙ e) in
        more first rest (nowhere first both.0) (nowhere_below rest both.1)

-- ---- nothing in it stores or calls

pure_label : (label : Label) → (is_call label || is_store label) ≡ false → is_pure_label label ≡ true
pure_label store e = absurd (true≢false e)
pure_label (update op works) e = absurd (true≢false e)
pure_label (count plus before) e = absurd (true≢false e)
pure_label call e = absurd (true≢false e)
pure_label label e = refl

pub pure_argument : (tree : Tree) → is_pure tree ≡ true → IsPure (begun tree)
pure_argument tree e =
    nowhere acts (λ t. IsPure (begun t)) (λ ts. ArePure (all_begun ts)) tt (λ first rest h k. (h, k)) (λ label kind spans parts e h. (pure_label label e, h)) tree
    (not_false (list_any acts (all_in tree)) e)

-- so it writes nothing
pure_no_store : (d : ℕ) (label : Label) (kind : CType) (spans : Spans) (parts : Trees) → is_pure_label label ≡ true → writes_here d (node label kind spans parts) ≡ false
pure_no_store d store kind spans parts e = absurd (false≢true e)
pure_no_store d (update op works) kind spans parts e = absurd (false≢true e)
pure_no_store d (count plus before) kind spans parts e = absurd (false≢true e)
pure_no_store d label kind spans parts e = refl

pure_no_call : (quiet : ℕ → Bool) (label : Label) (parts : Trees) → is_pure_label label ≡ true → is_quiet_node quiet label parts ≡ true
pure_no_call quiet store parts e = absurd (false≢true e)
pure_no_call quiet (update op works) parts e = absurd (false≢true e)
pure_no_call quiet (count plus before) parts e = absurd (false≢true e)
pure_no_call quiet call parts e = absurd (false≢true e)
pure_no_call quiet label parts e = refl

mutual
  pure_quiet : (quiet : ℕ → Bool) (tree : Tree) → IsPure (begun tree) → WritesNothing quiet tree
  pure_quiet quiet (node label kind spans parts) h = (pure_no_call quiet label parts h.0, all_pure_quiet quiet parts h.1)

  all_pure_quiet : (quiet : ℕ → Bool) (trees : Trees) → ArePure (all_begun trees) → AllWriteNothing quiet trees
  all_pure_quiet quiet no_trees h = tt
  all_pure_quiet quiet (more_trees first rest) h = (pure_quiet quiet first h.0, all_pure_quiet quiet rest h.1)

mutual
  pure_unwritten : (d : ℕ) (tree : Tree) → IsPure (begun tree) → NotWritten d tree
  pure_unwritten d (node label kind spans parts) h = (pure_no_store d label kind spans parts h.0, all_pure_unwritten d parts h.1)

  all_pure_unwritten : (d : ℕ) (trees : Trees) → ArePure (all_begun trees) → NoneWritten d trees
  all_pure_unwritten d no_trees h = tt
  all_pure_unwritten d (more_trees first rest) h = (pure_unwritten d first h.0, all_pure_unwritten d rest h.1)

-- ---- what the parts of a tree have of it

pure_opens : (tree : Tree) → IsPure (begun tree) → ArePure (all_begun (trees_of tree))
pure_opens (node label kind spans parts) h = h.1

pub pure_part : (part whole : Tree) → IsPartOf part whole → IsPure (begun whole) → IsPure (begun part)
pure_part = inherited (λ tree. IsPure (begun tree)) (λ trees. ArePure (all_begun trees)) (λ first rest h. h) pure_opens

quiet_opens : (quiet : ℕ → Bool) (tree : Tree) → WritesNothing quiet tree → AllWriteNothing quiet (trees_of tree)
quiet_opens quiet (node label kind spans parts) h = h.1

quiet_part : (quiet : ℕ → Bool) (part whole : Tree) → IsPartOf part whole → WritesNothing quiet whole → WritesNothing quiet part
quiet_part quiet = inherited (WritesNothing quiet) (AllWriteNothing quiet) (λ first rest h. h) (quiet_opens quiet)

unwritten_opens : (d : ℕ) (tree : Tree) → NotWritten d tree → NoneWritten d (trees_of tree)
unwritten_opens d (node label kind spans parts) h = h.1

unwritten_part : (d : ℕ) (part whole : Tree) → IsPartOf part whole → NotWritten d whole → NotWritten d part
unwritten_part d = inherited (NotWritten d) (NoneWritten d) (λ first rest h. h) (unwritten_opens d)

steady_opens : (judged : Judged) (trees : List Tree) (tree : Tree) → IsSteady judged trees tree → AreSteady judged trees (trees_of tree)
steady_opens judged trees (node label kind spans parts) h = h.1

steady_part : (judged : Judged) (trees : List Tree) (part whole : Tree) → IsPartOf part whole → IsSteady judged trees whole → IsSteady judged trees part
steady_part judged trees = inherited (IsSteady judged trees) (AreSteady judged trees) (λ first rest h. h) (steady_opens judged trees)

-- ---- other trees beside it

-- a tree neither stores nor calls, or stands in one of these
pub data IsCovered (trees : List Tree) (tree : Tree) : Type 0 where
  pure : IsPure (begun tree) → IsCovered trees tree
  within : (whole : Tree) → IsAmong whole trees → IsPartOf tree whole → IsCovered trees tree

of_each : (P : Tree → Type 0) (trees : List Tree) → AllByRecursion P trees → (tree : Tree) → IsAmong tree trees → P tree
of_each P [] h tree l = absurd l
of_each P (first ∷ rest) h tree (inl e) = subst P (sym e) h.0
of_each P (first ∷ rest) h tree (inr k) = of_each P rest h.1 tree k

module _ (judged : Judged) (trees : List Tree) where
  module _ (P : Tree → Type 0) (by_pure : (tree : Tree) → IsPure (begun tree) → P tree) (down : (part whole : Tree) → IsPartOf part whole → P whole → P part) (h : AllByRecursion P trees) where
    covered_has : (tree : Tree) → IsCovered trees tree → P tree
    covered_has tree (pure is) = by_pure tree is
    covered_has tree (within whole among part) = down tree whole part (of_each P trees h whole among)

    all_covered_have : (others : List Tree) → AllByRecursion (IsCovered trees) others → AllByRecursion P others
    all_covered_have [] k = tt
    all_covered_have (other ∷ others) k = (covered_has other k.0, all_covered_have others k.1)

  module _ (others : List Tree) (covered : AllByRecursion (IsCovered trees) others) where
    read_moved : (label : Label) (parts : Trees) → ReadsSteady judged trees label parts → ReadsSteady judged others label parts
    read_moved read (more_trees (node (object d) kind spans no_trees) no_trees) h =
        (h.0, all_covered_have (NotWritten d) (pure_unwritten d) (unwritten_part d) h.1 others covered)
    read_moved read no_trees h = absurd h
    read_moved read (more_trees (node (object d) kind spans no_trees) (more_trees second rest)) h = absurd h
    read_moved read (more_trees (node (object d) kind spans (more_trees below more)) rest) h = absurd h
    read_moved read (more_trees (node label kind spans parts) rest) h = absurd h
    read_moved label parts h = tt

    mutual
      steady_moved : (tree : Tree) → IsSteady judged trees tree → IsSteady judged others tree
      steady_moved (node label kind spans parts) h = (read_moved label parts h.0, all_steady_moved parts h.1)

      all_steady_moved : (parts : Trees) → AreSteady judged trees parts → AreSteady judged others parts
      all_steady_moved no_trees h = tt
      all_steady_moved (more_trees first rest) h = (steady_moved first h.0, all_steady_moved rest h.1)

    pub stable_beside : (argument part : Tree) → IsPartOf part argument → IsStable judged trees argument → IsStable judged others part
    stable_beside argument part is h = (pure_part part argument is h.0, by_case h.1)
      where
        by_case : AllByRecursion (WritesNothing judged.quiet) trees ⊎ IsSteady judged trees argument → AllByRecursion (WritesNothing judged.quiet) others ⊎ IsSteady judged others part
        by_case (inl quiet) = inl (all_covered_have (WritesNothing judged.quiet) (pure_quiet judged.quiet) (quiet_part judged.quiet) quiet others covered)
        by_case (inr steady) = inr (steady_moved part (steady_part judged trees part argument is steady))

-- ---- trees that pass the test

-- the function's name in a call has no parts
quiet_node : (passes quiet : ℕ → Bool) → ((g : ℕ) → passes g ≡ true → quiet g ≡ true) → (scene : Scene) (label : Label) (kind : CType) (spans : Spans) (parts : Trees) → Fits scene label kind (listed parts)
    → disturbs passes (node label kind spans parts) ≡ false → is_quiet_node quiet label parts ≡ true
quiet_node passes quiet up scene call kind spans (more_trees (node (function g) type name no_trees) rest) fits e = up g (not_true (passes g) e)
quiet_node passes quiet up scene call kind spans (more_trees (node (function g) type name (more_trees below others)) rest) fits e = absurd fits
quiet_node passes quiet up scene call kind spans (more_trees (node label type name below) rest) fits e = absurd fits
quiet_node passes quiet up scene call kind spans no_trees fits e = absurd fits
quiet_node passes quiet up scene store kind spans parts fits e = absurd (true≢false e)
quiet_node passes quiet up scene (update op works) kind spans parts fits e = absurd (true≢false e)
quiet_node passes quiet up scene (count plus before) kind spans parts fits e = absurd (true≢false e)
quiet_node passes quiet up scene label kind spans parts fits e = refl

pub quiet_tree : (passes quiet : ℕ → Bool) → ((g : ℕ) → passes g ≡ true → quiet g ≡ true) → (tree : Tree) → IsTyped tree → is_quiet_with passes tree ≡ true → WritesNothing quiet tree
quiet_tree passes quiet up tree typed e =
    nowhere (disturbs passes) (λ t. (scene : Scene) → IsWellTyped scene t → WritesNothing quiet t) (λ ts. (scene : Scene) → AreWellTyped scene ts → AllWriteNothing quiet ts)
    (λ scene h. tt) (λ first rest h k scene t. (h scene t.0, k scene t.1))
    (λ label kind spans parts e h scene t. (quiet_node passes quiet up scene label kind spans parts t.0 e, h (inside scene label (listed parts)) t.1)) tree
    (not_false (list_any (disturbs passes) (all_in tree)) e) typed.0 typed.1

unwritten_tree : (d : ℕ) (tree : Tree) → writes d tree ≡ false → NotWritten d tree
unwritten_tree d = nowhere (writes_here d) (NotWritten d) (NoneWritten d) tt (λ first rest h k. (h, k)) (λ label kind spans parts e h. (e, h))

-- ---- leaves

module _ (test : ℕ → Bool) (judged : Judged) (trees : List Tree) (passed : (d : ℕ) → test d ≡ true → (judged.closed d ≡ true) × AllByRecursion (NotWritten d) trees) where
  abbrev Passes : Trees → Type 0
  Passes parts = list_all (λ (other : Bool). other) (are_built (steady_rule test) parts) ≡ true

  all_pass : (bs : List Bool) → all_there bs ≡ true → list_all (λ (other : Bool). other) bs ≡ true
  all_pass [] e = absurd (false≢true e)
  all_pass (b ∷ bs) e = e

  name_steady : (scene : Scene) (d : ℕ) (kind : CType) (spans : Spans) (below : Trees) → IsWellTyped scene (node (object d) kind spans below) → AreSteady judged trees (more_trees (node (object d) kind spans below) no_trees)
  name_steady scene d kind spans no_trees typed = ((tt, tt), tt)
  name_steady scene d kind spans (more_trees first rest) typed = absurd typed.0

  read_steady : (scene : Scene) (kind : CType) (spans : Spans) (parts : Trees) → Fits scene read kind (listed parts) → AreWellTyped (inside scene read (listed parts)) parts
      → is_named test (object_first parts) ≡ true → IsSteady judged trees (node read kind spans parts)
  read_steady scene kind spans (more_trees (node (object d) named_kind named_spans no_trees) no_trees) fits typed e = (passed d e, ((tt, tt), tt))
  read_steady scene kind spans (more_trees (node (object d) named_kind named_spans (more_trees below others)) no_trees) fits typed e = absurd typed.0.0
  read_steady scene kind spans (more_trees (node (object d) named_kind named_spans below) (more_trees second rest)) fits typed e = absurd fits
  read_steady scene kind spans (more_trees (node label named_kind named_spans below) rest) fits typed e = absurd (false≢true e)
  read_steady scene kind spans no_trees fits typed e = absurd (false≢true e)

  by_rule : (statement : Bool) (bs : List Bool) → ruled (if statement then settled false else by_parts) bs ≡ true → list_all (λ (other : Bool). other) bs ≡ true
  by_rule true bs e = absurd (false≢true e)
  by_rule false bs e = all_pass bs e

  steady_node : (scene : Scene) (label : Label) (kind : CType) (spans : Spans) (parts : Trees) → Fits scene label kind (listed parts) → AreWellTyped (inside scene label (listed parts)) parts
      → ruled (steady_rule test label kind parts) (are_built (steady_rule test) parts) ≡ true → (Passes parts → AreSteady judged trees parts) → IsSteady judged trees (node label kind spans parts)
  steady_node scene read kind spans parts fits typed e below = read_steady scene kind spans parts fits typed e
  steady_node scene (number value) kind spans no_trees fits typed e below = (tt, tt)
  steady_node scene (number value) kind spans (more_trees first rest) fits typed e below = absurd fits
  steady_node scene (enumerator at) kind spans no_trees fits typed e below = (tt, tt)
  steady_node scene (enumerator at) kind spans (more_trees first rest) fits typed e below = absurd fits
  steady_node scene address kind spans no_trees fits typed e below = absurd fits
  steady_node scene address kind spans (more_trees first (more_trees second rest)) fits typed e below = absurd fits
  steady_node scene address kind spans (more_trees (node (object d) named_kind named_spans others) no_trees) fits typed e below =
      (tt, name_steady (inside scene address (node (object d) named_kind named_spans others ∷ [])) d named_kind named_spans others typed.0)
  steady_node scene address kind spans (more_trees (node other named_kind named_spans others) no_trees) fits typed e below =
      (tt, below (all_pass (are_built (steady_rule test) (more_trees (node other named_kind named_spans others) no_trees)) e))
  steady_node scene decay kind spans no_trees fits typed e below = absurd fits
  steady_node scene decay kind spans (more_trees first (more_trees second rest)) fits typed e below = absurd fits
  steady_node scene decay kind spans (more_trees (node (object d) named_kind named_spans others) no_trees) fits typed e below =
      (tt, name_steady (inside scene decay (node (object d) named_kind named_spans others ∷ [])) d named_kind named_spans others typed.0)
  steady_node scene decay kind spans (more_trees (node other named_kind named_spans others) no_trees) fits typed e below =
      (tt, below (all_pass (are_built (steady_rule test) (more_trees (node other named_kind named_spans others) no_trees)) e))
  steady_node scene label kind spans parts fits typed e below = (tt, below (by_rule (is_statement label) (are_built (steady_rule test) parts) e))

  mutual
    steady_tree : (scene : Scene) (tree : Tree) → IsWellTyped scene tree → is_built (steady_rule test) tree ≡ true → IsSteady judged trees tree
    steady_tree scene (node label kind spans parts) typed e =
        steady_node scene label kind spans parts typed.0 typed.1 e (all_steady (inside scene label (listed parts)) parts typed.1)

    all_steady : (scene : Scene) (parts : Trees) → AreWellTyped scene parts → Passes parts → AreSteady judged trees parts
    all_steady scene no_trees typed e = tt
    all_steady scene (more_trees first rest) typed e = (
      steady_tree scene first typed.0 (and_left (is_built (steady_rule test) first) (list_all (λ (other : Bool). other) (are_built (steady_rule test) rest)) e),
      all_steady scene rest typed.1 (and_right (is_built (steady_rule test) first) (list_all (λ (other : Bool). other) (are_built (steady_rule test) rest)) e),
    )

-- ---- the test as a whole

abbrev pub closed_in : TypedUnit → ℕ → Bool
closed_in one d = is_scalar_local (slice_get one.declared d) && not (is_addressed one d)

-- trees that are found have what each tree has to which a way leads
all_found : (P : Tree → Type 0) (whole : Tree) (ways : List Path) → ((way : Path) (tree : Tree) → tree_at way whole ≡ Some tree → P tree) → AllByRecursion P (filter_map (λ (way : Path). tree_at way whole) ways)
all_found P whole [] h = tt
all_found P whole (way ∷ ways) h = by_found (tree_at way whole) refl (all_found P whole ways h)
  where
    by_found : (found : Option Tree) → tree_at way whole ≡ found → AllByRecursion P (filter_map (λ (way : Path). tree_at way whole) ways)
        → AllByRecursion P (cons_option found (filter_map (λ (way : Path). tree_at way whole) ways))
    by_found None e rest = rest
    by_found (Some tree) e rest = (h way tree e, rest)

-- and stand among them
pub found_among : (whole : Tree) (ways : List Path) (way : Path) (tree : Tree) → IsAmong way ways → tree_at way whole ≡ Some tree → IsAmong tree (filter_map (λ (path : Path). tree_at path whole) ways)
found_among whole [] way tree l e = absurd l
found_among whole (first ∷ ways) way tree (inl same) e =
    subst (λ (found : Option Tree). IsAmong tree (cons_option found (filter_map (λ (path : Path). tree_at path whole) ways))) (sym e ∙ ap (λ (p : Path). tree_at p whole) same) (inl refl)
found_among whole (first ∷ ways) way tree (inr l) e = by_found (tree_at first whole) (found_among whole ways way tree l e)
  where
    by_found : (found : Option Tree) → IsAmong tree (filter_map (λ (path : Path). tree_at path whole) ways) → IsAmong tree (cons_option found (filter_map (λ (path : Path). tree_at path whole) ways))
    by_found None k = k
    by_found (Some other) k = inr k

module _ (one : TypedUnit) (judged : Judged) (closed : (d : ℕ) → closed_in one d ≡ true → judged.closed d ≡ true)
    (quiet : (g : ℕ) (tree : Tree) → is_one_of (quiet_functions (before tree one.externals)) g ≡ true → judged.quiet g ≡ true) where
  all_quiet : (trees : List Tree) → AllByRecursion IsTyped trees → list_all (is_quiet one) trees ≡ true → AllByRecursion (WritesNothing judged.quiet) trees
  all_quiet [] typed e = tt
  all_quiet (tree ∷ trees) typed e = (
    quiet_tree (is_one_of (quiet_functions (before tree one.externals))) judged.quiet (λ g. quiet g tree) tree typed.0 (and_left (is_quiet one tree) (list_all (is_quiet one) trees) e),
    all_quiet trees typed.1 (and_right (is_quiet one tree) (list_all (is_quiet one) trees) e),
  )

  all_unwritten : (d : ℕ) (trees : List Tree) → list_any (writes d) trees ≡ false → AllByRecursion (NotWritten d) trees
  all_unwritten d [] e = tt
  all_unwritten d (tree ∷ trees) e = let both = neither (writes d tree) (list_any (writes d) trees) e in (unwritten_tree d tree both.0, all_unwritten d trees both.1)

  staying : (trees : List Tree) (d : ℕ) → stays one trees d ≡ true → (judged.closed d ≡ true) × AllByRecursion (NotWritten d) trees
  staying trees d e =
      let local = and_left (is_scalar_local (slice_get one.declared d)) (not (is_addressed one d) && not (list_any (writes d) trees)) e in
      let others = and_right (is_scalar_local (slice_get one.declared d)) (not (is_addressed one d) && not (list_any (writes d) trees)) e in
      let unaddressed = and_left (not (is_addressed one d)) (not (list_any (writes d) trees)) others in (
        closed d (both (is_scalar_local (slice_get one.declared d)) (not (is_addressed one d)) local unaddressed),
        all_unwritten d trees (not_false (list_any (writes d) trees) (and_right (not (is_addressed one d)) (not (list_any (writes d) trees)) others)),
      )
    where
      both : (a b : Bool) → a ≡ true → b ≡ true → (a && b) ≡ true
      both true b e f = f
      both false b e f = absurd (false≢true e)

  stable_among : (trees : List Tree) (argument : Tree) → AllByRecursion IsTyped trees → IsTyped argument → is_stable_among one trees argument ≡ true → IsStable judged trees argument
  stable_among trees argument typed own e = (
    pure_argument argument (and_left (is_pure argument) (list_all (is_quiet one) trees || is_steady one trees argument) e),
    by_case (list_all (is_quiet one) trees) refl (and_right (is_pure argument) (list_all (is_quiet one) trees || is_steady one trees argument) e),
  )
    where
      by_case : (b : Bool) → list_all (is_quiet one) trees ≡ b → (b || is_steady one trees argument) ≡ true → AllByRecursion (WritesNothing judged.quiet) trees ⊎ IsSteady judged trees argument
      by_case true is k = inl (all_quiet trees typed is)
      by_case false is k = inr (steady_tree (stays one trees) judged trees (staying trees) own.0 argument own.1 k)

  pub stable_around : (full : Tree) (path : Path) (argument : Tree) → IsTyped full → IsTyped argument → is_stable_among one (around path full) argument ≡ true → IsStable judged (around path full) argument
  stable_around full path argument typed own e =
      stable_among (around path full) argument (all_found IsTyped full (path ∷ beside path full) (λ way tree is. typed_part tree full (record { way = way; leads = is }) typed)) own e
