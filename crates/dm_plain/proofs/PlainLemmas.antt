-- What the walk looks for is what the definitions ask.
--     none-named      a tree of which the walk finds nothing has plain types, and the other way round
use Rattle.std.proofs.Common.{◌≡◌, ◌↔◌, ℕ, Bool, true, false, ◌||◌, IsTrue, refl}
use Rattle.dm_tree.specs.Trees.{Label, object, convert, sizeof_kind, Spans, Tree, Trees, node, no_trees, more_trees}
use Rattle.dm_type.specs.CTypes.{CType}
use Rattle.dm_plain.specs.Plain.{IsNoLocal, NamesNoLocal, NameNoLocal, TypeNamesNone, AreTypesPlain, AllTypesPlain}
use Rattle.dm_plain.specs.Walks.{is_local, is_first_inside, are_others_inside, names_local, names_below, any_names}

both-none : (b c : Bool) → b ≡ false → c ≡ false → (b || c) ≡ false
both-none true c e f = e
both-none false c e f = f

first-none : (b c : Bool) → (b || c) ≡ false → b ≡ false
first-none true c e = e
first-none false c e = refl

rest-none : (b c : Bool) → (b || c) ≡ false → c ≡ false
rest-none true c e = absurd (cc)
rest-none false c e = e

module _ (automatic : ℕ → Bool) where
  -- ---- inside type names

  no-local : (label : Label) → IsNoLocal automatic label → is_local automatic label ≡ false
  no-local (object d) h = h
  no-local label h = refl

  is-no-local : (label : Label) → is_local automatic label ≡ false → IsNoLocal automatic label
  is-no-local (object d) e = e
  is-no-local label e = tt

  mutual
    inside-none : (tree : Tree) → NamesNoLocal automatic tree → names_local automatic true tree ≡ false
    inside-none (node label kind spans no_trees) h = both-none (is_local automatic label) false (no-local label h.0) refl
    inside-none (node label kind spans (more_trees first rest)) h =
        both-none (is_local automatic label) (names_local automatic true first || any_names automatic true rest) (no-local label h.0)
        (both-none (names_local automatic true first) (any_names automatic true rest) (inside-none first h.1.0) (all-none rest h.1.1))

    all-none : (trees : Trees) → NameNoLocal automatic trees → any_names automatic true trees ≡ false
    all-none no_trees h = refl
    all-none (more_trees first rest) h = both-none (names_local automatic true first) (any_names automatic true rest) (inside-none first h.0) (all-none rest h.1)

  mutual
    none-inside : (tree : Tree) → names_local automatic true tree ≡ false → NamesNoLocal automatic tree
    none-inside (node label kind spans no_trees) e = (is-no-local label (first-none (is_local automatic label) false e), tt)
    none-inside (node label kind spans (more_trees first rest)) e =
        let below = rest-none (is_local automatic label) (names_local automatic true first || any_names automatic true rest) e in (
          is-no-local label (first-none (is_local automatic label) (names_local automatic true first || any_names automatic true rest) e),
          (
            none-inside first (first-none (names_local automatic true first) (any_names automatic true rest) below),
            none-all rest (rest-none (names_local automatic true first) (any_names automatic true rest) below),
          ),
        )

    none-all : (trees : Trees) → any_names automatic true trees ≡ false → NameNoLocal automatic trees
    none-all no_trees e = tt
    none-all (more_trees first rest) e =
        (none-inside first (first-none (names_local automatic true first) (any_names automatic true rest) e), none-all rest (rest-none (names_local automatic true first) (any_names automatic true rest) e))

  -- what names none has plain types
  mutual
    plain-inside : (tree : Tree) → NamesNoLocal automatic tree → AreTypesPlain automatic tree
    plain-inside (node label kind spans parts) h = (names-none label parts h.1, all-plain parts h.1)

    all-plain : (trees : Trees) → NameNoLocal automatic trees → AllTypesPlain automatic trees
    all-plain no_trees h = tt
    all-plain (more_trees first rest) h = (plain-inside first h.0, all-plain rest h.1)

    names-none : (label : Label) (parts : Trees) → NameNoLocal automatic parts → TypeNamesNone automatic label parts
    names-none convert no_trees h = tt
    names-none convert (more_trees operand lengths) h = h.1
    names-none (sizeof_kind type) lengths h = h
    names-none label parts h = tt

  -- ---- outside

  mutual
    plain-none : (tree : Tree) → AreTypesPlain automatic tree → names_local automatic false tree ≡ false
    plain-none (node label kind spans parts) h = parts-none label parts h.0 h.1

    parts-none : (label : Label) (parts : Trees) → TypeNamesNone automatic label parts → AllTypesPlain automatic parts
        → names_below automatic (is_first_inside label) (are_others_inside label) parts ≡ false
    parts-none label no_trees h g = refl
    parts-none convert (more_trees operand lengths) h g =
        both-none (names_local automatic false operand) (any_names automatic true lengths) (plain-none operand g.0) (all-none lengths h)
    parts-none (sizeof_kind type) (more_trees first rest) h g =
        both-none (names_local automatic true first) (any_names automatic true rest) (inside-none first h.0) (all-none rest h.1)
    parts-none label (more_trees first rest) h g =
        both-none (names_local automatic false first) (any_names automatic false rest) (plain-none first g.0) (all-outside rest g.1)

    all-outside : (trees : Trees) → AllTypesPlain automatic trees → any_names automatic false trees ≡ false
    all-outside no_trees h = refl
    all-outside (more_trees first rest) h = both-none (names_local automatic false first) (any_names automatic false rest) (plain-none first h.0) (all-outside rest h.1)

  mutual
    none-plain : (tree : Tree) → names_local automatic false tree ≡ false → AreTypesPlain automatic tree
    none-plain (node label kind spans parts) e = none-parts label parts e

    none-parts : (label : Label) (parts : Trees) → names_below automatic (is_first_inside label) (are_others_inside label) parts ≡ false
        → TypeNamesNone automatic label parts × AllTypesPlain automatic parts
    none-parts convert no_trees e = (tt, tt)
    none-parts convert (more_trees operand lengths) e =
        let behind = none-all lengths (rest-none (names_local automatic false operand) (any_names automatic true lengths) e) in
        (behind, (none-plain operand (first-none (names_local automatic false operand) (any_names automatic true lengths) e), all-plain lengths behind))
    none-parts (sizeof_kind type) no_trees e = (tt, tt)
    none-parts (sizeof_kind type) (more_trees first rest) e =
        let all = none-all (more_trees first rest) e in (all, all-plain (more_trees first rest) all)
    none-parts label no_trees e = (tt, tt)
    none-parts label (more_trees first rest) e = (
      tt,
      (
        none-plain first (first-none (names_local automatic false first) (any_names automatic false rest) e),
        none-outside rest (rest-none (names_local automatic false first) (any_names automatic false rest) e),
      ),
    )

    none-outside : (trees : Trees) → any_names automatic false trees ≡ false → AllTypesPlain automatic trees
    none-outside no_trees e = tt
    none-outside (more_trees first rest) e =
        (none-plain first (first-none (names_local automatic false first) (any_names automatic false rest) e), none-outside rest (rest-none (names_local automatic false first) (any_names automatic false rest) e))

  true-is : true ≡ false → IsTrue false
  true-is e = cc

  -- where something is found, and where nothing is
  pub found-decides : (tree : Tree) → names_local automatic false tree ≡ true → IsTrue false ↔ AreTypesPlain automatic tree
  found-decides tree e = (λ no. absurd (cc), λ plain. true-is (cc (e, plain-none tree plain)))

  pub none-decides : (tree : Tree) → names_local automatic false tree ≡ false → IsTrue true ↔ AreTypesPlain automatic tree
  none-decides tree e = (λ yes. none-plain tree e, λ plain. refl)
