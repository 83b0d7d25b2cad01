-- The numbers of the declarators of a typed unit, read in the order of the source, and what is left of them.
use Rattle.std.specs.Prelude.{◌≡◌, ℕ, zero, suc, List, [], ◌∷◌, ◌++◌, drop, Some, slice_get, refl}
use Rattle.std.specs.List.{AllByRecursion}
use Rattle.std.proofs.Common.{sym, ap, ◌∙◌, append_assoc, append-nil}
use Rattle.dm_tree.specs.Trees.{Label, block, declare, if_statement, switch, case, default, while_loop, do_loop, for_loop, object, function, enumerator, Tree, Trees, node, no_trees, more_trees, trees}
use Rattle.dm_tree.specs.Units.{External, ExternalForm, declares, defines_function}
use Rattle.dm_names.specs.Declarations.{numbers_of, numbers_in, numbers_in_all, numbers_in_form, numbers_declared}
use Rattle.dm_numbered.specs.Numbered.{EachMeant, EachMeantIn}
use Rattle.dm_numbered.proofs.StateLemmas.{Frame, EachSaid, EachSaidIn}

abbrev then_label : Label → List ℕ → List ℕ → List ℕ
then_label (declare lengths declarators) inner rest = numbers_of declarators ++ rest
then_label block inner rest = inner
then_label if_statement inner rest = inner
then_label switch inner rest = inner
then_label case inner rest = inner
then_label default inner rest = inner
then_label while_loop inner rest = inner
then_label do_loop inner rest = inner
then_label (for_loop first second third) inner rest = inner
then_label label inner rest = rest

-- the numbers of a tree, and these behind them
abbrev mutual
  pub numbers_then : Tree → List ℕ → List ℕ
  numbers_then (node label kind spans parts) rest = then_label label (all_then parts rest) rest

  pub all_then : Trees → List ℕ → List ℕ
  all_then no_trees rest = rest
  all_then (more_trees first others) rest = numbers_then first (all_then others rest)

abbrev pub list_then : List Tree → List ℕ → List ℕ
list_then list rest = all_then (trees list) rest

abbrev pub form_then : ExternalForm → List ℕ → List ℕ
form_then (declares declarators expressions) rest = numbers_of declarators ++ rest
form_then (defines_function number parameters body) rest = number ∷ numbers_then body rest

abbrev pub externals_then : List External → List ℕ → List ℕ
externals_then [] rest = rest
externals_then (first ∷ others) rest = form_then first.form (externals_then others rest)

mutual
  in-then : (before : List ℕ) (tree : Tree) (rest : List ℕ) → numbers_in before tree ++ rest ≡ before ++ numbers_then tree rest
  in-then before (node (declare lengths declarators) kind spans parts) rest = append_assoc before (numbers_of declarators) rest
  in-then before (node block kind spans parts) rest = all-then before parts rest
  in-then before (node if_statement kind spans parts) rest = all-then before parts rest
  in-then before (node switch kind spans parts) rest = all-then before parts rest
  in-then before (node case kind spans parts) rest = all-then before parts rest
  in-then before (node default kind spans parts) rest = all-then before parts rest
  in-then before (node while_loop kind spans parts) rest = all-then before parts rest
  in-then before (node do_loop kind spans parts) rest = all-then before parts rest
  in-then before (node (for_loop first second third) kind spans parts) rest = all-then before parts rest
  in-then before (node label kind spans parts) rest = refl

  all-then : (before : List ℕ) (parts : Trees) (rest : List ℕ) → numbers_in_all before parts ++ rest ≡ before ++ all_then parts rest
  all-then before no_trees rest = refl
  all-then before (more_trees first others) rest = all-then (numbers_in before first) others rest ∙ in-then before first (all_then others rest)

form-then : (before : List ℕ) (form : ExternalForm) (rest : List ℕ) → numbers_in_form before form ++ rest ≡ before ++ form_then form rest
form-then before (declares declarators expressions) rest = append_assoc before (numbers_of declarators) rest
form-then before (defines_function number parameters body) rest = in-then (before ++ number ∷ []) body rest ∙ append_assoc before (number ∷ []) (numbers_then body rest)

declared-then : (before : List ℕ) (externals : List External) (rest : List ℕ) → numbers_declared before externals ++ rest ≡ before ++ externals_then externals rest
declared-then before [] rest = refl
declared-then before (first ∷ others) rest = declared-then (numbers_in_form before first.form) others rest ∙ form-then before first.form (externals_then others rest)

pub unit-then : (externals : List External) → numbers_declared [] externals ≡ externals_then externals []
unit-then externals = sym (append-nil (numbers_declared [] externals)) ∙ declared-then [] externals []

pub list-append : (xs ys : List Tree) (rest : List ℕ) → list_then (xs ++ ys) rest ≡ list_then xs (list_then ys rest)
list-append [] ys rest = refl
list-append (x ∷ xs) ys rest = ap (numbers_then x) (list-append xs ys rest)

-- ---- expressions declare nothing, and what they name is meant

module _ (c : Frame) where
  pub quiet : (tree : Tree) (rest : List ℕ) → EachSaid c.Told tree → numbers_then tree rest ≡ rest
  quiet (node block kind spans parts) rest h = absurd h.0
  quiet (node (declare lengths declarators) kind spans parts) rest h = absurd h.0
  quiet (node if_statement kind spans parts) rest h = absurd h.0
  quiet (node switch kind spans parts) rest h = absurd h.0
  quiet (node case kind spans parts) rest h = absurd h.0
  quiet (node default kind spans parts) rest h = absurd h.0
  quiet (node while_loop kind spans parts) rest h = absurd h.0
  quiet (node do_loop kind spans parts) rest h = absurd h.0
  quiet (node (for_loop first second third) kind spans parts) rest h = absurd h.0
  quiet (node label kind spans parts) rest h = refl

  pub quiet-list : (list : List Tree) (rest : List ℕ) → AllByRecursion (EachSaid c.Told) list → list_then list rest ≡ rest
  quiet-list [] rest h = refl
  quiet-list (tree ∷ list) rest h = quiet tree (list_then list rest) h.0 ∙ quiet-list list rest h.1

  mutual
    pub meant : (tree : Tree) → EachSaid c.Told tree → EachMeant c.all tree
    meant (node (object number) kind spans parts) h = (c.told _ h.0, meant-in parts h.1)
    meant (node (function number) kind spans parts) h = (c.told _ h.0, meant-in parts h.1)
    meant (node (enumerator number) kind spans parts) h = (c.told _ h.0, meant-in parts h.1)
    meant (node label kind spans parts) h = (tt, meant-in parts h.1)

    meant-in : (parts : Trees) → EachSaidIn c.Told parts → EachMeantIn c.all parts
    meant-in no_trees h = tt
    meant-in (more_trees first rest) h = (meant first h.0, meant-in rest h.1)

  pub all-meant : (list : List Tree) → AllByRecursion (EachSaid c.Told) list → AllByRecursion (EachMeant c.all) list
  all-meant [] h = tt
  all-meant (tree ∷ list) h = (meant tree h.0, all-meant list h.1)

-- ---- what is left

pub left-one : (numbers : List ℕ) (d n : ℕ) (rest : List ℕ) → drop d numbers ≡ n ∷ rest → (slice_get numbers d ≡ Some n) × (drop (suc d) numbers ≡ rest)
left-one [] zero n rest e = absurd (cc)
left-one [] (suc d) n rest e = absurd (cc)
left-one (m ∷ numbers) zero n rest e = (cc, cc)
left-one (m ∷ numbers) (suc d) n rest e = left-one numbers d n rest e
