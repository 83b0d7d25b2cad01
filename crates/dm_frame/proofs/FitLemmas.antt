-- What fits a table has parts that fit, form by form.
use Rattle.std.proofs.Common.{◌≡◌, ℕ, Bool, true, false, ◌&&◌, List, [], ◌∷◌, ◌++◌, map, length, Option, Some, None, option_map, is_some, IfSome, Bor, rules, refl, ap, sym, subst, ◌∙◌}
use Rattle.std.proofs.lemmas.Bool.{and_parts}
use Rattle.std.proofs.lemmas.List.Folds.{list_all-append}
use Rattle.std.proofs.lemmas.Option.{none-some}
use Rattle.std.specs.List.{list_all}
use Rattle.dm_type.specs.CTypes.{CType}
use Rattle.dm_type.specs.Tables.{Table}
use Rattle.dm_tree.proofs.ListLemmas.{listed-trees}
use Rattle.dm_tree.proofs.ViewLemmas.{known-form, view-core}
use Rattle.dm_tree.specs.declared.tree.Core.{Core, out-Core}
use Rattle.dm_tree.specs.declared.tree.Core as q
use Rattle.dm_tree.specs.declared.tree.Form.{Form, roll-Form}
use Rattle.dm_tree.specs.declared.tree.Form.TheOpen as layer
use Rattle.dm_tree.specs.declared.tree.Form.TheFolds as folds
use Rattle.dm_tree.specs.declared.tree.Form.TheVariants as form
use Rattle.dm_tree.specs.declared.tree.Initial.{Initial}
use Rattle.dm_tree.specs.declared.tree.Initial.TheVariants as initial
use Rattle.dm_tree.specs.declared.tree.Local.{Local, out-Local}
use Rattle.dm_tree.specs.Trees as label
use Rattle.dm_tree.specs.Trees.{Spans, Tree, node, in_braces, one_expression, listed, trees}
use Rattle.dm_tree.specs.TypeNumbers.{all_pass, are_known, are_known_in_form, are_known_in_local, passes_if_there, form_known, initial_known, core_known, local_known}
use Rattle.dm_tree.specs.Views.{Opened, OpenedInitial, OpenedLocal, opened, opened_form, view, view_of_local, form_layer, initial_layer, core_layer, local_layer, if_there, items_of, expressions_of_items, expressions_of_locals}
use Rattle.dm_meaning.specs.Wholes.{all_expressions, are_whole, is_expression, is_whole, is_whole_start, loop_whole, AreWhole, AreWholeInitials, AreWholeLocals}
use Rattle.dm_program.proofs.FormLemmas.{known-Block, known-Case, known-Declare, known-Default, known-Do, known-For, known-Full, known-If, known-Return, known-Switch, known-While, opened-Block, opened-Case, opened-Declare, opened-Default, opened-Do, opened-For, opened-Full, opened-If, opened-Return, opened-Switch, opened-While}
use Rattle.dm_program.proofs.InitialLemmas.{local-some}
use Rattle.dm_program.specs.Initials.{view_of_initial, are_known_in_initial}
use Rattle.dm_frame.specs.Forms.{is_whole_form, FormFits, IsInside}
use Rattle.dm_frame.specs.Tasks.{initials_at, ExpressionFits, FitsIfThere, InitialFits, InitialsFit, LocalFits, LocalsFit, StartFits, TreeFits, TreesFit}
use Rattle.dm_frame.proofs.BeginLemmas.{seen-as}

-- what a part is that may be left out
pub inside-fits : (fits : Core → Type 0) (tree : Option Core) (inside : Option (Bor Core)) → IsInside tree inside → IfSome tree fits → FitsIfThere fits inside
inside-fits fits tree None is h = tt
inside-fits fits tree (Some one) is h = subst (λ (tree : Option Core). IfSome tree fits) (sym is) h

-- ---- the first part of a `for`

abbrev IsDeclared : Form → Type 0
IsDeclared one = (lengths : List Core) × (locals : List Local) × (one ≡ form.Declare lengths locals)

abbrev StartsAs : Opened → Type 0
StartsAs o = (kind : CType) (spans : Spans) → is_whole_start (node o.label kind spans (trees o.parts)) ≡ is_expression (node o.label kind spans (trees o.parts))

module _ (types : Table) where
  abbrev seen_in : layer.Form-F Form Initial Core Local → Opened
  seen_in y = form_layer types (folds.map-Form Form Initial Core Local Opened OpenedInitial Tree OpenedLocal (opened_form types) (view_of_initial types) (view types) (view_of_local types) y)

  start-layer : (y : layer.Form-F Form Initial Core Local) → (IsDeclared (roll-Form y) → ⊥) → StartsAs (seen_in y)
  start-layer (layer.Declare lengths locals) undeclared = absurd (undeclared (lengths, locals, form.rolls-Declare lengths locals))
  start-layer y undeclared = λ kind spans. refl

  start-form : (one : Form) → (IsDeclared one → ⊥) → StartsAs (opened_form types one)
  start-form = folds.ind-Form (λ one. (IsDeclared one → ⊥) → StartsAs (opened_form types one)) (λ one. Unit {0}) (λ one. Unit {0}) (λ one. Unit {0})
      (λ x y is. λ undeclared. subst StartsAs (sym (folds.fold-roll-Form Opened OpenedInitial Tree OpenedLocal (form_layer types) initial_layer (core_layer types) local_layer x)) (start-layer x undeclared))
      (λ x y is. tt) (λ x y is. tt) (λ x y is. tt)

-- ---- initialisers

pub initial-Value : (types : Table) (a : Core) → view_of_initial types (initial.Value a) ≡ record { initialiser = one_expression; expressions = view types a ∷ [] }
initial-Value types a = search (rules, q.the_lemmas)

pub initial-Parts : (types : Table) (items : List Initial)
    → view_of_initial types (initial.Parts items) ≡ record { initialiser = in_braces (items_of (initials_at types items)); expressions = expressions_of_items (initials_at types items) }
initial-Parts types items = search (rules, q.the_lemmas)

known-Value : (n : ℕ) (a : Core) → are_known_in_initial n (initial.Value a) ≡ are_known n a
known-Value n a = search (rules, q.the_lemmas)

known-Parts : (n : ℕ) (items : List Initial) → are_known_in_initial n (initial.Parts items) ≡ all_pass (map (are_known_in_initial n) items)
known-Parts n items = search (rules, q.the_lemmas)

abbrev other : {A : Type 0} → A → Option A → A
other x None = x
other x (Some y) = y

-- a test of each part
all-whole : (all : List Tree) → all_pass (are_whole (trees all)) ≡ list_all is_whole all
all-whole [] = refl
all-whole (first ∷ rest) = ap (λ others. is_whole first && others) (all-whole rest)

both : (p q : Table → Bool) → ((types : Table) → (p types && q types) ≡ true) → ((types : Table) → p types ≡ true) × ((types : Table) → q types ≡ true)
both p q h = (λ types. (and_parts (p types) (q types) (h types)).0, λ types. (and_parts (p types) (q types) (h types)).1)

first-of : (p q : Table → Bool) → ((types : Table) → (p types && q types) ≡ true) → (types : Table) → p types ≡ true
first-of p q h = (both p q h).0

module _ (table : Table) where
  abbrev count : ℕ
  count = length table.shapes

  -- ---- lists

  pub trees-fit : (items : List Core) → all_pass (map (are_known count) items) ≡ true → AreWhole items → TreesFit table items
  trees-fit [] known whole = tt
  trees-fit (first ∷ rest) known whole =
      let k = and_parts _ _ known in
      let w = both (λ types. is_whole (view types first)) (λ types. list_all is_whole (map (view types) rest)) whole in
      ((k.0, w.0), trees-fit rest k.1 w.1)

  locals-fit : (locals : List Local) → all_pass (map (are_known_in_local count) locals) ≡ true → AreWholeLocals locals → LocalsFit table locals
  locals-fit [] known whole = tt
  locals-fit (first ∷ rest) known whole =
      let k = and_parts _ _ known in
      let w = both (λ types. all_expressions (view_of_local types first).expressions) (λ types. all_expressions (expressions_of_locals (map (view_of_local types) rest)))
      (λ types. sym (list_all-append is_expression (view_of_local types first).expressions (expressions_of_locals (map (view_of_local types) rest))) ∙ whole types) in
      ((k.0, w.0), locals-fit rest k.1 w.1)

  initials-fit : (items : List Initial) → all_pass (map (are_known_in_initial count) items) ≡ true → AreWholeInitials items → InitialsFit table items
  initials-fit [] known whole = tt
  initials-fit (first ∷ rest) known whole =
      let k = and_parts _ _ known in
      let w = both (λ types. all_expressions (view_of_initial types first).expressions) (λ types. all_expressions (expressions_of_items (map (view_of_initial types) rest)))
      (λ types. sym (list_all-append is_expression (view_of_initial types first).expressions (expressions_of_items (map (view_of_initial types) rest))) ∙ whole types) in
      ((k.0, w.0), initials-fit rest k.1 w.1)

  pub tree-first : (items : List Core) (first : Core) (rest : List Core) → items ≡ first ∷ rest → TreesFit table items → TreeFits table first × TreesFit table rest
  tree-first items first rest is fits = subst (TreesFit table) is fits

  pub local-first : (items : List Local) (first : Local) (rest : List Local) → items ≡ first ∷ rest → LocalsFit table items → LocalFits table first × LocalsFit table rest
  local-first items first rest is fits = subst (LocalsFit table) is fits

  pub initial-first : (items : List Initial) (first : Initial) (rest : List Initial) → items ≡ first ∷ rest → InitialsFit table items → InitialFits table first × InitialsFit table rest
  initial-first items first rest is fits = subst (InitialsFit table) is fits

  -- ---- statements

  -- a statement's form
  pub form-fits : (core : Core) → TreeFits table core → FormFits table (out-Core core).form
  form-fits core fits = (known-form count core fits.0, λ types. sym (ap is_whole (view-core types core)) ∙ fits.1 types)

  pub form-is : (core : Core) (one : Form) → (out-Core core).form ≡ one → TreeFits table core → FormFits table one
  form-is core one is fits = subst (FormFits table) is (form-fits core fits)

  known : (one : Form) (test : Bool) → are_known_in_form count one ≡ test → FormFits table one → test ≡ true
  known one test is fits = sym is ∙ fits.0

  whole : (one : Form) (opening : Table → Opened) → ((types : Table) → opened_form types one ≡ opening types) → FormFits table one → (types : Table) → is_whole_form (opening types) ≡ true
  whole one opening opens fits = λ types. sym (ap is_whole_form (opens types)) ∙ fits.1 types

  pub fits-Block : (items : List Core) → FormFits table (form.Block items) → TreesFit table items
  fits-Block items fits =
      trees-fit items (known _ _ (known-Block count items) fits)
      (λ types. sym (all-whole (map (view types) items)) ∙ whole (form.Block items) (λ types. opened label.block (map (view types) items)) (λ types. opened-Block types items) fits types)

  pub fits-Declare : (lengths : List Core) (locals : List Local) → FormFits table (form.Declare lengths locals) → LocalsFit table locals
  fits-Declare lengths locals fits =
      let k = and_parts _ _ (known _ _ (known-Declare count lengths locals) fits) in
      locals-fit locals k.1 (λ types.
      let before = map (view types) lengths in
      let behind = expressions_of_locals (map (view_of_local types) locals) in
      (and_parts _ _ (sym (list_all-append is_expression before behind)
      ∙ (sym (ap all_expressions (listed-trees (before ++ behind))) ∙ (sym (ap is_whole_form (opened-Declare types lengths locals)) ∙ fits.1 types)))).1)

  pub fits-Full : (a : Core) → FormFits table (form.Full a) → ExpressionFits table a
  fits-Full a fits = (
    known _ _ (known-Full count a) fits,
    first-of (λ types. is_expression (view types a)) (λ types. true) (whole (form.Full a) (λ types. opened label.full (view types a ∷ [])) (λ types. opened-Full types a) fits),
  )

  option-whole : (c : Option Core) → passes_if_there (option_map (are_known count) c) ≡ true
      → ((types : Table) → all_pass (are_whole (trees (if_there (option_map (view types) c)))) ≡ true) → IfSome c (TreeFits table)
  option-whole None k w = tt
  option-whole (Some c) k w = (k, first-of (λ types. is_whole (view types c)) (λ types. true) w)

  pub fits-If : (a b : Core) (c : Option Core) → FormFits table (form.If a b c) → ExpressionFits table a × TreeFits table b × IfSome c (TreeFits table)
  fits-If a b c fits =
      let k = and_parts _ _ (known _ _ (known-If count a b c) fits) in
      let l = and_parts _ _ k.1 in
      let last = λ (types : Table). all_pass (are_whole (trees (if_there (option_map (view types) c)))) in
      let w = both (λ types. is_expression (view types a)) (λ types. is_whole (view types b) && last types)
      (whole (form.If a b c) (λ types. opened label.if_statement (view types a ∷ view types b ∷ if_there (option_map (view types) c))) (λ types. opened-If types a b c) fits) in
      let v = both (λ types. is_whole (view types b)) last w.1 in
      ((k.0, w.0), (l.0, v.0), option-whole c l.1 v.1)

  pub fits-Switch : (a : Core) (items : List Core) → FormFits table (form.Switch a items) → ExpressionFits table a × TreesFit table items
  fits-Switch a items fits =
      let k = and_parts _ _ (known _ _ (known-Switch count a items) fits) in
      let w = both (λ types. is_expression (view types a)) (λ types. all_pass (are_whole (trees (map (view types) items))))
      (whole (form.Switch a items) (λ types. opened label.switch (view types a ∷ map (view types) items)) (λ types. opened-Switch types a items) fits) in
      ((k.0, w.0), trees-fit items k.1 (λ types. sym (all-whole (map (view types) items)) ∙ w.1 types))

  -- an expression and a statement
  abbrev tested : Core → Core → Table → Bool
  tested a b types = is_expression (view types a) && (is_whole (view types b) && true)

  expression-first : (a b : Core) → are_known count a ≡ true → are_known count b ≡ true → ((types : Table) → tested a b types ≡ true) → ExpressionFits table a × TreeFits table b
  expression-first a b j k whole =
      let w = both (λ types. is_expression (view types a)) (λ types. is_whole (view types b) && true) whole in
      ((j, w.0), (k, first-of (λ types. is_whole (view types b)) (λ types. true) w.1))

  pub fits-Case : (a b : Core) → FormFits table (form.Case a b) → ExpressionFits table a × TreeFits table b
  fits-Case a b fits =
      let k = and_parts _ _ (known _ _ (known-Case count a b) fits) in
      expression-first a b k.0 k.1 (whole (form.Case a b) (λ types. opened label.case (view types a ∷ view types b ∷ [])) (λ types. opened-Case types a b) fits)

  pub fits-Default : (a : Core) → FormFits table (form.Default a) → TreeFits table a
  fits-Default a fits = (
    known _ _ (known-Default count a) fits,
    first-of (λ types. is_whole (view types a)) (λ types. true) (whole (form.Default a) (λ types. opened label.default (view types a ∷ [])) (λ types. opened-Default types a) fits),
  )

  pub fits-While : (a b : Core) → FormFits table (form.While a b) → ExpressionFits table a × TreeFits table b
  fits-While a b fits =
      let k = and_parts _ _ (known _ _ (known-While count a b) fits) in
      expression-first a b k.0 k.1 (whole (form.While a b) (λ types. opened label.while_loop (view types a ∷ view types b ∷ [])) (λ types. opened-While types a b) fits)

  pub fits-Do : (a b : Core) → FormFits table (form.Do a b) → TreeFits table a × ExpressionFits table b
  fits-Do a b fits =
      let k = and_parts _ _ (known _ _ (known-Do count a b) fits) in
      let w = both (λ types. is_whole (view types a)) (λ types. is_expression (view types b) && true)
      (whole (form.Do a b) (λ types. opened label.do_loop (view types a ∷ view types b ∷ [])) (λ types. opened-Do types a b) fits) in
      ((k.0, w.0), (k.1, first-of (λ types. is_expression (view types b)) (λ types. true) w.1))

  option-expression : (c : Option Core) → passes_if_there (option_map (are_known count) c) ≡ true
      → ((types : Table) → all_expressions (listed (trees (if_there (option_map (view types) c)))) ≡ true) → IfSome c (ExpressionFits table)
  option-expression None k w = tt
  option-expression (Some c) k w = (k, first-of (λ types. is_expression (view types c)) (λ types. true) w)

  pub fits-Return : (a : Option Core) → FormFits table (form.Return a) → IfSome a (ExpressionFits table)
  fits-Return a fits =
      option-expression a (known _ _ (known-Return count a) fits) (whole (form.Return a) (λ types. opened label.return (if_there (option_map (view types) a))) (λ types. opened-Return types a) fits)

  -- the parts of a `for`, from the third, the second and the first on
  abbrev third_on : Option Core → Core → Table → List Tree
  third_on c body types = if_there (option_map (view types) c) ++ view types body ∷ []

  abbrev second_on : Option Core → Option Core → Core → Table → List Tree
  second_on b c body types = if_there (option_map (view types) b) ++ third_on c body types

  abbrev first_on : Option Core → Option Core → Option Core → Core → Table → List Tree
  first_on a b c body types = if_there (option_map (view types) a) ++ second_on b c body types

  abbrev there : Option Core → Table → Bool
  there one types = is_some (option_map (view types) one)

  abbrev looped : (Table → Bool) → (Table → Bool) → (Table → Bool) → (Table → List Tree) → Table → Bool
  looped first second third parts types = loop_whole (first types) (second types) (third types) (listed (trees (parts types))) (are_whole (trees (parts types)))

  abbrev never : Table → Bool
  never types = false

  abbrev Passes : Option Core → Type 0
  Passes one = passes_if_there (option_map (are_known count) one) ≡ true

  third-part : (c : Option Core) (body : Core) → Passes c → are_known count body ≡ true
      → ((types : Table) → looped never never (there c) (third_on c body) types ≡ true) → IfSome c (ExpressionFits table) × TreeFits table body
  third-part None body k m w = (tt, (m, first-of (λ types. is_whole (view types body)) (λ types. true) w))
  third-part (Some c) body k m w =
      let v = both (λ types. is_expression (view types c)) (λ types. is_whole (view types body) && true) w in
      ((k, v.0), (m, first-of (λ types. is_whole (view types body)) (λ types. true) v.1))

  second-part : (b c : Option Core) (body : Core) → Passes b → Passes c → are_known count body ≡ true
      → ((types : Table) → looped never (there b) (there c) (second_on b c body) types ≡ true) → IfSome b (ExpressionFits table) × (IfSome c (ExpressionFits table) × TreeFits table body)
  second-part None c body j k m w = (tt, third-part c body k m w)
  second-part (Some b) c body j k m w =
      let v = both (λ types. is_expression (view types b)) (looped never never (there c) (third_on c body)) w in
      ((j, v.0), third-part c body k m v.1)

  first-part : (a b c : Option Core) (body : Core) → Passes a → Passes b → Passes c → are_known count body ≡ true
      → ((types : Table) → looped (there a) (there b) (there c) (first_on a b c body) types ≡ true)
      → IfSome a (StartFits table) × (IfSome b (ExpressionFits table) × (IfSome c (ExpressionFits table) × TreeFits table body))
  first-part None b c body i j k m w = (tt, second-part b c body j k m w)
  first-part (Some a) b c body i j k m w =
      let v = both (λ types. is_whole_start (view types a)) (looped never (there b) (there c) (second_on b c body)) w in
      ((i, v.0), second-part b c body j k m v.1)

  pub fits-For : (a b c : Option Core) (body : Core) → FormFits table (form.For a b c body)
      → IfSome a (StartFits table) × (IfSome b (ExpressionFits table) × (IfSome c (ExpressionFits table) × TreeFits table body))
  fits-For a b c body fits =
      let i = and_parts _ _ (known _ _ (known-For count a b c body) fits) in
      let j = and_parts _ _ i.1 in
      let k = and_parts _ _ j.1 in
      first-part a b c body i.0 j.0 k.0 k.1
      (whole (form.For a b c body) (λ types. opened (label.for_loop (there a types) (there b types) (there c types)) (first_on a b c body types)) (λ types. opened-For types a b c body) fits)

  -- ---- the first part of a `for`

  pub start-locals : (core : Core) (lengths : List Core) (locals : List Local) → (out-Core core).form ≡ form.Declare lengths locals → StartFits table core → LocalsFit table locals
  start-locals core lengths locals is fits =
      fits-Declare lengths locals (
        subst (λ (one : Form). are_known_in_form count one ≡ true) is (known-form count core fits.0),
        λ types. ap is_whole_form (opened-Declare types lengths locals)
            ∙ (sym (ap is_whole_start (seen-as types core _ (ap (opened_form types) is ∙ opened-Declare types lengths locals))) ∙ fits.1 types),
      )

  pub start-expression : (core : Core) → ((lengths : List Core) (locals : List Local) → (out-Core core).form ≡ form.Declare lengths locals → ⊥) → StartFits table core → ExpressionFits table core
  start-expression core undeclared fits = (
    fits.0,
    λ types.
        let seen = view-core types core in
        let same = start-form types (out-Core core).form (λ d. undeclared d.0 d.1 d.2) _ _ in
        ap is_expression seen ∙ (sym same ∙ (sym (ap is_whole_start seen) ∙ fits.1 types)),
  )

  -- ---- initialisers

  pub fits-Value : (a : Core) → InitialFits table (initial.Value a) → ExpressionFits table a
  fits-Value a fits = (
    sym (known-Value count a) ∙ fits.0,
    first-of (λ types. is_expression (view types a)) (λ types. true) (λ types. sym (ap (λ (one : OpenedInitial). all_expressions one.expressions) (initial-Value types a)) ∙ fits.1 types),
  )

  pub fits-Parts : (items : List Initial) → InitialFits table (initial.Parts items) → InitialsFit table items
  fits-Parts items fits =
      initials-fit items (sym (known-Parts count items) ∙ fits.0) (λ types. sym (ap (λ (one : OpenedInitial). all_expressions one.expressions) (initial-Parts types items)) ∙ fits.1 types)

  -- ---- declarators

  abbrev local_with : ℕ → Bool → Option Initial → layer.Local-F Form Initial Core Local
  local_with declared defines initial = record { declared = declared; defines = defines; initial = initial }

  known-initial : (declared : ℕ) (defines : Bool) (initial : Option Initial) (one : Initial) → initial ≡ Some one
      → local_known (folds.map-Local Form Initial Core Local Bool Bool Bool Bool (are_known_in_form count) (are_known_in_initial count) (are_known count) (are_known_in_local count) (local_with declared defines initial))
      ≡ are_known_in_initial count one
  known-initial declared defines None one is = absurd (none-some one is)
  known-initial declared defines (Some own) one is = ap (λ (initial : Option Initial). are_known_in_initial count (other own initial)) is

  -- the initialiser of a declarator
  pub fits-initial : (local : Local) (one : Initial) → (out-Local local).initial ≡ Some one → LocalFits table local → InitialFits table one
  fits-initial local one is fits = (
    sym (folds.fold_out-Local Bool Bool Bool Bool (form_known count) initial_known (core_known count) local_known local ∙ known-initial (out-Local local).declared (out-Local local).defines (out-Local local).initial one is) ∙ fits.0,
    λ types. sym (ap all_expressions (local-some types local one is).1) ∙ fits.1 types,
  )
