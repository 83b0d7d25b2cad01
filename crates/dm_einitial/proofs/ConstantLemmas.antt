-- Integer constant expressions, and the commas that they evaluate.
use Rattle.std.specs.Prelude.{◌≡◌, ℕ, Bool, true, ◌&&◌, ◌||◌, is_some, IsTrue, List, ◌∷◌, length, map, refl}
use Rattle.std.proofs.Common.{sym, ap, ap₂, ◌∙◌}
use Rattle.std.proofs.lemmas.Bool.{and_parts}
use Rattle.dm_int.specs.declared.Op.{Op}
use Rattle.dm_type.specs.Tables.{Table, type_of}
use Rattle.dm_tree.specs.declared.tree.Core.{Core, out-Core}
use Rattle.dm_tree.specs.declared.tree.Form.TheVariants as form
use Rattle.dm_tree.specs.declared.tree.Sign.{Sign}
use Rattle.dm_tree.specs.Constants.{integer_kind, is_constant_part, is_constant_form, constant_forms, constant_value}
use Rattle.dm_tree.specs.Opened.{is_constant_view}
use Rattle.dm_tree.specs.Trees.{Tree, Trees, node, no_trees, more_trees, trees}
use Rattle.dm_tree.specs.TypeNumbers.{are_known, are_known_in_form, all_pass}
use Rattle.dm_tree.specs.Views.{Opened, opened_form, node_of, view}
use Rattle.dm_tree.proofs.ViewLemmas.{view-core, known-form, opened-Convert, are_known-Convert, opened-Unary, are_known-Unary, opened-Binary, are_known-Binary, opened-Both, are_known-Both, opened-Either, are_known-Either, opened-Choose, are_known-Choose}
use Rattle.dm_typing.specs.Known.{Known}
use Rattle.dm_edecl.specs.Initialising.{comma_at, has_comma, have_commas, values_in, is_nonzero, is_zero}

-- ---- parts of trees that have the form

-- the types of a part are numbered, and it has the form
abbrev pub IsFine : Table → Core → Type 0
IsFine types core = IsTrue (are_known (length types.shapes) core) × IsTrue (is_constant_form (view types core))

module _ (types : Table) (core : Core) (known : IsTrue (are_known (length types.shapes) core)) (fine : IsTrue (is_constant_form (view types core))) where
  abbrev n : ℕ
  n = length types.shapes

  -- the form of a tree that has it
  pub form-is : IsTrue (is_constant_view (opened_form types (out-Core core).form))
  form-is =
      (and_parts (is_some (integer_kind (type_of types (out-Core core).kind))) (is_constant_view (opened_form types (out-Core core).form))
      (ap is_constant_form (sym (view-core types core)) ∙ fine)).1

  abbrev of_parts : (o : Opened) → opened_form types (out-Core core).form ≡ o → IsTrue (is_constant_part o.label (constant_forms (trees o.parts)))
  of_parts o is = ap is_constant_view (sym is) ∙ form-is

  abbrev numbered : (f : Bool) → are_known_in_form n (out-Core core).form ≡ f → IsTrue f
  numbered f is = sym is ∙ known-form n core known

  pub part-Convert : (a : Core) (lengths : List Core) → (out-Core core).form ≡ form.Convert a lengths → IsFine types a
  part-Convert a lengths is = (
    (and_parts (are_known n a) (all_pass (map (are_known n) lengths)) (numbered _ (ap (are_known_in_form n) is ∙ are_known-Convert n a lengths))).0,
    of_parts _ (ap (opened_form types) is ∙ opened-Convert types a lengths),
  )

  pub part-Unary : (sign : Sign) (a : Core) → (out-Core core).form ≡ form.Unary sign a → IsFine types a
  part-Unary sign a is = (
    numbered _ (ap (are_known_in_form n) is ∙ are_known-Unary n sign a),
    (and_parts (is_constant_form (view types a)) true (of_parts _ (ap (opened_form types) is ∙ opened-Unary types sign a))).0,
  )

  two : (a b : Core) → IsTrue (are_known n a && are_known n b) → IsTrue (is_constant_form (view types a) && (is_constant_form (view types b) && true)) → IsFine types a × IsFine types b
  two a b numbers forms =
      let ids = and_parts (are_known n a) (are_known n b) numbers in
      let first = and_parts (is_constant_form (view types a)) (is_constant_form (view types b) && true) forms in
      let second = and_parts (is_constant_form (view types b)) true first.1 in
      ((ids.0, first.0), (ids.1, second.0))

  pub parts-Binary : (op : Op) (a b : Core) → (out-Core core).form ≡ form.Binary op a b → IsFine types a × IsFine types b
  parts-Binary op a b is = two a b (numbered _ (ap (are_known_in_form n) is ∙ are_known-Binary n op a b)) (of_parts _ (ap (opened_form types) is ∙ opened-Binary types op a b))

  pub parts-Both : (a b : Core) → (out-Core core).form ≡ form.Both a b → IsFine types a × IsFine types b
  parts-Both a b is = two a b (numbered _ (ap (are_known_in_form n) is ∙ are_known-Both n a b)) (of_parts _ (ap (opened_form types) is ∙ opened-Both types a b))

  pub parts-Either : (a b : Core) → (out-Core core).form ≡ form.Either a b → IsFine types a × IsFine types b
  parts-Either a b is = two a b (numbered _ (ap (are_known_in_form n) is ∙ are_known-Either n a b)) (of_parts _ (ap (opened_form types) is ∙ opened-Either types a b))

  pub parts-Choose : (a b c : Core) → (out-Core core).form ≡ form.Choose a b c → IsFine types a × IsFine types b × IsFine types c
  parts-Choose a b c is =
      let ids = and_parts (are_known n a) (are_known n b && are_known n c) (numbered _ (ap (are_known_in_form n) is ∙ are_known-Choose n a b c)) in
      let forms = and_parts (is_constant_form (view types a)) (is_constant_form (view types b) && (is_constant_form (view types c) && true)) (of_parts _ (ap (opened_form types) is ∙ opened-Choose types a b c)) in
      let rest = two b c ids.1 forms.1 in
      ((ids.0, forms.0), rest.0, rest.1)

-- ---- commas

module _ (known : Known) (types : Table) (core : Core) where
  abbrev seen_as : Opened → Tree
  seen_as o = node_of o (type_of types (out-Core core).kind) (out-Core core).inner (out-Core core).outer (out-Core core).place

  abbrev comma_in : Core → Bool
  comma_in one = has_comma known (view types one)

  abbrev nonzero_in : Core → Bool
  nonzero_in one = is_nonzero (constant_value known.types known.declared (view types one))

  abbrev zero_in : Core → Bool
  zero_in one = is_zero (constant_value known.types known.declared (view types one))

  opens : (o : Opened) → opened_form types (out-Core core).form ≡ o → has_comma known (view types core) ≡ has_comma known (seen_as o)
  opens o is = ap (has_comma known) (view-core types core ∙ ap seen_as is)

  pub comma-Both : (a b : Core) → (out-Core core).form ≡ form.Both a b → has_comma known (view types core) ≡ (comma_in a || nonzero_in a && comma_in b)
  comma-Both a b is = opens _ (ap (opened_form types) is ∙ opened-Both types a b)

  pub comma-Either : (a b : Core) → (out-Core core).form ≡ form.Either a b → has_comma known (view types core) ≡ (comma_in a || zero_in a && comma_in b)
  comma-Either a b is = opens _ (ap (opened_form types) is ∙ opened-Either types a b)

  pub comma-Choose : (a b c : Core) → (out-Core core).form ≡ form.Choose a b c → has_comma known (view types core) ≡ (comma_in a || nonzero_in a && comma_in b || zero_in a && comma_in c)
  comma-Choose a b c is = opens _ (ap (opened_form types) is ∙ opened-Choose types a b c)

-- ---- whatever numbers come

-- where constants have the same values, the same commas are evaluated
module _ (one other : Known) (same : (tree : Tree) → constant_value one.types one.declared tree ≡ constant_value other.types other.declared tree) where
  values-same : (parts : Trees) → values_in one parts ≡ values_in other parts
  values-same no_trees = refl
  values-same (more_trees first rest) = ap₂ (λ v vs. v ∷ vs) (same first) (values-same rest)

  mutual
    pub comma-same : (tree : Tree) → has_comma one tree ≡ has_comma other tree
    comma-same (node label kind spans parts) = ap₂ (comma_at label) (values-same parts) (commas-same parts)

    commas-same : (parts : Trees) → have_commas one parts ≡ have_commas other parts
    commas-same no_trees = refl
    commas-same (more_trees first rest) = ap₂ (λ c cs. c ∷ cs) (comma-same first) (commas-same rest)
