-- Nodes of the code under a rule.
use Rattle.std.proofs.Common.{◌≡◌, Bool, true, false, ◌&&◌, List, [], ◌∷◌, ◌++◌, map, length, append-nil, refl, ap, sym, ◌∙◌, arith}
use Rattle.dm_type.specs.CTypes.{CType}
use Rattle.dm_type.specs.Tables.{Table, type_of}
use Rattle.dm_tree.specs.declared.tree.Core.{Core, out-Core}
use Rattle.dm_tree.specs.declared.tree.Form.{Form}
use Rattle.dm_tree.specs.declared.tree.Form.TheVariants as form
use Rattle.dm_tree.specs.Trees as label
use Rattle.dm_tree.specs.Trees.{Label, Tree, Trees, trees}
use Rattle.dm_tree.specs.Views.{opened, opened_form, view}
use Rattle.dm_tree.proofs.ViewLemmas.{view-core, opened-Comma}
use Rattle.dm_effect.specs.Forms.{Ruling, by_parts, ruled, is_built}
use Rattle.dm_stable.specs.Built.{is_built_form, are_built_all, are_there, is_some_tree}

and_true : (p : Bool) → (p && true) ≡ p
and_true true = refl
and_true false = refl

and_false : (p : Bool) → (p && false) ≡ false
and_false true = refl
and_false false = refl

and_assoc : (p q r : Bool) → ((p && q) && r) ≡ (p && (q && r))
and_assoc true q r = refl
and_assoc false q r = refl

-- ---- trees in order

module _ (rule : Label → CType → Trees → Ruling) where
  all-append : (all others : List Tree) → are_built_all rule (all ++ others) ≡ (are_built_all rule all && are_built_all rule others)
  all-append [] others = refl
  all-append (first ∷ all) others =
      ap (λ b. is_built rule first && b) (all-append all others) ∙ sym (and_assoc (is_built rule first) (are_built_all rule all) (are_built_all rule others))

  -- the parts of a node, one after another
  pub parts-built : (a b c d e : List Tree) → are_built_all rule (a ++ (b ++ (c ++ (d ++ (e ++ [])))))
      ≡ (are_built_all rule a && (are_built_all rule b && (are_built_all rule c && (are_built_all rule d && are_built_all rule e))))
  parts-built a b c d e =
      all-append a _ ∙ ap (λ x. are_built_all rule a && x)
      (all-append b _ ∙ ap (λ x. are_built_all rule b && x)
      (all-append c _ ∙ ap (λ x. are_built_all rule c && x)
      (all-append d _ ∙ ap (λ x. are_built_all rule d && are_built_all rule x) (append-nil e))))

  pub there-some : (all : List Tree) → is_some_tree all ≡ true → are_there rule all ≡ are_built_all rule all
  there-some [] h = absurd (cc)
  there-some (first ∷ all) h = refl

  pub there-none : (all : List Tree) → is_some_tree all ≡ false → are_there rule all ≡ false
  there-none [] h = refl
  there-none (first ∷ all) h = absurd (cc)

  pub one-built : (tree : Tree) → are_built_all rule (tree ∷ []) ≡ is_built rule tree
  one-built tree = and_true (is_built rule tree)

  -- ---- nodes

  module _ (types : Table) where
    pub built-form : (core : Core) → is_built rule (view types core) ≡ is_built_form rule (type_of types (out-Core core).kind) (opened_form types (out-Core core).form)
    built-form core = ap (is_built rule) (view-core types core)

    -- a comma is as its operands are
    module _ (commas : (kind : CType) (parts : Trees) → rule label.comma kind parts ≡ by_parts) (core a b : Core) (is : (out-Core core).form ≡ form.Comma a b) where
      built-comma : is_built rule (view types core) ≡ (is_built rule (view types a) && (is_built rule (view types b) && true))
      built-comma =
          built-form core
          ∙ (ap (is_built_form rule (type_of types (out-Core core).kind)) (ap (opened_form types) is ∙ opened-Comma types a b)
          ∙ ap (λ (ruling : Ruling). ruled ruling (is_built rule (view types a) ∷ is_built rule (view types b) ∷ [])) (commas (type_of types (out-Core core).kind) (trees (view types a ∷ view types b ∷ []))))

      pub comma-fails : is_built rule (view types b) ≡ false → is_built rule (view types core) ≡ false
      comma-fails right = built-comma ∙ (ap (λ q. is_built rule (view types a) && (q && true)) right ∙ and_false (is_built rule (view types a)))

      pub comma-left : is_built rule (view types b) ≡ true → is_built rule (view types core) ≡ is_built rule (view types a)
      comma-left right = built-comma ∙ (ap (λ q. is_built rule (view types a) && (q && true)) right ∙ and_true (is_built rule (view types a)))

    -- ---- forms with several parts

    module _ (kind : CType) (f other : Form) (is : f ≡ other) (l : Label) where
      pub two-built : (a b : Core) → opened_form types other ≡ opened l (view types a ∷ view types b ∷ []) → rule l kind (trees (view types a ∷ view types b ∷ [])) ≡ by_parts
          → is_built rule (view types a) ≡ true → is_built_form rule kind (opened_form types f) ≡ is_built rule (view types b)
      two-built a b opens parted left =
          ap (is_built_form rule kind) (ap (opened_form types) is ∙ opens)
          ∙ (ap (λ (ruling : Ruling). ruled ruling (is_built rule (view types a) ∷ is_built rule (view types b) ∷ [])) parted
          ∙ (ap (λ p. p && (is_built rule (view types b) && true)) left ∙ and_true (is_built rule (view types b))))

      pub three-built : (a b c : Core) → opened_form types other ≡ opened l (view types a ∷ view types b ∷ view types c ∷ []) → rule l kind (trees (view types a ∷ view types b ∷ view types c ∷ [])) ≡ by_parts
          → is_built rule (view types a) ≡ true → is_built_form rule kind (opened_form types f) ≡ (is_built rule (view types b) && is_built rule (view types c))
      three-built a b c opens parted first =
          ap (is_built_form rule kind) (ap (opened_form types) is ∙ opens)
          ∙ (ap (λ (ruling : Ruling). ruled ruling (is_built rule (view types a) ∷ is_built rule (view types b) ∷ is_built rule (view types c) ∷ [])) parted
          ∙ (ap (λ p. p && (is_built rule (view types b) && (is_built rule (view types c) && true))) first ∙ ap (λ q. is_built rule (view types b) && q) (and_true (is_built rule (view types c)))))

    -- ---- lists

    pub all-first : (all rest : List Core) (first : Core) → all ≡ first ∷ rest → are_built_all rule (map (view types) all) ≡ (is_built rule (view types first) && are_built_all rule (map (view types) rest))
    all-first all rest first is = ap (λ them. are_built_all rule (map (view types) them)) is

    pub all-none : (all : List Core) → length all ≡ 0 → are_built_all rule (map (view types) all) ≡ true
    all-none [] h = refl
    all-none (first ∷ all) h = absurd (omega arith)
