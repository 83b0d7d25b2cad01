-- The function that is put in (6.9.1).
--     returned      its expression is the value of a well-typed `return`
--     scoped_body      names in it are in the scope of its parameters
use Rattle.std.specs.Prelude.{◌≡◌, refl, ℕ, Bool, true, ◌&&◌, List, [], ◌∷◌}
use Rattle.std.proofs.Common.{ap, sym, ◌∙◌, subst}
use Rattle.dm_type.specs.CTypes.{CType}
use Rattle.dm_tree.specs.Composites.{covers}
use Rattle.dm_tree.specs.Scenes.{Scene, IsValue}
use Rattle.dm_tree.specs.Trees.{Label, switch, case, default, while_loop, do_loop, for_loop, block, return, Spans, Tree, Trees, node, no_trees, more_trees, label_of, kind_of, parts_of, listed}
use Rattle.dm_tree.specs.Typing.{inside, IsWellTyped, AreWellTyped}
use Rattle.dm_effect.specs.Scoped.{is_scoped}
use Rattle.dm_meaning.proofs.OptionLemmas.{and_left}
use Rattle.dm_refine.proofs.ConstantTreeLemmas.{inside_declared}

-- ---- its expression

pub single_tree : (trees : Trees) (tree : Tree) → listed trees ≡ tree ∷ [] → trees ≡ more_trees tree no_trees
single_tree no_trees tree e = absurd (cc)
single_tree (more_trees first no_trees) tree e = ap (λ (t : Tree). more_trees t no_trees) (cc)
single_tree (more_trees first (more_trees second rest)) tree e = absurd (cc)

inside_result : (scene : Scene) (label : Label) (parts : List Tree) → (inside scene label parts).result ≡ scene.result
inside_result scene switch parts = refl
inside_result scene case parts = refl
inside_result scene default parts = refl
inside_result scene while_loop parts = refl
inside_result scene do_loop parts = refl
inside_result scene (for_loop first second third) parts = refl
inside_result scene label parts = refl

pub record IsReturned (scene : Scene) (body : Tree) : Type 0 where
  pub inner : Scene
  pub same : inner.declared ≡ scene.declared
  pub typed : IsWellTyped inner body
  pub value : IsValue body
  pub covered : covers scene.result (kind_of body) ≡ true

pub returned : (scene : Scene) (whole body : Tree) (kind : CType) (spans : Spans) → parts_of whole ≡ node return kind spans (more_trees body no_trees) ∷ [] → IsWellTyped scene whole → IsReturned scene body
returned scene (node label type own parts) body kind spans e t =
    let item = node return kind spans (more_trees body no_trees) in
    let below = inside scene label (listed parts) in
    let one = single_tree parts item e in
    let there = (subst (λ (ts : Trees). AreWellTyped below ts) one t.1).0 in
    record {
      inner = inside below return (body ∷ []);
      same = inside_declared scene label (listed parts);
      typed = there.1.0;
      value = there.0.0.0;
      covered = ap (λ (result : CType). covers result (kind_of body)) (sym (inside_result scene label (listed parts))) ∙ there.0.0.1;
    }

-- names in it are in the scope of the function's parameters
pub scoped_body : (automatic : ℕ → Bool) (scope : List ℕ) (whole body : Tree) (kind : CType) (spans : Spans) → label_of whole ≡ block → parts_of whole ≡ node return kind spans (more_trees body no_trees) ∷ []
    → is_scoped automatic scope whole ≡ true → is_scoped automatic scope body ≡ true
scoped_body automatic scope (node label type own parts) body kind spans b e h =
    let whole : is_scoped automatic scope (node block type own (more_trees (node return kind spans (more_trees body no_trees)) no_trees)) ≡ true =
    ap (λ (l : Label). is_scoped automatic scope (node l type own (more_trees (node return kind spans (more_trees body no_trees)) no_trees))) (sym b)
    ∙ (ap (λ (ts : Trees). is_scoped automatic scope (node label type own ts)) (sym (single_tree parts (node return kind spans (more_trees body no_trees)) e)) ∙ h) in
    and_left (is_scoped automatic scope body) true (and_left (is_scoped automatic scope body && true) true whole)
