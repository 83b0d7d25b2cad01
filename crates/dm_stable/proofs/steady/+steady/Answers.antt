-- Down the left operands of commas the tree is built as long as each right operand is; parts are built one after another.
use Rattle.std.proofs.Common.{◌≡◌, ℕ, ◌<◌, Bool, true, false, ◌&&◌, List, [], ◌++◌, map, Option, Bor, ap, refl, sym, ◌∙◌, rules, arith}
use Rattle.std.specs.Option.{option_copied, option_map}
use denote.Param.Weighed.{most}
use Rattle.dm_type.specs.Tables.{Table, type_of, no_type}
use Rattle.dm_tree.specs.declared.tree.Core as q
use Rattle.dm_tree.specs.declared.tree.Core.{Core, out-Core, size-Core}
use Rattle.dm_tree.specs.declared.tree.Form.{size-Form}
use Rattle.dm_tree.specs.declared.tree.Local.{Local}
use Rattle.dm_tree.specs.Trees.{trees}
use Rattle.dm_tree.specs.Views.{expressions_of_locals, if_there, opened_form, view, view_of_local}
use Rattle.dm_effect.specs.declared.parts.Parts.{Parts}
use Rattle.dm_effect.specs.Forms.{Ruling, is_built, are_built, ruled}
use Rattle.dm_effect.specs.Parts.{parts_in}
use Rattle.dm_effect.specs.Stable.{steady_rule}
use Rattle.dm_stable.specs.Built.{are_built_all, are_there, is_some_tree}
use Rattle.dm_stable.proofs.BuiltLemmas.{built-form, comma-fails, comma-left, all-first, all-none, one-built, parts-built, there-some, there-none}
use Rattle.dm_stable.proofs.steady.+steady.Goals as goal

abbrev built : (ℕ → Bool) → Table → Core → Bool
built test types core = is_built (steady_rule test) (view types core)

pub has_steady_leaves-returns-then-not-has_steady_leaves : goal.has_steady_leaves-returns-then-not-has_steady_leaves
has_steady_leaves-returns-then-not-has_steady_leaves g t c types =
    let test = g.N.Names.test c.args.names.now in
    let right : built test types c.in-Comma.right ≡ false = ap (built test types) (sym c.get.ensures) ∙ (sym (c.has_steady_leaves.ensures types) ∙ c.if-not-has_steady_leaves.true) in
    sym (sym (c.loop-at.invariant.1 types) ∙ comma-fails (steady_rule test) types (λ kind parts. refl) c.loop-at.at.now c.in-Comma.left c.in-Comma.right c.in-Comma.is right)

pub has_steady_leaves-loop-at-preserved : goal.has_steady_leaves-loop-at-preserved
has_steady_leaves-loop-at-preserved g t c = (
  search (rules, q.the_lemmas),
  λ types.
      let test = g.N.Names.test c.args.names.now in
      let right : built test types c.in-Comma.right ≡ true = ap (built test types) (sym c.get.ensures) ∙ (sym (c.has_steady_leaves.ensures types) ∙ c.if-not-has_steady_leaves.false) in
      ap (built test types) c.get-at.ensures
      ∙ (sym (comma-left (steady_rule test) types (λ kind parts. refl) c.loop-at.at.now c.in-Comma.left c.in-Comma.right c.in-Comma.is right) ∙ c.loop-at.invariant.1 types),
)

-- ---- parts

abbrev own : (ℕ → Bool) → Table → Core → Ruling
own test types core =
    let seen = opened_form types (out-Core core).form in
    steady_rule test seen.label (type_of types (out-Core core).kind) (trees seen.parts)

pub has_steady_leaves-returns-in-Some : goal.has_steady_leaves-returns-in-Some
has_steady_leaves-returns-in-Some g t c types =
    let test = g.N.Names.test c.args.names.now in
    let at = c.loop-at.at.now in
    let parts : List Bool = are_built (steady_rule test) (trees (opened_form types (out-Core at).form).parts) in
    sym (sym (c.loop-at.invariant.1 types)
    ∙ (built-form (steady_rule test) types at ∙ ap (λ (ruling : Ruling). ruled ruling parts) (c.in-Some.ensures.rule types (type_of types (out-Core at).kind))))

pub has_steady_leaves-returns-in-None : goal.has_steady_leaves-returns-in-None
has_steady_leaves-returns-in-None g t c types =
    let test = g.N.Names.test c.args.names.now in
    let at = c.loop-at.at.now in
    let parts : List Bool = are_built (steady_rule test) (trees (opened_form types (out-Core at).form).parts) in
    c.parts_have_steady_leaves.ensures types
    ∙ (ap (are_there (steady_rule test)) (c.parts_of.ensures.same types)
    ∙ sym (sym (c.loop-at.invariant.1 types)
    ∙ (built-form (steady_rule test) types at ∙ ap (λ (ruling : Ruling). ruled ruling parts) (c.in-None.ensures.rule types (type_of types (out-Core at).kind)))))

pub has_steady_leaves-parts_have_steady_leaves-requires : goal.has_steady_leaves-parts_have_steady_leaves-requires
has_steady_leaves-parts_have_steady_leaves-requires g t c = λ κs within.
    let at = c.loop-at.at.now in
    let deep : size-Form (out-Core at).form < size-Core at = search (rules, q.the_lemmas) in
    let below = c.parts_of.ensures.below in
    let shallow = c.loop-at.invariant.0 in
    let whole = c.decreases in (
      first_of (search (rules, q.the_lemmas), omega (arith, deep, shallow, whole, below.first, below.second, below.third, below.fourth, below.items, below.locals)),
      (within, c.parts_of.ensures.expression no_type (c.in-None.ensures.expression no_type)),
    )

abbrev in_part : (ℕ → Bool) → Table → Option (Bor Core) → Bool
in_part test types part = are_built_all (steady_rule test) (if_there (option_map (view types) (option_copied part)))

abbrev in_list : (ℕ → Bool) → Table → List Core → Bool
in_list test types all = are_built_all (steady_rule test) (map (view types) all)

there : (test : ℕ → Bool) (types : Table) (parts : Parts) → parts.locals.now ≡ [] → is_some_tree (parts_in types parts) ≡ true
    → are_there (steady_rule test) (parts_in types parts)
    ≡ (in_part test types parts.first && (in_part test types parts.second && (in_part test types parts.third && (in_part test types parts.fourth && in_list test types parts.items.now))))
there test types parts none some =
    there-some (steady_rule test) (parts_in types parts) some
    ∙ (ap (λ (locals : List Local). are_built_all (steady_rule test)
    (if_there (option_map (view types) (option_copied parts.first))
    ++ (if_there (option_map (view types) (option_copied parts.second))
    ++ (if_there (option_map (view types) (option_copied parts.third))
    ++ (if_there (option_map (view types) (option_copied parts.fourth))
    ++ (map (view types) parts.items.now ++ expressions_of_locals (map (view_of_local types) locals))))))) none
    ∙ parts-built (steady_rule test) (if_there (option_map (view types) (option_copied parts.first))) (if_there (option_map (view types) (option_copied parts.second)))
    (if_there (option_map (view types) (option_copied parts.third))) (if_there (option_map (view types) (option_copied parts.fourth))) (map (view types) parts.items.now))

stops : (p q : Bool) → p ≡ false → (p && q) ≡ false
stops p q h = ap (λ b. b && q) h

goes : (p q : Bool) → p ≡ true → (p && q) ≡ q
goes p q h = ap (λ b. b && q) h

pub parts_have_steady_leaves-returns-then-not-has_parts : goal.parts_have_steady_leaves-returns-then-not-has_parts
parts_have_steady_leaves-returns-then-not-has_parts g t c types =
    sym (there-none (steady_rule (g.N.Names.test c.args.names.now)) (parts_in types c.args.parts) (sym (c.has_parts.ensures types) ∙ c.if-not-has_parts.true))

pub parts_have_steady_leaves-returns-then-not-part_has_steady_leaves : goal.parts_have_steady_leaves-returns-then-not-part_has_steady_leaves
parts_have_steady_leaves-returns-then-not-part_has_steady_leaves g t c types =
    let test = g.N.Names.test c.args.names.now in
    let parts = c.args.parts in
    let some : is_some_tree (parts_in types parts) ≡ true = sym (c.has_parts.ensures types) ∙ c.if-not-has_parts.false in
    sym (there test types parts c.requires some
    ∙ (stops (in_part test types parts.first) _ (sym (c.part_has_steady_leaves.ensures types) ∙ c.if-not-part_has_steady_leaves.true)))

pub parts_have_steady_leaves-returns-then-not-part_has_steady_leaves-2 : goal.parts_have_steady_leaves-returns-then-not-part_has_steady_leaves-2
parts_have_steady_leaves-returns-then-not-part_has_steady_leaves-2 g t c types =
    let test = g.N.Names.test c.args.names.now in
    let parts = c.args.parts in
    let some : is_some_tree (parts_in types parts) ≡ true = sym (c.has_parts.ensures types) ∙ c.if-not-has_parts.false in
    sym (there test types parts c.requires some
    ∙ (goes (in_part test types parts.first) _ (sym (c.part_has_steady_leaves.ensures types) ∙ c.if-not-part_has_steady_leaves.false)
    ∙ (stops (in_part test types parts.second) _ (sym (c.part_has_steady_leaves-2.ensures types) ∙ c.if-not-part_has_steady_leaves-2.true))))

pub parts_have_steady_leaves-returns-then-not-part_has_steady_leaves-3 : goal.parts_have_steady_leaves-returns-then-not-part_has_steady_leaves-3
parts_have_steady_leaves-returns-then-not-part_has_steady_leaves-3 g t c types =
    let test = g.N.Names.test c.args.names.now in
    let parts = c.args.parts in
    let some : is_some_tree (parts_in types parts) ≡ true = sym (c.has_parts.ensures types) ∙ c.if-not-has_parts.false in
    sym (there test types parts c.requires some
    ∙ (goes (in_part test types parts.first) _ (sym (c.part_has_steady_leaves.ensures types) ∙ c.if-not-part_has_steady_leaves.false)
    ∙ (goes (in_part test types parts.second) _ (sym (c.part_has_steady_leaves-2.ensures types) ∙ c.if-not-part_has_steady_leaves-2.false)
    ∙ (stops (in_part test types parts.third) _ (sym (c.part_has_steady_leaves-3.ensures types) ∙ c.if-not-part_has_steady_leaves-3.true)))))

pub parts_have_steady_leaves-returns-then-not-part_has_steady_leaves-4 : goal.parts_have_steady_leaves-returns-then-not-part_has_steady_leaves-4
parts_have_steady_leaves-returns-then-not-part_has_steady_leaves-4 g t c types =
    let test = g.N.Names.test c.args.names.now in
    let parts = c.args.parts in
    let some : is_some_tree (parts_in types parts) ≡ true = sym (c.has_parts.ensures types) ∙ c.if-not-has_parts.false in
    sym (there test types parts c.requires some
    ∙ (goes (in_part test types parts.first) _ (sym (c.part_has_steady_leaves.ensures types) ∙ c.if-not-part_has_steady_leaves.false)
    ∙ (goes (in_part test types parts.second) _ (sym (c.part_has_steady_leaves-2.ensures types) ∙ c.if-not-part_has_steady_leaves-2.false)
    ∙ (goes (in_part test types parts.third) _ (sym (c.part_has_steady_leaves-3.ensures types) ∙ c.if-not-part_has_steady_leaves-3.false)
    ∙ (stops (in_part test types parts.fourth) _ (sym (c.part_has_steady_leaves-4.ensures types) ∙ c.if-not-part_has_steady_leaves-4.true))))))

pub parts_have_steady_leaves-returns : goal.parts_have_steady_leaves-returns
parts_have_steady_leaves-returns g t c types =
    let test = g.N.Names.test c.args.names.now in
    let parts = c.args.parts in
    let some : is_some_tree (parts_in types parts) ≡ true = sym (c.has_parts.ensures types) ∙ c.if-not-has_parts.false in
    c.all_have_steady_leaves.ensures types
    ∙ sym (there test types parts c.requires some
    ∙ (goes (in_part test types parts.first) _ (sym (c.part_has_steady_leaves.ensures types) ∙ c.if-not-part_has_steady_leaves.false)
    ∙ (goes (in_part test types parts.second) _ (sym (c.part_has_steady_leaves-2.ensures types) ∙ c.if-not-part_has_steady_leaves-2.false)
    ∙ (goes (in_part test types parts.third) _ (sym (c.part_has_steady_leaves-3.ensures types) ∙ c.if-not-part_has_steady_leaves-3.false)
    ∙ (goes (in_part test types parts.fourth) _ (sym (c.part_has_steady_leaves-4.ensures types) ∙ c.if-not-part_has_steady_leaves-4.false))))))

-- ---- lists

pub part_has_steady_leaves-returns-in-Some : goal.part_has_steady_leaves-returns-in-Some
part_has_steady_leaves-returns-in-Some g t c types =
    let test = g.N.Names.test c.args.names.now in
    c.has_steady_leaves.ensures types ∙ sym (ap (in_part test types) c.in-Some.is ∙ one-built (steady_rule test) (view types c.in-Some.tree.now))

pub all_have_steady_leaves-returns-then-not-has_steady_leaves : goal.all_have_steady_leaves-returns-then-not-has_steady_leaves
all_have_steady_leaves-returns-then-not-has_steady_leaves g t c types =
    let test = g.N.Names.test c.args.names.now in
    let rest = in_list test types c.in-Some.rest.now in
    sym (sym (c.loop-tree.invariant.1 types)
    ∙ (all-first (steady_rule test) types c.loop-tree.left.now c.in-Some.rest.now c.in-Some.tree.now c.in-Some.ensures.cases.0
    ∙ ap (λ b. b && rest) (sym (c.has_steady_leaves.ensures types) ∙ c.if-not-has_steady_leaves.true)))

pub all_have_steady_leaves-loop-tree-preserved : goal.all_have_steady_leaves-loop-tree-preserved
all_have_steady_leaves-loop-tree-preserved g t c =
    let deep = ap (most size-Core) c.in-Some.ensures.cases.0 in
    let below = c.loop-tree.invariant.0 in (
      omega (arith, deep, below),
      λ types.
          let test = g.N.Names.test c.args.names.now in
          let rest = in_list test types c.in-Some.rest.now in
          sym (all-first (steady_rule test) types c.loop-tree.left.now c.in-Some.rest.now c.in-Some.tree.now c.in-Some.ensures.cases.0
          ∙ ap (λ b. b && rest) (sym (c.has_steady_leaves.ensures types) ∙ c.if-not-has_steady_leaves.false))
          ∙ c.loop-tree.invariant.1 types,
    )

pub all_have_steady_leaves-returns : goal.all_have_steady_leaves-returns
all_have_steady_leaves-returns g t c types =
    let test = g.N.Names.test c.args.names.now in
    sym (sym (c.loop-tree.invariant.1 types) ∙ all-none (steady_rule test) types c.loop-tree.left.now (search rules))
