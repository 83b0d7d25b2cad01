-- The initialisers in braces, one after the other (6.7.9).
use Rattle.std.proofs.Common.{◌≡◌, ℕ, suc, List, [], ◌∷◌, ◌++◌, map, length, take, drop, append_assoc, rules, refl, ap, sym, ◌∙◌}
use Rattle.std.proofs.lemmas.List.{length-map, map-append}
use Rattle.std.proofs.Math.Seq.{drop-append_seam, take-append_seam}
use Rattle.dm_type.specs.CTypes.{CType, bare}
use Rattle.dm_type.specs.Tables.{Table}
use Rattle.dm_tree.specs.declared.tree.Core as q
use Rattle.dm_tree.specs.declared.tree.Initial.{Initial}
use Rattle.dm_tree.specs.declared.tree.Initial.TheVariants as initial
use Rattle.dm_tree.specs.Trees.{expressions_in, in_braces}
use Rattle.dm_tree.specs.Views.{OpenedInitial, items_of, expressions_of_items}
use Rattle.dm_layout.specs.LaidOut.{laid_out}
use Rattle.dm_meaning.specs.Objects.{all_zero, inner_type}
use Rattle.dm_meaning.specs.Statements.{count_items}
use Rattle.dm_meaning.specs.Units.{static_parts, static_value}
use Rattle.dm_meaning.specs.Values as values
use Rattle.dm_program.proofs.InitialLemmas.{initial-counted}
use Rattle.dm_program.specs.Initials.{view_of_initial}
use Rattle.dm_value.specs.declared.value.Value.{Value}
use Rattle.dm_value.specs.Views.{view_of_value}
use Rattle.dm_start.specs.declared.scene.Scene.{Scene}
use Rattle.dm_start.specs.Scenes.{memory_in, parts_from, program_in, types_in, value_in}

-- the first of them, and the others
pub parts-first : (scene : Scene) (kind : CType) (n : ℕ) (first : Initial) (rest : List Initial)
    → parts_from scene kind n (first ∷ rest) ≡ value_in scene (inner_type (laid_out (types_in scene)) (bare kind) n) first ∷ parts_from scene kind (suc n) rest
parts-first scene kind n first rest =
    let table = types_in scene in
    let program = program_in scene in
    let names = scene.names.now in
    let memory = memory_in scene in
    let inner = inner_type (laid_out table) (bare kind) n in
    let one = view_of_initial table first in
    let items = items_of (map (view_of_initial table) rest) in
    let others = expressions_of_items (map (view_of_initial table) rest) in
    let count = initial-counted table first in
    let front : take (expressions_in one.initialiser) (one.expressions ++ others) ≡ one.expressions = ap (λ n. take n (one.expressions ++ others)) (sym count) ∙ take-append_seam one.expressions others in
    let back : drop (expressions_in one.initialiser) (one.expressions ++ others) ≡ others = ap (λ n. drop n (one.expressions ++ others)) (sym count) ∙ drop-append_seam one.expressions others in
    ap (λ expressions. static_value program names memory inner one.initialiser expressions
    ∷ static_parts program names memory kind (suc n) items (drop (expressions_in one.initialiser) (one.expressions ++ others))) front
    ∙ ap (λ expressions. static_value program names memory inner one.initialiser one.expressions ∷ static_parts program names memory kind (suc n) items expressions) back

-- one more value is that of the first initialiser that is left
pub one-given : (scene : Scene) (kind : CType) (n m : ℕ) (first : Initial) (left rest : List Initial) (given more : List Value) (one : Value) (all : List values.Value)
    → left ≡ first ∷ rest → m ≡ suc n → more ≡ given ++ one ∷ [] → view_of_value one ≡ value_in scene (inner_type (laid_out (types_in scene)) (bare kind) n) first
    → map view_of_value given ++ parts_from scene kind n left ≡ all → map view_of_value more ++ parts_from scene kind m rest ≡ all
one-given scene kind n m first left rest given more one all splits next is same so_far =
    ap (λ items. map view_of_value items ++ parts_from scene kind m rest) is
    ∙ (ap (λ front. front ++ parts_from scene kind m rest) (map-append view_of_value given (one ∷ []))
    ∙ (append_assoc (map view_of_value given) (view_of_value one ∷ []) (parts_from scene kind m rest)
    ∙ (ap (λ v. map view_of_value given ++ v ∷ parts_from scene kind m rest) same
    ∙ (ap (λ k. map view_of_value given ++ value_in scene (inner_type (laid_out (types_in scene)) (bare kind) n) first ∷ parts_from scene kind k rest) next
    ∙ (ap (λ back. map view_of_value given ++ back) (sym (parts-first scene kind n first rest))
    ∙ (ap (λ items. map view_of_value given ++ parts_from scene kind n items) (sym splits) ∙ so_far))))))

-- ---- an initialiser by its form

pub initial-Parts : (table : Table) (items : List Initial)
    → view_of_initial table (initial.Parts items) ≡ record { initialiser = in_braces (items_of (map (view_of_initial table) items)); expressions = expressions_of_items (map (view_of_initial table) items) }
initial-Parts table items = search (rules, q.the_lemmas)

-- as many as the list has
counted : (items : List OpenedInitial) → count_items (items_of items) ≡ length items
counted [] = refl
counted (first ∷ rest) = ap suc (counted rest)

module _ (scene : Scene) (kind : CType) where
  abbrev given : OpenedInitial → values.Value
  given one = static_value (program_in scene) scene.names.now (memory_in scene) kind one.initialiser one.expressions

  -- a list in braces
  pub value-Parts : (one : Initial) (items : List Initial) → one ≡ initial.Parts items
      → value_in scene kind one ≡ values.parts (values.values (parts_from scene kind 0 items ++ drop (length items) (values.parts_in (all_zero (laid_out (types_in scene)) kind))))
  value-Parts one items is =
      let seen = map (view_of_initial (types_in scene)) items in
      let count : count_items (items_of seen) ≡ length items = counted seen ∙ length-map items (view_of_initial (types_in scene)) in
      ap given (ap (view_of_initial (types_in scene)) is ∙ initial-Parts (types_in scene) items)
      ∙ ap (λ n. values.parts (values.values (parts_from scene kind 0 items ++ drop n (values.parts_in (all_zero (laid_out (types_in scene)) kind))))) count

  pub value-completed : (one : Initial) (items listed : List Initial) (seen : List Value) (value : values.Value) → one ≡ initial.Parts items → listed ≡ items
      → map view_of_value seen ≡ parts_from scene kind 0 listed → length seen ≡ length listed
      → value ≡ values.parts (values.values (map view_of_value seen ++ drop (length seen) (values.parts_in (all_zero (laid_out (types_in scene)) kind))))
      → value ≡ value_in scene kind one
  value-completed one items listed seen value is same parts count completed =
      let zero = values.parts_in (all_zero (laid_out (types_in scene)) kind) in
      completed
      ∙ (ap (λ front. values.parts (values.values (front ++ drop (length seen) zero))) (parts ∙ ap (parts_from scene kind 0) same)
      ∙ (ap (λ n. values.parts (values.values (parts_from scene kind 0 items ++ drop n zero))) (count ∙ ap length same)
      ∙ sym (value-Parts one items is)))
