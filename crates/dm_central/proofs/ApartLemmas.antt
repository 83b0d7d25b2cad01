-- A tree that reads objects by their names alone reads nothing else, wherever it is evaluated.
use Rattle.std.specs.Prelude.{◌≡◌, refl, ◌⊎◌, ℕ, zero, suc, Bool, true, false, List, [], ◌∷◌, ◌++◌, Option, Some, None, pos}
use Rattle.std.proofs.Common.{ap, sym, ◌∙◌, subst, inl, inr}
use Rattle.dm_type.specs.CTypes.{CType}
use Rattle.dm_tree.specs.Trees.{Label, object, read, both, either, choose, comma, call, sizeof_tree, Spans, Tree, Trees, node, no_trees, more_trees}
use Rattle.dm_meaning.specs.Among.{IsAmong}
use Rattle.dm_meaning.specs.Values.{At, numbered}
use Rattle.dm_meaning.specs.Memory.{Memory}
use Rattle.dm_meaning.specs.Programs.{layout}
use Rattle.dm_meaning.specs.Operations.{Operand, World, Did, gives, breaks, ends_with, Truth, holds, untold, truth_of, designated, designates, whole, object_named, operate, number_alone}
use Rattle.dm_meaning.specs.Running.{begun, all_begun, Open, first_open, others_open, open_of}
use Rattle.dm_meaning.specs.Expressions.{value_of}
use Rattle.dm_meaning.proofs.AmongLemmas.{among_either}
use Rattle.dm_rewrite.specs.Computed.{Computed, ComputedParts, Part, joined, joined_if, after_reads, given_by, on_alone, by_holds, after_operands, read_here, truth_computed, value_computed, nth_computed, only, both_computed, either_computed, picked_computed, form_computed, found_in, computed, all_computed}
use Rattle.dm_rewrite.specs.Effects.{Effect, Stage, IsFree}
use Rattle.dm_central.specs.Apart.{ReadsFreeName, ReadsFreeNames, AllReadFreeNames}
use Rattle.dm_central.specs.Arguments.{ReadsApart}

module _ (stage : Stage) (effects : List Effect) (world : World) where
  -- no place of these is in an object that is written
  abbrev PlacesFree : List At → Type 0
  PlacesFree reads = (at : At) → IsAmong at reads → (n : ℕ) → at.name ≡ numbered n → IsFree stage.closed effects n

  abbrev ReadsFree : Option Computed → Type 0
  ReadsFree None = Unit {0}
  ReadsFree (Some found) = PlacesFree found.reads

  abbrev PartsFree : Option ComputedParts → Type 0
  PartsFree None = Unit {0}
  PartsFree (Some found) = PlacesFree found.reads

  abbrev AllFree : List Part → Type 0
  AllFree [] = Unit {0}
  AllFree (part ∷ parts) = ReadsFree part.1 × AllFree parts

  nothing_read : PlacesFree []
  nothing_read at k = absurd k

  both_free : (reads more : List At) → PlacesFree reads → PlacesFree more → PlacesFree (reads ++ more)
  both_free reads more h k at l n e = by_either (among_either at reads more l)
    where
      by_either : IsAmong at reads ⊎ IsAmong at more → IsFree stage.closed effects n
      by_either (inl a) = h at a n e
      by_either (inr b) = k at b n e

  joined_free : (kind : CType) (first : Option Computed) (rest : Option ComputedParts) → ReadsFree first → PartsFree rest → PartsFree (joined kind first rest)
  joined_free kind None rest h k = tt
  joined_free kind (Some first) None h k = tt
  joined_free kind (Some first) (Some rest) h k = both_free first.reads rest.reads h k

  if_free : (b : Bool) (kind : CType) (first : Option Computed) (rest : Option ComputedParts) → ReadsFree first → PartsFree rest → PartsFree (joined_if b kind first rest)
  if_free true kind first rest h k = joined_free kind first rest h k
  if_free false kind first rest h k = k

  found_free : (opens : Open) (parts : List Part) → AllFree parts → PartsFree (found_in opens parts)
  found_free opens [] h = nothing_read
  found_free opens (part ∷ parts) h = if_free (first_open opens) part.0 part.1 (found_in (others_open opens) parts) h.0 (found_free (others_open opens) parts h.1)

  after_free : (reads : List At) (o : Option Computed) → PlacesFree reads → ReadsFree o → ReadsFree (after_reads reads o)
  after_free reads None h k = tt
  after_free reads (Some found) h k = both_free reads found.reads h k

  operands_free : (found : Option ComputedParts) (next : List Operand → Option Computed) → PartsFree found → ((operands : List Operand) → ReadsFree (next operands)) → ReadsFree (after_operands found next)
  operands_free None next h k = tt
  operands_free (Some found) next h k = after_free found.reads (next found.operands) h (k found.operands)

  alone_free : (operands : List Operand) (next : Operand → Option Computed) → ((a : Operand) → ReadsFree (next a)) → ReadsFree (on_alone operands next)
  alone_free [] next h = tt
  alone_free (a ∷ []) next h = h a
  alone_free (a ∷ b ∷ rest) next h = tt

  holds_free : (truth : Truth) (next : Bool → Option Computed) → ((b : Bool) → ReadsFree (next b)) → ReadsFree (by_holds truth next)
  holds_free (holds b) next h = h b
  holds_free (untold cause) next h = tt

  given_free : (reads : List At) (did : Did) → PlacesFree reads → ReadsFree (given_by reads did)
  given_free reads (gives after result []) h = h
  given_free reads (gives after result (lock ∷ locks)) h = tt
  given_free reads (breaks cause) h = tt
  given_free reads (ends_with status) h = tt

  nth_free : (n : ℕ) (parts : List Part) → AllFree parts → ReadsFree (nth_computed n parts).1
  nth_free n [] h = nothing_read
  nth_free zero (part ∷ parts) h = h.0
  nth_free (suc n) (part ∷ parts) h = nth_free n parts h.1

  only_free : (n : ℕ) (parts : List Part) → AllFree parts → PartsFree (only (nth_computed n parts))
  only_free n parts h = joined_free (nth_computed n parts).0 (nth_computed n parts).1 (Some (record { operands = []; reads = [] })) (nth_free n parts h) nothing_read

  truth_free : (memory : Memory) (kind : CType) (found : Option ComputedParts) → PartsFree found → ReadsFree (truth_computed memory kind found)
  truth_free memory kind found h =
      operands_free found _ h (λ operands. alone_free operands _ (λ a. holds_free (truth_of memory (value_of a.result)) _ (λ b. nothing_read)))

  value_free : (found : Option ComputedParts) → PartsFree found → ReadsFree (value_computed found)
  value_free found h = operands_free found _ h (λ operands. alone_free operands _ (λ a. nothing_read))

  first_free : (memory : Memory) (operands : List Operand) (next : Bool → Option Computed) → ((b : Bool) → ReadsFree (next b))
      → ReadsFree (on_alone operands (λ a. by_holds (truth_of memory (value_of a.result)) next))
  first_free memory operands next h = alone_free operands _ (λ a. holds_free (truth_of memory (value_of a.result)) next h)

  both_chosen : (memory : Memory) (kind : CType) (parts : List Part) → AllFree parts → (b : Bool) → ReadsFree (both_computed memory kind parts b)
  both_chosen memory kind parts h true = truth_free memory kind (only (nth_computed 1 parts)) (only_free 1 parts h)
  both_chosen memory kind parts h false = nothing_read

  either_chosen : (memory : Memory) (kind : CType) (parts : List Part) → AllFree parts → (b : Bool) → ReadsFree (either_computed memory kind parts b)
  either_chosen memory kind parts h true = nothing_read
  either_chosen memory kind parts h false = truth_free memory kind (only (nth_computed 1 parts)) (only_free 1 parts h)

  picked_free : (parts : List Part) → AllFree parts → (b : Bool) → ReadsFree (picked_computed parts b)
  picked_free parts h true = value_free (only (nth_computed 1 parts)) (only_free 1 parts h)
  picked_free parts h false = value_free (only (nth_computed 2 parts)) (only_free 2 parts h)

  -- a node that isn't a read reads nothing itself
  form_free : (label : Label) (kind : CType) (parts : List Part) (operands : List Operand) → ((operands : List Operand) → read_here label operands ≡ []) → AllFree parts
      → ReadsFree (form_computed stage.scene world label kind parts operands)
  form_free both kind parts operands e h = first_free world.memory operands (both_computed world.memory kind parts) (both_chosen world.memory kind parts h)
  form_free either kind parts operands e h = first_free world.memory operands (either_computed world.memory kind parts) (either_chosen world.memory kind parts h)
  form_free choose kind parts operands e h = first_free world.memory operands (picked_computed parts) (picked_free parts h)
  form_free comma kind parts operands e h = value_free (only (nth_computed 1 parts)) (only_free 1 parts h)
  form_free call kind parts operands e h = tt
  form_free sizeof_tree kind parts operands e h = given_free [] (number_alone world kind (pos ((layout stage.scene.program).size (nth_computed 0 parts).0))) nothing_read
  form_free label kind parts operands e h =
      given_free (read_here label operands) (operate stage.scene world [] label kind operands) (subst PlacesFree (sym (e operands)) nothing_read)

  -- a read of a name
  whole_free : (n : ℕ) → IsFree stage.closed effects n → PlacesFree (whole (numbered n) ∷ [])
  whole_free n h at (inl k) m e = subst (IsFree stage.closed effects) (numbers n m (sym (ap (λ (x : At). x.name) k) ∙ e)) h
    where
      numbers : (a b : ℕ) → numbered a ≡ numbered b → a ≡ b
      numbers a b f = cc
  whole_free n h at (inr k) m e = absurd k

  read_free : (d : ℕ) (kind named_kind : CType) (spans named_spans : Spans) → ((n : ℕ) → object_named stage.scene.objects d ≡ Some n → IsFree stage.closed effects n)
      → ReadsFree (computed stage.scene world (begun (node read kind spans (more_trees (node (object d) named_kind named_spans no_trees) no_trees))))
  read_free d kind named_kind spans named_spans h = by_named (object_named stage.scene.objects d) h
    where
      by_named : (o : Option ℕ) → ((n : ℕ) → o ≡ Some n → IsFree stage.closed effects n) → ReadsFree (after_operands (joined named_kind (after_reads [] (given_by [] (designated world o))) (Some (record { operands = []; reads = [] })))
          (form_computed stage.scene world read kind ((named_kind, after_reads [] (given_by [] (designated world o))) ∷ [])))
      by_named None k = tt
      by_named (Some n) k =
          after_free [] (given_by (whole (numbered n) ∷ []) (operate stage.scene world [] read kind (record { kind = named_kind; result = designates (whole (numbered n)) } ∷ []))) nothing_read
          (given_free (whole (numbered n) ∷ []) (operate stage.scene world [] read kind (record { kind = named_kind; result = designates (whole (numbered n)) } ∷ [])) (whole_free n (k n refl)))

  node_free : (label : Label) (kind : CType) (spans : Spans) (parts : Trees) → ReadsFreeName stage effects label parts → AllFree (all_computed stage.scene world (all_begun parts))
      → ReadsFree (computed stage.scene world (begun (node label kind spans parts)))
  node_free read kind spans (more_trees (node (object d) named_kind named_spans no_trees) no_trees) h all = read_free d kind named_kind spans named_spans h
  node_free read kind spans no_trees h all = absurd h
  node_free read kind spans (more_trees (node (object d) named_kind named_spans no_trees) (more_trees second rest)) h all = absurd h
  node_free read kind spans (more_trees (node (object d) named_kind named_spans (more_trees below others)) rest) h all = absurd h
  node_free read kind spans (more_trees (node label named_kind named_spans below) rest) h all = absurd h
  node_free label kind spans parts h all =
      operands_free (found_in (open_of label) (all_computed stage.scene world (all_begun parts))) (form_computed stage.scene world label kind (all_computed stage.scene world (all_begun parts)))
      (found_free (open_of label) (all_computed stage.scene world (all_begun parts)) all)
      (λ operands. form_free label kind (all_computed stage.scene world (all_begun parts)) operands (λ os. refl) all)

  mutual
    tree_free : (tree : Tree) → ReadsFreeNames stage effects tree → ReadsFree (computed stage.scene world (begun tree))
    tree_free (node label kind spans parts) h = node_free label kind spans parts h.0 (all_free parts h.1)

    all_free : (trees : Trees) → AllReadFreeNames stage effects trees → AllFree (all_computed stage.scene world (all_begun trees))
    all_free no_trees h = tt
    all_free (more_trees first rest) h = (tree_free first h.0, all_free rest h.1)

pub apart_by_names : (stage : Stage) (effects : List Effect) (tree : Tree) → ReadsFreeNames stage effects tree → ReadsApart stage effects (begun tree)
apart_by_names stage effects tree h world found e at among n name = subst (ReadsFree stage effects world) e (tree_free stage effects world tree h) at among n name
