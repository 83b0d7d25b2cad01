-- A step of a tree changes memory only in what the tree may write.
use Rattle.std.specs.Prelude.{◌≡◌, refl, ◌⊎◌, ℕ, ◌==◌, Bool, true, false, List, [], ◌∷◌, ◌++◌, map, Option, Some, None, option_map, pos, if◌then◌else◌}
use Rattle.std.proofs.Common.{ap, sym, ◌∙◌, subst, inl, inr}
use Rattle.dm_token.specs.declared.place.Place.{Place}
use Rattle.dm_type.specs.CTypes.{CType}
use Rattle.dm_int.specs.declared.Op.{Op}
use Rattle.dm_tree.specs.Trees.{Label, number, both, either, choose, comma, store, update, count, call, sizeof_tree}
use Rattle.dm_tree.specs.Units.{Declaration}
use Rattle.dm_meaning.specs.declared.cause.Cause.{Cause}
use Rattle.dm_meaning.specs.Among.{IsAmong}
use Rattle.dm_meaning.specs.Values.{Name, numbered, literal_of, elsewhere, At, Value, with_part}
use Rattle.dm_meaning.specs.Memory.{Memory, Block, look_up, look, changed_block, written, contents_at, value_in, or_unset}
use Rattle.dm_meaning.specs.Causes.{earliest, is_unset, store_causes, update_causes}
use Rattle.dm_meaning.specs.Primitives.{Answer, answers, stops, refuses, Prim}
use Rattle.dm_meaning.specs.Programs.{Definition, layout, declaration_of, definition_of}
use Rattle.dm_meaning.specs.Operations.{Result, of_value, designates, Operand, World, Did, gives, breaks, ends_with, decided, ill, on_place, on_set, on_value, update_at, count_at, Made, replace_at, updated, counted, store_at, Truth, holds, untold, truth_of, truth_in, number_alone, operate}
use Rattle.dm_meaning.specs.Running.{Doing, evaluates, gives_truth, gives_value, Run, done, to_do, Runs, no_runs, more_runs, locks_in_all, Open, every, first_open, others_open, open_parts, operands_in, Hole, within, Holes, in_first, in_others}
use Rattle.dm_meaning.specs.Expressions.{Move, goes, calls, fails, exits, lifted, as_move, by_truth, on_operand, answered, undefined_called, called, call_step, function_named, nth_run, value_of, both_chosen, either_chosen, operand_chosen, kind_of_run, node_step, own_or_inner, where_open, moves, moves_in}
use Rattle.dm_rewrite.specs.Effects.{Effect, on_object, Stage, target_effects, own_effects, effects_of, effects_in, Writes, ChangesOnly}
use Rattle.dm_rewrite.specs.KeptMemory.{emptied_block, emptied}
use Rattle.dm_rewrite.specs.PureSteps.{DidPlain}
use Rattle.dm_meaning.proofs.AmongLemmas.{among_left, among_right, among_either, among-map_from}
use Rattle.dm_meaning.proofs.OptionLemmas.{none_is_some, some_is_some, mapped_some}
use Rattle.dm_meaning.proofs.ExtendLemmas.{look_changed}
use Rattle.dm_meaning.proofs.GrowLemmas.{differ_is}
use Rattle.dm_rewrite.proofs.PlainLemmas.{operate_plains}

-- ---- memory

pub changed_shape : (n : ℕ) (change : Block → Block) → ((block : Block) → emptied_block (change block) ≡ emptied_block block) → (memory : Memory) (m : ℕ)
    → emptied (look_up (changed_block n change memory) m) ≡ emptied (look_up memory m)
changed_shape n change h memory m = ap emptied (look_changed n change memory m) ∙ by_found (look_up memory m)
  where
    by_bool : (b : Bool) (block : Block) → emptied (Some (if b then change block else block)) ≡ emptied (Some block)
    by_bool true block = ap Some (h block)
    by_bool false block = refl

    by_found : (o : Option Block) → emptied (option_map (λ block. if m == n then change block else block) o) ≡ emptied o
    by_found None = refl
    by_found (Some block) = by_bool (m == n) block

pub written_shape : (memory : Memory) (at : At) (value : Value) (name : Name) → emptied (look (written memory at value) name) ≡ emptied (look memory name)
written_shape memory at value name = by_name at.name name
  where
    by_name : (target : Name) (other : Name) → emptied (look (written memory (record { name = target; path = at.path }) value) other) ≡ emptied (look memory other)
    by_name (numbered n) (numbered m) = changed_shape n (λ block. record block { contents = with_part at.path value block.contents }) (λ block. refl) memory m
    by_name (numbered n) (literal_of bytes unit) = refl
    by_name (numbered n) (elsewhere identifier) = refl
    by_name (literal_of bytes unit) other = refl
    by_name (elsewhere identifier) other = refl

written_elsewhere : (memory : Memory) (at : At) (value : Value) (m : ℕ) → ((n : ℕ) → at.name ≡ numbered n → n ≡ m → ⊥)
    → look_up (written memory at value) m ≡ look_up memory m
written_elsewhere memory at value m differ = by_name at.name (λ n e. differ n e)
  where
    by_name : (target : Name) → ((n : ℕ) → target ≡ numbered n → n ≡ m → ⊥)
        → look_up (written memory (record { name = target; path = at.path }) value) m ≡ look_up memory m
    by_name (numbered n) h =
        look_changed n (λ block. record block { contents = with_part at.path value block.contents }) memory m
        ∙ by_found (look_up memory m)
      where
        by_found : (o : Option Block) → option_map (λ block. if m == n then record block { contents = with_part at.path value block.contents } else block) o ≡ o
        by_found None = refl
        by_found (Some block) =
            ap (λ b. Some (if b then record block { contents = with_part at.path value block.contents } else block)) (differ_is m n (λ e. h n refl (sym e)))
    by_name (literal_of bytes unit) h = refl
    by_name (elsewhere identifier) h = refl

same_there : (before after : Memory) (at : At) (n : ℕ) → at.name ≡ numbered n → look_up after n ≡ look_up before n → contents_at after at ≡ contents_at before at
same_there before after at n e f =
    ap (λ name. or_unset (value_in at.path (look after name))) e ∙ ap (λ o. or_unset (value_in at.path o)) f ∙ sym (ap (λ name. or_unset (value_in at.path (look before name))) e)

-- what isn't among what may be written stays
pub writes_keep : (stage : Stage) (effects : List Effect) (world after : World) → Writes world after effects → ChangesOnly stage effects world after
writes_keep stage effects world after (inl e) = record {
  same_objects = λ name k. ap (λ m. emptied (look m name)) e;
  same = λ at n f free k. ap (λ m. contents_at m at) e;
}
writes_keep stage effects world after (inr w) = record {
  same_objects = λ name k. ap (λ m. emptied (look m name)) w.is ∙ written_shape world.memory w.at w.value name;
  same = λ at n f free k.
      same_there world.memory after.memory at n f
      (ap (λ m. look_up m n) w.is ∙ written_elsewhere world.memory w.at w.value n (λ m e g. free (on_object m) (w.among m e) g));
}

pub writes_more : (world after : World) (fewer more : List Effect) → ((effect : Effect) → IsAmong effect fewer → IsAmong effect more) → Writes world after fewer
    → Writes world after more
writes_more world after fewer more h (inl e) = inl e
writes_more world after fewer more h (inr w) = inr (record { at = w.at; value = w.value; is = w.is; among = λ n e. h (on_object n) (w.among n e) })

-- ---- the step of a node

abbrev pub MoveWrites : World → List Effect → Move Run Hole → Type 0
MoveWrites world effects (goes after run) = Writes world after effects
MoveWrites world effects m = Unit {0}

abbrev pub MovesWrite : World → List Effect → Move Runs Holes → Type 0
MovesWrite world effects (goes after parts) = Writes world after effects
MovesWrite world effects m = Unit {0}

pub first_operand : (parts : Runs) (a : Operand) (os : List Operand) → operands_in every parts ≡ Some (a ∷ os)
    → (rest : Runs) × (own : List At) × (parts ≡ more_runs (done a.kind a.result own) rest)
first_operand no_runs a os e = absurd (cc (some_is_some [] (a ∷ os) e))
first_operand (more_runs (to_do doing kind place parts) rest) a os e = absurd (none_is_some _ e)
first_operand (more_runs (done kind result own) rest) a os e =
    let from = mapped_some (λ operands. record { kind = kind; result = result } ∷ operands) (operands_in every rest) (a ∷ os) e in
    (rest, own, ap (λ operand. more_runs (done operand.kind operand.result own) rest) (head_is (record { kind = kind; result = result }) a from.0 os from.2))
  where
    head_is : (x y : Operand) (xs ys : List Operand) → x ∷ xs ≡ y ∷ ys → x ≡ y
    head_is x y xs ys f = cc

module _ (stage : Stage) (world : World) (locks : List At) where
  plain_writes : (kind : CType) (place : Place) (below : List At) (effects : List Effect) (did : Did) → DidPlain world did
      → MoveWrites world effects (as_move kind place below did)
  plain_writes kind place below effects (gives after result new) h = inl (ap (λ (w : World). w.memory) h.0)
  plain_writes kind place below effects (breaks cause) h = tt
  plain_writes kind place below effects (ends_with status) h = tt

  on_operand_writes : (effects : List Effect) (place : Place) (operands : List Operand) (next : Operand → Move Run Hole)
      → ((a : Operand) → MoveWrites world effects (next a)) → MoveWrites world effects (on_operand place operands next)
  on_operand_writes effects place [] next h = tt
  on_operand_writes effects place (a ∷ []) next h = h a
  on_operand_writes effects place (a ∷ b ∷ rest) next h = tt

  by_truth_writes : (effects : List Effect) (place : Place) (truth : Truth) (next : Bool → Run) → MoveWrites world effects (by_truth world place truth next)
  by_truth_writes effects place (holds b) next = inl refl
  by_truth_writes effects place (untold cause) next = tt

  answered_writes : (effects : List Effect) (kind : CType) (place : Place) (answer : Option Answer) → MoveWrites world effects (answered world kind place answer)
  answered_writes effects kind place None = tt
  answered_writes effects kind place (Some (answers value input output)) = inl refl
  answered_writes effects kind place (Some (stops status)) = tt
  answered_writes effects kind place (Some (refuses cause)) = tt

  call_writes : (effects : List Effect) (kind : CType) (place : Place) (arguments : List Value) (named : Option ℕ)
      → MoveWrites world effects (call_step stage.scene world kind place arguments named)
  call_writes effects kind place arguments None = tt
  call_writes effects kind place arguments (Some d) = by_definition (definition_of stage.scene.program d)
    where
      by_declaration : (o : Option Declaration) → MoveWrites world effects (undefined_called stage.scene world kind place arguments o)
      by_declaration None = tt
      by_declaration (Some declaration) =
          answered_writes effects kind place (Prim declaration.name declaration.kind (layout stage.scene.program) world.memory arguments world.input world.output)

      by_definition : (o : Option Definition) → MoveWrites world effects (called stage.scene world kind place arguments d o)
      by_definition (Some definition) = tt
      by_definition None = by_declaration (declaration_of stage.scene.program d)

  -- what is stored is stored in the object of the first operand
  decided_writes : (kind : CType) (place : Place) (below : List At) (effects : List Effect) (at : At) (value : Value) (result : Result) (own : List At) (o : Option Cause)
      → ((n : ℕ) → at.name ≡ numbered n → IsAmong (on_object n) effects)
      → MoveWrites world effects (as_move kind place below (decided o (gives (record world { memory = written world.memory at value }) result own)))
  decided_writes kind place below effects at value result own None h = inr (record { at = at; value = value; is = refl; among = h })
  decided_writes kind place below effects at value result own (Some cause) h = tt

  targets : (at : At) (own : List At) (kind : CType) (rest : List Effect) (n : ℕ) → at.name ≡ numbered n
      → IsAmong (on_object n) (target_effects stage.scene.objects (done kind (designates at) own) ++ rest)
  targets at own kind rest n e = subst (λ name. IsAmong (on_object n) (by_its_name name ++ rest)) (sym e) (inl refl)
    where
      by_its_name : Name → List Effect
      by_its_name (numbered m) = on_object m ∷ []
      by_its_name name = []

  -- the step of a node that writes what its first operand designates
  target_writes : (label : Label) (kind : CType) (place : Place) (below : List At) (parts : Runs) (a : Operand) (os : List Operand)
      → operands_in every parts ≡ Some (a ∷ os)
      → ((first : Run) (rest : Runs) → own_effects stage (evaluates label) (more_runs first rest) ≡ target_effects stage.scene.objects first) → (next : At → Did)
      → ((effects : List Effect) (at : At) → ((n : ℕ) → at.name ≡ numbered n → IsAmong (on_object n) effects) → MoveWrites world effects (as_move kind place below (next at)))
      → MoveWrites world (effects_of stage (to_do (evaluates label) kind place parts)) (as_move kind place below (on_place a.result next))
  target_writes label kind place below parts a os e own next h = by_result a.result refl
    where
      by_result : (r : Result) → a.result ≡ r
          → MoveWrites world (effects_of stage (to_do (evaluates label) kind place parts)) (as_move kind place below (on_place r next))
      by_result (of_value value) f = tt
      by_result (designates at) f =
          let there = first_operand parts a os e in
          let is_parts : parts ≡ more_runs (done a.kind (designates at) there.1) there.0 = there.2 ∙ ap (λ r. more_runs (done a.kind r there.1) there.0) f in
          h (effects_of stage (to_do (evaluates label) kind place parts)) at
          (λ n g.
          subst (λ ps. IsAmong (on_object n) (own_effects stage (evaluates label) ps ++ effects_in stage ps)) (sym is_parts)
          (subst (λ effects. IsAmong (on_object n) (effects ++ effects_in stage (more_runs (done a.kind (designates at) there.1) there.0))) (sym (own (done a.kind (designates at) there.1) there.0))
          (targets at there.1 a.kind (effects_in stage (more_runs (done a.kind (designates at) there.1) there.0)) n g)))

  store_writes : (kind : CType) (place : Place) (below : List At) (parts : Runs) (operands : List Operand) → operands_in every parts ≡ Some operands
      → MoveWrites world (effects_of stage (to_do (evaluates store) kind place parts)) (as_move kind place below (operate stage.scene world locks store kind operands))
  store_writes kind place below parts [] e = tt
  store_writes kind place below parts (a ∷ []) e = tt
  store_writes kind place below parts (a ∷ b ∷ c ∷ rest) e = tt
  store_writes kind place below parts (a ∷ b ∷ []) e =
      target_writes store kind place below parts a (b ∷ []) e (λ first rest. refl) (λ at. on_set b.result (store_at stage.scene world locks kind at))
      (λ effects at h. by_set effects at h b.result)
    where
      by_bool : (effects : List Effect) (at : At) → ((n : ℕ) → at.name ≡ numbered n → IsAmong (on_object n) effects) → (value : Value) (t : Bool)
          → MoveWrites world effects (as_move kind place below (if t then ill else store_at stage.scene world locks kind at value))
      by_bool effects at h value true = tt
      by_bool effects at h value false =
          decided_writes kind place below effects at value (of_value value) (at ∷ []) (earliest (store_causes (layout stage.scene.program) world.memory locks kind at)) h

      by_set : (effects : List Effect) (at : At) → ((n : ℕ) → at.name ≡ numbered n → IsAmong (on_object n) effects) → (result : Result)
          → MoveWrites world effects (as_move kind place below (on_set result (store_at stage.scene world locks kind at)))
      by_set effects at h (of_value value) = by_bool effects at h value (is_unset value)
      by_set effects at h (designates other) = tt

  replace_writes : (kind : CType) (place : Place) (below : List At) (effects : List Effect) (at : At) (made : Made) (value : Value)
      → ((n : ℕ) → at.name ≡ numbered n → IsAmong (on_object n) effects)
      → MoveWrites world effects (as_move kind place below (replace_at stage.scene world locks kind at made value))
  replace_writes kind place below effects at made value h =
      decided_writes kind place below effects at made.value (of_value value) (at ∷ [])
      (earliest (made.causes ++ update_causes (layout stage.scene.program) world.memory locks kind at)) h

  update_writes : (op : Op) (works kind : CType) (place : Place) (below : List At) (parts : Runs) (operands : List Operand) → operands_in every parts ≡ Some operands
      → MoveWrites world (effects_of stage (to_do (evaluates (update op works)) kind place parts))
      (as_move kind place below (operate stage.scene world locks (update op works) kind operands))
  update_writes op works kind place below parts [] e = tt
  update_writes op works kind place below parts (a ∷ []) e = tt
  update_writes op works kind place below parts (a ∷ b ∷ c ∷ rest) e = tt
  update_writes op works kind place below parts (a ∷ b ∷ []) e =
      target_writes (update op works) kind place below parts a (b ∷ []) e (λ first rest. refl)
      (λ at. on_value b.result (update_at stage.scene world locks kind op works at)) (λ effects at h. by_value effects at h b.result)
    where
      by_value : (effects : List Effect) (at : At) → ((n : ℕ) → at.name ≡ numbered n → IsAmong (on_object n) effects) → (result : Result)
          → MoveWrites world effects (as_move kind place below (on_value result (update_at stage.scene world locks kind op works at)))
      by_value effects at h (of_value value) =
          let made = updated stage.scene world kind op works (contents_at world.memory at) value in
          replace_writes kind place below effects at made made.value h
      by_value effects at h (designates other) = tt

  count_writes : (plus before : Bool) (kind : CType) (place : Place) (below : List At) (parts : Runs) (operands : List Operand) → operands_in every parts ≡ Some operands
      → MoveWrites world (effects_of stage (to_do (evaluates (count plus before)) kind place parts))
      (as_move kind place below (operate stage.scene world locks (count plus before) kind operands))
  count_writes plus before kind place below parts [] e = tt
  count_writes plus before kind place below parts (a ∷ b ∷ rest) e = tt
  count_writes plus before kind place below parts (a ∷ []) e =
      target_writes (count plus before) kind place below parts a [] e (λ first rest. refl) (count_at stage.scene world locks kind plus before)
      (λ effects at h.
      replace_writes kind place below effects at (counted stage.scene world kind plus (contents_at world.memory at))
      (if before then (counted stage.scene world kind plus (contents_at world.memory at)).value else contents_at world.memory at) h)

  own_writes : (doing : Doing) (kind : CType) (place : Place) (parts : Runs) (operands : List Operand) → operands_in (open_parts doing) parts ≡ Some operands
      → MoveWrites world (effects_of stage (to_do doing kind place parts)) (node_step stage.scene world locks doing kind place parts operands)
  own_writes (evaluates both) kind place parts operands e =
      on_operand_writes _ place operands _ (λ a. by_truth_writes _ place (truth_of world.memory (value_of a.result)) (both_chosen kind place parts))
  own_writes (evaluates either) kind place parts operands e =
      on_operand_writes _ place operands _ (λ a. by_truth_writes _ place (truth_of world.memory (value_of a.result)) (either_chosen kind place parts))
  own_writes (evaluates choose) kind place parts operands e =
      on_operand_writes _ place operands _ (λ a. by_truth_writes _ place (truth_of world.memory (value_of a.result)) (operand_chosen kind place parts))
  own_writes (evaluates comma) kind place parts operands e = inl refl
  own_writes (evaluates call) kind place parts operands e = call_writes _ kind place (map (λ a. value_of a.result) operands) (function_named (nth_run 0 parts))
  own_writes (evaluates sizeof_tree) kind place parts operands e =
      plain_writes kind place [] _ (number_alone world kind (pos ((layout stage.scene.program).size (kind_of_run (nth_run 0 parts)))))
      (operate_plains stage.scene world locks (number (pos ((layout stage.scene.program).size (kind_of_run (nth_run 0 parts))))) kind [] refl)
  own_writes (evaluates store) kind place parts operands e = store_writes kind place (locks_in_all parts) parts operands e
  own_writes (evaluates (update op works)) kind place parts operands e = update_writes op works kind place (locks_in_all parts) parts operands e
  own_writes (evaluates (count plus before)) kind place parts operands e = count_writes plus before kind place (locks_in_all parts) parts operands e
  own_writes (evaluates label) kind place parts operands e =
      plain_writes kind place (locks_in_all parts) (effects_of stage (to_do (evaluates label) kind place parts)) (operate stage.scene world locks label kind operands)
      (operate_plains stage.scene world locks label kind operands refl)
  own_writes gives_truth kind place parts operands e =
      on_operand_writes _ place operands _
      (λ a. by_truth_writes _ place (truth_of world.memory (value_of a.result)) (λ truth. done kind (of_value (truth_in kind truth)) (locks_in_all parts)))
  own_writes gives_value kind place parts operands e = on_operand_writes _ place operands _ (λ a. inl refl)

  -- ---- all steps of a tree

  below_writes : (doing : Doing) (kind : CType) (place : Place) (parts : Runs) (m : Move Runs Holes) → MovesWrite world (effects_in stage parts) m
      → MoveWrites world (effects_of stage (to_do doing kind place parts)) (lifted (to_do doing kind place) (within doing kind place) m)
  below_writes doing kind place parts (goes after later) h =
      writes_more world after (effects_in stage parts) (own_effects stage doing parts ++ effects_in stage parts)
      (λ effect k. among_right effect (own_effects stage doing parts) (effects_in stage parts) k) h
  below_writes doing kind place parts (calls f arguments called_kind holes) h = tt
  below_writes doing kind place parts (fails cause at) h = tt
  below_writes doing kind place parts (exits status) h = tt

  first_writes : (first : Run) (rest : Runs) (m : Move Run Hole) → MoveWrites world (effects_of stage first) m
      → MovesWrite world (effects_in stage (more_runs first rest)) (lifted (λ run. more_runs run rest) (λ hole. in_first hole rest) m)
  first_writes first rest (goes after run) h =
      writes_more world after (effects_of stage first) (effects_of stage first ++ effects_in stage rest)
      (λ effect k. among_left effect (effects_of stage first) (effects_in stage rest) k) h
  first_writes first rest (calls f arguments called_kind hole) h = tt
  first_writes first rest (fails cause at) h = tt
  first_writes first rest (exits status) h = tt

  rest_writes : (first : Run) (rest : Runs) (m : Move Runs Holes) → MovesWrite world (effects_in stage rest) m
      → MovesWrite world (effects_in stage (more_runs first rest)) (lifted (more_runs first) (in_others first) m)
  rest_writes first rest (goes after later) h =
      writes_more world after (effects_in stage rest) (effects_of stage first ++ effects_in stage rest)
      (λ effect k. among_right effect (effects_of stage first) (effects_in stage rest) k) h
  rest_writes first rest (calls f arguments called_kind holes) h = tt
  rest_writes first rest (fails cause at) h = tt
  rest_writes first rest (exits status) h = tt

  by_operands : (doing : Doing) (kind : CType) (place : Place) (parts : Runs) → (o : Option (List Operand)) → operands_in (open_parts doing) parts ≡ o
      → (inner : List (Move Runs Holes))
      → ((x : Move Runs Holes) → IsAmong x inner → MovesWrite world (effects_in stage parts) x) → (m : Move Run Hole)
      → IsAmong m (own_or_inner o (node_step stage.scene world locks doing kind place parts) (map (lifted (to_do doing kind place) (within doing kind place)) inner))
      → MoveWrites world (effects_of stage (to_do doing kind place parts)) m
  by_operands doing kind place parts (Some operands) e inner h m (inl k) =
      subst (MoveWrites world (effects_of stage (to_do doing kind place parts))) (sym k) (own_writes doing kind place parts operands e)
  by_operands doing kind place parts (Some operands) e inner h m (inr k) = absurd k
  by_operands doing kind place parts None e inner h m k =
      let from = among-map_from (lifted (to_do doing kind place) (within doing kind place)) m inner k in
      subst (MoveWrites world (effects_of stage (to_do doing kind place parts))) (sym from.2) (below_writes doing kind place parts from.0 (h from.0 from.1))

  first_or_rest : (first : Run) (rest : Runs) (b : Bool) (ones : List (Move Run Hole)) (others : List (Move Runs Holes))
      → ((x : Move Run Hole) → IsAmong x ones → MoveWrites world (effects_of stage first) x)
      → ((x : Move Runs Holes) → IsAmong x others → MovesWrite world (effects_in stage rest) x) → (m : Move Runs Holes)
      → IsAmong m (where_open b (map (lifted (λ run. more_runs run rest) (λ hole. in_first hole rest)) ones)) ⊎ IsAmong m (map (lifted (more_runs first) (in_others first)) others)
      → MovesWrite world (effects_in stage (more_runs first rest)) m
  first_or_rest first rest true ones others one more m (inl k) =
      let from = among-map_from (lifted (λ run. more_runs run rest) (λ hole. in_first hole rest)) m ones k in
      subst (MovesWrite world (effects_in stage (more_runs first rest))) (sym from.2) (first_writes first rest from.0 (one from.0 from.1))
  first_or_rest first rest false ones others one more m (inl k) = absurd k
  first_or_rest first rest b ones others one more m (inr k) =
      let from = among-map_from (lifted (more_runs first) (in_others first)) m others k in
      subst (MovesWrite world (effects_in stage (more_runs first rest))) (sym from.2) (rest_writes first rest from.0 (more from.0 from.1))

  mutual
    -- A step of a tree writes only what is among its effects.
    pub move_writes : (run : Run) (m : Move Run Hole) → IsAmong m (moves stage.scene world locks run) → MoveWrites world (effects_of stage run) m
    move_writes (done kind result own) m k = absurd k
    move_writes (to_do doing kind place parts) m k =
        by_operands doing kind place parts (operands_in (open_parts doing) parts) refl (moves_in stage.scene world locks (open_parts doing) parts)
        (moves_write (open_parts doing) parts) m k

    pub moves_write : (opens : Open) (parts : Runs) (m : Move Runs Holes) → IsAmong m (moves_in stage.scene world locks opens parts)
        → MovesWrite world (effects_in stage parts) m
    moves_write opens no_runs m k = absurd k
    moves_write opens (more_runs first rest) m k =
        first_or_rest first rest (first_open opens) (moves stage.scene world locks first) (moves_in stage.scene world locks (others_open opens) rest) (move_writes first)
        (moves_write (others_open opens) rest) m (among_either m _ _ k)

  pub step_writes : (run later : Run) (after : World) → IsAmong (goes after later) (moves stage.scene world locks run) → Writes world after (effects_of stage run)
  step_writes run later after k = move_writes run (goes after later) k

  -- So what it may not write stays, and all objects that can be used are still there.
  pub step_keeps : (run later : Run) (after : World) → IsAmong (goes after later) (moves stage.scene world locks run)
      → ChangesOnly stage (effects_of stage run) world after
  step_keeps run later after k = writes_keep stage (effects_of stage run) world after (move_writes run (goes after later) k)
