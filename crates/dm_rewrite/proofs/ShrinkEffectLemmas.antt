-- A tree under evaluation may write no more after a step than before, where closed objects are only named.
use Rattle.std.specs.Prelude.{◌≡◌, refl, ◌⊎◌, ℕ, zero, suc, Bool, true, false, List, [], ◌∷◌, ◌++◌, map, Option, Some, None, pos, if◌then◌else◌}
use Rattle.std.proofs.Common.{true≢false, ap, sym, ◌∙◌, subst, inl, inr}
use Rattle.dm_token.specs.declared.place.Place.{Place}
use Rattle.dm_type.specs.CTypes.{CType}
use Rattle.dm_tree.specs.Trees.{Label, number, object, both, either, choose, comma, store, update, count, call, sizeof_tree}
use Rattle.dm_tree.specs.Units.{Declaration}
use Rattle.dm_int.specs.declared.Op.{Op}
use Rattle.dm_meaning.specs.declared.cause.Cause.{Cause}
use Rattle.dm_meaning.specs.Among.{IsAmong}
use Rattle.dm_meaning.specs.Values.{At, Name, Value, numbered, literal_of, elsewhere}
use Rattle.dm_meaning.specs.Causes.{earliest, is_unset, store_causes, update_causes}
use Rattle.dm_meaning.specs.Memory.{contents_at}
use Rattle.dm_meaning.specs.Primitives.{Answer, answers, stops, refuses, Prim}
use Rattle.dm_meaning.specs.Programs.{Definition, layout, declaration_of, definition_of}
use Rattle.dm_meaning.specs.Operations.{Result, of_value, designates, Operand, World, Did, gives, breaks, ends_with, decided, ill, on_place, on_set, on_value, store_at, update_at, count_at, updated, counted, object_named, designated, Truth, holds, untold, truth_of, truth_in, number_alone, operate}
use Rattle.dm_meaning.specs.Running.{Doing, evaluates, gives_truth, gives_value, Run, done, to_do, Runs, no_runs, more_runs, locks_in, locks_in_all, Open, every, first_open, others_open, open_parts, operands_in, Hole, here, within, Holes, in_first, in_others, filled_in, all_filled_in}
use Rattle.dm_meaning.specs.Expressions.{Move, goes, calls, fails, exits, lifted, as_move, by_truth, on_operand, value_of, nth_run, both_chosen, either_chosen, operand_chosen, answered, undefined_called, called, call_step, function_named, kind_of_run, node_step, own_or_inner, where_open, moves, moves_in}
use Rattle.dm_rewrite.specs.Closed.{MemoryAvoids, May, only_closed, may_name, unseen, names_first, IsClosedIn, IsClosedInAll, IsPlace}
use Rattle.dm_rewrite.specs.Effects.{Effect, on_object, on_others, Stage, by_number, by_name, target_effects, call_effects, own_effects, lock_effects, effects_of, effects_in, Hits, IsFree, IsNoMore, LeavesNoMore}
use Rattle.dm_rewrite.specs.PureSteps.{DidPlain}
use Rattle.dm_meaning.proofs.AmongLemmas.{among_left, among_right, among_either, among-map_from}
use Rattle.dm_rewrite.proofs.PlainLemmas.{operate_plains}
use Rattle.dm_rewrite.proofs.EffectLemmas.{first_operand}
use Rattle.dm_rewrite.proofs.ClosedRunLemmas.{unseen_shut, run_clear}

-- ---- effects that shrink

module _ (stage : Stage) where
  free_left : (xs ys : List Effect) (n : ℕ) → IsFree stage.closed (xs ++ ys) n → IsFree stage.closed xs n
  free_left xs ys n h effect k = h effect (among_left effect xs ys k)

  free_right : (xs ys : List Effect) (n : ℕ) → IsFree stage.closed (xs ++ ys) n → IsFree stage.closed ys n
  free_right xs ys n h effect k = h effect (among_right effect xs ys k)

  free_both : (xs ys : List Effect) (n : ℕ) → IsFree stage.closed xs n → IsFree stage.closed ys n → IsFree stage.closed (xs ++ ys) n
  free_both xs ys n h k effect l = by_either (among_either effect xs ys l)
    where
      by_either : IsAmong effect xs ⊎ IsAmong effect ys → Hits stage.closed effect n → ⊥
      by_either (inl a) = h effect a
      by_either (inr b) = k effect b

  calmer_both : (xs ys xs' ys' : List Effect) → IsNoMore stage xs xs' → IsNoMore stage ys ys' → IsNoMore stage (xs ++ ys) (xs' ++ ys')
  calmer_both xs ys xs' ys' h k n free = free_both xs' ys' n (h n (free_left xs ys n free)) (k n (free_right xs ys n free))

  -- what is among more effects is no less free
  calm_among : (was now : List Effect) → ((effect : Effect) → IsAmong effect now → IsAmong effect was) → IsNoMore stage was now
  calm_among was now h n free effect k = free effect (h effect k)

  lock_effects_join : (xs ys : List At) (effect : Effect) → IsAmong effect (lock_effects (xs ++ ys)) → IsAmong effect (lock_effects xs) ⊎ IsAmong effect (lock_effects ys)
  lock_effects_join [] ys effect k = inr k
  lock_effects_join (x ∷ xs) ys effect k = by_either (among_either effect (by_name x.name) (lock_effects (xs ++ ys)) k) (lock_effects_join xs ys effect)
    where
      by_either : IsAmong effect (by_name x.name) ⊎ IsAmong effect (lock_effects (xs ++ ys))
          → (IsAmong effect (lock_effects (xs ++ ys)) → IsAmong effect (lock_effects xs) ⊎ IsAmong effect (lock_effects ys))
          → IsAmong effect (by_name x.name ++ lock_effects xs) ⊎ IsAmong effect (lock_effects ys)
      by_either (inl l) later = inl (among_left effect (by_name x.name) (lock_effects xs) l)
      by_either (inr l) later = by_rest (later l)
        where
          by_rest : IsAmong effect (lock_effects xs) ⊎ IsAmong effect (lock_effects ys)
              → IsAmong effect (by_name x.name ++ lock_effects xs) ⊎ IsAmong effect (lock_effects ys)
          by_rest (inl a) = inl (among_right effect (by_name x.name) (lock_effects xs) a)
          by_rest (inr b) = inr b

  mutual
    -- the locks of a tree are among its effects
    locks_within : (run : Run) (effect : Effect) → IsAmong effect (lock_effects (locks_in run)) → IsAmong effect (effects_of stage run)
    locks_within (done kind result own) effect k = k
    locks_within (to_do doing kind place parts) effect k = among_right effect (own_effects stage doing parts) (effects_in stage parts) (all_locks_within parts effect k)

    all_locks_within : (parts : Runs) (effect : Effect) → IsAmong effect (lock_effects (locks_in_all parts)) → IsAmong effect (effects_in stage parts)
    all_locks_within no_runs effect k = absurd k
    all_locks_within (more_runs first rest) effect k =
        by_either (lock_effects_join (locks_in first) (locks_in_all rest) effect k) (locks_within first effect) (all_locks_within rest effect)
      where
        by_either : IsAmong effect (lock_effects (locks_in first)) ⊎ IsAmong effect (lock_effects (locks_in_all rest))
            → (IsAmong effect (lock_effects (locks_in first)) → IsAmong effect (effects_of stage first))
            → (IsAmong effect (lock_effects (locks_in_all rest)) → IsAmong effect (effects_in stage rest))
            → IsAmong effect (effects_of stage first ++ effects_in stage rest)
        by_either (inl l) one more = among_left effect (effects_of stage first) (effects_in stage rest) (one l)
        by_either (inr l) one more = among_right effect (effects_of stage first) (effects_in stage rest) (more l)

  nth_within : (k : ℕ) (parts : Runs) (effect : Effect) → IsAmong effect (effects_of stage (nth_run k parts)) → IsAmong effect (effects_in stage parts)
  nth_within k no_runs effect h = absurd h
  nth_within zero (more_runs first rest) effect h = among_left effect (effects_of stage first) (effects_in stage rest) h
  nth_within (suc k) (more_runs first rest) effect h = among_right effect (effects_of stage first) (effects_in stage rest) (nth_within k rest effect h)

  -- ---- what an operator locks

  -- nothing, or what its first operand designates
  abbrev DidLocks : List Effect → Did → Type 0
  DidLocks effects (gives after result new) = (effect : Effect) → IsAmong effect (lock_effects new) → IsAmong effect effects
  DidLocks effects (breaks cause) = Unit {0}
  DidLocks effects (ends_with status) = Unit {0}

  module _ (world : World) (locks : List At) where
    plain_locks : (effects : List Effect) (did : Did) → DidPlain world did → DidLocks effects did
    plain_locks effects (gives after result new) h = λ effect k. absurd (subst (λ l. IsAmong effect (lock_effects l)) h.1 k)
    plain_locks effects (breaks cause) h = tt
    plain_locks effects (ends_with status) h = tt

    decided_locks : (effects : List Effect) (at : At) (after : World) (result : Result) (o : Option Cause)
        → ((effect : Effect) → IsAmong effect (by_name at.name) → IsAmong effect effects) → DidLocks effects (decided o (gives after result (at ∷ [])))
    decided_locks effects at after result None h = λ effect k. h effect (by_either effect (among_either effect (by_name at.name) [] k))
      where
        by_either : (effect : Effect) → IsAmong effect (by_name at.name) ⊎ ⊥ → IsAmong effect (by_name at.name)
        by_either effect (inl l) = l
        by_either effect (inr l) = absurd l
    decided_locks effects at after result (Some cause) h = tt

    store_locks : (effects : List Effect) (kind : CType) (result other : Result)
        → ((at : At) → result ≡ designates at → (effect : Effect) → IsAmong effect (by_name at.name) → IsAmong effect effects)
        → DidLocks effects (on_place result (λ at. on_set other (store_at stage.scene world locks kind at)))
    store_locks effects kind (of_value value) other h = tt
    store_locks effects kind (designates at) (designates spot) h = tt
    store_locks effects kind (designates at) (of_value value) h = by_bool (is_unset value)
      where
        by_bool : (b : Bool) → DidLocks effects (if b then ill else store_at stage.scene world locks kind at value)
        by_bool true = tt
        by_bool false = decided_locks effects at _ (of_value value) (earliest (store_causes (layout stage.scene.program) world.memory locks kind at)) (h at refl)

    update_locks : (effects : List Effect) (op : Op) (works kind : CType) (result other : Result)
        → ((at : At) → result ≡ designates at → (effect : Effect) → IsAmong effect (by_name at.name) → IsAmong effect effects)
        → DidLocks effects (on_place result (λ at. on_value other (update_at stage.scene world locks kind op works at)))
    update_locks effects op works kind (of_value value) other h = tt
    update_locks effects op works kind (designates at) (designates spot) h = tt
    update_locks effects op works kind (designates at) (of_value value) h =
        let made = updated stage.scene world kind op works (contents_at world.memory at) value in
        decided_locks effects at _ (of_value made.value) (earliest (made.causes ++ update_causes (layout stage.scene.program) world.memory locks kind at)) (h at refl)

    count_locks : (effects : List Effect) (plus before : Bool) (kind : CType) (result : Result)
        → ((at : At) → result ≡ designates at → (effect : Effect) → IsAmong effect (by_name at.name) → IsAmong effect effects)
        → DidLocks effects (on_place result (count_at stage.scene world locks kind plus before))
    count_locks effects plus before kind (of_value value) h = tt
    count_locks effects plus before kind (designates at) h =
        let made = counted stage.scene world kind plus (contents_at world.memory at) in
        decided_locks effects at _ (of_value (if before then made.value else contents_at world.memory at))
        (earliest (made.causes ++ update_causes (layout stage.scene.program) world.memory locks kind at)) (h at refl)

    -- the place is among the effects of the node
    first_among : (label : Label) (kind : CType) (place : Place) (parts : Runs) (a : Operand) (os : List Operand) → operands_in every parts ≡ Some (a ∷ os)
        → ((first : Run) (rest : Runs) → own_effects stage (evaluates label) (more_runs first rest) ≡ target_effects stage.scene.objects first)
        → (at : At) → a.result ≡ designates at → (effect : Effect) → IsAmong effect (by_name at.name)
        → IsAmong effect (effects_of stage (to_do (evaluates label) kind place parts))
    first_among label kind place parts a os e own at f effect k =
        let there = first_operand parts a os e in
        let is_parts : parts ≡ more_runs (done a.kind (designates at) there.1) there.0 = there.2 ∙ ap (λ r. more_runs (done a.kind r there.1) there.0) f in
        subst (λ ps. IsAmong effect (own_effects stage (evaluates label) ps ++ effects_in stage ps)) (sym is_parts)
        (among_left effect (own_effects stage (evaluates label) (more_runs (done a.kind (designates at) there.1) there.0)) _
        (subst (λ effects. IsAmong effect effects) (sym (own (done a.kind (designates at) there.1) there.0)) k))

    pub operate_locks : (label : Label) (kind : CType) (place : Place) (parts : Runs) (operands : List Operand)
        → operands_in (open_parts (evaluates label)) parts ≡ Some operands
        → DidLocks (effects_of stage (to_do (evaluates label) kind place parts)) (operate stage.scene world locks label kind operands)
    operate_locks store kind place parts [] e = tt
    operate_locks store kind place parts (a ∷ []) e = tt
    operate_locks store kind place parts (a ∷ b ∷ c ∷ rest) e = tt
    operate_locks store kind place parts (a ∷ b ∷ []) e = store_locks _ kind a.result b.result (first_among store kind place parts a (b ∷ []) e (λ first rest. refl))
    operate_locks (update op works) kind place parts [] e = tt
    operate_locks (update op works) kind place parts (a ∷ []) e = tt
    operate_locks (update op works) kind place parts (a ∷ b ∷ c ∷ rest) e = tt
    operate_locks (update op works) kind place parts (a ∷ b ∷ []) e =
        update_locks _ op works kind a.result b.result (first_among (update op works) kind place parts a (b ∷ []) e (λ first rest. refl))
    operate_locks (count plus before) kind place parts [] e = tt
    operate_locks (count plus before) kind place parts (a ∷ b ∷ rest) e = tt
    operate_locks (count plus before) kind place parts (a ∷ []) e =
        count_locks _ plus before kind a.result (first_among (count plus before) kind place parts a [] e (λ first rest. refl))
    operate_locks call kind place parts operands e = tt
    operate_locks label kind place parts operands e =
        plain_locks (effects_of stage (to_do (evaluates label) kind place parts)) (operate stage.scene world locks label kind operands)
        (operate_plains stage.scene world locks label kind operands refl)

    -- ---- the step of a node

    did_calm : (kind : CType) (place : Place) (parts : Runs) (effects : List Effect) (did : Did)
        → ((effect : Effect) → IsAmong effect (effects_in stage parts) → IsAmong effect effects) → DidLocks effects did
        → LeavesNoMore stage effects (as_move kind place (locks_in_all parts) did)
    did_calm kind place parts effects (gives after result new) below h =
        calm_among effects (lock_effects (new ++ locks_in_all parts)) (λ effect k. by_either effect (lock_effects_join new (locks_in_all parts) effect k))
      where
        by_either : (effect : Effect) → IsAmong effect (lock_effects new) ⊎ IsAmong effect (lock_effects (locks_in_all parts)) → IsAmong effect effects
        by_either effect (inl k) = h effect k
        by_either effect (inr k) = below effect (all_locks_within parts effect k)
    did_calm kind place parts effects (breaks cause) below h = tt
    did_calm kind place parts effects (ends_with status) below h = tt

    on_operand_calm : (effects : List Effect) (place : Place) (operands : List Operand) (next : Operand → Move Run Hole)
        → ((a : Operand) → LeavesNoMore stage effects (next a)) → LeavesNoMore stage effects (on_operand place operands next)
    on_operand_calm effects place [] next h = tt
    on_operand_calm effects place (a ∷ []) next h = h a
    on_operand_calm effects place (a ∷ b ∷ rest) next h = tt

    by_truth_calm : (effects : List Effect) (place : Place) (truth : Truth) (next : Bool → Run) → ((b : Bool) → IsNoMore stage effects (effects_of stage (next b)))
        → LeavesNoMore stage effects (by_truth world place truth next)
    by_truth_calm effects place (holds b) next h = h b
    by_truth_calm effects place (untold cause) next h = tt

    answered_calm : (effects : List Effect) (kind : CType) (place : Place) (answer : Option Answer) → LeavesNoMore stage effects (answered world kind place answer)
    answered_calm effects kind place None = tt
    answered_calm effects kind place (Some (answers value input output)) = λ n free effect k. absurd k
    answered_calm effects kind place (Some (stops status)) = tt
    answered_calm effects kind place (Some (refuses cause)) = tt

    call_calm : (effects : List Effect) (kind : CType) (place : Place) (arguments : List Value) (named : Option ℕ)
        → ((effect : Effect) → IsAmong effect (call_effects stage.quiet named) → IsAmong effect effects)
        → LeavesNoMore stage effects (call_step stage.scene world kind place arguments named)
    call_calm effects kind place arguments None h = tt
    call_calm effects kind place arguments (Some d) h = by_definition (definition_of stage.scene.program d)
      where
        by_declaration : (o : Option Declaration) → LeavesNoMore stage effects (undefined_called stage.scene world kind place arguments o)
        by_declaration None = tt
        by_declaration (Some declaration) =
            answered_calm effects kind place (Prim declaration.name declaration.kind (layout stage.scene.program) world.memory arguments world.input world.output)

        by_definition : (o : Option Definition) → LeavesNoMore stage effects (called stage.scene world kind place arguments d o)
        by_definition (Some definition) = (h, λ value own c n free. c n (λ effect k. free effect (h effect k)))
        by_definition None = by_declaration (declaration_of stage.scene.program d)

    -- an operand that is picked
    picked_calm : (doing label : Doing) (kind : CType) (place : Place) (k : ℕ) (parts : Runs) → own_effects stage doing (more_runs (nth_run k parts) no_runs) ≡ []
        → IsNoMore stage (own_effects stage label parts ++ effects_in stage parts) (effects_of stage (to_do doing kind place (more_runs (nth_run k parts) no_runs)))
    picked_calm doing label kind place k parts e =
        calm_among (own_effects stage label parts ++ effects_in stage parts)
        (own_effects stage doing (more_runs (nth_run k parts) no_runs) ++ (effects_of stage (nth_run k parts) ++ []))
        (λ effect l. among_right effect (own_effects stage label parts) (effects_in stage parts) (nth_within k parts effect (by_end effect (among_either effect (effects_of stage (nth_run k parts)) [] (subst (λ es. IsAmong effect (es ++ (effects_of stage (nth_run k parts) ++ []))) e l)))))
      where
        by_end : (effect : Effect) → IsAmong effect (effects_of stage (nth_run k parts)) ⊎ ⊥ → IsAmong effect (effects_of stage (nth_run k parts))
        by_end effect (inl l) = l
        by_end effect (inr l) = absurd l

    nothing_calm : (effects : List Effect) → IsNoMore stage effects []
    nothing_calm effects n free effect k = absurd k

    below_within : (doing : Doing) (kind : CType) (place : Place) (parts : Runs) (effect : Effect) → IsAmong effect (effects_in stage parts)
        → IsAmong effect (effects_of stage (to_do doing kind place parts))
    below_within doing kind place parts effect k = among_right effect (own_effects stage doing parts) (effects_in stage parts) k

    locks_calm : (doing : Doing) (kind : CType) (place : Place) (parts : Runs) (result : Result)
        → IsNoMore stage (effects_of stage (to_do doing kind place parts)) (lock_effects (locks_in_all parts))
    locks_calm doing kind place parts result =
        calm_among (effects_of stage (to_do doing kind place parts)) (lock_effects (locks_in_all parts))
        (λ effect k. below_within doing kind place parts effect (all_locks_within parts effect k))

    own_call : (kind : CType) (place : Place) (parts : Runs) (operands : List Operand)
        → LeavesNoMore stage (effects_of stage (to_do (evaluates call) kind place parts)) (call_step stage.scene world kind place (map (λ a. value_of a.result) operands) (function_named (nth_run 0 parts)))
    own_call kind place no_runs operands = tt
    own_call kind place (more_runs named rest) operands =
        call_calm (effects_of stage (to_do (evaluates call) kind place (more_runs named rest))) kind place _ (function_named named)
        (λ effect k. among_left effect (call_effects stage.quiet (function_named named)) (effects_in stage (more_runs named rest)) k)

    own_calm : (doing : Doing) (kind : CType) (place : Place) (parts : Runs) (operands : List Operand) → operands_in (open_parts doing) parts ≡ Some operands
        → LeavesNoMore stage (effects_of stage (to_do doing kind place parts)) (node_step stage.scene world locks doing kind place parts operands)
    own_calm (evaluates both) kind place parts operands e =
        on_operand_calm _ place operands _ (λ a. by_truth_calm _ place (truth_of world.memory (value_of a.result)) (both_chosen kind place parts) by_bool)
      where
        by_bool : (b : Bool) → IsNoMore stage (effects_of stage (to_do (evaluates both) kind place parts)) (effects_of stage (both_chosen kind place parts b))
        by_bool true = picked_calm gives_truth (evaluates both) kind place 1 parts refl
        by_bool false = nothing_calm (effects_of stage (to_do (evaluates both) kind place parts))
    own_calm (evaluates either) kind place parts operands e =
        on_operand_calm _ place operands _ (λ a. by_truth_calm _ place (truth_of world.memory (value_of a.result)) (either_chosen kind place parts) by_bool)
      where
        by_bool : (b : Bool) → IsNoMore stage (effects_of stage (to_do (evaluates either) kind place parts)) (effects_of stage (either_chosen kind place parts b))
        by_bool true = nothing_calm (effects_of stage (to_do (evaluates either) kind place parts))
        by_bool false = picked_calm gives_truth (evaluates either) kind place 1 parts refl
    own_calm (evaluates choose) kind place parts operands e =
        on_operand_calm _ place operands _
        (λ a. by_truth_calm _ place (truth_of world.memory (value_of a.result)) (operand_chosen kind place parts) (λ b. picked_calm gives_value (evaluates choose) kind place (if b then 1 else 2) parts refl))
    own_calm (evaluates comma) kind place parts operands e = picked_calm gives_value (evaluates comma) kind place 1 parts refl
    own_calm (evaluates call) kind place parts operands e = own_call kind place parts operands
    own_calm (evaluates sizeof_tree) kind place parts operands e =
        did_calm kind place no_runs (effects_of stage (to_do (evaluates sizeof_tree) kind place parts))
        (number_alone world kind (pos ((layout stage.scene.program).size (kind_of_run (nth_run 0 parts))))) (λ effect k. absurd k)
        (plain_locks _ _ (operate_plains stage.scene world locks (number (pos ((layout stage.scene.program).size (kind_of_run (nth_run 0 parts))))) kind [] refl))
    own_calm gives_truth kind place parts operands e =
        on_operand_calm _ place operands _
        (λ a. by_truth_calm _ place (truth_of world.memory (value_of a.result)) (λ truth. done kind (of_value (truth_in kind truth)) (locks_in_all parts)) (λ b. locks_calm gives_truth kind place parts (of_value (truth_in kind b))))
    own_calm gives_value kind place parts operands e = on_operand_calm _ place operands _ (λ a. locks_calm gives_value kind place parts a.result)
    own_calm (evaluates label) kind place parts operands e =
        did_calm kind place parts (effects_of stage (to_do (evaluates label) kind place parts)) (operate stage.scene world locks label kind operands)
        (below_within (evaluates label) kind place parts) (operate_locks label kind place parts operands e)

    -- ---- the object that a node writes

    abbrev is_object : Doing → Bool
    is_object (evaluates (object d)) = true
    is_object doing = false

    -- the root of a tree stays what it is, or has picked an operand
    abbrev IsNoName : Run → Type 0
    IsNoName (done kind result own) = Unit {0}
    IsNoName (to_do doing kind place parts) = is_object doing ≡ false

    abbrev RootStays : Move Run Hole → Type 0
    RootStays (goes after later) = IsNoName later
    RootStays (calls f arguments kind hole) = (value : Value) (own : List At) → IsNoName (filled_in hole (done kind (of_value value) own))
    RootStays (fails cause place) = Unit {0}
    RootStays (exits status) = Unit {0}

    did_root : (kind : CType) (place : Place) (below : List At) (did : Did) → RootStays (as_move kind place below did)
    did_root kind place below (gives after result new) = tt
    did_root kind place below (breaks cause) = tt
    did_root kind place below (ends_with status) = tt

    on_operand_root : (place : Place) (operands : List Operand) (next : Operand → Move Run Hole) → ((a : Operand) → RootStays (next a))
        → RootStays (on_operand place operands next)
    on_operand_root place [] next h = tt
    on_operand_root place (a ∷ []) next h = h a
    on_operand_root place (a ∷ b ∷ rest) next h = tt

    by_truth_root : (place : Place) (truth : Truth) (next : Bool → Run) → ((b : Bool) → IsNoName (next b)) → RootStays (by_truth world place truth next)
    by_truth_root place (holds b) next h = h b
    by_truth_root place (untold cause) next h = tt

    call_root : (kind : CType) (place : Place) (arguments : List Value) (named : Option ℕ) → RootStays (call_step stage.scene world kind place arguments named)
    call_root kind place arguments None = tt
    call_root kind place arguments (Some d) = by_definition (definition_of stage.scene.program d)
      where
        by_answer : (o : Option Answer) → RootStays (answered world kind place o)
        by_answer None = tt
        by_answer (Some (answers value input output)) = tt
        by_answer (Some (stops status)) = tt
        by_answer (Some (refuses cause)) = tt

        by_declaration : (o : Option Declaration) → RootStays (undefined_called stage.scene world kind place arguments o)
        by_declaration None = tt
        by_declaration (Some declaration) =
            by_answer (Prim declaration.name declaration.kind (layout stage.scene.program) world.memory arguments world.input world.output)

        by_definition : (o : Option Definition) → RootStays (called stage.scene world kind place arguments d o)
        by_definition (Some definition) = λ value own. tt
        by_definition None = by_declaration (declaration_of stage.scene.program d)

    own_root : (doing : Doing) (kind : CType) (place : Place) (parts : Runs) (operands : List Operand)
        → RootStays (node_step stage.scene world locks doing kind place parts operands)
    own_root (evaluates both) kind place parts operands =
        on_operand_root place operands _ (λ a. by_truth_root place (truth_of world.memory (value_of a.result)) (both_chosen kind place parts) by_bool)
      where
        by_bool : (b : Bool) → IsNoName (both_chosen kind place parts b)
        by_bool true = refl
        by_bool false = tt
    own_root (evaluates either) kind place parts operands =
        on_operand_root place operands _ (λ a. by_truth_root place (truth_of world.memory (value_of a.result)) (either_chosen kind place parts) by_bool)
      where
        by_bool : (b : Bool) → IsNoName (either_chosen kind place parts b)
        by_bool true = tt
        by_bool false = refl
    own_root (evaluates choose) kind place parts operands =
        on_operand_root place operands _ (λ a. by_truth_root place (truth_of world.memory (value_of a.result)) (operand_chosen kind place parts) (λ b. refl))
    own_root (evaluates comma) kind place parts operands = refl
    own_root (evaluates call) kind place parts operands = call_root kind place _ (function_named (nth_run 0 parts))
    own_root (evaluates sizeof_tree) kind place parts operands =
        did_root kind place [] (number_alone world kind (pos ((layout stage.scene.program).size (kind_of_run (nth_run 0 parts)))))
    own_root gives_truth kind place parts operands =
        on_operand_root place operands _
        (λ a. by_truth_root place (truth_of world.memory (value_of a.result)) (λ truth. done kind (of_value (truth_in kind truth)) (locks_in_all parts)) (λ b. tt))
    own_root gives_value kind place parts operands = on_operand_root place operands _ (λ a. tt)
    own_root (evaluates label) kind place parts operands = did_root kind place (locks_in_all parts) (operate stage.scene world locks label kind operands)

    below_root : (doing : Doing) (kind : CType) (place : Place) → is_object doing ≡ false → (x : Move Runs Holes)
        → RootStays (lifted (to_do doing kind place) (within doing kind place) x)
    below_root doing kind place e (goes after later) = e
    below_root doing kind place e (calls f arguments called_kind holes) = λ value own. e
    below_root doing kind place e (fails cause at) = tt
    below_root doing kind place e (exits status) = tt

    root_stays : (doing : Doing) (kind : CType) (place : Place) (parts : Runs) → is_object doing ≡ false → (m : Move Run Hole)
        → IsAmong m (moves stage.scene world locks (to_do doing kind place parts)) → RootStays m
    root_stays doing kind place parts e m k = by_operands (operands_in (open_parts doing) parts) (moves_in stage.scene world locks (open_parts doing) parts) k
      where
        by_operands : (o : Option (List Operand)) (inner : List (Move Runs Holes))
            → IsAmong m (own_or_inner o (node_step stage.scene world locks doing kind place parts) (map (lifted (to_do doing kind place) (within doing kind place)) inner))
            → RootStays m
        by_operands (Some operands) inner (inl l) = subst RootStays (sym l) (own_root doing kind place parts operands)
        by_operands (Some operands) inner (inr l) = absurd l
        by_operands None inner l =
            let from = among-map_from (lifted (to_do doing kind place) (within doing kind place)) m inner l in
            subst RootStays (sym from.2) (below_root doing kind place e from.0)

    -- what isn't a name writes through a pointer, or what it designates
    others_target : (run : Run) → IsNoName run → ((n : ℕ) → IsAmong n stage.closed → IsClosedIn n stage.scene.objects run)
        → IsNoMore stage (on_others ∷ []) (target_effects stage.scene.objects run)
    others_target (done kind (of_value value) own) i h = λ n free. free
    others_target (done kind (designates at) own) i h = λ n free effect k. by_its_name at.name (λ m e c. h m c e) effect k n free
      where
        by_its_name : (name : Name) → ((m : ℕ) → name ≡ numbered m → IsAmong m stage.closed → ⊥) → (effect : Effect) → IsAmong effect (by_name name) → (n : ℕ)
            → IsFree stage.closed (on_others ∷ []) n → Hits stage.closed effect n → ⊥
        by_its_name (numbered m) closed effect (inl e) n free hit =
            free on_others (inl refl) (λ c. closed m refl (subst (λ x. IsAmong x stage.closed) (sym (hits_it effect e hit)) c))
          where
            hits_it : (x : Effect) → x ≡ on_object m → Hits stage.closed x n → m ≡ n
            hits_it x f g = subst (λ y. Hits stage.closed y n) f g
        by_its_name (numbered m) closed effect (inr e) n free hit = absurd e
        by_its_name (literal_of bytes unit) closed effect k n free hit = absurd k
        by_its_name (elsewhere identifier) closed effect k n free hit = absurd k
    others_target (to_do (evaluates (object d)) kind place parts) i h = absurd (true≢false i)
    others_target (to_do gives_truth kind place parts) i h = λ n free. free
    others_target (to_do gives_value kind place parts) i h = λ n free. free
    others_target (to_do (evaluates label) kind place parts) i h = λ n free. free

    -- ---- all steps of a tree

    abbrev pub MovesCalm : Open → Runs → Move Runs Holes → Type 0
    MovesCalm opens parts (goes after later) =
        IsNoMore stage (effects_in stage parts) (effects_in stage later) ×
        ((doing : Doing) → open_parts doing ≡ opens → IsNoMore stage (own_effects stage doing parts) (own_effects stage doing later))
    MovesCalm opens parts (calls g arguments kind holes) =
        ((effect : Effect) → IsAmong effect (call_effects stage.quiet (Some g)) → IsAmong effect (effects_in stage parts))
        × ((value : Value) (own : List At) → IsNoMore stage (call_effects stage.quiet (Some g)) (lock_effects own) →
        IsNoMore stage (effects_in stage parts) (effects_in stage (all_filled_in holes (done kind (of_value value) own)))
        ×
        ((doing : Doing) → open_parts doing ≡ opens → IsNoMore stage (own_effects stage doing parts) (own_effects stage doing (all_filled_in holes (done kind (of_value value) own)))))
    MovesCalm opens parts (fails cause place) = Unit {0}
    MovesCalm opens parts (exits status) = Unit {0}

    below_calm : (doing : Doing) (kind : CType) (place : Place) (parts : Runs) (x : Move Runs Holes) → MovesCalm (open_parts doing) parts x
        → LeavesNoMore stage (effects_of stage (to_do doing kind place parts)) (lifted (to_do doing kind place) (within doing kind place) x)
    below_calm doing kind place parts (goes after later) h =
        calmer_both (own_effects stage doing parts) (effects_in stage parts) (own_effects stage doing later) (effects_in stage later) (h.1 doing refl) h.0
    below_calm doing kind place parts (calls g arguments called_kind holes) h = (
      λ effect k. below_within doing kind place parts effect (h.0 effect k),
      λ value own c.
          let there = h.1 value own c in
          calmer_both (own_effects stage doing parts) (effects_in stage parts) (own_effects stage doing (all_filled_in holes (done called_kind (of_value value) own)))
          (effects_in stage (all_filled_in holes (done called_kind (of_value value) own))) (there.1 doing refl) there.0,
    )
    below_calm doing kind place parts (fails cause at) h = tt
    below_calm doing kind place parts (exits status) h = tt

    -- what a node itself writes goes by its first operand
    same_head : (doing : Doing) (first : Run) (rest later : Runs)
        → IsNoMore stage (own_effects stage doing (more_runs first rest)) (own_effects stage doing (more_runs first later))
    same_head (evaluates store) first rest later = λ n free. free
    same_head (evaluates (update op works)) first rest later = λ n free. free
    same_head (evaluates (count plus before)) first rest later = λ n free. free
    same_head (evaluates call) first rest later = λ n free. free
    same_head gives_truth first rest later = λ n free. free
    same_head gives_value first rest later = λ n free. free
    same_head (evaluates label) first rest later = λ n free. free

    moved_head : (doing : Doing) (first later : Run) (rest : Runs) → first_open (open_parts doing) ≡ true
        → IsNoMore stage (target_effects stage.scene.objects first) (target_effects stage.scene.objects later)
        → IsNoMore stage (own_effects stage doing (more_runs first rest)) (own_effects stage doing (more_runs later rest))
    moved_head (evaluates store) first later rest o c = c
    moved_head (evaluates (update op works)) first later rest o c = c
    moved_head (evaluates (count plus before)) first later rest o c = c
    moved_head (evaluates call) first later rest o c = absurd (true≢false (sym o))
    moved_head gives_truth first later rest o c = λ n free. free
    moved_head gives_value first later rest o c = λ n free. free
    moved_head (evaluates label) first later rest o c = λ n free. free

    abbrev TargetCalm : Run → Move Run Hole → Type 0
    TargetCalm run (goes after later) = IsNoMore stage (target_effects stage.scene.objects run) (target_effects stage.scene.objects later)
    TargetCalm run (calls g arguments kind hole) =
        (value : Value) (own : List At) → IsNoMore stage (target_effects stage.scene.objects run)
        (target_effects stage.scene.objects (filled_in hole (done kind (of_value value) own)))
    TargetCalm run (fails cause place) = Unit {0}
    TargetCalm run (exits status) = Unit {0}

    first_calm : (opens : Open) (first : Run) (rest : Runs) → first_open opens ≡ true → (x : Move Run Hole) → LeavesNoMore stage (effects_of stage first) x
        → TargetCalm first x → MovesCalm opens (more_runs first rest) (lifted (λ run. more_runs run rest) (λ hole. in_first hole rest) x)
    first_calm opens first rest o (goes after later) h t = (
      calmer_both (effects_of stage first) (effects_in stage rest) (effects_of stage later) (effects_in stage rest) h (λ n free. free),
      λ doing e. moved_head doing first later rest (ap first_open e ∙ o) t,
    )
    first_calm opens first rest o (calls g arguments kind hole) h t = (
      λ effect k. among_left effect (effects_of stage first) (effects_in stage rest) (h.0 effect k),
      λ value own c. (
        calmer_both (effects_of stage first) (effects_in stage rest) (effects_of stage (filled_in hole (done kind (of_value value) own))) (effects_in stage rest)
            (h.1 value own c) (λ n free. free),
        λ doing e. moved_head doing first (filled_in hole (done kind (of_value value) own)) rest (ap first_open e ∙ o) (t value own),
      ),
    )
    first_calm opens first rest o (fails cause place) h t = tt
    first_calm opens first rest o (exits status) h t = tt

    rest_calm : (opens : Open) (first : Run) (rest : Runs) (x : Move Runs Holes) → MovesCalm (others_open opens) rest x
        → MovesCalm opens (more_runs first rest) (lifted (more_runs first) (in_others first) x)
    rest_calm opens first rest (goes after later) h = (
      calmer_both (effects_of stage first) (effects_in stage rest) (effects_of stage first) (effects_in stage later) (λ n free. free) h.0,
      λ doing e. same_head doing first rest later,
    )
    rest_calm opens first rest (calls g arguments kind holes) h = (
      λ effect k. among_right effect (effects_of stage first) (effects_in stage rest) (h.0 effect k),
      λ value own c. (
        calmer_both (effects_of stage first) (effects_in stage rest) (effects_of stage first) (effects_in stage (all_filled_in holes (done kind (of_value value) own)))
            (λ n free. free) (h.1 value own c).0,
        λ doing e. same_head doing first rest (all_filled_in holes (done kind (of_value value) own)),
      ),
    )
    rest_calm opens first rest (fails cause place) h = tt
    rest_calm opens first rest (exits status) h = tt

    -- ---- all steps, where closed objects are only named

    abbrev pub AllFirst : Run → Type 0
    AllFirst run = (n : ℕ) → IsAmong n stage.closed → IsClosedIn n stage.scene.objects run ⊎ IsPlace n stage.scene.objects run

    abbrev pub AllRuns : May → Runs → Type 0
    AllRuns may parts = (n : ℕ) → IsAmong n stage.closed → IsClosedInAll n stage.scene.objects may parts

    object_or_not : (doing : Doing) → ((d : ℕ) × (doing ≡ evaluates (object d))) ⊎ (is_object doing ≡ false)
    object_or_not (evaluates (object d)) = inl (d, refl)
    object_or_not gives_truth = inr refl
    object_or_not gives_value = inr refl
    object_or_not (evaluates label) = inr refl

    -- a tree that isn't a name writes through a pointer
    tree_target : (doing : Doing) (kind : CType) (place : Place) (parts : Runs) → is_object doing ≡ false
        → target_effects stage.scene.objects (to_do doing kind place parts) ≡ on_others ∷ []
    tree_target (evaluates (object d)) kind place parts e = absurd (true≢false e)
    tree_target gives_truth kind place parts e = refl
    tree_target gives_value kind place parts e = refl
    tree_target (evaluates label) kind place parts e = refl

    filled_target : (hole : Hole) (kind : CType) (value : Value) (own : List At) → IsNoName (filled_in hole (done kind (of_value value) own))
        → IsNoMore stage (on_others ∷ []) (target_effects stage.scene.objects (filled_in hole (done kind (of_value value) own)))
    filled_target here kind value own i = λ n free. free
    filled_target (within doing outer place holes) kind value own i =
        subst (λ effects. IsNoMore stage (on_others ∷ []) effects) (sym (tree_target doing outer place (all_filled_in holes (done kind (of_value value) own)) i)) (λ n free. free)

    object_target : (d : ℕ) (kind : CType) (place : Place) (parts : Runs) (o : Option (List Operand)) (inner : List (Move Runs Holes)) (m : Move Run Hole)
        → IsAmong m
        (own_or_inner o (node_step stage.scene world locks (evaluates (object d)) kind place parts) (map (lifted (to_do (evaluates (object d)) kind place) (within (evaluates (object d)) kind place)) inner))
        → TargetCalm (to_do (evaluates (object d)) kind place parts) m
    object_target d kind place parts (Some operands) inner m (inl k) =
        subst (TargetCalm (to_do (evaluates (object d)) kind place parts)) (sym k) (by_object (object_named stage.scene.objects d) refl)
      where
        by_object : (o : Option ℕ) → object_named stage.scene.objects d ≡ o
            → TargetCalm (to_do (evaluates (object d)) kind place parts) (as_move kind place (locks_in_all parts) (designated world o))
        by_object None e = tt
        by_object (Some n) e = subst (λ (o : Option ℕ). IsNoMore stage (by_number o) (on_object n ∷ [])) (sym e) (λ m free. free)
    object_target d kind place parts (Some operands) inner m (inr k) = absurd k
    object_target d kind place parts None inner m k =
        let from = among-map_from (lifted (to_do (evaluates (object d)) kind place) (within (evaluates (object d)) kind place)) m inner k in
        subst (TargetCalm (to_do (evaluates (object d)) kind place parts)) (sym from.2) (by_move from.0)
      where
        by_move : (x : Move Runs Holes)
            → TargetCalm (to_do (evaluates (object d)) kind place parts) (lifted (to_do (evaluates (object d)) kind place) (within (evaluates (object d)) kind place) x)
        by_move (goes after later) = λ n free. free
        by_move (calls g arguments called_kind holes) = λ value own n free. free
        by_move (fails cause at) = tt
        by_move (exits status) = tt

    no_place : (n : ℕ) (doing : Doing) (kind : CType) (place : Place) (parts : Runs) → is_object doing ≡ false
        → IsPlace n stage.scene.objects (to_do doing kind place parts) → ⊥
    no_place n doing kind place parts i (inl (d, other, at, e, f)) = true≢false (subst (λ r. IsNoName r) e i)
    no_place n doing kind place parts i (inr (other, own, e)) = absurd (cc)

    place_parts : (n : ℕ) (doing : Doing) (kind : CType) (place : Place) (parts : Runs) (may : May) → IsPlace n stage.scene.objects (to_do doing kind place parts)
        → IsClosedInAll n stage.scene.objects may parts
    place_parts n doing kind place parts may (inl (d, other, at, e, f)) = subst (IsClosedInAll n stage.scene.objects may) (sym (the_parts e)) tt
      where
        the_parts : to_do doing kind place parts ≡ to_do (evaluates (object d)) other at no_runs → parts ≡ no_runs
        the_parts g = cc
    place_parts n doing kind place parts may (inr (other, own, e)) = absurd (cc)

    pub all_parts : (doing : Doing) (kind : CType) (place : Place) (parts : Runs) → AllFirst (to_do doing kind place parts) → AllRuns (names_first doing) parts
    all_parts doing kind place parts h n c = by_either (h n c)
      where
        by_either : IsClosedIn n stage.scene.objects (to_do doing kind place parts) ⊎ IsPlace n stage.scene.objects (to_do doing kind place parts)
            → IsClosedInAll n stage.scene.objects (names_first doing) parts
        by_either (inl k) = k.1
        by_either (inr k) = place_parts n doing kind place parts (names_first doing) k

    module _ (clear : (n : ℕ) → IsAmong n stage.closed → MemoryAvoids n world.memory) where
      no_object_target : (doing : Doing) (kind : CType) (place : Place) (parts : Runs) → is_object doing ≡ false → AllFirst (to_do doing kind place parts)
          → (m : Move Run Hole) → IsAmong m (moves stage.scene world locks (to_do doing kind place parts)) → TargetCalm (to_do doing kind place parts) m
      no_object_target doing kind place parts i h (goes after later) k =
          subst (λ effects. IsNoMore stage effects (target_effects stage.scene.objects later)) (sym (tree_target doing kind place parts i))
          (others_target later (root_stays doing kind place parts i (goes after later) k) (λ n c. by_either n c (h n c)))
        where
          by_either : (n : ℕ) → IsAmong n stage.closed
              → IsClosedIn n stage.scene.objects (to_do doing kind place parts) ⊎ IsPlace n stage.scene.objects (to_do doing kind place parts)
              → IsClosedIn n stage.scene.objects later
          by_either n c (inl l) = (run_clear n stage.scene world (clear n c) locks (to_do doing kind place parts) l (goes after later) k).0
          by_either n c (inr l) = absurd (no_place n doing kind place parts i l)
      no_object_target doing kind place parts i h (calls g arguments called_kind hole) k = λ value own.
          subst (λ effects. IsNoMore stage effects (target_effects stage.scene.objects (filled_in hole (done called_kind (of_value value) own))))
          (sym (tree_target doing kind place parts i))
          (filled_target hole called_kind value own (root_stays doing kind place parts i (calls g arguments called_kind hole) k value own))
      no_object_target doing kind place parts i h (fails cause at) k = tt
      no_object_target doing kind place parts i h (exits status) k = tt

      target_calm : (run : Run) → AllFirst run → (m : Move Run Hole) → IsAmong m (moves stage.scene world locks run) → TargetCalm run m
      target_calm (done kind result own) h m k = absurd k
      target_calm (to_do doing kind place parts) h m k = by_doing (object_or_not doing)
        where
          by_doing : ((d : ℕ) × (doing ≡ evaluates (object d))) ⊎ (is_object doing ≡ false) → TargetCalm (to_do doing kind place parts) m
          by_doing (inl (d, e)) =
              subst (λ x. TargetCalm (to_do x kind place parts) m) (sym e)
              (object_target d kind place parts (operands_in every parts) (moves_in stage.scene world locks every parts) m (subst (λ x. IsAmong m (moves stage.scene world locks (to_do x kind place parts))) e k))
          by_doing (inr i) = no_object_target doing kind place parts i h m k

      by_operands : (doing : Doing) (kind : CType) (place : Place) (parts : Runs) (o : Option (List Operand)) → operands_in (open_parts doing) parts ≡ o
          → (inner : List (Move Runs Holes))
          → ((x : Move Runs Holes) → IsAmong x inner → MovesCalm (open_parts doing) parts x) → (m : Move Run Hole)
          → IsAmong m (own_or_inner o (node_step stage.scene world locks doing kind place parts) (map (lifted (to_do doing kind place) (within doing kind place)) inner))
          → LeavesNoMore stage (effects_of stage (to_do doing kind place parts)) m
      by_operands doing kind place parts (Some operands) e inner h m (inl k) =
          subst (LeavesNoMore stage (effects_of stage (to_do doing kind place parts))) (sym k) (own_calm doing kind place parts operands e)
      by_operands doing kind place parts (Some operands) e inner h m (inr k) = absurd k
      by_operands doing kind place parts None e inner h m k =
          let from = among-map_from (lifted (to_do doing kind place) (within doing kind place)) m inner k in
          subst (LeavesNoMore stage (effects_of stage (to_do doing kind place parts))) (sym from.2) (below_calm doing kind place parts from.0 (h from.0 from.1))

      first_or_rest : (opens : Open) (first : Run) (rest : Runs) (b : Bool) → first_open opens ≡ b → (ones : List (Move Run Hole)) (others : List (Move Runs Holes))
          → (first_open opens ≡ true → (x : Move Run Hole) → IsAmong x ones → LeavesNoMore stage (effects_of stage first) x × TargetCalm first x)
          → ((x : Move Runs Holes) → IsAmong x others → MovesCalm (others_open opens) rest x) → (m : Move Runs Holes)
          → IsAmong m (where_open b (map (lifted (λ run. more_runs run rest) (λ hole. in_first hole rest)) ones)) ⊎ IsAmong m (map (lifted (more_runs first) (in_others first)) others)
          → MovesCalm opens (more_runs first rest) m
      first_or_rest opens first rest true e ones others one more m (inl k) =
          let from = among-map_from (lifted (λ run. more_runs run rest) (λ hole. in_first hole rest)) m ones k in
          subst (MovesCalm opens (more_runs first rest)) (sym from.2) (first_calm opens first rest e from.0 (one e from.0 from.1).0 (one e from.0 from.1).1)
      first_or_rest opens first rest false e ones others one more m (inl k) = absurd k
      first_or_rest opens first rest b e ones others one more m (inr k) =
          let from = among-map_from (lifted (more_runs first) (in_others first)) m others k in
          subst (MovesCalm opens (more_runs first rest)) (sym from.2) (rest_calm opens first rest from.0 (more from.0 from.1))

      pub first_of : (may : May) (opened : Bool) (first : Run) (rest : Runs) → (may ≡ unseen → opened ≡ false) → opened ≡ true → AllRuns may (more_runs first rest)
          → AllFirst first
      first_of may_name opened first rest shut e h = λ n c. (h n c).0
      first_of only_closed opened first rest shut e h = λ n c. inl (h n c).0
      first_of unseen opened first rest shut e h = absurd (true≢false (sym e ∙ shut refl))

      mutual
        -- A tree that only names closed objects may write no more behind a step.
        pub run_calm : (run : Run) → AllFirst run → (m : Move Run Hole) → IsAmong m (moves stage.scene world locks run) → LeavesNoMore stage (effects_of stage run) m
        run_calm (done kind result own) h m k = absurd k
        run_calm (to_do doing kind place parts) h m k =
            by_operands doing kind place parts (operands_in (open_parts doing) parts) refl (moves_in stage.scene world locks (open_parts doing) parts)
            (runs_calm (names_first doing) (open_parts doing) (unseen_shut doing) parts (all_parts doing kind place parts h)) m k

        pub runs_calm : (may : May) (opens : Open) → (may ≡ unseen → first_open opens ≡ false) → (parts : Runs) → AllRuns may parts → (m : Move Runs Holes)
            → IsAmong m (moves_in stage.scene world locks opens parts) → MovesCalm opens parts m
        runs_calm may opens shut no_runs h m k = absurd k
        runs_calm may opens shut (more_runs first rest) h m k =
            first_or_rest opens first rest (first_open opens) refl (moves stage.scene world locks first) (moves_in stage.scene world locks (others_open opens) rest)
            (λ e x l. let there = first_of may (first_open opens) first rest shut e h in (run_calm first there x l, target_calm first there x l))
            (runs_calm only_closed (others_open opens) (λ e. absurd (cc)) rest (λ n c. (h n c).1)) m (among_either m _ _ k)
