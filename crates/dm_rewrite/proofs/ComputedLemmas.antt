-- Each step of a tree that neither stores nor calls, in any order and beside any locks, leaves a tree that comes to the same, unless it meets a
-- lock.
use Rattle.std.specs.Prelude.{◌≡◌, refl, ◌⊎◌, ℕ, zero, suc, Bool, true, false, List, [], ◌∷◌, ◌++◌, map, Option, Some, None, pos, if◌then◌else◌}
use Rattle.std.proofs.Common.{true≢false, ap, sym, ◌∙◌, subst, inl, inr}
use Rattle.dm_token.specs.declared.place.Place.{Place}
use Rattle.dm_type.specs.CTypes.{CType}
use Rattle.dm_tree.specs.Trees.{Label, number, read, both, either, choose, comma, store, update, count, call, sizeof_tree}
use Rattle.dm_meaning.specs.declared.cause.Cause.{Cause}
use Rattle.dm_meaning.specs.declared.cause.Cause.TheVariants.{Conflict, Bounds, OtherType, Unset}
use Rattle.dm_meaning.specs.Among.{IsAmong}
use Rattle.dm_meaning.specs.Values.{At, Value, overlaps_any}
use Rattle.dm_meaning.specs.Memory.{contents_at, reached}
use Rattle.dm_meaning.specs.Causes.{earliest, when, is_outside, is_other, is_unset_object, absence_causes}
use Rattle.dm_meaning.specs.Programs.{layout}
use Rattle.dm_meaning.specs.Operations.{Result, of_value, designates, Operand, World, Scene, Did, gives, breaks, ends_with, decided, plain, Truth, holds, untold, truth_of, truth_in, number_alone, operate}
use Rattle.dm_meaning.specs.Running.{Doing, evaluates, gives_truth, gives_value, Run, done, to_do, Runs, no_runs, more_runs, locks_in, locks_in_all, Open, every, only_first, nothing, first_open, others_open, open_of, open_parts, operands_in, first_result, Hole, within, Holes, in_first, in_others}
use Rattle.dm_meaning.specs.Expressions.{Move, goes, calls, fails, exits, lifted, as_move, by_truth, on_operand, value_of, nth_run, going_on, both_chosen, either_chosen, operand_chosen, kind_of_run, form_step, node_step, own_or_inner, where_open, moves, moves_in}
use Rattle.dm_rewrite.specs.Computed.{Computed, ComputedParts, joined, joined_if, after_reads, alone, given_by, on_alone, by_holds, after_operands, truth_computed, value_computed, nth_computed, only, both_computed, either_computed, picked_computed, by_first, form_computed, node_computed, found_in, computed, all_computed, is_pure_label, is_pure_doing, IsPure, ArePure}
use Rattle.dm_rewrite.specs.PureSteps.{Keeps, Meets, StepKeeps, DidPlain}
use Rattle.dm_meaning.proofs.AmongLemmas.{among_left, among_right, among_either, among-map_from}
use Rattle.dm_meaning.proofs.OptionLemmas.{none_is_some, some_is_some}
use Rattle.dm_rewrite.proofs.PlainLemmas.{operate_plains}

-- ---- locks and operands

mutual
  pub pure_locks : (run : Run) → IsPure run → locks_in run ≡ []
  pure_locks (done kind result locks) h = h
  pure_locks (to_do doing kind place parts) h = all_pure_locks parts h.1

  pub all_pure_locks : (parts : Runs) → ArePure parts → locks_in_all parts ≡ []
  all_pure_locks no_runs h = refl
  all_pure_locks (more_runs first rest) h = ap (λ l. l ++ locks_in_all rest) (pure_locks first h.0) ∙ all_pure_locks rest h.1

nth_pure : (n : ℕ) (parts : Runs) → ArePure parts → IsPure (nth_run n parts)
nth_pure n no_runs h = refl
nth_pure zero (more_runs first rest) h = h.0
nth_pure (suc n) (more_runs first rest) h = nth_pure n rest h.1

module _ (scene : Scene) (world : World) where
  nth_computeds : (n : ℕ) (parts : Runs) → nth_computed n (all_computed scene world parts) ≡ (kind_of_run (nth_run n parts), computed scene world (nth_run n parts))
  nth_computeds n no_runs = refl
  nth_computeds zero (more_runs first rest) = refl
  nth_computeds (suc n) (more_runs first rest) = nth_computeds n rest

  -- operands that are evaluated are found
  found_first : (b : Bool) (first : Run) (rest : Option (List Operand)) (others : Option ComputedParts) (operands : List Operand)
      → ((later : List Operand) → rest ≡ Some later → others ≡ Some (record { operands = later; reads = [] }))
      → first_result b first rest ≡ Some operands
      → joined_if b (kind_of_run first) (computed scene world first) others ≡ Some (record { operands = operands; reads = [] })
  found_first true (done kind result locks) None others operands h e = absurd (none_is_some operands e)
  found_first true (done kind result locks) (Some later) others operands h e =
      ap (joined kind (alone result)) (h later refl)
      ∙ ap (λ os. Some (record { operands = os; reads = [] })) (some_is_some (record { kind = kind; result = result } ∷ later) operands e)
  found_first true (to_do doing kind place parts) rest others operands h e = absurd (none_is_some operands e)
  found_first false first rest others operands h e = h operands e

  found_done : (opens : Open) (parts : Runs) (operands : List Operand) → operands_in opens parts ≡ Some operands
      → found_in opens (all_computed scene world parts) ≡ Some (record { operands = operands; reads = [] })
  found_done opens no_runs operands e = ap (λ os. Some (record { operands = os; reads = [] })) (some_is_some [] operands e)
  found_done opens (more_runs first rest) operands e =
      found_first (first_open opens) first (operands_in (others_open opens) rest) (found_in (others_open opens) (all_computed scene world rest)) operands
      (found_done (others_open opens) rest) e

module _ (scene : Scene) (world : World) (locks : List At) where
  -- ---- what a step leaves

  pub record AreKept (was now : ComputedParts) : Type 0 where
    pub operands : now.operands ≡ was.operands
    pub fewer : (at : At) → IsAmong at now.reads → IsAmong at was.reads
    pub met : (at : At) → IsAmong at was.reads → IsAmong at now.reads ⊎ (overlaps_any at locks ≡ false)

  abbrev pub KeepsAll : Option ComputedParts → Option ComputedParts → Type 0
  KeepsAll None now = now ≡ None
  KeepsAll (Some was) None = ⊥
  KeepsAll (Some was) (Some now) = AreKept was now

  -- an operand comes to nothing, or reads a place that is locked
  abbrev pub MeetsAny : Option ComputedParts → Type 0
  MeetsAny None = Unit {0}
  MeetsAny (Some found) = (at : At) × IsAmong at found.reads × (overlaps_any at locks ≡ true)

  -- what may not be evaluated stays
  abbrev Beyond : Open → List (CType × Option Computed) → List (CType × Option Computed) → Type 0
  Beyond opens [] [] = Unit {0}
  Beyond opens [] (y ∷ ys) = ⊥
  Beyond opens (x ∷ xs) [] = ⊥
  Beyond opens (x ∷ xs) (y ∷ ys) = (first_open opens ≡ false → x ≡ y) × Beyond (others_open opens) xs ys

  abbrev PartsFit : Open → Runs → Move Runs Holes → Type 0
  PartsFit opens parts (goes after later) =
      (after ≡ world) × ArePure later × KeepsAll (found_in opens (all_computed scene world parts)) (found_in opens (all_computed scene world later)) × Beyond opens
      (all_computed scene world parts) (all_computed scene world later)
  PartsFit opens parts (calls f arguments called_kind holes) = ⊥
  PartsFit opens parts (fails cause place) = MeetsAny (found_in opens (all_computed scene world parts))
  PartsFit opens parts (exits status) = ⊥

  keeps_same : (o : Option Computed) → Keeps locks o o
  keeps_same None = refl
  keeps_same (Some w) = record { result = refl; fewer = λ at k. k; met = λ at k. inl k }

  keeps_equal : (o p : Option Computed) → o ≡ p → Keeps locks o p
  keeps_equal o p e = subst (Keeps locks o) e (keeps_same o)

  -- ---- the step of a node whose operands are evaluated

  no_reads : (o : Option Computed) → after_reads [] o ≡ o
  no_reads None = refl
  no_reads (Some w) = refl

  by_first_fits : (kind : CType) (place : Place) (operands : List Operand) (next : Bool → Run) (other : Bool → Option Computed)
      → ((b : Bool) → IsPure (next b) × (kind_of_run (next b) ≡ kind) × (other b ≡ computed scene world (next b)))
      → StepKeeps scene world locks kind (by_first world.memory operands other)
      (on_operand place operands (λ a. by_truth world place (truth_of world.memory (value_of a.result)) next))
  by_first_fits kind place [] next other h = tt
  by_first_fits kind place (a ∷ b ∷ rest) next other h = tt
  by_first_fits kind place (a ∷ []) next other h = by_told (truth_of world.memory (value_of a.result))
    where
      by_told : (t : Truth) → StepKeeps scene world locks kind (by_holds t other) (by_truth world place t next)
      by_told (holds b) = let here = h b in (refl, here.0, here.1, keeps_equal (other b) (computed scene world (next b)) here.2)
      by_told (untold cause) = tt

  -- the truth or the value of the operand that is picked
  picks_truth : (kind : CType) (place : Place) (n : ℕ) (parts : Runs)
      → truth_computed world.memory kind (only (nth_computed n (all_computed scene world parts))) ≡ computed scene world (going_on gives_truth kind place (nth_run n parts))
  picks_truth kind place n parts = ap (λ part. truth_computed world.memory kind (only part)) (nth_computeds scene world n parts)

  picks_value : (kind : CType) (place : Place) (n : ℕ) (parts : Runs)
      → value_computed (only (nth_computed n (all_computed scene world parts))) ≡ computed scene world (going_on gives_value kind place (nth_run n parts))
  picks_value kind place n parts = ap (λ part. value_computed (only part)) (nth_computeds scene world n parts)

  -- an operator
  gives_fits : (kind : CType) (after : World) (result : Result) (new below : List At) → after ≡ world → new ≡ [] → below ≡ []
      → StepKeeps scene world locks kind (given_by [] (gives after result new)) (goes after (done kind result (new ++ below)))
  gives_fits kind after result [] below e f g = (e, g, refl, record { result = refl; fewer = λ at k. k; met = λ at k. inl k })
  gives_fits kind after result (lock ∷ new) below e f g = absurd (cc)

  did_fits : (kind : CType) (place : Place) (did : Did) (below : List At) → DidPlain world did → below ≡ []
      → StepKeeps scene world locks kind (given_by [] did) (as_move kind place below did)
  did_fits kind place (gives after result new) below h e = gives_fits kind after result new below h.0 h.1 e
  did_fits kind place (breaks cause) below h e = tt
  did_fits kind place (ends_with status) below h e = absurd h

  -- the value of an object is read, unless it is locked
  read_fits : (kind : CType) (place : Place) (at : At) (value : Value) (below : List At) (causes : Bool → List Cause) (locked_cause : Cause)
      → earliest (causes true) ≡ Some locked_cause → below ≡ []
      → StepKeeps scene world locks kind (given_by (at ∷ []) (decided (earliest (causes false)) (plain world value)))
      (as_move kind place below (decided (earliest (causes (overlaps_any at locks))) (plain world value)))
  read_fits kind place at value below causes locked_cause g e = by_lock (overlaps_any at locks) refl
    where
      by_cause : overlaps_any at locks ≡ false → (o : Option Cause)
          → StepKeeps scene world locks kind (given_by (at ∷ []) (decided o (plain world value))) (as_move kind place below (decided o (plain world value)))
      by_cause f None = (refl, e, refl, record { result = refl; fewer = λ x k. absurd k; met = λ x k. inr (is_free x k) })
        where
          is_free : (x : At) → IsAmong x (at ∷ []) → overlaps_any x locks ≡ false
          is_free x (inl k) = ap (λ y. overlaps_any y locks) k ∙ f
          is_free x (inr k) = absurd k
      by_cause f (Some cause) = tt

      locked : (o : Option Cause) → overlaps_any at locks ≡ true → Meets locks (given_by (at ∷ []) (decided o (plain world value)))
      locked None f = (at, inl refl, f)
      locked (Some cause) f = tt

      by_lock : (b : Bool) → overlaps_any at locks ≡ b
          → StepKeeps scene world locks kind (given_by (at ∷ []) (decided (earliest (causes false)) (plain world value))) (as_move kind place below (decided (earliest (causes b)) (plain world value)))
      by_lock true f =
          subst
          (λ o. StepKeeps scene world locks kind (given_by (at ∷ []) (decided (earliest (causes false)) (plain world value))) (as_move kind place below (decided o (plain world value))))
          (sym g)
          (locked (earliest (causes false)) f)
      by_lock false f = by_cause f (earliest (causes false))

  own_read : (kind : CType) (place : Place) (parts : Runs) (operands : List Operand) → locks_in_all parts ≡ []
      → StepKeeps scene world locks kind (form_computed scene world read kind (all_computed scene world parts) operands)
      (form_step scene world locks read kind place parts operands)
  own_read kind place parts [] e = tt
  own_read kind place parts (a ∷ b ∷ rest) e = tt
  own_read kind place parts (a ∷ []) e = by_result a.result
    where
      by_result : (result : Result)
          → StepKeeps scene world locks kind (form_computed scene world read kind (all_computed scene world parts) (record { kind = a.kind; result = result } ∷ []))
          (form_step scene world locks read kind place parts (record { kind = a.kind; result = result } ∷ []))
      by_result (of_value value) = tt
      by_result (designates at) =
          read_fits kind place at (contents_at world.memory at) (locks_in_all parts)
          (λ b.
          (when Conflict b ++ when Bounds (is_outside (reached (layout scene.program) world.memory at)) ++ absence_causes world.memory at.name ++ when OtherType (is_other kind (reached (layout scene.program) world.memory at)))
          ++ when Unset (is_unset_object (contents_at world.memory at) (reached (layout scene.program) world.memory at))) _ refl e

  own_form : (label : Label) (kind : CType) (place : Place) (parts : Runs) (operands : List Operand) → is_pure_label label ≡ true → ArePure parts
      → StepKeeps scene world locks kind (form_computed scene world label kind (all_computed scene world parts) operands)
      (form_step scene world locks label kind place parts operands)
  own_form both kind place parts operands pure below =
      by_first_fits kind place operands (both_chosen kind place parts) (both_computed world.memory kind (all_computed scene world parts)) chosen
    where
      chosen : (b : Bool)
          → IsPure (both_chosen kind place parts b) × (kind_of_run (both_chosen kind place parts b) ≡ kind) × (both_computed world.memory kind (all_computed scene world parts) b ≡ computed scene world (both_chosen kind place parts b))
      chosen true = ((refl, (nth_pure 1 parts below, tt)), refl, picks_truth kind place 1 parts)
      chosen false = (refl, refl, refl)
  own_form either kind place parts operands pure below =
      by_first_fits kind place operands (either_chosen kind place parts) (either_computed world.memory kind (all_computed scene world parts)) chosen
    where
      chosen : (b : Bool)
          → IsPure (either_chosen kind place parts b) × (kind_of_run (either_chosen kind place parts b) ≡ kind) × (either_computed world.memory kind (all_computed scene world parts) b ≡ computed scene world (either_chosen kind place parts b))
      chosen true = (refl, refl, refl)
      chosen false = ((refl, (nth_pure 1 parts below, tt)), refl, picks_truth kind place 1 parts)
  own_form choose kind place parts operands pure below =
      by_first_fits kind place operands (operand_chosen kind place parts) (picked_computed (all_computed scene world parts))
      (λ b. ((refl, (nth_pure (if b then 1 else 2) parts below, tt)), refl, picks_value kind place (if b then 1 else 2) parts))
  own_form comma kind place parts operands pure below =
      (refl, (refl, (nth_pure 1 parts below, tt)), refl, keeps_equal (value_computed (only (nth_computed 1 (all_computed scene world parts)))) (computed scene world (going_on gives_value kind place (nth_run 1 parts))) (picks_value kind place 1 parts))
  own_form call kind place parts operands pure below = absurd (true≢false (sym pure))
  own_form sizeof_tree kind place parts operands pure below =
      subst
      (λ type. StepKeeps scene world locks kind (given_by [] (number_alone world kind (pos ((layout scene.program).size type)))) (form_step scene world locks sizeof_tree kind place parts operands))
      (sym (ap (λ part. part.0) (nth_computeds scene world 0 parts)))
      (did_fits kind place (number_alone world kind (pos ((layout scene.program).size (kind_of_run (nth_run 0 parts))))) [] (operate_plains scene world locks (number (pos ((layout scene.program).size (kind_of_run (nth_run 0 parts))))) kind [] refl) refl)
  own_form store kind place parts operands pure below = absurd (true≢false (sym pure))
  own_form (update op works) kind place parts operands pure below = absurd (true≢false (sym pure))
  own_form (count plus before) kind place parts operands pure below = absurd (true≢false (sym pure))
  own_form read kind place parts operands pure below = own_read kind place parts operands (all_pure_locks parts below)
  own_form label kind place parts operands pure below =
      did_fits kind place (operate scene world locks label kind operands) (locks_in_all parts) (operate_plains scene world locks label kind operands pure)
      (all_pure_locks parts below)

  own_node : (doing : Doing) (kind : CType) (place : Place) (parts : Runs) (operands : List Operand) → is_pure_doing doing ≡ true → ArePure parts
      → StepKeeps scene world locks kind (node_computed scene world doing kind (all_computed scene world parts) (Some (record { operands = operands; reads = [] })))
      (node_step scene world locks doing kind place parts operands)
  own_node (evaluates label) kind place parts operands pure below =
      subst (λ o. StepKeeps scene world locks kind o (form_step scene world locks label kind place parts operands))
      (sym (no_reads (form_computed scene world label kind (all_computed scene world parts) operands)))
      (own_form label kind place parts operands pure below)
  own_node gives_truth kind place parts operands pure below =
      subst (λ o. StepKeeps scene world locks kind o (node_step scene world locks gives_truth kind place parts operands)) (sym (no_reads _))
      (by_first_fits kind place operands (λ truth. done kind (of_value (truth_in kind truth)) (locks_in_all parts)) (λ truth. alone (of_value (truth_in kind truth))) (λ b. (all_pure_locks parts below, refl, refl)))
  own_node gives_value kind place parts operands pure below =
      subst (λ o. StepKeeps scene world locks kind o (node_step scene world locks gives_value kind place parts operands)) (sym (no_reads _)) (by_operands operands)
    where
      by_operands : (os : List Operand)
          → StepKeeps scene world locks kind (on_alone os (λ a. alone a.result)) (on_operand place os (λ a. goes world (done kind a.result (locks_in_all parts))))
      by_operands [] = tt
      by_operands (a ∷ []) = (refl, all_pure_locks parts below, refl, keeps_same (alone a.result))
      by_operands (a ∷ b ∷ rest) = tt

  -- ---- steps of operands

  keeps_first : (kind : CType) (was now : Option Computed) (rest : Option ComputedParts) → Keeps locks was now → KeepsAll (joined kind was rest) (joined kind now rest)
  keeps_first kind None None rest h = refl
  keeps_first kind None (Some w) rest h = absurd (none_is_some w (sym h))
  keeps_first kind (Some w) None rest h = absurd h
  keeps_first kind (Some w) (Some v) None h = refl
  keeps_first kind (Some w) (Some v) (Some rest) h = record {
    operands = ap (λ r. record { kind = kind; result = r } ∷ rest.operands) h.result;
    fewer = λ at k. in_either at (among_either at v.reads rest.reads k);
    met = λ at k. met_either at (among_either at w.reads rest.reads k);
  }
    where
      in_either : (at : At) → IsAmong at v.reads ⊎ IsAmong at rest.reads → IsAmong at (w.reads ++ rest.reads)
      in_either at (inl k) = among_left at w.reads rest.reads (h.fewer at k)
      in_either at (inr k) = among_right at w.reads rest.reads k

      still : (at : At) → IsAmong at v.reads ⊎ (overlaps_any at locks ≡ false) → IsAmong at (v.reads ++ rest.reads) ⊎ (overlaps_any at locks ≡ false)
      still at (inl k) = inl (among_left at v.reads rest.reads k)
      still at (inr k) = inr k

      met_either : (at : At) → IsAmong at w.reads ⊎ IsAmong at rest.reads → IsAmong at (v.reads ++ rest.reads) ⊎ (overlaps_any at locks ≡ false)
      met_either at (inl k) = still at (h.met at k)
      met_either at (inr k) = inl (among_right at v.reads rest.reads k)

  keeps_rest : (kind : CType) (first : Option Computed) (was now : Option ComputedParts) → KeepsAll was now → KeepsAll (joined kind first was) (joined kind first now)
  keeps_rest kind None was now h = refl
  keeps_rest kind (Some w) None None h = refl
  keeps_rest kind (Some w) None (Some v) h = absurd (none_is_some v (sym h))
  keeps_rest kind (Some w) (Some r) None h = absurd h
  keeps_rest kind (Some w) (Some r) (Some s) h = record {
    operands = ap (λ os. record { kind = kind; result = w.result } ∷ os) h.operands;
    fewer = λ at k. in_either at (among_either at w.reads s.reads k);
    met = λ at k. met_either at (among_either at w.reads r.reads k);
  }
    where
      in_either : (at : At) → IsAmong at w.reads ⊎ IsAmong at s.reads → IsAmong at (w.reads ++ r.reads)
      in_either at (inl k) = among_left at w.reads r.reads k
      in_either at (inr k) = among_right at w.reads r.reads (h.fewer at k)

      still : (at : At) → IsAmong at s.reads ⊎ (overlaps_any at locks ≡ false) → IsAmong at (w.reads ++ s.reads) ⊎ (overlaps_any at locks ≡ false)
      still at (inl k) = inl (among_right at w.reads s.reads k)
      still at (inr k) = inr k

      met_either : (at : At) → IsAmong at w.reads ⊎ IsAmong at r.reads → IsAmong at (w.reads ++ s.reads) ⊎ (overlaps_any at locks ≡ false)
      met_either at (inl k) = inl (among_left at w.reads s.reads k)
      met_either at (inr k) = still at (h.met at k)

  meets_first : (kind : CType) (first : Option Computed) (rest : Option ComputedParts) → Meets locks first → MeetsAny (joined kind first rest)
  meets_first kind None rest h = tt
  meets_first kind (Some w) None h = tt
  meets_first kind (Some w) (Some r) h = (h.0, among_left h.0 w.reads r.reads h.1, h.2)

  meets_rest : (kind : CType) (first : Option Computed) (rest : Option ComputedParts) → MeetsAny rest → MeetsAny (joined kind first rest)
  meets_rest kind None rest h = tt
  meets_rest kind (Some w) None h = tt
  meets_rest kind (Some w) (Some r) h = (h.0, among_right h.0 w.reads r.reads h.1, h.2)

  meets_if : (b : Bool) (kind : CType) (first : Option Computed) (rest : Option ComputedParts) → MeetsAny rest → MeetsAny (joined_if b kind first rest)
  meets_if true kind first rest h = meets_rest kind first rest h
  meets_if false kind first rest h = h

  keeps_if : (b : Bool) (kind : CType) (first : Option Computed) (was now : Option ComputedParts) → KeepsAll was now
      → KeepsAll (joined_if b kind first was) (joined_if b kind first now)
  keeps_if true kind first was now h = keeps_rest kind first was now h
  keeps_if false kind first was now h = h

  beyond_same : (opens : Open) (xs : List (CType × Option Computed)) → Beyond opens xs xs
  beyond_same opens [] = tt
  beyond_same opens (x ∷ xs) = (λ e. refl, beyond_same (others_open opens) xs)

  first_fits : (opens : Open) (first : Run) (rest : Runs) → first_open opens ≡ true → ArePure rest → (x : Move Run Hole)
      → StepKeeps scene world locks (kind_of_run first) (computed scene world first) x
      → PartsFit opens (more_runs first rest) (lifted (λ run. more_runs run rest) (λ hole. in_first hole rest) x)
  first_fits opens first rest o pure (goes after run) h = (
    h.0,
    (h.1, pure),
    subst
        (λ b. KeepsAll (joined_if b (kind_of_run first) (computed scene world first) (found_in (others_open opens) (all_computed scene world rest))) (joined_if b (kind_of_run run) (computed scene world run) (found_in (others_open opens) (all_computed scene world rest))))
        (sym o)
        (subst (λ kind. KeepsAll (joined (kind_of_run first) (computed scene world first) (found_in (others_open opens) (all_computed scene world rest))) (joined kind (computed scene world run) (found_in (others_open opens) (all_computed scene world rest)))) (sym h.2)
        (keeps_first (kind_of_run first) (computed scene world first) (computed scene world run) (found_in (others_open opens) (all_computed scene world rest)) h.3)),
    (λ e. absurd (true≢false (sym o ∙ e)), beyond_same (others_open opens) (all_computed scene world rest)),
  )
  first_fits opens first rest o pure (calls f arguments kind hole) h = absurd h
  first_fits opens first rest o pure (fails cause place) h =
      subst (λ b. MeetsAny (joined_if b (kind_of_run first) (computed scene world first) (found_in (others_open opens) (all_computed scene world rest)))) (sym o)
      (meets_first (kind_of_run first) (computed scene world first) (found_in (others_open opens) (all_computed scene world rest)) h)
  first_fits opens first rest o pure (exits status) h = absurd h

  rest_fits : (opens : Open) (first : Run) (rest : Runs) → IsPure first → (x : Move Runs Holes) → PartsFit (others_open opens) rest x
      → PartsFit opens (more_runs first rest) (lifted (more_runs first) (in_others first) x)
  rest_fits opens first rest pure (goes after later) h = (
    h.0,
    (pure, h.1),
    keeps_if (first_open opens) (kind_of_run first) (computed scene world first) (found_in (others_open opens) (all_computed scene world rest))
        (found_in (others_open opens) (all_computed scene world later)) h.2,
    (λ e. refl, h.3),
  )
  rest_fits opens first rest pure (calls f arguments kind hole) h = absurd h
  rest_fits opens first rest pure (fails cause place) h =
      meets_if (first_open opens) (kind_of_run first) (computed scene world first) (found_in (others_open opens) (all_computed scene world rest)) h
  rest_fits opens first rest pure (exits status) h = absurd h

  -- ---- steps inside a node

  beyond_nothing : (xs ys : List (CType × Option Computed)) → Beyond nothing xs ys → xs ≡ ys
  beyond_nothing [] [] h = refl
  beyond_nothing [] (y ∷ ys) h = absurd h
  beyond_nothing (x ∷ xs) [] h = absurd h
  beyond_nothing (x ∷ xs) (y ∷ ys) h = ap (λ z. z ∷ xs) (h.0 refl) ∙ ap (λ zs. y ∷ zs) (beyond_nothing xs ys h.1)

  nth_beyond : (n : ℕ) (xs ys : List (CType × Option Computed)) → Beyond only_first xs ys → nth_computed (suc n) xs ≡ nth_computed (suc n) ys
  nth_beyond n [] [] h = refl
  nth_beyond n [] (y ∷ ys) h = absurd h
  nth_beyond n (x ∷ xs) [] h = absurd h
  nth_beyond n (x ∷ xs) (y ∷ ys) h = ap (nth_computed n) (beyond_nothing xs ys h.1)

  same_form : (label : Label) (kind : CType) (xs ys : List (CType × Option Computed)) → Beyond (open_of label) xs ys → (operands : List Operand)
      → form_computed scene world label kind xs operands ≡ form_computed scene world label kind ys operands
  same_form both kind xs ys h operands = ap (λ next. by_first world.memory operands next) (λ i b. by_bool b i)
    where
      by_bool : (b : Bool) → both_computed world.memory kind xs b ≡ both_computed world.memory kind ys b
      by_bool true = ap (λ part. truth_computed world.memory kind (only part)) (nth_beyond 0 xs ys h)
      by_bool false = refl
  same_form either kind xs ys h operands = ap (λ next. by_first world.memory operands next) (λ i b. by_bool b i)
    where
      by_bool : (b : Bool) → either_computed world.memory kind xs b ≡ either_computed world.memory kind ys b
      by_bool true = refl
      by_bool false = ap (λ part. truth_computed world.memory kind (only part)) (nth_beyond 0 xs ys h)
  same_form choose kind xs ys h operands = ap (λ next. by_first world.memory operands next) (λ i b. by_bool b i)
    where
      by_bool : (b : Bool) → picked_computed xs b ≡ picked_computed ys b
      by_bool true = ap (λ part. value_computed (only part)) (nth_beyond 0 xs ys h)
      by_bool false = ap (λ part. value_computed (only part)) (nth_beyond 1 xs ys h)
  same_form comma kind xs ys h operands = ap (λ part. value_computed (only part)) (nth_beyond 0 xs ys h)
  same_form sizeof_tree kind xs ys h operands =
      ap (λ zs. given_by [] (number_alone world kind (pos ((layout scene.program).size (nth_computed 0 zs).0)))) (beyond_nothing xs ys h)
  same_form label kind xs ys h operands = refl

  -- what a node comes to, where its operands come to the same and read no more
  keeps_after : (was now : Option ComputedParts) → KeepsAll was now → (f : List Operand → Option Computed) → Keeps locks (after_operands was f) (after_operands now f)
  keeps_after None None h f = refl
  keeps_after None (Some w) h f = absurd (none_is_some w (sym h))
  keeps_after (Some w) None h f = absurd h
  keeps_after (Some w) (Some v) h f =
      subst (λ os. Keeps locks (after_reads w.reads (f w.operands)) (after_reads v.reads (f os))) (sym h.operands) (by_found (f w.operands))
    where
      by_found : (o : Option Computed) → Keeps locks (after_reads w.reads o) (after_reads v.reads o)
      by_found None = refl
      by_found (Some u) = record {
        result = refl;
        fewer = λ at k. in_either at (among_either at v.reads u.reads k);
        met = λ at k. met_either at (among_either at w.reads u.reads k);
      }
        where
          in_either : (at : At) → IsAmong at v.reads ⊎ IsAmong at u.reads → IsAmong at (w.reads ++ u.reads)
          in_either at (inl k) = among_left at w.reads u.reads (h.fewer at k)
          in_either at (inr k) = among_right at w.reads u.reads k

          still : (at : At) → IsAmong at v.reads ⊎ (overlaps_any at locks ≡ false) → IsAmong at (v.reads ++ u.reads) ⊎ (overlaps_any at locks ≡ false)
          still at (inl k) = inl (among_left at v.reads u.reads k)
          still at (inr k) = inr k

          met_either : (at : At) → IsAmong at w.reads ⊎ IsAmong at u.reads → IsAmong at (v.reads ++ u.reads) ⊎ (overlaps_any at locks ≡ false)
          met_either at (inl k) = still at (h.met at k)
          met_either at (inr k) = inl (among_right at v.reads u.reads k)

  meets_after : (found : Option ComputedParts) (f : List Operand → Option Computed) → MeetsAny found → Meets locks (after_operands found f)
  meets_after None f h = tt
  meets_after (Some w) f h = by_found (f w.operands)
    where
      by_found : (o : Option Computed) → Meets locks (after_reads w.reads o)
      by_found None = tt
      by_found (Some u) = (h.0, among_left h.0 w.reads u.reads h.1, h.2)

  inner_fits : (doing : Doing) (kind : CType) (place : Place) (parts : Runs) → is_pure_doing doing ≡ true → (x : Move Runs Holes) → PartsFit (open_parts doing) parts x
      → StepKeeps scene world locks kind (computed scene world (to_do doing kind place parts)) (lifted (to_do doing kind place) (within doing kind place) x)
  inner_fits (evaluates label) kind place parts pure (goes after later) h = (
    h.0,
    (pure, h.1),
    refl,
    subst
        (λ f. Keeps locks (after_operands (found_in (open_of label) (all_computed scene world parts)) (form_computed scene world label kind (all_computed scene world parts))) (after_operands (found_in (open_of label) (all_computed scene world later)) f))
        (λ i operands. same_form label kind (all_computed scene world parts) (all_computed scene world later) h.3 operands i)
        (keeps_after (found_in (open_of label) (all_computed scene world parts)) (found_in (open_of label) (all_computed scene world later)) h.2 (form_computed scene world label kind (all_computed scene world parts))),
  )
  inner_fits gives_truth kind place parts pure (goes after later) h =
      (h.0, (pure, h.1), refl, keeps_after (found_in every (all_computed scene world parts)) (found_in every (all_computed scene world later)) h.2 _)
  inner_fits gives_value kind place parts pure (goes after later) h =
      (h.0, (pure, h.1), refl, keeps_after (found_in every (all_computed scene world parts)) (found_in every (all_computed scene world later)) h.2 _)
  inner_fits doing kind place parts pure (calls f arguments called_kind holes) h = absurd h
  inner_fits (evaluates label) kind place parts pure (fails cause at) h = meets_after (found_in (open_of label) (all_computed scene world parts)) _ h
  inner_fits gives_truth kind place parts pure (fails cause at) h = meets_after (found_in every (all_computed scene world parts)) _ h
  inner_fits gives_value kind place parts pure (fails cause at) h = meets_after (found_in every (all_computed scene world parts)) _ h
  inner_fits doing kind place parts pure (exits status) h = absurd h

  by_operands : (doing : Doing) (kind : CType) (place : Place) (parts : Runs) → is_pure_doing doing ≡ true → ArePure parts → (o : Option (List Operand))
      → operands_in (open_parts doing) parts ≡ o
      → (inner : List (Move Runs Holes)) → ((x : Move Runs Holes) → IsAmong x inner → PartsFit (open_parts doing) parts x)
      → (m : Move Run Hole)
      → IsAmong m (own_or_inner o (node_step scene world locks doing kind place parts) (map (lifted (to_do doing kind place) (within doing kind place)) inner))
      → StepKeeps scene world locks kind (computed scene world (to_do doing kind place parts)) m
  by_operands doing kind place parts pure below (Some operands) e inner h m (inl k) =
      subst (StepKeeps scene world locks kind (computed scene world (to_do doing kind place parts))) (sym k)
      (subst (λ found. StepKeeps scene world locks kind (node_computed scene world doing kind (all_computed scene world parts) found) (node_step scene world locks doing kind place parts operands)) (sym (found_done scene world (open_parts doing) parts operands e))
      (own_node doing kind place parts operands pure below))
  by_operands doing kind place parts pure below (Some operands) e inner h m (inr k) = absurd k
  by_operands doing kind place parts pure below None e inner h m k =
      let from = among-map_from (lifted (to_do doing kind place) (within doing kind place)) m inner k in
      subst (StepKeeps scene world locks kind (computed scene world (to_do doing kind place parts))) (sym from.2) (inner_fits doing kind place parts pure from.0 (h from.0 from.1))

  first_or_rest : (opens : Open) (first : Run) (rest : Runs) (b : Bool) → first_open opens ≡ b → IsPure first → ArePure rest
      → (ones : List (Move Run Hole)) (others : List (Move Runs Holes))
      → ((x : Move Run Hole) → IsAmong x ones → StepKeeps scene world locks (kind_of_run first) (computed scene world first) x)
      → ((x : Move Runs Holes) → IsAmong x others → PartsFit (others_open opens) rest x) → (m : Move Runs Holes)
      → IsAmong m (where_open b (map (lifted (λ run. more_runs run rest) (λ hole. in_first hole rest)) ones)) ⊎ IsAmong m (map (lifted (more_runs first) (in_others first)) others)
      → PartsFit opens (more_runs first rest) m
  first_or_rest opens first rest true o pure below ones others one more m (inl k) =
      let from = among-map_from (lifted (λ run. more_runs run rest) (λ hole. in_first hole rest)) m ones k in
      subst (PartsFit opens (more_runs first rest)) (sym from.2) (first_fits opens first rest o below from.0 (one from.0 from.1))
  first_or_rest opens first rest false o pure below ones others one more m (inl k) = absurd k
  first_or_rest opens first rest b o pure below ones others one more m (inr k) =
      let from = among-map_from (lifted (more_runs first) (in_others first)) m others k in
      subst (PartsFit opens (more_runs first rest)) (sym from.2) (rest_fits opens first rest pure from.0 (more from.0 from.1))

  mutual
    -- Each step of a tree that neither stores nor calls leaves such a tree in the same world, which comes to the same and reads no more places;
    -- it is undefined only where the tree comes to nothing, or reads a place that is locked.
    pub computed_step : (run : Run) → IsPure run → (m : Move Run Hole) → IsAmong m (moves scene world locks run)
        → StepKeeps scene world locks (kind_of_run run) (computed scene world run) m
    computed_step (done kind result own) h m k = absurd k
    computed_step (to_do doing kind place parts) h m k =
        by_operands doing kind place parts h.0 h.1 (operands_in (open_parts doing) parts) refl (moves_in scene world locks (open_parts doing) parts)
        (all_computed_step (open_parts doing) parts h.1) m
        k

    pub all_computed_step : (opens : Open) (parts : Runs) → ArePure parts → (x : Move Runs Holes) → IsAmong x (moves_in scene world locks opens parts)
        → PartsFit opens parts x
    all_computed_step opens no_runs h x k = absurd k
    all_computed_step opens (more_runs first rest) h x k =
        first_or_rest opens first rest (first_open opens) refl h.0 h.1 (moves scene world locks first) (moves_in scene world locks (others_open opens) rest)
        (computed_step first h.0) (all_computed_step (others_open opens) rest h.1) x (among_either x _ _ k)
