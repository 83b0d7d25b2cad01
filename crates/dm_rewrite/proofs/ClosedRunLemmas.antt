-- A tree under evaluation in which a closed object is only named where it is read or written stays so, and puts no pointer to it into
-- memory.
use Rattle.std.specs.Prelude.{◌≡◌, refl, ◌⊎◌, ℕ, zero, suc, Bool, true, false, List, [], ◌∷◌, map, option_map, Option, Some, None, pos, Result as Outcome, Ok, Err, if◌then◌else◌}
use Rattle.std.proofs.Common.{true≢false, sym, ◌∙◌, subst, inl, inr}
use Rattle.dm_token.specs.declared.place.Place.{Place}
use Rattle.dm_type.specs.CTypes.{CType}
use Rattle.dm_tree.specs.Trees.{Label, number, object, read, both, either, choose, comma, store, update, count, call, sizeof_tree}
use Rattle.dm_tree.specs.Units.{Declaration}
use Rattle.dm_meaning.specs.Among.{IsAmong}
use Rattle.dm_meaning.specs.Values.{At, Value, integer_value, pointer_value, null, to}
use Rattle.dm_meaning.specs.declared.cause.Cause.{Cause}
use Rattle.dm_meaning.specs.Memory.{Memory, look}
use Rattle.dm_meaning.specs.Objects.{Layout}
use Rattle.dm_meaning.specs.Primitives.{Answer, answers, stops, refuses, put_character, get_character, written_line, put_line, text_at, most_in, end_program, Primitive, primitives, is_primitive, primitive_in, Prim}
use Rattle.dm_meaning.specs.Programs.{Definition, layout, declaration_of, definition_of}
use Rattle.dm_meaning.specs.Operations.{Result, of_value, designates, Operand, World, Scene, Did, gives, breaks, ends_with, object_named, designated, Truth, holds, untold, truth_of, truth_in, operate}
use Rattle.dm_meaning.specs.Running.{Doing, evaluates, gives_truth, gives_value, Run, done, to_do, Runs, no_runs, more_runs, locks_in_all, Open, every, first_open, others_open, open_of, open_parts, operands_in, first_result, Hole, within, Holes, in_first, in_others, filled_in, all_filled_in}
use Rattle.dm_meaning.specs.Expressions.{Move, goes, calls, fails, exits, lifted, as_move, by_truth, on_operand, value_of, nth_run, both_chosen, either_chosen, operand_chosen, answered, undefined_called, called, call_step, function_named, kind_of_run, node_step, own_or_inner, where_open, moves, moves_in}
use Rattle.dm_meaning.proofs.AmongLemmas.{among_either, among-map_from}
use Rattle.dm_meaning.proofs.OptionLemmas.{none_is_some, some_is_some, mapped_some}
use Rattle.dm_rewrite.specs.Closed.{Avoids, ListAvoids, ResultAvoids, MemoryAvoids, May, only_closed, may_name, unseen, names_first, IsPlace, IsNotNamed, FirstIs, IsClosedIn, IsClosedInAll, StaysClosed}
use Rattle.dm_rewrite.proofs.ClosedLemmas.{typed_avoids, AllResultsAvoid, OperandsAvoid, DidAvoids, operate_clear}

abbrev pub AnswerAvoids : Option Answer → Type 0
AnswerAvoids None = Unit {0}
AnswerAvoids (Some (answers value input output)) = (n : ℕ) → Avoids n value
AnswerAvoids (Some (stops status)) = Unit {0}
AnswerAvoids (Some (refuses cause)) = Unit {0}

put_avoids : (arguments : List Value) (input output : List ℕ) → AnswerAvoids (Some (put_character arguments input output))
put_avoids (integer_value kind z ∷ []) input output = λ n. tt
put_avoids other input output = tt

get_avoids : (input output : List ℕ) → AnswerAvoids (Some (get_character input output))
get_avoids [] output = λ n. tt
get_avoids (byte ∷ input) output = λ n. tt

written_avoids : (line : Outcome (List ℕ) Cause) (input output : List ℕ) → AnswerAvoids (Some (written_line line input output))
written_avoids (Ok bytes) input output = λ n. tt
written_avoids (Err cause) input output = tt

line_avoids : (layout : Layout) (memory : Memory) (arguments : List Value) (input output : List ℕ) → AnswerAvoids (Some (put_line layout memory arguments input output))
line_avoids layout memory (pointer_value null ∷ []) input output = tt
line_avoids layout memory (pointer_value (to at) ∷ []) input output = written_avoids (text_at layout memory (most_in layout (look memory at.name)) at) input output
line_avoids layout memory other input output = tt

end_avoids : (arguments : List Value) → AnswerAvoids (Some (end_program arguments))
end_avoids (integer_value kind z ∷ []) = tt
end_avoids other = tt

abbrev AllAvoiding : List Primitive → Type 0
AllAvoiding [] = Unit {0}
AllAvoiding (first ∷ rest) =
    ((layout : Layout) (memory : Memory) (arguments : List Value) (input output : List ℕ) → AnswerAvoids (Some (first.meaning layout memory arguments input output))) × AllAvoiding rest

all_avoiding : AllAvoiding primitives
all_avoiding = (
  λ layout memory arguments input output. put_avoids arguments input output,
  (
    λ layout memory arguments input output. get_avoids input output,
    (line_avoids, (λ layout memory arguments input output. end_avoids arguments, tt)),
  ),
)

found_avoids : (layout : Layout) (memory : Memory) (arguments : List Value) (input output : List ℕ) (name : List ℕ) (kind : CType) (all : List Primitive)
    → AllAvoiding all
    → AnswerAvoids (option_map (λ primitive. primitive.meaning layout memory arguments input output) (primitive_in all name kind))
found_avoids layout memory arguments input output name kind [] h = tt
found_avoids layout memory arguments input output name kind (first ∷ rest) h =
    by_name (is_primitive name kind first) (found_avoids layout memory arguments input output name kind rest h.1)
  where
    by_name : (b : Bool) → AnswerAvoids (option_map (λ primitive. primitive.meaning layout memory arguments input output) (primitive_in rest name kind))
        → AnswerAvoids (option_map (λ primitive. primitive.meaning layout memory arguments input output) (if b then Some first else primitive_in rest name kind))
    by_name true k = h.0 layout memory arguments input output
    by_name false k = k

-- What one of them answers has no pointers.
pub prim_avoids : (layout : Layout) (memory : Memory) (name : List ℕ) (kind : CType) (arguments : List Value) (input output : List ℕ)
    → AnswerAvoids (Prim name kind layout memory arguments input output)
prim_avoids layout memory name kind arguments input output = found_avoids layout memory arguments input output name kind primitives all_avoiding

-- what is never evaluated isn't open
pub unseen_shut : (doing : Doing) → names_first doing ≡ unseen → first_open (open_parts doing) ≡ false
unseen_shut (evaluates sizeof_tree) e = refl
unseen_shut (evaluates read) e = absurd (cc)
unseen_shut (evaluates store) e = absurd (cc)
unseen_shut (evaluates (update op works)) e = absurd (cc)
unseen_shut (evaluates (count plus before)) e = absurd (cc)
unseen_shut gives_truth e = absurd (cc)
unseen_shut gives_value e = absurd (cc)
unseen_shut (evaluates label) e = absurd (cc)

module _ (n : ℕ) (scene : Scene) (world : World) (clear : MemoryAvoids n world.memory) (locks : List At) where
  -- the same of a first operand, which may be the object's name, and of operands
  abbrev PartMoveClear : May → Move Run Hole → Type 0
  PartMoveClear may (goes after run) = FirstIs may (IsClosedIn n scene.objects run) (IsPlace n scene.objects run) × MemoryAvoids n after.memory
  PartMoveClear may (calls f arguments kind hole) =
      ListAvoids n arguments ×
      ((value : Value) (own : List At) → Avoids n value → FirstIs may (IsClosedIn n scene.objects (filled_in hole (done kind (of_value value) own))) (IsPlace n scene.objects (filled_in hole (done kind (of_value value) own))))
  PartMoveClear may (fails cause place) = Unit {0}
  PartMoveClear may (exits status) = Unit {0}

  abbrev MovesClear : May → Move Runs Holes → Type 0
  MovesClear may (goes after parts) = IsClosedInAll n scene.objects may parts × MemoryAvoids n after.memory
  MovesClear may (calls f arguments kind holes) =
      ListAvoids n arguments × ((value : Value) (own : List At) → Avoids n value → IsClosedInAll n scene.objects may (all_filled_in holes (done kind (of_value value) own)))
  MovesClear may (fails cause place) = Unit {0}
  MovesClear may (exits status) = Unit {0}

  -- ---- operands

  operands_clear : (opens : Open) (parts : Runs) (operands : List Operand) → IsClosedInAll n scene.objects only_closed parts
      → operands_in opens parts ≡ Some operands → AllResultsAvoid n operands
  operands_clear opens no_runs operands h e = subst (AllResultsAvoid n) (some_is_some [] operands e) tt
  operands_clear opens (more_runs first rest) operands h e = by_open (first_open opens) first h.0 e (λ os f. operands_clear (others_open opens) rest os h.1 f)
    where
      by_open : (b : Bool) (run : Run) → IsClosedIn n scene.objects run → first_result b run (operands_in (others_open opens) rest) ≡ Some operands
          → ((os : List Operand) → operands_in (others_open opens) rest ≡ Some os → AllResultsAvoid n os) → AllResultsAvoid n operands
      by_open true (done kind result own) k f later =
          let from = mapped_some (λ os. record { kind = kind; result = result } ∷ os) (operands_in (others_open opens) rest) operands f in
          subst (AllResultsAvoid n) from.2 (k, later from.0 from.1)
      by_open true (to_do doing kind place below) k f later = absurd (none_is_some operands f)
      by_open false run k f later = later operands f

  tail_clear : (parts : Runs) (a : Operand) (os : List Operand) → IsClosedInAll n scene.objects may_name parts → operands_in every parts ≡ Some (a ∷ os)
      → AllResultsAvoid n os
  tail_clear no_runs a os h e = absurd (cc (some_is_some [] (a ∷ os) e))
  tail_clear (more_runs (to_do doing kind place below) rest) a os h e = absurd (none_is_some _ e)
  tail_clear (more_runs (done kind result own) rest) a os h e =
      let from = mapped_some (λ later. record { kind = kind; result = result } ∷ later) (operands_in every rest) (a ∷ os) e in
      subst (AllResultsAvoid n) (tail_is (record { kind = kind; result = result }) a from.0 os from.2) (operands_clear every rest from.0 h.1 from.1)
    where
      tail_is : (x y : Operand) (xs ys : List Operand) → x ∷ xs ≡ y ∷ ys → xs ≡ ys
      tail_is x y xs ys f = cc

  nth_clear : (k : ℕ) (parts : Runs) → IsClosedInAll n scene.objects only_closed parts → IsClosedIn n scene.objects (nth_run k parts)
  nth_clear k no_runs h = tt
  nth_clear zero (more_runs first rest) h = h.0
  nth_clear (suc k) (more_runs first rest) h = nth_clear k rest h.1

  -- ---- the step of a node

  did_clear : (kind : CType) (place : Place) (below : List At) (did : Did) → DidAvoids n scene world clear locks did
      → StaysClosed n scene.objects (as_move kind place below did)
  did_clear kind place below (gives after result new) h = h
  did_clear kind place below (breaks cause) h = tt
  did_clear kind place below (ends_with status) h = tt

  on_operand_clear : (place : Place) (operands : List Operand) (next : Operand → Move Run Hole) → AllResultsAvoid n operands
      → ((a : Operand) → ResultAvoids n a.result → StaysClosed n scene.objects (next a)) → StaysClosed n scene.objects (on_operand place operands next)
  on_operand_clear place [] next k h = tt
  on_operand_clear place (a ∷ []) next k h = h a k.0
  on_operand_clear place (a ∷ b ∷ rest) next k h = tt

  by_truth_clear : (place : Place) (truth : Truth) (next : Bool → Run) → ((b : Bool) → IsClosedIn n scene.objects (next b))
      → StaysClosed n scene.objects (by_truth world place truth next)
  by_truth_clear place (holds b) next h = (h b, clear)
  by_truth_clear place (untold cause) next h = tt

  values_clear : (operands : List Operand) → AllResultsAvoid n operands → ListAvoids n (map (λ (a : Operand). value_of a.result) operands)
  values_clear [] h = tt
  values_clear (a ∷ rest) h = (by_result a.result h.0, values_clear rest h.1)
    where
      by_result : (result : Result) → ResultAvoids n result → Avoids n (value_of result)
      by_result (of_value value) k = k
      by_result (designates at) k = tt

  answered_clear : (kind : CType) (place : Place) (answer : Option Answer) → AnswerAvoids answer → StaysClosed n scene.objects (answered world kind place answer)
  answered_clear kind place None h = tt
  answered_clear kind place (Some (answers value input output)) h = (h n, clear)
  answered_clear kind place (Some (stops status)) h = tt
  answered_clear kind place (Some (refuses cause)) h = tt

  call_clear : (kind : CType) (place : Place) (arguments : List Value) → ListAvoids n arguments → (named : Option ℕ)
      → StaysClosed n scene.objects (call_step scene world kind place arguments named)
  call_clear kind place arguments h None = tt
  call_clear kind place arguments h (Some d) = by_definition (definition_of scene.program d)
    where
      by_declaration : (o : Option Declaration) → StaysClosed n scene.objects (undefined_called scene world kind place arguments o)
      by_declaration None = tt
      by_declaration (Some declaration) =
          answered_clear kind place (Prim declaration.name declaration.kind (layout scene.program) world.memory arguments world.input world.output)
          (prim_avoids (layout scene.program) world.memory declaration.name declaration.kind arguments world.input world.output)

      by_definition : (o : Option Definition) → StaysClosed n scene.objects (called scene world kind place arguments d o)
      by_definition (Some definition) = (h, λ value own k. k)
      by_definition None = by_declaration (declaration_of scene.program d)

  own_operator : (label : Label) (kind : CType) (place : Place) (below : List At) (operands : List Operand) → OperandsAvoid n label operands
      → ((d : ℕ) → label ≡ object d → object_named scene.objects d ≡ Some n → ⊥)
      → StaysClosed n scene.objects (as_move kind place below (operate scene world locks label kind operands))
  own_operator label kind place below operands h own =
      did_clear kind place below (operate scene world locks label kind operands) (operate_clear n scene world clear locks label kind operands h own)

  picked_clear : (kind : CType) (place : Place) (k : ℕ) (parts : Runs) (doing : Doing) → names_first doing ≡ only_closed → IsNotNamed n scene.objects doing
      → IsClosedInAll n scene.objects only_closed parts
      → IsClosedIn n scene.objects (to_do doing kind place (more_runs (nth_run k parts) no_runs))
  picked_clear kind place k parts doing e i h =
      (i, (subst (λ b. FirstIs b (IsClosedIn n scene.objects (nth_run k parts)) (IsPlace n scene.objects (nth_run k parts))) (sym e) (nth_clear k parts h), tt))

  truth_value_clear : (kind : CType) (b : Bool) (own : List At) → IsClosedIn n scene.objects (done kind (of_value (truth_in kind b)) own)
  truth_value_clear kind b own = truth_avoids kind b
    where
      truth_avoids : (type : CType) (t : Bool) → Avoids n (truth_in type t)
      truth_avoids type t = typed_avoids n _ _

  object_not : (label : Label) (d : ℕ) → label ≡ object d → IsNotNamed n scene.objects (evaluates label) → object_named scene.objects d ≡ Some n → ⊥
  object_not label d e h = subst (λ l. IsNotNamed n scene.objects (evaluates l)) e h

  own_clear : (doing : Doing) (kind : CType) (place : Place) (parts : Runs) (operands : List Operand) → IsNotNamed n scene.objects doing
      → IsClosedInAll n scene.objects (names_first doing) parts → operands_in (open_parts doing) parts ≡ Some operands
      → StaysClosed n scene.objects (node_step scene world locks doing kind place parts operands)
  own_clear (evaluates both) kind place parts operands i h e =
      on_operand_clear place operands _ (operands_clear (open_of both) parts operands h e)
      (λ a k. by_truth_clear place (truth_of world.memory (value_of a.result)) (both_chosen kind place parts) by_bool)
    where
      by_bool : (b : Bool) → IsClosedIn n scene.objects (both_chosen kind place parts b)
      by_bool true = picked_clear kind place 1 parts gives_truth refl tt h
      by_bool false = truth_value_clear kind false []
  own_clear (evaluates either) kind place parts operands i h e =
      on_operand_clear place operands _ (operands_clear (open_of either) parts operands h e)
      (λ a k. by_truth_clear place (truth_of world.memory (value_of a.result)) (either_chosen kind place parts) by_bool)
    where
      by_bool : (b : Bool) → IsClosedIn n scene.objects (either_chosen kind place parts b)
      by_bool true = truth_value_clear kind true []
      by_bool false = picked_clear kind place 1 parts gives_truth refl tt h
  own_clear (evaluates choose) kind place parts operands i h e =
      on_operand_clear place operands _ (operands_clear (open_of choose) parts operands h e)
      (λ a k. by_truth_clear place (truth_of world.memory (value_of a.result)) (operand_chosen kind place parts) (λ b. picked_clear kind place (if b then 1 else 2) parts gives_value refl tt h))
  own_clear (evaluates comma) kind place parts operands i h e = (picked_clear kind place 1 parts gives_value refl tt h, clear)
  own_clear (evaluates call) kind place parts operands i h e =
      call_clear kind place _ (values_clear operands (operands_clear (open_of call) parts operands h e)) (function_named (nth_run 0 parts))
  own_clear (evaluates sizeof_tree) kind place parts operands i h e =
      own_operator (number (pos ((layout scene.program).size (kind_of_run (nth_run 0 parts))))) kind place [] [] tt (λ d f. absurd (cc))
  own_clear (evaluates read) kind place parts operands i h e = own_operator read kind place (locks_in_all parts) operands tt (λ d f. absurd (cc))
  own_clear (evaluates (count plus before)) kind place parts operands i h e =
      own_operator (count plus before) kind place (locks_in_all parts) operands tt (λ d f. absurd (cc))
  own_clear (evaluates store) kind place parts [] i h e = own_operator store kind place (locks_in_all parts) [] tt (λ d f. absurd (cc))
  own_clear (evaluates store) kind place parts (a ∷ os) i h e =
      own_operator store kind place (locks_in_all parts) (a ∷ os) (tail_clear parts a os h e) (λ d f. absurd (cc))
  own_clear (evaluates (update op works)) kind place parts [] i h e = own_operator (update op works) kind place (locks_in_all parts) [] tt (λ d f. absurd (cc))
  own_clear (evaluates (update op works)) kind place parts (a ∷ os) i h e =
      own_operator (update op works) kind place (locks_in_all parts) (a ∷ os) (tail_clear parts a os h e) (λ d f. absurd (cc))
  own_clear gives_truth kind place parts operands i h e =
      on_operand_clear place operands _ (operands_clear every parts operands h e)
      (λ a k. by_truth_clear place (truth_of world.memory (value_of a.result)) (λ truth. done kind (of_value (truth_in kind truth)) (locks_in_all parts)) (λ b. truth_value_clear kind b (locks_in_all parts)))
  own_clear gives_value kind place parts operands i h e = on_operand_clear place operands _ (operands_clear every parts operands h e) (λ a k. (k, clear))
  own_clear (evaluates label) kind place parts operands i h e =
      own_operator label kind place (locks_in_all parts) operands (operands_clear (open_of label) parts operands h e) (λ d f. object_not label d f i)

  -- ---- all steps of a tree

  below_clear : (doing : Doing) (kind : CType) (place : Place) → IsNotNamed n scene.objects doing → (m : Move Runs Holes) → MovesClear (names_first doing) m
      → StaysClosed n scene.objects (lifted (to_do doing kind place) (within doing kind place) m)
  below_clear doing kind place i (goes after parts) h = ((i, h.0), h.1)
  below_clear doing kind place i (calls f arguments called_kind holes) h = (h.0, λ value own k. (i, h.1 value own k))
  below_clear doing kind place i (fails cause at) h = tt
  below_clear doing kind place i (exits status) h = tt

  first_clear : (may : May) (rest : Runs) → IsClosedInAll n scene.objects only_closed rest → (m : Move Run Hole) → PartMoveClear may m
      → MovesClear may (lifted (λ run. more_runs run rest) (λ hole. in_first hole rest) m)
  first_clear may rest r (goes after run) h = ((h.0, r), h.1)
  first_clear may rest r (calls f arguments called_kind hole) h = (h.0, λ value own k. (h.1 value own k, r))
  first_clear may rest r (fails cause at) h = tt
  first_clear may rest r (exits status) h = tt

  rest_clear : (may : May) (first : Run) → FirstIs may (IsClosedIn n scene.objects first) (IsPlace n scene.objects first) → (m : Move Runs Holes)
      → MovesClear only_closed m → MovesClear may (lifted (more_runs first) (in_others first) m)
  rest_clear may first f (goes after parts) h = ((f, h.0), h.1)
  rest_clear may first f (calls g arguments called_kind holes) h = (h.0, λ value own k. (f, h.1 value own k))
  rest_clear may first f (fails cause at) h = tt
  rest_clear may first f (exits status) h = tt

  as_named : (m : Move Run Hole) → StaysClosed n scene.objects m → PartMoveClear may_name m
  as_named (goes after run) h = (inl h.0, h.1)
  as_named (calls f arguments kind hole) h = (h.0, λ value own k. inl (h.1 value own k))
  as_named (fails cause place) h = tt
  as_named (exits status) h = tt

  as_clear : (m : Move Run Hole) → StaysClosed n scene.objects m → PartMoveClear only_closed m
  as_clear (goes after run) h = h
  as_clear (calls f arguments kind hole) h = h
  as_clear (fails cause place) h = tt
  as_clear (exits status) h = tt

  -- the name of the object is evaluated
  place_steps : (run : Run) → IsPlace n scene.objects run → (m : Move Run Hole) → IsAmong m (moves scene world locks run) → PartMoveClear may_name m
  place_steps run (inl (d, kind, place, e, f)) m k = by_step (subst (λ r. IsAmong m (moves scene world locks r)) e k)
    where
      by_step : IsAmong m (moves scene world locks (to_do (evaluates (object d)) kind place no_runs)) → PartMoveClear may_name m
      by_step (inl g) =
          subst (PartMoveClear may_name) (sym g)
          (subst (λ o. PartMoveClear may_name (as_move kind place [] (designated world o))) (sym f) (inr (inr (kind, [], refl)), clear))
      by_step (inr g) = absurd g
  place_steps run (inr (kind, own, e)) m k = absurd (subst (λ r. IsAmong m (moves scene world locks r)) e k)

  by_operands : (doing : Doing) (kind : CType) (place : Place) (parts : Runs) → IsNotNamed n scene.objects doing
      → IsClosedInAll n scene.objects (names_first doing) parts → (o : Option (List Operand)) → operands_in (open_parts doing) parts ≡ o
      → (inner : List (Move Runs Holes)) → ((x : Move Runs Holes) → IsAmong x inner → MovesClear (names_first doing) x) → (m : Move Run Hole)
      → IsAmong m (own_or_inner o (node_step scene world locks doing kind place parts) (map (lifted (to_do doing kind place) (within doing kind place)) inner))
      → StaysClosed n scene.objects m
  by_operands doing kind place parts i h (Some operands) e inner later m (inl k) =
      subst (StaysClosed n scene.objects) (sym k) (own_clear doing kind place parts operands i h e)
  by_operands doing kind place parts i h (Some operands) e inner later m (inr k) = absurd k
  by_operands doing kind place parts i h None e inner later m k =
      let from = among-map_from (lifted (to_do doing kind place) (within doing kind place)) m inner k in
      subst (StaysClosed n scene.objects) (sym from.2) (below_clear doing kind place i from.0 (later from.0 from.1))

  first_part : (may : May) (opened : Bool) (first : Run) → (may ≡ unseen → opened ≡ false) → opened ≡ true
      → FirstIs may (IsClosedIn n scene.objects first) (IsPlace n scene.objects first)
      → (IsClosedIn n scene.objects first → (x : Move Run Hole) → IsAmong x (moves scene world locks first) → StaysClosed n scene.objects x) → (x : Move Run Hole)
      → IsAmong x (moves scene world locks first) → PartMoveClear may x
  first_part may_name opened first shut e (inl h) later x k = as_named x (later h x k)
  first_part may_name opened first shut e (inr h) later x k = place_steps first h x k
  first_part only_closed opened first shut e h later x k = as_clear x (later h x k)
  first_part unseen opened first shut e h later x k = absurd (true≢false (sym e ∙ shut refl))

  first_or_rest : (may : May) (first : Run) (rest : Runs) (b : Bool) → FirstIs may (IsClosedIn n scene.objects first) (IsPlace n scene.objects first)
      → IsClosedInAll n scene.objects only_closed rest → (ones : List (Move Run Hole)) (others : List (Move Runs Holes))
      → (b ≡ true → (x : Move Run Hole) → IsAmong x ones → PartMoveClear may x) → ((x : Move Runs Holes) → IsAmong x others → MovesClear only_closed x)
      → (m : Move Runs Holes)
      → IsAmong m (where_open b (map (lifted (λ run. more_runs run rest) (λ hole. in_first hole rest)) ones)) ⊎ IsAmong m (map (lifted (more_runs first) (in_others first)) others)
      → MovesClear may m
  first_or_rest may first rest true f r ones others one more m (inl k) =
      let from = among-map_from (lifted (λ run. more_runs run rest) (λ hole. in_first hole rest)) m ones k in
      subst (MovesClear may) (sym from.2) (first_clear may rest r from.0 (one refl from.0 from.1))
  first_or_rest may first rest false f r ones others one more m (inl k) = absurd k
  first_or_rest may first rest b f r ones others one more m (inr k) =
      let from = among-map_from (lifted (more_runs first) (in_others first)) m others k in
      subst (MovesClear may) (sym from.2) (rest_clear may first f from.0 (more from.0 from.1))

  mutual
    -- Each step of such a tree leaves such a tree, and memory without pointers to the object; a call is given none, and behind it the tree is such
    -- again, if it gives none.
    pub run_clear : (run : Run) → IsClosedIn n scene.objects run → (m : Move Run Hole) → IsAmong m (moves scene world locks run) → StaysClosed n scene.objects m
    run_clear (done kind result own) h m k = absurd k
    run_clear (to_do doing kind place parts) h m k =
        by_operands doing kind place parts h.0 h.1 (operands_in (open_parts doing) parts) refl (moves_in scene world locks (open_parts doing) parts)
        (runs_clear (names_first doing) (open_parts doing) (unseen_shut doing) parts h.1) m k

    pub runs_clear : (may : May) (opens : Open) → (may ≡ unseen → first_open opens ≡ false) → (parts : Runs) → IsClosedInAll n scene.objects may parts
        → (m : Move Runs Holes) → IsAmong m (moves_in scene world locks opens parts) → MovesClear may m
    runs_clear may opens shut no_runs h m k = absurd k
    runs_clear may opens shut (more_runs first rest) h m k =
        first_or_rest may first rest (first_open opens) h.0 h.1 (moves scene world locks first) (moves_in scene world locks (others_open opens) rest)
        (λ e. first_part may (first_open opens) first shut e h.0 (λ c x l. run_clear first c x l))
        (runs_clear only_closed (others_open opens) (λ e. absurd (cc)) rest h.1) m (among_either m _ _ k)
