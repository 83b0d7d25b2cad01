-- The steps of an expression beside more objects are those without them, unless these are undefined, and leave the spare objects alone.
use Rattle.std.specs.Prelude.{◌≡◌, refl, ◌⊎◌, ℕ, zero, suc, ◌==◌, if◌then◌else◌, Bool, true, false, List, [], ◌∷◌, ◌++◌, map, Option, Some, None, option_map, pos}
use Rattle.std.proofs.Common.{ap, sym, ◌∙◌, subst, inl, inr}
use Rattle.dm_token.specs.declared.place.Place.{Place}
use Rattle.dm_type.specs.CTypes.{CType, void}
use Rattle.dm_tree.specs.Trees.{Label, both, either, choose, comma, call, sizeof_tree}
use Rattle.dm_tree.specs.Units.{Declaration}
use Rattle.dm_meaning.specs.declared.cause.Cause.{Cause}
use Rattle.dm_meaning.specs.Among.{IsAmong}
use Rattle.dm_meaning.specs.Values.{Name, numbered, literal_of, elsewhere, Path, At, null, to, Value, integer_value, pointer_value, parts as compound, unset, with_part}
use Rattle.dm_meaning.specs.Memory.{Memory, Block, look_up, changed_block, written}
use Rattle.dm_meaning.specs.Causes.{earliest, use_causes}
use Rattle.dm_meaning.specs.Primitives.{Answer, answers, stops, refuses, Prim}
use Rattle.dm_meaning.specs.Programs.{Definition, layout, declaration_of, definition_of}
use Rattle.dm_meaning.specs.Operations.{of_value, Operand, World, Scene, Did, gives, breaks, ends_with, Truth, holds, untold, told, truth_of, truth_in, operate, provided, is_of_kind, plain, typed}
use Rattle.dm_meaning.specs.Running.{Doing, evaluates, gives_truth, gives_value, Run, done, to_do, Runs, no_runs, more_runs, locks_in, locks_in_all, Open, first_open, others_open, open_parts, operands_in, Hole, within, Holes, in_first, in_others, all_filled_in}
use Rattle.dm_meaning.specs.Expressions.{Move, goes, calls, fails, exits, lifted, as_move, by_truth, on_operand, value_of, nth_run, both_chosen, either_chosen, operand_chosen, answered, undefined_called, called, call_step, function_named, form_step, node_step, own_or_inner, where_open, moves, moves_in, kind_of_run}
use Rattle.dm_meaning.specs.Extending.{HasAll, AreAmong, SameUnlessUndefined, SameOptionalAnswer}
use Rattle.dm_meaning.specs.Replaced.{Zipped}
use Rattle.dm_meaning.specs.MoreObjects.{IsMade, IsMadeName, LocksMade, unfilled, IsSpare, Grown}
use Rattle.dm_meaning.proofs.AmongLemmas.{among_left, among_right, among_either}
use Rattle.dm_meaning.proofs.ExtendLemmas.{look_changed, same_object, same_absence, operate_same}
use Rattle.dm_meaning.proofs.PrimLemmas.{prim_same}
use Rattle.dm_meaning.proofs.StatementLemmas.{zipped_append}
use Rattle.dm_meaning.proofs.GrowLemmas.{made_changed, look_beside, made_not_spare, grown_same}
use Rattle.dm_meaning.proofs.ChangeLemmas.{Changes, DidChanges, operate_changes}

-- ---- what has been made

pub name_made_later : (memory later : Memory) → ((n : ℕ) → IsMade memory n → IsMade later n) → (name : Name) → IsMadeName memory name → IsMadeName later name
name_made_later memory later h (numbered n) k = h n k
name_made_later memory later h (literal_of bytes unit) k = tt
name_made_later memory later h (elsewhere identifier) k = tt

pub locks_made_later : (memory later : Memory) → ((n : ℕ) → IsMade memory n → IsMade later n) → (locks : List At) → LocksMade memory locks → LocksMade later locks
locks_made_later memory later h locks k lock l = name_made_later memory later h lock.name (k lock l)

pub locks_made_joined : (memory : Memory) (a b : List At) → LocksMade memory a → LocksMade memory b → LocksMade memory (a ++ b)
locks_made_joined memory a b h k lock l = by_either (among_either lock a b l)
  where
    by_either : IsAmong lock a ⊎ IsAmong lock b → IsMadeName memory lock.name
    by_either (inl x) = h lock x
    by_either (inr y) = k lock y

pub no_locks_made : (memory : Memory) → LocksMade memory []
no_locks_made memory lock l = absurd l

-- ---- truth

abbrev pub TruthSpared : Truth → Truth → Type 0
TruthSpared truth (untold cause) = Unit {0}
TruthSpared (holds a) (holds b) = a ≡ b
TruthSpared (untold cause) (holds b) = ⊥

told_spared : (causes others : List Cause) (b : Bool) → (causes ≡ [] → others ≡ []) → TruthSpared (told (earliest others) b) (told (earliest causes) b)
told_spared [] others b h = subst (λ cs. TruthSpared (told (earliest cs) b) (holds b)) (sym (h refl)) refl
told_spared (cause ∷ causes) others b h = tt

use_later : (memory more : Memory) → HasAll more memory → (at : At) → use_causes memory (to at) ≡ [] → use_causes more (to at) ≡ []
use_later memory more has at e = same_absence memory more at.name (same_object memory more has at.name e) ∙ e

pub truth_spared : (memory more : Memory) → HasAll more memory → (value : Value) → TruthSpared (truth_of more value) (truth_of memory value)
truth_spared memory more has (integer_value kind z) = refl
truth_spared memory more has (pointer_value null) = refl
truth_spared memory more has (pointer_value (to at)) = told_spared (use_causes memory (to at)) (use_causes more (to at)) true (use_later memory more has at)
truth_spared memory more has (compound all) = tt
truth_spared memory more has unset = tt

-- ---- changes of memory

absent_changed : (n : ℕ) (change : Block → Block) (memory : Memory) (m : ℕ) → look_up memory m ≡ None → look_up (changed_block n change memory) m ≡ None
absent_changed n change memory m e = look_changed n change memory m ∙ ap (option_map (λ block. if m == n then change block else block)) e

absent_written : (name : Name) (path : Path) (value : Value) (memory : Memory) (m : ℕ) → look_up memory m ≡ None → look_up (written memory (record { name = name; path = path }) value) m ≡ None
absent_written (numbered n) path value memory m e = absent_changed n (λ block. record block { contents = with_part path value block.contents }) memory m e
absent_written (literal_of bytes unit) path value memory m e = e
absent_written (elsewhere identifier) path value memory m e = e

made_written : (name : Name) (path : Path) (value : Value) (memory : Memory) (m : ℕ) → IsMade memory m → IsMade (written memory (record { name = name; path = path }) value) m
made_written (numbered n) path value memory m h = made_changed n (λ block. record block { contents = with_part path value block.contents }) memory m h
made_written (literal_of bytes unit) path value memory m h = h
made_written (elsewhere identifier) path value memory m h = h

spare_written : (more memory : Memory) (name : Name) (path : Path) (value : Value) (m : ℕ) (block : Block) → IsMadeName memory name → IsSpare more memory m block
    → look_up (written more (record { name = name; path = path }) value) m ≡ Some block
spare_written more memory (numbered n) path value m block made spare =
    look_beside n (λ x. record x { contents = with_part path value x.contents }) more m (Some block) (λ e. made_not_spare more memory n m block made spare (sym e)) spare.0
spare_written more memory (literal_of bytes unit) path value m block made spare = spare.0
spare_written more memory (elsewhere identifier) path value m block made spare = spare.0

-- a change of the world without the spare objects keeps what was made, and makes none of them
changed_made : (world later : World) (new : List At) → Changes world later new → (n : ℕ) → IsMade world.memory n → IsMade later.memory n
changed_made world later new (inl (same, none)) n h = subst (λ (w : World). IsMade w.memory n) (sym same) h
changed_made world later new (inr (at, value, stored, is, made)) n h = subst (λ (w : World). IsMade w.memory n) (sym stored) (made_written at.name at.path value world.memory n h)

changed_absent : (world later : World) (new : List At) → Changes world later new → (n : ℕ) → look_up world.memory n ≡ None → look_up later.memory n ≡ None
changed_absent world later new (inl (same, none)) n h = ap (λ (w : World). look_up w.memory n) same ∙ h
changed_absent world later new (inr (at, value, stored, is, made)) n h = ap (λ (w : World). look_up w.memory n) stored ∙ absent_written at.name at.path value world.memory n h

-- what it locks has been made
changed_locks : (world later : World) (new : List At) → Changes world later new → LocksMade world.memory new
changed_locks world later new (inl (same, none)) lock l = absurd (subst (IsAmong lock) none l)
changed_locks world later new (inr (at, value, stored, is, made)) lock l = by_lock (subst (IsAmong lock) is l)
  where
    by_lock : IsAmong lock (at ∷ []) → IsMadeName world.memory lock.name
    by_lock (inl e) = subst (λ (x : At). IsMadeName world.memory x.name) (sym e) made
    by_lock (inr h) = absurd h

-- a change of the world with them, which locks what has been made without them, leaves them alone
changed_spare : (memory : Memory) (world later : World) (new : List At) → Changes world later new → LocksMade memory new → (n : ℕ) (block : Block) → IsSpare world.memory memory n block → look_up later.memory n ≡ Some block
changed_spare memory world later new (inl (same, none)) locked n block spare = ap (λ (w : World). look_up w.memory n) same ∙ spare.0
changed_spare memory world later new (inr (at, value, stored, is, made)) locked n block spare =
    ap (λ (w : World). look_up w.memory n) stored
    ∙ spare_written world.memory memory at.name at.path value n block (locked at (subst (IsAmong at) (sym is) (inl refl))) spare

-- ---- steps

-- the same step, unless it is undefined without the spare objects
abbrev pub WorldSpared : Memory → Memory → World → World → Type 0
WorldSpared more memory after later = Grown more memory after.memory later.memory × (after.input ≡ later.input) × (after.output ≡ later.output)

abbrev pub MoveSpared : {T H : Type 0} → Memory → Memory → (T → List At) → (H → List At) → Move T H → Move T H → Type 0
MoveSpared more memory lt lh m (fails cause place) = Unit {0}
MoveSpared more memory lt lh (goes after t) (goes later u) = WorldSpared more memory after later × (t ≡ u) × LocksMade later.memory (lt u)
MoveSpared more memory lt lh (calls f arguments kind h) (calls g others other k) = (f ≡ g) × (arguments ≡ others) × (kind ≡ other) × (h ≡ k) × LocksMade memory (lh k)
MoveSpared more memory lt lh (exits status) (exits other) = status ≡ other
MoveSpared more memory lt lh m n = ⊥

abbrev pub hole_locks : Hole → List At
hole_locks hole = locks_in (unfilled hole)

abbrev pub holes_locks : Holes → List At
holes_locks holes = locks_in_all (all_filled_in holes (done void (of_value unset) []))

abbrev pub RunSpared : Memory → Memory → Move Run Hole → Move Run Hole → Type 0
RunSpared more memory m n = MoveSpared more memory locks_in hole_locks m n

abbrev pub RunsSpared : Memory → Memory → Move Runs Holes → Move Runs Holes → Type 0
RunsSpared more memory m n = MoveSpared more memory locks_in_all holes_locks m n

zipped_mapped : {X Y A B : Type 0} (R : X → Y → Type 0) (S : A → B → Type 0) (f : X → A) (g : Y → B) → ((x : X) (y : Y) → R x y → S (f x) (g y)) → (xs : List X) (ys : List Y) → Zipped R xs ys → Zipped S (map f xs) (map g ys)
zipped_mapped R S f g h [] [] k = tt
zipped_mapped R S f g h [] (y ∷ ys) k = absurd k
zipped_mapped R S f g h (x ∷ xs) [] k = absurd k
zipped_mapped R S f g h (x ∷ xs) (y ∷ ys) k = (h x y k.0, zipped_mapped R S f g h xs ys k.1)

lifted_spared : {T H U G : Type 0} (more memory : Memory) (lt : T → List At) (lh : H → List At) (lu : U → List At) (lg : G → List At) (f : T → U) (g : H → G)
    → ((later : Memory) → ((n : ℕ) → IsMade memory n → IsMade later n) → (t : T) → LocksMade later (lt t) → LocksMade later (lu (f t)))
    → ((h : H) → LocksMade memory (lh h) → LocksMade memory (lg (g h)))
    → (m n : Move T H) → MoveSpared more memory lt lh m n → MoveSpared more memory lu lg (lifted f g m) (lifted f g n)
lifted_spared more memory lt lh lu lg f g p q (goes after t) (goes later u) h = (h.0, ap f h.1, p later.memory h.0.0.made u h.2)
lifted_spared more memory lt lh lu lg f g p q (goes after t) (calls d others other k) h = absurd h
lifted_spared more memory lt lh lu lg f g p q (goes after t) (fails cause place) h = tt
lifted_spared more memory lt lh lu lg f g p q (goes after t) (exits other) h = absurd h
lifted_spared more memory lt lh lu lg f g p q (calls e arguments kind a) (goes later u) h = absurd h
lifted_spared more memory lt lh lu lg f g p q (calls e arguments kind a) (calls d others other k) h = (h.0, h.1, h.2, ap g h.3, q k h.4)
lifted_spared more memory lt lh lu lg f g p q (calls e arguments kind a) (fails cause place) h = tt
lifted_spared more memory lt lh lu lg f g p q (calls e arguments kind a) (exits other) h = absurd h
lifted_spared more memory lt lh lu lg f g p q (fails cause at) (goes later u) h = absurd h
lifted_spared more memory lt lh lu lg f g p q (fails cause at) (calls d others other k) h = absurd h
lifted_spared more memory lt lh lu lg f g p q (fails cause at) (fails other_cause place) h = tt
lifted_spared more memory lt lh lu lg f g p q (fails cause at) (exits other) h = absurd h
lifted_spared more memory lt lh lu lg f g p q (exits status) (goes later u) h = absurd h
lifted_spared more memory lt lh lu lg f g p q (exits status) (calls d others other k) h = absurd h
lifted_spared more memory lt lh lu lg f g p q (exits status) (fails cause place) h = tt
lifted_spared more memory lt lh lu lg f g p q (exits status) (exits other) h = h

nth_locks : (memory : Memory) (n : ℕ) (parts : Runs) → LocksMade memory (locks_in_all parts) → LocksMade memory (locks_in (nth_run n parts))
nth_locks memory n no_runs h lock l = absurd l
nth_locks memory zero (more_runs first rest) h lock l = h lock (among_left lock (locks_in first) (locks_in_all rest) l)
nth_locks memory (suc n) (more_runs first rest) h lock l = nth_locks memory n rest (λ x k. h x (among_right x (locks_in first) (locks_in_all rest) k)) lock l

all_among : (locks : List At) → AreAmong locks locks
all_among locks lock l = l

module _ (scene : Scene) (world : World) (more : Memory) (has : HasAll more world.memory) (locks : List At) where
  abbrev wide : World
  wide = record world { memory = more }

  abbrev Related : Move Run Hole → Move Run Hole → Type 0
  Related m n = RunSpared more world.memory m n

  world_same : WorldSpared more world.memory wide world
  world_same = (grown_same more world.memory has, refl, refl)

  did_spared : (kind : CType) (place : Place) (own : List At) → LocksMade world.memory own → (did wider : Did) → SameUnlessUndefined did wider
      → DidChanges scene world locks did → DidChanges scene wide locks wider → Related (as_move kind place own wider) (as_move kind place own did)
  did_spared kind place own h (breaks cause) wider same changes wider_changes = tt
  did_spared kind place own h (ends_with status) (ends_with other) same changes wider_changes = sym same
  did_spared kind place own h (ends_with status) (gives after result new) same changes wider_changes = absurd same
  did_spared kind place own h (ends_with status) (breaks cause) same changes wider_changes = absurd same
  did_spared kind place own h (gives later result new) (breaks cause) same changes wider_changes = absurd same
  did_spared kind place own h (gives later result new) (ends_with status) same changes wider_changes = absurd same
  did_spared kind place own h (gives later result new) (gives after other others) same changes wider_changes =
      let grows = changed_made world later new changes in
      let new_made = changed_locks world later new changes in (
        (
          record {
            has = same.0.0;
            made = grows;
            spare = λ n block s. (
              changed_spare world.memory wide after others wider_changes (subst (LocksMade world.memory) same.2 new_made) n block s,
              changed_absent world later new changes n s.1,
            );
          },
          same.0.1,
          same.0.2,
        ),
        ap (λ r. done kind r (others ++ own)) (sym same.1) ∙ ap (λ l. done kind result (l ++ own)) (sym same.2),
        locks_made_later world.memory later.memory grows (new ++ own) (locks_made_joined world.memory new own new_made h),
      )

  by_truth_spared : (place : Place) (truth wider : Truth) (next : Bool → Run) → TruthSpared wider truth → ((b : Bool) → LocksMade world.memory (locks_in (next b)))
      → Related (by_truth wide place wider next) (by_truth world place truth next)
  by_truth_spared place (untold cause) wider next h k = tt
  by_truth_spared place (holds b) (holds a) next h k = (world_same, ap next h, k b)
  by_truth_spared place (holds b) (untold cause) next h k = absurd h

  on_operand_spared : (place : Place) (operands : List Operand) (next other : Operand → Move Run Hole) → ((a : Operand) → Related (next a) (other a)) → Related (on_operand place operands next) (on_operand place operands other)
  on_operand_spared place [] next other h = tt
  on_operand_spared place (a ∷ []) next other h = h a
  on_operand_spared place (a ∷ b ∷ rest) next other h = tt

  answered_spared : (kind : CType) (place : Place) (answer wider : Option Answer) → SameOptionalAnswer answer wider → Related (answered wide kind place wider) (answered world kind place answer)
  answered_spared kind place None wider h = tt
  answered_spared kind place (Some (refuses cause)) wider h = tt
  answered_spared kind place (Some (answers value input output)) None h = absurd h
  answered_spared kind place (Some (answers value input output)) (Some (answers other inputs outputs)) h =
      ((grown_same more world.memory has, sym h.1, sym h.2), ap (λ v. done kind (of_value v) []) (sym h.0), no_locks_made world.memory)
  answered_spared kind place (Some (answers value input output)) (Some (stops status)) h = absurd h
  answered_spared kind place (Some (answers value input output)) (Some (refuses cause)) h = absurd h
  answered_spared kind place (Some (stops status)) None h = absurd h
  answered_spared kind place (Some (stops status)) (Some (answers other inputs outputs)) h = absurd h
  answered_spared kind place (Some (stops status)) (Some (stops other)) h = sym h
  answered_spared kind place (Some (stops status)) (Some (refuses cause)) h = absurd h

  undefined_spared : (kind : CType) (place : Place) (arguments : List Value) (o : Option Declaration) → Related (undefined_called scene wide kind place arguments o) (undefined_called scene world kind place arguments o)
  undefined_spared kind place arguments None = tt
  undefined_spared kind place arguments (Some declaration) =
      answered_spared kind place (Prim declaration.name declaration.kind (layout scene.program) world.memory arguments world.input world.output)
      (Prim declaration.name declaration.kind (layout scene.program) more arguments world.input world.output)
      (prim_same (layout scene.program) world.memory more has declaration.name declaration.kind arguments world.input world.output)

  called_spared : (kind : CType) (place : Place) (arguments : List Value) (d : ℕ) (o : Option Definition) → Related (called scene wide kind place arguments d o) (called scene world kind place arguments d o)
  called_spared kind place arguments d None = undefined_spared kind place arguments (declaration_of scene.program d)
  called_spared kind place arguments d (Some definition) = (refl, refl, refl, refl, no_locks_made world.memory)

  call_spared : (kind : CType) (place : Place) (arguments : List Value) (o : Option ℕ) → Related (call_step scene wide kind place arguments o) (call_step scene world kind place arguments o)
  call_spared kind place arguments None = tt
  call_spared kind place arguments (Some d) = called_spared kind place arguments d (definition_of scene.program d)

  module _ (kind : CType) (place : Place) (members : Runs) (made : LocksMade world.memory (locks_in_all members)) where
    chosen_locks : (doing : Doing) (n : ℕ) → LocksMade world.memory (locks_in (to_do doing kind place (more_runs (nth_run n members) no_runs)))
    chosen_locks doing n = locks_made_joined world.memory (locks_in (nth_run n members)) [] (nth_locks world.memory n members made) (no_locks_made world.memory)

    truth_here : (a : Operand) → TruthSpared (truth_of more (value_of a.result)) (truth_of world.memory (value_of a.result))
    truth_here a = truth_spared world.memory more has (value_of a.result)

    both_locks : (b : Bool) → LocksMade world.memory (locks_in (both_chosen kind place members b))
    both_locks true = chosen_locks gives_truth 1
    both_locks false = no_locks_made world.memory

    either_locks : (b : Bool) → LocksMade world.memory (locks_in (either_chosen kind place members b))
    either_locks true = no_locks_made world.memory
    either_locks false = chosen_locks gives_truth 1

    choice_locks : (b : Bool) → LocksMade world.memory (locks_in (operand_chosen kind place members b))
    choice_locks true = chosen_locks gives_value 1
    choice_locks false = chosen_locks gives_value 2

    -- a number alone, where its type has it
    number_spared : (value : Value) → Related (as_move kind place [] (provided (is_of_kind value) (plain wide value))) (as_move kind place [] (provided (is_of_kind value) (plain world value)))
    number_spared value = by_kind (is_of_kind value)
      where
        by_kind : (b : Bool) → Related (as_move kind place [] (provided b (plain wide value))) (as_move kind place [] (provided b (plain world value)))
        by_kind true = (world_same, refl, no_locks_made world.memory)
        by_kind false = tt

    form_spared : (label : Label) (operands : List Operand) → Related (form_step scene wide locks label kind place members operands) (form_step scene world locks label kind place members operands)
    form_spared both operands = on_operand_spared place operands _ _ (λ a. by_truth_spared place (truth_of world.memory (value_of a.result)) (truth_of more (value_of a.result)) (both_chosen kind place members) (truth_here a) both_locks)
    form_spared either operands = on_operand_spared place operands _ _ (λ a. by_truth_spared place (truth_of world.memory (value_of a.result)) (truth_of more (value_of a.result)) (either_chosen kind place members) (truth_here a) either_locks)
    form_spared choose operands = on_operand_spared place operands _ _ (λ a. by_truth_spared place (truth_of world.memory (value_of a.result)) (truth_of more (value_of a.result)) (operand_chosen kind place members) (truth_here a) choice_locks)
    form_spared comma operands = (world_same, refl, chosen_locks gives_value 1)
    form_spared call operands = call_spared kind place (map (λ a. value_of a.result) operands) (function_named (nth_run 0 members))
    form_spared sizeof_tree operands = number_spared (typed kind (pos ((layout scene.program).size (kind_of_run (nth_run 0 members)))))
    form_spared label operands =
        did_spared kind place (locks_in_all members) made (operate scene world locks label kind operands) (operate scene wide locks label kind operands)
        (operate_same scene world wide (has, refl, refl) locks locks (all_among locks) label kind operands)
        (operate_changes scene world locks label kind operands) (operate_changes scene wide locks label kind operands)

    node_spared : (doing : Doing) (operands : List Operand) → Related (node_step scene wide locks doing kind place members operands) (node_step scene world locks doing kind place members operands)
    node_spared (evaluates label) operands = form_spared label operands
    node_spared gives_truth operands =
        on_operand_spared place operands _ _ (λ a. by_truth_spared place (truth_of world.memory (value_of a.result)) (truth_of more (value_of a.result)) (λ b. done kind (of_value (truth_in kind b)) (locks_in_all members)) (truth_here a) (λ b. made))
    node_spared gives_value operands = on_operand_spared place operands _ _ (λ a. (world_same, refl, made))

  own_spared : (o : Option (List Operand)) (own other : List Operand → Move Run Hole) (inner others : List (Move Run Hole)) → ((operands : List Operand) → Related (own operands) (other operands))
      → Zipped Related inner others → Zipped Related (own_or_inner o own inner) (own_or_inner o other others)
  own_spared (Some operands) own other inner others h k = (h operands, tt)
  own_spared None own other inner others h k = k

  open_spared : (opened : Bool) (xs ys : List (Move Runs Holes)) → Zipped (RunsSpared more world.memory) xs ys → Zipped (RunsSpared more world.memory) (where_open opened xs) (where_open opened ys)
  open_spared true xs ys h = h
  open_spared false xs ys h = tt

  mutual
    pub moves_spared : (run : Run) → LocksMade world.memory (locks_in run) → Zipped Related (moves scene wide locks run) (moves scene world locks run)
    moves_spared (done kind result own) h = tt
    moves_spared (to_do doing kind place members) h =
        own_spared (operands_in (open_parts doing) members) _ _ _ _ (node_spared kind place members h doing)
        (zipped_mapped (RunsSpared more world.memory) Related (lifted (to_do doing kind place) (within doing kind place)) (lifted (to_do doing kind place) (within doing kind place))
        (lifted_spared more world.memory locks_in_all holes_locks locks_in hole_locks (to_do doing kind place) (within doing kind place) (λ later grows t l. l) (λ holes l. l)) _ _ (moves_in_spared members (open_parts doing) h))

    moves_in_spared : (members : Runs) (opens : Open) → LocksMade world.memory (locks_in_all members) → Zipped (RunsSpared more world.memory) (moves_in scene wide locks opens members) (moves_in scene world locks opens members)
    moves_in_spared no_runs opens h = tt
    moves_in_spared (more_runs first rest) opens h =
        let first_made : LocksMade world.memory (locks_in first) = λ lock l. h lock (among_left lock (locks_in first) (locks_in_all rest) l) in
        let rest_made : LocksMade world.memory (locks_in_all rest) = λ lock l. h lock (among_right lock (locks_in first) (locks_in_all rest) l) in
        zipped_append (RunsSpared more world.memory) _ _ _ _
        (open_spared (first_open opens) _ _
        (zipped_mapped Related (RunsSpared more world.memory) (lifted (λ run. more_runs run rest) (λ hole. in_first hole rest)) (lifted (λ run. more_runs run rest) (λ hole. in_first hole rest))
        (lifted_spared more world.memory locks_in hole_locks locks_in_all holes_locks (λ run. more_runs run rest) (λ hole. in_first hole rest)
        (λ later grows t l. locks_made_joined later (locks_in t) (locks_in_all rest) l (locks_made_later world.memory later grows (locks_in_all rest) rest_made))
        (λ hole l. locks_made_joined world.memory (hole_locks hole) (locks_in_all rest) l rest_made)) _ _ (moves_spared first first_made)))
        (zipped_mapped (RunsSpared more world.memory) (RunsSpared more world.memory) (lifted (more_runs first) (in_others first)) (lifted (more_runs first) (in_others first))
        (lifted_spared more world.memory locks_in_all holes_locks locks_in_all holes_locks (more_runs first) (in_others first)
        (λ later grows t l. locks_made_joined later (locks_in first) (locks_in_all t) (locks_made_later world.memory later grows (locks_in first) first_made) l)
        (λ holes l. locks_made_joined world.memory (locks_in first) (holes_locks holes) first_made l)) _ _ (moves_in_spared rest (others_open opens) rest_made))
