-- Steps of trees: a tree that isn't evaluated has one, and a step of a part that may be evaluated is one of the whole.
use Rattle.std.specs.Prelude.{◌≡◌, refl, Bool, true, false, List, [], ◌++◌, map, Option, Some, None, IsTrue}
use Rattle.std.proofs.Common.{inl, sym, subst}
use Rattle.dm_meaning.specs.Among.{IsAmong}
use Rattle.dm_meaning.specs.Values.{At}
use Rattle.dm_meaning.specs.Operations.{Operand, World, Scene}
use Rattle.dm_meaning.specs.Running.{Run, done, to_do, Runs, no_runs, more_runs, locks_in, locks_in_all, Open, first_open, others_open, open_parts, operands_in, first_result, with_first, Hole, here, within, Holes, in_first, in_others, filled_in, all_filled_in, IsOpen, AreOpen, hole_in, holes_in}
use Rattle.dm_meaning.specs.Expressions.{Move, goes, calls, fails, exits, lifted, own_or_inner, where_open, moves, moves_in}
use Rattle.dm_meaning.proofs.AmongLemmas.{among_left, among_right, among-map}

-- a tree that isn't evaluated
abbrev pub IsToDo : Run → Type 0
IsToDo (done kind result locks) = ⊥
IsToDo (to_do doing kind place parts) = Unit {0}

-- some step of a list
abbrev pub HasOne : {X : Type 0} → List X → Type 0
HasOne {X} xs = (x : X) × IsAmong x xs

pub has-map : {X Y : Type 0} (f : X → Y) (xs : List X) → HasOne xs → HasOne (map f xs)
has-map f xs h = (f h.0, among-map f h.0 xs h.1)

has_left : {X : Type 0} (xs ys : List X) → HasOne xs → HasOne (xs ++ ys)
has_left xs ys h = (h.0, among_left h.0 xs ys h.1)

has_right : {X : Type 0} (xs ys : List X) → HasOne ys → HasOne (xs ++ ys)
has_right xs ys h = (h.0, among_right h.0 xs ys h.1)

some_is_none : {A : Type 0} (a : A) → Some a ≡ None → ⊥
some_is_none a e = cc

-- where the first operand counts and the others are evaluated, the first isn't
not_with_first : (operand : Operand) (rest : Option (List Operand)) → with_first operand rest ≡ None → rest ≡ None
not_with_first operand (Some operands) e = absurd (some_is_none _ e)
not_with_first operand None e = refl

own_has : {M : Type 0} (operands : Option (List Operand)) (own : List Operand → M) (inner : List M) → (operands ≡ None → HasOne inner) → HasOne (own_or_inner operands own inner)
own_has (Some operands) own inner h = (own operands, inl refl)
own_has None own inner h = h refl

-- the first operand has a step, or another one has
first_or_rest : {M : Type 0} (opened : Bool) (first : Run) (rest : Option (List Operand)) (xs ys : List M)
    → (IsToDo first → HasOne xs) → (rest ≡ None → HasOne ys) → first_result opened first rest ≡ None → HasOne (where_open opened xs ++ ys)
first_or_rest true (done kind result locks) rest xs ys h k e = has_right xs ys (k (not_with_first _ rest e))
first_or_rest true (to_do doing kind place parts) rest xs ys h k e = has_left xs ys (h tt)
first_or_rest false run rest xs ys h k e = has_right [] ys (k e)

mutual
  -- a tree that isn't evaluated has a step
  pub has_move : (scene : Scene) (world : World) (locks : List At) (run : Run) → IsToDo run → HasOne (moves scene world locks run)
  has_move scene world locks (done kind result own) h = absurd h
  has_move scene world locks (to_do doing kind place parts) h =
      own_has (operands_in (open_parts doing) parts) _ _ (λ e. has-map _ _ (have_move scene world locks (open_parts doing) parts e))

  pub have_move : (scene : Scene) (world : World) (locks : List At) (opens : Open) (parts : Runs) → operands_in opens parts ≡ None → HasOne (moves_in scene world locks opens parts)
  have_move scene world locks opens no_runs e = absurd (some_is_none _ e)
  have_move scene world locks opens (more_runs first rest) e =
      first_or_rest (first_open opens) first (operands_in (others_open opens) rest) _ _
      (λ h. has-map _ _ (has_move scene world locks first h)) (λ h. has-map _ _ (have_move scene world locks (others_open opens) rest h)) e

-- ---- a step of a part is one of the whole

-- a tree with a step isn't evaluated
pub moving_to_do : (scene : Scene) (world : World) (locks : List At) (run : Run) (m : Move Run Hole) → IsAmong m (moves scene world locks run) → IsToDo run
moving_to_do scene world locks (done kind result own) m h = absurd h
moving_to_do scene world locks (to_do doing kind place parts) m h = tt

-- with a part that isn't evaluated, the whole isn't
pub filled_to_do : (hole : Hole) (run : Run) → IsToDo run → IsToDo (filled_in hole run)
filled_to_do here run h = h
filled_to_do (within doing kind place parts) run h = tt

none_with : (operand : Operand) (rest : Option (List Operand)) → rest ≡ None → with_first operand rest ≡ None
none_with operand (Some operands) e = absurd (some_is_none _ e)
none_with operand None e = refl

pub none_first : (opened : Bool) (first : Run) (rest : Option (List Operand)) → IsTrue opened → IsToDo first → first_result opened first rest ≡ None
none_first true (done kind result locks) rest o h = absurd h
none_first true (to_do doing kind place parts) rest o h = refl
none_first false first rest o h = absurd (cc)

pub none_later : (opened : Bool) (first : Run) (rest : Option (List Operand)) → rest ≡ None → first_result opened first rest ≡ None
none_later true (done kind result locks) rest e = none_with _ rest e
none_later true (to_do doing kind place parts) rest e = refl
none_later false first rest e = e

-- a part that may be evaluated and isn't holds the node back
held_back : (opens : Open) (holes : Holes) (run : Run) → AreOpen opens holes → IsToDo run → operands_in opens (all_filled_in holes run) ≡ None
held_back opens (in_first hole rest) run o h = none_first (first_open opens) (filled_in hole run) _ o.0 (filled_to_do hole run h)
held_back opens (in_others first holes) run o h = none_later (first_open opens) first _ (held_back (others_open opens) holes run o h)

-- the steps of a node that is held back are those of its parts
pub inner_steps : {M : Type 0} (operands : Option (List Operand)) (own : List Operand → M) (inner : List M) (m : M) → operands ≡ None → IsAmong m inner → IsAmong m (own_or_inner operands own inner)
inner_steps (Some operands) own inner m e h = absurd (some_is_none _ e)
inner_steps None own inner m e h = h

pub open_steps : {M : Type 0} (opened : Bool) (xs ys : List M) (m : M) → IsTrue opened → IsAmong m xs → IsAmong m (where_open opened xs ++ ys)
open_steps true xs ys m o h = among_left m xs ys h
open_steps false xs ys m o h = absurd (cc)

-- a step of a step
pub lifted_again : {T H U G V F : Type 0} (t : T → U) (h : H → G) (u : U → V) (g : G → F) (m : Move T H) → lifted (λ x. u (t x)) (λ x. g (h x)) m ≡ lifted u g (lifted t h m)
lifted_again t h u g (goes world tree) = refl
lifted_again t h u g (calls f arguments kind hole) = refl
lifted_again t h u g (fails cause place) = refl
lifted_again t h u g (exits status) = refl

lifted_same : {T H : Type 0} (m : Move T H) → lifted (λ x. x) (λ x. x) m ≡ m
lifted_same (goes world tree) = refl
lifted_same (calls f arguments kind hole) = refl
lifted_same (fails cause place) = refl
lifted_same (exits status) = refl

mutual
  -- a step of a part that may be evaluated is one of the whole
  pub move_lifts : (scene : Scene) (world : World) (locks : List At) (hole : Hole) (run : Run) (m : Move Run Hole)
      → IsOpen hole → IsAmong m (moves scene world locks run) → IsAmong (lifted (filled_in hole) (hole_in hole) m) (moves scene world locks (filled_in hole run))
  move_lifts scene world locks here run m o h = subst (λ x. IsAmong x (moves scene world locks run)) (sym (lifted_same m)) h
  move_lifts scene world locks (within doing kind place parts) run m o h =
      inner_steps (operands_in (open_parts doing) (all_filled_in parts run)) _ _ _ (held_back (open_parts doing) parts run o (moving_to_do scene world locks run m h))
      (subst (λ x. IsAmong x (map (lifted (to_do doing kind place) (within doing kind place)) (moves_in scene world locks (open_parts doing) (all_filled_in parts run))))
      (sym (lifted_again (all_filled_in parts) (holes_in parts) (to_do doing kind place) (within doing kind place) m))
      (among-map _ _ _ (moves_lift scene world locks (open_parts doing) parts run m o h)))

  pub moves_lift : (scene : Scene) (world : World) (locks : List At) (opens : Open) (holes : Holes) (run : Run) (m : Move Run Hole)
      → AreOpen opens holes → IsAmong m (moves scene world locks run) → IsAmong (lifted (all_filled_in holes) (holes_in holes) m) (moves_in scene world locks opens (all_filled_in holes run))
  moves_lift scene world locks opens (in_first hole rest) run m o h =
      open_steps (first_open opens) _ _ _ o.0
      (subst (λ x. IsAmong x (map (lifted (λ t. more_runs t rest) (λ g. in_first g rest)) (moves scene world locks (filled_in hole run))))
      (sym (lifted_again (filled_in hole) (hole_in hole) (λ t. more_runs t rest) (λ g. in_first g rest) m))
      (among-map _ _ _ (move_lifts scene world locks hole run m o.1 h)))
  moves_lift scene world locks opens (in_others first holes) run m o h =
      among_right _ (where_open (first_open opens) (map (lifted (λ t. more_runs t (all_filled_in holes run)) (λ g. in_first g (all_filled_in holes run))) (moves scene world locks first))) _
      (subst (λ x. IsAmong x (map (lifted (more_runs first) (in_others first)) (moves_in scene world locks (others_open opens) (all_filled_in holes run))))
      (sym (lifted_again (all_filled_in holes) (holes_in holes) (more_runs first) (in_others first) m))
      (among-map _ _ _ (moves_lift scene world locks (others_open opens) holes run m o h)))

mutual
  -- the locks of a part are among those of the whole
  pub locks_lift : (hole : Hole) (run : Run) (lock : At) → IsAmong lock (locks_in run) → IsAmong lock (locks_in (filled_in hole run))
  locks_lift here run lock h = h
  locks_lift (within doing kind place parts) run lock h = all_locks_lift parts run lock h

  all_locks_lift : (holes : Holes) (run : Run) (lock : At) → IsAmong lock (locks_in run) → IsAmong lock (locks_in_all (all_filled_in holes run))
  all_locks_lift (in_first hole rest) run lock h = among_left lock _ _ (locks_lift hole run lock h)
  all_locks_lift (in_others first holes) run lock h = among_right lock (locks_in first) _ (all_locks_lift holes run lock h)
