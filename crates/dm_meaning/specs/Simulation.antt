-- A simulation that gives refinement. Each step of the new machine is met by steps of the old one, none or more, unless the old one can go
-- wrong; where none meet it, a potential falls, and where some do, it rises by a bounded amount for each.
--     IsSimulation new old Relates first rise      what such a relation has to keep
--     simulated      where there is one, the new machine refines the old one
use Rattle.std.specs.Prelude.{◌≡◌, refl, ℕ, zero, suc, ◌≤◌, ◌+◌, ◌*◌, ◌⊎◌, List}
use Rattle.std.proofs.Common.{arith, sym, ◌∙◌, subst, inl, inr}
use Rattle.dm_token.specs.declared.place.Place.{Place}
use Rattle.dm_meaning.specs.declared.cause.Cause.{Cause}
use Rattle.dm_meaning.specs.Machines.{going, exited, undefined, Machine, Goes, RunsTo, Ends, IsWrong, IsUnfinished}
use Rattle.dm_meaning.specs.Refinement.{Refines}

-- from this state the machine can go wrong
abbrev pub GoesWrong : (machine : Machine) → machine.State → Type 0
GoesWrong machine s = (n : ℕ) × (t : machine.State) × Goes machine n s t × (cause : Cause) × (place : Place) × (machine.standing t ≡ undefined cause place)

-- some steps lead from t to a state that is related to s', and they are enough for the change of the potential
abbrev pub Meets : (new old : Machine) → (ℕ → new.State → old.State → Type 0) → ℕ → ℕ → new.State → old.State → Type 0
Meets new old Relates rise w s' t =
    (j : ℕ) × (w' : ℕ) × (t' : old.State) × Goes old j t t' × (w' + 1 ≤ w + (1 + rise) * j) × Relates w' s' t'

-- `Relates w s t`: the old machine may stand at t when the new one stands at s, which may take at most w steps more before the old one
-- has to move.
pub record IsSimulation (new old : Machine) (Relates : ℕ → new.State → old.State → Type 0) (first rise : ℕ) : Type 0 where
  pub begins : (input : List ℕ) (s : new.State) → new.Begins input s → (w : ℕ) × (t : old.State) × (w ≤ first) × old.Begins input t × Relates w s t
  pub steps : (w : ℕ) (s s' : new.State) (t : old.State) → Relates w s t → new.Step s s' → GoesWrong old t ⊎ Meets new old Relates rise w s' t
  pub going_on : (w : ℕ) (s : new.State) (t : old.State) → Relates w s t → new.standing s ≡ going → GoesWrong old t ⊎ (old.standing t ≡ going) × (old.output t ≡ new.output s)
  pub ending : (w : ℕ) (s : new.State) (t : old.State) (status : ℕ) → Relates w s t → new.standing s ≡ exited status
      → GoesWrong old t ⊎ ((j : ℕ) × (t' : old.State) × Goes old j t t' × (old.standing t' ≡ exited status) × (old.output t' ≡ new.output s))
  pub wrong : (w : ℕ) (s : new.State) (t : old.State) (cause : Cause) (place : Place) → Relates w s t → new.standing s ≡ undefined cause place → GoesWrong old t

-- steps one after another
goes_join : (machine : Machine) (i j : ℕ) (s t u : machine.State) → Goes machine i s t → Goes machine j t u → Goes machine (i + j) s u
unfolding Goes
goes_join machine zero j s t u e rest =
    let same : j ≡ zero + j = omega arith in
    subst (λ n. Goes machine n s u) same (subst (λ x. Goes machine j x u) (sym e) rest)
goes_join machine (suc i) j s t u (v, step, more) rest =
    let same : suc (i + j) ≡ suc i + j = omega arith in
    subst (λ n. Goes machine n s u) same (v, step, goes_join machine i j v t u more rest)

-- what can't go wrong can't after more steps
right_later : (machine : Machine) (j : ℕ) (t t' : machine.State) → Goes machine j t t' → ¬ GoesWrong machine t → ¬ GoesWrong machine t'
right_later machine j t t' there fine (n, u, goes, cause, place, w) =
    fine (j + n, u, goes_join machine j n t t' u there goes, cause, place, w)

-- the old machine follows n steps of the new one
pub record Follows (new old : Machine) (Relates : ℕ → new.State → old.State → Type 0) (rise n w : ℕ) (s' : new.State) (t : old.State) : Type 0 where
  pub count : ℕ
  pub left : ℕ
  pub state : old.State
  pub goes : Goes old count t state
  pub enough : n + left ≤ w + (1 + rise) * count
  pub relates : Relates left s' state

module _ (new old : Machine) (Relates : ℕ → new.State → old.State → Type 0) (first rise : ℕ) (simulation : IsSimulation new old Relates first rise) where
  -- a case that can't be is left out
  defined_part : {A : Type 0} (t : old.State) → ¬ GoesWrong old t → GoesWrong old t ⊎ A → A
  defined_part t fine (inl wrong) = absurd (fine wrong)
  defined_part t fine (inr a) = a

  follows_first : (n w : ℕ) (s s' u : new.State) (t : old.State) → Meets new old Relates rise w u t
      → ((w' : ℕ) (t' : old.State) → Relates w' u t' → ¬ GoesWrong old t' → Follows new old Relates rise n w' s' t') → ¬ GoesWrong old t → Follows new old Relates rise (suc n) w s' t
  follows_first n w s s' u t (j, w', t', goes, enough, related) later fine =
      let rest = later w' t' related (right_later old j t t' goes fine) in
      record {
        count = j + rest.count;
        left = rest.left;
        state = rest.state;
        goes = goes_join old j rest.count t t' rest.state goes rest.goes;
        enough = omega (arith, rest.enough, enough);
        relates = rest.relates;
      }

  follows : (n w : ℕ) (s s' : new.State) (t : old.State) → Goes new n s s' → Relates w s t → ¬ GoesWrong old t → Follows new old Relates rise n w s' t
  unfolding Goes
  follows zero w s s' t e related fine = record {
    count = 0;
    left = w;
    state = t;
    goes = refl;
    enough = omega arith;
    relates = subst (λ x. Relates w x t) e related;
  }
  follows (suc n) w s s' t (u, step, more) related fine =
      follows_first n w s s' u t (defined_part t fine (simulation.steps w s u t related step))
      (λ w' t' r f. follows n w' u s' t' more r f) fine

  -- how a run on an input is followed
  pub record Followed (input : List ℕ) (n : ℕ) (s' : new.State) : Type 0 where
    pub start : old.State
    pub begins : old.Begins input start
    pub right : ¬ GoesWrong old start
    pub count : ℕ
    pub left : ℕ
    pub state : old.State
    pub goes : Goes old count start state
    pub enough : n + left ≤ first + (1 + rise) * count
    pub relates : Relates left s' state

  -- no run of the old machine on the input is undefined, so none that begins in this state
  starts_right : (input : List ℕ) → ¬ IsWrong old input → (t : old.State) → old.Begins input t → ¬ GoesWrong old t
  starts_right input fine t begins (n, u, goes, cause, place, w) =
      fine (n, u, record { start = t; begins = begins; goes = goes }, cause, place, w)

  followed : (input : List ℕ) → ¬ IsWrong old input → (n : ℕ) (s' : new.State) → RunsTo new input n s' → Followed input n s'
  followed input fine n s' run =
      let begun = simulation.begins input run.start run.begins in
      let right = starts_right input fine begun.1 begun.3 in
      let rest = follows n begun.0 run.start s' begun.1 run.goes begun.4 right in
      record {
        start = begun.1;
        begins = begun.3;
        right = right;
        count = rest.count;
        left = rest.left;
        state = rest.state;
        goes = rest.goes;
        enough = omega (arith, rest.enough, begun.2);
        relates = rest.relates;
      }

  -- where it is followed to, nothing goes wrong
  still_right : (input : List ℕ) (n : ℕ) (s' : new.State) (f : Followed input n s') → ¬ GoesWrong old f.state
  still_right input n s' f = right_later old f.count f.start f.state f.goes f.right

  unfinished_by : (input : List ℕ) (n : ℕ) (output : List ℕ) (s' : new.State) → (f : Followed input n s') → new.standing s' ≡ going → new.output s' ≡ output → IsUnfinished old input f.count output
  unfinished_by input n output s' f stands written =
      let met = defined_part f.state (still_right input n s' f) (simulation.going_on f.left s' f.state f.relates stands) in
      (f.state, record { start = f.start; begins = f.begins; goes = f.goes }, met.0, met.1 ∙ written)

  ends_by : (input : List ℕ) (n : ℕ) (output : List ℕ) (status : ℕ) (s' : new.State) → (f : Followed input n s') → new.standing s' ≡ exited status → new.output s' ≡ output → Ends old input output status
  ends_by input n output status s' f stands written =
      let met = defined_part f.state (still_right input n s' f) (simulation.ending f.left s' f.state status f.relates stands) in (
        f.count + met.0,
        met.1,
        record { start = f.start; begins = f.begins; goes = goes_join old f.count met.0 f.start f.state met.1 f.goes met.2 },
        met.3,
        met.4 ∙ written,
      )

  -- enough steps of the new machine are met by k of the old one
  long_enough : (k n left count : ℕ) → n + left ≤ first + (1 + rise) * count → first + (1 + rise) * k ≤ n → k ≤ count
  long_enough k n left count enough long = grind arith

  -- Where there is a simulation, the new machine refines the old one.
  pub simulated : Refines new old
  simulated input fine = record {
    defined = λ wrong.
        let f = followed input fine wrong.0 wrong.1 wrong.2 in
        still_right input wrong.0 wrong.1 f (simulation.wrong f.left wrong.1 f.state wrong.3 wrong.4 f.relates wrong.5);
    ends = λ output status e.
        ends_by input e.0 output status e.1 (followed input fine e.0 e.1 e.2) e.3 e.4;
    goes_on = λ k. (
      first + (1 + rise) * k,
      λ n output long u.
          let f = followed input fine n u.0 u.1 in
          (f.count, long_enough k n f.left f.count f.enough long, unfinished_by input n output u.0 f u.2 u.3),
    );
    unfinished = λ n output u.
        let f = followed input fine n u.0 u.1 in
        (f.count, unfinished_by input n output u.0 f u.2 u.3);
  }
