-- What meets a step of an operand meets that step of the node, where the other operands still agree.
use Rattle.std.specs.Prelude.{◌≡◌, refl, ◌⊎◌, ℕ, true, false, List, [], ◌∷◌, map, Some}
use Rattle.std.proofs.Common.{ap, sym, subst, inl, inr}
use Rattle.dm_token.specs.declared.place.Place.{Place}
use Rattle.dm_type.specs.CTypes.{CType}
use Rattle.dm_meaning.specs.Among.{IsAmong}
use Rattle.dm_meaning.specs.Values.{At, Value}
use Rattle.dm_meaning.specs.Operations.{of_value, World}
use Rattle.dm_meaning.specs.Running.{Doing, Run, done, to_do, Runs, more_runs, Open, first_open, others_open, open_parts, operands_in, Hole, within, Holes, in_first, in_others, filled_in, all_filled_in, IsOpen, AreOpen}
use Rattle.dm_meaning.specs.Expressions.{Move, goes, calls, fails, exits, lifted, kind_of_run, where_open, moves, moves_in}
use Rattle.dm_meaning.specs.Called.{Called}
use Rattle.dm_meaning.specs.Steps.{lacks_value}
use Rattle.dm_meaning.proofs.AmongLemmas.{among_right, among-map}
use Rattle.dm_meaning.proofs.MoveLemmas.{inner_steps, open_steps}
use Rattle.dm_meaning.proofs.RunLemmas.{redone}
use Rattle.dm_meaning.proofs.MatchLemmas.{may_stand, moving_holds}
use Rattle.dm_rewrite.specs.Computed.{Computed, computed, IsPure}
use Rattle.dm_rewrite.specs.PureSteps.{Meets}
use Rattle.dm_rewrite.specs.Closed.{MemoryAvoids, only_closed, IsClosedIn}
use Rattle.dm_rewrite.specs.Effects.{Effect, on_others, Stage, target_effects, effects_of, call_effects, lock_effects, ChangesOnly, IsNoMore}
use Rattle.dm_rewrite.proofs.EffectLemmas.{writes_keep, move_writes}
use Rattle.dm_rewrite.proofs.ShrinkEffectLemmas.{AllFirst, AllRuns, run_calm}
use Rattle.dm_central.specs.Agreement.{Mode, is_inside, open_effects, beside_first, before_rest, IsReading, RunsAgree}
use Rattle.dm_central.specs.Outcomes.{GivesOne, Entered, AllAgreeBehind, StepAgrees, StepsAgree, Met}
use Rattle.dm_central.proofs.AgreementLemmas.{changes_more}
use Rattle.dm_central.proofs.OperandLemmas.{open_moves_write, first_moved, rest_moved}
use Rattle.dm_central.proofs.CallLemmas.{effect_inside, filled_no_more}
use Rattle.dm_central.proofs.OpenEffectLemmas.{open_moves, open_inside, filled_open}
use Rattle.dm_central.proofs.FactLemmas.{PartAgrees}

pub changes_none : (stage : Stage) (effects : List Effect) (world : World) → ChangesOnly stage effects world world
changes_none stage effects world = record { same_objects = λ name there. refl; same = λ at n e free there. refl }

module _ (change : Called) (stage : Stage) (mode : Mode) (world : World) (locks : List At) where
  -- ---- the same outcomes of operands

  pub record StepsIn (before beside : List Effect) (opens : Open) (others : Runs) (m : Move Runs Holes) : Type 0 where
    pub step : Move Runs Holes
    pub among : IsAmong step (moves_in stage.scene world locks opens others)
    pub agrees : StepsAgree change stage mode world before beside opens m step

  pub record StoodIn (before beside : List Effect) (opens : Open) (others : Runs) (m : Move Runs Holes) : Type 0 where
    pub runs : Runs
    pub is : m ≡ goes world runs
    pub agrees : RunsAgree change stage mode world before beside opens runs others

  pub record EvaluatedIn (before beside : List Effect) (opens : Open) (others : Runs) (m : Move Runs Holes) : Type 0 where
    pub inner : is_inside mode ≡ true
    pub holes : Holes
    pub opened : AreOpen opens holes
    pub tree : Run
    pub pure : IsPure tree
    pub is : others ≡ all_filled_in holes tree
    pub no_name : target_effects stage.scene.objects tree ≡ on_others ∷ []
    pub value : Value
    pub comes : (found : Computed) → computed stage.scene world tree ≡ Some found → found.result ≡ of_value value
    pub runs : Runs
    pub goes_on : m ≡ goes world runs
    pub agrees : RunsAgree change stage mode world before beside opens runs (all_filled_in holes (done (kind_of_run tree) (of_value value) []))

  pub record FailsIn (opens : Open) (others : Runs) : Type 0 where
    pub holes : Holes
    pub opened : AreOpen opens holes
    pub tree : Run
    pub pure : IsPure tree
    pub is : others ≡ all_filled_in holes tree
    pub meets : Meets locks (computed stage.scene world tree)

  pub record EntersIn (before beside : List Effect) (opens : Open) (others : Runs) (m : Move Runs Holes) : Type 0 where
    pub elsewhere : is_inside mode ≡ false
    pub values : List Value
    pub kind : CType
    pub holes : Holes
    pub called : m ≡ calls change.added.function values kind holes
    pub other_holes : Holes
    pub opened : AreOpen opens other_holes
    pub run : Run
    pub is : others ≡ all_filled_in other_holes run
    pub no_name : target_effects stage.scene.objects run ≡ on_others ∷ []
    pub typed : kind_of_run run ≡ kind
    pub gives : GivesOne stage world kind run
    pub entered : Entered change stage world values kind run
    pub agrees : AllAgreeBehind change stage mode world before beside opens (effects_of stage run) kind holes other_holes

  pub record EntersAsideIn (before beside : List Effect) (opens : Open) (others : Runs) (m : Move Runs Holes) : Type 0 where
    pub elsewhere : is_inside mode ≡ false
    pub values : List Value
    pub kind : CType
    pub holes : Holes
    pub called : m ≡ calls change.added.function values kind holes
    pub run : Run
    pub pure : IsPure run
    pub found : Computed
    pub is : computed stage.scene world run ≡ Some found
    pub value : Value
    pub comes : found.result ≡ of_value value
    pub lacks : lacks_value kind value ≡ false
    pub entered : Entered change stage world values kind run
    pub closed : (n : ℕ) → IsAmong n stage.closed → IsClosedIn n stage.scene.objects run
    pub agrees : (later : World) → ChangesOnly stage [] world later → RunsAgree change stage mode later before beside opens (all_filled_in holes (done kind (of_value value) [])) others

  abbrev pub MetIn : List Effect → List Effect → Open → Runs → Move Runs Holes → Type 0
  MetIn before beside opens others m =
      StepsIn before beside opens others m
      ⊎ (StoodIn before beside opens others m
      ⊎ (EvaluatedIn before beside opens others m ⊎ (FailsIn opens others ⊎ (EntersIn before beside opens others m ⊎ EntersAsideIn before beside opens others m))))

  -- a parameter is named, and still to be read
  pub record StillReads (other : Run) (m : Move Run Hole) : Type 0 where
    pub run : Run
    pub is : m ≡ goes world run
    pub reads : IsReading change mode run other

  abbrev pub PartMet : List Effect → Run → Move Run Hole → Type 0
  PartMet beside other m = Met change stage mode world locks beside other m ⊎ StillReads other m

  -- ---- a node, by its operands

  module _ (beside : List Effect) (doing : Doing) (kind : CType) (place at : Place) (stands : may_stand change.old (is_inside mode) doing ≡ true) where
    abbrev new_node : Runs → Run
    new_node parts = to_do (redone change.rename doing) kind place parts

    abbrev new_hole : Holes → Hole
    new_hole holes = within (redone change.rename doing) kind place holes

    abbrev old_node : Runs → Run
    old_node parts = to_do doing kind at parts

    abbrev old_hole : Holes → Hole
    old_hole holes = within doing kind at holes

    node_step_agrees : (x n : Move Runs Holes) → StepsAgree change stage mode world [] beside (open_parts doing) x n → StepAgrees change stage mode world beside (lifted new_node new_hole x) (lifted old_node old_hole n)
    node_step_agrees x (fails cause spot) h = tt
    node_step_agrees (goes after parts) (goes other_after others) h = (h.0, inl (refl, refl, stands, h.1))
    node_step_agrees (goes after parts) (calls g values type holes) h = absurd h
    node_step_agrees (goes after parts) (exits status) h = absurd h
    node_step_agrees (calls f arguments own holes) (goes other_after others) h = absurd h
    node_step_agrees (calls f arguments own holes) (calls g values type other_holes) h =
        (h.0, h.1, h.2, λ later kept value own_locks lacks avoids less. inl (refl, refl, stands, h.3 later kept value own_locks lacks avoids less))
    node_step_agrees (calls f arguments own holes) (exits status) h = absurd h
    node_step_agrees (fails cause spot) (goes other_after others) h = absurd h
    node_step_agrees (fails cause spot) (calls g values type holes) h = absurd h
    node_step_agrees (fails cause spot) (exits status) h = absurd h
    node_step_agrees (exits status) (goes other_after others) h = absurd h
    node_step_agrees (exits status) (calls g values type holes) h = absurd h
    node_step_agrees (exits status) (exits other_status) h = h

    pub node_met : (others : Runs) (x : Move Runs Holes) → MetIn [] beside (open_parts doing) others x → Met change stage mode world locks beside (old_node others) (lifted new_node new_hole x)
    node_met others x (inl s) = inl (record {
      step = lifted old_node old_hole s.step;
      among = inner_steps (operands_in (open_parts doing) others) _ _ _ (moving_holds stage.scene world locks (open_parts doing) others s.step s.among) (among-map _ _ _ s.among);
      agrees = node_step_agrees x s.step s.agrees;
    })
    node_met others x (inr (inl s)) = inr (inl (record { run = new_node s.runs; is = ap (lifted new_node new_hole) s.is; agrees = inl (refl, refl, stands, s.agrees) }))
    node_met others x (inr (inr (inl e))) = inr (inr (inl (record {
      inner = e.inner;
      hole = old_hole e.holes;
      opened = e.opened;
      tree = e.tree;
      pure = e.pure;
      is = ap old_node e.is;
      no_name = e.no_name;
      value = e.value;
      comes = e.comes;
      run = new_node e.runs;
      goes_on = ap (lifted new_node new_hole) e.goes_on;
      agrees = inl (refl, refl, stands, e.agrees);
    })))
    node_met others x (inr (inr (inr (inl f)))) = inr (inr (inr (inl (record { hole = old_hole f.holes; opened = f.opened; tree = f.tree; pure = f.pure; is = ap old_node f.is; meets = f.meets }))))
    node_met others x (inr (inr (inr (inr (inl e))))) = inr (inr (inr (inr (inl (record {
      elsewhere = e.elsewhere;
      values = e.values;
      kind = e.kind;
      hole = new_hole e.holes;
      called = ap (lifted new_node new_hole) e.called;
      other_hole = old_hole e.other_holes;
      opened = e.opened;
      run = e.run;
      is = ap old_node e.is;
      no_name = e.no_name;
      typed = e.typed;
      gives = e.gives;
      entered = e.entered;
      agrees = λ later kept value own_locks lacks avoids less. inl (refl, refl, stands, e.agrees later kept value own_locks lacks avoids less);
    })))))
    node_met others x (inr (inr (inr (inr (inr e))))) = inr (inr (inr (inr (inr (record {
      elsewhere = e.elsewhere;
      values = e.values;
      kind = e.kind;
      hole = new_hole e.holes;
      called = ap (lifted new_node new_hole) e.called;
      run = e.run;
      pure = e.pure;
      found = e.found;
      is = e.is;
      value = e.value;
      comes = e.comes;
      lacks = e.lacks;
      entered = e.entered;
      closed = e.closed;
      agrees = λ later kept. inl (refl, refl, stands, e.agrees later kept);
    })))))

  module _ (avoid : (n : ℕ) → IsAmong n stage.closed → MemoryAvoids n world.memory) (before beside : List Effect) (opens : Open) (first : Run) (rest : Runs) (other : Run) (others : Runs)
      (agree : RunsAgree change stage mode world before beside opens (more_runs first rest) (more_runs other others)) where
    -- ---- the first operand

    module _ (o : first_open opens ≡ true) (shut : AllFirst stage world locks other) where
      abbrev around : List Effect
      around = beside_first stage opens before beside others

      moved : (later : World) (first_later other_later : Run) → ChangesOnly stage (effects_of stage other) world later → IsNoMore stage (effects_of stage other) (effects_of stage other_later)
          → PartAgrees change stage mode later around first_later other_later → RunsAgree change stage mode later before beside opens (more_runs first_later rest) (more_runs other_later others)
      moved later first_later other_later k less now = first_moved change stage mode world later before beside opens first rest other others first_later other_later o agree k less now

      first_steps : (x n : Move Run Hole) → IsAmong n (moves stage.scene world locks other) → StepAgrees change stage mode world around x n
          → StepsAgree change stage mode world before beside opens (lifted (λ run. more_runs run rest) (λ hole. in_first hole rest) x) (lifted (λ run. more_runs run others) (λ hole. in_first hole others) n)
      first_steps x (fails cause spot) k h = tt
      first_steps (goes after run) (goes other_after later) k h = (
        h.0,
        moved after run later
            (subst (λ w. ChangesOnly stage (effects_of stage other) world w) (sym h.0) (writes_keep stage (effects_of stage other) world other_after (move_writes stage world locks other (goes other_after later) k)))
            (run_calm stage world locks avoid other shut (goes other_after later) k) (inl h.1),
      )
      first_steps (goes after run) (calls g values type hole) k h = absurd h
      first_steps (goes after run) (exits status) k h = absurd h
      first_steps (calls f arguments own hole) (goes other_after later) k h = absurd h
      first_steps (calls f arguments own hole) (calls g values type other_hole) k h =
          let calm = run_calm stage world locks avoid other shut (calls g values type other_hole) k in (
            h.0,
            h.1,
            h.2,
            λ later kept value own_locks lacks avoids less.
                moved later (filled_in hole (done own (of_value value) [])) (filled_in other_hole (done own (of_value value) own_locks))
                (changes_more stage (call_effects stage.quiet (Some g)) (effects_of stage other) world later calm.0 kept)
                (subst (λ t. IsNoMore stage (effects_of stage other) (effects_of stage (filled_in other_hole (done t (of_value value) own_locks)))) (sym h.2) (calm.1 value own_locks less))
                (inl (h.3 later kept value own_locks lacks avoids less)),
          )
      first_steps (calls f arguments own hole) (exits status) k h = absurd h
      first_steps (fails cause spot) (goes other_after later) k h = absurd h
      first_steps (fails cause spot) (calls g values type hole) k h = absurd h
      first_steps (fails cause spot) (exits status) k h = absurd h
      first_steps (exits status) (goes other_after later) k h = absurd h
      first_steps (exits status) (calls g values type hole) k h = absurd h
      first_steps (exits status) (exits other_status) k h = h

      abbrev up : Move Run Hole → Move Runs Holes
      up x = lifted (λ run. more_runs run rest) (λ hole. in_first hole rest) x

      same : IsNoMore stage (effects_of stage other) (effects_of stage other)
      same n free = free

      -- a value in the place of a part of it
      part_no_more : (hole : Hole) → IsOpen hole → (run : Run) → other ≡ filled_in hole run → target_effects stage.scene.objects run ≡ on_others ∷ [] → (kind : CType) (value : Value) (own_locks : List At)
          → IsNoMore stage (effects_of stage run) (lock_effects own_locks) → IsNoMore stage (effects_of stage other) (effects_of stage (filled_in hole (done kind (of_value value) own_locks)))
      part_no_more hole opened run e no_name kind value own_locks less =
          subst (λ r. IsNoMore stage (effects_of stage r) (effects_of stage (filled_in hole (done kind (of_value value) own_locks)))) (sym e) (filled_no_more stage run kind value own_locks no_name less hole opened)

      part_within : (hole : Hole) (run : Run) → other ≡ filled_in hole run → (effect : Effect) → IsAmong effect (effects_of stage run) → IsAmong effect (effects_of stage other)
      part_within hole run e effect l = subst (λ r. IsAmong effect (effects_of stage r)) (sym e) (effect_inside stage hole run effect l)

      pub first_met : (x : Move Run Hole) → PartMet around other x → MetIn before beside opens (more_runs other others) (lifted (λ run. more_runs run rest) (λ hole. in_first hole rest) x)
      first_met x (inl (inl s)) = inl (record {
        step = lifted (λ run. more_runs run others) (λ hole. in_first hole others) s.step;
        among = open_steps (first_open opens) _ _ _ o (among-map _ _ _ s.among);
        agrees = first_steps x s.step s.among s.agrees;
      })
      first_met x (inl (inr (inl s))) =
          inr (inl (record { runs = more_runs s.run rest; is = ap up s.is; agrees = moved world s.run other (changes_none stage (effects_of stage other) world) same (inl s.agrees) }))
      first_met x (inl (inr (inr (inl e)))) = inr (inr (inl (record {
        inner = e.inner;
        holes = in_first e.hole others;
        opened = (o, e.opened);
        tree = e.tree;
        pure = e.pure;
        is = ap (λ r. more_runs r others) e.is;
        no_name = e.no_name;
        value = e.value;
        comes = e.comes;
        runs = more_runs e.run rest;
        goes_on = ap up e.goes_on;
        agrees =
            moved world e.run (filled_in e.hole (done (kind_of_run e.tree) (of_value e.value) [])) (changes_none stage (effects_of stage other) world)
            (part_no_more e.hole e.opened e.tree e.is e.no_name (kind_of_run e.tree) e.value [] (λ n free effect l. absurd l)) (inl e.agrees);
      })))
      first_met x (inl (inr (inr (inr (inl f))))) =
          inr (inr (inr (inl (record { holes = in_first f.hole others; opened = (o, f.opened); tree = f.tree; pure = f.pure; is = ap (λ r. more_runs r others) f.is; meets = f.meets }))))
      first_met x (inl (inr (inr (inr (inr (inl e)))))) = inr (inr (inr (inr (inl (record {
        elsewhere = e.elsewhere;
        values = e.values;
        kind = e.kind;
        holes = in_first e.hole rest;
        called = ap up e.called;
        other_holes = in_first e.other_hole others;
        opened = (o, e.opened);
        run = e.run;
        is = ap (λ r. more_runs r others) e.is;
        no_name = e.no_name;
        typed = e.typed;
        gives = e.gives;
        entered = e.entered;
        agrees = λ later kept value own_locks lacks avoids less.
            moved later (filled_in e.hole (done e.kind (of_value value) [])) (filled_in e.other_hole (done e.kind (of_value value) own_locks))
            (changes_more stage (effects_of stage e.run) (effects_of stage other) world later (part_within e.other_hole e.run e.is) kept)
            (part_no_more e.other_hole e.opened e.run e.is e.no_name e.kind value own_locks less) (inl (e.agrees later kept value own_locks lacks avoids less));
      })))))
      first_met x (inl (inr (inr (inr (inr (inr e)))))) = inr (inr (inr (inr (inr (record {
        elsewhere = e.elsewhere;
        values = e.values;
        kind = e.kind;
        holes = in_first e.hole rest;
        called = ap up e.called;
        run = e.run;
        pure = e.pure;
        found = e.found;
        is = e.is;
        value = e.value;
        comes = e.comes;
        lacks = e.lacks;
        entered = e.entered;
        closed = e.closed;
        agrees = λ later kept.
            moved later (filled_in e.hole (done e.kind (of_value e.value) [])) other (changes_more stage [] (effects_of stage other) world later (λ effect l. absurd l) kept) same (inl (e.agrees later kept));
      })))))
      first_met x (inr s) = inr (inl (record { runs = more_runs s.run rest; is = ap up s.is; agrees = moved world s.run other (changes_none stage (effects_of stage other) world) same (inr s.reads) }))

    -- ---- another operand

    module _ (shut : AllRuns stage world locks only_closed others) where
      abbrev old_effects : List Effect
      old_effects = open_effects stage (others_open opens) others

      moved_rest : (later : World) (rest_later others_later : Runs) → ChangesOnly stage (open_effects stage (others_open opens) others) world later
          → IsNoMore stage (open_effects stage (others_open opens) others) (open_effects stage (others_open opens) others_later)
          → RunsAgree change stage mode later (before_rest stage opens before other) beside (others_open opens) rest_later others_later
          → RunsAgree change stage mode later before beside opens (more_runs first rest_later) (more_runs other others_later)
      moved_rest later rest_later others_later k less now = rest_moved change stage mode world later before beside opens first rest other others rest_later others_later agree k less now

      rest_steps : (x n : Move Runs Holes) → IsAmong n (moves_in stage.scene world locks (others_open opens) others)
          → StepsAgree change stage mode world (before_rest stage opens before other) beside (others_open opens) x n
          → StepsAgree change stage mode world before beside opens (lifted (more_runs first) (in_others first) x) (lifted (more_runs other) (in_others other) n)
      rest_steps x (fails cause spot) k h = tt
      rest_steps (goes after runs) (goes other_after later) k h = (
        h.0,
        moved_rest after runs later
            (subst (λ w. ChangesOnly stage old_effects world w) (sym h.0) (writes_keep stage old_effects world other_after (open_moves_write stage world locks (others_open opens) others (goes other_after later) k)))
            (open_moves stage world locks avoid only_closed (others_open opens) (λ e. absurd (cc)) others shut (goes other_after later) k) h.1,
      )
      rest_steps (goes after runs) (calls g values type holes) k h = absurd h
      rest_steps (goes after runs) (exits status) k h = absurd h
      rest_steps (calls f arguments own holes) (goes other_after later) k h = absurd h
      rest_steps (calls f arguments own holes) (calls g values type other_holes) k h =
          let calm = open_moves stage world locks avoid only_closed (others_open opens) (λ e. absurd (cc)) others shut (calls g values type other_holes) k in (
            h.0,
            h.1,
            h.2,
            λ later kept value own_locks lacks avoids less.
                moved_rest later (all_filled_in holes (done own (of_value value) [])) (all_filled_in other_holes (done own (of_value value) own_locks))
                (changes_more stage (call_effects stage.quiet (Some g)) old_effects world later calm.0 kept)
                (subst (λ t. IsNoMore stage old_effects (open_effects stage (others_open opens) (all_filled_in other_holes (done t (of_value value) own_locks)))) (sym h.2) (calm.1 value own_locks less))
                (h.3 later kept value own_locks lacks avoids less),
          )
      rest_steps (calls f arguments own holes) (exits status) k h = absurd h
      rest_steps (fails cause spot) (goes other_after later) k h = absurd h
      rest_steps (fails cause spot) (calls g values type holes) k h = absurd h
      rest_steps (fails cause spot) (exits status) k h = absurd h
      rest_steps (exits status) (goes other_after later) k h = absurd h
      rest_steps (exits status) (calls g values type holes) k h = absurd h
      rest_steps (exits status) (exits other_status) k h = h

      abbrev up_rest : Move Runs Holes → Move Runs Holes
      up_rest x = lifted (more_runs first) (in_others first) x

      same_rest : IsNoMore stage old_effects old_effects
      same_rest n free = free

      rest_no_more : (holes : Holes) → AreOpen (others_open opens) holes → (run : Run) → others ≡ all_filled_in holes run → target_effects stage.scene.objects run ≡ on_others ∷ [] → (kind : CType) (value : Value)
          (own_locks : List At) → IsNoMore stage (effects_of stage run) (lock_effects own_locks) → IsNoMore stage old_effects (open_effects stage (others_open opens) (all_filled_in holes (done kind (of_value value) own_locks)))
      rest_no_more holes opened run e no_name kind value own_locks less =
          subst (λ rs. IsNoMore stage (open_effects stage (others_open opens) rs) (open_effects stage (others_open opens) (all_filled_in holes (done kind (of_value value) own_locks)))) (sym e)
          (filled_open stage world locks run kind value own_locks no_name less (others_open opens) holes opened)

      rest_within : (holes : Holes) → AreOpen (others_open opens) holes → (run : Run) → others ≡ all_filled_in holes run → (effect : Effect) → IsAmong effect (effects_of stage run) → IsAmong effect old_effects
      rest_within holes opened run e effect l =
          subst (λ rs. IsAmong effect (open_effects stage (others_open opens) rs)) (sym e) (open_inside stage world locks (others_open opens) holes opened run effect l)

      pub rest_met : (x : Move Runs Holes) → MetIn (before_rest stage opens before other) beside (others_open opens) others x
          → MetIn before beside opens (more_runs other others) (lifted (more_runs first) (in_others first) x)
      rest_met x (inl s) = inl (record {
        step = lifted (more_runs other) (in_others other) s.step;
        among = among_right _ (where_open (first_open opens) (map (lifted (λ run. more_runs run others) (λ hole. in_first hole others)) (moves stage.scene world locks other))) _ (among-map _ _ _ s.among);
        agrees = rest_steps x s.step s.among s.agrees;
      })
      rest_met x (inr (inl s)) =
          inr (inl (record { runs = more_runs first s.runs; is = ap up_rest s.is; agrees = moved_rest world s.runs others (changes_none stage old_effects world) same_rest s.agrees }))
      rest_met x (inr (inr (inl e))) = inr (inr (inl (record {
        inner = e.inner;
        holes = in_others other e.holes;
        opened = e.opened;
        tree = e.tree;
        pure = e.pure;
        is = ap (more_runs other) e.is;
        no_name = e.no_name;
        value = e.value;
        comes = e.comes;
        runs = more_runs first e.runs;
        goes_on = ap up_rest e.goes_on;
        agrees =
            moved_rest world e.runs (all_filled_in e.holes (done (kind_of_run e.tree) (of_value e.value) [])) (changes_none stage old_effects world)
            (rest_no_more e.holes e.opened e.tree e.is e.no_name (kind_of_run e.tree) e.value [] (λ n free effect l. absurd l)) e.agrees;
      })))
      rest_met x (inr (inr (inr (inl f)))) =
          inr (inr (inr (inl (record { holes = in_others other f.holes; opened = f.opened; tree = f.tree; pure = f.pure; is = ap (more_runs other) f.is; meets = f.meets }))))
      rest_met x (inr (inr (inr (inr (inl e))))) = inr (inr (inr (inr (inl (record {
        elsewhere = e.elsewhere;
        values = e.values;
        kind = e.kind;
        holes = in_others first e.holes;
        called = ap up_rest e.called;
        other_holes = in_others other e.other_holes;
        opened = e.opened;
        run = e.run;
        is = ap (more_runs other) e.is;
        no_name = e.no_name;
        typed = e.typed;
        gives = e.gives;
        entered = e.entered;
        agrees = λ later kept value own_locks lacks avoids less.
            moved_rest later (all_filled_in e.holes (done e.kind (of_value value) [])) (all_filled_in e.other_holes (done e.kind (of_value value) own_locks))
            (changes_more stage (effects_of stage e.run) old_effects world later (rest_within e.other_holes e.opened e.run e.is) kept)
            (rest_no_more e.other_holes e.opened e.run e.is e.no_name e.kind value own_locks less) (e.agrees later kept value own_locks lacks avoids less);
      })))))
      rest_met x (inr (inr (inr (inr (inr e))))) = inr (inr (inr (inr (inr (record {
        elsewhere = e.elsewhere;
        values = e.values;
        kind = e.kind;
        holes = in_others first e.holes;
        called = ap up_rest e.called;
        run = e.run;
        pure = e.pure;
        found = e.found;
        is = e.is;
        value = e.value;
        comes = e.comes;
        lacks = e.lacks;
        entered = e.entered;
        closed = e.closed;
        agrees = λ later kept.
            moved_rest later (all_filled_in e.holes (done e.kind (of_value e.value) [])) others (changes_more stage [] old_effects world later (λ effect l. absurd l) kept) same_rest (e.agrees later kept);
      })))))
