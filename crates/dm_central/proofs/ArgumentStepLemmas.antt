-- A step of the old arguments of a call that isn't evaluated yet is one of an argument that stands in the old program, or one aside; or an
-- untouched argument comes to nothing now, or reads what is locked.
use Rattle.std.specs.Prelude.{◌≡◌, refl, ◌⊎◌, suc, List, [], ◌∷◌, map, Some, None}
use Rattle.std.proofs.Common.{ap, sym, ◌∙◌, subst, inl, inr}
use Rattle.dm_tree.specs.Trees.{Tree}
use Rattle.dm_meaning.specs.Among.{IsAmong}
use Rattle.dm_meaning.specs.Values.{At}
use Rattle.dm_meaning.specs.Operations.{World}
use Rattle.dm_meaning.specs.Running.{Run, Runs, no_runs, more_runs, begun, every, Hole, here, Holes, in_first, in_others, all_filled_in, holes_in}
use Rattle.dm_meaning.specs.Expressions.{Move, goes, calls, fails, exits, lifted, moves, moves_in}
use Rattle.dm_meaning.proofs.AmongLemmas.{among_either, among-map_from}
use Rattle.dm_rewrite.specs.Computed.{computed}
use Rattle.dm_rewrite.specs.Aside.{Claims, AsideFits}
use Rattle.dm_rewrite.specs.PureSteps.{Meets}
use Rattle.dm_rewrite.specs.Effects.{Effect, Stage}
use Rattle.dm_rewrite.proofs.AsideLemmas.{aside_step}
use Rattle.dm_central.specs.Arguments.{Way, at_once, untouched, IsFollowed, AllFollowed, runs_at}
use Rattle.dm_central.specs.ArgumentSteps.{IsAtOnce, ArgumentStep}
use Rattle.dm_central.proofs.StandingLemmas.{step_no_more}

module _ (stage : Stage) (world : World) (locks : List At) (beside : List Effect) where
  aside_first : (tree : Tree) (ways : List Way) (aside : Run) (rest : Runs) → IsFollowed stage world beside tree aside → AllFollowed stage world beside ways rest
      → (x : Move Run Hole) → IsAmong x (moves stage.scene world locks aside) → AsideFits stage.scene world locks (begun tree) x
      → ArgumentStep stage world locks beside (untouched tree ∷ ways) (more_runs aside rest) (lifted (λ run. more_runs run rest) (λ hole. in_first hole rest) x)
  aside_first tree ways aside rest h others (goes after later) k f = by_claims f.3
    where
      by_claims : Claims stage.scene world (begun tree) later ⊎ Meets locks (computed stage.scene world (begun tree))
          → ArgumentStep stage world locks beside (untouched tree ∷ ways) (more_runs aside rest) (goes after (more_runs later rest))
      by_claims (inl claims) = inr (inl (record {
        later = more_runs later rest;
        is = ap (λ w. goes w (more_runs later rest)) f.0;
        followed = (record { pure = h.pure; pure_aside = f.1; typed = f.2; apart = h.apart; follows = inr claims; parts = λ part stands. h.parts part (step_no_more stage.scene world locks aside later after k part stands) }, others);
        same = refl;
        count = refl;
      }))
      by_claims (inr meets) = inr (inr (record { tree = tree; among = inl refl; meets = meets }))
  aside_first tree ways aside rest h others (calls f arguments kind hole) k g = absurd g
  aside_first tree ways aside rest h others (fails cause place) k g = inr (inr (record { tree = tree; among = inl refl; meets = g }))
  aside_first tree ways aside rest h others (exits status) k g = absurd g

  runs_after : (way : Way) (ways : List Way) (first : Run) (later rest : Runs) → runs_at ways later ≡ runs_at ways rest → runs_at (way ∷ ways) (more_runs first later) ≡ runs_at (way ∷ ways) (more_runs first rest)
  runs_after at_once ways first later rest e = ap (λ rs. Some first ∷ rs) e
  runs_after (untouched tree) ways first later rest e = ap (λ rs. None ∷ rs) e

  followed_after : (way : Way) (ways : List Way) (first : Run) (later rest : Runs) → AllFollowed stage world beside (way ∷ ways) (more_runs first rest) → AllFollowed stage world beside ways later → AllFollowed stage world beside (way ∷ ways) (more_runs first later)
  followed_after at_once ways first later rest h k = k
  followed_after (untouched tree) ways first later rest h k = (h.0, k)

  followed_rest : (way : Way) (ways : List Way) (first : Run) (rest : Runs) → AllFollowed stage world beside (way ∷ ways) (more_runs first rest) → AllFollowed stage world beside ways rest
  followed_rest at_once ways first rest h = h
  followed_rest (untouched tree) ways first rest h = h.1

  in_rest : (way : Way) (ways : List Way) (first : Run) (rest : Runs) → AllFollowed stage world beside (way ∷ ways) (more_runs first rest) → (x : Move Runs Holes) → ArgumentStep stage world locks beside ways rest x
      → ArgumentStep stage world locks beside (way ∷ ways) (more_runs first rest) (lifted (more_runs first) (in_others first) x)
  in_rest way ways first rest h x (inl s) = inl (record {
    holes = in_others first s.holes;
    run = s.run;
    step = s.step;
    is = ap (more_runs first) s.is;
    among = s.among;
    same = ap (lifted (more_runs first) (in_others first)) s.same ∙ lifted_twice s.step;
    position = later_position way s.position;
    opened = s.opened;
  })
    where
      later_position : (w : Way) → IsAtOnce ways s.holes → IsAtOnce (w ∷ ways) (in_others first s.holes)
      later_position at_once k = k
      later_position (untouched tree) k = k

      lifted_twice : (y : Move Run Hole) → lifted (more_runs first) (in_others first) (lifted (all_filled_in s.holes) (holes_in s.holes) y) ≡ lifted (all_filled_in (in_others first s.holes)) (holes_in (in_others first s.holes)) y
      lifted_twice (goes after run) = refl
      lifted_twice (calls f arguments kind hole) = refl
      lifted_twice (fails cause place) = refl
      lifted_twice (exits status) = refl
  in_rest way ways first rest h x (inr (inl s)) = inr (inl (record {
    later = more_runs first s.later;
    is = ap (lifted (more_runs first) (in_others first)) s.is;
    followed = followed_after way ways first s.later rest h s.followed;
    same = runs_after way ways first s.later rest s.same;
    count = ap suc s.count;
  }))
  in_rest way ways first rest h x (inr (inr s)) = inr (inr (record { tree = s.tree; among = inr s.among; meets = s.meets }))

  pub argument_step : (ways : List Way) (inner : Runs) → AllFollowed stage world beside ways inner → (m : Move Runs Holes) → IsAmong m (moves_in stage.scene world locks every inner) → ArgumentStep stage world locks beside ways inner m
  argument_step ways no_runs h m k = absurd k
  argument_step [] (more_runs first rest) h m k = absurd h
  argument_step (way ∷ ways) (more_runs first rest) h m k =
      by_either way h (among_either m _ _ k) (argument_step ways rest (followed_rest way ways first rest h))
    where
      by_either : (w : Way) → AllFollowed stage world beside (w ∷ ways) (more_runs first rest)
          → IsAmong m (map (lifted (λ run. more_runs run rest) (λ hole. in_first hole rest)) (moves stage.scene world locks first)) ⊎ IsAmong m (map (lifted (more_runs first) (in_others first)) (moves_in stage.scene world locks every rest))
          → ((x : Move Runs Holes) → IsAmong x (moves_in stage.scene world locks every rest) → ArgumentStep stage world locks beside ways rest x) → ArgumentStep stage world locks beside (w ∷ ways) (more_runs first rest) m
      by_either at_once f (inl l) later =
          let from = among-map_from (lifted (λ run. more_runs run rest) (λ hole. in_first hole rest)) m _ l in
          inl (record { holes = in_first here rest; run = first; step = from.0; is = refl; among = from.1; same = from.2 ∙ first_twice from.0; position = tt; opened = (refl, tt) })
        where
          first_twice : (y : Move Run Hole) → lifted (λ run. more_runs run rest) (λ hole. in_first hole rest) y ≡ lifted (all_filled_in (in_first here rest)) (holes_in (in_first here rest)) y
          first_twice (goes after run) = refl
          first_twice (calls g arguments kind hole) = refl
          first_twice (fails cause place) = refl
          first_twice (exits status) = refl
      by_either (untouched tree) f (inl l) later =
          let from = among-map_from (lifted (λ run. more_runs run rest) (λ hole. in_first hole rest)) m _ l in
          subst (ArgumentStep stage world locks beside (untouched tree ∷ ways) (more_runs first rest)) (sym from.2)
          (aside_first tree ways first rest f.0 f.1 from.0 from.1 (aside_step stage.scene world locks (begun tree) first f.0.pure f.0.pure_aside f.0.typed f.0.follows from.0 from.1))
      by_either w f (inr l) later =
          let from = among-map_from (lifted (more_runs first) (in_others first)) m _ l in
          subst (ArgumentStep stage world locks beside (w ∷ ways) (more_runs first rest)) (sym from.2) (in_rest w ways first rest f from.0 (later from.0 from.1))
