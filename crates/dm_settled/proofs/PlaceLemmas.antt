-- Each part of an expression stands where the whole does, if all its nodes stand at one place.
use Rattle.std.specs.Prelude.{◌≡◌}
use Rattle.std.proofs.Common.{ap, sym, ◌∙◌, inl, inr}
use Rattle.dm_token.specs.declared.place.Place.{Place}
use Rattle.dm_tree.specs.Trees.{Spans, Tree, Trees, node, no_trees, more_trees, spans_of}
use Rattle.dm_meaning.specs.Running.{Run, done, to_do, begun, all_begun, Open, others_open}
use Rattle.dm_central.specs.Standing.{standing_of, StandsIn, StandsAmong}
use Rattle.dm_spans.specs.MovedPrograms.{StandAt, AllStandAt}

-- where a node under evaluation stands
abbrev place_in : Place → Run → Place
place_in other (done kind result locks) = other
place_in other (to_do doing kind place parts) = place

mutual
  pub part_stands : (at : Spans) (tree other : Tree) → StandAt at other → StandsIn (begun tree) (begun other) → (spans_of tree).place ≡ at.place
  part_stands at (node label kind spans parts) (node other other_kind other_spans others) stand (inl e) = sym (ap (place_in at.place) e) ∙ ap (λ (s : Spans). s.place) stand.0
  part_stands at tree (node other other_kind other_spans others) stand (inr among) = part_stands_among at tree (standing_of other) others stand.1 among

  part_stands_among : (at : Spans) (tree : Tree) (opens : Open) (trees : Trees) → AllStandAt at trees → StandsAmong (begun tree) opens (all_begun trees) → (spans_of tree).place ≡ at.place
  part_stands_among at tree opens no_trees stand among = absurd among
  part_stands_among at tree opens (more_trees first rest) stand (inl one) = part_stands at tree first stand.0 one.1
  part_stands_among at tree opens (more_trees first rest) stand (inr among) = part_stands_among at tree (others_open opens) rest stand.1 among
