-- A number within the list is that of a tree in it, and a greater one counts behind it.
use Rattle.std.proofs.Common.{map, ap, refl, ◌∙◌, option_map}
use Rattle.std.proofs.lemmas.Option.{slice_get-map, slice_get_read, slice_get_past}
use Rattle.dm_tree.specs.Views.{view}
use Rattle.dm_effect.proofs.PartLemmas.{found-here, found-behind}
use Rattle.dm_effect.proofs.parts.in_items.Goals as goal

pub returns-in-Some : goal.returns-in-Some
returns-in-Some c types rest =
    found-here (map (view types) c.args.items.now) rest c.args.number (view types c.in-Some.core.now)
    (slice_get-map (view types) c.args.items.now c.args.number
    ∙ ap (option_map (view types)) (slice_get_read c.args.items.now _ c.args.number c.in-Some.core.now refl c.in-Some.ensures.lookup.3.0 c.in-Some.ensures.lookup.1))

pub returns-in-None : goal.returns-in-None
returns-in-None c types rest =
    found-behind types c.args.items.now rest c.args.number (slice_get_past c.args.items.now c.args.number c.in-None.ensures.lookup.3)
