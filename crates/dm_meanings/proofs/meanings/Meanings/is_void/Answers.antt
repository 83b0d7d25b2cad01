-- The type is that of the value there.
use Rattle.std.proofs.Common.{false, ap, ◌∙◌}
use Rattle.std.specs.Option.{option_map_or}
use Rattle.dm_tree.specs.Scenes.{is_void}
use Rattle.dm_meanings.proofs.meanings.Meanings.is_void.Goals as goal

pub returns-in-None : goal.returns-in-None
returns-in-None c = ap (λ kind. option_map_or is_void kind false) c.in-None.ensures.kind

pub returns-in-Some : goal.returns-in-Some
returns-in-Some c = c.is_void.ensures ∙ ap (λ kind. option_map_or is_void kind false) c.in-Some.ensures.kind
