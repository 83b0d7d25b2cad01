use Rattle.std.proofs.Common.{ap, ◌∙◌}
use Rattle.dm_expand.specs.Items.{Item}
use Rattle.dm_expand.specs.Pastes.{Site}
use Rattle.dm_expand.proofs.substitute.place_of.Goals as goal

pub returns : goal.returns
returns c = ap (λ (x : Item). x.pp.place) c.name.view_is ∙ ap (λ (s : Site). s.name.pp.place) c.site.view_is
