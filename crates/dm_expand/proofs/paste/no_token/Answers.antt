use Rattle.std.proofs.Common.{ap, ◌∙◌}
use Rattle.dm_token.specs.Refusals as refusals
use Rattle.dm_macro.specs.Forms.{refused}
use Rattle.dm_expand.specs.Items.{Item}
use Rattle.dm_expand.specs.Pastes.{Site, no_token}
use Rattle.dm_expand.proofs.paste.no_token.Goals as goal

pub returns : goal.returns
unfolding no_token
returns c = ap (λ (x : Item). refused refusals.paste x.pp.place) c.name.view_is ∙ ap (λ (s : Site). no_token s) c.site.view_is
