use Rattle.std.proofs.Common.{◌≡◌, false, ap, ◌∙◌, sym}
use Rattle.dm_macro.specs.Signs.{is_identifier}
use Rattle.dm_expand.specs.Items.{Item}
use Rattle.dm_expand.specs.HeadViews.{macros_of}
use Rattle.dm_expand.proofs.LawLemmas.{other-no_name}
use Rattle.dm_expand.proofs.head.names_nothing.Goals as goal

pub returns-then-not-is_identifier : goal.returns-then-not-is_identifier
returns-then-not-is_identifier c = λ _.
    let item : Item = c.args.item.now in
    let other : false ≡ is_identifier item.pp = c.if-not-is_identifier.ensures ∙ ap (λ (x : Item). is_identifier x.pp) c.item.view_is in
    other-no_name (macros_of c.args.macros.now) item (sym other)
