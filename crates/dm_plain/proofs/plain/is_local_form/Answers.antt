-- By the object that is named.
use Rattle.std.proofs.Common.{◌∙◌}
use Rattle.dm_tree.specs.Views.{entries_of}
use Rattle.dm_effect.specs.Scoped.{is_automatic}
use Rattle.dm_plain.proofs.WalkLemmas.{local-Object}
use Rattle.dm_plain.proofs.plain.is_local_form.Goals as goal

pub returns-in-Object : goal.returns-in-Object
returns-in-Object c types =
    c.is_automatic.ensures types ∙ local-Object types c.args.form.now c.in-Object.number (is_automatic (entries_of types c.args.unit.now.declared)) c.in-Object.is
