use Rattle.dm_pexpr.proofs.TypeNodeLemmas.{bare-made}
use Rattle.dm_pexpr.proofs.reader.Reader.bare_enumerator.Goals as goal

pub returns : goal.returns
returns c = bare-made _ _ _ c.args.name c.args.after c.requires.next c.requires.inside c.in_ok-declare.ensures
