use Rattle.std.proofs.Common.{get_or, subst, List, ℕ}
use Rattle.dm_spell.specs.Rows.{rows_of, NoneBegins}
use Rattle.dm_spell.proofs.RowLemmas.{none_before}
use Rattle.dm_spell.proofs.spellings.Spellings.first.Goals as goal

pub returns : goal.returns
returns g c =
    let fields = c.self.inside in
    subst (λ (rows : List (List ℕ)). NoneBegins rows c.args.byte 0 (get_or fields.firsts.now c.args.byte 0)) c.self.view_is
    (none_before fields.firsts.now (rows_of 0 fields.text.now fields.ends.now) c.args.byte c.self.invariant.4)
