-- Zeros stand behind the parts that are given.
use Rattle.std.proofs.Common.{ap, ◌∙◌}
use Rattle.dm_layout.specs.Kinds.{type_of_object}
use Rattle.dm_layout.specs.LaidOut.{laid_out}
use Rattle.dm_meaning.specs.Objects.{all_zero}
use Rattle.dm_meaning.specs.Values as values
use Rattle.dm_first_value.proofs.ListedLemmas.{behind-seen}
use Rattle.dm_first_value.proofs.listed.followed_by_zeros.Goals as goal

pub returns : goal.returns
returns c =
    let seen = values.parts_in (all_zero (laid_out c.args.layout.now) (type_of_object c.args.layout.now c.args.kind.now)) in
    c.in_ok-value.ensures ∙ ap (λ all. values.parts (values.values all))
    (behind-seen c.args.count c.args.given.items c.all_parts.result.now c.behind.result.now c.append.new.all.items seen c.behind.ensures c.in_ok-append.ensures
    (c.all_parts.ensures ∙ ap values.parts_in c.in_ok-zero.ensures))
