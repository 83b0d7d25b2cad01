-- The first parts stay, and the others are 0.
use Rattle.std.proofs.Common.{◌++◌, drop, ap, ◌∙◌}
use Rattle.dm_layout.specs.Kinds.{type_of_object}
use Rattle.dm_layout.specs.LaidOut.{laid_out}
use Rattle.dm_meaning.specs.Objects.{all_zero}
use Rattle.dm_meaning.specs.Values as values
use Rattle.dm_value.specs.Views.{view_of_value}
use Rattle.dm_first_value.proofs.ListedLemmas.{front-seen}
use Rattle.dm_first_value.proofs.listed.listed_value.Goals as goal

pub returns : goal.returns
returns c =
    let zeros = drop c.args.count (values.parts_in (all_zero (laid_out c.args.layout.now) (type_of_object c.args.layout.now c.args.kind.now))) in
    let seen = values.parts_in (view_of_value c.args.before.now) in
    c.in_ok-value.ensures ∙ ap (λ given. values.parts (values.values (given ++ zeros)))
    (front-seen c.args.count c.all_parts.result.now c.front.result.now c.new-given.result.items c.append.new.all.items seen c.new-given.ensures.items c.front.ensures c.in_ok-append.ensures c.all_parts.ensures)
