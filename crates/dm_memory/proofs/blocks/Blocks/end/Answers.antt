-- One object changes, or none.
use Rattle.std.proofs.Common.{◌≡◌, ◌<◌, ◌≤◌, false, length, get_or, rules, refl, sym}
use Rattle.std.proofs.lemmas.Option.{slice_get_read}
use Rattle.dm_memory.proofs.ChangedLemmas.{change-past, ended, known-ended}
use Rattle.dm_memory.proofs.blocks.Blocks.end.Goals as goal

pub returns-then-len-number-clause-view : goal.returns-then-len-number-clause-view
returns-then-len-number-clause-view c =
    let past : length c.args.self.now ≤ c.args.number = search rules in
    λ table. sym (change-past table c.args.number (λ block. record block { alive = false }) c.args.self.now past)

pub returns-clause-view : goal.returns-clause-view
returns-clause-view c =
    let items = c.self.inside.all.items in
    let block = c.index_mut-block.result.now in
    let within : c.args.number < length items = search rules in
    let is : block ≡ get_or items c.args.number block = search rules in
    λ table. ended table c.args.self.now items c.args.number block c.self.view_is (slice_get_read items (length items) c.args.number block refl within is)

pub returns-clause-known : goal.returns-clause-known
returns-clause-known c =
    let items = c.self.inside.all.items in
    let block = c.index_mut-block.result.now in
    let within : c.args.number < length items = search rules in
    let is : block ≡ get_or items c.args.number block = search rules in
    λ table known. known-ended table c.args.self.now items c.args.number block c.self.view_is (slice_get_read items (length items) c.args.number block refl within is) known
