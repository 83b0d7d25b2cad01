-- The first event of the name, or where that is the reading, the next one.
use Rattle.std.proofs.Common.{◌<◌, Some, length, slice_get, sym, ap, ◌∙◌, refl, arith}
use Rattle.std.proofs.lemmas.Option.{slice_get_read}
use Rattle.dm_mentions.proofs.AgainLemmas.{linked, none-named, first-inside, next-inside, another, none-behind, inside-behind, next-there}
use Rattle.dm_mentions.proofs.mentions.Mentions.again.Goals as goal

pub returns-in_err-first : goal.returns-in_err-first
returns-in_err-first c =
    let pp = c.args.self.now.pp.now in
    let name = c.args.name.now in
    let first = c.args.self.now.chains.first in
    let next = c.args.self.now.chains.next.items in
    let chains = linked pp c.args.self.now.events.items first next c.args.self.now.has_events c.args.self.now.has_chains in
    c.from_residual.ensures ∙ sym (none-named pp c.args.file c.args.hash name first next chains (sym c.get.ensures ∙ c.in_err-first.was))

pub index-event-requires : goal.index-event-requires
index-event-requires c =
    let pp = c.args.self.now.pp.now in
    let name = c.args.name.now in
    let first = c.args.self.now.chains.first in
    let next = c.args.self.now.chains.next.items in
    let chains = linked pp c.args.self.now.events.items first next c.args.self.now.has_events c.args.self.now.has_chains in
    let inside = first-inside pp c.args.file c.args.hash name first next chains c.in_ok-first.field-0 (sym c.get.ensures ∙ c.in_ok-first.was) in
    let many = ap length c.args.self.now.has_events in
    omega (arith, inside, many)

pub returns-then-not-is_reading : goal.returns-then-not-is_reading
returns-then-not-is_reading c =
    let pp = c.args.self.now.pp.now in
    let name = c.args.name.now in
    let first = c.args.self.now.chains.first in
    let next = c.args.self.now.chains.next.items in
    let chains = linked pp c.args.self.now.events.items first next c.args.self.now.has_events c.args.self.now.has_chains in
    let events = c.args.self.now.events.items in
    let inside = first-inside pp c.args.file c.args.hash name first next chains c.in_ok-first.field-0 (sym c.get.ensures ∙ c.in_ok-first.was) in
    let many = ap length c.args.self.now.has_events in
    let within : c.in_ok-first.field-0 < length events = omega (arith, inside, many) in
    let there = slice_get_read events (length events) c.in_ok-first.field-0 c.index-event.result.now refl within c.index-event.ensures in
    sym (another pp c.args.file c.args.hash name first next chains c.in_ok-first.field-0 (sym c.get.ensures ∙ c.in_ok-first.was) c.index-event.result.now
    (ap (λ all. slice_get all c.in_ok-first.field-0) (sym c.args.self.now.has_events) ∙ there) (sym c.is_reading.ensures ∙ c.if-not-is_reading.true))

pub index-requires : goal.index-requires
index-requires c =
    let pp = c.args.self.now.pp.now in
    let name = c.args.name.now in
    let first = c.args.self.now.chains.first in
    let next = c.args.self.now.chains.next.items in
    let chains = linked pp c.args.self.now.events.items first next c.args.self.now.has_events c.args.self.now.has_chains in
    let inside = next-inside pp c.args.file c.args.hash name first next chains c.in_ok-first.field-0 (sym c.get.ensures ∙ c.in_ok-first.was) in
    omega (arith, inside)

pub returns-in_err-next : goal.returns-in_err-next
returns-in_err-next c =
    let pp = c.args.self.now.pp.now in
    let name = c.args.name.now in
    let first = c.args.self.now.chains.first in
    let next = c.args.self.now.chains.next.items in
    let chains = linked pp c.args.self.now.events.items first next c.args.self.now.has_events c.args.self.now.has_chains in
    let at = c.in_ok-first.field-0 in
    let is = sym c.get.ensures ∙ c.in_ok-first.was in
    let events = c.args.self.now.events.items in
    let many = ap length c.args.self.now.has_events in
    let inside = first-inside pp c.args.file c.args.hash name first next chains at is in
    let within : at < length events = omega (arith, inside, many) in
    let there = ap (λ all. slice_get all at) (sym c.args.self.now.has_events) ∙ slice_get_read events (length events) at c.index-event.result.now refl within c.index-event.ensures in
    let reading = sym c.is_reading.ensures ∙ c.if-not-is_reading.false in
    let linked_at = slice_get_read next (length next) at c.index.result.now refl (next-inside pp c.args.file c.args.hash name first next chains at is) c.index.ensures in
    c.from_residual-in_err-next.ensures
    ∙ sym (none-behind pp c.args.file c.args.hash name first next chains at is c.index-event.result.now there reading (linked_at ∙ ap Some c.in_err-next.was))

pub index-requires-2 : goal.index-requires-2
index-requires-2 c =
    let pp = c.args.self.now.pp.now in
    let name = c.args.name.now in
    let first = c.args.self.now.chains.first in
    let next = c.args.self.now.chains.next.items in
    let chains = linked pp c.args.self.now.events.items first next c.args.self.now.has_events c.args.self.now.has_chains in
    let at = c.in_ok-first.field-0 in
    let is = sym c.get.ensures ∙ c.in_ok-first.was in
    let events = c.args.self.now.events.items in
    let many = ap length c.args.self.now.has_events in
    let inside = first-inside pp c.args.file c.args.hash name first next chains at is in
    let within : at < length events = omega (arith, inside, many) in
    let there = ap (λ all. slice_get all at) (sym c.args.self.now.has_events) ∙ slice_get_read events (length events) at c.index-event.result.now refl within c.index-event.ensures in
    let reading = sym c.is_reading.ensures ∙ c.if-not-is_reading.false in
    let linked_at = slice_get_read next (length next) at c.index.result.now refl (next-inside pp c.args.file c.args.hash name first next chains at is) c.index.ensures in
    let behind = inside-behind pp c.args.file c.args.hash name first next chains at is c.index-event.result.now there reading c.in_ok-next.field-0 (linked_at ∙ ap Some c.in_ok-next.was) in
    omega (arith, behind, many)

pub returns : goal.returns
returns c =
    let pp = c.args.self.now.pp.now in
    let name = c.args.name.now in
    let first = c.args.self.now.chains.first in
    let next = c.args.self.now.chains.next.items in
    let chains = linked pp c.args.self.now.events.items first next c.args.self.now.has_events c.args.self.now.has_chains in
    let at = c.in_ok-first.field-0 in
    let is = sym c.get.ensures ∙ c.in_ok-first.was in
    let events = c.args.self.now.events.items in
    let many = ap length c.args.self.now.has_events in
    let inside = first-inside pp c.args.file c.args.hash name first next chains at is in
    let within : at < length events = omega (arith, inside, many) in
    let there = ap (λ all. slice_get all at) (sym c.args.self.now.has_events) ∙ slice_get_read events (length events) at c.index-event.result.now refl within c.index-event.ensures in
    let reading = sym c.is_reading.ensures ∙ c.if-not-is_reading.false in
    let linked_at = slice_get_read next (length next) at c.index.result.now refl (next-inside pp c.args.file c.args.hash name first next chains at is) c.index.ensures in
    let after = c.in_ok-next.field-0 in
    let some = linked_at ∙ ap Some c.in_ok-next.was in
    let behind = inside-behind pp c.args.file c.args.hash name first next chains at is c.index-event.result.now there reading after some in
    let inner : after < length events = omega (arith, behind, many) in
    sym (slice_get_read events (length events) after c.index-2.result.now refl inner c.index-2.ensures)
    ∙ ap (λ all. slice_get all after) c.args.self.now.has_events
    ∙ next-there pp c.args.file c.args.hash name first next chains at is c.index-event.result.now there reading after some
