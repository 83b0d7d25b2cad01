-- Each identifier in front of others is the first of its spelling.
use Rattle.std.proofs.Common.{[], length, ◌∙◌, ◌&&◌, bytes_eq, append-nil, sym, ap}
use Rattle.std.specs.FinMap as finite
use Rattle.std.proofs.lemmas.Cmp.{nat_list_eq_equiv}
use Rattle.dm_mentions.specs.Mentions.{is_mention}
use Rattle.dm_mentions.proofs.PositionLemmas.{finds-nothing, last-named, last-unnamed}
use Rattle.dm_mentions.proofs.places.identifiers.Goals as goal

pub loop-last-init : goal.loop-last-init
loop-last-init c = ([], append-nil c.args.tokens.now, finds-nothing is_mention (length c.args.tokens.now) c.new-found.result c.new-found.ensures)

pub loop-last-preserved-in_ok-insert : goal.loop-last-preserved-in_ok-insert
loop-last-preserved-in_ok-insert c =
    let before = c.in-Some.before.now in
    let last = c.in-Some.last.now in
    last-named is_mention c.loop-last.left.now before c.loop-last.invariant.0 c.args.tokens.now last c.loop-last.found
    c.in-Some.ensures.cases.0 c.loop-last.invariant.1 c.loop-last.invariant.2
    last.pp.spelling c.insert.new.self (λ other. ap (λ is. is && bytes_eq last.pp.spelling other) (sym c.is_identifier.ensures ∙ c.if-is_identifier.true) ∙ nat_list_eq_equiv.symm last.pp.spelling other)
    (c.in_ok-insert.ensures.ok ∙ ap (λ name. finite.insert c.loop-last.found name (length before)) c.in_ok-copy.ensures)

pub loop-last-preserved : goal.loop-last-preserved
loop-last-preserved c =
    let last = c.in-Some.last.now in
    last-unnamed is_mention c.loop-last.left.now c.in-Some.before.now c.loop-last.invariant.0 c.args.tokens.now last c.loop-last.found
    c.in-Some.ensures.cases.0 c.loop-last.invariant.1 c.loop-last.invariant.2
    (λ other. ap (λ is. is && bytes_eq last.pp.spelling other) (sym c.is_identifier.ensures ∙ c.if-is_identifier.false))
