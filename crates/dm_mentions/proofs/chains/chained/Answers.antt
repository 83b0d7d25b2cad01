-- An event in front of others is the first of its name, and the first behind it of that name is the next one.
use Rattle.std.proofs.Common.{[], length, append-nil, sym, ap, ◌∙◌}
use Rattle.std.specs.Prelude.{option_map}
use Rattle.std.specs.FinMap as finite
use denote.Bor.{Bor}
use Rattle.dm_token.specs.declared.text.Text.{Text}
use Rattle.dm_mentions.proofs.ChainLemmas.{no-chains, chains-unnamed, chains-named}
use Rattle.dm_mentions.proofs.chains.chained.Goals as goal

pub loop-last-init : goal.loop-last-init
loop-last-init c =
    let none = no-chains c.args.pp.now (length c.args.events.now) c.new-first.result c.new-next.result.items c.new-first.ensures c.new-next.ensures.items in
    ([], append-nil c.args.events.now, none)

pub loop-last-preserved-in_ok-push-in-None : goal.loop-last-preserved-in_ok-push-in-None
loop-last-preserved-in_ok-push-in-None c =
    chains-unnamed c.args.pp.now c.loop-last.left.now c.in-Some.before.now c.loop-last.invariant.0 c.args.events.now c.in-Some.last.now c.loop-last.first c.loop-last.next.items c.push.new.self.items
    c.in-Some.ensures.cases.0 c.loop-last.invariant.1 c.loop-last.invariant.2
    (sym c.name_of.ensures ∙ ap (λ found. option_map (λ (name : Bor Text). name.now) found) c.in-None.is) c.in_ok-push-in-None.ensures.items

pub loop-last-preserved : goal.loop-last-preserved
loop-last-preserved c =
    chains-named c.args.pp.now c.loop-last.left.now c.in-Some.before.now c.loop-last.invariant.0 c.args.events.now c.in-Some.last.now c.loop-last.first c.loop-last.next.items c.push-in-Some-name_of.new.self.items
    c.in-Some.ensures.cases.0 c.loop-last.invariant.1 c.loop-last.invariant.2
    c.in-Some-name_of.name.now c.insert.new.self c.get.result
    (sym c.name_of.ensures ∙ ap (λ found. option_map (λ (name : Bor Text). name.now) found) c.in-Some-name_of.is) c.get.ensures c.in_ok-push-in-Some-name_of.ensures.items
    (c.in_ok-insert-in-Some-name_of.ensures.ok ∙ ap (λ name. finite.insert c.loop-last.first name (length c.in-Some.before.now)) c.in_ok-copy-in-Some-name_of.ensures)
