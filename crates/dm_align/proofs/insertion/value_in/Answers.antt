-- The one item.
use Rattle.std.proofs.Common.{rules, ◌≡◌, ◌∷◌, [], List, length, map, Bor, sym, ap, ◌∙◌}
use Rattle.dm_tree.specs.declared.tree.Core.{Core}
use Rattle.dm_tree.specs.Trees.{parts_of}
use Rattle.dm_tree.specs.Views.{view}
use Rattle.dm_tree.proofs.ViewLemmas.{known-form}
use Rattle.dm_sites.proofs.NodeLemmas.{parts-view}
use Rattle.dm_agree.specs.Parts.{nows}
use Rattle.dm_agree.proofs.AgreeLemmas.{known-get}
use Rattle.dm_align.specs.Insertions.{value_in}
use Rattle.dm_align.proofs.InsertionLemmas.{no-value, shown-length, single-item}
use Rattle.dm_align.proofs.insertion.value_in.Goals as goal

pub returns-then-len-ne1-clause-value : goal.returns-then-len-ne1-clause-value
returns-then-len-ne1-clause-value c types =
    let seen = parts-view types c.args.body.now ∙ sym (c.in_ok-parts.ensures.same types) in
    no-value c.args.void (parts_of (view types c.args.body.now)) (λ one. c.if-len-ne1.true (let count = ap length seen ∙ shown-length types c.in_ok-parts.parts.items in search (rules, count, one)))

pub returns-clause-value : goal.returns-clause-value
returns-clause-value c types =
    let item = c.index.result.now in
    let one : c.in_ok-parts.parts.items ≡ item ∷ [] = single-item c.in_ok-parts.parts.items item (search rules) c.index.ensures in
    let seen = parts-view types c.args.body.now ∙ (sym (c.in_ok-parts.ensures.same types) ∙ ap (λ (refs : List (Bor Core)). map (view types) (nows refs)) one) in
    c.value_of.ensures.value types ∙ sym (ap (value_in c.args.void) seen)

pub returns-clause-known : goal.returns-clause-known
returns-clause-known c n known =
    let item = c.index.result.now in
    let all = c.in_ok-parts.ensures.known n (known-form n c.args.body.now known) in
    c.value_of.ensures.known n (known-get n c.in_ok-parts.parts.items 0 item (search rules) c.index.ensures all)
