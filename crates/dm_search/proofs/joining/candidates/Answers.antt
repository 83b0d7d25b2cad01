-- One more folder adds what the name leads to from it.
use Rattle.std.proofs.Common.{◌++◌, ap, sym, ◌∙◌, take, option_to_list, get_or}
use Rattle.std.proofs.lemmas.List.{take_more}
use Rattle.dm_search.specs.Joining.{candidates, places, joined}
use Rattle.dm_search.proofs.JoiningLemmas.{candidates-push}
use Rattle.dm_search.proofs.joining.candidates.Goals as goal

pub loop-folder-preserved : goal.loop-folder-preserved
loop-folder-preserved c =
    let include = c.args.include.now in
    let i = c.loop-folder.folder-index in
    let folder = get_or include i c.folder-item.result in
    let found = c.in_ok-joined.ensures ∙ ap (λ f. joined f c.args.name.now) (c.bytes.ensures ∙ c.folder-item.is) in
    c.in_ok-add.ensures ∙ ap (λ name. c.loop-folder.found.items ++ option_to_list name) found
    ∙ ap (λ front. front ++ option_to_list (joined folder c.args.name.now)) c.loop-folder.invariant
    ∙ sym (candidates-push c.args.name.now c.args.from.now c.args.quoted (take i include) folder)
    ∙ ap (λ folders. candidates c.args.name.now (places c.args.from.now c.args.quoted folders)) (sym (take_more include i c.folder-item.result c.loop-folder-test.true))
