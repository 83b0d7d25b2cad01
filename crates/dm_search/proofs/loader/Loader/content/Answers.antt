-- The content of a number has its tokens.
use Rattle.std.proofs.Common.{◌≡◌, get_or, Some, None, ap, sym, ◌∙◌, ◌<◌, subst, length, is_some}
use Rattle.std.specs.Option.{option_copied}
use Rattle.std.proofs.Math.ListN.{get_or-map}
use Rattle.std.proofs.lemmas.List.{length-map, get_or_default}
use Rattle.dm_search.specs.Loaded.{Loaded}
use Rattle.dm_search.specs.Sound.{bytes_in}
use Rattle.dm_search.proofs.SoundLemmas.{held-inside}
use Rattle.dm_search.proofs.loader.Loader.content.Goals as goal

pub returns-clause-tokens : goal.returns-clause-tokens
returns-clause-tokens c =
    let contents = c.self.inside.contents.items in
    let inside : c.args.file < length contents = subst (λ n. c.args.file < n) (ap (λ (v : Loaded). length v.held) (sym c.self.view_is) ∙ length-map contents bytes_in) (held-inside c.args.self.now.held c.args.file c.requires) in
    let at : get_or contents c.args.file None ≡ Some c.unwrap.result.now = get_or_default contents c.args.file None c.index.result.now inside ∙ sym c.index.ensures ∙ sym c.as_ref.ensures.value ∙ ap option_copied c.unwrap.ensures in
    (c.self.invariant.read c.args.file c.unwrap.result.now at).1
