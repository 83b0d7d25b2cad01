-- A number for which bytes are held has a name.
use Rattle.std.proofs.Common.{◌≡◌, ◌<◌, length, ap, sym, ◌∙◌, subst}
use Rattle.std.proofs.lemmas.List.{length-map}
use Rattle.dm_search.specs.Loaded.{Loaded}
use Rattle.dm_search.specs.Sound.{bytes_in}
use Rattle.dm_search.proofs.SoundLemmas.{held-inside}
use Rattle.dm_search.proofs.loader.Loader.replace.Goals as goal

pub hold-requires-clause-numbered : goal.hold-requires-clause-numbered
hold-requires-clause-numbered c =
    let same : length c.args.self.now.held ≡ length c.args.self.now.names =
    ap (λ (v : Loaded). length v.held) (sym c.self.view_is) ∙ length-map c.self.inside.contents.items bytes_in ∙ c.self.invariant.numbered ∙ ap (λ (v : Loaded). length v.names) c.self.view_is in
    subst (λ n. c.args.file < n) same (held-inside c.args.self.now.held c.args.file c.requires)
