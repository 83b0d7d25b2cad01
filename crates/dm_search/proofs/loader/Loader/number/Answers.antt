-- A new name goes last, with nothing held for it.
use Rattle.std.proofs.Common.{◌≡◌, List, ℕ, false, ap, sym, ◌∙◌, subst, is_some, bytes_eq}
use Rattle.std.specs.List.{list_any}
use Rattle.dm_search.specs.Sound.{AreSound}
use Rattle.dm_search.proofs.SoundLemmas.{sound-number}
use Rattle.dm_search.proofs.loader.Loader.number.Goals as goal

pub invariant_of-self-2 : goal.invariant_of-self-2
invariant_of-self-2 c =
    let keys = c.in_ok-reserve.ensures.keys in
    let absent : list_any (bytes_eq c.args.name.now) c.self.inside.numbers.keys ≡ false = sym c.get_index_of.ensures.found ∙ ap is_some c.in_default.is in
    let new : list_any (bytes_eq c.in_ok-name.name) c.reserve.new.self.keys ≡ false = ap (λ n. list_any (bytes_eq n) c.reserve.new.self.keys) c.in_ok-name.ensures ∙ ap (λ ks. list_any (bytes_eq c.args.name.now) ks) keys ∙ absent in
    let sound : AreSound c.reserve.new.self.keys c.self.inside.contents.items c.self.inside.found = subst (λ (ks : List (List ℕ)). AreSound ks c.self.inside.contents.items c.self.inside.found) (sym keys) c.self.invariant in
    sound-number c.reserve.new.self.keys _ c.self.inside.contents.items _ c.self.inside.found c.in_ok-name.name new c.in_ok-number.ensures.keys c.in_ok-push.ensures.items sound
