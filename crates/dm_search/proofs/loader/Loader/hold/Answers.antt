-- The content takes its place, and the others stay.
use Rattle.std.proofs.Common.{◌≡◌, ◌<◌, ◌≤◌, ℕ, List, Option, Some, length, drop, count_by, is_some, ap, sym, ◌∙◌, subst, set}
use Rattle.std.proofs.lemmas.List.{map-set}
use Rattle.dm_token.specs.Limits.{source_length_limit}
use Rattle.dm_search.specs.Loaded.{Loaded, with_bytes}
use Rattle.dm_search.specs.Readable.{AreTokensOf}
use Rattle.dm_search.specs.Sound.{bytes_of, bytes_in, IsContent}
use Rattle.dm_search.proofs.SoundLemmas.{sound-set}
use Rattle.dm_search.proofs.loader.Loader.hold.Goals as goal

pub invariant_of-self : goal.invariant_of-self
invariant_of-self c =
    let contents = c.self.inside.contents.items in
    let content = c.in_ok-content.content in
    let file = c.args.file in
    let inside : file < length contents = subst (λ n. file < n) (ap (λ (v : Loaded). length v.names) (sym c.self.view_is) ∙ sym c.self.invariant.numbered) c.requires.numbered in
    let short : length content.bytes ≤ source_length_limit = subst (λ (b : List ℕ). length b ≤ source_length_limit) (sym c.in_ok-content.ensures.bytes) c.requires.short in
    let tokens : AreTokensOf file content.bytes content.tokens = subst (λ (b : List ℕ). AreTokensOf file b content.tokens) (sym c.in_ok-content.ensures.bytes) c.in_ok-content.ensures.tokens in
    sound-set c.self.inside.numbers.keys contents c.self.inside.found c.found_with-self-inside.result file content inside (short, tokens)
    (c.found_with-self-inside.ensures content ∙ ap (λ cs. count_by is_some (drop 6 (set cs file (Some content)))) c.deref.ensures.value)
    c.self.invariant

pub returns-clause-held : goal.returns-clause-held
returns-clause-held c =
    let loaded : List (Option (List ℕ)) → Loaded = λ held. record { names = c.self.inside.numbers.keys; held = held; absent = c.self.inside.absent.keys } in
    ap loaded (map-set bytes_in c.self.inside.contents.items c.args.file (Some c.in_ok-content.content) ∙ ap (λ b. set (bytes_of c.self.inside.contents.items) c.args.file (Some b)) c.in_ok-content.ensures.bytes)
    ∙ ap (λ (v : Loaded). with_bytes v c.args.file c.args.bytes) c.self.view_is
