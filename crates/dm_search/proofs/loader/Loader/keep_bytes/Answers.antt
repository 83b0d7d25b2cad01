-- Bytes that cannot be read leave the loader as it was.
use Rattle.std.proofs.Common.{◌<◌, ◌≤◌, Err, refl, ap, sym, ◌∙◌, subst, arith}
use Rattle.dm_token.specs.Limits.{most_files, header_count}
use Rattle.dm_token.specs.declared.stop.Stop.{Stop}
use Rattle.dm_search.specs.Loaded.{found_files}
use Rattle.dm_search.specs.Loading.{KeepsBytes}
use Rattle.dm_search.proofs.SearchLemmas.{kept-error}
use Rattle.dm_search.proofs.SoundLemmas.{count-bytes_of}
use Rattle.dm_search.proofs.loader.Loader.keep_bytes.Goals as goal

pub returns-then-self-ge-MOST_FILES : goal.returns-then-self-ge-MOST_FILES
returns-then-self-ge-MOST_FILES c =
    let found = ap found_files (sym c.self.view_is) ∙ count-bytes_of header_count c.self.inside.contents.items ∙ sym c.self.invariant.counted in
    let many : most_files ≤ found_files c.args.self.now = omega (arith, found) in
    subst (λ (stop : Stop). KeepsBytes c.args.bytes c.args.self.now c.args.file (Err stop) c.args.self.now) (sym c.passed.ensures) (refl, many, refl)

pub returns-in-Err : goal.returns-in-Err
returns-in-Err c =
    let found = ap found_files (sym c.self.view_is) ∙ count-bytes_of header_count c.self.inside.contents.items ∙ sym c.self.invariant.counted in
    let few : found_files c.args.self.now < most_files = omega (arith, found) in
    kept-error c.args.bytes c.args.self.now c.hold.new.self c.args.file c.in-Err.stop c.in-Err.ensures.stop c.in-Err.ensures.err few
