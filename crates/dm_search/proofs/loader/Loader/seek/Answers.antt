-- A name that was added has its number.
use Rattle.std.proofs.Common.{◌≡◌, ◌<◌, ℕ, length, sym, subst}
use Rattle.dm_io.specs.Answers.{HasAtMost}
use Rattle.dm_search.specs.Loaded.{Loaded, with_name}
use Rattle.dm_search.proofs.SearchLemmas.{number_of-inside}
use Rattle.dm_search.proofs.loader.Loader.seek.Goals as goal

pub keep-requires : goal.keep-requires
keep-requires g c =
    let file = c.in_ok-file-in_default-2.file in
    let told = c.in_ok-file-in_default-2.ensures in
    record {
      numbered = subst (λ (l : Loaded). file < length l.names) (sym told.added) (subst (λ (n : ℕ). n < length (with_name c.args.self.now c.args.name.now).names) (sym told.number) (number_of-inside c.args.self.now c.args.name.now));
      bounded = subst (λ (n : ℕ). HasAtMost n c.in_ok-got.got) c.source_length_limit.ensures c.in_ok-got.ensures.bounded;
      unknown = λ is. absurd (c.in_default-2.not-Absent is);
    }
