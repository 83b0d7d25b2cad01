-- Every tree that is read is well formed, whatever the depth.
use Rattle.std.proofs.Common.{ℕ, zero, suc}
use Rattle.dm_syn.specs.Sources.{Source}
use Rattle.dm_pexpr.specs.Parsing.{lower}
use Rattle.dm_pexpr.proofs.Soundness.{GivesFormed, expr-formed}
use Rattle.dm_pexpr.proofs.SoundDeclarators.{declarator-formed}
use Rattle.dm_pexpr.proofs.SoundSpecifiers.{specifiers-formed}

pub all-formed : (source : Source) (depth : ℕ) → GivesFormed source (lower source depth)
unfolding lower
all-formed source zero =
    record {
      expr = λ least names at it h. absurd (cc);
      specifiers = λ names at it h. absurd (cc);
      declarator = λ shape names at it h. absurd (cc);
    }
all-formed source (suc depth) =
    record {
      expr = λ least names at it h. expr-formed source (lower source depth) (all-formed source depth) least names at it h;
      specifiers = λ names at it h. specifiers-formed source (lower source depth) (all-formed source depth) names at it h;
      declarator = λ shape names at it h. declarator-formed source (lower source depth) (all-formed source depth) shape names at it h;
    }
