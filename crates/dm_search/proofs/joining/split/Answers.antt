-- The parts that the split yields are collected.
use Rattle.std.proofs.Common.{◌==◌, ℕ, rules}
use Rattle.std.proofs.lemmas.Iterator.Consumers.{map_from_collect}
use Rattle.std.proofs.lemmas.Iterator.Splits.{YieldsList-from_slice_split}
use Rattle.dm_search.proofs.joining.split.Goals as goal

pub returns : goal.returns
returns c =
    map_from_collect _ c.collect.ensures.ran
    (YieldsList-from_slice_split _ (λ (byte : ℕ). byte == 47) c.args.path.now c.split.ensures.rest c.split.ensures.done c.split.ensures.closure (λ x b q k. search rules))
