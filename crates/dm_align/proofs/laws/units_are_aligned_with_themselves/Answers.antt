-- Each part is the same.
use Rattle.std.proofs.Common.{refl}
use Rattle.dm_tree.specs.Constants.{constant}
use Rattle.dm_align.proofs.SelfLemmas.{externals-self}
use Rattle.dm_align.proofs.laws.units_are_aligned_with_themselves.Goals as goal

pub returns : goal.returns
returns c types one =
    record {
      structs = refl;
      added = tt;
      declared = refl;
      externals = externals-self (constant types one.declared) one.externals;
      placed = tt;
    }
