-- The numbers of the first marks up to here.
use Rattle.std.proofs.Common.{◌≡◌, ℕ, ◌+◌, ◌<◌, length, take, drop, fold, slice_get, get_or, Some}
use Rattle.dm_runs.specs.Beginnings.{beginnings_of, once_more}
use Rattle.dm_runs.specs.Trees.{AreLinked}
use Rattle.dm_runs.proofs.beginnings.Beginnings.follow.Given as goal

abbrev pub invariant-loop-beginning : goal.invariant-loop-beginning
invariant-loop-beginning l = record {
  linked : AreLinked l.self.links.keys l.self.trails.items;
  trails : l.self.trails.items ≡ fold once_more l.initial.self.trails.items (take l.beginning-index (drop l.shared (beginnings_of l.trail)));
  above : slice_get l.self.trails.items l.above ≡ Some (take (l.shared + l.beginning-index) l.trail);
  counted : length l.numbers.items ≡ l.shared + l.beginning-index + 1;
  numbers : (j : ℕ) → j < l.shared + l.beginning-index + 1 → slice_get l.self.trails.items (get_or l.numbers.items j 0) ≡ Some (take j l.trail);
}
