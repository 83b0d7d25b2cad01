-- What an iterator is still to give.
use Rattle.std.specs.Prelude.{List, take}
use Rattle.std.specs.Vec.Iter.{into_iter_items, into_iter_len}
use Rattle.std.specs.declared.vec.IntoIter.{IntoIter}

abbrev pub items_of : {X A : Type 0} → IntoIter X A → List X
items_of iterator = take (into_iter_len iterator) (into_iter_items iterator)
