-- Files that are sorted by their names.
use Rattle.std.proofs.Common.{◌≡◌, Bool, List, ap, Ordering, Bor}
use denote.Param.Members.{Mut}
use Rattle.std.specs.Cmp.{IsStrictWeakOrder}
use Rattle.std.specs.Cmp.Lexicographic.{slice_cmp}
use Rattle.std.specs.Fn.{Called, ComparesAs}
use Rattle.std.specs.List.Sorted.{IsSortedBy, IsSortedByKey}
use Rattle.std.specs.Ordering.{is_lt, nat_cmp}
use Rattle.std.proofs.lemmas.Cmp.{nat_list_cmp_total}
use Rattle.std.proofs.lemmas.Fn.{always_returns_same}
use Rattle.std.proofs.lemmas.List.MinMax.{ranks_by}
use Rattle.dm_edit.specs.declared.plan.Changed.{Changed}

-- where each call compares the names
pub sorted-by-name : {F : Type 0} {g : Mut F (Bor Changed × (Bor Changed × Unit {0})) Ordering} {f : F} (files : List Changed)
    → ((lt : Changed → Changed → Bool) → IsStrictWeakOrder lt → ComparesAs g lt f → IsSortedBy lt files)
    → ((a : Bor Changed × (Bor Changed × Unit {0})) (r : Ordering) (f' : F) → Called g f a r f' → (r ≡ slice_cmp nat_cmp a.0.now.name a.1.0.now.name) × (f' ≡ f))
    → IsSortedByKey (λ (one : Changed). one.name) (slice_cmp nat_cmp) files
sorted-by-name {g = g} {f = f} files sorted answers =
    sorted (λ x y. is_lt (slice_cmp nat_cmp x.name y.name)) (ranks_by nat_list_cmp_total (λ (one : Changed). one.name))
    (always_returns_same g (λ a r. is_lt r ≡ is_lt (slice_cmp nat_cmp a.0.now.name a.1.0.now.name)) f (λ a r f' called. (ap is_lt (answers a r f' called).0, (answers a r f' called).1)))
