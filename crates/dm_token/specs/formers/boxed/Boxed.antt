-- How a `Boxed` holds its value, so that a type may hold itself through it.
use mathlib.Core.Path.{refl}
use mathlib.Core.Former.{Former, this, const, pair, via}
use base.Stored.{gnil}
use base.Fml.{ftrue}
use denote.RattleType.{RattleType}
use denote.Memory.{part_of}
use denote.RawPtr.{Ptr}
use denote.Sharing.{nothing}
use denote.HoleLaws.{Alike}
use denote.HolePlaces.{Recodes, struct_places, laid, one_value}
use denote.Hole.Fix.{over}
use denote.Param.Weighed.{Weighed}
use denote.Model.Placed.{view_places}
use Rattle.std.specs.declared.boxed.Box.{Box}
use Rattle.std.specs.contracts.boxed.Box as box
use Rattle.std.specs.declared.alloc.Global.{Global}
use Rattle.std.specs.contracts.alloc.Global as global
use Rattle.std.specs.contracts.impls.GlobalAllocator.TheImpl.{ghosts}
use Rattle.dm_token.specs.declared.boxed.Boxed.TheInside.{Inside}
use Rattle.dm_token.specs.declared.boxed.Boxed.TheView.{view, invariant}
use Rattle.dm_token.specs.contracts.boxed.Boxed as contract
use Rattle.dm_token.specs.contracts.boxed.Boxed.TheInside as inside

-- what is held, once
abbrev pub the_former : Former {0} → Former {0}
the_former held = held

-- its weight
abbrev pub the_weighed : {held : Former {0}} → Weighed held → Weighed (the_former held)
the_weighed weighed = weighed

-- the field is a pointer, an allocator and what is held
abbrev held_fields : Former {0}
held_fields =
    via (pair (const (Ptr × Global)) this) Inside (λ X fields. ((fields.inner.ptr, fields.inner.alloc), fields.inner.value))
    (λ X parts. record { inner = record { ptr = parts.0.0; alloc = parts.0.1; value = parts.1 } }) (λ X fields. refl) (λ X parts. refl)

-- the same place with another value
abbrev with_value : {X Y : Type 0} → Box X Global → Y → Box Y Global
with_value place value = record { ptr = place.ptr; alloc = place.alloc; value = value }

-- a `Box` of that type
abbrev box_of : RattleType → RattleType
box_of R = box.the_row R global.the_row ghosts

module _ (R S : RattleType) (h : R.Denot → S.Denot) where
  -- boxes of alike values lie alike in memory
  box_places : Alike R S h → Alike (box_of R) (box_of S) (λ place. with_value place (h place.value))
  unfolding part_of
  box_places alike = record {
    mir_same = λ i. (box_of (one_value R (alike.mir_same i) (λ _. ftrue) (λ _ _. nothing) gnil)).mir;
    own_same = λ place i. (box_of (one_value R (alike.mir_same i) (alike.own_same place.value i) (alike.shr_same place.value i) gnil)).own_val (with_value place tt);
    shr_same = λ place i. (box_of (one_value R (alike.mir_same i) (alike.own_same place.value i) (alike.shr_same place.value i) gnil)).shr_at (with_value place tt);
  }

  -- and so do these
  pub the_places : Alike R S h → Alike (contract.the_row R) (contract.the_row S) ((the_former this).map R.Denot S.Denot h)
  the_places alike = view_places held_fields this view (λ X Y k u. refl) (λ X u. refl) R.Denot S.Denot h (contract.the_row R).coded (contract.the_row S).coded
      (invariant R.Denot) (invariant S.Denot) (λ u p q. refl) (λ u p q. refl) (λ u e. tt) (λ u e. tt)
      (over (inside.the_row R)) (over (inside.the_row S))
      (struct_places (inside.the_type R) (inside.the_type S) ((λ place. with_value place (h place.value)), tt) _ (λ d. refl) refl (laid _ _ _ (box_places alike), tt))

  -- the codes are those of what is held
  pub the_codes_placed : Recodes R S h → Recodes (contract.the_row R) (contract.the_row S) ((the_former this).map R.Denot S.Denot h)
  the_codes_placed recodes value = recodes value
