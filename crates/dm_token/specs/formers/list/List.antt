-- How a `List` holds its items, so that a type may hold itself through it.
use mathlib.Core.Path.{◌≡◌, refl, sym}
use mathlib.Core.List.{List, []}
use mathlib.Core.Former.{Former, this, list, via, children}
use base.Stored.{code_map}
use denote.RattleType.{RattleType}
use denote.HoleLaws.{Alike}
use denote.HolePlaces.{Recodes, struct_places, laid}
use denote.Hole.Carrier.{listed, list-listed}
use denote.Hole.Fix.{over}
use denote.Param.Weighed.{Weighed, w_list}
use denote.Model.Placed.{view_places}
use Rattle.std.specs.formers.vec.Vec as vector
use Rattle.std.specs.declared.alloc.Global.{Global}
use Rattle.std.specs.contracts.alloc.Global as global
use Rattle.std.specs.contracts.impls.GlobalAllocator.TheImpl.{ghosts}
use Rattle.dm_token.specs.declared.list.List.TheInside.{Inside}
use Rattle.dm_token.specs.declared.list.List.TheView.{view, invariant}
use Rattle.dm_token.specs.contracts.list.List as contract
use Rattle.dm_token.specs.contracts.list.List.TheInside as inside

-- a list of what is held
abbrev pub the_former : Former {0} → Former {0}
the_former held = list held

-- the greatest weight among the items
abbrev pub the_weighed : {held : Former {0}} → Weighed held → Weighed (the_former held)
the_weighed weighed = w_list weighed

-- an empty list holds nothing
pub the_empty : List ⊥
the_empty = []

-- the items, in their order
abbrev pub the_items : (X : Type 0) → List X → List X
the_items X items = items

-- the children are the items
pub the_items_listed : (X : Type 0) (items : List X) → listed _ (children (the_former this) X items) ≡ the_items X items
the_items_listed X items = list-listed X items

-- the fields hold what the `Vec` inside holds
abbrev held_fields : Former {0}
held_fields = via (vector.the_former this Global) Inside (λ X fields. fields.items) (λ X items. record { items = items }) (λ X fields. refl) (λ X items. refl)

module _ (R S : RattleType) (h : R.Denot → S.Denot) where
  -- lists of alike items lie alike in memory
  pub the_places : Alike R S h → Alike (contract.the_row R) (contract.the_row S) ((the_former this).map R.Denot S.Denot h)
  the_places alike = view_places held_fields (list this) view (λ X Y k u. refl) (λ X u. refl) R.Denot S.Denot h (contract.the_row R).coded (contract.the_row S).coded
      (invariant R.Denot) (invariant S.Denot) (λ u p q. refl) (λ u p q. refl) (λ u e. tt) (λ u e. tt)
      (over (inside.the_row R)) (over (inside.the_row S))
      (struct_places (inside.the_type R) (inside.the_type S) (vector.mapped h, tt) _ (λ d. refl) refl (laid _ _ _ (vector.the_places global.the_row ghosts R S h alike), tt))

  -- lists of items with equal codes have equal codes
  pub the_codes_placed : Recodes R S h → Recodes (contract.the_row R) (contract.the_row S) ((the_former this).map R.Denot S.Denot h)
  the_codes_placed recodes items = sym (code_map R.coded.code S.coded.code h (λ x. sym (recodes x)) items)
