-- What a node of the code does, by its form.
use Rattle.std.specs.Prelude.{◌≡◌, ℕ, ◌==◌, Bool, true, false, not, List, [], ◌∷◌, map, length, None}
use Rattle.std.proofs.Common.{rules, refl, ap, sym, ◌∙◌, true≢false, arith}
use Rattle.std.proofs.lemmas.Bool.Decides.{Decides-eqb}
use Rattle.dm_type.specs.CTypes.{CType}
use Rattle.dm_int.specs.declared.Op.{Op}
use Rattle.dm_type.specs.Tables.{Table, type_of}
use Rattle.dm_tree.specs.declared.tree.Core.{Core, out-Core}
use Rattle.dm_tree.specs.declared.tree.Core as q
use Rattle.dm_tree.specs.declared.tree.Form.{Form}
use Rattle.dm_tree.specs.declared.tree.Form.TheVariants as form
use Rattle.dm_tree.specs.Trees as label
use Rattle.dm_tree.specs.Trees.{Spans, Tree, node, Trees, no_trees, more_trees, trees}
use Rattle.dm_tree.specs.Views.{Opened, opened, opened_form, view, node_of}
use Rattle.dm_tree.proofs.ViewLemmas.{view-core}
use Rattle.dm_effect.specs.Entities.{addresses_here, function_first, is_named, is_this, object_first, writes_here}
use Rattle.dm_effect.specs.Quiet.{alone_returned, disturbs, value_returned}

opened-Address : (types : Table) (a : Core) → opened_form types (form.Address a) ≡ opened label.address (view types a ∷ [])
opened-Address types a = search (rules, q.the_lemmas)

opened-Store : (types : Table) (a b : Core) → opened_form types (form.Store a b) ≡ opened label.store (view types a ∷ view types b ∷ [])
opened-Store types a b = search (rules, q.the_lemmas)

opened-Update : (types : Table) (op : Op) (works : ℕ) (a b : Core) → opened_form types (form.Update op works a b) ≡ opened (label.update op (type_of types works)) (view types a ∷ view types b ∷ [])
opened-Update types op works a b = search (rules, q.the_lemmas)

opened-Count : (types : Table) (plus before : Bool) (a : Core) → opened_form types (form.Count plus before a) ≡ opened (label.count plus before) (view types a ∷ [])
opened-Count types plus before a = search (rules, q.the_lemmas)

opened-Block : (types : Table) (items : List Core) → opened_form types (form.Block items) ≡ opened label.block (map (view types) items)
opened-Block types items = search (rules, q.the_lemmas)

pub opened-Call : (types : Table) (a : Core) (arguments : List Core) → opened_form types (form.Call a arguments) ≡ opened label.call (view types a ∷ map (view types) arguments)
opened-Call types a arguments = search (rules, q.the_lemmas)

-- a node by what its form opens to
module _ {A : Type 0} (types : Table) (core : Core) (ask : label.Tree → A) where
  pub seen-as : (other : Form) (one : Opened) → (out-Core core).form ≡ other → opened_form types other ≡ one
      → ask (view types core) ≡ ask (node_of one (type_of types (out-Core core).kind) (out-Core core).inner (out-Core core).outer (out-Core core).place)
  seen-as other one is opens =
      ap ask (view-core types core)
      ∙ ap (λ (o : Opened). ask (node_of o (type_of types (out-Core core).kind) (out-Core core).inner (out-Core core).outer (out-Core core).place)) (ap (opened_form types) is ∙ opens)

pub addresses-Address : (types : Table) (core a : Core) (d : ℕ) → (out-Core core).form ≡ form.Address a
    → addresses_here d (view types core) ≡ is_this d (object_first (more_trees (view types a) no_trees))
addresses-Address types core a d is = seen-as types core (addresses_here d) (form.Address a) (opened label.address (view types a ∷ [])) is (opened-Address types a)

pub writes-Store : (types : Table) (core a b : Core) (d : ℕ) → (out-Core core).form ≡ form.Store a b
    → writes_here d (view types core) ≡ is_this d (object_first (more_trees (view types a) (more_trees (view types b) no_trees)))
writes-Store types core a b d is = seen-as types core (writes_here d) (form.Store a b) (opened label.store (view types a ∷ view types b ∷ [])) is (opened-Store types a b)

pub writes-Update : (types : Table) (core a b : Core) (op : Op) (works d : ℕ) → (out-Core core).form ≡ form.Update op works a b
    → writes_here d (view types core) ≡ is_this d (object_first (more_trees (view types a) (more_trees (view types b) no_trees)))
writes-Update types core a b op works d is =
    seen-as types core (writes_here d) (form.Update op works a b) (opened (label.update op (type_of types works)) (view types a ∷ view types b ∷ [])) is (opened-Update types op works a b)

pub writes-Count : (types : Table) (core a : Core) (plus before : Bool) (d : ℕ) → (out-Core core).form ≡ form.Count plus before a
    → writes_here d (view types core) ≡ is_this d (object_first (more_trees (view types a) no_trees))
writes-Count types core a plus before d is = seen-as types core (writes_here d) (form.Count plus before a) (opened (label.count plus before) (view types a ∷ [])) is (opened-Count types plus before a)

pub disturbs-Call : (types : Table) (core a : Core) (arguments : List Core) (quiet : ℕ → Bool) → (out-Core core).form ≡ form.Call a arguments
    → disturbs quiet (view types core) ≡ not (is_named quiet (function_first (more_trees (view types a) (trees (map (view types) arguments)))))
disturbs-Call types core a arguments quiet is =
    seen-as types core (disturbs quiet) (form.Call a arguments) (opened label.call (view types a ∷ map (view types) arguments)) is (opened-Call types a arguments)

-- ---- bodies that are one return

pub block-as : (types : Table) (core : Core) (items : List Core) → (out-Core core).form ≡ form.Block items
    → alone_returned (view types core)
    ≡ alone_returned (node label.block (type_of types (out-Core core).kind) (record { inner = (out-Core core).inner; outer = (out-Core core).outer; place = (out-Core core).place }) (trees (map (view types) items)))
block-as types core items is = seen-as types core alone_returned (form.Block items) (opened label.block (map (view types) items)) is (opened-Block types items)

-- an item alone, and several
pub only-item : (types : Table) (kind : CType) (spans : Spans) (items : List Core) (only : Core) (others : List Core) → items ≡ only ∷ others → others ≡ []
    → alone_returned (node label.block kind spans (trees (map (view types) items))) ≡ value_returned (view types only)
only-item types kind spans items only others is none = ap (λ all. alone_returned (node label.block kind spans (trees (map (view types) all)))) (is ∙ ap (λ rest. only ∷ rest) none)

pub several-items : (types : Table) (kind : CType) (spans : Spans) (items : List Core) (only : Core) (others : List Core) → items ≡ only ∷ others → (others ≡ [] → ⊥)
    → alone_returned (node label.block kind spans (trees (map (view types) items))) ≡ None
several-items types kind spans items only [] is more = absurd (more refl)
several-items types kind spans items only (second ∷ others) is more = ap (λ all. alone_returned (node label.block kind spans (trees (map (view types) all)))) is

pub nothing-left : {A : Type 0} (all : List A) → (length all == 0) ≡ true → all ≡ []
nothing-left [] h = refl
nothing-left (first ∷ all) h = absurd (omega (arith, (Decides-eqb (length (first ∷ all)) 0).0 h))

pub some-left : {A : Type 0} (all : List A) → (length all == 0) ≡ false → all ≡ [] → ⊥
some-left all h is = true≢false (sym (ap (λ them. length them == 0) is) ∙ h)
