-- Places of runs, as the code finds them.
use Rattle.std.proofs.Common.{◌≡◌, ℕ, Bool, true, false, ◌&&◌, List, [], ◌∷◌, length, map, rules, refl, sym, ap, ◌∙◌, arith}
use Rattle.std.specs.List.{list_all}
use Rattle.dm_token.specs.declared.place.Span.{Span}
use Rattle.dm_type.specs.Tables.{Table, type_of}
use Rattle.dm_tree.specs.declared.tree.Core as q
use Rattle.dm_tree.specs.declared.tree.Core.{Core, out-Core}
use Rattle.dm_tree.specs.declared.tree.Form.TheVariants as form
use Rattle.dm_tree.specs.Scenes.{is_lvalue}
use Rattle.dm_tree.specs.Trees as label
use Rattle.dm_tree.specs.Trees.{Tree}
use Rattle.dm_tree.specs.Views.{Opened, opened, opened_form, view, node_of}
use Rattle.dm_tree.proofs.ViewLemmas.{view-core}
use Rattle.dm_runs.specs.declared.run.Occurrence.{Occurrence}
use Rattle.dm_sites.specs.Links.{passes}

opened-Member : (types : Table) (a : Core) (k : ℕ) → opened_form types (form.Member a k) ≡ opened (label.member k) (view types a ∷ [])
opened-Member types a k = search (rules, q.the_lemmas)

-- a member is an lvalue where the whole is
pub lvalue-member : (types : Table) (core whole : Core) (k : ℕ) → (out-Core core).form ≡ form.Member whole k → is_lvalue (view types core) ≡ is_lvalue (view types whole)
lvalue-member types core whole k is =
    let by : Opened → Tree = λ o. node_of o (type_of types (out-Core core).kind) (out-Core core).inner (out-Core core).outer (out-Core core).place in
    ap is_lvalue (view-core types core) ∙ (ap (λ f. is_lvalue (by (opened_form types f))) is ∙ ap (λ o. is_lvalue (by o)) (opened-Member types whole k))

-- ---- the spans of occurrences

abbrev pub spans_of : List Occurrence → List Span
spans_of occurrences = map (λ (one : Occurrence). one.span) occurrences

module _ (test : Span → Bool) where
  pub next-span : (left rest : List Occurrence) (one : Occurrence) → left ≡ one ∷ rest → list_all test (spans_of left) ≡ (test one.span && list_all test (spans_of rest))
  next-span left rest one is = ap (λ them. list_all test (spans_of them)) is

  pub no-span : (left : List Occurrence) → length left ≡ 0 → list_all test (spans_of left) ≡ true
  no-span [] is = refl
  no-span (one ∷ left) is = absurd (omega (arith, is))

  -- one after another
  pub all-first : (first : Span) (left rest all : List Occurrence) (one : Occurrence) (passed : Bool) → test first ≡ true → left ≡ one ∷ rest → list_all test (spans_of left) ≡ list_all test (spans_of all)
      → passed ≡ test one.span → passed ≡ false → false ≡ list_all test (first ∷ spans_of all)
  all-first first left rest all one passed here is same tested fails =
      sym (ap (λ b. b && list_all test (spans_of all)) here ∙ (sym same ∙ (next-span left rest one is ∙ ap (λ b. b && list_all test (spans_of rest)) (sym tested ∙ fails))))

  pub all-next : (left rest all : List Occurrence) (one : Occurrence) (passed : Bool) → left ≡ one ∷ rest → list_all test (spans_of left) ≡ list_all test (spans_of all)
      → passed ≡ test one.span → passed ≡ true → list_all test (spans_of rest) ≡ list_all test (spans_of all)
  all-next left rest all one passed is same tested passes =
      sym (next-span left rest one is ∙ ap (λ b. b && list_all test (spans_of rest)) (sym tested ∙ passes)) ∙ same

  pub all-last : (first : Span) (left all : List Occurrence) → test first ≡ true → length left ≡ 0 → list_all test (spans_of left) ≡ list_all test (spans_of all) → true ≡ list_all test (first ∷ spans_of all)
  all-last first left all here is same = sym (ap (λ b. b && list_all test (spans_of all)) here ∙ (sym same ∙ no-span left is))
