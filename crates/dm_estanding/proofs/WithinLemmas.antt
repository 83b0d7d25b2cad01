-- What can be undone from one place to the next, and on to a third.
use Rattle.std.specs.Prelude.{◌≡◌, ℕ, zero, suc, ◌≤◌, List, [], ◌∷◌, ◌++◌, length, map, take, drop, refl}
use Rattle.std.proofs.Common.{sym, ap, ◌∙◌, arith, append-nil, append_assoc}
use Rattle.std.proofs.lemmas.List.{length-map, take-map}
use Rattle.dm_type.specs.declared.shape.Shape.{Shape}
use Rattle.dm_tree.specs.declared.unit.Declared.{Declared}
use Rattle.dm_tree.specs.Units.{Declaration}
use Rattle.dm_typing.specs.Views.{Begins, type_over, Grows}
use Rattle.dm_typing.proofs.LaterLemmas.{begins-itself, begins-on}
use Rattle.dm_edecl.specs.Linkages.{with_kind}
use Rattle.dm_estanding.specs.declared.standing.Retyped.{Retyped}
use Rattle.dm_estanding.specs.declared.standing.Standing.{Standing as Held}
use Rattle.dm_estanding.specs.Summaries.{entry_over}
use Rattle.dm_estanding.specs.Undoing.{set_kind, undone, IsWithin}
use Rattle.dm_estanding.proofs.RetypeLemmas.{kinds-put}
use Rattle.dm_estanding.proofs.UndoLemmas.{length-set, take-undone, take-all}

undone-both : (one other : List Retyped) (entries : List Declared) → undone (one ++ other) entries ≡ undone one (undone other entries)
undone-both [] other entries = refl
undone-both (change ∷ one) other entries = ap (set_kind change.number change.kind) (undone-both one other entries)

length-undone : (changes : List Retyped) (entries : List Declared) → length (undone changes entries) ≡ length entries
length-undone [] entries = refl
length-undone (change ∷ changes) entries = length-set change.number change.kind (undone changes entries) ∙ length-undone changes entries

take-length : {A : Type 0} (n : ℕ) (xs : List A) → length (take n xs) ≤ length xs
take-length zero xs = omega arith
take-length (suc n) [] = omega arith
take-length (suc n) (x ∷ xs) = let rest = take-length n xs in omega (arith, rest)

take-fewer : {A : Type 0} (m n : ℕ) (xs : List A) → m ≤ n → take m (take n xs) ≡ take m xs
take-fewer zero n xs le = refl
take-fewer (suc m) zero xs le = absurd (omega (arith, le))
take-fewer (suc m) (suc n) [] le = refl
take-fewer (suc m) (suc n) (x ∷ xs) le = ap (λ ys. x ∷ ys) (take-fewer m n xs (omega (arith, le)))

-- ---- entries as the definition has them

undone_over : List Shape → List Retyped → List Declaration → List Declaration
undone_over later [] entries = entries
undone_over later (change ∷ changes) entries = with_kind change.number (type_over later change.kind) (undone_over later changes entries)

over-undone : (later : List Shape) (changes : List Retyped) (entries : List Declared) → map (entry_over later) (undone changes entries) ≡ undone_over later changes (map (entry_over later) entries)
unfolding undone_over
over-undone later [] entries = refl
over-undone later (change ∷ changes) entries =
    kinds-put later change.number change.kind (undone changes entries) ∙ ap (with_kind change.number (type_over later change.kind)) (over-undone later changes entries)

pub within-itself : (held : Held) → IsWithin held held
within-itself held = record {
  shapes = begins-itself held.known.types.shapes;
  changes = [];
  retyped = sym (append-nil held.retyped.items);
  entries = λ later on. ap (map (entry_over later)) (take-all (length held.known.declared) held.known.declared (omega arith));
  scopes = refl;
  depth = refl;
}

-- types may be numbered behind it
pub within-grown : (old now new : Held) → IsWithin old now → Grows now.known new.known → new.retyped.items ≡ now.retyped.items → IsWithin old new
within-grown old now new within grown retyped = record {
  shapes = begins-on old.known.types.shapes now.known.types.shapes new.known.types.shapes within.shapes grown.shapes;
  changes = within.changes;
  retyped = retyped ∙ within.retyped;
  entries = λ later on.
      ap (λ entries. map (entry_over later) (take (length old.known.declared) (undone within.changes entries))) grown.declared
      ∙ within.entries later (begins-on now.known.types.shapes new.known.types.shapes later grown.shapes on);
  scopes = ap (drop 1) grown.scopes ∙ within.scopes;
  depth = ap length grown.scopes ∙ within.depth;
}

pub within-on : (a b c : Held) → IsWithin a b → IsWithin b c → IsWithin a c
within-on a b c first second = record {
  shapes = begins-on a.known.types.shapes b.known.types.shapes c.known.types.shapes first.shapes second.shapes;
  changes = first.changes ++ second.changes;
  retyped = second.retyped ∙ ap (λ changes. changes ++ second.changes) first.retyped ∙ append_assoc a.retyped.items first.changes second.changes;
  entries = entries;
  scopes = second.scopes ∙ first.scopes;
  depth = second.depth ∙ first.depth;
}
  where
    many : ℕ
    many = length a.known.declared

    fewer : many ≤ length b.known.declared
    fewer =
        let shapes = b.known.types.shapes in
        let some = take-length many (undone first.changes b.known.declared) in
        let same = ap length (first.entries shapes (begins-itself shapes)) in
        let one = length-map (take many (undone first.changes b.known.declared)) (entry_over shapes) in
        let other = length-map a.known.declared (entry_over shapes) in
        let all = length-undone first.changes b.known.declared in
        omega (arith, some, same, one, other, all)

    entries : (later : List Shape) → Begins c.known.types.shapes later
        → map (entry_over later) (take many (undone (first.changes ++ second.changes) c.known.declared)) ≡ map (entry_over later) a.known.declared
    entries later on =
        let inside : List Declared = undone second.changes c.known.declared in
        let many-b = length b.known.declared in
        let front : map (entry_over later) (take many inside) ≡ map (entry_over later) (take many b.known.declared) =
        ap (map (entry_over later)) (sym (take-fewer many many-b inside fewer))
        ∙ sym (take-map (entry_over later) many (take many-b inside))
        ∙ ap (take many) (second.entries later on)
        ∙ take-map (entry_over later) many b.known.declared in
        ap (λ list. map (entry_over later) (take many list)) (undone-both first.changes second.changes c.known.declared)
        ∙ ap (map (entry_over later)) (take-undone many first.changes inside)
        ∙ over-undone later first.changes (take many inside)
        ∙ ap (undone_over later first.changes) front
        ∙ sym (over-undone later first.changes (take many b.known.declared))
        ∙ ap (map (entry_over later)) (sym (take-undone many first.changes b.known.declared))
        ∙ first.entries later (begins-on b.known.types.shapes c.known.types.shapes later second.shapes on)
