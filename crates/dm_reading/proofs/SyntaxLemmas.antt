-- Two rows of external declarations from one place.
use Rattle.std.proofs.Common.{◌≡◌, ℕ, List, [], ◌∷◌, length, refl, sym, ◌∙◌, arith, subst}
use Rattle.dm_token.specs.declared.token.CToken.{CToken}
use Rattle.dm_syn.specs.Spans.{external_span}
use Rattle.dm_syn.specs.Trees.{External}
use Rattle.dm_pexpr.specs.Answers.{source_with}
use Rattle.dm_pexpr.specs.NameMaps.{NameMap}
use Rattle.dm_pexpr.proofs.Soundness.{inside}
use Rattle.dm_pstmt.specs.Readings.{IsExternalAt}
use Rattle.dm_pstmt.proofs.CompleteExternals.{external-only}
use Rattle.dm_pstmt.proofs.Inside.{stands-inside}
use Rattle.dm_reading.specs.Syntax.{Stand, names_behind}

-- at a place there is one external declaration
one : (tokens : List CToken) (names : NameMap) (at : ℕ) (a b : External) → IsExternalAt (source_with tokens names) [] at a → IsExternalAt (source_with tokens names) [] at b → a ≡ b
one tokens names at a b h k = inside a b (sym (external-only (source_with tokens names) [] at a h) ∙ external-only (source_with tokens names) [] at b k)

-- Two rows from one place: they are the same, or one goes on where the other ends.
pub data Beside (tokens : List CToken) (a b : List External) (p q : ℕ) (known others : NameMap) : Type 0 where
  same : a ≡ b → p ≡ q → Beside tokens a b p q known others
  first-goes-on : (it : External) → IsExternalAt (source_with tokens others) [] q it → Beside tokens a b p q known others
  second-goes-on : (it : External) → IsExternalAt (source_with tokens known) [] p it → Beside tokens a b p q known others

with-head : (tokens : List CToken) (x y : External) (a b : List External) (p q : ℕ) (known others : NameMap) → x ≡ y → Beside tokens a b p q known others → Beside tokens (x ∷ a) (y ∷ b) p q known others
with-head tokens x y a b p q known others e (same f g) = same (λ i. e i ∷ f i) g
with-head tokens x y a b p q known others e (first-goes-on it is) = first-goes-on it is
with-head tokens x y a b p q known others e (second-goes-on it is) = second-goes-on it is

at-the-end : (tokens : List CToken) (names known : NameMap) (at to : ℕ) (it : External) → at ≡ to → names ≡ known → IsExternalAt (source_with tokens names) [] at it → IsExternalAt (source_with tokens known) [] to it
at-the-end tokens names known at to it e f is = subst (λ (n : ℕ). IsExternalAt (source_with tokens known) [] n it) e (subst (λ (m : NameMap). IsExternalAt (source_with tokens m) [] at it) f is)

pub beside : (tokens : List CToken) (names : NameMap) (at : ℕ) (a b : List External) (p q : ℕ) (known others : NameMap) → Stand tokens names at a p known → Stand tokens names at b q others → Beside tokens a b p q known others
unfolding Stand
beside tokens names at [] [] p q known others h k = same refl (sym h.0 ∙ k.0)
beside tokens names at [] (y ∷ b) p q known others h k = second-goes-on y (at-the-end tokens names known at p y h.0 h.1 k.0)
beside tokens names at (x ∷ a) [] p q known others h k = first-goes-on x (at-the-end tokens names others at q x k.0 k.1 h.0)
beside tokens names at (x ∷ a) (y ∷ b) p q known others h k =
    let e : x ≡ y = one tokens names at x y h.0 k.0 in
    with-head tokens x y a b p q known others e
    (beside tokens (names_behind tokens names x) (external_span x).after a b p q known others h.1
    (subst (λ (z : External). Stand tokens (names_behind tokens names z) (external_span z).after b q others) (sym e) k.1))

-- nothing begins at the end
pub none-at-the-end : (tokens : List CToken) (names : NameMap) (it : External) → IsExternalAt (source_with tokens names) [] (length tokens) it → ⊥
none-at-the-end tokens names it is = let on = stands-inside (source_with tokens names) [] (length tokens) it is in omega (arith, on.0, on.1)
