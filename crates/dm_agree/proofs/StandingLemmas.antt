-- The extents of expressions in the code.
use Rattle.std.proofs.Common.{◌≡◌, ◌<◌, ◌+◌, ◌-◌, ℕ, zero, suc, true, false, if◌then◌else◌, List, [], ◌++◌, flat_map, append_assoc, append-nil, sym, ap, ◌∙◌, arith}
use Rattle.dm_token.specs.declared.place.Span.{Span}
use Rattle.dm_tree.specs.Trees.{Tree, spans_of}
use Rattle.dm_sites.specs.Standing.{is_value}
use Rattle.dm_agree.specs.Standing.{widened, narrowing, extents, extents_of}

-- what has fewer pairs of parentheses
pub narrowed : {A : Type 0} (W : Span → List A) (inner : Span) (left : ℕ) (now later whole : List A) → 0 < left
    → now ++ flat_map W (narrowing inner left) ≡ whole → later ≡ now ++ W (widened inner left) → later ++ flat_map W (narrowing inner (left - 1)) ≡ whole
narrowed W inner zero now later whole some so_far is = absurd (omega arith)
narrowed W inner (suc left) now later whole some so_far is =
    let less : suc left - 1 ≡ left = omega arith in
    ap (λ n. later ++ flat_map W (narrowing inner n)) less
    ∙ (ap (λ one. one ++ flat_map W (narrowing inner left)) is ∙ (append_assoc now (W (widened inner (suc left))) (flat_map W (narrowing inner left)) ∙ so_far))

pub bare : (inner : Span) → widened inner 0 ≡ inner
bare inner = let first : inner.first - 0 ≡ inner.first = omega arith in let after : inner.after + 0 ≡ inner.after = omega arith in λ i. record { first = first i; after = after i }

-- and with none
pub narrowest : {A : Type 0} (W : Span → List A) (inner : Span) (left : ℕ) (now later whole : List A) → left ≡ 0
    → now ++ flat_map W (narrowing inner left) ≡ whole → later ≡ now ++ W (widened inner 0) → later ≡ whole
narrowest W inner left now later whole none so_far is =
    is ∙ (ap (λ span. now ++ W span) (bare inner) ∙ (sym (ap (λ last. now ++ last) (append-nil (W inner))) ∙ (sym (ap (λ n. now ++ flat_map W (narrowing inner n)) none) ∙ so_far)))

-- ---- by whether a tree is the value of an expression

pub no-extents : (tree : Tree) → is_value tree ≡ false → extents_of tree ≡ []
no-extents tree is = ap (λ test. if test then extents (spans_of tree) else []) is

pub all-extents : (tree : Tree) → is_value tree ≡ true → extents_of tree ≡ extents (spans_of tree)
all-extents tree is = ap (λ test. if test then extents (spans_of tree) else []) is
