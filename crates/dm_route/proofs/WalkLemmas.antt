-- Walks from the innermost marks of trails, and how lists of marks begin.
use Rattle.std.proofs.Common.{◌≡◌, ◌≤◌, List, [], ◌∷◌, ◌++◌, length, refl, arith}
use Rattle.dm_token.specs.declared.expansion.Mark.{Mark}
use Rattle.dm_token.specs.Prefixes.{IsPrefix, IsLongestCommonPrefix}

-- Some marks are passed, and these are left.
abbrev pub IsWalk : List Mark → List Mark → List Mark → Type 0
IsWalk whole left passed = whole ≡ left ++ passed

-- no marks have none in common with others
pub common-nothing : (left right : List Mark) → length left ≡ 0 → IsLongestCommonPrefix left right []
common-nothing [] right none = (([], refl), (right, refl), λ shared mine theirs. mine)
common-nothing (mark ∷ marks) right none = absurd (omega arith)

-- of two beginnings of one list the shorter is a beginning of the longer
pub begins-shorter : (short long rest more : List Mark) → short ++ rest ≡ long ++ more → length short ≤ length long → IsPrefix short long
begins-shorter [] long rest more is fewer = (long, refl)
begins-shorter (mark ∷ short) [] rest more is fewer = absurd (omega arith)
begins-shorter (mark ∷ short) (first ∷ long) rest more is fewer =
    let same : mark ≡ first = cc in
    let others : short ++ rest ≡ long ++ more = cc in
    let inner : IsPrefix short long = begins-shorter short long rest more others (omega arith) in
    let known : long ≡ short ++ inner.0 = inner.1 in
    (inner.0, cc)
