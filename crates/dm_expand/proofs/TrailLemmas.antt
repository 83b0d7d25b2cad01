-- Trails: what they have in common, and walks from their innermost marks.
use Rattle.std.proofs.Common.{inl, inr, ◌≡◌, ◌≤◌, Bool, true, List, [], ◌∷◌, ◌++◌, length, drop, refl, sym, ap, ◌∙◌, subst, arith, IsTrue, append_assoc, length-append, eqb, ◌↔◌}
use Rattle.std.specs.Prelude.{slice_get}
use Rattle.std.proofs.lemmas.List.{drop_at}
use Rattle.std.proofs.lemmas.Bool.{cases_Bool, and_parts, and_from, eqb-true, eq-eqb, cond-true, cond-false, false≢true}
use Rattle.dm_token.specs.declared.expansion.Mark.{Mark}
use Rattle.dm_token.specs.declared.expansion.Mark.TheVariants.{Expansion, Argument}
use Rattle.dm_token.specs.Prefixes.{IsPrefix, IsLongestCommonPrefix}
use Rattle.dm_expand.specs.Trails.{same_mark, begins_with, past}
use Rattle.dm_expand.specs.Ways.{way_of, LeadsTo}

same_mark-true : (a b : Mark) → same_mark a b ≡ true → a ≡ b
unfolding same_mark
same_mark-true (Expansion d i) (Expansion e j) is =
    let parts : (eqb d e ≡ true) × (eqb i j ≡ true) = and_parts _ _ is in
    ap (λ x. Expansion x i) (eqb-true d e parts.0) ∙ ap (λ y. Expansion e y) (eqb-true i j parts.1)
same_mark-true (Argument d i) (Argument e j) is =
    let parts : (eqb d e ≡ true) × (eqb i j ≡ true) = and_parts _ _ is in
    ap (λ x. Argument x i) (eqb-true d e parts.0) ∙ ap (λ y. Argument e y) (eqb-true i j parts.1)
same_mark-true (Expansion d i) (Argument e j) is = absurd (false≢true is)
same_mark-true (Argument d i) (Expansion e j) is = absurd (false≢true is)

same_mark-itself : (a : Mark) → same_mark a a ≡ true
unfolding same_mark
same_mark-itself (Expansion d i) = and_from _ _ (eq-eqb d d refl) (eq-eqb i i refl)
same_mark-itself (Argument d i) = and_from _ _ (eq-eqb d d refl) (eq-eqb i i refl)

-- the same marks in front of both
past-front : (front name trail : List Mark) → past (front ++ name) (front ++ trail) ≡ past name trail
unfolding past
past-front [] name trail = refl
past-front (mark ∷ front) name trail = cond-true _ _ _ (same_mark-itself mark) ∙ past-front front name trail

-- no mark more in common
no-more : (front name trail : List Mark) (mark first : Mark) → ((shared : List Mark) → IsPrefix shared (front ++ mark ∷ name) → IsPrefix shared (front ++ first ∷ trail) → IsPrefix shared front) → same_mark mark first ≡ true → ⊥
no-more front name trail mark first longest is =
    let same : mark ≡ first = same_mark-true mark first is in
    let mine : front ++ mark ∷ name ≡ (front ++ mark ∷ []) ++ name = sym (append_assoc front (mark ∷ []) name) in
    let theirs : front ++ first ∷ trail ≡ (front ++ mark ∷ []) ++ trail = sym (append_assoc front (first ∷ []) trail) ∙ ap (λ m. (front ++ m ∷ []) ++ trail) (sym same) in
    let longer : IsPrefix (front ++ mark ∷ []) front = longest (front ++ mark ∷ []) (name, mine) (trail, theirs) in
    omega (arith, ap length longer.1, length-append (front ++ mark ∷ []) longer.0, length-append front (mark ∷ []))

-- nothing more in common
past-apart : (front name trail : List Mark) → ((shared : List Mark) → IsPrefix shared (front ++ name) → IsPrefix shared (front ++ trail) → IsPrefix shared front) → past name trail ≡ trail
unfolding past
past-apart front [] trail longest = refl
past-apart front (mark ∷ name) [] longest = refl
past-apart front (mark ∷ name) (first ∷ trail) longest =
    elim (cases_Bool (same_mark mark first)) [
      | inl is ↦ absurd (no-more front name trail mark first longest is)
      | inr is ↦ cond-false _ _ _ is
    ]

-- what is left of a trail past what it has in common with another
pub past-common : (name trail common : List Mark) → IsLongestCommonPrefix name trail common → past name trail ≡ drop (length common) trail
past-common name trail common is =
    let mine : name ≡ common ++ is.0.0 = is.0.1 in
    let theirs : trail ≡ common ++ is.1.0 = is.1.1 in
    ap (λ x. past x trail) mine
    ∙ ap (λ x. past (common ++ is.0.0) x) theirs
    ∙ past-front common is.0.0 is.1.0
    ∙ past-apart common is.0.0 is.1.0 (λ shared left right. is.2 shared (subst (IsPrefix shared) (sym mine) left) (subst (IsPrefix shared) (sym theirs) right))
    ∙ sym (drop_at common is.1.0 (length common) refl)
    ∙ ap (λ x. drop (length common) x) (sym theirs)

begins-prefix : (name trail : List Mark) → begins_with name trail ≡ true → IsPrefix name trail
unfolding begins_with
begins-prefix [] trail is = (trail, refl)
begins-prefix (mark ∷ name) [] is = absurd (false≢true is)
begins-prefix (mark ∷ name) (first ∷ trail) is =
    let parts : (same_mark mark first ≡ true) × (begins_with name trail ≡ true) = and_parts _ _ is in
    let others : IsPrefix name trail = begins-prefix name trail parts.1 in
    (others.0, ap (λ m. m ∷ trail) (sym (same_mark-true mark first parts.0)) ∙ ap (λ x. mark ∷ x) others.1)

prefix-begins : (name rest : List Mark) → begins_with name (name ++ rest) ≡ true
unfolding begins_with
prefix-begins [] rest = refl
prefix-begins (mark ∷ name) rest = and_from _ _ (same_mark-itself mark) (prefix-begins name rest)

-- a trail begins as what it begins with does
pub begins-longer : (name longer trail : List Mark) → IsPrefix name longer → begins_with longer trail ≡ true → begins_with name trail ≡ true
begins-longer name longer trail begins is =
    let rest : IsPrefix longer trail = begins-prefix longer trail is in
    let whole : trail ≡ name ++ (begins.0 ++ rest.0) = rest.1 ∙ ap (λ xs. xs ++ rest.0) begins.1 ∙ append_assoc name begins.0 rest.0 in
    ap (begins_with name) whole ∙ prefix-begins name (begins.0 ++ rest.0)

-- no mark at all is how each trail begins
pub begins-nothing : (name trail : List Mark) → length name ≡ 0 → true ≡ begins_with name trail
unfolding begins_with
begins-nothing [] trail none = refl
begins-nothing (mark ∷ marks) trail none = absurd (omega arith)

-- a test that says whether a trail begins with another is the one of the definition
pub begins-is : (name trail : List Mark) (b : Bool) → (IsTrue b ↔ IsPrefix name trail) → b ≡ begins_with name trail
begins-is name trail b means =
    elim (cases_Bool b) [
      | inl holds ↦
          let begins : IsPrefix name trail = means.0 (subst (λ x. IsTrue x) (sym holds) refl) in
          holds ∙ sym (ap (λ x. begins_with name x) begins.1 ∙ prefix-begins name begins.0)
      | inr fails ↦
          elim (cases_Bool (begins_with name trail)) [
            | inl begins ↦ absurd (false≢true (subst (λ x. IsTrue x) fails (means.1 (begins-prefix name trail begins))))
            | inr begins ↦ fails ∙ sym begins
          ]
    ]

-- A walk from the innermost mark on: some marks are passed, and these are left.
abbrev pub IsWalk : List Mark → List Mark → List Mark → Type 0
IsWalk whole left passed = whole ≡ left ++ passed

-- WAYS

-- nothing is left of no marks
pub past-nothing : (name : List Mark) → past name [] ≡ []
unfolding past
past-nothing [] = refl
past-nothing (mark ∷ name) = refl

-- nothing more in common, whatever stands behind
past-behind : (front name trail behind : List Mark) → ((shared : List Mark) → IsPrefix shared (front ++ name) → IsPrefix shared (front ++ trail) → IsPrefix shared front) → (length trail ≡ 0 → length name ≡ 0)
    → past name (trail ++ behind) ≡ trail ++ behind
unfolding past
past-behind front [] trail behind longest enough = refl
past-behind front (mark ∷ name) [] behind longest enough = let none = enough refl in absurd (omega (arith, none))
past-behind front (mark ∷ name) (first ∷ trail) behind longest enough =
    elim (cases_Bool (same_mark mark first)) [
      | inl is ↦ absurd (no-more front name trail mark first longest is)
      | inr is ↦ cond-false _ _ _ is
    ]

-- what is left of marks that end behind what they have in common with the name's, or are no fewer than these
past-more : (name outer common : List Mark) → IsLongestCommonPrefix name outer common → (length common ≡ length outer → length name ≤ length common) → (behind : List Mark) → past name (outer ++ behind) ≡ drop (length common) outer ++ behind
past-more name outer common is enough behind =
    let mine : name ≡ common ++ is.0.0 = is.0.1 in
    let theirs : outer ≡ common ++ is.1.0 = is.1.1 in
    let ends : length is.1.0 ≡ 0 → length is.0.0 ≡ 0 = λ none.
    let fewer : length name ≤ length common = enough (omega (arith, none, ap length theirs, length-append common is.1.0)) in
    omega (arith, fewer, ap length mine, length-append common is.0.0)
    in
    ap (λ x. past x (outer ++ behind)) mine
    ∙ ap (λ x. past (common ++ is.0.0) (x ++ behind)) theirs
    ∙ ap (λ x. past (common ++ is.0.0) x) (append_assoc common is.1.0 behind)
    ∙ past-front common is.0.0 (is.1.0 ++ behind)
    ∙ past-behind common is.0.0 is.1.0 behind (λ shared left right. is.2 shared (subst (IsPrefix shared) (sym mine) left) (subst (IsPrefix shared) (sym theirs) right)) ends
    ∙ ap (λ x. x ++ behind) (sym (drop_at common is.1.0 (length common) refl))
    ∙ ap (λ x. drop (length common) x ++ behind) (sym theirs)

-- what becomes of trails in front of another one: the outermost loses what is the name's, and the base is put in front
pub leads : (name base outer behind marks common rest became : List Mark) → IsLongestCommonPrefix name outer common → (length common ≡ length outer → length name ≤ length common)
    → marks ≡ outer ++ behind → rest ≡ drop (length common) outer → became ≡ base ++ (rest ++ behind) → LeadsTo (way_of name base) marks became
leads name base outer behind marks common rest became is enough split left made others =
    ap (λ m. base ++ past name (m ++ others)) split
    ∙ ap (λ m. base ++ past name m) (append_assoc outer behind others)
    ∙ ap (λ m. base ++ m) (past-more name outer common is enough (behind ++ others))
    ∙ ap (λ m. base ++ (m ++ (behind ++ others))) (sym left)
    ∙ ap (λ m. base ++ m) (sym (append_assoc rest behind others))
    ∙ sym (append_assoc base (rest ++ behind) others)
    ∙ ap (λ m. m ++ others) (sym made)

-- ENDS

-- two lists with one mark more each
pub same-outer : (outer other : List Mark) (mark last : Mark) → outer ++ mark ∷ [] ≡ other ++ last ∷ [] → outer ≡ other
same-outer [] [] mark last is = refl
same-outer [] (first ∷ other) mark last is = absurd (omega (arith, ap length is, length-append other (last ∷ [])))
same-outer (first ∷ outer) [] mark last is = absurd (omega (arith, ap length is, length-append outer (mark ∷ [])))
same-outer (first ∷ outer) (one ∷ other) mark last is =
    let same : first ≡ one = cc in
    let rest : outer ++ mark ∷ [] ≡ other ++ last ∷ [] = cc in
    let inner : outer ≡ other = same-outer outer other mark last rest in
    cc

-- the first mark is that of a beginning
pub first-front : (front whole : List Mark) → IsPrefix front whole → (length front ≡ 0 → whole ≡ []) → slice_get front 0 ≡ slice_get whole 0
first-front [] whole is all = ap (λ (marks : List Mark). slice_get marks 0) (sym (all refl))
first-front (mark ∷ marks) whole is all = ap (λ (marks : List Mark). slice_get marks 0) (sym is.1)
