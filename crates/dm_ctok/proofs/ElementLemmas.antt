-- Elements of a literal, one after another.
use Rattle.std.proofs.Common.{◌≡◌, ℕ, zero, suc, ◌<◌, ◌≤◌, List, [], ◌∷◌, ◌++◌, length, take, drop, Option, None, Some, IfSome, option_map, refl, sym, ◌∙◌, ap, subst, arith, length-drop, append_assoc, append-nil}
use Rattle.std.specs.Option.{option_and_then}
use Rattle.std.specs.Prelude.{◌==◌}
use Rattle.std.proofs.lemmas.Bool.{cond_both}
use Rattle.dm_ctok.specs.Digits.{is_digit, value_of}
use Rattle.dm_ctok.specs.Escapes.{simple_escape, numeric, octal_escape, hexadecimal_escape, escape, element, at_most, elements, single, put_behind}

-- what stands behind an element isn't longer than bytes
abbrev pub Within : List ℕ → Option (ℕ × List ℕ) → Type 0
Within bytes found = IfSome found (λ (p : ℕ × List ℕ). length p.1 ≤ length bytes)

-- behind nothing there is no more than before
within-numeric : (base count : ℕ) (bytes : List ℕ) → Within bytes (numeric base count bytes)
unfolding numeric
within-numeric base count bytes = cond_both _ (Some (value_of base (take count bytes), drop count bytes)) None (Within bytes) (λ _. omega (arith, length-drop count bytes)) (λ _. tt)

-- longer bytes hold what shorter ones hold
within-more : (bytes longer : List ℕ) (found : Option (ℕ × List ℕ)) → length bytes ≤ length longer → Within bytes found → Within longer found
within-more bytes longer None less h = tt
within-more bytes longer (Some p) less h = omega (arith, h, less)

-- a simple escape takes one byte
within-simple : (bytes : List ℕ) (found : Option ℕ) → Within bytes (option_map (λ value. (value, bytes)) found)
within-simple bytes None = tt
within-simple bytes (Some value) = omega arith

-- an escape sequence
within-escape : (bytes : List ℕ) → Within bytes (escape bytes)
unfolding escape octal_escape hexadecimal_escape
within-escape [] = tt
within-escape (byte ∷ bytes) =
    cond_both (is_digit 8 byte) _ _ (Within (byte ∷ bytes))
    (λ _. within-numeric 8 _ (byte ∷ bytes))
    (λ _. cond_both (byte == 120) _ _ (Within (byte ∷ bytes))
    (λ _. within-more bytes (byte ∷ bytes) _ (omega arith) (within-numeric 16 _ bytes))
    (λ _. within-more bytes (byte ∷ bytes) _ (omega arith) (within-simple bytes (simple_escape byte))))

-- an element has at least one byte
abbrev pub Shorter : List ℕ → Option (ℕ × List ℕ) → Type 0
Shorter bytes found = IfSome found (λ (p : ℕ × List ℕ). length p.1 < length bytes)

-- bytes behind the first are fewer
shorter-within : (byte : ℕ) (bytes : List ℕ) (found : Option (ℕ × List ℕ)) → Within bytes found → Shorter (byte ∷ bytes) found
shorter-within byte bytes None h = tt
shorter-within byte bytes (Some p) h = omega (arith, h)

pub shorter-element : (bytes : List ℕ) → Shorter bytes (element bytes)
unfolding element
shorter-element [] = tt
shorter-element (byte ∷ bytes) =
    cond_both (byte == 92) _ _ (Shorter (byte ∷ bytes)) (λ _. shorter-within byte bytes _ (within-escape bytes)) (λ _. omega arith)

-- an element that is there has at least one byte
pub element-shorter : (bytes behind : List ℕ) (value : ℕ) → element bytes ≡ Some (value, behind) → length behind < length bytes
element-shorter bytes behind value is = let P : Option (ℕ × List ℕ) → Type 0 = Shorter bytes in subst P is (shorter-element bytes)

-- two functions that agree on what is there give the same
and_then-same : {X Y : Type 0} (o : Option X) (f g : X → Option Y) → ((x : X) → o ≡ Some x → f x ≡ g x) → option_and_then f o ≡ option_and_then g o
and_then-same None f g same = refl
and_then-same (Some x) f g same = same x refl

-- as many elements as bytes suffice
enough : (n m : ℕ) (bytes : List ℕ) → length bytes ≤ n → length bytes ≤ m → at_most n bytes ≡ at_most m bytes
unfolding at_most
enough n m [] few less = refl
enough zero m (byte ∷ bytes) few less = absurd (omega arith)
enough (suc n) zero (byte ∷ bytes) few less = absurd (omega arith)
enough (suc n) (suc m) (byte ∷ bytes) few less =
    and_then-same (element (byte ∷ bytes)) _ _
    (λ p is. let fewer : length p.1 < length (byte ∷ bytes) = element-shorter (byte ∷ bytes) p.1 p.0 is in
    ap (option_map (λ values. p.0 ∷ values)) (enough n m p.1 (omega arith) (omega arith)))

-- no elements
pub elements-none : elements [] ≡ Some []
unfolding elements at_most
elements-none = refl

-- one element and others
pub elements-some : (bytes behind : List ℕ) (value : ℕ) → element bytes ≡ Some (value, behind) → elements bytes ≡ option_map (λ values. value ∷ values) (elements behind)
unfolding elements at_most element
elements-some [] behind value is = cc
elements-some (byte ∷ bytes) behind value is =
    let fewer : length behind < length (byte ∷ bytes) = element-shorter (byte ∷ bytes) behind value is in
    ap (option_and_then (λ (first : ℕ × List ℕ). option_map (λ values. first.0 ∷ values) (at_most (length bytes) first.1))) is
    ∙ ap (option_map (λ values. value ∷ values)) (enough (length bytes) (length behind) behind (omega arith) (omega arith))

-- bytes that begin with no element
pub elements-bad : (byte : ℕ) (bytes : List ℕ) → element (byte ∷ bytes) ≡ None → elements (byte ∷ bytes) ≡ None
unfolding elements at_most
elements-bad byte bytes is =
    ap (option_and_then (λ (first : ℕ × List ℕ). option_map (λ values. first.0 ∷ values) (at_most (length bytes) first.1))) is

-- where no element stands, there isn't one alone
pub single-none : (bytes : List ℕ) → element bytes ≡ None → option_and_then single (elements bytes) ≡ None
single-none [] is = ap (option_and_then single) elements-none
single-none (byte ∷ bytes) is = ap (option_and_then single) (elements-bad byte bytes is)

-- one element and nothing behind it
pub single-one : (bytes behind : List ℕ) (value : ℕ) → element bytes ≡ Some (value, behind) → behind ≡ [] → option_and_then single (elements bytes) ≡ Some value
single-one bytes behind value is nothing =
    ap (option_and_then single) (elements-some bytes behind value is ∙ ap (option_map (λ values. value ∷ values)) (ap elements nothing ∙ elements-none))

-- two values aren't one
two-values : (first second : ℕ) (values : Option (List ℕ)) → option_and_then single (option_map (λ values. first ∷ values) (option_map (λ values. second ∷ values) values)) ≡ None
two-values first second None = refl
two-values first second (Some values) = refl

-- one element, and more behind it
more-than-one : (first byte : ℕ) (bytes : List ℕ) (found : Option (ℕ × List ℕ)) → element (byte ∷ bytes) ≡ found → option_and_then single (option_map (λ values. first ∷ values) (elements (byte ∷ bytes))) ≡ None
more-than-one first byte bytes None is = ap (λ values. option_and_then single (option_map (λ values. first ∷ values) values)) (elements-bad byte bytes is)
more-than-one first byte bytes (Some p) is =
    ap (λ values. option_and_then single (option_map (λ values. first ∷ values) values)) (elements-some (byte ∷ bytes) p.1 p.0 is) ∙ two-values first p.0 (elements p.1)

-- one element isn't alone where something stands behind it
pub single-more : (bytes behind : List ℕ) (value : ℕ) → element bytes ≡ Some (value, behind) → 0 < length behind → option_and_then single (elements bytes) ≡ None
single-more bytes [] value is some = absurd (omega arith)
single-more bytes (byte ∷ behind) value is some =
    ap (option_and_then single) (elements-some bytes (byte ∷ behind) value is) ∙ more-than-one value byte behind (element (byte ∷ behind)) refl

-- one value more goes behind those that are there
values-more : (before : List ℕ) (value : ℕ) (values : Option (List ℕ)) → put_behind before (option_map (λ values. value ∷ values) values) ≡ put_behind (before ++ value ∷ []) values
values-more before value None = refl
values-more before value (Some values) = ap Some (sym (append_assoc before (value ∷ []) values))

-- the value of one element goes behind those that are there
pub put_behind-some : (before bytes behind : List ℕ) (value : ℕ) → element bytes ≡ Some (value, behind) → put_behind before (elements bytes) ≡ put_behind (before ++ value ∷ []) (elements behind)
put_behind-some before bytes behind value is = ap (put_behind before) (elements-some bytes behind value is) ∙ values-more before value (elements behind)

-- what is put behind nothing that can be read can't be read
unread : (before : List ℕ) (values : Option (List ℕ)) → put_behind before values ≡ None → values ≡ None
unread before None is = refl
unread before (Some values) is = cc

-- bytes that begin with no element
pub put_behind-bad : (first before whole bytes : List ℕ) → 0 < length bytes → element bytes ≡ None → put_behind first (elements whole) ≡ put_behind before (elements bytes) → elements whole ≡ None
put_behind-bad first before whole [] some is same = absurd (omega arith)
put_behind-bad first before whole (byte ∷ bytes) some is same = unread first (elements whole) (same ∙ ap (put_behind before) (elements-bad byte bytes is))

-- nothing is put behind
pub put_behind-none : (before bytes : List ℕ) → bytes ≡ [] → put_behind before (elements bytes) ≡ Some before
put_behind-none before bytes nothing = ap (put_behind before) (ap elements nothing ∙ elements-none) ∙ ap Some (append-nil before)
