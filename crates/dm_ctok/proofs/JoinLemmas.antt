-- Joining literals.
use Rattle.std.proofs.Common.{◌≡◌, ◌+◌, Bool, true, false, ◌==◌, ◌&&◌, List, [], ◌∷◌, ◌++◌, length, Option, Some, None, refl, ap, sym, subst, ◌∙◌, arith, length-append, append_assoc, append-nil}
use Rattle.std.proofs.lemmas.Bool.{cond_both, cond-true, cond-false, and_parts, eqb-true, false≢true}
use Rattle.std.proofs.lemmas.Bool.Decides.{nat_tests}
use Rattle.std.proofs.lemmas.List.{nil_from_length}
use Rattle.dm_token.specs.Prefixes.{IsPrefix, IsLongestCommonPrefix}
use Rattle.dm_token.specs.declared.expansion.Mark.{Mark}
use Rattle.dm_token.specs.declared.expansion.Mark.TheVariants.{Expansion, Argument}
use Rattle.dm_token.specs.declared.token.CToken.{CToken}
use Rattle.dm_ctok.specs.Joins.{is_same, common, is_literal_class, joined, onto, joins}
use Rattle.dm_ctok.specs.declared.joining.Pending.{Pending}
use Rattle.dm_ctok.specs.Pending.{as_token, as_list, resumed}

-- ---- equal marks

same-mark : (x : Mark) → is_same x x ≡ true
same-mark (Expansion a b) = grind (arith, nat_tests)
same-mark (Argument a b) = grind (arith, nat_tests)

mark-same : (x y : Mark) → is_same x y ≡ true → x ≡ y
mark-same (Expansion a b) (Expansion c d) same =
    let parts : ((a == c) ≡ true) × ((b == d) ≡ true) = and_parts _ _ same in
    let first : a ≡ c = eqb-true a c parts.0 in
    let second : b ≡ d = eqb-true b d parts.1 in
    cc
mark-same (Expansion a b) (Argument c d) same = absurd (false≢true same)
mark-same (Argument a b) (Expansion c d) same = absurd (false≢true same)
mark-same (Argument a b) (Argument c d) same =
    let parts : ((a == c) ≡ true) × ((b == d) ≡ true) = and_parts _ _ same in
    let first : a ≡ c = eqb-true a c parts.0 in
    let second : b ≡ d = eqb-true b d parts.1 in
    cc

-- ---- the longest common prefix

-- it begins with a mark that both begin with
common-same : (x : Mark) (a b : List Mark) → common (x ∷ a) (x ∷ b) ≡ x ∷ common a b
unfolding common
common-same x a b = cond-true _ _ _ (same-mark x)

-- a list that is part of both
prefix-none : (a : List Mark) → IsPrefix [] a
prefix-none a = (a, refl)

prefix-more : (x : Mark) (a b : List Mark) → IsPrefix a b → IsPrefix (x ∷ a) (x ∷ b)
prefix-more x a b h = (h.0, ap (λ l. x ∷ l) h.1)

common-left : (a b : List Mark) → IsPrefix (common a b) a
unfolding common
common-left [] b = prefix-none []
common-left (x ∷ a) [] = prefix-none (x ∷ a)
common-left (x ∷ a) (y ∷ b) =
    cond_both (is_same x y) _ _ (λ l. IsPrefix l (x ∷ a)) (λ _. prefix-more x (common a b) a (common-left a b)) (λ _. prefix-none (x ∷ a))

common-right : (a b : List Mark) → IsPrefix (common a b) b
unfolding common
common-right [] b = prefix-none b
common-right (x ∷ a) [] = prefix-none []
common-right (x ∷ a) (y ∷ b) =
    cond_both (is_same x y) _ _ (λ l. IsPrefix l (y ∷ b))
    (λ same. let P : Mark → Type 0 = λ z. IsPrefix (x ∷ common a b) (z ∷ b) in
    subst P (mark-same x y same) (prefix-more x (common a b) b (common-right a b)))
    (λ _. prefix-none (y ∷ b))

-- a list that both begin with is how it begins
common-whole : (shared r s : List Mark) → IsPrefix shared (common (shared ++ r) (shared ++ s))
common-whole [] r s = prefix-none (common r s)
common-whole (x ∷ shared) r s =
    let P : List Mark → Type 0 = IsPrefix (x ∷ shared) in
    subst P (sym (common-same x (shared ++ r) (shared ++ s))) (prefix-more x shared _ (common-whole shared r s))

common-longest : (a b shared : List Mark) → IsPrefix shared a → IsPrefix shared b → IsPrefix shared (common a b)
common-longest a b shared h k =
    let P : List Mark → Type 0 = λ l. IsPrefix shared (common l b) in
    let Q : List Mark → Type 0 = λ l. IsPrefix shared (common (shared ++ h.0) l) in
    subst P (sym h.1) (subst Q (sym k.1) (common-whole shared h.0 k.0))

-- two lists that begin with one another are equal
both-ways : (a b : List Mark) → IsPrefix a b → IsPrefix b a → a ≡ b
both-ways a b h k =
    let long : length b ≡ length a + length h.0 = ap length h.1 ∙ length-append a h.0 in
    let back : length a ≡ length b + length k.0 = ap length k.1 ∙ length-append b k.0 in
    let nothing : h.0 ≡ [] = nil_from_length h.0 (omega arith) in
    sym (h.1 ∙ (ap (λ l. a ++ l) nothing ∙ append-nil a))

-- it is a longest common prefix
pub common-is_longest : (a b : List Mark) → IsLongestCommonPrefix a b (common a b)
common-is_longest a b = (common-left a b, common-right a b, common-longest a b)

-- it is the only longest common prefix
pub common-is : (a b c : List Mark) → IsLongestCommonPrefix a b c → c ≡ common a b
common-is a b c h = both-ways c (common a b) (common-longest a b c h.0 h.1) (h.2 (common a b) (common-left a b) (common-right a b))

-- prefixes of prefixes
prefix-trans : (a b c : List Mark) → IsPrefix a b → IsPrefix b c → IsPrefix a c
prefix-trans a b c h k = (h.0 ++ k.0, k.1 ∙ (ap (λ l. l ++ k.0) h.1 ∙ append_assoc a h.0 k.0))

-- joining from the left or from the right gives the same
common-assoc : (a b c : List Mark) → common (common a b) c ≡ common a (common b c)
common-assoc a b c =
    let left : List Mark = common (common a b) c in
    let right : List Mark = common a (common b c) in
    both-ways (common (common a b) c) (common a (common b c))
    (common-longest a (common b c) (common (common a b) c)
    (prefix-trans _ _ a (common-left (common a b) c) (common-left a b))
    (common-longest b c (common (common a b) c) (prefix-trans _ _ b (common-left (common a b) c) (common-right a b)) (common-right (common a b) c)))
    (common-longest (common a b) c (common a (common b c))
    (common-longest a b (common a (common b c)) (common-left a (common b c)) (prefix-trans _ _ b (common-right a (common b c)) (common-left b c)))
    (prefix-trans _ _ c (common-right a (common b c)) (common-right b c)))

-- ---- tokens

joined-assoc : (a b c : CToken) → joined (joined a b) c ≡ joined a (joined b c)
unfolding joined
joined-assoc a b c =
    let spellings = append_assoc a.spelling b.spelling c.spelling in
    let trails = common-assoc a.trail b.trail c.trail in
    cc

-- tests of two
both : (x y : Bool) → x ≡ true → y ≡ true → (x && y) ≡ true
both true true first second = refl
both true false first second = second
both false y first second = first

not_left : (x y : Bool) → x ≡ false → (x && y) ≡ false
not_left true y first = absurd (false≢true (sym first))
not_left false y first = refl

not_right : (x y : Bool) → y ≡ false → (x && y) ≡ false
not_right true y second = second
not_right false y second = refl

-- two literals and what stands behind them, a literal or not
onto-literals_by : (q : Bool) (a b c : CToken) (tokens : List CToken) → is_literal_class a.class ≡ true → is_literal_class b.class ≡ true → is_literal_class c.class ≡ q →
    onto a (onto b (c ∷ tokens)) ≡ onto (joined a b) (c ∷ tokens)
unfolding onto joined
onto-literals_by true a b c tokens first second third =
    let inner : onto b (c ∷ tokens) ≡ joined b c ∷ tokens = cond-true (is_literal_class b.class && is_literal_class c.class) _ _ (both _ _ second third) in
    let outer : onto a (joined b c ∷ tokens) ≡ joined a (joined b c) ∷ tokens = cond-true (is_literal_class a.class && is_literal_class b.class) _ _ (both _ _ first second) in
    let other : onto (joined a b) (c ∷ tokens) ≡ joined (joined a b) c ∷ tokens = cond-true (is_literal_class a.class && is_literal_class c.class) _ _ (both _ _ first third) in
    ap (onto a) inner ∙ (outer ∙ (ap (λ (t : CToken). t ∷ tokens) (sym (joined-assoc a b c)) ∙ sym other))
onto-literals_by false a b c tokens first second third =
    let inner : onto b (c ∷ tokens) ≡ b ∷ c ∷ tokens = cond-false (is_literal_class b.class && is_literal_class c.class) _ _ (not_right _ _ third) in
    let outer : onto a (b ∷ c ∷ tokens) ≡ joined a b ∷ c ∷ tokens = cond-true (is_literal_class a.class && is_literal_class b.class) _ _ (both _ _ first second) in
    let other : onto (joined a b) (c ∷ tokens) ≡ joined a b ∷ c ∷ tokens = cond-false (is_literal_class a.class && is_literal_class c.class) _ _ (not_right _ _ third) in
    ap (onto a) inner ∙ (outer ∙ sym other)

-- two literals and what stands behind them
onto-literals : (a b : CToken) (tokens : List CToken) → is_literal_class a.class ≡ true → is_literal_class b.class ≡ true → onto a (onto b tokens) ≡ onto (joined a b) tokens
unfolding onto
onto-literals a b [] first second = cond-true _ _ _ (both _ _ first second)
onto-literals a b (c ∷ tokens) first second = onto-literals_by (is_literal_class c.class) a b c tokens first second refl

-- a token before one that is no literal
onto-other : (a b : CToken) (tokens : List CToken) → is_literal_class b.class ≡ false → onto a (b ∷ tokens) ≡ a ∷ b ∷ tokens
unfolding onto
onto-other a b tokens other = cond-false _ _ _ (not_right _ _ other)

-- one that is no literal joins nothing
other-onto : (a : CToken) (tokens : List CToken) → is_literal_class a.class ≡ false → onto a tokens ≡ a ∷ tokens
unfolding onto
other-onto a [] other = refl
other-onto a (b ∷ tokens) other = cond-false _ _ _ (not_left _ _ other)

-- ---- an unfinished literal

-- another token ends it
pub resumed-other : (done more : List CToken) (pending : Option Pending) (made : CToken) → is_literal_class made.class ≡ false →
    resumed done (as_list pending) (made ∷ more) ≡ resumed ((done ++ as_list pending) ++ made ∷ []) [] more
unfolding resumed joins
resumed-other done more None made other =
    ap (λ l. done ++ l) (other-onto made (joins more) other)
    ∙ sym (append_assoc (done ++ []) (made ∷ []) (joins more) ∙ ap (λ l. l ++ (made ∷ joins more)) (append-nil done))
resumed-other done more (Some pending) made other =
    ap (λ l. done ++ l) (ap (onto (as_token pending)) (other-onto made (joins more) other) ∙ onto-other (as_token pending) made (joins more) other)
    ∙ sym (append_assoc (done ++ as_token pending ∷ []) (made ∷ []) (joins more) ∙ append_assoc done (as_token pending ∷ []) (made ∷ joins more))

-- a literal begins one
pub resumed-first : (done more : List CToken) (made : CToken) → resumed done [] (made ∷ more) ≡ resumed done (made ∷ []) more
unfolding resumed
resumed-first done more made = refl

-- a literal joins it
pub resumed-joined : (done more : List CToken) (pending made : CToken) → is_literal_class pending.class ≡ true → is_literal_class made.class ≡ true →
    resumed done (pending ∷ []) (made ∷ more) ≡ resumed done (joined pending made ∷ []) more
unfolding resumed joins
resumed-joined done more pending made first second = ap (λ l. done ++ l) (onto-literals pending made (joins more) first second)

-- the end ends it
pub resumed-end : (done : List CToken) (pending : Option Pending) → resumed done (as_list pending) [] ≡ done ++ as_list pending
unfolding resumed joins onto
resumed-end done None = refl
resumed-end done (Some pending) = refl
