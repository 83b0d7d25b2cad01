-- Layouts of const types, of arrays and of members.
use Rattle.std.proofs.Common.{◌≡◌, ℕ, suc, ◌+◌, ◌-◌, ◌*◌, ◌<◌, ◌≤◌, Bool as Truth, true, false, List, [], ◌∷◌, Option, Some, None, nat_le, cond, drop, length, get_or, drop-cons, refl, sym, ap, ◌∙◌, subst, arith}
use Rattle.std.specs.Option.{option_and_then}
use Rattle.std.proofs.lemmas.Option.{none-some}
use Rattle.dm_type.specs.declared.layout.Layout.{Layout}
use Rattle.dm_type.specs.declared.shape.Content.{Content}
use Rattle.dm_type.specs.declared.shape.Member.{Member}
use Rattle.std.specs.Prelude.{IfSome}
use Rattle.std.proofs.lemmas.Bool.{le-leb, leb-true, leb-false}
use Rattle.std.proofs.Math.Nat.{div-add-mod, mod-lt, le-max_left}
use Rattle.dm_int.specs.declared.Kind.{Kind}
use Rattle.dm_int.specs.declared.Kind.TheVariants.{Bool}
use Rattle.dm_int.specs.Kinds as kinds
use Rattle.dm_type.specs.CTypes.{CType, void, integer, pointer, array, struct, function, const, with_const}
use Rattle.dm_type.specs.Tables.{Table, type_of, content_of}
use Rattle.dm_token.specs.Limits.{most_type_bytes}
use Rattle.dm_type.specs.Layouts.{layout_of, times, if_fits, repeated, scalar, joined, followed_by, padded, round_up}
use Rattle.dm_type.specs.Sound.{IsSound, IsWithin}
use Rattle.dm_type.specs.TableLaws.{injected}

-- const changes no layout
pub layout-const : (table : Table) (type : CType) → layout_of table (with_const type) ≡ layout_of table type
layout-const table void = refl
layout-const table (integer kind) = refl
layout-const table (pointer type) = refl
layout-const table (array type length) = ap (times length) (layout-const table type)
layout-const table (struct number) = refl
layout-const table (function result parameters) = refl
layout-const table (const type) = refl

-- once is as it is
pub times-one : (layout : Layout) → layout.size ≤ most_type_bytes → if_fits (repeated 1 layout) ≡ Some layout
times-one layout fits =
    let one : 1 * layout.size ≡ layout.size = omega arith in
    ap (λ n. cond (nat_le n most_type_bytes) (Some (record { size = n; alignment = layout.alignment })) None) one
    ∙ ap (λ b. cond b (Some layout) None) (le-leb layout.size most_type_bytes fits)

-- what fits is itself, and is no larger than the greatest size
fits-same : (layout other : Layout) → if_fits layout ≡ Some other → (layout ≡ other) × (layout.size ≤ most_type_bytes)
fits-same layout other e = go (nat_le layout.size most_type_bytes) refl e
  where
    go : (b : Truth) → nat_le layout.size most_type_bytes ≡ b → cond b (Some layout) None ≡ Some other → (layout ≡ other) × (layout.size ≤ most_type_bytes)
    go true le is = (injected layout other is, leb-true layout.size most_type_bytes le)
    go false le is = absurd (none-some other is)

-- what is too large doesn't fit
pub fits-not : (layout : Layout) → most_type_bytes < layout.size → if_fits layout ≡ None
fits-not layout over = go (nat_le layout.size most_type_bytes) refl
  where
    go : (b : Truth) → nat_le layout.size most_type_bytes ≡ b → cond b (Some layout) None ≡ None
    go true le = absurd (let fits = leb-true layout.size most_type_bytes le in omega (arith, fits, over))
    go false le = refl

pub over-fits : (layout : Layout) → if_fits layout ≡ None → most_type_bytes < layout.size
over-fits layout e = go (nat_le layout.size most_type_bytes) refl e
  where
    go : (b : Truth) → nat_le layout.size most_type_bytes ≡ b → cond b (Some layout) None ≡ None → most_type_bytes < layout.size
    go true le is = absurd (none-some layout (sym is))
    go false le is = leb-false layout.size most_type_bytes le

-- the bounds that a layout keeps
abbrev pub Bounds : Layout → Type 0
Bounds layout = (layout.size ≤ most_type_bytes) × (0 < layout.alignment)

kind-bounds : (kind : Kind) → Bounds (scalar (kinds.size kind))
kind-bounds Bool = (omega arith, omega arith)
kind-bounds kind = (omega arith, omega arith)

repeated-bounds : (count : ℕ) (element : Option Layout) (layout : Layout) → ((one : Layout) → element ≡ Some one → Bounds one) → times (Some count) element ≡ Some layout → Bounds layout
repeated-bounds count None layout inner e = absurd (none-some layout e)
repeated-bounds count (Some one) layout inner e =
    let is = fits-same (repeated count one) layout e in
    subst Bounds is.0 (is.1, (inner one refl).1)

content-bounds : (table : Table) (number : ℕ) (content : Option Content) (layout : Layout) → IsSound table → content_of table number ≡ content
    → option_and_then (λ one. one.layout) content ≡ Some layout → Bounds layout
content-bounds table number None layout sound is e = absurd (none-some layout e)
content-bounds table number (Some content) layout sound is e =
    let within : IsWithin layout = subst (λ o. IfSome o IsWithin) e (sound.contents number content is).1 in
    (within.fits, within.aligned)

pub layout-bounds : (table : Table) (type : CType) (layout : Layout) → IsSound table → layout_of table type ≡ Some layout → Bounds layout
layout-bounds table void layout sound e = absurd (none-some layout e)
layout-bounds table (integer kind) layout sound e = subst Bounds (injected (scalar (kinds.size kind)) layout e) (kind-bounds kind)
layout-bounds table (pointer type) layout sound e = subst Bounds (injected (scalar 8) layout e) (omega arith, omega arith)
layout-bounds table (array type None) layout sound e = absurd (none-some layout e)
layout-bounds table (array type (Some count)) layout sound e = repeated-bounds count (layout_of table type) layout (λ one is. layout-bounds table type one sound is) e
layout-bounds table (struct number) layout sound e = content-bounds table number (content_of table number) layout sound refl e
layout-bounds table (function result parameters) layout sound e = absurd (none-some layout e)
layout-bounds table (const type) layout sound e = layout-bounds table type layout sound e

-- a layout of a sound table, once
pub times-once : (table : Table) (type : CType) → IsSound table → layout_of table type ≡ times (Some 1) (layout_of table type)
times-once table type sound = go (layout_of table type) refl
  where
    go : (found : Option Layout) → layout_of table type ≡ found → found ≡ times (Some 1) found
    go None is = refl
    go (Some layout) is = sym (times-one layout (layout-bounds table type layout sound is).0)

-- rounding up makes no smaller
pub round-up : (alignment n : ℕ) → 0 < alignment → n ≤ round_up alignment n
round-up alignment n aligned =
    let parts = div-add-mod (n + alignment - 1) alignment in
    let rest = mod-lt (n + alignment - 1) aligned in
    omega (arith, aligned, parts, rest)

-- a member behind what is too large doesn't fit, whatever stands behind it
joined-behind : (table : Table) (member : Member) (members : List Member) (before : Layout) → IsSound table → most_type_bytes < before.size → 0 < before.alignment
    → ((behind : Layout) → most_type_bytes < behind.size → 0 < behind.alignment → option_and_then (λ layout. if_fits (padded layout)) (joined table behind members) ≡ None)
    → (found : Option Layout) → layout_of table (type_of table member.kind) ≡ found
    → option_and_then (λ layout. if_fits (padded layout)) (option_and_then (λ layout. joined table (followed_by before layout) members) found) ≡ None
joined-behind table member members before sound over aligned rest None is = refl
joined-behind table member members before sound over aligned rest (Some layout) is =
    let up = round-up layout.alignment before.size (layout-bounds table (type_of table member.kind) layout sound is).1 in
    let greater = le-max_left before.alignment layout.alignment in
    rest (followed_by before layout) (omega (arith, over, up)) (omega (arith, aligned, greater))

-- members behind what is too large don't fit
pub joined-over : (table : Table) (members : List Member) (before : Layout) → IsSound table → most_type_bytes < before.size → 0 < before.alignment
    → option_and_then (λ layout. if_fits (padded layout)) (joined table before members) ≡ None
joined-over table [] before sound over aligned =
    let up = round-up before.alignment before.size aligned in
    fits-not (padded before) (omega (arith, over, up))
joined-over table (member ∷ members) before sound over aligned =
    joined-behind table member members before sound over aligned (λ behind. joined-over table members behind sound) (layout_of table (type_of table member.kind)) refl

-- members behind a member
pub joined-next : (table : Table) (members : List Member) (k : ℕ) (member : Member) (before layout : Layout) → k < length members → member ≡ get_or members k member
    → Some layout ≡ layout_of table (type_of table member.kind) → joined table before (drop k members) ≡ joined table (followed_by before layout) (drop (suc k) members)
joined-next table members k member before layout inside at is =
    let cut : drop k members ≡ member ∷ drop (suc k) members = drop-cons members k member inside ∙ ap (λ m. m ∷ drop (suc k) members) (sym at) in
    ap (joined table before) cut ∙ ap (option_and_then (λ one. joined table (followed_by before one) (drop (suc k) members))) (sym is)
