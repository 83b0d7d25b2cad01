-- Steps from what the code finds to what the rules say.
use Rattle.std.specs.Prelude.{◌≡◌, ℕ, Bool, true, false, ◌&&◌, if◌then◌else◌, is_some, IsTrue, List, Option, Some, None, option_map, refl}
use Rattle.std.proofs.Common.{sym, ap, ◌∙◌}
use Rattle.dm_type.specs.declared.shape.Shape.{Shape}
use Rattle.dm_type.specs.CTypes.{CType}
use Rattle.dm_type.specs.Tables.{Table, type_of, IsId}
use Rattle.dm_tree.specs.declared.tree.Core.{Core, out-Core}
use Rattle.dm_tree.specs.Scenes.{is_integer}
use Rattle.dm_tree.specs.Trees.{kind_of}
use Rattle.dm_typing.specs.declared.known.Known.{Known as Held}
use Rattle.dm_typing.specs.Known.{Known}
use Rattle.dm_typing.specs.Conversions.{complete_target}
use Rattle.dm_typing.specs.Fitting.{IsNumbered}
use Rattle.dm_typing.specs.Rules.{indexed}
use Rattle.dm_typing.specs.Views.{Begins, type_over, view_over, known_over, seen, target_beside}
use Rattle.dm_typing.proofs.GivesLemmas.{complete-alone}
use Rattle.dm_typing.proofs.LaterLemmas.{type-later}
use Rattle.dm_typing.proofs.ValueLemmas.{kind-later}

-- ---- C11

-- what is found beside an integer
both-are : (found : Option CType) (whole : Bool) (to : CType) → Some to ≡ (if whole then found else None) → (Some to ≡ found) × ((is_some found && whole) ≡ true)
both-are (Some type) true to h = (h, refl)
both-are None true to h = absurd (cc)
both-are found false to h = absurd (cc)

not-both : (found : Option CType) (whole : Bool) → None ≡ (if whole then found else None) → (is_some found && whole) ≡ false
not-both (Some type) true h = absurd (cc)
not-both None true h = refl
not-both (Some type) false h = refl
not-both None false h = refl

abbrev either_way : Bool → Bool → CType → CType → Option CType
either_way one other a b = if one then Some a else if other then Some b else None

pub first-indexed : (known : Known) (a b to : CType) → Some to ≡ target_beside known a b → (Some a ≡ indexed known a b) × (complete_target known a ≡ Some to)
first-indexed known a b to h =
    let r = both-are (complete_target known a) (is_integer b) to h in
    (sym (ap (λ t. either_way t (is_some (complete_target known b) && is_integer a) a b) r.1), sym r.0)

pub second-indexed : (known : Known) (a b to : CType) → None ≡ target_beside known a b → Some to ≡ target_beside known b a → (Some b ≡ indexed known a b) × (complete_target known b ≡ Some to)
second-indexed known a b to neither h =
    let r = both-are (complete_target known b) (is_integer a) to h in
    (sym (ap (λ t. either_way t (is_some (complete_target known b) && is_integer a) a b) (not-both (complete_target known a) (is_integer b) neither) ∙ ap (λ t. either_way false t a b) r.1), sym r.0)

pub none-indexed : (known : Known) (a b : CType) → None ≡ target_beside known a b → None ≡ target_beside known b a → None ≡ indexed known a b
none-indexed known a b neither nor =
    sym (ap (λ t. either_way t (is_some (complete_target known b) && is_integer a) a b) (not-both (complete_target known a) (is_integer b) neither)
    ∙ ap (λ t. either_way false t a b) (not-both (complete_target known b) (is_integer a) nor))

-- whatever numbers come
indexed-alone : (held : Held) (later : List Shape) (a b : CType) → indexed (known_over later held) a b ≡ indexed (seen held) a b
indexed-alone held later a b =
    ap (λ t. either_way (is_some t && is_integer b) (is_some (complete_target (known_over later held) b) && is_integer a) a b) (complete-alone later held a)
    ∙ ap (λ t. either_way (is_some (complete_target (seen held) a) && is_integer b) (is_some t && is_integer a) a b) (complete-alone later held b)

indexed-over : (held : Held) (later : List Shape) (a b : Core) → Begins held.types.shapes later → IsNumbered held.types a → IsNumbered held.types b
    → indexed (known_over later held) (kind_of (view_over later a)) (kind_of (view_over later b)) ≡ indexed (seen held) (type_of held.types (out-Core a).kind) (type_of held.types (out-Core b).kind)
indexed-over held later a b begins left right =
    ap (λ t. indexed (known_over later held) t (kind_of (view_over later b))) (kind-later held.types.shapes later a begins left)
    ∙ ap (indexed (known_over later held) (type_of held.types (out-Core a).kind)) (kind-later held.types.shapes later b begins right)
    ∙ indexed-alone held later (type_of held.types (out-Core a).kind) (type_of held.types (out-Core b).kind)

pub index-later : (held : Held) (later : List Shape) (a b : Core) (kind : ℕ) → Begins held.types.shapes later → IsNumbered held.types a → IsNumbered held.types b
    → Some (type_of held.types kind) ≡ indexed (seen held) (type_of held.types (out-Core a).kind) (type_of held.types (out-Core b).kind) → IsId held.types kind
    → indexed (known_over later held) (kind_of (view_over later a)) (kind_of (view_over later b)) ≡ Some (type_over later kind)
index-later held later a b kind begins left right is inside =
    indexed-over held later a b begins left right ∙ (sym is ∙ ap Some (sym (type-later held.types.shapes later kind begins inside)))

pub index-none : (held : Held) (later : List Shape) (a b : Core) → Begins held.types.shapes later → IsNumbered held.types a → IsNumbered held.types b
    → None ≡ indexed (seen held) (type_of held.types (out-Core a).kind) (type_of held.types (out-Core b).kind)
    → indexed (known_over later held) (kind_of (view_over later a)) (kind_of (view_over later b)) ≡ None
index-none held later a b begins left right is = indexed-over held later a b begins left right ∙ sym is

pub number-target : (held : Held) (later : List Shape) (kind to : ℕ) → Begins held.types.shapes later → IsId held.types kind → IsId held.types to
    → complete_target (seen held) (type_of held.types kind) ≡ Some (type_of held.types to) → complete_target (known_over later held) (type_over later kind) ≡ Some (type_over later to)
number-target held later kind to begins inside within is =
    ap (complete_target (known_over later held)) (type-later held.types.shapes later kind begins inside)
    ∙ complete-alone later held (type_of held.types kind)
    ∙ (is ∙ ap Some (sym (type-later held.types.shapes later to begins within)))
