-- Pieces of a replacement list.
use Rattle.std.proofs.Common.{◌≡◌, ℕ, ◌<◌, ◌≤◌, Bool, List, [], ◌∷◌, ◌++◌, length, map, refl, sym, ap, ◌∙◌, arith, append_assoc, set as set_at, get_or, Ok}
use Rattle.dm_token.specs.declared.expansion.Mark.{Mark}
use Rattle.dm_token.specs.declared.expansion.Mark.TheVariants.{Argument}
use Rattle.dm_macro.specs.declared.role.Role.{Role}
use Rattle.dm_expand.specs.declared.substitute.Content as code_content
use Rattle.dm_expand.specs.declared.substitute.Content.TheVariants.{One, Tokens, Whole}
use Rattle.dm_expand.specs.Items.{Item, with_blank, first_with_blank}
use Rattle.dm_expand.specs.Trails.{past, body_trail, argument_trail}
use Rattle.dm_expand.specs.Ways.{Way, way_of, moved}
use Rattle.dm_macro.specs.Roles.{part_with}
use Rattle.dm_expand.specs.Works.{IsContent, content_value}
use Rattle.dm_expand.specs.Pastes.{Site, token, placemarker, operator, made}
use Rattle.std.specs.FinSet as set
use Rattle.dm_token.specs.declared.token.PpToken.{PpToken}
use Rattle.dm_token.specs.declared.token.PpKind.TheVariants.{Literal}
use Rattle.dm_expand.specs.Steps.{Progress, take_argument}
use Rattle.dm_macro.specs.Bodies.{plain, hash, beside, paste}
use Rattle.dm_expand.specs.Strings.{quoted}
use Rattle.dm_expand.specs.Substitution.{Expander, operands, filled, body_item, argument_for, argument_item, placed}
use Rattle.dm_expand.specs.ListViews.{fills}
use Rattle.dm_expand.proofs.ListLemmas.{map-same}

pub operands-nothing : (blank : Bool) (items : List Item) → length items ≡ 0 → operands blank items ≡ placemarker blank ∷ []
unfolding operands
operands-nothing blank [] none = refl
operands-nothing blank (item ∷ items) none = absurd (omega arith)

pub operands-some : (blank : Bool) (items : List Item) → 0 < length items → operands blank items ≡ map token items
unfolding operands
operands-some blank [] some = absurd (omega arith)
operands-some blank (item ∷ items) some = refl

pub first-nothing : (blank : Bool) (items : List Item) → length items < 1 → items ≡ first_with_blank blank items
unfolding first_with_blank
first-nothing blank [] few = refl
first-nothing blank (item ∷ items) few = absurd (omega arith)

pub first-some : (blank : Bool) (items : List Item) (first changed : Item) → 1 ≤ length items → first ≡ get_or items 0 first → changed ≡ with_blank blank first → set_at items 0 changed ≡ first_with_blank blank items
unfolding first_with_blank
first-some blank [] first changed some is with = absurd (omega arith)
first-some blank (item ∷ items) first changed some is with = ap (λ (x : Item). x ∷ items) (with ∙ ap (with_blank blank) is)

-- the way of an argument to one of its parameter's places
abbrev argument_way : Site → ℕ → ℕ → Way
argument_way site parameter occurrence = way_of site.name.trail (body_trail site.name.trail site.mark ++ Argument parameter occurrence ∷ [])

moved-item : (site : Site) (parameter occurrence : ℕ) (item : Item) → moved (argument_way site parameter occurrence) item ≡ argument_item site parameter occurrence item
unfolding argument_item argument_trail
moved-item site parameter occurrence item =
    ap (λ (trail : List Mark). record item { trail = trail }) (append_assoc (body_trail site.name.trail site.mark) (Argument parameter occurrence ∷ []) (past site.name.trail item.trail))

-- tokens that were led on their argument's way
pub moved-placed : (site : Site) (pp : PpToken) (parameter occurrence : ℕ) (items : List Item) → first_with_blank pp.blank_before (map (moved (argument_way site parameter occurrence)) items) ≡ placed site pp parameter occurrence items
unfolding placed
moved-placed site pp parameter occurrence items =
    ap (first_with_blank pp.blank_before) (map-same (moved (argument_way site parameter occurrence)) (argument_item site parameter occurrence) items (moved-item site parameter occurrence))

-- WHAT A PART BECOMES

operands-are_some : (blank : Bool) (items : List Item) → [] ≡ operands blank items → ⊥
unfolding operands
operands-are_some blank [] is = cc
operands-are_some blank (item ∷ items) is = cc

-- a part that is filled with the operand of `##` that an argument is
pub operand-is : (site : Site) (pp : PpToken) (role : Role) (p q : Progress) (content : code_content.Content) (blank : Bool) (items : List Item)
    → content_value content ≡ operands blank items → ((expander : Expander) → filled expander site (part_with pp role) p ≡ Ok (fills (operands blank items) q)) → IsContent site pp role p q content
operand-is site pp role p q (One piece) blank items is are = λ expander. are expander ∙ ap (λ xs. Ok (fills xs q)) (sym is)
operand-is site pp role p q (Tokens tokens) blank items is are = λ expander. are expander ∙ ap (λ xs. Ok (fills xs q)) (sym is)
operand-is site pp role p q (Whole parameter occurrence last) blank items is are = absurd (operands-are_some blank items is)

pub filled-plain : (expander : Expander) (site : Site) (pp : PpToken) (p : Progress) → filled expander site (plain pp) p ≡ Ok (fills (token (body_item site pp) ∷ []) p)
unfolding filled
filled-plain expander site pp p = refl

pub filled-paste : (expander : Expander) (site : Site) (pp : PpToken) (p : Progress) → filled expander site (paste pp) p ≡ Ok (fills (operator (body_item site pp) ∷ []) p)
unfolding filled
filled-paste expander site pp p = refl

pub filled-hash : (expander : Expander) (site : Site) (pp : PpToken) (parameter : ℕ) (p : Progress)
    → filled expander site (hash pp parameter) p ≡ Ok (fills (token (made site Literal (quoted (argument_for site parameter)) pp.blank_before set.empty) ∷ []) (take_argument (argument_for site parameter) p))
unfolding filled
filled-hash expander site pp parameter p = refl

pub filled-beside : (expander : Expander) (site : Site) (pp : PpToken) (parameter occurrence : ℕ) (p : Progress)
    → filled expander site (beside pp parameter occurrence) p ≡ Ok (fills (operands pp.blank_before (placed site pp parameter occurrence (argument_for site parameter))) (take_argument (argument_for site parameter) p))
unfolding filled
filled-beside expander site pp parameter occurrence p = refl
