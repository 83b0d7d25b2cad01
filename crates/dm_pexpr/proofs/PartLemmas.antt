-- What is put together of parts.
use Rattle.std.proofs.Common.{◌≡◌, ◌≤◌, ℕ, Bool, true, false, List, ◌++◌, length, Option, Some, None, nat_le, refl, sym, ap, ◌∙◌, subst, arith, if◌then◌else◌}
use Rattle.dm_token.specs.Limits.{greatest_height}
use Rattle.dm_syn.specs.declared.declared.Declared.{Declared}
use Rattle.dm_syn.specs.Sources.{Source}
use Rattle.dm_pexpr.specs.declared.part.Part.{Part}
use Rattle.dm_pexpr.specs.Parsing.{checked}
use Rattle.dm_pexpr.specs.Parts.{Kind, IsPart, Gives}
use Rattle.dm_pexpr.proofs.Soundness.{le-from}

-- a part that is no higher than the greatest height
chosen : {A T : Type 0} (kind : Kind A T) (source : Source) (before after : List Declared) (part : Part A) (test : Bool)
    → (test ≡ true → part.height ≤ kind.highest) → kind.begins part.tree ≡ kind.first (kind.view part.tree) → part.height ≡ kind.height (kind.view part.tree) → part.after ≡ kind.after (kind.view part.tree)
    → part.after ≤ length source.tokens → after ≡ kind.declares (kind.view part.tree) ++ before
    → Gives kind source before after (if test then Some part else None) (if test then Some (kind.view part.tree) else None)
chosen kind source before after part true low starts high ends within scoped =
    record { read = refl; starts = starts; high = high; low = low refl; ends = ends; within = within; scoped = scoped }
chosen kind source before after part false low starts high ends within scoped = refl

pub checked-gives : {A T : Type 0} (kind : Kind A T) (source : Source) (before after : List Declared) (part : Part A) (tree : T)
    → kind.view part.tree ≡ tree → kind.begins part.tree ≡ kind.first tree → part.height ≡ kind.height tree → part.after ≡ kind.after tree
    → part.after ≤ length source.tokens → after ≡ kind.declares tree ++ before → greatest_height ≤ kind.highest
    → Gives kind source before after (if nat_le part.height greatest_height then Some part else None) (checked (kind.height tree) tree)
checked-gives kind source before after part tree seen starts high ends within scoped far =
    subst (λ t. kind.begins part.tree ≡ kind.first t → part.height ≡ kind.height t → part.after ≡ kind.after t → after ≡ kind.declares t ++ before
    → Gives kind source before after (if nat_le part.height greatest_height then Some part else None) (checked (kind.height t) t)) seen
    (λ starts high ends scoped. subst (λ h. Gives kind source before after (if nat_le part.height greatest_height then Some part else None) (if nat_le h greatest_height then Some (kind.view part.tree) else None)) high
    (chosen kind source before after part (nat_le part.height greatest_height) (λ is. let low = le-from part.height greatest_height is in omega (arith, low)) starts high ends within scoped))
    starts high ends scoped

-- a part that is made, unless it is too high
pub made-gives : {A T : Type 0} (kind : Kind A T) (source : Source) (before after : List Declared) (made : Option (Part A)) (own : A) (height end : ℕ) (tree : T) (wanted : Option T)
    → made ≡ (if nat_le height greatest_height then Some (record { tree = own; height = height; after = end }) else None)
    → wanted ≡ checked (kind.height tree) tree
    → kind.view own ≡ tree → kind.begins own ≡ kind.first tree → height ≡ kind.height tree → end ≡ kind.after tree → end ≤ length source.tokens → after ≡ kind.declares tree ++ before → greatest_height ≤ kind.highest
    → Gives kind source before after made wanted
made-gives kind source before after made own height end tree wanted is wants seen starts high ends within scoped far =
    subst (λ w. Gives kind source before after made w) (sym wants)
    (subst (λ m. Gives kind source before after m (checked (kind.height tree) tree)) (sym is)
    (checked-gives kind source before after (record { tree = own; height = height; after = end }) tree seen starts high ends within scoped far))

-- a part that is there
pub part-of : {A T : Type 0} (kind : Kind A T) (source : Source) (before after : List Declared) (found : Option (Part A)) (part : Part A) (wanted : Option T)
    → found ≡ Some part → Gives kind source before after found wanted → IsPart kind source before after part wanted
part-of kind source before after found part wanted is given = subst (λ o. Gives kind source before after o wanted) is given

-- a part that is made, whatever its height
pub part-is : {A T : Type 0} (kind : Kind A T) (source : Source) (before after : List Declared) (own : A) (height end : ℕ) (tree : T) (wanted : Option T)
    → wanted ≡ Some tree → kind.view own ≡ tree → kind.begins own ≡ kind.first tree → height ≡ kind.height tree → height ≤ kind.highest → end ≡ kind.after tree
    → end ≤ length source.tokens → after ≡ kind.declares tree ++ before
    → IsPart kind source before after (record { tree = own; height = height; after = end }) wanted
part-is kind source before after own height end tree wanted wants seen starts high low ends within scoped = record {
  read = wants ∙ ap (λ t. Some t) (sym seen);
  starts = starts ∙ ap (λ t. kind.first t) (sym seen);
  high = high ∙ ap (λ t. kind.height t) (sym seen);
  low = low;
  ends = ends ∙ ap (λ t. kind.after t) (sym seen);
  within = within;
  scoped = scoped ∙ ap (λ t. kind.declares t ++ before) (sym seen);
}

-- nothing is made where nothing is wanted
pub none-gives : {A T : Type 0} (kind : Kind A T) (source : Source) (before after : List Declared) (made : Option (Part A)) (wanted : Option T) → made ≡ None → wanted ≡ None → Gives kind source before after made wanted
none-gives kind source before after made wanted none absent = subst (λ m. Gives kind source before after m wanted) (sym none) absent
