-- Memory with one object more, or with a change of one.
use Rattle.std.proofs.Common.{◌≡◌, ℕ, zero, suc, ◌+◌, ◌<◌, ◌≤◌, ◌==◌, Bool, true, false, if◌then◌else◌, List, [], ◌∷◌, ◌++◌, length, Option, Some, None, option_map, slice_get, slice_set, refl, sym, subst, ap, ◌∙◌, arith, eq-eqb, ne_eqb}
use Rattle.std.proofs.lemmas.List.{set-set}
use Rattle.std.proofs.lemmas.Option.{none-some, slice_get_past}
use Rattle.dm_type.specs.Tables.{Table, IsId}
use Rattle.dm_meaning.specs.Memory as memory
use Rattle.dm_meaning.specs.Values as values
use Rattle.dm_meaning.specs.Memory.{Memory, look_up, changed_block}
use Rattle.dm_memory.specs.declared.blocks.Block.{Block}
use Rattle.dm_value.specs.declared.place.At.{At}
use Rattle.dm_value.specs.declared.place.Name.TheVariants.{Numbered}
use Rattle.dm_value.specs.declared.value.Value.{Value}
use Rattle.dm_memory.specs.Blocks.{view_of_block, numbered_from, view_of_blocks, look_up-view, AreKnown, IsExchanged}
use Rattle.dm_value.specs.Places.{view_of_at, view_of_name}
use Rattle.dm_value.specs.Views.{view_of_value}

-- one more object is the newest, and has the next number
more-from : (table : Table) (m : ℕ) (blocks : List Block) (block : Block) (older : Memory)
    → numbered_from table m (blocks ++ block ∷ []) older ≡ (m + length blocks, view_of_block table block) ∷ numbered_from table m blocks older
more-from table m [] block older = let e : m ≡ m + 0 = omega arith in ap (λ n. (n, view_of_block table block) ∷ older) e
more-from table m (first ∷ blocks) block older =
    let e : suc m + length blocks ≡ m + suc (length blocks) = omega arith in
    more-from table (suc m) blocks block ((m, view_of_block table first) ∷ older)
    ∙ ap (λ n. (n, view_of_block table block) ∷ numbered_from table (suc m) blocks ((m, view_of_block table first) ∷ older)) e

pub more-view : (table : Table) (blocks : List Block) (block : Block) → view_of_blocks table (blocks ++ block ∷ []) ≡ (length blocks, view_of_block table block) ∷ view_of_blocks table blocks
more-view table blocks block =
    let e : 0 + length blocks ≡ length blocks = omega arith in
    more-from table 0 blocks block [] ∙ ap (λ n. (n, view_of_block table block) ∷ view_of_blocks table blocks) e

-- a change of an older object
change-below : (table : Table) (m n : ℕ) (change : memory.Block → memory.Block) (blocks : List Block) (older : Memory) → n < m
    → changed_block n change (numbered_from table m blocks older) ≡ numbered_from table m blocks (changed_block n change older)
change-below table m n change [] older less = refl
change-below table m n change (first ∷ blocks) older less =
    change-below table (suc m) n change blocks ((m, view_of_block table first) ∷ older) (omega (arith, less))
    ∙ ap (λ same. numbered_from table (suc m) blocks ((m, if same then change (view_of_block table first) else view_of_block table first) ∷ changed_block n change older))
    (ne_eqb m n (λ e. omega (arith, less, e)))

-- what isn't there isn't changed
absent-entry : (n : ℕ) (change : memory.Block → memory.Block) (entry : ℕ × memory.Block) (entries : Memory) (same : Bool) → (entry.0 == n) ≡ same
    → look_up (entry ∷ entries) n ≡ None → (look_up entries n ≡ None → changed_block n change entries ≡ entries)
    → changed_block n change (entry ∷ entries) ≡ entry ∷ entries
absent-entry n change entry entries true is absent others = absurd (none-some entry.1 (sym absent ∙ ap (λ same. if same then Some entry.1 else look_up entries n) is))
absent-entry n change entry entries false is absent others =
    ap (λ same. (entry.0, if same then change entry.1 else entry.1) ∷ changed_block n change entries) is
    ∙ ap (λ rest. entry ∷ rest) (others (sym (ap (λ same. if same then Some entry.1 else look_up entries n) is) ∙ absent))

change-absent : (n : ℕ) (change : memory.Block → memory.Block) (all : Memory) → look_up all n ≡ None → changed_block n change all ≡ all
change-absent n change [] absent = refl
change-absent n change (entry ∷ entries) absent = absent-entry n change entry entries (entry.0 == n) refl absent (change-absent n change entries)

-- what is there
abbrev taken-out : Block → Option Block → Block
taken-out other None = other
taken-out other (Some block) = block

change-from : (table : Table) (m n k : ℕ) (change : memory.Block → memory.Block) (blocks : List Block) (older : Memory) (before after : Block) → n ≡ m + k
    → ((j : ℕ) → m ≤ j → look_up older j ≡ None) → slice_get blocks k ≡ Some before → change (view_of_block table before) ≡ view_of_block table after
    → changed_block n change (numbered_from table m blocks older) ≡ numbered_from table m (slice_set blocks k after) older
change-from table m n k change [] older before after is none found same = absurd (none-some before found)
change-from table m n zero change (first ∷ blocks) older before after is none found same =
    change-below table (suc m) n change blocks ((m, view_of_block table first) ∷ older) (omega (arith, is))
    ∙ (ap (λ here. numbered_from table (suc m) blocks ((m, if here then change (view_of_block table first) else view_of_block table first) ∷ changed_block n change older))
    (eq-eqb m n (omega (arith, is)))
    ∙ (ap (λ others. numbered_from table (suc m) blocks ((m, change (view_of_block table first)) ∷ others)) (change-absent n change older (none n (omega (arith, is))))
    ∙ ap (λ seen. numbered_from table (suc m) blocks ((m, seen) ∷ older)) (ap (λ block. change (view_of_block table block)) (ap (taken-out first) found) ∙ same)))
change-from table m n (suc k) change (first ∷ blocks) older before after is none found same =
    change-from table (suc m) n k change blocks ((m, view_of_block table first) ∷ older) before after (omega (arith, is))
    (λ j later. ap (λ here. if here then Some (view_of_block table first) else look_up older j) (ne_eqb m j (λ e. omega (arith, later, e))) ∙ none j (omega (arith, later)))
    found same

-- a change of the object of a number
pub change-view : (table : Table) (n : ℕ) (change : memory.Block → memory.Block) (blocks : List Block) (before after : Block)
    → slice_get blocks n ≡ Some before → change (view_of_block table before) ≡ view_of_block table after
    → changed_block n change (view_of_blocks table blocks) ≡ view_of_blocks table (slice_set blocks n after)
change-view table n change blocks before after found same = change-from table 0 n n change blocks [] before after (omega arith) (λ j later. refl) found same

-- there is nothing to change behind the last
pub change-past : (table : Table) (n : ℕ) (change : memory.Block → memory.Block) (blocks : List Block) → length blocks ≤ n
    → changed_block n change (view_of_blocks table blocks) ≡ view_of_blocks table blocks
change-past table n change blocks past =
    change-absent n change (view_of_blocks table blocks) (look_up-view table blocks n ∙ ap (option_map (view_of_block table)) (slice_get_past blocks n past))

-- ---- storing

got-set : (blocks : List Block) (n : ℕ) (before after : Block) → slice_get blocks n ≡ Some before → slice_get (slice_set blocks n after) n ≡ Some after
got-set [] n before after found = absurd (none-some before found)
got-set (block ∷ blocks) zero before after found = refl
got-set (block ∷ blocks) (suc n) before after found = got-set blocks n before after found

-- a value that was taken out and changed stands in its object again
pub stored : (table : Table) (blocks between later : List Block) (n : ℕ) (hidden taken after left : Value) (path : values.Path) (value : values.Value)
    → IsExchanged blocks n hidden taken between → view_of_value after ≡ values.with_part path value (view_of_value taken) → IsExchanged between n after left later
    → view_of_blocks table later ≡ changed_block n (λ block. record block { contents = values.with_part path value block.contents }) (view_of_blocks table blocks)
stored table blocks between later n hidden taken after left path value out changed back =
    let first = record out.block { contents = hidden } in
    let same : back.block ≡ first = ap (taken-out back.block) (sym back.found ∙ (ap (λ all. slice_get all n) out.now ∙ got-set blocks n out.block first out.found)) in
    ap (view_of_blocks table)
    (back.now ∙ (ap (λ all. slice_set all n (record back.block { contents = after })) out.now
    ∙ (set-set blocks n first (record back.block { contents = after }) ∙ ap (λ block. slice_set blocks n (record block { contents = after })) same)))
    ∙ sym (change-view table n (λ block. record block { contents = values.with_part path value block.contents }) blocks out.block (record out.block { contents = after }) out.found
    (ap (λ contents. record (view_of_block table out.block) { contents = contents })
    (ap (values.with_part path value) (ap view_of_value (sym out.was)) ∙ sym changed)))

-- the types of objects stay those of the table where one is replaced by another of its type
known-set : (table : Table) (blocks : List Block) (n : ℕ) (before after : Block) → slice_get blocks n ≡ Some before → before.kind ≡ after.kind
    → AreKnown table blocks → AreKnown table (slice_set blocks n after)
known-set table [] n before after found same known = absurd (none-some before found)
known-set table (block ∷ blocks) zero before after found same known = at
  where
    at : AreKnown table (after ∷ blocks)
    at zero other less = subst (IsId table) (ap (λ b. b.kind) (ap (taken-out block) found) ∙ same) (known zero other less)
    at (suc k) other less = known (suc k) other less
known-set table (block ∷ blocks) (suc n) before after found same known = at (known-set table blocks n before after found same (λ k other less. known (suc k) other (omega (arith, less))))
  where
    at : AreKnown table (slice_set blocks n after) → AreKnown table (block ∷ slice_set blocks n after)
    at rest zero other less = known zero other (omega arith)
    at rest (suc k) other less = rest k other (omega (arith, less))

pub known-exchanged : (table : Table) (blocks later : List Block) (n : ℕ) (contents taken : Value) → IsExchanged blocks n contents taken later
    → AreKnown table blocks → AreKnown table later
known-exchanged table blocks later n contents taken out known =
    subst (AreKnown table) (sym out.now) (known-set table blocks n out.block (record out.block { contents = contents }) out.found refl known)

pub known-ended : (table : Table) (blocks items : List Block) (n : ℕ) (block : Block) → items ≡ blocks → slice_get items n ≡ Some block
    → AreKnown table blocks → AreKnown table (slice_set items n (record block { alive = false }))
known-ended table blocks items n block same found known =
    known-set table items n block (record block { alive = false }) found refl (subst (AreKnown table) (sym same) known)

-- the lifetime of an object ends
pub ended : (table : Table) (blocks items : List Block) (n : ℕ) (block : Block) → items ≡ blocks → slice_get items n ≡ Some block
    → view_of_blocks table (slice_set items n (record block { alive = false })) ≡ changed_block n (λ block. record block { alive = false }) (view_of_blocks table blocks)
ended table blocks items n block same found =
    sym (change-view table n (λ block. record block { alive = false }) items block (record block { alive = false }) found refl)
    ∙ ap (λ all. changed_block n (λ block. record block { alive = false }) (view_of_blocks table all)) same

-- storing into an object with a number changes it
pub written-numbered : (all : Memory) (at : At) (n : ℕ) (value : values.Value) → at.name ≡ Numbered n
    → memory.written all (view_of_at at) value ≡ changed_block n (λ block. record block { contents = values.with_part at.path value block.contents }) all
written-numbered all at n value is = ap (λ name. memory.written_in all (view_of_name name) at.path value) is
