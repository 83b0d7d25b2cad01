-- One turn of each loop, with what is read so far.
use Rattle.std.proofs.Common.{◌≡◌, ◌≤◌, ◌<◌, ℕ, suc, ◌+◌, ◌-◌, ◌≢◌, max, Bool, true, false, List, [], ◌∷◌, ◌++◌, map, Option, Some, None, option_map, refl, sym, ap, ◌∙◌, subst, arith, append_assoc}
use Rattle.dm_syn.specs.declared.declared.Declared.{Declared}
use Rattle.dm_syn.specs.declared.declaration.Initialiser.{Initialiser}
use Rattle.dm_syn.specs.declared.declaration.InitDeclarator.{InitDeclarator}
use Rattle.dm_syn.specs.declared.statement.Item.{Item}
use Rattle.dm_syn.specs.declared.statement.SwitchItem.{SwitchItem}
use Rattle.dm_syn.specs.declared.symbol.Symbol.TheVariants as symbol
use Rattle.dm_syn.specs.Sources.{Source}
use Rattle.dm_syn.specs.Trees as tree
use Rattle.dm_syn.specs.Views as view
use Rattle.dm_syn.specs.Spans.{initialiser_span, initialisers_after, item_span, block_item_span, switch_item_span}
use Rattle.dm_syn.specs.Scopes.{initialiser_declares, initialisers_declares}
use Rattle.dm_pexpr.specs.declared.part.Part.{Part}
use Rattle.dm_pexpr.specs.Parsing.{lower, and_then, all_turns}
use Rattle.dm_pexpr.specs.Parts.{IsPart, Gives}
use Rattle.dm_pexpr.proofs.Soundness.{inside}
use Rattle.dm_pexpr.proofs.Expressions.{if-true, if-false}
use Rattle.dm_pstmt.specs.Kinds.{an_initialiser, initialisers_from, an_item, items_from, a_block_item, block_items_from, a_labelled, switch_items_from}
use Rattle.dm_pstmt.specs.Parsing.{Reads, Within, stands, initialiser_of, valued, braces_from, braces_with, braces_closed, more_initialisers, item_of, more_items, block_item_of, block_items, switch_items}
use Rattle.dm_pstmt.specs.Steps.{with_row, with_item, braces_round}
use Rattle.dm_pstmt.proofs.Wholes.{then-is}
use Rattle.dm_pstmt.proofs.Rows.{joined-part, with-more}
use Rattle.dm_pstmt.proofs.RowKinds.{initialiser_row, item_row, block_row, switch_row}
use Rattle.dm_pstmt.proofs.Turns.{goes-on, initialisers-some, items-some, block-some, switch-some}

pub one-less : (n : ℕ) → (n ≡ 0 → ⊥) → suc (n - 1) ≡ n
one-less n some = let there : n ≢ 0 = some in omega arith

pub turns-left : (n : ℕ) → 0 < n → suc (n - 1) ≡ n
turns-left n some = omega arith

-- an initialiser
pub no-initialiser : (source : Source) (depth : ℕ) (names : List Declared) (at : ℕ) → depth ≡ 0 → initialiser_of source depth names at ≡ None
unfolding initialiser_of
no-initialiser source depth names at is = ap (λ n. initialiser_of source n names at) is

braces-so : (source : Source) (left : ℕ) (names : List Declared) (at : ℕ) → stands source names at symbol.LeftBrace ≡ true
    → initialiser_of source (suc left) names at ≡ and_then (braces_from source (initialiser_of source left) names at) (initialiser_of source left names (at + 1))
unfolding initialiser_of
braces-so source left names at there = if-true _ _ _ there

pub braces-wanted : (source : Source) (depth left : ℕ) (names : List Declared) (at : ℕ) → suc left ≡ depth → stands source names at symbol.LeftBrace ≡ true
    → initialiser_of source depth names at ≡ and_then (braces_from source (initialiser_of source left) names at) (initialiser_of source left names (at + 1))
braces-wanted source depth left names at less there = ap (λ n. initialiser_of source n names at) (sym less) ∙ braces-so source left names at there

value-so : (source : Source) (left : ℕ) (names : List Declared) (at : ℕ) → stands source names at symbol.LeftBrace ≡ false
    → initialiser_of source (suc left) names at ≡ option_map (valued at) ((lower source (suc left)).expr 1 names at)
unfolding initialiser_of
value-so source left names at none = if-false _ _ _ none

pub value-wanted : (source : Source) (depth left : ℕ) (names : List Declared) (at : ℕ) → suc left ≡ depth → stands source names at symbol.LeftBrace ≡ false
    → initialiser_of source depth names at ≡ option_map (valued at) ((lower source depth).expr 1 names at)
value-wanted source depth left names at less none =
    ap (λ n. initialiser_of source n names at) (sym less) ∙ value-so source left names at none ∙ ap (λ n. option_map (valued at) ((lower source n).expr 1 names at)) less

-- what is in scope behind all of the initialisers in braces
all-scoped : (source : Source) (old now : List Declared) (start : ℕ) (first : tree.Initialiser) (others : tree.Initialisers) (found : Option (Part (List Initialiser)))
    → Gives (initialisers_from source start) source old now found (Some (tree.more_initialisers first others)) → now ≡ initialisers_declares source others ++ (initialiser_declares source first ++ old)
unfolding initialisers_declares
all-scoped source old now start first others None given = absurd (cc)
all-scoped source old now start first others (Some part) p =
    p.scoped ∙ ap (λ those. initialisers_declares source those ++ old) (sym (inside _ _ p.read)) ∙ append_assoc (initialisers_declares source others) (initialiser_declares source first) old

braces-behind : (source : Source) (old one now : List Declared) (at start : ℕ) (first : tree.Initialiser) (others : Option tree.Initialisers) (found : Option (Part (List Initialiser)))
    → Gives (initialisers_from source start) source old now found (option_map (tree.more_initialisers first) others) → one ≡ initialiser_declares source first ++ old
    → and_then (braces_with source one at first) others ≡ and_then (braces_round source now at start) (option_map (tree.more_initialisers first) others)
braces-behind source old one now at start first None found given scoped = refl
braces-behind source old one now at start first (Some others) found given scoped =
    let place : ℕ = initialisers_after (initialiser_span first).after others in
    ap (λ names. braces_closed source names at (tree.more_initialisers first others) place (stands source names place symbol.Comma))
    (ap (λ those. initialisers_declares source others ++ those) scoped ∙ sym (all-scoped source old now start first others found given))

pub braces-read : (source : Source) (read : Reads tree.Initialiser) (old one now : List Declared) (at start : ℕ) (part : Part Initialiser) (list : Part (List Initialiser)) (found : Option (Part (List Initialiser)))
    → IsPart (an_initialiser source) source old one part (read old (at + 1)) → list ≡ record { tree = part.tree ∷ []; height = part.height; after = part.after }
    → Gives (initialisers_from source start) source old now found (with_row tree.more_initialisers (map view.initialiser list.tree) (more_initialisers source read (all_turns source) one list.after))
    → and_then (braces_from source read old at) (read old (at + 1))
    ≡ and_then (braces_round source now at start) (with_row tree.more_initialisers (map view.initialiser list.tree) (more_initialisers source read (all_turns source) one list.after))
braces-read source read old one now at start part list found p is given =
    let v : tree.Initialiser = view.initialiser part.tree in
    let others : Option tree.Initialisers = more_initialisers source read (all_turns source) one list.after in
    let alone : with_row tree.more_initialisers (map view.initialiser list.tree) others ≡ option_map (tree.more_initialisers v) others =
    ap (λ it. with_row tree.more_initialisers (map view.initialiser it.tree) others) is in
    then-is (braces_from source read old at) _ v p.read
    ∙ ap (λ names. and_then (braces_with source names at v) (more_initialisers source read (all_turns source) names (initialiser_span v).after)) (sym p.scoped)
    ∙ ap (λ n. and_then (braces_with source one at v) (more_initialisers source read (all_turns source) one n)) (sym p.ends ∙ sym (ap (λ it. it.after) is))
    ∙ braces-behind source old one now at start v others found (subst (λ it. Gives (initialisers_from source start) source old now found it) alone given) p.scoped
    ∙ ap (and_then (braces_round source now at start)) (sym alone)

-- one more of each
pub initialisers-further : (source : Source) (read : Reads tree.Initialiser) (start turns next : ℕ) (before names behind : List Declared) (list all : Part (List Initialiser)) (part : Part Initialiser) (seen goal : Option tree.Initialisers)
    → 0 < turns → goes-on source names list.after ≡ true → next ≡ list.after + 1 → IsPart (initialisers_from source start) source before names list seen
    → goal ≡ with_row tree.more_initialisers (map view.initialiser list.tree) (more_initialisers source read turns names list.after)
    → IsPart (an_initialiser source) source names behind part (read names next) → all ≡ record { tree = list.tree ++ part.tree ∷ []; height = max list.height part.height; after = part.after }
    → IsPart (initialisers_from source start) source before behind all (Some (view.initialisers (map view.initialiser all.tree)))
    × (goal ≡ with_row tree.more_initialisers (map view.initialiser all.tree) (more_initialisers source read (turns - 1) behind all.after))
initialisers-further source read start turns next before names behind list all part seen goal some goes place l so p is =
    let v : tree.Initialiser = view.initialiser part.tree in (
      joined-part (an_initialiser source) (initialiser_row source) source start before names behind list part seen (read names next) all l p is,
      with-more (an_initialiser source) (initialiser_row source) list part all goal (more_initialisers source read turns names list.after) (more_initialisers source read (turns - 1) behind all.after) is so
          (initialisers-some source read turns (turns - 1) names list.after v (turns-left turns some) goes (ap (read names) (sym place) ∙ p.read)
          ∙ ap (λ those. option_map (tree.more_initialisers v) (more_initialisers source read (turns - 1) those (initialiser_span v).after)) (sym p.scoped)
          ∙ ap (λ n. option_map (tree.more_initialisers v) (more_initialisers source read (turns - 1) behind n)) (sym p.ends ∙ sym (ap (λ it. it.after) is))),
    )

pub items-further : (source : Source) (inner : Within) (is_type : Bool) (start turns next : ℕ) (before names behind : List Declared) (list all : Part (List InitDeclarator)) (part : Part InitDeclarator) (seen goal : Option (List tree.Item))
    → 0 < turns → stands source names list.after symbol.Comma ≡ true → next ≡ list.after + 1 → IsPart (items_from source is_type start) source before names list seen
    → goal ≡ with_row with_item (view.items list.tree) (more_items source inner is_type turns names list.after)
    → IsPart (an_item source is_type) source names behind part (item_of source inner is_type names next) → all ≡ record { tree = list.tree ++ part.tree ∷ []; height = max list.height part.height; after = part.after }
    → IsPart (items_from source is_type start) source before behind all (Some (view.items all.tree))
    × (goal ≡ with_row with_item (view.items all.tree) (more_items source inner is_type (turns - 1) behind all.after))
items-further source inner is_type start turns next before names behind list all part seen goal some goes place l so p is =
    let v : tree.Item = view.item part.tree in (
      joined-part (an_item source is_type) (item_row source is_type) source start before names behind list part seen (item_of source inner is_type names next) all l p is,
      with-more (an_item source is_type) (item_row source is_type) list part all goal (more_items source inner is_type turns names list.after) (more_items source inner is_type (turns - 1) behind all.after) is so
          (items-some source inner is_type turns (turns - 1) names list.after v (turns-left turns some) goes (ap (item_of source inner is_type names) (sym place) ∙ p.read)
          ∙ ap (λ those. option_map (with_item v) (more_items source inner is_type (turns - 1) those (item_span v).after)) (sym p.scoped)
          ∙ ap (λ n. option_map (with_item v) (more_items source inner is_type (turns - 1) behind n)) (sym p.ends ∙ sym (ap (λ it. it.after) is))),
    )

pub block-further : (source : Source) (inner : Within) (start turns : ℕ) (before names behind : List Declared) (list all : Part (List Item)) (part : Part Item) (seen goal : Option tree.BlockItems)
    → 0 < turns → stands source names list.after symbol.RightBrace ≡ false → IsPart (block_items_from source start) source before names list seen
    → goal ≡ with_row tree.more_items (map view.block_item list.tree) (block_items source inner turns names list.after)
    → IsPart (a_block_item source) source names behind part (block_item_of source inner names list.after) → all ≡ record { tree = list.tree ++ part.tree ∷ []; height = max list.height part.height; after = part.after }
    → IsPart (block_items_from source start) source before behind all (Some (view.block_items (map view.block_item all.tree)))
    × (goal ≡ with_row tree.more_items (map view.block_item all.tree) (block_items source inner (turns - 1) behind all.after))
block-further source inner start turns before names behind list all part seen goal some goes l so p is =
    let v : tree.BlockItem = view.block_item part.tree in (
      joined-part (a_block_item source) (block_row source) source start before names behind list part seen (block_item_of source inner names list.after) all l p is,
      with-more (a_block_item source) (block_row source) list part all goal (block_items source inner turns names list.after) (block_items source inner (turns - 1) behind all.after) is so
          (block-some source inner turns (turns - 1) names list.after v (turns-left turns some) goes p.read
          ∙ ap (λ those. option_map (tree.more_items v) (block_items source inner (turns - 1) those (block_item_span v).after)) (sym p.scoped)
          ∙ ap (λ n. option_map (tree.more_items v) (block_items source inner (turns - 1) behind n)) (sym p.ends ∙ sym (ap (λ it. it.after) is))),
    )

pub switch-further : (source : Source) (inner : Within) (start turns : ℕ) (before names behind : List Declared) (list all : Part (List SwitchItem)) (part : Part SwitchItem) (seen goal : Option tree.SwitchItems)
    → 0 < turns → stands source names list.after symbol.RightBrace ≡ false → IsPart (switch_items_from source start) source before names list seen
    → goal ≡ with_row tree.more_switch_items (map view.switch_item list.tree) (switch_items source inner turns names list.after)
    → IsPart (a_labelled source) source names behind part (inner.labelled names list.after) → all ≡ record { tree = list.tree ++ part.tree ∷ []; height = max list.height part.height; after = part.after }
    → IsPart (switch_items_from source start) source before behind all (Some (view.switch_items (map view.switch_item all.tree)))
    × (goal ≡ with_row tree.more_switch_items (map view.switch_item all.tree) (switch_items source inner (turns - 1) behind all.after))
switch-further source inner start turns before names behind list all part seen goal some goes l so p is =
    let v : tree.SwitchItem = view.switch_item part.tree in (
      joined-part (a_labelled source) (switch_row source) source start before names behind list part seen (inner.labelled names list.after) all l p is,
      with-more (a_labelled source) (switch_row source) list part all goal (switch_items source inner turns names list.after) (switch_items source inner (turns - 1) behind all.after) is so
          (switch-some source inner turns (turns - 1) names list.after v (turns-left turns some) goes p.read
          ∙ ap (λ those. option_map (tree.more_switch_items v) (switch_items source inner (turns - 1) those (switch_item_span v).after)) (sym p.scoped)
          ∙ ap (λ n. option_map (tree.more_switch_items v) (switch_items source inner (turns - 1) behind n)) (sym p.ends ∙ sym (ap (λ it. it.after) is))),
    )
