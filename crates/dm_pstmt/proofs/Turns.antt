-- One turn of each loop over initialisers, declarators, block items and labelled statements.
use Rattle.std.proofs.Common.{◌≡◌, ℕ, zero, suc, ◌+◌, Bool, true, false, ◌&&◌, not, List, ◌++◌, Some, None, option_map, refl, ap, ◌∙◌, subst, [], ◌∷◌}
use Rattle.dm_syn.specs.declared.declared.Declared.{Declared}
use Rattle.dm_syn.specs.declared.symbol.Symbol.TheVariants as symbol
use Rattle.dm_syn.specs.Sources.{Source}
use Rattle.dm_syn.specs.Trees as tree
use Rattle.dm_syn.specs.Trees.{Initialiser, Initialisers, Item, BlockItem, BlockItems, SwitchItem, SwitchItems}
use Rattle.dm_syn.specs.Spans.{initialiser_span, item_span, block_item_span, switch_item_span}
use Rattle.dm_syn.specs.Scopes.{initialiser_declares, item_declares, block_item_declares, switch_item_declares}
use Rattle.dm_pexpr.proofs.Expressions.{if-true, if-false}
use Rattle.dm_pstmt.specs.Parsing.{Reads, Within, stands, more_initialisers, more_items, item_of, block_items, block_item_of, switch_items}
use Rattle.dm_pstmt.proofs.Wholes.{then-none, then-is}

-- initialisers
abbrev pub goes-on : Source → List Declared → ℕ → Bool
goes-on source names at = stands source names at symbol.Comma && not (stands source names (at + 1) symbol.RightBrace)

pub initialisers-end : (source : Source) (read : Reads Initialiser) (turns : ℕ) (names : List Declared) (at : ℕ) → goes-on source names at ≡ false → more_initialisers source read turns names at ≡ Some tree.no_initialisers
unfolding more_initialisers
initialisers-end source read zero names at not_so = refl
initialisers-end source read (suc turns) names at not_so = if-false _ _ _ not_so

pub no-initialisers-left : (source : Source) (read : Reads Initialiser) (turns : ℕ) (names : List Declared) (at : ℕ) → turns ≡ 0 → more_initialisers source read turns names at ≡ Some tree.no_initialisers
unfolding more_initialisers
no-initialisers-left source read turns names at is = ap (λ n. more_initialisers source read n names at) is

pub initialisers-none : (source : Source) (read : Reads Initialiser) (turns left : ℕ) (names : List Declared) (at : ℕ) → suc left ≡ turns → goes-on source names at ≡ true → read names (at + 1) ≡ None
    → more_initialisers source read turns names at ≡ None
unfolding more_initialisers
initialisers-none source read turns left names at less goes none =
    subst (λ n. more_initialisers source read n names at ≡ None) less (if-true _ _ _ goes ∙ then-none _ _ none)

pub initialisers-some : (source : Source) (read : Reads Initialiser) (turns left : ℕ) (names : List Declared) (at : ℕ) (it : Initialiser) → suc left ≡ turns → goes-on source names at ≡ true → read names (at + 1) ≡ Some it
    → more_initialisers source read turns names at ≡ option_map (tree.more_initialisers it) (more_initialisers source read left (initialiser_declares source it ++ names) (initialiser_span it).after)
unfolding more_initialisers
initialisers-some source read turns left names at it less goes is =
    subst (λ n. more_initialisers source read n names at ≡ option_map (tree.more_initialisers it) (more_initialisers source read left (initialiser_declares source it ++ names) (initialiser_span it).after)) less
    (if-true _ _ _ goes ∙ then-is _ _ it is)

-- declarators with their initialisers
pub items-end : (source : Source) (inner : Within) (is_type : Bool) (turns : ℕ) (names : List Declared) (at : ℕ) → stands source names at symbol.Comma ≡ false → more_items source inner is_type turns names at ≡ Some []
unfolding more_items
items-end source inner is_type zero names at not_so = refl
items-end source inner is_type (suc turns) names at not_so = if-false _ _ _ not_so

pub no-items-left : (source : Source) (inner : Within) (is_type : Bool) (turns : ℕ) (names : List Declared) (at : ℕ) → turns ≡ 0 → more_items source inner is_type turns names at ≡ Some []
unfolding more_items
no-items-left source inner is_type turns names at is = ap (λ n. more_items source inner is_type n names at) is

pub items-none : (source : Source) (inner : Within) (is_type : Bool) (turns left : ℕ) (names : List Declared) (at : ℕ) → suc left ≡ turns → stands source names at symbol.Comma ≡ true → item_of source inner is_type names (at + 1) ≡ None
    → more_items source inner is_type turns names at ≡ None
unfolding more_items
items-none source inner is_type turns left names at less goes none =
    subst (λ n. more_items source inner is_type n names at ≡ None) less (if-true _ _ _ goes ∙ then-none _ _ none)

pub items-some : (source : Source) (inner : Within) (is_type : Bool) (turns left : ℕ) (names : List Declared) (at : ℕ) (it : Item) → suc left ≡ turns → stands source names at symbol.Comma ≡ true → item_of source inner is_type names (at + 1) ≡ Some it
    → more_items source inner is_type turns names at ≡ option_map (λ others. it ∷ others) (more_items source inner is_type left (item_declares source is_type it ++ names) (item_span it).after)
unfolding more_items
items-some source inner is_type turns left names at it less goes is =
    subst (λ n. more_items source inner is_type n names at ≡ option_map (λ others. it ∷ others) (more_items source inner is_type left (item_declares source is_type it ++ names) (item_span it).after)) less
    (if-true _ _ _ goes ∙ then-is _ _ it is)

-- block items
pub no-block-left : (source : Source) (inner : Within) (turns : ℕ) (names : List Declared) (at : ℕ) → turns ≡ 0 → block_items source inner turns names at ≡ None
unfolding block_items
no-block-left source inner turns names at is = ap (λ n. block_items source inner n names at) is

pub block-end : (source : Source) (inner : Within) (turns left : ℕ) (names : List Declared) (at : ℕ) → suc left ≡ turns → stands source names at symbol.RightBrace ≡ true → block_items source inner turns names at ≡ Some tree.no_items
unfolding block_items
block-end source inner turns left names at less ends = subst (λ n. block_items source inner n names at ≡ Some tree.no_items) less (if-true _ _ _ ends)

pub block-none : (source : Source) (inner : Within) (turns left : ℕ) (names : List Declared) (at : ℕ) → suc left ≡ turns → stands source names at symbol.RightBrace ≡ false → block_item_of source inner names at ≡ None
    → block_items source inner turns names at ≡ None
unfolding block_items
block-none source inner turns left names at less goes none = subst (λ n. block_items source inner n names at ≡ None) less (if-false _ _ _ goes ∙ then-none _ _ none)

pub block-some : (source : Source) (inner : Within) (turns left : ℕ) (names : List Declared) (at : ℕ) (it : BlockItem) → suc left ≡ turns → stands source names at symbol.RightBrace ≡ false → block_item_of source inner names at ≡ Some it
    → block_items source inner turns names at ≡ option_map (tree.more_items it) (block_items source inner left (block_item_declares source it ++ names) (block_item_span it).after)
unfolding block_items
block-some source inner turns left names at it less goes is =
    subst (λ n. block_items source inner n names at ≡ option_map (tree.more_items it) (block_items source inner left (block_item_declares source it ++ names) (block_item_span it).after)) less
    (if-false _ _ _ goes ∙ then-is _ _ it is)

-- labelled statements
pub no-switch-left : (source : Source) (inner : Within) (turns : ℕ) (names : List Declared) (at : ℕ) → turns ≡ 0 → switch_items source inner turns names at ≡ None
unfolding switch_items
no-switch-left source inner turns names at is = ap (λ n. switch_items source inner n names at) is

pub switch-end : (source : Source) (inner : Within) (turns left : ℕ) (names : List Declared) (at : ℕ) → suc left ≡ turns → stands source names at symbol.RightBrace ≡ true → switch_items source inner turns names at ≡ Some tree.no_switch_items
unfolding switch_items
switch-end source inner turns left names at less ends = subst (λ n. switch_items source inner n names at ≡ Some tree.no_switch_items) less (if-true _ _ _ ends)

pub switch-none : (source : Source) (inner : Within) (turns left : ℕ) (names : List Declared) (at : ℕ) → suc left ≡ turns → stands source names at symbol.RightBrace ≡ false → inner.labelled names at ≡ None
    → switch_items source inner turns names at ≡ None
unfolding switch_items
switch-none source inner turns left names at less goes none = subst (λ n. switch_items source inner n names at ≡ None) less (if-false _ _ _ goes ∙ then-none _ _ none)

pub switch-some : (source : Source) (inner : Within) (turns left : ℕ) (names : List Declared) (at : ℕ) (it : SwitchItem) → suc left ≡ turns → stands source names at symbol.RightBrace ≡ false → inner.labelled names at ≡ Some it
    → switch_items source inner turns names at ≡ option_map (tree.more_switch_items it) (switch_items source inner left (switch_item_declares source it ++ names) (switch_item_span it).after)
unfolding switch_items
switch-some source inner turns left names at it less goes is =
    subst (λ n. switch_items source inner n names at ≡ option_map (tree.more_switch_items it) (switch_items source inner left (switch_item_declares source it ++ names) (switch_item_span it).after)) less
    (if-false _ _ _ goes ∙ then-is _ _ it is)
