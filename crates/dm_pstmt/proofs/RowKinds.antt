-- Initialisers, declarators, block items and labelled statements in a row.
use Rattle.std.proofs.Common.{◌≡◌, List, map, max, [], ◌∷◌, ◌++◌, Bool, refl, lit≤}
use Rattle.dm_syn.specs.declared.declaration.Initialiser.{Initialiser}
use Rattle.dm_syn.specs.declared.declaration.InitDeclarator.{InitDeclarator}
use Rattle.dm_syn.specs.declared.statement.Item.{Item}
use Rattle.dm_syn.specs.declared.statement.SwitchItem.{SwitchItem}
use Rattle.dm_syn.specs.Sources.{Source}
use Rattle.dm_syn.specs.Trees as tree
use Rattle.dm_syn.specs.Views as view
use Rattle.dm_syn.specs.Spans.{initialisers_after, items_after, block_items_after, switch_items_after}
use Rattle.dm_syn.specs.Heights.{initialiser_height, initialisers_height, item_height, items_height, block_item_height, block_items_height, switch_item_height, switch_items_height}
use Rattle.dm_syn.specs.Scopes.{initialiser_declares, initialisers_declares, item_declares, items_declares}
use Rattle.dm_pstmt.specs.Steps.{with_item}
use Rattle.dm_pstmt.specs.Kinds.{an_initialiser, an_item, a_block_item, a_labelled, block_items_declares, switch_items_declares}
use Rattle.dm_pstmt.proofs.Rows.{Row}

pub no-initialisers-high : initialisers_height tree.no_initialisers ≡ 0
unfolding initialisers_height
no-initialisers-high = refl

pub more-initialisers-high : (first : tree.Initialiser) (others : tree.Initialisers) → initialisers_height (tree.more_initialisers first others) ≡ max (initialiser_height first) (initialisers_height others)
unfolding initialisers_height
more-initialisers-high first others = refl

pub no-initialisers-declare : (source : Source) → initialisers_declares source tree.no_initialisers ≡ []
unfolding initialisers_declares
no-initialisers-declare source = refl

pub more-initialisers-declare : (source : Source) (first : tree.Initialiser) (others : tree.Initialisers) → initialisers_declares source (tree.more_initialisers first others) ≡ initialisers_declares source others ++ initialiser_declares source first
unfolding initialisers_declares
more-initialisers-declare source first others = refl

pub no-items-high : items_height [] ≡ 0
unfolding items_height
no-items-high = refl

pub more-items-high : (first : tree.Item) (others : List tree.Item) → items_height (first ∷ others) ≡ max (item_height first) (items_height others)
unfolding items_height
more-items-high first others = refl

pub no-items-declare : (source : Source) (is_type : Bool) → items_declares source is_type [] ≡ []
unfolding items_declares
no-items-declare source is_type = refl

pub more-items-declare : (source : Source) (is_type : Bool) (first : tree.Item) (others : List tree.Item) → items_declares source is_type (first ∷ others) ≡ items_declares source is_type others ++ item_declares source is_type first
unfolding items_declares
more-items-declare source is_type first others = refl

pub no-block-items-high : block_items_height tree.no_items ≡ 0
unfolding block_items_height
no-block-items-high = refl

pub more-block-items-high : (first : tree.BlockItem) (others : tree.BlockItems) → block_items_height (tree.more_items first others) ≡ max (block_item_height first) (block_items_height others)
unfolding block_items_height
more-block-items-high first others = refl

pub no-switch-items-high : switch_items_height tree.no_switch_items ≡ 0
unfolding switch_items_height
no-switch-items-high = refl

pub more-switch-items-high : (first : tree.SwitchItem) (others : tree.SwitchItems) → switch_items_height (tree.more_switch_items first others) ≡ max (switch_item_height first) (switch_items_height others)
unfolding switch_items_height
more-switch-items-high first others = refl

abbrev pub initialiser_row : (source : Source) → Row Initialiser tree.Initialiser tree.Initialisers (an_initialiser source)
initialiser_row source = record {
  empty = tree.no_initialisers;
  put = tree.more_initialisers;
  seen = λ items. view.initialisers (map view.initialiser items);
  height = initialisers_height;
  after = initialisers_after;
  declares = initialisers_declares source;
  seen_none = refl;
  seen_more = λ first others. refl;
  height_none = no-initialisers-high;
  height_more = more-initialisers-high;
  after_none = λ at. refl;
  after_more = λ at first others. refl;
  declares_none = no-initialisers-declare source;
  declares_more = more-initialisers-declare source;
  low = lit≤ tt;
}

abbrev pub item_row : (source : Source) (is_type : Bool) → Row InitDeclarator tree.Item (List tree.Item) (an_item source is_type)
item_row source is_type = record {
  empty = [];
  put = with_item;
  seen = view.items;
  height = items_height;
  after = items_after;
  declares = items_declares source is_type;
  seen_none = refl;
  seen_more = λ first others. refl;
  height_none = no-items-high;
  height_more = more-items-high;
  after_none = λ at. refl;
  after_more = λ at first others. refl;
  declares_none = no-items-declare source is_type;
  declares_more = more-items-declare source is_type;
  low = lit≤ tt;
}

abbrev pub block_row : (source : Source) → Row Item tree.BlockItem tree.BlockItems (a_block_item source)
block_row source = record {
  empty = tree.no_items;
  put = tree.more_items;
  seen = λ items. view.block_items (map view.block_item items);
  height = block_items_height;
  after = block_items_after;
  declares = block_items_declares source;
  seen_none = refl;
  seen_more = λ first others. refl;
  height_none = no-block-items-high;
  height_more = more-block-items-high;
  after_none = λ at. refl;
  after_more = λ at first others. refl;
  declares_none = refl;
  declares_more = λ first others. refl;
  low = lit≤ tt;
}

abbrev pub switch_row : (source : Source) → Row SwitchItem tree.SwitchItem tree.SwitchItems (a_labelled source)
switch_row source = record {
  empty = tree.no_switch_items;
  put = tree.more_switch_items;
  seen = λ items. view.switch_items (map view.switch_item items);
  height = switch_items_height;
  after = switch_items_after;
  declares = switch_items_declares source;
  seen_none = refl;
  seen_more = λ first others. refl;
  height_none = no-switch-items-high;
  height_more = more-switch-items-high;
  after_none = λ at. refl;
  after_more = λ at first others. refl;
  declares_none = refl;
  declares_more = λ first others. refl;
  low = lit≤ tt;
}
