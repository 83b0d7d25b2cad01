-- Where expressions stand among the tokens of a unit.
--     is_extent span spans      these are the tokens of a node, with some of the pairs of parentheses round it or none
--     stands span tree      the tree is the value of the expression of these tokens: the expression, or what is read or decayed of it
--     is_apart label spans part      a part of a node is an expression of its own
use Rattle.std.specs.Prelude.{◌+◌, ◌-◌, Bool, true, false, ◌&&◌, ◌||◌, not, ◌==◌, nat_le}
use Rattle.dm_token.specs.declared.place.Span.{Span}
use Rattle.dm_tree.specs.Initialisers.{shares_tokens}
use Rattle.dm_tree.specs.Trees.{Label, convert, Spans, Tree, node, no_trees, more_trees, label_of, spans_of, is_statement}

-- each pair of parentheses adds a token on either side (6.5.1p5)
abbrev pub is_extent : Span → Spans → Bool
is_extent span spans =
    nat_le spans.outer.first span.first && (nat_le span.first spans.inner.first && (span.after == spans.inner.after + (spans.inner.first - span.first)))

abbrev pub is_conversion : Label → Bool
is_conversion convert = true
is_conversion label = false

-- a conversion that isn't written has its operand's tokens (6.3)
abbrev pub is_implied_conversion : Tree → Bool
is_implied_conversion (node label kind spans (more_trees operand rest)) = is_conversion label && shares_tokens spans operand
is_implied_conversion (node label kind spans no_trees) = false

-- a tree is the value of an expression that is written
abbrev pub is_value : Tree → Bool
is_value tree = not (is_statement (label_of tree)) && not (is_implied_conversion tree)

abbrev pub stands : Span → Tree → Bool
stands span tree = is_value tree && is_extent span (spans_of tree)

-- A part that has the tokens of its node comes from the same syntax, and is no expression of its own, but below a conversion. So are
-- what is read or decayed, the sum that a subscript follows, what the operator -> follows, and the commas of a comma expression but the last.
abbrev pub is_apart : Label → Spans → Tree → Bool
is_apart label spans part = is_conversion label || not (shares_tokens spans part)
