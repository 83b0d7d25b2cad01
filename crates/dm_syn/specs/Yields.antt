-- The yield of a tree: its tokens from left to right.
use Rattle.std.specs.Prelude.{◌≤◌, List, length, slice_range}
use Rattle.dm_token.specs.declared.token.CToken.{CToken}
use Rattle.dm_syn.specs.declared.statement.External.{External}

-- the span of an external declaration lies inside the tokens
pub record IsInside (tree : External) (tokens : List CToken) : Type 0 where
  pub ordered : tree.span.first ≤ tree.span.after
  pub ends : tree.span.after ≤ length tokens

-- The tokens of its span. In a well-formed tree each part and each token of a node's own begins where the one before it ends, so these
-- are the tokens that its parts yield, with its own between them.
abbrev pub yield_of : External → List CToken → List CToken
yield_of tree tokens = slice_range tokens tree.span.first tree.span.after
