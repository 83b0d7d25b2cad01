-- Where an expression stands without the parentheses round it (6.5.1p5).
use Rattle.dm_token.specs.declared.place.Span.{Span}
use Rattle.dm_syn.specs.Spans.{expr_span}
use Rattle.dm_syn.specs.Trees.{Expr}
use Rattle.dm_syn.specs.Trees as tree

abbrev pub bare_span : Expr → Span
bare_span (tree.paren span inner) = bare_span inner
bare_span expr = expr_span expr
