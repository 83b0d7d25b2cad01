-- All parts of an expression are expressions, and stand among the same things.
use Rattle.std.specs.Prelude.{◌≡◌, true, not, List, refl}
pub use Rattle.dm_tree.proofs.ExpressionLemmas.{AreExpressions, value-expression, expressions-in, fits-expression, expression-fits}
use Rattle.dm_tree.specs.Trees.{Label, Tree, is_statement}
use Rattle.dm_tree.specs.Trees as label
use Rattle.dm_tree.specs.Typing.{inside}
use Rattle.dm_typing.specs.Known.{Known}
use Rattle.dm_typing.specs.Sound.{scene_of}

-- its parts stand among the same things
pub inside-expression : (known : Known) (form : Label) (parts : List Tree) → not (is_statement form) ≡ true → inside (scene_of known) form parts ≡ scene_of known
inside-expression known label.switch parts is = absurd (cc)
inside-expression known label.while_loop parts is = absurd (cc)
inside-expression known label.do_loop parts is = absurd (cc)
inside-expression known (label.for_loop first second third) parts is = absurd (cc)
inside-expression known form parts is = refl
