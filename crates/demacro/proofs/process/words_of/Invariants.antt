-- The words so far, and the arguments that are still to come.
use Rattle.std.proofs.Common.{◌≡◌, ◌++◌, drop}
use Rattle.demacro.specs.Arguments.{items_of}
use Rattle.demacro.proofs.process.words_of.Given as goal

abbrev pub invariant-loop-word : goal.invariant-loop-word
invariant-loop-word l = l.words.items ++ items_of l.word-iterator ≡ drop 1 (items_of l.fn.arguments)
