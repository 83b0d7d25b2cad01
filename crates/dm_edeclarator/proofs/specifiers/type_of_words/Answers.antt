-- The sets in their order.
use Rattle.std.specs.Prelude.{option_map}
use Rattle.std.proofs.Common.{sym, ap, ◌∙◌}
use Rattle.dm_typing.specs.Specifiers.{sets}
use Rattle.dm_edeclarator.specs.Steps.{word_type, row_of}
use Rattle.dm_edeclarator.proofs.SpecifierLemmas.{among-here, among-on, among-past}
use Rattle.dm_edeclarator.proofs.specifiers.type_of_words.Goals as goal

pub returns-in_err-set : goal.returns-in_err-set
returns-in_err-set c = ap (option_map word_type) c.from_residual.ensures ∙ sym (sym c.loop-n.invariant ∙ among-past c.args.words.now sets c.loop-n.n (sym c.in_err-set.ensures))

pub returns-then-are_words : goal.returns-then-are_words
returns-then-are_words c = sym (sym c.loop-n.invariant ∙ among-here c.args.words.now sets c.loop-n.n (row_of c.in_ok-set.set) (sym c.in_ok-set.ensures) (sym c.are_words.ensures ∙ c.if-are_words.true))

pub loop-n-preserved : goal.loop-n-preserved
loop-n-preserved c = sym (among-on c.args.words.now sets c.loop-n.n (row_of c.in_ok-set.set) (sym c.in_ok-set.ensures) (sym c.are_words.ensures ∙ c.if-are_words.false)) ∙ c.loop-n.invariant
