-- One name more.
use Rattle.std.proofs.Common.{ℕ, List, ap, ◌∙◌}
use Rattle.std.specs.FinMap as finite
use Rattle.dm_rules.proofs.WordLemmas.{one-more}
use Rattle.dm_rules.proofs.words.Words.add.Goals as goal

pub returns : goal.returns
returns c other =
    let old = c.args.self.now.names in
    one-more old c.insert.new.self c.args.name.now other (c.in_ok-insert.ensures.ok ∙ ap (λ (name : List ℕ). finite.insert old name 0) c.in_ok-copy.ensures)
