-- Where the part is an expression of its own.
use Rattle.std.proofs.Common.{if◌then◌else◌, [], flat_map, Bool, sym, ap, ◌∙◌}
use Rattle.dm_tree.specs.Views.{view}
use Rattle.dm_agree.specs.Runs.{runs_in}
use Rattle.dm_agree.specs.Standing.{extents_of, runs_with}
use Rattle.dm_agree.proofs.index.RunIndex.below.Goals as goal

pub returns-in_ok-found : goal.returns-in_ok-found
returns-in_ok-found c types =
    c.in_ok-found.ensures types
    ∙ sym (ap (λ (test : Bool). flat_map (runs_with c.args.self.now) (if test then extents_of (view types c.args.part.now) else [])) (c.is_apart.ensures types ∙ c.if-is_apart.true))

pub returns-else-is_apart : goal.returns-else-is_apart
returns-else-is_apart c types =
    ap runs_in c.new.ensures.items ∙ sym (ap (λ (test : Bool). flat_map (runs_with c.args.self.now) (if test then extents_of (view types c.args.part.now) else [])) (c.is_apart.ensures types ∙ c.if-is_apart.false))
