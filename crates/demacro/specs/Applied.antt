-- What the application of a project has done.
--     IsApplied project json before after      the files of its plan are written, and the programs of its units refine those that they had
use Rattle.std.specs.Prelude.{ℕ, Bool, List}
use Rattle.dm_token.specs.declared.unit.Unit.{Unit as Source}
use Rattle.dm_edit.specs.declared.plan.Plan.{Plan}
use Rattle.dm_lines.specs.Outside.{Outside}
use Rattle.dm_sources.specs.Sources.{IsProject}
use Rattle.dm_apply.specs.Endings.{EndsApplying, applied}

-- The word stands for units, and their plan is applied: `EndsApplying` says of it what is put, which files change, and what becomes of
-- the programs.
abbrev pub IsApplied : List ℕ → Bool → Outside → Outside → Type 0
IsApplied project json before after =
    (units : List Source) × (plan : Plan) × IsProject before.files project units × EndsApplying json project units before after (applied plan)
