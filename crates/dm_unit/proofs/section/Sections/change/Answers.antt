use Rattle.std.proofs.Common.{◌≡◌, ◌+◌, length, ◌∙◌, arith}
use Rattle.dm_unit.proofs.StepLemmas.{changed-last}
use Rattle.dm_unit.proofs.section.Sections.change.Goals as goal

pub returns-in-Some : goal.returns-in-Some
returns-in-Some c = λ other outer is.
    let at : c.in-Some.place + 1 ≡ length c.self.inside.open.items = omega (arith, c.in-Some.ensures.0, c.in-Some.ensures.1, c.len.ensures, c.self.inside.open.ok.0) in
    changed-last c.self.inside.open.items c.in-Some.place c.args.section other outer (c.self.view_is ∙ is) at
