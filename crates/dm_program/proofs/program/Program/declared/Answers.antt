-- The declaration of a number is the item at that place.
use Rattle.std.proofs.Common.{◌≡◌, None, Some, rules, subst}
use Rattle.std.specs.Option.{MatchOption}
use Rattle.dm_type.specs.Tables.{IsId}
use Rattle.dm_tree.specs.Views.{view_of_declared}
use Rattle.dm_meaning.specs.Programs as programs
use Rattle.dm_program.specs.Sources.{Source, meant}
use Rattle.dm_program.proofs.ProgramLemmas.{declared-found}
use Rattle.dm_program.proofs.program.Program.declared.Goals as goal

pub returns : goal.returns
returns c =
    let P : Source → Type 0 = λ source. MatchOption c.nth.result (programs.declaration_of (meant source) c.args.number ≡ None)
    (λ entry. (programs.declaration_of (meant source) c.args.number ≡ Some (view_of_declared source.table entry.now)) × IsId source.table entry.now.kind) in
    subst P c.self.view_is
    (declared-found c.self.inside.layout c.self.inside.unit.now.declared c.items.result.now c.args.number c.nth.result (search rules) c.self.invariant.typed.known_in_entries c.nth.ensures)
