use Rattle.std.specs.Prelude.{take, ℕ, Option}
use Rattle.std.specs.List.{list_any}
use Rattle.std.proofs.Common.{sym, ap, ◌∙◌}
use Rattle.dm_names.specs.Meanings.{has_number, entered_in}
use Rattle.dm_names.proofs.LookupLemmas.{is_below, scope-told}
use Rattle.dm_names.proofs.names.Names.is_in_file_scope.Goals as goal

pub returns-in-Some : goal.returns-in-Some
returns-in-Some c = λ types tokens syntax unit names.
    ap (is_below c.args.externals) (sym c.in-Some.is ∙ c.get.ensures)
    ∙ ap (λ (firsts : ℕ → Option ℕ). is_below c.args.externals (firsts c.args.number)) names.firsts
    ∙ scope-told c.args.externals c.args.number c.args.self.now.shown
    ∙ ap (λ all. list_any (has_number c.args.number) (entered_in (take c.args.externals all))) names.shown

pub returns-in-None : goal.returns-in-None
returns-in-None c = λ types tokens syntax unit names.
    ap (is_below c.args.externals) (sym c.in-None.is ∙ c.get.ensures)
    ∙ ap (λ (firsts : ℕ → Option ℕ). is_below c.args.externals (firsts c.args.number)) names.firsts
    ∙ scope-told c.args.externals c.args.number c.args.self.now.shown
    ∙ ap (λ all. list_any (has_number c.args.number) (entered_in (take c.args.externals all))) names.shown
