use Rattle.std.specs.Prelude.{ℕ, Option}
use Rattle.std.proofs.Common.{[], map, ap, ◌∙◌}
use Rattle.dm_syn.specs.Views as view
use Rattle.dm_tree.specs.Views.{view_of_unit, view_of_external}
use Rattle.dm_names.specs.Declarations.{numbers_declared, structs_in}
use Rattle.dm_names.specs.Indexes.{ends_from}
use Rattle.dm_names.specs.Meanings.{shown_by, identifiers_in}
use Rattle.dm_names.specs.Positions.{no_positions, identifiers_noted, shown_noted}
use Rattle.dm_names.proofs.names.Names.of.Goals as goal

pub returns : goal.returns
returns c =
    let types = c.args.types.now in
    let one = view_of_unit types c.args.unit.now in
    record {
      shown = c.in_ok-shown.ensures
          ∙ ap (λ numbers. shown_by (record { tokens = c.args.tokens.now; numbers = numbers }) (map view.external c.args.syntax.now))
          (c.items-2.ensures ∙ c.in_ok-numbers.ensures ∙ ap (λ all. numbers_declared [] (map (view_of_external types) all)) c.items.ensures);
      identifiers = c.in_ok-identifiers.ensures ∙ ap identifiers_in c.items-3.ensures;
      places = c.in_ok-note_identifiers.ensures ∙ ap (λ (before : ℕ → Option ℕ). identifiers_noted before 0 c.items-4.result.now) c.new-places.ensures
          ∙ ap (identifiers_noted no_positions 0) c.items-4.ensures;
      firsts = c.in_ok-note_shown.ensures ∙ ap (λ (before : ℕ → Option ℕ). shown_noted before 0 c.items-5.result.now) c.new-firsts.ensures
          ∙ ap (shown_noted no_positions 0) c.items-5.ensures;
      structs = c.in_ok-structs.ensures.structs ∙ ap (structs_in one) c.items-6.ensures;
      ends = c.in_ok-structs.ensures.ends ∙ ap (ends_from one 0) c.items-6.ensures;
    }
