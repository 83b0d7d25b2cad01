-- A search through the definitions of all units goes through those of one after another.
use Rattle.std.proofs.Common.{◌≡◌, ℕ, ◌+◌, List, ◌∷◌, ◌&&◌, ◌==◌, drop, find, sym, ap, ◌∙◌}
use Rattle.std.specs.List.{flat_map}
use Rattle.std.specs.Option.{option_copied}
use Rattle.dm_token.specs.Places.{line_at}
use Rattle.dm_token.specs.declared.expansion.Definition.{Definition}
use Rattle.dm_definitions.specs.Counts.{is_in_file}
use Rattle.dm_judge.specs.Proposals.{definitions_in}
use Rattle.dm_rules.specs.declared.index.Index.{Index}
use Rattle.dm_rules.specs.Indexes.{readings_of}
use Rattle.dm_rules.proofs.ListLemmas.{item-left}
use Rattle.dm_subjects.specs.Lines.{stands_on}
use Rattle.dm_subjects.specs.Subjects.{bytes_at, has_key}
use Rattle.dm_subjects.proofs.SearchLemmas.{found-front, found-behind, found-same}
use Rattle.dm_subjects.proofs.found.definition_by.Goals as goal

pub returns-in-Some : goal.returns-in-Some
returns-in-Some c =
    let key = c.args.key in
    let loaded = c.args.lines.now.loader.now in
    let test = stands_on key.file c.line-line.result in
    let units = c.args.units.now in
    let i = c.loop-index.index-index in
    let one = c.index-item.result in
    let left : drop i units ≡ one ∷ drop (i + 1) units =
    item-left units i one c.loop-index-test.true ∙ ap (λ (first : Index). first ∷ drop (i + 1) units) (sym c.index-item.is) in
    sym (found-front test (definitions_in one.reading.now) (flat_map definitions_in (readings_of (drop (i + 1) units))) c.in-Some.definition.now
    (sym c.definition_by_index.ensures ∙ ap option_copied c.in-Some.is))
    ∙ sym (ap (λ (us : List Index). find test (flat_map definitions_in (readings_of us))) left) ∙ c.loop-index.invariant
    ∙ found-same test (has_key loaded key)
    (λ (each : Definition).
    ap (λ b. is_in_file each.origin && ((each.place.file == key.file) && b))
    (c.line-line.ensures each.hash ∙ ap (λ (file : ℕ). line_at (bytes_at loaded file) each.hash == key.line) c.requires))
    (flat_map definitions_in (readings_of units))

pub loop-index-preserved : goal.loop-index-preserved
loop-index-preserved c =
    let test = stands_on c.args.key.file c.line-line.result in
    let units = c.args.units.now in
    let i = c.loop-index.index-index in
    let one = c.index-item.result in
    let left : drop i units ≡ one ∷ drop (i + 1) units =
    item-left units i one c.loop-index-test.true ∙ ap (λ (first : Index). first ∷ drop (i + 1) units) (sym c.index-item.is) in
    sym (found-behind test (definitions_in one.reading.now) (flat_map definitions_in (readings_of (drop (i + 1) units)))
    (sym c.definition_by_index.ensures ∙ ap option_copied c.in_default.is))
    ∙ sym (ap (λ (us : List Index). find test (flat_map definitions_in (readings_of us))) left) ∙ c.loop-index.invariant
