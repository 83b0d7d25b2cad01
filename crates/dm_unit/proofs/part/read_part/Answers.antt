use Rattle.std.proofs.Common.{ℕ, List, Some, Err, drop, slice_range, sym, ap, ◌∙◌, subst}
use Rattle.dm_token.specs.declared.token.PpToken.{PpToken}
use Rattle.dm_unit.specs.States.{Outcome, Then}
use Rattle.dm_unit.specs.Includes.{Sought}
use Rattle.dm_unit.specs.Loaders.{shown}
use Rattle.dm_unit.specs.Readings.{ReadsPart, DoesDirective, Enters}
use Rattle.dm_unit.specs.Directives.{directive_of}
use Rattle.dm_unit.specs.declared.directive.Directive.{Directive}
use Rattle.dm_unit.specs.Views.{state_of, Stops, IsHeader, SearchesHeader, IncludesStop, part_of, held_tokens}
use Rattle.dm_unit.proofs.LeaveLemmas.{leaves-refl, faultless}
use Rattle.dm_unit.proofs.ReadingLemmas.{stops-map}
use Rattle.dm_unit.proofs.UnitLemmas.{held-file, slice-left}
use Rattle.dm_unit.proofs.PartLemmas.{drop-two, line-is, line-does, line-includes, include-enters, include-stops, all-stops}
use Rattle.dm_unit.proofs.part.read_part.Goals as goal

pub returns-in-Err-clause-leaves : goal.returns-in-Err-clause-leaves
returns-in-Err-clause-leaves g c =
    leaves-refl (g.F.Folder.files c.args.folder.now) (g.F.Folder.room c.args.folder.now) (g.F.Folder.faults c.args.folder.now) c.args.loader.now (Some c.in-Err.stop)
    (faultless c.in-Err.stop c.in-Err.ensures.faultless)

pub returns-in-Ok-find_included-clause-leads : goal.returns-in-Ok-find_included-clause-leads
returns-in-Ok-find_included-clause-leads g c = λ setting serves more outcome enters.
    let files = shown c.args.loader.now in
    let part = slice_range c.tokens_of.result.now c.args.from c.args.to in
    let start = c.start-item.result in
    let state = state_of c.args.reader.now files in
    subst (λ (ts : List PpToken). ReadsPart setting (Enters setting more) c.args.file (part_of (slice_range ts c.args.from c.args.to)) state outcome) c.tokens_of.ensures
    (line-includes setting more c.args.file part start c.directive_of-directive.result state outcome c.in-len1-up.len_at_least c.start-item.is (sym c.is_hash.ensures ∙ c.if-not-is_hash.false)
    (c.directive_of-directive.ensures ∙ ap directive_of (slice-left 1 part)) (c.includes.ensures.0 c.if-includes.true)
    (include-enters setting more c.args.file start (drop 1 (drop 1 part)) c.in-Ok-header_of.header c.args.reader.now c.find_included.new.reader files (shown c.find_included.new.loader) c.in-Ok-find_included.found outcome
    (subst (λ (operands : List PpToken). IsHeader start operands c.in-Ok-header_of.header) (c.operands_of.ensures ∙ drop-two part) c.in-Ok-header_of.ensures.header)
    (c.in-Ok-find_included.ensures.finds setting serves) c.in-Ok-find_included.ensures.included enters))

pub returns-in-Err-find_included-clause-leads : goal.returns-in-Err-find_included-clause-leads
returns-in-Err-find_included-clause-leads g c = λ setting serves.
    let files = shown c.args.loader.now in
    let part = slice_range c.tokens_of.result.now c.args.from c.args.to in
    let start = c.start-item.result in
    let state = state_of c.args.reader.now files in
    stops-map (λ (outcome : Outcome). Then (SearchesHeader setting c.args.file c.in-Ok-header_of.header files)
    (λ (found : Sought) (result : Outcome). IncludesStop setting.main c.in-Ok-header_of.header.start c.args.reader.now.inclusions found.number result) outcome)
    (λ (outcome : Outcome). (more : ℕ) → ReadsPart setting (Enters setting more) c.args.file (part_of (slice_range (held_tokens c.args.loader.now c.args.file) c.args.from c.args.to)) state outcome) c.in-Err-find_included.stop
    (λ other finds more.
    subst (λ (ts : List PpToken). ReadsPart setting (Enters setting more) c.args.file (part_of (slice_range ts c.args.from c.args.to)) state (Err other)) c.tokens_of.ensures
    (line-includes setting more c.args.file part start c.directive_of-directive.result state (Err other) c.in-len1-up.len_at_least c.start-item.is (sym c.is_hash.ensures ∙ c.if-not-is_hash.false)
    (c.directive_of-directive.ensures ∙ ap directive_of (slice-left 1 part)) (c.includes.ensures.0 c.if-includes.true)
    (include-stops setting more c.args.file start (drop 1 (drop 1 part)) c.in-Ok-header_of.header c.args.reader.now files other
    (subst (λ (operands : List PpToken). IsHeader start operands c.in-Ok-header_of.header) (c.operands_of.ensures ∙ drop-two part) c.in-Ok-header_of.ensures.header) finds)))
    (c.in-Err-find_included.ensures.finds setting serves)

pub returns-in-Err-do_directive-clause-leads : goal.returns-in-Err-do_directive-clause-leads
returns-in-Err-do_directive-clause-leads g c = λ setting serves.
    let files = shown c.args.loader.now in
    let part = slice_range c.tokens_of.result.now c.args.from c.args.to in
    let start = c.start-item.result in
    let state = state_of c.args.reader.now files in
    let bytes = held-file setting (g.F.Folder.files c.args.folder.now) c.args.unit.now c.args.reader.now.main c.args.loader.now c.args.loader.now _ c.args.file serves c.requires.held in
    all-stops (λ more. ReadsPart setting (Enters setting more) c.args.file (part_of (slice_range (held_tokens c.args.loader.now c.args.file) c.args.from c.args.to)) state) c.in-Err-do_directive.stop (λ more.
    subst (λ (ts : List PpToken). Stops (ReadsPart setting (Enters setting more) c.args.file (part_of (slice_range ts c.args.from c.args.to)) state) c.in-Err-do_directive.stop) c.tokens_of.ensures
    (stops-map (DoesDirective setting (Enters setting more) c.args.file c.directive_of-directive.result start (drop 1 part) state) (ReadsPart setting (Enters setting more) c.args.file (part_of part) state) c.in-Err-do_directive.stop
    (λ other does. line-does setting more c.args.file part start state (Err other) c.in-len1-up.len_at_least c.start-item.is (sym c.is_hash.ensures ∙ c.if-not-is_hash.false)
    (subst (λ (d : Directive). DoesDirective setting (Enters setting more) c.args.file d start (drop 1 part) state (Err other)) (c.directive_of-directive.ensures ∙ ap directive_of (slice-left 1 part)) does))
    (c.in-Err-do_directive.ensures.does setting (drop 1 part) more serves.main_is bytes (line-is part start c.in-len1-up.len_at_least c.start-item.is))))

pub returns-in-Err-do_directive-clause-leaves : goal.returns-in-Err-do_directive-clause-leaves
returns-in-Err-do_directive-clause-leaves g c =
    leaves-refl (g.F.Folder.files c.args.folder.now) (g.F.Folder.room c.args.folder.now) (g.F.Folder.faults c.args.folder.now) c.args.loader.now (Some c.in-Err-do_directive.stop)
    (faultless c.in-Err-do_directive.stop c.in-Err-do_directive.ensures.faultless)
