use Rattle.std.proofs.Common.{◌∷◌, ◌++◌, [], ℕ, List, refl, sym, ap, ◌∙◌, subst}
use Rattle.dm_unit.specs.Definitions.{DefinesLine, with_definition}
use Rattle.dm_unit.specs.Views.{state_of, Stops}
use Rattle.dm_token.specs.declared.stop.Stop.{Stop}
use Rattle.dm_unit.specs.Loaders.{IsOf, file_of}
use Rattle.dm_unit.proofs.PlaceLemmas.{refuses-main}
use Rattle.dm_unit.proofs.DefinitionLemmas.{line-limit, line-stops, line-defines, refuses-faultless, ok-defined}
use Rattle.dm_unit.proofs.definition.define_line.Goals as goal

pub returns-then-reader-ge-MOST_WORK-clause-leads : goal.returns-then-reader-ge-MOST_WORK-clause-leads
returns-then-reader-ge-MOST_WORK-clause-leads c = λ files.
    let state = state_of c.args.reader.now files in
    subst (Stops (DefinesLine c.args.reader.now.main c.args.line.now c.args.origin c.args.plain state)) (sym c.passed.ensures.stop)
    (line-limit c.args.reader.now.main c.args.line.now c.args.origin c.args.plain state c.if-reader-ge-MOST_WORK.true)

pub returns-in-Err-clause-leads : goal.returns-in-Err-clause-leads
returns-in-Err-clause-leads c = λ files.
    line-stops c.args.reader.now.main c.args.line.now c.args.origin c.args.plain (state_of c.args.reader.now files) c.in-Err.stop c.if-reader-ge-MOST_WORK.false c.in-Err.ensures.refused

pub returns-clause-leads : goal.returns-clause-leads
returns-clause-leads c = λ files.
    let reader = c.args.reader.now in
    let state = state_of reader files in
    line-defines reader.main c.args.line.now c.args.origin c.args.plain state _ c.define.new.self c.if-reader-ge-MOST_WORK.false (ok-defined c.define.result _ c.in_default.not-Err c.define.ensures.defined)
    (ap (λ (before : List ℕ). record (with_definition c.define.new.self state) { before = before }) (c.in_ok-push.ensures.items ∙ ap (λ (n : ℕ). reader.before.items ++ n ∷ []) (c.len.ensures ∙ reader.tokens.ok.0)))

pub returns-in-Err-clause-faultless : goal.returns-in-Err-clause-faultless
returns-in-Err-clause-faultless c = refuses-faultless c.args.reader.now.table c.args.line.now c.args.origin c.args.plain c.in-Err.stop c.in-Err.ensures.refused

pub returns-then-reader-ge-MOST_WORK-clause-file : goal.returns-then-reader-ge-MOST_WORK-clause-file
returns-then-reader-ge-MOST_WORK-clause-file c = λ all not. subst (λ (stop : Stop). IsOf (file_of stop) c.args.reader.now.main) (sym c.passed.ensures.stop) refl

pub returns-in-Err-clause-file : goal.returns-in-Err-clause-file
returns-in-Err-clause-file c = λ all. refuses-main c.args.reader.now.main c.args.reader.now.table c.args.line.now c.args.origin c.args.plain c.in-Err.stop all c.in-Err.ensures.refused
