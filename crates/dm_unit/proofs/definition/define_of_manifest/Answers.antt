use Rattle.std.proofs.Common.{true, subst, sym, List}
use Rattle.dm_token.specs.declared.token.PpToken.{PpToken}
use Rattle.dm_token.specs.declared.expansion.Origin.TheVariants.{Manifest}
use Rattle.dm_unit.specs.Definitions.{DefinesLine}
use Rattle.dm_unit.specs.Views.{AreIn, state_of, Does, IsLineOf}
use Rattle.dm_unit.proofs.PlaceLemmas.{line-in, text-main}
use Rattle.dm_unit.proofs.DefinitionLemmas.{manifest-line}
use Rattle.dm_unit.proofs.definition.define_of_manifest.Goals as goal

pub returns-in-Ok-clause-leads : goal.returns-in-Ok-clause-leads
returns-in-Ok-clause-leads c = λ files.
    let main = c.args.reader.now.main in
    let state = state_of c.args.reader.now files in
    let after = state_of c.define_line.new.reader files in
    manifest-line main c.args.define.now c.in-Ok.line.items state c.define_line.result after (subst (λ define. IsLineOf main define c.in-Ok.line.items) c.bytes.ensures c.in-Ok.ensures.line)
    (subst (λ (line : List PpToken). Does (DefinesLine main line Manifest true state) c.define_line.result after) c.deref.ensures.value (c.define_line.ensures.leads files))

pub returns-in-Ok-clause-file : goal.returns-in-Ok-clause-file
returns-in-Ok-clause-file c =
    let main = c.args.reader.now.main in
    c.define_line.ensures.file (subst (AreIn main) (sym c.deref.ensures.value)
    (line-in main c.args.define.now c.in-Ok.line.items (subst (λ define. IsLineOf main define c.in-Ok.line.items) c.bytes.ensures c.in-Ok.ensures.line)))

pub returns-in-Err-clause-file : goal.returns-in-Err-clause-file
returns-in-Err-clause-file c = text-main c.args.reader.now.main c.bytes.result.now c.in-Err.stop c.in-Err.ensures.stop
