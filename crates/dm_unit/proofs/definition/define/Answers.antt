use Rattle.std.proofs.Common.{sym, ◌∙◌, subst, List}
use Rattle.dm_token.specs.declared.token.PpToken.{PpToken}
use Rattle.dm_token.specs.declared.expansion.Origin.{Origin}
use Rattle.dm_unit.specs.Definitions.{DefinesLine, origin_of, is_plain_head}
use Rattle.dm_unit.specs.Views.{state_of, Does}
use Rattle.dm_unit.proofs.StepLemmas.{does-define, third-name}
use Rattle.dm_unit.proofs.definition.define.Goals as goal

pub returns-clause-leads : goal.returns-clause-leads
returns-clause-leads c = λ files behind is.
    let state = state_of c.args.reader.now files in
    let after = state_of c.define_line.new.reader files in
    does-define c.args.reader.now.main c.args.file c.args.bytes.now c.args.start.now behind state c.define_line.result after
    (third-name c.args.line.now c.args.start.now behind c.name-item.result is c.in-len3-up.len_at_least c.name-item.is (sym c.is_identifier.ensures ∙ c.if-not-is_identifier.false))
    (subst (λ (l : List PpToken). Does (DefinesLine c.args.reader.now.main l (origin_of c.args.file) (is_plain_head c.args.bytes.now c.args.start.now l) state) c.define_line.result after) is
    (subst (λ b. Does (DefinesLine c.args.reader.now.main c.args.line.now (origin_of c.args.file) b state) c.define_line.result after) c.is_plain_head-plain.ensures
    (subst (λ (o : Origin). Does (DefinesLine c.args.reader.now.main c.args.line.now o c.is_plain_head-plain.result state) c.define_line.result after) c.origin_of.ensures (c.define_line.ensures.leads files))))
