use Rattle.std.proofs.Common.{◌∙◌, ap}
use Rattle.std.specs.List.{list_all}
use Rattle.dm_manifest.proofs.Lines.{token_may_stand, line_by_tokens, line_by_stop, line_by_refusal}
use Rattle.dm_manifest.proofs.define.line_may_stand.Goals as goal

pub returns-in-Ok-tokens : goal.returns-in-Ok-tokens
returns-in-Ok-tokens c = c.all_may_stand.ensures ∙ ap (list_all token_may_stand) c.items.ensures ∙ line_by_tokens 0 c.args.line.now c.in-Ok.flat.characters c.in-Ok-tokens.tokens c.in-Ok.ensures.flat c.in-Ok-tokens.ensures.tokens

pub returns-in-Err : goal.returns-in-Err
returns-in-Err c = line_by_refusal 0 c.args.line.now c.in-Err.stop c.unless_memory.result c.in-Err.ensures.flat c.unless_memory.ensures

pub returns : goal.returns
returns c = line_by_stop 0 c.args.line.now c.in-Ok.flat.characters c.in-Err-tokens.stop c.unless_memory-in-Err-tokens.result c.in-Ok.ensures.flat c.in-Err-tokens.ensures.stop c.unless_memory-in-Err-tokens.ensures
