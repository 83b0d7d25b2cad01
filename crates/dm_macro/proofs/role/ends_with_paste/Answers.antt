use Rattle.std.proofs.Common.{◌∙◌, sym, arith}
use Rattle.dm_macro.specs.Signs as sign
use Rattle.dm_macro.proofs.BodyLemmas.{is_last-at, is_last-nothing}
use Rattle.dm_macro.proofs.role.ends_with_paste.Goals as goal

pub returns-in-empty : goal.returns-in-empty
returns-in-empty c = is_last-nothing sign.is_hash_hash c.args.before.now c.in-empty.len_below

pub returns-in-len1-up : goal.returns-in-len1-up
returns-in-len1-up c =
    c.is_hash_hash.ensures ∙ sym (is_last-at sign.is_hash_hash c.args.before.now c.last-item.result (omega (arith, c.in-len1-up.len_at_least)) c.last-item.is)
