use Rattle.std.proofs.Common.{◌||◌, ◌-◌, sym, ap, ◌∙◌, arith, length, false, slice_get}
use Rattle.std.specs.Option.{option_map_or}
use Rattle.dm_macro.specs.Signs.{is_hash_hash}
use Rattle.dm_macro.proofs.FormLemmas.{tested_at}
use Rattle.dm_macro.proofs.form.has_paste_at_an_end.Goals as goal

pub returns-else-is_hash_hash : goal.returns-else-is_hash_hash
returns-else-is_hash_hash c =
    let body = c.args.body.now in
    let first = tested_at is_hash_hash body 0 c.first-item.result (omega arith) c.first-item.is in
    let last = tested_at is_hash_hash body (length body - 1) c.last-item.result (omega arith) c.last-item.is in
    let none = first ∙ sym c.is_hash_hash-in-len2-up.ensures ∙ c.if-is_hash_hash.false in
    c.is_hash_hash-else-is_hash_hash.ensures ∙ sym last ∙ sym (ap (λ b. b || option_map_or is_hash_hash (slice_get body (length body - 1)) false) none)
