use Rattle.std.proofs.Common.{◌≡◌, sym, ◌∙◌, true, ap, List, ℕ, bytes_eq}
use Rattle.std.specs.Option.{option_copied}
use Rattle.std.specs.HashSet.{contains_by}
use Rattle.dm_macro.specs.Signs.{is_fixed}
use Rattle.dm_manifest.specs.Defines.{name_of, is_define}
use Rattle.dm_manifest.proofs.Steps.{name_found, not_fixed, may_define, held_behind, OnTrue-any}
use Rattle.dm_manifest.proofs.unit.take_name.Goals as goal

pub returns-then-is_fixed-clause-answer : goal.returns-then-is_fixed-clause-answer
returns-then-is_fixed-clause-answer c =
    let found : (is_define c.args.define.now ≡ true) × (c.in-Some.name.now ≡ name_of c.args.define.now) = name_found c.args.define.now c.in-Some.name.now (sym (ap option_copied c.in-Some.is) ∙ c.in_ok-name.ensures) in
    not_fixed (is_define c.args.define.now) is_fixed _ c.in-Some.name.now (name_of c.args.define.now) found.0 found.1 (ap is_fixed (sym c.as_bytes.ensures.value) ∙ sym c.is_fixed.ensures ∙ c.if-is_fixed.true)

pub returns-clause-answer : goal.returns-clause-answer
returns-clause-answer c =
    let found : (is_define c.args.define.now ≡ true) × (c.in-Some.name.now ≡ name_of c.args.define.now) = name_found c.args.define.now c.in-Some.name.now (sym (ap option_copied c.in-Some.is) ∙ c.in_ok-name.ensures) in
    may_define (is_define c.args.define.now) is_fixed (λ (q : List ℕ). contains_by (λ name. bytes_eq q name.now) c.args.names.now) c.in-Some.name.now (name_of c.args.define.now) c.in_ok-insert.field-0
    found.0 found.1 (ap is_fixed (sym c.as_bytes.ensures.value) ∙ sym c.is_fixed.ensures ∙ c.if-is_fixed.false) c.in_ok-insert.ensures.added

pub returns-clause-names : goal.returns-clause-names
returns-clause-names c =
    let found : (is_define c.args.define.now ≡ true) × (c.in-Some.name.now ≡ name_of c.args.define.now) = name_found c.args.define.now c.in-Some.name.now (sym (ap option_copied c.in-Some.is) ∙ c.in_ok-name.ensures) in
    OnTrue-any c.in_ok-insert.field-0 _ (λ q. held_behind c.in-Some.name.now (name_of c.args.define.now) q _ _ found.1 (c.in_ok-insert.ensures.updates.0 (record { ref_ptr = (0, 0); now = q })))
