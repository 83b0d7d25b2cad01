-- A visible byte stands behind the head.
use Rattle.std.proofs.Common.{◌≡◌, ◌<◌, ℕ, List, Some, length, take, drop, sym, ap, ◌∙◌, subst, arith}
use Rattle.std.specs.List.{prefix_len}
use Rattle.std.proofs.lemmas.Bool.{ltb-true, lt-ltb}
use Rattle.dm_edit.specs.Cuts.{is_blank, body_end}
use Rattle.dm_edit.proofs.VisibleLemmas.{lies-between, visible-behind, not-blank}
use Rattle.dm_edit.proofs.editing.lies_in.Goals as goal

abbrev ShowsSome : List ℕ → Type 0
ShowsSome text = prefix_len is_blank text < length text

pub returns : goal.returns
returns c =
    let bytes = c.args.bytes.now in
    let definition = c.args.definition.now in
    let end = c.in-Some.last_end in
    let seen = c.split_at-2.result.1.now in
    let ends : body_end definition ≡ Some end = sym c.last_end.ensures ∙ c.in-Some.is in
    let behind : seen ≡ drop definition.head_end (take end bytes) = c.split_at-2.ensures.back ∙ ap (drop definition.head_end) c.split_at.ensures.front in
    let count = c.blank_count.ensures in (
      λ some.
          lies-between bytes definition end ends (omega (arith, c.if-hash-head_end.false)) (omega (arith, c.if-head_end-end.false)) (omega (arith, c.if-end-bytes.false))
          (visible-behind (drop definition.head_end (take end bytes)) (subst ShowsSome behind (subst (λ (n : ℕ). n < length seen) count (ltb-true c.blank_count.result (length seen) some)))),
      λ lies.
          lt-ltb c.blank_count.result (length seen) (subst (λ (n : ℕ). n < length seen) (sym count) (subst ShowsSome (sym behind) (not-blank bytes definition end lies ends))),
    )
