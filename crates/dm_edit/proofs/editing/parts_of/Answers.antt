-- The slices are the parts of the cut.
use Rattle.std.proofs.Common.{ap, ◌∙◌, sym, subst, drop, ℕ, List, length, ◌≤◌}
use Rattle.std.specs.List.{prefix_len}
use Rattle.std.proofs.lemmas.List.Sums.{prefix_len-le-length}
use Rattle.dm_edit.specs.Cuts.{is_blank}
use Rattle.dm_edit.proofs.CutLemmas.{front-cut, through-cut, rest-cut, behind-cut, body-cut}
use Rattle.dm_edit.proofs.editing.parts_of.Goals as goal

pub split_at-requires-4 : goal.split_at-requires-4
split_at-requires-4 c =
    let within = prefix_len-le-length is_blank c.split_at-3.result.1.now in
    subst (λ (n : ℕ). n ≤ length c.split_at-3.result.1.now) (sym c.blank_count.ensures) within

pub returns : goal.returns
returns c =
    let bytes = c.args.bytes.now in
    let definition = c.args.definition.now in
    let cut = c.requires.0 in
    let is_cut = c.requires.1 in
    let end = c.end_of_body.ensures in
    let behind = c.split_at-3.ensures.back ∙ (ap (drop definition.head_end) (c.split_at-2.ensures.front ∙ through-cut bytes definition cut _ is_cut end) ∙ behind-cut bytes definition cut is_cut) in (
      cut,
      is_cut,
      c.split_at.ensures.front ∙ front-cut bytes definition cut is_cut,
      c.split_at-4.ensures.back ∙ (ap (λ (n : ℕ). drop n c.split_at-3.result.1.now) c.blank_count.ensures ∙ (ap (λ (bytes : List ℕ). drop (prefix_len is_blank bytes) bytes) behind ∙ body-cut bytes definition cut is_cut)),
      c.split_at-2.ensures.back ∙ rest-cut bytes definition cut _ is_cut end,
    )
