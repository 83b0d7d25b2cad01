-- One member more, and those that are left.
use Rattle.std.proofs.Common.{◌≡◌, ◌∷◌, rules, sym, ◌∙◌}
use Rattle.std.proofs.lemmas.List.Elements.{All-head, All-push, All-rest, All-same}
use Rattle.dm_type.specs.declared.shape.Member.{Member}
use Rattle.dm_type.specs.Tables.{IsId}
use Rattle.dm_layout.specs.declared.layout.Field.{Field}
use Rattle.dm_layout.proofs.FieldLemmas.{next-field}
use Rattle.dm_layout.proofs.fields.fields.Goals as goal

pub loop-member-preserved : goal.loop-member-preserved
loop-member-preserved c =
    let here = c.in-Some-split_first in
    let table = c.args.types.now in
    let e : c.loop-member.left.now ≡ here.member.now ∷ here.rest.now = search rules in
    let known : IsId table here.member.now.kind =
    All-head (λ (member : Member). IsId table member.kind) here.member.now here.rest.now
    (All-same (λ (member : Member). IsId table member.kind) (here.member.now ∷ here.rest.now) c.loop-member.left.now (sym e) c.loop-member.invariant.2) in (
      next-field table c.loop-member.fields.items c.push.new.self.items _ here.member.now c.loop-member.left.now here.rest.now c.loop-member.end c.in_ok-end.end
          c.in-Some-room.size c.in-Some-room.alignment e (search rules) c.in_ok-push.ensures.items (search rules) (search rules) (search rules)
          ∙ c.loop-member.invariant.0,
      All-same (λ (field : Field). IsId table field.kind) c.push.new.self.items _ c.in_ok-push.ensures.items
          (All-push (λ (field : Field). IsId table field.kind) c.loop-member.fields.items _ c.loop-member.invariant.1 known),
      All-rest (λ (member : Member). IsId table member.kind) here.member.now here.rest.now c.loop-member.left.now e c.loop-member.invariant.2,
    )
