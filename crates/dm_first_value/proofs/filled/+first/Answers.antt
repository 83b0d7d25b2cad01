-- One member after the other.
use Rattle.std.proofs.Common.{◌≡◌, suc, ◌-◌, map, rules, arith, ap, sym, ◌∙◌}
use Rattle.dm_type.specs.Tables.{members_of}
use Rattle.dm_layout.specs.LaidOut.{laid_out}
use Rattle.dm_meaning.specs.Objects.{Field, element, filled, filled_struct}
use Rattle.dm_meaning.specs.Programs.{fields_in}
use Rattle.dm_meaning.specs.Values as values
use Rattle.dm_first_value.specs.Firsts.{scalar_of}
use Rattle.dm_first_value.proofs.FirstLemmas.{all-members, one-member}
use Rattle.dm_first_value.proofs.filled.+first.Goals as goal

pub filled_struct-loop-member-preserved : goal.filled_struct-loop-member-preserved
filled_struct-loop-member-preserved t c =
    let layout = laid_out c.args.layout.now in
    let next : c.in_ok-number.number ≡ suc c.loop-member.number = search rules in
    one-member (filled (scalar_of c.args.scalars) (filled_struct layout (scalar_of c.args.scalars) (c.args.depth - 1))) (fields_in c.args.layout.now (members_of c.args.layout.now c.args.structure))
    c.loop-member.number c.in_ok-number.number _ c.loop-member.values.items c.push.new.self.items c.in_ok-filled.field-0
    (c.in-Of.ensures.view ∙ ap (λ type. element layout type c.loop-member.number) c.requires.1) next c.in_ok-push.ensures.items c.in_ok-filled.ensures c.loop-member.invariant.1

pub filled_struct-returns : goal.filled_struct-returns
filled_struct-returns t c =
    let layout = laid_out c.args.layout.now in
    let scalar = scalar_of c.args.scalars in
    let fields = fields_in c.args.layout.now (members_of c.args.layout.now c.args.structure) in
    let one = filled scalar (filled_struct layout scalar (c.args.depth - 1)) in
    let deep : c.args.depth ≡ suc (c.args.depth - 1) = omega (arith, c.if-depth-eq0.false) in
    let all = all-members c.args.layout.now c.element.result fields c.loop-member.number c.in_default.not-Of (c.element.ensures.view ∙ ap (λ type. element layout type c.loop-member.number) c.requires.1) c.loop-member.invariant.0 in
    c.in_ok-value.ensures
    ∙ (ap (λ parts. values.parts (values.values parts)) (c.loop-member.invariant.1 ∙ ap (map (λ (field : Field). one field.kind)) all)
    ∙ sym (ap (λ depth. filled_struct layout scalar depth c.args.structure) deep))
