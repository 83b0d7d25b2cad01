-- One entry more is settled.
use Rattle.std.specs.Prelude.{◌≡◌, ◌+◌, suc, length, refl}
use Rattle.std.proofs.Common.{sym, ap, ◌∙◌, arith}
use Rattle.dm_estanding.specs.Kinds.{whole_in}
use Rattle.dm_estanding.specs.Wholes.{kind_if}
use Rattle.dm_estanding.proofs.WholeLemmas.{settled_from, settled-next, settled-all, length-kind}
use Rattle.dm_estanding.proofs.wholes.settled.Goals as goal

pub loop-number-init : goal.loop-number-init
loop-number-init c = record { left = refl; many = refl }

pub loop-number-preserved : goal.loop-number-preserved
loop-number-preserved c =
    let links = c.args.links.now in
    let number = c.loop-number.number in
    let entries = c.loop-number.entries in
    let same : number ≡ 0 + number = omega arith in
    let next : number + 1 ≡ suc number = omega arith in record {
      left =
          ap (λ n. settled_from links 0 n c.with_whole-entries.result) next
          ∙ ap (settled_from links 0 (suc number)) (c.with_whole-entries.ensures ∙ ap (λ n. kind_if (whole_in links n) number entries) same)
          ∙ settled-next links 0 number entries ∙ c.loop-number.invariant.left;
      many = ap length c.with_whole-entries.ensures ∙ length-kind (whole_in links number) number entries ∙ c.loop-number.invariant.many;
    }

pub returns : goal.returns
returns c =
    let many = c.loop-number.invariant.many in
    let all = c.requires in
    let done = c.loop-number-test.false in
    sym (settled-all c.args.links.now 0 c.loop-number.number c.loop-number.entries (omega (arith, many, all, done))) ∙ c.loop-number.invariant.left
