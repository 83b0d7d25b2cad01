use Rattle.std.proofs.Common.{Bool, true, false, cond, not, refl, sym, ap, ◌∙◌, bytes_eq, ◌≡◌}
use Rattle.std.proofs.lemmas.Bool.{false≢true}
use Rattle.dm_macro.specs.NameSets.{has_name}
use Rattle.dm_macro.proofs.NameSetLemmas.{stands_again, apart_more, has_more}
use Rattle.dm_macro.proofs.name_set.are_distinct.Goals as goal

twice : (b : Bool) → b ≡ not (not b)
twice true = refl
twice false = refl

pub returns-then-not-branch : goal.returns-then-not-branch
returns-then-not-branch c =
    let there : has_name c.loop-name.seen c.name-item.result ≡ true =
    twice _ ∙ ap not (ap (λ n. not (has_name c.loop-name.seen n)) (sym c.in_ok-copy.ensures) ∙ sym c.in_ok-insert.ensures.added ∙ c.if-not-branch.true) in (
      λ never. absurd (false≢true never),
      λ apart. absurd (stands_again c.args.names.now c.loop-name.name-index c.name-item.result c.loop-name-test.true c.name-item.is (sym (c.loop-name.invariant.same _) ∙ there) apart),
    )

pub loop-name-preserved : goal.loop-name-preserved
loop-name-preserved c =
    let names = c.args.names.now in
    let name = c.name-item.result in
    let new : has_name c.loop-name.seen name ≡ false =
    twice _ ∙ ap not (ap (λ n. not (has_name c.loop-name.seen n)) (sym c.in_ok-copy.ensures) ∙ sym c.in_ok-insert.ensures.added ∙ c.if-not-branch.false) in
    record {
      apart = apart_more names c.loop-name.name-index name c.loop-name-test.true c.name-item.is (sym (c.loop-name.invariant.same name) ∙ new) c.loop-name.invariant.apart;
      same = has_more names c.loop-name.name-index name c.loop-name.seen c.insert.new.self c.loop-name-test.true c.name-item.is c.loop-name.invariant.same
          (λ q. c.in_ok-insert.ensures.updates.0 q ∙ ap (λ n. cond (bytes_eq n q) true (has_name c.loop-name.seen q)) c.in_ok-copy.ensures);
    }
