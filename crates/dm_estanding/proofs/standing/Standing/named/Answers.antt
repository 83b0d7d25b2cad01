-- The name means the earlier entry again, or else the new one.
use Rattle.std.specs.Prelude.{◌≡◌, true, false, Some, None, unwrap_or, length}
use Rattle.std.proofs.Common.{sym, ap, ◌∙◌, subst, arith}
use Rattle.dm_scope.specs.Scopes.{number_of, is_declared}
use Rattle.dm_typing.specs.Known.{Known}
use Rattle.dm_edecl.specs.Linkages.{number_before}
use Rattle.dm_estanding.specs.Summaries.{entry_over}
use Rattle.dm_estanding.proofs.DeclaringLemmas.{number-there, again-there, fresh-here, below-held, counted, named-is}
use Rattle.dm_estanding.proofs.standing.Standing.named.Goals as goal
use Rattle.dm_estanding.proofs.standing.Standing.named.Goals.{in_default-via-in-Some+else-number-len, in_default-via-in_default}

pub returns-in_ok-name_again-in-Some-clause-known : goal.returns-in_ok-name_again-in-Some-clause-known
returns-in_ok-name_again-in-Some-clause-known c = λ later before stands lawful may seen.
    let old = c.args.self.now.known in
    let entry = entry_over later c.args.entry in
    let name = c.args.entry.name in
    let number = c.in-Some.number in
    let found = sym (c.number_before.ensures later before stands) ∙ c.in-Some.is in
    let below = below-held later old before.known stands.known old.numbers in
    c.in_ok-name_again-in-Some.ensures.known later
    (subst (λ (it : Known). is_declared it.scopes name ≡ true → number_of it.scopes name ≡ Some number) stands.known (again-there before entry lawful below may number found))
    ∙ named-is later old before c.args.kind entry (Some number) stands.known seen found

pub returns-in_ok-number-in_default-clause-known : goal.returns-in_ok-number-in_default-clause-known
returns-in_ok-number-in_default-clause-known c = λ later before stands lawful may seen.
    let old = c.args.self.now.known in
    let entry = entry_over later c.args.entry in
    let below = below-held later old before.known stands.known old.numbers in
    let is = c.number_before.ensures later before stands in
    let none : number_before before entry ≡ None =
    elim c.in_default.branch [
      | in_default-via-in-Some+else-number-len w ↦
          (let inside = number-there before entry lawful below w.in-Some.number (sym is ∙ w.in-Some.is) in
          let all = counted later old before.known stands.known in
          let many = w.len.ensures in
          let beyond = w.if-number-len.false in
          absurd (omega (arith, inside, all, many, beyond)))
      | in_default-via-in_default w ↦ sym is ∙ w.in_default.is
    ] in
    let fresh = subst (λ (it : Known). is_declared it.scopes c.args.entry.name ≡ false) stands.known (fresh-here before entry lawful below may none) in
    c.in_ok-number-in_default.ensures.known later fresh ∙ named-is later old before c.args.kind entry None stands.known seen none

pub returns-in_ok-number-in_default-clause-number : goal.returns-in_ok-number-in_default-clause-number
returns-in_ok-number-in_default-clause-number c = λ later before stands lawful.
    let old = c.args.self.now.known in
    let entry = entry_over later c.args.entry in
    let below = below-held later old before.known stands.known old.numbers in
    let is = c.number_before.ensures later before stands in
    let none : number_before before entry ≡ None =
    elim c.in_default.branch [
      | in_default-via-in-Some+else-number-len w ↦
          (let inside = number-there before entry lawful below w.in-Some.number (sym is ∙ w.in-Some.is) in
          let all = counted later old before.known stands.known in
          let many = w.len.ensures in
          let beyond = w.if-number-len.false in
          absurd (omega (arith, inside, all, many, beyond)))
      | in_default-via-in_default w ↦ sym is ∙ w.in_default.is
    ] in
    c.in_ok-number-in_default.ensures.number ∙ counted later old before.known stands.known ∙ ap (λ found. unwrap_or found (length before.known.declared)) (sym none)
