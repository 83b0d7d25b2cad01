-- The rules are tried in their order.
use Rattle.std.specs.Prelude.{true, false, refl, Err}
use Rattle.std.proofs.Common.{sym, ap, ◌∙◌, subst}
use Rattle.dm_typing.specs.Known.{Known}
use Rattle.dm_typing.specs.Views.{known_over, source_of}
use Rattle.dm_typing.proofs.GivesLemmas.{grown}
use Rattle.dm_typing.proofs.LaterLemmas.{begins-on}
use Rattle.dm_edecl.specs.Declaring.{is_misplaced_static, may_be_object, may_be_main}
use Rattle.dm_edecl.specs.Linkages.{kind_seen}
use Rattle.dm_estanding.specs.Summaries.{entry_over}
use Rattle.dm_estanding.proofs.AgreementLemmas.{seen-compatible}
use Rattle.dm_edeclaration.specs.Steps.{specified_over, rule_broken, Permits}
use Rattle.dm_edeclaration.proofs.DeclarableLemmas.{third-rule, second-rule, fifth-rule, last-rule}
use Rattle.dm_edeclaration.proofs.declarable.declarable.Goals as goal

pub returns-then-not-may_be_declared-clause-gives : goal.returns-then-not-may_be_declared-clause-gives
returns-then-not-may_be_declared-clause-gives c = λ later on before stands lawful.
    let said = specified_over later c.args.said.now in
    let entry = entry_over later c.args.entry.now in
    let b = sym (c.may_be_declared.ensures later on before stands) ∙ c.if-not-may_be_declared.true in
    subst (λ fault. Permits later (source_of c.args.typer.now) (Err fault) (rule_broken said before c.args.initialised c.args.here c.args.name entry) before entry) (sym c.broken.ensures)
    (2, c.args.name, second-rule said before c.args.initialised c.args.here c.args.name entry b, refl)

pub returns-then-is_misplaced_static-clause-gives : goal.returns-then-is_misplaced_static-clause-gives
returns-then-is_misplaced_static-clause-gives c = λ later on before stands lawful.
    let said = specified_over later c.args.said.now in
    let entry = entry_over later c.args.entry.now in
    let b = sym (c.may_be_declared.ensures later on before stands) ∙ c.if-not-may_be_declared.false in
    let a = ap (λ (it : Known). is_misplaced_static it said.storage entry.sort) stands.known ∙ sym (c.is_misplaced_static.ensures later) ∙ c.if-is_misplaced_static.true in
    subst (λ fault. Permits later (source_of c.args.typer.now) (Err fault) (rule_broken said before c.args.initialised c.args.here c.args.name entry) before entry)
    (sym c.broken-then-is_misplaced_static.ensures)
    (3, c.args.said.now.first, third-rule said before c.args.initialised c.args.here c.args.name entry b a, refl)

pub returns-then-not-may_be_object-clause-gives : goal.returns-then-not-may_be_object-clause-gives
returns-then-not-may_be_object-clause-gives c = λ later on before stands lawful.
    let said = specified_over later c.args.said.now in
    let entry = entry_over later c.args.entry.now in
    let old = c.args.known.now in
    let new = c.kind_seen.new.known in
    let on-old = begins-on old.types.shapes new.types.shapes later c.kind_seen.ensures.grows.shapes on in
    let a = ap (λ (it : Known). is_misplaced_static it said.storage entry.sort) stands.known ∙ sym (c.is_misplaced_static.ensures later) ∙ c.if-is_misplaced_static.false in
    let b = sym (c.may_be_declared.ensures later on-old before stands) ∙ c.if-not-may_be_declared.false in
    let known = stands.known ∙ grown later old new c.kind_seen.ensures.grows in
    let seen = c.in_ok-kind.ensures.seen later on before stands (seen-compatible before entry lawful b) in
    let object = ap (λ (it : Known). may_be_object it said.storage c.args.initialised entry.sort (kind_seen before entry)) known
    ∙ ap (may_be_object (known_over later new) said.storage c.args.initialised entry.sort) (sym seen) ∙ sym (c.may_be_object.ensures later on) ∙ c.if-not-may_be_object.true in
    subst (λ fault. Permits later (source_of c.args.typer.now) (Err fault) (rule_broken said before c.args.initialised c.args.here c.args.name entry) before entry)
    (sym c.broken-then-not-may_be_object.ensures)
    (5, c.args.here, fifth-rule said before c.args.initialised c.args.here c.args.name entry b a object, refl)

pub returns-then-not-may-clause-gives : goal.returns-then-not-may-clause-gives
returns-then-not-may-clause-gives c = λ later on before stands lawful.
    let said = specified_over later c.args.said.now in
    let entry = entry_over later c.args.entry.now in
    let old = c.args.known.now in
    let mid = c.kind_seen.new.known in
    let new = c.may_be_main.new.known in
    let on-mid = begins-on mid.types.shapes new.types.shapes later c.may_be_main.ensures.grows.shapes on in
    let on-old = begins-on old.types.shapes mid.types.shapes later c.kind_seen.ensures.grows.shapes on-mid in
    let a = ap (λ (it : Known). is_misplaced_static it said.storage entry.sort) stands.known ∙ sym (c.is_misplaced_static.ensures later) ∙ c.if-is_misplaced_static.false in
    let b = sym (c.may_be_declared.ensures later on-old before stands) ∙ c.if-not-may_be_declared.false in
    let known = stands.known ∙ grown later old mid c.kind_seen.ensures.grows in
    let seen = c.in_ok-kind.ensures.seen later on-mid before stands (seen-compatible before entry lawful b) in
    let object = ap (λ (it : Known). may_be_object it said.storage c.args.initialised entry.sort (kind_seen before entry)) known
    ∙ ap (may_be_object (known_over later mid) said.storage c.args.initialised entry.sort) (sym seen) ∙ sym (c.may_be_object.ensures later on-mid) ∙ c.if-not-may_be_object.false in
    let main = ap (λ (it : Known). may_be_main it entry) (known ∙ grown later mid new c.may_be_main.ensures.grows) ∙ sym (c.in_ok-may.ensures.may later on) ∙ c.if-not-may.true in
    subst (λ fault. Permits later (source_of c.args.typer.now) (Err fault) (rule_broken said before c.args.initialised c.args.here c.args.name entry) before entry)
    (sym c.broken-then-not-may.ensures)
    (36, c.args.name, last-rule said before c.args.initialised c.args.here c.args.name entry b a object false main, refl)

pub returns-clause-gives : goal.returns-clause-gives
returns-clause-gives c = λ later on before stands lawful.
    let said = specified_over later c.args.said.now in
    let entry = entry_over later c.args.entry.now in
    let old = c.args.known.now in
    let mid = c.kind_seen.new.known in
    let new = c.may_be_main.new.known in
    let on-mid = begins-on mid.types.shapes new.types.shapes later c.may_be_main.ensures.grows.shapes on in
    let on-old = begins-on old.types.shapes mid.types.shapes later c.kind_seen.ensures.grows.shapes on-mid in
    let a = ap (λ (it : Known). is_misplaced_static it said.storage entry.sort) stands.known ∙ sym (c.is_misplaced_static.ensures later) ∙ c.if-is_misplaced_static.false in
    let b = sym (c.may_be_declared.ensures later on-old before stands) ∙ c.if-not-may_be_declared.false in
    let known = stands.known ∙ grown later old mid c.kind_seen.ensures.grows in
    let seen = c.in_ok-kind.ensures.seen later on-mid before stands (seen-compatible before entry lawful b) in
    let object = ap (λ (it : Known). may_be_object it said.storage c.args.initialised entry.sort (kind_seen before entry)) known
    ∙ ap (may_be_object (known_over later mid) said.storage c.args.initialised entry.sort) (sym seen) ∙ sym (c.may_be_object.ensures later on-mid) ∙ c.if-not-may_be_object.false in
    let main = ap (λ (it : Known). may_be_main it entry) (known ∙ grown later mid new c.may_be_main.ensures.grows) ∙ sym (c.in_ok-may.ensures.may later on) ∙ c.if-not-may.false in
    (last-rule said before c.args.initialised c.args.here c.args.name entry b a object true main, b, seen)
