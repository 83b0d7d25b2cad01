-- One definition more is passed, or is to be edited.
use Rattle.std.proofs.Common.{◌≡◌, ◌-◌, ◌<◌, ◌∷◌, [], length, length-append, Some, sym, ap, ◌∙◌, subst, arith}
use Rattle.std.specs.Option.{option_copied}
use Rattle.dm_judge.specs.Proposals.{proposed}
use Rattle.dm_judge.specs.Units.{readings_of}
use Rattle.dm_rules.specs.Indexes as indexes
use Rattle.dm_subjects.specs.Subjects.{definition_at}
use Rattle.dm_planning.specs.Steps.{HasJudged, project_of}
use Rattle.dm_planning.proofs.JudgeLemmas.{judged-more, judges-broken, judges-unread, last-left}
use Rattle.dm_planning.proofs.judging.next_among.Goals as goal

pub returns-in-Change-clause-next : goal.returns-in-Change-clause-next
returns-in-Change-clause-next c =
    let subjects = c.args.subjects.now in
    let entries = c.loop-judged.entries in
    let subject = c.index-subjects-subjects.result in
    let counted = c.loop-judged.invariant.counted in
    let inside = c.loop-judged-test.true in
    let less : length entries < length subjects = omega (arith, counted, inside) in
    let project = c.loop-judged.project in
    let kept = indexes.readings_of c.args.by_unit.now in
    let found : option_copied c.definition_by-found.result ≡ definition_at c.args.loader.now kept subject.key =
    c.definition_by-found.ensures ∙ ap (λ loaded. definition_at loaded kept subject.key) (c.in_ok-here.ensures.loader ∙ c.loop-judged.invariant.loader) in
    let whole : readings_of project ≡ kept = ap indexes.readings_of c.loop-judged.invariant.indexes in (
      less,
      subject,
      last-left subjects entries (length subjects - 1 - c.loop-judged.judged) subject less (ap (λ n. length subjects - 1 - n) (sym counted)) c.index-subjects-subjects.is,
      c.in-Some.definition.now,
      sym found ∙ ap option_copied c.in-Some.is,
      sym (ap (λ readings. proposed readings c.in-Some.definition.now) whole) ∙ c.in_ok-rule.ensures.proposed ∙ ap Some c.in-Change.is,
    )

pub loop-judged-preserved : goal.loop-judged-preserved
loop-judged-preserved c =
    let subjects = c.args.subjects.now in
    let entries = c.loop-judged.entries in
    let subject = c.index-subjects-subjects.result in
    let counted = c.loop-judged.invariant.counted in
    let inside = c.loop-judged-test.true in
    let less : length entries < length subjects = omega (arith, counted, inside) in
    let project = c.loop-judged.project in
    let kept = indexes.readings_of c.args.by_unit.now in
    let found : option_copied c.definition_by-found.result ≡ definition_at c.args.loader.now kept subject.key =
    c.definition_by-found.ensures ∙ ap (λ loaded. definition_at loaded kept subject.key) (c.in_ok-here.ensures.loader ∙ c.loop-judged.invariant.loader) in
    let whole : readings_of project ≡ kept = ap indexes.readings_of c.loop-judged.invariant.indexes in
    let definition = c.in-Some.definition.now in
    let is = sym (ap (λ readings. proposed readings definition) whole) ∙ c.in_ok-rule.ensures.proposed ∙ ap Some c.in-Broken.is in
    let rule = c.in-Broken.rule in
    let place = c.in-Broken.place in
    let entry = c.in_ok-kept_entry-in-Broken.field-0 in
    let entry_is = c.in_ok-kept_entry-in-Broken.ensures in
    let pushed = c.in_ok-push-in-Broken.ensures.ok in
    let count = ap length pushed ∙ length-append entries (entry ∷ []) in
    let more = c.loop-judged.invariant.more in
    record {
      counted = omega (arith, count, counted);
      whole = c.in_ok-rule.ensures.whole;
      indexes = c.in_ok-rule.ensures.indexes ∙ c.loop-judged.invariant.indexes;
      loader = c.in_ok-here.ensures.loader ∙ c.loop-judged.invariant.loader;
      more = omega (arith, count, more);
      judged = λ told units first readings before.
          let now = project_of c.args.loader.now kept readings in
          subst (λ all. HasJudged told units first subjects all now) (sym pushed)
          (judged-more told units first now now subjects entries subject entry (c.loop-judged.invariant.judged told units first readings before) less
          (last-left subjects entries (length subjects - 1 - c.loop-judged.judged) subject less (ap (λ n. length subjects - 1 - n) (sym counted)) c.index-subjects-subjects.is)
          (judges-broken told units now subject definition rule place entry (sym found ∙ ap option_copied c.in-Some.is) is entry_is));
    }

pub loop-judged-preserved-in_default : goal.loop-judged-preserved-in_default
loop-judged-preserved-in_default c =
    let subjects = c.args.subjects.now in
    let entries = c.loop-judged.entries in
    let subject = c.index-subjects-subjects.result in
    let counted = c.loop-judged.invariant.counted in
    let inside = c.loop-judged-test.true in
    let less : length entries < length subjects = omega (arith, counted, inside) in
    let kept = indexes.readings_of c.args.by_unit.now in
    let found : option_copied c.definition_by-found.result ≡ definition_at c.args.loader.now kept subject.key =
    c.definition_by-found.ensures ∙ ap (λ loaded. definition_at loaded kept subject.key) (c.in_ok-here.ensures.loader ∙ c.loop-judged.invariant.loader) in
    let entry = c.in_ok-unread_entry.field-0 in
    let pushed = c.in_ok-push.ensures.ok in
    let count = ap length pushed ∙ length-append entries (entry ∷ []) in
    let more = c.loop-judged.invariant.more in
    record {
      counted = omega (arith, count, counted);
      whole = c.loop-judged.invariant.whole;
      indexes = c.loop-judged.invariant.indexes;
      loader = c.in_ok-here.ensures.loader ∙ c.loop-judged.invariant.loader;
      more = omega (arith, count, more);
      judged = λ told units first readings before.
          let now = project_of c.args.loader.now kept readings in
          subst (λ all. HasJudged told units first subjects all now) (sym pushed)
          (judged-more told units first now now subjects entries subject entry (c.loop-judged.invariant.judged told units first readings before) less
          (last-left subjects entries (length subjects - 1 - c.loop-judged.judged) subject less (ap (λ n. length subjects - 1 - n) (sym counted)) c.index-subjects-subjects.is)
          (judges-unread told units now subject entry (sym found ∙ ap option_copied c.in_default.is) c.in_ok-unread_entry.ensures));
    }
