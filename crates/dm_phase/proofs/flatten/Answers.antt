-- The loop keeps the text, and each ending is the one that is meant.
use Rattle.std.proofs.Common.{◌≡◌, Ok, Err, sym, ◌∙◌, ◌-◌, ◌^◌, ap, arith, length, [], List}
use Rattle.dm_phase.specs.declared.Character.{Character}
use Rattle.dm_phase.specs.Answer.{flat_of, unless_refused}
use Rattle.dm_phase.specs.Phases.{after_phase_2, flat_text}
use Rattle.dm_phase.specs.Pending.{text_of, behind}
use Rattle.dm_phase.specs.PositionLaws.{flat_text-in_order, flat_text-count, flat_text-ends_in_newline}
use Rattle.dm_phase.specs.Positions.{InOrder-wider}
use Rattle.dm_phase.specs.Reading.{left}
use Rattle.dm_phase.specs.Writing.{written}
use Rattle.dm_phase.proofs.Splices.{behind-none, behind-err, ends}
use Rattle.dm_phase.proofs.flatten.Goals as goal

pub loop-character-init : goal.loop-character-init
unfolding flat_text
loop-character-init c = record {
  text = c.in_ok-take_run.ensures.text
      ∙ ap (λ (kept : List Character). behind kept (after_phase_2 (left c.new-reader.result))) c.in_ok-writer.ensures.text
      ∙ behind-none (after_phase_2 (left c.new-reader.result))
      ∙ ap after_phase_2 c.new-reader.ensures.whole;
  kept = c.in_ok-take_run.ensures.kept;
  end = c.take_run.ensures.end ∙ c.new-reader.ensures.end;
}

pub returns-then-branch-clause-flat : goal.returns-then-branch-clause-flat
unfolding flat_of
returns-then-branch-clause-flat c =
    let text : List Character = written c.loop-character.writer in
    let read = c.in-Some.ensures.text in
    let meant : flat_text c.args.bytes.now ≡ Err c.in-Some.character =
    sym c.loop-character.invariant.text ∙ ap (λ t. behind text (after_phase_2 t)) read ∙ behind-err text _ _ (c.in_ok-take_character.ensures.refused c.if-branch.true) in
    rw c.refusal.ensures.refused (ap (unless_refused c.args.file c.args.bytes.now) meant)

-- what is written at the end
flat_is : (c : goal.In_ok-of) → flat_text c.args.bytes.now ≡ Ok c.in_ok-of.field-0.characters
flat_is c =
    let text : List Character = written c.loop-character.writer in
    let none : left c.loop-character.reader ≡ [] = c.next.ensures.text ∙ ap (λ next. text_of next (left c.next.new.self)) c.in_default.is in
    ends text _ (sym (ap (λ t. behind text (after_phase_2 t)) none) ∙ c.loop-character.invariant.text) ∙ ap Ok (sym c.in_ok-of.ensures)

pub of-requires : goal.of-requires
of-requires c =
    let text : List Character = written c.loop-character.writer in
    let none : left c.loop-character.reader ≡ [] = c.next.ensures.text ∙ ap (λ next. text_of next (left c.next.new.self)) c.in_default.is in
    InOrder-wider 0 (length c.args.bytes.now) (2 ^ 32 - 1) text (omega (arith, c.requires))
    (flat_text-in_order c.args.bytes.now text (ends text _ (sym (ap (λ t. behind text (after_phase_2 t)) none) ∙ c.loop-character.invariant.text)))

pub returns-clause-flat : goal.returns-clause-flat
unfolding flat_of
returns-clause-flat c = ap (unless_refused c.args.file c.args.bytes.now) (flat_is c)

pub returns-clause-in_order : goal.returns-clause-in_order
returns-clause-in_order c = flat_text-in_order c.args.bytes.now c.in_ok-of.field-0.characters (flat_is c)

pub returns-clause-terminated : goal.returns-clause-terminated
returns-clause-terminated c = flat_text-ends_in_newline c.args.bytes.now c.in_ok-of.field-0.characters (flat_is c)

pub returns-clause-count : goal.returns-clause-count
returns-clause-count c = flat_text-count c.args.bytes.now c.in_ok-of.field-0.characters (flat_is c)
