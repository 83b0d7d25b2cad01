-- What is left begins with a newline, or the two are no splice.
use Rattle.std.proofs.Common.{◌≡◌, ◌∙◌, ◌+◌, ap, sym, refl, true, ◌∷◌, drop, eqb}
use Rattle.std.proofs.lemmas.Bool.{ne_eqb, eq-eqb, and_from}
use Rattle.dm_token.specs.Places.{newline}
use Rattle.dm_phase.specs.declared.Character.{Character}
use Rattle.dm_phase.specs.Front.{unread_after_phase_1}
use Rattle.dm_phase.specs.Phases.{backslash}
use Rattle.dm_phase.proofs.Heads.{unread-none, unread-some}
use Rattle.dm_phase.proofs.Splices.{begins_splice-not, begins_splice-none, begins_splice-second}
use Rattle.dm_phase.proofs.reader.Reader.take_splice.Goals as goal

pub returns-then-character-ne92-clause-text : goal.returns-then-character-ne92-clause-text
returns-then-character-ne92-clause-text c = (begins_splice-not c.args.character _ (ne_eqb _ _ c.if-character-ne92.true), refl)

pub returns-in_default-clause-text : goal.returns-in_default-clause-text
returns-in_default-clause-text c =
    let reader = c.args.self.now in
    (begins_splice-none c.args.character _ (unread-none reader.has_ended reader.at reader.rest.now (sym c.front.ensures.value ∙ c.in_default.is)), refl)

pub returns-then-byte-ne10-clause-text : goal.returns-then-byte-ne10-clause-text
returns-then-byte-ne10-clause-text c =
    let reader = c.args.self.now in
    (begins_splice-second c.args.character _ _ _ (unread-some reader.has_ended reader.at reader.rest.now c.in-Some.byte c.in-Some.width (sym c.front.ensures.value ∙ c.in-Some.is)) (ne_eqb _ _ c.if-byte-ne10.true), refl)

pub returns-clause-text : goal.returns-clause-text
returns-clause-text c =
    let reader = c.args.self.now in
    let next : Character = record { byte = c.in-Some.byte; at = reader.at; width = c.in-Some.width } in
    let same : eqb c.in-Some.byte newline ≡ true = eq-eqb _ _ c.if-byte-ne10.false in (
      next,
      and_from (eqb c.args.character.byte backslash) (eqb c.in-Some.byte newline) (eq-eqb _ _ c.if-character-ne92.false) same,
      unread-some reader.has_ended reader.at reader.rest.now c.in-Some.byte c.in-Some.width (sym c.front.ensures.value ∙ c.in-Some.is)
          ∙ ap (λ e. next ∷ unread_after_phase_1 e (reader.at + c.in-Some.width) (drop c.in-Some.width reader.rest.now)) same
          ∙ ap (λ r. next ∷ unread_after_phase_1 true (reader.at + c.in-Some.width) r) (sym c.split_at.ensures.back),
    )
