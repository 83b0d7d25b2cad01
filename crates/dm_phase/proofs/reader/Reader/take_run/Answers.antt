-- What is left begins with the run.
use Rattle.std.proofs.Common.{◌≡◌, ◌<◌, ◌∙◌, ◌++◌, ◌+◌, ap, sym, subst, ℕ, List, true, length, get_or}
use Rattle.std.proofs.lemmas.List.{take-append-drop}
use Rattle.dm_phase.specs.Front.{is_plain, unread_after_phase_1}
use Rattle.dm_phase.specs.Phases.{characters_at}
use Rattle.dm_phase.proofs.PlainLemmas.{unread-run, plain-take}
use Rattle.dm_phase.proofs.reader.Reader.take_run.Goals as goal

pub returns-clause-text : goal.returns-clause-text
returns-clause-text c =
    let reader = c.args.self.now in
    let run : List ℕ = c.split_at.result.0.now in
    let others : List ℕ = c.split_at.result.1.now in
    let n : ℕ = c.plain_run.result in
    let whole : reader.rest.now ≡ run ++ others = rw (c.split_at.ensures.front, c.split_at.ensures.back) (sym (take-append-drop n reader.rest.now)) in
    let all : (k : ℕ) → k < length run → is_plain (get_or run k 0) ≡ true =
    subst (λ (r : List ℕ). (k : ℕ) → k < length r → is_plain (get_or r k 0) ≡ true) (sym c.split_at.ensures.front) (λ k below. plain-take reader.rest.now n k c.plain_run.ensures.plain below) in
    ap (unread_after_phase_1 reader.has_ended reader.at) whole
    ∙ unread-run reader.has_ended reader.at run others all
    ∙ ap (λ e. characters_at reader.at run ++ unread_after_phase_1 e (reader.at + length run) others) (sym c.has_ended-self.ensures)
