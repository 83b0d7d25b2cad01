-- Bytes to which nothing happens in phases 1 and 2.
use Rattle.std.proofs.Common.{◌≡◌, ◌<◌, ◌+◌, ℕ, zero, suc, Bool, true, false, not, List, [], ◌∷◌, ◌++◌, length, get_or, take, refl, sym, ◌∙◌, ap, add-zero, ◌==◌, ◌&&◌, arith}
use Rattle.std.proofs.lemmas.Bool.{and_parts, not-true}
use Rattle.dm_token.specs.Places.{newline}
use Rattle.dm_phase.specs.declared.Character.{Character}
use Rattle.dm_phase.specs.Phases.{backslash, question_mark, carriage_return, characters_at}
use Rattle.dm_phase.specs.Front.{is_plain, ended_behind, unread_after_phase_1}
use Rattle.dm_phase.proofs.Heads.{reads-other}

-- it is none of three bytes
pub is_plain-parts : (byte : ℕ) → is_plain byte ≡ true → ((byte == question_mark) ≡ false) × ((byte == carriage_return) ≡ false) × ((byte == backslash) ≡ false)
unfolding is_plain
is_plain-parts byte is =
    let front = and_parts (not (byte == question_mark) && not (byte == carriage_return)) (not (byte == backslash)) is in
    let parts = and_parts (not (byte == question_mark)) (not (byte == carriage_return)) front.0 in
    (not-true _ parts.0, not-true _ parts.1, not-true _ front.1)

-- what is left begins with such bytes
pub unread-run : (has_ended : Bool) (at : ℕ) (run rest : List ℕ) → ((k : ℕ) → k < length run → is_plain (get_or run k 0) ≡ true) →
    unread_after_phase_1 has_ended at (run ++ rest) ≡ characters_at at run ++ unread_after_phase_1 (ended_behind has_ended run) (at + length run) rest
unfolding characters_at ended_behind
unread-run has_ended at [] rest all = ap (λ n. unread_after_phase_1 has_ended n rest) (sym (add-zero at))
unread-run has_ended at (byte ∷ run) rest all =
    let c : Character = record { byte = byte; at = at; width = 1 } in
    let parts = is_plain-parts byte (all 0 (omega arith)) in
    let e : at + 1 + length run ≡ at + suc (length run) = omega arith in
    reads-other has_ended at byte (run ++ rest) parts.0 parts.1
    ∙ ap (λ text. c ∷ text) (unread-run (byte == newline) (at + 1) run rest (λ k below. all (suc k) (omega arith))
    ∙ ap (λ n. characters_at (at + 1) run ++ unread_after_phase_1 (ended_behind (byte == newline) run) n rest) e)

-- the last byte says whether a line has ended
pub ended_behind-last : (has_ended : Bool) (run : List ℕ) (k : ℕ) → suc k ≡ length run → ended_behind has_ended run ≡ (get_or run k 0 == newline)
unfolding ended_behind
ended_behind-last has_ended [] k e = absurd (omega arith)
ended_behind-last has_ended (byte ∷ []) zero e = refl
ended_behind-last has_ended (byte ∷ []) (suc k) e = absurd (omega arith)
ended_behind-last has_ended (byte ∷ next ∷ run) zero e = absurd (omega arith)
ended_behind-last has_ended (byte ∷ next ∷ run) (suc k) e = ended_behind-last (byte == newline) (next ∷ run) k (omega arith)

-- behind no bytes nothing has changed
pub ended_behind-none : (has_ended : Bool) (run : List ℕ) → length run ≡ 0 → has_ended ≡ ended_behind has_ended run
unfolding ended_behind
ended_behind-none has_ended [] none = refl
ended_behind-none has_ended (byte ∷ run) none = absurd (omega arith)

-- bytes at the front
pub plain-take : (bytes : List ℕ) (n k : ℕ) → ((i : ℕ) → i < n → is_plain (get_or bytes i 0) ≡ true) → k < length (take n bytes) → is_plain (get_or (take n bytes) k 0) ≡ true
plain-take [] zero k all below = absurd (omega arith)
plain-take [] (suc n) k all below = absurd (omega arith)
plain-take (byte ∷ bytes) zero k all below = absurd (omega arith)
plain-take (byte ∷ bytes) (suc n) zero all below = all 0 (omega arith)
plain-take (byte ∷ bytes) (suc n) (suc k) all below = plain-take bytes n k (λ i h. all (suc i) (omega arith)) (omega arith)
