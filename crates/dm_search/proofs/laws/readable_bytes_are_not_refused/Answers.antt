-- Bytes that are tokens have a text, and in that no comment is open.
use Rattle.std.proofs.Common.{◌≡◌, ℕ, inl, inr, List, Result, Ok, Err, subst}
use Rattle.dm_token.specs.declared.stop.Refusal.{Refusal}
use Rattle.dm_phase.specs.declared.Character.{Character}
use Rattle.dm_phase.specs.Answer.{flat_of}
use Rattle.dm_lex.specs.Cuts.{OpensAt, first_state}
use Rattle.dm_search.specs.Readable.{IsReadable, IsRefusedAs}
use Rattle.dm_search.proofs.laws.readable_bytes_are_not_refused.Goals as goal

-- an answer is a text or a refusal
text-refused : {X Y : Type 0} (answer : Result X Y) (text : X) (refusal : Y) → answer ≡ Ok text → answer ≡ Err refusal → ⊥
text-refused answer text refusal ok err = absurd (cc (ok, err))

one-text : {X Y : Type 0} (answer : Result X Y) (text other : X) → answer ≡ Ok text → answer ≡ Ok other → text ≡ other
one-text answer text other ok also = cc (ok, also)

pub returns : goal.returns
returns c = by
  where
    by : (file : ℕ) (bytes : List ℕ) (refusal : Refusal) → IsReadable file bytes → IsRefusedAs file bytes refusal → ⊥
    by file bytes refusal (short, tokens, (text, flat, (pieces, cuts, are))) (inl deleted) = text-refused (flat_of file bytes) text refusal flat deleted
    by file bytes refusal (short, tokens, (text, flat, (pieces, cuts, are))) (inr (other, also, (opened, left, opens, is))) =
        let same : other ≡ text = one-text (flat_of file bytes) other text also flat in
        c.one_cut.ensures.none opened pieces text left (subst (λ (one : List Character). OpensAt first_state opened one left) same opens) cuts
