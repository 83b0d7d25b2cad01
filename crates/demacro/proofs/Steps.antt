-- From what the steps of a call do to how it ends.
use Rattle.std.proofs.Common.{◌≡◌, ℕ, inl, inr, List, Some, None, true, refl, sym, subst, Result, Ok, Err, IfOk, OnOk, OnErr, MatchResult, arith}
use Rattle.std.specs.declared.io.ErrorKind.{ErrorKind}
use Rattle.dm_token.specs.declared.stop.Memory.{Memory}
use Rattle.dm_lines.specs.Outside.{Outside, Puts, KeepsFiles}
use Rattle.dm_lines.specs.Statuses as statuses
use Rattle.dm_words.specs.Requests.{Request, Asks}
use Rattle.demacro.specs.Usage.{usage_line}
use Rattle.demacro.specs.Arguments.{PutsUsage, EndsUnread, is_want_of_memory}
use Rattle.demacro.specs.Endings.{Ends, EndsAs, EndsForAs, IsWanting}

-- a call ends for want of memory, whatever its words are
pub ends_wanting : (words : List (List ℕ)) (before after : Outside) → IsWanting before after → Ends words before after statuses.memory_wanted
ends_wanting words before after wanting = inr (refl, wanting)

-- where the arguments can't be read, the process ends as with wrong words
pub ends_unread : (kind : ErrorKind) (before after : Outside) (status : ℕ) → KeepsFiles before after → PutsUsage before.written after.written before.sink_faults after.sink_faults status
    → (is_want_of_memory kind ≡ true → status ≡ statuses.memory_wanted) → EndsUnread kind before after status
ends_unread kind before after status keeps (inl put) wanting =
    (inl (put.0, keeps, put.1), λ want. let eight = wanting want in let one = put.0 in absurd (omega arith))
ends_unread kind before after status keeps (inr none) wanting = (inr (none.0, (keeps, none.1)), λ want. (none.0, (keeps, none.1)))

-- what holds of the error holds of the result
pub at_error : {A E : Type 0} (result : Result A E) (error : E) (P : A → Type 0) (Q : E → Type 0) → result ≡ Err error → Q error → MatchResult result P Q
at_error result error P Q is holds = subst (λ told. MatchResult told P Q) (sym is) holds

-- a call with other words puts the usage line, or ends for want of memory
pub ends_unasked : (words : List (List ℕ)) (before after : Outside) (result : Result ℕ Memory) → Asks words None → KeepsFiles before after → OnOk result (Puts before after usage_line)
    → IfOk result (λ status. status ≡ statuses.wrong_words) → OnErr result (after.written ≡ before.written) → EndsAs words before after result
ends_unasked words before after (Ok status) none keeps puts is unwritten = inl (None, none, (is, keeps, puts))
ends_unasked words before after (Err error) none keeps puts is unwritten = (keeps, unwritten)

-- a call with good words ends as what they ask for does
pub ends_asked : (words : List (List ℕ)) (request : Request) (before after : Outside) (result : Result ℕ Memory) → Asks words (Some request) → EndsForAs request before after result → EndsAs words before after result
ends_asked words request before after (Ok status) asks ends = inl (Some request, asks, ends)
ends_asked words request before after (Err error) asks ends = ends
