-- Objects of frames are named once; where none is closed, a function may change any of them.
use Rattle.std.specs.Prelude.{◌≡◌, refl, ◌⊎◌, ℕ, ◌==◌, Bool, true, false, List, [], ◌∷◌, ◌++◌, Some, if◌then◌else◌}
use Rattle.std.proofs.Common.{true≢false, ap, sym, ◌∙◌, inl, inr}
use Rattle.dm_meaning.specs.Among.{IsAmong}
use Rattle.dm_meaning.specs.Operations.{World, Objects, object_named}
use Rattle.dm_meaning.proofs.AmongLemmas.{among_left, among_right, among_either}
use Rattle.dm_meaning.proofs.GrowLemmas.{equal_of}
use Rattle.dm_meaning.proofs.OptionLemmas.{none_is_some, some_is_some}
use Rattle.dm_rewrite.specs.Effects.{on_others, Stage, ChangesOnly}
use Rattle.dm_rewrite.specs.KeptMemory.{HasSameObjects}
use Rattle.dm_central.specs.Bodies.{Known, nothing_known, closed_numbers, AreNamedOnce}
use Rattle.dm_central.specs.Waiting.{AreOwn}

pub none_closed : (objects : Objects) (n : ℕ) → IsAmong n (closed_numbers nothing_known.closed objects) → ⊥
none_closed [] n h = h
none_closed (entry ∷ entries) n h = none_closed entries n h

-- where no object is closed, all that a function may write is anything
pub loose : (stage : Stage) → ((n : ℕ) → IsAmong n stage.closed → ⊥) → (start now : World) → HasSameObjects start.memory now.memory → ChangesOnly stage (on_others ∷ []) start now
loose stage none start now h = record { same_objects = h; same = λ at n e free there. absurd (free on_others (inl refl) (λ l. none n l)) }

pub named_among : (objects : Objects) (c n : ℕ) → object_named objects c ≡ Some n → IsAmong (c, n) objects
named_among [] c n e = absurd (none_is_some n e)
named_among (entry ∷ entries) c n e = by_case (entry.0 == c) refl e (named_among entries c n)
  where
    by_case : (b : Bool) → (entry.0 == c) ≡ b → (if b then Some entry.1 else object_named entries c) ≡ Some n → (object_named entries c ≡ Some n → IsAmong (c, n) entries) → IsAmong (c, n) (entry ∷ entries)
    by_case true f g later = inl (λ i. (sym (equal_of entry.0 c f) i, sym (some_is_some entry.1 n g) i))
    by_case false f g later = inr (later g)

pub closed_among : (test : ℕ → Bool) (objects : Objects) (d n : ℕ) → test d ≡ true → IsAmong (d, n) objects → IsAmong n (closed_numbers test objects)
closed_among test [] d n picked l = absurd l
closed_among test (entry ∷ entries) d n picked (inl e) = among_left n (if test entry.0 then entry.1 ∷ [] else []) (closed_numbers test entries) (by_test (test entry.0) (sym (ap (λ (x : ℕ × ℕ). test x.0) e) ∙ picked))
  where
    by_test : (b : Bool) → b ≡ true → IsAmong n (if b then entry.1 ∷ [] else [])
    by_test true f = inl (ap (λ (x : ℕ × ℕ). x.1) e)
    by_test false f = absurd (true≢false (sym f))
closed_among test (entry ∷ entries) d n picked (inr l) = among_right n (if test entry.0 then entry.1 ∷ [] else []) (closed_numbers test entries) (closed_among test entries d n picked l)

-- a closed object has an entry of a closed declaration
record HasClosedEntry (test : ℕ → Bool) (objects : Objects) (n : ℕ) : Type 0 where
  pub declared : ℕ
  pub picked : test declared ≡ true
  pub among : IsAmong (declared, n) objects

closed_entry : (test : ℕ → Bool) (objects : Objects) (n : ℕ) → IsAmong n (closed_numbers test objects) → HasClosedEntry test objects n
closed_entry test [] n l = absurd l
closed_entry test (entry ∷ entries) n l = by_part (among_either n (if test entry.0 then entry.1 ∷ [] else []) (closed_numbers test entries) l) (closed_entry test entries n)
  where
    by_test : (b : Bool) → test entry.0 ≡ b → IsAmong n (if b then entry.1 ∷ [] else []) → HasClosedEntry test (entry ∷ entries) n
    by_test true e (inl f) = record { declared = entry.0; picked = e; among = inl (λ i. (entry.0, f i)) }
    by_test true e (inr k) = absurd k
    by_test false e k = absurd k

    by_part : IsAmong n (if test entry.0 then entry.1 ∷ [] else []) ⊎ IsAmong n (closed_numbers test entries) → (IsAmong n (closed_numbers test entries) → HasClosedEntry test entries n)
        → HasClosedEntry test (entry ∷ entries) n
    by_part (inl k) later = by_test (test entry.0) refl k
    by_part (inr k) later = let found = later k in record { declared = found.declared; picked = found.picked; among = inr found.among }

-- objects of one declaration each are named apart
pub named_once : (known : Known) (statics : Objects) (starts : List World) (objects : Objects) → AreOwn statics starts objects → ((entry : ℕ × ℕ) → IsAmong entry statics → known.closed entry.0 ≡ true → ⊥)
    → AreNamedOnce known statics objects
named_once known statics starts objects own none = record {
  apart = λ c d n e f. own.apart (c, n) (d, n) (entry_of c n e) (entry_of d n f) refl;
  closed_ones = λ d n picked e. by_part d n picked (entry_of d n e);
  closed_names = λ d n l e.
      let found = closed_entry known.closed objects n l in
      ap known.closed (own.apart (d, n) (found.declared, n) (entry_of d n e) (inr found.among) refl) ∙ found.picked;
}
  where
    entry_of : (d n : ℕ) → object_named (statics ++ objects) d ≡ Some n → IsAmong (d, n) statics ⊎ IsAmong (d, n) objects
    entry_of d n e = among_either (d, n) statics objects (named_among (statics ++ objects) d n e)

    by_part : (d n : ℕ) → known.closed d ≡ true → IsAmong (d, n) statics ⊎ IsAmong (d, n) objects → IsAmong n (closed_numbers known.closed objects)
    by_part d n picked (inl l) = absurd (none (d, n) l picked)
    by_part d n picked (inr l) = closed_among known.closed objects d n picked l
