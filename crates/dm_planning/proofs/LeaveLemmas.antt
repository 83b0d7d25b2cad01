-- What the steps of planning leave of the folder and the loader, one after another.
use Rattle.std.proofs.Common.{◌≡◌, ◌≢◌, ◌⊎◌, inl, inr, ℕ, ◌<◌, ◌≤◌, Bool, true, false, List, [], ◌++◌, length, Option, None, Some, Result, Ok, Err, is_some, eqb, refl, sym, ap, ◌∙◌, subst, arith, append_assoc, true≢false, IsErrAnd}
use Rattle.std.proofs.lemmas.List.{append-nil, get_or_past, get_or-set_same, get_or-set_other}
use Rattle.std.proofs.lemmas.Bool.{false≢true, cases_lt}
use Rattle.std.proofs.lemmas.Bool.Decides.{eqb_tells}
use Rattle.dm_token.specs.declared.stop.Stop.{Stop}
use Rattle.dm_token.specs.declared.stop.Stop.TheVariants.{Memory}
use Rattle.dm_io.specs.Files.{Files}
use Rattle.dm_search.specs.Loaded.{Loaded, held_at, is_held, with_bytes}
use Rattle.dm_unit.specs.Loaders.{most_names}
use Rattle.dm_unit.specs.Views.{stop_of}
use Rattle.dm_readings.specs.Leaves.{AreThere, StaysKnown}
use Rattle.dm_planning.specs.Steps.{LeavesProject}

-- ---- what is held

-- what is there
some-of : {A : Type 0} (o : Option A) → is_some o ≡ true → (x : A) × (o ≡ Some x)
some-of None h = absurd (true≢false (sym h))
some-of (Some x) h = (x, refl)

-- what is held has a number
pub inside : (loaded : Loaded) (file : ℕ) → is_held loaded file ≡ true → file < length loaded.held
inside loaded file is = by (cases_lt file (length loaded.held))
  where
    by : (file < length loaded.held) ⊎ (length loaded.held ≤ file) → file < length loaded.held
    by (inl less) = less
    by (inr past) = absurd (false≢true (sym (ap is_some (get_or_past loaded.held file None past)) ∙ is))

-- what is known stays held
pub known-held : (old new : Loaded) → StaysKnown old new → (file : ℕ) → is_held old file ≡ true → is_held new file ≡ true
known-held old new knows file held = let bytes = some-of (held_at old file) held in ap is_some (knows.held_too file bytes.0 bytes.1)

-- with other bytes for a file all is held that was
pub replaced-held : (old : Loaded) (file : ℕ) (bytes : List ℕ) → is_held old file ≡ true → (other : ℕ) → is_held old other ≡ true → is_held (with_bytes old file bytes) other ≡ true
replaced-held old file bytes held other is = by (eqb_tells other file)
  where
    by : ((eqb other file ≡ true) × (other ≡ file)) ⊎ ((eqb other file ≡ false) × (other ≢ file)) → is_held (with_bytes old file bytes) other ≡ true
    by (inl same) = ap is_some (ap (held_at (with_bytes old file bytes)) same.1 ∙ get_or-set_same old.held file (Some bytes) None (inside old file held))
    by (inr apart) = ap is_some (get_or-set_other old.held file other (Some bytes) None apart.1) ∙ is

-- what isn't held later wasn't before
not-held : (old new : Loaded) → ((file : ℕ) → is_held old file ≡ true → is_held new file ≡ true) → (file : ℕ) → is_held new file ≡ false → is_held old file ≡ false
not-held old new held file none = by (is_held old file) refl
  where
    by : (t : Bool) → is_held old file ≡ t → t ≡ false
    by false h = refl
    by true h = absurd (true≢false (sym (held file h) ∙ none))

-- ---- stops

pub none-memory : ◌≢◌ {A = Option Stop} None (Some Memory)
none-memory e = cc

-- ---- steps

-- a file that is held has other bytes
pub leaves-replaced : (told : Option Files) (room : List ℕ → ℕ) (faults : ℕ) (l : Loaded) (file : ℕ) (bytes : List ℕ) → length l.names < most_names → is_held l file ≡ true
    → LeavesProject told told room room faults faults l (with_bytes l file bytes) None
leaves-replaced told room faults l file bytes roomy held = record {
  files_stay = refl;
  rooms_stay = λ other. refl;
  later = omega arith;
  failed = λ faulty e. absurd (cc);
  unheld = λ faulty e. absurd (cc);
  begins = λ not. ([], sym (append-nil l.names));
  held_too = λ not. replaced-held l file bytes held;
  roomy = λ not. roomy;
  there = λ not are other numbered is. are other numbered (before other is (eqb_tells other file));
}
  where
    before : (other : ℕ) → is_held (with_bytes l file bytes) other ≡ true → ((eqb other file ≡ true) × (other ≡ file)) ⊎ ((eqb other file ≡ false) × (other ≢ file)) → is_held l other ≡ true
    before other is (inl same) = ap (is_held l) same.1 ∙ held
    before other is (inr apart) = sym (ap is_some (get_or-set_other l.held file other (Some bytes) None apart.1)) ∙ is

-- one step and then another
pub leaves-trans : (t0 t1 t2 : Option Files) (r0 r1 r2 : List ℕ → ℕ) (f0 f1 f2 : ℕ) (l0 l1 l2 : Loaded) (stop : Option Stop) → LeavesProject t0 t1 r0 r1 f0 f1 l0 l1 None
    → LeavesProject t1 t2 r1 r2 f1 f2 l1 l2 stop → LeavesProject t0 t2 r0 r2 f0 f2 l0 l2 stop
leaves-trans t0 t1 t2 r0 r1 r2 f0 f1 f2 l0 l1 l2 stop first second =
    let early = first.later in
    record {
      files_stay = second.files_stay ∙ first.files_stay;
      rooms_stay = λ other. second.rooms_stay other ∙ first.rooms_stay other;
      later = let late = second.later in omega (arith, early, late);
      failed = λ file e. let rose = second.failed file e in omega (arith, early, rose);
      unheld = λ file e. not-held l0 l1 (first.held_too none-memory) file (second.unheld file e);
      begins = λ not. let one = first.begins none-memory in let two = second.begins not in (
        one.0 ++ two.0,
        two.1 ∙ ap (λ ns. ns ++ two.0) one.1 ∙ append_assoc l0.names one.0 two.0,
      );
      held_too = λ not file held. second.held_too not file (first.held_too none-memory file held);
      roomy = second.roomy;
      there = λ not are.
          subst (λ told. AreThere told l2) first.files_stay (second.there not (subst (λ told. AreThere told l1) (sym first.files_stay) (first.there none-memory are)));
    }

-- a stop that is handed on
pub handed-on : {A : Type 0} (result : Result A Stop) (fault : Stop) → IsErrAnd result (λ e. e ≡ fault) → Some fault ≡ stop_of result
handed-on (Ok given) fault handed = absurd handed
handed-on (Err e) fault handed = ap (λ (s : Stop). Some s) (sym handed)
