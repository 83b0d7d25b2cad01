-- What the call for a unit gives and leaves, beside the reading behind the main file's number.
use Rattle.std.proofs.Common.{◌≡◌, ◌≢◌, ℕ, ◌<◌, ◌≤◌, Bool, true, false, ◌⊎◌, inl, inr, List, [], ◌++◌, length, Option, None, Some, Result, Ok, Err, IfOk, IfErr, is_some, get_or, nat_lt, refl, sym, ap, ◌∙◌, subst, append_assoc, bytes_eq}
use Rattle.std.specs.List.{list_any}
use Rattle.std.proofs.lemmas.Bool.{ltb-true, ltb-false}
use Rattle.dm_token.specs.declared.stop.Stop.{Stop}
use Rattle.dm_token.specs.declared.stop.Stop.TheVariants.{Memory, Refused, Limit, ReadFault}
use Rattle.dm_token.specs.declared.unit.Unit.{Unit as Source}
use Rattle.dm_token.specs.declared.unit.UnitTokens.{UnitTokens}
use Rattle.dm_io.specs.Files.{Files}
use Rattle.dm_search.specs.Loaded.{Loaded, number_of, name_of, held_at, is_held, is_absent, with_name}
use Rattle.dm_search.specs.CallFiles.{file_for}
use Rattle.dm_unit.specs.States.{Setting, Catalogue, State}
use Rattle.dm_unit.specs.Readings.{ReadsMain, ReadsUnit, DoesManifests}
use Rattle.dm_unit.specs.Units.{IsReadAs, IsReadByKnown, AreNumbered, setting_of, first_files, state_with, finished}
use Rattle.dm_unit.specs.Loaders.{Grows, KeepsKnown, HasKnown, IsOf, file_of, held_for, shown}
use Rattle.dm_unit.specs.Views.{Stops, Does, AreRead, Serves, Leaves, HoldsMain, stop_of, named_by}
use Rattle.dm_unit.proofs.NameLemmas.{HasSlots, shown-with_name, held-with_name, absent-with_name}
use Rattle.dm_unit.proofs.GrowLemmas.{some-of, grows-name, known-grows}
use Rattle.dm_unit.proofs.FileLemmas.{call-held, named-same}
use Rattle.dm_unit.proofs.KnownLemmas.{keeps-trans, known-late}
use Rattle.dm_unit.proofs.ReadingLemmas.{unit-reads, unit-stops, stops-map}
use Rattle.dm_unit.proofs.UnitLemmas.{does-map, name-early}

-- THE DEFINES AND THE MAIN FILE

pub unit-does : {A : Type 0} (setting : Setting) (name : List ℕ) (defines : List (List ℕ)) (start middle : State) (result : Result A Stop) (after : State) → DoesManifests setting defines start (Ok middle)
    → Does (ReadsMain setting name middle) result after → Does (ReadsUnit setting name defines start) result after
unit-does setting name defines start middle result after first does =
    does-map (ReadsMain setting name middle) (ReadsUnit setting name defines start) result after (λ outcome reads. unit-reads setting name defines start middle outcome first reads) does

pub defines-stop : (setting : Setting) (name : List ℕ) (defines : List (List ℕ)) (start : State) (stop : Stop) → Stops (DoesManifests setting defines start) stop → Stops (ReadsUnit setting name defines start) stop
defines-stop setting name defines start stop stops =
    stops-map (DoesManifests setting defines start) (ReadsUnit setting name defines start) stop (λ other first. unit-stops setting name defines start other first) stops

-- THE NUMBER OF THE MAIN FILE

-- the names of both steps are held, but for one that is held then
grows-main : (apart : Option ℕ) (l0 l1 l2 : Loaded) (n : ℕ) → Grows (Some n) l0 l1 → Grows apart l1 l2 → (is_held l2 n ≡ true) ⊎ IsOf apart n → Grows apart l0 l2
grows-main apart l0 l1 l2 n first second main = record {
  begins = (first.begins.0 ++ second.begins.0, second.begins.1 ∙ ap (λ ns. ns ++ second.begins.0) first.begins.1 ∙ append_assoc l0.names first.begins.0 second.begins.0);
  held_too = λ file bytes held. second.held_too file bytes (first.held_too file bytes held);
  absent_too = λ name absent. second.absent_too name (first.absent_too name absent);
  new_held = λ file least inside. by file least inside (nat_lt file (length l1.names)) refl;
}
  where
    early : (file : ℕ) → (is_held l1 file ≡ true) ⊎ IsOf (Some n) file → (is_held l2 file ≡ true) ⊎ IsOf apart file
    early file (inl h) = let bytes = some-of (held_at l1 file) h in inl (ap is_some (second.held_too file bytes.0 bytes.1))
    early file (inr e) = subst (λ number. (is_held l2 number ≡ true) ⊎ IsOf apart number) (sym e) main

    by : (file : ℕ) → length l0.names ≤ file → file < length l2.names → (b : Bool) → nat_lt file (length l1.names) ≡ b → (is_held l2 file ≡ true) ⊎ IsOf apart file
    by file least inside true h = early file (first.new_held file least (ltb-true file (length l1.names) h))
    by file least inside false h = second.new_held file (ltb-false file (length l1.names) h) inside

-- what is known stays
named-keeps : (l0 l1 : Loaded) (name : List ℕ) → HasSlots l0 → l1 ≡ with_name l0 name → KeepsKnown l0 l1
named-keeps l0 l1 name slots is other known = (
  known-grows (Some (number_of l0 name)) l0 l1 other slots (subst (Grows (Some (number_of l0 name)) l0) (sym is) (grows-name (Some (number_of l0 name)) l0 name refl)) known,
  ap (λ (l : Loaded). held_for l other) is ∙ call-held l0 name other slots,
)

-- a step behind that
pub unit-leaves : (t0 t1 : Option Files) (r0 r1 : List ℕ → ℕ) (f0 f1 : ℕ) (l0 l1 l2 : Loaded) (name : List ℕ) (stop : Option Stop) → HasSlots l0 → l1 ≡ with_name l0 name → Leaves t0 t1 r0 r1 f0 f1 l1 l2 stop
    → (stop ≢ Some Memory → (is_held l2 (number_of l0 name) ≡ true) ⊎ IsOf (named_by stop) (number_of l0 name)) → Leaves t0 t1 r0 r1 f0 f1 l0 l2 stop
unit-leaves t0 t1 r0 r1 f0 f1 l0 l1 l2 name stop slots is leaves main =
    let first : Grows (Some (number_of l0 name)) l0 l1 = subst (Grows (Some (number_of l0 name)) l0) (sym is) (grows-name (Some (number_of l0 name)) l0 name refl) in
    record {
      files_stay = leaves.files_stay;
      rooms_stay = leaves.rooms_stay;
      later = leaves.later;
      failed = leaves.failed;
      unknown = λ file e. let was = leaves.unknown file e in (
        sym (ap (λ (l : Loaded). is_held l file) is ∙ ap is_some (held-with_name l0 name file)) ∙ was.0,
        sym (ap (λ (l : Loaded). is_absent l (name_of l2 file)) is ∙ still (name_of l2 file)) ∙ was.1,
      );
      grows = λ not. grows-main (named_by stop) l0 l1 l2 (number_of l0 name) first (leaves.grows not) (main not);
      knows = λ not. keeps-trans l0 l1 l2 (named-keeps l0 l1 name slots is) (leaves.knows not);
      served = λ files told other. leaves.served files told other ∙ ap (λ (l : Loaded). file_for l files other) is ∙ named-same files l0 name other slots;
    }
  where
    still : (other : List ℕ) → is_absent (with_name l0 name) other ≡ is_absent l0 other
    still other = ap (λ absent. list_any (bytes_eq other) absent) (absent-with_name l0 name)

-- no answer was given for want of memory
pub leaves-memory : (t0 t1 : Option Files) (r0 r1 : List ℕ → ℕ) (f0 f1 : ℕ) (l0 l2 : Loaded) (stop : Option Stop) → (stop ≡ None) → Leaves t0 t1 r0 r1 f0 f1 l0 l2 stop → Leaves t0 t1 r0 r1 f0 f1 l0 l2 (Some Memory)
leaves-memory t0 t1 r0 r1 f0 f1 l0 l2 stop is leaves = record {
  files_stay = leaves.files_stay;
  rooms_stay = leaves.rooms_stay;
  later = leaves.later;
  failed = λ file e. absurd (cc);
  unknown = λ file e. absurd (cc);
  grows = λ not. absurd (not refl);
  knows = λ not. absurd (not refl);
  served = leaves.served;
}

-- WHAT THE CALL GIVES

-- the setting of the call
pub unit-serves : (told : Option Files) (files : Files) (unit : Source) (l0 l1 l2 : Loaded) (main : ℕ) (stop : Option Stop) → HasSlots l0 → l1 ≡ with_name l0 unit.file → main ≡ number_of l0 unit.file
    → AreRead told l1 l2 stop files → Serves told unit main l1 l2 stop (setting_of l0 l2 files unit)
unit-serves told files unit l0 l1 l2 main stop slots is number are = record {
  files = (files, are, λ name. ap (λ (l : Loaded). file_for l files name) is ∙ named-same files l0 unit.file name slots);
  looked = λ name known. known;
  named = λ number inside. refl;
  include = refl;
  main_is = sym number;
}

-- what became known behind the main file's number is what became known behind the call's beginning
pub unit-known : (files : Files) (l0 l1 l2 : Loaded) (name : List ℕ) → HasSlots l0 → l1 ≡ with_name l0 name → HasKnown files l0 l2 → HasKnown files l1 l2
unit-known files l0 l1 l2 name slots is has = known-late files l0 l1 l2 (named-keeps l0 l1 name slots is) has

-- the numbers of the files at its beginning
pub unit-numbered : (files : Files) (unit : Source) (apart : Option ℕ) (l0 l1 l2 : Loaded) → l1 ≡ with_name l0 unit.file → Grows apart l1 l2 → AreNumbered (setting_of l0 l2 files unit) (first_files l0 unit)
unit-numbered files unit apart l0 l1 l2 is grows =
    subst (λ (first : Catalogue). (number : ℕ) → number < length first.names → name_of l2 number ≡ get_or first.names number []) (shown-with_name l0 unit.file)
    (subst (λ (l : Loaded). (number : ℕ) → number < length l.names → name_of l2 number ≡ get_or l.names number []) is
    (λ number inside. ap (λ (ns : List (List ℕ)). get_or ns number []) grows.begins.1 ∙ name-early l1.names grows.begins.0 number inside))

-- the state at its beginning
pub unit-start : (unit : Source) (l0 l1 : Loaded) (start : State) → l1 ≡ with_name l0 unit.file → start ≡ state_with (shown l1) → start ≡ state_with (first_files l0 unit)
unit-start unit l0 l1 start is begun = begun ∙ ap state_with (ap shown is ∙ shown-with_name l0 unit.file)

-- its answer
pub unit-answer : (setting : Setting) (unit : Source) (l0 new : Loaded) (start final : State) (tokens : UnitTokens) → AreNumbered setting (first_files l0 unit) → start ≡ state_with (first_files l0 unit)
    → ReadsUnit setting unit.file unit.define start (Ok final) → tokens ≡ finished final → final.files ≡ shown new → IsReadAs setting unit l0 (Ok tokens) new
unit-answer setting unit l0 new start final tokens numbered begun reads is files =
    (final, (numbered, subst (λ (s : State). ReadsUnit setting unit.file unit.define s (Ok final)) begun reads), is, files)

-- or its stop
pub unit-stop : (setting : Setting) (unit : Source) (l0 new : Loaded) (start : State) (stop : Stop) → (◌≢◌ {A = Option Stop} (Some stop) (Some Memory) → AreNumbered setting (first_files l0 unit))
    → start ≡ state_with (first_files l0 unit) → Stops (ReadsUnit setting unit.file unit.define start) stop → IsReadAs setting unit l0 (Err stop) new
unit-stop setting unit l0 new start Memory numbered begun stops = tt
unit-stop setting unit l0 new start (Refused refusal) numbered begun stops =
    (numbered (λ e. cc), subst (λ (s : State). ReadsUnit setting unit.file unit.define s (Err (Refused refusal))) begun stops)
unit-stop setting unit l0 new start (Limit passed) numbered begun stops =
    (numbered (λ e. cc), subst (λ (s : State). ReadsUnit setting unit.file unit.define s (Err (Limit passed))) begun stops)
unit-stop setting unit l0 new start (ReadFault file) numbered begun stops =
    (numbered (λ e. cc), subst (λ (s : State). ReadsUnit setting unit.file unit.define s (Err (ReadFault file))) begun stops)

-- the main file is held, or named by the stop
pub held-main : {A : Type 0} (main n : ℕ) (result : Result A Stop) (new : Loaded) → main ≡ n → HoldsMain main result new → stop_of result ≢ Some Memory → (is_held new n ≡ true) ⊎ IsOf (named_by (stop_of result)) n
held-main main n (Ok answer) new is holds not = inl (ap (is_held new) (sym is) ∙ holds)
held-main main n (Err stop) new is holds not = subst (λ number. (is_held new number ≡ true) ⊎ IsOf (file_of stop) number) is (holds (λ e. not (ap Some e)))

-- the answer once the unit is read, unless memory is wanting
pub unit-answers : (setting : Setting) (unit : Source) (l0 new : Loaded) (start final : State) (result : Result UnitTokens Stop) → AreNumbered setting (first_files l0 unit) → start ≡ state_with (first_files l0 unit)
    → ReadsUnit setting unit.file unit.define start (Ok final)
    → IfOk result (λ tokens. tokens ≡ finished final) → IfErr result (λ stop. stop ≡ Memory) → final.files ≡ shown new → IsReadAs setting unit l0 result new
unit-answers setting unit l0 new start final (Ok tokens) numbered begun reads is memory files = unit-answer setting unit l0 new start final tokens numbered begun reads is files
unit-answers setting unit l0 new start final (Err stop) numbered begun reads is memory files = subst (λ s. IsReadAs setting unit l0 (Err s) new) (sym memory) tt

-- so it is over all files that have what became known
pub unit-read : (unit : Source) (l0 new : Loaded) (start final : State) (result : Result UnitTokens Stop) → ((files : Files) → AreNumbered (setting_of l0 new files unit) (first_files l0 unit)) → start ≡ state_with (first_files l0 unit)
    → ((files : Files) → HasKnown files l0 new → ReadsUnit (setting_of l0 new files unit) unit.file unit.define start (Ok final)) → IfOk result (λ tokens. tokens ≡ finished final) → final.files ≡ shown new
    → IfOk result (IsReadByKnown unit l0 new)
unit-read unit l0 new start final (Ok tokens) numbered begun reads is are = λ files has. unit-answer (setting_of l0 new files unit) unit l0 new start final tokens (numbered files) begun (reads files has) is are
unit-read unit l0 new start final (Err stop) numbered begun reads is are = tt

pub finish-leaves : {A : Type 0} (t0 t1 : Option Files) (r0 r1 : List ℕ → ℕ) (f0 f1 : ℕ) (l0 l2 : Loaded) (result : Result A Stop) → IfErr result (λ stop. stop ≡ Memory) → Leaves t0 t1 r0 r1 f0 f1 l0 l2 None
    → Leaves t0 t1 r0 r1 f0 f1 l0 l2 (stop_of result)
finish-leaves t0 t1 r0 r1 f0 f1 l0 l2 (Ok answer) memory leaves = leaves
finish-leaves t0 t1 r0 r1 f0 f1 l0 l2 (Err stop) memory leaves = subst (λ s. Leaves t0 t1 r0 r1 f0 f1 l0 l2 (Some s)) (sym memory) (leaves-memory t0 t1 r0 r1 f0 f1 l0 l2 None refl leaves)
