-- Readings that stay: what the laws say.
use Rattle.std.proofs.Common.{◌≡◌, ℕ, ◌<◌, ◌≤◌, Bool, true, false, ◌||◌, ◌⊎◌, inl, inr, List, [], ◌++◌, length, Option, None, Some, Ok, is_some, refl, sym, ap, ◌∙◌, subst, arith, true≢false}
use Rattle.std.specs.List.{AllByRecursion}
use Rattle.std.proofs.Math.ListN.{get_or-map}
use Rattle.std.proofs.lemmas.Bool.{cases_lt, cases_eq, or_cases}
use Rattle.std.proofs.lemmas.List.{append-nil, length-map, get_or_past}
use Rattle.dm_token.specs.declared.token.Token.{Token}
use Rattle.dm_token.specs.declared.unit.Unit.{Unit as Source}
use Rattle.dm_token.specs.declared.unit.UnitTokens.{UnitTokens}
use Rattle.dm_io.specs.Files.{Files, file_at}
use Rattle.dm_search.specs.CallFiles.{known_or, file_for}
use Rattle.dm_search.specs.Fresh.{StartsWithHeaders}
use Rattle.dm_search.specs.Loaded.{Loaded, name_of, number_of, held_at, is_held, is_absent, with_bytes}
use Rattle.dm_unit.specs.Loaders.{Grows, is_known, shown}
use Rattle.dm_unit.specs.Outcomes.{IsLike}
use Rattle.dm_unit.specs.States.{Setting, Catalogue, State}
use Rattle.dm_unit.specs.Includes.{number_in, is_found}
use Rattle.dm_unit.specs.Readings.{is_among, ReadsUnit}
use Rattle.dm_unit.specs.Units.{setting_of, first_files, state_with, AreNumbered, HasOutcome, IsReadAs}
use Rattle.dm_unit.specs.Views.{StaysServed}
use Rattle.dm_unit.proofs.FileLemmas.{header-held}
use Rattle.dm_unit.proofs.GrowLemmas.{known-grows, held-now, held-other}
use Rattle.dm_unit.proofs.OutcomeLemmas.{one-outcome}
use Rattle.dm_local.specs.Kept.{Keeps}
use Rattle.dm_local.specs.Marks.{AreListed}
use Rattle.dm_local.specs.Order.{AreAscending}
use Rattle.dm_local.proofs.CatalogueLemmas.{called, IsThere, Grown, grown-trans, grown-numbered, longer, there-kept, own-numbered, number-kept, number-numbered, numbered-known, slots-numbered}
use Rattle.dm_local.proofs.OrderLemmas.{between-ascend}
use Rattle.dm_local.proofs.StayLemmas.{Fits, unit-stays}

-- a file that is held is one that was found
found-held : (l : Loaded) (file : ℕ) → is_found (shown l) file ≡ is_held l file
found-held l file = get_or-map is_some l.held file None

some-there : {A : Type 0} (o : Option A) → is_some o ≡ true → (x : A) × (o ≡ Some x)
some-there None h = absurd (true≢false (sym h))
some-there (Some x) h = (x, refl)

module _ (files : Files) (unit : Source) (old new : Loaded) (starts : StartsWithHeaders old) (slots : length old.held ≡ length old.names) where
  abbrev begins : Catalogue
  begins = first_files old unit

  abbrev setting : Setting
  setting = setting_of old new files unit

  pub first-fits : Fits setting.main begins [] [] [] [] 0 0
  first-fits = record {
    main_named = (own-numbered (shown old) unit.file).0;
    slots = slots-numbered (shown old) unit.file (length-map old.held is_some ∙ slots);
    headers = λ name file is.
        let held = header-held old name file starts is in
        there-kept (shown old) begins [] [] file (grown-numbered (shown old) unit.file []) ((held.inside, held.named), found-held old file ∙ held.held);
    bodies = tt;
    owned = λ file among. absurd (true≢false (sym among));
    ascending = omega arith;
    listed = tt;
    under = tt;
    little = omega arith;
  }

  -- a reading's files have the numbers of their names, and are held
  final-fits : (final : State) → ReadsUnit setting unit.file unit.define (state_with begins) (Ok final) → Fits setting.main final.files final.table.read final.files_read final.tokens final.expansions final.instance final.spent
  final-fits final reads =
      (unit-stays setting setting.source setting.looked (called final.files) final.files final.files_read (λ name h. h) (λ name h. refl) (λ number h. refl) (λ file h. refl) unit.file unit.define (state_with begins) final first-fits reads).0

  pub files-held : (pp : UnitTokens) → IsReadAs setting unit old (Ok pp) new → (file : ℕ) → is_among file pp.files ≡ true → (file < length new.names) × (number_of new (name_of new file) ≡ file) × (is_held new file ≡ true)
  files-held pp is file among =
      let fits = final-fits is.0 is.1.1 in
      let there = subst (λ (c : Catalogue). IsThere c file) is.3 (fits.owned file (sym (ap (λ (tokens : UnitTokens). is_among file tokens.files) is.2) ∙ among)) in
      (there.0.0, there.0.1, sym (found-held new file) ∙ there.1)

  -- a reading's expansions ascend
  pub expansions-ascend : (pp : UnitTokens) → IsReadAs setting unit old (Ok pp) new → AreAscending 0 pp.expansions
  expansions-ascend pp is =
      subst (AreAscending 0) (sym (ap (λ (tokens : UnitTokens). tokens.expansions) is.2)) (between-ascend 0 is.0.expansions is.0.instance (final-fits is.0 is.1.1).ascending)

  -- the expansions that its tokens came through are listed
  pub marks-listed : (pp : UnitTokens) → IsReadAs setting unit old (Ok pp) new → AreListed pp.expansions pp.tokens
  marks-listed pp is = subst (λ (tokens : UnitTokens). AreListed tokens.expansions tokens.tokens) (sym is.2) (final-fits is.0 is.1.1).listed

  -- what was read of a file is held
  pub read-held : (pp : UnitTokens) → IsReadAs setting unit old (Ok pp) new → StaysServed (Some files) old new → (file : ℕ) → is_among file pp.files ≡ true → held_at new file ≡ file_for old files (name_of new file)
  read-held pp is served file among =
      let there = files-held pp is file among in
      let name = name_of new file in
      let held = some-there (held_at new file) there.2 in
      let bytes : held_at new (number_of new name) ≡ Some held.0 = ap (held_at new) there.1 ∙ held.1 in
      held.1 ∙ sym (ap (λ o. known_or o (is_absent new name) (file_at files name)) bytes) ∙ served files refl name

  -- its tokens stand in files that have numbers
  pub tokens-under : (pp : UnitTokens) → IsReadAs setting unit old (Ok pp) new → AllByRecursion (λ (token : Token). token.pp.place.file < length new.names) pp.tokens
  tokens-under pp is =
      subst (λ (tokens : UnitTokens). AllByRecursion (λ (token : Token). token.pp.place.file < length new.names) tokens.tokens) (sym is.2)
      (subst (λ (c : Catalogue). AllByRecursion (λ (token : Token). token.pp.place.file < length c.names) is.0.tokens) is.3 (final-fits is.0 is.1.1).under)

-- A LOADER THAT KEEPS WHAT WAS KNOWN

module _ (before after : Files) (unit : Source) (old new known : Loaded) (starts : StartsWithHeaders old) (slots : length old.held ≡ length old.names) (pp : UnitTokens)
    (is : IsReadAs (setting_of old new before unit) unit old (Ok pp) new) (keeps : Keeps pp.files before after old new known) where
  abbrev one : Setting
  one = setting_of old new before unit

  abbrev begins_with : Catalogue
  begins_with = first_files old unit

  abbrev final : State
  final = is.0

  found-later : (file : ℕ) → is_found final.files file ≡ true → is_found (shown known) file ≡ true
  found-later file h = found-held known file ∙ keeps.held file (sym (found-held new file) ∙ ap (λ (c : Catalogue). is_found c file) (sym is.3) ∙ h)

  ends : Grown final.files final.files_read (shown known) final.files_read
  ends = record { names = (keeps.numbers.0, keeps.numbers.1 ∙ ap (λ (c : Catalogue). c.names ++ keeps.numbers.0) (sym is.3)); found = found-later; reads = λ file h. h }

  bytes-stay : (file : ℕ) → is_among file final.files_read ≡ true → file_for known after (called (shown known) file) ≡ file_for old before (called (shown known) file)
  bytes-stay file h = keeps.bytes file (ap (λ (tokens : UnitTokens). is_among file tokens.files) is.2 ∙ h)

  stays : Fits one.main final.files final.table.read final.files_read final.tokens final.expansions final.instance final.spent × Grown begins_with [] final.files final.files_read
      × (Grown final.files final.files_read (shown known) final.files_read → ReadsUnit (record one { source = file_for known after; looked = is_known known; named = name_of known }) unit.file unit.define (state_with (shown known)) (Ok (record final { files = shown known })))
  stays =
      unit-stays one (file_for known after) (is_known known) (name_of known) (shown known) final.files_read keeps.knows keeps.there (λ number h. refl) bytes-stay unit.file unit.define (state_with begins_with) final
      (first-fits before unit old new starts slots) is.1.1

  -- the main file has its number
  main-inside : number_in begins_with unit.file < length begins_with.names
  main-inside = subst (λ n. n < length begins_with.names) (sym (number-numbered (shown old) unit.file)) (own-numbered (shown old) unit.file).0

  main-later : number_in (shown known) unit.file ≡ number_of old unit.file
  main-later = number-kept begins_with (shown known) [] final.files_read unit.file (grown-trans begins_with final.files (shown known) [] final.files_read final.files_read stays.1 ends) main-inside ∙ number-numbered (shown old) unit.file

  later-inside : number_in (shown known) unit.file < length known.names
  later-inside = subst (λ n. n < length known.names) (sym (main-later ∙ sym (number-numbered (shown old) unit.file))) (omega (arith, main-inside, longer begins_with (shown known) [] final.files_read (grown-trans begins_with final.files (shown known) [] final.files_read final.files_read stays.1 ends)))

  nothing-new : first_files known unit ≡ shown known
  nothing-new = numbered-known (shown known) unit.file later-inside

  outcome : HasOutcome (setting_of known known after unit) known unit (Ok (record final { files = shown known }))
  outcome =
      subst (λ (c : Catalogue). AreNumbered (setting_of known known after unit) c × ReadsUnit (setting_of known known after unit) unit.file unit.define (state_with c) (Ok (record final { files = shown known }))) (sym nothing-new) (
        λ number h. refl,
        subst (λ main. ReadsUnit (record { source = file_for known after; looked = is_known known; named = name_of known; include = unit.include; main = main }) unit.file unit.define (state_with (shown known)) (Ok (record final { files = shown known })))
            (sym main-later) (stays.2 ends),
      )

  pub read-again : IsReadAs (setting_of known known after unit) unit known (Ok pp) known
  read-again = (record final { files = shown known }, outcome, is.2, refl)

-- WHAT KEEPS IT

-- behind a reading there is still a slot for each name
pub slots-behind : (files : Files) (unit : Source) (old new : Loaded) (pp : UnitTokens) → StartsWithHeaders old → length old.held ≡ length old.names → IsReadAs (setting_of old new files unit) unit old (Ok pp) new
    → length new.held ≡ length new.names
slots-behind files unit old new pp starts slots is =
    sym (length-map new.held is_some) ∙ subst (λ (c : Catalogue). length c.found ≡ length c.names) is.3 (final-fits files unit old new starts slots is.0 is.1.1).slots

pub grown-keeps : (files : Files) (old new known : Loaded) (apart : Option ℕ) (read : List ℕ) → length new.held ≡ length new.names → Grows apart new known
    → ((name : List ℕ) → file_for known files name ≡ file_for old files name) → Keeps read files files old new known
grown-keeps files old new known apart read slots grows served = record {
  numbers = grows.begins;
  held = λ file h. let held = some-there (held_at new file) h in ap is_some (grows.held_too file held.0 held.1);
  knows = λ name h. known-grows apart new known name slots grows h;
  there = λ name h. ap is_some (served name);
  bytes = λ file h. served (name_of known file);
}

-- what a loader holds under another number than the one whose bytes change
module _ (files : Files) (known : Loaded) (file : ℕ) (bytes : List ℕ) (held : is_held known file ≡ true) (slots : length known.held ≡ length known.names) where
  abbrev edited : Loaded
  edited = with_bytes known file bytes

  inside : file < length known.held
  inside = by (cases_lt file (length known.held))
    where
      by : (file < length known.held) ⊎ (length known.held ≤ file) → file < length known.held
      by (inl h) = h
      by (inr past) = absurd (true≢false (sym held ∙ ap is_some (get_or_past known.held file None past)))

  held-edited : (other : ℕ) → is_held known other ≡ true → is_held edited other ≡ true
  held-edited other h = by (cases_eq other file)
    where
      by : (other ≡ file) ⊎ (other ≡ file → ⊥) → is_held edited other ≡ true
      by (inl same) = ap (is_held edited) same ∙ ap is_some (held-now known file bytes inside)
      by (inr apart) = ap is_some (held-other known file other bytes apart) ∙ h

  known-edited : (name : List ℕ) → is_known known name ≡ true → is_known edited name ≡ true
  known-edited name h = by (or_cases (is_held known (number_of known name)) (is_absent known name) h)
    where
      or-right : (a b : Bool) → b ≡ true → (a || b) ≡ true
      or-right true b h = refl
      or-right false b h = h

      by : (is_held known (number_of known name) ≡ true) ⊎ (is_absent known name ≡ true) → is_known edited name ≡ true
      by (inl h) = ap (λ b. b || is_absent known name) (held-edited (number_of known name) h)
      by (inr h) = or-right (is_held edited (number_of known name)) (is_absent known name) h

  file-apart : (name : List ℕ) → (number_of known name ≡ file → ⊥) → file_for edited files name ≡ file_for known files name
  file-apart name apart = ap (λ o. known_or o (is_absent known name) (file_at files name)) (held-other known file (number_of known name) bytes apart)

  there-edited : (name : List ℕ) → is_some (file_for edited files name) ≡ is_some (file_for known files name)
  there-edited name = by (cases_eq (number_of known name) file)
    where
      some : (o : Option (List ℕ)) → is_some o ≡ true → is_some (known_or o (is_absent known name) (file_at files name)) ≡ true
      some None h = absurd (true≢false (sym h))
      some (Some text) h = refl

      by : (number_of known name ≡ file) ⊎ (number_of known name ≡ file → ⊥) → is_some (file_for edited files name) ≡ is_some (file_for known files name)
      by (inl same) =
          some (held_at edited (number_of known name)) (ap (is_held edited) same ∙ ap is_some (held-now known file bytes inside)) ∙ sym (some (held_at known (number_of known name)) (ap (is_held known) same ∙ held))
      by (inr apart) = ap is_some (file-apart name apart)

  pub edited-keeps : (read : List ℕ) → is_among file read ≡ false → ((other : ℕ) → is_among other read ≡ true → number_of known (name_of known other) ≡ other) → Keeps read files files known known edited
  edited-keeps read not_read own = record {
    numbers = ([], sym (append-nil known.names));
    held = held-edited;
    knows = known-edited;
    there = λ name h. there-edited name;
    bytes = λ other h. file-apart (name_of known other) (λ same. true≢false (sym h ∙ ap (λ n. is_among n read) (sym (own other h) ∙ same) ∙ not_read));
  }

-- to a loader that knows a name the folder's file of that name doesn't matter
known-alone : (o : Option (List ℕ)) (absent : Bool) (mine other : Option (List ℕ)) → (is_some o || absent) ≡ true → known_or o absent mine ≡ known_or o absent other
known-alone (Some text) absent mine other h = refl
known-alone None true mine other h = refl
known-alone None false mine other h = absurd (true≢false (sym h))

pub alone-keeps : (files others : Files) (known : Loaded) (read : List ℕ) → ((file : ℕ) → is_among file read ≡ true → (number_of known (name_of known file) ≡ file) × (is_held known file ≡ true)) → Keeps read files others known known known
alone-keeps files others known read held = record {
  numbers = ([], sym (append-nil known.names));
  held = λ file h. h;
  knows = λ name h. h;
  there = λ name h. ap is_some (known-alone (held_at known (number_of known name)) (is_absent known name) (file_at others name) (file_at files name) h);
  bytes = λ file h.
      let here : is_held known (number_of known (name_of known file)) ≡ true = ap (is_held known) (held file h).0 ∙ (held file h).1 in
      known-alone (held_at known (number_of known (name_of known file))) (is_absent known (name_of known file)) (file_at others (name_of known file)) (file_at files (name_of known file)) (ap (λ b. b || is_absent known (name_of known file)) here);
}

-- NOTHING IS LEARNED

pub same-shown : (files : Files) (unit : Source) (known new : Loaded) (mine other : UnitTokens) → IsReadAs (setting_of known known files unit) unit known (Ok mine) known → IsReadAs (setting_of known new files unit) unit known (Ok other) new
    → shown new ≡ shown known
same-shown files unit known new mine other here there =
    let like : IsLike here.0 there.0 = one-outcome (setting_of known known files unit) (is_known new) (name_of new) unit.file unit.define (state_with (first_files known unit)) (Ok here.0) (Ok there.0) here.1.1 there.1.1 tt tt in
    sym there.3 ∙ ap (λ (s : State). s.files) like.2 ∙ here.3
