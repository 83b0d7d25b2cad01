-- How the reading of one part of a file follows that of another.
use Rattle.std.proofs.Common.{◌≡◌, ◌≢◌, ℕ, zero, suc, ◌+◌, ◌-◌, ◌<◌, ◌≤◌, inl, inr, List, [], ◌∷◌, ◌++◌, length, get_or, take, drop, unwrap_or, Option, None, Some, Result, Ok, Err, slice_range, refl, sym, ap, ◌∙◌, subst, arith}
use Rattle.std.specs.Result.{result_unwrap_or}
use Rattle.std.proofs.lemmas.List.{length-drop, length-append}
use Rattle.std.proofs.Math.ListN.{drop_of_length-le}
use Rattle.dm_token.specs.declared.token.PpToken.{PpToken}
use Rattle.dm_token.specs.declared.unit.Unit.{Unit as Source}
use Rattle.dm_token.specs.declared.stop.Stop.{Stop}
use Rattle.dm_token.specs.declared.stop.Stop.TheVariants.{Memory, Refused, Limit, ReadFault}
use Rattle.dm_io.specs.Files.{Files, file_at}
use Rattle.dm_search.specs.Loaded.{Loaded, name_of, held_at, is_absent}
use Rattle.dm_search.specs.CallFiles.{known_or, file_for}
use Rattle.dm_unit.specs.Lines.{Part, parts_of}
use Rattle.dm_unit.specs.States.{Setting, State, Outcome}
use Rattle.dm_unit.specs.Sources.{reading_of, tokens_in}
use Rattle.dm_unit.specs.Readings.{ReadsPart, ReadsParts, ReadsFile, Enters, begun, end_in, within}
use Rattle.dm_unit.specs.Loaders.{Grows, KeepsKnown, shown}
use Rattle.dm_unit.specs.Views.{Stops, Does, AreRead, Serves, StaysServed, IsHeld, IsBytesOf, PartLeads, part_of, held_tokens, stop_of}
use Rattle.dm_unit.proofs.GrowLemmas.{some-of}
use Rattle.dm_unit.proofs.KnownLemmas.{known-early, known-late, known-served}
use Rattle.dm_unit.proofs.ReadingLemmas.{stops-map, file-stops, file-ends, parts-go, parts-stop, parts-end}

-- THE SETTING

-- a number has the same name among names with more behind them
pub name-early : (names more : List (List ℕ)) (number : ℕ) → number < length names → get_or (names ++ more) number [] ≡ get_or names number []
name-early [] more number inside = absurd (omega (arith, inside))
name-early (name ∷ names) more zero inside = refl
name-early (name ∷ names) more (suc number) inside = name-early names more number (omega (arith, inside))

-- so what it is called then it was called before
named-early : {called : List ℕ} (names more all : List (List ℕ)) (number : ℕ) → all ≡ names ++ more → number < length names → (number < length all → called ≡ get_or all number [])
    → called ≡ get_or names number []
named-early names more all number is inside named =
    let longer = ap length is in
    let joined = length-append names more in
    named (omega (arith, longer, joined, inside)) ∙ ap (λ (ns : List (List ℕ)). get_or ns number []) is ∙ name-early names more number inside

-- the names that are known in between are known at the end
pub serves-early : (told : Option Files) (unit : Source) (main : ℕ) (l0 l1 l2 : Loaded) (stop : Option Stop) (setting : Setting) → KeepsKnown l1 l2
    → ((more : List (List ℕ)) × (l2.names ≡ l1.names ++ more)) → Serves told unit main l0 l2 stop setting → Serves told unit main l0 l1 None setting
serves-early told unit main l0 l1 l2 stop setting knows begins serves = record {
  files = (serves.files.0, read serves.files.1, serves.files.2);
  looked = λ name known. serves.looked name (knows name known).0;
  named = λ number inside. named-early l1.names begins.0 l2.names number begins.1 inside (serves.named number);
  include = serves.include;
  main_is = serves.main_is;
}
  where
    read : AreRead told l0 l2 stop serves.files.0 → AreRead told l0 l1 None serves.files.0
    read (inl are) = inl are
    read (inr known) = inr (refl, known-early serves.files.0 l0 l1 l2 knows known.1)

pub serves-late : (t0 t1 : Option Files) (unit : Source) (main next : ℕ) (l0 l1 l2 : Loaded) (stop : Option Stop) (setting : Setting) → t1 ≡ t0 → StaysServed t0 l0 l1 → KeepsKnown l0 l1 → (stop ≢ Some Memory → KeepsKnown l1 l2)
    → next ≡ main → Serves t0 unit main l0 l2 stop setting → Serves t1 unit next l1 l2 stop setting
serves-late t0 t1 unit main next l0 l1 l2 stop setting stay served knows keeps mains serves = record {
  files = (serves.files.0, (read serves.files.1).0, λ name. (read serves.files.1).1 name ∙ serves.files.2 name);
  looked = serves.looked;
  named = serves.named;
  include = serves.include;
  main_is = serves.main_is ∙ sym mains;
}
  where
    not-none : ◌≡◌ {A = Option Stop} None (Some Memory) → ⊥
    not-none e = cc

    read : AreRead t0 l0 l2 stop serves.files.0 → AreRead t1 l1 l2 stop serves.files.0 × ((name : List ℕ) → file_for l1 serves.files.0 name ≡ file_for l0 serves.files.0 name)
    read (inl are) = (inl (stay ∙ are), served serves.files.0 are)
    read (inr known) = (
      inr (known.0, known-late serves.files.0 l0 l1 l2 knows known.1),
      known-served serves.files.0 l0 l1 l2 knows (keeps (λ e. absurd (not-none (sym known.0 ∙ e)))) known.1,
    )

-- what serves a call that stops serves one that doesn't and leaves the same
pub serves-still : (told : Option Files) (unit : Source) (main : ℕ) (old new : Loaded) (stop : Option Stop) (setting : Setting) → Serves told unit main old new stop setting → Serves told unit main old new None setting
serves-still told unit main old new stop setting serves = record {
  files = (serves.files.0, read serves.files.1, serves.files.2);
  looked = serves.looked;
  named = serves.named;
  include = serves.include;
  main_is = serves.main_is;
}
  where
    read : AreRead told old new stop serves.files.0 → AreRead told old new None serves.files.0
    read (inl are) = inl are
    read (inr known) = inr (refl, known.1)

-- the bytes of a file that is held are those of the setting
pub held-file : (setting : Setting) (told : Option Files) (unit : Source) (main : ℕ) (old new : Loaded) (stop : Option Stop) (file : ℕ) → Serves told unit main old new stop setting → IsHeld old file → IsBytesOf setting old file
held-file setting told unit main old new stop file serves is =
    let bytes = some-of (held_at old file) is.held in
    let name = name_of old file in
    let source : setting.source name ≡ Some bytes.0 =
    sym (serves.files.2 name) ∙ ap (λ n. known_or (held_at old n) (is_absent old name) (file_at serves.files.0 name)) is.named
    ∙ ap (λ held. known_or held (is_absent old name) (file_at serves.files.0 name)) bytes.1 in
    bytes.1 ∙ ap Some (sym (ap (λ held. unwrap_or held []) source))

pub tokens-held : (setting : Setting) (l : Loaded) (file : ℕ) → IsBytesOf setting l file → held_tokens l file ≡ tokens_in setting (shown l) file
tokens-held setting l file is = ap (λ held. result_unwrap_or (reading_of file (unwrap_or held [])) []) is

-- its tokens stay
pub tokens-grow : (apart : Option ℕ) (old new : Loaded) (file : ℕ) → Grows apart old new → IsHeld old file → held_tokens new file ≡ held_tokens old file
tokens-grow apart old new file grows is =
    let bytes = some-of (held_at old file) is.held in
    ap (λ held. result_unwrap_or (reading_of file (unwrap_or held [])) []) (grows.held_too file bytes.0 bytes.1 ∙ sym bytes.1)

-- STEPS

-- want of memory needs no cause
pub unless-memory : {A : Type 0} (Meant : Outcome → Type 0) (result : Result A Stop) (after : State) → (stop_of result ≢ Some Memory → Does Meant result after) → Does Meant result after
unless-memory Meant (Ok answer) after does = does (λ e. cc)
unless-memory Meant (Err Memory) after does = tt
unless-memory Meant (Err (Refused refusal)) after does = does (λ e. cc)
unless-memory Meant (Err (Limit passed)) after does = does (λ e. cc)
unless-memory Meant (Err (ReadFault file)) after does = does (λ e. cc)

pub stops-unless : (Meant : Outcome → Type 0) (stop : Stop) → (◌≢◌ {A = Option Stop} (Some stop) (Some Memory) → Stops Meant stop) → Stops Meant stop
stops-unless Meant Memory stops = tt
stops-unless Meant (Refused refusal) stops = stops (λ e. cc)
stops-unless Meant (Limit passed) stops = stops (λ e. cc)
stops-unless Meant (ReadFault file) stops = stops (λ e. cc)

pub does-map : {A : Type 0} (First Second : Outcome → Type 0) (result : Result A Stop) (after : State) → ((outcome : Outcome) → First outcome → Second outcome) → Does First result after → Does Second result after
does-map First Second (Ok answer) after map does = map (Ok after) does
does-map First Second (Err stop) after map does = stops-map First Second stop (λ other. map (Err other)) does

-- A PART

pub part-none : (setting : Setting) (file more : ℕ) (part : Part) (before after : State) (found : Option ℕ) → found ≡ None → PartLeads setting file part before (Ok found) after
    → ReadsPart setting (Enters setting more) file part before (Ok after)
part-none setting file more part before after found is leads = subst (λ o. PartLeads setting file part before (Ok o) after) is leads more

pub part-some : {A : Type 0} (setting : Setting) (file more inner : ℕ) (part : Part) (before middle after : State) (found : Option ℕ) (result : Result A Stop) → found ≡ Some inner
    → PartLeads setting file part before (Ok found) middle → Does (Enters setting more inner middle) result after → Does (ReadsPart setting (Enters setting more) file part before) result after
part-some setting file more inner part before middle after found result is leads does =
    does-map (Enters setting more inner middle) (ReadsPart setting (Enters setting more) file part before) result after
    (λ outcome enters. subst (λ o. PartLeads setting file part before (Ok o) middle) is leads more outcome enters) does

pub part-stop : (setting : Setting) (file more : ℕ) (part : Part) (before : State) (stop : Stop) → PartLeads setting file part before (Err stop) before → Stops (ReadsPart setting (Enters setting more) file part before) stop
part-stop setting file more part before stop stops =
    stops-map (λ (outcome : Outcome). (any : ℕ) → ReadsPart setting (Enters setting any) file part before outcome) (ReadsPart setting (Enters setting more) file part before) stop (λ other meant. meant more) stops

-- THE LOOP OVER THE PARTS

drop-none : {A : Type 0} (k : ℕ) → ◌≡◌ {A = List A} (drop k []) []
drop-none zero = refl
drop-none (suc k) = refl

drop-more : {A : Type 0} (m n : ℕ) (xs : List A) → drop n (drop m xs) ≡ drop (n + m) xs
drop-more zero n xs = ap (λ k. drop k xs) (omega arith)
drop-more (suc m) n [] = drop-none n ∙ sym (drop-none (n + suc m))
drop-more (suc m) n (x ∷ xs) = let more : suc (n + m) ≡ n + suc m = omega arith in drop-more m n xs ∙ ap (λ k. drop k (x ∷ xs)) more

pub part-here : (t0 t1 tokens : List PpToken) (at n : ℕ) → t1 ≡ t0 → tokens ≡ t1 → parts_of (drop at tokens) ≡ part_of (take n (drop at tokens)) ∷ parts_of (drop n (drop at tokens))
    → parts_of (drop at t0) ≡ part_of (slice_range t1 at (at + n)) ∷ parts_of (drop (at + n) t0)
part-here t0 t1 tokens at n same are is =
    let long : (at + n) - at ≡ n = omega arith in
    let sum : n + at ≡ at + n = omega arith in
    ap (λ ts. parts_of (drop at ts)) (sym (are ∙ same)) ∙ is
    ∙ ap (λ ts. part_of (take n (drop at ts)) ∷ parts_of (drop n (drop at tokens))) are
    ∙ ap (λ k. part_of (take k (drop at t1)) ∷ parts_of (drop n (drop at tokens))) (sym long)
    ∙ ap (λ ts. part_of (slice_range t1 at (at + n)) ∷ parts_of (drop n (drop at ts))) (are ∙ same)
    ∙ ap (λ ts. part_of (slice_range t1 at (at + n)) ∷ parts_of ts) (drop-more at n t0 ∙ ap (λ k. drop k t0) sum)

take-all : {A : Type 0} (n : ℕ) (xs : List A) → length xs ≤ n → take n xs ≡ xs
take-all zero [] all = refl
take-all (suc n) [] all = refl
take-all zero (x ∷ xs) all = absurd (omega (arith, all))
take-all (suc n) (x ∷ xs) all = ap (λ ys. x ∷ ys) (take-all n xs (omega (arith, all)))

-- what is left from a place on
pub slice-left : {A : Type 0} (at : ℕ) (xs : List A) → take (length xs - at) (drop at xs) ≡ drop at xs
slice-left at xs = let left = length-drop at xs in take-all (length xs - at) (drop at xs) (omega (arith, left))

pub part-inside : (t0 t1 tokens : List PpToken) (at n : ℕ) → t1 ≡ t0 → tokens ≡ t1 → at < length tokens → n ≤ length (drop at tokens) → at + n ≤ length t0
part-inside t0 t1 tokens at n same are few inside =
    let left = length-drop at tokens in
    let all = ap length (are ∙ same) in
    omega (arith, few, inside, left, all)

pub parts-past : (t0 t1 tokens : List PpToken) (at : ℕ) → t1 ≡ t0 → tokens ≡ t1 → length tokens ≤ at → parts_of (drop at t0) ≡ []
unfolding parts_of Rattle.dm_unit.specs.Lines.parts_in Rattle.dm_unit.specs.Lines.lines_of
parts-past t0 t1 tokens at same are past =
    let all = ap length (are ∙ same) in
    ap parts_of (drop_of_length-le t0 {i = at} (omega (arith, all, past)))

-- a part more is read
pub loop-goes : (setting : Setting) (more file : ℕ) (t0 t1 tokens : List PpToken) (at n : ℕ) (start state middle : State) (outcome : Outcome) → t1 ≡ t0 → tokens ≡ t1
    → parts_of (drop at tokens) ≡ part_of (take n (drop at tokens)) ∷ parts_of (drop n (drop at tokens))
    → ((other : Outcome) → ReadsParts setting (Enters setting more) file (parts_of (drop at t0)) state other → ReadsParts setting (Enters setting more) file (parts_of t0) start other)
    → ReadsPart setting (Enters setting more) file (part_of (slice_range t1 at (at + n))) state (Ok middle)
    → ReadsParts setting (Enters setting more) file (parts_of (drop (at + n) t0)) middle outcome → ReadsParts setting (Enters setting more) file (parts_of t0) start outcome
loop-goes setting more file t0 t1 tokens at n start state middle outcome same are parts before part rest =
    before outcome
    (subst (λ ps. ReadsParts setting (Enters setting more) file ps state outcome) (sym (part-here t0 t1 tokens at n same are parts))
    (parts-go setting more file (part_of (slice_range t1 at (at + n))) (parts_of (drop (at + n) t0)) state middle outcome part rest))

-- or stops
pub loop-stops : (setting : Setting) (more file : ℕ) (t0 t1 tokens : List PpToken) (at n : ℕ) (start state : State) (stop : Stop) → t1 ≡ t0 → tokens ≡ t1
    → parts_of (drop at tokens) ≡ part_of (take n (drop at tokens)) ∷ parts_of (drop n (drop at tokens))
    → ((other : Outcome) → ReadsParts setting (Enters setting more) file (parts_of (drop at t0)) state other → ReadsParts setting (Enters setting more) file (parts_of t0) start other)
    → Stops (ReadsPart setting (Enters setting more) file (part_of (slice_range t1 at (at + n))) state) stop → Stops (ReadsParts setting (Enters setting more) file (parts_of t0) start) stop
loop-stops setting more file t0 t1 tokens at n start state stop same are parts before stops =
    stops-map (ReadsPart setting (Enters setting more) file (part_of (slice_range t1 at (at + n))) state) (ReadsParts setting (Enters setting more) file (parts_of t0) start) stop
    (λ other part. before (Err other)
    (subst (λ ps. ReadsParts setting (Enters setting more) file ps state (Err other)) (sym (part-here t0 t1 tokens at n same are parts))
    (parts-stop setting more file (part_of (slice_range t1 at (at + n))) (parts_of (drop (at + n) t0)) state other part)))
    stops

-- none is left
pub loop-ends : (setting : Setting) (more file : ℕ) (t0 t1 tokens : List PpToken) (at : ℕ) (start state : State) (outcome : Outcome) → t1 ≡ t0 → tokens ≡ t1 → length tokens ≤ at
    → ((other : Outcome) → ReadsParts setting (Enters setting more) file (parts_of (drop at t0)) state other → ReadsParts setting (Enters setting more) file (parts_of t0) start other)
    → outcome ≡ end_in state.sections state → ReadsParts setting (Enters setting more) file (parts_of t0) start outcome
loop-ends setting more file t0 t1 tokens at start state outcome same are past before is =
    before outcome
    (subst (λ ps. ReadsParts setting (Enters setting more) file ps state outcome) (sym (parts-past t0 t1 tokens at same are past))
    (subst (ReadsParts setting (Enters setting more) file [] state) (sym is) (parts-end setting more file state)))

pub loop-ends-stops : (setting : Setting) (more file : ℕ) (t0 t1 tokens : List PpToken) (at : ℕ) (start state : State) (stop : Stop) → t1 ≡ t0 → tokens ≡ t1 → length tokens ≤ at
    → ((other : Outcome) → ReadsParts setting (Enters setting more) file (parts_of (drop at t0)) state other → ReadsParts setting (Enters setting more) file (parts_of t0) start other)
    → Stops (λ (outcome : Outcome). outcome ≡ end_in state.sections state) stop → Stops (ReadsParts setting (Enters setting more) file (parts_of t0) start) stop
loop-ends-stops setting more file t0 t1 tokens at start state stop same are past before stops =
    stops-map (λ (outcome : Outcome). outcome ≡ end_in state.sections state) (ReadsParts setting (Enters setting more) file (parts_of t0) start) stop
    (λ other is. loop-ends setting more file t0 t1 tokens at start state (Err other) same are past before is) stops

-- THE WHOLE FILE

pub whole-ends : (setting : Setting) (more : ℕ) (l : Loaded) (file : ℕ) (state read after : State) → state.files ≡ shown l → IsBytesOf setting l file
    → ReadsParts setting (Enters setting more) file (parts_of (held_tokens l file)) (begun file state) (Ok read) → after ≡ within state.sections read → ReadsFile setting (Enters setting more) file state (Ok after)
whole-ends setting more l file state read after files bytes reads is =
    subst (λ (s : State). ReadsFile setting (Enters setting more) file state (Ok s)) (sym is)
    (file-ends setting more file state read
    (subst (λ fs. ReadsParts setting (Enters setting more) file (parts_of (tokens_in setting fs file)) (begun file state) (Ok read)) (sym files)
    (subst (λ ts. ReadsParts setting (Enters setting more) file (parts_of ts) (begun file state) (Ok read)) (tokens-held setting l file bytes) reads)))

pub whole-stops : (setting : Setting) (more : ℕ) (l : Loaded) (file : ℕ) (state : State) (stop : Stop) → state.files ≡ shown l → IsBytesOf setting l file
    → Stops (ReadsParts setting (Enters setting more) file (parts_of (held_tokens l file)) (begun file state)) stop → Stops (ReadsFile setting (Enters setting more) file state) stop
whole-stops setting more l file state stop files bytes stops =
    file-stops setting more file state stop
    (subst (λ fs. Stops (ReadsParts setting (Enters setting more) file (parts_of (tokens_in setting fs file)) (begun file state)) stop) (sym files)
    (subst (λ ts. Stops (ReadsParts setting (Enters setting more) file (parts_of ts) (begun file state)) stop) (tokens-held setting l file bytes) stops))
