-- Steps that are handed on, and what the code's steps mean.
use Rattle.std.proofs.Common.{Vec, Global, map, ◌≡◌, ℕ, suc, ◌+◌, ◌-◌, ◌<◌, ◌≤◌, Bool, true, false, ◌&&◌, unwrap_or, ◌⊎◌, inl, inr, List, [], ◌∷◌, ◌++◌, length, drop, take, get_or, set, reverse, None, Some, Result, Ok, Err, MatchBool, IfSome, refl, sym, ap, ◌∙◌, subst, arith}
use Rattle.std.specs.List.{list_any, position, position_or_len}
use Rattle.std.specs.Result.{result_unwrap_or}
use Rattle.std.proofs.lemmas.List.{reverse-append}
use Rattle.dm_token.specs.Refusals as refusals
use Rattle.dm_token.specs.declared.place.Place.{Place}
use Rattle.dm_token.specs.declared.token.PpToken.{PpToken}
use Rattle.dm_token.specs.declared.token.Token.{Token}
use Rattle.dm_token.specs.declared.expansion.Expansion.{Expansion}
use Rattle.dm_token.specs.declared.stop.Stop.{Stop}
use Rattle.dm_token.specs.declared.stop.Stop.TheVariants.{Memory, Refused, Limit, ReadFault}
use Rattle.dm_macro.specs.Signs.{is_hash, is_identifier}
use Rattle.dm_expand.specs.Expansion.{expansion_of}
use Rattle.dm_expand.specs.AnswerViews.{looked_up, answer}
use Rattle.dm_cond.specs.Answers.{Refuses}
use Rattle.dm_cond.specs.Readings.{HasTruth}
use Rattle.dm_search.specs.Loaded.{Loaded, held_at, is_held}
use Rattle.dm_search.specs.Readable.{AreTokensOf}
use Rattle.dm_unit.specs.declared.directive.Directive.{Directive}
use Rattle.dm_unit.specs.declared.directive.Directive.TheVariants.{If, Ifdef, Ifndef, Elif, Else, Endif, Include, Define, Undef, Line, Error, Pragma, Null, Unknown}
use Rattle.dm_unit.specs.declared.section.Section.{Section}
use Rattle.dm_unit.specs.declared.reader.Reader.{Reader}
use Rattle.dm_token.specs.declared.unit.Use.{Use}
use Rattle.dm_unit.specs.declared.section.Stage.{Stage}
use Rattle.dm_unit.specs.declared.section.Stage.TheVariants.{Read, Waiting, Over}
use Rattle.dm_unit.specs.Lines.{is_first, begins_directive, parts_of}
use Rattle.dm_unit.specs.Sections.{is_read, stage_by}
use Rattle.dm_unit.specs.States.{Setting, Catalogue, State, Outcome, Then, for_unit, refusal}
use Rattle.dm_unit.specs.Sources.{bytes_in, reading_of}
use Rattle.dm_unit.specs.Definitions.{DefinesLine, DoesDefine, begins_with_name, origin_of, is_plain_head, are_plain, is_plain_token}
use Rattle.dm_unit.specs.Conditions.{AreInOrder, use_by, with_uses, Tested, tested, Evaluates, Judged, JudgesExpanded, names_asked, replaced, is_defined_word, no_condition}
use Rattle.dm_unit.specs.Readings.{DoesRead, DoesDirective, Opens, DoesElif, DoesElifAt, Enters, pushed, opens, within, lost}
use Rattle.dm_unit.specs.Loaders.{shown}
use Rattle.dm_unit.specs.Views.{IsFaultless, IsBeforeElse, state_of, Stops, Does, LeadsTo, TestsBy, part_of, held_tokens, IsBytesOf}
use Rattle.dm_search.proofs.SearchLemmas.{position-le}
use Rattle.dm_unit.proofs.ListLemmas.{position-none}
use Rattle.dm_unit.proofs.LineLemmas.{first_directive, first_group}
use Rattle.dm_unit.proofs.SourceLemmas.{reading-tokens}
use Rattle.dm_unit.proofs.GrowLemmas.{some-of}

-- A step that is one is any that it is meant to be.
pub leads-does : {A : Type 0} (Meant : Outcome → Type 0) (meant : Outcome) (result : Result A Stop) (after : State) → Meant meant → LeadsTo meant result after → Does Meant result after
leads-does Meant meant (Ok answer) after is leads = subst Meant (sym leads) is
leads-does Meant meant (Err Memory) after is leads = tt
leads-does Meant meant (Err (Refused refusal)) after is leads = subst Meant (sym leads) is
leads-does Meant meant (Err (Limit passed)) after is leads = subst Meant (sym leads) is
leads-does Meant meant (Err (ReadFault file)) after is leads = subst Meant (sym leads) is

-- THE FRONT OF A FILE

take-whole : {A : Type 0} (xs : List A) → take (length xs) xs ≡ xs
take-whole [] = refl
take-whole (x ∷ xs) = ap (λ ys. x ∷ ys) (take-whole xs)

-- where nothing passes behind the first, the whole is as long
pub none-length : {A : Type 0} (p : A → Bool) (xs : List A) → 0 < length xs → None ≡ position p (take (length xs - 1) (drop 1 xs)) → length xs ≡ suc (position_or_len p (drop 1 xs))
none-length p [] some none = absurd (omega (arith, some))
none-length p (x ∷ xs) some none =
    let less : length (x ∷ xs) - 1 ≡ length xs = omega arith in
    let all : take (length (x ∷ xs) - 1) xs ≡ xs = ap (λ n. take n xs) less ∙ take-whole xs in
    ap suc (sym (position-none p xs (none ∙ ap (position p) all)))

pub front-inside : {A : Type 0} (p : A → Bool) (xs : List A) → 0 < length xs → suc (position_or_len p (drop 1 xs)) ≤ length xs
front-inside p [] some = absurd (omega (arith, some))
front-inside p (x ∷ xs) some = let le = position-le p xs in omega (arith, le)

pub front-directive : (tokens : List PpToken) (token : PpToken) → 0 < length tokens → token ≡ get_or tokens 0 token → is_hash token ≡ true
    → parts_of tokens ≡ part_of (take (suc (position_or_len is_first (drop 1 tokens))) tokens) ∷ parts_of (drop (suc (position_or_len is_first (drop 1 tokens))) tokens)
front-directive [] token some is hash = absurd (omega (arith, some))
front-directive (t ∷ ts) token some is hash = first_directive t ts (ap is_hash (sym is) ∙ hash)

pub front-group : (tokens : List PpToken) (token : PpToken) → 0 < length tokens → token ≡ get_or tokens 0 token → is_hash token ≡ false
    → parts_of tokens ≡ part_of (take (suc (position_or_len begins_directive (drop 1 tokens))) tokens) ∷ parts_of (drop (suc (position_or_len begins_directive (drop 1 tokens))) tokens)
front-group [] token some is hash = absurd (omega (arith, some))
front-group (t ∷ ts) token some is hash = first_group t ts (ap is_hash (sym is) ∙ hash)

-- THE TOKENS OF A FILE

pub held-tokens : (l : Loaded) (file : ℕ) (tokens : List PpToken) → is_held l file ≡ true → IfSome (held_at l file) (λ bytes. AreTokensOf file bytes tokens) → tokens ≡ held_tokens l file
held-tokens l file tokens held are =
    let bytes = some-of (held_at l file) held in
    let here : AreTokensOf file bytes.0 tokens = subst (λ o. IfSome o (λ bytes. AreTokensOf file bytes tokens)) bytes.1 are in
    sym (ap (λ o. result_unwrap_or (reading_of file (unwrap_or o [])) []) bytes.1
    ∙ ap (λ r. result_unwrap_or r []) (reading-tokens file bytes.0 tokens here))

-- PLAIN HEADS

pub plain-stops : (bytes : List ℕ) (from : ℕ) (rest : List PpToken) (token : PpToken) (others : List PpToken) → rest ≡ token ∷ others → is_plain_token bytes from token ≡ false → are_plain bytes from rest ≡ false
unfolding are_plain
plain-stops bytes from rest token others is plain = ap (are_plain bytes from) is ∙ ap (λ b. b && are_plain bytes token.end others) plain

pub plain-more : (bytes : List ℕ) (from : ℕ) (rest : List PpToken) (token : PpToken) (others : List PpToken) → rest ≡ token ∷ others → is_plain_token bytes from token ≡ true
    → are_plain bytes token.end others ≡ are_plain bytes from rest
unfolding are_plain
plain-more bytes from rest token others is plain = sym (ap (are_plain bytes from) is ∙ ap (λ b. b && are_plain bytes token.end others) plain)

pub plain-none : (bytes : List ℕ) (from : ℕ) (rest : List PpToken) → length rest ≡ 0 → are_plain bytes from rest ≡ true
unfolding are_plain
plain-none bytes from [] none = refl
plain-none bytes from (t ∷ ts) none = absurd (omega (arith, none))

-- SECTIONS

set-last : {A : Type 0} (ys : List A) (x y : A) → set (ys ++ y ∷ []) (length ys) x ≡ ys ++ x ∷ []
set-last [] x y = refl
set-last (z ∷ ys) x y = ap (λ zs. z ∷ zs) (set-last ys x y)

reverse-twice : {A : Type 0} (xs : List A) → reverse (reverse xs) ≡ xs
reverse-twice [] = refl
reverse-twice (x ∷ xs) = ap reverse (reverse-append (x ∷ []) xs) ∙ reverse-append (reverse xs) (x ∷ []) ∙ ap (λ ys. x ∷ ys) (reverse-twice xs)

length-reverse-cons : {A : Type 0} (ys : List A) (y : A) → length (ys ++ y ∷ []) ≡ suc (length ys)
length-reverse-cons [] y = refl
length-reverse-cons (z ∷ ys) y = ap suc (length-reverse-cons ys y)

pub changed-last : {A : Type 0} (items : List A) (n : ℕ) (x other : A) (outer : List A) → reverse items ≡ other ∷ outer → n + 1 ≡ length items → reverse (set items n x) ≡ x ∷ outer
changed-last items n x other outer is last =
    let whole : items ≡ reverse outer ++ other ∷ [] = sym (reverse-twice items) ∙ ap reverse is ∙ reverse-append (other ∷ []) outer in
    let place : n ≡ length (reverse outer) = let long = ap length whole ∙ length-reverse-cons (reverse outer) other in omega (arith, long, last) in
    ap (λ is. reverse (set is n x)) whole
    ∙ ap (λ k. reverse (set (reverse outer ++ other ∷ []) k x)) place
    ∙ ap reverse (set-last (reverse outer) x other)
    ∙ reverse-append (reverse outer) (x ∷ []) ∙ ap (λ ys. x ∷ ys) (reverse-twice outer)

-- a section is opened in a skipped group
pub opens-skipped : {A : Type 0} (start : PpToken) (state : State) (Meant : Result Tested Stop → Type 0) (result : Result A Stop) (after : State) → is_read state.sections ≡ false
    → LeadsTo (pushed start.place Over state) result after → Does (Opens start state Meant) result after
opens-skipped start state Meant result after read leads =
    leads-does (Opens start state Meant) (pushed start.place Over state) result after
    (subst (λ b. MatchBool b (Then Meant (λ (t : Tested) (r : Outcome). r ≡ opens start t) (pushed start.place Over state)) (◌≡◌ {A = Outcome} (pushed start.place Over state) (pushed start.place Over state))) (sym read) refl)
    leads

-- or with a condition
pub opens-tested : {A : Type 0} (start : PpToken) (state middle : State) (truth : Bool) (Meant : Result Tested Stop → Type 0) (result : Result A Stop) (after : State) → is_read state.sections ≡ true
    → Meant (Ok (tested truth middle)) → LeadsTo (pushed start.place (stage_by truth) middle) result after → Does (Opens start state Meant) result after
opens-tested start state middle truth Meant result after read meant leads =
    leads-does (Opens start state Meant) (pushed start.place (stage_by truth) middle) result after
    (subst (λ b. MatchBool b (Then Meant (λ (t : Tested) (r : Outcome). r ≡ opens start t) (pushed start.place (stage_by truth) middle)) (◌≡◌ {A = Outcome} (pushed start.place (stage_by truth) middle) (pushed start.place Over state))) (sym read)
    (inr (tested truth middle, meant, refl)))
    leads

stops-map : {A B : Type 0} (First : Result A Stop → Type 0) (Second : Result B Stop → Type 0) (stop : Stop) → ((other : Stop) → First (Err other) → Second (Err other)) → Stops First stop → Stops Second stop
stops-map First Second Memory map stops = tt
stops-map First Second (Refused refusal) map stops = map (Refused refusal) stops
stops-map First Second (Limit passed) map stops = map (Limit passed) stops
stops-map First Second (ReadFault file) map stops = map (ReadFault file) stops

-- `elif` in a section without `else`
elif-by : (start : PpToken) (section : Section) (outer : List Section) (Meant : Result Tested Stop → Type 0) (state : State) (outcome : Outcome) → section.has_else ≡ false
    → DoesElifAt section.stage section outer Meant state outcome → DoesElif start (section ∷ outer) Meant state outcome
elif-by start section outer Meant state outcome none does =
    subst (λ b. MatchBool b (outcome ≡ lost start) (DoesElifAt section.stage section outer Meant state outcome)) (sym none) does

pub elif-tested : (start : PpToken) (sections : List Section) (section : Section) (outer : List Section) (Meant : Result Tested Stop → Type 0) (state middle after : State) (truth : Bool) → sections ≡ section ∷ outer
    → section.has_else ≡ false → section.stage ≡ Waiting → Meant (Ok (tested truth middle)) → after ≡ within (record section { stage = stage_by truth } ∷ outer) middle
    → DoesElif start sections Meant state (Ok after)
elif-tested start sections section outer Meant state middle after truth are none stage meant is =
    subst (λ ss. DoesElif start ss Meant state (Ok after)) (sym are)
    (elif-by start section outer Meant state (Ok after) none
    (subst (λ s. DoesElifAt s section outer Meant state (Ok after)) (sym stage) (inr (tested truth middle, meant, ap Ok is))))

pub elif-stopped : (start : PpToken) (sections : List Section) (section : Section) (outer : List Section) (Meant : Result Tested Stop → Type 0) (state : State) (stop : Stop) → sections ≡ section ∷ outer
    → section.has_else ≡ false → section.stage ≡ Waiting → Stops Meant stop → Stops (DoesElif start sections Meant state) stop
elif-stopped start sections section outer Meant state stop are none stage stops =
    stops-map Meant (DoesElif start sections Meant state) stop (λ other meant.
    subst (λ ss. DoesElif start ss Meant state (Err other)) (sym are)
    (elif-by start section outer Meant state (Err other) none
    (subst (λ s. DoesElifAt s section outer Meant state (Err other)) (sym stage) (inl (other, meant, refl)))))
    stops

pub elif-skipped : (start : PpToken) (sections : List Section) (section : Section) (outer : List Section) (Meant : Result Tested Stop → Type 0) (state after : State) → sections ≡ section ∷ outer
    → section.has_else ≡ false → (section.stage ≡ Waiting → ⊥) → after ≡ within (record section { stage = Over } ∷ outer) state → DoesElif start sections Meant state (Ok after)
elif-skipped start sections section outer Meant state after are none stage is =
    subst (λ ss. DoesElif start ss Meant state (Ok after)) (sym are)
    (elif-by start section outer Meant state (Ok after) none (by section.stage refl))
  where
    by : (s : Stage) → section.stage ≡ s → DoesElifAt s section outer Meant state (Ok after)
    by Waiting e = absurd (stage e)
    by Read e = ap Ok is
    by Over e = ap Ok is

-- CONDITIONS

pub judge-stops : (main : ℕ) (start : PpToken) (operands : List PpToken) (state : State) (tokens : List Token) (expansions : List Expansion) (spent : ℕ) (stop : Stop)
    → expansion_of (looked_up state.table state.files.names) (replaced state.table operands) state.instance state.spent ≡ Ok (answer tokens expansions spent)
    → list_any (λ (token : Token). is_defined_word token.pp) tokens ≡ false → Refuses tokens start.place stop → Stops (Evaluates main start operands state) stop
judge-stops main start operands state tokens expansions spent Memory is none refuses = tt
judge-stops main start operands state tokens expansions spent (Limit passed) is none refuses = absurd refuses
judge-stops main start operands state tokens expansions spent (ReadFault file) is none refuses = absurd refuses
judge-stops main start operands state tokens expansions spent (Refused given) is none refuses =
    subst (λ r. JudgesExpanded start (names_asked state.table operands) r state (Err (Refused given))) (sym (ap (for_unit main) is))
    (subst (λ b. MatchBool b (◌≡◌ {A = Result Tested Stop} (Err (Refused given)) (no_condition start)) (Judged start (names_asked state.table operands) (answer tokens expansions spent) state (Err (Refused given)))) (sym none)
    (inr (refuses.0, ap (λ r. Err (Refused r)) refuses.1)))

pub judge-faultless : (tokens : List Token) (at : Place) (stop : Stop) → Refuses tokens at stop → IsFaultless stop
judge-faultless tokens at Memory refuses = tt
judge-faultless tokens at (Limit passed) refuses = absurd refuses
judge-faultless tokens at (ReadFault file) refuses = absurd refuses
judge-faultless tokens at (Refused given) refuses = tt

pub judge-ok : (main : ℕ) (start : PpToken) (operands : List PpToken) (state after : State) (tokens : List Token) (expansions : List Expansion) (spent : ℕ) (truth : Bool) (uses : List Use)
    → expansion_of (looked_up state.table state.files.names) (replaced state.table operands) state.instance state.spent ≡ Ok (answer tokens expansions spent)
    → list_any (λ (token : Token). is_defined_word token.pp) tokens ≡ false → HasTruth tokens truth → AreInOrder (names_asked state.table operands ++ map (use_by state.table) expansions) uses
    → after ≡ with_uses uses (answer tokens expansions spent) state → Evaluates main start operands state (Ok (tested truth after))
judge-ok main start operands state after tokens expansions spent truth uses is none has order same =
    subst (λ r. JudgesExpanded start (names_asked state.table operands) r state (Ok (tested truth after))) (sym (ap (for_unit main) is))
    (subst (λ b. MatchBool b (◌≡◌ {A = Result Tested Stop} (Ok (tested truth after)) (no_condition start)) (Judged start (names_asked state.table operands) (answer tokens expansions spent) state (Ok (tested truth after)))) (sym none)
    (inl (truth, has, uses, order, ap (λ s. Ok (tested truth s)) same)))

pub evaluated-state : (old new : Reader) (appended : Vec Use Global) (files : Catalogue) (tokens : List Token) (expansions : List Expansion) (uses : List Use)
    → new ≡ record old { instance = old.instance + length expansions; work = new.work } → appended.items ≡ new.uses.items ++ uses
    → state_of (record new { uses = appended }) files ≡ with_uses uses (answer tokens expansions new.work.spent) (state_of old files)
evaluated-state old new appended files tokens expansions uses stays items =
    ap (λ (r : Reader). state_of (record r { uses = appended }) files) stays
    ∙ ap (λ (us : List Use). record (state_of old files) { uses = us; instance = old.instance + length expansions; spent = new.work.spent }) (items ∙ ap (λ (r : Reader). r.uses.items ++ uses) stays)

-- the innermost section
pub before-else : (sections : List Section) (section : Section) → IsBeforeElse sections section → (outer : List Section) × (sections ≡ section ∷ outer) × (section.has_else ≡ false)
before-else [] section is = absurd is
before-else (first ∷ outer) section is = (outer, ap (λ (s : Section). s ∷ outer) (sym is.0), ap (λ (s : Section). s.has_else) is.0 ∙ is.1)

-- DIRECTIVES

pub does-define : {A : Type 0} (main file : ℕ) (bytes : List ℕ) (start : PpToken) (behind : List PpToken) (state : State) (result : Result A Stop) (after : State) → begins_with_name (drop 1 behind) ≡ true
    → Does (DefinesLine main (start ∷ behind) (origin_of file) (is_plain_head bytes start (start ∷ behind)) state) result after → Does (DoesDefine main file bytes start behind state) result after
does-define main file bytes start behind state result after named does =
    subst (λ b. Does (λ outcome. MatchBool b (DefinesLine main (start ∷ behind) (origin_of file) (is_plain_head bytes start (start ∷ behind)) state outcome) (outcome ≡ Err (refusal refusals.directive start.place))) result after) (sym named) does

-- the third token of a line is the name behind the directive's
pub third-name : (line : List PpToken) (start : PpToken) (behind : List PpToken) (name : PpToken) → line ≡ start ∷ behind → 3 ≤ length line → name ≡ get_or line 2 name → is_identifier name ≡ true
    → begins_with_name (drop 1 behind) ≡ true
third-name line start [] name is long at named = let n = ap length is in absurd (omega (arith, n, long))
third-name line start (b ∷ []) name is long at named = let n = ap length is in absurd (omega (arith, n, long))
third-name line start (b ∷ (n ∷ rest)) name is long at named = ap is_identifier (sym (at ∙ ap (λ l. get_or l 2 name) is)) ∙ named

pub read-define : {A : Type 0} (setting : Setting) (more main file : ℕ) (directive : Directive) (start : PpToken) (behind : List PpToken) (state : State) (result : Result A Stop) (after : State) (bytes : List ℕ)
    → directive ≡ Define → setting.main ≡ main → bytes ≡ bytes_in setting state.files file → Does (DoesDefine main file bytes start behind state) result after
    → Does (DoesRead setting (Enters setting more) file directive start behind state) result after
read-define setting more main file directive start behind state result after bytes is mains are does =
    subst (λ d. Does (DoesRead setting (Enters setting more) file d start behind state) result after) (sym is)
    (subst (λ m. Does (DoesDefine m file (bytes_in setting state.files file) start behind state) result after) (sym mains)
    (subst (λ bs. Does (DoesDefine main file bs start behind state) result after) are does))

pub held-bytes : (setting : Setting) (l : Loaded) (file : ℕ) (bytes : List ℕ) → IsBytesOf setting l file → held_at l file ≡ Some bytes → bytes ≡ bytes_in setting (shown l) file
held-bytes setting l file bytes is held = by (sym held ∙ is)
  where
    by : Some bytes ≡ Some (bytes_in setting (shown l) file) → bytes ≡ bytes_in setting (shown l) file
    by e = cc

pub behind-two : (line : List PpToken) (start : PpToken) (behind operands : List PpToken) → operands ≡ drop 2 line → line ≡ start ∷ behind → operands ≡ drop 1 behind
behind-two line start behind operands are is = are ∙ ap (drop 2) is

-- the directives that open a section
pub directive-opens : {A : Type 0} (setting : Setting) (more main file : ℕ) (directive : Directive) (start : PpToken) (behind operands : List PpToken) (state : State) (result : Result A Stop) (after : State)
    → (directive ≡ If) ⊎ ((directive ≡ Ifdef) ⊎ (directive ≡ Ifndef)) → setting.main ≡ main → operands ≡ drop 1 behind → Does (Opens start state (TestsBy directive main start operands state)) result after
    → Does (DoesDirective setting (Enters setting more) file directive start behind state) result after
directive-opens setting more main file directive start behind operands state result after is mains are does = by is
  where
    tests : Does (Opens start state (TestsBy directive setting.main start (drop 1 behind) state)) result after
    tests =
        subst (λ m. Does (Opens start state (TestsBy directive m start (drop 1 behind) state)) result after) (sym mains)
        (subst (λ (os : List PpToken). Does (Opens start state (TestsBy directive main start os state)) result after) are does)

    by : (directive ≡ If) ⊎ ((directive ≡ Ifdef) ⊎ (directive ≡ Ifndef)) → Does (DoesDirective setting (Enters setting more) file directive start behind state) result after
    by (inl e) =
        subst (λ (d : Directive). Does (DoesDirective setting (Enters setting more) file d start behind state) result after) (sym e)
        (subst (λ (d : Directive). Does (Opens start state (TestsBy d setting.main start (drop 1 behind) state)) result after) e tests)
    by (inr (inl e)) =
        subst (λ (d : Directive). Does (DoesDirective setting (Enters setting more) file d start behind state) result after) (sym e)
        (subst (λ (d : Directive). Does (Opens start state (TestsBy d setting.main start (drop 1 behind) state)) result after) e tests)
    by (inr (inr e)) =
        subst (λ (d : Directive). Does (DoesDirective setting (Enters setting more) file d start behind state) result after) (sym e)
        (subst (λ (d : Directive). Does (Opens start state (TestsBy d setting.main start (drop 1 behind) state)) result after) e tests)

-- those that aren't of conditional inclusion, in a group that is read
other-read : (setting : Setting) (more file : ℕ) (directive : Directive) (start : PpToken) (behind : List PpToken) (state : State) (outcome : Outcome) → is_read state.sections ≡ true
    → DoesRead setting (Enters setting more) file directive start behind state outcome
    → MatchBool (is_read state.sections) (DoesRead setting (Enters setting more) file directive start behind state outcome) (outcome ≡ Ok state)
other-read setting more file directive start behind state outcome read does =
    subst (λ b. MatchBool b (DoesRead setting (Enters setting more) file directive start behind state outcome) (outcome ≡ Ok state)) (sym read) does

pub directive-does : (setting : Setting) (more file : ℕ) (directive : Directive) (start : PpToken) (behind : List PpToken) (state : State) (outcome : Outcome) → is_read state.sections ≡ true
    → (directive ≡ If → ⊥) → (directive ≡ Ifdef → ⊥) → (directive ≡ Ifndef → ⊥) → (directive ≡ Elif → ⊥) → (directive ≡ Else → ⊥) → (directive ≡ Endif → ⊥)
    → DoesRead setting (Enters setting more) file directive start behind state outcome → DoesDirective setting (Enters setting more) file directive start behind state outcome
directive-does setting more file If start behind state outcome read a b c d e f does = absurd (a refl)
directive-does setting more file Ifdef start behind state outcome read a b c d e f does = absurd (b refl)
directive-does setting more file Ifndef start behind state outcome read a b c d e f does = absurd (c refl)
directive-does setting more file Elif start behind state outcome read a b c d e f does = absurd (d refl)
directive-does setting more file Else start behind state outcome read a b c d e f does = absurd (e refl)
directive-does setting more file Endif start behind state outcome read a b c d e f does = absurd (f refl)
directive-does setting more file Include start behind state outcome read a b c d e f does = other-read setting more file Include start behind state outcome read does
directive-does setting more file Define start behind state outcome read a b c d e f does = other-read setting more file Define start behind state outcome read does
directive-does setting more file Undef start behind state outcome read a b c d e f does = other-read setting more file Undef start behind state outcome read does
directive-does setting more file Line start behind state outcome read a b c d e f does = other-read setting more file Line start behind state outcome read does
directive-does setting more file Error start behind state outcome read a b c d e f does = other-read setting more file Error start behind state outcome read does
directive-does setting more file Pragma start behind state outcome read a b c d e f does = other-read setting more file Pragma start behind state outcome read does
directive-does setting more file Null start behind state outcome read a b c d e f does = other-read setting more file Null start behind state outcome read does
directive-does setting more file Unknown start behind state outcome read a b c d e f does = other-read setting more file Unknown start behind state outcome read does

pub directive-read : {A : Type 0} (setting : Setting) (more file : ℕ) (directive : Directive) (start : PpToken) (behind : List PpToken) (state : State) (result : Result A Stop) (after : State) → is_read state.sections ≡ true
    → (directive ≡ If → ⊥) → (directive ≡ Ifdef → ⊥) → (directive ≡ Ifndef → ⊥) → (directive ≡ Elif → ⊥) → (directive ≡ Else → ⊥) → (directive ≡ Endif → ⊥)
    → Does (DoesRead setting (Enters setting more) file directive start behind state) result after → Does (DoesDirective setting (Enters setting more) file directive start behind state) result after
directive-read setting more file directive start behind state (Ok answer) after read a b c d e f does = directive-does setting more file directive start behind state (Ok after) read a b c d e f does
directive-read setting more file directive start behind state (Err stop) after read a b c d e f does =
    stops-map (DoesRead setting (Enters setting more) file directive start behind state) (DoesDirective setting (Enters setting more) file directive start behind state) stop
    (λ other. directive-does setting more file directive start behind state (Err other) read a b c d e f) does
