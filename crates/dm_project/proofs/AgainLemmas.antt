-- The units that are left to be read again come behind those that were.
use Rattle.std.proofs.Common.{◌≡◌, ◌≢◌, inl, inr, ℕ, ◌+◌, ◌≤◌, Bool, true, false, List, [], ◌∷◌, ◌++◌, length, drop, map, filter, cond, All, Option, Some, None, IfSome, is_some, unwrap_or, Result, Ok, Err, IfOk, IsErrAnd, OnOk, refl, sym, ap, ◌∙◌, subst, arith, append_assoc, add_assoc, append-nil}
use Rattle.std.specs.Result.{result_map_both}
use Rattle.std.proofs.lemmas.List.{at_drop_all, map-append}
use Rattle.std.proofs.lemmas.List.Elements.{All-cons, All-head, All-tail}
use Rattle.dm_token.specs.declared.stop.Stop.{Stop}
use Rattle.dm_token.specs.declared.stop.Stop.TheVariants.{Memory}
use Rattle.dm_token.specs.declared.unit.Unit.{Unit as Source}
use Rattle.dm_io.specs.Files.{Files}
use Rattle.dm_search.specs.Loaded.{Loaded}
use Rattle.dm_reading.specs.declared.reading.Reading.{Reading}
use Rattle.dm_readings.specs.Again.{reads, reader_count, put_in, NextAgain, MayRead, ReadsOthers, ReadsAgain}
use Rattle.dm_readings.specs.Units.{token_count, ReadsNext}

abbrev pub News : Type 0
News = List (Option Reading)

-- ---- how many units read the file

pub count-cons : (file : ℕ) (reading : Reading) (kept : List Reading) → reader_count file (reading ∷ kept) ≡ reader_count file (reading ∷ []) + reader_count file kept
count-cons file reading kept = by (reads file reading)
  where
    by : (t : Bool) → length (cond t (reading ∷ filter (reads file) kept) (filter (reads file) kept)) ≡ length (cond t (reading ∷ []) []) + length (filter (reads file) kept)
    by true = omega arith
    by false = omega arith

-- ---- what all of them come to

-- new readings before others
abbrev pub all_before : News → Result News Stop → Result News Stop
all_before news others = result_map_both (λ (more : News). news ++ more) (λ (stop : Stop). stop) others

pub before-one : (news : News) (new : Option Reading) (others : Result News Stop)
    → all_before news (result_map_both (λ (more : News). new ∷ more) (λ (stop : Stop). stop) others) ≡ all_before (news ++ new ∷ []) others
before-one news new (Ok more) = ap (λ (all : News). Ok all) (sym (append_assoc news (new ∷ []) more))
before-one news new (Err stop) = refl

pub before-none : (news : News) → all_before news (Ok []) ≡ Ok news
before-none news = ap (λ (all : News). Ok all) (append-nil news)

module _ (files : Files) (file : ℕ) (unit : Source) (units : List Source) (reading : Reading) (kept : List Reading) (us : List Source) (ks : List Reading) (first : us ≡ unit ∷ units) (one : ks ≡ reading ∷ kept)
    (spent : ℕ) (old : Loaded) where
  -- the next unit
  pub again-go : (new : Option Reading) (known : Loaded) (others : Result News Stop) (last : Loaded)
      → NextAgain (reads file reading) files unit reading spent old (Ok new) known → ReadsAgain files file units kept (spent + length (unwrap_or new reading).pp.tokens) known others last
      → ReadsAgain files file us ks spent old (result_map_both (λ (more : News). new ∷ more) (λ (stop : Stop). stop) others) last
  again-go new known others last next more =
      subst (λ (list : List Source). ReadsAgain files file list ks spent old (result_map_both (λ (more : News). new ∷ more) (λ (stop : Stop). stop) others) last) (sym first)
      (subst (λ (list : List Reading). ReadsAgain files file (unit ∷ units) list spent old (result_map_both (λ (more : News). new ∷ more) (λ (stop : Stop). stop) others) last) (sym one)
      (inr (new, known, others, next, more, refl)))

  -- what is left behind it, behind all before it
  pub again-on : (all_units : List Source) (all : List Reading) (start : Loaded) (news after : News) (new : Option Reading) (known : Loaded) (size : ℕ)
      → ((others : Result News Stop) (last : Loaded) → ReadsAgain files file us ks spent old others last → ReadsAgain files file all_units all 0 start (all_before news others) last)
      → NextAgain (reads file reading) files unit reading spent old (Ok new) known → size ≡ length (unwrap_or new reading).pp.tokens → after ≡ news ++ new ∷ []
      → (others : Result News Stop) (last : Loaded) → ReadsAgain files file units kept (spent + size) known others last → ReadsAgain files file all_units all 0 start (all_before after others) last
  again-on all_units all start news after new known size lead next is pushed others last more =
      subst (λ (result : Result News Stop). ReadsAgain files file all_units all 0 start result last) (before-one news new others ∙ ap (λ (ns : News). all_before ns others) (sym pushed))
      (lead (result_map_both (λ (rest : News). new ∷ rest) (λ (stop : Stop). stop) others) last
      (again-go new known others last next (subst (λ n. ReadsAgain files file units kept (spent + n) known others last) is more)))

  -- the first stop, behind which the others are read
  pub again-stop : (stop : Stop) (known last : Loaded)
      → NextAgain (reads file reading) files unit reading spent old (Err stop) known → ReadsOthers files file units kept known last → ReadsAgain files file us ks spent old (Err stop) last
  again-stop stop known last next others =
      subst (λ (list : List Source). ReadsAgain files file list ks spent old (Err stop) last) (sym first)
      (subst (λ (list : List Reading). ReadsAgain files file (unit ∷ units) list spent old (Err stop) last) (sym one) (inl (stop, known, next, others, refl)))

  -- another unit behind it
  pub others-go : (known last : Loaded) → MayRead (reads file reading) files unit old known → ReadsOthers files file units kept known last → ReadsOthers files file us ks old last
  others-go known last may others =
      subst (λ (list : List Source). ReadsOthers files file list ks old last) (sym first)
      (subst (λ (list : List Reading). ReadsOthers files file (unit ∷ units) list old last) (sym one) (known, may, others))

-- no unit is left
pub again-end : (files : Files) (file : ℕ) (units : List Source) (kept : List Reading) (at spent : ℕ) (old : Loaded) → length units ≤ at → ReadsAgain files file (drop at units) kept spent old (Ok []) old
again-end files file units kept at spent old past =
    subst (λ (us : List Source). ReadsAgain files file us kept spent old (Ok []) old) (sym (at_drop_all (λ us. us) units at past)) (refl, refl)

-- ---- a unit that is read, whatever that gives

pub may-stop : (files : Files) (unit : Source) (again : Bool) (old : Loaded) (stop : Stop) (new : Loaded) → again ≡ true → ReadsNext files unit 0 old (Err stop) new → MayRead again files unit old new
may-stop files unit again old stop new is (inl reading) = subst (λ (b : Bool). MayRead b files unit old new) (sym is) (Err stop, reading)
may-stop files unit again old stop new is (inr many) = subst (λ (b : Bool). MayRead b files unit old new) (sym is) (Ok many.0, many.1)

pub on-ok : {A B P : Type 0} (result : Result A B) → P → OnOk result P
on-ok (Ok done) p = p
on-ok (Err error) p = tt

-- ---- counts

module _ (file : ℕ) (all ks kept : List Reading) (reading : Reading) (one : ks ≡ reading ∷ kept) where
  pub count-go : (readings now start : ℕ) → readings + reader_count file ks ≡ start → now ≡ readings + reader_count file (reading ∷ []) → now + reader_count file kept ≡ start
  count-go readings now start so is = let cons = ap (reader_count file) one ∙ count-cons file reading kept in omega (arith, so, is, cons)

  -- the tokens of the new readings, and of those that are left
  pub tokens-go : (spent size : ℕ) (news after : News) (new : Option Reading) → size ≡ length (unwrap_or new reading).pp.tokens → after ≡ news ++ new ∷ []
      → ((rest : News) → spent + token_count (put_in ks rest) ≡ token_count (put_in all (news ++ rest))) → (rest : News) → (spent + size) + token_count (put_in kept rest) ≡ token_count (put_in all (after ++ rest))
  tokens-go spent size news after new is pushed so rest =
      ap (λ n. (spent + n) + token_count (put_in kept rest)) is ∙ add_assoc spent (length (unwrap_or new reading).pp.tokens) (token_count (put_in kept rest))
      ∙ ap (λ (list : List Reading). spent + token_count (put_in list (new ∷ rest))) (sym one) ∙ so (new ∷ rest)
      ∙ ap (λ (ns : News). token_count (put_in all ns)) (sym (append_assoc news (new ∷ []) rest)) ∙ ap (λ (ns : News). token_count (put_in all (ns ++ rest))) (sym pushed)

  -- just those that read the file have a new one
  pub readers-go : (news after : News) (new : Option Reading) → after ≡ news ++ new ∷ [] → map is_some news ++ map (reads file) ks ≡ map (reads file) all → is_some new ≡ reads file reading
      → map is_some after ++ map (reads file) kept ≡ map (reads file) all
  readers-go news after new pushed so is =
      ap (λ (ns : News). map is_some ns ++ map (reads file) kept) pushed ∙ ap (λ (bs : List Bool). bs ++ map (reads file) kept) (map-append is_some news (new ∷ []))
      ∙ append_assoc (map is_some news) (is_some new ∷ []) (map (reads file) kept) ∙ ap (λ b. map is_some news ++ b ∷ map (reads file) kept) is
      ∙ ap (λ (list : List Reading). map is_some news ++ map (reads file) list) (sym one) ∙ so

pub tokens-end : (spent at : ℕ) (kept : List Reading) (news : News) → length kept ≤ at → spent + token_count (put_in (drop at kept) []) ≡ token_count (put_in kept (news ++ [])) → spent ≡ token_count (put_in kept news)
tokens-end spent at kept news past so =
    let none = ap (λ (list : List Reading). spent + token_count (put_in list [])) (sym (at_drop_all (λ (list : List Reading). list) kept at past)) in
    omega (arith, none) ∙ so ∙ ap (λ (ns : News). token_count (put_in kept ns)) (append-nil news)

pub readers-end : (file at : ℕ) (kept : List Reading) (news : News) → length kept ≤ at → map is_some news ++ map (reads file) (drop at kept) ≡ map (reads file) kept → map is_some news ≡ map (reads file) kept
readers-end file at kept news past so =
    sym (append-nil (map is_some news)) ∙ ap (λ (list : List Reading). map is_some news ++ map (reads file) list) (sym (at_drop_all (λ (list : List Reading). list) kept at past)) ∙ so

pub count-end : (file at : ℕ) (kept : List Reading) → length kept ≤ at → reader_count file (drop at kept) ≡ 0
count-end file at kept past = ap (reader_count file) (at_drop_all (λ (list : List Reading). list) kept at past)

-- ---- readings that are put in

new-or-kept : (P : Reading → Type 0) (new : Option Reading) (reading : Reading) → P reading → IfSome new P → P (unwrap_or new reading)
new-or-kept P None reading old new = old
new-or-kept P (Some given) reading old new = new

pub put-all : (P : Reading → Type 0) (kept : List Reading) (news : News) → All P kept → All (λ (new : Option Reading). IfSome new P) news → All P (put_in kept news)
put-all P [] news all these = all
put-all P (reading ∷ kept) [] all these = all
put-all P (reading ∷ kept) (new ∷ news) all these =
    All-cons P (unwrap_or new reading) (put_in kept news) (new-or-kept P new reading (All-head P reading kept all) (All-head (λ (one : Option Reading). IfSome one P) new news these))
    (put-all P kept news (All-tail P reading kept all) (All-tail (λ (one : Option Reading). IfSome one P) new news these))

-- ---- answers

-- want of memory that is handed on has no cause
pub memory-handed : {A : Type 0} {P : Type 0} (result : Result A Stop) → IsErrAnd result (λ e. e ≡ Memory) → result ≢ Err Memory → P
memory-handed (Ok given) handed not = absurd handed
memory-handed (Err e) handed not = absurd (not (ap (λ (s : Stop). Err s) handed))

pub none-handed : {A : Type 0} (P : A → Type 0) (result : Result A Stop) (fault : Stop) → IsErrAnd result (λ e. e ≡ fault) → IfOk result P
none-handed P (Ok given) fault handed = absurd handed
none-handed P (Err e) fault handed = tt
