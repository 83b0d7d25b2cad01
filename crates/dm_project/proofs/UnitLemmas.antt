-- The units that are left come behind those that were read.
use Rattle.std.proofs.Common.{◌≡◌, inl, inr, ℕ, ◌+◌, ◌<◌, ◌≤◌, List, [], ◌∷◌, ◌++◌, length, drop, cond, get_or, Option, Some, None, Result, Ok, Err, refl, sym, ap, ◌∙◌, subst, arith, add_assoc, IsErrAnd, Bool, true, false, nat_lt, unwrap_or, position, not}
use Rattle.std.proofs.lemmas.List.{at_drop_more, at_drop_all}
use Rattle.std.specs.List.{position_or_len}
use Rattle.std.proofs.lemmas.Bool.{cond-true, cond-false, ltb-false}
use Rattle.dm_token.specs.declared.stop.Stop.{Stop}
use Rattle.dm_token.specs.declared.stop.Stop.TheVariants.{Memory, ReadFault}
use Rattle.dm_token.specs.declared.unit.Unit.{Unit as Source}
use Rattle.dm_io.specs.Files.{Files}
use Rattle.dm_search.specs.Loaded.{Loaded}
use Rattle.dm_unit.specs.States.{limit}
use Rattle.dm_unit.specs.Units.{setting_of}
use Rattle.dm_unit.specs.Views.{stop_of}
use Rattle.dm_reading.specs.declared.reading.Reading.{Reading}
use Rattle.dm_readings.specs.Reading.{IsReading}
use Rattle.dm_readings.specs.Units.{Ending, ending, stopped, behind, token_count, ReadsNext, ReadsUnits}

-- readings before others
abbrev pub all_behind : List Reading → Ending → Ending
all_behind [] end = end
all_behind (first ∷ given) end = behind first (all_behind given end)

pub one-more : (given : List Reading) (reading : Reading) (end : Ending) → all_behind (given ++ reading ∷ []) end ≡ all_behind given (behind reading end)
one-more [] reading end = refl
one-more (first ∷ given) reading end = ap (behind first) (one-more given reading end)

pub all-given : (given : List Reading) (loaded : Loaded) → all_behind given (ending (Ok []) 0 loaded) ≡ ending (Ok given) (length given) loaded
all-given [] loaded = refl
all-given (first ∷ given) loaded = ap (behind first) (all-given given loaded) ∙ ap (λ n. ending (Ok (first ∷ given)) n loaded) (omega arith)

pub stopped-behind : (given : List Reading) (stop : Stop) (loaded : Loaded) → all_behind given (stopped stop loaded) ≡ ending (Err stop) (length given + 1) loaded
stopped-behind [] stop loaded = refl
stopped-behind (first ∷ given) stop loaded = ap (behind first) (stopped-behind given stop loaded) ∙ ap (λ n. ending (Err stop) n loaded) (omega arith)

-- ---- steps

-- what is left of a list, with its first item
pub cut : {X : Type 0} (xs : List X) (at : ℕ) (x : X) → at < length xs → x ≡ get_or xs at x → drop at xs ≡ x ∷ drop (at + 1) xs
cut xs at x inside is = at_drop_more (λ ys. ys) xs at x inside ∙ ap (λ y. y ∷ drop (at + 1) xs) (sym is)

pub token_count-push : (given : List Reading) (reading : Reading) → token_count (given ++ reading ∷ []) ≡ token_count given + length reading.pp.tokens
token_count-push [] reading = omega arith
token_count-push (first ∷ given) reading =
    ap (λ n. length first.pp.tokens + n) (token_count-push given reading) ∙ sym (add_assoc (length first.pp.tokens) (token_count given) (length reading.pp.tokens))

module _ (files : Files) where
  -- the next unit is read
  pub units-go : (units : List Source) (at : ℕ) (unit : Source) (spent : ℕ) (old : Loaded) (reading : Reading) (known : Loaded) (end : Ending)
      → drop at units ≡ unit ∷ drop (at + 1) units → ReadsNext files unit spent old (Ok reading) known → ReadsUnits files (drop (at + 1) units) (spent + length reading.pp.tokens) known end
      → ReadsUnits files (drop at units) spent old (behind reading end)
  units-go units at unit spent old reading known end is next others =
      subst (λ us. ReadsUnits files us spent old (behind reading end)) (sym is) (inr (reading, known, end, next, others, refl))

  -- reading stops at the next unit
  pub units-stop : (units : List Source) (at : ℕ) (unit : Source) (spent : ℕ) (old : Loaded) (stop : Stop) (known : Loaded)
      → drop at units ≡ unit ∷ drop (at + 1) units → ReadsNext files unit spent old (Err stop) known → ReadsUnits files (drop at units) spent old (stopped stop known)
  units-stop units at unit spent old stop known is next =
      subst (λ us. ReadsUnits files us spent old (stopped stop known)) (sym is) (inl (stop, known, next, refl))

  -- no unit is left
  pub units-end : (units : List Source) (at : ℕ) (spent : ℕ) (old : Loaded) → length units ≤ at → ReadsUnits files (drop at units) spent old (ending (Ok []) 0 old)
  units-end units at spent old past = subst (λ us. ReadsUnits files us spent old (ending (Ok []) 0 old)) (sym (at_drop_all (λ ys. ys) units at past)) refl

  -- memory is wanted behind a unit's reading
  pub next-memory : (unit : Source) (spent : ℕ) (old new : Loaded) → ReadsNext files unit spent old (Err Memory) new
  next-memory unit spent old new = inl (inl tt)

  -- a stop that is handed on
  pub next-handed : (unit : Source) (spent : ℕ) (old : Loaded) (result : Result Reading Stop) (fault : Stop) (new : Loaded) → IsErrAnd result (λ e. e ≡ fault)
      → IsReading (setting_of old new files unit) unit old (Err fault) new → ReadsNext files unit spent old result new
  next-handed unit spent old (Ok reading) fault new handed is = absurd handed
  next-handed unit spent old (Err e) fault new handed is = subst (λ s. ReadsNext files unit spent old (Err s) new) (sym handed) (inl is)

-- ---- answers

pub ended-with : (result : Result (List Reading) Stop) (fault : Stop) (begun : ℕ) (loaded : Loaded) → IsErrAnd result (λ e. e ≡ fault) → ending (Err fault) begun loaded ≡ ending result begun loaded
ended-with (Ok given) fault begun loaded handed = absurd handed
ended-with (Err e) fault begun loaded handed = ap (λ (s : Stop). ending (Err s) begun loaded) (sym handed)

pub handed-on : {A : Type 0} (result : Result A Stop) (fault : Stop) → IsErrAnd result (λ e. e ≡ fault) → Some fault ≡ stop_of result
handed-on (Ok given) fault handed = absurd handed
handed-on (Err e) fault handed = ap (λ (s : Stop). Some s) (sym handed)

pub limit-no-fault : (stop : Stop) (number file : ℕ) → stop ≡ limit number file → (faulty : ℕ) → Some stop ≡ Some (ReadFault faulty) → ⊥
limit-no-fault stop number file is faulty e = never (sym is ∙ by e)
  where
    by : ◌≡◌ {A = Option Stop} (Some stop) (Some (ReadFault faulty)) → stop ≡ ReadFault faulty
    by e = cc

    never : limit number file ≡ ReadFault faulty → ⊥
    never e = cc

-- ---- numbers of names

position-le : {X : Type 0} (p : X → Bool) (xs : List X) → position_or_len p xs ≤ length xs
position-le p [] = omega arith
position-le p (x ∷ xs) = by (p x) (position-le p xs)
  where
    by : (b : Bool) → position_or_len p xs ≤ length xs → cond (not b) (1 + position_or_len p xs) 0 ≤ length (x ∷ xs)
    by true le = omega arith
    by false le = omega arith

pub first-or-next : {X : Type 0} (p : X → Bool) (xs : List X) → unwrap_or (position p xs) (length xs) ≡ position_or_len p xs
first-or-next p xs = by (nat_lt (position_or_len p xs) (length xs)) refl
  where
    by : (b : Bool) → nat_lt (position_or_len p xs) (length xs) ≡ b → unwrap_or (position p xs) (length xs) ≡ position_or_len p xs
    by true e = ap (λ o. unwrap_or o (length xs)) (cond-true (nat_lt (position_or_len p xs) (length xs)) (Some (position_or_len p xs)) None e)
    by false e =
        ap (λ o. unwrap_or o (length xs)) (cond-false (nat_lt (position_or_len p xs) (length xs)) (Some (position_or_len p xs)) None e)
        ∙ (let least = ltb-false (position_or_len p xs) (length xs) e in let most = position-le p xs in omega (arith, least, most))
