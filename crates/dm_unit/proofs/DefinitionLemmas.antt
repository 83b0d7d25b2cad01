-- What a line that defines a macro does.
use Rattle.std.proofs.Common.{◌≡◌, ℕ, ◌+◌, ◌<◌, ◌≤◌, zero, suc, Bool, true, false, cond, not, ◌||◌, ◌⊎◌, inl, inr, List, [], ◌∷◌, ◌++◌, length, take, drop, set, Option, None, Some, IsSomeAnd, OnOk, slice_get, Result, Ok, Err, MatchBool, nat_lt, refl, sym, ap, ◌∙◌, subst, arith}
use Rattle.std.specs.List.{list_any, position, position_or_len, before_first, after_first}
use Rattle.std.proofs.lemmas.Bool.{lt-ltb, le-ltb, ltb-true}
use Rattle.dm_unit.proofs.ListLemmas.{position-none}
use Rattle.dm_token.specs.Limits.{most_work}
use Rattle.dm_token.specs.LimitNumbers as limits
use Rattle.dm_token.specs.Refusals as refusals
use Rattle.dm_token.specs.declared.token.PpToken.{PpToken}
use Rattle.dm_token.specs.declared.stop.Stop.{Stop}
use Rattle.dm_token.specs.declared.stop.Stop.TheVariants.{Memory, Refused, Limit, ReadFault}
use Rattle.dm_token.specs.declared.expansion.Origin.{Origin}
use Rattle.dm_token.specs.declared.expansion.Origin.TheVariants.{Manifest}
use Rattle.dm_macro.specs.Tables.{Table, Defines, Refuses}
use Rattle.dm_macro.specs.Forms.{bare_hash, refused}
use Rattle.dm_unit.specs.States.{State, Outcome, limit}
use Rattle.dm_unit.specs.Definitions.{CannotDefine, DefinesLine, DefinesText, DoesManifest, with_definition, define_text, is_equals_sign}
use Rattle.dm_unit.specs.Views.{IsFaultless, Stops, Does, IsLineOf}

work-left : (spent : ℕ) → spent < most_work → nat_lt spent most_work ≡ true
work-left spent few = lt-ltb spent most_work few

work-done : (spent : ℕ) → most_work ≤ spent → nat_lt spent most_work ≡ false
work-done spent many = le-ltb spent most_work many

-- too much work was done before
pub line-limit : (main : ℕ) (line : List PpToken) (origin : Origin) (plain : Bool) (state : State) → most_work ≤ state.spent → DefinesLine main line origin plain state (Err (limit limits.work main))
line-limit main line origin plain state many =
    subst (λ b. MatchBool b
    (((table : Table) × Defines state.table line origin plain table × (◌≡◌ {A = Outcome} (Err (limit limits.work main)) (Ok (with_definition table state))))
    ⊎ ((stop : Stop) × CannotDefine state.table line origin plain stop × (◌≡◌ {A = Outcome} (Err (limit limits.work main)) (Err stop))))
    (◌≡◌ {A = Outcome} (Err (limit limits.work main)) (Err (limit limits.work main)))) (sym (work-done state.spent many)) refl

line-outcome : (main : ℕ) (line : List PpToken) (origin : Origin) (plain : Bool) (state : State) (outcome : Outcome) → state.spent < most_work
    → (((table : Table) × Defines state.table line origin plain table × (outcome ≡ Ok (with_definition table state)))
    ⊎ ((stop : Stop) × CannotDefine state.table line origin plain stop × (outcome ≡ Err stop)))
    → DefinesLine main line origin plain state outcome
line-outcome main line origin plain state outcome few is =
    subst (λ b. MatchBool b
    (((table : Table) × Defines state.table line origin plain table × (outcome ≡ Ok (with_definition table state)))
    ⊎ ((stop : Stop) × CannotDefine state.table line origin plain stop × (outcome ≡ Err stop)))
    (outcome ≡ Err (limit limits.work main))) (sym (work-left state.spent few)) is

-- the line defines a macro
pub line-defines : (main : ℕ) (line : List PpToken) (origin : Origin) (plain : Bool) (state after : State) (table : Table) → state.spent < most_work → Defines state.table line origin plain table
    → after ≡ with_definition table state → DefinesLine main line origin plain state (Ok after)
line-defines main line origin plain state after table few defines is = line-outcome main line origin plain state (Ok after) few (inl (table, defines, ap Ok is))

line-cannot : (main : ℕ) (line : List PpToken) (origin : Origin) (plain : Bool) (state : State) (stop : Stop) → state.spent < most_work → CannotDefine state.table line origin plain stop
    → DefinesLine main line origin plain state (Err stop)
line-cannot main line origin plain state stop few cannot = line-outcome main line origin plain state (Err stop) few (inr (stop, cannot, refl))

-- or it can't
pub line-stops : (main : ℕ) (line : List PpToken) (origin : Origin) (plain : Bool) (state : State) (stop : Stop) → state.spent < most_work → Refuses state.table line origin plain stop
    → Stops (DefinesLine main line origin plain state) stop
line-stops main line origin plain state stop few (inl memory) = subst (Stops (DefinesLine main line origin plain state)) (sym memory) tt
line-stops main line origin plain state Memory few (inr cannot) = tt
line-stops main line origin plain state (Refused refusal) few (inr cannot) = line-cannot main line origin plain state (Refused refusal) few cannot
line-stops main line origin plain state (Limit passed) few (inr cannot) = line-cannot main line origin plain state (Limit passed) few cannot
line-stops main line origin plain state (ReadFault file) few (inr cannot) = line-cannot main line origin plain state (ReadFault file) few cannot

-- a define of the manifest is its line
pub manifest-line : {A : Type 0} (main : ℕ) (define : List ℕ) (line : List PpToken) (state : State) (result : Result A Stop) (after : State) → IsLineOf main define line
    → Does (DefinesLine main line Manifest true state) result after → Does (DoesManifest main define state) result after
manifest-line main define line state result after is does =
    subst (λ read. Does (DefinesText main define read state) result after) (sym is.1) (subst (λ l. Does (DefinesLine main l Manifest true state) result after) is.2 does)

-- THE TEXT OF A DEFINE

some-any : {A : Type 0} (p : A → Bool) (xs : List A) (n : ℕ) → Some n ≡ position p xs → (n ≡ position_or_len p xs) × (n < length xs)
some-any p xs n is = by (nat_lt (position_or_len p xs) (length xs)) refl is
  where
    by : (b : Bool) → nat_lt (position_or_len p xs) (length xs) ≡ b → Some n ≡ cond b (Some (position_or_len p xs)) None → (n ≡ position_or_len p xs) × (n < length xs)
    by true h e = let same : n ≡ position_or_len p xs = cc in let inside = ltb-true (position_or_len p xs) (length xs) h in (same, omega (arith, same, inside))
    by false h e = absurd (cc)

any-inside : {A : Type 0} (p : A → Bool) (xs : List A) → position_or_len p xs < length xs → list_any p xs ≡ true
any-inside p [] inside = absurd (omega (arith, inside))
any-inside p (x ∷ xs) inside = by (p x) inside (any-inside p xs)
  where
    by : (b : Bool) → cond (not b) (1 + position_or_len p xs) 0 < length (x ∷ xs) → (position_or_len p xs < length xs → list_any p xs ≡ true) → (b || list_any p xs) ≡ true
    by true lt next = refl
    by false lt next = next (omega (arith, lt))

any-none : {A : Type 0} (p : A → Bool) (xs : List A) → position_or_len p xs ≡ length xs → list_any p xs ≡ false
any-none p [] none = refl
any-none p (x ∷ xs) none = by (p x) none (any-none p xs)
  where
    by : (b : Bool) → cond (not b) (1 + position_or_len p xs) 0 ≡ length (x ∷ xs) → (position_or_len p xs ≡ length xs → list_any p xs ≡ false) → (b || list_any p xs) ≡ false
    by true e next = absurd (omega (arith, e))
    by false e next = next (omega (arith, e))

set-split : (n v : ℕ) (xs : List ℕ) → n < length xs → set xs n v ≡ take n xs ++ v ∷ drop (n + 1) xs
set-split n v [] inside = absurd (omega (arith, inside))
set-split zero v (x ∷ xs) inside = refl
set-split (suc n) v (x ∷ xs) inside =
    let less : n < length xs = omega (arith, inside) in
    let more : suc n + 1 ≡ suc (n + 1) = omega arith in
    ap (λ ys. x ∷ ys) (set-split n v xs less) ∙ ap (λ k. x ∷ (take n xs ++ v ∷ drop k (x ∷ xs))) (sym more)

pub text-some : (define : List ℕ) (n : ℕ) → Some n ≡ position is_equals_sign define → set define n 32 ≡ define_text define
text-some define n is =
    let at = some-any is_equals_sign define n is in
    let inside : position_or_len is_equals_sign define < length define = omega (arith, at.0, at.1) in
    ap (λ k. set define k 32) at.0 ∙ set-split (position_or_len is_equals_sign define) 32 define inside
    ∙ sym (ap (λ b. cond b (before_first is_equals_sign define ++ 32 ∷ after_first is_equals_sign define) define) (any-inside is_equals_sign define inside))

pub text-none : (define : List ℕ) → None ≡ position is_equals_sign define → define ≡ define_text define
text-none define none =
    sym (ap (λ b. cond b (before_first is_equals_sign define ++ 32 ∷ after_first is_equals_sign define) define) (any-none is_equals_sign define (position-none is_equals_sign define none)))

-- STOPS

pub refuses-faultless : (table : Table) (line : List PpToken) (origin : Origin) (plain : Bool) (stop : Stop) → Refuses table line origin plain stop → IsFaultless stop
refuses-faultless table line origin plain stop (inl memory) = subst IsFaultless (sym memory) tt
refuses-faultless table line origin plain stop (inr (inl misformed)) = misformed-faultless (slice_get line 0) misformed.1
  where
    misformed-faultless : (o : Option PpToken) → IsSomeAnd o (λ hash. stop ≡ refused refusals.form hash.place) → IsFaultless stop
    misformed-faultless None is = absurd is
    misformed-faultless (Some token) is = subst IsFaultless (sym is) tt
refuses-faultless table line origin plain stop (inr (inr (inl bare))) = bare-faultless (bare_hash bare.0) bare.2
  where
    bare-faultless : (o : Option PpToken) → IsSomeAnd o (λ operator. stop ≡ refused refusals.hash_operand operator.place) → IsFaultless stop
    bare-faultless None is = absurd is
    bare-faultless (Some token) is = subst IsFaultless (sym is) tt
refuses-faultless table line origin plain stop (inr (inr (inr redefines))) = subst IsFaultless (sym redefines.4) tt

-- what holds where a result isn't an error
pub ok-defined : {A : Type 0} (result : Result A Stop) (P : Type 0) → ((stop : Stop) → result ≡ Err stop → ⊥) → OnOk result P → P
ok-defined (Ok answer) P not on = on
ok-defined (Err stop) P not on = absurd (not stop refl)
