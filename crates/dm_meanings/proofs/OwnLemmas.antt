-- Tokens that are left out one by one.
use Rattle.std.proofs.Common.{◌≡◌, ◌<◌, ◌≤◌, ◌⊎◌, inl, inr, ℕ, ◌+◌, Bool, true, false, ◌&&◌, ◌||◌, ◌==◌, not, nat_le, nat_lt, List, ◌++◌, length, take, drop, get_or, refl, sym, ap, ◌∙◌, arith}
use Rattle.std.proofs.lemmas.Bool.{cases_lt, cases_eq, eq-eqb, ne_eqb, lt-ltb, le-ltb, le-leb, lt-leb}
use Rattle.std.proofs.lemmas.List.{at_drop_more, take_at}
use Rattle.std.specs.List.{list_any}
use Rattle.dm_runs.specs.declared.run.Occurrence.{Occurrence}
use Rattle.dm_meanings.specs.Captures.{has_token}

pub and-true : (b : Bool) → (b && true) ≡ b
and-true true = refl
and-true false = refl

and-false : (b : Bool) → (b && false) ≡ false
and-false true = refl
and-false false = refl

-- whether one of some occurrences has a token
abbrev pub is_in_one : List Occurrence → ℕ → Bool
is_in_one occurrences token = list_any (λ (one : Occurrence). has_token token one.span) occurrences

-- from a token on up to another
abbrev pub is_between : ℕ → ℕ → ℕ → Bool
is_between from to token = nat_le from token && nat_lt token to

pub none-between : (from token : ℕ) → is_between from from token ≡ false
none-between from token = by (cases_lt token from)
  where
    by : (token < from) ⊎ (from ≤ token) → (nat_le from token && nat_lt token from) ≡ false
    by (inl less) = ap (λ b. b && nat_lt token from) (lt-leb from token less)
    by (inr past) = ap (λ b. b && nat_lt token from) (le-leb from token past) ∙ le-ltb token from past

-- one token more
pub one-between : (from to token : ℕ) → from ≤ to → (o : Bool) → ((o && not (is_between from to token)) && not (token == to)) ≡ (o && not (is_between from (to + 1) token))
one-between from to token inside false = refl
one-between from to token inside true = by (cases_eq token to)
  where
    by : (token ≡ to) ⊎ (token ≡ to → ⊥) → (not (nat_le from token && nat_lt token to) && not (token == to)) ≡ not (nat_le from token && nat_lt token (to + 1))
    by (inl same) =
        ap (λ b. not (nat_le from token && nat_lt token to) && not b) (eq-eqb token to same)
        ∙ and-false (not (nat_le from token && nat_lt token to))
        ∙ sym (ap (λ b. not (b && nat_lt token (to + 1))) (le-leb from token (omega (arith, inside, same))) ∙ ap not (lt-ltb token (to + 1) (omega (arith, same))))
    by (inr apart) =
        ap (λ b. not (nat_le from token && nat_lt token to) && not b) (ne_eqb token to apart)
        ∙ and-true (not (nat_le from token && nat_lt token to)) ∙ ap (λ b. not (nat_le from token && b)) (same-side (cases_lt token to))
      where
        same-side : (token < to) ⊎ (to ≤ token) → nat_lt token to ≡ nat_lt token (to + 1)
        same-side (inl less) = lt-ltb token to less ∙ sym (lt-ltb token (to + 1) (omega (arith, less)))
        same-side (inr past) = le-ltb token to past ∙ sym (le-ltb token (to + 1) (omega (arith, past, apart)))

-- where the end is before the beginning, none is between
pub all-between : (from to end token : ℕ) → end ≤ to → (to ≡ from) ⊎ (to ≤ end) → is_between from to token ≡ is_between from end token
all-between from to end token reached (inr same) = ap (λ (n : ℕ). is_between from n token) (omega (arith, reached, same))
all-between from to end token reached (inl same) = ap (λ (n : ℕ). is_between from n token) same ∙ none-between from token ∙ sym (by (cases_lt token end))
  where
    by : (token < end) ⊎ (end ≤ token) → (nat_le from token && nat_lt token end) ≡ false
    by (inl less) = ap (λ b. b && nat_lt token end) (lt-leb from token (omega (arith, less, reached, same)))
    by (inr past) = ap (λ b. nat_le from token && b) (le-ltb token end past) ∙ and-false (nat_le from token)

-- one occurrence more
pub not-either : (o t r : Bool) → ((o && not t) && not r) ≡ (o && not (t || r))
not-either true true r = refl
not-either true false r = refl
not-either false t r = refl

module _ (occurrences : List Occurrence) (index first size : ℕ) (d : Occurrence) (old given new : List Bool) (own : ℕ → Bool) (inside : index < length occurrences)
    (whole : size ≡ length old) (is : given ≡ old) (long : length new ≡ length given) where
  pub back : take size (new ++ drop (length new) old) ≡ new
  back = take_at new (drop (length new) old) size (omega (arith, whole, long, ap length is))

  pub occurrence-step : ((at : ℕ) → at < length given → get_or new at false ≡ (get_or given at false && not (has_token (first + at) (get_or occurrences index d).span)))
      → ((at : ℕ) → at < length old → (get_or old at false && not (is_in_one (drop index occurrences) (first + at))) ≡ own (first + at))
      → (at : ℕ) → at < length (take size (new ++ drop (length new) old))
      → (get_or (take size (new ++ drop (length new) old)) at false && not (is_in_one (drop (index + 1) occurrences) (first + at))) ≡ own (first + at)
  occurrence-step left_out so_far at below =
      let one = get_or occurrences index d in
      let rest = is_in_one (drop (index + 1) occurrences) (first + at) in
      let within : at < length given = omega (arith, below, ap length back, long) in
      let before : at < length old = omega (arith, within, ap length is) in
      let first_in : is_in_one (drop index occurrences) (first + at) ≡ (has_token (first + at) one.span || rest) =
      at_drop_more (λ (all : List Occurrence). is_in_one all (first + at)) occurrences index d inside in
      ap (λ (marks : List Bool). get_or marks at false && not rest) back
      ∙ ap (λ b. b && not rest) (left_out at within)
      ∙ ap (λ (marks : List Bool). (get_or marks at false && not (has_token (first + at) one.span)) && not rest) is
      ∙ not-either (get_or old at false) (has_token (first + at) one.span) rest
      ∙ sym (ap (λ b. get_or old at false && not b) first_in) ∙ so_far at before
