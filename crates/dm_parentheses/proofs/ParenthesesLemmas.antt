-- Where parentheses and arguments end: at which tokens, and what the first tokens of a list tell of it.
use Rattle.std.proofs.Common.{◌≡◌, ℕ, zero, suc, ◌<◌, Bool, true, false, ◌&&◌, ◌==◌, nat_lt, List, [], ◌∷◌, Option, None, Some, option_map, if◌then◌else◌, length, take, refl, sym, ap, ◌∙◌, arith}
use Rattle.dm_parentheses.specs.declared.sign.Sign.{Sign}
use Rattle.dm_parentheses.specs.Parentheses.{closes, ends, depth_behind, before_closing, before_end}

-- one token more in front
abbrev pub one_more : Option ℕ → Option ℕ
one_more rest = option_map (λ count. suc count) rest

-- a search stops here, or later
abbrev step : Bool → Option ℕ → Option ℕ
step here rest = if here then Some 0 else one_more rest

-- how many stand before the first token outside of parentheses at which a search stops
abbrev before_stop : (Sign → Bool) → ℕ → List Sign → Option ℕ
before_stop stops depth [] = None
before_stop stops depth (sign ∷ others) = step (stops sign && (depth == 0)) (before_stop stops (depth_behind depth sign) others)

before_end-before_stop : (depth : ℕ) (signs : List Sign) → before_end depth signs ≡ before_stop ends depth signs
unfolding before_end
before_end-before_stop depth [] = refl
before_end-before_stop depth (sign ∷ others) =
    ap (step (ends sign && (depth == 0))) (before_end-before_stop (depth_behind depth sign) others)

before_closing-before_stop : (depth : ℕ) (signs : List Sign) → before_closing depth signs ≡ before_stop closes depth signs
unfolding before_closing
before_closing-before_stop depth [] = refl
before_closing-before_stop depth (sign ∷ others) =
    ap (step (closes sign && (depth == 0))) (before_closing-before_stop (depth_behind depth sign) others)

-- what is found is in the list
step-inside : (here : Bool) (rest : Option ℕ) (n i : ℕ) → ((j : ℕ) → rest ≡ Some j → j < n) → step here rest ≡ Some i → i < suc n
step-inside true rest n i below is = let e : 0 ≡ i = cc in omega arith
step-inside false None n i below is = absurd (cc)
step-inside false (Some j) n i below is = let e : suc j ≡ i = cc in let lower = below j refl in omega arith

before_stop-inside : (stops : Sign → Bool) (depth : ℕ) (signs : List Sign) (i : ℕ) → before_stop stops depth signs ≡ Some i → i < length signs
before_stop-inside stops depth [] i is = absurd (cc)
before_stop-inside stops depth (sign ∷ others) i is =
    step-inside (stops sign && (depth == 0)) (before_stop stops (depth_behind depth sign) others) (length others) i (before_stop-inside stops (depth_behind depth sign) others) is

-- the end of an argument is in the list
pub before_end-inside : (depth : ℕ) (signs : List Sign) (i : ℕ) → before_end depth signs ≡ Some i → i < length signs
before_end-inside depth signs i is = before_stop-inside ends depth signs i (sym (before_end-before_stop depth signs) ∙ is)

-- the closing parenthesis is in the list
pub before_closing-inside : (depth : ℕ) (signs : List Sign) (i : ℕ) → before_closing depth signs ≡ Some i → i < length signs
before_closing-inside depth signs i is = before_stop-inside closes depth signs i (sym (before_closing-before_stop depth signs) ∙ is)

-- what is found among the first tokens alone
abbrev pub index_below : ℕ → Option ℕ → Option ℕ
index_below limit None = None
index_below limit (Some i) = if nat_lt i limit then Some i else None

index_below-zero : (rest : Option ℕ) → None ≡ index_below 0 rest
index_below-zero None = refl
index_below-zero (Some i) = grind arith

index_below-suc : (here : Bool) (k : ℕ) (rest : Option ℕ) → step here (index_below k rest) ≡ index_below (suc k) (step here rest)
index_below-suc true k rest = grind arith
index_below-suc false k None = refl
index_below-suc false k (Some i) = grind arith

before_stop-take : (stops : Sign → Bool) (depth k : ℕ) (signs : List Sign) → before_stop stops depth (take k signs) ≡ index_below k (before_stop stops depth signs)
before_stop-take stops depth zero signs = index_below-zero (before_stop stops depth signs)
before_stop-take stops depth (suc k) [] = refl
before_stop-take stops depth (suc k) (sign ∷ others) =
    ap (step (stops sign && (depth == 0))) (before_stop-take stops (depth_behind depth sign) k others)
    ∙ index_below-suc (stops sign && (depth == 0)) k (before_stop stops (depth_behind depth sign) others)

-- the end of an argument is where it was, if it is among the first tokens
pub before_end-take : (depth k : ℕ) (signs : List Sign) → before_end depth (take k signs) ≡ index_below k (before_end depth signs)
before_end-take depth k signs = before_end-before_stop depth (take k signs) ∙ before_stop-take ends depth k signs ∙ ap (index_below k) (sym (before_end-before_stop depth signs))

-- the same for the closing parenthesis
pub before_closing-take : (depth k : ℕ) (signs : List Sign) → before_closing depth (take k signs) ≡ index_below k (before_closing depth signs)
before_closing-take depth k signs = before_closing-before_stop depth (take k signs) ∙ before_stop-take closes depth k signs ∙ ap (index_below k) (sym (before_closing-before_stop depth signs))
