-- Where parentheses and arguments end, from one end to the next.
use Rattle.std.proofs.Common.{◌≡◌, ℕ, zero, suc, ◌-◌, Bool, true, false, ◌&&◌, ◌==◌, cond, List, [], ◌∷◌, Option, None, Some, if◌then◌else◌, drop, refl, sym, ap, ◌∙◌, arith}
use Rattle.std.proofs.Math.Dec.{eqb-suc-zero}
use Rattle.dm_parentheses.specs.declared.sign.Sign.{Sign}
use Rattle.dm_parentheses.specs.declared.sign.Sign.TheVariants.{Opening, Closing, Comma, Other}
use Rattle.dm_parentheses.specs.Parentheses.{closes, ends, depth_behind, before_closing, before_end, index_from}
use Rattle.dm_parentheses.specs.Table.{closes_at}
use Rattle.dm_parentheses.proofs.ParenthesesLemmas.{one_more}

-- one token more in front
index_from-suc : (n : ℕ) (rest : Option ℕ) → one_more (index_from n rest) ≡ index_from (suc n) rest
index_from-suc n None = refl
index_from-suc n (Some count) = ap Some (omega arith)

-- an index from the first token on
pub index_from-zero : (rest : Option ℕ) → index_from 0 rest ≡ rest
index_from-zero None = refl
index_from-zero (Some count) = ap Some (omega arith)

-- among parentheses no search stops
no_stop : (here : Bool) (depth : ℕ) (rest : Option ℕ) → (if here && (suc depth == 0) then Some 0 else rest) ≡ rest
no_stop true depth rest = ap (λ b. cond b (Some 0) rest) (eqb-suc-zero depth)
no_stop false depth rest = refl

end-among : (depth : ℕ) (sign : Sign) (others : List Sign) → before_end (suc depth) (sign ∷ others) ≡ one_more (before_end (depth_behind (suc depth) sign) others)
unfolding before_end
end-among depth sign others = no_stop (ends sign) depth _

closing-among : (depth : ℕ) (sign : Sign) (others : List Sign) → before_closing (suc depth) (sign ∷ others) ≡ one_more (before_closing (depth_behind (suc depth) sign) others)
unfolding before_closing
closing-among depth sign others = no_stop (closes sign) depth _

-- the end from a token on, by what the token is
pub before_end-closing : (signs : List Sign) → Some 0 ≡ before_end 0 (Closing ∷ signs)
unfolding before_end ends
before_end-closing signs = refl

pub before_end-comma : (signs : List Sign) → Some 0 ≡ before_end 0 (Comma ∷ signs)
unfolding before_end ends
before_end-comma signs = refl

pub before_end-other : (signs : List Sign) → one_more (before_end 0 signs) ≡ before_end 0 (Other ∷ signs)
unfolding before_end ends depth_behind
before_end-other signs = refl

pub before_end-opening : (signs : List Sign) → one_more (before_end 1 signs) ≡ before_end 0 (Opening ∷ signs)
unfolding before_end ends depth_behind
before_end-opening signs = refl

-- the closing parenthesis, from the end of an argument on
abbrev pub behind_end : List Sign → Option ℕ → Option ℕ
behind_end signs None = None
behind_end signs (Some i) = if closes_at signs i then Some i else index_from (suc i) (before_closing 0 (drop (suc i) signs))

behind_end-suc : (sign : Sign) (others : List Sign) (rest : Option ℕ) → one_more (behind_end others rest) ≡ behind_end (sign ∷ others) (one_more rest)
behind_end-suc sign others None = refl
behind_end-suc sign others (Some i) =
    elim (closes_at others i) as (λ here. one_more (if here then Some i else index_from (suc i) (before_closing 0 (drop (suc i) others)))
    ≡ (if here then Some (suc i) else index_from (suc (suc i)) (before_closing 0 (drop (suc i) others)))) [
      | true ↦ refl
      | false ↦ index_from-suc (suc i) (before_closing 0 (drop (suc i) others))
    ]

-- the closing parenthesis is the end of an argument, or stands behind it
pub before_closing-jump : (depth : ℕ) (signs : List Sign) → before_closing depth signs ≡ behind_end signs (before_end depth signs)
unfolding before_closing before_end closes ends depth_behind
before_closing-jump depth [] = refl
before_closing-jump depth (Opening ∷ others) = ap one_more (before_closing-jump (suc depth) others) ∙ behind_end-suc Opening others (before_end (suc depth) others)
before_closing-jump depth (Other ∷ others) = ap one_more (before_closing-jump depth others) ∙ behind_end-suc Other others (before_end depth others)
before_closing-jump zero (Comma ∷ others) = ap one_more (sym (index_from-zero (before_closing 0 others))) ∙ index_from-suc 0 (before_closing 0 others)
before_closing-jump (suc depth) (Comma ∷ others) =
    ap one_more (before_closing-jump (suc depth) others)
    ∙ behind_end-suc Comma others (before_end (suc depth) others)
    ∙ ap (behind_end (Comma ∷ others)) (sym (end-among depth Comma others))
before_closing-jump zero (Closing ∷ others) = refl
before_closing-jump (suc depth) (Closing ∷ others) =
    closing-among depth Closing others
    ∙ ap one_more (before_closing-jump (suc depth - 1) others)
    ∙ behind_end-suc Closing others (before_end (suc depth - 1) others)
    ∙ ap (behind_end (Closing ∷ others)) (sym (end-among depth Closing others))

-- the end of an argument, from the closing parenthesis of a `(` in it on
abbrev pub behind_closing : List Sign → Option ℕ → Option ℕ
behind_closing signs None = None
behind_closing signs (Some i) = index_from (suc i) (before_end 0 (drop (suc i) signs))

behind_closing-suc : (sign : Sign) (others : List Sign) (rest : Option ℕ) → one_more (behind_closing others rest) ≡ behind_closing (sign ∷ others) (one_more rest)
behind_closing-suc sign others None = refl
behind_closing-suc sign others (Some i) = index_from-suc (suc i) (before_end 0 (drop (suc i) others))

-- among parentheses the end of an argument stands behind the closing one
pub before_end-jump : (depth : ℕ) (signs : List Sign) → before_end (suc depth) signs ≡ behind_closing signs (before_closing depth signs)
unfolding before_end before_closing closes ends depth_behind
before_end-jump depth [] = refl
before_end-jump depth (Opening ∷ others) = ap one_more (before_end-jump (suc depth) others) ∙ behind_closing-suc Opening others (before_closing (suc depth) others)
before_end-jump depth (Other ∷ others) = ap one_more (before_end-jump depth others) ∙ behind_closing-suc Other others (before_closing depth others)
before_end-jump depth (Comma ∷ others) =
    end-among depth Comma others
    ∙ ap one_more (before_end-jump depth others)
    ∙ behind_closing-suc Comma others (before_closing depth others)
before_end-jump zero (Closing ∷ others) = ap one_more (sym (index_from-zero (before_end 0 others))) ∙ index_from-suc 0 (before_end 0 others)
before_end-jump (suc depth) (Closing ∷ others) =
    end-among (suc depth) Closing others
    ∙ ap (λ d. one_more (before_end d others)) (omega arith)
    ∙ ap one_more (before_end-jump depth others)
    ∙ behind_closing-suc Closing others (before_closing depth others)
    ∙ ap (λ d. behind_closing (Closing ∷ others) (one_more (before_closing d others))) (omega arith)
    ∙ ap (behind_closing (Closing ∷ others)) (sym (closing-among depth Closing others))

-- the same from any token of a list on
behind_end-drop : (signs : List Sign) (from : ℕ) (rest : Option ℕ) → index_from from (behind_end (drop from signs) rest) ≡ behind_end signs (index_from from rest)
unfolding before_closing
behind_end-drop signs zero rest = index_from-zero (behind_end signs rest) ∙ ap (behind_end signs) (sym (index_from-zero rest))
behind_end-drop [] (suc from) None = refl
behind_end-drop [] (suc from) (Some i) = refl
behind_end-drop (sign ∷ others) (suc from) rest =
    sym (index_from-suc from (behind_end (drop from others) rest))
    ∙ ap one_more (behind_end-drop others from rest)
    ∙ behind_end-suc sign others (index_from from rest)
    ∙ ap (behind_end (sign ∷ others)) (index_from-suc from rest)

-- the closing parenthesis is the next end, or stands behind it
pub closing-step : (signs : List Sign) (from : ℕ) → index_from from (before_closing 0 (drop from signs)) ≡ behind_end signs (index_from from (before_end 0 (drop from signs)))
closing-step signs from =
    ap (index_from from) (before_closing-jump 0 (drop from signs)) ∙ behind_end-drop signs from (before_end 0 (drop from signs))
