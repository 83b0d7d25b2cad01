use Rattle.std.proofs.Common.{suc, List, ◌∷◌, option_map, inl, inr, sym, ap, ◌∙◌}
use Rattle.dm_parentheses.specs.declared.sign.Sign.{Sign}
use Rattle.dm_parentheses.specs.Parentheses.{before_end}
use Rattle.dm_parentheses.proofs.JumpLemmas.{index_from-zero, before_end-closing, before_end-comma, before_end-other, before_end-opening}
use Rattle.dm_parentheses.proofs.ends.Ends.distance_from.Goals as goal

pub returns-in-Closing : goal.returns-in-Closing
returns-in-Closing c =
    let signs : List Sign = c.args.self.now in
    elim c.in-Closing.is [
      | inl is ↦ before_end-closing signs ∙ ap (λ sign. before_end 0 (sign ∷ signs)) (sym is)
      | inr is ↦ before_end-comma signs ∙ ap (λ sign. before_end 0 (sign ∷ signs)) (sym is)
    ]

pub returns-in-Other : goal.returns-in-Other
returns-in-Other c =
    let signs : List Sign = c.args.self.now in
    c.one_more.ensures
    ∙ ap (option_map (λ count. suc count)) (c.end_inside.ensures.is ∙ index_from-zero (before_end 0 signs))
    ∙ before_end-other signs
    ∙ ap (λ sign. before_end 0 (sign ∷ signs)) (sym c.in-Other.is)

pub returns-in-Opening : goal.returns-in-Opening
returns-in-Opening c =
    let signs : List Sign = c.args.self.now in
    c.one_more-in-Opening.ensures
    ∙ ap (option_map (λ count. suc count)) c.end_behind_opening.ensures.is
    ∙ before_end-opening signs
    ∙ ap (λ sign. before_end 0 (sign ∷ signs)) (sym c.in-Opening.is)
