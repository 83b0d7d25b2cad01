use Rattle.std.proofs.Common.{◌≡◌, drop, map, max}
use Rattle.dm_syn.specs.Heights as height
use Rattle.dm_syn.specs.Views as view
use Rattle.dm_syn.specs.Capped.{capped}
use Rattle.dm_syn.proofs.heights.+expression_heights.Given as goal

-- the highest so far and the highest of the rest are the highest
abbrev pub invariant-exprs_height-loop-expr : goal.invariant-exprs_height-loop-expr
invariant-exprs_height-loop-expr l = max l.greatest (capped (height.exprs_height (view.exprs (map view.expr (drop l.expr-index l.exprs))))) ≡ capped (height.exprs_height (view.exprs (map view.expr l.exprs)))

-- the highest so far and the highest of the rest are the highest
abbrev pub invariant-highest_word-loop-word : goal.invariant-highest_word-loop-word
invariant-highest_word-loop-word l = max l.greatest (capped (height.highest_word (view.words (map view.specifier (drop l.word-index l.words))))) ≡ capped (height.highest_word (view.words (map view.specifier l.words)))

-- the highest so far and the highest of the rest are the highest
abbrev pub invariant-members_height-loop-member : goal.invariant-members_height-loop-member
invariant-members_height-loop-member l = max l.greatest (capped (height.members_height (view.members (map view.member_form (drop l.member-index l.members))))) ≡ capped (height.members_height (view.members (map view.member_form l.members)))

-- the highest so far and the highest of the rest are the highest
abbrev pub invariant-declarators_height-loop-declarator : goal.invariant-declarators_height-loop-declarator
invariant-declarators_height-loop-declarator l = max l.greatest (capped (height.declarators_height (view.declarators (map view.declarator (drop l.declarator-index l.declarators))))) ≡ capped (height.declarators_height (view.declarators (map view.declarator l.declarators)))

-- the highest so far and the highest of the rest are the highest
abbrev pub invariant-enumerators_height-loop-enumerator : goal.invariant-enumerators_height-loop-enumerator
invariant-enumerators_height-loop-enumerator l = max l.greatest (capped (height.enumerators_height (view.enumerators (map view.enum_item (drop l.enumerator-index l.enumerators))))) ≡ capped (height.enumerators_height (view.enumerators (map view.enum_item l.enumerators)))

-- the highest so far and the highest of the rest are the highest
abbrev pub invariant-parameters_height-loop-parameter : goal.invariant-parameters_height-loop-parameter
invariant-parameters_height-loop-parameter l = max l.greatest (capped (height.parameters_height (view.parameters (map view.parameter (drop l.parameter-index l.parameters))))) ≡ capped (height.parameters_height (view.parameters (map view.parameter l.parameters)))
