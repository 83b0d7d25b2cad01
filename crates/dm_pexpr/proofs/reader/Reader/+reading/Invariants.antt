-- The depth falls with each expression, list of specifiers and declarator that is read within another. At one depth a function calls those
-- that are counted lower here. Of a loop over a list the parts so far, put in front of what is read behind them, are the whole list.
use Rattle.std.proofs.Common.{◌≡◌, ◌+◌, ◌*◌, ℕ, List, Option, map}
use Rattle.dm_syn.specs.declared.declared.Declared.{Declared}
use Rattle.dm_syn.specs.Grammar.{no_type}
use Rattle.dm_syn.specs.Trees as tree
use Rattle.dm_syn.specs.Views as view
use Rattle.dm_pexpr.specs.Parsing.{lower, all_turns, more_exprs, more_declarators, more_enumerators, more_parameters, members_of, words_of, prepend_expr, prepend_declarator, prepend_enumerator, prepend_parameter, prepend_member, prepend_word}
use Rattle.dm_pexpr.specs.Shapes.{types_of}
use Rattle.dm_pexpr.specs.Parts.{source_of, IsPart, Gives, an_expr, a_direct, a_declarator, an_enumerator, a_parameter, a_member, a_specifier, exprs_from, declarators_from, enumerators_from, parameters_from, members_from, words_from, behind_all}
use Rattle.dm_pexpr.proofs.ListLemmas.{SoFar}
use Rattle.dm_pexpr.proofs.ReadExprs.{GrowsFrom}
use Rattle.dm_pexpr.proofs.ReadDeclarators.{SuffixedFrom}
use Rattle.dm_pexpr.proofs.reader.Reader.+reading.Given as goal

abbrev pub decreases-expr : goal.decreases-expr
decreases-expr l = 8 * l.depth

abbrev pub decreases-specifiers : goal.decreases-specifiers
decreases-specifiers l = 8 * l.depth

abbrev pub decreases-declarator : goal.decreases-declarator
decreases-declarator l = 8 * l.depth

abbrev pub decreases-type_name : goal.decreases-type_name
decreases-type_name l = 8 * l.depth + 1

abbrev pub decreases-cast_behind : goal.decreases-cast_behind
decreases-cast_behind l = 8 * l.depth + 1

abbrev pub decreases-enclosed : goal.decreases-enclosed
decreases-enclosed l = 8 * l.depth + 2

abbrev pub decreases-measured : goal.decreases-measured
decreases-measured l = 8 * l.depth + 2

abbrev pub decreases-prefixed : goal.decreases-prefixed
decreases-prefixed l = 8 * l.depth + 1

abbrev pub decreases-front : goal.decreases-front
decreases-front l = 8 * l.depth + 3

abbrev pub decreases-arguments : goal.decreases-arguments
decreases-arguments l = 8 * l.depth + 2

abbrev pub decreases-more_exprs : goal.decreases-more_exprs
decreases-more_exprs l = 8 * l.depth + 1

abbrev pub decreases-comma : goal.decreases-comma
decreases-comma l = 8 * l.depth + 2

abbrev pub decreases-conditional : goal.decreases-conditional
decreases-conditional l = 8 * l.depth + 1

abbrev pub decreases-operated : goal.decreases-operated
decreases-operated l = 8 * l.depth + 1

abbrev pub decreases-turn : goal.decreases-turn
decreases-turn l = 8 * l.depth + 3

abbrev pub decreases-grown : goal.decreases-grown
decreases-grown l = 8 * l.depth + 4

abbrev pub decreases-core : goal.decreases-core
decreases-core l = 8 * l.depth + 1

abbrev pub decreases-array : goal.decreases-array
decreases-array l = 8 * l.depth + 1

abbrev pub decreases-parameter : goal.decreases-parameter
decreases-parameter l = 8 * l.depth + 1

abbrev pub decreases-more_parameters : goal.decreases-more_parameters
decreases-more_parameters l = 8 * l.depth + 2

abbrev pub decreases-parameters : goal.decreases-parameters
decreases-parameters l = 8 * l.depth + 3

abbrev pub decreases-function : goal.decreases-function
decreases-function l = 8 * l.depth + 4

abbrev pub decreases-behind_direct : goal.decreases-behind_direct
decreases-behind_direct l = 8 * l.depth + 5

abbrev pub decreases-suffixed : goal.decreases-suffixed
decreases-suffixed l = 8 * l.depth + 6

abbrev pub decreases-more_declarators : goal.decreases-more_declarators
decreases-more_declarators l = 8 * l.depth + 1

abbrev pub decreases-member_at : goal.decreases-member_at
decreases-member_at l = 8 * l.depth + 2

abbrev pub decreases-members : goal.decreases-members
decreases-members l = 8 * l.depth + 3

abbrev pub decreases-structure : goal.decreases-structure
decreases-structure l = 8 * l.depth + 4

abbrev pub decreases-enumerator : goal.decreases-enumerator
decreases-enumerator l = 8 * l.depth + 1

abbrev pub decreases-more_enumerators : goal.decreases-more_enumerators
decreases-more_enumerators l = 8 * l.depth + 2

abbrev pub decreases-enumeration : goal.decreases-enumeration
decreases-enumeration l = 8 * l.depth + 3

abbrev pub decreases-specifier : goal.decreases-specifier
decreases-specifier l = 8 * l.depth + 5

abbrev pub decreases-words : goal.decreases-words
decreases-words l = 8 * l.depth + 6

abbrev pub invariant-more_exprs-loop-turns : goal.invariant-more_exprs-loop-turns
invariant-more_exprs-loop-turns l =
    (before : List Declared) (start : ℕ) (read : Option tree.Exprs) → IsPart (exprs_from (source_of l.self) start) (source_of l.self) before l.fn.scope l.fn.parts read
    → SoFar (λ _. an_expr (source_of l.self)) (exprs_from (source_of l.self)) prepend_expr (source_of l.self) start before l.scope l.parts
    (behind_all prepend_expr (map view.expr l.fn.parts.tree) (more_exprs (source_of l.self) (lower (source_of l.self) l.depth) (all_turns (source_of l.self)) l.fn.scope l.fn.parts.after))
    (more_exprs (source_of l.self) (lower (source_of l.self) l.depth) l.turns l.scope l.parts.after)

abbrev pub decreases-more_exprs-loop-turns : goal.decreases-more_exprs-loop-turns
decreases-more_exprs-loop-turns l = l.turns

abbrev pub invariant-more_declarators-loop-turns : goal.invariant-more_declarators-loop-turns
invariant-more_declarators-loop-turns l =
    (before : List Declared) (start : ℕ) (read : Option tree.Declarators) → IsPart (declarators_from (source_of l.self) start) (source_of l.self) before l.fn.scope l.fn.declarators read
    → SoFar (λ _. a_declarator (source_of l.self)) (declarators_from (source_of l.self)) prepend_declarator (source_of l.self) start before l.scope l.declarators
    (behind_all prepend_declarator (map view.declarator l.fn.declarators.tree) (more_declarators (source_of l.self) (lower (source_of l.self) l.depth) (all_turns (source_of l.self)) l.fn.scope l.fn.declarators.after))
    (more_declarators (source_of l.self) (lower (source_of l.self) l.depth) l.turns l.scope l.declarators.after)

abbrev pub decreases-more_declarators-loop-turns : goal.decreases-more_declarators-loop-turns
decreases-more_declarators-loop-turns l = l.turns

abbrev pub invariant-more_enumerators-loop-turns : goal.invariant-more_enumerators-loop-turns
invariant-more_enumerators-loop-turns l =
    (before : List Declared) (start : ℕ) (read : Option tree.Enumerators) → IsPart (enumerators_from (source_of l.self) start) (source_of l.self) before l.fn.scope l.fn.enumerators read
    → SoFar (λ _. an_enumerator (source_of l.self)) (enumerators_from (source_of l.self)) prepend_enumerator (source_of l.self) start before l.scope l.enumerators
    (behind_all prepend_enumerator (map view.enum_item l.fn.enumerators.tree) (more_enumerators (source_of l.self) (lower (source_of l.self) l.depth) (all_turns (source_of l.self)) l.fn.scope l.fn.enumerators.after))
    (more_enumerators (source_of l.self) (lower (source_of l.self) l.depth) l.turns l.scope l.enumerators.after)

abbrev pub decreases-more_enumerators-loop-turns : goal.decreases-more_enumerators-loop-turns
decreases-more_enumerators-loop-turns l = l.turns

abbrev pub invariant-more_parameters-loop-turns : goal.invariant-more_parameters-loop-turns
invariant-more_parameters-loop-turns l =
    (before : List Declared) (start : ℕ) (read : Option tree.Parameters) → IsPart (parameters_from (source_of l.self) start) (source_of l.self) before l.fn.scope l.fn.parameters read
    → SoFar (λ _. a_parameter (source_of l.self)) (parameters_from (source_of l.self)) prepend_parameter (source_of l.self) start before l.scope l.parameters
    (behind_all prepend_parameter (map view.parameter l.fn.parameters.tree) (more_parameters (source_of l.self) (lower (source_of l.self) l.depth) (all_turns (source_of l.self)) l.fn.scope l.fn.parameters.after))
    (more_parameters (source_of l.self) (lower (source_of l.self) l.depth) l.turns l.scope l.parameters.after)

abbrev pub decreases-more_parameters-loop-turns : goal.decreases-more_parameters-loop-turns
decreases-more_parameters-loop-turns l = l.turns

abbrev pub invariant-members-loop-turns : goal.invariant-members-loop-turns
invariant-members-loop-turns l =
    SoFar (λ _. a_member (source_of l.self)) (members_from (source_of l.self)) prepend_member (source_of l.self) l.at l.fn.scope l.scope l.members
    (members_of (source_of l.self) (lower (source_of l.self) l.depth) (all_turns (source_of l.self)) l.fn.scope l.at) (members_of (source_of l.self) (lower (source_of l.self) l.depth) l.turns l.scope l.members.after)

abbrev pub decreases-members-loop-turns : goal.decreases-members-loop-turns
decreases-members-loop-turns l = l.turns

abbrev pub invariant-words-loop-types : goal.invariant-words-loop-types
invariant-words-loop-types l =
    SoFar (a_specifier (source_of l.self)) (words_from (source_of l.self)) prepend_word (source_of l.self) l.at l.fn.scope l.scope l.words
    (words_of (source_of l.self) (lower (source_of l.self) l.depth) (all_turns (source_of l.self)) l.fn.scope l.at no_type) (words_of (source_of l.self) (lower (source_of l.self) l.depth) l.turns l.scope l.words.after (types_of l.types))

abbrev pub decreases-words-loop-types : goal.decreases-words-loop-types
decreases-words-loop-types l = l.turns

abbrev pub invariant-grown-loop-symbol : goal.invariant-grown-loop-symbol
invariant-grown-loop-symbol l =
    (before : List Declared) (wanted : Option tree.Expr) → Gives (an_expr (source_of l.self)) (source_of l.self) before l.fn.scope l.fn.front wanted
    → GrowsFrom (source_of l.self) (lower (source_of l.self) l.depth) l.least before l.scope l.left wanted l.turns

abbrev pub decreases-grown-loop-symbol : goal.decreases-grown-loop-symbol
decreases-grown-loop-symbol l = l.turns

abbrev pub invariant-suffixed-loop-is_array : goal.invariant-suffixed-loop-is_array
invariant-suffixed-loop-is_array l =
    (before : List Declared) (start : ℕ) (wanted : Option tree.Direct) → Gives (a_direct (source_of l.self) start) (source_of l.self) before l.fn.scope l.fn.core wanted
    → SuffixedFrom (source_of l.self) (lower (source_of l.self) l.depth) start before l.scope l.direct wanted l.turns

abbrev pub decreases-suffixed-loop-is_array : goal.decreases-suffixed-loop-is_array
decreases-suffixed-loop-is_array l = l.turns
