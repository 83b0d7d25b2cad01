-- What the typing of declarations and statements gives is well typed: the words in which the laws say so.
--     AllSound known trees      each tree is a well-typed expression where this is known
--     IsSoundInitial known initial      and so is each expression of an initialiser
--     IsSoundCondition known tree      a value is well typed, and such as a condition is; likewise for other expressions in statements
use Rattle.std.specs.Prelude.{◌≡◌, IsTrue, List, [], ◌∷◌, Some}
use Rattle.dm_int.specs.declared.Kind.{Kind}
use Rattle.dm_type.specs.CTypes.{CType, void, integer}
use Rattle.dm_tree.specs.Operands.{IsPromoted}
use Rattle.dm_tree.specs.Scenes.{is_scalar}
use Rattle.dm_tree.specs.Trees.{Tree, node, return, kind_of, listed}
use Rattle.dm_tree.specs.Typing.{FitsReturn}
use Rattle.dm_typing.specs.Known.{Known}
use Rattle.dm_typing.specs.Conversions.{constant_of}
use Rattle.dm_typing.specs.Sound.{IsSound, IsSoundValue}
use Rattle.dm_edecl.specs.Initialising.{Initial}
use Rattle.dm_edecl.specs.Statements.{Subject, CaseValue}

-- well-typed expressions in order
abbrev pub AllSound : Known → List Tree → Type 0
AllSound known [] = Unit {0}
AllSound known (tree ∷ trees) = IsSound known tree × AllSound known trees

-- the expressions of an initialiser are
abbrev pub IsSoundInitial : Known → Initial → Type 0
IsSoundInitial known initial = AllSound known initial.expressions

-- a condition is a scalar (6.8.4.1p1, 6.8.5p2)
abbrev pub IsSoundCondition : Known → Tree → Type 0
IsSoundCondition known tree = IsSoundValue known tree × IsTrue (is_scalar (kind_of tree))

-- the operand of a switch has a promoted kind (6.8.4.2p1, p5)
abbrev pub IsSoundSubject : Known → Subject → Type 0
IsSoundSubject known one = IsSoundValue known one.tree × (kind_of one.tree ≡ integer one.kind) × IsPromoted one.kind

-- the value of a `case` is a constant of that kind (6.8.4.2p3, p5)
abbrev pub IsSoundCase : Kind → Known → CaseValue → Type 0
IsSoundCase kind known one = IsSoundValue known one.tree × (kind_of one.tree ≡ integer kind) × (constant_of known one.tree ≡ Some one.value)

-- a `return` gives a value of the type of the function's result, or none where that is void (6.8.6.4p1)
abbrev pub IsSoundReturn : CType → Known → Tree → Type 0
IsSoundReturn result known (node return kind spans parts) = (kind ≡ void) × FitsReturn result (listed parts) × AllSound known (listed parts)
IsSoundReturn result known tree = ⊥
