-- All parts of an expression are expressions.
use Rattle.std.specs.Prelude.{◌≡◌, Bool, true, false, not, MatchBool, IsTrue, List, [], ◌∷◌, All, refl}
use Rattle.std.proofs.Common.{sym, subst}
use Rattle.std.proofs.lemmas.Bool.{and_parts}
use Rattle.std.proofs.lemmas.List.Elements.{All-head, All-tail}
use Rattle.dm_type.specs.CTypes.{CType, CTypes, void, function as function_type, no_types, more_types}
use Rattle.dm_tree.specs.declared.tree.Sign.TheVariants as s
use Rattle.dm_tree.specs.Operands.{FitParameters, FitsCall}
use Rattle.dm_tree.specs.Scenes.{Scene, designates, is_lvalue, are_lvalues, IsLvalue, IsValue, IsConstant}
use Rattle.dm_tree.specs.Trees.{Label, Tree, node, no_trees, label_of, is_statement}
use Rattle.dm_tree.specs.Trees as label
use Rattle.dm_tree.specs.Typing.{FitsStatement, FitsExpression, Fits}

abbrev pub IsExpression : Tree → Type 0
IsExpression tree = IsTrue (not (is_statement (label_of tree)))

abbrev pub AreExpressions : List Tree → Type 0
AreExpressions [] = Unit {0}
AreExpressions (first ∷ rest) = IsExpression first × AreExpressions rest

pub value-expression : (tree : Tree) → IsValue tree → IsExpression tree
value-expression tree h = (and_parts (not (is_lvalue tree)) (not (is_statement (label_of tree))) h).1

designating : (form : Label) (parts : List Bool) → designates form parts ≡ true → not (is_statement form) ≡ true
designating (label.object number) parts h = refl
designating (label.literal bytes unit) parts h = refl
designating label.follow parts h = refl
designating (label.member n) parts h = refl
designating form parts h = absurd (cc)

pub lvalue-expression : (tree : Tree) → IsLvalue tree → IsExpression tree
lvalue-expression (node form kind spans parts) h = designating form (are_lvalues parts) h

pub constants-expressions : (scene : Scene) (all : List Tree) → All (IsConstant scene) all → AreExpressions all
constants-expressions scene [] h = tt
constants-expressions scene (first ∷ rest) h =
    (value-expression first (All-head (IsConstant scene) first rest h).0, constants-expressions scene rest (All-tail (IsConstant scene) first rest h))

arguments-expressions : (all : List Tree) (types : CTypes) → FitParameters all types → AreExpressions all
arguments-expressions [] no_types h = tt
arguments-expressions (first ∷ rest) (more_types type types) h = (value-expression first h.0, arguments-expressions rest types h.2)
arguments-expressions all types h = absurd h

call-expressions : (type : CType) (arguments : List Tree) (kind : CType) → FitsCall type arguments kind → AreExpressions arguments
call-expressions (function_type result types) arguments kind h = arguments-expressions arguments types h.0
call-expressions type arguments kind h = absurd h

pub expressions-in : (scene : Scene) (form : Label) (kind : CType) (parts : List Tree) → FitsExpression scene form kind parts → AreExpressions parts
expressions-in scene (label.number value) kind [] h = tt
expressions-in scene (label.enumerator number) kind [] h = tt
expressions-in scene (label.literal bytes unit) kind [] h = tt
expressions-in scene (label.object number) kind [] h = tt
expressions-in scene (label.function number) kind [] h = tt
expressions-in scene label.read kind (a ∷ []) h = (lvalue-expression a h.0, tt)
expressions-in scene label.decay kind (a ∷ []) h = (lvalue-expression a h.0, tt)
expressions-in scene label.convert kind (a ∷ lengths) h = (value-expression a h.0, constants-expressions scene lengths h.2)
expressions-in scene label.address kind (a ∷ []) h = (lvalue-expression a h.0, tt)
expressions-in scene label.follow kind (a ∷ []) h = (value-expression a h.0, tt)
expressions-in scene (label.member n) kind (a ∷ []) h = (h.0, tt)
expressions-in scene (label.unary s.Not) kind (a ∷ []) h = (value-expression a h.0.0, tt)
expressions-in scene (label.unary sign) kind (a ∷ []) h = (value-expression a h.0, tt)
expressions-in scene (label.binary op) kind (a ∷ b ∷ []) h = (value-expression a h.0, (value-expression b h.1, tt))
expressions-in scene label.both kind (a ∷ b ∷ []) h = (value-expression a h.0.0, (value-expression b h.1.0, tt))
expressions-in scene label.either kind (a ∷ b ∷ []) h = (value-expression a h.0.0, (value-expression b h.1.0, tt))
expressions-in scene label.choose kind (a ∷ b ∷ c ∷ []) h = (value-expression a h.0.0, (value-expression b h.1, (value-expression c h.2, tt)))
expressions-in scene label.comma kind (a ∷ b ∷ []) h = (value-expression a h.0, (value-expression b h.1, tt))
expressions-in scene label.store kind (a ∷ b ∷ []) h = (lvalue-expression a h.0.0, (value-expression b h.1, tt))
expressions-in scene (label.update op works) kind (a ∷ b ∷ []) h = (lvalue-expression a h.0.0, (value-expression b h.1, tt))
expressions-in scene (label.count plus before) kind (a ∷ []) h = (lvalue-expression a h.0.0, tt)
expressions-in scene label.call kind (node (label.function number) type spans no_trees ∷ arguments) h = (refl, call-expressions type arguments kind h)
expressions-in scene label.sizeof_tree kind (a ∷ []) h = (h.0, tt)
expressions-in scene (label.sizeof_kind type) kind lengths h = constants-expressions scene lengths h.1
expressions-in scene form kind parts h = absurd h

-- ---- an expression's node fits as an expression

no-truth : (test : Bool) → not test ≡ true → test ≡ false
no-truth true h = absurd (cc)
no-truth false h = refl

pub fits-expression : (scene : Scene) (form : Label) (kind : CType) (parts : List Tree) → not (is_statement form) ≡ true
    → Fits scene form kind parts → FitsExpression scene form kind parts
fits-expression scene form kind parts is h =
    subst (λ test. MatchBool test (FitsStatement scene form parts × (kind ≡ void)) (FitsExpression scene form kind parts)) (no-truth (is_statement form) is) h

pub expression-fits : (scene : Scene) (form : Label) (kind : CType) (parts : List Tree) → not (is_statement form) ≡ true
    → FitsExpression scene form kind parts → Fits scene form kind parts
expression-fits scene form kind parts is h =
    subst (λ test. MatchBool test (FitsStatement scene form parts × (kind ≡ void)) (FitsExpression scene form kind parts)) (sym (no-truth (is_statement form) is)) h
