-- Well-typed trees: no statement is in an expression, or in the full expressions of a statement.
--     typed-expression      of an expression
--     typed-whole      of a statement
--     typed-declared      of the expressions that declarators have
use Rattle.std.specs.Prelude.{◌≡◌, ℕ, zero, suc, Bool, true, false, not, ◌&&◌, MatchBool, List, [], ◌∷◌, take, drop, All, Option, Some, None, IsSome, IfSome, slice_get, refl}
use Rattle.std.proofs.Common.{sym, subst}
use Rattle.std.proofs.lemmas.Bool.{and_from}
use Rattle.std.proofs.lemmas.List.Elements.{All-head, All-tail}
use Rattle.dm_type.specs.CTypes.{CType, void, array}
use Rattle.dm_tree.proofs.ExpressionLemmas.{IsExpression, AreExpressions, value-expression, constants-expressions, expressions-in, fits-expression}
use Rattle.dm_tree.specs.Initialisers.{is_fixed, targets, Initialises, AllInitialise, InitialiserFits, FitsEntry, expressions_of, DeclaratorsFit}
use Rattle.dm_tree.specs.Scenes.{Scene, IsValue, IsStatement}
use Rattle.dm_tree.specs.Trees.{Declarator, Initialiser, Label, Tree, Trees, node, no_trees, more_trees, label_of, listed, is_statement}
use Rattle.dm_tree.specs.Trees as label
use Rattle.dm_tree.specs.TypeNumbers.{all_pass}
use Rattle.dm_tree.specs.Typing.{IsStart, FitsLoop, FitsStatement, FitsExpression, Fits, inside, IsWellTyped, AreWellTyped}
use Rattle.dm_tree.specs.Units.{Declaration}
use Rattle.dm_meaning.specs.Wholes.{is_expression, are_expressions, all_expressions, is_whole_start, loop_whole, whole_by, is_whole, are_whole}

-- ---- expressions

mutual
  pub typed-expression : (scene : Scene) (tree : Tree) → IsWellTyped scene tree → IsExpression tree → is_expression tree ≡ true
  typed-expression scene (node form kind spans parts) h is =
      and_from (not (is_statement form)) (are_expressions parts) is
      (typed-expressions (inside scene form (listed parts)) parts h.1 (expressions-in scene form kind (listed parts) (fits-expression scene form kind (listed parts) is h.0)))

  pub typed-expressions : (scene : Scene) (parts : Trees) → AreWellTyped scene parts → AreExpressions (listed parts) → are_expressions parts ≡ true
  typed-expressions scene no_trees h are = refl
  typed-expressions scene (more_trees first rest) h are =
      and_from (is_expression first) (are_expressions rest) (typed-expression scene first h.0 are.0) (typed-expressions scene rest h.1 are.1)

-- ---- what declarators have

initialises-expression : (scene : Scene) (fixed : Bool) (type : CType) (tree : Tree) → Initialises scene fixed type tree → IsExpression tree
initialises-expression scene fixed (array type (Some many)) (node (label.literal bytes unit) kind spans parts) h = refl
initialises-expression scene fixed (array type (Some many)) (node form kind spans parts) h = value-expression (node form kind spans parts) h.0
initialises-expression scene fixed type tree h = value-expression tree h.0

all-expressions : (scene : Scene) (fixed : Bool) (types : List CType) (trees : List Tree) → AllInitialise scene fixed types trees → AreExpressions trees
all-expressions scene fixed [] [] h = tt
all-expressions scene fixed (type ∷ types) (tree ∷ trees) h = (initialises-expression scene fixed type tree h.0, all-expressions scene fixed types trees h.1)
all-expressions scene fixed types trees h = absurd h

targets-expressions : (scene : Scene) (fixed : Bool) (types : Option (List CType)) (trees : List Tree) → IfSome types (λ all. AllInitialise scene fixed all trees) → IsSome types → AreExpressions trees
targets-expressions scene fixed None trees h is = absurd (cc)
targets-expressions scene fixed (Some types) trees h is = all-expressions scene fixed types trees h

initialiser-expressions : (scene : Scene) (entry : Declaration) (defines : Bool) (one : Option Initialiser) (trees : List Tree) → InitialiserFits scene entry defines one trees → AreExpressions trees
initialiser-expressions scene entry defines None trees h = subst AreExpressions (sym h) tt
initialiser-expressions scene entry defines (Some one) trees h = targets-expressions scene (is_fixed entry.sort) (targets scene.types entry.kind one) trees h.1 h.2

entry-expressions : (scene : Scene) (one : Declarator) (trees : List Tree) (entry : Option Declaration) → IfSome entry (FitsEntry scene one trees) → IsSome entry → AreExpressions trees
entry-expressions scene one trees None h is = absurd (cc)
entry-expressions scene one trees (Some entry) h is = initialiser-expressions scene entry one.defines one.initialiser trees h.1

both-ends : (n : ℕ) (trees : List Tree) → AreExpressions (take n trees) → AreExpressions (drop n trees) → AreExpressions trees
both-ends n [] front behind = tt
both-ends zero (first ∷ rest) front behind = behind
both-ends (suc n) (first ∷ rest) front behind = (front.0, both-ends n rest front.1 behind)

pub declared-expressions : (scene : Scene) (declarators : List Declarator) (trees : List Tree) → DeclaratorsFit scene declarators trees → AreExpressions trees
declared-expressions scene [] trees h = subst AreExpressions (sym h) tt
declared-expressions scene (one ∷ more) trees h =
    both-ends (expressions_of one) trees (entry-expressions scene one (take (expressions_of one) trees) (slice_get scene.declared one.declared) h.0.0 h.0.1)
    (declared-expressions scene more (drop (expressions_of one) trees) h.1)

-- ---- statements

-- what is known of the parts
abbrev IsSound : Tree → Type 0
IsSound tree = (IsExpression tree → is_expression tree ≡ true) × (IsStatement tree → is_whole tree ≡ true)

abbrev AreSound : Trees → Type 0
AreSound no_trees = Unit {0}
AreSound (more_trees first rest) = IsSound first × AreSound rest

value-whole : (tree : Tree) → IsSound tree → IsValue tree → is_expression tree ≡ true
value-whole tree sound is = sound.0 (value-expression tree is)

all-whole : (parts : Trees) → AreSound parts → AreExpressions (listed parts) → all_expressions (listed parts) ≡ true
all-whole no_trees sound are = refl
all-whole (more_trees first rest) sound are = and_from (is_expression first) (all_expressions (listed rest)) (sound.0.0 are.0) (all-whole rest sound.1 are.1)

statements-whole : (parts : Trees) → AreSound parts → All IsStatement (listed parts) → all_pass (are_whole parts) ≡ true
statements-whole no_trees sound are = refl
statements-whole (more_trees first rest) sound are =
    and_from (is_whole first) (all_pass (are_whole rest)) (sound.0.1 (All-head IsStatement first (listed rest) are)) (statements-whole rest sound.1 (All-tail IsStatement first (listed rest) are))

start-whole : (tree : Tree) → IsSound tree → IsStart tree → is_whole_start tree ≡ true
start-whole (node (label.declare lengths declarators) kind spans parts) sound is = sound.1 refl
start-whole (node form kind spans parts) sound is = value-whole (node form kind spans parts) sound is

one-whole : (tree : Tree) → IsSound tree → IsStatement tree → (is_whole tree && true) ≡ true
one-whole tree sound is = and_from (is_whole tree) true (sound.1 is) refl

loop-whole : (first second third : Bool) (parts : Trees) → AreSound parts → FitsLoop first second third (listed parts) → loop_whole first second third (listed parts) (are_whole parts) ≡ true
loop-whole true second third (more_trees start parts) sound h =
    and_from (is_whole_start start) (loop_whole false second third (listed parts) (are_whole parts)) (start-whole start sound.0 h.0) (loop-whole false second third parts sound.1 h.1)
loop-whole false true third (more_trees condition parts) sound h =
    and_from (is_expression condition) (loop_whole false false third (listed parts) (are_whole parts)) (value-whole condition sound.0 h.0.0) (loop-whole false false third parts sound.1 h.1)
loop-whole false false true (more_trees last parts) sound h =
    and_from (is_expression last) (loop_whole false false false (listed parts) (are_whole parts)) (value-whole last sound.0 h.0) (loop-whole false false false parts sound.1 h.1)
loop-whole false false false (more_trees body no_trees) sound h = one-whole body sound.0 h
loop-whole first second third parts sound h = absurd h

by-form : (scene : Scene) (form : Label) (parts : Trees) → AreSound parts → FitsStatement scene form (listed parts) → whole_by form (listed parts) (are_whole parts) ≡ true
by-form scene label.block parts sound h = statements-whole parts sound h
by-form scene (label.declare lengths declarators) parts sound h =
    all-whole parts sound (both-ends lengths (listed parts) (constants-expressions scene (take lengths (listed parts)) h.1) (declared-expressions scene declarators (drop lengths (listed parts)) h.2))
by-form scene label.full (more_trees a no_trees) sound h = and_from (is_expression a) true (value-whole a sound.0 h) refl
by-form scene label.empty no_trees sound h = refl
by-form scene label.if_statement (more_trees a (more_trees b no_trees)) sound h =
    and_from (is_expression a) (is_whole b && true) (value-whole a sound.0 h.0.0) (one-whole b sound.1.0 h.1)
by-form scene label.if_statement (more_trees a (more_trees b (more_trees c no_trees))) sound h =
    and_from (is_expression a) (is_whole b && (is_whole c && true)) (value-whole a sound.0 h.0.0)
    (and_from (is_whole b) (is_whole c && true) (sound.1.0.1 h.1) (one-whole c sound.1.1.0 h.2))
by-form scene label.switch (more_trees a items) sound h =
    and_from (is_expression a) (all_pass (are_whole items)) (value-whole a sound.0 h.0) (statements-whole items sound.1 h.4)
by-form scene label.case (more_trees a (more_trees b no_trees)) sound h =
    and_from (is_expression a) (is_whole b && true) (value-whole a sound.0 h.2.0) (one-whole b sound.1.0 h.3)
by-form scene label.default (more_trees a no_trees) sound h = one-whole a sound.0 h.1
by-form scene label.while_loop (more_trees a (more_trees b no_trees)) sound h =
    and_from (is_expression a) (is_whole b && true) (value-whole a sound.0 h.0.0) (one-whole b sound.1.0 h.1)
by-form scene label.do_loop (more_trees a (more_trees b no_trees)) sound h =
    and_from (is_whole a) (is_expression b && true) (sound.0.1 h.0) (and_from (is_expression b) true (value-whole b sound.1.0 h.1.0) refl)
by-form scene (label.for_loop first second third) parts sound h = loop-whole first second third parts sound h
by-form scene label.break no_trees sound h = refl
by-form scene label.continue no_trees sound h = refl
by-form scene label.return no_trees sound h = refl
by-form scene label.return (more_trees value no_trees) sound h = and_from (is_expression value) true (value-whole value sound.0 h.0) refl
by-form scene form parts sound h = absurd h

pub statement-fits : (scene : Scene) (form : Label) (kind : CType) (parts : List Tree) → is_statement form ≡ true → Fits scene form kind parts → FitsStatement scene form parts
statement-fits scene form kind parts is h =
    (subst (λ test. MatchBool test (FitsStatement scene form parts × (kind ≡ void)) (FitsExpression scene form kind parts)) is h).0

mutual
  pub typed-whole : (scene : Scene) (tree : Tree) → IsWellTyped scene tree → IsStatement tree → is_whole tree ≡ true
  typed-whole scene (node form kind spans parts) h is =
      by-form scene form parts (typed-sound (inside scene form (listed parts)) parts h.1) (statement-fits scene form kind (listed parts) is h.0)

  typed-sound : (scene : Scene) (parts : Trees) → AreWellTyped scene parts → AreSound parts
  typed-sound scene no_trees h = tt
  typed-sound scene (more_trees first rest) h = ((λ is. typed-expression scene first h.0 is, λ is. typed-whole scene first h.0 is), typed-sound scene rest h.1)

-- ---- the expressions of declarators

pub typed-each : (scene : Scene) (trees : List Tree) → All (IsWellTyped scene) trees → AreExpressions trees → all_expressions trees ≡ true
typed-each scene [] typed are = refl
typed-each scene (first ∷ rest) typed are =
    and_from (is_expression first) (all_expressions rest) (typed-expression scene first (All-head (IsWellTyped scene) first rest typed) are.0)
    (typed-each scene rest (All-tail (IsWellTyped scene) first rest typed) are.1)

pub typed-declared : (scene : Scene) (declarators : List Declarator) (trees : List Tree) → All (IsWellTyped scene) trees → DeclaratorsFit scene declarators trees → all_expressions trees ≡ true
typed-declared scene declarators trees typed fit = typed-each scene trees typed (declared-expressions scene declarators trees fit)
