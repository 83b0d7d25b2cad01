-- Objects of automatic storage duration that are set where they are named: their declarators give them a value, and each name stands behind
-- that, in the scope of the declaration (6.2.1p4, 6.7.9p11).
--     IsSettled needs scope tree      so in a tree, where these declarations are in scope
--     IsSettledProgram needs program      so in each function, where its parameters are in scope
use Rattle.std.specs.Prelude.{◌≡◌, ℕ, Bool, true, IsTrue, IsSome, List, [], ◌∷◌, ◌++◌, Option, Some, None}
use Rattle.dm_tree.specs.Trees.{Label, object, block, declare, switch, for_loop, Declarator, Tree, Trees, node, no_trees, more_trees}
use Rattle.dm_meaning.specs.Among.{IsAmong}
use Rattle.dm_meaning.specs.Programs.{Program, Definition, declaration_of}
use Rattle.dm_meaning.specs.Statements.{is_automatic_declaration}
use Rattle.dm_effect.specs.Scoped.{Scope, declared_by, scopes_of}

-- ---- trees

-- a name of such an object is that of one in scope
abbrev pub NameIsSettled : (ℕ → Bool) → Scope → Label → Type 0
NameIsSettled needs scope (object d) = needs d ≡ true → IsAmong d scope
NameIsSettled needs scope label = Unit {0}

-- a declarator of such an object defines it and gives it a value
abbrev pub GiveValues : (ℕ → Bool) → List Declarator → Type 0
GiveValues needs [] = Unit {0}
GiveValues needs (one ∷ others) = (needs one.declared ≡ true → IsTrue one.defines × IsSome one.initialiser) × GiveValues needs others

-- what the parts of a node declare
abbrev pub declared_in_parts : Trees → Scope
declared_in_parts no_trees = []
declared_in_parts (more_trees first rest) = declared_by first ++ declared_in_parts rest

-- no such object is declared again where it is in scope
abbrev pub AreNew : (ℕ → Bool) → Scope → Scope → Type 0
AreNew needs scope numbers = (d : ℕ) → needs d ≡ true → IsAmong d numbers → IsAmong d scope → ⊥

-- none is declared
abbrev pub AreOthers : (ℕ → Bool) → Scope → Type 0
AreOthers needs numbers = (d : ℕ) → needs d ≡ true → IsAmong d numbers → ⊥

-- the items of a `switch` declare none, since control may go behind them (6.8.4.2p4)
abbrev pub DeclaresSettled : (ℕ → Bool) → Scope → Label → Trees → Type 0
DeclaresSettled needs scope (declare lengths declarators) parts = GiveValues needs declarators
DeclaresSettled needs scope block parts = AreNew needs scope (declared_in_parts parts)
DeclaresSettled needs scope (for_loop first second third) parts = AreNew needs scope (declared_in_parts parts)
DeclaresSettled needs scope switch parts = AreOthers needs (declared_in_parts parts)
DeclaresSettled needs scope label parts = Unit {0}

abbrev mutual
  pub IsSettled : (ℕ → Bool) → Scope → Tree → Type 0
  IsSettled needs scope (node label kind spans parts) =
      NameIsSettled needs scope label × DeclaresSettled needs scope label parts × AreSettled needs (scopes_of scope label parts) parts

  -- each tree that has a scope
  pub AreSettled : (ℕ → Bool) → List (Option Scope) → Trees → Type 0
  AreSettled needs scopes no_trees = Unit {0}
  AreSettled needs [] (more_trees first rest) = Unit {0}
  AreSettled needs (None ∷ scopes) (more_trees first rest) = AreSettled needs scopes rest
  AreSettled needs (Some scope ∷ scopes) (more_trees first rest) = IsSettled needs scope first × AreSettled needs scopes rest

-- ---- programs

-- each of these objects is automatic, and each function is so where its parameters, which have the values of arguments, are in scope
pub record IsSettledProgram (needs : ℕ → Bool) (program : Program) : Type 0 where
  pub automatic : (d : ℕ) → needs d ≡ true → IsTrue (is_automatic_declaration (declaration_of program d))
  pub functions : (definition : Definition) → IsAmong definition program.functions → IsSettled needs definition.parameters definition.body
