-- What is typed is well typed in a scene that knows at least what was known: the words in which the laws say so.
--     InitialFits fixed type scene initial      an initialiser fits each type that covers this one
--     LocalFits scene local      a declarator fits, with its lengths and its initialiser; and so do declarations
--     StmtFits within scene tree      a statement is well typed within such a function and loops
use Rattle.std.specs.Prelude.{◌≡◌, ℕ, Bool, true, IsTrue, List, [], ◌∷◌, All, length, Some}
use Rattle.dm_type.specs.CTypes.{CType, bare}
use Rattle.dm_tree.specs.Composites.{covers}
use Rattle.dm_tree.specs.Initialisers.{targets, targets_of_items, AllInitialise, DeclaratorFits, DeclaratorsFit, expressions_of as expressions_in_declarator}
use Rattle.dm_tree.specs.Scenes.{Scene, IsConstant, IsStatement}
use Rattle.dm_tree.specs.Trees.{Tree, expressions_in, expressions_in_items}
use Rattle.dm_tree.specs.Typing.{IsWellTyped, AllWellTyped, labels_of}
use Rattle.dm_typing.specs.Sound.{IsProper}
use Rattle.dm_edecl.specs.Initialising.{Initial, Initials}
use Rattle.dm_edecl.specs.Declaring.{Local, Declared, declarators_of, expressions_of}
use Rattle.dm_edecl.specs.Statements.{Within}

-- ---- declarations

-- an initialiser of a type names parts, which its expressions initialise; the object's type covers that one
abbrev pub InitialFits : Bool → CType → Scene → Initial → Type 0
InitialFits fixed type scene initial =
    (length initial.expressions ≡ expressions_in initial.form)
    × ((whole : CType) → IsTrue (covers whole type)
    → (types : List CType) × (targets scene.types whole initial.form ≡ Some types) × AllInitialise scene fixed types initial.expressions)

-- likewise the items of a list, from a part on
abbrev pub InitialsFit : Bool → CType → ℕ → Scene → Initials → Type 0
InitialsFit fixed type n scene initials =
    (length initials.expressions ≡ expressions_in_items initials.forms)
    × ((whole : CType) → IsTrue (covers whole type)
    → (types : List CType) × (targets_of_items scene.types whole n initials.forms ≡ Some types) × AllInitialise scene fixed types initials.expressions)

-- the trees of lengths and enumerator values
abbrev pub AllConstants : Scene → List Tree → Type 0
AllConstants scene trees = AllWellTyped scene trees × All (IsConstant scene) trees

-- a declarator fits, with the expressions of its initialiser
abbrev pub DeclaresWell : Scene → Local → Type 0
DeclaresWell scene local =
    AllWellTyped scene local.expressions × DeclaratorFits scene local.declarator local.expressions
    × (length local.expressions ≡ expressions_in_declarator local.declarator)

abbrev pub LocalFits : Scene → Local → Type 0
LocalFits scene local = AllConstants scene local.constants × DeclaresWell scene local

abbrev pub LocalsFit : Scene → List Local → Type 0
LocalsFit scene [] = Unit {0}
LocalsFit scene (first ∷ others) = LocalFits scene first × LocalsFit scene others

abbrev pub DeclarationFits : Scene → Declared → Type 0
DeclarationFits scene one =
    AllConstants scene one.constants × AllWellTyped scene (expressions_of one.locals)
    × DeclaratorsFit scene (declarators_of one.locals) (expressions_of one.locals)

-- ---- statements

-- the result of a function has no const, and is proper
pub record IsSoundWithin (within : Within) : Type 0 where
  pub plain_result : within.result ≡ bare within.result
  pub proper : IsProper within.result

-- a scene within a function whose result covers that one, and within such loops
pub record StandsIn (within : Within) (scene : Scene) : Type 0 where
  pub result : IsTrue (covers scene.result within.result)
  pub breaks : within.breaks ≡ true → scene.breaks ≡ true
  pub continues : within.continues ≡ true → scene.continues ≡ true

-- a statement without labels is well typed there
abbrev pub StmtFits : Within → Scene → Tree → Type 0
StmtFits within scene tree = IsStatement tree × (labels_of scene tree ≡ []) × (StandsIn within scene → IsWellTyped scene tree)

-- and so are statements in order
abbrev pub StmtsFit : Within → Scene → List Tree → Type 0
StmtsFit within scene [] = Unit {0}
StmtsFit within scene (first ∷ others) = StmtFits within scene first × StmtsFit within scene others
