-- What the code has on the way through specifiers and declarators, as the definition has it, and when a step of the code gives what the
-- definition does.
--     said_over, parameter_over, steps_over, fields_over, name_over      specifiers, parameters, steps, members and type names
--     Follows Fits view source old new result outcome      the code gives the outcome, whatever numbers come, and its numbers are numbered
use Rattle.std.specs.Prelude.{◌≡◌, ℕ, ℤ, Bool, if◌then◌else◌, is_some, List, map, reverse, All, Option, Result, IfOk}
use Rattle.dm_token.specs.declared.place.Span.{Span}
use Rattle.dm_token.specs.declared.stop.Stop.{Stop}
use Rattle.dm_int.specs.declared.Kind.TheVariants as k
use Rattle.dm_type.specs.declared.shape.Member.{Member}
use Rattle.dm_type.specs.declared.shape.Shape.{Shape}
use Rattle.dm_type.specs.CTypes.{CType, void, integer}
use Rattle.dm_type.specs.Tables.{Table, IsId, IsLength}
use Rattle.dm_syn.specs.Sources.{Source, spelling_at}
use Rattle.dm_syn.specs.Trees.{Parameter}
use Rattle.dm_syn.specs.Trees as tree
use Rattle.dm_tree.specs.Units.{Declaration}
use Rattle.dm_typing.specs.declared.known.Known.{Known as Held}
use Rattle.dm_edeclarator.specs.declared.specifiers.Said.{Said as SaidHeld}
use Rattle.dm_edeclarator.specs.declared.specifiers.Where.{Where as WhereHeld}
use Rattle.dm_edeclarator.specs.declared.specifiers.Where.TheVariants as place
use Rattle.dm_edeclarator.specs.declared.specifiers.WordType.{WordType}
use Rattle.dm_edeclarator.specs.declared.specifiers.WordType.TheVariants as word
use Rattle.dm_edeclarator.specs.declared.specifiers.Set.{Set}
use Rattle.dm_edeclarator.specs.declared.declarators.TypedParameter.{TypedParameter as ParameterHeld}
use Rattle.dm_edeclarator.specs.declared.declarators.Step.{Step as StepHeld}
use Rattle.dm_edeclarator.specs.declared.declarators.Step.TheVariants as step
use Rattle.dm_edeclarator.specs.declared.declarators.PlacedStep.{PlacedStep}
use Rattle.dm_edeclarator.specs.declared.names.TypedName.{TypedName as NameHeld}
use Rattle.dm_typing.specs.Known.{Known, Setting, Outcome, given, obeys, if_given, meaning_of}
use Rattle.dm_typing.specs.Fitting.{AreNumbered}
use Rattle.dm_typing.specs.Specifiers.{Said, with_type, are_allowed, with_said_const, Row, Where, of_declaration, of_definition, elsewhere}
use Rattle.dm_typing.specs.Typing.{Step, pointing, arraying, calling, TypedParameter, TypedMember, TypedName, parameter_at as fault_at, tag_inside, tag_seen, tag_declared, struct_named}
use Rattle.dm_typing.specs.Views.{Begins, type_over, view_over, known_over, Gives}

-- ---- specifiers

-- where specifiers stand
abbrev pub where_of : WhereHeld → Where
where_of place.OfDeclaration = of_declaration
where_of place.OfDefinition = of_definition
where_of place.Elsewhere = elsewhere

-- what they say so far
abbrev pub said_over : List Shape → SaidHeld → Said
said_over later said = record { words = said.words; types = map (type_over later) said.types; storage = said.storage; inline = said.is_inline; const = said.is_const }

-- their types are numbered
abbrev pub SaidFits : Table → SaidHeld → Type 0
SaidFits types said = All (IsId types) said.types

-- the type that specifiers name, where their storage words may stand
abbrev pub type_allowed : Known → Where → ℕ → Said → CType → Outcome CType
type_allowed known stands here said type = obeys (are_allowed stands said) 3 here (given known (with_said_const said.const type))

-- the type of type words
abbrev pub word_type : WordType → CType
word_type word.Void = void
word_type (word.Integer kind) = integer kind

-- words that may stand together, and their type
abbrev pub row_of : Set → Row
row_of set = record { words = set.words.now; type = word_type set.named }

-- ---- declarators

abbrev pub parameter_over : List Shape → ParameterHeld → TypedParameter
parameter_over later parameter = record { kind = type_over later parameter.kind; declared = parameter.declared }

abbrev pub ParameterFits : Table → ParameterHeld → Type 0
ParameterFits types parameter = IsId types parameter.kind

abbrev pub parameters_over : List Shape → List ParameterHeld → List TypedParameter
parameters_over later parameters = map (parameter_over later) parameters

abbrev pub ParametersFit : Table → List ParameterHeld → Type 0
ParametersFit types parameters = All (ParameterFits types) parameters

-- the type of a parameter
abbrev pub kind_in : ParameterHeld → ℕ
kind_in parameter = parameter.kind

-- where a fault of a parameter's type is
abbrev pub parameter_at : Parameter → ℕ
parameter_at (tree.parameter span specifiers declarator) = fault_at span declarator

-- a step with the token at which it begins
abbrev pub step_at : List Shape → ℕ → StepHeld → Step
step_at later at (step.Pointing const) = pointing at const
step_at later at (step.Arraying n) = arraying at n
step_at later at (step.Calling parameters) = calling at (map (parameter_over later) parameters)

abbrev pub step_over : List Shape → PlacedStep → Step
step_over later placed = step_at later placed.at placed.step

-- the code has the last step first
abbrev pub steps_over : List Shape → List PlacedStep → List Step
steps_over later steps = reverse (map (step_over later) steps)

-- the types of the parameters in a step are numbered, and an array that has a length has one of at least 1
abbrev pub FitsIn : Table → StepHeld → Type 0
FitsIn types (step.Pointing const) = Unit {0}
FitsIn types (step.Arraying n) = IsLength n
FitsIn types (step.Calling parameters) = ParametersFit types parameters

abbrev pub StepFits : Table → PlacedStep → Type 0
StepFits types placed = FitsIn types placed.step

abbrev pub StepsFit : Table → List PlacedStep → Type 0
StepsFit types steps = All (StepFits types) steps

-- ---- members

abbrev pub member_over : List Shape → Member → TypedMember
member_over later member = record { name = member.name; kind = type_over later member.kind }

abbrev pub MemberFits : Table → Member → Type 0
MemberFits types member = IsId types member.kind

abbrev pub fields_over : List Shape → List Member → List TypedMember
fields_over later members = map (member_over later) members

abbrev pub FieldsFit : Table → List Member → Type 0
FieldsFit types members = All (MemberFits types) members

-- ---- type names

abbrev pub name_over : List Shape → NameHeld → TypedName
name_over later named = record { kind = type_over later named.kind; constants = map (view_over later) named.constants }

abbrev pub NameFits : Table → NameHeld → Type 0
NameFits types named = IsId types named.kind × AreNumbered types named.constants

-- ---- tags and typedef names

-- the type of the declaration that a typedef name means
abbrev pub typedef_said : Setting → Known → Said → ℕ → Outcome Said
typedef_said setting known said at =
    if_given (meaning_of known (spelling_at setting.source at)) 1 at (λ (entry : Declaration). given known (with_type entry.kind said))

-- what is known where the enumerators of an enum begin
abbrev pub enum_begun_with : Setting → Known → Option ℕ → Known
enum_begun_with setting known tag = if is_some (tag_inside setting known tag) then known else tag_declared setting known tag (integer k.Int)

abbrev pub enum_ended_with : Known → Span → Bool → Outcome CType
enum_ended_with known span is_new = obeys is_new 4 span.first (given known (integer k.Int))

-- `struct` with a tag alone
abbrev pub tagged_struct : Setting → Bool → Known → Span → Option ℕ → Outcome CType
tagged_struct setting alone known span tag = struct_named setting known span tag (if alone then tag_inside setting known tag else tag_seen setting known tag)

-- ---- steps

-- all but the scopes is the same
pub record SameBesideScopes (old new : Held) : Type 0 where
  pub types : new.types ≡ old.types
  pub declared : new.declared ≡ old.declared
  pub begun : new.begun.items ≡ old.begun.items
  pub constants : new.constants ≡ old.constants

-- all but the trees is the same
pub record SameBesideConstants (old new : Held) : Type 0 where
  pub types : new.types ≡ old.types
  pub scopes : new.scopes ≡ old.scopes
  pub declared : new.declared ≡ old.declared
  pub begun : new.begun.items ≡ old.begun.items

-- what has no numbers
abbrev pub Anything : {A : Type 0} → Table → A → Type 0
Anything types it = Unit {0}

abbrev pub number_itself : List Shape → ℤ → ℤ
number_itself later value = value

-- The code gives what the definition does, whatever numbers come. What it gives has numbered types, and all numbers from before stay.
pub record Follows {A B : Type 0} (Fits : Table → A → Type 0) (view : List Shape → A → B) (source : Source) (old new : Held) (result : Result A Stop) (outcome : List Shape → Outcome B) : Type 0 where
  pub shapes : Begins old.types.shapes new.types.shapes
  pub numbered : IfOk result (Fits new.types)
  pub gives : (later : List Shape) → Begins new.types.shapes later → Gives (view later) source (known_over later new) result (outcome later)
