-- What names mean, as the code finds it.
--     referred setting used known extent      a name that stands in an expression
--     Says later entity entry      what the code takes of an entry is what the entry says
--     member_over later found      a member that is found, with its type written out
--     argument known value type      an argument after its conversion, if it may be passed
--     parts_of type      the types of the result and of the parameters of a function type
--     call_over later call      the type of a call's result, and its arguments
use Rattle.std.specs.Prelude.{◌≡◌, ℕ, Bool, if◌then◌else◌, List, map, Option, Some, None}
use Rattle.dm_type.specs.declared.shape.Shape.{Shape}
use Rattle.dm_type.specs.CTypes.{CType, CTypes, function}
use Rattle.dm_syn.specs.Sources.{spelling_at}
use Rattle.dm_tree.specs.declared.tree.Core.{Core}
use Rattle.dm_tree.specs.Trees.{Tree}
use Rattle.dm_tree.specs.Units.{Declaration}
use Rattle.dm_typing.specs.declared.extent.Extent.{Extent}
use Rattle.dm_enames.specs.declared.calls.Call.{Call}
use Rattle.dm_enames.specs.declared.objects.Entity.{Entity}
use Rattle.dm_typing.specs.Known.{Known, Setting, Outcome, meaning_of}
use Rattle.dm_typing.specs.Conversions.{as_type}
use Rattle.dm_typing.specs.Rules.{is_assignable}
use Rattle.dm_typing.specs.Typing.{named}
use Rattle.dm_typing.specs.Views.{type_over, view_over}

-- ---- names (6.5.1)

-- a name that stands in an expression
abbrev pub referred : Setting → Bool → Known → Extent → Outcome Tree
referred setting used known extent =
    named setting used known extent (spelling_at setting.source extent.inner.first) (meaning_of known (spelling_at setting.source extent.inner.first))

-- what the code takes of an entry is what the entry says
pub record Says (later : List Shape) (entity : Entity) (entry : Declaration) : Type 0 where
  pub sort : entry.sort ≡ entity.sort
  pub linkage : entry.linkage ≡ entity.linkage
  pub kind : entry.kind ≡ type_over later entity.kind

-- ---- members (6.5.2.3)

-- a member that is found: its number, and its type written out
abbrev pub member_over : List Shape → ℕ × ℕ → ℕ × CType
member_over later found = (found.0, type_over later found.1)

-- ---- calls (6.5.2.2)

-- an argument after its conversion, if it may be passed
abbrev pub argument : Known → Tree → CType → Option Tree
argument known value type = if is_assignable known value type then Some (as_type type value) else None

-- the types of the result and of the parameters of a function type
abbrev pub parts_of : CType → Option (CType × CTypes)
parts_of (function result parameters) = Some (result, parameters)
parts_of type = None

-- a call with these arguments
abbrev pub call_with : ℕ → List Core → Call
call_with kind arguments = record { kind = kind; arguments = arguments }

-- the type of its result, and its arguments
abbrev pub call_over : List Shape → Call → CType × List Tree
call_over later call = (type_over later call.kind, map (view_over later) call.arguments)
