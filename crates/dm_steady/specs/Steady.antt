-- Tests for arguments that can't be undefined.
--     IsSafeInPlace types unit safe      arguments that can't be undefined pass this test where their full expressions stand
use Rattle.std.specs.Prelude.{◌≡◌, Bool, true, Some}
use Rattle.dm_token.specs.declared.place.Span.{Span}
use Rattle.dm_type.specs.Tables.{Table}
use Rattle.dm_tree.specs.Trees.{Tree, spans_of}
use Rattle.dm_tree.specs.Units.{TypedUnit}
use Rattle.dm_effect.specs.Safe.{is_safe}
use Rattle.dm_effect.specs.Stable.{is_pure}
use Rattle.dm_sites.specs.Sites.{Site, site_of}
use Rattle.dm_late.specs.Settled.{erased, spot}

-- an argument that neither stores nor calls and can't be undefined is safe where its full expression stands
abbrev pub IsSafeInPlace : Table → TypedUnit → (Tree → Bool) → Type 0
IsSafeInPlace types one safe =
    (span : Span) (argument : Site) → site_of one span ≡ Some argument → is_pure argument.tree ≡ true → is_safe types one argument.tree ≡ true
    → safe (erased (spot (spans_of argument.full)) argument.tree) ≡ true
