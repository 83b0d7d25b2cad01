-- Which directive a line is (6.10p1).
use Rattle.std.specs.Prelude.{ℕ, List, [], ◌∷◌, codes, bytes_eq, if◌then◌else◌}
use Rattle.dm_token.specs.declared.token.PpToken.{PpToken}
use Rattle.dm_macro.specs.Signs.{is_identifier}
use Rattle.dm_unit.specs.declared.directive.Directive.{Directive}
use Rattle.dm_unit.specs.declared.directive.Directive.TheVariants.{If, Ifdef, Ifndef, Elif, Else, Endif, Include, Define, Undef, Line, Error, Pragma, Null, Unknown}

-- the directive of a name
unfoldable pub named : List ℕ → Directive
named name =
    if bytes_eq name (codes "if") then If
    else if bytes_eq name (codes "ifdef") then Ifdef
    else if bytes_eq name (codes "ifndef") then Ifndef
    else if bytes_eq name (codes "elif") then Elif
    else if bytes_eq name (codes "else") then Else
    else if bytes_eq name (codes "endif") then Endif
    else if bytes_eq name (codes "include") then Include
    else if bytes_eq name (codes "define") then Define
    else if bytes_eq name (codes "undef") then Undef
    else if bytes_eq name (codes "line") then Line
    else if bytes_eq name (codes "error") then Error
    else if bytes_eq name (codes "pragma") then Pragma
    else Unknown

-- the directive that the tokens behind a `#` make
unfoldable pub directive_of : List PpToken → Directive
directive_of [] = Null
directive_of (name ∷ others) = if is_identifier name then named name.spelling else Unknown
