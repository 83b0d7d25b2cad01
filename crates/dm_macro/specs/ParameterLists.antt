-- How a parameter list is read, token by token.
--     after expected kind      what may come behind a token of this kind
--     may_end expected      whether the list may end there
--     is_read_from expected kinds      whether these kinds of tokens are read to the end
use Rattle.std.specs.Prelude.{Bool, true, false, List, [], ◌∷◌, Option, None, Some, if◌then◌else◌}
use Rattle.std.specs.Option.{option_map_or}
use Rattle.dm_token.specs.declared.token.PpKind.{PpKind}
use Rattle.dm_macro.specs.declared.parameters.Expected.{Expected}
use Rattle.dm_macro.specs.declared.parameters.Expected.TheVariants.{ItemOrEnd, Item, CommaOrEnd, End}
use Rattle.dm_spell.specs.Punctuators.{comma, ellipsis}
use Rattle.dm_macro.specs.Signs.{is_row, is_identifier_kind}

-- what may come behind an item of this kind
abbrev pub after_item : PpKind → Option Expected
after_item kind = if is_identifier_kind kind then Some CommaOrEnd else (if is_row ellipsis kind then Some End else None)

-- what may come behind a token of this kind
abbrev pub after : Expected → PpKind → Option Expected
after ItemOrEnd kind = after_item kind
after Item kind = after_item kind
after CommaOrEnd kind = if is_row comma kind then Some Item else None
after End kind = None

-- whether the list may end there
abbrev pub may_end : Expected → Bool
may_end ItemOrEnd = true
may_end Item = false
may_end CommaOrEnd = true
may_end End = true

-- whether these kinds of tokens are read to the end
abbrev pub is_read_from : Expected → List PpKind → Bool
is_read_from expected [] = may_end expected
is_read_from expected (kind ∷ others) = option_map_or (λ next. is_read_from next others) (after expected kind) false
