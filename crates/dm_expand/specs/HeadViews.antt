-- What the code's values at the head of a list mean.
use Rattle.std.specs.Prelude.{◌≡◌, Bool, List}
use Rattle.dm_expand.specs.HideSets.{HiddenNumbers}
use Rattle.dm_expand.specs.declared.head.Macros as code_macros
use Rattle.dm_expand.specs.declared.head.Macro as code_macro
use Rattle.dm_expand.specs.declared.head.Head as code_head
use Rattle.dm_expand.specs.declared.head.Head.TheVariants.{Put, Replace, Refuse}
use Rattle.dm_expand.specs.Items.{Item}
use Rattle.dm_expand.specs.Expansion.{Macros, Macro, Head, put, replace, refuse}
use Rattle.dm_expand.specs.Pastes.{Site}
use Rattle.dm_token.specs.declared.expansion.Mark.{Mark}

-- what an expansion looks up
abbrev pub macros_of : code_macros.Macros → Macros
macros_of macros = record { table = macros.table.now; files = macros.files.now }

-- a definition with its number
abbrev pub macro_value : code_macro.Macro → Macro
macro_value found = record { number = found.number; definition = found.body.definition.now }

-- a macro is replaced
abbrev pub replace_with : Macro → Item → List (List Item) → HiddenNumbers → Bool → List Item → Head
replace_with macro name arguments hidden foreign rest =
    replace (record { macro = macro; name = name; arguments = arguments; hidden = hidden; foreign = foreign; rest = rest })

-- the case at the head of a list, with what follows it
abbrev pub head_value : List Item → code_head.Head → Head
head_value rest (Put item) = put item
head_value rest (Replace invocation) =
    replace_with (macro_value invocation.found) invocation.name invocation.arguments invocation.hidden invocation.foreign rest
head_value rest Refuse = refuse

-- where a token is put out, what follows it stays
abbrev pub Stays : code_head.Head → List Item → List Item → Type 0
Stays (Put item) before after = after ≡ before
Stays (Replace invocation) before after = Unit {0}
Stays Refuse before after = Unit {0}

-- no token is put out
abbrev pub PutsNothing : code_head.Head → Type 0
PutsNothing (Put item) = ⊥
PutsNothing (Replace invocation) = Unit {0}
PutsNothing Refuse = Unit {0}

-- one expansion
abbrev pub site_with : Item → Mark → List (List Item) → Site
site_with name mark arguments = record { name = name; mark = mark; arguments = arguments }
