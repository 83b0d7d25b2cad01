-- The expansion of a list of tokens (6.10.3.4).
use Rattle.std.specs.Prelude.{ℕ, zero, suc, Bool, false, ◌-◌, List, [], ◌∷◌, ◌++◌, map, Option, Some, None, Result, Ok, Err, slice_get, option_and_then, if◌then◌else◌}
use Rattle.dm_token.specs.Refusals as refusals
use Rattle.dm_token.specs.declared.place.Place.{Place}
use Rattle.dm_token.specs.declared.token.PpToken.{PpToken}
use Rattle.dm_token.specs.declared.token.Token.{Token}
use Rattle.dm_token.specs.declared.stop.Stop.{Stop}
use Rattle.dm_token.specs.declared.stop.Stop.TheVariants.{Memory}
use Rattle.dm_token.specs.declared.expansion.Definition.{Definition}
use Rattle.dm_token.specs.declared.expansion.Expansion as made_of
use Rattle.dm_token.specs.declared.expansion.Mark.TheVariants.{Expansion}
use Rattle.std.specs.FinSet as set
use Rattle.dm_expand.specs.HideSets.{HiddenNumbers}
use Rattle.dm_macro.specs.Signs.{is_identifier}
use Rattle.dm_macro.specs.Forms.{refused}
use Rattle.dm_macro.specs.Tables.{Table, number_of}
use Rattle.dm_expand.specs.Items.{Item, of_source}
use Rattle.dm_expand.specs.Trails.{come_otherwise}
use Rattle.dm_expand.specs.Steps.{Progress, Output, ◌>>=◌, greatest_work, at_start, begin}
use Rattle.dm_expand.specs.Arguments.{Enclosed, enclosed_in, arguments_of, opens}
use Rattle.dm_macro.specs.Bodies.{parts_of}
use Rattle.dm_expand.specs.Predefined.{predefined, root_of}
use Rattle.dm_expand.specs.Pastes.{Site}
use Rattle.dm_expand.specs.Substitution.{Expander, substituted}

-- what an expansion looks up: the macros, and the files' names
pub record Macros : Type 0 where
  pub table : Table
  pub files : List (List ℕ)

-- a definition with its number
pub record Macro : Type 0 where
  pub number : ℕ
  pub definition : Definition

-- the definition with this number, with it
unfoldable pub numbered : List Definition → ℕ → Option Macro
numbered read number = option_and_then (λ definition. Some (macro definition)) (slice_get read number)
  where
    macro : Definition → Macro
    macro definition = record { number = number; definition = definition }

-- the macro whose name a token is
unfoldable pub macro_of : Macros → PpToken → Option Macro
macro_of macros token =
    if is_identifier token then option_and_then (numbered macros.table.read) (number_of macros.table token.spelling) else None

-- An invocation of a macro: the definition, the name, the arguments, the hide set that its replacement gets, whether
-- some token from its `(` to its `)` came by another way than its name, and the tokens that follow it.
pub record Invocation : Type 0 where
  pub macro : Macro
  pub name : Item
  pub arguments : List (List Item)
  pub hidden : HiddenNumbers
  pub foreign : Bool
  pub rest : List Item

-- what is done at the head of a list of tokens: the token is put out, a macro is replaced, or the invocation is refused
pub data Head : Type 0 where
  put : Item → Head
  replace : Invocation → Head
  refuse : Head

-- a function-like macro's name, a `(`, what it encloses, and the arguments
unfoldable pub with_arguments : Macro → Item → Item → Enclosed → Option (List (List Item)) → Head
with_arguments macro name opening enclosed None = refuse
with_arguments macro name opening enclosed (Some arguments) =
    replace (record {
      macro = macro;
      name = name;
      arguments = arguments;
      hidden = set.insert (set.intersection name.hidden enclosed.closing.hidden) macro.number;
      foreign = come_otherwise name.trail (opening ∷ (enclosed.inside ++ enclosed.closing ∷ []));
      rest = enclosed.rest;
    })

-- a function-like macro's name, a `(`, and what it encloses
unfoldable pub enclosing : Macro → Item → Item → Option Enclosed → Head
enclosing macro name opening None = refuse
enclosing macro name opening (Some enclosed) =
    with_arguments macro name opening enclosed (arguments_of macro.definition enclosed.inside)

-- a function-like macro's name, and what follows it: without `(` it is no invocation (6.10.3p10)
unfoldable pub function_like : Macro → Item → List Item → Head
function_like macro name [] = put name
function_like macro name (next ∷ others) =
    if opens next then enclosing macro name next (enclosed_in 0 others) else put name

-- an object-like macro's name, and what follows it (6.10.3p9)
unfoldable pub object_like : Macro → Item → List Item → Head
object_like macro name rest =
    replace (record { macro = macro; name = name; arguments = []; hidden = set.insert name.hidden macro.number; foreign = false; rest = rest })

-- a macro's name that isn't hidden, and what follows it
unfoldable pub invoked : Macro → Option (List (List ℕ)) → Item → List Item → Head
invoked macro None name rest = object_like macro name rest
invoked macro (Some parameters) name rest = function_like macro name rest

-- a token that may be a macro's name, and what follows it
unfoldable pub head_by : Macros → Progress → Option Macro → Item → List Item → Head
head_by macros progress None item rest =
    put (predefined macros.files (root_of progress.expansions item.trail item.pp.place) item)
head_by macros progress (Some macro) item rest =
    if set.contains item.hidden macro.number then put item else invoked macro macro.definition.parameters item rest

-- the case at the head of a list: a token, and what follows it
unfoldable pub head_of : Macros → Progress → Item → List Item → Head
head_of macros progress item rest = head_by macros progress (macro_of macros item.pp) item rest

-- a token before what else is put out
unfoldable pub token_before : Item → Result Output Stop → Result Output Stop
token_before item (Ok output) = Ok (record output { tokens = item ∷ output.tokens })
token_before item (Err stop) = Err stop

-- the expansion with this number for an invocation
unfoldable pub site_of : Invocation → ℕ → Site
site_of invocation instance =
    record { name = invocation.name; mark = Expansion invocation.macro.number instance; arguments = invocation.arguments }

-- A macro is replaced: the expansion begins, the replacement takes the invocation's place, and the list is scanned again
-- from there (6.10.3.4p1).
unfoldable pub replaced : Expander → Invocation → Progress → Result Output Stop
replaced expander invocation progress = do
  begun ← begin invocation.macro.number invocation.name invocation.foreign progress
  replacement ← substituted expander (site_of invocation progress.instance) invocation.hidden (parts_of invocation.macro.definition) begun
  expander (replacement.tokens ++ invocation.rest) replacement.progress

-- the refusal of an invocation whose arguments don't fit, at its name
unfoldable pub no_arguments : Place → Stop
no_arguments place = refused refusals.arguments place

-- what the case at the head gives, where `others` is the expansion of what follows a token that is put out
unfoldable pub by_case : Expander → Item → Progress → Result Output Stop → Head → Result Output Stop
by_case expander item progress others (put out) = token_before out others
by_case expander item progress others (replace invocation) = replaced expander invocation progress
by_case expander item progress others refuse = Err (no_arguments item.pp.place)

-- a list is expanded from its head on; `expander` expands what holds a replacement or is an argument
unfoldable pub scanned : Macros → Expander → Expander
scanned macros expander [] progress = Ok (record { tokens = []; progress = progress })
scanned macros expander (item ∷ rest) progress =
    by_case expander item progress (scanned macros expander rest progress) (head_of macros progress item rest)

-- Expansions within expansions and behind each other, at most so many deep. Each takes work, so as many as there may be
-- work are never too few.
unfoldable pub expanded_within : Macros → ℕ → Expander
expanded_within macros zero tokens progress = Err Memory
expanded_within macros (suc depth) tokens progress = scanned macros (expanded_within macros depth) tokens progress

-- the complete expansion of a list of tokens
unfoldable pub expanded : Macros → Expander
expanded macros tokens progress = expanded_within macros (suc (greatest_work - progress.spent)) tokens progress

-- what a group of tokens expands to: the tokens, the expansions in the order in which they were made, and the count of
-- work afterwards
pub record Answer : Type 0 where
  pub tokens : List Token
  pub expansions : List made_of.Expansion
  pub spent : ℕ

-- a token as it is put out, without its hide set
unfoldable pub token_of : Item → Token
token_of item = record { pp = item.pp; trail = item.trail }

unfoldable pub answer_of : Output → Answer
answer_of output =
    record { tokens = map token_of output.tokens; expansions = output.progress.expansions; spent = output.progress.spent }

-- The expansion of a group of tokens of the source, where the next expansion has this number and so much work was
-- counted before; or its first stop.
unfoldable pub expansion_of : Macros → List PpToken → ℕ → ℕ → Result Answer Stop
expansion_of macros group instance spent = do
  output ← expanded macros (map of_source group) (at_start instance spent)
  Ok (answer_of output)
