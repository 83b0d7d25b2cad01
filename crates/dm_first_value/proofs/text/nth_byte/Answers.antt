-- A byte of the literal, the closing 0, or none.
use Rattle.std.proofs.Common.{◌≡◌, List, ◌∷◌, [], ◌++◌, map, slice_get, ap, sym, ◌∙◌}
use Rattle.dm_meaning.specs.Memory.{character}
use Rattle.dm_meaning.specs.Values.{Value}
use Rattle.dm_first_value.specs.Texts.{characters_in}
use Rattle.dm_first_value.proofs.TextLemmas.{byte-there, characters-there, end-there, none-there}
use Rattle.dm_first_value.proofs.text.nth_byte.Goals as goal

pub returns-in-Some : goal.returns-in-Some
returns-in-Some c =
    let bytes = c.in_ok-bytes.bytes.now in
    let seen : characters_in c.args.bytes ≡ map character bytes ++ character 0 ∷ [] = ap characters_in c.in_ok-bytes.was ∙ characters-there bytes in
    sym (ap (λ (all : List Value). slice_get all c.args.number) seen ∙ byte-there bytes c.args.number c.in-Some.byte.now c.in-Some.ensures)

pub returns-then-number-bytes : goal.returns-then-number-bytes
returns-then-number-bytes c =
    let bytes = c.in_ok-bytes.bytes.now in
    let seen : characters_in c.args.bytes ≡ map character bytes ++ character 0 ∷ [] = ap characters_in c.in_ok-bytes.was ∙ characters-there bytes in
    sym (ap (λ (all : List Value). slice_get all c.args.number) seen ∙ end-there bytes c.args.number c.if-number-bytes.true)

pub returns-else-number-bytes : goal.returns-else-number-bytes
returns-else-number-bytes c =
    let bytes = c.in_ok-bytes.bytes.now in
    let seen : characters_in c.args.bytes ≡ map character bytes ++ character 0 ∷ [] = ap characters_in c.in_ok-bytes.was ∙ characters-there bytes in
    sym (ap (λ (all : List Value). slice_get all c.args.number) seen ∙ none-there bytes c.args.number c.in-None.ensures c.if-number-bytes.false)
