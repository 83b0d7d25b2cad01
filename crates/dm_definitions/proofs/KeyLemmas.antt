-- More definitions make no fewer keys.
use Rattle.std.proofs.Common.{◌≡◌, ℕ, suc, ◌+◌, ◌≤◌, ◌<◌, Bool, true, false, cond, List, [], ◌∷◌, ◌++◌, length, nat_eq, nat_lt, drop, drop-cons, get_or, refl, ap, sym, ◌∙◌, arith, ⊎_elim}
use Rattle.std.specs.List.{list_any}
use Rattle.std.proofs.lemmas.Bool.{cases_Bool, lt-ltb}
use Rattle.std.proofs.lemmas.List.{length-append}
use Rattle.dm_token.specs.declared.expansion.Definition.{Definition}
use Rattle.dm_token.specs.declared.unit.Read.{Read}
use Rattle.dm_definitions.specs.Counts.{limit, is_in_file, key_of, with_key, with_definition, keys_behind, definition_count}

key_grows : (is_there : Bool) (keys : List ℕ) (key : ℕ) → length keys ≤ length (cond is_there keys (keys ++ key ∷ []))
key_grows true keys key = omega arith
key_grows false keys key = let more = length-append keys (key ∷ []) in omega arith

grows_by : (is_in : Bool) (keys : List ℕ) (key : ℕ) → length keys ≤ length (cond is_in (with_key keys key) keys)
grows_by true keys key = key_grows (list_any (nat_eq key) keys) keys key
grows_by false keys key = omega arith

grows : (keys : List ℕ) (read : List Read) → length keys ≤ length (keys_behind keys read)
grows keys [] = omega arith
grows keys (one ∷ read) =
    let more = grows_by (is_in_file one.definition.origin) keys (key_of one.definition) in
    let rest = grows (with_definition keys one.definition) read in
    omega arith

-- keys of which there are too many already
pub too_many : (keys : List ℕ) (rest read : List Read) → keys_behind keys rest ≡ keys_behind [] read → limit < length keys → true ≡ nat_lt limit (definition_count read)
too_many keys rest read same many =
    let more = grows keys rest in
    let count = ap length same in
    sym (lt-ltb limit (definition_count read) (omega arith))
