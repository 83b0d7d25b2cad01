-- Arguments and commas, one after the other.
use Rattle.std.specs.Prelude.{◌≡◌, ℕ, Bool, true, false, if◌then◌else◌, List, [], ◌∷◌, ◌++◌, map, All, option_and_then, option_map, Option, Some, None, refl}
use Rattle.std.proofs.Common.{sym, ap, ◌∙◌, append_assoc}
use Rattle.std.proofs.lemmas.List.Elements.{All-head, All-tail}
use Rattle.dm_type.specs.declared.shape.Shape.{Shape}
use Rattle.dm_type.specs.CTypes.{CType, CTypes, function, more_types, all_of, bare}
use Rattle.dm_type.specs.Tables.{Table, type_of, IsId}
use Rattle.dm_tree.specs.declared.tree.Core.{Core}
use Rattle.dm_tree.specs.Trees.{Tree}
use Rattle.dm_typing.specs.Known.{Known}
use Rattle.dm_typing.specs.Conversions.{as_type}
use Rattle.dm_enames.specs.Meanings.{argument, parts_of, call_with, call_over}
use Rattle.dm_typing.specs.Rules.{is_assignable, put_before, passed, called}
use Rattle.dm_typing.specs.Views.{Begins, type_over, view_over}
use Rattle.dm_typing.proofs.LaterLemmas.{type-later}

-- trees that stand before those of an answer
abbrev pub behind_these : List Tree → Option (List Tree) → Option (List Tree)
behind_these trees others = option_map (λ list. trees ++ list) others

pub behind-none : (others : Option (List Tree)) → behind_these [] others ≡ others
behind-none None = refl
behind-none (Some list) = refl

behind-one : (trees : List Tree) (tree : Tree) (others : Option (List Tree)) → behind_these trees (put_before tree others) ≡ behind_these (trees ++ tree ∷ []) others
behind-one trees tree None = refl
behind-one trees tree (Some list) = ap Some (sym (append_assoc trees (tree ∷ []) list))

if-put : (test : Bool) (one : Tree) (others : Option (List Tree)) → (if test then put_before one others else None) ≡ option_and_then (λ it. put_before it others) (if test then Some one else None)
if-put true one others = refl
if-put false one others = refl

-- the next argument, and then the others
pub passed-next : (known : Known) (value : Tree) (values : List Tree) (type : CType) (types : CTypes)
    → passed known (value ∷ values) (more_types type types) ≡ option_and_then (λ it. put_before it (passed known values types)) (argument known value type)
passed-next known value values type types = if-put (is_assignable known value type) (as_type type value) (passed known values types)

pub passed-one : (known : Known) (so_far : List Tree) (value it : Tree) (values : List Tree) (type : CType) (types : CTypes) → argument known value type ≡ Some it
    → behind_these so_far (passed known (value ∷ values) (more_types type types)) ≡ behind_these (so_far ++ it ∷ []) (passed known values types)
passed-one known so_far value it values type types h =
    ap (behind_these so_far) (passed-next known value values type types ∙ ap (option_and_then (λ one. put_before one (passed known values types))) h)
    ∙ behind-one so_far it (passed known values types)

pub passed-not : (known : Known) (so_far : List Tree) (value : Tree) (values : List Tree) (type : CType) (types : CTypes) → argument known value type ≡ None
    → behind_these so_far (passed known (value ∷ values) (more_types type types)) ≡ None
passed-not known so_far value values type types h =
    ap (behind_these so_far) (passed-next known value values type types ∙ ap (option_and_then (λ one. put_before one (passed known values types))) h)

-- too few arguments
pub passed-left : (known : Known) (so_far : List Tree) (view : ℕ → CType) (rest : List ℕ) → (rest ≡ [] → ⊥) → behind_these so_far (passed known [] (all_of (map view rest))) ≡ None
passed-left known so_far view [] some = absurd (some refl)
passed-left known so_far view (id ∷ ids) some = refl

-- ---- calls

-- the call of a type by its parts
abbrev called_by : Known → List Tree → CType × CTypes → Option (CType × List Tree)
called_by known values parts = option_map (λ list. (bare parts.0, list)) (passed known values parts.1)

by-parts : (known : Known) (type : CType) (values : List Tree) → called known type values ≡ option_and_then (called_by known values) (parts_of type)
by-parts known (function result parameters) values = refl
by-parts known type values = refl

pub called-with : (known : Known) (type result : CType) (parameters : CTypes) (values : List Tree) → parts_of type ≡ Some (result, parameters)
    → called known type values ≡ option_map (λ list. (bare result, list)) (passed known values parameters)
called-with known type result parameters values h = by-parts known type values ∙ ap (option_and_then (called_by known values)) h

pub called-not : (known : Known) (type : CType) (values : List Tree) → parts_of type ≡ None → called known type values ≡ None
called-not known type values h = by-parts known type values ∙ ap (option_and_then (called_by known values)) h

-- types by number, whatever numbers come
types-later : (table : Table) (later : List Shape) (ids : List ℕ) → Begins table.shapes later → All (IsId table) ids → map (type_over later) ids ≡ map (type_of table) ids
types-later table later [] begins all = refl
types-later table later (id ∷ ids) begins all =
    ap (λ t. t ∷ map (type_over later) ids) (type-later table.shapes later id begins (All-head (IsId table) id ids all))
    ∙ ap (λ ts. type_of table id ∷ ts) (types-later table later ids begins (All-tail (IsId table) id ids all))

pub parts-later : (table : Table) (later : List Shape) (kind result : ℕ) (parameters : List ℕ) → Begins table.shapes later → IsId table kind → IsId table result → All (IsId table) parameters
    → Some (type_of table result, all_of (map (type_of table) parameters)) ≡ parts_of (type_of table kind)
    → parts_of (type_over later kind) ≡ Some (type_over later result, all_of (map (type_over later) parameters))
parts-later table later kind result parameters begins inside within all is =
    ap parts_of (type-later table.shapes later kind begins inside)
    ∙ sym is
    ∙ ap (λ t. Some (t, all_of (map (type_of table) parameters))) (sym (type-later table.shapes later result begins within))
    ∙ ap (λ ts. Some (type_over later result, all_of ts)) (sym (types-later table later parameters begins all))

-- a call as the code has it
pub call-pairs : (later : List Shape) (kind : ℕ) (result : CType) (passed : Option (List Core)) → type_over later kind ≡ bare result
    → option_map (call_over later) (option_map (call_with kind) passed) ≡ option_map (λ (list : List Tree). (bare result, list)) (option_map (map (view_over later)) passed)
call-pairs later kind result None h = refl
call-pairs later kind result (Some list) h = ap (λ t. Some (t, map (view_over later) list)) h
