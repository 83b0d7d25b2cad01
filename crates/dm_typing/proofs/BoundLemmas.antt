-- The structs whose members are being read.
use Rattle.std.specs.Prelude.{◌≡◌, ℕ, ◌<◌, Bool, true, false, not, IsTrue, List, [], ◌∷◌, length, All, option_map, option_and_then, slice_get, None, refl}
use Rattle.std.proofs.Common.{sym, ap, ◌∙◌, subst}
use Rattle.std.proofs.lemmas.Bool.{and_parts, and_from}
use Rattle.std.proofs.lemmas.List.Elements.{All-head, All-tail, All-cons, All-weaker}
use Rattle.dm_type.specs.declared.shape.Content.{Content}
use Rattle.dm_type.specs.declared.shape.Struct.{Struct as StructEntry}
use Rattle.dm_type.specs.Tables.{Table, members_of}
use Rattle.dm_typing.specs.Bounds.{IsUnset, AreOpen, are_apart}
use Rattle.dm_typing.specs.Typing.{is_among}

-- the structs are all that counts
unset-same : (old new : Table) (number : ℕ) → new.structs ≡ old.structs → IsUnset old number → IsUnset new number
unset-same old new number same one = (
  subst (λ (structs : List StructEntry). number < length structs) (sym same) one.0,
  ap (λ (structs : List StructEntry). option_map (λ (content : Content). content.members) (option_and_then (λ (entry : StructEntry). entry.content) (slice_get structs number))) same ∙ one.1,
)

pub open-same : (old new : Table) (begun : List ℕ) → new.structs ≡ old.structs → AreOpen old begun → AreOpen new begun
open-same old new begun same still = (All-weaker (IsUnset old) (IsUnset new) (λ number one. unset-same old new number same one) begun still.0, still.1)

-- the innermost one, and the others
false-of-not : (test : Bool) → IsTrue (not test) → test ≡ false
false-of-not true h = sym h
false-of-not false h = refl

pub open-parts : (types : Table) (number : ℕ) (outer : List ℕ) → AreOpen types (number ∷ outer)
    → (number < length types.structs) × (members_of types number ≡ None) × (is_among number outer ≡ false) × AreOpen types outer
open-parts types number outer still =
    let one = All-head (IsUnset types) number outer still.0 in
    let apart = and_parts (not (is_among number outer)) (are_apart outer) still.1 in
    (one.0, one.1, false-of-not (is_among number outer) apart.0, (All-tail (IsUnset types) number outer still.0, apart.1))

pub open-with : (types : Table) (number : ℕ) (outer : List ℕ) → number < length types.structs → members_of types number ≡ None → is_among number outer ≡ false → AreOpen types outer
    → AreOpen types (number ∷ outer)
open-with types number outer below empty apart still =
    (All-cons (IsUnset types) number outer (below, empty) still.0, and_from (not (is_among number outer)) (are_apart outer) (ap not apart) still.1)
