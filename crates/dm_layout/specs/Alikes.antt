-- How types compare, const apart, by what they are made of.
--     IsPlain type      a type that is neither const nor an array
--     Means table likeness truth      what is known of whether two types are alike
--     IsFewer limit likeness      types that are left to compare have smaller numbers
use Rattle.std.specs.Prelude.{◌≡◌, ℕ, ◌+◌, ◌<◌, Bool}
use Rattle.dm_type.specs.CTypes.{CType, void, integer, pointer, array, struct, function, const}
use Rattle.dm_type.specs.Tables.{Table, IsId, type_of}
use Rattle.dm_meaning.specs.Objects.{agree_without_const}
use Rattle.dm_layout.specs.declared.alike.Likeness.{Likeness}
use Rattle.dm_layout.specs.declared.alike.Likeness.TheVariants.{Known, Of}

abbrev pub IsPlain : CType → Type 0
IsPlain void = Unit {0}
IsPlain (integer kind) = Unit {0}
IsPlain (pointer type) = Unit {0}
IsPlain (array type length) = ⊥
IsPlain (struct number) = Unit {0}
IsPlain (function result parameters) = Unit {0}
IsPlain (const type) = ⊥

abbrev pub Means : Table → Likeness → Bool → Type 0
Means table (Known answer) truth = truth ≡ answer
Means table (Of a b) truth = IsId table a × IsId table b × (truth ≡ agree_without_const (type_of table a) (type_of table b))

abbrev pub IsFewer : ℕ → Likeness → Type 0
IsFewer limit (Known answer) = Unit {0}
IsFewer limit (Of a b) = a + b < limit
