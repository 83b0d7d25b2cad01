-- The integer promotions and the usual arithmetic conversions give promoted kinds.
use Rattle.std.specs.Prelude.{◌≡◌, ℕ, ◌==◌, true, refl}
use Rattle.std.proofs.Common.{sym, ap, ◌∙◌, arith, slice_get, unwrap_or}
use Rattle.dm_int.specs.declared.Kind.{Kind}
use Rattle.dm_int.specs.declared.Kind.TheVariants as k
use Rattle.dm_int.specs.Kinds.{kinds, number_of, promote, common}

pub same-numbers : (m n : ℕ) → (m == n) ≡ true → m ≡ n
same-numbers m n h = grind arith

pub numbers-same : (m n : ℕ) → m ≡ n → (m == n) ≡ true
numbers-same m n h = grind arith

-- a kind by its number
by-number : ℕ → Kind
by-number n = unwrap_or (slice_get kinds n) k.Int

by-its-number : (kind : Kind) → by-number (number_of kind) ≡ kind
unfolding by-number
by-its-number k.Bool = refl
by-its-number k.Char = refl
by-its-number k.SChar = refl
by-its-number k.UChar = refl
by-its-number k.Short = refl
by-its-number k.UShort = refl
by-its-number k.Int = refl
by-its-number k.UInt = refl
by-its-number k.Long = refl
by-its-number k.ULong = refl
by-its-number k.LLong = refl
by-its-number k.ULLong = refl

-- kinds of one number are one
pub same-kinds : (one other : Kind) → (number_of one == number_of other) ≡ true → one ≡ other
same-kinds one other h = sym (by-its-number one) ∙ ap by-number (same-numbers (number_of one) (number_of other) h) ∙ by-its-number other

pub promoted-again : (kind : Kind) → promote (promote kind) ≡ promote kind
promoted-again k.Bool = refl
promoted-again k.Char = refl
promoted-again k.SChar = refl
promoted-again k.UChar = refl
promoted-again k.Short = refl
promoted-again k.UShort = refl
promoted-again k.Int = refl
promoted-again k.UInt = refl
promoted-again k.Long = refl
promoted-again k.ULong = refl
promoted-again k.LLong = refl
promoted-again k.ULLong = refl

-- what holds of each kind
abbrev Each : (Kind → Type 0) → Type 0
Each P = P k.Bool × P k.Char × P k.SChar × P k.UChar × P k.Short × P k.UShort × P k.Int × P k.UInt × P k.Long × P k.ULong × P k.LLong × P k.ULLong

of-each : (P : Kind → Type 0) → Each P → (kind : Kind) → P kind
of-each P each k.Bool = each.0
of-each P each k.Char = each.1
of-each P each k.SChar = each.2
of-each P each k.UChar = each.3
of-each P each k.Short = each.4
of-each P each k.UShort = each.5
of-each P each k.Int = each.6
of-each P each k.UInt = each.7
of-each P each k.Long = each.8
of-each P each k.ULong = each.9
of-each P each k.LLong = each.10
of-each P each k.ULLong = each.11

pub common-promoted : (one other : Kind) → promote (common one other) ≡ common one other
common-promoted k.Bool other = of-each (λ kind. promote (common k.Bool kind) ≡ common k.Bool kind) (refl, refl, refl, refl, refl, refl, refl, refl, refl, refl, refl, refl) other
common-promoted k.Char other = of-each (λ kind. promote (common k.Char kind) ≡ common k.Char kind) (refl, refl, refl, refl, refl, refl, refl, refl, refl, refl, refl, refl) other
common-promoted k.SChar other = of-each (λ kind. promote (common k.SChar kind) ≡ common k.SChar kind) (refl, refl, refl, refl, refl, refl, refl, refl, refl, refl, refl, refl) other
common-promoted k.UChar other = of-each (λ kind. promote (common k.UChar kind) ≡ common k.UChar kind) (refl, refl, refl, refl, refl, refl, refl, refl, refl, refl, refl, refl) other
common-promoted k.Short other = of-each (λ kind. promote (common k.Short kind) ≡ common k.Short kind) (refl, refl, refl, refl, refl, refl, refl, refl, refl, refl, refl, refl) other
common-promoted k.UShort other = of-each (λ kind. promote (common k.UShort kind) ≡ common k.UShort kind) (refl, refl, refl, refl, refl, refl, refl, refl, refl, refl, refl, refl) other
common-promoted k.Int other = of-each (λ kind. promote (common k.Int kind) ≡ common k.Int kind) (refl, refl, refl, refl, refl, refl, refl, refl, refl, refl, refl, refl) other
common-promoted k.UInt other = of-each (λ kind. promote (common k.UInt kind) ≡ common k.UInt kind) (refl, refl, refl, refl, refl, refl, refl, refl, refl, refl, refl, refl) other
common-promoted k.Long other = of-each (λ kind. promote (common k.Long kind) ≡ common k.Long kind) (refl, refl, refl, refl, refl, refl, refl, refl, refl, refl, refl, refl) other
common-promoted k.ULong other = of-each (λ kind. promote (common k.ULong kind) ≡ common k.ULong kind) (refl, refl, refl, refl, refl, refl, refl, refl, refl, refl, refl, refl) other
common-promoted k.LLong other = of-each (λ kind. promote (common k.LLong kind) ≡ common k.LLong kind) (refl, refl, refl, refl, refl, refl, refl, refl, refl, refl, refl, refl) other
common-promoted k.ULLong other = of-each (λ kind. promote (common k.ULLong kind) ≡ common k.ULLong kind) (refl, refl, refl, refl, refl, refl, refl, refl, refl, refl, refl, refl) other

pub common-again : (one other : Kind) → common one (common one other) ≡ common one other
common-again k.Bool other = of-each (λ kind. common k.Bool (common k.Bool kind) ≡ common k.Bool kind) (refl, refl, refl, refl, refl, refl, refl, refl, refl, refl, refl, refl) other
common-again k.Char other = of-each (λ kind. common k.Char (common k.Char kind) ≡ common k.Char kind) (refl, refl, refl, refl, refl, refl, refl, refl, refl, refl, refl, refl) other
common-again k.SChar other = of-each (λ kind. common k.SChar (common k.SChar kind) ≡ common k.SChar kind) (refl, refl, refl, refl, refl, refl, refl, refl, refl, refl, refl, refl) other
common-again k.UChar other = of-each (λ kind. common k.UChar (common k.UChar kind) ≡ common k.UChar kind) (refl, refl, refl, refl, refl, refl, refl, refl, refl, refl, refl, refl) other
common-again k.Short other = of-each (λ kind. common k.Short (common k.Short kind) ≡ common k.Short kind) (refl, refl, refl, refl, refl, refl, refl, refl, refl, refl, refl, refl) other
common-again k.UShort other = of-each (λ kind. common k.UShort (common k.UShort kind) ≡ common k.UShort kind) (refl, refl, refl, refl, refl, refl, refl, refl, refl, refl, refl, refl) other
common-again k.Int other = of-each (λ kind. common k.Int (common k.Int kind) ≡ common k.Int kind) (refl, refl, refl, refl, refl, refl, refl, refl, refl, refl, refl, refl) other
common-again k.UInt other = of-each (λ kind. common k.UInt (common k.UInt kind) ≡ common k.UInt kind) (refl, refl, refl, refl, refl, refl, refl, refl, refl, refl, refl, refl) other
common-again k.Long other = of-each (λ kind. common k.Long (common k.Long kind) ≡ common k.Long kind) (refl, refl, refl, refl, refl, refl, refl, refl, refl, refl, refl, refl) other
common-again k.ULong other = of-each (λ kind. common k.ULong (common k.ULong kind) ≡ common k.ULong kind) (refl, refl, refl, refl, refl, refl, refl, refl, refl, refl, refl, refl) other
common-again k.LLong other = of-each (λ kind. common k.LLong (common k.LLong kind) ≡ common k.LLong kind) (refl, refl, refl, refl, refl, refl, refl, refl, refl, refl, refl, refl) other
common-again k.ULLong other = of-each (λ kind. common k.ULLong (common k.ULLong kind) ≡ common k.ULLong kind) (refl, refl, refl, refl, refl, refl, refl, refl, refl, refl, refl, refl) other
