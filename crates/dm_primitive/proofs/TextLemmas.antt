-- Characters in front of a string.
use Rattle.std.proofs.Common.{◌≡◌, ℕ, suc, ◌-◌, ◌<◌, List, [], ◌∷◌, ◌++◌, Result, Ok, Err, pos, append_assoc, refl, ap, sym, ◌∙◌, arith}
use Rattle.dm_int.specs.declared.Kind.TheVariants.{Char}
use Rattle.dm_type.specs.CTypes.{integer}
use Rattle.dm_meaning.specs.declared.cause.Cause.{Cause}
use Rattle.dm_meaning.specs.Causes.{earliest, moved_pointer, read_causes}
use Rattle.dm_meaning.specs.Memory.{Memory, contents_at}
use Rattle.dm_meaning.specs.Objects.{Layout}
use Rattle.dm_meaning.specs.Primitives.{text_at, text_on, unless_cause}
use Rattle.dm_meaning.specs.Values.{At, to}
use Rattle.dm_primitive.specs.declared.text.Character.{Character}
use Rattle.dm_primitive.specs.declared.text.Character.TheVariants.{Byte, End, Refused}
use Rattle.dm_primitive.specs.Texts.{Text, behind, and_character}

pub behind-more : (bytes : List ℕ) (byte : ℕ) (text : Text) → behind (bytes ++ byte ∷ []) text ≡ behind bytes (behind (byte ∷ []) text)
behind-more bytes byte (Ok more) = ap Ok (append_assoc bytes (byte ∷ []) more)
behind-more bytes byte (Err cause) = refl

-- ---- a string by its first character

module _ (layout : Layout) (memory : Memory) (left : ℕ) (at : At) (some : 0 < left) where
  abbrev pub Later : Text
  Later = text_on (moved_pointer layout memory (integer Char) (to at) (pos 1)) (text_at layout memory (left - 1))

  abbrev pub Reads : Character → Type 0
  Reads one = (later : Text) → unless_cause (earliest (read_causes layout memory [] (integer Char) at)) (contents_at memory at) later ≡ and_character one later

  one-more : text_at layout memory left at ≡ unless_cause (earliest (read_causes layout memory [] (integer Char) at)) (contents_at memory at) Later
  one-more = let e : left ≡ suc (left - 1) = omega (arith, some) in ap (λ most. text_at layout memory most at) e

  pub by-first : (one : Character) → Reads one → text_at layout memory left at ≡ and_character one Later
  by-first one reads = one-more ∙ reads Later
