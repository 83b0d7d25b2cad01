-- How `clap` walks over the operands and options of good words.
use Rattle.std.proofs.Common.{◌≡◌, ℕ, suc, ◌+◌, min, true, false, refl, sym, subst, List, [], ◌∷◌, ◌++◌, Some, None, codes, bytes_eq, inl, inr, fold}
use Rattle.std.proofs.lemmas.List.{append_assoc}
use Rattle.clap.specs.Lexer.{long_of, usize_max}
use Rattle.clap.specs.Walk.{Row, Rule, Text, Walk, arg_by_id, arg_by_index, arg_by_long, has_row, walked}
use Rattle.clap.specs.Simple.{Shape}
use Rattle.clap.specs.Takes.{walk_passes}
use Rattle.dm_words.specs.Requests.{Part, operand, json, order, steps, input, Begins, BeginsOption, Are, equals_sign}
use Rattle.dm_words.proofs.ClapSteps.{At, Steps, placed, valued, flagged, row_of_use, append_nil, operand_steps, joined_steps, parted_steps, flag_steps}

-- the argument of a part at a position, by the operands' ids
abbrev pub rule_at : (ℕ → Text) → ℕ → Part → Rule
rule_at ids position (operand text) = placed position (ids position)
rule_at ids position json = flagged (codes "json")
rule_at ids position (order value) = valued (codes "order")
rule_at ids position (steps value) = valued (codes "steps")
rule_at ids position (input value) = valued (codes "input")

abbrev pub values_in : Part → List Text
values_in (operand text) = text ∷ []
values_in json = []
values_in (order value) = value ∷ []
values_in (steps value) = value ∷ []
values_in (input value) = value ∷ []

abbrev pub position_behind : ℕ → Part → ℕ
position_behind position (operand text) = suc position
position_behind position json = position
position_behind position (order value) = position
position_behind position (steps value) = position
position_behind position (input value) = position

abbrev pub row_at : (ℕ → Text) → ℕ → Part → Row
row_at ids position part = row_of_use (rule_at ids position part) (values_in part)

abbrev pub rows_of : (ℕ → Text) → ℕ → List Part → List Row
rows_of ids position [] = []
rows_of ids position (part ∷ parts) = row_at ids position part ∷ rows_of ids (position_behind position part) parts

-- the command has this argument
pub record HasOption (shape : Shape) (name : Text) : Type 0 where
  pub by_id : arg_by_id shape.rules name ≡ Some (valued name)
  pub by_long : arg_by_long shape.rules name ≡ Some (valued name)

pub record HasOperand (shape : Shape) (ids : ℕ → Text) (position : ℕ) : Type 0 where
  pub by_id : arg_by_id shape.rules (ids position) ≡ Some (placed position (ids position))
  pub by_index : arg_by_index shape.rules position ≡ Some (placed position (ids position))
  pub follows : min (position + 1) usize_max ≡ suc position

abbrev pub Has : Shape → (ℕ → Text) → ℕ → Part → Type 0
Has shape ids position (operand text) = HasOperand shape ids position
Has shape ids position json = arg_by_long shape.rules (codes "json") ≡ Some (flagged (codes "json"))
Has shape ids position (order value) = HasOption shape (codes "order")
Has shape ids position (steps value) = HasOption shape (codes "steps")
Has shape ids position (input value) = HasOption shape (codes "input")

-- the command has the parts' arguments, each for one part at most
abbrev pub Suits : Shape → (ℕ → Text) → ℕ → List Part → List Row → Type 0
Suits shape ids position [] rows = Unit {0}
Suits shape ids position (part ∷ parts) rows =
    Has shape ids position part × (has_row (rule_at ids position part).id rows ≡ false)
    × Suits shape ids (position_behind position part) parts (rows ++ row_at ids position part ∷ [])

-- one part
module _ (shape : Shape) (ids : ℕ → Text) where
  option_steps : (name : Text) (w : Walk) (position : ℕ) (rows : List Row) (value : Text) (words behind : List Text) (whole : Text) → At shape w position rows → HasOption shape name → has_row name rows ≡ false
      → bytes_eq whole (45 ∷ 45 ∷ []) ≡ false → long_of whole ≡ Some (name, None)
      → bytes_eq (whole ++ equals_sign ∷ value) (45 ∷ 45 ∷ []) ≡ false → long_of (whole ++ equals_sign ∷ value) ≡ Some (name, Some value)
      → BeginsOption whole value words behind → Steps shape w words behind position (rows ++ row_of_use (valued name) (value ∷ []) ∷ [])
  option_steps name w position rows value words behind whole at has fresh no_end is no_end_joined is_joined (plain, inl parted) =
      subst (λ all. Steps shape w all behind position (rows ++ row_of_use (valued name) (value ∷ []) ∷ [])) (sym parted)
      (parted_steps shape w position rows at name has.by_id fresh has.by_long value whole no_end is plain behind)
  option_steps name w position rows value words behind whole at has fresh no_end is no_end_joined is_joined (plain, inr joined) =
      subst (λ all. Steps shape w all behind position (rows ++ row_of_use (valued name) (value ∷ []) ∷ [])) (sym joined)
      (joined_steps shape w position rows at name has.by_id fresh has.by_long value (whole ++ equals_sign ∷ value) no_end_joined is_joined behind)

  part_steps : (part : Part) (w : Walk) (position : ℕ) (rows : List Row) (words behind : List Text) → At shape w position rows → Has shape ids position part
      → has_row (rule_at ids position part).id rows ≡ false → Begins part words behind → Steps shape w words behind (position_behind position part) (rows ++ row_at ids position part ∷ [])
  part_steps (operand text) w position rows words behind at has fresh begins =
      subst (λ all. Steps shape w all behind (suc position) (rows ++ row_of_use (placed position (ids position)) (text ∷ []) ∷ [])) (sym begins.1)
      (operand_steps shape w position (suc position) rows at (ids position) has.by_id fresh has.by_index has.follows text begins.0 behind)
  part_steps json w position rows words behind at has fresh begins =
      subst (λ all. Steps shape w all behind position (rows ++ row_of_use (flagged (codes "json")) [] ∷ [])) (sym begins)
      (flag_steps shape w position rows at (codes "json") fresh has (codes "--json") refl refl behind)
  part_steps (order value) w position rows words behind at has fresh begins =
      option_steps (codes "order") w position rows value words behind (codes "--order") at has fresh refl refl refl refl begins
  part_steps (steps value) w position rows words behind at has fresh begins =
      option_steps (codes "steps") w position rows value words behind (codes "--steps") at has fresh refl refl refl refl begins
  part_steps (input value) w position rows words behind at has fresh begins =
      option_steps (codes "input") w position rows value words behind (codes "--input") at has fresh refl refl refl refl begins

  -- the end of a walk
  pub record Ends (w : Walk) (words : List Text) (rows : List Row) : Type 0 where
    pub passes : walk_passes shape [] w words ≡ true
    pub position : ℕ
    pub at : At shape (fold (walked shape.rules []) w words) position rows

  onward : (w : Walk) (words behind : List Text) (position : ℕ) (rows final : List Row) (step : Steps shape w words behind position rows) → Ends step.next behind final → Ends w words final
  onward w words behind position rows final step ends = record {
    passes = step.passes ends.passes;
    position = ends.position;
    at = subst (λ (end : Walk). At shape end ends.position final) (sym step.goes) ends.at;
  }

  finishes : (w : Walk) (words : List Text) (position : ℕ) (rows : List Row) → At shape w position rows → words ≡ [] → Ends w words (rows ++ [])
  unfolding walk_passes
  finishes w [] position rows at none = record { passes = refl; position = position; at = subst (At shape w position) (sym (append_nil rows)) at }
  finishes w (word ∷ words) position rows at none = absurd cc

  pub walk_ends : (parts : List Part) (w : Walk) (position : ℕ) (rows : List Row) (words : List Text) → At shape w position rows → Suits shape ids position parts rows → Are parts words
      → Ends w words (rows ++ rows_of ids position parts)
  walk_ends [] w position rows words at suits are = finishes w words position rows at are
  walk_ends (part ∷ parts) w position rows words at suits are =
      let step = part_steps part w position rows words are.0 at suits.0 suits.1 are.1 in
      let after = walk_ends parts step.next (position_behind position part) (rows ++ row_at ids position part ∷ []) are.0 step.at suits.2 are.2 in
      onward w words are.0 (position_behind position part) (rows ++ row_at ids position part ∷ []) (rows ++ row_at ids position part ∷ rows_of ids (position_behind position part) parts) step
      (subst (Ends step.next are.0) (append_assoc rows (row_at ids position part ∷ []) (rows_of ids (position_behind position part) parts)) after)
