-- How `clap` walks over one operand or option.
use Rattle.std.proofs.Common.{◌≡◌, ◌∙◌, ℕ, ◌+◌, min, Bool, true, false, not, ◌&&◌, ◌||◌, if◌then◌else◌, refl, sym, ap, ap₂, List, [], ◌∷◌, ◌++◌, Option, Some, None, codes, bytes_eq, option_and_then, nat_lt, fold}
use Rattle.std.specs.Option.{option_map_or}
use Rattle.std.proofs.lemmas.Bool.{false≢true, cond-false}
use Rattle.std.proofs.lemmas.Slice.Eq.{bytes_eq-Decides}
use Rattle.clap.specs.declared.builder.action.ArgAction.TheVariants.{Set, SetTrue}
use Rattle.clap.specs.declared.builder.value_parser.Reading.{Reading}
use Rattle.clap.specs.declared.builder.value_parser.ValueParser.TheVariants as parser
use Rattle.clap.specs.declared.parser.matches.ValueSource.TheVariants.{CommandLine}
use Rattle.clap.specs.Lexer.{strip_byte, long_of, long_of_rest, short_of, short_of_rest, usize_max}
use Rattle.clap.specs.Walk.{Held, Row, Rule, Step, Text, Waiting, Walk, after_flag, after_step, arg_by_id, arg_by_index, arg_by_long, at_row, has_row, idle, is_pending, long_met, long_or_other, more_values, next, option, option_word, pushed, reading_by, settled, settled_rows, short_or_plain, plain_word, takes_several, to_positional, trailing, used, used_by_id, value, values_or_missing, walked, with_values, without, word_met}
use Rattle.clap.specs.Simple.{Shape, new_rule}
use Rattle.clap.specs.Takes.{flag_word_passes, bundle_passes, long_passes, settle_passes, step_passes, turn_passes, use_passes, walk_passes, word_passes}
use Rattle.dm_words.specs.Requests.{is_plain_word}

-- what is so where its negation isn't
not_true : (b : Bool) → not b ≡ true → b ≡ false
not_true true denied = absurd (false≢true denied)
not_true false denied = refl

and_false : (b : Bool) → (b && false) ≡ false
and_false true = refl
and_false false = refl

or_true : (b : Bool) → (b || true) ≡ true
or_true true = refl
or_true false = refl

pub same_text : (text : List ℕ) → bytes_eq text text ≡ true
same_text text = (bytes_eq-Decides text text).1 refl

-- a plain word doesn't begin with a hyphen
no_hyphen : (word : List ℕ) → is_plain_word word ≡ true → strip_byte 45 word ≡ None
no_hyphen [] plain = refl
no_hyphen (a ∷ more) plain = ap (λ b. if b then Some more else None) (not_true _ plain)

no_dashes : (word : List ℕ) → is_plain_word word ≡ true → bytes_eq word (45 ∷ 45 ∷ []) ≡ false
no_dashes [] plain = refl
no_dashes (a ∷ more) plain = ap (λ b. b && bytes_eq more (45 ∷ [])) (not_true _ plain)

no_long : (word : List ℕ) → is_plain_word word ≡ true → long_of word ≡ None
no_long word plain = ap (λ rest. option_and_then long_of_rest (option_and_then (strip_byte 45) rest)) (no_hyphen word plain)

no_short : (word : List ℕ) → is_plain_word word ≡ true → short_of word ≡ None
no_short word plain = ap (option_and_then short_of_rest) (no_hyphen word plain)

-- where the walk stands between two operands or options
abbrev pub holding : List Row → Option (Text × List Text) → Held
holding rows pending = record { rows = rows; pending = pending; skip = 0 }

abbrev pub standing : List Row → Option (Text × List Text) → ℕ → Walk
standing rows pending position = record { held = holding rows pending; waiting = idle; position = position; is_trailing = false; stopped = None }

-- the rows of a walk, with what is pending settled
pub record At (shape : Shape) (w : Walk) (position : ℕ) (rows : List Row) : Type 0 where
  pub before : List Row
  pub pending : Option (Text × List Text)
  pub is : w ≡ standing before pending position
  pub settles : settled_rows shape.rules pending before ≡ rows
  pub passes : settle_passes shape.rules shape.args_override_self (holding before pending) ≡ true

-- the words of an operand or option, and the walk behind them
pub record Steps (shape : Shape) (w : Walk) (words behind : List Text) (position : ℕ) (rows : List Row) : Type 0 where
  pub next : Walk
  pub at : At shape next position rows
  pub passes : walk_passes shape [] next behind ≡ true → walk_passes shape [] w words ≡ true
  pub goes : fold (walked shape.rules []) w words ≡ fold (walked shape.rules []) next behind

-- an argument that takes one value, and the flag
abbrev pub taking : Text → Option Text → Option ℕ → Bool → Rule
taking id long index required = record (new_rule id) {
  long = long;
  index = index;
  required = required;
  action = Some Set;
  range = Some (record { start_inclusive = 1; end_inclusive = 1 });
  parser = Some parser.String;
}

abbrev pub placed : ℕ → Text → Rule
placed position id = taking id None (Some position) true

abbrev pub valued : Text → Rule
valued name = taking name (Some name) None false

abbrev pub flagged : Text → Rule
flagged name = record (new_rule name) {
  long = Some name;
  action = Some SetTrue;
  defaults = codes "false" ∷ [];
  missing = codes "true" ∷ [];
  range = Some (record { start_inclusive = 0; end_inclusive = 0 });
  parser = Some parser.Bool;
}

-- the row of a first use
abbrev pub row_of_use : Rule → List Text → Row
row_of_use a values = record { id = a.id; values = values_or_missing a values; count = None; source = Some CommandLine; reading = reading_by a }

changed_row : (id : Text) (change : Row → List Row) (missing rows : List Row) (row : Row) (same : Bool) → bytes_eq row.id id ≡ same → (same || has_row id rows) ≡ false
    → (has_row id rows ≡ false → at_row id change missing rows ≡ rows ++ missing) → at_row id change missing (row ∷ rows) ≡ row ∷ (rows ++ missing)
changed_row id change missing rows row true is fresh more = absurd (false≢true (sym fresh))
changed_row id change missing rows row false is fresh more = cond-false (bytes_eq row.id id) _ _ is ∙ ap (λ others. row ∷ others) (more fresh)

new_row : (id : Text) (change : Row → List Row) (missing rows : List Row) → has_row id rows ≡ false → at_row id change missing rows ≡ rows ++ missing
new_row id change missing [] fresh = refl
new_row id change missing (row ∷ rows) fresh =
    changed_row id change missing rows row (bytes_eq row.id id) refl fresh (λ none. new_row id change missing rows none)

pub append_nil : (rows : List Row) → rows ++ [] ≡ rows
append_nil [] = refl
append_nil (row ∷ rows) = ap (λ more. row ∷ more) (append_nil rows)

first_values : (id : Text) (how : Reading) (values : List Text) (rows : List Row) → has_row id rows ≡ false
    → with_values id how CommandLine values (without id rows) ≡ rows ++ record { id = id; values = values; count = None; source = Some CommandLine; reading = how } ∷ []
first_values id how values rows fresh =
    ap (with_values id how CommandLine values) (new_row id (λ _. []) [] rows fresh ∙ append_nil rows) ∙ new_row id (more_values CommandLine values) _ rows fresh

module _ (shape : Shape) where
  abbrev rules : List Rule
  rules = shape.rules

  abbrev again : Bool
  again = shape.args_override_self

  -- a plain word is a value
  met_idle : (held : Held) (position : ℕ) (word : List ℕ) → is_plain_word word ≡ true → word_met rules [] false idle position word held ≡ (held, value)
  met_idle held position word plain =
      ap (λ b. if b then (held, trailing position) else long_or_other rules idle word (long_of word) held) (no_dashes word plain)
      ∙ ap (λ long. long_or_other rules idle word long held) (no_long word plain)
      ∙ ap (λ short. short_or_plain rules idle word short held) (no_short word plain)

  met_waiting : (id : Text) (held : Held) (position : ℕ) (word : List ℕ) → is_plain_word word ≡ true → word_met rules [] false (option id) position word held ≡ plain_word rules (option id) word held
  met_waiting id held position word plain =
      ap (λ b. if b then (held, trailing position) else long_or_other rules (option id) word (long_of word) held) (no_dashes word plain)
      ∙ ap (λ long. long_or_other rules (option id) word long held) (no_long word plain)
      ∙ ap (λ short. short_or_plain rules (option id) word short held) (no_short word plain)

  word_passes-plain : (waiting : Waiting) (held : Held) (word : List ℕ) → is_plain_word word ≡ true
      → (bytes_eq word (45 ∷ 45 ∷ []) || flag_word_passes rules again (long_of word) word held) ≡ true
  word_passes-plain waiting held word plain =
      ap (λ b. b || flag_word_passes rules again (long_of word) word held) (no_dashes word plain)
      ∙ ap (λ long. flag_word_passes rules again long word held) (no_long word plain)
      ∙ ap (λ short. option_map_or (λ flags. bundle_passes rules again flags held) short true) (no_short word plain)

  -- a first use of an argument that takes one value
  module _ (id : Text) (long : Option Text) (index : Option ℕ) (required : Bool) (rows : List Row) (fresh : has_row id rows ≡ false) (text : List ℕ) where
    abbrev one : Rule
    one = taking id long index required

    used-one : used one (text ∷ []) rows ≡ rows ++ row_of_use one (text ∷ []) ∷ []
    used-one = first_values id (reading_by one) (text ∷ []) rows fresh

    use_passes-one : use_passes again one (text ∷ []) rows ≡ true
    use_passes-one = ap (λ b. (not b || again) && true) fresh

    at_pending : (position : ℕ) (w : Walk) → arg_by_id rules id ≡ Some one → w ≡ standing rows (Some (id, text ∷ [])) position
        → At shape w position (rows ++ row_of_use one (text ∷ []) ∷ [])
    at_pending position w known is = record {
      before = rows;
      pending = Some (id, text ∷ []);
      is = is;
      settles = ap (λ found. used_by_id found (text ∷ []) rows) known ∙ used-one;
      passes = ap (λ found. option_map_or (λ a. use_passes again a (text ∷ []) rows) found true) known ∙ use_passes-one;
    }

  -- an operand
  module _ (w : Walk) (position next_position : ℕ) (rows : List Row) (at : At shape w position rows) (id : Text) (known : arg_by_id rules id ≡ Some (placed position id)) (fresh : has_row id rows ≡ false)
      (is_here : arg_by_index rules position ≡ Some (placed position id)) (follows : min (position + 1) usize_max ≡ next_position) (text : List ℕ) (plain : is_plain_word text ≡ true) where
    abbrev stand : Walk
    stand = standing at.before at.pending position

    operand_walked : walked rules [] stand text ≡ standing rows (Some (id, text ∷ [])) next_position
    unfolding walked
    operand_walked =
        ap (λ (m : Held × Step). after_step rules text stand m.0 m.1) (met_idle stand.held position text plain)
        ∙ ap (λ found. to_positional rules found text stand stand.held) is_here
        ∙ ap (λ b. record (to_positional rules (Some (placed position id)) text stand stand.held) { held = pushed id text (if b then stand.held else settled rules stand.held) })
        (and_false (is_pending (placed position id) at.pending))
        ∙ ap₂ (λ settled_to p. standing settled_to (Some (id, text ∷ [])) p) at.settles follows

    operand_passes : turn_passes shape [] stand text ≡ true
    operand_passes =
        ap (λ (m : Held × Step). word_passes shape [] false idle text stand.held && step_passes shape position m.0 m.1) (met_idle stand.held position text plain)
        ∙ ap (λ b. b && step_passes shape position stand.held value) (word_passes-plain idle stand.held text plain)
        ∙ ap (λ found. option_map_or (λ a. (is_pending a at.pending && takes_several a) || settle_passes rules again stand.held) found false) is_here
        ∙ ap (λ b. (is_pending (placed position id) at.pending && false) || b) at.passes
        ∙ or_true (is_pending (placed position id) at.pending && false)

    pub operand_steps : (behind : List Text) → Steps shape w (text ∷ behind) behind next_position (rows ++ row_of_use (placed position id) (text ∷ []) ∷ [])
    unfolding walk_passes
    operand_steps behind = record {
      next = walked rules [] w text;
      at = at_pending id None (Some position) true rows fresh text next_position (walked rules [] w text) known (ap (λ (v : Walk). walked rules [] v text) at.is ∙ operand_walked);
      passes = λ more. ap (λ b. b && walk_passes shape [] (walked rules [] w text) behind) (ap (λ (v : Walk). turn_passes shape [] v text) at.is ∙ operand_passes) ∙ more;
      goes = refl;
    }

  -- an option with a value
  module _ (w : Walk) (position : ℕ) (rows : List Row) (at : At shape w position rows) (name : Text) (known : arg_by_id rules name ≡ Some (valued name)) (fresh : has_row name rows ≡ false)
      (is_long : arg_by_long rules name ≡ Some (valued name)) (text : List ℕ) (word : List ℕ) (no_end : bytes_eq word (45 ∷ 45 ∷ []) ≡ false) where
    abbrev here : Walk
    here = standing at.before at.pending position

    -- in one word
    module _ (is_option : long_of word ≡ Some (name, Some text)) where
      joined_met : word_met rules [] false idle position word here.held ≡ (holding (used (valued name) (text ∷ []) (settled_rows rules at.pending at.before)) None, next idle)
      joined_met =
          ap (λ b. if b then (here.held, trailing position) else long_or_other rules idle word (long_of word) here.held) no_end
          ∙ ap (λ long. long_or_other rules idle word long here.held) is_option
          ∙ ap (λ found. after_flag rules idle word (long_met rules found (Some text) here.held).0 (long_met rules found (Some text) here.held).1) is_long

      joined_walked : walked rules [] here word ≡ standing (used (valued name) (text ∷ []) (settled_rows rules at.pending at.before)) None position
      unfolding walked
      joined_walked = ap (λ (m : Held × Step). after_step rules word here m.0 m.1) joined_met

      joined_passes : turn_passes shape [] here word ≡ true
      joined_passes =
          ap (λ (m : Held × Step). word_passes shape [] false idle word here.held && step_passes shape position m.0 m.1) joined_met
          ∙ ap (λ b. (b || flag_word_passes rules again (long_of word) word here.held) && true) no_end
          ∙ ap (λ long. flag_word_passes rules again long word here.held && true) is_option
          ∙ ap (λ found. long_passes rules again found (Some text) here.held && true) is_long
          ∙ ap (λ b. (b && use_passes again (valued name) (text ∷ []) (settled_rows rules at.pending at.before)) && true) at.passes
          ∙ ap (λ settled_to. use_passes again (valued name) (text ∷ []) settled_to && true) at.settles
          ∙ ap (λ b. b && true) (use_passes-one name (Some name) None false rows fresh text)

      pub joined_steps : (behind : List Text) → Steps shape w (word ∷ behind) behind position (rows ++ row_of_use (valued name) (text ∷ []) ∷ [])
      unfolding walk_passes
      joined_steps behind = record {
        next = walked rules [] w word;
        at = record {
          before = used (valued name) (text ∷ []) (settled_rows rules at.pending at.before);
          pending = None;
          is = ap (λ (v : Walk). walked rules [] v word) at.is ∙ joined_walked;
          settles = ap (used (valued name) (text ∷ [])) at.settles ∙ used-one name (Some name) None false rows fresh text;
          passes = refl;
        };
        passes = λ more. ap (λ b. b && walk_passes shape [] (walked rules [] w word) behind) (ap (λ (v : Walk). turn_passes shape [] v word) at.is ∙ joined_passes) ∙ more;
        goes = refl;
      }

    -- in two words
    module _ (is_option : long_of word ≡ Some (name, None)) (plain : is_plain_word text ≡ true) where
      abbrev expecting : Walk
      expecting = record here { held = holding rows (Some (name, [])); waiting = option name }

      parted_met : word_met rules [] false idle position word here.held ≡ (holding (settled_rows rules at.pending at.before) (Some (name, [])), next (option name))
      parted_met =
          ap (λ b. if b then (here.held, trailing position) else long_or_other rules idle word (long_of word) here.held) no_end
          ∙ ap (λ long. long_or_other rules idle word long here.held) is_option
          ∙ ap (λ found. after_flag rules idle word (long_met rules found None here.held).0 (long_met rules found None here.held).1) is_long

      parted_walked : walked rules [] here word ≡ expecting
      unfolding walked
      parted_walked =
          ap (λ (m : Held × Step). after_step rules word here m.0 m.1) parted_met
          ∙ ap (λ settled_to. record expecting { held = holding settled_to (Some (name, [])) }) at.settles

      parted_passes : turn_passes shape [] here word ≡ true
      parted_passes =
          ap (λ (m : Held × Step). word_passes shape [] false idle word here.held && step_passes shape position m.0 m.1) parted_met
          ∙ ap (λ b. (b || flag_word_passes rules again (long_of word) word here.held) && true) no_end
          ∙ ap (λ long. flag_word_passes rules again long word here.held && true) is_option
          ∙ ap (λ found. long_passes rules again found None here.held && true) is_long
          ∙ ap (λ b. b && true) at.passes

      value_met : word_met rules [] false (option name) position text expecting.held ≡ (holding rows (Some (name, text ∷ [])), next idle)
      value_met =
          met_waiting name expecting.held position text plain
          ∙ ap (λ found. ((option_word found name text expecting.held).0, next (option_word found name text expecting.held).1)) known
          ∙ ap (λ b. (holding rows (Some (name, text ∷ [])), next (if nat_lt (if b then 1 else 0) 1 then option name else idle))) (same_text name)

      value_walked : walked rules [] expecting text ≡ standing rows (Some (name, text ∷ [])) position
      unfolding walked
      value_walked = ap (λ (m : Held × Step). after_step rules text expecting m.0 m.1) value_met

      value_passes-here : turn_passes shape [] expecting text ≡ true
      value_passes-here =
          ap (λ (m : Held × Step). word_passes shape [] false (option name) text expecting.held && step_passes shape position m.0 m.1) value_met
          ∙ ap (λ b. b && true) (word_passes-plain (option name) expecting.held text plain)

      first_is : walked rules [] w word ≡ expecting
      first_is = ap (λ (v : Walk). walked rules [] v word) at.is ∙ parted_walked

      pub parted_steps : (behind : List Text) → Steps shape w (word ∷ text ∷ behind) behind position (rows ++ row_of_use (valued name) (text ∷ []) ∷ [])
      unfolding walk_passes
      parted_steps behind = record {
        next = walked rules [] (walked rules [] w word) text;
        at = at_pending name (Some name) None false rows fresh text position (walked rules [] (walked rules [] w word) text) known
            (ap (λ (v : Walk). walked rules [] v text) first_is ∙ value_walked);
        passes = λ more.
            ap (λ b. b && (turn_passes shape [] (walked rules [] w word) text && walk_passes shape [] (walked rules [] (walked rules [] w word) text) behind))
            (ap (λ (v : Walk). turn_passes shape [] v word) at.is ∙ parted_passes)
            ∙ ap (λ b. b && walk_passes shape [] (walked rules [] (walked rules [] w word) text) behind)
            (ap (λ (v : Walk). turn_passes shape [] v text) first_is ∙ value_passes-here)
            ∙ more;
        goes = refl;
      }

  -- the flag
  module _ (w : Walk) (position : ℕ) (rows : List Row) (at : At shape w position rows) (name : Text) (fresh : has_row name rows ≡ false) (is_long : arg_by_long rules name ≡ Some (flagged name))
      (word : List ℕ) (no_end : bytes_eq word (45 ∷ 45 ∷ []) ≡ false) (is_option : long_of word ≡ Some (name, None)) where
    abbrev now_here : Walk
    now_here = standing at.before at.pending position

    flag_met-here : word_met rules [] false idle position word now_here.held ≡ (holding (used (flagged name) [] (settled_rows rules at.pending at.before)) None, next idle)
    flag_met-here =
        ap (λ b. if b then (now_here.held, trailing position) else long_or_other rules idle word (long_of word) now_here.held) no_end
        ∙ ap (λ long. long_or_other rules idle word long now_here.held) is_option
        ∙ ap (λ found. after_flag rules idle word (long_met rules found None now_here.held).0 (long_met rules found None now_here.held).1) is_long

    flag_walked : walked rules [] now_here word ≡ standing (used (flagged name) [] (settled_rows rules at.pending at.before)) None position
    unfolding walked
    flag_walked = ap (λ (m : Held × Step). after_step rules word now_here m.0 m.1) flag_met-here

    flag_passes : turn_passes shape [] now_here word ≡ true
    flag_passes =
        ap (λ (m : Held × Step). word_passes shape [] false idle word now_here.held && step_passes shape position m.0 m.1) flag_met-here
        ∙ ap (λ b. (b || flag_word_passes rules again (long_of word) word now_here.held) && true) no_end
        ∙ ap (λ long. flag_word_passes rules again long word now_here.held && true) is_option
        ∙ ap (λ found. long_passes rules again found None now_here.held && true) is_long
        ∙ ap (λ b. (b && use_passes again (flagged name) [] (settled_rows rules at.pending at.before)) && true) at.passes
        ∙ ap (λ settled_to. use_passes again (flagged name) [] settled_to && true) at.settles
        ∙ ap (λ b. ((not b || again) && true) && true) fresh

    pub flag_steps : (behind : List Text) → Steps shape w (word ∷ behind) behind position (rows ++ row_of_use (flagged name) [] ∷ [])
    unfolding walk_passes
    flag_steps behind = record {
      next = walked rules [] w word;
      at = record {
        before = used (flagged name) [] (settled_rows rules at.pending at.before);
        pending = None;
        is = ap (λ (v : Walk). walked rules [] v word) at.is ∙ flag_walked;
        settles = ap (used (flagged name) []) at.settles ∙ first_values name (reading_by (flagged name)) (codes "true" ∷ []) rows fresh;
        passes = refl;
      };
      passes = λ more. ap (λ b. b && walk_passes shape [] (walked rules [] w word) behind) (ap (λ (v : Walk). turn_passes shape [] v word) at.is ∙ flag_passes) ∙ more;
      goes = refl;
    }
