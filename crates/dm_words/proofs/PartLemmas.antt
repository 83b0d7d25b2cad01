-- The operands and options that words begin with are those that are read.
use Rattle.std.proofs.Common.{◌≡◌, ℕ, Bool, true, false, cond, List, [], ◌∷◌, ◌++◌, length, take, drop, Option, Some, None, option_map, inl, inr, codes, bytes_eq, if◌then◌else◌, ◌⊎◌, refl, ap, ap₂, sym, subst, ◌==◌, ◌∙◌, ⊎_elim}
use Rattle.std.proofs.lemmas.Bool.{cases_Bool, eqb-true, cond-true, cond-false}
use Rattle.std.proofs.lemmas.List.{take-append-drop}
use Rattle.std.proofs.lemmas.Slice.Eq.{bytes_eq-Decides}
use Rattle.dm_words.specs.declared.part.Name.{Name}
use Rattle.dm_words.specs.declared.part.Name.TheVariants as name
use Rattle.dm_words.specs.Requests.{Part, operand, json, order, steps, input, Begins, is_plain_word, equals_sign}
use Rattle.dm_words.specs.Readings.{part_of, option_of, option_with, value_at, made_by, made_of, name_at, starts, then_read, with_behind}

-- a part that words begin with is read
option_made : (make : List ℕ → Part) (behind : List (List ℕ)) (value : List ℕ) → is_plain_word value ≡ true
    → option_map (with_behind behind) (cond (is_plain_word value) (Some (make value)) None) ≡ Some (with_behind behind (make value))
option_made make behind value plain = ap (λ test. option_map (with_behind behind) (cond test (Some (make value)) None)) plain

pub begins-read : (part : Part) (words behind : List (List ℕ)) → Begins part words behind → part_of words ≡ Some (with_behind behind part)
begins-read (operand text) words behind is = ap part_of is.1 ∙ cond-true (is_plain_word text) _ _ is.0
begins-read json words behind is = ap part_of is
begins-read (order value) words behind (plain, inl same) = ap part_of same ∙ option_made order behind value plain
begins-read (order value) words behind (plain, inr same) = ap part_of same ∙ option_made order behind value plain
begins-read (steps value) words behind (plain, inl same) = ap part_of same ∙ option_made steps behind value plain
begins-read (steps value) words behind (plain, inr same) = ap part_of same ∙ option_made steps behind value plain
begins-read (input value) words behind (plain, inl same) = ap part_of same ∙ option_made input behind value plain
begins-read (input value) words behind (plain, inr same) = ap part_of same ∙ option_made input behind value plain

-- what is read begins the words
some_is : {A : Type 0} {a b : A} → Some a ≡ Some b → a ≡ b
some_is {A} {a} {b} same = cc

part_in : Part → Option (Part × List (List ℕ)) → Part
part_in part None = part
part_in part (Some found) = found.0

behind_in : List (List ℕ) → Option (Part × List (List ℕ)) → List (List ℕ)
behind_in behind None = behind
behind_in behind (Some found) = found.1

pub same_parts : (part other : Part) (behind others : List (List ℕ)) → Some (with_behind behind part) ≡ Some (with_behind others other) → (part ≡ other) × (behind ≡ others)
unfolding part_in behind_in
same_parts part other behind others same = (ap (part_in part) same, ap (behind_in behind) same)

made_is : (found : Option Part) (part : Part) (rest behind : List (List ℕ)) → option_map (with_behind rest) found ≡ Some (with_behind behind part) → (found ≡ Some part) × (rest ≡ behind)
made_is None part rest behind same = absurd cc
made_is (Some one) part rest behind same = let both = same_parts one part rest behind same in (ap Some both.0, both.1)

abbrev text_of : Name → List ℕ
text_of name.Order = codes "--order"
text_of name.Steps = codes "--steps"
text_of name.Input = codes "--input"

seven : (name : Name) → length (text_of name) ≡ 7
seven name.Order = refl
seven name.Steps = refl
seven name.Input = refl

alone : (name : Name) → text_of name ++ [] ≡ text_of name
alone name.Order = refl
alone name.Steps = refl
alone name.Input = refl

front : (name : Name) (word : List ℕ) → starts (text_of name) word ≡ true → word ≡ text_of name ++ drop 7 word
front name word is =
    let text = text_of name in
    sym (take-append-drop (length text) word)
    ∙ ap (λ first. first ++ drop (length text) word) ((bytes_eq-Decides (take (length text) word) text).0 is)
    ∙ ap (λ count. text ++ drop count word) (seven name)

-- an option with its value
record IsOption (name : Name) (words : List (List ℕ)) (part : Part) (behind : List (List ℕ)) : Type 0 where
  value : List ℕ
  made : made_of name value ≡ Some part
  stands : (words ≡ text_of name ∷ value ∷ behind) ⊎ (words ≡ (text_of name ++ equals_sign ∷ value) ∷ behind)

option-read : (name : Name) (word tail : List ℕ) (rest : List (List ℕ)) (part : Part) (behind : List (List ℕ)) → word ≡ text_of name ++ tail
    → option_with name (value_at tail rest) ≡ Some (with_behind behind part) → IsOption name (word ∷ rest) part behind
option-read name word [] [] part behind is read = absurd cc
option-read name word [] (value ∷ rest) part behind is read =
    let both = made_is (made_of name value) part rest behind read in
    record { value = value; made = both.0; stands = inl (ap₂ (λ first others. first ∷ value ∷ others) (is ∙ alone name) both.1) }
option-read name word (byte ∷ value) rest part behind is read =
    ⊎_elim
    (λ equal.
    let both = made_is (made_of name value) part rest behind (sym (ap (option_with name) (cond-true (byte == equals_sign) (Some (value, rest)) None equal)) ∙ read) in
    let sign : byte ≡ equals_sign = eqb-true byte equals_sign equal in
    record { value = value; made = both.0; stands = inr (ap₂ (λ first others. first ∷ others) (is ∙ ap (λ one. text_of name ++ one ∷ value) sign) both.1) })
    (λ other. let none : None ≡ Some (with_behind behind part) = sym (ap (option_with name) (cond-false (byte == equals_sign) (Some (value, rest)) None other)) ∙ read in absurd cc)
    (cases_Bool (byte == equals_sign))

begins_with : (name : Name) (value : List ℕ) (words behind : List (List ℕ)) → is_plain_word value ≡ true
    → (words ≡ text_of name ∷ value ∷ behind) ⊎ (words ≡ (text_of name ++ equals_sign ∷ value) ∷ behind) → Begins (made_by name value) words behind
begins_with name.Order value words behind plain stands = (plain, stands)
begins_with name.Steps value words behind plain stands = (plain, stands)
begins_with name.Input value words behind plain stands = (plain, stands)

begins_made : (name : Name) (value : List ℕ) (part : Part) (words behind : List (List ℕ)) → made_of name value ≡ Some part
    → (words ≡ text_of name ∷ value ∷ behind) ⊎ (words ≡ (text_of name ++ equals_sign ∷ value) ∷ behind) → Begins part words behind
begins_made name value part words behind made stands =
    ⊎_elim
    (λ plain.
    subst (λ one. Begins one words behind) (some_is (sym (cond-true (is_plain_word value) (Some (made_by name value)) None plain) ∙ made))
    (begins_with name value words behind plain stands))
    (λ other. let none : None ≡ Some part = sym (cond-false (is_plain_word value) (Some (made_by name value)) None other) ∙ made in absurd cc)
    (cases_Bool (is_plain_word value))

named-read : (name : Name) (word : List ℕ) (rest : List (List ℕ)) (part : Part) (behind : List (List ℕ)) → starts (text_of name) word ≡ true → name_at word ≡ Some (name, drop 7 word)
    → option_of word rest ≡ Some (with_behind behind part) → Begins part (word ∷ rest) behind
named-read name word rest part behind is named read =
    let found = option-read name word (drop 7 word) rest part behind (front name word is) (sym (ap (λ found. then_read found (λ given. option_with given.0 (value_at given.1 rest))) named) ∙ read) in
    begins_made name found.value part (word ∷ rest) behind found.made found.stands

option_of-read : (word : List ℕ) (rest : List (List ℕ)) (part : Part) (behind : List (List ℕ)) → option_of word rest ≡ Some (with_behind behind part) → Begins part (word ∷ rest) behind
option_of-read word rest part behind read = at (starts (codes "--order") word) refl (starts (codes "--steps") word) refl (starts (codes "--input") word) refl
  where
    at : (is_order : Bool) → starts (codes "--order") word ≡ is_order → (is_steps : Bool) → starts (codes "--steps") word ≡ is_steps
        → (is_input : Bool) → starts (codes "--input") word ≡ is_input → Begins part (word ∷ rest) behind
    at true a is_steps b is_input c = named-read name.Order word rest part behind a (cond-true (starts (codes "--order") word) _ _ a) read
    at false a true b is_input c =
        named-read name.Steps word rest part behind b (cond-false (starts (codes "--order") word) _ _ a ∙ cond-true (starts (codes "--steps") word) _ _ b) read
    at false a false b true c =
        named-read name.Input word rest part behind c
        (cond-false (starts (codes "--order") word) _ _ a ∙ cond-false (starts (codes "--steps") word) _ _ b ∙ cond-true (starts (codes "--input") word) _ _ c) read
    at false a false b false c =
        let unnamed : name_at word ≡ None = cond-false (starts (codes "--order") word) _ _ a ∙ cond-false (starts (codes "--steps") word) _ _ b ∙ cond-false (starts (codes "--input") word) _ _ c in
        let none : None ≡ Some (with_behind behind part) = sym (ap (λ found. then_read found (λ given. option_with given.0 (value_at given.1 rest))) unnamed) ∙ read in
        absurd cc

unplain-read : (word : List ℕ) (rest : List (List ℕ)) (part : Part) (behind : List (List ℕ))
    → (if bytes_eq word (codes "--json") then Some (with_behind rest json) else option_of word rest) ≡ Some (with_behind behind part) → Begins part (word ∷ rest) behind
unplain-read word rest part behind read =
    ⊎_elim
    (λ is.
    let both = same_parts json part rest behind (sym (cond-true (bytes_eq word (codes "--json")) (Some (with_behind rest json)) (option_of word rest) is) ∙ read) in
    subst (λ one. Begins one (word ∷ rest) behind) both.0 (ap₂ (λ first others. first ∷ others) ((bytes_eq-Decides word (codes "--json")).0 is) both.1))
    (λ other. option_of-read word rest part behind (sym (cond-false (bytes_eq word (codes "--json")) (Some (with_behind rest json)) (option_of word rest) other) ∙ read))
    (cases_Bool (bytes_eq word (codes "--json")))

pub read-begins : (words : List (List ℕ)) (part : Part) (behind : List (List ℕ)) → part_of words ≡ Some (with_behind behind part) → Begins part words behind
read-begins [] part behind read = absurd cc
read-begins (word ∷ rest) part behind read =
    ⊎_elim
    (λ plain.
    let both = same_parts (operand word) part rest behind (sym (cond-true (is_plain_word word) (Some (with_behind rest (operand word))) _ plain) ∙ read) in
    subst (λ one. Begins one (word ∷ rest) behind) both.0 (plain, ap (λ others. word ∷ others) both.1))
    (λ other. unplain-read word rest part behind (sym (cond-false (is_plain_word word) (Some (with_behind rest (operand word))) _ other) ∙ read))
    (cases_Bool (is_plain_word word))
