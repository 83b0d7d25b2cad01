-- Sets of names that grow.
use Rattle.std.proofs.Common.{◌≡◌, ℕ, ◌+◌, ◌<◌, Bool, true, false, cond, ◌||◌, List, [], ◌∷◌, ◌++◌, length, take, get_or, Option, Some, None, bytes_eq, refl, sym, ap, ◌∙◌}
use Rattle.std.specs.Prelude.{is_some}
use Rattle.std.specs.List.{list_any}
use Rattle.std.specs.Cmp.Lexicographic.{slice_cmp, texts_ties}
use Rattle.std.specs.Ordering.{nat_cmp}
use Rattle.std.specs.FinMap as finite
use Rattle.std.proofs.lemmas.Cmp.{nat_list_cmp_total}
use Rattle.std.proofs.lemmas.List.{take_more}
use Rattle.std.proofs.lemmas.List.Folds.{list_any-append}
use Rattle.dm_name_map.specs.Numbers.{Numbers}
use Rattle.dm_reading.specs.declared.reading.Reading.{Reading}
use Rattle.dm_rules.specs.declared.index.Index.{Index}
use Rattle.dm_rules.specs.Indexes.{readings_of}

pub none-there : (names : Numbers) → names ≡ finite.empty → (other : List ℕ) → is_some (finite.get names other) ≡ false
none-there names empty other = ap (λ (m : Numbers). is_some (finite.get m other)) empty ∙ ap is_some (finite.get-empty {X = ℕ} (slice_cmp nat_cmp) other)

pub one-more : (names new : Numbers) (name other : List ℕ) → new ≡ finite.insert names name 0 → is_some (finite.get new other) ≡ (is_some (finite.get names other) || bytes_eq other name)
one-more names new name other is =
    ap (λ (m : Numbers). is_some (finite.get m other)) is
    ∙ (ap is_some (finite.get-insert nat_list_cmp_total names name 0 other ∙ ap (λ (b : Bool). cond b (Some 0) (finite.get names other)) (sym (texts_ties other name)))
    ∙ by (bytes_eq other name) (finite.get names other))
  where
    by : (b : Bool) (found : Option ℕ) → is_some (cond b (Some 0) found) ≡ (is_some found || b)
    by true None = refl
    by true (Some n) = refl
    by false None = refl
    by false (Some n) = refl

-- ---- the names of one thing more

or-none : (b : Bool) → (b || false) ≡ b
or-none true = refl
or-none false = refl

or-assoc : (p q r : Bool) → ((p || q) || r) ≡ (p || (q || r))
or-assoc true q r = refl
or-assoc false q r = refl

pub one-further : {A : Type 0} (test : A → Bool) (xs : List A) (i : ℕ) (d : A) (first old new : Bool) → i < length xs
    → old ≡ (first || list_any test (take i xs)) → new ≡ (old || test (get_or xs i d)) → new ≡ (first || list_any test (take (i + 1) xs))
one-further test xs i d first old new inside known more =
    let x = get_or xs i d in
    more ∙ ap (λ b. b || test x) known ∙ or-assoc first (list_any test (take i xs)) (test x)
    ∙ ap (λ b. first || b) (ap (λ b. list_any test (take i xs) || b) (sym (or-none (test x))) ∙ sym (list_any-append test (take i xs) (x ∷ [])) ∙ ap (list_any test) (sym (take_more xs i d inside)))

last-unit : (test : Reading → Bool) (units : List Index) (last : Index) → list_any test (readings_of (units ++ last ∷ [])) ≡ (list_any test (readings_of units) || test last.reading.now)
last-unit test [] last = or-none (test last.reading.now)
last-unit test (unit ∷ units) last =
    ap (λ b. test unit.reading.now || b) (last-unit test units last) ∙ sym (or-assoc (test unit.reading.now) (list_any test (readings_of units)) (test last.reading.now))

pub one-unit-further : (test : Reading → Bool) (units : List Index) (i : ℕ) (d : Index) (old new : Bool) → i < length units
    → old ≡ list_any test (readings_of (take i units)) → new ≡ (old || test (get_or units i d).reading.now) → new ≡ list_any test (readings_of (take (i + 1) units))
one-unit-further test units i d old new inside known more =
    let unit = get_or units i d in
    more ∙ ap (λ b. b || test unit.reading.now) known ∙ sym (last-unit test (take i units) unit) ∙ ap (λ them. list_any test (readings_of them)) (sym (take_more units i d inside))
