-- Objects that the test takes for set are integers that are of static storage duration, or have a first value.
use Rattle.std.specs.Prelude.{◌≡◌, refl, ◌⊎◌, ℕ, ◌==◌, Bool, true, false, not, ◌&&◌, ◌||◌, List, [], ◌∷◌, Option, Some, None, is_some, slice_get, if◌then◌else◌}
use Rattle.std.specs.List.{list_any}
use Rattle.std.proofs.Common.{ap, sym, ◌∙◌, subst, inl, inr}
use Rattle.std.proofs.lemmas.Bool.{true≢false, false≢true}
use Rattle.dm_type.specs.Tables.{Table}
use Rattle.dm_tree.specs.declared.unit.Sort.{Sort}
use Rattle.dm_tree.specs.declared.unit.Sort.TheVariants.{Object}
use Rattle.dm_tree.specs.Scenes.{is_integer}
use Rattle.dm_tree.specs.Trees.{Tree}
use Rattle.dm_tree.specs.Typing.{IsWellTypedUnit}
use Rattle.dm_tree.specs.Units.{Declaration, TypedUnit}
use Rattle.dm_meaning.specs.Among.{IsAmong}
use Rattle.dm_meaning.specs.Called.{is_static_number}
use Rattle.dm_meaning.specs.Programs.{declaration_at, Static}
use Rattle.dm_meaning.specs.Statements.{Local}
use Rattle.dm_meaning.specs.Units.{all_locals, is_static, is_static_declaration, is_static_sort, program_of, statics_from, with_initialiser, with_static}
use Rattle.dm_meaning.proofs.GrowLemmas.{differ_is, equal_is, equal_of}
use Rattle.dm_meaning.proofs.OptionLemmas.{and_left, and_right}
use Rattle.dm_effect.specs.Entities.{locals_of_unit}
use Rattle.dm_effect.specs.Safe.{defines_here, is_defined}
use Rattle.dm_initialised.specs.Units.{has_first_value}
use Rattle.dm_safe.specs.SafePrograms.{IsSetDeclaration}
use Rattle.dm_in_place.specs.InPlace.{has_value_at, initialises_by, is_set_at, is_set_entry_at, tokens_of}
use Rattle.dm_in_place.proofs.LocalLemmas.{local_listed}

-- ---- tests

module _ {X : Type 0} (test : X → Bool) where
  abbrev pub Found : List X → Type 0
  Found xs = (x : X) × IsAmong x xs × (test x ≡ true)

  pub any_found : (xs : List X) → list_any test xs ≡ true → Found xs
  any_found [] e = absurd (false≢true e)
  any_found (first ∷ rest) e = by_test (test first) refl e (any_found rest)
    where
      by_test : (b : Bool) → test first ≡ b → (b || list_any test rest) ≡ true → (list_any test rest ≡ true → Found rest) → Found (first ∷ rest)
      by_test true is h later = (first, inl refl, is)
      by_test false is h later = let found = later h in (found.0, inr found.1, found.2)

either : (a b c : Bool) → (a || b) ≡ true → (b ≡ true → c ≡ true) → (a || c) ≡ true
either true b c e f = refl
either false b c e f = f e

or_right : (a b : Bool) → b ≡ true → (a || b) ≡ true
or_right true b e = refl
or_right false b e = e

neither : (a b : Bool) → (a || b) ≡ false → (a ≡ false) × (b ≡ false)
neither true b e = absurd (true≢false e)
neither false b e = (refl, e)

none_of : (a b : Bool) → a ≡ false → b ≡ false → (a || b) ≡ false
none_of true b e f = absurd (true≢false e)
none_of false b e f = f

-- ---- objects of static storage duration

number_if : (b : Bool) (other static : Static) → other.declared ≡ static.declared → (if b then other else static).declared ≡ static.declared
number_if true other static e = e
number_if false other static e = refl

same_number : (local : Local) (static : Static) → (with_initialiser static local).declared ≡ static.declared
same_number local static =
    number_if (is_some local.declarator.initialiser) (record { declared = static.declared; initialiser = local.declarator.initialiser; expressions = local.expressions }) static refl

module _ (local : Local) where
  abbrev number : ℕ
  number = local.declarator.declared

  stays_there : (statics : List Static) (d : ℕ) → is_static_number statics d ≡ true → is_static_number (with_static local statics) d ≡ true
  stays_there [] d e = absurd (false≢true e)
  stays_there (static ∷ statics) d e = by_name (static.declared == number) (stays_there statics d)
    where
      by_name : (b : Bool) → (is_static_number statics d ≡ true → is_static_number (with_static local statics) d ≡ true)
          → is_static_number (if b then with_initialiser static local ∷ statics else static ∷ with_static local statics) d ≡ true
      by_name true later = ap (λ n. n == d || is_static_number statics d) (same_number local static) ∙ e
      by_name false later = either (static.declared == d) (is_static_number statics d) (is_static_number (with_static local statics) d) e later

  comes_there : (statics : List Static) → is_static_number (with_static local statics) number ≡ true
  comes_there [] = ap (λ b. b || false) (equal_is number number refl)
  comes_there (static ∷ statics) = by_name (static.declared == number) refl (comes_there statics)
    where
      by_name : (b : Bool) → (static.declared == number) ≡ b → is_static_number (with_static local statics) number ≡ true
          → is_static_number (if b then with_initialiser static local ∷ statics else static ∷ with_static local statics) number ≡ true
      by_name true is later = ap (λ n. n == number || is_static_number statics number) (same_number local static) ∙ ap (λ b. b || is_static_number statics number) is
      by_name false is later = or_right (static.declared == number) (is_static_number (with_static local statics) number) later

  stays_away : (statics : List Static) (d : ℕ) → (number == d) ≡ false → is_static_number statics d ≡ false → is_static_number (with_static local statics) d ≡ false
  stays_away [] d other e = none_of (number == d) false other refl
  stays_away (static ∷ statics) d other e = by_name (static.declared == number) (stays_away statics d other)
    where
      by_name : (b : Bool) → (is_static_number statics d ≡ false → is_static_number (with_static local statics) d ≡ false)
          → is_static_number (if b then with_initialiser static local ∷ statics else static ∷ with_static local statics) d ≡ false
      by_name true later = ap (λ n. n == d || is_static_number statics d) (same_number local static) ∙ e
      by_name false later =
          let parts = neither (static.declared == d) (is_static_number statics d) e in
          none_of (static.declared == d) (is_static_number (with_static local statics) d) parts.0 (later parts.1)

module _ (declared : List Declaration) where
  from_there : (locals : List Local) (statics : List Static) (d : ℕ) → is_static_number statics d ≡ true → is_static_number (statics_from declared locals statics) d ≡ true
  from_there [] statics d e = e
  from_there (local ∷ locals) statics d e = from_there locals (if is_static declared local then with_static local statics else statics) d (by_bool (is_static declared local))
    where
      by_bool : (b : Bool) → is_static_number (if b then with_static local statics else statics) d ≡ true
      by_bool true = stays_there local statics d e
      by_bool false = e

  static_there : (locals : List Local) (statics : List Static) (local : Local) → IsAmong local locals → is_static declared local ≡ true
      → is_static_number (statics_from declared locals statics) local.declarator.declared ≡ true
  static_there [] statics local a is = absurd a
  static_there (first ∷ locals) statics local (inl e) is =
      subst (λ (one : Local). is_static_number (statics_from declared locals (if is_static declared first then with_static first statics else statics)) one.declarator.declared ≡ true) (sym e)
      (from_there locals (if is_static declared first then with_static first statics else statics) first.declarator.declared
      (subst (λ b. is_static_number (if b then with_static first statics else statics) first.declarator.declared ≡ true) (sym (ap (is_static declared) (sym e) ∙ is)) (comes_there first statics)))
  static_there (first ∷ locals) statics local (inr a) is = static_there locals (if is_static declared first then with_static first statics else statics) local a is

  none_there : (locals : List Local) (statics : List Static) (d : ℕ) → is_static_declaration (declaration_at declared d) ≡ false → is_static_number statics d ≡ false
      → is_static_number (statics_from declared locals statics) d ≡ false
  none_there [] statics d other e = e
  none_there (local ∷ locals) statics d other e =
      none_there locals (if is_static declared local then with_static local statics else statics) d other (by_bool (is_static declared local) refl)
    where
      by_bool : (b : Bool) → is_static declared local ≡ b → is_static_number (if b then with_static local statics else statics) d ≡ false
      by_bool true is =
          stays_away local statics d
          (differ_is local.declarator.declared d
          (λ same. true≢false (sym (and_right local.declarator.defines (is_static_declaration (declaration_at declared local.declarator.declared)) is)
          ∙ (ap (λ n. is_static_declaration (declaration_at declared n)) same ∙ other)))) e
      by_bool false is = e

-- ---- objects that are set

and_both : (a b : Bool) → a ≡ true → b ≡ true → (a && b) ≡ true
and_both true b e f = f
and_both false b e f = absurd (false≢true e)

module _ (types : Table) (one : TypedUnit) (typed : IsWellTypedUnit types one) where
  defined_there : (d : ℕ) → is_static_declaration (slice_get one.declared d) ≡ true → is_defined one d ≡ true → is_static_number (program_of types one).statics d ≡ true
  defined_there d static e =
      let found = any_found (defines_here d) (locals_of_unit one) e in
      let same = equal_of found.0.declarator.declared d (and_left (found.0.declarator.declared == d) found.0.declarator.defines found.2) in
      subst (λ n. is_static_number (program_of types one).statics n ≡ true) same
      (static_there one.declared (all_locals one.externals) [] found.0 (local_listed types one typed found.0 found.1)
      (and_both found.0.declarator.defines (is_static_declaration (declaration_at one.declared found.0.declarator.declared))
      (and_right (found.0.declarator.declared == d) found.0.declarator.defines found.2) (ap (λ n. is_static_declaration (slice_get one.declared n)) same ∙ static)))

  pub set_declared : (tree : Tree) (d : ℕ) → is_set_at one tree d ≡ true → IsSetDeclaration (program_of types one) (has_first_value one) d
  set_declared tree d = by_entry (slice_get one.declared d) refl
    where
      by_sort : (entry : Declaration) → slice_get one.declared d ≡ Some entry → (sort : Sort) → entry.sort ≡ sort → has_value_at one (tokens_of tree) d sort ≡ true
          → (is_static_number (program_of types one).statics d ≡ true) ⊎ ((has_first_value one d ≡ true) × (is_static_number (program_of types one).statics d ≡ false))
      by_sort entry there (Object true) is e = inl (defined_there d (ap is_static_declaration there ∙ ap is_static_sort is) e)
      by_sort entry there (Object false) is e =
          inr (
            and_left (has_first_value one d) (not (list_any (initialises_by (tokens_of tree) d) (locals_of_unit one))) e,
            none_there one.declared (all_locals one.externals) [] d (ap is_static_declaration there ∙ ap is_static_sort is) refl,
          )
      by_sort entry there sort is e = absurd (false≢true e)

      by_entry : (o : Option Declaration) → slice_get one.declared d ≡ o → is_set_entry_at one (tokens_of tree) d o ≡ true → IsSetDeclaration (program_of types one) (has_first_value one) d
      by_entry None there e = absurd (false≢true e)
      by_entry (Some entry) there e =
          record {
            entry = entry;
            declared = there;
            integer = and_left (is_integer entry.kind) (has_value_at one (tokens_of tree) d entry.sort) e;
            set = by_sort entry there entry.sort refl (and_right (is_integer entry.kind) (has_value_at one (tokens_of tree) d entry.sort) e);
          }
