-- A name that means a new entry, or an earlier one again.
use Rattle.std.specs.Prelude.{◌≡◌, ℕ, ◌<◌, Bool, true, false, not, List, [], ◌∷◌, ◌++◌, length, map, take, drop, reverse, Option, Some, None, is_some, Result, Ok, Err, OnErr, refl}
use Rattle.std.specs.Cmp.Lexicographic.{slice_cmp, texts_ties}
use Rattle.std.specs.FinMap as finite
use Rattle.std.specs.FinMap.{slice_cmp-IsAntisymmetric, nat_cmp-IsAntisymmetric, same_map}
use Rattle.std.specs.Ordering.{nat_cmp, eq_by_cmp}
use Rattle.std.proofs.Common.{sym, ap, ◌∙◌, subst, cond, arith, append-nil}
use Rattle.std.proofs.lemmas.Cmp.{nat_list_cmp_total}
use Rattle.std.proofs.lemmas.List.{map-append, length-map}
use Rattle.std.proofs.lemmas.List.Elements.{All-head, All-tail, All-cons}
use Rattle.std.proofs.lemmas.Slice.Eq.{bytes_eq-Decides}
use Rattle.dm_type.specs.declared.shape.Shape.{Shape}
use Rattle.dm_type.specs.declared.shape.Struct.{Struct as StructEntry}
use Rattle.dm_type.specs.TableLaws.{injected}
use Rattle.dm_type.specs.Tables.{Table}
use Rattle.dm_scope.specs.Scopes.{Scopes, or_else, number_of, is_declared, declared}
use Rattle.dm_name_map.specs.Numbers.{Numbers}
use Rattle.dm_tree.specs.declared.tree.Core.{Core}
use Rattle.dm_tree.specs.declared.unit.Declared.{Declared}
use Rattle.dm_tree.specs.Units.{Declaration}
use Rattle.dm_typing.specs.declared.known.Known.{Known as Held}
use Rattle.dm_typing.specs.Bounds.{IsBelow, AreBelow}
use Rattle.dm_typing.specs.Known.{Known, declaring}
use Rattle.dm_typing.specs.Views.{view_over, known_over}
use Rattle.dm_estanding.specs.declared.standing.Standing.{Standing as HeldStanding}
use Rattle.dm_estanding.specs.Summaries.{entry_over}
use Rattle.dm_estanding.specs.Undoing.{KeepsTypes, IsWithin}
use Rattle.dm_estanding.proofs.RetypeLemmas.{same-begins}
use Rattle.dm_estanding.proofs.UndoLemmas.{take-all, take-front}

-- ---- numbers

below-put : (count : ℕ) (scope : Numbers) (name : List ℕ) (number : ℕ) → number < count → IsBelow count scope → IsBelow count (finite.insert scope name number)
below-put count scope name number inside below other it h =
    go (eq_by_cmp (slice_cmp nat_cmp) other name) (sym (finite.get-insert nat_list_cmp_total scope name number other) ∙ h)
  where
    go : (test : Bool) → cond test (Some number) (finite.get scope other) ≡ Some it → it < count
    go true e = subst (λ n. n < count) (injected number it e) inside
    go false e = below other it e

put-below : (count : ℕ) (scopes : Scopes) (name : List ℕ) (number : ℕ) → number < count → AreBelow count scopes → AreBelow count (declared scopes name number)
put-below count [] name number inside all = all
put-below count (scope ∷ scopes) name number inside all =
    All-cons (IsBelow count) (finite.insert scope name number) scopes (below-put count scope name number inside (All-head (IsBelow count) scope scopes all)) (All-tail (IsBelow count) scope scopes all)

pub put-anyway : {E : Type 0} (answer : Result Bool E) (count : ℕ) (old new : Scopes) (name : List ℕ) (number : ℕ) → number < count → AreBelow count old
    → (answer ≡ Ok true → new ≡ declared old name number) → (answer ≡ Ok false → new ≡ old) → OnErr answer (new ≡ old) → AreBelow count new
put-anyway (Ok true) count old new name number inside all once twice err = subst (AreBelow count) (sym (once refl)) (put-below count old name number inside all)
put-anyway (Ok false) count old new name number inside all once twice err = subst (AreBelow count) (sym (twice refl)) all
put-anyway (Err fault) count old new name number inside all once twice err = subst (AreBelow count) (sym err) all

-- ---- a name that has the number already

insert-same : (scope : Numbers) (name : List ℕ) (number : ℕ) → finite.get scope name ≡ Some number → finite.insert scope name number ≡ scope
insert-same scope name number h = same_map nat_list_cmp_total (slice_cmp-IsAntisymmetric nat_cmp-IsAntisymmetric) (finite.insert scope name number) scope at
  where
    by : (other : List ℕ) (test : Bool) → eq_by_cmp (slice_cmp nat_cmp) other name ≡ test → cond test (Some number) (finite.get scope other) ≡ finite.get scope other
    by other false e = refl
    by other true e = sym (ap (finite.get scope) ((bytes_eq-Decides other name).0 (texts_ties other name ∙ e)) ∙ h)

    at : (other : List ℕ) → finite.get (finite.insert scope name number) other ≡ finite.get scope other
    at other = finite.get-insert nat_list_cmp_total scope name number other ∙ by other (eq_by_cmp (slice_cmp nat_cmp) other name) refl

declared-same : (scopes : Scopes) (name : List ℕ) (number : ℕ) → is_declared scopes name ≡ true → number_of scopes name ≡ Some number → declared scopes name number ≡ scopes
declared-same [] name number is h = refl
declared-same (scope ∷ scopes) name number is h = ap (λ (first : Numbers). first ∷ scopes) (insert-same scope name number (go (finite.get scope name) is h))
  where
    go : (found : Option ℕ) → is_some found ≡ true → or_else found (number_of scopes name) ≡ Some number → found ≡ Some number
    go None e f = absurd (cc)
    go (Some it) e f = f

turned : (test : Bool) → false ≡ not test → test ≡ true
turned true h = refl
turned false h = absurd (cc)

pub declared-again : {E : Type 0} (is : Bool) (old new : Scopes) (name : List ℕ) (number : ℕ) → is ≡ not (is_declared old name)
    → (◌≡◌ {A = Result Bool E} (Ok is) (Ok true) → new ≡ declared old name number) → (◌≡◌ {A = Result Bool E} (Ok is) (Ok false) → new ≡ old)
    → (is_declared old name ≡ true → number_of old name ≡ Some number) → new ≡ declared old name number
declared-again true old new name number fresh once twice known = once refl
declared-again false old new name number fresh once twice known =
    let there = turned (is_declared old name) fresh in twice refl ∙ sym (declared-same old name number there (known there))

pub length-declared : (scopes : Scopes) (name : List ℕ) (number : ℕ) → length (declared scopes name number) ≡ length scopes
length-declared [] name number = refl
length-declared (scope ∷ scopes) name number = refl

pub drop-declared : (scopes : Scopes) (name : List ℕ) (number : ℕ) → drop 1 (declared scopes name number) ≡ drop 1 scopes
drop-declared [] name number = refl
drop-declared (scope ∷ scopes) name number = refl

pub scopes-kept : {E : Type 0} (is : Bool) (old new : Scopes) (name : List ℕ) (number : ℕ)
    → (◌≡◌ {A = Result Bool E} (Ok is) (Ok true) → new ≡ declared old name number) → (◌≡◌ {A = Result Bool E} (Ok is) (Ok false) → new ≡ old)
    → (drop 1 new ≡ drop 1 old) × (length new ≡ length old)
scopes-kept true old new name number once twice = (ap (drop 1) (once refl) ∙ drop-declared old name number, ap length (once refl) ∙ length-declared old name number)
scopes-kept false old new name number once twice = (ap (drop 1) (twice refl), ap length (twice refl))

-- ---- what is known

abbrev put : List Shape → List StructEntry → Scopes → List Declaration → List ℕ → List Core → Known
put later structs scopes entries begun constants = record {
  types = record { shapes = later; structs = structs };
  scopes = scopes;
  declared = entries;
  begun = reverse begun;
  constants = map (view_over later) constants;
}

pub known-named : (later : List Shape) (old new : Held) (scopes : Scopes) → new.scopes ≡ scopes → new.declared ≡ old.declared → KeepsTypes old new
    → known_over later new ≡ record (known_over later old) { scopes = scopes }
known-named later old new scopes s d same =
    ap (λ (x : Table). put later x.structs new.scopes (map (entry_over later) new.declared) new.begun.items new.constants) same.types
    ∙ ap (λ x. put later old.types.structs x (map (entry_over later) new.declared) new.begun.items new.constants) s
    ∙ ap (λ x. put later old.types.structs scopes (map (entry_over later) x) new.begun.items new.constants) d
    ∙ ap (λ x. put later old.types.structs scopes (map (entry_over later) old.declared) x new.constants) same.begun
    ∙ ap (λ x. put later old.types.structs scopes (map (entry_over later) old.declared) old.begun.items x) same.constants

pub known-added : (later : List Shape) (old : Held) (entry : Declared) (key : List ℕ) (scopes : Scopes) (entries : List Declared) → scopes ≡ declared old.scopes key (length old.declared)
    → entries ≡ old.declared ++ entry ∷ []
    → put later old.types.structs scopes (map (entry_over later) entries) old.begun.items old.constants ≡ declaring (known_over later old) key (entry_over later entry)
known-added later old entry key scopes entries s d =
    ap (λ x. put later old.types.structs x (map (entry_over later) entries) old.begun.items old.constants) s
    ∙ ap (λ x. put later old.types.structs (declared old.scopes key (length old.declared)) (map (entry_over later) x) old.begun.items old.constants) d
    ∙ ap (λ x. put later old.types.structs (declared old.scopes key (length old.declared)) x old.begun.items old.constants) (map-append (entry_over later) old.declared (entry ∷ []))
    ∙ ap (λ n. put later old.types.structs (declared old.scopes key n) (map (entry_over later) old.declared ++ entry_over later entry ∷ []) old.begun.items old.constants)
    (sym (length-map old.declared (entry_over later)))

pub within-named : (old new : HeldStanding) → new.retyped.items ≡ old.retyped.items → new.known.declared ≡ old.known.declared → drop 1 new.known.scopes ≡ drop 1 old.known.scopes
    → length new.known.scopes ≡ length old.known.scopes → KeepsTypes old.known new.known → IsWithin old new
within-named old new r d s l same = record {
  shapes = same-begins old.known new.known same;
  changes = [];
  retyped = r ∙ sym (append-nil old.retyped.items);
  entries = λ later on. ap (map (entry_over later)) (ap (take (length old.known.declared)) d ∙ take-all (length old.known.declared) old.known.declared (omega arith));
  scopes = s;
  depth = l;
}

pub within-new : (old new : HeldStanding) (entry : Declared) → new.retyped.items ≡ old.retyped.items → new.known.declared ≡ old.known.declared ++ entry ∷ []
    → drop 1 new.known.scopes ≡ drop 1 old.known.scopes → length new.known.scopes ≡ length old.known.scopes → KeepsTypes old.known new.known → IsWithin old new
within-new old new entry r d s l same = record {
  shapes = same-begins old.known new.known same;
  changes = [];
  retyped = r ∙ sym (append-nil old.retyped.items);
  entries = λ later on. ap (map (entry_over later))
      (ap (take (length old.known.declared)) d ∙ take-front (length old.known.declared) old.known.declared entry (omega arith)
      ∙ take-all (length old.known.declared) old.known.declared (omega arith));
  scopes = s;
  depth = l;
}
