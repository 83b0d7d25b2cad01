-- The files that a loader holds are those that it came to know, and definitions lie in their bytes.
--     held-known      the first
--     definitions-held      the second
use Rattle.std.proofs.Common.{◌≡◌, ℕ, suc, ◌<◌, Bool, true, false, cond, not, ◌+◌, List, [], ◌∷◌, ◌++◌, length, get_or, slice_get, Option, None, Some, Ok, is_some, unwrap_or, refl, sym, ap, ◌∙◌, subst, arith, bytes_eq}
use Rattle.std.specs.Prelude.{IsSome}
use Rattle.std.specs.FinMap as finite
use Rattle.std.specs.List.{AllByRecursion, position_or_len}
use Rattle.std.specs.Ordering.{nat_cmp}
use Rattle.std.specs.Result.{result_unwrap_or}
use Rattle.std.specs.Cmp.Lexicographic.{slice_cmp, texts_ties}
use Rattle.std.proofs.lemmas.Cmp.{nat_list_cmp_total}
use Rattle.std.proofs.lemmas.List.{length-append}
use Rattle.dm_token.specs.declared.expansion.Definition.{Definition}
use Rattle.dm_token.specs.declared.expansion.Origin.{Origin}
use Rattle.dm_token.specs.declared.token.PpToken.{PpToken}
use Rattle.dm_token.specs.declared.unit.Read.{Read}
use Rattle.dm_token.specs.declared.unit.Unit.{Unit as Source}
use Rattle.dm_token.specs.declared.unit.UnitTokens.{UnitTokens}
use Rattle.dm_io.specs.Files.{Files, file_at}
use Rattle.dm_macro.specs.Forms.{Gives}
use Rattle.dm_search.specs.CallFiles.{known_or, file_for}
use Rattle.dm_search.specs.Loaded.{Loaded, name_of, number_of, held_at, is_absent}
use Rattle.dm_unit.specs.Lines.{directive, parts_of}
use Rattle.dm_unit.specs.Loaders.{Grows, HasKnown, held_for}
use Rattle.dm_unit.specs.Sources.{reading_of}
use Rattle.dm_unit.specs.Units.{IsReadAs, IsReadByKnown, setting_of}
use Rattle.dm_unit.proofs.GrowLemmas.{number-grows}
use Rattle.dm_unit.proofs.NameLemmas.{held-among}
use Rattle.dm_runs.specs.Runs.{is_file}
use Rattle.dm_edit.specs.Cuts.{BeginsVisibly, LiesIn, body_end}
use Rattle.dm_defined.specs.Made.{IsMade, IsMadeIn, bytes_for}
use Rattle.dm_held.specs.Held.{IsNumbered, LiesHeld, files_of, held_files, with_held}

-- WHAT IS HELD

with_held-at : (name : List ℕ) (held : Option (List ℕ)) (files : Files) (other : List ℕ) → file_at (with_held name held files) other ≡ cond (bytes_eq other name) held (file_at files other)
with_held-at name None files other =
    finite.get-remove nat_list_cmp_total files name other ∙ ap (λ (t : Bool). cond t None (file_at files other)) (sym (texts_ties other name))
with_held-at name (Some bytes) files other =
    finite.get-insert nat_list_cmp_total files name bytes other ∙ ap (λ (t : Bool). cond t (Some bytes) (file_at files other)) (sym (texts_ties other name))

files-held : (names : List (List ℕ)) (held : List (Option (List ℕ))) → length held ≡ length names → (name : List ℕ) → file_at (files_of names held) name ≡ get_or held (position_or_len (bytes_eq name) names) None
unfolding files_of
files-held [] [] same name = finite.get-empty (slice_cmp nat_cmp) name
files-held [] (bytes ∷ held) same name = absurd (omega (arith, same))
files-held (first ∷ names) [] same name = absurd (omega (arith, same))
files-held (first ∷ names) (bytes ∷ held) same name =
    with_held-at first bytes (files_of names held) name ∙ by (bytes_eq name first) (files-held names held (omega (arith, same)) name)
  where
    by : (b : Bool) → file_at (files_of names held) name ≡ get_or held (position_or_len (bytes_eq name) names) None
        → cond b bytes (file_at (files_of names held) name) ≡ get_or (bytes ∷ held) (cond (not b) (1 + position_or_len (bytes_eq name) names) 0) None
    by true rest = refl
    by false rest =
        let next : suc (position_or_len (bytes_eq name) names) ≡ 1 + position_or_len (bytes_eq name) names = omega arith in rest ∙ ap (λ n. get_or (bytes ∷ held) n None) next

pub held-known : (old new : Loaded) → length new.held ≡ length new.names → HasKnown (held_files new) old new
held-known old new slots name unknown known = files-held new.names new.held slots name

-- DEFINITIONS

-- nothing lies in an empty file
lies-nowhere : (definition : Definition) → LiesIn [] definition → ⊥
lies-nowhere definition (cut, is) = by cut.body is.begins refl
  where
    whole : length cut.body ≡ 0
    whole =
        let all = ap length is.whole in
        let one = length-append cut.front (cut.directive ++ (cut.blanks ++ (cut.body ++ cut.rest))) in
        let two = length-append cut.directive (cut.blanks ++ (cut.body ++ cut.rest)) in
        let three = length-append cut.blanks (cut.body ++ cut.rest) in
        let four = length-append cut.body cut.rest in
        omega (arith, all, one, two, three, four)

    by : (body : List ℕ) → BeginsVisibly body → cut.body ≡ body → ⊥
    by [] begins e = begins
    by (byte ∷ bytes) begins e = let none = whole in let some = ap length e in omega (arith, none, some)

-- what a file of the call holds is held
file-held : (old new : Loaded) (name bytes : List ℕ) → Grows None old new → length old.held ≡ length old.names → length new.held ≡ length new.names → file_for old (held_files new) name ≡ Some bytes → held_for new name ≡ Some bytes
file-held old new name bytes grows slots new_slots is = by (held_at old (number_of old name)) (is_absent old name) refl is
  where
    by : (held : Option (List ℕ)) (absent : Bool) → held_at old (number_of old name) ≡ held → known_or held absent (file_at (held_files new) name) ≡ Some bytes → held_for new name ≡ Some bytes
    by (Some other) absent e k =
        let same : number_of new name ≡ number_of old name = number-grows None old new name grows (held-among old name slots (ap is_some e)) in
        ap (held_at new) same ∙ grows.held_too (number_of old name) other e ∙ k
    by None true e k = absurd (no-bytes k)
      where
        no-bytes : ◌≡◌ {A = Option (List ℕ)} None (Some bytes) → ⊥
        no-bytes e = cc
    by None false e k = sym (files-held new.names new.held new_slots name) ∙ k

abbrev LiesByLaw : Type 0
LiesByLaw = (file : ℕ) (bytes : List ℕ) (k : ℕ) (start : PpToken) (behind : List PpToken) (origin : Origin) (plain : Bool) (definition : Definition) →
    slice_get (parts_of (result_unwrap_or (reading_of file bytes) [])) k ≡ Some (directive start behind) → Gives (start ∷ behind) origin plain definition →
    IsSome (body_end definition) → LiesIn bytes definition

definition-held : LiesByLaw → (unit : Source) (old new : Loaded) → Grows None old new → IsNumbered old → IsNumbered new → (definition : Definition) → IsMade (setting_of old new (held_files new) unit) definition
    → (is_file definition.origin ≡ true → definition.place.file < length new.names) → LiesHeld new definition
definition-held lies unit old new grows numbered new_numbered definition made among in_file some = by (file_for old (held_files new) (name_of new definition.place.file)) refl
  where
    by : (source : Option (List ℕ)) → file_for old (held_files new) (name_of new definition.place.file) ≡ source → (bytes : List ℕ) × (held_at new definition.place.file ≡ Some bytes) × LiesIn bytes definition
    by source e = at source e (lies definition.place.file _ it.2.0 it.0 it.1 _ _ definition it.2.1 it.3 some)
      where
        it : IsMadeIn definition.place.file (bytes_for (setting_of old new (held_files new) unit) definition.place.file) definition
        it = made in_file

        at : (source : Option (List ℕ)) → file_for old (held_files new) (name_of new definition.place.file) ≡ source
            → LiesIn (bytes_for (setting_of old new (held_files new) unit) definition.place.file) definition → (bytes : List ℕ) × (held_at new definition.place.file ≡ Some bytes) × LiesIn bytes definition
        at None e it_lies = absurd (lies-nowhere definition (subst (λ (o : Option (List ℕ)). LiesIn (unwrap_or o []) definition) e it_lies))
        at (Some bytes) e it_lies = (
          bytes,
          ap (held_at new) (sym (new_numbered.1 definition.place.file (among in_file))) ∙ file-held old new (name_of new definition.place.file) bytes grows numbered.0 new_numbered.0 e,
          subst (λ (o : Option (List ℕ)). LiesIn (unwrap_or o []) definition) e it_lies,
        )

all-held : (P Q R : Read → Type 0) → ((read : Read) → P read → Q read → R read) → (reads : List Read) → AllByRecursion P reads → AllByRecursion Q reads → AllByRecursion R reads
all-held P Q R f [] h k = tt
all-held P Q R f (read ∷ reads) h k = (f read h.0 k.0, all-held P Q R f reads h.1 k.1)

pub definitions-held : LiesByLaw
    → ((files : Files) (unit : Source) (old new : Loaded) (pp : UnitTokens) → IsReadAs (setting_of old new files unit) unit old (Ok pp) new → AllByRecursion (λ (read : Read). IsMade (setting_of old new files unit) read.definition) pp.read)
    → ((files : Files) (unit : Source) (old new : Loaded) (pp : UnitTokens) → IsReadAs (setting_of old new files unit) unit old (Ok pp) new
    → AllByRecursion (λ (read : Read). is_file read.definition.origin ≡ true → read.definition.place.file < length new.names) pp.read)
    → (unit : Source) (old new : Loaded) (pp : UnitTokens) → IsReadByKnown unit old new pp → Grows None old new → IsNumbered old → IsNumbered new → AllByRecursion (λ (read : Read). LiesHeld new read.definition) pp.read
definitions-held lies made among unit old new pp reads grows numbered new_numbered =
    let is = reads (held_files new) (held-known old new new_numbered.0) in
    all-held _ _ (λ read. LiesHeld new read.definition)
    (λ read one other. definition-held lies unit old new grows numbered new_numbered read.definition one other)
    pp.read (made (held_files new) unit old new pp is) (among (held_files new) unit old new pp is)
