-- Entries with the types that all their declarations say.
use Rattle.std.specs.Prelude.{◌≡◌, ℕ, zero, suc, ◌+◌, ◌≤◌, Bool, List, [], ◌∷◌, length, map, Option, Some, None, option_map, refl}
use Rattle.std.proofs.Common.{sym, ap, ap₂, ◌∙◌, arith}
use Rattle.dm_type.specs.declared.shape.Shape.{Shape}
use Rattle.dm_type.specs.CTypes.{CType}
use Rattle.dm_tree.specs.declared.unit.Declared.{Declared}
use Rattle.dm_tree.specs.Units.{Declaration}
use Rattle.dm_typing.specs.Views.{type_over}
use Rattle.dm_edecl.specs.Standing.{Linked}
use Rattle.dm_edecl.specs.Linkages.{whole_kind, is_defined, with_whole_kinds}
use Rattle.dm_estanding.specs.declared.links.Links.{Links}
use Rattle.dm_estanding.specs.declared.links.Whole.{Whole}
use Rattle.dm_estanding.specs.Kinds.{whole_in}
use Rattle.dm_estanding.specs.Summaries.{entry_over, kind_of_whole, whole_over, Summarises}
use Rattle.dm_estanding.specs.Wholes.{kind_if, settled}
use Rattle.dm_estanding.proofs.SeenLemmas.{whole-or}

-- ---- one entry after another

-- the entries before a number as they are, and those from it on settled
abbrev pub settled_from : Links → ℕ → ℕ → List Declared → List Declared
settled_from links n zero entries = settled links n entries
settled_from links n (suc count) [] = []
settled_from links n (suc count) (entry ∷ entries) = entry ∷ settled_from links (n + 1) count entries

kind-first : (whole : Option Whole) (entry : Declared) (entries : List Declared)
    → kind_if whole 0 (entry ∷ entries) ≡ record entry { kind = kind_of_whole whole entry.kind } ∷ entries
kind-first None entry entries = refl
kind-first (Some whole) entry entries = refl

kind-later : (whole : Option Whole) (count : ℕ) (entry : Declared) (entries : List Declared) → kind_if whole (suc count) (entry ∷ entries) ≡ entry ∷ kind_if whole count entries
kind-later None count entry entries = refl
kind-later (Some whole) count entry entries = refl

kind-none : (whole : Option Whole) (count : ℕ) → kind_if whole count [] ≡ []
kind-none None count = refl
kind-none (Some whole) count = refl

pub settled-next : (links : Links) (n count : ℕ) (entries : List Declared)
    → settled_from links n (suc count) (kind_if (whole_in links (n + count)) count entries) ≡ settled_from links n count entries
settled-next links n zero [] = ap (settled_from links n 1) (kind-none (whole_in links (n + 0)) 0)
settled-next links n (suc count) [] = ap (settled_from links n (suc (suc count))) (kind-none (whole_in links (n + suc count)) (suc count))
settled-next links n zero (entry ∷ entries) =
    let same : n + 0 ≡ n = omega arith in
    ap (λ m. settled_from links n 1 (kind_if (whole_in links m) 0 (entry ∷ entries))) same
    ∙ ap (settled_from links n 1) (kind-first (whole_in links n) entry entries)
settled-next links n (suc count) (entry ∷ entries) =
    let same : n + suc count ≡ (n + 1) + count = omega arith in
    ap (settled_from links n (suc (suc count))) (kind-later (whole_in links (n + suc count)) count entry entries)
    ∙ ap (λ m. entry ∷ settled_from links (n + 1) (suc count) (kind_if (whole_in links m) count entries)) same
    ∙ ap (λ es. entry ∷ es) (settled-next links (n + 1) count entries)

pub settled-all : (links : Links) (n count : ℕ) (entries : List Declared) → length entries ≤ count → settled_from links n count entries ≡ entries
settled-all links n zero [] le = refl
settled-all links n (suc count) [] le = refl
settled-all links n zero (entry ∷ entries) le = absurd (omega (arith, le))
settled-all links n (suc count) (entry ∷ entries) le = ap (λ es. entry ∷ es) (settled-all links (n + 1) count entries (omega (arith, le)))

-- one entry more has the type of all its declarations
pub length-kind : (whole : Option Whole) (number : ℕ) (entries : List Declared) → length (kind_if whole number entries) ≡ length entries
length-kind None number entries = refl
length-kind (Some whole) zero [] = refl
length-kind (Some whole) (suc number) [] = refl
length-kind (Some whole) zero (entry ∷ entries) = refl
length-kind (Some whole) (suc number) (entry ∷ entries) = ap suc (length-kind (Some whole) number entries)

-- ---- what is settled

kind-said : (found : Option CType) (defines : Bool) (later : List Shape) (whole : Option Whole) → option_map (λ kind. (kind, defines)) found ≡ option_map (whole_over later) whole
    → option_map (λ (one : Whole). type_over later one.kind) whole ≡ found
kind-said None defines later None h = refl
kind-said None defines later (Some whole) h = absurd (cc)
kind-said (Some kind) defines later None h = absurd (cc)
kind-said (Some kind) defines later (Some whole) h = sym (ap (option_map (λ (pair : CType × Bool). pair.0)) h)

module _ (later : List Shape) (links : Links) (declared : List Declaration) (linked : List Linked) (summary : Summarises later links declared linked) where
  pub settled-is : (n : ℕ) (entries : List Declared) → map (entry_over later) (settled links n entries) ≡ with_whole_kinds linked n (map (entry_over later) entries)
  settled-is n [] = refl
  settled-is n (entry ∷ entries) =
      ap₂ (λ kind others. record (entry_over later entry) { kind = kind } ∷ others)
      (sym (whole-or later (whole_in links n) entry.kind (whole_kind n linked) (kind-said (whole_kind n linked) (is_defined n linked) later (whole_in links n) (summary.wholes n))))
      (settled-is (n + 1) entries)
