-- What the judging of a definition says of the change that it proposes.
--     proposed_is      the change is of the definition, which breaks no rule
--     made_for      a definition that the units have is one that the files of each make
use Rattle.std.specs.Prelude.{◌≡◌, refl, ℕ, true, false, Bool, List, [], ◌∷◌, ◌++◌, Option, Some, None, flat_map, is_some, map, option_map, option_and_then, if◌then◌else◌}
use Rattle.std.specs.List.{AllByRecursion}
use Rattle.std.proofs.Common.{ap, sym, ◌∙◌}
use Rattle.std.proofs.lemmas.Bool.{and_parts}
use Rattle.dm_token.specs.declared.place.Place.{Place}
use Rattle.dm_token.specs.declared.expansion.Definition.{Definition}
use Rattle.dm_token.specs.declared.expansion.Origin.{Origin}
use Rattle.dm_token.specs.declared.expansion.Origin.TheVariants.{File, Header, Manifest}
use Rattle.dm_token.specs.declared.unit.Read.{Read}
use Rattle.dm_token.specs.declared.unit.Unit.{Unit as Source}
use Rattle.dm_io.specs.Files.{Files}
use Rattle.dm_search.specs.Loaded.{Loaded}
use Rattle.dm_runs.specs.Runs.{is_file}
use Rattle.dm_definitions.specs.Counts.{is_in_file}
use Rattle.dm_reading.specs.declared.reading.Reading.{Reading}
use Rattle.dm_unit.specs.Units.{setting_of}
use Rattle.dm_edit.specs.declared.change.As.{As}
use Rattle.dm_edit.specs.declared.change.As.TheVariants.{Function, Enumerator, Constant}
use Rattle.dm_edit.specs.declared.change.Change.{Change}
use Rattle.dm_beside.specs.Places.{is_int}
use Rattle.dm_defined.specs.Made.{IsMade}
use Rattle.dm_local.specs.Kept.{IsReadBy}
use Rattle.dm_kept.specs.Current.{AreCurrent}
use Rattle.dm_judge.specs.Changes as changes
use Rattle.dm_judge.specs.Changes.{Signature, change_with, head_of, kind_with}
use Rattle.dm_judge.specs.Proposals.{change_at, definitions_in, proposal_by, proposed, signature_at}
use Rattle.dm_judge.specs.Proposals as proposals
use Rattle.dm_judge.specs.Rules.{broken_first, rules_of}
use Rattle.dm_judge.specs.declared.proposal.Proposal.TheVariants as proposal
use Rattle.dm_meanings.specs.Types.{Met, first_run, visible_at}
use Rattle.dm_subjects.specs.Subjects.{definition_at, has_key}
use Rattle.dm_subjects.specs.declared.subject.Subject.{Subject}
use Rattle.dm_refined.specs.Programs.{IsMadeFor}
use Rattle.dm_told.proofs.FindLemmas.{found_has}

-- ---- what a proposal says

some_same : {A : Type 0} (x y : A) → Some x ≡ Some y → x ≡ y
some_same x y e = cc

none_some : {A : Type 0} (x : A) → None ≡ Some x → ⊥
none_some x e = cc

-- a change is of the definition, of which no rule is broken; it makes a function of one with a parameter list
pub record IsOf (definition : Definition) (readings : List Reading) (change : Change) : Type 0 where
  pub same : change.definition ≡ definition
  pub unbroken : broken_first (rules_of definition readings) ≡ None
  pub called : change.kind ≡ Function → is_some definition.parameters ≡ true

function_called : (b c : Bool) → (if b then Function else if c then Enumerator else Constant) ≡ Function → b ≡ true
function_called true c e = refl
function_called false true e = absurd (no_function e)
  where
    no_function : Enumerator ≡ Function → ⊥
    no_function k = cc
function_called false false e = absurd (no_function e)
  where
    no_function : Constant ≡ Function → ⊥
    no_function k = cc

module _ (definition : Definition) (readings : List Reading) (change : Change) (unbroken : broken_first (rules_of definition readings) ≡ None) where
  by_head : (signature : Signature) (kind : As) → kind ≡ kind_with definition signature.result → (head : Option (List ℕ)) → option_map (changes.change_of definition kind) head ≡ Some change
      → IsOf definition readings change
  by_head signature kind is None e = absurd (none_some change e)
  by_head signature kind is (Some head) e =
      let it = some_same (changes.change_of definition kind head) change e in
      record {
        same = sym (ap (λ (c : Change). c.definition) it);
        unbroken = unbroken;
        called = λ function. function_called (is_some definition.parameters) (is_int signature.result) (sym is ∙ ap (λ (c : Change). c.kind) it ∙ function);
      }

  by_signature : (met : Met) (signature : Option Signature) → option_and_then (change_with met.reading.types (visible_at definition met.reading) definition) signature ≡ Some change
      → IsOf definition readings change
  by_signature met None e = absurd (none_some change e)
  by_signature met (Some signature) e =
      by_head signature (kind_with definition signature.result) refl
      (head_of (kind_with definition signature.result) met.reading.types (visible_at definition met.reading) definition signature) e

  by_first : (first : Option Met) → option_and_then (change_at definition) first ≡ Some change → IsOf definition readings change
  by_first None e = absurd (none_some change e)
  by_first (Some met) e = by_signature met (signature_at definition met) e

pub proposed_is : (definition : Definition) (readings : List Reading) (change : Change) → proposed readings definition ≡ Some (proposal.Change change) → IsOf definition readings change
proposed_is definition readings change e = by_rules (broken_first (rules_of definition readings)) refl e
  where
    no_change : (rule : ℕ) (place : Place) → proposal.Broken rule place ≡ proposal.Change change → ⊥
    no_change rule place k = cc

    changes_same : (a b : Change) → proposal.Change a ≡ proposal.Change b → a ≡ b
    changes_same a b k = cc

    by_change : broken_first (rules_of definition readings) ≡ None → (o : Option Change) → proposals.change_of definition readings ≡ o → option_map proposal.Change o ≡ Some (proposal.Change change)
        → IsOf definition readings change
    by_change unbroken None is k = absurd (none_some (proposal.Change change) k)
    by_change unbroken (Some other) is k =
        by_first definition readings change unbroken (first_run definition readings)
        (is ∙ ap Some (changes_same other change (some_same (proposal.Change other) (proposal.Change change) k)))

    by_rules : (o : Option (ℕ × Place)) → broken_first (rules_of definition readings) ≡ o → proposal_by o (proposals.change_of definition readings) ≡ Some (proposal.Change change)
        → IsOf definition readings change
    by_rules (Some broken) is k = absurd (no_change broken.0 broken.1 (some_same (proposal.Broken broken.0 broken.1) (proposal.Change change) k))
    by_rules None is k = by_change is (proposals.change_of definition readings) refl k

-- ---- the definition

file_same : (origin : Origin) → is_in_file origin ≡ true → is_file origin ≡ true
file_same File e = refl
file_same Header e = e
file_same Manifest e = e

all_append : {A : Type 0} (P : A → Type 0) (front back : List A) → AllByRecursion P front → AllByRecursion P back → AllByRecursion P (front ++ back)
all_append P [] back h k = k
all_append P (x ∷ front) back h k = (h.0, all_append P front back h.1 k)

all_mapped : (P : Definition → Type 0) (reads : List Read) → AllByRecursion (λ (read : Read). P read.definition) reads → AllByRecursion P (map (λ (read : Read). read.definition) reads)
all_mapped P [] h = tt
all_mapped P (read ∷ reads) h = (h.0, all_mapped P reads h.1)

module _ (files : Files) (known : Loaded)
    (made : (unit : Source) (reading : Reading) → IsReadBy known files unit reading → AllByRecursion (λ (read : Read). IsMade (setting_of known known files unit) read.definition) reading.pp.read) where
  all_made : (unit : Source) (units : List Source) (readings : List Reading) → AreCurrent known files units readings
      → AllByRecursion (IsMade (setting_of known known files unit)) (flat_map definitions_in readings)
  all_made unit [] [] h = tt
  all_made unit [] (reading ∷ readings) h = absurd h
  all_made unit (one ∷ units) [] h = tt
  all_made unit (one ∷ units) (reading ∷ readings) h =
      all_append (IsMade (setting_of known known files unit)) (definitions_in reading) (flat_map definitions_in readings)
      (all_mapped (IsMade (setting_of known known files unit)) reading.pp.read (made one reading h.0)) (all_made unit units readings h.1)

  pub made_for : (unit : Source) (units : List Source) (readings : List Reading) (subject : Subject) (definition : Definition) → AreCurrent known files units readings
      → definition_at known readings subject.key ≡ Some definition → IsMadeFor (setting_of known known files unit) definition
  made_for unit units readings subject definition current found =
      let it = found_has (has_key known subject.key) (IsMade (setting_of known known files unit)) (flat_map definitions_in readings) definition (all_made unit units readings current) found in
      it.0 (file_same definition.origin (and_parts (is_in_file definition.origin) (_) it.1).0)
