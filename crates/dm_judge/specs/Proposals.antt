-- What is proposed for a definition.
--     IsProposal readings file hash proposal      of the definition at a byte of a file, in the units of a project: the least of the rules 1 to
--         14 that it breaks, with the first place; or what it becomes
use Rattle.std.specs.Prelude.{◌≡◌, ℕ, suc, List, [], ◌∷◌, find, flat_map, map, Option, Some, None, option_map, option_and_then}
use Rattle.dm_token.specs.declared.place.Place.{Place}
use Rattle.dm_token.specs.declared.expansion.Definition.{Definition}
use Rattle.dm_token.specs.declared.unit.Read.{Read}
use Rattle.dm_macro.specs.Bodies.{named_parameters}
use Rattle.dm_edit.specs.declared.change.Change.{Change}
use Rattle.dm_reading.specs.declared.reading.Reading.{Reading}
use Rattle.dm_runs.specs.Runs.{is_at}
use Rattle.dm_meanings.specs.Types.{Met, first_occurrence, first_run, kind_at, visible_at}
use Rattle.dm_judge.specs.declared.proposal.Proposal.{Proposal}
use Rattle.dm_judge.specs.declared.proposal.Proposal.TheVariants as proposal
use Rattle.dm_judge.specs.Changes.{Parameter, Signature, change_with}
use Rattle.dm_judge.specs.Rules.{broken_first, rules_of}

-- ---- the change, with the types of the first expansion's first run

-- A parameter has the type of what is passed at its first occurrence; by rule 8 each occurs.
abbrev pub parameter_in : Met → ℕ → List ℕ → Option Parameter
parameter_in met n name =
    option_map (λ type. record { kind = type; name = name }) (option_and_then (kind_at met.reading) (first_occurrence met.run n))

abbrev pub with_some : {A : Type 0} → Option A → List A → List A
with_some None others = others
with_some (Some one) others = one ∷ others

-- those from a number on
abbrev pub parameters_from : Met → ℕ → List (List ℕ) → List Parameter
parameters_from met n [] = []
parameters_from met n (name ∷ names) = with_some (parameter_in met n name) (parameters_from met (suc n) names)

abbrev pub signature_at : Definition → Met → Option Signature
signature_at definition met =
    option_map (λ type. record { result = type; parameters = parameters_from met 0 (named_parameters definition.parameters) })
    (kind_at met.reading met.run.span)

abbrev pub change_at : Definition → Met → Option Change
change_at definition met =
    option_and_then (change_with met.reading.types (visible_at definition met.reading) definition) (signature_at definition met)

abbrev pub change_of : Definition → List Reading → Option Change
change_of definition readings = option_and_then (change_at definition) (first_run definition readings)

-- ---- proposals

-- a definition as the first unit that reads it has it
abbrev pub definitions_in : Reading → List Definition
definitions_in reading = map (λ (read : Read). read.definition) reading.pp.read

abbrev pub definition_at : List Reading → ℕ → ℕ → Option Definition
definition_at readings file hash = find (is_at file hash) (flat_map definitions_in readings)

abbrev pub proposal_by : Option (ℕ × Place) → Option Change → Option Proposal
proposal_by (Some broken) change = Some (proposal.Broken broken.0 broken.1)
proposal_by None change = option_map proposal.Change change

abbrev pub proposed : List Reading → Definition → Option Proposal
proposed readings definition = proposal_by (broken_first (rules_of definition readings)) (change_of definition readings)

abbrev pub IsProposal : List Reading → ℕ → ℕ → Proposal → Type 0
IsProposal readings file hash answer = option_and_then (proposed readings) (definition_at readings file hash) ≡ Some answer
