-- The values of a report have no floats, and nest four deep at most.
use Rattle.std.proofs.Common.{◌≡◌, ℕ, ◌≤◌, Bool, false, ◌||◌, List, [], ◌∷◌, map, refl, ap, ◌∙◌, arith}
use Rattle.serde_json.specs.Data.{depth, items_depth}
use Rattle.serde_json.specs.View.{items_of}
use Rattle.serde_json.specs.Written.{has_float, items_have_float}
use Rattle.serde_json.specs.Read.{max_depth}
use Rattle.dm_token.specs.declared.expansion.Definition.{Definition}
use Rattle.dm_edit.specs.declared.plan.Entry.{Entry}
use Rattle.dm_edit.specs.declared.plan.Fate.{Fate}
use Rattle.dm_edit.specs.declared.plan.Fate.TheVariants.{Rewritten, Kept}
use Rattle.dm_edit.specs.declared.plan.Plan.{Plan}
use Rattle.dm_report.specs.JsonReport.{fate_data, entry_data, plan_data}

has_float-fate : (names : List (List ℕ)) (definition : Definition) (fate : Fate) → has_float (fate_data names definition fate) ≡ false
has_float-fate names definition (Rewritten kind) = refl
has_float-fate names definition (Kept rule place) = refl

has_float-entry : (names : List (List ℕ)) (entry : Entry) → has_float (entry_data names entry) ≡ false
unfolding entry_data
has_float-entry names entry = has_float-fate names entry.definition entry.outcome

has_float-entries : (names : List (List ℕ)) (entries : List Entry) → items_have_float (items_of (map (entry_data names) entries)) ≡ false
has_float-entries names [] = refl
has_float-entries names (entry ∷ entries) =
    ap (λ (b : Bool). b || items_have_float (items_of (map (entry_data names) entries))) (has_float-entry names entry) ∙ has_float-entries names entries

pub has_float-plan : (plan : Plan) → has_float (plan_data plan) ≡ false
unfolding plan_data
has_float-plan plan = ap (λ (b : Bool). b || false) (has_float-entries plan.names plan.entries)

depth-fate : (names : List (List ℕ)) (definition : Definition) (fate : Fate) → depth (fate_data names definition fate) ≤ 2
depth-fate names definition (Rewritten kind) = omega arith
depth-fate names definition (Kept rule place) = omega arith

depth-entry : (names : List (List ℕ)) (entry : Entry) → depth (entry_data names entry) ≤ 2
unfolding entry_data
depth-entry names entry = depth-fate names entry.definition entry.outcome

depth-entries : (names : List (List ℕ)) (entries : List Entry) → items_depth (items_of (map (entry_data names) entries)) ≤ 2
depth-entries names [] = omega arith
depth-entries names (entry ∷ entries) = omega (arith, depth-entry names entry, depth-entries names entries)

pub depth-plan : (plan : Plan) → depth (plan_data plan) ≤ max_depth
unfolding plan_data
depth-plan plan = omega (arith, depth-entries plan.names plan.entries)
