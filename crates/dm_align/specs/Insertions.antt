-- What the edit of a macro's definition may put in.
--     put_in it added      the insertion, where this is added
--     AddsIt types new it added      the new unit has it there
--     AreAlignedFor it old_types new_types old new runs      the units agree where something is put in so
--     IsOnly P found      what is found has a property and nothing else has it, or nothing has it
use Rattle.std.specs.Prelude.{◌≡◌, ℕ, Bool, true, false, List, [], ◌∷◌, Option, Some, None, option_and_then}
use Rattle.dm_runs.specs.declared.run.Run.{Run}
use Rattle.dm_type.specs.Tables.{Table}
use Rattle.dm_tree.specs.Trees.{full, return, Declarator, one_expression, Tree, node, no_trees, more_trees}
use Rattle.dm_tree.specs.Units.{ExternalForm, TypedUnit}
use Rattle.dm_edit.specs.declared.change.As.{As}
use Rattle.dm_edit.specs.declared.change.As.TheVariants.{Function, Enumerator, Constant}
use Rattle.dm_agree.specs.Agreement.{Added, nothing, added_function, added_enumerator, added_constant}
use Rattle.dm_align.specs.declared.insertion.Inserted.{Inserted}
use Rattle.dm_align.specs.Units.{Insertion, FormAdds, IsPutIn, AreAligned}

-- what a kind of change adds
abbrev pub IsOfKind : As → Added → Type 0
IsOfKind Function (added_function f parameters body) = Unit {0}
IsOfKind Enumerator (added_enumerator d value) = Unit {0}
IsOfKind Constant (added_constant d value) = Unit {0}
IsOfKind kind added = ⊥

-- the number of the added declaration
abbrev pub number_of : Added → ℕ
number_of nothing = 0
number_of (added_function f parameters body) = f
number_of (added_enumerator d value) = d
number_of (added_constant d value) = d

abbrev pub put_in : Inserted → Added → Insertion
put_in it added = record { external = it.external; first = it.first; count = it.count; name = it.name.now; added = added }

abbrev pub Fits : Inserted → Added → Type 0
Fits it added = IsOfKind it.kind added × (number_of added ≡ it.number)

abbrev pub FormAddsIt : Table → TypedUnit → Inserted → ExternalForm → Added → Type 0
FormAddsIt types new it form added = Fits it added × FormAdds types new (put_in it added) added form

abbrev pub AddsIt : Table → TypedUnit → Inserted → Added → Type 0
AddsIt types new it added = Fits it added × IsPutIn types new (Some (put_in it added))

abbrev pub AreAlignedFor : Inserted → Table → Table → TypedUnit → TypedUnit → List Run → Type 0
AreAlignedFor it old_types new_types old new runs = (added : Added) × Fits it added × AreAligned old_types new_types old new runs (Some (put_in it added))

abbrev pub IsOnly : {A : Type 0} → (A → Type 0) → Option A → Type 0
IsOnly P None = (x : _) → P x → ⊥
IsOnly P (Some found) = P found × ((x : _) → P x → x ≡ found)

-- the expression of a body that is one `return` of it, or where the result is void one expression statement
abbrev pub value_of : Bool → Tree → Option Tree
value_of false (node return kind spans (more_trees value no_trees)) = Some value
value_of true (node full kind spans (more_trees value no_trees)) = Some value
value_of void item = None

abbrev pub single : List Tree → Option Tree
single (item ∷ []) = Some item
single items = None

abbrev pub value_in : Bool → List Tree → Option Tree
value_in void items = option_and_then (value_of void) (single items)

-- the declarator of an object that is defined with an expression as its initialiser
abbrev pub declarator_of : ℕ → Declarator
declarator_of d = record { declared = d; defines = true; initialiser = Some one_expression }
