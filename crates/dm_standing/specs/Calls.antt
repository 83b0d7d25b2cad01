-- Where runs stand, and what is called in their place.
--     MayCall types unit run      a call may stand where the run stands: the rule 10 for a macro with a parameter list
--     HasArguments it unit count run      each parameter has an argument somewhere in the run
--     HasOccurrences it unit run      each occurrence stands in the run's tree
use Rattle.std.specs.Prelude.{◌≡◌, ℕ, ◌<◌, true, List, [], ◌∷◌, Some, IsTrue}
use Rattle.dm_runs.specs.declared.run.Occurrence.{Occurrence}
use Rattle.dm_runs.specs.declared.run.Run.{Run}
use Rattle.dm_type.specs.Tables.{Table}
use Rattle.dm_tree.specs.Units.{TypedUnit}
use Rattle.dm_meaning.specs.Among.{IsAmong}
use Rattle.dm_sites.specs.Sites.{Site, site_of}
use Rattle.dm_agree.specs.Agreement.{Rewriting, Left, standing_for}
use Rattle.dm_beside.specs.Places.{may_be_constant}

-- some tree stands there
abbrev pub IsThere : List Left → Type 0
IsThere [] = ⊥
IsThere (first ∷ rest) = Unit {0}

-- each of so many parameters has an argument somewhere in a run: a tree at an occurrence that is in no other parameter's
abbrev pub HasArguments : Rewriting → TypedUnit → ℕ → Run → Type 0
HasArguments it one count run =
    (inner : List Run) (site : Site) → site_of one run.span ≡ Some site → (n : ℕ) → n < count → IsThere (standing_for it run inner n site.tree)

-- what is found by the tokens of an occurrence is among the trees at the occurrences of its parameter
abbrev pub HasOccurrences : Rewriting → TypedUnit → Run → Type 0
HasOccurrences it one run =
    (inner : List Run) (site : Site) → site_of one run.span ≡ Some site → (each : Occurrence) → IsAmong each run.occurrences → (argument : Site) → site_of one each.span ≡ Some argument
    → (left : Left) × IsAmong left (standing_for it run inner each.parameter site.tree) × (left.tree ≡ argument.tree)

-- no run stands where a constant is wanted or nothing is evaluated (6.5.3.4p2, 6.6): a call may stand there
abbrev pub MayCall : Table → TypedUnit → Run → Type 0
MayCall types one run = IsTrue (may_be_constant types one true run)
