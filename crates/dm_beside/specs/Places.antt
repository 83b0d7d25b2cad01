-- The rules that ask where a run of a macro and the occurrences of its parameters stand in a unit.
--     occurs run n      rule 8: the parameter of this position occurs in the run
--     is_subtree unit run      rule 9: the run is one expression, and so is each occurrence in it
--     may_be_constant types unit is_function run      rule 10: no constant is wanted where the run stands, or what is to stand there is one
--     is_value unit run      rule 11: neither the run nor an occurrence in it is an object that is stored into or whose address is taken
use Rattle.std.specs.Prelude.{ℕ, Bool, true, false, ◌&&◌, ◌||◌, not, ◌==◌, List, ◌∷◌, map, is_some}
use Rattle.std.specs.List.{list_all, list_any}
use Rattle.dm_int.specs.declared.Kind.TheVariants.{Int}
use Rattle.dm_token.specs.declared.place.Span.{Span}
use Rattle.dm_type.specs.CTypes.{CType, integer}
use Rattle.dm_type.specs.Tables.{Table}
use Rattle.dm_tree.specs.Constants.{constant}
use Rattle.dm_tree.specs.Scenes.{is_lvalue}
use Rattle.dm_tree.specs.Trees.{kind_of}
use Rattle.dm_tree.specs.Units.{TypedUnit}
use Rattle.dm_runs.specs.declared.run.Occurrence.{Occurrence}
use Rattle.dm_runs.specs.declared.run.Run.{Run}
use Rattle.dm_sites.specs.Links.{passes}
use Rattle.dm_sites.specs.Sites.{Site, site_of}

abbrev pub occurs : Run → ℕ → Bool
occurs run n = list_any (λ (one : Occurrence). one.parameter == n) run.occurrences

-- ---- 9

-- the tokens of a run, and those of the occurrences in it
abbrev pub spans_in : Run → List Span
spans_in run = run.span ∷ map (λ (one : Occurrence). one.span) run.occurrences

abbrev pub is_one_expression : TypedUnit → Span → Bool
is_one_expression one span = is_some (site_of one span)

abbrev pub is_subtree : TypedUnit → Run → Bool
is_subtree one run = list_all (is_one_expression one) (spans_in run)

-- ---- 10

-- Neither a call nor an object may stand in an array length, an enumerator's value, a `case` or the initialiser of a static object (6.6p6,
-- p7), and in an operand of sizeof neither would be evaluated (6.5.3.4p2).
abbrev pub wants_constant : Site → Bool
wants_constant site = site.constant || (site.fixed || site.unevaluated)

abbrev pub is_int : CType → Bool
is_int (integer Int) = true
is_int type = false

-- A macro with a parameter list becomes a function. One without has a constant value; where that is an int it becomes an enumerator,
-- which is a constant (6.4.4.3), and else an object.
abbrev pub may_stand : Table → TypedUnit → Bool → Site → Bool
may_stand types one true site = not (wants_constant site)
may_stand types one false site = is_some (constant types one.declared site.tree) && (is_int (kind_of site.tree) || not (wants_constant site))

abbrev pub may_be_constant : Table → TypedUnit → Bool → Run → Bool
may_be_constant types one is_function run = passes (may_stand types one is_function) (site_of one run.span)

-- ---- 11

-- an expression is no lvalue, or it is read or decays there (6.3.2.1p2, p3)
abbrev pub is_read : Site → Bool
is_read site = not (is_lvalue site.tree)

abbrev pub is_value : TypedUnit → Run → Bool
is_value one run = list_all (λ span. passes is_read (site_of one span)) (spans_in run)
