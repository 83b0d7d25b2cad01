-- What is asked of the trees at a place and beside it.
--     is_doubted types doubt tree      the answer for one
--     is_doubted_beside types doubt whole ways      the answer for some tree to which one of these ways leads
use Rattle.std.specs.Prelude.{Bool, not, List}
use Rattle.std.specs.List.{filter_map, list_any}
use Rattle.dm_type.specs.Tables.{Table}
use Rattle.dm_tree.specs.Paths.{Path, tree_at}
use Rattle.dm_tree.specs.Trees.{Tree, spans_of}
use Rattle.dm_effect.specs.declared.around.Doubt.{Doubt}
use Rattle.dm_effect.specs.declared.around.Doubt.TheVariants.{Writes, Disturbs}
use Rattle.dm_effect.specs.Entities.{writes}
use Rattle.dm_effect.specs.Questions.{is_quiet_since}
use Rattle.dm_effect.specs.Quiet.{is_quiet_with}

abbrev pub is_doubted : Table → Doubt → Tree → Bool
is_doubted types (Writes d) tree = writes d tree
is_doubted types (Disturbs since) tree = not (is_quiet_with (is_quiet_since since.now (spans_of tree).inner.first) tree)

abbrev pub is_doubted_beside : Table → Doubt → Tree → List Path → Bool
is_doubted_beside types doubt whole ways = list_any (is_doubted types doubt) (filter_map (λ (way : Path). tree_at way whole) ways)
