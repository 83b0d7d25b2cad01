use Rattle.std.proofs.Common.{◌≡◌, true, false, map, ap, ◌∙◌}
use Rattle.dm_syn.specs.Heights.{words_node}
use Rattle.dm_syn.specs.Views as view
use Rattle.dm_pexpr.proofs.TypeNodeLemmas.{specifiers-made}
use Rattle.dm_pexpr.proofs.reader.Reader.specifiers_node.Goals as goal

pub returns : goal.returns
returns c before wanted given =
    specifiers-made _ before _ c.args.first c.args.words c.in_ok-words.words wanted c.in_ok-words.was (λ empty. let clash : false ≡ true = c.if-is_empty.ensures.1 empty in cc) given c.words_height-height.result c.checked.result
    (λ small. c.words_height-height.ensures small ∙ ap (λ items. words_node (view.words (map view.specifier items)) c.in_ok-words.words.height) c.items.ensures) c.checked.ensures
