-- What stands below a conversion.
use Rattle.std.specs.Prelude.{◌∷◌, map, IsTrue, ◌&&◌}
use Rattle.std.proofs.Common.{ap, sym, ◌∙◌, subst}
use Rattle.std.proofs.lemmas.Bool.{and_parts}
use Rattle.dm_tree.specs.Trees as label
use Rattle.dm_tree.specs.TypeNumbers.{are_known, are_known_in_form, all_pass}
use Rattle.dm_tree.specs.Views.{view, opened, opened_form}
use Rattle.dm_typing.proofs.FormLemmas.{opened-Convert, known-Convert}
use Rattle.dm_typing.proofs.values.converted_operand.Goals as goal

pub returns-in-Convert-clause-operand : goal.returns-in-Convert-clause-operand
returns-in-Convert-clause-operand c = λ types. (
  map (view types) c.in-Convert.field-1,
  ap (opened_form types) c.in-Convert.is ∙ (opened-Convert types c.in-Convert.operand c.in-Convert.field-1
      ∙ ap (λ x. opened label.convert (view types x ∷ map (view types) c.in-Convert.field-1)) (sym c.get.ensures)),
)

pub returns-in-Convert-clause-numbered : goal.returns-in-Convert-clause-numbered
returns-in-Convert-clause-numbered c = λ n known.
    subst (λ x. IsTrue (are_known n x)) (sym c.get.ensures)
    (and_parts (are_known n c.in-Convert.operand) (all_pass (map (are_known n) c.in-Convert.field-1))
    (sym (known-Convert n c.in-Convert.operand c.in-Convert.field-1) ∙ (ap (are_known_in_form n) (sym c.in-Convert.is) ∙ known))).0
