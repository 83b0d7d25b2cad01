-- By the parameter's number, if there is one.
use Rattle.std.proofs.Common.{rules, ◌≡◌, ◌↔◌, IsTrue, false, ℕ, Option, Some, None, slice_get, length, refl, sym, ◌∙◌, subst}
use Rattle.std.proofs.lemmas.Bool.{false≢true}
use Rattle.std.proofs.lemmas.Option.{slice_get_past, slice_get_read}
use Rattle.dm_tree.specs.Trees.{kind_of, label_of, trees_of}
use Rattle.dm_tree.specs.Views.{view}
use Rattle.dm_agree.specs.Agreement.{IsReadOf}
use Rattle.dm_agree.proofs.StepLemmas.{never}
use Rattle.dm_agree.proofs.names.reads_parameter.Goals as goal

pub returns-then-is_read_of : goal.returns-then-is_read_of
returns-then-is_read_of c =
    let it = c.args.it.now in
    let new = view it.new_types.now c.args.new.now in
    let at : slice_get c.args.parameters.now c.args.position ≡ Some c.in-Some.number.now
    = slice_get_read c.args.parameters.now (length c.args.parameters.now) c.args.position c.in-Some.number.now refl (search rules) (search rules) in
    let named = (c.is_read_of.ensures it.new_types.now).0 c.if-is_read_of.true in
    let kind = c.is_same_kind.ensures in
    subst (λ (number : Option ℕ). IsTrue c.is_same_kind.result ↔ IsReadOf number (label_of new) (kind_of new) (trees_of new) (view it.old_types.now c.args.old.now)) (sym at)
    (λ passed. (named.0, kind.0 passed, named.1), λ read. kind.1 read.1)

pub returns-else-is_read_of : goal.returns-else-is_read_of
returns-else-is_read_of c =
    let it = c.args.it.now in
    let new = view it.new_types.now c.args.new.now in
    let at : slice_get c.args.parameters.now c.args.position ≡ Some c.in-Some.number.now
    = slice_get_read c.args.parameters.now (length c.args.parameters.now) c.args.position c.in-Some.number.now refl (search rules) (search rules) in
    let named = c.is_read_of.ensures it.new_types.now in
    subst (λ (number : Option ℕ). IsTrue c.is_read_of.result ↔ IsReadOf number (label_of new) (kind_of new) (trees_of new) (view it.old_types.now c.args.old.now)) (sym at)
    (λ passed. absurd (false≢true (sym c.if-is_read_of.false ∙ passed)), λ read. named.1 (read.0, read.2))

pub returns-in-None : goal.returns-in-None
returns-in-None c =
    let it = c.args.it.now in
    let new = view it.new_types.now c.args.new.now in
    let none : slice_get c.args.parameters.now c.args.position ≡ None = slice_get_past c.args.parameters.now c.args.position (search rules) in
    subst (λ (number : Option ℕ). IsTrue false ↔ IsReadOf number (label_of new) (kind_of new) (trees_of new) (view it.old_types.now c.args.old.now)) (sym none) (never (λ read. read))
