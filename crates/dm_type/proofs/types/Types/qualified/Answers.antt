-- The const of an array goes to its elements.
use Rattle.std.proofs.Common.{◌≡◌, IfOk, sym, ap, ◌∙◌, subst}
use Rattle.dm_type.specs.CTypes.{with_const}
use Rattle.dm_type.specs.Tables.{type_of, Has}
use Rattle.dm_type.specs.Wraps.{arrayed}
use Rattle.dm_type.proofs.SoundLemmas.{arrayed-const}
use Rattle.dm_type.proofs.types.Types.qualified.Goals as goal

pub returns-clause-typed : goal.returns-clause-typed
returns-clause-typed c =
    let is : arrayed c.in_ok-lengths.lengths.items (type_of c.with_own_const.new.self c.in_ok-element.element) ≡ with_const (type_of c.args.self.now c.args.id) =
    ap (arrayed c.in_ok-lengths.lengths.items) c.in_ok-element.ensures.typed.1
    ∙ sym (arrayed-const c.in_ok-lengths.lengths.items (type_of c.args.self.now c.in_ok-lengths.element))
    ∙ ap with_const c.in_ok-lengths.ensures.same in
    subst (λ t. IfOk c.arrays.result (λ new. Has c.arrays.new.self new t)) is c.arrays.ensures.typed
