-- One step is carried out.
use Rattle.std.proofs.Common.{◌≡◌, List, [], ◌∷◌, ◌++◌, All, length, rules, Some, sym, ap, ◌∙◌, subst}
use Rattle.std.specs.Prelude.{IsSome}
use Rattle.std.proofs.lemmas.List.{nil_from_length}
use Rattle.std.proofs.lemmas.List.Elements.{All-nil}
use Rattle.dm_type.specs.declared.compose.Step.{Step}
use Rattle.dm_type.specs.CTypes.{CType}
use Rattle.dm_type.specs.Tables.{Table, type_of, IsId}
use Rattle.dm_type.specs.Sound.{IsSound}
use Rattle.dm_type.specs.TableLaws.{extends-itself, extends-on, injected}
use Rattle.dm_type.specs.Composing.{IsOver, stacked, applied, carried_out}
use Rattle.dm_type.proofs.ComposingLemmas.{carried-push, carried-needs, applied-kept, over-kept, single-made}
use Rattle.dm_type.proofs.DistinctLemmas.{distinct}
use Rattle.dm_type.proofs.SoundLemmas.{all-parts}
use Rattle.dm_type.proofs.types.Types.carry_out.Goals as goal

pub loop-step-init : goal.loop-step-init
loop-step-init c =
    let none : c.new-made.result.items ≡ [] = c.new-made.ensures.items in (
      ap (λ ids. carried_out c.args.self.now c.args.steps.items (stacked c.args.self.now ids)) none,
      subst (All (IsId c.args.self.now)) (sym none) (All-nil (IsId c.args.self.now)),
      c.requires.over,
      extends-itself c.args.self.now,
      distinct c.args.self.now (subst IsSound c.self.view_is c.self.invariant.0),
    )

pub carry-requires : goal.carry-requires
carry-requires c =
    let first : Table = c.args.self.now in
    let table : Table = c.loop-step.self in
    let step : Step = c.in-Some.step in
    let left : List Step = c.pop.new.self.items in
    let stack : List CType = stacked table c.loop-step.made.items in
    let popped : c.loop-step.steps.items ≡ left ++ step ∷ [] = c.in-Some.ensures.items in
    let over = (all-parts (IsOver first) left step (subst (All (IsOver first)) popped c.loop-step.invariant.2)).1 in record {
      over = over-kept first table step c.loop-step.invariant.3 over;
      made = c.loop-step.invariant.1;
      enough = subst IsSome (sym (applied-kept first table step stack c.loop-step.invariant.3 over))
          (carried-needs first left step stack (c.requires.makes.0 ∷ []) (ap (λ ss. carried_out first ss stack) (sym popped) ∙ c.loop-step.invariant.0 ∙ c.requires.makes.1));
    }

pub loop-step-preserved : goal.loop-step-preserved
loop-step-preserved c =
    let first : Table = c.args.self.now in
    let table : Table = c.loop-step.self in
    let new : Table = c.carry.new.self in
    let step : Step = c.in-Some.step in
    let left : List Step = c.pop.new.self.items in
    let stack : List CType = stacked table c.loop-step.made.items in
    let popped : c.loop-step.steps.items ≡ left ++ step ∷ [] = c.in-Some.ensures.items in
    let over = all-parts (IsOver first) left step (subst (All (IsOver first)) popped c.loop-step.invariant.2) in
    let pushed : c.push.new.self.items ≡ c.carry.new.made.items ++ c.in_ok-id.id ∷ [] = c.in_ok-push.ensures.items in
    let made : applied first step stack ≡ Some (stacked new (c.carry.new.made.items ++ c.in_ok-id.id ∷ [])) =
    sym (applied-kept first table step stack c.loop-step.invariant.3 over.1) ∙ c.in_ok-id.ensures.typed in (
      ap (λ ids. carried_out first left (stacked new ids)) pushed
          ∙ sym (carried-push first left step stack (stacked new (c.carry.new.made.items ++ c.in_ok-id.id ∷ [])) made)
          ∙ ap (λ ss. carried_out first ss stack) (sym popped)
          ∙ c.loop-step.invariant.0,
      subst (All (IsId new)) (sym pushed) c.in_ok-id.ensures.inside,
      over.0,
      extends-on first table new c.loop-step.invariant.3 c.carry.ensures.kept,
      c.in_ok-id.ensures.distinct,
    )

pub returns-clause-typed : goal.returns-clause-typed
returns-clause-typed c =
    let first : Table = c.args.self.now in
    let table : Table = c.loop-step.self in
    let stack : List CType = stacked table c.loop-step.made.items in
    let zero : length c.loop-step.steps.items ≡ 0 = search rules in
    let none : c.loop-step.steps.items ≡ [] = nil_from_length c.loop-step.steps.items zero in
    let whole : Some stack ≡ carried_out first c.args.steps.items [] = ap (λ ss. carried_out first ss stack) (sym none) ∙ c.loop-step.invariant.0 in
    let single = single-made table c.loop-step.made.items c.requires.makes.0 c.index.result.now (injected stack (c.requires.makes.0 ∷ []) (whole ∙ c.requires.makes.1)) in
    sym whole ∙ ap Some single.1 ∙ ap (λ id. Some (type_of table id ∷ [])) (sym c.index.ensures)
