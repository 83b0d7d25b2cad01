-- One parameter after the other.
use Rattle.std.proofs.Common.{◌≡◌, ℕ, ◌∷◌, [], List, map, length, IsSome, rules, sym, subst}
use Rattle.std.specs.List.{AllByRecursion}
use Rattle.dm_meaning.specs.Programs.{declaration_of}
use Rattle.dm_program.specs.Sources.{meant}
use Rattle.dm_value.specs.Views.{view_of_value}
use Rattle.dm_frame.specs.Calling.{IsGiven}
use Rattle.dm_frame.proofs.CallLemmas.{none-given, one-given}
use Rattle.dm_frame.proofs.EnterLemmas.{empty}
use Rattle.dm_frame.proofs.calling.give.Goals as goal

pub parameter_block-requires : goal.parameter_block-requires
parameter_block-requires c =
    let program = meant c.args.program.now in
    let e : c.loop-parameter.left.now ≡ c.in-Some.parameter.now ∷ c.in-Some.others.now = search rules in
    (subst (AllByRecursion (λ d. IsSome (declaration_of program d))) e c.loop-parameter.invariant.1).0

pub loop-parameter-preserved : goal.loop-parameter-preserved
loop-parameter-preserved c =
    let program = meant c.args.program.now in
    let e : c.loop-parameter.left.now ≡ c.in-Some.parameter.now ∷ c.in-Some.others.now = search rules in (
      c.in_ok-make.ensures.known c.args.program.now.table c.loop-parameter.invariant.0 c.in_ok-block.ensures.1,
      (subst (AllByRecursion (λ d. IsSome (declaration_of program d))) e c.loop-parameter.invariant.1).1,
      λ named made more. c.loop-parameter.invariant.2 named made
          (subst (λ (left : List ℕ). IsGiven program left (map view_of_value c.loop-parameter.values.now) c.loop-parameter.objects c.loop-parameter.blocks named made) (sym e)
          (one-given program c.in-Some.parameter.now c.in-Some.others.now (map view_of_value c.loop-parameter.values.now) (map view_of_value c.others_behind-values.result.now) c.in_ok-block.block
          c.loop-parameter.objects c.make.new.objects named c.loop-parameter.blocks c.make.new.blocks made
          c.in_ok-block.ensures.0 c.in_ok-make.ensures.objects c.in_ok-make.ensures.blocks c.others_behind-values.ensures more)),
    )

pub returns : goal.returns
returns c =
    let program = meant c.args.program.now in
    let none : length c.loop-parameter.left.now ≡ 0 = search rules in
    c.loop-parameter.invariant.2 _ _
    (subst (λ (left : List ℕ). IsGiven program left (map view_of_value c.loop-parameter.values.now) c.loop-parameter.objects c.loop-parameter.blocks c.loop-parameter.objects c.loop-parameter.blocks) (sym (empty c.loop-parameter.left.now none))
    (none-given program (map view_of_value c.loop-parameter.values.now) c.loop-parameter.objects c.loop-parameter.blocks c.loop-parameter.invariant.0))
