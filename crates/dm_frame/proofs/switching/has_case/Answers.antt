-- A label `case` with another value doesn't decide, nor does a statement without a label.
use Rattle.std.proofs.Common.{◌≡◌, ℤ, false, ◌||◌, rules, ap, sym, subst, ◌∙◌, to_z, of_z}
use mir.Syntax.{w128}
use Rattle.dm_tree.specs.declared.tree.Core.{Core}
use Rattle.dm_tree.specs.Views.{view}
use Rattle.dm_meaning.specs.Programs.{constant_of}
use Rattle.dm_meaning.specs.Statements.{has_case, is_number}
use Rattle.dm_program.specs.Sources.{meant}
use Rattle.dm_frame.specs.Tasks.{ExpressionFits, TreeFits}
use Rattle.dm_frame.proofs.FitLemmas.{fits-Case, fits-Default, form-is}
use Rattle.dm_frame.proofs.SwitchLemmas.{case-Case, case-Default, case-other}
use Rattle.dm_frame.proofs.switching.has_case.Goals as goal

pub is_number-requires : goal.is_number-requires
is_number-requires c =
    let table = c.args.program.now.table in
    subst (ExpressionFits table) (sym c.get.ensures) (fits-Case table c.in-Case.label c.in-Case.statement (form-is table c.loop-at.at.now _ c.in-Case.is c.loop-at.invariant.0)).0

pub loop-at-preserved-in-Case : goal.loop-at-preserved-in-Case
loop-at-preserved-in-Case c =
    let table = c.args.program.now.table in
    let program = meant c.args.program.now in
    let core = c.loop-at.at.now in
    let label = c.in-Case.label in
    let statement = c.in-Case.statement in
    let value : ℤ = to_z w128 (of_z w128 c.args.value) in
    let other : is_number value (constant_of program (view table label)) ≡ false =
    ap (λ (core : Core). is_number value (constant_of program (view table core))) (sym c.get.ensures) ∙ (sym c.is_number.ensures ∙ c.if-is_number.false) in (
      subst (TreeFits table) (sym c.get-at.ensures) (fits-Case table label statement (form-is table core _ c.in-Case.is c.loop-at.invariant.0)).1,
      ap (λ (core : Core). has_case program value (view table core)) c.get-at.ensures
          ∙ (sym (case-Case program value table core label statement c.in-Case.is ∙ ap (λ b. b || has_case program value (view table statement)) other) ∙ c.loop-at.invariant.1),
    )

pub loop-at-preserved : goal.loop-at-preserved
loop-at-preserved c =
    let table = c.args.program.now.table in
    let program = meant c.args.program.now in
    let core = c.loop-at.at.now in
    let statement = c.in-Default.statement in
    let value : ℤ = to_z w128 (of_z w128 c.args.value) in (
      subst (TreeFits table) (sym c.get-at-in-Default.ensures) (fits-Default table statement (form-is table core _ c.in-Default.is c.loop-at.invariant.0)),
      ap (λ (core : Core). has_case program value (view table core)) c.get-at-in-Default.ensures
          ∙ (sym (case-Default program value table core statement c.in-Default.is) ∙ c.loop-at.invariant.1),
    )

pub returns-in_default : goal.returns-in_default
returns-in_default c =
    let other = case-other (meant c.args.program.now) c.args.value c.args.program.now.table c.loop-at.at.now c.in_default.not-Case c.in_default.not-Default in
    let same = c.loop-at.invariant.1 in
    search (rules, other, same)
