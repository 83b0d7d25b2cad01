use Rattle.std.proofs.Common.{◌+◌, ◌<◌, sym, ap, ◌∙◌, subst, arith, Some, drop}
use Rattle.dm_macro.specs.Signs.{is_right_parenthesis}
use Rattle.dm_macro.specs.Parts.{Splits}
use Rattle.dm_macro.proofs.SplitLemmas.{none_passes, first_passes, before_it, rest_behind}
use Rattle.dm_macro.proofs.FormLemmas.{opened_first}
use Rattle.dm_macro.proofs.form.split_list.Goals as goal

pub returns-in_err-close : goal.returns-in_err-close
returns-in_err-close c =
    subst (Splits c.args.behind.now) (sym c.from_residual.ensures) (none_passes is_right_parenthesis c.args.behind.now (sym c.first_closing.ensures ∙ c.in_err-close.was))

pub returns : goal.returns
returns c =
    let behind = c.args.behind.now in
    let close = c.in_ok-close.close in
    let at = first_passes is_right_parenthesis behind close (sym c.first_closing.ensures ∙ c.in_ok-close.was) in
    let inside : 0 < close = omega (arith, at.1, opened_first behind c.requires) in (
      at.2,
      before_it is_right_parenthesis behind close at.1 inside,
      at.3 _ ∙ ap Some (sym c.index-behind-close.is),
      rest_behind behind (close + 1) ∙ ap (λ n. drop (n + 1) behind) (sym at.1),
    )
