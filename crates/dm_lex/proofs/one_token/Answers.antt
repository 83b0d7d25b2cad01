use Rattle.std.proofs.Common.{◌∙◌, ap, sym, arith, ◌≤◌, length, Ok}
use Rattle.std.specs.Prelude.{Option, Result}
use Rattle.std.proofs.lemmas.Bool.{eqb-true}
use Rattle.dm_token.specs.declared.stop.Memory.{Memory}
use Rattle.dm_token.specs.declared.token.PpKind.{PpKind}
use Rattle.dm_lex.specs.Classes.{class_of}
use Rattle.dm_lex.proofs.KindLemmas.{class_of-whole, class_of-part, class_of-none}
use Rattle.dm_lex.proofs.one_token.Goals as goal

pub returns-then-is_empty : goal.returns-then-is_empty
returns-then-is_empty c =
    ap (λ (k : Option PpKind). let r : Result (Option PpKind) Memory = Ok k in r)
    (sym (ap class_of (sym c.bytes-text.ensures) ∙ class_of-none c.bytes-text.result.now (eqb-true _ _ (sym c.is_empty.ensures ∙ c.if-is_empty.true))))

pub returns-then-found-text : goal.returns-then-found-text
returns-then-found-text c =
    ap (λ (k : Option PpKind). let r : Result (Option PpKind) Memory = Ok k in r)
    (sym (ap class_of (sym c.bytes-text.ensures) ∙ class_of-part c.bytes-text.result.now c.token_at-found.result c.token_at-found.ensures.best c.if-found-text.true))

pub returns : goal.returns
returns c =
    let i : c.token_at-found.result.length ≤ length c.bytes-text.result.now = c.token_at-found.ensures.best.inside in
    ap (λ (k : Option PpKind). let r : Result (Option PpKind) Memory = Ok k in r)
    (c.unless_stray.ensures ∙ sym (ap class_of (sym c.bytes-text.ensures) ∙ class_of-whole c.bytes-text.result.now c.token_at-found.result c.token_at-found.ensures.best (omega (arith, i, c.if-found-text.false))))
