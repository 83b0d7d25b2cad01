-- The item that was taken behind the place is put in front of it.
use Rattle.std.proofs.Common.{sym, ap, ◌∙◌, ◌∷◌, [], ◌++◌}
use Rattle.dm_row.proofs.row.Row.go_on.Goals as goal

pub returns-in_ok-put_in_front : goal.returns-in_ok-put_in_front
returns-in_ok-put_in_front g c = record {
  item = c.in-Some.item;
  in_front = ap (λ both. both.0) c.in_ok-put_in_front.ensures ∙ ap (λ xs. xs ++ c.in-Some.item ∷ []) c.in-Some.ensures.1;
  behind = c.in-Some.ensures.0 ∙ ap (λ xs. c.in-Some.item ∷ xs) (sym (ap (λ both. both.1) c.in_ok-put_in_front.ensures));
}
