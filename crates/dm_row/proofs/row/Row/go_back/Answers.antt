-- The item that was taken in front of the place is put behind it.
use Rattle.std.proofs.Common.{sym, ap, ◌∙◌, ◌∷◌, [], ◌++◌}
use Rattle.dm_row.proofs.row.Row.go_back.Goals as goal

pub returns-in_ok-put_behind : goal.returns-in_ok-put_behind
returns-in_ok-put_behind g c = record {
  item = c.in-Some.item;
  in_front = c.in-Some.ensures.0 ∙ ap (λ xs. xs ++ c.in-Some.item ∷ []) (sym (ap (λ both. both.0) c.in_ok-put_behind.ensures));
  behind = ap (λ both. both.1) c.in_ok-put_behind.ensures ∙ ap (λ xs. c.in-Some.item ∷ xs) c.in-Some.ensures.1;
}
