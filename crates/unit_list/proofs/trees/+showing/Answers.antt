-- Parts of a tree whose types are numbered have types that are, and are smaller.
use Rattle.std.proofs.Common.{IsTrue, All, length, rules, sym, subst}
use Rattle.dm_tree.specs.declared.tree.Core as q
use Rattle.dm_tree.specs.TypeNumbers.{are_known, are_known_in_local}
use Rattle.unit_list.specs.Known.{are_known_in_initial}
use Rattle.unit_list.proofs.KnownLemmas.{block-known, declare-known, switch-known, call-known, parts-known, second-Binary, second-Both, second-Either, second-Comma, second-Store, second-Update, second-Case, second-While, second-Do, third-Choose, second-If, third-If, third-For, last-For}
use Rattle.unit_list.proofs.trees.+showing.Goals as goal

pub put_pair-put_tree-requires-in-Binary : goal.put_pair-put_tree-requires-in-Binary
put_pair-put_tree-requires-in-Binary t c = (
  search (rules, q.the_lemmas),
  subst (λ x. IsTrue (are_known (length c.args.types.now.shapes) x)) (sym c.get-in-Binary.ensures) (second-Binary _ _ _ _ _ c.in-Binary.is c.requires),
)

pub put_pair-put_tree-requires-in-Both-2 : goal.put_pair-put_tree-requires-in-Both-2
put_pair-put_tree-requires-in-Both-2 t c = (
  search (rules, q.the_lemmas),
  subst (λ x. IsTrue (are_known (length c.args.types.now.shapes) x)) (sym c.get-in-Both-2.ensures) (second-Both _ _ _ _ c.in-Both.is c.requires),
)

pub put_pair-put_tree-requires-in-Either-2 : goal.put_pair-put_tree-requires-in-Either-2
put_pair-put_tree-requires-in-Either-2 t c = (
  search (rules, q.the_lemmas),
  subst (λ x. IsTrue (are_known (length c.args.types.now.shapes) x)) (sym c.get-in-Either-2.ensures) (second-Either _ _ _ _ c.in-Either.is c.requires),
)

pub put_pair-put_tree-requires-in-Comma-2 : goal.put_pair-put_tree-requires-in-Comma-2
put_pair-put_tree-requires-in-Comma-2 t c = (
  search (rules, q.the_lemmas),
  subst (λ x. IsTrue (are_known (length c.args.types.now.shapes) x)) (sym c.get-in-Comma-2.ensures) (second-Comma _ _ _ _ c.in-Comma.is c.requires),
)

pub put_pair-put_tree-requires-in-Store-2 : goal.put_pair-put_tree-requires-in-Store-2
put_pair-put_tree-requires-in-Store-2 t c = (
  search (rules, q.the_lemmas),
  subst (λ x. IsTrue (are_known (length c.args.types.now.shapes) x)) (sym c.get-in-Store-2.ensures) (second-Store _ _ _ _ c.in-Store.is c.requires),
)

pub put_pair-put_tree-requires-in-Update-2 : goal.put_pair-put_tree-requires-in-Update-2
put_pair-put_tree-requires-in-Update-2 t c = (
  search (rules, q.the_lemmas),
  subst (λ x. IsTrue (are_known (length c.args.types.now.shapes) x)) (sym c.get-in-Update-2.ensures) (second-Update _ _ _ _ _ _ c.in-Update.is c.requires),
)

pub put_operands-put_tree-requires-in-Choose-3 : goal.put_operands-put_tree-requires-in-Choose-3
put_operands-put_tree-requires-in-Choose-3 t c = (
  search (rules, q.the_lemmas),
  subst (λ x. IsTrue (are_known (length c.args.types.now.shapes) x)) (sym c.get-in-Choose-3.ensures) (third-Choose _ _ _ _ _ c.in-Choose.is c.requires),
)

pub put_operands-put_list-requires : goal.put_operands-put_list-requires
put_operands-put_list-requires t c = (
  search (rules, q.the_lemmas),
  subst (λ xs. All (λ core. IsTrue (are_known (length c.args.types.now.shapes) core)) xs) (sym c.items.ensures) (call-known _ _ _ _ c.in-Call.is c.requires),
)

pub put_guarded-put_tree-requires-in-Case : goal.put_guarded-put_tree-requires-in-Case
put_guarded-put_tree-requires-in-Case t c = (
  search (rules, q.the_lemmas),
  subst (λ x. IsTrue (are_known (length c.args.types.now.shapes) x)) (sym c.get-in-Case.ensures) (second-Case _ _ _ _ c.in-Case.is c.requires),
)

pub put_guarded-put_tree-requires-in-While-2 : goal.put_guarded-put_tree-requires-in-While-2
put_guarded-put_tree-requires-in-While-2 t c = (
  search (rules, q.the_lemmas),
  subst (λ x. IsTrue (are_known (length c.args.types.now.shapes) x)) (sym c.get-in-While-2.ensures) (second-While _ _ _ _ c.in-While.is c.requires),
)

pub put_guarded-put_tree-requires-in-Do-2 : goal.put_guarded-put_tree-requires-in-Do-2
put_guarded-put_tree-requires-in-Do-2 t c = (
  search (rules, q.the_lemmas),
  subst (λ x. IsTrue (are_known (length c.args.types.now.shapes) x)) (sym c.get-in-Do-2.ensures) (second-Do _ _ _ _ c.in-Do.is c.requires),
)

pub put_parts-put_list-requires : goal.put_parts-put_list-requires
put_parts-put_list-requires t c = (
  search (rules, q.the_lemmas),
  subst (λ xs. All (λ core. IsTrue (are_known (length c.args.types.now.shapes) core)) xs) (sym c.items.ensures) (block-known _ _ _ c.in-Block.is c.requires),
)

pub put_parts-put_locals-requires : goal.put_parts-put_locals-requires
put_parts-put_locals-requires t c = (
  search (rules, q.the_lemmas),
  subst (λ xs. All (λ local. IsTrue (are_known_in_local (length c.args.types.now.shapes) local)) xs) (sym c.items-in-Declare.ensures) (declare-known _ _ _ _ c.in-Declare.is c.requires),
)

pub put_parts-put_tree-requires-in-If : goal.put_parts-put_tree-requires-in-If
put_parts-put_tree-requires-in-If t c = (
  search (rules, q.the_lemmas),
  subst (λ x. IsTrue (are_known (length c.args.types.now.shapes) x)) (sym c.get-in-If.ensures) (second-If _ _ _ _ _ c.in-If.is c.requires),
)

pub put_parts-put_optional-requires : goal.put_parts-put_optional-requires
put_parts-put_optional-requires t c = (search (rules, q.the_lemmas), third-If _ _ _ _ _ c.in-If.is c.requires)

pub put_parts-put_list-requires-in-Switch : goal.put_parts-put_list-requires-in-Switch
put_parts-put_list-requires-in-Switch t c = (
  search (rules, q.the_lemmas),
  subst (λ xs. All (λ core. IsTrue (are_known (length c.args.types.now.shapes) core)) xs) (sym c.items-in-Switch.ensures) (switch-known _ _ _ _ c.in-Switch.is c.requires),
)

pub put_parts-put_optional-requires-in-For-3 : goal.put_parts-put_optional-requires-in-For-3
put_parts-put_optional-requires-in-For-3 t c = (search (rules, q.the_lemmas), third-For _ _ _ _ _ _ c.in-For.is c.requires)

pub put_parts-put_tree-requires-in-For : goal.put_parts-put_tree-requires-in-For
put_parts-put_tree-requires-in-For t c = (
  search (rules, q.the_lemmas),
  subst (λ x. IsTrue (are_known (length c.args.types.now.shapes) x)) (sym c.get-in-For.ensures) (last-For _ _ _ _ _ _ c.in-For.is c.requires),
)

pub put_initial-put_initials-requires : goal.put_initial-put_initials-requires
put_initial-put_initials-requires t c = (
  search (rules, q.the_lemmas),
  subst (λ xs. All (λ part. IsTrue (are_known_in_initial (length c.args.types.now.shapes) part)) xs) (sym c.items.ensures) (parts-known _ _ _ c.in-Parts.is c.requires),
)
