-- The numbers of types in the operands are among those of the form.
use Rattle.std.proofs.Common.{IsTrue, sym, subst, ⊎_elim}
use Rattle.dm_tree.specs.TypeNumbers.{are_known}
use Rattle.dm_expression.specs.Operands.{AreAllKnown}
use Rattle.dm_expression.proofs.KnownLemmas.{first-Read, first-Decay, first-Address, first-Follow, first-Member, first-Unary, first-Convert, first-Both, first-Either, first-Choose, first-Comma, both-Binary, both-Store, both-Update, arguments-Call}
use Rattle.dm_expression.proofs.waiting.open_operands.Goals as goal

pub returns-in-Call-clause-known : goal.returns-in-Call-clause-known
returns-in-Call-clause-known c n h = subst (AreAllKnown n) (sym c.items.ensures) (arguments-Call n c.args.form.now _ c.in-Call.arguments c.in-Call.is h)

pub returns-in-Binary-clause-known : goal.returns-in-Binary-clause-known
returns-in-Binary-clause-known c n h =
    let both : IsTrue (are_known n c.in-Binary.a) × IsTrue (are_known n c.in-Binary.b) =
    ⊎_elim (λ e. both-Binary n c.args.form.now e.0 _ _ e.1 h) (⊎_elim (λ e. both-Store n c.args.form.now _ _ e h) (λ e. both-Update n c.args.form.now e.0 e.1 _ _ e.2 h)) c.in-Binary.is in
    (subst (λ x. IsTrue (are_known n x)) (sym c.get-in-Binary.ensures) both.0, (subst (λ x. IsTrue (are_known n x)) (sym c.get-in-Binary-2.ensures) both.1, tt))

pub returns-in-Read-clause-known : goal.returns-in-Read-clause-known
returns-in-Read-clause-known c n h =
    let f = c.args.form.now in
    let first : IsTrue (are_known n c.in-Read.a) =
    ⊎_elim (λ e. first-Read n f _ e h) (⊎_elim (λ e. first-Decay n f _ e h) (⊎_elim (λ e. first-Address n f _ e h) (⊎_elim (λ e. first-Follow n f _ e h)
    (⊎_elim (λ e. first-Member n f _ e.0 e.1 h) (⊎_elim (λ e. first-Unary n f e.0 _ e.1 h) (⊎_elim (λ e. first-Convert n f _ e.0 e.1 h) (⊎_elim (λ e. first-Both n f _ e.0 e.1 h)
    (⊎_elim (λ e. first-Either n f _ e.0 e.1 h) (⊎_elim (λ e. first-Choose n f _ e.0 e.1 e.2 h) (λ e. first-Comma n f _ e.0 e.1 h)))))))))) c.in-Read.is in
    (subst (λ x. IsTrue (are_known n x)) (sym c.get-in-Read.ensures) first, tt)
