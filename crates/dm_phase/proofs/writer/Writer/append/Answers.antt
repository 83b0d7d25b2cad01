use Rattle.std.proofs.Common.{◌≡◌, ◌∙◌, ap, arith, [], ◌∷◌, ◌++◌, ◌<◌, ◌+◌, append-nil, append_assoc, get_or, length, sym, List}
use Rattle.std.proofs.lemmas.Bool.{eqb-true, eqb-false}
use Rattle.dm_phase.specs.declared.Character.{Character}
use Rattle.dm_phase.specs.Phases.{characters_at}
use Rattle.dm_phase.specs.Sparse.{plain}
use Rattle.dm_phase.specs.Writing.{written}
use Rattle.dm_phase.proofs.SparseLemmas.{characters_at-first, characters_at-none}
use Rattle.dm_phase.proofs.writer.Writer.append.Goals as goal

pub returns-then-is_empty-clause-text : goal.returns-then-is_empty-clause-text
returns-then-is_empty-clause-text c =
    sym (ap (λ t. written c.args.self.now ++ t) (characters_at-none c.args.at c.args.run.now (eqb-true _ _ (sym c.is_empty.ensures ∙ c.if-is_empty.true))) ∙ append-nil _)

pub returns-clause-text : goal.returns-clause-text
returns-clause-text c =
    let old : List Character = written c.args.self.now in
    let run = c.args.run.now in
    let at = c.args.at in
    let none : length run ≡ 0 → ⊥ = eqb-false _ _ (sym c.is_empty.ensures ∙ c.if-is_empty.false) in
    let some : 0 < length run = omega (arith, none) in
    let first : Character = plain (get_or run 0 0) at in
    c.in_ok-append_plain.ensures.text
    ∙ ap (λ t. t ++ characters_at c.push.new.self.end c.split_at.result.1.now) c.in_ok-push.ensures.text
    ∙ append_assoc old (first ∷ []) (characters_at c.push.new.self.end c.split_at.result.1.now)
    ∙ ap (λ t. old ++ t) (ap (λ n. first ∷ characters_at n c.split_at.result.1.now) c.in_ok-push.ensures.end
    ∙ ap (λ r. first ∷ characters_at (at + 1) r) c.split_at.ensures.back
    ∙ characters_at-first at run some)
