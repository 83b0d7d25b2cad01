use Rattle.std.proofs.Common.{◌≡◌, ◌≤◌, ◌∷◌, take, drop, length, sym, ◌∙◌, subst}
use Rattle.dm_unit.specs.Lines.{is_first, begins_directive, parts_of}
use Rattle.dm_unit.specs.Views.{part_of}
use Rattle.dm_unit.proofs.StepLemmas.{front-inside, front-directive, front-group}
use Rattle.dm_unit.proofs.part.part_length.Goals as goal

pub returns-then-is_hash-clause-inside : goal.returns-then-is_hash-clause-inside
returns-then-is_hash-clause-inside c = subst (λ n. n ≤ length c.args.tokens.now) (sym c.line_length.ensures) (front-inside is_first c.args.tokens.now c.requires)

pub returns-then-is_hash-clause-parts : goal.returns-then-is_hash-clause-parts
returns-then-is_hash-clause-parts c =
    subst (λ n. parts_of c.args.tokens.now ≡ part_of (take n c.args.tokens.now) ∷ parts_of (drop n c.args.tokens.now)) (sym c.line_length.ensures)
    (front-directive c.args.tokens.now c.index-tokens-0.result c.requires c.index-tokens-0.is (sym c.is_hash.ensures ∙ c.if-is_hash.true))

pub returns-else-is_hash-clause-inside : goal.returns-else-is_hash-clause-inside
returns-else-is_hash-clause-inside c = subst (λ n. n ≤ length c.args.tokens.now) (sym c.text_length.ensures) (front-inside begins_directive c.args.tokens.now c.requires)

pub returns-else-is_hash-clause-parts : goal.returns-else-is_hash-clause-parts
returns-else-is_hash-clause-parts c =
    subst (λ n. parts_of c.args.tokens.now ≡ part_of (take n c.args.tokens.now) ∷ parts_of (drop n c.args.tokens.now)) (sym c.text_length.ensures)
    (front-group c.args.tokens.now c.index-tokens-0.result c.requires c.index-tokens-0.is (sym c.is_hash.ensures ∙ c.if-is_hash.false))
