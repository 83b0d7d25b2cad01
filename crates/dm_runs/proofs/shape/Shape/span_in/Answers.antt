use Rattle.std.proofs.Common.{◌≡◌, ℕ, true, [], ◌∷◌, ◌++◌, Option, Some, None, is_some, refl, sym, ap, ◌∙◌}
use Rattle.std.specs.Bool.{◌==◌}
use Rattle.std.proofs.lemmas.Bool.{cond-false}
use Rattle.dm_token.specs.declared.expansion.Mark.TheVariants.{Argument as argument}
use Rattle.dm_runs.specs.declared.extents.Extent.{Extent}
use Rattle.dm_runs.specs.Extents.{span_from}
use Rattle.dm_runs.specs.Runs.{would_stand}
use Rattle.dm_runs.specs.Spans.{span_of, tokens_under}
use Rattle.dm_runs.proofs.SpanLemmas.{span-is, some-tokens}
use Rattle.dm_runs.proofs.shape.Shape.span_in.Goals as goal

-- where it has tokens it doesn't matter where it would stand
anywhere : (one other : ℕ) (own : Option Extent) → is_some own ≡ true → span_from one own ≡ span_from other own
anywhere one other (Some extent) is = refl
anywhere one other None is = absurd (cc)

pub returns-then-is_some-clause-span : goal.returns-then-is_some-clause-span
returns-then-is_some-clause-span c =
    let run = c.args.run in
    let own = tokens_under (c.args.prefix.now ++ argument c.args.named.now.parameter c.args.named.now.occurrence ∷ []) c.args.self.now.tokens.now in
    let elsewhere = would_stand c.args.stand.now.names.now c.args.self.now.tokens.now c.args.stand.now.definition.now c.args.prefix.now run.after c.args.named.now.at in
    c.span.ensures ∙ anywhere run.after elsewhere c.below-own.result (sym c.is_some.ensures ∙ c.if-is_some.true) ∙ ap (span_from elsewhere) c.below-own.ensures ∙ span-is elsewhere own
    ∙ sym (cond-false (run.first == run.after) run (span_of elsewhere own) (some-tokens run c.if-run.false))

pub returns-clause-span : goal.returns-clause-span
returns-clause-span c =
    let run = c.args.run in
    let own = tokens_under (c.args.prefix.now ++ argument c.args.named.now.parameter c.args.named.now.occurrence ∷ []) c.args.self.now.tokens.now in
    let elsewhere = would_stand c.args.stand.now.names.now c.args.self.now.tokens.now c.args.stand.now.definition.now c.args.prefix.now run.after c.args.named.now.at in
    c.span-2.ensures ∙ ap (span_from c.in_ok-elsewhere.elsewhere) c.below-own.ensures ∙ span-is c.in_ok-elsewhere.elsewhere own
    ∙ ap (λ n. span_of n own) c.in_ok-elsewhere.ensures.place
    ∙ sym (cond-false (run.first == run.after) run (span_of elsewhere own) (some-tokens run c.if-run.false))
