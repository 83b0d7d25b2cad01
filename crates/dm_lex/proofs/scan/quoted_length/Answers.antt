use Rattle.std.proofs.Common.{◌≡◌, ◌∙◌, ap, sym, arith, false, eqb, ◌+◌, ◌<◌, length, drop, get_or}
use Rattle.std.proofs.lemmas.Bool.{eq-eqb, ne_eqb}
use Rattle.dm_lex.specs.Cuts.{is_within_line}
use Rattle.dm_lex.specs.Reach.{run, closing, beyond}
use Rattle.dm_lex.proofs.RunLemmas.{prefixed-so, prefixed-not, prefixed-end, beyond-above, beyond-at_zero, StaysOpen-line}
use Rattle.dm_lex.proofs.scan.quoted_length.Goals as goal

pub returns-then-at-text-clause-far : goal.returns-then-at-text-clause-far
returns-then-at-text-clause-far c = sym (prefixed-end (λ byte. eqb byte c.args.quote) (closing c.args.quote false) c.args.text.now c.args.at (omega arith))

pub returns-then-text-at-clause-far : goal.returns-then-text-at-clause-far
returns-then-text-at-clause-far c =
    let inside : c.args.at < length c.args.text.now = omega arith in
    sym (prefixed-not (λ byte. eqb byte c.args.quote) (closing c.args.quote false) c.args.text.now c.args.at inside (ne_eqb _ _ c.if-text-at.true))

pub returns-then-at-known-clause-far : goal.returns-then-at-known-clause-far
returns-then-at-known-clause-far c =
    let inside : c.args.at < length c.args.text.now = omega arith in
    let same : get_or c.args.text.now c.args.at 0 ≡ c.args.quote = omega (arith, c.if-text-at.false) in
    let known : closing c.args.quote false (drop (c.args.at + 1) c.args.text.now) ≡ 0 = c.requires.known c.args.at (omega arith) c.if-at-known.true same in
    sym (prefixed-so (λ byte. eqb byte c.args.quote) (closing c.args.quote false) c.args.text.now c.args.at inside (eq-eqb _ _ same) ∙ beyond-at_zero 1 _ known)

pub returns-in-Ok-clause-far : goal.returns-in-Ok-clause-far
returns-in-Ok-clause-far c =
    let inside : c.args.at < length c.args.text.now = omega arith in
    let same : get_or c.args.text.now c.args.at 0 ≡ c.args.quote = omega (arith, c.if-text-at.false) in
    let far = ap (closing c.args.quote false) (sym c.split_at.ensures.back) ∙ c.in-Ok.ensures.2 in
    let above : c.in-Ok.far ≡ 0 → ⊥ = omega (arith, c.in-Ok.ensures.0) in
    sym (prefixed-so (λ byte. eqb byte c.args.quote) (closing c.args.quote false) c.args.text.now c.args.at inside (eq-eqb _ _ same) ∙ (ap (beyond 1) far ∙ beyond-above 1 _ above))

pub returns-in-Err-clause-far : goal.returns-in-Err-clause-far
returns-in-Err-clause-far c =
    let inside : c.args.at < length c.args.text.now = omega arith in
    let same : get_or c.args.text.now c.args.at 0 ≡ c.args.quote = omega (arith, c.if-text-at.false) in
    let far = ap (closing c.args.quote false) (sym c.split_at.ensures.back) ∙ c.in-Err.ensures.1 in
    sym (prefixed-so (λ byte. eqb byte c.args.quote) (closing c.args.quote false) c.args.text.now c.args.at inside (eq-eqb _ _ same) ∙ beyond-at_zero 1 _ far)

pub returns-in-Err-clause-known : goal.returns-in-Err-clause-known
returns-in-Err-clause-known c =
    StaysOpen-line c.args.quote c.args.text.now c.args.at c.in-Err.line
    (ap (closing c.args.quote false) (sym c.split_at.ensures.back) ∙ c.in-Err.ensures.1)
    (c.in-Err.ensures.2 ∙ ap (run is_within_line) c.split_at.ensures.back)
