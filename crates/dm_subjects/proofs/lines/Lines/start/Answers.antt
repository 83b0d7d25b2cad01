-- A line begins behind each newline.
use Rattle.std.proofs.Common.{ℕ, ◌≡◌, suc, ◌-◌, List, slice_get, ap, ◌∙◌, arith}
use Rattle.dm_subjects.specs.Subjects.{bytes_at}
use Rattle.dm_subjects.proofs.LineLemmas.{start-found, start-none}
use Rattle.dm_subjects.proofs.lines.Lines.start.Goals as goal

pub returns-clause-found : goal.returns-clause-found
returns-clause-found c =
    let lines = c.args.self.now in
    let last : suc (c.args.count - 1) ≡ c.args.count = omega (arith, c.if-count-eq0.false) in
    start-found (bytes_at lines.loader.now lines.file) c.args.count (c.args.count - 1) c.start_at.result last
    (c.start_at.ensures ∙ ap (λ (starts : List ℕ). slice_get starts (c.args.count - 1)) (c.items.ensures ∙ lines.are_starts))

pub returns-clause-none : goal.returns-clause-none
returns-clause-none c =
    let lines = c.args.self.now in
    let last : suc (c.args.count - 1) ≡ c.args.count = omega (arith, c.if-count-eq0.false) in
    start-none (bytes_at lines.loader.now lines.file) c.args.count (c.args.count - 1) c.start_at.result last
    (c.start_at.ensures ∙ ap (λ (starts : List ℕ). slice_get starts (c.args.count - 1)) (c.items.ensures ∙ lines.are_starts))
