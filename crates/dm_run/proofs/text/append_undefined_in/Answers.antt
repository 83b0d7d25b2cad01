-- The parts are those of the line.
use Rattle.std.proofs.Common.{◌++◌, [], ◌∙◌, ap, ℕ, List, codes}
use Rattle.std.proofs.lemmas.Result.{on_ok_weaker}
use Rattle.std.specs.Fmt.{decimal}
use Rattle.dm_run.specs.Texts.{cause_name}
use Rattle.dm_run.proofs.text.append_undefined_in.Goals as goal

-- the line with these parts
abbrev with_parts : List ℕ → List ℕ → List ℕ → List ℕ → List ℕ → List ℕ
with_parts before name file line column =
    before ++ (codes "[undefined " ++ (name ++ (codes " " ++ (file ++ (codes ":" ++ (line ++ (codes ":" ++ (column ++ (codes "]\n" ++ [])))))))))

pub returns : goal.returns
returns c =
    let before = c.args.text.now.items in
    let file = c.args.file.now in
    let line = c.as_bytes-line.ensures.value ∙ c.format.ensures.text in
    let column = c.as_bytes-column.ensures.value ∙ c.format-2.ensures.text in
    let name = c.as_bytes.ensures.value ∙ c.cause_name.ensures in
    on_ok_weaker c.append_all.result
    (λ is.
    is ∙ ap (λ n. with_parts before n file c.as_bytes-line.result.now c.as_bytes-column.result.now) name
    ∙ ap (λ l. with_parts before (cause_name c.args.cause) file l c.as_bytes-column.result.now) line
    ∙ ap (λ k. with_parts before (cause_name c.args.cause) file (decimal c.args.place.line) k) column)
    c.append_all.ensures.ok
