use Rattle.std.proofs.Common.{◌≡◌, ℕ, List, [], ◌++◌, length, get_or, slice_get, Some, refl, sym, ap, ◌∙◌}
use Rattle.std.proofs.lemmas.List.{append-nil}
use Rattle.std.proofs.lemmas.Option.{slice_get_read, get_or_from_slice_get}
use Rattle.dm_token.specs.declared.expansion.Mark.{Mark}
use Rattle.dm_token.specs.declared.expansion.Definition.{Definition}
use Rattle.dm_token.specs.declared.expansion.Expansion.{Expansion}
use Rattle.dm_token.specs.declared.unit.Read.{Read}
use Rattle.dm_runs.specs.declared.run.Run.{Run}
use Rattle.dm_runs.specs.Beginnings.{last_mark}
use Rattle.dm_runs.specs.Listings.{items_at}
use Rattle.dm_runs.specs.Runs.{expanded, is_file, run_if, run_of, run_with}
use Rattle.dm_runs.specs.Spans.{span_of, tokens_under}
use Rattle.dm_runs.proofs.ItemLemmas.{some-same}
use Rattle.dm_runs.proofs.RunLemmas.{last-mark-is, run-nowhere, run-made}
use Rattle.dm_runs.proofs.runs.with_run.Goals as goal

pub returns-in_default : goal.returns-in_default
returns-in_default c = λ file hash trail is.
    let pp = c.args.known.now.pp.now in
    let tokens = c.args.shape.now.tokens.now in
    let trails : List (List Mark) = c.args.shape.now.beginnings.now.trails.items in
    let prefix : List Mark = c.index.result.now in
    let known : slice_get trails c.args.number ≡ Some prefix = slice_get_read trails (length trails) c.args.number prefix refl c.requires.inside c.index.ensures in
    let last : c.last.result ≡ last_mark trail = last-mark-is c.last.result prefix c.last.ensures ∙ ap last_mark (some-same prefix trail (sym known ∙ is)) in
    let mark : expanded c.items-read.result.now c.last.result ≡ expanded pp.read (last_mark trail) =
    ap (λ (rs : List Read). expanded rs c.last.result) c.items-read.ensures ∙ ap (expanded pp.read) last in
    let none : run_if pp tokens file hash trail (expanded pp.read (last_mark trail)) ≡ [] =
    run-nowhere pp tokens file hash trail (expanded pp.read (last_mark trail)) (λ definition e. c.in_default.ensures.is definition (mark ∙ e)) in
    sym (ap (λ (found : List Run). items_at c.args.found file hash ++ found) none ∙ append-nil (items_at c.args.found file hash))

pub returns : goal.returns
returns c = λ file hash trail is.
    let pp = c.args.known.now.pp.now in
    let tokens = c.args.shape.now.tokens.now in
    let trails : List (List Mark) = c.args.shape.now.beginnings.now.trails.items in
    let prefix : List Mark = c.index.result.now in
    let known : slice_get trails c.args.number ≡ Some prefix = slice_get_read trails (length trails) c.args.number prefix refl c.requires.inside c.index.ensures in
    let last : c.last.result ≡ last_mark trail = last-mark-is c.last.result prefix c.last.ensures ∙ ap last_mark (some-same prefix trail (sym known ∙ is)) in
    let mark : expanded c.items-read.result.now c.last.result ≡ expanded pp.read (last_mark trail) =
    ap (λ (rs : List Read). expanded rs c.last.result) c.items-read.ensures ∙ ap (expanded pp.read) last in
    let found = c.in-Some.ensures.is in
    let definition : Definition = c.stand-stand.result.definition.now in
    let there : slice_get pp.read c.in-Some.place ≡ Some found.0 = ap (λ (rs : List Read). slice_get rs c.in-Some.place) (sym c.items-read.ensures) ∙ found.1 in
    let same : definition ≡ found.0.definition = c.stand-stand.ensures.definition found.0 ∙ ap (λ (r : Read). r.definition) (get_or_from_slice_get pp.read c.in-Some.place found.0 found.0 there) in
    let is_one : expanded pp.read (last_mark trail) ≡ Some definition = sym mark ∙ found.2 ∙ ap Some (sym same) in
    let in_file : is_file definition.origin ≡ is_file found.0.definition.origin = ap (λ (d : Definition). is_file d.origin) same in
    let made : c.in_ok-run.run' ≡ run_of pp tokens definition trail =
    c.in_ok-run.ensures trail is
    ∙ ap (λ (es : List Expansion). run_with es tokens definition trail (span_of c.args.part (tokens_under trail tokens))) c.stand-stand.ensures.names
    ∙ ap (λ (n : ℕ). run_with pp.expansions tokens definition trail (span_of n (tokens_under trail tokens))) (c.requires.part trail is) in
    c.in_ok-more.ensures file hash
    ∙ ap (λ (more : List Run). items_at c.args.found file hash ++ more)
    (run-made pp tokens file hash trail (expanded pp.read (last_mark trail)) definition c.in_ok-run.run' is_one (in_file ∙ found.3) made)
