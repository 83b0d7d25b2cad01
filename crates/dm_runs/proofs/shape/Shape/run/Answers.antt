use Rattle.std.proofs.Common.{◌≡◌, List, length, map, slice_get, Some, refl, sym, ap, ◌∙◌, subst}
use Rattle.std.proofs.lemmas.Option.{slice_get_read}
use Rattle.dm_token.specs.declared.expansion.Mark.{Mark}
use Rattle.dm_token.specs.declared.place.Span.{Span}
use Rattle.dm_runs.specs.Runs.{run_with, instance_of, occurrence_in}
use Rattle.dm_runs.specs.Spans.{span_of, tokens_under}
use Rattle.dm_runs.proofs.ItemLemmas.{some-same}
use Rattle.dm_runs.proofs.RunLemmas.{last-mark-is, run-is, run_of_parts, span-below}
use Rattle.dm_runs.proofs.shape.Shape.run.Goals as goal

pub occurrences-requires-clause-run : goal.occurrences-requires-clause-run
occurrences-requires-clause-run c =
    let self = c.args.self.now in
    let prefix : List Mark = c.index-prefix.result.now in
    let trails : List (List Mark) = self.beginnings.now.trails.items in
    let known : slice_get trails c.args.number ≡ Some prefix = slice_get_read trails (length trails) c.args.number prefix refl c.requires.inside c.index-prefix.ensures in
    (c.args.part, c.span-run.ensures ∙ span-below self.beginnings.now.links.keys trails self.extents.now self.tokens.now c.requires.shape c.args.number prefix known c.args.part)

pub returns : goal.returns
returns c = λ p is.
    let self = c.args.self.now in
    let stand = c.args.stand.now in
    let tokens = self.tokens.now in
    let part = c.args.part in
    let prefix : List Mark = c.index-prefix.result.now in
    let trails : List (List Mark) = self.beginnings.now.trails.items in
    let known : slice_get trails c.args.number ≡ Some prefix = slice_get_read trails (length trails) c.args.number prefix refl c.requires.inside c.index-prefix.ensures in
    let same : prefix ≡ p = some-same prefix p (sym known ∙ is) in
    let span : Span = span_of part (tokens_under prefix tokens) in
    let spans : c.span-run.result ≡ span = c.span-run.ensures ∙ span-below self.beginnings.now.links.keys trails self.extents.now tokens c.requires.shape c.args.number prefix known part in
    subst (λ (q : List Mark). run_of_parts c.instance_of.result c.in_ok-copy.field-0 c.span-run.result c.in_ok-occurrences.occurrences
    ≡ run_with stand.names.now tokens stand.definition.now q (span_of part (tokens_under q tokens))) same
    (run-is stand.names.now tokens stand.definition.now prefix span c.instance_of.result c.in_ok-copy.field-0 c.span-run.result c.in_ok-occurrences.occurrences
    (c.instance_of.ensures ∙ ap instance_of (last-mark-is c.last.result prefix c.last.ensures)) c.in_ok-copy.ensures spans
    (c.in_ok-occurrences.ensures ∙ ap (λ (s : Span). map (occurrence_in stand.names.now tokens stand.definition.now prefix s) stand.named.now) spans
    ∙ ap (map (occurrence_in stand.names.now tokens stand.definition.now prefix span)) c.requires.named))
