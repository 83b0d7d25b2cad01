-- Each text is that of its number.
use Rattle.std.proofs.Common.{slice_get, Some, ap, sym, ◌∙◌}
use Rattle.dm_search.specs.Headers.{header_texts}
use Rattle.dm_search.proofs.header.text_of.Goals as goal

pub returns-in-3-clause-text : goal.returns-in-3-clause-text
returns-in-3-clause-text c = ap (λ n. slice_get header_texts n) c.in-3.is ∙ ap Some (sym c.as_bytes-in-3.ensures.value)

pub returns-in-4-clause-text : goal.returns-in-4-clause-text
returns-in-4-clause-text c = ap (λ n. slice_get header_texts n) c.in-4.is ∙ ap Some (sym c.as_bytes-in-4.ensures.value)
