-- The object at that place has another value.
use Rattle.std.proofs.Common.{◌≡◌, ◌<◌, length, get_or, slice_get, slice_set, rules, refl, ap, sym, ◌∙◌}
use Rattle.std.proofs.lemmas.Option.{slice_get_read}
use Rattle.dm_memory.proofs.blocks.Blocks.exchange.Goals as goal

pub returns : goal.returns
returns c =
    let items = c.self.inside.all.items in
    let block = c.index_mut-block.result.now in
    let within : c.args.number < length items = search rules in
    let is : block ≡ get_or items c.args.number block = search rules in
    record {
      block = block;
      found = ap (λ all. slice_get all c.args.number) (sym c.self.view_is) ∙ slice_get_read items (length items) c.args.number block refl within is;
      was = c.replace.ensures.value;
      now = ap (λ contents. slice_set items c.args.number (record block { contents = contents })) c.replace.ensures.after
          ∙ ap (λ all. slice_set all c.args.number (record block { contents = c.args.contents })) c.self.view_is;
    }
