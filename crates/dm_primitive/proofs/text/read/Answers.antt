-- The value there is the character, where it can be read.
use Rattle.std.proofs.Common.{◌≡◌, [], None, rules, ap, sym, ◌∙◌}
use Rattle.dm_int.specs.declared.Kind.TheVariants.{Char}
use Rattle.dm_type.specs.CTypes.{integer}
use Rattle.dm_layout.specs.LaidOut.{laid_out}
use Rattle.dm_memory.specs.Blocks.{view_of_blocks}
use Rattle.dm_meaning.specs.Causes.{earliest, read_causes}
use Rattle.dm_meaning.specs.Memory.{contents_at}
use Rattle.dm_meaning.specs.Primitives.{and_text, unless_cause}
use Rattle.dm_value.specs.Places.{view_of_at}
use Rattle.dm_primitive.proofs.text.read.Goals as goal

pub returns : goal.returns
returns c =
    let objects = view_of_blocks c.args.layout.now c.args.blocks.now in
    let at = view_of_at c.args.at.now in
    let free : earliest (read_causes (laid_out c.args.layout.now) objects [] (integer Char) at) ≡ None = search rules in
    λ later.
    ap (λ cause. unless_cause cause (contents_at objects at) later) free
    ∙ (ap (λ value. and_text value later) (sym (c.in_ok-value.ensures c.args.layout.now)) ∙ c.character_in.ensures later)
