-- The operand is another one, and is there or not.
use Rattle.std.proofs.Common.{◌≡◌, Bool, false, ◌&&◌, ◌==◌, not, Option, ap₂, sym, ◌∙◌, rules}
use Rattle.dm_tree.specs.Trees.{Tree}
use Rattle.dm_effect.specs.Doubts.{is_doubted}
use Rattle.dm_effect.specs.Entities.{passes}
use Rattle.dm_effect.proofs.around.doubts_other.Goals as goal

pub returns-in-Some : goal.returns-in-Some
returns-in-Some c types =
    let other : (c.args.operand == c.args.number) ≡ false = search rules in
    let test : Tree → Bool = is_doubted types c.args.doubt in
    c.doubts.ensures types ∙ sym (ap₂ (λ (b : Bool) (there : Option Tree). not b && passes test there) other (sym (c.in-Some.ensures types)))

pub returns-in-None : goal.returns-in-None
returns-in-None c types =
    let other : (c.args.operand == c.args.number) ≡ false = search rules in
    let test : Tree → Bool = is_doubted types c.args.doubt in
    sym (ap₂ (λ (b : Bool) (there : Option Tree). not b && passes test there) other (sym (c.in-None.ensures types)))
