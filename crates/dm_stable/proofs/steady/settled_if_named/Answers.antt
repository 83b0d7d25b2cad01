-- It names an object or not.
use Rattle.std.proofs.Common.{◌≡◌, ℕ, Bool, true, false, Option, is_some, if◌then◌else◌, ap, ◌∙◌, rules}
use Rattle.dm_effect.specs.Forms.{Ruling, settled, by_parts}
use Rattle.dm_stable.proofs.steady.settled_if_named.Goals as goal

abbrev ruled_by : Option ℕ → Ruling
ruled_by named = if is_some named then settled true else by_parts

abbrev ruled_if : Bool → Ruling
ruled_if there = if there then settled true else by_parts

pub returns-then-is_some : goal.returns-then-is_some
returns-then-is_some c types rest =
    let there : is_some c.object_named.result ≡ true = search rules in
    ap ruled_by (c.object_named.ensures types rest) ∙ ap ruled_if there

pub returns-else-is_some : goal.returns-else-is_some
returns-else-is_some c types rest =
    let none : is_some c.object_named.result ≡ false = search rules in
    ap ruled_by (c.object_named.ensures types rest) ∙ ap ruled_if none
