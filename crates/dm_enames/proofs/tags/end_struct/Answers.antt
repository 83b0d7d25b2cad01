-- The struct is one whose members were still to come, and none outside it is it.
use Rattle.std.specs.Prelude.{ℕ, List, drop, reverse}
use Rattle.std.proofs.Common.{ap, sym, subst, ◌∙◌}
use Rattle.dm_type.specs.Layouts.{contained}
use Rattle.dm_type.specs.Tables.{Table, with_content}
use Rattle.dm_typing.specs.Bounds.{AreOpen}
use Rattle.dm_typing.specs.Fitting.{HaveTypes, AreNumbered}
use Rattle.dm_typing.specs.Views.{known_over, table_over}
use Rattle.dm_typing.proofs.BoundLemmas.{open-parts}
use Rattle.dm_enames.specs.Tags.{ended}
use Rattle.dm_enames.proofs.TagStepLemmas.{open-without}
use Rattle.dm_enames.proofs.tags.end_struct.Goals as goal

pub set_members-requires-clause-unset : goal.set_members-requires-clause-unset
set_members-requires-clause-unset c =
    let old = c.args.known.now in
    (open-parts old.types c.args.number c.requires.innermost.0 (subst (AreOpen old.types) c.requires.innermost.1 old.unfinished)).1

pub invariant_of-known : goal.invariant_of-known
invariant_of-known c =
    let old = c.args.known.now in
    let outer = c.requires.innermost.0 in
    let is = sym c.set_members.ensures.members in
    let parts = open-parts old.types c.args.number outer (subst (AreOpen old.types) c.requires.innermost.1 old.unfinished) in record {
      entries = subst (λ (table : Table). HaveTypes table old.declared) is old.entries;
      trees = subst (λ (table : Table). AreNumbered table old.constants) is old.trees;
      numbers = old.numbers;
      unfinished = subst (λ (table : Table). AreOpen table (reverse c.leave_innermost.new.begun.items)) is
          (subst (AreOpen (with_content old.types c.args.number (contained old.types c.args.members))) (sym (c.leave_innermost.ensures ∙ ap (drop 1) c.requires.innermost.1))
          (open-without old.types c.args.number (contained old.types c.args.members) outer parts.2 parts.3));
    }

pub returns-clause-known : goal.returns-clause-known
returns-clause-known c = λ later outer is.
    let old = c.args.known.now in
    ap (λ (numbers : List ℕ). ended (known_over later old) (table_over later c.set_members.new.self) numbers) (c.leave_innermost.ensures ∙ ap (drop 1) is)
