-- The next part is put behind the tree so far.
use Rattle.std.specs.Prelude.{[], ◌∷◌, ◌&&◌, length, map}
use Rattle.std.proofs.Common.{ap, sym, ◌∙◌, subst}
use Rattle.std.proofs.lemmas.Bool.{and_from}
use Rattle.std.proofs.lemmas.List.Elements.{All-head, All-tail}
use Rattle.dm_tree.specs.TypeNumbers.{are_known}
use Rattle.dm_tree.specs.declared.tree.Core.{out-Core}
use Rattle.dm_typing.specs.Fitting.{IsNumbered, AreNumbered}
use Rattle.dm_typing.specs.Typing.{comma_tree}
use Rattle.dm_typing.specs.Views.{view_over, setting_of, source_of}
use Rattle.dm_typing.specs.Conversions.{made}
use Rattle.dm_tree.specs.Trees as label
use Rattle.dm_typing.proofs.ValueLemmas.{kind-view, kind-known, node-known}
use Rattle.dm_enames.proofs.calls.comma_behind.Goals as goal

pub loop-second-preserved : goal.loop-second-preserved
loop-second-preserved c =
    let setting = setting_of c.args.typer.now in
    let second = c.in-Some.second in
    let rest = c.next_of.new.queue.items in
    record {
      left = λ later.
          let before = view_over later c.loop-second.tree in
          let part = view_over later second in
          ap (λ tree. comma_tree setting c.args.at tree (map (view_over later) rest))
          (c.in_ok-tree.ensures.view (record { shapes = later; structs = [] })
          ∙ ap (λ type. made (source_of c.args.typer.now) c.args.at label.comma type (before ∷ part ∷ [])) (sym (kind-view (record { shapes = later; structs = [] }) second)))
          ∙ ap (λ trees. comma_tree setting c.args.at before (map (view_over later) trees)) (sym c.in-Some.ensures)
          ∙ c.loop-second.invariant.left later;
      numbered = λ types first others.
          let so_far = c.loop-second.invariant.numbered types first others in
          let all = subst (AreNumbered types) c.in-Some.ensures so_far.1 in
          let one = All-head (IsNumbered types) second rest all in
          let n = length types.shapes in (
            node-known n (out-Core second).kind c.in_ok-tree.tree (are_known n c.loop-second.tree && are_known n second) (c.in_ok-tree.ensures.known n) (kind-known n second one)
                (and_from (are_known n c.loop-second.tree) (are_known n second) so_far.0 one),
            All-tail (IsNumbered types) second rest all,
          );
    }

pub returns-clause-tree : goal.returns-clause-tree
returns-clause-tree c = λ later.
    ap (λ trees. comma_tree (setting_of c.args.typer.now) c.args.at (view_over later c.loop-second.tree) (map (view_over later) trees)) (sym c.in_default.ensures.0)
    ∙ c.loop-second.invariant.left later
