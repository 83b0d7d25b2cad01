-- The next argument is put behind those so far.
use Rattle.std.specs.Prelude.{◌≡◌, ◌==◌, true, [], ◌∷◌, length, map, option_map, IfSome, All}
use Rattle.std.proofs.Common.{ap, sym, ◌∙◌, subst}
use Rattle.std.proofs.lemmas.List.{map-append}
use Rattle.std.proofs.lemmas.List.Elements.{All-head, All-tail, All-push, All-nil}
use Rattle.dm_type.specs.CTypes.{all_of}
use Rattle.dm_type.specs.Tables.{IsId}
use Rattle.dm_typing.specs.Fitting.{IsNumbered, AreNumbered}
use Rattle.dm_typing.specs.Rules.{passed}
use Rattle.dm_typing.specs.Views.{known_over, type_over, view_over}
use Rattle.dm_enames.proofs.CallStepLemmas.{behind_these, behind-none, passed-one, passed-not, passed-left}
use Rattle.dm_enames.proofs.calls.passed.Goals as goal

pub loop-value-init : goal.loop-value-init
loop-value-init c =
    let types = c.args.known.now.types in
    let queue = c.from-queue.ensures.0 ∙ c.into_vec.ensures in
    record {
      left = λ later begins.
          let known = known_over later c.args.known.now in
          let parameters = all_of (map (type_over later) c.args.parameters.now) in
          ap (λ trees. behind_these (map (view_over later) trees) (passed known (map (view_over later) c.from-queue.result.items) parameters)) c.new-passed.ensures
          ∙ behind-none (passed known (map (view_over later) c.from-queue.result.items) parameters)
          ∙ ap (λ trees. passed known (map (view_over later) trees) parameters) queue;
      so_far = subst (AreNumbered types) (sym c.new-passed.ensures) (All-nil (IsNumbered types));
      values = subst (AreNumbered types) (sym queue) c.requires.values;
      parameters = c.requires.parameters;
    }

pub argument-requires-clause-value : goal.argument-requires-clause-value
argument-requires-clause-value c =
    let types = c.args.known.now.types in
    All-head (IsNumbered types) c.in-Some.value c.next_of.new.queue.items (subst (AreNumbered types) c.in-Some.ensures c.loop-value.invariant.values)

pub argument-requires-clause-parameter : goal.argument-requires-clause-parameter
argument-requires-clause-parameter c =
    let types = c.args.known.now.types in
    let taken = c.in-Some-split_first in
    All-head (IsId types) taken.parameter.now taken.others.now (subst (All (IsId types)) taken.ensures.cases.0 c.loop-value.invariant.parameters)

pub returns-in_default-made-clause-passed : goal.returns-in_default-made-clause-passed
returns-in_default-made-clause-passed c = λ later begins.
    let known = known_over later c.args.known.now in
    let so_far = map (view_over later) c.loop-value.passed in
    let value = c.in-Some.value in
    let more = c.next_of.new.queue.items in
    let taken = c.in-Some-split_first in
    sym (passed-not known so_far (view_over later value) (map (view_over later) more) (type_over later taken.parameter.now) (all_of (map (type_over later) taken.others.now))
    (sym (c.in_ok-made.ensures.argument later begins) ∙ ap (option_map (view_over later)) c.in_default-made.is))
    ∙ (ap (λ ids. behind_these so_far (passed known (map (view_over later) (value ∷ more)) (all_of (map (type_over later) ids)))) (sym taken.ensures.cases.0)
    ∙ (ap (λ trees. behind_these so_far (passed known (map (view_over later) trees) (all_of (map (type_over later) c.loop-value.rest.now)))) (sym c.in-Some.ensures)
    ∙ c.loop-value.invariant.left later begins))

pub loop-value-preserved : goal.loop-value-preserved
loop-value-preserved c =
    let types = c.args.known.now.types in
    let so_far = c.loop-value.passed in
    let value = c.in-Some.value in
    let more = c.next_of.new.queue.items in
    let taken = c.in-Some-split_first in
    let converted = c.in-Some-made.converted in
    let pushed = c.in_ok-push.ensures.ok in
    record {
      left = λ later begins.
          let known = known_over later c.args.known.now in
          let trees = map (view_over later) so_far in
          let others = all_of (map (type_over later) taken.others.now) in
          ap (λ list. behind_these (map (view_over later) list) (passed known (map (view_over later) more) others)) pushed
          ∙ (ap (λ list. behind_these list (passed known (map (view_over later) more) others)) (map-append (view_over later) so_far (converted ∷ []))
          ∙ (sym (passed-one known trees (view_over later value) (view_over later converted) (map (view_over later) more) (type_over later taken.parameter.now) others
          (sym (c.in_ok-made.ensures.argument later begins) ∙ ap (option_map (view_over later)) c.in-Some-made.is))
          ∙ (ap (λ ids. behind_these trees (passed known (map (view_over later) (value ∷ more)) (all_of (map (type_over later) ids)))) (sym taken.ensures.cases.0)
          ∙ (ap (λ list. behind_these trees (passed known (map (view_over later) list) (all_of (map (type_over later) c.loop-value.rest.now)))) (sym c.in-Some.ensures)
          ∙ c.loop-value.invariant.left later begins))));
      so_far = subst (AreNumbered types) (sym pushed) (All-push (IsNumbered types) so_far converted c.loop-value.invariant.so_far
          (subst (λ made. IfSome made (IsNumbered types)) c.in-Some-made.is c.in_ok-made.ensures.numbered));
      values = All-tail (IsNumbered types) value more (subst (AreNumbered types) c.in-Some.ensures c.loop-value.invariant.values);
      parameters = All-tail (IsId types) taken.parameter.now taken.others.now (subst (All (IsId types)) taken.ensures.cases.0 c.loop-value.invariant.parameters);
    }

pub returns-clause-passed : goal.returns-clause-passed
returns-clause-passed c = λ later begins.
    let known = known_over later c.args.known.now in
    let so_far = map (view_over later) c.loop-value.passed in
    let rest = c.loop-value.rest.now in
    let some : rest ≡ [] → ⊥ = λ e.
    let none : c.is_empty.result ≡ true = c.is_empty.ensures ∙ ap (λ list. length list == 0) e in
    let other = c.if-is_empty.false in absurd (cc) in
    sym (passed-left known so_far (type_over later) rest some)
    ∙ (ap (λ trees. behind_these so_far (passed known (map (view_over later) trees) (all_of (map (type_over later) rest)))) (sym c.in_default.ensures.0)
    ∙ c.loop-value.invariant.left later begins)
