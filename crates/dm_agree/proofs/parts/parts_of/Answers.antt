-- Parts that may be left out, and those of declarations.
use Rattle.std.proofs.Common.{◌++◌, map, ap, sym, ◌∙◌, arith}
use Rattle.std.proofs.lemmas.Bool.{and_parts}
use denote.Param.Weighed.{most}
use Rattle.dm_tree.specs.declared.tree.Core.{size-Core}
use Rattle.dm_tree.specs.declared.tree.Form.{size-Form}
use Rattle.dm_tree.specs.declared.tree.Local.{size-Local}
use Rattle.dm_tree.specs.TypeNumbers.{all_pass, are_known, are_known_in_local}
use Rattle.dm_tree.specs.Views.{expressions_of_locals, view, view_of_local}
use Rattle.dm_agree.specs.Parts.{nows, are_all_known}
use Rattle.dm_agree.proofs.PartLemmas.{if-ok, for-known, for-parts-known, if-known, if-parts-known, sizeof-size, block-size, declare-parts, declare-known, declare-size}
use Rattle.dm_agree.proofs.parts.parts_of.Goals as goal

pub returns-in-For-clause-known : goal.returns-in-For-clause-known
returns-in-For-clause-known c =
    if-ok c.optional-in-For.result
    (λ parts same n whole.
    for-parts-known n c.inside-in-For.result c.inside-in-For-2.result c.inside-in-For-3.result c.get-in-For.result c.in-For.a c.in-For.b c.in-For.c c.in-For.body
    c.inside-in-For.ensures c.inside-in-For-2.ensures c.inside-in-For-3.ensures c.get-in-For.ensures (nows parts.items) same
    (sym (for-known n c.args.form.now c.in-For.a c.in-For.b c.in-For.c c.in-For.body c.in-For.is) ∙ whole))
    c.optional-in-For.ensures

pub returns-in-If-clause-known : goal.returns-in-If-clause-known
returns-in-If-clause-known c =
    if-ok c.optional.result
    (λ parts same n whole.
    if-parts-known n c.get-in-If.result c.get-in-If-2.result c.inside.result c.in-If.a c.in-If.b c.in-If.c c.get-in-If.ensures c.get-in-If-2.ensures c.inside.ensures (nows parts.items) same
    (sym (if-known n c.args.form.now c.in-If.a c.in-If.b c.in-If.c c.in-If.is) ∙ whole))
    c.optional.ensures

pub returns-in-SizeofKind-clause-below : goal.returns-in-SizeofKind-clause-below
returns-in-SizeofKind-clause-below c =
    let size = sizeof-size c.args.form.now c.in-SizeofKind.field-0 c.in-SizeofKind.list c.in-SizeofKind.is in
    let list = ap (most size-Core) c.items.ensures in
    if-ok c.led.result (λ parts same. let deep = ap (most size-Core) same in omega (arith, deep, list, size)) c.led.ensures

pub returns-in-Block-clause-below : goal.returns-in-Block-clause-below
returns-in-Block-clause-below c =
    let size = block-size c.args.form.now c.in-Block.list c.in-Block.is in
    let list = ap (most size-Core) c.items-in-Block.ensures in
    if-ok c.led-in-Block.result (λ parts same. let deep = ap (most size-Core) same in omega (arith, deep, list, size)) c.led-in-Block.ensures

pub returns-in_ok-push_locals-in-Declare-clause-same : goal.returns-in_ok-push_locals-in-Declare-clause-same
returns-in_ok-push_locals-in-Declare-clause-same c types =
    let here = c.in-Declare in
    c.in_ok-push_locals-in-Declare.ensures.same types
    ∙ (ap (λ those. map (view types) those ++ expressions_of_locals (map (view_of_local types) c.items-in-Declare-2.result.now)) (c.in_ok-parts-in-Declare.ensures ∙ c.items-in-Declare.ensures)
    ∙ (ap (λ locals. map (view types) here.lengths ++ expressions_of_locals (map (view_of_local types) locals)) c.items-in-Declare-2.ensures
    ∙ sym (declare-parts types c.args.form.now here.lengths here.locals here.is)))

pub returns-in_ok-push_locals-in-Declare-clause-known : goal.returns-in_ok-push_locals-in-Declare-clause-known
returns-in_ok-push_locals-in-Declare-clause-known c n whole =
    let here = c.in-Declare in
    let both = and_parts (all_pass (map (are_known n) here.lengths)) (all_pass (map (are_known_in_local n) here.locals)) (sym (declare-known n c.args.form.now here.lengths here.locals here.is) ∙ whole) in
    c.in_ok-push_locals-in-Declare.ensures.known n (ap (are_all_known n) (c.in_ok-parts-in-Declare.ensures ∙ c.items-in-Declare.ensures) ∙ both.0)
    (ap (λ locals. all_pass (map (are_known_in_local n) locals)) c.items-in-Declare-2.ensures ∙ both.1)

pub returns-in_ok-push_locals-in-Declare-clause-below : goal.returns-in_ok-push_locals-in-Declare-clause-below
returns-in_ok-push_locals-in-Declare-clause-below c =
    let here = c.in-Declare in
    let sizes = declare-size c.args.form.now here.lengths here.locals here.is in
    let first = sizes.0 in
    let second = sizes.1 in
    let these = ap (most size-Core) (c.in_ok-parts-in-Declare.ensures ∙ c.items-in-Declare.ensures) in
    let those = ap (most size-Local) c.items-in-Declare-2.ensures in
    c.in_ok-push_locals-in-Declare.ensures.below (size-Form c.args.form.now) (omega (arith, these, first)) (omega (arith, those, second))
