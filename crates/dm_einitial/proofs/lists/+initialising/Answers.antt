-- An expression, or the items of a list one after another, each for its part.
use Rattle.std.specs.Prelude.{◌≡◌, ◌+◌, ◌∷◌, [], List, length, map, drop}
use Rattle.std.proofs.Common.{sym, ap, ◌∙◌, subst, arith, length-append}
use Rattle.std.proofs.lemmas.List.Elements.{All-push}
use Rattle.dm_type.specs.declared.shape.Shape.{Shape}
use Rattle.dm_syn.specs.Trees as tree
use Rattle.dm_syn.specs.Views as syntax
use Rattle.dm_tree.specs.declared.tree.Initial.TheVariants as form
use Rattle.dm_tree.specs.Scenes.{is_scalar, part_type}
use Rattle.dm_typing.specs.Known.{Known, given, after}
use Rattle.dm_typing.specs.Views.{type_over, known_over, source_of, setting_of}
use Rattle.dm_typing.proofs.LaterLemmas.{type-later}
use Rattle.dm_edecl.specs.Initialising.{Initial, Initials, enclosed, scalar_in_braces, all_zero, typed_initialiser, typed_initialisers}
use Rattle.dm_einitial.specs.Steps.{initial_over, initials_over, InitialFits, InitialsFit, typed_item}
use Rattle.dm_einitial.proofs.InitialLemmas.{initials-later, parts-fit}
use Rattle.dm_eexpr.proofs.LoopLemmas.{cut, past}
use Rattle.dm_einitial.proofs.ListLemmas.{braces-scalar, braces-zero, braces-list, pushed, ahead, items-end, items-next, initials-push, initial-parts, stands}
use Rattle.dm_edeclarator.proofs.ReachLemmas.{says, passes, fails, ends, done, relays}
use Rattle.dm_einitial.proofs.lists.+initialising.Goals as goal

pub in_braces-returns-then-is_scalar : goal.in_braces-returns-then-is_scalar
in_braces-returns-then-is_scalar t c =
    let setting = setting_of c.args.typer.now in
    let old = c.args.known.now in
    let items = syntax.initialisers (map syntax.initialiser c.args.items.now) in
    ends InitialFits initial_over (source_of c.args.typer.now) old old c.scalar_in_braces.new.known
    (λ later. typed_initialiser setting c.args.fixed (known_over later old) (type_over later c.args.kind) (tree.braces c.args.span items c.args.trailing))
    (λ later. scalar_in_braces setting c.args.fixed (known_over later old) (type_over later c.args.kind) c.args.span items)
    (stands old (λ later. typed_initialiser setting c.args.fixed (known_over later old) (type_over later c.args.kind) (tree.braces c.args.span items c.args.trailing))
    (λ later. scalar_in_braces setting c.args.fixed (known_over later old) (type_over later c.args.kind) c.args.span items)
    (λ later on. braces-scalar setting c.args.fixed (known_over later old) (type_over later c.args.kind) c.args.span items c.args.trailing
    (ap is_scalar (type-later old.types.shapes later c.args.kind on c.requires) ∙ sym c.is_scalar.ensures ∙ c.if-is_scalar.true)))
    c.scalar_in_braces.result c.scalar_in_braces.ensures

pub in_braces-returns-then-is_zero_list : goal.in_braces-returns-then-is_zero_list
in_braces-returns-then-is_zero_list t c =
    let setting = setting_of c.args.typer.now in
    let old = c.args.known.now in
    let items = syntax.initialisers (map syntax.initialiser c.args.items.now) in
    ends InitialFits initial_over (source_of c.args.typer.now) old old c.all_zero.new.known
    (λ later. typed_initialiser setting c.args.fixed (known_over later old) (type_over later c.args.kind) (tree.braces c.args.span items c.args.trailing))
    (λ later. all_zero setting c.args.fixed (known_over later old) (type_over later c.args.kind) c.args.span items)
    (stands old (λ later. typed_initialiser setting c.args.fixed (known_over later old) (type_over later c.args.kind) (tree.braces c.args.span items c.args.trailing))
    (λ later. all_zero setting c.args.fixed (known_over later old) (type_over later c.args.kind) c.args.span items)
    (λ later on. braces-zero setting c.args.fixed (known_over later old) (type_over later c.args.kind) c.args.span items c.args.trailing
    (ap is_scalar (type-later old.types.shapes later c.args.kind on c.requires) ∙ sym c.is_scalar.ensures ∙ c.if-is_scalar.false) (sym c.is_zero_list.ensures ∙ c.if-is_zero_list.true)))
    c.all_zero.result c.all_zero.ensures

pub in_braces-returns-in_err-parts : goal.in_braces-returns-in_err-parts
in_braces-returns-in_err-parts t c =
    let setting = setting_of c.args.typer.now in
    let old = c.args.known.now in
    let items = syntax.initialisers (map syntax.initialiser c.args.items.now) in
    relays InitialFits initial_over (source_of c.args.typer.now) old c.typed_initialisers.new.known (λ later. typed_initialiser setting c.args.fixed (known_over later old) (type_over later c.args.kind) (tree.braces c.args.span items c.args.trailing)) c.from_residual.result c.in_err-parts.field-0.0 c.from_residual.ensures.1
    (fails InitialsFit initials_over (source_of c.args.typer.now) old old c.typed_initialisers.new.known (λ later. typed_initialiser setting c.args.fixed (known_over later old) (type_over later c.args.kind) (tree.braces c.args.span items c.args.trailing)) InitialFits initial_over
    (λ later. typed_initialisers setting c.args.fixed (known_over later old) (type_over later c.args.kind) c.args.span 0 items) (λ (later : List Shape) (behind : Known) (made : Initials). given behind (enclosed made)) c.in_err-parts.field-0.0
    (stands old (λ later. typed_initialiser setting c.args.fixed (known_over later old) (type_over later c.args.kind) (tree.braces c.args.span items c.args.trailing))
    (λ later. after (typed_initialisers setting c.args.fixed (known_over later old) (type_over later c.args.kind) c.args.span 0 items) (λ behind made. given behind (enclosed made)))
    (λ later on. braces-list setting c.args.fixed (known_over later old) (type_over later c.args.kind) c.args.span items c.args.trailing
    (ap is_scalar (type-later old.types.shapes later c.args.kind on c.requires) ∙ sym c.is_scalar.ensures ∙ c.if-is_scalar.false) (sym c.is_zero_list.ensures ∙ c.if-is_zero_list.false)))
    c.in_err-parts.ensures)

pub in_braces-returns : goal.in_braces-returns
in_braces-returns t c =
    let setting = setting_of c.args.typer.now in
    let old = c.args.known.now in
    let items = syntax.initialisers (map syntax.initialiser c.args.items.now) in
    let new = c.typed_initialisers.new.known in
    let parts = c.in_ok-parts.parts in
    done InitialFits initial_over (source_of c.args.typer.now) old new (λ later. typed_initialiser setting c.args.fixed (known_over later old) (type_over later c.args.kind) (tree.braces c.args.span items c.args.trailing)) (form.Parts parts)
    (says old new (λ later. typed_initialiser setting c.args.fixed (known_over later old) (type_over later c.args.kind) (tree.braces c.args.span items c.args.trailing))
    (λ later. given (known_over later new) (enclosed (initials_over later parts))) (λ later. given (known_over later new) (initial_over later (form.Parts parts)))
    (passes InitialsFit initials_over (source_of c.args.typer.now) old old new (λ later. typed_initialiser setting c.args.fixed (known_over later old) (type_over later c.args.kind) (tree.braces c.args.span items c.args.trailing))
    (λ later. typed_initialisers setting c.args.fixed (known_over later old) (type_over later c.args.kind) c.args.span 0 items) (λ (later : List Shape) (behind : Known) (made : Initials). given behind (enclosed made)) parts
    (stands old (λ later. typed_initialiser setting c.args.fixed (known_over later old) (type_over later c.args.kind) (tree.braces c.args.span items c.args.trailing))
    (λ later. after (typed_initialisers setting c.args.fixed (known_over later old) (type_over later c.args.kind) c.args.span 0 items) (λ behind made. given behind (enclosed made)))
    (λ later on. braces-list setting c.args.fixed (known_over later old) (type_over later c.args.kind) c.args.span items c.args.trailing
    (ap is_scalar (type-later old.types.shapes later c.args.kind on c.requires) ∙ sym c.is_scalar.ensures ∙ c.if-is_scalar.false) (sym c.is_zero_list.ensures ∙ c.if-is_zero_list.false)))
    c.in_ok-parts.ensures)
    (λ later on. ap (given (known_over later new)) (sym (initial-parts later parts))))
    (parts-fit new.types parts c.in_ok-parts.ensures.numbered)

pub typed_initialisers-returns-in_err-made : goal.typed_initialisers-returns-in_err-made
typed_initialisers-returns-in_err-made t c =
    let setting = setting_of c.args.typer.now in
    let old = c.args.known.now in
    let now = c.loop-item.known in
    let parts = c.loop-item.parts in
    let i = c.loop-item.item-index in
    let items = c.args.items.now in
    let item = syntax.initialiser c.item-item.result in
    let n = c.len.result in
    let others = syntax.initialisers (map syntax.initialiser (drop (i + 1) items)) in
    let same : i ≡ n = sym (c.len.ensures ∙ c.loop-item.invariant.2) in
    let rest = cut items i c.item-item.result c.loop-item-test.true c.item-item.is in
    let reached = says old now (λ later. typed_initialisers setting c.args.fixed (known_over later old) (type_over later c.args.kind) c.args.span 0 (syntax.initialisers (map syntax.initialiser items)))
    (λ later. ahead (initials_over later parts) (typed_initialisers setting c.args.fixed (known_over later now) (type_over later c.args.kind) c.args.span i (syntax.initialisers (map syntax.initialiser (drop i items)))))
    (λ later. after (typed_item setting c.args.fixed (known_over later now) (part_type (known_over later now).types (type_over later c.args.kind) n) c.args.span item (syntax.initialisers (map syntax.initialiser (drop n items))))
    (λ then_known made. ahead (pushed (initials_over later parts) made) (typed_initialisers setting c.args.fixed then_known (type_over later c.args.kind) c.args.span (i + 1) others)))
    c.loop-item.invariant.0
    (λ later on. ap (λ xs. ahead (initials_over later parts) (typed_initialisers setting c.args.fixed (known_over later now) (type_over later c.args.kind) c.args.span i (syntax.initialisers (map syntax.initialiser xs)))) rest
    ∙ items-next setting c.args.fixed (known_over later now) (type_over later c.args.kind) c.args.span i (initials_over later parts) item others
    ∙ ap (λ xs. after (typed_item setting c.args.fixed (known_over later now) (part_type (known_over later now).types (type_over later c.args.kind) i) c.args.span item (syntax.initialisers (map syntax.initialiser xs)))
    (λ then_known made. ahead (pushed (initials_over later parts) made) (typed_initialisers setting c.args.fixed then_known (type_over later c.args.kind) c.args.span (i + 1) others))) (sym rest)
    ∙ ap (λ k. after (typed_item setting c.args.fixed (known_over later now) (part_type (known_over later now).types (type_over later c.args.kind) k) c.args.span item (syntax.initialisers (map syntax.initialiser (drop k items))))
    (λ then_known made. ahead (pushed (initials_over later parts) made) (typed_initialisers setting c.args.fixed then_known (type_over later c.args.kind) c.args.span (i + 1) others))) same) in
    relays InitialsFit initials_over (source_of c.args.typer.now) old c.typed_item.new.known (λ later. typed_initialisers setting c.args.fixed (known_over later old) (type_over later c.args.kind) c.args.span 0 (syntax.initialisers (map syntax.initialiser items))) c.from_residual.result c.in_err-made.field-0.0 c.from_residual.ensures.1
    (fails InitialFits initial_over (source_of c.args.typer.now) old now c.typed_item.new.known (λ later. typed_initialisers setting c.args.fixed (known_over later old) (type_over later c.args.kind) c.args.span 0 (syntax.initialisers (map syntax.initialiser items))) InitialsFit initials_over
    (λ later. typed_item setting c.args.fixed (known_over later now) (part_type (known_over later now).types (type_over later c.args.kind) n) c.args.span item (syntax.initialisers (map syntax.initialiser (drop n items)))) (λ (later : List Shape) (then_known : Known) (made : Initial). ahead (pushed (initials_over later parts) made) (typed_initialisers setting c.args.fixed then_known (type_over later c.args.kind) c.args.span (i + 1) others)) c.in_err-made.field-0.0 reached c.in_err-made.ensures)

pub typed_initialisers-loop-item-preserved : goal.typed_initialisers-loop-item-preserved
typed_initialisers-loop-item-preserved t c =
    let setting = setting_of c.args.typer.now in
    let old = c.args.known.now in
    let now = c.loop-item.known in
    let parts = c.loop-item.parts in
    let i = c.loop-item.item-index in
    let items = c.args.items.now in
    let item = syntax.initialiser c.item-item.result in
    let n = c.len.result in
    let others = syntax.initialisers (map syntax.initialiser (drop (i + 1) items)) in
    let same : i ≡ n = sym (c.len.ensures ∙ c.loop-item.invariant.2) in
    let rest = cut items i c.item-item.result c.loop-item-test.true c.item-item.is in
    let reached = says old now (λ later. typed_initialisers setting c.args.fixed (known_over later old) (type_over later c.args.kind) c.args.span 0 (syntax.initialisers (map syntax.initialiser items)))
    (λ later. ahead (initials_over later parts) (typed_initialisers setting c.args.fixed (known_over later now) (type_over later c.args.kind) c.args.span i (syntax.initialisers (map syntax.initialiser (drop i items)))))
    (λ later. after (typed_item setting c.args.fixed (known_over later now) (part_type (known_over later now).types (type_over later c.args.kind) n) c.args.span item (syntax.initialisers (map syntax.initialiser (drop n items))))
    (λ then_known made. ahead (pushed (initials_over later parts) made) (typed_initialisers setting c.args.fixed then_known (type_over later c.args.kind) c.args.span (i + 1) others)))
    c.loop-item.invariant.0
    (λ later on. ap (λ xs. ahead (initials_over later parts) (typed_initialisers setting c.args.fixed (known_over later now) (type_over later c.args.kind) c.args.span i (syntax.initialisers (map syntax.initialiser xs)))) rest
    ∙ items-next setting c.args.fixed (known_over later now) (type_over later c.args.kind) c.args.span i (initials_over later parts) item others
    ∙ ap (λ xs. after (typed_item setting c.args.fixed (known_over later now) (part_type (known_over later now).types (type_over later c.args.kind) i) c.args.span item (syntax.initialisers (map syntax.initialiser xs)))
    (λ then_known made. ahead (pushed (initials_over later parts) made) (typed_initialisers setting c.args.fixed then_known (type_over later c.args.kind) c.args.span (i + 1) others))) (sym rest)
    ∙ ap (λ k. after (typed_item setting c.args.fixed (known_over later now) (part_type (known_over later now).types (type_over later c.args.kind) k) c.args.span item (syntax.initialisers (map syntax.initialiser (drop k items))))
    (λ then_known made. ahead (pushed (initials_over later parts) made) (typed_initialisers setting c.args.fixed then_known (type_over later c.args.kind) c.args.span (i + 1) others))) same) in
    let new = c.typed_item.new.known in
    let made = c.in_ok-made.made in (
      says old new (λ later. typed_initialisers setting c.args.fixed (known_over later old) (type_over later c.args.kind) c.args.span 0 (syntax.initialisers (map syntax.initialiser items)))
          (λ later. ahead (pushed (initials_over later parts) (initial_over later made)) (typed_initialisers setting c.args.fixed (known_over later new) (type_over later c.args.kind) c.args.span (i + 1) others))
          (λ later. ahead (initials_over later c.push.new.self) (typed_initialisers setting c.args.fixed (known_over later new) (type_over later c.args.kind) c.args.span (i + 1) others))
          (passes InitialFits initial_over (source_of c.args.typer.now) old now c.typed_item.new.known (λ later. typed_initialisers setting c.args.fixed (known_over later old) (type_over later c.args.kind) c.args.span 0 (syntax.initialisers (map syntax.initialiser items))) (λ later. typed_item setting c.args.fixed (known_over later now) (part_type (known_over later now).types (type_over later c.args.kind) n) c.args.span item (syntax.initialisers (map syntax.initialiser (drop n items)))) (λ (later : List Shape) (then_known : Known) (made : Initial). ahead (pushed (initials_over later parts) made) (typed_initialisers setting c.args.fixed then_known (type_over later c.args.kind) c.args.span (i + 1) others)) c.in_ok-made.made reached c.in_ok-made.ensures)
          (λ later on. ap (λ before. ahead before (typed_initialisers setting c.args.fixed (known_over later new) (type_over later c.args.kind) c.args.span (i + 1) others))
          (sym (ap (initials_over later) c.in_ok-push.ensures.ok ∙ initials-push later parts made))),
      subst (InitialsFit new.types) (sym c.in_ok-push.ensures.ok)
          (All-push (InitialFits new.types) parts made (initials-later now.types new.types parts c.in_ok-made.ensures.shapes c.loop-item.invariant.1) c.in_ok-made.ensures.numbered),
      ap length c.in_ok-push.ensures.ok ∙ (let so = length-append parts (made ∷ []) in let far = c.loop-item.invariant.2 in omega (arith, so, far)),
    )

pub typed_initialisers-returns : goal.typed_initialisers-returns
typed_initialisers-returns t c =
    let setting = setting_of c.args.typer.now in
    let old = c.args.known.now in
    let now = c.loop-item.known in
    let parts = c.loop-item.parts in
    let i = c.loop-item.item-index in
    let items = c.args.items.now in
    done InitialsFit initials_over (source_of c.args.typer.now) old now (λ later. typed_initialisers setting c.args.fixed (known_over later old) (type_over later c.args.kind) c.args.span 0 (syntax.initialisers (map syntax.initialiser items))) parts
    (says old now (λ later. typed_initialisers setting c.args.fixed (known_over later old) (type_over later c.args.kind) c.args.span 0 (syntax.initialisers (map syntax.initialiser items)))
    (λ later. ahead (initials_over later parts) (typed_initialisers setting c.args.fixed (known_over later now) (type_over later c.args.kind) c.args.span i (syntax.initialisers (map syntax.initialiser (drop i items)))))
    (λ later. given (known_over later now) (initials_over later parts)) c.loop-item.invariant.0
    (λ later on. ap (λ xs. ahead (initials_over later parts) (typed_initialisers setting c.args.fixed (known_over later now) (type_over later c.args.kind) c.args.span i (syntax.initialisers (map syntax.initialiser xs)))) (past items i c.loop-item-test.false)
    ∙ items-end setting c.args.fixed (known_over later now) (type_over later c.args.kind) c.args.span i (initials_over later parts))) c.loop-item.invariant.1
