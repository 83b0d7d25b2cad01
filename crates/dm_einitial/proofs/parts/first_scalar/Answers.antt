-- The way goes through arrays, and into a struct with one struct fewer left.
use Rattle.std.specs.Prelude.{◌-◌, ◌+◌, ◌<◌, length, Some, None, IfSome, if◌then◌else◌, option_map, refl}
use Rattle.std.proofs.Common.{ap, ap₂, sym, ◌∙◌, subst}
use Rattle.dm_type.specs.Tables.{IsId}
use Rattle.dm_tree.specs.Scenes.{is_scalar, part_type}
use Rattle.dm_typing.specs.Known.{Known}
use Rattle.dm_typing.specs.Views.{type_over, known_over}
use Rattle.dm_typing.proofs.GivesLemmas.{grown, grows-on}
use Rattle.dm_typing.proofs.LaterLemmas.{begins-on, type-later}
use Rattle.dm_einitial.specs.declared.parts.First.{First as FirstHeld}
use Rattle.dm_edecl.specs.Initialising.{first_within}
use Rattle.dm_einitial.specs.Steps.{first_over, within}
use Rattle.dm_einitial.proofs.PartLemmas.{first_at, ends-here, ends-nowhere, goes-below, ends-last, stands-at, fuel-left, no-fuel, if-first}
use Rattle.dm_einitial.proofs.parts.first_scalar.Goals as goal

pub returns-then-is_scalar-clause-first : goal.returns-then-is_scalar-clause-first
returns-then-is_scalar-clause-first c = λ later begins.
    let table = (known_over later c.args.known.now).types in
    let shapes = c.loop-structs.known.types.shapes in
    let here = c.in_ok-here.here in
    let type = type_over shapes here.kind in
    ap (λ t. Some (first_at here.depth t)) (type-later shapes later here.kind begins c.in_ok-here.ensures.numbered)
    ∙ sym (ends-here table type c.in_ok-here.ensures.element here.depth (c.loop-structs.structs - 1) (sym c.is_scalar.ensures ∙ c.if-is_scalar.true))
    ∙ ap (λ n. within here.depth (first_within n table type)) (fuel-left c.loop-structs.structs c.loop-structs-test.true)
    ∙ stands-at shapes later table c.loop-structs.structs c.loop-structs.at here _ begins c.loop-structs.invariant.1 c.in_ok-here.ensures.same (c.loop-structs.invariant.2 later begins)

pub returns-in-None-clause-first : goal.returns-in-None-clause-first
returns-in-None-clause-first c = λ later begins.
    let table = (known_over later c.args.known.now).types in
    let shapes = c.loop-structs.known.types.shapes in
    let here = c.in_ok-here.here in
    let type = type_over shapes here.kind in
    let on = begins-on shapes c.part.new.known.types.shapes later c.part.ensures.grows.shapes begins in
    let known = ap (λ (k : Known). k.types) (grown later c.args.known.now c.loop-structs.known c.loop-structs.invariant.0) in
    let none = ap₂ (λ t ty. part_type t ty 0) known (sym (type-later shapes later here.kind on c.in_ok-here.ensures.numbered)) ∙ sym (c.in_ok-found.ensures.part later begins) ∙ ap (option_map (type_over later)) c.in-None.is in
    sym (ends-nowhere table type c.in_ok-here.ensures.element here.depth (c.loop-structs.structs - 1) (sym c.is_scalar.ensures ∙ c.if-is_scalar.false) none)
    ∙ ap (λ n. within here.depth (first_within n table type)) (fuel-left c.loop-structs.structs c.loop-structs-test.true)
    ∙ stands-at shapes later table c.loop-structs.structs c.loop-structs.at here _ on c.loop-structs.invariant.1 c.in_ok-here.ensures.same (c.loop-structs.invariant.2 later on)

pub loop-structs-preserved : goal.loop-structs-preserved
loop-structs-preserved c =
    let new = c.part.new.known in (
      grows-on c.args.known.now c.loop-structs.known new c.loop-structs.invariant.0 c.part.ensures.grows,
      subst (λ (n : FirstHeld). n.kind < length new.types.shapes) (sym c.in_ok-next-in-Some.ensures) (subst (λ f. IfSome f (IsId new.types)) c.in-Some.is c.in_ok-found.ensures.numbered),
      λ later begins.
          let table = (known_over later c.args.known.now).types in
          let shapes = c.loop-structs.known.types.shapes in
          let here = c.in_ok-here.here in
          let type = type_over shapes here.kind in
          let k = c.loop-structs.structs - 1 in
          let on = begins-on shapes new.types.shapes later c.part.ensures.grows.shapes begins in
          let known = ap (λ (k : Known). k.types) (grown later c.args.known.now c.loop-structs.known c.loop-structs.invariant.0) in
          let some = ap₂ (λ t ty. part_type t ty 0) known (sym (type-later shapes later here.kind on c.in_ok-here.ensures.numbered)) ∙ sym (c.in_ok-found.ensures.part later begins) ∙ ap (option_map (type_over later)) c.in-Some.is in
          ap (λ (n : FirstHeld). within n.depth (first_within k table (type_over later n.kind))) c.in_ok-next-in-Some.ensures
          ∙ goes-below table type c.in_ok-here.ensures.element here.depth k (here.depth + 1) (type_over later c.in-Some.inner) (sym c.is_scalar.ensures ∙ c.if-is_scalar.false) some refl
          ∙ ap (λ n. within here.depth (first_within n table type)) (fuel-left c.loop-structs.structs c.loop-structs-test.true)
          ∙ stands-at shapes later table c.loop-structs.structs c.loop-structs.at here _ on c.loop-structs.invariant.1 c.in_ok-here.ensures.same (c.loop-structs.invariant.2 later on),
    )

pub returns-clause-first : goal.returns-clause-first
returns-clause-first c = λ later begins.
    let table = (known_over later c.args.known.now).types in
    let shapes = c.loop-structs.known.types.shapes in
    let here = c.in_ok-here-2.here in
    let type = type_over shapes here.kind in
    ap (option_map (first_over later)) c.if_scalar.ensures.scalar
    ∙ if-first later here (is_scalar type)
    ∙ ap (λ t. if is_scalar type then Some (first_at here.depth t) else None) (type-later shapes later here.kind begins c.in_ok-here-2.ensures.numbered)
    ∙ sym (ends-last table type c.in_ok-here-2.ensures.element here.depth (is_scalar type) refl)
    ∙ ap (λ n. within here.depth (first_within n table type)) (no-fuel c.loop-structs.structs c.loop-structs-test.false)
    ∙ stands-at shapes later table c.loop-structs.structs c.loop-structs.at here _ begins c.loop-structs.invariant.1 c.in_ok-here-2.ensures.same (c.loop-structs.invariant.2 later begins)
