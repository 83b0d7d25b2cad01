-- What a step makes of the last types.
use Rattle.std.proofs.Common.{ℕ, List, All, ap, ◌∙◌, subst}
use Rattle.dm_type.specs.CTypes.{pointer, array, with_const}
use Rattle.dm_type.specs.Tables.{Table, type_of, IsId}
use Rattle.dm_type.specs.Composing.{stacked, applied}
use Rattle.dm_type.proofs.ComposingLemmas.{makes-pointer, makes-array, makes-const, makes-function, all-new}
use Rattle.dm_type.proofs.SoundLemmas.{all-parts}
use Rattle.dm_type.proofs.types.Types.carry.Goals as goal

pub returns-in_ok-id-in-Pointer-clause-typed : goal.returns-in_ok-id-in-Pointer-clause-typed
returns-in_ok-id-in-Pointer-clause-typed c =
    let old : Table = c.args.self.now in
    let after : List ℕ = c.last_of-target.new.made.items in
    let parts = all-parts (IsId old) after c.last_of-target.result (subst (All (IsId old)) c.last_of-target.ensures c.requires.made) in
    ap (λ s. applied old s (stacked old c.args.made.now.items)) c.in-Pointer.is
    ∙ makes-pointer old c.intern.new.self c.args.made.now.items after c.last_of-target.result c.in_ok-id-in-Pointer.id
    c.last_of-target.ensures c.in_ok-id-in-Pointer.ensures.kept parts.0 c.in_ok-id-in-Pointer.ensures.typed

pub returns-in_ok-id-in-Pointer-clause-inside : goal.returns-in_ok-id-in-Pointer-clause-inside
returns-in_ok-id-in-Pointer-clause-inside c =
    let old : Table = c.args.self.now in
    let after : List ℕ = c.last_of-target.new.made.items in
    let parts = all-parts (IsId old) after c.last_of-target.result (subst (All (IsId old)) c.last_of-target.ensures c.requires.made) in
    all-new old c.intern.new.self after c.in_ok-id-in-Pointer.id (pointer (type_of old c.last_of-target.result))
    c.in_ok-id-in-Pointer.ensures.kept parts.0 c.in_ok-id-in-Pointer.ensures.typed

pub returns-in_ok-id-in-Array-clause-typed : goal.returns-in_ok-id-in-Array-clause-typed
returns-in_ok-id-in-Array-clause-typed c =
    let old : Table = c.args.self.now in
    let after : List ℕ = c.last_of-element.new.made.items in
    let parts = all-parts (IsId old) after c.last_of-element.result (subst (All (IsId old)) c.last_of-element.ensures c.requires.made) in
    ap (λ s. applied old s (stacked old c.args.made.now.items)) c.in-Array.is
    ∙ makes-array old c.intern-in-Array.new.self c.args.made.now.items after c.last_of-element.result c.in_ok-id-in-Array.id c.in-Array.length
    c.last_of-element.ensures c.in_ok-id-in-Array.ensures.kept parts.0 c.in_ok-id-in-Array.ensures.typed

pub returns-in_ok-id-in-Array-clause-inside : goal.returns-in_ok-id-in-Array-clause-inside
returns-in_ok-id-in-Array-clause-inside c =
    let old : Table = c.args.self.now in
    let after : List ℕ = c.last_of-element.new.made.items in
    let parts = all-parts (IsId old) after c.last_of-element.result (subst (All (IsId old)) c.last_of-element.ensures c.requires.made) in
    all-new old c.intern-in-Array.new.self after c.in_ok-id-in-Array.id (array (type_of old c.last_of-element.result) c.in-Array.length)
    c.in_ok-id-in-Array.ensures.kept parts.0 c.in_ok-id-in-Array.ensures.typed

pub returns-in_ok-id-in-Const-clause-typed : goal.returns-in_ok-id-in-Const-clause-typed
returns-in_ok-id-in-Const-clause-typed c =
    let old : Table = c.args.self.now in
    let after : List ℕ = c.last_of-plain.new.made.items in
    let parts = all-parts (IsId old) after c.last_of-plain.result (subst (All (IsId old)) c.last_of-plain.ensures c.requires.made) in
    ap (λ s. applied old s (stacked old c.args.made.now.items)) c.in-Const.is
    ∙ makes-const old c.intern-in-Const.new.self c.args.made.now.items after c.last_of-plain.result c.in_ok-id-in-Const.id
    c.last_of-plain.ensures c.in_ok-id-in-Const.ensures.kept parts.0 c.in_ok-id-in-Const.ensures.typed

pub returns-in_ok-id-in-Const-clause-inside : goal.returns-in_ok-id-in-Const-clause-inside
returns-in_ok-id-in-Const-clause-inside c =
    let old : Table = c.args.self.now in
    let after : List ℕ = c.last_of-plain.new.made.items in
    let parts = all-parts (IsId old) after c.last_of-plain.result (subst (All (IsId old)) c.last_of-plain.ensures c.requires.made) in
    all-new old c.intern-in-Const.new.self after c.in_ok-id-in-Const.id (with_const (type_of old c.last_of-plain.result))
    c.in_ok-id-in-Const.ensures.kept parts.0 c.in_ok-id-in-Const.ensures.typed

pub returns-in_ok-id-in-Function-clause-typed : goal.returns-in_ok-id-in-Function-clause-typed
returns-in_ok-id-in-Function-clause-typed c =
    let old : Table = c.args.self.now in
    ap (λ s. applied old s (stacked old c.args.made.now.items)) c.in-Function.is
    ∙ makes-function old c.intern-in-Function.new.self c.args.made.now.items c.last_ones.new.made.items c.last_of-answer.result c.in_ok-id-in-Function.id
    c.last_of-answer.new.made.items c.in_ok-parameters-in-Function.parameters c.in-Function.count
    c.last_of-answer.ensures c.in_ok-parameters-in-Function.ensures.stacked c.in_ok-parameters-in-Function.ensures.counted
    c.in_ok-id-in-Function.ensures.kept c.last_ones.ensures.made c.in_ok-id-in-Function.ensures.typed
