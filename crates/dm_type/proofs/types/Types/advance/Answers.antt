-- A function type begins with its first parameter.
use Rattle.std.proofs.Common.{◌≡◌, ◌==◌, ◌++◌, map, reverse, codes, Some, None, if◌then◌else◌, IfOk, sym, ap, ◌∙◌, subst, arith}
use Rattle.std.specs.List.{list_any}
use Rattle.dm_type.specs.CTypes.{function, struct, all_of}
use Rattle.dm_type.specs.Tables.{Table, type_of, types_of, as_is, tag_of}
use Rattle.dm_type.specs.Spelling.{wrapped, spelled}
use Rattle.dm_type.specs.Writing.{written, finished, resumed, Shows}
use Rattle.dm_type.proofs.WritingLemmas.{resumed-none, start-function, work-start, not-named, on-ok}
use Rattle.dm_type.proofs.types.Types.advance.Goals as goal

pub returns-in_ok-put_behind-in-Function-clause-shows : goal.returns-in_ok-put_behind-in-Function-clause-shows
returns-in_ok-put_behind-in-Function-clause-shows c =
    let table : Table = c.args.self.now in
    let is : type_of table c.args.focus.id ≡ function (type_of table c.in-Function.field-0) (all_of (map (type_of table) c.in-Function.field-1)) =
    c.shape.ensures.exact ∙ ap (as_is (types_of table.shapes)) c.in-Function.is in
    let text : c.put_behind.new.self ≡ wrapped c.args.focus.declarator ++ codes "(" = c.in_ok-put_behind-in-Function.ensures ∙ ap (λ d. d ++ codes "(") c.in_ok-wrap-in-Function.ensures in
    let value : finished table c.args.visible.now (type_of table c.args.focus.id) 0 c.put_behind.new.self
    ≡ written table c.args.visible.now (type_of table c.args.focus.id) c.args.focus.qualified c.args.focus.declarator =
    ap (finished table c.args.visible.now (type_of table c.args.focus.id) 0) text
    ∙ sym (start-function table c.args.visible.now (type_of table c.args.focus.id) (type_of table c.in-Function.field-0) (map (type_of table) c.in-Function.field-1) c.args.focus.qualified c.args.focus.declarator is) in
    subst (λ v. IfOk c.go_on.result (λ step. Shows table c.args.visible.now (reverse c.go_on.new.frames.items) step (resumed table c.args.visible.now (reverse c.args.frames.now.items) v))) value c.go_on.ensures.shows

pub returns-in_ok-put_behind-in-Function-clause-work : goal.returns-in_ok-put_behind-in-Function-clause-work
returns-in_ok-put_behind-in-Function-clause-work c =
    let table : Table = c.args.self.now in
    let is : type_of table c.args.focus.id ≡ function (type_of table c.in-Function.field-0) (all_of (map (type_of table) c.in-Function.field-1)) =
    c.shape.ensures.exact ∙ ap (as_is (types_of table.shapes)) c.in-Function.is in
    let start = work-start (type_of table c.args.focus.id) (type_of table c.in-Function.field-0) (map (type_of table) c.in-Function.field-1) is in
    on-ok c.go_on.result (λ step less. omega (arith, less, start)) c.go_on.ensures.work

pub returns-in-None-clause-shows : goal.returns-in-None-clause-shows
returns-in-None-clause-shows c =
    let table : Table = c.args.self.now in
    let is : type_of table c.args.focus.id ≡ struct c.in-Struct.number = c.shape.ensures.exact ∙ ap (as_is (types_of table.shapes)) c.in-Struct.is in
    let never = not-named (list_any (λ other. other == c.in-Struct.number) c.args.visible.now) (tag_of table c.in-Struct.number) c.in-None.ensures in
    let none : written table c.args.visible.now (struct c.in-Struct.number) c.args.focus.qualified c.args.focus.declarator ≡ None =
    ap (λ b. if b then Some (spelled table (struct c.in-Struct.number) c.args.focus.qualified c.args.focus.declarator) else None) never in
    ap (λ t. resumed table c.args.visible.now (reverse c.args.frames.now.items) (written table c.args.visible.now t c.args.focus.qualified c.args.focus.declarator)) is
    ∙ ap (resumed table c.args.visible.now (reverse c.args.frames.now.items)) none ∙ resumed-none table c.args.visible.now (reverse c.args.frames.now.items)
