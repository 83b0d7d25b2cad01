-- What stands behind the last parameter.
use Rattle.std.proofs.Common.{◌≡◌, false, ℕ, List, ◌++◌, None, reverse, sym, ap, ◌∙◌, arith}
use Rattle.dm_type.specs.CTypes.{CType}
use Rattle.dm_type.specs.Tables.{Table, type_of, types_of}
use Rattle.dm_type.specs.Writing.{written, finished, resumed, closing}
use Rattle.dm_type.proofs.WritingLemmas.{resumed-none, behind-last, work-last, work-some, no-function}
use Rattle.dm_type.proofs.types.Types.behind.Goals as goal

pub returns-in_default : goal.returns-in_default
returns-in_default c =
    let table : Table = c.args.self.now in
    let none : finished table c.args.visible.now (type_of table c.args.function) c.args.next c.args.declarator ≡ None =
    ap (λ t. finished table c.args.visible.now t c.args.next c.args.declarator) c.shape.ensures.exact
    ∙ no-function table c.args.visible.now (types_of table.shapes) c.shape.result.now c.args.next c.args.declarator c.in_default.not-Function in
    let some = work-some (type_of table c.args.function) c.args.next in
    record {
      shows = ap (resumed table c.args.visible.now (reverse c.args.frames.now.items)) none ∙ resumed-none table c.args.visible.now (reverse c.args.frames.now.items);
      step = tt;
      frames = c.requires.frames;
      work = omega (arith, some);
    }

pub returns-clause-shows : goal.returns-clause-shows
returns-clause-shows c =
    let table : Table = c.args.self.now in
    let visible : List ℕ = c.args.visible.now in
    let first : CType = type_of table c.in-Function.first in
    let text : c.put_behind.new.self ≡ c.args.declarator ++ closing c.args.next =
    c.in_ok-put_behind.ensures ∙ ap (λ m. c.args.declarator ++ m) (c.as_bytes.ensures.value ∙ c.end_behind.ensures) in
    ap (resumed table visible (reverse c.args.frames.now.items))
    (behind-last table visible c.shape.result.now (type_of table c.args.function) c.args.next c.args.declarator c.shape.ensures.exact c.in-Function.is c.requires.last
    ∙ ap (written table visible first false) (sym text))

pub returns-clause-work : goal.returns-clause-work
returns-clause-work c =
    let less = work-last c.args.self.now c.shape.result.now (type_of c.args.self.now c.args.function) c.args.next c.shape.ensures.exact c.in-Function.is c.requires.last in
    omega (arith, less)
