-- One parameter more.
use Rattle.std.proofs.Common.{◌≡◌, false, ◌+◌, ℕ, List, [], ◌∷◌, ◌++◌, reverse, sym, ap, ◌∙◌, arith}
use Rattle.std.proofs.lemmas.List.{reverse-append}
use Rattle.std.specs.Option.{option_and_then}
use Rattle.dm_type.specs.declared.spell.Frame.{Frame}
use Rattle.dm_type.specs.CTypes.{CType}
use Rattle.dm_type.specs.Tables.{Table, type_of}
use Rattle.dm_type.specs.Writing.{written, finished, resumed, work_of_frames, work_behind, between}
use Rattle.dm_type.proofs.WritingLemmas.{further-more, work-further}
use Rattle.dm_type.proofs.types.Types.further.Goals as goal

pub returns-clause-shows : goal.returns-clause-shows
returns-clause-shows c =
    let table : Table = c.args.self.now in
    let visible : List ℕ = c.args.visible.now in
    let whole : CType = type_of table c.args.function in
    let one : CType = type_of table c.args.found.0 in
    let old : List Frame = reverse c.args.frames.now.items in
    let frame : Frame = record { function = c.args.function; next = c.args.found.1; declarator = c.put_behind.new.self } in
    let text : c.put_behind.new.self ≡ c.args.declarator ++ between c.args.next =
    c.in_ok-put_behind.ensures ∙ ap (λ m. c.args.declarator ++ m) (c.as_bytes.ensures.value ∙ c.mark_before.ensures) in
    let turned : reverse c.push.new.self.items ≡ frame ∷ old = ap reverse c.in_ok-push.ensures.items ∙ reverse-append c.args.frames.now.items (frame ∷ []) in
    ap (resumed table visible old) (further-more table visible whole one c.args.next c.args.declarator c.requires.more)
    ∙ ap (λ d. resumed table visible old (option_and_then (λ inner. finished table visible whole (c.args.next + 1) (d ++ inner)) (written table visible one false []))) (sym text)
    ∙ ap (λ k. resumed table visible old (option_and_then (λ inner. finished table visible whole k (c.put_behind.new.self ++ inner)) (written table visible one false []))) (sym c.requires.after)
    ∙ ap (λ fs. resumed table visible fs (written table visible one false [])) (sym turned)
    ∙ ap (λ e. resumed table visible (reverse c.push.new.self.items) (written table visible one false e)) (sym c.new-empty.ensures)

pub returns-clause-work : goal.returns-clause-work
returns-clause-work c =
    let table : Table = c.args.self.now in
    let whole : CType = type_of table c.args.function in
    let frame : Frame = record { function = c.args.function; next = c.args.found.1; declarator = c.put_behind.new.self } in
    let turned : reverse c.push.new.self.items ≡ frame ∷ reverse c.args.frames.now.items = ap reverse c.in_ok-push.ensures.items ∙ reverse-append c.args.frames.now.items (frame ∷ []) in
    let frames = ap (work_of_frames table) turned in
    let after = ap (work_behind whole) c.requires.after in
    let less = work-further whole (type_of table c.args.found.0) c.args.next c.requires.more in
    omega (arith, frames, after, less)
