-- The string goes on behind each character.
use Rattle.std.proofs.Common.{◌≡◌, ℕ, ◌<◌, ◌-◌, [], ◌∷◌, ◌++◌, Ok, Err, None, Some, pos, rules, ap, sym, subst, ◌∙◌}
use Rattle.std.proofs.lemmas.List.{append-nil}
use Rattle.dm_int.specs.declared.Kind.TheVariants.{Char}
use Rattle.dm_type.specs.CTypes.{integer}
use Rattle.dm_layout.specs.LaidOut.{laid_out}
use Rattle.dm_memory.specs.Blocks.{view_of_blocks}
use Rattle.dm_meaning.specs.declared.cause.Cause.TheVariants.{Bounds}
use Rattle.dm_meaning.specs.Causes.{earliest, moved_pointer, read_causes}
use Rattle.dm_meaning.specs.Memory.{contents_at}
use Rattle.dm_meaning.specs.Primitives.{text_at, text_on, unless_cause}
use Rattle.dm_meaning.specs.Values.{to}
use Rattle.dm_value.specs.declared.place.At.{At}
use Rattle.dm_value.specs.Places.{view_of_at}
use Rattle.dm_primitive.specs.declared.text.Character.TheVariants.{Byte, End, Refused}
use Rattle.dm_primitive.specs.Texts.{Text, and_character, behind, text_at_next}
use Rattle.dm_primitive.proofs.TextLemmas.{Reads, behind-more, by-first}
use Rattle.dm_primitive.proofs.text.text.Goals as goal

pub returns-in-End : goal.returns-in-End
returns-in-End c =
    let layout = laid_out c.args.layout.now in
    let memory = view_of_blocks c.args.layout.now c.args.blocks.now in
    let at = view_of_at c.loop-left.place.value in
    let left : ℕ = c.loop-left.left in
    let some : 0 < left = search rules in
    let here : c.as_ref-in-loop-left.result.now ≡ c.loop-left.place.value = search rules in
    let reads : Reads layout memory left at some End = subst (λ (place : At). Reads layout memory left (view_of_at place) some End) here (λ later. c.in_ok-byte.ensures later ∙ ap (λ one. and_character one later) c.in-End.is) in
    ap Ok (sym (append-nil c.loop-left.bytes)) ∙ (ap (behind c.loop-left.bytes) (sym (by-first layout memory left at some End reads)) ∙ c.loop-left.invariant)

pub returns-in-Refused : goal.returns-in-Refused
returns-in-Refused c =
    let layout = laid_out c.args.layout.now in
    let memory = view_of_blocks c.args.layout.now c.args.blocks.now in
    let at = view_of_at c.loop-left.place.value in
    let left : ℕ = c.loop-left.left in
    let some : 0 < left = search rules in
    let here : c.as_ref-in-loop-left.result.now ≡ c.loop-left.place.value = search rules in
    let one = Refused c.in-Refused.cause in
    let reads : Reads layout memory left at some one = subst (λ (place : At). Reads layout memory left (view_of_at place) some one) here (λ later. c.in_ok-byte.ensures later ∙ ap (λ one. and_character one later) c.in-Refused.is) in
    ap (behind c.loop-left.bytes) (sym (by-first layout memory left at some one reads)) ∙ c.loop-left.invariant

pub returns-in_default : goal.returns-in_default
returns-in_default c =
    let layout = laid_out c.args.layout.now in
    let memory = view_of_blocks c.args.layout.now c.args.blocks.now in
    let at = view_of_at c.loop-left.place.value in
    let left : ℕ = c.loop-left.left in
    let some : 0 < left = search rules in
    let here : c.as_ref-in-loop-left.result.now ≡ c.loop-left.place.value = search rules in
    let byte : ℕ = c.in-Byte.byte in
    let reads : Reads layout memory left at some (Byte byte) = subst (λ (place : At). Reads layout memory left (view_of_at place) some (Byte byte)) here (λ later. c.in_ok-byte.ensures later ∙ ap (λ one. and_character one later) c.in-Byte.is) in
    let later : text_on (moved_pointer layout memory (integer Char) (to at) (pos 1)) (text_at layout memory (left - 1)) ≡ Err Bounds =
    c.in_ok-next.ensures (text_at layout memory (left - 1)) ∙ ap (λ next. text_at_next next (text_at layout memory (left - 1))) c.in_default.is in
    sym (ap (λ (text : Text). behind c.loop-left.bytes (behind (byte ∷ []) text)) later)
    ∙ (ap (behind c.loop-left.bytes) (sym (by-first layout memory left at some (Byte byte) reads)) ∙ c.loop-left.invariant)

pub loop-left-preserved : goal.loop-left-preserved
loop-left-preserved c =
    let layout = laid_out c.args.layout.now in
    let memory = view_of_blocks c.args.layout.now c.args.blocks.now in
    let at = view_of_at c.loop-left.place.value in
    let left : ℕ = c.loop-left.left in
    let some : 0 < left = search rules in
    let here : c.as_ref-in-loop-left.result.now ≡ c.loop-left.place.value = search rules in
    let byte : ℕ = c.in-Byte.byte in
    let reads : Reads layout memory left at some (Byte byte) = subst (λ (place : At). Reads layout memory left (view_of_at place) some (Byte byte)) here (λ later. c.in_ok-byte.ensures later ∙ ap (λ one. and_character one later) c.in-Byte.is) in
    let text = text_at layout memory (left - 1) (view_of_at c.in-Some.next.value) in
    let later : text_on (moved_pointer layout memory (integer Char) (to at) (pos 1)) (text_at layout memory (left - 1)) ≡ text =
    c.in_ok-next.ensures (text_at layout memory (left - 1)) ∙ ap (λ next. text_at_next next (text_at layout memory (left - 1))) c.in-Some.is in
    ap (λ bytes. behind bytes text) c.in_ok-push-in-Byte.ensures.ok
    ∙ (behind-more c.loop-left.bytes byte text
    ∙ (sym (ap (λ (text : Text). behind c.loop-left.bytes (behind (byte ∷ []) text)) later)
    ∙ (ap (behind c.loop-left.bytes) (sym (by-first layout memory left at some (Byte byte) reads)) ∙ c.loop-left.invariant)))
