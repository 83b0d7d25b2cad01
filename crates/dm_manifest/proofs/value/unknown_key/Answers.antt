use Rattle.std.proofs.Common.{◌≡◌, sym, ◌∙◌, ap, Some, find, map, string_bytes}
use Rattle.dm_manifest.proofs.Keys.{is_unknown, is_among, find-known, find-unknown, find-unknown_key}
use Rattle.dm_manifest.proofs.value.unknown_key.Goals as goal

pub returns-then-not-contains : goal.returns-then-not-contains
returns-then-not-contains c =
    let other : _ ≡ _ = ap (λ key. is_among c.args.known.now key) (sym c.as_str-key.ensures.value) ∙ sym c.contains.ensures.value ∙ c.if-not-contains.true in
    ap Some c.as_str-key.ensures.value
    ∙ sym (find-unknown c.args.known.now c.in-Some.key.now c.loop-key.key-iterator c.next.new.self c.in-Some.ensures.steps other)
    ∙ c.loop-key.invariant.2
    ∙ find-unknown_key c.args.known.now c.args.members.now.entries c.keys-key-items.ensures.ordered

pub returns : goal.returns
returns c =
    sym (ap (λ names. find (is_unknown c.args.known.now) (map string_bytes names)) c.in-None.ensures.steps.0)
    ∙ c.loop-key.invariant.2
    ∙ find-unknown_key c.args.known.now c.args.members.now.entries c.keys-key-items.ensures.ordered

pub loop-key-preserved : goal.loop-key-preserved
loop-key-preserved c =
    let known : _ ≡ _ = ap (λ key. is_among c.args.known.now key) (sym c.as_str-key.ensures.value) ∙ sym c.contains.ensures.value ∙ c.if-not-contains.false in
    (tt, tt, sym (find-known c.args.known.now c.in-Some.key.now c.loop-key.key-iterator c.next.new.self c.in-Some.ensures.steps known) ∙ c.loop-key.invariant.2)
