-- The first of those that are left goes to the end of those so far.
use Rattle.std.proofs.Common.{◌≡◌, ◌∙◌, ◌<◌, ◌++◌, List, [], ◌∷◌, ℕ, map, length, length-append, drop, get_or, ap, sym, arith, append_assoc, append-nil, refl}
use Rattle.std.proofs.lemmas.List.{length-map}
use Rattle.dm_phase.specs.declared.Character.{Character}
use Rattle.dm_phase.specs.Walking.{ahead}
use Rattle.dm_phase.proofs.flat.Flat.characters.Goals as goal

-- a list by its first element
by_first : (text : List Character) (c : Character) → 0 < length text → get_or text 0 c ≡ c → text ≡ c ∷ drop 1 text
by_first [] c some first = absurd (omega arith)
by_first (d ∷ text) c some first = ap (λ (e : Character). e ∷ text) first

-- one character more
further : (items items' whole left left' : List Character) (c : Character) → items ++ left ≡ whole → 0 < length left → get_or left 0 c ≡ c → left' ≡ drop 1 left → items' ≡ items ++ c ∷ [] → items' ++ left' ≡ whole
further items items' whole left left' c is some first rest more =
    rw (more, rest) (append_assoc items (c ∷ []) (drop 1 left) ∙ ap (λ t. items ++ t) (sym (by_first left c some first)) ∙ is)

-- nothing is left once there are as many as all
whole_once : (items left whole : List Character) → items ++ left ≡ whole → length whole ≡ length items → items ≡ whole
whole_once items [] whole is size = sym (append-nil items) ∙ is
whole_once items (c ∷ left) whole is size = absurd (let e = ap length is in omega (arith, e, length-append items (c ∷ left)))

pub loop-number-init : goal.loop-number-init
loop-number-init c = record {
  sound = c.cursor-cursor.ensures.sound;
  whole = rw c.new-characters.ensures.items c.cursor-cursor.ensures.whole;
  size = ap length c.new-characters.ensures.items;
}

-- characters are left where there are fewer so far than all
some_left : (items left whole : List Character) (bytes : List ℕ) (number count : ℕ) → items ++ left ≡ whole → length items ≡ number → number < count → count ≡ length bytes →
    bytes ≡ map (λ (character : Character). character.byte) whole → 0 < length left
some_left items left whole bytes number count is size below same are =
    omega (arith, ap length is, length-append items left, ap length are, length-map whole (λ (character : Character). character.byte))

pub first-requires-clause-some : goal.first-requires-clause-some
first-requires-clause-some c =
    some_left c.loop-number.characters.items (ahead c.loop-number.cursor) c.args.self.now.characters c.bytes-count.result.now c.loop-number._number (length c.bytes-count.result.now)
    c.loop-number.invariant.whole c.loop-number.invariant.size c.loop-number-test.true refl c.bytes-count.ensures

pub advance-requires-clause-inside : goal.advance-requires-clause-inside
advance-requires-clause-inside c =
    let some = some_left c.loop-number.characters.items (ahead c.loop-number.cursor) c.args.self.now.characters c.bytes-count.result.now c.loop-number._number (length c.bytes-count.result.now)
    c.loop-number.invariant.whole c.loop-number.invariant.size c.loop-number-test.true refl c.bytes-count.ensures in
    omega (arith, some)

pub loop-number-preserved : goal.loop-number-preserved
loop-number-preserved c =
    let some = some_left c.loop-number.characters.items (ahead c.loop-number.cursor) c.args.self.now.characters c.bytes-count.result.now c.loop-number._number (length c.bytes-count.result.now)
    c.loop-number.invariant.whole c.loop-number.invariant.size c.loop-number-test.true refl c.bytes-count.ensures in
    record {
      sound = c.advance.ensures.sound;
      whole = further c.loop-number.characters.items _ c.args.self.now.characters (ahead c.loop-number.cursor) _ c.first.result
          c.loop-number.invariant.whole some c.first.ensures.first c.advance.ensures.further c.in_ok-push.ensures.items;
      size = omega (arith, c.loop-number.invariant.size, ap length c.in_ok-push.ensures.items, length-append c.loop-number.characters.items (c.first.result ∷ []));
    }

pub returns : goal.returns
returns c =
    c.from_vec.ensures ∙ whole_once c.loop-number.characters.items (ahead c.loop-number.cursor) c.args.self.now.characters c.loop-number.invariant.whole
    (omega (arith, c.loop-number.invariant.size, c.loop-number-test.false, ap length c.bytes-count.ensures, length-map c.args.self.now.characters (λ (character : Character). character.byte)))
