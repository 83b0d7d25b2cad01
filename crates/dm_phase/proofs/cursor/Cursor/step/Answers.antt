-- One character is passed.
use Rattle.std.proofs.Common.{◌≡◌, ◌∙◌, ◌+◌, ◌-◌, ◌^◌, ◌<◌, ap, sym, subst, arith, length, length-drop, get_or, ℕ, List, drop}
use Rattle.dm_phase.specs.declared.Character.{Character}
use Rattle.dm_phase.specs.declared.jump.Jump.{Jump}
use Rattle.dm_phase.specs.declared.cursor.Cursor.{Cursor}
use Rattle.dm_phase.specs.Positions.{InOrder}
use Rattle.dm_phase.specs.Sparse.{characters_from, first_from, behind_jump}
use Rattle.dm_phase.specs.Walking.{ahead}
use Rattle.dm_phase.proofs.CursorLemmas.{length-characters_from, characters_from-first, drop-in_order}
use Rattle.dm_phase.proofs.cursor.Cursor.step.Goals as goal

some_rest : (cursor : Cursor) → 0 < length (ahead cursor) → 0 < length cursor.rest.now
some_rest cursor some = omega (arith, length-characters_from cursor.index cursor.at cursor.jumps.now cursor.rest.now)

-- what is left behind the first of those ahead
step_is : (cursor : Cursor) (first : Character) (jumps : List Jump) (rest : List ℕ) → 0 < length (ahead cursor) → get_or (ahead cursor) 0 first ≡ first →
    jumps ≡ behind_jump cursor.index cursor.jumps.now → rest ≡ drop 1 cursor.rest.now →
    characters_from (cursor.index + 1) (first.at + first.width) jumps rest ≡ drop 1 (ahead cursor)
step_is cursor first jumps rest some is jumps_are rest_is =
    let whole = characters_from-first cursor.index cursor.at cursor.jumps.now cursor.rest.now (some_rest cursor some) in
    let same : first ≡ first_from cursor.index cursor.at cursor.jumps.now (get_or cursor.rest.now 0 0) = sym is ∙ ap (λ (text : List Character). get_or text 0 first) whole in
    ap (λ (f : Character). characters_from (cursor.index + 1) (f.at + f.width) jumps rest) same
    ∙ (rw (jumps_are, rest_is) (sym (ap (drop 1) whole)))

pub split_at-requires : goal.split_at-requires
split_at-requires c = let h = some_rest c.args.self.now c.requires.some in omega (arith, h)

pub returns-clause-further : goal.returns-clause-further
returns-clause-further c =
    step_is c.args.self.now c.first-first.result c.behind_jump-self.result.now c.split_at.result.1.now c.requires.some c.first-first.ensures.first c.behind_jump-self.ensures c.split_at.ensures.back

pub returns-clause-sound : goal.returns-clause-sound
returns-clause-sound c =
    let cursor = c.args.self.now in
    record {
      small = let h = some_rest cursor c.requires.some in omega (arith, h, c.requires.sound.small, ap length c.split_at.ensures.back, length-drop 1 cursor.rest.now);
      fits = c.first-first.ensures.small;
      order = subst (λ (t : List Character). InOrder 0 (2 ^ 32 - 1) t)
          (sym (step_is cursor c.first-first.result c.behind_jump-self.result.now c.split_at.result.1.now c.requires.some c.first-first.ensures.first c.behind_jump-self.ensures c.split_at.ensures.back))
          (drop-in_order 1 (2 ^ 32 - 1) (ahead cursor) c.requires.sound.order);
    }
