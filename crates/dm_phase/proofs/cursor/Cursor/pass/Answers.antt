-- The characters are passed, and what is left stands in order.
use Rattle.std.proofs.Common.{◌∙◌, ◌+◌, ◌-◌, ◌^◌, ◌≤◌, ap, sym, arith, length, length-drop, ℕ, List, zero, suc, subst}
use Rattle.dm_phase.specs.declared.Character.{Character}
use Rattle.dm_phase.specs.declared.cursor.Cursor.{Cursor}
use Rattle.dm_phase.specs.Positions.{InOrder}
use Rattle.dm_phase.specs.Sparse.{IsClear, characters_from}
use Rattle.dm_phase.specs.Walking.{ahead, IsSound}
use Rattle.dm_phase.proofs.CursorLemmas.{length-characters_from, characters_from-pass, pass-end, drop-in_order}
use Rattle.dm_phase.proofs.cursor.Cursor.pass.Goals as goal

-- a character is there for each byte
inside_rest : (cursor : Cursor) (count : ℕ) → count ≤ length (ahead cursor) → count ≤ length cursor.rest.now
inside_rest cursor count inside = omega (arith, length-characters_from cursor.index cursor.at cursor.jumps.now cursor.rest.now)

-- the offset behind them
end_small : (cursor : Cursor) (count : ℕ) → IsSound cursor → count ≤ length (ahead cursor) → IsClear cursor.index count cursor.jumps.now → cursor.at + count ≤ 2 ^ 32 - 1
end_small cursor zero sound inside clear = omega (arith, sound.fits)
end_small cursor (suc count) sound inside clear =
    pass-end (suc count) cursor.index cursor.at cursor.jumps.now cursor.rest.now 0 (2 ^ 32 - 1) clear (omega arith) (inside_rest cursor (suc count) inside) sound.order

pub split_at-requires : goal.split_at-requires
split_at-requires c = inside_rest c.args.self.now c.args.count c.requires.inside

pub overflow_add-self-2 : goal.overflow_add-self-2
overflow_add-self-2 c = omega (arith, end_small c.args.self.now c.args.count c.requires.sound c.requires.inside c.requires.clear)

pub overflow_cast-self : goal.overflow_cast-self
overflow_cast-self c = omega (arith, end_small c.args.self.now c.args.count c.requires.sound c.requires.inside c.requires.clear)

pub returns-clause-further : goal.returns-clause-further
returns-clause-further c =
    let cursor = c.args.self.now in
    ap (λ (r : List ℕ). characters_from (cursor.index + c.args.count) (cursor.at + c.args.count) cursor.jumps.now r) c.split_at.ensures.back
    ∙ characters_from-pass c.args.count cursor.index cursor.at cursor.jumps.now cursor.rest.now c.requires.clear (inside_rest cursor c.args.count c.requires.inside)

pub returns-clause-sound : goal.returns-clause-sound
returns-clause-sound c =
    let cursor = c.args.self.now in
    record {
      small = omega (arith, c.requires.sound.small, ap length c.split_at.ensures.back, length-drop c.args.count cursor.rest.now, inside_rest cursor c.args.count c.requires.inside);
      fits = omega (arith, end_small cursor c.args.count c.requires.sound c.requires.inside c.requires.clear);
      order = subst (λ (t : List Character). InOrder 0 (2 ^ 32 - 1) t)
          (sym (ap (λ (r : List ℕ). characters_from (cursor.index + c.args.count) (cursor.at + c.args.count) cursor.jumps.now r) c.split_at.ensures.back
          ∙ characters_from-pass c.args.count cursor.index cursor.at cursor.jumps.now cursor.rest.now c.requires.clear (inside_rest cursor c.args.count c.requires.inside)))
          (drop-in_order c.args.count (2 ^ 32 - 1) (ahead cursor) c.requires.sound.order);
    }
