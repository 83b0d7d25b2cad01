-- A table with one more struct is sound.
use Rattle.std.proofs.Common.{sym, subst}
use Rattle.dm_type.specs.Sound.{IsSound}
use Rattle.dm_type.proofs.SoundLemmas.{sound-struct}
use Rattle.dm_type.proofs.types.Types.new_struct.Goals as goal

pub invariant_of-self-2 : goal.invariant_of-self-2
invariant_of-self-2 c = (
  subst (λ structs. IsSound (record { shapes = c.self.inside.shapes.keys; structs = structs })) (sym c.in_ok-push.ensures.items)
      (sound-struct (record { shapes = c.self.inside.shapes.keys; structs = c.self.inside.structs.items }) c.args.tag c.self.invariant.0),
  c.self.invariant.1,
  c.self.invariant.2,
)
