-- Objects that hold a value that was set go on to do so.
use Rattle.std.specs.Prelude.{◌≡◌, refl, ℕ, ◌==◌, Bool, true, false, List, [], ◌∷◌, option_map, if◌then◌else◌}
use Rattle.std.proofs.Common.{ap, ◌∙◌}
use Rattle.dm_meaning.specs.Values.{Name, numbered, literal_of, elsewhere, part, past, Path, At, Value, with_part}
use Rattle.dm_meaning.specs.Memory.{Memory, Block, changed_block, written, killed}
use Rattle.dm_meaning.specs.Causes.{is_unset}
use Rattle.dm_meaning.proofs.ExtendLemmas.{look_changed}
use Rattle.dm_sound.specs.TypedValues.{StaySet}

pub stay_same : (memory : Memory) → StaySet memory memory
stay_same memory n h = h

pub stay_then : (memory other later : Memory) → StaySet memory other → StaySet other later → StaySet memory later
stay_then memory other later h k n s = k n (h n s)

set_if : (b : Bool) (change : Block → Block) (block : Block) → is_unset block.contents ≡ false → is_unset (change block).contents ≡ false → is_unset (if b then change block else block).contents ≡ false
set_if true change block h k = k
set_if false change block h k = h

stay_changed : (m : ℕ) (change : Block → Block) (memory : Memory) → ((block : Block) → is_unset block.contents ≡ false → is_unset (change block).contents ≡ false) → StaySet memory (changed_block m change memory)
stay_changed m change memory h n s = (
  if n == m then change s.0 else s.0,
  look_changed m change memory n ∙ ap (option_map (λ (x : Block). if n == m then change x else x)) s.1,
  set_if (n == m) change s.0 s.2 (h s.0 s.2),
)

stored_set : (path : Path) (new value : Value) → is_unset new ≡ false → is_unset value ≡ false → is_unset (with_part path new value) ≡ false
stored_set [] new value h k = h
stored_set (past ∷ path) new value h k = k
stored_set (part n ∷ path) new value h k = refl

stay_written_in : (name : Name) (path : Path) (value : Value) (memory : Memory) → is_unset value ≡ false → StaySet memory (written memory (record { name = name; path = path }) value)
stay_written_in (numbered m) path value memory h = stay_changed m (λ (block : Block). record block { contents = with_part path value block.contents }) memory (λ block k. stored_set path value block.contents h k)
stay_written_in (literal_of bytes unit) path value memory h = stay_same memory
stay_written_in (elsewhere identifier) path value memory h = stay_same memory

pub stay_written : (at : At) (value : Value) (memory : Memory) → is_unset value ≡ false → StaySet memory (written memory at value)
stay_written at value memory h = stay_written_in at.name at.path value memory h

pub stay_killed : (ns : List ℕ) (memory : Memory) → StaySet memory (killed ns memory)
stay_killed [] memory = stay_same memory
stay_killed (m ∷ ns) memory =
    let end : Block → Block = λ block. record block { alive = false } in
    stay_then memory (changed_block m end memory) (killed ns (changed_block m end memory)) (stay_changed m end memory (λ block h. h)) (stay_killed ns (changed_block m end memory))
