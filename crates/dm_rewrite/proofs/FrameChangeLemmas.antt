-- What stays of a world while frames above open, run and end: `ChangesOnly` goes on from world to world, objects that are made later and die
-- again don't matter to it.
use Rattle.std.specs.Prelude.{◌≡◌, refl, ℕ, suc, ◌==◌, false, not, List, [], ◌∷◌, length, Option, Some, None, option_map, if◌then◌else◌}
use Rattle.std.proofs.Common.{true≢false, ap, sym, ◌∙◌, inl, inr}
use Rattle.dm_tree.specs.Trees.{parts_of}
use Rattle.dm_meaning.specs.declared.cause.Cause.TheVariants.{Life}
use Rattle.dm_meaning.specs.Among.{IsAmong}
use Rattle.dm_meaning.specs.Values.{Name, numbered, literal_of, elsewhere, Value}
use Rattle.dm_meaning.specs.Memory.{Memory, Block, look_up, look, new_block, changed_block, killed, value_in, or_unset, lives}
use Rattle.dm_meaning.specs.Causes.{absence_causes}
use Rattle.dm_meaning.specs.Programs.{Program, Definition, layout}
use Rattle.dm_meaning.specs.Operations.{World}
use Rattle.dm_meaning.specs.Statements.{type_declared, declared_in, made_from}
use Rattle.dm_meaning.specs.Steps.{given_from, opened_memory}
use Rattle.dm_meaning.proofs.ExtendLemmas.{look_changed, when_false}
use Rattle.dm_meaning.proofs.GrowLemmas.{differ_is, look_added}
use Rattle.dm_rewrite.specs.Effects.{Effect, Stage, ChangesOnly}
use Rattle.dm_rewrite.specs.KeptMemory.{emptied}
use Rattle.dm_rewrite.proofs.KeptLemmas.{same_absence}

-- an object that can be used has been made
pub usable_made : (memory : Memory) (n : ℕ) → absence_causes memory (numbered n) ≡ [] → look_up memory n ≡ None → ⊥
usable_made memory n e f = true≢false (ap (λ o. not (lives o)) (sym f) ∙ when_false Life (not (lives (look_up memory n))) e)

-- one world after another
pub changes_join : (stage : Stage) (effects : List Effect) (a b c : World) → ChangesOnly stage effects a b → ChangesOnly stage effects b c → ChangesOnly stage effects a c
changes_join stage effects a b c h k = record {
  same_objects = λ name e. k.same_objects name (there name e) ∙ h.same_objects name e;
  same = λ at n f free e. k.same at n f free (there at.name e) ∙ h.same at n f free e;
}
  where
    there : (name : Name) → absence_causes a.memory name ≡ [] → absence_causes b.memory name ≡ []
    there name e = same_absence a.memory b.memory name (h.same_objects name e) ∙ e

-- memories that differ in objects alone that weren't there
abbrev pub DiffersBeyond : Memory → Memory → Memory → Type 0
DiffersBeyond start memory later = (n : ℕ) → (look_up start n ≡ None → ⊥) → look_up later n ≡ look_up memory n

changes_beyond : (stage : Stage) (effects : List Effect) (start world : World) (later : Memory) → DiffersBeyond start.memory world.memory later
    → ChangesOnly stage effects start world → ChangesOnly stage effects start (record world { memory = later })
changes_beyond stage effects start world later d k = record {
  same_objects = λ name e. by_name name e ∙ k.same_objects name e;
  same = λ at n f free e.
      ap (λ name. or_unset (value_in at.path (look later name))) f
      ∙ ap (λ o. or_unset (value_in at.path o)) (d n (λ g. usable_made start.memory n (ap (absence_causes start.memory) (sym f) ∙ e) g))
      ∙ sym (ap (λ name. or_unset (value_in at.path (look world.memory name))) f)
      ∙ k.same at n f free e;
}
  where
    by_name : (name : Name) → absence_causes start.memory name ≡ [] → emptied (look later name) ≡ emptied (look world.memory name)
    by_name (numbered n) e = ap emptied (d n (λ g. usable_made start.memory n e g))
    by_name (literal_of bytes unit) e = refl
    by_name (elsewhere identifier) e = refl

-- objects are made
beyond_added : (start memory : Memory) (m : ℕ) (block : Block) → look_up start m ≡ None → DiffersBeyond start memory ((m, block) ∷ memory)
beyond_added start memory m block free n made = look_added m block memory n (λ e. made (ap (look_up start) (sym e) ∙ free))

beyond_join : (start a b c : Memory) → DiffersBeyond start a b → DiffersBeyond start b c → DiffersBeyond start a c
beyond_join start a b c h k n made = k n made ∙ h n made

beyond_made : (program : Program) (names : ℕ → ℕ) (i : ℕ) (ds : List ℕ) (start memory : Memory) → ((j : ℕ) → look_up start (names j) ≡ None)
    → DiffersBeyond start memory (made_from program names i ds memory)
beyond_made program names i [] start memory fresh n made = refl
beyond_made program names i (d ∷ ds) start memory fresh n made =
    beyond_made program names (suc i) ds start ((names i, new_block (layout program) (type_declared program d)) ∷ memory) fresh n made
    ∙ beyond_added start memory (names i) (new_block (layout program) (type_declared program d)) (fresh i) n made

beyond_given : (program : Program) (names : ℕ → ℕ) (i : ℕ) (ds : List ℕ) (values : List Value) (start memory : Memory) → ((j : ℕ) → look_up start (names j) ≡ None)
    → DiffersBeyond start memory (given_from program names i ds values memory)
beyond_given program names i [] values start memory fresh n made = refl
beyond_given program names i (d ∷ ds) [] start memory fresh n made =
    beyond_given program names (suc i) ds [] start ((names i, new_block (layout program) (type_declared program d)) ∷ memory) fresh n made
    ∙ beyond_added start memory (names i) (new_block (layout program) (type_declared program d)) (fresh i) n made
beyond_given program names i (d ∷ ds) (value ∷ values) start memory fresh n made =
    beyond_given program names (suc i) ds values start ((names i, record (new_block (layout program) (type_declared program d)) { contents = value }) ∷ memory) fresh n made
    ∙ beyond_added start memory (names i) (record (new_block (layout program) (type_declared program d)) { contents = value }) (fresh i) n made

-- A frame opens: to whoever waits below, nothing happened.
pub changes_opened : (stage : Stage) (effects : List Effect) (start world : World) (program : Program) (names : ℕ → ℕ) (definition : Definition) (arguments : List Value)
    → ((j : ℕ) → look_up start.memory (names j) ≡ None)
    → ChangesOnly stage effects start world → ChangesOnly stage effects start (record world { memory = opened_memory program names definition arguments world.memory })
changes_opened stage effects start world program names definition arguments fresh k =
    changes_beyond stage effects start world (opened_memory program names definition arguments world.memory)
    (beyond_join start.memory world.memory (given_from program names 0 definition.parameters arguments world.memory) (opened_memory program names definition arguments world.memory)
    (beyond_given program names 0 definition.parameters arguments start.memory world.memory fresh)
    (beyond_made program names (length definition.parameters) (declared_in program (parts_of definition.body)) start.memory (given_from program names 0 definition.parameters arguments world.memory) fresh)) k

-- objects die that weren't there
beyond_killed : (start : Memory) (ns : List ℕ) (memory : Memory) → ((n : ℕ) → IsAmong n ns → look_up start n ≡ None) → DiffersBeyond start memory (killed ns memory)
beyond_killed start [] memory gone n made = refl
beyond_killed start (m ∷ ns) memory gone n made =
    beyond_killed start ns (changed_block m (λ block. record block { alive = false }) memory) (λ x k. gone x (inr k)) n made
    ∙ look_changed m (λ block. record block { alive = false }) memory n
    ∙ by_found (look_up memory n)
  where
    by_found : (o : Option Block) → option_map (λ block. if n == m then record block { alive = false } else block) o ≡ o
    by_found None = refl
    by_found (Some block) = ap (λ b. Some (if b then record block { alive = false } else block)) (differ_is n m (λ e. made (ap (look_up start) e ∙ gone m (inl refl))))

-- A frame, or a block in it, ends.
pub changes_ended : (stage : Stage) (effects : List Effect) (start world : World) (ns : List ℕ) → ((n : ℕ) → IsAmong n ns → look_up start.memory n ≡ None)
    → ChangesOnly stage effects start world
    → ChangesOnly stage effects start (record world { memory = killed ns world.memory })
changes_ended stage effects start world ns gone k = changes_beyond stage effects start world (killed ns world.memory) (beyond_killed start.memory ns world.memory gone) k
