-- The trees and the program of the examples.
--     numbers_are_safe      a number is a safe tree of each program
use Rattle.std.specs.Prelude.{◌≡◌, refl, ℕ, true, false, None, pos}
use Rattle.std.proofs.Common.{arith, sym, subst, inl, inr}
use Rattle.std.proofs.lemmas.Bool.{false≢true}
use Rattle.std.proofs.lemmas.Int.{ints}
use Rattle.dm_int.specs.declared.Kind.TheVariants.{Int}
use Rattle.dm_type.specs.CTypes.{integer, void}
use Rattle.dm_tree.specs.Trees.{number, Tree, node, no_trees}
use Rattle.dm_meaning.specs.Among.{IsAmong}
use Rattle.dm_meaning.specs.Programs.{Definition, Program}
use Rattle.dm_meaning.specs.Values.{integer_value}
use Rattle.dm_meaning.proofs.GrowLemmas.{equal_of}
use Rattle.dm_initialised.specs.Settled.{IsSettled, IsSettledProgram}
use Rattle.dm_sound.specs.Examples.{entry, int, program, running, scene, world_with}
use Rattle.dm_sound.specs.TypedTrees.{IsTyped}
use Rattle.dm_safe.specs.Examples.{five, is_counter, is_number, none, read_counter, takes_none}
use Rattle.dm_safe.specs.Numbers.{HoldsInteger}
use Rattle.dm_safe.specs.SafePrograms.{AreSafeTrees, IsSafeTree}
use Rattle.dm_safe.specs.Spared.{TreeSpares}

pub five_typed : IsTyped program void five
five_typed = record { breaks = false; continues = false; labels = None; typed = ((refl, (omega (arith, ints), omega (arith, ints))), tt); proper = (tt, tt) }

pub reading_typed : IsTyped program void read_counter
reading_typed = record { breaks = false; continues = false; labels = None; typed = ((refl, refl, refl), (((refl, refl), tt), tt)); proper = (tt, ((tt, tt), tt)) }

counter_holds : HoldsInteger scene (world_with 5).memory 0
counter_holds = record {
  entry = entry;
  object = 7;
  block = record { kind = int; contents = integer_value Int (pos 5); alive = true; writable = true };
  declared = refl;
  integer = refl;
  named = refl;
  found = refl;
  typed = refl;
  alive = refl;
  set = refl;
}

pub holds : (d : ℕ) → is_counter d ≡ true → HoldsInteger scene (world_with 5).memory d
holds d e = subst (HoldsInteger scene (world_with 5).memory) (sym (equal_of d 0 e)) counter_holds

-- ---- the program

pub numbers_are_safe : (one : Program) (tree : Tree) → is_number tree ≡ true → IsSafeTree one (takes_none tree) tree
numbers_are_safe one (node (number z) (integer Int) at no_trees) e = record { pure = (refl, tt); form = inl (z, refl) }
numbers_are_safe one tree e = absurd (false≢true e)

pub settled : IsSettledProgram none running
settled = record { automatic = λ d e. absurd (false≢true e); functions = by_among }
  where
    by_among : (definition : Definition) → IsAmong definition running.functions → IsSettled none definition.parameters definition.body
    by_among definition (inl e) = subst (λ (one : Definition). IsSettled none one.parameters one.body) (sym e) (tt, (λ d needed. absurd (false≢true needed)), tt)
    by_among definition (inr k) = absurd k

pub safe : AreSafeTrees running none takes_none is_number
safe = record { trees = numbers_are_safe running; objects = λ tree d e. absurd (false≢true e); initialisers = by_among }
  where
    by_among : (definition : Definition) → IsAmong definition running.functions → TreeSpares none takes_none definition.body
    by_among definition (inl e) = subst (λ (one : Definition). TreeSpares none takes_none one.body) (sym e) (tt, tt)
    by_among definition (inr k) = absurd k
