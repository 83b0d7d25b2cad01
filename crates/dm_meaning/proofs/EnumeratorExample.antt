-- A small program and its unit meet each premise of the laws on enumerators.
use Rattle.std.specs.Prelude.{◌≡◌, refl, ℕ, zero, suc, option_map, pos}
use Rattle.std.specs.Int.Signed.{le_z_yes}
use Rattle.std.proofs.Common.{inl, inr}
use Rattle.dm_tree.specs.Typing.{file_scene, IsWellTyped}
use Rattle.dm_meaning.specs.Programs.{declaration_of}
use Rattle.dm_meaning.specs.Replaced.{new_of, facts_of, Agrees, IsReplacement}
use Rattle.dm_meaning.specs.ReplacedUnits.{IsUnitReplacement}
use Rattle.dm_meaning.specs.Examples.{types, constant, doubled, six, six_unit, enumerated_unit, enumerating_six, beyond_six}
use Rattle.dm_meaning.proofs.CallExample.{injective_six}

told : (d : ℕ) → option_map facts_of (declaration_of (new_of enumerating_six) (beyond_six d)) ≡ option_map facts_of (declaration_of enumerating_six.old d)
told zero = refl
told (suc d) = refl

typed : IsWellTyped (file_scene types six_unit.declared) (doubled (constant 3))
typed = ((refl, refl, (refl, refl, inr refl, refl)), (((refl, (le_z_yes tt, le_z_yes tt)), tt), (((refl, (le_z_yes tt, le_z_yes tt)), tt), tt)))

agrees : Agrees enumerating_six six (doubled (constant 3))
agrees = inr (record {
  declared = 1;
  value = pos 6;
  is = refl;
  leaf = refl;
  int = refl;
  other_int = refl;
  constant = refl;
  named = refl;
  scene = file_scene types six_unit.declared;
  typed = typed;
})

pub premises : IsReplacement enumerating_six
premises = record {
  injective = injective_six;
  told = told;
  functions = ((refl, refl, (inl (refl, refl, (agrees, tt)), tt)), tt);
  statics = tt;
}

pub unit_premises : IsUnitReplacement types enumerated_unit six_unit beyond_six
unit_premises = record {
  injective = injective_six;
  told = told;
  externals = inr (refl, inl ((refl, refl, refl, refl, (inl (refl, refl, (agrees, tt)), tt)), tt));
}
