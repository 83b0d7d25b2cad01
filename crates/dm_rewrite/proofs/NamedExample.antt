-- A small program that reads a const object in place of a constant expression, and its unit, meet each premise of the laws.
use Rattle.std.specs.Prelude.{◌≡◌, refl, ℕ, zero, suc, [], ◌∷◌, option_map, pos}
use Rattle.std.specs.Int.Signed.{le_z_yes}
use Rattle.std.proofs.Common.{arith, inl, inr}
use Rattle.dm_int.specs.declared.Kind.TheVariants.{Int}
use Rattle.dm_tree.specs.Typing.{file_scene, IsWellTyped}
use Rattle.dm_meaning.specs.Programs.{declaration_of}
use Rattle.dm_meaning.specs.Replaced.{facts_of}
use Rattle.dm_meaning.specs.Examples.{types, constant, doubled}
use Rattle.dm_rewrite.specs.Examples.{six_read, sum_unit, named_unit, beyond_added, naming_six}
use Rattle.dm_rewrite.specs.NamedConstants.{new_of, Agrees, IsNaming, AddsObject}
use Rattle.dm_rewrite.specs.NamedUnits.{IsUnitNaming}

injective : (c d : ℕ) → beyond_added c ≡ beyond_added d → c ≡ d
injective zero zero e = refl
injective zero (suc zero) e = omega (arith, e)
injective zero (suc (suc d)) e = omega (arith, e)
injective (suc zero) zero e = omega (arith, e)
injective (suc zero) (suc zero) e = refl
injective (suc zero) (suc (suc d)) e = omega (arith, e)
injective (suc (suc c)) zero e = omega (arith, e)
injective (suc (suc c)) (suc zero) e = omega (arith, e)
injective (suc (suc c)) (suc (suc d)) e = omega (arith, e)

told : (d : ℕ) → option_map facts_of (declaration_of (new_of naming_six) (beyond_added d)) ≡ option_map facts_of (declaration_of naming_six.old d)
told zero = refl
told (suc zero) = refl
told (suc (suc zero)) = refl
told (suc (suc (suc d))) = refl

apart : (d : ℕ) → beyond_added d ≡ 2 → ⊥
apart zero e = omega (arith, e)
apart (suc zero) e = omega (arith, e)
apart (suc (suc d)) e = omega (arith, e)

typed : IsWellTyped (file_scene types sum_unit.declared) (doubled (constant 3))
typed = ((refl, refl, (refl, refl, inr refl, refl)), (((refl, (le_z_yes tt, le_z_yes tt)), tt), (((refl, (le_z_yes tt, le_z_yes tt)), tt), tt)))

agrees : Agrees naming_six six_read (doubled (constant 3))
agrees = inr (record {
  named_kind = _;
  named_spans = _;
  is = refl;
  names = refl;
  typed = refl;
  constant = record { kind = refl; value = refl; scene = file_scene types sum_unit.declared; typed = typed };
})

pub premises : IsNaming naming_six
premises = record {
  injective = injective;
  apart = apart;
  told = told;
  functions = ((refl, refl, (inl (refl, refl, tt, (inl (refl, refl, tt, (agrees, (inl (refl, refl, tt, (inl (refl, refl, tt, tt), tt)), tt))), tt)), tt)), tt);
}

pub statics : AddsObject naming_six
statics = record {
  before = _ ∷ [];
  added = _;
  behind = _ ∷ [];
  statics = refl;
  others = ((refl, refl, ((refl, refl, tt), tt)), ((refl, refl, ((refl, refl, tt), tt)), tt));
  object = record {
    declared = refl;
    kind = refl;
    initialiser = refl;
    tree = constant 6;
    expressions = refl;
    number = pos 6;
    constant = refl;
    converted = refl;
  };
}

pub unit_premises : IsUnitNaming types named_unit sum_unit beyond_added 2 Int (pos 6)
unit_premises = record {
  injective = injective;
  apart = apart;
  told = told;
  before = _ ∷ [];
  adds = _;
  behind = _ ∷ _ ∷ [];
  externals = refl;
  others = ((refl, ((refl, refl, tt), tt)), ((refl, ((refl, refl, tt), tt)), ((refl, refl, refl, refl, premises.functions.0.2, tt), tt)));
  declaration = record {
    declarator = _;
    tree = constant 6;
    form = refl;
    declared = refl;
    defines = refl;
    initialiser = refl;
    declaration = _;
    entry = refl;
    sort = refl;
    kind = refl;
    number = pos 6;
    constant = refl;
    converted = refl;
  };
}
