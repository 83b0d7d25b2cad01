-- Initialisers of one expression, as the code makes them.
use Rattle.std.specs.Prelude.{◌≡◌, ℕ, Bool, true, false, ◌||◌, not, if◌then◌else◌, is_some, Result, Ok, Err, IsErrAnd, refl}
use Rattle.std.proofs.Common.{sym, ap, ◌∙◌, subst}
use Rattle.dm_token.specs.declared.stop.Stop.{Stop}
use Rattle.dm_type.specs.CTypes.{CType}
use Rattle.dm_syn.specs.Sources.{Source}
use Rattle.dm_syn.specs.Trees.{Expr}
use Rattle.dm_tree.specs.Scenes.{is_scalar}
use Rattle.dm_tree.specs.Trees.{Tree}
use Rattle.dm_typing.specs.Known.{Known, Setting, Outcome, given, broken, obeys, after, with_it}
use Rattle.dm_typing.specs.Conversions.{as_value, as_type, constant_of, is_null}
use Rattle.dm_typing.specs.Rules.{is_assignable}
use Rattle.dm_typing.specs.Views.{Gives}
use Rattle.dm_edecl.specs.Initialising.{First, single, braced, is_constant_expression, is_address_constant, is_static_value, has_value, is_string_for, scalar_initialised, initialised_by, zero_initialised}
use Rattle.dm_einitial.specs.Steps.{rule_by, value_unless, scalar_value}
use Rattle.dm_edeclarator.proofs.ReachLemmas.{fails-with}

-- ---- static storage

any-first : (a b c : Bool) → a ≡ true → (a || b || c) ≡ true
any-first true b c h = refl
any-first false b c h = absurd (cc)

any-second : (a b c : Bool) → a ≡ false → b ≡ true → (a || b || c) ≡ true
any-second true b c unlike h = absurd (cc)
any-second false true c unlike h = refl
any-second false false c unlike h = absurd (cc)

any-third : (a b c : Bool) → a ≡ false → b ≡ false → (a || b || c) ≡ c
any-third true b c unlike neither = absurd (cc)
any-third false true c unlike neither = absurd (cc)
any-third false false c unlike neither = refl

module _ (known : Known) (tree : Tree) where
  pub static-constant : is_constant_expression known tree ≡ true → is_static_value known tree ≡ true
  static-constant h = any-first _ (is_null known tree) (is_address_constant known tree) h

  pub static-null : is_constant_expression known tree ≡ false → is_null known tree ≡ true → is_static_value known tree ≡ true
  static-null unlike h = any-second _ _ (is_address_constant known tree) unlike h

  pub static-address : is_constant_expression known tree ≡ false → is_null known tree ≡ false → is_static_value known tree ≡ is_address_constant known tree
  static-address unlike neither = any-third _ _ (is_address_constant known tree) unlike neither

  pub value-none : is_constant_expression known tree ≡ false → has_value known tree ≡ true
  value-none unlike = ap (λ a. not a || is_some (constant_of known tree)) unlike

  pub value-some : is_constant_expression known tree ≡ true → has_value known tree ≡ is_some (constant_of known tree)
  value-some h = ap (λ a. not a || is_some (constant_of known tree)) h

-- ---- what a step hands on

pub handed-with : {A B C D : Type 0} (view : A → B) (seen : C → D) (source : Source) (behind known : Known) (result : Result C Stop) (fault : Stop) (outcome : Outcome B) (made : Known → B → D)
    → IsErrAnd result (λ e. e ≡ fault) → Gives view source behind (Err fault) outcome → Gives seen source known result (with_it outcome made)
handed-with view seen source behind known (Ok it) fault outcome made handed g = absurd handed
handed-with view seen source behind known (Err e) fault outcome made handed g =
    subst (λ s. Gives seen source known (Err s) (with_it outcome made)) (sym handed) (fails-with view seen source behind known fault outcome made g)

-- ---- one expression

module _ (known : Known) (fixed : Bool) (type : CType) (here : ℕ) (value : Tree) where
  by-tests : (a b c : Bool) → obeys a 8 here (obeys b 28 here (obeys c 30 here (given known (single (as_type type value)))))
      ≡ with_it (value_unless (rule_by a b c) known type here value) (λ behind tree. single tree)
  by-tests false b c = refl
  by-tests true false c = refl
  by-tests true true false = refl
  by-tests true true true = refl

  pub scalar-is : scalar_initialised known fixed type here value ≡ with_it (scalar_value known fixed type here value) (λ behind tree. single tree)
  scalar-is = by-tests (not fixed || is_static_value known value) (is_assignable known value type) (not fixed || has_value known value)

  -- the 0 of a list
  after-with : (depth : ℕ) (outcome : Outcome Tree) → after (with_it outcome (λ behind tree. single tree)) (λ behind one. given behind (braced depth one)) ≡ with_it outcome (λ behind tree. braced depth (single tree))
  after-with depth (given behind tree) = refl
  after-with depth (broken rule at) = refl

pub zero-is : (known : Known) (fixed : Bool) (first : First) (here : ℕ) (value : Tree)
    → zero_initialised known fixed first here value ≡ with_it (scalar_value known fixed first.kind here value) (λ behind tree. braced first.depth (single tree))
zero-is known fixed first here value =
    ap (λ o. after o (λ behind one. given behind (braced first.depth one))) (scalar-is known fixed first.kind here value)
    ∙ after-with known fixed first.kind here value first.depth (scalar_value known fixed first.kind here value)

module _ (setting : Setting) (known : Known) (fixed : Bool) (type : CType) (here : ℕ) (expr : Expr) (tree : Tree) where
  pub by-scalar : is_scalar type ≡ true → initialised_by setting known fixed type here expr tree ≡ scalar_initialised known fixed type here (as_value tree)
  by-scalar h = ap (λ b. if b then scalar_initialised known fixed type here (as_value tree) else obeys (is_string_for setting expr type) 8 here (given known (single tree))) h

  pub by-string : is_scalar type ≡ false → (test : Bool) → is_string_for setting expr type ≡ test → initialised_by setting known fixed type here expr tree ≡ obeys test 8 here (given known (single tree))
  by-string h test string =
      ap (λ b. if b then scalar_initialised known fixed type here (as_value tree) else obeys (is_string_for setting expr type) 8 here (given known (single tree))) h
      ∙ ap (λ b. obeys b 8 here (given known (single tree))) string
