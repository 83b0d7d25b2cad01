-- Declarators and specifiers that are read are well formed, where what reads their parts gives well-formed parts.
use Rattle.std.proofs.Common.{◌≡◌, ℕ, zero, suc, ◌+◌, Bool, true, false, not, ◌&&◌, ◌||◌, ⊎_elim, List, [], ◌∷◌, ◌++◌, Option, Some, None, refl, sym, ap, ◌∙◌, subst, arith, length, if◌then◌else◌}
use Rattle.dm_token.specs.Limits.{greatest_height}
use Rattle.dm_syn.specs.declared.declared.Declared.{Declared}
use Rattle.dm_syn.specs.declared.symbol.Symbol.{Symbol}
use Rattle.dm_syn.specs.declared.symbol.Symbol.TheVariants as symbol
use Rattle.dm_syn.specs.Symbols.{is, is_identifier}
use Rattle.dm_syn.specs.Sources.{Source, symbol_in}
use Rattle.dm_syn.specs.Trees.{Expr, Specifiers, Words, Specifier, Members, Member, Declarators, Enumerators, Enumerator, Declarator, Direct, Parameters, Parameter}
use Rattle.dm_syn.specs.Trees as tree
use Rattle.dm_syn.specs.Spans.{specifiers_span, declarator_span, parameter_span, pointers_after, direct_after}
use Rattle.dm_syn.specs.Scopes.{declarator_name, direct_name, specifiers_declares, direct_declares, parameter_declares}
use Rattle.dm_syn.specs.Heights.{is_absent}
use Rattle.dm_syn.specs.Grammar.{IsNotEmpty, MayBeEnclosed, AreConsts, ArePointers, IsSpecifiers, IsDeclarator, IsDirect, AreParameters, AreMoreParameters, IsParameter}
use Rattle.dm_pexpr.specs.Parsing.{Parts, Shape, named, abstract, of_parameter, all_turns, and_then, consts, pointers, parameter_of, parameter_from, parameter_with, prepend_parameter, more_parameters_from, more_parameters, parameters_of, enclosed_from, encloses, takes_name, nothing, core, sized_from, function_from, array_of, function_of, suffixed, declarator_with, declarator_of}
use Rattle.dm_pexpr.proofs.Declarators.{of_a_parameter, HasShape}
use Rattle.dm_pexpr.proofs.SymbolTests.{is-it}
use Rattle.dm_pexpr.proofs.Soundness.{GivesFormed, inside, where-some, checked-some, branch, both-hold}

-- one more `const`
one-more : (source : Source) (names : List Declared) (at count : ℕ) → symbol_in source names at ≡ symbol.Const → AreConsts source names (at + 1) count → AreConsts source names at (count + 1)
one-more source names at count c h = subst (AreConsts source names at) (let e : suc count ≡ count + 1 = omega arith in e) (c, h)

consts-if : (source : Source) (names : List Declared) (at count : ℕ) (test : Bool) → is (symbol_in source names at) symbol.Const ≡ test → AreConsts source names (at + 1) count
    → AreConsts source names at (if test then count + 1 else 0)
consts-if source names at count true t h = one-more source names at count (is-it _ symbol.Const t) h
consts-if source names at count false t h = tt

-- `const`, so many
consts-formed : (source : Source) (names : List Declared) (turns at : ℕ) → AreConsts source names at (consts source names turns at)
unfolding consts
consts-formed source names zero at = tt
consts-formed source names (suc turns) at =
    consts-if source names at (consts source names turns (at + 1)) (is (symbol_in source names at) symbol.Const) refl (consts-formed source names turns (at + 1))

pointers-if : (source : Source) (names : List Declared) (at count : ℕ) (rest : List ℕ) (test : Bool) → is (symbol_in source names at) symbol.Star ≡ test
    → AreConsts source names (at + 1) count → ArePointers source names (at + 1 + count) rest → ArePointers source names at (if test then count ∷ rest else [])
pointers-if source names at count rest true t c h = (is-it _ symbol.Star t, c, h)
pointers-if source names at count rest false t c h = tt

pointers-formed : (source : Source) (names : List Declared) (turns at : ℕ) → ArePointers source names at (pointers source names turns at)
unfolding pointers
pointers-formed source names zero at = tt
pointers-formed source names (suc turns) at =
    pointers-if source names at (consts source names (all_turns source) (at + 1)) (pointers source names turns (at + 1 + consts source names (all_turns source) (at + 1)))
    (is (symbol_in source names at) symbol.Star) refl (consts-formed source names (all_turns source) (at + 1))
    (pointers-formed source names turns (at + 1 + consts source names (all_turns source) (at + 1)))

-- a parenthesis that encloses a declarator doesn't begin a parameter list
may-enclose : (shape : Shape) (next : Symbol) → encloses shape next ≡ true → MayBeEnclosed (of_a_parameter shape) next
may-enclose named next h = tt
may-enclose abstract next h = tt
may-enclose of_parameter next h =
    λ (e : next ≡ symbol.TypedefName). let differs : false ≡ true = sym (ap (λ (it : Symbol). encloses of_parameter it) e) ∙ h in cc

some-there : (it : Declarator) → not (is_absent it) ≡ true → IsNotEmpty it
some-there (tree.shaped span [] tree.absent) h = absurd (cc)
some-there (tree.shaped span [] (tree.declared name)) h = tt
some-there (tree.shaped span [] (tree.enclosed declarator)) h = tt
some-there (tree.shaped span [] (tree.array direct)) h = tt
some-there (tree.shaped span [] (tree.sized direct length)) h = tt
some-there (tree.shaped span [] (tree.function direct parameters)) h = tt
some-there (tree.shaped span (consts ∷ others) direct) h = tt

module _ (source : Source) (parts : Parts) (formed : GivesFormed source parts) where
  -- parameters
  parameter-with-formed : (names : List Declared) (at : ℕ) (specifiers : Specifiers) (found : Option Declarator) (it : Parameter)
      → IsSpecifiers source names specifiers → (specifiers_span specifiers).first ≡ at
      → parts.declarator of_parameter (specifiers_declares source specifiers ++ names) (specifiers_span specifiers).after ≡ found
      → parameter_with at specifiers found ≡ Some it → IsParameter source names it × ((parameter_span it).first ≡ at)
  unfolding IsParameter
  parameter-with-formed names at specifiers None it s p e h = absurd (cc)
  parameter-with-formed names at specifiers (Some declarator) it s p e h =
      let one = formed.declarator of_parameter (specifiers_declares source specifiers ++ names) (specifiers_span specifiers).after declarator e in
      subst (λ (this : Parameter). IsParameter source names this × ((parameter_span this).first ≡ at)) (inside _ _ h) ((p, s, one.1, one.0, refl), refl)

  parameter-from-formed : (names : List Declared) (at : ℕ) (found : Option Specifiers) (it : Parameter) → parts.specifiers names at ≡ found
      → parameter_from source parts names at found ≡ Some it → IsParameter source names it × ((parameter_span it).first ≡ at)
  parameter-from-formed names at None it e h = absurd (cc)
  parameter-from-formed names at (Some specifiers) it e h =
      let one = formed.specifiers names at specifiers e in
      parameter-with-formed names at specifiers _ it one.0 one.1 refl h

  parameter-formed : (names : List Declared) (at : ℕ) (it : Parameter) → parameter_of source parts names at ≡ Some it → IsParameter source names it × ((parameter_span it).first ≡ at)
  unfolding parameter_of
  parameter-formed names at it h = parameter-from-formed names at _ it refl h

  parameter-before : (first : Parameter) (rest : Option Parameters) (it : Parameters) → prepend_parameter first rest ≡ Some it → (others : Parameters) × (rest ≡ Some others) × (tree.more_parameters first others ≡ it)
  parameter-before first None it h = absurd (cc)
  parameter-before first (Some others) it h = (others, refl, inside _ _ h)

  parameters-taken : (others : Parameter → Option Parameters) (found : Option Parameter) (it : Parameters) → more_parameters_from others found ≡ Some it
      → (first : Parameter) × (found ≡ Some first) × (rest : Parameters) × (others first ≡ Some rest) × (tree.more_parameters first rest ≡ it)
  parameters-taken others None it h = absurd (cc)
  parameters-taken others (Some first) it h = let rest = parameter-before first (others first) it h in (first, refl, rest.0, rest.1, rest.2)

  more-parameters-formed : (turns : ℕ) (names : List Declared) (at : ℕ) (it : Parameters) → more_parameters source parts turns names at ≡ Some it → AreMoreParameters source names at it
  unfolding more_parameters AreMoreParameters
  more-parameters-formed zero names at it h = subst (AreMoreParameters source names at) (inside _ _ h) tt
  more-parameters-formed (suc turns) names at it h =
      ⊎_elim
      (λ goes.
      let all = parameters-taken (λ first. more_parameters source parts turns (parameter_declares source first ++ names) (parameter_span first).after) (parameter_of source parts names (at + 1)) it goes.1 in
      let one = parameter-formed names (at + 1) all.0 all.1 in
      subst (AreMoreParameters source names at) all.4
      (is-it _ symbol.Comma goes.0, one.1, one.0, more-parameters-formed turns (parameter_declares source all.0 ++ names) (parameter_span all.0).after all.2 all.3))
      (λ ends. subst (AreMoreParameters source names at) (inside _ _ ends.1) tt)
      (branch (is (symbol_in source names at) symbol.Comma) _ _ it h)

  parameters-formed : (names : List Declared) (at : ℕ) (it : Parameters) → parameters_of source parts names at ≡ Some it → AreParameters source names at it
  unfolding parameters_of AreParameters
  parameters-formed names at it h =
      ⊎_elim
      (λ none. subst (AreParameters source names at) (inside _ _ none.1) tt)
      (λ some.
      let all = parameters-taken (λ first. more_parameters source parts (all_turns source) (parameter_declares source first ++ names) (parameter_span first).after) (parameter_of source parts names at) it some.1 in
      let one = parameter-formed names at all.0 all.1 in
      subst (AreParameters source names at) all.4
      (one.1, one.0, more-parameters-formed (all_turns source) (parameter_declares source all.0 ++ names) (parameter_span all.0).after all.2 all.3))
      (branch (is (symbol_in source names at) symbol.RightParen) _ _ it h)

  -- a direct declarator of a shape at a place
  StandsDirect : Shape → List Declared → ℕ → Direct → Type 0
  StandsDirect shape names at it = IsDirect source names (of_a_parameter shape) at it × HasShape shape (direct_name it)

  enclosed-formed : (shape : Shape) (names : List Declared) (at : ℕ) (found : Option Declarator) (it : Direct) → symbol_in source names at ≡ symbol.LeftParen
      → encloses shape (symbol_in source names (at + 1)) ≡ true → parts.declarator shape names (at + 1) ≡ found
      → enclosed_from source names found ≡ Some it → StandsDirect shape names at it
  unfolding IsDirect StandsDirect
  enclosed-formed shape names at None it s c e h = absurd (cc)
  enclosed-formed shape names at (Some declarator) it s c e h =
      let one = formed.declarator shape names (at + 1) declarator e in
      let ends = where-some _ _ it h in
      let both = both-hold _ _ ends.0 in
      subst (StandsDirect shape names at) (checked-some _ (tree.enclosed declarator) it ends.1)
      ((s, may-enclose shape _ c, one.1, one.0, some-there declarator both.0, is-it _ symbol.RightParen both.1), one.2)

  nothing-formed : (shape : Shape) (names : List Declared) (at : ℕ) (it : Direct) → nothing shape ≡ Some it → StandsDirect shape names at it
  unfolding IsDirect StandsDirect
  nothing-formed named names at it h = absurd (cc)
  nothing-formed abstract names at it h = subst (StandsDirect abstract names at) (inside _ _ h) (tt, refl)
  nothing-formed of_parameter names at it h = subst (StandsDirect of_parameter names at) (inside _ _ h) (tt, tt)

  shape-of-name : (shape : Shape) (name : ℕ) → takes_name shape ≡ true → HasShape shape (Some name)
  shape-of-name named name h = refl
  shape-of-name abstract name h = absurd (cc)
  shape-of-name of_parameter name h = tt

  core-formed : (shape : Shape) (names : List Declared) (at : ℕ) (it : Direct) → core source parts shape names at ≡ Some it → StandsDirect shape names at it
  unfolding IsDirect StandsDirect core
  core-formed shape names at it h =
      ⊎_elim
      (λ name. let both = both-hold _ _ name.0 in subst (StandsDirect shape names at) (inside _ _ name.1) ((refl, both.1), shape-of-name shape at both.0))
      (λ other.
      ⊎_elim
      (λ paren. let both = both-hold _ _ paren.0 in enclosed-formed shape names at _ it (is-it _ symbol.LeftParen both.0) both.1 refl paren.1)
      (λ none. nothing-formed shape names at it none.1)
      (branch (is (symbol_in source names at) symbol.LeftParen && encloses shape (symbol_in source names (at + 1))) _ _ it other.1))
      (branch (takes_name shape && is_identifier (symbol_in source names at)) _ _ it h)

  sized-formed : (shape : Shape) (names : List Declared) (at : ℕ) (direct : Direct) (found : Option Expr) (it : Direct) → StandsDirect shape names at direct
      → symbol_in source (direct_declares source direct ++ names) (direct_after at direct) ≡ symbol.LeftBracket
      → parts.expr 2 (direct_declares source direct ++ names) (direct_after at direct + 1) ≡ found
      → sized_from source (direct_declares source direct ++ names) direct found ≡ Some it → StandsDirect shape names at it
  unfolding IsDirect StandsDirect
  sized-formed shape names at direct None it d s e h = absurd (cc)
  sized-formed shape names at direct (Some length) it d s e h =
      let one = formed.expr 2 (direct_declares source direct ++ names) (direct_after at direct + 1) length e in
      let ends = where-some _ _ it h in
      subst (StandsDirect shape names at) (checked-some _ (tree.sized direct length) it ends.1) ((d.0, s, one.1, one.0, one.2, is-it _ symbol.RightBracket ends.0), d.1)

  array-formed : (shape : Shape) (names : List Declared) (at : ℕ) (direct it : Direct) → StandsDirect shape names at direct
      → symbol_in source (direct_declares source direct ++ names) (direct_after at direct) ≡ symbol.LeftBracket
      → array_of source parts (direct_declares source direct ++ names) (direct_after at direct + 1) direct ≡ Some it → StandsDirect shape names at it
  unfolding IsDirect StandsDirect array_of
  array-formed shape names at direct it d s h =
      ⊎_elim (λ none. subst (StandsDirect shape names at) (checked-some _ _ it none.1) ((d.0, s, is-it _ symbol.RightBracket none.0), d.1))
      (λ some. sized-formed shape names at direct _ it d s refl some.1)
      (branch (is (symbol_in source (direct_declares source direct ++ names) (direct_after at direct + 1)) symbol.RightBracket) _ _ it h)

  function-from-formed : (shape : Shape) (names : List Declared) (at : ℕ) (direct : Direct) (found : Option Parameters) (it : Direct) → StandsDirect shape names at direct
      → symbol_in source (direct_declares source direct ++ names) (direct_after at direct) ≡ symbol.LeftParen
      → parameters_of source parts (direct_declares source direct ++ names) (direct_after at direct + 1) ≡ found
      → function_from source (direct_declares source direct ++ names) (direct_after at direct + 1) direct found ≡ Some it → StandsDirect shape names at it
  unfolding IsDirect StandsDirect
  function-from-formed shape names at direct None it d s e h = absurd (cc)
  function-from-formed shape names at direct (Some parameters) it d s e h =
      let those = parameters-formed (direct_declares source direct ++ names) (direct_after at direct + 1) parameters e in
      let ends = where-some _ _ it h in
      subst (StandsDirect shape names at) (checked-some _ (tree.function direct parameters) it ends.1) ((d.0, s, those, is-it _ symbol.RightParen ends.0), d.1)

  function-formed : (shape : Shape) (names : List Declared) (at : ℕ) (direct it : Direct) → StandsDirect shape names at direct
      → symbol_in source (direct_declares source direct ++ names) (direct_after at direct) ≡ symbol.LeftParen
      → function_of source parts (direct_declares source direct ++ names) (direct_after at direct + 1) direct ≡ Some it → StandsDirect shape names at it
  unfolding function_of
  function-formed shape names at direct it d s h = function-from-formed shape names at direct _ it d s refl h

  direct-taken : (next : Direct → Option Direct) (found : Option Direct) (it : Direct) → and_then next found ≡ Some it → (one : Direct) × (found ≡ Some one) × (next one ≡ Some it)
  direct-taken next None it h = absurd (cc)
  direct-taken next (Some one) it h = (one, refl, h)

  suffixed-formed : (turns : ℕ) (shape : Shape) (names : List Declared) (at : ℕ) (direct it : Direct) → StandsDirect shape names at direct
      → suffixed source parts names at turns direct ≡ Some it → StandsDirect shape names at it
  unfolding suffixed
  suffixed-formed zero shape names at direct it d h =
      ⊎_elim (λ more. absurd (cc more.1)) (λ ends. subst (StandsDirect shape names at) (inside _ _ ends.1) d)
      (branch (is (symbol_in source (direct_declares source direct ++ names) (direct_after at direct)) symbol.LeftBracket
      || is (symbol_in source (direct_declares source direct ++ names) (direct_after at direct)) symbol.LeftParen) _ _ it h)
  suffixed-formed (suc turns) shape names at direct it d h =
      ⊎_elim
      (λ array.
      let next = direct-taken (suffixed source parts names at turns) _ it array.1 in
      suffixed-formed turns shape names at next.0 it (array-formed shape names at direct next.0 d (is-it _ symbol.LeftBracket array.0) next.1) next.2)
      (λ other.
      ⊎_elim
      (λ function.
      let next = direct-taken (suffixed source parts names at turns) _ it function.1 in
      suffixed-formed turns shape names at next.0 it (function-formed shape names at direct next.0 d (is-it _ symbol.LeftParen function.0) next.1) next.2)
      (λ ends. subst (StandsDirect shape names at) (inside _ _ ends.1) d)
      (branch (is (symbol_in source (direct_declares source direct ++ names) (direct_after at direct)) symbol.LeftParen) _ _ it other.1))
      (branch (is (symbol_in source (direct_declares source direct ++ names) (direct_after at direct)) symbol.LeftBracket) _ _ it h)

  declarator-with-formed : (shape : Shape) (names : List Declared) (at : ℕ) (stars : List ℕ) (found : Option Direct) (it : Declarator) → ArePointers source names at stars
      → ((direct : Direct) → found ≡ Some direct → StandsDirect shape names (pointers_after at stars) direct)
      → declarator_with at stars found ≡ Some it → IsDeclarator source names (of_a_parameter shape) it × ((declarator_span it).first ≡ at) × HasShape shape (declarator_name it)
  unfolding IsDeclarator StandsDirect
  declarator-with-formed shape names at stars None it p d h = absurd (cc)
  declarator-with-formed shape names at stars (Some direct) it p d h =
      let one = d direct refl in
      subst (λ (this : Declarator). IsDeclarator source names (of_a_parameter shape) this × ((declarator_span this).first ≡ at) × HasShape shape (declarator_name this))
      (checked-some _ _ it h) ((p, one.0, refl), refl, one.1)

  -- A declarator that is read is well formed.
  pub declarator-formed : (shape : Shape) (names : List Declared) (at : ℕ) (it : Declarator) → declarator_of source parts shape names at ≡ Some it
      → IsDeclarator source names (of_a_parameter shape) it × ((declarator_span it).first ≡ at) × HasShape shape (declarator_name it)
  unfolding declarator_of
  declarator-formed shape names at it h =
      declarator-with-formed shape names at (pointers source names (all_turns source) at) _ it (pointers-formed source names (all_turns source) at)
      (λ direct e.
      let next = direct-taken (suffixed source parts names (pointers_after at (pointers source names (all_turns source) at)) greatest_height) _ direct e in
      suffixed-formed greatest_height shape names (pointers_after at (pointers source names (all_turns source) at)) next.0 direct
      (core-formed shape names (pointers_after at (pointers source names (all_turns source) at)) next.0 next.1) next.2)
      h
