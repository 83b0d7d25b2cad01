-- The parameters of a function definition, as the code goes through them.
use Rattle.std.specs.Prelude.{◌≡◌, ◌==◌, Bool, true, false, ◌&&◌, not, if◌then◌else◌, List, [], ◌∷◌, ◌++◌, length, map, is_some, refl}
use Rattle.std.proofs.Common.{sym, ap, ◌∙◌, append_assoc, ne_eqb, arith}
use Rattle.dm_type.specs.declared.shape.Shape.{Shape}
use Rattle.dm_type.specs.Tables.{Table, type_of}
use Rattle.dm_syn.specs.declared.declaration.Parameter.{Parameter as ParameterHeld}
use Rattle.dm_syn.specs.Trees.{Parameters, Parameter}
use Rattle.dm_syn.specs.Trees as tree
use Rattle.dm_syn.specs.Views as syntax
use Rattle.dm_tree.specs.Scenes.{is_void}
use Rattle.dm_typing.specs.declared.known.Known.{Known as Held}
use Rattle.dm_typing.specs.Known.{Known, Setting, Outcome, given, broken, after, with_it}
use Rattle.dm_typing.specs.Conversions.{is_complete}
use Rattle.dm_typing.specs.Typing.{TypedParameter, is_no_parameters}
use Rattle.dm_typing.specs.Views.{Begins, type_over, known_over, seen}
use Rattle.dm_typing.proofs.GivesLemmas.{obeyed, disobeyed, complete-later}
use Rattle.dm_typing.proofs.LaterLemmas.{type-later}
use Rattle.dm_edeclarator.specs.declared.declarators.TypedParameter.{TypedParameter as TypedHeld}
use Rattle.dm_edeclarator.specs.Steps.{parameter_over, ParameterFits, parameter_at as fault_at}
use Rattle.dm_edeclarator.proofs.DeclaratorStepLemmas.{void-alone}
use Rattle.dm_eexpr.proofs.LoopLemmas.{onward}
use Rattle.dm_eexpr.proofs.SyntaxViewLemmas.{view-parameter}
use Rattle.dm_edecl.specs.Units.{is_only, may_be_defined, defined_parameter, defined_parameters}
use Rattle.dm_eunit.specs.Parts.{parameter_behind}

-- ---- one parameter

-- it is void and has no name
pub none-test : (types : Table) (later : List Shape) (one : TypedHeld) → Begins types.shapes later → ParameterFits types one
    → is_no_parameters (parameter_over later one ∷ []) ≡ (is_void (type_of types one.kind) && not (is_some one.declared))
none-test types later one on inside =
    ap (λ b. b && not (is_some one.declared)) (void-alone (type_over later one.kind) ∙ ap is_void (type-later types.shapes later one.kind on inside))

module _ (held : Held) (later : List Shape) (alone : Bool) (parameter : ParameterHeld) (one : TypedHeld) where
  behind-so : Bool → Outcome TypedParameter
  behind-so test = if test then given (known_over later held) (parameter_over later one)
      else may_be_defined (known_over later held) parameter.span (syntax.declarator parameter.declarator) (parameter_over later one) (given (known_over later held) (parameter_over later one))

  pub behind-is : (test : Bool) → test ≡ (alone && is_no_parameters (parameter_over later one ∷ []))
      → parameter_behind alone (known_over later held) (syntax.parameter parameter) (parameter_over later one)
      ≡ (if test then given (known_over later held) (parameter_over later one)
      else may_be_defined (known_over later held) parameter.span (syntax.declarator parameter.declarator) (parameter_over later one) (given (known_over later held) (parameter_over later one)))
  unfolding behind-so
  behind-is test e =
      ap (λ p. parameter_behind alone (known_over later held) p (parameter_over later one)) (view-parameter parameter) ∙ ap behind-so (sym e)

  module _ (on : Begins held.types.shapes later) (inside : ParameterFits held.types one) where
    whole : is_complete (known_over later held) (type_over later one.kind) ≡ is_complete (seen held) (type_of held.types one.kind)
    whole = complete-later later held (type_over later one.kind) (type_of held.types one.kind) (type-later held.types.shapes later one.kind on inside)

    pub incomplete : false ≡ (alone && is_no_parameters (parameter_over later one ∷ [])) → is_complete (seen held) (type_of held.types one.kind) ≡ false
        → parameter_behind alone (known_over later held) (syntax.parameter parameter) (parameter_over later one) ≡ broken 5 (fault_at (syntax.parameter parameter))
    incomplete e h =
        behind-is false e ∙ disobeyed (is_complete (known_over later held) (type_over later one.kind)) 5 _ _ (whole ∙ h)
        ∙ ap (λ p. broken 5 (fault_at p)) (sym (view-parameter parameter))

    pub nameless : false ≡ (alone && is_no_parameters (parameter_over later one ∷ [])) → is_complete (seen held) (type_of held.types one.kind) ≡ true → is_some one.declared ≡ false
        → parameter_behind alone (known_over later held) (syntax.parameter parameter) (parameter_over later one) ≡ broken 35 parameter.span.first
    nameless e h k =
        behind-is false e ∙ obeyed (is_complete (known_over later held) (type_over later one.kind)) 5 _ _ (whole ∙ h) ∙ disobeyed (is_some one.declared) 35 _ _ k

    pub defined-so : false ≡ (alone && is_no_parameters (parameter_over later one ∷ [])) → is_complete (seen held) (type_of held.types one.kind) ≡ true → is_some one.declared ≡ true
        → parameter_behind alone (known_over later held) (syntax.parameter parameter) (parameter_over later one) ≡ given (known_over later held) (parameter_over later one)
    defined-so e h k =
        behind-is false e ∙ obeyed (is_complete (known_over later held) (type_over later one.kind)) 5 _ _ (whole ∙ h) ∙ obeyed (is_some one.declared) 35 _ _ k

-- ---- numbers

-- ---- all parameters

-- whether one parameter stands alone is the same for each of a list
abbrev pub all_defined : Setting → Bool → Known → Parameters → Outcome (List TypedParameter)
all_defined setting alone known tree.no_parameters = given known []
all_defined setting alone known (tree.more_parameters first others) =
    after (defined_parameter setting alone known first) (λ then_known made. with_it (all_defined setting alone then_known others) (λ behind more. made ∷ more))

rest-same : (one : Outcome TypedParameter) (rest other : Known → Outcome (List TypedParameter)) → ((known : Known) → rest known ≡ other known)
    → after one (λ then_known made. with_it (rest then_known) (λ behind more. made ∷ more)) ≡ after one (λ then_known made. with_it (other then_known) (λ behind more. made ∷ more))
rest-same (given then_known made) rest other same = ap (λ outcome. with_it outcome (λ behind more. made ∷ more)) (same then_known)
rest-same (broken rule at) rest other same = refl

not-alone : (setting : Setting) (known : Known) (parameters : Parameters) → defined_parameters setting false known parameters ≡ all_defined setting false known parameters
not-alone setting known tree.no_parameters = refl
not-alone setting known (tree.more_parameters first others) =
    rest-same (defined_parameter setting false known first) (λ then_known. defined_parameters setting false then_known others) (λ then_known. all_defined setting false then_known others)
    (λ then_known. not-alone setting then_known others)

abbrev pub is_one : Parameters → Bool
is_one tree.no_parameters = false
is_one (tree.more_parameters first others) = is_only others

pub all-defined : (setting : Setting) (known : Known) (parameters : Parameters) → defined_parameters setting true known parameters ≡ all_defined setting (is_one parameters) known parameters
all-defined setting known tree.no_parameters = refl
all-defined setting known (tree.more_parameters first tree.no_parameters) = refl
all-defined setting known (tree.more_parameters first (tree.more_parameters second others)) =
    rest-same (defined_parameter setting false known first) (λ then_known. defined_parameters setting false then_known (tree.more_parameters second others))
    (λ then_known. all_defined setting false then_known (tree.more_parameters second others)) (λ then_known. not-alone setting then_known (tree.more_parameters second others))

-- how many there are
pub one-by-length : (parameters : List ParameterHeld) → (length parameters == 1) ≡ is_one (syntax.parameters (map syntax.parameter parameters))
one-by-length [] = refl
one-by-length (first ∷ []) = refl
one-by-length (first ∷ second ∷ others) = ne_eqb (length (first ∷ second ∷ others)) 1 (λ e. omega (arith, e))

-- a loop over them
module _ (setting : Setting) (alone : Bool) (known : Known) where
  pub all-next : (before : List TypedParameter) (first : Parameter) (others : Parameters) → onward before (all_defined setting alone known (tree.more_parameters first others))
      ≡ after (defined_parameter setting alone known first) (λ then_known made. onward (before ++ made ∷ []) (all_defined setting alone then_known others))
  all-next before first others = go (defined_parameter setting alone known first)
    where
      step : (made : TypedParameter) (rest : Outcome (List TypedParameter)) → onward before (with_it rest (λ behind list. made ∷ list)) ≡ onward (before ++ made ∷ []) rest
      step made (given behind list) = ap (given behind) (sym (append_assoc before (made ∷ []) list))
      step made (broken rule at) = refl

      go : (one : Outcome TypedParameter) → onward before (after one (λ then_known made. with_it (all_defined setting alone then_known others) (λ behind list. made ∷ list)))
          ≡ after one (λ then_known made. onward (before ++ made ∷ []) (all_defined setting alone then_known others))
      go (given then_known made) = step made (all_defined setting alone then_known others)
      go (broken rule at) = refl
