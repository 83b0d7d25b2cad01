-- Trees of aligned units, where calls of the added function stand in place of runs.
--     AddsFunction change added      what is put in is the function
--     IsAddedEntry declared f parameters      its declaration
use Rattle.std.specs.Prelude.{◌≡◌, refl, ◌⊎◌, ℕ, zero, suc, ◌+◌, Bool, true, false, ◌||◌, ◌&&◌, ◌==◌, IsTrue, IfSome, IsSome, cond, All, List, [], ◌∷◌, length, filter, flat_map, Option, Some, None, option_map, slice_get, if◌then◌else◌}
use Rattle.std.proofs.Common.{arith, ap, sym, ◌∙◌, subst, inl, inr}
use Rattle.std.proofs.lemmas.Bool.{true≢false, false≢true}
use Rattle.dm_token.specs.declared.place.Span.{Span}
use Rattle.dm_runs.specs.declared.run.Run.{Run}
use Rattle.dm_type.specs.CTypes.{CType, CTypes, void, integer, pointer, array, struct, function as function_type, const, no_types, more_types, bare}
use Rattle.dm_type.specs.Tables.{Table}
use Rattle.dm_tree.specs.Composites.{covers, cover_parameters}
use Rattle.dm_tree.specs.Constants.{constant}
use Rattle.dm_tree.specs.Initialisers.{is_function_sort}
use Rattle.dm_tree.specs.Operands.{FitParameters, FitsCall}
use Rattle.dm_tree.specs.Scenes.{Scene, IsValue, is_void, is_function, Names}
use Rattle.dm_tree.specs.Trees.{Label, function, call, sizeof_tree, Tree, Trees, node, no_trees, more_trees, kind_of, listed}
use Rattle.dm_tree.specs.Typing.{FitsExpression, inside, IsEntry, IsWellTyped, ParameterFits, ParametersFit, file_scene}
use Rattle.dm_tree.specs.Units.{Declaration}
use Rattle.dm_meaning.specs.Among.{IsAmong}
use Rattle.dm_meaning.specs.Called.{Called, new_of}
use Rattle.dm_meaning.specs.CalledWith.{IsNamed}
use Rattle.dm_meaning.specs.CalledWithAll.{given, AreDistinct}
use Rattle.dm_meaning.specs.Programs.{Static, declaration_of}
use Rattle.dm_meaning.specs.Replaced.{Replaced, facts_of}
use Rattle.dm_meaning.proofs.AmongLemmas.{among_either}
use Rattle.dm_meaning.proofs.GrowLemmas.{equal_is, differ_is}
use Rattle.dm_meaning.proofs.OptionLemmas.{none_is_some, some_is_some, and_left, and_right}
use Rattle.dm_effect.specs.Entities.{function_first}
use Rattle.dm_agree.specs.Standing.{runs_with}
use Rattle.dm_agree.specs.Agreement.{Added, nothing, added_function, added_enumerator, added_constant, Rewriting, here_at, SameBody, Left, IsCallOf, AtRun}
use Rattle.dm_refine.specs.Calls.{any_names, NotInSizeof}
use Rattle.dm_refine.proofs.CoverLemmas.{IsObjectType, complete_type, compatible_type, bare_type, covered_type, no_void, no_function}
use Rattle.dm_refine.proofs.InertLemmas.{is_operand_of_sizeof, Unless, AreInert}
use Rattle.dm_refine.proofs.CallBodyLemmas.{slice_among}
use Rattle.dm_refine.proofs.ReadFirstLemmas.{either}

pub or_left : (a b : Bool) → (a || b) ≡ false → a ≡ false
or_left true b e = e
or_left false b e = refl

pub or_right : (a b : Bool) → (a || b) ≡ false → b ≡ false
or_right true b e = absurd (true≢false e)
or_right false b e = e

-- ---- constants

-- what is below a node of a constant: no reads and no calls, or in an operand of sizeof no call of the function
pub below_node : (f : ℕ) (label : Label) (parts : Trees) → Unless (is_operand_of_sizeof label) (AreInert parts) → NotInSizeof label (any_names f parts) → AreInert parts ⊎ (any_names f parts ≡ false)
below_node f sizeof_tree parts i n = inr n
below_node f label parts i n = inl i

module _ (change : Called) (statics old_statics : List Static) where
  -- the same programs without functions, and with these objects
  abbrev pub bare_of : Replaced
  bare_of = record {
    old = record change.old { functions = []; statics = old_statics };
    declared = change.declared;
    functions = [];
    statics = statics;
    rename = change.rename;
  }

  abbrev f : ℕ
  f = change.added.function

-- ---- what is put in

abbrev pub AddsFunction : Called → Added → Type 0
AddsFunction change nothing = ⊥
AddsFunction change (added_function g parameters body) = (g ≡ change.added.function) × (parameters ≡ change.added.parameters) × (body ≡ change.body)
AddsFunction change (added_enumerator d value) = ⊥
AddsFunction change (added_constant d value) = ⊥

-- its declaration, which has its parameters
pub record IsAddedEntry (types : Table) (declared : List Declaration) (f : ℕ) (parameters : List ℕ) : Type 0 where
  pub entry : Declaration
  pub found : slice_get declared f ≡ Some entry
  pub result : CType
  pub kinds : CTypes
  pub typed : entry.kind ≡ function_type result kinds
  pub fit : ParametersFit (file_scene types declared) parameters kinds

-- ---- the arguments of a call

-- each is a value of an object type
abbrev pub IsArgument : Tree → Type 0
IsArgument tree = IsValue tree × (is_void (bare (kind_of tree)) ≡ false) × (is_function (kind_of tree) ≡ false)

abbrev pub AreArguments : List ℕ → Trees → Type 0
AreArguments [] no_trees = Unit {0}
AreArguments (p ∷ ps) (more_trees first rest) = IsArgument first × AreArguments ps rest
AreArguments ps trees = ⊥

module _ (scene : Scene) where
  -- the type of a parameter is complete, and so are all that are compatible with it
  parameter_type : (found : Option Declaration) (type : CType) → IfSome found (ParameterFits scene type) → IsSome found → IsObjectType type
  parameter_type None type fits is = absurd (false≢true is)
  parameter_type (Some entry) type fits is = unbare type (compatible_type (bare entry.kind) (bare type) fits.1 (bare_type entry.kind (complete_type scene entry.kind fits.2)))
    where
      unbare : (one : CType) → IsObjectType (bare one) → IsObjectType one
      unbare (const one) h = h
      unbare one h = h

  covered_first : (type other : CType) (types others : CTypes) → cover_parameters (more_types type types) (more_types other others) ≡ true
      → (covers (bare type) (bare other) ≡ true) × (cover_parameters types others ≡ true)
  covered_first (const type) other types others e = (and_left (covers type (bare other)) (cover_parameters types others) e, and_right (covers type (bare other)) (cover_parameters types others) e)
  covered_first type other types others e = (and_left (covers (bare type) (bare other)) (cover_parameters types others) e, and_right (covers (bare type) (bare other)) (cover_parameters types others) e)

  pub are_arguments : (ps : List ℕ) (types others : CTypes) (trees : Trees) → ParametersFit scene ps types → cover_parameters types others ≡ true → FitParameters (listed trees) others → AreArguments ps trees
  are_arguments [] no_types no_types no_trees fits covered args = tt
  are_arguments [] no_types no_types (more_trees first rest) fits covered args = absurd args
  are_arguments [] no_types (more_types other others) trees fits covered args = absurd (false≢true covered)
  are_arguments [] (more_types type types) others trees fits covered args = absurd fits
  are_arguments (p ∷ ps) no_types others trees fits covered args = absurd fits
  are_arguments (p ∷ ps) (more_types type types) no_types trees fits covered args = absurd (none_covered type covered)
    where
      none_covered : (one : CType) → cover_parameters (more_types one types) no_types ≡ true → ⊥
      none_covered (const one) e = false≢true e
      none_covered one e = false≢true e
  are_arguments (p ∷ ps) (more_types type types) (more_types other others) no_trees fits covered args = absurd args
  are_arguments (p ∷ ps) (more_types type types) (more_types other others) (more_trees first rest) fits covered args =
      let both = covered_first type other types others covered in
      let object = covered_type (bare type) (bare other) both.0 (bare_type type (parameter_type (slice_get scene.declared p) type fits.0.0 fits.0.1)) in (
        (
          args.0,
          ap (λ (k : CType). is_void (bare k)) args.1 ∙ no_void (bare other) object,
          ap is_function args.1 ∙ no_function (bare other) object,
        ),
        are_arguments ps types others rest fits.1 both.1 args.2,
      )

-- ---- runs among those of the unit

pub kept : {A : Type 0} (b : Bool) (x first : A) (rest items : List A) → (IsAmong x rest → IsAmong x items) → IsAmong x (cond b (first ∷ rest) rest) → IsAmong x (first ∷ items)
kept true x first rest items f (inl e) = inl e
kept true x first rest items f (inr k) = inr (f k)
kept false x first rest items f k = inr (f k)

pub filtered : {A : Type 0} (test : A → Bool) (x : A) (items : List A) → IsAmong x (filter test items) → IsAmong x items
filtered test x [] h = absurd h
filtered test x (first ∷ rest) h = kept (test first) x first (filter test rest) rest (λ k. filtered test x rest k) h

pub some_run : (runs : List Run) (spans : List Span) (run : Run) → IsAmong run (flat_map (runs_with runs) spans) → IsAmong run runs
some_run runs [] run h = absurd h
some_run runs (span ∷ spans) run h =
    either (IsAmong run (runs_with runs span)) (IsAmong run (flat_map (runs_with runs) spans)) (IsAmong run runs) (λ k. filtered _ run runs k) (λ k. some_run runs spans run k)
    (among_either run (runs_with runs span) (flat_map (runs_with runs) spans) h)

-- ---- the trees that stand for parameters

abbrev pub first_left : Tree → List Left → Tree
first_left other [] = other
first_left other (left ∷ lefts) = left.tree

module _ (lefts : ℕ → List Left) (other : Tree) where
  -- the arguments that stand in the old tree, from a position on
  abbrev pub arguments_from : ℕ → Trees → Trees
  arguments_from n no_trees = no_trees
  arguments_from n (more_trees first rest) = more_trees (first_left other (lefts n)) (arguments_from (suc n) rest)

  pub as_many : (n : ℕ) (ps : List ℕ) (rest : Trees) → AreArguments ps rest → length (listed (arguments_from n rest)) ≡ length ps
  as_many n [] no_trees h = refl
  as_many n [] (more_trees first rest) h = absurd h
  as_many n (p ∷ ps) no_trees h = absurd h
  as_many n (p ∷ ps) (more_trees first rest) h = ap suc (as_many (suc n) ps rest h.1)

  given_first : (b : Bool) (first : Tree) (rest : Option Tree) → b ≡ true → (if b then Some first else rest) ≡ Some first
  given_first true first rest e = refl
  given_first false first rest e = absurd (false≢true e)

  given_rest : (b : Bool) (first : Tree) (rest : Option Tree) → b ≡ false → (if b then Some first else rest) ≡ rest
  given_rest true first rest e = absurd (true≢false e)
  given_rest false first rest e = refl

  pub given_from : (n : ℕ) (ps : List ℕ) (rest : Trees) → AreDistinct ps → AreArguments ps rest → (k p : ℕ) → slice_get ps k ≡ Some p → (m : ℕ) → m ≡ n + k
      → given ps (listed (arguments_from n rest)) p ≡ Some (first_left other (lefts m))
  given_from n [] rest distinct h k p e m same = absurd (none_is_some p e)
  given_from n (q ∷ ps) no_trees distinct h k p e m same = absurd h
  given_from n (q ∷ ps) (more_trees first rest) distinct h zero p e m same =
      given_first (q == p) (first_left other (lefts n)) (given ps (listed (arguments_from (suc n) rest)) p) (equal_is q p (some_is_some q p e))
      ∙ ap (λ i. Some (first_left other (lefts i))) (omega (arith, same))
  given_from n (q ∷ ps) (more_trees first rest) distinct h (suc k) p e m same =
      given_rest (q == p) (first_left other (lefts n)) (given ps (listed (arguments_from (suc n) rest)) p)
      (differ_is q p (λ is. distinct.0 (subst (λ x. IsAmong x ps) (sym is) (slice_among ps k p e))))
      ∙ given_from (suc n) ps rest distinct.1 h.1 k p e m (omega (arith, same))

-- ---- trees

module _ (change : Called) (told : (d : ℕ) → option_map facts_of (declaration_of (new_of change) (change.rename d)) ≡ option_map facts_of (declaration_of change.old d))
    (injective : (c d : ℕ) → change.rename c ≡ change.rename d → c ≡ d) where
  module _ (types : Table) (entries : All IsEntry change.declared) (entry : IsAddedEntry types change.declared change.added.function change.added.parameters) where
    -- the function's name has its type
    pub named_type : (scene : Scene) → scene.declared ≡ change.declared → (d : ℕ) → d ≡ change.added.function → (type : CType)
        → Names scene d (λ one. IsTrue (is_function_sort one.sort && covers one.kind type)) → covers (function_type entry.result entry.kinds) type ≡ true
    named_type scene e d same type fits =
        let here = subst (λ (found : Option Declaration). IfSome found (λ (one : Declaration). IsTrue (is_function_sort one.sort && covers one.kind type)))
        (ap (λ (ds : List Declaration). slice_get ds d) e ∙ (ap (slice_get change.declared) same ∙ entry.found)) fits.0 in
        ap (λ k. covers k type) (sym entry.typed) ∙ and_right (is_function_sort entry.entry.sort) (covers entry.entry.kind type) here

    pub of_type : (named : CType) (kind : CType) (trees : Trees) → covers (function_type entry.result entry.kinds) named ≡ true → FitsCall named (listed trees) kind
        → AreArguments change.added.parameters trees
    of_type (function_type result kinds) kind trees covered fits =
        are_arguments (file_scene types change.declared) change.added.parameters entry.kinds kinds trees entry.fit (and_right (covers entry.result result) (cover_parameters entry.kinds kinds) covered) fits.0
    of_type void kind trees covered fits = absurd fits
    of_type (integer one) kind trees covered fits = absurd fits
    of_type (pointer type) kind trees covered fits = absurd fits
    of_type (array type n) kind trees covered fits = absurd fits
    of_type (struct n) kind trees covered fits = absurd fits
    of_type (const type) kind trees covered fits = absurd fits

    -- the function is named, and arguments stand behind its name
    pub call_parts : (scene : Scene) → scene.declared ≡ change.declared → (kind : CType) (named : Tree) (rest : Trees) → function_first (more_trees named rest) ≡ Some change.added.function
        → FitsExpression scene call kind (named ∷ listed rest) → IsWellTyped (inside scene call (named ∷ listed rest)) named
        → IsNamed change named × AreArguments change.added.parameters rest
    call_parts scene e kind (node (function d) named_kind named_spans no_trees) rest first fits typed =
        let same = some_is_some d change.added.function first in (
          record { kind = named_kind; spans = named_spans; is = ap (λ n. node (function n) named_kind named_spans no_trees) same },
          of_type named_kind kind rest (named_type (inside scene call (node (function d) named_kind named_spans no_trees ∷ listed rest)) e d same named_kind typed.0) fits,
        )
    call_parts scene e kind (node (function d) named_kind named_spans (more_trees below others)) rest first fits typed = absurd fits
    call_parts scene e kind (node label named_kind named_spans below) rest first fits typed = absurd (none_is_some change.added.function first)

    module _ (runs : List Run) (added : Added) (adds : AddsFunction change added) (distinct : AreDistinct change.added.parameters) where
      abbrev pub it : Rewriting
      it = record { runs = runs; added = added; rename = change.rename; value = constant change.old.table change.old.declared }

      -- what stands at a run
      pub at_run : (one : Added) → AddsFunction change one → (run : Run) (inner : List Run) (label : Label) (kind : CType) (parts : Trees) (other : Tree) (Passed : Type 0)
          → AtRun it one run inner label kind parts other Passed → IsCallOf it change.added.function change.added.parameters change.body run inner label kind parts other × Passed
      at_run nothing adds run inner label kind parts other Passed h = absurd h
      at_run (added_enumerator d value) adds run inner label kind parts other Passed h = absurd adds
      at_run (added_constant d value) adds run inner label kind parts other Passed h = absurd adds
      at_run (added_function g parameters body) adds run inner label kind parts other Passed h = (
        (
          h.0.0,
          h.0.1,
          h.0.2 ∙ ap Some adds.0,
          subst (λ (b : Tree). SameBody it change.added.parameters run (here_at run inner other) b other) adds.2 (subst (λ (ps : List ℕ). SameBody it ps run (here_at run inner other) body other) adds.1 h.0.3),
        ),
        h.1,
      )
