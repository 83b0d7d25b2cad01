-- The expressions of an initialiser initialise the parts that it names.
use Rattle.std.specs.Prelude.{◌≡◌, ℕ, zero, suc, ◌+◌, ◌≤◌, Bool, true, false, ◌&&◌, ◌||◌, not, nat_lt, nat_le, if◌then◌else◌, IsTrue, List, [], ◌∷◌, ◌++◌, length, Option, Some, None, option_map, option_and_then, refl}
use Rattle.std.proofs.Common.{sym, ap, ap₂, ◌∙◌, subst, arith}
use Rattle.std.proofs.lemmas.List.{length-append}
use Rattle.dm_token.specs.declared.place.Span.{Span}
use Rattle.dm_type.specs.CTypes.{CType, void, integer, pointer, array, struct, function as function_type, const, bare}
use Rattle.dm_type.specs.Tables.{Table}
use Rattle.dm_syn.specs.declared.declared.Declared.{Declared}
use Rattle.dm_syn.specs.Sources.{spelling_at}
use Rattle.dm_syn.specs.Spans.{expr_span}
use Rattle.dm_syn.specs.Grammar.{IsExpr}
use Rattle.dm_syn.specs.Statements.{IsInitialiser, AreMoreInitialisers}
use Rattle.dm_syn.specs.Trees.{Expr, Initialiser, Initialisers}
use Rattle.dm_syn.specs.Trees as tree
use Rattle.dm_tree.specs.Composites.{covers, covers_length}
use Rattle.dm_tree.specs.Constants.{integer_kind}
use Rattle.dm_tree.specs.Initialisers.{targets, targets_of_items, also, at_end, is_character, Initialises, AllInitialise, IsStaticValue}
use Rattle.dm_tree.specs.Scenes.{Scene, is_scalar, is_array, IsValue, part_type}
use Rattle.dm_tree.specs.Trees.{Tree, kind_of, one_expression, in_braces, no_items, more_items, expressions_in, expressions_in_items}
use Rattle.dm_tree.specs.Trees as label
use Rattle.dm_typing.specs.Known.{Known, Setting, Outcome, given, broken, after}
use Rattle.dm_typing.specs.Later.{IsLater}
use Rattle.dm_typing.specs.Conversions.{as_value, as_type}
use Rattle.dm_typing.specs.Rules.{is_assignable}
use Rattle.dm_typing.specs.Sound.{IsProper, AreComplete, AreSoundTokens, IsSound, IsSoundValue, IsSoundKnown, KnowsMore, GivesMore}
use Rattle.dm_typing.specs.Typing.{typed, typed_within, literal_tree, extent}
use Rattle.dm_typing.proofs.CallLemmas.{assigned-fits}
use Rattle.dm_typing.proofs.KnownLemmas.{stays-so, after-more, obeys-more, if-more, knows-through}
use Rattle.dm_typing.proofs.TypeLemmas.{both-hold}
use Rattle.dm_typing.proofs.WholeLemmas.{expr-more}
use Rattle.dm_typing.proofs.WriteLemmas.{as-value-sound}
use Rattle.dm_edecl.specs.Initialising.{Initial, Initials, no_initials, with_first, enclosed, single, is_static_value, has_value, scalar_initialised, is_string_for, initialised_by, First, deeper, first_if_scalar, first_in_array, first_in_struct, first_within, first_scalar, in_each_brace, braced, all_expressions_alone, misplaced, scalar_in_braces, is_zero_list, all_zero, zero_initialised, if_part, typed_initialiser, typed_initialisers}
use Rattle.dm_edecl.specs.Fit.{InitialFits, InitialsFit}
use Rattle.dm_edecl.proofs.CompletionLemmas.{covers-bare, covers-kind, covers-scalar, scalar-array, part-covers, HasPart}
use Rattle.dm_edecl.proofs.InitialLemmas.{part-proper, first-of}
use Rattle.dm_edecl.proofs.StatementLemmas.{weaker-more}
use Rattle.dm_edecl.proofs.StaticLemmas.{static-final}

-- ---- what an initialiser fits as soon as it is typed

-- it fits in each scene that comes later
abbrev pub Fitting : Bool → CType → Known → Initial → Type 0
Fitting fixed type known initial = (final : Scene) → IsLater known final → InitialFits fixed type final initial

abbrev pub FittingItems : Bool → CType → ℕ → Known → Initials → Type 0
FittingItems fixed type n known initials = (final : Scene) → IsLater known final → InitialsFit fixed type n final initials

later-before : (old new : Known) (final : Scene) → KnowsMore old new → IsLater new final → IsLater old final
later-before old new final more later = record {
  types = λ id inside. later.types id (let one = more.shapes in omega (arith, one, inside)) ∙ more.types id inside;
  contents = λ at content h. later.contents at content (more.contents at content h);
  declared = λ at entry h. later.declared at entry (more.declared at entry h);
}

either-more : {A : Type 0} (known : Known) (P : Known → A → Type 0) (test : Bool) (one other : Outcome A) → (test ≡ true → GivesMore known P one) → (test ≡ false → GivesMore known P other)
    → GivesMore known P (if test then one else other)
either-more known P true one other h g = h refl
either-more known P false one other h g = g refl

-- ---- scalars

initialises-scalar : (scene : Scene) (fixed : Bool) (whole : CType) (value : Tree) → is_array whole ≡ false
    → IsValue value × IsTrue (is_scalar whole) × IsTrue (covers (bare whole) (kind_of value)) × (IsTrue fixed → IsStaticValue scene value)
    → Initialises scene fixed whole value
initialises-scalar scene fixed (array type n) value other h = absurd (cc)
initialises-scalar scene fixed void value other h = h
initialises-scalar scene fixed (integer kind) value other h = h
initialises-scalar scene fixed (pointer type) value other h = h
initialises-scalar scene fixed (struct at) value other h = h
initialises-scalar scene fixed (function_type result parameters) value other h = h
initialises-scalar scene fixed (const type) value other h = h

unless : (fixed test : Bool) → (not fixed || test) ≡ true → fixed ≡ true → test ≡ true
unless true test h e = h
unless false test h e = absurd (cc)

scalar-initialises : (known : Known) (final : Scene) (fixed : Bool) (type whole : CType) (value : Tree) → AreComplete known.types → IsLater known final → IsSoundValue known value
    → IsProper type → is_scalar type ≡ true → (not fixed || is_static_value known value) ≡ true → is_assignable known value type ≡ true → (not fixed || has_value known value) ≡ true
    → covers whole type ≡ true → Initialises final fixed whole (as_type type value)
scalar-initialises known final fixed type whole value complete later sound proper scalar static assignable valued c =
    let fits = assigned-fits known type value sound proper assignable in
    let is = covers-scalar whole type c scalar in
    initialises-scalar final fixed whole (as_type type value) (scalar-array whole is) (
      fits.0.0,
      is,
      subst (λ kind. covers (bare whole) kind ≡ true) (sym fits.1) (covers-bare whole type c),
      (λ yes.
          static-final known final complete later value sound type (unless fixed (is_static_value known value) static yes) assignable (unless fixed (has_value known value) valued yes)),
    )

-- it is written as one expression
abbrev pub Single : Bool → CType → Known → Initial → Type 0
Single fixed type known initial = (initial.form ≡ one_expression) × Fitting fixed type known initial

single-fits : (known : Known) (fixed : Bool) (type : CType) (here : ℕ) (value : Tree) → IsSoundKnown known → IsSoundValue known value → IsProper type → is_scalar type ≡ true
    → GivesMore known (Single fixed type) (scalar_initialised known fixed type here value)
single-fits known fixed type here value sound is proper scalar =
    obeys-more known (Single fixed type) (not fixed || is_static_value known value) 8 here _ (λ static. obeys-more known (Single fixed type) (is_assignable known value type) 28 here _
    (λ assignable. obeys-more known (Single fixed type) (not fixed || has_value known value) 30 here _
    (λ valued. stays-so known (Single fixed type) (single (as_type type value)) sound (
      refl,
      (λ final later. (
        refl,
        (λ whole c.
            (whole ∷ [], refl, (scalar-initialises known final fixed type whole value sound.complete later is proper scalar static assignable valued c, tt))),
      )),
    ))))

scalar-fits : (known : Known) (fixed : Bool) (type : CType) (here : ℕ) (value : Tree) → IsSoundKnown known → IsSoundValue known value → IsProper type → is_scalar type ≡ true
    → GivesMore known (Fitting fixed type) (scalar_initialised known fixed type here value)
scalar-fits known fixed type here value sound is proper scalar =
    weaker-more known (Single fixed type) (Fitting fixed type) (scalar_initialised known fixed type here value) (λ behind initial fits. fits.1)
    (single-fits known fixed type here value sound is proper scalar)

-- ---- strings

string-whole : (scene : Scene) (fixed : Bool) (type whole : CType) (n at-unit : ℕ) (bytes : List ℕ) (kind : CType) (spans : label.Spans)
    → (is_character (integer_kind type) && nat_le (length bytes) n) ≡ true → covers whole (array type (Some n)) ≡ true
    → Initialises scene fixed whole (label.node (label.literal bytes at-unit) kind spans label.no_trees)
string-whole scene fixed type (array w (Some m)) n at-unit bytes kind spans h c =
    let fits = both-hold (is_character (integer_kind type)) (nat_le (length bytes) n) h in
    let parts = both-hold (covers_length (Some m) (Some n)) (covers w type) c in
    let length-is = parts.0 in
    let below = fits.1 in
    (ap is_character (covers-kind w type parts.1) ∙ fits.0, within m n (length bytes) length-is below)
  where
    within : (m n k : ℕ) → covers_length (Some m) (Some n) ≡ true → nat_le k n ≡ true → k ≤ m
    within m n k e h = grind arith
string-whole scene fixed type whole n at-unit bytes kind spans h c = absurd (cc)

string-fits : (setting : Setting) (at : Span) (scene : Scene) (fixed : Bool) (type whole : CType) → is_string_for setting (tree.literal at) type ≡ true → covers whole type ≡ true
    → Initialises scene fixed whole (literal_tree setting (extent at at) (spelling_at setting.source at.first))
string-fits setting at scene fixed (array type (Some n)) whole h c =
    string-whole scene fixed type whole n 0 (spelling_at setting.source at.first) _ _ h c
string-fits setting at scene fixed (array type None) whole h c = absurd (cc)
string-fits setting at scene fixed type whole h c = absurd (cc)

-- ---- `{0}`

ZeroTargets : Scene → CType → First → Type 0
ZeroTargets final type first =
    (whole : CType) → covers whole type ≡ true → (other : CType) × (targets final.types whole (in_each_brace first.depth) ≡ Some (other ∷ [])) × (covers other first.kind ≡ true)

AllZero : Scene → CType → Option First → Type 0
AllZero final type found = (first : First) → found ≡ Some first → ZeroTargets final type first

no-zero : (final : Scene) (type : CType) → AllZero final type None
unfolding AllZero
no-zero final type first e = absurd (cc)

scalar-zero : (final : Scene) (type : CType) → AllZero final type (first_if_scalar type)
unfolding AllZero ZeroTargets
scalar-zero final type first e = go (is_scalar type) refl e
  where
    go : (test : Bool) → is_scalar type ≡ test → (if test then Some (record { depth = 0; kind = type }) else None) ≡ Some first → ZeroTargets final type first
    go true is h =
        let same : record { depth = 0; kind = type } ≡ first = cc in
        subst (λ (it : First). ZeroTargets final type it) same (λ whole c. (whole, refl, c))
    go false is h = absurd (cc)

one-target : (final : Scene) (whole part other : CType) (inner : label.Initialiser) → part_type final.types whole 0 ≡ Some part → targets final.types part inner ≡ Some (other ∷ [])
    → targets final.types whole (in_braces (more_items inner no_items)) ≡ Some (other ∷ [])
one-target final whole part other inner p t =
    ap (option_and_then (λ it. also (targets final.types it inner) (Some []))) p ∙ ap (λ it. also it (Some [])) t

deeper-zero : (final : Scene) (type part : CType) (found : Option First) → ((whole : CType) → covers whole type ≡ true → HasPart final whole 0 part) → AllZero final part found
    → AllZero final type (option_map deeper found)
unfolding AllZero ZeroTargets
deeper-zero final type part (Some inner) has step first e =
    let same : deeper inner ≡ first = cc in
    subst (λ (it : First). ZeroTargets final type it) same
    (λ whole c.
    let one = has whole c in
    let two = step inner refl one.0 one.2 in
    (two.0, one-target final whole one.0 two.0 (in_each_brace inner.depth) one.1 two.1, two.2))
deeper-zero final type part None has step first e = absurd (cc)

if-zero : (final : Scene) (type : CType) (test : Bool) (one other : Option First) → (test ≡ true → AllZero final type one) → (test ≡ false → AllZero final type other)
    → AllZero final type (if test then one else other)
if-zero final type true one other f g = f refl
if-zero final type false one other f g = g refl

module _ (known : Known) (final : Scene) (complete : AreComplete known.types) (later : IsLater known final) where
  if-some : (test : Bool) (type : CType) → test ≡ true → (if test then Some type else None) ≡ Some type
  if-some true type h = refl
  if-some false type h = absurd (cc)

  array-zero : (inner : CType → Option First) → ((type : CType) → AllZero final type (inner type)) → (type : CType) → AllZero final type (first_in_array inner type)
  array-zero inner step (array type (Some n)) =
      if-zero final (array type (Some n)) (nat_lt 0 n) (option_map deeper (first_in_array inner type)) None
      (λ is. deeper-zero final (array type (Some n)) type (first_in_array inner type)
      (λ whole c. part-covers known final complete later whole (array type (Some n)) 0 type c (if-some (nat_lt 0 n) type is)) (array-zero inner step type))
      (λ no. no-zero final (array type (Some n)))
  array-zero inner step (array type None) = step (array type None)
  array-zero inner step void = step void
  array-zero inner step (integer kind) = step (integer kind)
  array-zero inner step (pointer type) = step (pointer type)
  array-zero inner step (struct at) = step (struct at)
  array-zero inner step (function_type result parameters) = step (function_type result parameters)
  array-zero inner step (const type) = step (const type)

  struct-zero : (inner : CType → Option First) → ((type : CType) → AllZero final type (inner type)) → (type : CType) → AllZero final type (first_in_struct inner known.types type)
  struct-zero inner step type =
      if-zero final type (is_scalar type) (first_if_scalar type) (option_map deeper (option_and_then inner (part_type known.types type 0))) (λ is. scalar-zero final type)
      (λ no. by-part (part_type known.types type 0) refl)
    where
      by-part : (found : Option CType) → part_type known.types type 0 ≡ found → AllZero final type (option_map deeper (option_and_then inner found))
      by-part (Some part) e = deeper-zero final type part (inner part) (λ whole c. part-covers known final complete later whole type 0 part c e) (step part)
      by-part None e = no-zero final type

  first-zero : (depth : ℕ) (type : CType) → AllZero final type (first_within depth known.types type)
  unfolding first_within
  first-zero zero type = array-zero first_if_scalar (scalar-zero final) type
  first-zero (suc depth) type = array-zero (first_in_struct (first_within depth known.types) known.types) (struct-zero (first_within depth known.types) (first-zero depth)) type

-- it is a scalar
AreScalar : Option First → Type 0
AreScalar found = (first : First) → found ≡ Some first → is_scalar first.kind ≡ true

one-scalar : (type : CType) → AreScalar (first_if_scalar type)
unfolding AreScalar
one-scalar type first e = go (is_scalar type) refl e
  where
    go : (test : Bool) → is_scalar type ≡ test → (if test then Some (record { depth = 0; kind = type }) else None) ≡ Some first → is_scalar first.kind ≡ true
    go true is h = let same : record { depth = 0; kind = type } ≡ first = cc in subst (λ (it : First). is_scalar it.kind ≡ true) same is
    go false is h = absurd (cc)

deeper-scalar : (found : Option First) → AreScalar found → AreScalar (option_map deeper found)
unfolding AreScalar
deeper-scalar (Some inner) h first e = let same : deeper inner ≡ first = cc in subst (λ (it : First). is_scalar it.kind ≡ true) same (h inner refl)
deeper-scalar None h first e = absurd (cc)

if-scalar : (test : Bool) (one other : Option First) → AreScalar one → AreScalar other → AreScalar (if test then one else other)
if-scalar true one other h g = h
if-scalar false one other h g = g

no-scalar : AreScalar None
unfolding AreScalar
no-scalar first e = absurd (cc)

then-scalar : (found : Option CType) (inner : CType → Option First) → ((type : CType) → AreScalar (inner type)) → AreScalar (option_and_then inner found)
then-scalar (Some type) inner h = h type
then-scalar None inner h = no-scalar

array-scalar : (inner : CType → Option First) → ((type : CType) → AreScalar (inner type)) → (type : CType) → AreScalar (first_in_array inner type)
array-scalar inner step (array type (Some n)) = if-scalar (nat_lt 0 n) _ None (deeper-scalar (first_in_array inner type) (array-scalar inner step type)) no-scalar
array-scalar inner step (array type None) = step (array type None)
array-scalar inner step void = step void
array-scalar inner step (integer kind) = step (integer kind)
array-scalar inner step (pointer type) = step (pointer type)
array-scalar inner step (struct at) = step (struct at)
array-scalar inner step (function_type result parameters) = step (function_type result parameters)
array-scalar inner step (const type) = step (const type)

within-scalar : (depth : ℕ) (table : Table) (type : CType) → AreScalar (first_within depth table type)
unfolding first_within
within-scalar zero table type = array-scalar first_if_scalar one-scalar type
within-scalar (suc depth) table type =
    array-scalar (first_in_struct (first_within depth table) table)
    (λ one. if-scalar (is_scalar one) (first_if_scalar one) _ (one-scalar one)
    (deeper-scalar (option_and_then (first_within depth table) (part_type table one 0)) (then-scalar (part_type table one 0) (first_within depth table) (within-scalar depth table)))) type

scalar-first : (known : Known) (type : CType) (first : First) → first_scalar known.types type ≡ Some first → is_scalar first.kind ≡ true
unfolding AreScalar
scalar-first known type first e = within-scalar _ known.types type first e

one-expression : (depth : ℕ) → expressions_in (in_each_brace depth) ≡ 1
one-expression zero = refl
one-expression (suc depth) = let rest = one-expression depth in omega (arith, rest)

-- the types that one expression initialises
same-target : (final : Scene) (whole : CType) (form : label.Initialiser) (types : List CType) → form ≡ one_expression → targets final.types whole form ≡ Some types → whole ∷ [] ≡ types
same-target final whole form types e h = let one : Some (whole ∷ []) ≡ Some types = ap (targets final.types whole) (sym e) ∙ h in cc

zero-fits : (before known : Known) (fixed : Bool) (type : CType) (first : First) (here : ℕ) (value : Tree) → AreComplete before.types → KnowsMore before known → IsSoundKnown known
    → IsSoundValue known value → IsProper first.kind → first_scalar before.types type ≡ Some first → is_scalar first.kind ≡ true
    → GivesMore known (Fitting fixed type) (zero_initialised known fixed first here value)
unfolding AllZero ZeroTargets
zero-fits before known fixed type first here value complete more sound is proper e scalar =
    after-more known (Single fixed first.kind) (Fitting fixed type) (scalar_initialised known fixed first.kind here value) _
    (single-fits known fixed first.kind here value sound is proper scalar)
    (λ behind initial further still fits. stays-so behind (Fitting fixed type) (braced first.depth initial) still
    (λ final later.
    let zero = first-zero before final complete (later-before before behind final (knows-through before known behind more further) later) _ type first e in
    let one = fits.1 final later in (
      one.0 ∙ (ap expressions_in fits.0 ∙ sym (one-expression first.depth)),
      (λ whole c.
          let part = zero whole c in
          let inner = one.1 part.0 part.2 in (
            part.0 ∷ [],
            part.1,
            subst (λ types. AllInitialise final fixed types initial.expressions) (sym (same-target final part.0 initial.form inner.0 fits.0 inner.1)) inner.2,
          )),
    )))

-- ---- lists

all-initialise : (scene : Scene) (fixed : Bool) (types more : List CType) (trees others : List Tree) → AllInitialise scene fixed types trees → AllInitialise scene fixed more others
    → AllInitialise scene fixed (types ++ more) (trees ++ others)
all-initialise scene fixed [] more [] others h g = g
all-initialise scene fixed (type ∷ types) more (value ∷ trees) others h g = (h.0, all-initialise scene fixed types more trees others h.1 g)
all-initialise scene fixed [] more (value ∷ trees) others h g = absurd h
all-initialise scene fixed (type ∷ types) more [] others h g = absurd h

at-the-end : (n : ℕ) → 1 ≤ n → at_end n ≡ Some []
at-the-end zero h = absurd (omega (arith, h))
at-the-end (suc n) h = refl

joined-targets : (scene : Scene) (whole part : CType) (n : ℕ) (first : label.Initialiser) (others : label.Initialisers) (types more : List CType) → part_type scene.types whole n ≡ Some part
    → targets scene.types part first ≡ Some types → targets_of_items scene.types whole (n + 1) others ≡ Some more
    → targets_of_items scene.types whole n (more_items first others) ≡ Some (types ++ more)
joined-targets scene whole part n first others types more p t m =
    ap (option_and_then (λ it. also (targets scene.types it first) (targets_of_items scene.types whole (n + 1) others))) p ∙ ap₂ also t m

-- the item of a list, with the part that it initialises
abbrev pub FitsPart : Bool → CType → ℕ → Known → Known → Initial → Type 0
FitsPart fixed type n before known initial = (part : CType) × (part_type before.types type n ≡ Some part) × Fitting fixed part known initial

never-given : {A B : Type 0} (known : Known) (P : Known → B → Type 0) (outcome : Outcome A) (rule at : ℕ) → GivesMore known P (after outcome (λ behind it. broken rule at))
never-given known P (given behind it) rule at = tt
never-given known P (broken other place) rule at = tt

part-fits : (known : Known) (P : Known → Initial → Type 0) (found : Option CType) (surplus : Outcome Initial) (part : CType → Outcome Initial) → GivesMore known P surplus
    → ((type : CType) → found ≡ Some type → GivesMore known P (part type)) → GivesMore known P (if_part found surplus part)
part-fits known P None surplus part h g = h
part-fits known P (Some type) surplus part h g = g type refl

module _ (setting : Setting) where
  items-joined : (fixed : Bool) (known : Known) (type : CType) (span : Span) (n : ℕ) (first : Initialiser) (others : Initialisers) → IsSoundKnown known → IsProper type
      → ((part : CType) → IsProper part → GivesMore known (Fitting fixed part) (typed_initialiser setting fixed known part first))
      → ((behind : Known) → IsSoundKnown behind → GivesMore behind (FittingItems fixed type (n + 1)) (typed_initialisers setting fixed behind type span (n + 1) others))
      → GivesMore known (FittingItems fixed type n) (typed_initialisers setting fixed known type span n (tree.more_initialisers first others))
  unfolding typed_initialisers
  items-joined fixed known type span n first others sound proper one rest =
      let items = tree.more_initialisers first others in
      after-more known (FitsPart fixed type n known) (FittingItems fixed type n)
      (if_part (part_type known.types type n) (misplaced setting known span items) (λ part. typed_initialiser setting fixed known part first)) _
      (part-fits known (FitsPart fixed type n known) (part_type known.types type n) (misplaced setting known span items) (λ part. typed_initialiser setting fixed known part first)
      (never-given known (FitsPart fixed type n known) (all_expressions_alone setting known items) 8 span.first)
      (λ part e. weaker-more known (Fitting fixed part) (FitsPart fixed type n known) (typed_initialiser setting fixed known part first) (λ behind initial fits. (part, e, fits))
      (one part (part-proper known.types type n proper part e))))
      (λ then_known made more still fits. after-more then_known (FittingItems fixed type (n + 1)) (FittingItems fixed type n) (typed_initialisers setting fixed then_known type span (n + 1) others) _
      (rest then_known still)
      (λ behind initials further fine all. stays-so behind (FittingItems fixed type n) (with_first made initials) fine
      (λ final later.
      let before = later-before then_known behind final further later in
      let first-fits = fits.2 final before in
      let rest-fits = all final later in (
        length-append made.expressions initials.expressions ∙ ap₂ (λ a b. a + b) first-fits.0 rest-fits.0,
        (λ whole c.
            let part = part-covers known final sound.complete (later-before known then_known final more before) whole type n fits.0 c fits.1 in
            let two = first-fits.1 part.0 part.2 in
            let three = rest-fits.1 whole c in (
              two.0 ++ three.0,
              joined-targets final whole part.0 n made.form initials.forms two.0 three.0 part.1 two.1 three.1,
              all-initialise final fixed two.0 three.0 made.expressions initials.expressions two.2 three.2,
            )),
      ))))

module _ (setting : Setting) (tokens : AreSoundTokens setting.source.tokens) where
  expression-more : (known : Known) (names : List Declared) (expr : Expr) → IsExpr setting.source names expr → IsSoundKnown known → GivesMore known IsSound (typed setting true known expr)
  expression-more known names expr is sound = expr-more setting tokens true known names (expr_span expr) expr is sound

  -- one expression
  value-fits : (fixed : Bool) (known : Known) (names : List Declared) (type : CType) (here : ℕ) (expr : Expr) → IsExpr setting.source names expr → IsSoundKnown known → IsProper type
      → GivesMore known (Fitting fixed type) (after (typed setting true known expr) (λ behind made. initialised_by setting behind fixed type here expr made))
  unfolding typed_within
  value-fits fixed known names type here (tree.literal at) is sound proper =
      let made = literal_tree setting (extent at at) (spelling_at setting.source at.first) in
      let fine = (expression-more known names (tree.literal at) is sound).3 in
      either-more known (Fitting fixed type) (is_scalar type) (scalar_initialised known fixed type here (as_value made)) _
      (λ scalar. scalar-fits known fixed type here (as_value made) sound (as-value-sound known made fine) proper scalar)
      (λ no. obeys-more known (Fitting fixed type) (is_string_for setting (tree.literal at) type) 8 here _
      (λ string. stays-so known (Fitting fixed type) (single made) sound
      (λ final later. (refl, (λ whole c. (whole ∷ [], refl, (string-fits setting at final fixed type whole string c, tt)))))))
  value-fits fixed known names type here expr is sound proper =
      after-more known IsSound (Fitting fixed type) (typed setting true known expr) (λ behind made. initialised_by setting behind fixed type here expr made)
      (expression-more known names expr is sound)
      (λ behind made more still fine. either-more behind (Fitting fixed type) (is_scalar type) (scalar_initialised behind fixed type here (as_value made)) (broken 8 here)
      (λ scalar. scalar-fits behind fixed type here (as_value made) still (as-value-sound behind made fine) proper scalar) (λ other. tt))

  braces-fit : (fixed : Bool) (known : Known) (names : List Declared) (type : CType) (span : Span) (first : Initialiser) (others : Initialisers) → IsInitialiser setting.source names first
      → IsSoundKnown known → IsProper type → is_scalar type ≡ true → GivesMore known (Fitting fixed type) (scalar_in_braces setting fixed known type span (tree.more_initialisers first others))
  unfolding IsInitialiser
  braces-fit fixed known names type span (tree.value at expr) tree.no_initialisers is sound proper scalar =
      after-more known IsSound (Fitting fixed type) (typed setting true known expr) _ (expression-more known names expr is.1 sound)
      (λ behind made more still fine. scalar-fits behind fixed type at.first (as_value made) still (as-value-sound behind made fine) proper scalar)
  braces-fit fixed known names type span first others is sound proper scalar =
      never-given known (Fitting fixed type) (all_expressions_alone setting known (tree.more_initialisers first others)) 8 span.first

  all-zero-fits : (fixed : Bool) (known : Known) (names : List Declared) (type : CType) (span : Span) (first : Initialiser) (others : Initialisers) → IsInitialiser setting.source names first
      → IsSoundKnown known → IsProper type → GivesMore known (Fitting fixed type) (all_zero setting fixed known type span (tree.more_initialisers first others))
  unfolding IsInitialiser
  all-zero-fits fixed known names type span (tree.value at expr) tree.no_initialisers is sound proper =
      after-more known IsSound (Fitting fixed type) (typed setting true known expr) _ (expression-more known names expr is.1 sound)
      (λ behind made more still fine. if-more behind (Fitting fixed type) (first_scalar known.types type) 8 span.first _
      (λ first e.
      zero-fits known behind fixed type first at.first (as_value made) sound.complete more still (as-value-sound behind made fine) (first-of known type proper first e) e
      (scalar-first known type first e)))
  all-zero-fits fixed known names type span first others is sound proper =
      never-given known (Fitting fixed type) (all_expressions_alone setting known (tree.more_initialisers first others)) 8 span.first

  mutual
    unfolding typed_initialiser typed_initialisers IsInitialiser AreMoreInitialisers

    pub initialiser-fits : (fixed : Bool) (known : Known) (names : List Declared) (type : CType) (one : Initialiser) → IsInitialiser setting.source names one → IsSoundKnown known
        → IsProper type → GivesMore known (Fitting fixed type) (typed_initialiser setting fixed known type one)
    initialiser-fits fixed known names type (tree.value span expr) h sound proper = value-fits fixed known names type span.first expr h.1 sound proper
    initialiser-fits fixed known names type (tree.braces span tree.no_initialisers trailing) h sound proper = absurd h
    initialiser-fits fixed known names type (tree.braces span (tree.more_initialisers first others) trailing) h sound proper =
        let items = tree.more_initialisers first others in
        either-more known (Fitting fixed type) (is_scalar type) (scalar_in_braces setting fixed known type span items) _
        (λ scalar. braces-fit fixed known _ type span first others h.2 sound proper scalar)
        (λ no. either-more known (Fitting fixed type) (is_zero_list setting items trailing) (all_zero setting fixed known type span items) _
        (λ zero. all-zero-fits fixed known _ type span first others h.2 sound proper)
        (λ list. after-more known (FittingItems fixed type 0) (Fitting fixed type) (typed_initialisers setting fixed known type span 0 items) (λ behind made. given behind (enclosed made))
        (items-joined setting fixed known type span 0 first others sound proper (λ part is. initialiser-fits fixed known _ part first h.2 sound is)
        (λ behind still. items-fit fixed behind _ type span (0 + 1) _ others h.3 still proper (omega arith)))
        (λ behind made more still fits. stays-so behind (Fitting fixed type) (enclosed made) still fits)))

    items-fit : (fixed : Bool) (known : Known) (names : List Declared) (type : CType) (span : Span) (n at : ℕ) (items : Initialisers) → AreMoreInitialisers setting.source names at items
        → IsSoundKnown known → IsProper type → 1 ≤ n → GivesMore known (FittingItems fixed type n) (typed_initialisers setting fixed known type span n items)
    items-fit fixed known names type span n at tree.no_initialisers h sound proper some =
        stays-so known (FittingItems fixed type n) no_initials sound (λ final later. (refl, (λ whole c. ([], at-the-end n some, tt))))
    items-fit fixed known names type span n at (tree.more_initialisers first others) h sound proper some =
        items-joined setting fixed known type span n first others sound proper (λ part is. initialiser-fits fixed known _ part first h.2 sound is)
        (λ behind still. items-fit fixed behind _ type span (n + 1) _ others h.3 still proper (omega (arith, some)))
