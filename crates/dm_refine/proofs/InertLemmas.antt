-- Constants neither read nor call: trees of integer constant expressions, and initialisers of objects of static storage duration (6.6, 6.7.9p4).
--     IsInert tree      no node reads or calls, but in operands of sizeof
--     constant_inert, initialisers_inert      constants are so
use Rattle.std.specs.Prelude.{◌≡◌, refl, ◌⊎◌, ℕ, Bool, true, false, IsSome, All, List, [], ◌∷◌, Option, Some, None, is_some, if◌then◌else◌}
use Rattle.std.specs.List.{list_all}
use Rattle.std.proofs.Common.{ap, sym, subst, inl, inr}
use Rattle.std.proofs.lemmas.Bool.{false≢true}
use Rattle.std.proofs.lemmas.List.Elements.{All-head, All-tail, All-nil, All-cons}
use Rattle.dm_int.specs.declared.Op.TheVariants.{Add}
use Rattle.dm_type.specs.CTypes.{CType, void, pointer, array}
use Rattle.dm_tree.specs.Constants.{integer_kind, is_constant_form, constant_forms, constant_value}
use Rattle.dm_tree.specs.Initialisers.{Reach, nowhere, place, start, element_address, reach, reach_at, subscripted, shares_tokens, unconverted, IsAddressConstant, IsNullConstant, IsStaticValue, Initialises, AllInitialise}
use Rattle.dm_tree.specs.Scenes.{Scene, constant_of, IsConstant, IsZero}
use Rattle.dm_tree.specs.Trees.{Label, number, enumerator, literal, object, read, decay, convert, address, follow, member, unary, binary, both, either, choose, comma, call, sizeof_tree, sizeof_kind, Spans, Tree, Trees, node, no_trees, more_trees, listed}
use Rattle.dm_tree.specs.Typing.{inside, IsWellTyped, AreWellTyped}
use Rattle.dm_meaning.proofs.ConstantLemmas.{no_form}
use Rattle.dm_meaning.proofs.OptionLemmas.{and_left, and_right}

abbrev pub reads_or_calls : Label → Bool
reads_or_calls read = true
reads_or_calls call = true
reads_or_calls label = false

abbrev pub is_operand_of_sizeof : Label → Bool
is_operand_of_sizeof sizeof_tree = true
is_operand_of_sizeof label = false

-- what is in an operand of sizeof isn't asked anything
abbrev pub Unless : Bool → Type 0 → Type 0
Unless true P = Unit {0}
Unless false P = P

abbrev mutual
  pub IsInert : Tree → Type 0
  IsInert (node label kind spans parts) = (reads_or_calls label ≡ false) × Unless (is_operand_of_sizeof label) (AreInert parts)

  pub AreInert : Trees → Type 0
  AreInert no_trees = Unit {0}
  AreInert (more_trees first rest) = IsInert first × AreInert rest

-- ---- integer constant expressions

-- one with a value has the form
form_if : {A : Type 0} (b : Bool) (o : Option A) → IsSome (if b then o else None) → b ≡ true
form_if true o h = refl
form_if false o h = absurd (false≢true h)

pub has_form : (scene : Scene) (tree : Tree) → IsSome (constant_of scene tree) → is_constant_form tree ≡ true
has_form scene tree h = form_if (is_constant_form tree) (constant_value scene.types scene.declared tree) h

mutual
  pub constant_inert : (scene : Scene) (tree : Tree) → IsWellTyped scene tree → is_constant_form tree ≡ true → IsInert tree
  constant_inert scene (node (number z) kind spans no_trees) t f = (refl, tt)
  constant_inert scene (node (number z) kind spans (more_trees first rest)) t f = absurd t.0
  constant_inert scene (node (enumerator d) kind spans no_trees) t f = (refl, tt)
  constant_inert scene (node (enumerator d) kind spans (more_trees first rest)) t f = absurd t.0
  constant_inert scene (node sizeof_tree kind spans parts) t f = (refl, tt)
  constant_inert scene (node (sizeof_kind type) kind spans parts) t f = (refl, lengths_inert scene (inside scene (sizeof_kind type) (listed parts)) parts t.1 t.0.1)
  constant_inert scene (node convert kind spans no_trees) t f = absurd t.0
  constant_inert scene (node convert kind spans (more_trees first rest)) t f =
      let below = inside scene convert (first ∷ listed rest) in
      (refl, (constant_inert below first t.1.0 (and_right (is_some (integer_kind kind)) (is_constant_form first) f), lengths_inert scene below rest t.1.1 t.0.2))
  constant_inert scene (node (unary sign) kind spans parts) t f = (refl, all_inert (inside scene (unary sign) (listed parts)) parts t.1 (and_right (is_some (integer_kind kind)) _ f))
  constant_inert scene (node (binary op) kind spans parts) t f = (refl, all_inert (inside scene (binary op) (listed parts)) parts t.1 (and_right (is_some (integer_kind kind)) _ f))
  constant_inert scene (node both kind spans parts) t f = (refl, all_inert (inside scene both (listed parts)) parts t.1 (and_right (is_some (integer_kind kind)) _ f))
  constant_inert scene (node either kind spans parts) t f = (refl, all_inert (inside scene either (listed parts)) parts t.1 (and_right (is_some (integer_kind kind)) _ f))
  constant_inert scene (node choose kind spans parts) t f = (refl, all_inert (inside scene choose (listed parts)) parts t.1 (and_right (is_some (integer_kind kind)) _ f))
  constant_inert scene (node comma kind spans parts) t f = (refl, all_inert (inside scene comma (listed parts)) parts t.1 (and_right (is_some (integer_kind kind)) _ f))
  constant_inert scene (node label kind spans parts) t f = absurd (no_form label kind (constant_forms parts) refl refl f)

  all_inert : (scene : Scene) (trees : Trees) → AreWellTyped scene trees → list_all (λ passed. passed) (constant_forms trees) ≡ true → AreInert trees
  all_inert scene no_trees t f = tt
  all_inert scene (more_trees first rest) t f = (
    constant_inert scene first t.0 (and_left (is_constant_form first) _ f),
    all_inert scene rest t.1 (and_right (is_constant_form first) _ f),
  )

  lengths_inert : (outer scene : Scene) (trees : Trees) → AreWellTyped scene trees → All (IsConstant outer) (listed trees) → AreInert trees
  lengths_inert outer scene no_trees t f = tt
  lengths_inert outer scene (more_trees first rest) t f = (
    constant_inert scene first t.0 (has_form outer first (All-head (IsConstant outer) first (listed rest) f).1),
    lengths_inert outer scene rest t.1 (All-tail (IsConstant outer) first (listed rest) f),
  )

-- ---- addresses

abbrev IsReached : Reach → Type 0
IsReached nowhere = ⊥
IsReached place = Unit {0}
IsReached start = Unit {0}
IsReached element_address = Unit {0}

by_constant : (scene place_scene : Scene) (tree : Tree) → IsWellTyped scene tree → IsReached (subscripted place_scene tree) → IsInert tree
by_constant scene place_scene tree t h = by_bool (is_some (constant_of place_scene tree)) refl h
  where
    by_bool : (b : Bool) → is_some (constant_of place_scene tree) ≡ b → IsReached (if b then element_address else nowhere) → IsInert tree
    by_bool true e h = constant_inert scene tree t (has_form place_scene tree e)
    by_bool false e h = absurd h

-- of a sum one operand is the start of an array, and the other one a constant
sum_inert : (scene place_scene : Scene) (left right : Tree) → IsWellTyped scene left → IsWellTyped scene right → (first second : Reach)
    → (IsReached first → IsInert left) → (IsReached second → IsInert right) → (rest : List Reach) → (spans : Spans)
    → IsReached (reach_at place_scene (binary Add) spans (left ∷ right ∷ []) (first ∷ second ∷ rest)) → IsInert left × IsInert right
sum_inert scene place_scene left right t u start second f g rest spans h = (f tt, by_constant scene place_scene right u h)
sum_inert scene place_scene left right t u nowhere start f g rest spans h = (by_constant scene place_scene left t h, g tt)
sum_inert scene place_scene left right t u place start f g rest spans h = (by_constant scene place_scene left t h, g tt)
sum_inert scene place_scene left right t u element_address start f g rest spans h = (by_constant scene place_scene left t h, g tt)
sum_inert scene place_scene left right t u first second f g rest spans h = absurd h

member_inert : (scene : Scene) (n : ℕ) (spans : Spans) (parts : List Tree) (first : Reach) (rest : List Reach) → IsReached (reach_at scene (member n) spans parts (first ∷ rest)) → IsReached first
member_inert scene n spans parts place rest h = tt
member_inert scene n spans parts first rest h = absurd h

decay_inert : (scene : Scene) (spans : Spans) (parts : List Tree) (first : Reach) (rest : List Reach) → IsReached (reach_at scene decay spans parts (first ∷ rest)) → IsReached first
decay_inert scene spans parts place rest h = tt
decay_inert scene spans parts first rest h = absurd h

follow_inert : (scene : Scene) (spans : Spans) (sum : Tree) (first : Reach) (rest : List Reach) → IsReached (reach_at scene follow spans (sum ∷ []) (first ∷ rest)) → IsReached first
follow_inert scene spans sum element_address rest h = tt
follow_inert scene spans sum first rest h = absurd h

pub reach_inert : (scene place_scene : Scene) (tree : Tree) → IsWellTyped scene tree → IsReached (reach place_scene tree) → IsInert tree
reach_inert scene place_scene (node (object d) kind spans no_trees) t h = (refl, tt)
reach_inert scene place_scene (node (object d) kind spans (more_trees first rest)) t h = absurd t.0
reach_inert scene place_scene (node (literal bytes unit) kind spans no_trees) t h = (refl, tt)
reach_inert scene place_scene (node (literal bytes unit) kind spans (more_trees first rest)) t h = absurd t.0
reach_inert scene place_scene (node (member n) kind spans (more_trees first no_trees)) t h =
    (refl, (reach_inert (inside scene (member n) (first ∷ [])) place_scene first t.1.0 (member_inert place_scene n spans (first ∷ []) (reach place_scene first) [] h), tt))
reach_inert scene place_scene (node (member n) kind spans (more_trees first (more_trees second rest))) t h = absurd t.0
reach_inert scene place_scene (node (member n) kind spans no_trees) t h = absurd t.0
reach_inert scene place_scene (node decay kind spans (more_trees first no_trees)) t h =
    (refl, (reach_inert (inside scene decay (first ∷ [])) place_scene first t.1.0 (decay_inert place_scene spans (first ∷ []) (reach place_scene first) [] h), tt))
reach_inert scene place_scene (node decay kind spans (more_trees first (more_trees second rest))) t h = absurd t.0
reach_inert scene place_scene (node decay kind spans no_trees) t h = absurd t.0
reach_inert scene place_scene (node follow kind spans (more_trees first no_trees)) t h =
    (refl, (reach_inert (inside scene follow (first ∷ [])) place_scene first t.1.0 (follow_inert place_scene spans first (reach place_scene first) [] h), tt))
reach_inert scene place_scene (node follow kind spans (more_trees first (more_trees second rest))) t h = absurd t.0
reach_inert scene place_scene (node follow kind spans no_trees) t h = absurd t.0
reach_inert scene place_scene (node (binary Add) kind spans (more_trees left (more_trees right no_trees))) t h =
    let below = inside scene (binary Add) (left ∷ right ∷ []) in
    let both = sum_inert below place_scene left right t.1.0 t.1.1.0 (reach place_scene left) (reach place_scene right)
    (reach_inert below place_scene left t.1.0) (reach_inert below place_scene right t.1.1.0) [] spans h in
    (refl, (both.0, (both.1, tt)))
reach_inert scene place_scene (node (binary Add) kind spans (more_trees left (more_trees right (more_trees third rest)))) t h = absurd t.0
reach_inert scene place_scene (node (binary Add) kind spans (more_trees left no_trees)) t h = absurd t.0
reach_inert scene place_scene (node (binary Add) kind spans no_trees) t h = absurd t.0
reach_inert scene place_scene (node label kind spans parts) t h = absurd h

reached : (one : Reach) → (one ≡ place) ⊎ (one ≡ start) → IsReached one
reached one (inl e) = subst IsReached (sym e) tt
reached one (inr e) = subst IsReached (sym e) tt

-- ---- initialisers

zero_inert : (scene place_scene : Scene) (tree : Tree) → IsWellTyped scene tree → IsZero place_scene tree → IsInert tree
zero_inert scene place_scene tree t h = constant_inert scene tree t (has_form place_scene tree (ap is_some h))

null_inert : (scene place_scene : Scene) (tree : Tree) → IsWellTyped scene tree → IsNullConstant place_scene tree → IsInert tree
null_inert scene place_scene (node convert (pointer void) spans (more_trees operand rest)) t h =
    let below = inside scene convert (operand ∷ listed rest) in
    (refl, (zero_inert below place_scene operand t.1.0 h, lengths_inert scene below rest t.1.1 t.0.2))
null_inert scene place_scene (node label kind spans parts) t h = zero_inert scene place_scene (node label kind spans parts) t h

address_inert : (scene place_scene : Scene) (tree : Tree) → IsWellTyped scene tree → IsAddressConstant place_scene tree → IsInert tree
address_inert scene place_scene (node address kind spans (more_trees operand no_trees)) t h =
    (refl, (reach_inert (inside scene address (operand ∷ [])) place_scene operand t.1.0 (reached (reach place_scene operand) (inl h)), tt))
address_inert scene place_scene (node label kind spans parts) t h = reach_inert scene place_scene (node label kind spans parts) t (reached (reach place_scene (node label kind spans parts)) (inr h))

-- below an implied conversion
from_unconverted : (P : Tree → Type 0) → ((scene : Scene) (tree : Tree) → IsWellTyped scene tree → P tree → IsInert tree)
    → (scene : Scene) (tree : Tree) → IsWellTyped scene tree → P (unconverted tree) → IsInert tree
from_unconverted P f scene (node convert kind spans (more_trees operand no_trees)) t h = by_bool (shares_tokens spans operand) h
  where
    by_bool : (b : Bool) → P (if b then operand else node convert kind spans (more_trees operand no_trees)) → IsInert (node convert kind spans (more_trees operand no_trees))
    by_bool true k = (refl, (f (inside scene convert (operand ∷ [])) operand t.1.0 k, tt))
    by_bool false k = f scene (node convert kind spans (more_trees operand no_trees)) t k
from_unconverted P f scene (node label kind spans parts) t h = f scene (node label kind spans parts) t h

static_inert : (scene place_scene : Scene) (tree : Tree) → IsWellTyped scene tree → IsStaticValue place_scene tree → IsInert tree
static_inert scene place_scene tree t (inl h) = constant_inert scene tree t (has_form place_scene tree h)
static_inert scene place_scene tree t (inr (inl h)) = from_unconverted (IsNullConstant place_scene) (λ inner one u k. null_inert inner place_scene one u k) scene tree t h
static_inert scene place_scene tree t (inr (inr h)) = from_unconverted (IsAddressConstant place_scene) (λ inner one u k. address_inert inner place_scene one u k) scene tree t h

initialises_inert : (scene place_scene : Scene) (type : CType) (tree : Tree) → IsWellTyped scene tree → Initialises place_scene true type tree → IsInert tree
initialises_inert scene place_scene (array type (Some many)) (node (literal bytes unit) kind spans no_trees) t h = (refl, tt)
initialises_inert scene place_scene (array type (Some many)) (node (literal bytes unit) kind spans (more_trees first rest)) t h = absurd t.0
initialises_inert scene place_scene type tree t h = static_inert scene place_scene tree t (h.3 refl)

pub all_initialise_inert : (scene place_scene : Scene) (types : List CType) (trees : List Tree) → All (IsWellTyped scene) trees → AllInitialise place_scene true types trees → All IsInert trees
all_initialise_inert scene place_scene [] [] t h = All-nil IsInert
all_initialise_inert scene place_scene [] (tree ∷ trees) t h = absurd h
all_initialise_inert scene place_scene (type ∷ types) [] t h = absurd h
all_initialise_inert scene place_scene (type ∷ types) (tree ∷ trees) t h =
    All-cons IsInert tree trees (initialises_inert scene place_scene type tree (All-head (IsWellTyped scene) tree trees t) h.0)
    (all_initialise_inert scene place_scene types trees (All-tail (IsWellTyped scene) tree trees t) h.1)
