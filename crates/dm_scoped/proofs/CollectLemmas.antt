-- The lengths and enumerator values that the typing of a part collects stand in its syntax, one behind the other.
use Rattle.std.specs.Prelude.{◌≡◌, ℕ, ◌≤◌, ℤ, Bool, true, false, ◌&&◌, not, if◌then◌else◌, List, [], ◌∷◌, ◌++◌, Option, Some, None, is_some, option_and_then, refl}
use Rattle.std.proofs.Common.{sym, ap, ◌∙◌, subst, append_assoc}
use Rattle.dm_token.specs.declared.place.Span.{Span}
use Rattle.dm_int.specs.declared.Kind.TheVariants as k
use Rattle.dm_type.specs.CTypes.{CType, integer}
use Rattle.dm_type.specs.Layouts.{struct_layout}
use Rattle.dm_syn.specs.Sources.{spelling_at}
use Rattle.dm_tree.specs.Scenes.{is_integer, is_function}
use Rattle.dm_tree.specs.Trees.{Tree}
use Rattle.dm_tree.specs.Units.{Declaration}
use Rattle.dm_scoped.specs.Spans.{StandBetween}
use Rattle.dm_typing.specs.Known.{Known, Setting, Outcome, given, broken, after, with_it, obeys, if_given, declaring}
use Rattle.dm_typing.specs.Conversions.{is_complete, constant_of}
use Rattle.dm_typing.specs.Specifiers.{Said, type_said, are_allowed, Where}
use Rattle.dm_typing.specs.Typing.{number_if_struct, tag_declared, new_struct, struct_named, enum_named, with_new_struct, beginning, TypedMember, typed_field, fields, struct_ended, is_int, enumerator_entry, enumerator_declared, with_constant, enumerator_valued, Step, pointing, arraying, calling, stepped, derived, length_fits, is_result, natural, length_of, adjusted, is_new_parameter, parameter_declared, typed_parameter, entered, left, typed_said, TypedName, name_ended}
use Rattle.dm_scoped.proofs.SpanLemmas.{row-wider, row-append}

-- ---- what is given

-- nothing more is collected, and what is given is such
unfoldable pub Yields : {A : Type 0} → (A → Type 0) → Known → Outcome A → Type 0
Yields P known (given then_known it) = (then_known.constants ≡ known.constants) × P it
Yields P known (broken rule at) = Unit {0}

-- more is collected, which stands between these tokens
unfoldable pub Collects : {A : Type 0} → ℕ → ℕ → Known → Outcome A → Type 0
Collects at behind known (given then_known it) = (new : List Tree) × (then_known.constants ≡ known.constants ++ new) × StandBetween at behind new
Collects at behind known (broken rule place) = Unit {0}

pub more-none : {A : Type 0} (xs : List A) → xs ++ [] ≡ xs
more-none [] = refl
more-none (x ∷ xs) = ap (λ ys. x ∷ ys) (more-none xs)

pub yields-so : {A : Type 0} (P : A → Type 0) (known : Known) (it : A) → P it → Yields P known (given known it)
unfolding Yields
yields-so P known it h = (refl, h)

pub yields-none : {A : Type 0} (P : A → Type 0) (known : Known) (rule at : ℕ) → Yields P known (broken rule at)
unfolding Yields
yields-none P known rule at = tt

yields-from : {A : Type 0} (P : A → Type 0) (known then_known : Known) (outcome : Outcome A) → then_known.constants ≡ known.constants → Yields P then_known outcome → Yields P known outcome
unfolding Yields
yields-from P known then_known (given last it) e h = (h.0 ∙ e, h.1)
yields-from P known then_known (broken rule at) e h = tt

pub yields-after : {A B : Type 0} (P : A → Type 0) (Q : B → Type 0) (known : Known) (one : Outcome A) (next : Known → A → Outcome B) → Yields P known one
    → ((then_known : Known) (it : A) → P it → Yields Q then_known (next then_known it)) → Yields Q known (after one next)
unfolding Yields
yields-after P Q known (given then_known it) next h step = yields-from Q known then_known (next then_known it) h.0 (step then_known it h.1)
yields-after P Q known (broken rule at) next h step = tt

pub yields-with : {A B : Type 0} (P : A → Type 0) (Q : B → Type 0) (known : Known) (one : Outcome A) (make : Known → A → B) → Yields P known one
    → ((then_known : Known) (it : A) → P it → Q (make then_known it)) → Yields Q known (with_it one make)
unfolding Yields
yields-with P Q known (given then_known it) make h step = (h.0, step then_known it h.1)
yields-with P Q known (broken rule at) make h step = tt

pub yields-obeys : {A : Type 0} (P : A → Type 0) (known : Known) (test : Bool) (rule at : ℕ) (next : Outcome A) → Yields P known next → Yields P known (obeys test rule at next)
unfolding Yields
yields-obeys P known true rule at next h = h
yields-obeys P known false rule at next h = tt

pub yields-if : {A B : Type 0} (P : B → Type 0) (known : Known) (found : Option A) (rule at : ℕ) (next : A → Outcome B)
    → ((it : A) → found ≡ Some it → Yields P known (next it)) → Yields P known (if_given found rule at next)
unfolding Yields
yields-if P known (Some it) rule at next h = h it refl
yields-if P known None rule at next h = tt

-- ---- what is collected

pub collects-kept : {A : Type 0} (at behind : ℕ) (known then_known : Known) (it : A) → then_known.constants ≡ known.constants → at ≤ behind → Collects at behind known (given then_known it)
unfolding Collects
collects-kept at behind known then_known it e on = ([], e ∙ sym (more-none known.constants), on)

pub collects-none : (A : Type 0) (at behind : ℕ) (known : Known) (rule place : ℕ) → Collects {A = A} at behind known (broken rule place)
unfolding Collects
collects-none A at behind known rule place = tt

pub collects-wider : {A : Type 0} (at behind low high : ℕ) (known : Known) (outcome : Outcome A) → low ≤ at → behind ≤ high → Collects at behind known outcome
    → Collects low high known outcome
unfolding Collects
collects-wider at behind low high known (given then_known it) below above h = (h.0, h.1, row-wider at behind low high h.0 below above h.2)
collects-wider at behind low high known (broken rule place) below above h = tt

collects-from : {A : Type 0} (at mid behind : ℕ) (known then_known : Known) (new : List Tree) (outcome : Outcome A) → then_known.constants ≡ known.constants ++ new → StandBetween at mid new
    → Collects mid behind then_known outcome → Collects at behind known outcome
unfolding Collects
collects-from at mid behind known then_known new (given last it) e row h = (
  new ++ h.0,
  h.1 ∙ ap (λ list. list ++ h.0) e ∙ append_assoc known.constants new h.0,
  row-append at mid behind new h.0 row h.2,
)
collects-from at mid behind known then_known new (broken rule place) e row h = tt

pub collects-after : {A B : Type 0} (at mid behind : ℕ) (known : Known) (one : Outcome A) (next : Known → A → Outcome B) → Collects at mid known one
    → ((then_known : Known) (it : A) → Collects mid behind then_known (next then_known it)) → Collects at behind known (after one next)
unfolding Collects
collects-after at mid behind known (given then_known it) next h step =
    collects-from at mid behind known then_known h.0 (next then_known it) h.1 h.2 (step then_known it)
collects-after at mid behind known (broken rule place) next h step = tt

pub collects-with : {A B : Type 0} (at behind : ℕ) (known : Known) (one : Outcome A) (make : Known → A → B) → Collects at behind known one → Collects at behind known (with_it one make)
unfolding Collects
collects-with at behind known (given then_known it) make h = h
collects-with at behind known (broken rule place) make h = tt

-- behind what collects nothing
pub collects-behind : {A B : Type 0} (P : A → Type 0) (at behind : ℕ) (known : Known) (one : Outcome A) (next : Known → A → Outcome B) → Yields P known one
    → ((then_known : Known) (it : A) → P it → Collects at behind then_known (next then_known it)) → Collects at behind known (after one next)
unfolding Yields Collects
collects-behind P at behind known (given then_known it) next h step = moved (next then_known it) (step then_known it h.1)
  where
    moved : {B : Type 0} (outcome : Outcome B) → Collects at behind then_known outcome → Collects at behind known outcome
    moved (given last made) g = (g.0, g.1 ∙ ap (λ list. list ++ g.0) h.0, g.2)
    moved (broken rule place) g = tt
collects-behind P at behind known (broken rule place) next h step = tt

pub collects-obeys : {A : Type 0} (at behind : ℕ) (known : Known) (test : Bool) (rule place : ℕ) (next : Outcome A) → Collects at behind known next
    → Collects at behind known (obeys test rule place next)
unfolding Collects
collects-obeys at behind known true rule place next h = h
collects-obeys at behind known false rule place next h = tt

pub collects-if : {A B : Type 0} (at behind : ℕ) (known : Known) (found : Option A) (rule place : ℕ) (next : A → Outcome B)
    → ((it : A) → found ≡ Some it → Collects at behind known (next it)) → Collects at behind known (if_given found rule place next)
unfolding Collects
collects-if at behind known (Some it) rule place next h = h it refl
collects-if at behind known None rule place next h = tt

-- the same where something else is known
pub collects-known : {A : Type 0} (at behind : ℕ) (known other : Known) (outcome : Outcome A) → other.constants ≡ known.constants → Collects at behind other outcome
    → Collects at behind known outcome
unfolding Collects
collects-known at behind known other (given last it) e h = (h.0, h.1 ∙ ap (λ list. list ++ h.0) e, h.2)
collects-known at behind known other (broken rule place) e h = tt

-- ---- what stands in type names and declarators

module _ (setting : Setting) (at behind : ℕ) (on : at ≤ behind) (known : Known) where
  pub said-collects : (stands : Where) (here : ℕ) (said : Said) → Collects at behind known (typed_said known stands here said)
  said-collects stands here said =
      collects-if at behind known (type_said said) 3 here _ (λ type e. collects-obeys at behind known (are_allowed stands said) 3 here _ (collects-kept at behind known known _ refl on))

  tag-constants : (tag : Option ℕ) (type : CType) → (tag_declared setting known tag type).constants ≡ known.constants
  tag-constants None type = refl
  tag-constants (Some here) type = refl

  new-constants : (tag : Option ℕ) → (new_struct setting known tag).constants ≡ known.constants
  new-constants None = refl
  new-constants (Some here) = refl

  pub struct-collects : (span : Span) (tag : Option ℕ) (found : Option Declaration) → Collects at behind known (struct_named setting known span tag found)
  struct-collects span tag None = collects-kept at behind known (new_struct setting known tag) _ (new-constants tag) on
  struct-collects span tag (Some entry) = collects-obeys at behind known (is_some (number_if_struct entry.kind)) 4 span.first _ (collects-kept at behind known known _ refl on)

  with-constants : (tag : Option ℕ) (found : Option Declaration) → (with_new_struct setting known tag found).constants ≡ known.constants
  with-constants tag None = new-constants tag
  with-constants tag (Some entry) = refl

  pub begun-constants : (tag : Option ℕ) (found : Option Declaration) (number : Option ℕ) → (beginning (with_new_struct setting known tag found) number).constants ≡ known.constants
  begun-constants tag found None = with-constants tag found
  begun-constants tag found (Some n) = with-constants tag found

  pub enum-constants : (tag : Option ℕ) (test : Bool) → (if test then known else tag_declared setting known tag (integer k.Int)).constants ≡ known.constants
  enum-constants tag true = refl
  enum-constants tag false = tag-constants tag (integer k.Int)

  pub ended-collects : (span : Span) (number : Option ℕ) (begun : List ℕ) (members : List TypedMember) → Collects at behind known (struct_ended known span number begun members)
  ended-collects span None begun members = collects-none CType at behind known 4 span.first
  ended-collects span (Some n) begun [] = collects-none CType at behind known 5 span.first
  ended-collects span (Some n) begun (first ∷ rest) =
      collects-obeys at behind known (is_some (struct_layout known.types (fields known.types (first ∷ rest)))) 5 span.first _ (collects-kept at behind known _ _ refl on)

  pub enum-collects : (span : Span) (found : Option Declaration) → Collects at behind known (enum_named known span found)
  enum-collects span None = collects-none CType at behind known 1 span.first
  enum-collects span (Some entry) = collects-obeys at behind known (is_integer entry.kind) 4 span.first _ (collects-kept at behind known known _ refl on)

  pub field-collects : (here : ℕ) (name : Option ℕ) (before : List TypedMember) (kind : CType) → Collects at behind known (typed_field setting known here name before kind)
  field-collects here name before kind =
      collects-obeys at behind known (is_complete known kind) 5 here _ (collects-obeys at behind known _ 6 _ _ (collects-kept at behind known known _ refl on))

  pub enumerator-collects : (here : ℕ) (value : ℤ) → Collects at behind known (enumerator_declared setting known here value)
  enumerator-collects here value =
      collects-obeys at behind known _ 2 here _ (collects-obeys at behind known _ 7 here _ (collects-obeys at behind known _ 36 here _ (collects-kept at behind known _ _ refl on)))

  pub parameter-collects : (here : ℕ) (type : CType) (name : Option ℕ) → Collects at behind known (typed_parameter setting known here type name)
  parameter-collects here type name =
      collects-obeys at behind known (is_new_parameter setting known name) 2 _ _ (collects-obeys at behind known (not (is_function type)) 5 here _ (declared name))
    where
      declared : (name : Option ℕ) → Collects at behind known (parameter_declared setting known (adjusted type) name)
      declared None = collects-kept at behind known known _ refl on
      declared (Some place) = collects-kept at behind known _ _ refl on

-- a tree of a length or an enumerator value is one more
module _ (setting : Setting) (at behind : ℕ) (known : Known) (tree : Tree) (row : StandBetween at behind (tree ∷ [])) where
  constant-collects : {A : Type 0} (it : A) → Collects at behind known (given (with_constant known tree) it)
  unfolding Collects
  constant-collects it = (tree ∷ [], refl, row)

  pub length-collects : (here : ℕ) → Collects at behind known (length_of known here tree)
  length-collects here = collects-if at behind known (option_and_then natural (constant_of known tree)) 5 here _ (λ n e. constant-collects n)

  declared-constant : (place : ℕ) (value : ℤ)
      → Collects at behind known (given (declaring (with_constant known tree) (spelling_at setting.source place) (enumerator_entry setting place value)) value)
  unfolding Collects
  declared-constant place value = (tree ∷ [], refl, row)

  pub valued-collects : (place here : ℕ) → Collects at behind known (enumerator_valued setting known place here tree)
  valued-collects place here =
      collects-if at behind known (constant_of known tree) 7 here _ (λ value e. collects-obeys at behind known (is_int value) 7 here _
      (collects-obeys at behind known _ 2 place _ (collects-obeys at behind known _ 7 place _ (collects-obeys at behind known _ 36 place _ (declared-constant place value)))))

stepped-collects : (known : Known) (type : CType) (step : Step) → Yields (λ it. Unit {0}) known (stepped known type step)
stepped-collects known type (pointing here const) = yields-obeys (λ it. Unit {0}) known (not (is_function type)) 5 here _ (yields-so (λ it. Unit {0}) known _ tt)
stepped-collects known type (arraying here n) = yields-obeys (λ it. Unit {0}) known (is_complete known type && length_fits known type n) 5 here _ (yields-so (λ it. Unit {0}) known _ tt)
stepped-collects known type (calling here parameters) = yields-obeys (λ it. Unit {0}) known (is_result known type) 5 here _ (yields-so (λ it. Unit {0}) known _ tt)

-- all steps of a declarator
pub derived-collects : (at behind : ℕ) (known : Known) (type : CType) (steps : List Step) → at ≤ behind → Collects at behind known (derived known type steps)
derived-collects at behind known type [] on = collects-kept at behind known known type refl on
derived-collects at behind known type (step ∷ steps) on =
    collects-behind (λ it. Unit {0}) at behind known (stepped known type step) _ (stepped-collects known type step) (λ then_known made any. derived-collects at behind then_known made steps on)

pub left-collects : {A : Type 0} (at behind : ℕ) (known : Known) (outcome : Outcome A) → Collects at behind (entered known) outcome → Collects at behind known (left known.scopes outcome)
unfolding Collects
left-collects at behind known (given last it) h = h
left-collects at behind known (broken rule place) h = tt

-- the trees of a type name are a list of their own
pub name-yields : (at behind : ℕ) (known : Known) (outcome : Outcome CType) → Collects at behind (record known { constants = [] }) outcome
    → Yields (λ (named : TypedName). StandBetween at behind named.constants) known (name_ended known.constants outcome)
unfolding Collects Yields
name-yields at behind known (given last kind) h = (refl, subst (λ list. StandBetween at behind list) (sym h.1) h.2)
name-yields at behind known (broken rule place) h = tt
