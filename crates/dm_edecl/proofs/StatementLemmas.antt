-- The expressions of statements are well typed, and such as the statements want.
use Rattle.std.specs.Prelude.{◌≡◌, ℕ, ℤ, Bool, true, false, not, if◌then◌else◌, List, [], ◌∷◌, Option, Some, None, is_some, refl}
use Rattle.std.proofs.Common.{sym, ap, ◌∙◌, subst}
use Rattle.dm_token.specs.declared.place.Span.{Span}
use Rattle.dm_int.specs.declared.Kind.{Kind}
use Rattle.dm_int.specs.Kinds.{promote}
use Rattle.dm_type.specs.CTypes.{CType, void, integer, bare}
use Rattle.dm_syn.specs.declared.declared.Declared.{Declared}
use Rattle.dm_syn.specs.Spans.{expr_span}
use Rattle.dm_syn.specs.Grammar.{IsExpr}
use Rattle.dm_syn.specs.Statements.{IsOptional}
use Rattle.dm_syn.specs.Trees.{Expr}
use Rattle.dm_tree.specs.Composites.{covers}
use Rattle.dm_tree.specs.Constants.{integer_kind, is_constant_part, constant_forms, is_constant_form, constant_value}
use Rattle.dm_tree.specs.Scenes.{is_integer, is_scalar, is_void}
use Rattle.dm_tree.specs.Trees.{Tree, node, kind_of}
use Rattle.dm_tree.specs.Trees as label
use Rattle.dm_typing.specs.Known.{Known, Setting, Outcome, given, broken, obeys}
use Rattle.dm_typing.specs.Conversions.{over, is_same, as_value, as_type, as_kind, constant_of}
use Rattle.dm_typing.specs.Rules.{is_assignable}
use Rattle.dm_typing.specs.Sound.{IsProper, AreSoundTokens, IsSound, IsSoundValue, AreSound, IsSoundKnown, GivesMore}
use Rattle.dm_typing.specs.Typing.{typed}
use Rattle.dm_typing.proofs.CallLemmas.{assigned-fits}
use Rattle.dm_typing.proofs.ConversionLemmas.{as-kind-fits}
use Rattle.dm_typing.proofs.CoverLemmas.{covers-itself}
use Rattle.dm_typing.proofs.KindLemmas.{promoted-again}
use Rattle.dm_typing.proofs.KnownLemmas.{stays-so, after-more, with-more, obeys-more, if-more}
use Rattle.dm_typing.proofs.RuleLemmas.{value-sound}
use Rattle.dm_typing.proofs.TypeLemmas.{both-hold, same-types}
use Rattle.dm_typing.proofs.WholeLemmas.{expr-more}
use Rattle.dm_typing.proofs.WriteLemmas.{as-value-sound}
use Rattle.dm_edecl.specs.Statements.{statement, subject, CaseValue, is_label_among, typed_value, typed_optional, typed_condition, typed_subject, typed_case, returned, typed_return}
use Rattle.dm_edecl.specs.Sound.{IsSoundCondition, IsSoundSubject, IsSoundCase, IsSoundReturn}

-- ---- constants

formed : (test : Bool) (value : Option ℤ) (it : ℤ) → (if test then value else None) ≡ Some it → test ≡ true
formed true value it h = refl
formed false value it h = absurd (cc)

constant-integer : (tree : Tree) → is_constant_form tree ≡ true → is_integer (kind_of tree) ≡ true
constant-integer (node form kind spans parts) h = (both-hold (is_some (integer_kind kind)) (is_constant_part form (constant_forms parts)) h).0

-- what is constant after its conversion to an integer type is an integer
case-integer : (known : Known) (kind : Kind) (value : Tree) (n : ℤ) (test : Bool) → is_same (kind_of value) (integer kind) ≡ test
    → constant_of known (if test then value else over label.convert (integer kind) value) ≡ Some n → is_integer (kind_of value) ≡ true
case-integer known kind value n true e h = subst (λ type. is_integer type ≡ true) (sym (same-types (kind_of value) (integer kind) e)) refl
case-integer known kind value n false e h =
    let converted : Tree = over label.convert (integer kind) value in
    constant-integer value (formed (is_constant_form converted) (constant_value known.types known.declared converted) n h)

-- ---- results

pub void-is : (type : CType) → is_void type ≡ true → type ≡ void
void-is void h = refl
void-is type h = absurd (cc)

-- no value is assignable to void
never-void : (known : Known) (tree : Tree) (type : CType) → is_assignable known tree type ≡ true → not (is_void type) ≡ true
never-void known tree void h = absurd (cc)
never-void known tree type h = refl

module _ (setting : Setting) where
  returned-gives : (known : Known) (result : CType) (span : Span) (values : List Tree) → result ≡ bare result → IsProper result → IsSoundKnown known → AreSound known values
      → GivesMore known (IsSoundReturn result) (returned setting known result span values)
  returned-gives known result span [] plain proper sound are =
      obeys-more known (IsSoundReturn result) (is_void result) 34 span.first (given known (statement setting span label.return []))
      (λ is. stays-so known (IsSoundReturn result) (statement setting span label.return []) sound (refl, void-is result is, tt))
  returned-gives known result span (value ∷ others) plain proper sound are =
      obeys-more known (IsSoundReturn result) (is_assignable known value result) 34 span.first (given known (statement setting span label.return (as_type result value ∷ [])))
      (λ assignable. let fits = assigned-fits known result value are.0 proper assignable in
      stays-so known (IsSoundReturn result) (statement setting span label.return (as_type result value ∷ [])) sound (
        refl,
        (fits.0.0, subst (λ kind. covers result kind ≡ true) (sym (fits.1 ∙ sym plain)) (covers-itself result), never-void known value result assignable),
        (value-sound known (as_type result value) fits.0, tt),
      ))

-- ---- expressions in statements

-- what is given is less than what is known of it
pub weaker-more : {A : Type 0} (known : Known) (P Q : Known → A → Type 0) (outcome : Outcome A) → ((behind : Known) (it : A) → P behind it → Q behind it) → GivesMore known P outcome
    → GivesMore known Q outcome
weaker-more known P Q (given behind it) f h = (h.0, h.1, h.2, f behind it h.3)
weaker-more known P Q (broken rule at) f h = tt

-- the label of a `case` is none of those before
abbrev pub IsNewCase : Kind → List (Option ℤ) → Known → CaseValue → Type 0
IsNewCase kind labels known one = IsSoundCase kind known one × (not (is_label_among (Some one.value) labels) ≡ true)

module _ (setting : Setting) (tokens : AreSoundTokens setting.source.tokens) where
  pub value-gives : (known : Known) (names : List Declared) (expr : Expr) → IsExpr setting.source names expr → IsSoundKnown known → GivesMore known IsSoundValue (typed_value setting known expr)
  value-gives known names expr is sound =
      with-more known IsSound IsSoundValue (typed setting true known expr) (λ behind made. as_value made) (expr-more setting tokens true known names (expr_span expr) expr is sound)
      (λ behind made more still fine. as-value-sound behind made fine)

  pub condition-gives : (known : Known) (names : List Declared) (expr : Expr) → IsExpr setting.source names expr → IsSoundKnown known
      → GivesMore known IsSoundCondition (typed_condition setting known expr)
  condition-gives known names expr is sound =
      after-more known IsSoundValue IsSoundCondition (typed_value setting known expr) _ (value-gives known names expr is sound)
      (λ behind value more still fine. obeys-more behind IsSoundCondition (is_scalar (kind_of value)) 32 (expr_span expr).first (given behind value)
      (λ scalar. stays-so behind IsSoundCondition value still (fine, scalar)))

  pub subject-gives : (known : Known) (names : List Declared) (expr : Expr) → IsExpr setting.source names expr → IsSoundKnown known
      → GivesMore known IsSoundSubject (typed_subject setting known expr)
  subject-gives known names expr is sound =
      after-more known IsSoundValue IsSoundSubject (typed_value setting known expr) _ (value-gives known names expr is sound)
      (λ behind value more still fine. if-more behind IsSoundSubject (integer_kind (kind_of value)) 32 (expr_span expr).first (λ kind. given behind (subject value kind))
      (λ kind e. let fits = as-kind-fits behind (promote kind) value fine (ap is_some e) in
      stays-so behind IsSoundSubject (subject value kind) still (fits.0, fits.1, promoted-again kind)))

  pub new-case-gives : (known : Known) (names : List Declared) (kind : Kind) (labels : List (Option ℤ)) (expr : Expr) → IsExpr setting.source names expr → IsSoundKnown known
      → GivesMore known (IsNewCase kind labels) (typed_case setting known kind labels expr)
  new-case-gives known names kind labels expr is sound =
      after-more known IsSoundValue (IsNewCase kind labels) (typed_value setting known expr) _ (value-gives known names expr is sound)
      (λ behind value more still fine.
      let converted = as_kind kind value in
      let made : ℤ → CaseValue = λ n. record { tree = converted; value = n } in
      if-more behind (IsNewCase kind labels) (constant_of behind converted) 30 (expr_span expr).first
      (λ n. obeys (not (is_label_among (Some n) labels)) 31 (expr_span expr).first (given behind (made n)))
      (λ n e. obeys-more behind (IsNewCase kind labels) (not (is_label_among (Some n) labels)) 31 (expr_span expr).first (given behind (made n))
      (λ new. let fits = as-kind-fits behind kind value fine (case-integer behind kind value n (is_same (kind_of value) (integer kind)) refl e) in
      stays-so behind (IsNewCase kind labels) (made n) still ((fits.0, fits.1, e), new))))

  pub case-gives : (known : Known) (names : List Declared) (kind : Kind) (labels : List (Option ℤ)) (expr : Expr) → IsExpr setting.source names expr → IsSoundKnown known
      → GivesMore known (IsSoundCase kind) (typed_case setting known kind labels expr)
  case-gives known names kind labels expr is sound =
      weaker-more known (IsNewCase kind labels) (IsSoundCase kind) (typed_case setting known kind labels expr) (λ behind one fits. fits.0)
      (new-case-gives known names kind labels expr is sound)

  optional-gives : (known : Known) (names : List Declared) (at : ℕ) (expr : Option Expr) → IsOptional setting.source names at expr → IsSoundKnown known
      → GivesMore known AreSound (typed_optional setting known expr)
  optional-gives known names at None is sound = stays-so known AreSound [] sound tt
  optional-gives known names at (Some expr) is sound =
      with-more known IsSoundValue AreSound (typed_value setting known expr) (λ behind value. value ∷ []) (value-gives known names expr is.1 sound)
      (λ behind value more still fine. (fine, tt))

  pub return-gives : (known : Known) (names : List Declared) (result : CType) (span : Span) (at : ℕ) (expr : Option Expr) → result ≡ bare result → IsProper result
      → IsOptional setting.source names at expr → IsSoundKnown known → GivesMore known (IsSoundReturn result) (typed_return setting known result span expr)
  return-gives known names result span at expr plain proper is sound =
      after-more known AreSound (IsSoundReturn result) (typed_optional setting known expr) _ (optional-gives known names at expr is sound)
      (λ behind values more still are. returned-gives setting behind result span values plain proper still are)
