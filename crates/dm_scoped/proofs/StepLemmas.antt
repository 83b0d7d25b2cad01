-- What the typing of a part gives: scopes that name what they named, and trees whose names are in scope.
use Rattle.std.specs.Prelude.{◌≡◌, ℕ, Bool, true, false, ◌&&◌, List, [], ◌∷◌, length, Option, Some, None, slice_get, unwrap_or, option_and_then, if◌then◌else◌, refl}
use Rattle.std.proofs.Common.{sym, ap, ◌∙◌, subst}
use Rattle.std.specs.FinMap as map
use Rattle.dm_type.specs.CTypes.{CType}
use Rattle.dm_type.specs.TableLaws.{injected}
use Rattle.dm_scope.specs.Scopes.{number_of}
use Rattle.dm_tree.specs.declared.unit.Sort.{Sort}
use Rattle.dm_tree.specs.declared.unit.Sort.TheVariants.{Object, Function, Typedef, Enumerator, Tag}
use Rattle.dm_tree.specs.Trees.{Label, Tree, trees}
use Rattle.dm_tree.specs.Trees as label
use Rattle.dm_tree.specs.Units.{Declaration}
use Rattle.dm_meaning.specs.Statements.{is_automatic_sort}
use Rattle.dm_effect.specs.Scoped.{Scope, is_in_scope, same_scopes, names_in_scope, is_scoped, are_scoped}
use Rattle.dm_typing.specs.Known.{Known, Setting, Outcome, given, broken, after, with_it, obeys, if_given, meaning_of, declaring}
use Rattle.dm_typing.specs.declared.extent.Extent.{Extent}
use Rattle.dm_typing.specs.Conversions.{spans_at, made}
use Rattle.dm_typing.specs.Rules.{named_by_sort}
use Rattle.dm_typing.specs.Typing.{named, may_be_used, entered, left}
use Rattle.dm_scoped.proofs.OverLemmas.{IsKept, Every}
use Rattle.dm_scoped.proofs.ScopeLemmas.{Grown, grown-itself, grown-through, grown-more, get-last, Has, Sees, sees-in, empty-sees, sees-changes, sees-later, found-has, sees-with, depth-with}

-- ---- trees whose names are in scope

-- a test says which entries are automatic objects
unfoldable pub Fits : (ℕ → Bool) → List Declaration → Type 0
Fits automatic declared = (d : ℕ) (entry : Declaration) → slice_get declared d ≡ Some entry → automatic d ≡ is_automatic_sort entry.sort

pub fits-before : (automatic : ℕ → Bool) (old new : List Declaration) → Grown old new → Fits automatic new → Fits automatic old
unfolding Fits Grown
fits-before automatic old new grown fits d entry e = let later = grown d entry e in fits d later.0 later.1 ∙ ap is_automatic_sort later.2

-- what passes is in scope
abbrev pub Covers : (ℕ → Bool) → Scope → Type 0
Covers seen scope = (d : ℕ) → seen d ≡ true → is_in_scope scope d ≡ true

-- an expression is scoped wherever what passes is in scope
unfoldable pub IsScopedIn : (ℕ → Bool) → List Declaration → Tree → Type 0
IsScopedIn seen declared tree = (automatic : ℕ → Bool) (scope : Scope) → Fits automatic declared → Covers seen scope → is_scoped automatic scope tree ≡ true

pub scoped-later : (seen : ℕ → Bool) (old new : List Declaration) (tree : Tree) → Grown old new → IsScopedIn seen old tree → IsScopedIn seen new tree
unfolding IsScopedIn
scoped-later seen old new tree grown h automatic scope fits covers = h automatic scope (fits-before automatic old new grown fits) covers

pub every-later : (seen : ℕ → Bool) (old new : List Declaration) (list : List Tree) → Grown old new → Every (IsScopedIn seen old) list → Every (IsScopedIn seen new) list
every-later seen old new [] grown h = tt
every-later seen old new (tree ∷ list) grown h = (scoped-later seen old new tree grown h.0, every-later seen old new list grown h.1)

pub both-true : (one other : Bool) → one ≡ true → other ≡ true → (one && other) ≡ true
both-true true other h g = g
both-true false other h g = h

pub scoped-kept : (seen : ℕ → Bool) (declared : List Declaration) → IsKept (IsScopedIn seen declared)
unfolding IsScopedIn
scoped-kept seen declared = record {
  read_kept = λ kind tree is h automatic scope fits covers. both-true (is_scoped automatic scope tree) true (h automatic scope fits covers) refl;
  decay_kept = λ kind tree is h automatic scope fits covers. both-true (is_scoped automatic scope tree) true (h automatic scope fits covers) refl;
  convert_kept = λ kind tree h automatic scope fits covers. both-true (is_scoped automatic scope tree) true (h automatic scope fits covers) refl;
}

-- forms that name nothing and declare nothing, and whose parts are all evaluated or operands of sizeof
abbrev pub is_plain : Label → Bool
is_plain (label.object d) = false
is_plain label.convert = false
is_plain (label.sizeof_kind type) = false
is_plain label.block = false
is_plain (label.declare lengths declarators) = false
is_plain (label.for_loop first second third) = false
is_plain form = true

pub parts-scoped : (automatic : ℕ → Bool) (scope : Scope) (parts : List Tree) → Every (λ tree. is_scoped automatic scope tree ≡ true) parts
    → are_scoped automatic (same_scopes scope (trees parts)) (trees parts) ≡ true
parts-scoped automatic scope [] h = refl
parts-scoped automatic scope (tree ∷ parts) h =
    both-true (is_scoped automatic scope tree) (are_scoped automatic (same_scopes scope (trees parts)) (trees parts)) h.0 (parts-scoped automatic scope parts h.1)

pub plain-scoped : (automatic : ℕ → Bool) (scope : Scope) (form : Label) (kind : CType) (spans : label.Spans) (parts : List Tree) → is_plain form ≡ true
    → Every (λ tree. is_scoped automatic scope tree ≡ true) parts → is_scoped automatic scope (label.node form kind spans (trees parts)) ≡ true
plain-scoped automatic scope (label.object d) kind spans parts plain h = absurd (cc)
plain-scoped automatic scope label.convert kind spans parts plain h = absurd (cc)
plain-scoped automatic scope (label.sizeof_kind type) kind spans parts plain h = absurd (cc)
plain-scoped automatic scope label.block kind spans parts plain h = absurd (cc)
plain-scoped automatic scope (label.declare lengths declarators) kind spans parts plain h = absurd (cc)
plain-scoped automatic scope (label.for_loop first second third) kind spans parts plain h = absurd (cc)
plain-scoped automatic scope form kind spans parts plain h = parts-scoped automatic scope parts h

pub each-scoped : (seen : ℕ → Bool) (declared : List Declaration) (automatic : ℕ → Bool) (scope : Scope) (list : List Tree) → Fits automatic declared → Covers seen scope
    → Every (IsScopedIn seen declared) list → Every (λ tree. is_scoped automatic scope tree ≡ true) list
unfolding IsScopedIn
each-scoped seen declared automatic scope [] fits covers h = tt
each-scoped seen declared automatic scope (tree ∷ list) fits covers h = (h.0 automatic scope fits covers, each-scoped seen declared automatic scope list fits covers h.1)

-- a node of an operator
pub made-scoped : (seen : ℕ → Bool) (declared : List Declaration) (setting : Setting) (extent : Extent) (form : Label) (kind : CType) (parts : List Tree) → is_plain form ≡ true
    → Every (IsScopedIn seen declared) parts → IsScopedIn seen declared (made setting.source extent form kind parts)
unfolding IsScopedIn
made-scoped seen declared setting extent form kind parts plain h automatic scope fits covers =
    plain-scoped automatic scope form kind (spans_at setting.source extent) parts plain (each-scoped seen declared automatic scope parts fits covers h)

-- a cast, and sizeof of a type
pub cast-scoped : (seen : ℕ → Bool) (declared : List Declaration) (setting : Setting) (extent : Extent) (kind : CType) (operand : Tree) (lengths : List Tree)
    → IsScopedIn seen declared operand → IsScopedIn seen declared (made setting.source extent label.convert kind (operand ∷ lengths))
unfolding IsScopedIn
cast-scoped seen declared setting extent kind operand lengths h automatic scope fits covers =
    both-true (is_scoped automatic scope operand) (are_scoped automatic [] (trees lengths)) (h automatic scope fits covers) (nothing automatic lengths)
  where
    nothing : (automatic : ℕ → Bool) (rest : List Tree) → are_scoped automatic [] (trees rest) ≡ true
    nothing automatic [] = refl
    nothing automatic (first ∷ rest) = refl

pub size-scoped : (seen : ℕ → Bool) (declared : List Declaration) (setting : Setting) (extent : Extent) (type kind : CType) (lengths : List Tree)
    → IsScopedIn seen declared (made setting.source extent (label.sizeof_kind type) kind lengths)
unfolding IsScopedIn
size-scoped seen declared setting extent type kind [] automatic scope fits covers = refl
size-scoped seen declared setting extent type kind (first ∷ rest) automatic scope fits covers = refl

-- ---- what is given

-- the entries stay, scopes name such as pass, and as many are open
pub record Step (seen : ℕ → Bool) (known behind : Known) : Type 0 where
  pub grown : Grown known.declared behind.declared
  pub sees : Sees behind.declared seen behind.scopes
  pub depth : length behind.scopes ≡ length known.scopes

unfoldable pub Gives : {A : Type 0} → (ℕ → Bool) → (List Declaration → A → Type 0) → Known → Outcome A → Type 0
Gives seen P known (given behind it) = Step seen known behind × P behind.declared it
Gives seen P known (broken rule at) = Unit {0}

-- nothing is said of it
abbrev pub Any : {A : Type 0} → List Declaration → A → Type 0
Any declared it = Unit {0}

abbrev pub AllScoped : (ℕ → Bool) → List Declaration → List Tree → Type 0
AllScoped seen declared list = Every (IsScopedIn seen declared) list

pub step-none : (seen : ℕ → Bool) (known : Known) → Sees known.declared seen known.scopes → Step seen known known
step-none seen known sees = record { grown = grown-itself known.declared; sees = sees; depth = refl }

pub step-through : (seen : ℕ → Bool) (a b c : Known) → Step seen a b → Step seen b c → Step seen a c
step-through seen a b c first second = record {
  grown = grown-through a.declared b.declared c.declared first.grown second.grown;
  sees = second.sees;
  depth = second.depth ∙ first.depth;
}

pub gives-so : {A : Type 0} (seen : ℕ → Bool) (P : List Declaration → A → Type 0) (known behind : Known) (it : A) → Step seen known behind → P behind.declared it
    → Gives seen P known (given behind it)
unfolding Gives
gives-so seen P known behind it step h = (step, h)

pub stays : {A : Type 0} (seen : ℕ → Bool) (P : List Declaration → A → Type 0) (known : Known) (it : A) → Sees known.declared seen known.scopes → P known.declared it
    → Gives seen P known (given known it)
unfolding Gives
stays seen P known it sees h = (step-none seen known sees, h)

pub gives-from : {A : Type 0} (seen : ℕ → Bool) (P : List Declaration → A → Type 0) (known behind : Known) (outcome : Outcome A) → Step seen known behind
    → Gives seen P behind outcome → Gives seen P known outcome
unfolding Gives
gives-from seen P known behind (given last it) step h = (step-through seen known behind last step h.0, h.1)
gives-from seen P known behind (broken rule at) step h = tt

pub after-gives : {A B : Type 0} (seen : ℕ → Bool) (P : List Declaration → A → Type 0) (Q : List Declaration → B → Type 0) (known : Known) (outcome : Outcome A)
    (next : Known → A → Outcome B) → Gives seen P known outcome
    → ((behind : Known) (it : A) → Step seen known behind → P behind.declared it → Gives seen Q behind (next behind it)) → Gives seen Q known (after outcome next)
unfolding Gives
after-gives seen P Q known (given behind it) next h step = gives-from seen Q known behind (next behind it) h.0 (step behind it h.0 h.1)
after-gives seen P Q known (broken rule at) next h step = tt

pub with-gives : {A B : Type 0} (seen : ℕ → Bool) (P : List Declaration → A → Type 0) (Q : List Declaration → B → Type 0) (known : Known) (outcome : Outcome A)
    (make : Known → A → B) → Gives seen P known outcome → ((behind : Known) (it : A) → Step seen known behind → P behind.declared it → Q behind.declared (make behind it))
    → Gives seen Q known (with_it outcome make)
unfolding Gives
with-gives seen P Q known (given behind it) make h step = (h.0, step behind it h.0 h.1)
with-gives seen P Q known (broken rule at) make h step = tt

pub obeys-gives : {A : Type 0} (seen : ℕ → Bool) (P : List Declaration → A → Type 0) (known : Known) (test : Bool) (rule at : ℕ) (next : Outcome A)
    → Gives seen P known next → Gives seen P known (obeys test rule at next)
unfolding Gives
obeys-gives seen P known true rule at next h = h
obeys-gives seen P known false rule at next h = tt

pub if-gives : {A B : Type 0} (seen : ℕ → Bool) (P : List Declaration → B → Type 0) (known : Known) (found : Option A) (rule at : ℕ) (next : A → Outcome B)
    → ((it : A) → found ≡ Some it → Gives seen P known (next it)) → Gives seen P known (if_given found rule at next)
unfolding Gives
if-gives seen P known (Some it) rule at next h = h it refl
if-gives seen P known None rule at next h = tt

pub test-gives : {A : Type 0} (seen : ℕ → Bool) (P : List Declaration → A → Type 0) (known : Known) (test : Bool) (one other : Outcome A)
    → Gives seen P known one → Gives seen P known other → Gives seen P known (if test then one else other)
test-gives seen P known true one other h g = h
test-gives seen P known false one other h g = g

pub broken-gives : {A : Type 0} (seen : ℕ → Bool) (P : List Declaration → A → Type 0) (known : Known) (rule at : ℕ) → Gives seen P known (broken rule at)
unfolding Gives
broken-gives seen P known rule at = tt

pub weaker-gives : {A : Type 0} (seen : ℕ → Bool) (P Q : List Declaration → A → Type 0) (known : Known) (outcome : Outcome A)
    → ((declared : List Declaration) (it : A) → P declared it → Q declared it) → Gives seen P known outcome → Gives seen Q known outcome
unfolding Gives
weaker-gives seen P Q known (given behind it) weaker h = (h.0, weaker behind.declared it h.1)
weaker-gives seen P Q known (broken rule at) weaker h = tt

-- ---- declarations

-- one entry more, whose name means it from here on
pub declaring-step : (seen : ℕ → Bool) (known : Known) (name : List ℕ) (entry : Declaration) → Sees known.declared seen known.scopes
    → (is_automatic_sort entry.sort ≡ true → seen (length known.declared) ≡ true) → Step seen known (declaring known name entry)
declaring-step seen known name entry sees is =
    let behind = declaring known name entry in
    let grown = grown-more known.declared (entry ∷ []) in record {
      grown = grown;
      sees = sees-with behind.declared seen known.scopes name (length known.declared) (sees-later known.declared behind.declared seen known.scopes grown sees)
          (record { entry = entry; at = get-last known.declared entry; is_seen = is });
      depth = depth-with known.scopes name (length known.declared);
    }

-- a scope of its own, in which all names pass, and what is known behind it
abbrev pub all-pass : ℕ → Bool
all-pass d = true

pub entered-sees : (seen : ℕ → Bool) (known : Known) → Sees known.declared seen known.scopes → Sees (entered known).declared all-pass (entered known).scopes
entered-sees seen known sees =
    sees-in known.declared all-pass map.empty known.scopes (empty-sees known.declared all-pass)
    (sees-changes known.declared known.declared seen all-pass known.scopes (grown-itself known.declared) (λ d is. refl) sees)

pub left-gives : {A : Type 0} (seen : ℕ → Bool) (known : Known) (outcome : Outcome A) → Sees known.declared seen known.scopes → Gives all-pass Any (entered known) outcome
    → Gives seen Any known (left known.scopes outcome)
unfolding Gives
left-gives seen known (given behind it) sees h =
    (record { grown = h.0.grown; sees = sees-later known.declared behind.declared seen known.scopes h.0.grown sees; depth = refl }, tt)
left-gives seen known (broken rule at) sees h = tt

-- ---- names

pub first-of : (one form : Label) (type kind : CType) → ◌≡◌ {A = Option (Label × CType)} (Some (one, type)) (Some (form, kind)) → one ≡ form
first-of one form type kind e = ap (λ (it : Label × CType). it.0) (injected (one, type) (form, kind) e)

named-leaf : (automatic : ℕ → Bool) (scope : Scope) (sort : Sort) (d : ℕ) (type kind : CType) (form : Label) → automatic d ≡ is_automatic_sort sort
    → (is_automatic_sort sort ≡ true → is_in_scope scope d ≡ true) → named_by_sort sort d type ≡ Some (form, kind) → names_in_scope automatic scope form ≡ true
named-leaf automatic scope (Object true) d type kind form fits is e =
    subst (λ it. names_in_scope automatic scope it ≡ true) (first-of (label.object d) form _ kind e) (rw fits refl)
named-leaf automatic scope (Object false) d type kind form fits is e =
    subst (λ it. names_in_scope automatic scope it ≡ true) (first-of (label.object d) form _ kind e) (rw fits (is refl))
named-leaf automatic scope Function d type kind form fits is e =
    subst (λ it. names_in_scope automatic scope it ≡ true) (first-of (label.function d) form _ kind e) refl
named-leaf automatic scope (Enumerator value) d type kind form fits is e =
    subst (λ it. names_in_scope automatic scope it ≡ true) (first-of (label.enumerator d) form _ kind e) refl
named-leaf automatic scope Typedef d type kind form fits is e = absurd (cc)
named-leaf automatic scope Tag d type kind form fits is e = absurd (cc)

module _ (seen : ℕ → Bool) (setting : Setting) (known : Known) (sees : Sees known.declared seen known.scopes) (extent : Extent) where
  name-scoped : (d : ℕ) (entry : Declaration) (form : Label) (kind : CType) → slice_get known.declared d ≡ Some entry → Has known.declared seen d
      → named_by_sort entry.sort d entry.kind ≡ Some (form, kind) → IsScopedIn seen known.declared (made setting.source extent form kind [])
  unfolding IsScopedIn Fits
  name-scoped d entry form kind e has is automatic scope fits covers =
      let same : has.entry ≡ entry = let both : Some has.entry ≡ Some entry = sym has.at ∙ e in cc in
      both-true (names_in_scope automatic scope form) true
      (named-leaf automatic scope entry.sort d entry.kind kind form (fits d entry e)
      (λ auto. covers d (has.is_seen (ap (λ (it : Declaration). is_automatic_sort it.sort) same ∙ auto))) is) (leaf form)
    where
      leaf : (form : Label) → true ≡ true
      leaf form = refl

  named-entry : (used : Bool) (name : List ℕ) (d : ℕ) → number_of known.scopes name ≡ Some d → (found : Option Declaration) → slice_get known.declared d ≡ found
      → Gives seen (IsScopedIn seen) known (named setting used known extent name found)
  named-entry used name d means None e = broken-gives seen (IsScopedIn seen) known 1 extent.inner.first
  named-entry used name d means (Some entry) e =
      let n : unwrap_or (number_of known.scopes name) 0 ≡ d = ap (λ it. unwrap_or it 0) means in
      if-gives seen (IsScopedIn seen) known (named_by_sort entry.sort (unwrap_or (number_of known.scopes name) 0) entry.kind) 1 extent.inner.first _
      (λ it is. obeys-gives seen (IsScopedIn seen) known (may_be_used setting used name entry) 37 extent.inner.first _
      (stays seen (IsScopedIn seen) known (made setting.source extent it.0 it.1 []) sees
      (name-scoped d entry it.0 it.1 e (found-has known.declared seen known.scopes name d sees means)
      (ap (λ k. named_by_sort entry.sort k entry.kind) (sym n) ∙ is))))

  pub name-gives : (used : Bool) (name : List ℕ) → Gives seen (IsScopedIn seen) known (named setting used known extent name (meaning_of known name))
  name-gives used name = by-number (number_of known.scopes name) refl
    where
      by-number : (found : Option ℕ) → number_of known.scopes name ≡ found
          → Gives seen (IsScopedIn seen) known (named setting used known extent name (option_and_then (slice_get known.declared) found))
      by-number None e = broken-gives seen (IsScopedIn seen) known 1 extent.inner.first
      by-number (Some d) e = named-entry used name d e (slice_get known.declared d) refl
