-- The scope of a function definition's parameters, from the entries that they declare.
use Rattle.std.specs.Prelude.{◌≡◌, ℕ, zero, suc, ◌≤◌, ◌+◌, Bool, true, false, ◌&&◌, if◌then◌else◌, List, [], ◌∷◌, ◌++◌, length, Option, Some, None, is_some, refl, slice_get}
use Rattle.std.specs.Cmp.Lexicographic.{slice_cmp, texts_ties}
use Rattle.std.specs.FinMap as finite
use Rattle.std.specs.FinMap.{slice_cmp-IsAntisymmetric, nat_cmp-IsAntisymmetric, same_map}
use Rattle.std.specs.Ordering.{nat_cmp, eq_by_cmp}
use Rattle.std.proofs.Common.{sym, ap, ◌∙◌, subst, cond, arith, ⊎_elim, eq-eqb, eqb-true}
use Rattle.std.proofs.lemmas.Cmp.{nat_list_cmp_total}
use Rattle.std.proofs.lemmas.Slice.Eq.{bytes_eq-Decides}
use Rattle.dm_type.specs.TableLaws.{injected}
use Rattle.dm_name_map.specs.Numbers.{Numbers}
use Rattle.dm_syn.specs.Sources.{Source}
use Rattle.dm_syn.specs.Trees.{Parameters, Parameter}
use Rattle.dm_syn.specs.Trees as tree
use Rattle.dm_tree.specs.Units.{Declaration}
use Rattle.dm_typing.specs.Known.{Known, Setting, Outcome, given}
use Rattle.dm_typing.specs.Conversions.{is_complete}
use Rattle.dm_typing.specs.Typing.{TypedParameter, entered, is_no_parameters, parameter_of, parameter_at}
use Rattle.dm_edecl.specs.Units.{is_only, defined_parameter, defined_parameters, innermost}
use Rattle.dm_eunit.specs.declared.naming.Numbered.{Numbered}
use Rattle.dm_eunit.specs.Naming.{key_of, is_number, names_in, with_name, with_names}
use Rattle.dm_eunit.proofs.SettingLemmas.{IsNamed, Declares, Both, LeadsTo, after-both, with-both, obeys-both, there, parameter-both}

-- ---- what the parameters declare

chosen-both : {A : Type 0} (known : Known) (test : Bool) (one other : Outcome A) → Both known one one → Both known other other
    → Both known (if test then one else other) (if test then one else other)
chosen-both known true one other h k = h
chosen-both known false one other h k = k

module _ (source : Source) (lacks : List ℕ → Bool) where
  abbrev a : Setting
  a = record { source = source; lacks = lacks }

  parameter-adds : (alone : Bool) (known : Known) (one : Parameter) → Both known (defined_parameter a alone known one) (defined_parameter a alone known one)
  parameter-adds alone known (tree.parameter span specifiers declarator) =
      after-both known (parameter_of a true known (tree.parameter span specifiers declarator)) _ _ _
      (parameter-both source lacks lacks (λ at. refl) true known (tree.parameter span specifiers declarator))
      (λ behind one. chosen-both behind (alone && is_no_parameters (one ∷ [])) _ _ (there behind _ _ refl)
      (obeys-both behind (is_complete behind one.kind) _ 5 (parameter_at span declarator) _ _ refl
      (obeys-both behind (is_some one.declared) _ 35 span.first _ _ refl (there behind _ _ refl))))

  parameters-add : (alone : Bool) (known : Known) (parameters : Parameters) → Both known (defined_parameters a alone known parameters) (defined_parameters a alone known parameters)
  parameters-add alone known tree.no_parameters = there known _ _ refl
  parameters-add alone known (tree.more_parameters first others) =
      after-both known (defined_parameter a (alone && is_only others) known first) _ _ _ (parameter-adds (alone && is_only others) known first)
      (λ then_known made. with-both then_known _ _ _ _ (parameters-add false then_known others) (λ behind rest. refl))

  -- they are declared in the innermost scope
  pub parameters-declare : (known inside : Known) (parameters : Parameters) (typed : List TypedParameter) → defined_parameters a true known parameters ≡ given inside typed → Declares known inside
  parameters-declare known inside parameters typed e = subst (LeadsTo known) e (parameters-add true known parameters).adds

-- ---- the scope

-- a scope says nothing else than another
IsPart : Numbers → Numbers → Type 0
IsPart part scope = (name : List ℕ) (number : ℕ) → finite.get part name ≡ Some number → finite.get scope name ≡ Some number

-- it has a number for a name
has : Numbers → List ℕ → Bool
has scope name = is_some (finite.get scope name)

-- each name has this number
AllIn : Numbers → List Numbered → Type 0
AllIn scope [] = Unit {0}
AllIn scope (one ∷ others) = (finite.get scope one.name ≡ Some one.number) × AllIn scope others

part-put : (part scope : Numbers) (one : Numbered) → IsPart part scope → finite.get scope one.name ≡ Some one.number → (test : Bool) → IsPart (if test then part else finite.insert part one.name one.number) scope
unfolding IsPart
part-put part scope one h is true name number e = h name number e
part-put part scope one h is false name number e =
    go (eq_by_cmp (slice_cmp nat_cmp) name one.name) refl (sym (finite.get-insert nat_list_cmp_total part one.name one.number name) ∙ e)
  where
    go : (test : Bool) → eq_by_cmp (slice_cmp nat_cmp) name one.name ≡ test → cond test (Some one.number) (finite.get part name) ≡ Some number → finite.get scope name ≡ Some number
    go true same f = ap (finite.get scope) ((bytes_eq-Decides name one.name).0 (texts_ties name one.name ∙ same)) ∙ (is ∙ f)
    go false same f = h name number f

parts-put : (part scope : Numbers) (names : List Numbered) → IsPart part scope → AllIn scope names → IsPart (with_names part names) scope
unfolding AllIn
parts-put part scope [] h all = h
parts-put part scope (one ∷ others) h all =
    parts-put (with_name part one) scope others (part-put part scope one h all.0 (finite.contains_key part one.name)) all.1

has-put : (part : Numbers) (one : Numbered) (name : List ℕ) → has part name ≡ true → (test : Bool) → has (if test then part else finite.insert part one.name one.number) name ≡ true
unfolding has
has-put part one name h true = h
has-put part one name h false =
    ap is_some (finite.get-insert nat_list_cmp_total part one.name one.number name) ∙ go (eq_by_cmp (slice_cmp nat_cmp) name one.name) (finite.get part name) h
  where
    go : (test : Bool) (found : Option ℕ) → is_some found ≡ true → is_some (cond test (Some one.number) found) ≡ true
    go true found e = refl
    go false found e = e

has-itself : (part : Numbers) (one : Numbered) (test : Bool) → finite.contains_key part one.name ≡ test → has (if test then part else finite.insert part one.name one.number) one.name ≡ true
unfolding has
has-itself part one true e = e
has-itself part one false e =
    ap is_some (finite.get-insert nat_list_cmp_total part one.name one.number one.name)
    ∙ ap (λ test. is_some (cond test (Some one.number) (finite.get part one.name))) (sym (texts_ties one.name one.name) ∙ (bytes_eq-Decides one.name one.name).1 refl)

has-on : (part : Numbers) (names : List Numbered) (name : List ℕ) → has part name ≡ true → has (with_names part names) name ≡ true
has-on part [] name h = h
has-on part (one ∷ others) name h = has-on (with_name part one) others name (has-put part one name h (finite.contains_key part one.name))

number-is : (found : Option ℕ) (n : ℕ) → is_number found n ≡ true → found ≡ Some n
number-is (Some other) n h = ap Some (eqb-true other n h)
number-is None n h = absurd (cc)

is-number : (found : Option ℕ) (n : ℕ) → found ≡ Some n → is_number found n ≡ true
is-number found n e = ap (λ it. is_number it n) e ∙ eq-eqb n n refl

in-chosen : (scope : Numbers) (one : Numbered) (others : List Numbered) → AllIn scope others → (test : Bool) → (test ≡ true → finite.get scope one.name ≡ Some one.number)
    → AllIn scope (if test then one ∷ others else others)
unfolding AllIn
in-chosen scope one others h true is = (is refl, h)
in-chosen scope one others h false is = h

all-in : (scope : Numbers) (n : ℕ) (entries : List Declaration) → AllIn scope (names_in scope n entries)
unfolding AllIn
all-in scope n [] = tt
all-in scope n (entry ∷ entries) =
    in-chosen scope (record { name = key_of entry; number = n }) (names_in scope (n + 1) entries) (all-in scope (n + 1) entries) (is_number (finite.get scope (key_of entry)) n)
    (number-is (finite.get scope (key_of entry)) n)

has-chosen : (part : Numbers) (one : Numbered) (others : List Numbered) (name : List ℕ) → ((it : Numbers) → has (with_names it others) name ≡ true) → (test : Bool)
    → has (with_names part (if test then one ∷ others else others)) name ≡ true
has-chosen part one others name h true = h (with_name part one)
has-chosen part one others name h false = h part

has-there : (scope part : Numbers) (n : ℕ) (entries : List Declaration) (i k : ℕ) (entry : Declaration) → slice_get entries i ≡ Some entry → finite.get scope (key_of entry) ≡ Some k → k ≡ n + i
    → has (with_names part (names_in scope n entries)) (key_of entry) ≡ true
has-there scope part n [] i k entry h is e = absurd (cc)
has-there scope part n (first ∷ entries) zero k entry h is e =
    let same : first ≡ entry = injected first entry h in
    let here : finite.get scope (key_of first) ≡ Some n = ap (λ (it : Declaration). finite.get scope (key_of it)) same ∙ (is ∙ ap Some (omega (arith, e))) in
    let one : Numbered = record { name = key_of first; number = n } in
    ap (λ test. has (with_names part (if test then one ∷ names_in scope (n + 1) entries else names_in scope (n + 1) entries)) (key_of entry)) (is-number (finite.get scope (key_of first)) n here)
    ∙ subst (λ (it : Declaration). has (with_names (with_name part one) (names_in scope (n + 1) entries)) (key_of it) ≡ true) same
    (has-on (with_name part one) (names_in scope (n + 1) entries) (key_of first) (has-itself part one (finite.contains_key part one.name) refl))
has-there scope part n (first ∷ entries) (suc i) k entry h is e =
    has-chosen part (record { name = key_of first; number = n }) (names_in scope (n + 1) entries) (key_of entry)
    (λ it. has-there scope it (n + 1) entries i k entry h is (omega (arith, e))) (is_number (finite.get scope (key_of first)) n)

same-there : (one other : Option ℕ) → ((number : ℕ) → one ≡ Some number → other ≡ Some number) → ((number : ℕ) → other ≡ Some number → is_some one ≡ true) → one ≡ other
same-there (Some n) other h k = sym (h n refl)
same-there None None h k = refl
same-there None (Some n) h k = absurd (let e = k n refl in cc)

-- the names that a scope has among some entries are all
names-again : (scope : Numbers) (n : ℕ) (entries : List Declaration)
    → ((name : List ℕ) (number : ℕ) → finite.get scope name ≡ Some number → (i : ℕ) × (entry : Declaration) × (slice_get entries i ≡ Some entry) × (key_of entry ≡ name) × (number ≡ n + i))
    → with_names finite.empty (names_in scope n entries) ≡ scope
unfolding IsPart has
names-again scope n entries named = same_map nat_list_cmp_total (slice_cmp-IsAntisymmetric nat_cmp-IsAntisymmetric) (with_names finite.empty (names_in scope n entries)) scope at
  where
    none : IsPart finite.empty scope
    none name number e = absurd (let f = sym (finite.get-empty (slice_cmp nat_cmp) name) ∙ e in cc)

    at : (name : List ℕ) → finite.get (with_names finite.empty (names_in scope n entries)) name ≡ finite.get scope name
    at name =
        same-there (finite.get (with_names finite.empty (names_in scope n entries)) name) (finite.get scope name)
        (λ number e. parts-put finite.empty scope (names_in scope n entries) none (all-in scope n entries) name number e)
        (λ number e. let it = named name number e in
        subst (λ key. has (with_names finite.empty (names_in scope n entries)) key ≡ true) it.3
        (has-there scope finite.empty n entries it.0 number it.1 it.2 (ap (finite.get scope) it.3 ∙ e) it.4))

get-behind : {A : Type 0} (xs ys : List A) (n : ℕ) (x : A) → length xs ≤ n → slice_get (xs ++ ys) n ≡ Some x → (i : ℕ) × (slice_get ys i ≡ Some x) × (n ≡ length xs + i)
get-behind [] ys n x low h = (n, h, omega arith)
get-behind (y ∷ xs) ys zero x low h = absurd (omega (arith, low))
get-behind (y ∷ xs) ys (suc n) x low h = let it = get-behind xs ys n x (omega (arith, low)) h in (it.0, it.1, let e = it.2 in omega (arith, e))

-- the scope of what parameters declare, from the entries that are new
pub scope-again : (known inside : Known) (h : Declares (entered known) inside)
    → with_names finite.empty (names_in (innermost inside.scopes) (length known.declared) h.more) ≡ innermost inside.scopes
scope-again known inside h = names-again (innermost inside.scopes) (length known.declared) h.more (λ name number e.
    let is : IsNamed inside.declared (length known.declared) number name =
    ⊎_elim (λ old. absurd (let f = sym (finite.get-empty (slice_cmp nat_cmp) name) ∙ old in cc)) (λ new. new) (h.named name number e) in
    let it = get-behind known.declared h.more number is.entry is.from_there (sym (ap (λ (entries : List Declaration). slice_get entries number) h.declared) ∙ is.at) in
    (it.0, is.entry, it.1, is.key, it.2))
