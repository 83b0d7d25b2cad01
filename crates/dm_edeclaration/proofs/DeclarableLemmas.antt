-- What may be declared, and what holds behind its declarator.
use Rattle.std.specs.Prelude.{◌≡◌, ℕ, Bool, true, false, ◌||◌, not, length, Option, Some, None, IfSome, unwrap_or, refl}
use Rattle.std.proofs.Common.{sym, ap, ◌∙◌, subst, arith}
use Rattle.dm_type.specs.Alike.{are_compatible}
use Rattle.dm_type.specs.CTypes.{CType}
use Rattle.dm_tree.specs.declared.unit.Sort.{Sort}
use Rattle.dm_tree.specs.declared.unit.Sort.TheVariants.{Object, Function}
use Rattle.dm_tree.specs.Initialisers.{is_object, is_function_sort}
use Rattle.dm_tree.specs.Typing.{FitsSort, IsEntry, has_linkage}
use Rattle.dm_tree.specs.Units.{Declaration}
use Rattle.dm_typing.specs.Bounds.{AreBelow}
use Rattle.dm_typing.specs.Known.{Known}
use Rattle.dm_typing.specs.Sound.{IsProper}
use Rattle.dm_typing.proofs.TypeLemmas.{both-hold}
use Rattle.dm_eexpr.proofs.KeepLemmas.{Adds}
use Rattle.dm_edecl.specs.Standing.{Linked, Standing, Progress, stops, keeps, knowing}
use Rattle.dm_edecl.specs.Linkages.{whole_kind, kind_seen, may_be_declared, known_kind, number_here, declared_here, is_defined}
use Rattle.dm_edecl.specs.Declaring.{Specified, is_misplaced_static, may_be_object, may_be_main, declarable, may_define}
use Rattle.dm_edecl.specs.Settled.{is_linked}
use Rattle.dm_edecl.proofs.DeclarationFitLemmas.{not-true, fresh-number, link-absent, never-linked}
use Rattle.dm_edecl.proofs.LinkLemmas.{proper-push, agree-push}
use Rattle.dm_estanding.specs.Proceeding.{IsLawful}
use Rattle.dm_estanding.specs.Summaries.{MayBeAdded}
use Rattle.dm_estanding.proofs.AgreementLemmas.{linked-found}
use Rattle.dm_estanding.proofs.DeclaringLemmas.{names-kind, called-kind, called-found}
use Rattle.dm_estanding.proofs.LawfulLemmas.{MayBeDefined, knowing-names}
use Rattle.dm_estanding.proofs.UnitedLemmas.{named-linked}
use Rattle.dm_edeclaration.specs.Steps.{broken_unless, rule_broken, IsNamed}

-- ---- rules

-- what follows, unless a rule is broken
abbrev pub by_rule : {A : Type 0} → Option (ℕ × ℕ) → Progress A → Progress A
by_rule None next = next
by_rule (Some fault) next = stops fault.0 fault.1

keeps-by : {A : Type 0} (test : Bool) (rule at : ℕ) (broken : Option (ℕ × ℕ)) (next : Progress A) → keeps test rule at (by_rule broken next) ≡ by_rule (broken_unless test rule at broken) next
keeps-by true rule at broken next = refl
keeps-by false rule at broken next = refl

pub declarable-by : {A : Type 0} (said : Specified) (s : Standing) (initialised : Bool) (here name : ℕ) (entry : Declaration) (next : Progress A)
    → declarable said s initialised here name entry next ≡ by_rule (rule_broken said s initialised here name entry) next
declarable-by said s initialised here name entry next =
    let static = not (is_misplaced_static s.known said.storage entry.sort) in
    let may = may_be_declared s entry in
    let object = may_be_object s.known said.storage initialised entry.sort (kind_seen s entry) in
    let main = may_be_main s.known entry in
    let last = broken_unless main 36 name None in
    ap (λ p. keeps may 2 name (keeps static 3 said.first (keeps object 5 here p))) (keeps-by main 36 name None next)
    ∙ ap (λ p. keeps may 2 name (keeps static 3 said.first p)) (keeps-by object 5 here last next)
    ∙ ap (λ p. keeps may 2 name p) (keeps-by static 3 said.first (broken_unless object 5 here last) next)
    ∙ keeps-by may 2 name (broken_unless static 3 said.first (broken_unless object 5 here last)) next

none-first : (test : Bool) (rule at : ℕ) (broken : Option (ℕ × ℕ)) → broken_unless test rule at broken ≡ None → test ≡ true
none-first true rule at broken h = refl
none-first false rule at broken h = absurd (cc)

none-then : (test : Bool) (rule at : ℕ) (broken : Option (ℕ × ℕ)) → broken_unless test rule at broken ≡ None → broken ≡ None
none-then true rule at broken h = h
none-then false rule at broken h = absurd (cc)

pub not-misplaced : (said : Specified) (s : Standing) (initialised : Bool) (here name : ℕ) (entry : Declaration) → rule_broken said s initialised here name entry ≡ None
    → is_misplaced_static s.known said.storage entry.sort ≡ false
not-misplaced said s initialised here name entry h =
    not-true (is_misplaced_static s.known said.storage entry.sort)
    (none-first (not (is_misplaced_static s.known said.storage entry.sort)) 3 said.first _ (none-then (may_be_declared s entry) 2 name _ h))

-- the rule that the tests come to
module _ (said : Specified) (s : Standing) (initialised : Bool) (here name : ℕ) (entry : Declaration) where
  last_of : Option (ℕ × ℕ)
  last_of = broken_unless (may_be_main s.known entry) 36 name None

  after-third : Option (ℕ × ℕ)
  after-third = broken_unless (may_be_object s.known said.storage initialised entry.sort (kind_seen s entry)) 5 here last_of

  after-second : Option (ℕ × ℕ)
  after-second = broken_unless (not (is_misplaced_static s.known said.storage entry.sort)) 3 said.first after-third

  pub second-rule : may_be_declared s entry ≡ false → rule_broken said s initialised here name entry ≡ Some (2, name)
  unfolding after-second after-third last_of
  second-rule b = ap (λ test. broken_unless test 2 name after-second) b

  module _ (b : may_be_declared s entry ≡ true) where
    not-second : rule_broken said s initialised here name entry ≡ after-second
    unfolding after-second after-third last_of
    not-second = ap (λ test. broken_unless test 2 name after-second) b

    pub third-rule : is_misplaced_static s.known said.storage entry.sort ≡ true → rule_broken said s initialised here name entry ≡ Some (3, said.first)
    unfolding after-second
    third-rule a = not-second ∙ ap (λ test. broken_unless (not test) 3 said.first after-third) a

    module _ (a : is_misplaced_static s.known said.storage entry.sort ≡ false) where
      not-third : rule_broken said s initialised here name entry ≡ after-third
      unfolding after-second
      not-third = not-second ∙ ap (λ test. broken_unless (not test) 3 said.first after-third) a

      pub fifth-rule : may_be_object s.known said.storage initialised entry.sort (kind_seen s entry) ≡ false → rule_broken said s initialised here name entry ≡ Some (5, here)
      unfolding after-third
      fifth-rule c = not-third ∙ ap (λ test. broken_unless test 5 here last_of) c

      pub last-rule : may_be_object s.known said.storage initialised entry.sort (kind_seen s entry) ≡ true → (may : Bool) → may_be_main s.known entry ≡ may
          → rule_broken said s initialised here name entry ≡ broken_unless may 36 name None
      unfolding after-third last_of
      last-rule c may d = not-third ∙ ap (λ test. broken_unless test 5 here last_of) c ∙ ap (λ test. broken_unless test 36 name None) d

-- ---- behind a declarator

object-or-function : (sort : Sort) (kind : CType) (linked : Bool) → FitsSort sort kind linked → is_function_sort sort ≡ true → linked ≡ true
object-or-function Function kind linked fits h = fits.1
object-or-function sort kind linked fits h = absurd (cc)

module _ (s : Standing) (entry : Declaration) (lawful : IsLawful s) (below : AreBelow (length s.known.declared) s.known.scopes) (may : may_be_declared s entry ≡ true) where
  -- an object without linkage is new
  alone : has_linkage entry.linkage ≡ false → is_object entry.sort ≡ true → is_linked (number_here s entry) (declared_here s entry).linked ≡ false
  alone unlinked object =
      let number = number_here s entry in
      let fresh = fresh-number s entry unlinked object may in
      link-absent (has_linkage entry.linkage) number entry.kind false s.linked unlinked
      (never-linked (is_linked number s.linked) (λ h. let one = lawful.within number h in absurd (omega (arith, one, fresh))))

  pub named-here : IsEntry entry → IsNamed entry (number_here s entry) (declared_here s entry)
  named-here is = record {
    linked = λ linked. named-linked s entry lawful below false linked;
    unlinked = alone;
    functions = λ function. object-or-function entry.sort entry.kind (has_linkage entry.linkage) is function;
  }

-- what is typed behind it leaves it so
pub named-still : (s : Standing) (known : Known) (adds : Adds s.known known) (lawful : IsLawful s) (entry : Declaration) (number : ℕ) → IsNamed entry number s → IsNamed entry number (knowing s known)
named-still s known adds lawful entry number named = record {
  linked = λ linked. knowing-names s known adds lawful entry.name ∙ named.linked linked;
  unlinked = named.unlinked;
  functions = named.functions;
}

-- ---- an object that its initialiser defines

object-only : (sort : Sort) (linked : Bool) → (is_function_sort sort ≡ true → linked ≡ true) → (is_function_sort sort || is_object sort) ≡ true → linked ≡ false → is_object sort ≡ true
object-only (Object fixed) linked functions h e = refl
object-only Function linked functions h e = let yes = functions refl in absurd (cc)
object-only sort linked functions h e = absurd (cc)

module _ (s : Standing) (entry : Declaration) (number : ℕ) (kind : CType) (lawful : IsLawful s) (named : IsNamed entry number s) (may : may_define s number kind ≡ true) where
  alike : are_compatible (unwrap_or (whole_kind number s.linked) kind) kind ≡ true
  alike = (both-hold (are_compatible (unwrap_or (whole_kind number s.linked) kind) kind) (not (is_defined number s.linked)) may).0

  fits : (whole : CType) → whole_kind number s.linked ≡ Some whole → are_compatible whole kind ≡ true
  fits whole e = subst (λ found. are_compatible (unwrap_or found kind) kind ≡ true) e alike

  pub may-be-defined : (is_function_sort entry.sort || is_object entry.sort) ≡ true → MayBeDefined s (has_linkage entry.linkage) number kind
  may-be-defined starts = record {
    shared = λ linked. (linked-found entry.name s.known.declared s.linked number (named.linked linked), fits);
    alone = λ none. named.unlinked none (object-only entry.sort (has_linkage entry.linkage) named.functions starts none);
  }

  pub defined-added : IsProper kind → has_linkage entry.linkage ≡ true → MayBeAdded (known_kind number kind s.known).declared s.linked entry.name number kind true
  defined-added proper linked =
      let one : Linked = record { number = number; kind = kind; defines = true } in
      let found = named.linked linked in
      record {
        called = called-kind entry.name number kind s.known.declared number ∙ called-found entry.name s.known.declared s.linked number found;
        once = subst (λ it. IfSome it (λ other. other ≡ number)) (sym (names-kind entry.name number kind s.known.declared s.linked ∙ found)) refl;
        proper = proper-push one s.linked lawful.proper proper;
        bounds = agree-push one s.linked lawful.proper lawful.agree fits number;
      }
