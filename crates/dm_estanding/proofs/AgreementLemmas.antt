-- Declarations of one entry agree, so each type that it has on the way is compatible with the next.
use Rattle.std.specs.Prelude.{◌≡◌, ◌==◌, ◌++◌, ◌∷◌, [], ℕ, Bool, true, false, ◌&&◌, ◌||◌, if◌then◌else◌, List, Some, is_some, unwrap_or, slice_get, refl}
use Rattle.std.proofs.Common.{sym, ap, ◌∙◌, subst}
use Rattle.dm_type.specs.Alike.{are_compatible}
use Rattle.dm_type.specs.CTypes.{CType}
use Rattle.dm_type.specs.TableLaws.{injected}
use Rattle.dm_tree.specs.Composites.{covers}
use Rattle.dm_tree.specs.Initialisers.{is_object, is_function_sort}
use Rattle.dm_tree.specs.Typing.{has_linkage}
use Rattle.dm_tree.specs.Units.{Declaration}
use Rattle.dm_typing.proofs.CoverLemmas.{covered-compatible}
use Rattle.dm_typing.proofs.KindLemmas.{numbers-same}
use Rattle.dm_typing.proofs.TypeLemmas.{both-hold}
use Rattle.dm_edecl.specs.Standing.{Linked, Standing}
use Rattle.dm_edecl.specs.Linkages.{composite_with, whole_kind, is_called, number_linked, number_shared, meaning_here, is_linked_if_there, is_same_typedef, is_same_linkage, agree, agrees_with, agrees_if_there, may_be_declared}
use Rattle.dm_edecl.specs.Settled.{IsBound, is_linked}
use Rattle.dm_edecl.proofs.LinkLemmas.{some-now, some-then, bound-front, bound-last, agree-push}
use Rattle.dm_edecl.proofs.NamingLemmas.{three-hold}
use Rattle.dm_estanding.specs.Proceeding.{IsLawful}
use Rattle.dm_estanding.specs.Summaries.{AreSeenCompatible}

-- the entry of a name that has linkage has declarations
pub linked-found : (name : List ℕ) (declared : List Declaration) (linked : List Linked) (number : ℕ) → number_linked name declared linked ≡ Some number → is_linked number linked ≡ true
linked-found name declared [] number h = absurd (cc)
linked-found name declared (one ∷ others) number h = go (linked-found name declared others number) (is_called name (slice_get declared one.number)) h
  where
    go : (number_linked name declared others ≡ Some number → is_linked number others ≡ true) → (test : Bool) → (if test then Some one.number else number_linked name declared others) ≡ Some number
        → is_some (if one.number == number then Some (composite_with one.kind (whole_kind number others)) else whole_kind number others) ≡ true
    go further true e =
        some-now (one.number == number) (composite_with one.kind (whole_kind number others)) (whole_kind number others) (numbers-same one.number number (injected one.number number e))
    go further false e = some-then (one.number == number) (composite_with one.kind (whole_kind number others)) (whole_kind number others) (further e)

module _ (s : Standing) (entry : Declaration) (lawful : IsLawful s) (may : may_be_declared s entry ≡ true) where
  agrees : has_linkage entry.linkage ≡ true → agrees_if_there s entry (number_shared s entry.name) ≡ true
  agrees linkage =
      (both-hold (is_linked_if_there (meaning_here s.known entry.name)) (agrees_if_there s entry (number_shared s entry.name))
      (sym (ap (λ test. if test then is_linked_if_there (meaning_here s.known entry.name) && agrees_if_there s entry (number_shared s entry.name)
      else is_same_typedef (meaning_here s.known entry.name) entry) linkage) ∙ may)).1

  pub seen-compatible : AreSeenCompatible s entry
  seen-compatible linkage number old shared there = covered-compatible all.0 old.kind entry.kind earlier (bound-last one all.0 number s.linked all.1 (numbers-same number number refl))
    where
      one : Linked
      one = record { number = number; kind = entry.kind; defines = false }

      agreed : agree old (unwrap_or (whole_kind number s.linked) old.kind) entry ≡ true
      agreed = sym (ap (agrees_with (whole_kind number s.linked) entry) there) ∙ sym (ap (agrees_if_there s entry) shared) ∙ agrees linkage

      alike : are_compatible (unwrap_or (whole_kind number s.linked) old.kind) entry.kind ≡ true
      alike = (three-hold (is_object old.sort && is_object entry.sort || is_function_sort old.sort && is_function_sort entry.sort) (is_same_linkage old.linkage entry.linkage)
          (are_compatible (unwrap_or (whole_kind number s.linked) old.kind) entry.kind) agreed).2

      all : (bound : CType) × IsBound bound number (s.linked ++ one ∷ [])
      all = agree-push one s.linked lawful.proper lawful.agree (λ whole e. subst (λ found. are_compatible (unwrap_or found old.kind) entry.kind ≡ true) e alike) number

      earlier : covers all.0 old.kind ≡ true
      earlier = lawful.kinds number old all.0 (linked-found entry.name s.known.declared s.linked number shared) there (bound-front one all.0 number s.linked all.1)
