-- A name means one entry with linkage behind a declarator too (6.2.2p2).
use Rattle.std.specs.Prelude.{◌≡◌, ℕ, ◌⊎◌, zero, suc, Bool, true, false, if◌then◌else◌, List, [], ◌∷◌, ◌++◌, length, Option, Some, None, is_some, unwrap_or, slice_get, refl}
use Rattle.std.specs.Cmp.Lexicographic.{slice_cmp, texts_ties}
use Rattle.std.specs.FinMap as finite
use Rattle.std.specs.Ordering.{nat_cmp, eq_by_cmp}
use Rattle.std.proofs.Common.{sym, ap, ◌∙◌, subst, cond, inl, inr, ⊎_elim}
use Rattle.std.proofs.lemmas.Cmp.{nat_list_cmp_total}
use Rattle.std.proofs.lemmas.Slice.Eq.{bytes_eq-Decides}
use Rattle.dm_type.specs.CTypes.{CType}
use Rattle.dm_type.specs.TableLaws.{injected}
use Rattle.dm_scope.specs.Scopes.{Scopes, or_else, number_of, declared as declared_in}
use Rattle.dm_tree.specs.Typing.{has_linkage}
use Rattle.dm_tree.specs.Units.{Declaration}
use Rattle.dm_typing.specs.Bounds.{AreBelow}
use Rattle.dm_enames.proofs.TagStepLemmas.{number-below}
use Rattle.dm_edecl.specs.Standing.{Standing}
use Rattle.dm_edecl.specs.Linkages.{is_called, number_linked, number_shared, meaning_here, number_before, with_kind, naming, number_here, named_here, with_link_if, kind_seen}
use Rattle.dm_edecl.proofs.KeepsLemmas.{front-kept}
use Rattle.dm_edecl.proofs.NamingLemmas.{last-get}
use Rattle.dm_estanding.specs.Proceeding.{IsLawful}
use Rattle.dm_estanding.specs.Summaries.{IsUnited, declared_as}
use Rattle.dm_estanding.proofs.LinkLemmas.{number-push, number_if}
use Rattle.dm_estanding.proofs.DeclaringLemmas.{names-here}

-- the number of a name where another is declared
number-put : (scopes : Scopes) (name : List ℕ) (n : ℕ) (other : List ℕ) (k : ℕ) → number_of (declared_in scopes name n) other ≡ Some k
    → ((other ≡ name) × (k ≡ n)) ⊎ (number_of scopes other ≡ Some k)
number-put [] name n other k h = inr h
number-put (scope ∷ scopes) name n other k h =
    go (eq_by_cmp (slice_cmp nat_cmp) other name) refl (sym (ap (λ found. or_else found (number_of scopes other)) (finite.get-insert nat_list_cmp_total scope name n other)) ∙ h)
  where
    go : (test : Bool) → eq_by_cmp (slice_cmp nat_cmp) other name ≡ test → or_else (cond test (Some n) (finite.get scope other)) (number_of scopes other) ≡ Some k
        → ((other ≡ name) × (k ≡ n)) ⊎ (or_else (finite.get scope other) (number_of scopes other) ≡ Some k)
    go true t e = inl ((bytes_eq-Decides other name).0 (texts_ties other name ∙ t), sym (injected n k e))
    go false t e = inr e

-- the linkage of an entry that has another type
linkage-kind : (n : ℕ) (kind : CType) (entries : List Declaration) (at : ℕ) (now : Declaration) → slice_get (with_kind n kind entries) at ≡ Some now
    → (old : Declaration) × (slice_get entries at ≡ Some old) × (old.linkage ≡ now.linkage)
linkage-kind n kind [] at now h = absurd (cc)
linkage-kind zero kind (entry ∷ entries) zero now h = (entry, refl, ap-linkage (record entry { kind = kind }) now h)
  where
    ap-linkage : (one other : Declaration) → Some one ≡ Some other → one.linkage ≡ other.linkage
    ap-linkage one other e = ap (λ (it : Declaration). it.linkage) (injected one other e)
linkage-kind zero kind (entry ∷ entries) (suc at) now h = (now, h, refl)
linkage-kind (suc n) kind (entry ∷ entries) zero now h = (now, h, refl)
linkage-kind (suc n) kind (entry ∷ entries) (suc at) now h = linkage-kind n kind entries at now h

module _ (s : Standing) (entry : Declaration) (lawful : IsLawful s) (below : AreBelow (length s.known.declared) s.known.scopes) where
  -- the earlier entry of a number that was there
  linkage-before : (kind : CType) (found : Option ℕ) (name : List ℕ) (number : ℕ) (now : Declaration) → number_of s.known.scopes name ≡ Some number
      → slice_get (naming s.known kind entry found).declared number ≡ Some now → (old : Declaration) × (slice_get s.known.declared number ≡ Some old) × (old.linkage ≡ now.linkage)
  linkage-before kind (Some n) name number now e h = linkage-kind n kind s.known.declared number now h
  linkage-before kind None name number now e h =
      (now, sym (front-kept s.known.declared (entry ∷ []) number (number-below (length s.known.declared) s.known.scopes name number below e)) ∙ h, refl)

  -- a name that has a number before has it in what is linked
  still : (kind : CType) (found : Option ℕ) (name : List ℕ) (number : ℕ) (now : Declaration) → number_of s.known.scopes name ≡ Some number
      → slice_get (naming s.known kind entry found).declared number ≡ Some now → has_linkage now.linkage ≡ true
      → number_linked name (naming s.known kind entry found).declared s.linked ≡ Some number
  still kind found name number now e h linkage =
      let old = linkage-before kind found name number now e h in
      names-here s entry lawful kind found name ∙ lawful.united name number old.0 e old.1 (ap has_linkage old.2 ∙ linkage)

  -- and has it with one declaration more
  more : (linked : Bool) (n : ℕ) (kind : CType) (defines : Bool) (name : List ℕ) (declared : List Declaration) (number : ℕ) → number_linked name declared s.linked ≡ Some number
      → number_linked name declared (with_link_if linked n kind defines s.linked) ≡ Some number
  more false n kind defines name declared number h = h
  more true n kind defines name declared number h =
      number-push name declared (record { number = n; kind = kind; defines = defines }) s.linked
      ∙ ap (λ found. or_else found (number_if (is_called name (slice_get declared n)) n)) h

  -- that of the name itself where it has linkage
  itself-linked : (kind : CType) (defines : Bool) (found : Option ℕ) → number_shared s entry.name ≡ found
      → number_linked entry.name (naming s.known kind entry found).declared (with_link_if true (unwrap_or found (length s.known.declared)) entry.kind defines s.linked)
      ≡ Some (unwrap_or found (length s.known.declared))
  itself-linked kind defines (Some n) e =
      more true n entry.kind defines entry.name (naming s.known kind entry (Some n)).declared n (names-here s entry lawful kind (Some n) entry.name ∙ e)
  itself-linked kind defines None e =
      let many = length s.known.declared in
      let all = s.known.declared ++ entry ∷ [] in
      number-push entry.name all (record { number = many; kind = entry.kind; defines = defines }) s.linked
      ∙ ap (λ found. or_else found (number_if (is_called entry.name (slice_get all many)) many)) (names-here s entry lawful kind None entry.name ∙ e)
      ∙ ap (λ test. number_if test many) (ap (is_called entry.name) (last-get s.known.declared entry) ∙ (bytes_eq-Decides entry.name entry.name).1 refl)

  pub named-linked : (defines : Bool) → has_linkage entry.linkage ≡ true
      → number_linked entry.name (declared_as s entry defines).known.declared (declared_as s entry defines).linked ≡ Some (number_here s entry)
  named-linked defines linked = go (has_linkage entry.linkage) linked
    where
      kind : CType
      kind = kind_seen s entry

      before : Bool → Option ℕ
      before test = if test then number_shared s entry.name else if is_some (meaning_here s.known entry.name) then number_of s.known.scopes entry.name else None

      go : (test : Bool) → test ≡ true
          → number_linked entry.name (naming s.known kind entry (before test)).declared (with_link_if test (unwrap_or (before test) (length s.known.declared)) entry.kind defines s.linked)
          ≡ Some (unwrap_or (before test) (length s.known.declared))
      go true e = itself-linked kind defines (number_shared s entry.name) refl
      go false e = absurd (cc)

  -- that of the name itself, by what was found before
  itself : (kind : CType) (defines : Bool) (linked : Bool) → has_linkage entry.linkage ≡ linked → (some : Bool) (found : Option ℕ)
      → (if linked then number_shared s entry.name else if some then number_of s.known.scopes entry.name else None) ≡ found
      → (now : Declaration) → slice_get (naming s.known kind entry found).declared (unwrap_or found (length s.known.declared)) ≡ Some now → has_linkage now.linkage ≡ true
      → number_linked entry.name (naming s.known kind entry found).declared (with_link_if linked (unwrap_or found (length s.known.declared)) entry.kind defines s.linked)
      ≡ Some (unwrap_or found (length s.known.declared))
  itself kind defines true l some found e now h linkage = itself-linked kind defines found e
  itself kind defines false l true (Some n) e now h linkage = still kind (Some n) entry.name n now e h linkage
  itself kind defines false l false (Some n) e now h linkage = absurd (cc)
  itself kind defines false l some None e now h linkage = absurd (unlinked (sym (last-get s.known.declared entry) ∙ h))
    where
      unlinked : Some entry ≡ Some now → ⊥
      unlinked same = clash (has_linkage entry.linkage) (ap (λ (it : Declaration). has_linkage it.linkage) (injected entry now same) ∙ linkage) l
        where
          clash : (test : Bool) → test ≡ true → test ≡ false → ⊥
          clash true a b = cc
          clash false a b = cc

  scopes-here : (kind : CType) (found : Option ℕ) → (naming s.known kind entry found).scopes ≡ declared_in s.known.scopes entry.name (unwrap_or found (length s.known.declared))
  scopes-here kind (Some n) = refl
  scopes-here kind None = refl

  pub united-still : (defines : Bool) → IsUnited (declared_as s entry defines)
  united-still defines name number now e h linkage =
      ⊎_elim by-name (λ old. more (has_linkage entry.linkage) here entry.kind defines name (named_here s entry).declared number (still kind found name number now old h linkage))
      (number-put s.known.scopes entry.name here name number (sym (ap (λ scopes. number_of scopes name) (scopes-here kind found)) ∙ e))
    where
      kind : CType
      kind = kind_seen s entry

      found : Option ℕ
      found = number_before s entry

      here : ℕ
      here = number_here s entry

      by-name : (name ≡ entry.name) × (number ≡ here) → number_linked name (named_here s entry).declared (with_link_if (has_linkage entry.linkage) here entry.kind defines s.linked) ≡ Some number
      by-name same =
          subst (λ it. number_linked it (named_here s entry).declared (with_link_if (has_linkage entry.linkage) here entry.kind defines s.linked) ≡ Some number) (sym same.0)
          (subst (λ n. number_linked entry.name (named_here s entry).declared (with_link_if (has_linkage entry.linkage) here entry.kind defines s.linked) ≡ Some n) (sym same.1)
          (itself kind defines (has_linkage entry.linkage) refl (is_some (meaning_here s.known entry.name)) found refl now (ap (slice_get (named_here s entry).declared) (sym same.1) ∙ h) linkage))
