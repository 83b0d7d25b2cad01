-- A declarator: its name means an entry from here on, which has one declaration more if it has linkage.
use Rattle.std.specs.Prelude.{◌≡◌, ◌==◌, ℕ, zero, suc, ◌<◌, Bool, true, false, ◌&&◌, ◌||◌, if◌then◌else◌, List, [], ◌∷◌, ◌++◌, length, Option, Some, None, is_some, IfSome, unwrap_or, option_and_then, slice_get, refl}
use Rattle.std.specs.FinMap as finite
use Rattle.std.proofs.Common.{sym, ap, ◌∙◌, subst, arith}
use Rattle.std.proofs.lemmas.List.{length-map}
use Rattle.std.proofs.lemmas.Slice.Eq.{bytes_eq-Decides}
use Rattle.dm_type.specs.declared.shape.Shape.{Shape}
use Rattle.dm_type.specs.Alike.{are_compatible}
use Rattle.dm_type.specs.CTypes.{CType}
use Rattle.dm_type.specs.TableLaws.{injected}
use Rattle.dm_scope.specs.Scopes.{Scopes, or_else, number_of, is_declared}
use Rattle.dm_tree.specs.Initialisers.{is_object, is_function_sort}
use Rattle.dm_tree.specs.Typing.{has_linkage}
use Rattle.dm_tree.specs.Units.{Declaration}
use Rattle.dm_typing.specs.declared.known.Known.{Known as Held}
use Rattle.dm_typing.specs.Bounds.{AreBelow}
use Rattle.dm_typing.specs.Known.{Known, meaning_of}
use Rattle.dm_typing.specs.Sound.{IsProper}
use Rattle.dm_typing.specs.Views.{type_over, known_over}
use Rattle.dm_typing.proofs.KindLemmas.{numbers-same}
use Rattle.dm_typing.proofs.TypeLemmas.{both-hold}
use Rattle.dm_enames.proofs.TagStepLemmas.{number-below}
use Rattle.dm_edecl.specs.Standing.{Linked, Standing}
use Rattle.dm_edecl.specs.Linkages.{whole_kind, is_called, number_linked, number_shared, meaning_here, is_linked_if_there, is_same_typedef, is_same_linkage, agree, agrees_with, agrees_if_there, may_be_declared, number_before, with_kind, naming, number_here, named_here, kind_seen}
use Rattle.dm_edecl.specs.Settled.{is_linked}
use Rattle.dm_edecl.proofs.KeepsLemmas.{there, front-kept}
use Rattle.dm_edecl.proofs.LinkLemmas.{some-now, some-then, proper-push, agree-push}
use Rattle.dm_edecl.proofs.NamingLemmas.{three-hold, last-get}
use Rattle.dm_estanding.specs.declared.links.Links.{Links}
use Rattle.dm_estanding.specs.Proceeding.{IsLawful}
use Rattle.dm_estanding.specs.Summaries.{entry_over, Summarises, StandsFor, MayBeAdded}
use Rattle.dm_estanding.proofs.AgreementLemmas.{linked-found}
use Rattle.dm_estanding.proofs.DefiningLemmas.{summary-renamed}

-- ---- the names of entries

pub called-kind : (name : List ℕ) (n : ℕ) (kind : CType) (entries : List Declaration) (at : ℕ) → is_called name (slice_get (with_kind n kind entries) at) ≡ is_called name (slice_get entries at)
called-kind name n kind [] at = refl
called-kind name zero kind (entry ∷ entries) zero = refl
called-kind name zero kind (entry ∷ entries) (suc at) = refl
called-kind name (suc n) kind (entry ∷ entries) zero = refl
called-kind name (suc n) kind (entry ∷ entries) (suc at) = called-kind name n kind entries at

-- an entry that has another type keeps its name
pub names-kind : (name : List ℕ) (n : ℕ) (kind : CType) (entries : List Declaration) (linked : List Linked) → number_linked name (with_kind n kind entries) linked ≡ number_linked name entries linked
names-kind name n kind entries [] = refl
names-kind name n kind entries (one ∷ others) =
    ap (λ test. if test then Some one.number else number_linked name (with_kind n kind entries) others) (called-kind name n kind entries one.number)
    ∙ ap (λ found. if is_called name (slice_get entries one.number) then Some one.number else found) (names-kind name n kind entries others)

linked-itself : (one : Linked) (others : List Linked) → is_linked one.number (one ∷ others) ≡ true
linked-itself one others = some-now (one.number == one.number) _ (whole_kind one.number others) (numbers-same one.number one.number refl)

-- numbers hang on the names of the entries with linkage alone
pub names-same : (name : List ℕ) (one other : List Declaration) (linked : List Linked) → ((n : ℕ) → is_linked n linked ≡ true → slice_get other n ≡ slice_get one n)
    → number_linked name other linked ≡ number_linked name one linked
names-same name one other [] same = refl
names-same name one other (first ∷ others) same =
    ap (λ found. if is_called name found then Some first.number else number_linked name other others) (same first.number (linked-itself first others))
    ∙ ap (λ found. if is_called name (slice_get one first.number) then Some first.number else found)
    (names-same name one other others (λ n h. same n (some-then (first.number == n) _ (whole_kind n others) h)))

-- a new entry has no declarations yet
names-more : (name : List ℕ) (entries : List Declaration) (entry : Declaration) (linked : List Linked) → ((n : ℕ) → is_linked n linked ≡ true → n < length entries)
    → number_linked name (entries ++ entry ∷ []) linked ≡ number_linked name entries linked
names-more name entries entry linked within = names-same name entries (entries ++ entry ∷ []) linked (λ n h. front-kept entries (entry ∷ []) n (within n h))

-- the number that is found is that of an entry of the name
pub called-found : (name : List ℕ) (declared : List Declaration) (linked : List Linked) (number : ℕ) → number_linked name declared linked ≡ Some number → is_called name (slice_get declared number) ≡ true
called-found name declared [] number h = absurd (cc)
called-found name declared (one ∷ others) number h = go (called-found name declared others number) (is_called name (slice_get declared one.number)) refl h
  where
    go : (number_linked name declared others ≡ Some number → is_called name (slice_get declared number) ≡ true) → (test : Bool) → is_called name (slice_get declared one.number) ≡ test
        → (if test then Some one.number else number_linked name declared others) ≡ Some number → is_called name (slice_get declared number) ≡ true
    go further true t e = subst (λ n. is_called name (slice_get declared n) ≡ true) (injected one.number number e) t
    go further false t e = further e

declared-number : (scopes : Scopes) (name : List ℕ) → is_declared scopes name ≡ true → is_some (number_of scopes name) ≡ true
declared-number [] name h = absurd (cc)
declared-number (scope ∷ scopes) name h = go (finite.get scope name) h
  where
    go : (found : Option ℕ) → is_some found ≡ true → is_some (or_else found (number_of scopes name)) ≡ true
    go (Some n) e = refl
    go None e = absurd (cc)

not-both : (number : ℕ) (found : Option ℕ) → found ≡ Some number → found ≡ None → ⊥
not-both number (Some n) e h = cc
not-both number None e h = cc

-- ---- the entry that a declarator means

module _ (s : Standing) (entry : Declaration) (lawful : IsLawful s) where
  pub names-here : (kind : CType) (found : Option ℕ) (name : List ℕ) → number_linked name (naming s.known kind entry found).declared s.linked ≡ number_linked name s.known.declared s.linked
  names-here kind (Some number) name = names-kind name number kind s.known.declared s.linked
  names-here kind None name = names-more name s.known.declared entry s.linked lawful.within

  pub stands-named : (later : List Shape) (old new : Held) (links after : Links) → StandsFor later old links s → known_over later new ≡ named_here s entry → after ≡ links
      → StandsFor later new after (record s { known = named_here s entry })
  stands-named later old new links after stands named same = record {
    known = sym named;
    links = subst (λ it. Summarises later it (named_here s entry).declared s.linked) (sym same)
        (summary-renamed later links s.known.declared (named_here s entry).declared s.linked (names-here (kind_seen s entry) (number_before s entry)) stands.links);
  }

module _ (s : Standing) (entry : Declaration) (lawful : IsLawful s) (below : AreBelow (length s.known.declared) s.known.scopes) where
  -- a number that is found is that of an entry
  pub number-there : (number : ℕ) → number_before s entry ≡ Some number → number < length s.known.declared
  number-there number h = go (has_linkage entry.linkage) (is_some (meaning_here s.known entry.name)) h
    where
      go : (linked some : Bool) → (if linked then number_shared s entry.name else if some then number_of s.known.scopes entry.name else None) ≡ Some number → number < length s.known.declared
      go true some e = lawful.within number (linked-found entry.name s.known.declared s.linked number e)
      go false true e = number-below (length s.known.declared) s.known.scopes entry.name number below e
      go false false e = absurd (cc)

  abbrev Meant : Type 0
  Meant = (number : ℕ) × (old : Declaration) × (number_of s.known.scopes entry.name ≡ Some number) × (slice_get s.known.declared number ≡ Some old)

  meant : is_declared s.known.scopes entry.name ≡ true → Meant
  meant is = go (number_of s.known.scopes entry.name) refl (declared-number s.known.scopes entry.name is)
    where
      go : (found : Option ℕ) → number_of s.known.scopes entry.name ≡ found → is_some found ≡ true → Meant
      go (Some number) e some =
          let old = there s.known.declared number entry (number-below (length s.known.declared) s.known.scopes entry.name number below e) in (number, old.0, e, old.1)
      go None e some = absurd (cc)

  meaning : (is : is_declared s.known.scopes entry.name ≡ true) → meaning_here s.known entry.name ≡ Some (meant is).1
  meaning is =
      ap (λ test. if test then meaning_of s.known entry.name else None) is ∙ ap (option_and_then (slice_get s.known.declared)) (meant is).2 ∙ (meant is).3

  module _ (may : may_be_declared s entry ≡ true) where
    may-linked : has_linkage entry.linkage ≡ true → (is_linked_if_there (meaning_here s.known entry.name) ≡ true) × (agrees_if_there s entry (number_shared s entry.name) ≡ true)
    may-linked linked =
        both-hold (is_linked_if_there (meaning_here s.known entry.name)) (agrees_if_there s entry (number_shared s entry.name))
        (sym (ap (λ test. if test then is_linked_if_there (meaning_here s.known entry.name) && agrees_if_there s entry (number_shared s entry.name)
        else is_same_typedef (meaning_here s.known entry.name) entry) linked) ∙ may)

    shared-here : has_linkage entry.linkage ≡ true → (is : is_declared s.known.scopes entry.name ≡ true) → number_shared s entry.name ≡ number_of s.known.scopes entry.name
    shared-here linked is =
        let old = meant is in
        lawful.united entry.name old.0 old.1 old.2 old.3 (sym (ap is_linked_if_there (meaning is)) ∙ (may-linked linked).0) ∙ sym old.2

    -- a name that its scope declares already means the earlier entry there
    pub again-there : (number : ℕ) → number_before s entry ≡ Some number → is_declared s.known.scopes entry.name ≡ true → number_of s.known.scopes entry.name ≡ Some number
    again-there number h is = go (has_linkage entry.linkage) refl (is_some (meaning_here s.known entry.name)) h
      where
        go : (linked : Bool) → has_linkage entry.linkage ≡ linked → (some : Bool)
            → (if linked then number_shared s entry.name else if some then number_of s.known.scopes entry.name else None) ≡ Some number → number_of s.known.scopes entry.name ≡ Some number
        go true e some f = sym (shared-here e is) ∙ f
        go false e true f = f
        go false e false f = absurd (cc)

    -- and where there is no earlier entry it declares none
    pub fresh-here : number_before s entry ≡ None → is_declared s.known.scopes entry.name ≡ false
    fresh-here h = by (is_declared s.known.scopes entry.name) refl
      where
        go : is_declared s.known.scopes entry.name ≡ true → (linked : Bool) → has_linkage entry.linkage ≡ linked
            → (if linked then number_shared s entry.name else if is_some (meaning_here s.known entry.name) then number_of s.known.scopes entry.name else None) ≡ None → ⊥
        go is true e f = not-both (meant is).0 (number_shared s entry.name) (shared-here e is ∙ (meant is).2) f
        go is false e f =
            not-both (meant is).0 (number_of s.known.scopes entry.name) (meant is).2
            (sym (ap (λ found. if is_some found then number_of s.known.scopes entry.name else None) (meaning is)) ∙ f)

        by : (test : Bool) → is_declared s.known.scopes entry.name ≡ test → is_declared s.known.scopes entry.name ≡ false
        by true e = absurd (go e (has_linkage entry.linkage) refl h)
        by false e = e

    -- ---- one declaration more

    module _ (proper : IsProper entry.kind) (defines : Bool) where
      added-by : (kind : CType) (found : Option ℕ) → number_shared s entry.name ≡ found → agrees_if_there s entry found ≡ true
          → MayBeAdded (naming s.known kind entry found).declared s.linked entry.name (unwrap_or found (length s.known.declared)) entry.kind defines
      added-by kind (Some number) e agrees = record {
        called = called-kind entry.name number kind s.known.declared number ∙ called-found entry.name s.known.declared s.linked number e;
        once = subst (λ found. IfSome found (λ other. other ≡ number)) (sym (names-here s entry lawful kind (Some number) entry.name ∙ e)) refl;
        proper = proper-push one s.linked lawful.proper proper;
        bounds = agree-push one s.linked lawful.proper lawful.agree (λ whole is. subst (λ found. are_compatible (unwrap_or found old.0.kind) entry.kind ≡ true) is alike) number;
      }
        where
          one : Linked
          one = record { number = number; kind = entry.kind; defines = defines }

          old : (it : Declaration) × (slice_get s.known.declared number ≡ Some it)
          old = there s.known.declared number entry (lawful.within number (linked-found entry.name s.known.declared s.linked number e))

          agreed : agree old.0 (unwrap_or (whole_kind number s.linked) old.0.kind) entry ≡ true
          agreed = sym (ap (agrees_with (whole_kind number s.linked) entry) old.1) ∙ agrees

          alike : are_compatible (unwrap_or (whole_kind number s.linked) old.0.kind) entry.kind ≡ true
          alike = (three-hold (is_object old.0.sort && is_object entry.sort || is_function_sort old.0.sort && is_function_sort entry.sort) (is_same_linkage old.0.linkage entry.linkage)
              (are_compatible (unwrap_or (whole_kind number s.linked) old.0.kind) entry.kind) agreed).2
      added-by kind None e agrees = record {
        called = ap (is_called entry.name) (last-get s.known.declared entry) ∙ (bytes_eq-Decides entry.name entry.name).1 refl;
        once = subst (λ found. IfSome found (λ other. other ≡ length s.known.declared)) (sym (names-here s entry lawful kind None entry.name ∙ e)) tt;
        proper = proper-push one s.linked lawful.proper proper;
        bounds = agree-push one s.linked lawful.proper lawful.agree
            (λ whole is. let high = lawful.within (length s.known.declared) (ap is_some is) in absurd (omega (arith, high))) (length s.known.declared);
      }
        where
          one : Linked
          one = record { number = length s.known.declared; kind = entry.kind; defines = defines }

      pub may-be-added : has_linkage entry.linkage ≡ true → MayBeAdded (named_here s entry).declared s.linked entry.name (number_here s entry) entry.kind defines
      may-be-added linked =
          subst (λ found. MayBeAdded (naming s.known (kind_seen s entry) entry found).declared s.linked entry.name (unwrap_or found (length s.known.declared)) entry.kind defines)
          (sym (ap (λ test. if test then number_shared s entry.name else if is_some (meaning_here s.known entry.name) then number_of s.known.scopes entry.name else None) linked))
          (added-by (kind_seen s entry) (number_shared s entry.name) refl (may-linked linked).1)

-- ---- what the code knows

pub below-held : (later : List Shape) (held : Held) (known : Known) → known ≡ known_over later held → AreBelow (length held.declared) held.scopes → AreBelow (length known.declared) known.scopes
below-held later held known same all =
    subst (λ (it : Known). AreBelow (length it.declared) it.scopes) (sym same)
    (subst (λ count. AreBelow count held.scopes) (sym (length-map held.declared (entry_over later))) all)

pub counted : (later : List Shape) (held : Held) (known : Known) → known ≡ known_over later held → length held.declared ≡ length known.declared
counted later held known same = sym (length-map held.declared (entry_over later)) ∙ sym (ap (λ (it : Known). length it.declared) same)

pub named-is : (later : List Shape) (old : Held) (s : Standing) (kind : ℕ) (entry : Declaration) (found : Option ℕ) → s.known ≡ known_over later old → type_over later kind ≡ kind_seen s entry
    → number_before s entry ≡ found → naming (known_over later old) (type_over later kind) entry found ≡ named_here s entry
named-is later old s kind entry found same seen before =
    ap (λ it. naming (known_over later old) it entry found) seen ∙ ap (λ it. naming it (kind_seen s entry) entry found) (sym same)
    ∙ ap (naming s.known (kind_seen s entry) entry) (sym before)
