-- What holds at each place of a unit holds at the next, and what was declared is remembered.
use Rattle.std.specs.Prelude.{◌≡◌, ℕ, zero, suc, ◌⊎◌, ◌<◌, ◌≤◌, Bool, true, false, ◌&&◌, ◌||◌, if◌then◌else◌, IsTrue, List, [], ◌∷◌, ◌++◌, length, drop, All, Option, Some, None, is_some, unwrap_or, option_map, option_and_then, slice_get, refl}
use Rattle.std.specs.FinMap as finite
use Rattle.std.proofs.Common.{sym, ap, ◌∙◌, subst, arith, inl, inr, ⊎_elim, append-nil, append_assoc}
use Rattle.std.proofs.lemmas.List.{length-append}
use Rattle.std.proofs.lemmas.Option.{slice_get_within, slice_get-map, get_or_from_slice_get}
use Rattle.dm_type.specs.declared.shape.Shape.{Shape}
use Rattle.dm_type.specs.Alike.{are_compatible}
use Rattle.dm_type.specs.CTypes.{CType}
use Rattle.dm_type.specs.TableLaws.{injected}
use Rattle.dm_scope.specs.Scopes.{Scopes, or_else, number_of, is_declared, declared as declared_in}
use Rattle.dm_name_map.specs.Numbers.{Numbers}
use Rattle.dm_tree.specs.declared.unit.Declared.{Declared}
use Rattle.dm_tree.specs.Composites.{covers}
use Rattle.dm_tree.specs.Initialisers.{is_object, is_function_sort}
use Rattle.dm_tree.specs.Typing.{has_linkage}
use Rattle.dm_tree.specs.Units.{Declaration}
use Rattle.dm_typing.specs.declared.known.Known.{Known as Held}
use Rattle.dm_typing.specs.Bounds.{AreBelow}
use Rattle.dm_typing.specs.Conversions.{is_same}
use Rattle.dm_typing.specs.Known.{Known}
use Rattle.dm_typing.specs.Sound.{IsProper}
use Rattle.dm_typing.specs.Views.{type_over, known_over}
use Rattle.dm_typing.proofs.CoverLemmas.{covers-joined}
use Rattle.dm_typing.proofs.KindLemmas.{same-numbers, numbers-same}
use Rattle.dm_typing.proofs.TableLemmas.{table-proper}
use Rattle.dm_typing.proofs.TypeLemmas.{both-hold, same-types}
use Rattle.dm_enames.proofs.TagStepLemmas.{number-below}
use Rattle.dm_eexpr.proofs.KeepLemmas.{number_inside, Adds}
use Rattle.dm_edecl.specs.Standing.{Linked, Standing, knowing, opened, known_behind}
use Rattle.dm_edecl.specs.Linkages.{whole_kind, is_called, number_linked, number_shared, is_number, kind_from_here, kind_seen, meaning_here, is_typedef, is_same_typedef, is_linked_if_there, is_same_linkage, agree, agrees_with, agrees_if_there, may_be_declared, number_before, with_kind, with_link_if, object_here}
use Rattle.dm_edecl.specs.Settled.{IsBound, is_linked, AreProperLinks, IsSameEntry}
use Rattle.dm_edecl.specs.Units.{beginning}
use Rattle.dm_edecl.proofs.KeepsLemmas.{same-itself, same-through, there, front-kept}
use Rattle.dm_edecl.proofs.LinkLemmas.{bound-front, bound-last, proper-push, linked-back, agree-push}
use Rattle.dm_edecl.proofs.NamingLemmas.{three-hold, seen-by, behind_name}
use Rattle.dm_edecl.proofs.RetypingLemmas.{IsChanged, kind-get, kind-put, kind-length, changed-same}
use Rattle.dm_estanding.specs.Proceeding.{IsLawful, Remembers}
use Rattle.dm_estanding.specs.Summaries.{entry_over, IsUnited, declared_as}
use Rattle.dm_estanding.proofs.AgreementLemmas.{linked-found}
use Rattle.dm_estanding.proofs.DeclaringLemmas.{names-same, names-kind}
use Rattle.dm_estanding.proofs.UnitedLemmas.{united-still}

-- ---- what is remembered

pub remembers-itself : (s : Standing) → Remembers s s
remembers-itself s = record {
  entries = omega arith;
  declared = λ at entry h. (entry, h, same-itself entry);
  linked = ([], sym (append-nil s.linked));
  unlinked = λ at inside h. h;
}

pub remembers-on : (a b c : Standing) → Remembers a b → Remembers b c → Remembers a c
remembers-on a b c first second = record {
  entries = let one = first.entries in let other = second.entries in omega (arith, one, other);
  declared = λ at entry h.
      let one = first.declared at entry h in
      let two = second.declared at one.0 one.1 in
      (two.0, two.1, same-through entry one.0 two.0 one.2 two.2);
  linked = (
    first.linked.0 ++ second.linked.0,
    second.linked.1 ∙ ap (λ list. list ++ second.linked.0) first.linked.1 ∙ append_assoc a.linked first.linked.0 second.linked.0,
  );
  unlinked = λ at inside h. first.unlinked at inside (second.unlinked at (let one = first.entries in omega (arith, one, inside)) h);
}

-- ---- the numbers of names with linkage

-- the first declaration of a name stays the first
names-on : (name : List ℕ) (declared : List Declaration) (linked more : List Linked) (number : ℕ) → number_linked name declared linked ≡ Some number
    → number_linked name declared (linked ++ more) ≡ Some number
names-on name declared [] more number h = absurd (cc)
names-on name declared (first ∷ others) more number h = go (names-on name declared others more number) (is_called name (slice_get declared first.number)) h
  where
    go : (number_linked name declared others ≡ Some number → number_linked name declared (others ++ more) ≡ Some number) → (test : Bool)
        → (if test then Some first.number else number_linked name declared others) ≡ Some number
        → (if test then Some first.number else number_linked name declared (others ++ more)) ≡ Some number
    go further true e = e
    go further false e = further e

bound-before : (bound : CType) (n : ℕ) (linked more : List Linked) → IsBound bound n (linked ++ more) → IsBound bound n linked
bound-before bound n [] more b = tt
bound-before bound n (first ∷ others) more b = (b.0, bound-before bound n others more b.1)

-- ---- the types of entries

-- types of a table are proper
pub proper-over : (later : List Shape) (id : ℕ) → IsProper (type_over later id)
proper-over later id = table-proper (record { shapes = later; structs = [] }) id

abbrev pub AreProperEntries : Standing → Type 0
AreProperEntries s = (at : ℕ) (entry : Declaration) → slice_get s.known.declared at ≡ Some entry → IsProper entry.kind

pub entries-proper : (later : List Shape) (held : Held) (s : Standing) → s.known ≡ known_over later held → AreProperEntries s
entries-proper later held s same at entry h =
    go (slice_get held.declared at) (sym (slice_get-map (entry_over later) held.declared at) ∙ sym (ap (λ (it : Known). slice_get it.declared at) same) ∙ h)
  where
    go : (found : Option Declared) → option_map (entry_over later) found ≡ Some entry → IsProper entry.kind
    go (Some one) e = subst (λ (it : Declaration). IsProper it.kind) (injected (entry_over later one) entry e) (proper-over later one.kind)
    go None e = absurd (cc)

-- ---- scopes

module _ (scope : Numbers) (s : Standing) where
  -- what is declared in a scope that opens has no linkage
  pub opened-lawful : ((name : List ℕ) (number : ℕ) (entry : Declaration) → finite.get scope name ≡ Some number → slice_get s.known.declared number ≡ Some entry → has_linkage entry.linkage ≡ false)
      → IsLawful s → IsLawful (opened scope s)
  opened-lawful none lawful = record {
    constants = lawful.constants;
    within = lawful.within;
    agree = lawful.agree;
    proper = lawful.proper;
    kinds = lawful.kinds;
    united = united;
  }
    where
      united : IsUnited (opened scope s)
      united name number entry means is linkage = go (finite.get scope name) refl means
        where
          go : (found : Option ℕ) → finite.get scope name ≡ found → or_else found (number_of s.known.scopes name) ≡ Some number
              → number_linked name s.known.declared s.linked ≡ Some number
          go (Some n) e h = let not = none name number entry (e ∙ h) is in absurd (cc)
          go None e h = lawful.united name number entry h is linkage

  pub opened-remembers : Remembers s (opened scope s)
  opened-remembers = record {
    entries = omega arith;
    declared = λ at entry h. (entry, h, same-itself entry);
    linked = ([], sym (append-nil s.linked));
    unlinked = λ at inside h. h;
  }

-- an entry behind a scope is one of before, or one of the scope
behind-get : {A : Type 0} (xs ys : List A) (at : ℕ) (x : A) → slice_get (xs ++ drop (length xs) ys) at ≡ Some x
    → ((at < length xs) × (slice_get xs at ≡ Some x)) ⊎ ((length xs ≤ at) × (slice_get ys at ≡ Some x))
behind-get [] ys at x h = inr (omega arith, h)
behind-get (first ∷ xs) [] at x h = go at h
  where
    nil : {A : Type 0} (zs : List A) → zs ++ [] ≡ zs
    nil zs = append-nil zs

    go : (n : ℕ) → slice_get (first ∷ (xs ++ [])) n ≡ Some x → ((n < length (first ∷ xs)) × (slice_get (first ∷ xs) n ≡ Some x)) ⊎ ((length (first ∷ xs) ≤ n) × (slice_get [] n ≡ Some x))
    go n e = let f = ap (λ list. slice_get (first ∷ list) n) (sym (nil xs)) ∙ e in inl (slice_get_within (first ∷ xs) n x f, f)
behind-get (first ∷ xs) (y ∷ ys) zero x h = inl (omega arith, h)
behind-get (first ∷ xs) (y ∷ ys) (suc at) x h =
    ⊎_elim (λ low. let l = low.0 in inl (omega (arith, l), low.1)) (λ high. let l = high.0 in inr (omega (arith, l), high.1)) (behind-get xs ys at x h)

behind-length : {A : Type 0} (xs ys : List A) → length xs ≤ length ys → length (xs ++ drop (length xs) ys) ≡ length ys
behind-length [] ys h = refl
behind-length (first ∷ xs) [] h = absurd (omega (arith, h))
behind-length (first ∷ xs) (y ∷ ys) h = ap suc (behind-length xs ys (omega (arith, h)))

module _ (s t : Standing) (kept : Remembers s t) where
  abbrev pub behind : Standing
  behind = record t { known = known_behind s.known t.known }

  front : (at : ℕ) → at < length s.known.declared → slice_get behind.known.declared at ≡ slice_get s.known.declared at
  front at low = front-kept s.known.declared (drop (length s.known.declared) t.known.declared) at low

  many : length behind.known.declared ≡ length t.known.declared
  many = behind-length s.known.declared t.known.declared kept.entries

  pub closed-remembers : Remembers s behind
  closed-remembers = record {
    entries = let one = kept.entries in let l = many in omega (arith, one, l);
    declared = λ at entry h. (entry, front at (slice_get_within s.known.declared at entry h) ∙ h, same-itself entry);
    linked = kept.linked;
    unlinked = kept.unlinked;
  }

  module _ (below : AreBelow (length s.known.declared) s.known.scopes) (outside : IsLawful s) (inside : IsLawful t) where
    still-united : IsUnited behind
    still-united name number entry means is linkage =
        let low = number-below (length s.known.declared) s.known.scopes name number below means in
        let was = outside.united name number entry means (sym (front number low) ∙ is) linkage in
        ap (number_linked name behind.known.declared) kept.linked.1
        ∙ names-on name behind.known.declared s.linked kept.linked.0 number
        (names-same name s.known.declared behind.known.declared s.linked (λ n h. front n (outside.within n h)) ∙ was)

    pub closed-lawful : IsLawful behind
    closed-lawful = record {
      constants = inside.constants;
      within = λ n h. let one = inside.within n h in let l = many in omega (arith, one, l);
      agree = inside.agree;
      proper = inside.proper;
      kinds = λ n entry bound is h b.
          ⊎_elim
          (λ low. outside.kinds n entry bound (kept.unlinked n low.0 is) low.1 (bound-before bound n s.linked kept.linked.0 (subst (IsBound bound n) kept.linked.1 b)))
          (λ high. inside.kinds n entry bound is high.1 b) (behind-get s.known.declared t.known.declared n entry h);
      united = still-united;
    }

-- ---- expressions, specifiers and declarators

-- a name means what it meant outside, or something new
scopes-either : (old new : Scopes) (name : List ℕ) (number many : ℕ) → drop 1 new ≡ drop 1 old → length new ≡ length old
    → (number_inside new name ≡ Some number → (number_inside old name ≡ Some number) ⊎ (many ≤ number)) → (is_declared old name ≡ true → is_declared new name ≡ true)
    → number_of new name ≡ Some number → (number_of old name ≡ Some number) ⊎ (many ≤ number)
scopes-either old [] name number many outer depth inside still h = absurd (cc)
scopes-either [] (scope ∷ scopes) name number many outer depth inside still h = absurd (omega (arith, depth))
scopes-either (first ∷ others) (scope ∷ scopes) name number many outer depth inside still h = go (finite.get scope name) refl h
  where
    before : finite.get scope name ≡ None → number_of scopes name ≡ Some number → (found : Option ℕ) → finite.get first name ≡ found
        → (or_else (finite.get first name) (number_of others name) ≡ Some number) ⊎ (many ≤ number)
    before e g (Some n) f = let yes = sym (ap is_some e) ∙ still (ap is_some f) in absurd (cc)
    before e g None f = inl (ap (λ found. or_else found (number_of others name)) f ∙ ap (λ list. number_of list name) (sym outer) ∙ g)

    go : (found : Option ℕ) → finite.get scope name ≡ found → or_else found (number_of scopes name) ≡ Some number
        → (or_else (finite.get first name) (number_of others name) ≡ Some number) ⊎ (many ≤ number)
    go (Some n) e g = ⊎_elim (λ was. inl (ap (λ found. or_else found (number_of others name)) was)) (λ more. inr more) (inside (e ∙ g))
    go None e g = before e g (finite.get first name) refl

-- what is added has no linkage
back-holds : {A : Type 0} (P : A → Type 0) (xs ys : List A) (at : ℕ) (x : A) → All P ys → length xs ≤ at → slice_get (xs ++ ys) at ≡ Some x → P x
back-holds P [] ys at x all high h = subst P (get_or_from_slice_get ys at x x h) (all at x (slice_get_within ys at x h))
back-holds P (first ∷ xs) ys zero x all high h = absurd (omega (arith, high))
back-holds P (first ∷ xs) ys (suc at) x all high h = back-holds P xs ys at x all (omega (arith, high)) h

module _ (s : Standing) (known : Known) (adds : Adds s.known known) where
  grown : (at : ℕ) → at < length s.known.declared → slice_get known.declared at ≡ slice_get s.known.declared at
  grown at low = ap (λ entries. slice_get entries at) adds.declared ∙ front-kept s.known.declared adds.more at low

  longer : length s.known.declared ≤ length known.declared
  longer = let l = length-append s.known.declared adds.more in let e = ap length adds.declared in omega (arith, l, e)

  -- entries with linkage have the numbers of before
  pub knowing-names : IsLawful s → (name : List ℕ) → number_linked name known.declared s.linked ≡ number_linked name s.known.declared s.linked
  knowing-names lawful name = names-same name s.known.declared known.declared s.linked (λ n h. grown n (lawful.within n h))

  pub knowing-remembers : Remembers s (knowing s known)
  knowing-remembers = record {
    entries = longer;
    declared = λ at entry h. (entry, grown at (slice_get_within s.known.declared at entry h) ∙ h, same-itself entry);
    linked = ([], sym (append-nil s.linked));
    unlinked = λ at inside h. h;
  }

  module _ (below : AreBelow (length s.known.declared) s.known.scopes) (lawful : IsLawful s) where
    knowing-united : IsUnited (knowing s known)
    knowing-united name number entry means is linkage =
        ⊎_elim
        (λ was.
        let low = number-below (length s.known.declared) s.known.scopes name number below was in
        knowing-names lawful name ∙ lawful.united name number entry was (sym (grown number low) ∙ is) linkage)
        (λ high.
        let none = back-holds (λ (one : Declaration). has_linkage one.linkage ≡ false) s.known.declared adds.more number entry adds.unlinked high
        (sym (ap (λ entries. slice_get entries number) adds.declared) ∙ is) in
        absurd (cc))
        (scopes-either s.known.scopes known.scopes name number (length s.known.declared) adds.outer adds.depth (adds.inside name number) (adds.still name) means)

    pub knowing-lawful : IsLawful (knowing s known)
    knowing-lawful = record {
      constants = lawful.constants;
      within = λ n h. let one = lawful.within n h in let l = longer in omega (arith, one, l);
      agree = lawful.agree;
      proper = lawful.proper;
      kinds = λ n entry bound is h b. lawful.kinds n entry bound is (sym (grown n (lawful.within n is)) ∙ h) b;
      united = knowing-united;
    }

-- ---- declarators

-- the declarations of what has linkage agree, and what was declared is remembered
pub record AgreeOn (old new : Standing) : Type 0 where
  pub within : (number : ℕ) → is_linked number new.linked ≡ true → number < length new.known.declared
  pub agree : (number : ℕ) → (bound : CType) × IsBound bound number new.linked
  pub proper : AreProperLinks new.linked
  pub kinds : (number : ℕ) (entry : Declaration) (bound : CType) → is_linked number new.linked ≡ true → slice_get new.known.declared number ≡ Some entry
      → IsBound bound number new.linked → IsTrue (covers bound entry.kind)
  pub remembers : Remembers old new

-- ---- an entry gets another type

module _ (s : Standing) (lawful : IsLawful s) (number : ℕ) (kind : CType) (scopes : Scopes) where
  abbrev pub retyping : List Linked → Standing
  retyping linked = record s { known = record s.known { scopes = scopes; declared = with_kind number kind s.known.declared }; linked = linked }

  same-length : length (with_kind number kind s.known.declared) ≡ length s.known.declared
  same-length = kind-length number kind s.known.declared

  same-entries : (at : ℕ) (entry : Declaration) → slice_get s.known.declared at ≡ Some entry
      → (later : Declaration) × (slice_get (with_kind number kind s.known.declared) at ≡ Some later) × IsSameEntry entry later
  same-entries at entry h = let one = kind-put number kind s.known.declared at entry h in (one.0, one.1, changed-same number kind at entry one.0 one.2)

  -- with one declaration more of what has linkage
  module _ (x : Linked) (same : x.number ≡ number) (already : is_linked number s.linked ≡ true) (proper : IsProper x.kind)
      (fits : (whole : CType) → whole_kind x.number s.linked ≡ Some whole → are_compatible whole x.kind ≡ true)
      (most : (bound : CType) → IsBound bound number s.linked → covers bound x.kind ≡ true → covers bound kind ≡ true) where
    linked-before : (n : ℕ) → is_linked n (s.linked ++ x ∷ []) ≡ true → is_linked n s.linked ≡ true
    linked-before n h =
        ⊎_elim (λ old. old) (λ new. subst (λ m. is_linked m s.linked ≡ true) (sym same ∙ same-numbers x.number n new) already) (linked-back x n s.linked h)

    again-kinds : (n : ℕ) (entry : Declaration) (bound : CType) → is_linked n (s.linked ++ x ∷ []) ≡ true → slice_get (with_kind number kind s.known.declared) n ≡ Some entry
        → IsBound bound n (s.linked ++ x ∷ []) → IsTrue (covers bound entry.kind)
    unfolding IsChanged
    again-kinds n entry bound is h b =
        let one = kind-get number kind s.known.declared n entry h in
        let before = bound-front x bound n s.linked b in
        ⊎_elim
        (λ other. subst (λ (it : Declaration). IsTrue (covers bound it.kind)) (sym other.1) (lawful.kinds n one.0 bound (linked-before n is) one.1 before))
        (λ now. subst (λ (it : Declaration). IsTrue (covers bound it.kind)) (sym now.1)
        (most bound (subst (λ m. IsBound bound m s.linked) now.0 before) (bound-last x bound n s.linked b (numbers-same x.number n (same ∙ sym now.0))))) one.2

    pub again-agrees : AgreeOn s (retyping (s.linked ++ x ∷ []))
    again-agrees = record {
      within = λ n h. let one = lawful.within n (linked-before n h) in let l = same-length in omega (arith, one, l);
      agree = agree-push x s.linked lawful.proper lawful.agree fits;
      proper = proper-push x s.linked lawful.proper proper;
      kinds = again-kinds;
      remembers = record {
        entries = let l = same-length in omega (arith, l);
        declared = same-entries;
        linked = (x ∷ [], refl);
        unlinked = λ at inside h. linked-before at h;
      };
    }

  -- an entry without linkage, or one that has this type
  module _ (typed : is_linked number s.linked ≡ true → (old : Declaration) → slice_get s.known.declared number ≡ Some old → old.kind ≡ kind) where
    other-kinds : (n : ℕ) (entry : Declaration) (bound : CType) → is_linked n s.linked ≡ true → slice_get (with_kind number kind s.known.declared) n ≡ Some entry
        → IsBound bound n s.linked → IsTrue (covers bound entry.kind)
    unfolding IsChanged
    other-kinds n entry bound is h b =
        let one = kind-get number kind s.known.declared n entry h in
        let before = lawful.kinds n one.0 bound is one.1 b in
        ⊎_elim
        (λ other. subst (λ (it : Declaration). IsTrue (covers bound it.kind)) (sym other.1) before)
        (λ now.
        let old = typed (subst (λ m. is_linked m s.linked ≡ true) now.0 is) one.0 (subst (λ m. slice_get s.known.declared m ≡ Some one.0) now.0 one.1) in
        subst (λ (it : Declaration). IsTrue (covers bound it.kind)) (sym now.1) (subst (λ type. IsTrue (covers bound type)) old before)) one.2

    pub other-agrees : AgreeOn s (retyping s.linked)
    other-agrees = record {
      within = λ n h. let one = lawful.within n h in let l = same-length in omega (arith, one, l);
      agree = lawful.agree;
      proper = lawful.proper;
      kinds = other-kinds;
      remembers = record {
        entries = let l = same-length in omega (arith, l);
        declared = same-entries;
        linked = ([], sym (append-nil s.linked));
        unlinked = λ at inside h. h;
      };
    }

-- ---- a new entry

module _ (s : Standing) (lawful : IsLawful s) (entry : Declaration) (defines : Bool) (proper : IsProper entry.kind) (scopes : Scopes) where
  abbrev pub adding : Bool → Standing
  adding test = record s {
    known = record s.known { declared = s.known.declared ++ entry ∷ []; scopes = scopes };
    linked = with_link_if test (length s.known.declared) entry.kind defines s.linked;
  }

  abbrev link : Linked
  link = record { number = length s.known.declared; kind = entry.kind; defines = defines }

  added-length : length (s.known.declared ++ entry ∷ []) ≡ suc (length s.known.declared)
  added-length = let l = length-append s.known.declared (entry ∷ []) in omega (arith, l)

  none-yet : is_linked (length s.known.declared) s.linked ≡ true → ⊥
  none-yet h = let one = lawful.within (length s.known.declared) h in omega (arith, one)

  linked-then : (test : Bool) (n : ℕ) → is_linked n (adding test).linked ≡ true → (is_linked n s.linked ≡ true) ⊎ ((test ≡ true) × (length s.known.declared ≡ n))
  linked-then true n h = ⊎_elim (λ old. inl old) (λ new. inr (refl, same-numbers (length s.known.declared) n new)) (linked-back link n s.linked h)
  linked-then false n h = inl h

  bound-then : (test : Bool) (bound : CType) (n : ℕ) → IsBound bound n (adding test).linked → IsBound bound n s.linked
  bound-then true bound n b = bound-front link bound n s.linked b
  bound-then false bound n b = b

  bound-new : (test : Bool) (bound : CType) → test ≡ true → IsBound bound (length s.known.declared) (adding test).linked → covers bound entry.kind ≡ true
  bound-new true bound e b = bound-last link bound (length s.known.declared) s.linked b (numbers-same (length s.known.declared) (length s.known.declared) refl)
  bound-new false bound e b = absurd (cc)

  agree-then : (test : Bool) (n : ℕ) → (bound : CType) × IsBound bound n (adding test).linked
  agree-then true n = agree-push link s.linked lawful.proper lawful.agree (λ whole e. absurd (none-yet (ap is_some e))) n
  agree-then false n = lawful.agree n

  proper-then : (test : Bool) → AreProperLinks (adding test).linked
  proper-then true = proper-push link s.linked lawful.proper proper
  proper-then false = lawful.proper

  more-linked : (test : Bool) → (more : List Linked) × ((adding test).linked ≡ s.linked ++ more)
  more-linked true = (link ∷ [], refl)
  more-linked false = ([], sym (append-nil s.linked))

  added-get : (entries : List Declaration) (n : ℕ) (other : Declaration) → slice_get (entries ++ entry ∷ []) n ≡ Some other
      → (slice_get entries n ≡ Some other) ⊎ ((n ≡ length entries) × (entry ≡ other))
  added-get [] zero other h = inr (refl, injected entry other h)
  added-get [] (suc n) other h = absurd (cc)
  added-get (first ∷ entries) zero other h = inl h
  added-get (first ∷ entries) (suc n) other h = ⊎_elim (λ old. inl old) (λ new. inr (ap suc new.0, new.1)) (added-get entries n other h)

  pub new-agrees : (test : Bool) → AgreeOn s (adding test)
  new-agrees test = record {
    within = λ n h.
        let l = added-length in
        ⊎_elim (λ old. let one = lawful.within n old in omega (arith, one, l)) (λ new. let e = new.1 in omega (arith, e, l)) (linked-then test n h);
    agree = agree-then test;
    proper = proper-then test;
    kinds = λ n other bound is h b.
        ⊎_elim
        (λ old.
        ⊎_elim (λ was. lawful.kinds n other bound was old (bound-then test bound n b))
        (λ new. let e = new.1 in let low = slice_get_within s.known.declared n other old in absurd (omega (arith, e, low))) (linked-then test n is))
        (λ new.
        ⊎_elim (λ was. absurd (none-yet (subst (λ m. is_linked m s.linked ≡ true) new.0 was)))
        (λ now. subst (λ (it : Declaration). IsTrue (covers bound it.kind)) new.1 (bound-new test bound now.0 (subst (λ m. IsBound bound m (adding test).linked) new.0 b)))
        (linked-then test n is))
        (added-get s.known.declared n other h);
    remembers = record {
      entries = let l = added-length in omega (arith, l);
      declared = λ at one h. (one, front-kept s.known.declared (entry ∷ []) at (slice_get_within s.known.declared at one h) ∙ h, same-itself one);
      linked = more-linked test;
      unlinked = λ at inside h. ⊎_elim (λ old. old) (λ new. let e = new.1 in absurd (omega (arith, e, inside))) (linked-then test at h);
    };
  }

-- ---- C2

-- a typedef again has the same type
typedef-kind : (test : Bool) (found : Option ℕ) (entries : List Declaration) (number : ℕ) (entry : Declaration) → found ≡ Some number
    → is_some (if test then option_and_then (slice_get entries) found else None) ≡ true
    → is_same_typedef (if test then option_and_then (slice_get entries) found else None) entry ≡ true → (old : Declaration) → slice_get entries number ≡ Some old → old.kind ≡ entry.kind
typedef-kind true (Some n) entries number entry e is h old at =
    go (slice_get entries n) h (sym (ap (slice_get entries) (sym (injected n number e))) ∙ at)
  where
    go : (found : Option Declaration) → is_same_typedef found entry ≡ true → found ≡ Some old → old.kind ≡ entry.kind
    go (Some one) g f =
        subst (λ (it : Declaration). it.kind ≡ entry.kind) (injected one old f) (same-types one.kind entry.kind (three-hold (is_typedef one.sort) (is_typedef entry.sort) (is_same one.kind entry.kind) g).2)
    go None g f = absurd (cc)
typedef-kind true None entries number entry e is h old at = absurd (cc)
typedef-kind false found entries number entry e is h old at = absurd (cc)

module _ (s : Standing) (entry : Declaration) (defines : Bool) (lawful : IsLawful s) (entries : AreProperEntries s) (proper : IsProper entry.kind) where
  -- a declaration of what has linkage and has been declared before
  shared-agrees : (number : ℕ) → number_shared s entry.name ≡ Some number → agrees_if_there s entry (Some number) ≡ true
      → AgreeOn s (behind_name s (kind_from_here s.known entry (Some number)) entry true (Some number) defines)
  shared-agrees number shared agrees =
      again-agrees s lawful number (kind_from_here s.known entry (Some number)) (declared_in s.known.scopes entry.name number) one refl already proper fits most
    where
      one : Linked
      one = record { number = number; kind = entry.kind; defines = defines }

      already : is_linked number s.linked ≡ true
      already = linked-found entry.name s.known.declared s.linked number shared

      old : (it : Declaration) × (slice_get s.known.declared number ≡ Some it)
      old = there s.known.declared number entry (lawful.within number already)

      agreed : agree old.0 (unwrap_or (whole_kind number s.linked) old.0.kind) entry ≡ true
      agreed = sym (ap (agrees_with (whole_kind number s.linked) entry) old.1) ∙ agrees

      alike : are_compatible (unwrap_or (whole_kind number s.linked) old.0.kind) entry.kind ≡ true
      alike = (three-hold (is_object old.0.sort && is_object entry.sort || is_function_sort old.0.sort && is_function_sort entry.sort) (is_same_linkage old.0.linkage entry.linkage)
          (are_compatible (unwrap_or (whole_kind number s.linked) old.0.kind) entry.kind) agreed).2

      fits : (whole : CType) → whole_kind number s.linked ≡ Some whole → are_compatible whole entry.kind ≡ true
      fits whole e = subst (λ found. are_compatible (unwrap_or found old.0.kind) entry.kind ≡ true) e alike

      most : (bound : CType) → IsBound bound number s.linked → covers bound entry.kind ≡ true → covers bound (kind_from_here s.known entry (Some number)) ≡ true
      most bound b c =
          seen-by (λ type. covers bound type ≡ true) entry.kind (is_number (number_of s.known.scopes entry.name) number) (slice_get s.known.declared number) old.0 old.1 c
          (covers-joined bound old.0.kind entry.kind (entries number old.0 old.1) (lawful.kinds number old.0 bound already old.1 b) c)

  by-number : (found : Option ℕ) → number_shared s entry.name ≡ found → agrees_if_there s entry found ≡ true
      → AgreeOn s (behind_name s (kind_from_here s.known entry found) entry true found defines)
  by-number None e h = new-agrees s lawful entry defines proper (declared_in s.known.scopes entry.name (length s.known.declared)) true
  by-number (Some number) e h = shared-agrees number e h

  by-meaning : (test : Bool) → is_some (meaning_here s.known entry.name) ≡ test → is_same_typedef (meaning_here s.known entry.name) entry ≡ true
      → (found : Option ℕ) → number_of s.known.scopes entry.name ≡ found → AgreeOn s (behind_name s entry.kind entry false (if test then found else None) defines)
  by-meaning true some h (Some number) e =
      other-agrees s lawful number entry.kind (declared_in s.known.scopes entry.name number)
      (λ link. typedef-kind (is_declared s.known.scopes entry.name) (number_of s.known.scopes entry.name) s.known.declared number entry e some h)
  by-meaning true some h None e = new-agrees s lawful entry defines proper (declared_in s.known.scopes entry.name (length s.known.declared)) false
  by-meaning false some h found e = new-agrees s lawful entry defines proper (declared_in s.known.scopes entry.name (length s.known.declared)) false

  by-linkage : (test : Bool) → has_linkage entry.linkage ≡ test
      → (if test then is_linked_if_there (meaning_here s.known entry.name) && agrees_if_there s entry (number_shared s entry.name)
      else is_same_typedef (meaning_here s.known entry.name) entry) ≡ true
      → AgreeOn s (behind_name s (if test then kind_from_here s.known entry (number_shared s entry.name) else entry.kind) entry test
      (if test then number_shared s entry.name else if is_some (meaning_here s.known entry.name) then number_of s.known.scopes entry.name else None) defines)
  by-linkage true e h =
      by-number (number_shared s entry.name) refl
      (both-hold (is_linked_if_there (meaning_here s.known entry.name)) (agrees_if_there s entry (number_shared s entry.name)) h).1
  by-linkage false e h = by-meaning (is_some (meaning_here s.known entry.name)) refl h (number_of s.known.scopes entry.name) refl

  pub declared-agrees : may_be_declared s entry ≡ true → AgreeOn s (declared_as s entry defines)
  declared-agrees may = by-linkage (has_linkage entry.linkage) refl may

  pub declared-lawful : AreBelow (length s.known.declared) s.known.scopes → may_be_declared s entry ≡ true → IsLawful (declared_as s entry defines)
  declared-lawful below may =
      let all = declared-agrees may in record {
        constants = constants-named (number_before s entry);
        within = all.within;
        agree = all.agree;
        proper = all.proper;
        kinds = all.kinds;
        united = united-still s entry lawful below defines;
      }
    where
      constants-named : (found : Option ℕ) → (behind_name s (kind_seen s entry) entry (has_linkage entry.linkage) found defines).known.constants ≡ []
      constants-named (Some number) = lawful.constants
      constants-named None = lawful.constants

-- ---- an object that its initialiser defines

-- its declarations agree with the type that is complete; without linkage it has none
pub record MayBeDefined (s : Standing) (linked : Bool) (number : ℕ) (kind : CType) : Type 0 where
  pub shared : linked ≡ true → (is_linked number s.linked ≡ true) × ((whole : CType) → whole_kind number s.linked ≡ Some whole → are_compatible whole kind ≡ true)
  pub alone : linked ≡ false → is_linked number s.linked ≡ false

module _ (s : Standing) (lawful : IsLawful s) (number : ℕ) (kind : CType) (proper : IsProper kind) where
  abbrev object : Bool → Standing
  object linked = retyping s lawful number kind s.known.scopes (with_link_if linked number kind true s.linked)

  object-by : (linked : Bool) → MayBeDefined s linked number kind → AgreeOn s (object linked)
  object-by true may =
      let one = may.shared refl in
      again-agrees s lawful number kind s.known.scopes (record { number = number; kind = kind; defines = true }) refl one.0 proper one.1 (λ bound b c. c)
  object-by false may = other-agrees s lawful number kind s.known.scopes (λ link. let none = may.alone refl in absurd (cc))

  object-names : (linked : Bool) (name : List ℕ) (at : ℕ) → number_linked name s.known.declared s.linked ≡ Some at
      → number_linked name (with_kind number kind s.known.declared) (with_link_if linked number kind true s.linked) ≡ Some at
  object-names true name at h =
      names-on name (with_kind number kind s.known.declared) s.linked (record { number = number; kind = kind; defines = true } ∷ []) at (names-kind name number kind s.known.declared s.linked ∙ h)
  object-names false name at h = names-kind name number kind s.known.declared s.linked ∙ h

  object-united : (linked : Bool) → IsUnited (object linked)
  object-united linked name at entry means is linkage =
      let one = kind-get number kind s.known.declared at entry is in
      let same = changed-same number kind at one.0 entry one.2 in
      object-names linked name at (lawful.united name at one.0 means one.1 (ap has_linkage (sym same.linkage) ∙ linkage))

  pub object-agrees : (entry : Declaration) → MayBeDefined s (has_linkage entry.linkage) number kind → AgreeOn s (object_here s entry number kind)
  object-agrees entry may = object-by (has_linkage entry.linkage) may

  pub object-lawful : (entry : Declaration) → MayBeDefined s (has_linkage entry.linkage) number kind → IsLawful (object_here s entry number kind)
  object-lawful entry may =
      let all = object-agrees entry may in record {
        constants = lawful.constants;
        within = all.within;
        agree = all.agree;
        proper = all.proper;
        kinds = all.kinds;
        united = object-united (has_linkage entry.linkage);
      }

-- ---- the beginning of a unit

pub beginning-lawful : (shapes : List Shape) → IsLawful (beginning shapes)
beginning-lawful shapes = record {
  constants = refl;
  within = λ number h. absurd (cc);
  agree = λ number. (bound, tt);
  proper = tt;
  kinds = λ number entry bound h. absurd (cc);
  united = λ name number entry means is. absurd (cc);
}
  where
    bound : CType
    bound = type_over [] 0
