-- What is known is kept from part to part of a unit, and up to its end.
use Rattle.std.specs.Prelude.{◌≡◌, ℕ, zero, suc, ◌⊎◌, ◌<◌, ◌≤◌, Bool, true, false, IsTrue, List, [], ◌∷◌, ◌++◌, length, drop, Some, slice_get, refl}
use Rattle.std.proofs.Common.{get_or, sym, ap, ◌∙◌, subst, arith, inl, inr, ⊎_elim}
use Rattle.std.proofs.lemmas.List.Elements.{All-nil}
use Rattle.std.proofs.lemmas.Option.{slice_get_within, slice_get-get_or}
use Rattle.dm_type.specs.TableLaws.{injected}
use Rattle.dm_scope.specs.Scopes.{Scopes}
use Rattle.dm_name_map.specs.Numbers.{Numbers}
use Rattle.dm_tree.specs.Composites.{covers}
use Rattle.dm_tree.specs.Scenes.{Scene, IsConstant}
use Rattle.dm_tree.specs.Trees.{Tree}
use Rattle.dm_tree.specs.Typing.{IsWellTyped}
use Rattle.dm_tree.specs.Units.{Declaration}
use Rattle.dm_typing.specs.Known.{Known, Outcome, given, broken}
use Rattle.dm_typing.specs.Later.{IsLater}
use Rattle.dm_typing.specs.Sound.{IsSoundKnown, KnowsMore, GivesMore, AreConstants, IsSound, scene_of}
use Rattle.dm_typing.proofs.GrowthLemmas.{typed-later}
use Rattle.dm_edecl.specs.Standing.{Standing, Progress, goes_on, stops, further, knowing, collecting, keeps, opened, closed, known_behind}
use Rattle.dm_edecl.specs.Settled.{is_linked, IsSoundStanding, IsSameEntry, Keeps, is_open, IsFinalEntry, IsFinal, Settles}

-- ---- entries

pub same-itself : (entry : Declaration) → IsSameEntry entry entry
same-itself entry = record { name = refl; sort = refl; linkage = refl }

pub same-through : (a b c : Declaration) → IsSameEntry a b → IsSameEntry b c → IsSameEntry a c
same-through a b c first second = record { name = second.name ∙ first.name; sort = second.sort ∙ first.sort; linkage = second.linkage ∙ first.linkage }

same-back : (a b : Declaration) → IsSameEntry a b → IsSameEntry b a
same-back a b same = record { name = sym same.name; sort = sym same.sort; linkage = sym same.linkage }

pub not-linked : (one other : Bool) → (one ≡ true → other ≡ true) → other ≡ false → one ≡ false
not-linked true other f h = let t = f refl in absurd (cc)
not-linked false other f h = refl

pub split : (m n : ℕ) → (m < n) ⊎ (n ≤ m)
split m zero = inr (omega arith)
split zero (suc n) = inl (omega arith)
split (suc m) (suc n) = ⊎_elim (λ h. inl (omega (arith, h))) (λ h. inr (omega (arith, h))) (split m n)

-- the entry of a number that is one
pub there : (entries : List Declaration) (at : ℕ) (other : Declaration) → at < length entries → (entry : Declaration) × (slice_get entries at ≡ Some entry)
there entries at other inside = (get_or entries at other, slice_get-get_or entries at other inside)

pub lengths-grow : (old new : List Declaration) → ((at : ℕ) (entry : Declaration) → slice_get old at ≡ Some entry → slice_get new at ≡ Some entry) → length old ≤ length new
lengths-grow [] new h = omega arith
lengths-grow (first ∷ old) [] h = let e = h 0 first refl in absurd (cc)
lengths-grow (first ∷ old) (one ∷ new) h = let rest = lengths-grow old new (λ at entry e. h (suc at) entry e) in omega (arith, rest)

-- ---- what is kept

pub keeps-itself : (s : Standing) → Keeps s s
keeps-itself s = record {
  shapes = omega arith;
  types = λ id inside. refl;
  contents = λ at content h. h;
  structs = omega arith;
  entries = omega arith;
  declared = λ at entry h. (entry, h, same-itself entry, λ no. refl);
  bounds = λ at bound b. b;
  links = λ at h. h;
  unlinked = λ at inside h. h;
}

pub keeps-through : (a b c : Standing) → Keeps a b → Keeps b c → Keeps a c
keeps-through a b c first second = record {
  shapes = let one = first.shapes in let other = second.shapes in omega (arith, one, other);
  types = λ id inside. second.types id (let one = first.shapes in omega (arith, one, inside)) ∙ first.types id inside;
  contents = λ at content h. second.contents at content (first.contents at content h);
  structs = let one = first.structs in let other = second.structs in omega (arith, one, other);
  entries = let one = first.entries in let other = second.entries in omega (arith, one, other);
  declared = λ at entry h.
      let one = first.declared at entry h in
      let two = second.declared at one.0 one.1 in
      (two.0, two.1, same-through entry one.0 two.0 one.2 two.2, λ no. two.3 no ∙ one.3 (not-linked (is_linked at b.linked) (is_linked at c.linked) (second.links at) no));
  bounds = λ at bound h. first.bounds at bound (second.bounds at bound h);
  links = λ at h. second.links at (first.links at h);
  unlinked = λ at inside h. first.unlinked at inside (second.unlinked at (let one = first.entries in omega (arith, one, inside)) h);
}

-- what comes at the end of what is known further on comes at the end here
pub keeps-final : (old new : Standing) (final : Scene) → Keeps old new → IsFinal new final → IsFinal old final
keeps-final old new final kept last = record {
  types = λ id inside. last.types id (let one = kept.shapes in omega (arith, one, inside)) ∙ kept.types id inside;
  contents = λ at content h. last.contents at content (kept.contents at content h);
  declared = λ at entry h.
      let one = kept.declared at entry h in
      let two = last.declared at one.0 one.1 in
      let inside = slice_get_within old.known.declared at entry h in
      let still : is_linked at old.linked ≡ false → is_linked at new.linked ≡ false = λ no. not-linked (is_linked at new.linked) (is_linked at old.linked) (kept.unlinked at inside) no in (
        two.0,
        two.1,
        record {
          same = same-through entry one.0 two.0 one.2 two.2.same;
          kind = λ no. subst (λ kind. IsTrue (covers two.0.kind kind)) (one.3 (still no)) (two.2.kind (still no));
          kept = λ no shut. two.2.kept (still no) (subst (λ it. is_open it ≡ false) (sym (one.3 (still no))) shut) ∙ one.3 (still no);
          bound = kept.bounds at two.0.kind two.2.bound;
        },
      );
}

-- the end is later than what is known here
pub final-later : (s : Standing) (final : Scene) → IsSoundStanding s → IsFinal s final → IsLater s.known final
final-later s final sound last = record {
  types = last.types;
  contents = last.contents;
  declared = λ at entry h.
      let one = last.declared at entry h in
      (one.0, one.1, record { name = one.2.same.name; sort = one.2.same.sort; linkage = one.2.same.linkage; kind = kind-by at entry h one.0 one.2 (is_linked at s.linked) refl });
}
  where
    kind-by : (at : ℕ) (entry : Declaration) → slice_get s.known.declared at ≡ Some entry → (later : Declaration) → IsFinalEntry s at entry later → (test : Bool)
        → is_linked at s.linked ≡ test → IsTrue (covers later.kind entry.kind)
    kind-by at entry h later fits true e = sound.kinds at entry later.kind e h fits.bound
    kind-by at entry h later fits false e = fits.kind e

-- ---- expressions

-- no lengths are collected
pub sound-without : (known : Known) (constants : List Tree) → IsSoundKnown known → constants ≡ [] → IsSoundKnown (record known { constants = constants })
sound-without known constants sound e =
    let other : Known = record known { constants = constants } in
    record {
      entries = sound.entries;
      complete = sound.complete;
      layered = sound.layered;
      sizes = sound.sizes;
      begun = sound.begun;
      constants = subst (λ list. AreConstants other list) (sym e) (All-nil (IsConstant (scene_of other)), tt);
    }

module _ (s : Standing) (known : Known) (sound : IsSoundStanding s) (more : KnowsMore s.known known) where
  pub knowing-keeps : Keeps s (knowing s known)
  knowing-keeps = record {
    shapes = more.shapes;
    types = more.types;
    contents = more.contents;
    structs = more.structs;
    entries = lengths-grow s.known.declared known.declared more.declared;
    declared = λ at entry h. (entry, more.declared at entry h, same-itself entry, λ no. refl);
    bounds = λ at bound b. b;
    links = λ at h. h;
    unlinked = λ at inside h. h;
  }

  pub knowing-sound : IsSoundKnown known → IsSoundStanding (knowing s known)
  knowing-sound still = record {
    known = sound-without known s.known.constants still sound.constants;
    constants = sound.constants;
    within = λ n h. let one = sound.within n h in let grown = lengths-grow s.known.declared known.declared more.declared in omega (arith, one, grown);
    agree = sound.agree;
    proper = sound.proper;
    kinds = λ n entry bound is h b.
        let old = there s.known.declared n entry (sound.within n is) in
        let same : old.0 ≡ entry = injected old.0 entry (sym (more.declared n old.0 old.1) ∙ h) in
        sound.kinds n entry bound is (old.1 ∙ ap Some same) b;
  }

-- a well-typed expression is well typed at the end
pub expression-final : (s : Standing) (final : Scene) → IsSoundStanding s → IsFinal s final → (tree : Tree) → IsSound s.known tree → IsWellTyped final tree
expression-final s final sound last tree is = typed-later s.known sound.known.complete final (final-later s final sound last) tree is.0 is.3

-- ---- steps

pub settles-from : {A : Type 0} (P : Scene → A → Type 0) (s t : Standing) (progress : Progress A) → Keeps s t → Settles P t progress → Settles P s progress
settles-from P s t (goes_on u it) kept h = (h.0, keeps-through s t u kept h.1, h.2)
settles-from P s t (stops rule at) kept h = tt

pub settles-further : {A B : Type 0} (P : Scene → A → Type 0) (Q : Scene → B → Type 0) (s : Standing) (progress : Progress A) (next : Standing → A → Progress B) → Settles P s progress
    → ((t : Standing) (it : A) → IsSoundStanding t → Keeps s t → ((final : Scene) → IsFinal t final → P final it) → Settles Q t (next t it)) → Settles Q s (further progress next)
settles-further P Q s (goes_on t it) next h step = settles-from Q s t (next t it) h.1 (step t it h.0 h.1 h.2)
settles-further P Q s (stops rule at) next h step = tt

pub settles-keeps : {A : Type 0} (P : Scene → A → Type 0) (s : Standing) (test : Bool) (rule at : ℕ) (next : Progress A) → (test ≡ true → Settles P s next)
    → Settles P s (keeps test rule at next)
settles-keeps P s true rule at next h = h refl
settles-keeps P s false rule at next h = tt

pub settles-collecting : {A B : Type 0} (P : Known → A → Type 0) (Q : Scene → B → Type 0) (s : Standing) (outcome : Outcome A) (next : Standing → List Tree → A → Progress B)
    → IsSoundStanding s → GivesMore s.known P outcome
    → ((known : Known) (it : A) → KnowsMore s.known known → IsSoundKnown known → P known it → IsSoundStanding (knowing s known)
    → Settles Q (knowing s known) (next (knowing s known) known.constants it))
    → Settles Q s (collecting s outcome next)
settles-collecting P Q s (given known it) next sound h step =
    settles-from Q s (knowing s known) (next (knowing s known) known.constants it) (knowing-keeps s known sound h.0)
    (step known it h.0 h.1 h.3 (knowing-sound s known sound h.0 h.1))
settles-collecting P Q s (broken rule at) next sound h step = tt

-- ---- scopes

pub front-kept : {A : Type 0} (xs ys : List A) (at : ℕ) → at < length xs → slice_get (xs ++ ys) at ≡ slice_get xs at
front-kept [] ys at h = absurd (omega (arith, h))
front-kept (x ∷ xs) ys zero h = refl
front-kept (x ∷ xs) ys (suc at) h = front-kept xs ys at (omega (arith, h))

back-kept : {A : Type 0} (xs ys : List A) (at : ℕ) → length xs ≤ length ys → length xs ≤ at → slice_get (xs ++ drop (length xs) ys) at ≡ slice_get ys at
back-kept [] [] at h g = refl
back-kept [] (y ∷ ys) at h g = refl
back-kept (x ∷ xs) [] at h g = absurd (omega (arith, h))
back-kept (x ∷ xs) (y ∷ ys) zero h g = absurd (omega (arith, g))
back-kept (x ∷ xs) (y ∷ ys) (suc at) h g = back-kept xs ys at (omega (arith, h)) (omega (arith, g))

length-kept : {A : Type 0} (xs ys : List A) → length xs ≤ length ys → length ys ≤ length (xs ++ drop (length xs) ys)
length-kept [] [] h = omega arith
length-kept [] (y ∷ ys) h = omega arith
length-kept (x ∷ xs) [] h = absurd (omega (arith, h))
length-kept (x ∷ xs) (y ∷ ys) h = let rest = length-kept xs ys (omega (arith, h)) in omega (arith, rest)

module _ (scopes : Scopes) (s : Standing) where
  abbrev pub seeing : Standing
  seeing = record s { known = record s.known { scopes = scopes } }

  pub seeing-sound : IsSoundStanding s → IsSoundStanding seeing
  seeing-sound sound = record {
    known = record {
      entries = sound.known.entries;
      complete = sound.known.complete;
      layered = sound.known.layered;
      sizes = sound.known.sizes;
      begun = sound.known.begun;
      constants = sound.known.constants;
    };
    constants = sound.constants;
    within = sound.within;
    agree = sound.agree;
    proper = sound.proper;
    kinds = sound.kinds;
  }

  pub seeing-keeps : Keeps s seeing
  seeing-keeps = record {
    shapes = omega arith;
    types = λ id inside. refl;
    contents = λ at content h. h;
    structs = omega arith;
    entries = omega arith;
    declared = λ at entry h. (entry, h, same-itself entry, λ no. refl);
    bounds = λ at bound b. b;
    links = λ at h. h;
    unlinked = λ at inside h. h;
  }

pub opened-sound : (scope : Numbers) (s : Standing) → IsSoundStanding s → IsSoundStanding (opened scope s)
opened-sound scope s sound = seeing-sound (scope ∷ s.known.scopes) s sound

pub opened-keeps : (scope : Numbers) (s : Standing) → Keeps s (opened scope s)
opened-keeps scope s = seeing-keeps (scope ∷ s.known.scopes) s

-- behind a scope
module _ (s t : Standing) (sound : IsSoundStanding s) (kept : Keeps s t) (inside : IsSoundStanding t) where
  abbrev pub behind : Standing
  behind = record t { known = known_behind s.known t.known }

  front : (at : ℕ) → at < length s.known.declared → slice_get behind.known.declared at ≡ slice_get s.known.declared at
  front at low = front-kept s.known.declared (drop (length s.known.declared) t.known.declared) at low

  back : (at : ℕ) → length s.known.declared ≤ at → slice_get behind.known.declared at ≡ slice_get t.known.declared at
  back at high = back-kept s.known.declared t.known.declared at kept.entries high

  pub closed-keeps : Keeps s behind
  closed-keeps = record {
    shapes = kept.shapes;
    types = kept.types;
    contents = kept.contents;
    structs = kept.structs;
    entries = let one = kept.entries in let other = length-kept s.known.declared t.known.declared kept.entries in omega (arith, one, other);
    declared = λ at entry h. (entry, front at (slice_get_within s.known.declared at entry h) ∙ h, same-itself entry, λ no. refl);
    bounds = kept.bounds;
    links = kept.links;
    unlinked = kept.unlinked;
  }

  pub closed-sound : IsSoundStanding behind
  closed-sound = record {
    known = record {
      entries = λ at entry h.
          ⊎_elim
          (λ low.
          let one = sound.known.entries at entry (sym (front at low) ∙ h) in
          (one.0, (one.1.0, λ number e. let below = one.1.1 number e in let more = kept.structs in omega (arith, below, more))))
          (λ high. inside.known.entries at entry (sym (back at high) ∙ h)) (split at (length s.known.declared));
      complete = inside.known.complete;
      layered = inside.known.layered;
      sizes = inside.known.sizes;
      begun = inside.known.begun;
      constants = subst (λ list. AreConstants (known_behind s.known t.known) list) (sym inside.constants) (All-nil (IsConstant (scene_of (known_behind s.known t.known))), tt);
    };
    constants = inside.constants;
    within = λ n h. let one = inside.within n h in let other = length-kept s.known.declared t.known.declared kept.entries in omega (arith, one, other);
    agree = inside.agree;
    proper = inside.proper;
    kinds = λ n entry bound is h b.
        ⊎_elim (λ low. sound.kinds n entry bound (kept.unlinked n low is) (sym (front n low) ∙ h) (kept.bounds n bound b))
        (λ high. inside.kinds n entry bound is (sym (back n high) ∙ h) b) (split n (length s.known.declared));
  }

  pub closed-final : (final : Scene) → IsFinal behind final → IsFinal t final
  closed-final final last = record {
    types = last.types;
    contents = last.contents;
    declared = λ at entry h.
        ⊎_elim
        (λ low.
        let old = there s.known.declared at entry low in
        let one = kept.declared at old.0 old.1 in
        let same : one.0 ≡ entry = injected one.0 entry (sym one.1 ∙ h) in
        let two = last.declared at old.0 (front at low ∙ old.1) in
        let same-kind : is_linked at t.linked ≡ false → old.0.kind ≡ entry.kind = λ no. sym (one.3 no) ∙ ap (λ (it : Declaration). it.kind) same in (
          two.0,
          two.1,
          record {
            same = same-through entry old.0 two.0 (same-back old.0 entry (subst (IsSameEntry old.0) same one.2)) two.2.same;
            kind = λ no. subst (λ kind. IsTrue (covers two.0.kind kind)) (same-kind no) (two.2.kind no);
            kept = λ no shut. two.2.kept no (subst (λ it. is_open it ≡ false) (sym (same-kind no)) shut) ∙ same-kind no;
            bound = two.2.bound;
          },
        ))
        (λ high. let two = last.declared at entry (back at high ∙ h) in (two.0, two.1, record { same = two.2.same; kind = two.2.kind; kept = two.2.kept; bound = two.2.bound }))
        (split at (length s.known.declared));
  }

settles-closed : {A : Type 0} (P : Scene → A → Type 0) (scope : Numbers) (s : Standing) (progress : Progress A) → IsSoundStanding s → Settles P (opened scope s) progress
    → Settles P s (closed s progress)
settles-closed P scope s (goes_on t it) sound h =
    let kept = keeps-through s (opened scope s) t (opened-keeps scope s) h.1 in
    (closed-sound s t sound kept h.0, closed-keeps s t sound kept h.0, λ final last. h.2 final (closed-final s t sound kept h.0 final last))
settles-closed P scope s (stops rule at) sound h = tt

pub settles-scope : {A : Type 0} (P : Scene → A → Type 0) (scope : Numbers) (s : Standing) (next : Standing → Progress A) → IsSoundStanding s
    → ((t : Standing) → IsSoundStanding t → Settles P t (next t)) → Settles P s (closed s (next (opened scope s)))
settles-scope P scope s next sound step = settles-closed P scope s (next (opened scope s)) sound (step (opened scope s) (opened-sound scope s sound))
