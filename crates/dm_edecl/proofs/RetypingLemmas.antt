-- An entry gets another type: what is known then is sound, and kept.
use Rattle.std.specs.Prelude.{◌≡◌, ℕ, zero, suc, ◌⊎◌, ◌<◌, ◌≤◌, true, false, IsTrue, List, [], ◌∷◌, ◌++◌, length, Some, slice_get, refl}
use Rattle.std.proofs.Common.{sym, ap, ◌∙◌, subst, arith, inl, inr, ⊎_elim}
use Rattle.std.proofs.lemmas.List.{length-append}
use Rattle.std.proofs.lemmas.List.Elements.{All-nil}
use Rattle.std.proofs.lemmas.Option.{slice_get_within}
use Rattle.dm_type.specs.Alike.{are_compatible}
use Rattle.dm_type.specs.CTypes.{CType}
use Rattle.dm_type.specs.TableLaws.{injected}
use Rattle.dm_scope.specs.Scopes.{Scopes}
use Rattle.dm_tree.specs.Composites.{covers}
use Rattle.dm_tree.specs.Scenes.{Scene, IsConstant}
use Rattle.dm_tree.specs.Typing.{IsEntry, has_linkage}
use Rattle.dm_tree.specs.Units.{Declaration}
use Rattle.dm_typing.specs.Known.{Known}
use Rattle.dm_typing.specs.Sound.{IsProper, IsType, IsSoundKnown, AreConstants, scene_of}
use Rattle.dm_typing.proofs.CoverLemmas.{covers-through}
use Rattle.dm_typing.proofs.KindLemmas.{same-numbers, numbers-same}
use Rattle.dm_edecl.specs.Standing.{Linked, Standing}
use Rattle.dm_edecl.specs.Linkages.{whole_kind, with_kind, known_kind}
use Rattle.dm_edecl.specs.Settled.{IsBound, is_linked, IsSoundStanding, IsSameEntry, Keeps, is_open, IsFinal}
use Rattle.dm_edecl.proofs.KeepsLemmas.{same-itself}
use Rattle.dm_edecl.proofs.LinkLemmas.{bound-front, bound-last, proper-push, linked-push, linked-last, linked-back, agree-push}

-- ---- entries of which one has another type

unfoldable pub IsChanged : ℕ → CType → ℕ → Declaration → Declaration → Type 0
IsChanged number kind at old entry = ((at ≡ number → ⊥) × (entry ≡ old)) ⊎ ((at ≡ number) × (entry ≡ record old { kind = kind }))

changed-later : (number : ℕ) (kind : CType) (at : ℕ) (old entry : Declaration) → IsChanged number kind at old entry → IsChanged (suc number) kind (suc at) old entry
unfolding IsChanged
changed-later number kind at old entry h = ⊎_elim (λ l. inl ((λ e. l.0 (omega (arith, e))), l.1)) (λ r. inr (ap suc r.0, r.1)) h

pub kind-get : (number : ℕ) (kind : CType) (entries : List Declaration) (at : ℕ) (entry : Declaration) → slice_get (with_kind number kind entries) at ≡ Some entry
    → (old : Declaration) × (slice_get entries at ≡ Some old) × IsChanged number kind at old entry
unfolding IsChanged
kind-get number kind [] at entry h = absurd (cc)
kind-get zero kind (one ∷ others) zero entry h = (one, refl, inr (refl, sym (injected (record one { kind = kind }) entry h)))
kind-get zero kind (one ∷ others) (suc at) entry h = (entry, h, inl ((λ e. absurd (omega (arith, e))), refl))
kind-get (suc number) kind (one ∷ others) zero entry h = (one, refl, inl ((λ e. absurd (omega (arith, e))), sym (injected one entry h)))
kind-get (suc number) kind (one ∷ others) (suc at) entry h =
    let rest = kind-get number kind others at entry h in (rest.0, rest.1, changed-later number kind at rest.0 entry rest.2)

pub kind-put : (number : ℕ) (kind : CType) (entries : List Declaration) (at : ℕ) (old : Declaration) → slice_get entries at ≡ Some old
    → (entry : Declaration) × (slice_get (with_kind number kind entries) at ≡ Some entry) × IsChanged number kind at old entry
unfolding IsChanged
kind-put number kind [] at old h = absurd (cc)
kind-put zero kind (one ∷ others) zero old h = (record one { kind = kind }, refl, inr (refl, ap (λ (it : Declaration). record it { kind = kind }) (injected one old h)))
kind-put zero kind (one ∷ others) (suc at) old h = (old, h, inl ((λ e. absurd (omega (arith, e))), refl))
kind-put (suc number) kind (one ∷ others) zero old h = (old, h, inl ((λ e. absurd (omega (arith, e))), refl))
kind-put (suc number) kind (one ∷ others) (suc at) old h =
    let rest = kind-put number kind others at old h in (rest.0, rest.1, changed-later number kind at old rest.0 rest.2)

pub kind-length : (number : ℕ) (kind : CType) (entries : List Declaration) → length (with_kind number kind entries) ≡ length entries
kind-length number kind [] = refl
kind-length zero kind (one ∷ others) = refl
kind-length (suc number) kind (one ∷ others) = ap suc (kind-length number kind others)

pub kind-same : (number : ℕ) (kind : CType) (entries : List Declaration) (old : Declaration) → slice_get entries number ≡ Some old → old.kind ≡ kind
    → with_kind number kind entries ≡ entries
kind-same number kind [] old h e = refl
kind-same zero kind (one ∷ others) old h e =
    let same : one ≡ old = injected one old h in
    ap (λ it. record one { kind = it } ∷ others) (sym e ∙ sym (ap (λ (it : Declaration). it.kind) same))
kind-same (suc number) kind (one ∷ others) old h e = ap (λ rest. one ∷ rest) (kind-same number kind others old h e)

-- ---- what a declarator leaves

-- the name has an entry of such a sort and type, and if it has linkage, of its name and linkage
pub record IsDeclared (s t : Standing) (number : ℕ) (kind : CType) (entry : Declaration) : Type 0 where
  pub sound : IsSoundStanding t
  pub kept : Keeps s t
  pub now : Declaration
  pub at : slice_get t.known.declared number ≡ Some now
  pub sort : now.sort ≡ entry.sort
  pub kind_now : now.kind ≡ kind
  pub linked : has_linkage entry.linkage ≡ true → (now.name ≡ entry.name) × (now.linkage ≡ entry.linkage)

-- ---- another type of an entry that has linkage

pub pushed-length : (s : Standing) (entry : Declaration) → length (s.known.declared ++ entry ∷ []) ≡ suc (length s.known.declared)
pushed-length s entry = let l = length-append s.known.declared (entry ∷ []) in omega (arith, l)

-- such entries are sound
changed-entries : (s : Standing) (number : ℕ) (kind : CType) → IsSoundStanding s
    → ((old : Declaration) → slice_get s.known.declared number ≡ Some old → IsEntry (record old { kind = kind }) × IsType s.known kind)
    → (at : ℕ) (entry : Declaration) → slice_get (with_kind number kind s.known.declared) at ≡ Some entry → IsEntry entry × IsType s.known entry.kind
unfolding IsChanged
changed-entries s number kind sound is at entry h =
    let one = kind-get number kind s.known.declared at entry h in
    ⊎_elim (λ l. subst (λ (it : Declaration). IsEntry it × IsType s.known it.kind) (sym l.1) (sound.known.entries at one.0 one.1))
    (λ r. subst (λ (it : Declaration). IsEntry it × IsType s.known it.kind) (sym r.1) (is one.0 (subst (λ n. slice_get s.known.declared n ≡ Some one.0) r.0 one.1))) one.2

changed-known : (s : Standing) (number : ℕ) (kind : CType) (scopes : Scopes) → IsSoundStanding s
    → ((old : Declaration) → slice_get s.known.declared number ≡ Some old → IsEntry (record old { kind = kind }) × IsType s.known kind)
    → IsSoundKnown (record s.known { scopes = scopes; declared = with_kind number kind s.known.declared })
changed-known s number kind scopes sound is =
    let other : Known = record s.known { scopes = scopes; declared = with_kind number kind s.known.declared } in
    record {
      entries = changed-entries s number kind sound is;
      complete = sound.known.complete;
      layered = sound.known.layered;
      sizes = sound.known.sizes;
      begun = sound.known.begun;
      constants = subst (λ list. AreConstants other list) (sym sound.constants) (All-nil (IsConstant (scene_of other)), tt);
    }

pub changed-same : (number : ℕ) (kind : CType) (at : ℕ) (old entry : Declaration) → IsChanged number kind at old entry → IsSameEntry old entry
unfolding IsChanged
changed-same number kind at old entry h =
    ⊎_elim (λ l. subst (IsSameEntry old) (sym l.1) (same-itself old)) (λ r. subst (IsSameEntry old) (sym r.1) (record { name = refl; sort = refl; linkage = refl })) h

pub changed-at : (number : ℕ) (kind : CType) (old entry : Declaration) → IsChanged number kind number old entry → entry ≡ record old { kind = kind }
unfolding IsChanged
changed-at number kind old entry h = ⊎_elim (λ l. absurd (l.0 refl)) (λ r. r.1) h

-- ---- another declaration of what has linkage

module _ (s : Standing) (number : ℕ) (kind : CType) (scopes : Scopes) (x : Linked) (sound : IsSoundStanding s) (same : x.number ≡ number)
    (already : is_linked number s.linked ≡ true)
    (is : (old : Declaration) → slice_get s.known.declared number ≡ Some old → IsEntry (record old { kind = kind }) × IsType s.known kind)
    (proper : IsProper x.kind) (fits : (whole : CType) → whole_kind x.number s.linked ≡ Some whole → are_compatible whole x.kind ≡ true)
    (most : (bound : CType) → IsBound bound number s.linked → covers bound x.kind ≡ true → covers bound kind ≡ true) where
  abbrev pub pushing : Standing
  pushing = record s {
    known = record s.known { scopes = scopes; declared = with_kind number kind s.known.declared };
    linked = s.linked ++ x ∷ [];
  }

  kinds-kept : (at : ℕ) (entry : Declaration) (bound : CType) → is_linked at pushing.linked ≡ true → slice_get pushing.known.declared at ≡ Some entry
      → IsBound bound at pushing.linked → IsTrue (covers bound entry.kind)
  unfolding IsChanged
  kinds-kept at entry bound link h b =
      let one = kind-get number kind s.known.declared at entry h in
      let before = bound-front x bound at s.linked b in
      ⊎_elim
      (λ l. subst (λ (it : Declaration). IsTrue (covers bound it.kind)) (sym l.1)
      (⊎_elim (λ old. sound.kinds at one.0 bound old one.1 before) (λ new. absurd (l.0 (sym (same-numbers x.number at new) ∙ same))) (linked-back x at s.linked link)))
      (λ r. subst (λ (it : Declaration). IsTrue (covers bound it.kind)) (sym r.1)
      (most bound (subst (λ n. IsBound bound n s.linked) r.0 before) (bound-last x bound at s.linked b (numbers-same x.number at (same ∙ sym r.0))))) one.2

  pub pushing-sound : IsSoundStanding pushing
  pushing-sound = record {
    known = changed-known s number kind scopes sound is;
    constants = sound.constants;
    within = λ n h.
        let l = kind-length number kind s.known.declared in
        let low = sound.within number already in
        ⊎_elim (λ old. let one = sound.within n old in omega (arith, one, l)) (λ new. let e = same-numbers x.number n new in omega (arith, e, same, low, l)) (linked-back x n s.linked h);
    agree = agree-push x s.linked sound.proper sound.agree fits;
    proper = proper-push x s.linked sound.proper proper;
    kinds = kinds-kept;
  }

  changed-kind : (at : ℕ) (old entry : Declaration) → IsChanged number kind at old entry → is_linked at pushing.linked ≡ false → entry.kind ≡ old.kind
  unfolding IsChanged
  changed-kind at old entry h unlinked =
      ⊎_elim (λ l. ap (λ (it : Declaration). it.kind) l.1) (λ r. let yes = linked-last x at s.linked (numbers-same x.number at (same ∙ sym r.0)) in absurd (cc)) h

  pub pushing-keeps : Keeps s pushing
  pushing-keeps = record {
    shapes = omega arith;
    types = λ id inside. refl;
    contents = λ at content h. h;
    structs = omega arith;
    entries = let l = kind-length number kind s.known.declared in omega (arith, l);
    declared = λ at entry h.
        let one = kind-put number kind s.known.declared at entry h in
        (one.0, one.1, changed-same number kind at entry one.0 one.2, λ no. changed-kind at entry one.0 one.2 no);
    bounds = λ at bound b. bound-front x bound at s.linked b;
    links = λ at h. linked-push x at s.linked h;
    unlinked = λ at inside h.
        ⊎_elim (λ old. old) (λ new. subst (λ n. is_linked n s.linked ≡ true) (sym same ∙ same-numbers x.number at new) already) (linked-back x at s.linked h);
  }

-- ---- the type of what has no linkage is completed behind its declaration

module _ (before s : Standing) (number : ℕ) (kind : CType) (sound : IsSoundStanding s) (kept : Keeps before s) (behind : length before.known.declared ≤ number)
    (no : is_linked number s.linked ≡ false)
    (is : (old : Declaration) → slice_get s.known.declared number ≡ Some old → IsEntry (record old { kind = kind }) × IsType s.known kind) where
  abbrev pub completing : Standing
  completing = record s { known = known_kind number kind s.known }

  completed-kinds : (at : ℕ) (entry : Declaration) (bound : CType) → is_linked at s.linked ≡ true → slice_get completing.known.declared at ≡ Some entry
      → IsBound bound at s.linked → IsTrue (covers bound entry.kind)
  unfolding IsChanged
  completed-kinds at entry bound link h b =
      let one = kind-get number kind s.known.declared at entry h in
      ⊎_elim (λ l. subst (λ (it : Declaration). IsTrue (covers bound it.kind)) (sym l.1) (sound.kinds at one.0 bound link one.1 b))
      (λ r. let yes : is_linked number s.linked ≡ true = subst (λ n. is_linked n s.linked ≡ true) r.0 link in absurd (cc)) one.2

  pub completing-sound : IsSoundStanding completing
  completing-sound = record {
    known = changed-known s number kind s.known.scopes sound is;
    constants = sound.constants;
    within = λ n h. let l = kind-length number kind s.known.declared in let one = sound.within n h in omega (arith, one, l);
    agree = sound.agree;
    proper = sound.proper;
    kinds = completed-kinds;
  }

  kept-below : (at : ℕ) (old entry : Declaration) → at < length before.known.declared → IsChanged number kind at old entry → entry ≡ old
  unfolding IsChanged
  kept-below at old entry low h = ⊎_elim (λ l. l.1) (λ r. let e = r.0 in absurd (omega (arith, e, low, behind))) h

  pub completing-keeps : Keeps before completing
  completing-keeps = record {
    shapes = kept.shapes;
    types = kept.types;
    contents = kept.contents;
    structs = kept.structs;
    entries = let l = kind-length number kind s.known.declared in let one = kept.entries in omega (arith, l, one);
    declared = λ at entry h.
        let one = kept.declared at entry h in
        let two = kind-put number kind s.known.declared at one.0 one.1 in
        let same : two.0 ≡ one.0 = kept-below at one.0 two.0 (slice_get_within before.known.declared at entry h) two.2 in
        (two.0, two.1, subst (IsSameEntry entry) (sym same) one.2, λ unlinked. ap (λ (it : Declaration). it.kind) same ∙ one.3 unlinked);
    bounds = kept.bounds;
    links = kept.links;
    unlinked = kept.unlinked;
  }

  final-kind : (final : Scene) → IsFinal completing final → ((old : Declaration) → slice_get s.known.declared number ≡ Some old → covers kind old.kind ≡ true) → (at : ℕ) (old entry : Declaration)
      → slice_get s.known.declared at ≡ Some old → IsChanged number kind at old entry → (later : Declaration) → covers later.kind entry.kind ≡ true → covers later.kind old.kind ≡ true
  unfolding IsChanged
  final-kind final last wider at old entry h changed later c =
      ⊎_elim (λ l. subst (λ (it : Declaration). covers later.kind it.kind ≡ true) l.1 c)
      (λ r. covers-through later.kind kind old.kind (subst (λ (it : Declaration). covers later.kind it.kind ≡ true) r.1 c)
      (wider old (subst (λ n. slice_get s.known.declared n ≡ Some old) r.0 h))) changed

  final-kept : ((old : Declaration) → slice_get s.known.declared number ≡ Some old → is_open old.kind ≡ false → kind ≡ old.kind) → (at : ℕ) (old entry : Declaration)
      → slice_get s.known.declared at ≡ Some old → IsChanged number kind at old entry → (later : Declaration) → (is_open entry.kind ≡ false → later.kind ≡ entry.kind)
      → is_open old.kind ≡ false → later.kind ≡ old.kind
  unfolding IsChanged
  final-kept same at old entry h changed later kept shut =
      ⊎_elim (λ l. subst (λ (it : Declaration). (is_open it.kind ≡ false → later.kind ≡ it.kind)) l.1 kept shut)
      (λ r.
      let e = same old (subst (λ n. slice_get s.known.declared n ≡ Some old) r.0 h) shut in
      let then_kept : is_open kind ≡ false → later.kind ≡ kind = subst (λ (it : Declaration). (is_open it.kind ≡ false → later.kind ≡ it.kind)) r.1 kept in
      then_kept (subst (λ it. is_open it ≡ false) (sym e) shut) ∙ e) changed

  pub completing-final : (final : Scene) → IsFinal completing final → ((old : Declaration) → slice_get s.known.declared number ≡ Some old → covers kind old.kind ≡ true)
      → ((old : Declaration) → slice_get s.known.declared number ≡ Some old → is_open old.kind ≡ false → kind ≡ old.kind) → IsFinal s final
  completing-final final last wider unless = record {
    types = last.types;
    contents = last.contents;
    declared = λ at entry h.
        let one = kind-put number kind s.known.declared at entry h in
        let two = last.declared at one.0 one.1 in
        let same = changed-same number kind at entry one.0 one.2 in (
          two.0,
          two.1,
          record {
            same = record { name = two.2.same.name ∙ same.name; sort = two.2.same.sort ∙ same.sort; linkage = two.2.same.linkage ∙ same.linkage };
            kind = λ unlinked. final-kind final last wider at entry one.0 h one.2 two.0 (two.2.kind unlinked);
            kept = λ unlinked shut. final-kept unless at entry one.0 h one.2 two.0 (two.2.kept unlinked) shut;
            bound = two.2.bound;
          },
        );
  }
