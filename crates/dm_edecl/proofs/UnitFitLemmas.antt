-- A typed unit is well typed.
use Rattle.std.specs.Prelude.{◌≡◌, ℕ, zero, suc, ◌+◌, true, false, IsTrue, List, [], ◌∷◌, ◌++◌, All, Option, Some, None, is_some, unwrap_or, slice_get, refl}
use Rattle.std.specs.FinMap as map
use Rattle.std.proofs.Common.{sym, ap, ◌∙◌, subst, arith}
use Rattle.std.proofs.lemmas.List.Elements.{All-nil, All-cons}
use Rattle.dm_token.specs.declared.token.CToken.{CToken}
use Rattle.dm_type.specs.declared.shape.Shape.{Shape}
use Rattle.dm_type.specs.CTypes.{CType, void}
use Rattle.dm_type.specs.TableLaws.{injected}
use Rattle.dm_syn.specs.declared.declared.Declared.{Declared as Seen}
use Rattle.dm_syn.specs.Spans.{external_span}
use Rattle.dm_syn.specs.Scopes.{external_declares}
use Rattle.dm_syn.specs.Trees.{External}
use Rattle.dm_tree.specs.Composites.{covers}
use Rattle.dm_tree.specs.Scenes.{Scene}
use Rattle.dm_tree.specs.Typing.{IsEntry, has_linkage, file_scene, ExternalFits, IsWellTypedUnit}
use Rattle.dm_tree.specs.Units.{Declaration, TypedUnit}
use Rattle.dm_tree.specs.Units as unit
use Rattle.dm_typing.specs.Known.{Known, Setting, Outcome, given, broken}
use Rattle.dm_typing.specs.Sound.{AreSoundTokens, IsSoundKnown}
use Rattle.dm_typing.proofs.CoverLemmas.{covers-itself}
use Rattle.dm_typing.proofs.WholeLemmas.{sound-start}
use Rattle.dm_edecl.specs.Standing.{Linked, Standing, Progress, goes_on, stops, further}
use Rattle.dm_edecl.specs.Linkages.{whole_kind, with_whole_kinds}
use Rattle.dm_edecl.specs.Placing.{AreExternals}
use Rattle.dm_edecl.specs.Results.{DefinesResult}
use Rattle.dm_edecl.specs.Settled.{IsBound, is_linked, IsSoundStanding, IsFinalEntry, IsFinal, Settles}
use Rattle.dm_edecl.specs.Units.{unit_setting, beginning, typed_external, typed_externals, unit_of, typed_unit}
use Rattle.dm_edecl.proofs.CompletionLemmas.{covers-sort}
use Rattle.dm_edecl.proofs.FunctionFitLemmas.{FitsWhole, whole-settles}
use Rattle.dm_edecl.proofs.KeepsLemmas.{keeps-itself, keeps-final, settles-further}
use Rattle.dm_edecl.proofs.LinkLemmas.{unlinked-bound, whole-is}
use Rattle.dm_edecl.proofs.OnceLemmas.{functions-once}

pub beginning-sound : (shapes : List Shape) → IsSoundStanding (beginning shapes)
beginning-sound shapes = record {
  known = sound-start shapes (map.empty ∷ []);
  constants = refl;
  within = λ number h. absurd (cc);
  agree = λ number. (void, tt);
  proper = tt;
  kinds = λ number entry bound h e b. absurd (cc);
}

-- ---- external declarations, one behind the other

abbrev pub AllFit : Scene → List unit.External → Type 0
AllFit scene [] = Unit {0}
AllFit scene (first ∷ others) = FitsWhole scene first × AllFit scene others

module _ (setting : Setting) (tokens : AreSoundTokens setting.source.tokens) where
  externals-settle : (s : Standing) (names : List Seen) (at : ℕ) (externals : List External) → AreExternals setting.source names at externals → IsSoundStanding s
      → Settles AllFit s (typed_externals setting s externals)
  externals-settle s names at [] h sound = (sound, keeps-itself s, (λ final last. tt))
  externals-settle s names at (first ∷ others) h sound =
      settles-further FitsWhole AllFit s (typed_external setting s first)
      (λ then_standing made. further (typed_externals setting then_standing others) (λ behind more. goes_on behind (made ∷ more))) (whole-settles setting tokens s names first h.1 sound)
      (λ t made inside kept fits. settles-further AllFit AllFit t (typed_externals setting t others) (λ behind more. goes_on behind (made ∷ more))
      (externals-settle t (external_declares setting.source first ++ names) (external_span first).after others h.2 inside)
      (λ u more still further_kept all. (still, keeps-itself u, (λ final last. (fits final (keeps-final t u final further_kept last), all final last)))))

all-fit : (scene : Scene) (externals : List unit.External) → AllFit scene externals → All (ExternalFits scene) externals
all-fit scene [] h = All-nil (ExternalFits scene)
all-fit scene (first ∷ others) h = All-cons (ExternalFits scene) first others h.0.0 (all-fit scene others h.1)

abbrev Gives : Scene → unit.External → Type 0
Gives scene one = DefinesResult scene one.form

all-give : (scene : Scene) (externals : List unit.External) → AllFit scene externals → All (Gives scene) externals
all-give scene [] h = All-nil (Gives scene)
all-give scene (first ∷ others) h = All-cons (Gives scene) first others h.0.1 (all-give scene others h.1)

-- ---- the entries at the end

-- an entry with the type that all its declarations say
whole-entry : List Linked → ℕ → Declaration → Declaration
whole-entry linked n entry = record entry { kind = unwrap_or (whole_kind n linked) entry.kind }

whole-get : (linked : List Linked) (n : ℕ) (entries : List Declaration) (at : ℕ) (entry : Declaration) → slice_get entries at ≡ Some entry
    → slice_get (with_whole_kinds linked n entries) at ≡ Some (whole-entry linked (n + at) entry)
unfolding whole-entry
whole-get linked n [] at entry h = absurd (cc)
whole-get linked n (one ∷ others) zero entry h =
    let same : n ≡ n + 0 = omega arith in
    ap Some (ap (whole-entry linked n) (injected one entry h) ∙ ap (λ m. whole-entry linked m entry) same)
whole-get linked n (one ∷ others) (suc at) entry h =
    let same : (n + 1) + at ≡ n + suc at = omega arith in
    whole-get linked (n + 1) others at entry h ∙ ap (λ m. Some (whole-entry linked m entry)) same

module _ (s : Standing) (sound : IsSoundStanding s) where
  abbrev entries : List Declaration
  entries = with_whole_kinds s.linked 0 s.known.declared

  entry-get : (at : ℕ) (entry : Declaration) → slice_get s.known.declared at ≡ Some entry → slice_get entries at ≡ Some (whole-entry s.linked at entry)
  entry-get at entry h =
      let same : 0 + at ≡ at = omega arith in
      whole-get s.linked 0 s.known.declared at entry h ∙ ap (λ m. Some (whole-entry s.linked m entry)) same

  whole-final : (at : ℕ) (entry : Declaration) → slice_get s.known.declared at ≡ Some entry → IsFinalEntry s at entry (whole-entry s.linked at entry)
  unfolding whole-entry
  whole-final at entry h = record {
    same = record { name = refl; sort = refl; linkage = refl };
    kind = λ no. subst (λ it. IsTrue (covers it entry.kind)) (sym (plain no)) (covers-itself entry.kind);
    kept = λ no shut. plain no;
    bound = by-whole (whole_kind at s.linked) refl;
  }
    where
      plain-by : (found : Option CType) → is_some found ≡ false → unwrap_or found entry.kind ≡ entry.kind
      plain-by None h = refl
      plain-by (Some it) h = absurd (cc)

      plain : is_linked at s.linked ≡ false → unwrap_or (whole_kind at s.linked) entry.kind ≡ entry.kind
      plain unlinked = plain-by (whole_kind at s.linked) unlinked

      by-whole : (found : Option CType) → whole_kind at s.linked ≡ found → IsBound (unwrap_or found entry.kind) at s.linked
      by-whole None e = unlinked-bound entry.kind at s.linked e
      by-whole (Some whole) e = (whole-is (sound.agree at).0 at s.linked whole sound.proper (sound.agree at).1 e).2

  pub unit-final : IsFinal s (file_scene s.known.types entries)
  unit-final = record {
    types = λ id inside. refl;
    contents = λ at content h. h;
    declared = λ at entry h. (whole-entry s.linked at entry, entry-get at entry h, whole-final at entry h);
  }

  -- the type of an entry covers what it had
  whole-covers : (at : ℕ) (entry : Declaration) → slice_get s.known.declared at ≡ Some entry → covers (unwrap_or (whole_kind at s.linked) entry.kind) entry.kind ≡ true
  whole-covers at entry h = by-whole (whole_kind at s.linked) refl
    where
      by-whole : (found : Option CType) → whole_kind at s.linked ≡ found → covers (unwrap_or found entry.kind) entry.kind ≡ true
      by-whole None e = covers-itself entry.kind
      by-whole (Some whole) e =
          sound.kinds at entry whole (ap is_some e) h (whole-is (sound.agree at).0 at s.linked whole sound.proper (sound.agree at).1 e).2

  whole-is-entry : (at : ℕ) (entry : Declaration) → slice_get s.known.declared at ≡ Some entry → IsEntry (whole-entry s.linked at entry)
  unfolding whole-entry
  whole-is-entry at entry h =
      covers-sort entry.sort (unwrap_or (whole_kind at s.linked) entry.kind) entry.kind (has_linkage entry.linkage) (whole-covers at entry h) (sound.known.entries at entry h).0

all-entries : (linked : List Linked) (n : ℕ) (entries : List Declaration)
    → ((at : ℕ) (entry : Declaration) → slice_get entries at ≡ Some entry → IsEntry (whole-entry linked (n + at) entry)) → All IsEntry (with_whole_kinds linked n entries)
unfolding whole-entry
all-entries linked n [] h = All-nil IsEntry
all-entries linked n (one ∷ others) h =
    let here : n + 0 ≡ n = omega arith in
    All-cons IsEntry (whole-entry linked n one) (with_whole_kinds linked (n + 1) others) (subst (λ m. IsEntry (whole-entry linked m one)) here (h 0 one refl))
    (all-entries linked (n + 1) others
    (λ at entry e. let same : n + suc at ≡ (n + 1) + at = omega arith in subst (λ m. IsEntry (whole-entry linked m entry)) same (h (suc at) entry e)))

-- ---- units

known_in : Outcome TypedUnit → Known → Known
known_in (given known one) other = known
known_in (broken rule at) other = other

unit_in : Outcome TypedUnit → TypedUnit → TypedUnit
unit_in (given known one) other = one
unit_in (broken rule at) other = other

unit-typed : (progress : Progress (List unit.External)) (start : Standing) (known : Known) (one : TypedUnit) → Settles AllFit start progress → unit_of progress ≡ given known one
    → All IsEntry one.declared × All (ExternalFits (file_scene known.types one.declared)) one.externals × All (Gives (file_scene known.types one.declared)) one.externals
unfolding known_in unit_in
unit-typed (goes_on behind externals) start known one h e =
    let made : TypedUnit = record { declared = with_whole_kinds behind.linked 0 behind.known.declared; externals = externals } in
    let scene = file_scene behind.known.types made.declared in
    let known-is : behind.known ≡ known = ap (λ outcome. known_in outcome known) e in
    let one-is : made ≡ one = ap (λ outcome. unit_in outcome one) e in
    let entries-are : All IsEntry made.declared =
    all-entries behind.linked 0 behind.known.declared
    (λ at entry g. let same : at ≡ 0 + at = omega arith in subst (λ m. IsEntry (whole-entry behind.linked m entry)) same (whole-is-entry behind h.0 at entry g)) in
    let all = h.2 scene (unit-final behind h.0) in
    subst (λ (it : TypedUnit). All IsEntry it.declared × All (ExternalFits (file_scene known.types it.declared)) it.externals × All (Gives (file_scene known.types it.declared)) it.externals) one-is
    (subst (λ (it : Known). All IsEntry made.declared × All (ExternalFits (file_scene it.types made.declared)) made.externals × All (Gives (file_scene it.types made.declared)) made.externals) known-is
    (entries-are, all-fit scene externals all, all-give scene externals all))
unit-typed (stops rule at) start known one h e = absurd (cc)

unit-known : (progress : Progress (List unit.External)) (start : Standing) (known : Known) (one : TypedUnit) → Settles AllFit start progress → unit_of progress ≡ given known one
    → IsSoundKnown known
unfolding known_in
unit-known (goes_on behind externals) start known one h e = subst IsSoundKnown (ap (λ outcome. known_in outcome known) e) h.0.known
unit-known (stops rule at) start known one h e = absurd (cc)

-- what is known at the end of a unit is sound
pub units-known : (shapes : List Shape) (tokens : List CToken) (externals : List External) (known : Known) (one : TypedUnit) → AreSoundTokens tokens
    → AreExternals (unit_setting tokens externals).source [] 0 externals → typed_unit shapes tokens externals ≡ given known one → IsSoundKnown known
units-known shapes tokens externals known one sound are e =
    let setting = unit_setting tokens externals in
    unit-known (typed_externals setting (beginning shapes) externals) (beginning shapes) known one
    (externals-settle setting sound (beginning shapes) [] 0 externals are (beginning-sound shapes)) e

pub units-typed : (shapes : List Shape) (tokens : List CToken) (externals : List External) (known : Known) (one : TypedUnit) → AreSoundTokens tokens
    → AreExternals (unit_setting tokens externals).source [] 0 externals → typed_unit shapes tokens externals ≡ given known one → IsWellTypedUnit known.types one
units-typed shapes tokens externals known one sound are e =
    let setting = unit_setting tokens externals in
    let settled = externals-settle setting sound (beginning shapes) [] 0 externals are (beginning-sound shapes) in
    let fits = unit-typed (typed_externals setting (beginning shapes) externals) (beginning shapes) known one settled e in
    record { entries = fits.0; externals = fits.1; once = functions-once shapes tokens externals known one e }

-- a function that a typed unit defines gives void or a complete object type
pub units-give : (shapes : List Shape) (tokens : List CToken) (externals : List External) (known : Known) (one : TypedUnit) → AreSoundTokens tokens
    → AreExternals (unit_setting tokens externals).source [] 0 externals → typed_unit shapes tokens externals ≡ given known one
    → All (λ (external : unit.External). DefinesResult (file_scene known.types one.declared) external.form) one.externals
units-give shapes tokens externals known one sound are e =
    let setting = unit_setting tokens externals in
    let settled = externals-settle setting sound (beginning shapes) [] 0 externals are (beginning-sound shapes) in
    (unit-typed (typed_externals setting (beginning shapes) externals) (beginning shapes) known one settled e).2
