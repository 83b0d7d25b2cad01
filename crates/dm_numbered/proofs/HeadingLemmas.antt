-- The declarator of a function definition: the scope of its own parameters, which opens again at the body, is the same in the typing and in the names.
use Rattle.std.specs.Prelude.{◌≡◌, refl, ℕ, ◌≤◌, ◌⊎◌, true, length, List, [], ◌∷◌, Option, Some, None, IsSome}
use Rattle.std.proofs.Common.{sym, ap, ◌∙◌, subst, arith, inl, inr}
use Rattle.dm_type.specs.CTypes.{CType}
use Rattle.dm_type.specs.TableLaws.{injected}
use Rattle.dm_syn.specs.Statements.{own_in_pointers, own_parameters, own_in_direct}
use Rattle.dm_syn.specs.Trees.{Declarator, Direct, Parameters}
use Rattle.dm_syn.specs.Trees as tree
use Rattle.dm_typing.specs.Known.{Known, Outcome, given, broken, after, with_it}
use Rattle.dm_typing.specs.Typing.{TypedParameter, entered, parameters_of, without_void}
use Rattle.dm_edecl.specs.Declaring.{typed_declarator}
use Rattle.dm_edecl.specs.Units.{defined_parameters, own_defined, Heading, innermost, typed_heading}
use Rattle.dm_edecl.proofs.ParameterLemmas.{SameAs, list-same}
use Rattle.dm_names.specs.declared.nest.Scope.{Scope}
use Rattle.dm_names.specs.declared.seen.Seen.{Seen}
use Rattle.dm_names.specs.Scopes.{nothing_declared, first_of}
use Rattle.dm_names.specs.Seen.{either, list_opened, list_closed, expr, declarator, direct, parameters, own_scope}
use Rattle.dm_numbered.proofs.GrowthLemmas.{Grows, itself, list-grows, expr-grows, parameters-grow}
use Rattle.dm_numbered.proofs.ScopeLemmas.{IsAlike, IsUnder, first-alike, first-under}
use Rattle.dm_numbered.proofs.StateLemmas.{Frame, Good, In}
use Rattle.dm_numbered.proofs.FormLemmas.{Any, Yields, with-yields}
use Rattle.dm_numbered.proofs.ExpressionLemmas.{Keeps, entered-good, parameters-keep}
use Rattle.dm_numbered.proofs.DeclarationLemmas.{source, typed-declarator-keeps}

-- ---- the parameters of a definition: the list that stands first in its declarator

-- from the parameters that stand nearest to a part of a declarator to those that stand first in the whole, and through the part itself
abbrev Nearest : Type 0
Nearest = Option Parameters → Option Parameters

-- nothing stands between the name and what stands behind
record IsBare (nearest : Nearest) (through : Seen → Seen) : Type 0 where
  pub same : (these : Option Parameters) → nearest these ≡ these
  pub nothing : (seen : Seen) → through seen ≡ seen

module _ (c : Frame) where
  abbrev inside_list : Seen → Parameters → Seen
  inside_list seen these = parameters (source c) (list_opened seen) these

  -- what stands first does so whatever stands behind, and its scope is kept
  record IsFixed (nearest : Nearest) (through : Seen → Seen) : Type 0 where
    pub own : Option Parameters
    pub always : (these : Option Parameters) → nearest these ≡ own
    pub told : (these : Parameters) → own ≡ Some these → (seen : Seen) → In c (through seen) → In c (inside_list seen these)
    pub entries : (these : Parameters) → own ≡ Some these → (seen : Seen) → (inside_list seen these).entries ≤ (through seen).entries
    pub kept : (these : Parameters) → own ≡ Some these → (seen : Seen) → seen.own ≡ None → (scope : Scope) → first_of (inside_list seen these).scopes ≡ Some scope → (through seen).own ≡ Some scope

  abbrev Part : Nearest → (Seen → Seen) → Type 0
  Part nearest through = IsBare nearest through ⊎ IsFixed nearest through

  -- what stands behind a part that is fixed changes nothing
  fixed-on : (nearest : Nearest) (through more : Seen → Seen) (before : Nearest) → ((seen : Seen) → Grows c.Told true seen (more seen)) → IsFixed nearest through
      → IsFixed (λ these. nearest (before these)) (λ seen. more (through seen))
  fixed-on nearest through more before grows fixed = record {
    own = fixed.own;
    always = λ these. fixed.always (before these);
    told = λ these e seen within. fixed.told these e seen ((grows (through seen)).told within);
    entries = λ these e seen. let low = fixed.entries these e seen in let next = (grows (through seen)).entries in omega (arith, low, next);
    kept = λ these e seen none scope first. (grows (through seen)).own scope (fixed.kept these e seen none scope first);
  }

  -- an array or a pointer stands between the name and what stands behind
  outer-part : (nearest : Nearest) (through more : Seen → Seen) → ((seen : Seen) → Grows c.Told true seen (more seen)) → Part nearest through → Part (λ these. nearest None) (λ seen. more (through seen))
  outer-part nearest through more grows (inl bare) = inr (record {
    own = None;
    always = λ these. bare.same None;
    told = λ these e. absurd (cc);
    entries = λ these e. absurd (cc);
    kept = λ these e. absurd (cc);
  })
  outer-part nearest through more grows (inr fixed) = inr (fixed-on nearest through more (λ these. None) grows fixed)

  function-part : (nearest : Nearest) (through : Seen → Seen) (own : Parameters) → Part nearest through
      → Part (λ these. nearest (Some own)) (λ seen. list_closed (through seen).own (inside_list (through seen) own))
  function-part nearest through own (inl bare) = inr (record {
    own = Some own;
    always = λ these. bare.same (Some own);
    told = λ these e seen within. subst (λ one. In c (inside_list seen one)) (injected own these e) (subst (λ (one : Seen). In c (inside_list one own)) (bare.nothing seen) within);
    entries = λ these e seen.
        subst (λ one. (inside_list seen one).entries ≤ (inside_list (through seen) own).entries) (injected own these e)
        (let same : (inside_list (through seen) own).entries ≡ (inside_list seen own).entries = ap (λ (one : Seen). (inside_list one own).entries) (bare.nothing seen) in omega (arith, same));
    kept = λ these e seen none scope first.
        ap (λ (one : Seen). either one.own (first_of (inside_list one own).scopes)) (bare.nothing seen)
        ∙ ap (λ found. either found (first_of (inside_list seen own).scopes)) none
        ∙ (ap (λ one. first_of (inside_list seen one).scopes) (injected own these e) ∙ first);
  })
  function-part nearest through own (inr fixed) =
      inr (fixed-on nearest through (λ seen. list_closed seen.own (inside_list seen own)) (λ these. Some own)
      (λ seen. list-grows c.Told (source c) seen (inside_list seen own) (parameters-grow c.Told (source c) (list_opened seen) own)) fixed)

  behind-pointers : (pointers : List ℕ) (nearest : Nearest) (through : Seen → Seen) → Part nearest through → Part (λ these. nearest (own_in_pointers pointers these)) through
  behind-pointers [] nearest through part = part
  behind-pointers (consts ∷ pointers) nearest through part = outer-part nearest through (λ seen. seen) (λ seen. itself c.Told true seen) part

  mutual
    unfolding declarator direct

    shape-part : (shape : Declarator) → Part (λ these. own_parameters these shape) (λ seen. declarator (source c) seen shape)
    shape-part (tree.shaped span pointers it) = behind-pointers pointers (λ these. own_in_direct these it) (λ seen. direct (source c) seen it) (direct-part it)

    direct-part : (it : Direct) → Part (λ these. own_in_direct these it) (λ seen. direct (source c) seen it)
    direct-part tree.absent = inl (record { same = λ these. refl; nothing = λ seen. refl })
    direct-part (tree.declared name) = inl (record { same = λ these. refl; nothing = λ seen. refl })
    direct-part (tree.enclosed shape) = shape-part shape
    direct-part (tree.array it) = outer-part (λ these. own_in_direct these it) (λ seen. direct (source c) seen it) (λ seen. seen) (λ seen. itself c.Told true seen) (direct-part it)
    direct-part (tree.sized it value) =
        outer-part (λ these. own_in_direct these it) (λ seen. direct (source c) seen it) (λ seen. expr (source c) seen value) (λ seen. expr-grows c.Told (source c) seen value) (direct-part it)
    direct-part (tree.function it these) = function-part (λ others. own_in_direct others it) (λ seen. direct (source c) seen it) these (direct-part it)

  -- ---- the declarator of a definition

  -- the scope of its own parameters is kept, and the typing has it too
  abbrev pub KeepsOwn : Seen → Heading → Type 0
  KeepsOwn last heading = (scope : Scope) × (last.own ≡ Some scope) × IsAlike heading.scope scope × IsUnder last.entries scope

  pub under-more : (n m : ℕ) (scope : Scope) → n ≤ m → IsUnder n scope → IsUnder m scope
  under-more n m scope l h tag name number e = let one = h tag name number e in omega (arith, l, one)

  no-first : (scopes : List Scope) (others : List Scope) (scope : Scope) → length scopes ≡ length (scope ∷ others) → first_of scopes ≡ None → ⊥
  no-first [] others scope e h = absurd (cc)
  no-first (first ∷ scopes) others scope e h = absurd (cc)

  module _ (known : Known) (base : CType) (shape : Declarator) (seen : Seen) (none : seen.own ≡ None) (told : In c (declarator (source c) seen shape)) (good : Good c known seen) where
    abbrev last : Seen
    last = declarator (source c) seen shape

    own-in : (these : Parameters) → own_parameters None shape ≡ Some these → Part (λ others. own_parameters others shape) (λ one. declarator (source c) one shape)
        → In c (inside_list seen these) × ((inside_list seen these).entries ≤ last.entries) × ((scope : Scope) → first_of (inside_list seen these).scopes ≡ Some scope → last.own ≡ Some scope)
    own-in these e (inl bare) = let no = sym (bare.same None) ∙ e in absurd (cc)
    own-in these e (inr fixed) =
        let is = sym (fixed.always None) ∙ e in
        (fixed.told these is seen told, fixed.entries these is seen, fixed.kept these is seen none)

    keeps-own : (these : Parameters) → own_parameters None shape ≡ Some these → (inside : Known) (typed : List TypedParameter) (kind : CType) → parameters_of c.setting true (entered known) these ≡ given inside typed
        → KeepsOwn last (record { kind = kind; parameters = without_void typed; scope = innermost inside.scopes })
    keeps-own these e inside typed kind is =
        let own = own-in these e (shape-part shape) in
        let inner = inside_list seen these in
        let fits = subst (Keeps c inner) is (parameters-keep c true (entered known) these (list_opened seen) own.0 (entered-good c known seen good)) in
        by inner (parameters-grow c.Told (source c) (list_opened seen) these) own.1 own.2 (first_of inner.scopes) refl (first-alike inside.scopes inner.scopes fits.0.alike) (first-under inner.entries inner.scopes fits.0.under)
      where
        by : (inner : Seen) → Grows c.Told true (list_opened seen) inner → inner.entries ≤ last.entries → ((scope : Scope) → first_of inner.scopes ≡ Some scope → last.own ≡ Some scope)
            → (first : Option Scope) → first_of inner.scopes ≡ first → IsAlike (innermost inside.scopes) (own_scope (first_of inner.scopes)) → IsUnder inner.entries (own_scope (first_of inner.scopes))
            → KeepsOwn last (record { kind = kind; parameters = without_void typed; scope = innermost inside.scopes })
        by inner grows low own None s alike under = absurd (no-first inner.scopes seen.scopes nothing_declared grows.depth s)
        by inner grows low own (Some scope) s alike under = (
          scope,
          own scope s,
          subst (λ found. IsAlike (innermost inside.scopes) (own_scope found)) s alike,
          under-more inner.entries last.entries scope low (subst (λ found. IsUnder inner.entries (own_scope found)) s under),
        )

    pub heading-yields : IsSome (own_parameters None shape) → Yields c last (KeepsOwn last) (typed_heading c.setting known base shape)
    unfolding SameAs
    heading-yields some = by (own_parameters None shape) refl some
      where
        behind : (these : Parameters) → own_parameters None shape ≡ Some these → (outcome : Outcome (List TypedParameter)) → SameAs outcome (parameters_of c.setting true (entered known) these)
            → Yields c last (KeepsOwn last)
            (after outcome (λ inside typed. with_it (typed_declarator c.setting known base shape) (λ then_known kind. record { kind = kind; parameters = without_void typed; scope = innermost inside.scopes })))
        behind these e (given inside typed) same =
            with-yields c last (Any c) (KeepsOwn last) (typed_declarator c.setting known base shape) _ (typed-declarator-keeps c known base shape seen told good) (λ then_known kind any. keeps-own these e inside typed kind same)
        behind these e (broken rule at) same = tt

        by : (found : Option Parameters) → own_parameters None shape ≡ found → IsSome found
            → Yields c last (KeepsOwn last)
            (after (own_defined c.setting known found) (λ inside typed. with_it (typed_declarator c.setting known base shape)
            (λ then_known kind. record { kind = kind; parameters = without_void typed; scope = innermost inside.scopes })))
        by None e some = absurd (cc)
        by (Some these) e some = behind these e (defined_parameters c.setting true (entered known) these) (list-same c.setting true (entered known) these)
