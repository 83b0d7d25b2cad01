-- Aligned units, where the arguments of each run come early.
--     judged_by old body      scalar automatic objects whose address is taken nowhere are closed, and parameters that aren't read once are read late
--     late_arguments      the premises of the law on late arguments, for the runs, or for none where alignment comes to none
use Rattle.std.specs.Prelude.{◌≡◌, refl, ◌⊎◌, ℕ, zero, suc, ◌+◌, Bool, true, false, ◌&&◌, not, ◌==◌, All, List, [], ◌∷◌, ◌++◌, flat_map, length, take, drop, Option, Some, None, option_map, slice_get}
use Rattle.std.specs.List.{list_any, list_all, AllByRecursion}
use Rattle.std.specs.Option.{IsSomeAnd}
use Rattle.std.proofs.Common.{ap, sym, ◌∙◌, subst, arith, inl, inr, ⊎_elim}
use Rattle.std.proofs.lemmas.Bool.{true≢false, false≢true}
use Rattle.std.proofs.lemmas.List.Elements.{All-head, All-tail}
use Rattle.std.proofs.lemmas.List.Folds.{list_any-append}
use Rattle.dm_token.specs.declared.place.Span.{Span}
use Rattle.dm_runs.specs.declared.run.Run.{Run}
use Rattle.dm_type.specs.CTypes.{CType}
use Rattle.dm_type.specs.Tables.{Table}
use Rattle.dm_tree.specs.declared.unit.Sort.{Sort}
use Rattle.dm_tree.specs.declared.unit.Sort.TheVariants.{Object}
use Rattle.dm_tree.specs.Paths.{all_in}
use Rattle.dm_tree.specs.Scenes.{Scene, is_scalar}
use Rattle.dm_tree.specs.Trees.{Label, block, Spans, Tree, Trees, node, no_trees, more_trees, label_of, spans_of, parts_of}
use Rattle.dm_tree.specs.Typing.{FormFits, ExternalFits, IsWellTyped, IsWellTypedUnit, file_scene, body_scene}
use Rattle.dm_tree.specs.Units.{Declaration, External, ExternalForm, declares, defines_function, TypedUnit}
use Rattle.dm_meaning.specs.Among.{IsAmong}
use Rattle.dm_meaning.specs.CalledWithAll.{times_named}
use Rattle.dm_meaning.specs.Programs.{Definition, declaration_at}
use Rattle.dm_meaning.specs.Replaced.{Zipped, facts_of}
use Rattle.dm_meaning.specs.Running.{Open, others_open, open_of}
use Rattle.dm_meaning.specs.Statements.{is_automatic_sort, is_automatic_declaration}
use Rattle.dm_meaning.specs.Units.{definitions_by, definitions_in, program_of}
use Rattle.dm_meaning.proofs.AmongLemmas.{among_either}
use Rattle.dm_meaning.proofs.GrowLemmas.{equal_is}
use Rattle.dm_meaning.proofs.OptionLemmas.{none_is_some, some_is_some, and_left, and_right}
use Rattle.dm_effect.specs.Entities.{trees_in_form, nodes_of_external, addresses_here, is_addressed}
use Rattle.dm_effect.specs.Quiet.{is_one_of, quiet_functions}
use Rattle.dm_effect.specs.Safe.{is_safe}
use Rattle.dm_effect.specs.Scoped.{is_automatic, is_scoped_external, IsScopedUnit}
use Rattle.dm_effect.specs.Stable as stable
use Rattle.dm_effect.specs.Stable.{is_pure, is_scalar_local}
use Rattle.dm_rewrite.specs.ClosedStates.{ListNamesOnly}
use Rattle.dm_sites.specs.Sites.{Site, site_of}
use Rattle.dm_agree.specs.Agreement.{Added, added_function, Rewriting, AtRun, Passes}
use Rattle.dm_align.specs.Units as aligned
use Rattle.dm_align.specs.Units.{Insertion, IsPut, are_different, FormAdds, moved, other_externals, without, rewriting_of, AreAligned}
use Rattle.dm_central.specs.Arguments.{ReadsSomewhere, ReadsFirst}
use Rattle.dm_plain.specs.Plain.{HasPlainTypes}
use Rattle.dm_refine.proofs.CallUnitLemmas.{automatic_is, automatic_fact}
use Rattle.dm_refine.proofs.NumberLemmas.{entry_told, moved_injective, moved_apart}
use Rattle.dm_late.specs.Settled.{erased, spot}
use Rattle.dm_late.specs.Late.{Judged, IsRead, AreReadFirst, before_others, EvaluatesAlike, AllAlike, FormAlike, EvaluateAlike, AreClosed}
use Rattle.dm_told.specs.Told.{ArePlacesTold}
use Rattle.dm_standing.specs.Calls.{HasArguments, MayCall}
use Rattle.dm_standing.proofs.ArityLemmas.{IsDefinedAs}
use Rattle.dm_standing.proofs.RunLemmas.{all_weaker}
use Rattle.dm_standing.proofs.TypedLemmas.{typed_body, all_without, all_there}
use Rattle.dm_standing.proofs.UnitLemmas.{defined_by}
use Rattle.dm_steady.proofs.PutLemmas.{HasTyped, form_puts, number_has}
use Rattle.dm_steady.proofs.VisitLemmas as visit
use Rattle.dm_steady.proofs.VisitLemmas.{unit_met}
use Rattle.dm_steady.proofs.AddedLemmas.{body_block, added_items, automatic_parameters}
use Rattle.dm_steady.proofs.AddressLemmas.{NotAddressed, NoneAddressed, unaddressed_tree, expression_unaddressed, statement_unaddressed}
use Rattle.dm_steady.specs.Steady.{IsSafeInPlace}
use Rattle.dm_steady.proofs.AlikeLemmas.{stood, besides, expression_alike}
use Rattle.dm_steady.proofs.ClosedLemmas.{IsScalarEntry, items_named}
use Rattle.dm_steady.proofs.MetLemmas.{Keeps, IsMet, read_somewhere}
use Rattle.dm_steady.proofs.DecideLemmas.{reads_first, first_read, read_test}
use Rattle.dm_steady.proofs.PartLemmas.{IsTyped}
use Rattle.dm_steady.proofs.QuietLemmas.{quiet_before}
use Rattle.dm_steady.proofs.StableLemmas.{closed_in, neither, not_false}
use Rattle.dm_steady.proofs.WalkLemmas.{AllPart, BodyPart, AllBodies, bodies_walked}

-- by which parameters are read late, which first, and which arguments are safe
abbrev pub judged_with : TypedUnit → (ℕ → Bool) → (ℕ → Bool) → (Tree → Bool) → Judged
judged_with old late first safe = record { closed = closed_in old; quiet = is_one_of (quiet_functions old.externals); late = late; first = first; safe = safe }

-- ---- lists

-- what holds of a list without one element, and of that
all_with : (P : External → Type 0) (n : ℕ) (items : List External) → AllByRecursion P (without n 1 items) → ((one : External) → slice_get items n ≡ Some one → P one) → AllByRecursion P items
all_with P n [] h one = tt
all_with P zero (first ∷ items) h one = (one first refl, h)
all_with P (suc n) (first ∷ items) h one =
    let number : suc n + 1 ≡ suc (n + 1) = omega arith in
    let others = subst (λ (m : ℕ). AllByRecursion P (first ∷ (take n items ++ drop m (first ∷ items)))) number h in
    (others.0, all_with P n items others.1 one)

any_flat : {A B : Type 0} (test : B → Bool) (g : A → List B) (items : List A) → list_any test (flat_map g items) ≡ false → AllByRecursion (λ (x : A). list_any test (g x) ≡ false) items
any_flat test g [] e = tt
any_flat test g (x ∷ items) e =
    let both = neither (list_any test (g x)) (list_any test (flat_map g items)) (sym (list_any-append test (g x) (flat_map g items)) ∙ e) in (both.0, any_flat test g items both.1)

last_of : (P : Tree → Type 0) (front : List Tree) (last : Tree) → AllByRecursion P (front ++ last ∷ []) → P last
last_of P [] last h = h.0
last_of P (first ∷ front) last h = last_of P front last h.1

passing_there : (test : External → Bool) (items : List External) → list_all test items ≡ true → (n : ℕ) (one : External) → slice_get items n ≡ Some one → test one ≡ true
passing_there test [] h n one e = absurd (none_is_some one e)
passing_there test (first ∷ items) h zero one e = sym (ap test (some_is_some first one e)) ∙ and_left (test first) (list_all test items) h
passing_there test (first ∷ items) h (suc n) one e = passing_there test items (and_right (test first) (list_all test items) h) n one e

-- ---- closed objects

automatic_object : (sort : Sort) → stable.is_automatic_sort sort ≡ true → is_automatic_sort sort ≡ true
automatic_object (Object false) e = refl
automatic_object (Object true) e = absurd (false≢true e)
automatic_object sort e = absurd (false≢true e)

automatic_local : (found : Option Declaration) → is_scalar_local found ≡ true → is_automatic_declaration found ≡ true
automatic_local None e = absurd (false≢true e)
automatic_local (Some entry) e = automatic_object entry.sort (and_left (stable.is_automatic_sort entry.sort) (is_scalar entry.kind) e)

record IsScalar (found : Option Declaration) : Type 0 where
  entry : Declaration
  is : found ≡ Some entry
  scalar : is_scalar entry.kind ≡ true

scalar_there : (found old : Option Declaration) → option_map facts_of found ≡ option_map facts_of old → is_scalar_local old ≡ true → IsScalar found
scalar_there found None same e = absurd (false≢true e)
scalar_there None (Some entry) same e = absurd (none_is_some (facts_of entry) same)
scalar_there (Some one) (Some entry) same e =
    let kinds : one.kind ≡ entry.kind = ap (λ (facts : List ℕ × Sort × CType). facts.2) (some_is_some (facts_of one) (facts_of entry) same) in
    record { entry = one; is = refl; scalar = ap is_scalar kinds ∙ and_right (stable.is_automatic_sort entry.sort) (is_scalar entry.kind) e }

-- definitions of external declarations
definitions_so : (P : Definition → Type 0) (externals : List External) → AllByRecursion (λ (external : External). (definition : Definition) → IsAmong definition (definitions_by external.form) → P definition) externals
    → (definition : Definition) → IsAmong definition (definitions_in externals) → P definition
definitions_so P [] h definition l = absurd l
definitions_so P (external ∷ externals) h definition l = by_side (among_either definition (definitions_by external.form) (definitions_in externals) l) (definitions_so P externals h.1 definition)
  where
    by_side : IsAmong definition (definitions_by external.form) ⊎ IsAmong definition (definitions_in externals) → (IsAmong definition (definitions_in externals) → P definition) → P definition
    by_side (inl k) rest = h.0 definition k
    by_side (inr k) rest = rest k

-- ---- what the law on late arguments asks

-- of the runs, or of none, where alignment comes to none
pub record HasLateArguments (old_types new_types : Table) (old new : TypedUnit) (put : Insertion) (parameters : List ℕ) (body : Tree) (judged : Judged) : Type 0 where
  pub runs : List Run
  pub aligned : AreAligned old_types new_types old new runs (Some put)
  pub keep : AllByRecursion (λ (run : Run). MayCall old_types old run × HasArguments (rewriting_of old_types old runs (Some put)) old (length parameters) run) runs
  pub read : AreReadFirst judged runs parameters body
  pub alike : EvaluateAlike judged (rewriting_of old_types old runs (Some put)) parameters (other_externals (Some put) new.externals) old.externals
  pub closed : AreClosed judged old (moved (Some put)) (program_of new_types new)

-- ---- units

module _ (old_types new_types : Table) (old new : TypedUnit) (put : Insertion) (f : ℕ) (parameters : List ℕ) (body : Tree) (old_typed : IsWellTypedUnit old_types old) (typed : IsWellTypedUnit new_types new)
    (scoped : IsScopedUnit new) (told : ArePlacesTold old) (adds : put.added ≡ added_function f parameters body) (lengths : HasPlainTypes new body) where
  -- what is put in
  record IsAdded : Type 0 where
    defined : IsDefinedAs new.declared f parameters
    own : AllByRecursion (IsPut put) parameters
    different : are_different parameters ≡ true
    local : (p : ℕ) → IsAmong p parameters → is_automatic new.declared p ≡ true
    body_typed : IsTyped body

  with_types : HasTyped body → IsTyped body
  with_types h = (h.scene, h.typed)

  by_external : (found : Option External) → slice_get new.externals put.external ≡ found → IsSomeAnd found (λ external. FormAdds new_types new put put.added external.form) → IsAdded
  by_external None e h = absurd h
  by_external (Some external) e h =
      let fits = (all_there (ExternalFits (file_scene new_types new.declared)) new.externals typed.externals put.external external e).2 in
      let it = subst (λ (added : Added). FormAdds new_types new put added external.form) adds h in
      let function = form_puts new_types new put f parameters body external.form fits it in
      record {
        defined = (defined_by new_types new put f parameters body external.form fits it).1;
        own = function.own;
        different = function.different;
        local = automatic_parameters new_types new put f parameters body external.form fits it;
        body_typed = with_types function.typed;
      }

  -- what is known of each run to which alignment comes
  abbrev AtMet : (ℕ → Type 0) → Type 0
  AtMet Reads =
      (runs : List Run) (keep : AllByRecursion (Keeps old_types old (rewriting_of old_types old runs (Some put)) (length parameters)) runs) → (run : Run) (inner : List Run) (other : Tree) (site : Site)
      → IsMet old_types old (rewriting_of old_types old runs (Some put)) parameters body keep run inner other site → are_different parameters ≡ true
      → ((n p : ℕ) → slice_get parameters n ≡ Some p → (d : ℕ) → moved (Some put) d ≡ p → ⊥) → IsTyped body
      → ((p : ℕ) → IsAmong p parameters → is_automatic new.declared p ≡ true) → (p : ℕ) → IsAmong p parameters → Reads p

  module _ (late first : ℕ → Bool) (safe : Tree → Bool) (once_first : (p : ℕ) → late p ≡ true → times_named p body ≡ 1 → ReadsFirst p body → ⊥) (unless : (p : ℕ) → first p ≡ false → ReadsFirst p body → ⊥)
      (safely : (p : ℕ) → first p ≡ false → (span : Span) (argument : Site) → site_of old span ≡ Some argument → is_pure argument.tree ≡ true → is_safe old_types old argument.tree ≡ true → safe (erased (stood argument) argument.tree) ≡ true)
      (Reads : ℕ → Type 0) (is_read : (p : ℕ) → Reads p → IsRead (judged_with old late first safe) p body) (at_met : AtMet Reads) where
    module _ (runs : List Run) (h : AreAligned old_types new_types old new runs (Some put)) (keep : AllByRecursion (Keeps old_types old (rewriting_of old_types old runs (Some put)) (length parameters)) runs) where
      abbrev it : Rewriting
      it = rewriting_of old_types old runs (Some put)

      abbrev externals : List External
      externals = other_externals (Some put) new.externals

      added : IsAdded
      added = by_external (slice_get new.externals put.external) refl h.added

      own : (n p : ℕ) → slice_get parameters n ≡ Some p → (d : ℕ) → moved (Some put) d ≡ p → ⊥
      own n p there d e = moved_apart put d (subst (IsPut put) (sym e) (number_has (IsPut put) parameters added.own n p there))

      others_fit : All (ExternalFits (file_scene new_types new.declared)) externals
      others_fit = all_without (ExternalFits (file_scene new_types new.declared)) put.external new.externals typed.externals

      -- ---- read first

      abbrev KeepsIt : Run → Type 0
      KeepsIt run = Keeps old_types old it (length parameters) run

      at_run : (run : Run) (inner : List Run) (label : Label) (kind : CType) (parts : Trees) (other : Tree)
          → visit.IsMet old it KeepsIt ((p : ℕ) → IsAmong p parameters → Reads p) keep run inner label kind parts other → (p : ℕ) → IsAmong p parameters → Reads p
      at_run run inner label kind parts other met =
          let at = subst (λ (added_it : Added). AtRun it added_it run inner label kind parts other (Passes it parts run inner other)) adds met.at in
          let is : IsMet old_types old it parameters body keep run inner other met.site =
          record { same = met.same; expression = met.expression; told = met.told; own = met.own; keeps = met.keeps; inner_stand = met.inner_stand; body_same = at.0.3 } in
          at_met runs keep run inner other met.site is added.different own added.body_typed added.local

      all_read : ((p : ℕ) → IsAmong p parameters → Reads p) ⊎ AreAligned old_types new_types old new [] (Some put)
      all_read =
          ⊎_elim (λ reads. inl reads) (λ rest. inr (record { structs = h.structs; added = h.added; declared = h.declared; externals = rest; placed = tt }))
          (unit_met old it KeepsIt ((p : ℕ) → IsAmong p parameters → Reads p) keep at_run old_types externals old_typed told h.externals)

      -- ---- evaluated alike

      abbrev judged : Judged
      judged = judged_with old late first safe

      abbrev Alike : List Run → Tree → Tree → Type 0
      Alike standing tree other = EvaluatesAlike judged it parameters (spot (spans_of other)) [] standing tree other

      parts_alike : (opens : Open) (at : Spans) (before : List Tree) (label : Label) (spans : Spans) (trees others : Trees) → AllPart old it KeepsIt keep new.declared Alike label spans trees others
          → AllAlike judged it parameters true opens at before [] label spans trees others
      parts_alike opens at before label spans no_trees others k = tt
      parts_alike opens at before label spans (more_trees first rest) no_trees k = tt
      parts_alike opens at before label spans (more_trees first rest) (more_trees other others) k = (k.0, parts_alike (others_open opens) at (before_others opens before other) label spans rest others k.1)

      bodies_alike : AllBodies old it KeepsIt keep new.declared Alike externals old.externals
      bodies_alike =
          bodies_walked old it KeepsIt keep new.declared Alike
          (λ standing tree other site scene same expression here stand leads whole_is full_typed e tree_typed agree.
          subst (λ (t : Tree). EvaluatesAlike judged it parameters (spot (spans_of t)) [] standing tree other) whole_is
          (expression_alike old_types old it f parameters body adds judged (λ d is. is) (λ g tree is. quiet_before old g tree is) once_first unless safely added.different own added.body_typed keep [] standing
          tree other site same expression here stand leads full_typed (besides tt) agree))
          (λ label other kind other_kind spans other_spans parts others is e k.
          subst (λ (b : Bool). AllAlike judged it parameters b (open_of other) (spot other_spans) [] [] other other_spans parts others) (sym is) (parts_alike (open_of other) (spot other_spans) [] other other_spans parts others k))
          new_types old_types externals others_fit old_typed told h.externals

      form_alike : (form other : ExternalForm) → BodyPart old it KeepsIt keep new.declared Alike form other → FormAlike judged it parameters form other
      form_alike (declares declarators trees) other k = tt
      form_alike (defines_function g own_ones tree) (declares others other_trees) k = tt
      form_alike (defines_function g own_ones tree) (defines_function e others other) k = k

      forms_alike : (ones others : List External) → AllBodies old it KeepsIt keep new.declared Alike ones others → EvaluateAlike judged it parameters ones others
      forms_alike [] others k = tt
      forms_alike (one ∷ ones) [] k = tt
      forms_alike (one ∷ ones) (other ∷ others) k = (form_alike one.form other.form k.0, forms_alike ones others k.1)

      evaluate_alike : EvaluateAlike judged it parameters externals old.externals
      evaluate_alike = forms_alike externals old.externals bodies_alike

      -- ---- closed objects

      abbrev Unaddressed : List Run → Tree → Tree → Type 0
      Unaddressed standing tree other = (d : ℕ) → NotAddressed d other → NotAddressed (moved (Some put) d) tree

      none_addressed : (d : ℕ) (label : Label) (spans : Spans) (trees others : Trees) → AllPart old it KeepsIt keep new.declared Unaddressed label spans trees others → NoneAddressed d others
          → NoneAddressed (moved (Some put) d) trees
      none_addressed d label spans no_trees others k none = tt
      none_addressed d label spans (more_trees first rest) no_trees k none = absurd k
      none_addressed d label spans (more_trees first rest) (more_trees other others) k none = (k.0 d none.0, none_addressed d label spans rest others k.1 none.1)

      bodies_unaddressed : AllBodies old it KeepsIt keep new.declared Unaddressed externals old.externals
      bodies_unaddressed =
          bodies_walked old it KeepsIt keep new.declared Unaddressed
          (λ standing tree other site scene same expression here stand leads whole_is full_typed e tree_typed agree.
          expression_unaddressed old_types old it new.declared f parameters body adds added.defined (moved_injective (Some put)) keep standing tree other site scene e same expression here stand tree_typed agree)
          (λ label other kind other_kind spans other_spans parts others is e k d none. (
            subst (λ (l : Label). addresses_here (moved (Some put) d) (node l kind spans parts) ≡ false) (sym e) (statement_unaddressed (moved (Some put)) (moved (Some put) d) other kind spans parts is),
            none_addressed d other other_spans parts others k none.1,
          ))
          new_types old_types externals others_fit old_typed told h.externals

      same_facts : (d : ℕ) → option_map facts_of (declaration_at new.declared (moved (Some put) d)) ≡ option_map facts_of (declaration_at old.declared d)
      same_facts d = entry_told (Some put) new.declared old.declared h.declared d

      same_automatic : (d : ℕ) → is_automatic new.declared (moved (Some put) d) ≡ is_automatic old.declared d
      same_automatic d =
          automatic_is (slice_get new.declared (moved (Some put) d)) ∙ (ap automatic_fact (same_facts d) ∙ sym (automatic_is (slice_get old.declared d)))

      module _ (d : ℕ) (closed : closed_in old d ≡ true) where
        abbrev now : ℕ
        now = moved (Some put) d

        local : is_scalar_local (slice_get old.declared d) ≡ true
        local = and_left (is_scalar_local (slice_get old.declared d)) (not (is_addressed old d)) closed

        old_automatic : is_automatic old.declared d ≡ true
        old_automatic = automatic_local (slice_get old.declared d) local

        entry : IsScalarEntry new.declared now
        entry = let it_is = scalar_there (slice_get new.declared now) (slice_get old.declared d) (same_facts d) local in record { entry = it_is.entry; found = it_is.is; scalar = it_is.scalar }

        no_address : AllByRecursion (λ (external : External). list_any (addresses_here d) (nodes_of_external external) ≡ false) old.externals
        no_address = any_flat (addresses_here d) nodes_of_external old.externals (not_false (is_addressed old d) (and_right (is_scalar_local (slice_get old.declared d)) (not (is_addressed old d)) closed))

        abbrev Only : Definition → Type 0
        Only definition = ListNamesOnly now (parts_of definition.body)

        abbrev AreOnly : External → Type 0
        AreOnly external = (definition : Definition) → IsAmong definition (definitions_by external.form) → Only definition

        body_only : (scene : Scene) (whole : Tree) → label_of whole ≡ block → scene.declared ≡ new.declared → IsWellTyped scene whole → NotAddressed now whole → ListNamesOnly now (parts_of whole)
        body_only scene (node label kind spans items) is e fits none = items_named new.declared now entry scene label kind spans items is e fits none

        form_only : (form other : ExternalForm) → FormFits (file_scene new_types new.declared) form → aligned.FormsAgree it form other → BodyPart old it KeepsIt keep new.declared Unaddressed form other
            → ((body_of : Tree) → trees_in_form other ≡ body_of ∷ [] → NotAddressed d body_of) → (definition : Definition) → IsAmong definition (definitions_by form) → Only definition
        form_only (declares declarators trees) other fits agree part none definition l = absurd l
        form_only (defines_function g own_ones tree) (declares others other_trees) fits agree part none definition l = absurd agree
        form_only (defines_function g own_ones tree) (defines_function e others other) fits agree part none definition (inl same) =
            let fits_it = typed_body new_types new.declared g own_ones tree fits in
            subst Only (sym same)
            (body_only (body_scene (file_scene new_types new.declared) fits_it.result) tree (body_block new_types new.declared g own_ones tree fits) refl fits_it.typed (part d (none other refl)))
        form_only (defines_function g own_ones tree) (defines_function e others other) fits agree part none definition (inr l) = absurd l

        body_unaddressed : (other : External) → list_any (addresses_here d) (nodes_of_external other) ≡ false → (body_of : Tree) → trees_in_form other.form ≡ body_of ∷ [] → NotAddressed d body_of
        body_unaddressed other none body_of is =
            let each = any_flat (addresses_here d) all_in (other.constants ++ body_of ∷ [])
            (subst (λ (trees : List Tree). list_any (addresses_here d) (flat_map all_in (other.constants ++ trees)) ≡ false) is none) in
            unaddressed_tree d body_of (last_of (λ (tree : Tree). list_any (addresses_here d) (all_in tree) ≡ false) other.constants body_of each)

        others_only : (ones others : List External) → All (ExternalFits (file_scene new_types new.declared)) ones → Zipped (aligned.ExternalsAgree it) ones others
            → AllBodies old it KeepsIt keep new.declared Unaddressed ones others → AllByRecursion (λ (external : External). list_any (addresses_here d) (nodes_of_external external) ≡ false) others
            → AllByRecursion AreOnly ones
        others_only [] others fit agree bodies none = tt
        others_only (one ∷ ones) [] fit agree bodies none = absurd agree
        others_only (one ∷ ones) (other ∷ others) fit agree bodies none = (
          form_only one.form other.form (All-head (ExternalFits (file_scene new_types new.declared)) one ones fit).2 agree.0.1 bodies.0 (body_unaddressed other none.0),
          others_only ones others (All-tail (ExternalFits (file_scene new_types new.declared)) one ones fit) agree.1 bodies.1 none.1,
        )

        added_only : (one : External) → slice_get new.externals put.external ≡ Some one → AreOnly one
        added_only one found =
            let adds_it = subst (λ (option : Option External). IsSomeAnd option (λ external. FormAdds new_types new put put.added external.form)) found h.added in
            added_items new_types new put f parameters body lengths now (same_automatic d ∙ old_automatic) (moved_apart put d) one.form
            (all_there (ExternalFits (file_scene new_types new.declared)) new.externals typed.externals put.external one found).2
            (subst (λ (added_it : Added). FormAdds new_types new put added_it one.form) adds adds_it)
            (passing_there (is_scoped_external new.declared) new.externals scoped put.external one found)

        all_only : (definition : Definition) → IsAmong definition (definitions_in new.externals) → Only definition
        all_only = definitions_so Only new.externals (all_with AreOnly put.external new.externals (others_only externals old.externals others_fit h.externals bodies_unaddressed no_address) added_only)

      are_closed : AreClosed judged old (moved (Some put)) (program_of new_types new)
      are_closed d closed = (old_automatic d closed, all_only d closed)

    pub late_arguments : (runs : List Run) → AreAligned old_types new_types old new runs (Some put)
        → AllByRecursion (Keeps old_types old (rewriting_of old_types old runs (Some put)) (length parameters)) runs
        → HasLateArguments old_types new_types old new put parameters body (judged_with old late first safe)
    late_arguments runs h keep =
        ⊎_elim
        (λ reads.
        record {
          runs = runs;
          aligned = h;
          keep = all_weaker (Keeps old_types old (rewriting_of old_types old runs (Some put)) (length parameters))
              (λ (run : Run). MayCall old_types old run × HasArguments (rewriting_of old_types old runs (Some put)) old (length parameters) run) (λ run k. (k.0, k.1)) runs keep;
          read = λ run among p parameter. is_read p (reads p parameter);
          alike = evaluate_alike runs h keep;
          closed = are_closed runs h keep;
        })
        (λ without_runs.
        record {
          runs = [];
          aligned = without_runs;
          keep = tt;
          read = λ run among p parameter. absurd among;
          alike = evaluate_alike [] without_runs tt;
          closed = are_closed [] without_runs tt;
        })
        (all_read runs h keep)

  -- ---- the rule in whole

  module _ (safe : Tree → Bool) (in_place : IsSafeInPlace old_types old safe) where
    abbrev pub once_and_first : ℕ → Bool
    once_and_first p = (times_named p body == 1) && reads_first p body

    abbrev pub judged_whole : Judged
    judged_whole = judged_with old (λ p. not (once_and_first p)) (λ p. reads_first p body) safe

    first_known : (p : ℕ) → not (once_and_first p) ≡ true → times_named p body ≡ 1 → ReadsFirst p body → ⊥
    first_known p is once read = not_both (times_named p body == 1) (reads_first p body) is (equal_is (times_named p body) 1 once) (read_test p body read)
      where
        not_both : (a b : Bool) → not (a && b) ≡ true → a ≡ true → b ≡ true → ⊥
        not_both true true e f g = false≢true e
        not_both true false e f g = false≢true g
        not_both false b e f g = false≢true f

    unless_first : (p : ℕ) → reads_first p body ≡ false → ReadsFirst p body → ⊥
    unless_first p e read = true≢false (sym (read_test p body read) ∙ e)

    once_there : (p : ℕ) → not (once_and_first p) ≡ false → times_named p body ≡ 1
    once_there p e = equal_nat (times_named p body) 1 (and_left (times_named p body == 1) (reads_first p body) (was_true (once_and_first p) e))
      where
        was_true : (b : Bool) → not b ≡ false → b ≡ true
        was_true true f = refl
        was_true false f = absurd (true≢false f)

        equal_nat : (a b : ℕ) → (a == b) ≡ true → a ≡ b
        equal_nat a b f = grind (arith, f)

    late_there : (p : ℕ) → reads_first p body ≡ false → not (once_and_first p) ≡ true
    late_there p e = none (times_named p body == 1) (reads_first p body) e
      where
        none : (a b : Bool) → b ≡ false → not (a && b) ≡ true
        none true b f = ap not f
        none false b f = refl

    pub whole_arguments : (runs : List Run) → AreAligned old_types new_types old new runs (Some put)
        → AllByRecursion (Keeps old_types old (rewriting_of old_types old runs (Some put)) (length parameters)) runs → HasLateArguments old_types new_types old new put parameters body judged_whole
    whole_arguments runs h keep =
        late_arguments (λ p. not (once_and_first p)) (λ p. reads_first p body) safe first_known unless_first (λ p e span argument found pure_is is. in_place span argument found pure_is is)
        (λ p. ReadsSomewhere p body) (λ p reads. (once_there p, (λ e. first_read p body e), (λ e. (late_there p e, reads))))
        (λ runs keep run inner other site met different own typed local.
        read_somewhere old_types old (rewriting_of old_types old runs (Some put)) parameters body keep run inner other site met different own typed (is_automatic new.declared) lengths local)
        runs h keep
