-- Declarators declare automatic objects by numbers that are new.
use Rattle.std.specs.Prelude.{◌≡◌, refl, ℕ, ◌+◌, ◌≤◌, Bool, true, false, ◌&&◌, if◌then◌else◌, List, [], ◌∷◌, ◌++◌, map as each, length, Option, Some, None, is_some, option_and_then, unwrap_or, slice_get}
use Rattle.std.proofs.Common.{sym, ◌∙◌, subst, true≢false, arith, length-append}
use Rattle.dm_token.specs.declared.place.Span.{Span}
use Rattle.dm_type.specs.CTypes.{CType}
use Rattle.dm_type.specs.TableLaws.{injected}
use Rattle.dm_scope.specs.Scopes.{number_of, is_declared}
use Rattle.dm_syn.specs.Spans.{declarator_span}
use Rattle.dm_syn.specs.Trees.{Declarator, Initialiser, Item}
use Rattle.dm_syn.specs.Trees as tree
use Rattle.dm_tree.specs.declared.unit.Sort.{Sort}
use Rattle.dm_tree.specs.declared.unit.Sort.TheVariants.{Object, Function, Typedef, Enumerator, Tag}
use Rattle.dm_tree.specs.Initialisers.{is_fixed}
use Rattle.dm_tree.specs.Trees.{Tree}
use Rattle.dm_tree.specs.Trees as label
use Rattle.dm_tree.specs.Typing.{has_linkage}
use Rattle.dm_tree.specs.Units.{Declaration}
use Rattle.dm_meaning.specs.Statements.{is_automatic_sort}
use Rattle.dm_meaning.proofs.OptionLemmas.{and_left}
use Rattle.dm_typing.specs.Known.{Known, Setting, meaning_of}
use Rattle.dm_typing.specs.Conversions.{is_complete, is_same}
use Rattle.dm_typing.specs.Specifiers.{of_declaration}
use Rattle.dm_typing.specs.Typing.{steps_of}
use Rattle.dm_edecl.specs.Standing.{Standing, Progress, stops, typing}
use Rattle.dm_edecl.specs.Linkages.{Storage, entry_of, kind_seen, meaning_here, is_linked_if_there, agrees_if_there, is_typedef, is_same_typedef, may_be_declared, number_before, number_shared, number_here, named_here, naming, declared_here, object_here}
use Rattle.dm_edecl.specs.Initialising.{Initial, completed, expressions_alone, typed_initialiser}
use Rattle.dm_edecl.specs.Declaring.{Specified, is_alone, typed_declarator, name_at, defines_object, declarable, Local, local_plain, local_initialised, with_lengths, may_be_initialised, may_define, object_defined, item_plain, item_initialised, item_with, typed_item, typed_items, Declared, declarators_of, constants_of, typed_declaration}
use Rattle.dm_scoped.proofs.ScopeLemmas.{Grown, grown-through, Sees}
use Rattle.dm_scoped.proofs.StepLemmas.{Fits, fits-before, Gives, Any, AllScoped, after-gives, all-pass}
use Rattle.dm_scoped.proofs.ExpressionLemmas.{declarator-scoped, derived-gives}
use Rattle.dm_scoped.proofs.InitialiserLemmas.{IsScopedInitial, initialiser-scoped, alone-scoped}
use Rattle.dm_scoped.proofs.StandingLemmas.{IsStatic, static-later, Holds, Moves, Leads, moves-none, leads-so, leads-from, stops-lead, further-leads, keeps-leads, typing-leads, collecting-leads, linked-static, declared-moves, object-moves}
use Rattle.dm_scoped.proofs.DeclarationLemmas.{entry-linked, specified-gives}
use Rattle.dm_scoped.proofs.StatementLemmas.{anything}
use Rattle.dm_declared.proofs.NumberLemmas.{Rises, wider, joined, one_new, one_other}
use Rattle.dm_declared.proofs.NewLemmas.{length_grown, Claim, IsNewIn, IsWide, Makes, lower_makes, keeps_so}

-- ---- claims

abbrev pub LocalRises : Claim Local
LocalRises automatic low local high = Rises automatic low (local.declarator.declared ∷ []) high

abbrev pub numbers_in : List Local → List ℕ
numbers_in locals = each (λ (one : label.Declarator). one.declared) (declarators_of locals)

abbrev pub LocalsRise : Claim (List Local)
LocalsRise automatic low locals high = Rises automatic low (numbers_in locals) high

abbrev pub DeclaredRises : Claim Declared
DeclaredRises automatic low one high = Rises automatic low (numbers_in one.locals) high

pub local_wide : IsWide LocalRises
local_wide automatic lower low high higher local l h r = wider automatic lower low high higher (local.declarator.declared ∷ []) l h r

-- ---- the number of an entry

typedef_fixed : (sort : Sort) → is_typedef sort ≡ true → is_automatic_sort sort ≡ false
typedef_fixed Typedef e = refl
typedef_fixed (Object fixed) e = absurd (true≢false (sym e))
typedef_fixed Function e = refl
typedef_fixed (Enumerator value) e = refl
typedef_fixed Tag e = refl

module _ (setting : Setting) (s : Standing) (holds : Holds all-pass s) (storage : Storage) (at : ℕ) (kind : CType) where
  abbrev entry : Declaration
  entry = entry_of setting s.known storage at kind

  linked : has_linkage entry.linkage ≡ true → is_automatic_sort entry.sort ≡ false
  linked h = entry-linked setting s.known storage at kind h

  pub moves : Moves all-pass s (declared_here s entry)
  moves = declared-moves all-pass all-pass (λ d h. h) s holds entry linked (λ auto. refl)

  pub stands : has_linkage entry.linkage ≡ true → IsStatic (named_here s entry).declared (number_here s entry)
  stands h = linked-static all-pass all-pass (λ d h. h) s holds entry linked (λ auto. refl) h

  module _ (automatic : ℕ → Bool) (fits : Fits automatic (named_here s entry).declared) where
    static_not : (d : ℕ) → IsStatic (named_here s entry).declared d → automatic d ≡ false
    unfolding Fits
    static_not d is = fits d is.entry is.at ∙ is.fixed

    -- an earlier entry without linkage that is declared again is that of a typedef
    shared_not : (d : ℕ) → (if is_some (meaning_here s.known entry.name) then number_of s.known.scopes entry.name else None) ≡ Some d → is_same_typedef (meaning_here s.known entry.name) entry ≡ true
        → automatic d ≡ false
    unfolding Fits
    shared_not d e same = by-declared (is_declared s.known.scopes entry.name) e same
      where
        fits_old : Fits automatic s.known.declared
        fits_old = fits-before automatic s.known.declared (named_here s entry).declared moves.grown fits

        by-declared : (test : Bool) → (if is_some (if test then meaning_of s.known entry.name else None) then number_of s.known.scopes entry.name else None) ≡ Some d
            → is_same_typedef (if test then meaning_of s.known entry.name else None) entry ≡ true → automatic d ≡ false
        by-declared false e same = absurd (cc)
        by-declared true e same = by-number (number_of s.known.scopes entry.name) e same
          where
            by-number : (found : Option ℕ) → (if is_some (option_and_then (slice_get s.known.declared) found) then found else None) ≡ Some d
                → is_same_typedef (option_and_then (slice_get s.known.declared) found) entry ≡ true → automatic d ≡ false
            by-number None e same = absurd (cc)
            by-number (Some n) e same = by-entry (slice_get s.known.declared n) refl e same
              where
                by-entry : (old : Option Declaration) → slice_get s.known.declared n ≡ old → (if is_some old then Some n else None) ≡ Some d → is_same_typedef old entry ≡ true → automatic d ≡ false
                by-entry None is e same = absurd (cc)
                by-entry (Some old) is e same =
                    subst (λ it. automatic it ≡ false) (injected n d e)
                    (fits_old n old is ∙ typedef_fixed old.sort (and_left (is_typedef old.sort) (is_typedef entry.sort) (and_left (is_typedef old.sort && is_typedef entry.sort) (is_same old.kind entry.kind) same)))

    number_rises : may_be_declared s entry ≡ true → Rises automatic (length s.known.declared) (number_here s entry ∷ []) (length (named_here s entry).declared)
    number_rises may = by-number (number_before s entry) refl
      where
        low : ℕ
        low = length s.known.declared

        old_not : (d : ℕ) → number_before s entry ≡ Some d → automatic d ≡ false
        old_not d e = by-linkage (has_linkage entry.linkage) refl e may
          where
            by-linkage : (test : Bool) → has_linkage entry.linkage ≡ test
                → (if test then number_shared s entry.name else if is_some (meaning_here s.known entry.name) then number_of s.known.scopes entry.name else None) ≡ Some d
                → (if test then is_linked_if_there (meaning_here s.known entry.name) && agrees_if_there s entry (number_shared s entry.name) else is_same_typedef (meaning_here s.known entry.name) entry) ≡ true → automatic d ≡ false
            by-linkage true is f may = subst (λ found. automatic (unwrap_or found low) ≡ false) e (static_not (number_here s entry) (stands is))
            by-linkage false is f may = shared_not d f may

        by-number : (found : Option ℕ) → number_before s entry ≡ found
            → Rises automatic low (unwrap_or found low ∷ []) (length (naming s.known (kind_seen s entry) entry found).declared)
        by-number None e =
            let more : length (s.known.declared ++ entry ∷ []) ≡ low + 1 = length-append s.known.declared (entry ∷ []) in
            one_new automatic low low (length (s.known.declared ++ entry ∷ [])) (omega arith) (omega (arith, more))
        by-number (Some d) e =
            one_other automatic low d _ (old_not d e)
            (subst (λ found. low ≤ length (naming s.known (kind_seen s entry) entry found).declared) e (length_grown s.known.declared (named_here s entry).declared moves.grown))

-- ---- a declarator

module _ (setting : Setting) where
  declarable_makes : (low : ℕ) (said : Specified) (s : Standing) (test : Bool) (here name : ℕ) (entry : Declaration) (rest : Progress Local)
      → (may_be_declared s entry ≡ true → Leads anything (IsNewIn LocalRises low) s rest) → Leads anything (IsNewIn LocalRises low) s (declarable said s test here name entry rest)
  declarable_makes low said s test here name entry rest h =
      keeps_so anything (IsNewIn LocalRises low) s (may_be_declared s entry) 2 name _ (λ may.
      keeps-leads anything (IsNewIn LocalRises low) s _ 3 said.first _
      (keeps-leads anything (IsNewIn LocalRises low) s _ 5 here _ (keeps-leads anything (IsNewIn LocalRises low) s _ 36 name rest (h may))))

  module _ (s : Standing) (holds : Holds all-pass s) (storage : Storage) (at : ℕ) (kind : CType) where
    abbrev here_entry : Declaration
    here_entry = entry_of setting s.known storage at kind

    abbrev low : ℕ
    low = length s.known.declared

    abbrev after_name : Standing
    after_name = declared_here s here_entry

    abbrev moved : Moves all-pass s after_name
    moved = moves setting s holds storage at kind

    plain_new : (defines : Bool) → may_be_declared s here_entry ≡ true → IsNewIn LocalRises low after_name.known.declared (local_plain (number_here s here_entry) defines)
    unfolding IsNewIn
    plain_new defines may automatic fits = number_rises setting s holds storage at kind automatic fits may

    initialised_new : (behind : Standing) (initial : Initial) → Grown after_name.known.declared behind.known.declared → may_be_declared s here_entry ≡ true
        → IsNewIn LocalRises low behind.known.declared (local_initialised (number_here s here_entry) initial)
    unfolding IsNewIn
    initialised_new behind initial grown may automatic fits =
        wider automatic low low (length after_name.known.declared) (length behind.known.declared) (number_here s here_entry ∷ []) (omega arith)
        (length_grown after_name.known.declared behind.known.declared grown)
        (number_rises setting s holds storage at kind automatic (fits-before automatic after_name.known.declared behind.known.declared grown fits) may)

    plain_makes : (said : Specified) (declarator : Declarator) → Makes LocalRises s (item_plain setting said s declarator here_entry)
    plain_makes said declarator =
        declarable_makes low said s false (declarator_span declarator).first (name_at declarator) here_entry _ (λ may.
        leads-so anything (IsNewIn LocalRises low) s after_name (local_plain (number_here s here_entry) (defines_object said.storage here_entry.sort)) moved
        (plain_new (defines_object said.storage here_entry.sort) may))

    defined_makes : (t : Standing) (here name : ℕ) (type : CType) (initial : Initial) → Moves all-pass after_name t → may_be_declared s here_entry ≡ true
        → Leads anything (IsNewIn LocalRises low) t (object_defined t here_entry (number_here s here_entry) here name type initial)
    defined_makes t here name type initial went may =
        let number = number_here s here_entry in
        let last = object-moves all-pass t here_entry number type went.holds
        (λ yes. static-later after_name.known.declared t.known.declared number went.grown (stands setting s holds storage at kind yes)) in
        let behind = object_here t here_entry number type in
        keeps-leads anything (IsNewIn LocalRises low) t (may_define t number type) 2 name _
        (keeps-leads anything (IsNewIn LocalRises low) t (is_complete t.known type) 5 here _
        (leads-so anything (IsNewIn LocalRises low) t behind (local_initialised number initial) last
        (initialised_new behind initial (grown-through after_name.known.declared t.known.declared behind.known.declared went.grown last.grown) may)))

    initialised_makes : (said : Specified) (span : Span) (declarator : Declarator) (one : Initialiser) → Makes LocalRises s (item_initialised setting said s span declarator one here_entry)
    initialised_makes said span declarator one =
        declarable_makes low said s true (declarator_span declarator).first (name_at declarator) here_entry _ (λ may.
        leads-from all-pass anything (IsNewIn LocalRises low) s after_name _ moved (by-test may (may_be_initialised after_name.known here_entry)))
      where
        by-test : may_be_declared s here_entry ≡ true → (test : Bool) → Leads anything (IsNewIn LocalRises low) after_name
            (if test
            then typing after_name (typed_initialiser setting (is_fixed here_entry.sort) after_name.known (completed setting (kind_seen s here_entry) one) one)
            (λ u initial. object_defined u here_entry (number_here s here_entry) (declarator_span declarator).first (name_at declarator) (completed setting (kind_seen s here_entry) one) initial)
            else typing after_name (expressions_alone setting after_name.known one) (λ u trees. stops 9 span.first))
        by-test may true =
            typing-leads all-pass (IsScopedInitial all-pass) anything (IsNewIn LocalRises low) after_name _ _ moved.holds
            (initialiser-scoped setting all-pass (is_fixed here_entry.sort) after_name.known (completed setting (kind_seen s here_entry) one) one moved.holds.sees)
            (λ u initial went h. defined_makes u (declarator_span declarator).first (name_at declarator) (completed setting (kind_seen s here_entry) one) initial went may)
        by-test may false =
            typing-leads all-pass (AllScoped all-pass) anything (IsNewIn LocalRises low) after_name _ _ moved.holds
            (alone-scoped setting all-pass after_name.known one moved.holds.sees) (λ u trees went h. stops-lead anything (IsNewIn LocalRises low) u 9 span.first)

  with_makes : (low : ℕ) (s : Standing) (constants : List Tree) (item : Progress Local) → Leads anything (IsNewIn LocalRises low) s item
      → Leads anything (IsNewIn LocalRises low) s (item_with constants item)
  unfolding IsNewIn
  with_makes low s constants item h =
      further-leads anything (IsNewIn LocalRises low) anything (IsNewIn LocalRises low) s item _ h
      (λ t local went new. leads-so anything (IsNewIn LocalRises low) t t (with_lengths constants local) (moves-none all-pass t went.holds) new)

  pub declarator_gives : (known : Known) (base : CType) (declarator : Declarator) → Sees known.declared all-pass known.scopes → Gives all-pass Any known (typed_declarator setting known base declarator)
  declarator_gives known base declarator sees =
      after-gives all-pass Any Any known (steps_of setting true known declarator) _ (declarator-scoped setting all-pass true known declarator sees)
      (λ behind steps step any. derived-gives all-pass behind base steps step.sees)

  item_makes : (said : Specified) (s : Standing) (item : Item) → Holds all-pass s → Makes LocalRises s (typed_item setting said s item)
  item_makes said s (tree.plain span declarator) holds =
      collecting-leads all-pass Any anything (IsNewIn LocalRises (length s.known.declared)) s _ _ holds (declarator_gives s.known said.kind declarator holds.sees)
      (λ t constants kind went any. with_makes (length s.known.declared) t constants _
      (lower_makes LocalRises local_wide s t _ (length_grown s.known.declared t.known.declared went.grown)
      (plain_makes t went.holds said.storage (name_at declarator) kind said declarator)))
  item_makes said s (tree.initialised span declarator one) holds =
      collecting-leads all-pass Any anything (IsNewIn LocalRises (length s.known.declared)) s _ _ holds (declarator_gives s.known said.kind declarator holds.sees)
      (λ t constants kind went any. with_makes (length s.known.declared) t constants _
      (lower_makes LocalRises local_wide s t _ (length_grown s.known.declared t.known.declared went.grown)
      (initialised_makes t went.holds said.storage (name_at declarator) kind said span declarator one)))

  -- ---- all declarators

  first_then : (low : ℕ) (mid high : List Declaration) (first : Local) (others : List Local) → Grown mid high → IsNewIn LocalRises low mid first → IsNewIn LocalsRise (length mid) high others
      → IsNewIn LocalsRise low high (first ∷ others)
  unfolding IsNewIn
  first_then low mid high first others grown h g automatic fits =
      joined automatic low (length mid) (length high) (first.declarator.declared ∷ []) (numbers_in others) (h automatic (fits-before automatic mid high grown fits)) (g automatic fits)

  none_new : (s : Standing) → IsNewIn LocalsRise (length s.known.declared) s.known.declared []
  unfolding IsNewIn
  none_new s automatic fits = omega arith

  items_make : (said : Specified) (s : Standing) (items : List Item) → Holds all-pass s → Makes LocalsRise s (typed_items setting said s items)
  items_make said s [] holds = leads-so anything (IsNewIn LocalsRise (length s.known.declared)) s s [] (moves-none all-pass s holds) (none_new s)
  items_make said s (item ∷ items) holds =
      let low = length s.known.declared in
      further-leads anything (IsNewIn LocalRises low) anything (IsNewIn LocalsRise low) s (typed_item setting said s item) _ (item_makes said s item holds) (λ t first moved new.
      further-leads anything (IsNewIn LocalsRise (length t.known.declared)) anything (IsNewIn LocalsRise low) t (typed_items setting said t items) _ (items_make said t items moved.holds) (λ u others went rest.
      leads-so anything (IsNewIn LocalsRise low) u u (first ∷ others) (moves-none all-pass u went.holds) (first_then low t.known.declared u.known.declared first others went.grown new rest)))

  declared_new : (lower low : ℕ) (declared : List Declaration) (constants : List Tree) (locals : List Local) → lower ≤ low → IsNewIn LocalsRise low declared locals
      → IsNewIn DeclaredRises lower declared (record { constants = constants; locals = locals })
  unfolding IsNewIn
  declared_new lower low declared constants locals l h automatic fits = wider automatic lower low (length declared) (length declared) (numbers_in locals) l (omega arith) (h automatic fits)

  pub declaration_makes : (s : Standing) (declaration : tree.Declaration) → Holds all-pass s → Makes DeclaredRises s (typed_declaration setting s declaration)
  declaration_makes s (tree.declaring span specifiers items) holds =
      let low = length s.known.declared in
      collecting-leads all-pass Any anything (IsNewIn DeclaredRises low) s _ _ holds (specified-gives setting all-pass of_declaration (is_alone specifiers items) s.known specifiers holds.sees) (λ t constants said moved any.
      further-leads anything (IsNewIn LocalsRise (length t.known.declared)) anything (IsNewIn DeclaredRises low) t (typed_items setting said t items) _ (items_make said t items moved.holds) (λ u locals went new.
      keeps-leads anything (IsNewIn DeclaredRises low) u _ 3 said.first _
      (leads-so anything (IsNewIn DeclaredRises low) u u (record { constants = constants ++ constants_of locals; locals = locals }) (moves-none all-pass u went.holds)
      (declared_new low (length t.known.declared) u.known.declared (constants ++ constants_of locals) locals (length_grown s.known.declared t.known.declared moved.grown) new))))
