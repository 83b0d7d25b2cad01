-- The names in declarations are in scope.
use Rattle.std.specs.Prelude.{◌≡◌, ℕ, Bool, true, false, if◌then◌else◌, List, [], ◌∷◌, ◌++◌, length, Option, Some, None, refl}
use Rattle.std.proofs.Common.{sym, ◌∙◌, subst, arith}
use Rattle.dm_token.specs.declared.place.Span.{Span}
use Rattle.dm_type.specs.CTypes.{CType}
use Rattle.dm_scope.specs.Scopes.{Scopes}
use Rattle.dm_syn.specs.Sources.{spelling_at}
use Rattle.dm_syn.specs.Spans.{declarator_span}
use Rattle.dm_syn.specs.Trees.{Specifiers, Declarator, Initialiser, Item}
use Rattle.dm_syn.specs.Trees as tree
use Rattle.dm_tree.specs.declared.unit.Linkage.{Linkage}
use Rattle.dm_tree.specs.declared.unit.Linkage.TheVariants.{External}
use Rattle.dm_tree.specs.Initialisers.{is_fixed, expressions_of as count_expressions}
use Rattle.dm_tree.specs.Scenes.{is_function}
use Rattle.dm_tree.specs.Trees.{Tree}
use Rattle.dm_tree.specs.Typing.{has_linkage}
use Rattle.dm_tree.specs.Units.{Declaration}
use Rattle.dm_meaning.specs.Statements.{is_automatic_sort}
use Rattle.dm_typing.specs.Known.{Known, Setting, meaning_of}
use Rattle.dm_typing.specs.Conversions.{is_complete}
use Rattle.dm_typing.specs.Specifiers.{Where, of_declaration, nothing_said}
use Rattle.dm_typing.specs.Typing.{is_file_scope, words_said, typed_said, steps_of}
use Rattle.dm_edecl.specs.Standing.{Standing, Progress, stops, typing}
use Rattle.dm_edecl.specs.Linkages.{Storage, unsaid, typedef, extern, static, linkage_before, linkage_of, sort_of, entry_of, kind_seen, number_here, declared_here, object_here}
use Rattle.dm_edecl.specs.Initialising.{Initial, completed, expressions_alone, typed_initialiser}
use Rattle.dm_edecl.specs.Declaring.{Specified, specified, is_alone, typed_declarator, name_at, defines_object, declarable, Local, local_plain, local_initialised, with_lengths, may_be_initialised, may_define, object_defined, item_plain, item_initialised, item_with, typed_item, typed_items, Declared, constants_of, typed_declaration}
use Rattle.dm_scoped.proofs.OverLemmas.{Every}
use Rattle.dm_scoped.proofs.ScopeLemmas.{Grown, Has, has-later, IsWider, Sees}
use Rattle.dm_scoped.proofs.StepLemmas.{IsScopedIn, every-later, Gives, Any, AllScoped, after-gives, with-gives}
use Rattle.dm_scoped.proofs.ExpressionLemmas.{words-scoped, said-gives, declarator-scoped, derived-gives}
use Rattle.dm_scoped.proofs.InitialiserLemmas.{IsScopedInitial, initialiser-scoped, alone-scoped}
use Rattle.dm_scoped.proofs.StandingLemmas.{IsStatic, static-later, Holds, Moves, Leads, moves-none, leads-so, leads-from, stops-lead, further-leads, keeps-leads, typing-leads, collecting-leads, named-has, linked-static, declared-moves, object-moves}

-- ---- which declarations are automatic (6.2.4p3)

linked-fixed : (storage : Storage) (is_function : Bool) (linkage : Linkage) → has_linkage linkage ≡ true → is_automatic_sort (sort_of storage is_function linkage) ≡ false
linked-fixed typedef is_function linkage h = refl
linked-fixed unsaid true linkage h = refl
linked-fixed extern true linkage h = refl
linked-fixed static true linkage h = refl
linked-fixed unsaid false linkage h = rw h refl
linked-fixed extern false linkage h = rw h refl
linked-fixed static false linkage h = rw h refl

before-linked : (before : Option Declaration) → has_linkage (linkage_before before) ≡ true
before-linked None = refl
before-linked (Some old) = by-test (has_linkage old.linkage) refl
  where
    by-test : (test : Bool) → has_linkage old.linkage ≡ test → has_linkage (if test then old.linkage else External) ≡ true
    by-test true e = e
    by-test false e = refl

-- in file scope nothing is
file-fixed : (storage : Storage) (is_function : Bool) (before : Option Declaration) → is_automatic_sort (sort_of storage is_function (linkage_of storage is_function true before)) ≡ false
file-fixed typedef is_function before = refl
file-fixed storage true before = function-fixed storage
  where
    function-fixed : (storage : Storage) → is_automatic_sort (sort_of storage true (linkage_of storage true true before)) ≡ false
    function-fixed typedef = refl
    function-fixed unsaid = refl
    function-fixed extern = refl
    function-fixed static = refl
file-fixed static false before = refl
file-fixed extern false before = linked-fixed extern false (linkage_before before) (before-linked before)
file-fixed unsaid false before = refl

-- an automatic object is declared in a block, without `static` and `extern`
automatic-unsaid : (storage : Storage) (is_function in_file : Bool) (before : Option Declaration)
    → is_automatic_sort (sort_of storage is_function (linkage_of storage is_function in_file before)) ≡ true → (storage ≡ unsaid) × (in_file ≡ false)
automatic-unsaid storage is_function true before h = absurd (let no : true ≡ false = sym h ∙ file-fixed storage is_function before in cc)
automatic-unsaid unsaid is_function false before h = (refl, refl)
automatic-unsaid typedef is_function false before h = absurd (cc)
automatic-unsaid extern is_function false before h =
    absurd (let no : true ≡ false = sym h ∙ linked-fixed extern is_function (linkage_before before) (before-linked before) in cc)
automatic-unsaid static true false before h = absurd (cc)
automatic-unsaid static false false before h = absurd (cc)

pub entry-linked : (setting : Setting) (known : Known) (storage : Storage) (at : ℕ) (kind : CType) → has_linkage (entry_of setting known storage at kind).linkage ≡ true
    → is_automatic_sort (entry_of setting known storage at kind).sort ≡ false
entry-linked setting known storage at kind h =
    linked-fixed storage (is_function kind) (linkage_of storage (is_function kind) (is_file_scope known.scopes) (meaning_of known (spelling_at setting.source at))) h

one-scope : (scopes : Scopes) → length scopes ≡ 1 → is_file_scope scopes ≡ true
one-scope [] h = absurd (omega (arith, h))
one-scope (scope ∷ []) h = refl
one-scope (scope ∷ other ∷ others) h = absurd (omega (arith, h))

pub entry-in-file : (setting : Setting) (known : Known) (storage : Storage) (at : ℕ) (kind : CType) → length known.scopes ≡ 1
    → is_automatic_sort (entry_of setting known storage at kind).sort ≡ false
entry-in-file setting known storage at kind h =
    subst (λ test. is_automatic_sort (sort_of storage (is_function kind) (linkage_of storage (is_function kind) test (meaning_of known (spelling_at setting.source at)))) ≡ false)
    (sym (one-scope known.scopes h)) (file-fixed storage (is_function kind) (meaning_of known (spelling_at setting.source at)))

pub entry-unsaid : (setting : Setting) (known : Known) (storage : Storage) (at : ℕ) (kind : CType) → is_automatic_sort (entry_of setting known storage at kind).sort ≡ true
    → (storage ≡ unsaid) × (is_file_scope known.scopes ≡ false)
entry-unsaid setting known storage at kind h =
    automatic-unsaid storage (is_function kind) (is_file_scope known.scopes) (meaning_of known (spelling_at setting.source at)) h

-- ---- specifiers

pub specified-gives : (setting : Setting) (seen : ℕ → Bool) (stands : Where) (alone : Bool) (known : Known) (specifiers : Specifiers) → Sees known.declared seen known.scopes
    → Gives seen Any known (specified setting stands alone known specifiers)
specified-gives setting seen stands alone known (tree.listed span words) sees =
    after-gives seen Any Any known (words_said setting true alone known nothing_said words) _ (words-scoped setting seen true alone known nothing_said words sees)
    (λ behind said step any. with-gives seen Any Any behind (typed_said behind stands span.first said) _ (said-gives seen setting behind step.sees stands span.first said)
    (λ last kind more any. tt))

-- ---- what passes behind a declarator

-- Where so many scopes are open, what passes behind a declarator is all that passed before, and what it declares if that is automatic.
pub record Extends (setting : Setting) (depth : ℕ) (next : (ℕ → Bool) → ℕ → ℕ → Bool) : Type 0 where
  pub wider : (seen : ℕ → Bool) (n : ℕ) → IsWider seen (next seen n)
  pub takes : (seen : ℕ → Bool) (n : ℕ) (known : Known) (storage : Storage) (at : ℕ) (kind : CType) → length known.scopes ≡ depth
      → is_automatic_sort (entry_of setting known storage at kind).sort ≡ true → next seen n n ≡ true

-- a declarator with its initialiser, behind which this passes
abbrev pub IsScopedLocal : (ℕ → Bool) → List Declaration → Local → Type 0
IsScopedLocal seen declared local =
    Every (IsScopedIn seen declared) local.expressions × (length local.expressions ≡ count_expressions local.declarator) × Has declared seen local.declarator.declared

pub local-later : (seen : ℕ → Bool) (old new : List Declaration) (local : Local) → Grown old new → IsScopedLocal seen old local → IsScopedLocal seen new local
local-later seen old new local grown h =
    (every-later seen old new local.expressions grown h.0, h.1, has-later old new seen local.declarator.declared grown h.2)

-- all declarators of a declaration
abbrev pub behind_all : ((ℕ → Bool) → ℕ → ℕ → Bool) → (ℕ → Bool) → List Local → ℕ → Bool
behind_all next seen [] = seen
behind_all next seen (first ∷ others) = behind_all next (next seen first.declarator.declared) others

abbrev pub AreFine : ((ℕ → Bool) → ℕ → ℕ → Bool) → (ℕ → Bool) → List Declaration → List Local → Type 0
AreFine next seen declared [] = Unit {0}
AreFine next seen declared (first ∷ others) =
    IsScopedLocal (next seen first.declarator.declared) declared first × AreFine next (next seen first.declarator.declared) declared others

abbrev pub behind_declaration : ((ℕ → Bool) → ℕ → ℕ → Bool) → (ℕ → Bool) → Declared → ℕ → Bool
behind_declaration next seen one = behind_all next seen one.locals

abbrev pub IsFineDeclaration : ((ℕ → Bool) → ℕ → ℕ → Bool) → (ℕ → Bool) → List Declaration → Declared → Type 0
IsFineDeclaration next seen declared one = AreFine next seen declared one.locals

module _ (setting : Setting) (depth : ℕ) (next : (ℕ → Bool) → ℕ → ℕ → Bool) (extends : Extends setting depth next) where
  abbrev behind : (ℕ → Bool) → Local → ℕ → Bool
  behind seen local = next seen local.declarator.declared

  abbrev Fine : (ℕ → Bool) → List Declaration → Local → Type 0
  Fine seen declared local = IsScopedLocal (behind seen local) declared local

  declarable-leads : (seen : ℕ → Bool) (said : Specified) (s : Standing) (test : Bool) (here name : ℕ) (entry : Declaration) (rest : Progress Local)
      → Leads (behind seen) (Fine seen) s rest → Leads (behind seen) (Fine seen) s (declarable said s test here name entry rest)
  declarable-leads seen said s test here name entry rest h =
      keeps-leads (behind seen) (Fine seen) s _ 2 name _ (keeps-leads (behind seen) (Fine seen) s _ 3 said.first _
      (keeps-leads (behind seen) (Fine seen) s _ 5 here _ (keeps-leads (behind seen) (Fine seen) s _ 36 name rest h)))

  module _ (seen : ℕ → Bool) (s : Standing) (holds : Holds seen s) (deep : length s.known.scopes ≡ depth) (storage : Storage) (at : ℕ) (kind : CType) where
    abbrev entry : Declaration
    entry = entry_of setting s.known storage at kind

    abbrev number : ℕ
    number = number_here s entry

    abbrev more : ℕ → Bool
    more = next seen number

    passes : is_automatic_sort entry.sort ≡ true → more number ≡ true
    passes auto = extends.takes seen number s.known storage at kind deep auto

    linked : has_linkage entry.linkage ≡ true → is_automatic_sort entry.sort ≡ false
    linked h = entry-linked setting s.known storage at kind h

    pub moves : Moves more s (declared_here s entry)
    moves = declared-moves seen more (extends.wider seen number) s holds entry linked passes

    has : Has (declared_here s entry).known.declared more number
    has = named-has seen more (extends.wider seen number) s holds entry linked passes

    stands : has_linkage entry.linkage ≡ true → IsStatic (declared_here s entry).known.declared number
    stands h = linked-static seen more (extends.wider seen number) s holds entry linked passes h

    pub plain-leads : (said : Specified) (declarator : Declarator) → Leads (behind seen) (Fine seen) s (item_plain setting said s declarator entry)
    plain-leads said declarator =
        declarable-leads seen said s false (declarator_span declarator).first (name_at declarator) entry _
        (leads-so (behind seen) (Fine seen) s (declared_here s entry) (local_plain number (defines_object said.storage entry.sort)) moves (tt, refl, has))

    defined-leads : (t : Standing) (here name : ℕ) (type : CType) (initial : Initial) → Moves more (declared_here s entry) t → IsScopedInitial more t.known.declared initial
        → Leads (behind seen) (Fine seen) t (object_defined t entry number here name type initial)
    defined-leads t here name type initial after h =
        let last = object-moves more t entry number type after.holds
        (λ yes. static-there (stands yes)) in
        keeps-leads (behind seen) (Fine seen) t (may_define t number type) 2 name _
        (keeps-leads (behind seen) (Fine seen) t (is_complete t.known type) 5 here _
        (leads-so (behind seen) (Fine seen) t (object_here t entry number type) (local_initialised number initial) last
        (local-later more t.known.declared (object_here t entry number type).known.declared (local_initialised number initial) last.grown
        (h.0, h.1, has-later (declared_here s entry).known.declared t.known.declared more number after.grown has))))
      where
        static-there : IsStatic (declared_here s entry).known.declared number → IsStatic t.known.declared number
        static-there is = static-later (declared_here s entry).known.declared t.known.declared number after.grown is

    pub initialised-leads : (said : Specified) (span : Span) (declarator : Declarator) (one : Initialiser)
        → Leads (behind seen) (Fine seen) s (item_initialised setting said s span declarator one entry)
    initialised-leads said span declarator one =
        let t = declared_here s entry in
        let type = kind_seen s entry in
        let whole = completed setting type one in
        declarable-leads seen said s true (declarator_span declarator).first (name_at declarator) entry _
        (leads-from more (behind seen) (Fine seen) s t _ moves (by-test (may_be_initialised t.known entry)))
      where
        by-test : (test : Bool) → Leads (behind seen) (Fine seen) (declared_here s entry)
            (if test
            then typing (declared_here s entry) (typed_initialiser setting (is_fixed entry.sort) (declared_here s entry).known (completed setting (kind_seen s entry) one) one)
            (λ u initial. object_defined u entry number (declarator_span declarator).first (name_at declarator) (completed setting (kind_seen s entry) one) initial)
            else typing (declared_here s entry) (expressions_alone setting (declared_here s entry).known one) (λ u trees. stops 9 span.first))
        by-test true =
            typing-leads more (IsScopedInitial more) (behind seen) (Fine seen) (declared_here s entry) _ _ moves.holds
            (initialiser-scoped setting more (is_fixed entry.sort) (declared_here s entry).known (completed setting (kind_seen s entry) one) one moves.holds.sees)
            (λ u initial after h. defined-leads u (declarator_span declarator).first (name_at declarator) (completed setting (kind_seen s entry) one) initial after h)
        by-test false =
            typing-leads more (AllScoped more) (behind seen) (Fine seen) (declared_here s entry) _ _ moves.holds
            (alone-scoped setting more (declared_here s entry).known one moves.holds.sees) (λ u trees after h. stops-lead (behind seen) (Fine seen) u 9 span.first)

  with-leads : (seen : ℕ → Bool) (s : Standing) (constants : List Tree) (item : Progress Local) → Leads (behind seen) (Fine seen) s item
      → Leads (behind seen) (Fine seen) s (item_with constants item)
  with-leads seen s constants item h =
      further-leads (behind seen) (Fine seen) (behind seen) (Fine seen) s item _ h
      (λ t local moves fine. leads-so (behind seen) (Fine seen) t t (with_lengths constants local) (moves-none (behind seen local) t moves.holds) fine)

  declarator-gives : (seen : ℕ → Bool) (known : Known) (base : CType) (declarator : Declarator) → Sees known.declared seen known.scopes
      → Gives seen Any known (typed_declarator setting known base declarator)
  declarator-gives seen known base declarator sees =
      after-gives seen Any Any known (steps_of setting true known declarator) _ (declarator-scoped setting seen true known declarator sees)
      (λ behind steps step any. derived-gives seen behind base steps step.sees)

  item-leads : (seen : ℕ → Bool) (said : Specified) (s : Standing) (item : Item) → Holds seen s → length s.known.scopes ≡ depth
      → Leads (behind seen) (Fine seen) s (typed_item setting said s item)
  item-leads seen said s (tree.plain span declarator) holds deep =
      collecting-leads seen Any (behind seen) (Fine seen) s _ _ holds (declarator-gives seen s.known said.kind declarator holds.sees)
      (λ t constants kind moved any. with-leads seen t constants _
      (plain-leads seen t moved.holds (moved.depth ∙ deep) said.storage (name_at declarator) kind said declarator))
  item-leads seen said s (tree.initialised span declarator one) holds deep =
      collecting-leads seen Any (behind seen) (Fine seen) s _ _ holds (declarator-gives seen s.known said.kind declarator holds.sees)
      (λ t constants kind moved any. with-leads seen t constants _
      (initialised-leads seen t moved.holds (moved.depth ∙ deep) said.storage (name_at declarator) kind said span declarator one))

  -- ---- all declarators

  items-lead : (seen : ℕ → Bool) (said : Specified) (s : Standing) (items : List Item) → Holds seen s → length s.known.scopes ≡ depth
      → Leads (behind_all next seen) (AreFine next seen) s (typed_items setting said s items)
  items-lead seen said s [] holds deep = leads-so (behind_all next seen) (AreFine next seen) s s [] (moves-none seen s holds) tt
  items-lead seen said s (item ∷ items) holds deep =
      further-leads (behind seen) (Fine seen) (behind_all next seen) (AreFine next seen) s (typed_item setting said s item) _ (item-leads seen said s item holds deep) (λ t first moved fine.
      let inner = behind seen first in
      further-leads (behind_all next inner) (AreFine next inner) (behind_all next seen) (AreFine next seen) t (typed_items setting said t items) _
      (items-lead inner said t items moved.holds (moved.depth ∙ deep)) (λ u others went all.
      leads-so (behind_all next seen) (AreFine next seen) u u (first ∷ others) (moves-none (behind_all next inner others) u went.holds)
      (local-later inner t.known.declared u.known.declared first went.grown fine, all)))

  pub declaration-leads : (seen : ℕ → Bool) (s : Standing) (declaration : tree.Declaration) → Holds seen s → length s.known.scopes ≡ depth
      → Leads (behind_declaration next seen) (IsFineDeclaration next seen) s (typed_declaration setting s declaration)
  declaration-leads seen s (tree.declaring span specifiers items) holds deep =
      collecting-leads seen Any (behind_declaration next seen) (IsFineDeclaration next seen) s _ _ holds (specified-gives setting seen of_declaration (is_alone specifiers items) s.known specifiers holds.sees)
      (λ t constants said moved any.
      further-leads (behind_all next seen) (AreFine next seen) (behind_declaration next seen) (IsFineDeclaration next seen) t (typed_items setting said t items) _
      (items-lead seen said t items moved.holds (moved.depth ∙ deep)) (λ u locals went all.
      keeps-leads (behind_declaration next seen) (IsFineDeclaration next seen) u _ 3 said.first _
      (leads-so (behind_declaration next seen) (IsFineDeclaration next seen) u u (record { constants = constants ++ constants_of locals; locals = locals })
      (moves-none (behind_all next seen locals) u went.holds) all)))
