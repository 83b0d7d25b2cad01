-- Declarations fit: what they declare, their lengths and their initialisers.
use Rattle.std.specs.Prelude.{◌≡◌, ℕ, ◌≤◌, Bool, true, false, ◌&&◌, ◌||◌, not, if◌then◌else◌, List, [], ◌∷◌, ◌++◌, length, take, drop, All, Option, Some, None, is_some, IsSome, IfSome, unwrap_or, slice_get, refl}
use Rattle.std.proofs.Common.{sym, ap, ◌∙◌, subst, arith}
use Rattle.std.proofs.Math.Seq.{take-append_seam, drop-append_seam}
use Rattle.std.proofs.lemmas.List.Elements.{All-nil, All-cons, All-head, All-tail, All-append}
use Rattle.dm_token.specs.declared.place.Span.{Span}
use Rattle.dm_type.specs.Alike.{are_compatible}
use Rattle.dm_type.specs.CTypes.{CType, array, function as function_type}
use Rattle.dm_type.specs.TableLaws.{injected}
use Rattle.dm_syn.specs.declared.declared.Declared.{Declared as Seen}
use Rattle.dm_syn.specs.Spans.{declarator_span}
use Rattle.dm_syn.specs.Grammar.{IsSpecifiers, IsDeclarator}
use Rattle.dm_syn.specs.Statements.{IsInitialiser, IsItem, AreItems, AreMoreItems, IsDeclaration}
use Rattle.dm_syn.specs.Trees.{Specifiers, Declarator, Initialiser, Item}
use Rattle.dm_syn.specs.Trees as tree
use Rattle.dm_tree.specs.declared.unit.Sort.{Sort}
use Rattle.dm_tree.specs.declared.unit.Sort.TheVariants.{Object, Function}
use Rattle.dm_tree.specs.Composites.{covers}
use Rattle.dm_tree.specs.Initialisers.{is_fixed, is_object, is_function_sort, targets, AllInitialise, FitsEntry, DeclaratorFits, DeclaratorsFit, expressions_of as expressions_in_declarator}
use Rattle.dm_tree.specs.Scenes.{Scene, Names, IsConstant, IsComplete, is_array, is_function}
use Rattle.dm_tree.specs.Trees.{Tree, trees, expressions_in}
use Rattle.dm_tree.specs.Trees as label
use Rattle.dm_tree.specs.Typing.{FitsSort, IsEntry, IsWellTyped, AreWellTyped, AllWellTyped, has_linkage}
use Rattle.dm_tree.specs.Units.{Declaration}
use Rattle.dm_typing.specs.Known.{Known, Setting, Outcome, given, broken}
use Rattle.dm_typing.specs.Later.{IsLater}
use Rattle.dm_typing.specs.Conversions.{is_complete, is_same}
use Rattle.dm_typing.specs.Specifiers.{nothing_said, Where, of_declaration}
use Rattle.dm_typing.specs.Sound.{IsType, AreSoundTokens, AreConstants, IsSoundKnown, KnowsMore, GivesMore, scene_of}
use Rattle.dm_typing.specs.Typing.{is_file_scope, words_said, typed_said, steps_of}
use Rattle.dm_typing.proofs.CoverLemmas.{covers-itself}
use Rattle.dm_typing.proofs.DerivedLemmas.{SaidFits, said-more, type-gives}
use Rattle.dm_typing.proofs.ExpressionLemmas.{value-expression}
use Rattle.dm_typing.proofs.GrowthLemmas.{typed-later, constants-stay, complete-stays}
use Rattle.dm_typing.proofs.KindLemmas.{numbers-same}
use Rattle.dm_typing.proofs.KnownLemmas.{type-stays, after-more, with-more}
use Rattle.dm_typing.proofs.TypeLemmas.{both-hold}
use Rattle.dm_typing.proofs.WholeLemmas.{words-more, declarator-more}
use Rattle.dm_edecl.specs.Standing.{Linked, Standing, Progress, goes_on, stops, further, knowing, typing}
use Rattle.dm_edecl.specs.Linkages.{is_extern, entry_of, kind_seen, whole_kind, meaning_here, is_typedef, is_same_typedef, may_be_declared, number_here, with_kind, with_link_if, declared_here, is_defined}
use Rattle.dm_edecl.specs.Initialising.{Initial, completed, expressions_alone, typed_initialiser}
use Rattle.dm_edecl.specs.Declaring.{Specified, specified_by, specified, is_alone, typed_declarator, name_at, is_misplaced_static, may_be_object, may_be_main, declarable, Local, local_plain, local_initialised, with_lengths, may_be_initialised, may_define, object_defined, initialised, defines_object, item_plain, item_initialised, item_with, typed_item, typed_items, declarators_of, constants_of, expressions_of, may_be_inline, declared_by, typed_declaration}
use Rattle.dm_edecl.specs.Sound.{AllSound, IsSoundInitial}
use Rattle.dm_edecl.specs.Settled.{IsBound, is_linked, IsSoundStanding, Keeps, is_open, IsFinal, Settles}
use Rattle.dm_edecl.specs.Fit.{InitialFits, AllConstants, DeclaresWell, LocalFits, LocalsFit, DeclarationFits}
use Rattle.dm_edecl.proofs.CompletionLemmas.{covers-complete, covers-function, covers-sort}
use Rattle.dm_edecl.proofs.EntryLemmas.{entry-fits}
use Rattle.dm_edecl.proofs.InitialFitLemmas.{Fitting, initialiser-fits}
use Rattle.dm_edecl.proofs.InitialLemmas.{initialiser-gives}
use Rattle.dm_edecl.proofs.KeepsLemmas.{keeps-itself, keeps-through, keeps-final, final-later, knowing-keeps, knowing-sound, settles-further, settles-keeps, settles-collecting}
use Rattle.dm_edecl.proofs.LinkLemmas.{linked-last}
use Rattle.dm_edecl.proofs.NamingLemmas.{declarator-declared}
use Rattle.dm_edecl.proofs.RetypingLemmas.{kind-put, changed-at, IsDeclared, pushing-sound, pushing-keeps, completing-sound, completing-keeps, completing-final}

-- ---- lists of trees

take-front : {A : Type 0} (xs ys : List A) (n : ℕ) → length xs ≡ n → take n (xs ++ ys) ≡ xs
take-front xs ys n e = ap (λ m. take m (xs ++ ys)) (sym e) ∙ take-append_seam xs ys

drop-front : {A : Type 0} (xs ys : List A) (n : ℕ) → length xs ≡ n → drop n (xs ++ ys) ≡ ys
drop-front xs ys n e = ap (λ m. drop m (xs ++ ys)) (sym e) ∙ drop-append_seam xs ys

module _ (s : Standing) (final : Scene) (sound : IsSoundStanding s) (last : IsFinal s final) where
  constants-typed : (all : List Tree) → All (IsConstant (scene_of s.known)) all → AreWellTyped (scene_of s.known) (trees all) → AllWellTyped final all
  constants-typed [] are h = All-nil (IsWellTyped final)
  constants-typed (first ∷ rest) are h =
      All-cons (IsWellTyped final) first rest
      (typed-later s.known sound.known.complete final (final-later s final sound last) first (value-expression first (All-head (IsConstant (scene_of s.known)) first rest are).0) h.0)
      (constants-typed rest (All-tail (IsConstant (scene_of s.known)) first rest are) h.1)

  -- lengths and enumerator values are constants at the end
  pub constants-final : (all : List Tree) → AreConstants s.known all → AllConstants final all
  constants-final all are = (constants-typed all are.0 are.1, constants-stay s.known final (final-later s final sound last) sound.known.complete all are.0)

  pub expressions-final : (all : List Tree) → AllSound s.known all → AllWellTyped final all
  expressions-final [] are = All-nil (IsWellTyped final)
  expressions-final (first ∷ rest) are =
      All-cons (IsWellTyped final) first rest (typed-later s.known sound.known.complete final (final-later s final sound last) first are.0.0 are.0.3) (expressions-final rest are.1)

locals-fit : (scene : Scene) (locals : List Local) → LocalsFit scene locals
    → AllConstants scene (constants_of locals) × AllWellTyped scene (expressions_of locals) × DeclaratorsFit scene (declarators_of locals) (expressions_of locals)
locals-fit scene [] h = ((All-nil (IsWellTyped scene), All-nil (IsConstant scene)), All-nil (IsWellTyped scene), refl)
locals-fit scene (first ∷ others) h =
    let rest = locals-fit scene others h.1 in
    let one = h.0 in
    let mine = first.expressions in
    let more = expressions_of others in
    let n = expressions_in_declarator first.declarator in (
      (
        All-append (IsWellTyped scene) first.constants (constants_of others) one.0.0 rest.0.0,
        All-append (IsConstant scene) first.constants (constants_of others) one.0.1 rest.0.1,
      ),
      All-append (IsWellTyped scene) mine more one.1.0 rest.1,
      (
        subst (DeclaratorFits scene first.declarator) (sym (take-front mine more n one.1.2)) one.1.1,
        subst (DeclaratorsFit scene (declarators_of others)) (sym (drop-front mine more n one.1.2)) rest.2,
      ),
    )

-- ---- specifiers and declarators

abbrev pub IsSpecified : Known → Specified → Type 0
IsSpecified known said = IsType known said.kind

module _ (setting : Setting) (tokens : AreSoundTokens setting.source.tokens) where
  pub specified-more : (stands : Where) (alone : Bool) (known : Known) (names : List Seen) (specifiers : Specifiers) → IsSpecifiers setting.source names specifiers → IsSoundKnown known
      → GivesMore known IsSpecified (specified setting stands alone known specifiers)
  unfolding IsSpecifiers
  specified-more stands alone known names (tree.listed span tree.no_words) h sound = absurd h
  specified-more stands alone known names (tree.listed span (tree.more_words first others)) h sound =
      after-more known SaidFits IsSpecified (words_said setting true alone known nothing_said (tree.more_words first others)) _
      (words-more setting tokens true known _ _ _ alone nothing_said (tree.more_words first others) h.0 sound tt)
      (λ behind said more still fits. with-more behind IsType IsSpecified (typed_said behind stands span.first said) (λ last kind. specified_by said span.first kind)
      (said-more behind stands span.first said still fits) (λ last kind further fine is. is))

  pub declarator-typed : (known : Known) (names : List Seen) (base : CType) (declarator : Declarator) → IsDeclarator setting.source names false declarator → IsSoundKnown known
      → IsType known base → GivesMore known IsType (typed_declarator setting known base declarator)
  declarator-typed known names base declarator h sound is = type-gives known base (steps_of setting true known declarator) is (declarator-more setting tokens true known names false declarator h sound)

-- ---- entries at the end

pub names-final : (final : Scene) (number : ℕ) (P : Declaration → Type 0) (later : Declaration) → slice_get final.declared number ≡ Some later → P later → Names final number P
names-final final number P later e p =
    let Q : Option Declaration → Type 0 = λ found. IfSome found P × IsSome found in subst Q (sym e) (p, refl)

-- what a declarator has declared, at the end
pub record IsAtEnd (final : Scene) (number : ℕ) (kind : CType) (entry : Declaration) : Type 0 where
  pub later : Declaration
  pub at : slice_get final.declared number ≡ Some later
  pub sort : later.sort ≡ entry.sort
  pub kind_later : covers later.kind kind ≡ true
  pub linked : has_linkage entry.linkage ≡ true → (later.name ≡ entry.name) × (later.linkage ≡ entry.linkage)

pub declared-final : (s t : Standing) (number : ℕ) (kind : CType) (entry : Declaration) → IsDeclared s t number kind entry → (final : Scene) → IsFinal t final → IsAtEnd final number kind entry
declared-final s t number kind entry one final last =
    let three = (final-later t final one.sound last).declared number one.now one.at in
    record {
      later = three.0;
      at = three.1;
      sort = three.2.sort ∙ one.sort;
      kind_later = subst (λ it. covers three.0.kind it ≡ true) one.kind_now three.2.kind;
      linked = λ yes. (three.2.name ∙ (one.linked yes).0, three.2.linkage ∙ (one.linked yes).1);
    }

-- a complete type stays complete as it is covered
pub complete-final : (s : Standing) (final : Scene) → IsSoundStanding s → IsFinal s final → (whole kind : CType) → covers whole kind ≡ true → is_complete s.known kind ≡ true
    → IsComplete final whole
complete-final s final sound last whole kind c h =
    covers-complete final whole kind c (complete-stays s.known final (final-later s final sound last) sound.known.complete kind h)

-- ---- tests of a declarator

pub not-true : (test : Bool) → not test ≡ true → test ≡ false
not-true true h = absurd (cc)
not-true false h = refl

pub declarable-settles : {A : Type 0} (P : Scene → A → Type 0) (said : Specified) (s u : Standing) (start : Bool) (here name : ℕ) (entry : Declaration) (next : Progress A)
    → (is_misplaced_static s.known said.storage entry.sort ≡ false → may_be_declared s entry ≡ true
    → may_be_object s.known said.storage start entry.sort (kind_seen s entry) ≡ true → may_be_main s.known entry ≡ true → Settles P u next)
    → Settles P u (declarable said s start here name entry next)
declarable-settles P said s u start here name entry next step =
    settles-keeps P u (may_be_declared s entry) 2 name _
    (λ b. settles-keeps P u (not (is_misplaced_static s.known said.storage entry.sort)) 3 said.first _
    (λ a. settles-keeps P u (may_be_object s.known said.storage start entry.sort (kind_seen s entry)) 5 here _
    (λ c. settles-keeps P u (may_be_main s.known entry) 36 name next
    (λ d. step (not-true (is_misplaced_static s.known said.storage entry.sort) a) b c d))))

-- ---- without an initialiser

plain-complete : (object outside complete other : Bool) → (object && not outside) ≡ true → (not object || outside && not false || (complete || false && other)) ≡ true
    → (object ≡ true) × (complete ≡ true)
plain-complete true false true other d h = (refl, refl)
plain-complete true false false other d h = absurd (cc)
plain-complete true true complete other d h = absurd (cc)
plain-complete false outside complete other d h = absurd (cc)

module _ (setting : Setting) where
  plain-settles : (said : Specified) (s : Standing) (declarator : Declarator) (kind : CType) → IsSoundStanding s → IsType s.known kind
      → Settles DeclaresWell s (item_plain setting said s declarator (entry_of setting s.known said.storage (name_at declarator) kind))
  plain-settles said s declarator kind sound type =
      let entry = entry_of setting s.known said.storage (name_at declarator) kind in
      let number = number_here s entry in
      let defines = defines_object said.storage entry.sort in
      declarable-settles DeclaresWell said s s false (declarator_span declarator).first (name_at declarator) entry (goes_on (declared_here s entry) (local_plain number defines))
      (λ a b c d.
      let one = declarator-declared s entry false sound (entry-fits setting s.known said.storage (name_at declarator) kind a) type b in (
        one.sound,
        one.kept,
        λ final last.
            let end = declared-final s (declared_here s entry) number (kind_seen s entry) entry one final last in (
              All-nil (IsWellTyped final),
              names-final final number (FitsEntry final (local_plain number defines).declarator []) end.later end.at (
                (λ is.
                    let fits = plain-complete (is_object entry.sort) (is_extern said.storage) (is_complete s.known (kind_seen s entry)) (is_array (kind_seen s entry)) is c in
                    (ap is_object end.sort ∙ fits.0, complete-final s final sound (keeps-final s (declared_here s entry) final one.kept last) end.later.kind (kind_seen s entry) end.kind_later fits.1)),
                refl,
              ),
              refl,
            ),
      ))

-- ---- with one

completed-covers : (setting : Setting) (type : CType) (one : Initialiser) → covers (completed setting type one) type ≡ true
completed-covers setting (array type None) (tree.value span (tree.literal at)) = covers-itself type
completed-covers setting (array type None) (tree.braces span (tree.more_initialisers first others) trailing) = covers-itself type
completed-covers setting (array type None) one = covers-itself (array type None)
completed-covers setting (array type (Some n)) one = covers-itself (array type (Some n))
completed-covers setting type one = covers-itself type

completed-shut : (setting : Setting) (type : CType) (one : Initialiser) → is_open type ≡ false → completed setting type one ≡ type
completed-shut setting (array type None) one h = absurd (cc)
completed-shut setting (array type (Some n)) one h = refl
completed-shut setting type one h = refl

completed-type : (setting : Setting) (known : Known) (type : CType) (one : Initialiser) → IsType known type → IsType known (completed setting type one)
completed-type setting known (array type None) (tree.value span (tree.literal at)) is = (is.0, λ number e. absurd (cc))
completed-type setting known (array type None) (tree.braces span (tree.more_initialisers first others) trailing) is = (is.0, λ number e. absurd (cc))
completed-type setting known (array type None) one is = is
completed-type setting known (array type (Some n)) one is = is
completed-type setting known type one is = is

-- what is typed beyond another place
settles-beyond : {A B : Type 0} (P : Known → A → Type 0) (Q : Scene → B → Type 0) (s t : Standing) (outcome : Outcome A) (next : Standing → A → Progress B) → IsSoundStanding t → Keeps s t
    → GivesMore t.known P outcome
    → ((known : Known) (it : A) → KnowsMore t.known known → P known it → IsSoundStanding (knowing t known) → Keeps s (knowing t known) → Settles Q s (next (knowing t known) it))
    → Settles Q s (typing t outcome next)
settles-beyond P Q s t (given known it) next sound kept h step =
    step known it h.0 h.3 (knowing-sound t known sound h.0 h.1) (keeps-through s t (knowing t known) kept (knowing-keeps t known sound h.0))
settles-beyond P Q s t (broken rule at) next sound kept h step = tt

settles-stops : {A B : Type 0} (Q : Scene → B → Type 0) (s t : Standing) (outcome : Outcome A) (rule at : ℕ) → Settles Q s (typing t outcome (λ behind it. stops rule at))
settles-stops Q s t (given known it) rule at = tt
settles-stops Q s t (broken other place) rule at = tt

both-more : {A : Type 0} (known : Known) (P Q : Known → A → Type 0) (outcome : Outcome A) → GivesMore known P outcome → GivesMore known Q outcome
    → GivesMore known (λ behind it. P behind it × Q behind it) outcome
both-more known P Q (given behind it) h g = (h.0, h.1, h.2, (h.3, g.3))
both-more known P Q (broken rule at) h g = tt

either-settles : {A : Type 0} (P : Scene → A → Type 0) (s : Standing) (test : Bool) (one other : Progress A) → (test ≡ true → Settles P s one) → Settles P s other
    → Settles P s (if test then one else other)
either-settles P s true one other h g = h refl
either-settles P s false one other h g = g

link-there : (test : Bool) (number : ℕ) (kind : CType) (defines : Bool) (linked : List Linked) → test ≡ true → is_linked number (with_link_if test number kind defines linked) ≡ true
link-there true number kind defines linked h = linked-last (record { number = number; kind = kind; defines = defines }) number linked (numbers-same number number refl)
link-there false number kind defines linked h = absurd (cc)

pub link-absent : (test : Bool) (number : ℕ) (kind : CType) (defines : Bool) (linked : List Linked) → test ≡ false → is_linked number linked ≡ false
    → is_linked number (with_link_if test number kind defines linked) ≡ false
link-absent true number kind defines linked h absent = absurd (cc)
link-absent false number kind defines linked h absent = absent

pub never-linked : (test : Bool) → (test ≡ true → ⊥) → test ≡ false
never-linked true h = absurd (h refl)
never-linked false h = refl

-- the number of an object without linkage is new
typedef-sort : (old : Bool) (sort : Sort) (same : Bool) → is_object sort ≡ true → (old && is_typedef sort && same) ≡ true → ⊥
typedef-sort true (Object fixed) same h g = absurd (cc)
typedef-sort false (Object fixed) same h g = absurd (cc)
typedef-sort old sort same h g = absurd (cc)

typedef-only : (found : Option Declaration) (entry : Declaration) → is_object entry.sort ≡ true → is_same_typedef found entry ≡ true → found ≡ None
typedef-only None entry h g = refl
typedef-only (Some old) entry h g = absurd (typedef-sort (is_typedef old.sort) entry.sort (is_same old.kind entry.kind) h g)

fresh-by : (test : Bool) (found : Option Declaration) (entry : Declaration) (agreed : Bool) (shared number : Option ℕ) (many : ℕ) → test ≡ false → is_object entry.sort ≡ true
    → (if test then agreed else is_same_typedef found entry) ≡ true → unwrap_or (if test then shared else if is_some found then number else None) many ≡ many
fresh-by true found entry agreed shared number many e h g = absurd (cc)
fresh-by false found entry agreed shared number many e h g =
    subst (λ it. unwrap_or (if is_some it then number else None) many ≡ many) (sym (typedef-only found entry h g)) refl

pub fresh-number : (s : Standing) (entry : Declaration) → has_linkage entry.linkage ≡ false → is_object entry.sort ≡ true → may_be_declared s entry ≡ true
    → number_here s entry ≡ length s.known.declared
fresh-number s entry e h g = fresh-by (has_linkage entry.linkage) (meaning_here s.known entry.name) entry _ _ _ (length s.known.declared) e h g

object-if : (sort : Sort) (kind : CType) (linked other : Bool) → FitsSort sort kind linked → linked ≡ false → (is_function_sort sort || is_object sort && other) ≡ true
    → is_object sort ≡ true
object-if (Object fixed) kind linked other fits e h = refl
object-if Function kind linked other fits e h = let yes = fits.1 in absurd (cc)
object-if sort kind linked other fits e h = absurd (cc)

relater : (known : Known) (constants : List Tree) (final : Scene) → IsLater (record known { constants = constants }) final → IsLater known final
relater known constants final later = record { types = later.types; contents = later.contents; declared = later.declared }

-- no initialiser fits a function
never-function : (final : Scene) (fixed : Bool) (kind : CType) (form : label.Initialiser) (expressions : List Tree) → is_function kind ≡ true
    → (types : List CType) × (targets final.types kind form ≡ Some types) × AllInitialise final fixed types expressions → ⊥
never-function final fixed (function_type result parameters) label.one_expression (one ∷ []) f h =
    let same : function_type result parameters ∷ [] ≡ h.0 = injected (function_type result parameters ∷ []) h.0 h.1 in
    let all = subst (λ types. AllInitialise final fixed types (one ∷ [])) (sym same) h.2 in let is = all.0.1 in absurd (cc)
never-function final fixed (function_type result parameters) label.one_expression [] f h =
    let same : function_type result parameters ∷ [] ≡ h.0 = injected (function_type result parameters ∷ []) h.0 h.1 in
    absurd (subst (λ types. AllInitialise final fixed types []) (sym same) h.2)
never-function final fixed (function_type result parameters) label.one_expression (one ∷ two ∷ rest) f h =
    let same : function_type result parameters ∷ [] ≡ h.0 = injected (function_type result parameters ∷ []) h.0 h.1 in
    let all = subst (λ types. AllInitialise final fixed types (one ∷ two ∷ rest)) (sym same) h.2 in absurd all.1
never-function final fixed (function_type result parameters) (label.in_braces label.no_items) expressions f h = let e = h.1 in absurd (cc)
never-function final fixed (function_type result parameters) (label.in_braces (label.more_items first others)) expressions f h = let e = h.1 in absurd (cc)
never-function final fixed kind form expressions f h = absurd (cc)

-- an object is defined with a type that its initialiser completes
module _ (s : Standing) (entry : Declaration) (sound : IsSoundStanding s) (is : IsEntry entry) (may : may_be_declared s entry ≡ true) (initialisable : Bool)
    (starts : (is_function_sort entry.sort || is_object entry.sort && initialisable) ≡ true)
    (declared : IsDeclared s (declared_here s entry) (number_here s entry) (kind_seen s entry) entry) (known : Known) (more : KnowsMore (declared_here s entry).known known)
    (inside : IsSoundStanding (knowing (declared_here s entry) known)) (kept : Keeps s (knowing (declared_here s entry) known))
    (kind : CType) (wide : covers kind (kind_seen s entry) ≡ true) (shut : is_open (kind_seen s entry) ≡ false → kind ≡ kind_seen s entry) (type : IsType known kind) where
  abbrev u : Standing
  u = knowing (declared_here s entry) known

  abbrev number : ℕ
  number = number_here s entry

  abbrev behind : Bool → Standing
  behind test = record u { known = record u.known { declared = with_kind number kind u.known.declared }; linked = with_link_if test number kind true u.linked }

  now-here : slice_get u.known.declared number ≡ Some declared.now
  now-here = more.declared number declared.now declared.at

  wide-now : covers kind declared.now.kind ≡ true
  wide-now = subst (λ it. covers kind it ≡ true) (sym declared.kind_now) wide

  entry-now : (old : Declaration) → slice_get u.known.declared number ≡ Some old → IsEntry (record old { kind = kind }) × IsType u.known kind
  entry-now old e =
      let same : declared.now ≡ old = injected declared.now old (sym now-here ∙ e) in
      let fits = (inside.known.entries number declared.now now-here).0 in
      subst (λ (it : Declaration). IsEntry (record it { kind = kind }) × IsType u.known kind) same
      (covers-sort declared.now.sort kind declared.now.kind (has_linkage declared.now.linkage) wide-now fits, type)

  wider : (old : Declaration) → slice_get u.known.declared number ≡ Some old → covers kind old.kind ≡ true
  wider old e = subst (λ (it : Declaration). covers kind it.kind ≡ true) (injected declared.now old (sym now-here ∙ e)) wide-now

  unless : (old : Declaration) → slice_get u.known.declared number ≡ Some old → is_open old.kind ≡ false → kind ≡ old.kind
  unless old e shut-here =
      let same : declared.now ≡ old = injected declared.now old (sym now-here ∙ e) in
      let is-seen : old.kind ≡ kind_seen s entry = sym (ap (λ (it : Declaration). it.kind) same) ∙ declared.kind_now in
      shut (subst (λ it. is_open it ≡ false) is-seen shut-here) ∙ sym is-seen

  IsDefined : Bool → Type 0
  IsDefined test = IsDeclared s (behind test) number kind entry × ((final : Scene) → IsFinal (behind test) final → IsFinal u final)

  -- of the entry behind the declaration
  declared-so : (test : Bool) → IsSoundStanding (behind test) → Keeps s (behind test) → IsDeclared s (behind test) number kind entry
  declared-so test sound-behind kept-behind =
      let put = kind-put number kind u.known.declared number declared.now now-here in
      let now : put.0 ≡ record declared.now { kind = kind } = changed-at number kind declared.now put.0 put.2 in
      record {
        sound = sound-behind;
        kept = kept-behind;
        now = put.0;
        at = put.1;
        sort = ap (λ (it : Declaration). it.sort) now ∙ declared.sort;
        kind_now = ap (λ (it : Declaration). it.kind) now;
        linked = λ yes. (ap (λ (it : Declaration). it.name) now ∙ (declared.linked yes).0, ap (λ (it : Declaration). it.linkage) now ∙ (declared.linked yes).1);
      }

  defined-linked : has_linkage entry.linkage ≡ true → are_compatible (unwrap_or (whole_kind number u.linked) kind) kind ≡ true → IsDefined true
  unfolding IsDefined
  defined-linked e agrees =
      let x : Linked = record { number = number; kind = kind; defines = true } in
      let already : is_linked number u.linked ≡ true = link-there (has_linkage entry.linkage) number entry.kind false s.linked e in
      let fits : (whole : CType) → whole_kind number u.linked ≡ Some whole → are_compatible whole kind ≡ true =
      λ whole w. subst (λ it. are_compatible (unwrap_or it kind) kind ≡ true) w agrees in
      let most : (bound : CType) → IsBound bound number u.linked → covers bound kind ≡ true → covers bound kind ≡ true = λ bound b c. c in
      let then_sound = pushing-sound u number kind u.known.scopes x inside refl already entry-now type.0 fits most in
      let then_kept = pushing-keeps u number kind u.known.scopes x inside refl already entry-now type.0 fits most in
      (declared-so true then_sound (keeps-through s u (behind true) kept then_kept), λ final last. keeps-final u (behind true) final then_kept last)

  defined-unlinked : has_linkage entry.linkage ≡ false → IsDefined false
  unfolding IsDefined
  defined-unlinked e =
      let object = object-if entry.sort entry.kind (has_linkage entry.linkage) initialisable is e starts in
      let fresh = fresh-number s entry e object may in
      let low : length s.known.declared ≤ number = omega (arith, fresh) in
      let none : is_linked number s.linked ≡ false =
      never-linked (is_linked number s.linked) (λ h. let one = sound.within number h in absurd (omega (arith, one, fresh))) in
      let no : is_linked number u.linked ≡ false = link-absent (has_linkage entry.linkage) number entry.kind false s.linked e none in
      let then_sound = completing-sound s u number kind inside kept low no entry-now in
      let then_kept = completing-keeps s u number kind inside kept low no entry-now in
      (declared-so false then_sound then_kept, λ final last. completing-final s u number kind inside kept low no entry-now final last wider unless)

  defined : (test : Bool) → has_linkage entry.linkage ≡ test → are_compatible (unwrap_or (whole_kind number u.linked) kind) kind ≡ true → IsDefined test
  defined true e agrees = defined-linked e agrees
  defined false e agrees = defined-unlinked e

  function-seen : entry.sort ≡ Function → is_function (kind_seen s entry) ≡ true
  function-seen e =
      let fits = (declared.sound.known.entries number declared.now declared.at).0 in
      let sort : declared.now.sort ≡ Function = declared.sort ∙ e in
      let function = (subst (λ it. FitsSort it declared.now.kind (has_linkage declared.now.linkage)) sort fits).0 in
      subst (λ it. is_function it ≡ true) declared.kind_now function

  object-of : (final : Scene) (initial : Initial) → InitialFits (is_fixed entry.sort) kind final initial → is_object entry.sort ≡ true
  object-of final initial fits = by-sort entry.sort refl starts
    where
      by-sort : (sort : Sort) → entry.sort ≡ sort → (is_function_sort sort || is_object sort && initialisable) ≡ true → is_object sort ≡ true
      by-sort (Object fixed) e h = refl
      by-sort Function e h =
          let seen : is_function kind ≡ true = covers-function kind (kind_seen s entry) wide ∙ function-seen e in
          absurd (never-function final (is_fixed entry.sort) kind initial.form initial.expressions seen (fits.1 kind (covers-itself kind)))
      by-sort sort e h = absurd (cc)

  -- its initialiser fits, and it may be defined
  pub defined-settles : (here name : ℕ) (initial : Initial) → AllSound known initial.expressions → Fitting (is_fixed entry.sort) kind known initial
      → Settles DeclaresWell s (object_defined u entry number here name kind initial)
  unfolding IsDefined
  defined-settles here name initial are fits =
      settles-keeps DeclaresWell s (may_define u number kind) 2 name _ (λ m. settles-keeps DeclaresWell s (is_complete u.known kind) 5 here _
      (λ whole.
      let agrees = (both-hold (are_compatible (unwrap_or (whole_kind number u.linked) kind) kind) (not (is_defined number u.linked)) m).0 in
      let made = defined (has_linkage entry.linkage) refl agrees in (
        made.0.sound,
        made.0.kept,
        λ final last.
            let before = made.1 final last in
            let end = declared-final s (behind (has_linkage entry.linkage)) number kind entry made.0 final last in
            let later = relater known (declared_here s entry).known.constants final (final-later u final inside before) in
            let one = fits final later in
            let parts = one.1 end.later.kind end.kind_later in
            let P : Option (List CType) → Type 0 = λ found. IfSome found (λ types. AllInitialise final (is_fixed end.later.sort) types initial.expressions) × IsSome found in
            let fixed = subst (λ sort. AllInitialise final (is_fixed sort) parts.0 initial.expressions) (sym end.sort) parts.2 in
            let all = subst P (sym parts.1) (fixed, refl) in (
              expressions-final u final inside before initial.expressions are,
              names-final final number (FitsEntry final (local_initialised number initial).declarator initial.expressions) end.later end.at (
                (λ yes. (ap is_object end.sort ∙ object-of final initial one, complete-final u final inside before end.later.kind kind end.kind_later whole)),
                (refl, all.0, all.1),
              ),
              one.0,
            ),
      )))

module _ (setting : Setting) (tokens : AreSoundTokens setting.source.tokens) where
  initialised-settles : (said : Specified) (s : Standing) (span : Span) (declarator : Declarator) (names : List Seen) (one : Initialiser) (kind : CType) → IsSoundStanding s
      → IsType s.known kind → IsInitialiser setting.source names one
      → Settles DeclaresWell s (item_initialised setting said s span declarator one (entry_of setting s.known said.storage (name_at declarator) kind))
  initialised-settles said s span declarator names one kind sound type is =
      let entry = entry_of setting s.known said.storage (name_at declarator) kind in
      let number = number_here s entry in
      let seen = kind_seen s entry in
      let whole = completed setting seen one in
      let here = (declarator_span declarator).first in
      let name = name_at declarator in
      let t = declared_here s entry in
      let fixed = is_fixed entry.sort in
      declarable-settles DeclaresWell said s s true here name entry (initialised setting t entry number span here name seen one)
      (λ a b c d.
      let entry-is = entry-fits setting s.known said.storage name kind a in
      let declared = declarator-declared s entry false sound entry-is type b in
      let type-seen : IsType t.known seen = subst (IsType t.known) declared.kind_now (declared.sound.known.entries number declared.now declared.at).1 in
      let type-whole = completed-type setting t.known seen one type-seen in
      either-settles DeclaresWell s (may_be_initialised t.known entry) _ _
      (λ may.
      settles-beyond (λ known initial. IsSoundInitial known initial × Fitting fixed whole known initial) DeclaresWell s t (typed_initialiser setting fixed t.known whole one) _ declared.sound declared.kept
      (both-more t.known IsSoundInitial (Fitting fixed whole) (typed_initialiser setting fixed t.known whole one)
      (initialiser-gives setting tokens fixed t.known names whole one is declared.sound.known type-whole.0)
      (initialiser-fits setting tokens fixed t.known names whole one is declared.sound.known type-whole.0))
      (λ known initial more fine inside kept.
      defined-settles s entry sound entry-is b (is_file_scope t.known.scopes || not (has_linkage entry.linkage)) may declared known more inside kept whole (completed-covers setting seen one) (completed-shut setting seen one) (type-stays t.known known more whole type-whole) here name initial
      fine.0 fine.1))
      (settles-stops DeclaresWell s t (expressions_alone setting t.known one) 9 span.first))

  -- ---- items

  with-settles : (s : Standing) (constants : List Tree) (item : Progress Local) → IsSoundStanding s → AreConstants s.known constants → Settles DeclaresWell s item
      → Settles LocalFits s (item_with constants item)
  with-settles s constants item sound are h =
      settles-further DeclaresWell LocalFits s item (λ behind local. goes_on behind (with_lengths constants local)) h
      (λ t local inside kept fits. (
        inside,
        keeps-itself t,
        (λ final last. (constants-final s final sound (keeps-final s t final kept last) constants are, fits final last)),
      ))

  pub item-settles : (said : Specified) (s : Standing) (names : List Seen) (is_type : Bool) (item : Item) → IsItem setting.source names is_type item → IsSoundStanding s
      → IsType s.known said.kind → Settles LocalFits s (typed_item setting said s item)
  unfolding IsItem
  item-settles said s names is_type (tree.plain span declarator) h sound base =
      settles-collecting IsType LocalFits s (typed_declarator setting s.known said.kind declarator) _ sound
      (declarator-typed setting tokens s.known names said.kind declarator h.1 sound.known base)
      (λ known kind more still type inside. with-settles (knowing s known) known.constants _ inside still.constants (plain-settles setting said (knowing s known) declarator kind inside type))
  item-settles said s names is_type (tree.initialised span declarator one) h sound base =
      settles-collecting IsType LocalFits s (typed_declarator setting s.known said.kind declarator) _ sound
      (declarator-typed setting tokens s.known names said.kind declarator h.1 sound.known base)
      (λ known kind more still type inside. with-settles (knowing s known) known.constants _ inside still.constants
      (initialised-settles said (knowing s known) span declarator _ one kind inside type h.5))

  -- items, one behind the other
  items-joined : (said : Specified) (s : Standing) (first : Item) (others : List Item) → Settles LocalFits s (typed_item setting said s first) → IsType s.known said.kind
      → ((t : Standing) → IsSoundStanding t → IsType t.known said.kind → Settles LocalsFit t (typed_items setting said t others))
      → Settles LocalsFit s (typed_items setting said s (first ∷ others))
  items-joined said s first others one base rest =
      settles-further LocalFits LocalsFit s (typed_item setting said s first) _ one
      (λ t made inside kept fits. settles-further LocalsFit LocalsFit t (typed_items setting said t others) (λ behind list. goes_on behind (made ∷ list))
      (rest t inside (base.0, λ at e. let below = base.1 at e in let longer = kept.structs in omega (arith, below, longer)))
      (λ u list still further all. (still, keeps-itself u, (λ final last. (fits final (keeps-final t u final further last), all final last)))))

  more-items-settle : (said : Specified) (s : Standing) (names : List Seen) (is_type : Bool) (at : ℕ) (items : List Item) → AreMoreItems setting.source names is_type at items → IsSoundStanding s
      → IsType s.known said.kind → Settles LocalsFit s (typed_items setting said s items)
  unfolding AreMoreItems
  more-items-settle said s names is_type at [] h sound base = (sound, keeps-itself s, (λ final last. tt))
  more-items-settle said s names is_type at (first ∷ others) h sound base =
      items-joined said s first others (item-settles said s _ is_type first h.2 sound base) base
      (λ t inside still. more-items-settle said t _ is_type _ others h.3 inside still)

  items-settle : (said : Specified) (s : Standing) (names : List Seen) (is_type : Bool) (at : ℕ) (items : List Item) → AreItems setting.source names is_type at items → IsSoundStanding s
      → IsType s.known said.kind → Settles LocalsFit s (typed_items setting said s items)
  unfolding AreItems
  items-settle said s names is_type at [] h sound base = (sound, keeps-itself s, (λ final last. tt))
  items-settle said s names is_type at (first ∷ others) h sound base =
      items-joined said s first others (item-settles said s _ is_type first h.1 sound base) base
      (λ t inside still. more-items-settle said t _ is_type _ others h.2 inside still)

  -- ---- declarations

  declared-settles : (s : Standing) (constants : List Tree) (said : Specified) (progress : Progress (List Local)) → IsSoundStanding s → AreConstants s.known constants → Settles LocalsFit s progress
      → Settles DeclarationFits s (further progress (λ behind locals. declared_by constants said behind locals))
  declared-settles s constants said progress sound are h =
      settles-further LocalsFit DeclarationFits s progress (λ behind locals. declared_by constants said behind locals) h
      (λ t locals inside kept all. settles-keeps DeclarationFits t (not said.inline || may_be_inline t.known locals) 3 said.first _
      (λ may. (
        inside,
        keeps-itself t,
        (λ final last.
            let mine = constants-final s final sound (keeps-final s t final kept last) constants are in
            let rest = locals-fit final locals (all final last) in (
              (All-append (IsWellTyped final) constants (constants_of locals) mine.0 rest.0.0, All-append (IsConstant final) constants (constants_of locals) mine.1 rest.0.1),
              rest.1,
              rest.2,
            )),
      )))

  pub declaration-settles : (s : Standing) (names : List Seen) (declaration : tree.Declaration) → IsDeclaration setting.source names declaration → IsSoundStanding s
      → Settles DeclarationFits s (typed_declaration setting s declaration)
  unfolding IsDeclaration
  declaration-settles s names (tree.declaring span specifiers items) h sound =
      settles-collecting IsSpecified DeclarationFits s (specified setting of_declaration (is_alone specifiers items) s.known specifiers) _ sound
      (specified-more setting tokens of_declaration (is_alone specifiers items) s.known names specifiers h.1 sound.known)
      (λ known said more still type inside. declared-settles (knowing s known) known.constants said (typed_items setting said (knowing s known) items) inside still.constants
      (items-settle said (knowing s known) _ _ _ items h.2 inside type))
