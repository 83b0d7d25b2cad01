-- What declarations declare has the numbers that the names give, and names in their initialisers mean what the typing says.
use Rattle.std.specs.Prelude.{◌≡◌, ℕ, zero, suc, ◌+◌, ◌<◌, max, Bool, true, false, ◌||◌, not, if◌then◌else◌, List, [], ◌∷◌, ◌++◌, length, drop, Option, Some, None, is_some, unwrap_or, option_and_then, slice_get, IsSome, refl}
use Rattle.std.specs.List.{AllByRecursion}
use Rattle.std.proofs.Common.{sym, ap, ◌∙◌, subst, arith, length-append}
use Rattle.std.proofs.lemmas.Option.{slice_get_within}
use Rattle.dm_token.specs.declared.place.Span.{Span}
use Rattle.dm_type.specs.CTypes.{CType}
use Rattle.dm_type.specs.TableLaws.{injected}
use Rattle.dm_scope.specs.Scopes.{number_of, is_declared, declared as put_in}
use Rattle.dm_syn.specs.Sources.{spelling_at}
use Rattle.dm_syn.specs.Spans.{expr_span, declarator_span}
use Rattle.dm_syn.specs.Scopes.{declarator_name}
use Rattle.dm_syn.specs.Trees.{Expr, Specifiers, Declarator, Initialiser, Initialisers, Item}
use Rattle.dm_syn.specs.Trees as tree
use Rattle.dm_tree.specs.Initialisers.{is_fixed}
use Rattle.dm_tree.specs.Scenes.{is_scalar, part_type}
use Rattle.dm_tree.specs.Trees.{Tree}
use Rattle.dm_tree.specs.Typing.{has_linkage}
use Rattle.dm_tree.specs.Units.{Declaration}
use Rattle.dm_typing.specs.Known.{Known, Outcome, given, broken, obeys}
use Rattle.dm_typing.specs.Conversions.{as_value, is_complete}
use Rattle.dm_typing.specs.Rules.{is_assignable}
use Rattle.dm_typing.specs.Specifiers.{nothing_said, Where, of_declaration}
use Rattle.dm_typing.specs.Typing.{typed, words_said, typed_said, steps_of}
use Rattle.dm_edecl.specs.Standing.{Linked, Standing, Progress, goes_on, stops, knowing, further, typing, collecting, keeps}
use Rattle.dm_edecl.specs.Linkages.{entry_of, is_called, number_linked, number_shared, meaning_here, may_be_declared, with_kind, known_kind, naming, number_before, named_here, declared_here, number_here, kind_seen}
use Rattle.dm_edecl.specs.Initialising.{Initial, Initials, single, is_static_value, has_value, scalar_initialised, is_string_for, initialised_by, First, zero_initialised, first_scalar, completed, expressions_alone, all_expressions_alone, misplaced, scalar_in_braces, is_zero_list, all_zero, if_part, typed_initialiser, typed_initialisers}
use Rattle.dm_edecl.specs.Declaring.{Specified, specified, is_alone, typed_declarator, name_at, is_misplaced_static, may_be_object, may_be_main, declarable, Local, may_be_initialised, may_define, object_defined, initialised, item_plain, item_initialised, item_with, typed_item, typed_items, Declared, declarators_of, constants_of, expressions_of, may_be_inline, typed_declaration}
use Rattle.dm_names.specs.declared.seen.Seen.{Seen}
use Rattle.dm_names.specs.Declarations.{numbers_of}
use Rattle.dm_names.specs.Scopes.{declared_in}
use Rattle.dm_names.specs.Seen.{Source, spelled, declaring_next, number_here as number_seen, naming as naming_seen, specifiers, declarator, initialiser, initialisers, named, item, items, is_alone as alone_seen, declaration}
use Rattle.dm_numbered.specs.Numbered.{is_hash}
use Rattle.dm_numbered.proofs.GrowthLemmas.{all-back, specifiers-grow, declarator-grows, initialiser-grows, initialisers-grow, naming-grows, items-grow}
use Rattle.dm_numbered.proofs.ScopeLemmas.{AreAlike, declares-name, under-wider, under-declared}
use Rattle.dm_numbered.proofs.StateLemmas.{Frame, source_in, spelled-is, Good, In}
use Rattle.dm_numbered.proofs.NumberLemmas.{left-one}
use Rattle.dm_numbered.proofs.FormLemmas.{Each, EachOf, Yields, Any, after-yields, with-yields, obeys-yields, if-yields, value-each, type-each}
use Rattle.dm_numbered.proofs.ExpressionLemmas.{each-append, Keeps, same-good, expr-yields, words-keep, said-keeps, declarator-keeps, derived-keeps}

-- ---- entries

kinds-length : (n : ℕ) (kind : CType) (entries : List Declaration) → length (with_kind n kind entries) ≡ length entries
kinds-length n kind [] = refl
kinds-length zero kind (entry ∷ others) = refl
kinds-length (suc n) kind (entry ∷ others) = ap suc (kinds-length n kind others)

called-there : (name : List ℕ) (entries : List Declaration) (n : ℕ) (found : Option Declaration) → slice_get entries n ≡ found → is_called name found ≡ true → n < length entries
called-there name entries n None e h = absurd (cc)
called-there name entries n (Some entry) e h = slice_get_within entries n entry e

linked-by : (name : List ℕ) (entries : List Declaration) (m n : ℕ) (test : Bool) (others : Option ℕ) → is_called name (slice_get entries m) ≡ test → (others ≡ Some n → n < length entries)
    → (if test then Some m else others) ≡ Some n → n < length entries
linked-by name entries m n true others t h e = subst (λ k. k < length entries) (injected m n e) (called-there name entries m (slice_get entries m) refl t)
linked-by name entries m n false others t h e = h e

linked-there : (name : List ℕ) (entries : List Declaration) (linked : List Linked) (n : ℕ) → number_linked name entries linked ≡ Some n → n < length entries
linked-there name entries [] n e = absurd (cc)
linked-there name entries (one ∷ others) n e =
    linked-by name entries one.number n (is_called name (slice_get entries one.number)) (number_linked name entries others) refl (linked-there name entries others n) e

met-there : (entries : List Declaration) (n : ℕ) (test : Bool) (found : Option ℕ) → found ≡ Some n → is_some (if test then option_and_then (slice_get entries) found else None) ≡ true → n < length entries
met-there entries n true found e h = by (slice_get entries n) refl (subst (λ number. is_some (option_and_then (slice_get entries) number) ≡ true) e h)
  where
    by : (other : Option Declaration) → slice_get entries n ≡ other → is_some other ≡ true → n < length entries
    by (Some entry) s k = slice_get_within entries n entry s
    by None s k = absurd (cc)
met-there entries n false found e h = absurd (cc)

-- the number of an earlier declaration is that of an entry
before-there : (s : Standing) (entry : Declaration) (n : ℕ) → number_before s entry ≡ Some n → n < length s.known.declared
before-there s entry n e = by (has_linkage entry.linkage) e
  where
    met : (test : Bool) → is_some (meaning_here s.known entry.name) ≡ test → (if test then number_of s.known.scopes entry.name else None) ≡ Some n → n < length s.known.declared
    met true t k = met-there s.known.declared n (is_declared s.known.scopes entry.name) (number_of s.known.scopes entry.name) k t
    met false t k = absurd (cc)

    by : (test : Bool) → (if test then number_shared s entry.name else if is_some (meaning_here s.known entry.name) then number_of s.known.scopes entry.name else None) ≡ Some n → n < length s.known.declared
    by true k = linked-there entry.name s.known.declared s.linked n k
    by false k = met (is_some (meaning_here s.known entry.name)) refl k

-- ---- declarators with names

abbrev pub shape_of : Item → Declarator
shape_of (tree.plain span shape) = shape
shape_of (tree.initialised span shape one) = shape

abbrev pub AreNamed : List Item → Type 0
AreNamed all = AllByRecursion (λ (one : Item). IsSome (declarator_name (shape_of one))) all

abbrev pub IsNamedDeclaration : tree.Declaration → Type 0
IsNamedDeclaration (tree.declaring span these all) = AreNamed all

-- the two definitions ask the same of a declaration of one specifier alone
alone-same : (these : Specifiers) (all : List Item) → is_alone these all ≡ alone_seen these all
alone-same (tree.listed span tree.no_words) [] = refl
alone-same (tree.listed span (tree.more_words first tree.no_words)) [] = refl
alone-same (tree.listed span (tree.more_words first (tree.more_words second others))) [] = refl
alone-same (tree.listed span words) (first ∷ others) = refl

module _ (c : Frame) where
  abbrev pub source : Source
  source = source_in c

  -- these numbers of declarators are left
  abbrev pub Left : Seen → List ℕ → Type 0
  Left seen numbers = drop seen.declarators c.numbers ≡ numbers

  pub left-same : (seen last : Seen) (numbers : List ℕ) → last.declarators ≡ seen.declarators → Left seen numbers → Left last numbers
  left-same seen last numbers e h = ap (λ d. drop d c.numbers) e ∙ h

  -- ---- what a declarator declares

  kind-good : (known : Known) (seen : Seen) (number : ℕ) (kind : CType) → Good c known seen → Good c (known_kind number kind known) seen
  kind-good known seen number kind good = record {
    alike = good.alike;
    entries = good.entries ∙ sym (kinds-length number kind known.declared);
    under = good.under;
    constants = good.constants;
  }

  module _ (known : Known) (seen : Seen) (at : ℕ) (kind : CType) (entry : Declaration) (called : entry.name ≡ spelling_at c.setting.source at) (good : Good c known seen) where
    next-alike : (n : ℕ) → In c (declaring_next source at n seen) → AreAlike (put_in known.scopes entry.name n) (declaring_next source at n seen).scopes
    next-alike n within =
        subst (λ name. AreAlike (put_in known.scopes entry.name n) (declared_in false name n seen.scopes)) (called ∙ sym (spelled-is c at))
        (declares-name known.scopes seen.scopes entry.name n n good.alike (subst (λ name. is_hash name ≡ false) (sym called) (c.plain _ (all-back c.Told seen.identifiers (_ ∷ []) within).0 refl)) refl)

    next-good : (found : Option ℕ) → ((n : ℕ) → found ≡ Some n → n < length known.declared) → In c (declaring_next source at (unwrap_or found (length known.declared)) seen)
        → Good c (naming known kind entry found) (declaring_next source at (unwrap_or found (length known.declared)) seen)
    next-good (Some n) there within =
        let low = there n refl in
        let count = good.entries in record {
          alike = next-alike n within;
          entries = let same : max seen.entries (n + 1) ≡ seen.entries = omega (arith, low, count) in same ∙ good.entries ∙ sym (kinds-length n kind known.declared);
          under = under-declared (max seen.entries (n + 1)) false (spelled source at) n seen.scopes (omega arith) (under-wider seen.entries (max seen.entries (n + 1)) seen.scopes (omega arith) good.under);
          constants = good.constants;
        }
    next-good None there within =
        let n = length known.declared in
        let count = good.entries in record {
          alike = next-alike n within;
          entries = let same : max seen.entries (n + 1) ≡ n + 1 = omega (arith, count) in same ∙ sym (length-append known.declared (entry ∷ []));
          under = under-declared (max seen.entries (n + 1)) false (spelled source at) n seen.scopes (omega arith) (under-wider seen.entries (max seen.entries (n + 1)) seen.scopes (omega arith) good.under);
          constants = good.constants;
        }

  -- the declarator at which the number is left
  pub named-good : (s : Standing) (seen : Seen) (name : Option ℕ) (here : ℕ) (entry : Declaration) (rest : List ℕ) → IsSome name → entry.name ≡ spelling_at c.setting.source (unwrap_or name here)
      → In c (naming_seen source name seen) → Good c s.known seen → Left seen (number_here s entry ∷ rest)
      → Good c (named_here s entry) (naming_seen source name seen) × Left (naming_seen source name seen) rest
  named-good s seen None here entry rest some called within good left = absurd (cc)
  named-good s seen (Some at) here entry rest some called within good left =
      let one = left-one c.numbers seen.declarators (number_here s entry) rest left in
      let is : number_seen source seen ≡ number_here s entry = ap (λ found. unwrap_or found seen.entries) one.0 in (
        subst (λ n. Good c (named_here s entry) (declaring_next source at n seen)) (sym is)
            (next-good s.known seen at (kind_seen s entry) entry called good (number_before s entry) (before-there s entry)
            (subst (λ n. In c (declaring_next source at n seen)) is within)),
        let next : seen.declarators + 1 ≡ suc seen.declarators = omega arith in ap (λ d. drop d c.numbers) next ∙ one.1,
      )

  -- ---- progress

  -- what is typed is so
  abbrev pub Comes : {A : Type 0} → (Standing → A → Type 0) → Progress A → Type 0
  Comes Q (goes_on behind it) = Q behind it
  Comes Q (stops rule at) = Unit {0}

  pub further-comes : {A B : Type 0} (Q : Standing → A → Type 0) (R : Standing → B → Type 0) (one : Progress A) (next : Standing → A → Progress B) → Comes Q one
      → ((behind : Standing) (it : A) → Q behind it → Comes R (next behind it)) → Comes R (further one next)
  further-comes Q R (goes_on behind it) next h step = step behind it h
  further-comes Q R (stops rule at) next h step = tt

  pub typing-comes : {A B : Type 0} (seen mid : Seen) (Q : A → Type 0) (R : Standing → B → Type 0) (s : Standing) (one : Outcome A) (next : Standing → A → Progress B)
      → (Good c s.known seen → Yields c mid Q one)
      → ((behind : Standing) (it : A) → (Good c s.known seen → Good c behind.known mid × Q it) → Comes R (next behind it)) → Comes R (typing s one next)
  typing-comes seen mid Q R s (given known it) next h step =
      step (knowing s known) it (λ good. let both = h good in (same-good c known known.types known.begun s.known.constants mid both.0 good.constants, both.1))
  typing-comes seen mid Q R s (broken rule at) next h step = tt

  pub collecting-comes : {A B : Type 0} (seen mid : Seen) (Q : A → Type 0) (R : Standing → B → Type 0) (s : Standing) (one : Outcome A) (next : Standing → List Tree → A → Progress B)
      → (Good c s.known seen → Yields c mid Q one)
      → ((behind : Standing) (constants : List Tree) (it : A) → (Good c s.known seen → Good c behind.known mid × EachOf c constants × Q it) → Comes R (next behind constants it))
      → Comes R (collecting s one next)
  collecting-comes seen mid Q R s (given known it) next h step =
      step (knowing s known) known.constants it
      (λ good. let both = h good in (same-good c known known.types known.begun s.known.constants mid both.0 good.constants, both.0.constants, both.1))
  collecting-comes seen mid Q R s (broken rule at) next h step = tt

  pub keeps-comes : {A : Type 0} (Q : Standing → A → Type 0) (test : Bool) (rule at : ℕ) (next : Progress A) → Comes Q next → Comes Q (keeps test rule at next)
  keeps-comes Q true rule at next h = h
  keeps-comes Q false rule at next h = tt

  -- What is typed from a place on: where all is well there, and these numbers of declarators are left with its own first, all is well behind it.
  abbrev pub Fits : {A : Type 0} → Known → Seen → Seen → (A → List ℕ → List ℕ) → (A → Type 0) → Standing → A → Type 0
  Fits known seen last numbers E behind it = (rest : List ℕ) → Good c known seen → Left seen (numbers it rest) → Good c behind.known last × Left last rest × E it

  -- ---- initialisers (6.7.9)

  abbrev EachInitial : Initial → Type 0
  EachInitial it = EachOf c it.expressions

  abbrev EachInitials : Initials → Type 0
  EachInitials it = EachOf c it.expressions

  scalar-yields : (known : Known) (seen : Seen) (fixed : Bool) (type : CType) (here : ℕ) (value : Tree) → Good c known seen → Each c value → Yields c seen EachInitial (scalar_initialised known fixed type here value)
  scalar-yields known seen fixed type here value good h =
      obeys-yields c seen EachInitial (not fixed || is_static_value known value) 8 here _
      (obeys-yields c seen EachInitial (is_assignable known value type) 28 here _
      (obeys-yields c seen EachInitial (not fixed || has_value known value) 30 here _ (good, (type-each c type value h, tt))))

  by-yields : (known : Known) (seen : Seen) (fixed : Bool) (type : CType) (here : ℕ) (expr : Expr) (value : Tree) → Good c known seen → Each c value
      → Yields c seen EachInitial (initialised_by c.setting known fixed type here expr value)
  by-yields known seen fixed type here expr value good h = by (is_scalar type)
    where
      by : (b : Bool) → Yields c seen EachInitial (if b then scalar_initialised known fixed type here (as_value value)
          else obeys (is_string_for c.setting expr type) 8 here (given known (single value)))
      by true = scalar-yields known seen fixed type here (as_value value) good (value-each c value h)
      by false = obeys-yields c seen EachInitial (is_string_for c.setting expr type) 8 here _ (good, (h, tt))

  zero-yields : (known : Known) (seen : Seen) (fixed : Bool) (first : First) (here : ℕ) (value : Tree) → Good c known seen → Each c value → Yields c seen EachInitial (zero_initialised known fixed first here value)
  zero-yields known seen fixed first here value good h =
      after-yields c seen seen EachInitial EachInitial (scalar_initialised known fixed first.kind here value) _ (scalar-yields known seen fixed first.kind here value good h) (λ behind initial still each. (still, each))

  mutual
    unfolding expressions_alone all_expressions_alone initialiser initialisers

    alone-yields : (known : Known) (one : Initialiser) (seen : Seen) → In c (initialiser source seen one) → Good c known seen → Yields c (initialiser source seen one) (EachOf c) (expressions_alone c.setting known one)
    alone-yields known (tree.value span expr) seen within good =
        let last = initialiser source seen (tree.value span expr) in
        after-yields c last last (Each c) (EachOf c) (typed c.setting true known expr) _ (expr-yields c true known (expr_span expr) expr seen within good)
        (λ behind made still one. (still, (value-each c made one, tt)))
    alone-yields known (tree.braces span all trailing) seen within good = all-alone-yields known all seen within good

    all-alone-yields : (known : Known) (all : Initialisers) (seen : Seen) → In c (initialisers source seen all) → Good c known seen
        → Yields c (initialisers source seen all) (EachOf c) (all_expressions_alone c.setting known all)
    all-alone-yields known tree.no_initialisers seen within good = (good, tt)
    all-alone-yields known (tree.more_initialisers first others) seen within good =
        let mid = initialiser source seen first in let last = initialisers source mid others in
        after-yields c mid last (EachOf c) (EachOf c) (expressions_alone c.setting known first) _ (alone-yields known first seen ((initialisers-grow c.Told source mid others).told within) good)
        (λ then_known made now one. after-yields c last last (EachOf c) (EachOf c) (all_expressions_alone c.setting then_known others) _ (all-alone-yields then_known others mid within now)
        (λ behind more still each. (still, each-append c made more one each)))

  misplaced-yields : (known : Known) (span : Span) (all : Initialisers) (seen last : Seen) → In c (initialisers source seen all) → Good c known seen → Yields c last EachInitial (misplaced c.setting known span all)
  misplaced-yields known span all seen last within good =
      after-yields c (initialisers source seen all) last (EachOf c) EachInitial (all_expressions_alone c.setting known all) _ (all-alone-yields known all seen within good) (λ behind trees still each. tt)

  module _ (fixed : Bool) (known : Known) (type : CType) (span : Span) (seen : Seen) (good : Good c known seen) where
    misplaced-in : (all : Initialisers) → In c (initialisers source seen all) → Yields c (initialisers source seen all) EachInitial (misplaced c.setting known span all)
    misplaced-in all within = misplaced-yields known span all seen (initialisers source seen all) within good

    braced-yields : (all : Initialisers) → In c (initialisers source seen all) → Yields c (initialisers source seen all) EachInitial (scalar_in_braces c.setting fixed known type span all)
    unfolding initialiser initialisers
    braced-yields (tree.more_initialisers (tree.value here expr) tree.no_initialisers) within =
        let last = initialisers source seen (tree.more_initialisers (tree.value here expr) tree.no_initialisers) in
        after-yields c last last (Each c) EachInitial (typed c.setting true known expr) _ (expr-yields c true known (expr_span expr) expr seen within good)
        (λ behind made still one. scalar-yields behind last fixed type here.first (as_value made) still (value-each c made one))
    braced-yields tree.no_initialisers within = misplaced-in tree.no_initialisers within
    braced-yields (tree.more_initialisers (tree.braces here items trailing) others) within = misplaced-in (tree.more_initialisers (tree.braces here items trailing) others) within
    braced-yields (tree.more_initialisers (tree.value here expr) (tree.more_initialisers second others)) within =
        misplaced-in (tree.more_initialisers (tree.value here expr) (tree.more_initialisers second others)) within

    zero-list-yields : (all : Initialisers) → In c (initialisers source seen all) → Yields c (initialisers source seen all) EachInitial (all_zero c.setting fixed known type span all)
    unfolding initialiser initialisers
    zero-list-yields (tree.more_initialisers (tree.value here expr) tree.no_initialisers) within =
        let last = initialisers source seen (tree.more_initialisers (tree.value here expr) tree.no_initialisers) in
        after-yields c last last (Each c) EachInitial (typed c.setting true known expr) _ (expr-yields c true known (expr_span expr) expr seen within good)
        (λ behind made still one. if-yields c last EachInitial (first_scalar known.types type) 8 span.first _ (λ first e. zero-yields behind last fixed first here.first (as_value made) still (value-each c made one)))
    zero-list-yields tree.no_initialisers within = misplaced-in tree.no_initialisers within
    zero-list-yields (tree.more_initialisers (tree.braces here items trailing) others) within = misplaced-in (tree.more_initialisers (tree.braces here items trailing) others) within
    zero-list-yields (tree.more_initialisers (tree.value here expr) (tree.more_initialisers second others)) within =
        misplaced-in (tree.more_initialisers (tree.value here expr) (tree.more_initialisers second others)) within

  part-yields : (seen : Seen) (part : Option CType) (surplus : Outcome Initial) (typed_part : CType → Outcome Initial) → Yields c seen EachInitial surplus → ((type : CType) → Yields c seen EachInitial (typed_part type))
      → Yields c seen EachInitial (if_part part surplus typed_part)
  part-yields seen None surplus typed_part h k = h
  part-yields seen (Some type) surplus typed_part h k = k type

  mutual
    unfolding typed_initialiser typed_initialisers initialiser initialisers

    pub initialiser-yields : (fixed : Bool) (known : Known) (type : CType) (one : Initialiser) (seen : Seen) → In c (initialiser source seen one) → Good c known seen
        → Yields c (initialiser source seen one) EachInitial (typed_initialiser c.setting fixed known type one)
    initialiser-yields fixed known type (tree.value span expr) seen within good =
        let last = initialiser source seen (tree.value span expr) in
        after-yields c last last (Each c) EachInitial (typed c.setting true known expr) _ (expr-yields c true known (expr_span expr) expr seen within good)
        (λ behind made still one. by-yields behind last fixed type span.first expr made still one)
    initialiser-yields fixed known type (tree.braces span all trailing) seen within good =
        let last = initialisers source seen all in
        either (is_scalar type) _ _ (braced-yields fixed known type span seen good all within)
        (either (is_zero_list c.setting all trailing) _ _ (zero-list-yields fixed known type span seen good all within)
        (after-yields c last last EachInitials EachInitial (typed_initialisers c.setting fixed known type span 0 all) _ (initialisers-yield fixed known type span 0 all seen within good) (λ behind made still each. (still, each))))
      where
        either : (b : Bool) (one other : Outcome Initial) → Yields c (initialisers source seen all) EachInitial one → Yields c (initialisers source seen all) EachInitial other
            → Yields c (initialisers source seen all) EachInitial (if b then one else other)
        either true one other h k = h
        either false one other h k = k

    initialisers-yield : (fixed : Bool) (known : Known) (type : CType) (span : Span) (n : ℕ) (all : Initialisers) (seen : Seen) → In c (initialisers source seen all) → Good c known seen
        → Yields c (initialisers source seen all) EachInitials (typed_initialisers c.setting fixed known type span n all)
    initialisers-yield fixed known type span n tree.no_initialisers seen within good = (good, tt)
    initialisers-yield fixed known type span n (tree.more_initialisers first others) seen within good =
        let mid = initialiser source seen first in let last = initialisers source mid others in
        after-yields c mid last EachInitial EachInitials _ _
        (part-yields mid (part_type known.types type n) (misplaced c.setting known span (tree.more_initialisers first others)) (λ part. typed_initialiser c.setting fixed known part first)
        (misplaced-yields known span (tree.more_initialisers first others) seen mid within good)
        (λ part. initialiser-yields fixed known part first seen ((initialisers-grow c.Told source mid others).told within) good))
        (λ then_known made now one. after-yields c last last EachInitials EachInitials (typed_initialisers c.setting fixed then_known type span (n + 1) others) _
        (initialisers-yield fixed then_known type span (n + 1) others mid within now)
        (λ behind more still each. (still, each-append c made.expressions more.expressions one each)))

  -- ---- declarations (6.7)

  pub specified-keeps : (stands : Where) (alone : Bool) (known : Known) (these : Specifiers) (seen : Seen) → In c (specifiers source alone seen these) → Good c known seen
      → Keeps c (specifiers source alone seen these) (specified c.setting stands alone known these)
  unfolding specifiers
  specified-keeps stands alone known (tree.listed span words) seen within good =
      let last = specifiers source alone seen (tree.listed span words) in
      after-yields c last last (Any c) (Any c) (words_said c.setting true alone known nothing_said words) _ (words-keep c true alone known nothing_said words seen within good)
      (λ then_known said now any. with-yields c last (Any c) (Any c) (typed_said then_known stands span.first said) _ (said-keeps c then_known last stands span.first said now) (λ behind kind any. tt))

  pub typed-declarator-keeps : (known : Known) (base : CType) (shape : Declarator) (seen : Seen) → In c (declarator source seen shape) → Good c known seen
      → Keeps c (declarator source seen shape) (typed_declarator c.setting known base shape)
  typed-declarator-keeps known base shape seen within good =
      let last = declarator source seen shape in
      after-yields c last last (Any c) (Any c) (steps_of c.setting true known shape) _ (declarator-keeps c true known shape seen within good) (λ behind steps still any. derived-keeps c behind last base steps still)

  pub declarable-comes : {A : Type 0} (Q : Standing → A → Type 0) (said : Specified) (s : Standing) (with_value : Bool) (here name : ℕ) (entry : Declaration) (next : Progress A) → Comes Q next
      → Comes Q (declarable said s with_value here name entry next)
  declarable-comes Q said s with_value here name entry next h =
      keeps-comes Q (may_be_declared s entry) 2 name _
      (keeps-comes Q (not (is_misplaced_static s.known said.storage entry.sort)) 3 said.first _
      (keeps-comes Q (may_be_object s.known said.storage with_value entry.sort (kind_seen s entry)) 5 here _ (keeps-comes Q (may_be_main s.known entry) 36 name _ h)))

  abbrev EachLocal : Local → Type 0
  EachLocal it = EachOf c it.constants × EachOf c it.expressions

  abbrev number_then : Local → List ℕ → List ℕ
  number_then it rest = it.declarator.declared ∷ rest

  -- an object that is initialised keeps its number
  abbrev IsSet : Known → Seen → Seen → ℕ → Standing → Local → Type 0
  IsSet known seen last number behind it = (it.declarator.declared ≡ number) × (Good c known seen → Good c behind.known last × EachLocal it)

  object-comes : (known : Known) (seen last : Seen) (s : Standing) (entry : Declaration) (number here name : ℕ) (kind : CType) (initial : Initial)
      → (Good c known seen → Good c s.known last × EachInitial initial) → Comes (IsSet known seen last number) (object_defined s entry number here name kind initial)
  object-comes known seen last s entry number here name kind initial h =
      keeps-comes (IsSet known seen last number) (may_define s number kind) 2 name _
      (keeps-comes (IsSet known seen last number) (is_complete s.known kind) 5 here _
      (refl, λ good. let both = h good in (kind-good s.known last number kind both.0, (tt, both.1))))

  set-comes : (s : Standing) (entry : Declaration) (number : ℕ) (span : Span) (here name : ℕ) (kind : CType) (one : Initialiser) (seen : Seen) → In c (initialiser source seen one)
      → Comes (IsSet s.known seen (initialiser source seen one) number) (initialised c.setting s entry number span here name kind one)
  set-comes s entry number span here name kind one seen within = by (may_be_initialised s.known entry)
    where
      by : (b : Bool) → Comes (IsSet s.known seen (initialiser source seen one) number) (if b
          then typing s (typed_initialiser c.setting (is_fixed entry.sort) s.known (completed c.setting kind one) one)
          (λ behind initial. object_defined behind entry number here name (completed c.setting kind one) initial)
          else typing s (expressions_alone c.setting s.known one) (λ behind trees. stops 9 span.first))
      by true =
          typing-comes seen (initialiser source seen one) EachInitial (IsSet s.known seen (initialiser source seen one) number) s _ _
          (initialiser-yields (is_fixed entry.sort) s.known (completed c.setting kind one) one seen within)
          (λ behind initial h. object-comes s.known seen (initialiser source seen one) behind entry number here name (completed c.setting kind one) initial h)
      by false =
          typing-comes seen (initialiser source seen one) (EachOf c) (IsSet s.known seen (initialiser source seen one) number) s _ _ (alone-yields s.known one seen within) (λ behind trees h. tt)

  -- with the trees of the declarator's lengths
  with-lengths-comes : (known then_known : Known) (seen mid last : Seen) (constants : List Tree) (local : Progress Local) → mid.declarators ≡ seen.declarators
      → (Good c known seen → Good c then_known mid × EachOf c constants × Unit {0}) → Comes (Fits then_known mid last number_then EachLocal) local → Comes (Fits known seen last number_then EachLocal) (item_with constants local)
  with-lengths-comes known then_known seen mid last constants local same h g =
      further-comes (Fits then_known mid last number_then EachLocal) (Fits known seen last number_then EachLocal) local _ g
      (λ behind one fits rest good left. let now = h good in let then_fits = fits rest now.0 (left-same seen mid (number_then one rest) same left) in (then_fits.0, then_fits.1, (now.1, then_fits.2.1)))

  item-comes : (said : Specified) (s : Standing) (one : Item) (seen : Seen) → IsSome (declarator_name (shape_of one)) → In c (item source seen one)
      → Comes (Fits s.known seen (item source seen one) number_then EachLocal) (typed_item c.setting said s one)
  item-comes said s (tree.plain span shape) seen some within =
      let mid = declarator source seen shape in let last = named source seen shape in
      collecting-comes seen mid (Any c) (Fits s.known seen last number_then EachLocal) s (typed_declarator c.setting s.known said.kind shape) _
      (typed-declarator-keeps s.known said.kind shape seen ((naming-grows c.Told source (declarator_name shape) mid).told within))
      (λ behind constants kind h. let entry = entry_of c.setting behind.known said.storage (name_at shape) kind in
      with-lengths-comes s.known behind.known seen mid last constants (item_plain c.setting said behind shape entry) ((declarator-grows c.Told source seen shape).declarators refl) h
      (declarable-comes (Fits behind.known mid last number_then EachLocal) said behind false (declarator_span shape).first (name_at shape) entry _
      (λ rest good left. let fits = named-good behind mid (declarator_name shape) (declarator_span shape).first entry rest some refl within good left in (fits.0, fits.1, (tt, tt)))))
  item-comes said s (tree.initialised span shape one) seen some within =
      let mid = declarator source seen shape in let next = named source seen shape in let last = initialiser source next one in
      let inside = (initialiser-grows c.Told source next one).told within in
      collecting-comes seen mid (Any c) (Fits s.known seen last number_then EachLocal) s (typed_declarator c.setting s.known said.kind shape) _
      (typed-declarator-keeps s.known said.kind shape seen ((naming-grows c.Told source (declarator_name shape) mid).told inside))
      (λ behind constants kind h. let entry = entry_of c.setting behind.known said.storage (name_at shape) kind in
      with-lengths-comes s.known behind.known seen mid last constants (item_initialised c.setting said behind span shape one entry) ((declarator-grows c.Told source seen shape).declarators refl) h
      (declarable-comes (Fits behind.known mid last number_then EachLocal) said behind true (declarator_span shape).first (name_at shape) entry _
      (so behind entry mid next last kind _ (λ rest good left. named-good behind mid (declarator_name shape) (declarator_span shape).first entry rest some refl inside good left)
      ((initialiser-grows c.Told source next one).declarators refl)
      (set-comes (declared_here behind entry) entry (number_here behind entry) span (declarator_span shape).first (name_at shape) (kind_seen behind entry) one next within))))
    where
      so : (behind : Standing) (entry : Declaration) (mid next last : Seen) (kind : CType) (local : Progress Local)
          → ((rest : List ℕ) → Good c behind.known mid → Left mid (number_here behind entry ∷ rest) → Good c (named_here behind entry) next × Left next rest)
          → last.declarators ≡ next.declarators
          → Comes (IsSet (named_here behind entry) next last (number_here behind entry)) local → Comes (Fits behind.known mid last number_then EachLocal) local
      so behind entry mid next last kind (goes_on other it) fits same set =
          λ rest good left.
          let now = fits rest good (subst (λ n. Left mid (n ∷ rest)) set.0 left) in
          let then_set = set.1 now.0 in
          (then_set.0, left-same next last rest same now.1, then_set.1)
      so behind entry mid next last kind (stops rule at) fits same set = tt

  abbrev EachLocals : List Local → Type 0
  EachLocals locals = EachOf c (constants_of locals) × EachOf c (expressions_of locals)

  abbrev locals_then : List Local → List ℕ → List ℕ
  locals_then locals rest = numbers_of (declarators_of locals) ++ rest

  items-come : (said : Specified) (s : Standing) (all : List Item) (seen : Seen) → AreNamed all → In c (items source seen all)
      → Comes (Fits s.known seen (items source seen all) locals_then EachLocals) (typed_items c.setting said s all)
  items-come said s [] seen some within = λ rest good left. (good, left, (tt, tt))
  items-come said s (first ∷ others) seen some within =
      let mid = item source seen first in let last = items source mid others in
      further-comes (Fits s.known seen mid number_then EachLocal) (Fits s.known seen last locals_then EachLocals) (typed_item c.setting said s first) _
      (item-comes said s first seen some.0 ((items-grow c.Told source mid others).told within))
      (λ then_standing made one. further-comes (Fits then_standing.known mid last locals_then EachLocals) (Fits s.known seen last locals_then EachLocals) (typed_items c.setting said then_standing others) _
      (items-come said then_standing others mid some.1 within)
      (λ behind more fits rest good left.
      let now = one (locals_then more rest) good left in
      let then_fits = fits rest now.0 now.1 in
      (then_fits.0, then_fits.1, (each-append c made.constants (constants_of more) now.2.0 then_fits.2.0, each-append c made.expressions (expressions_of more) now.2.1 then_fits.2.1))))

  abbrev pub EachDeclared : Declared → Type 0
  EachDeclared it = EachOf c it.constants × EachOf c (expressions_of it.locals)

  abbrev pub declared_then : Declared → List ℕ → List ℕ
  declared_then it rest = numbers_of (declarators_of it.locals) ++ rest

  pub declaration-comes : (s : Standing) (one : tree.Declaration) (seen : Seen) → IsNamedDeclaration one → In c (declaration source seen one)
      → Comes (Fits s.known seen (declaration source seen one) declared_then EachDeclared) (typed_declaration c.setting s one)
  declaration-comes s (tree.declaring span these all) seen some within =
      let mid = specifiers source (alone_seen these all) seen these in let last = items source mid all in
      let told = (items-grow c.Told source mid all).told within in
      collecting-comes seen mid (Any c) (Fits s.known seen last declared_then EachDeclared) s _ _
      (subst (λ alone. Good c s.known seen → Keeps c mid (specified c.setting of_declaration alone s.known these)) (sym (alone-same these all))
      (specified-keeps of_declaration (alone_seen these all) s.known these seen told))
      (λ then_standing constants said h. further-comes (Fits then_standing.known mid last locals_then EachLocals) (Fits s.known seen last declared_then EachDeclared) (typed_items c.setting said then_standing all) _
      (items-come said then_standing all mid some within)
      (λ behind locals fits. keeps-comes (Fits s.known seen last declared_then EachDeclared) (not said.inline || may_be_inline behind.known locals) 3 said.first _
      (λ rest good left.
      let now = h good in
      let then_fits = fits rest now.0 (left-same seen mid (locals_then locals rest) ((specifiers-grow c.Told source (alone_seen these all) seen these).declarators refl) left) in
      (then_fits.0, then_fits.1, (each-append c constants (constants_of locals) now.1 then_fits.2.0, then_fits.2.1)))))
