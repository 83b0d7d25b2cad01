-- Where a rule of a declaration is broken: at a token of its own.
use Rattle.std.specs.Prelude.{◌≡◌, ℕ, ◌+◌, ◌<◌, ◌≤◌, Bool, true, false, ◌||◌, not, if◌then◌else◌, List, [], ◌∷◌, ◌++◌, Option, Some, None, IsSome, unwrap_or, refl}
use Rattle.std.proofs.Common.{sym, subst, arith}
use Rattle.dm_token.specs.declared.place.Span.{Span}
use Rattle.dm_type.specs.CTypes.{CType}
use Rattle.dm_syn.specs.declared.declared.Declared.{Declared}
use Rattle.dm_syn.specs.Spans.{expr_span, specifiers_span, declarator_span, initialiser_span, initialisers_after, item_span, items_after, declaration_span}
use Rattle.dm_syn.specs.Scopes.{declarator_name, item_declares}
use Rattle.dm_syn.specs.Grammar.{IsSpecifiers}
use Rattle.dm_syn.specs.Statements.{IsInitialiser, AreMoreInitialisers, IsItem, AreMoreItems, AreItems, IsDeclaration}
use Rattle.dm_syn.specs.Trees.{Expr, Specifiers, Declarator, Initialiser, Initialisers, Item}
use Rattle.dm_syn.specs.Trees as tree
use Rattle.dm_tree.specs.Initialisers.{is_fixed}
use Rattle.dm_tree.specs.Trees.{Tree}
use Rattle.dm_tree.specs.Scenes.{is_scalar, part_type}
use Rattle.dm_tree.specs.Units.{Declaration}
use Rattle.dm_typing.specs.Known.{Known, Setting, Outcome, given, broken, after, with_it, obeys}
use Rattle.dm_typing.specs.Conversions.{as_value, as_type, is_complete}
use Rattle.dm_typing.specs.Rules.{is_assignable}
use Rattle.dm_typing.specs.Specifiers.{Said, nothing_said, Where, of_declaration}
use Rattle.dm_typing.specs.Sound.{StepsWithin}
use Rattle.dm_typing.specs.Typing.{words_said, typed_said, typed_specifiers, steps_of, derived, typed}
use Rattle.dm_typing.proofs.GrowthLemmas.{some-of}
use Rattle.dm_typing.proofs.PlaceLemmas.{Places, Plain, wider, after-places, obeys-places, if-places, derived-places}
use Rattle.dm_typing.proofs.WholePlaceLemmas.{PlacedDeclarator, trailing-on, expr-placed, specifiers-placed, declarator-placed}
use Rattle.dm_edecl.specs.Standing.{Standing, Progress, goes_on, stops, further, knowing, typing, collecting, keeps, closed}
use Rattle.dm_edecl.specs.Linkages.{entry_of, may_be_declared, declared_here, number_here, kind_seen, object_here}
use Rattle.dm_edecl.specs.Initialising.{Initial, single, is_static_value, has_value, scalar_initialised, is_string_for, initialised_by, First, first_scalar, zero_initialised, braced, completed, expressions_alone, all_expressions_alone, misplaced, scalar_in_braces, is_zero_list, all_zero, if_part, typed_initialiser, typed_initialisers, enclosed}
use Rattle.dm_edecl.specs.Declaring.{Specified, specified_by, specified, is_alone, typed_declarator, name_at, is_misplaced_static, may_be_object, may_be_main, declarable, Local, local_initialised, with_lengths, may_be_initialised, may_define, object_defined, initialised, item_with, item_plain, item_initialised, typed_item, typed_items, may_be_inline, typed_declaration, declared_by}
use Rattle.dm_edecl.specs.Placing.{StopsWithin}

-- ---- one part after the other

pub stops-wider : {A : Type 0} (first behind less more : ℕ) (progress : Progress A) → less ≤ first → behind ≤ more → StopsWithin first behind progress → StopsWithin less more progress
stops-wider first behind less more (goes_on t it) low high h = tt
stops-wider first behind less more (stops rule at) low high h = let from = h.0 in let to = h.1 in (omega (arith, low, from), omega (arith, high, to))

pub further-within : {A B : Type 0} (first behind : ℕ) (progress : Progress A) (next : Standing → A → Progress B) → StopsWithin first behind progress
    → ((t : Standing) (it : A) → StopsWithin first behind (next t it)) → StopsWithin first behind (further progress next)
further-within first behind (goes_on t it) next h step = step t it
further-within first behind (stops rule at) next h step = h

-- an expression, a type name or a declarator stands within the whole
pub typing-within : {A B : Type 0} (first behind less more : ℕ) (P : A → Type 0) (s : Standing) (outcome : Outcome A) (next : Standing → A → Progress B)
    → less ≤ first → behind ≤ more → Places first behind P outcome → ((t : Standing) (it : A) → P it → StopsWithin less more (next t it))
    → StopsWithin less more (typing s outcome next)
typing-within first behind less more P s (given known it) next low high h step = step (knowing s known) it h
typing-within first behind less more P s (broken rule at) next low high h step = let from = h.0 in let to = h.1 in (omega (arith, low, from), omega (arith, high, to))

pub collecting-within : {A B : Type 0} (first behind less more : ℕ) (P : A → Type 0) (s : Standing) (outcome : Outcome A) (next : Standing → List Tree → A → Progress B)
    → less ≤ first → behind ≤ more → Places first behind P outcome → ((t : Standing) (constants : List Tree) (it : A) → P it → StopsWithin less more (next t constants it))
    → StopsWithin less more (collecting s outcome next)
collecting-within first behind less more P s (given known it) next low high h step = step (knowing s known) known.constants it h
collecting-within first behind less more P s (broken rule at) next low high h step = let from = h.0 in let to = h.1 in (omega (arith, low, from), omega (arith, high, to))

pub keeps-within : {A : Type 0} (first behind : ℕ) (test : Bool) (rule at : ℕ) (next : Progress A) → first ≤ at → at < behind
    → StopsWithin first behind next → StopsWithin first behind (keeps test rule at next)
keeps-within first behind true rule at next low high h = h
keeps-within first behind false rule at next low high h = (low, high)

pub closed-within : {A : Type 0} (first behind : ℕ) (s : Standing) (progress : Progress A) → StopsWithin first behind progress → StopsWithin first behind (closed s progress)
closed-within first behind s (goes_on t it) h = tt
closed-within first behind s (stops rule at) h = h

pub with-same : {A B : Type 0} (first behind : ℕ) (P : B → Type 0) (outcome : Outcome A) (made : Known → A → B) → ((known : Known) (it : A) → P (made known it))
    → Places first behind Plain outcome → Places first behind P (with_it outcome made)
with-same first behind P (given known it) made all h = all known it
with-same first behind P (broken rule at) made all h = h

pub either-places : {A : Type 0} (first behind : ℕ) (test : Bool) (one other : Outcome A) → Places first behind Plain one → Places first behind Plain other
    → Places first behind Plain (if test then one else other)
either-places first behind true one other h g = h
either-places first behind false one other h g = g

-- ---- specifiers and declarators

-- what specifiers say begins at their first token
abbrev pub BeginsAt : ℕ → Specified → Type 0
BeginsAt at said = said.first ≡ at

said-by : (first behind here : ℕ) (words : Outcome Said) (next : Known → Said → Outcome CType) → Places first behind Plain (after words next)
    → Places first behind (BeginsAt here) (after words (λ t said. with_it (next t said) (λ u kind. specified_by said here kind)))
said-by first behind here (given known said) next h = with-same first behind (BeginsAt here) (next known said) (λ u kind. specified_by said here kind) (λ u kind. refl) h
said-by first behind here (broken rule at) next h = h

module _ (setting : Setting) where
  pub specified-placed : (names : List Declared) (stands : Where) (alone : Bool) (specifiers : Specifiers) → IsSpecifiers setting.source names specifiers → (known : Known)
      → Places (specifiers_span specifiers).first (specifiers_span specifiers).after (BeginsAt (specifiers_span specifiers).first) (specified setting stands alone known specifiers)
  unfolding typed_specifiers
  specified-placed names stands alone (tree.listed span words) is known =
      said-by span.first span.after span.first (words_said setting true alone known nothing_said words) (λ t said. typed_said t stands span.first said)
      ((specifiers-placed setting names stands alone (tree.listed span words) is).1 true known)

  pub declarator-typed : (declarator : Declarator) → PlacedDeclarator setting declarator → (known : Known) (base : CType)
      → Places (declarator_span declarator).first (declarator_span declarator).after Plain (typed_declarator setting known base declarator)
  declarator-typed declarator shape known base =
      let span = declarator_span declarator in
      after-places span.first span.after span.first span.after (StepsWithin span.first span.after) Plain (steps_of setting true known declarator) (λ behind steps. derived behind base steps)
      (omega arith) (omega arith) (shape.steps true known) (λ behind steps within. derived-places behind span.first span.after base steps within)

  -- the declared name stands in the declarator
  pub name-placed : (declarator : Declarator) → PlacedDeclarator setting declarator → IsSome (declarator_name declarator)
      → ((declarator_span declarator).first ≤ name_at declarator) × (name_at declarator < (declarator_span declarator).after)
  name-placed declarator shape named =
      let found = some-of (declarator_name declarator) named in
      subst (λ it. ((declarator_span declarator).first ≤ unwrap_or it (declarator_span declarator).first) × (unwrap_or it (declarator_span declarator).first < (declarator_span declarator).after))
      (sym found.1) (shape.name found.0 found.1)

-- ---- initialisers

scalar-places : (known : Known) (fixed : Bool) (type : CType) (first behind here : ℕ) (value : Tree) → first ≤ here → here < behind
    → Places first behind Plain (scalar_initialised known fixed type here value)
scalar-places known fixed type first behind here value low high =
    let fine : Outcome Initial = given known (single (as_type type value)) in
    let valued : Outcome Initial = obeys (not fixed || has_value known value) 30 here fine in
    obeys-places first behind Plain (not fixed || is_static_value known value) 8 here (obeys (is_assignable known value type) 28 here valued) low high
    (obeys-places first behind Plain (is_assignable known value type) 28 here valued low high
    (obeys-places first behind Plain (not fixed || has_value known value) 30 here fine low high tt))

part-places : {A : Type 0} (first behind : ℕ) (found : Option CType) (surplus : Outcome A) (part : CType → Outcome A) → Places first behind Plain surplus
    → ((type : CType) → Places first behind Plain (part type)) → Places first behind Plain (if_part found surplus part)
part-places first behind None surplus part h g = h
part-places first behind (Some type) surplus part h g = g type

-- an initialiser has a token at least, and breaks rules within its tokens, whatever it initialises
pub record PlacedInitialiser (setting : Setting) (one : Initialiser) : Type 0 where
  pub on : (initialiser_span one).first < (initialiser_span one).after
  pub alone : (known : Known) → Places (initialiser_span one).first (initialiser_span one).after Plain (expressions_alone setting known one)
  pub whole : (fixed : Bool) (known : Known) (type : CType) → Places (initialiser_span one).first (initialiser_span one).after Plain (typed_initialiser setting fixed known type one)

-- likewise the items of a list; where the list has too many, it is the list that breaks a rule
record PlacedInitialisers (setting : Setting) (at : ℕ) (items : Initialisers) : Type 0 where
  on : at ≤ initialisers_after at items
  alone : (known : Known) → Places at (initialisers_after at items) Plain (all_expressions_alone setting known items)
  whole : (fixed : Bool) (known : Known) (type : CType) (span : Span) (n : ℕ) → span.first ≤ at → initialisers_after at items < span.after
      → Places span.first span.after Plain (typed_initialisers setting fixed known type span n items)

module _ (setting : Setting) where
  misplaced-places : (known : Known) (span : Span) (items : Initialisers) → span.first < span.after → Places span.first span.after Plain (all_expressions_alone setting known items)
      → Places span.first span.after Plain (misplaced setting known span items)
  misplaced-places known span items on h =
      let refused : Known → List Tree → Outcome Initial = λ behind trees. broken 8 span.first in
      after-places span.first span.after span.first span.after Plain Plain (all_expressions_alone setting known items) refused (omega arith) (omega arith) h
      (λ behind trees any. (omega arith, on))

  more-initialisers : (at : ℕ) (first : Initialiser) (others : Initialisers) → at ≤ (initialiser_span first).first → PlacedInitialiser setting first
      → PlacedInitialisers setting (initialiser_span first).after others → PlacedInitialisers setting at (tree.more_initialisers first others)
  unfolding all_expressions_alone typed_initialisers
  more-initialisers at first others low one rest =
      let part = initialiser_span first in
      let end = initialisers_after part.after others in
      let some = one.on in
      let more = rest.on in
      let items = tree.more_initialisers first others in
      let alone : (known : Known) → Places at end Plain (all_expressions_alone setting known items) =
      λ known. after-places part.first part.after at end Plain Plain (expressions_alone setting known first) _ low more (one.alone known)
      (λ then_known made any. after-places part.after end at end Plain Plain (all_expressions_alone setting then_known others) _ (omega (arith, low, some)) (omega arith) (rest.alone then_known)
      (λ behind trees all. tt)) in
      record {
        on = omega (arith, low, some, more);
        alone = alone;
        whole = λ fixed known type span n from to.
            let on : span.first < span.after = omega (arith, from, to, low, some, more) in
            after-places span.first span.after span.first span.after Plain Plain
            (if_part (part_type known.types type n) (misplaced setting known span items) (λ kind. typed_initialiser setting fixed known kind first)) _ (omega arith) (omega arith)
            (part-places span.first span.after (part_type known.types type n) (misplaced setting known span items) (λ kind. typed_initialiser setting fixed known kind first)
            (misplaced-places known span items on
            (wider at end span.first span.after Plain Plain (all_expressions_alone setting known items) from (omega (arith, to)) (λ it any. tt) (alone known)))
            (λ kind. wider part.first part.after span.first span.after Plain Plain (typed_initialiser setting fixed known kind first) (omega (arith, from, low)) (omega (arith, more, to)) (λ it any. tt)
            (one.whole fixed known kind)))
            (λ then_known made any. after-places span.first span.after span.first span.after Plain Plain (typed_initialisers setting fixed then_known type span (n + 1) others) _
            (omega arith) (omega arith) (rest.whole fixed then_known type span (n + 1) (omega (arith, from, low, some)) to) (λ behind trees all. tt));
      }

  -- ---- a list in braces

  in-braces : (names : List Declared) (fixed : Bool) (known : Known) (type : CType) (span : Span) (first : Initialiser) (others : Initialisers) → IsInitialiser setting.source names first
      → span.first ≤ (initialiser_span first).first → (initialiser_span first).after ≤ span.after → span.first < span.after
      → Places span.first span.after Plain (all_expressions_alone setting known (tree.more_initialisers first others))
      → Places span.first span.after Plain (scalar_in_braces setting fixed known type span (tree.more_initialisers first others))
  unfolding IsInitialiser
  in-braces names fixed known type span (tree.value at expr) tree.no_initialisers is low high on alone =
      let one = expr-placed setting names (expr_span expr) expr is.1 in
      let some = one.0 in
      let begins = is.0 in
      let ends = is.3 in
      after-places (expr_span expr).first (expr_span expr).after span.first span.after Plain Plain (typed setting true known expr)
      (λ behind made. scalar_initialised behind fixed type at.first (as_value made)) (omega (arith, begins, low)) (omega (arith, ends, high)) (one.1 true known)
      (λ behind made any. scalar-places behind fixed type span.first span.after at.first (as_value made) low (omega (arith, begins, ends, some, high)))
  in-braces names fixed known type span first others is low high on alone = misplaced-places known span (tree.more_initialisers first others) on alone

  zero-places : (names : List Declared) (fixed : Bool) (known : Known) (type : CType) (span : Span) (first : Initialiser) (others : Initialisers) → IsInitialiser setting.source names first
      → span.first ≤ (initialiser_span first).first → (initialiser_span first).after ≤ span.after → span.first < span.after
      → Places span.first span.after Plain (all_expressions_alone setting known (tree.more_initialisers first others))
      → Places span.first span.after Plain (all_zero setting fixed known type span (tree.more_initialisers first others))
  unfolding IsInitialiser
  zero-places names fixed known type span (tree.value at expr) tree.no_initialisers is low high on alone =
      let one = expr-placed setting names (expr_span expr) expr is.1 in
      let some = one.0 in
      let begins = is.0 in
      let ends = is.3 in
      let to : at.first < span.after = omega (arith, begins, ends, some, high) in
      after-places (expr_span expr).first (expr_span expr).after span.first span.after Plain Plain (typed setting true known expr) _ (omega (arith, begins, low)) (omega (arith, ends, high))
      (one.1 true known)
      (λ behind made any. if-places span.first span.after Plain (first_scalar known.types type) 8 span.first
      (λ (scalar : First). zero_initialised behind fixed scalar at.first (as_value made)) (omega arith) on
      (λ scalar. after-places span.first span.after span.first span.after Plain Plain (scalar_initialised behind fixed scalar.kind at.first (as_value made))
      (λ then_known initial. given then_known (braced scalar.depth initial)) (omega arith) (omega arith)
      (scalar-places behind fixed scalar.kind span.first span.after at.first (as_value made) low to) (λ then_known initial all. tt)))
  zero-places names fixed known type span first others is low high on alone = misplaced-places known span (tree.more_initialisers first others) on alone

  braces-placed : (names : List Declared) (span : Span) (first : Initialiser) (others : Initialisers) (trailing : Bool) → IsInitialiser setting.source names first
      → PlacedInitialiser setting first → PlacedInitialisers setting (initialiser_span first).after others → (initialiser_span first).first ≡ span.first + 1
      → initialisers_after (initialiser_span first).after others < span.after → PlacedInitialiser setting (tree.braces span (tree.more_initialisers first others) trailing)
  unfolding expressions_alone typed_initialiser
  braces-placed names span first others trailing is one rest begins ends =
      let items = tree.more_initialisers first others in
      let end = initialisers_after (initialiser_span first).after others in
      let some = one.on in
      let more = rest.on in
      let all = more-initialisers (span.first + 1) first others (omega (arith, begins)) one rest in
      let on : span.first < span.after = omega (arith, begins, some, more, ends) in
      let low : span.first ≤ (initialiser_span first).first = omega (arith, begins) in
      let high : (initialiser_span first).after ≤ span.after = omega (arith, more, ends) in
      let alone : (known : Known) → Places span.first span.after Plain (all_expressions_alone setting known items) =
      λ known. wider (span.first + 1) end span.first span.after Plain Plain (all_expressions_alone setting known items) (omega arith) (omega (arith, ends)) (λ it any. tt) (all.alone known) in
      record {
        on = on;
        alone = alone;
        whole = λ fixed known type.
            either-places span.first span.after (is_scalar type) (scalar_in_braces setting fixed known type span items) _
            (in-braces names fixed known type span first others is low high on (alone known))
            (either-places span.first span.after (is_zero_list setting items trailing) (all_zero setting fixed known type span items) _
            (zero-places names fixed known type span first others is low high on (alone known))
            (after-places span.first span.after span.first span.after Plain Plain (typed_initialisers setting fixed known type span 0 items) (λ behind made. given behind (enclosed made))
            (omega arith) (omega arith) (all.whole fixed known type span 0 (omega arith) ends) (λ behind made any. tt)));
      }

  by-one : (known : Known) (fixed : Bool) (type : CType) (first behind here : ℕ) (expr : Expr) (tree : Tree) → first ≤ here → here < behind
      → Places first behind Plain (initialised_by setting known fixed type here expr tree)
  by-one known fixed type first behind here expr tree low high =
      either-places first behind (is_scalar type) (scalar_initialised known fixed type here (as_value tree)) _ (scalar-places known fixed type first behind here (as_value tree) low high)
      (obeys-places first behind Plain (is_string_for setting expr type) 8 here (given known (single tree)) low high tt)

  mutual
    unfolding expressions_alone all_expressions_alone typed_initialiser typed_initialisers IsInitialiser AreMoreInitialisers

    pub initialiser-placed : (names : List Declared) (one : Initialiser) → IsInitialiser setting.source names one → PlacedInitialiser setting one
    initialiser-placed names (tree.value span expr) h =
        let one = expr-placed setting names (expr_span expr) expr h.1 in
        let some = one.0 in
        let begins = h.0 in
        let ends = h.3 in
        let on : span.first < span.after = omega (arith, begins, ends, some) in
        let low : span.first ≤ (expr_span expr).first = omega (arith, begins) in
        let high : (expr_span expr).after ≤ span.after = omega (arith, ends) in
        record {
          on = on;
          alone = λ known. after-places (expr_span expr).first (expr_span expr).after span.first span.after Plain Plain (typed setting true known expr) _ low high (one.1 true known)
              (λ behind made any. tt);
          whole = λ fixed known type. after-places (expr_span expr).first (expr_span expr).after span.first span.after Plain Plain (typed setting true known expr) _ low high (one.1 true known)
              (λ behind made any. by-one behind fixed type span.first span.after span.first expr made (omega arith) on);
        }
    initialiser-placed names (tree.braces span tree.no_initialisers trailing) h = absurd h
    initialiser-placed names (tree.braces span (tree.more_initialisers first others) trailing) h =
        let last = trailing-on (initialisers_after (initialiser_span first).after others) trailing in
        let ends = h.6 in
        braces-placed names span first others trailing h.2 (initialiser-placed _ first h.2) (more-initialisers-placed _ _ others h.3) h.1 (omega (arith, ends, last))

    more-initialisers-placed : (names : List Declared) (at : ℕ) (items : Initialisers) → AreMoreInitialisers setting.source names at items → PlacedInitialisers setting at items
    more-initialisers-placed names at tree.no_initialisers h = record { on = omega arith; alone = λ known. tt; whole = λ fixed known type span n from to. tt }
    more-initialisers-placed names at (tree.more_initialisers first others) h =
        let begins = h.1 in
        more-initialisers at first others (omega (arith, begins)) (initialiser-placed _ first h.2) (more-initialisers-placed _ _ others h.3)

-- ---- what a declarator declares

module _ (setting : Setting) (said : Specified) (least most : ℕ) (begins : least ≤ said.first) (below : said.first < most) where
  pub declarable-within : {A : Type 0} (s : Standing) (initialised : Bool) (here name : ℕ) (entry : Declaration) (next : Progress A) → least ≤ here → here < most
      → least ≤ name → name < most → StopsWithin least most next → StopsWithin least most (declarable said s initialised here name entry next)
  declarable-within s initialised here name entry next low high from to h =
      let fourth = keeps (may_be_main s.known entry) 36 name next in
      let third = keeps (may_be_object s.known said.storage initialised entry.sort (kind_seen s entry)) 5 here fourth in
      let second = keeps (not (is_misplaced_static s.known said.storage entry.sort)) 3 said.first third in
      keeps-within least most (may_be_declared s entry) 2 name second from to
      (keeps-within least most (not (is_misplaced_static s.known said.storage entry.sort)) 3 said.first third begins below
      (keeps-within least most (may_be_object s.known said.storage initialised entry.sort (kind_seen s entry)) 5 here fourth low high
      (keeps-within least most (may_be_main s.known entry) 36 name next from to h)))

  defined-within : (s : Standing) (entry : Declaration) (number here name : ℕ) (kind : CType) (initial : Initial) → least ≤ here → here < most → least ≤ name → name < most
      → StopsWithin least most (object_defined s entry number here name kind initial)
  defined-within s entry number here name kind initial low high from to =
      let fine : Progress Local = goes_on (object_here s entry number kind) (local_initialised number initial) in
      keeps-within least most (may_define s number kind) 2 name (keeps (is_complete s.known kind) 5 here fine) from to
      (keeps-within least most (is_complete s.known kind) 5 here fine low high tt)

  either-within : {A : Type 0} (test : Bool) (one other : Progress A) → StopsWithin least most one → StopsWithin least most other → StopsWithin least most (if test then one else other)
  either-within true one other h g = h
  either-within false one other h g = g

  initialised-within : (s : Standing) (entry : Declaration) (number : ℕ) (span : Span) (here name : ℕ) (kind : CType) (one : Initialiser) → least ≤ here → here < most
      → least ≤ name → name < most → least ≤ span.first → span.first < most → least ≤ (initialiser_span one).first → (initialiser_span one).after ≤ most → PlacedInitialiser setting one
      → StopsWithin least most (initialised setting s entry number span here name kind one)
  initialised-within s entry number span here name kind one low high from to first-low first-high low-one high-one placed =
      let part = initialiser_span one in
      let refused : Standing → List Tree → Progress Local = λ behind trees. stops 9 span.first in
      either-within (may_be_initialised s.known entry) _ _
      (typing-within part.first part.after least most Plain s (typed_initialiser setting (is_fixed entry.sort) s.known (completed setting kind one) one)
      (λ behind initial. object_defined behind entry number here name (completed setting kind one) initial) low-one high-one
      (placed.whole (is_fixed entry.sort) s.known (completed setting kind one))
      (λ behind initial any. defined-within behind entry number here name (completed setting kind one) initial low high from to))
      (typing-within part.first part.after least most Plain s (expressions_alone setting s.known one) refused low-one high-one (placed.alone s.known) (λ behind trees any. (first-low, first-high)))

-- ---- declarators with their initialisers

-- an item has a token at least, and breaks rules within its tokens, or at the first of its specifiers
abbrev pub PlacedItem : Setting → Item → Type 0
PlacedItem setting item =
    ((item_span item).first < (item_span item).after)
    × ((said : Specified) (s : Standing) (least most : ℕ) → least ≤ said.first → said.first < most → least ≤ (item_span item).first → (item_span item).after ≤ most
    → StopsWithin least most (typed_item setting said s item))

-- likewise a list of them, from a position on
abbrev pub PlacedItems : Setting → ℕ → List Item → Type 0
PlacedItems setting at items =
    (at ≤ items_after at items)
    × ((said : Specified) (s : Standing) (least most : ℕ) → least ≤ said.first → said.first < most → least ≤ at → items_after at items ≤ most
    → StopsWithin least most (typed_items setting said s items))

with-within : (least most : ℕ) (constants : List Tree) (item : Progress Local) → StopsWithin least most item → StopsWithin least most (item_with constants item)
with-within least most constants item h = further-within least most item (λ t local. goes_on t (with_lengths constants local)) h (λ t local. tt)

module _ (setting : Setting) where
  item-placed : (names : List Declared) (is_type : Bool) (item : Item) → IsItem setting.source names is_type item → PlacedItem setting item
  unfolding IsItem
  item-placed names is_type (tree.plain span declarator) h =
      let shape = declarator-placed setting names false declarator h.1 in
      let name = name-placed setting declarator shape h.2 in
      let from = name.0 in
      let to = name.1 in
      let starts = h.0 in
      let ends = h.3 in (
        omega (arith, starts, ends, from, to),
        λ said s least most begins below low high.
            let inner = declarator_span declarator in
            let before : least ≤ inner.first = omega (arith, low, starts) in
            let behind : inner.after ≤ most = omega (arith, high, ends) in
            collecting-within inner.first inner.after least most Plain s (typed_declarator setting s.known said.kind declarator)
            (λ t constants kind. item_with constants (item_plain setting said t declarator (entry_of setting t.known said.storage (name_at declarator) kind))) before behind
            (declarator-typed setting declarator shape s.known said.kind)
            (λ t constants kind any.
            let entry = entry_of setting t.known said.storage (name_at declarator) kind in
            with-within least most constants (item_plain setting said t declarator entry)
            (declarable-within setting said least most begins below t false inner.first (name_at declarator) entry _
            before (omega (arith, behind, from, to)) (omega (arith, before, from)) (omega (arith, behind, to)) tt)),
      )
  item-placed names is_type (tree.initialised span declarator one) h =
      let shape = declarator-placed setting names false declarator h.1 in
      let name = name-placed setting declarator shape h.2 in
      let placed = initialiser-placed setting _ one h.5 in
      let from = name.0 in
      let to = name.1 in
      let some = placed.on in
      let starts = h.0 in
      let follows = h.4 in
      let ends = h.6 in (
        omega (arith, starts, follows, ends, from, to, some),
        λ said s least most begins below low high.
            let inner = declarator_span declarator in
            let before : least ≤ inner.first = omega (arith, low, starts) in
            let behind : inner.after ≤ most = omega (arith, high, follows, ends, some) in
            let name-low : least ≤ name_at declarator = omega (arith, before, from) in
            let name-high : name_at declarator < most = omega (arith, behind, to) in
            let inner-high : inner.first < most = omega (arith, behind, from, to) in
            collecting-within inner.first inner.after least most Plain s (typed_declarator setting s.known said.kind declarator)
            (λ t constants kind. item_with constants (item_initialised setting said t span declarator one (entry_of setting t.known said.storage (name_at declarator) kind))) before behind
            (declarator-typed setting declarator shape s.known said.kind)
            (λ t constants kind any.
            let entry = entry_of setting t.known said.storage (name_at declarator) kind in
            with-within least most constants (item_initialised setting said t span declarator one entry)
            (declarable-within setting said least most begins below t true inner.first (name_at declarator) entry
            (initialised setting (declared_here t entry) entry (number_here t entry) span inner.first (name_at declarator) (kind_seen t entry) one)
            before inner-high name-low name-high
            (initialised-within setting said least most begins below (declared_here t entry) entry (number_here t entry) span inner.first (name_at declarator) (kind_seen t entry) one
            before inner-high name-low name-high low (omega (arith, starts, inner-high)) (omega (arith, before, from, to, follows)) (omega (arith, ends, high)) placed))),
      )

  -- one item, and others behind it
  items-from : (at : ℕ) (first : Item) (others : List Item) → at ≤ (item_span first).first → PlacedItem setting first → PlacedItems setting (item_span first).after others
      → PlacedItems setting at (first ∷ others)
  items-from at first others low one rest =
      let some = one.0 in
      let more = rest.0 in (
        omega (arith, low, some, more),
        λ said s least most begins below from to.
            further-within least most (typed_item setting said s first) _ (one.1 said s least most begins below (omega (arith, from, low)) (omega (arith, more, to)))
            (λ t made. further-within least most (typed_items setting said t others) (λ u list. goes_on u (made ∷ list))
            (rest.1 said t least most begins below (omega (arith, from, low, some)) to) (λ u list. tt)),
      )

  more-items-placed : (names : List Declared) (is_type : Bool) (at : ℕ) (items : List Item) → AreMoreItems setting.source names is_type at items → PlacedItems setting at items
  unfolding AreMoreItems
  more-items-placed names is_type at [] h = (omega arith, λ said s least most begins below from to. tt)
  more-items-placed names is_type at (first ∷ others) h =
      let starts = h.1 in items-from at first others (omega (arith, starts)) (item-placed _ is_type first h.2) (more-items-placed (item_declares setting.source is_type first ++ names) is_type _ others h.3)

  items-placed : (names : List Declared) (is_type : Bool) (at : ℕ) (items : List Item) → AreItems setting.source names is_type at items → PlacedItems setting at items
  unfolding AreItems
  items-placed names is_type at [] h = (omega arith, λ said s least most begins below from to. tt)
  items-placed names is_type at (first ∷ others) h =
      let starts = h.0 in items-from at first others (omega (arith, starts)) (item-placed _ is_type first h.1) (more-items-placed _ is_type _ others h.2)

  -- ---- declarations

  pub declaration-placed : (names : List Declared) (declaration : tree.Declaration) → IsDeclaration setting.source names declaration
      → ((declaration_span declaration).first < (declaration_span declaration).after)
      × ((s : Standing) → StopsWithin (declaration_span declaration).first (declaration_span declaration).after (typed_declaration setting s declaration))
  unfolding IsDeclaration
  declaration-placed names (tree.declaring span specifiers items) h =
      let words = specifiers_span specifiers in
      let all = items-placed _ _ _ items h.2 in
      let some = (specifiers-placed setting names of_declaration (is_alone specifiers items) specifiers h.1).0 in
      let more = all.0 in
      let starts = h.0 in
      let ends = h.4 in
      let low : span.first ≤ words.first = omega (arith, starts) in
      let high : items_after words.after items ≤ span.after = omega (arith, ends) in (
        omega (arith, starts, ends, some, more),
        λ s. collecting-within words.first words.after span.first span.after (BeginsAt words.first) s
            (specified setting of_declaration (is_alone specifiers items) s.known specifiers) _ low (omega (arith, more, high))
            (specified-placed setting names of_declaration (is_alone specifiers items) specifiers h.1 s.known)
            (λ t constants said begins.
            let from : span.first ≤ said.first = omega (arith, begins, low) in
            let to : said.first < span.after = omega (arith, begins, some, more, high) in
            further-within span.first span.after (typed_items setting said t items) (λ behind locals. declared_by constants said behind locals)
            (all.1 said t span.first span.after from to (omega (arith, low, some)) high)
            (λ behind locals. keeps-within span.first span.after (not said.inline || may_be_inline behind.known locals) 3 said.first _ from to tt)),
      )
