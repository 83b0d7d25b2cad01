-- The expressions of an initialiser are well typed: by induction over the syntax.
use Rattle.std.specs.Prelude.{◌≡◌, ℕ, zero, suc, ◌+◌, Bool, true, false, ◌||◌, not, nat_lt, if◌then◌else◌, List, [], ◌∷◌, ◌++◌, Option, Some, None, option_map, option_and_then, slice_get, refl}
use Rattle.std.proofs.Common.{subst}
use Rattle.dm_token.specs.declared.place.Span.{Span}
use Rattle.dm_type.specs.declared.shape.Member.{Member}
use Rattle.dm_type.specs.CTypes.{CType, void, integer, pointer, array, struct, function as function_type, const, with_const}
use Rattle.dm_type.specs.Tables.{Table, type_of, members_of}
use Rattle.dm_type.specs.TableLaws.{injected}
use Rattle.dm_syn.specs.declared.declared.Declared.{Declared}
use Rattle.dm_syn.specs.Spans.{expr_span}
use Rattle.dm_syn.specs.Grammar.{IsExpr}
use Rattle.dm_syn.specs.Statements.{IsInitialiser, AreMoreInitialisers}
use Rattle.dm_syn.specs.Trees.{Expr, Initialiser, Initialisers}
use Rattle.dm_syn.specs.Trees as tree
use Rattle.dm_tree.specs.Scenes.{is_scalar, member_type, part_type}
use Rattle.dm_tree.specs.Trees.{Tree}
use Rattle.dm_typing.specs.Known.{Known, Setting, Outcome, given, broken}
use Rattle.dm_typing.specs.Conversions.{as_value, as_type}
use Rattle.dm_typing.specs.Rules.{is_assignable}
use Rattle.dm_typing.specs.Sound.{IsProper, AreComplete, AreSoundTokens, IsSound, IsSoundValue, IsSoundKnown, KnowsMore, GivesMore}
use Rattle.dm_typing.specs.Typing.{typed}
use Rattle.dm_typing.proofs.CallLemmas.{assigned-fits}
use Rattle.dm_typing.proofs.GrowthLemmas.{sound-stays}
use Rattle.dm_typing.proofs.KnownLemmas.{stays-so, after-more, obeys-more, if-more}
use Rattle.dm_typing.proofs.MemberLemmas.{with-const-proper}
use Rattle.dm_typing.proofs.RuleLemmas.{value-sound}
use Rattle.dm_typing.proofs.TableLemmas.{table-proper}
use Rattle.dm_typing.proofs.WholeLemmas.{expr-more}
use Rattle.dm_typing.proofs.WriteLemmas.{as-value-sound}
use Rattle.dm_edecl.specs.Initialising.{Initial, Initials, no_initials, with_first, enclosed, single, is_static_value, has_value, scalar_initialised, is_string_for, initialised_by, First, deeper, first_if_scalar, first_in_array, first_in_struct, first_within, first_scalar, braced, expressions_alone, all_expressions_alone, misplaced, scalar_in_braces, is_zero_list, all_zero, zero_initialised, if_part, typed_initialiser, typed_initialisers}
use Rattle.dm_edecl.specs.Sound.{AllSound, IsSoundInitial}

-- ---- trees

all-sound-stay : (old new : Known) → KnowsMore old new → AreComplete old.types → (trees : List Tree) → AllSound old trees → AllSound new trees
all-sound-stay old new more complete [] h = tt
all-sound-stay old new more complete (first ∷ others) h = (sound-stays old new more complete first h.0, all-sound-stay old new more complete others h.1)

all-sound-append : (known : Known) (trees others : List Tree) → AllSound known trees → AllSound known others → AllSound known (trees ++ others)
all-sound-append known [] others h g = g
all-sound-append known (first ∷ trees) others h g = (h.0, all-sound-append known trees others h.1 g)

-- the expressions of the items of a list
abbrev AreSoundInitials : Known → Initials → Type 0
AreSoundInitials known initials = AllSound known initials.expressions

either-gives : {A : Type 0} (known : Known) (P : Known → A → Type 0) (test : Bool) (one other : Outcome A) → GivesMore known P one → GivesMore known P other
    → GivesMore known P (if test then one else other)
either-gives known P true one other h g = h
either-gives known P false one other h g = g

-- ---- types

-- a member of a struct has a type of the table
found-proper : (table : Table) (n : ℕ) (members : List Member) (found : Option Member) (part : CType)
    → option_map (λ (one : Member). type_of table one.kind) found ≡ Some part → IsProper part
found-proper table n members (Some one) part e = subst IsProper (injected (type_of table one.kind) part e) (table-proper table one.kind)
found-proper table n members None part e = absurd (cc)

struct-proper : (table : Table) (n : ℕ) (found : Option (List Member)) (part : CType)
    → option_and_then (λ members. option_map (λ (one : Member). type_of table one.kind) (slice_get members n)) found ≡ Some part → IsProper part
struct-proper table n (Some members) part e = found-proper table n members (slice_get members n) part e
struct-proper table n None part e = absurd (cc)

member-proper : (table : Table) (type : CType) (n : ℕ) (part : CType) → member_type table type n ≡ Some part → IsProper part
member-proper table (struct at) n part e = struct-proper table n (members_of table at) part e
member-proper table type n part e = absurd (cc)

const-proper : (found : Option CType) → ((part : CType) → found ≡ Some part → IsProper part) → (part : CType) → option_map with_const found ≡ Some part → IsProper part
const-proper (Some type) all part e = subst IsProper (injected (with_const type) part e) (with-const-proper type (all type refl))
const-proper None all part e = absurd (cc)

item-proper : (test : Bool) (type part : CType) → IsProper type → (if test then Some type else None) ≡ Some part → IsProper part
item-proper true type part h e = subst IsProper (injected type part e) h
item-proper false type part h e = absurd (cc)

pub part-proper : (table : Table) (type : CType) (n : ℕ) → IsProper type → (part : CType) → part_type table type n ≡ Some part → IsProper part
part-proper table (array type (Some many)) n h part e = item-proper (nat_lt n many) type part h e
part-proper table (const type) n h part e = const-proper (member_type table type n) (λ inner f. member-proper table type n inner f) part e
part-proper table type n h part e = member-proper table type n part e

-- the scalar that stands first in a type
AreFirst : Option First → Type 0
AreFirst found = (first : First) → found ≡ Some first → IsProper first.kind

scalar-first : (test : Bool) (type : CType) → IsProper type → AreFirst (if test then Some (record { depth = 0; kind = type }) else None)
unfolding AreFirst
scalar-first true type h first e = subst (λ (it : First). IsProper it.kind) (injected (record { depth = 0; kind = type }) first e) h
scalar-first false type h first e = absurd (cc)

deeper-first : (found : Option First) → AreFirst found → AreFirst (option_map deeper found)
unfolding AreFirst
deeper-first (Some one) h first e = subst (λ (it : First). IsProper it.kind) (injected (deeper one) first e) (h one refl)
deeper-first None h first e = absurd (cc)

then-first : (found : Option CType) (next : CType → Option First) → ((part : CType) → found ≡ Some part → AreFirst (next part)) → AreFirst (option_and_then next found)
unfolding AreFirst
then-first (Some part) next h first e = h part refl first e
then-first None next h first e = absurd (cc)

either-first : (test : Bool) (one other : Option First) → AreFirst one → AreFirst other → AreFirst (if test then one else other)
either-first true one other h g = h
either-first false one other h g = g

no-first : AreFirst None
unfolding AreFirst
no-first first e = absurd (cc)

array-first : (inner : CType → Option First) → ((type : CType) → IsProper type → AreFirst (inner type)) → (type : CType) → IsProper type → AreFirst (first_in_array inner type)
array-first inner step (array type (Some n)) h =
    either-first (nat_lt 0 n) (option_map deeper (first_in_array inner type)) None (deeper-first (first_in_array inner type) (array-first inner step type h)) no-first
array-first inner step (array type None) h = step (array type None) h
array-first inner step void h = step void h
array-first inner step (integer kind) h = step (integer kind) h
array-first inner step (pointer type) h = step (pointer type) h
array-first inner step (struct at) h = step (struct at) h
array-first inner step (function_type result parameters) h = step (function_type result parameters) h
array-first inner step (const type) h = step (const type) h

struct-first : (inner : CType → Option First) → ((type : CType) → IsProper type → AreFirst (inner type)) → (table : Table) (type : CType) → IsProper type
    → AreFirst (first_in_struct inner table type)
struct-first inner step table type h =
    either-first (is_scalar type) (first_if_scalar type) (option_map deeper (option_and_then inner (part_type table type 0))) (scalar-first (is_scalar type) type h)
    (deeper-first (option_and_then inner (part_type table type 0)) (then-first (part_type table type 0) inner (λ part e. step part (part-proper table type 0 h part e))))

first-proper : (depth : ℕ) (table : Table) (type : CType) → IsProper type → AreFirst (first_within depth table type)
unfolding first_within
first-proper zero table type h = array-first first_if_scalar (λ one is. scalar-first (is_scalar one) one is) type h
first-proper (suc depth) table type h =
    array-first (first_in_struct (first_within depth table) table) (λ one is. struct-first (first_within depth table) (first-proper depth table) table one is) type h

pub first-of : (known : Known) (type : CType) → IsProper type → (first : First) → first_scalar known.types type ≡ Some first → IsProper first.kind
unfolding AreFirst
first-of known type h first e = first-proper _ known.types type h first e

-- ---- one expression

scalar-gives : (known : Known) (fixed : Bool) (type : CType) (here : ℕ) (value : Tree) → IsSoundKnown known → IsSoundValue known value → IsProper type
    → GivesMore known IsSoundInitial (scalar_initialised known fixed type here value)
scalar-gives known fixed type here value sound is proper =
    obeys-more known IsSoundInitial (not fixed || is_static_value known value) 8 here _ (λ static. obeys-more known IsSoundInitial (is_assignable known value type) 28 here _
    (λ assignable. obeys-more known IsSoundInitial (not fixed || has_value known value) 30 here _
    (λ valued. stays-so known IsSoundInitial (single (as_type type value)) sound
    (value-sound known (as_type type value) (assigned-fits known type value is proper assignable).0, tt))))

zero-gives : (known : Known) (fixed : Bool) (first : First) (here : ℕ) (value : Tree) → IsSoundKnown known → IsSoundValue known value → IsProper first.kind
    → GivesMore known IsSoundInitial (zero_initialised known fixed first here value)
zero-gives known fixed first here value sound is proper =
    after-more known IsSoundInitial IsSoundInitial (scalar_initialised known fixed first.kind here value) _ (scalar-gives known fixed first.kind here value sound is proper)
    (λ behind initial more still are. stays-so behind IsSoundInitial (braced first.depth initial) still are)

one-gives : (setting : Setting) (known : Known) (fixed : Bool) (type : CType) (here : ℕ) (expr : Expr) (tree : Tree) → IsSoundKnown known → IsSound known tree → IsProper type
    → GivesMore known IsSoundInitial (initialised_by setting known fixed type here expr tree)
one-gives setting known fixed type here expr tree sound is proper =
    either-gives known IsSoundInitial (is_scalar type) (scalar_initialised known fixed type here (as_value tree)) _
    (scalar-gives known fixed type here (as_value tree) sound (as-value-sound known tree is) proper)
    (obeys-more known IsSoundInitial (is_string_for setting expr type) 8 here _ (λ string. stays-so known IsSoundInitial (single tree) sound (is, tt)))

-- ---- lists

part-gives : (known : Known) (found : Option CType) (surplus : Outcome Initial) (part : CType → Outcome Initial) → GivesMore known IsSoundInitial surplus
    → ((type : CType) → found ≡ Some type → GivesMore known IsSoundInitial (part type)) → GivesMore known IsSoundInitial (if_part found surplus part)
part-gives known None surplus part h g = h
part-gives known (Some type) surplus part h g = g type refl

module _ (setting : Setting) where
  misplaced-gives : (known : Known) (span : Span) (items : Initialisers) → GivesMore known AllSound (all_expressions_alone setting known items)
      → GivesMore known IsSoundInitial (misplaced setting known span items)
  misplaced-gives known span items h =
      let refused : Known → List Tree → Outcome Initial = λ behind trees. broken 8 span.first in
      after-more known AllSound IsSoundInitial (all_expressions_alone setting known items) refused h (λ behind trees more still are. tt)

  all-alone : (known : Known) (first : Initialiser) (others : Initialisers) → GivesMore known AllSound (expressions_alone setting known first)
      → ((behind : Known) → IsSoundKnown behind → GivesMore behind AllSound (all_expressions_alone setting behind others))
      → GivesMore known AllSound (all_expressions_alone setting known (tree.more_initialisers first others))
  unfolding all_expressions_alone
  all-alone known first others h rest =
      after-more known AllSound AllSound (expressions_alone setting known first) _ h (λ then_known made more sound are.
      after-more then_known AllSound AllSound (all_expressions_alone setting then_known others) _ (rest then_known sound)
      (λ behind trees further still are-too. stays-so behind AllSound (made ++ trees) still
      (all-sound-append behind made trees (all-sound-stay then_known behind further sound.complete made are) are-too)))

  all-initialise : (fixed : Bool) (known : Known) (type : CType) (span : Span) (n : ℕ) (first : Initialiser) (others : Initialisers) → IsProper type
      → GivesMore known AllSound (all_expressions_alone setting known (tree.more_initialisers first others))
      → ((part : CType) → IsProper part → GivesMore known IsSoundInitial (typed_initialiser setting fixed known part first))
      → ((behind : Known) → IsSoundKnown behind → GivesMore behind AreSoundInitials (typed_initialisers setting fixed behind type span (n + 1) others))
      → GivesMore known AreSoundInitials (typed_initialisers setting fixed known type span n (tree.more_initialisers first others))
  unfolding typed_initialisers
  all-initialise fixed known type span n first others proper alone one rest =
      let items = tree.more_initialisers first others in
      after-more known IsSoundInitial AreSoundInitials
      (if_part (part_type known.types type n) (misplaced setting known span items) (λ part. typed_initialiser setting fixed known part first)) _
      (part-gives known (part_type known.types type n) (misplaced setting known span items) (λ part. typed_initialiser setting fixed known part first)
      (misplaced-gives known span items alone) (λ part e. one part (part-proper known.types type n proper part e)))
      (λ then_known made more sound are. after-more then_known AreSoundInitials AreSoundInitials (typed_initialisers setting fixed then_known type span (n + 1) others) _ (rest then_known sound)
      (λ behind initials further still are-too. stays-so behind AreSoundInitials (with_first made initials) still
      (all-sound-append behind made.expressions initials.expressions (all-sound-stay then_known behind further sound.complete made.expressions are) are-too)))

-- ---- the syntax

module _ (setting : Setting) (tokens : AreSoundTokens setting.source.tokens) where
  expression-gives : (known : Known) (names : List Declared) (expr : Expr) → IsExpr setting.source names expr → IsSoundKnown known → GivesMore known IsSound (typed setting true known expr)
  expression-gives known names expr is sound = expr-more setting tokens true known names (expr_span expr) expr is sound

  in-braces-gives : (fixed : Bool) (known : Known) (names : List Declared) (type : CType) (span : Span) (first : Initialiser) (others : Initialisers) → IsInitialiser setting.source names first
      → IsSoundKnown known → IsProper type → GivesMore known AllSound (all_expressions_alone setting known (tree.more_initialisers first others))
      → GivesMore known IsSoundInitial (scalar_in_braces setting fixed known type span (tree.more_initialisers first others))
  unfolding IsInitialiser
  in-braces-gives fixed known names type span (tree.value at expr) tree.no_initialisers is sound proper alone =
      after-more known IsSound IsSoundInitial (typed setting true known expr) _ (expression-gives known names expr is.1 sound)
      (λ behind made more still fine. scalar-gives behind fixed type at.first (as_value made) still (as-value-sound behind made fine) proper)
  in-braces-gives fixed known names type span first others is sound proper alone = misplaced-gives setting known span (tree.more_initialisers first others) alone

  all-zero-gives : (fixed : Bool) (known : Known) (names : List Declared) (type : CType) (span : Span) (first : Initialiser) (others : Initialisers) → IsInitialiser setting.source names first
      → IsSoundKnown known → IsProper type → GivesMore known AllSound (all_expressions_alone setting known (tree.more_initialisers first others))
      → GivesMore known IsSoundInitial (all_zero setting fixed known type span (tree.more_initialisers first others))
  unfolding IsInitialiser
  all-zero-gives fixed known names type span (tree.value at expr) tree.no_initialisers is sound proper alone =
      after-more known IsSound IsSoundInitial (typed setting true known expr) _ (expression-gives known names expr is.1 sound)
      (λ behind made more still fine. if-more behind IsSoundInitial (first_scalar known.types type) 8 span.first _
      (λ first e. zero-gives behind fixed first at.first (as_value made) still (as-value-sound behind made fine) (first-of known type proper first e)))
  all-zero-gives fixed known names type span first others is sound proper alone = misplaced-gives setting known span (tree.more_initialisers first others) alone

  mutual
    unfolding expressions_alone all_expressions_alone IsInitialiser AreMoreInitialisers

    -- what initialises nothing
    pub alone-gives : (known : Known) (names : List Declared) (one : Initialiser) → IsInitialiser setting.source names one → IsSoundKnown known
        → GivesMore known AllSound (expressions_alone setting known one)
    alone-gives known names (tree.value span expr) h sound =
        after-more known IsSound AllSound (typed setting true known expr) _ (expression-gives known names expr h.1 sound)
        (λ behind made more still is. stays-so behind AllSound (as_value made ∷ []) still (value-sound behind (as_value made) (as-value-sound behind made is), tt))
    alone-gives known names (tree.braces span tree.no_initialisers trailing) h sound = absurd h
    alone-gives known names (tree.braces span (tree.more_initialisers first others) trailing) h sound =
        all-alone setting known first others (alone-gives known _ first h.2 sound) (λ behind still. more-alone-give behind _ _ others h.3 still)

    more-alone-give : (known : Known) (names : List Declared) (at : ℕ) (items : Initialisers) → AreMoreInitialisers setting.source names at items → IsSoundKnown known
        → GivesMore known AllSound (all_expressions_alone setting known items)
    more-alone-give known names at tree.no_initialisers h sound = stays-so known AllSound [] sound tt
    more-alone-give known names at (tree.more_initialisers first others) h sound =
        all-alone setting known first others (alone-gives known _ first h.2 sound) (λ behind still. more-alone-give behind _ _ others h.3 still)

  mutual
    unfolding typed_initialiser typed_initialisers IsInitialiser AreMoreInitialisers

    pub initialiser-gives : (fixed : Bool) (known : Known) (names : List Declared) (type : CType) (one : Initialiser) → IsInitialiser setting.source names one → IsSoundKnown known
        → IsProper type → GivesMore known IsSoundInitial (typed_initialiser setting fixed known type one)
    initialiser-gives fixed known names type (tree.value span expr) h sound proper =
        after-more known IsSound IsSoundInitial (typed setting true known expr) _ (expression-gives known names expr h.1 sound)
        (λ behind made more still is. one-gives setting behind fixed type span.first expr made still is proper)
    initialiser-gives fixed known names type (tree.braces span tree.no_initialisers trailing) h sound proper = absurd h
    initialiser-gives fixed known names type (tree.braces span (tree.more_initialisers first others) trailing) h sound proper =
        let items = tree.more_initialisers first others in
        let alone = all-alone setting known first others (alone-gives known _ first h.2 sound) (λ behind still. more-alone-give behind _ _ others h.3 still) in
        either-gives known IsSoundInitial (is_scalar type) (scalar_in_braces setting fixed known type span items) _ (in-braces-gives fixed known _ type span first others h.2 sound proper alone)
        (either-gives known IsSoundInitial (is_zero_list setting items trailing) (all_zero setting fixed known type span items) _
        (all-zero-gives fixed known _ type span first others h.2 sound proper alone)
        (after-more known AreSoundInitials IsSoundInitial (typed_initialisers setting fixed known type span 0 items) (λ behind made. given behind (enclosed made))
        (all-initialise setting fixed known type span 0 first others proper alone (λ part is. initialiser-gives fixed known _ part first h.2 sound is)
        (λ behind still. more-give fixed behind _ type span (0 + 1) _ others h.3 still proper))
        (λ behind made more still are. stays-so behind IsSoundInitial (enclosed made) still are)))

    more-give : (fixed : Bool) (known : Known) (names : List Declared) (type : CType) (span : Span) (n at : ℕ) (items : Initialisers) → AreMoreInitialisers setting.source names at items
        → IsSoundKnown known → IsProper type → GivesMore known AreSoundInitials (typed_initialisers setting fixed known type span n items)
    more-give fixed known names type span n at tree.no_initialisers h sound proper = stays-so known AreSoundInitials no_initials sound tt
    more-give fixed known names type span n at (tree.more_initialisers first others) h sound proper =
        all-initialise setting fixed known type span n first others proper
        (all-alone setting known first others (alone-gives known _ first h.2 sound) (λ behind still. more-alone-give behind _ _ others h.3 still))
        (λ part is. initialiser-gives fixed known _ part first h.2 sound is) (λ behind still. more-give fixed behind _ type span (n + 1) _ others h.3 still proper)
