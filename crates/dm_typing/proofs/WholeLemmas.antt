-- Whole expressions and type names are well typed: by induction over the syntax.
use Rattle.std.specs.Prelude.{◌≡◌, ℕ, ℤ, pos, ◌+ℤ◌, negsuc, Bool, true, false, not, if◌then◌else◌, List, [], ◌∷◌, Option, Some, None, is_some, slice_get, unwrap_or, refl}
use Rattle.std.proofs.Common.{sym}
use Rattle.std.proofs.lemmas.List.Elements.{All-nil}
use Rattle.dm_token.specs.declared.place.Span.{Span}
use Rattle.dm_token.specs.declared.token.CToken.{CToken}
use Rattle.dm_int.specs.declared.Kind.TheVariants as k
use Rattle.dm_type.specs.declared.shape.Shape.{Shape}
use Rattle.dm_type.specs.CTypes.{CType, integer, bare}
use Rattle.dm_scope.specs.Scopes.{Scopes}
use Rattle.dm_syn.specs.declared.declared.Declared.{Declared}
use Rattle.dm_syn.specs.declared.symbol.Symbol.{Symbol}
use Rattle.dm_syn.specs.declared.symbol.Symbol.TheVariants as symbol
use Rattle.dm_syn.specs.Sources.{Source, symbol_of_token, symbol_at, symbol_in, seen_as, names_type, spelling_at}
use Rattle.dm_syn.specs.Spans.{expr_span, declarator_span}
use Rattle.dm_syn.specs.Scopes.{declarator_name}
use Rattle.dm_syn.specs.Grammar.{Types, IsExpr, AreArguments, AreMoreExprs, IsTypeName, IsSpecifiers, AreWords, IsSpecifier, AreMembers, IsMember, AreMoreDeclarators, AreMoreEnumerators, IsEnumerator, IsDeclarator, IsDirect, AreParameters, AreMoreParameters, IsParameter}
use Rattle.dm_syn.specs.Trees.{Expr, Exprs, TypeName, Specifiers, Words, Specifier, Members, Member, Declarators, Enumerators, Enumerator, Declarator, Direct, Parameters, Parameter}
use Rattle.dm_syn.specs.Trees as tree
use Rattle.dm_tree.specs.Scenes.{IsConstant}
use Rattle.dm_tree.specs.Trees.{Tree}
use Rattle.dm_tree.specs.Units.{Declaration}
use Rattle.dm_typing.specs.declared.extent.Extent.{Extent}
use Rattle.dm_typing.specs.Known.{Known, Setting, Outcome, given, after, with_it, obeys, if_given, meaning_of}
use Rattle.dm_typing.specs.Operators.{keyword_at}
use Rattle.dm_typing.specs.Conversions.{is_complete, as_value}
use Rattle.dm_typing.specs.Specifiers.{Said, nothing_said, with_word, with_type, Where, elsewhere}
use Rattle.dm_typing.specs.Typing.{constant_tree, literal_tree, typed_index, typed_member, typed_arrow, typed_count, typed_prefix, typed_sizeof, typed_sizeof_name, typed_cast, typed_binary, typed_choice, typed_assignment, typed_call, comma_of, tag_declared, tag_inside, tag_seen, with_new_struct, struct_begun, beginning, TypedMember, is_named, name_of, typed_field, TypedParameter, Step, arraying, calling, derived, direct_at, length_of, without_void, typed_parameter, parameter_at, entered, left, TypedName, extent, typed, typed_within, typed_values, typed_name, typed_specifiers, words_said, word_said, fields_of, fields_declared, fields_with, enumerators_of, enumerator_of, steps_of, direct_steps, parameters_of, parameter_of}
use Rattle.dm_typing.specs.Sound.{AreTypes, AreSteps, IsType, IsSoundKnown, scene_of, AreSoundTokens, IsSound, AreSound, IsTypedName, Gives, GivesMore}
use Rattle.dm_typing.proofs.ConversionLemmas.{bare-again, bare-proper}
use Rattle.dm_typing.proofs.MemberLemmas.{member-gives, arrow-gives}
use Rattle.dm_typing.proofs.TableLemmas.{table-proper}
use Rattle.dm_typing.proofs.NameLemmas.{constant-sound, literal-sound, name-gives as named-gives}
use Rattle.dm_typing.proofs.CallLemmas.{call-gives, cast-gives, sizeof-name-gives}
use Rattle.dm_typing.proofs.ChoiceLemmas.{choice-gives}
use Rattle.dm_typing.proofs.RuleLemmas.{value-sound, binary-gives, comma-gives, sizeof-gives, index-gives}
use Rattle.dm_typing.proofs.WriteLemmas.{as-value-sound, gives-sound, assignment-gives, count-gives, prefix-gives}
use Rattle.dm_typing.proofs.GrowthLemmas.{sound-stays, constants-sound-stay}
use Rattle.dm_typing.proofs.StructLemmas.{layered-all}
use Rattle.dm_typing.proofs.KnownLemmas.{Any, knows-through, type-stays, stays-so, gives-more, from-more, after-more, with-more, obeys-more, if-more, IsFound, found-entry, meaning-found, length-more, declared-more, valued-more}
use Rattle.dm_typing.proofs.DerivedLemmas.{SaidFits, said-stays, word-fits, type-fits, said-more, steps-stay, pointers-fit, declarator-gives, type-gives, IsParameterType, AreParameterTypes, parameter-gives, without-void-fits, entered-sound, left-more, name-gives}
use Rattle.dm_typing.proofs.TagLemmas.{Grown, tag-inside-found, tag-seen-found, enum-grown, enum-gives, struct-gives, struct-starts, beginning-sound, struct-ends}

-- ---- nothing is declared

abbrev at-start : List Shape → Scopes → Known
at-start shapes scopes = record { types = record { shapes = shapes; structs = [] }; scopes = scopes; declared = []; begun = []; constants = [] }

pub sound-start : (shapes : List Shape) (scopes : Scopes) → IsSoundKnown (at-start shapes scopes)
sound-start shapes scopes = record {
  entries = λ at entry h. absurd (cc);
  complete = λ at members e. absurd (cc);
  layered = ((λ at. 0), (λ at members n one inner others e. absurd (cc)), (λ at members e. absurd (cc)));
  sizes = λ at content one e. absurd (cc);
  begun = λ at h. absurd (cc);
  constants = (All-nil (IsConstant (scene_of (at-start shapes scopes))), tt);
}

-- ---- constants

seen-constant : (it : Symbol) (names_type : Bool) → seen_as it names_type ≡ symbol.Constant → it ≡ symbol.Constant
seen-constant symbol.Identifier true h = absurd (cc)
seen-constant symbol.Identifier false h = absurd (cc)
seen-constant it names_type h = h

constant-stands : (setting : Setting) → AreSoundTokens setting.source.tokens → (known : Known) (span : Extent) (at : ℕ) → symbol_at setting.source at ≡ symbol.Constant
    → IsSound known (constant_tree setting span (slice_get setting.source.tokens at))
unfolding symbol_at
constant-stands setting tokens known span at h = go (slice_get setting.source.tokens at) refl h
  where
    go : (found : Option CToken) → slice_get setting.source.tokens at ≡ found → symbol_of_token found ≡ symbol.Constant → IsSound known (constant_tree setting span found)
    go (Some token) e h = value-sound known (constant_tree setting span (Some token)) (constant-sound setting known span token (tokens at token e h))
    go None e h = absurd (cc)

constant-in : (source : Source) (names : List Declared) (at : ℕ) → symbol_in source names at ≡ symbol.Constant → symbol_at source at ≡ symbol.Constant
unfolding symbol_in
constant-in source names at h = seen-constant (symbol_at source at) (names_type source names (spelling_at source at)) h

-- ---- forms by their parts

one-gives : (known : Known) (one : Outcome Tree) (next : Known → Tree → Outcome Tree) → GivesMore known IsSound one
    → ((behind : Known) (made : Tree) → IsSoundKnown behind → IsSound behind made → Gives behind IsSound (next behind made)) → GivesMore known IsSound (after one next)
one-gives known one next h step =
    after-more known IsSound IsSound one next h (λ behind made more sound is. gives-more behind IsSound (next behind made) sound (step behind made sound is))

two-give : (known : Known) (one : Outcome Tree) (other : Known → Outcome Tree) (next : Known → Tree → Tree → Outcome Tree) → GivesMore known IsSound one
    → ((behind : Known) → IsSoundKnown behind → GivesMore behind IsSound (other behind))
    → ((behind : Known) (first second : Tree) → IsSoundKnown behind → IsSound behind first → IsSound behind second → Gives behind IsSound (next behind first second))
    → GivesMore known IsSound (after one (λ then_known first. after (other then_known) (λ behind second. next behind first second)))
two-give known one other next h others step =
    after-more known IsSound IsSound one _ h (λ then_known first more sound is. after-more then_known IsSound IsSound (other then_known) _ (others then_known sound)
    (λ behind second further still is-too. gives-more behind IsSound (next behind first second) still
    (step behind first second still (sound-stays then_known behind further sound.complete first is) is-too)))

three-give : (known : Known) (one : Outcome Tree) (other another : Known → Outcome Tree) (next : Known → Tree → Tree → Tree → Outcome Tree) → GivesMore known IsSound one
    → ((behind : Known) → IsSoundKnown behind → GivesMore behind IsSound (other behind))
    → ((behind : Known) → IsSoundKnown behind → GivesMore behind IsSound (another behind))
    → ((behind : Known) (first second third : Tree) → IsSoundKnown behind → IsSound behind first → IsSound behind second → IsSound behind third
    → Gives behind IsSound (next behind first second third))
    → GivesMore known IsSound (after one (λ then_known first. after (other then_known) (λ then_more second. after (another then_more) (λ behind third. next behind first second third))))
three-give known one other another next h others rest step =
    after-more known IsSound IsSound one _ h (λ then_known first more sound is. after-more then_known IsSound IsSound (other then_known) _ (others then_known sound)
    (λ then_more second further still is-second. after-more then_more IsSound IsSound (another then_more) _ (rest then_more still)
    (λ behind third last fine is-third. gives-more behind IsSound (next behind first second third) fine
    (step behind first second third fine (sound-stays then_more behind last still.complete first (sound-stays then_known then_more further sound.complete first is))
    (sound-stays then_more behind last still.complete second is-second) is-third))))

call-more : (setting : Setting) (known : Known) (span : Extent) (callee : Expr) (one : Outcome Tree) (all : Known → Outcome (List Tree)) → GivesMore known IsSound one
    → ((behind : Known) → IsSoundKnown behind → GivesMore behind AreSound (all behind))
    → GivesMore known IsSound (after one (λ then_known first. after (all then_known) (λ behind values. typed_call setting behind span callee first values)))
call-more setting known span callee one all h others =
    after-more known IsSound IsSound one _ h (λ then_known first more sound is. after-more then_known AreSound IsSound (all then_known) _ (others then_known sound)
    (λ behind values further still are. gives-more behind IsSound _ still
    (gives-sound behind _ (call-gives setting behind span callee first values (sound-stays then_known behind further sound.complete first is) are))))

comma-more : (setting : Setting) (known : Known) (span : Extent) (all : Outcome (List Tree)) → GivesMore known AreSound all
    → GivesMore known IsSound (after all (λ behind values. if_given (comma_of setting span values) 1 span.inner.first (λ made. given behind made)))
comma-more setting known span all h =
    after-more known AreSound IsSound all _ h (λ behind values more sound are. if-more behind IsSound (comma_of setting span values) 1 span.inner.first _
    (λ made e. stays-so behind IsSound made sound (value-sound behind made (comma-gives setting behind span values are made e))))

cast-more : (setting : Setting) (known : Known) (span : Extent) (name : Outcome TypedName) (operand : Known → Outcome Tree) → GivesMore known IsTypedName name
    → ((behind : Known) → IsSoundKnown behind → GivesMore behind IsSound (operand behind))
    → GivesMore known IsSound
    (after name (λ then_known named. after (operand then_known) (λ behind made. typed_cast setting behind span (bare named.kind) named.constants (as_value made))))
cast-more setting known span name operand h others =
    after-more known IsTypedName IsSound name _ h (λ then_known named more sound is. after-more then_known IsSound IsSound (operand then_known) _ (others then_known sound)
    (λ behind made further still is-made. gives-more behind IsSound _ still
    (gives-sound behind _ (cast-gives setting behind span (bare named.kind) named.constants (as_value made) (sym (bare-again named.kind is.0)) (bare-proper named.kind is.0)
    (constants-sound-stay then_known behind further sound.complete named.constants is.1) (as-value-sound behind made is-made)))))

size-more : (setting : Setting) (known : Known) (span : Extent) (name : Outcome TypedName) → GivesMore known IsTypedName name
    → GivesMore known IsSound (after name (λ behind named. typed_sizeof_name setting behind span named.kind named.constants))
size-more setting known span name h =
    after-more known IsTypedName IsSound name _ h (λ behind named more sound is. gives-more behind IsSound _ sound
    (gives-sound behind _ (sizeof-name-gives setting behind span named.kind named.constants is.1)))

values-give : (known : Known) (one : Outcome Tree) (rest : Known → Outcome (List Tree)) → GivesMore known IsSound one
    → ((behind : Known) → IsSoundKnown behind → GivesMore behind AreSound (rest behind))
    → GivesMore known AreSound (after one (λ then_known made. after (rest then_known) (λ behind values. given behind (as_value made ∷ values))))
values-give known one rest h others =
    after-more known IsSound AreSound one _ h (λ then_known made more sound is. after-more then_known AreSound AreSound (rest then_known) _ (others then_known sound)
    (λ behind values further still are. stays-so behind AreSound (as_value made ∷ values) still
    (as-value-sound behind made (sound-stays then_known behind further sound.complete made is), are)))

-- ---- what stands in type names

field-more : (setting : Setting) (known : Known) (here : ℕ) (name : Option ℕ) (before : List TypedMember) (type : CType) (rest : Known → List TypedMember → Outcome (List TypedMember))
    → ((so_far : List TypedMember) → GivesMore known Any (rest known so_far)) → GivesMore known Any (after (typed_field setting known here name before type) rest)
field-more setting known here name before type rest others =
    obeyed-then (is_complete known type) 5 here _ (obeyed-then (not (is_named (name_of setting name) before)) 6 (unwrap_or name here) _ (others _))
  where
    obeyed-then : (test : Bool) (rule at : ℕ) (next : Outcome (List TypedMember)) → GivesMore known Any (after next rest) → GivesMore known Any (after (obeys test rule at next) rest)
    obeyed-then true rule at next h = h
    obeyed-then false rule at next h = tt

fields-give : (setting : Setting) (known : Known) (base : CType) (here : ℕ) (name : Option ℕ) (before : List TypedMember) (steps : Outcome (List Step))
    (rest : Known → List TypedMember → Outcome (List TypedMember)) → IsType known base → GivesMore known AreSteps steps
    → ((behind : Known) (so_far : List TypedMember) → IsSoundKnown behind → IsType behind base → GivesMore behind Any (rest behind so_far))
    → GivesMore known Any
    (after steps (λ then_known made. after (derived then_known base made) (λ then_more type. after (typed_field setting then_more here name before type) rest)))
fields-give setting known base here name before steps rest is h others =
    declarator-gives known base Any steps (λ then_more type. after (typed_field setting then_more here name before type) rest) is h
    (λ behind type more sound type-is. field-more setting behind here name before type rest (λ so_far. others behind so_far sound (type-stays known behind more base is)))

sized-gives : (known : Known) (here at : ℕ) (one : Outcome (List Step)) (value : Known → Outcome Tree) → GivesMore known AreSteps one
    → ((behind : Known) → IsSoundKnown behind → GivesMore behind IsSound (value behind))
    → GivesMore known AreSteps
    (after one (λ then_known steps. after (value then_known) (λ then_more made. with_it (length_of then_more at (as_value made)) (λ behind n. arraying here (Some n) ∷ steps))))
sized-gives known here at one value h others =
    after-more known AreSteps AreSteps one _ h (λ then_known steps more sound fit. after-more then_known IsSound AreSteps (value then_known) _ (others then_known sound)
    (λ then_more made further still is. with-more then_more Any AreSteps (length_of then_more at (as_value made)) _ (length-more then_more at (as_value made) still (as-value-sound then_more made is))
    (λ behind n last fine any. (tt, steps-stay then_known behind (knows-through then_known then_more behind further last) steps fit))))

calling-gives : (known : Known) (here : ℕ) (one : Outcome (List Step)) (all : Known → Outcome (List TypedParameter)) → GivesMore known AreSteps one
    → ((behind : Known) → IsSoundKnown behind → GivesMore behind AreParameterTypes (all behind))
    → GivesMore known AreSteps
    (after one (λ then_known steps. with_it (left then_known.scopes (all (entered then_known))) (λ behind ones. calling here (without_void ones) ∷ steps)))
calling-gives known here one all h others =
    after-more known AreSteps AreSteps one _ h (λ then_known steps more sound fit. with-more then_known AreParameterTypes AreSteps (left then_known.scopes (all (entered then_known))) _
    (left-more then_known AreParameterTypes then_known.scopes (all (entered then_known)) (λ behind ones are. kept behind then_known.scopes ones are)
    (others (entered then_known) (entered-sound then_known sound)))
    (λ behind ones further still are. (without-void-fits behind ones are, steps-stay then_known behind further steps fit)))
  where
    kept-types : (behind : Known) (scopes : Scopes) (types : List CType) → AreTypes behind types → AreTypes (record behind { scopes = scopes }) types
    kept-types behind scopes [] h = tt
    kept-types behind scopes (type ∷ types) h = (h.0, kept-types behind scopes types h.1)

    kept : (behind : Known) (scopes : Scopes) (ones : List TypedParameter) → AreParameterTypes behind ones → AreParameterTypes (record behind { scopes = scopes }) ones
    kept behind scopes ones h = kept-types behind scopes _ h

parameters-give : (known : Known) (one : Outcome TypedParameter) (rest : Known → Outcome (List TypedParameter)) → GivesMore known IsParameterType one
    → ((behind : Known) → IsSoundKnown behind → GivesMore behind AreParameterTypes (rest behind))
    → GivesMore known AreParameterTypes (after one (λ then_known made. with_it (rest then_known) (λ behind others. made ∷ others)))
parameters-give known one rest h others =
    after-more known IsParameterType AreParameterTypes one _ h (λ then_known made more sound is. with-more then_known AreParameterTypes AreParameterTypes (rest then_known) _ (others then_known sound)
    (λ behind ones further still are. (type-stays then_known behind further made.kind is, are)))

typedef-more : (known : Known) (name : List ℕ) (at : ℕ) (said : Said) → IsSoundKnown known → SaidFits known said
    → GivesMore known SaidFits (if_given (meaning_of known name) 1 at (λ (entry : Declaration). given known (with_type entry.kind said)))
typedef-more known name at said sound fits =
    if-more known SaidFits (meaning_of known name) 1 at _
    (λ entry e. stays-so known SaidFits (with_type entry.kind said) sound (type-fits known entry.kind said fits (found-entry known (meaning_of known name) (meaning-found known sound name) entry e).1))

-- a type is one of the specifiers
type-more : (known : Known) (said : Said) (type : Outcome CType) → SaidFits known said → GivesMore known IsType type
    → GivesMore known SaidFits (with_it type (λ behind it. with_type it said))
type-more known said type fits h =
    with-more known IsType SaidFits type _ h (λ behind it more sound is. type-fits behind it said (said-stays known behind more said fits) is)

tag-either : (setting : Setting) (known : Known) → IsSoundKnown known → (alone : Bool) (tag : Option ℕ) → IsFound known (if alone then tag_inside setting known tag else tag_seen setting known tag)
tag-either setting known sound true tag = tag-inside-found setting known sound tag
tag-either setting known sound false tag = tag-seen-found setting known sound tag

enum-ends : (known behind : Known) (span : Span) (test : Bool) → Grown known behind → (outcome : Outcome ℤ) → GivesMore behind Any outcome
    → GivesMore known IsType (after outcome (λ last value. obeys test 4 span.first (given last (integer k.Int))))
enum-ends known behind span test grown outcome h =
    after-more known Any IsType outcome _ (from-more known behind Any outcome grown.more grown.begun h)
    (λ last value more sound any. obeys-more last IsType test 4 span.first _ (λ new. stays-so last IsType (integer k.Int) sound (tt, λ at e. absurd (cc))))

-- a type name begins without constants
abbrev bared : Known → Known
bared known = record known { constants = [] }

bared-sound : (known : Known) → IsSoundKnown known → IsSoundKnown (bared known)
bared-sound known sound = record { entries = sound.entries; complete = sound.complete; layered = sound.layered; sizes = sound.sizes; begun = sound.begun; constants = (All-nil (IsConstant (scene_of known)), tt) }

-- ---- the syntax

module _ (setting : Setting) (tokens : AreSoundTokens setting.source.tokens) where
  mutual
    unfolding typed_within typed_values typed_name typed_specifiers words_said word_said fields_of fields_declared fields_with enumerators_of enumerator_of steps_of direct_steps parameters_of parameter_of IsExpr AreArguments AreMoreExprs IsTypeName IsSpecifiers AreWords IsSpecifier AreMembers IsMember AreMoreDeclarators AreMoreEnumerators IsEnumerator IsDeclarator IsDirect AreParameters AreMoreParameters IsParameter

    -- 6.5
    pub expr-more : (used : Bool) (known : Known) (names : List Declared) (outer : Span) (expr : Expr) → IsExpr setting.source names expr → IsSoundKnown known
        → GivesMore known IsSound (typed_within setting used known outer expr)
    expr-more used known names outer (tree.name span) h sound =
        gives-more known IsSound _ sound
        (named-gives setting known (extent span outer) (λ at entry e. let it = sound.entries at entry e in (it.0, it.1.0)) used (spelling_at setting.source span.first)
        (meaning_of known (spelling_at setting.source span.first)) refl)
    expr-more used known names outer (tree.constant span) h sound =
        stays-so known IsSound (constant_tree setting (extent span outer) (slice_get setting.source.tokens span.first)) sound
        (constant-stands setting tokens known (extent span outer) span.first (constant-in setting.source names span.first h.0))
    expr-more used known names outer (tree.literal span) h sound =
        stays-so known IsSound (literal_tree setting (extent span outer) (spelling_at setting.source span.first)) sound
        (literal-sound setting known (extent span outer) (spelling_at setting.source span.first))
    expr-more used known names outer (tree.paren span inner) h sound = expr-more used known _ outer inner h.2 sound
    expr-more used known names outer (tree.index span a b) h sound =
        two-give known (typed setting used known a) (λ then_known. typed setting used then_known b)
        (λ behind first second. typed_index setting behind (extent span outer) (as_value first) (as_value second)) (expr-more used known _ (expr_span a) a h.1 sound)
        (λ then_known still. expr-more used then_known _ (expr_span b) b h.5 still)
        (λ behind first second still one other. index-gives setting behind (extent span outer) (as_value first) (as_value second) (as-value-sound behind first one) (as-value-sound behind second other))
    expr-more used known names outer (tree.call span callee arguments) h sound =
        call-more setting known (extent span outer) callee (typed setting used known callee) (λ then_known. typed_values setting used then_known arguments)
        (expr-more used known _ (expr_span callee) callee h.1 sound) (λ then_known still. arguments-more used then_known _ _ arguments h.4 still)
    expr-more used known names outer (tree.member span whole name) h sound =
        one-gives known (typed setting used known whole) (λ behind made. typed_member setting behind (extent span outer) name made) (expr-more used known _ (expr_span whole) whole h.1 sound)
        (λ behind made still is. member-gives setting behind (extent span outer) (table-proper behind.types) name made is)
    expr-more used known names outer (tree.arrow span operand name) h sound =
        one-gives known (typed setting used known operand) (λ behind made. typed_arrow setting behind (extent span outer) name (as_value made)) (expr-more used known _ (expr_span operand) operand h.1 sound)
        (λ behind made still is. arrow-gives setting behind (extent span outer) (table-proper behind.types) name (as_value made) (as-value-sound behind made is))
    expr-more used known names outer (tree.postfix span operand operator) h sound =
        one-gives known (typed setting used known operand) (λ behind made. typed_count setting behind (extent span outer) operator false made) (expr-more used known _ (expr_span operand) operand h.1 sound)
        (λ behind made still is. gives-sound behind _ (count-gives setting behind (extent span outer) (layered-all behind still) operator false made is))
    expr-more used known names outer (tree.prefix span operator operand) h sound =
        one-gives known (typed setting used known operand) (λ behind made. typed_prefix setting behind (extent span outer) operator made (symbol_at setting.source operator))
        (expr-more used known _ (expr_span operand) operand h.2 sound)
        (λ behind made still is. prefix-gives setting behind (extent span outer) (layered-all behind still) operator made (symbol_at setting.source operator) is)
    expr-more used known names outer (tree.sizeof_expr span operand) h sound =
        one-gives known (typed setting false known operand) (λ behind made. typed_sizeof setting behind (extent span outer) made) (expr-more false known _ (expr_span operand) operand h.2 sound)
        (λ behind made still is. gives-sound behind _ (sizeof-gives setting behind (extent span outer) made is))
    expr-more used known names outer (tree.sizeof_name span name) h sound =
        size-more setting known (extent span outer) (typed_name setting false known name) (name-more false known _ name h.3 sound)
    expr-more used known names outer (tree.cast span name operand) h sound =
        cast-more setting known (extent span outer) (typed_name setting used known name) (λ then_known. typed setting used then_known operand) (name-more used known _ name h.2 sound)
        (λ then_known still. expr-more used then_known _ (expr_span operand) operand h.5 still)
    expr-more used known names outer (tree.binary span a operator b) h sound =
        two-give known (typed setting used known a) (λ then_known. typed setting used then_known b)
        (λ behind first second. typed_binary setting behind (extent span outer) operator (as_value first) (as_value second) (symbol_at setting.source operator)) (expr-more used known _ (expr_span a) a h.1 sound)
        (λ then_known still. expr-more used then_known _ (expr_span b) b h.6 still)
        (λ behind first second still one other. gives-sound behind _
        (binary-gives setting behind (extent span outer) operator (as_value first) (as_value second) (symbol_at setting.source operator) (as-value-sound behind first one) (as-value-sound behind second other)))
    expr-more used known names outer (tree.conditional span a b c) h sound =
        three-give known (typed setting used known a) (λ then_known. typed setting used then_known b) (λ then_more. typed setting used then_more c)
        (λ behind first second third. typed_choice setting behind (extent span outer) (as_value first) (as_value second) (as_value third)) (expr-more used known _ (expr_span a) a h.1 sound)
        (λ then_known still. expr-more used then_known _ (expr_span b) b h.5 still) (λ then_more still. expr-more used then_more _ (expr_span c) c h.8 still)
        (λ behind first second third still one other another. gives-sound behind _
        (choice-gives setting behind (extent span outer) (as_value first) (as_value second) (as_value third) (as-value-sound behind first one) (as-value-sound behind second other)
        (as-value-sound behind third another)))
    expr-more used known names outer (tree.assign span object operator value) h sound =
        two-give known (typed setting used known object) (λ then_known. typed setting used then_known value)
        (λ behind first second. typed_assignment setting behind (extent span outer) operator first (as_value second) (symbol_at setting.source operator)) (expr-more used known _ (expr_span object) object h.1 sound)
        (λ then_known still. expr-more used then_known _ (expr_span value) value h.6 still)
        (λ behind first second still one other. gives-sound behind _
        (assignment-gives setting behind (extent span outer) (layered-all behind still) operator first (as_value second) (symbol_at setting.source operator) one (as-value-sound behind second other)))
    expr-more used known names outer (tree.comma span tree.no_exprs) h sound = absurd h
    expr-more used known names outer (tree.comma span (tree.more_exprs first tree.no_exprs)) h sound = absurd h
    expr-more used known names outer (tree.comma span (tree.more_exprs first (tree.more_exprs second others))) h sound =
        comma-more setting known (extent span outer) (typed_values setting used known (tree.more_exprs first (tree.more_exprs second others)))
        (values-give known (typed setting used known first) (λ then_known. typed_values setting used then_known (tree.more_exprs second others))
        (expr-more used known _ (expr_span first) first h.1 sound) (λ then_known still. values-more used then_known _ _ (tree.more_exprs second others) h.3 still))

    arguments-more : (used : Bool) (known : Known) (names : List Declared) (at : ℕ) (exprs : Exprs) → AreArguments setting.source names at exprs → IsSoundKnown known
        → GivesMore known AreSound (typed_values setting used known exprs)
    arguments-more used known names at tree.no_exprs h sound = stays-so known AreSound [] sound tt
    arguments-more used known names at (tree.more_exprs first others) h sound =
        values-give known (typed setting used known first) (λ then_known. typed_values setting used then_known others) (expr-more used known _ (expr_span first) first h.1 sound)
        (λ then_known still. values-more used then_known _ _ others h.3 still)

    values-more : (used : Bool) (known : Known) (names : List Declared) (at : ℕ) (exprs : Exprs) → AreMoreExprs setting.source names at exprs → IsSoundKnown known
        → GivesMore known AreSound (typed_values setting used known exprs)
    values-more used known names at tree.no_exprs h sound = stays-so known AreSound [] sound tt
    values-more used known names at (tree.more_exprs first others) h sound =
        values-give known (typed setting used known first) (λ then_known. typed_values setting used then_known others) (expr-more used known _ (expr_span first) first h.2 sound)
        (λ then_known still. values-more used then_known _ _ others h.4 still)

    -- 6.7.7
    pub name-more : (used : Bool) (known : Known) (names : List Declared) (name : TypeName) → IsTypeName setting.source names name → IsSoundKnown known
        → GivesMore known IsTypedName (typed_name setting used known name)
    name-more used known names (tree.type_name span specifiers declarator) h sound =
        name-gives known _ sound
        (after-more (bared known) IsType IsType (typed_specifiers setting used elsewhere false (bared known) specifiers) _
        (specifiers-more used (bared known) _ elsewhere false specifiers h.1 (bared-sound known sound))
        (λ then_known base more still is. type-gives then_known base (steps_of setting used then_known declarator) is (declarator-more used then_known _ false declarator h.3 still)))

    -- 6.7
    pub specifiers-more : (used : Bool) (known : Known) (names : List Declared) (stands : Where) (alone : Bool) (specifiers : Specifiers)
        → IsSpecifiers setting.source names specifiers → IsSoundKnown known → GivesMore known IsType (typed_specifiers setting used stands alone known specifiers)
    specifiers-more used known names stands alone (tree.listed span tree.no_words) h sound = absurd h
    specifiers-more used known names stands alone (tree.listed span (tree.more_words first others)) h sound =
        after-more known SaidFits IsType (words_said setting used alone known nothing_said (tree.more_words first others)) _
        (words-more used known _ _ _ alone nothing_said (tree.more_words first others) h.0 sound tt)
        (λ behind said more still fits. said-more behind stands span.first said still fits)

    pub words-more : (used : Bool) (known : Known) (names : List Declared) (at : ℕ) (types : Types) (alone : Bool) (said : Said) (words : Words)
        → AreWords setting.source names at types words → IsSoundKnown known → SaidFits known said → GivesMore known SaidFits (words_said setting used alone known said words)
    words-more used known names at types alone said tree.no_words h sound fits = stays-so known SaidFits said sound fits
    words-more used known names at types alone said (tree.more_words first others) h sound fits =
        after-more known SaidFits SaidFits (word_said setting used alone known said first) _ (word-more used known _ _ _ alone said first h.0 sound fits)
        (λ behind so_far more still fine. words-more used behind _ _ _ alone so_far others h.1 still fine)

    word-more : (used : Bool) (known : Known) (names : List Declared) (at : ℕ) (types : Types) (alone : Bool) (said : Said) (word : Specifier)
        → IsSpecifier setting.source names at types word → IsSoundKnown known → SaidFits known said → GivesMore known SaidFits (word_said setting used alone known said word)
    word-more used known names at types alone said (tree.keyword here) h sound fits =
        stays-so known SaidFits (with_word (unwrap_or (keyword_at setting.source here) 0) said) sound (word-fits known (unwrap_or (keyword_at setting.source here) 0) said fits)
    word-more used known names at types alone said (tree.typedef_name here) h sound fits = typedef-more known (spelling_at setting.source here) here said sound fits
    word-more used known names at types alone said (tree.struct_only span tag) h sound fits =
        type-more known said _ fits
        (struct-gives setting known sound span tag (if alone then tag_inside setting known tag else tag_seen setting known tag) (tag-either setting known sound alone tag))
    word-more used known names at types alone said (tree.struct_with span tag tree.no_members) h sound fits = absurd h
    word-more used known names at types alone said (tree.struct_with span tag (tree.more_members first others)) h sound fits =
        let found = tag_inside setting known tag in
        let starts = struct-starts setting known sound tag found (tag-inside-found setting known sound tag) in
        let behind = with_new_struct setting known tag found in
        let number = struct_begun known found in
        type-more known said _ fits
        (struct-ends known behind span number starts (fields_of setting used (beginning behind number) [] (tree.more_members first others))
        (members-more used (beginning behind number) _ _ [] (tree.more_members first others) h.5 (beginning-sound known behind number starts)))
    word-more used known names at types alone said (tree.enum_only span tag trailing) h sound fits =
        type-more known said _ fits (enum-gives setting known sound span (tag_seen setting known tag))
    word-more used known names at types alone said (tree.enum_with span tag tree.no_enumerators trailing) h sound fits = absurd h
    word-more used known names at types alone said (tree.enum_with span tag (tree.more_enumerators first others) trailing) h sound fits =
        let test = is_some (tag_inside setting known tag) in
        let grown = enum-grown setting known sound tag test in
        let behind = if test then known else tag_declared setting known tag (integer k.Int) in
        type-more known said _ fits
        (enum-ends known behind span (not test) grown (enumerators_of setting used behind (negsuc 0) (tree.more_enumerators first others))
        (after-more behind Any Any (enumerator_of setting used behind (negsuc 0) first) _ (enumerator-more used behind _ (negsuc 0) first h.6 grown.sound)
        (λ then_known value more still any. enumerators-more used then_known _ _ value others h.7 still)))

    -- 6.7.2.1
    members-more : (used : Bool) (known : Known) (names : List Declared) (at : ℕ) (before : List TypedMember) (members : Members) → AreMembers setting.source names at members
        → IsSoundKnown known → GivesMore known Any (fields_of setting used known before members)
    members-more used known names at before tree.no_members h sound = stays-so known Any before sound tt
    members-more used known names at before (tree.more_members first others) h sound =
        after-more known Any Any (fields_declared setting used known before first) _ (member-more used known _ before first h.1 sound)
        (λ behind so_far more still any. members-more used behind _ _ so_far others h.2 still)

    member-more : (used : Bool) (known : Known) (names : List Declared) (before : List TypedMember) (member : Member) → IsMember setting.source names member
        → IsSoundKnown known → GivesMore known Any (fields_declared setting used known before member)
    member-more used known names before (tree.members span specifiers tree.no_declarators) h sound = absurd h
    member-more used known names before (tree.members span specifiers (tree.more_declarators first others)) h sound =
        after-more known IsType Any (typed_specifiers setting used elsewhere false known specifiers) _ (specifiers-more used known _ elsewhere false specifiers h.1 sound)
        (λ behind base more still is. fields-give setting behind base (declarator_span first).first (declarator_name first) before (steps_of setting used behind first)
        (λ then_known so_far. fields_with setting used then_known base so_far others) is (declarator-more used behind _ false first h.3 still)
        (λ then_known so_far fine is-still. declarators-more used then_known _ _ base so_far others h.5 fine is-still))

    declarators-more : (used : Bool) (known : Known) (names : List Declared) (at : ℕ) (base : CType) (before : List TypedMember) (declarators : Declarators)
        → AreMoreDeclarators setting.source names at declarators → IsSoundKnown known → IsType known base → GivesMore known Any (fields_with setting used known base before declarators)
    declarators-more used known names at base before tree.no_declarators h sound is = stays-so known Any before sound tt
    declarators-more used known names at base before (tree.more_declarators first others) h sound is =
        fields-give setting known base (declarator_span first).first (declarator_name first) before (steps_of setting used known first)
        (λ then_known so_far. fields_with setting used then_known base so_far others) is (declarator-more used known _ false first h.2 sound)
        (λ then_known so_far fine is-still. declarators-more used then_known _ _ base so_far others h.4 fine is-still)

    -- 6.7.2.2
    enumerators-more : (used : Bool) (known : Known) (names : List Declared) (at : ℕ) (last : ℤ) (enumerators : Enumerators) → AreMoreEnumerators setting.source names at enumerators
        → IsSoundKnown known → GivesMore known Any (enumerators_of setting used known last enumerators)
    enumerators-more used known names at last tree.no_enumerators h sound = stays-so known Any last sound tt
    enumerators-more used known names at last (tree.more_enumerators first others) h sound =
        after-more known Any Any (enumerator_of setting used known last first) _ (enumerator-more used known _ last first h.2 sound)
        (λ behind value more still any. enumerators-more used behind _ _ value others h.3 still)

    enumerator-more : (used : Bool) (known : Known) (names : List Declared) (last : ℤ) (enumerator : Enumerator) → IsEnumerator setting.source names enumerator
        → IsSoundKnown known → GivesMore known Any (enumerator_of setting used known last enumerator)
    enumerator-more used known names last (tree.bare span at) h sound = declared-more setting known at (last +ℤ pos 1) sound
    enumerator-more used known names last (tree.valued span at value) h sound =
        after-more known IsSound Any (typed setting used known value) _ (expr-more used known _ (expr_span value) value h.4 sound)
        (λ behind made more still is. valued-more setting behind at (expr_span value).first (as_value made) still (as-value-sound behind made is))

    -- 6.7.6
    pub declarator-more : (used : Bool) (known : Known) (names : List Declared) (of_parameter : Bool) (declarator : Declarator) → IsDeclarator setting.source names of_parameter declarator
        → IsSoundKnown known → GivesMore known AreSteps (steps_of setting used known declarator)
    declarator-more used known names of_parameter (tree.shaped span consts direct) h sound =
        with-more known AreSteps AreSteps (direct_steps setting used known (direct_at span.first consts) direct) _
        (direct-more used known _ of_parameter _ (direct_at span.first consts) direct h.1 sound)
        (λ behind steps more still fit. pointers-fit behind span.first consts steps fit)

    pub direct-more : (used : Bool) (known : Known) (names : List Declared) (of_parameter : Bool) (at here : ℕ) (direct : Direct) → IsDirect setting.source names of_parameter at direct
        → IsSoundKnown known → GivesMore known AreSteps (direct_steps setting used known here direct)
    direct-more used known names of_parameter at here tree.absent h sound = stays-so known AreSteps [] sound tt
    direct-more used known names of_parameter at here (tree.declared name) h sound = stays-so known AreSteps [] sound tt
    direct-more used known names of_parameter at here (tree.enclosed declarator) h sound = declarator-more used known _ of_parameter declarator h.3 sound
    direct-more used known names of_parameter at here (tree.array direct) h sound =
        with-more known AreSteps AreSteps (direct_steps setting used known here direct) _ (direct-more used known _ of_parameter _ here direct h.0 sound)
        (λ behind steps more still fit. (tt, fit))
    direct-more used known names of_parameter at here (tree.sized direct value) h sound =
        sized-gives known here (expr_span value).first (direct_steps setting used known here direct) (λ then_known. typed setting used then_known value)
        (direct-more used known _ of_parameter _ here direct h.0 sound) (λ then_known still. expr-more used then_known _ (expr_span value) value h.3 still)
    direct-more used known names of_parameter at here (tree.function direct parameters) h sound =
        calling-gives known here (direct_steps setting used known here direct) (λ then_known. parameters_of setting used then_known parameters)
        (direct-more used known _ of_parameter _ here direct h.0 sound) (λ then_known still. parameters-more used then_known _ _ parameters h.2 still)

    -- 6.7.6.3
    pub parameters-more : (used : Bool) (known : Known) (names : List Declared) (at : ℕ) (parameters : Parameters) → AreParameters setting.source names at parameters
        → IsSoundKnown known → GivesMore known AreParameterTypes (parameters_of setting used known parameters)
    parameters-more used known names at tree.no_parameters h sound = stays-so known AreParameterTypes [] sound tt
    parameters-more used known names at (tree.more_parameters first others) h sound =
        parameters-give known (parameter_of setting used known first) (λ then_known. parameters_of setting used then_known others) (parameter-more used known _ first h.1 sound)
        (λ then_known still. more-parameters-more used then_known _ _ others h.2 still)

    more-parameters-more : (used : Bool) (known : Known) (names : List Declared) (at : ℕ) (parameters : Parameters) → AreMoreParameters setting.source names at parameters
        → IsSoundKnown known → GivesMore known AreParameterTypes (parameters_of setting used known parameters)
    more-parameters-more used known names at tree.no_parameters h sound = stays-so known AreParameterTypes [] sound tt
    more-parameters-more used known names at (tree.more_parameters first others) h sound =
        parameters-give known (parameter_of setting used known first) (λ then_known. parameters_of setting used then_known others) (parameter-more used known _ first h.2 sound)
        (λ then_known still. more-parameters-more used then_known _ _ others h.3 still)

    pub parameter-more : (used : Bool) (known : Known) (names : List Declared) (parameter : Parameter) → IsParameter setting.source names parameter
        → IsSoundKnown known → GivesMore known IsParameterType (parameter_of setting used known parameter)
    parameter-more used known names (tree.parameter span specifiers declarator) h sound =
        after-more known IsType IsParameterType (typed_specifiers setting used elsewhere false known specifiers) _ (specifiers-more used known _ elsewhere false specifiers h.1 sound)
        (λ behind base more still is. declarator-gives behind base IsParameterType (steps_of setting used behind declarator)
        (λ then_known type. typed_parameter setting then_known (parameter_at span declarator) type (declarator_name declarator)) is (declarator-more used behind _ true declarator h.3 still)
        (λ then_known type further fine type-is. parameter-gives setting then_known (parameter_at span declarator) type (declarator_name declarator) fine type-is))
