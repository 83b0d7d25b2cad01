-- A unit's reading has one outcome, faults apart.
use Rattle.std.proofs.Common.{◌≡◌, ℕ, zero, suc, ◌⊎◌, inl, inr, Bool, true, false, List, [], ◌∷◌, ◌++◌, length, drop, map, Option, None, Some, Result, Ok, Err, MatchBool, IfSome, refl, sym, ap, ◌∙◌, subst}
use Rattle.std.specs.Prelude.{nat_lt, not, slice_get, slice_index_or, IfErr, IsPermutation, if◌then◌else◌}
use Rattle.std.specs.Option.{IsSomeAnd}
use Rattle.std.specs.List.{list_any}
use Rattle.std.proofs.lemmas.List.Sorted.{IsPermutation-refl, IsPermutation-sym, IsPermutation-trans, IsPermutation-append, IsPermutation-append_left}
use Rattle.dm_token.specs.Limits.{most_work, most_tokens, most_inclusions}
use Rattle.dm_token.specs.LimitNumbers as limits
use Rattle.dm_token.specs.Refusals as refusals
use Rattle.dm_token.specs.declared.stop.Stop.{Stop}
use Rattle.dm_token.specs.declared.stop.Stop.TheVariants.{Refused}
use Rattle.dm_token.specs.declared.stop.Refusal.{Refusal}
use Rattle.dm_token.specs.declared.token.PpToken.{PpToken}
use Rattle.dm_token.specs.declared.token.Token.{Token}
use Rattle.dm_token.specs.declared.unit.Use.{Use}
use Rattle.dm_token.specs.declared.expansion.Origin.{Origin}
use Rattle.dm_token.specs.declared.expansion.Origin.TheVariants.{Manifest}
use Rattle.dm_token.specs.declared.expansion.Definition.{Definition}
use Rattle.dm_macro.specs.Signs.{is_identifier, is_macro_name}
use Rattle.dm_macro.specs.Forms.{Gives, bare_hash, AreSame, refused}
use Rattle.dm_macro.specs.Tables.{Table, defined, recorded, Defines}
use Rattle.dm_expand.specs.Expansion.{Answer}
use Rattle.dm_cond.proofs.Truths.{truth-unique}
use Rattle.dm_search.specs.Headers.{header_number}
use Rattle.dm_search.specs.Joining.{candidates, places}
use Rattle.dm_unit.specs.declared.directive.Directive.{Directive}
use Rattle.dm_unit.specs.declared.directive.Directive.TheVariants.{If, Ifdef, Ifndef, Elif, Else, Endif, Include, Define, Undef, Line, Error, Pragma, Null, Unknown}
use Rattle.dm_unit.specs.declared.section.Stage.{Stage}
use Rattle.dm_unit.specs.declared.section.Stage.TheVariants.{Read, Waiting, Over}
use Rattle.dm_unit.specs.declared.section.Section.{Section}
use Rattle.dm_unit.specs.Lines.{Part, directive, text, parts_of}
use Rattle.dm_unit.specs.Directives.{directive_of}
use Rattle.dm_unit.specs.Sections.{is_read, after_else, after_skipped_elif, after_elif}
use Rattle.dm_unit.specs.States.{Setting, Catalogue, State, Outcome, refusal, limit, expansion_in, Then}
use Rattle.dm_unit.specs.Sources.{bytes_in, tokens_in, reading_of}
use Rattle.dm_unit.specs.Definitions.{CannotDefine, DefinesLine, DoesDefine, with_definition, begins_with_name, origin_of, is_plain_head, with_undefined, after_undef, use_of, define_line, define_text, DefinesText, DoesManifest}
use Rattle.dm_unit.specs.Includes.{Sought, sought, Searches, SearchesFor, LooksAt, is_header_kind, header_name, is_quoted, found_as, number_in, numbered}
use Rattle.dm_unit.specs.Conditions.{Tested, tested, with_uses, no_condition, Judged, JudgesExpanded, Evaluates, defined_test, names_asked, replaced, is_defined, is_defined_word, use_by}
use Rattle.dm_unit.specs.Readings.{with_text, after_expansion, after_text, within, pushed, opens, Opens, lost, DoesElifAt, DoesElif, else_in, endif_in, end_in, is_once, with_number, after_pragma, counted, Includes, DoesInclude, DoesRead, DoesDirective, ReadsPart, ReadsParts, begun, ReadsFile, is_passed, Enters, most_nested, DoesManifests, absent_place, ReadsFound, ReadsMain, ReadsUnit}
use Rattle.dm_unit.specs.Views.{IsFaultless}
use Rattle.dm_unit.specs.Outcomes.{seeing, Agree, using, IsLike}

-- STEPS

-- Two steps agree in all that they give but faults.
abbrev Once : {A : Type 0} → (A → A → Type 0) → (Result A Stop → Type 0) → (Result A Stop → Type 0) → Type 0
Once {A} Like P Q = (a b : Result A Stop) → P a → Q b → IfErr a IsFaultless → IfErr b IsFaultless → Agree Like a b

agree-at : {A : Type 0} (Like : A → A → Type 0) (a b x y : Result A Stop) → a ≡ x → b ≡ y → Agree Like x y → Agree Like a b
agree-at Like a b x y e f same = subst (λ r. Agree Like r b) (sym e) (subst (λ r. Agree Like x r) (sym f) same)

once-is : {A : Type 0} (Like : A → A → Type 0) (x y : Result A Stop) → Agree Like x y → Once Like (λ r. r ≡ x) (λ r. r ≡ y)
once-is Like x y same a b e f ca cb = agree-at Like a b x y e f same

once-match : {A : Type 0} (Like : A → A → Type 0) (c : Bool) (P P' Q Q' : Result A Stop → Type 0) → Once Like P P' → Once Like Q Q'
    → Once Like (λ r. MatchBool c (P r) (Q r)) (λ r. MatchBool c (P' r) (Q' r))
once-match Like true P P' Q Q' first second = first
once-match Like false P P' Q Q' first second = second

once-then : {A B : Type 0} (Like : A → A → Type 0) (Like' : B → B → Type 0) (P P' : Result A Stop → Type 0) (F F' : A → Result B Stop → Type 0)
    → Once Like P P' → ((m n : A) → Like m n → Once Like' (F m) (F' n)) → Once Like' (Then P F) (Then P' F')
once-then {A} {B} Like Like' P P' F F' first second a b (inl x) (inl y) ca cb =
    agree-at Like' a b (Err x.0) (Err y.0) x.2 y.2
    (first (Err x.0) (Err y.0) x.1 y.1 (subst (λ (r : Result B Stop). IfErr r IsFaultless) x.2 ca) (subst (λ (r : Result B Stop). IfErr r IsFaultless) y.2 cb))
once-then {A} {B} Like Like' P P' F F' first second a b (inl x) (inr y) ca cb =
    absurd (first (Err x.0) (Ok y.0) x.1 y.1 (subst (λ (r : Result B Stop). IfErr r IsFaultless) x.2 ca) tt)
once-then {A} {B} Like Like' P P' F F' first second a b (inr x) (inl y) ca cb =
    absurd (first (Ok x.0) (Err y.0) x.1 y.1 tt (subst (λ (r : Result B Stop). IfErr r IsFaultless) y.2 cb))
once-then {A} {B} Like Like' P P' F F' first second a b (inr x) (inr y) ca cb =
    second x.0 y.0 (first (Ok x.0) (Ok y.0) x.1 y.1 tt tt) a b x.2 y.2 ca cb

agree-if : {A : Type 0} (Like : A → A → Type 0) (c : Bool) (x x' y y' : Result A Stop) → Agree Like x x' → Agree Like y y'
    → Agree Like (if c then x else y) (if c then x' else y')
agree-if Like true x x' y y' first second = first
agree-if Like false x x' y y' first second = second

-- STATES

on-like : {B : Type 0} (Like : B → B → Type 0) (F F' : State → Result B Stop → Type 0)
    → ((s : State) (u : List Use) → IsPermutation s.uses u → Once Like (F s) (F' (using u s)))
    → (m n : State) → IsLike m n → Once Like (F m) (F' n)
on-like Like F F' once m n like = subst (λ t. Once Like (F m) (F' t)) (sym like.2) (once m like.0 like.1)

-- CONDITIONS

-- two tests have the same truth, and what they leave is like each other
abbrev IsTestedLike : Tested → Tested → Type 0
IsTestedLike one other = (uses : List Use) × IsPermutation one.state.uses uses × (other ≡ tested one.truth (using uses one.state))

on-tested : {B : Type 0} (Like : B → B → Type 0) (F F' : Tested → Result B Stop → Type 0)
    → ((t : Tested) (u : List Use) → IsPermutation t.state.uses u → Once Like (F t) (F' (tested t.truth (using u t.state))))
    → (m n : Tested) → IsTestedLike m n → Once Like (F m) (F' n)
on-tested Like F F' once m n like = subst (λ t. Once Like (F m) (F' t)) (sym like.2) (once m like.0 like.1)

once-judged : (start : PpToken) (asked : List Use) (answer : Answer) (s : State) (u : List Use) → IsPermutation s.uses u
    → Once IsTestedLike (Judged start asked answer s) (Judged start asked answer (using u s))
once-judged start asked answer s u p a b (inl x) (inl y) ca cb =
    agree-at IsTestedLike a b (Ok (tested x.0 (with_uses x.2 answer s))) (Ok (tested y.0 (with_uses y.2 answer (using u s)))) x.4 y.4 (
      u ++ y.2,
      IsPermutation-append s.uses u x.2 y.2 p (IsPermutation-trans x.2 (asked ++ map (use_by s.table) answer.expansions) y.2 (IsPermutation-sym (asked ++ map (use_by s.table) answer.expansions) x.2 x.3.0) y.3.0),
      ap (λ truth. tested truth (with_uses y.2 answer (using u s))) (truth-unique answer.tokens y.0 x.0 y.1 x.1),
    )
once-judged start asked answer s u p a b (inl x) (inr y) ca cb = absurd (y.0 x.0 x.1)
once-judged start asked answer s u p a b (inr x) (inl y) ca cb = absurd (x.0 y.0 y.1)
once-judged start asked answer s u p a b (inr x) (inr y) ca cb =
    agree-at IsTestedLike a b (no_condition start) (no_condition start) x.1 y.1 refl

once-expanded : (start : PpToken) (asked : List Use) (r : Result Answer Stop) (s : State) (u : List Use) → IsPermutation s.uses u
    → Once IsTestedLike (JudgesExpanded start asked r s) (JudgesExpanded start asked r (using u s))
once-expanded start asked (Ok answer) s u p =
    once-match IsTestedLike (list_any (λ (token : Token). is_defined_word token.pp) answer.tokens)
    (λ r. r ≡ no_condition start) (λ r. r ≡ no_condition start) (Judged start asked answer s) (Judged start asked answer (using u s))
    (once-is IsTestedLike (no_condition start) (no_condition start) refl) (once-judged start asked answer s u p)
once-expanded start asked (Err stop) s u p = once-is IsTestedLike (Err stop) (Err stop) refl

once-evaluates : (main : ℕ) (start : PpToken) (operands : List PpToken) (s : State) (u : List Use) → IsPermutation s.uses u
    → Once IsTestedLike (Evaluates main start operands s) (Evaluates main start operands (using u s))
once-evaluates main start operands s u p =
    once-expanded start (names_asked s.table operands) (expansion_in main s (replaced s.table operands)) s u p

agree-defined : (wanted : Bool) (start : PpToken) (operands : List PpToken) (s : State) (u : List Use) → IsPermutation s.uses u
    → Agree IsTestedLike (defined_test wanted start operands s) (defined_test wanted start operands (using u s))
agree-defined wanted start [] s u p = refl
agree-defined wanted start (name ∷ others) s u p =
    let truth = if wanted then is_defined s.table name else not (is_defined s.table name) in
    let one = use_of s.table name ∷ [] in
    agree-if IsTestedLike (is_identifier name)
    (Ok (tested truth (record s { uses = s.uses ++ one }))) (Ok (tested truth (record s { uses = u ++ one })))
    (Err (refusal refusals.directive start.place)) (Err (refusal refusals.directive start.place))
    (u ++ one, IsPermutation-append_left one s.uses u p, refl) refl

-- CONDITIONAL INCLUSION

once-opens : (start : PpToken) (T T' : Result Tested Stop → Type 0) (s : State) (u : List Use) → IsPermutation s.uses u → Once IsTestedLike T T'
    → Once IsLike (Opens start s T) (Opens start (using u s) T')
once-opens start T T' s u p tests =
    once-match IsLike (is_read s.sections)
    (Then T (λ (tested : Tested) (result : Outcome). result ≡ opens start tested)) (Then T' (λ (tested : Tested) (result : Outcome). result ≡ opens start tested))
    (λ r. r ≡ pushed start.place Over s) (λ r. r ≡ pushed start.place Over (using u s))
    (once-then IsTestedLike IsLike T T' (λ (tested : Tested) (result : Outcome). result ≡ opens start tested) (λ (tested : Tested) (result : Outcome). result ≡ opens start tested) tests
    (on-tested IsLike (λ (tested : Tested) (result : Outcome). result ≡ opens start tested) (λ (tested : Tested) (result : Outcome). result ≡ opens start tested)
    (λ t v q. once-is IsLike (opens start t) (opens start (tested t.truth (using v t.state))) (v, q, refl))))
    (once-is IsLike (pushed start.place Over s) (pushed start.place Over (using u s)) (u, p, refl))

once-elif-at : (stage : Stage) (section : Section) (outer : List Section) (T T' : Result Tested Stop → Type 0) (s : State) (u : List Use) → IsPermutation s.uses u → Once IsTestedLike T T'
    → Once IsLike (DoesElifAt stage section outer T s) (DoesElifAt stage section outer T' (using u s))
once-elif-at Waiting section outer T T' s u p tests =
    once-then IsTestedLike IsLike T T'
    (λ (tested : Tested) (result : Outcome). result ≡ Ok (within (after_elif tested.truth section ∷ outer) tested.state)) (λ (tested : Tested) (result : Outcome). result ≡ Ok (within (after_elif tested.truth section ∷ outer) tested.state)) tests
    (on-tested IsLike
    (λ (tested : Tested) (result : Outcome). result ≡ Ok (within (after_elif tested.truth section ∷ outer) tested.state)) (λ (tested : Tested) (result : Outcome). result ≡ Ok (within (after_elif tested.truth section ∷ outer) tested.state))
    (λ t v q. once-is IsLike (Ok (within (after_elif t.truth section ∷ outer) t.state)) (Ok (within (after_elif t.truth section ∷ outer) (using v t.state))) (v, q, refl)))
once-elif-at Read section outer T T' s u p tests =
    once-is IsLike (Ok (within (after_skipped_elif section ∷ outer) s)) (Ok (within (after_skipped_elif section ∷ outer) (using u s))) (u, p, refl)
once-elif-at Over section outer T T' s u p tests =
    once-is IsLike (Ok (within (after_skipped_elif section ∷ outer) s)) (Ok (within (after_skipped_elif section ∷ outer) (using u s))) (u, p, refl)

once-elif : (start : PpToken) (sections : List Section) (T T' : Result Tested Stop → Type 0) (s : State) (u : List Use) → IsPermutation s.uses u → Once IsTestedLike T T'
    → Once IsLike (DoesElif start sections T s) (DoesElif start sections T' (using u s))
once-elif start [] T T' s u p tests = once-is IsLike (lost start) (lost start) refl
once-elif start (section ∷ outer) T T' s u p tests =
    once-match IsLike section.has_else (λ r. r ≡ lost start) (λ r. r ≡ lost start)
    (DoesElifAt section.stage section outer T s) (DoesElifAt section.stage section outer T' (using u s))
    (once-is IsLike (lost start) (lost start) refl) (once-elif-at section.stage section outer T T' s u p tests)

agree-else : (start : PpToken) (sections : List Section) (s : State) (u : List Use) → IsPermutation s.uses u → Agree IsLike (else_in start sections s) (else_in start sections (using u s))
agree-else start [] s u p = refl
agree-else start (section ∷ outer) s u p =
    agree-if IsLike section.has_else (lost start) (lost start) (Ok (within (after_else section ∷ outer) s)) (Ok (within (after_else section ∷ outer) (using u s))) refl (u, p, refl)

agree-endif : (start : PpToken) (sections : List Section) (s : State) (u : List Use) → IsPermutation s.uses u → Agree IsLike (endif_in start sections s) (endif_in start sections (using u s))
agree-endif start [] s u p = refl
agree-endif start (section ∷ outer) s u p = (u, p, refl)

agree-end : (sections : List Section) (s : State) (u : List Use) → IsPermutation s.uses u → Agree IsLike (end_in sections s) (end_in sections (using u s))
agree-end [] s u p = (u, p, refl)
agree-end (section ∷ outer) s u p = refl

-- TEXT GROUPS

agree-expansion : (main : ℕ) (s : State) (u : List Use) (r : Result Answer Stop) → IsPermutation s.uses u → Agree IsLike (after_expansion main s r) (after_expansion main (using u s) r)
agree-expansion main s u (Ok answer) p =
    agree-if IsLike (nat_lt most_tokens (length (s.tokens ++ answer.tokens))) (Err (limit limits.unit_tokens main)) (Err (limit limits.unit_tokens main)) (Ok (with_text answer s)) (Ok (with_text answer (using u s)))
    refl (u, p, refl)
agree-expansion main s u (Err stop) p = refl

-- DEFINITIONS

gives-one : (line : List PpToken) (origin : Origin) (plain : Bool) (one other : Definition) → Gives line origin plain one → Gives line origin plain other → one ≡ other
gives-one [] origin plain one other x y = absurd x
gives-one (hash ∷ []) origin plain one other x y = absurd x
gives-one (hash ∷ word ∷ []) origin plain one other x y = absurd x
gives-one (hash ∷ word ∷ name ∷ behind) origin plain one other x y = x.1 ∙ sym y.1

some-once : {A : Type 0} (o : Option A) (stop : A → Stop) (a b : Stop) → IsSomeAnd o (λ x. a ≡ stop x) → IsSomeAnd o (λ x. b ≡ stop x) → a ≡ b
some-once None stop a b x y = absurd x
some-once (Some value) stop a b x y = x ∙ sym y

none-some : {A : Type 0} (o : Option A) (P : A → Type 0) → o ≡ None → IsSomeAnd o P → ⊥
none-some o P none some = subst (λ o. IsSomeAnd o P) none some

keeps-changes : {A : Type 0} (o : Option A) (P : A → Type 0) → IfSome o P → IsSomeAnd o (λ x. ¬ P x) → ⊥
keeps-changes None P keeps changes = changes
keeps-changes (Some value) P keeps changes = changes keeps

defines-cannot : (table after : Table) (line : List PpToken) (origin : Origin) (plain : Bool) (stop : Stop) → Defines table line origin plain after → CannotDefine table line origin plain stop → ⊥
defines-cannot table after line origin plain stop x (inl y) = y.0 x.0 x.1
defines-cannot table after line origin plain stop x (inr (inl y)) =
    none-some (bare_hash y.0) (λ operator. stop ≡ refused refusals.hash_operand operator.place) (ap bare_hash (gives-one line origin plain y.0 x.0 y.1 x.1) ∙ x.2) y.2
defines-cannot table after line origin plain stop x (inr (inr y)) =
    keeps-changes (defined table y.0.name) (λ earlier. AreSame earlier y.0)
    (subst (λ (d : Definition). IfSome (defined table d.name) (λ earlier. AreSame earlier d)) (gives-one line origin plain x.0 y.0 x.1 y.1) x.3) y.3

cannot-once : (table : Table) (line : List PpToken) (origin : Origin) (plain : Bool) (a b : Stop) → CannotDefine table line origin plain a → CannotDefine table line origin plain b → a ≡ b
cannot-once table line origin plain a b (inl x) (inl y) = some-once (slice_get line 0) (λ hash. refused refusals.form hash.place) a b x.1 y.1
cannot-once table line origin plain a b (inl x) (inr (inl y)) = absurd (x.0 y.0 y.1)
cannot-once table line origin plain a b (inl x) (inr (inr y)) = absurd (x.0 y.0 y.1)
cannot-once table line origin plain a b (inr (inl x)) (inl y) = absurd (y.0 x.0 x.1)
cannot-once table line origin plain a b (inr (inr x)) (inl y) = absurd (y.0 x.0 x.1)
cannot-once table line origin plain a b (inr (inl x)) (inr (inl y)) =
    some-once (bare_hash y.0) (λ operator. refused refusals.hash_operand operator.place) a b
    (subst (λ (d : Definition). IsSomeAnd (bare_hash d) (λ operator. a ≡ refused refusals.hash_operand operator.place)) (gives-one line origin plain x.0 y.0 x.1 y.1) x.2) y.2
cannot-once table line origin plain a b (inr (inl x)) (inr (inr y)) =
    absurd (none-some (bare_hash x.0) (λ operator. a ≡ refused refusals.hash_operand operator.place) (ap bare_hash (gives-one line origin plain x.0 y.0 x.1 y.1) ∙ y.2) x.2)
cannot-once table line origin plain a b (inr (inr x)) (inr (inl y)) =
    absurd (none-some (bare_hash y.0) (λ operator. b ≡ refused refusals.hash_operand operator.place) (ap bare_hash (gives-one line origin plain y.0 x.0 y.1 x.1) ∙ x.2) y.2)
cannot-once table line origin plain a b (inr (inr x)) (inr (inr y)) =
    x.4 ∙ ap (λ (d : Definition). refused refusals.redefinition d.place) (gives-one line origin plain x.0 y.0 x.1 y.1) ∙ sym y.4

-- what a line does while there is work left
abbrev DefinesOrNot : List PpToken → Origin → Bool → State → Outcome → Type 0
DefinesOrNot line origin plain state outcome =
    ((table : Table) × Defines state.table line origin plain table × (outcome ≡ Ok (with_definition table state)))
    ⊎ ((stop : Stop) × CannotDefine state.table line origin plain stop × (outcome ≡ Err stop))

once-defines : (line : List PpToken) (origin : Origin) (plain : Bool) (s : State) (u : List Use) → IsPermutation s.uses u
    → Once IsLike (DefinesOrNot line origin plain s) (DefinesOrNot line origin plain (using u s))
once-defines line origin plain s u p a b (inl x) (inl y) ca cb =
    agree-at IsLike a b (Ok (with_definition x.0 s)) (Ok (with_definition y.0 (using u s))) x.2 y.2
    (u, p, ap (λ table. with_definition table (using u s)) (y.1.4 ∙ ap (recorded s.table) (gives-one line origin plain y.1.0 x.1.0 y.1.1 x.1.1) ∙ sym x.1.4))
once-defines line origin plain s u p a b (inl x) (inr y) ca cb = absurd (defines-cannot s.table x.0 line origin plain y.0 x.1 y.1)
once-defines line origin plain s u p a b (inr x) (inl y) ca cb = absurd (defines-cannot s.table y.0 line origin plain x.0 y.1 x.1)
once-defines line origin plain s u p a b (inr x) (inr y) ca cb =
    agree-at IsLike a b (Err x.0) (Err y.0) x.2 y.2 (cannot-once s.table line origin plain x.0 y.0 x.1 y.1)

once-line : (main : ℕ) (line : List PpToken) (origin : Origin) (plain : Bool) (s : State) (u : List Use) → IsPermutation s.uses u
    → Once IsLike (DefinesLine main line origin plain s) (DefinesLine main line origin plain (using u s))
once-line main line origin plain s u p =
    once-match IsLike (nat_lt s.spent most_work) (DefinesOrNot line origin plain s) (DefinesOrNot line origin plain (using u s))
    (λ r. r ≡ Err (limit limits.work main)) (λ r. r ≡ Err (limit limits.work main)) (once-defines line origin plain s u p) (once-is IsLike (Err (limit limits.work main)) (Err (limit limits.work main)) refl)

once-define : (main file : ℕ) (bytes : List ℕ) (start : PpToken) (behind : List PpToken) (s : State) (u : List Use) → IsPermutation s.uses u
    → Once IsLike (DoesDefine main file bytes start behind s) (DoesDefine main file bytes start behind (using u s))
once-define main file bytes start behind s u p =
    let plain = is_plain_head bytes start (start ∷ behind) in
    once-match IsLike (begins_with_name (drop 1 behind))
    (DefinesLine main (start ∷ behind) (origin_of file) plain s) (DefinesLine main (start ∷ behind) (origin_of file) plain (using u s))
    (λ r. r ≡ Err (refusal refusals.directive start.place)) (λ r. r ≡ Err (refusal refusals.directive start.place))
    (once-line main (start ∷ behind) (origin_of file) plain s u p) (once-is IsLike (Err (refusal refusals.directive start.place)) (Err (refusal refusals.directive start.place)) refl)

agree-undef : (start : PpToken) (operands : List PpToken) (s : State) (u : List Use) → IsPermutation s.uses u → Agree IsLike (after_undef start operands s) (after_undef start operands (using u s))
agree-undef start [] s u p = refl
agree-undef start (name ∷ others) s u p =
    agree-if IsLike (is_macro_name name) (Ok (with_undefined name s)) (Ok (with_undefined name (using u s))) (Err (refusal refusals.directive start.place)) (Err (refusal refusals.directive start.place)) (u, p, refl) refl

once-text : (main : ℕ) (define : List ℕ) (r : Result (List PpToken) Refusal) (s : State) (u : List Use) → IsPermutation s.uses u
    → Once IsLike (DefinesText main define r s) (DefinesText main define r (using u s))
once-text main define (Ok tokens) s u p = once-line main (define_line main define tokens) Manifest true s u p
once-text main define (Err refused) s u p = once-is IsLike (Err (Refused refused)) (Err (Refused refused)) refl

once-manifests : (setting : Setting) (looked : List ℕ → Bool) (named : ℕ → List ℕ) (defines : List (List ℕ)) (s : State) (u : List Use) → IsPermutation s.uses u
    → Once IsLike (DoesManifests setting defines s) (DoesManifests (seeing looked named setting) defines (using u s))
unfolding DoesManifests
once-manifests setting looked named [] s u p = once-is IsLike (Ok s) (Ok (using u s)) (u, p, refl)
once-manifests setting looked named (define ∷ defines) s u p =
    once-then IsLike IsLike (DoesManifest setting.main define s) (DoesManifest setting.main define (using u s)) (DoesManifests setting defines) (DoesManifests (seeing looked named setting) defines)
    (once-text setting.main define (reading_of setting.main (define_text define)) s u p)
    (on-like IsLike (DoesManifests setting defines) (DoesManifests (seeing looked named setting) defines) (once-manifests setting looked named defines))

-- INCLUSION

abbrev IsSame : Sought → Sought → Type 0
IsSame one other = one ≡ other

agree-itself : (r : Result Sought Stop) → Agree IsSame r r
agree-itself (Ok value) = refl
agree-itself (Err stop) = refl

once-looks : (one other : Setting) (o : Option (List ℕ)) (name : List ℕ) (files : Catalogue) (P P' : Result Sought Stop → Type 0) → Once IsSame P P'
    → Once IsSame (λ r. LooksAt one o name files P r) (λ r. LooksAt other o name files P' r)
once-looks one other None name files P P' once a b x y ca cb = once a b x.1 y.1 ca cb
once-looks one other (Some bytes) name files P P' once a b x y ca cb =
    let found = found_as (number_in files name) bytes (numbered name files) in
    agree-at IsSame a b found found x.2 y.2 (agree-itself found)

once-searches : (setting : Setting) (looked : List ℕ → Bool) (named : ℕ → List ℕ) (header : Option ℕ) (names : List (List ℕ)) (files : Catalogue)
    → Once IsSame (Searches setting header names files) (Searches (seeing looked named setting) header names files)
unfolding Searches
once-searches setting looked named header [] files a b x y ca cb = agree-at IsSame a b (Ok (sought header files)) (Ok (sought header files)) x y refl
once-searches setting looked named header (name ∷ names) files a b (inl x) y ca cb = absurd (subst (λ (r : Result Sought Stop). IfErr r IsFaultless) x.2 ca)
once-searches setting looked named header (name ∷ names) files a b (inr x) (inl y) ca cb = absurd (subst (λ (r : Result Sought Stop). IfErr r IsFaultless) y.2 cb)
once-searches setting looked named header (name ∷ names) files a b (inr x) (inr y) ca cb =
    once-looks setting (seeing looked named setting) (setting.source name) name files (Searches setting header names files) (Searches (seeing looked named setting) header names files)
    (once-searches setting looked named header names files) a b x y ca cb

once-searches-for : (setting : Setting) (looked : List ℕ → Bool) (named : ℕ → List ℕ) (file : ℕ) (spelling : List ℕ) (files : Catalogue)
    → Once IsSame (SearchesFor setting file spelling files) (SearchesFor (seeing looked named setting) file spelling files)
once-searches-for setting looked named file spelling files =
    once-searches setting looked named (header_number (header_name spelling))
    (candidates (header_name spelling) (places (slice_index_or files.names file []) (is_quoted spelling) setting.include)) files

-- entering a file agrees
abbrev EntersOnce : (ℕ → State → Outcome → Type 0) → (ℕ → State → Outcome → Type 0) → Type 0
EntersOnce E E' = (file : ℕ) (s : State) (u : List Use) → IsPermutation s.uses u → Once IsLike (E file s) (E' file (using u s))

once-includes : (setting : Setting) (looked : List ℕ → Bool) (named : ℕ → List ℕ) (E E' : ℕ → State → Outcome → Type 0) → EntersOnce E E'
    → (start : PpToken) (number : Option ℕ) (files : Catalogue) (s : State) (u : List Use) → IsPermutation s.uses u
    → Once IsLike (Includes setting E start number files s) (Includes (seeing looked named setting) E' start number files (using u s))
once-includes setting looked named E E' enters start None files s u p = once-is IsLike (Err (refusal refusals.not_found start.place)) (Err (refusal refusals.not_found start.place)) refl
once-includes setting looked named E E' enters start (Some number) files s u p =
    once-match IsLike (nat_lt s.inclusions most_inclusions) (E number (counted files s)) (E' number (counted files (using u s)))
    (λ r. r ≡ Err (limit limits.inclusions setting.main)) (λ r. r ≡ Err (limit limits.inclusions setting.main))
    (enters number (counted files s) u p) (once-is IsLike (Err (limit limits.inclusions setting.main)) (Err (limit limits.inclusions setting.main)) refl)

once-include : (setting : Setting) (looked : List ℕ → Bool) (named : ℕ → List ℕ) (E E' : ℕ → State → Outcome → Type 0) → EntersOnce E E'
    → (file : ℕ) (start : PpToken) (operands : List PpToken) (s : State) (u : List Use) → IsPermutation s.uses u
    → Once IsLike (DoesInclude setting E file start operands s) (DoesInclude (seeing looked named setting) E' file start operands (using u s))
once-include setting looked named E E' enters file start [] s u p = once-is IsLike (Err (refusal refusals.directive start.place)) (Err (refusal refusals.directive start.place)) refl
once-include setting looked named E E' enters file start (header ∷ others) s u p =
    let goes = λ (sought : Sought) (outcome : Outcome). Includes setting E start sought.number sought.files s outcome in
    let goes' = λ (sought : Sought) (outcome : Outcome). Includes (seeing looked named setting) E' start sought.number sought.files (using u s) outcome in
    once-match IsLike (is_header_kind header.kind)
    (Then (SearchesFor setting file header.spelling s.files) goes) (Then (SearchesFor (seeing looked named setting) file header.spelling s.files) goes')
    (λ r. r ≡ Err (refusal refusals.out_of_subset start.place)) (λ r. r ≡ Err (refusal refusals.out_of_subset start.place))
    (once-then IsSame IsLike (SearchesFor setting file header.spelling s.files) (SearchesFor (seeing looked named setting) file header.spelling s.files) goes goes'
    (once-searches-for setting looked named file header.spelling s.files)
    (λ m n same. subst (λ n. Once IsLike (goes m) (goes' n)) same (once-includes setting looked named E E' enters start m.number m.files s u p)))
    (once-is IsLike (Err (refusal refusals.out_of_subset start.place)) (Err (refusal refusals.out_of_subset start.place)) refl)

-- DIRECTIVES

once-read : (setting : Setting) (looked : List ℕ → Bool) (named : ℕ → List ℕ) (E E' : ℕ → State → Outcome → Type 0) → EntersOnce E E'
    → (file : ℕ) (kind : Directive) (start : PpToken) (behind : List PpToken) (s : State) (u : List Use) → IsPermutation s.uses u
    → Once IsLike (DoesRead setting E file kind start behind s) (DoesRead (seeing looked named setting) E' file kind start behind (using u s))
once-read setting looked named E E' enters file Include start behind s u p = once-include setting looked named E E' enters file start (drop 1 behind) s u p
once-read setting looked named E E' enters file Define start behind s u p = once-define setting.main file (bytes_in setting s.files file) start behind s u p
once-read setting looked named E E' enters file Undef start behind s u p =
    once-is IsLike (after_undef start (drop 1 behind) s) (after_undef start (drop 1 behind) (using u s)) (agree-undef start (drop 1 behind) s u p)
once-read setting looked named E E' enters file Line start behind s u p = once-is IsLike (Err (refusal refusals.out_of_subset start.place)) (Err (refusal refusals.out_of_subset start.place)) refl
once-read setting looked named E E' enters file Error start behind s u p = once-is IsLike (Err (refusal refusals.error_directive start.place)) (Err (refusal refusals.error_directive start.place)) refl
once-read setting looked named E E' enters file Pragma start behind s u p =
    once-is IsLike (after_pragma file start (drop 1 behind) s) (after_pragma file start (drop 1 behind) (using u s))
    (agree-if IsLike (is_once (drop 1 behind)) (Ok (record s { once = with_number s.once file })) (Ok (record (using u s) { once = with_number s.once file }))
    (Err (refusal refusals.out_of_subset start.place)) (Err (refusal refusals.out_of_subset start.place)) (u, p, refl) refl)
once-read setting looked named E E' enters file Null start behind s u p = once-is IsLike (Ok s) (Ok (using u s)) (u, p, refl)
once-read setting looked named E E' enters file Unknown start behind s u p = once-is IsLike (Err (refusal refusals.directive start.place)) (Err (refusal refusals.directive start.place)) refl
once-read setting looked named E E' enters file other start behind s u p = λ a b x y ca cb. absurd x

-- a directive that is done only where the group is read
once-other : (setting : Setting) (looked : List ℕ → Bool) (named : ℕ → List ℕ) (E E' : ℕ → State → Outcome → Type 0) → EntersOnce E E'
    → (file : ℕ) (kind : Directive) (start : PpToken) (behind : List PpToken) (s : State) (u : List Use) → IsPermutation s.uses u
    → Once IsLike (λ (r : Outcome). MatchBool (is_read s.sections) (DoesRead setting E file kind start behind s r) (r ≡ Ok s))
    (λ (r : Outcome). MatchBool (is_read s.sections) (DoesRead (seeing looked named setting) E' file kind start behind (using u s) r) (r ≡ Ok (using u s)))
once-other setting looked named E E' enters file kind start behind s u p =
    once-match IsLike (is_read s.sections) (DoesRead setting E file kind start behind s) (DoesRead (seeing looked named setting) E' file kind start behind (using u s))
    (λ r. r ≡ Ok s) (λ r. r ≡ Ok (using u s))
    (once-read setting looked named E E' enters file kind start behind s u p) (once-is IsLike (Ok s) (Ok (using u s)) (u, p, refl))

once-directive : (setting : Setting) (looked : List ℕ → Bool) (named : ℕ → List ℕ) (E E' : ℕ → State → Outcome → Type 0) → EntersOnce E E'
    → (file : ℕ) (kind : Directive) (start : PpToken) (behind : List PpToken) (s : State) (u : List Use) → IsPermutation s.uses u
    → Once IsLike (DoesDirective setting E file kind start behind s) (DoesDirective (seeing looked named setting) E' file kind start behind (using u s))
once-directive setting looked named E E' enters file If start behind s u p =
    once-opens start (Evaluates setting.main start (drop 1 behind) s) (Evaluates setting.main start (drop 1 behind) (using u s)) s u p
    (once-evaluates setting.main start (drop 1 behind) s u p)
once-directive setting looked named E E' enters file Ifdef start behind s u p =
    once-opens start (λ (r : Result Tested Stop). r ≡ defined_test true start (drop 1 behind) s) (λ (r : Result Tested Stop). r ≡ defined_test true start (drop 1 behind) (using u s)) s u p
    (once-is IsTestedLike (defined_test true start (drop 1 behind) s) (defined_test true start (drop 1 behind) (using u s)) (agree-defined true start (drop 1 behind) s u p))
once-directive setting looked named E E' enters file Ifndef start behind s u p =
    once-opens start (λ (r : Result Tested Stop). r ≡ defined_test false start (drop 1 behind) s) (λ (r : Result Tested Stop). r ≡ defined_test false start (drop 1 behind) (using u s)) s u p
    (once-is IsTestedLike (defined_test false start (drop 1 behind) s) (defined_test false start (drop 1 behind) (using u s)) (agree-defined false start (drop 1 behind) s u p))
once-directive setting looked named E E' enters file Elif start behind s u p =
    once-elif start s.sections (Evaluates setting.main start (drop 1 behind) s) (Evaluates setting.main start (drop 1 behind) (using u s)) s u p
    (once-evaluates setting.main start (drop 1 behind) s u p)
once-directive setting looked named E E' enters file Else start behind s u p =
    once-is IsLike (else_in start s.sections s) (else_in start s.sections (using u s)) (agree-else start s.sections s u p)
once-directive setting looked named E E' enters file Endif start behind s u p =
    once-is IsLike (endif_in start s.sections s) (endif_in start s.sections (using u s)) (agree-endif start s.sections s u p)
once-directive setting looked named E E' enters file other start behind s u p = once-other setting looked named E E' enters file other start behind s u p

-- THE PARTS OF A FILE

once-part : (setting : Setting) (looked : List ℕ → Bool) (named : ℕ → List ℕ) (E E' : ℕ → State → Outcome → Type 0) → EntersOnce E E'
    → (file : ℕ) (part : Part) (s : State) (u : List Use) → IsPermutation s.uses u
    → Once IsLike (ReadsPart setting E file part s) (ReadsPart (seeing looked named setting) E' file part (using u s))
once-part setting looked named E E' enters file (directive start behind) s u p = once-directive setting looked named E E' enters file (directive_of behind) start behind s u p
once-part setting looked named E E' enters file (text tokens) s u p =
    let after = after_text setting.main tokens s in
    let after' = after_text setting.main tokens (using u s) in
    once-is IsLike (if is_read s.sections then after else Ok s) (if is_read s.sections then after' else Ok (using u s))
    (agree-if IsLike (is_read s.sections) after after' (Ok s) (Ok (using u s)) (agree-expansion setting.main s u (expansion_in setting.main s tokens) p) (u, p, refl))

once-parts : (setting : Setting) (looked : List ℕ → Bool) (named : ℕ → List ℕ) (E E' : ℕ → State → Outcome → Type 0) → EntersOnce E E'
    → (file : ℕ) (parts : List Part) (s : State) (u : List Use) → IsPermutation s.uses u
    → Once IsLike (ReadsParts setting E file parts s) (ReadsParts (seeing looked named setting) E' file parts (using u s))
unfolding ReadsParts
once-parts setting looked named E E' enters file [] s u p = once-is IsLike (end_in s.sections s) (end_in s.sections (using u s)) (agree-end s.sections s u p)
once-parts setting looked named E E' enters file (part ∷ parts) s u p =
    once-then IsLike IsLike (ReadsPart setting E file part s) (ReadsPart (seeing looked named setting) E' file part (using u s))
    (ReadsParts setting E file parts) (ReadsParts (seeing looked named setting) E' file parts)
    (once-part setting looked named E E' enters file part s u p)
    (on-like IsLike (ReadsParts setting E file parts) (ReadsParts (seeing looked named setting) E' file parts) (once-parts setting looked named E E' enters file parts))

once-file : (setting : Setting) (looked : List ℕ → Bool) (named : ℕ → List ℕ) (E E' : ℕ → State → Outcome → Type 0) → EntersOnce E E'
    → (file : ℕ) (s : State) (u : List Use) → IsPermutation s.uses u
    → Once IsLike (ReadsFile setting E file s) (ReadsFile (seeing looked named setting) E' file (using u s))
once-file setting looked named E E' enters file s u p =
    let parts = parts_of (tokens_in setting s.files file) in
    let ends = λ (read : State) (result : Outcome). result ≡ Ok (within s.sections read) in
    once-then IsLike IsLike (ReadsParts setting E file parts (begun file s)) (ReadsParts (seeing looked named setting) E' file parts (begun file (using u s))) ends ends
    (once-parts setting looked named E E' enters file parts (begun file s) u p)
    (on-like IsLike ends ends (λ t v q. once-is IsLike (Ok (within s.sections t)) (Ok (within s.sections (using v t))) (v, q, refl)))

once-enters : (setting : Setting) (looked : List ℕ → Bool) (named : ℕ → List ℕ) (more : ℕ) → EntersOnce (Enters setting more) (Enters (seeing looked named setting) more)
unfolding Enters
once-enters setting looked named zero file s u p = once-is IsLike (Err (limit limits.nested_files setting.main)) (Err (limit limits.nested_files setting.main)) refl
once-enters setting looked named (suc more) file s u p =
    once-match IsLike (is_passed file s) (λ r. r ≡ Ok s) (λ r. r ≡ Ok (using u s))
    (ReadsFile setting (Enters setting more) file s) (ReadsFile (seeing looked named setting) (Enters (seeing looked named setting) more) file (using u s))
    (once-is IsLike (Ok s) (Ok (using u s)) (u, p, refl))
    (once-file setting looked named (Enters setting more) (Enters (seeing looked named setting) more) (once-enters setting looked named more) file s u p)

-- THE UNIT

once-found : (setting : Setting) (looked : List ℕ → Bool) (named : ℕ → List ℕ) (number : Option ℕ) (files : Catalogue) (s : State) (u : List Use) → IsPermutation s.uses u
    → Once IsLike (ReadsFound setting number files s) (ReadsFound (seeing looked named setting) number files (using u s))
once-found setting looked named None files s u p = once-is IsLike (Err (refusal refusals.not_found (absent_place setting.main))) (Err (refusal refusals.not_found (absent_place setting.main))) refl
once-found setting looked named (Some number) files s u p =
    once-file setting looked named (Enters setting most_nested) (Enters (seeing looked named setting) most_nested) (once-enters setting looked named most_nested) number (record s { files = files }) u p

once-main : (setting : Setting) (looked : List ℕ → Bool) (named : ℕ → List ℕ) (name : List ℕ) (s : State) (u : List Use) → IsPermutation s.uses u
    → Once IsLike (ReadsMain setting name s) (ReadsMain (seeing looked named setting) name (using u s))
once-main setting looked named name s u p =
    let goes = λ (sought : Sought) (outcome : Outcome). ReadsFound setting sought.number sought.files s outcome in
    let goes' = λ (sought : Sought) (outcome : Outcome). ReadsFound (seeing looked named setting) sought.number sought.files (using u s) outcome in
    once-then IsSame IsLike (Searches setting None (name ∷ []) s.files) (Searches (seeing looked named setting) None (name ∷ []) s.files) goes goes'
    (once-searches setting looked named None (name ∷ []) s.files)
    (λ m n same. subst (λ n. Once IsLike (goes m) (goes' n)) same (once-found setting looked named m.number m.files s u p))

-- A unit has one outcome, faults apart.
pub one-outcome : (setting : Setting) (looked : List ℕ → Bool) (named : ℕ → List ℕ) (name : List ℕ) (defines : List (List ℕ)) (state : State) (one other : Outcome)
    → ReadsUnit setting name defines state one → ReadsUnit (seeing looked named setting) name defines state other
    → IfErr one IsFaultless → IfErr other IsFaultless → Agree IsLike one other
unfolding ReadsUnit
one-outcome setting looked named name defines state =
    once-then IsLike IsLike (DoesManifests setting defines state) (DoesManifests (seeing looked named setting) defines state)
    (ReadsMain setting name) (ReadsMain (seeing looked named setting) name)
    (once-manifests setting looked named defines state state.uses (IsPermutation-refl state.uses))
    (on-like IsLike (ReadsMain setting name) (ReadsMain (seeing looked named setting) name) (once-main setting looked named name))
