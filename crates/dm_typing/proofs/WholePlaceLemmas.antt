-- A rule that a whole expression or type name breaks is broken at one of its tokens: by induction over the syntax.
use Rattle.std.specs.Prelude.{◌≡◌, ℕ, ◌+◌, ◌<◌, ◌≤◌, ℤ, pos, ◌+ℤ◌, negsuc, Bool, true, false, if◌then◌else◌, List, [], ◌∷◌, ◌++◌, Option, Some, None, is_some, IsSome, refl}
use Rattle.std.proofs.Common.{sym, subst, arith}
use Rattle.dm_token.specs.declared.place.Span.{Span}
use Rattle.dm_int.specs.declared.Kind.TheVariants as k
use Rattle.dm_type.specs.CTypes.{CType, integer, bare}
use Rattle.dm_type.specs.TableLaws.{injected}
use Rattle.dm_syn.specs.declared.declared.Declared.{Declared}
use Rattle.dm_syn.specs.Sources.{symbol_at, spelling_at}
use Rattle.dm_syn.specs.Spans.{expr_span, exprs_after, type_name_span, specifiers_span, specifier_after, words_after, member_span, members_after, declarator_span, declarators_after, enumerator_span, enumerators_after, parameter_span, parameters_after, pointers_after, direct_after}
use Rattle.dm_syn.specs.Scopes.{declarator_name, direct_name}
use Rattle.dm_syn.specs.Grammar.{Types, tag_after, trailing_after, IsExpr, AreArguments, AreMoreExprs, IsTypeName, IsSpecifiers, AreWords, IsSpecifier, AreMembers, IsMember, AreMoreDeclarators, AreMoreEnumerators, IsEnumerator, IsDeclarator, IsDirect, AreParameters, AreMoreParameters, IsParameter}
use Rattle.dm_syn.specs.Trees.{Expr, Exprs, TypeName, Specifiers, Words, Specifier, Members, Member, Declarators, Enumerators, Enumerator, Declarator, Direct, Parameters, Parameter}
use Rattle.dm_syn.specs.Trees as tree
use Rattle.dm_tree.specs.Trees.{Tree}
use Rattle.dm_typing.specs.Known.{Known, Setting, Outcome, given, after, with_it, meaning_of}
use Rattle.dm_typing.specs.Conversions.{as_value}
use Rattle.dm_typing.specs.Specifiers.{Said, nothing_said, Where, elsewhere}
use Rattle.dm_typing.specs.Typing.{typed_index, typed_member, typed_arrow, typed_count, typed_prefix, typed_sizeof, typed_sizeof_name, typed_cast, typed_binary, typed_choice, typed_assignment, tag_declared, tag_inside, tag_seen, struct_named, with_new_struct, struct_begun, beginning, TypedMember, typed_field, TypedParameter, Step, arraying, calling, derived, pointers, direct_at, length_of, without_void, typed_parameter, parameter_at, entered, left, extent, typed, typed_within, typed_values, typed_name, typed_specifiers, words_said, word_said, fields_of, fields_declared, fields_with, enumerators_of, enumerator_of, steps_of, direct_steps, parameters_of, parameter_of}
use Rattle.dm_typing.specs.Sound.{StepsWithin}
use Rattle.dm_typing.proofs.GrowthLemmas.{some-of}
use Rattle.dm_typing.proofs.PlaceLemmas.{Places, Plain, wider, after-places, with-places, if-places, named-here, index-here, member-here, arrow-here, count-here, prefix-here, sizeof-here, sizeof-name-here, cast-here, binary-here, choice-here, assignment-here, call-here, comma-here, struct-here, enum-here, ended-here, said-here, enum-ended-here, declared-places, valued-places, length-places, field-places, steps-wider, derived-places, parameter-places, left-places, name-places}

-- ---- spans

-- something has a token at least, and breaks rules within its tokens
abbrev pub Placed : {A : Type 0} → Span → (Bool → Known → Outcome A) → Type 0
Placed span outcome = (span.first < span.after) × ((used : Bool) (known : Known) → Places span.first span.after Plain (outcome used known))

-- likewise what may be empty, from a position to another
abbrev pub PlacedFrom : {A : Type 0} → ℕ → ℕ → (Bool → Known → Outcome A) → Type 0
PlacedFrom at behind outcome = (at ≤ behind) × ((used : Bool) (known : Known) → Places at behind Plain (outcome used known))

-- ---- forms by their parts

one-placed : {A B : Type 0} (span part : Span) (one : Bool → Known → Outcome A) (next : Known → A → Outcome B) → span.first ≤ part.first → part.after ≤ span.after
    → Placed part one → ((on : span.first < span.after) (known : Known) (made : A) → Places span.first span.after Plain (next known made))
    → Placed span (λ used known. after (one used known) next)
one-placed span part one next low high placed step =
    let some = placed.0 in
    let on : span.first < span.after = omega (arith, low, high, some) in (
      on,
      λ used known. after-places part.first part.after span.first span.after Plain Plain (one used known) next low high (placed.1 used known)
          (λ behind made any. step on behind made),
    )

two-placed : {A B C : Type 0} (span first second : Span) (one : Bool → Known → Outcome A) (other : Bool → Known → Outcome B) (next : Known → A → B → Outcome C)
    → span.first ≤ first.first → first.after ≤ second.first → second.after ≤ span.after → Placed first one → Placed second other
    → ((on : span.first < span.after) (known : Known) (x : A) (y : B) → Places span.first span.after Plain (next known x y))
    → Placed span (λ used known. after (one used known) (λ then_known x. after (other used then_known) (λ behind y. next behind x y)))
two-placed span first second one other next low mid high placed placed-too step =
    let some = placed.0 in
    let more = placed-too.0 in
    let on : span.first < span.after = omega (arith, low, mid, high, some, more) in (
      on,
      λ used known. after-places first.first first.after span.first span.after Plain Plain (one used known) _ low (omega (arith, mid, high, more)) (placed.1 used known)
          (λ then_known x any. after-places second.first second.after span.first span.after Plain Plain (other used then_known) _ (omega (arith, low, mid, some)) high
          (placed-too.1 used then_known) (λ behind y any. step on behind x y)),
    )

three-placed : (span first second third : Span) (one other another : Bool → Known → Outcome Tree) (next : Known → Tree → Tree → Tree → Outcome Tree)
    → span.first ≤ first.first → first.after ≤ second.first → second.after ≤ third.first → third.after ≤ span.after → Placed first one → Placed second other → Placed third another
    → ((on : span.first < span.after) (known : Known) (x y z : Tree) → Places span.first span.after Plain (next known x y z))
    → Placed span (λ used known. after (one used known) (λ then_known x. after (other used then_known) (λ then_more y. after (another used then_more) (λ behind z. next behind x y z))))
three-placed span first second third one other another next low mid then_mid high placed placed-too placed-three step =
    let some = placed.0 in
    let more = placed-too.0 in
    let most = placed-three.0 in
    let on : span.first < span.after = omega (arith, low, mid, then_mid, high, some, more, most) in (
      on,
      λ used known. after-places first.first first.after span.first span.after Plain Plain (one used known) _ low (omega (arith, mid, then_mid, high, more, most)) (placed.1 used known)
          (λ then_known x any. after-places second.first second.after span.first span.after Plain Plain (other used then_known) _ (omega (arith, low, mid, some))
          (omega (arith, then_mid, high, most)) (placed-too.1 used then_known)
          (λ then_more y any. after-places third.first third.after span.first span.after Plain Plain (another used then_more) _ (omega (arith, low, mid, then_mid, some, more)) high
          (placed-three.1 used then_more) (λ behind z any. step on behind x y z))),
    )

-- a list from a position on
values-placed : (at behind : ℕ) (part : Span) (one : Bool → Known → Outcome Tree) (rest : Bool → Known → Outcome (List Tree)) → at ≤ part.first → Placed part one
    → PlacedFrom part.after behind rest
    → PlacedFrom at behind (λ used known. after (one used known) (λ then_known made. after (rest used then_known) (λ last values. given last (as_value made ∷ values))))
values-placed at behind part one rest low placed others =
    let some = placed.0 in
    let more = others.0 in (
      omega (arith, low, some, more),
      λ used known. after-places part.first part.after at behind Plain Plain (one used known) _ low more (placed.1 used known)
          (λ then_known made any. after-places part.after behind at behind Plain Plain (rest used then_known) _ (omega (arith, low, some)) (omega arith) (others.1 used then_known)
          (λ last values any. tt)),
    )

-- ---- declarators

pub pointers-on : (at : ℕ) (consts : List ℕ) → at ≤ pointers_after at consts
pointers-on at [] = omega arith
pointers-on at (many ∷ others) = let rest = pointers-on (at + 1 + many) others in omega (arith, rest)

direct-begins : (at : ℕ) (consts : List ℕ) → pointers_after at consts ≡ direct_at at consts
direct-begins at [] = refl
direct-begins at (many ∷ others) = direct-begins (at + 1 + many) others

pointers-at : (least at behind : ℕ) (consts : List ℕ) (steps : List Step) → least ≤ at → at < behind → StepsWithin least behind steps
    → StepsWithin least behind (pointers at consts ++ steps)
pointers-at least at behind [] steps low high h = h
pointers-at least at behind (many ∷ others) steps low high h = (low, high, pointers-at least at behind others steps low high h)

pointers-within : (at behind : ℕ) (consts : List ℕ) (steps : List Step) → pointers_after at consts ≤ behind → StepsWithin at behind steps → StepsWithin at behind (pointers at consts ++ steps)
pointers-within at behind [] steps high h = h
pointers-within at behind (many ∷ others) steps high h =
    let rest = pointers-on (at + 1 + many) others in pointers-at at at behind (many ∷ others) steps (omega arith) (omega (arith, rest, high)) h

-- it isn't empty
abbrev pub is_shown : Declarator → Bool
is_shown (tree.shaped span [] tree.absent) = false
is_shown _ = true

abbrev pub is_there : Direct → Bool
is_there tree.absent = false
is_there _ = true

-- a declarator's steps begin within it, as its name stands in it
pub record PlacedDeclarator (setting : Setting) (declarator : Declarator) : Type 0 where
  pub on : (declarator_span declarator).first ≤ (declarator_span declarator).after
  pub shown : is_shown declarator ≡ true → (declarator_span declarator).first < (declarator_span declarator).after
  pub name : (at : ℕ) → declarator_name declarator ≡ Some at → ((declarator_span declarator).first ≤ at) × (at < (declarator_span declarator).after)
  pub steps : (used : Bool) (known : Known)
      → Places (declarator_span declarator).first (declarator_span declarator).after (StepsWithin (declarator_span declarator).first (declarator_span declarator).after)
      (steps_of setting used known declarator)

pub record PlacedDirect (setting : Setting) (at : ℕ) (direct : Direct) : Type 0 where
  pub on : at ≤ direct_after at direct
  pub shown : is_there direct ≡ true → at < direct_after at direct
  pub name : (named : ℕ) → direct_name direct ≡ Some named → (at ≤ named) × (named < direct_after at direct)
  pub steps : (used : Bool) (known : Known) → Places at (direct_after at direct) (StepsWithin at (direct_after at direct)) (direct_steps setting used known at direct)

-- where a parameter's own rules are broken
pub parameter-here : (span : Span) (declarator : Declarator) → span.first < span.after → span.first ≤ (declarator_span declarator).first
    → (declarator_span declarator).after ≤ span.after → (is_shown declarator ≡ true → (declarator_span declarator).first < (declarator_span declarator).after)
    → (span.first ≤ parameter_at span declarator) × (parameter_at span declarator < span.after)
parameter-here span (tree.shaped at [] tree.absent) on low high shown = (omega arith, on)
parameter-here span (tree.shaped at pointers direct) on low high shown = (low, let some = shown refl in omega (arith, some, high))

tag-on : (at : ℕ) (tag : Option ℕ) → at ≤ tag_after at tag
tag-on at None = omega arith
tag-on at (Some tag) = omega arith

pub trailing-on : (at : ℕ) (trailing : Bool) → at ≤ trailing_after at trailing
trailing-on at true = omega arith
trailing-on at false = omega arith

-- ---- what declarators are part of

-- a list that ends further on
until : {A : Type 0} (at behind more : ℕ) (one : Bool → Known → Outcome A) → behind ≤ more → PlacedFrom at behind one → PlacedFrom at more one
until at behind more one high placed =
    let low = placed.0 in
    (omega (arith, low, high), λ used known. wider at behind at more Plain Plain (one used known) (omega arith) high (λ it any. tt) (placed.1 used known))

module _ (setting : Setting) where
  shape-places : (used : Bool) (known : Known) (span : Span) (consts : List ℕ) (direct : Direct) → PlacedDirect setting (pointers_after span.first consts) direct
      → span.after ≡ direct_after (pointers_after span.first consts) direct
      → Places span.first span.after (StepsWithin span.first span.after)
      (with_it (direct_steps setting used known (direct_at span.first consts) direct) (λ behind steps. pointers span.first consts ++ steps))
  shape-places used known span consts direct one ends =
      let begins = pointers-on span.first consts in
      let at = pointers_after span.first consts in
      let some = one.on in
      subst
      (λ here. Places span.first span.after (StepsWithin span.first span.after) (with_it (direct_steps setting used known here direct) (λ behind steps. pointers span.first consts ++ steps)))
      (direct-begins span.first consts)
      (with-places at (direct_after at direct) span.first span.after (StepsWithin at (direct_after at direct)) (StepsWithin span.first span.after) (direct_steps setting used known at direct)
      (λ behind steps. pointers span.first consts ++ steps) begins (omega (arith, ends)) (one.steps used known)
      (λ behind steps within. pointers-within span.first span.after consts steps (omega (arith, ends, some))
      (steps-wider at (direct_after at direct) span.first span.after begins (omega (arith, ends)) steps within)))

  shown-shape : (span : Span) (consts : List ℕ) (direct : Direct) → PlacedDirect setting (pointers_after span.first consts) direct
      → span.after ≡ direct_after (pointers_after span.first consts) direct → is_shown (tree.shaped span consts direct) ≡ true → span.first < span.after
  shown-shape span [] tree.absent one ends shown = absurd (cc)
  shown-shape span [] (tree.declared name) one ends shown = let some = one.shown refl in omega (arith, ends, some)
  shown-shape span [] (tree.enclosed declarator) one ends shown = let some = one.shown refl in omega (arith, ends, some)
  shown-shape span [] (tree.array direct) one ends shown = let some = one.shown refl in omega (arith, ends, some)
  shown-shape span [] (tree.sized direct value) one ends shown = let some = one.shown refl in omega (arith, ends, some)
  shown-shape span [] (tree.function direct _) one ends shown = let some = one.shown refl in omega (arith, ends, some)
  shown-shape span (many ∷ others) direct one ends shown = let begins = pointers-on (span.first + 1 + many) others in let some = one.on in omega (arith, ends, begins, some)

  array-places : (used : Bool) (known : Known) (at : ℕ) (direct : Direct) → PlacedDirect setting at direct
      → Places at (direct_after at direct + 2) (StepsWithin at (direct_after at direct + 2)) (with_it (direct_steps setting used known at direct) (λ behind steps. arraying at None ∷ steps))
  array-places used known at direct one =
      let d = direct_after at direct in
      let some = one.on in
      with-places at d at (d + 2) (StepsWithin at d) (StepsWithin at (d + 2)) (direct_steps setting used known at direct) _ (omega arith) (omega arith) (one.steps used known)
      (λ behind steps within. (omega arith, omega (arith, some), steps-wider at d at (d + 2) (omega arith) (omega arith) steps within))

  sized-places : (used : Bool) (known : Known) (at : ℕ) (direct : Direct) (span : Span) (value : Known → Outcome Tree) → PlacedDirect setting at direct
      → span.first ≡ direct_after at direct + 1 → span.first < span.after → ((behind : Known) → Places span.first span.after Plain (value behind))
      → Places at (span.after + 1) (StepsWithin at (span.after + 1))
      (after (direct_steps setting used known at direct) (λ then_known steps. after (value then_known) (λ then_more made.
      with_it (length_of then_more span.first (as_value made)) (λ behind n. arraying at (Some n) ∷ steps))))
  sized-places used known at direct span value one begins on placed =
      let d = direct_after at direct in
      let t = span.after + 1 in
      let some = one.on in
      let low : at ≤ span.first = omega (arith, begins, some) in
      let under : at < t = omega (arith, low, on) in
      let high : d ≤ t = omega (arith, begins, on) in
      after-places at d at t (StepsWithin at d) (StepsWithin at t) (direct_steps setting used known at direct) _ (omega arith) high (one.steps used known)
      (λ then_known steps within. after-places span.first span.after at t Plain (StepsWithin at t) (value then_known) _ low (omega arith) (placed then_known)
      (λ then_more made any. with-places at t at t Plain (StepsWithin at t) (length_of then_more span.first (as_value made)) _ (omega arith) (omega arith)
      (length-places then_more at t span.first (as_value made) low (omega (arith, on)))
      (λ behind n is. (omega arith, under, steps-wider at d at t (omega arith) high steps within))))

  calling-places : (used : Bool) (known : Known) (at : ℕ) (direct : Direct) (last : ℕ) (all : Known → Outcome (List TypedParameter)) → PlacedDirect setting at direct
      → direct_after at direct + 1 ≤ last → ((behind : Known) → Places (direct_after at direct + 1) last Plain (all behind))
      → Places at (last + 1) (StepsWithin at (last + 1))
      (after (direct_steps setting used known at direct) (λ then_known steps.
      with_it (left then_known.scopes (all (entered then_known))) (λ behind ones. calling at (without_void ones) ∷ steps)))
  calling-places used known at direct last all one ends placed =
      let d = direct_after at direct in
      let t = last + 1 in
      let some = one.on in
      let under : at < t = omega (arith, some, ends) in
      let high : d ≤ t = omega (arith, ends) in
      after-places at d at t (StepsWithin at d) (StepsWithin at t) (direct_steps setting used known at direct) _ (omega arith) high (one.steps used known)
      (λ then_known steps within. with-places (d + 1) last at t Plain (StepsWithin at t) (left then_known.scopes (all (entered then_known))) _ (omega (arith, some)) (omega arith)
      (left-places (d + 1) last Plain then_known.scopes (all (entered then_known)) (placed (entered then_known)))
      (λ behind ones any. (omega arith, under, steps-wider at d at t (omega arith) high steps within)))

  -- a member's declarator, and what follows
  field-placed : (least most : ℕ) (declarator : Declarator) (behind : ℕ) (used : Bool) (known : Known) (base : CType) (before : List TypedMember) → PlacedDeclarator setting declarator
      → IsSome (declarator_name declarator) → (rest : Known → List TypedMember → Outcome (List TypedMember)) → least ≤ (declarator_span declarator).first
      → (declarator_span declarator).after ≤ behind → behind ≤ most
      → ((then_known : Known) (so_far : List TypedMember) → Places (declarator_span declarator).after behind Plain (rest then_known so_far))
      → Places least most Plain
      (after (steps_of setting used known declarator) (λ then_known steps. after (derived then_known base steps) (λ then_more type.
      after (typed_field setting then_more (declarator_span declarator).first (declarator_name declarator) before type) rest)))
  field-placed least most declarator behind used known base before shape is-named rest low mid high others =
      let span = declarator_span declarator in
      let name = some-of (declarator_name declarator) is-named in
      let stands = shape.name name.0 name.1 in
      let from = stands.0 in
      let to = stands.1 in
      let some = shape.on in
      let least-first : span.first < most = omega (arith, from, to, mid, high) in
      after-places span.first span.after least most (StepsWithin span.first span.after) Plain (steps_of setting used known declarator) _ low (omega (arith, mid, high)) (shape.steps used known)
      (λ then_known steps within. after-places least most least most Plain Plain (derived then_known base steps) _ (omega arith) (omega arith)
      (derived-places then_known least most base steps (steps-wider span.first span.after least most low (omega (arith, mid, high)) steps within))
      (λ then_more type any. after-places least most least most Plain Plain (typed_field setting then_more span.first (declarator_name declarator) before type) rest (omega arith) (omega arith)
      (subst (λ found. Places least most Plain (typed_field setting then_more span.first found before type)) (sym name.1)
      (field-places setting least most then_more span.first name.0 before type low least-first (omega (arith, low, from)) (omega (arith, to, mid, high))))
      (λ last so_far any. wider span.after behind least most Plain Plain (rest last so_far) (omega (arith, low, some)) high (λ it any. tt) (others last so_far))))

  -- a parameter's declarator
  parameter-from : (used : Bool) (known : Known) (span : Span) (base : CType) (declarator : Declarator) → span.first < span.after
      → span.first ≤ (declarator_span declarator).first → (declarator_span declarator).after ≤ span.after → PlacedDeclarator setting declarator
      → Places span.first span.after Plain
      (after (steps_of setting used known declarator) (λ then_known steps. after (derived then_known base steps) (λ behind type.
      typed_parameter setting behind (parameter_at span declarator) type (declarator_name declarator))))
  parameter-from used known span base declarator on low high shape =
      let inner = declarator_span declarator in
      let here = parameter-here span declarator on low high shape.shown in
      after-places inner.first inner.after span.first span.after (StepsWithin inner.first inner.after) Plain (steps_of setting used known declarator) _ low high (shape.steps used known)
      (λ then_known steps within. after-places span.first span.after span.first span.after Plain Plain (derived then_known base steps) _ (omega arith) (omega arith)
      (derived-places then_known span.first span.after base steps (steps-wider inner.first inner.after span.first span.after low high steps within))
      (λ behind type any. parameter-places setting behind span.first span.after (parameter_at span declarator) type (declarator_name declarator) here.0 here.1
      (λ at e. let stands = shape.name at e in (let from = stands.0 in omega (arith, low, from), let to = stands.1 in omega (arith, to, high)))))

parameters-from : (at behind : ℕ) (part : Span) (one : Bool → Known → Outcome TypedParameter) (rest : Bool → Known → Outcome (List TypedParameter)) → at ≤ part.first → Placed part one
    → PlacedFrom part.after behind rest
    → PlacedFrom at behind (λ used known. after (one used known) (λ then_known made. with_it (rest used then_known) (λ last others. made ∷ others)))
parameters-from at behind part one rest low placed others =
    let some = placed.0 in
    let more = others.0 in (
      omega (arith, low, some, more),
      λ used known. after-places part.first part.after at behind Plain Plain (one used known) _ low more (placed.1 used known)
          (λ then_known made any. with-places part.after behind at behind Plain Plain (rest used then_known) _ (omega (arith, low, some)) (omega arith) (others.1 used then_known)
          (λ last ones is. tt)),
    )

-- ---- the syntax

module _ (setting : Setting) where
  mutual
    unfolding typed_within typed_values typed_name typed_specifiers words_said word_said fields_of fields_declared fields_with enumerators_of enumerator_of steps_of direct_steps parameters_of parameter_of IsExpr AreArguments AreMoreExprs IsTypeName IsSpecifiers AreWords IsSpecifier AreMembers IsMember AreMoreDeclarators AreMoreEnumerators IsEnumerator IsDeclarator IsDirect AreParameters AreMoreParameters IsParameter

    -- 6.5
    pub expr-placed : (names : List Declared) (outer : Span) (expr : Expr) → IsExpr setting.source names expr
        → Placed (expr_span expr) (λ used known. typed_within setting used known outer expr)
    expr-placed names outer (tree.name span) h =
        let on : span.first < span.after = omega (arith, h.1) in (on, λ used known. named-here span on setting known outer used (spelling_at setting.source span.first) _)
    expr-placed names outer (tree.constant span) h = (omega (arith, h.1), λ used known. tt)
    expr-placed names outer (tree.literal span) h = (omega (arith, h.1), λ used known. tt)
    expr-placed names outer (tree.paren span inner) h =
        let one = expr-placed _ outer inner h.2 in (
          omega (arith, h.1, h.4, one.0),
          λ used known. wider (expr_span inner).first (expr_span inner).after span.first span.after Plain Plain (typed_within setting used known outer inner)
              (omega (arith, h.1)) (omega (arith, h.4)) (λ it any. tt) (one.1 used known),
        )
    expr-placed names outer (tree.index span a b) h =
        two-placed span (expr_span a) (expr_span b) (λ used known. typed setting used known a) (λ used known. typed setting used known b)
        (λ behind x y. typed_index setting behind (extent span outer) (as_value x) (as_value y)) (omega (arith, h.0)) (omega (arith, h.4)) (omega (arith, h.7)) (expr-placed _ (expr_span a) a h.1) (expr-placed _ (expr_span b) b h.5)
        (λ on behind x y. index-here span on setting behind outer (as_value x) (as_value y))
    expr-placed names outer (tree.call span callee arguments) h =
        let one = expr-placed _ (expr_span callee) callee h.1 in
        let all = arguments-placed _ _ arguments h.4 in
        let on : span.first < span.after = omega (arith, h.0, h.6, one.0, all.0) in (
          on,
          λ used known. after-places (expr_span callee).first (expr_span callee).after span.first span.after Plain Plain (typed setting used known callee) _
              (omega (arith, h.0)) (omega (arith, h.6, all.0)) (one.1 used known)
              (λ then_known first any. after-places ((expr_span callee).after + 1) (exprs_after ((expr_span callee).after + 1) arguments) span.first span.after Plain Plain
              (typed_values setting used then_known arguments) _ (omega (arith, h.0, one.0)) (omega (arith, h.6)) (all.1 used then_known)
              (λ behind values any. call-here span on setting behind outer callee first values)),
        )
    expr-placed names outer (tree.member span whole name) h =
        one-placed span (expr_span whole) (λ used known. typed setting used known whole) (λ behind made. typed_member setting behind (extent span outer) name made)
        (omega (arith, h.0)) (omega (arith, h.4, h.6)) (expr-placed _ (expr_span whole) whole h.1) (λ on behind made. member-here span on setting behind outer name made)
    expr-placed names outer (tree.arrow span operand name) h =
        one-placed span (expr_span operand) (λ used known. typed setting used known operand) (λ behind made. typed_arrow setting behind (extent span outer) name (as_value made))
        (omega (arith, h.0)) (omega (arith, h.4, h.6)) (expr-placed _ (expr_span operand) operand h.1) (λ on behind made. arrow-here span on setting behind outer name (as_value made))
    expr-placed names outer (tree.postfix span operand operator) h =
        one-placed span (expr_span operand) (λ used known. typed setting used known operand) (λ behind made. typed_count setting behind (extent span outer) operator false made)
        (omega (arith, h.0)) (omega (arith, h.3, h.5)) (expr-placed _ (expr_span operand) operand h.1) (λ on behind made. count-here span on setting behind outer operator false made)
    expr-placed names outer (tree.prefix span operator operand) h =
        one-placed span (expr_span operand) (λ used known. typed setting used known operand)
        (λ behind made. typed_prefix setting behind (extent span outer) operator made (symbol_at setting.source operator))
        (omega (arith, h.0, h.1)) (omega (arith, h.4)) (expr-placed _ (expr_span operand) operand h.2)
        (λ on behind made. prefix-here span on setting behind outer operator made (symbol_at setting.source operator))
    expr-placed names outer (tree.sizeof_expr span operand) h =
        let one = expr-placed _ (expr_span operand) operand h.2 in
        one-placed span (expr_span operand) (λ used known. typed setting false known operand) (λ behind made. typed_sizeof setting behind (extent span outer) made)
        (omega (arith, h.1)) (omega (arith, h.4)) (one.0, λ used known. one.1 false known) (λ on behind made. sizeof-here span on setting behind outer made)
    expr-placed names outer (tree.sizeof_name span name) h =
        let one = name-placed _ name h.3 in
        one-placed span (type_name_span name) (λ used known. typed_name setting false known name)
        (λ behind named. typed_sizeof_name setting behind (extent span outer) named.kind named.constants)
        (omega (arith, h.2)) (omega (arith, h.5)) (one.0, λ used known. one.1 false known)
        (λ on behind named. sizeof-name-here span on setting behind outer named.kind named.constants)
    expr-placed names outer (tree.cast span name operand) h =
        two-placed span (type_name_span name) (expr_span operand) (λ used known. typed_name setting used known name) (λ used known. typed setting used known operand)
        (λ behind named made. typed_cast setting behind (extent span outer) (bare named.kind) named.constants (as_value made)) (omega (arith, h.1)) (omega (arith, h.4)) (omega (arith, h.7))
        (name-placed _ name h.2) (expr-placed _ (expr_span operand) operand h.5)
        (λ on behind named made. cast-here span on setting behind outer (bare named.kind) named.constants (as_value made))
    expr-placed names outer (tree.binary span a operator b) h =
        two-placed span (expr_span a) (expr_span b) (λ used known. typed setting used known a) (λ used known. typed setting used known b)
        (λ behind x y. typed_binary setting behind (extent span outer) operator (as_value x) (as_value y) (symbol_at setting.source operator))
        (omega (arith, h.0)) (omega (arith, h.2, h.5)) (omega (arith, h.8)) (expr-placed _ (expr_span a) a h.1) (expr-placed _ (expr_span b) b h.6)
        (λ on behind x y. binary-here span on setting behind outer operator (as_value x) (as_value y) (symbol_at setting.source operator))
    expr-placed names outer (tree.conditional span a b c) h =
        three-placed span (expr_span a) (expr_span b) (expr_span c) (λ used known. typed setting used known a) (λ used known. typed setting used known b)
        (λ used known. typed setting used known c) (λ behind x y z. typed_choice setting behind (extent span outer) (as_value x) (as_value y) (as_value z))
        (omega (arith, h.0)) (omega (arith, h.4)) (omega (arith, h.7)) (omega (arith, h.10)) (expr-placed _ (expr_span a) a h.1) (expr-placed _ (expr_span b) b h.5) (expr-placed _ (expr_span c) c h.8)
        (λ on behind x y z. choice-here span on setting behind outer (as_value x) (as_value y) (as_value z))
    expr-placed names outer (tree.assign span object operator value) h =
        two-placed span (expr_span object) (expr_span value) (λ used known. typed setting used known object) (λ used known. typed setting used known value)
        (λ behind x y. typed_assignment setting behind (extent span outer) operator x (as_value y) (symbol_at setting.source operator))
        (omega (arith, h.0)) (omega (arith, h.3, h.5)) (omega (arith, h.8)) (expr-placed _ (expr_span object) object h.1) (expr-placed _ (expr_span value) value h.6)
        (λ on behind x y. assignment-here span on setting behind outer operator x (as_value y) (symbol_at setting.source operator))
    expr-placed names outer (tree.comma span tree.no_exprs) h = absurd h
    expr-placed names outer (tree.comma span (tree.more_exprs first tree.no_exprs)) h = absurd h
    expr-placed names outer (tree.comma span (tree.more_exprs first (tree.more_exprs second others))) h =
        let one = expr-placed _ (expr_span first) first h.1 in
        let all = values-placed span.first span.after (expr_span first) (λ used known. typed setting used known first)
        (λ used known. typed_values setting used known (tree.more_exprs second others)) (omega (arith, h.0)) one
        (until (expr_span first).after (exprs_after (expr_span first).after (tree.more_exprs second others)) span.after (λ used known. typed_values setting used known (tree.more_exprs second others))
        (omega (arith, h.4)) (more-exprs-placed _ _ (tree.more_exprs second others) h.3)) in
        let on : span.first < span.after = omega (arith, h.0, h.4, one.0, (more-exprs-placed _ _ (tree.more_exprs second others) h.3).0) in (
          on,
          λ used known. after-places span.first span.after span.first span.after Plain Plain
              (typed_values setting used known (tree.more_exprs first (tree.more_exprs second others))) _ (omega arith) (omega arith) (all.1 used known)
              (λ behind values any. comma-here span on setting behind outer values),
        )

    arguments-placed : (names : List Declared) (at : ℕ) (exprs : Exprs) → AreArguments setting.source names at exprs
        → PlacedFrom at (exprs_after at exprs) (λ used known. typed_values setting used known exprs)
    arguments-placed names at tree.no_exprs h = (omega arith, λ used known. tt)
    arguments-placed names at (tree.more_exprs first others) h =
        values-placed at (exprs_after (expr_span first).after others) (expr_span first) (λ used known. typed setting used known first)
        (λ used known. typed_values setting used known others) (omega (arith, h.0)) (expr-placed _ (expr_span first) first h.1) (more-exprs-placed _ _ others h.3)

    more-exprs-placed : (names : List Declared) (at : ℕ) (exprs : Exprs) → AreMoreExprs setting.source names at exprs
        → PlacedFrom at (exprs_after at exprs) (λ used known. typed_values setting used known exprs)
    more-exprs-placed names at tree.no_exprs h = (omega arith, λ used known. tt)
    more-exprs-placed names at (tree.more_exprs first others) h =
        values-placed at (exprs_after (expr_span first).after others) (expr_span first) (λ used known. typed setting used known first)
        (λ used known. typed_values setting used known others) (omega (arith, h.1)) (expr-placed _ (expr_span first) first h.2) (more-exprs-placed _ _ others h.4)

    -- 6.7.7
    pub name-placed : (names : List Declared) (name : TypeName) → IsTypeName setting.source names name
        → Placed (type_name_span name) (λ used known. typed_name setting used known name)
    name-placed names (tree.type_name span specifiers declarator) h =
        let words = specifiers-placed _ elsewhere false specifiers h.1 in
        let shape = declarator-placed _ false declarator h.3 in (
          omega (arith, h.0, h.2, h.5, words.0, shape.on),
          λ used known. name-places span.first span.after known.constants _
              (after-places (specifiers_span specifiers).first (specifiers_span specifiers).after span.first span.after Plain Plain
              (typed_specifiers setting used elsewhere false (record known { constants = [] }) specifiers) _
              (omega (arith, h.0)) (omega (arith, h.2, h.5, shape.on)) (words.1 used (record known { constants = [] }))
              (λ then_known base any. after-places (declarator_span declarator).first (declarator_span declarator).after span.first span.after
              (StepsWithin (declarator_span declarator).first (declarator_span declarator).after) Plain (steps_of setting used then_known declarator) _
              (omega (arith, h.0, h.2, words.0)) (omega (arith, h.5)) (shape.steps used then_known)
              (λ behind steps within. derived-places behind span.first span.after base steps
              (steps-wider (declarator_span declarator).first (declarator_span declarator).after span.first span.after (omega (arith, h.0, h.2, words.0)) (omega (arith, h.5)) steps within)))),
        )

    -- 6.7
    pub specifiers-placed : (names : List Declared) (stands : Where) (alone : Bool) (specifiers : Specifiers) → IsSpecifiers setting.source names specifiers
        → Placed (specifiers_span specifiers) (λ used known. typed_specifiers setting used stands alone known specifiers)
    specifiers-placed names stands alone (tree.listed span tree.no_words) h = absurd h
    specifiers-placed names stands alone (tree.listed span (tree.more_words first others)) h =
        let one = word-placed _ _ _ alone first h.0.0 in
        let rest = words-placed _ _ _ alone others h.0.1 in
        let on : span.first < span.after = omega (arith, h.1, one.0, rest.0) in (
          on,
          λ used known. after-places span.first span.after span.first span.after Plain Plain (words_said setting used alone known nothing_said (tree.more_words first others)) _
              (omega arith) (omega arith)
              (after-places span.first (specifier_after span.first first) span.first span.after Plain Plain (word_said setting used alone known nothing_said first) _
              (omega arith) (omega (arith, h.1, rest.0)) (one.1 used known nothing_said)
              (λ behind so_far any. wider (specifier_after span.first first) (words_after span.first (tree.more_words first others)) span.first span.after Plain Plain
              (words_said setting used alone behind so_far others) (omega (arith, one.0)) (omega (arith, h.1)) (λ it any. tt) (rest.1 used behind so_far)))
              (λ behind said any. said-here span on setting behind stands said),
        )

    words-placed : (names : List Declared) (at : ℕ) (types : Types) (alone : Bool) (words : Words) → AreWords setting.source names at types words
        → (at ≤ words_after at words) × ((used : Bool) (known : Known) (said : Said) → Places at (words_after at words) Plain (words_said setting used alone known said words))
    words-placed names at types alone tree.no_words h = (omega arith, λ used known said. tt)
    words-placed names at types alone (tree.more_words first others) h =
        let one = word-placed _ _ _ alone first h.0 in
        let rest = words-placed _ _ _ alone others h.1 in (
          omega (arith, one.0, rest.0),
          λ used known said. after-places at (specifier_after at first) at (words_after (specifier_after at first) others) Plain Plain (word_said setting used alone known said first) _
              (omega arith) rest.0 (one.1 used known said)
              (λ behind so_far any. wider (specifier_after at first) (words_after (specifier_after at first) others) at (words_after (specifier_after at first) others) Plain Plain
              (words_said setting used alone behind so_far others) (omega (arith, one.0)) (omega arith) (λ it any. tt) (rest.1 used behind so_far)),
        )

    word-placed : (names : List Declared) (at : ℕ) (types : Types) (alone : Bool) (word : Specifier) → IsSpecifier setting.source names at types word
        → (at < specifier_after at word) × ((used : Bool) (known : Known) (said : Said) → Places at (specifier_after at word) Plain (word_said setting used alone known said word))
    word-placed names at types alone (tree.keyword here) h = (omega arith, λ used known said. tt)
    word-placed names at types alone (tree.typedef_name here) h =
        (omega arith, λ used known said. if-places at (at + 1) Plain (meaning_of known (spelling_at setting.source here)) 1 here _ (omega (arith, h.0)) (omega (arith, h.0)) (λ entry. tt))
    word-placed names at types alone (tree.struct_only span tag) h =
        let on : span.first < span.after = omega (arith, h.1, h.5) in (
          omega (arith, h.5),
          λ used known said. with-places span.first span.after at span.after Plain Plain
              (struct_named setting known span tag (if alone then tag_inside setting known tag else tag_seen setting known tag)) _ (omega (arith, h.1)) (omega arith)
              (struct-here span on setting known tag _) (λ behind type any. tt),
        )
    word-placed names at types alone (tree.struct_with span tag tree.no_members) h = absurd h
    word-placed names at types alone (tree.struct_with span tag (tree.more_members first others)) h =
        let all = members-placed _ _ (tree.more_members first others) h.5 in
        let begins = tag-on (at + 1) tag in
        let on : span.first < span.after = omega (arith, h.1, h.7, begins, all.0) in (
          omega (arith, h.7, begins, all.0),
          λ used known said. with-places at span.after at span.after Plain Plain _ _ (omega arith) (omega arith)
              (after-places (tag_after (at + 1) tag + 1) (members_after (tag_after (at + 1) tag + 1) (tree.more_members first others)) at span.after Plain Plain
              (fields_of setting used (beginning (with_new_struct setting known tag (tag_inside setting known tag)) (struct_begun known (tag_inside setting known tag))) []
              (tree.more_members first others)) _ (omega (arith, begins)) (omega (arith, h.7)) (all.1 used _ [])
              (λ behind members any. wider span.first span.after at span.after Plain Plain _ (omega (arith, h.1)) (omega arith) (λ it any. tt)
              (ended-here span on setting behind (struct_begun known (tag_inside setting known tag)) known.begun members)))
              (λ behind type any. tt),
        )
    word-placed names at types alone (tree.enum_only span tag trailing) h =
        let on : span.first < span.after = omega (arith, h.1, h.6) in (
          omega (arith, h.6),
          λ used known said. with-places span.first span.after at span.after Plain Plain _ _ (omega (arith, h.1)) (omega arith)
              (enum-here span on setting known (tag_seen setting known tag)) (λ behind type any. tt),
        )
    word-placed names at types alone (tree.enum_with span tag tree.no_enumerators trailing) h = absurd h
    word-placed names at types alone (tree.enum_with span tag (tree.more_enumerators first others) trailing) h =
        let one = enumerator-placed _ first h.6 in
        let rest = enumerators-placed _ _ others h.7 in
        let begins = tag-on (at + 1) tag in
        let ends = trailing-on (enumerators_after (enumerator_span first).after others) trailing in
        let on : span.first < span.after = omega (arith, h.1, h.5, h.10, begins, ends, one.0, rest.0) in (
          omega (arith, h.5, h.10, begins, ends, one.0, rest.0),
          λ used known said. with-places at span.after at span.after Plain Plain _ _ (omega arith) (omega arith)
              (after-places at span.after at span.after Plain Plain
              (enumerators_of setting used (if is_some (tag_inside setting known tag) then known else tag_declared setting known tag (integer k.Int)) (negsuc 0) (tree.more_enumerators first others)) _
              (omega arith) (omega arith)
              (after-places (enumerator_span first).first (enumerator_span first).after at span.after Plain Plain
              (enumerator_of setting used (if is_some (tag_inside setting known tag) then known else tag_declared setting known tag (integer k.Int)) (negsuc 0) first) _
              (omega (arith, h.5, begins)) (omega (arith, h.10, ends, rest.0)) (one.1 used _ (negsuc 0))
              (λ then_known value any. wider (enumerator_span first).after (enumerators_after (enumerator_span first).after others) at span.after Plain Plain
              (enumerators_of setting used then_known value others) (omega (arith, h.5, begins, one.0)) (omega (arith, h.10, ends)) (λ it any. tt) (rest.1 used then_known value)))
              (λ last value any. wider span.first span.after at span.after Plain Plain _ (omega (arith, h.1)) (omega arith) (λ it any. tt)
              (enum-ended-here span on setting last _ (integer k.Int))))
              (λ behind type any. tt),
        )

    -- 6.7.2.1
    members-placed : (names : List Declared) (at : ℕ) (members : Members) → AreMembers setting.source names at members
        → (at ≤ members_after at members)
        × ((used : Bool) (known : Known) (before : List TypedMember) → Places at (members_after at members) Plain (fields_of setting used known before members))
    members-placed names at tree.no_members h = (omega arith, λ used known before. tt)
    members-placed names at (tree.more_members first others) h =
        let one = member-placed _ first h.1 in
        let rest = members-placed _ _ others h.2 in (
          omega (arith, h.0, one.0, rest.0),
          λ used known before. after-places (member_span first).first (member_span first).after at (members_after (member_span first).after others) Plain Plain
              (fields_declared setting used known before first) _ (omega (arith, h.0)) rest.0 (one.1 used known before)
              (λ behind so_far any. wider (member_span first).after (members_after (member_span first).after others) at (members_after (member_span first).after others) Plain Plain
              (fields_of setting used behind so_far others) (omega (arith, h.0, one.0)) (omega arith) (λ it any. tt) (rest.1 used behind so_far)),
        )

    member-placed : (names : List Declared) (member : Member) → IsMember setting.source names member
        → ((member_span member).first < (member_span member).after)
        × ((used : Bool) (known : Known) (before : List TypedMember) → Places (member_span member).first (member_span member).after Plain (fields_declared setting used known before member))
    member-placed names (tree.members span specifiers tree.no_declarators) h = absurd h
    member-placed names (tree.members span specifiers (tree.more_declarators first others)) h =
        let words = specifiers-placed _ elsewhere false specifiers h.1 in
        let shape = declarator-placed _ false first h.3 in
        let rest = declarators-placed _ _ others h.5 in (
          omega (arith, h.0, h.2, h.7, words.0, shape.on, rest.0),
          λ used known before. after-places (specifiers_span specifiers).first (specifiers_span specifiers).after span.first span.after Plain Plain
              (typed_specifiers setting used elsewhere false known specifiers) _ (omega (arith, h.0)) (omega (arith, h.2, h.7, shape.on, rest.0)) (words.1 used known)
              (λ behind base any. field-placed setting span.first span.after first (declarators_after (declarator_span first).after others) used behind base before shape h.4
              (λ then_known so_far. fields_with setting used then_known base so_far others) (omega (arith, h.0, h.2, words.0)) rest.0 (omega (arith, h.7))
              (λ then_known so_far. rest.1 used then_known base so_far)),
        )

    declarators-placed : (names : List Declared) (at : ℕ) (declarators : Declarators) → AreMoreDeclarators setting.source names at declarators
        → (at ≤ declarators_after at declarators)
        × ((used : Bool) (known : Known) (base : CType) (before : List TypedMember) → Places at (declarators_after at declarators) Plain (fields_with setting used known base before declarators))
    declarators-placed names at tree.no_declarators h = (omega arith, λ used known base before. tt)
    declarators-placed names at (tree.more_declarators first others) h =
        let shape = declarator-placed _ false first h.2 in
        let rest = declarators-placed _ _ others h.4 in (
          omega (arith, h.1, shape.on, rest.0),
          λ used known base before. field-placed setting at (declarators_after (declarator_span first).after others) first (declarators_after (declarator_span first).after others) used known base before
              shape h.3 (λ then_known so_far. fields_with setting used then_known base so_far others) (omega (arith, h.1)) rest.0 (omega arith)
              (λ then_known so_far. rest.1 used then_known base so_far),
        )

    -- 6.7.2.2
    enumerators-placed : (names : List Declared) (at : ℕ) (enumerators : Enumerators) → AreMoreEnumerators setting.source names at enumerators
        → (at ≤ enumerators_after at enumerators)
        × ((used : Bool) (known : Known) (last : ℤ) → Places at (enumerators_after at enumerators) Plain (enumerators_of setting used known last enumerators))
    enumerators-placed names at tree.no_enumerators h = (omega arith, λ used known last. tt)
    enumerators-placed names at (tree.more_enumerators first others) h =
        let one = enumerator-placed _ first h.2 in
        let rest = enumerators-placed _ _ others h.3 in (
          omega (arith, h.1, one.0, rest.0),
          λ used known last. after-places (enumerator_span first).first (enumerator_span first).after at (enumerators_after (enumerator_span first).after others) Plain Plain
              (enumerator_of setting used known last first) _ (omega (arith, h.1)) rest.0 (one.1 used known last)
              (λ behind value any. wider (enumerator_span first).after (enumerators_after (enumerator_span first).after others) at
              (enumerators_after (enumerator_span first).after others) Plain Plain (enumerators_of setting used behind value others) (omega (arith, h.1, one.0)) (omega arith) (λ it any. tt)
              (rest.1 used behind value)),
        )

    enumerator-placed : (names : List Declared) (enumerator : Enumerator) → IsEnumerator setting.source names enumerator
        → ((enumerator_span enumerator).first < (enumerator_span enumerator).after)
        × ((used : Bool) (known : Known) (last : ℤ) → Places (enumerator_span enumerator).first (enumerator_span enumerator).after Plain (enumerator_of setting used known last enumerator))
    enumerator-placed names (tree.bare span at) h =
        (omega (arith, h.0, h.2), λ used known last. declared-places setting span.first span.after known at (last +ℤ pos 1) (omega (arith, h.0)) (omega (arith, h.2)))
    enumerator-placed names (tree.valued span at value) h =
        let one = expr-placed _ (expr_span value) value h.4 in (
          omega (arith, h.0, h.3, h.6, one.0),
          λ used known last. after-places (expr_span value).first (expr_span value).after span.first span.after Plain Plain (typed setting used known value) _
              (omega (arith, h.0, h.3)) (omega (arith, h.6)) (one.1 used known)
              (λ behind made any. valued-places setting span.first span.after behind at (expr_span value).first (as_value made) (omega (arith, h.0)) (omega (arith, h.3, h.6, one.0))
              (omega (arith, h.0, h.3)) (omega (arith, h.6, one.0))),
        )

    -- 6.7.6
    pub declarator-placed : (names : List Declared) (of_parameter : Bool) (declarator : Declarator) → IsDeclarator setting.source names of_parameter declarator
        → PlacedDeclarator setting declarator
    declarator-placed names of_parameter (tree.shaped span consts direct) h =
        let one = direct-placed _ of_parameter _ direct h.1 in
        let begins = pointers-on span.first consts in
        let ends = h.2 in
        record {
          on = omega (arith, ends, begins, one.on);
          shown = shown-shape setting span consts direct one ends;
          name = λ at e. let it = one.name at e in (let from = it.0 in omega (arith, begins, from), let to = it.1 in omega (arith, ends, to));
          steps = λ used known. shape-places setting used known span consts direct one ends;
        }

    pub direct-placed : (names : List Declared) (of_parameter : Bool) (at : ℕ) (direct : Direct) → IsDirect setting.source names of_parameter at direct → PlacedDirect setting at direct
    direct-placed names of_parameter at tree.absent h = record {
      on = omega arith;
      shown = λ there. absurd (cc);
      name = λ named e. absurd (cc);
      steps = λ used known. tt;
    }
    direct-placed names of_parameter at (tree.declared name) h =
        let here = h.0 in record {
          on = omega arith;
          shown = λ there. omega arith;
          name = λ named e. let same = injected name named e in (omega (arith, here, same), omega (arith, here, same));
          steps = λ used known. tt;
        }
    direct-placed names of_parameter at (tree.enclosed declarator) h =
        let one = declarator-placed _ of_parameter declarator h.3 in
        let begins = h.2 in record {
          on = omega (arith, begins, one.on);
          shown = λ there. omega (arith, begins, one.on);
          name = λ named e. let it = one.name named e in (let from = it.0 in omega (arith, begins, from), let to = it.1 in omega (arith, to));
          steps = λ used known. wider (declarator_span declarator).first (declarator_span declarator).after at ((declarator_span declarator).after + 1)
              (StepsWithin (declarator_span declarator).first (declarator_span declarator).after) (StepsWithin at ((declarator_span declarator).after + 1)) (steps_of setting used known declarator)
              (omega (arith, begins)) (omega arith)
              (λ steps within. steps-wider (declarator_span declarator).first (declarator_span declarator).after at ((declarator_span declarator).after + 1) (omega (arith, begins)) (omega arith) steps within)
              (one.steps used known);
        }
    direct-placed names of_parameter at (tree.array direct) h =
        let one = direct-placed _ of_parameter at direct h.0 in record {
          on = omega (arith, one.on);
          shown = λ there. omega (arith, one.on);
          name = λ named e. let it = one.name named e in (it.0, let to = it.1 in omega (arith, to));
          steps = λ used known. array-places setting used known at direct one;
        }
    direct-placed names of_parameter at (tree.sized direct value) h =
        let one = direct-placed _ of_parameter at direct h.0 in
        let length = expr-placed _ (expr_span value) value h.3 in
        let begins = h.2 in record {
          on = omega (arith, begins, one.on, length.0);
          shown = λ there. omega (arith, begins, one.on, length.0);
          name = λ named e. let it = one.name named e in (it.0, let to = it.1 in omega (arith, to, begins, length.0));
          steps = λ used known. sized-places setting used known at direct (expr_span value) (λ then_known. typed setting used then_known value) one begins length.0 (λ then_known. length.1 used then_known);
        }
    direct-placed names of_parameter at (tree.function direct parameters) h =
        let one = direct-placed _ of_parameter at direct h.0 in
        let all = parameters-placed _ _ parameters h.2 in record {
          on = omega (arith, one.on, all.0);
          shown = λ there. omega (arith, one.on, all.0);
          name = λ named e. let it = one.name named e in (it.0, let to = it.1 in omega (arith, to, all.0));
          steps = λ used known. calling-places setting used known at direct (parameters_after (direct_after at direct + 1) parameters)
              (λ then_known. parameters_of setting used then_known parameters) one all.0 (λ then_known. all.1 used then_known);
        }

    -- 6.7.6.3
    pub parameters-placed : (names : List Declared) (at : ℕ) (parameters : Parameters) → AreParameters setting.source names at parameters
        → PlacedFrom at (parameters_after at parameters) (λ used known. parameters_of setting used known parameters)
    parameters-placed names at tree.no_parameters h = (omega arith, λ used known. tt)
    parameters-placed names at (tree.more_parameters first others) h =
        parameters-from at (parameters_after (parameter_span first).after others) (parameter_span first) (λ used known. parameter_of setting used known first)
        (λ used known. parameters_of setting used known others) (omega (arith, h.0)) (parameter-placed _ first h.1) (more-parameters-placed _ _ others h.2)

    pub more-parameters-placed : (names : List Declared) (at : ℕ) (parameters : Parameters) → AreMoreParameters setting.source names at parameters
        → PlacedFrom at (parameters_after at parameters) (λ used known. parameters_of setting used known parameters)
    more-parameters-placed names at tree.no_parameters h = (omega arith, λ used known. tt)
    more-parameters-placed names at (tree.more_parameters first others) h =
        parameters-from at (parameters_after (parameter_span first).after others) (parameter_span first) (λ used known. parameter_of setting used known first)
        (λ used known. parameters_of setting used known others) (omega (arith, h.1)) (parameter-placed _ first h.2) (more-parameters-placed _ _ others h.3)

    pub parameter-placed : (names : List Declared) (parameter : Parameter) → IsParameter setting.source names parameter
        → Placed (parameter_span parameter) (λ used known. parameter_of setting used known parameter)
    parameter-placed names (tree.parameter span specifiers declarator) h =
        let words = specifiers-placed _ elsewhere false specifiers h.1 in
        let shape = declarator-placed _ true declarator h.3 in
        let on : span.first < span.after = omega (arith, h.0, h.2, h.4, words.0, shape.on) in
        let low : span.first ≤ (declarator_span declarator).first = omega (arith, h.0, h.2, words.0) in
        let high : (declarator_span declarator).after ≤ span.after = omega (arith, h.4) in (
          on,
          λ used known. after-places (specifiers_span specifiers).first (specifiers_span specifiers).after span.first span.after Plain Plain
              (typed_specifiers setting used elsewhere false known specifiers) _ (omega (arith, h.0)) (omega (arith, h.2, h.4, shape.on)) (words.1 used known)
              (λ then_known base any. parameter-from setting used then_known span base declarator on low high shape),
        )
