-- Initialisers by their syntax: what each step leaves to type.
use Rattle.std.specs.Prelude.{◌≡◌, ℕ, ◌+◌, Bool, true, false, if◌then◌else◌, List, [], ◌∷◌, ◌++◌, length, map, Option, Some, None, refl}
use Rattle.std.proofs.Common.{sym, ap, ap₂, ◌∙◌, append_assoc, append-nil, get_or, arith, rules}
use Rattle.std.proofs.lemmas.List.{map-append}
use Rattle.dm_token.specs.declared.place.Span.{Span}
use Rattle.dm_type.specs.declared.shape.Shape.{Shape}
use Rattle.dm_type.specs.CTypes.{CType}
use Rattle.dm_type.specs.Tables.{Table}
use Rattle.dm_syn.specs.declared.declaration.Initialiser.{Initialiser as OneInitialiser}
use Rattle.dm_syn.specs.declared.declaration.InitForm.TheVariants as init
use Rattle.dm_syn.specs.declared.expression.Expr.{Expr as OneExpr}
use Rattle.dm_syn.specs.Trees.{Expr, Initialiser, Initialisers}
use Rattle.dm_syn.specs.Trees as tree
use Rattle.dm_syn.specs.Views as syntax
use Rattle.dm_tree.specs.declared.tree.Initial.{Initial as InitialHeld}
use Rattle.dm_tree.specs.declared.tree.Initial.TheVariants as form
use Rattle.dm_tree.specs.declared.tree.Core as q
use Rattle.dm_tree.specs.Scenes.{is_scalar, part_type}
use Rattle.dm_tree.specs.Trees as label
use Rattle.dm_tree.specs.Trees.{Tree}
use Rattle.dm_tree.specs.Views.{OpenedInitial, items_of, expressions_of_items}
use Rattle.dm_typing.specs.declared.known.Known.{Known as Held}
use Rattle.dm_typing.specs.Known.{Known, Setting, Outcome, given, broken, after, with_it, if_given}
use Rattle.dm_typing.specs.Conversions.{as_value}
use Rattle.dm_typing.specs.Typing.{typed}
use Rattle.dm_typing.specs.Views.{Begins}
use Rattle.dm_typing.proofs.LaterLemmas.{begins-itself}
use Rattle.dm_edeclarator.proofs.ReachLemmas.{Reaches}
use Rattle.dm_edecl.specs.Initialising.{Initial, Initials, First, zero_initialised, no_initials, with_first, enclosed, is_zero_token, is_zero_list, expressions_alone, all_expressions_alone, misplaced, scalar_in_braces, scalar_initialised, all_zero, initialised_by, typed_initialiser, typed_initialisers}
use Rattle.dm_einitial.proofs.SyntaxLemmas.{initialiser-value, initialiser-braces}
use Rattle.dm_einitial.specs.Steps.{opened_initial, initial_of, initial_over, initials_over, sole_value, zero_for, typed_item, dropped}

-- ---- what initialises nothing

module _ (setting : Setting) (known : Known) where
  value-dropped : (outcome : Outcome Tree) → dropped (after outcome (λ behind made. given behind (as_value made ∷ []))) ≡ after outcome (λ behind made. given behind tt)
  value-dropped (given behind made) = refl
  value-dropped (broken rule at) = refl

  pub alone-value : (at : Span) (expr : Expr) → dropped (expressions_alone setting known (tree.value at expr)) ≡ after (typed setting true known expr) (λ behind made. given behind tt)
  unfolding expressions_alone
  alone-value at expr = value-dropped (typed setting true known expr)

  pub alone-braces : (span : Span) (items : Initialisers) (trailing : Bool) → expressions_alone setting known (tree.braces span items trailing) ≡ all_expressions_alone setting known items
  unfolding expressions_alone
  alone-braces span items trailing = refl

  pub alone-none : dropped (all_expressions_alone setting known tree.no_initialisers) ≡ given known tt
  unfolding expressions_alone
  alone-none = refl

  both-dropped : (outcome : Outcome (List Tree)) (rest : Known → Outcome (List Tree)) → dropped (after outcome (λ then_known made. after (rest then_known) (λ behind more. given behind (made ++ more))))
      ≡ after (dropped outcome) (λ then_known nothing. dropped (rest then_known))
  both-dropped (broken rule at) rest = refl
  both-dropped (given then_known made) rest = go (rest then_known)
    where
      go : (outcome : Outcome (List Tree)) → dropped (after outcome (λ behind more. given behind (made ++ more))) ≡ dropped outcome
      go (given behind more) = refl
      go (broken rule at) = refl

  pub alone-more : (first : Initialiser) (others : Initialisers) → dropped (all_expressions_alone setting known (tree.more_initialisers first others))
      ≡ after (dropped (expressions_alone setting known first)) (λ then_known nothing. dropped (all_expressions_alone setting then_known others))
  unfolding expressions_alone
  alone-more first others = both-dropped (expressions_alone setting known first) (λ then_known. all_expressions_alone setting then_known others)

  -- a list that initialises nothing breaks a rule behind its expressions
  abbrev stops : ℕ → Known → List Tree → Outcome Initial
  stops at behind trees = broken 8 at

  pub misplaced-is : (span : Span) (items : Initialisers) → misplaced setting known span items ≡ after (dropped (all_expressions_alone setting known items)) (λ behind nothing. broken 8 span.first)
  misplaced-is span items = go (all_expressions_alone setting known items)
    where
      go : (outcome : Outcome (List Tree)) → after outcome (stops span.first) ≡ after (dropped outcome) (λ behind nothing. broken 8 span.first)
      go (given behind trees) = refl
      go (broken rule at) = refl

-- ---- lists of one expression

two-items : (first second : Initialiser) (others : Initialisers) → None ≡ sole_value (tree.more_initialisers first (tree.more_initialisers second others))
two-items (tree.value at expr) second others = refl
two-items (tree.braces span items trailing) second others = refl

pub sole-long : (items : List OneInitialiser) → (length items ≡ 1 → ⊥) → None ≡ sole_value (syntax.initialisers (map syntax.initialiser items))
sole-long [] unlike = refl
sole-long (only ∷ []) unlike = absurd (unlike refl)
sole-long (first ∷ second ∷ others) unlike = two-items (syntax.initialiser first) (syntax.initialiser second) (syntax.initialisers (map syntax.initialiser others))

sole-is : (items : List OneInitialiser) (one : OneInitialiser) → length items ≡ 1 → one ≡ get_or items 0 one → items ≡ one ∷ []
sole-is [] one h is = absurd (omega (arith, h))
sole-is (only ∷ []) one h is = ap (λ it. it ∷ []) (sym is)
sole-is (first ∷ second ∷ others) one h is = absurd (omega (arith, h))

pub sole-some : (items : List OneInitialiser) (one : OneInitialiser) (expr : OneExpr) → length items ≡ 1 → one ≡ get_or items 0 one → one.form ≡ init.Value expr
    → Some (one.span, syntax.expr expr) ≡ sole_value (syntax.initialisers (map syntax.initialiser items))
sole-some items one expr h is form =
    sym (ap (λ all. sole_value (syntax.initialisers (map syntax.initialiser all))) (sole-is items one h is)
    ∙ ap (λ it. sole_value (tree.more_initialisers it tree.no_initialisers)) (initialiser-value one expr form))

pub sole-none : (items list : List OneInitialiser) (one : OneInitialiser) (trailing : Bool) → length items ≡ 1 → one ≡ get_or items 0 one → one.form ≡ init.Braces list trailing
    → None ≡ sole_value (syntax.initialisers (map syntax.initialiser items))
sole-none items list one trailing h is form =
    sym (ap (λ all. sole_value (syntax.initialisers (map syntax.initialiser all))) (sole-is items one h is)
    ∙ ap (λ it. sole_value (tree.more_initialisers it tree.no_initialisers)) (initialiser-braces one list trailing form))

module _ (setting : Setting) (fixed : Bool) (known : Known) (type : CType) (span : Span) where
  pub scalar-some : (items : Initialisers) (at : Span) (expr : Expr) → Some (at, expr) ≡ sole_value items
      → scalar_in_braces setting fixed known type span items ≡ after (typed setting true known expr) (λ behind made. scalar_initialised behind fixed type at.first (as_value made))
  scalar-some (tree.more_initialisers (tree.value span2 other) tree.no_initialisers) at expr h =
      let e : (span2, other) ≡ (at, expr) = cc in
      ap (λ (it : Span × Expr). after (typed setting true known it.1) (λ behind made. scalar_initialised behind fixed type it.0.first (as_value made))) e
  scalar-some items at expr h = absurd (cc)

  pub scalar-none : (items : Initialisers) → None ≡ sole_value items → scalar_in_braces setting fixed known type span items ≡ misplaced setting known span items
  scalar-none (tree.more_initialisers (tree.value at expr) tree.no_initialisers) h = absurd (cc)
  scalar-none items h = refl

  pub zero-some : (items : Initialisers) (at : Span) (expr : Expr) → Some (at, expr) ≡ sole_value items → all_zero setting fixed known type span items ≡ zero_for setting fixed known type span at expr
  zero-some (tree.more_initialisers (tree.value span2 other) tree.no_initialisers) at expr h =
      let e : (span2, other) ≡ (at, expr) = cc in ap (λ (it : Span × Expr). zero_for setting fixed known type span it.0 it.1) e
  zero-some items at expr h = absurd (cc)

  pub zero-none : (items : Initialisers) → None ≡ sole_value items → all_zero setting fixed known type span items ≡ misplaced setting known span items
  zero-none (tree.more_initialisers (tree.value at expr) tree.no_initialisers) h = absurd (cc)
  zero-none items h = refl

pub list-some : (setting : Setting) (items : Initialisers) (at : Span) (expr : Expr) → Some (at, expr) ≡ sole_value items → is_zero_list setting items false ≡ is_zero_token setting expr
list-some setting (tree.more_initialisers (tree.value span other) tree.no_initialisers) at expr h =
    let e : (span, other) ≡ (at, expr) = cc in ap (λ (it : Span × Expr). is_zero_token setting it.1) e
list-some setting items at expr h = absurd (cc)

pub list-none : (setting : Setting) (items : Initialisers) → None ≡ sole_value items → is_zero_list setting items false ≡ false
list-none setting (tree.more_initialisers (tree.value at expr) tree.no_initialisers) h = absurd (cc)
list-none setting items h = refl

pub list-trailing : (setting : Setting) (items : Initialisers) → is_zero_list setting items true ≡ false
list-trailing setting (tree.more_initialisers (tree.value at expr) tree.no_initialisers) = refl
list-trailing setting items = refl

-- ---- initialisers

module _ (setting : Setting) (fixed : Bool) (known : Known) (type : CType) where
  pub value-parts : (span : Span) (expr : Expr) → typed_initialiser setting fixed known type (tree.value span expr) ≡ after (typed setting true known expr) (λ behind made. initialised_by setting behind fixed type span.first expr made)
  unfolding typed_initialiser
  value-parts span expr = refl

  module _ (span : Span) (items : Initialisers) (trailing : Bool) where
    abbrev behind_scalar : Bool → Outcome Initial
    behind_scalar zero =
        if zero then all_zero setting fixed known type span items else after (typed_initialisers setting fixed known type span 0 items) (λ behind made. given behind (enclosed made))

    pub braces-scalar : is_scalar type ≡ true → typed_initialiser setting fixed known type (tree.braces span items trailing) ≡ scalar_in_braces setting fixed known type span items
    unfolding typed_initialiser
    braces-scalar h = ap (λ b. if b then scalar_in_braces setting fixed known type span items else behind_scalar (is_zero_list setting items trailing)) h

    pub braces-zero : is_scalar type ≡ false → is_zero_list setting items trailing ≡ true → typed_initialiser setting fixed known type (tree.braces span items trailing) ≡ all_zero setting fixed known type span items
    unfolding typed_initialiser
    braces-zero unlike h =
        ap (λ b. if b then scalar_in_braces setting fixed known type span items else behind_scalar (is_zero_list setting items trailing)) unlike ∙ ap behind_scalar h

    pub braces-list : is_scalar type ≡ false → is_zero_list setting items trailing ≡ false → typed_initialiser setting fixed known type (tree.braces span items trailing)
        ≡ after (typed_initialisers setting fixed known type span 0 items) (λ behind made. given behind (enclosed made))
    unfolding typed_initialiser
    braces-list unlike neither =
        ap (λ b. if b then scalar_in_braces setting fixed known type span items else behind_scalar (is_zero_list setting items trailing)) unlike ∙ ap behind_scalar neither

-- ---- the parts so far, and those of the rest

abbrev pub forms_ahead : label.Initialisers → label.Initialisers → label.Initialisers
forms_ahead label.no_items more = more
forms_ahead (label.more_items first others) more = label.more_items first (forms_ahead others more)

abbrev pub joined : Initials → Initials → Initials
joined before more = record { forms = forms_ahead before.forms more.forms; expressions = before.expressions ++ more.expressions }

abbrev pub pushed : Initials → Initial → Initials
pushed before made = record { forms = forms_ahead before.forms (label.more_items made.form label.no_items); expressions = before.expressions ++ made.expressions }

abbrev pub ahead : Initials → Outcome Initials → Outcome Initials
ahead before outcome = with_it outcome (λ behind more. joined before more)

forms-end : (forms : label.Initialisers) → forms_ahead forms label.no_items ≡ forms
forms-end label.no_items = refl
forms-end (label.more_items first others) = ap (label.more_items first) (forms-end others)

forms-more : (forms : label.Initialisers) (form : label.Initialiser) (more : label.Initialisers)
    → forms_ahead forms (label.more_items form more) ≡ forms_ahead (forms_ahead forms (label.more_items form label.no_items)) more
forms-more label.no_items form more = refl
forms-more (label.more_items first others) form more = ap (label.more_items first) (forms-more others form more)

abbrev initials : label.Initialisers → List Tree → Initials
initials forms expressions = record { forms = forms; expressions = expressions }

pub ahead-end : (known : Known) (before : Initials) → ahead before (given known no_initials) ≡ given known before
ahead-end known before = ap (given known) (ap₂ initials (forms-end before.forms) (append-nil before.expressions))

ahead-more : (before : Initials) (one : Outcome Initial) (rest : Known → Outcome Initials)
    → ahead before (after one (λ then_known made. after (rest then_known) (λ behind more. given behind (with_first made more)))) ≡ after one (λ then_known made. ahead (pushed before made) (rest then_known))
ahead-more before (broken rule at) rest = refl
ahead-more before (given then_known made) rest = go (rest then_known)
  where
    go : (outcome : Outcome Initials) → ahead before (after outcome (λ behind more. given behind (with_first made more))) ≡ ahead (pushed before made) outcome
    go (broken rule at) = refl
    go (given behind more) = ap (given behind) (ap₂ initials (forms-more before.forms made.form more.forms) (sym (append_assoc before.expressions made.expressions more.expressions)))

module _ (setting : Setting) (fixed : Bool) (known : Known) (type : CType) (span : Span) (n : ℕ) (before : Initials) where
  pub items-end : ahead before (typed_initialisers setting fixed known type span n tree.no_initialisers) ≡ given known before
  unfolding typed_initialiser
  items-end = ahead-end known before

  pub items-next : (first : Initialiser) (others : Initialisers) → ahead before (typed_initialisers setting fixed known type span n (tree.more_initialisers first others))
      ≡ after (typed_item setting fixed known (part_type known.types type n) span first (tree.more_initialisers first others))
      (λ then_known made. ahead (pushed before made) (typed_initialisers setting fixed then_known type span (n + 1) others))
  unfolding typed_initialiser
  items-next first others =
      ahead-more before (typed_item setting fixed known (part_type known.types type n) span first (tree.more_initialisers first others)) (λ then_known. typed_initialisers setting fixed then_known type span (n + 1) others)

-- one part more
opened-push : (parts : List OpenedInitial) (one : OpenedInitial)
    → initials (items_of (parts ++ one ∷ [])) (expressions_of_items (parts ++ one ∷ [])) ≡ pushed (initials (items_of parts) (expressions_of_items parts)) (initial_of one)
opened-push [] one = ap (initials (label.more_items one.initialiser label.no_items)) (append-nil one.expressions)
opened-push (first ∷ others) one =
    ap (λ (rest : Initials). initials (label.more_items first.initialiser rest.forms) (first.expressions ++ rest.expressions)) (opened-push others one)
    ∙ ap (initials (label.more_items first.initialiser (forms_ahead (items_of others) (label.more_items one.initialiser label.no_items))))
    (sym (append_assoc first.expressions (expressions_of_items others) one.expressions))

pub initials-push : (later : List Shape) (parts : List InitialHeld) (made : InitialHeld) → initials_over later (parts ++ made ∷ []) ≡ pushed (initials_over later parts) (initial_over later made)
initials-push later parts made =
    let types : Table = record { shapes = later; structs = [] } in
    ap (λ all. initials (items_of all) (expressions_of_items all)) (map-append (opened_initial types) parts (made ∷ []))
    ∙ opened-push (map (opened_initial types) parts) (opened_initial types made)

-- a list in braces
pub initial-parts : (later : List Shape) (parts : List InitialHeld) → initial_over later (form.Parts parts) ≡ enclosed (initials_over later parts)
initial-parts later parts = search (rules, q.the_lemmas)

-- ---- where a loop stands

-- from where the code begins
pub stands : {A : Type 0} (held : Held) (whole left : List Shape → Outcome A) → ((later : List Shape) → Begins held.types.shapes later → whole later ≡ left later) → Reaches held held whole left
stands held whole left e = record { shapes = begins-itself held.types.shapes; is = e }

-- ---- the 0 for the scalar that stands first

-- what is typed behind its expression
abbrev pub zero_behind : Bool → Span → Span → Option First → Known → Tree → Outcome Initial
zero_behind fixed span at found then_known made = if_given found 8 span.first (λ first. zero_initialised then_known fixed first at.first (as_value made))
