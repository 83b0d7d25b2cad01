-- The calls of the typing of type names, specifiers and declarators, in their order.
use Rattle.std.specs.Prelude.{◌≡◌, ℕ, ◌+◌, ◌<◌, ◌≤◌, ℤ, pos, negsuc, ◌+ℤ◌, Bool, false, List, [], ◌∷◌, ◌++◌, map, drop, length, Option, Some, None, unwrap_or, option_map, Ok, refl}
use Rattle.std.proofs.Common.{sym, ap, ◌∙◌, subst, get_or}
use Rattle.std.proofs.lemmas.List.Elements.{All-nil}
use Rattle.dm_token.specs.declared.place.Span.{Span}
use Rattle.dm_type.specs.declared.shape.Member.{Member}
use Rattle.dm_type.specs.declared.shape.Shape.{Shape}
use Rattle.dm_type.specs.CTypes.{CType}
use Rattle.dm_type.specs.Tables.{IsId}
use Rattle.dm_syn.specs.declared.declaration.Declarator.{Declarator}
use Rattle.dm_syn.specs.declared.declaration.Direct.{Direct}
use Rattle.dm_syn.specs.declared.declaration.Direct.TheVariants as direct
use Rattle.dm_syn.specs.declared.declaration.EnumForm.{EnumForm}
use Rattle.dm_syn.specs.declared.declaration.EnumItem.{EnumItem, out-EnumItem}
use Rattle.dm_syn.specs.declared.declaration.MemberForm.{MemberForm, out-MemberForm}
use Rattle.dm_syn.specs.declared.declaration.Parameter.{Parameter}
use Rattle.dm_syn.specs.declared.declaration.Specifier.{Specifier}
use Rattle.dm_syn.specs.declared.declaration.Specifier.TheVariants as specifier
use Rattle.dm_syn.specs.declared.declaration.Specifiers.{Specifiers}
use Rattle.dm_syn.specs.declared.declaration.StructForm.{StructForm}
use Rattle.dm_syn.specs.declared.declaration.TypeName.{TypeName}
use Rattle.dm_syn.specs.declared.expression.Expr.{Expr}
use Rattle.dm_syn.specs.Scopes.{declarator_name}
use Rattle.dm_syn.specs.Spans.{expr_span}
use Rattle.dm_syn.specs.Trees as tree
use Rattle.dm_syn.specs.Views as syntax
use Rattle.dm_tree.specs.Trees.{Tree}
use Rattle.dm_typing.specs.declared.known.Known.{Known as Held}
use Rattle.dm_typing.specs.declared.typer.Typer.{Typer}
use Rattle.dm_typing.specs.Known.{Known, Outcome, given, after, with_it}
use Rattle.dm_typing.specs.Operators.{keyword_at}
use Rattle.dm_typing.specs.Specifiers.{Said, nothing_said, with_word, with_type, elsewhere, Where}
use Rattle.dm_typing.specs.Typing.{typed, typed_name, name_ended, typed_specifiers, typed_said, words_said, word_said, fields_of, fields_declared, fields_with, enumerators_of, enumerator_of, enumerator_declared, enumerator_valued, steps_of, direct_steps, pointers, direct_at, arraying, calling, length_of, left, entered, without_void, parameters_of, parameter_of, typed_parameter, parameter_at as fault_at, Step, TypedName, TypedMember, TypedParameter}
use Rattle.dm_typing.specs.Views.{type_over, known_over, source_of, setting_of}
use Rattle.dm_edeclarator.specs.declared.declarators.PlacedStep.{PlacedStep}
use Rattle.dm_edeclarator.specs.declared.declarators.TypedParameter.{TypedParameter as ParameterHeld}
use Rattle.dm_edeclarator.specs.declared.specifiers.Said.{Said as SaidHeld}
use Rattle.dm_edeclarator.specs.Steps.{said_over, SaidFits, fields_over, FieldsFit, MemberFits, steps_over, parameters_over, ParametersFit, ParameterFits, Anything, number_itself, typedef_said, Follows}
use Rattle.dm_edeclarator.proofs.DeclaratorStepLemmas.{view-declarator}
use Rattle.dm_edeclarator.proofs.ReachLemmas.{Reaches, begins, says, done}
use Rattle.dm_eexpr.specs.Parts.{valued, type_of_specifier, typed_with, field_with, enumerator_with, sized_steps, array_steps, calling_steps}
use Rattle.dm_eexpr.proofs.AwaitLemmas.{Awaits, Makes}
use Rattle.dm_eexpr.proofs.CycleLemmas.{after-valued}
use Rattle.dm_eexpr.proofs.LoopLemmas.{onward, onward-none, cut, past, parameters-next, parameters-end, words-next, words-end, fields-next, fields-end, fields-with-next, fields-with-end, enumerators-next, enumerators-end}
use Rattle.dm_eexpr.proofs.SplitLemmas.{name-parts, specifiers-parts, keyword-said, typedef-said, struct-form-said, enum-form-said, declared-parts, bare-parts, valued-parts, shaped-parts, absent-parts, named-parts, enclosed-parts, array-view-parts, function-parts, parameter-parts}
use Rattle.dm_eexpr.proofs.SyntaxViewLemmas.{view-type-name, view-parameter, view-specifiers, view-word, view-typedef, view-struct, view-enum, item-bare, item-valued, view-members, view-absent, view-declared, view-enclosed}

module _ (typer : Typer) (used : Bool) (known : Held) where
  -- ---- type names

  pub name-is : (name : TypeName) (later : List Shape) → typed_name (setting_of typer) used (known_over later known) (syntax.type_name name)
      ≡ name_ended (known_over later known).constants (typed_with (setting_of typer) used (record (known_over later known) { constants = [] }) (syntax.specifiers name.specifiers) (syntax.declarator name.declarator))
  name-is name later =
      ap (typed_name (setting_of typer) used (known_over later known)) (view-type-name name)
      ∙ name-parts (setting_of typer) used (known_over later known) name.span (syntax.specifiers name.specifiers) (syntax.declarator name.declarator)

  -- ---- specifiers

  abbrev pub specifiers-call : (stands : Where) (alone : Bool) (specifiers : Specifiers) (words : List Specifier) → words ≡ specifiers.words
      → Awaits Said known known (λ later. typed_specifiers (setting_of typer) used stands alone (known_over later known) (syntax.specifiers specifiers))
  specifiers-call stands alone specifiers words same = record {
    one = λ later. words_said (setting_of typer) used alone (known_over later known) nothing_said (syntax.words (map syntax.specifier words));
    next = λ later behind said. typed_said behind stands specifiers.span.first said;
    reached = begins known _ _
        (λ later. ap (typed_specifiers (setting_of typer) used stands alone (known_over later known)) (view-specifiers specifiers)
        ∙ specifiers-parts (setting_of typer) used (known_over later known) stands alone specifiers.span (syntax.words (map syntax.specifier specifiers.words))
        ∙ ap (λ (items : List Specifier). after (words_said (setting_of typer) used alone (known_over later known) nothing_said (syntax.words (map syntax.specifier items))) (λ behind said. typed_said behind stands specifiers.span.first said)) (sym same));
  }

  module _ (alone : Bool) (said : SaidHeld) (word : Specifier) where
    abbrev word-whole : Specifier → List Shape → Outcome Said
    word-whole it later = word_said (setting_of typer) used alone (known_over later known) (said_over later said) (syntax.specifier it)

    pub word-as : (other : Specifier) (seen : tree.Specifier) (later : List Shape) → word ≡ other → syntax.specifier other ≡ seen
        → word-whole word later ≡ word_said (setting_of typer) used alone (known_over later known) (said_over later said) seen
    word-as other seen later is e = ap (λ it. word-whole it later) is ∙ ap (word_said (setting_of typer) used alone (known_over later known) (said_over later said)) e

    pub word-is : (at : ℕ) → word ≡ specifier.Word at → (later : List Shape)
        → word-whole word later ≡ given (known_over later known) (with_word (unwrap_or (keyword_at (source_of typer) at) 0) (said_over later said))
    word-is at is later = word-as (specifier.Word at) (tree.keyword at) later is (view-word at) ∙ keyword-said (setting_of typer) used (known_over later known) alone (said_over later said) at

    pub typedef-is : (at : ℕ) → word ≡ specifier.Typedef at → (later : List Shape) → word-whole word later ≡ typedef_said (setting_of typer) (known_over later known) (said_over later said) at
    typedef-is at is later = word-as (specifier.Typedef at) (tree.typedef_name at) later is (view-typedef at) ∙ typedef-said (setting_of typer) used (known_over later known) alone (said_over later said) at

    abbrev pub struct-makes : (form : StructForm) → word ≡ specifier.Struct form → Makes CType known (word-whole word)
    struct-makes form is = record {
      one = λ later. type_of_specifier (setting_of typer) used alone (known_over later known) (syntax.struct_form form);
      made = λ later type. with_type type (said_over later said);
      is = λ later. word-as (specifier.Struct form) (syntax.struct_form form) later is (view-struct form) ∙ struct-form-said (setting_of typer) used (known_over later known) alone (said_over later said) form;
    }

    abbrev pub enum-makes : (form : EnumForm) → word ≡ specifier.Enum form → Makes CType known (word-whole word)
    enum-makes form is = record {
      one = λ later. type_of_specifier (setting_of typer) used false (known_over later known) (syntax.enum_form form);
      made = λ later type. with_type type (said_over later said);
      is = λ later. word-as (specifier.Enum form) (syntax.enum_form form) later is (view-enum form) ∙ enum-form-said (setting_of typer) used (known_over later known) alone (said_over later said) form;
    }

  -- ---- members and enumerators

  abbrev pub declared-call : (fields : List Member) (form : MemberForm) → Awaits CType known known (λ later. fields_declared (setting_of typer) used (known_over later known) (fields_over later fields) (syntax.member_form form))
  declared-call fields form = record {
    one = λ later. typed_specifiers (setting_of typer) used elsewhere false (known_over later known) (syntax.specifiers (out-MemberForm form).specifiers);
    next = λ later behind base. fields_with (setting_of typer) used behind base (fields_over later fields) (syntax.declarators (map syntax.declarator (out-MemberForm form).declarators));
    reached = begins known _ _
        (λ later. ap (fields_declared (setting_of typer) used (known_over later known) (fields_over later fields)) (view-members form)
        ∙ declared-parts (setting_of typer) used (known_over later known) (fields_over later fields) (out-MemberForm form).span (syntax.specifiers (out-MemberForm form).specifiers) (syntax.declarators (map syntax.declarator (out-MemberForm form).declarators)));
  }

  module _ (before : ℤ) (item : EnumItem) where
    abbrev item-whole : List Shape → Outcome ℤ
    item-whole later = enumerator_of (setting_of typer) used (known_over later known) before (syntax.enum_item item)

    pub bare-is : (out-EnumItem item).value ≡ None → (later : List Shape) → item-whole later ≡ enumerator_declared (setting_of typer) (known_over later known) (out-EnumItem item).name (before +ℤ pos 1)
    bare-is none later =
        ap (enumerator_of (setting_of typer) used (known_over later known) before) (item-bare item none)
        ∙ bare-parts (setting_of typer) used (known_over later known) before (out-EnumItem item).span (out-EnumItem item).name

    pub valued-is : (value : Expr) → (out-EnumItem item).value ≡ Some value → (later : List Shape)
        → item-whole later ≡ enumerator_with (setting_of typer) used (known_over later known) (out-EnumItem item).name (syntax.expr value)
    valued-is value some later =
        ap (enumerator_of (setting_of typer) used (known_over later known) before) (item-valued item value some)
        ∙ valued-parts (setting_of typer) used (known_over later known) before (out-EnumItem item).span (out-EnumItem item).name (syntax.expr value)

  abbrev pub enumerator-call : (name : ℕ) (value : Expr) → Awaits Tree known known (λ later. enumerator_with (setting_of typer) used (known_over later known) name (syntax.expr value))
  enumerator-call name value = record {
    one = λ later. valued (typed (setting_of typer) used (known_over later known) (syntax.expr value));
    next = λ later behind made. enumerator_valued (setting_of typer) behind name (expr_span (syntax.expr value)).first made;
    reached = begins known _ _
        (λ later. after-valued (typed (setting_of typer) used (known_over later known) (syntax.expr value)) (λ behind made. enumerator_valued (setting_of typer) behind name (expr_span (syntax.expr value)).first made));
  }

  -- ---- declarators

  abbrev pub steps-makes : (declarator : Declarator) (here : ℕ) → here ≡ direct_at declarator.span.first declarator.pointers
      → Makes (List Step) known (λ later. steps_of (setting_of typer) used (known_over later known) (syntax.declarator declarator))
  steps-makes declarator here same = record {
    one = λ later. direct_steps (setting_of typer) used (known_over later known) here (syntax.direct declarator.direct);
    made = λ later steps. pointers declarator.span.first declarator.pointers ++ steps;
    is = λ later.
        ap (steps_of (setting_of typer) used (known_over later known)) (view-declarator declarator)
        ∙ shaped-parts (setting_of typer) used (known_over later known) declarator.span declarator.pointers (syntax.direct declarator.direct)
        ∙ ap (λ here. with_it (direct_steps (setting_of typer) used (known_over later known) here (syntax.direct declarator.direct)) (λ behind steps. pointers declarator.span.first declarator.pointers ++ steps)) (sym same);
  }

  module _ (here : ℕ) (it : Direct) where
    abbrev direct-whole : Direct → List Shape → Outcome (List Step)
    direct-whole one later = direct_steps (setting_of typer) used (known_over later known) here (syntax.direct one)

    direct-as : (other : Direct) (seen : tree.Direct) (later : List Shape) → it ≡ other → syntax.direct other ≡ seen → direct-whole it later ≡ direct_steps (setting_of typer) used (known_over later known) here seen
    direct-as other seen later is e = ap (λ one. direct-whole one later) is ∙ ap (direct_steps (setting_of typer) used (known_over later known) here) e

    no-steps : (steps : List PlacedStep) → steps ≡ [] → (later : List Shape) → given (known_over later known) [] ≡ given (known_over later known) (steps_over later steps)
    no-steps steps none later = ap (λ (steps : List PlacedStep). given (known_over later known) (steps_over later steps)) (sym none)

    pub absent-reaches : (steps : List PlacedStep) → it ≡ direct.Absent → steps ≡ [] → Reaches known known (direct-whole it) (λ later. given (known_over later known) (steps_over later steps))
    absent-reaches steps is none =
        begins known _ _ (λ later. direct-as direct.Absent tree.absent later is view-absent ∙ absent-parts (setting_of typer) used (known_over later known) here ∙ no-steps steps none later)

    pub declared-reaches : (at : ℕ) (steps : List PlacedStep) → it ≡ direct.Name at → steps ≡ [] → Reaches known known (direct-whole it) (λ later. given (known_over later known) (steps_over later steps))
    declared-reaches at steps is none =
        begins known _ _ (λ later. direct-as (direct.Name at) (tree.declared at) later is (view-declared at) ∙ named-parts (setting_of typer) used (known_over later known) here at ∙ no-steps steps none later)

    pub enclosed-is : (enclosed lent : Declarator) → it ≡ direct.Paren enclosed → lent ≡ enclosed → (later : List Shape) → direct-whole it later ≡ steps_of (setting_of typer) used (known_over later known) (syntax.declarator lent)
    enclosed-is enclosed lent is same later =
        direct-as (direct.Paren enclosed) (tree.enclosed (syntax.declarator enclosed)) later is (view-enclosed enclosed)
        ∙ enclosed-parts (setting_of typer) used (known_over later known) here (syntax.declarator enclosed) ∙ ap (λ x. steps_of (setting_of typer) used (known_over later known) (syntax.declarator x)) (sym same)

    abbrev pub array-call : (length : Option Expr) → Awaits (List Step) known known (λ later. direct_steps (setting_of typer) used (known_over later known) here (syntax.array_view (syntax.direct it) (option_map syntax.expr length)))
    array-call length = record {
      one = direct-whole it;
      next = λ later behind steps. array_steps (setting_of typer) used behind here steps (option_map syntax.expr length);
      reached = begins known _ _ (λ later. array-view-parts (setting_of typer) used (known_over later known) here (syntax.direct it) (option_map syntax.expr length));
    }

    abbrev pub function-call : (parameters : List Parameter)
        → Awaits (List Step) known known (λ later. direct_steps (setting_of typer) used (known_over later known) here (tree.function (syntax.direct it) (syntax.parameters (map syntax.parameter parameters))))
    function-call parameters = record {
      one = direct-whole it;
      next = λ later behind steps. calling_steps (setting_of typer) used behind here steps (syntax.parameters (map syntax.parameter parameters));
      reached = begins known _ _ (λ later. function-parts (setting_of typer) used (known_over later known) here (syntax.direct it) (syntax.parameters (map syntax.parameter parameters)));
    }

  abbrev pub sized-call : (here : ℕ) (steps : List PlacedStep) (length : Expr) → Awaits Tree known known (λ later. sized_steps (setting_of typer) used (known_over later known) here (steps_over later steps) (syntax.expr length))
  sized-call here steps length = record {
    one = λ later. valued (typed (setting_of typer) used (known_over later known) (syntax.expr length));
    next = λ later then_known made. with_it (length_of then_known (expr_span (syntax.expr length)).first made) (λ behind n. arraying here (Some n) ∷ steps_over later steps);
    reached = begins known _ _
        (λ later. after-valued (typed (setting_of typer) used (known_over later known) (syntax.expr length)) (λ then_known made. with_it (length_of then_known (expr_span (syntax.expr length)).first made) (λ behind n. arraying here (Some n) ∷ steps_over later steps)));
  }

  abbrev pub length-makes : (here at : ℕ) (steps : List PlacedStep) (view : List Shape → Tree) → Makes ℕ known (λ later. with_it (length_of (known_over later known) at (view later)) (λ behind n. arraying here (Some n) ∷ steps_over later steps))
  length-makes here at steps view = record {
    one = λ later. length_of (known_over later known) at (view later);
    made = λ later n. arraying here (Some n) ∷ steps_over later steps;
    is = λ later. refl;
  }

  abbrev pub calling-makes : (here : ℕ) (steps : List PlacedStep) (parameters : List Parameter)
      → Makes (List TypedParameter) known (λ later. calling_steps (setting_of typer) used (known_over later known) here (steps_over later steps) (syntax.parameters (map syntax.parameter parameters)))
  calling-makes here steps parameters = record {
    one = λ later. left (known_over later known).scopes (parameters_of (setting_of typer) used (entered (known_over later known)) (syntax.parameters (map syntax.parameter parameters)));
    made = λ later ones. calling here (without_void ones) ∷ steps_over later steps;
    is = λ later. refl;
  }

  abbrev pub parameter-call : (parameter : Parameter) → Awaits CType known known (λ later. parameter_of (setting_of typer) used (known_over later known) (syntax.parameter parameter))
  parameter-call parameter = record {
    one = λ later. typed_with (setting_of typer) used (known_over later known) (syntax.specifiers parameter.specifiers) (syntax.declarator parameter.declarator);
    next = λ later behind type. typed_parameter (setting_of typer) behind (fault_at parameter.span (syntax.declarator parameter.declarator)) type (declarator_name (syntax.declarator parameter.declarator));
    reached = begins known _ _
        (λ later. ap (parameter_of (setting_of typer) used (known_over later known)) (view-parameter parameter)
        ∙ parameter-parts (setting_of typer) used (known_over later known) parameter.span (syntax.specifiers parameter.specifiers) (syntax.declarator parameter.declarator));
  }

-- ---- loops: what the items so far gave, and the rest

module _ (typer : Typer) (used : Bool) (now : Held) where
  module _ (alone : Bool) (words : List Specifier) (said : SaidHeld) (n : ℕ) where
    abbrev words-left : List Specifier → List Shape → Outcome Said
    words-left items later = words_said (setting_of typer) used alone (known_over later now) (said_over later said) (syntax.words (map syntax.specifier items))

    module _ {old : Held} {whole : List Shape → Outcome Said} (reached : Reaches old now whole (words-left (drop n words))) where
      abbrev pub word-call : (item : Specifier) → n < length words → item ≡ get_or words n item → Awaits Said old now whole
      word-call item inside is = record {
        one = λ later. word_said (setting_of typer) used alone (known_over later now) (said_over later said) (syntax.specifier item);
        next = λ later behind so_far. words_said (setting_of typer) used alone behind so_far (syntax.words (map syntax.specifier (drop (n + 1) words)));
        reached = says old now whole (words-left (drop n words)) _ reached
            (λ later on. ap (λ items. words-left items later) (cut words n item inside is)
            ∙ words-next (setting_of typer) used (known_over later now) alone (said_over later said) (syntax.specifier item) (syntax.words (map syntax.specifier (drop (n + 1) words))));
      }

      pub words-done : length words ≤ n → SaidFits now.types said → Follows SaidFits said_over (source_of typer) old now (Ok said) whole
      words-done none fits =
          done SaidFits said_over (source_of typer) old now whole said
          (says old now whole (words-left (drop n words)) _ reached
          (λ later on. ap (λ items. words-left items later) (past words n none) ∙ words-end (setting_of typer) used (known_over later now) alone (said_over later said)))
          fits

  module _ (members : List MemberForm) (fields : List Member) (n : ℕ) where
    abbrev members-left : List MemberForm → List Shape → Outcome (List TypedMember)
    members-left items later = fields_of (setting_of typer) used (known_over later now) (fields_over later fields) (syntax.members (map syntax.member_form items))

    module _ {old : Held} {whole : List Shape → Outcome (List TypedMember)} (reached : Reaches old now whole (members-left (drop n members))) where
      abbrev pub members-call : (item : MemberForm) → n < length members → item ≡ get_or members n item → Awaits (List TypedMember) old now whole
      members-call item inside is = record {
        one = λ later. fields_declared (setting_of typer) used (known_over later now) (fields_over later fields) (syntax.member_form item);
        next = λ later behind so_far. fields_of (setting_of typer) used behind so_far (syntax.members (map syntax.member_form (drop (n + 1) members)));
        reached = says old now whole (members-left (drop n members)) _ reached
            (λ later on. ap (λ items. members-left items later) (cut members n item inside is)
            ∙ fields-next (setting_of typer) used (known_over later now) (fields_over later fields) (syntax.member_form item) (syntax.members (map syntax.member_form (drop (n + 1) members))));
      }

      pub members-done : length members ≤ n → FieldsFit now.types fields → Follows FieldsFit fields_over (source_of typer) old now (Ok fields) whole
      members-done none fits =
          done FieldsFit fields_over (source_of typer) old now whole fields
          (says old now whole (members-left (drop n members)) _ reached
          (λ later on. ap (λ items. members-left items later) (past members n none) ∙ fields-end (setting_of typer) used (known_over later now) (fields_over later fields)))
          fits

  module _ (base : ℕ) (declarators : List Declarator) (fields : List Member) (n : ℕ) where
    abbrev declarators-left : List Declarator → List Shape → Outcome (List TypedMember)
    declarators-left items later = fields_with (setting_of typer) used (known_over later now) (type_over later base) (fields_over later fields) (syntax.declarators (map syntax.declarator items))

    module _ {old : Held} {whole : List Shape → Outcome (List TypedMember)} (reached : Reaches old now whole (declarators-left (drop n declarators))) where
      abbrev pub declarator-call : (item : Declarator) → n < length declarators → item ≡ get_or declarators n item → Awaits (List TypedMember) old now whole
      declarator-call item inside is = record {
        one = λ later. field_with (setting_of typer) used (known_over later now) (type_over later base) (fields_over later fields) (syntax.declarator item);
        next = λ later behind so_far. fields_with (setting_of typer) used behind (type_over later base) so_far (syntax.declarators (map syntax.declarator (drop (n + 1) declarators)));
        reached = says old now whole (declarators-left (drop n declarators)) _ reached
            (λ later on. ap (λ items. declarators-left items later) (cut declarators n item inside is)
            ∙ fields-with-next (setting_of typer) used (known_over later now) (type_over later base) (fields_over later fields) (syntax.declarator item) (syntax.declarators (map syntax.declarator (drop (n + 1) declarators))));
      }

      pub declarators-done : length declarators ≤ n → FieldsFit now.types fields → Follows FieldsFit fields_over (source_of typer) old now (Ok fields) whole
      declarators-done none fits =
          done FieldsFit fields_over (source_of typer) old now whole fields
          (says old now whole (declarators-left (drop n declarators)) _ reached
          (λ later on. ap (λ items. declarators-left items later) (past declarators n none) ∙ fields-with-end (setting_of typer) used (known_over later now) (type_over later base) (fields_over later fields)))
          fits

  module _ (enumerators : List EnumItem) (last : ℤ) (n : ℕ) where
    abbrev enumerators-left : List EnumItem → List Shape → Outcome ℤ
    enumerators-left items later = enumerators_of (setting_of typer) used (known_over later now) last (syntax.enumerators (map syntax.enum_item items))

    module _ {old : Held} {whole : List Shape → Outcome ℤ} (reached : Reaches old now whole (enumerators-left (drop n enumerators))) where
      abbrev pub item-call : (item : EnumItem) → n < length enumerators → item ≡ get_or enumerators n item → Awaits ℤ old now whole
      item-call item inside is = record {
        one = λ later. enumerator_of (setting_of typer) used (known_over later now) last (syntax.enum_item item);
        next = λ later behind so_far. enumerators_of (setting_of typer) used behind so_far (syntax.enumerators (map syntax.enum_item (drop (n + 1) enumerators)));
        reached = says old now whole (enumerators-left (drop n enumerators)) _ reached
            (λ later on. ap (λ items. enumerators-left items later) (cut enumerators n item inside is)
            ∙ enumerators-next (setting_of typer) used (known_over later now) last (syntax.enum_item item) (syntax.enumerators (map syntax.enum_item (drop (n + 1) enumerators))));
      }

      pub items-done : length enumerators ≤ n → Follows Anything number_itself (source_of typer) old now (Ok last) whole
      items-done none =
          done Anything number_itself (source_of typer) old now whole last
          (says old now whole (enumerators-left (drop n enumerators)) _ reached
          (λ later on. ap (λ items. enumerators-left items later) (past enumerators n none) ∙ enumerators-end (setting_of typer) used (known_over later now) last))
          tt

  module _ (parameters : List Parameter) (ones : List ParameterHeld) (n : ℕ) where
    abbrev parameters-left : List Parameter → List Shape → Outcome (List TypedParameter)
    parameters-left items later = onward (parameters_over later ones) (parameters_of (setting_of typer) used (known_over later now) (syntax.parameters (map syntax.parameter items)))

    module _ {old : Held} {whole : List Shape → Outcome (List TypedParameter)} (reached : Reaches old now whole (parameters-left (drop n parameters))) where
      abbrev pub one-call : (item : Parameter) → n < length parameters → item ≡ get_or parameters n item → Awaits TypedParameter old now whole
      one-call item inside is = record {
        one = λ later. parameter_of (setting_of typer) used (known_over later now) (syntax.parameter item);
        next = λ later then_known made. onward (parameters_over later ones ++ made ∷ []) (parameters_of (setting_of typer) used then_known (syntax.parameters (map syntax.parameter (drop (n + 1) parameters))));
        reached = says old now whole (parameters-left (drop n parameters)) _ reached
            (λ later on. ap (λ items. parameters-left items later) (cut parameters n item inside is)
            ∙ parameters-next (setting_of typer) used (known_over later now) (parameters_over later ones) (syntax.parameter item) (syntax.parameters (map syntax.parameter (drop (n + 1) parameters))));
      }

      pub parameters-done : length parameters ≤ n → ParametersFit now.types ones → Follows ParametersFit parameters_over (source_of typer) old now (Ok ones) whole
      parameters-done none fits =
          done ParametersFit parameters_over (source_of typer) old now whole ones
          (says old now whole (parameters-left (drop n parameters)) _ reached
          (λ later on. ap (λ items. parameters-left items later) (past parameters n none) ∙ parameters-end (setting_of typer) used (known_over later now) (parameters_over later ones)))
          fits

  pub parameters-begun : (parameters : List Parameter) (ones : List ParameterHeld) → ones ≡ []
      → Reaches now now (λ later. parameters_of (setting_of typer) used (known_over later now) (syntax.parameters (map syntax.parameter parameters))) (parameters-left parameters ones 0 parameters) × ParametersFit now.types ones
  parameters-begun parameters ones none =
      let all : List Shape → Outcome (List TypedParameter) = λ later. parameters_of (setting_of typer) used (known_over later now) (syntax.parameters (map syntax.parameter parameters)) in (
        begins now all _ (λ later. onward-none (all later) ∙ ap (λ (ones : List ParameterHeld). onward (parameters_over later ones) (all later)) (sym none)),
        subst (ParametersFit now.types) (sym none) (All-nil (ParameterFits now.types)),
      )
