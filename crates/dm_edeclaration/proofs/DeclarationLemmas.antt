-- Declarators one after another, and declarations.
use Rattle.std.specs.Prelude.{◌≡◌, ℕ, suc, Bool, true, false, ◌&&◌, ◌||◌, not, ◌==◌, List, [], ◌∷◌, ◌++◌, length, map, Option, Some, None, slice_get, Ok, Err, refl}
use Rattle.std.proofs.Common.{sym, ap, ap₂, ◌∙◌, subst, arith}
use Rattle.std.proofs.lemmas.List.{length-map}
use Rattle.dm_token.specs.declared.place.Span.{Span}
use Rattle.dm_token.specs.declared.stop.Stop.{Stop}
use Rattle.dm_token.specs.declared.stop.Stop.TheVariants as stop
use Rattle.dm_type.specs.declared.shape.Shape.{Shape}
use Rattle.dm_type.specs.CTypes.{CType}
use Rattle.dm_type.specs.Tables.{Table, IsId}
use Rattle.dm_syn.specs.Sources.{Source}
use Rattle.dm_syn.specs.Trees.{Declarator, Specifiers, Item}
use Rattle.dm_syn.specs.Trees as tree
use Rattle.dm_syn.specs.Views as syntax
use Rattle.dm_syn.specs.declared.declaration.Declaration.{Declaration as DeclarationHeld}
use Rattle.dm_syn.specs.declared.declaration.InitDeclarator.{InitDeclarator}
use Rattle.dm_syn.specs.declared.declaration.Initialiser.{Initialiser as InitialiserHeld}
use Rattle.dm_syn.specs.declared.declaration.Specifiers.{Specifiers as SpecifiersHeld}
use Rattle.dm_tree.specs.declared.tree.Core.{Core}
use Rattle.dm_tree.specs.declared.tree.Local.{Local as LocalHeld}
use Rattle.dm_tree.specs.Trees.{Tree}
use Rattle.dm_tree.specs.Trees as label
use Rattle.dm_tree.specs.Views.{declarators_of as declarators_opened}
use Rattle.dm_typing.specs.declared.known.Known.{Known as Known-held}
use Rattle.dm_typing.specs.Fitting.{AreNumbered}
use Rattle.dm_typing.specs.Known.{Known, Setting, Outcome, given, broken}
use Rattle.dm_typing.specs.Specifiers.{of_declaration}
use Rattle.dm_typing.specs.Views.{type_over, view_over, known_over, refusal_at}
use Rattle.dm_typing.proofs.KindLemmas.{same-numbers}
use Rattle.dm_typing.proofs.LaterLemmas.{trees-later}
use Rattle.dm_edeclarator.specs.Steps.{SameBesideConstants, Follows}
use Rattle.dm_eexpr.proofs.SyntaxViewLemmas.{view-specifiers}
use Rattle.dm_edecl.specs.Standing.{Standing, Progress, goes_on, stops, further, knowing, collecting, keeps}
use Rattle.dm_edecl.specs.Declaring.{Specified, specified, is_alone, typed_declarator, Local, with_lengths, typed_item, typed_items, declarators_of, constants_of, expressions_of, is_function_entry, are_functions, is_there, may_be_inline, declared_by, typed_declaration}
use Rattle.dm_estanding.specs.declared.standing.Standing.{Standing as Held}
use Rattle.dm_estanding.specs.Proceeding.{Proceeds}
use Rattle.dm_estanding.specs.Summaries.{StandsFor}
use Rattle.dm_estanding.proofs.ProceedingLemmas.{Arrives, starts, restated, holds, passes, fails, done, breaks, collects}
use Rattle.dm_edeclaration.specs.declared.items.TypedLocal.{TypedLocal}
use Rattle.dm_edeclaration.specs.declared.items.TypedLocals.{TypedLocals}
use Rattle.dm_edeclaration.specs.declared.specified.Specification.{Specification}
use Rattle.dm_edeclaration.specs.Steps.{specified_over, SpecifiedFits, opened_over, bare_over, LocalFits, typed_over, TypedFits, item_of, Together, together_of, together, joined, items_over, ItemsFit, summed, are_functions_in, may_be_inline_in}
use Rattle.dm_edeclaration.proofs.StepLemmas.{specified-keeps, declarator-keeps, opened-number, together_behind, behind-next, behind-none}

-- ---- a declarator with its initialiser

abbrev declarator_in : Item → Declarator
declarator_in (tree.plain span declarator) = declarator
declarator_in (tree.initialised span declarator initialiser) = declarator

declarator-seen : (node : InitDeclarator) → declarator_in (syntax.item node) ≡ syntax.declarator node.declarator
declarator-seen node = go node.initialiser
  where
    go : (found : Option InitialiserHeld) → declarator_in (syntax.item_view node.span (syntax.declarator node.declarator) found) ≡ syntax.declarator node.declarator
    go None = refl
    go (Some one) = refl

abbrev pub with-item : Setting → Specified → Item → Standing → List Tree → CType → Progress Local
with-item setting said item standing constants kind = further (item_of setting said standing kind item) (λ behind local. goes_on behind (with_lengths constants local))

item-split : (setting : Setting) (said : Specified) (s : Standing) (item : Item) → typed_item setting said s item
    ≡ collecting s (typed_declarator setting s.known said.kind (declarator_in item)) (with-item setting said item)
item-split setting said s (tree.plain span declarator) = refl
item-split setting said s (tree.initialised span declarator initialiser) = refl

module _ (setting : Setting) (source : Source) (said : Specification) (node : InitDeclarator) (now : Held) where
  abbrev pub item-whole : List Shape → Standing → Progress Local
  item-whole later before = typed_item setting (specified_over later said) before (syntax.item node)

  abbrev pub item-type : List Shape → Known → Outcome CType
  item-type later known = typed_declarator setting known (type_over later said.kind) (syntax.declarator node.declarator)

  abbrev pub item-next : List Shape → Standing → List Tree → CType → Progress Local
  item-next later = with-item setting (specified_over later said) (syntax.item node)

  pub item-starts : Arrives now now item-whole (λ later behind. collecting behind (item-type later behind.known) (item-next later))
  item-starts =
      starts now item-whole (λ later behind. collecting behind (item-type later behind.known) (item-next later))
      (λ later before stands lawful.
      item-split setting (specified_over later said) before (syntax.item node)
      ∙ ap (λ declarator. collecting before (typed_declarator setting before.known (type_over later said.kind) declarator) (item-next later)) (declarator-seen node))

  module _ (typed : Known-held) (mid : Held) (kind : ℕ) (constants : List Core) (f : Follows IsId type_over source now.known typed (Ok kind) (λ later. item-type later (known_over later now.known)))
      (same : SameBesideConstants typed mid.known) (none : mid.known.constants ≡ []) (taken : constants ≡ typed.constants) (links : mid.links ≡ now.links)
      (retyped : mid.retyped.items ≡ now.retyped.items) where
    abbrev pub item-rest : List Shape → Standing → Progress Local
    item-rest later behind = item_of setting (specified_over later said) behind (type_over later kind) (syntax.item node)

    abbrev pub item-ends : List Shape → Standing → Local → Progress Local
    item-ends later behind local = goes_on behind (with_lengths (map (view_over later) constants) local)

    pub item-collected : Arrives now mid item-whole (λ later behind. further (item-rest later behind) (item-ends later))
    item-collected =
        collects IsId type_over source now now mid item-whole item-type item-next item-starts kind typed constants f same none taken links retyped
        (λ later known. declarator-keeps setting known (type_over later said.kind) (syntax.declarator node.declarator))

    pub item-stops : (new : Held) (fault : Stop) → Proceeds LocalFits bare_over source mid new (Err fault) item-rest → Proceeds TypedFits typed_over source now new (Err fault) item-whole
    item-stops new fault p = fails LocalFits bare_over source now mid new item-whole TypedFits typed_over item-rest item-ends fault item-collected p

    pub item-made : (new : Held) (local : LocalHeld) → Proceeds LocalFits bare_over source mid new (Ok local) item-rest
        → Proceeds TypedFits typed_over source now new (Ok (record { constants = constants; local = local })) item-whole
    item-made new local p =
        done TypedFits typed_over source now new item-whole (record { constants = constants; local = local })
        (passes LocalFits bare_over source now mid new item-whole item-rest item-ends local item-collected p) (
          trees-later mid.known.types new.known.types constants p.shapes
              (subst (λ (types : Table). AreNumbered types constants) (sym same.types) (subst (AreNumbered typed.types) (sym taken) typed.trees)),
          p.numbered,
        )

-- ---- declarators one after another

-- the rest of them, behind some
abbrev pub rest_items : Setting → Specified → Together → List Item → Standing → Progress Together
rest_items setting said all items standing = further (typed_items setting said standing items) (λ behind more. goes_on behind (together_behind all more))

items-more : (all : Together) (one : Progress Local) (rest : Standing → Progress (List Local))
    → further (further one (λ then_standing made. further (rest then_standing) (λ behind more. goes_on behind (made ∷ more)))) (λ behind more. goes_on behind (together_behind all more))
    ≡ further one (λ then_standing made. further (rest then_standing) (λ behind more. goes_on behind (together_behind (joined all made) more)))
items-more all (stops rule at) rest = refl
items-more all (goes_on then_standing made) rest = go (rest then_standing)
  where
    go : (progress : Progress (List Local)) → further (further progress (λ behind more. goes_on behind (made ∷ more))) (λ behind more. goes_on behind (together_behind all more))
        ≡ further progress (λ behind more. goes_on behind (together_behind (joined all made) more))
    go (goes_on behind more) = ap (goes_on behind) (sym (behind-next all made more))
    go (stops rule at) = refl

pub items-next : (setting : Setting) (said : Specified) (all : Together) (first : Item) (others : List Item) (s : Standing)
    → rest_items setting said all (first ∷ others) s ≡ further (typed_item setting said s first) (λ behind made. rest_items setting said (joined all made) others behind)
items-next setting said all first others s = items-more all (typed_item setting said s first) (λ then_standing. typed_items setting said then_standing others)

pub items-end : (setting : Setting) (said : Specified) (all : Together) (s : Standing) → rest_items setting said all [] s ≡ goes_on s all
items-end setting said all s = ap (goes_on s) (behind-none all)

module _ (setting : Setting) (source : Source) (said : Specification) (nodes : List InitDeclarator) (start : Held) where
  abbrev pub items-whole : List Shape → Standing → Progress Together
  items-whole later before = together (typed_items setting (specified_over later said) before (map syntax.item nodes))

  abbrev pub items-left : TypedLocals → List InitDeclarator → List Shape → Standing → Progress Together
  items-left all rest later = rest_items setting (specified_over later said) (items_over later all) (map syntax.item rest)

  module _ (now : Held) (all : TypedLocals) (node : InitDeclarator) (rest others : List InitDeclarator) (cut-is : rest ≡ node ∷ others) (a : Arrives start now items-whole (items-left all rest)) where
    abbrev after-item : List Shape → Standing → Local → Progress Together
    after-item later behind made = rest_items setting (specified_over later said) (joined (items_over later all) made) (map syntax.item others) behind

    items-cut : Arrives start now items-whole (λ later behind. further (item-whole setting source said node now later behind) (after-item later))
    items-cut =
        restated start now items-whole (items-left all rest) (λ later behind. further (item-whole setting source said node now later behind) (after-item later)) a
        (λ later on behind stands lawful.
        ap (λ list. rest_items setting (specified_over later said) (items_over later all) (map syntax.item list) behind) cut-is
        ∙ items-next setting (specified_over later said) (items_over later all) (syntax.item node) (map syntax.item others) behind)

    pub items-fail : (new : Held) (fault : Stop) → Proceeds TypedFits typed_over source now new (Err fault) (item-whole setting source said node now)
        → Proceeds ItemsFit items_over source start new (Err fault) items-whole
    items-fail new fault p = fails TypedFits typed_over source start now new items-whole ItemsFit items_over (item-whole setting source said node now) after-item fault items-cut p

    pub items-on : (new : Held) (typed : TypedLocal) (more : TypedLocals) → Proceeds TypedFits typed_over source now new (Ok typed) (item-whole setting source said node now)
        → ((later : List Shape) → items_over later more ≡ joined (items_over later all) (typed_over later typed)) → Arrives start new items-whole (items-left more others)
    items-on new typed more p is =
        restated start new items-whole (λ later behind. after-item later behind (typed_over later typed)) (items-left more others)
        (passes TypedFits typed_over source start now new items-whole (item-whole setting source said node now) after-item typed items-cut p)
        (λ later on behind stands lawful. ap (λ sum. rest_items setting (specified_over later said) sum (map syntax.item others) behind) (sym (is later)))

  pub items-done : (now : Held) (all : TypedLocals) (rest : List InitDeclarator) → rest ≡ [] → Arrives start now items-whole (items-left all rest) → ItemsFit now.known.types all
      → Proceeds ItemsFit items_over source start now (Ok all) items-whole
  items-done now all rest none a fits =
      done ItemsFit items_over source start now items-whole all
      (restated start now items-whole (items-left all rest) (λ later behind. goes_on behind (items_over later all)) a
      (λ later on behind stands lawful.
      ap (λ list. rest_items setting (specified_over later said) (items_over later all) (map syntax.item list) behind) none
      ∙ items-end setting (specified_over later said) (items_over later all) behind))
      fits

-- ---- declarations

more-than-one : (n : ℕ) → (suc (suc n) == 1) ≡ false
more-than-one n = go (suc (suc n) == 1) refl
  where
    go : (test : Bool) → (suc (suc n) == 1) ≡ test → test ≡ false
    go true e = let same = same-numbers (suc (suc n)) 1 e in absurd (omega (arith, same))
    go false e = refl

-- specifiers alone
pub alone-none : (all : SpecifiersHeld) → is_alone (syntax.specifiers all) [] ≡ (length all.words == 1)
alone-none all =
    ap (λ it. is_alone it []) (view-specifiers all) ∙ go (map syntax.specifier all.words) ∙ ap (λ n. n == 1) (length-map all.words syntax.specifier)
  where
    go : (words : List tree.Specifier) → is_alone (tree.listed all.span (syntax.words words)) [] ≡ (length words == 1)
    go [] = refl
    go (first ∷ []) = refl
    go (first ∷ second ∷ others) = sym (more-than-one (length others))

pub alone-some : (specifiers : Specifiers) (nodes : List InitDeclarator) → (nodes ≡ [] → ⊥) → is_alone specifiers (syntax.items nodes) ≡ false
alone-some specifiers [] some = absurd (some refl)
alone-some (tree.listed span words) (first ∷ others) some = refl

-- whether all declarators declare functions
abbrev pub are_functions_among : Known → List label.Declarator → Bool
are_functions_among known [] = true
are_functions_among known (first ∷ others) = is_function_entry (slice_get known.declared first.declared) && are_functions_among known others

abbrev pub may_be_inline_among : Known → List label.Declarator → Bool
may_be_inline_among known declarators = is_there declarators && are_functions_among known declarators

functions-of : (known : Known) (locals : List Local) → are_functions known locals ≡ are_functions_among known (declarators_of locals)
functions-of known [] = refl
functions-of known (first ∷ others) = ap (λ rest. is_function_entry (slice_get known.declared first.declarator.declared) && rest) (functions-of known others)

inline-of : (known : Known) (locals : List Local) → may_be_inline known locals ≡ may_be_inline_among known (declarators_of locals)
inline-of known [] = refl
inline-of known (first ∷ others) = functions-of known (first ∷ others)

functions-in : (later : List Shape) (known : Known) (locals : List LocalHeld) → are_functions_in known locals ≡ are_functions_among known (declarators_opened (map (opened_over later) locals))
functions-in later known [] = refl
functions-in later known (first ∷ others) =
    ap₂ (λ n rest. is_function_entry (slice_get known.declared n) && rest) (sym (opened-number later first)) (functions-in later known others)

pub inline-in : (later : List Shape) (known : Known) (locals : List LocalHeld) → may_be_inline_in known locals ≡ may_be_inline_among known (declarators_opened (map (opened_over later) locals))
inline-in later known [] = refl
inline-in later known (first ∷ others) = functions-in later known (first ∷ others)

-- what a declaration declares, by its declarators together
abbrev pub declared_all : List Tree → Specified → Standing → Together → Progress Together
declared_all constants said standing all =
    keeps (not said.inline || may_be_inline_among standing.known all.declarators) 3 said.first
    (goes_on standing (record { constants = constants ++ all.constants; declarators = all.declarators; expressions = all.expressions }))

declared-sum : (constants : List Tree) (said : Specified) (s : Standing) (locals : List Local) → summed (declared_by constants said s locals) ≡ declared_all constants said s (together_of locals)
declared-sum constants said s locals =
    go (not said.inline || may_be_inline s.known locals)
    ∙ ap (λ test. keeps (not said.inline || test) 3 said.first (goes_on s (record { constants = constants ++ constants_of locals; declarators = declarators_of locals; expressions = expressions_of locals })))
    (inline-of s.known locals)
  where
    go : (test : Bool) → summed (keeps test 3 said.first (goes_on s (record { constants = constants ++ constants_of locals; locals = locals })))
        ≡ keeps test 3 said.first (goes_on s (record { constants = constants ++ constants_of locals; declarators = declarators_of locals; expressions = expressions_of locals }))
    go true = refl
    go false = refl

abbrev pub declaration-next : Setting → List Item → Standing → List Tree → Specified → Progress Together
declaration-next setting items standing constants said = further (together (typed_items setting said standing items)) (declared_all constants said)

sum-items : (constants : List Tree) (said : Specified) (progress : Progress (List Local))
    → summed (further progress (λ behind locals. declared_by constants said behind locals)) ≡ further (together progress) (declared_all constants said)
sum-items constants said (goes_on behind locals) = declared-sum constants said behind locals
sum-items constants said (stops rule at) = refl

sum-collected : (setting : Setting) (items : List Item) (s : Standing) (outcome : Outcome Specified)
    → summed (collecting s outcome (λ behind constants said. further (typed_items setting said behind items) (λ last locals. declared_by constants said last locals)))
    ≡ collecting s outcome (declaration-next setting items)
sum-collected setting items s outcome = go outcome
  where
    go : (outcome : Outcome Specified)
        → summed (collecting s outcome (λ behind constants said. further (typed_items setting said behind items) (λ last locals. declared_by constants said last locals)))
        ≡ collecting s outcome (declaration-next setting items)
    go (given known said) = sum-items known.constants said (typed_items setting said (knowing s known) items)
    go (broken rule at) = refl

pub declaration-split : (setting : Setting) (s : Standing) (span : Span) (specifiers : Specifiers) (items : List Item)
    → summed (typed_declaration setting s (tree.declaring span specifiers items))
    ≡ collecting s (specified setting of_declaration (is_alone specifiers items) s.known specifiers) (declaration-next setting items)
declaration-split setting s span specifiers items = sum-collected setting items s (specified setting of_declaration (is_alone specifiers items) s.known specifiers)

module _ (setting : Setting) (source : Source) (node : DeclarationHeld) (now : Held) (alone : Bool) (alone-is : alone ≡ is_alone (syntax.specifiers node.specifiers) (syntax.items node.items))
    (nodes : List InitDeclarator) (nodes-are : nodes ≡ node.items) where
  abbrev pub declaration-whole : List Shape → Standing → Progress Together
  declaration-whole later before = summed (typed_declaration setting before (syntax.declaration node))

  abbrev declaration-run : List Shape → Known → Outcome Specified
  declaration-run later known = specified setting of_declaration alone known (syntax.specifiers node.specifiers)

  abbrev declaration-rest : List Shape → Standing → List Tree → Specified → Progress Together
  declaration-rest later = declaration-next setting (syntax.items nodes)

  declaration-starts : Arrives now now declaration-whole (λ later behind. collecting behind (declaration-run later behind.known) (declaration-rest later))
  declaration-starts =
      starts now declaration-whole (λ later behind. collecting behind (declaration-run later behind.known) (declaration-rest later))
      (λ later before stands lawful.
      declaration-split setting before node.span (syntax.specifiers node.specifiers) (syntax.items node.items)
      ∙ ap (λ test. collecting before (specified setting of_declaration test before.known (syntax.specifiers node.specifiers)) (declaration-next setting (syntax.items node.items))) (sym alone-is)
      ∙ ap (λ list. collecting before (specified setting of_declaration alone before.known (syntax.specifiers node.specifiers)) (declaration-next setting (syntax.items list))) (sym nodes-are))

  module _ (typed : Known-held) (mid : Held) (said : Specification) (constants : List Core)
      (f : Follows SpecifiedFits specified_over source now.known typed (Ok said) (λ later. declaration-run later (known_over later now.known))) (same : SameBesideConstants typed mid.known)
      (none : mid.known.constants ≡ []) (taken : constants ≡ typed.constants) (links : mid.links ≡ now.links) (retyped : mid.retyped.items ≡ now.retyped.items) where
    abbrev items-of : List Shape → Standing → Progress Together
    items-of = items-whole setting source said nodes mid

    abbrev all-of : List Shape → Standing → Together → Progress Together
    all-of later = declared_all (map (view_over later) constants) (specified_over later said)

    declaration-collected : Arrives now mid declaration-whole (λ later behind. further (items-of later behind) (all-of later))
    declaration-collected =
        collects SpecifiedFits specified_over source now now mid declaration-whole declaration-run declaration-rest declaration-starts said typed constants f same none taken links retyped
        (λ later known. specified-keeps setting of_declaration alone known (syntax.specifiers node.specifiers))

    pub declaration-fails : (new : Held) (fault : Stop) → Proceeds ItemsFit items_over source mid new (Err fault) items-of → Proceeds ItemsFit items_over source now new (Err fault) declaration-whole
    declaration-fails new fault p = fails ItemsFit items_over source now mid new declaration-whole ItemsFit items_over items-of all-of fault declaration-collected p

    module _ (new : Held) (all : TypedLocals) (p : Proceeds ItemsFit items_over source mid new (Ok all) items-of) where
      declaration-typed : Arrives now new declaration-whole (λ later behind. all-of later behind (items_over later all))
      declaration-typed = passes ItemsFit items_over source now mid new declaration-whole items-of all-of all declaration-collected p

      abbrev inline-test : List Shape → Standing → Bool
      inline-test later behind = not said.is_inline || may_be_inline_among behind.known (items_over later all).declarators

      abbrev all-there : List Shape → Standing → Progress Together
      all-there later behind =
          goes_on behind (record { constants = map (view_over later) constants ++ (items_over later all).constants; declarators = (items_over later all).declarators; expressions = (items_over later all).expressions })

      module _ (test : Bool) (obeys : (later : List Shape) → test ≡ (not said.is_inline || may_be_inline_in (known_over later new.known) all.locals)) where
        test-is : (later : List Shape) (behind : Standing) → StandsFor later new.known new.links behind → inline-test later behind ≡ test
        test-is later behind stands =
            ap (λ known. not said.is_inline || may_be_inline_among known (items_over later all).declarators) stands.known
            ∙ ap (λ it. not said.is_inline || it) (sym (inline-in later (known_over later new.known) all.locals)) ∙ sym (obeys later)

        pub declaration-breaks : (fault : Stop) → test ≡ false → fault ≡ stop.Refused (refusal_at source 3 said.first) → Proceeds ItemsFit items_over source now new (Err fault) declaration-whole
        declaration-breaks fault broken-rule same-fault =
            breaks ItemsFit items_over source now new declaration-whole all-there inline-test 3 said.first fault declaration-typed
            (λ later on behind stands lawful. test-is later behind stands ∙ broken-rule) same-fault

        pub declaration-made : test ≡ true → (made : TypedLocals)
            → ((later : List Shape) → items_over later made ≡ record {
              constants = map (view_over later) constants ++ map (view_over later) all.constants;
              declarators = (items_over later all).declarators;
              expressions = (items_over later all).expressions;
            })
            → ItemsFit new.known.types made → Proceeds ItemsFit items_over source now new (Ok made) declaration-whole
        declaration-made obeyed made is fits =
            done ItemsFit items_over source now new declaration-whole made
            (restated now new declaration-whole all-there (λ later behind. goes_on behind (items_over later made))
            (holds now new declaration-whole all-there inline-test 3 said.first declaration-typed (λ later on behind stands lawful. test-is later behind stands ∙ obeyed))
            (λ later on behind stands lawful. ap (goes_on behind) (sym (is later)))) fits

      -- the trees that were taken out stay numbered
      pub declaration-numbered : AreNumbered new.known.types constants
      declaration-numbered =
          trees-later mid.known.types new.known.types constants p.shapes
          (subst (λ (types : Table). AreNumbered types constants) (sym same.types) (subst (AreNumbered typed.types) (sym taken) typed.trees))
