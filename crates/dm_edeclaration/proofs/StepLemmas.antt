-- What the code has on the way through declarations.
use Rattle.std.specs.Prelude.{◌≡◌, ℕ, Bool, true, List, [], ◌∷◌, ◌++◌, length, Option, Some, None}
use Rattle.std.proofs.Common.{rules, sym, ap, ◌∙◌, append-nil, append_assoc}
use Rattle.dm_type.specs.declared.shape.Shape.{Shape}
use Rattle.dm_type.specs.Tables.{Table}
use Rattle.dm_tree.specs.declared.tree.Core as q
use Rattle.dm_tree.specs.declared.tree.Initial.{Initial as InitialHeld}
use Rattle.dm_tree.specs.declared.tree.Local.{Local as LocalHeld}
use Rattle.dm_tree.specs.TypeNumbers.{are_known_in_local}
use Rattle.dm_tree.specs.Views.{OpenedLocal, declarators_of}
use Rattle.dm_typing.specs.Known.{Known, Setting}
use Rattle.dm_typing.specs.Specifiers.{nothing_said, Where}
use Rattle.dm_typing.specs.Typing.{words_said, typed_said, steps_of}
use Rattle.dm_typing.specs.Views.{Begins}
use Rattle.dm_syn.specs.Trees.{Specifiers}
use Rattle.dm_syn.specs.Trees as tree
use Rattle.dm_typing.proofs.LaterLemmas.{trees-later}
use Rattle.dm_eexpr.proofs.KeepLemmas.{KeepsIn, after-keeps, with-keeps, words-keep, said-keeps, steps-keep, derived-keeps}
use Rattle.dm_edecl.specs.Declaring.{specified_by, specified, typed_declarator, Local, local_plain, local_initialised, constants_of, expressions_of}
use Rattle.dm_edecl.specs.Declaring as declaring
use Rattle.dm_einitial.specs.Steps.{initial_over, InitialFits, are_known_in_initial}
use Rattle.dm_einitial.proofs.InitialLemmas.{initial-later}
use Rattle.dm_edeclaration.specs.declared.items.TypedLocals.{TypedLocals}
use Rattle.dm_edeclaration.specs.Steps.{local_seen, opened_over, bare_over, LocalFits, Together, joined, ItemsFit}

-- ---- specifiers and declarators

module _ (setting : Setting) where
  pub specified-keeps : (stands : Where) (alone : Bool) (known : Known) (specifiers : Specifiers) → KeepsIn known (specified setting stands alone known specifiers)
  specified-keeps stands alone known (tree.listed span words) =
      after-keeps known (words_said setting true alone known nothing_said words) _ (words-keep setting true alone known nothing_said words)
      (λ behind said. with-keeps behind (typed_said behind stands span.first said) (λ last kind. specified_by said span.first kind) (said-keeps behind stands span.first said))

  pub declarator-keeps : (known : Known) (base : _) (declarator : tree.Declarator) → KeepsIn known (typed_declarator setting known base declarator)
  declarator-keeps known base declarator =
      after-keeps known (steps_of setting true known declarator) _ (steps-keep setting true known declarator) (λ behind steps. derived-keeps behind base steps)

-- ---- declarators with their initialisers

pub opened-plain : (later : List Shape) (number : ℕ) (defines : Bool)
    → opened_over later (record { declared = number; defines = defines; initial = None })
    ≡ record { declarator = record { declared = number; defines = defines; initialiser = None }; expressions = [] }
opened-plain later number defines = search (rules, q.the_lemmas)

pub opened-initialised : (later : List Shape) (number : ℕ) (defines : Bool) (initial : InitialHeld)
    → opened_over later (record { declared = number; defines = defines; initial = Some initial })
    ≡ record { declarator = record { declared = number; defines = defines; initialiser = Some (initial_over later initial).form }; expressions = (initial_over later initial).expressions }
opened-initialised later number defines initial = search (rules, q.the_lemmas)

pub plain-over : (later : List Shape) (number : ℕ) (defines : Bool) → bare_over later (record { declared = number; defines = defines; initial = None }) ≡ local_plain number defines
plain-over later number defines = ap (local_seen []) (opened-plain later number defines)

pub initialised-over : (later : List Shape) (number : ℕ) (initial : InitialHeld)
    → bare_over later (record { declared = number; defines = true; initial = Some initial }) ≡ local_initialised number (initial_over later initial)
initialised-over later number initial = ap (local_seen []) (opened-initialised later number true initial)

known-plain : (types number : ℕ) (defines : Bool) → are_known_in_local types (record { declared = number; defines = defines; initial = None }) ≡ true
known-plain types number defines = search (rules, q.the_lemmas)

known-initialised : (types number : ℕ) (defines : Bool) (initial : InitialHeld)
    → are_known_in_local types (record { declared = number; defines = defines; initial = Some initial }) ≡ are_known_in_initial types initial
known-initialised types number defines initial = search (rules, q.the_lemmas)

pub plain-fits : (types : Table) (number : ℕ) (defines : Bool) → LocalFits types (record { declared = number; defines = defines; initial = None })
plain-fits types number defines = known-plain (length types.shapes) number defines

pub initialised-fits : (types : Table) (number : ℕ) (defines : Bool) (initial : InitialHeld) → InitialFits types initial
    → LocalFits types (record { declared = number; defines = defines; initial = Some initial })
initialised-fits types number defines initial fits = known-initialised (length types.shapes) number defines initial ∙ fits

-- the numbers of types stay numbered
pub local-later : (old new : Table) (local : LocalHeld) → Begins old.shapes new.shapes → LocalFits old local → LocalFits new local
local-later old new local more fits = go local.declared local.defines local.initial fits
  where
    go : (number : ℕ) (defines : Bool) (initial : Option InitialHeld) → LocalFits old (record { declared = number; defines = defines; initial = initial })
        → LocalFits new (record { declared = number; defines = defines; initial = initial })
    go number defines None h = plain-fits new number defines
    go number defines (Some initial) h =
        initialised-fits new number defines initial (initial-later old new initial more (sym (known-initialised (length old.shapes) number defines initial) ∙ h))

-- the number that a declarator declares
pub opened-number : (later : List Shape) (local : LocalHeld) → (opened_over later local).declarator.declared ≡ local.declared
opened-number later local = go local.declared local.defines local.initial
  where
    go : (number : ℕ) (defines : Bool) (initial : Option InitialHeld) → (opened_over later (record { declared = number; defines = defines; initial = initial })).declarator.declared ≡ number
    go number defines None = ap (λ (it : OpenedLocal). it.declarator.declared) (opened-plain later number defines)
    go number defines (Some initial) = ap (λ (it : OpenedLocal). it.declarator.declared) (opened-initialised later number defines initial)

-- ---- the declarators of a declaration

-- a list behind some
abbrev pub together_behind : Together → List Local → Together
together_behind all locals = record {
  constants = all.constants ++ constants_of locals;
  declarators = all.declarators ++ declaring.declarators_of locals;
  expressions = all.expressions ++ expressions_of locals;
}

pub behind-next : (all : Together) (first : Local) (others : List Local) → together_behind (joined all first) others ≡ together_behind all (first ∷ others)
behind-next all first others =
    ap (λ list. record { constants = list; declarators = (all.declarators ++ first.declarator ∷ []) ++ declaring.declarators_of others; expressions = (all.expressions ++ first.expressions) ++ expressions_of others })
    (append_assoc all.constants first.constants (constants_of others))
    ∙ ap (λ list. record { constants = all.constants ++ (first.constants ++ constants_of others); declarators = list; expressions = (all.expressions ++ first.expressions) ++ expressions_of others })
    (append_assoc all.declarators (first.declarator ∷ []) (declaring.declarators_of others))
    ∙ ap (λ list. record { constants = all.constants ++ (first.constants ++ constants_of others); declarators = all.declarators ++ first.declarator ∷ declaring.declarators_of others; expressions = list })
    (append_assoc all.expressions first.expressions (expressions_of others))

pub behind-none : (all : Together) → together_behind all [] ≡ all
behind-none all =
    ap (λ list. record { constants = list; declarators = all.declarators ++ []; expressions = all.expressions ++ [] }) (append-nil all.constants)
    ∙ ap (λ list. record { constants = all.constants; declarators = list; expressions = all.expressions ++ [] }) (append-nil all.declarators)
    ∙ ap (λ list. record { constants = all.constants; declarators = all.declarators; expressions = list }) (append-nil all.expressions)

pub items-later : (old new : Table) (typed : TypedLocals) → Begins old.shapes new.shapes → ItemsFit old typed → ItemsFit new typed
items-later old new typed more fit = (trees-later old new typed.constants more fit.0, λ k d inside. local-later old new _ more (fit.1 k d inside))
