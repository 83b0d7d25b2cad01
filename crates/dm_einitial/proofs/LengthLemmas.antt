-- Strings and lists, and how long an array becomes by them.
use Rattle.std.specs.Prelude.{◌≡◌, ℕ, ◌<◌, ◌+◌, List, [], ◌∷◌, length, map, Some, None, Result, Ok, Err, IfOk, refl}
use Rattle.std.proofs.Common.{sym, ap, ◌∙◌, add-one, arith}
use Rattle.dm_type.specs.CTypes.{CType, array as array_type}
use Rattle.dm_syn.specs.declared.declaration.Initialiser.{Initialiser as OneInitialiser}
use Rattle.dm_syn.specs.Sources.{spelling_at}
use Rattle.dm_syn.specs.Trees.{Initialiser}
use Rattle.dm_syn.specs.Trees as tree
use Rattle.dm_syn.specs.Views as syntax
use Rattle.dm_typing.specs.Known.{Setting}
use Rattle.dm_edecl.specs.Initialising.{count_items, completed}
use Rattle.dm_einitial.specs.Steps.{count_if_any, unsized_elements, said_length, sized}

-- ---- lists

pub count-length : (items : List OneInitialiser) → length items ≡ count_items (syntax.initialisers (map syntax.initialiser items))
count-length [] = refl
count-length (first ∷ others) = sym (add-one (length others)) ∙ ap (λ n. n + 1) (count-length others)

pub count-some : (items : List OneInitialiser) (n : ℕ) → 0 < length items → n ≡ count_items (syntax.initialisers (map syntax.initialiser items))
    → (Some n ≡ count_if_any (syntax.initialisers (map syntax.initialiser items))) × (0 < n)
count-some [] n some h = absurd (omega (arith, some))
count-some (first ∷ others) n some h = (ap Some h, omega (arith, h))

-- ---- answers

pub if-ok : {A E : Type 0} (P Q : A → Type 0) (answer : Result A E) → ((it : A) → P it → Q it) → IfOk answer P → IfOk answer Q
if-ok P Q (Ok it) step h = step it h
if-ok P Q (Err fault) step h = tt

-- ---- arrays of unknown length

pub completed-sized : (setting : Setting) (type inner : CType) (one : Initialiser) → Some inner ≡ unsized_elements type → completed setting type one ≡ sized type inner (said_length setting one)
completed-sized setting (array_type type None) inner (tree.value span (tree.literal at)) h =
    let e : type ≡ inner = cc in ap (λ t. array_type t (Some (length (spelling_at setting.source at.first) + 1))) e
completed-sized setting (array_type type None) inner (tree.value span expr) h = refl
completed-sized setting (array_type type None) inner (tree.braces span tree.no_initialisers trailing) h = refl
completed-sized setting (array_type type None) inner (tree.braces span (tree.more_initialisers first others) trailing) h =
    let e : type ≡ inner = cc in ap (λ t. array_type t (Some (count_items others + 1))) e
completed-sized setting type inner one h = absurd (cc)

pub completed-same : (setting : Setting) (type : CType) (one : Initialiser) → None ≡ unsized_elements type → completed setting type one ≡ type
completed-same setting (array_type type None) one h = absurd (cc)
completed-same setting type one h = refl
