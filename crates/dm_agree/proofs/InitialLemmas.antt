-- Declarators and initialisers of the code, form by form.
use Rattle.std.proofs.Common.{rules, ◌≡◌, ◌≤◌, ◌↔◌, ℕ, Bool, List, [], map, Option, Some, None, sym, ap, ◌∙◌}
use Rattle.dm_type.specs.Tables.{Table}
use Rattle.dm_tree.specs.declared.tree.Core.{Core}
use Rattle.dm_tree.specs.declared.tree.Core as q
use Rattle.dm_tree.specs.declared.tree.Form.{Form}
use Rattle.dm_tree.specs.declared.tree.Form.TheOpen as layer
use Rattle.dm_tree.specs.declared.tree.Form.TheFolds as folds
use Rattle.dm_tree.specs.declared.tree.Initial.{Initial, size-Initial}
use Rattle.dm_tree.specs.declared.tree.Initial.TheVariants as initials
use Rattle.dm_tree.specs.declared.tree.Local.{Local, out-Local, size-Local}
use Rattle.dm_tree.specs.Trees.{Declarator, Initialiser, in_braces, Tree}
use Rattle.dm_tree.specs.Views.{Opened, OpenedInitial, OpenedLocal, opened_form, view, view_of_local, items_of, form_layer, initial_layer, core_layer, local_layer}
use Rattle.dm_tree.specs.TypeNumbers.{are_known, are_known_in_form, are_known_in_local, form_known, initial_known, core_known, local_known}
use Rattle.dm_meaning.specs.Wholes.{view_of_initial}
use Rattle.dm_agree.specs.Parts.{are_known_in_initial}
use Rattle.dm_agree.specs.declared.moves.Block.{Block}
use Rattle.dm_agree.specs.Moves.{moved_past}
use Rattle.dm_agree.proofs.StepLemmas.{SameInitial, SameItems, SameDeclarator}

module _ (types : Table) where
  pub braced : (initial : Initial) (list : List Initial) → initial ≡ initials.Parts list → (view_of_initial types initial).initialiser ≡ in_braces (items_of (map (view_of_initial types) list))
  braced initial list is = ap (λ (one : Initial). (view_of_initial types one).initialiser) is ∙ opened-Parts
    where
      opened-Parts : (view_of_initial types (initials.Parts list)).initialiser ≡ in_braces (items_of (map (view_of_initial types) list))
      opened-Parts = search (rules, q.the_lemmas)

  abbrev local_seen : layer.Local-F Form Initial Core Local → OpenedLocal
  local_seen y = local_layer (folds.map-Local Form Initial Core Local Opened OpenedInitial Tree OpenedLocal (opened_form types) (view_of_initial types) (view types) (view_of_local types) y)

  local-seen : (local : Local) → view_of_local types local ≡ local_seen (out-Local local)
  local-seen local = folds.fold_out-Local Opened OpenedInitial Tree OpenedLocal (form_layer types) initial_layer (core_layer types) local_layer local

  pub declarator-with : (local : Local) (initial : Initial) → (out-Local local).initial ≡ Some initial
      → (view_of_local types local).declarator ≡ record { declared = (out-Local local).declared; defines = (out-Local local).defines; initialiser = Some (view_of_initial types initial).initialiser }
  declarator-with local initial is =
      ap (λ (one : OpenedLocal). one.declarator) (local-seen local)
      ∙ ap (λ (initial : Option Initial). (local_seen (record { declared = (out-Local local).declared; defines = (out-Local local).defines; initial = initial })).declarator) is

  pub expressions-with : (local : Local) (initial : Initial) → (out-Local local).initial ≡ Some initial → (view_of_local types local).expressions ≡ (view_of_initial types initial).expressions
  expressions-with local initial is =
      ap (λ (one : OpenedLocal). one.expressions) (local-seen local)
      ∙ ap (λ (initial : Option Initial). (local_seen (record { declared = (out-Local local).declared; defines = (out-Local local).defines; initial = initial })).expressions) is

  pub expressions-without : (local : Local) → (out-Local local).initial ≡ None → (view_of_local types local).expressions ≡ []
  expressions-without local is =
      ap (λ (one : OpenedLocal). one.expressions) (local-seen local)
      ∙ ap (λ (initial : Option Initial). (local_seen (record { declared = (out-Local local).declared; defines = (out-Local local).defines; initial = initial })).expressions) is

-- a declarator whose types are known has an initialiser whose types are, and it isn't deeper
pub local-known : (n : ℕ) (local : Local) (initial : Initial) → (out-Local local).initial ≡ Some initial → are_known_in_local n local ≡ are_known_in_initial n initial
local-known n local initial is =
    folds.fold_out-Local Bool Bool Bool Bool (form_known n) initial_known (core_known n) local_known local
    ∙ ap (λ (one : Option Initial). local_known (folds.map-Local Form Initial Core Local Bool Bool Bool Bool (are_known_in_form n) (are_known_in_initial n) (are_known n) (are_known_in_local n) (record { declared = (out-Local local).declared; defines = (out-Local local).defines; initial = one }))) is

pub local-size : (local : Local) (initial : Initial) → (out-Local local).initial ≡ Some initial → size-Initial initial ≤ size-Local local
local-size local initial is = search (rules, q.the_lemmas)

-- initialisers in braces are the same where their items are
pub braces-same : (a b : Table) (new old : Initial) (list others : List Initial) → new ≡ initials.Parts list → old ≡ initials.Parts others
    → SameItems a b list others ↔ SameInitial a b new old
braces-same a b new old list others first second = (
  λ e. braced a new list first ∙ (ap in_braces e ∙ sym (braced b old others second)),
  λ e.
      let whole : in_braces (items_of (map (view_of_initial a) list)) ≡ in_braces (items_of (map (view_of_initial b) others)) = sym (braced a new list first) ∙ (e ∙ braced b old others second) in
      cc,
)

-- declarators with initialisers are the same where these are
pub initialised-same : (a b : Table) (block : Option Block) (new old : Local) (initial other : Initial) → (out-Local new).initial ≡ Some initial → (out-Local old).initial ≡ Some other
    → (out-Local new).declared ≡ moved_past block (out-Local old).declared → (out-Local new).defines ≡ (out-Local old).defines
    → SameInitial a b initial other ↔ SameDeclarator a b block new old
initialised-same a b block new old initial other first second number defines = (
  λ e. declarator-with a new initial first ∙ (together e ∙ sym (ap (λ (one : Declarator). record one { declared = moved_past block one.declared }) (declarator-with b old other second))),
  λ e. injected
      (ap (λ (one : Declarator). one.initialiser) (sym (declarator-with a new initial first) ∙ (e ∙ ap (λ (one : Declarator). record one { declared = moved_past block one.declared }) (declarator-with b old other second)))),
)
  where
    made : ℕ → Bool → Initialiser → Declarator
    made number defines one = record { declared = number; defines = defines; initialiser = Some one }

    together : (view_of_initial a initial).initialiser ≡ (view_of_initial b other).initialiser
        → made (out-Local new).declared (out-Local new).defines (view_of_initial a initial).initialiser
        ≡ made (moved_past block (out-Local old).declared) (out-Local old).defines (view_of_initial b other).initialiser
    together e i = made (number i) (defines i) (e i)

    injected : Some (view_of_initial a initial).initialiser ≡ Some (view_of_initial b other).initialiser → (view_of_initial a initial).initialiser ≡ (view_of_initial b other).initialiser
    injected e = cc
