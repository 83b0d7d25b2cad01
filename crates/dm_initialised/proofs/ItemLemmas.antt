-- Declarations and items of blocks: what is left to do when they begin stands where its objects are set.
use Rattle.std.specs.Prelude.{◌≡◌, refl, ◌⊎◌, ℕ, zero, suc, Bool, true, false, IsTrue, IfSome, IsSome, List, [], ◌∷◌, ◌++◌, map, replicate, take, drop, Option, Some, None, if◌then◌else◌}
use Rattle.std.proofs.Common.{ap, sym, subst, inl, inr}
use Rattle.std.proofs.lemmas.Bool.{false≢true, and_from}
use Rattle.dm_int.specs.declared.Kind.{Kind}
use Rattle.dm_type.specs.CTypes.{CType}
use Rattle.dm_tree.specs.Initialisers.{InitialiserFits, FitsEntry, DeclaratorFits, DeclaratorsFit}
use Rattle.dm_tree.specs.Scenes.{Scene}
use Rattle.dm_tree.specs.Trees.{declare, Declarator, Initialiser, one_expression, in_braces, Tree, Trees, node, no_trees, more_trees, listed}
use Rattle.dm_tree.specs.Units.{Declaration}
use Rattle.dm_meaning.specs.Among.{IsAmong}
use Rattle.dm_meaning.specs.Memory.{Memory}
use Rattle.dm_meaning.specs.Programs.{Program, declaration_of}
use Rattle.dm_meaning.specs.Operations.{Objects, object_named}
use Rattle.dm_meaning.specs.States.{Task}
use Rattle.dm_meaning.specs.Statements.{is_automatic_declaration, is_automatic, automatic_in, declared_in, expressions_of, declarator_tasks, item_tasks, items_tasks}
use Rattle.dm_meaning.specs.Statements as statements
use Rattle.dm_meaning.proofs.AmongLemmas.{among_left, among_right, among_either}
use Rattle.dm_sound.specs.TypedTrees.{scene_in, IsTyped}
use Rattle.dm_sound.specs.TypedStates.{AllAreTyped}
use Rattle.dm_sound.proofs.ComeLemmas.{AllTyped}
use Rattle.dm_sound.proofs.LocalLemmas.{same_count}
use Rattle.dm_effect.specs.Scoped.{Scope, declared_by, scopes_in_order, scopes_of_initialisers}
use Rattle.dm_initialised.specs.Settled.{GiveValues, declared_in_parts, AreOthers, IsSettled, AreSettled, IsSettledProgram}
use Rattle.dm_initialised.specs.SetStates.{Within, NoObject, AllSettled, AllItems, GivesWhole, GivesObject, TasksSet}
use Rattle.dm_initialised.proofs.ScopeLemmas.{within_same, within_other, tasks_more}

-- ---- initialisers

-- the initialiser of a typed declarator has one expression where it isn't in braces
given_whole : (place : Scene) (entry : Declaration) (defines : Bool) (initialiser : Initialiser) (trees : List Tree) → InitialiserFits place entry defines (Some initialiser) trees → GivesWhole initialiser trees
given_whole place entry defines one_expression [] f = absurd f.1
given_whole place entry defines one_expression (x ∷ []) f = (x, refl)
given_whole place entry defines one_expression (x ∷ y ∷ rest) f = absurd f.1.1
given_whole place entry defines (in_braces items) trees f = tt

declarator_whole : (place : Scene) (one : Declarator) (trees : List Tree) (o : Option Declaration) → IfSome o (FitsEntry place one trees) → IsSome o → (initialiser : Initialiser) → one.initialiser ≡ Some initialiser → GivesWhole initialiser trees
declarator_whole place one trees None f is initialiser e = absurd (false≢true is)
declarator_whole place one trees (Some entry) f is initialiser e =
    given_whole place entry one.defines initialiser trees (subst (λ (o : Option Initialiser). InitialiserFits place entry one.defines o trees) e f.1)

some_there : (o : Option Initialiser) → IsSome o → (initialiser : Initialiser) × (o ≡ Some initialiser)
some_there None is = absurd (false≢true is)
some_there (Some initialiser) is = (initialiser, refl)

-- ---- trees in order

module _ (needs : ℕ → Bool) where
  -- those that have a scope stand in it
  abbrev ListSettled : List (Option Scope) → List Tree → Type 0
  ListSettled scopes [] = Unit {0}
  ListSettled [] (tree ∷ trees) = Unit {0}
  ListSettled (None ∷ scopes) (tree ∷ trees) = ListSettled scopes trees
  ListSettled (Some scope ∷ scopes) (tree ∷ trees) = IsSettled needs scope tree × ListSettled scopes trees

  listed_settled : (scopes : List (Option Scope)) (parts : Trees) → AreSettled needs scopes parts → ListSettled scopes (listed parts)
  listed_settled scopes no_trees h = tt
  listed_settled [] (more_trees first rest) h = tt
  listed_settled (None ∷ scopes) (more_trees first rest) h = listed_settled scopes rest h
  listed_settled (Some scope ∷ scopes) (more_trees first rest) h = (h.0, listed_settled scopes rest h.1)

  behind_lengths : (n : ℕ) (scopes : List (Option Scope)) (trees : List Tree) → ListSettled (replicate n None ++ scopes) trees → ListSettled scopes (drop n trees)
  behind_lengths zero scopes trees h = h
  behind_lengths (suc n) scopes [] h = tt
  behind_lengths (suc n) scopes (tree ∷ trees) h = behind_lengths n scopes trees h

  own_settled : (count : ℕ) (scope : Scope) (scopes : List (Option Scope)) (trees : List Tree) → ListSettled (replicate count (Some scope) ++ scopes) trees
      → AllSettled needs scope (take count trees) × ListSettled scopes (drop count trees)
  own_settled zero scope scopes trees h = (tt, h)
  own_settled (suc count) scope scopes [] h = (tt, tt)
  own_settled (suc count) scope scopes (tree ∷ trees) h = let rest = own_settled count scope scopes trees h.1 in ((h.0, rest.0), rest.1)

pub tasks_assoc : (a b c : List Task) → (a ++ b) ++ c ≡ a ++ (b ++ c)
tasks_assoc [] b c = refl
tasks_assoc (task ∷ a) b c = ap (λ (tasks : List Task). task ∷ tasks) (tasks_assoc a b c)

abbrev pub numbers_of : List Declarator → Scope
numbers_of declarators = map (λ (one : Declarator). one.declared) declarators

module _ (program : Program) (needs : ℕ → Bool) (settled : IsSettledProgram needs program) where
  -- ---- what is declared

  automatic_is : (one : Declarator) → (needs one.declared ≡ true → IsTrue one.defines × IsSome one.initialiser) → needs one.declared ≡ true → is_automatic program one ≡ true
  automatic_is one h e = and_from one.defines (is_automatic_declaration (declaration_of program one.declared)) (h e).0 (settled.automatic one.declared e)

  automatic_there : (declarators : List Declarator) → GiveValues needs declarators → (d : ℕ) → needs d ≡ true → IsAmong d (numbers_of declarators) → IsAmong d (automatic_in program declarators)
  automatic_there [] g d h a = absurd a
  automatic_there (one ∷ others) g d h (inl e) =
      subst (λ b. IsAmong d ((if b then one.declared ∷ [] else []) ++ automatic_in program others)) (sym (automatic_is one g.0 (subst (λ k. needs k ≡ true) e h))) (inl e)
  automatic_there (one ∷ others) g d h (inr a) = among_right d (if is_automatic program one then one.declared ∷ [] else []) (automatic_in program others) (automatic_there others g.1 d h a)

  automatic_back : (declarators : List Declarator) (d : ℕ) → IsAmong d (automatic_in program declarators) → IsAmong d (numbers_of declarators)
  automatic_back [] d a = absurd a
  automatic_back (one ∷ others) d a = by_duration (is_automatic program one) a (automatic_back others d)
    where
      by_duration : (b : Bool) → IsAmong d ((if b then one.declared ∷ [] else []) ++ automatic_in program others) → (IsAmong d (automatic_in program others) → IsAmong d (numbers_of others)) → IsAmong d (numbers_of (one ∷ others))
      by_duration true (inl e) later = inl e
      by_duration true (inr c) later = inr (later c)
      by_duration false c later = inr (later c)

  item_there : (first : Tree) (scope : Scope) → IsSettled needs scope first → (d : ℕ) → needs d ≡ true → IsAmong d (declared_by first) → IsAmong d (statements.declared_by program first)
  item_there (node (declare lengths declarators) kind spans parts) scope h d n a = automatic_there declarators h.1 d n a
  item_there (node label kind spans parts) scope h d n a = absurd a

  item_back : (first : Tree) (d : ℕ) → IsAmong d (statements.declared_by program first) → IsAmong d (declared_by first)
  item_back (node (declare lengths declarators) kind spans parts) d a = automatic_back declarators d a
  item_back (node label kind spans parts) d a = absurd a

  pub items_there : (parts : Trees) (scope : Scope) → AreSettled needs (scopes_in_order scope parts) parts → (d : ℕ) → needs d ≡ true → IsAmong d (declared_in_parts parts) → IsAmong d (declared_in program (listed parts))
  items_there no_trees scope h d n a = absurd a
  items_there (more_trees first rest) scope h d n a = pick (among_either d (declared_by first) (declared_in_parts rest) a) (items_there rest (declared_by first ++ scope) h.1 d n)
    where
      pick : IsAmong d (declared_by first) ⊎ IsAmong d (declared_in_parts rest) → (IsAmong d (declared_in_parts rest) → IsAmong d (declared_in program (listed rest)))
          → IsAmong d (statements.declared_by program first ++ declared_in program (listed rest))
      pick (inl b) later = among_left d (statements.declared_by program first) (declared_in program (listed rest)) (item_there first scope h.0 d n b)
      pick (inr b) later = among_right d (statements.declared_by program first) (declared_in program (listed rest)) (later b)

  pub items_back : (parts : Trees) (d : ℕ) → IsAmong d (declared_in program (listed parts)) → IsAmong d (declared_in_parts parts)
  items_back no_trees d a = absurd a
  items_back (more_trees first rest) d a = pick (among_either d (statements.declared_by program first) (declared_in program (listed rest)) a) (items_back rest d)
    where
      pick : IsAmong d (statements.declared_by program first) ⊎ IsAmong d (declared_in program (listed rest)) → (IsAmong d (declared_in program (listed rest)) → IsAmong d (declared_in_parts rest))
          → IsAmong d (declared_by first ++ declared_in_parts rest)
      pick (inl b) later = among_left d (declared_by first) (declared_in_parts rest) (item_back first d b)
      pick (inr b) later = among_right d (declared_by first) (declared_in_parts rest) (later b)

  -- ---- what is left to do

  module _ (memory : Memory) (result : CType) (objects : Objects) where
    -- each of these has an object
    abbrev pub AllNamed : Scope → Type 0
    AllNamed numbers = (d : ℕ) → needs d ≡ true → IsAmong d numbers → (n : ℕ) × (object_named objects d ≡ Some n)

    abbrev TasksIn : Scope → List Task → Type 0
    TasksIn scope tasks = TasksSet program needs memory result objects scope tasks

    module _ (breaks continues : Bool) (labels : Option Kind) where
      abbrev place : Scene
      place = scene_in program result breaks continues labels

      gained : (one : Declarator) (trees : List Tree) → DeclaratorFits place one trees → (needs one.declared ≡ true → IsTrue one.defines × IsSome one.initialiser)
          → (needs one.declared ≡ true → (n : ℕ) × (object_named objects one.declared ≡ Some n)) → (scope : Scope) → Within needs objects scope (GivesObject program objects one trees) (one.declared ∷ scope)
      gained one trees fits g named scope d h (inr a) = inl a
      gained one trees fits g named scope d h (inl e) =
          let own = subst (λ k. needs k ≡ true) e h in
          let there = named own in
          let initial = some_there one.initialiser (g own).1 in
          inr (
            there.0,
            subst (λ k. object_named objects k ≡ Some there.0) (sym e) there.1,
            (there.1, automatic_is one g own, initial.0, initial.1, declarator_whole place one trees (declaration_of program one.declared) fits.0 fits.1 initial.0 initial.1),
          )

      locals_set : (declarators : List Declarator) (trees : List Tree) → DeclaratorsFit place declarators trees → (scope : Scope) → ListSettled needs (scopes_of_initialisers scope declarators) trees → GiveValues needs declarators
          → AllNamed (numbers_of declarators) → (later : Scope) → ((d : ℕ) → needs d ≡ true → IsAmong d later → IsAmong d scope ⊎ IsAmong d (numbers_of declarators))
          → (tasks : List Task) → TasksIn later tasks → TasksIn scope (declarator_tasks declarators trees ++ tasks)
      locals_set [] trees fits scope h g named later covered tasks k = tasks_more program needs memory result tasks objects scope later within k
        where
          alone : (d : ℕ) → IsAmong d scope ⊎ IsAmong d [] → IsAmong d scope ⊎ ((n : ℕ) × (object_named objects d ≡ Some n) × NoObject n)
          alone d (inl a) = inl a
          alone d (inr a) = absurd a

          within : Within needs objects scope NoObject later
          within d n a = alone d (covered d n a)
      locals_set (one ∷ others) trees fits scope h g named later covered tasks k =
          let count = expressions_of one.initialiser in
          let first = subst (λ n. DeclaratorFits place one (take n trees)) (same_count one.initialiser) fits.0 in
          let rest = subst (λ n. DeclaratorsFit place others (drop n trees)) (same_count one.initialiser) fits.1 in
          let behind = scopes_of_initialisers (one.declared ∷ scope) others in
          let own = own_settled needs count (one.declared ∷ scope) behind trees
          (subst (λ n. ListSettled needs (replicate n (Some (one.declared ∷ scope)) ++ behind) trees) (same_count one.initialiser) h) in (
            (λ n e. record { inner = one.declared ∷ scope; within = beside n e; settled = own.0 }),
            one.declared ∷ scope,
            gained one (take count trees) first g.0 (λ e. named one.declared e (inl refl)) scope,
            locals_set others (drop count trees) rest (one.declared ∷ scope) own.1 g.1 (λ d e a. named d e (inr a)) later (λ d e a. shifted d (covered d e a)) tasks k,
          )
        where
          beside : (n : ℕ) → object_named objects one.declared ≡ Some n → Within needs objects scope (λ m. m ≡ n) (one.declared ∷ scope)
          beside n e d h' (inl f) = inr (n, subst (λ c. object_named objects c ≡ Some n) (sym f) e, refl)
          beside n e d h' (inr a) = inl a

          shifted : (d : ℕ) → IsAmong d scope ⊎ IsAmong d (numbers_of (one ∷ others)) → IsAmong d (one.declared ∷ scope) ⊎ IsAmong d (numbers_of others)
          shifted d (inl a) = inl (inr a)
          shifted d (inr (inl e)) = inl (inl e)
          shifted d (inr (inr a)) = inr a

    swapped : (d : ℕ) (a b : Scope) → IsAmong d a ⊎ IsAmong d b → IsAmong d b ⊎ IsAmong d a
    swapped d a b (inl x) = inr x
    swapped d a b (inr x) = inl x

    -- an item of a block, and what stands behind it
    pub item_set : (first : Tree) → IsTyped program result first → (scope : Scope) → IsSettled needs scope first → AllNamed (declared_by first) → (tasks : List Task)
        → TasksIn (declared_by first ++ scope) tasks → TasksIn scope (item_tasks first ++ tasks)
    item_set (node (declare lengths declarators) kind spans parts) t scope h named tasks k =
        locals_set t.breaks t.continues t.labels declarators (drop lengths (listed parts)) t.typed.0.0.2 scope
        (behind_lengths needs lengths (scopes_of_initialisers scope declarators) (listed parts) (listed_settled needs (replicate lengths None ++ scopes_of_initialisers scope declarators) parts h.2)) h.1 named
        (numbers_of declarators ++ scope) (λ d n a. swapped d (numbers_of declarators) scope (among_either d (numbers_of declarators) scope a)) tasks k
    item_set (node label kind spans parts) t scope h named tasks k = (record { inner = scope; within = within_same needs objects scope NoObject; settled = (h, tt) }, k)

    -- the items of a block
    pub items_set : (parts : Trees) → AllTyped program result parts → (scope : Scope) → AreSettled needs (scopes_in_order scope parts) parts → AllNamed (declared_in_parts parts) → (tasks : List Task)
        → ((later : Scope) → TasksIn later tasks) → TasksIn scope (items_tasks (listed parts) ++ tasks)
    items_set no_trees t scope h named tasks k = k scope
    items_set (more_trees first rest) t scope h named tasks k =
        subst (TasksIn scope) (sym (tasks_assoc (item_tasks first) (items_tasks (listed rest)) tasks))
        (item_set first t.0 scope h.0 (λ d n a. named d n (among_left d (declared_by first) (declared_in_parts rest) a)) (items_tasks (listed rest) ++ tasks)
        (items_set rest t.1 (declared_by first ++ scope) h.1 (λ d n a. named d n (among_right d (declared_by first) (declared_in_parts rest) a)) tasks k))

    -- ---- switch: what declares no object that needs to be set

    others_locals : (scope : Scope) (declarators : List Declarator) (trees : List Tree) (inner : Scope) → Within needs objects scope NoObject inner → ListSettled needs (scopes_of_initialisers inner declarators) trees
        → AreOthers needs (numbers_of declarators) → (tasks : List Task) → TasksIn scope tasks → TasksIn scope (declarator_tasks declarators trees ++ tasks)
    others_locals scope [] trees inner w h o tasks k = k
    others_locals scope (one ∷ others) trees inner w h o tasks k =
        let behind = scopes_of_initialisers (one.declared ∷ inner) others in
        let own = own_settled needs (expressions_of one.initialiser) (one.declared ∷ inner) behind trees
        (subst (λ n. ListSettled needs (replicate n (Some (one.declared ∷ inner)) ++ behind) trees) (same_count one.initialiser) h) in (
          (λ n e. record { inner = one.declared ∷ inner; within = within_other needs objects scope NoObject (λ m. m ≡ n) (one.declared ∷ inner) (λ m x. absurd x) beside; settled = own.0 }),
          scope,
          within_same needs objects scope (GivesObject program objects one (take (expressions_of one.initialiser) trees)),
          others_locals scope others (drop (expressions_of one.initialiser) trees) (one.declared ∷ inner) beside own.1 (λ d n a. o d n (inr a)) tasks k,
        )
      where
        beside : Within needs objects scope NoObject (one.declared ∷ inner)
        beside d n (inl e) = absurd (o d n (inl e))
        beside d n (inr a) = w d n a

    others_set : (scope : Scope) (first : Tree) → IsTyped program result first → (inner : Scope) → Within needs objects scope NoObject inner → IsSettled needs inner first → AreOthers needs (declared_by first) → (tasks : List Task)
        → TasksIn scope tasks → TasksIn scope (item_tasks first ++ tasks)
    others_set scope (node (declare lengths declarators) kind spans parts) t inner w h o tasks k =
        others_locals scope declarators (drop lengths (listed parts)) inner w
        (behind_lengths needs lengths (scopes_of_initialisers inner declarators) (listed parts) (listed_settled needs (replicate lengths None ++ scopes_of_initialisers inner declarators) parts h.2)) o tasks k
    others_set scope (node label kind spans parts) t inner w h o tasks k = (record { inner = inner; within = w; settled = (h, tt) }, k)

    pub chosen_set : (scope : Scope) (items : List Tree) → AllAreTyped program result items → (inner : Scope) → Within needs objects scope NoObject inner → AllItems needs inner items → (tasks : List Task)
        → TasksIn scope tasks → TasksIn scope (items_tasks items ++ tasks)
    chosen_set scope [] t inner w h tasks k = k
    chosen_set scope (item ∷ items) t inner w h tasks k =
        subst (TasksIn scope) (sym (tasks_assoc (item_tasks item) (items_tasks items) tasks))
        (others_set scope item t.0 inner w h.0 h.1 (items_tasks items ++ tasks) (chosen_set scope items t.1 inner w h.2 tasks k))
