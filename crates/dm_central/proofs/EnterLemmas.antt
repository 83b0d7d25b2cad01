-- What is known where the added function is entered: its parameters' objects, and the untouched arguments.
use Rattle.std.specs.Prelude.{◌≡◌, refl, ℕ, suc, List, [], ◌∷◌, length, Some}
use Rattle.std.proofs.Common.{ap, sym, ◌∙◌, subst, inl, inr}
use Rattle.dm_type.specs.CTypes.{CType}
use Rattle.dm_tree.specs.Trees.{Tree, node}
use Rattle.dm_meaning.specs.Among.{IsAmong}
use Rattle.dm_meaning.specs.Called.{Called}
use Rattle.dm_meaning.specs.Operations.{of_value, World}
use Rattle.dm_meaning.specs.Running.{Run, done, Runs, no_runs, more_runs, begun}
use Rattle.dm_meaning.specs.Values.{At, Value}
use Rattle.dm_meaning.proofs.EntryLemmas.{entries_from}
use Rattle.dm_meaning.proofs.OptionLemmas.{some_is_some}
use Rattle.dm_meaning.proofs.PassRunLemmas.{HaveCome, Entry as Stored}
use Rattle.dm_rewrite.specs.Aside.{Follows}
use Rattle.dm_rewrite.specs.Computed.{Computed, computed}
use Rattle.dm_rewrite.specs.Effects.{Effect, Stage, effects_of}
use Rattle.dm_central.specs.Agreement.{a_tree, Entry}
use Rattle.dm_central.specs.Arguments.{ReadsApart, Way, at_once, untouched, IsFollowed, AllFollowed}
use Rattle.dm_central.specs.Entries.{entries_for}
use Rattle.dm_central.specs.Outcomes.{Entered}
use Rattle.dm_central.specs.StateAgreement.{IsHeld, stored_entry, AreEntered}

-- the numbers of the parameters' objects
abbrev pub numbers_from : (ℕ → ℕ) → ℕ → List ℕ → List ℕ
numbers_from names i [] = []
numbers_from names i (p ∷ ps) = names i ∷ numbers_from names (suc i) ps

pub numbers_count : (names : ℕ → ℕ) (i : ℕ) (ps : List ℕ) → length (numbers_from names i ps) ≡ length ps
numbers_count names i [] = refl
numbers_count names i (p ∷ ps) = ap suc (numbers_count names (suc i) ps)

still_among : (names : ℕ → ℕ) (i : ℕ) (ps : List ℕ) (values : List Value) (others : List Stored) (entry : Stored) → IsAmong entry others → IsAmong entry (entries_from names i ps values others)
still_among names i [] values others entry l = l
still_among names i (p ∷ ps) [] others entry l = l
still_among names i (p ∷ ps) (value ∷ values) others entry l = still_among names (suc i) ps values (record { parameter = p; stored = names i; value = value } ∷ others) entry (inr l)

-- their objects are those of the frame
pub stored_among : (names : ℕ → ℕ) (i : ℕ) (ps : List ℕ) (values : List Value) (ways : List Way) (others : List Stored) (entry : Entry) → IsAmong entry (entries_for ps (numbers_from names i ps) values ways)
    → IsAmong (stored_entry entry) (entries_from names i ps values others)
stored_among names i [] values ways others entry l = absurd l
stored_among names i (p ∷ ps) [] ways others entry l = absurd l
stored_among names i (p ∷ ps) (value ∷ values) [] others entry l = absurd l
stored_among names i (p ∷ ps) (value ∷ values) (way ∷ ways) others entry (inl e) =
    still_among names (suc i) ps values (record { parameter = p; stored = names i; value = value } ∷ others) (stored_entry entry) (inl (ap stored_entry e))
stored_among names i (p ∷ ps) (value ∷ values) (way ∷ ways) others entry (inr l) =
    stored_among names (suc i) ps values ways (record { parameter = p; stored = names i; value = value } ∷ others) entry l

-- an untouched argument has come to its value
held_value : (stage : Stage) (world : World) (around effects : List Effect) (tree : Tree) (kind : CType) (value : Value) (locks : List At) → ReadsApart stage effects (begun tree)
    → IsFollowed stage world around tree (done kind (of_value value) locks) → IsHeld stage world effects value (a_tree tree)
held_value stage world around effects tree kind value locks apart h = (h.pure, apart, by_follows h.follows)
  where
    not_begun : (t : Tree) → done kind (of_value value) locks ≡ begun t → ⊥
    not_begun (node label own spans parts) e = cc

    by_follows : Follows stage.scene world (begun tree) (done kind (of_value value) locks) → (found : Computed) × (computed stage.scene world (begun tree) ≡ Some found) × (found.result ≡ of_value value)
    by_follows (inl e) = absurd (not_begun tree e)
    by_follows (inr c) =
        (c.found, c.is, sym c.leads.result ∙ ap (λ (x : Computed). x.result) (some_is_some c.now (record { result = of_value value; reads = [] }) (sym c.is_now)))

all_held : (stage : Stage) (world : World) (around effects : List Effect) (ps ns : List ℕ) (kinds : List CType) (values : List Value) (ways : List Way) (inner : Runs) → HaveCome kinds values inner
    → AllFollowed stage world around ways inner → ((tree : Tree) → IsAmong (untouched tree) ways → ReadsApart stage effects (begun tree)) → (entry : Entry) → IsAmong entry (entries_for ps ns values ways)
    → IsHeld stage world effects entry.value entry.stood
all_held stage world around effects [] ns kinds values ways inner h k calm entry l = absurd l
all_held stage world around effects (p ∷ ps) [] kinds values ways inner h k calm entry l = absurd l
all_held stage world around effects (p ∷ ps) (n ∷ ns) kinds [] ways inner h k calm entry l = absurd l
all_held stage world around effects (p ∷ ps) (n ∷ ns) [] (value ∷ values) ways inner h k calm entry l = absurd h
all_held stage world around effects (p ∷ ps) (n ∷ ns) (kind ∷ kinds) (value ∷ values) [] inner h k calm entry l = absurd l
all_held stage world around effects (p ∷ ps) (n ∷ ns) (kind ∷ kinds) (value ∷ values) (way ∷ ways) no_runs h k calm entry l = absurd h
all_held stage world around effects (p ∷ ps) (n ∷ ns) (kind ∷ kinds) (value ∷ values) (at_once ∷ ways) (more_runs first rest) h k calm entry (inl e) =
    subst (λ (x : Entry). IsHeld stage world effects x.value x.stood) (sym e) tt
all_held stage world around effects (p ∷ ps) (n ∷ ns) (kind ∷ kinds) (value ∷ values) (untouched tree ∷ ways) (more_runs first rest) h k calm entry (inl e) =
    subst (λ (x : Entry). IsHeld stage world effects x.value x.stood) (sym e)
    (held_value stage world around effects tree kind value h.0.0 (calm tree (inl refl)) (subst (IsFollowed stage world around tree) h.0.1 k.0))
all_held stage world around effects (p ∷ ps) (n ∷ ns) (kind ∷ kinds) (value ∷ values) (at_once ∷ ways) (more_runs first rest) h k calm entry (inr l) =
    all_held stage world around effects ps ns kinds values ways rest h.2 k (λ tree a. calm tree (inr a)) entry l
all_held stage world around effects (p ∷ ps) (n ∷ ns) (kind ∷ kinds) (value ∷ values) (untouched tree ∷ ways) (more_runs first rest) h k calm entry (inr l) =
    all_held stage world around effects ps ns kinds values ways rest h.2 k.1 (λ tree a. calm tree (inr a)) entry l

-- The parameters of the function when it is entered.
abbrev pub entries_at : (change : Called) (stage : Stage) (world : World) (values : List Value) (kind : CType) (run : Run) → Entered change stage world values kind run → (ℕ → ℕ) → List Entry
entries_at change stage world values kind run h names = entries_for change.added.parameters (numbers_from names 0 change.added.parameters) values h.ways

pub entered_first : (change : Called) (stage : Stage) (world : World) (values : List Value) (kind : CType) (run : Run) (h : Entered change stage world values kind run) (names : ℕ → ℕ)
    → AreEntered stage world (effects_of stage run) (entries_at change stage world values kind run h names) (entries_from names 0 change.added.parameters values [])
entered_first change stage world values kind run h names = record {
  among = λ entry l. stored_among names 0 change.added.parameters values h.ways [] entry l;
  held = λ entry l.
      all_held stage world h.effects (effects_of stage run) change.added.parameters (numbers_from names 0 change.added.parameters) h.kinds values h.ways h.inner h.come h.followed h.calm entry l;
}
