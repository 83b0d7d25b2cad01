-- What stays while the old program goes on in the expression of the added function: what trees come to behind a call, and the arguments that
-- stand untouched; and what an expression in a place tells of its part.
use Rattle.std.specs.Prelude.{◌≡◌, refl, ℕ, List, [], ◌∷◌, map, length, Option, Some, None}
use Rattle.std.proofs.Common.{ap, sym, ◌∙◌, subst, inl, inr}
use Rattle.dm_meaning.specs.Among.{IsAmong}
use Rattle.dm_meaning.specs.Called.{Called, new_of}
use Rattle.dm_meaning.specs.Memory.{Memory, Block, look_up, killed, IsFresh}
use Rattle.dm_meaning.specs.MoreObjects.{IsMade}
use Rattle.dm_meaning.specs.Operations.{of_value, World}
use Rattle.dm_meaning.specs.Running.{Run, begun}
use Rattle.dm_meaning.specs.Values.{Value}
use Rattle.dm_meaning.proofs.AmongLemmas.{among-map_from}
use Rattle.dm_meaning.proofs.EntryLemmas.{entries_from, objects_in, with_entries, AreFresh}
use Rattle.dm_meaning.proofs.OptionLemmas.{none_is_some}
use Rattle.dm_meaning.proofs.PassRunLemmas.{Entry as Stored}
use Rattle.dm_rewrite.specs.Computed.{Computed, computed, IsPure}
use Rattle.dm_rewrite.specs.Effects.{Effect, Stage, ChangesOnly, IsNoMore}
use Rattle.dm_rewrite.proofs.ComputedKeptLemmas.{kept_computation}
use Rattle.dm_rewrite.proofs.FrameChangeLemmas.{changes_opened, changes_ended}
use Rattle.dm_central.specs.Agreement.{Stood, a_value, a_tree, Entry}
use Rattle.dm_central.specs.Bodies.{Known, CallsInPlace}
use Rattle.dm_central.specs.StateAgreement.{IsHeld, AreEntered, AreMissing}
use Rattle.dm_central.proofs.AgreementLemmas.{reads_kept}
use Rattle.dm_central.proofs.CallFrameLemmas.{added_memory}
use Rattle.dm_central.proofs.OutcomeLemmas.{changes_none}

pub changes_fewer : (stage : Stage) (effects fewer : List Effect) (world later : World) → IsNoMore stage effects fewer → ChangesOnly stage fewer world later → ChangesOnly stage effects world later
changes_fewer stage effects fewer world later c k = record { same_objects = k.same_objects; same = λ at n e free. k.same at n e (c n free) }

-- ---- arguments that stand untouched

pub held_kept : (stage : Stage) (world later : World) (effects fewer : List Effect) → ChangesOnly stage effects world later → IsNoMore stage effects fewer → (value : Value) (stood : Stood)
    → IsHeld stage world effects value stood → IsHeld stage later fewer value stood
held_kept stage world later effects fewer k c value a_value h = tt
held_kept stage world later effects fewer k c value (a_tree tree) h = (
  h.0,
  λ at_world found e at among n f. c n (h.1 at_world found e at among n f),
  (h.2.0, kept_computation stage.scene world later k.same_objects (begun tree) h.0 h.2.0 h.2.1 (reads_kept stage effects world later k (begun tree) h.1 h.2.0 h.2.1), h.2.2),
)

pub entered_kept : (stage : Stage) (world later : World) (effects fewer : List Effect) (entries : List Entry) (first : List Stored) → ChangesOnly stage effects world later → IsNoMore stage effects fewer
    → AreEntered stage world effects entries first → AreEntered stage later fewer entries first
entered_kept stage world later effects fewer entries first k c h = record {
  among = h.among;
  held = λ entry l. held_kept stage world later effects fewer k c entry.value entry.stood (h.held entry l);
}

-- what such a tree comes to, it still does
pub computed_later : (stage : Stage) (world later : World) (run : Run) → IsPure run → ChangesOnly stage [] world later → (found : Computed) → computed stage.scene world run ≡ Some found → (value : Value) → found.result ≡ of_value value
    → (found : Computed) × (computed stage.scene later run ≡ Some found) × (found.result ≡ of_value value)
computed_later stage world later run pure k found is value comes =
    (found, kept_computation stage.scene world later k.same_objects run pure found is (reads_kept stage [] world later k run (λ at_world f e at among n g effect l. absurd l) found is), comes)

-- ---- the objects of the parameters

-- to whoever waits below, nothing happens when they are made
pub changes_entered : (change : Called) (known : Known) (calling : CallsInPlace change known) (stage : Stage) (names : ℕ → ℕ) (values : List Value) (world : World) → length values ≡ length change.added.parameters → IsFresh names world.memory
    → ChangesOnly stage [] world (record world { memory = with_entries change (entries_from names 0 change.added.parameters values []) world.memory })
changes_entered change known calling stage names values world e fresh =
    subst (λ m. ChangesOnly stage [] world (record world { memory = m })) (added_memory change known calling names values world.memory e)
    (changes_opened stage [] world world (new_of change) names change.added values fresh.1 (changes_none stage [] world))

-- nor when they die
pub changes_left : (stage : Stage) (effects : List Effect) (origin world : World) (first : List Stored) → AreMissing origin first → ChangesOnly stage effects origin world
    → ChangesOnly stage effects origin (record world { memory = killed (map (λ entry. entry.1) (objects_in first)) world.memory })
changes_left stage effects origin world first missing k = changes_ended stage effects origin world (map (λ entry. entry.1) (objects_in first)) (λ n l. by_object n l) k
  where
    by_object : (n : ℕ) → IsAmong n (map (λ (entry : ℕ × ℕ). entry.1) (objects_in first)) → look_up origin.memory n ≡ None
    by_object n l =
        let object = among-map_from (λ (entry : ℕ × ℕ). entry.1) n (objects_in first) l in
        let entry = among-map_from (λ (x : Stored). (x.parameter, x.stored)) object.0 first object.1 in
        ap (look_up origin.memory) (object.2 ∙ ap (λ (o : ℕ × ℕ). o.1) entry.2) ∙ missing entry.0 entry.1

-- what isn't made wasn't before
pub never_made : (before now : Memory) (n : ℕ) → (IsMade before n → IsMade now n) → look_up now n ≡ None → look_up before n ≡ None
never_made before now n made e = by_option (look_up before n) refl
  where
    by_option : (o : Option Block) → look_up before n ≡ o → look_up before n ≡ None
    by_option None f = f
    by_option (Some block) f = let there = made (block, f) in absurd (none_is_some there.0 (sym e ∙ there.1))

-- new objects haven't been made
pub entries_missing : (world : World) (first : List Stored) → AreFresh first world.memory → AreMissing world first
entries_missing world [] h entry l = absurd l
entries_missing world (stored ∷ rest) h entry (inl e) = ap (λ (x : Stored). look_up world.memory x.stored) e ∙ h.0
entries_missing world (stored ∷ rest) h entry (inr l) = entries_missing world rest h.2 entry l
