-- The frames that wait are left alone by each step: objects that are made are new, and none that was there before a call dies but those of its own
-- frame.
use Rattle.std.specs.Prelude.{◌≡◌, refl, ◌⊎◌, ℕ, suc, ◌+◌, ◌≤◌, false, List, [], ◌∷◌, length, Option, Some, None}
use Rattle.std.proofs.Common.{arith, ap, sym, ◌∙◌, subst, inl, inr}
use Rattle.dm_tree.specs.Trees.{Tree, parts_of}
use Rattle.dm_meaning.specs.Among.{IsAmong}
use Rattle.dm_meaning.specs.Causes.{absence_causes}
use Rattle.dm_meaning.specs.Lifetimes.{numbers_of}
use Rattle.dm_meaning.specs.Memory.{Memory, Block, look_up, look, IsFresh}
use Rattle.dm_meaning.specs.MoreObjects.{IsMade, ObjectsMade, with_memory}
use Rattle.dm_meaning.specs.Operations.{World, Objects}
use Rattle.dm_meaning.specs.Programs.{Program, Definition}
use Rattle.dm_meaning.specs.States.{State}
use Rattle.dm_meaning.specs.Statements.{declared_in, named_from, entered}
use Rattle.dm_meaning.specs.Steps.{opened_frame, Step}
use Rattle.dm_meaning.specs.Values.{Name, numbered, literal_of, elsewhere}
use Rattle.dm_meaning.proofs.AmongLemmas.{among-map}
use Rattle.dm_meaning.proofs.OptionLemmas.{none_is_some}
use Rattle.dm_rewrite.specs.Effects.{Stage}
use Rattle.dm_rewrite.specs.KeptMemory.{HasSameObjects, emptied_block, emptied}
use Rattle.dm_rewrite.proofs.FrameChangeLemmas.{usable_made, changes_opened}
use Rattle.dm_central.specs.StateAgreement.{worlds_after}
use Rattle.dm_central.specs.Waiting.{any_name, any_run, FrameHas, IsEntry, AreOwn, HasLasted, CallersOwn, IsWaiting}
use Rattle.dm_central.proofs.BehindLemmas.{never_made}
use Rattle.dm_central.proofs.LastLemmas.{step_lasts}
use Rattle.dm_central.proofs.OutcomeLemmas.{changes_none}
use Rattle.dm_central.proofs.ShapeLemmas.{items_have_none, Stays, Called, Returned, Shape, any_use, objects_shape}
use Rattle.dm_central.proofs.TopLemmas.{same_worlds, more_worlds, fewer_worlds}

-- ---- new objects

-- none of these names is in use from the i-th on
abbrev pub Beyond : (ℕ → ℕ) → Objects → ℕ → Objects → Type 0
Beyond names statics i objects = (k : ℕ) → i ≤ k → (entry : ℕ × ℕ) → IsEntry statics objects entry → entry.1 ≡ names k → ⊥

module _ (names : ℕ → ℕ) (memory : Memory) (fresh : IsFresh names memory) (statics : Objects) (starts : List World) (older : (start : World) → IsAmong start starts → (n : ℕ) → IsMade start.memory n → IsMade memory n) where
  same_index : (i : ℕ) → i ≤ i
  same_index i = omega arith

  later_index : (i k : ℕ) → suc i ≤ k → i ≤ k
  later_index i k h = omega (arith, h)

  not_itself : (i k : ℕ) → suc i ≤ k → i ≡ k → ⊥
  not_itself i k h e = omega (arith, h, e)

  one_more : (i : ℕ) (d : ℕ) (objects : Objects) → AreOwn statics starts objects → Beyond names statics i objects → AreOwn statics starts ((d, names i) ∷ objects) × Beyond names statics (suc i) ((d, names i) ∷ objects)
  one_more i d objects own beyond = (
    record {
      apart = λ x y k l e. by_entries x y k l e;
      local = λ x y k l e. by_local x y k l e;
      missing = λ start l n k. by_number start l n k;
    },
    λ k later entry l e. still_beyond k later entry l e,
  )
    where
      new : ℕ × ℕ
      new = (d, names i)

      by_old : (y : ℕ × ℕ) → IsEntry statics ((d, names i) ∷ objects) y → (y ≡ (d, names i)) ⊎ IsEntry statics objects y
      by_old y (inl k) = inr (inl k)
      by_old y (inr (inl e)) = inl e
      by_old y (inr (inr k)) = inr (inr k)

      by_entries : (x y : ℕ × ℕ) → IsEntry statics ((d, names i) ∷ objects) x → IsEntry statics ((d, names i) ∷ objects) y → x.1 ≡ y.1 → x.0 ≡ y.0
      by_entries x y k l e = by_both (by_old x k) (by_old y l)
        where
          by_both : (x ≡ (d, names i)) ⊎ IsEntry statics objects x → (y ≡ (d, names i)) ⊎ IsEntry statics objects y → x.0 ≡ y.0
          by_both (inl f) (inl g) = ap (λ (z : ℕ × ℕ). z.0) f ∙ sym (ap (λ (z : ℕ × ℕ). z.0) g)
          by_both (inl f) (inr g) = absurd (beyond i (same_index i) y g (sym e ∙ ap (λ (z : ℕ × ℕ). z.1) f))
          by_both (inr f) (inl g) = absurd (beyond i (same_index i) x f (e ∙ ap (λ (z : ℕ × ℕ). z.1) g))
          by_both (inr f) (inr g) = own.apart x y f g e

      by_local : (x y : ℕ × ℕ) → IsAmong x statics → IsAmong y ((d, names i) ∷ objects) → x.1 ≡ y.1 → ⊥
      by_local x y k (inl f) e = beyond i (same_index i) x (inl k) (e ∙ ap (λ (z : ℕ × ℕ). z.1) f)
      by_local x y k (inr l) e = own.local x y k l e

      by_number : (start : World) → IsAmong start starts → (n : ℕ) → IsAmong n (numbers_of ((d, names i) ∷ objects)) → look_up start.memory n ≡ None
      by_number start l n (inl e) = never_made start.memory memory n (older start l n) (ap (look_up memory) e ∙ fresh.1 i)
      by_number start l n (inr k) = own.missing start l n k

      still_beyond : (k : ℕ) → suc i ≤ k → (entry : ℕ × ℕ) → IsEntry statics ((d, names i) ∷ objects) entry → entry.1 ≡ names k → ⊥
      still_beyond k later entry l e = by_one (by_old entry l)
        where
          by_one : (entry ≡ (d, names i)) ⊎ IsEntry statics objects entry → ⊥
          by_one (inl f) = not_itself i k later (fresh.0 i k (sym (ap (λ (z : ℕ × ℕ). z.1) f) ∙ e))
          by_one (inr f) = beyond k (later_index i k later) entry f e

  pub all_more : (i : ℕ) (ds : List ℕ) (objects : Objects) → AreOwn statics starts objects → Beyond names statics i objects → (j : ℕ) → i + length ds ≤ j
      → AreOwn statics starts (named_from names i ds objects) × Beyond names statics j (named_from names i ds objects)
  all_more i [] objects own beyond j few = (own, λ k later. beyond k (both_later i j k few later))
    where
      both_later : (a b c : ℕ) → a + 0 ≤ b → b ≤ c → a ≤ c
      both_later a b c h k = omega (arith, h, k)
  all_more i (d ∷ ds) objects own beyond j few =
      let one = one_more i d objects own beyond in
      all_more (suc i) ds ((d, names i) ∷ objects) one.0 one.1 j (shifted i (length ds) j few)
    where
      shifted : (a b c : ℕ) → a + suc b ≤ c → suc a + b ≤ c
      shifted a b c h = omega (arith, h)

-- what is made has other names
made_beyond : (names : ℕ → ℕ) (memory : Memory) → IsFresh names memory → (statics objects : Objects) → ObjectsMade memory statics → ObjectsMade memory objects → Beyond names statics 0 objects
made_beyond names memory fresh statics objects h k i later entry (inl l) e =
    let made = h entry.1 (among-map (λ (x : ℕ × ℕ). x.1) entry statics l) in none_is_some made.0 (sym (ap (look_up memory) e ∙ fresh.1 i) ∙ made.1)
made_beyond names memory fresh statics objects h k i later entry (inr l) e =
    let made = k entry.1 (among-map (λ (x : ℕ × ℕ). x.1) entry objects l) in none_is_some made.0 (sym (ap (look_up memory) e ∙ fresh.1 i) ∙ made.1)

-- ---- what lasts

module _ (program : Program) (s t : State) (step : Step program s t) (made : (n : ℕ) → IsMade s.world.memory n → IsMade t.world.memory n) where
  lasts_on : (start : World) → HasLasted start s.world → ((n : ℕ) → IsAmong n (numbers_of s.frame.objects) → look_up start.memory n ≡ None) → HasLasted start t.world
  lasts_on start h missing = record { made = λ n k. made n (h.made n k); same = λ name there. by_name name there }
    where
      by_number : (n : ℕ) → absence_causes start.memory (numbered n) ≡ [] → (o : Option Block) → look_up start.memory n ≡ o → emptied (look_up t.world.memory n) ≡ emptied (look_up start.memory n)
      by_number n there None e = absurd (usable_made start.memory n there e)
      by_number n there (Some block) e = by_last (step_lasts (emptied_block block) program s t step n (h.same (numbered n) there ∙ ap emptied e))
        where
          by_last : IsAmong n (numbers_of s.frame.objects) ⊎ (emptied (look_up t.world.memory n) ≡ Some (emptied_block block)) → emptied (look_up t.world.memory n) ≡ emptied (look_up start.memory n)
          by_last (inl l) = absurd (none_is_some block (sym (missing n l) ∙ e))
          by_last (inr k) = k ∙ sym (ap emptied e)

      by_name : (name : Name) → absence_causes start.memory name ≡ [] → emptied (look t.world.memory name) ≡ emptied (look start.memory name)
      by_name (numbered n) there = by_number n there (look_up start.memory n) refl
      by_name (literal_of bytes unit) there = refl
      by_name (elsewhere identifier) there = refl

  -- ---- steps

  module _ (starts : List World) (waiting : IsWaiting starts s) (own_made : ObjectsMade s.world.memory s.frame.objects) where
    older : (start : World) → IsAmong start starts → (n : ℕ) → IsMade start.memory n → IsMade s.world.memory n
    older start l n k = (waiting.since start l).made n k

    abbrev Own : Objects → Type 0
    Own objects = AreOwn s.statics starts objects

    entered_own : (items : List Tree) → AreOwn s.statics starts (entered program step.0 items s.frame.objects)
    entered_own items =
        (all_more step.0 s.world.memory step.1 s.statics starts older 0 (declared_in program items) s.frame.objects waiting.frame.0
        (made_beyond step.0 s.world.memory step.1 s.statics s.frame.objects waiting.statics own_made) (length (declared_in program items)) (at_zero (length (declared_in program items)))).0
      where
        at_zero : (n : ℕ) → 0 + n ≤ n
        at_zero n = omega arith

    all_since : (start : World) → IsAmong start starts → HasLasted start t.world
    all_since start l = lasts_on start (waiting.since start l) (λ n k. waiting.frame.0.missing start l n k)

    statics_later : t.statics ≡ s.statics → ObjectsMade t.world.memory t.statics
    statics_later e n l = made n (waiting.statics n (subst (λ (os : Objects). IsAmong n (numbers_of os)) e l))

    stays : Stays program Own any_name any_run s t → IsWaiting (worlds_after starts s.world s.callers t.callers) t
    stays h =
        subst (λ cs. IsWaiting (worlds_after starts s.world s.callers cs) t) (sym h.callers)
        (subst (λ ws. IsWaiting ws t) (sym (same_worlds starts s.world s.callers)) (record {
          statics = statics_later h.statics;
          frame = subst (λ (os : Objects). FrameHas (AreOwn os starts) t.frame) (sym h.statics) h.frame;
          callers = subst (λ (os : Objects). CallersOwn os starts t.callers) (sym h.statics) (subst (CallersOwn s.statics starts) (sym h.callers) waiting.callers);
          since = all_since;
        }))

    -- a function is called
    no_stage : Stage
    no_stage = record { scene = record { program = program; objects = [] }; closed = []; quiet = λ f. false }

    called_own : (definition : Definition) → FrameHas (AreOwn s.statics (s.world ∷ starts)) (opened_frame program step.0 definition)
    called_own definition =
        let items = parts_of definition.body in
        let all_older : (start : World) → IsAmong start (s.world ∷ starts) → (n : ℕ) → IsMade start.memory n → IsMade s.world.memory n =
        λ start l n k. older_than start l n k in
        let none : AreOwn s.statics (s.world ∷ starts) [] = record { apart = λ x y k l e. waiting.frame.0.apart x y (static_entry x k) (static_entry y l) e; local = λ x y k l e. absurd l; missing = λ start l n k. absurd k } in
        let first = all_more step.0 s.world.memory step.1 s.statics (s.world ∷ starts) all_older 0 definition.parameters [] none (made_beyond step.0 s.world.memory step.1 s.statics [] waiting.statics (λ n k. absurd k)) (length definition.parameters) (at_zero (length definition.parameters)) in
        let second = all_more step.0 s.world.memory step.1 s.statics (s.world ∷ starts) all_older (length definition.parameters) (declared_in program items) (named_from step.0 0 definition.parameters []) first.0 first.1
        (length definition.parameters + length (declared_in program items)) (itself (length definition.parameters + length (declared_in program items))) in
        (second.0, items_have_none program (AreOwn s.statics (s.world ∷ starts)) any_name any_run items)
      where
        at_zero : (n : ℕ) → 0 + n ≤ n
        at_zero n = omega arith

        itself : (n : ℕ) → n ≤ n
        itself n = omega arith

        older_than : (start : World) → IsAmong start (s.world ∷ starts) → (n : ℕ) → IsMade start.memory n → IsMade s.world.memory n
        older_than start (inl e) n k = subst (λ (w : World). IsMade w.memory n) e k
        older_than start (inr l) n k = older start l n k

        static_entry : (x : ℕ × ℕ) → IsEntry s.statics [] x → IsEntry s.statics s.frame.objects x
        static_entry x (inl k) = inl k
        static_entry x (inr k) = absurd k

    calls : Called program Own any_name any_run step.0 s t → IsWaiting (worlds_after starts s.world s.callers t.callers) t
    calls h =
        subst (λ cs. IsWaiting (worlds_after starts s.world s.callers cs) t) (sym h.callers)
        (subst (λ ws. IsWaiting ws t) (sym (more_worlds starts s.world s.callers h.caller)) (record {
          statics = statics_later h.statics;
          frame = subst (λ (os : Objects). FrameHas (AreOwn os (s.world ∷ starts)) t.frame) (sym h.statics) (subst (FrameHas (AreOwn s.statics (s.world ∷ starts))) (sym h.frame) (called_own h.definition));
          callers = subst (λ (os : Objects). CallersOwn os (s.world ∷ starts) t.callers) (sym h.statics) (subst (CallersOwn s.statics (s.world ∷ starts)) (sym h.callers) (h.waits, waiting.callers));
          since = λ start l. by_start start l;
        }))
      where
        by_start : (start : World) → IsAmong start (s.world ∷ starts) → HasLasted start t.world
        by_start start (inl e) =
            subst (λ w. HasLasted w t.world) (sym e) (record {
              made = made;
              same =
                  subst (λ (w : World). HasSameObjects s.world.memory w.memory) (sym h.world)
                  (changes_opened no_stage [] s.world s.world program step.0 h.definition h.arguments step.1.1 (changes_none no_stage [] s.world)).same_objects;
            })
        by_start start (inr l) = all_since start l

    -- a function returns
    returned : Returned program Own any_name any_run s t → IsWaiting (worlds_after starts s.world s.callers t.callers) t
    returned h = by_starts starts refl (subst (CallersOwn s.statics starts) h.was waiting.callers)
      where
        by_starts : (ws : List World) → starts ≡ ws → CallersOwn s.statics ws (h.caller ∷ h.behind) → IsWaiting (worlds_after starts s.world s.callers t.callers) t
        by_starts [] e k = absurd k
        by_starts (start ∷ more) e k =
            subst (λ cs. IsWaiting (worlds_after starts s.world s.callers cs) t) (sym h.callers)
            (subst (λ cs. IsWaiting (worlds_after starts s.world cs h.behind) t) (sym h.was)
            (subst (λ ws. IsWaiting (worlds_after ws s.world (h.caller ∷ h.behind) h.behind) t) (sym e)
            (subst (λ ws. IsWaiting ws t) (sym (fewer_worlds start more s.world h.behind h.caller)) (record {
              statics = statics_later h.statics;
              frame = subst (λ (os : Objects). FrameHas (AreOwn os more) t.frame) (sym h.statics) (subst (FrameHas (AreOwn s.statics more)) (sym h.frame) (k.0.0, ((tt, any_use h.caller.use_of), k.0.1)));
              callers = subst (λ (os : Objects). CallersOwn os more t.callers) (sym h.statics) (subst (CallersOwn s.statics more) (sym h.callers) k.1);
              since = λ one l. all_since one (subst (IsAmong one) (sym e) (inr l));
            }))))

    -- each step leaves them waiting
    pub waiting_later : IsWaiting (worlds_after starts s.world s.callers t.callers) t
    waiting_later = by_shape (objects_shape program Own (λ objects. Unit {0}) s t step waiting.frame (λ items q. entered_own items) tt)
      where
        by_shape : Shape program Own any_name any_run step.0 s t → IsWaiting (worlds_after starts s.world s.callers t.callers) t
        by_shape (inl h) = stays h
        by_shape (inr (inl h)) = calls h
        by_shape (inr (inr h)) = returned h

-- ---- other memory

pub waiting_beside : (starts : List World) (s : State) (memory : Memory) → IsWaiting starts s → ((start : World) → IsAmong start starts → HasLasted start (record s.world { memory = memory })) → ObjectsMade memory s.statics
    → IsWaiting starts (with_memory s memory)
waiting_beside starts s memory h since statics = record { statics = statics; frame = h.frame; callers = h.callers; since = since }
