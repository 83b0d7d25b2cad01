-- The expression of the added function that the old program has nowhere, followed aside: what it comes to is known, so each step of it keeps
-- that, and none is undefined.
use Rattle.std.specs.Prelude.{◌≡◌, refl, ◌⊎◌, ℕ, zero, suc, [], Option, Some, None}
use Rattle.std.proofs.Common.{true≢false, ap, sym, ◌∙◌, subst, inl, inr}
use Rattle.dm_meaning.specs.Among.{IsAmong}
use Rattle.dm_meaning.specs.Operations.{of_value, World}
use Rattle.dm_meaning.specs.Running.{Run, done, Hole, filled_in, IsOpen}
use Rattle.dm_meaning.specs.Expressions.{kind_of_run}
use Rattle.dm_meaning.specs.Values.{Value}
use Rattle.dm_meaning.proofs.OptionLemmas.{none_is_some, some_is_some}
use Rattle.dm_rewrite.specs.Aside.{IsForeseen}
use Rattle.dm_rewrite.specs.Closed.{MemoryAvoids, ResultAvoids, IsClosedIn}
use Rattle.dm_rewrite.specs.Computed.{Computed, computed, IsPure}
use Rattle.dm_rewrite.specs.Effects.{Stage}
use Rattle.dm_rewrite.specs.PureSteps.{Meets, Keeps}
use Rattle.dm_rewrite.proofs.AsideLemmas.{part_foreseen}
use Rattle.dm_rewrite.proofs.ClosedRunLemmas.{run_clear}
use Rattle.dm_rewrite.proofs.SettleLemmas.{went, Beside, FailsBeside, ComesTo, settles, undefined_meets}

-- it comes to this value
abbrev pub ComesToValue : Stage → World → Run → Value → Type 0
ComesToValue stage world run value = (found : Computed) × (computed stage.scene world run ≡ Some found) × (found.result ≡ of_value value)

-- so nothing in it is undefined
pub nothing_meets : (stage : Stage) (world : World) (run : Run) (value : Value) → ComesToValue stage world run value → Meets [] (computed stage.scene world run) → ⊥
nothing_meets stage world run value (found, e, comes) meets = let met = subst (Meets []) e meets in true≢false (sym met.2)

-- a step keeps it
pub still_comes : (stage : Stage) (world : World) (run later : Run) (value : Value) → ComesToValue stage world run value → Keeps [] (computed stage.scene world run) (computed stage.scene world later)
    → ComesToValue stage world later value
still_comes stage world run later value (found, e, comes) keeps = by_option (computed stage.scene world later) refl (subst (λ o. Keeps [] o (computed stage.scene world later)) e keeps)
  where
    by_option : (o : Option Computed) → computed stage.scene world later ≡ o → Keeps [] (Some found) (computed stage.scene world later) → ComesToValue stage world later value
    by_option None f k = absurd (subst (Keeps [] (Some found)) f k)
    by_option (Some now) f k = (now, f, (subst (Keeps [] (Some found)) f k).result ∙ comes)

-- and so do all steps of a part
pub part_comes : (stage : Stage) (world : World) (hole : Hole) (tree : Run) (part value : Value) → IsOpen hole → IsPure (filled_in hole tree) → ComesToValue stage world (filled_in hole tree) value
    → ((found : Computed) → computed stage.scene world tree ≡ Some found → found.result ≡ of_value part) → ComesToValue stage world (filled_in hole (done (kind_of_run tree) (of_value part) [])) value
part_comes stage world hole tree part value o pure (found, e, comes) gives = by_either (part_foreseen stage.scene world (filled_in hole tree) hole tree o pure (inl refl))
  where
    by_either : IsForeseen stage.scene world (filled_in hole tree) hole tree ⊎ (computed stage.scene world (filled_in hole tree) ≡ None) → ComesToValue stage world (filled_in hole (done (kind_of_run tree) (of_value part) [])) value
    by_either (inl h) = (
      h.claims.now,
      subst (λ r. computed stage.scene world (filled_in hole (done (kind_of_run tree) r [])) ≡ Some h.claims.now) (gives h.part h.is) h.claims.is_now,
      h.claims.leads.result ∙ ap (λ (x : Computed). x.result) (some_is_some h.claims.found found (sym h.claims.is ∙ e)) ∙ comes,
    )
    by_either (inr f) = absurd (none_is_some found (sym f ∙ e))

-- a part comes to something
pub part_found : (stage : Stage) (world : World) (hole : Hole) (tree : Run) (value : Value) → IsOpen hole → IsPure (filled_in hole tree) → ComesToValue stage world (filled_in hole tree) value
    → (found : Computed) × (computed stage.scene world tree ≡ Some found)
part_found stage world hole tree value o pure (found, e, comes) = by_either (part_foreseen stage.scene world (filled_in hole tree) hole tree o pure (inl refl))
  where
    by_either : IsForeseen stage.scene world (filled_in hole tree) hole tree ⊎ (computed stage.scene world (filled_in hole tree) ≡ None) → (part : Computed) × (computed stage.scene world tree ≡ Some part)
    by_either (inl h) = (h.part, h.is)
    by_either (inr f) = absurd (none_is_some found (sym f ∙ e))

-- ---- closed objects

module _ (stage : Stage) (world : World) (avoid : (n : ℕ) → IsAmong n stage.closed → MemoryAvoids n world.memory) where
  closed_after : (n : ℕ) → IsAmong n stage.closed → (count : ℕ) (run last : Run) → IsClosedIn n stage.scene.objects run → Beside stage.scene world [] count run last → IsClosedIn n stage.scene.objects last
  closed_after n c zero run last h steps = subst (IsClosedIn n stage.scene.objects) steps h
  closed_after n c (suc count) run last h (middle, pure, among, more) =
      closed_after n c count middle last (run_clear n stage.scene world (avoid n c) [] run h (went world middle) among).0 more

  -- what such a tree comes to is no pointer to one
  pub result_avoids : (run : Run) → IsPure run → ((n : ℕ) → IsAmong n stage.closed → IsClosedIn n stage.scene.objects run) → (found : Computed) → computed stage.scene world run ≡ Some found
      → (n : ℕ) → IsAmong n stage.closed → ResultAvoids n found.result
  result_avoids run pure closed found e n c = by_either (settles stage.scene world [] run pure)
    where
      by_either : ComesTo stage.scene world [] run ⊎ FailsBeside stage.scene world [] run → ResultAvoids n found.result
      by_either (inl h) =
          subst (λ (x : Computed). ResultAvoids n x.result) (sym (some_is_some found h.found (sym e ∙ h.is)))
          (closed_after n c h.count run (done (kind_of_run run) h.found.result []) (closed n c) h.steps)
      by_either (inr f) = let met = undefined_meets stage.scene world [] run pure f found e in absurd (true≢false (sym met.2))
