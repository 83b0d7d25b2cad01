-- The events that are found, and those to come.
use Rattle.std.proofs.Common.{◌≡◌, ℕ, zero, suc, ◌+◌, ◌-◌, ◌<◌, ◌≤◌, List, [], ◌∷◌, ◌++◌, drop, length, nat_le, refl, sym, ap, ap₂, subst, ◌∙◌, append_assoc, arith}
use Rattle.std.specs.List.{prefix_len}
use Rattle.std.proofs.lemmas.List.{drop_all, drop-drop, length-drop}
use Rattle.dm_token.specs.declared.unit.Read.{Read}
use Rattle.dm_mentions.specs.declared.events.Event.{Event}
use Rattle.dm_mentions.specs.declared.events.Event.TheVariants.{Defined}
use Rattle.dm_mentions.specs.Mentions.{undefined_from, events_from}

-- how many `#undef`s are read before the next definition, behind so many
abbrev here : ℕ → List ℕ → ℕ
here defined counts = prefix_len (λ count. nat_le count defined) counts

events-Defined : (defined undefined : ℕ) (read : Read) (reads : List Read) (counts : List ℕ)
    → events_from defined undefined (read ∷ reads) counts
    ≡ undefined_from undefined (here defined counts) ++ Defined defined ∷ events_from (defined + 1) (undefined + here defined counts) reads (drop (here defined counts) counts)
unfolding events_from
events-Defined defined undefined read reads counts = refl

events-none : (defined undefined : ℕ) (counts : List ℕ) → events_from defined undefined [] counts ≡ undefined_from undefined (length counts)
unfolding events_from
events-none defined undefined counts = refl

read-at : (reads : List Read) (n : ℕ) → n < length reads → (read : Read) × (drop n reads ≡ read ∷ drop (suc n) reads)
read-at [] n few = absurd (omega (arith, few))
read-at (read ∷ reads) zero few = (read, refl)
read-at (read ∷ reads) (suc n) few = read-at reads n (omega (arith, few))

module _ (found : List Event) (reads : List Read) (counts : List ℕ) (all : List Event) (defined undefined : ℕ) (is : found ++ events_from defined undefined (drop defined reads) (drop undefined counts) ≡ all) where
  -- with one more definition, and what stands before it
  pub one-more : (more most : List Event) (end : ℕ) → defined < length reads → end ≡ undefined + here defined (drop undefined counts)
      → more ≡ found ++ undefined_from undefined (end - undefined) → most ≡ more ++ Defined defined ∷ []
      → most ++ events_from (defined + 1) end (drop (defined + 1) reads) (drop end counts) ≡ all
  one-more more most end few ends before behind =
      let left = drop undefined counts in
      let count = here defined left in
      let counted : end - undefined ≡ count = omega (arith, ends) in
      let next = read-at reads defined few in
      let after : suc defined ≡ defined + 1 = omega arith in
      let rest = events_from (defined + 1) end (drop (defined + 1) reads) (drop end counts) in
      let same : rest ≡ events_from (defined + 1) (undefined + count) (drop (defined + 1) reads) (drop count left) =
      ap (λ n. events_from (defined + 1) n (drop (defined + 1) reads) (drop n counts)) ends
      ∙ ap (λ behind. events_from (defined + 1) (undefined + count) (drop (defined + 1) reads) behind) (sym (drop-drop count undefined counts)) in
      ap (λ items. items ++ rest) (behind ∙ ap (λ items. items ++ Defined defined ∷ []) (before ∙ ap (λ n. found ++ undefined_from undefined n) counted))
      ∙ append_assoc (found ++ undefined_from undefined count) (Defined defined ∷ []) rest
      ∙ append_assoc found (undefined_from undefined count) (Defined defined ∷ rest)
      ∙ ap (λ tail. found ++ (undefined_from undefined count ++ Defined defined ∷ tail)) same
      ∙ ap (λ tail. found ++ tail) (sym (ap (λ reads. events_from defined undefined reads left) (next.1 ∙ ap (λ n. next.0 ∷ drop n reads) after) ∙ events-Defined defined undefined next.0 (drop (defined + 1) reads) left))
      ∙ is

  -- the end
  pub at-the-end : (last : List Event) → length reads ≤ defined → last ≡ found ++ undefined_from undefined (length counts - undefined) → last ≡ all
  at-the-end last many ends =
      ends ∙ ap (λ n. found ++ undefined_from undefined n) (sym (length-drop undefined counts))
      ∙ ap (λ tail. found ++ tail) (sym (ap (λ reads. events_from defined undefined reads (drop undefined counts)) (drop_all defined reads many) ∙ events-none defined undefined (drop undefined counts)))
      ∙ is
