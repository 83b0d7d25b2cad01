-- The new readings are well typed, and keep the limits, and what indexes know of them is known.
use Rattle.std.proofs.Common.{◌≡◌, ℕ, ◌≤◌, List, length, All, Option, Some, IfSome, sym, ◌∙◌, subst, arith}
use Rattle.dm_meaning.specs.Replaced.{Zipped}
use Rattle.dm_reading.specs.declared.reading.Reading.{Reading}
use Rattle.dm_readings.specs.Again.{AreReaders, put_in}
use Rattle.dm_readings.specs.Units.{IsTyped, KeepsLimits}
use Rattle.dm_rules.specs.Tables.{AreTables}
use Rattle.dm_meanings.specs.Named.{AreNamesOf}
use Rattle.dm_subjects.specs.Tables.{AreKnown, AreNew, HaveNames, HaveTables, IsNew}
use Rattle.dm_planning.specs.Steps.{AreGood}
use Rattle.dm_planning.proofs.JudgeLemmas.{HasTyped, known-length, known-put, new-length, new-typed, put-length, readers-length}
use Rattle.dm_planning.proofs.editing.read_edited.Goals as goal

pub new_known-requires-clause-news : goal.new_known-requires-clause-news
new_known-requires-clause-news g c =
    let kept = c.items.result.now in
    let news = c.in-Ok.news in
    let typed = c.in-Ok.ensures.well_typed (subst (All IsTyped) (sym c.items.ensures) c.requires.good.typed) in
    subst (All HasTyped) (sym c.items-in-Ok-2.ensures) (new-typed kept news (readers-length c.args.change.now.definition.place.file kept news c.in-Ok.ensures.readers) typed)

pub returns-in-Some-clause-good : goal.returns-in-Some-clause-good
returns-in-Some-clause-good g c =
    let kept = c.args.kept.now in
    let news = c.in-Ok.news in
    let typed = c.in-Ok.ensures.well_typed (subst (All IsTyped) (sym c.items.ensures) c.requires.good.typed) in
    subst (AreGood c.args.units.now) (sym c.put_in.ensures) (record {
      paired = put-length kept news ∙ c.requires.good.paired;
      typed = subst (λ ks. All IsTyped (put_in ks news)) c.items.ensures typed;
      limits = subst (λ ks. KeepsLimits (put_in ks news)) c.items.ensures c.in-Ok.ensures.limits;
    })

-- what holds of an item that is there
of-some : {A : Type 0} (found : Option A) (one : A) (P : A → Type 0) → found ≡ Some one → IfSome found P → P one
of-some found one P is holds = subst (λ other. IfSome other P) is holds

-- how many there are
put-inside : {A : Type 0} (R : Reading → A → Type 0) (file : ℕ) (kept : List Reading) (known : List A) (news : List (Option Reading)) (new : List (Option A)) → Zipped R kept known → Zipped (IsNew R) news new
    → AreReaders file kept news → length new ≤ length known
put-inside R file kept known news new are given readers = omega (arith, known-length R kept known are, new-length R news new given, readers-length file kept news readers)

pub put_over-requires : goal.put_over-requires
put_over-requires g c =
    let news = c.in-Ok.news in
    let known = subst (λ readings. AreKnown readings c.new_known.new.known) c.items-in-Ok.ensures c.in_ok-found-in-Ok.ensures.known in
    let new = subst (λ these. AreNew these c.in-Some.new) c.items-in-Ok-2.ensures (of-some c.in_ok-found-in-Ok.found c.in-Some.new (AreNew c.items-in-Ok-2.result.now) c.in-Some.is c.in_ok-found-in-Ok.ensures.new) in
    put-inside AreTables c.args.change.now.definition.place.file c.args.kept.now c.new_known.new.known.tables.items news c.in-Some.new.tables.items known.0 new.0
    (subst (λ kept. AreReaders c.args.change.now.definition.place.file kept news) c.items.ensures c.in-Ok.ensures.readers)

pub put_over-requires-in-Ok : goal.put_over-requires-in-Ok
put_over-requires-in-Ok g c =
    let news = c.in-Ok.news in
    let known = subst (λ readings. AreKnown readings c.new_known.new.known) c.items-in-Ok.ensures c.in_ok-found-in-Ok.ensures.known in
    let new = subst (λ these. AreNew these c.in-Some.new) c.items-in-Ok-2.ensures (of-some c.in_ok-found-in-Ok.found c.in-Some.new (AreNew c.items-in-Ok-2.result.now) c.in-Some.is c.in_ok-found-in-Ok.ensures.new) in
    put-inside AreNamesOf c.args.change.now.definition.place.file c.args.kept.now c.new_known.new.known.names.items news c.in-Some.new.names.items known.1 new.1
    (subst (λ kept. AreReaders c.args.change.now.definition.place.file kept news) c.items.ensures c.in-Ok.ensures.readers)

pub returns-in-Some-clause-known : goal.returns-in-Some-clause-known
returns-in-Some-clause-known g c =
    let kept = c.args.kept.now in
    let news = c.in-Ok.news in
    let known = subst (λ readings. AreKnown readings c.new_known.new.known) c.items-in-Ok.ensures c.in_ok-found-in-Ok.ensures.known in
    let new = subst (λ these. AreNew these c.in-Some.new) c.items-in-Ok-2.ensures (of-some c.in_ok-found-in-Ok.found c.in-Some.new (AreNew c.items-in-Ok-2.result.now) c.in-Some.is c.in_ok-found-in-Ok.ensures.new) in (
      subst (λ readings. HaveTables readings c.put_over.new.items.items) (sym c.put_in.ensures)
          (subst (HaveTables (put_in kept news)) (sym c.put_over.ensures) (known-put AreTables kept c.new_known.new.known.tables.items news c.in-Some.new.tables.items known.0 new.0)),
      subst (λ readings. HaveNames readings c.put_over-in-Ok.new.items.items) (sym c.put_in.ensures)
          (subst (HaveNames (put_in kept news)) (sym c.put_over-in-Ok.ensures) (known-put AreNamesOf kept c.new_known.new.known.names.items news c.in-Some.new.names.items known.1 new.1)),
    )
