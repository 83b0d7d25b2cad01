-- The first readings are those of the loader, each edit keeps that, and what is edited is written.
use Rattle.std.proofs.Common.{◌≡◌, inr, [], length, Option, Some, unwrap_or, refl, sym, ap, ◌∙◌, subst}
use Rattle.dm_io.specs.Files.{Files}
use Rattle.dm_search.specs.Fresh.{fresh}
use Rattle.dm_planning.proofs.PlanLemmas.{all-written}
use Rattle.dm_planning.specs.Plans.{subjects_of}
use Rattle.dm_last.specs.Last.{IsReadOver}
use Rattle.dm_last.proofs.EditedLemmas.{IsEditedTo, judged-to}
use Rattle.dm_last.proofs.FileLemmas.{files_after, with-told}
use Rattle.dm_last.proofs.OverLemmas.{fresh-loader, over, over-others, project-read}
use Rattle.dm_last.proofs.laws.last_readings_are_of_the_files.Goals as goal

pub returns : goal.returns
returns c before after units count first last plan reads is limits written =
    let begun = c.first_readings_are_current.ensures before units fresh first.loaded first.readings (length units) fresh-loader (reads.1 before refl) in
    let to_first : IsEditedTo before units [] first = record { loader = begun.0; current = begun.1; served = λ name. inr (begun.2.served name) } in
    let to =
    judged-to before units (λ file bytes kept news known new of held are again. c.readings_again_are_current.ensures before file bytes units kept news known new of held are again)
    (λ file bytes kept known new of held are follows behind. c.readings_stay_where_bytes_are_put_back.ensures before file bytes units kept known new of held are follows behind)
    first last (subjects_of first) plan.entries to_first is.judged in
    let writable = all-written (Some before) units first last (subjects_of first) plan.entries is.judged in
    let same : files_after before plan.files ≡ after = ap (λ (told : Option Files). unwrap_or told before) (sym (with-told before plan.files) ∙ written) in
    subst (λ (files : Files). IsReadOver files units last) same (record {
      loader = to.loader;
      over = over last.loaded to.loader is.numbered plan.entries writable plan.files is.changed before to.served;
      reads = project-read (files_after before plan.files) last.loaded units last.readings
          (over-others before (files_after before plan.files) last.loaded
          (λ unit reading read. c.readings_hang_on_the_loader.ensures before (files_after before plan.files) unit last.loaded reading read to.loader)
          units last.readings to.current)
          limits;
    })
