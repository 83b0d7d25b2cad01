-- Files that are there stay there when others are written.
use Rattle.std.proofs.Common.{◌∙◌, sym, subst, refl, arith, take, Option}
use Rattle.std.proofs.lemmas.Option.{slice_get_read}
use Rattle.dm_io.specs.Files.{Files, HasFile, MayHaveSpoiled}
use Rattle.dm_edit.specs.declared.plan.Changed.{Changed}
use Rattle.dm_apply.proofs.CommitLemmas.{files_stay, written-more}
use Rattle.dm_apply.proofs.writing.write_files.Goals as goal

pub write-requires-clause-there : goal.write-requires-clause-there
write-requires-clause-there g c =
    let told = g.F.Folder.files c.args.folder.now in
    let file = c.index-files-at.result in
    let there = subst (λ (one : Changed). HasFile told one.name) (sym c.index-files-at.is) (c.requires.there c.loop-at.at file c.loop-at-test.true) in
    subst (λ (now : Option Files). HasFile now file.name) (sym c.loop-at.invariant.written) (files_stay told (take c.loop-at.at c.args.files.now) file.name there)

pub returns-then-not-write-clause-spoiled : goal.returns-then-not-write-clause-spoiled
returns-then-not-write-clause-spoiled g c =
    let file = c.index-files-at.result in (
      file,
      slice_get_read c.args.files.now _ c.loop-at.at file refl c.loop-at-test.true c.index-files-at.is,
      subst (λ (now : Option Files). MayHaveSpoiled now (g.F.Folder.files c.write.new.self) file.name) c.loop-at.invariant.written c.if-not-write.ensures.spoiled,
    )

pub loop-at-preserved : goal.loop-at-preserved
loop-at-preserved g c =
    let inv = c.loop-at.invariant in
    let file = c.index-files-at.result in
    record {
      written = written-more (g.F.Folder.files c.args.folder.now) (g.F.Folder.files c.loop-at.folder) (g.F.Folder.files c.write.new.self) c.args.files.now c.loop-at.at file c.items.result.now
          c.loop-at-test.true c.index-files-at.is c.items.ensures inv.written c.if-not-write.ensures.written;
      rooms = λ other. c.write.ensures.rooms_stay other ∙ inv.rooms other;
      later = omega (arith, inv.later, c.write.ensures.later);
    }
