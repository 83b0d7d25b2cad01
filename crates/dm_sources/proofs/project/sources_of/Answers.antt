-- A C file alone, and a manifest.
use Rattle.std.proofs.Common.{◌≤◌, length, rules, subst, arith, IfOk}
use Rattle.dm_io.specs.Answers.{IsAnswer, HasAtMost}
use Rattle.dm_token.specs.Limits.{source_length_limit}
use Rattle.dm_sources.specs.Sources.{HasManifest, NamesFile, NamesManifest, ManifestGives}
use Rattle.dm_sources.proofs.Short.{short-sources}
use Rattle.dm_sources.proofs.SourceSteps.{HasText-answer, sought-alone, sought-manifest}
use Rattle.dm_sources.proofs.project.sources_of.Goals as goal

pub returns-then-ends_with-clause-sought : goal.returns-then-ends_with-clause-sought
returns-then-ends_with-clause-sought g c =
    let names : NamesFile c.args.project.now = (search rules, search rules) in
    sought-alone (g.F.Folder.files c.args.folder.now) c.args.project.now _ _ c.file_alone.result names c.file_alone.ensures.sought

pub returns-in-Bytes-clause-sought : goal.returns-in-Bytes-clause-sought
returns-in-Bytes-clause-sought g c =
    let names : NamesManifest c.args.project.now = (search rules, search rules) in
    let answer = subst (IsAnswer (g.F.Folder.files c.args.folder.now) c.args.project.now c.source_length_limit.result) c.in-Bytes.is c.in_ok-bytes.ensures.answer in
    let bounded : length c.in-Bytes.bytes ≤ c.source_length_limit.result = subst (HasAtMost c.source_length_limit.result) c.in-Bytes.is c.in_ok-bytes.ensures.bounded in
    let short : length c.in-Bytes.bytes ≤ source_length_limit = omega arith in
    let has : HasManifest (g.F.Folder.files c.args.folder.now) c.args.project.now c.in-Bytes.bytes =
    (names, HasText-answer (g.F.Folder.files c.args.folder.now) c.args.project.now c.in-Bytes.bytes c.source_length_limit.result answer, short) in
    sought-manifest (g.F.Folder.files c.args.folder.now) c.args.project.now c.in-Bytes.bytes _ _ c.listed.result has
    (subst (λ bytes. IfOk c.listed.result (ManifestGives bytes)) c.items.ensures c.listed.ensures.sought)

pub returns-then-ends_with-clause-short : goal.returns-then-ends_with-clause-short
returns-then-ends_with-clause-short g c = short-sources c.file_alone.result c.file_alone.ensures.lawful

pub returns-in-Bytes-clause-short : goal.returns-in-Bytes-clause-short
returns-in-Bytes-clause-short g c = short-sources c.listed.result c.listed.ensures.lawful
