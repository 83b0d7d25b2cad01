use Rattle.std.proofs.Common.{◌≡◌, ◌∷◌, ◌-◌, ◌<◌, ◌≤◌, ℕ, zero, suc, List, Some, None, Err, Ok, length, take, drop, slice_range, sym, ap, ◌∙◌, subst, refl, arith}
use Rattle.dm_unit.specs.States.{limit}
use Rattle.dm_unit.specs.Loaders.{shown}
use Rattle.dm_unit.specs.Readings.{ReadsPart, ReadsFile, Enters, begun, within}
use Rattle.dm_unit.specs.Lines.{parts_of}
use Rattle.dm_token.specs.LimitNumbers as limits
use Rattle.dm_token.specs.declared.token.PpToken.{PpToken}
use Rattle.dm_unit.specs.declared.section.Section.{Section}
use Rattle.dm_unit.specs.Views.{state_of, Does, Stops, stop_of, part_of, held_tokens}
use Rattle.dm_unit.proofs.FileLemmas.{held-grows}
use Rattle.dm_unit.proofs.LeaveLemmas.{leaves-trans, leaves-stop, faultless, none-memory}
use Rattle.dm_unit.proofs.ReadingLemmas.{enters-none, enters-passed, enters-file}
use Rattle.dm_unit.proofs.UnitLemmas.{serves-early, serves-late, serves-still, held-file, tokens-grow, unless-memory, stops-unless, does-map, part-none, part-some, part-stop, part-inside, slice-left, loop-goes, loop-stops, loop-ends, loop-ends-stops, whole-ends, whole-stops}
use Rattle.dm_unit.proofs.+files.Goals as goal

less : (n : ℕ) → (n ≡ 0 → ⊥) → suc (n - 1) ≡ n
less n some = by n refl
  where
    by : (m : ℕ) → n ≡ m → suc (n - 1) ≡ n
    by zero e = absurd (some e)
    by (suc m) e = omega (arith, e)

pub enter-returns-then-more-eq0-clause-leads : goal.enter-returns-then-more-eq0-clause-leads
enter-returns-then-more-eq0-clause-leads g t c = λ setting serves.
    let state = state_of c.args.reader.now (shown c.args.loader.now) in
    subst (Stops (Enters setting c.args.more c.args.file state)) (ap (λ main. limit limits.nested_files main) serves.main_is ∙ sym c.passed.ensures.stop)
    (subst (λ n. Enters setting n c.args.file state (Err (limit limits.nested_files setting.main))) (sym c.if-more-eq0.true) (enters-none setting c.args.file state))

pub enter-returns-then-is_passed-clause-leads : goal.enter-returns-then-is_passed-clause-leads
enter-returns-then-is_passed-clause-leads g t c = λ setting serves.
    let state = state_of c.args.reader.now (shown c.args.loader.now) in
    subst (λ n. Enters setting n c.args.file state (Ok state)) (less c.args.more c.if-more-eq0.false)
    (enters-passed setting (c.args.more - 1) c.args.file state (sym (c.is_passed.ensures (shown c.args.loader.now)) ∙ c.if-is_passed.true))

pub enter-returns-clause-leads : goal.enter-returns-clause-leads
enter-returns-clause-leads g t c = λ setting serves.
    let state = state_of c.args.reader.now (shown c.args.loader.now) in
    let after = state_of c.read_file.new.reader (shown c.read_file.new.loader) in
    subst (λ n. Does (Enters setting n c.args.file state) c.read_file.result after) (less c.args.more c.if-more-eq0.false)
    (does-map (ReadsFile setting (Enters setting (c.args.more - 1)) c.args.file state) (Enters setting (suc (c.args.more - 1)) c.args.file state) c.read_file.result after
    (λ outcome reads. enters-file setting (c.args.more - 1) c.args.file state outcome (sym (c.is_passed.ensures (shown c.args.loader.now)) ∙ c.if-is_passed.false) reads)
    (c.read_file.ensures.leads setting serves))

pub read_and_enter-returns-in-Ok-None-clause-leads : goal.read_and_enter-returns-in-Ok-None-clause-leads
read_and_enter-returns-in-Ok-None-clause-leads g t c = λ setting serves.
    part-none setting c.args.file c.args.more (part_of (slice_range (held_tokens c.args.loader.now c.args.file) c.args.from c.args.to)) (state_of c.args.reader.now (shown c.args.loader.now))
    (state_of c.read_part.new.reader (shown c.read_part.new.loader)) c.in-Ok-None.field-0 c.in-Ok-None.field-0-is (c.in-Ok-None.ensures.leads setting serves)

pub read_and_enter-returns-in-Ok-Some-clause-leads : goal.read_and_enter-returns-in-Ok-Some-clause-leads
read_and_enter-returns-in-Ok-Some-clause-leads g t c = λ setting serves.
    let part = part_of (slice_range (held_tokens c.args.loader.now c.args.file) c.args.from c.args.to) in
    let state = state_of c.args.reader.now (shown c.args.loader.now) in
    let middle = state_of c.read_part.new.reader (shown c.read_part.new.loader) in
    let after = state_of c.enter.new.reader (shown c.enter.new.loader) in
    let told = g.F.Folder.files c.args.folder.now in
    unless-memory (ReadsPart setting (Enters setting c.args.more) c.args.file part state) c.enter.result after (λ not.
    part-some setting c.args.file c.args.more c.in-Ok-Some.included part state middle after c.in-Ok-Some.field-0 c.enter.result c.in-Ok-Some.field-0-is
    (c.in-Ok-Some.ensures.leads setting
    (serves-early told c.args.unit.now c.args.reader.now.main c.args.loader.now c.read_part.new.loader c.enter.new.loader (stop_of c.enter.result) setting (c.enter.ensures.leaves.knows not) (c.enter.ensures.leaves.grows not).begins serves))
    (c.enter.ensures.leads setting
    (serves-late told (g.F.Folder.files c.read_part.new.folder) c.args.unit.now c.args.reader.now.main c.read_part.new.reader.main c.args.loader.now c.read_part.new.loader c.enter.new.loader (stop_of c.enter.result) setting
    c.in-Ok-Some.ensures.leaves.files_stay c.in-Ok-Some.ensures.leaves.served (c.in-Ok-Some.ensures.leaves.knows none-memory) c.enter.ensures.leaves.knows c.in-Ok-Some.ensures.follows.main serves)))

pub read_and_enter-returns-in-Ok-Some-clause-leaves : goal.read_and_enter-returns-in-Ok-Some-clause-leaves
read_and_enter-returns-in-Ok-Some-clause-leaves g t c =
    leaves-trans (g.F.Folder.files c.args.folder.now) (g.F.Folder.files c.read_part.new.folder) (g.F.Folder.files c.enter.new.folder)
    (g.F.Folder.room c.args.folder.now) (g.F.Folder.room c.read_part.new.folder) (g.F.Folder.room c.enter.new.folder)
    (g.F.Folder.faults c.args.folder.now) (g.F.Folder.faults c.read_part.new.folder) (g.F.Folder.faults c.enter.new.folder)
    c.args.loader.now c.read_part.new.loader c.enter.new.loader (stop_of c.enter.result) c.in-Ok-Some.ensures.leaves c.enter.ensures.leaves

pub read_and_enter-returns-in-Err-clause-leads : goal.read_and_enter-returns-in-Err-clause-leads
read_and_enter-returns-in-Err-clause-leads g t c = λ setting serves.
    part-stop setting c.args.file c.args.more (part_of (slice_range (held_tokens c.args.loader.now c.args.file) c.args.from c.args.to)) (state_of c.args.reader.now (shown c.args.loader.now))
    c.in-Err.stop (c.in-Err.ensures.leads setting serves)

pub read_file-loop-at-preserved : goal.read_file-loop-at-preserved
read_file-loop-at-preserved g t c =
    let inv = c.loop-at.invariant in
    let done = c.in-Ok.ensures in
    let t0 = held_tokens c.args.loader.now c.args.file in
    let t1 = held_tokens c.loop-at.loader c.args.file in
    let tokens = c.tokens_of-in-loop-at.result.now in
    let at = c.loop-at.at in
    let n = c.part_length.result in
    let told = g.F.Folder.files c.args.folder.now in
    record {
      counted = done.follows.counted;
      few = done.follows.few;
      rises = let early = inv.rises in let late = done.follows.rises in omega (arith, early, late);
      main = done.follows.main ∙ inv.main;
      room = done.room;
      held = held-grows None c.loop-at.loader c.read_and_enter.new.loader c.args.file (done.leaves.grows none-memory) inv.held;
      same = tokens-grow None c.loop-at.loader c.read_and_enter.new.loader c.args.file (done.leaves.grows none-memory) inv.held ∙ inv.same;
      inside = part-inside t0 t1 tokens at n inv.same c.tokens_of-in-loop-at.ensures (subst (λ (ts : List PpToken). at < length ts) (c.tokens_of.ensures ∙ sym c.tokens_of-in-loop-at.ensures) c.loop-at-test.true) (subst (λ (ts : List PpToken). n ≤ length ts) (slice-left at tokens) c.part_length.ensures.inside);
      leads = λ setting outcome serves rest.
          let early = serves-early told c.args.unit.now c.args.reader.now.main c.args.loader.now c.loop-at.loader c.read_and_enter.new.loader None setting (done.leaves.knows none-memory) (done.leaves.grows none-memory).begins serves in
          let late = serves-late told (g.F.Folder.files c.loop-at.folder) c.args.unit.now c.args.reader.now.main c.loop-at.reader.main c.args.loader.now c.loop-at.loader c.read_and_enter.new.loader None setting
          inv.leaves.files_stay inv.leaves.served (inv.leaves.knows none-memory) done.leaves.knows inv.main serves in
          loop-goes setting c.args.more c.args.file t0 t1 tokens at n (begun c.args.file (state_of c.args.reader.now (shown c.args.loader.now))) (state_of c.loop-at.reader (shown c.loop-at.loader))
          (state_of c.read_and_enter.new.reader (shown c.read_and_enter.new.loader)) outcome inv.same c.tokens_of-in-loop-at.ensures (subst (λ (ts : List PpToken). parts_of ts ≡ part_of (take n ts) ∷ parts_of (drop n ts)) (slice-left at tokens) c.part_length.ensures.parts)
          (λ other reads. inv.leads setting other early reads) (done.leads setting late) rest;
      leaves = leaves-trans (g.F.Folder.files c.args.folder.now) (g.F.Folder.files c.loop-at.folder) (g.F.Folder.files c.read_and_enter.new.folder)
          (g.F.Folder.room c.args.folder.now) (g.F.Folder.room c.loop-at.folder) (g.F.Folder.room c.read_and_enter.new.folder)
          (g.F.Folder.faults c.args.folder.now) (g.F.Folder.faults c.loop-at.folder) (g.F.Folder.faults c.read_and_enter.new.folder)
          c.args.loader.now c.loop-at.loader c.read_and_enter.new.loader None inv.leaves done.leaves;
    }

pub read_file-returns-in-Err-clause-leads : goal.read_file-returns-in-Err-clause-leads
read_file-returns-in-Err-clause-leads g t c = λ setting serves.
    let inv = c.loop-at.invariant in
    let state = state_of c.args.reader.now (shown c.args.loader.now) in
    let told = g.F.Folder.files c.args.folder.now in
    stops-unless (ReadsFile setting (Enters setting c.args.more) c.args.file state) c.in-Err.stop (λ not.
    let early = serves-early told c.args.unit.now c.args.reader.now.main c.args.loader.now c.loop-at.loader c.read_and_enter.new.loader (Some c.in-Err.stop) setting (c.in-Err.ensures.leaves.knows not) (c.in-Err.ensures.leaves.grows not).begins serves in
    let late = serves-late told (g.F.Folder.files c.loop-at.folder) c.args.unit.now c.args.reader.now.main c.loop-at.reader.main c.args.loader.now c.loop-at.loader c.read_and_enter.new.loader (Some c.in-Err.stop) setting
    inv.leaves.files_stay inv.leaves.served (inv.leaves.knows none-memory) c.in-Err.ensures.leaves.knows inv.main serves in
    whole-stops setting c.args.more c.args.loader.now c.args.file state c.in-Err.stop refl (held-file setting told c.args.unit.now c.args.reader.now.main c.args.loader.now c.read_and_enter.new.loader _ c.args.file serves c.requires.held)
    (loop-stops setting c.args.more c.args.file (held_tokens c.args.loader.now c.args.file) (held_tokens c.loop-at.loader c.args.file) c.tokens_of-in-loop-at.result.now c.loop-at.at c.part_length.result
    (begun c.args.file state) (state_of c.loop-at.reader (shown c.loop-at.loader)) c.in-Err.stop inv.same c.tokens_of-in-loop-at.ensures
    (subst (λ (ts : List PpToken). parts_of ts ≡ part_of (take c.part_length.result ts) ∷ parts_of (drop c.part_length.result ts)) (slice-left c.loop-at.at c.tokens_of-in-loop-at.result.now) c.part_length.ensures.parts)
    (λ other reads. inv.leads setting other early reads) (c.in-Err.ensures.leads setting late)))

pub read_file-returns-in-Err-clause-leaves : goal.read_file-returns-in-Err-clause-leaves
read_file-returns-in-Err-clause-leaves g t c =
    leaves-trans (g.F.Folder.files c.args.folder.now) (g.F.Folder.files c.loop-at.folder) (g.F.Folder.files c.read_and_enter.new.folder)
    (g.F.Folder.room c.args.folder.now) (g.F.Folder.room c.loop-at.folder) (g.F.Folder.room c.read_and_enter.new.folder)
    (g.F.Folder.faults c.args.folder.now) (g.F.Folder.faults c.loop-at.folder) (g.F.Folder.faults c.read_and_enter.new.folder)
    c.args.loader.now c.loop-at.loader c.read_and_enter.new.loader (Some c.in-Err.stop) c.loop-at.invariant.leaves c.in-Err.ensures.leaves

pub read_file-returns-in-Ok-end-clause-leads : goal.read_file-returns-in-Ok-end-clause-leads
read_file-returns-in-Ok-end-clause-leads g t c = λ setting serves.
    let inv = c.loop-at.invariant in
    let state = state_of c.args.reader.now (shown c.args.loader.now) in
    let read = state_of c.loop-at.reader (shown c.loop-at.loader) in
    let told = g.F.Folder.files c.args.folder.now in
    whole-ends setting c.args.more c.args.loader.now c.args.file state read _ refl (held-file setting told c.args.unit.now c.args.reader.now.main c.args.loader.now c.loop-at.loader _ c.args.file serves c.requires.held)
    (loop-ends setting c.args.more c.args.file (held_tokens c.args.loader.now c.args.file) (held_tokens c.loop-at.loader c.args.file) c.tokens_of.result.now c.loop-at.at
    (begun c.args.file state) read (Ok read) inv.same c.tokens_of.ensures (let few = c.loop-at-test.false in omega (arith, few))
    (λ other reads. inv.leads setting other serves reads) (c.in-Ok-end.ensures.leads (shown c.loop-at.loader)))
    (ap (λ (sections : List Section). within sections read) c.replace-outer.ensures.value)

pub read_file-returns-in-Err-end-clause-leads : goal.read_file-returns-in-Err-end-clause-leads
read_file-returns-in-Err-end-clause-leads g t c = λ setting serves.
    let inv = c.loop-at.invariant in
    let state = state_of c.args.reader.now (shown c.args.loader.now) in
    let told = g.F.Folder.files c.args.folder.now in
    whole-stops setting c.args.more c.args.loader.now c.args.file state c.in-Err-end.stop refl (held-file setting told c.args.unit.now c.args.reader.now.main c.args.loader.now c.loop-at.loader _ c.args.file serves c.requires.held)
    (loop-ends-stops setting c.args.more c.args.file (held_tokens c.args.loader.now c.args.file) (held_tokens c.loop-at.loader c.args.file) c.tokens_of.result.now c.loop-at.at
    (begun c.args.file state) (state_of c.loop-at.reader (shown c.loop-at.loader)) c.in-Err-end.stop inv.same c.tokens_of.ensures (let few = c.loop-at-test.false in omega (arith, few))
    (λ other reads. inv.leads setting other (serves-still _ _ _ _ _ _ setting serves) reads) (c.in-Err-end.ensures.leads (shown c.loop-at.loader)))

pub read_file-returns-in-Err-end-clause-leaves : goal.read_file-returns-in-Err-end-clause-leaves
read_file-returns-in-Err-end-clause-leaves g t c =
    leaves-stop (g.F.Folder.files c.args.folder.now) (g.F.Folder.files c.loop-at.folder) (g.F.Folder.room c.args.folder.now) (g.F.Folder.room c.loop-at.folder)
    (g.F.Folder.faults c.args.folder.now) (g.F.Folder.faults c.loop-at.folder) c.args.loader.now c.loop-at.loader (Some c.in-Err-end.stop)
    (faultless c.in-Err-end.stop c.in-Err-end.ensures.faultless) c.loop-at.invariant.leaves
