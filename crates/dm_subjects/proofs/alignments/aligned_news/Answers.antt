-- One unit after another.
use Rattle.std.proofs.Common.{rules, Bool, true, false, not, ◌≡◌, ◌<◌, ◌≤◌, ◌+◌, ◌∷◌, [], List, Option, length, refl, sym, ap, ◌∙◌, subst, arith, length-append}
use Rattle.std.proofs.lemmas.Bool.{false≢true}
use Rattle.std.proofs.lemmas.Option.{slice_get_read}
use Rattle.dm_reading.specs.declared.reading.Reading.{Reading}
use Rattle.dm_readings.specs.Units.{IsTyped}
use Rattle.dm_rules.specs.declared.index.Index.{Index}
use Rattle.dm_rules.specs.Indexes.{readings_of}
use Rattle.dm_rules.specs.Tables.{AreTables}
use Rattle.dm_rules.specs.declared.tables.Tables.{Tables}
use Rattle.dm_names.specs.declared.names.Names.{Names}
use Rattle.dm_meanings.specs.Named.{AreNamesOf}
use Rattle.dm_align.proofs.StepLemmas.{AreSoFar, differ, one-more, zipped-length}
use Rattle.dm_subjects.specs.Alignments.{IsAligned}
use Rattle.dm_subjects.specs.Tables.{IsNew}
use Rattle.dm_subjects.proofs.TableLemmas.{all-mapped, all-related, count-mapped, slice-mapped, so-far-pushed}
use Rattle.dm_subjects.proofs.alignments.aligned_news.Goals as goal

abbrev reading_of : Index → Reading
reading_of one = one.reading.now

refused : (b : Bool) → not b ≡ true → b ≡ false
refused true e = sym e
refused false e = refl

passed : (b : Bool) → not b ≡ false → b ≡ true
passed true e = refl
passed false e = sym e

pub returns-then-kept-news-clause-differs : goal.returns-then-kept-news-clause-differs
returns-then-kept-news-clause-differs c =
    λ z. c.if-kept-news.true (sym (count-mapped reading_of c.args.kept.now) ∙ zipped-length (IsAligned c.args.change.now) (readings_of c.args.kept.now) c.args.news.now z)

pub compared-requires-clause-old : goal.compared-requires-clause-old
compared-requires-clause-old c =
    let kept : List Index = c.args.kept.now in
    let i = c.loop-i.i in
    let inside : i < length kept = search rules in
    subst (λ (one : Index). IsTyped one.reading.now) (sym c.index-kept-i.is) (all-mapped IsTyped reading_of kept i c.index-kept-i.result inside c.requires.kept)

pub returns-clause-aligned : goal.returns-clause-aligned
returns-clause-aligned c =
    let kept : List Index = c.args.kept.now in
    let news : List (Option Reading) = c.args.news.now in
    let count = count-mapped reading_of kept in
    let same : length kept ≡ length news = search rules in
    let whole : length kept ≤ c.loop-i.i = search rules in
    all-related (IsAligned c.args.change.now) (readings_of kept) news c.loop-i.i (count ∙ same) (omega (arith, count, whole)) c.loop-i.invariant.aligned

pub returns-clause-known : goal.returns-clause-known
returns-clause-known c =
    let kept : List Index = c.args.kept.now in
    let news : List (Option Reading) = c.args.news.now in
    let many = c.loop-i.invariant.many in
    let named = c.loop-i.invariant.named in
    let same : length kept ≡ length news = search rules in
    let whole : length kept ≤ c.loop-i.i = search rules in
    let end : c.loop-i.i ≤ length kept = search rules in (
      all-related (IsNew AreTables) news c.loop-i.tables.items c.loop-i.i (omega (arith, many, same, whole, end)) (omega (arith, same, whole)) c.loop-i.invariant.tables,
      all-related (IsNew AreNamesOf) news c.loop-i.names.items c.loop-i.i (omega (arith, named, same, whole, end)) (omega (arith, same, whole)) c.loop-i.invariant.names,
    )

pub returns-then-not-one-clause-differs : goal.returns-then-not-one-clause-differs
returns-then-not-one-clause-differs c =
    let kept : List Index = c.args.kept.now in
    let news : List (Option Reading) = c.args.news.now in
    let i = c.loop-i.i in
    let here = slice-mapped reading_of kept i c.index-kept-i.result (slice_get_read kept (length kept) i c.index-kept-i.result refl (search rules) c.index-kept-i.is) in
    let there = slice_get_read news (length news) i c.index-news-i.result refl (search rules) c.index-news-i.is in
    let differs =
    differ (IsAligned c.args.change.now) (readings_of kept) news i (reading_of c.index-kept-i.result) c.index-news-i.result here there c.in_ok-one.one.is_aligned
    c.in_ok-one.ensures.aligned (refused c.in_ok-one.one.is_aligned c.if-not-one.true) in
    λ z. absurd (false≢true (differs.1 z))

pub loop-i-preserved : goal.loop-i-preserved
loop-i-preserved c =
    let kept : List Index = c.args.kept.now in
    let news : List (Option Reading) = c.args.news.now in
    let i = c.loop-i.i in
    let here = slice-mapped reading_of kept i c.index-kept-i.result (slice_get_read kept (length kept) i c.index-kept-i.result refl (search rules) c.index-kept-i.is) in
    let there = slice_get_read news (length news) i c.index-news-i.result refl (search rules) c.index-news-i.is in
    let tables : List (Option Tables) = c.loop-i.tables.items in
    let names : List (Option Names) = c.loop-i.names.items in
    let one = c.in_ok-one.one in
    let many = c.loop-i.invariant.many in
    let named = c.loop-i.invariant.named in
    let count = ap length c.in_ok-push.ensures.items ∙ length-append tables (one.tables ∷ []) in
    let named_count = ap length c.in_ok-push-2.ensures.items ∙ length-append names (one.names ∷ []) in
    record {
      aligned =
          one-more (IsAligned c.args.change.now) (readings_of kept) news i (reading_of c.index-kept-i.result) c.index-news-i.result here there one.is_aligned
          c.in_ok-one.ensures.aligned (passed c.in_ok-one.one.is_aligned c.if-not-one.false) c.loop-i.invariant.aligned;
      tables =
          subst (λ (all : List (Option Tables)). AreSoFar (IsNew AreTables) news all (i + 1)) (sym c.in_ok-push.ensures.items)
          (so-far-pushed (IsNew AreTables) news tables i c.index-news-i.result one.tables many c.loop-i.invariant.tables there c.in_ok-one.ensures.tables);
      names =
          subst (λ (all : List (Option Names)). AreSoFar (IsNew AreNamesOf) news all (i + 1)) (sym c.in_ok-push-2.ensures.items)
          (so-far-pushed (IsNew AreNamesOf) news names i c.index-news-i.result one.names named c.loop-i.invariant.names there c.in_ok-one.ensures.names);
      many = omega (arith, count, many);
      named = omega (arith, named_count, named);
    }
