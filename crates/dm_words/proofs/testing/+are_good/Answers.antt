-- What is found first, and whether the words behind it are good.
use Rattle.std.proofs.Common.{map, string_bytes, sym}
use Rattle.dm_words.proofs.FitLemmas.{fits-finds}
use Rattle.dm_words.proofs.RequestLemmas.{asks_at_end, asks_for_nothing, asks_too_much, asks_further, no_words, some_words}
use Rattle.dm_words.proofs.testing.+are_good.Goals as goal

pub returns-then-is_empty : goal.returns-then-is_empty
returns-then-is_empty t c =
    asks_at_end c.args.command c.args.found (map string_bytes c.args.words.now) c.fits.result
    (no_words string_bytes c.args.words.now c.is_empty.result c.is_empty.ensures c.if-is_empty.true) (fits-finds c.args.command c.args.found c.fits.result c.fits.ensures)

pub returns-in_default : goal.returns-in_default
returns-in_default t c =
    asks_for_nothing c.args.command c.args.found (map string_bytes c.args.words.now) (some_words string_bytes c.args.words.now c.is_empty.result c.is_empty.ensures c.if-is_empty.false)
    (sym c.in_default.ensures.part)

pub returns-in_default-with_part : goal.returns-in_default-with_part
returns-in_default-with_part t c =
    asks_too_much c.args.command c.args.found c.in-Some.part (map string_bytes c.args.words.now) (map string_bytes c.in-Some.behind.now)
    (some_words string_bytes c.args.words.now c.is_empty.result c.is_empty.ensures c.if-is_empty.false) (sym c.in-Some.ensures.part) c.in_default-with_part.ensures

pub returns : goal.returns
returns t c =
    asks_further c.args.command c.args.found c.in-Some.part (map string_bytes c.args.words.now) (map string_bytes c.in-Some.behind.now)
    (some_words string_bytes c.args.words.now c.is_empty.result c.is_empty.ensures c.if-is_empty.false) (sym c.in-Some.ensures.part)
    c.in-Some-with_part.more c.in-Some-with_part.ensures c.are_good.result c.are_good.ensures
