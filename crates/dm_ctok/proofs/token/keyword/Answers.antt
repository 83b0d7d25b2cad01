use Rattle.dm_ctok.proofs.RowLemmas.{found_keyword}
use Rattle.dm_ctok.proofs.token.keyword.Goals as goal

pub returns : goal.returns
returns c = found_keyword c.args.keywords.now c.args.spelling.now c.find.result c.requires c.find.ensures.found c.find.ensures.none
