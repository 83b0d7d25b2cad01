use Rattle.dm_manifest.proofs.Lines.{line_has_good_cut, good_cut_may_stand}
use Rattle.dm_manifest.proofs.good_lines.Goals as goal

pub returns : goal.returns
returns c = λ line. (line_has_good_cut line, good_cut_may_stand line)
