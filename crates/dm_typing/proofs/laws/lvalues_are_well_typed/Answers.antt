use Rattle.dm_typing.proofs.TableLemmas.{table-proper}
use Rattle.dm_typing.proofs.MemberLemmas.{member-gives, arrow-gives}
use Rattle.dm_typing.proofs.RuleLemmas.{address-gives, follow-gives, index-gives}
use Rattle.dm_typing.proofs.WriteLemmas.{as-value-sound}
use Rattle.dm_typing.proofs.laws.lvalues_are_well_typed.Goals as goal

pub returns-clause-value : goal.returns-clause-value
returns-clause-value c = as-value-sound

pub returns-clause-address : goal.returns-clause-address
returns-clause-address c = address-gives

pub returns-clause-target : goal.returns-clause-target
returns-clause-target c = follow-gives

pub returns-clause-subscript : goal.returns-clause-subscript
returns-clause-subscript c = index-gives

pub returns-clause-member : goal.returns-clause-member
returns-clause-member c setting known span = member-gives setting known span (table-proper known.types)

pub returns-clause-pointed_member : goal.returns-clause-pointed_member
returns-clause-pointed_member c setting known span = arrow-gives setting known span (table-proper known.types)
