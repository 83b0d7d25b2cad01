use Rattle.std.proofs.Common.{◌≡◌, drop}
use Rattle.dm_macro.specs.declared.parameters.Expected.TheVariants.{ItemOrEnd}
use Rattle.dm_macro.specs.ParameterLists.{is_read_from}
use Rattle.dm_macro.proofs.Listings.{kinds_of}
use Rattle.dm_macro.proofs.parameters.is_parameter_list.Given as goal

abbrev pub invariant-loop-token : goal.invariant-loop-token
invariant-loop-token l = is_read_from ItemOrEnd (kinds_of l.tokens) ≡ is_read_from l.expected (kinds_of (drop l.token-index l.tokens))
