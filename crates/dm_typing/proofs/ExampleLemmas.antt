-- The premises of the laws on whole expressions hold of an example.
use Rattle.std.specs.Prelude.{zero, suc, [], refl}
use Rattle.std.proofs.Common.{subst, lit≤}
use Rattle.std.specs.Int.Signed.{le_z_yes}
use Rattle.dm_type.specs.TableLaws.{injected}
use Rattle.dm_syn.specs.Symbols.{symbol_of}
use Rattle.dm_syn.specs.Sources.{symbol_at, symbol_in, names_type, spelling_at}
use Rattle.dm_syn.specs.Grammar.{IsExpr}
use Rattle.dm_typing.specs.Examples.{source_of, sum_tokens, sum}
use Rattle.dm_typing.specs.Sound.{IsSoundToken, AreSoundTokens}

pub sum-tokens-sound : AreSoundTokens sum_tokens
unfolding symbol_of
sum-tokens-sound zero token h is = subst IsSoundToken (injected _ token h) (refl, (le_z_yes tt, le_z_yes tt))
sum-tokens-sound (suc zero) token h is = absurd (cc)
sum-tokens-sound (suc (suc zero)) token h is = subst IsSoundToken (injected _ token h) (refl, (le_z_yes tt, le_z_yes tt))
sum-tokens-sound (suc (suc (suc at))) token h is = absurd (cc)

pub sum-formed : IsExpr (source_of sum_tokens) [] sum
unfolding IsExpr symbol_in symbol_at names_type spelling_at symbol_of
sum-formed = (refl, (refl, refl), refl, refl, lit≤ tt, refl, (refl, refl), lit≤ tt, refl)
