use Rattle.std.proofs.Common.{◌≡◌, ℕ, ◌+◌, sym, ap, ◌∙◌, arith}
use Rattle.dm_macro.proofs.RoleLemmas.{counted-unnamed}
use Rattle.dm_macro.proofs.role.count.Goals as goal

pub returns-in_default : goal.returns-in_default
returns-in_default c = λ other.
    let nothing = counted-unnamed c.args.parameters.now other c.args.token.now (sym c.parameter_of.ensures ∙ c.in_default.is) in
    omega (arith, nothing)
