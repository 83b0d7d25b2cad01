use Rattle.std.proofs.Common.{◌≡◌, ℕ, ◌+◌, ◌<◌, List, Option, [], ◌∷◌, get_or, take, length, length-append, sym, ap, ◌∙◌, subst, arith}
use Rattle.dm_token.specs.declared.token.PpToken.{PpToken}
use Rattle.dm_macro.specs.declared.role.Role.{Role}
use Rattle.dm_macro.specs.Bodies.{places_of}
use Rattle.dm_macro.specs.Roles.{AreCounts, AreRolesOf, IsRoleAt}
use Rattle.dm_macro.proofs.RoleLemmas.{counted, places-nothing, places-more, roles-more}
use Rattle.dm_macro.proofs.role.token_roles.Goals as goal

pub tokens-init : goal.tokens-init
tokens-init c =
    let empty = c.in_ok-roles.ensures.items in (
      λ parameter. ap (λ (xs : List ℕ). get_or xs parameter 0) c.new-seen.ensures.items ∙ sym (places-nothing c.args.parameters.now parameter),
      λ index lt. absurd (omega (arith, lt, ap length empty)),
      ap length empty,
    )

pub tokens-preserved : goal.tokens-preserved
tokens-preserved c =
    let body : List PpToken = c.args.body.now in
    let names : List (List ℕ) = c.args.parameters.now in
    let i : ℕ = c.tokens.index in
    let below : i < length body = c.tokens-test.true in
    let token : PpToken = c.token_at.result.now in
    let role : Option Role = c.in_ok-role.role in (
      λ parameter.
          c.in_ok-count.ensures parameter
          ∙ ap (λ n. n + counted names parameter token) (c.tokens.invariant.0 parameter)
          ∙ sym (places-more names parameter body i token below c.token_at.ensures),
      subst (AreRolesOf names body) (sym c.in_ok-push.ensures.items)
          (roles-more names body c.tokens.roles.items role c.tokens.invariant.1 (subst (λ n. IsRoleAt names body n role) (sym c.tokens.invariant.2) c.in_ok-role.ensures)),
      omega (arith, ap length c.in_ok-push.ensures.items, length-append c.tokens.roles.items (role ∷ []), c.tokens.invariant.2),
    )
