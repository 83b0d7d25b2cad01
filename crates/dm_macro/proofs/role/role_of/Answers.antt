use Rattle.std.proofs.Common.{◌≡◌, ℕ, ◌+◌, ◌-◌, List, [], ◌∷◌, ◌++◌, Option, Some, None, false, sym, ap, ◌∙◌, arith}
use Rattle.std.proofs.lemmas.Bool.{cond-false, eqb-true}
use Rattle.dm_token.specs.declared.token.PpToken.{PpToken}
use Rattle.dm_macro.specs.Signs.{is_hash_hash}
use Rattle.dm_macro.specs.Bodies.{Part, paste, places_of, part_of, other_part, parameter_part, parameter_of}
use Rattle.dm_macro.proofs.RoleLemmas.{last-place}
use Rattle.dm_macro.proofs.role.role_of.Goals as goal

-- a token other than `##`
other_token : (names : List (List ℕ)) (before : List PpToken) (token : PpToken) (behind : List PpToken) (mine : Option ℕ)
    → is_hash_hash token ≡ false → parameter_of names token ≡ mine → other_part names before token behind mine ≡ part_of names before token behind
unfolding part_of
other_token names before token behind mine other is =
    ap (other_part names before token behind) (sym is) ∙ sym (cond-false (is_hash_hash token) (paste token ∷ []) (other_part names before token behind (parameter_of names token)) other)

never : (n : ℕ) → ◌≡◌ {A = Option ℕ} None (Some n) → ⊥
never n e = cc

pub returns-in_ok-token_role-in-None : goal.returns-in_ok-token_role-in-None
unfolding other_part
returns-in_ok-token_role-in-None c =
    let names : List (List ℕ) = c.args.parameters.now in
    let none : parameter_of names c.args.token.now ≡ None = sym c.parameter_of.ensures ∙ c.in-None.is in (
      ap (λ (part : Part). part ∷ []) c.in_ok-token_role-in-None.ensures.role
          ∙ other_token names c.args.before.now c.args.token.now c.args.behind.now None (sym c.is_hash_hash.ensures ∙ c.if-is_hash_hash.false) none,
      λ parameter is. absurd (never parameter (sym c.in_ok-token_role-in-None.ensures.last ∙ is)),
    )

pub returns-in_ok-small-in-Some : goal.returns-in_ok-small-in-Some
unfolding other_part
returns-in_ok-small-in-Some c =
    let names : List (List ℕ) = c.args.parameters.now in
    let before : List PpToken = c.args.before.now in
    let token : PpToken = c.args.token.now in
    let behind : List PpToken = c.args.behind.now in
    let parameter : ℕ = c.in-Some.parameter in
    let same : c.in_ok-small-in-Some.field-0 ≡ parameter = c.in_ok-small-in-Some.ensures in
    let some : parameter_of names token ≡ Some parameter = sym c.parameter_of.ensures ∙ c.in-Some.is in
    let seen : c.count_of-places.result ≡ places_of names parameter before = c.count_of-places.ensures ∙ c.requires.seen parameter in (
      c.parameter_role.ensures.role names token (seen ∙ ap (λ p. places_of names p before) (sym same))
          ∙ ap (parameter_part names before token behind) same
          ∙ other_token names before token behind (Some parameter) (sym c.is_hash_hash.ensures ∙ c.if-is_hash_hash.false) some,
      c.parameter_role.ensures.last names (λ last.
          ap (λ p. places_of names p behind) same
          ∙ last-place names parameter before token behind c.count_of-places.result c.count_of.result seen (c.count_of.ensures ∙ c.requires.all parameter) some
          (sym c.saturating_sub-last.ensures ∙ eqb-true _ 1 last)),
    )
