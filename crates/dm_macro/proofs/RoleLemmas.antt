-- What is kept of replacement lists.
use Rattle.std.proofs.Common.{◌≡◌, ℕ, zero, suc, ◌+◌, ◌-◌, ◌<◌, cond, List, [], ◌∷◌, ◌++◌, length, length-append, take, get_or, set, Option, Some, None, refl, sym, ap, ◌∙◌, subst, arith, ⊎_elim}
use Rattle.std.proofs.lemmas.Bool.Decides.{eqb_tells}
use Rattle.std.proofs.lemmas.List.{get_or-set_same, get_or-set_other, get_or-append-add, get_or_append_left, take_more}
use Rattle.std.proofs.lemmas.List.Sums.{sum_by-append, sum_by-cons}
use Rattle.dm_token.specs.declared.token.PpToken.{PpToken}
use Rattle.dm_token.specs.declared.expansion.Definition.{Definition}
use Rattle.dm_macro.specs.declared.role.Role.{Role}
use Rattle.dm_macro.specs.declared.role.Roles as code_roles
use Rattle.dm_macro.specs.Bodies.{is_at, parameter_of, places_of}
use Rattle.dm_macro.specs.Roles.{IsRoleAt, AreRolesOf, AreRoles, AreAllRoles}

-- PLACES OF A PARAMETER

-- whether a token is counted as a place of a parameter
abbrev pub counted : List (List ℕ) → ℕ → PpToken → ℕ
counted names parameter token = cond (is_at parameter (parameter_of names token)) 1 0

pub places-nothing : (names : List (List ℕ)) (parameter : ℕ) → places_of names parameter [] ≡ 0
unfolding places_of
places-nothing names parameter = refl

pub places-first : (names : List (List ℕ)) (parameter : ℕ) (token : PpToken) (others : List PpToken) → places_of names parameter (token ∷ others) ≡ counted names parameter token + places_of names parameter others
unfolding places_of
places-first names parameter token others = sum_by-cons (counted names parameter) token others

pub places-append : (names : List (List ℕ)) (parameter : ℕ) (tokens others : List PpToken) → places_of names parameter (tokens ++ others) ≡ places_of names parameter tokens + places_of names parameter others
unfolding places_of
places-append names parameter tokens others = sum_by-append (counted names parameter) tokens others

pub places-more : (names : List (List ℕ)) (parameter : ℕ) (tokens : List PpToken) (i : ℕ) (token : PpToken) → i < length tokens → token ≡ get_or tokens i token
    → places_of names parameter (take (i + 1) tokens) ≡ places_of names parameter (take i tokens) + counted names parameter token
places-more names parameter tokens i token lt is =
    ap (places_of names parameter) (take_more tokens i token lt ∙ ap (λ t. take i tokens ++ t ∷ []) (sym is))
    ∙ places-append names parameter (take i tokens) (token ∷ [])
    ∙ ap (λ n. places_of names parameter (take i tokens) + n)
    (places-first names parameter token [] ∙ ap (λ n. counted names parameter token + n) (places-nothing names parameter) ∙ omega arith)

-- a token that names a parameter is one of its places
pub counted-named : (names : List (List ℕ)) (parameter : ℕ) (token : PpToken) → parameter_of names token ≡ Some parameter → counted names parameter token ≡ 1
unfolding is_at
counted-named names parameter token is =
    ap (λ o. cond (is_at parameter o) 1 0) is ∙ ⊎_elim (λ yes. ap (λ b. cond b 1 0) yes.0) (λ no. absurd (no.1 refl)) (eqb_tells parameter parameter)

pub counted-unnamed : (names : List (List ℕ)) (parameter : ℕ) (token : PpToken) → parameter_of names token ≡ None → counted names parameter token ≡ 0
unfolding is_at
counted-unnamed names parameter token is = ap (λ o. cond (is_at parameter o) 1 0) is

-- where all places of a parameter are counted but one, none is left behind that one
pub last-place : (names : List (List ℕ)) (parameter : ℕ) (before : List PpToken) (token : PpToken) (behind : List PpToken) (seen all : ℕ)
    → seen ≡ places_of names parameter before → all ≡ places_of names parameter (before ++ token ∷ behind) → parameter_of names token ≡ Some parameter
    → all - seen ≡ 1 → places_of names parameter behind ≡ 0
last-place names parameter before token behind seen all s a is one =
    omega (arith, s, a, one, counted-named names parameter token is, places-first names parameter token behind, places-append names parameter before (token ∷ behind))

-- one place more
pub set-counts : (counts : List ℕ) (parameter count other : ℕ) → parameter < length counts → count ≡ get_or counts parameter 0
    → get_or (set counts parameter (count + 1)) other 0 ≡ get_or counts other 0 + cond (is_at other (Some parameter)) 1 0
unfolding is_at
set-counts counts parameter count other lt is =
    ⊎_elim
    (λ yes. ap (λ q. get_or (set counts parameter (count + 1)) q 0) (sym yes.1)
    ∙ get_or-set_same counts parameter (count + 1) 0 lt
    ∙ ap (λ n. n + 1) (is ∙ ap (λ q. get_or counts q 0) yes.1)
    ∙ ap (λ b. get_or counts other 0 + cond b 1 0) (sym yes.0))
    (λ no. get_or-set_other counts parameter other (count + 1) 0 (λ e. no.1 (sym e))
    ∙ (let same : get_or counts other 0 ≡ get_or counts other 0 + 0 = omega arith in same)
    ∙ ap (λ b. get_or counts other 0 + cond b 1 0) (sym no.0))
    (eqb_tells parameter other)

-- THE TOKENS OF A REPLACEMENT LIST

-- one more token
pub roles-more : (names : List (List ℕ)) (body : List PpToken) (roles : List (Option Role)) (role : Option Role) → AreRolesOf names body roles → IsRoleAt names body (length roles) role → AreRolesOf names body (roles ++ role ∷ [])
roles-more names body roles role are is index lt =
    ⊎_elim
    (λ yes. subst (IsRoleAt names body index) (sym (ap (λ n. get_or (roles ++ role ∷ []) n None) (yes.1 ∙ at-end) ∙ get_or-append-add roles (role ∷ []) 0 None)) (subst (λ n. IsRoleAt names body n role) (sym yes.1) is))
    (λ no. let below : index < length roles = omega (arith, lt, no.1, length-append roles (role ∷ [])) in
    subst (IsRoleAt names body index) (sym (get_or_append_left roles (role ∷ []) None index below)) (are index below))
    (eqb_tells index (length roles))
  where
    at-end : length roles ≡ length roles + 0
    at-end = omega arith

-- TABLES

pub all-more : (definitions : List Definition) (all : List code_roles.Roles) (definition : Definition) (roles : code_roles.Roles)
    → AreAllRoles definitions all → AreRoles definition roles → AreAllRoles (definitions ++ definition ∷ []) (all ++ roles ∷ [])
all-more [] [] definition roles are is = (is, tt)
all-more [] (other ∷ all) definition roles are is = absurd are
all-more (first ∷ definitions) [] definition roles are is = absurd are
all-more (first ∷ definitions) (other ∷ all) definition roles are is = (are.0, all-more definitions all definition roles are.1 is)

pub all-count : (definitions : List Definition) (all : List code_roles.Roles) → AreAllRoles definitions all → length all ≡ length definitions
all-count [] [] are = refl
all-count [] (other ∷ all) are = absurd are
all-count (first ∷ definitions) [] are = absurd are
all-count (first ∷ definitions) (other ∷ all) are = ap (λ n. suc n) (all-count definitions all are.1)

pub all-at : (definitions : List Definition) (all : List code_roles.Roles) (i : ℕ) (definition : Definition) (roles : code_roles.Roles)
    → AreAllRoles definitions all → i < length definitions → definition ≡ get_or definitions i definition → roles ≡ get_or all i roles → AreRoles definition roles
all-at [] all i definition roles are lt d r = absurd (omega arith)
all-at (first ∷ definitions) [] i definition roles are lt d r = absurd are
all-at (first ∷ definitions) (other ∷ all) zero definition roles are lt d r = subst (λ x. AreRoles x roles) (sym d) (subst (AreRoles first) (sym r) are.0)
all-at (first ∷ definitions) (other ∷ all) (suc i) definition roles are lt d r = all-at definitions all i definition roles are.1 (omega arith) d r
