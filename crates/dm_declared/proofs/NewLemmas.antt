-- What is typed declares automatic objects by numbers that are new: as great as there were entries before, at least, and less than there are then.
--     IsNewIn P low declared it      so it is for each test of what is automatic, where a claim is told this test and both bounds
use Rattle.std.specs.Prelude.{◌≡◌, refl, ℕ, suc, ◌≤◌, Bool, true, false, List, [], ◌∷◌, length}
use Rattle.std.specs.FinMap as map
use Rattle.std.proofs.Common.{arith}
use Rattle.dm_tree.specs.Units.{Declaration}
use Rattle.dm_edecl.specs.Standing.{Standing, Progress, goes_on, stops, opened, keeps, in_scope}
use Rattle.dm_scoped.proofs.ScopeLemmas.{Grown, grown-itself, empty-sees}
use Rattle.dm_scoped.proofs.StepLemmas.{Fits, fits-before, Gives, all-pass}
use Rattle.dm_scoped.proofs.StandingLemmas.{Holds, Leads, IsLasting, opened-holds, closed-leads}
use Rattle.dm_scoped.proofs.StatementLemmas.{anything}
use Rattle.dm_typing.specs.Known.{Known, Outcome, given, broken}
use Rattle.dm_declared.proofs.LabelLemmas.{Says}

pub length_grown : (old new : List Declaration) → Grown old new → length old ≤ length new
unfolding Grown
length_grown [] new grown = omega arith
length_grown (x ∷ xs) [] grown = let later = grown 0 x refl in let none = later.1 in absurd (cc)
length_grown (x ∷ xs) (y ∷ ys) grown = let rest = length_grown xs ys (λ d entry e. grown (suc d) entry e) in omega (arith, rest)

-- ---- claims

-- a claim on what is typed, where it is told what is automatic, and both bounds
abbrev pub Claim : Type 0 → Type 1
Claim A = (ℕ → Bool) → ℕ → A → ℕ → Type 0

unfoldable pub IsNewIn : {A : Type 0} → Claim A → ℕ → List Declaration → A → Type 0
IsNewIn P low declared it = (automatic : ℕ → Bool) → Fits automatic declared → P automatic low it (length declared)

-- it holds with wider bounds too
abbrev pub IsWide : {A : Type 0} → Claim A → Type 0
IsWide {A} P = (automatic : ℕ → Bool) (lower low high higher : ℕ) (it : A) → lower ≤ low → high ≤ higher → P automatic low it high → P automatic lower it higher

pub new_later : {A : Type 0} (P : Claim A) → IsWide P → (lower low : ℕ) (old new : List Declaration) (it : A) → lower ≤ low → Grown old new → IsNewIn P low old it → IsNewIn P lower new it
unfolding IsNewIn
new_later P wide lower low old new it l grown h automatic fits =
    wide automatic lower low (length old) (length new) it l (length_grown old new grown) (h automatic (fits-before automatic old new grown fits))

-- ---- progress

-- what is typed from here on keeps a claim
abbrev pub Makes : {A : Type 0} → Claim A → Standing → Progress A → Type 0
Makes P s progress = Leads anything (IsNewIn P (length s.known.declared)) s progress

pub lasts : {A : Type 0} (P : Claim A) (low : ℕ) → IsWide P → IsLasting (IsNewIn P low)
lasts P low wide old new it grown h = new_later P wide low low old new it (omega arith) grown h

pub scope_makes : {A : Type 0} (P : Claim A) → IsWide P → (s : Standing) (next : Standing → Progress A) → Holds all-pass s
    → ((t : Standing) → Holds all-pass t → Makes P t (next t)) → Makes P s (in_scope s next)
scope_makes P wide s next holds step =
    let inside = opened map.empty s in
    let stands = opened-holds all-pass all-pass s map.empty (λ d h. h) (empty-sees s.known.declared all-pass) holds in
    closed-leads all-pass anything (IsNewIn P (length s.known.declared)) s map.empty (next inside) (lasts P (length s.known.declared) wide) holds (step inside stands)

-- a claim from a lower place on
pub lower_makes : {A : Type 0} (P : Claim A) → IsWide P → (s t : Standing) (progress : Progress A) → length s.known.declared ≤ length t.known.declared
    → Leads anything (IsNewIn P (length t.known.declared)) t progress → Leads anything (IsNewIn P (length s.known.declared)) t progress
unfolding Leads
lower_makes P wide s t (goes_on u it) l h = (h.0, new_later P wide (length s.known.declared) (length t.known.declared) u.known.declared u.known.declared it l (grown-itself u.known.declared) h.1)
lower_makes P wide s t (stops rule at) l h = tt

-- two claims on what an expression gives
pub gives_both : {A : Type 0} (seen : ℕ → Bool) (P : List Declaration → A → Type 0) (Q : A → Type 0) (known : Known) (outcome : Outcome A) → Gives seen P known outcome → Says Q outcome
    → Gives seen (λ declared it. Q it) known outcome
unfolding Gives Says
gives_both seen P Q known (given behind it) h g = (h.0, g)
gives_both seen P Q known (broken rule at) h g = tt

-- the places that one claim leads through, with what another one says there
pub both_lead : {A : Type 0} (one other : A → ℕ → Bool) (P Q : List Declaration → A → Type 0) (s : Standing) (progress : Progress A) → Leads one P s progress → Leads other Q s progress
    → Leads one Q s progress
unfolding Leads
both_lead one other P Q s (goes_on t it) h g = (h.0, g.1)
both_lead one other P Q s (stops rule at) h g = tt

-- a rule holds for what follows it
pub keeps_so : {A : Type 0} (more : A → ℕ → Bool) (P : List Declaration → A → Type 0) (s : Standing) (test : Bool) (rule at : ℕ) (next : Progress A)
    → (test ≡ true → Leads more P s next) → Leads more P s (keeps test rule at next)
unfolding Leads
keeps_so more P s true rule at next h = h refl
keeps_so more P s false rule at next h = tt

-- the same places, of which less is said
pub says_less : {A : Type 0} (P Q : Claim A) (low : ℕ) (s : Standing) (progress : Progress A) → ((declared : List Declaration) (it : A) → IsNewIn P low declared it → IsNewIn Q low declared it)
    → Leads anything (IsNewIn P low) s progress → Leads anything (IsNewIn Q low) s progress
unfolding Leads
says_less P Q low s (goes_on t it) less h = (h.0, less t.known.declared it h.1)
says_less P Q low s (stops rule at) less h = tt
