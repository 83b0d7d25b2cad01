-- Equal links.
use Rattle.std.proofs.Common.{◌≡◌, ℕ, Bool, true, false, ◌&&◌, refl, sym, ap, ◌∙◌}
use Rattle.std.specs.Bool.{◌==◌}
use Rattle.std.proofs.lemmas.Bool.{and_parts, and_from, eqb-true, eq-eqb, false≢true}
use Rattle.dm_token.specs.declared.expansion.Mark.{Mark}
use Rattle.dm_token.specs.declared.expansion.Mark.TheVariants.{Expansion, Argument}
use Rattle.dm_runs.specs.declared.beginnings.Link.{Link}
use Rattle.dm_runs.specs.contracts.beginnings.LinkPartialEq.TheImpl as link_eq
use Rattle.dm_runs.specs.Trees.{link_of}

abbrev pub same : Link → Link → Bool
same = (link_eq.ghosts).eq

pub same-itself : (a : Mark) (n : ℕ) → same (link_of n a) (link_of n a) ≡ true
same-itself (Expansion d i) n = and_from _ _ (eq-eqb n n refl) (and_from _ _ refl (and_from _ _ (eq-eqb d d refl) (eq-eqb i i refl)))
same-itself (Argument d i) n = and_from _ _ (eq-eqb n n refl) (and_from _ _ refl (and_from _ _ (eq-eqb d d refl) (eq-eqb i i refl)))

-- links of equal trails
pub same-link : (n m : ℕ) (a b : Mark) → same (link_of n a) (link_of m b) ≡ true → (n ≡ m) × (a ≡ b)
same-link n m (Expansion d i) (Expansion e j) h =
    let p = and_parts (n == m) _ h in
    let q = and_parts (d == e) (i == j) p.1 in
    let first : d ≡ e = eqb-true d e q.0 in
    let second : i ≡ j = eqb-true i j q.1 in
    (eqb-true n m p.0, cc)
same-link n m (Argument d i) (Argument e j) h =
    let p = and_parts (n == m) _ h in
    let q = and_parts (d == e) (i == j) p.1 in
    let first : d ≡ e = eqb-true d e q.0 in
    let second : i ≡ j = eqb-true i j q.1 in
    (eqb-true n m p.0, cc)
same-link n m (Expansion d i) (Argument e j) h = absurd (false≢true (and_parts (n == m) _ h).1)
same-link n m (Argument d i) (Expansion e j) h = absurd (false≢true (and_parts (n == m) _ h).1)
