-- Trees of an added function in which each parameter is read first.
--     NamesNone ps tree      the tree names none of the parameters
--     OnlyFirst ps tree      what isn't evaluated before its node chooses another operand, or none, names none of them
--     read_first      so it is where each parameter is read once, and first
use Rattle.std.specs.Prelude.{◌≡◌, refl, ◌⊎◌, ℕ, zero, suc, ◌+◌, ◌==◌, Bool, true, false, List, [], ◌∷◌, if◌then◌else◌}
use Rattle.std.proofs.Common.{arith, ap, sym, ◌∙◌, subst, inl, inr}
use Rattle.std.proofs.lemmas.Bool.{true≢false}
use Rattle.dm_type.specs.CTypes.{CType}
use Rattle.dm_tree.specs.Trees.{Label, object, read, Spans, Tree, Trees, node, no_trees, more_trees}
use Rattle.dm_meaning.specs.Among.{IsAmong}
use Rattle.dm_meaning.specs.CalledWithAll.{times_here, times_named, times_named_in}
use Rattle.dm_meaning.specs.Running.{Open, first_open, others_open, open_of}
use Rattle.dm_meaning.proofs.GrowLemmas.{equal_is}
use Rattle.dm_central.specs.Arguments.{ReadsFirst, ReadsFirstBelow}
use Rattle.dm_refine.specs.Calls.{IsReadOnceFirst}

abbrev pub NamesNone : List ℕ → Tree → Type 0
NamesNone ps tree = (p : ℕ) → IsAmong p ps → times_named p tree ≡ 0

abbrev pub NameNone : List ℕ → Trees → Type 0
NameNone ps trees = (p : ℕ) → IsAmong p ps → times_named_in p trees ≡ 0

abbrev pub IfFirst : Bool → Type 0 → Type 0 → Type 0
IfFirst true first other = first
IfFirst false first other = other

abbrev mutual
  pub OnlyFirst : List ℕ → Tree → Type 0
  OnlyFirst ps (node label kind spans parts) = OnlyFirstBelow ps (open_of label) parts

  pub OnlyFirstBelow : List ℕ → Open → Trees → Type 0
  OnlyFirstBelow ps opens no_trees = Unit {0}
  OnlyFirstBelow ps opens (more_trees first rest) =
      IfFirst (first_open opens) (OnlyFirst ps first) (NamesNone ps first) × OnlyFirstBelow ps (others_open opens) rest

-- ---- how often a parameter is named

-- where an object is read
pub times_read : (p d : ℕ) (kind named_kind : CType) (spans named_spans : Spans)
    → times_named p (node read kind spans (more_trees (node (object d) named_kind named_spans no_trees) no_trees)) ≡ (if d == p then 1 else 0)
times_read p d kind named_kind spans named_spans = by_bool (d == p)
  where
    by_bool : (b : Bool) → 0 + (((if b then 1 else 0) + 0) + 0) ≡ (if b then 1 else 0)
    by_bool true = refl
    by_bool false = refl

pub one_of : (a b : ℕ) → a + b ≡ 1 → (b ≡ 0 → ⊥) → (a ≡ 0) × (b ≡ 1)
one_of a zero e n = absurd (n refl)
one_of a (suc b) e n = (omega (arith, e), omega (arith, e))

pub other_of : (a b : ℕ) → a + b ≡ 1 → (a ≡ 0 → ⊥) → (a ≡ 1) × (b ≡ 0)
other_of zero b e n = absurd (n refl)
other_of (suc a) b e n = (omega (arith, e), omega (arith, e))

-- what is read first is named
mutual
  pub named : (p : ℕ) (tree : Tree) → ReadsFirst p tree → times_named p tree ≡ 0 → ⊥
  named p (node label kind spans parts) (inl h) e =
      let one : 1 ≡ 0 = sym (times_read p p h.kind h.named_kind h.spans h.named_spans ∙ ap (λ b. if b then 1 else 0) (equal_is p p refl)) ∙ (sym (ap (times_named p) h.is) ∙ e) in
      omega (arith, one)
  named p (node label kind spans parts) (inr h) e = named_below p (open_of label) parts h (omega (arith, e))

  named_below : (p : ℕ) (opens : Open) (trees : Trees) → ReadsFirstBelow p opens trees → times_named_in p trees ≡ 0 → ⊥
  named_below p opens no_trees h e = absurd h
  named_below p opens (more_trees first rest) (inl h) e = named p first h.1 (omega (arith, e))
  named_below p opens (more_trees first rest) (inr h) e = named_below p (others_open opens) rest h (omega (arith, e))

-- ---- once, and first

abbrev IsFirst : ℕ → Tree → Type 0
IsFirst p tree = (times_named p tree ≡ 0) ⊎ ((times_named p tree ≡ 1) × ReadsFirst p tree)

abbrev IsFirstBelow : ℕ → Open → Trees → Type 0
IsFirstBelow p opens trees = (times_named_in p trees ≡ 0) ⊎ ((times_named_in p trees ≡ 1) × ReadsFirstBelow p opens trees)

either_all : (A : Type 0) (B : ℕ → Type 0) (ps : List ℕ) → ((p : ℕ) → IsAmong p ps → A ⊎ B p) → A ⊎ ((p : ℕ) → IsAmong p ps → B p)
either_all A B [] h = inr (λ p k. absurd k)
either_all A B (q ∷ ps) h = joined (h q (inl refl)) (either_all A B ps (λ p k. h p (inr k)))
  where
    with_one : B q → ((p : ℕ) → IsAmong p ps → B p) → (p : ℕ) → IsAmong p (q ∷ ps) → B p
    with_one b f p (inl e) = subst B (sym e) b
    with_one b f p (inr k) = f p k

    joined : A ⊎ B q → A ⊎ ((p : ℕ) → IsAmong p ps → B p) → A ⊎ ((p : ℕ) → IsAmong p (q ∷ ps) → B p)
    joined (inl a) k = inl a
    joined (inr b) (inl a) = inl a
    joined (inr b) (inr f) = inr (with_one b f)

pub either : (P Q R : Type 0) → (P → R) → (Q → R) → P ⊎ Q → R
either P Q R f g (inl p) = f p
either P Q R f g (inr q) = g q

pub if_first : (b : Bool) (first other : Type 0) → (b ≡ true → first) → (b ≡ false → other) → IfFirst b first other
if_first true first other f g = f refl
if_first false first other f g = g refl

module _ (ps : List ℕ) where
  at_node : (p : ℕ) (label : Label) (kind : CType) (spans : Spans) (parts : Trees) → IsFirst p (node label kind spans parts)
      → OnlyFirst ps (node label kind spans parts) ⊎ IsFirstBelow p (open_of label) parts
  at_node p label kind spans parts (inl e) = inr (inl (omega (arith, e)))
  at_node p label kind spans parts (inr (e, inl h)) = inl (subst (OnlyFirst ps) (sym h.is) (tt, tt))
  at_node p label kind spans parts (inr (e, inr h)) = inr (inr ((one_of (times_here p label) (times_named_in p parts) e (named_below p (open_of label) parts h)).1, h))

  of_first : (p : ℕ) (opens : Open) (first : Tree) (rest : Trees) → IsFirstBelow p opens (more_trees first rest) → IsFirst p first
  of_first p opens first rest (inl e) = inl (omega (arith, e))
  of_first p opens first rest (inr (e, inl h)) = inr ((other_of (times_named p first) (times_named_in p rest) e (named p first h.1)).0, h.1)
  of_first p opens first rest (inr (e, inr h)) = inl (one_of (times_named p first) (times_named_in p rest) e (named_below p (others_open opens) rest h)).0

  none_first : (p : ℕ) (opens : Open) (first : Tree) (rest : Trees) → first_open opens ≡ false → IsFirstBelow p opens (more_trees first rest) → times_named p first ≡ 0
  none_first p opens first rest closed (inl e) = omega (arith, e)
  none_first p opens first rest closed (inr (e, inl h)) = absurd (true≢false (sym h.0 ∙ closed))
  none_first p opens first rest closed (inr (e, inr h)) = (one_of (times_named p first) (times_named_in p rest) e (named_below p (others_open opens) rest h)).0

  of_rest : (p : ℕ) (opens : Open) (first : Tree) (rest : Trees) → IsFirstBelow p opens (more_trees first rest) → IsFirstBelow p (others_open opens) rest
  of_rest p opens first rest (inl e) = inl (omega (arith, e))
  of_rest p opens first rest (inr (e, inl h)) = inl (other_of (times_named p first) (times_named_in p rest) e (named p first h.1)).1
  of_rest p opens first rest (inr (e, inr h)) = inr ((one_of (times_named p first) (times_named_in p rest) e (named_below p (others_open opens) rest h)).1, h)

  mutual
    only_first : (tree : Tree) → ((p : ℕ) → IsAmong p ps → IsFirst p tree) → OnlyFirst ps tree
    only_first (node label kind spans parts) h =
        either (OnlyFirst ps (node label kind spans parts)) ((p : ℕ) → IsAmong p ps → IsFirstBelow p (open_of label) parts) (OnlyFirst ps (node label kind spans parts)) (λ k. k)
        (λ k. only_first_below (open_of label) parts k)
        (either_all (OnlyFirst ps (node label kind spans parts)) (λ p. IsFirstBelow p (open_of label) parts) ps (λ p k. at_node p label kind spans parts (h p k)))

    only_first_below : (opens : Open) (trees : Trees) → ((p : ℕ) → IsAmong p ps → IsFirstBelow p opens trees) → OnlyFirstBelow ps opens trees
    only_first_below opens no_trees h = tt
    only_first_below opens (more_trees first rest) h = (
      if_first (first_open opens) (OnlyFirst ps first) (NamesNone ps first) (λ e. only_first first (λ p k. of_first p opens first rest (h p k))) (λ e p k. none_first p opens first rest e (h p k)),
      only_first_below (others_open opens) rest (λ p k. of_rest p opens first rest (h p k)),
    )

  pub read_first : (body : Tree) → ((p : ℕ) → IsAmong p ps → IsReadOnceFirst body p) → OnlyFirst ps body
  read_first body h = only_first body (λ p k. inr (h p k))
