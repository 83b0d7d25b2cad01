-- Two lists compared in step.
use Rattle.std.proofs.Common.{◌≡◌, ◌↔◌, Bool, true, false, IsTrue, List, [], ◌∷◌, length, map, Option, refl, sym, ap, ◌∙◌, subst}
use Rattle.std.proofs.lemmas.Bool.{false≢true}
use Rattle.dm_type.specs.Tables.{Table}
use Rattle.dm_tree.specs.declared.tree.Initial.{Initial}
use Rattle.dm_tree.specs.declared.tree.Local.{Local}
use Rattle.dm_tree.specs.Trees.{Declarator, Initialiser, Initialisers, no_items, more_items}
use Rattle.dm_tree.specs.Views.{declarators_of, items_of, view_of_local}
use Rattle.dm_meaning.specs.Replaced.{renamed_declarator}
use Rattle.dm_meaning.specs.Wholes.{view_of_initial}
use Rattle.dm_agree.specs.declared.moves.Block.{Block}
use Rattle.dm_agree.specs.Moves.{moved_past}

-- a test that says no, where the fact would give what another one denies
pub denied : {P Q : Type 0} (test : Bool) → (IsTrue test ↔ Q) → test ≡ false → (P → Q) → IsTrue false ↔ P
denied test says refused gives = (λ e. absurd (false≢true e), λ p. absurd (false≢true (sym refused ∙ says.1 (gives p))))

pub never : {P : Type 0} → (P → ⊥) → IsTrue false ↔ P
never none = (λ e. absurd (false≢true e), λ p. absurd (none p))

pub through : {P Q R : Type 0} → P ↔ Q → Q ↔ R → P ↔ R
through p q = (λ x. q.0 (p.0 x), λ z. p.1 (q.1 z))

pub back : {P Q : Type 0} → P ↔ Q → Q ↔ P
back p = (p.1, p.0)

pub itself : {P : Type 0} → P ↔ P
itself = (λ x. x, λ x. x)

module _ {A B : Type 0} (Same : List A → List B → Type 0) (One : A → B → Type 0) (empty : Same [] [])
    (more : (x : A) (y : B) (xs : List A) (ys : List B) → Same (x ∷ xs) (y ∷ ys) ↔ (One x y × Same xs ys))
    (short : (y : B) (ys : List B) → Same [] (y ∷ ys) → ⊥) (long : (x : A) (xs : List A) → Same (x ∷ xs) [] → ⊥)
    (all left : List A) (others rest : List B) (so_far : Same left rest ↔ Same all others) where
  none : {X : Type 0} (xs : List X) → length xs ≡ 0 → xs ≡ []
  none [] h = refl
  none (x ∷ xs) h = absurd (cc)

  here : (x : A) (xs : List A) (y : B) (ys : List B) → left ≡ x ∷ xs → rest ≡ y ∷ ys → (One x y × Same xs ys) ↔ Same all others
  here x xs y ys first second = through (back (more x y xs ys)) (subst (λ l. Same l (y ∷ ys) ↔ Same all others) first (subst (λ r. Same left r ↔ Same all others) second so_far))

  pub too-long : (x : A) (xs : List A) → left ≡ x ∷ xs → length rest ≡ 0 → IsTrue false ↔ Same all others
  too-long x xs first gone =
      never (λ same. long x xs (subst (λ l. Same l []) first (subst (λ r. Same left r) (none rest gone) (so_far.1 same))))

  pub differs : (x : A) (xs : List A) (y : B) (ys : List B) → left ≡ x ∷ xs → rest ≡ y ∷ ys → (test : Bool) → (IsTrue test ↔ One x y) → test ≡ false
      → IsTrue false ↔ Same all others
  differs x xs y ys first second test says refused = denied test says refused (λ same. ((here x xs y ys first second).1 same).0)

  pub goes-on : (x : A) (xs : List A) (y : B) (ys : List B) → left ≡ x ∷ xs → rest ≡ y ∷ ys → (test : Bool) → (IsTrue test ↔ One x y) → test ≡ true
      → Same xs ys ↔ Same all others
  goes-on x xs y ys first second test says passed =
      through (λ same. (says.0 passed, same), λ both. both.1) (here x xs y ys first second)

  ends : (r : List B) → (test : Bool) → (IsTrue test ↔ (length r ≡ 0)) → IsTrue test ↔ Same [] r
  ends [] test says = (λ e. empty, λ e. says.1 refl)
  ends (y ∷ ys) test says = (λ e. absurd (no-length (says.0 e)), λ same. absurd (short y ys same))
    where
      no-length : length (y ∷ ys) ≡ 0 → ⊥
      no-length h = cc

  pub at-end : length left ≡ 0 → (test : Bool) → (IsTrue test ↔ (length rest ≡ 0)) → IsTrue test ↔ Same all others
  at-end gone test says = through (subst (λ l. IsTrue test ↔ Same l rest) (sym (none left gone)) (ends rest test says)) so_far

-- ---- initialisers

abbrev pub SameItems : Table → Table → List Initial → List Initial → Type 0
SameItems a b new old = items_of (map (view_of_initial a) new) ≡ items_of (map (view_of_initial b) old)

abbrev pub SameInitial : Table → Table → Initial → Initial → Type 0
SameInitial a b new old = (view_of_initial a new).initialiser ≡ (view_of_initial b old).initialiser

pub items-more : (a b : Table) (x y : Initial) (xs ys : List Initial) → SameItems a b (x ∷ xs) (y ∷ ys) ↔ (SameInitial a b x y × SameItems a b xs ys)
items-more a b x y xs ys =
    (λ e. (ap first e, ap behind e), λ both. ap (λ one. more_items one (items_of (map (view_of_initial a) xs))) both.0 ∙ ap (more_items (view_of_initial b y).initialiser) both.1)
  where
    first : Initialisers → Initialiser
    first no_items = (view_of_initial a x).initialiser
    first (more_items one others) = one

    behind : Initialisers → Initialisers
    behind no_items = no_items
    behind (more_items one others) = others

pub items-short : (a b : Table) (y : Initial) (ys : List Initial) → SameItems a b [] (y ∷ ys) → ⊥
items-short a b y ys e = cc

pub items-long : (a b : Table) (x : Initial) (xs : List Initial) → SameItems a b (x ∷ xs) [] → ⊥
items-long a b x xs e = cc

-- ---- declarators

abbrev pub SameDeclarators : Table → Table → Option Block → List Local → List Local → Type 0
SameDeclarators a b block new old = declarators_of (map (view_of_local a) new) ≡ map (renamed_declarator (moved_past block)) (declarators_of (map (view_of_local b) old))

abbrev pub SameDeclarator : Table → Table → Option Block → Local → Local → Type 0
SameDeclarator a b block new old = (view_of_local a new).declarator ≡ renamed_declarator (moved_past block) (view_of_local b old).declarator

pub declarators-more : (a b : Table) (block : Option Block) (x y : Local) (xs ys : List Local)
    → SameDeclarators a b block (x ∷ xs) (y ∷ ys) ↔ (SameDeclarator a b block x y × SameDeclarators a b block xs ys)
declarators-more a b block x y xs ys = (
  λ e. (ap first e, ap behind e),
  λ both. ap (λ one. one ∷ declarators_of (map (view_of_local a) xs)) both.0
      ∙ ap (λ (others : List Declarator). renamed_declarator (moved_past block) (view_of_local b y).declarator ∷ others) both.1,
)
  where
    first : List Declarator → Declarator
    first [] = (view_of_local a x).declarator
    first (one ∷ others) = one

    behind : List Declarator → List Declarator
    behind [] = []
    behind (one ∷ others) = others

pub declarators-short : (a b : Table) (block : Option Block) (y : Local) (ys : List Local) → SameDeclarators a b block [] (y ∷ ys) → ⊥
declarators-short a b block y ys e = cc

pub declarators-long : (a b : Table) (block : Option Block) (x : Local) (xs : List Local) → SameDeclarators a b block (x ∷ xs) [] → ⊥
declarators-long a b block x xs e = cc
