-- Memories of which one has more objects, under the changes that steps make.
use Rattle.std.specs.Prelude.{◌≡◌, refl, ℕ, zero, suc, ◌+◌, ◌≤◌, ◌-◌, ◌==◌, Bool, true, false, List, [], ◌∷◌, length, map, take, Option, Some, None, option_map, if◌then◌else◌}
use Rattle.std.proofs.Common.{arith, ap, sym, ◌∙◌, subst, inl, inr}
use Rattle.dm_meaning.specs.Among.{IsAmong}
use Rattle.dm_meaning.specs.Values.{Name, numbered, literal_of, elsewhere, Path, Value, with_part}
use Rattle.dm_meaning.specs.Memory.{Memory, Block, look_up, new_block, changed_block, written, killed, IsFresh}
use Rattle.dm_meaning.specs.Programs.{Program, layout}
use Rattle.dm_meaning.specs.Operations.{Objects}
use Rattle.dm_meaning.specs.Statements.{type_declared, named_from, made_from, named_since}
use Rattle.dm_meaning.specs.Steps.{given_from}
use Rattle.dm_meaning.specs.Extending.{HasAll}
use Rattle.dm_meaning.specs.Lifetimes.{numbers_of}
use Rattle.dm_meaning.specs.MoreObjects.{IsMade, IsMadeName, ObjectsMade, IsSpare, Grown}
use Rattle.dm_meaning.proofs.OptionLemmas.{none_is_some}
use Rattle.dm_meaning.proofs.ExtendLemmas.{look_changed, has_changed}

-- ---- numbers

pub equal_is : (m n : ℕ) → m ≡ n → (m == n) ≡ true
equal_is m n e = grind arith

pub equal_of : (m n : ℕ) → (m == n) ≡ true → m ≡ n
equal_of m n e = grind arith

pub differ_is : (m n : ℕ) → (m ≡ n → ⊥) → (m == n) ≡ false
differ_is m n h = by_case (m == n) refl
  where
    by_case : (b : Bool) → (m == n) ≡ b → b ≡ false
    by_case true e = absurd (h (equal_of m n e))
    by_case false e = refl

-- what is made isn't what is spare
pub made_not_spare : (more memory : Memory) (m n : ℕ) (block : Block) → IsMade memory m → IsSpare more memory n block → m ≡ n → ⊥
made_not_spare more memory m n block made spare e = none_is_some made.0 (sym spare.1 ∙ ap (look_up memory) (sym e) ∙ made.1)

-- ---- one change

pub made_changed : (n : ℕ) (change : Block → Block) (memory : Memory) (m : ℕ) → IsMade memory m → IsMade (changed_block n change memory) m
made_changed n change memory m h =
    (if m == n then change h.0 else h.0, look_changed n change memory m ∙ ap (option_map (λ block. if m == n then change block else block)) h.1)

-- an object with another number stays as it is
pub look_beside : (n : ℕ) (change : Block → Block) (memory : Memory) (m : ℕ) (o : Option Block) → (m ≡ n → ⊥) → look_up memory m ≡ o → look_up (changed_block n change memory) m ≡ o
look_beside n change memory m None differ e = look_changed n change memory m ∙ ap (option_map (λ block. if m == n then change block else block)) e
look_beside n change memory m (Some block) differ e =
    look_changed n change memory m ∙ ap (option_map (λ x. if m == n then change x else x)) e ∙ ap (λ b. Some (if b then change block else block)) (differ_is m n differ)

pub grown_same : (more memory : Memory) → HasAll more memory → Grown more memory more memory
grown_same more memory has = record { has = has; made = λ n h. h; spare = λ n block h. h }

pub grown_join : (a b c d e f : Memory) → Grown a b c d → Grown c d e f → Grown a b e f
grown_join a b c d e f g h = record {
  has = h.has;
  made = λ n m. h.made n (g.made n m);
  spare = λ n block s. h.spare n block (g.spare n block s);
}

pub grown_changed : (n : ℕ) (change : Block → Block) (more memory : Memory) → HasAll more memory → IsMade memory n
    → Grown more memory (changed_block n change more) (changed_block n change memory)
grown_changed n change more memory has made = record {
  has = has_changed n change memory more has;
  made = made_changed n change memory;
  spare = λ m block s.
      let differ : m ≡ n → ⊥ = λ e. made_not_spare more memory n m block made s (sym e) in
      (look_beside n change more m (Some block) differ s.0, look_beside n change memory m None differ s.1);
}

-- a value is stored in an object that has been made
pub grown_written : (name : Name) (path : Path) (value : Value) (more memory : Memory) → HasAll more memory → IsMadeName memory name
    → Grown more memory (written more (record { name = name; path = path }) value) (written memory (record { name = name; path = path }) value)
grown_written (numbered n) path value more memory has made = grown_changed n (λ block. record block { contents = with_part path value block.contents }) more memory has made
grown_written (literal_of bytes unit) path value more memory has made = grown_same more memory has
grown_written (elsewhere identifier) path value more memory has made = grown_same more memory has

-- lifetimes of objects that have been made end
pub grown_killed : (ns : List ℕ) (more memory : Memory) → HasAll more memory → ((n : ℕ) → IsAmong n ns → IsMade memory n) → Grown more memory (killed ns more) (killed ns memory)
grown_killed [] more memory has made = grown_same more memory has
grown_killed (n ∷ ns) more memory has made =
    let end : (Block → Block) = λ block. record block { alive = false } in
    let first = grown_changed n end more memory has (made n (inl refl)) in
    grown_join more memory (changed_block n end more) (changed_block n end memory) (killed ns (changed_block n end more)) (killed ns (changed_block n end memory)) first
    (grown_killed ns (changed_block n end more) (changed_block n end memory) first.has (λ m h. first.made m (made m (inr h))))

-- ---- new objects

-- the names from one on were never used
abbrev pub FreshFrom : (ℕ → ℕ) → ℕ → Memory → Type 0
FreshFrom names i memory = (k : ℕ) → i ≤ k → look_up memory (names k) ≡ None

abbrev pub AreApart : (ℕ → ℕ) → Type 0
AreApart names = (i j : ℕ) → names i ≡ names j → i ≡ j

pub look_added : (m : ℕ) (block : Block) (memory : Memory) (n : ℕ) → (m ≡ n → ⊥) → look_up ((m, block) ∷ memory) n ≡ look_up memory n
look_added m block memory n differ = ap (λ b. if b then Some block else look_up memory n) (differ_is m n differ)

pub made_added : (m : ℕ) (block : Block) (memory : Memory) (n : ℕ) → IsMade memory n → IsMade ((m, block) ∷ memory) n
made_added m block memory n h = by_case (m == n) refl
  where
    by_case : (b : Bool) → (m == n) ≡ b → IsMade ((m, block) ∷ memory) n
    by_case true e = (block, ap (λ b. if b then Some block else look_up memory n) e)
    by_case false e = (h.0, ap (λ b. if b then Some block else look_up memory n) e ∙ h.1)

pub made_itself : (m : ℕ) (block : Block) (memory : Memory) → IsMade ((m, block) ∷ memory) m
made_itself m block memory = (block, ap (λ b. if b then Some block else look_up memory m) (equal_is m m refl))

has_added : (m : ℕ) (block : Block) (more memory : Memory) → HasAll more memory → HasAll ((m, block) ∷ more) ((m, block) ∷ memory)
has_added m block more memory has n found e = by_case (m == n) e
  where
    by_case : (b : Bool) → (if b then Some block else look_up memory n) ≡ Some found → (if b then Some block else look_up more n) ≡ Some found
    by_case true f = f
    by_case false f = has n found f

pub grown_added : (m : ℕ) (block : Block) (more memory : Memory) → HasAll more memory → look_up more m ≡ None → Grown more memory ((m, block) ∷ more) ((m, block) ∷ memory)
grown_added m block more memory has new = record {
  has = has_added m block more memory has;
  made = made_added m block memory;
  spare = λ n spared s.
      let differ : m ≡ n → ⊥ = λ e. none_is_some spared (sym new ∙ ap (look_up more) e ∙ s.0) in
      (look_added m block more n differ ∙ s.0, look_added m block memory n differ ∙ s.1);
}

fresh_added : (names : ℕ → ℕ) (i : ℕ) (block : Block) (memory : Memory) → AreApart names → FreshFrom names i memory → FreshFrom names (suc i) ((names i, block) ∷ memory)
fresh_added names i block memory apart fresh k later =
    look_added (names i) block memory (names k) (λ e. differs (apart i k e)) ∙ fresh k (omega (arith, later))
  where
    differs : i ≡ k → ⊥
    differs e = omega (arith, e, later)

pub grown_made : (program : Program) (names : ℕ → ℕ) (i : ℕ) (ds : List ℕ) (more memory : Memory) → AreApart names → FreshFrom names i more → HasAll more memory
    → Grown more memory (made_from program names i ds more) (made_from program names i ds memory)
grown_made program names i [] more memory apart fresh has = grown_same more memory has
grown_made program names i (d ∷ ds) more memory apart fresh has =
    let block = new_block (layout program) (type_declared program d) in
    let first = grown_added (names i) block more memory has (fresh i (omega arith)) in
    grown_join more memory ((names i, block) ∷ more) ((names i, block) ∷ memory) _ _ first
    (grown_made program names (suc i) ds ((names i, block) ∷ more) ((names i, block) ∷ memory) apart (fresh_added names i block more apart fresh) first.has)

-- one more object, with its name
one_made : (d m : ℕ) (block : Block) (memory : Memory) (objects : Objects) → ObjectsMade memory objects → ObjectsMade ((m, block) ∷ memory) ((d, m) ∷ objects)
one_made d m block memory objects h n (inl e) = subst (IsMade ((m, block) ∷ memory)) (sym e) (made_itself m block memory)
one_made d m block memory objects h n (inr k) = made_added m block memory n (h n k)

-- the objects that declarations name have been made
pub objects_made : (program : Program) (names : ℕ → ℕ) (i : ℕ) (ds : List ℕ) (memory : Memory) (objects : Objects) → ObjectsMade memory objects
    → ObjectsMade (made_from program names i ds memory) (named_from names i ds objects)
objects_made program names i [] memory objects h = h
objects_made program names i (d ∷ ds) memory objects h =
    let block = new_block (layout program) (type_declared program d) in
    objects_made program names (suc i) ds ((names i, block) ∷ memory) ((d, names i) ∷ objects) (one_made d (names i) block memory objects h)

-- ---- parameters

-- the objects that parameters name have been made
pub given_made : (program : Program) (names : ℕ → ℕ) (i : ℕ) (ds : List ℕ) (values : List Value) (memory : Memory) (objects : Objects) → ObjectsMade memory objects
    → ObjectsMade (given_from program names i ds values memory) (named_from names i ds objects)
given_made program names i [] values memory objects h = h
given_made program names i (d ∷ ds) [] memory objects h =
    let block = new_block (layout program) (type_declared program d) in
    given_made program names (suc i) ds [] ((names i, block) ∷ memory) ((d, names i) ∷ objects) (one_made d (names i) block memory objects h)
given_made program names i (d ∷ ds) (value ∷ values) memory objects h =
    let block = record (new_block (layout program) (type_declared program d)) { contents = value } in
    given_made program names (suc i) ds values ((names i, block) ∷ memory) ((d, names i) ∷ objects) (one_made d (names i) block memory objects h)

-- two memories after the parameters were made, with names to spare behind them
pub record Given (program : Program) (names : ℕ → ℕ) (i : ℕ) (ds : List ℕ) (values : List Value) (more memory : Memory) : Type 0 where
  pub grown : Grown more memory (given_from program names i ds values more) (given_from program names i ds values memory)
  pub fresh : FreshFrom names (i + length ds) (given_from program names i ds values more)

pub given_all : (program : Program) (names : ℕ → ℕ) (i : ℕ) (ds : List ℕ) (values : List Value) (more memory : Memory)
    → AreApart names → FreshFrom names i more → HasAll more memory → Given program names i ds values more memory
given_all program names i [] values more memory apart fresh has = record {
  grown = grown_same more memory has;
  fresh = λ k later. fresh k (omega (arith, later));
}
given_all program names i (d ∷ ds) [] more memory apart fresh has =
    let block = new_block (layout program) (type_declared program d) in
    let first = grown_added (names i) block more memory has (fresh i (omega arith)) in
    let rest = given_all program names (suc i) ds [] ((names i, block) ∷ more) ((names i, block) ∷ memory) apart (fresh_added names i block more apart fresh) first.has in
    record {
      grown = grown_join more memory ((names i, block) ∷ more) ((names i, block) ∷ memory) _ _ first rest.grown;
      fresh = λ k later. rest.fresh k (omega (arith, later));
    }
given_all program names i (d ∷ ds) (value ∷ values) more memory apart fresh has =
    let block = record (new_block (layout program) (type_declared program d)) { contents = value } in
    let first = grown_added (names i) block more memory has (fresh i (omega arith)) in
    let rest = given_all program names (suc i) ds values ((names i, block) ∷ more) ((names i, block) ∷ memory) apart (fresh_added names i block more apart fresh) first.has in
    record {
      grown = grown_join more memory ((names i, block) ∷ more) ((names i, block) ∷ memory) _ _ first rest.grown;
      fresh = λ k later. rest.fresh k (omega (arith, later));
    }

-- fresh names are apart, and fresh from the first on
pub fresh_from : (names : ℕ → ℕ) (memory : Memory) → IsFresh names memory → FreshFrom names 0 memory
fresh_from names memory fresh k later = fresh.1 k

-- ---- what is named still

among_taken : (n : ℕ) (i : ℕ) (objects : Objects) → IsAmong n (map (λ entry. entry.1) (take i objects)) → IsAmong n (numbers_of objects)
among_taken n zero objects h = absurd h
among_taken n (suc i) [] h = absurd h
among_taken n (suc i) (entry ∷ entries) (inl e) = inl e
among_taken n (suc i) (entry ∷ entries) (inr h) = inr (among_taken n i entries h)

pub since_made : (memory : Memory) (saved objects : Objects) → ObjectsMade memory objects → (n : ℕ) → IsAmong n (named_since saved objects) → IsMade memory n
since_made memory saved objects h n k = h n (among_taken n (length objects - length saved) objects k)
