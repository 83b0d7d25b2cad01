-- New objects and their names: what is named stays so, and what was set is set.
use Rattle.std.specs.Prelude.{◌≡◌, refl, ◌⊎◌, ℕ, suc, ◌≤◌, ◌==◌, Bool, true, false, List, [], ◌∷◌, Option, Some, None, option_map, if◌then◌else◌}
use Rattle.std.proofs.Common.{arith, ap, sym, ◌∙◌, subst, inl, inr}
use Rattle.std.proofs.lemmas.Bool.{false≢true}
use Rattle.dm_type.specs.CTypes.{CType, bare}
use Rattle.dm_meaning.specs.Among.{IsAmong}
use Rattle.dm_meaning.specs.Values.{Value, numbered}
use Rattle.dm_meaning.specs.Objects.{Layout, object_of, unknown}
use Rattle.dm_meaning.specs.Memory.{Memory, Block, look_up, changed_block, new_block, reached_in, written}
use Rattle.dm_meaning.specs.Causes.{is_unset}
use Rattle.dm_meaning.specs.Programs.{Program, layout}
use Rattle.dm_meaning.specs.Operations.{Objects, object_named, whole}
use Rattle.dm_meaning.specs.Statements.{type_declared, named_from, made_from}
use Rattle.dm_meaning.specs.Steps.{given_from}
use Rattle.dm_meaning.proofs.ExtendLemmas.{look_changed}
use Rattle.dm_meaning.proofs.GrowLemmas.{equal_of}
use Rattle.dm_meaning.proofs.OptionLemmas.{none_is_some}
use Rattle.dm_sound.specs.TypedValues.{IsSet, StaySet}
use Rattle.dm_sound.specs.TypedRuns.{AreGivenValues, ArgumentsFit}
use Rattle.dm_sound.specs.TypedStates.{IsPlace}
use Rattle.dm_sound.proofs.PlaceLemmas.{same, AreNewFrom, new_added}
use Rattle.dm_sound.proofs.SetLemmas.{stay_same, stay_then}

-- ---- names

-- an object stays named where others get names
pub named_kept : (names : ℕ → ℕ) (i : ℕ) (ds : List ℕ) (objects : Objects) (d n : ℕ) → object_named objects d ≡ Some n → (m : ℕ) × (object_named (named_from names i ds objects) d ≡ Some m)
named_kept names i [] objects d n e = (n, e)
named_kept names i (c ∷ ds) objects d n e = by_name (c == d) refl (λ m f. named_kept names (suc i) ds ((c, names i) ∷ objects) d m f)
  where
    by_name : (b : Bool) → (c == d) ≡ b → ((m : ℕ) → (if c == d then Some (names i) else object_named objects d) ≡ Some m → (k : ℕ) × (object_named (named_from names (suc i) ds ((c, names i) ∷ objects)) d ≡ Some k))
        → (k : ℕ) × (object_named (named_from names (suc i) ds ((c, names i) ∷ objects)) d ≡ Some k)
    by_name true f later = later (names i) (ap (λ b. if b then Some (names i) else object_named objects d) f)
    by_name false f later = later n (ap (λ b. if b then Some (names i) else object_named objects d) f ∙ e)

-- what gets a name is named
pub named_new : (names : ℕ → ℕ) (i : ℕ) (ds : List ℕ) (objects : Objects) (d : ℕ) → IsAmong d ds → (m : ℕ) × (object_named (named_from names i ds objects) d ≡ Some m)
named_new names i [] objects d a = absurd a
named_new names i (c ∷ ds) objects d (inl e) =
    named_kept names (suc i) ds ((c, names i) ∷ objects) d (names i) (ap (λ b. if b then Some (names i) else object_named objects d) (subst (λ k. (c == k) ≡ true) (sym e) (same c)))
named_new names i (c ∷ ds) objects d (inr a) = named_new names (suc i) ds ((c, names i) ∷ objects) d a

-- what gets none is named as before
pub named_beside : (names : ℕ → ℕ) (i : ℕ) (ds : List ℕ) (objects : Objects) (d : ℕ) → (IsAmong d ds → ⊥) → object_named (named_from names i ds objects) d ≡ object_named objects d
named_beside names i [] objects d h = refl
named_beside names i (c ∷ ds) objects d h = named_beside names (suc i) ds ((c, names i) ∷ objects) d (λ a. h (inr a)) ∙ by_name (c == d) refl
  where
    by_name : (b : Bool) → (c == d) ≡ b → (if c == d then Some (names i) else object_named objects d) ≡ object_named objects d
    by_name true f = absurd (h (inl (sym (equal_of c d f))))
    by_name false f = ap (λ b. if b then Some (names i) else object_named objects d) f

-- ---- objects

pub stay_added : (m : ℕ) (one : Block) (memory : Memory) → look_up memory m ≡ None → StaySet memory ((m, one) ∷ memory)
stay_added m one memory new n s = by_name (m == n) refl
  where
    by_name : (b : Bool) → (m == n) ≡ b → IsSet ((m, one) ∷ memory) n
    by_name true f = absurd (none_is_some s.0 (sym new ∙ ap (look_up memory) (equal_of m n f) ∙ s.1))
    by_name false f = (s.0, ap (λ b. if b then Some one else look_up memory n) f ∙ s.1, s.2)

pub not_above : (k : ℕ) → k ≤ k
not_above k = omega arith

pub added_set : (m : ℕ) (one : Block) (memory : Memory) → is_unset one.contents ≡ false → IsSet ((m, one) ∷ memory) m
added_set m one memory h = (one, ap (λ b. if b then Some one else look_up memory m) (same m), h)

module _ (program : Program) (names : ℕ → ℕ) (distinct : (i j : ℕ) → names i ≡ names j → i ≡ j) where
  pub stay_made : (i : ℕ) (ds : List ℕ) (memory : Memory) → AreNewFrom program names distinct i memory → StaySet memory (made_from program names i ds memory)
  stay_made i [] memory new = stay_same memory
  stay_made i (d ∷ ds) memory new =
      let one = new_block (layout program) (type_declared program d) in
      stay_then memory ((names i, one) ∷ memory) (made_from program names (suc i) ds ((names i, one) ∷ memory)) (stay_added (names i) one memory (new i (not_above i)))
      (stay_made (suc i) ds ((names i, one) ∷ memory) (new_added program names distinct i one memory new))

  pub stay_given : (i : ℕ) (ds : List ℕ) (values : List Value) (memory : Memory) → AreNewFrom program names distinct i memory → StaySet memory (given_from program names i ds values memory)
  stay_given i [] values memory new = stay_same memory
  stay_given i (d ∷ ds) [] memory new =
      let one = new_block (layout program) (type_declared program d) in
      stay_then memory ((names i, one) ∷ memory) (given_from program names (suc i) ds [] ((names i, one) ∷ memory)) (stay_added (names i) one memory (new i (not_above i)))
      (stay_given (suc i) ds [] ((names i, one) ∷ memory) (new_added program names distinct i one memory new))
  stay_given i (d ∷ ds) (value ∷ values) memory new =
      let one = record (new_block (layout program) (type_declared program d)) { contents = value } in
      stay_then memory ((names i, one) ∷ memory) (given_from program names (suc i) ds values ((names i, one) ∷ memory)) (stay_added (names i) one memory (new i (not_above i)))
      (stay_given (suc i) ds values ((names i, one) ∷ memory) (new_added program names distinct i one memory new))

  -- the object of a declaration is there, and set
  abbrev pub IsSetThere : Memory → Objects → ℕ → Type 0
  IsSetThere memory objects d = (n : ℕ) × (object_named objects d ≡ Some n) × IsSet memory n

  -- parameters are set, since arguments were
  pub given_set : (i : ℕ) (ds : List ℕ) (values : List Value) (objects : Objects) (memory : Memory) → AreNewFrom program names distinct i memory → ArgumentsFit program ds values → AreGivenValues values
      → (d : ℕ) → IsAmong d ds ⊎ IsSetThere memory objects d → IsSetThere (given_from program names i ds values memory) (named_from names i ds objects) d
  given_set i [] [] objects memory new fit set d (inl a) = absurd a
  given_set i [] [] objects memory new fit set d (inr s) = s
  given_set i [] (value ∷ values) objects memory new fit set d h = absurd fit
  given_set i (c ∷ ds) [] objects memory new fit set d h = absurd fit
  given_set i (c ∷ ds) (value ∷ values) objects memory new fit set d h =
      given_set (suc i) ds values ((c, names i) ∷ objects) ((names i, one) ∷ memory) (new_added program names distinct i one memory new) fit.1 set.1 d (by_name (c == d) refl h)
    where
      one : Block
      one = record (new_block (layout program) (type_declared program c)) { contents = value }

      apart : (c == d) ≡ false → d ≡ c → ⊥
      apart f e = false≢true (sym f ∙ subst (λ k. (c == k) ≡ true) (sym e) (same c))

      by_name : (b : Bool) → (c == d) ≡ b → IsAmong d (c ∷ ds) ⊎ IsSetThere memory objects d → IsAmong d ds ⊎ IsSetThere ((names i, one) ∷ memory) ((c, names i) ∷ objects) d
      by_name true f k = inr (names i, ap (λ b. if b then Some (names i) else object_named objects d) f, added_set (names i) one memory set.0)
      by_name false f (inl (inl e)) = absurd (apart f e)
      by_name false f (inl (inr a)) = inl a
      by_name false f (inr s) = inr (s.0, ap (λ b. if b then Some (names i) else object_named objects d) f ∙ s.1, stay_added (names i) one memory (new i (not_above i)) s.0 s.2)

-- ---- a store in a whole object

-- a value that was set, stored in a whole object, sets it
pub written_set : (laid : Layout) (memory : Memory) (n : ℕ) (kind : CType) (value : Value) → IsPlace laid memory (whole (numbered n)) kind → is_unset value ≡ false → IsSet (written memory (whole (numbered n)) value) n
written_set laid memory n kind value h set = by_block (look_up memory n) refl h.1
  where
    change : Block → Block
    change block = record block { contents = value }

    by_block : (o : Option Block) → look_up memory n ≡ o → reached_in laid [] o ≡ object_of (bare kind) h.0 → IsSet (changed_block n change memory) n
    by_block None e f = absurd (nowhere f)
      where
        nowhere : unknown ≡ object_of (bare kind) h.0 → ⊥
        nowhere g = cc
    by_block (Some block) e f = (
      if n == n then change block else block,
      look_changed n change memory n ∙ ap (option_map (λ (x : Block). if n == n then change x else x)) e,
      subst (λ b. is_unset (if b then change block else block).contents ≡ false) (sym (same n)) set,
    )
