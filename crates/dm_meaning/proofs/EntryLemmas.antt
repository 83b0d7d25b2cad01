-- The parameters of the added function when it is called, and their objects, which the old program has none of.
use Rattle.std.specs.Prelude.{◌≡◌, refl, ◌⊎◌, ℕ, suc, ◌≤◌, false, List, [], ◌∷◌, ◌++◌, length, map, Option, Some, None, if◌then◌else◌}
use Rattle.std.proofs.Common.{arith, ap, sym, ◌∙◌, subst, inl, inr}
use Rattle.dm_type.specs.CTypes.{CType}
use Rattle.dm_meaning.specs.Among.{IsAmong}
use Rattle.dm_meaning.specs.Values.{Value}
use Rattle.dm_meaning.specs.Memory.{Memory, Block, look_up, killed, IsFresh}
use Rattle.dm_meaning.specs.Causes.{is_unset}
use Rattle.dm_meaning.specs.Operations.{Objects, object_named}
use Rattle.dm_meaning.specs.Running.{Runs, no_runs, more_runs}
use Rattle.dm_meaning.specs.Statements.{named_from}
use Rattle.dm_meaning.specs.Steps.{given_from}
use Rattle.dm_meaning.specs.Called.{Called, new_of}
use Rattle.dm_meaning.specs.CalledWithAll.{AreDistinct}
use Rattle.dm_meaning.specs.Extending.{HasAll}
use Rattle.dm_meaning.specs.MoreObjects.{IsSpare, Grown}
use Rattle.dm_meaning.proofs.OptionLemmas.{none_is_some}
use Rattle.dm_meaning.proofs.RunLemmas.{renamed_objects}
use Rattle.dm_meaning.proofs.GrowLemmas.{equal_is, differ_is, look_added, look_beside}
use Rattle.dm_meaning.proofs.MatchLemmas.{parameter_block}
use Rattle.dm_meaning.proofs.StandLemmas.{suc_same}
use Rattle.dm_meaning.proofs.PassRunLemmas.{Entry, HaveCome}

-- ---- when the function is called

-- its parameters from one on, before others
abbrev pub entries_from : (ℕ → ℕ) → ℕ → List ℕ → List Value → List Entry → List Entry
entries_from names i [] values entries = entries
entries_from names i (p ∷ ps) [] entries = entries
entries_from names i (p ∷ ps) (value ∷ values) entries = entries_from names (suc i) ps values (record { parameter = p; stored = names i; value = value } ∷ entries)

abbrev pub objects_in : List Entry → Objects
objects_in entries = map (λ (entry : Entry). (entry.parameter, entry.stored)) entries

-- memory with their objects
abbrev pub with_entries : Called → List Entry → Memory → Memory
with_entries change [] memory = memory
with_entries change (entry ∷ entries) memory = (entry.stored, parameter_block change entry.parameter entry.value) ∷ with_entries change entries memory

-- no name of the old program is that of a parameter
pub none_named : (rename : ℕ → ℕ) (entries : List Entry) → ((entry : Entry) → IsAmong entry entries → (d : ℕ) → rename d ≡ entry.parameter → ⊥) → (d : ℕ) → object_named (objects_in entries) (rename d) ≡ None
none_named rename [] own d = refl
none_named rename (entry ∷ entries) own d =
    ap (λ b. if b then Some entry.stored else object_named (objects_in entries) (rename d)) (differ_is entry.parameter (rename d) (λ e. own entry (inl refl) d (sym e)))
    ∙ none_named rename entries (λ other h. own other (inr h)) d

zero_suc : (n : ℕ) → 0 ≡ suc n → ⊥
zero_suc n e = omega (arith, e)

pub named_entries : (names : ℕ → ℕ) (i : ℕ) (ps : List ℕ) (values : List Value) (entries : List Entry) → length values ≡ length ps
    → named_from names i ps (objects_in entries) ≡ objects_in (entries_from names i ps values entries)
named_entries names i [] values entries e = refl
named_entries names i (p ∷ ps) [] entries e = absurd (zero_suc (length ps) e)
named_entries names i (p ∷ ps) (value ∷ values) entries e =
    named_entries names (suc i) ps values (record { parameter = p; stored = names i; value = value } ∷ entries) (suc_same (length values) (length ps) e)

pub given_entries : (change : Called) (names : ℕ → ℕ) (i : ℕ) (ps : List ℕ) (values : List Value) (entries : List Entry) (memory : Memory) → length values ≡ length ps
    → given_from (new_of change) names i ps values (with_entries change entries memory) ≡ with_entries change (entries_from names i ps values entries) memory
given_entries change names i [] values entries memory e = refl
given_entries change names i (p ∷ ps) [] entries memory e = absurd (zero_suc (length ps) e)
given_entries change names i (p ∷ ps) (value ∷ values) entries memory e =
    given_entries change names (suc i) ps values (record { parameter = p; stored = names i; value = value } ∷ entries) memory (suc_same (length values) (length ps) e)

-- a parameter is one of the function's, with one of the values
pub entry_from : (names : ℕ → ℕ) (i : ℕ) (ps : List ℕ) (values : List Value) (entries : List Entry) (entry : Entry) → IsAmong entry (entries_from names i ps values entries)
    → IsAmong entry entries ⊎ (IsAmong entry.parameter ps × IsAmong entry.value values)
entry_from names i [] values entries entry h = inl h
entry_from names i (p ∷ ps) [] entries entry h = inl h
entry_from names i (p ∷ ps) (value ∷ values) entries entry h =
    by_either (entry_from names (suc i) ps values (record { parameter = p; stored = names i; value = value } ∷ entries) entry h)
  where
    by_either : IsAmong entry (record { parameter = p; stored = names i; value = value } ∷ entries) ⊎ (IsAmong entry.parameter ps × IsAmong entry.value values)
        → IsAmong entry entries ⊎ (IsAmong entry.parameter (p ∷ ps) × IsAmong entry.value (value ∷ values))
    by_either (inl (inl e)) = inr (inl (ap (λ (x : Entry). x.parameter) e), inl (ap (λ (x : Entry). x.value) e))
    by_either (inl (inr k)) = inl k
    by_either (inr (k, l)) = inr (inr k, inr l)

-- each of them is named
abbrev pub AreNamed : List Entry → Type 0
AreNamed entries = (entry : Entry) → IsAmong entry entries → object_named (objects_in entries) entry.parameter ≡ Some entry.stored

pub entries_named : (names : ℕ → ℕ) (i : ℕ) (ps : List ℕ) (values : List Value) (entries : List Entry) → AreDistinct ps → ((q : ℕ) → IsAmong q ps → (entry : Entry) → IsAmong entry entries → entry.parameter ≡ q → ⊥)
    → AreNamed entries → AreNamed (entries_from names i ps values entries)
entries_named names i [] values entries distinct others named = named
entries_named names i (p ∷ ps) [] entries distinct others named = named
entries_named names i (p ∷ ps) (value ∷ values) entries distinct others named =
    entries_named names (suc i) ps values (record { parameter = p; stored = names i; value = value } ∷ entries) distinct.1 still_others still_named
  where
    still_others : (q : ℕ) → IsAmong q ps → (entry : Entry) → IsAmong entry (record { parameter = p; stored = names i; value = value } ∷ entries) → entry.parameter ≡ q → ⊥
    still_others q k entry (inl e) f = distinct.0 (subst (λ n. IsAmong n ps) (sym f ∙ ap (λ (x : Entry). x.parameter) e) k)
    still_others q k entry (inr l) f = others q (inr k) entry l f

    still_named : AreNamed (record { parameter = p; stored = names i; value = value } ∷ entries)
    still_named entry (inl e) =
        ap (λ (x : Entry). object_named (objects_in (record { parameter = p; stored = names i; value = value } ∷ entries)) x.parameter) e
        ∙ ap (λ b. if b then Some (names i) else object_named (objects_in entries) p) (equal_is p p refl)
        ∙ ap (λ (x : Entry). Some x.stored) (sym e)
    still_named entry (inr l) =
        ap (λ b. if b then Some (names i) else object_named (objects_in entries) entry.parameter) (differ_is p entry.parameter (λ f. others p (inl refl) entry l (sym f))) ∙ named entry l

-- a name of none of the program's is a parameter's
pub own_named : (rename : ℕ → ℕ) (statics own : Objects) (p : ℕ) → ((d : ℕ) → rename d ≡ p → ⊥) → object_named (renamed_objects rename statics ++ own) p ≡ object_named own p
own_named rename [] own p apart = refl
own_named rename (entry ∷ entries) own p apart =
    ap (λ b. if b then Some entry.1 else object_named (renamed_objects rename entries ++ own) p) (differ_is (rename entry.0) p (apart entry.0)) ∙ own_named rename entries own p apart

-- ---- the values of arguments

pub come_set : (kinds : List CType) (values : List Value) (inner : Runs) → HaveCome kinds values inner → (value : Value) → IsAmong value values → is_unset value ≡ false
come_set kinds [] inner h value k = absurd k
come_set [] (first ∷ values) inner h value k = absurd h
come_set (kind ∷ kinds) (first ∷ values) no_runs h value k = absurd h
come_set (kind ∷ kinds) (first ∷ values) (more_runs run rest) h value (inl e) = ap is_unset e ∙ h.1
come_set (kind ∷ kinds) (first ∷ values) (more_runs run rest) h value (inr k) = come_set kinds values rest h.2 value k

-- ---- the objects of parameters

-- the parameters' objects have other numbers
abbrev pub IsOther : ℕ → List Entry → Type 0
IsOther n [] = Unit {0}
IsOther n (first ∷ rest) = (first.stored ≡ n → ⊥) × IsOther n rest

-- the numbers were never used
abbrev pub AreFresh : List Entry → Memory → Type 0
AreFresh [] memory = Unit {0}
AreFresh (entry ∷ entries) memory = (look_up memory entry.stored ≡ None) × IsOther entry.stored entries × AreFresh entries memory

same_or_later : (i : ℕ) → i ≤ i
same_or_later i = omega arith

still_later : (i k : ℕ) → suc i ≤ k → i ≤ k
still_later i k h = omega (arith, h)

not_itself : (i k : ℕ) → suc i ≤ k → i ≡ k → ⊥
not_itself i k h e = omega (arith, h, e)

pub entries_fresh : (names : ℕ → ℕ) (memory : Memory) → IsFresh names memory → (i : ℕ) (ps : List ℕ) (values : List Value) (entries : List Entry) → ((k : ℕ) → i ≤ k → IsOther (names k) entries) → AreFresh entries memory
    → AreFresh (entries_from names i ps values entries) memory
entries_fresh names memory fresh i [] values entries others h = h
entries_fresh names memory fresh i (p ∷ ps) [] entries others h = h
entries_fresh names memory fresh i (p ∷ ps) (value ∷ values) entries others h =
    entries_fresh names memory fresh (suc i) ps values (record { parameter = p; stored = names i; value = value } ∷ entries)
    (λ k later. ((λ e. not_itself i k later (fresh.0 i k e)), others k (still_later i k later)))
    (fresh.1 i, others i (same_or_later i), h)

-- they are there, with their values, in the first memory alone
abbrev pub AllSpare : Called → Memory → Memory → List Entry → Type 0
AllSpare change more memory [] = Unit {0}
AllSpare change more memory (first ∷ rest) = IsSpare more memory first.stored (parameter_block change first.parameter first.value) × IsOther first.stored rest × AllSpare change more memory rest

pub spare_entry : (change : Called) (more memory : Memory) (entries rest : List Entry) → AllSpare change more memory (entries ++ rest) → (entry : Entry) → IsAmong entry entries
    → IsSpare more memory entry.stored (parameter_block change entry.parameter entry.value)
spare_entry change more memory [] rest h entry k = absurd k
spare_entry change more memory (first ∷ entries) rest h entry (inl e) = subst (λ (x : Entry). IsSpare more memory x.stored (parameter_block change x.parameter x.value)) (sym e) h.0
spare_entry change more memory (first ∷ entries) rest h entry (inr k) = spare_entry change more memory entries rest h.2 entry k

pub none_below : (more memory : Memory) (n : ℕ) → HasAll more memory → look_up more n ≡ None → look_up memory n ≡ None
none_below more memory n has e = by_case (look_up memory n) refl
  where
    by_case : (o : Option Block) → look_up memory n ≡ o → look_up memory n ≡ None
    by_case None f = f
    by_case (Some block) f = absurd (none_is_some block (sym e ∙ has n block f))

module _ (change : Called) where
  pub kept : (a b c d : Memory) → Grown a b c d → (spare : List Entry) → AllSpare change a b spare → AllSpare change c d spare
  kept a b c d grown [] h = tt
  kept a b c d grown (first ∷ rest) h = (grown.spare first.stored (parameter_block change first.parameter first.value) h.0, h.1, kept a b c d grown rest h.2)

  -- one more
  others_apart : (more memory : Memory) (n : ℕ) → look_up more n ≡ None → (spare : List Entry) → AllSpare change more memory spare → IsOther n spare
  others_apart more memory n new [] h = tt
  others_apart more memory n new (first ∷ rest) h =
      ((λ e. none_is_some (parameter_block change first.parameter first.value) (sym new ∙ ap (look_up more) (sym e) ∙ h.0.0)), others_apart more memory n new rest h.2)

  added_apart : (more memory : Memory) (n : ℕ) (block : Block) → (spare : List Entry) → IsOther n spare → AllSpare change more memory spare → AllSpare change ((n, block) ∷ more) memory spare
  added_apart more memory n block [] o h = tt
  added_apart more memory n block (first ∷ rest) o h = (
    (look_added n block more first.stored (λ e. o.0 (sym e)) ∙ h.0.0, h.0.1),
    h.1,
    added_apart more memory n block rest o.1 h.2,
  )

  has_one_more : (more memory : Memory) (n : ℕ) (block : Block) → HasAll more memory → look_up more n ≡ None → HasAll ((n, block) ∷ more) memory
  has_one_more more memory n block has new m found e = look_added n block more m (λ f. none_is_some found (sym new ∙ ap (look_up more) f ∙ has m found e)) ∙ has m found e

  -- one less
  abbrev end : Block → Block
  end block = record block { alive = false }

  has_one_less : (more memory : Memory) (n : ℕ) → HasAll more memory → look_up memory n ≡ None → HasAll (killed (n ∷ []) more) memory
  has_one_less more memory n has absent m found e = look_beside n end more m (Some found) (λ f. none_is_some found (sym absent ∙ ap (look_up memory) (sym f) ∙ e)) (has m found e)

  killed_apart : (more memory : Memory) (n : ℕ) (spare : List Entry) → IsOther n spare → AllSpare change more memory spare → AllSpare change (killed (n ∷ []) more) memory spare
  killed_apart more memory n [] o h = tt
  killed_apart more memory n (first ∷ rest) o h = (
    (look_beside n end more first.stored (Some (parameter_block change first.parameter first.value)) o.0 h.0.0, h.0.1),
    h.1,
    killed_apart more memory n rest o.1 h.2,
  )

  -- ---- those of a call

  look_entries : (entries : List Entry) (memory : Memory) (n : ℕ) → IsOther n entries → look_up memory n ≡ None → look_up (with_entries change entries memory) n ≡ None
  look_entries [] memory n o e = e
  look_entries (first ∷ entries) memory n o e =
      look_added first.stored (parameter_block change first.parameter first.value) (with_entries change entries memory) n o.0 ∙ look_entries entries memory n o.1 e

  pub has_entered : (entries : List Entry) (more memory : Memory) → AreFresh entries more → HasAll more memory → HasAll (with_entries change entries more) memory
  has_entered [] more memory fresh has = has
  has_entered (first ∷ entries) more memory fresh has =
      has_one_more (with_entries change entries more) memory first.stored (parameter_block change first.parameter first.value) (has_entered entries more memory fresh.2 has)
      (look_entries entries more first.stored fresh.1 fresh.0)

  pub spare_entered : (entries rest : List Entry) (more memory : Memory) → AreFresh entries more → HasAll more memory → AllSpare change more memory rest → AllSpare change (with_entries change entries more) memory (entries ++ rest)
  spare_entered [] rest more memory fresh has spares = spares
  spare_entered (first ∷ entries) rest more memory fresh has spares =
      let block = parameter_block change first.parameter first.value in
      let below = with_entries change entries more in
      let new = look_entries entries more first.stored fresh.1 fresh.0 in
      let later = spare_entered entries rest more memory fresh.2 has spares in
      let apart = others_apart below memory first.stored new (entries ++ rest) later in (
        (ap (λ b. if b then Some block else look_up below first.stored) (equal_is first.stored first.stored refl), none_below below memory first.stored (has_entered entries more memory fresh.2 has) new),
        apart,
        added_apart below memory first.stored block (entries ++ rest) apart later,
      )

  pub has_left : (entries rest : List Entry) (more memory : Memory) → HasAll more memory → AllSpare change more memory (entries ++ rest) → HasAll (killed (map (λ entry. entry.1) (objects_in entries)) more) memory
  has_left [] rest more memory has spares = has
  has_left (first ∷ entries) rest more memory has spares =
      has_left entries rest (killed (first.stored ∷ []) more) memory (has_one_less more memory first.stored has spares.0.1) (killed_apart more memory first.stored (entries ++ rest) spares.1 spares.2)

  pub spare_left : (entries rest : List Entry) (more memory : Memory) → HasAll more memory → AllSpare change more memory (entries ++ rest) → AllSpare change (killed (map (λ entry. entry.1) (objects_in entries)) more) memory rest
  spare_left [] rest more memory has spares = spares
  spare_left (first ∷ entries) rest more memory has spares =
      spare_left entries rest (killed (first.stored ∷ []) more) memory (has_one_less more memory first.stored has spares.0.1) (killed_apart more memory first.stored (entries ++ rest) spares.1 spares.2)
