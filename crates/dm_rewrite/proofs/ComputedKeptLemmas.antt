-- What a tree that neither stores nor calls comes to, it comes to in another memory, in which the objects that it uses have the same types and
-- are alive, and what it reads is the same.
use Rattle.std.specs.Prelude.{◌≡◌, refl, ℕ, zero, suc, Bool, true, false, List, [], ◌∷◌, ◌++◌, Option, Some, None, pos, if◌then◌else◌}
use Rattle.std.proofs.Common.{true≢false, ap, sym, ◌∙◌, subst}
use Rattle.dm_type.specs.CTypes.{CType}
use Rattle.dm_tree.specs.Trees.{Label, both, either, choose, comma, store, update, count, call, sizeof_tree}
use Rattle.dm_meaning.specs.declared.cause.Cause.{Cause}
use Rattle.dm_meaning.specs.Values.{At, Value, integer_value, pointer_value, parts as compound, unset}
use Rattle.dm_meaning.specs.Causes.{earliest, use_causes}
use Rattle.dm_meaning.specs.Programs.{layout}
use Rattle.dm_meaning.specs.Operations.{of_value, Operand, World, Scene, Did, gives, breaks, ends_with, told, truth_of, truth_in, number_alone, operate}
use Rattle.dm_meaning.specs.Running.{Doing, evaluates, gives_truth, gives_value, Run, done, to_do, Runs, no_runs, more_runs, Open, every, first_open, others_open, open_of, open_parts}
use Rattle.dm_meaning.specs.Expressions.{value_of}
use Rattle.dm_rewrite.specs.Computed.{Computed, ComputedParts, joined, joined_if, after_reads, alone, given_by, on_alone, by_holds, after_operands, read_here, truth_computed, value_computed, nth_computed, only, both_computed, either_computed, picked_computed, by_first, form_computed, node_computed, found_in, Part, computed, all_computed, is_pure_label, is_pure_doing, IsPure, ArePure}
use Rattle.dm_meaning.proofs.AmongLemmas.{among_left, among_right}
use Rattle.dm_rewrite.specs.KeptMemory.{HasSameObjects, KeepsPlaces}
use Rattle.dm_rewrite.proofs.KeptLemmas.{KeptDid, use_same, number_same, operate_kept}

module _ (scene : Scene) (world more : World) (same_objects : HasSameObjects world.memory more.memory) where
  abbrev pub KeptComputed : Option Computed → Option Computed → Type 0
  KeptComputed None now = Unit {0}
  KeptComputed (Some was) now = KeepsPlaces world.memory more.memory was.reads → now ≡ Some was

  abbrev KeptParts : Option ComputedParts → Option ComputedParts → Type 0
  KeptParts None now = Unit {0}
  KeptParts (Some was) now = KeepsPlaces world.memory more.memory was.reads → now ≡ Some was

  abbrev KeptList : List Part → List Part → Type 0
  KeptList [] [] = Unit {0}
  KeptList (x ∷ xs) (y ∷ ys) = (x.0 ≡ y.0) × KeptComputed x.1 y.1 × KeptList xs ys
  KeptList xs ys = ⊥

  kept_left : (xs ys : List At) → KeepsPlaces world.memory more.memory (xs ++ ys) → KeepsPlaces world.memory more.memory xs
  kept_left xs ys h at k = h at (among_left at xs ys k)

  kept_right : (xs ys : List At) → KeepsPlaces world.memory more.memory (xs ++ ys) → KeepsPlaces world.memory more.memory ys
  kept_right xs ys h at k = h at (among_right at xs ys k)

  joined_kept : (kind type : CType) (o p : Option Computed) (r s : Option ComputedParts) → kind ≡ type → KeptComputed o p → KeptParts r s
      → KeptParts (joined kind o r) (joined type p s)
  joined_kept kind type None p r s e h k = tt
  joined_kept kind type (Some w) p None s e h k = tt
  joined_kept kind type (Some w) p (Some v) s e h k = λ all.
      ap (λ t. joined t p s) (sym e)
      ∙ ap (λ x. joined kind x s) (h (kept_left w.reads v.reads all))
      ∙ ap (λ x. joined kind (Some w) x) (k (kept_right w.reads v.reads all))

  joined_if_kept : (b : Bool) (kind type : CType) (o p : Option Computed) (r s : Option ComputedParts) → kind ≡ type → KeptComputed o p → KeptParts r s
      → KeptParts (joined_if b kind o r) (joined_if b type p s)
  joined_if_kept true kind type o p r s e h k = joined_kept kind type o p r s e h k
  joined_if_kept false kind type o p r s e h k = k

  only_kept : (x y : Part) → x.0 ≡ y.0 → KeptComputed x.1 y.1 → KeptParts (only x) (only y)
  only_kept x y e h = joined_kept x.0 y.0 x.1 y.1 (Some (record { operands = []; reads = [] })) (Some (record { operands = []; reads = [] })) e h (λ all. refl)

  after_kept : (r s : Option ComputedParts) (f g : List Operand → Option Computed) → KeptParts r s → ((os : List Operand) → KeptComputed (f os) (g os))
      → KeptComputed (after_operands r f) (after_operands s g)
  after_kept None s f g h k = tt
  after_kept (Some w) s f g h k = by_found (f w.operands) (k w.operands) refl
    where
      by_found : (o : Option Computed) → KeptComputed o (g w.operands) → f w.operands ≡ o → KeptComputed (after_reads w.reads o) (after_operands s g)
      by_found None l e = tt
      by_found (Some u) l e = λ all. ap (λ x. after_operands x g) (h (kept_left w.reads u.reads all)) ∙ ap (after_reads w.reads) (l (kept_right w.reads u.reads all))

  -- ---- truths

  told_kept : (causes others : List Cause) (truth : Bool) (f g : Bool → Option Computed) → (causes ≡ [] → others ≡ []) → ((b : Bool) → KeptComputed (f b) (g b))
      → KeptComputed (by_holds (told (earliest causes) truth) f) (by_holds (told (earliest others) truth) g)
  told_kept [] others truth f g h k = subst (λ cs. KeptComputed (f truth) (by_holds (told (earliest cs) truth) g)) (sym (h refl)) (k truth)
  told_kept (cause ∷ causes) others truth f g h k = tt

  truth_kept : (value : Value) (f g : Bool → Option Computed) → ((b : Bool) → KeptComputed (f b) (g b))
      → KeptComputed (by_holds (truth_of world.memory value) f) (by_holds (truth_of more.memory value) g)
  truth_kept (integer_value kind z) f g h = h _
  truth_kept (pointer_value p) f g h = told_kept (use_causes world.memory p) (use_causes more.memory p) _ f g (use_same scene world more same_objects p) h
  truth_kept (compound all) f g h = tt
  truth_kept unset f g h = tt

  first_kept : (operands : List Operand) (f g : Bool → Option Computed) → ((b : Bool) → KeptComputed (f b) (g b))
      → KeptComputed (by_first world.memory operands f) (by_first more.memory operands g)
  first_kept [] f g h = tt
  first_kept (a ∷ []) f g h = truth_kept (value_of a.result) f g h
  first_kept (a ∷ b ∷ rest) f g h = tt

  truth_computed_kept : (kind : CType) (r s : Option ComputedParts) → KeptParts r s
      → KeptComputed (truth_computed world.memory kind r) (truth_computed more.memory kind s)
  truth_computed_kept kind r s h =
      after_kept r s _ _ h (λ os. first_kept os (λ truth. alone (of_value (truth_in kind truth))) (λ truth. alone (of_value (truth_in kind truth))) (λ b all. refl))

  alone_kept : (os : List Operand) → KeptComputed (on_alone os (λ a. alone a.result)) (on_alone os (λ a. alone a.result))
  alone_kept [] = tt
  alone_kept (a ∷ []) = λ all. refl
  alone_kept (a ∷ b ∷ rest) = tt

  value_computed_kept : (r s : Option ComputedParts) → KeptParts r s → KeptComputed (value_computed r) (value_computed s)
  value_computed_kept r s h = after_kept r s _ _ h alone_kept

  -- ---- nodes

  nth_kept : (n : ℕ) (xs ys : List Part) → KeptList xs ys → ((nth_computed n xs).0 ≡ (nth_computed n ys).0) × KeptComputed (nth_computed n xs).1 (nth_computed n ys).1
  nth_kept n [] [] h = (refl, λ all. refl)
  nth_kept n [] (y ∷ ys) h = absurd h
  nth_kept n (x ∷ xs) [] h = absurd h
  nth_kept zero (x ∷ xs) (y ∷ ys) h = (h.0, h.1)
  nth_kept (suc n) (x ∷ xs) (y ∷ ys) h = nth_kept n xs ys h.2

  picked_only : (n : ℕ) (xs ys : List Part) → KeptList xs ys → KeptParts (only (nth_computed n xs)) (only (nth_computed n ys))
  picked_only n xs ys h = let there = nth_kept n xs ys h in only_kept (nth_computed n xs) (nth_computed n ys) there.0 there.1

  did_kept : (reads : List At) (did other : Did) → KeptDid did other → KeptComputed (given_by reads did) (given_by reads other)
  did_kept reads (gives after result []) (gives later other others) h =
      λ all. ap (λ r. given_by reads (gives later r others)) (sym h.0) ∙ ap (λ l. given_by reads (gives later result l)) (sym h.1)
  did_kept reads (gives after result (lock ∷ locks)) other h = tt
  did_kept reads (gives after result []) (breaks cause) h = absurd h
  did_kept reads (gives after result []) (ends_with status) h = absurd h
  did_kept reads (breaks cause) other h = tt
  did_kept reads (ends_with status) other h = tt

  -- where what it reads is kept
  where_kept : (reads : List At) (did other : Did) → (KeepsPlaces world.memory more.memory reads → KeptDid did other)
      → KeptComputed (given_by reads did) (given_by reads other)
  where_kept reads (gives after result []) other h = λ all. did_kept reads (gives after result []) other (h all) all
  where_kept reads (gives after result (lock ∷ locks)) other h = tt
  where_kept reads (breaks cause) other h = tt
  where_kept reads (ends_with status) other h = tt

  form_kept : (label : Label) (kind : CType) (xs ys : List Part) → is_pure_label label ≡ true → KeptList xs ys → (operands : List Operand)
      → KeptComputed (form_computed scene world label kind xs operands) (form_computed scene more label kind ys operands)
  form_kept both kind xs ys pure h operands = first_kept operands (both_computed world.memory kind xs) (both_computed more.memory kind ys) by_bool
    where
      by_bool : (b : Bool) → KeptComputed (both_computed world.memory kind xs b) (both_computed more.memory kind ys b)
      by_bool true = truth_computed_kept kind (only (nth_computed 1 xs)) (only (nth_computed 1 ys)) (picked_only 1 xs ys h)
      by_bool false = λ all. refl
  form_kept either kind xs ys pure h operands = first_kept operands (either_computed world.memory kind xs) (either_computed more.memory kind ys) by_bool
    where
      by_bool : (b : Bool) → KeptComputed (either_computed world.memory kind xs b) (either_computed more.memory kind ys b)
      by_bool true = λ all. refl
      by_bool false = truth_computed_kept kind (only (nth_computed 1 xs)) (only (nth_computed 1 ys)) (picked_only 1 xs ys h)
  form_kept choose kind xs ys pure h operands =
      first_kept operands (picked_computed xs) (picked_computed ys)
      (λ b. value_computed_kept (only (nth_computed (if b then 1 else 2) xs)) (only (nth_computed (if b then 1 else 2) ys)) (picked_only (if b then 1 else 2) xs ys h))
  form_kept comma kind xs ys pure h operands = value_computed_kept (only (nth_computed 1 xs)) (only (nth_computed 1 ys)) (picked_only 1 xs ys h)
  form_kept call kind xs ys pure h operands = absurd (true≢false (sym pure))
  form_kept sizeof_tree kind xs ys pure h operands =
      subst
      (λ type. KeptComputed (given_by [] (number_alone world kind (pos ((layout scene.program).size (nth_computed 0 xs).0)))) (given_by [] (number_alone more kind (pos ((layout scene.program).size type)))))
      (nth_kept 0 xs ys h).0
      (did_kept [] (number_alone world kind (pos ((layout scene.program).size (nth_computed 0 xs).0))) (number_alone more kind (pos ((layout scene.program).size (nth_computed 0 xs).0))) (number_same scene world more same_objects kind _))
  form_kept store kind xs ys pure h operands = absurd (true≢false (sym pure))
  form_kept (update op works) kind xs ys pure h operands = absurd (true≢false (sym pure))
  form_kept (count plus before) kind xs ys pure h operands = absurd (true≢false (sym pure))
  form_kept label kind xs ys pure h operands =
      where_kept (read_here label operands) (operate scene world [] label kind operands) (operate scene more [] label kind operands)
      (λ all. operate_kept scene world more same_objects label kind operands pure all)

  found_kept : (opens : Open) (xs ys : List Part) → KeptList xs ys → KeptParts (found_in opens xs) (found_in opens ys)
  found_kept opens [] [] h = λ all. refl
  found_kept opens [] (y ∷ ys) h = absurd h
  found_kept opens (x ∷ xs) [] h = absurd h
  found_kept opens (x ∷ xs) (y ∷ ys) h =
      joined_if_kept (first_open opens) x.0 y.0 x.1 y.1 (found_in (others_open opens) xs) (found_in (others_open opens) ys) h.0 h.1 (found_kept (others_open opens) xs ys h.2)

  node_kept : (doing : Doing) (kind : CType) (xs ys : List Part) → is_pure_doing doing ≡ true → KeptList xs ys
      → KeptComputed (node_computed scene world doing kind xs (found_in (open_parts doing) xs)) (node_computed scene more doing kind ys (found_in (open_parts doing) ys))
  node_kept (evaluates label) kind xs ys pure h =
      after_kept (found_in (open_of label) xs) (found_in (open_of label) ys) _ _ (found_kept (open_of label) xs ys h) (form_kept label kind xs ys pure h)
  node_kept gives_truth kind xs ys pure h = truth_computed_kept kind (found_in every xs) (found_in every ys) (found_kept every xs ys h)
  node_kept gives_value kind xs ys pure h = value_computed_kept (found_in every xs) (found_in every ys) (found_kept every xs ys h)

  mutual
    -- Such a tree comes to the same in both worlds.
    pub computed_kept : (run : Run) → IsPure run → KeptComputed (computed scene world run) (computed scene more run)
    computed_kept (done kind result locks) h = λ all. refl
    computed_kept (to_do doing kind place parts) h =
        node_kept doing kind (all_computed scene world parts) (all_computed scene more parts) h.0 (all_computed_kept parts h.1)

    all_computed_kept : (parts : Runs) → ArePure parts → KeptList (all_computed scene world parts) (all_computed scene more parts)
    all_computed_kept no_runs h = tt
    all_computed_kept (more_runs first rest) h = (refl, computed_kept first h.0, all_computed_kept rest h.1)

  -- what the law says of it
  pub kept_computation : (run : Run) → IsPure run → (found : Computed) → computed scene world run ≡ Some found → KeepsPlaces world.memory more.memory found.reads
      → computed scene more run ≡ Some found
  kept_computation run pure found e all = subst (λ o. KeptComputed o (computed scene more run)) e (computed_kept run pure) all
