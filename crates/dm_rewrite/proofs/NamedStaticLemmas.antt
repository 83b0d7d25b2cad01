-- How a run begins where the new program has one object of static storage duration more: it takes a name of its own, and all other objects
-- are those of the old program, which takes the other names in order.
use Rattle.std.specs.Prelude.{◌≡◌, refl, ℕ, suc, ◌+◌, ◌<◌, ◌≤◌, ◌==◌, nat_lt, Bool, true, false, List, [], ◌∷◌, ◌++◌, length, take, drop, Option, Some, None, option_map, ℤ, if◌then◌else◌}
use Rattle.std.proofs.Common.{arith, ap, sym, ◌∙◌, subst}
use Rattle.dm_int.specs.declared.Op.{Op}
use Rattle.dm_int.specs.Kinds as kinds
use Rattle.dm_type.specs.CTypes.{CType, void, integer, pointer, array, struct, function as function_type, const, bare}
use Rattle.dm_tree.specs.declared.unit.Sort.{Sort}
use Rattle.dm_tree.specs.Trees.{Label, enumerator, literal, object, member, decay, address, follow, convert, binary, Initialiser, Initialisers, one_expression, in_braces, no_items, more_items, expressions_in, Tree, Trees, node, no_trees, more_trees, kind_of, listed}
use Rattle.dm_tree.specs.Units.{Declaration}
use Rattle.dm_meaning.specs.Values.{Name, numbered, literal_of, elsewhere, Pointer, null, to, integer_value, pointer_value, values, parts_in, parts as compound}
use Rattle.dm_meaning.specs.Objects.{inner_type, all_zero}
use Rattle.dm_meaning.specs.Memory.{Memory, Block, look_up, look, new_block, changed_block, written, IsFresh}
use Rattle.dm_meaning.specs.Causes.{pointer_along, path_moved}
use Rattle.dm_meaning.specs.Programs.{Static, Program, layout, declaration_of, constant_of}
use Rattle.dm_meaning.specs.Operations.{Objects, object_named, whole, move_of, or_zero}
use Rattle.dm_meaning.specs.Statements.{type_declared, named_from, count_items, array_of}
use Rattle.dm_meaning.specs.Units.{identifier_of, name_of, first_pointer, second_pointer, pointer_into, is_pointer, or_beyond, pointer_moved, address_plus, address_by, address_of, addresses_of, characters_by, characters_of, number_or, static_scalar, static_one, static_value, static_parts, static_numbers, zeroed_from, initialised, all_initialised, statics_memory}
use Rattle.dm_meaning.specs.Replaced.{relabelled, Zipped, facts_of}
use Rattle.dm_meaning.proofs.OptionLemmas.{none_is_some, some_is_some}
use Rattle.dm_meaning.proofs.ExtendLemmas.{look_changed}
use Rattle.dm_meaning.proofs.GrowLemmas.{equal_is, differ_is, look_added, look_beside}
use Rattle.dm_meaning.proofs.RunLemmas.{same_renamed}
use Rattle.dm_meaning.proofs.StatementLemmas.{zipped_take, zipped_drop}
use Rattle.dm_rewrite.specs.Closed.{PointerAvoids}
use Rattle.dm_rewrite.specs.NamedConstants.{Named, new_of, IsNaming, IfSizeof, IsRenamed, AreRenamed, StaticAgrees, IsAddedObject, AddsObject, held, NameAlike}
use Rattle.dm_rewrite.proofs.NamedSizeLemmas.{likeness}
use Rattle.dm_rewrite.proofs.NamedValueLemmas.{renamed_kind, renamed_constant}
use Rattle.dm_rewrite.proofs.NamedStatementLemmas as alike

-- ---- memories of which one has an object more

-- a memory is another one with this object besides
pub record IsBeside (n : ℕ) (block : Block) (more memory : Memory) : Type 0 where
  pub same : (m : ℕ) → (m ≡ n → ⊥) → look_up more m ≡ look_up memory m
  pub own : look_up more n ≡ Some block
  pub absent : look_up memory n ≡ None

pub beside_added : (n : ℕ) (block : Block) (more memory : Memory) → IsBeside n block more memory → (m : ℕ) (other : Block) → (m ≡ n → ⊥) → IsBeside n block ((m, other) ∷ more) ((m, other) ∷ memory)
beside_added n block more memory h m other e = record {
  same = λ i f. ap (λ o. if m == i then Some other else o) (h.same i f);
  own = look_added m other more n e ∙ h.own;
  absent = look_added m other memory n e ∙ h.absent;
}

added_alike : (n : ℕ) (block : Block) (more memory : Memory) → IsBeside n block more memory → (l m : ℕ) (other another : Block) → l ≡ m → other ≡ another → (m ≡ n → ⊥)
    → IsBeside n block ((l, other) ∷ more) ((m, another) ∷ memory)
added_alike n block more memory h l m other another e f apart =
    subst (λ i. IsBeside n block ((i, other) ∷ more) ((m, another) ∷ memory)) (sym e)
    (subst (λ b. IsBeside n block ((m, b) ∷ more) ((m, another) ∷ memory)) (sym f) (beside_added n block more memory h m another apart))

-- before the object is made
record IsSame (n : ℕ) (more memory : Memory) : Type 0 where
  same : (m : ℕ) → look_up more m ≡ look_up memory m
  absent : look_up memory n ≡ None

same_added : (n : ℕ) (more memory : Memory) → IsSame n more memory → (l m : ℕ) (other another : Block) → l ≡ m → other ≡ another → (m ≡ n → ⊥) → IsSame n ((l, other) ∷ more) ((m, another) ∷ memory)
same_added n more memory h l m other another e f apart = record {
  same = λ i.
      ap (λ k. if k == i then Some other else look_up more i) e ∙ ap (λ b. if m == i then Some b else look_up more i) f ∙ ap (λ o. if m == i then Some another else o) (h.same i);
  absent = look_added m another memory n apart ∙ h.absent;
}

beside_itself : (n : ℕ) (block : Block) (more memory : Memory) → IsSame n more memory → IsBeside n block ((n, block) ∷ more) memory
beside_itself n block more memory h = record {
  same = λ m e. look_added n block more m (λ f. e (sym f)) ∙ h.same m;
  own = ap (λ b. if b then Some block else look_up more n) (equal_is n n refl);
  absent = h.absent;
}

-- another object changes
beside_changed : (n : ℕ) (block : Block) (more memory : Memory) → IsBeside n block more memory → (m : ℕ) (change : Block → Block) → (m ≡ n → ⊥)
    → IsBeside n block (changed_block m change more) (changed_block m change memory)
beside_changed n block more memory h m change e = record {
  same = λ i f. look_changed m change more i ∙ ap (option_map (λ x. if i == m then change x else x)) (h.same i f) ∙ sym (look_changed m change memory i);
  own = look_beside m change more n (Some block) (λ f. e (sym f)) h.own;
  absent = look_beside m change memory n None (λ f. e (sym f)) h.absent;
}

-- the object itself changes
beside_own : (n : ℕ) (block : Block) (more memory : Memory) → IsBeside n block more memory → (change : Block → Block) → IsBeside n (change block) (changed_block n change more) memory
beside_own n block more memory h change = record {
  same = λ i f. look_changed n change more i ∙ others i f (look_up more i) ∙ h.same i f;
  own = look_changed n change more n ∙ ap (option_map (λ x. if n == n then change x else x)) h.own ∙ ap (λ b. Some (if b then change block else block)) (equal_is n n refl);
  absent = h.absent;
}
  where
    others : (i : ℕ) → (i ≡ n → ⊥) → (o : Option Block) → option_map (λ x. if i == n then change x else x) o ≡ o
    others i f None = refl
    others i f (Some x) = ap (λ b. Some (if b then change x else x)) (differ_is i n f)

-- ---- pointers that don't lead to an object

abbrev AllAvoid : ℕ → List Pointer → Type 0
AllAvoid n [] = Unit {0}
AllAvoid n (p ∷ ps) = PointerAvoids n p × AllAvoid n ps

first_avoids : (n : ℕ) (ps : List Pointer) → AllAvoid n ps → PointerAvoids n (first_pointer ps)
first_avoids n [] h = tt
first_avoids n (p ∷ ps) h = h.0

second_avoids : (n : ℕ) (ps : List Pointer) → AllAvoid n ps → PointerAvoids n (second_pointer ps)
second_avoids n [] h = tt
second_avoids n (p ∷ ps) h = first_avoids n ps h.1

into_avoids : (n : ℕ) (p : Pointer) (k : ℕ) → PointerAvoids n p → PointerAvoids n (pointer_into p k)
into_avoids n null k h = tt
into_avoids n (to at) k h = h

-- the object of this number has no name
abbrev NamesOthers : ℕ → Objects → Type 0
NamesOthers n objects = (d m : ℕ) → object_named objects d ≡ Some m → m ≡ n → ⊥

module _ (program : Program) (objects : Objects) (memory : Memory) (n : ℕ) (names_others : NamesOthers n objects) where
  moved_avoids : (kind : CType) (p : Pointer) (z : ℤ) → PointerAvoids n p → PointerAvoids n (pointer_moved program memory kind p z)
  moved_avoids (pointer target) null z h = tt
  moved_avoids (pointer target) (to at) z h = by_path (path_moved (layout program) (look memory at.name) target at.path z)
    where
      by_path : (o : Option _) → PointerAvoids n (or_beyond (to at) (pointer_along at.name o))
      by_path None = h
      by_path (Some path) = h
  moved_avoids kind p z h = tt

  plus_avoids : (op : Op) (kind : CType) (trees : List Tree) (ps : List Pointer) → AllAvoid n ps → PointerAvoids n (address_plus program memory op kind trees ps)
  plus_avoids op kind (left ∷ right ∷ []) ps h =
      by_bool (is_pointer (kind_of left)) _ _
      (moved_avoids kind (first_pointer ps) (move_of op (or_zero (constant_of program right))) (first_avoids n ps h))
      (moved_avoids kind (second_pointer ps) (or_zero (constant_of program left)) (second_avoids n ps h))
    where
      by_bool : (b : Bool) (p q : Pointer) → PointerAvoids n p → PointerAvoids n q → PointerAvoids n (if b then p else q)
      by_bool true p q g k = g
      by_bool false p q g k = k
  plus_avoids op kind trees ps h = tt

  name_avoids : (o : Option ℕ) (identifier : List ℕ) → ((m : ℕ) → o ≡ Some m → m ≡ n → ⊥) → name_of o identifier ≡ numbered n → ⊥
  name_avoids (Some m) identifier h e = h m refl (cc)
  name_avoids None identifier h e = cc

  by_avoids : (label : Label) (kind : CType) (trees : List Tree) (ps : List Pointer) → AllAvoid n ps → PointerAvoids n (address_by program objects memory label kind trees ps)
  by_avoids (object d) kind trees ps h = name_avoids (object_named objects d) (identifier_of (declaration_of program d)) (names_others d)
  by_avoids (literal bytes unit) kind trees ps h = λ e. cc
  by_avoids (member k) kind trees ps h = into_avoids n (first_pointer ps) k (first_avoids n ps h)
  by_avoids decay kind trees ps h = into_avoids n (first_pointer ps) 0 (first_avoids n ps h)
  by_avoids (binary op) kind trees ps h = plus_avoids op kind trees ps h
  by_avoids convert kind trees ps h = first_avoids n ps h
  by_avoids address kind trees ps h = first_avoids n ps h
  by_avoids follow kind trees ps h = first_avoids n ps h
  by_avoids label kind trees ps h = tt

  mutual
    address_avoids : (tree : Tree) → PointerAvoids n (address_of program objects memory tree)
    address_avoids (node label kind spans parts) = by_avoids label kind (listed parts) (addresses_of program objects memory parts) (addresses_avoid parts)

    addresses_avoid : (trees : Trees) → AllAvoid n (addresses_of program objects memory trees)
    addresses_avoid no_trees = tt
    addresses_avoid (more_trees first rest) = (address_avoids first, addresses_avoid rest)

name_fact : Option (List ℕ × Sort × CType) → List ℕ
name_fact None = []
name_fact (Some facts) = facts.0

identifier_is : (o : Option Declaration) → identifier_of o ≡ name_fact (option_map facts_of o)
unfolding name_fact
identifier_is None = refl
identifier_is (Some declaration) = refl

module _ (change : Named) (naming : IsNaming change) where
  same_type : (d : ℕ) → type_declared (new_of change) (change.rename d) ≡ type_declared change.old d
  same_type d = alike.same_type change (likeness change 0 naming) d

  same_identifier : (d : ℕ) → identifier_of (declaration_of (new_of change) (change.rename d)) ≡ identifier_of (declaration_of change.old d)
  same_identifier d = identifier_is (declaration_of (new_of change) (change.rename d)) ∙ ap name_fact (naming.told d) ∙ sym (identifier_is (declaration_of change.old d))

  listed_renamed : (trees others : Trees) → AreRenamed change trees others → Zipped (IsRenamed change) (listed trees) (listed others)
  listed_renamed no_trees no_trees h = tt
  listed_renamed no_trees (more_trees other others) h = absurd h
  listed_renamed (more_trees first rest) no_trees h = absurd h
  listed_renamed (more_trees first rest) (more_trees other others) h = (h.0, listed_renamed rest others h.1)

  -- ---- first values

  -- what declarations name and what memory holds when first values are given, with the added object and without it
  module _ (n : ℕ) (zero : Block) (news objects : Objects) (more memory : Memory) (alike : (d : ℕ) → object_named news (change.rename d) ≡ object_named objects d)
      (others_named : NamesOthers n objects) (beside : IsBeside n zero more memory) where
    look_alike : (name : Name) → (name ≡ numbered n → ⊥) → look more name ≡ look memory name
    look_alike (numbered m) h = beside.same m (λ e. h (ap numbered e))
    look_alike (literal_of bytes unit) h = refl
    look_alike (elsewhere identifier) h = refl

    moved_alike : (kind : CType) (p : Pointer) (z : ℤ) → PointerAvoids n p → pointer_moved (new_of change) more kind p z ≡ pointer_moved change.old memory kind p z
    moved_alike (pointer target) null z h = refl
    moved_alike (pointer target) (to at) z h =
        ap (λ o. or_beyond (to at) (pointer_along at.name (path_moved (layout change.old) o target at.path z))) (look_alike at.name h)
    moved_alike kind p z h = refl

    if_alike : {A : Type 0} (b : Bool) (x y u v : A) → x ≡ u → y ≡ v → (if b then x else y) ≡ (if b then u else v)
    if_alike true x y u v e f = e
    if_alike false x y u v e f = f

    plus_alike : (op : Op) (kind : CType) (trees others : List Tree) (ps : List Pointer) → Zipped (IsRenamed change) trees others → AllAvoid n ps
        → address_plus (new_of change) more op kind trees ps ≡ address_plus change.old memory op kind others ps
    plus_alike op kind [] [] ps h a = refl
    plus_alike op kind [] (y ∷ ys) ps h a = absurd h
    plus_alike op kind (x ∷ xs) [] ps h a = absurd h
    plus_alike op kind (x ∷ []) (y ∷ []) ps h a = refl
    plus_alike op kind (x ∷ []) (y ∷ y' ∷ ys) ps h a = absurd h.1
    plus_alike op kind (x ∷ x' ∷ xs) (y ∷ []) ps h a = absurd h.1
    plus_alike op kind (x ∷ x' ∷ []) (y ∷ y' ∷ []) ps h a =
        let right = or_zero (constant_of change.old y') in
        let left = or_zero (constant_of change.old y) in
        ap (λ k. if is_pointer k then pointer_moved (new_of change) more kind (first_pointer ps) (move_of op (or_zero (constant_of (new_of change) x')))
        else pointer_moved (new_of change) more kind (second_pointer ps) (or_zero (constant_of (new_of change) x))) (renamed_kind change naming.told x y h.0)
        ∙ if_alike (is_pointer (kind_of y)) _ _ _ _
        (ap (λ o. pointer_moved (new_of change) more kind (first_pointer ps) (move_of op (or_zero o))) (renamed_constant change naming.told x' y' h.1.0)
        ∙ moved_alike kind (first_pointer ps) (move_of op right) (first_avoids n ps a))
        (ap (λ o. pointer_moved (new_of change) more kind (second_pointer ps) (or_zero o)) (renamed_constant change naming.told x y h.0)
        ∙ moved_alike kind (second_pointer ps) left (second_avoids n ps a))
    plus_alike op kind (x ∷ x' ∷ []) (y ∷ y' ∷ y'' ∷ ys) ps h a = absurd h.1.1
    plus_alike op kind (x ∷ x' ∷ x'' ∷ xs) (y ∷ y' ∷ []) ps h a = absurd h.1.1
    plus_alike op kind (x ∷ x' ∷ x'' ∷ xs) (y ∷ y' ∷ y'' ∷ ys) ps h a = refl

    by_label : (label : Label) (kind : CType) (trees others : List Tree) (ps qs : List Pointer) (A B : Type 0) → IfSizeof label A B → (B → Zipped (IsRenamed change) trees others)
        → (B → ps ≡ qs) → AllAvoid n qs → address_by (new_of change) news more (relabelled change.rename label) kind trees ps ≡ address_by change.old objects memory label kind others qs
    by_label (object d) kind trees others ps qs A B h zipped same a =
        ap (λ o. to (whole (name_of o (identifier_of (declaration_of (new_of change) (change.rename d)))))) (alike d)
        ∙ ap (λ i. to (whole (name_of (object_named objects d) i))) (same_identifier d)
    by_label (binary op) kind trees others ps qs A B h zipped same a = ap (address_plus (new_of change) more op kind trees) (same h) ∙ plus_alike op kind trees others qs (zipped h) a
    by_label (member k) kind trees others ps qs A B h zipped same a = ap (λ ps. pointer_into (first_pointer ps) k) (same h)
    by_label decay kind trees others ps qs A B h zipped same a = ap (λ ps. pointer_into (first_pointer ps) 0) (same h)
    by_label convert kind trees others ps qs A B h zipped same a = ap first_pointer (same h)
    by_label address kind trees others ps qs A B h zipped same a = ap first_pointer (same h)
    by_label follow kind trees others ps qs A B h zipped same a = ap first_pointer (same h)
    by_label label kind trees others ps qs A B h zipped same a = refl

    mutual
      address_alike : (tree other : Tree) → IsRenamed change tree other → address_of (new_of change) news more tree ≡ address_of change.old objects memory other
      address_alike (node label kind spans parts) (node other other_kind other_spans others) h =
          ap (λ l. address_by (new_of change) news more l kind (listed parts) (addresses_of (new_of change) news more parts)) h.0
          ∙ ap (λ k. address_by (new_of change) news more (relabelled change.rename other) k (listed parts) (addresses_of (new_of change) news more parts)) h.1
          ∙ by_label other other_kind (listed parts) (listed others) (addresses_of (new_of change) news more parts) (addresses_of change.old objects memory others) _ _ h.2
          (listed_renamed parts others) (λ k. addresses_alike parts others k) (addresses_avoid change.old objects memory n others_named others)

      addresses_alike : (trees others : Trees) → AreRenamed change trees others → addresses_of (new_of change) news more trees ≡ addresses_of change.old objects memory others
      addresses_alike no_trees no_trees h = refl
      addresses_alike no_trees (more_trees other others) h = absurd h
      addresses_alike (more_trees first rest) no_trees h = absurd h
      addresses_alike (more_trees first rest) (more_trees other others) h =
          ap (λ p. p ∷ addresses_of (new_of change) news more rest) (address_alike first other h.0)
          ∙ ap (λ l. address_of change.old objects memory other ∷ l) (addresses_alike rest others h.1)

    label_characters : (label : Label) → characters_by (relabelled change.rename label) ≡ characters_by label
    label_characters (enumerator d) = refl
    label_characters label = refl

    characters_alike : (tree other : Tree) → IsRenamed change tree other → characters_of tree ≡ characters_of other
    characters_alike (node label kind spans parts) (node other other_kind other_spans others) h = ap characters_by h.0 ∙ label_characters other

    scalar_alike : (kind : CType) (tree other : Tree) → IsRenamed change tree other → static_scalar (new_of change) news more kind tree ≡ static_scalar change.old objects memory kind other
    scalar_alike void tree other h = refl
    scalar_alike (integer kind) tree other h =
        ap (λ o. integer_value kind (kinds.convert kind (number_or o (address_of (new_of change) news more tree)))) (renamed_constant change naming.told tree other h)
        ∙ ap (λ p. integer_value kind (kinds.convert kind (number_or (constant_of change.old other) p))) (address_alike tree other h)
    scalar_alike (pointer target) tree other h = ap pointer_value (address_alike tree other h)
    scalar_alike (array element length_known) tree other h = ap (array_of (array element length_known)) (characters_alike tree other h)
    scalar_alike (struct k) tree other h = refl
    scalar_alike (function_type result parameters) tree other h = refl
    scalar_alike (const type) tree other h = refl

    one_alike : (kind : CType) (trees others : List Tree) → Zipped (IsRenamed change) trees others → static_one (new_of change) news more kind trees ≡ static_one change.old objects memory kind others
    one_alike kind [] [] h = refl
    one_alike kind [] (y ∷ ys) h = absurd h
    one_alike kind (x ∷ xs) [] h = absurd h
    one_alike kind (x ∷ xs) (y ∷ ys) h = scalar_alike (bare kind) x y h.0

    mutual
      value_alike : (kind : CType) (initialiser : Initialiser) (trees others : List Tree) → Zipped (IsRenamed change) trees others
          → static_value (new_of change) news more kind initialiser trees ≡ static_value change.old objects memory kind initialiser others
      value_alike kind one_expression trees others h = one_alike kind trees others h
      value_alike kind (in_braces items) trees others h =
          ap (λ l. compound (values (l ++ drop (count_items items) (parts_in (all_zero (layout change.old) kind))))) (parts_alike kind 0 items trees others h)

      parts_alike : (kind : CType) (i : ℕ) (items : Initialisers) (trees others : List Tree) → Zipped (IsRenamed change) trees others
          → static_parts (new_of change) news more kind i items trees ≡ static_parts change.old objects memory kind i items others
      parts_alike kind i no_items trees others h = refl
      parts_alike kind i (more_items item items) trees others h =
          ap (λ v. v ∷ static_parts (new_of change) news more kind (suc i) items (drop (expressions_in item) trees))
          (value_alike (inner_type (layout change.old) (bare kind) i) item (take (expressions_in item) trees) (take (expressions_in item) others) (zipped_take (IsRenamed change) (expressions_in item) trees others h))
          ∙ ap (λ l. static_value change.old objects memory (inner_type (layout change.old) (bare kind) i) item (take (expressions_in item) others) ∷ l)
          (parts_alike kind (suc i) items (drop (expressions_in item) trees) (drop (expressions_in item) others) (zipped_drop (IsRenamed change) (expressions_in item) trees others h))

    -- an object that both programs have gets the same first value
    initialised_beside : (block : Block) (static other : Static) → StaticAgrees change static other → (news_memory old_memory : Memory) → IsBeside n block news_memory old_memory
        → IsBeside n block (initialised (new_of change) news more static (object_named news static.declared) static.initialiser news_memory)
        (initialised change.old objects memory other (object_named objects other.declared) other.initialiser old_memory)
    initialised_beside block static other h news_memory old_memory now =
        subst (λ o. IsBeside n block (initialised (new_of change) news more static o static.initialiser news_memory) (initialised change.old objects memory other (object_named objects other.declared) other.initialiser old_memory))
        (sym (ap (object_named news) h.0 ∙ alike other.declared))
        (subst (λ i. IsBeside n block (initialised (new_of change) news more static (object_named objects other.declared) i news_memory) (initialised change.old objects memory other (object_named objects other.declared) other.initialiser old_memory))
        (sym h.1)
        (by_found (object_named objects other.declared) other.initialiser (others_named other.declared)))
      where
        by_found : (o : Option ℕ) (initialiser : Option Initialiser) → ((m : ℕ) → o ≡ Some m → m ≡ n → ⊥)
            → IsBeside n block (initialised (new_of change) news more static o initialiser news_memory) (initialised change.old objects memory other o initialiser old_memory)
        by_found None None e = now
        by_found None (Some initialiser) e = now
        by_found (Some m) None e = now
        by_found (Some m) (Some initialiser) e =
            let old_value = static_value change.old objects memory (type_declared change.old other.declared) initialiser other.expressions in
            let same : static_value (new_of change) news more (type_declared (new_of change) static.declared) initialiser static.expressions ≡ old_value =
            ap (λ d. static_value (new_of change) news more (type_declared (new_of change) d) initialiser static.expressions) h.0
            ∙ ap (λ k. static_value (new_of change) news more k initialiser static.expressions) (same_type other.declared)
            ∙ value_alike (type_declared change.old other.declared) initialiser static.expressions other.expressions h.2 in
            subst (λ v. IsBeside n block (written news_memory (whole (numbered m)) v) (written old_memory (whole (numbered m)) old_value)) (sym same)
            (beside_changed n block news_memory old_memory now m (λ block. record block { contents = old_value }) (e m refl))

    -- the objects behind the added one
    rest_initialised : (block : Block) (statics others : List Static) → Zipped (StaticAgrees change) statics others → (news_memory old_memory : Memory) → IsBeside n block news_memory old_memory
        → IsBeside n block (all_initialised (new_of change) news more statics news_memory) (all_initialised change.old objects memory others old_memory)
    rest_initialised block [] [] h news_memory old_memory now = now
    rest_initialised block [] (other ∷ others) h news_memory old_memory now = absurd h
    rest_initialised block (static ∷ statics) [] h news_memory old_memory now = absurd h
    rest_initialised block (static ∷ statics) (other ∷ others) h news_memory old_memory now =
        rest_initialised block statics others h.1 _ _ (initialised_beside block static other h.0 news_memory old_memory now)

    -- the added object
    own_initialised : (static : Static) → IsAddedObject change static → object_named news change.added ≡ Some n → (block : Block) (news_memory old_memory : Memory) → IsBeside n block news_memory old_memory
        → IsBeside n (record block { contents = integer_value change.kind change.value }) (initialised (new_of change) news more static (object_named news static.declared) static.initialiser news_memory) old_memory
    own_initialised static it named block news_memory old_memory now =
        let first_value = static_value (new_of change) news more (type_declared (new_of change) static.declared) one_expression static.expressions in
        let is : first_value ≡ integer_value change.kind change.value =
        ap (λ d. static_value (new_of change) news more (type_declared (new_of change) d) one_expression static.expressions) it.declared
        ∙ ap (λ k. static_value (new_of change) news more k one_expression static.expressions) it.kind
        ∙ ap (static_one (new_of change) news more (const (integer change.kind))) it.expressions
        ∙ ap (λ o. integer_value change.kind (kinds.convert change.kind (number_or o (address_of (new_of change) news more it.tree)))) it.constant
        ∙ ap (integer_value change.kind) it.converted in
        subst (λ o. IsBeside n (record block { contents = integer_value change.kind change.value }) (initialised (new_of change) news more static o static.initialiser news_memory) old_memory)
        (sym (ap (object_named news) it.declared ∙ named))
        (subst (λ i. IsBeside n (record block { contents = integer_value change.kind change.value }) (initialised (new_of change) news more static (Some n) i news_memory) old_memory)
        (sym it.initialiser)
        (subst (λ v. IsBeside n (record block { contents = integer_value change.kind change.value }) (written news_memory (whole (numbered n)) v) old_memory) (sym is)
        (beside_own n block news_memory old_memory now (λ block. record block { contents = integer_value change.kind change.value }))))

    -- all of them
    all_beside : (before behind : List Static) (added : Static) (others : List Static) → IsAddedObject change added → object_named news change.added ≡ Some n
        → Zipped (StaticAgrees change) (before ++ behind) others → (block : Block) (news_memory old_memory : Memory) → IsBeside n block news_memory old_memory
        → IsBeside n (record block { contents = integer_value change.kind change.value }) (all_initialised (new_of change) news more (before ++ added ∷ behind) news_memory)
        (all_initialised change.old objects memory others old_memory)
    all_beside [] behind added others it named h block news_memory old_memory now =
        rest_initialised (record block { contents = integer_value change.kind change.value }) behind others h _ old_memory (own_initialised added it named block news_memory old_memory now)
    all_beside (static ∷ before) behind added [] it named h block news_memory old_memory now = absurd h
    all_beside (static ∷ before) behind added (other ∷ others) it named h block news_memory old_memory now =
        all_beside before behind added others it named h.1 block _ _ (initialised_beside block static other h.0 news_memory old_memory now)

-- ---- names

less_of : (m n : ℕ) → nat_lt m n ≡ true → m < n
less_of m n e = grind arith

less_is : (m n : ℕ) → m < n → nat_lt m n ≡ true
less_is m n e = grind arith

least_of : (m n : ℕ) → nat_lt m n ≡ false → n ≤ m
least_of m n e = grind arith

least_is : (m n : ℕ) → n ≤ m → nat_lt m n ≡ false
least_is m n e = grind arith

zipped_length : {X Y : Type 0} (R : X → Y → Type 0) (xs : List X) (ys : List Y) → Zipped R xs ys → length xs ≡ length ys
zipped_length R [] [] h = refl
zipped_length R [] (y ∷ ys) h = absurd h
zipped_length R (x ∷ xs) [] h = absurd h
zipped_length R (x ∷ xs) (y ∷ ys) h = ap suc (zipped_length R xs ys h.1)

length_with : {X : Type 0} (xs ys : List X) (x : X) → length (xs ++ x ∷ ys) ≡ suc (length (xs ++ ys))
length_with [] ys x = refl
length_with (y ∷ xs) ys x = ap suc (length_with xs ys x)

length_before : {X : Type 0} (xs ys : List X) → length xs ≤ length (xs ++ ys)
length_before [] ys = omega arith
length_before (x ∷ xs) ys = up (length xs) (length (xs ++ ys)) (length_before xs ys)
  where
    up : (m n : ℕ) → m ≤ n → suc m ≤ suc n
    up m n h = omega (arith, h)

-- all names but the one at this place
abbrev without : (ℕ → ℕ) → ℕ → ℕ → ℕ
without names place i = if nat_lt i place then names i else names (suc i)

module _ (names : ℕ → ℕ) (place : ℕ) where
  without_below : (i : ℕ) → i < place → without names place i ≡ names i
  without_below i h = ap (λ b. if b then names i else names (suc i)) (less_is i place h)

  without_beyond : (i : ℕ) → place ≤ i → without names place i ≡ names (suc i)
  without_beyond i h = ap (λ b. if b then names i else names (suc i)) (least_is i place h)

  -- the index of a name among all
  abbrev index : ℕ → ℕ
  index i = if nat_lt i place then i else suc i

  without_is : (i : ℕ) → without names place i ≡ names (index i)
  without_is i = by_bool (nat_lt i place)
    where
      by_bool : (b : Bool) → (if b then names i else names (suc i)) ≡ names (if b then i else suc i)
      by_bool true = refl
      by_bool false = refl

  index_apart : (i : ℕ) → index i ≡ place → ⊥
  index_apart i = by_bool (nat_lt i place) refl
    where
      by_bool : (b : Bool) → nat_lt i place ≡ b → (if b then i else suc i) ≡ place → ⊥
      by_bool true e f = omega (arith, less_of i place e, f)
      by_bool false e f = omega (arith, least_of i place e, f)

  index_injective : (i j : ℕ) → index i ≡ index j → i ≡ j
  index_injective i j = by_bools (nat_lt i place) (nat_lt j place) refl refl
    where
      by_bools : (a b : Bool) → nat_lt i place ≡ a → nat_lt j place ≡ b → (if a then i else suc i) ≡ (if b then j else suc j) → i ≡ j
      by_bools true true e f g = g
      by_bools true false e f g = absurd (omega (arith, less_of i place e, least_of j place f, g))
      by_bools false true e f g = absurd (omega (arith, least_of i place e, less_of j place f, g))
      by_bools false false e f g = omega (arith, g)

-- ---- how runs begin

-- The objects of static storage duration of the new program, which take these names in order, are those of the old one by other names, and the
-- added one, which holds its value. All that is made later has the same names in both programs.
pub record HasOneMore (change : Named) (names : ℕ → ℕ) : Type 0 where
  pub number : ℕ
  pub others : ℕ → ℕ
  pub fresh : IsFresh others []
  pub named : NameAlike change number (named_from names 0 (static_numbers change.statics) []) (named_from others 0 (static_numbers change.old.statics) [])
  pub memory : IsBeside number (held change) (statics_memory (new_of change) names (named_from names 0 (static_numbers change.statics) []))
      (statics_memory change.old others (named_from others 0 (static_numbers change.old.statics) []))
  pub later : (i : ℕ) → names (length change.statics + i) ≡ others (length change.old.statics + i)
  pub apart : (i : ℕ) → names (length change.statics + i) ≡ number → ⊥

module _ (change : Named) (naming : IsNaming change) (adds : AddsObject change) (names : ℕ → ℕ) (fresh : IsFresh names []) where
  abbrev place : ℕ
  place = length adds.before

  abbrev number : ℕ
  number = names place

  abbrev old_names : ℕ → ℕ
  old_names = without names place

  old_apart : (i : ℕ) → old_names i ≡ number → ⊥
  old_apart i e = index_apart names place i (fresh.0 (index names place i) place (sym (without_is names place i) ∙ e))

  old_fresh : IsFresh old_names []
  old_fresh = (
    λ i j e. index_injective names place i j (fresh.0 (index names place i) (index names place j) (sym (without_is names place i) ∙ e ∙ without_is names place j)),
    λ i. refl,
  )

  -- ---- what declarations name

  same_one : (news objects : Objects) → ((d : ℕ) → object_named news (change.rename d) ≡ object_named objects d) → (e d n m : ℕ) → e ≡ change.rename d → n ≡ m
      → (c : ℕ) → object_named ((e, n) ∷ news) (change.rename c) ≡ object_named ((d, m) ∷ objects) c
  same_one news objects h e d n m is same c =
      ap (λ x. if x == change.rename c then Some n else object_named news (change.rename c)) is
      ∙ ap (λ b. if b then Some n else object_named news (change.rename c)) (same_renamed change.rename naming.injective d c)
      ∙ ap (λ k. if d == c then Some k else object_named news (change.rename c)) same
      ∙ ap (λ o. if d == c then Some m else o) (h c)

  alike_one : (news objects : Objects) → NameAlike change number news objects → (e d n m : ℕ) → e ≡ change.rename d → n ≡ m → NameAlike change number ((e, n) ∷ news) ((d, m) ∷ objects)
  alike_one news objects h e d n m is same = record {
    same = same_one news objects h.same e d n m is same;
    added =
        ap (λ b. if b then Some n else object_named news change.added) (differ_is e change.added (λ f. naming.apart d (sym is ∙ f))) ∙ h.added;
  }

  alike_added : (news objects : Objects) → ((d : ℕ) → object_named news (change.rename d) ≡ object_named objects d) → (e n : ℕ) → e ≡ change.added → n ≡ number
      → NameAlike change number ((e, n) ∷ news) objects
  alike_added news objects h e n is same = record {
    same = λ d. ap (λ b. if b then Some n else object_named news (change.rename d)) (differ_is e (change.rename d) (λ f. naming.apart d (sym f ∙ is))) ∙ h d;
    added = ap (λ b. if b then Some n else object_named news change.added) (equal_is e change.added is) ∙ ap Some same;
  }

  named_behind : (statics others : List Static) → Zipped (StaticAgrees change) statics others → (i : ℕ) → place ≤ i → (news objects : Objects) → NameAlike change number news objects
      → NameAlike change number (named_from names (suc i) (static_numbers statics) news) (named_from old_names i (static_numbers others) objects)
  named_behind [] [] h i far news objects now = now
  named_behind [] (other ∷ others) h i far news objects now = absurd h
  named_behind (static ∷ statics) [] h i far news objects now = absurd h
  named_behind (static ∷ statics) (other ∷ others) h i far news objects now =
      named_behind statics others h.1 (suc i) (omega (arith, far)) _ _
      (alike_one news objects now static.declared other.declared (names (suc i)) (old_names i) h.0.0 (sym (without_beyond names place i far)))

  named_all : (before behind : List Static) (added : Static) (others : List Static) → IsAddedObject change added → Zipped (StaticAgrees change) (before ++ behind) others
      → (i : ℕ) → i + length before ≡ place → (news objects : Objects) → ((d : ℕ) → object_named news (change.rename d) ≡ object_named objects d)
      → NameAlike change number (named_from names i (static_numbers (before ++ added ∷ behind)) news) (named_from old_names i (static_numbers others) objects)
  named_all [] behind added others it h i at news objects now =
      named_behind behind others h i (omega (arith, at)) _ _ (alike_added news objects now added.declared (names i) it.declared (ap names (here at)))
    where
      here : i + 0 ≡ place → i ≡ place
      here e = omega (arith, e)
  named_all (static ∷ before) behind added [] it h i at news objects now = absurd h
  named_all (static ∷ before) behind added (other ∷ others) it h i at news objects now =
      named_all before behind added others it h.1 (suc i) (next (length before) at) _ _
      (same_one news objects now static.declared other.declared (names i) (old_names i) h.0.0 (sym (without_below names place i (nearer (length before) at))))
    where
      next : (m : ℕ) → i + suc m ≡ place → suc i + m ≡ place
      next m e = omega (arith, e)

      nearer : (m : ℕ) → i + suc m ≡ place → i < place
      nearer m e = omega (arith, e)

  names_others : (ds : List ℕ) (i : ℕ) (objects : Objects) → ((d m : ℕ) → object_named objects d ≡ Some m → m ≡ number → ⊥)
      → (d m : ℕ) → object_named (named_from old_names i ds objects) d ≡ Some m → m ≡ number → ⊥
  names_others [] i objects h = h
  names_others (c ∷ cs) i objects h = names_others cs (suc i) ((c, old_names i) ∷ objects) (λ d. by_bool (c == d) (object_named objects d) (h d))
    where
      by_bool : (b : Bool) (o : Option ℕ) → ((m : ℕ) → o ≡ Some m → m ≡ number → ⊥) → (m : ℕ) → (if b then Some (old_names i) else o) ≡ Some m → m ≡ number → ⊥
      by_bool true o k m e f = old_apart i (some_is_some (old_names i) m e ∙ f)
      by_bool false o k m e f = k m e f

  -- ---- memory

  abbrev zeroed_block : CType → Block
  zeroed_block kind = record (new_block (layout change.old) kind) { contents = all_zero (layout change.old) kind }

  abbrev zeroed : Block
  zeroed = zeroed_block (const (integer change.kind))

  same_block : (static other : Static) → StaticAgrees change static other → zeroed_block (type_declared (new_of change) static.declared) ≡ zeroed_block (type_declared change.old other.declared)
  same_block static other h = ap (λ d. zeroed_block (type_declared (new_of change) d)) h.0 ∙ ap zeroed_block (same_type change naming other.declared)

  zeroed_behind : (statics others : List Static) → Zipped (StaticAgrees change) statics others → (i : ℕ) → place ≤ i → (more memory : Memory) → IsBeside number zeroed more memory
      → IsBeside number zeroed (zeroed_from (new_of change) names (suc i) (static_numbers statics) more) (zeroed_from change.old old_names i (static_numbers others) memory)
  zeroed_behind [] [] h i far more memory now = now
  zeroed_behind [] (other ∷ others) h i far more memory now = absurd h
  zeroed_behind (static ∷ statics) [] h i far more memory now = absurd h
  zeroed_behind (static ∷ statics) (other ∷ others) h i far more memory now =
      zeroed_behind statics others h.1 (suc i) (omega (arith, far)) _ _
      (added_alike number zeroed more memory now (names (suc i)) (old_names i) _ _ (sym (without_beyond names place i far)) (same_block static other h.0) (old_apart i))

  zeroed_all : (before behind : List Static) (added : Static) (others : List Static) → IsAddedObject change added → Zipped (StaticAgrees change) (before ++ behind) others
      → (i : ℕ) → i + length before ≡ place → (more memory : Memory) → IsSame number more memory
      → IsBeside number zeroed (zeroed_from (new_of change) names i (static_numbers (before ++ added ∷ behind)) more) (zeroed_from change.old old_names i (static_numbers others) memory)
  zeroed_all [] behind added others it h i at more memory now =
      zeroed_behind behind others h i (omega (arith, at)) _ _
      (subst (λ n. IsBeside number zeroed ((n, zeroed_block (type_declared (new_of change) added.declared)) ∷ more) memory) (sym (ap names (here at)))
      (subst (λ kind. IsBeside number zeroed ((number, zeroed_block kind) ∷ more) memory) (sym (ap (type_declared (new_of change)) it.declared ∙ it.kind))
      (beside_itself number zeroed more memory now)))
    where
      here : i + 0 ≡ place → i ≡ place
      here e = omega (arith, e)
  zeroed_all (static ∷ before) behind added [] it h i at more memory now = absurd h
  zeroed_all (static ∷ before) behind added (other ∷ others) it h i at more memory now =
      zeroed_all before behind added others it h.1 (suc i) (next (length before) at) _ _
      (same_added number more memory now (names i) (old_names i) _ _ (sym (without_below names place i (nearer (length before) at))) (same_block static other h.0) (old_apart i))
    where
      next : (m : ℕ) → i + suc m ≡ place → suc i + m ≡ place
      next m e = omega (arith, e)

      nearer : (m : ℕ) → i + suc m ≡ place → i < place
      nearer m e = omega (arith, e)

  -- ---- all together

  abbrev all : List Static
  all = adds.before ++ adds.added ∷ adds.behind

  abbrev new_objects : List Static → Objects
  new_objects statics = named_from names 0 (static_numbers statics) []

  abbrev old_objects : Objects
  old_objects = named_from old_names 0 (static_numbers change.old.statics) []

  alike_all : NameAlike change number (new_objects all) old_objects
  alike_all = named_all adds.before adds.behind adds.added change.old.statics adds.object adds.others 0 (omega arith) [] [] (λ d. refl)

  nothing_named : (d m : ℕ) → object_named old_objects d ≡ Some m → m ≡ number → ⊥
  nothing_named = names_others (static_numbers change.old.statics) 0 [] (λ d m e f. none_is_some m e)

  memory_all : (statics : List Static) → statics ≡ all
      → IsBeside number (held change)
      (all_initialised (new_of change) (new_objects statics) (zeroed_from (new_of change) names 0 (static_numbers statics) []) statics (zeroed_from (new_of change) names 0 (static_numbers statics) []))
      (statics_memory change.old old_names old_objects)
  memory_all statics e =
      let first = zeroed_all adds.before adds.behind adds.added change.old.statics adds.object adds.others 0 (omega arith) [] [] (record { same = λ m. refl; absent = refl }) in
      subst (λ ss. IsBeside number (held change) (all_initialised (new_of change) (new_objects ss) (zeroed_from (new_of change) names 0 (static_numbers ss) []) ss (zeroed_from (new_of change) names 0 (static_numbers ss) []))
      (statics_memory change.old old_names old_objects)) (sym e)
      (all_beside change naming number zeroed (new_objects all) old_objects _ _ alike_all.same nothing_named first
      adds.before adds.behind adds.added change.old.statics adds.object alike_all.added adds.others zeroed _ _ first)

  counted : length change.statics ≡ suc (length change.old.statics)
  counted = ap length adds.statics ∙ length_with adds.before adds.behind adds.added ∙ ap suc (zipped_length (StaticAgrees change) _ _ adds.others)

  far : place ≤ length change.old.statics
  far = subst (λ n. place ≤ n) (zipped_length (StaticAgrees change) _ _ adds.others) (length_before adds.before adds.behind)

  pub one_more : HasOneMore change names
  one_more = record {
    number = number;
    others = old_names;
    fresh = old_fresh;
    named = subst (λ ss. NameAlike change number (new_objects ss) old_objects) (sym adds.statics) alike_all;
    memory = memory_all change.statics adds.statics;
    later = λ i. ap (λ n. names (n + i)) counted ∙ ap names (one_further (length change.old.statics) i) ∙ sym (without_beyond names place (length change.old.statics + i) (further i far));
    apart = λ i e. never i (fresh.0 (length change.statics + i) place e) counted far;
  }
    where
      one_further : (m i : ℕ) → suc m + i ≡ suc (m + i)
      one_further m i = omega arith

      further : (i : ℕ) → place ≤ length change.old.statics → place ≤ length change.old.statics + i
      further i h = omega (arith, h)

      never : (i : ℕ) → length change.statics + i ≡ place → length change.statics ≡ suc (length change.old.statics) → place ≤ length change.old.statics → ⊥
      never i e f g = omega (arith, e, f, g)
