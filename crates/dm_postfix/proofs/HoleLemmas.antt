-- The items of a tree with a part put in, and the trees that items stand for.
use Rattle.std.proofs.Common.{◌≡◌, Bool, true, false, List, [], ◌∷◌, ◌++◌, IsTrue, refl, sym, ap, ap₂, ◌∙◌, append_assoc, append-nil}
use Rattle.dm_meaning.specs.Values.{At}
use Rattle.dm_meaning.specs.Running.{Run, done, to_do, Runs, no_runs, more_runs, locks_in, locks_in_all, Open, first_open, others_open, open_parts, Hole, here, within, Holes, in_first, in_others, filled_in, all_filled_in, IsOpen, AreOpen, hole_in, holes_in}
use Rattle.dm_meaning.specs.Expressions.{where_open}
use Rattle.dm_postfix.specs.Postfix.{Slots, closed_locks, with_slot, slots_of, node_of, Item, evaluated, waiting, items, items_in, locks_of, AreUnlocked, slots_in_holes, before_of, before_in, after_of, after_in, Part, whole, holed, all_whole, one_holed, taking_part, taking_run, taken, put_together, built, tree_in, hole_among, tree_of, hole_of}
use Rattle.dm_postfix.proofs.ReductionLemmas.{slots-filled}

-- ---- a part put in

where-opened : {X : Type 0} (opened : Bool) (xs : List X) → IsTrue opened → where_open opened xs ≡ xs
where-opened opened xs o = ap (λ b. where_open b xs) o

-- what stands behind a part is the same where something is joined to it
joined-behind : (before own after more : List Item) → (before ++ (own ++ after)) ++ more ≡ before ++ (own ++ (after ++ more))
joined-behind before own after more = append_assoc before (own ++ after) more ∙ ap (λ xs. before ++ xs) (append_assoc own after more)

mutual
  -- the items of a tree with a part put in
  pub items-filled : (hole : Hole) (run : Run) → IsOpen hole → items (filled_in hole run) ≡ before_of hole ++ (items run ++ after_of hole)
  items-filled here run o = sym (append-nil (items run))
  items-filled (within doing kind place parts) run o =
      ap₂ (λ own slots. own ++ waiting (node_of doing kind place slots) ∷ []) (items_in-filled (open_parts doing) parts run o) (slots-filled (open_parts doing) parts run o)
      ∙ joined-behind (before_in (open_parts doing) parts) (items run) (after_in (open_parts doing) parts) (waiting (node_of doing kind place (slots_in_holes (open_parts doing) parts)) ∷ [])

  items_in-filled : (opens : Open) (holes : Holes) (run : Run) → AreOpen opens holes → items_in opens (all_filled_in holes run) ≡ before_in opens holes ++ (items run ++ after_in opens holes)
  items_in-filled opens (in_first hole rest) run o =
      ap (λ own. own ++ items_in (others_open opens) rest) (where-opened (first_open opens) (items (filled_in hole run)) o.0 ∙ items-filled hole run o.1)
      ∙ joined-behind (before_of hole) (items run) (after_of hole) (items_in (others_open opens) rest)
  items_in-filled opens (in_others first holes) run o =
      ap (λ others. where_open (first_open opens) (items first) ++ others) (items_in-filled (others_open opens) holes run o)
      ∙ sym (append_assoc (where_open (first_open opens) (items first)) (before_in (others_open opens) holes) (items run ++ after_in (others_open opens) holes))

mutual
  -- a part that is all of a part that is left out
  pub hole_in-here : (hole : Hole) → hole_in hole here ≡ hole
  hole_in-here here = refl
  hole_in-here (within doing kind place parts) = ap (within doing kind place) (holes_in-here parts)

  holes_in-here : (holes : Holes) → holes_in holes here ≡ holes
  holes_in-here (in_first hole rest) = ap (λ h. in_first h rest) (hole_in-here hole)
  holes_in-here (in_others first holes) = ap (in_others first) (holes_in-here holes)

-- ---- the trees that items stand for

pub built-append : (parts : List Part) (xs ys : List Item) → built parts (xs ++ ys) ≡ built (built parts xs) ys
built-append parts [] ys = refl
built-append parts (evaluated one ∷ xs) ys = built-append _ xs ys
built-append parts (waiting node ∷ xs) ys = built-append _ xs ys

-- the operands of a node, behind other parts, the last one first
abbrev stack_if : Bool → Part → List Part → List Part
stack_if true part parts = part ∷ parts
stack_if false part parts = parts

abbrev stacked : Open → Runs → List Part → List Part
stacked opens no_runs parts = parts
stacked opens (more_runs first rest) parts = stacked (others_open opens) rest (stack_if (first_open opens) (whole first) parts)

abbrev stacked_in : Open → Holes → Hole → List Part → List Part
stacked_in opens (in_first hole rest) inner parts = stacked (others_open opens) rest (holed (hole_in hole inner) ∷ parts)
stacked_in opens (in_others first holes) inner parts = stacked_in (others_open opens) holes inner (stack_if (first_open opens) (whole first) parts)

taken-from : (opened : Bool) (first : Run) (slots : Slots) (stack : List Part) (rest : Runs) (parts : List Part)
    → taken slots stack ≡ record { gathered = all_whole rest; left = stack_if opened (whole first) parts }
    → taken (with_slot opened first slots) stack ≡ record { gathered = all_whole (more_runs first rest); left = parts }
taken-from true first slots stack rest parts is = ap (λ t. taking_part t.gathered t.left) is
taken-from false first slots stack rest parts is = ap (taking_run first) is

-- a node takes its operands
pub taken-stacked : (opens : Open) (runs : Runs) (parts : List Part) → taken (slots_of opens runs) (stacked opens runs parts) ≡ record { gathered = all_whole runs; left = parts }
taken-stacked opens no_runs parts = refl
taken-stacked opens (more_runs first rest) parts =
    taken-from (first_open opens) first (slots_of (others_open opens) rest) (stacked (others_open opens) rest (stack_if (first_open opens) (whole first) parts)) rest parts
    (taken-stacked (others_open opens) rest (stack_if (first_open opens) (whole first) parts))

taken_in-from : (opened : Bool) (first : Run) (slots : Slots) (stack : List Part) (holes : Holes) (parts : List Part)
    → taken slots stack ≡ record { gathered = one_holed holes; left = stack_if opened (whole first) parts }
    → taken (with_slot opened first slots) stack ≡ record { gathered = one_holed (in_others first holes); left = parts }
taken_in-from true first slots stack holes parts is = ap (λ t. taking_part t.gathered t.left) is
taken_in-from false first slots stack holes parts is = ap (taking_run first) is

pub taken-stacked_in : (opens : Open) (holes : Holes) (inner : Hole) (parts : List Part)
    → taken (slots_in_holes opens holes) (stacked_in opens holes inner parts) ≡ record { gathered = one_holed (holes_in holes inner); left = parts }
taken-stacked_in opens (in_first hole rest) inner parts = ap (λ t. taking_part t.gathered t.left) (taken-stacked (others_open opens) rest (holed (hole_in hole inner) ∷ parts))
taken-stacked_in opens (in_others first holes) inner parts =
    taken_in-from (first_open opens) first (slots_in_holes (others_open opens) holes) (stacked_in (others_open opens) holes inner (stack_if (first_open opens) (whole first) parts)) (holes_in holes inner) parts
    (taken-stacked_in (others_open opens) holes inner (stack_if (first_open opens) (whole first) parts))

first-built : (opened : Bool) (first : Run) (parts : List Part) → built parts (items first) ≡ whole first ∷ parts
    → built parts (where_open opened (items first)) ≡ stack_if opened (whole first) parts
first-built true first parts is = is
first-built false first parts is = refl

mutual
  -- the items of a tree stand for it
  pub built-items : (run : Run) (parts : List Part) → built parts (items run) ≡ whole run ∷ parts
  built-items (done kind result locks) parts = refl
  built-items (to_do doing kind place runs) parts =
      built-append parts (items_in (open_parts doing) runs) (waiting (node_of doing kind place (slots_of (open_parts doing) runs)) ∷ [])
      ∙ (ap (λ stack. built stack (waiting (node_of doing kind place (slots_of (open_parts doing) runs)) ∷ [])) (built-items_in (open_parts doing) runs parts)
      ∙ ap (λ t. put_together (node_of doing kind place (slots_of (open_parts doing) runs)) t.gathered ∷ t.left) (taken-stacked (open_parts doing) runs parts))

  built-items_in : (opens : Open) (runs : Runs) (parts : List Part) → built parts (items_in opens runs) ≡ stacked opens runs parts
  built-items_in opens no_runs parts = refl
  built-items_in opens (more_runs first rest) parts =
      built-append parts (where_open (first_open opens) (items first)) (items_in (others_open opens) rest)
      ∙ (ap (λ stack. built stack (items_in (others_open opens) rest)) (first-built (first_open opens) first parts (built-items first parts))
      ∙ built-items_in (others_open opens) rest (stack_if (first_open opens) (whole first) parts))

mutual
  -- those in front of a part that is left out and behind it stand for the tree without the part
  pub built-hole : (hole inner : Hole) (parts : List Part) → built (holed inner ∷ built parts (before_of hole)) (after_of hole) ≡ holed (hole_in hole inner) ∷ parts
  built-hole here inner parts = refl
  built-hole (within doing kind place holes) inner parts =
      built-append _ (after_in (open_parts doing) holes) (waiting (node_of doing kind place (slots_in_holes (open_parts doing) holes)) ∷ [])
      ∙ (ap (λ stack. built stack (waiting (node_of doing kind place (slots_in_holes (open_parts doing) holes)) ∷ [])) (built-holes (open_parts doing) holes inner parts)
      ∙ ap (λ t. put_together (node_of doing kind place (slots_in_holes (open_parts doing) holes)) t.gathered ∷ t.left) (taken-stacked_in (open_parts doing) holes inner parts))

  built-holes : (opens : Open) (holes : Holes) (inner : Hole) (parts : List Part)
      → built (holed inner ∷ built parts (before_in opens holes)) (after_in opens holes) ≡ stacked_in opens holes inner parts
  built-holes opens (in_first hole rest) inner parts =
      built-append _ (after_of hole) (items_in (others_open opens) rest)
      ∙ (ap (λ stack. built stack (items_in (others_open opens) rest)) (built-hole hole inner parts)
      ∙ built-items_in (others_open opens) rest (holed (hole_in hole inner) ∷ parts))
  built-holes opens (in_others first holes) inner parts =
      ap (λ stack. built (holed inner ∷ stack) (after_in (others_open opens) holes))
      (built-append parts (where_open (first_open opens) (items first)) (before_in (others_open opens) holes)
      ∙ ap (λ stack. built stack (before_in (others_open opens) holes)) (first-built (first_open opens) first parts (built-items first parts)))
      ∙ built-holes (others_open opens) holes inner (stack_if (first_open opens) (whole first) parts)

-- the tree of its items
pub tree-items : (run : Run) → tree_of (items run) ≡ run
tree-items run = ap tree_in (built-items run [])

-- the tree without a part, of the items in front of it and behind it
pub hole-items : (hole : Hole) → hole_of (before_of hole) (after_of hole) ≡ hole
hole-items hole = ap hole_among (built-hole hole here []) ∙ hole_in-here hole

-- ---- locks

pub locks-append : (xs ys : List Item) → locks_of (xs ++ ys) ≡ locks_of xs ++ locks_of ys
locks-append [] ys = refl
locks-append (evaluated one ∷ xs) ys = ap (λ rest. one.locks ++ rest) (locks-append xs ys) ∙ sym (append_assoc one.locks (locks_of xs) (locks_of ys))
locks-append (waiting node ∷ xs) ys = locks-append xs ys

pub unlocked-first : (xs ys : List Item) → AreUnlocked (xs ++ ys) → AreUnlocked xs
unlocked-first [] ys all = tt
unlocked-first (evaluated one ∷ xs) ys all = unlocked-first xs ys all
unlocked-first (waiting node ∷ xs) ys all = (all.0, unlocked-first xs ys all.1)

pub unlocked-second : (xs ys : List Item) → AreUnlocked (xs ++ ys) → AreUnlocked ys
unlocked-second [] ys all = all
unlocked-second (evaluated one ∷ xs) ys all = unlocked-second xs ys all
unlocked-second (waiting node ∷ xs) ys all = unlocked-second xs ys all.1

empty-first : {X : Type 0} (xs ys : List X) → xs ++ ys ≡ [] → xs ≡ []
empty-first [] ys e = refl
empty-first (x ∷ xs) ys e = absurd (cc)

empty-second : {X : Type 0} (xs ys : List X) → xs ++ ys ≡ [] → ys ≡ []
empty-second [] ys e = e
empty-second (x ∷ xs) ys e = absurd (cc)

first-locks : (opened : Bool) (first : Run) (slots : Slots) (later : List Item) (locks : List At) → closed_locks (with_slot opened first slots) ≡ []
    → AreUnlocked (where_open opened (items first) ++ later)
    → (AreUnlocked (items first) → locks_of (items first) ≡ locks_in first) → (closed_locks slots ≡ [] → AreUnlocked later → locks_of later ≡ locks)
    → locks_of (where_open opened (items first) ++ later) ≡ locks_in first ++ locks
first-locks true first slots later locks none all own others =
    locks-append (items first) later ∙ ap₂ (λ p q. p ++ q) (own (unlocked-first (items first) later all)) (others none (unlocked-second (items first) later all))
first-locks false first slots later locks none all own others =
    others (empty-second (locks_in first) (closed_locks slots) none) all ∙ ap (λ xs. xs ++ locks) (sym (empty-first (locks_in first) (closed_locks slots) none))

mutual
  -- the locks of a tree are those of its results, where the parts that aren't evaluated have none
  pub locks-items : (run : Run) → AreUnlocked (items run) → locks_of (items run) ≡ locks_in run
  locks-items (done kind result locks) all = append-nil locks
  locks-items (to_do doing kind place parts) all =
      let node = waiting (node_of doing kind place (slots_of (open_parts doing) parts)) in
      let own = items_in (open_parts doing) parts in
      locks-append own (node ∷ [])
      ∙ (append-nil (locks_of own)
      ∙ locks_in-items (open_parts doing) parts (unlocked-second own (node ∷ []) all).0 (unlocked-first own (node ∷ []) all))

  locks_in-items : (opens : Open) (parts : Runs) → closed_locks (slots_of opens parts) ≡ [] → AreUnlocked (items_in opens parts) → locks_of (items_in opens parts) ≡ locks_in_all parts
  locks_in-items opens no_runs none all = refl
  locks_in-items opens (more_runs first rest) none all =
      first-locks (first_open opens) first (slots_of (others_open opens) rest) (items_in (others_open opens) rest) (locks_in_all rest) none all
      (locks-items first) (locks_in-items (others_open opens) rest)
