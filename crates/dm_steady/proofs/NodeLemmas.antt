-- Which operands of a node are unsequenced, and what stands beside two places that are both evaluated first.
--     NodeSort label parts      a node leaves its operands unsequenced, has at most one, evaluates one before the others, or none
--     sort_of      so does each typed expression
--     IsLone opens before parts      no operand has another one beside it
--     IsBeside full path tree      a tree neither stores nor calls, or stands in one that is beside a place
--     two_first      of two seats that are evaluated first, each is beside the other
use Rattle.std.specs.Prelude.{◌≡◌, refl, ◌⊎◌, ℕ, zero, suc, Bool, true, false, not, ◌==◌, List, [], ◌∷◌, ◌++◌, Option, Some, option_and_then, if◌then◌else◌}
use Rattle.std.proofs.Common.{ap, sym, ◌∙◌, subst, arith, inl, inr}
use Rattle.std.proofs.lemmas.Bool.{true≢false, false≢true, and_parts}
use Rattle.dm_runs.specs.declared.run.Occurrence.{Occurrence}
use Rattle.dm_runs.specs.declared.run.Run.{Run}
use Rattle.dm_type.specs.CTypes.{CType}
use Rattle.dm_tree.specs.declared.tree.Sign.TheVariants as sign
use Rattle.dm_tree.specs.Paths.{Path, tree_in, tree_at}
use Rattle.dm_tree.specs.Scenes.{Scene}
use Rattle.dm_tree.specs.Trees.{Label, number, enumerator, literal, object, function, read, decay, convert, address, follow, member, unary, binary, both, either, choose, comma, store, update, count, call, sizeof_tree, sizeof_kind, Spans, Tree, Trees, node, no_trees, more_trees, label_of, spans_of, trees_of, listed, is_statement}
use Rattle.dm_tree.specs.Typing.{Fits}
use Rattle.dm_meaning.specs.Among.{IsAmong}
use Rattle.dm_meaning.specs.Running.{begun, Open, only_first, nothing, first_open, others_open, open_of}
use Rattle.dm_meaning.specs.Wholes.{is_expression, are_expressions}
use Rattle.dm_meaning.proofs.GrowLemmas.{equal_is}
use Rattle.dm_meaning.proofs.OptionLemmas.{none_is_some, some_is_some}
use Rattle.dm_effect.specs.Entities.{passes}
use Rattle.dm_effect.specs.Sequencing.{comes_first, is_first, is_unsequenced, around, beside}
use Rattle.dm_rewrite.specs.Computed.{IsPure}
use Rattle.dm_agree.specs.Standing.{occurrences_below}
use Rattle.dm_late.specs.Late.{open_trees, beside_first, before_others}
use Rattle.dm_steady.proofs.PartLemmas.{at_behind, IsPartOf, itself, part_below, IsTyped, typed_part}
use Rattle.dm_steady.proofs.SeatLemmas.{IsSeat}
use Rattle.dm_steady.proofs.StableLemmas.{not_false, IsCovered, found_among}
use Rattle.dm_steady.proofs.StableLemmas as covered
use Rattle.dm_steady.proofs.WayLemmas.{beside_more, beside_within, other_operand}

equal_nat : (a b : ℕ) → (a == b) ≡ true → a ≡ b
equal_nat a b e = grind (arith, e)

-- ---- sorts of nodes

pub data HasFew (parts : Trees) : Type 0 where
  no_part : parts ≡ no_trees → HasFew parts
  one_part : (first : Tree) → parts ≡ more_trees first no_trees → HasFew parts

none : HasFew no_trees
none = no_part refl

alone : (first : Tree) → HasFew (more_trees first no_trees)
alone first = one_part first refl

pub data NodeSort (label : Label) (parts : Trees) : Type 0 where
  unsequenced : is_unsequenced label ≡ true → NodeSort label parts
  single : HasFew parts → NodeSort label parts
  picks : open_of label ≡ only_first → ((n : ℕ) → comes_first label n ≡ true → n ≡ 0) → NodeSort label parts
  unevaluated : open_of label ≡ nothing → ((n : ℕ) → comes_first label n ≡ true → ⊥) → NodeSort label parts

zero_first : (n : ℕ) → (n == 0) ≡ true → n ≡ 0
zero_first n e = equal_nat n 0 e

sort_of : (scene : Scene) (label : Label) (kind : CType) (parts : Trees) → is_statement label ≡ false → Fits scene label kind (listed parts) → NodeSort label parts
sort_of scene (number value) kind no_trees e fits = single none
sort_of scene (number value) kind (more_trees first rest) e fits = absurd fits
sort_of scene (enumerator at) kind no_trees e fits = single none
sort_of scene (enumerator at) kind (more_trees first rest) e fits = absurd fits
sort_of scene (literal bytes unit) kind no_trees e fits = single none
sort_of scene (literal bytes unit) kind (more_trees first rest) e fits = absurd fits
sort_of scene (object at) kind no_trees e fits = single none
sort_of scene (object at) kind (more_trees first rest) e fits = absurd fits
sort_of scene (function at) kind no_trees e fits = single none
sort_of scene (function at) kind (more_trees first rest) e fits = absurd fits
sort_of scene read kind no_trees e fits = absurd fits
sort_of scene read kind (more_trees first no_trees) e fits = single (alone first)
sort_of scene read kind (more_trees first (more_trees second rest)) e fits = absurd fits
sort_of scene decay kind no_trees e fits = absurd fits
sort_of scene decay kind (more_trees first no_trees) e fits = single (alone first)
sort_of scene decay kind (more_trees first (more_trees second rest)) e fits = absurd fits
sort_of scene address kind no_trees e fits = absurd fits
sort_of scene address kind (more_trees first no_trees) e fits = single (alone first)
sort_of scene address kind (more_trees first (more_trees second rest)) e fits = absurd fits
sort_of scene follow kind no_trees e fits = absurd fits
sort_of scene follow kind (more_trees first no_trees) e fits = single (alone first)
sort_of scene follow kind (more_trees first (more_trees second rest)) e fits = absurd fits
sort_of scene (member m) kind no_trees e fits = absurd fits
sort_of scene (member m) kind (more_trees first no_trees) e fits = single (alone first)
sort_of scene (member m) kind (more_trees first (more_trees second rest)) e fits = absurd fits
sort_of scene (count plus before) kind no_trees e fits = absurd fits
sort_of scene (count plus before) kind (more_trees first no_trees) e fits = single (alone first)
sort_of scene (count plus before) kind (more_trees first (more_trees second rest)) e fits = absurd fits
sort_of scene (unary sign.Plus) kind no_trees e fits = absurd fits
sort_of scene (unary sign.Plus) kind (more_trees first no_trees) e fits = single (alone first)
sort_of scene (unary sign.Plus) kind (more_trees first (more_trees second rest)) e fits = absurd fits
sort_of scene (unary sign.Minus) kind no_trees e fits = absurd fits
sort_of scene (unary sign.Minus) kind (more_trees first no_trees) e fits = single (alone first)
sort_of scene (unary sign.Minus) kind (more_trees first (more_trees second rest)) e fits = absurd fits
sort_of scene (unary sign.Complement) kind no_trees e fits = absurd fits
sort_of scene (unary sign.Complement) kind (more_trees first no_trees) e fits = single (alone first)
sort_of scene (unary sign.Complement) kind (more_trees first (more_trees second rest)) e fits = absurd fits
sort_of scene (unary sign.Not) kind no_trees e fits = absurd fits
sort_of scene (unary sign.Not) kind (more_trees first no_trees) e fits = single (alone first)
sort_of scene (unary sign.Not) kind (more_trees first (more_trees second rest)) e fits = absurd fits
sort_of scene (binary op) kind parts e fits = unsequenced refl
sort_of scene store kind parts e fits = unsequenced refl
sort_of scene (update op works) kind parts e fits = unsequenced refl
sort_of scene call kind parts e fits = unsequenced refl
sort_of scene both kind parts e fits = picks refl zero_first
sort_of scene either kind parts e fits = picks refl zero_first
sort_of scene choose kind parts e fits = picks refl zero_first
sort_of scene comma kind parts e fits = picks refl zero_first
sort_of scene convert kind parts e fits = picks refl zero_first
sort_of scene sizeof_tree kind parts e fits = unevaluated refl (λ n h. absurd (false≢true h))
sort_of scene (sizeof_kind type) kind parts e fits = unevaluated refl (λ n h. absurd (false≢true h))
sort_of scene label kind parts e fits = absurd (true≢false e)

pub node_sort : (label : Label) (kind : CType) (spans : Spans) (parts : Trees) → is_statement label ≡ false → IsTyped (node label kind spans parts) → NodeSort label parts
node_sort label kind spans parts e typed = sort_of typed.0 label kind parts e typed.1.0

-- ---- nodes whose operands have no others beside them

abbrev pub IsLone : Open → List Tree → Trees → Type 0
IsLone opens before no_trees = Unit {0}
IsLone opens before (more_trees first rest) =
    ((outside : List Tree) → beside_first opens before outside rest ≡ outside) × IsLone (others_open opens) (before_others opens before first) rest

none_open : (trees : Trees) → open_trees nothing trees ≡ []
none_open no_trees = refl
none_open (more_trees first rest) = none_open rest

lone_nothing : (before : List Tree) (trees : Trees) → IsLone nothing before trees
lone_nothing before no_trees = tt
lone_nothing before (more_trees first rest) = ((λ outside. refl), lone_nothing before rest)

lone_first : (trees : Trees) → IsLone only_first [] trees
lone_first no_trees = tt
lone_first (more_trees first rest) = ((λ outside. ap (λ (trees : List Tree). trees ++ outside) (none_open rest)), lone_nothing (first ∷ []) rest)

lone_one : (opens : Open) (first : Tree) → IsLone opens [] (more_trees first no_trees)
lone_one opens first = ((λ outside. by_open (first_open opens) outside), tt)
  where
    by_open : (b : Bool) (outside : List Tree) → (if b then outside else outside) ≡ outside
    by_open true outside = refl
    by_open false outside = refl

lone_few : (opens : Open) (parts : Trees) → HasFew parts → IsLone opens [] parts
lone_few opens parts (no_part e) = subst (IsLone opens []) (sym e) tt
lone_few opens parts (one_part first e) = subst (IsLone opens []) (sym e) (lone_one opens first)

pub lone_or_unsequenced : (label : Label) (parts : Trees) → NodeSort label parts → (is_unsequenced label ≡ true) ⊎ IsLone (open_of label) [] parts
lone_or_unsequenced label parts (unsequenced e) = inl e
lone_or_unsequenced label parts (single few) = inr (lone_few (open_of label) parts few)
lone_or_unsequenced label parts (picks e h) = inr (subst (λ (opens : Open). IsLone opens [] parts) (sym e) (lone_first parts))
lone_or_unsequenced label parts (unevaluated e h) = inr (subst (λ (opens : Open). IsLone opens [] parts) (sym e) (lone_nothing [] parts))

-- ---- two operands that come first

few_zero : (parts : Trees) → HasFew parts → (n : ℕ) (part : Tree) → tree_in parts n ≡ Some part → n ≡ 0
few_zero parts (no_part e) n part there = absurd (none_is_some part (sym (ap (λ (ts : Trees). tree_in ts n) e) ∙ there))
few_zero parts (one_part first e) n part there = by_number n (sym (ap (λ (ts : Trees). tree_in ts n) e) ∙ there)
  where
    by_number : (m : ℕ) → tree_in (more_trees first no_trees) m ≡ Some part → m ≡ 0
    by_number zero k = refl
    by_number (suc m) k = absurd (none_is_some part k)

both_first : (label : Label) (parts : Trees) → NodeSort label parts → (k j : ℕ) (one other : Tree) → tree_in parts k ≡ Some one → tree_in parts j ≡ Some other
    → comes_first label k ≡ true → comes_first label j ≡ true → (j ≡ k → ⊥) → is_unsequenced label ≡ true
both_first label parts (unsequenced e) k j one other at_k at_j first_k first_j differ = e
both_first label parts (single few) k j one other at_k at_j first_k first_j differ = absurd (differ (few_zero parts few j other at_j ∙ sym (few_zero parts few k one at_k)))
both_first label parts (picks e h) k j one other at_k at_j first_k first_j differ = absurd (differ (h j first_j ∙ sym (h k first_k)))
both_first label parts (unevaluated e h) k j one other at_k at_j first_k first_j differ = absurd (h k first_k)

-- ---- what is beside a place

pub data IsBeside (full : Tree) (path : Path) (tree : Tree) : Type 0 where
  pure : IsPure (begun tree) → IsBeside full path tree
  within : (way : Path) → IsAmong way (beside path full) → (whole : Tree) → tree_at way full ≡ Some whole → IsPartOf tree whole → IsBeside full path tree

pub beside_covered : (full : Tree) (path : Path) (tree : Tree) → IsBeside full path tree → IsCovered (around path full) tree
beside_covered full path tree (pure is) = covered.pure is
beside_covered full path tree (within way among whole leads part) = covered.within whole (found_among full (path ∷ beside path full) way whole (inr among) leads) part

pub beside_further : (full : Tree) (path rest : Path) (tree : Tree) → IsBeside full path tree → IsBeside full (path ++ rest) tree
beside_further full path rest tree (pure is) = pure is
beside_further full path rest tree (within way among whole leads part) = within way (beside_more path rest full way among) whole leads part

-- what is beside a way from a place
pub beside_way : (full : Tree) (path way : Path) (here tree whole : Tree) → tree_at path full ≡ Some here → (other : Path) → IsAmong other (beside way here) → tree_at other here ≡ Some whole → IsPartOf tree whole
    → IsBeside full (path ++ way) tree
beside_way full path way here tree whole leads other among at part =
    within (path ++ other) (beside_within path way full here other leads among) whole (at_behind path other full here leads ∙ at) part

pub beside_operand : (full : Tree) (path : Path) (here part : Tree) (n k : ℕ) → tree_at path full ≡ Some here → is_unsequenced (label_of here) ≡ true → tree_in (trees_of here) k ≡ Some part → (k ≡ n → ⊥)
    → IsBeside full (path ++ n ∷ []) part
beside_operand full path here part n k leads unsequenced_here there differs =
    beside_way full path (n ∷ []) here part part leads (k ∷ []) (other_operand n k here part unsequenced_here there differs) (ap (option_and_then (tree_at [])) there) (itself part)

-- ---- two seats

pub record IsOutside (way : Path) (tree found : Tree) : Type 0 where
  pub other : Path
  pub among : IsAmong other (beside way tree)
  pub whole : Tree
  pub leads : tree_at other tree ≡ Some whole
  pub part : IsPartOf found whole

-- a part of a typed expression is one
part_expression : (label : Label) (kind : CType) (spans : Spans) (parts : Trees) (n : ℕ) (part : Tree) → tree_in parts n ≡ Some part → are_expressions parts ≡ true → is_expression part ≡ true
part_expression label kind spans no_trees n part e h = absurd (none_is_some part e)
part_expression label kind spans (more_trees first rest) zero part e h =
    subst (λ (t : Tree). is_expression t ≡ true) (some_is_some first part e) (and_parts (is_expression first) (are_expressions rest) h).0
part_expression label kind spans (more_trees first rest) (suc n) part e h = part_expression label kind spans rest n part e (and_parts (is_expression first) (are_expressions rest) h).1

abbrev pub IsPlainTyped : Tree → Type 0
IsPlainTyped tree = (is_expression tree ≡ true) × IsTyped tree

plain_part : (tree : Tree) (n : ℕ) (part : Tree) → tree_in (trees_of tree) n ≡ Some part → IsPlainTyped tree → IsPlainTyped part
plain_part (node label kind spans parts) n part e h = (
  part_expression label kind spans parts n part e (and_parts (not (is_statement label)) (are_expressions parts) h.0).1,
  typed_part part (node label kind spans parts) (part_below n part (node label kind spans parts) e) h.1,
)

plain_sort : (tree : Tree) → IsPlainTyped tree → NodeSort (label_of tree) (trees_of tree)
plain_sort (node label kind spans parts) h = node_sort label kind spans parts (not_false (is_statement label) (and_parts (not (is_statement label)) (are_expressions parts) h.0).0) h.1

no_seat : (run : Run) (n : ℕ) (here : List Occurrence) (tree : Tree) → here ≡ [] → IsSeat run n here [] tree → ⊥
no_seat run n [] tree e h = h
no_seat run n (first ∷ others) tree e h = nothing_is first others e
  where
    nothing_is : (x : Occurrence) (xs : List Occurrence) → x ∷ xs ≡ [] → ⊥
    nothing_is x xs k = cc

same_seat : (run : Run) (n m : ℕ) (here : List Occurrence) (tree : Tree) → IsSeat run n here [] tree → IsSeat run m here [] tree → n ≡ m
same_seat run n m [] tree h k = absurd h
same_seat run n m (first ∷ others) tree h k = sym h ∙ k

passed : (test : Tree → Bool) (found : Option Tree) (part : Tree) → found ≡ Some part → passes test found ≡ true → test part ≡ true
passed test found part e h = sym (ap (passes test) e) ∙ h

bound : (way : Path) (found : Option Tree) (part tree : Tree) → found ≡ Some part → option_and_then (tree_at way) found ≡ Some tree → tree_at way part ≡ Some tree
bound way found part tree e h = sym (ap (option_and_then (tree_at way)) e) ∙ h

deeper : (k : ℕ) (way : Path) (tree part found : Tree) → tree_in (trees_of tree) k ≡ Some part → IsOutside way part found → IsOutside (k ∷ way) tree found
deeper k way tree part found there h = record {
  other = k ∷ h.other;
  among = beside_within (k ∷ []) way tree part h.other (ap (option_and_then (tree_at [])) there) h.among;
  whole = h.whole;
  leads = ap (option_and_then (tree_at h.other)) there ∙ h.leads;
  part = h.part;
}

module _ (run : Run) (n m : ℕ) (differ : n ≡ m → ⊥) where
  pub two_first : (way other : Path) (here : List Occurrence) (tree found : Tree) → IsSeat run n here way tree → IsSeat run m here other tree → IsPlainTyped tree
      → is_first way tree ≡ true → is_first other tree ≡ true → tree_at other tree ≡ Some found → IsOutside way tree found
  two_first [] [] here tree found seat other_seat plain first other_first leads = absurd (differ (same_seat run n m here tree seat other_seat))
  two_first [] (j ∷ other) here tree found seat other_seat plain first other_first leads = absurd (no_seat run n here tree other_seat.0 seat)
  two_first (k ∷ way) [] here tree found seat other_seat plain first other_first leads = absurd (no_seat run m here tree seat.0 other_seat)
  two_first (k ∷ way) (j ∷ other) here tree found seat other_seat plain first other_first leads =
      let part = seat.1.0 in
      let other_part = other_seat.1.0 in
      let comes = and_parts (comes_first (label_of tree) k) (passes (is_first way) (tree_in (trees_of tree) k)) first in
      let other_comes = and_parts (comes_first (label_of tree) j) (passes (is_first other) (tree_in (trees_of tree) j)) other_first in
      by_test (j == k) refl part other_part seat.1.1 other_seat.1.1 comes.0 other_comes.0 (bound other (tree_in (trees_of tree) j) other_part found other_seat.1.1 leads)
      (λ same.
      let one = some_is_some other_part part (sym other_seat.1.1 ∙ (ap (tree_in (trees_of tree)) same ∙ seat.1.1)) in
      two_first way other (occurrences_below run.occurrences (label_of tree) (spans_of tree) part) part found seat.1.2
      (subst (λ (t : Tree). IsSeat run m (occurrences_below run.occurrences (label_of tree) (spans_of tree) t) other t) one other_seat.1.2) (plain_part tree k part seat.1.1 plain)
      (passed (is_first way) (tree_in (trees_of tree) k) part seat.1.1 comes.1)
      (passed (is_first other) (tree_in (trees_of tree) j) part (other_seat.1.1 ∙ ap Some one) other_comes.1)
      (subst (λ (t : Tree). tree_at other t ≡ Some found) one (bound other (tree_in (trees_of tree) j) other_part found other_seat.1.1 leads)))
    where
      by_test : (b : Bool) → (j == k) ≡ b → (part other_part : Tree) → tree_in (trees_of tree) k ≡ Some part → tree_in (trees_of tree) j ≡ Some other_part
          → comes_first (label_of tree) k ≡ true → comes_first (label_of tree) j ≡ true → tree_at other other_part ≡ Some found
          → (j ≡ k → IsOutside way part found) → IsOutside (k ∷ way) tree found
      by_test true e part other_part at_k at_j first_k first_j at rest = deeper k way tree part found at_k (rest (equal_nat j k e))
      by_test false e part other_part at_k at_j first_k first_j at rest =
          let differs : j ≡ k → ⊥ = λ same. true≢false (sym (equal_is j k same) ∙ e) in
          let is = both_first (label_of tree) (trees_of tree) (plain_sort tree plain) k j part other_part at_k at_j first_k first_j differs in
          record {
            other = j ∷ [];
            among = beside_more (k ∷ []) way tree (j ∷ []) (other_operand k j tree other_part is at_j differs);
            whole = other_part;
            leads = ap (option_and_then (tree_at [])) at_j;
            part = record { way = other; leads = at };
          }
