-- A parameter of which an occurrence is evaluated first is read first in the expression of the added function.
--     same_place      the place that is found by the tokens of an occurrence is the one at which its tree stands
--     body_first      at a seat that is evaluated first the expression reads the parameter, and first
--     body_somewhere      at each seat it reads the parameter
use Rattle.std.specs.Prelude.{◌≡◌, refl, ℕ, zero, suc, ◌+◌, ◌-◌, ◌≤◌, Bool, true, false, ◌&&◌, ◌||◌, not, ◌==◌, List, [], ◌∷◌, Option, Some, slice_get, if◌then◌else◌}
use Rattle.std.specs.List.{list_any, AllByRecursion}
use Rattle.std.proofs.Common.{ap, ap₂, sym, ◌∙◌, subst, arith, inl, inr}
use Rattle.std.proofs.lemmas.Bool.{true≢false, false≢true, and_parts}
use Rattle.dm_token.specs.declared.place.Span.{Span}
use Rattle.dm_runs.specs.declared.run.Occurrence.{Occurrence}
use Rattle.dm_runs.specs.declared.run.Run.{Run}
use Rattle.dm_type.specs.CTypes.{CType}
use Rattle.dm_tree.specs.Initialisers.{is_same_span}
use Rattle.dm_tree.specs.Paths.{Path, tree_in}
use Rattle.dm_tree.specs.Scenes.{Scene}
use Rattle.dm_tree.specs.Trees.{Label, object, function, read, convert, call, sizeof_kind, Spans, Tree, Trees, node, no_trees, more_trees, spans_of, listed, is_statement}
use Rattle.dm_tree.specs.Typing.{Fits, FitsExpression, inside, IsWellTyped, AreWellTyped}
use Rattle.dm_tree.specs.Units.{TypedUnit}
use Rattle.dm_meaning.specs.Replaced.{relabelled}
use Rattle.dm_meaning.specs.Running.{Open, every, only_first, others_open, open_of}
use Rattle.dm_meaning.specs.Wholes.{is_expression, are_expressions}
use Rattle.dm_meaning.proofs.GrowLemmas.{equal_is}
use Rattle.dm_meaning.proofs.OptionLemmas.{none_is_some, some_is_some}
use Rattle.dm_effect.specs.Entities.{passes}
use Rattle.dm_effect.specs.Sequencing.{comes_first, is_first}
use Rattle.dm_sites.specs.Sites.{Site, is_site_of, sites_in, site_of, sites_of_unit}
use Rattle.dm_sites.specs.Standing.{is_value}
use Rattle.dm_agree.specs.Standing.{widened, narrowing, extents, stands}
use Rattle.dm_agree.specs.Agreement.{Rewriting, here_below, IsReadOf, SameBody, SameBodies}
use Rattle.dm_central.specs.Arguments.{IsParameterNode, ReadsSomewhere, ReadsBelow, ReadsFirst, ReadsFirstBelow}
use Rattle.dm_central.specs.Standing.{standing_of}
use Rattle.dm_plain.specs.Plain.{NamesNoLocal, NameNoLocal, TypeNamesNone, AreTypesPlain, AllTypesPlain}
use Rattle.dm_told.specs.Told.{IsTold}
use Rattle.dm_told.proofs.FindLemmas.{found_has}
use Rattle.dm_told.proofs.OnlyLemmas.{IsExtent, site_is}
use Rattle.dm_standing.proofs.CallLemmas.{AllTold, own_and_parts}
use Rattle.dm_steady.proofs.OnceLemmas.{OpenAt, comes_open, same_open, read_parts}
use Rattle.dm_steady.proofs.SeatLemmas.{IsSeat}
use Rattle.dm_steady.proofs.StableLemmas.{not_false}

-- ---- places by their tokens

or_right : (a b : Bool) → b ≡ true → (a || b) ≡ true
or_right true b e = refl
or_right false b e = e

or_left : (a b : Bool) → a ≡ true → (a || b) ≡ true
or_left true b e = refl
or_left false b e = absurd (false≢true e)

and_from : (a b : Bool) → a ≡ true → b ≡ true → (a && b) ≡ true
and_from true b e g = g
and_from false b e g = absurd (false≢true e)

spans_same : (a b : Span) → a.first ≡ b.first → a.after ≡ b.after → is_same_span a b ≡ true
spans_same a b e g = and_from (a.first == b.first) (a.after == b.after) (equal_is a.first b.first e) (equal_is a.after b.after g)

-- with so many pairs of parentheses, of at least as many
narrowed : (span inner : Span) (pairs k : ℕ) → k ≤ pairs → span.first ≡ inner.first - k → span.after ≡ inner.after + k → list_any (is_same_span span) (narrowing inner pairs) ≡ true
narrowed span inner zero k few first after =
    or_left (is_same_span span inner) false (spans_same span inner (omega (arith, few, first)) (omega (arith, few, after)))
narrowed span inner (suc pairs) k few first after = by_test (k == suc pairs) refl (narrowed span inner pairs k)
  where
    equal_nat : (a b : ℕ) → (a == b) ≡ true → a ≡ b
    equal_nat a b e = grind (arith, e)

    by_test : (b : Bool) → (k == suc pairs) ≡ b
        → (k ≤ pairs → span.first ≡ inner.first - k → span.after ≡ inner.after + k → list_any (is_same_span span) (narrowing inner pairs) ≡ true)
        → list_any (is_same_span span) (narrowing inner (suc pairs)) ≡ true
    by_test true e rest =
        let same = equal_nat k (suc pairs) e in
        or_left (is_same_span span (widened inner (suc pairs))) (list_any (is_same_span span) (narrowing inner pairs))
        (spans_same span (widened inner (suc pairs)) (first ∙ ap (λ (m : ℕ). inner.first - m) same) (after ∙ ap (λ (m : ℕ). inner.after + m) same))
    by_test false e rest =
        let differs : k ≡ suc pairs → ⊥ = λ same. true≢false (sym (equal_is k (suc pairs) same) ∙ e) in
        or_right (is_same_span span (widened inner (suc pairs))) (list_any (is_same_span span) (narrowing inner pairs)) (rest (fewer differs) first after)
      where
        fewer : (k ≡ suc pairs → ⊥) → k ≤ pairs
        fewer differs = grind (arith, few, differs)

extent_stands : (span : Span) (spans : Spans) → IsExtent span spans → list_any (is_same_span span) (extents spans) ≡ true
extent_stands span spans h =
    let low = h.0 in
    let mid = h.1 in
    let sum = h.2 in
    narrowed span spans.inner (spans.inner.first - spans.outer.first) (spans.inner.first - span.first) (omega (arith, low, mid)) (omega (arith, mid)) (omega (arith, mid, sum))

value_stands : (span : Span) (tree : Tree) → is_value tree ≡ true → IsExtent span (spans_of tree) → stands span tree ≡ true
value_stands span tree e h =
    subst (λ (b : Bool). list_any (is_same_span span) (if b then extents (spans_of tree) else []) ≡ true) (sym e) (extent_stands span (spans_of tree) h)

own_told : (one : TypedUnit) (tree : Tree) (site : Site) → is_expression tree ≡ true → AllTold one (sites_in one.declared tree site) → IsTold one site
own_told one (node label kind spans parts) site expression told =
    (own_and_parts one label kind spans parts site (not_false (is_statement label) (and_parts (not (is_statement label)) (are_expressions parts) expression).0) told).0

all_true : {A : Type 0} (items : List A) → AllByRecursion (λ (x : A). Unit {0}) items
all_true [] = tt
all_true (x ∷ items) = (tt, all_true items)

pub same_place : (one : TypedUnit) (span : Span) (argument place : Site) → site_of one span ≡ Some argument → is_expression place.tree ≡ true → AllTold one (sites_in one.declared place.tree place)
    → place.apart ≡ true → place.tree ≡ argument.tree → argument ≡ place
same_place one span argument place found expression told apart same =
    let is = found_has (is_site_of span) (λ (site : Site). Unit {0}) (sites_of_unit one) argument (all_true (sites_of_unit one)) found in
    let own = site_is span argument is.1 in
    some_is_some argument place (sym found
    ∙ own_told one place.tree place expression told span apart (subst (λ (t : Tree). stands span t ≡ true) (sym same) (value_stands span argument.tree own.1 own.2)))

-- ---- the expression of the added function

reads_below : (p : ℕ) (opens : Open) (parts : Trees) (k : ℕ) (part : Tree) → tree_in parts k ≡ Some part → OpenAt opens k → ReadsFirst p part → ReadsFirstBelow p opens parts
reads_below p opens no_trees k part e open_at h = absurd (none_is_some part e)
reads_below p opens (more_trees first rest) zero part e open_at h = inl (open_at, subst (ReadsFirst p) (sym (some_is_some first part e)) h)
reads_below p opens (more_trees first rest) (suc k) part e open_at h = inr (reads_below p (others_open opens) rest k part e open_at h)

-- the function's name in a call reads nothing
no_read : (at : ℕ) (kind other_kind : CType) (spans other_spans : Spans) (parts : Trees) → node (function at) kind spans no_trees ≡ node read other_kind other_spans parts → ⊥
no_read at kind other_kind spans other_spans parts e = cc

name_reads : (p at : ℕ) (kind : CType) (spans : Spans) → ReadsFirst p (node (function at) kind spans no_trees) → ⊥
name_reads p at kind spans (inl h) = no_read at kind h.kind spans h.spans (more_trees (node (object p) h.named_kind h.named_spans no_trees) no_trees) h.is
name_reads p at kind spans (inr h) = h

call_head : (p : ℕ) (scene : Scene) (kind : CType) (parts : Trees) (part : Tree) → FitsExpression scene call kind (listed parts) → tree_in parts 0 ≡ Some part → ReadsFirst p part → ⊥
call_head p scene kind (more_trees (node (function at) type spans no_trees) rest) part fits is h =
    name_reads p at type spans (subst (ReadsFirst p) (sym (some_is_some (node (function at) type spans no_trees) part is)) h)
call_head p scene kind (more_trees (node (function at) type spans (more_trees below others)) rest) part fits is h = absurd fits
call_head p scene kind (more_trees (node label type spans below) rest) part fits is h = absurd fits
call_head p scene kind no_trees part fits is h = absurd fits

passed : (test : Tree → Bool) (found : Option Tree) (part : Tree) → found ≡ Some part → passes test found ≡ true → test part ≡ true
passed test found part e h = sym (ap (passes test) e) ∙ h

no_seat : (first : Occurrence) (others : List Occurrence) → first ∷ others ≡ [] → ⊥
no_seat first others e = cc

module _ (it : Rewriting) (parameters : List ℕ) (run : Run) (n p : ℕ) (parameter : slice_get parameters n ≡ Some p) where
  -- the tree of the expression beside a part of the run's
  record IsNthBody (scene : Scene) (label : Label) (spans : Spans) (trees : Trees) (k : ℕ) (other : Tree) : Type 0 where
    part : Tree
    there : tree_in trees k ≡ Some part
    body : SameBody it parameters run (here_below it run label spans other) part other
    typed : IsWellTyped scene part

  nth_body : (scene : Scene) (label : Label) (spans : Spans) (trees others : Trees) (k : ℕ) (other : Tree) → tree_in others k ≡ Some other → AreWellTyped scene trees
      → SameBodies it parameters run label spans trees others → IsNthBody scene label spans trees k other
  nth_body scene label spans trees no_trees k other e typed h = absurd (none_is_some other e)
  nth_body scene label spans no_trees (more_trees first_other rest_others) k other e typed h = absurd h
  nth_body scene label spans (more_trees first rest) (more_trees first_other rest_others) zero other e typed h =
      record {
        part = first;
        there = refl;
        body = subst (λ (t : Tree). SameBody it parameters run (here_below it run label spans t) first t) (some_is_some first_other other e) h.0;
        typed = typed.0;
      }
  nth_body scene label spans (more_trees first rest) (more_trees first_other rest_others) (suc k) other e typed h =
      let below = nth_body scene label spans rest rest_others k other e typed.1 h.1 in record { part = below.part; there = below.there; body = below.body; typed = below.typed }

  node_here : (scene : Scene) (label : Label) (kind : CType) (spans : Spans) (parts : Trees) (other : Tree) → Fits scene label kind (listed parts) → AreWellTyped (inside scene label (listed parts)) parts
      → IsReadOf (Some p) label kind parts other → IsParameterNode p (node label kind spans parts)
  node_here scene label kind spans parts other fits typed h =
      let named = read_parts scene kind parts p (subst (λ (l : Label). Fits scene l kind (listed parts)) h.0 fits) (subst (λ (l : Label). AreWellTyped (inside scene l (listed parts)) parts) h.0 typed) h.2 in
      record { kind = kind; spans = spans; named_kind = named.0; named_spans = named.1; is = ap₂ (λ (l : Label) (ps : Trees). node l kind spans ps) h.0 named.2 }

  read_here : (scene : Scene) (label : Label) (kind : CType) (spans : Spans) (parts : Trees) (other : Tree) → Fits scene label kind (listed parts) → AreWellTyped (inside scene label (listed parts)) parts
      → IsReadOf (Some p) label kind parts other → ReadsFirst p (node label kind spans parts)
  read_here scene label kind spans parts other fits typed h = inl (node_here scene label kind spans parts other fits typed h)

  pub body_first : (way : Path) (occurrences : List Occurrence) (runs : List Run) (tree other : Tree) (scene : Scene) → IsWellTyped scene tree
      → SameBody it parameters run (record { occurrences = occurrences; runs = runs }) tree other → IsSeat run n occurrences way other → is_first way other ≡ true → ReadsFirst p tree
  body_first [] [] runs tree other scene typed h seat first = absurd seat
  body_first [] (one_here ∷ others_here) runs (node label kind spans parts) other scene typed h seat first =
      read_here scene label kind spans parts other typed.0 typed.1 (subst (λ (d : Option ℕ). IsReadOf d label kind parts other) (ap (slice_get parameters) seat ∙ parameter) h)
  body_first (k ∷ way) (one_here ∷ others_here) runs tree other scene typed h seat first = absurd (no_seat one_here others_here seat.0)
  body_first (k ∷ way) [] (another ∷ runs) (node label kind spans parts) other scene typed h seat first = absurd h
  body_first (k ∷ way) [] [] (node label kind spans parts) (node other other_kind other_spans others) scene typed h seat first =
      let part_other = seat.1.0 in
      let part = nth_body (inside scene label (listed parts)) other other_spans parts others k part_other seat.1.1 typed.1 h.1 in
      let comes = and_parts (comes_first other k) (passes (is_first way) (tree_in others k)) first in
      let below = here_below it run other other_spans part_other in
      let reads = body_first way below.occurrences below.runs part.part part_other (inside scene label (listed parts)) part.typed part.body seat.1.2
      (passed (is_first way) (tree_in others k) part_other seat.1.1 comes.1) in
      let opens = comes_open other k comes.0 (λ is zero_is.
      call_head p scene kind parts part.part (subst (λ (l : Label). Fits scene l kind (listed parts)) (h.0.0 ∙ ap (relabelled it.rename) is) typed.0) (ap (tree_in parts) (sym zero_is) ∙ part.there) reads) in
      inr (reads_below p (open_of label) parts k part.part part.there (subst (λ (o : Open). OpenAt o k) (sym (ap open_of h.0.0 ∙ same_open it.rename other)) opens) reads)

  -- ---- read somewhere

  module _ (automatic : ℕ → Bool) (local : automatic p ≡ true) where
    -- what names no automatic object doesn't read the parameter
    no_read_of : (tree : Tree) → NamesNoLocal automatic tree → (h : IsParameterNode p tree) → ⊥
    no_read_of tree none h =
        let as_read : Unit {0} × (((automatic p ≡ false) × Unit {0}) × Unit {0}) = subst (NamesNoLocal automatic) h.is none in true≢false (sym local ∙ as_read.1.0.0)

    mutual
      not_read : (tree : Tree) → NamesNoLocal automatic tree → ReadsSomewhere p tree → ⊥
      not_read (node label kind spans parts) none (inl h) = no_read_of (node label kind spans parts) none h
      not_read (node label kind spans parts) none (inr h) = none_read (standing_of label) parts none.1 h

      none_read : (opens : Open) (trees : Trees) → NameNoLocal automatic trees → ReadsBelow p opens trees → ⊥
      none_read opens no_trees none h = h
      none_read opens (more_trees first rest) none (inl h) = not_read first none.0 h.1
      none_read opens (more_trees first rest) none (inr h) = none_read (others_open opens) rest none.1 h

    below_here : (opens : Open) (parts : Trees) (k : ℕ) (part : Tree) → tree_in parts k ≡ Some part → OpenAt opens k → ReadsSomewhere p part → ReadsBelow p opens parts
    below_here opens no_trees k part e open_at h = absurd (none_is_some part e)
    below_here opens (more_trees first rest) zero part e open_at h = inl (open_at, subst (ReadsSomewhere p) (sym (some_is_some first part e)) h)
    below_here opens (more_trees first rest) (suc k) part e open_at h = inr (below_here (others_open opens) rest k part e open_at h)

    always_open : (k : ℕ) → OpenAt every k
    always_open zero = refl
    always_open (suc k) = always_open k

    nth_none : (trees : Trees) (k : ℕ) (part : Tree) → tree_in trees k ≡ Some part → NameNoLocal automatic trees → NamesNoLocal automatic part
    nth_none no_trees k part e h = absurd (none_is_some part e)
    nth_none (more_trees first rest) zero part e h = subst (NamesNoLocal automatic) (some_is_some first part e) h.0
    nth_none (more_trees first rest) (suc k) part e h = nth_none rest k part e h.1

    nth_plain : (trees : Trees) (k : ℕ) (part : Tree) → tree_in trees k ≡ Some part → AllTypesPlain automatic trees → AreTypesPlain automatic part
    nth_plain no_trees k part e h = absurd (none_is_some part e)
    nth_plain (more_trees first rest) zero part e h = subst (AreTypesPlain automatic) (some_is_some first part e) h.0
    nth_plain (more_trees first rest) (suc k) part e h = nth_plain rest k part e h.1

    -- not in a type name
    below_node : (label : Label) (parts : Trees) (k : ℕ) (part : Tree) → tree_in parts k ≡ Some part → TypeNamesNone automatic label parts → ReadsSomewhere p part → ReadsBelow p (standing_of label) parts
    below_node convert no_trees k part e none h = absurd (none_is_some part e)
    below_node convert (more_trees operand lengths) zero part e none h = below_here only_first (more_trees operand lengths) 0 part e refl h
    below_node convert (more_trees operand lengths) (suc k) part e none h = absurd (not_read part (nth_none lengths k part e none) h)
    below_node (sizeof_kind type) lengths k part e none h = absurd (not_read part (nth_none lengths k part e none) h)
    below_node label parts k part e none h = below_here every parts k part e (always_open k) h

    pub body_somewhere : (way : Path) (occurrences : List Occurrence) (runs : List Run) (tree other : Tree) (scene : Scene) → IsWellTyped scene tree → AreTypesPlain automatic tree
        → SameBody it parameters run (record { occurrences = occurrences; runs = runs }) tree other → IsSeat run n occurrences way other → ReadsSomewhere p tree
    body_somewhere [] [] runs tree other scene typed plain h seat = absurd seat
    body_somewhere [] (one_here ∷ others_here) runs (node label kind spans parts) other scene typed plain h seat =
        inl (node_here scene label kind spans parts other typed.0 typed.1 (subst (λ (d : Option ℕ). IsReadOf d label kind parts other) (ap (slice_get parameters) seat ∙ parameter) h))
    body_somewhere (k ∷ way) (one_here ∷ others_here) runs tree other scene typed plain h seat = absurd (no_seat one_here others_here seat.0)
    body_somewhere (k ∷ way) [] (another ∷ runs) (node label kind spans parts) other scene typed plain h seat = absurd h
    body_somewhere (k ∷ way) [] [] (node label kind spans parts) (node other other_kind other_spans others) scene typed plain h seat =
        let part_other = seat.1.0 in
        let part = nth_body (inside scene label (listed parts)) other other_spans parts others k part_other seat.1.1 typed.1 h.1 in
        let below = here_below it run other other_spans part_other in
        inr (below_node label parts k part.part part.there plain.0
        (body_somewhere way below.occurrences below.runs part.part part_other (inside scene label (listed parts)) part.typed (nth_plain parts k part.part part.there plain.1) part.body seat.1.2))
