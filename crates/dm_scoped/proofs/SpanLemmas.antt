-- Nodes that the typing makes stand where their syntax stands.
use Rattle.std.specs.Prelude.{◌≡◌, ℕ, ◌+◌, ◌<◌, ◌≤◌, Bool, true, false, if◌then◌else◌, List, [], ◌∷◌, ◌++◌, Option, Some, None, option_map, refl}
use Rattle.std.proofs.Common.{sym, ap, ◌∙◌, subst, arith, inl, inr, ⊎_elim}
use Rattle.std.proofs.lemmas.Bool.{false≢true}
use Rattle.dm_token.specs.declared.place.Span.{Span}
use Rattle.dm_type.specs.CTypes.{CType, CTypes, function as function_type, no_types, more_types, bare}
use Rattle.dm_syn.specs.Sources.{Source}
use Rattle.dm_tree.specs.Scenes.{is_lvalue}
use Rattle.dm_tree.specs.Trees.{Label, Spans, Tree, node, label_of, spans_of, listed, trees}
use Rattle.dm_tree.specs.Trees as label
use Rattle.dm_scoped.specs.Spans.{IsShorter, is_conversion, MayShare, IsBehind, AreInside, in_source_order, EachInside, IsLaidOut, AreLaidOut, StandBetween, IsApartFrom, AreApart, StandApart}
use Rattle.dm_typing.specs.Known.{Known}
use Rattle.dm_typing.specs.Conversions.{spans_at, made, over, as_type}
use Rattle.dm_typing.specs.Rules.{is_assignable, put_before, passed, called}
use Rattle.dm_typing.specs.Typing.{extent}
use Rattle.dm_scoped.proofs.OverLemmas.{IsKept, type-kept}

-- ---- trees

pub listed-trees : (list : List Tree) → listed (trees list) ≡ list
listed-trees [] = refl
listed-trees (first ∷ rest) = ap (λ others. first ∷ others) (listed-trees rest)

-- a node has a token, and each pair of parentheses has one before its own tokens and one behind them
abbrev pub IsAround : Span → Span → Type 0
IsAround inner outer = (outer.first ≤ inner.first) × (inner.first < inner.after) × (outer.first + outer.after ≡ inner.first + inner.after)

pub bounds-of : (tree : Tree) → IsLaidOut tree → IsAround (spans_of tree).inner (spans_of tree).outer
bounds-of (node form kind spans parts) h = (h.0, h.1, h.2)

pub outer-some : (tree : Tree) → IsLaidOut tree → (spans_of tree).outer.first < (spans_of tree).outer.after
outer-some tree h = let b = bounds-of tree h in let low = b.0 in let mid = b.1 in let high = b.2 in omega (arith, low, mid, high)

-- the node of a piece of syntax, which stands there
abbrev pub IsMade : Source → Span → Span → Tree → Type 0
IsMade source inner outer tree = (spans_of tree ≡ spans_at source (extent inner outer)) × IsLaidOut tree

-- a node above the tree of the same syntax
over-inside : (form : Label) (tree : Tree) → IsLaidOut tree → MayShare form tree [] → AreInside form (spans_of tree) (spans_of tree).inner.first (tree ∷ [])
over-inside form tree h may = let b = bounds-of tree h in let mid = b.1 in inl (refl, omega arith, may, tt, omega (arith, mid))

-- an lvalue is no conversion
no-conversion : (tree : Tree) → is_lvalue tree ≡ true → is_conversion (label_of tree) ≡ false
no-conversion (node label.convert kind spans parts) e = absurd (false≢true e)
no-conversion (node lower kind spans parts) e = refl

read-laid : (tree : Tree) (kind : CType) → is_lvalue tree ≡ true → IsLaidOut tree → IsLaidOut (over label.read kind tree)
read-laid tree kind is h = let b = bounds-of tree h in (b.0, b.1, b.2, (over-inside label.read tree h (refl, no-conversion tree is), tt), (h, tt), tt)

decay-laid : (tree : Tree) (kind : CType) → is_lvalue tree ≡ true → IsLaidOut tree → IsLaidOut (over label.decay kind tree)
decay-laid tree kind is h = let b = bounds-of tree h in (b.0, b.1, b.2, (over-inside label.decay tree h (refl, no-conversion tree is), tt), (h, tt), tt)

convert-laid : (tree : Tree) (kind : CType) → IsLaidOut tree → IsLaidOut (over label.convert kind tree)
convert-laid tree kind h = let b = bounds-of tree h in (b.0, b.1, b.2, (over-inside label.convert tree h refl, tt), (h, tt), tt)

pub made-kept : (source : Source) (inner outer : Span) → IsKept (IsMade source inner outer)
made-kept source inner outer = record {
  read_kept = λ kind tree is h. (h.0, read-laid tree kind is h.1);
  decay_kept = λ kind tree is h. (h.0, decay-laid tree kind is h.1);
  convert_kept = λ kind tree h. (h.0, convert-laid tree kind h.1);
}

pub outer-of : (source : Source) (inner outer : Span) (tree : Tree) → IsMade source inner outer tree → (spans_of tree).outer ≡ outer
outer-of source inner outer tree h = ap (λ (it : Spans). it.outer) h.0

-- ---- parts in order

pub next-inside : (form : Label) (spans : Spans) (at : ℕ) (one : Tree) (others : List Tree) (outer : Span) → (spans_of one).outer ≡ outer → at ≤ outer.first
    → IsShorter outer spans.inner → AreInside form spans outer.after others → AreInside form spans at (one ∷ others)
next-inside form spans at one others outer e low short rest =
    inr (subst (λ (it : Span). (at ≤ it.first) × IsShorter it spans.inner × AreInside form spans it.after others) (sym e) (low, short, rest))

pub same-inside : (form : Label) (spans : Spans) (at : ℕ) (one : Tree) (others : List Tree) → spans_of one ≡ spans → at ≤ spans.inner.first → MayShare form one others
    → IsBehind one others → AreInside form spans (spans.inner.first + 1) others → AreInside form spans at (one ∷ others)
same-inside form spans at one others e low may behind rest = inl (e, low, may, behind, rest)

-- forms whose parts stand in the order of the form
abbrev pub is_straight : Label → Bool
is_straight label.convert = false
is_straight (label.declare lengths declarators) = false
is_straight form = true

straight-apart : (form : Label) (parts : List Tree) → is_straight form ≡ true → StandApart form parts
straight-apart (label.declare lengths declarators) parts h = absurd (false≢true h)
straight-apart form parts h = tt

straight-order : (form : Label) (parts : List Tree) → is_straight form ≡ true → in_source_order form parts ≡ parts ∷ []
straight-order label.convert parts h = absurd (cc)
straight-order (label.declare lengths declarators) parts h = absurd (cc)
straight-order form parts h = refl

-- several trees stand well
abbrev pub all-laid : List Tree → Type 0
all-laid [] = Unit {0}
all-laid (first ∷ rest) = IsLaidOut first × all-laid rest

pub laid-trees : (list : List Tree) → all-laid list → AreLaidOut (trees list)
laid-trees [] h = tt
laid-trees (first ∷ rest) h = (h.0, laid-trees rest h.1)

module _ (source : Source) (inner outer : Span) (around : IsAround inner outer) where
  abbrev here : Spans
  here = spans_at source (extent inner outer)

  abbrev Made : Tree → Type 0
  Made tree = IsMade source inner outer tree

  pub straight-made : (form : Label) (kind : CType) (parts : List Tree) → is_straight form ≡ true → AreInside form here inner.first parts → AreLaidOut (trees parts)
      → Made (made source (extent inner outer) form kind parts)
  straight-made form kind parts straight inside laid =
      let order : in_source_order form (listed (trees parts)) ≡ parts ∷ [] = ap (in_source_order form) (listed-trees parts) ∙ straight-order form parts straight in
      (refl, (around.0, around.1, around.2, subst (EachInside form here) (sym order) (inside, tt), laid, straight-apart form (listed (trees parts)) straight))

  pub leaf-made : (form : Label) (kind : CType) → is_straight form ≡ true → Made (made source (extent inner outer) form kind [])
  leaf-made form kind straight = let mid = around.1 in straight-made form kind [] straight (omega (arith, mid)) tt

  pub one-made : (form : Label) (kind : CType) (a whole : Span) (one : Tree) → is_straight form ≡ true → inner.first ≤ whole.first → whole.after ≤ inner.after
      → IsShorter whole inner → IsMade source a whole one → Made (made source (extent inner outer) form kind (one ∷ []))
  one-made form kind a whole one straight low high short h =
      straight-made form kind (one ∷ []) straight (next-inside form here inner.first one [] whole (outer-of source a whole one h) low short high) (h.1, tt)

  pub two-made : (form : Label) (kind : CType) (a b left right : Span) (one other : Tree) → is_straight form ≡ true → inner.first ≤ left.first → left.after ≤ right.first
      → right.after ≤ inner.after → IsShorter left inner → IsShorter right inner → IsMade source a left one → IsMade source b right other
      → Made (made source (extent inner outer) form kind (one ∷ other ∷ []))
  two-made form kind a b left right one other straight low mid high short less h g =
      straight-made form kind (one ∷ other ∷ []) straight
      (next-inside form here inner.first one (other ∷ []) left (outer-of source a left one h) low short
      (next-inside form here left.after other [] right (outer-of source b right other g) mid less high)) (h.1, (g.1, tt))

  pub three-made : (form : Label) (kind : CType) (a b c first second third : Span) (one other another : Tree) → is_straight form ≡ true → inner.first ≤ first.first
      → first.after ≤ second.first → second.after ≤ third.first → third.after ≤ inner.after → IsShorter first inner → IsShorter second inner → IsShorter third inner
      → IsMade source a first one → IsMade source b second other → IsMade source c third another
      → Made (made source (extent inner outer) form kind (one ∷ other ∷ another ∷ []))
  three-made form kind a b c first second third one other another straight low mid then_mid high short less least h g f =
      straight-made form kind (one ∷ other ∷ another ∷ []) straight
      (next-inside form here inner.first one (other ∷ another ∷ []) first (outer-of source a first one h) low short
      (next-inside form here first.after other (another ∷ []) second (outer-of source b second other g) mid less
      (next-inside form here second.after another [] third (outer-of source c third another f) then_mid least high))) (h.1, (g.1, (f.1, tt)))

  -- a node above one that comes from the same syntax
  pub same-made : (form : Label) (kind : CType) (one : Tree) → is_straight form ≡ true → MayShare form one [] → Made one
      → Made (made source (extent inner outer) form kind (one ∷ []))
  same-made form kind one straight may h =
      let mid = around.1 in straight-made form kind (one ∷ []) straight (same-inside form here inner.first one [] h.0 (omega arith) may tt (omega (arith, mid))) (h.1, tt)

-- ---- rows of trees

pub row-wider : (at behind low high : ℕ) (list : List Tree) → low ≤ at → behind ≤ high → StandBetween at behind list → StandBetween low high list
row-wider at behind low high [] below above h = omega (arith, below, above, h)
row-wider at behind low high (one ∷ others) below above h =
    (let begins = h.0 in omega (arith, below, begins), h.1, row-wider (spans_of one).outer.after behind (spans_of one).outer.after high others (omega arith) above h.2)

pub row-append : (at mid behind : ℕ) (some more : List Tree) → StandBetween at mid some → StandBetween mid behind more → StandBetween at behind (some ++ more)
row-append at mid behind [] more h g = row-wider mid behind at behind more h (omega arith) g
row-append at mid behind (one ∷ some) more h g = (h.0, h.1, row-append (spans_of one).outer.after mid behind some more h.2 g)

pub row-length : (at behind : ℕ) (list : List Tree) → StandBetween at behind list → at ≤ behind
row-length at behind [] h = h
row-length at behind (one ∷ others) h =
    let rest = row-length (spans_of one).outer.after behind others h.2 in let some = outer-some one h.1 in let begins = h.0 in omega (arith, rest, some, begins)

pub row-laid : (at behind : ℕ) (list : List Tree) → StandBetween at behind list → all-laid list
row-laid at behind [] h = tt
row-laid at behind (one ∷ others) h = (h.1, row-laid (spans_of one).outer.after behind others h.2)

-- a row stands inside a node that has more tokens
pub row-inside : (form : Label) (spans : Spans) (at from behind : ℕ) (list rest : List Tree) → at ≤ from → spans.inner.first ≤ at → behind ≤ spans.inner.after
    → (behind + spans.inner.first < spans.inner.after + from) → StandBetween from behind list → AreInside form spans behind rest → AreInside form spans at (list ++ rest)
row-inside form spans at from behind [] rest below low high short h g = lower-inside spans from behind at rest (omega (arith, below, h)) g
  where
    lower-inside : (spans : Spans) (from behind at : ℕ) (rest : List Tree) → at ≤ behind → AreInside form spans behind rest → AreInside form spans at rest
    lower-inside spans from behind at [] below h = omega (arith, below, h)
    lower-inside spans from behind at (one ∷ others) below h =
        ⊎_elim (λ same. let first = same.1 in inl (same.0, omega (arith, below, first), same.2, same.3, same.4)) (λ apart. let begins = apart.0 in inr (omega (arith, below, begins), apart.1, apart.2)) h
row-inside form spans at from behind (one ∷ others) rest below low high short h g =
    let begins = h.0 in
    let some = outer-some one h.1 in
    let ends = row-length (spans_of one).outer.after behind others h.2 in
    inr (
      omega (arith, below, begins),
      omega (arith, begins, ends, short, some),
      row-inside form spans (spans_of one).outer.after (spans_of one).outer.after behind others rest (omega arith) (omega (arith, low, below, begins, some)) high
          (omega (arith, short, begins, some)) h.2 g,
    )

-- rows of which one stands before the other
pub from-apart : (mid behind : ℕ) (one : Tree) (list : List Tree) → (spans_of one).outer.after ≤ mid → StandBetween mid behind list → IsApartFrom one list
from-apart mid behind one [] ends h = tt
from-apart mid behind one (other ∷ others) ends h =
    let begins = h.0 in let some = outer-some other h.1 in
    (inl (omega (arith, ends, begins)), from-apart (spans_of other).outer.after behind one others (omega (arith, ends, begins, some)) h.2)

pub row-apart : (at mid behind : ℕ) (list others : List Tree) → StandBetween at mid list → StandBetween mid behind others → AreApart list others
row-apart at mid behind [] others h g = tt
row-apart at mid behind (one ∷ list) others h g =
    (from-apart mid behind one others (row-length (spans_of one).outer.after mid list h.2) g, row-apart (spans_of one).outer.after mid behind list others h.2 g)

pub before-apart : (at mid : ℕ) (one : Tree) (list : List Tree) → mid ≤ (spans_of one).outer.first → StandBetween at mid list → IsApartFrom one list
before-apart at mid one [] begins h = tt
before-apart at mid one (other ∷ others) begins h =
    let ends = row-length (spans_of other).outer.after mid others h.2 in
    (inr (omega (arith, ends, begins)), before-apart (spans_of other).outer.after mid one others begins h.2)

pub row-apart-behind : (at mid behind : ℕ) (list others : List Tree) → StandBetween mid behind list → StandBetween at mid others → AreApart list others
row-apart-behind at mid behind [] others h g = tt
row-apart-behind at mid behind (one ∷ list) others h g =
    let some = outer-some one h.1 in
    let begins = h.0 in
    (before-apart at mid one others begins g, row-apart-behind at mid behind list others (row-wider (spans_of one).outer.after behind mid behind list (omega (arith, some, begins)) (omega arith) h.2) g)

from-append : (one : Tree) (list more : List Tree) → IsApartFrom one list → IsApartFrom one more → IsApartFrom one (list ++ more)
from-append one [] more h g = g
from-append one (other ∷ list) more h g = (h.0, from-append one list more h.1 g)

pub apart-append : (some list more : List Tree) → AreApart some list → AreApart some more → AreApart some (list ++ more)
apart-append [] list more h g = tt
apart-append (one ∷ some) list more h g = (from-append one list more h.0 g.0, apart-append some list more h.1 g.1)

pub append-apart : (some more list : List Tree) → AreApart some list → AreApart more list → AreApart (some ++ more) list
append-apart [] more list h g = g
append-apart (one ∷ some) more list h g = (h.0, append-apart some more list h.1 g)

-- ---- arguments

-- trees that stand alike, one by one
abbrev pub IsAlike : Tree → Tree → Type 0
IsAlike one other = (spans_of other ≡ spans_of one) × (IsLaidOut one → IsLaidOut other)

alike-kept : (one : Tree) → IsKept (IsAlike one)
alike-kept one = record {
  read_kept = λ kind tree is h. (h.0, λ laid. read-laid tree kind is (h.1 laid));
  decay_kept = λ kind tree is h. (h.0, λ laid. decay-laid tree kind is (h.1 laid));
  convert_kept = λ kind tree h. (h.0, λ laid. convert-laid tree kind (h.1 laid));
}

abbrev pub AreAlike : List Tree → List Tree → Type 0
AreAlike [] [] = Unit {0}
AreAlike (one ∷ some) (other ∷ more) = IsAlike one other × AreAlike some more
AreAlike some more = ⊥

unfoldable IfAlike : List Tree → Option (List Tree) → Type 0
IfAlike values None = Unit {0}
IfAlike values (Some list) = AreAlike values list

unfoldable IfAlikeCall : List Tree → Option (CType × List Tree) → Type 0
IfAlikeCall values None = Unit {0}
IfAlikeCall values (Some it) = AreAlike values it.1

before-alike : (value made : Tree) (values : List Tree) (found : Option (List Tree)) → IsAlike value made → IfAlike values found → IfAlike (value ∷ values) (put_before made found)
unfolding IfAlike
before-alike value made values None h g = tt
before-alike value made values (Some list) h g = (h, g)

passed-alike : (known : Known) (values : List Tree) (types : CTypes) → IfAlike values (passed known values types)
unfolding IfAlike
passed-alike known [] no_types = tt
passed-alike known [] (more_types type types) = tt
passed-alike known (value ∷ values) no_types = tt
passed-alike known (value ∷ values) (more_types type types) =
    by-test (is_assignable known value type)
    (before-alike value (as_type type value) values (passed known values types) (type-kept (IsAlike value) (alike-kept value) type value (refl, λ laid. laid))
    (passed-alike known values types))
  where
    by-test : (test : Bool) → IfAlike (value ∷ values) (put_before (as_type type value) (passed known values types))
        → IfAlike (value ∷ values) (if test then put_before (as_type type value) (passed known values types) else None)
    by-test true g = g
    by-test false g = tt

called-by : (known : Known) (type : CType) (values : List Tree) → IfAlikeCall values (called known type values)
unfolding IfAlike IfAlikeCall
called-by known (function_type result parameters) values = mapped (passed known values parameters) (passed-alike known values parameters)
  where
    mapped : (found : Option (List Tree)) → IfAlike values found → IfAlikeCall values (option_map (λ list. (bare result, list)) found)
    mapped None h = tt
    mapped (Some list) h = h
called-by known type values = tt

pub called-alike : (known : Known) (type : CType) (values : List Tree) (it : CType × List Tree) → called known type values ≡ Some it → AreAlike values it.1
unfolding IfAlikeCall
called-alike known type values it e = subst (IfAlikeCall values) e (called-by known type values)

pub alike-row : (at behind : ℕ) (values list : List Tree) → AreAlike values list → StandBetween at behind values → StandBetween at behind list
alike-row at behind [] [] alike h = h
alike-row at behind [] (other ∷ more) alike h = absurd alike
alike-row at behind (one ∷ some) [] alike h = absurd alike
alike-row at behind (one ∷ some) (other ∷ more) alike h =
    subst (λ (it : Spans). (at ≤ it.outer.first) × IsLaidOut other × StandBetween it.outer.after behind more) (sym alike.0.0)
    (h.0, alike.0.1 h.1, alike-row (spans_of one).outer.after behind some more alike.1 h.2)
