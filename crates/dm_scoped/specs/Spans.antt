-- Where the nodes of typed trees stand among the tokens.
--     MayShare label tree others      a part of a node, with these behind it, may have the node's tokens
--     AreInside label spans at trees      trees stand inside a node's tokens from one on, each behind those before it
--     IsLaidOut tree      all parts in a tree stand inside its nodes and in the order of the source
--     IsLaidOutUnit unit      so do the trees of external declarations, which stand one behind the other (6.9p1)
use Rattle.std.specs.Prelude.{◌≡◌, ℕ, ◌+◌, ◌<◌, ◌≤◌, ◌⊎◌, Bool, true, false, List, [], ◌∷◌, ◌++◌, take, drop}
use Rattle.dm_token.specs.declared.place.Span.{Span}
use Rattle.dm_tree.specs.Trees.{Label, read, decay, convert, follow, member, comma, declare, Spans, Tree, Trees, node, no_trees, more_trees, label_of, spans_of, listed, parts_of}
use Rattle.dm_tree.specs.Units.{External, ExternalForm, declares, defines_function, TypedUnit}
use Rattle.dm_effect.specs.Entities.{trees_in_form}

-- a span has fewer tokens than another
abbrev pub IsShorter : Span → Span → Type 0
IsShorter a b = a.after + b.first < b.after + a.first

-- What comes from the same syntax as the node above it: the operand of an implied conversion, which has no type name (6.3); and what is no
-- conversion: the object that is read or decays, the sum that a subscript follows, what the operator -> follows, and a comma under another.
abbrev pub is_conversion : Label → Bool
is_conversion convert = true
is_conversion label = false

abbrev pub may_be_above : Label → Bool
may_be_above read = true
may_be_above decay = true
may_be_above follow = true
may_be_above (member n) = true
may_be_above comma = true
may_be_above label = false

abbrev pub MayShare : Label → Tree → List Tree → Type 0
MayShare convert one others = others ≡ []
MayShare label one others = (may_be_above label ≡ true) × (is_conversion (label_of one) ≡ false)

-- the last tree ends before another begins
abbrev pub EndBefore : List Tree → Tree → Type 0
EndBefore [] behind = Unit {0}
EndBefore (last ∷ []) behind = (spans_of last).outer.after ≤ (spans_of behind).outer.first
EndBefore (one ∷ others) behind = EndBefore others behind

-- what stands behind a tree stands behind its parts
abbrev pub IsBehind : Tree → List Tree → Type 0
IsBehind one [] = Unit {0}
IsBehind one (behind ∷ others) = EndBefore (parts_of one) behind

-- Trees behind one another, from a token on. The first may come from the same syntax as the node above them, and has that node's spans then;
-- another stands with all its parentheses inside the node's own tokens, and doesn't have all of them.
abbrev pub AreInside : Label → Spans → ℕ → List Tree → Type 0
AreInside label spans at [] = at ≤ spans.inner.after
AreInside label spans at (one ∷ others) =
    ((spans_of one ≡ spans) × (at ≤ spans.inner.first) × MayShare label one others × IsBehind one others × AreInside label spans (spans.inner.first + 1) others)
    ⊎ ((at ≤ (spans_of one).outer.first) × IsShorter (spans_of one).outer spans.inner × AreInside label spans (spans_of one).outer.after others)

-- The parts of a node as they stand in the source: the operand of a cast behind its type name. The lengths and enumerator values of a
-- declaration stand among its initialisers, so each of the two lists is in order, and has no token in common with the other.
abbrev pub in_source_order : Label → List Tree → List (List Tree)
in_source_order convert (operand ∷ lengths) = (lengths ++ operand ∷ []) ∷ []
in_source_order (declare lengths declarators) parts = take lengths parts ∷ drop lengths parts ∷ []
in_source_order label parts = parts ∷ []

-- no token is in two trees
abbrev pub IsApart : Tree → Tree → Type 0
IsApart one other = ((spans_of one).outer.after ≤ (spans_of other).outer.first) ⊎ ((spans_of other).outer.after ≤ (spans_of one).outer.first)

abbrev pub IsApartFrom : Tree → List Tree → Type 0
IsApartFrom one [] = Unit {0}
IsApartFrom one (other ∷ others) = IsApart one other × IsApartFrom one others

-- nor in a tree of one list and one of another
abbrev pub AreApart : List Tree → List Tree → Type 0
AreApart [] others = Unit {0}
AreApart (one ∷ ones) others = IsApartFrom one others × AreApart ones others

abbrev pub StandApart : Label → List Tree → Type 0
StandApart (declare lengths declarators) parts = AreApart (take lengths parts) (drop lengths parts)
StandApart label parts = Unit {0}

abbrev pub EachInside : Label → Spans → List (List Tree) → Type 0
EachInside label spans [] = Unit {0}
EachInside label spans (list ∷ lists) = AreInside label spans spans.inner.first list × EachInside label spans lists

-- a node has a token, each pair of parentheses has one before its own tokens and one behind them, and its parts stand inside its own tokens
abbrev mutual
  pub IsLaidOut : Tree → Type 0
  IsLaidOut (node label kind spans parts) =
      (spans.outer.first ≤ spans.inner.first) × (spans.inner.first < spans.inner.after)
      × (spans.outer.first + spans.outer.after ≡ spans.inner.first + spans.inner.after) × EachInside label spans (in_source_order label (listed parts)) × AreLaidOut parts
      × StandApart label (listed parts)

  pub AreLaidOut : Trees → Type 0
  AreLaidOut no_trees = Unit {0}
  AreLaidOut (more_trees first rest) = IsLaidOut first × AreLaidOut rest

-- ---- units

-- trees that stand behind one another, from a token on and before another
abbrev pub StandBetween : ℕ → ℕ → List Tree → Type 0
StandBetween at behind [] = at ≤ behind
StandBetween at behind (one ∷ others) = (at ≤ (spans_of one).outer.first) × IsLaidOut one × StandBetween (spans_of one).outer.after behind others

abbrev pub IsLaidOutForm : Span → ExternalForm → Type 0
IsLaidOutForm span (declares declarators expressions) = StandBetween span.first span.after expressions
IsLaidOutForm span (defines_function f parameters body) = StandBetween span.first span.after (body ∷ [])

abbrev pub IsLaidOutExternal : External → Type 0
IsLaidOutExternal one =
    StandBetween one.span.first one.span.after one.constants × IsLaidOutForm one.span one.form × AreApart one.constants (trees_in_form one.form)

-- external declarations from a token on
abbrev pub AreLaidOutFrom : ℕ → List External → Type 0
AreLaidOutFrom at [] = Unit {0}
AreLaidOutFrom at (one ∷ others) = (one.span.first ≡ at) × IsLaidOutExternal one × AreLaidOutFrom one.span.after others

abbrev pub IsLaidOutUnit : TypedUnit → Type 0
IsLaidOutUnit unit = AreLaidOutFrom 0 unit.externals
