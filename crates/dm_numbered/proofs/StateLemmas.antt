-- What the typing knows at a place of a unit, and what is seen of names there.
use Rattle.std.specs.Prelude.{◌≡◌, ℕ, ◌+◌, Bool, true, false, List, [], ◌∷◌, length, Some, find, slice_get, refl}
use Rattle.std.specs.List.{AllByRecursion}
use Rattle.std.proofs.Common.{sym, ap, ◌∙◌, subst, arith, length-append}
use Rattle.dm_syn.specs.Sources.{spelling_at}
use Rattle.dm_tree.specs.Trees.{Label, Spans, Tree, Trees, node, no_trees, more_trees, object, function, enumerator, block, declare, if_statement, switch, case, default, while_loop, do_loop, for_loop}
use Rattle.dm_tree.specs.Units.{Declaration}
use Rattle.dm_typing.specs.Known.{Known, Setting, declaring, tag_key}
use Rattle.dm_names.specs.declared.identifier.Identifier.{Identifier}
use Rattle.dm_names.specs.declared.seen.Seen.{Seen}
use Rattle.dm_names.specs.Meanings.{is_at}
use Rattle.dm_names.specs.Scopes.{meaning_of, declared_in}
use Rattle.dm_names.specs.Seen.{Source, spelled, mentioned, declaring_new}
use Rattle.dm_numbered.proofs.GrowthLemmas.{all-back}
use Rattle.dm_numbered.proofs.ScopeLemmas.{IsPlain, AreAlike, declares-name, declares-tag, AreUnder, under-wider, under-declared}

abbrev pub IsAmong : List Identifier → Identifier → Type 0
IsAmong all one = (k : ℕ) × (slice_get all k ≡ Some one)

-- What doesn't change on the way: what is told of identifiers in the end, which then are found among all, the setting of the typing, and the
-- numbers of the declarators. No name has `#` before it.
pub record Frame : Type 1 where
  pub Told : Identifier → Type 0
  pub all : List Identifier
  pub told : (one : Identifier) → Told one → find (is_at one.at) all ≡ Some one
  pub setting : Setting
  pub numbers : List ℕ
  pub plain : (one : Identifier) → Told one → one.tag ≡ false → IsPlain (spelling_at setting.source one.at)

abbrev pub source_in : Frame → Source
source_in c = record { tokens = c.setting.source.tokens; numbers = c.numbers }

pub spelled-is : (c : Frame) (at : ℕ) → spelled (source_in c) at ≡ spelling_at c.setting.source at
unfolding spelling_at
spelled-is c at = refl

-- ---- trees of expressions: nodes that name entries are told of, and no node is that of a statement

module _ (Told : Identifier → Type 0) where
  abbrev Names : ℕ → Spans → Type 0
  Names number spans = Told (record { at = spans.inner.first; tag = false; number = Some number })

  abbrev pub IsSaid : Label → Spans → Type 0
  IsSaid (object number) spans = Names number spans
  IsSaid (function number) spans = Names number spans
  IsSaid (enumerator number) spans = Names number spans
  IsSaid block spans = ⊥
  IsSaid (declare lengths declarators) spans = ⊥
  IsSaid if_statement spans = ⊥
  IsSaid switch spans = ⊥
  IsSaid case spans = ⊥
  IsSaid default spans = ⊥
  IsSaid while_loop spans = ⊥
  IsSaid do_loop spans = ⊥
  IsSaid (for_loop first second third) spans = ⊥
  IsSaid label spans = Unit {0}

  abbrev mutual
    pub EachSaid : Tree → Type 0
    EachSaid (node label kind spans parts) = IsSaid label spans × EachSaidIn parts

    pub EachSaidIn : Trees → Type 0
    EachSaidIn no_trees = Unit {0}
    EachSaidIn (more_trees first rest) = EachSaid first × EachSaidIn rest

-- ---- the state

-- the scopes are alike, there are as many entries, and each number is that of one
pub record Good (c : Frame) (known : Known) (seen : Seen) : Type 0 where
  pub alike : AreAlike known.scopes seen.scopes
  pub entries : seen.entries ≡ length known.declared
  pub under : AreUnder seen.entries seen.scopes
  pub constants : AllByRecursion (EachSaid c.Told) known.constants

abbrev pub In : Frame → Seen → Type 0
In c seen = AllByRecursion c.Told seen.identifiers

module _ (c : Frame) where
  -- the last identifier
  pub last-told : (seen : Seen) (tag : Bool) (at : ℕ) → In c (mentioned (source_in c) tag at seen) → c.Told (record { at = at; tag = tag; number = meaning_of tag (spelled (source_in c) at) seen.scopes })
  last-told seen tag at within = (all-back c.Told seen.identifiers (record { at = at; tag = tag; number = meaning_of tag (spelled (source_in c) at) seen.scopes } ∷ []) within).0

  pub last-plain : (seen : Seen) (at : ℕ) → In c (mentioned (source_in c) false at seen) → IsPlain (spelling_at c.setting.source at)
  last-plain seen at within = c.plain _ (last-told seen false at within) refl

  pub mentioned-good : (known : Known) (seen : Seen) (tag : Bool) (at : ℕ) → Good c known seen → Good c known (mentioned (source_in c) tag at seen)
  mentioned-good known seen tag at good = record { alike = good.alike; entries = good.entries; under = good.under; constants = good.constants }

  -- a new entry
  new-good : (known : Known) (seen : Seen) (tag : Bool) (at : ℕ) (key : List ℕ) (entry : Declaration) → Good c known seen
      → AreAlike (declaring known key entry).scopes (declared_in tag (spelled (source_in c) at) seen.entries seen.scopes) → Good c (declaring known key entry) (declaring_new (source_in c) tag at seen)
  new-good known seen tag at key entry good alike = record {
    alike = alike;
    entries = ap (λ n. n + 1) good.entries ∙ sym (length-append known.declared (entry ∷ []));
    under = under-declared (seen.entries + 1) tag (spelled (source_in c) at) seen.entries seen.scopes (omega arith) (under-wider seen.entries (seen.entries + 1) seen.scopes (omega arith) good.under);
    constants = good.constants;
  }

  pub name-good : (known : Known) (seen : Seen) (at : ℕ) (entry : Declaration) → In c (declaring_new (source_in c) false at seen) → Good c known seen
      → Good c (declaring known (spelling_at c.setting.source at) entry) (declaring_new (source_in c) false at seen)
  name-good known seen at entry within good =
      new-good known seen false at (spelling_at c.setting.source at) entry good
      (subst (λ name. AreAlike (declaring known (spelling_at c.setting.source at) entry).scopes (declared_in false name seen.entries seen.scopes)) (sym (spelled-is c at))
      (declares-name known.scopes seen.scopes (spelling_at c.setting.source at) (length known.declared) seen.entries good.alike
      (c.plain _ (all-back c.Told seen.identifiers (_ ∷ []) within).0 refl) (sym good.entries)))

  pub tag-good : (known : Known) (seen : Seen) (at : ℕ) (entry : Declaration) → Good c known seen
      → Good c (declaring known (tag_key (spelling_at c.setting.source at)) entry) (declaring_new (source_in c) true at seen)
  tag-good known seen at entry good =
      new-good known seen true at (tag_key (spelling_at c.setting.source at)) entry good
      (subst (λ name. AreAlike (declaring known (tag_key (spelling_at c.setting.source at)) entry).scopes (declared_in true name seen.entries seen.scopes)) (sym (spelled-is c at))
      (declares-tag known.scopes seen.scopes (spelling_at c.setting.source at) (length known.declared) seen.entries good.alike (sym good.entries)))
