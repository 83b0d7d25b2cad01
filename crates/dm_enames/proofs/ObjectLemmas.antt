-- What names mean, and what their sorts come to.
use Rattle.std.specs.Prelude.{◌≡◌, ℕ, Bool, true, false, ◌&&◌, not, List, [], option_and_then, option_map, unwrap_or, slice_get, Option, Some, refl}
use Rattle.std.proofs.Common.{sym, ap, ◌∙◌}
use Rattle.std.proofs.lemmas.Option.{slice_get-map}
use Rattle.dm_type.specs.declared.shape.Shape.{Shape}
use Rattle.dm_type.specs.CTypes.{CType}
use Rattle.dm_scope.specs.Scopes.{number_of}
use Rattle.dm_syn.specs.Sources.{spelling_at}
use Rattle.dm_tree.specs.declared.unit.Declared.{Declared}
use Rattle.dm_tree.specs.declared.unit.Linkage.{Linkage}
use Rattle.dm_tree.specs.declared.unit.Sort.{Sort}
use Rattle.dm_tree.specs.declared.unit.Sort.TheVariants.{Function}
use Rattle.dm_tree.specs.Initialisers.{is_function_sort}
use Rattle.dm_tree.specs.Trees.{Label}
use Rattle.dm_tree.specs.Units.{Declaration}
use Rattle.dm_tree.specs.Views.{view_of_declared, entries_of}
use Rattle.dm_typing.specs.declared.extent.Extent.{Extent}
use Rattle.dm_typing.specs.declared.known.Known.{Known as Held}
use Rattle.dm_typing.specs.Conversions.{made}
use Rattle.dm_typing.specs.Known.{Known, Setting, given, broken, meaning_of}
use Rattle.dm_enames.specs.Meanings.{referred}
use Rattle.dm_typing.specs.Rules.{named_by_sort}
use Rattle.dm_typing.specs.Typing.{named, may_be_used, is_internal}
use Rattle.dm_typing.specs.Views.{table_over, known_over}
use Rattle.dm_typing.proofs.GivesLemmas.{obeyed, disobeyed, found-it}

-- ---- what a name means

pub meaning-at : (held : Held) (later : List Shape) (name : List ℕ) (n : ℕ) → number_of held.scopes name ≡ Some n
    → meaning_of (known_over later held) name ≡ option_map (view_of_declared (table_over later held.types)) (slice_get held.declared n)
meaning-at held later name n h =
    ap (option_and_then (slice_get (entries_of (table_over later held.types) held.declared))) h
    ∙ slice_get-map (view_of_declared (table_over later held.types)) held.declared n

pub meaning-entry : (held : Held) (later : List Shape) (name : List ℕ) (n : ℕ) (entry : Declared) → number_of held.scopes name ≡ Some n → slice_get held.declared n ≡ Some entry
    → meaning_of (known_over later held) name ≡ Some (view_of_declared (table_over later held.types) entry)
meaning-entry held later name n entry h is = meaning-at held later name n h ∙ ap (option_map (view_of_declared (table_over later held.types))) is

-- ---- names in expressions

pub referred-as : (setting : Setting) (used : Bool) (known : Known) (extent : Extent) (name : List ℕ) (found : Option Declaration)
    → name ≡ spelling_at setting.source extent.inner.first → meaning_of known name ≡ found → referred setting used known extent ≡ named setting used known extent name found
referred-as setting used known extent name found n m =
    sym (ap (λ x. named setting used known extent x (meaning_of known x)) n) ∙ ap (named setting used known extent name) m

-- ---- use (C37)

abbrev use_of : Bool → Sort → Linkage → Bool → Bool
use_of used sort linkage lacks = not (used && is_function_sort sort && is_internal linkage && lacks)

no-function : (used : Bool) (sort : Sort) (linkage : Linkage) (lacks : Bool) → is_function_sort sort ≡ false → use_of used sort linkage lacks ≡ true
no-function false sort linkage lacks h = refl
no-function true sort linkage lacks h = ap (λ t. not (true && t && is_internal linkage && lacks)) h

a-function : (used : Bool) (linkage : Linkage) (lacks : Bool) → use_of used Function linkage lacks ≡ not (used && (is_internal linkage && lacks))
a-function false linkage lacks = refl
a-function true linkage lacks = refl

module _ (setting : Setting) (name : List ℕ) (entry : Declaration) (used : Bool) where
  pub use-other : (sort : Sort) → entry.sort ≡ sort → is_function_sort sort ≡ false → may_be_used setting used name entry ≡ true
  use-other sort e h = no-function used entry.sort entry.linkage (setting.lacks name) (ap is_function_sort e ∙ h)

  pub use-function : (linkage : Linkage) → entry.sort ≡ Function → entry.linkage ≡ linkage
      → may_be_used setting used name entry ≡ not (used && (is_internal linkage && setting.lacks name))
  use-function linkage s l =
      ap (λ (x : Sort). use_of used x entry.linkage (setting.lacks name)) s
      ∙ ap (λ (x : Linkage). use_of used Function x (setting.lacks name)) l
      ∙ a-function used linkage (setting.lacks name)

-- ---- names by their sorts

module _ (setting : Setting) (used : Bool) (known : Known) (extent : Extent) (name : List ℕ) (entry : Declaration) where
  -- what the sort comes to
  sorted : (sort : Sort) (n : ℕ) → entry.sort ≡ sort → number_of known.scopes name ≡ Some n
      → named_by_sort entry.sort (unwrap_or (number_of known.scopes name) 0) entry.kind ≡ named_by_sort sort n entry.kind
  sorted sort n s h =
      ap (λ (x : Sort). named_by_sort x (unwrap_or (number_of known.scopes name) 0) entry.kind) s ∙ ap (λ (x : Option ℕ). named_by_sort sort (unwrap_or x 0) entry.kind) h

  pub named-as : (sort : Sort) (n : ℕ) (form : Label) (kind : CType) → entry.sort ≡ sort → number_of known.scopes name ≡ Some n → named_by_sort sort n entry.kind ≡ Some (form, kind)
      → may_be_used setting used name entry ≡ true → named setting used known extent name (Some entry) ≡ given known (made setting.source extent form kind [])
  named-as sort n form kind s h is may =
      found-it (named_by_sort entry.sort (unwrap_or (number_of known.scopes name) 0) entry.kind) (form, kind) 1 extent.inner.first _ (sorted sort n s h ∙ is)
      ∙ obeyed (may_be_used setting used name entry) 37 extent.inner.first _ may

  pub named-lacking : (sort : Sort) (n : ℕ) (form : Label) (kind : CType) → entry.sort ≡ sort → number_of known.scopes name ≡ Some n → named_by_sort sort n entry.kind ≡ Some (form, kind)
      → may_be_used setting used name entry ≡ false → named setting used known extent name (Some entry) ≡ broken 37 extent.inner.first
  named-lacking sort n form kind s h is may =
      found-it (named_by_sort entry.sort (unwrap_or (number_of known.scopes name) 0) entry.kind) (form, kind) 1 extent.inner.first _ (sorted sort n s h ∙ is)
      ∙ disobeyed (may_be_used setting used name entry) 37 extent.inner.first _ may
