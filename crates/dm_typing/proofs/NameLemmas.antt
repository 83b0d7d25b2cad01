-- Names, constants and string literals.
use Rattle.std.specs.Prelude.{◌≡◌, ℕ, Bool, true, ◌&&◌, IsTrue, List, [], Option, Some, None, option_and_then, unwrap_or, slice_get, refl, IfSome, IsSome}
use Rattle.std.proofs.Common.{sym, ap, ◌∙◌, subst}
use Rattle.dm_token.specs.declared.token.CToken.{CToken}
use Rattle.dm_int.specs.declared.Kind.TheVariants as k
use Rattle.dm_type.specs.CTypes.{CType, integer, function as function_type, bare}
use Rattle.dm_scope.specs.Scopes.{number_of}
use Rattle.dm_tree.specs.declared.unit.Sort.{Sort}
use Rattle.dm_tree.specs.declared.unit.Sort.TheVariants.{Object, Function, Typedef, Enumerator, Tag}
use Rattle.dm_tree.specs.Composites.{covers}
use Rattle.dm_tree.specs.Initialisers.{is_object, is_enumerator, is_function_sort}
use Rattle.dm_tree.specs.Scenes.{Names, is_function}
use Rattle.dm_tree.specs.Trees.{Label}
use Rattle.dm_tree.specs.Trees as label
use Rattle.dm_tree.specs.Typing.{FitsSort, has_linkage}
use Rattle.dm_tree.specs.Units.{Declaration}
use Rattle.dm_typing.specs.declared.extent.Extent.{Extent}
use Rattle.dm_typing.specs.Known.{Known, Setting, meaning_of}
use Rattle.dm_typing.specs.Conversions.{made}
use Rattle.dm_typing.specs.Rules.{named_by_sort}
use Rattle.dm_typing.specs.Typing.{named, may_be_used, constant_tree, literal_tree}
use Rattle.dm_typing.specs.Sound.{IsProper, AreEntries, IsSoundToken, scene_of, IsSound, IsSoundValue, Gives}
use Rattle.dm_typing.proofs.CoverLemmas.{covers-itself}
use Rattle.dm_typing.proofs.ConversionLemmas.{obeyed, given-if}

function-bare : (type : CType) → is_function type ≡ true → type ≡ bare type
function-bare (function_type result parameters) h = refl
function-bare type h = absurd (cc)

-- the entry that a name means is that of its number
entry-at : (known : Known) (found : Option ℕ) (entry : Declaration) → option_and_then (slice_get known.declared) found ≡ Some entry
    → slice_get known.declared (unwrap_or found 0) ≡ Some entry
entry-at known (Some at) entry h = h
entry-at known None entry h = absurd (cc)

names-it : (known : Known) (at : ℕ) (entry : Declaration) (P : Declaration → Type 0) → slice_get known.declared at ≡ Some entry → P entry → Names (scene_of known) at P
names-it known at entry P e p =
    let Q : Option Declaration → Type 0 = λ found. IfSome found P × IsSome found in subst Q (sym e) (p, refl)

module _ (setting : Setting) (known : Known) (span : Extent) where
  IsName : Label × CType → Type 0
  IsName one = IsSound known (made setting.source span one.0 one.1 [])

  sort-sound : (entry : Declaration) (at : ℕ) → slice_get known.declared at ≡ Some entry → (sort : Sort) → entry.sort ≡ sort
      → FitsSort sort entry.kind (has_linkage entry.linkage) → IsProper entry.kind
      → (one : Label × CType) → named_by_sort sort at entry.kind ≡ Some one → IsName one
  unfolding IsName
  sort-sound entry at e (Object fixed) s fits proper one h =
      let same : (label.object at, entry.kind) ≡ one = cc in
      let is : (is_object entry.sort && covers entry.kind entry.kind) ≡ true = ap (λ it. is_object it && covers entry.kind entry.kind) s ∙ covers-itself entry.kind in
      subst IsName same (
        refl,
        (λ no. absurd (cc)),
        proper,
        (names-it known at entry (λ it. IsTrue (is_object it.sort && covers it.kind entry.kind)) e is, tt),
      )
  sort-sound entry at e Function s fits proper one h =
      let same : (label.function at, entry.kind) ≡ one = cc in
      let is : (is_function_sort entry.sort && covers entry.kind entry.kind) ≡ true = ap (λ it. is_function_sort it && covers entry.kind entry.kind) s ∙ covers-itself entry.kind in
      subst IsName same (
        refl,
        (λ no. function-bare entry.kind fits.0),
        proper,
        (names-it known at entry (λ it. IsTrue (is_function_sort it.sort && covers it.kind entry.kind)) e is, tt),
      )
  sort-sound entry at e (Enumerator value) s fits proper one h =
      let same : (label.enumerator at, integer k.Int) ≡ one = cc in
      subst IsName same (refl, (λ no. refl), tt, ((names-it known at entry (λ it. IsTrue (is_enumerator it.sort)) e (ap is_enumerator s), refl), tt))
  sort-sound entry at e Typedef s fits proper one h = absurd (cc)
  sort-sound entry at e Tag s fits proper one h = absurd (cc)

  pub name-gives : AreEntries known → (used : Bool) (name : List ℕ) (found : Option Declaration) → meaning_of known name ≡ found
      → Gives known IsSound (named setting used known span name found)
  unfolding IsName
  name-gives entries used name None e = tt
  name-gives entries used name (Some entry) e =
      let at = unwrap_or (number_of known.scopes name) 0 in
      let there = entry-at known (number_of known.scopes name) entry e in
      given-if known IsSound (named_by_sort entry.sort at entry.kind) 1 span.inner.first _
      (λ one h. obeyed known IsSound (may_be_used setting used name entry) 37 span.inner.first _
      (λ may. let it = entries at entry there in (refl, sort-sound entry at there entry.sort refl it.0 it.1 one h)))

  pub constant-sound : (token : CToken) → IsSoundToken token → IsSoundValue known (constant_tree setting span (Some token))
  constant-sound token fits = (refl, refl, tt, (fits, tt))

  pub literal-sound : (bytes : List ℕ) → IsSound known (literal_tree setting span bytes)
  literal-sound bytes = (refl, (λ no. absurd (cc)), tt, (refl, tt))
