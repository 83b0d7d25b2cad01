-- Structs and enums by their tags.
use Rattle.std.specs.Prelude.{◌≡◌, ℕ, ◌==◌, ◌<◌, Bool, true, false, ◌||◌, if◌then◌else◌, List, [], ◌∷◌, ◌++◌, length, Option, Some, None, is_some, option_and_then, option_map, slice_get, refl}
use Rattle.std.proofs.Common.{sym, ap, ◌∙◌, subst, arith, ⊎_elim, length-append}
use Rattle.dm_token.specs.declared.place.Span.{Span}
use Rattle.dm_int.specs.declared.Kind.TheVariants as k
use Rattle.dm_type.specs.declared.shape.Content.{Content}
use Rattle.dm_type.specs.declared.shape.Member.{Member}
use Rattle.dm_type.specs.declared.shape.Struct.{Struct as StructEntry}
use Rattle.dm_type.specs.CTypes.{CType, integer, struct}
use Rattle.dm_type.specs.Layouts.{struct_layout, contained}
use Rattle.dm_type.specs.Tables.{content_of, members_of, with_content}
use Rattle.dm_type.specs.TableLaws.{injected}
use Rattle.dm_scope.specs.Scopes.{is_declared}
use Rattle.dm_syn.specs.Sources.{spelling_at}
use Rattle.dm_tree.specs.Scenes.{is_integer}
use Rattle.dm_tree.specs.Typing.{IsTagType}
use Rattle.dm_tree.specs.Units.{Declaration}
use Rattle.dm_typing.specs.Known.{Known, Setting, Outcome, given, broken, after, obeys, meaning_of, place_at, tag_key, tag_entry}
use Rattle.dm_typing.specs.Typing.{number_if_struct, spelled, tag_declared, new_struct, tag_inside, tag_seen, struct_named, enum_named, is_among, may_have_members, struct_begun, with_new_struct, beginning, TypedMember, fields, struct_ended}
use Rattle.dm_typing.specs.Sound.{IsType, IsSoundKnown, KnowsMore, GivesMore}
use Rattle.dm_typing.proofs.KindLemmas.{same-numbers, numbers-same}
use Rattle.dm_typing.proofs.ConversionLemmas.{or-left, or-right}
use Rattle.dm_typing.proofs.CallLemmas.{one-of}
use Rattle.dm_typing.proofs.StructLemmas.{with-new, knows-new, sound-new, with-members, knows-members, sound-members}
use Rattle.dm_typing.proofs.KnownLemmas.{Any, IsFound, found-entry, none-found, meaning-found, found-if, knows-itself, knows-through, stays-so, obeys-more, knows-entry, sound-entry}

-- knowledge that grew in one step, with no more structs being read
pub record Grown (known behind : Known) : Type 0 where
  pub more : KnowsMore known behind
  pub sound : IsSoundKnown behind
  pub begun : behind.begun ≡ known.begun

-- ---- entries of tags

module _ (setting : Setting) (known : Known) (sound : IsSoundKnown known) where
  pub tag-inside-found : (tag : Option ℕ) → IsFound known (tag_inside setting known tag)
  tag-inside-found None = none-found known
  tag-inside-found (Some at) =
      let key = tag_key (spelling_at setting.source at) in found-if known (is_declared known.scopes key) (meaning_of known key) (meaning-found known sound key)

  pub tag-seen-found : (tag : Option ℕ) → IsFound known (tag_seen setting known tag)
  tag-seen-found None = none-found known
  tag-seen-found (Some at) = meaning-found known sound (tag_key (spelling_at setting.source at))

  pub tag-grown : (tag : Option ℕ) (type : CType) → IsTagType type → IsType known type → Grown known (tag_declared setting known tag type)
  tag-grown None type is fits = record { more = knows-itself known; sound = sound; begun = refl }
  tag-grown (Some at) type is fits =
      let key = tag_key (spelling_at setting.source at) in
      let entry = tag_entry (spelling_at setting.source at) type (place_at setting.source at) in record {
        more = knows-entry known sound key entry;
        sound = sound-entry known sound key entry (is, refl) fits;
        begun = refl;
      }

  pub int-type : IsType known (integer k.Int)
  int-type = (tt, λ at e. absurd (cc))

  -- an enum whose enumerators follow
  pub enum-grown : (tag : Option ℕ) (test : Bool) → Grown known (if test then known else tag_declared setting known tag (integer k.Int))
  enum-grown tag true = record { more = knows-itself known; sound = sound; begun = refl }
  enum-grown tag false = tag-grown tag (integer k.Int) tt int-type

  pub enum-gives : (span : Span) (found : Option Declaration) → GivesMore known IsType (enum_named known span found)
  enum-gives span None = tt
  enum-gives span (Some entry) = obeys-more known IsType (is_integer entry.kind) 4 span.first _ (λ whole. stays-so known IsType (integer k.Int) sound int-type)

-- ---- a new struct

module _ (setting : Setting) (known : Known) (sound : IsSoundKnown known) (tag : Option ℕ) where
  abbrev number : ℕ
  number = length known.types.structs

  abbrev added : Known
  added = with-new known sound (spelled setting tag)

  is-last : number < length added.types.structs
  is-last = let longer = length-append known.types.structs (record { tag = spelled setting tag; content = None } ∷ []) in omega (arith, longer)

  new-type : IsType added (struct number)
  new-type = (tt, λ at e. subst (λ n. n < length added.types.structs) (injected number at e) is-last)

  declared-new : Grown added (new_struct setting known tag)
  declared-new = tag-grown setting added (sound-new known sound (spelled setting tag)) tag (struct number) tt new-type

  pub new-grown : Grown known (new_struct setting known tag)
  new-grown = record {
    more = knows-through known added (new_struct setting known tag) (knows-new known sound (spelled setting tag)) declared-new.more;
    sound = declared-new.sound;
    begun = declared-new.begun;
  }

  pub new-last : number < length (new_struct setting known tag).types.structs
  new-last = let longer = declared-new.more.structs in let last = is-last in omega (arith, longer, last)

  -- which has no members yet
  same-types : (tag : Option ℕ) (behind : Known) (type : CType) → (tag_declared setting behind tag type).types ≡ behind.types
  same-types None behind type = refl
  same-types (Some at) behind type = refl

  empty-last : (structs : List StructEntry) (tag : Option (List ℕ))
      → option_and_then (λ (entry : StructEntry). entry.content) (slice_get (structs ++ record { tag = tag; content = None } ∷ []) (length structs)) ≡ None
  empty-last [] tag = refl
  empty-last (first ∷ structs) tag = empty-last structs tag

  pub new-empty : content_of (new_struct setting known tag).types number ≡ None
  new-empty = ap (λ table. content_of table number) (same-types tag added (struct number)) ∙ empty-last known.types.structs (spelled setting tag)

pub struct-gives : (setting : Setting) (known : Known) (sound : IsSoundKnown known) (span : Span) (tag : Option ℕ) (found : Option Declaration) → IsFound known found
    → GivesMore known IsType (struct_named setting known span tag found)
struct-gives setting known sound span tag None is =
    let new = new-grown setting known sound tag in
    let last = new-last setting known sound tag in (
      new.more,
      new.sound,
      new.begun,
      (tt, λ at e. subst (λ n. n < length (new_struct setting known tag).types.structs) (injected (length known.types.structs) at e) last),
    )
struct-gives setting known sound span tag (Some entry) is =
    obeys-more known IsType (is_some (number_if_struct entry.kind)) 4 span.first _
    (λ struct. stays-so known IsType entry.kind sound (found-entry known (Some entry) is entry refl).1)

-- ---- a struct whose members follow

-- the struct whose members follow, if there is one: it has none, and isn't among those whose members are being read
pub record Starts (known behind : Known) (number : Option ℕ) : Type 0 where
  pub grown : Grown known behind
  pub below : (at : ℕ) → number ≡ Some at → at < length behind.types.structs
  pub empty : (at : ℕ) → number ≡ Some at → content_of behind.types at ≡ None
  pub fresh : (at : ℕ) → number ≡ Some at → (other : ℕ) → is_among other known.begun ≡ true → other ≡ at → ⊥

neither : (one other : Bool) (number at : ℕ) → (if one || other then None else Some number) ≡ Some at → (one ≡ false) × (other ≡ false) × (number ≡ at)
neither true other number at h = absurd (cc)
neither false true number at h = absurd (cc)
neither false false number at h = (refl, refl, injected number at h)

no-content : (found : Option Content) → is_some (option_map (λ (content : Content). content.members) found) ≡ false → found ≡ None
no-content (Some content) h = absurd (cc)
no-content None h = refl

module _ (setting : Setting) (known : Known) (sound : IsSoundKnown known) (tag : Option ℕ) where
  begun-of : (number : Option ℕ) (at : ℕ) → option_and_then (may_have_members known) number ≡ Some at
      → (number ≡ Some at) × (content_of known.types at ≡ None) × (is_among at known.begun ≡ false)
  begun-of (Some number) at h =
      let parts = neither (is_some (members_of known.types number)) (is_among number known.begun) number at h in (
        ap Some parts.2,
        subst (λ n. content_of known.types n ≡ None) parts.2 (no-content (content_of known.types number) parts.0),
        subst (λ n. is_among n known.begun ≡ false) parts.2 parts.1,
      )
  begun-of None at h = absurd (cc)

  apart : (at other : ℕ) → is_among at known.begun ≡ false → is_among other known.begun ≡ true → other ≡ at → ⊥
  apart at other out inside same = let both : false ≡ true = sym out ∙ (ap (λ n. is_among n known.begun) (sym same) ∙ inside) in cc

  pub struct-starts : (found : Option Declaration) → IsFound known found → Starts known (with_new_struct setting known tag found) (struct_begun known found)
  struct-starts None is =
      let new = new-grown setting known sound tag in
      let last = new-last setting known sound tag in
      let nothing = new-empty setting known sound tag in record {
        grown = new;
        below = λ at e. subst (λ n. n < length (new_struct setting known tag).types.structs) (injected (length known.types.structs) at e) last;
        empty = λ at e. subst (λ n. content_of (new_struct setting known tag).types n ≡ None) (injected (length known.types.structs) at e) nothing;
        fresh = λ at e other among same. let under = (sound.begun other among).0 in let last-is = injected (length known.types.structs) at e in omega (arith, under, same, last-is);
      }
  struct-starts (Some entry) is = record {
    grown = record { more = knows-itself known; sound = sound; begun = refl };
    below = λ at e. (found-entry known (Some entry) is entry refl).1.1 at (begun-of (number_if_struct entry.kind) at e).0;
    empty = λ at e. (begun-of (number_if_struct entry.kind) at e).1;
    fresh = λ at e other among same. apart at other (begun-of (number_if_struct entry.kind) at e).2 among same;
  }

-- its members are read
pub beginning-sound : (known behind : Known) (number : Option ℕ) → Starts known behind number → IsSoundKnown (beginning behind number)
beginning-sound known behind None starts = starts.grown.sound
beginning-sound known behind (Some at) starts =
    let sound = starts.grown.sound in record {
      entries = sound.entries;
      complete = sound.complete;
      layered = sound.layered;
      sizes = sound.sizes;
      begun = λ other h.
          ⊎_elim (λ same. let e = sym (same-numbers other at same) in subst (λ n. (n < length behind.types.structs) × (content_of behind.types n ≡ None)) e (starts.below at refl, starts.empty at refl))
          (λ old. sound.begun other old) (one-of (other == at) (is_among other behind.begun) h);
      constants = sound.constants;
    }

-- and the struct has them
pub struct-ends : (known behind : Known) (span : Span) (number : Option ℕ) → Starts known behind number → (outcome : Outcome (List TypedMember))
    → GivesMore (beginning behind number) Any outcome
    → GivesMore known IsType (after outcome (λ last members. struct_ended last span number known.begun members))
struct-ends known behind span number starts (broken rule at) h = tt
struct-ends known behind span None starts (given last members) h = tt
struct-ends known behind span (Some at) starts (given last []) h = tt
struct-ends known behind span (Some at) starts (given last (first ∷ rest)) h =
    go (fields last.types (first ∷ rest)) (is_some (struct_layout last.types (fields last.types (first ∷ rest)))) refl
  where
    among : (other : ℕ) → is_among other (at ∷ behind.begun) ≡ true → (other < length last.types.structs) × (content_of last.types other ≡ None)
    among other is = h.1.begun other (ap (is_among other) h.2 ∙ is)

    here : (at < length last.types.structs) × (content_of last.types at ≡ None)
    here = among at (or-left (at == at) (is_among at behind.begun) (numbers-same at at refl))

    more : KnowsMore known last
    more = knows-through known behind last starts.grown.more (record { shapes = h.0.shapes; types = h.0.types; contents = h.0.contents; structs = h.0.structs; declared = h.0.declared })

    others : (other : ℕ) → is_among other known.begun ≡ true → (other ≡ at → ⊥) × (other < length last.types.structs) × (content_of last.types other ≡ None)
    others other is =
        let it = among other (or-right (other == at) (is_among other behind.begun) (ap (is_among other) starts.grown.begun ∙ is)) in
        (starts.fresh at refl other is, it.0, it.1)

    go : (all : List Member) (test : Bool) → is_some (struct_layout last.types all) ≡ test
        → GivesMore known IsType
        (obeys test 5 span.first (given (record last { types = with_content last.types at (contained last.types all); begun = known.begun }) (struct at)))
    go all true fits =
        let grown = knows-members last h.1 at here.0 here.1 all fits known.begun in
        let longer = grown.structs in
        let under = here.0 in (
          knows-through known last (with-members last h.1 at here.0 here.1 all fits known.begun) more grown,
          sound-members last h.1 at here.0 here.1 all fits known.begun others,
          refl,
          (tt, λ n e. let same = injected at n e in omega (arith, same, under, longer)),
        )
    go all false fits = tt
