-- What is known stays sound where a struct is declared or gets its members.
use Rattle.std.specs.Prelude.{◌≡◌, ℕ, zero, suc, ◌+◌, ◌<◌, ◌≤◌, ◌⊎◌, Bool, true, false, if◌then◌else◌, List, [], ◌∷◌, ◌++◌, length, Option, Some, None, is_some, IsSome, option_and_then, option_map, nat_le, slice_get, slice_set, refl}
use Rattle.std.proofs.Common.{sym, ap, ◌∙◌, subst, arith, inl, inr, ⊎_elim, length-append}
use Rattle.std.proofs.lemmas.List.{length-set}
use Rattle.std.proofs.lemmas.Option.{none-some}
use Rattle.dm_token.specs.Limits.{most_type_bytes}
use Rattle.dm_type.specs.declared.layout.Layout.{Layout}
use Rattle.dm_type.specs.declared.shape.Content.{Content}
use Rattle.dm_type.specs.declared.shape.Member.{Member}
use Rattle.dm_type.specs.declared.shape.Struct.{Struct as StructEntry}
use Rattle.dm_type.specs.CTypes.{CType, array, struct, const, bare}
use Rattle.dm_type.specs.Layouts.{layout_of, size_of, if_fits, padded, nothing, joined, followed_by, struct_layout, contained}
use Rattle.dm_type.specs.Tables.{Table, type_of, tag_of, content_of, members_of, with_struct, with_content}
use Rattle.dm_type.specs.TableLaws.{injected}
use Rattle.dm_typing.specs.Known.{Known}
use Rattle.dm_typing.specs.Conversions.{element}
use Rattle.dm_typing.specs.Typing.{is_among}
use Rattle.dm_typing.specs.Sound.{AreLayeredWithin, AreLayered, how_many_complete, IsSoundKnown, KnowsMore, scene_of}
use Rattle.dm_typing.proofs.GrowthLemmas.{complete-stays, element-complete, known-later, constants-sound-stay}

-- ---- the content of a struct among structs

abbrev content_in : List StructEntry → ℕ → Option Content
content_in structs number = option_and_then (λ (entry : StructEntry). entry.content) (slice_get structs number)

pushed : (structs : List StructEntry) (tag : Option (List ℕ)) (number : ℕ)
    → content_in (structs ++ record { tag = tag; content = None } ∷ []) number ≡ content_in structs number
pushed [] tag zero = refl
pushed [] tag (suc number) = refl
pushed (entry ∷ structs) tag zero = refl
pushed (entry ∷ structs) tag (suc number) = pushed structs tag number

count-pushed : (structs : List StructEntry) (tag : Option (List ℕ))
    → how_many_complete (structs ++ record { tag = tag; content = None } ∷ []) ≡ how_many_complete structs
count-pushed [] tag = refl
count-pushed (entry ∷ structs) tag = ap (λ (n : ℕ). if is_some entry.content then suc n else n) (count-pushed structs tag)

set-other : (structs : List StructEntry) (number : ℕ) (entry : StructEntry) (at : ℕ) → (at ≡ number → ⊥)
    → content_in (slice_set structs number entry) at ≡ content_in structs at
set-other [] number entry at apart = refl
set-other (other ∷ structs) zero entry zero apart = absurd (apart refl)
set-other (other ∷ structs) zero entry (suc at) apart = refl
set-other (other ∷ structs) (suc number) entry zero apart = refl
set-other (other ∷ structs) (suc number) entry (suc at) apart = set-other structs number entry at (λ e. apart (ap suc e))

-- what has content afterwards had it before, or has the new content
set-content : (structs : List StructEntry) (number : ℕ) (entry : StructEntry) (at : ℕ) (content : Content)
    → content_in (slice_set structs number entry) at ≡ Some content → (content_in structs at ≡ Some content) ⊎ (entry.content ≡ Some content)
set-content [] number entry at content h = absurd (none-some content h)
set-content (other ∷ structs) zero entry zero content h = inr h
set-content (other ∷ structs) zero entry (suc at) content h = inl h
set-content (other ∷ structs) (suc number) entry zero content h = inl h
set-content (other ∷ structs) (suc number) entry (suc at) content h = set-content structs number entry at content h

one-more : (test : Bool) (n : ℕ) → (if test then suc (suc n) else suc n) ≡ suc (if test then suc n else n)
one-more true n = refl
one-more false n = refl

count-set : (structs : List StructEntry) (number : ℕ) (entry : StructEntry) → number < length structs → content_in structs number ≡ None
    → is_some entry.content ≡ true → how_many_complete (slice_set structs number entry) ≡ suc (how_many_complete structs)
count-set [] number entry below none some = let never : ⊥ = omega arith in absurd never
count-set (other ∷ structs) zero entry below none some =
    let n : ℕ = how_many_complete structs in
    ap (λ test. if test then suc n else n) some ∙ ap suc (sym (ap (λ (found : Option Content). if is_some found then suc n else n) none))
count-set (other ∷ structs) (suc number) entry below none some =
    ap (λ (n : ℕ). if is_some other.content then suc n else n) (count-set structs number entry (omega arith) none some)
    ∙ one-more (is_some other.content) (how_many_complete structs)

at-most : (test : Bool) (m n : ℕ) → m ≤ n → (if test then suc m else m) ≤ suc n
at-most true m n le = omega arith
at-most false m n le = omega arith

count-length : (structs : List StructEntry) → how_many_complete structs ≤ length structs
count-length [] = omega arith
count-length (entry ∷ structs) = at-most (is_some entry.content) (how_many_complete structs) (length structs) (count-length structs)

-- ---- layers

pub layered-more : (less more : ℕ) (table : Table) → less ≤ more → AreLayeredWithin less table → AreLayeredWithin more table
layered-more less more table le layers = (layers.0, layers.1, λ at members e. let below = layers.2 at members e in omega (arith, le, below))

-- so there are as many layers as structs
pub layered-all : (known : Known) → IsSoundKnown known → AreLayered known.types
layered-all known sound = layered-more (how_many_complete known.types.structs) (length known.types.structs) known.types (count-length known.types.structs) sound.layered

content-of-members : (table : Table) (at : ℕ) (members : List Member) → members_of table at ≡ Some members
    → (content : Content) × (content_of table at ≡ Some content) × (content.members ≡ members)
content-of-members table at members e = go (content_of table at) refl e
  where
    go : (found : Option Content) → content_of table at ≡ found → option_map (λ (content : Content). content.members) found ≡ Some members
        → (content : Content) × (content_of table at ≡ Some content) × (content.members ≡ members)
    go (Some content) f h = (content, f, injected content.members members h)
    go None f h = absurd (none-some members h)

-- the elements of what is complete are complete, without const too
complete-element : (table : Table) (type : CType) → IsSome (size_of table type) → IsSome (size_of table (bare (element type)))
complete-element table (array type n) h = complete-element table type (element-complete table n type h)
complete-element table (const type) h = h
complete-element table type h = h

complete-content : (table : Table) (number : ℕ) → IsSome (size_of table (struct number)) → (content : Content) × (content_of table number ≡ Some content)
complete-content table number h = go (content_of table number) refl h
  where
    go : (found : Option Content) → content_of table number ≡ found
        → IsSome (option_map (λ (layout : Layout). layout.size) (option_and_then (λ (content : Content). content.layout) found))
        → (content : Content) × (content_of table number ≡ Some content)
    go (Some content) f h = (content, f)
    go None f h = absurd (cc)

-- ---- members with a layout

then-some : {A B : Type 0} (f : A → Option B) (one : Option A) → is_some (option_and_then f one) ≡ true → is_some one ≡ true
then-some f (Some it) h = refl
then-some f None h = h

joined-complete : (table : Table) (before : Layout) (members : List Member) → is_some (joined table before members) ≡ true
    → (n : ℕ) (one : Member) → slice_get members n ≡ Some one → IsSome (size_of table (type_of table one.kind))
joined-complete table before [] h n one s = absurd (none-some one s)
joined-complete table before (member ∷ members) h n one s =
    go (λ layout h n s. joined-complete table (followed_by before layout) members h n one s) (layout_of table (type_of table member.kind)) refl h n s
  where
    go : ((layout : Layout) → is_some (joined table (followed_by before layout) members) ≡ true → (n : ℕ) → slice_get members n ≡ Some one → IsSome (size_of table (type_of table one.kind)))
        → (found : Option Layout) → layout_of table (type_of table member.kind) ≡ found
        → is_some (option_and_then (λ layout. joined table (followed_by before layout) members) found) ≡ true
        → (n : ℕ) → slice_get (member ∷ members) n ≡ Some one → IsSome (size_of table (type_of table one.kind))
    go rest (Some layout) e h zero s =
        subst (λ (it : Member). IsSome (size_of table (type_of table it.kind))) (injected member one s)
        (ap (λ found. is_some (option_map (λ (layout : Layout). layout.size) found)) e)
    go rest (Some layout) e h (suc n) s = rest layout h n s
    go rest None e h n s = absurd (cc)

laid-out : (table : Table) (members : List Member) → is_some (struct_layout table members) ≡ true
    → (n : ℕ) (one : Member) → slice_get members n ≡ Some one → IsSome (size_of table (type_of table one.kind))
laid-out table members h = joined-complete table nothing members (then-some (λ layout. if_fits (padded layout)) (joined table nothing members) h)

-- no larger than a type may be
fitting : (layout one : Layout) → if_fits layout ≡ Some one → one.size ≤ most_type_bytes
fitting layout one h = go (nat_le layout.size most_type_bytes) refl h
  where
    below : (m n : ℕ) → nat_le m n ≡ true → m ≤ n
    below m n e = grind arith

    go : (fits : Bool) → nat_le layout.size most_type_bytes ≡ fits → (if fits then Some layout else None) ≡ Some one → one.size ≤ most_type_bytes
    go true e h = subst (λ (it : Layout). it.size ≤ most_type_bytes) (injected layout one h) (below layout.size most_type_bytes e)
    go false e h = absurd (none-some one h)

struct-fitting : (table : Table) (members : List Member) (one : Layout) → struct_layout table members ≡ Some one → one.size ≤ most_type_bytes
struct-fitting table members one h = go (joined table nothing members) h
  where
    go : (found : Option Layout) → option_and_then (λ layout. if_fits (padded layout)) found ≡ Some one → one.size ≤ most_type_bytes
    go (Some layout) h = fitting (padded layout) one h
    go None h = absurd (none-some one h)

-- ---- a new struct

module _ (known : Known) (sound : IsSoundKnown known) (tag : Option (List ℕ)) where
  abbrev pub with-new : Known
  with-new = record known { types = with_struct known.types tag }

  longer : length (with_struct known.types tag).structs ≡ length known.types.structs + 1
  longer = length-append known.types.structs (record { tag = tag; content = None } ∷ [])

  pub knows-new : KnowsMore known with-new
  knows-new = record {
    shapes = omega arith;
    types = λ id inside. refl;
    contents = λ at content h. pushed known.types.structs tag at ∙ h;
    structs = omega (arith, longer);
    declared = λ at entry h. h;
  }

  members-new : (at : ℕ) (members : List Member) → members_of with-new.types at ≡ Some members → members_of known.types at ≡ Some members
  members-new at members h = ap (option_map (λ (content : Content). content.members)) (sym (pushed known.types.structs tag at)) ∙ h

  pub sound-new : IsSoundKnown with-new
  sound-new = record {
    entries = λ at entry h. let it = sound.entries at entry h in (it.0, (it.1.0, λ number e. let below = it.1.1 number e in omega (arith, longer, below)));
    complete = λ at members e n one s.
        complete-stays known (scene_of with-new) (known-later known with-new knows-new) sound.complete (type_of known.types one.kind) (sound.complete at members (members-new at members e) n one s);
    layered = (
      sound.layered.0,
      (λ at members n one inner others e s is f. sound.layered.1 at members n one inner others (members-new at members e) s is (members-new inner others f)),
      (λ at members e. let below = sound.layered.2 at members (members-new at members e) in let same = count-pushed known.types.structs tag in omega (arith, below, same)),
    );
    sizes = λ at content one e. sound.sizes at content one (sym (pushed known.types.structs tag at) ∙ e);
    begun = λ at h. let it = sound.begun at h in let below = it.0 in (omega (arith, longer, below), pushed known.types.structs tag at ∙ it.1);
    constants = constants-sound-stay known with-new knows-new sound.complete known.constants sound.constants;
  }

-- ---- a struct gets its members

module _ (known : Known) (sound : IsSoundKnown known) (number : ℕ) (below : number < length known.types.structs) (absent : content_of known.types number ≡ None)
    (all : List Member) (fits : is_some (struct_layout known.types all) ≡ true) (begun : List ℕ) where
  abbrev entry : StructEntry
  entry = record { tag = tag_of known.types number; content = Some (contained known.types all) }

  abbrev pub with-members : Known
  with-members = record known { types = with_content known.types number (contained known.types all); begun = begun }

  pub knows-members : KnowsMore known with-members
  knows-members = record {
    shapes = omega arith;
    types = λ id inside. refl;
    contents = λ at content h. set-other known.types.structs number entry at
        (λ e. none-some content (sym absent ∙ (ap (content_of known.types) (sym e) ∙ h))) ∙ h;
    structs = let same = length-set known.types.structs number entry in omega (arith, same);
    declared = λ at one h. h;
  }

  -- each member of a struct that has its members then is complete already
  were-complete : (at : ℕ) (members : List Member) → members_of with-members.types at ≡ Some members
      → (n : ℕ) (one : Member) → slice_get members n ≡ Some one → IsSome (size_of known.types (type_of known.types one.kind))
  were-complete at members e n one s =
      let content = content-of-members with-members.types at members e in
      ⊎_elim
      (λ old. sound.complete at members (ap (option_map (λ (it : Content). it.members)) old ∙ ap Some content.2) n one s)
      (λ new. laid-out known.types all fits n one (subst (λ list. slice_get list n ≡ Some one) (sym (same-members content.0 new ∙ content.2)) s))
      (set-content known.types.structs number entry at content.0 content.1)
    where
      same-members : (content : Content) → Some (contained known.types all) ≡ Some content → all ≡ content.members
      same-members content h = ap (λ (found : Option Content). in-it found) h
        where
          in-it : Option Content → List Member
          in-it (Some it) = it.members
          in-it None = []

  -- the layer of a struct: the last for the new one
  layer_by : Option Content → ℕ → ℕ
  layer_by (Some content) at = sound.layered.0 at
  layer_by None at = how_many_complete known.types.structs

  abbrev layer : ℕ → ℕ
  layer at = layer_by (content_of known.types at) at

  old-members : (at : ℕ) (content : Content) → content_of known.types at ≡ Some content → members_of known.types at ≡ Some content.members
  old-members at content h = ap (option_map (λ (it : Content). it.members)) h

  -- a struct that had its members has its old layer, which is below the last
  old-layer : (at : ℕ) (content : Content) → content_of known.types at ≡ Some content
      → (layer at ≡ sound.layered.0 at) × (sound.layered.0 at < how_many_complete known.types.structs)
  unfolding layer_by
  old-layer at content h = (ap (λ found. layer_by found at) h, sound.layered.2 at content.members (old-members at content h))

  kept-members : (at : ℕ) (content : Content) (members : List Member) → content_of known.types at ≡ Some content → members_of with-members.types at ≡ Some members
      → members_of known.types at ≡ Some members
  kept-members at content members h e =
      old-members at content h ∙ (sym (ap (option_map (λ (it : Content). it.members)) (knows-members.contents at content h)) ∙ e)

  inner-below : (at : ℕ) (members : List Member) (n : ℕ) (one : Member) (inner : ℕ) (others : List Member) → members_of with-members.types at ≡ Some members
      → slice_get members n ≡ Some one → bare (element (type_of known.types one.kind)) ≡ struct inner → members_of with-members.types inner ≡ Some others → layer inner < layer at
  unfolding layer_by
  inner-below at members n one inner others e s is f =
      let complete = complete-element known.types (type_of known.types one.kind) (were-complete at members e n one s) in
      let within = complete-content known.types inner (subst (λ type. IsSome (size_of known.types type)) is complete) in
      let lower = old-layer inner within.0 within.1 in
      subst (λ low. low < layer at) (sym lower.0) (go (content_of known.types at) refl lower.1 within.0 within.1)
    where
      go : (found : Option Content) → content_of known.types at ≡ found → sound.layered.0 inner < how_many_complete known.types.structs
          → (content : Content) → content_of known.types inner ≡ Some content → sound.layered.0 inner < layer_by found at
      go (Some old) h low content i =
          sound.layered.1 at members n one inner content.members (kept-members at old members h e) s is (old-members inner content i)
      go None h low content i = low

  all-below : (at : ℕ) → layer at < how_many_complete with-members.types.structs
  unfolding layer_by
  all-below at =
      let more = count-set known.types.structs number entry below absent refl in
      subst (λ many. layer at < many) (sym more) (go (content_of known.types at) refl)
    where
      go : (found : Option Content) → content_of known.types at ≡ found → layer_by found at < suc (how_many_complete known.types.structs)
      go (Some content) h = let low = sound.layered.2 at content.members (old-members at content h) in omega (arith, low)
      go None h = omega arith

  pub sound-members : ((at : ℕ) → is_among at begun ≡ true → (at ≡ number → ⊥) × (at < length known.types.structs) × (content_of known.types at ≡ None)) → IsSoundKnown with-members
  sound-members others =
      let same = length-set known.types.structs number entry in
      record {
        entries = λ at one h. let it = sound.entries at one h in (it.0, (it.1.0, λ n e. let low = it.1.1 n e in omega (arith, same, low)));
        complete = λ at members e n one s.
            complete-stays known (scene_of with-members) (known-later known with-members knows-members) sound.complete (type_of known.types one.kind) (were-complete at members e n one s);
        layered = (layer, inner-below, (λ at members e. all-below at));
        sizes = λ at content one e l.
            ⊎_elim (λ old. sound.sizes at content one old l)
            (λ new. struct-fitting known.types all one (ap (λ (it : Content). it.layout) (injected (contained known.types all) content new) ∙ l))
            (set-content known.types.structs number entry at content e);
        begun = λ at h. let it = others at h in let low = it.1 in (omega (arith, same, low), set-other known.types.structs number entry at it.0 ∙ it.2);
        constants = constants-sound-stay known with-members knows-members sound.complete known.constants sound.constants;
      }
