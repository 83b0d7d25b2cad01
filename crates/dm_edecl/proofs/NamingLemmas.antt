-- What a declarator declares: what is known behind it is sound, and the name has its entry.
use Rattle.std.specs.Prelude.{◌≡◌, ◌==◌, ℕ, ◌⊎◌, ◌≤◌, Bool, true, false, ◌&&◌, ◌||◌, not, if◌then◌else◌, IsTrue, List, [], ◌∷◌, ◌++◌, length, Option, Some, None, is_some, unwrap_or, option_and_then, slice_get, refl}
use Rattle.std.proofs.Common.{sym, ap, ◌∙◌, subst, arith, inl, inr, ⊎_elim}
use Rattle.std.proofs.lemmas.Option.{slice_get_within}
use Rattle.std.proofs.lemmas.Slice.Eq.{bytes_eq-Decides}
use Rattle.dm_type.specs.Alike.{are_compatible, composite}
use Rattle.dm_type.specs.CTypes.{CType, void, integer, pointer, array, struct, function as function_type, const, with_const}
use Rattle.dm_type.specs.TableLaws.{injected}
use Rattle.dm_scope.specs.Scopes.{Scopes, number_of, is_declared, declared as declared_in}
use Rattle.dm_tree.specs.declared.unit.Sort.{Sort}
use Rattle.dm_tree.specs.declared.unit.Sort.TheVariants.{Object, Function, Typedef}
use Rattle.dm_tree.specs.declared.unit.Linkage.{Linkage}
use Rattle.dm_tree.specs.declared.unit.Linkage.TheVariants.{External, Internal}
use Rattle.dm_tree.specs.Composites.{covers}
use Rattle.dm_tree.specs.Initialisers.{is_object, is_function_sort}
use Rattle.dm_tree.specs.Scenes.{is_function}
use Rattle.dm_tree.specs.Typing.{FitsSort, IsEntry, has_linkage}
use Rattle.dm_tree.specs.Units.{Declaration}
use Rattle.dm_typing.specs.Known.{Known, declaring}
use Rattle.dm_typing.specs.Conversions.{is_same}
use Rattle.dm_typing.specs.Typing.{number_if_struct}
use Rattle.dm_typing.specs.Sound.{IsType}
use Rattle.dm_typing.proofs.ChoiceLemmas.{composite-proper}
use Rattle.dm_typing.proofs.CoverLemmas.{covers-joined}
use Rattle.dm_typing.proofs.KindLemmas.{same-numbers, numbers-same}
use Rattle.dm_typing.proofs.KnownLemmas.{get-pushed, pushed-get, sound-entry}
use Rattle.dm_typing.proofs.TypeLemmas.{both-hold, same-types}
use Rattle.dm_edecl.specs.Standing.{Linked, Standing}
use Rattle.dm_edecl.specs.Linkages.{whole_kind, is_called, number_linked, number_shared, is_number, kind_with, kind_from_here, kind_seen, meaning_here, is_typedef, is_same_typedef, is_linked_if_there, is_same_linkage, agrees_with, agrees_if_there, may_be_declared, number_before, with_kind, naming, number_here, with_link_if}
use Rattle.dm_edecl.specs.Settled.{IsBound, is_linked, AreProperLinks, IsSoundStanding, Keeps}
use Rattle.dm_edecl.proofs.KeepsLemmas.{same-itself, split, there, front-kept, seeing-sound, seeing-keeps}
use Rattle.dm_edecl.proofs.LinkLemmas.{bound-front, bound-last, proper-push, some-then, some-now, linked-push, linked-back, agree-push}
use Rattle.dm_edecl.proofs.RetypingLemmas.{kind-put, kind-same, IsDeclared, pushed-length, changed-at, pushing, pushing-sound, pushing-keeps}

-- ---- a new entry

module _ (s : Standing) (entry : Declaration) (defines : Bool) (sound : IsSoundStanding s) (is : IsEntry entry) (type : IsType s.known entry.kind) where
  -- with a first declaration of what has linkage
  abbrev link : Linked
  link = record { number = length s.known.declared; kind = entry.kind; defines = defines }

  abbrev pub beginning : Bool → Standing
  beginning test = record s {
    known = declaring s.known entry.name entry;
    linked = with_link_if test (length s.known.declared) entry.kind defines s.linked;
  }

  none-yet : is_linked (length s.known.declared) s.linked ≡ true → ⊥
  none-yet h = let one = sound.within (length s.known.declared) h in omega (arith, one)

  linked-then : (test : Bool) (n : ℕ) → is_linked n (beginning test).linked ≡ true → (is_linked n s.linked ≡ true) ⊎ ((test ≡ true) × (length s.known.declared ≡ n))
  linked-then true n h = ⊎_elim (λ old. inl old) (λ new. inr (refl, same-numbers (length s.known.declared) n new)) (linked-back link n s.linked h)
  linked-then false n h = inl h

  bound-then : (test : Bool) (bound : CType) (n : ℕ) → IsBound bound n (beginning test).linked → IsBound bound n s.linked
  bound-then true bound n b = bound-front link bound n s.linked b
  bound-then false bound n b = b

  bound-new : (test : Bool) (bound : CType) → test ≡ true → IsBound bound (length s.known.declared) (beginning test).linked → covers bound entry.kind ≡ true
  bound-new true bound e b = bound-last link bound (length s.known.declared) s.linked b (numbers-same (length s.known.declared) (length s.known.declared) refl)
  bound-new false bound e b = absurd (cc)

  agree-then : (test : Bool) (n : ℕ) → (bound : CType) × IsBound bound n (beginning test).linked
  agree-then true n = agree-push link s.linked sound.proper sound.agree (λ whole e. absurd (none-yet (ap is_some e))) n
  agree-then false n = sound.agree n

  proper-then : (test : Bool) → AreProperLinks (beginning test).linked
  proper-then true = proper-push link s.linked sound.proper type.0
  proper-then false = sound.proper

  links-then : (test : Bool) (n : ℕ) → is_linked n s.linked ≡ true → is_linked n (beginning test).linked ≡ true
  links-then true n h = linked-push link n s.linked h
  links-then false n h = h

  new-entry : (n : ℕ) (other : Declaration) → length s.known.declared ≤ n → slice_get (s.known.declared ++ entry ∷ []) n ≡ Some other → (entry ≡ other) × (n ≡ length s.known.declared)
  new-entry n other high h =
      let l = pushed-length s entry in
      let top = slice_get_within (s.known.declared ++ entry ∷ []) n other h in
      ⊎_elim (λ old. let low = slice_get_within s.known.declared n other old in absurd (omega (arith, low, high))) (λ new. (new, omega (arith, l, top, high)))
      (pushed-get s.known.declared entry n other h)

  kinds-then : (test : Bool) (n : ℕ) (other : Declaration) (bound : CType) → is_linked n (beginning test).linked ≡ true → slice_get (s.known.declared ++ entry ∷ []) n ≡ Some other
      → IsBound bound n (beginning test).linked → IsTrue (covers bound other.kind)
  kinds-then test n other bound link h b =
      ⊎_elim
      (λ low.
      ⊎_elim (λ old. sound.kinds n other bound old (sym (front-kept s.known.declared (entry ∷ []) n low) ∙ h) (bound-then test bound n b)) (λ new. let e = new.1 in absurd (omega (arith, e, low)))
      (linked-then test n link))
      (λ high.
      let new = new-entry n other high h in
      ⊎_elim (λ old. absurd (none-yet (subst (λ m. is_linked m s.linked ≡ true) new.1 old)))
      (λ now. subst (λ (it : Declaration). IsTrue (covers bound it.kind)) new.0 (bound-new test bound now.0 (subst (λ m. IsBound bound m (beginning test).linked) new.1 b)))
      (linked-then test n link))
      (split n (length s.known.declared))

  pub beginning-sound : (test : Bool) → IsSoundStanding (beginning test)
  beginning-sound test = record {
    known = sound-entry s.known sound.known entry.name entry is type;
    constants = sound.constants;
    within = λ n h.
        let l = pushed-length s entry in
        ⊎_elim (λ old. let one = sound.within n old in omega (arith, one, l)) (λ new. let e = new.1 in omega (arith, e, l)) (linked-then test n h);
    agree = agree-then test;
    proper = proper-then test;
    kinds = kinds-then test;
  }

  pub beginning-keeps : (test : Bool) → Keeps s (beginning test)
  beginning-keeps test = record {
    shapes = omega arith;
    types = λ id inside. refl;
    contents = λ at content h. h;
    structs = omega arith;
    entries = let l = pushed-length s entry in omega (arith, l);
    declared = λ at one h. (one, get-pushed s.known.declared entry at one h, same-itself one, λ no. refl);
    bounds = λ at bound b. bound-then test bound at b;
    links = λ at h. links-then test at h;
    unlinked = λ at inside h. ⊎_elim (λ old. old) (λ new. let e = new.1 in absurd (omega (arith, e, inside))) (linked-then test at h);
  }

pub last-get : (entries : List Declaration) (entry : Declaration) → slice_get (entries ++ entry ∷ []) (length entries) ≡ Some entry
last-get [] entry = refl
last-get (one ∷ others) entry = last-get others entry

beginning-declared : (s : Standing) (entry : Declaration) (defines : Bool) (sound : IsSoundStanding s) (is : IsEntry entry) (type : IsType s.known entry.kind) (test : Bool)
    → IsDeclared s (beginning s entry defines sound is type test) (length s.known.declared) entry.kind entry
beginning-declared s entry defines sound is type test = record {
  sound = beginning-sound s entry defines sound is type test;
  kept = beginning-keeps s entry defines sound is type test;
  now = entry;
  at = last-get s.known.declared entry;
  sort = refl;
  kind_now = refl;
  linked = λ yes. (refl, refl);
}

-- ---- C2

pub three-hold : (a b c : Bool) → (a && b && c) ≡ true → (a ≡ true) × (b ≡ true) × (c ≡ true)
three-hold true true c h = (refl, refl, h)
three-hold true false c h = absurd (cc)
three-hold false b c h = absurd (cc)

pub linkages-same : (a b : Linkage) → is_same_linkage a b ≡ true → a ≡ b
linkages-same External External h = refl
linkages-same Internal Internal h = refl
linkages-same a b h = absurd (cc)

abbrev are_shared : Sort → Sort → Bool
are_shared old new = is_object old && is_object new || is_function_sort old && is_function_sort new

sorts-same : (old new : Sort) (a b : CType) (l m : Bool) → are_shared old new ≡ true → l ≡ true → m ≡ true → FitsSort old a l → FitsSort new b m → old ≡ new
sorts-same (Object fixed) (Object other) a b l m h p q f g = ap Object (f.1 p ∙ sym (g.1 q))
sorts-same Function Function a b l m h p q f g = refl
sorts-same old new a b l m h p q f g = absurd (cc)

fits-as : (old new : Sort) (a b : CType) (l m : Bool) → are_shared old new ≡ true → FitsSort old a l → FitsSort new b m → FitsSort old b l
fits-as (Object fixed) (Object other) a b l m h f g = (g.0, f.1)
fits-as Function Function a b l m h f g = (g.0, f.1)
fits-as old new a b l m h f g = absurd (cc)

function-const : (type : CType) → is_function (with_const type) ≡ false
function-const void = refl
function-const (integer kind) = refl
function-const (pointer type) = refl
function-const (array type n) = refl
function-const (struct number) = refl
function-const (function_type result parameters) = refl
function-const (const type) = refl

function-composite : (a b : CType) → is_function (composite a b) ≡ is_function a
function-composite (pointer a) (pointer b) = refl
function-composite (array a m) (array b n) = refl
function-composite (function_type a types) (function_type b others) = refl
function-composite (const a) (const b) = function-const (composite a b)
function-composite a b = refl

fits-composite : (old new : Sort) (a b : CType) (l : Bool) → are_shared old new ≡ true → FitsSort old a l → FitsSort old (composite a b) l
fits-composite (Object fixed) new a b l h f = (ap not (function-composite a b) ∙ f.0, f.1)
fits-composite Function new a b l h f = (function-composite a b ∙ f.0, f.1)
fits-composite old new a b l h f = absurd (cc)

struct-const : (type : CType) → number_if_struct (with_const type) ≡ None
struct-const void = refl
struct-const (integer kind) = refl
struct-const (pointer type) = refl
struct-const (array type n) = refl
struct-const (struct number) = refl
struct-const (function_type result parameters) = refl
struct-const (const type) = refl

struct-composite : (a b : CType) → number_if_struct (composite a b) ≡ number_if_struct a
struct-composite (pointer a) (pointer b) = refl
struct-composite (array a m) (array b n) = refl
struct-composite (function_type a types) (function_type b others) = refl
struct-composite (const a) (const b) = struct-const (composite a b)
struct-composite a b = refl

pub composite-type : (known : Known) (a b : CType) → IsType known a → IsType known b → IsType known (composite a b)
composite-type known a b p q = (composite-proper a b p.0 q.0, λ at e. p.1 at (sym (struct-composite a b) ∙ e))

number-by : (name : List ℕ) (declared : List Declaration) (one : Linked) (others : List Linked) (number : ℕ) (test : Bool) → is_called name (slice_get declared one.number) ≡ test
    → (number_linked name declared others ≡ Some number → (is_linked number others ≡ true) × (is_called name (slice_get declared number) ≡ true))
    → (if test then Some one.number else number_linked name declared others) ≡ Some number
    → (is_linked number (one ∷ others) ≡ true) × (is_called name (slice_get declared number) ≡ true)
number-by name declared one others number true t rest h =
    let e = injected one.number number h in
    (some-now (one.number == number) _ (whole_kind number others) (numbers-same one.number number e), subst (λ n. is_called name (slice_get declared n) ≡ true) e t)
number-by name declared one others number false t rest h =
    let found = rest h in (some-then (one.number == number) _ (whole_kind number others) found.0, found.1)

-- the number that a name shares is that of an entry of its name, with declarations
number-found : (name : List ℕ) (declared : List Declaration) (linked : List Linked) (number : ℕ) → number_linked name declared linked ≡ Some number
    → (is_linked number linked ≡ true) × (is_called name (slice_get declared number) ≡ true)
number-found name declared [] number h = absurd (cc)
number-found name declared (one ∷ others) number h =
    number-by name declared one others number (is_called name (slice_get declared one.number)) refl (number-found name declared others number) h

called-name : (name : List ℕ) (found : Option Declaration) (old : Declaration) → found ≡ Some old → is_called name found ≡ true → old.name ≡ name
called-name name (Some one) old e h = subst (λ (it : Declaration). it.name ≡ name) (injected one old e) ((bytes_eq-Decides one.name name).0 h)
called-name name None old e h = absurd (cc)

pub seen-by : (P : CType → Type 0) (kind : CType) (visible : Bool) (found : Option Declaration) (old : Declaration) → found ≡ Some old → P kind → P (composite old.kind kind)
    → P (kind_with kind visible found)
seen-by P kind true (Some one) old e a b = subst (λ (it : Declaration). P (composite it.kind kind)) (sym (injected one old e)) b
seen-by P kind true None old e a b = a
seen-by P kind false found old e a b = a

-- a declaration of what has linkage and has been declared before
module _ (s : Standing) (entry : Declaration) (defines : Bool) (number : ℕ) (sound : IsSoundStanding s) (is : IsEntry entry) (type : IsType s.known entry.kind)
    (linked : has_linkage entry.linkage ≡ true) (shared : number_shared s entry.name ≡ Some number) (agrees : agrees_if_there s entry (Some number) ≡ true) where
  abbrev seen : CType
  seen = kind_with entry.kind (is_number (number_of s.known.scopes entry.name) number) (slice_get s.known.declared number)

  abbrev again : Linked
  again = record { number = number; kind = entry.kind; defines = defines }

  earlier-link : (is_linked number s.linked ≡ true) × (is_called entry.name (slice_get s.known.declared number) ≡ true)
  earlier-link = number-found entry.name s.known.declared s.linked number shared

  old : (one : Declaration) × (slice_get s.known.declared number ≡ Some one)
  old = there s.known.declared number entry (sound.within number earlier-link.0)

  old-is : IsEntry old.0 × IsType s.known old.0.kind
  old-is = sound.known.entries number old.0 old.1

  parts : (are_shared old.0.sort entry.sort ≡ true) × (is_same_linkage old.0.linkage entry.linkage ≡ true)
      × (are_compatible (unwrap_or (whole_kind number s.linked) old.0.kind) entry.kind ≡ true)
  parts =
      three-hold (are_shared old.0.sort entry.sort) (is_same_linkage old.0.linkage entry.linkage) (are_compatible (unwrap_or (whole_kind number s.linked) old.0.kind) entry.kind)
      (subst (λ it. agrees_with (whole_kind number s.linked) entry it ≡ true) old.1 agrees)

  seen-is : (other : Declaration) → slice_get s.known.declared number ≡ Some other → IsEntry (record other { kind = seen }) × IsType s.known seen
  seen-is other h =
      let same : old.0 ≡ other = injected old.0 other (sym old.1 ∙ h) in
      subst (λ (it : Declaration). IsEntry (record it { kind = seen }) × IsType s.known seen) same
      (seen-by (λ kind. IsEntry (record old.0 { kind = kind }) × IsType s.known kind) entry.kind (is_number (number_of s.known.scopes entry.name) number)
      (slice_get s.known.declared number) old.0 old.1
      (fits-as old.0.sort entry.sort old.0.kind entry.kind (has_linkage old.0.linkage) (has_linkage entry.linkage) parts.0 old-is.0 is, type)
      (fits-composite old.0.sort entry.sort old.0.kind entry.kind (has_linkage old.0.linkage) parts.0 old-is.0, composite-type s.known old.0.kind entry.kind old-is.1 type))

  fits : (whole : CType) → whole_kind number s.linked ≡ Some whole → are_compatible whole entry.kind ≡ true
  fits whole e = subst (λ it. are_compatible (unwrap_or it old.0.kind) entry.kind ≡ true) e parts.2

  most : (bound : CType) → IsBound bound number s.linked → covers bound entry.kind ≡ true → covers bound seen ≡ true
  most bound b c =
      seen-by (λ kind. covers bound kind ≡ true) entry.kind (is_number (number_of s.known.scopes entry.name) number) (slice_get s.known.declared number) old.0 old.1 c
      (covers-joined bound old.0.kind entry.kind old-is.1.0 (sound.kinds number old.0 bound earlier-link.0 old.1 b) c)

  again-declared : IsDeclared s (pushing s number seen (declared_in s.known.scopes entry.name number) again sound refl earlier-link.0 seen-is type.0 fits most) number seen entry
  again-declared =
      let put = kind-put number seen s.known.declared number old.0 old.1 in
      let now : put.0 ≡ record old.0 { kind = seen } = changed-at number seen old.0 put.0 put.2 in
      let linkage = linkages-same old.0.linkage entry.linkage parts.1 in
      record {
        sound = pushing-sound s number seen (declared_in s.known.scopes entry.name number) again sound refl earlier-link.0 seen-is type.0 fits most;
        kept = pushing-keeps s number seen (declared_in s.known.scopes entry.name number) again sound refl earlier-link.0 seen-is type.0 fits most;
        now = put.0;
        at = put.1;
        sort = ap (λ (it : Declaration). it.sort) now
            ∙ sorts-same old.0.sort entry.sort old.0.kind entry.kind (has_linkage old.0.linkage) (has_linkage entry.linkage) parts.0 (ap has_linkage linkage ∙ linked) linked old-is.0 is;
        kind_now = ap (λ (it : Declaration). it.kind) now;
        linked = λ yes. (
          ap (λ (it : Declaration). it.name) now ∙ called-name entry.name (slice_get s.known.declared number) old.0 old.1 earlier-link.1,
          ap (λ (it : Declaration). it.linkage) now ∙ linkage,
        );
      }

-- a typedef again (6.7p3)
typedefs-same : (old new : Sort) → is_typedef old ≡ true → is_typedef new ≡ true → old ≡ new
typedefs-same Typedef Typedef h g = refl
typedefs-same Typedef new h g = absurd (cc)
typedefs-same old new h g = absurd (cc)

module _ (s : Standing) (entry : Declaration) (number : ℕ) (sound : IsSoundStanding s) (unlinked : has_linkage entry.linkage ≡ false)
    (means : number_of s.known.scopes entry.name ≡ Some number) (some : is_some (meaning_here s.known entry.name) ≡ true)
    (same : is_same_typedef (meaning_here s.known entry.name) entry ≡ true) where
  abbrev Earlier : Type 0
  Earlier = (old : Declaration) × (slice_get s.known.declared number ≡ Some old) × (old.sort ≡ entry.sort) × (old.kind ≡ entry.kind)

  earlier-in : (found : Option Declaration) → slice_get s.known.declared number ≡ found → is_some found ≡ true → is_same_typedef found entry ≡ true → Earlier
  earlier-in (Some old) e is h =
      let parts = three-hold (is_typedef old.sort) (is_typedef entry.sort) (is_same old.kind entry.kind) h in
      (old, e, typedefs-same old.sort entry.sort parts.0 parts.1, same-types old.kind entry.kind parts.2)
  earlier-in None e is h = absurd (cc)

  earlier-by : (test : Bool) (found : Option ℕ) → found ≡ Some number
      → is_some (if test then option_and_then (slice_get s.known.declared) found else None) ≡ true
      → is_same_typedef (if test then option_and_then (slice_get s.known.declared) found else None) entry ≡ true → Earlier
  earlier-by true (Some n) e is h =
      let at : n ≡ number = injected n number e in
      earlier-in (slice_get s.known.declared number) refl (subst (λ m. is_some (slice_get s.known.declared m) ≡ true) at is)
      (subst (λ m. is_same_typedef (slice_get s.known.declared m) entry ≡ true) at h)
  earlier-by true None e is h = absurd (cc)
  earlier-by false found e is h = absurd (cc)

  earlier : Earlier
  earlier = earlier-by (is_declared s.known.scopes entry.name) (number_of s.known.scopes entry.name) means some same

  abbrev scopes : Scopes
  scopes = declared_in s.known.scopes entry.name number

  abbrev retyped : List Declaration → Standing
  retyped entries = record s { known = record s.known { scopes = scopes; declared = entries } }

  typedef-declared : IsDeclared s (retyped (with_kind number entry.kind s.known.declared)) number entry.kind entry
  typedef-declared =
      subst (λ entries. IsDeclared s (retyped entries) number entry.kind entry) (sym (kind-same number entry.kind s.known.declared earlier.0 earlier.1 earlier.3))
      (record {
        sound = seeing-sound scopes s sound;
        kept = seeing-keeps scopes s;
        now = earlier.0;
        at = earlier.1;
        sort = earlier.2;
        kind_now = earlier.3;
        linked = λ yes. absurd (cc);
      })

-- ---- all declarators

-- what is known behind one, by the number of an earlier entry and whether it has linkage
abbrev pub behind_name : Standing → CType → Declaration → Bool → Option ℕ → Bool → Standing
behind_name s kind entry linked found defines = record s {
  known = naming s.known kind entry found;
  linked = with_link_if linked (unwrap_or found (length s.known.declared)) entry.kind defines s.linked;
}

IsNamed : Standing → CType → Declaration → Bool → Option ℕ → Bool → Type 0
IsNamed s kind entry linked found defines = IsDeclared s (behind_name s kind entry linked found defines) (unwrap_or found (length s.known.declared)) kind entry

module _ (s : Standing) (entry : Declaration) (defines : Bool) (sound : IsSoundStanding s) (is : IsEntry entry) (type : IsType s.known entry.kind) where
  by-number : (linked : has_linkage entry.linkage ≡ true) (found : Option ℕ) → number_shared s entry.name ≡ found → agrees_if_there s entry found ≡ true
      → IsNamed s (kind_from_here s.known entry found) entry true found defines
  unfolding IsNamed
  by-number linked None e h = beginning-declared s entry defines sound is type true
  by-number linked (Some number) e h = again-declared s entry defines number sound is type linked e h

  by-meaning : (unlinked : has_linkage entry.linkage ≡ false) (test : Bool) → is_some (meaning_here s.known entry.name) ≡ test → is_same_typedef (meaning_here s.known entry.name) entry ≡ true
      → (found : Option ℕ) → number_of s.known.scopes entry.name ≡ found → IsNamed s entry.kind entry false (if test then found else None) defines
  unfolding IsNamed
  by-meaning unlinked true some h (Some number) e = typedef-declared s entry number sound unlinked e some h
  by-meaning unlinked true some h None e = beginning-declared s entry defines sound is type false
  by-meaning unlinked false some h found e = beginning-declared s entry defines sound is type false

  by-linkage : (test : Bool) → has_linkage entry.linkage ≡ test
      → (if test then is_linked_if_there (meaning_here s.known entry.name) && agrees_if_there s entry (number_shared s entry.name)
      else is_same_typedef (meaning_here s.known entry.name) entry) ≡ true
      → IsNamed s (if test then kind_from_here s.known entry (number_shared s entry.name) else entry.kind) entry test
      (if test then number_shared s entry.name else if is_some (meaning_here s.known entry.name) then number_of s.known.scopes entry.name else None) defines
  by-linkage true e h =
      by-number e (number_shared s entry.name) refl
      (both-hold (is_linked_if_there (meaning_here s.known entry.name)) (agrees_if_there s entry (number_shared s entry.name)) h).1
  by-linkage false e h = by-meaning e (is_some (meaning_here s.known entry.name)) refl h (number_of s.known.scopes entry.name) refl

  pub declarator-declared : may_be_declared s entry ≡ true
      → IsDeclared s (behind_name s (kind_seen s entry) entry (has_linkage entry.linkage) (number_before s entry) defines) (number_here s entry) (kind_seen s entry) entry
  unfolding IsNamed
  declarator-declared h = by-linkage (has_linkage entry.linkage) refl h
