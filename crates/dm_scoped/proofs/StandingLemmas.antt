-- What the typing of declarations and statements keeps: scopes name such entries as pass, and what has linkage isn't automatic.
use Rattle.std.specs.Prelude.{◌≡◌, ℕ, zero, suc, Bool, true, false, if◌then◌else◌, List, [], ◌∷◌, ◌++◌, length, drop, Option, Some, None, unwrap_or, is_some, slice_get, refl}
use Rattle.std.proofs.Common.{sym, ap, ◌∙◌, subst}
use Rattle.dm_name_map.specs.Numbers.{Numbers}
use Rattle.dm_type.specs.CTypes.{CType}
use Rattle.dm_type.specs.TableLaws.{injected}
use Rattle.dm_scope.specs.Scopes.{number_of}
use Rattle.dm_tree.specs.Trees.{Tree}
use Rattle.dm_tree.specs.Typing.{has_linkage}
use Rattle.dm_tree.specs.Units.{Declaration}
use Rattle.dm_meaning.specs.Statements.{is_automatic_sort}
use Rattle.dm_typing.specs.Known.{Known, Outcome, given, broken}
use Rattle.dm_edecl.specs.Standing.{Linked, Standing, Progress, goes_on, stops, further, knowing, typing, collecting, keeps, opened, closed, known_behind}
use Rattle.dm_edecl.specs.Linkages.{number_linked, is_called, number_shared, kind_seen, meaning_here, number_before, with_kind, naming, number_here, named_here, with_link_if, declared_here, function_here, object_here}
use Rattle.dm_scoped.proofs.ScopeLemmas.{Grown, grown-itself, grown-through, grown-more, get-last, Has, has-later, has-wider, IsWider, SeesIn, Sees, sees-in, sees-changes, sees-later, found-has, sees-with, depth-with}
use Rattle.dm_scoped.proofs.StepLemmas.{Step, Gives, declaring-step}

-- ---- what has linkage

-- an entry is there, and isn't an automatic object
pub record IsStatic (declared : List Declaration) (d : ℕ) : Type 0 where
  pub entry : Declaration
  pub at : slice_get declared d ≡ Some entry
  pub fixed : is_automatic_sort entry.sort ≡ false

unfoldable pub AreStatic : List Declaration → List Linked → Type 0
AreStatic declared [] = Unit {0}
AreStatic declared (one ∷ others) = IsStatic declared one.number × AreStatic declared others

pub static-later : (old new : List Declaration) (d : ℕ) → Grown old new → IsStatic old d → IsStatic new d
unfolding Grown
static-later old new d grown is =
    let later = grown d is.entry is.at in record { entry = later.0; at = later.1; fixed = ap is_automatic_sort later.2 ∙ is.fixed }

pub all-later : (old new : List Declaration) (linked : List Linked) → Grown old new → AreStatic old linked → AreStatic new linked
unfolding AreStatic
all-later old new [] grown h = tt
all-later old new (one ∷ others) grown h = (static-later old new one.number grown h.0, all-later old new others grown h.1)

static-push : (declared : List Declaration) (linked : List Linked) (one : Linked) → AreStatic declared linked → IsStatic declared one.number → AreStatic declared (linked ++ one ∷ [])
unfolding AreStatic
static-push declared [] one h is = (is, tt)
static-push declared (first ∷ others) one h is = (h.0, static-push declared others one h.1 is)

pub static-if : (declared : List Declaration) (linked : List Linked) (test : Bool) (number : ℕ) (kind : CType) (defines : Bool) → AreStatic declared linked
    → (test ≡ true → IsStatic declared number) → AreStatic declared (with_link_if test number kind defines linked)
static-if declared linked true number kind defines h is = static-push declared linked (record { number = number; kind = kind; defines = defines }) h (is refl)
static-if declared linked false number kind defines h is = h

-- nothing passes in file scope
abbrev pub none-pass : ℕ → Bool
none-pass d = false

bool-false : (b : Bool) → (b ≡ true → false ≡ true) → b ≡ false
bool-false true h = sym (h refl)
bool-false false h = refl

pub has-static : (declared : List Declaration) (d : ℕ) → Has declared none-pass d → IsStatic declared d
has-static declared d has = record { entry = has.entry; at = has.at; fixed = bool-false (is_automatic_sort has.entry.sort) has.is_seen }

pub static-has : (declared : List Declaration) (seen : ℕ → Bool) (d : ℕ) → IsStatic declared d → Has declared seen d
static-has declared seen d is = record { entry = is.entry; at = is.at; is_seen = λ auto. let no : true ≡ false = sym auto ∙ is.fixed in absurd (cc) }

shared-in : (declared all : List Declaration) (name : List ℕ) (linked : List Linked) (d : ℕ) → AreStatic declared linked → number_linked name all linked ≡ Some d → IsStatic declared d
unfolding AreStatic
shared-in declared all name [] d h e = absurd (cc)
shared-in declared all name (one ∷ others) d h e =
    by-test (λ later. shared-in declared all name others d h.1 later) (is_called name (slice_get all one.number)) e
  where
    by-test : (number_linked name all others ≡ Some d → IsStatic declared d) → (test : Bool) → (if test then Some one.number else number_linked name all others) ≡ Some d
        → IsStatic declared d
    by-test later true e = subst (IsStatic declared) (injected one.number d e) h.0
    by-test later false e = later e

-- ---- standings

pub record Holds (seen : ℕ → Bool) (s : Standing) : Type 0 where
  pub sees : Sees s.known.declared seen s.known.scopes
  pub linked : AreStatic s.known.declared s.linked

-- from a place to another in the same scopes
pub record Moves (more : ℕ → Bool) (s t : Standing) : Type 0 where
  pub grown : Grown s.known.declared t.known.declared
  pub holds : Holds more t
  pub depth : length t.known.scopes ≡ length s.known.scopes

-- what is typed is such, and such names pass behind it
unfoldable pub Leads : {A : Type 0} → (A → ℕ → Bool) → (List Declaration → A → Type 0) → Standing → Progress A → Type 0
Leads more P s (goes_on t it) = Moves (more it) s t × P t.known.declared it
Leads more P s (stops rule at) = Unit {0}

pub moves-none : (seen : ℕ → Bool) (s : Standing) → Holds seen s → Moves seen s s
moves-none seen s holds = record { grown = grown-itself s.known.declared; holds = holds; depth = refl }

pub moves-through : (one other : ℕ → Bool) (s t u : Standing) → Moves one s t → Moves other t u → Moves other s u
moves-through one other s t u first second = record {
  grown = grown-through s.known.declared t.known.declared u.known.declared first.grown second.grown;
  holds = second.holds;
  depth = second.depth ∙ first.depth;
}

pub holds-wider : (seen more : ℕ → Bool) (s : Standing) → IsWider seen more → Holds seen s → Holds more s
holds-wider seen more s wider holds = record {
  sees = sees-changes s.known.declared s.known.declared seen more s.known.scopes (grown-itself s.known.declared) wider holds.sees;
  linked = holds.linked;
}

pub leads-so : {A : Type 0} (more : A → ℕ → Bool) (P : List Declaration → A → Type 0) (s t : Standing) (it : A) → Moves (more it) s t → P t.known.declared it
    → Leads more P s (goes_on t it)
unfolding Leads
leads-so more P s t it moves h = (moves, h)

pub leads-from : {A : Type 0} (seen : ℕ → Bool) (more : A → ℕ → Bool) (P : List Declaration → A → Type 0) (s t : Standing) (progress : Progress A) → Moves seen s t
    → Leads more P t progress → Leads more P s progress
unfolding Leads
leads-from seen more P s t (goes_on u it) moves h = (moves-through seen (more it) s t u moves h.0, h.1)
leads-from seen more P s t (stops rule at) moves h = tt

pub stops-lead : {A : Type 0} (more : A → ℕ → Bool) (P : List Declaration → A → Type 0) (s : Standing) (rule at : ℕ) → Leads more P s (stops rule at)
unfolding Leads
stops-lead more P s rule at = tt

pub further-leads : {A B : Type 0} (one : A → ℕ → Bool) (P : List Declaration → A → Type 0) (more : B → ℕ → Bool) (Q : List Declaration → B → Type 0) (s : Standing)
    (progress : Progress A) (next : Standing → A → Progress B) → Leads one P s progress
    → ((t : Standing) (it : A) → Moves (one it) s t → P t.known.declared it → Leads more Q t (next t it)) → Leads more Q s (further progress next)
unfolding Leads
further-leads one P more Q s (goes_on t it) next h step = leads-from (one it) more Q s t (next t it) h.0 (step t it h.0 h.1)
further-leads one P more Q s (stops rule at) next h step = tt

pub keeps-leads : {A : Type 0} (more : A → ℕ → Bool) (P : List Declaration → A → Type 0) (s : Standing) (test : Bool) (rule at : ℕ) (next : Progress A)
    → Leads more P s next → Leads more P s (keeps test rule at next)
unfolding Leads
keeps-leads more P s true rule at next h = h
keeps-leads more P s false rule at next h = tt

knowing-moves : (seen : ℕ → Bool) (s : Standing) (known : Known) → Holds seen s → Step seen s.known known → Moves seen s (knowing s known)
knowing-moves seen s known holds step = record {
  grown = step.grown;
  holds = record { sees = step.sees; linked = all-later s.known.declared known.declared s.linked step.grown holds.linked };
  depth = step.depth;
}

pub typing-leads : {A B : Type 0} (seen : ℕ → Bool) (P : List Declaration → A → Type 0) (more : B → ℕ → Bool) (Q : List Declaration → B → Type 0) (s : Standing)
    (outcome : Outcome A) (next : Standing → A → Progress B) → Holds seen s → Gives seen P s.known outcome
    → ((t : Standing) (it : A) → Moves seen s t → P t.known.declared it → Leads more Q t (next t it)) → Leads more Q s (typing s outcome next)
unfolding Leads Gives
typing-leads seen P more Q s (given known it) next holds h step =
    let moves = knowing-moves seen s known holds h.0 in leads-from seen more Q s (knowing s known) (next (knowing s known) it) moves (step (knowing s known) it moves h.1)
typing-leads seen P more Q s (broken rule at) next holds h step = tt

pub collecting-leads : {A B : Type 0} (seen : ℕ → Bool) (P : List Declaration → A → Type 0) (more : B → ℕ → Bool) (Q : List Declaration → B → Type 0) (s : Standing)
    (outcome : Outcome A) (next : Standing → List Tree → A → Progress B) → Holds seen s → Gives seen P s.known outcome
    → ((t : Standing) (constants : List Tree) (it : A) → Moves seen s t → P t.known.declared it → Leads more Q t (next t constants it)) → Leads more Q s (collecting s outcome next)
unfolding Leads Gives
collecting-leads seen P more Q s (given known it) next holds h step =
    let moves = knowing-moves seen s known holds h.0 in
    leads-from seen more Q s (knowing s known) (next (knowing s known) known.constants it) moves (step (knowing s known) known.constants it moves h.1)
collecting-leads seen P more Q s (broken rule at) next holds h step = tt

-- ---- scopes that end

-- what was declared in the scope stays, and what was declared before it is as before
grown-closed : (old new : List Declaration) → Grown old new → Grown new (old ++ drop (length old) new)
unfolding Grown
grown-closed [] [] grown d entry e = (entry, e, refl)
grown-closed [] (y ∷ ys) grown d entry e = (entry, e, refl)
grown-closed (x ∷ xs) [] grown d entry e = absurd (cc)
grown-closed (x ∷ xs) (y ∷ ys) grown zero entry e =
    let later = grown zero x refl in
    let same : later.0 ≡ entry = injected later.0 entry (sym later.1 ∙ e) in
    (x, refl, sym later.2 ∙ ap (λ (it : Declaration). it.sort) same)
grown-closed (x ∷ xs) (y ∷ ys) grown (suc d) entry e = grown-closed xs ys (λ n one is. grown (suc n) one is) d entry e

pub opened-holds : (seen more : ℕ → Bool) (s : Standing) (scope : Numbers) → IsWider seen more → SeesIn s.known.declared more scope → Holds seen s → Holds more (opened scope s)
opened-holds seen more s scope wider h holds = record {
  sees = sees-in s.known.declared more scope s.known.scopes h (holds-wider seen more s wider holds).sees;
  linked = holds.linked;
}

-- a claim on what is typed holds where more is declared
abbrev pub IsLasting : {A : Type 0} → (List Declaration → A → Type 0) → Type 0
IsLasting {A} P = (old new : List Declaration) (it : A) → Grown old new → P old it → P new it

pub closed-leads : {A : Type 0} (seen : ℕ → Bool) (inner : A → ℕ → Bool) (P : List Declaration → A → Type 0) (s : Standing) (scope : Numbers) (progress : Progress A)
    → IsLasting P → Holds seen s → Leads inner P (opened scope s) progress → Leads (λ it. seen) P s (closed s progress)
unfolding Leads
closed-leads seen inner P s scope (goes_on t it) lasting holds h =
    let front = grown-more s.known.declared (drop (length s.known.declared) t.known.declared) in
    let back = grown-closed s.known.declared t.known.declared h.0.grown in
    let declared = (known_behind s.known t.known).declared in (
      record {
        grown = front;
        holds = record {
          sees = sees-later s.known.declared declared seen s.known.scopes front holds.sees;
          linked = all-later t.known.declared declared t.linked back h.0.holds.linked;
        };
        depth = refl;
      },
      lasting t.known.declared declared it back h.1,
    )
closed-leads seen inner P s scope (stops rule at) lasting holds h = tt

-- ---- declarators

grown-kind : (n : ℕ) (kind : CType) (declared : List Declaration) → Grown declared (with_kind n kind declared)
unfolding Grown
grown-kind n kind [] d entry e = absurd (cc)
grown-kind zero kind (first ∷ others) zero entry e =
    let same : first ≡ entry = injected first entry e in (record first { kind = kind }, refl, ap (λ (it : Declaration). it.sort) same)
grown-kind zero kind (first ∷ others) (suc d) entry e = (entry, e, refl)
grown-kind (suc n) kind (first ∷ others) zero entry e = (entry, e, refl)
grown-kind (suc n) kind (first ∷ others) (suc d) entry e = grown-kind n kind others d entry e

-- a name means an entry from here on
module _ (seen more : ℕ → Bool) (wider : IsWider seen more) (known : Known) (sees : Sees known.declared seen known.scopes) (kind : CType) (entry : Declaration) where
  pub named-step : (found : Option ℕ) → ((d : ℕ) → found ≡ Some d → Has known.declared more d)
      → (found ≡ None → is_automatic_sort entry.sort ≡ true → more (length known.declared) ≡ true)
      → Step more known (naming known kind entry found) × Has (naming known kind entry found).declared more (unwrap_or found (length known.declared))
  named-step None has new = (
    declaring-step more known entry.name entry seen_more (new refl),
    record { entry = entry; at = get-last known.declared entry; is_seen = new refl },
  )
    where
      seen_more : Sees known.declared more known.scopes
      seen_more = sees-changes known.declared known.declared seen more known.scopes (grown-itself known.declared) wider sees
  named-step (Some d) has new =
      let grown = grown-kind d kind known.declared in
      let there = has-later known.declared (with_kind d kind known.declared) more d grown (has d refl) in (
        record {
          grown = grown;
          sees = sees-with (with_kind d kind known.declared) more known.scopes entry.name d
              (sees-changes known.declared (with_kind d kind known.declared) seen more known.scopes grown wider sees) there;
          depth = depth-with known.scopes entry.name d;
        },
        there,
      )

module _ (seen more : ℕ → Bool) (wider : IsWider seen more) (s : Standing) (holds : Holds seen s) (entry : Declaration)
    (linked : has_linkage entry.linkage ≡ true → is_automatic_sort entry.sort ≡ false) (passes : is_automatic_sort entry.sort ≡ true → more (number_here s entry) ≡ true) where
  before-has : (d : ℕ) → number_before s entry ≡ Some d → Has s.known.declared more d
  before-has d e = by-linkage (has_linkage entry.linkage) e
    where
      by-linkage : (test : Bool)
          → (if test then number_shared s entry.name else if is_some (meaning_here s.known entry.name) then number_of s.known.scopes entry.name else None) ≡ Some d
          → Has s.known.declared more d
      by-linkage true e = static-has s.known.declared more d (shared-in s.known.declared s.known.declared entry.name s.linked d holds.linked e)
      by-linkage false e = by-meaning (is_some (meaning_here s.known entry.name)) e
        where
          by-meaning : (test : Bool) → (if test then number_of s.known.scopes entry.name else None) ≡ Some d → Has s.known.declared more d
          by-meaning true e = has-wider s.known.declared seen more d wider (found-has s.known.declared seen s.known.scopes entry.name d holds.sees e)
          by-meaning false e = absurd (cc)

  new-passes : number_before s entry ≡ None → is_automatic_sort entry.sort ≡ true → more (length s.known.declared) ≡ true
  new-passes e auto = ap (λ found. more (unwrap_or found (length s.known.declared))) (sym e) ∙ passes auto

  named-both : Step more s.known (named_here s entry) × Has (named_here s entry).declared more (number_here s entry)
  named-both = named-step seen more wider s.known holds.sees (kind_seen s entry) entry (number_before s entry) before-has new-passes

  pub named-has : Has (named_here s entry).declared more (number_here s entry)
  named-has = named-both.1

  -- what has linkage isn't automatic
  pub linked-static : has_linkage entry.linkage ≡ true → IsStatic (named_here s entry).declared (number_here s entry)
  linked-static is = by-number (number_before s entry) refl
    where
      shared : (d : ℕ) → number_before s entry ≡ Some d → IsStatic s.known.declared d
      shared d e =
          shared-in s.known.declared s.known.declared entry.name s.linked d holds.linked
          (ap (λ test. if test then number_shared s entry.name else if is_some (meaning_here s.known entry.name) then number_of s.known.scopes entry.name else None) (sym is) ∙ e)

      by-number : (found : Option ℕ) → number_before s entry ≡ found → IsStatic (naming s.known (kind_seen s entry) entry found).declared (unwrap_or found (length s.known.declared))
      by-number None e = record { entry = entry; at = get-last s.known.declared entry; fixed = linked is }
      by-number (Some d) e = static-later s.known.declared _ d (grown-kind d (kind_seen s entry) s.known.declared) (shared d e)

  pub declared-moves : Moves more s (declared_here s entry)
  declared-moves =
      let step = named-both.0 in record {
        grown = step.grown;
        holds = record {
          sees = step.sees;
          linked = static-if (named_here s entry).declared s.linked (has_linkage entry.linkage) (number_here s entry) entry.kind false
              (all-later s.known.declared (named_here s entry).declared s.linked step.grown holds.linked) linked-static;
        };
        depth = step.depth;
      }

  -- that of a function definition, which is known not to be automatic
  pub function-moves : IsStatic (named_here s entry).declared (number_here s entry) → Moves more s (function_here s entry)
  function-moves is =
      let step = named-both.0 in record {
        grown = step.grown;
        holds = record {
          sees = step.sees;
          linked = static-if (named_here s entry).declared s.linked true (number_here s entry) entry.kind true
              (all-later s.known.declared (named_here s entry).declared s.linked step.grown holds.linked) (λ yes. is);
        };
        depth = step.depth;
      }

-- behind an initialiser
pub object-moves : (seen : ℕ → Bool) (s : Standing) (entry : Declaration) (number : ℕ) (kind : CType) → Holds seen s
    → (has_linkage entry.linkage ≡ true → IsStatic s.known.declared number) → Moves seen s (object_here s entry number kind)
object-moves seen s entry number kind holds is =
    let declared = with_kind number kind s.known.declared in
    let grown = grown-kind number kind s.known.declared in record {
      grown = grown;
      holds = record {
        sees = sees-later s.known.declared declared seen s.known.scopes grown holds.sees;
        linked = static-if declared s.linked (has_linkage entry.linkage) number kind true (all-later s.known.declared declared s.linked grown holds.linked)
            (λ yes. static-later s.known.declared declared number grown (is yes));
      };
      depth = refl;
    }
