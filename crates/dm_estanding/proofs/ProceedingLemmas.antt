-- How the steps of the code through declarations and statements come to what the definition comes to: what is left to type where the code
-- stands, and what each call leaves.
use Rattle.std.specs.Prelude.{◌≡◌, ℕ, ◌<◌, Bool, true, false, List, [], ◌∷◌, ◌++◌, length, map, take, drop, Option, Some, None, slice_get, Result, Ok, Err, IsErrAnd, refl}
use Rattle.std.specs.Cmp.Lexicographic.{slice_cmp}
use Rattle.std.specs.FinMap as finite
use Rattle.std.specs.Ordering.{nat_cmp}
use Rattle.std.proofs.Common.{sym, ap, ◌∙◌, subst, arith}
use Rattle.std.proofs.lemmas.List.{length-map, take-map}
use Rattle.dm_token.specs.declared.stop.Stop.{Stop}
use Rattle.dm_token.specs.declared.stop.Stop.TheVariants as stop
use Rattle.dm_type.specs.declared.shape.Shape.{Shape}
use Rattle.dm_type.specs.Tables.{Table}
use Rattle.dm_name_map.specs.Numbers.{Numbers}
use Rattle.dm_syn.specs.Sources.{Source}
use Rattle.dm_tree.specs.declared.tree.Core.{Core}
use Rattle.dm_tree.specs.Trees.{Tree}
use Rattle.dm_tree.specs.Typing.{has_linkage}
use Rattle.dm_tree.specs.Units.{Declaration}
use Rattle.dm_typing.specs.declared.known.Known.{Known as Known-held}
use Rattle.dm_typing.specs.Known.{Known, Outcome, given, broken}
use Rattle.dm_typing.specs.Views.{Begins, view_over, known_over, refusal_at, Gives, Grows}
use Rattle.dm_typing.proofs.GivesLemmas.{grown}
use Rattle.dm_typing.proofs.LaterLemmas.{begins-itself, begins-on}
use Rattle.dm_edeclarator.specs.Steps.{SameBesideConstants, Follows}
use Rattle.dm_edeclarator.proofs.OpenLemmas.{constants-over}
use Rattle.dm_eexpr.proofs.CycleLemmas.{if-ok}
use Rattle.dm_eexpr.proofs.KeepLemmas.{Adds, Keeps, KeepsIn, Leads, SameTrees}
use Rattle.dm_edecl.specs.Standing.{Standing, Progress, goes_on, stops, further, knowing, typing, collecting, keeps, opened, closed, known_behind}
use Rattle.dm_estanding.specs.declared.links.Links.{Links}
use Rattle.dm_estanding.specs.declared.standing.Standing.{Standing as Held}
use Rattle.dm_estanding.specs.Proceeding.{IsLawful, Reached, Advances, Proceeds}
use Rattle.dm_estanding.specs.Summaries.{entry_over, Summarises, StandsFor}
use Rattle.dm_estanding.specs.Undoing.{IsWithin, Opens}
use Rattle.dm_estanding.proofs.DeclaringLemmas.{below-held}
use Rattle.dm_estanding.proofs.DefiningLemmas.{summary-renamed}
use Rattle.dm_estanding.proofs.LawfulLemmas.{remembers-itself, remembers-on, opened-lawful, opened-remembers, closed-lawful, closed-remembers, knowing-names, knowing-lawful, knowing-remembers}
use Rattle.dm_estanding.proofs.ScopeLemmas.{take-appended}
use Rattle.dm_estanding.proofs.WithinLemmas.{within-itself, within-on}

-- ---- progress

pub further-further : {A B C : Type 0} (progress : Progress A) (first : Standing → A → Progress B) (second : Standing → B → Progress C)
    → further progress (λ standing it. further (first standing it) second) ≡ further (further progress first) second
further-further (goes_on standing it) first second = refl
further-further (stops rule at) first second = refl

pub typing-further : {A B C : Type 0} (standing : Standing) (outcome : Outcome A) (first : Standing → A → Progress B) (second : Standing → B → Progress C)
    → typing standing outcome (λ behind it. further (first behind it) second) ≡ further (typing standing outcome first) second
typing-further standing (given known it) first second = refl
typing-further standing (broken rule at) first second = refl

-- ---- what is reached

pub reached-itself : (later : List Shape) (held : Held) (s : Standing) → StandsFor later held.known held.links s → IsLawful s → Reached later held s s
reached-itself later held s stands lawful = record { stands = stands; lawful = lawful; remembers = remembers-itself s }

pub reached-on : (later : List Shape) (now new : Held) (a b c : Standing) → Reached later now a b → Reached later new b c → Reached later new a c
reached-on later now new a b c first second = record { stands = second.stands; lawful = second.lawful; remembers = remembers-on a b c first.remembers second.remembers }

-- a call that fails breaks what is behind it
fails-further : {A B C D : Type 0} (view : A → B) (seen : C → D) (source : Source) (later : List Shape) (now new : Held) (s t : Standing) (fault : Stop) (progress : Progress B)
    (next : Standing → B → Progress D) → Advances view source later now s (Err fault) progress → Advances seen source later new t (Err fault) (further progress next)
fails-further view seen source later now new s t stop.Memory progress next g = tt
fails-further view seen source later now new s t (stop.Refused refusal) progress next g = (g.0, g.1, ap (λ p. further p next) g.2, g.3)
fails-further view seen source later now new s t (stop.Limit limit) progress next g = absurd g
fails-further view seen source later now new s t (stop.ReadFault file) progress next g = absurd g

fails-typing : {A B C D : Type 0} (view : A → B) (seen : C → D) (source : Source) (later : List Shape) (behind : Known) (new : Held) (s t : Standing) (fault : Stop) (outcome : Outcome B)
    (next : Standing → B → Progress D) → Gives view source behind (Err fault) outcome → Advances seen source later new t (Err fault) (typing s outcome next)
fails-typing view seen source later behind new s t stop.Memory outcome next g = tt
fails-typing view seen source later behind new s t (stop.Refused refusal) outcome next g = (g.0, g.1, ap (λ o. typing s o next) g.2, g.3)
fails-typing view seen source later behind new s t (stop.Limit limit) outcome next g = absurd g
fails-typing view seen source later behind new s t (stop.ReadFault file) outcome next g = absurd g

fails-collecting : {A B C D : Type 0} (view : A → B) (seen : C → D) (source : Source) (later : List Shape) (behind : Known) (new : Held) (s t : Standing) (fault : Stop) (outcome : Outcome B)
    (next : Standing → List Tree → B → Progress D) → Gives view source behind (Err fault) outcome → Advances seen source later new t (Err fault) (collecting s outcome next)
fails-collecting view seen source later behind new s t stop.Memory outcome next g = tt
fails-collecting view seen source later behind new s t (stop.Refused refusal) outcome next g = (g.0, g.1, ap (λ o. collecting s o next) g.2, g.3)
fails-collecting view seen source later behind new s t (stop.Limit limit) outcome next g = absurd g
fails-collecting view seen source later behind new s t (stop.ReadFault file) outcome next g = absurd g

fails-closed : {A B C D : Type 0} (view : A → B) (seen : C → D) (source : Source) (later : List Shape) (now new : Held) (s t u : Standing) (fault : Stop) (progress : Progress D)
    → Advances seen source later now s (Err fault) progress → Advances seen source later new t (Err fault) (closed u progress)
fails-closed view seen source later now new s t u stop.Memory progress g = tt
fails-closed view seen source later now new s t u (stop.Refused refusal) progress g = (g.0, g.1, ap (closed u) g.2, g.3)
fails-closed view seen source later now new s t u (stop.Limit limit) progress g = absurd g
fails-closed view seen source later now new s t u (stop.ReadFault file) progress g = absurd g

-- ---- what is left

-- where the code stands, the whole comes to what is left
pub record Arrives {A : Type 0} (old now : Held) (whole left : List Shape → Standing → Progress A) : Type 0 where
  pub shapes : Begins old.known.types.shapes now.known.types.shapes
  pub within : IsWithin old now
  pub is : (later : List Shape) → Begins now.known.types.shapes later → (before : Standing) → StandsFor later old.known old.links before → IsLawful before
      → (behind : Standing) × (whole later before ≡ left later behind) × Reached later now before behind

pub starts : {A : Type 0} (held : Held) (whole left : List Shape → Standing → Progress A)
    → ((later : List Shape) (before : Standing) → StandsFor later held.known held.links before → IsLawful before → whole later before ≡ left later before) → Arrives held held whole left
starts held whole left e = record {
  shapes = begins-itself held.known.types.shapes;
  within = within-itself held;
  is = λ later on before stands lawful. (before, e later before stands lawful, reached-itself later held before stands lawful);
}

-- a step of the code, on which the definition comes to something else
pub moves : {A : Type 0} (old now new : Held) (whole left other : List Shape → Standing → Progress A) → IsWithin now new → Arrives old now whole left
    → ((later : List Shape) → Begins new.known.types.shapes later → (behind : Standing) → StandsFor later now.known now.links behind → IsLawful behind
    → (ahead : Standing) × (left later behind ≡ other later ahead) × Reached later new behind ahead)
    → Arrives old new whole other
moves old now new whole left other within a step = record {
  shapes = begins-on old.known.types.shapes now.known.types.shapes new.known.types.shapes a.shapes within.shapes;
  within = within-on old now new a.within within;
  is = λ later on before stands lawful.
      let here = a.is later (begins-on now.known.types.shapes new.known.types.shapes later within.shapes on) before stands lawful in
      let there = step later on here.0 here.2.stands here.2.lawful in
      (there.0, here.1 ∙ there.1, reached-on later now new before here.0 there.0 here.2 there.2);
}

pub restated : {A : Type 0} (old now : Held) (whole left other : List Shape → Standing → Progress A) → Arrives old now whole left
    → ((later : List Shape) → Begins now.known.types.shapes later → (behind : Standing) → StandsFor later now.known now.links behind → IsLawful behind → left later behind ≡ other later behind)
    → Arrives old now whole other
restated old now whole left other a e =
    moves old now now whole left other (within-itself now) a (λ later on behind stands lawful. (behind, e later on behind stands lawful, reached-itself later now behind stands lawful))

-- what the code knows stands for the same where types are numbered
pub stands-grown : (later : List Shape) (old new : Known-held) (links after : Links) (s : Standing) → Grows old new → after ≡ links → StandsFor later old links s → StandsFor later new after s
stands-grown later old new links after s g same stands = record {
  known = stands.known ∙ grown later old new g;
  links = subst (λ it. Summarises later it s.known.declared s.linked) (sym same) stands.links;
}

-- a rule holds
pub holds : {A : Type 0} (old now : Held) (whole next : List Shape → Standing → Progress A) (test : List Shape → Standing → Bool) (rule at : ℕ)
    → Arrives old now whole (λ later behind. keeps (test later behind) rule at (next later behind))
    → ((later : List Shape) → Begins now.known.types.shapes later → (behind : Standing) → StandsFor later now.known now.links behind → IsLawful behind → test later behind ≡ true)
    → Arrives old now whole next
holds old now whole next test rule at a h =
    restated old now whole (λ later behind. keeps (test later behind) rule at (next later behind)) next a
    (λ later on behind stands lawful. ap (λ it. keeps it rule at (next later behind)) (h later on behind stands lawful))

module _ {A B D : Type 0} (Fits : Table → A → Type 0) (view : List Shape → A → B) (source : Source) (old now new : Held) (whole : List Shape → Standing → Progress D) where
  -- a call that succeeds
  pub passes : (one : List Shape → Standing → Progress B) (next : List Shape → Standing → B → Progress D) (it : A)
      → Arrives old now whole (λ later behind. further (one later behind) (next later)) → Proceeds Fits view source now new (Ok it) one
      → Arrives old new whole (λ later behind. next later behind (view later it))
  passes one next it a p =
      moves old now new whole (λ later behind. further (one later behind) (next later)) (λ later behind. next later behind (view later it)) p.within a
      (λ later on behind stands lawful.
      let there = p.gives later on behind stands lawful in (there.0, ap (λ progress. further progress (next later)) there.1, there.2))

  module _ {C : Type 0} (FitsAll : Table → C → Type 0) (seen : List Shape → C → D) where
    -- a call that fails
    pub fails : (one : List Shape → Standing → Progress B) (next : List Shape → Standing → B → Progress D) (fault : Stop)
        → Arrives old now whole (λ later behind. further (one later behind) (next later)) → Proceeds Fits view source now new (Err fault) one
        → Proceeds FitsAll seen source old new (Err fault) whole
    fails one next fault a p = record {
      shapes = begins-on old.known.types.shapes now.known.types.shapes new.known.types.shapes a.shapes p.shapes;
      numbered = tt;
      within = tt;
      gives = λ later on before stands lawful.
          let here = a.is later (begins-on now.known.types.shapes new.known.types.shapes later p.shapes on) before stands lawful in
          subst (Advances (seen later) source later new before (Err fault)) (sym here.1)
          (fails-further (view later) (seen later) source later new new here.0 before fault (one later here.0) (next later) (p.gives later on here.0 here.2.stands here.2.lawful));
    }

-- what is reached from where the code has come is reached from before
pub advances-on : {C D : Type 0} (seen : C → D) (source : Source) (later : List Shape) (now new : Held) (before here : Standing) (result : Result C Stop) (progress : Progress D)
    → Reached later now before here → Advances seen source later new here result progress → Advances seen source later new before result progress
advances-on seen source later now new before here (Ok it) progress reached g = (g.0, g.1, reached-on later now new before here g.0 reached g.2)
advances-on seen source later now new before here (Err stop.Memory) progress reached g = tt
advances-on seen source later now new before here (Err (stop.Refused refusal)) progress reached g = g
advances-on seen source later now new before here (Err (stop.Limit limit)) progress reached g = absurd g
advances-on seen source later now new before here (Err (stop.ReadFault file)) progress reached g = absurd g

module _ {C D : Type 0} (Fits : Table → C → Type 0) (seen : List Shape → C → D) (source : Source) (old now new : Held) (whole left : List Shape → Standing → Progress D)
    (a : Arrives old now whole left) where
  -- the last call gives the whole
  pub ends : (result : Result C Stop) → Proceeds Fits seen source now new result left → Proceeds Fits seen source old new result whole
  ends result p = record {
    shapes = begins-on old.known.types.shapes now.known.types.shapes new.known.types.shapes a.shapes p.shapes;
    numbered = p.numbered;
    within = if-ok (λ it. IsWithin now new) (λ it. IsWithin old new) result (λ it within. within-on old now new a.within within) p.within;
    gives = λ later on before stands lawful.
        let here = a.is later (begins-on now.known.types.shapes new.known.types.shapes later p.shapes on) before stands lawful in
        subst (Advances (seen later) source later new before result) (sym here.1)
        (advances-on (seen later) source later now new before here.0 result (left later here.0) here.2 (p.gives later on here.0 here.2.stands here.2.lawful));
  }

module _ {C D : Type 0} (Fits : Table → C → Type 0) (seen : List Shape → C → D) (source : Source) (old new : Held) (whole : List Shape → Standing → Progress D) where
  -- nothing is left
  pub done : (it : C) → Arrives old new whole (λ later behind. goes_on behind (seen later it)) → Fits new.known.types it → Proceeds Fits seen source old new (Ok it) whole
  done it a fits = record { shapes = a.shapes; numbered = fits; within = a.within; gives = a.is }

  -- a rule is broken
  pub stops-there : (rule at : ℕ) (fault : Stop) → Arrives old new whole (λ later behind. stops rule at) → fault ≡ stop.Refused (refusal_at source rule at)
      → Proceeds Fits seen source old new (Err fault) whole
  stops-there rule at fault a same =
      subst (λ s. Proceeds Fits seen source old new (Err s) whole) (sym same)
      (record { shapes = a.shapes; numbered = tt; within = tt; gives = λ later on before stands lawful. (rule, at, (a.is later on before stands lawful).1, refl) })

  pub breaks : (next : List Shape → Standing → Progress D) (test : List Shape → Standing → Bool) (rule at : ℕ) (fault : Stop)
      → Arrives old new whole (λ later behind. keeps (test later behind) rule at (next later behind))
      → ((later : List Shape) → Begins new.known.types.shapes later → (behind : Standing) → StandsFor later new.known new.links behind → IsLawful behind → test later behind ≡ false)
      → fault ≡ stop.Refused (refusal_at source rule at) → Proceeds Fits seen source old new (Err fault) whole
  breaks next test rule at fault a h same =
      stops-there rule at fault
      (restated old new whole (λ later behind. keeps (test later behind) rule at (next later behind)) (λ later behind. stops rule at) a
      (λ later on behind stands lawful. ap (λ it. keeps it rule at (next later behind)) (h later on behind stands lawful))) same

  -- no memory
  pub starves : (fault : Stop) → Begins old.known.types.shapes new.known.types.shapes → fault ≡ stop.Memory → Proceeds Fits seen source old new (Err fault) whole
  starves fault more same =
      subst (λ s. Proceeds Fits seen source old new (Err s) whole) (sym same)
      (record { shapes = more; numbered = tt; within = tt; gives = λ later on before stands lawful. tt })

  -- faults that are handed on
  pub relays : (result : Result C Stop) (fault : Stop) → IsErrAnd result (λ e. e ≡ fault) → Proceeds Fits seen source old new (Err fault) whole
      → Proceeds Fits seen source old new result whole
  relays (Ok it) fault handed p = absurd handed
  relays (Err e) fault handed p = subst (λ s. Proceeds Fits seen source old new (Err s) whole) (sym handed) p

  pub runs-out : (result : Result C Stop) → Begins old.known.types.shapes new.known.types.shapes → IsErrAnd result (λ e. e ≡ stop.Memory)
      → Proceeds Fits seen source old new result whole
  runs-out (Ok it) more handed = absurd handed
  runs-out (Err e) more handed = starves e more handed

-- the same progress
pub alike : {C D : Type 0} (Fits : Table → C → Type 0) (seen : List Shape → C → D) (source : Source) (old new : Held) (whole other : List Shape → Standing → Progress D)
    → ((later : List Shape) (before : Standing) → StandsFor later old.known old.links before → IsLawful before → whole later before ≡ other later before)
    → (result : Result C Stop) → Proceeds Fits seen source old new result other → Proceeds Fits seen source old new result whole
alike Fits seen source old new whole other e result p = ends Fits seen source old old new whole other (starts old whole other e) result p

-- ---- expressions, specifiers and declarators

-- the code types something, and keeps or takes out the lengths and enumerator values
module _ (now new : Held) (typed : Known-held) (types : new.known.types ≡ typed.types) (scopes : new.known.scopes ≡ typed.scopes) (declared : new.known.declared ≡ typed.declared)
    (links : new.links ≡ now.links) (retyped : new.retyped.items ≡ now.retyped.items) where
  module _ {A B : Type 0} (Fits : Table → A → Type 0) (view : List Shape → A → B) (source : Source) (it : A) (one : List Shape → Known → Outcome B)
      (f : Follows Fits view source now.known typed (Ok it) (λ later. one later (known_over later now.known))) (keeps-all : (later : List Shape) (known : Known) → KeepsIn known (one later known)) where
    typed-shapes : Begins now.known.types.shapes new.known.types.shapes
    typed-shapes = subst (λ (table : Table). Begins now.known.types.shapes table.shapes) (sym types) f.shapes

    typed-on : (later : List Shape) → Begins new.known.types.shapes later → Begins typed.types.shapes later
    typed-on later on = subst (λ (table : Table). Begins table.shapes later) types on

    pub typed-adds : (later : List Shape) → Begins new.known.types.shapes later → Adds (known_over later now.known) (known_over later typed)
    typed-adds later on =
        let all : Keeps (known_over later now.known) (known_over later typed) =
        (subst (KeepsIn (known_over later now.known)) (f.gives later (typed-on later on)) (keeps-all later (known_over later now.known))).leads in
        all.adds

    pub typed-within : IsWithin now new
    typed-within =
        let shapes = new.known.types.shapes in
        let last = typed-adds shapes (begins-itself shapes) in
        record {
          shapes = typed-shapes;
          changes = [];
          retyped = retyped ∙ sym (append-none now.retyped.items);
          entries = λ later on.
              let all = typed-adds later on in
              let many = length now.known.declared in
              let front = map (entry_over later) now.known.declared in
              sym (take-map (entry_over later) many new.known.declared)
              ∙ ap (λ entries. take many (map (entry_over later) entries)) declared
              ∙ ap (take many) all.declared
              ∙ ap (λ n. take n (front ++ all.more)) (sym (length-map now.known.declared (entry_over later)))
              ∙ take-appended front all.more;
          scopes = ap (drop 1) scopes ∙ last.outer;
          depth = ap length scopes ∙ last.depth;
        }
      where
        append-none : {X : Type 0} (xs : List X) → xs ++ [] ≡ xs
        append-none [] = refl
        append-none (x ∷ xs) = ap (λ ys. x ∷ ys) (append-none xs)

    -- what the definition knows then
    pub typed-reached : (later : List Shape) → Begins new.known.types.shapes later → (s : Standing) → StandsFor later now.known now.links s → IsLawful s
        → known_over later new.known ≡ record (known_over later typed) { constants = s.known.constants }
        → Reached later new s (knowing s (known_over later typed))
    typed-reached later on s stands lawful known =
        let k = known_over later typed in
        let adds : Adds s.known k = subst (λ it. Adds it k) (sym stands.known) (typed-adds later on) in
        let below = below-held later now.known s.known stands.known now.known.numbers in
        record {
          stands = record {
            known = sym known;
            links = subst (λ it. Summarises later it k.declared s.linked) (sym links)
                (summary-renamed later now.links s.known.declared k.declared s.linked (knowing-names s k adds lawful) stands.links);
          };
          lawful = knowing-lawful s k adds below lawful;
          remembers = knowing-remembers s k adds;
        }

    -- and what it types
    pub typed-gives : (later : List Shape) → Begins new.known.types.shapes later → (s : Standing) → s.known ≡ known_over later now.known
        → one later s.known ≡ given (known_over later typed) (view later it)
    typed-gives later on s same = ap (one later) same ∙ f.gives later (typed-on later on)

module _ {A B D : Type 0} (Fits : Table → A → Type 0) (view : List Shape → A → B) (source : Source) (old now new : Held) (whole : List Shape → Standing → Progress D)
    (one : List Shape → Known → Outcome B) (next : List Shape → Standing → B → Progress D)
    (a : Arrives old now whole (λ later behind. typing behind (one later behind.known) (next later))) where
  -- an expression is typed
  pub types : (it : A) → Follows Fits view source now.known new.known (Ok it) (λ later. one later (known_over later now.known)) → new.links ≡ now.links
      → new.retyped.items ≡ now.retyped.items → ((later : List Shape) (known : Known) → KeepsIn known (one later known))
      → ((later : List Shape) (known : Known) → Leads SameTrees known (one later known)) → Arrives old new whole (λ later behind. next later behind (view later it))
  types it f links retyped keeps-all trees =
      moves old now new whole (λ later behind. typing behind (one later behind.known) (next later)) (λ later behind. next later behind (view later it))
      (typed-within now new new.known refl refl refl links retyped Fits view source it one f keeps-all) a
      (λ later on behind stands lawful.
      let k = known_over later new.known in
      let gives = typed-gives now new new.known refl refl refl links retyped Fits view source it one f keeps-all later on behind stands.known in
      let same : SameTrees behind.known k = (subst (Leads SameTrees behind.known) gives (trees later behind.known)).leads in (
        knowing behind k,
        ap (λ outcome. typing behind outcome (next later)) gives,
        typed-reached now new new.known refl refl refl links retyped Fits view source it one f keeps-all later on behind stands lawful (ap (λ trees. record k { constants = trees }) same),
      ))

  pub type-fails : {C : Type 0} (FitsAll : Table → C → Type 0) (seen : List Shape → C → D) (fault : Stop)
      → Follows Fits view source now.known new.known (Err fault) (λ later. one later (known_over later now.known)) → Proceeds FitsAll seen source old new (Err fault) whole
  type-fails FitsAll seen fault f = record {
    shapes = begins-on old.known.types.shapes now.known.types.shapes new.known.types.shapes a.shapes f.shapes;
    numbered = tt;
    within = tt;
    gives = λ later on before stands lawful.
        let here = a.is later (begins-on now.known.types.shapes new.known.types.shapes later f.shapes on) before stands lawful in
        subst (Advances (seen later) source later new before (Err fault)) (sym here.1)
        (fails-typing (view later) (seen later) source later (known_over later new.known) new here.0 before fault (one later here.0.known) (next later)
        (subst (λ known. Gives (view later) source (known_over later new.known) (Err fault) (one later known)) (sym here.2.stands.known) (f.gives later on)));
  }

module _ {A B D : Type 0} (Fits : Table → A → Type 0) (view : List Shape → A → B) (source : Source) (old now new : Held) (whole : List Shape → Standing → Progress D)
    (one : List Shape → Known → Outcome B) (next : List Shape → Standing → List Tree → B → Progress D)
    (a : Arrives old now whole (λ later behind. collecting behind (one later behind.known) (next later))) where
  -- specifiers or a declarator are typed, and their lengths and enumerator values taken out
  pub collects : (it : A) (typed : Known-held) (trees : List Core) → Follows Fits view source now.known typed (Ok it) (λ later. one later (known_over later now.known))
      → SameBesideConstants typed new.known → new.known.constants ≡ [] → trees ≡ typed.constants → new.links ≡ now.links → new.retyped.items ≡ now.retyped.items
      → ((later : List Shape) (known : Known) → KeepsIn known (one later known))
      → Arrives old new whole (λ later behind. next later behind (map (view_over later) trees) (view later it))
  collects it typed trees f same none taken links retyped keeps-all =
      moves old now new whole (λ later behind. collecting behind (one later behind.known) (next later)) (λ later behind. next later behind (map (view_over later) trees) (view later it))
      (typed-within now new typed same.types same.scopes same.declared links retyped Fits view source it one f keeps-all) a
      (λ later on behind stands lawful.
      let k = known_over later typed in
      let gives = typed-gives now new typed same.types same.scopes same.declared links retyped Fits view source it one f keeps-all later on behind stands.known in (
        knowing behind k,
        ap (λ outcome. collecting behind outcome (next later)) gives ∙ ap (λ list. next later (knowing behind k) (map (view_over later) list) (view later it)) (sym taken),
        typed-reached now new typed same.types same.scopes same.declared links retyped Fits view source it one f keeps-all later on behind stands lawful
            (constants-over later typed new.known same ∙ ap (λ list. record k { constants = list }) (ap (map (view_over later)) none ∙ sym lawful.constants)),
      ))

  pub collect-fails : {C : Type 0} (FitsAll : Table → C → Type 0) (seen : List Shape → C → D) (fault : Stop)
      → Follows Fits view source now.known new.known (Err fault) (λ later. one later (known_over later now.known)) → Proceeds FitsAll seen source old new (Err fault) whole
  collect-fails FitsAll seen fault f = record {
    shapes = begins-on old.known.types.shapes now.known.types.shapes new.known.types.shapes a.shapes f.shapes;
    numbered = tt;
    within = tt;
    gives = λ later on before stands lawful.
        let here = a.is later (begins-on now.known.types.shapes new.known.types.shapes later f.shapes on) before stands lawful in
        subst (Advances (seen later) source later new before (Err fault)) (sym here.1)
        (fails-collecting (view later) (seen later) source later (known_over later new.known) new here.0 before fault (one later here.0.known) (next later)
        (subst (λ known. Gives (view later) source (known_over later new.known) (Err fault) (one later known)) (sym here.2.stands.known) (f.gives later on)));
  }

-- ---- scopes

-- nothing is declared yet in a scope that opens
abbrev pub no-names : Numbers
no-names = finite.empty

pub none-there : (entries : List Declaration) (name : List ℕ) (number : ℕ) (entry : Declaration) → finite.get no-names name ≡ Some number → slice_get entries number ≡ Some entry
    → has_linkage entry.linkage ≡ false
none-there entries name number entry h is = nothing (sym (finite.get-empty (slice_cmp nat_cmp) name) ∙ h)
  where
    nothing : ◌≡◌ {A = Option ℕ} None (Some number) → has_linkage entry.linkage ≡ false
    nothing none = absurd (cc)

-- a scope was open round the one that is left
pub scope-open : (outside opened inside : Held) (scope : Numbers) → opened.known.scopes ≡ scope ∷ outside.known.scopes → 0 < length outside.known.scopes → IsWithin opened inside
    → 1 < length inside.known.scopes
scope-open outside opened inside scope e some within =
    let one = ap length e in let same = within.depth in omega (arith, one, same, some)

module _ {A B : Type 0} (Fits : Table → A → Type 0) (view : List Shape → A → B) (source : Source) (outside opened-held inside : Held) (scope : Numbers)
    (progress : List Shape → Standing → Progress B) (opens : Opens outside opened-held)
    (enters : (later : List Shape) (before : Standing) → StandsFor later outside.known outside.links before → StandsFor later opened-held.known opened-held.links (opened scope before))
    (fresh : (later : List Shape) (before : Standing) → StandsFor later outside.known outside.links before → (name : List ℕ) (number : ℕ) (entry : Declaration)
    → finite.get scope name ≡ Some number → slice_get before.known.declared number ≡ Some entry → has_linkage entry.linkage ≡ false) where
  abbrev pub scope-of : List Shape → Standing → Progress B
  scope-of later before = closed before (progress later (opened scope before))

  opened-shapes : Begins opened-held.known.types.shapes inside.known.types.shapes → Begins outside.known.types.shapes inside.known.types.shapes
  opened-shapes more = subst (λ (table : Table). Begins table.shapes inside.known.types.shapes) opens.types more

  -- what is typed in a scope of its own
  pub scoped : (new : Held) (it : A) → Proceeds Fits view source opened-held inside (Ok it) progress → new.known.types ≡ inside.known.types → IsWithin outside new
      → ((later : List Shape) → Begins inside.known.types.shapes later → (before within : Standing) → StandsFor later outside.known outside.links before
      → StandsFor later inside.known inside.links within → StandsFor later new.known new.links (record within { known = known_behind before.known within.known }))
      → Proceeds Fits view source outside new (Ok it) scope-of
  scoped new it p types around closes = record {
    shapes = subst (λ (table : Table). Begins outside.known.types.shapes table.shapes) (sym types) (opened-shapes p.shapes);
    numbered = subst (λ table. Fits table it) (sym types) p.numbered;
    within = around;
    gives = λ later on before stands lawful.
        let then_on = subst (λ (table : Table). Begins table.shapes later) types on in
        let there = p.gives later then_on (opened scope before) (enters later before stands) (opened-lawful scope before (fresh later before stands) lawful) in
        let kept = remembers-on before (opened scope before) there.0 (opened-remembers scope before) there.2.remembers in
        let below = below-held later outside.known before.known stands.known outside.known.numbers in (
          record there.0 { known = known_behind before.known there.0.known },
          ap (closed before) there.1,
          record {
            stands = closes later then_on before there.0 stands there.2.stands;
            lawful = closed-lawful before there.0 kept below lawful there.2.lawful;
            remembers = closed-remembers before there.0 kept;
          },
        );
  }

  pub scope-fails : (fault : Stop) → Proceeds Fits view source opened-held inside (Err fault) progress → Proceeds Fits view source outside inside (Err fault) scope-of
  scope-fails fault p = record {
    shapes = opened-shapes p.shapes;
    numbered = tt;
    within = tt;
    gives = λ later on before stands lawful.
        fails-closed (view later) (view later) source later inside inside (opened scope before) before before fault (progress later (opened scope before))
        (p.gives later on (opened scope before) (enters later before stands) (opened-lawful scope before (fresh later before stands) lawful));
  }
