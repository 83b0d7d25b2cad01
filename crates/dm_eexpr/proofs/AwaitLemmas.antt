-- What is typed next, and what is typed with what it gives: with the calls of a function bound once, each way in which it ends is a line.
--     Awaits B old now whole      where the code stands, the whole comes to a call that gives a B, and what is typed with it
--     Pair, Triple      the whole begins with two calls, or three
--     Makes B held whole      the whole is made of what one call gives
--     call-fails, call-passes, call-ends, call-starves      the call fails; it succeeds; the rest is a call too; there is no memory for what it gave
--     makes-fails, makes-made      the same of what is made
use Rattle.std.specs.Prelude.{◌≡◌, List, ◌∷◌, [], ◌++◌, map, Result, Ok, Err, IfOk, IsErrAnd}
use Rattle.std.proofs.Common.{sym, ap, ◌∙◌}
use Rattle.std.proofs.lemmas.List.{map-append}
use Rattle.dm_token.specs.declared.stop.Stop.{Stop}
use Rattle.dm_token.specs.declared.stop.Stop.TheVariants as stop
use Rattle.dm_type.specs.declared.shape.Shape.{Shape}
use Rattle.dm_type.specs.Tables.{Table}
use Rattle.dm_syn.specs.Sources.{Source}
use Rattle.dm_tree.specs.declared.tree.Core.{Core}
use Rattle.dm_tree.specs.Trees.{Tree}
use Rattle.dm_typing.specs.declared.known.Known.{Known as Held}
use Rattle.dm_typing.specs.Known.{Known, Outcome, given, after, with_it}
use Rattle.dm_typing.specs.Fitting.{IsNumbered}
use Rattle.dm_typing.specs.Views.{Begins, view_over, known_over, Grows}
use Rattle.dm_edeclarator.specs.Steps.{Follows}
use Rattle.dm_edeclarator.proofs.ReachLemmas.{Reaches, begins, says, grows, passes, fails, ends, done, relays, runs-out, with-made, with-fails}
use Rattle.dm_eexpr.proofs.LoopLemmas.{onward}

-- ---- one call

pub record Awaits {D : Type 0} (B : Type 0) (old now : Held) (whole : List Shape → Outcome D) : Type 0 where
  pub one : List Shape → Outcome B
  pub next : List Shape → Known → B → Outcome D
  pub reached : Reaches old now whole (λ later. after (one later) (next later))

module _ {A B C D : Type 0} {Fits : Table → A → Type 0} {view : List Shape → A → B} {FitsAll : Table → C → Type 0} {seen : List Shape → C → D} {source : Source} {old now new : Held} {whole : List Shape → Outcome D}
    {fault : Stop} {result : Result C Stop} where
  pub call-fails : (call : Awaits B old now whole) → Follows Fits view source now new (Err fault) call.one → IsErrAnd result (λ e. e ≡ fault) → Follows FitsAll seen source old new result whole
  call-fails call f handed = relays FitsAll seen source old new whole result fault handed (fails Fits view source old now new whole FitsAll seen call.one call.next fault call.reached f)

module _ {A B D : Type 0} {Fits : Table → A → Type 0} {view : List Shape → A → B} {source : Source} {old now new : Held} {whole : List Shape → Outcome D} {it : A} where
  pub call-passes : (call : Awaits B old now whole) → Follows Fits view source now new (Ok it) call.one → Reaches old new whole (λ later. call.next later (known_over later new) (view later it))
  call-passes call f = passes Fits view source old now new whole call.one call.next it call.reached f

module _ {A B C D : Type 0} {Fits : Table → A → Type 0} {view : List Shape → A → B} {FitsAll : Table → C → Type 0} {seen : List Shape → C → D} {source : Source} {old now new final : Held} {whole : List Shape → Outcome D}
    {it : A} {result : Result C Stop} where
  pub call-ends : (call : Awaits B old now whole) → Follows Fits view source now new (Ok it) call.one → Follows FitsAll seen source new final result (λ later. call.next later (known_over later new) (view later it))
      → Follows FitsAll seen source old final result whole
  call-ends call f g = ends FitsAll seen source old new final whole (λ later. call.next later (known_over later new) (view later it)) (call-passes call f) result g

module _ {A B C D : Type 0} {Fits : Table → A → Type 0} {view : List Shape → A → B} {FitsAll : Table → C → Type 0} {seen : List Shape → C → D} {source : Source} {old now new : Held} {whole : List Shape → Outcome D}
    {it : A} {result : Result C Stop} where
  pub call-starves : (call : Awaits B old now whole) → Follows Fits view source now new (Ok it) call.one → IsErrAnd result (λ e. e ≡ stop.Memory) → Follows FitsAll seen source old new result whole
  call-starves call f handed = runs-out FitsAll seen source old new whole result (call-passes call f).shapes handed

-- ---- two calls

pub record Pair {F : Type 0} (B D : Type 0) (old now : Held) (whole : List Shape → Outcome F) : Type 0 where
  pub one : List Shape → Outcome B
  pub two : List Shape → Known → Outcome D
  pub next : List Shape → Known → B → D → Outcome F
  pub reached : Reaches old now whole (λ later. after (one later) (λ then_known first. after (two later then_known) (λ behind second. next later behind first second)))

abbrev pub first-of : {B D F : Type 0} {old now : Held} {whole : List Shape → Outcome F} → Pair B D old now whole → Awaits B old now whole
first-of pair = record {
  one = pair.one;
  next = λ later then_known first. after (pair.two later then_known) (λ behind second. pair.next later behind first second);
  reached = pair.reached;
}

module _ {A B D F : Type 0} {Fits : Table → A → Type 0} {view : List Shape → A → B} {source : Source} {old now new : Held} {whole : List Shape → Outcome F} {it : A} where
  abbrev pub second-of : (pair : Pair B D old now whole) → Follows Fits view source now new (Ok it) pair.one → Awaits D old new whole
  second-of pair f = record {
    one = λ later. pair.two later (known_over later new);
    next = λ later behind second. pair.next later behind (view later it) second;
    reached = call-passes (first-of pair) f;
  }

-- ---- three calls

pub record Triple {G : Type 0} (B D E : Type 0) (old now : Held) (whole : List Shape → Outcome G) : Type 0 where
  pub one : List Shape → Outcome B
  pub two : List Shape → Known → Outcome D
  pub three : List Shape → Known → Outcome E
  pub next : List Shape → Known → B → D → E → Outcome G
  pub reached : Reaches old now whole (λ later. after (one later) (λ then_known first. after (two later then_known) (λ then_more second. after (three later then_more) (λ behind third. next later behind first second third))))

abbrev pub first-of-three : {B D E G : Type 0} {old now : Held} {whole : List Shape → Outcome G} → Triple B D E old now whole → Awaits B old now whole
first-of-three triple = record {
  one = triple.one;
  next = λ later then_known first. after (triple.two later then_known) (λ then_more second. after (triple.three later then_more) (λ behind third. triple.next later behind first second third));
  reached = triple.reached;
}

module _ {A B D E G : Type 0} {Fits : Table → A → Type 0} {view : List Shape → A → B} {source : Source} {old now new : Held} {whole : List Shape → Outcome G} {it : A} where
  abbrev pub others-of : (triple : Triple B D E old now whole) → Follows Fits view source now new (Ok it) triple.one → Pair D E old new whole
  others-of triple f = record {
    one = λ later. triple.two later (known_over later new);
    two = triple.three;
    next = λ later behind second third. triple.next later behind (view later it) second third;
    reached = call-passes (first-of-three triple) f;
  }

-- ---- what is made of what one call gives

pub record Makes {D : Type 0} (B : Type 0) (held : Held) (whole : List Shape → Outcome D) : Type 0 where
  pub one : List Shape → Outcome B
  pub made : List Shape → B → D
  pub is : (later : List Shape) → whole later ≡ with_it (one later) (λ behind it. made later it)

module _ {A B C D : Type 0} {Fits : Table → A → Type 0} {view : List Shape → A → B} {FitsAll : Table → C → Type 0} {seen : List Shape → C → D} {source : Source} {held new : Held} {whole : List Shape → Outcome D}
    {fault : Stop} {result : Result C Stop} where
  pub makes-fails : (makes : Makes B held whole) → Follows Fits view source held new (Err fault) makes.one → IsErrAnd result (λ e. e ≡ fault) → Follows FitsAll seen source held new result whole
  makes-fails makes f handed = relays FitsAll seen source held new whole result fault handed (with-fails Fits view FitsAll seen source held new whole makes.one makes.made makes.is fault f)

module _ {A B C D : Type 0} {Fits : Table → A → Type 0} {view : List Shape → A → B} {FitsAll : Table → C → Type 0} {seen : List Shape → C → D} {source : Source} {held new : Held} {whole : List Shape → Outcome D}
    {it : A} {that : C} where
  pub makes-made : (makes : Makes B held whole) → Follows Fits view source held new (Ok it) makes.one → ((later : List Shape) → Begins new.types.shapes later → seen later that ≡ makes.made later (view later it)) → FitsAll new.types that
      → Follows FitsAll seen source held new (Ok that) whole
  makes-made makes f is fits = with-made Fits view FitsAll seen source held new whole makes.one makes.made makes.is it that f is fits

-- ---- a tree that needs no call

pub tree-made : {source : Source} {held new : Held} {whole : List Shape → Outcome Tree} (tree : Tree) (made : Core) → ((later : List Shape) → whole later ≡ given (known_over later held) tree) → Grows held new
    → IsNumbered new.types made → ((later : List Shape) → Begins new.types.shapes later → view_over later made ≡ tree) → Follows IsNumbered view_over source held new (Ok made) whole
tree-made {source = source} {held = held} {new = new} {whole = whole} tree made e g numbered is =
    done IsNumbered view_over source held new whole made
    (says held new whole (λ later. given (known_over later new) tree) (λ later. given (known_over later new) (view_over later made))
    (grows held held new whole (λ later known. given known tree) g (begins held whole (λ later. given (known_over later held) tree) e))
    (λ later on. ap (given (known_over later new)) (sym (is later on))))
    numbered

-- ---- lists that grow

-- behind what so many calls gave, one more is put
pub onward-pushed : {A B : Type 0} {old new : Held} {whole : List Shape → Outcome (List B)} (view : List Shape → A → B) (rest : List Shape → Outcome (List B)) (list pushed : List A) (it : A) → pushed ≡ list ++ it ∷ []
    → Reaches old new whole (λ later. onward (map (view later) list ++ view later it ∷ []) (rest later)) → Reaches old new whole (λ later. onward (map (view later) pushed) (rest later))
onward-pushed {old = old} {new = new} {whole = whole} view rest list pushed it e r =
    says old new whole (λ later. onward (map (view later) list ++ view later it ∷ []) (rest later)) (λ later. onward (map (view later) pushed) (rest later)) r
    (λ later on. ap (λ all. onward all (rest later)) (sym (ap (map (view later)) e ∙ map-append (view later) list (it ∷ []))))
