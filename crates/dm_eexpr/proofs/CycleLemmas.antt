-- Calls in their order, and the values of what is typed.
use Rattle.std.specs.Prelude.{◌≡◌, List, Result, Ok, Err, refl, IfOk}
use Rattle.std.proofs.Common.{sym, ap}
use Rattle.dm_token.specs.declared.stop.Stop.{Stop}
use Rattle.dm_type.specs.declared.shape.Shape.{Shape}
use Rattle.dm_type.specs.Tables.{Table}
use Rattle.dm_syn.specs.Sources.{Source}
use Rattle.dm_tree.specs.declared.tree.Core.{Core}
use Rattle.dm_tree.specs.Trees.{Tree}
use Rattle.dm_typing.specs.declared.known.Known.{Known as Held}
use Rattle.dm_typing.specs.Known.{Known, Outcome, given, broken, after, with_it}
use Rattle.dm_typing.specs.Conversions.{as_value}
use Rattle.dm_typing.specs.Fitting.{IsNumbered}
use Rattle.dm_edeclarator.specs.Steps.{Follows}
use Rattle.dm_eexpr.specs.Parts.{valued}
use Rattle.dm_typing.specs.Views.{Begins, view_over, known_over, Grows}
use Rattle.dm_edeclarator.proofs.ReachLemmas.{begins, says, grows, passes, passes-with, fails, ends, done}

-- ---- values

-- what is typed with a value is typed with the tree whose value it is
pub after-valued : {A : Type 0} (outcome : Outcome Tree) (next : Known → Tree → Outcome A) → after outcome (λ known tree. next known (as_value tree)) ≡ after (valued outcome) next
after-valued (given known tree) next = refl
after-valued (broken rule at) next = refl

-- ---- one call, and what is typed with what it gives

module _ {A B C D : Type 0} (Fits : Table → A → Type 0) (view : List Shape → A → B) (FitsAll : Table → C → Type 0) (seen : List Shape → C → D) (source : Source) (old now new : Held)
    (whole : List Shape → Outcome D) (one : List Shape → Known → Outcome B) (op : List Shape → Known → B → Outcome D)
    (e : (later : List Shape) → whole later ≡ after (one later (known_over later old)) (op later)) where
  pub single-fails : (fault : Stop) → Follows Fits view source old new (Err fault) (λ later. one later (known_over later old)) → Follows FitsAll seen source old new (Err fault) whole
  single-fails fault f = fails Fits view source old old new whole FitsAll seen (λ later. one later (known_over later old)) op fault (begins old whole (λ later. after (one later (known_over later old)) (op later)) e) f

  pub single-ends : (it : A) (result : Result C Stop) → Follows Fits view source old now (Ok it) (λ later. one later (known_over later old))
      → Follows FitsAll seen source now new result (λ later. op later (known_over later now) (view later it)) → Follows FitsAll seen source old new result whole
  single-ends it result f g =
      ends FitsAll seen source old now new whole (λ later. op later (known_over later now) (view later it))
      (passes Fits view source old old now whole (λ later. one later (known_over later old)) op it (begins old whole (λ later. after (one later (known_over later old)) (op later)) e) f) result g

-- ---- values

-- two values in the place of two trees
pub two-valued : {A : Type 0} (one : Outcome Tree) (two : Known → Outcome Tree) (op : Known → Tree → Tree → Outcome A)
    → after one (λ then_known first. after (two then_known) (λ behind second. op behind (as_value first) (as_value second)))
    ≡ after (valued one) (λ then_known first. after (valued (two then_known)) (λ behind second. op behind first second))
two-valued (broken rule at) two op = refl
two-valued (given then_known first) two op = after-valued (two then_known) (λ behind second. op behind (as_value first) second)

-- a value behind anything
pub second-valued : {A B : Type 0} (one : Outcome B) (two : Known → Outcome Tree) (op : Known → B → Tree → Outcome A)
    → after one (λ then_known first. after (two then_known) (λ behind second. op behind first (as_value second)))
    ≡ after one (λ then_known first. after (valued (two then_known)) (λ behind second. op behind first second))
second-valued (broken rule at) two op = refl
second-valued (given then_known first) two op = after-valued (two then_known) (λ behind second. op behind first second)

-- three values
pub three-valued : {A : Type 0} (one : Outcome Tree) (two three : Known → Outcome Tree) (op : Known → Tree → Tree → Tree → Outcome A)
    → after one (λ then_known first. after (two then_known) (λ then_more second. after (three then_more) (λ behind third. op behind (as_value first) (as_value second) (as_value third))))
    ≡ after (valued one) (λ then_known first. after (valued (two then_known)) (λ then_more second. after (valued (three then_more)) (λ behind third. op behind first second third)))
three-valued (broken rule at) two three op = refl
three-valued (given then_known first) two three op = two-valued (two then_known) three (λ behind second third. op behind (as_value first) second third)

-- a tree is typed, and its value taken
module _ (source : Source) (old now new : Held) (one : List Shape → Outcome Tree) where
  pub value-made : (tree made : Core) → Follows IsNumbered view_over source old now (Ok tree) one → Grows now new → IsNumbered new.types made
      → ((later : List Shape) → Begins new.types.shapes later → view_over later made ≡ as_value (view_over later tree)) → Follows IsNumbered view_over source old new (Ok made) (λ later. valued (one later))
  value-made tree made f g numbered is =
      done IsNumbered view_over source old new (λ later. valued (one later)) made
      (says old new (λ later. valued (one later)) (λ later. given (known_over later new) (as_value (view_over later tree))) (λ later. given (known_over later new) (view_over later made))
      (grows old now new (λ later. valued (one later)) (λ later known. given known (as_value (view_over later tree))) g
      (passes-with IsNumbered view_over source old old now (λ later. valued (one later)) one (λ later behind tree. as_value tree) tree
      (begins old (λ later. valued (one later)) (λ later. with_it (one later) (λ behind tree. as_value tree)) (λ later. refl)) f))
      (λ later on. ap (given (known_over later new)) (sym (is later on))))
      numbered

-- ---- what is given

-- what holds of what is given, if anything is
pub if-ok : {A E : Type 0} (P Q : A → Type 0) (result : Result A E) → ((it : A) → P it → Q it) → IfOk result P → IfOk result Q
if-ok P Q (Ok it) h holds = h it holds
if-ok P Q (Err fault) h holds = tt
