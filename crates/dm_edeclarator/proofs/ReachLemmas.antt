-- How the steps of the code come to what the definition comes to: what is left to type where the code stands, and what each call leaves.
use Rattle.std.specs.Prelude.{◌≡◌, ℕ, List, Result, Ok, Err, IsErrAnd, refl}
use Rattle.std.proofs.Common.{sym, ap, ◌∙◌, subst}
use Rattle.dm_token.specs.declared.stop.Stop.{Stop}
use Rattle.dm_token.specs.declared.stop.Stop.TheVariants as stop
use Rattle.dm_type.specs.declared.shape.Shape.{Shape}
use Rattle.dm_type.specs.Tables.{Table}
use Rattle.dm_syn.specs.Sources.{Source}
use Rattle.dm_typing.specs.declared.known.Known.{Known as Held}
use Rattle.dm_typing.specs.Known.{Known, Outcome, given, broken, after, with_it}
use Rattle.dm_edeclarator.specs.Steps.{Follows}
use Rattle.dm_typing.specs.Views.{Begins, known_over, refusal_at, Gives, Grows}
use Rattle.dm_typing.proofs.GivesLemmas.{grown}
use Rattle.dm_typing.proofs.LaterLemmas.{begins-itself, begins-on}

-- ---- outcomes

pub after-after : {A B C : Type 0} (outcome : Outcome A) (first : Known → A → Outcome B) (second : Known → B → Outcome C)
    → after outcome (λ known it. after (first known it) second) ≡ after (after outcome first) second
after-after (given known it) first second = refl
after-after (broken rule at) first second = refl

-- ---- answers

-- a call that fails breaks what is behind it
pub fails-after : {A B C D : Type 0} (view : A → B) (seen : C → D) (source : Source) (behind known : Known) (fault : Stop) (outcome : Outcome B) (next : Known → B → Outcome D)
    → Gives view source behind (Err fault) outcome → Gives seen source known (Err fault) (after outcome next)
fails-after view seen source behind known stop.Memory outcome next g = tt
fails-after view seen source behind known (stop.Refused refusal) outcome next g = (g.0, g.1, ap (λ o. after o next) g.2, g.3)
fails-after view seen source behind known (stop.Limit limit) outcome next g = absurd g
fails-after view seen source behind known (stop.ReadFault file) outcome next g = absurd g

pub fails-with : {A B C D : Type 0} (view : A → B) (seen : C → D) (source : Source) (behind known : Known) (fault : Stop) (outcome : Outcome B) (made : Known → B → D)
    → Gives view source behind (Err fault) outcome → Gives seen source known (Err fault) (with_it outcome made)
fails-with view seen source behind known stop.Memory outcome made g = tt
fails-with view seen source behind known (stop.Refused refusal) outcome made g = (g.0, g.1, ap (λ o. with_it o made) g.2, g.3)
fails-with view seen source behind known (stop.Limit limit) outcome made g = absurd g
fails-with view seen source behind known (stop.ReadFault file) outcome made g = absurd g

-- ---- what is left

-- where the code stands, the whole comes to what is left
pub record Reaches {A : Type 0} (old now : Held) (whole left : List Shape → Outcome A) : Type 0 where
  pub shapes : Begins old.types.shapes now.types.shapes
  pub is : (later : List Shape) → Begins now.types.shapes later → whole later ≡ left later

pub begins : {A : Type 0} (held : Held) (whole left : List Shape → Outcome A) → ((later : List Shape) → whole later ≡ left later) → Reaches held held whole left
begins held whole left e = record { shapes = begins-itself held.types.shapes; is = λ later on. e later }

pub says : {A : Type 0} (old now : Held) (whole left other : List Shape → Outcome A) → Reaches old now whole left
    → ((later : List Shape) → Begins now.types.shapes later → left later ≡ other later) → Reaches old now whole other
says old now whole left other r e = record { shapes = r.shapes; is = λ later on. r.is later on ∙ e later on }

-- types are numbered in between
pub grows : {A : Type 0} (old now new : Held) (whole : List Shape → Outcome A) (run : List Shape → Known → Outcome A) → Grows now new
    → Reaches old now whole (λ later. run later (known_over later now)) → Reaches old new whole (λ later. run later (known_over later new))
grows old now new whole run g r = record {
  shapes = begins-on old.types.shapes now.types.shapes new.types.shapes r.shapes g.shapes;
  is = λ later on. r.is later (begins-on now.types.shapes new.types.shapes later g.shapes on) ∙ ap (run later) (grown later now new g);
}

module _ {A B D : Type 0} (Fits : Table → A → Type 0) (view : List Shape → A → B) (source : Source) (old now new : Held) (whole : List Shape → Outcome D) where
  -- a call that succeeds
  pub passes : (one : List Shape → Outcome B) (next : List Shape → Known → B → Outcome D) (it : A) → Reaches old now whole (λ later. after (one later) (next later))
      → Follows Fits view source now new (Ok it) one → Reaches old new whole (λ later. next later (known_over later new) (view later it))
  passes one next it r f = record {
    shapes = begins-on old.types.shapes now.types.shapes new.types.shapes r.shapes f.shapes;
    is = λ later on. r.is later (begins-on now.types.shapes new.types.shapes later f.shapes on) ∙ ap (λ o. after o (next later)) (f.gives later on);
  }

  pub passes-with : (one : List Shape → Outcome B) (made : List Shape → Known → B → D) (it : A) → Reaches old now whole (λ later. with_it (one later) (made later))
      → Follows Fits view source now new (Ok it) one → Reaches old new whole (λ later. given (known_over later new) (made later (known_over later new) (view later it)))
  passes-with one made it r f = record {
    shapes = begins-on old.types.shapes now.types.shapes new.types.shapes r.shapes f.shapes;
    is = λ later on. r.is later (begins-on now.types.shapes new.types.shapes later f.shapes on) ∙ ap (λ o. with_it o (made later)) (f.gives later on);
  }

  module _ {C : Type 0} (FitsAll : Table → C → Type 0) (seen : List Shape → C → D) where
    -- a call that fails
    pub fails : (one : List Shape → Outcome B) (next : List Shape → Known → B → Outcome D) (fault : Stop) → Reaches old now whole (λ later. after (one later) (next later))
        → Follows Fits view source now new (Err fault) one → Follows FitsAll seen source old new (Err fault) whole
    fails one next fault r f = record {
      shapes = begins-on old.types.shapes now.types.shapes new.types.shapes r.shapes f.shapes;
      numbered = tt;
      gives = λ later on. subst (λ o. Gives (seen later) source (known_over later new) (Err fault) o)
          (sym (r.is later (begins-on now.types.shapes new.types.shapes later f.shapes on)))
          (fails-after (view later) (seen later) source (known_over later new) (known_over later new) fault (one later) (next later) (f.gives later on));
    }

    pub fails-making : (one : List Shape → Outcome B) (made : List Shape → Known → B → D) (fault : Stop) → Reaches old now whole (λ later. with_it (one later) (made later))
        → Follows Fits view source now new (Err fault) one → Follows FitsAll seen source old new (Err fault) whole
    fails-making one made fault r f = record {
      shapes = begins-on old.types.shapes now.types.shapes new.types.shapes r.shapes f.shapes;
      numbered = tt;
      gives = λ later on. subst (λ o. Gives (seen later) source (known_over later new) (Err fault) o)
          (sym (r.is later (begins-on now.types.shapes new.types.shapes later f.shapes on)))
          (fails-with (view later) (seen later) source (known_over later new) (known_over later new) fault (one later) (made later) (f.gives later on));
    }

module _ {C D : Type 0} (Fits : Table → C → Type 0) (seen : List Shape → C → D) (source : Source) (old now new : Held) (whole left : List Shape → Outcome D) (r : Reaches old now whole left) where
  -- the last call gives the whole
  pub ends : (result : Result C Stop) → Follows Fits seen source now new result left → Follows Fits seen source old new result whole
  ends result f = record {
    shapes = begins-on old.types.shapes now.types.shapes new.types.shapes r.shapes f.shapes;
    numbered = f.numbered;
    gives = λ later on. subst (λ o. Gives (seen later) source (known_over later new) result o) (sym (r.is later (begins-on now.types.shapes new.types.shapes later f.shapes on))) (f.gives later on);
  }

module _ {C D : Type 0} (Fits : Table → C → Type 0) (seen : List Shape → C → D) (source : Source) (old new : Held) (whole : List Shape → Outcome D) where
  -- nothing is left
  pub done : (it : C) → Reaches old new whole (λ later. given (known_over later new) (seen later it)) → Fits new.types it → Follows Fits seen source old new (Ok it) whole
  done it r fits = record { shapes = r.shapes; numbered = fits; gives = r.is }

  -- a rule is broken
  pub breaks : (rule at : ℕ) (fault : Stop) → Reaches old new whole (λ later. broken rule at) → fault ≡ stop.Refused (refusal_at source rule at) → Follows Fits seen source old new (Err fault) whole
  breaks rule at fault r same =
      subst (λ s. Follows Fits seen source old new (Err s) whole) (sym same) (record { shapes = r.shapes; numbered = tt; gives = λ later on. (rule, at, r.is later on, refl) })

  -- no memory
  pub starves : (fault : Stop) → Begins old.types.shapes new.types.shapes → fault ≡ stop.Memory → Follows Fits seen source old new (Err fault) whole
  starves fault more same = subst (λ s. Follows Fits seen source old new (Err s) whole) (sym same) (record { shapes = more; numbered = tt; gives = λ later on. tt })

-- ---- faults that are handed on

module _ {C D : Type 0} (Fits : Table → C → Type 0) (seen : List Shape → C → D) (source : Source) (old new : Held) (whole : List Shape → Outcome D) where
  pub relays : (result : Result C Stop) (fault : Stop) → IsErrAnd result (λ e. e ≡ fault) → Follows Fits seen source old new (Err fault) whole → Follows Fits seen source old new result whole
  relays (Ok it) fault handed f = absurd handed
  relays (Err e) fault handed f = subst (λ s. Follows Fits seen source old new (Err s) whole) (sym handed) f

  pub runs-out : (result : Result C Stop) → Begins old.types.shapes new.types.shapes → IsErrAnd result (λ e. e ≡ stop.Memory) → Follows Fits seen source old new result whole
  runs-out (Ok it) more handed = absurd handed
  runs-out (Err e) more handed = starves Fits seen source old new whole e more handed

-- ---- one call, and what is made of what it gives

module _ {C D : Type 0} (Fits : Table → C → Type 0) (seen : List Shape → C → D) (source : Source) (old new : Held) (whole other : List Shape → Outcome D) (e : (later : List Shape) → whole later ≡ other later) where
  pub alike : (result : Result C Stop) → Follows Fits seen source old new result other → Follows Fits seen source old new result whole
  alike result f = record {
    shapes = f.shapes;
    numbered = f.numbered;
    gives = λ later on. subst (λ o. Gives (seen later) source (known_over later new) result o) (sym (e later)) (f.gives later on);
  }

module _ {A B C D : Type 0} (Fits : Table → A → Type 0) (view : List Shape → A → B) (FitsAll : Table → C → Type 0) (seen : List Shape → C → D) (source : Source) (old new : Held)
    (whole : List Shape → Outcome D) (one : List Shape → Outcome B) (made : List Shape → B → D) (e : (later : List Shape) → whole later ≡ with_it (one later) (λ behind it. made later it)) where
  pub with-made : (it : A) (that : C) → Follows Fits view source old new (Ok it) one → ((later : List Shape) → Begins new.types.shapes later → seen later that ≡ made later (view later it)) → FitsAll new.types that
      → Follows FitsAll seen source old new (Ok that) whole
  with-made it that f is fits = record {
    shapes = f.shapes;
    numbered = fits;
    gives = λ later on. e later ∙ ap (λ o. with_it o (λ behind x. made later x)) (f.gives later on) ∙ ap (given (known_over later new)) (sym (is later on));
  }

  pub with-fails : (fault : Stop) → Follows Fits view source old new (Err fault) one → Follows FitsAll seen source old new (Err fault) whole
  with-fails fault f = fails-making Fits view source old old new whole FitsAll seen one (λ later behind it. made later it) fault (begins old whole (λ later. with_it (one later) (λ behind it. made later it)) e) f
