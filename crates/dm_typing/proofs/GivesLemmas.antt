-- What the code gives, put together.
use Rattle.std.specs.Prelude.{◌≡◌, ℕ, Bool, true, false, ◌&&◌, if◌then◌else◌, is_some, option_and_then, IsTrue, List, length, map, reverse, Option, Some, None, Result, Err, refl}
use Rattle.std.proofs.Common.{sym, ap, ap₂, ◌∙◌, subst}
use Rattle.dm_token.specs.declared.stop.Stop.{Stop}
use Rattle.dm_token.specs.declared.stop.Stop.TheVariants as stop
use Rattle.dm_type.specs.declared.shape.Shape.{Shape}
use Rattle.dm_type.specs.declared.shape.Struct.{Struct as StructEntry}
use Rattle.dm_type.specs.CTypes.{CType}
use Rattle.dm_type.specs.Tables.{type_of, IsId}
use Rattle.dm_scope.specs.Scopes.{Scopes}
use Rattle.dm_syn.specs.Sources.{Source}
use Rattle.dm_tree.specs.declared.tree.Core.{Core, out-Core}
use Rattle.dm_tree.specs.declared.unit.Declared.{Declared}
use Rattle.dm_tree.specs.Scenes.{target}
use Rattle.dm_tree.specs.Trees.{kind_of}
use Rattle.dm_tree.specs.TypeNumbers.{are_known}
use Rattle.dm_tree.specs.Views.{entries_of}
use Rattle.dm_typing.specs.declared.known.Known.{Known as Held}
use Rattle.dm_typing.specs.Known.{Known, Outcome, given, broken, obeys, if_given}
use Rattle.dm_typing.specs.Conversions.{is_complete, if_complete, complete_target}
use Rattle.dm_typing.specs.Fitting.{IsNumbered}
use Rattle.dm_typing.specs.Views.{Begins, type_over, view_over, known_over, seen, Grows, refusal_at, Gives}
use Rattle.dm_typing.proofs.LaterLemmas.{begins-itself, begins-on, type-later}
use Rattle.dm_typing.proofs.ValueLemmas.{kind-later, size-alone}

-- ---- tests of rules

pub obeyed : {A : Type 0} (test : Bool) (rule at : ℕ) (next : Outcome A) → test ≡ true → obeys test rule at next ≡ next
obeyed test rule at next h = ap (λ b. obeys b rule at next) h

pub disobeyed : {A : Type 0} (test : Bool) (rule at : ℕ) (next : Outcome A) → test ≡ false → obeys test rule at next ≡ broken rule at
disobeyed test rule at next h = ap (λ b. obeys b rule at next) h

pub found-it : {A B : Type 0} (found : Option A) (it : A) (rule at : ℕ) (next : A → Outcome B) → found ≡ Some it → if_given found rule at next ≡ next it
found-it found it rule at next h = ap (λ o. if_given o rule at next) h

pub found-none : {A B : Type 0} (found : Option A) (rule at : ℕ) (next : A → Outcome B) → found ≡ None → if_given found rule at next ≡ broken rule at
found-none found rule at next h = ap (λ o. if_given o rule at next) h

-- a broken rule is refused at its place
pub refused : {A B : Type 0} (view : A → B) (source : Source) (behind : Known) (outcome : Outcome B) (rule at : ℕ) (answer : Stop) → outcome ≡ broken rule at
    → answer ≡ stop.Refused (refusal_at source rule at) → Gives view source behind (Err answer) outcome
refused view source behind outcome rule at answer is same =
    let P : Stop → Type 0 = λ s. Gives view source behind (Err s) outcome in subst P (sym same) (rule, at, is, refl)

-- what is given is so where the definition says the same
pub gives-so : {A B : Type 0} (view : A → B) (source : Source) (behind : Known) (result : Result A Stop) (one other : Outcome B) → one ≡ other
    → Gives view source behind result one → Gives view source behind result other
gives-so view source behind result one other same gives = subst (Gives view source behind result) same gives

-- ---- what is known

abbrev known_from : List Shape → List StructEntry → Scopes → List Declared → List ℕ → List Core → Known
known_from later structs scopes declared begun constants = record {
  types = record { shapes = later; structs = structs };
  scopes = scopes;
  declared = entries_of (record { shapes = later; structs = structs }) declared;
  begun = reverse begun;
  constants = map (view_over later) constants;
}

-- it is the same where only types are numbered
pub grown : (later : List Shape) (old new : Held) → Grows old new → known_over later old ≡ known_over later new
grown later old new g =
    ap (λ x. known_from later x old.scopes old.declared old.begun.items old.constants) (sym g.structs)
    ∙ ap (λ x. known_from later new.types.structs x old.declared old.begun.items old.constants) (sym g.scopes)
    ∙ ap (λ x. known_from later new.types.structs new.scopes x old.begun.items old.constants) (sym g.declared)
    ∙ ap (λ x. known_from later new.types.structs new.scopes new.declared x old.constants) (sym g.begun)
    ∙ ap (λ x. known_from later new.types.structs new.scopes new.declared new.begun.items x) (sym g.constants)

-- it grows by no step, and by one step after the other
pub grows-itself : (held : Held) → Grows held held
grows-itself held = record { shapes = begins-itself held.types.shapes; structs = refl; scopes = refl; declared = refl; begun = refl; constants = refl }

pub grows-on : (a b c : Held) → Grows a b → Grows b c → Grows a c
grows-on a b c first second = record {
  shapes = begins-on a.types.shapes b.types.shapes c.types.shapes first.shapes second.shapes;
  structs = second.structs ∙ first.structs;
  scopes = second.scopes ∙ first.scopes;
  declared = second.declared ∙ first.declared;
  begun = second.begun ∙ first.begun;
  constants = second.constants ∙ first.constants;
}

pub given-so : {A : Type 0} (known behind : Known) (one other : A) → known ≡ behind → one ≡ other → given known one ≡ given behind other
given-so known behind one other k e = ap₂ given k e

-- ---- looks at types

-- whether a type is complete depends on structs alone
size-over : (later : List Shape) (held : Held) (type : CType) → is_complete (known_over later held) type ≡ is_complete (seen held) type
size-over later held type = ap is_some (size-alone held.types later type ∙ sym (size-alone held.types held.types.shapes type))

pub complete-alone : (later : List Shape) (held : Held) (type : CType) → complete_target (known_over later held) type ≡ complete_target (seen held) type
complete-alone later held type = go (target type)
  where
    go : (found : Option CType) → option_and_then (if_complete (known_over later held)) found ≡ option_and_then (if_complete (seen held)) found
    go None = refl
    go (Some to) = ap (λ b. if b then Some to else None) (size-over later held to)

-- what a tree points to, whatever numbers come
pub target-later : (held : Held) (later : List Shape) (core : Core) (to : ℕ) → Begins held.types.shapes later → IsNumbered held.types core
    → Some (type_of held.types to) ≡ complete_target (seen held) (type_of held.types (out-Core core).kind) → IsId held.types to
    → complete_target (known_over later held) (kind_of (view_over later core)) ≡ Some (type_over later to)
target-later held later core to begins known is inside =
    ap (complete_target (known_over later held)) (kind-later held.types.shapes later core begins known)
    ∙ complete-alone later held (type_of held.types (out-Core core).kind)
    ∙ sym is ∙ ap Some (sym (type-later held.types.shapes later to begins inside))

pub target-none : (held : Held) (later : List Shape) (core : Core) → Begins held.types.shapes later → IsNumbered held.types core
    → None ≡ complete_target (seen held) (type_of held.types (out-Core core).kind)
    → complete_target (known_over later held) (kind_of (view_over later core)) ≡ None
target-none held later core begins known is =
    ap (complete_target (known_over later held)) (kind-later held.types.shapes later core begins known)
    ∙ complete-alone later held (type_of held.types (out-Core core).kind)
    ∙ sym is

pub complete-later : (later : List Shape) (held : Held) (one other : CType) → one ≡ other → is_complete (known_over later held) one ≡ is_complete (seen held) other
complete-later later held one other e = ap (is_complete (known_over later held)) e ∙ size-over later held other

-- a test of two types, whatever numbers come
pub both-later : (test : CType → Bool) (shapes later : List Shape) (a b : Core) → Begins shapes later → IsTrue (are_known (length shapes) a) → IsTrue (are_known (length shapes) b)
    → (test (kind_of (view_over later a)) && test (kind_of (view_over later b))) ≡ (test (type_over shapes (out-Core a).kind) && test (type_over shapes (out-Core b).kind))
both-later test shapes later a b begins left right =
    ap (λ t. test t && test (kind_of (view_over later b))) (kind-later shapes later a begins left)
    ∙ ap (λ t. test (type_over shapes (out-Core a).kind) && test t) (kind-later shapes later b begins right)
