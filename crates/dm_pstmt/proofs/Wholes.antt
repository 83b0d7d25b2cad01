-- What is read or made step by step.
use Rattle.std.proofs.Common.{◌≡◌, ◌≤◌, Bool, true, false, List, ◌++◌, length, Option, Some, None, option_map, refl, sym, ap, ◌∙◌, subst, arith, if◌then◌else◌}
use Rattle.std.specs.Prelude.{Result, Ok, Err, IfOk, OnOk, IfSome}
use Rattle.dm_syn.specs.declared.declared.Declared.{Declared}
use Rattle.dm_syn.specs.Sources.{Source}
use Rattle.dm_pexpr.specs.declared.part.Part.{Part}
use Rattle.dm_pexpr.specs.Parsing.{and_then, where_true}
use Rattle.dm_pexpr.specs.Parts.{Kind, IsPart, Gives}

-- a step behind nothing, and behind something
pub then-none : {A B : Type 0} (next : A → Option B) (found : Option A) → found ≡ None → and_then next found ≡ None
then-none next found is = ap (and_then next) is

pub then-is : {A B : Type 0} (next : A → Option B) (found : Option A) (it : A) → found ≡ Some it → and_then next found ≡ next it
then-is next found it is = ap (and_then next) is

pub map-none : {A B : Type 0} (next : A → B) (found : Option A) → found ≡ None → option_map next found ≡ None
map-none next found is = ap (option_map next) is

-- what is read is what was to be read
pub gives-along : {A T : Type 0} (kind : Kind A T) (source : Source) (before behind : List Declared) (found : Option (Part A)) (wanted other : Option T)
    → other ≡ wanted → Gives kind source before behind found wanted → Gives kind source before behind found other
gives-along kind source before behind found wanted other is given = subst (λ it. Gives kind source before behind found it) (sym is) given

-- a tree that is put together
pub whole-part : {A T : Type 0} (kind : Kind A T) (source : Source) (before behind : List Declared) (made : Part A) (tree : T) (wanted : Option T)
    → kind.view made.tree ≡ tree → wanted ≡ Some tree → kind.begins made.tree ≡ kind.first tree → made.height ≡ kind.height tree → made.height ≤ kind.highest → made.after ≡ kind.after tree
    → made.after ≤ length source.tokens → behind ≡ kind.declares tree ++ before → IsPart kind source before behind made wanted
whole-part kind source before behind made tree wanted seen is starts high low ends within scoped =
    record {
      read = is ∙ ap Some (sym seen);
      starts = starts ∙ ap kind.first (sym seen);
      high = high ∙ ap kind.height (sym seen);
      low = low;
      ends = ends ∙ ap kind.after (sym seen);
      within = within;
      scoped = scoped ∙ ap (λ it. kind.declares it ++ before) (sym seen);
    }

-- a tree that is a pass to another
pub pass-part : {A B T U : Type 0} (one : Kind A T) (other : Kind B U) (source : Source) (before behind : List Declared) (part : Part A) (wanted : Option T) (next : T → U) (made : Part B)
    → IsPart one source before behind part wanted
    → other.view made.tree ≡ next (one.view part.tree) → other.begins made.tree ≡ other.first (next (one.view part.tree)) → made.height ≡ part.height → made.after ≡ part.after
    → other.height (next (one.view part.tree)) ≡ one.height (one.view part.tree) → other.after (next (one.view part.tree)) ≡ one.after (one.view part.tree)
    → other.declares (next (one.view part.tree)) ≡ one.declares (one.view part.tree) → one.highest ≤ other.highest
    → IsPart other source before behind made (option_map next wanted)
pass-part one other source before behind part wanted next made p seen starts high ends higher later says far =
    whole-part other source before behind made (next (one.view part.tree)) (option_map next wanted) seen (ap (option_map next) p.read) starts (high ∙ p.high ∙ sym higher)
    (omega (arith, high, p.low, far)) (ends ∙ p.ends ∙ sym later) (subst (λ n. n ≤ length source.tokens) (sym ends) p.within) (p.scoped ∙ ap (λ those. those ++ before) (sym says))

-- what holds of a result where another thing does
pub ok-along : {A E : Type 0} (P Q : A → Type 0) (result : Result A E) → ((it : A) → P it → Q it) → IfOk result P → IfOk result Q
ok-along P Q (Ok it) next h = next it h
ok-along P Q (Err e) next h = tt

pub on-ok-along : {A E : Type 0} (P Q : Type 0) (result : Result A E) → (P → Q) → OnOk result P → OnOk result Q
on-ok-along P Q (Ok it) next h = next h
on-ok-along P Q (Err e) next h = tt

pub some-holds : {A : Type 0} (P : A → Type 0) (found : Option A) (it : A) → found ≡ Some it → IfSome found P → P it
some-holds P found it there h = subst (λ o. IfSome o P) there h
