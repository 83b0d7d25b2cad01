-- States in which the objects that declarations name are alive (6.2.4p2, p5).
--     in_use state      the numbers of the objects that declarations name, in each function that is running and in static storage
--     TasksNest objects tasks      what is left to do goes back only to objects that were named before
--     IsLivingState state      these objects are alive, and no two are one
use Rattle.std.specs.Prelude.{◌≡◌, ℕ, List, [], ◌∷◌, ◌++◌}
use Rattle.dm_meaning.specs.Among.{IsAmong}
use Rattle.dm_meaning.specs.Lifetimes.{IsAlive, numbers_of}
use Rattle.dm_meaning.specs.Memory.{Memory}
use Rattle.dm_meaning.specs.Operations.{Objects}
use Rattle.dm_meaning.specs.States.{Task, begins, declares, initials, evaluates, again, tests, ends, ends_switch, leaves, skips, hands_back, Caller, State}

-- the objects of the functions that wait, and then others
abbrev pub callers_then : List Caller → List ℕ → List ℕ
callers_then [] others = others
callers_then (caller ∷ callers) others = numbers_of caller.frame.objects ++ callers_then callers others

abbrev pub in_use : State → List ℕ
in_use state = numbers_of state.frame.objects ++ callers_then state.callers (numbers_of state.statics)

abbrev pub AreAlive : Memory → List ℕ → Type 0
AreAlive memory [] = Unit {0}
AreAlive memory (n ∷ ns) = IsAlive memory n × AreAlive memory ns

abbrev pub AreApart : List ℕ → Type 0
AreApart [] = Unit {0}
AreApart (n ∷ ns) = (IsAmong n ns → ⊥) × AreApart ns

-- some objects have been named since
abbrev pub IsWithin : Objects → Objects → Type 0
IsWithin saved objects = (front : Objects) × (objects ≡ front ++ saved)

abbrev pub TasksNest : Objects → List Task → Type 0
TasksNest objects [] = Unit {0}
TasksNest objects (begins tree ∷ rest) = TasksNest objects rest
TasksNest objects (declares declarator trees ∷ rest) = TasksNest objects rest
TasksNest objects (initials at kind initialiser trees ∷ rest) = TasksNest objects rest
TasksNest objects (evaluates place run use_of ∷ rest) = TasksNest objects rest
TasksNest objects (again saved loop ∷ rest) = IsWithin saved objects × TasksNest saved rest
TasksNest objects (tests saved loop ∷ rest) = IsWithin saved objects × TasksNest saved rest
TasksNest objects (ends saved ∷ rest) = IsWithin saved objects × TasksNest saved rest
TasksNest objects (ends_switch saved ∷ rest) = IsWithin saved objects × TasksNest saved rest
TasksNest objects (leaves ∷ rest) = TasksNest objects rest
TasksNest objects (skips ∷ rest) = TasksNest objects rest
TasksNest objects (hands_back value ∷ rest) = TasksNest objects rest

abbrev pub CallersNest : List Caller → Type 0
CallersNest [] = Unit {0}
CallersNest (caller ∷ callers) = TasksNest caller.frame.objects caller.frame.tasks × CallersNest callers

pub record IsLivingState (state : State) : Type 0 where
  pub alive : AreAlive state.world.memory (in_use state)
  pub apart : AreApart (in_use state)
  pub nests : TasksNest state.frame.objects state.frame.tasks
  pub callers : CallersNest state.callers
