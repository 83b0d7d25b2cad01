-- How an argument's tokens come to one of its parameter's places.
use Rattle.std.specs.Prelude.{◌≡◌, ◌<◌, List, ◌++◌, length}
use Rattle.dm_token.specs.declared.expansion.Mark.{Mark}
use Rattle.dm_expand.specs.Items.{Item}
use Rattle.dm_expand.specs.Trails.{past}

-- the trail of the macro's name, and that trail with the marks of the expansion and of the argument
pub record Way : Type 0 where
  pub name : List Mark
  pub base : List Mark

abbrev pub way_of : List Mark → List Mark → Way
way_of name base = record { name = name; base = base }

-- what becomes of a token's trail
abbrev pub led : Way → List Mark → List Mark
led way trail = way.base ++ past way.name trail

-- what becomes of a token
abbrev pub moved : Way → Item → Item
moved way item = record item { trail = led way item.trail }

-- marks in front of a trail become these, whatever is behind them
abbrev pub LeadsTo : Way → List Mark → List Mark → Type 0
LeadsTo way marks became = (behind : List Mark) → led way (marks ++ behind) ≡ became ++ behind

-- what a way keeps of what was led on it last
abbrev pub IsKept : List Mark → List Mark → List Mark → List Mark → List Mark → List Mark → List Mark → Type 0
IsKept name base first last left last_marks became =
    (0 < length base) × (first ≡ base) × (left ≡ past name last) × (0 < length last_marks → LeadsTo (way_of name base) last_marks became)
