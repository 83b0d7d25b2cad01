-- What the edit of a macro without a parameter list puts in (6.10.3p9).
--     IsNoFunction added      nothing, an enumerator, or an object that is const
use Rattle.dm_agree.specs.Agreement.{Added, nothing, added_function, added_enumerator, added_constant}

abbrev pub IsNoFunction : Added → Type 0
IsNoFunction nothing = Unit {0}
IsNoFunction (added_enumerator d value) = Unit {0}
IsNoFunction (added_constant d value) = Unit {0}
IsNoFunction (added_function f parameters body) = ⊥
