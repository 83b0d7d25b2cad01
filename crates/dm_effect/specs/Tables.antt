-- What a table of a unit's quiet functions says.
--     joins quiet d form      an external declaration makes the function of a number quiet, where those that pass are so before it
--     IsTable unit since      from which token on each function is quiet
use Rattle.std.specs.Prelude.{◌≡◌, ℕ, Bool, false, ◌||◌, ◌&&◌, ◌==◌, nat_le, List, map, take_while, Option}
use denote.Param.Weighed.{most}
use Rattle.dm_type.specs.Tables.{Table}
use Rattle.dm_tree.specs.declared.unit.CoreExternal.{CoreExternal}
use Rattle.dm_tree.specs.declared.unit.CoreUnit.{CoreUnit}
use Rattle.dm_tree.specs.Units.{ExternalForm, declares, defines_function}
use Rattle.dm_tree.specs.Views.{view_of_external}
use Rattle.dm_effect.specs.Questions.{is_quiet_since}
use Rattle.dm_effect.specs.Quiet.{ends_before, is_one_of, quiet_functions, returns_quietly}

abbrev pub joins : (ℕ → Bool) → ℕ → ExternalForm → Bool
joins quiet d (declares declarators trees) = false
joins quiet d (defines_function f parameters body) = f == d && returns_quietly quiet body

-- the functions that are quiet at a token are those that are quiet behind the external declarations that end before it
pub record AreSince (externals : List CoreExternal) (since : List (Option ℕ)) : Type 0 where
  pub same : (types : Table) (token d : ℕ) → is_quiet_since since token d ≡ is_one_of (quiet_functions (take_while (ends_before token) (map (view_of_external types) externals))) d

abbrev pub IsTable : CoreUnit → List (Option ℕ) → Type 0
IsTable one since = AreSince one.externals since

-- the first token behind all of some external declarations
abbrev pub end_of : List CoreExternal → ℕ
end_of externals = most (λ (one : CoreExternal). one.span.after) externals

-- one more external declaration, where it and those before it end before the token
pub record Enters (old : List (Option ℕ)) (token : ℕ) (one : CoreExternal) (new : List (Option ℕ)) : Type 0 where
  pub same : (types : Table) (later d : ℕ) → is_quiet_since new later d ≡ (is_quiet_since old later d || (nat_le token later && joins (is_quiet_since old token) d (view_of_external types one).form))
