-- The beginnings of trails by number: each is another one and a mark.
use Rattle.std.specs.Prelude.{◌≡◌, ℕ, ◌+◌, ◌<◌, true, false, List, [], ◌∷◌, ◌++◌, length, take, slice_get, slice_index_or, Option, Some, None}
use Rattle.std.specs.List.{list_any}
use Rattle.dm_token.specs.Equal.{equal}
use Rattle.dm_token.specs.declared.expansion.Mark.{Mark}
use Rattle.dm_token.specs.declared.expansion.Mark.TheVariants.{Expansion as expansion, Argument as argument}
use Rattle.dm_runs.specs.declared.beginnings.Link.{Link}

abbrev pub link_of : ℕ → Mark → Link
link_of above (expansion definition instance) = record { above = above; is_argument = false; first = definition; second = instance }
link_of above (argument parameter occurrence) = record { above = above; is_argument = true; first = parameter; second = occurrence }

-- this trail is the one with the number and one mark more
pub record IsLonger (trails : List (List Mark)) (above : ℕ) (trail : List Mark) : Type 0 where
  pub outer : List Mark
  pub mark : Mark
  pub known : slice_get trails above ≡ Some outer
  pub longer : trail ≡ outer ++ mark ∷ []

-- the trail with the number is the one that the link says
pub record IsLinked (trails : List (List Mark)) (number : ℕ) (link : Link) : Type 0 where
  pub above : ℕ
  pub outer : List Mark
  pub mark : Mark
  pub is : link ≡ link_of above mark
  pub known : slice_get trails above ≡ Some outer
  pub longer : slice_get trails number ≡ Some (outer ++ mark ∷ [])

-- the trail without marks, and one for each link, no two alike
pub record AreLinked (links : List Link) (trails : List (List Mark)) : Type 0 where
  pub counted : length trails ≡ length links + 1
  pub root : slice_get trails 0 ≡ Some []
  pub linked : (k : ℕ) (link : Link) → slice_get links k ≡ Some link → IsLinked trails (k + 1) link
  pub apart : (i j : ℕ) (trail : List Mark) → slice_get trails i ≡ Some trail → slice_get trails j ≡ Some trail → i ≡ j

-- the numbers of the first marks of a trail, of none on
pub record AreNumbers (trails : List (List Mark)) (trail : List Mark) (numbers : List ℕ) : Type 0 where
  pub counted : length numbers ≡ length trail + 1
  pub known : (i : ℕ) → i < length numbers → slice_get trails (slice_index_or numbers i 0) ≡ Some (take i trail)

-- the answer to what trail is the one below another: its number, or that there is none
abbrev pub IsBelow : List (List Mark) → List Mark → Option ℕ → Type 0
IsBelow trails longer None = list_any (equal longer) trails ≡ false
IsBelow trails longer (Some number) = slice_get trails number ≡ Some longer
