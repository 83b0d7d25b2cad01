-- When the behaviour of one machine is among that of another (5.1.2.3p6): refinement, and that it is a preorder.
use Rattle.std.specs.Prelude.{ℕ, ◌≤◌, List}
use Rattle.dm_meaning.specs.Machines.{Machine, Ends, IsWrong, IsUnfinished}

-- What holds of the runs on one input.
pub record RefinesOn (new old : Machine) (input : List ℕ) : Type 0 where
  -- no run of the new machine is undefined
  pub defined : ¬ IsWrong new input
  -- each ending of the new machine is one of the old
  pub ends : (output : List ℕ) (status : ℕ) → Ends new input output status → Ends old input output status
  -- for each k there is an m such that each unfinished run of the new machine of at least m steps has the output of an unfinished run of
  -- the old one of at least k
  pub goes_on : (k : ℕ) → (m : ℕ) × ((n : ℕ) (output : List ℕ) → m ≤ n → IsUnfinished new input n output → (j : ℕ) × (k ≤ j) × IsUnfinished old input j output)
  -- each unfinished run of the new machine has the output of an unfinished run of the old one
  pub unfinished : (n : ℕ) (output : List ℕ) → IsUnfinished new input n output → (j : ℕ) × IsUnfinished old input j output

-- The new machine refines the old one: this holds for each input on which no run of the old one is undefined.
abbrev pub Refines : Machine → Machine → Type 0
Refines new old = (input : List ℕ) → ¬ IsWrong old input → RefinesOn new old input

-- a machine refines itself
pub refines_itself : (machine : Machine) → Refines machine machine
refines_itself machine input fine = record {
  defined = fine;
  ends = λ output status e. e;
  goes_on = λ k. (k, λ n output long u. (n, long, u));
  unfinished = λ n output u. (n, u);
}

-- what refines a machine that refines another refines that
pub refines_through : (new middle old : Machine) → Refines new middle → Refines middle old → Refines new old
refines_through new middle old first second input fine =
    let below = second input fine in
    let above = first input below.defined in
    record {
      defined = above.defined;
      ends = λ output status e. below.ends output status (above.ends output status e);
      goes_on = λ k.
          let inner = below.goes_on k in
          let outer = above.goes_on inner.0 in (
            outer.0,
            λ n output long u.
                let met = outer.1 n output long u in
                inner.1 met.0 output met.1 met.2,
          );
      unfinished = λ n output u.
          let met = above.unfinished n output u in
          below.unfinished met.0 output met.1;
    }
