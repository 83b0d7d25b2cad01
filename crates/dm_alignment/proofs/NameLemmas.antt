-- What is told of names by a fact of which only is known that it holds.
use Rattle.std.proofs.Common.{◌≡◌, ℕ, List}
use Rattle.std.proofs.Math.Logic.{∥∥₁_elim}
use Rattle.std.specs.Coded.{codes}
use Rattle.dm_names.specs.contracts.identifier.Entered as entered
use Rattle.dm_names.specs.declared.identifier.Entered.{Entered}

pub same-count : {Fact : Type 0} → ∥ Fact ∥₁ → (a b : ℕ) → (Fact → a ≡ b) → a ≡ b
same-count holds a b told = ∥∥₁_elim holds (hlevel codes) told

pub same-entered : {Fact : Type 0} → ∥ Fact ∥₁ → (a b : List Entered) → (Fact → a ≡ b) → a ≡ b
same-entered holds a b told = ∥∥₁_elim holds (hlevel (codes, entered.the_row.coded)) told
