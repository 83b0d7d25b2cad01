-- What is told of names by a fact of which only is known that it holds.
use Rattle.std.proofs.Common.{◌≡◌, ℕ, Bool, List, Option}
use Rattle.std.proofs.Math.Logic.{∥∥₁_elim}
use Rattle.std.specs.Coded.{codes}
use Rattle.dm_names.specs.contracts.identifier.Identifier as identifier
use Rattle.dm_names.specs.declared.identifier.Identifier.{Identifier}

pub same-meaning : {Fact : Type 0} → ∥ Fact ∥₁ → (a b : Option Identifier) → (Fact → a ≡ b) → a ≡ b
same-meaning holds a b told = ∥∥₁_elim holds (hlevel (codes, identifier.the_row.coded)) told

pub same-answer : {Fact : Type 0} → ∥ Fact ∥₁ → (a b : Bool) → (Fact → a ≡ b) → a ≡ b
same-answer holds a b told = ∥∥₁_elim holds (hlevel codes) told

pub same-numbers : {Fact : Type 0} → ∥ Fact ∥₁ → (a b : List ℕ) → (Fact → a ≡ b) → a ≡ b
same-numbers holds a b told = ∥∥₁_elim holds (hlevel codes) told
