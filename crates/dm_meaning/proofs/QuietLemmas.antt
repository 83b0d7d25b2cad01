-- Steps of a tree that change nothing but the tree, beside any locks.
--     Quietly scene world n run other      n such steps
--     Fails scene world run      such steps lead to one that is undefined
use Rattle.std.specs.Prelude.{◌≡◌, ℕ, zero, suc, ◌+◌, List}
use Rattle.std.proofs.Common.{arith, sym, subst}
use Rattle.dm_token.specs.declared.place.Place.{Place}
use Rattle.dm_meaning.specs.declared.cause.Cause.{Cause}
use Rattle.dm_meaning.specs.Among.{IsAmong}
use Rattle.dm_meaning.specs.Values.{At}
use Rattle.dm_meaning.specs.Operations.{World, Scene}
use Rattle.dm_meaning.specs.Running.{Run, Hole, filled_in, IsOpen}
use Rattle.dm_meaning.specs.Expressions.{Move, goes, fails, moves}
use Rattle.dm_meaning.proofs.MoveLemmas.{move_lifts}

-- a step that goes on with a tree
abbrev pub went : World → Run → Move Run Hole
went world run = goes world run

abbrev pub QuietStep : Scene → World → Run → Run → Type 0
QuietStep scene world run other = (locks : List At) → IsAmong (went world other) (moves scene world locks run)

abbrev pub Quietly : Scene → World → ℕ → Run → Run → Type 0
Quietly scene world zero run other = run ≡ other
Quietly scene world (suc n) run other = (middle : Run) × QuietStep scene world run middle × Quietly scene world n middle other

pub quietly_then : (scene : Scene) (world : World) (m n : ℕ) (a b c : Run) → Quietly scene world m a b → Quietly scene world n b c → Quietly scene world (m + n) a c
quietly_then scene world zero n a b c e k =
    let same : n ≡ zero + n = omega arith in
    subst (λ i. Quietly scene world i a c) same (subst (λ x. Quietly scene world n x c) (sym e) k)
quietly_then scene world (suc m) n a b c h k =
    let same : suc (m + n) ≡ suc m + n = omega arith in
    subst (λ i. Quietly scene world i a c) same (h.0, h.1, quietly_then scene world m n h.0 b c h.2 k)

-- inside a tree
pub quietly_inside : (scene : Scene) (world : World) (hole : Hole) → IsOpen hole → (n : ℕ) (a b : Run) → Quietly scene world n a b → Quietly scene world n (filled_in hole a) (filled_in hole b)
quietly_inside scene world hole o zero a b e = λ i. filled_in hole (e i)
quietly_inside scene world hole o (suc n) a b h =
    (filled_in hole h.0, (λ locks. move_lifts scene world locks hole a (went world h.0) o (h.1 locks)), quietly_inside scene world hole o n h.0 b h.2)

-- ---- steps that are undefined

abbrev pub failed : Cause → Place → Move Run Hole
failed cause place = fails cause place

pub record Fails (scene : Scene) (world : World) (run : Run) : Type 0 where
  pub count : ℕ
  pub last : Run
  pub steps : Quietly scene world count run last
  pub cause : Cause
  pub place : Place
  pub fails : (locks : List At) → IsAmong (failed cause place) (moves scene world locks last)

-- after more steps
pub fails_later : (scene : Scene) (world : World) (n : ℕ) (a b : Run) → Quietly scene world n a b → Fails scene world b → Fails scene world a
fails_later scene world n a b h k = record {
  count = n + k.count;
  last = k.last;
  steps = quietly_then scene world n k.count a b k.last h k.steps;
  cause = k.cause;
  place = k.place;
  fails = k.fails;
}

-- inside a tree
pub fails_inside : (scene : Scene) (world : World) (hole : Hole) → IsOpen hole → (run : Run) → Fails scene world run → Fails scene world (filled_in hole run)
fails_inside scene world hole o run k = record {
  count = k.count;
  last = filled_in hole k.last;
  steps = quietly_inside scene world hole o k.count run k.last k.steps;
  cause = k.cause;
  place = k.place;
  fails = λ locks. move_lifts scene world locks hole k.last (failed k.cause k.place) o (k.fails locks);
}
