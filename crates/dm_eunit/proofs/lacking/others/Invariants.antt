use Rattle.std.specs.Prelude.{◌≡◌, ℕ, true, ◌||◌, ◌&&◌, not, bytes_eq, List, [], drop, length, All}
use Rattle.dm_eunit.specs.Lacking.{IsSet, has, is_spelled}
use Rattle.dm_eunit.proofs.lacking.others.Given as goal

-- the names so far, and those of the other tokens
abbrev pub invariant-loop-token : goal.invariant-loop-token
invariant-loop-token l = record {
  set : IsSet l.names;
  names : (name : List ℕ) → (has l.names name || (is_spelled (drop l.token-index l.typer.tokens.now) name && not (has l.defined name)))
      ≡ ((bytes_eq [] name || is_spelled l.typer.tokens.now name) && not (has l.defined name));
  kept : length l.latest.items ≡ 1024;
  known : All (λ one. (has l.names one.now || has l.defined one.now) ≡ true) l.latest.items;
}
