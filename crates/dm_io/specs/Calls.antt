-- The calls of a folder or a sink in memory.
use Rattle.std.specs.Prelude.{ℕ, Bool, List, ◌==◌, if◌then◌else◌}
use Rattle.std.specs.List.{list_any}
use Rattle.dm_io.specs.declared.calls.Calls.{Calls}
use Rattle.dm_io.specs.Faults.{one_more}

-- before the first call
abbrev pub no_calls : List ℕ → Calls
no_calls failing = record { failing = failing; made = 0; faults = 0 }

-- whether the next call is to fail: its number is in the list
abbrev pub is_due : Calls → Bool
is_due calls = list_any (λ number. number == calls.made) calls.failing

-- after one more call, which raises a fault exactly where it is to fail
abbrev pub after_call : Calls → Calls
after_call calls = record { failing = calls.failing; made = one_more calls.made; faults = if is_due calls then one_more calls.faults else calls.faults }
