-- What the real standard output shows.
use Rattle.std.specs.Prelude.{ℕ}
use Rattle.dm_io.specs.declared.real_sink.RealSink.{RealSink}

-- how many errors there were
abbrev pub faults_of : {R : Type 0} → RealSink R → ℕ
faults_of sink = sink.faults
