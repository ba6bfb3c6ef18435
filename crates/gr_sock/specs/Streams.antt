-- What is inside of the adapters to a reader and to a writer.
use Rattle.std.specs.Prelude.{ℕ}
use Rattle.gr_sock.specs.declared.std_source.StdSource.{StdSource}
use Rattle.gr_sock.specs.declared.std_sink.StdSink.{StdSink}

-- the reader that a source reads
abbrev pub reader_of : {R : Type 0} → StdSource R → R
reader_of s = s.reader

-- how many reads failed
abbrev pub source_faults : {R : Type 0} → StdSource R → ℕ
source_faults s = s.faults

-- the writer that a sink writes to
abbrev pub writer_of : {W : Type 0} → StdSink W → W
writer_of s = s.writer

-- how many writes failed
abbrev pub sink_faults : {W : Type 0} → StdSink W → ℕ
sink_faults s = s.faults
