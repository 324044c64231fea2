-- What a writer writes to.
use Rattle.std.specs.Prelude.{Bool}
use Rattle.disco_http.specs.declared.writer.Writer.{Writer}

-- what it writes to
abbrev pub sink_of : {W : Type 0} → Writer W → W
sink_of writer = writer.sink

-- a write of it failed, or the connection has ended
abbrev pub is_writer_spent : {W : Type 0} → Writer W → Bool
is_writer_spent writer = writer.spent
