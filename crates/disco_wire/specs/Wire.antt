-- A document that was read, as plain data.
use Rattle.std.specs.Prelude.{List, map}
use Rattle.disco_instance.specs.Mention.{Mention}
use Rattle.disco_instance.specs.Row.{row}
use Rattle.disco_wire.specs.Meaning.{Meaning}
use Rattle.disco_wire.specs.declared.wire.Mention as read
use Rattle.disco_wire.specs.declared.wire.Wire.{Wire}

abbrev pub tell : read.Mention → Mention
tell m = (row m.rec, m.action)

abbrev pub tell_all : List read.Mention → List Mention
tell_all ms = map tell ms

abbrev pub wire_meaning : Wire → Meaning
wire_meaning w = record { shape = w.shape; mentions = tell_all w.mentions; hash = w.hash; version = w.version }
