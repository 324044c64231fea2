-- The instance whose text is put next. Nothing here need be believed.
use Rattle.std.specs.Prelude.{ℕ, List, Option, option_map}
use Rattle.disco_values.specs.declared.key.Key.{Key}
use Rattle.disco_writer.specs.declared.named.Named.{Named}
use Rattle.disco_writer.specs.declared.named.Named.TheVariants as named

abbrev pub named_key : Named → Key
named_key (named.ByKey k) = k
named_key (named.ByRecord r) = r.value.key

-- the text that is put next, with its key
abbrev pub named_text : Option (Named × List ℕ) → Option (Key × List ℕ)
named_text o = option_map (λ n. (named_key n.0, n.1)) o
