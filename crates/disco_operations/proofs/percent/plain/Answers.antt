use Rattle.std.proofs.Common.{Some, ap, sym, ◌∙◌}
use Rattle.disco_operations.proofs.SpelledWords.{plain_utf8, spells_itself}
use Rattle.disco_operations.proofs.percent.plain.Goals as goal

pub from_utf8_unchecked-requires : goal.from_utf8_unchecked-requires
from_utf8_unchecked-requires c = plain_utf8 _ (sym c.is_plain.ensures ∙ c.if-is_plain.true)

pub returns-then-is_plain : goal.returns-then-is_plain
returns-then-is_plain c = ap Some c.from_utf8_unchecked.ensures ∙ spells_itself _ (sym c.is_plain.ensures ∙ c.if-is_plain.true)
