use Rattle.std.proofs.Common.{rules}
use Rattle.disco_operations.proofs.SpelledWords.{spelled, misspelled}
use Rattle.disco_operations.proofs.percent.spelled.Goals as goal

pub returns-in-Ok-clause-text : goal.returns-in-Ok-clause-text
returns-in-Ok-clause-text c = spelled _ _ _ c.in-Ok.ensures.value c.percent_decode.ensures.bytes c.in-Ok.ensures.ok_only_if_utf8

pub returns-in-Err-Utf8-clause-text : goal.returns-in-Err-Utf8-clause-text
returns-in-Err-Utf8-clause-text c = misspelled _ _ c.percent_decode.ensures.bytes (λ u. let bad = c.in-Err-Utf8.ensures.utf8 u in search rules)
