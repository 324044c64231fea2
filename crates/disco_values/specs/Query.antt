-- Queries.
use Rattle.std.specs.Prelude.{Bool, true, false}
use Rattle.disco_values.specs.declared.query.Query.{Query}
use Rattle.disco_values.specs.declared.query.Query.TheVariants as query

-- the query asks for what changed
abbrev pub is_delta : Query → Bool
is_delta query.Delta = true
is_delta _ = false
