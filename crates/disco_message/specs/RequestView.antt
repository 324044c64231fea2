-- What a request asks.
use Rattle.std.specs.Prelude.{ℕ, Bool, List}
use Rattle.disco_message.specs.Heading.{Heading}

-- what a request asks: its method, its path with the query, the names and values of its fields, whether the connection ends after the reply, and its body
pub record RequestView : Type 0 where
  pub method : List ℕ
  pub target : List ℕ
  pub fields : List (List ℕ × List ℕ)
  pub closes : Bool
  pub body : List ℕ

-- what a head and the body behind it ask
abbrev pub request_view : Heading → List ℕ → RequestView
request_view h body = record { method = h.method; target = h.target; fields = h.fields; closes = h.closes; body = body }
