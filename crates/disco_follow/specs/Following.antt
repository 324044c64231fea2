-- What the words of `follow` name, and what it writes.
use Rattle.std.specs.Prelude.{◌≡◌, ◌++◌, ℕ, List, Option, None, if◌then◌else◌, codes, decimal, unwrap_or}
use Rattle.clap.specs.Words.{Row as Given, Text}
use Rattle.disco_follow.specs.declared.plan.Plan.{Plan}
use Rattle.disco_follow.specs.declared.wanted.Wanted.{Wanted}
use Rattle.disco_options.specs.Options.{AreMatches, flag_given, number_given, port_in, text_given, within}
use Rattle.disco_options.specs.declared.subcommand.Subcommand.TheVariants.{Follow}
use Rattle.disco_reconcile.specs.State.{ClientState}
use Rattle.disco_reconcile.specs.declared.kept.Kept.TheVariants.{Certified}
use Rattle.disco_follow.specs.Follows.{Follows, turns_of}
use Rattle.disco_values.specs.declared.form.Form.{Form}
use Rattle.disco_values.specs.declared.form.Form.TheVariants.{Full, Compact}

-- the server that is given, and else 127.0.0.1 with the port that is given
abbrev pub address_in : List Given → List ℕ
address_in rows = unwrap_or (text_given (codes "server") rows) (codes "127.0.0.1:" ++ decimal (port_in rows))

-- the vip that is given
abbrev pub vip_in : List Given → Option Text
vip_in rows = text_given (codes "vip") rows

-- the vip, and whether lines are JSON objects
abbrev pub wanted_in : List Given → Wanted
wanted_in rows = record { vip = vip_in rows; json = flag_given (codes "json") rows }

-- compact where that is asked for
abbrev pub form_in : List Given → Form
form_in rows = if flag_given (codes "compact") rows then Compact else Full

-- the number of refreshes that is given, 0 where none is
abbrev pub times_in : List Given → ℕ
times_in rows = unwrap_or (number_given (codes "times") rows) 0

-- the address, what is written, the form, the pause in milliseconds (30 seconds where none is given) and the number of
-- refreshes (0, which is no end) are those given
pub record IsFollowPlan (rows : List Given) (p : Plan) : Type 0 where
  pub address : p.address ≡ address_in rows
  pub wanted : p.wanted ≡ wanted_in rows
  pub form : p.form ≡ form_in rows
  pub pause : p.pause ≡ within 18446744073709551615 30000 (number_given (codes "every") rows)
  pub times : p.times ≡ times_in rows

-- a certified client without a copy is refreshed so many times, by what a server answers, and the lines on it are
-- written; of its fetcher only the number of failures is known
abbrev pub Tells : Wanted → Form → ℕ → Option (List ℕ) → Option (List ℕ) → Type 0
Tells wanted form times old new = (left : ClientState ℕ)
    × Follows (λ _ _ _ _. Unit {0}) (λ l. l) wanted (turns_of times) (record { fetcher = 0; form = form; kept = Certified None }) left old new

-- the words are `follow` and options, and what these ask for is written
unfoldable pub TellsFor : List Text → Option (List ℕ) → Option (List ℕ) → Type 0
TellsFor words old new = (rows : List Given) × AreMatches Follow words rows × Tells (wanted_in rows) (form_in rows) (times_in rows) old new
