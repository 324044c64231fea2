-- What `follow` writes of a client and its copy, and when (this project's own rule).
use Rattle.std.specs.Prelude.{◌≡◌, ◌==◌, ◌&&◌, ℕ, Bool, true, not, List, [], ◌++◌, length, filter, Option, Some, Result, Ok, Err}
use Rattle.std.specs.Prelude.{if◌then◌else◌}
use Rattle.std.specs.FinMap.{FinMap, values}
use Rattle.std.specs.Option.{option_map_or}
use Rattle.std.specs.Str.{bytes_eq}
use Rattle.disco_values.specs.Fault.{fault_number}
use Rattle.disco_values.specs.Key.{key_cmp}
use Rattle.disco_values.specs.declared.fault.Fault.{Fault}
use Rattle.disco_instance.specs.Row.{Row}
use Rattle.disco_client.specs.Copies.{is_up_under}
use Rattle.disco_client.specs.declared.known.Known.{Known}
use Rattle.disco_follow.specs.Changes.{AreChanges, InstanceChange}
use Rattle.disco_follow.specs.Objects.{copy_data, fault_data, object_line, vip_data}
use Rattle.disco_follow.specs.Texts.{copy_text, fault_text, vip_text}
use Rattle.disco_follow.specs.declared.wanted.Wanted.{Wanted}
use Rattle.disco_reconcile.specs.declared.refreshed.Refreshed.{Refreshed}

-- the line of a copy, as a JSON object or as a text
abbrev pub copy_line : Bool → ℕ → ℕ → List InstanceChange → List ℕ
copy_line json run version changes = if json then object_line (copy_data run version changes) else copy_text run version changes

-- the line of a vip under which these instances are UP
abbrev pub vip_line : Bool → List ℕ → List Row → List ℕ
vip_line json vip up = if json then object_line (vip_data vip up) else vip_text vip up

-- the line of a refusal
abbrev pub fault_line : Bool → Fault → List ℕ
fault_line json fault = if json then object_line (fault_data fault) else fault_text fault

-- what was written last: the copy, none at first; the line of the vip; and the number of a refusal, 0 where there is
-- none or a copy was written after it
pub record Told : Type 0 where
  pub begun : Bool
  pub copy : FinMap key_cmp Row
  pub up : List ℕ
  pub fault : ℕ

-- a copy is written where so many instances changed, where none was written before, and behind a refusal
abbrev pub is_news : Told → ℕ → Bool
is_news told changed = not (told.begun && (told.fault == 0 && changed == 0))

-- a line, where it isn't the one that was written last
abbrev pub unless_told : List ℕ → List ℕ → List ℕ
unless_told old line = if bytes_eq line old then [] else line

-- the line of the vip, if one is asked for
abbrev pub up_line : Wanted → FinMap key_cmp Row → List ℕ
up_line wanted now = option_map_or (λ vip. vip_line wanted.json vip (filter (is_up_under vip) (values now))) wanted.vip []

-- this is written of a copy that is a version of a run
pub record IsToldCopy (wanted : Wanted) (old : Told) (run version : ℕ) (now : FinMap key_cmp Row) (text : List ℕ) (new : Told) : Type 0 where
  pub changes : List InstanceChange
  pub changed : AreChanges old.copy now changes
  pub written : text ≡ (if is_news old (length changes) then copy_line wanted.json run version changes else []) ++ unless_told old.up (up_line wanted now)
  pub told : new ≡ record { begun = true; copy = now; up = up_line wanted now; fault = 0 }

-- whether a refusal was written last
abbrev pub is_told_last : Told → Fault → Bool
is_told_last told fault = told.fault == fault_number fault

abbrev pub refusal_text : Bool → Told → Fault → List ℕ
refusal_text json old fault = if is_told_last old fault then [] else fault_line json fault

-- this is written after a refresh with that result
abbrev pub IsTold : Wanted → Told → Result Refreshed Fault → Option Known → Option (FinMap key_cmp Row) → List ℕ → Told → Type 0
IsTold wanted old (Err fault) known copy text new = (text ≡ refusal_text wanted.json old fault) × (new ≡ record old { fault = fault_number fault })
IsTold wanted old (Ok _) (Some known) (Some copy) text new = IsToldCopy wanted old known.run known.version copy text new
IsTold wanted old (Ok _) _ _ text new = (text ≡ []) × (new ≡ old)
