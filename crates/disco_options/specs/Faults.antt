-- Messages and exit statuses of failed runs (this project's own format).
use Rattle.std.specs.Prelude.{◌≡◌, ◌⊎◌, ℕ, List, [], Option, ◌++◌, codes, decimal}
use Rattle.std.specs.Io.KnownBytes.{Appends, append_known}
use Rattle.std.specs.declared.io.ErrorKind.{ErrorKind as IoKind}
use Rattle.std.specs.declared.io.ErrorKind.TheVariants as io
use Rattle.clap.specs.Words.{IsAmong, Kinds}
use Rattle.clap.specs.declared.error.kind.ErrorKind.{ErrorKind}
use Rattle.clap.specs.declared.error.kind.ErrorKind.TheVariants as kind
use Rattle.disco_http.specs.Causes.{Raises}
use Rattle.disco_http.specs.Writes.{AppendsProperFront}
use Rattle.disco_values.specs.Fault.{fault_number}
use Rattle.disco_values.specs.declared.fault.Fault.{Fault}
use Rattle.disco_values.specs.declared.fault.Fault.TheVariants.{BadEvent, ReadFailed}

-- `discovery: fault N`, and the number of the line where it can't be read
abbrev pub report_line : Fault → List ℕ
report_line (BadEvent line) = codes "discovery: fault " ++ decimal (fault_number (BadEvent line)) ++ codes " at line " ++ decimal line ++ codes "\n"
report_line fault = codes "discovery: fault " ++ decimal (fault_number fault) ++ codes "\n"

-- the line of a fault is written, or a front of it, where a write failed; the numbers count failures before and after
abbrev pub Says : Fault → Option (List ℕ) → Option (List ℕ) → ℕ → ℕ → Type 0
Says fault old new before now = Appends old new (report_line fault) ⊎ (AppendsProperFront old new (report_line fault) × Raises before now)

-- the line that says what the host refused at which address, and its cause
abbrev pub IsCauseLine : List ℕ → Type 0
IsCauseLine line = (what address cause : List ℕ) × (line ≡ codes "discovery: " ++ what ++ codes " " ++ address ++ codes ": " ++ cause ++ codes "\n")

-- such a line, or a front of it, where a write failed, or nothing; the numbers count failures before and after
abbrev pub TellsCause : List ℕ → ℕ → ℕ → Type 0
TellsCause text before now = (text ≡ []) ⊎ ((rest : List ℕ) × IsCauseLine (text ++ rest) × ((rest ≡ []) ⊎ Raises before now))

-- what stands in front of the line of a fault: the cause of a failed read, and else nothing
abbrev pub StandsBefore : Fault → List ℕ → ℕ → ℕ → Type 0
StandsBefore ReadFailed text before now = TellsCause text before now
StandsBefore fault text before now = text ≡ []

-- the line of a fault is written, or a front of it, where a write failed, with what stands in front of it
abbrev pub SaysBehind : Fault → Option (List ℕ) → Option (List ℕ) → ℕ → ℕ → Type 0
SaysBehind fault old new before now = (text : List ℕ) × StandsBefore fault text before now × Says fault (append_known old text) new before now

-- so is that of some fault
abbrev pub SaysAny : Option (List ℕ) → Option (List ℕ) → ℕ → ℕ → Type 0
SaysAny old new before now = (fault : Fault) × SaysBehind fault old new before now

-- the status for words that give no settings: 0 for help, 1 for want of memory, 2 for a mistake
abbrev pub status_of_kind : ErrorKind → ℕ
status_of_kind kind.OutOfMemory = 1
status_of_kind kind.DisplayHelp = 0
status_of_kind kind.DisplayVersion = 0
status_of_kind _ = 2

-- one of these kinds has this status
abbrev pub IsStatusOf : Kinds → ℕ → Type 0
IsStatusOf kinds status = (k : ErrorKind) × IsAmong k kinds × (status ≡ status_of_kind k)

-- the status is 1, or that of one of these kinds
abbrev pub IsStatusAmong : Kinds → ℕ → Type 0
IsStatusAmong kinds status = (status ≡ 1) ⊎ IsStatusOf kinds status

-- the status where the words can't be had: 1 for want of memory, 2 where one isn't text
abbrev pub status_without_words : IoKind → ℕ
status_without_words io.OutOfMemory = 1
status_without_words _ = 2
