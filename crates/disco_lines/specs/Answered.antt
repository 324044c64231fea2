-- The answers to an input, and why there may be none.
use Rattle.std.specs.Prelude.{◌≡◌, ◌≢◌, ◌⊎◌, ℕ, List, [], ◌++◌, length, Option}
use Rattle.std.specs.Io.KnownBytes.{Appends}
use Rattle.disco_values.specs.declared.fault.Fault.{Fault}
use Rattle.disco_values.specs.declared.fault.Fault.TheVariants.{OutOfMemory, ReadFailed, WriteFailed}
use Rattle.disco_values.specs.declared.settings.Settings.{Settings}
use Rattle.disco_core.specs.State.{rules}
use Rattle.disco_world.specs.Answers.{AreAnswers, AreExact, AreKnown, AreServed, IsFirstBadEvent, NeverFall}
use Rattle.disco_world.specs.declared.event.Event.{Event}
use Rattle.disco_world.specs.declared.event.Reply.{Reply}
use Rattle.disco_lines.specs.Answers.{answer_lines}
use Rattle.disco_lines.specs.Input.{AreRead, NamesBadLine}

-- each event of the whole input is answered so, by the clauses of `run`
pub record AreReplies (settings : Settings) (given : Option (List ℕ)) (replies : List Reply) : Type 0 where
  pub events : List Event
  pub read : AreRead given events
  pub each : length replies ≡ length events
  pub answers : AreAnswers settings.entries (rules settings) settings.run events replies
  pub served : AreServed (rules settings) settings.run events replies
  pub known : AreKnown (rules settings) settings.run events replies
  pub exact : AreExact (rules settings) settings.run events replies
  pub rising : NeverFall (rules settings) settings.run events replies

-- each event of the whole input is answered, and the answer lines are written
abbrev pub IsInputAnswered : Settings → Option (List ℕ) → Option (List ℕ) → Option (List ℕ) → Type 0
IsInputAnswered settings given old new = (replies : List Reply) × AreReplies settings given replies × Appends old new (answer_lines replies)

-- the fault names the first event of the whole input that can't be run
abbrev pub NamesBadEvent : Settings → Option (List ℕ) → Fault → Type 0
NamesBadEvent settings known fault = (events : List Event) × AreRead known events × IsFirstBadEvent settings.entries (rules settings) settings.run events fault

-- why events may get no answers, or not all: want of memory, a failed read or write, of which there has to be a sign, or an input that can't be run
abbrev pub IsRunFault : Settings → Option (List ℕ) → Type 0 → Type 0 → Fault → Type 0
IsRunFault settings known reads writes fault =
    (fault ≡ OutOfMemory) ⊎ (((fault ≡ ReadFailed) × reads) ⊎ (((fault ≡ WriteFailed) × writes)
    ⊎ (NamesBadLine known fault ⊎ NamesBadEvent settings known fault)))

-- a front of the text is written, and this is left of it
abbrev pub AppendsUpTo : Option (List ℕ) → Option (List ℕ) → List ℕ → List ℕ → Type 0
AppendsUpTo old new text left = (front : List ℕ) × Appends old new front × (text ≡ front ++ left)

-- a front of the text is written before a refusal, and not all of it where a write failed
abbrev pub AppendsFront : Option (List ℕ) → Option (List ℕ) → Fault → List ℕ → Type 0
AppendsFront old new fault text = (left : List ℕ) × AppendsUpTo old new text left × (fault ≡ WriteFailed → left ≢ [])

-- each event of the whole input is answered, and a front of the answer lines is written before want of memory or a failed write
abbrev pub IsFrontWritten : Settings → Option (List ℕ) → Option (List ℕ) → Option (List ℕ) → Fault → Type 0
IsFrontWritten settings given old new fault = ((fault ≡ OutOfMemory) ⊎ (fault ≡ WriteFailed))
    × (replies : List Reply) × AreReplies settings given replies × AppendsFront old new fault (answer_lines replies)

-- what a refusal leaves of an output: all as it was, or a front of the answer lines behind that
abbrev pub IsLeft : {W : Type 0} → (W → Option (List ℕ)) → Settings → Option (List ℕ) → Fault → W → W → Type 0
IsLeft contents settings given fault old new = (new ≡ old) ⊎ IsFrontWritten settings given (contents old) (contents new) fault
