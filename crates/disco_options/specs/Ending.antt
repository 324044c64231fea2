-- How a command of the program ends.
use Rattle.std.specs.Prelude.{◌≡◌, ◌≢◌, ◌≤◌, ◌⊎◌, ℕ, List, Option, []}
use Rattle.clap.specs.Words.{Kinds}
use Rattle.disco_options.specs.Faults.{IsStatusAmong, IsStatusOf, Says, SaysAny}
use Rattle.disco_values.specs.declared.fault.Fault.TheVariants.{OutOfMemory, WriteFailed}

-- its words have these faults, or ask for help: it ends with a status of one of them, or with 1 for want of memory and where help can't be written;
-- where words are refused nothing was written; words with no fault are never refused; 0 leaves the errors as they were, and 1 ends them with the line
-- of a fault
pub record EndsBy {W E : Type 0} (contents : E → Option (List ℕ)) (failed : E → ℕ) (faults : Kinds) (status : ℕ) (out-old out-new : W)
    (errors-old errors-new : E) : Type 0 where
  pub most : status ≤ 2
  pub refused : faults ≢ [] → IsStatusAmong faults status
  pub lacks : faults ≢ [] → status ≡ 1 → Says OutOfMemory (contents errors-old) (contents errors-new) (failed errors-old) (failed errors-new)
      ⊎ (IsStatusOf faults 0 × Says WriteFailed (contents errors-old) (contents errors-new) (failed errors-old) (failed errors-new))
  pub settled : faults ≡ [] → status ≤ 1
  pub unwritten : status ≡ 2 → out-new ≡ out-old
  pub silent : status ≡ 0 → errors-new ≡ errors-old
  pub told : status ≡ 1 → SaysAny (contents errors-old) (contents errors-new) (failed errors-old) (failed errors-new)
