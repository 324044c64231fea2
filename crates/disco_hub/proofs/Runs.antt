-- No cancel begins a run.
use Rattle.std.proofs.Common.{◌≡◌, ℕ, zero, suc, List, Option, Some, None, Result, Ok, Err, slice_get, refl, ◌∙◌}
use Rattle.disco_values.specs.declared.fault.Fault.{Fault}
use Rattle.disco_values.specs.declared.key.Key.{Key}
use Rattle.disco_history.specs.Change.{Entry}
use Rattle.disco_registry.specs.Op.{cancel}
use Rattle.disco_core.specs.Past.{Past, after_ask}
use Rattle.disco_core.specs.State.{Rules}
use Rattle.disco_core.proofs.Runs.{run_done}
use Rattle.disco_hub.specs.Expiry.{after_next, cancel_of, cancelled}

asked_run : (most : ℕ) (p : Past) (now : ℕ) (k : Key) (r : Result (Option Entry) Fault) → (after_ask most p now (cancel k) r).run ≡ p.run
asked_run most p now k (Ok c) = run_done most p now (cancel k) c
asked_run most p now k (Err e) = refl

next_run : (rules : Rules) (p : Past) (now : ℕ) (next : Option Key) → (after_next rules p now next).run ≡ p.run
next_run rules p now None = refl
next_run rules p now (Some k) = asked_run rules.queue p now k (cancel_of rules p now k)

pub run_cancelled : (rules : Rules) (p : Past) (now : ℕ) (ks : List Key) (i : ℕ) → (cancelled rules p now ks i).run ≡ p.run
unfolding cancelled
run_cancelled rules p now ks zero = refl
run_cancelled rules p now ks (suc i) = next_run rules (cancelled rules p now ks i) now (slice_get ks i) ∙ run_cancelled rules p now ks i
