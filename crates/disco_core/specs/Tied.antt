-- What ties the counts, the vips, the leases and the texts to the registry. Nothing here is to be believed: it is the invariant of a type.
use Rattle.std.specs.Prelude.{◌≡◌, ◌≤◌, option_map}
use Rattle.std.specs.FinMap.{FinMap, len}
use Rattle.disco_values.specs.Key.{key_cmp}
use Rattle.disco_values.specs.declared.key.Key.{Key}
use Rattle.disco_history.specs.Change.{Entry}
use Rattle.disco_index.specs.Tally.{Tally, tally_in}
use Rattle.disco_index.specs.Vips.{IsIndexOf, VipKeys}
use Rattle.disco_lease.specs.Leases.{Leases, lease_at}
use Rattle.disco_history.specs.Held.{record_at}
use Rattle.disco_queue.specs.Queue.{Queue, version}
use Rattle.disco_registry.specs.State.{RegistryState}
use Rattle.disco_core.specs.Written.{AreWritten, KeptTexts}

-- exactly the instances that are held have leases, of their records' durations
abbrev pub AreLeased : FinMap key_cmp Entry → Leases → Type 0
AreLeased held v = (k : Key) → option_map (λ l. l.duration_secs) (lease_at v k) ≡ option_map (λ r. r.lease.duration_secs) (record_at held k)

-- the counts, the vips and the texts are those of the records, each has its lease, there are no more records than changes, and the queue follows them
-- to the last change
pub record IsTied (s : RegistryState) (t : Tally) (i : VipKeys) (v : Leases) (q : Queue) (w : KeptTexts) : Type 0 where
  pub counts : t ≡ tally_in s.held
  pub indexed : IsIndexOf i s.held
  pub leased : AreLeased s.held v
  pub written : AreWritten w s.held
  pub few : len s.held ≤ s.version
  pub follows : version q ≡ s.version
