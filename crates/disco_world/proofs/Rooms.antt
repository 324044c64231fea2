-- How many documents may be kept stays so.
use Rattle.std.proofs.Common.{◌≡◌, inl, inr, ℕ, zero, suc, Bool, List, Option, Some, None, Ok, Err, ap, ◌∙◌}
use Rattle.disco_values.specs.declared.key.Key.{Key}
use Rattle.disco_instance.specs.Row.{Row}
use Rattle.disco_history.specs.Change.{Entry}
use Rattle.disco_cache.specs.Docs.{Docs}
use Rattle.disco_cache.specs.declared.payload.Payload.{Payload}
use Rattle.std.specs.FinMap.{get}
use Rattle.disco_history.specs.Registry.{registry_of}
use Rattle.disco_core.specs.Past.{Past, history, taken_in}
use Rattle.disco_core.specs.State.{Rules}
use Rattle.disco_hub.specs.Expiry.{ForgetsEach, cancelled}
use Rattle.disco_hub.specs.Kept.{Forgets, KeepsAtMost}
use Rattle.disco_world.specs.Outcomes.{Cache, outcome}
use Rattle.disco_world.specs.Events.{Effect, World, writes, loads, cleans, closes, expires, begins, copies, publishes, looks, takes, certifies, shows, shows_certified, restarts}
use Rattle.disco_world.specs.declared.event.Reply.{Reply}
use Rattle.disco_world.specs.declared.event.Reply.TheVariants.{Changed, Doc, Cleaned, Closed, Expired, Begun, Copied, Published, Taken, Certified, Held, Restarted}

forgets_room : (held : Key → Option Row) (c : Option Entry) (old new : Docs) → Forgets held c old new → new.max ≡ old.max
forgets_room held None old new is = ap (λ (s : Docs). s.max) is
forgets_room held (Some c) old new is = is.max

keeps_room : (on : Bool) (d : Payload) (old new : Docs) → KeepsAtMost on d old new → new.max ≡ old.max
keeps_room on d old new (inl is) = ap (λ (s : Docs). s.max) is
keeps_room on d old new (inr is) = ap (λ (s : Docs). s.max) is.kept

each_room : (rules : Rules) (p : Past) (now : ℕ) (ks : List Key) (i : ℕ) (old new : Docs) → ForgetsEach rules p now ks i old new → new.max ≡ old.max
unfolding ForgetsEach
each_room rules p now ks zero old new is = ap (λ (s : Docs). s.max) is
each_room rules p now ks (suc i) old new is = forgets_room (get (registry_of (history (cancelled rules p now ks i)))) is.2.change is.0 new is.2.docs ∙ each_room rules p now ks i old is.0 is.1

same_room : (old new : Cache) → new ≡ old → new.docs.max ≡ old.docs.max
same_room old new is = ap (λ (s : Cache). s.docs.max) is

pub room_stays : (rules : Rules) (w : World) (what : Effect) (r : Reply) (old new : Cache) → (outcome rules w what r).may old new → new.docs.max ≡ old.docs.max
room_stays rules w (writes now (Ok ask)) (Changed v) old new is = forgets_room (get (registry_of (history w.past))) (Some is.0) old.docs new.docs is.3
room_stays rules w (loads asked) (Doc d) old new is = keeps_room rules.delta d.value old.docs new.docs is.3
room_stays rules w (expires now) (Expired run) old new is = each_room rules w.past now (taken_in w.past now) run.gone old.docs new.docs is.1
room_stays rules w begins (Begun n) old new is = ap (λ (s : Docs). s.max) is.2
room_stays rules w copies (Copied c) old new is = ap (λ (s : Docs). s.max) is.3
room_stays rules w publishes (Published n) old new is = ap (λ (s : Docs). s.max) is.2
room_stays rules w (restarts run) (Restarted r) old new is = ap (λ (s : Cache). s.docs.max) is.2
room_stays rules w (cleans now) (Cleaned b) old new is = same_room old new is.1
room_stays rules w closes (Closed m) old new is = same_room old new is.1
room_stays rules w (looks key) (Doc d) old new is = same_room old new is.1
room_stays rules w (takes client d) (Taken equal version) old new is = same_room old new is.1
room_stays rules w (certifies client d) (Certified taken run version) old new is = same_room old new is.1
room_stays rules w (shows client) (Held listed) old new is = same_room old new is.1
room_stays rules w (shows_certified client) (Held listed) old new is = same_room old new is.1
room_stays rules w (writes now (Err cause)) (Changed v) old new is = same_room old new is.1
room_stays rules w what r old new is = same_room old new is.1
