-- What each effect and each reply come to.
use Rattle.std.specs.Prelude.{◌≡◌, ◌≢◌, ℕ, zero, suc, ◌+◌, ◌==◌, ◌<◌, ◌≤◌, List, [], ◌∷◌, ◌++◌, drop, length, map, if◌then◌else◌, Option, Some, None, option_map}
use Rattle.std.specs.Prelude.{Ok, Err, slice_get}
use Rattle.std.specs.FinMap.{empty, get, len}
use Rattle.disco_values.specs.declared.fault.Fault.{Fault}
use Rattle.disco_values.specs.declared.fault.Fault.TheVariants.{OutOfMemory, NotFetched, NoRound, RoundOpen, RunNotNew}
use Rattle.disco_history.specs.Change.{Entry}
use Rattle.disco_history.specs.Registry.{registry_of}
use Rattle.disco_registry.specs.Accept.{accept_after}
use Rattle.disco_cache.specs.Docs.{Docs}
use Rattle.disco_core.specs.Past.{Past, after_ask, cleaned, history, minute_closed, nothing, taken_in}
use Rattle.disco_core.specs.State.{Rules}
use Rattle.disco_hub.specs.Expiry.{ForgetsEach, IsExpired, cancelled}
use Rattle.disco_hub.specs.Kept.{Forgets, IsAsKept, IsCopiedAsKept, KeepsAtMost}
use Rattle.disco_hub.specs.Press as press
use Rattle.disco_hub.specs.Press.{edition_of, is_doc, note_of}
use Rattle.disco_hub.specs.Rounds.{Advances, Begins, Ends, Rounds, StaysOpen, round_keys}
use Rattle.disco_hub.specs.State.{IsCopied, MayServe}
use Rattle.disco_client.specs.Tracks.{Histories}
use Rattle.disco_world.specs.Clients.{IsGiven, IsTakenReply, client_after, given, summaries, with_one}
use Rattle.disco_world.specs.Events.{Effect, writes, loads, cleans, closes, expires, begins, copies, publishes, looks, takes, certifies, shows}
use Rattle.disco_world.specs.Events.{shows_certified, restarts, World, effect}
use Rattle.disco_world.specs.Rounds.{all_of, press_from, seen_at}
use Rattle.disco_world.specs.declared.event.Event.{Event}
use Rattle.disco_world.specs.declared.event.Reply.{Reply}
use Rattle.disco_world.specs.declared.event.Reply.TheVariants.{Changed, Same, Cleaned, Closed, Expired, Begun, Done, Published, Missed}
use Rattle.disco_world.specs.declared.event.Reply.TheVariants as replied
use Rattle.disco_world.specs.declared.event.Reply.TheVariants.{Taken, Certified, Held, Restarted, Refused}

-- the documents that are kept, and the rounds in which they are copied
pub record Cache : Type 0 where
  pub docs : Docs
  pub rounds : Rounds

-- nothing is kept or copied yet, and at most so many documents will be kept
abbrev pub new_cache : ℕ → Cache
new_cache most = record { docs = record { docs = empty; max = most }; rounds = record { edition = empty; round = None } }

-- what has happened with that to the registry, of which the new changes are noted
abbrev pub noting : World → Past → World
noting w p = record w { past = p; press = record w.press { pending = w.press.pending ++ map press.change (drop (length (history w.past)) (history p)) } }

-- the history of each run: of the one that is running what has happened, and of each other what had happened when it ended
abbrev pub history_of : World → Histories
history_of w r = if r == w.past.run then history w.past else w.ended r

-- what an effect and a reply come to: what has happened then, but for the reply; and that the reply may be given, where the one is kept and copied
-- before the event, and the other after it
pub record Outcome : Type 1 where
  pub next : World
  pub may : Cache → Cache → Type 0

abbrev pub leads : World → (Cache → Cache → Type 0) → Outcome
leads next may = record { next = next; may = may }

-- the reply may be given where this is so of what is kept and copied, which stays
abbrev pub staying : World → (Cache → Type 0) → Outcome
staying next so = leads next (λ old new. so old × (new ≡ old))

-- a refusal, for this cause or for want of memory: nothing happens
abbrev pub refused : World → Fault → (Cache → Type 0) → Outcome
refused w e cause = staying w (λ s. e ≢ OutOfMemory → cause s)

-- the table of outcomes, after what has happened; a pair that isn't in it can't be. A change drops the kept documents that it names. A load is answered as
-- its document is kept, or else as of now, and that one is kept at most. A round begins with the keys that are due, each copy takes out the first that
-- is left, and a publish ends it. After a restart nothing is kept and no round is open. A refused growth may be answered in place of anything but a
-- cleaning, the closing of a minute, a publish and a restart, and stops a run that cancels instances
abbrev pub outcome : Rules → World → Effect → Reply → Outcome
outcome rules w (writes now (Ok ask)) (Changed v) = let result = accept_after rules.limits (history w.past) ask now in
    leads (noting w (after_ask rules.queue w.past now ask result)) (λ old new. (c : Entry) × (result ≡ Ok (Some c)) × (v ≡ length (history w.past) + 1)
    × Forgets (get (registry_of (history w.past))) (Some c) old.docs new.docs × (new.rounds ≡ old.rounds))
outcome rules w (writes now (Ok ask)) Same = let result = accept_after rules.limits (history w.past) ask now in
    staying (noting w (after_ask rules.queue w.past now ask result)) (λ _. result ≡ Ok None)
outcome rules w (writes now (Ok ask)) (Refused e) = refused w e (λ _. accept_after rules.limits (history w.past) ask now ≡ Err e)
outcome rules w (writes now (Err cause)) (Refused e) = refused w e (λ _. cause ≡ e)
outcome rules w (loads asked) (replied.Doc d) = leads w (λ old new. (asked ≡ Ok d.value.key) × MayServe d.value w.past
    × IsAsKept (length (history w.past)) w.past.base old.docs d.value.key d.value × KeepsAtMost rules.delta d.value old.docs new.docs
    × (new.rounds ≡ old.rounds))
outcome rules w (loads asked) (Refused e) = refused w e (λ _. asked ≡ Err e)
outcome rules w (cleans now) (Cleaned b) = let p = cleaned rules.retention w.past now in staying (record w { past = p }) (λ _. b ≡ p.base)
outcome rules w closes (Closed minute) = let p = minute_closed w.past in staying (record w { past = p }) (λ _. minute ≡ p.closed)
outcome rules w (expires now) (Expired run) = let keys = taken_in w.past now in
    leads (noting w (cancelled rules w.past now keys run.gone)) (λ old new. IsExpired rules w.past now keys run.gone run.stopped
    × ForgetsEach rules w.past now keys run.gone old.docs new.docs × (new.rounds ≡ old.rounds))
outcome rules w begins (Begun n) =
    leads (record w { press = record w.press { pending = w.press.pending ++ press.begin ∷ []; begun = length w.replies + 1 } }) (λ old new.
    Begins (round_keys old.rounds.edition old.docs) n old.rounds new.rounds × (len (edition_of w.press.published) ≤ n) × (new.docs ≡ old.docs))
outcome rules w begins (Refused e) = refused w e (λ s. (e ≡ RoundOpen) × (s.rounds.round ≢ None))
outcome rules w copies (replied.Copied c) = leads (record w { press = record w.press { pending = w.press.pending ++ note_of c ∷ [] } }) (λ old new.
    (m : Advances (is_doc c) old.rounds new.rounds) × IsCopied m.marks.key c w.past
    × IsCopiedAsKept (length (history w.past)) w.past.base old.docs m.marks.key c × (new.docs ≡ old.docs))
outcome rules w copies Done = staying w (λ s. option_map (λ r. r.left) s.rounds.round ≡ Some [])
outcome rules w copies (Refused e) = refused w e (λ s. (e ≡ NoRound) × (s.rounds.round ≡ None))
outcome rules w publishes (Published n) =
    leads (record w { press = record w.press { published = all_of w.press; pending = []; floor = w.press.begun } }) (λ old new.
    Ends n old.rounds new.rounds × (n ≡ len (edition_of (all_of w.press))) × (new.docs ≡ old.docs))
outcome rules w publishes (Refused e) = staying w (λ s. StaysOpen e s.rounds.round)
outcome rules w (looks key) (replied.Doc d) = staying w (λ _. seen_at w.press key ≡ Some d.value)
outcome rules w (looks key) Missed = staying w (λ _. seen_at w.press key ≡ None)
outcome rules w (looks key) (Refused e) = staying w (λ _. e ≡ OutOfMemory)
outcome rules w (takes client d) (Taken equal version) = let now = client_after d (w.clients client) in
    staying (record w { clients = with_one w.clients client now }) (λ _. IsTakenReply d now equal version)
outcome rules w (takes client d) (Refused e) = refused w e (λ _. (e ≡ NotFetched) × (client_after d (w.clients client) ≡ None))
outcome rules w (certifies client d) (Certified taken run version) =
    staying (record w { certified = with_one w.certified client (given d (w.certified client)) }) (λ _. IsGiven d (w.certified client) taken run version)
outcome rules w (certifies client d) (Refused e) = refused w e (λ _. (e ≡ NotFetched) × (given d (w.certified client) ≡ None))
outcome rules w (shows client) (Held listed) = staying w (λ _. listed ≡ summaries (option_map (λ c. c.copy) (w.clients client)))
outcome rules w (shows client) (Refused e) = staying w (λ _. e ≡ OutOfMemory)
outcome rules w (shows_certified client) (Held listed) = staying w (λ _. listed ≡ summaries (option_map (λ c. c.copy) (w.certified client)))
outcome rules w (shows_certified client) (Refused e) = staying w (λ _. e ≡ OutOfMemory)
outcome rules w (restarts run) (Restarted r) =
    leads (record w { past = nothing run; ended = history_of w; press = press_from (length w.replies + 1) }) (λ old new.
    (r ≡ run) × (w.past.run < run) × (new ≡ new_cache old.docs.max))
outcome rules w (restarts run) (Refused e) = staying w (λ _. (e ≡ RunNotNew) × (run ≤ w.past.run))
outcome rules w _ _ = staying w (λ _. ⊥)

-- what has happened after an effect with that reply
abbrev pub after : Rules → World → Effect → Reply → World
after rules w what reply = record (outcome rules w what reply).next { replies = w.replies ++ reply ∷ [] }

-- nothing has happened yet, and this is the first run
abbrev pub new_world : ℕ → World
new_world run = record { past = nothing run; ended = λ r. []; replies = []; clients = λ c. None; certified = λ c. None; press = press_from 0 }

abbrev pub after_at : Rules → World → Option Event → Option Reply → World
after_at rules w (Some event) (Some reply) = after rules w (effect rules w event) reply
after_at rules w _ _ = w

-- what has happened after the first i events, with these replies, where that was the first run
unfoldable pub world : Rules → ℕ → List Event → List Reply → ℕ → World
world rules run events replies zero = new_world run
world rules run events replies (suc i) = after_at rules (world rules run events replies i) (slice_get events i) (slice_get replies i)
