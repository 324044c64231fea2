-- What an effect and a reply make of each part of what has happened.
use Rattle.std.proofs.Common.{◌≡◌, ℕ, zero, suc, true, List, [], ◌∷◌, ◌++◌, drop, length, map, Option, Some, None, Result, Ok, Err, slice_get, refl, sym, ap, subst, ◌∙◌, append-nil}
use Rattle.disco_values.specs.declared.fault.Fault.{Fault}
use Rattle.disco_values.specs.declared.key.Key.{Key}
use Rattle.disco_history.specs.Change.{Entry}
use Rattle.disco_registry.specs.Accept.{accept_after}
use Rattle.disco_registry.specs.Op.{OpView, cancel}
use Rattle.disco_queue.specs.Timed.{Timed, changes}
use Rattle.disco_hub.specs.Expiry.{after_next, cancel_of, cancelled}
use Rattle.disco_hub.specs.Press.{change}
use Rattle.disco_core.specs.Past.{Past, after_ask, history, taken_in}
use Rattle.disco_core.specs.State.{Rules}
use Rattle.disco_core.proofs.Runs.{run_done}
use Rattle.disco_hub.proofs.Runs.{run_cancelled}
use Rattle.disco_client.specs.Tracks.{Histories}
use Rattle.disco_world.specs.Events.{Effect, World, writes, loads, cleans, closes, expires, begins, copies, publishes, looks, takes, certifies, shows, shows_certified, restarts}
use Rattle.disco_world.specs.Outcomes.{outcome}
use Rattle.disco_world.specs.Rounds.{Press}
use Rattle.disco_world.specs.Steps.{certified_after, changes_since, clients_after, goes_on, is_plain, only_asks}
use Rattle.disco_world.specs.declared.event.Reply.{Reply}
use Rattle.disco_world.specs.declared.event.Reply.TheVariants.{Changed, Same, Doc, Cleaned, Closed, Expired, Begun, Copied, Published, Taken, Certified, Held, Restarted}
use Rattle.disco_world.proofs.Known.{Extends, extends_more, extends_on, extends_same}

-- ---- a history only grows, and its run stays

map_more : (ts : List Timed) (t : Timed) → changes (ts ++ t ∷ []) ≡ changes ts ++ t.0 ∷ []
map_more [] t = refl
map_more (s ∷ ts) t = ap (λ cs. s.0 ∷ cs) (map_more ts t)

ask_extends : (most : ℕ) (p : Past) (now : ℕ) (ask : OpView) (result : Result (Option Entry) Fault) → Extends (history p) (history (after_ask most p now ask result))
ask_extends most p now ask (Ok (Some c)) = subst (Extends (history p)) (sym (map_more p.timed (c, now))) (extends_more (history p) c)
ask_extends most p now ask (Ok None) = extends_same (history p)
ask_extends most p now ask (Err e) = extends_same (history p)

next_extends : (rules : Rules) (p : Past) (now : ℕ) (o : Option Key) → Extends (history p) (history (after_next rules p now o))
next_extends rules p now None = extends_same (history p)
next_extends rules p now (Some k) = ask_extends rules.queue p now (cancel k) (cancel_of rules p now k)

-- so it does by each of several cancels
cancels_extend : (rules : Rules) (p : Past) (now : ℕ) (ks : List Key) (i : ℕ) → Extends (history p) (history (cancelled rules p now ks i))
unfolding cancelled
cancels_extend rules p now ks zero = extends_same (history p)
cancels_extend rules p now ks (suc i) = extends_on _ _ _ (cancels_extend rules p now ks i) (next_extends rules (cancelled rules p now ks i) now (slice_get ks i))

ask_stays : (most : ℕ) (p : Past) (now : ℕ) (ask : OpView) (result : Result (Option Entry) Fault) → (after_ask most p now ask result).run ≡ p.run
ask_stays most p now ask (Ok c) = run_done most p now ask c
ask_stays most p now ask (Err e) = refl

-- the run goes on, and what is ended stays so
pub record GoesOn (w : World) (p : Past) (ended : Histories) : Type 0 where
  pub run : p.run ≡ w.past.run
  pub extends : Extends (history w.past) (history p)
  pub ended_is : ended ≡ w.ended

still : (w : World) → GoesOn w w.past w.ended
still w = record { run = refl; extends = extends_same (history w.past); ended_is = refl }

asked_on : (rules : Rules) (w : World) (now : ℕ) (ask : OpView) (result : Result (Option Entry) Fault) → GoesOn w (after_ask rules.queue w.past now ask result) w.ended
asked_on rules w now ask result = record { run = ask_stays rules.queue w.past now ask result; extends = ask_extends rules.queue w.past now ask result; ended_is = refl }

expired_on : (rules : Rules) (w : World) (now gone : ℕ) → GoesOn w (cancelled rules w.past now (taken_in w.past now) gone) w.ended
expired_on rules w now gone = record { run = run_cancelled rules w.past now (taken_in w.past now) gone; extends = cancels_extend rules w.past now (taken_in w.past now) gone; ended_is = refl }

-- ---- notes

none_behind : {A : Type 0} (xs : List A) → drop (length xs) xs ≡ []
none_behind [] = refl
none_behind (x ∷ xs) = none_behind xs

-- what is noted with the changes up to that past
abbrev pub noted_to : World → Past → Press
noted_to w p = record w.press { pending = w.press.pending ++ map change (changes_since w.past p) }

nothing_new : (w : World) → w.press ≡ noted_to w w.past
nothing_new w = ap (λ ns. record w.press { pending = ns }) (sym (ap (λ cs. w.press.pending ++ map change cs) (none_behind (history w.past)) ∙ append-nil w.press.pending))

-- ---- the parts

pub record Parts (w : World) (what : Effect) (r : Reply) (v : World) : Type 0 where
  pub clients : v.clients ≡ clients_after w.clients what r
  pub certified : v.certified ≡ certified_after w.certified what r
  pub quiet : only_asks what ≡ true → v.past ≡ w.past
  pub goes : goes_on what r ≡ true → GoesOn w v.past v.ended
  pub press : is_plain what r ≡ true → v.press ≡ noted_to w v.past

pub parts : (rules : Rules) (w : World) (what : Effect) (r : Reply) → Parts w what r (outcome rules w what r).next
parts rules w (writes now (Ok ask)) (Changed v) = record { clients = refl; certified = refl; quiet = λ asks. absurd (cc); goes = λ _. asked_on rules w now ask (accept_after rules.limits (history w.past) ask now); press = λ _. refl }
parts rules w (writes now (Ok ask)) Same = record { clients = refl; certified = refl; quiet = λ asks. absurd (cc); goes = λ _. asked_on rules w now ask (accept_after rules.limits (history w.past) ask now); press = λ _. refl }
parts rules w (cleans now) (Cleaned b) = record { clients = refl; certified = refl; quiet = λ asks. absurd (cc); goes = λ _. record { run = refl; extends = extends_same (history w.past); ended_is = refl }; press = λ _. nothing_new w }
parts rules w closes (Closed m) = record { clients = refl; certified = refl; quiet = λ asks. absurd (cc); goes = λ _. record { run = refl; extends = extends_same (history w.past); ended_is = refl }; press = λ _. nothing_new w }
parts rules w (expires now) (Expired run) = record { clients = refl; certified = refl; quiet = λ asks. absurd (cc); goes = λ _. expired_on rules w now run.gone; press = λ _. refl }
parts rules w begins (Begun n) = record { clients = refl; certified = refl; quiet = λ asks. absurd (cc); goes = λ _. still w; press = λ plain. absurd (cc) }
parts rules w copies (Copied c) = record { clients = refl; certified = refl; quiet = λ asks. absurd (cc); goes = λ _. still w; press = λ plain. absurd (cc) }
parts rules w publishes (Published n) = record { clients = refl; certified = refl; quiet = λ asks. absurd (cc); goes = λ _. still w; press = λ plain. absurd (cc) }
parts rules w (restarts run) (Restarted s) = record { clients = refl; certified = refl; quiet = λ asks. absurd (cc); goes = λ on. absurd (cc); press = λ plain. absurd (cc) }
parts rules w (writes now (Err cause)) (Changed v) = record { clients = refl; certified = refl; quiet = λ asks. absurd (cc); goes = λ _. still w; press = λ _. nothing_new w }
parts rules w (loads asked) (Doc d) = record { clients = refl; certified = refl; quiet = λ _. refl; goes = λ _. still w; press = λ _. nothing_new w }
parts rules w (looks key) (Doc d) = record { clients = refl; certified = refl; quiet = λ _. refl; goes = λ _. still w; press = λ _. nothing_new w }
parts rules w (takes client d) (Taken equal version) = record { clients = refl; certified = refl; quiet = λ _. refl; goes = λ _. still w; press = λ _. nothing_new w }
parts rules w (certifies client d) (Certified taken run version) = record { clients = refl; certified = refl; quiet = λ _. refl; goes = λ _. still w; press = λ _. nothing_new w }
parts rules w (shows client) (Held listed) = record { clients = refl; certified = refl; quiet = λ _. refl; goes = λ _. still w; press = λ _. nothing_new w }
parts rules w (shows_certified client) (Held listed) = record { clients = refl; certified = refl; quiet = λ _. refl; goes = λ _. still w; press = λ _. nothing_new w }
parts rules w what r = record { clients = refl; certified = refl; quiet = λ _. refl; goes = λ _. still w; press = λ _. nothing_new w }
