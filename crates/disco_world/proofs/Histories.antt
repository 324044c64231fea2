-- Runs of events, with one more event.
use Rattle.std.proofs.Common.{◌≡◌, ◌⊎◌, inl, inr, ℕ, zero, suc, ◌+◌, ◌<◌, ◌≤◌, List, [], ◌∷◌, ◌++◌, length, get_or, cond, if◌then◌else◌, nat_lt, Option, Some, None, Ok, Err, slice_get, refl, sym, ap, subst, ◌∙◌, arith, length-append, add-one}
use Rattle.std.specs.declared.alloc.Global.{Global}
use Rattle.std.specs.declared.sync.Arc.{Arc}
use Rattle.std.proofs.lemmas.Bool.{le-ltb, lt-ltb}
use Rattle.std.proofs.lemmas.Option.{slice_get-get_or, same_Some}
use Rattle.disco_cache.specs.declared.payload.Payload.{Payload}
use Rattle.disco_core.specs.State.{Rules}
use Rattle.disco_core.specs.Past.{history, nothing}
use Rattle.disco_hub.specs.Press.{IsPressed, IsPublishable}
use Rattle.disco_hub.specs.State.{MayServe, HubStandsFor, rules_of}
use Rattle.disco_hub.proofs.Levels.{first_levels}
use Rattle.disco_hub.proofs.Pressed.{first_pressed}
use Rattle.std.specs.FinMap.{empty}
use Rattle.disco_world.specs.Answers.{AreAnswers, AreServed, IsFirstBadEvent}
use Rattle.disco_world.specs.Outcomes.{Cache, after, after_at, new_cache, new_world, outcome, world}
use Rattle.disco_world.specs.Levels.{AreLevelsOf, AnswersEvent}
use Rattle.disco_world.specs.declared.levels.CacheLevels.{CacheLevels}
use Rattle.disco_world.proofs.Rooms.{room_stays}
use Rattle.disco_world.proofs.Editions.{Sees, ShowsFresh, sees_at}
use Rattle.disco_values.specs.declared.fault.Fault.TheVariants.{BadEvent}
use Rattle.disco_world.specs.Events.{Effect, World, writes, loads, cleans, closes, expires, begins, copies, publishes, looks, takes, certifies, shows, shows_certified, restarts, bad, effect}
use Rattle.disco_world.specs.Steps.{AreAnswered, AreHeld, Holders, IsAnswer, cache_of}
use Rattle.disco_world.specs.declared.event.Event.{Event}
use Rattle.disco_world.specs.declared.event.Reply.{Reply}
use Rattle.disco_world.specs.declared.event.Reply.TheVariants.{Doc}

-- ---- lists

pub get_front : {A : Type 0} (xs : List A) (x : A) (i : ℕ) → i < length xs → slice_get (xs ++ x ∷ []) i ≡ slice_get xs i
get_front [] x i lt = absurd (omega (arith, lt))
get_front (y ∷ xs) x zero lt = refl
get_front (y ∷ xs) x (suc i) lt = get_front xs x i (omega (arith, lt))

pub get_last : {A : Type 0} (xs : List A) (x : A) → slice_get (xs ++ x ∷ []) (length xs) ≡ Some x
get_last [] x = refl
get_last (y ∷ xs) x = get_last xs x

pub get_past : {A : Type 0} (xs : List A) (x : A) (i : ℕ) → length xs < i → slice_get (xs ++ x ∷ []) i ≡ None
get_past [] x zero lt = absurd (omega (arith, lt))
get_past [] x (suc i) lt = refl
get_past (y ∷ xs) x zero lt = absurd (omega (arith, lt))
get_past (y ∷ xs) x (suc i) lt = get_past xs x i (omega (arith, lt))

-- an index of a list, of its front, of its last item, or past it
pub data Place (i n : ℕ) : Type 0 where
  below : i < n → Place i n
  at : i ≡ n → Place i n
  beyond : n < i → Place i n

one_on : (i n : ℕ) → Place i n → Place (suc i) (suc n)
one_on i n (below lt) = below (omega (arith, lt))
one_on i n (at e) = at (ap suc e)
one_on i n (beyond lt) = beyond (omega (arith, lt))

pub place_of : (i n : ℕ) → Place i n
place_of zero zero = at refl
place_of zero (suc n) = below (omega arith)
place_of (suc i) zero = beyond (omega arith)
place_of (suc i) (suc n) = one_on i n (place_of i n)

-- ---- histories

abbrev pub after_event : Rules → World → Event → Reply → World
after_event rules w e r = after rules w (effect rules w e) r

-- a history does not look past the replies to its events
world-front : (rules : Rules) (first_run : ℕ) (es : List Event) (rs : List Reply) (r : Reply) (i : ℕ) → i ≤ length rs → world rules first_run es (rs ++ r ∷ []) i ≡ world rules first_run es rs i
unfolding world
world-front rules first_run es rs r zero le = refl
world-front rules first_run es rs r (suc i) le =
    let lt : i < length rs = omega (arith, le) in
    λ k. after_at rules (world-front rules first_run es rs r i (omega (arith, le)) k) (slice_get es i) (get_front rs r i lt k)

world-suc : (rules : Rules) (first_run : ℕ) (es : List Event) (rs : List Reply) (i : ℕ) (e : Event) (r : Reply) → slice_get es i ≡ Some e → slice_get rs i ≡ Some r → world rules first_run es rs (i + 1) ≡ after_event rules (world rules first_run es rs i) e r
unfolding world
world-suc rules first_run es rs i e r event reply = ap (world rules first_run es rs) (add-one i) ∙ (λ k. after_at rules (world rules first_run es rs i) (event k) (reply k))

-- what was noted is as it has to be, with the rounds of a cache
abbrev pub IsPressedIn : World → Cache → Type 0
IsPressedIn w s = IsPressed w.past.run w.press.published w.press.pending (history w.past) s.rounds.edition s.rounds.round

-- an event may be answered so between two caches
abbrev pub MayIn : Rules → World → Event → Reply → Cache → Cache → Type 0
MayIn rules w e r old new = (outcome rules w (effect rules w e) r).may old new

-- and after the first k events, with those of some cache
abbrev pub IsPressedAt : Rules → ℕ → List Event → List Reply → ℕ → Type 0
IsPressedAt rules first_run es rs k = (s : Cache) × IsPressedIn (world rules first_run es rs k) s

-- the event of index k may be answered so
abbrev pub MayAt : Rules → ℕ → List Event → List Reply → ℕ → Event → Reply → Cache → Cache → Type 0
MayAt rules first_run es rs k e r old new = MayIn rules (world rules first_run es rs k) e r old new

-- what was kept and copied, up to the first i events, which leave this
pub record IsCourse (most : ℕ) (rules : Rules) (first_run : ℕ) (es : List Event) (rs : List Reply) (i : ℕ) (now : Cache) : Type 0 where
  pub caches : ℕ → Cache
  pub first : caches 0 ≡ new_cache most
  pub last : caches i ≡ now
  pub each : (k : ℕ) (e : Event) (r : Reply) → slice_get es k ≡ Some e → slice_get rs k ≡ Some r → MayAt rules first_run es rs k e r (caches k) (caches (k + 1))
  pub pressed : (k : ℕ) → k ≤ i → IsPressedIn (world rules first_run es rs k) (caches k)

module _ (most : ℕ) (rules : Rules) (first_run : ℕ) (es : List Event) (rs : List Reply) (i : ℕ) (now : Cache) (course : IsCourse most rules first_run es rs i now) where
  -- what was noted is in step with the rounds of some cache
  pub some_pressed : (k : ℕ) → k ≤ i → IsPressedAt rules first_run es rs k
  some_pressed k le = (course.caches k, course.pressed k le)

  -- each event is answered
  pub answered : AreAnswered rules first_run es rs
  answered = λ k e r event reply. record { old = course.caches k; new = course.caches (k + 1); may = course.each k e r event reply }

-- what is true of a run after its first i events
pub record IsRun (most : ℕ) (rules : Rules) (first_run : ℕ) (es : List Event) (rs : List Reply) (i : ℕ) (s : CacheLevels) (clients : Holders) : Type 0 where
  pub count : length rs ≡ i
  pub levels : AreLevelsOf s (world rules first_run es rs i)
  pub course : IsCourse most rules first_run es rs i (cache_of s.hub)
  pub held : AreHeld clients (world rules first_run es rs i)
  pub replies : (world rules first_run es rs i).replies ≡ rs
  pub rules_are : rules_of s.hub ≡ rules
  pub room : s.hub.docs.max ≡ most

module _ (rules : Rules) (first_run : ℕ) (es : List Event) (rs : List Reply) (i : ℕ) (e : Event) (r : Reply) (count : length rs ≡ i) (event : slice_get es i ≡ Some e) where
  last_reply : slice_get (rs ++ r ∷ []) i ≡ Some r
  last_reply = ap (slice_get (rs ++ r ∷ [])) (sym count) ∙ get_last rs r

  same_front : (k : ℕ) → k ≤ length rs → world rules first_run es (rs ++ r ∷ []) k ≡ world rules first_run es rs k
  same_front k le = world-front rules first_run es rs r k le

  world_next : world rules first_run es (rs ++ r ∷ []) (i + 1) ≡ after_event rules (world rules first_run es rs i) e r
  world_next = world-suc rules first_run es (rs ++ r ∷ []) i e r event last_reply ∙ ap (λ p. after_event rules p e r) (same_front i (omega (arith, count)))

  -- what is kept after the event comes last
  abbrev extended : (ℕ → Cache) → Cache → ℕ → Cache
  extended caches new k = if nat_lt k (i + 1) then caches k else new

  before_it : (caches : ℕ → Cache) (new : Cache) (k : ℕ) → k < i + 1 → extended caches new k ≡ caches k
  before_it caches new k lt = ap (λ b. cond b (caches k) new) (lt-ltb k (i + 1) lt)

  after_it : (caches : ℕ → Cache) (new : Cache) (k : ℕ) → k ≡ i + 1 → extended caches new k ≡ new
  after_it caches new k is = ap (λ b. cond b (caches k) new) (le-ltb k (i + 1) (omega (arith, is)))

  module _ (most : ℕ) (old new : Cache) (course : IsCourse most rules first_run es rs i old) where
    abbrev at_each : ℕ → Cache
    at_each = extended course.caches new

    here_is : MayIn rules (world rules first_run es rs i) e r old new → MayAt rules first_run es (rs ++ r ∷ []) i e r (at_each i) (at_each (i + 1))
    here_is here =
        subst (λ x. x) (λ j. MayIn rules (sym (same_front i (omega (arith, count))) j) e r (sym (before_it course.caches new i (omega arith) ∙ course.last) j) (sym (after_it course.caches new (i + 1) refl) j)) here

    each_at : MayIn rules (world rules first_run es rs i) e r old new → (k : ℕ) (f : Event) (q : Reply) → slice_get es k ≡ Some f → slice_get (rs ++ r ∷ []) k ≡ Some q → Place k (length rs)
        → MayAt rules first_run es (rs ++ r ∷ []) k f q (at_each k) (at_each (k + 1))
    each_at here k f q ev rep (below lt) =
        let so_far = course.each k f q ev (sym (get_front rs r k lt) ∙ rep) in
        subst (λ x. x) (λ j. MayIn rules (sym (same_front k (omega (arith, lt))) j) f q (sym (before_it course.caches new k (omega (arith, lt, count))) j) (sym (before_it course.caches new (k + 1) (omega (arith, lt, count))) j)) so_far
    each_at here k f q ev rep (at is) =
        let same_k : k ≡ i = is ∙ count in
        let same_e : e ≡ f = same_Some e f (sym event ∙ ap (slice_get es) (sym same_k) ∙ ev) in
        let same_r : r ≡ q = same_Some r q (sym last_reply ∙ ap (slice_get (rs ++ r ∷ [])) (sym same_k) ∙ rep) in
        subst (λ x. x) (λ j. MayAt rules first_run es (rs ++ r ∷ []) (sym same_k j) (same_e j) (same_r j) (at_each (sym same_k j)) (at_each (sym same_k j + 1))) (here_is here)
    each_at here k f q ev rep (beyond lt) = absurd (let bad = sym (get_past rs r k lt) ∙ rep in cc)

    pressed_at : (levels : CacheLevels) → cache_of levels.hub ≡ new → AreLevelsOf levels (after_event rules (world rules first_run es rs i) e r) → (k : ℕ) → k ≤ i + 1 → Place k (i + 1) → IsPressedIn (world rules first_run es (rs ++ r ∷ []) k) (at_each k)
    pressed_at levels is_new are k le (below lt) =
        subst (λ x. x) (λ j. IsPressedIn (sym (same_front k (omega (arith, lt, count))) j) (sym (before_it course.caches new k lt) j)) (course.pressed k (omega (arith, lt)))
    pressed_at levels is_new are k le (at is) =
        let here : IsPressedIn (after_event rules (world rules first_run es rs i) e r) (cache_of levels.hub) = are.levels.pressed in
        subst (λ n. IsPressedIn (world rules first_run es (rs ++ r ∷ []) n) (at_each n)) (sym is)
        (subst (λ x. x) (λ j. IsPressedIn (sym world_next j) ((is_new ∙ sym (after_it course.caches new (i + 1) refl)) j)) here)
    pressed_at levels is_new are k le (beyond lt) = absurd (omega (arith, le, lt))

    pub course_more : (levels : CacheLevels) → cache_of levels.hub ≡ new → AreLevelsOf levels (after_event rules (world rules first_run es rs i) e r) → MayIn rules (world rules first_run es rs i) e r old new
        → IsCourse most rules first_run es (rs ++ r ∷ []) (i + 1) new
    course_more levels is_new are here = record {
      caches = at_each;
      first = before_it course.caches new 0 (omega arith) ∙ course.first;
      last = after_it course.caches new (i + 1) refl;
      each = λ k f q ev rep. each_at here k f q ev rep (place_of k (length rs));
      pressed = λ k le. pressed_at levels is_new are k le (place_of k (i + 1));
    }

  pub run_more : (most : ℕ) (old new : CacheLevels) (held now : Holders) → IsRun most rules first_run es rs i old held
      → ((w : World) → w.replies ≡ rs → AreHeld held w → AreLevelsOf old w → AnswersEvent (rules_of old.hub) w e r old.hub new now) → rules_of new.hub ≡ rules_of old.hub → IsRun most rules first_run es (rs ++ r ∷ []) (i + 1) new now
  run_more most old new held now run goes same =
      let w = world rules first_run es rs i in
      let what = effect rules w e in
      let done : AnswersEvent rules w e r old.hub new now = subst (λ l. AnswersEvent l w e r old.hub new now) run.rules_are (goes w run.replies run.held run.levels) in
      record {
        count = length-append rs (r ∷ []) ∙ ap (λ n. n + 1) count;
        levels = subst (AreLevelsOf new) (sym world_next) done.0;
        course = course_more most (cache_of old.hub) (cache_of new.hub) run.course new refl done.0 done.2;
        held = subst (AreHeld now) (sym world_next) done.1;
        replies = ap (λ (x : World). x.replies) world_next ∙ ap (λ xs. xs ++ r ∷ []) run.replies;
        rules_are = same ∙ run.rules_are;
        room = room_stays rules w what r (cache_of old.hub) (cache_of new.hub) done.2 ∙ run.room;
      }

-- ---- served documents

-- a document that is answered to an effect may be served so
abbrev IsServed : Rules → ℕ → List Event → List Reply → ℕ → Effect → Payload → Type 0
IsServed rules first_run es rs i what d = (after : ℕ) × ((world rules first_run es rs (i + 1)).press.floor ≤ after) × (after ≤ i + 1) × MayServe d (world rules first_run es rs after).past
    × (((what ≡ loads (Ok d.key)) × (after ≡ i + 1)) ⊎ (what ≡ looks (Some d.key)))

-- it comes from a load or a look, after which what readers see is as before
load_or_look : (rules : Rules) (first_run : ℕ) (es : List Event) (rs : List Reply) (i : ℕ) → Sees rules first_run es rs i → (what : Effect) (d : Arc Payload Global) → IsAnswer rules (world rules first_run es rs i) what (Doc d)
    → (v : World) → world rules first_run es rs (i + 1) ≡ v → v ≡ after rules (world rules first_run es rs i) what (Doc d) → IsServed rules first_run es rs i what d.value
load_or_look rules first_run es rs i sees (loads asked) d answer v next is =
    let same : world rules first_run es rs (i + 1) ≡ after rules (world rules first_run es rs i) (loads asked) (Doc d) = next ∙ is in (
      i + 1,
      omega (arith, ap (λ (w : World). w.press.floor) same, sees.sees.floor, sees.count),
      omega arith,
      subst (λ (w : World). MayServe d.value w.past) (sym same) answer.may.1,
      inl (ap loads answer.may.0, refl),
    )
load_or_look rules first_run es rs i sees (looks (Some k)) d answer v next is =
    let was = sees.sees.shown k d.value answer.may.0 in
    let same : world rules first_run es rs (i + 1) ≡ after rules (world rules first_run es rs i) (looks (Some k)) (Doc d) = next ∙ is in (
      was.after,
      omega (arith, ap (λ (w : World). w.press.floor) same, was.since),
      omega (arith, was.within),
      was.served,
      inr (ap (λ k. looks (Some k)) (sym was.key)),
    )
load_or_look rules first_run es rs i sees (looks None) d answer v next is = absurd (let none = answer.may.0 in cc)
load_or_look rules first_run es rs i sees (writes now (Ok ask)) d answer v next is = absurd answer.may.0
load_or_look rules first_run es rs i sees (writes now (Err cause)) d answer v next is = absurd answer.may.0
load_or_look rules first_run es rs i sees (cleans now) d answer v next is = absurd answer.may.0
load_or_look rules first_run es rs i sees closes d answer v next is = absurd answer.may.0
load_or_look rules first_run es rs i sees (expires now) d answer v next is = absurd answer.may.0
load_or_look rules first_run es rs i sees begins d answer v next is = absurd answer.may.0
load_or_look rules first_run es rs i sees copies d answer v next is = absurd answer.may.0
load_or_look rules first_run es rs i sees publishes d answer v next is = absurd answer.may.0
load_or_look rules first_run es rs i sees (takes client p) d answer v next is = absurd answer.may.0
load_or_look rules first_run es rs i sees (certifies client p) d answer v next is = absurd answer.may.0
load_or_look rules first_run es rs i sees (shows client) d answer v next is = absurd answer.may.0
load_or_look rules first_run es rs i sees (shows_certified client) d answer v next is = absurd answer.may.0
load_or_look rules first_run es rs i sees (restarts run) d answer v next is = absurd answer.may.0
load_or_look rules first_run es rs i sees bad d answer v next is = absurd answer.may.0

in_range : {A : Type 0} (xs : List A) (i : ℕ) (x : A) → slice_get xs i ≡ Some x → i < length xs
in_range [] i x is = absurd (cc)
in_range (y ∷ xs) zero x is = omega arith
in_range (y ∷ xs) (suc i) x is = omega (arith, in_range xs i x is)

pub served : (rules : Rules) (first_run : ℕ) (es : List Event) (rs : List Reply) → AreAnswered rules first_run es rs → ((i : ℕ) → i ≤ length rs → ShowsFresh rules first_run es rs i) → AreServed rules first_run es rs
served rules first_run es rs answers fresh = λ i e d event is.
    let lt = in_range rs i (Doc d) is in
    let sees = sees_at rules first_run es rs answers i (λ j le. fresh j (omega (arith, le, lt))) in
    load_or_look rules first_run es rs i sees (effect rules (world rules first_run es rs i) e) d (answers i e (Doc d) event is) _ refl (world-suc rules first_run es rs i e (Doc d) event is)

-- ---- all answers, and the first event that can't be run

pub all_answers : (most : ℕ) (rules : Rules) (first_run : ℕ) (es : List Event) (rs : List Reply) (i : ℕ) (now : Cache) → length rs ≡ i → IsCourse most rules first_run es rs i now → AreAnswers most rules first_run es rs
all_answers most rules first_run es rs i now count course = record {
  caches = course.caches;
  first = course.first;
  each = course.each;
  pressed = λ k le. course.pressed k (omega (arith, le, count));
}

pub first_bad : (most : ℕ) (rules : Rules) (first_run : ℕ) (es : List Event) (rs : List Reply) (i : ℕ) (e : Event) (n : ℕ) (s : CacheLevels) (held : Holders) → IsRun most rules first_run es rs i s held → slice_get es i ≡ Some e → n ≡ length rs
    → ((w : World) → w.replies ≡ rs → effect (rules_of s.hub) w e ≡ bad) → IsFirstBadEvent most rules first_run es (BadEvent (n + 1))
first_bad most rules first_run es rs i e n s held run event number is = record {
  replies = rs;
  event = e;
  before = all_answers most rules first_run es rs i (cache_of s.hub) run.count run.course;
  is_next = ap (slice_get es) run.count ∙ event;
  is_bad =
      ap (λ k. effect rules (world rules first_run es rs k) e) run.count
      ∙ ap (λ l. effect l (world rules first_run es rs i) e) (sym run.rules_are)
      ∙ is (world rules first_run es rs i) run.replies;
  number = ap (λ k. BadEvent (k + 1)) number;
}

pub at_index : {A : Type 0} (xs : List A) (i : ℕ) (x : A) → i < length xs → x ≡ get_or xs i x → slice_get xs i ≡ Some x
at_index xs i x lt is = slice_get-get_or xs i x lt ∙ ap (λ y. Some y) (sym is)

-- ---- nothing has happened yet

pub new_levels : (run most : ℕ) (s : CacheLevels) → HubStandsFor s.hub (nothing run) → cache_of s.hub ≡ new_cache most → s.published ≡ empty → AreLevelsOf s (new_world run)
new_levels run most s stands cache published = record {
  levels = first_levels run s.hub s.next stands (ap (λ (c : Cache). c.rounds) cache);
  published = published;
}

new_pressed : (rules : Rules) (first_run : ℕ) (es : List Event) (rs : List Reply) (most : ℕ) (k : ℕ) → k ≤ 0 → IsPressedIn (world rules first_run es rs k) (new_cache most)
unfolding world
new_pressed rules first_run es rs most zero le = first_pressed first_run
new_pressed rules first_run es rs most (suc k) le = absurd (omega (arith, le))

pub new_course : (most : ℕ) (rules : Rules) (first_run : ℕ) (es : List Event) (rs : List Reply) (now : Cache) → rs ≡ [] → now ≡ new_cache most → IsCourse most rules first_run es rs 0 now
new_course most rules first_run es rs now none is = record {
  caches = λ k. new_cache most;
  first = refl;
  last = sym is;
  each = λ k e r ev rep. absurd (let bad = ap (λ xs. slice_get xs k) (sym none) ∙ rep in cc);
  pressed = λ k le. new_pressed rules first_run es rs most k le;
}

-- ---- past the last reply nothing happens

get_beyond : {A : Type 0} (xs : List A) (i : ℕ) → length xs ≤ i → slice_get xs i ≡ None
get_beyond [] zero le = refl
get_beyond [] (suc i) le = refl
get_beyond (x ∷ xs) zero le = absurd (omega (arith, le))
get_beyond (x ∷ xs) (suc i) le = get_beyond xs i (omega (arith, le))

stays_one : (rules : Rules) (w : World) (e : Option Event) (r : Option Reply) → r ≡ None → after_at rules w e r ≡ w
stays_one rules w None r none = refl
stays_one rules w (Some e) r none = ap (after_at rules w (Some e)) none

world_stays : (rules : Rules) (first_run : ℕ) (es : List Event) (rs : List Reply) (k : ℕ) → length rs ≤ k → world rules first_run es rs (suc k) ≡ world rules first_run es rs k
unfolding world
world_stays rules first_run es rs k le = stays_one rules (world rules first_run es rs k) (slice_get es k) (slice_get rs k) (get_beyond rs k le)

ends_so : (rules : Rules) (first_run : ℕ) (es : List Event) (rs : List Reply) (k : ℕ) → (length rs ≤ k → world rules first_run es rs k ≡ world rules first_run es rs (length rs)) → Place (length rs) (suc k) → length rs ≤ suc k → world rules first_run es rs (suc k) ≡ world rules first_run es rs (length rs)
ends_so rules first_run es rs k so (below lt) le = world_stays rules first_run es rs k (omega (arith, lt)) ∙ so (omega (arith, lt))
ends_so rules first_run es rs k so (at is) le = ap (world rules first_run es rs) (sym is)
ends_so rules first_run es rs k so (beyond lt) le = absurd (omega (arith, lt, le))

world_end : (rules : Rules) (first_run : ℕ) (es : List Event) (rs : List Reply) (k : ℕ) → length rs ≤ k → world rules first_run es rs k ≡ world rules first_run es rs (length rs)
world_end rules first_run es rs zero le = let is : 0 ≡ length rs = omega (arith, le) in ap (world rules first_run es rs) is
world_end rules first_run es rs (suc k) le = ends_so rules first_run es rs k (world_end rules first_run es rs k) (place_of (length rs) (suc k)) le

-- what readers see may be published after any number of events
pub always_fresh : (rules : Rules) (first_run : ℕ) (es : List Event) (rs : List Reply) → ((k : ℕ) → k ≤ length rs → IsPressedAt rules first_run es rs k) → (i : ℕ) → ShowsFresh rules first_run es rs i
always_fresh rules first_run es rs pressed i = one (place_of i (length rs))
  where
    one : Place i (length rs) → ShowsFresh rules first_run es rs i
    one (below lt) = (pressed i (omega (arith, lt))).1.publishable
    one (at is) = (pressed i (omega (arith, is))).1.publishable
    one (beyond lt) = subst (λ (w : World). IsPublishable w.press.published) (sym (world_end rules first_run es rs i (omega (arith, lt)))) (pressed (length rs) (omega arith)).1.publishable
