use Rattle.std.proofs.Common.{◌≡◌, ◌++◌, [], ℕ, List, append-nil, ap, arith, refl, rules, subst, ◌∙◌}
use Rattle.std.proofs.KnownBytes.{Keeps-refl}
use Rattle.std.specs.Io.KnownBytes.{Consumes}
use Rattle.disco_values.specs.declared.fault.Fault.TheVariants.{BadRequest}
use Rattle.disco_message.specs.declared.limits.Limits.{Limits}
use Rattle.disco_message.specs.declared.received.Extent.{Extent}
use Rattle.disco_message.specs.declared.received.Extent.TheVariants.{Framed, UntilEnd}
use Rattle.disco_http.specs.declared.body.Left.{Left}
use Rattle.disco_http.specs.declared.body.Left.TheVariants.{ToEnd}
use Rattle.disco_http.specs.Coming.{Awaits, BodyAt}
use Rattle.disco_http.specs.Found.{HasNoExtent}
use Rattle.disco_http.specs.Replies.{ExtentRefused, ReadsExtent}
use Rattle.disco_http.specs.Streams.{ahead, unread}
use Rattle.disco_http.proofs.CameBefore.{came}
use Rattle.disco_http.proofs.MoreBytes.{at_more, whole_more}
use Rattle.disco_http.proofs.ReadOn.{at_end, at_end_with, came_on, none_came, nothing, with_rest}
use Rattle.disco_http.specs.Unread.{bytes_of}
use Rattle.disco_http.proofs.reader.Reader.read_body.Goals as goal

none_whole : (limits : Limits) (extent : Extent) (given u : List ℕ) → Awaits limits extent given u → HasNoExtent limits extent given
none_whole limits (Framed framing) given u h = h.0
none_whole limits UntilEnd given u h = tt

refused_at : (limits : Limits) (extent : Extent) (given u : List ℕ) (framing : _) → extent ≡ Framed framing → Awaits limits extent given u → ExtentRefused limits extent BadRequest given
refused_at limits extent given u framing is h = rw is (rw is at h).1

all_came : (limits : Limits) (extent : Extent) (left : Left) (given bytes u : List ℕ) (room : ℕ) → extent ≡ UntilEnd → BodyAt limits extent given bytes left room u → Awaits limits extent given u → ReadsExtent limits extent given bytes []
all_came limits UntilEnd ToEnd given bytes u room is h none = (omega (arith, h.1), h.0 ∙ ap (λ (xs : List ℕ). bytes ++ xs) none ∙ append-nil bytes, refl)
all_came limits UntilEnd left given bytes u room is h none = elim h [ ]
all_came limits (Framed framing) left given bytes u room is h none = absurd (cc is)

drained : (limits : Limits) (extent : Extent) (given u : List ℕ) → extent ≡ UntilEnd → Awaits limits extent given u → u ≡ []
drained limits UntilEnd given u is h = h
drained limits (Framed framing) given u is h = absurd (cc is)

pub loop-body-init : goal.loop-body-init
loop-body-init g c =
    let self = c.args.self.now in
    let limits = self.limits in
    let u = unread self in
    let b = c.in_ok-body.body in
    record {
      came = came (λ given. BodyAt limits c.args.extent given b.bytes.items b.left b.room u) (ahead g.R.Source.remaining self) u (g.R.Source.remaining self.source) (Keeps-refl (ahead g.R.Source.remaining self)) (c.in_ok-body.ensures.begun u);
      limits = refl;
      spent = c.requires;
      phase = refl;
      failed = refl;
    }

pub returns-then-branch-clause-body : goal.returns-then-branch-clause-body
returns-then-branch-clause-body g c =
    let it = c.loop-body in
    let limits = c.args.self.now.limits in
    let extent = c.args.extent in
    let u = unread it.self in
    let v = bytes_of c.advance.new.unread in
    let bytes = c.advance.new.self.bytes.items in
    let turns = rw (c.if-branch.true, it.invariant.limits) at c.in_ok-advance.ensures.turns in
    with_rest (λ given. BodyAt limits extent given it.body.bytes.items it.body.left it.body.room u) (ahead g.R.Source.remaining c.args.self.now) (g.R.Source.remaining it.self.source) v (λ after rest. ReadsExtent limits extent after bytes rest) (λ given more h. whole_more limits extent given bytes v more (turns extent given h)) it.invariant.came

pub returns-in_err-more-clause-broken : goal.returns-in_err-more-clause-broken
returns-in_err-more-clause-broken g c failed =
    let it = c.loop-body in
    let limits = c.args.self.now.limits in
    let extent = c.args.extent in
    let turns = rw (c.if-branch.false, it.invariant.limits) at c.in_ok-advance.ensures.turns in
    came_on (λ given. BodyAt limits extent given it.body.bytes.items it.body.left it.body.room (unread it.self)) (HasNoExtent limits extent) [] (ahead g.R.Source.remaining c.args.self.now) (g.R.Source.remaining it.self.source) (g.R.Source.remaining c.more.new.self.source) (λ given h. rw (append-nil given) (none_whole limits extent given _ (turns extent given h).1)) (none_came _ _ c.in_err-more.ensures.broken.1) it.invariant.came

pub returns-in-UntilEnd-clause-body : goal.returns-in-UntilEnd-clause-body
returns-in-UntilEnd-clause-body g c =
    let it = c.loop-body in
    let limits = c.args.self.now.limits in
    let extent = c.args.extent in
    let first = ahead g.R.Source.remaining c.args.self.now in
    let begin = g.R.Source.remaining it.self.source in
    let left = g.R.Source.remaining c.more.new.self.source in
    let u = unread it.self in
    let v = bytes_of c.advance.new.unread in
    let b = c.advance.new.self in
    let bytes = b.bytes.items in
    let now = unread c.more.new.self in
    let turns = rw (c.if-branch.false, it.invariant.limits) at c.in_ok-advance.ensures.turns in
    let read = c.in_ok-more.ensures.came in
    let ended = c.more.ensures.end (search rules) in
    let none = nothing v now read.0 read.1 ended.0 in
    let all : (given : List ℕ) → BodyAt limits extent given it.body.bytes.items it.body.left it.body.room u → (now ≡ []) × ReadsExtent limits extent given bytes [] = λ given h.
    let t = turns extent given h in
    (ended.0 ∙ drained limits extent given v c.in-UntilEnd.is t.1, all_came limits extent b.left given bytes v b.room c.in-UntilEnd.is t.0 t.1) in
    at_end_with (λ given. (now ≡ []) × ReadsExtent limits extent given bytes []) first left now (λ after rest. ReadsExtent limits extent after bytes rest) ended.1 (λ given h. h)
    (came_on (λ given. BodyAt limits extent given it.body.bytes.items it.body.left it.body.room u) (λ given. (now ≡ []) × ReadsExtent limits extent given bytes []) [] first begin left (λ given h. rw (append-nil given) (all given h)) (subst (λ xs. Consumes begin left xs) none read.2) it.invariant.came)

pub returns-in-Framed-clause-refused : goal.returns-in-Framed-clause-refused
returns-in-Framed-clause-refused g c =
    let it = c.loop-body in
    let limits = c.args.self.now.limits in
    let extent = c.args.extent in
    let first = ahead g.R.Source.remaining c.args.self.now in
    let begin = g.R.Source.remaining it.self.source in
    let left = g.R.Source.remaining c.more.new.self.source in
    let u = unread it.self in
    let v = bytes_of c.advance.new.unread in
    let turns = rw (c.if-branch.false, it.invariant.limits) at c.in_ok-advance.ensures.turns in
    let read = c.in_ok-more.ensures.came in
    let ended = c.more.ensures.end (search rules) in
    let none = nothing v (unread c.more.new.self) read.0 read.1 ended.0 in
    at_end (ExtentRefused limits extent BadRequest) first left (ExtentRefused limits extent BadRequest) ended.1 (λ given h. h)
    (came_on (λ given. BodyAt limits extent given it.body.bytes.items it.body.left it.body.room u) (ExtentRefused limits extent BadRequest) [] first begin left (λ given h. rw (append-nil given) (refused_at limits extent given v _ c.in-Framed.is (turns extent given h).1)) (subst (λ xs. Consumes begin left xs) none read.2) it.invariant.came)

pub loop-body-preserved : goal.loop-body-preserved
loop-body-preserved g c =
    let it = c.loop-body in
    let limits = c.args.self.now.limits in
    let extent = c.args.extent in
    let u = unread it.self in
    let v = bytes_of c.advance.new.unread in
    let b = c.advance.new.self in
    let turns = rw (c.if-branch.false, it.invariant.limits) at c.in_ok-advance.ensures.turns in
    let read = c.in_ok-more.ensures.came in
    let more : (given : List ℕ) → BodyAt limits extent given it.body.bytes.items it.body.left it.body.room u → BodyAt limits extent (given ++ read.0) b.bytes.items b.left b.room (unread c.more.new.self) = λ given h.
    rw read.1 (at_more limits extent b.left given b.bytes.items v read.0 b.room (turns extent given h).0) in
    record {
      came = came_on (λ given. BodyAt limits extent given it.body.bytes.items it.body.left it.body.room u) (λ given. BodyAt limits extent given b.bytes.items b.left b.room (unread c.more.new.self)) read.0 (ahead g.R.Source.remaining c.args.self.now) (g.R.Source.remaining it.self.source) (g.R.Source.remaining c.more.new.self.source) more read.2 it.invariant.came;
      limits = search rules;
      spent = search rules;
      phase = search rules;
      failed = search rules;
    }
