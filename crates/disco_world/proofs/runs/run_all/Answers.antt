use Rattle.std.proofs.Common.{◌≡◌, refl, sym, ap, subst, ◌∙◌, Option, Some, None, IfNone, arith}
use Rattle.disco_core.specs.State.{rules}
use Rattle.disco_world.specs.Outcomes.{Cache, world}
use Rattle.disco_world.specs.Steps.{AreReadable, cache_of, holders}
use Rattle.disco_world.specs.declared.event.Reply.{Reply}
use Rattle.disco_world.proofs.Histories.{all_answers, always_fresh, answered, at_index, first_bad, new_course, new_levels, run_more, served, some_pressed}
use Rattle.disco_world.proofs.AllAlong.{all_readable, exact, holds_at, known, rising}
use Rattle.disco_world.proofs.runs.run_all.Goals as goal

none_by : (o : Option Reply) (P : Type 0) → ((x : Reply) → o ≡ Some x → ⊥) → IfNone o P → P
none_by None P not is = is
none_by (Some x) P not is = absurd (not x refl)

pub loop-event-init : goal.loop-event-init
unfolding world
loop-event-init c = record {
  count = rw c.new-replies.ensures.items refl;
  levels = new_levels c.args.settings.now.run c.args.settings.now.entries c.args.levels.now c.requires.stands c.requires.cache c.requires.published;
  course = new_course c.args.settings.now.entries (rules c.args.settings.now) c.args.settings.now.run c.args.events.now c.new-replies.result.items (cache_of c.args.levels.now.hub) c.new-replies.ensures.items c.requires.cache;
  held = (λ q. search (c.requires.plain), λ q. search (c.requires.certified));
  replies = sym c.new-replies.ensures.items;
  rules_are = c.requires.ruled;
  room = ap (λ (s : Cache). s.docs.max) c.requires.cache;
}

pub answer-requires : goal.answer-requires
answer-requires c =
    let run = c.loop-event.invariant in
    let readable : AreReadable c.loop-event.replies.items = subst AreReadable run.replies (all_readable _ (holds_at (rules c.args.settings.now) c.args.settings.now.run c.args.events.now c.loop-event.replies.items (answered c.args.settings.now.entries _ _ _ _ _ _ run.course) c.loop-event.event-index (λ j le. (some_pressed c.args.settings.now.entries _ _ _ _ _ _ run.course j le).1.publishable))) in
    record { ruled = run.rules_are; room = run.room; readable = subst AreReadable (sym c.as_slice.ensures.value) readable }

pub returns-in_default-clause-refused : goal.returns-in_default-clause-refused
returns-in_default-clause-refused c = λ other.
    let run = c.loop-event.invariant in
    let es = c.args.events.now in
    let i = c.loop-event.event-index in
    let e = c.event-item.result in
    first_bad c.args.settings.now.entries (rules c.args.settings.now) c.args.settings.now.run es c.loop-event.replies.items i e c.len.result c.loop-event.levels (holders c.loop-event.clients) run
    (at_index es i e c.loop-event-test.true c.event-item.is) (omega (arith, c.len.ensures, c.loop-event.replies.ok.0))
    (λ w replies. none_by c.answer.result _ c.in_default.not-Some c.answer.ensures.is_bad w (replies ∙ sym c.as_slice.ensures.value))

pub loop-event-preserved : goal.loop-event-preserved
loop-event-preserved c =
    let es = c.args.events.now in
    let i = c.loop-event.event-index in
    let e = c.event-item.result in
    let run = c.loop-event.invariant in
    rw c.in_ok-push.ensures.items (run_more (rules c.args.settings.now) c.args.settings.now.run es c.loop-event.replies.items i e c.in-Some.reply run.count (at_index es i e c.loop-event-test.true c.event-item.is)
    c.args.settings.now.entries c.loop-event.levels c.answer.new.levels (holders c.loop-event.clients) (holders c.answer.new.clients) run
    (λ w replies held levels. c.in-Some.ensures.does w (replies ∙ sym c.as_slice.ensures.value) held levels) c.answer.ensures.rules)

pub returns-clause-answers : goal.returns-clause-answers
returns-clause-answers c =
    let run = c.loop-event.invariant in
    all_answers c.args.settings.now.entries (rules c.args.settings.now) c.args.settings.now.run c.args.events.now c.loop-event.replies.items c.loop-event.event-index (cache_of c.loop-event.levels.hub) run.count run.course

pub returns-clause-served : goal.returns-clause-served
returns-clause-served c =
    let run = c.loop-event.invariant in
    served (rules c.args.settings.now) c.args.settings.now.run c.args.events.now c.loop-event.replies.items (answered c.args.settings.now.entries _ _ _ _ _ _ run.course) (λ i le. (some_pressed c.args.settings.now.entries _ _ _ _ _ _ run.course i (omega (arith, le, run.count))).1.publishable)

pub returns-clause-known : goal.returns-clause-known
returns-clause-known c =
    let run = c.loop-event.invariant in
    let es = c.args.events.now in
    let rs = c.loop-event.replies.items in
    known (rules c.args.settings.now) c.args.settings.now.run es rs (answered c.args.settings.now.entries _ _ _ _ _ _ run.course) (always_fresh (rules c.args.settings.now) c.args.settings.now.run es rs (λ k le. some_pressed c.args.settings.now.entries _ _ _ _ _ _ run.course k (omega (arith, le, run.count))))

pub returns-clause-exact : goal.returns-clause-exact
returns-clause-exact c =
    let run = c.loop-event.invariant in
    let es = c.args.events.now in
    let rs = c.loop-event.replies.items in
    exact (rules c.args.settings.now) c.args.settings.now.run es rs (answered c.args.settings.now.entries _ _ _ _ _ _ run.course) (always_fresh (rules c.args.settings.now) c.args.settings.now.run es rs (λ k le. some_pressed c.args.settings.now.entries _ _ _ _ _ _ run.course k (omega (arith, le, run.count))))

pub returns-clause-rising : goal.returns-clause-rising
returns-clause-rising c = rising (rules c.args.settings.now) c.args.settings.now.run c.args.events.now c.loop-event.replies.items
