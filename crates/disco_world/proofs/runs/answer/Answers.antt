use Rattle.std.proofs.Common.{◌≡◌, Bor, Some, ap, option_map, refl, sym, ◌∙◌}
use Rattle.std.specs.BTreeMap as tree
use Rattle.std.specs.Ordering.{nat_cmp}
use Rattle.disco_world.specs.Events.{certifies, doc_of_event, takes}
use Rattle.disco_world.specs.Steps.{cache_of, holders, reply_to_give, reply_to_take}
use Rattle.disco_hub.specs.State.{rules_of}
use Rattle.disco_cache.specs.declared.payload.Payload.{Payload}
use Rattle.disco_world.proofs.Taken.{gave, took}
use Rattle.disco_world.proofs.LevelEffects.{quiet_turns}
use Rattle.disco_world.proofs.runs.answer.Goals as goal

pub returns-in-Some-clause-does : goal.returns-in-Some-clause-does
returns-in-Some-clause-does c = λ w replies held levels.
    let s = c.args.levels.now in
    let d = c.in-Some.payload.now in
    let named : doc_of_event w.replies c.in-Take.event ≡ Some d = ap (λ rs. doc_of_event rs c.in-Take.event) replies ∙ sym c.document.ensures ∙ ap (option_map (λ (p : Bor Payload). p.now)) c.in-Some.is in
    let answer = took (rules_of s.hub) w (holders c.args.clients.now) c.in-Take.client d held (cache_of s.hub) (tree.get nat_cmp c.take.new.clients) c.take.result c.take.ensures in
    rw (c.in-Take.is, named, c.took.ensures) (quiet_turns (rules_of s.hub) s w (takes c.in-Take.client d) (reply_to_take c.take.result) levels refl refl, answer.0, answer.1)

pub returns-in-Some-document-clause-does : goal.returns-in-Some-document-clause-does
returns-in-Some-document-clause-does c = λ w replies held levels.
    let s = c.args.levels.now in
    let d = c.in-Some-document.payload.now in
    let named : doc_of_event w.replies c.in-Certify.event ≡ Some d = ap (λ rs. doc_of_event rs c.in-Certify.event) replies ∙ sym c.document-in-Certify.ensures ∙ ap (option_map (λ (p : Bor Payload). p.now)) c.in-Some-document.is in
    let answer = gave (rules_of s.hub) w (holders c.args.clients.now) c.in-Certify.client d held (cache_of s.hub) (tree.get nat_cmp c.give.new.clients) c.give.result c.give.ensures in
    rw (c.in-Certify.is, named, c.gave.ensures) (quiet_turns (rules_of s.hub) s w (certifies c.in-Certify.client d) (reply_to_give c.give.result) levels refl refl, answer.0, answer.1)

pub returns-in-Step-clause-does : goal.returns-in-Step-clause-does
returns-in-Step-clause-does c = λ w replies held levels. rw c.in-Step.is (c.answer_step.ensures.does w held levels)
