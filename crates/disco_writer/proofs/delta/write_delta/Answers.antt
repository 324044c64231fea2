use Rattle.std.proofs.Common.{◌≡◌, List, map, ap, sym, subst, ◌∙◌}
use Rattle.std.specs.FinMap.{FinMap, values}
use Rattle.disco_values.specs.Key.{key_cmp}
use Rattle.disco_history.specs.Change.{Entry, change_view}
use Rattle.disco_history.specs.Hash.{hash}
use Rattle.disco_history.specs.Mentions.{delta}
use Rattle.disco_history.specs.Registry.{registry_of}
use Rattle.disco_history.proofs.Sets.{values-reg}
use Rattle.disco_index.specs.Tally.{rows_of}
use Rattle.disco_queue.specs.Latest.{Latest}
use Rattle.disco_queue.specs.Timed.{changes}
use Rattle.disco_values.specs.declared.query.Query.TheVariants as query
use Rattle.disco_writer.specs.Joined.{AllAgree, AreTextsOf, Shown, shown_by}
use Rattle.disco_writer.specs.Kept.{AreKept}
use Rattle.disco_writer.proofs.Told.{delta_agree, told_are}
use Rattle.disco_writer.proofs.Written.{all_asked, all_there, some_written}
use Rattle.disco_writer.proofs.delta.write_delta.Goals as goal

pub returns-clause-written : goal.returns-clause-written
returns-clause-written c = λ h stands keeps.
    let hs = changes h in
    let form = c.args.form in
    let texts = c.args.texts.now in
    let es = map (λ (x : Latest). change_view x.2.now) c.as_slice.result.now in
    let same : es ≡ values (delta hs c.args.queue.now.base) = ap (map (λ (x : Latest). change_view x.2.now)) c.as_slice.ensures.value ∙ c.in_ok-last.ensures.history h keeps in
    let kept = subst (λ (m : FinMap key_cmp Entry). AreKept form texts m) stands.held c.requires.kept in
    let agree = subst (λ (xs : List Entry). AllAgree form texts xs) (sym same) (delta_agree form texts hs c.args.queue.now.base kept) in
    let are = subst (λ (ps : List Shown). AreTextsOf form ps es) (sym (ap shown_by c.as_slice-2.ensures.value ∙ c.in_ok-pieces.ensures.pieces)) (told_are form texts es c.in_ok-pieces.ensures.told agree) in
    let code : c.in_ok-hash.hash ≡ hash (values (registry_of hs)) =
    c.in_ok-hash.ensures.text (rows_of c.args.registry.now.held) c.requires.counts ∙ ap (λ (m : FinMap key_cmp Entry). hash (rows_of m)) stands.held ∙ ap hash (sym (values-reg hs)) in
    some_written form query.Delta hs c.args.queue.now.base es c.in_ok-hash.hash c.version.result _ same (code ∙ ap hash (sym (all_asked hs))) (c.version.ensures.version ∙ stands.version) (all_there hs)
    (c.in_ok-join_many.ensures.text form es are) (c.in_ok-join_many.ensures.means form es are)
