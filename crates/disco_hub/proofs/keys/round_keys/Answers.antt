use Rattle.std.proofs.Common.{fold, map, sym, ap, ◌∙◌}
use Rattle.std.specs.FinMap as finmap
use Rattle.disco_values.proofs.Orders.{docs_total, exact_docs}
use Rattle.disco_history.proofs.SortedBy.{keys_of}
use Rattle.disco_hub.specs.Rounds.{KeySet, kept_keys}
use Rattle.disco_hub.specs.Stored.{add_within, key_pairs, mark, stored_key}
use Rattle.disco_hub.proofs.keys.round_keys.Goals as goal

pub returns-clause-keys : goal.returns-clause-keys
returns-clause-keys c =
    let edition = kept_keys (key_pairs c.args.edition.now) in
    let kept = finmap.keys c.args.cache.now.docs in
    let as_kept = ap (map (λ k. k.now)) c.as_slice.ensures.value ∙ c.in_ok-kept.ensures.keys in
    sym (keys_of docs_total exact_docs stored_key mark c.fill.new.keys.items c.in_ok-fill.ensures.order)
    ∙ ap (λ (ks : KeySet). finmap.keys ks)
    (c.in_ok-fill.ensures.keys ∙ (λ i. fold (add_within (c.entries.ensures i)) (c.in_ok-keys.ensures.keys i) (as_kept i)))
