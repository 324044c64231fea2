use Rattle.std.proofs.Common.{◌≡◌, vec_len, sym, ap, ◌∙◌, arith}
use Rattle.std.proofs.lemmas.Bool.Decides.{nat_tests}
use Rattle.std.specs.FinMap as map
use Rattle.disco_history.proofs.SortedBy.{len_of}
use Rattle.disco_cache.specs.Docs.{Docs}
use Rattle.disco_cache.specs.Kept.{doc_key, payload_in}
use Rattle.disco_cache.proofs.Drops.{none_there, one_of_both, then}
use Rattle.disco_values.proofs.Orders.{docs_total, exact_docs}
use Rattle.disco_cache.proofs.cache.DocCache.invalidate.Goals as goal

pub returns-then-is_empty : goal.returns-then-is_empty
returns-then-is_empty c =
    let none : vec_len c.self.inside.docs ≡ 0 = grind (arith, nat_tests, c.is_empty.ensures, c.if-is_empty.true) in
    none_there _ c.args.self.now (ap (λ (d : Docs). map.len d.docs) (sym c.self.view_is) ∙ len_of docs_total exact_docs doc_key payload_in c.self.inside.docs.items c.self.invariant ∙ sym c.self.inside.docs.ok.0 ∙ none)

pub returns-then-are_asked_alike : goal.returns-then-are_asked_alike
returns-then-are_asked_alike c = one_of_both _ _ c.args.self.now c.forget_any.new.self (c.are_asked_alike.ensures c.if-are_asked_alike.true) c.forget_any.ensures

pub returns : goal.returns
returns c = then _ _ c.args.self.now c.forget_any-2.new.self c.forget_any-3.new.self c.forget_any-2.ensures c.forget_any-3.ensures
