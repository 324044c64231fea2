use Rattle.std.proofs.Common.{ℕ, Bool, true, false, cond, sym, ap, ◌≡◌, ◌≤◌, ◌∙◌, nat_lt, refl, arith}
use Rattle.std.proofs.lemmas.Bool.{lt-ltb, ltb-true}
use Rattle.std.specs.FinMap.{insert, len}
use Rattle.disco_history.proofs.SortedBy.{len_of}
use Rattle.disco_values.proofs.Orders.{docs_total, exact_docs}
use Rattle.disco_hub.specs.Rounds.{KeySet}
use Rattle.disco_hub.specs.Stored.{stored_key, mark, seen_keys}
use Rattle.disco_hub.proofs.keys.add.Goals as goal

added : (b : Bool) (ks js : KeySet) → b ≡ true → cond b js ks ≡ js
added true ks js e = refl
added false ks js e = absurd (cc)

not_added : (b : Bool) (ks js : KeySet) → b ≡ false → cond b js ks ≡ ks
not_added false ks js e = refl
not_added true ks js e = absurd (cc)

decided : (b : Bool) → (b ≡ true → ⊥) → b ≡ false
decided true n = absurd (n refl)
decided false n = refl

not_less : (m n : ℕ) → n ≤ m → nat_lt m n ≡ false
not_less m n le = decided (nat_lt m n) (λ e. omega (arith, ltb-true m n e, le))

pub returns-in_ok-put-clause-keys : goal.returns-in_ok-put-clause-keys
returns-in_ok-put-clause-keys c =
    let ks = seen_keys c.args.keys.now.items in
    let many = len_of docs_total exact_docs stored_key mark c.args.keys.now.items c.requires in
    c.in_ok-put.ensures.keys
    ∙ sym (added (nat_lt (len ks) c.args.most) ks (insert ks c.args.key.now tt) (ap (λ n. nat_lt n c.args.most) (many ∙ sym (c.len.ensures ∙ c.args.keys.now.ok.0)) ∙ lt-ltb c.len.result c.args.most c.if-len-most.true))

pub returns-else-len-most-clause-keys : goal.returns-else-len-most-clause-keys
returns-else-len-most-clause-keys c =
    let ks = seen_keys c.args.keys.now.items in
    let many = len_of docs_total exact_docs stored_key mark c.args.keys.now.items c.requires in
    sym (not_added (nat_lt (len ks) c.args.most) ks (insert ks c.args.key.now tt) (ap (λ n. nat_lt n c.args.most) (many ∙ sym (c.len.ensures ∙ c.args.keys.now.ok.0)) ∙ not_less c.len.result c.args.most c.if-len-most.false))
