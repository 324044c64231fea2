use Rattle.std.proofs.Common.{◌∙◌, ℕ, None, Result, Ok, Err, OnOk, ap, subst}
use Rattle.disco_reconcile.specs.State.{ClientState}
use Rattle.disco_reconcile.specs.declared.kept.Kept.TheVariants.{Certified}
use Rattle.disco_follow.specs.Follows.{Follows, turns_of}
use Rattle.disco_values.specs.declared.form.Form.{Form}
use Rattle.disco_follow.proofs.follow_command.tell.Goals as goal

-- what holds of a result that is good is carried over
ok_then : {A E : Type 0} (r : Result A E) (P Q : Type 0) → (P → Q) → OnOk r P → OnOk r Q
ok_then (Ok a) P Q f p = f p
ok_then (Err e) P Q f p = p

-- a certified client without a copy, of whose fetcher the failures are known
abbrev begun : ℕ → Form → ClientState ℕ
begun failures form = record { fetcher = failures; form = form; kept = Certified None }

pub returns : goal.returns
returns g c =
    let out = g.W.Sink.contents in
    let form = c.args.plan.now.form in
    let first = c.certified-client.ensures ∙ ap (λ n. begun n form) c.requires in
    ok_then c.follow_client.result _ _
    (λ turns. (
      c.follow_client.new.client,
      subst (λ (s : ClientState ℕ). Follows (λ _ _ _ _. Unit {0}) (λ l. l) c.args.plan.now.wanted (turns_of c.args.plan.now.times) s c.follow_client.new.client (out c.args.out.now) (out c.follow_client.new.out)) first turns,
    ))
    c.follow_client.ensures.turns
