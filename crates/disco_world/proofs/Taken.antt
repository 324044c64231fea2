-- What is answered to a client, and the clients after it.
use Rattle.std.proofs.Common.{◌≡◌, ℕ, Bool, cond, eqb, List, Option, option_map, Result, Ok, Err, IfOk, IfErr, refl, sym, ap, subst, ◌∙◌}
use Rattle.disco_values.specs.declared.fault.Fault.{Fault}
use Rattle.disco_values.specs.declared.fault.Fault.TheVariants.{OutOfMemory}
use Rattle.disco_cache.specs.declared.payload.Payload.{Payload}
use Rattle.disco_client.specs.declared.certified.CertifiedCopy.{CertifiedCopy}
use Rattle.disco_client.specs.declared.known.Known.{Known}
use Rattle.disco_core.specs.State.{Rules}
use Rattle.disco_world.specs.Clients.{IsGiven, IsTakenReply, client_after, given, summaries}
use Rattle.disco_world.specs.Events.{World, certifies, shows, shows_certified, takes}
use Rattle.disco_world.specs.Outcomes.{Cache, after, outcome}
use Rattle.disco_world.specs.Steps.{AreHeld, ClientIsGiven, ClientTakes, Holders, reply_to_give, reply_to_show, reply_to_take}
use Rattle.disco_world.specs.declared.clients.Client.{Client}
use Rattle.disco_world.specs.declared.instance_summary.InstanceSummary.{InstanceSummary}

-- ---- what a look at a copy answers

module _ (rules : Rules) (w : World) (held : Holders) (are : AreHeld held w) (client : ℕ) (s : Cache) where
  pub showed : (r : Result (List InstanceSummary) Fault) → IfOk r (λ h. h ≡ summaries (option_map (λ (c : Client). c.copy) (held.plain client))) → IfErr r (λ e. e ≡ OutOfMemory) → (outcome rules w (shows client) (reply_to_show r)).may s s
  showed (Ok h) is memory = (is ∙ ap (λ o. summaries (option_map (λ (c : Client). c.copy) o)) (are.0 client), refl)
  showed (Err e) is memory = (memory, refl)

  pub showed_certified : (r : Result (List InstanceSummary) Fault) → IfOk r (λ h. h ≡ summaries (option_map (λ (c : CertifiedCopy). c.copy) (held.certified client))) → IfErr r (λ e. e ≡ OutOfMemory) → (outcome rules w (shows_certified client) (reply_to_show r)).may s s
  showed_certified (Ok h) is memory = (is ∙ ap (λ o. summaries (option_map (λ (c : CertifiedCopy). c.copy) o)) (are.1 client), refl)
  showed_certified (Err e) is memory = (memory, refl)

-- ---- clients of either kind

module _ (rules : Rules) (w : World) (old : Holders) (client : ℕ) (d : Payload) (are : AreHeld old w) (s : Cache) where
  pub took : (plain : ℕ → Option Client) (r : Result (Bool × Option ℕ) Fault) → ClientTakes old.plain plain client d r
      → AreHeld (record old { plain = plain }) (after rules w (takes client d) (reply_to_take r)) × (outcome rules w (takes client d) (reply_to_take r)).may s s
  took plain (Ok told) is = (
    (λ q. is.1 q ∙ (λ i. cond (eqb q client) (client_after d (are.0 client i)) (are.0 q i)), are.1),
    (subst (λ o. IsTakenReply d (client_after d o) told.0 told.1) (are.0 client) is.0, refl),
  )
  took plain (Err e) is = (
    (λ q. is.1 q ∙ are.0 q, are.1),
    (λ other. ((is.0 other).0, ap (client_after d) (sym (are.0 client)) ∙ (is.0 other).1), refl),
  )

  pub gave : (certified : ℕ → Option CertifiedCopy) (r : Result (Bool × Known) Fault) → ClientIsGiven old.certified certified client d r
      → AreHeld (record old { certified = certified }) (after rules w (certifies client d) (reply_to_give r)) × (outcome rules w (certifies client d) (reply_to_give r)).may s s
  gave certified (Ok told) is = (
    (are.0, λ q. is.1 q ∙ (λ i. cond (eqb q client) (given d (are.1 client i)) (are.1 q i))),
    (subst (λ o. IsGiven d o told.0 told.1.run told.1.version) (are.1 client) is.0, refl),
  )
  gave certified (Err e) is = (
    (are.0, λ q. is.1 q ∙ are.1 q),
    (λ other. ((is.0 other).0, ap (given d) (sym (are.1 client)) ∙ (is.0 other).1), refl),
  )
