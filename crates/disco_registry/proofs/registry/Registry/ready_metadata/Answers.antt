use Rattle.std.proofs.Common.{◌<◌, refl, sym, ap, subst, ◌∙◌, Some, Option, Ok, arith}
use Rattle.std.specs.FinMap.{len}
use Rattle.disco_values.specs.Entries.{with_entries}
use Rattle.disco_instance.specs.Row.{Row, row}
use Rattle.disco_values.specs.declared.action.Action.TheVariants.{Added}
use Rattle.disco_history.specs.Change.{Entry}
use Rattle.disco_registry.specs.Accept.{change_asked, limits_of}
use Rattle.disco_history.specs.Held.{record_at}
use Rattle.disco_registry.specs.Op.{add_metadata}
use Rattle.disco_registry.specs.Settle.{settle}
use Rattle.disco_registry.specs.Commit.{IsReady}
use Rattle.disco_registry.specs.State.{RegistryState}
use Rattle.disco_registry.proofs.Readies.{left_version, metadata_asked, needs_none, settle-key}
use Rattle.disco_registry.proofs.registry.Registry.ready_metadata.Goals as goal

pub returns-clause-ready : goal.returns-clause-ready
returns-clause-ready c =
    let s = c.args.self.now in
    let k = c.args.key.now in
    let es = c.args.entries.now in
    let now = c.args.now in
    let version = ap (λ (t : RegistryState). t.version) c.self.view_is in
    let versions = ap (λ (t : RegistryState). t.versions) c.self.view_is in
    let left : s.version < s.versions = omega (arith, version, versions) in
    let r = row c.in-Some.held.now in
    let there = sym (c.in-Some.ensures.found ∙ ap (λ (t : RegistryState). record_at t.held k) c.self.view_is) in
    let copied = ap row c.in_ok-copy.ensures.same in
    let posted = c.in_ok-posted.ensures.record_is ∙ ap (λ (x : Row). record x { metadata = with_entries x.metadata es }) copied in
    let new = c.in_ok-new.ensures.record_is ∙ ap (λ (x : Row). settle (Some r) x now) posted in
    let change = c.in_ok-ready.ensures.change ∙ ap (λ (e : Entry). Some e) c.in_ok-kept.ensures in
    let key = ap (λ (x : Row). x.key) new ∙ settle-key r (record r { metadata = with_entries r.metadata es }) now refl ∙ c.in-Some.ensures.same_key in (
      left_version (limits_of s) s.version (settle (Some r) (record r { metadata = with_entries r.metadata es }) now, Added) (change_asked (limits_of s) (record_at s.held) (len s.held) (add_metadata k es) now)
          (metadata_asked (record_at s.held k) r es now there) left
          ∙ ap (λ (x : Row). Ok (Some (x, Added))) (sym new) ∙ ap (λ (o : Option Entry). Ok o) (sym change),
      subst (IsReady s) (sym change) (left, needs_none s.held k c.in_ok-new.new.key r s.next there key),
    )
