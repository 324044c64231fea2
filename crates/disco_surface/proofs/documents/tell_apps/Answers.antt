use Rattle.std.proofs.Common.{◌≡◌, [], sym, ap, subst, ◌∙◌}
use Rattle.disco_history.proofs.Sets.{said_nil}
use Rattle.disco_index.proofs.Changes.{empty_law}
use Rattle.disco_index.proofs.VipLaws.{no_vips_law}
use Rattle.disco_index.specs.Tally.{Tally, tally_in, tally_of}
use Rattle.disco_index.specs.Vips.{IsIndexOf, VipKeys, no_vips}
use Rattle.disco_instance.specs.declared.Form.{Form}
use Rattle.disco_registry.specs.State.{RegistryState, StandsFor}
use Rattle.disco_writer.specs.Kept.{AreKept, StoredTexts, none_kept}
use Rattle.disco_writer.proofs.KeptLaws.{none_kept_law}
use Rattle.disco_surface.proofs.documents.tell_apps.Goals as goal

counts_are : (s : RegistryState) (t : Tally) → StandsFor s [] → t ≡ tally_of [] → t ≡ tally_in s.held
counts_are s t stands is = is ∙ sym empty_law ∙ ap tally_in (sym (stands.held ∙ said_nil))

vips_are : (s : RegistryState) (i : VipKeys) → StandsFor s [] → i ≡ no_vips → IsIndexOf i s.held
vips_are s i stands is = subst (λ (x : VipKeys). IsIndexOf x s.held) (sym is) (subst (λ m. IsIndexOf no_vips m) (sym (stands.held ∙ said_nil)) no_vips_law)

texts_are : (f : Form) (s : RegistryState) (v : StoredTexts) → StandsFor s [] → v ≡ none_kept → AreKept f v s.held
texts_are f s v stands is = subst (λ (x : StoredTexts). AreKept f x s.held) (sym is) (subst (λ m. AreKept f none_kept m) (sym (stands.held ∙ said_nil)) (none_kept_law f))

pub write_full-requires-clause-counts : goal.write_full-requires-clause-counts
write_full-requires-clause-counts c = counts_are c.args.registry.now c.args.counts.now c.requires.registry c.requires.counts

pub write_full-requires-clause-vips : goal.write_full-requires-clause-vips
write_full-requires-clause-vips c = vips_are c.args.registry.now c.args.vips.now c.requires.registry c.requires.vips

pub write_full-requires-clause-kept : goal.write_full-requires-clause-kept
write_full-requires-clause-kept c = texts_are Form.Full c.args.registry.now c.args.texts.now c.requires.registry c.requires.texts

pub write_compact-requires-clause-counts : goal.write_compact-requires-clause-counts
write_compact-requires-clause-counts c = counts_are c.args.registry.now c.args.counts.now c.requires.registry c.requires.counts

pub write_compact-requires-clause-vips : goal.write_compact-requires-clause-vips
write_compact-requires-clause-vips c = vips_are c.args.registry.now c.args.vips.now c.requires.registry c.requires.vips

pub write_compact-requires-clause-kept : goal.write_compact-requires-clause-kept
write_compact-requires-clause-kept c = texts_are Form.Compact c.args.registry.now c.args.texts.now c.requires.registry c.requires.texts
