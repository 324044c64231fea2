-- Histories that go on.
use Rattle.std.proofs.Common.{◌≡◌, ℕ, ◌≤◌, List, ◌++◌, length, Some, None, sym, ap, subst, ◌∙◌, arith}
use Rattle.std.proofs.lemmas.List.{length-append, take-append-le, take_all}
use Rattle.disco_history.specs.Change.{Entry, prefix}
use Rattle.disco_history.specs.Forms.{in_form}
use Rattle.disco_history.specs.Registry.{registry_of}
use Rattle.disco_wire.specs.Documents.{MeansFor, kind}
use Rattle.disco_reconcile.specs.Laws.{GrowthLaw, ServedLaw}

-- a front of a history is one of the history that goes on
same_front : (h later more : List Entry) (v : ℕ) → later ≡ h ++ more → v ≤ length h → prefix later v ≡ prefix h v
same_front h later more v is le = ap (λ l. prefix l v) is ∙ take-append-le v h more le

-- and no shorter
longer : (h later more : List Entry) (v : ℕ) → later ≡ h ++ more → v ≤ length h → v ≤ length later
longer h later more v is le = let e = ap length is in omega (arith, length-append h more, e)

pub growth : GrowthLaw
growth hs later f None on exact = tt
growth hs later f (Some k) on exact =
    let g = on k.known.run in
    let at = exact.1 in
    (exact.0, (longer (hs k.known.run) (later k.known.run) g.0 k.known.version g.1 at.0, at.1 ∙ ap (λ h. in_form k.known.form (registry_of h)) (sym (same_front (hs k.known.run) (later k.known.run) g.0 k.known.version g.1 at.0))))

pub served : ServedLaw
served hs run d h more is kind goes =
    let means = is.1.means in
    let all : d.version ≡ length h = means.now kind in
    let le : d.version ≤ length h = omega arith in
    let then : prefix h d.version ≡ h = ap (λ n. prefix h n) all ∙ take_all (length h) h (omega arith) in
    let now : h ≡ prefix (hs run) d.version = sym (same_front h (hs run) more d.version goes le ∙ then) in
    subst (λ r. (d.version ≤ length (hs r)) × MeansFor d.key.query d.text d.base d.version d.key.form (prefix (hs r) d.version)) (sym is.0)
    (longer h (hs run) more d.version goes le, subst (MeansFor d.key.query d.text d.base d.version d.key.form) now means)
