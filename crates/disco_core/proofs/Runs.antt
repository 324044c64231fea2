-- No operation begins a run.
use Rattle.std.proofs.Common.{◌≡◌, ℕ, Option, Some, None, refl}
use Rattle.disco_history.specs.Change.{Entry}
use Rattle.disco_registry.specs.Op.{OpView}
use Rattle.disco_core.specs.Past.{Past, with_done}

pub run_done : (most : ℕ) (p : Past) (now : ℕ) (ask : OpView) (c : Option Entry) → (with_done most p now ask c).run ≡ p.run
run_done most p now ask None = refl
run_done most p now ask (Some c) = refl
