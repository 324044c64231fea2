use Rattle.std.proofs.Common.{◌≡◌, ◌⊎◌, inl, inr, ◌++◌, ℕ, List, [], Ok, Err, Option, Result, append-nil, refl, subst, sym}
use Rattle.std.specs.Io.KnownBytes.{Appends}
use Rattle.disco_http.specs.Causes.{Raises}
use Rattle.disco_http.specs.Writes.{WritesBytes}
use Rattle.disco_options.specs.Faults.{IsCauseLine, TellsCause}
use Rattle.disco_options.proofs.faults.explain.Goals as goal

told : {A E : Type 0} (r : Result A E) (old new : Option (List ℕ)) (before now : ℕ) (line : List ℕ) → IsCauseLine line → WritesBytes old new before now r line
    → (text : List ℕ) × Appends old new text × TellsCause text before now × ((now ≡ before) ⊎ Raises before now)
told (Ok a) old new before now line is h = (line, h.0, inr ([], subst IsCauseLine (sym (append-nil line)) is, inl refl), inl h.1)
told (Err e) old new before now line is h =
    let front = h.0 in
    (front.0, front.4, inr (front.1, subst IsCauseLine front.2 is, inr h.1), inr h.1)

pub returns : goal.returns
returns g c = told c.write_all.result _ _ _ _ _ c.in-Ok.ensures (rw c.as_bytes.ensures.value at c.write_all.ensures.written)
