-- Bytes that are pushed one after another.
use Rattle.std.proofs.Common.{◌≡◌, ℕ, List, ◌++◌, Result, Ok, Err, OnOk, ap, ◌∙◌, append_assoc}
use Rattle.disco_writer.specs.Joined.{Pushes}

both : (o a b x y : List ℕ) → a ≡ o ++ x → b ≡ a ++ y → b ≡ o ++ (x ++ y)
both o a b x y e f = f ∙ ap (λ (s : List ℕ). s ++ y) e ∙ append_assoc o x y

-- a push before one that may be refused
pub before : {E : Type 0} (r : Result (Unit {0}) E) {o a x : List ℕ} (b y : List ℕ) → Pushes o a x → OnOk r (Pushes a b y) → OnOk r (Pushes o b (x ++ y))
before (Ok u) {o = o} {a = a} {x = x} b y e f = record { items = both o a b x y e.items f.items }
before (Err z) b y e f = tt
