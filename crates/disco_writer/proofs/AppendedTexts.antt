-- Texts that are appended one after another.
use Rattle.std.proofs.Common.{◌≡◌, ℕ, List, [], ◌++◌, Result, Ok, Err, OnOk, IsUtf8, ap, subst, sym, ◌∙◌, append_assoc, append-nil}
use Rattle.std.proofs.lemmas.Str.{IsUtf8-append}
use Rattle.disco_writer.specs.Groups.{AppendsUtf8}

pub both : {a b c x y : List ℕ} → AppendsUtf8 a b x → AppendsUtf8 b c y → AppendsUtf8 a c (x ++ y)
both {a = a} {x = x} {y = y} f g = record { items = g.items ∙ ap (λ (s : List ℕ). s ++ y) f.items ∙ append_assoc a x y; utf8 = IsUtf8-append x y f.utf8 g.utf8 }

-- a text in front of what may be refused
pub before : {E : Type 0} (r : Result (Unit {0}) E) {a b x : List ℕ} (c y : List ℕ) → AppendsUtf8 a b x → OnOk r (AppendsUtf8 b c y) → OnOk r (AppendsUtf8 a c (x ++ y))
before (Ok u) c y f g = both f g
before (Err e) c y f g = tt

-- a piece is put behind a text
pub appended : {E : Type 0} (r : Result (Unit {0}) E) (a b : List ℕ) {x y : List ℕ} → OnOk r (b ≡ a ++ x) → x ≡ y → IsUtf8 y → OnOk r (AppendsUtf8 a b y)
appended (Ok u) a b e is utf8 = record { items = e ∙ ap (λ (s : List ℕ). a ++ s) is; utf8 = utf8 }
appended (Err z) a b e is utf8 = tt

-- the same text by another name
pub renamed : {E : Type 0} (r : Result (Unit {0}) E) (a b : List ℕ) {x y : List ℕ} → x ≡ y → OnOk r (AppendsUtf8 a b x) → OnOk r (AppendsUtf8 a b y)
renamed (Ok u) a b is f = subst (λ (s : List ℕ). AppendsUtf8 a b s) is f
renamed (Err e) a b is f = tt

-- the last text of a group, as it is printed
pub last : {E : Type 0} (r : Result (Unit {0}) E) (a b x : List ℕ) → OnOk r (AppendsUtf8 a b x) → OnOk r (AppendsUtf8 a b (x ++ []))
last r a b x f = renamed r a b (sym (append-nil x)) f
