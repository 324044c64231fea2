use Rattle.std.proofs.Common.{◌≡◌, ◌++◌, ◌∙◌, ℕ, List, IfOk, Ok, Err, Result, append_assoc, codes, string_bytes, sym}
use Rattle.disco_options.specs.Faults.{IsCauseLine}
use Rattle.disco_options.proofs.faults.cause_line.Goals as goal

joined : (a b c d e f g : List ℕ) → a ++ b ++ c ++ d ++ e ++ f ++ g ≡ a ++ (b ++ (c ++ (d ++ (e ++ (f ++ g)))))
joined a b c d e f g =
    append_assoc (a ++ b ++ c ++ d ++ e) f g ∙ append_assoc (a ++ b ++ c ++ d) e (f ++ g) ∙ append_assoc (a ++ b ++ c) d (e ++ (f ++ g))
    ∙ append_assoc (a ++ b) c (d ++ (e ++ (f ++ g))) ∙ append_assoc a b (c ++ (d ++ (e ++ (f ++ g))))

is_line : {S E : Type 0} (bytes : S → List ℕ) (r : Result S E) (what address cause : List ℕ)
    → IfOk r (λ s. bytes s ≡ codes "discovery: " ++ (what ++ (codes " " ++ (address ++ (codes ": " ++ (cause ++ codes "\n")))))) → IfOk r (λ s. IsCauseLine (bytes s))
is_line bytes (Ok s) what address cause h = (what, address, cause, h ∙ sym (joined (codes "discovery: ") what (codes " ") address (codes ": ") cause (codes "\n")))
is_line bytes (Err e) what address cause h = tt

pub returns : goal.returns
returns g c = is_line string_bytes c.format-3.result c.args.what.now (string_bytes c.in_ok-address.address) (string_bytes c.in_ok-cause.cause) c.format-3.ensures.ok
