use Rattle.std.proofs.Common.{ℕ, not, ap, sym, ◌∙◌}
use Rattle.std.specs.Char.{is_ascii_lowercase}
use Rattle.std.specs.List.{list_all}
use Rattle.disco_values.proofs.InUpperCase.{is_upper_already}
use Rattle.disco_values.proofs.text.upper_text.Goals as goal

pub returns-then-is_upper : goal.returns-then-is_upper
returns-then-is_upper c =
    let all = ap (list_all (λ (b : ℕ). not (is_ascii_lowercase b))) (sym c.as_bytes.ensures.value) ∙ sym c.is_upper.ensures ∙ c.if-is_upper.true in
    rw (← is_upper_already c.args.text.now all) c.new.ensures
