use Rattle.std.proofs.Common.{ℕ, not, ap, sym, ◌∙◌}
use Rattle.std.specs.Char.{is_ascii_lowercase}
use Rattle.std.specs.List.{list_all}
use Rattle.disco_values.proofs.InUpperCase.{is_upper_already}
use Rattle.disco_values.proofs.text.Text.into_upper.Goals as goal

pub returns-then-is_upper-clause-text : goal.returns-then-is_upper-clause-text
returns-then-is_upper-clause-text c =
    let as_it_is = sym (c.as_bytes.ensures.value ∙ c.as_str.ensures) in
    is_upper_already c.args.self (ap (list_all (λ (b : ℕ). not (is_ascii_lowercase b))) as_it_is ∙ sym c.is_upper.ensures ∙ c.if-is_upper.true)
