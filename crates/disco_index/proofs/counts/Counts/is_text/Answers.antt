use Rattle.std.proofs.Common.{ap, ◌∙◌}
use Rattle.std.specs.Str.{bytes_eq}
use Rattle.disco_history.specs.Hash.{hash_by}
use Rattle.disco_index.specs.Behind.{behind}
use Rattle.disco_index.specs.Tally.{count_in}
use Rattle.disco_index.proofs.Stripped.{ends, ends-behind}
use Rattle.disco_index.proofs.counts.Counts.is_text.Goals as goal

pub returns-in-Some : goal.returns-in-Some
returns-in-Some c = λ rows is.
    let hash = hash_by (count_in c.args.self.now) in
    c.is_empty.ensures ∙ ap ends c.in-Some.ensures ∙ ap (λ t. ends (behind hash t)) c.as_bytes.ensures.value ∙ ends-behind hash c.args.text.now ∙ ap (λ t. bytes_eq c.args.text.now (hash_by (count_in t))) is

pub returns-in-None : goal.returns-in-None
returns-in-None c = λ rows is.
    let hash = hash_by (count_in c.args.self.now) in
    ap ends c.in-None.ensures ∙ ap (λ t. ends (behind hash t)) c.as_bytes.ensures.value ∙ ends-behind hash c.args.text.now ∙ ap (λ t. bytes_eq c.args.text.now (hash_by (count_in t))) is
