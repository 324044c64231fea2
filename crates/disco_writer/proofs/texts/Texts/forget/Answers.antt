use Rattle.std.proofs.Common.{sym, ap, subst, Option, List, ℕ}
use Rattle.disco_values.specs.declared.key.Key.{Key}
use Rattle.disco_writer.specs.Empty.{OnlyNextIsEmpty}
use Rattle.disco_writer.specs.Named.{named_key, named_text}
use Rattle.disco_writer.proofs.Steps.{next_swept}
use Rattle.disco_writer.proofs.texts.Texts.forget.Goals as goal

pub returns-in-Some-clause-none_empty : goal.returns-in-Some-clause-none_empty
returns-in-Some-clause-none_empty c =
    let only = subst (λ (o : Option (Key × List ℕ)). OnlyNextIsEmpty o c.self.inside.places) (sym (ap named_text c.in-Some.ensures.value)) c.self.invariant in
    next_swept (named_key c.in-Some.named, c.in-Some.field-0-1) c.self.inside.places c.sweep.new.places only (rw c.key.ensures at c.sweep.ensures.swept)

pub invariant_of-self : goal.invariant_of-self
invariant_of-self c = λ q is.
    let only = subst (λ (o : Option (Key × List ℕ)). OnlyNextIsEmpty o c.self.inside.places) (sym (ap named_text c.in-Some.ensures.value)) c.self.invariant in
    absurd (next_swept (named_key c.in-Some.named, c.in-Some.field-0-1) c.self.inside.places c.sweep.new.places only (rw c.key.ensures at c.sweep.ensures.swept) q is)
