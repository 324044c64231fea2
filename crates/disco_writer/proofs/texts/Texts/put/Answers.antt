use Rattle.std.proofs.Common.{IsSome, sym, ap, subst, ◌∙◌}
use Rattle.std.specs.FinMap.{get}
use Rattle.disco_writer.specs.Kept.{StoredTexts}
use Rattle.disco_writer.specs.Named.{named_key, named_text}
use Rattle.disco_writer.proofs.Steps.{next_kept, ready_place, text-ready}
use Rattle.disco_writer.proofs.texts.Texts.put.Goals as goal

pub returns-in-Some-clause-put : goal.returns-in-Some-clause-put
returns-in-Some-clause-put c = λ k t is.
    let key = named_key c.in-Some.named in
    let next = ap named_text c.in-Some.ensures.value ∙ (ap (λ (v : StoredTexts). v.next) c.self.view_is ∙ is.next) in
    let place = subst (λ (v : StoredTexts). IsSome (get v.places k)) (sym c.self.view_is) is.place in
    rw (← c.self.view_is) (text-ready c.self.inside.places c.put_named.new.places key k c.in-Some.text t next (c.put_named.ensures.there (ready_place c.self.inside.places key k c.in-Some.text t next place)))

pub returns-in-Some-clause-none_empty : goal.returns-in-Some-clause-none_empty
returns-in-Some-clause-none_empty c = next_kept (named_key c.in-Some.named) c.in-Some.text (named_text c.self.inside.next) c.self.inside.places c.put_named.new.places (ap named_text c.in-Some.ensures.value) c.self.invariant c.put_named.ensures.there c.put_named.ensures.none

pub invariant_of-self : goal.invariant_of-self
invariant_of-self c = λ q is. absurd (next_kept (named_key c.in-Some.named) c.in-Some.text (named_text c.self.inside.next) c.self.inside.places c.put_named.new.places (ap named_text c.in-Some.ensures.value) c.self.invariant c.put_named.ensures.there c.put_named.ensures.none q is)
