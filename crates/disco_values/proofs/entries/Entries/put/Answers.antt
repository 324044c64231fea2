use Rattle.std.proofs.Common.{sym, ap, set, ◌∙◌}
use Rattle.disco_values.specs.Entries.{is_by_name}
use Rattle.disco_values.proofs.Puts.{by_name-put, put_at, put_gap}
use Rattle.disco_values.proofs.entries.Entries.put.Goals as goal

pub invariant_of-self : goal.invariant_of-self
invariant_of-self c =
    let es = c.self.inside.entries.items in
    let at = rw c.deref.ensures.value at c.in-Ok.ensures.found in
    (λ j. is_by_name (set es c.in-Ok.i (c.replace.ensures.after j))) ∙ ap is_by_name (sym (put_at es c.in-Ok.i c.args.name c.args.text at)) ∙ by_name-put c.args.name c.args.text es c.requires c.self.invariant

pub returns-in-Ok : goal.returns-in-Ok
returns-in-Ok c =
    let es = c.self.inside.entries.items in
    let at = rw c.deref.ensures.value at c.in-Ok.ensures.found in
    rw (← c.self.view_is) ((λ j. set es c.in-Ok.i (c.replace.ensures.after j)) ∙ sym (put_at es c.in-Ok.i c.args.name c.args.text at))

pub invariant_of-self-in-Continue-1 : goal.invariant_of-self-in-Continue-1
invariant_of-self-in-Continue-1 c =
    let es = c.self.inside.entries.items in
    let gap = rw c.deref.ensures.value at c.in-Err.ensures.absent in
    ap is_by_name (c.in_ok-insert-in-Err.ensures.items ∙ sym (put_gap es c.in-Err.i c.args.name c.args.text gap)) ∙ by_name-put c.args.name c.args.text es c.requires c.self.invariant

pub returns-in_ok-insert-in-Err : goal.returns-in_ok-insert-in-Err
returns-in_ok-insert-in-Err c =
    let es = c.self.inside.entries.items in
    let gap = rw c.deref.ensures.value at c.in-Err.ensures.absent in
    rw (← c.self.view_is) (c.in_ok-insert-in-Err.ensures.items ∙ sym (put_gap es c.in-Err.i c.args.name c.args.text gap))
