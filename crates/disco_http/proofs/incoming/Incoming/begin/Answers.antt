use Rattle.std.proofs.Common.{◌≤◌, ◌++◌, ℕ, List, arith, drop, inl, inr, length, rules, subst, sym}
use Rattle.std.proofs.lemmas.Result.{err_from_is_err_and}
use Rattle.httparse.specs.Spans.{IsRequestOf, IsRequestWithin}
use Rattle.disco_message.specs.Heading.{heading}
use Rattle.disco_message.specs.declared.received.Extent.TheVariants.{Framed}
use Rattle.disco_http.specs.declared.parts.Part.TheVariants as part
use Rattle.disco_http.specs.Bodies.{BodyRefused}
use Rattle.disco_http.specs.Coming.{BodyAt}
use Rattle.disco_http.specs.Parts.{PartRefused}
use Rattle.disco_http.specs.Requests.{BeginsWithHead}
use Rattle.disco_http.specs.Unread.{bytes_of}
use Rattle.disco_http.proofs.Heads.{request_here}
use Rattle.disco_http.proofs.Messages.{behind, no_memory, said}
use Rattle.disco_http.proofs.MoreBytes.{head_more}
use Rattle.disco_http.proofs.Refusals.{by_front}
use Rattle.disco_http.proofs.Slices.{bytes_fit}
use Rattle.disco_http.proofs.incoming.Incoming.begin.Goals as goal

pub returns-in_err-found-clause-refused : goal.returns-in_err-found-clause-refused
returns-in_err-found-clause-refused c =
    let p = err_from_is_err_and c.from_residual.result c.from_residual.ensures.1 in
    rw (p.1, p.2) (λ more. inl (by_front c.args.limits.now part.RequestHead _ _ (c.in_err-found.ensures.refused more)))

pub returns-in_err-head-clause-refused : goal.returns-in_err-head-clause-refused
returns-in_err-head-clause-refused c =
    let p = err_from_is_err_and c.from_residual-in_err-head.result c.from_residual-in_err-head.ensures.1 in
    let limits = c.args.limits.now in
    let u = bytes_of c.args.self.now.unread in
    let spans = c.find.new.spans.items in
    let line = c.in-Some-RequestHead.line in
    let within : IsRequestWithin u spans line = search rules in
    let is : IsRequestOf u spans line = search rules in
    let small : length u ≤ limits.head = omega (arith, bytes_fit c.args.self.now.unread, c.requires.size) in
    let few : length spans ≤ limits.fields = omega (arith, c.find.ensures.places, c.requires.places) in
    let begins = request_here limits u spans line is.0 small few within.section.len_fits is.1 in
    let told = c.in_err-head.ensures.says is.0 (search rules) in
    rw (p.1, p.2) (λ more. inr (is.0, drop line.len u ++ more, head_more limits u is.0 (drop line.len u) more begins, behind (λ h. heading h) (BeginsWithHead limits) (PartRefused limits part.RequestHead) (λ says. BodyRefused limits says.framing) (λ says. no_memory limits says.framing) c.in_err-head.field-0.0 is.0 (drop line.len u ++ more) told))

pub returns-in_err-body-clause-refused : goal.returns-in_err-body-clause-refused
returns-in_err-body-clause-refused c =
    let p = err_from_is_err_and c.from_residual-in_err-body.result c.from_residual-in_err-body.ensures.1 in
    let limits = c.args.limits.now in
    let u = bytes_of c.args.self.now.unread in
    let spans = c.find.new.spans.items in
    let line = c.in-Some-RequestHead.line in
    let within : IsRequestWithin u spans line = search rules in
    let is : IsRequestOf u spans line = search rules in
    let small : length u ≤ limits.head = omega (arith, bytes_fit c.args.self.now.unread, c.requires.size) in
    let few : length spans ≤ limits.fields = omega (arith, c.find.ensures.places, c.requires.places) in
    let begins = request_here limits u spans line is.0 small few within.section.len_fits is.1 in
    let says = c.in_ok-head.head in
    let told = said (λ h. heading h) (BeginsWithHead limits) says is.0 (c.in_ok-head.ensures.says is.0 (search rules)) in
    let refused : (after : List ℕ) → BodyRefused limits says.framing c.in_err-body.field-0.0 after = rw (sym c.framing.ensures) c.in_err-body.ensures.refused in
    rw (p.1, p.2) (λ more. inr (is.0, drop line.len u ++ more, head_more limits u is.0 (drop line.len u) more begins, inr (says, told, refused (drop line.len u ++ more))))

pub returns-clause-begun : goal.returns-clause-begun
returns-clause-begun c =
    let limits = c.args.limits.now in
    let u = bytes_of c.args.self.now.unread in
    let spans = c.find.new.spans.items in
    let line = c.in-Some-RequestHead.line in
    let within : IsRequestWithin u spans line = search rules in
    let is : IsRequestOf u spans line = search rules in
    let small : length u ≤ limits.head = omega (arith, bytes_fit c.args.self.now.unread, c.requires.size) in
    let few : length spans ≤ limits.fields = omega (arith, c.find.ensures.places, c.requires.places) in
    let begins = request_here limits u spans line is.0 small few within.section.len_fits is.1 in
    let says = c.in_ok-head.head in
    let told = said (λ h. heading h) (BeginsWithHead limits) says is.0 (c.in_ok-head.ensures.says is.0 (search rules)) in
    let after = drop line.len u in
    let b = c.in_ok-body.body in
    let at = subst (λ f. BodyAt limits (Framed f) after b.bytes.items b.left b.room after) c.framing.ensures (c.in_ok-body.ensures.begun after) in
    (after, (is.0, begins, told), subst (λ v. BodyAt limits (Framed says.framing) after b.bytes.items b.left b.room v) (sym c.consume.ensures.rest) at)
