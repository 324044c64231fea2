use Rattle.std.proofs.Common.{◌≤◌, ℕ, arith, inl, inr, drop, length, length-drop, rules, subst}
use Rattle.std.proofs.lemmas.Result.{err_from_is_err_and}
use Rattle.disco_http.specs.Chunks.{HasSize}
use Rattle.disco_http.specs.Found.{IsLine}
use Rattle.disco_http.specs.Unread.{bytes_of}
use Rattle.disco_http.proofs.BodyTurns.{chunk_begun, last_begun, line_here, line_refused, line_size, line_waits, too_large}
use Rattle.disco_http.proofs.Fuel.{chunk_fuel, last_fuel, none_or_some}
use Rattle.disco_http.proofs.Slices.{bytes_fit}
use Rattle.disco_http.proofs.body.Body.read_line.Goals as goal

pub returns-in_default-clause-refused : goal.returns-in_default-clause-refused
returns-in_default-clause-refused c extent given more h =
    line_refused c.args.limits.now given c.args.self.now.bytes.items c.args.self.now.room extent c.args.self.now.left _ (bytes_of c.args.unread.now) more c.requires.left (c.in_default.ensures.refused more) h

pub returns-in_default-found-2-clause-turns : goal.returns-in_default-found-2-clause-turns
returns-in_default-found-2-clause-turns c extent given h =
    line_waits c.args.limits.now given c.args.self.now.bytes.items c.args.self.now.room extent c.args.self.now.left (bytes_of c.args.unread.now) c.requires.left (search rules) (search rules) h

pub returns-in_err-begin_chunk-clause-refused : goal.returns-in_err-begin_chunk-clause-refused
returns-in_err-begin_chunk-clause-refused c =
    let p = err_from_is_err_and c.from_residual.result c.from_residual.ensures.1 in
    let u = bytes_of c.args.unread.now in
    let line : IsLine u c.in-Some-SizeLine.len c.in-Some-SizeLine.size = search rules in
    let small : length u ≤ c.args.limits.now.head = omega (arith, bytes_fit c.args.unread.now, c.requires.size) in
    let large = c.in_err-begin_chunk.ensures.refused in
    rw (p.1, p.2, large.0) (λ extent given more h. too_large c.args.limits.now given c.args.self.now.bytes.items c.args.self.now.room extent c.args.self.now.left c.in-Some-SizeLine.size u (drop c.in-Some-SizeLine.len u) more c.requires.left (line_here c.args.limits.now u c.in-Some-SizeLine.len c.in-Some-SizeLine.size line small) large.1 h)

pub returns-clause-turns : goal.returns-clause-turns
returns-clause-turns c extent given h =
    let limits = c.args.limits.now in
    let self = c.args.self.now in
    let u = bytes_of c.args.unread.now in
    let size = c.in-Some-SizeLine.size in
    let after = drop c.in-Some-SizeLine.len u in
    let line : IsLine u c.in-Some-SizeLine.len size = search rules in
    let small : length u ≤ limits.head = omega (arith, bytes_fit c.args.unread.now, c.requires.size) in
    let has = line_here limits u c.in-Some-SizeLine.len size line small in
    rw (c.begin_chunk.ensures.bytes, c.consume.ensures.rest)
    (elim (none_or_some size) [
      | inl none ↦
          let e = c.in_ok-begin_chunk.ensures.last none in
          rw (e.0, e.1) (last_begun limits given self.bytes.items self.room extent self.left u after c.requires.left (subst (λ (n : ℕ). HasSize limits n u after) none has) h)
      | inr some ↦
          let e = c.in_ok-begin_chunk.ensures.begun some in
          rw e.0 (chunk_begun limits given self.bytes.items self.room extent self.left size c.begin_chunk.new.self.room u after c.requires.left has some e.1 h)
    ])

pub returns-clause-goes : goal.returns-clause-goes
returns-clause-goes c is =
    let u = bytes_of c.args.unread.now in
    let line : IsLine u c.in-Some-SizeLine.len c.in-Some-SizeLine.size = search rules in
    let size = line_size u c.in-Some-SizeLine.len c.in-Some-SizeLine.size line in
    rw c.consume.ensures.rest (omega (arith, length-drop c.in-Some-SizeLine.len u, size.0, size.1))

pub returns-clause-fuel : goal.returns-clause-fuel
returns-clause-fuel c =
    let head = c.args.limits.now.head in
    let self = c.args.self.now in
    let new = c.begin_chunk.new.self in
    let u = bytes_of c.args.unread.now in
    let v = bytes_of c.consume.new.self in
    let small : length u ≤ head = omega (arith, bytes_fit c.args.unread.now, c.requires.size) in
    let fewer : length v ≤ length u = rw c.consume.ensures.rest (omega (arith, length-drop c.in-Some-SizeLine.len u)) in
    elim (none_or_some c.in-Some-SizeLine.size) [
      | inl none ↦
          let e = c.in_ok-begin_chunk.ensures.last none in
          rw e.1 (last_fuel head self.room (length u) (length v) self.left new.left c.requires.left e.0 fewer small)
      | inr some ↦
          let e = c.in_ok-begin_chunk.ensures.begun some in
          chunk_fuel head c.in-Some-SizeLine.size new.room self.room (length u) (length v) self.left new.left c.requires.left e.0 some e.1 fewer small
    ]
