use Rattle.std.proofs.Common.{rules}
use Rattle.std.proofs.lemmas.Result.{err_from_is_err_and}
use Rattle.disco_http.specs.Unread.{bytes_of}
use Rattle.disco_http.proofs.BodyTurns.{trailer_refused, trailer_waits}
use Rattle.disco_http.proofs.body.Body.skip_trailer.Goals as goal

pub returns-in_err-len-clause-refused : goal.returns-in_err-len-clause-refused
returns-in_err-len-clause-refused c =
    let p = err_from_is_err_and c.from_residual.result c.from_residual.ensures.1 in
    rw (p.1, p.2) (λ extent given more h. trailer_refused c.args.limits.now given c.args.self.now.bytes.items c.args.self.now.room extent c.args.self.now.left _ (bytes_of c.args.unread.now) more c.requires.left (c.in_err-len.ensures.refused more) h)

pub returns-in_default-2-clause-turns : goal.returns-in_default-2-clause-turns
returns-in_default-2-clause-turns c extent given h =
    trailer_waits c.args.limits.now given c.args.self.now.bytes.items c.args.self.now.room extent c.args.self.now.left (bytes_of c.args.unread.now) c.requires.left (search rules) (search rules) h
