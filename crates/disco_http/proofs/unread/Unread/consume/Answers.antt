use Rattle.std.proofs.Common.{◌≤◌, ◌-◌, arith}
use Rattle.disco_http.proofs.Slices.{bytes_len, drop_part}
use Rattle.disco_http.proofs.unread.Unread.consume.Goals as goal

pub returns-clause-rest : goal.returns-clause-rest
returns-clause-rest c =
    let self = c.args.self.now in
    let few : c.args.count ≤ self.end - self.start = omega (arith, bytes_len self, c.requires) in
    drop_part self.buffer.items self.start self.end c.args.count self.ordered few
