use Rattle.std.proofs.Common.{rules, refl, sym, take, drop}
use Rattle.std.proofs.KnownBytes.{Appends-kept}
use Rattle.std.proofs.lemmas.List.{take-append-drop}
use Rattle.disco_http.specs.Causes.{Raises}
use Rattle.disco_http.proofs.Written.{write_part, some_left}
use Rattle.disco_http.proofs.whole.write_all.Goals as goal

pub returns-in-Err-clause-written : goal.returns-in-Err-clause-written
returns-in-Err-clause-written g c =
    let at = c.loop-at.at in
    let bytes = c.args.bytes.now in
    let raised : Raises (g.W.Sink.failed c.args.sink.now) (g.W.Sink.failed c.write.new.self) = search rules in
    ((take at bytes, drop at bytes, sym (take-append-drop at bytes), some_left bytes at (search rules), Appends-kept _ _ _ (take at bytes) c.loop-at.invariant.1 (search rules)), raised)

pub loop-at-preserved : goal.loop-at-preserved
loop-at-preserved g c =
    (search rules, write_part c.args.bytes.now _ c.loop-at.at c.in-Ok.count _ _ _ refl c.loop-at.invariant.1 (search rules), search rules)
