use Rattle.std.proofs.Common.{IsUtf8, subst}
use Rattle.disco_instance.specs.Row.{row}
use Rattle.disco_writer.proofs.GroupTexts.{compact_ended, full_ended}
use Rattle.disco_writer.proofs.instance.write_texts.Goals as goal

pub returns-clause-full : goal.returns-clause-full
returns-clause-full c =
    let whole = full_ended _ _ (row c.args.rec.now) c.args.action c.in_ok-add_back.ensures.full c.in_ok-ended.ensures.full in
    record { all = whole.all; row = c.well_formed-2.ensures; utf8 = whole.utf8; app = subst IsUtf8 c.as_str-app.ensures c.as_str-app.utf8 }

pub returns-clause-compact : goal.returns-clause-compact
returns-clause-compact c =
    let whole = compact_ended _ _ (row c.args.rec.now) c.args.action c.in_ok-add_back.ensures.compact c.in_ok-ended.ensures.compact in
    record { all = whole.all; row = c.well_formed-2.ensures; utf8 = whole.utf8; app = subst IsUtf8 c.as_str-app.ensures c.as_str-app.utf8 }
