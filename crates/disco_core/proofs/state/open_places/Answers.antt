use Rattle.disco_history.specs.Change.{key_of, change_view}
use Rattle.disco_history.specs.Registry.{put_of}
use Rattle.std.proofs.lemmas.Result.{on_err_weaker}
use Rattle.disco_core.proofs.KeptTexts.{opens_none}
use Rattle.disco_core.proofs.Marks.{no_leases_more, no_vips_more}
use Rattle.disco_core.proofs.state.open_places.Goals as goal

pub returns-then-is_err-clause-given_back : goal.returns-then-is_err-clause-given_back
returns-then-is_err-clause-given_back c =
    let e = change_view c.in-Some.change.now in
    let made = c.open_all-opened in
    let swept = c.sweep_all in
    on_err_weaker made.result (λ same. (
      no_vips_more (put_of e) c.args.index.now made.new.index swept.new.index made.ensures.vips made.ensures.other_vips swept.ensures.vips swept.ensures.other_vips swept.ensures.swept_vips,
      no_leases_more (key_of e) c.args.book.now made.new.book swept.new.book made.ensures.leases made.ensures.other_leases swept.ensures.leases swept.ensures.other_leases swept.ensures.swept_leases,
      opens_none c.args.texts.now swept.new.texts swept.ensures.swept_texts,
      same,
    )) made.ensures.given_back
