use Rattle.std.proofs.Common.{ap, ◌∙◌, codes, false}
use Rattle.std.specs.Option.{option_map_or}
use Rattle.std.specs.Str.{bytes_eq}
use Rattle.clap.specs.Words.{found_of}
use Rattle.clap.proofs.WalkLemmas.{one_text-rows}
use Rattle.disco_options.proofs.Given.{flag_read}
use Rattle.disco_options.proofs.options.flag_given.Goals as goal

pub returns : goal.returns
returns c =
    c.unwrap_or.ensures ∙ flag_read _ _ c.get_one.result c.get_one.ensures.none c.get_one.ensures.value
    ∙ ap (λ o. option_map_or (λ text. bytes_eq text (codes "true")) o false) (one_text-rows (found_of c.args.matches.now) c.args.name.now)
