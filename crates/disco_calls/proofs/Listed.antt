-- The text of `Allow`, case by case.
use Rattle.std.proofs.Common.{refl}
use Rattle.disco_message.specs.StatusLine.{allowed}
use Rattle.disco_message.specs.declared.status_line.Allow.TheVariants as allow
use Rattle.disco_calls.specs.Laws.{AllowLaw}

pub allow_law : AllowLaw
unfolding allowed
allow_law allow.Get = refl
allow_law allow.GetPost = refl
allow_law allow.GetPutDelete = refl
allow_law allow.PutDelete = refl
allow_law allow.Put = refl
