-- Words with no fault are refused for want of memory alone.
use Rattle.std.proofs.Common.{◌≡◌, [], ap, inl, inr, subst}
use Rattle.clap.specs.Words.{HasKind, IsAmong, Kinds, kind_of}
use Rattle.clap.specs.declared.error.Error.{Error}
use Rattle.disco_options.specs.Faults.{status_of_kind}

pub no_memory : (kinds : Kinds) (e : Error) → kinds ≡ [] → HasKind kinds e → status_of_kind (kind_of e) ≡ 1
no_memory kinds e none (inl memory) = ap status_of_kind memory
no_memory kinds e none (inr among) = absurd (subst (IsAmong (kind_of e)) none among)
