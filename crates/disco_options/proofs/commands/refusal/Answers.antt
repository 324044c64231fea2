use Rattle.std.proofs.Common.{Global, [], ◌∷◌, ◌⊎◌, inl, inr, ap, map, refl, string_bytes, subst, true, ◌≡◌, ◌∙◌}
use Rattle.std.proofs.lemmas.Result.{IfOk-weaker}
use Rattle.clap.specs.Kinds.{or_else}
use Rattle.clap.specs.Words.{App, HasKind, IsAmong, Kinds, fault_of, is_simple_and_free}
use Rattle.clap.specs.declared.error.kind.ErrorKind.{ErrorKind}
use Rattle.clap.specs.declared.error.kind.ErrorKind.TheVariants.{MissingSubcommand, OutOfMemory}
use Rattle.clap.proofs.OnLiterals.{clap_on_literals}
use Rattle.disco_options.specs.Options.{program_app}
use Rattle.disco_options.proofs.FirstKinds.{none_of, widened}
use Rattle.disco_options.proofs.commands.refusal.Goals as goal

is_plain : is_simple_and_free program_app ≡ true
unfolding clap_on_literals
is_plain = refl

missing : (kinds : Kinds) (k : ErrorKind) → kinds ≡ [] → k ≡ MissingSubcommand → (k ≡ OutOfMemory) ⊎ IsAmong k (or_else kinds (MissingSubcommand ∷ []))
missing kinds k none e = rw none (inr (inl e))

pub returns-in-Ok : goal.returns-in-Ok
returns-in-Ok c =
    let words = map (string_bytes {Z = Global}) c.args.words.now in
    let none = none_of _ _ words c.in_ok-command.ensures (c.in-Ok.ensures.kinds (ap is_simple_and_free c.in_ok-command.ensures ∙ is_plain)) in
    IfOk-weaker c.error.result _ _ (λ e k. missing (fault_of program_app words) _ none k) c.error.ensures.kind

pub returns : goal.returns
returns c =
    let words = map (string_bytes {Z = Global}) c.args.words.now in
    let given = c.in-Err.ensures.kinds (ap is_simple_and_free c.in_ok-command.ensures ∙ is_plain) in
    widened _ (fault_of program_app words) _ (subst (λ (a : App). HasKind (fault_of a words) c.in-Err.error) c.in_ok-command.ensures given)
