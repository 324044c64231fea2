-- What is wrong with words, and what else may be.
use Rattle.std.proofs.Common.{◌≡◌, [], ◌∷◌, ◌⊎◌, List, inl, inr, ap, sym, ◌∙◌}
use Rattle.clap.specs.Kinds.{or_else}
use Rattle.clap.specs.Words.{App, IsAmong, Kinds, Text, fault_of}
use Rattle.clap.specs.declared.error.kind.ErrorKind.{ErrorKind}
use Rattle.clap.specs.declared.error.kind.ErrorKind.TheVariants.{OutOfMemory}

pub none_of : (a b : App) (words : List Text) → a ≡ b → fault_of a words ≡ [] → fault_of b words ≡ []
none_of a b words e h = sym (ap (λ x. fault_of x words) e) ∙ h

among_first : (k : ErrorKind) (kinds next : Kinds) → IsAmong k kinds → IsAmong k (or_else kinds next)
among_first k [] next h = absurd h
among_first k (x ∷ xs) next h = h

pub widened : (k : ErrorKind) (kinds next : Kinds) → (k ≡ OutOfMemory) ⊎ IsAmong k kinds → (k ≡ OutOfMemory) ⊎ IsAmong k (or_else kinds next)
widened k kinds next (inl memory) = inl memory
widened k kinds next (inr among) = inr (among_first k kinds next among)
