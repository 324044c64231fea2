-- Refreshes one after another.
use Rattle.std.proofs.Common.{ℕ, List, [], ◌∷◌, ◌++◌, Option, Result, refl, sym, ap, subst, ◌∙◌, append-nil}
use Rattle.std.proofs.lemmas.Grind.{flat_map-append}
use Rattle.std.specs.Io.KnownBytes.{Appends}
use Rattle.std.specs.List.{flat_map}
use Rattle.disco_values.specs.declared.fault.Fault.{Fault}
use Rattle.disco_values.specs.declared.doc_key.DocKey.{DocKey}
use Rattle.disco_reconcile.specs.State.{ClientState}
use Rattle.disco_reconcile.specs.declared.fetch.Fetched.{Fetched}
use Rattle.disco_follow.specs.Follows.{AreTurns, IsTurn}
use Rattle.disco_follow.specs.Telling.{Told}
use Rattle.disco_follow.specs.declared.wanted.Wanted.{Wanted}
use Rattle.disco_follow.proofs.Appended.{appends_then}

pub turns_more : {S : Type 0} (gives : S → DocKey → Result Fetched Fault → S → Type 0) (failed : S → ℕ) (wanted : Wanted) (old : ClientState S) (told : Told) (texts : List (List ℕ)) (between : ClientState S) (then_told : Told) (text : List ℕ) (new : ClientState S) (now : Told) →
    AreTurns gives failed wanted old told texts between then_told → IsTurn gives failed wanted between then_told text new now → AreTurns gives failed wanted old told (texts ++ text ∷ []) new now
turns_more gives failed wanted old told [] between then_told text new now all one =
    (new, now, subst (λ s. IsTurn gives failed wanted s told text new now) all.0 (subst (λ t. IsTurn gives failed wanted between t text new now) all.1 one), (refl, refl))
turns_more gives failed wanted old told (x ∷ xs) between then_told text new now all one =
    (all.0, all.1, all.2, turns_more gives failed wanted all.0 all.1 xs between then_told text new now all.3 one)

-- one text more is written
pub texts_more : (o m n : Option (List ℕ)) (texts : List (List ℕ)) (text : List ℕ) → Appends o m (flat_map (λ t. t) texts) → Appends m n text → Appends o n (flat_map (λ t. t) (texts ++ text ∷ []))
texts_more o m n texts text all one =
    subst (Appends o n) (ap (λ l. flat_map (λ t. t) texts ++ l) (sym (append-nil text)) ∙ sym (flat_map-append (λ t. t) texts (text ∷ []))) (appends_then o m n (flat_map (λ t. t) texts) text all one)
