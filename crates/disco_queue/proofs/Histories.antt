-- A queue keeps a history from its base on.
use Rattle.std.proofs.Common.{◌≡◌, ℕ, ◌+◌, ◌≤◌, List, [], ◌∷◌, ◌++◌, length, drop, sym, ap, ◌∙◌, arith}
use Rattle.std.proofs.lemmas.List.{drop-append-le, drop-drop, length-append, length-drop}
use Rattle.disco_queue.specs.Queue.{KeepsHistory, Queue}
use Rattle.disco_queue.specs.Timed.{Timed}

-- where n leave at the front, it keeps the same history
pub keeps_dropped : (old new : Queue) (h : List Timed) (n : ℕ) → n ≤ length old.kept → new.base ≡ old.base + n → new.kept ≡ drop n old.kept → KeepsHistory old h → KeepsHistory new h
keeps_dropped old new h n few base kept keeps =
    let length_kept : length new.kept ≡ length (drop n old.kept) = ap length kept in
    record {
      contents = kept ∙ ap (drop n) keeps.contents ∙ drop-drop n old.base h ∙ ap (λ i. drop i h) (omega (arith, base));
      version = omega (arith, few, base, length_kept, length-drop n old.kept, keeps.version);
    }

-- one comes at the back
pub keeps_pushed : (old new : Queue) (h : List Timed) (t : Timed) → new.base ≡ old.base → new.kept ≡ old.kept ++ t ∷ [] → KeepsHistory old h → KeepsHistory new (h ++ t ∷ [])
keeps_pushed old new h t base kept keeps =
    let length_kept : length new.kept ≡ length (old.kept ++ t ∷ []) = ap length kept in
    let within : old.base ≤ length h = omega (arith, keeps.version) in
    record {
      contents = kept ∙ ap (λ ts. ts ++ t ∷ []) keeps.contents ∙ sym (drop-append-le old.base h (t ∷ []) within) ∙ ap (λ i. drop i (h ++ t ∷ [])) (sym base);
      version = omega (arith, base, length_kept, length-append old.kept (t ∷ []), length-append h (t ∷ []), keeps.version);
    }
