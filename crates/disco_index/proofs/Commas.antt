-- The vips of an address, piece by piece.
use Rattle.std.proofs.Common.{◌≡◌, ℕ, ◌<◌, ◌==◌, Bool, false, not, cond, List, [], ◌∷◌, length, filter, sym, ap, ◌∙◌, arith}
use Rattle.std.specs.List.{before_first, after_first, position_or_len}
use Rattle.std.proofs.lemmas.List.Splits.{slice_split_first, slice_split_none}
use Rattle.std.proofs.lemmas.List.Sums.{fails_before_first}
use Rattle.disco_history.specs.Query.{vips}

abbrev pub is_comma : ℕ → Bool
is_comma b = b == 44

abbrev kept : List (List ℕ) → List (List ℕ)
kept = filter (λ p. not (length p == 0))

-- the vips of an address with a comma: the first piece, where it isn't empty, and those behind the comma
cut : (s : List ℕ) → position_or_len is_comma s < length s → vips s ≡ cond (not (length (before_first is_comma s) == 0)) (before_first is_comma s ∷ vips (after_first is_comma s)) (vips (after_first is_comma s))
cut s has =
    ap kept (slice_split_first is_comma s 0 has)

pub cut_full : (s piece after : List ℕ) → position_or_len is_comma s < length s → piece ≡ before_first is_comma s → after ≡ after_first is_comma s → (length piece == 0) ≡ false → vips s ≡ piece ∷ vips after
cut_full s piece after has p a full =
    cut s has
    ∙ ap (λ b. cond (not b) (before_first is_comma s ∷ vips (after_first is_comma s)) (vips (after_first is_comma s))) (ap (λ x. length x == 0) (sym p) ∙ full)
    ∙ (λ i. sym p i ∷ vips (sym a i))

-- an address with no comma is one piece
pub whole_full : (s : List ℕ) → position_or_len is_comma s ≡ length s → (length s == 0) ≡ false → vips s ≡ s ∷ vips []
whole_full s none full =
    ap kept (slice_split_none is_comma s (λ k d l. fails_before_first is_comma s k d (omega (arith, none, l))))
    ∙ ap (λ b. cond (not b) (s ∷ []) []) full
