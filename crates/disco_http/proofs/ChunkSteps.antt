-- Chunks one after another.
use Rattle.std.proofs.Common.{◌≡◌, ℕ, ◌+◌, List, [], ◌∷◌, ◌++◌, Option, Some, None, length, take, drop, sym, ◌∙◌, ap, refl, arith, subst, IfSome, append_assoc, append-nil, length-append}
use Rattle.std.specs.List.{concat}
use Rattle.std.specs.Io.KnownBytes.{Consumes}
use Rattle.std.proofs.Math.Seq.{drop-append-add, drop-append_seam, take-append-add}
use Rattle.std.proofs.lemmas.List.{take_at, take-append-drop, length-take}
use Rattle.httparse.specs.Ascii.{crlf_bytes}
use Rattle.disco_message.specs.declared.limits.Limits.{Limits}
use Rattle.disco_http.specs.Chunks.{ReadsChunk, ReadsPieces, LacksChunk}

pub known_is : (a : Option (List ℕ)) (now : List ℕ) (P : List ℕ → Type 0) → a ≡ Some now → IfSome a P → P now
known_is a now P e h = subst (λ (x : Option (List ℕ)). IfSome x P) e h

pub pieces-more : (limits : Limits) (input now next p : List ℕ) (pieces : List (List ℕ)) → ReadsPieces limits input pieces now → ReadsChunk limits now p next → ReadsPieces limits input (pieces ++ p ∷ []) next
pieces-more limits input now next p [] h chunk = (next, subst (λ (x : List ℕ). ReadsChunk limits x p next) (sym h) chunk, refl)
pieces-more limits input now next p (q ∷ pieces) h chunk = (h.0, h.1, pieces-more limits h.0 now next p pieces h.2 chunk)

pub joined-more : (pieces : List (List ℕ)) (p : List ℕ) → concat (pieces ++ p ∷ []) ≡ concat pieces ++ p
joined-more [] p = append-nil p
joined-more (q ∷ pieces) p = ap (λ (xs : List ℕ). q ++ xs) (joined-more pieces p) ∙ sym (append_assoc q (concat pieces) p)

-- the bytes that were appended, with the line end behind them
pub chunk_bytes : (old both body : List ℕ) (size end : ℕ) → body ≡ old ++ both → length both ≡ size + 2 → end ≡ length old + size → drop end body ≡ crlf_bytes
    → (take end body ≡ old ++ take size both) × (length (take size both) ≡ size) × (take size both ++ crlf_bytes ≡ both)
chunk_bytes old both body size end is all at crlf =
    let behind : drop size both ≡ crlf_bytes = sym (drop-append-add old both size) ∙ sym (ap (λ n. drop n (old ++ both)) at) ∙ sym (ap (drop end) is) ∙ crlf in
    let front : take end body ≡ old ++ take size both = ap (take end) is ∙ ap (λ n. take n (old ++ both)) at ∙ take-append-add old both size in
    (front, omega (arith, length-take size both, all), ap (λ (xs : List ℕ). take size both ++ xs) (sym behind) ∙ take-append-drop size both)

-- another end than that of a line
pub lacks : (both : List ℕ) (size : ℕ) (left now : Option (List ℕ)) → length both ≡ size + 2 → Consumes left now both → (drop size both ≡ crlf_bytes → ⊥) → IfSome left (LacksChunk size)
lacks both size None now all read differs = tt
lacks both size (Some input) None all read differs = elim read [ ]
lacks both size (Some input) (Some rest) all read differs = λ piece more len is.
    let fronts : both ≡ piece ++ crlf_bytes =
    sym (take_at both rest (size + 2) all) ∙ sym (ap (take (size + 2)) read) ∙ ap (take (size + 2)) (is ∙ sym (append_assoc piece crlf_bytes more)) ∙ take_at (piece ++ crlf_bytes) more (size + 2) (length-append piece crlf_bytes ∙ ap (λ n. n + 2) len) in
    differs (ap (drop size) fronts ∙ sym (ap (λ n. drop n (piece ++ crlf_bytes)) len) ∙ drop-append_seam piece crlf_bytes)

pub not_behind : (old both body : List ℕ) (size end : ℕ) → body ≡ old ++ both → end ≡ length old + size → (drop end body ≡ crlf_bytes → ⊥) → drop size both ≡ crlf_bytes → ⊥
not_behind old both body size end is at differs e =
    differs (ap (drop end) is ∙ ap (λ n. drop n (old ++ both)) at ∙ drop-append-add old both size ∙ e)
