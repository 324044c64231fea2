-- A head that is copied out of the buffer in which it was found.
use Rattle.std.proofs.Common.{◌≡◌, ℕ, ◌+◌, ◌-◌, ◌≤◌, List, [], ◌∷◌, take, drop, map, sym, ◌∙◌, ap, arith, refl, All, slice_range}
use Rattle.std.specs.List.{AllByRecursion}
use Rattle.std.proofs.lemmas.List.{take-take, drop-take}
use Rattle.std.proofs.lemmas.List.Elements.{recursion_from_All}
use Rattle.httparse.specs.Spans.{IsHeaderWithin, IsWithin, span_bytes, header_bytes}
use Rattle.httparse.specs.declared.spans.Span.{Span}
use Rattle.httparse.specs.declared.spans.HeaderSpan.{HeaderSpan}

-- a part of the front
pub slice_front : (xs : List ℕ) (s e : ℕ) → s ≤ e → slice_range xs s e ≡ drop s (take e xs)
slice_front xs s e h =
    let at : s + (e - s) ≡ e = omega arith in
    sym (ap (λ m. drop s (take m xs)) (sym at) ∙ drop-take s (e - s) xs)

pub same_front : (xs ys : List ℕ) (s e : ℕ) → s ≤ e → take e ys ≡ take e xs → slice_range ys s e ≡ slice_range xs s e
same_front xs ys s e h same = slice_front ys s e h ∙ ap (drop s) same ∙ sym (slice_front xs s e h)

-- a part of the front is one of the whole
pub span_kept : (u : List ℕ) (n : ℕ) (s : Span) → IsWithin n s → span_bytes (take n u) s ≡ span_bytes u s
span_kept u n s within = same_front u (take n u) s.start s.end within.0 (take-take s.end n u within.1)

headers : (u : List ℕ) (n : ℕ) (hs : List HeaderSpan) → AllByRecursion (IsHeaderWithin n) hs → map (header_bytes (take n u)) hs ≡ map (header_bytes u) hs
headers u n [] all = refl
headers u n (h ∷ hs) all =
    rw (span_kept u n h.name all.0.0, span_kept u n h.value all.0.1, headers u n hs all.1) refl

-- the fields of a head whose bytes and spans were copied
pub copied : (u text : List ℕ) (n : ℕ) (hs kept : List HeaderSpan) → text ≡ take n u → kept ≡ hs → All (IsHeaderWithin n) hs → map (header_bytes text) kept ≡ map (header_bytes u) hs
copied u text n hs kept bytes spans all =
    ap (λ (t : List ℕ). map (header_bytes t) kept) bytes ∙ ap (map (header_bytes (take n u))) spans ∙ headers u n hs (recursion_from_All (IsHeaderWithin n) hs all)
