-- The first piece of a text, and the pieces of an address by where they begin.
use Rattle.std.proofs.Common.{◌≡◌, ℕ, zero, suc, ◌+◌, ◌<◌, ◌≤◌, ◌==◌, Bool, true, false, not, cond, ltb, List, [], ◌∷◌, ◌++◌, length, filter, take, drop, Some, None, refl, sym, ap, ◌∙◌, length-drop, arith}
use Rattle.std.specs.Cmp.Lexicographic.{slice_cmp, nat_list_cmp_total, nat_list_eq_equiv}
use Rattle.std.specs.List.{after_first, before_first, position_or_len, slice_split}
use Rattle.std.proofs.Math.Numerals.{one-add}
use Rattle.std.specs.Option.{unwrap_or}
use Rattle.std.specs.Ordering.{is_eq, is_gt, is_lt, nat_cmp, ordering_reverse, ordering_then}
use Rattle.std.specs.Str.{bytes_eq}
use Rattle.std.specs.declared.cmp.Ordering.{Ordering}
use Rattle.std.specs.declared.cmp.Ordering.TheVariants.{Less, Equal, Greater}
use Rattle.std.proofs.lemmas.Map.Text.{is_eq-slice_cmp}
use Rattle.std.proofs.lemmas.Bool.Decides.{nat_tests}
use Rattle.std.proofs.lemmas.List.{drop-drop}
use Rattle.std.proofs.lemmas.List.Folds.{length-prefix_len}
use Rattle.std.proofs.lemmas.List.Splits.{slice_split_first, slice_split_none}
use Rattle.std.proofs.lemmas.List.Sums.{fails_before_first}
use Rattle.disco_history.specs.Query.{vips}
use Rattle.disco_index.specs.Pieces.{as_vips, first_piece, is_comma, vip_at}

-- ---- where it ends

pub within : (t : List ℕ) → position_or_len is_comma t ≤ length t
within [] = omega arith
within (x ∷ t) = one (is_comma x) (within t)
  where
    one : (b : Bool) → position_or_len is_comma t ≤ length t → cond (not b) (1 + position_or_len is_comma t) 0 ≤ suc (length t)
    one true le = omega arith
    one false le = omega (arith, le)

pub or_len : (p n : ℕ) → p ≤ n → unwrap_or (cond (ltb p n) (Some p) None) n ≡ p
or_len p n le = one (ltb p n) refl
  where
    one : (b : Bool) → ltb p n ≡ b → unwrap_or (cond b (Some p) None) n ≡ p
    one true is = refl
    one false is = grind (arith, nat_tests, is, le)

-- ---- one byte more

piece_cons : (x : ℕ) (t : List ℕ) → first_piece (x ∷ t) ≡ cond (is_comma x) [] (x ∷ first_piece t)
piece_cons x t = one (is_comma x)
  where
    one : (b : Bool) → take (cond (not b) (1 + position_or_len is_comma t) 0) (x ∷ t) ≡ cond b [] (x ∷ first_piece t)
    one true = refl
    one false = ap (λ n. take n (x ∷ t)) (one-add (position_or_len is_comma t))

-- a piece is its own first piece
pub piece_twice : (t : List ℕ) → first_piece (first_piece t) ≡ first_piece t
piece_twice [] = refl
piece_twice (x ∷ t) = ap first_piece (piece_cons x t) ∙ one (is_comma x) refl (piece_twice t) ∙ sym (piece_cons x t)
  where
    one : (b : Bool) → is_comma x ≡ b → first_piece (first_piece t) ≡ first_piece t → first_piece (cond b [] (x ∷ first_piece t)) ≡ cond b [] (x ∷ first_piece t)
    one true is ih = refl
    one false is ih = piece_cons x (first_piece t) ∙ ap (λ b. cond b [] (x ∷ first_piece (first_piece t))) is ∙ ap (λ l. x ∷ l) ih

-- the order by a front of the text that is longer than the other one
pub front_order : (v t : List ℕ) (m : ℕ) → m ≤ length t → (m < length t → length v < m) → slice_cmp nat_cmp (first_piece (take m t)) v ≡ slice_cmp nat_cmp (first_piece t) v
front_order v [] zero le long = refl
front_order v [] (suc m) le long = absurd (omega (arith, le))
front_order v (x ∷ t) zero le long = absurd (let lt = long (omega arith) in omega (arith, lt))
front_order [] (x ∷ t) (suc m) le long = ap (λ p. slice_cmp nat_cmp p []) (piece_cons x (take m t)) ∙ one (is_comma x) ∙ ap (λ p. slice_cmp nat_cmp p []) (sym (piece_cons x t))
  where
    one : (b : Bool) → slice_cmp nat_cmp (cond b [] (x ∷ first_piece (take m t))) [] ≡ slice_cmp nat_cmp (cond b [] (x ∷ first_piece t)) []
    one true = refl
    one false = refl
front_order (y ∷ v) (x ∷ t) (suc m) le long =
    ap (λ p. slice_cmp nat_cmp p (y ∷ v)) (piece_cons x (take m t))
    ∙ one (is_comma x) (front_order v t m (omega (arith, le)) (λ lt. let longer = long (omega (arith, lt)) in omega (arith, longer)))
    ∙ ap (λ p. slice_cmp nat_cmp p (y ∷ v)) (sym (piece_cons x t))
  where
    one : (b : Bool) → slice_cmp nat_cmp (first_piece (take m t)) v ≡ slice_cmp nat_cmp (first_piece t) v
        → slice_cmp nat_cmp (cond b [] (x ∷ first_piece (take m t))) (y ∷ v) ≡ slice_cmp nat_cmp (cond b [] (x ∷ first_piece t)) (y ∷ v)
    one true ih = refl
    one false ih = ap (λ o. ordering_then (nat_cmp x y) o) ih

-- ---- the vips of an address, piece by piece

abbrev kept : List (List ℕ) → List (List ℕ)
kept = filter (λ p. not (length p == 0))

kept_cons : (p : List ℕ) (ps : List (List ℕ)) → kept (p ∷ ps) ≡ as_vips p ++ kept ps
kept_cons p ps = one (not (length p == 0))
  where
    one : (b : Bool) → cond b (p ∷ kept ps) (kept ps) ≡ cond b (p ∷ []) [] ++ kept ps
    one true = refl
    one false = refl

-- the first piece and the rest of an address with a comma
pub cut_piece : (s piece after : List ℕ) → position_or_len is_comma s < length s → piece ≡ before_first is_comma s → after ≡ after_first is_comma s → vips s ≡ as_vips piece ++ vips after
cut_piece s piece after has p a =
    ap kept (slice_split_first is_comma s 0 has) ∙ kept_cons (before_first is_comma s) (slice_split is_comma (after_first is_comma s))
    ∙ (λ i. as_vips (sym p i) ++ vips (sym a i))

-- one with none is a piece
pub last_piece : (s : List ℕ) → position_or_len is_comma s ≡ length s → vips s ≡ as_vips s ++ []
last_piece s none = ap kept (slice_split_none is_comma s (λ k d l. fails_before_first is_comma s k d (omega (arith, none, l)))) ∙ kept_cons s []

piece_len : (s : List ℕ) → length (first_piece s) ≡ position_or_len is_comma s
piece_len s = length-prefix_len (λ b. not (is_comma b)) s

-- ---- the order of two vips, as a test

reversed : (o : Ordering) → is_gt o ≡ is_lt (ordering_reverse o)
reversed Less = refl
reversed Equal = refl
reversed Greater = refl

pub is_after : (a b : List ℕ) → is_gt (slice_cmp nat_cmp a b) ≡ is_lt (slice_cmp nat_cmp b a)
is_after a b = reversed (slice_cmp nat_cmp a b) ∙ ap is_lt (sym (nat_list_cmp_total.antisymm b a))

pub is_same : (a b : List ℕ) → is_eq (slice_cmp nat_cmp a b) ≡ bytes_eq b a
is_same a b = is_eq-slice_cmp a b ∙ nat_list_eq_equiv.symm a b

-- ---- an address, piece by piece

module _ (address rest piece after : List ℕ) (start : ℕ) (is : rest ≡ drop start address) (all : start + length rest ≡ length address) where
  pub next_rest : position_or_len is_comma rest < length rest → piece ≡ first_piece rest → after ≡ after_first is_comma rest → after ≡ drop (start + (length piece + 1)) address
  next_rest has p a =
      a ∙ ap (drop (position_or_len is_comma rest + 1)) is ∙ drop-drop (position_or_len is_comma rest + 1) start address
      ∙ ap (λ n. drop (start + (n + 1)) address) (sym (ap length p ∙ piece_len rest))

  pub next_length : position_or_len is_comma rest < length rest → piece ≡ first_piece rest → after ≡ after_first is_comma rest → start + (length piece + 1) + length after ≡ length address
  next_length has p a = omega (arith, has, all, ap length p ∙ piece_len rest, ap length a ∙ length-drop (position_or_len is_comma rest + 1) rest)

  pub next_vip : piece ≡ first_piece rest → piece ≡ vip_at address start
  next_vip p = p ∙ ap first_piece is
