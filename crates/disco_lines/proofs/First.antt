-- The first place of a byte, looked for block by block.
use Rattle.std.proofs.Common.{◌≡◌, ℕ, suc, ◌+◌, ◌*◌, ◌<◌, ◌≤◌, Bool, not, true, false, cond, eqb, List, [], ◌∷◌, length, map, take, drop, Some, None, refl, ap, sym, ◌∙◌, arith}
use lib.Count.{count_trailing_zeros}
use Rattle.std.specs.List.{position, position_or_len}
use Rattle.std.specs.Simd.Lanes.{mask_l}
use Rattle.std.proofs.lemmas.Bool.{ltb-true, ltb-false}
use Rattle.std.proofs.lemmas.Bool.Decides.{nat_tests}
use Rattle.std.proofs.lemmas.List.{take-append-drop, length-take-le, take_all, drop-drop, length-drop}
use Rattle.std.proofs.lemmas.List.Folds.{prefix_len-append}
use Rattle.std.proofs.lemmas.List.Sums.{prefix_len-le-length}
use Rattle.std.proofs.lemmas.Simd.{leading_from_mask_l, trailing_mask_l}

some_at : (b : Bool) (n at : ℕ) → Some at ≡ cond b (Some n) None → (b ≡ true) × (at ≡ n)
some_at true n at e = (refl, cc)
some_at false n at e = absurd (cc)

none_at : (b : Bool) (n : ℕ) → None ≡ cond b (Some n) None → b ≡ false
none_at true n e = absurd (cc)
none_at false n e = refl

by_bit : (b : Bool) (n m l : ℕ) → 0 < cond b 1 0 + 2 * n → (0 < n → m < l) → cond (not b) (1 + m) 0 < suc l
by_bit true n m l some f = omega arith
by_bit false n m l some f = omega (arith, f (omega arith))

-- where a bit of a mask is set, a byte passes
some_passes : (p : ℕ → Bool) (xs : List ℕ) → 0 < mask_l (map p xs) → position_or_len p xs < length xs
some_passes p [] some = absurd (omega (arith, some))
some_passes p (x ∷ xs) some = by_bit (p x) (mask_l (map p xs)) (position_or_len p xs) (length xs) some (some_passes p xs)

is_some : (p : ℕ → Bool) (xs : List ℕ) (at : ℕ) → at ≡ position_or_len p xs → at < length xs → Some at ≡ position p xs
is_some p xs at e within = grind (arith, nat_tests, e, within)

is_none : (p : ℕ → Bool) (xs : List ℕ) → length xs ≤ position_or_len p xs → None ≡ position p xs
is_none p xs far = grind (arith, nat_tests, far)

-- what `position` tells of the first place
pub told_some : (p : ℕ → Bool) (xs : List ℕ) (at : ℕ) → Some at ≡ position p xs → (at ≡ position_or_len p xs) × (at < length xs)
told_some p xs at e = let found = some_at _ _ _ e in (found.1, omega (arith, found.1, ltb-true _ _ found.0))

pub told_none : (p : ℕ → Bool) (xs : List ℕ) → None ≡ position p xs → length xs ≤ position_or_len p xs
told_none p xs e = ltb-false _ _ (none_at _ _ e)

-- the first place in a list by those in its front and in the rest
parted : (p : ℕ → Bool) (n : ℕ) (xs : List ℕ) → n ≤ length xs
    → position_or_len p xs ≡ cond (eqb (position_or_len p (take n xs)) n) (n + position_or_len p (drop n xs)) (position_or_len p (take n xs))
parted p n xs within =
    ap (position_or_len p) (sym (take-append-drop n xs))
    ∙ prefix_len-append (λ b. not (p b)) (take n xs) (drop n xs)
    ∙ ap (λ k. cond (eqb (position_or_len p (take n xs)) k) (k + position_or_len p (drop n xs)) (position_or_len p (take n xs))) (length-take-le n xs within)

in_front : (p : ℕ → Bool) (n at : ℕ) (xs : List ℕ) → n ≤ length xs → Some at ≡ position p (take n xs) → (position_or_len p xs ≡ at) × (at < n)
in_front p n at xs within e =
    let found = told_some p (take n xs) at e in
    let before : at < n = omega (arith, found.1, length-take-le n xs within) in
    (grind (arith, nat_tests, parted p n xs within, found.0, before), before)

not_in_front : (p : ℕ → Bool) (n : ℕ) (xs : List ℕ) → n ≤ length xs → None ≡ position p (take n xs) → position_or_len p xs ≡ n + position_or_len p (drop n xs)
not_in_front p n xs within e =
    let far = told_none p (take n xs) e in
    grind (arith, nat_tests, parted p n xs within, far, prefix_len-le-length (λ b. not (p b)) (take n xs), length-take-le n xs within)

-- The first `at` bytes have none: what the next n, or all that are left, tell of the whole.
pub found_in_block : (p : ℕ → Bool) (at n found : ℕ) (xs : List ℕ) → at + n ≤ length xs → position_or_len p xs ≡ at + position_or_len p (drop at xs)
    → Some found ≡ position p (take n (drop at xs)) → Some (at + found) ≡ position p xs
found_in_block p at n found xs within so_far e =
    let long = length-drop at xs in
    let is = in_front p n found (drop at xs) (omega (arith, long)) e in
    is_some p xs (at + found) (omega (arith, so_far, is.0)) (omega (arith, is.1))

pub past_block : (p : ℕ → Bool) (at n : ℕ) (xs : List ℕ) → at + n ≤ length xs → position_or_len p xs ≡ at + position_or_len p (drop at xs)
    → None ≡ position p (take n (drop at xs)) → position_or_len p xs ≡ at + n + position_or_len p (drop (at + n) xs)
past_block p at n xs within so_far e =
    let long = length-drop at xs in
    let is = not_in_front p n (drop at xs) (omega (arith, long)) e in
    omega (arith, so_far, is, ap (position_or_len p) (drop-drop n at xs))

pub found_in_rest : (p : ℕ → Bool) (at found : ℕ) (xs : List ℕ) → at ≤ length xs → position_or_len p xs ≡ at + position_or_len p (drop at xs)
    → Some found ≡ position p (drop at xs) → Some (at + found) ≡ position p xs
found_in_rest p at found xs within so_far e =
    let long = length-drop at xs in
    let is = told_some p (drop at xs) found e in
    is_some p xs (at + found) (omega (arith, so_far, is.0)) (omega (arith, is.1, long))

pub not_in_rest : (p : ℕ → Bool) (at : ℕ) (xs : List ℕ) → at ≤ length xs → position_or_len p xs ≡ at + position_or_len p (drop at xs)
    → None ≡ position p (drop at xs) → None ≡ position p xs
not_in_rest p at xs within so_far e =
    let long = length-drop at xs in
    is_none p xs (omega (arith, so_far, told_none p (drop at xs) e, long))

-- a block of 8 bytes by the mask of those that pass
pub none_in_mask : (p : ℕ → Bool) (block : List ℕ) → length block ≡ 8 → mask_l (map p (take 8 block)) ≡ 0 → None ≡ position p block
none_in_mask p block long none =
    let whole = take_all 8 block (omega (arith, long)) in
    is_none p block (omega (arith, leading_from_mask_l p block (ap (λ xs. mask_l (map p xs)) (sym whole) ∙ none)))

pub some_in_mask : (p : ℕ → Bool) (block : List ℕ) → length block ≡ 8 → 0 < mask_l (map p (take 8 block))
    → Some (count_trailing_zeros 64 (mask_l (map p (take 8 block)))) ≡ position p block
some_in_mask p block long some =
    let same = ap (λ xs. mask_l (map p xs)) (take_all 8 block (omega (arith, long))) in
    let set : 0 < mask_l (map p block) = omega (arith, same) in
    let first = ap (count_trailing_zeros 64) same ∙ trailing_mask_l p 64 block (omega (arith, long)) set in
    is_some p block _ first (omega (arith, first, some_passes p block set))
