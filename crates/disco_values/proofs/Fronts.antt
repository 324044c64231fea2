-- The order of texts by their fronts.
use Rattle.std.proofs.Common.{◌≡◌, ◌⊎◌, inl, inr, ℕ, zero, suc, ◌+◌, ◌*◌, ◌/◌, ◌%◌, min, ◌<◌, ◌≤◌, List, [], ◌∷◌, length, get_or, refl, sym, ap, subst, ◌∙◌, arith, take, drop, Fits, w8, w64}
use Rattle.std.specs.Int.{from_be_bytes}
use Rattle.std.proofs.Math.Facts.{Fits-lt-pow}
use Rattle.std.specs.declared.cmp.Ordering.{Ordering}
use Rattle.std.specs.declared.cmp.Ordering.TheVariants.{Less, Equal, Greater}
use Rattle.std.specs.Ordering.{nat_cmp, ordering_reverse, ordering_then}
use Rattle.std.specs.Cmp.{nat_cmp_is}
use Rattle.std.specs.Cmp.Lexicographic.{slice_cmp, nat_list_cmp_total}
use Rattle.std.proofs.Math.Seq.{drop-nil}
use Rattle.std.proofs.lemmas.List.{get_or-drop}
use Rattle.std.proofs.lemmas.Bool.{cases_order}
use Rattle.std.proofs.lemmas.Nat.{div-mul-add, mod-mul-add}
use Rattle.disco_values.specs.Front.{AreBytes, first_eight, front_of, with_len}

pub are_bytes : (s : List ℕ) → ((i : ℕ) → Fits w8 (get_or s i 0)) → AreBytes s
are_bytes s fit = λ i. Fits-lt-pow (fit i)

-- a number with so many bytes more, 0 for each that isn't there
abbrev with_bytes : ℕ → ℕ → List ℕ → ℕ
with_bytes zero p s = p
with_bytes (suc n) p [] = with_bytes n (p * 256) []
with_bytes (suc n) p (x ∷ s) = with_bytes n (p * 256 + x) s

-- the same bytes up to there, zeros behind them and all
abbrev pub AreSame : ℕ → List ℕ → List ℕ → Type 0
AreSame n s t = with_bytes n 0 s ≡ with_bytes n 0 t

eight_is : (s : List ℕ) → first_eight s ≡ with_bytes 7 0 s * 256 + get_or s 7 0
unfolding first_eight
eight_is [] = omega arith
eight_is (a ∷ []) = omega arith
eight_is (a ∷ b ∷ []) = omega arith
eight_is (a ∷ b ∷ c ∷ []) = omega arith
eight_is (a ∷ b ∷ c ∷ d ∷ []) = omega arith
eight_is (a ∷ b ∷ c ∷ d ∷ e ∷ []) = omega arith
eight_is (a ∷ b ∷ c ∷ d ∷ e ∷ f ∷ []) = omega arith
eight_is (a ∷ b ∷ c ∷ d ∷ e ∷ f ∷ g ∷ []) = omega arith
eight_is (a ∷ b ∷ c ∷ d ∷ e ∷ f ∷ g ∷ h ∷ s) = omega arith

seven_is : (s : List ℕ) → AreBytes s → first_eight s / 256 ≡ with_bytes 7 0 s
seven_is s bs = ap (λ n. n / 256) (eight_is s) ∙ div-mul-add (with_bytes 7 0 s) 256 (get_or s 7 0) (bs 7)

front_is : (s : List ℕ) → AreBytes s → front_of s ≡ with_bytes 7 0 s * 256 + min (length s) 8
unfolding front_of
front_is s bs = ap (λ n. n * 256 + min (length s) 8) (seven_is s bs)

-- the lesser number stays so, whatever bytes come behind both
rising : (n p q : ℕ) (s t : List ℕ) → AreBytes s → AreBytes t → p < q → with_bytes n p s < with_bytes n q t
rising zero p q s t bs bt lt = lt
rising (suc n) p q [] [] bs bt lt = rising n (p * 256) (q * 256) [] [] bs bt (omega (arith, lt))
rising (suc n) p q [] (y ∷ t) bs bt lt = rising n (p * 256) (q * 256 + y) [] t bs (λ i. bt (suc i)) (omega (arith, lt))
rising (suc n) p q (x ∷ s) [] bs bt lt = rising n (p * 256 + x) (q * 256) s [] (λ i. bs (suc i)) bt (omega (arith, lt, bs 0))
rising (suc n) p q (x ∷ s) (y ∷ t) bs bt lt =
    rising n (p * 256 + x) (q * 256 + y) s t (λ i. bs (suc i)) (λ i. bt (suc i)) (omega (arith, lt, bs 0))

-- no bytes make the least
least : (n p q : ℕ) (s : List ℕ) → p ≤ q → with_bytes n p [] ≤ with_bytes n q s
least zero p q s le = le
least (suc n) p q [] le = least n (p * 256) (q * 256) [] (omega (arith, le))
least (suc n) p q (x ∷ s) le = least n (p * 256) (q * 256 + x) s (omega (arith, le))

abbrev order : List ℕ → List ℕ → Ordering
order = slice_cmp nat_cmp

same_first : (x y : ℕ) (s t : List ℕ) → x ≡ y → order (x ∷ s) (y ∷ t) ≡ order s t
same_first x y s t e = ap (λ o. ordering_then o (order s t)) (sym (nat_cmp_is x y Equal e))

lesser_first : (x y : ℕ) (s t : List ℕ) → x < y → order (x ∷ s) (y ∷ t) ≡ Less
lesser_first x y s t lt = ap (λ o. ordering_then o (order s t)) (sym (nat_cmp_is x y Less lt))

less : (n p : ℕ) (s t : List ℕ) → AreBytes s → AreBytes t → with_bytes n p s < with_bytes n p t → order s t ≡ Less
less zero p s t bs bt h = absurd (omega (arith, h))
less (suc n) p [] [] bs bt h = absurd (omega (arith, h))
less (suc n) p [] (y ∷ t) bs bt h = refl
less (suc n) p (x ∷ s) [] bs bt h = absurd (omega (arith, h, least n (p * 256) (p * 256 + x) s (omega arith)))
less (suc n) p (x ∷ s) (y ∷ t) bs bt h = by (less n (p * 256 + x) s t (λ i. bs (suc i)) (λ i. bt (suc i))) (cases_order x y)
  where
    by : (with_bytes n (p * 256 + x) s < with_bytes n (p * 256 + x) t → order s t ≡ Less) → (x ≡ y) ⊎ ((x < y) ⊎ (y < x)) → order (x ∷ s) (y ∷ t) ≡ Less
    by behind (inl e) = same_first x y s t e ∙ behind (subst (λ z. with_bytes n (p * 256 + x) s < with_bytes n (p * 256 + z) t) (sym e) h)
    by behind (inr (inl lt)) = lesser_first x y s t lt
    by behind (inr (inr lt)) = absurd (omega (arith, h, rising n (p * 256 + y) (p * 256 + x) t s (λ i. bt (suc i)) (λ i. bs (suc i)) (omega (arith, lt))))

one_more : (a b : ℕ) → nat_cmp a b ≡ nat_cmp (suc a) (suc b)
one_more a b = by (cases_order a b)
  where
    by : (a ≡ b) ⊎ ((a < b) ⊎ (b < a)) → nat_cmp a b ≡ nat_cmp (suc a) (suc b)
    by (inl e) = sym (nat_cmp_is a b Equal e) ∙ nat_cmp_is (suc a) (suc b) Equal (ap suc e)
    by (inr (inl lt)) = sym (nat_cmp_is a b Less lt) ∙ nat_cmp_is (suc a) (suc b) Less (omega (arith, lt))
    by (inr (inr lt)) = sym (nat_cmp_is a b Greater lt) ∙ nat_cmp_is (suc a) (suc b) Greater (omega (arith, lt))

tied : (n p : ℕ) (s t : List ℕ) → AreBytes s → AreBytes t → with_bytes n p s ≡ with_bytes n p t → (length s ≤ n) ⊎ (length t ≤ n) → order s t ≡ nat_cmp (length s) (length t)
tied n p [] [] bs bt h few = refl
tied n p [] (y ∷ t) bs bt h few = nat_cmp_is 0 (suc (length t)) Less (omega arith)
tied n p (x ∷ s) [] bs bt h few = nat_cmp_is (suc (length s)) 0 Greater (omega arith)
tied zero p (x ∷ s) (y ∷ t) bs bt h (inl few) = absurd (omega (arith, few))
tied zero p (x ∷ s) (y ∷ t) bs bt h (inr few) = absurd (omega (arith, few))
tied (suc n) p (x ∷ s) (y ∷ t) bs bt h few = by (tied n (p * 256 + x) s t (λ i. bs (suc i)) (λ i. bt (suc i))) (cases_order x y)
  where
    fewer : (length (x ∷ s) ≤ suc n) ⊎ (length (y ∷ t) ≤ suc n) → (length s ≤ n) ⊎ (length t ≤ n)
    fewer (inl le) = inl (omega (arith, le))
    fewer (inr le) = inr (omega (arith, le))

    by : (with_bytes n (p * 256 + x) s ≡ with_bytes n (p * 256 + x) t → (length s ≤ n) ⊎ (length t ≤ n) → order s t ≡ nat_cmp (length s) (length t))
        → (x ≡ y) ⊎ ((x < y) ⊎ (y < x)) → order (x ∷ s) (y ∷ t) ≡ nat_cmp (length (x ∷ s)) (length (y ∷ t))
    by behind (inl e) = same_first x y s t e ∙ behind (subst (λ z. with_bytes n (p * 256 + x) s ≡ with_bytes n (p * 256 + z) t) (sym e) h) (fewer few) ∙ one_more (length s) (length t)
    by behind (inr (inl lt)) = absurd (omega (arith, h, rising n (p * 256 + x) (p * 256 + y) s t (λ i. bs (suc i)) (λ i. bt (suc i)) (omega (arith, lt))))
    by behind (inr (inr lt)) = absurd (omega (arith, h, rising n (p * 256 + y) (p * 256 + x) t s (λ i. bt (suc i)) (λ i. bs (suc i)) (omega (arith, lt))))

shorter : (m n : ℕ) → min m 8 < min n 8 → (m < n) × (m ≤ 7)
shorter m n lt = (omega (arith, lt), omega (arith, lt))

-- the lesser front is that of the lesser text
pub by_fronts : (s t : List ℕ) → AreBytes s → AreBytes t → front_of s < front_of t → order s t ≡ Less
by_fronts s t bs bt lt = by (cases_order (with_bytes 7 0 s) (with_bytes 7 0 t))
  where
    fronts : with_bytes 7 0 s * 256 + min (length s) 8 < with_bytes 7 0 t * 256 + min (length t) 8
    fronts = omega (arith, lt, front_is s bs, front_is t bt)

    by : (with_bytes 7 0 s ≡ with_bytes 7 0 t) ⊎ ((with_bytes 7 0 s < with_bytes 7 0 t) ⊎ (with_bytes 7 0 t < with_bytes 7 0 s)) → order s t ≡ Less
    by (inl e) =
        let lens = shorter (length s) (length t) (omega (arith, e, fronts)) in
        tied 7 0 s t bs bt e (inl lens.1) ∙ sym (nat_cmp_is (length s) (length t) Less lens.0)
    by (inr (inl less_bytes)) = less 7 0 s t bs bt less_bytes
    by (inr (inr more)) = absurd (omega (arith, more, fronts))

pub by_fronts_above : (s t : List ℕ) → AreBytes s → AreBytes t → front_of t < front_of s → order s t ≡ Greater
by_fronts_above s t bs bt lt = nat_list_cmp_total.antisymm s t ∙ ap ordering_reverse (by_fronts t s bt bs lt)

-- a front that ends in less than eight is that of one text alone
pub by_whole_front : (s t : List ℕ) → AreBytes s → AreBytes t → front_of s ≡ front_of t → front_of s % 256 < 8 → order s t ≡ Equal
by_whole_front s t bs bt e whole = tied 7 0 s t bs bt sevens (inl few_bytes) ∙ sym (nat_cmp_is (length s) (length t) Equal lens)
  where
    same : with_bytes 7 0 s * 256 + min (length s) 8 ≡ with_bytes 7 0 t * 256 + min (length t) 8
    same = sym (front_is s bs) ∙ e ∙ front_is t bt

    end_is : front_of s % 256 ≡ min (length s) 8
    end_is = ap (λ n. n % 256) (front_is s bs) ∙ mod-mul-add (with_bytes 7 0 s) 256 (min (length s) 8) (omega arith)

    few_bytes : length s ≤ 7
    few_bytes = omega (arith, whole, end_is)

    sevens : with_bytes 7 0 s ≡ with_bytes 7 0 t
    sevens = omega (arith, same)

    lens : length s ≡ length t
    lens = omega (arith, same, few_bytes)

-- a text with as many bytes as a front has them all
pub whole_eight : (s : List ℕ) → 8 ≤ length s → from_be_bytes w64 (take 8 s) ≡ first_eight s
unfolding first_eight
whole_eight [] long = absurd (omega (arith, long))
whole_eight (a ∷ []) long = absurd (omega (arith, long))
whole_eight (a ∷ b ∷ []) long = absurd (omega (arith, long))
whole_eight (a ∷ b ∷ c ∷ []) long = absurd (omega (arith, long))
whole_eight (a ∷ b ∷ c ∷ d ∷ []) long = absurd (omega (arith, long))
whole_eight (a ∷ b ∷ c ∷ d ∷ e ∷ []) long = absurd (omega (arith, long))
whole_eight (a ∷ b ∷ c ∷ d ∷ e ∷ f ∷ []) long = absurd (omega (arith, long))
whole_eight (a ∷ b ∷ c ∷ d ∷ e ∷ f ∷ g ∷ []) long = absurd (omega (arith, long))
whole_eight (a ∷ b ∷ c ∷ d ∷ e ∷ f ∷ g ∷ h ∷ s) long = refl

-- zeros behind a text are no part of its beginning
pub padded_eight : (s t : List ℕ) → ((i : ℕ) → get_or t i 0 ≡ get_or s i 0) → first_eight t ≡ first_eight s
unfolding first_eight
padded_eight s t same = λ j. from_be_bytes w64 (same 0 j ∷ same 1 j ∷ same 2 j ∷ same 3 j ∷ same 4 j ∷ same 5 j ∷ same 6 j ∷ same 7 j ∷ [])

pub padded_eight_behind : (n : ℕ) (s t : List ℕ) → ((i : ℕ) → get_or t i 0 ≡ get_or s i 0) → first_eight (drop n t) ≡ first_eight (drop n s)
padded_eight_behind n s t same = padded_eight (drop n s) (drop n t) (λ i. get_or-drop n t i 0 ∙ same (n + i) ∙ sym (get_or-drop n s i 0))

-- the front of a text
pub front_made : (s : List ℕ) (eight len : ℕ) → eight ≡ first_eight s → len ≡ length s → with_len eight len ≡ front_of s
unfolding front_of
front_made s eight len eights lens = λ i. with_len (eights i) (lens i)

-- eight more
abbrev past : ℕ → ℕ
past n = suc (suc (suc (suc (suc (suc (suc (suc n)))))))

split : (n p : ℕ) (s : List ℕ) → with_bytes (past n) p s ≡ with_bytes 8 (with_bytes n p s) (drop n s)
split zero p s = refl
split (suc n) p [] = split n (p * 256) [] ∙ ap (with_bytes 8 (with_bytes n (p * 256) [])) (drop-nil n)
split (suc n) p (x ∷ s) = split n (p * 256 + x) s

eight_behind : (p : ℕ) (s : List ℕ) → with_bytes 8 p s ≡ p * 18446744073709551616 + first_eight s
unfolding first_eight
eight_behind p [] = omega arith
eight_behind p (a ∷ []) = omega arith
eight_behind p (a ∷ b ∷ []) = omega arith
eight_behind p (a ∷ b ∷ c ∷ []) = omega arith
eight_behind p (a ∷ b ∷ c ∷ d ∷ []) = omega arith
eight_behind p (a ∷ b ∷ c ∷ d ∷ e ∷ []) = omega arith
eight_behind p (a ∷ b ∷ c ∷ d ∷ e ∷ f ∷ []) = omega arith
eight_behind p (a ∷ b ∷ c ∷ d ∷ e ∷ f ∷ g ∷ []) = omega arith
eight_behind p (a ∷ b ∷ c ∷ d ∷ e ∷ f ∷ g ∷ h ∷ s) = omega arith

past_is : (n : ℕ) (s : List ℕ) → with_bytes (past n) 0 s ≡ with_bytes n 0 s * 18446744073709551616 + first_eight (drop n s)
past_is n s = split n 0 s ∙ eight_behind (with_bytes n 0 s) (drop n s)

-- where so many bytes are the same, the next eight decide if they differ
pub eight_decide : (n : ℕ) (s t : List ℕ) → AreBytes s → AreBytes t → AreSame n s t → (first_eight (drop n s) ≡ first_eight (drop n t) → ⊥)
    → nat_cmp (first_eight (drop n s)) (first_eight (drop n t)) ≡ order s t
eight_decide n s t bs bt same differ = by (cases_order one other)
  where
    one : ℕ
    one = first_eight (drop n s)

    other : ℕ
    other = first_eight (drop n t)

    by : (one ≡ other) ⊎ ((one < other) ⊎ (other < one)) → nat_cmp one other ≡ order s t
    by (inl e) = absurd (differ e)
    by (inr (inl lt)) = sym (nat_cmp_is one other Less lt) ∙ sym (less (past n) 0 s t bs bt (omega (arith, past_is n s, past_is n t, same, lt)))
    by (inr (inr lt)) =
        sym (nat_cmp_is one other Greater lt)
        ∙ sym (nat_list_cmp_total.antisymm s t ∙ ap ordering_reverse (less (past n) 0 t s bt bs (omega (arith, past_is n s, past_is n t, same, lt))))

-- and else they are the same with them
pub eight_same : (n : ℕ) (s t : List ℕ) → AreSame n s t → first_eight (drop n s) ≡ first_eight (drop n t) → AreSame (past n) s t
eight_same n s t same e = omega (arith, past_is n s, past_is n t, same, e)

six_of : (s : List ℕ) → with_bytes 7 0 s ≡ with_bytes 6 0 s * 256 + get_or s 6 0
six_of [] = omega arith
six_of (a ∷ []) = omega arith
six_of (a ∷ b ∷ []) = omega arith
six_of (a ∷ b ∷ c ∷ []) = omega arith
six_of (a ∷ b ∷ c ∷ d ∷ []) = omega arith
six_of (a ∷ b ∷ c ∷ d ∷ e ∷ []) = omega arith
six_of (a ∷ b ∷ c ∷ d ∷ e ∷ f ∷ []) = omega arith
six_of (a ∷ b ∷ c ∷ d ∷ e ∷ f ∷ g ∷ s) = omega arith

seven_same : (s t : List ℕ) → AreBytes s → AreBytes t → front_of s ≡ front_of t → with_bytes 7 0 s ≡ with_bytes 7 0 t
seven_same s t bs bt e = omega (arith, e, front_is s bs, front_is t bt)

-- texts with one front have the same first six bytes
pub six_same : (s t : List ℕ) → AreBytes s → AreBytes t → front_of s ≡ front_of t → AreSame 6 s t
six_same s t bs bt e = omega (arith, seven_same s t bs bt e, six_of s, six_of t, bs 6, bt 6)

-- texts whose bytes are all the same, but for zeros behind them, are in the order of their lengths
pub all_same : (s t : List ℕ) → AreBytes s → AreBytes t → length s ≤ 30 → AreSame 30 s t → nat_cmp (length s) (length t) ≡ order s t
all_same s t bs bt ss same = sym (tied 30 0 s t bs bt same (inl ss))
