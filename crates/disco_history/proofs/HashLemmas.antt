-- Equal hash codes mean equal numbers of each status.
use Rattle.std.proofs.Common.{◌≡◌, ℕ, ◌+◌, ◌<◌, ◌==◌, Bool, true, false, cond, List, [], ◌∷◌, ◌++◌, map, codes, get_or, refl, sym, ap, ◌∙◌, arith}
use Rattle.std.specs.List.{AllByRecursion}
use Rattle.std.specs.Int.Digits.{digits_of}
use Rattle.std.proofs.lemmas.Bool.Decides.{nat_tests}
use Rattle.std.proofs.lemmas.Int.Digits.{all_below_base_digits_of, same_from_digits_of}
use Rattle.disco_values.specs.declared.status.Status.{Status}
use Rattle.disco_values.specs.declared.status.Status.TheVariants.{Up, Down, Starting, OutOfService, Unknown}
use Rattle.disco_history.specs.Hash.{then_piece, hash_by, count_of}
use Rattle.disco_history.specs.Laws.{HashLaw}

same_head : (x y : ℕ) (xs ys : List ℕ) → x ∷ xs ≡ y ∷ ys → x ≡ y
same_head x y xs ys e = cc

same_tail : (x y : ℕ) (xs ys : List ℕ) → x ∷ xs ≡ y ∷ ys → xs ≡ ys
same_tail x y xs ys e = cc

abbrev digits : ℕ → List ℕ
digits n = map (λ d. 48 + d) (digits_of 10 n)

-- digits up to an underscore
cut : (ds es x y : List ℕ) → AllByRecursion (λ d. d < 10) ds → AllByRecursion (λ d. d < 10) es → map (λ d. 48 + d) ds ++ 95 ∷ x ≡ map (λ d. 48 + d) es ++ 95 ∷ y → (ds ≡ es) × (x ≡ y)
cut [] [] x y p q e = (refl, same_tail _ _ _ _ e)
cut [] (d ∷ es) x y p q e = absurd (let h = same_head _ _ _ _ e in omega (arith, h, q.0))
cut (d ∷ ds) [] x y p q e = absurd (let h = same_head _ _ _ _ e in omega (arith, h, p.0))
cut (d ∷ ds) (f ∷ es) x y p q e =
    let h = same_head _ _ _ _ e in
    let k : d ≡ f = omega (arith, h) in
    let rest = cut ds es x y p.1 q.1 (same_tail _ _ _ _ e) in
    ((λ i. k i ∷ rest.0 i), rest.1)

cut_number : (m n : ℕ) (x y : List ℕ) → digits m ++ 95 ∷ x ≡ digits n ++ 95 ∷ y → (m ≡ n) × (x ≡ y)
cut_number m n x y e =
    let both = cut (digits_of 10 m) (digits_of 10 n) x y (all_below_base_digits_of 10 m (omega arith)) (all_below_base_digits_of 10 n (omega arith)) e in
    (same_from_digits_of 10 m n (omega arith) both.0, both.1)

same_rest : (p x y : List ℕ) → p ++ x ≡ p ++ y → x ≡ y
same_rest [] x y e = e
same_rest (c ∷ p) x y e = same_rest p x y (same_tail _ _ _ _ e)

-- the text does not begin with the name
abbrev Apart : List ℕ → List ℕ → Type 0
Apart name x = (t : List ℕ) → x ≡ name ++ t → ⊥

zero_is : (n : ℕ) → (n == 0) ≡ true → n ≡ 0
zero_is n e = grind (arith, nat_tests, e)

-- two texts of pieces that are equal have equal numbers in the first piece, and equal rests
first_piece : (name : List ℕ) (m n : ℕ) (x y : List ℕ) → Apart name x → Apart name y → then_piece name m x ≡ then_piece name n y → (m ≡ n) × (x ≡ y)
first_piece name m n x y p q e = by (m == 0) (n == 0) refl refl e
  where
    by : (a b : Bool) → (m == 0) ≡ a → (n == 0) ≡ b → cond a x (name ++ 95 ∷ (digits m ++ 95 ∷ x)) ≡ cond b y (name ++ 95 ∷ (digits n ++ 95 ∷ y)) → (m ≡ n) × (x ≡ y)
    by true true f g e = (zero_is m f ∙ sym (zero_is n g), e)
    by true false f g e = absurd (p _ e)
    by false true f g e = absurd (q _ (sym e))
    by false false f g e = cut_number m n x y (same_tail _ _ _ _ (same_rest name _ _ e))

differ : (x y : ℕ) → (x == y) ≡ false → x ≡ y → ⊥
differ x y d e = grind (arith, nat_tests, d, e)

-- a piece of another name, which differs at a place
apart_piece : (i : ℕ) (name other : List ℕ) (n : ℕ) (x : List ℕ) → ((u t : List ℕ) → (get_or (other ++ u) i 0 == get_or (name ++ t) i 0) ≡ false) → Apart name x → Apart name (then_piece other n x)
apart_piece i name other n x differs p t e = by (n == 0) e
  where
    by : (b : Bool) → cond b x (other ++ 95 ∷ (digits n ++ 95 ∷ x)) ≡ name ++ t → ⊥
    by true e = p t e
    by false e = differ _ _ (differs _ t) (ap (λ (l : List ℕ). get_or l i 0) e)

apart_end : (c : ℕ) (name : List ℕ) → Apart (c ∷ name) []
apart_end c name t e = cc

abbrev from_up : (Status → ℕ) → List ℕ
from_up k = then_piece (codes "UP") (k Up) []

abbrev from_unknown : (Status → ℕ) → List ℕ
from_unknown k = then_piece (codes "UNKNOWN") (k Unknown) (from_up k)

abbrev from_starting : (Status → ℕ) → List ℕ
from_starting k = then_piece (codes "STARTING") (k Starting) (from_unknown k)

abbrev from_out : (Status → ℕ) → List ℕ
from_out k = then_piece (codes "OUT_OF_SERVICE") (k OutOfService) (from_starting k)

module _ (k : Status → ℕ) where
  down_apart : Apart (codes "DOWN") (from_out k)
  down_apart = apart_piece 0 (codes "DOWN") (codes "OUT_OF_SERVICE") (k OutOfService) (from_starting k) (λ u t. refl) (apart_piece 0 (codes "DOWN") (codes "STARTING") (k Starting) (from_unknown k) (λ u t. refl) (apart_piece 0 (codes "DOWN") (codes "UNKNOWN") (k Unknown) (from_up k) (λ u t. refl) (apart_piece 0 (codes "DOWN") (codes "UP") (k Up) [] (λ u t. refl) (apart_end 68 (codes "OWN")))))

  out_apart : Apart (codes "OUT_OF_SERVICE") (from_starting k)
  out_apart = apart_piece 0 (codes "OUT_OF_SERVICE") (codes "STARTING") (k Starting) (from_unknown k) (λ u t. refl) (apart_piece 0 (codes "OUT_OF_SERVICE") (codes "UNKNOWN") (k Unknown) (from_up k) (λ u t. refl) (apart_piece 0 (codes "OUT_OF_SERVICE") (codes "UP") (k Up) [] (λ u t. refl) (apart_end 79 (codes "UT_OF_SERVICE"))))

  starting_apart : Apart (codes "STARTING") (from_unknown k)
  starting_apart = apart_piece 0 (codes "STARTING") (codes "UNKNOWN") (k Unknown) (from_up k) (λ u t. refl) (apart_piece 0 (codes "STARTING") (codes "UP") (k Up) [] (λ u t. refl) (apart_end 83 (codes "TARTING")))

  unknown_apart : Apart (codes "UNKNOWN") (from_up k)
  unknown_apart = apart_piece 1 (codes "UNKNOWN") (codes "UP") (k Up) [] (λ u t. refl) (apart_end 85 (codes "NKNOWN"))

pub same_counts : (m n : Status → ℕ) → hash_by m ≡ hash_by n → (s : Status) → m s ≡ n s
same_counts m n e s =
    let a = first_piece (codes "DOWN") (m Down) (n Down) (from_out m) (from_out n) (down_apart m) (down_apart n) e in
    let b = first_piece (codes "OUT_OF_SERVICE") (m OutOfService) (n OutOfService) (from_starting m) (from_starting n) (out_apart m) (out_apart n) a.1 in
    let c = first_piece (codes "STARTING") (m Starting) (n Starting) (from_unknown m) (from_unknown n) (starting_apart m) (starting_apart n) b.1 in
    let d = first_piece (codes "UNKNOWN") (m Unknown) (n Unknown) (from_up m) (from_up n) (unknown_apart m) (unknown_apart n) c.1 in
    let f = first_piece (codes "UP") (m Up) (n Up) [] [] (apart_end 85 (codes "P")) (apart_end 85 (codes "P")) d.1 in
    elim s as (λ s. m s ≡ n s) [ Down ↦ a.0 | OutOfService ↦ b.0 | Starting ↦ c.0 | Unknown ↦ d.0 | Up ↦ f.0 ]

pub same_hash : (m n : Status → ℕ) → ((s : Status) → m s ≡ n s) → hash_by m ≡ hash_by n
same_hash m n each = λ i. hash_by (λ s. each s i)

pub hash_law : HashLaw
hash_law s t = (same_counts (count_of s) (count_of t), same_hash (count_of s) (count_of t))
