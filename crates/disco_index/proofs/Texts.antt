-- The hash code by pieces.
use Rattle.std.proofs.Common.{◌≡◌, ℕ, ◌+◌, ◌==◌, ◌<◌, ◌^◌, Bool, true, false, cond, List, [], ◌∷◌, ◌++◌, codes, decimal, map, refl, sym, ap, ◌∙◌, append_assoc, append-nil, arith}
use Rattle.std.specs.Int.Digits.{digits_of}
use Rattle.std.proofs.lemmas.Bool.Decides.{nat_tests}
use Rattle.std.proofs.lemmas.Fmt.{decimal-digits_of}
use Rattle.disco_values.specs.Status.{status_name}
use Rattle.disco_values.specs.declared.status.Status.{Status}
use Rattle.disco_values.specs.declared.status.Status.TheVariants.{Up, Down, Starting, OutOfService, Unknown}
use Rattle.disco_history.specs.Hash.{hash_by, then_piece}

abbrev digits : ℕ → List ℕ
digits n = map (λ d. 48 + d) (digits_of 10 n)

joined : (name ds rest : List ℕ) (b : Bool) → cond b rest (name ++ 95 ∷ (ds ++ 95 ∷ rest)) ≡ cond b [] (name ++ 95 ∷ (ds ++ 95 ∷ [])) ++ rest
joined name ds rest true = refl
joined name ds rest false = sym (append_assoc name (95 ∷ (ds ++ 95 ∷ [])) rest ∙ ap (λ x. name ++ 95 ∷ x) (append_assoc ds (95 ∷ []) rest))

-- a piece, and then the rest
piece-then : (name : List ℕ) (n : ℕ) (rest : List ℕ) → then_piece name n rest ≡ then_piece name n [] ++ rest
piece-then name n rest = joined name (digits n) rest (n == 0)

abbrev piece : (Status → ℕ) → Status → List ℕ
piece count status = then_piece (status_name status) (count status) []

-- the pieces one after another, behind what was there
pub pieces_hash : (out : List ℕ) (count : Status → ℕ) → ((((out ++ piece count Down) ++ piece count OutOfService) ++ piece count Starting) ++ piece count Unknown) ++ piece count Up ≡ out ++ hash_by count
pieces_hash out count =
    let d = piece count Down in
    let o = piece count OutOfService in
    let s = piece count Starting in
    let u = piece count Unknown in
    let p = piece count Up in
    append_assoc (((out ++ d) ++ o) ++ s) u p ∙ append_assoc ((out ++ d) ++ o) s (u ++ p) ∙ append_assoc (out ++ d) o (s ++ (u ++ p)) ∙ append_assoc out d (o ++ (s ++ (u ++ p)))
    ∙ ap (λ x. out ++ (d ++ (o ++ (s ++ x)))) (sym (piece-then (status_name Unknown) (count Unknown) p))
    ∙ ap (λ x. out ++ (d ++ (o ++ x))) (sym (piece-then (status_name Starting) (count Starting) (then_piece (status_name Unknown) (count Unknown) p)))
    ∙ ap (λ x. out ++ (d ++ x)) (sym (piece-then (status_name OutOfService) (count OutOfService) (then_piece (status_name Starting) (count Starting) (then_piece (status_name Unknown) (count Unknown) p))))
    ∙ ap (λ x. out ++ x) (sym (piece-then (status_name Down) (count Down) (then_piece (status_name OutOfService) (count OutOfService) (then_piece (status_name Starting) (count Starting) (then_piece (status_name Unknown) (count Unknown) p)))))

one_piece : (name ds : List ℕ) (old : List ℕ) (b : Bool) → b ≡ false → (((old ++ name) ++ codes "_") ++ ds) ++ codes "_" ≡ old ++ cond b [] (name ++ 95 ∷ (ds ++ 95 ∷ []))
one_piece name ds old true e = absurd (cc)
one_piece name ds old false e = append_assoc ((old ++ name) ++ codes "_") ds (codes "_") ∙ append_assoc (old ++ name) (codes "_") (ds ++ codes "_") ∙ append_assoc old name (codes "_" ++ (ds ++ codes "_"))

some : (n : ℕ) → 0 < n → (n == 0) ≡ false
some n lt = grind (arith, nat_tests, lt)

none : (n : ℕ) → n ≡ 0 → (n == 0) ≡ true
none n e = grind (arith, nat_tests, e)

-- what is pushed for a number above 0
pub pushed : (name old : List ℕ) (n : ℕ) → 0 < n → n < 2 ^ 64 → (((old ++ name) ++ codes "_") ++ decimal n) ++ codes "_" ≡ old ++ then_piece name n []
pushed name old n lt small = ap (λ ds. (((old ++ name) ++ codes "_") ++ ds) ++ codes "_") (decimal-digits_of n lt small) ∙ one_piece name (digits n) old (n == 0) (some n lt)

-- nothing is pushed for 0
pub not_pushed : (name old : List ℕ) (n : ℕ) → n ≡ 0 → old ≡ old ++ then_piece name n []
not_pushed name old n e = sym (append-nil old) ∙ ap (λ b. old ++ cond b [] (name ++ 95 ∷ (digits n ++ 95 ∷ []))) (sym (none n e))
