-- The rest of a text behind one text after another.
use Rattle.std.proofs.Common.{◌≡◌, ℕ, suc, ◌==◌, Bool, true, false, ◌&&◌, ◌+◌, ◌<◌, ◌^◌, cond, List, [], ◌∷◌, ◌++◌, length, Option, Some, None, option_and_then, codes, decimal, take, drop, arith, refl, sym, ap, ◌∙◌}
use Rattle.std.specs.Borrow.{Bor}
use Rattle.std.specs.Option.{MatchOption, option_copied}
use Rattle.std.specs.Str.{bytes_eq}
use Rattle.std.proofs.lemmas.Bool.Decides.{nat_tests}
use Rattle.disco_values.specs.Status.{status_name}
use Rattle.disco_values.specs.declared.status.Status.{Status}
use Rattle.disco_values.specs.declared.status.Status.TheVariants.{Up, Down, Starting, OutOfService, Unknown}
use Rattle.disco_history.specs.Hash.{hash_by, then_piece}
use Rattle.disco_index.proofs.Texts.{pieces_hash, pushed}
use Rattle.disco_index.specs.Behind.{behind}

pub behind-append : (p q t : List ℕ) → behind (p ++ q) t ≡ option_and_then (behind q) (behind p t)
behind-append [] q t = refl
behind-append (c ∷ p) q [] = refl
behind-append (c ∷ p) q (d ∷ t) = one (d == c) (behind-append p q t)
  where
    one : (b : Bool) → behind (p ++ q) t ≡ option_and_then (behind q) (behind p t) → cond b (behind (p ++ q) t) None ≡ option_and_then (behind q) (cond b (behind p t) None)
    one true ih = ih
    one false ih = refl

abbrev pub ends : Option (List ℕ) → Bool
ends None = false
ends (Some rest) = length rest == 0

some_length : (n : ℕ) → (suc n == 0) ≡ false
some_length n = grind (arith, nat_tests)

-- a text is the other one where nothing stands behind it
pub ends-behind : (p t : List ℕ) → ends (behind p t) ≡ bytes_eq t p
ends-behind [] [] = refl
ends-behind [] (d ∷ t) = some_length (length t)
ends-behind (c ∷ p) [] = refl
ends-behind (c ∷ p) (d ∷ t) = one (d == c) (ends-behind p t)
  where
    one : (b : Bool) → ends (behind p t) ≡ bytes_eq t p → ends (cond b (behind p t) None) ≡ (b && bytes_eq t p)
    one true ih = ih
    one false ih = refl

-- by the front of the text
pub behind-front : (p t : List ℕ) → behind p t ≡ cond (bytes_eq (take (length p) t) p) (Some (drop (length p) t)) None
behind-front [] [] = refl
behind-front [] (d ∷ t) = refl
behind-front (c ∷ p) [] = refl
behind-front (c ∷ p) (d ∷ t) = one (d == c) (behind-front p t)
  where
    one : (b : Bool) → behind p t ≡ cond (bytes_eq (take (length p) t) p) (Some (drop (length p) t)) None → cond b (behind p t) None ≡ cond (b && bytes_eq (take (length p) t) p) (Some (drop (length p) t)) None
    one true ih = ih
    one false ih = refl

-- what `strip_prefix` gives
pub stripped : (p t : List ℕ) (o : Option (Bor (List ℕ)))
    → MatchOption o (bytes_eq (take (length p) t) p ≡ false) (λ x. (bytes_eq (take (length p) t) p ≡ true) × (x.now ≡ drop (length p) t) × (length x.now + length p ≡ length t))
    → option_copied o ≡ behind p t
stripped p t None is = sym (behind-front p t ∙ ap (λ b. cond b (Some (drop (length p) t)) None) is)
stripped p t (Some x) is = sym (behind-front p t ∙ ap (λ b. cond b (Some (drop (length p) t)) None) is.0 ∙ ap (λ r. Some r) (sym is.1))

-- behind a text, where there is something
abbrev pub then : List ℕ → Option (List ℕ) → Option (List ℕ)
then p rest = option_and_then (behind p) rest

-- behind a piece, one part after another
pub behind-piece : (name : List ℕ) (n : ℕ) (t : List ℕ) → 0 < n → n < 2 ^ 64 → behind (then_piece name n []) t ≡ then (95 ∷ []) (then (decimal n) (then (95 ∷ []) (behind name t)))
behind-piece name n t lt small =
    ap (λ p. behind p t) (sym (pushed name [] n lt small))
    ∙ behind-append ((name ++ codes "_") ++ decimal n) (95 ∷ []) t
    ∙ ap (then (95 ∷ [])) (behind-append (name ++ codes "_") (decimal n) t
    ∙ ap (then (decimal n)) (behind-append name (95 ∷ []) t))

-- behind the piece of a status, where there is something
abbrev pub on : (Status → ℕ) → Status → Option (List ℕ) → Option (List ℕ)
on count status rest = option_and_then (behind (then_piece (status_name status) (count status) [])) rest

abbrev piece : (Status → ℕ) → Status → List ℕ
piece count status = then_piece (status_name status) (count status) []

-- behind all pieces, one after another
pub behind-hash : (count : Status → ℕ) (t : List ℕ) → behind (hash_by count) t ≡ on count Up (on count Unknown (on count Starting (on count OutOfService (behind (then_piece (status_name Down) (count Down) []) t))))
behind-hash count t =
    let d = piece count Down in
    let o = piece count OutOfService in
    let s = piece count Starting in
    let u = piece count Unknown in
    let p = piece count Up in
    ap (λ h. behind h t) (sym (pieces_hash [] count))
    ∙ behind-append (((d ++ o) ++ s) ++ u) p t
    ∙ ap (on count Up) (behind-append ((d ++ o) ++ s) u t
    ∙ ap (on count Unknown) (behind-append (d ++ o) s t
    ∙ ap (on count Starting) (behind-append d o t)))
