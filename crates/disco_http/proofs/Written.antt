-- What writes do to known bytes, one after another.
use Rattle.std.proofs.Common.{◌≡◌, ◌≢◌, ◌⊎◌, ℕ, ◌+◌, ◌-◌, ◌<◌, List, [], ◌∷◌, length, length-drop, arith, refl, subst, ◌++◌, take, drop, Option, Result, Ok, Err, append_assoc, sym, ◌∙◌, ap, inl, inr}
use Rattle.std.proofs.Math.Seq.{take-add}
use Rattle.std.proofs.lemmas.List.{take_rest}
use Rattle.std.proofs.KnownBytes.{Appends-trans}
use Rattle.std.specs.Io.KnownBytes.{Appends}
use Rattle.disco_http.specs.Causes.{Raises}
use Rattle.disco_http.specs.Writes.{AppendsProperFront, WritesBytes}

-- one more write of a text
pub write_part : (text part : List ℕ) (at n : ℕ) (a b c : Option (List ℕ)) → part ≡ take (length text - at) (drop at text) → Appends a b (take at text) → Appends b c (take n part) → Appends a c (take (at + n) text)
write_part text part at n a b c is h k =
    rw (take-add at n text) (Appends-trans a b c (take at text) (take n (drop at text)) h (subst (λ p. Appends b c (take n p)) (is ∙ take_rest text at) k))

-- what is still to be written is some
pub some_left : (text : List ℕ) (at : ℕ) → at < length text → drop at text ≢ []
some_left text at more none = omega (arith, more, length-drop at text, ap length none)

front_none : (xs ys : List ℕ) → xs ++ ys ≡ [] → xs ≡ []
front_none [] ys e = refl
front_none (x ∷ xs) ys e = absurd (cc e)

-- a front of a text, and a front of what follows it
pub front_more : (a b : Option (List ℕ)) (xs ys : List ℕ) → AppendsProperFront a b xs → AppendsProperFront a b (xs ++ ys)
front_more a b xs ys h = (h.0, h.1 ++ ys, ap (λ zs. zs ++ ys) h.2 ∙ append_assoc h.0 h.1 ys, λ e. h.3 (front_none h.1 ys e), h.4)

pub front_then : (a b c : Option (List ℕ)) (xs ys : List ℕ) → Appends a b xs → AppendsProperFront b c ys → AppendsProperFront a c (xs ++ ys)
front_then a b c xs ys h k = (xs ++ k.0, k.1, ap (λ zs. xs ++ zs) k.2 ∙ sym (append_assoc xs k.0 k.1), k.3, Appends-trans a b c xs k.0 h k.4)

-- one text behind another
pub then_written : {A E : Type 0} (r : Result A E) (a b c : Option (List ℕ)) (i j k : ℕ) (xs ys : List ℕ) → Appends a b xs × (j ≡ i) → WritesBytes b c j k r ys → WritesBytes a c i k r (xs ++ ys)
then_written (Ok v) a b c i j k xs ys h w = (Appends-trans a b c xs ys h.0 w.0, w.1 ∙ h.1)
then_written (Err e) a b c i j k xs ys h w = (front_then a b c xs ys h.0 w.0, subst (λ m. Raises m k) h.1 w.1)

-- what is to follow a text that isn't whole isn't begun
pub not_written : {A E : Type 0} (r : Result A E) (e : E) (a b : Option (List ℕ)) (i j : ℕ) (xs ys : List ℕ) → r ≡ Err e → AppendsProperFront a b xs × Raises i j → WritesBytes a b i j r (xs ++ ys)
not_written r e a b i j xs ys is h = rw is (front_more a b xs ys h.0, h.1)

-- what is left of a text is its body, if it is some
pub some_rest : (rest body : List ℕ) → (rest ≡ []) ⊎ (rest ≡ body) → 0 < length rest → rest ≡ body
some_rest rest body (inl none) some = absurd (omega (arith, some, ap length none))
some_rest rest body (inr all) some = all
