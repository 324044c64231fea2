-- What came of a stream so far, and what is read on.
use Rattle.std.proofs.Common.{◌≡◌, ℕ, ◌++◌, List, [], ◌∷◌, Option, Some, None, IfSome, ap, ◌∙◌, sym, refl, subst, append-nil, arith, length, length-append}
use Rattle.std.specs.Io.KnownBytes.{Consumes, IsAtEnd, Keeps, prepend_known}
use Rattle.std.proofs.KnownBytes.{Consumes-trans}
use Rattle.disco_http.specs.Streams.{Came}

pub none_came : (a b : Option (List ℕ)) → Keeps a b → Consumes a b []
none_came None b h = tt
none_came (Some xs) None h = elim h [ ]
none_came (Some xs) (Some ys) h = sym h

-- a read that adds nothing
pub nothing : (xs ys came : List ℕ) → ys ≡ xs ++ came → ys ≡ xs → came ≡ []
nothing xs ys [] e k = refl
nothing xs ys (b ∷ came) e k = absurd (omega (arith, ap length (sym k ∙ e), length-append xs (b ∷ came)))

module _ (Old New : List ℕ → Type 0) where
  -- more came of it
  pub came_on : (came : List ℕ) (first a b : Option (List ℕ)) → ((given : List ℕ) → Old given → New (given ++ came)) → Consumes a b came → IfSome first (λ stream. Came Old stream a) → IfSome first (λ stream. Came New stream b)
  came_on came None a b more read h = tt
  came_on came (Some stream) a b more read h = (h.0 ++ came, Consumes-trans (Some stream) a b h.0 came h.1 read, more h.0 h.2)

module _ (So : List ℕ → Type 0) (first : Option (List ℕ)) where
  -- what holds of what came and whatever follows, and of what is unread with it, holds of the stream and its rest
  pub with_rest : (a : Option (List ℕ)) (v : List ℕ) (P : List ℕ → List ℕ → Type 0) → ((given more : List ℕ) → So given → P (given ++ more) (v ++ more)) → IfSome first (λ stream. Came So stream a)
      → IfSome first (λ stream. (rest : List ℕ) × P stream rest × (prepend_known v a ≡ Some rest))
  with_rest a v P all h = go first a h
    where
      go : (f a : Option (List ℕ)) → IfSome f (λ stream. Came So stream a) → IfSome f (λ stream. (rest : List ℕ) × P stream rest × (prepend_known v a ≡ Some rest))
      go None a h = tt
      go (Some stream) None h = elim h.1 [ ]
      go (Some stream) (Some left) h = (v ++ left, subst (λ (s : List ℕ). P s (v ++ left)) (sym h.1) (all h.0 left h.2), refl)

  -- at the end of the input the stream is what came
  pub at_end : (a : Option (List ℕ)) (P : List ℕ → Type 0) → IsAtEnd a → ((given : List ℕ) → So given → P given) → IfSome first (λ stream. Came So stream a) → IfSome first P
  at_end a P end all h = go first a end h
    where
      go : (f a : Option (List ℕ)) → IsAtEnd a → IfSome f (λ stream. Came So stream a) → IfSome f P
      go None a end h = tt
      go (Some stream) None end h = elim h.1 [ ]
      go (Some stream) (Some left) end h = subst P (sym (h.1 ∙ ap (λ (xs : List ℕ). h.0 ++ xs) end ∙ append-nil h.0)) (all h.0 h.2)

  pub at_end_with : (a : Option (List ℕ)) (v : List ℕ) (P : List ℕ → List ℕ → Type 0) → IsAtEnd a → ((given : List ℕ) → So given → (v ≡ []) × P given []) → IfSome first (λ stream. Came So stream a)
      → IfSome first (λ stream. (rest : List ℕ) × P stream rest × (prepend_known v a ≡ Some rest))
  at_end_with a v P end all h = go first a end h
    where
      go : (f a : Option (List ℕ)) → IsAtEnd a → IfSome f (λ stream. Came So stream a) → IfSome f (λ stream. (rest : List ℕ) × P stream rest × (prepend_known v a ≡ Some rest))
      go None a end h = tt
      go (Some stream) None end h = elim h.1 [ ]
      go (Some stream) (Some left) end h =
          ([], subst (λ (s : List ℕ). P s []) (sym (h.1 ∙ ap (λ (xs : List ℕ). h.0 ++ xs) end ∙ append-nil h.0)) (all h.0 h.2).1, ap Some (ap (λ (xs : List ℕ). xs ++ left) (all h.0 h.2).0 ∙ end))

-- what holds of what is unread and whatever follows holds of what is ahead
pub of_ahead : (u : List ℕ) (first left : Option (List ℕ)) (P : List ℕ → Type 0) → Keeps first (prepend_known u left) → ((more : List ℕ) → P (u ++ more)) → IfSome first P
of_ahead u None left P k all = tt
of_ahead u (Some stream) None P k all = elim k [ ]
of_ahead u (Some stream) (Some more) P k all = subst P k (all more)
