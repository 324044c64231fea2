-- Walks over rows that begin with a parameter: it takes what is before the next slash.
use Rattle.std.proofs.Common.{◌≡◌, inl, inr, ℕ, ◌+◌, ◌-◌, List, [], ◌∷◌, length, drop, Option, Some, None, Bool, true, false, cond, ◌&&◌, refl, sym, ◌∙◌, arith, nat_eq, ◌==◌, ltb}
use Rattle.std.proofs.lemmas.Bool.Decides.{nat_tests}
use Rattle.std.specs.Cmp.Lexicographic.{pointwise}
use Rattle.matchit.specs.Rows.{RowsOf}
use Rattle.matchit.specs.Seek.{own, seek, first, after_param, param_step, has_slash, segment, cuts, longest_suffix, with_suffix}
use Rattle.disco_calls.proofs.RowWalks.{front, back, back_of, split_on, same, ends, seek-empty, seek-drop}

-- a segment that ends the path
pub whole : (p : List ℕ) → back p ≡ [] → (segment p ≡ p) × (has_slash p ≡ false) × (front p ≡ p)
whole [] none = (refl, refl, refl)
whole (b ∷ p) none = elim (split_on (b == 47)) [
  | inl e ↦ absurd (not_nil b p (rw e at none))
  | inr e ↦
      let ih = whole p (rw e at none) in
      rw (e, ih.0, ih.1, ih.2) (refl, refl, refl)
]
  where
    not_nil : (b : ℕ) (p : List ℕ) → (b ∷ p) ≡ [] → ⊥
    not_nil b p e = cc

-- a segment with its slash
pub cut_off : (p q : List ℕ) → back p ≡ 47 ∷ q → (length (segment p) ≡ length (front p) + 1) × (has_slash p ≡ true) × (drop (length (front p)) p ≡ 47 ∷ q)
cut_off [] q some = absurd (cc)
cut_off (b ∷ p) q some = elim (split_on (b == 47)) [
  | inl e ↦ rw e (refl, refl, rw e at some)
  | inr e ↦
      let ih = cut_off p q (rw e at some) in
      let longer : length (b ∷ segment p) ≡ length (b ∷ front p) + 1 = omega (arith, ih.0) in
      rw e (longer, ih.1, ih.2)
]

-- the last of a list that isn't empty, alone
abbrev last : ℕ → List ℕ → List ℕ
last x [] = x ∷ []
last x (y ∷ ys) = last y ys

drop_last : (x : ℕ) (xs : List ℕ) → drop (length xs) (x ∷ xs) ≡ last x xs
drop_last x [] = refl
drop_last x (y ∷ ys) = drop_last y ys

last_slash : (x : ℕ) (p q : List ℕ) → back p ≡ 47 ∷ q → last x (segment p) ≡ 47 ∷ []
last_slash x [] q some = absurd (cc)
last_slash x (b ∷ p) q some = elim (split_on (b == 47)) [
  | inl e ↦ rw (e, same b 47 e) refl
  | inr e ↦ rw e (last_slash b p q (rw e at some))
]

last_other : (x : ℕ) (p : List ℕ) → (x == 47) ≡ false → back p ≡ [] → pointwise nat_eq (47 ∷ []) (last x p) ≡ false
last_other x [] n none =
    let other : nat_eq 47 x ≡ false = grind (arith, nat_tests, n) in
    rw other refl
last_other x (b ∷ p) n none = elim (split_on (b == 47)) [
  | inl e ↦ absurd (not_nil b p (rw e at none))
  | inr e ↦ last_other b p e (rw e at none)
]
  where
    not_nil : (b : ℕ) (p : List ℕ) → (b ∷ p) ≡ [] → ⊥
    not_nil b p e = cc

cuts_slash : (b : ℕ) (p q : List ℕ) → (b == 47) ≡ false → back p ≡ 47 ∷ q → cuts (segment (b ∷ p)) (47 ∷ []) ≡ true
cuts_slash b p q n some =
    let long : ltb 1 (length (b ∷ segment p)) ≡ true = (let e = (cut_off p q some).0 in grind (arith, nat_tests, e)) in
    let less : length (b ∷ segment p) - 1 ≡ length (segment p) = omega arith in
    rw (n, long, less, drop_last b (segment p), last_slash b p q some) refl

cuts_none : (b : ℕ) (p : List ℕ) → (b == 47) ≡ false → back p ≡ [] → cuts (b ∷ p) (47 ∷ []) ≡ false
cuts_none b p n none =
    let less : length (b ∷ p) - 1 ≡ length p = omega arith in
    rw (less, drop_last b p, last_other b p n none) (and_false (ltb 1 (length (b ∷ p))))
  where
    and_false : (v : Bool) → (v && false) ≡ false
    and_false true = refl
    and_false false = refl

drop_all : (p : List ℕ) → drop (length p) p ≡ []
drop_all [] = refl
drop_all (b ∷ p) = drop_all p

module _ {K : Type 0} where
  -- where a walk goes behind a parameter: nowhere where it takes nothing, to its end at the end of the path, else on
  abbrev pub through : Option K → RowsOf K → List ℕ → List ℕ → Option K
  through o w [] rest = None
  through o w (x ∷ name) [] = o
  through o w (x ∷ name) (c ∷ q) = first w (c ∷ q)

  step_by : (rs : RowsOf K) (p s : List ℕ) → longest_suffix (segment p) rs ≡ s → param_step rs p ≡ cond (ltb 0 (length s)) (length (segment p) - length s, with_suffix s rs) (cond (has_slash p) (0, []) (length p, rs))
  unfolding param_step
  step_by rs p s e = rw e refl

  -- a path that ends in the parameter
  to_end : (rs : RowsOf K) (b : ℕ) (p : List ℕ) → back p ≡ [] → (b == 47) ≡ false → longest_suffix (segment (b ∷ p)) rs ≡ [] → after_param rs (b ∷ p) ≡ own rs
  unfolding seek
  to_end rs b p none n e =
      let w = whole p none in
      let less : length (b ∷ p) - 1 ≡ length p = omega arith in
      let flat : has_slash (b ∷ p) ≡ false = rw (n, w.1) refl in
      rw (step_by rs (b ∷ p) [] e, flat, less, seek-drop (length p) rs p, drop_all p) refl

  -- a slash that no row goes on with
  to_nothing : (rs : RowsOf K) (b : ℕ) (p : List ℕ) → has_slash (b ∷ p) ≡ true → longest_suffix (segment (b ∷ p)) rs ≡ [] → after_param rs (b ∷ p) ≡ None
  to_nothing rs b p some e = rw (step_by rs (b ∷ p) [] e, some) (seek-empty 0 p)

  -- a slash that rows go on with
  to_rest : (rs w : RowsOf K) (b : ℕ) (p q : List ℕ) → (b == 47) ≡ false → back p ≡ 47 ∷ q → longest_suffix (segment (b ∷ p)) rs ≡ 47 ∷ [] → with_suffix (47 ∷ []) rs ≡ w → after_param rs (b ∷ p) ≡ first w (47 ∷ q)
  to_rest rs w b p q n some e suffixed =
      let cut = cut_off p q some in
      let less : length (b ∷ segment p) - 1 - 1 ≡ length (front p) = (let same_length = cut.0 in omega (arith, same_length)) in
      rw (step_by rs (b ∷ p) (47 ∷ []) e, suffixed, n, less, seek-drop (length (front p)) w p, cut.2) refl

  -- all that may stand behind the parameter begins with a slash, or is nothing
  pub record IsFolder (rs w : RowsOf K) : Type 0 where
    pub longest : (seg : List ℕ) → longest_suffix seg rs ≡ cond (cuts seg (47 ∷ [])) (47 ∷ []) []
    pub suffixed : with_suffix (47 ∷ []) rs ≡ w

  pub named : (rs w : RowsOf K) (b : ℕ) (p : List ℕ) → IsFolder rs w → after_param rs (b ∷ p) ≡ through (own rs) w (front (b ∷ p)) (back (b ∷ p))
  named rs w b p f = elim (split_on (b == 47)) [
    | inl e ↦ at_slash rs w b p f e
    | inr e ↦ elim (back_of p) [
      | inl none ↦ at_end rs w b p f e none
      | inr (q, some) ↦ at_more rs w b p q f e some
    ]
  ]
    where
      at_slash : (rs w : RowsOf K) (b : ℕ) (p : List ℕ) → IsFolder rs w → (b == 47) ≡ true → after_param rs (b ∷ p) ≡ through (own rs) w (front (b ∷ p)) (back (b ∷ p))
      at_slash rs w b p f e =
          let none : longest_suffix (segment (b ∷ p)) rs ≡ [] = f.longest (segment (b ∷ p)) ∙ rw e refl in
          let some : has_slash (b ∷ p) ≡ true = rw e refl in
          to_nothing rs b p some none ∙ rw e refl

      at_end : (rs w : RowsOf K) (b : ℕ) (p : List ℕ) → IsFolder rs w → (b == 47) ≡ false → back p ≡ [] → after_param rs (b ∷ p) ≡ through (own rs) w (front (b ∷ p)) (back (b ∷ p))
      at_end rs w b p f e none =
          let uncut : longest_suffix (segment (b ∷ p)) rs ≡ [] = f.longest (segment (b ∷ p)) ∙ rw (e, (whole p none).0, cuts_none b p e none) refl in
          to_end rs b p none e uncut ∙ rw (e, none) refl

      at_more : (rs w : RowsOf K) (b : ℕ) (p q : List ℕ) → IsFolder rs w → (b == 47) ≡ false → back p ≡ 47 ∷ q → after_param rs (b ∷ p) ≡ through (own rs) w (front (b ∷ p)) (back (b ∷ p))
      at_more rs w b p q f e some =
          let cut : longest_suffix (segment (b ∷ p)) rs ≡ 47 ∷ [] = f.longest (segment (b ∷ p)) ∙ rw (cuts_slash b p q e some) refl in
          to_rest rs w b p q e some cut f.suffixed ∙ rw (e, some) refl

  -- nothing may stand behind the parameter
  pub named_last : (k : K) (b : ℕ) (p : List ℕ) → after_param (ends (Some k)) (b ∷ p) ≡ through (Some k) [] (front (b ∷ p)) (back (b ∷ p))
  named_last k b p = elim (split_on (b == 47)) [
    | inl e ↦ at_slash k b p e
    | inr e ↦ elim (back_of p) [
      | inl none ↦ to_end (ends (Some k)) b p none e refl ∙ rw (e, none) refl
      | inr (q, some) ↦ at_more k b p q e some
    ]
  ]
    where
      at_slash : (k : K) (b : ℕ) (p : List ℕ) → (b == 47) ≡ true → after_param (ends (Some k)) (b ∷ p) ≡ through (Some k) [] (front (b ∷ p)) (back (b ∷ p))
      at_slash k b p e =
          let some : has_slash (b ∷ p) ≡ true = rw e refl in
          to_nothing (ends (Some k)) b p some refl ∙ rw e refl

      at_more : (k : K) (b : ℕ) (p q : List ℕ) → (b == 47) ≡ false → back p ≡ 47 ∷ q → after_param (ends (Some k)) (b ∷ p) ≡ through (Some k) [] (front (b ∷ p)) (back (b ∷ p))
      at_more k b p q e some =
          let slashed : has_slash (b ∷ p) ≡ true = rw (e, (cut_off p q some).1) refl in
          to_nothing (ends (Some k)) b p slashed refl ∙ rw (e, some) (sym (seek-empty 0 (47 ∷ q)))
