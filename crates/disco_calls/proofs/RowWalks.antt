-- Walks over the rows of a router along a path, by what stands before its first slash and from it on.
use Rattle.std.proofs.Common.{◌≡◌, ◌⊎◌, inl, inr, ℕ, zero, suc, ◌-◌, ◌<◌, List, [], ◌∷◌, ◌++◌, length, drop, Option, Some, None, Bool, true, false, cond, refl, sym, ap, ◌∙◌, arith, ◌==◌, ltb}
use Rattle.std.proofs.lemmas.Bool.Decides.{nat_tests}
use Rattle.std.proofs.lemmas.Bool.{true≢false}
use Rattle.std.specs.Str.{bytes_eq}
use Rattle.matchit.specs.Rows.{RowsOf, param_token, catch_all_token}
use Rattle.matchit.specs.Seek.{own, step, or_else, seek, first, after_param, param_step, has_slash}
use Rattle.disco_calls.specs.Paths.{parts}

-- what stands before the first slash
abbrev pub front : List ℕ → List ℕ
front [] = []
front (b ∷ p) = cond (b == 47) [] (b ∷ front p)

-- the first slash and what stands behind it
abbrev pub back : List ℕ → List ℕ
back [] = []
back (b ∷ p) = cond (b == 47) (b ∷ p) (back p)

-- the parts behind the first
abbrev pub more : List ℕ → List (List ℕ)
more [] = []
more (b ∷ q) = parts q

pub split_on : (t : Bool) → (t ≡ true) ⊎ (t ≡ false)
split_on true = inl refl
split_on false = inr refl

pub same : (a b : ℕ) → (a == b) ≡ true → a ≡ b
same a b e = grind (arith, nat_tests)

-- the parts of a path are its front and those behind its first slash
pub parts_of : (p : List ℕ) → parts p ≡ front p ∷ more (back p)
parts_of [] = refl
parts_of (b ∷ p) = elim (split_on (b == 47)) [
  | inl e ↦ rw e refl
  | inr e ↦ rw (e, parts_of p) refl
]

-- the back is nothing, or begins with a slash
pub back_of : (p : List ℕ) → (back p ≡ []) ⊎ ((q : List ℕ) × (back p ≡ 47 ∷ q))
back_of [] = inl refl
back_of (b ∷ p) = elim (split_on (b == 47)) [
  | inl e ↦ inr (p, rw (e, same b 47 e) refl)
  | inr e ↦ rw e (back_of p)
]

-- bytes without a slash
abbrev pub is_word : List ℕ → Bool
is_word [] = true
is_word (x ∷ w) = cond (ltb x 256) (cond (x == 47) false (is_word w)) false

word_facts : (u v r : Bool) → cond u (cond v false r) false ≡ true → (u ≡ true) × (v ≡ false) × (r ≡ true)
word_facts true false r e = (refl, refl, e)
word_facts true true r e = absurd (true≢false (sym e))
word_facts false v r e = absurd (true≢false (sym e))

not_param : (x : ℕ) (w : List ℕ) → is_word (x ∷ w) ≡ true → (x == param_token) ≡ false
not_param x w ok = let small : ltb x 256 ≡ true = (word_facts (ltb x 256) (x == 47) (is_word w) ok).0 in grind (arith, nat_tests, small)

not_catch_all : (x : ℕ) (w : List ℕ) → is_word (x ∷ w) ≡ true → (x == catch_all_token) ≡ false
not_catch_all x w ok = let small : ltb x 256 ≡ true = (word_facts (ltb x 256) (x == 47) (is_word w) ok).0 in grind (arith, nat_tests, small)

not_slash : (x : ℕ) (w : List ℕ) → is_word (x ∷ w) ≡ true → (x == 47) ≡ false
not_slash x w ok = (word_facts (ltb x 256) (x == 47) (is_word w) ok).1

word_rest : (x : ℕ) (w : List ℕ) → is_word (x ∷ w) ≡ true → is_word w ≡ true
word_rest x w ok = (word_facts (ltb x 256) (x == 47) (is_word w) ok).2

module _ {K : Type 0} where
  -- the rows with these tokens in front
  abbrev pub under : List ℕ → RowsOf K → RowsOf K
  under w [] = []
  under w ((t, k) ∷ rest) = (w ++ t, k) ∷ under w rest

  pub under-nil : (r : RowsOf K) → under [] r ≡ r
  under-nil [] = refl
  under-nil ((t, k) ∷ r) = ap (λ x. (t, k) ∷ x) (under-nil r)

  pub own-under : (x : ℕ) (w : List ℕ) (r : RowsOf K) → own (under (x ∷ w) r) ≡ None
  own-under x w [] = refl
  own-under x w ((t, k) ∷ r) = own-under x w r

  pub step-hit : (b : ℕ) (w : List ℕ) (r : RowsOf K) → step b (under (b ∷ w) r) ≡ under w r
  step-hit b w [] = refl
  step-hit b w ((t, k) ∷ r) =
      let e : (b == b) ≡ true = grind (arith, nat_tests) in
      rw e (ap (λ x. (w ++ t, k) ∷ x) (step-hit b w r))

  pub step-miss : (b x : ℕ) (w : List ℕ) (r : RowsOf K) → (x == b) ≡ false → step b (under (x ∷ w) r) ≡ []
  step-miss b x w [] n = refl
  step-miss b x w ((t, k) ∷ r) n = rw n (step-miss b x w r n)

  pub param_step-empty : (p : List ℕ) → (param_step {K = K} [] p).1 ≡ []
  unfolding param_step
  param_step-empty p =
      elim (has_slash p) as (λ v. (cond {A = ℕ × RowsOf K} v (0, []) (length p, [])).1 ≡ []) [
        | true ↦ refl
        | false ↦ refl
      ]

  pub seek-empty : (k : ℕ) (p : List ℕ) → seek {K = K} k [] p ≡ None
  unfolding seek
  seek-empty k [] = refl
  seek-empty (suc k) (b ∷ p) = seek-empty k p
  seek-empty zero (b ∷ p) = simp (seek-empty 0 p, param_step-empty (b ∷ p), seek-empty (((param_step {K = K} [] (b ∷ p)).0) - 1) p)

  pub seek-drop : (k : ℕ) (r : RowsOf K) (p : List ℕ) → seek k r p ≡ seek 0 r (drop k p)
  unfolding seek
  seek-drop zero r p = refl
  seek-drop (suc k) r [] = refl
  seek-drop (suc k) r (b ∷ p) = seek-drop k r p

  or_else-none : (a : Option K) → or_else a None ≡ a
  or_else-none None = refl
  or_else-none (Some k) = refl

  pub first-nil : (rs : RowsOf K) → first rs [] ≡ own rs
  unfolding seek
  first-nil rs = refl

  -- a step along a path where no row has a catch-all
  pub mixed_step : (rs : RowsOf K) (b : ℕ) (p : List ℕ) → step catch_all_token rs ≡ [] → first rs (b ∷ p) ≡ or_else (first (step b rs) p) (after_param (step param_token rs) (b ∷ p))
  unfolding seek
  mixed_step rs b p none = rw (none, or_else-none) refl

  after-empty : (b : ℕ) (p : List ℕ) → after_param {K = K} [] (b ∷ p) ≡ None
  after-empty b p = rw (param_step-empty (b ∷ p)) (seek-empty _ p)

  -- a step along a path where no row has a parameter
  pub plain_step : (rs : RowsOf K) (b : ℕ) (p : List ℕ) → step param_token rs ≡ [] → step catch_all_token rs ≡ [] → first rs (b ∷ p) ≡ first (step b rs) p
  plain_step rs b p lacks none = mixed_step rs b p none ∙ rw (lacks, after-empty b p) (or_else-none _)

  -- nothing goes on here but with a slash
  abbrev pub IsCut : RowsOf K → Type 0
  IsCut r = (b : ℕ) (q : List ℕ) → (b == 47) ≡ false → first r (b ∷ q) ≡ None

  word_step : (x : ℕ) (w : List ℕ) (r : RowsOf K) (b : ℕ) (p : List ℕ) → is_word (x ∷ w) ≡ true → first (under w r) p ≡ cond (bytes_eq (front p) w) (first r (back p)) None → first (step b (under (x ∷ w) r)) p ≡ cond (bytes_eq (front (b ∷ p)) (x ∷ w)) (first r (back (b ∷ p))) None
  word_step x w r b p ok ih = elim (split_on (b == x)) [
    | inl e ↦
        let is : b ≡ x = same b x e in
        let plain : (b == 47) ≡ false = rw is (not_slash x w ok) in
        rw (plain, e, is, step-hit x w r) ih
    | inr e ↦
        let other : (x == b) ≡ false = grind (arith, nat_tests, e) in
        rw (step-miss b x w r other, seek-empty 0 p) (elim (split_on (b == 47)) [
          | inl f ↦ rw f refl
          | inr f ↦ rw (f, e) refl
        ])
  ]

  -- rows with a word in front: the path has to have it as its front
  pub word : (w : List ℕ) (r : RowsOf K) (p : List ℕ) → is_word w ≡ true → IsCut r → first (under w r) p ≡ cond (bytes_eq (front p) w) (first r (back p)) None
  unfolding seek
  word [] r [] ok cut = ap (λ x. first x []) (under-nil r)
  word [] r (b ∷ p) ok cut = elim (split_on (b == 47)) [
    | inl e ↦ rw (under-nil r, e) refl
    | inr e ↦ rw (under-nil r, e) (cut b p e)
  ]
  word (x ∷ w) r [] ok cut = own-under x w r
  word (x ∷ w) r (b ∷ p) ok cut = plain_step (under (x ∷ w) r) b p (step-miss param_token x w r (not_param x w ok)) (step-miss catch_all_token x w r (not_catch_all x w ok)) ∙ word_step x w r b p ok (word w r p (word_rest x w ok) cut)

  -- the rows that end here
  abbrev pub ends : Option K → RowsOf K
  ends None = []
  ends (Some k) = ([], k) ∷ []

  own-append : (x y : RowsOf K) → own (x ++ y) ≡ or_else (own x) (own y)
  own-append [] y = refl
  own-append (([], k) ∷ r) y = refl
  own-append ((a ∷ t, k) ∷ r) y = own-append r y

  step-append : (b : ℕ) (x y : RowsOf K) → step b (x ++ y) ≡ step b x ++ step b y
  step-append b [] y = refl
  step-append b (([], k) ∷ r) y = step-append b r y
  step-append b ((a ∷ t, k) ∷ r) y =
      elim (a == b) as (λ v. cond v ((t, k) ∷ step b (r ++ y)) (step b (r ++ y)) ≡ cond v ((t, k) ∷ step b r) (step b r) ++ step b y) [
        | true ↦ ap (λ x. (t, k) ∷ x) (step-append b r y)
        | false ↦ step-append b r y
      ]

  step-ends : (b : ℕ) (o : Option K) → step b (ends o) ≡ []
  step-ends b None = refl
  step-ends b (Some k) = refl

  own-ends : (o : Option K) → own (ends o) ≡ o
  own-ends None = refl
  own-ends (Some k) = refl

  pub append-nil : (r : RowsOf K) → r ++ [] ≡ r
  append-nil [] = refl
  append-nil (x ∷ r) = ap (λ y. x ∷ y) (append-nil r)

  -- rows that go on behind a token, and perhaps one that ends here
  step_other : (t b : ℕ) (r : RowsOf K) (o : Option K) → (t == b) ≡ false → step b (under (t ∷ []) r ++ ends o) ≡ []
  step_other t b r o n = rw (step-append b (under (t ∷ []) r) (ends o), step-miss b t [] r n, step-ends b o) refl

  step_this : (t : ℕ) (r : RowsOf K) (o : Option K) → step t (under (t ∷ []) r ++ ends o) ≡ r
  step_this t r o = rw (step-append t (under (t ∷ []) r) (ends o), step-hit t [] r, step-ends t o, append-nil (under [] r)) (under-nil r)

  pub own_behind : (t : ℕ) (r : RowsOf K) (o : Option K) → own (under (t ∷ []) r ++ ends o) ≡ o
  own_behind t r o = rw (own-append (under (t ∷ []) r) (ends o), own-under t [] r) (own-ends o)

  -- behind a slash
  pub slash_cut : (r : RowsOf K) (o : Option K) → IsCut (under (47 ∷ []) r ++ ends o)
  slash_cut r o b q n =
      let other : (47 == b) ≡ false = grind (arith, nat_tests, n) in
      plain_step _ b q (step_other 47 param_token r o refl) (step_other 47 catch_all_token r o refl) ∙ rw (step_other 47 b r o other) (seek-empty 0 q)

  pub slash_on : (r : RowsOf K) (o : Option K) (q : List ℕ) → first (under (47 ∷ []) r ++ ends o) (47 ∷ q) ≡ first r q
  slash_on r o q = plain_step _ 47 q (step_other 47 param_token r o refl) (step_other 47 catch_all_token r o refl) ∙ rw (step_this 47 r o) refl

  -- behind a parameter
  pub param_on : (r : RowsOf K) (o : Option K) (b : ℕ) (p : List ℕ) → b < 256 → first (under (param_token ∷ []) r ++ ends o) (b ∷ p) ≡ after_param r (b ∷ p)
  param_on r o b p small =
      let other : (param_token == b) ≡ false = grind (arith, nat_tests, small) in
      mixed_step _ b p (step_other param_token catch_all_token r o refl) ∙ rw (step_other param_token b r o other, step_this param_token r o, seek-empty 0 p) refl

  in_step : (t b : ℕ) (w : List ℕ) (r others : RowsOf K) → (t == b) ≡ false → step b (under (t ∷ w) r ++ others) ≡ step b others
  in_step t b w r others n = rw (step-append b (under (t ∷ w) r) others, step-miss b t w r n) refl

  on_step : (t : ℕ) (w : List ℕ) (r others : RowsOf K) → step t others ≡ [] → step t (under (t ∷ w) r ++ others) ≡ under w r
  on_step t w r others gone = rw (step-append t (under (t ∷ w) r) others, step-hit t w r, gone) (append-nil (under w r))

  -- a word, or else the others, which begin with another byte
  pub branch : (x : ℕ) (w : List ℕ) (r others : RowsOf K) (p : List ℕ) → is_word (x ∷ w) ≡ true → IsCut r → step x others ≡ [] → step catch_all_token others ≡ [] → first (under (x ∷ w) r ++ others) p ≡ or_else (cond (bytes_eq (front p) (x ∷ w)) (first r (back p)) None) (first others p)
  unfolding seek
  branch x w r others [] ok cut gone none = rw (own-append (under (x ∷ w) r) others, own-under x w r) refl
  branch x w r others (b ∷ p) ok cut gone none =
      let at_end : step catch_all_token (under (x ∷ w) r ++ others) ≡ [] = in_step x catch_all_token w r others (not_catch_all x w ok) ∙ none in
      let at_param : step param_token (under (x ∷ w) r ++ others) ≡ step param_token others = in_step x param_token w r others (not_param x w ok) in
      let others_on = mixed_step others b p none in
      elim (split_on (b == x)) [
        | inl e ↦ this_branch x w r others b p ok cut gone (same b x e) at_end at_param others_on
        | inr e ↦ other_branch x w r others b p e at_end at_param others_on
      ]
    where
      this_branch : (x : ℕ) (w : List ℕ) (r others : RowsOf K) (b : ℕ) (p : List ℕ) → is_word (x ∷ w) ≡ true → IsCut r → step x others ≡ [] → b ≡ x
          → step catch_all_token (under (x ∷ w) r ++ others) ≡ [] → step param_token (under (x ∷ w) r ++ others) ≡ step param_token others
          → first others (b ∷ p) ≡ or_else (first (step b others) p) (after_param (step param_token others) (b ∷ p))
          → first (under (x ∷ w) r ++ others) (b ∷ p) ≡ or_else (cond (bytes_eq (front (b ∷ p)) (x ∷ w)) (first r (back (b ∷ p))) None) (first others (b ∷ p))
      this_branch x w r others b p ok cut gone is at_end at_param others_on =
          let plain : (x == 47) ≡ false = not_slash x w ok in
          let self : (x == x) ≡ true = grind (arith, nat_tests) in
          rw (others_on, mixed_step (under (x ∷ w) r ++ others) b p at_end, at_param, is, on_step x w r others gone, gone, seek-empty 0 p, word w r p (word_rest x w ok) cut, plain, self) refl

      other_branch : (x : ℕ) (w : List ℕ) (r others : RowsOf K) (b : ℕ) (p : List ℕ) → (b == x) ≡ false
          → step catch_all_token (under (x ∷ w) r ++ others) ≡ [] → step param_token (under (x ∷ w) r ++ others) ≡ step param_token others
          → first others (b ∷ p) ≡ or_else (first (step b others) p) (after_param (step param_token others) (b ∷ p))
          → first (under (x ∷ w) r ++ others) (b ∷ p) ≡ or_else (cond (bytes_eq (front (b ∷ p)) (x ∷ w)) (first r (back (b ∷ p))) None) (first others (b ∷ p))
      other_branch x w r others b p e at_end at_param others_on =
          let other : (x == b) ≡ false = grind (arith, nat_tests, e) in
          rw (others_on, mixed_step (under (x ∷ w) r ++ others) b p at_end, at_param, in_step x b w r others other) (elim (split_on (b == 47)) [
            | inl f ↦ rw f refl
            | inr f ↦ rw (f, e) refl
          ])

  -- one word, or the others, which begin with another byte and have no parameter in front
  pub fork : (x : ℕ) (w : List ℕ) (r others : RowsOf K) (p : List ℕ) → is_word (x ∷ w) ≡ true → IsCut r → step x others ≡ [] → step param_token others ≡ [] → step catch_all_token others ≡ [] → first (under (x ∷ w) r ++ others) p ≡ cond (bytes_eq (front p) (x ∷ w)) (first r (back p)) (first others p)
  unfolding seek
  fork x w r others [] ok cut gone lacks none = branch x w r others [] ok cut gone none
  fork x w r others (b ∷ p) ok cut gone lacks none =
      let rest = plain_step others b p lacks none in
      branch x w r others (b ∷ p) ok cut gone none ∙ elim (split_on (b == x)) [
        | inl e ↦
            let is : b ≡ x = same b x e in
            rw (rest, is, gone, seek-empty 0 p) (left_only (bytes_eq (front (x ∷ p)) (x ∷ w)) (first r (back (x ∷ p))))
        | inr e ↦ unlike x w r b p (first others (b ∷ p)) e
      ]
    where
      left_only : (v : Bool) (a : Option K) → or_else (cond v a None) None ≡ cond v a None
      left_only true a = or_else-none a
      left_only false a = refl

      unlike : (x : ℕ) (w : List ℕ) (r : RowsOf K) (b : ℕ) (p : List ℕ) (a : Option K) → (b == x) ≡ false → or_else (cond (bytes_eq (front (b ∷ p)) (x ∷ w)) (first r (back (b ∷ p))) None) a ≡ cond (bytes_eq (front (b ∷ p)) (x ∷ w)) (first r (back (b ∷ p))) a
      unlike x w r b p a e = elim (split_on (b == 47)) [
        | inl f ↦ rw f refl
        | inr f ↦ rw (f, e) refl
      ]
