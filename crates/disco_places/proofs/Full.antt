-- No app is without an id.
use Rattle.std.proofs.Common.{◌≡◌, ◌⊎◌, inl, inr, Bool, true, false, cond, List, Option, Some, None, Result, Ok, Err, OnErr, OnOk, IsSome, refl, sym, ap, subst, ◌∙◌}
use Rattle.std.proofs.lemmas.Option.{none-some, same_Some}
use Rattle.std.specs.BTreeMap.{is_at}
use Rattle.std.specs.Cmp.{eq_by_cmp_equiv}
use Rattle.std.specs.FinMap.{empty, get, insert}
use Rattle.disco_places.specs.KeyMaps.{ById, HasNoBareApp, text_cmp}
use Rattle.disco_places.proofs.Stored.{Text, Updated, at_text, put_full, text_is, texts_total}

module _ {X : Type 0} where
  -- an id has another value, or all is as it was
  abbrev pub Grown : ById X → ById X → Type 0
  Grown m n = ((i : Text) × (v : X) × (n ≡ insert m i v)) ⊎ (n ≡ m)

  pub grown_by : {E : Type 0} (r : Result Unit E) (m n : ById X) (i : Text) (v : X) → OnOk r (n ≡ insert m i v) → OnErr r (n ≡ m) → Grown m n
  grown_by (Ok u) m n i v ok err = inl (i, v, ok)
  grown_by (Err e) m n i v ok err = inr err

  pub grown_where : (m n : ById X) (i : Text) (v : X) → (IsSome (get m i) → n ≡ insert m i v) → (get m i ≡ None → n ≡ m) → Grown m n
  grown_where m n i v there none = one (get m i) refl
    where
      one : (o : Option X) → get m i ≡ o → Grown m n
      one (Some x) is = inl (i, v, there (subst (λ (o : Option X). IsSome o) (sym is) refl))
      one None is = inr (none is)

  full_grown : (m n : ById X) → Grown m n → (m ≡ empty → ⊥) → n ≡ empty → ⊥
  full_grown m n (inl put) full e = put_full m put.0 put.1 (sym put.2 ∙ e)
  full_grown m n (inr same) full e = full (sym same ∙ e)

  module _ (es fs : List (Text × ById X)) where
    -- an app has ids
    pub full_by : (k : Text) (n : ById X) → Updated es fs k (Some n) → (n ≡ empty → ⊥) → HasNoBareApp es → HasNoBareApp fs
    full_by k n update full none a is = one (is_at (text_cmp k) a) (sym (update a) ∙ is)
      where
        one : (b : Bool) → cond b (Some n) (at_text es a) ≡ Some empty → ⊥
        one true e = full (same_Some n empty e)
        one false e = none a e

    -- the ids of an app have grown
    pub full_lent : (k : Text) (m n : ById X) → Some m ≡ at_text es k → Updated es fs k (Some n) → Grown m n → HasNoBareApp es → HasNoBareApp fs
    full_lent k m n there update grown none = full_by k n update (full_grown m n grown (λ e. none k (sym there ∙ ap Some e))) none

    -- an id is out, so that its app alone may stand bare
    pub bare_alone : (k : Text) (n : ById X) → Updated es fs k (Some n) → HasNoBareApp es → (a : Text) → at_text fs a ≡ Some empty → a ≡ k
    bare_alone k n update none a is = one (is_at (text_cmp k) a) refl (sym (update a) ∙ is)
      where
        one : (b : Bool) → is_at (text_cmp k) a ≡ b → cond b (Some n) (at_text es a) ≡ Some empty → a ≡ k
        one true at e = sym (text_is k a at)
        one false at e = absurd (none a e)

    -- the app is out that may have stood bare
    pub full_without : (k : Text) → Updated es fs k None → ((a : Text) → at_text es a ≡ Some empty → a ≡ k) → HasNoBareApp fs
    full_without k update alone a is = one (is_at (text_cmp k) a) refl (sym (update a) ∙ is)
      where
        one : (b : Bool) → is_at (text_cmp k) a ≡ b → cond b None (at_text es a) ≡ Some empty → ⊥
        one true at e = none-some empty e
        one false at e =
            let own : is_at (text_cmp k) a ≡ true = subst (λ b. is_at (text_cmp k) b ≡ true) (sym (alone a e)) ((eq_by_cmp_equiv texts_total).refl k) in
            absurd (cc)
