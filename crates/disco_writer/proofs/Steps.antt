-- What a step does to the texts, and which places it leaves empty.
use Rattle.std.proofs.Common.{◌≡◌, ℕ, List, Bool, true, false, cond, Option, Some, None, is_some, IsSome, Result, Ok, Err, OnErr, OnOk, refl, sym, ap, subst, ◌∙◌}
use Rattle.std.specs.Ordering.{is_eq}
use Rattle.std.specs.Cmp.{tied_itself}
use Rattle.std.specs.Borrow.{Bor}
use Rattle.std.specs.Option.{option_copied, option_flatten}
use Rattle.std.specs.FinMap.{empty, get, insert, remove, get-empty, get-insert, get-remove}
use Rattle.disco_values.specs.Key.{key_cmp, same_key}
use Rattle.disco_values.specs.declared.key.Key.{Key}
use Rattle.disco_history.proofs.Keys.{keys_total, same_is}
use Rattle.disco_writer.specs.Empty.{OnlyNextIsEmpty, OpensOnly, ShowSame, SweepsAt}
use Rattle.disco_writer.specs.Kept.{HasNoEmpty, Places}

abbrev Text : Type 0
Text = List ℕ

flat_cond : (b : Bool) (x y : Option (Option Text)) → option_flatten (cond b x y) ≡ cond b (option_flatten x) (option_flatten y)
flat_cond true x y = refl
flat_cond false x y = refl

itself : (k : Key) → same_key k k ≡ true
itself k = ap is_eq (tied_itself keys_total k)

-- ---- texts

pub text-put : (m n : Places) (k : Key) (l : Text) → n ≡ insert m k (Some l) → (q : Key) → option_flatten (get n q) ≡ cond (same_key q k) (Some l) (option_flatten (get m q))
text-put m n k l e q = ap (λ p. option_flatten (get p q)) e ∙ ap option_flatten (get-insert keys_total m k (Some l) q) ∙ flat_cond (same_key q k) (Some (Some l)) (get m q)

pub text-out : (m n : Places) (k : Key) → n ≡ remove m k → (q : Key) → option_flatten (get n q) ≡ cond (same_key q k) None (option_flatten (get m q))
text-out m n k e q = ap (λ p. option_flatten (get p q)) e ∙ ap option_flatten (get-remove keys_total m k q) ∙ flat_cond (same_key q k) None (get m q)

pub absent : (o : Option (Option Text)) → is_some o ≡ false → o ≡ None
absent None e = refl
absent (Some p) e = absurd (cc)

made : (m : Places) (k q : Key) (b : Bool) → same_key q k ≡ b → option_flatten (cond b (Some (option_flatten (get m k))) (get m q)) ≡ option_flatten (get m q)
made m k q true same = ap (λ p. option_flatten (get m p)) (sym (same_is q k same))
made m k q false same = refl

-- a place that is made shows what stood there
text-made : (m n : Places) (k : Key) → n ≡ insert m k (option_flatten (get m k)) → (q : Key) → option_flatten (get n q) ≡ option_flatten (get m q)
text-made m n k e q =
    ap (λ p. option_flatten (get p q)) e ∙ ap option_flatten (get-insert keys_total m k (option_flatten (get m k)) q)
    ∙ made m k q (same_key q k) refl

place-open : (m n : Places) (k : Key) (v : Option Text) → n ≡ insert m k v → IsSome (get n k)
place-open m n k v e =
    let now : get n k ≡ Some v = ap (λ p. get p k) e ∙ get-insert keys_total m k v k ∙ ap (λ b. cond b (Some v) (get m k)) (itself k) in
    subst (λ (o : Option (Option Text)). IsSome o) (sym now) refl

apart : (o : Option (Option Text)) (v x : Option Text) (b : Bool) → cond b (Some v) o ≡ Some x → b ≡ false → o ≡ Some x
apart o v x true is other = absurd (cc)
apart o v x false is other = is

-- ... and is the only new one
opens : (m n : Places) (k : Key) (v : Option Text) → n ≡ insert m k v → OpensOnly k m n
opens m n k v e q other is = apart (get m q) v None (same_key q k) (sym (get-insert keys_total m k v q) ∙ sym (ap (λ p. get p q) e) ∙ is) other

-- what a place that was made for a key shows, where memory was there or not
module _ {U E : Type 0} where
  pub show_made : (m n : Places) (k : Key) (r : Result U E) → OnOk r (n ≡ insert m k (option_flatten (get m k))) → OnErr r (n ≡ m) → ShowSame m n
  show_made m n k (Ok u) made same q = text-made m n k made q
  show_made m n k (Err e) made same q = ap (λ p. option_flatten (get p q)) same

  pub place_made : (m n : Places) (k : Key) (r : Result U E) → OnOk r (n ≡ insert m k (option_flatten (get m k))) → OnOk r (IsSome (get n k))
  place_made m n k (Ok u) made = place-open m n k (option_flatten (get m k)) made
  place_made m n k (Err e) made = tt

  pub opens_made : (m n : Places) (k : Key) (r : Result U E) → OnOk r (n ≡ insert m k (option_flatten (get m k))) → OnErr r (n ≡ m) → OpensOnly k m n
  opens_made m n k (Ok u) made same q other is = opens m n k (option_flatten (get m k)) made q other is
  opens_made m n k (Err e) made same q other is = ap (λ p. get p q) (sym same) ∙ is

emptied : (m : Places) (k q : Key) (b : Bool) → option_flatten (get m k) ≡ None → same_key q k ≡ b → cond b None (option_flatten (get m q)) ≡ option_flatten (get m q)
emptied m k q true none same = sym (ap (λ p. option_flatten (get m p)) (same_is q k same) ∙ none)
emptied m k q false none same = refl

-- an empty place that goes shows nothing
pub text-emptied : (m n : Places) (k : Key) → option_flatten (get m k) ≡ None → n ≡ remove m k → (q : Key) → option_flatten (get n q) ≡ option_flatten (get m q)
text-emptied m n k none e q = text-out m n k e q ∙ emptied m k q (same_key q k) none refl

-- what was ready is put
pub text-ready : (m n : Places) (key k : Key) (text t : Text) → ◌≡◌ {A = Option (Key × Text)} (Some (key, text)) (Some (k, t)) → n ≡ insert m key (Some text) → (q : Key) → option_flatten (get n q) ≡ cond (same_key q k) (Some t) (option_flatten (get m q))
text-ready m n key k text t same e =
    let keys : key ≡ k = ap (λ o. (pick key text o).0) same in
    let texts : text ≡ t = ap (λ o. (pick key text o).1) same in
    text-put m n k t (e ∙ λ i. insert m (keys i) (Some (texts i)))
  where
    pick : Key → Text → Option (Key × Text) → Key × Text
    pick key text None = (key, text)
    pick key text (Some p) = p

-- ---- places that stand empty

gone : (m : Places) (q : Key) (b : Bool) → cond b None (get m q) ≡ Some None → (b ≡ false) × (get m q ≡ Some None)
gone m q true is = absurd (cc)
gone m q false is = (refl, is)

-- a place that is taken out stands empty no more
pub sweeps : (m n : Places) (k : Key) → n ≡ remove m k → SweepsAt k m n
sweeps m n k e q is = gone m q (same_key q k) (sym (get-remove keys_total m k q) ∙ sym (ap (λ p. get p q) e) ∙ is)

filled_at : (m : Places) (k q : Key) (t : Text) (b : Bool) → Some t ≡ option_flatten (get m k) → same_key q k ≡ b → get m q ≡ Some None → b ≡ false
filled_at m k q t true is same none = absurd (let all : Some t ≡ None = is ∙ ap option_flatten (ap (get m) (sym (same_is q k same)) ∙ none) in cc)
filled_at m k q t false is same none = refl

-- one with a text doesn't
pub sweeps_none : (m : Places) (k : Key) (t : Text) → Some t ≡ option_flatten (get m k) → SweepsAt k m m
sweeps_none m k t is q none = (filled_at m k q t (same_key q k) is refl none, none)

pub sweeps_filled : (m : Places) (k : Key) (o : Option (Bor Text)) → option_copied o ≡ option_flatten (get m k) → is_some o ≡ true → SweepsAt k m m
sweeps_filled m k None is there = absurd (cc)
sweeps_filled m k (Some b) is there = sweeps_none m k b.now is

pub shows_nothing : (o : Option (Bor Text)) (x : Option Text) → option_copied o ≡ x → is_some o ≡ false → x ≡ None
shows_nothing None x is none = sym is
shows_nothing (Some b) x is none = absurd (cc)

pub only_next-new : OnlyNextIsEmpty None empty
only_next-new q is = absurd (let none : None ≡ Some None = sym (get-empty key_cmp q) ∙ is in cc)

-- where nothing is put next no place stands empty
pub none_next : (o : Option (Key × Text)) (p : Places) → o ≡ None → OnlyNextIsEmpty o p → HasNoEmpty p
none_next None p is only q empty = only q empty
none_next (Some n) p is only q empty = absurd (cc)

-- ... nor where its place was swept
pub next_swept : (n : Key × Text) (m p : Places) → OnlyNextIsEmpty (Some n) m → SweepsAt n.0 m p → HasNoEmpty p
next_swept n m p only swept q is =
    let s = swept q is in absurd (let all : true ≡ false = sym (ap (λ (x : Key). same_key x n.0) (only q s.1) ∙ itself n.0) ∙ s.0 in cc)

-- with one place that was opened, it is that of what is put next
pub next_opened : (k : Key) (t : Text) (m p : Places) → HasNoEmpty m → OpensOnly k m p → OnlyNextIsEmpty (Some (k, t)) p
next_opened k t m p none opens q is = by (same_key q k) refl
  where
    by : (b : Bool) → same_key q k ≡ b → q ≡ k
    by true same = same_is q k same
    by false same = absurd (none q (opens q same is))

put_other : (m : Places) (k q : Key) (l : Text) (b : Bool) → cond b (Some (Some l)) (get m q) ≡ Some None → (b ≡ false) × (get m q ≡ Some None)
put_other m k q l true is = absurd (cc)
put_other m k q l false is = (refl, is)

-- a text that is put fills the place
pub next_put : (n : Key × Text) (l : Text) (m p : Places) → OnlyNextIsEmpty (Some n) m → p ≡ insert m n.0 (Some l) → HasNoEmpty p
next_put n l m p only e = next_swept n m p only (λ q is. put_other m n.0 q l (same_key q n.0) (sym (get-insert keys_total m n.0 (Some l) q) ∙ sym (ap (λ x. get x q) e) ∙ is))

absent_at : (m : Places) (k q : Key) (b : Bool) → is_some (get m k) ≡ false → same_key q k ≡ b → get m q ≡ Some None → b ≡ false
absent_at m k q true none same is = absurd (let all : None ≡ Some None = sym (absent (get m k) none) ∙ ap (get m) (sym (same_is q k same)) ∙ is in cc)
absent_at m k q false none same is = refl

-- without a place for it none stands empty
pub next_absent : (n : Key × Text) (m : Places) → OnlyNextIsEmpty (Some n) m → is_some (get m n.0) ≡ false → HasNoEmpty m
next_absent n m only none = next_swept n m m only (λ q is. (absent_at m n.0 q (same_key q n.0) none refl is, is))

-- a text that is put where there is a place leaves none empty
pub next_kept : (k : Key) (t : Text) (o : Option (Key × Text)) (m p : Places) → Some (k, t) ≡ o → OnlyNextIsEmpty o m → (IsSome (get m k) → p ≡ insert m k (Some t)) → (get m k ≡ None → p ≡ m) → HasNoEmpty p
next_kept k t o m p is only there none = by (get m k) refl
  where
    alone : OnlyNextIsEmpty (Some (k, t)) m
    alone = subst (λ (x : Option (Key × Text)). OnlyNextIsEmpty x m) (sym is) only

    by : (x : Option (Option Text)) → get m k ≡ x → HasNoEmpty p
    by None e = λ q is_empty. next_absent (k, t) m alone (ap is_some e) q (ap (λ x. get x q) (sym (none e)) ∙ is_empty)
    by (Some v) e = next_put (k, t) t m p alone (there (subst (λ (x : Option (Option Text)). IsSome x) (sym e) refl))

-- the place that was made for it is there
pub ready_place : (m : Places) (key k : Key) (text t : Text) → ◌≡◌ {A = Option (Key × Text)} (Some (key, text)) (Some (k, t)) → IsSome (get m k) → IsSome (get m key)
ready_place m key k text t same place = subst (λ (q : Key). IsSome (get m q)) (sym (ap (λ o. pick o) same)) place
  where
    pick : Option (Key × Text) → Key
    pick None = key
    pick (Some p) = p.0

-- a place that is taken out leaves at most that one
pub only_next-out : (o : Option (Key × Text)) (k : Key) (m p : Places) → OnlyNextIsEmpty o m → p ≡ remove m k → OnlyNextIsEmpty o p
only_next-out o k m p only e q is = only q (sweeps m p k e q is).1
