-- What a step does to the places under one vip after another.
use Rattle.std.proofs.Common.{◌≡◌, ℕ, Bool, true, false, ◌&&◌, ◌||◌, cond, List, [], ◌∷◌, ◌++◌, Option, Some, None, IsSome, refl, sym, ap, subst, ◌∙◌}
use Rattle.std.specs.List.{list_any}
use Rattle.std.specs.Option.{unwrap_or}
use Rattle.std.specs.Str.{bytes_eq}
use Rattle.disco_values.specs.Key.{same_key}
use Rattle.disco_values.specs.declared.key.Key.{Key}
use Rattle.disco_history.specs.Slots.{written}
use Rattle.disco_index.specs.Places.{Alters, IsSameIn, KeepsPlacesIn, OthersOf, opened_vip, place_in, swept}
use Rattle.disco_index.specs.Vips.{KeysByVip}

-- twice is as once
abbrev pub IsIdempotent : (Option Bool → Option Bool) → Type 0
IsIdempotent f = (o : Option Bool) → f (f o) ≡ f o

pub written-twice : (b : Bool) → IsIdempotent (written b)
written-twice b None = refl
written-twice b (Some x) = refl

pub opened-twice : IsIdempotent opened_vip
opened-twice None = refl
opened-twice (Some x) = refl

pub swept-twice : IsIdempotent swept
swept-twice None = refl
swept-twice (Some true) = refl
swept-twice (Some false) = refl

-- what is still to be altered under the vips of an address, so that all are
abbrev pub Left : (Option Bool → Option Bool) → List (List ℕ) → Key → KeysByVip → List (List ℕ) → KeysByVip → Type 0
Left f all k old rest here = (new : KeysByVip) → Alters f rest k here new → Alters f all k old new

or_more : (a b c : Bool) → (a || (b || c)) ≡ ((a || b) || c)
or_more true b c = refl
or_more false b c = refl

any_append : (test : List ℕ → Bool) (vs rest : List (List ℕ)) → list_any test (vs ++ rest) ≡ (list_any test vs || list_any test rest)
any_append test [] rest = refl
any_append test (v ∷ vs) rest = ap (λ b. test v || b) (any_append test vs rest) ∙ or_more (test v) (list_any test vs) (list_any test rest)

module _ (f : Option Bool → Option Bool) (twice : IsIdempotent f) where
  joined : (a b s : Bool) (o : Option Bool) → cond (b && s) (f (cond (a && s) (f o) o)) (cond (a && s) (f o) o) ≡ cond ((a || b) && s) (f o) o
  joined true true true o = twice o
  joined true true false o = refl
  joined true false true o = refl
  joined true false false o = refl
  joined false true true o = refl
  joined false true false o = refl
  joined false false s o = refl

  -- first under some vips, and then under the rest
  then_rest : (vs rest : List (List ℕ)) (k : Key) (old mid new : KeysByVip) → Alters f vs k old mid → Alters f rest k mid new → Alters f (vs ++ rest) k old new
  then_rest vs rest k old mid new some more q p =
      more q p ∙ ap (λ o. cond (list_any (bytes_eq q) rest && same_key p k) (f o) o) (some q p)
      ∙ joined (list_any (bytes_eq q) vs) (list_any (bytes_eq q) rest) (same_key p k) (place_in old q p)
      ∙ ap (λ b. cond (b && same_key p k) (f (place_in old q p)) (place_in old q p)) (sym (any_append (bytes_eq q) vs rest))

  pub left-step : (all : List (List ℕ)) (k : Key) (old : KeysByVip) (vs before rest : List (List ℕ)) (here next : KeysByVip) → before ≡ vs ++ rest → Alters f vs k here next → Left f all k old before here → Left f all k old rest next
  left-step all k old vs before rest here next is some left new more = left new (subst (λ us. Alters f us k here new) (sym is) (then_rest vs rest k here next new some more))

-- ---- an empty place where there was none

abbrev there : Option Bool → Bool
there o = unwrap_or o false

one_opened : (b : Bool) (o : Option Bool) → there (cond b (opened_vip o) o) ≡ there o
one_opened true None = refl
one_opened true (Some x) = refl
one_opened false o = refl

opened_stays : (b : Bool) (o : Option Bool) → IsSome o → IsSome (cond b (opened_vip o) o)
opened_stays true o h = refl
opened_stays false o h = h

-- each of these vips is one of those
abbrev pub IsAmong : List (List ℕ) → List (List ℕ) → Type 0
IsAmong vs all = (q : List ℕ) → list_any (bytes_eq q) vs ≡ true → list_any (bytes_eq q) all ≡ true

in_rest : (a b : Bool) → b ≡ true → (a || b) ≡ true
in_rest true b is = refl
in_rest false b is = is

in_front : (a b : Bool) → a ≡ true → (a || b) ≡ true
in_front true b is = refl
in_front false b is = absurd (cc)

apart_from : (a b c : Bool) → (a ≡ true → b ≡ true) → (b && c) ≡ false → (a && c) ≡ false
apart_from true true c among apart = apart
apart_from true false c among apart = absurd (let bad = among refl in cc)
apart_from false b c among apart = refl

module _ (vs : List (List ℕ)) (k : Key) (old new : KeysByVip) where
  -- shows nothing
  pub opens_same : Alters opened_vip vs k old new → IsSameIn old new
  opens_same h q p = ap there (h q p) ∙ one_opened (list_any (bytes_eq q) vs && same_key p k) (place_in old q p)

  -- and each place stays
  pub opens_keeps : Alters opened_vip vs k old new → KeepsPlacesIn old new
  opens_keeps h q p some = subst (λ (o : Option Bool). IsSome o) (sym (h q p)) (opened_stays (list_any (bytes_eq q) vs && same_key p k) (place_in old q p) some)

-- ---- empty places under the vips of an address, some after others

-- what is so before the rest of them are opened
pub record IsOpening (all : List (List ℕ)) (k : Key) (old : KeysByVip) (rest : List (List ℕ)) (here : KeysByVip) : Type 0 where
  pub left : Left opened_vip all k old rest here
  pub same : IsSameIn old here
  pub places : KeepsPlacesIn old here
  pub among : IsAmong rest all
  pub others : OthersOf all k old here

pub opening-step : (all : List (List ℕ)) (k : Key) (old : KeysByVip) (vs before rest : List (List ℕ)) (here next : KeysByVip) → before ≡ vs ++ rest → Alters opened_vip vs k here next → IsOpening all k old before here → IsOpening all k old rest next
opening-step all k old vs before rest here next is some so = record {
  left = left-step opened_vip opened-twice all k old vs before rest here next is some so.left;
  same = λ q p. opens_same vs k here next some q p ∙ so.same q p;
  places = λ q p there. opens_keeps vs k here next some q p (so.places q p there);
  among = λ q there. so.among q (ap (list_any (bytes_eq q)) is ∙ any_append (bytes_eq q) vs rest ∙ in_rest (list_any (bytes_eq q) vs) (list_any (bytes_eq q) rest) there);
  others = λ q p apart.
      some q p
      ∙ ap (λ b. cond b (opened_vip (place_in here q p)) (place_in here q p))
      (apart_from (list_any (bytes_eq q) vs) (list_any (bytes_eq q) all) (same_key p k)
      (λ h. so.among q (ap (list_any (bytes_eq q)) is ∙ any_append (bytes_eq q) vs rest ∙ in_front (list_any (bytes_eq q) vs) (list_any (bytes_eq q) rest) h)) apart)
      ∙ so.others q p apart;
}

pub opening-end : (all : List (List ℕ)) (k : Key) (old here : KeysByVip) → IsOpening all k old [] here → Alters opened_vip all k old here
opening-end all k old here so = so.left here (λ q p. refl)
