-- Lines taken off the front of an input one by one.
use Rattle.std.proofs.Common.{◌≡◌, ◌⊎◌, inl, inr, ℕ, ◌+◌, ◌<◌, Bool, true, false, List, [], ◌∷◌, ◌++◌, length, map, take, drop, Option, Some, None, refl, ap, sym, ◌∙◌, arith}
use native.Mathlib.Numerals.{unary_clauses}
use Rattle.std.specs.List.{before_first, after_first, position_or_len}
use Rattle.disco_values.specs.declared.fault.Fault.TheVariants.{BadEvent}
use Rattle.disco_world.specs.declared.event.Event.{Event}
use Rattle.std.specs.Option.{is_none, is_some}
use Rattle.disco_lines.specs.Lines.{lines, meanings, event_of, IsFirstBadLine}
use Rattle.disco_lines.specs.Steps.{is_feed, with_found}

split_on : (t : Bool) → (t ≡ true) ⊎ (t ≡ false)
split_on true = inl refl
split_on false = inr refl

first_of_feed : (b : ℕ) (bs : List ℕ) → is_feed b ≡ true → lines (b ∷ bs) ≡ before_first is_feed (b ∷ bs) ∷ lines (after_first is_feed (b ∷ bs))
first_of_feed b bs e = rw e refl

first_of_more : (b : ℕ) (bs line : List ℕ) (ls : List (List ℕ)) → is_feed b ≡ false → lines bs ≡ line ∷ ls → lines (b ∷ bs) ≡ (b ∷ line) ∷ ls
first_of_more b bs line ls e f = rw (e, f) refl

last_line : (b : ℕ) → is_feed b ≡ false → lines (b ∷ []) ≡ before_first is_feed (b ∷ []) ∷ lines (after_first is_feed (b ∷ []))
last_line b e = rw e refl

take_one : (n b : ℕ) (bs : List ℕ) → take (n + 1) (b ∷ bs) ≡ b ∷ take n bs
take_one n b bs = simp unary_clauses refl

take_more : (n b : ℕ) (bs : List ℕ) → take (1 + n) (b ∷ bs) ≡ b ∷ take n bs
take_more n b bs = let e : 1 + n ≡ n + 1 = omega arith in rw e (take_one n b bs)

drop_one : (n b : ℕ) (bs : List ℕ) → drop (n + 1) (b ∷ bs) ≡ drop n bs
drop_one n b bs = simp unary_clauses refl

drop_more : (n b : ℕ) (bs : List ℕ) → drop (1 + n + 1) (b ∷ bs) ≡ drop (n + 1) bs
drop_more n b bs = drop_one (1 + n) b bs ∙ ap (λ k. drop k bs) (omega arith)

before_more : (b : ℕ) (bs : List ℕ) → is_feed b ≡ false → before_first is_feed (b ∷ bs) ≡ b ∷ before_first is_feed bs
before_more b bs e = rw e (take_more _ b bs)

after_more : (b : ℕ) (bs : List ℕ) → is_feed b ≡ false → after_first is_feed (b ∷ bs) ≡ after_first is_feed bs
after_more b bs e = rw e (drop_more _ b bs)

-- the first line of an input, and the lines behind it
pub lines_first : (bs : List ℕ) → 0 < length bs → lines bs ≡ before_first is_feed bs ∷ lines (after_first is_feed bs)
lines_first [] pos = absurd (omega (arith, pos))
lines_first (b ∷ []) pos = elim (split_on (is_feed b)) [
  | inl e ↦ first_of_feed b [] e
  | inr e ↦ last_line b e
]
lines_first (b ∷ c ∷ cs) pos = elim (split_on (is_feed b)) [
  | inl e ↦ first_of_feed b (c ∷ cs) e
  | inr e ↦ rw (before_more b (c ∷ cs) e, after_more b (c ∷ cs) e) (first_of_more b (c ∷ cs) _ _ e (lines_first (c ∷ cs) (omega arith)))
]

pub meanings_first : (bs : List ℕ) → 0 < length bs → meanings bs ≡ event_of (before_first is_feed bs) ∷ meanings (after_first is_feed bs)
meanings_first bs pos = ap (map event_of) (lines_first bs pos)

-- where the first that is none stands, behind some that are not
pub first_none : (events : List Event) (more : List (Option Event)) → position_or_len is_none (map Some events ++ None ∷ more) ≡ length events
first_none [] more = refl
first_none (x ∷ xs) more = omega (arith, first_none xs more)

pub none_is_within : (events : List Event) (more : List (Option Event)) → length events < length (map Some events ++ None ∷ more)
none_is_within [] more = omega arith
none_is_within (x ∷ xs) more = omega (arith, none_is_within xs more)

pub one_more : (events : List Event) (event : Event) (more : List (Option Event)) → map Some (events ++ event ∷ []) ++ more ≡ map Some events ++ Some event ∷ more
one_more [] event more = refl
one_more (x ∷ xs) event more = ap (λ ms. Some x ∷ ms) (one_more xs event more)

behind : (rest line after : List ℕ) (found : Option Event) → 0 < length rest → line ≡ before_first is_feed rest → after ≡ after_first is_feed rest → found ≡ event_of line → found ∷ meanings after ≡ meanings rest
behind rest line after found pos e f g = rw (g, e, f) (sym (meanings_first rest pos))

-- a line that means an event is taken
pub taken : (events : List Event) (event : Event) (input rest line after : List ℕ) → 0 < length rest → line ≡ before_first is_feed rest → after ≡ after_first is_feed rest → Some event ≡ event_of line → map Some events ++ meanings rest ≡ meanings input → map Some (events ++ event ∷ []) ++ meanings after ≡ meanings input
taken events event input rest line after pos e f g inv = one_more events event (meanings after) ∙ (ap (λ ms. map Some events ++ ms) (behind rest line after (Some event) pos e f g) ∙ inv)

-- a line that means nothing is the first such
pub bad_line : (events : List Event) (n : ℕ) (input rest line after : List ℕ) → n ≡ length events → 0 < length rest → line ≡ before_first is_feed rest → after ≡ after_first is_feed rest → None ≡ event_of line → map Some events ++ meanings rest ≡ meanings input → IsFirstBadLine input (BadEvent (n + 1))
bad_line events n input rest line after count pos e f g inv =
    let whole : map Some events ++ None ∷ meanings after ≡ meanings input = ap (λ ms. map Some events ++ ms) (behind rest line after None pos e f g) ∙ inv in
    record {
      number = rw (← whole, first_none events (meanings after), count) refl;
      is_line = rw (← whole, first_none events (meanings after)) (none_is_within events (meanings after));
    }

-- a line was looked at, and the event that it means was put behind those before it
pub taken_line : (before now : List Event) (found : Option Event) (says : Bool) (input rest line after : List ℕ)
    → says ≡ true → says ≡ is_some found → now ≡ with_found before found
    → 0 < length rest → line ≡ before_first is_feed rest → after ≡ after_first is_feed rest → found ≡ event_of line
    → map Some before ++ meanings rest ≡ meanings input → map Some now ++ meanings after ≡ meanings input
taken_line before now None says input rest line after put is puts pos e f g inv = absurd (cc)
taken_line before now (Some event) says input rest line after put is puts pos e f g inv = rw puts (taken before event input rest line after pos e f g inv)

-- a line was looked at, and no event was put
pub missed_line : (before now : List Event) (found : Option Event) (says : Bool) (n : ℕ) (input rest line after : List ℕ)
    → says ≡ false → says ≡ is_some found → now ≡ with_found before found → n ≡ length now
    → 0 < length rest → line ≡ before_first is_feed rest → after ≡ after_first is_feed rest → found ≡ event_of line
    → map Some before ++ meanings rest ≡ meanings input → IsFirstBadLine input (BadEvent (n + 1))
missed_line before now None says n input rest line after unput is puts count pos e f g inv =
    bad_line before n input rest line after (count ∙ ap length puts) pos e f g inv
missed_line before now (Some event) says n input rest line after unput is puts count pos e f g inv = absurd (cc)
