-- Words of a line taken off its front one by one.
use Rattle.std.proofs.Common.{◌≡◌, ◌⊎◌, inl, inr, ℕ, ◌+◌, ◌-◌, ◌≤◌, Bool, not, true, false, cond, List, [], ◌∷◌, length, take, drop, Option, Some, None, MatchBool, option_map, Bor, refl, ap, sym, ◌∙◌, arith}
use Rattle.std.specs.List.{position, position_or_len, onto_first, slice_split}
use Rattle.std.specs.Option.{is_some}
use Rattle.std.proofs.lemmas.List.{take_rest}
use Rattle.std.proofs.lemmas.List.Splits.{slice_split_first, join_with_byte-slice_split}
use Rattle.disco_lines.proofs.First.{told_some, told_none}
use Rattle.disco_lines.specs.Words.{words, joined}
use Rattle.disco_lines.specs.Steps.{is_space, words_left}

-- the first part of a line, up to a space
pub parted : (line : List ℕ) (at : ℕ) → Some at ≡ position is_space line → words line ≡ take at line ∷ words (take (length line - (at + 1)) (drop (at + 1) line))
parted line at e =
    let found = told_some is_space line at e in
    rw (take_rest line (at + 1), found.0) (slice_split_first is_space line 0 (omega (arith, found.0, found.1)))

split_on : (t : Bool) → (t ≡ true) ⊎ (t ≡ false)
split_on true = inl refl
split_on false = inr refl

at_once : (b : ℕ) (bs : List ℕ) → is_space b ≡ true → length (b ∷ bs) ≤ position_or_len is_space (b ∷ bs) → ⊥
at_once b bs e = rw e (λ far. omega (arith, far))

later : (b : ℕ) (bs : List ℕ) → is_space b ≡ false → length (b ∷ bs) ≤ position_or_len is_space (b ∷ bs) → length bs ≤ position_or_len is_space bs
later b bs e = rw e (λ far. omega (arith, far))

onto : (b : ℕ) (bs : List ℕ) → is_space b ≡ false → words bs ≡ bs ∷ [] → words (b ∷ bs) ≡ (b ∷ bs) ∷ []
onto b bs e f = rw (e, f) refl

all_one : (line : List ℕ) → length line ≤ position_or_len is_space line → words line ≡ line ∷ []
all_one [] far = refl
all_one (b ∷ bs) far = elim (split_on (is_space b)) [
  | inl e ↦ absurd (at_once b bs e far)
  | inr e ↦ onto b bs e (all_one bs (later b bs e far))
]

-- a line without a space is one word
pub unparted : (line : List ℕ) → None ≡ position is_space line → words line ≡ line ∷ []
unparted line e = all_one line (told_none is_space line e)

first_of : (t : Bool) (b : ℕ) (parts : List (List ℕ)) → (word : List ℕ) × (more : List (List ℕ)) × (cond t ([] ∷ parts) (onto_first b parts) ≡ word ∷ more)
first_of true b parts = ([], parts, refl)
first_of false b [] = (b ∷ [], [], refl)
first_of false b (part ∷ parts) = (b ∷ part, parts, refl)

some_word : (line : List ℕ) → (word : List ℕ) × (more : List (List ℕ)) × (words line ≡ word ∷ more)
some_word [] = ([], [], refl)
some_word (b ∷ bs) = first_of (is_space b) b (slice_split is_space bs)

-- whether words are left
pub are_left : (rest : Option (Bor (List ℕ))) (none : Bool) (left : List (List ℕ)) → is_some rest ≡ not none → words_left (option_map (λ r. r.now) rest) ≡ left → MatchBool none (left ≡ []) ((word : List ℕ) × (more : List (List ℕ)) × (left ≡ word ∷ more))
are_left None true left e f = sym f
are_left None false left e f = absurd (cc)
are_left (Some r) true left e f = absurd (cc)
are_left (Some r) false left e f = rw (← f) (some_word r.now)

-- words that are left stand as they stood in the line
pub stood : (rest : Option (Bor (List ℕ))) (some : Bor (List ℕ)) (left : List (List ℕ)) → rest ≡ Some some → words_left (option_map (λ r. r.now) rest) ≡ left → some.now ≡ joined left
stood rest some left e f = sym (ap joined (sym f ∙ ap (λ r. words_left (option_map (λ b. b.now) r)) e) ∙ join_with_byte-slice_split 32 some.now)
