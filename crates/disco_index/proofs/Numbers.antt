-- Numbers of statuses, one by one.
use Rattle.std.proofs.Common.{◌≡◌, ℕ, ◌+◌, ◌-◌, Bool, true, false, cond, Option, Some, None, refl, ◌∙◌, arith}
use Rattle.disco_values.specs.Status.{is_same}
use Rattle.disco_values.specs.declared.status.Status.{Status}
use Rattle.disco_values.specs.declared.status.Status.TheVariants.{Up, Down, Starting, OutOfService, Unknown}
use Rattle.disco_history.specs.Change.{Entry}
use Rattle.disco_index.specs.Tally.{Tally, count_in, fewer, more, with_count, without}

-- tallies with the same numbers are one
pub same_tally : (t u : Tally) → ((status : Status) → count_in t status ≡ count_in u status) → t ≡ u
same_tally t u h = λ i. record { down = h Down i; out_of_service = h OutOfService i; starting = h Starting i; unknown = h Unknown i; up = h Up i }

-- 1 where the statuses are one
abbrev pub one_if : Status → Status → ℕ
one_if a b = cond (is_same a b) 1 0

-- where the number of a status is set by a function of itself, the others stay
set : (f : ℕ → ℕ) (t : Tally) (a b : Status) → count_in (with_count t a (f (count_in t a))) b ≡ cond (is_same a b) (f (count_in t b)) (count_in t b)
set f t Down Down = refl
set f t Down OutOfService = refl
set f t Down Starting = refl
set f t Down Unknown = refl
set f t Down Up = refl
set f t OutOfService Down = refl
set f t OutOfService OutOfService = refl
set f t OutOfService Starting = refl
set f t OutOfService Unknown = refl
set f t OutOfService Up = refl
set f t Starting Down = refl
set f t Starting OutOfService = refl
set f t Starting Starting = refl
set f t Starting Unknown = refl
set f t Starting Up = refl
set f t Unknown Down = refl
set f t Unknown OutOfService = refl
set f t Unknown Starting = refl
set f t Unknown Unknown = refl
set f t Unknown Up = refl
set f t Up Down = refl
set f t Up OutOfService = refl
set f t Up Starting = refl
set f t Up Unknown = refl
set f t Up Up = refl

pub count_in-more : (t : Tally) (a b : Status) → count_in (more t a) b ≡ count_in t b + one_if a b
count_in-more t a b = set (λ n. n + 1) t a b ∙ by (is_same a b)
  where
    by : (c : Bool) → cond c (count_in t b + 1) (count_in t b) ≡ count_in t b + cond c 1 0
    by true = refl
    by false = omega arith

one_fewer : (t : Tally) (a b : Status) → count_in (fewer t a) b ≡ count_in t b - one_if a b
one_fewer t a b = set (λ n. n - 1) t a b ∙ by (is_same a b)
  where
    by : (c : Bool) → cond c (count_in t b - 1) (count_in t b) ≡ count_in t b - cond c 1 0
    by true = refl
    by false = omega arith

-- what an entry, where there is one, adds to the number of a status
abbrev pub part : Option Entry → Status → ℕ
part None b = 0
part (Some e) b = one_if e.0.status b

pub count_in-without : (t : Tally) (o : Option Entry) (b : Status) → count_in (without t o) b ≡ count_in t b - part o b
count_in-without t None b = omega arith
count_in-without t (Some e) b = one_fewer t e.0.status b

pub one_if-same : (a : Status) → one_if a a ≡ 1
one_if-same Down = refl
one_if-same OutOfService = refl
one_if-same Starting = refl
one_if-same Unknown = refl
one_if-same Up = refl
