-- How many bytes more may come.
use Rattle.std.proofs.Common.{◌≡◌, ◌⊎◌, ℕ, zero, suc, ◌+◌, ◌*◌, ◌<◌, ◌≤◌, arith, inl, inr, refl, subst}
use Rattle.std.proofs.lemmas.Nat.{mul-le}
use Rattle.disco_http.specs.declared.body.Left.{Left}
use Rattle.disco_http.specs.declared.body.Left.TheVariants.{Line, Chunk, Trailer}
use Rattle.disco_http.specs.Coming.{fuel}

-- a chunk of some bytes costs no more than its line and its line end beside it
part_of : (size less head : ℕ) → 0 < size → ((size + 2) + head) + less * (head + 3) ≤ (size + less) * (head + 3)
part_of size less head some = omega (arith, mul-le 1 head size head some (omega arith), some)

-- behind the line of a chunk
pub chunk_fuel : (head size less room u v : ℕ) (old new : Left) → old ≡ Line → new ≡ Chunk (size + 2) → 0 < size → size + less ≡ room → v ≤ u → u ≤ head → fuel head new less v ≤ fuel head old room u
chunk_fuel head size less room u v old new is now some fits few small =
    rw (is, now) (omega (arith, part_of size less head some, subst (λ (n : ℕ). ((size + 2) + head) + less * (head + 3) ≤ n * (head + 3)) fits (part_of size less head some), few, small))

-- behind the line of size 0
pub last_fuel : (head room u v : ℕ) (old new : Left) → old ≡ Line → new ≡ Trailer → v ≤ u → u ≤ head → fuel head new room v ≤ fuel head old room u
last_fuel head room u v old new is now few small = rw (is, now) (omega (arith, few, small))

pub none_or_some : (n : ℕ) → (n ≡ 0) ⊎ (0 < n)
none_or_some zero = inl refl
none_or_some (suc n) = inr (omega arith)
