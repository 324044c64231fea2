-- What is at the end of a chunk, and in which chunk a name goes.
use Rattle.std.proofs.Common.{◌≡◌, ℕ, zero, suc, ◌-◌, ◌<◌, Bool, true, false, List, [], ◌∷◌, length, get_or, drop, refl, sym, ap, subst, ◌∙◌, arith}
use Rattle.std.specs.List.Sorted.{IsPartitionPoint, IsPartitionedBy}
use Rattle.std.specs.declared.cmp.Ordering.{Ordering}
use Rattle.std.specs.Ordering.{is_lt}
use Rattle.disco_index.specs.ChunkedBy.{ComesBeforeAll, ends_before}
use Rattle.disco_index.specs.Chunks.{AreChunks, Chunks, IsChunkOf, Placed, all_in, is_there, name_in}
use Rattle.disco_index.specs.Names.{Name, name_cmp}
use Rattle.disco_index.proofs.ChunkedBy.{after_front, are_parted, before_back}
use Rattle.disco_index.proofs.Nested.{names_total}

ends_at : {E K : Type 0} (cmp : K → K → Ordering) (key : E → K) (k : K) (es : List E) (i : ℕ) (d : E) → suc i ≡ length es → ends_before cmp key k es ≡ is_lt (cmp (key (get_or es i d)) k)
ends_at cmp key k [] i d h = absurd (omega (arith, h))
ends_at cmp key k (x ∷ []) zero d h = refl
ends_at cmp key k (x ∷ []) (suc i) d h = absurd (omega (arith, h))
ends_at cmp key k (x ∷ (y ∷ es)) zero d h = absurd (omega (arith, h))
ends_at cmp key k (x ∷ (y ∷ es)) (suc i) d h = ends_at cmp key k (y ∷ es) i d (omega (arith, h))

pub ends_found : {E K : Type 0} (cmp : K → K → Ordering) (key : E → K) (k : K) (es : List E) (x : E) (o : Ordering) → 0 < length es → x ≡ get_or es (length es - 1) x → o ≡ cmp (key x) k → is_lt o ≡ ends_before cmp key k es
ends_found cmp key k es x o some found is =
    ap is_lt (is ∙ ap (λ y. cmp (key y) k) found) ∙ sym (ends_at cmp key k es (length es - 1) x (omega (arith, some)))

drop_all : (cs : Chunks) (k : ℕ) → k ≡ length cs → drop k cs ≡ []
drop_all [] zero e = refl
drop_all [] (suc k) e = refl
drop_all (c ∷ cs) zero e = absurd (omega (arith, e))
drop_all (c ∷ cs) (suc k) e = drop_all cs k (omega (arith, e))

module _ (cs : Chunks) (n : Name) (h : AreChunks cs) where
  abbrev pub ended : List Placed → Bool
  ended c = ends_before name_cmp name_in n c

  -- as `partition_point` asks
  pub parted : IsPartitionedBy ended cs
  parted = are_parted names_total name_in is_there (λ c. c) n cs h.none_empty h.in_order

  -- the first chunk that doesn't end before the name
  pub first_unended : (i : ℕ) → i < length cs → IsPartitionPoint (λ c. ended c ≡ true) (λ c. ended c ≡ false) cs i → IsChunkOf cs n i
  first_unended i lt point = record {
    after = after_front names_total name_in is_there (λ c. c) n cs i h.in_order (omega (arith, lt)) (λ j d before. point.0 j d (omega arith) before);
    before = before_back names_total name_in is_there (λ c. c) n cs i [] h.none_empty h.in_order lt (point.1 i [] (omega arith) lt);
  }

  -- the last one, where each ends before it
  pub last_ended : (i k : ℕ) → suc k ≡ i → i ≡ length cs → IsPartitionPoint (λ c. ended c ≡ true) (λ c. ended c ≡ false) cs i → IsChunkOf cs n k
  last_ended i k next all point = record {
    after = after_front names_total name_in is_there (λ c. c) n cs k h.in_order (omega (arith, next, all)) (λ j d before. point.0 j d (omega arith) (omega (arith, next, before)));
    before = subst (λ (ds : Chunks). ComesBeforeAll name_cmp name_in n (all_in ds)) (sym (drop_all cs (suc k) (next ∙ all))) tt;
  }
