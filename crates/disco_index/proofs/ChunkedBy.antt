-- A list in the order of a key that is kept in chunks: a place in a chunk is one of the whole list.
use Rattle.std.proofs.Common.{◌≡◌, ℕ, zero, suc, ◌<◌, ◌≤◌, Bool, true, false, T, List, [], ◌∷◌, ◌++◌, length, get_or, set, take, drop, refl, sym, ap, ◌∙◌, arith, append_assoc}
use Rattle.std.specs.declared.cmp.Ordering.{Ordering}
use Rattle.std.specs.declared.cmp.Ordering.TheVariants.{Less, Equal, Greater}
use Rattle.std.specs.Cmp.{IsTotalOrder}
use Rattle.std.specs.List.{insert, remove}
use Rattle.std.specs.List.Sorted.{IsPartitionedBy}
use Rattle.std.specs.Ordering.{is_lt, ordering_reverse}
use Rattle.std.specs.FinMap.Entries.{below_all}
use Rattle.disco_index.specs.ChunkedBy.{ComesAfterAll, ComesBeforeAll, HasNoEmpty, ends_before, flat}
use Rattle.disco_history.specs.SortedBy.{AreSortedBy, IsAtBy, IsGapBy, keyed}
use Rattle.disco_history.proofs.Sorted.{both, both_first, both_second, is_less}

-- the place i behind all of them
abbrev pub past : {E : Type 0} → List E → ℕ → ℕ
past [] i = i
past (x ∷ a) i = suc (past a i)

module _ {E K X : Type 0} {cmp : K → K → Ordering} (total : IsTotalOrder cmp) (key : E → K) (shown : E → X) where
  abbrev IsAt : List E → K → ℕ → Type 0
  IsAt es k i = IsAtBy cmp key es k i

  abbrev IsGap : List E → K → ℕ → Type 0
  IsGap es k i = IsGapBy cmp key es k i

  abbrev AreSorted : List E → Type 0
  AreSorted es = AreSortedBy cmp key shown es

  abbrev After : K → List E → Type 0
  After k es = ComesAfterAll cmp key k es

  abbrev Before : K → List E → Type 0
  Before k es = ComesBeforeAll cmp key k es

  -- ---- one more in front

  at_front : (x : E) (xs : List E) (k : K) (i : ℕ) → cmp k (key x) ≡ Greater → IsAt xs k i → IsAt (x ∷ xs) k (suc i)
  at_front x xs k i after at = record {
    in_range = let lt = at.in_range in omega (arith, lt);
    before = before;
    here = λ d. at.here d;
  }
    where
      before : (j : ℕ) (d : E) → j < suc i → cmp k (key (get_or (x ∷ xs) j d)) ≡ Greater
      before zero d lt = after
      before (suc j) d lt = at.before j d (omega (arith, lt))

  gap_front : (x : E) (xs : List E) (k : K) (i : ℕ) → cmp k (key x) ≡ Greater → IsGap xs k i → IsGap (x ∷ xs) k (suc i)
  gap_front x xs k i after gap = record {
    in_range = let le = gap.in_range in omega (arith, le);
    before = before;
    here = λ d lt. gap.here d (omega (arith, lt));
  }
    where
      before : (j : ℕ) (d : E) → j < suc i → cmp k (key (get_or (x ∷ xs) j d)) ≡ Greater
      before zero d lt = after
      before (suc j) d lt = gap.before j d (omega (arith, lt))

  at_tail : (x : E) (xs : List E) (k : K) (i : ℕ) → IsAt (x ∷ xs) k (suc i) → IsAt xs k i
  at_tail x xs k i at = record {
    in_range = let lt = at.in_range in omega (arith, lt);
    before = λ j d lt. at.before (suc j) d (omega (arith, lt));
    here = λ d. at.here d;
  }

  gap_tail : (x : E) (xs : List E) (k : K) (i : ℕ) → IsGap (x ∷ xs) k (suc i) → IsGap xs k i
  gap_tail x xs k i gap = record {
    in_range = let le = gap.in_range in omega (arith, le);
    before = λ j d lt. gap.before (suc j) d (omega (arith, lt));
    here = λ d lt. gap.here d (omega (arith, lt));
  }

  -- ---- more in front, and more behind

  at_behind : (a c : List E) (k : K) (i : ℕ) → After k a → IsAt c k i → IsAt (a ++ c) k (past a i)
  at_behind [] c k i after at = at
  at_behind (x ∷ a) c k i after at = at_front x (a ++ c) k (past a i) after.0 (at_behind a c k i after.1 at)

  gap_behind : (a c : List E) (k : K) (i : ℕ) → After k a → IsGap c k i → IsGap (a ++ c) k (past a i)
  gap_behind [] c k i after gap = gap
  gap_behind (x ∷ a) c k i after gap = gap_front x (a ++ c) k (past a i) after.0 (gap_behind a c k i after.1 gap)

  at_before : (c b : List E) (k : K) (i : ℕ) → IsAt c k i → IsAt (c ++ b) k i
  at_before [] b k i at = absurd (let lt = at.in_range in omega (arith, lt))
  at_before (x ∷ c) b k zero at = record {
    in_range = omega arith;
    before = λ j d lt. absurd (omega (arith, lt));
    here = λ d. at.here d;
  }
  at_before (x ∷ c) b k (suc i) at = at_front x (c ++ b) k i (at.before 0 x (omega arith)) (at_before c b k i (at_tail x c k i at))

  gap_first : (b : List E) (k : K) → Before k b → IsGap b k 0
  gap_first [] k before = record { in_range = omega arith; before = λ j d lt. absurd (omega (arith, lt)); here = λ d lt. absurd (omega (arith, lt)) }
  gap_first (x ∷ b) k before = record { in_range = omega arith; before = λ j d lt. absurd (omega (arith, lt)); here = λ d lt. before.0 }

  gap_before : (c b : List E) (k : K) (i : ℕ) → Before k b → IsGap c k i → IsGap (c ++ b) k i
  gap_before [] b k zero below gap = gap_first b k below
  gap_before [] b k (suc i) below gap = absurd (let le = gap.in_range in omega (arith, le))
  gap_before (x ∷ c) b k zero below gap = record {
    in_range = omega arith;
    before = λ j d lt. absurd (omega (arith, lt));
    here = λ d lt. gap.here d (omega arith);
  }
  gap_before (x ∷ c) b k (suc i) below gap = gap_front x (c ++ b) k i (gap.before 0 x (omega arith)) (gap_before c b k i below (gap_tail x c k i gap))

  -- a place in the middle is one of the whole
  pub at_within : (a c b : List E) (k : K) (i : ℕ) → After k a → IsAt c k i → IsAt (a ++ (c ++ b)) k (past a i)
  at_within a c b k i after at = at_behind a (c ++ b) k i after (at_before c b k i at)

  pub gap_within : (a c b : List E) (k : K) (i : ℕ) → After k a → Before k b → IsGap c k i → IsGap (a ++ (c ++ b)) k (past a i)
  gap_within a c b k i after below gap = gap_behind a (c ++ b) k i after (gap_before c b k i below gap)

  -- ---- an edit in the middle is one of the whole

  insert_front : (c b : List E) (i : ℕ) (e : E) → i ≤ length c → insert (c ++ b) i e ≡ insert c i e ++ b
  insert_front [] b zero e le = refl
  insert_front [] b (suc i) e le = absurd (omega (arith, le))
  insert_front (x ∷ c) b zero e le = refl
  insert_front (x ∷ c) b (suc i) e le = ap (λ l. x ∷ l) (insert_front c b i e (omega (arith, le)))

  pub insert_within : (a c b : List E) (i : ℕ) (e : E) → i ≤ length c → insert (a ++ (c ++ b)) (past a i) e ≡ a ++ (insert c i e ++ b)
  insert_within [] c b i e le = insert_front c b i e le
  insert_within (x ∷ a) c b i e le = ap (λ l. x ∷ l) (insert_within a c b i e le)

  remove_front : (c b : List E) (i : ℕ) → i < length c → remove (c ++ b) i ≡ remove c i ++ b
  remove_front [] b i lt = absurd (omega (arith, lt))
  remove_front (x ∷ c) b zero lt = refl
  remove_front (x ∷ c) b (suc i) lt = ap (λ l. x ∷ l) (remove_front c b i (omega (arith, lt)))

  pub remove_within : (a c b : List E) (i : ℕ) → i < length c → remove (a ++ (c ++ b)) (past a i) ≡ a ++ (remove c i ++ b)
  remove_within [] c b i lt = remove_front c b i lt
  remove_within (x ∷ a) c b i lt = ap (λ l. x ∷ l) (remove_within a c b i lt)

  set_front : (c b : List E) (i : ℕ) (e : E) → i < length c → set (c ++ b) i e ≡ set c i e ++ b
  set_front [] b i e lt = absurd (omega (arith, lt))
  set_front (x ∷ c) b zero e lt = refl
  set_front (x ∷ c) b (suc i) e lt = ap (λ l. x ∷ l) (set_front c b i e (omega (arith, lt)))

  pub set_within : (a c b : List E) (i : ℕ) (e : E) → i < length c → set (a ++ (c ++ b)) (past a i) e ≡ a ++ (set c i e ++ b)
  set_within [] c b i e lt = set_front c b i e lt
  set_within (x ∷ a) c b i e lt = ap (λ l. x ∷ l) (set_within a c b i e lt)

  get_front : (c b : List E) (i : ℕ) (d : E) → i < length c → get_or (c ++ b) i d ≡ get_or c i d
  get_front [] b i d lt = absurd (omega (arith, lt))
  get_front (x ∷ c) b zero d lt = refl
  get_front (x ∷ c) b (suc i) d lt = get_front c b i d (omega (arith, lt))

  pub get_within : (a c b : List E) (i : ℕ) (d : E) → i < length c → get_or (a ++ (c ++ b)) (past a i) d ≡ get_or c i d
  get_within [] c b i d lt = get_front c b i d lt
  get_within (x ∷ a) c b i d lt = get_within a c b i d lt

  -- ---- parts of a list in order

  below_front : (k : K) (a b : List E) → T (below_all cmp k (keyed key shown (a ++ b))) → T (below_all cmp k (keyed key shown a))
  below_front k [] b h = tt
  below_front k (x ∷ a) b h = both _ _ (both_first _ _ h) (below_front k a b (both_second _ _ h))

  below_back : (k : K) (a b : List E) → T (below_all cmp k (keyed key shown (a ++ b))) → T (below_all cmp k (keyed key shown b))
  below_back k [] b h = h
  below_back k (x ∷ a) b h = below_back k a b (both_second _ _ h)

  pub sorted_front : (a b : List E) → AreSorted (a ++ b) → AreSorted a
  sorted_front [] b h = tt
  sorted_front (x ∷ a) b h = both _ _ (below_front (key x) a b (both_first _ _ h)) (sorted_front a b (both_second _ _ h))

  pub sorted_back : (a b : List E) → AreSorted (a ++ b) → AreSorted b
  sorted_back [] b h = h
  sorted_back (x ∷ a) b h = sorted_back a b (both_second _ _ h)

  -- ---- what one place says of those before and behind it

  all_above : (k : K) (es : List E) → T (below_all cmp k (keyed key shown es)) → Before k es
  all_above k [] h = tt
  all_above k (x ∷ es) h = (is_less _ (both_first _ _ h), all_above k es (both_second _ _ h))

  still_before : (k l : K) (es : List E) → cmp k l ≡ Less → Before l es → Before k es
  still_before k l [] lt all = tt
  still_before k l (x ∷ es) lt all = (total.trans k l (key x) lt all.0, still_before k l es lt all.1)

  alike_before : (k l : K) (es : List E) → cmp k l ≡ Equal → Before l es → Before k es
  alike_before k l [] eq all = tt
  alike_before k l (x ∷ es) eq all = (total.congr k l (key x) eq ∙ all.0, alike_before k l es eq all.1)

  -- where the key is not behind an element, it is before those behind that
  before_rest : (k : K) (x : E) (es : List E) → (cmp (key x) k ≡ Less → ⊥) → AreSorted (x ∷ es) → Before k es
  before_rest k x es not sorted = by (cmp (key x) k) refl
    where
      above : Before (key x) es
      above = all_above (key x) es (both_first _ _ sorted)

      by : (o : Ordering) → cmp (key x) k ≡ o → Before k es
      by Less is = absurd (not is)
      by Equal is = alike_before k (key x) es (total.antisymm k (key x) ∙ ap ordering_reverse is) above
      by Greater is = still_before k (key x) es (total.antisymm k (key x) ∙ ap ordering_reverse is) above

  -- ---- chunks, none of them empty

  module _ {C : Type 0} (items : C → List E) where
    abbrev whole : List C → List E
    whole cs = flat items cs

    abbrev HaveSome : List C → Type 0
    HaveSome cs = HasNoEmpty items cs

    abbrev ends : K → List E → Bool
    ends k es = ends_before cmp key k es

    -- a list of chunks around one of them
    pub flat_at : (cs : List C) (i : ℕ) (d : C) → i < length cs → whole cs ≡ whole (take i cs) ++ (items (get_or cs i d) ++ whole (drop (suc i) cs))
    flat_at [] i d lt = absurd (omega (arith, lt))
    flat_at (c ∷ cs) zero d lt = refl
    flat_at (c ∷ cs) (suc i) d lt = ap (λ l. items c ++ l) (flat_at cs i d (omega (arith, lt))) ∙ sym (append_assoc (items c) (whole (take i cs)) (items (get_or cs i d) ++ whole (drop (suc i) cs)))

    pub flat_set : (cs : List C) (i : ℕ) (c : C) → i < length cs → whole (set cs i c) ≡ whole (take i cs) ++ (items c ++ whole (drop (suc i) cs))
    flat_set [] i c lt = absurd (omega (arith, lt))
    flat_set (b ∷ cs) zero c lt = refl
    flat_set (b ∷ cs) (suc i) c lt = ap (λ l. items b ++ l) (flat_set cs i c (omega (arith, lt))) ∙ sym (append_assoc (items b) (whole (take i cs)) (items c ++ whole (drop (suc i) cs)))

    pub flat_remove : (cs : List C) (i : ℕ) → i < length cs → whole (remove cs i) ≡ whole (take i cs) ++ whole (drop (suc i) cs)
    flat_remove [] i lt = absurd (omega (arith, lt))
    flat_remove (b ∷ cs) zero lt = refl
    flat_remove (b ∷ cs) (suc i) lt = ap (λ l. items b ++ l) (flat_remove cs i (omega (arith, lt))) ∙ sym (append_assoc (items b) (whole (take i cs)) (whole (drop (suc i) cs)))

    -- ---- where a key goes

    turned : (k l : K) (o : Ordering) → cmp l k ≡ o → cmp k l ≡ ordering_reverse o
    turned k l o is = total.antisymm k l ∙ ap ordering_reverse is

    less : (o : Ordering) → is_lt o ≡ true → o ≡ Less
    less Less e = refl
    less Equal e = absurd (cc)
    less Greater e = absurd (cc)

    not_less : (o : Ordering) → is_lt o ≡ false → o ≡ Less → ⊥
    not_less o e is = let bad : true ≡ false = ap is_lt (sym is) ∙ e in absurd (cc)

    -- what comes before the last of some comes before the key
    after_these : (k : K) (es : List E) → AreSorted es → ends k es ≡ true → After k es
    after_these k [] sorted end = tt
    after_these k (x ∷ []) sorted end = (turned k (key x) Less (less _ end), tt)
    after_these k (x ∷ (y ∷ es)) sorted end =
        let rest = after_these k (y ∷ es) (both_second _ _ sorted) end in
        let below : cmp (key x) (key y) ≡ Less = is_less _ (both_first _ _ (both_first _ _ sorted)) in
        (turned k (key x) Less (total.trans (key x) (key y) k below (turned (key y) k Greater rest.0)), rest)

    joined_after : (k : K) (a b : List E) → After k a → After k b → After k (a ++ b)
    joined_after k [] b p q = q
    joined_after k (x ∷ a) b p q = (p.0, joined_after k a b p.1 q)

    pub after_front : (k : K) (cs : List C) (i : ℕ) → AreSorted (whole cs) → i ≤ length cs → ((j : ℕ) (d : C) → j < i → ends k (items (get_or cs j d)) ≡ true) → After k (whole (take i cs))
    after_front k cs zero sorted le end = tt
    after_front k [] (suc i) sorted le end = absurd (omega (arith, le))
    after_front k (c ∷ cs) (suc i) sorted le end =
        joined_after k (items c) (whole (take i cs)) (after_these k (items c) (sorted_front (items c) (whole cs) sorted) (end 0 c (omega arith)))
        (after_front k cs i (sorted_back (items c) (whole cs) sorted) (omega (arith, le)) (λ j d lt. end (suc j) d (omega (arith, lt))))

    before_behind : (k : K) (es rest : List E) → 0 < length es → AreSorted (es ++ rest) → ends k es ≡ false → Before k rest
    before_behind k [] rest some sorted end = absurd (omega (arith, some))
    before_behind k (x ∷ []) rest some sorted end = before_rest k x rest (not_less _ end) sorted
    before_behind k (x ∷ (y ∷ es)) rest some sorted end = before_behind k (y ∷ es) rest (omega arith) (both_second _ _ sorted) end

    pub before_back : (k : K) (cs : List C) (i : ℕ) (d : C) → HaveSome cs → AreSorted (whole cs) → i < length cs → ends k (items (get_or cs i d)) ≡ false → Before k (whole (drop (suc i) cs))
    before_back k [] i d some sorted lt end = absurd (omega (arith, lt))
    before_back k (c ∷ cs) zero d some sorted lt end = before_behind k (items c) (whole cs) some.0 sorted end
    before_back k (c ∷ cs) (suc i) d some sorted lt end = before_back k cs i d some.1 (sorted_back (items c) (whole cs) sorted) (omega (arith, lt)) end

    -- ---- once a chunk doesn't end before the key, none does

    no_end : (k : K) (es rest : List E) → 0 < length es → Before k (es ++ rest) → ends k es ≡ false
    no_end k [] rest some all = absurd (omega (arith, some))
    no_end k (x ∷ []) rest some all = ap is_lt (turned (key x) k Less all.0)
    no_end k (x ∷ (y ∷ es)) rest some all = no_end k (y ∷ es) rest (omega arith) all.1

    behind : (k : K) (es rest : List E) → Before k (es ++ rest) → Before k rest
    behind k [] rest all = all
    behind k (x ∷ es) rest all = behind k es rest all.1

    none_ends : (k : K) (cs : List C) (j : ℕ) (d : C) → HaveSome cs → Before k (whole cs) → j < length cs → ends k (items (get_or cs j d)) ≡ false
    none_ends k [] j d some all lt = absurd (omega (arith, lt))
    none_ends k (c ∷ cs) zero d some all lt = no_end k (items c) (whole cs) some.0 all
    none_ends k (c ∷ cs) (suc j) d some all lt = none_ends k cs j d some.1 (behind k (items c) (whole cs) all) (omega (arith, lt))

    parted_from : (k : K) (cs : List C) (i j : ℕ) (d : C) (b : Bool) → HaveSome cs → AreSorted (whole cs) → i ≤ j → j < length cs → ends k (items (get_or cs i d)) ≡ b → ends k (items (get_or cs j d)) ≡ true → b ≡ true
    parted_from k cs i j d true some sorted le lt here there = refl
    parted_from k [] i j d false some sorted le lt here there = absurd (omega (arith, lt))
    parted_from k (c ∷ cs) zero zero d false some sorted le lt here there = sym here ∙ there
    parted_from k (c ∷ cs) zero (suc j) d false some sorted le lt here there =
        sym (none_ends k cs j d some.1 (before_behind k (items c) (whole cs) some.0 sorted here) (omega (arith, lt))) ∙ there
    parted_from k (c ∷ cs) (suc i) zero d false some sorted le lt here there = absurd (omega (arith, le))
    parted_from k (c ∷ cs) (suc i) (suc j) d false some sorted le lt here there = parted_from k cs i j d false some.1 (sorted_back (items c) (whole cs) sorted) (omega (arith, le)) (omega (arith, lt)) here there

    -- as `partition_point` asks
    pub are_parted : (k : K) (cs : List C) → HaveSome cs → AreSorted (whole cs) → IsPartitionedBy (λ c. ends k (items c)) cs
    are_parted k cs some sorted i j d le lt there = parted_from k cs i j d _ some sorted le lt refl there
