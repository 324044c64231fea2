-- What a change of a place in its chunk does to the places of all chunks, by vip.
use Rattle.std.proofs.Common.{◌≡◌, ℕ, zero, suc, ◌+◌, ◌<◌, Bool, true, false, ◌&&◌, ◌||◌, cond, List, [], ◌∷◌, ◌++◌, length, get_or, set, take, drop, Option, Some, None, refl, sym, ap, subst, ◌∙◌, append_assoc, take-append-drop, arith}
use Rattle.std.specs.declared.cmp.Ordering.{Ordering}
use Rattle.std.specs.declared.cmp.Ordering.TheVariants.{Less, Equal, Greater}
use Rattle.std.specs.FinMap.{FinMap, get, get-from_sorted, get-insert, get-remove}
use Rattle.std.specs.FinMap.Entries.{find}
use Rattle.std.specs.List.{insert, remove}
use Rattle.std.proofs.lemmas.List.{get_or_read, set-get_or}
use Rattle.std.proofs.Math.Numerals.{add-one}
use Rattle.std.specs.Ordering.{is_eq}
use Rattle.disco_values.specs.Key.{same_key}
use Rattle.std.specs.Str.{bytes_eq}
use Rattle.disco_history.specs.Slots.{written}
use Rattle.disco_history.specs.SortedBy.{keyed, map_by}
use Rattle.disco_history.proofs.SortedBy.{get_at, get_gap, inserted_at, inserted_gap, removed_at}
use Rattle.disco_index.specs.Chunks.{AreChunks, AreInOrder, Chunks, HasNoEmptyChunk, IsChunkOf, IsPlaceAt, IsPlaceGap, Placed, all_in, by_vip, is_there, name_in}
use Rattle.disco_index.specs.Names.{Name, name, name_cmp, nested}
use Rattle.disco_index.specs.Places.{Alters, opened_vip, swept}
use Rattle.disco_index.proofs.ChunkedBy.{at_within, flat_at, flat_remove, flat_set, gap_within, get_within, insert_within, past, remove_within, set_within, sorted_back, sorted_front}
use Rattle.disco_index.proofs.Nested.{exact_names, names_total, place_found, same_name}

abbrev Step : Type 0
Step = Option Bool → Option Bool

pub keyed_same : (ps : List Placed) → keyed name_in is_there ps ≡ ps
keyed_same [] = refl
keyed_same (p ∷ ps) = ap (λ l. p ∷ l) (keyed_same ps)

-- the places by name
abbrev by_name : List Placed → FinMap name_cmp Bool
by_name ps = map_by name_cmp name_in is_there ps

found_in : (ps : List Placed) (q : Name) → AreInOrder ps → find name_cmp q ps ≡ get (by_name ps) q
found_in ps q sorted = ap (find name_cmp q) (sym (keyed_same ps)) ∙ sym (get-from_sorted name_cmp (keyed name_in is_there ps) q sorted)

one_altered : (f : Step) (a b : Bool) (w o here : Option Bool) → w ≡ f here → ((a && b) ≡ true → o ≡ here) → cond (a && b) w o ≡ cond ((a || false) && b) (f o) o
one_altered f true true w o here is same = is ∙ ap f (sym (same refl))
one_altered f true false w o here is same = refl
one_altered f false b w o here is same = refl

is_equal : (o : Ordering) → is_eq o ≡ true → o ≡ Equal
is_equal Less e = absurd (cc)
is_equal Equal e = refl
is_equal Greater e = absurd (cc)

the_name : (q n : Name) → is_eq (name_cmp q n) ≡ true → q ≡ n
the_name q n h = exact_names q n (is_equal (name_cmp q n) h)

module _ (f : Step) (n : Name) (es : List Placed) (sorted : AreInOrder es) where
  altered : (fs : List Placed) (w : Option Bool) → AreInOrder fs → ((q : Name) → get (by_name fs) q ≡ cond (is_eq (name_cmp q n)) w (get (by_name es) q)) → w ≡ f (get (by_name es) n)
      → Alters f (n.vip ∷ []) n.key (nested es) (nested fs)
  altered fs w after update is q p =
      place_found fs q p ∙ found_in fs (name q p) after ∙ update (name q p)
      ∙ ap (λ b. cond b w (get (by_name es) (name q p))) (same_name q p n)
      ∙ one_altered f (bytes_eq q n.vip) (same_key p n.key) w (get (by_name es) (name q p)) (get (by_name es) n) is (λ t. ap (get (by_name es)) (the_name (name q p) n (same_name q p n ∙ t)))
      ∙ ap (λ o. cond ((bytes_eq q n.vip || false) && same_key p n.key) (f o) o) (sym (place_found es q p ∙ found_in es (name q p) sorted))

  still : (q : Name) (b : Bool) → is_eq (name_cmp q n) ≡ b → get (by_name es) q ≡ cond b (get (by_name es) n) (get (by_name es) q)
  still q true same = ap (get (by_name es)) (the_name q n same)
  still q false same = refl

  unaltered : f (get (by_name es) n) ≡ get (by_name es) n → Alters f (n.vip ∷ []) n.key (nested es) (nested es)
  unaltered is = altered es (get (by_name es) n) sorted (λ q. still q (is_eq (name_cmp q n)) refl) (sym is)

-- ---- chunks that aren't empty

set_full : (c : List Placed) (i : ℕ) (x : Placed) → i < length c → 0 < length (set c i x)
set_full [] i x lt = absurd (omega (arith, lt))
set_full (y ∷ c) zero x lt = omega arith
set_full (y ∷ c) (suc i) x lt = omega arith

none_empty_set : (cs : Chunks) (m : ℕ) (c : List Placed) → HasNoEmptyChunk cs → 0 < length c → HasNoEmptyChunk (set cs m c)
none_empty_set [] m c none some = tt
none_empty_set (b ∷ cs) zero c none some = (some, none.1)
none_empty_set (b ∷ cs) (suc m) c none some = (none.0, none_empty_set cs m c none.1 some)

-- ---- a place is taken out

none_left : (c : List Placed) (i : ℕ) → length c ≡ 1 → i < length c → remove c i ≡ []
none_left [] i one lt = absurd (omega (arith, lt))
none_left (x ∷ []) zero one lt = refl
none_left (x ∷ []) (suc i) one lt = absurd (omega (arith, lt))
none_left (x ∷ (y ∷ c)) i one lt = absurd (omega (arith, one))

pub last_out : (cs : Chunks) (m i : ℕ) → m < length cs → length (get_or cs m []) ≡ 1 → i < length (get_or cs m []) → all_in (remove cs m) ≡ all_in (set cs m (remove (get_or cs m []) i))
last_out cs m i lt one inside =
    flat_remove names_total name_in is_there (λ c. c) cs m lt
    ∙ ap (λ (c : List Placed). all_in (take m cs) ++ (c ++ all_in (drop (suc m) cs))) (sym (none_left (get_or cs m []) i one inside))
    ∙ sym (flat_set names_total name_in is_there (λ c. c) cs m (remove (get_or cs m []) i) lt)

-- ---- a chunk is split

split_all : (cs : Chunks) (m k : ℕ) → m < length cs → all_in (insert (set cs m (take k (get_or cs m []))) (suc m) (drop k (get_or cs m []))) ≡ all_in cs
split_all [] m k lt = absurd (omega (arith, lt))
split_all (c ∷ cs) zero k lt = sym (append_assoc (take k c) (drop k c) (all_in cs)) ∙ ap (λ (ps : List Placed). ps ++ all_in cs) (take-append-drop k c)
split_all (c ∷ cs) (suc m) k lt = ap (λ (ps : List Placed). c ++ ps) (split_all cs m k (omega (arith, lt)))

pub split_done : (cs rs fs : Chunks) (m k : ℕ) (c front behind : List Placed) → rs ≡ cs → m < length cs → c ≡ get_or rs m c → front ≡ take k c → behind ≡ drop k c → fs ≡ insert (set rs m front) (m + 1) behind → all_in fs ≡ all_in cs
split_done cs rs fs m k c front behind same lt read f b is =
    let inside : m < length rs = subst (λ (ds : Chunks). m < length ds) (sym same) lt in
    let at : c ≡ get_or rs m [] = get_or_read rs m c inside read [] in
    ap all_in (is ∙ (λ i. insert (set rs m ((f ∙ ap (take k) at) i)) (add-one m i) ((b ∙ ap (drop k) at) i)))
    ∙ split_all rs m k inside ∙ ap all_in same

module _ (cs : Chunks) (h : AreChunks cs) (n : Name) (m : ℕ) (lt : m < length cs) (chunk : IsChunkOf cs n m) where
  whole : (d : List Placed) → all_in cs ≡ all_in (take m cs) ++ (get_or cs m d ++ all_in (drop (suc m) cs))
  whole d = flat_at names_total name_in is_there (λ c. c) cs m d lt

  in_chunk : (d : List Placed) → AreInOrder (get_or cs m d)
  in_chunk d = sorted_front names_total name_in is_there (get_or cs m d) (all_in (drop (suc m) cs))
      (sorted_back names_total name_in is_there (all_in (take m cs)) (get_or cs m d ++ all_in (drop (suc m) cs)) (subst AreInOrder (whole d) h.in_order))

  at_whole : (d : List Placed) (i : ℕ) → IsPlaceAt (get_or cs m d) n i → IsPlaceAt (all_in cs) n (past (all_in (take m cs)) i)
  at_whole d i here = subst (λ (ps : List Placed). IsPlaceAt ps n (past (all_in (take m cs)) i)) (sym (whole d))
      (at_within names_total name_in is_there (all_in (take m cs)) (get_or cs m d) (all_in (drop (suc m) cs)) n i chunk.after here)

  gap_whole : (d : List Placed) (i : ℕ) → IsPlaceGap (get_or cs m d) n i → IsPlaceGap (all_in cs) n (past (all_in (take m cs)) i)
  gap_whole d i gap = subst (λ (ps : List Placed). IsPlaceGap ps n (past (all_in (take m cs)) i)) (sym (whole d))
      (gap_within names_total name_in is_there (all_in (take m cs)) (get_or cs m d) (all_in (drop (suc m) cs)) n i chunk.after chunk.before gap)

  value : (d : List Placed) (i : ℕ) (x : Placed) → IsPlaceAt (get_or cs m d) n i → get (by_name (all_in cs)) n ≡ Some (is_there (get_or (get_or cs m d) i x))
  value d i x here =
      get_at names_total exact_names name_in is_there (all_in cs) n (past (all_in (take m cs)) i) x h.in_order (at_whole d i here)
      ∙ ap (λ (ps : List Placed). Some (is_there (get_or ps (past (all_in (take m cs)) i) x))) (whole d)
      ∙ ap (λ (p : Placed). Some (is_there p)) (get_within names_total name_in is_there (all_in (take m cs)) (get_or cs m d) (all_in (drop (suc m) cs)) i x here.in_range)

  free : (d : List Placed) (i : ℕ) → IsPlaceGap (get_or cs m d) n i → get (by_name (all_in cs)) n ≡ None
  free d i gap = get_gap names_total exact_names name_in is_there (all_in cs) n (past (all_in (take m cs)) i) h.in_order (gap_whole d i gap)

  -- ---- a place is written

  written_at : (d : List Placed) (i : ℕ) (x : Placed) → IsPlaceAt (get_or cs m d) n i → n ≡ name_in x
      → AreChunks (set cs m (set (get_or cs m d) i x)) × Alters (written (is_there x)) (n.vip ∷ []) n.key (by_vip cs) (by_vip (set cs m (set (get_or cs m d) i x)))
  written_at d i x here same =
      let j = past (all_in (take m cs)) i in
      let fs = set cs m (set (get_or cs m d) i x) in
      let all : all_in fs ≡ set (all_in cs) j x =
      flat_set names_total name_in is_there (λ c. c) cs m (set (get_or cs m d) i x) lt
      ∙ sym (set_within names_total name_in is_there (all_in (take m cs)) (get_or cs m d) (all_in (drop (suc m) cs)) i x here.in_range)
      ∙ ap (λ (ps : List Placed). set ps j x) (sym (whole d)) in
      let put = inserted_at names_total exact_names name_in is_there (all_in cs) j x h.in_order (subst (λ (q : Name). IsPlaceAt (all_in cs) q j) same (at_whole d i here)) in
      let after : AreInOrder (all_in fs) = subst AreInOrder (sym all) put.0 in (
        record { in_order = after; none_empty = none_empty_set cs m (set (get_or cs m d) i x) h.none_empty (set_full (get_or cs m d) i x here.in_range) },
        altered (written (is_there x)) n (all_in cs) h.in_order (all_in fs) (Some (is_there x)) after
            (λ q. ap (λ (ps : List Placed). get (by_name ps) q) all ∙ ap (λ (k : FinMap name_cmp Bool). get k q) put.1 ∙ get-insert names_total (by_name (all_in cs)) (name_in x) (is_there x) q
            ∙ ap (λ (k : Name). cond (is_eq (name_cmp q k)) (Some (is_there x)) (get (by_name (all_in cs)) q)) (sym same))
            (sym (ap (written (is_there x)) (value d i x here))),
      )

  written_gap : (d : List Placed) (i : ℕ) (b : Bool) → IsPlaceGap (get_or cs m d) n i → Alters (written b) (n.vip ∷ []) n.key (by_vip cs) (by_vip cs)
  written_gap d i b gap = unaltered (written b) n (all_in cs) h.in_order (ap (written b) (free d i gap) ∙ sym (free d i gap))

  -- ---- a place is opened

  opened_at : (d : List Placed) (i : ℕ) (x : Placed) → IsPlaceAt (get_or cs m d) n i → Alters opened_vip (n.vip ∷ []) n.key (by_vip cs) (by_vip cs)
  opened_at d i x here = unaltered opened_vip n (all_in cs) h.in_order (ap opened_vip (value d i x here) ∙ sym (value d i x here))

  opened_gap : (d : List Placed) (i : ℕ) (fs : Chunks) (x : Placed) → x ≡ (n, false) → IsPlaceGap (get_or cs m d) n i → HasNoEmptyChunk fs → all_in fs ≡ all_in (set cs m (insert (get_or cs m d) i x))
      → AreChunks fs × Alters opened_vip (n.vip ∷ []) n.key (by_vip cs) (by_vip fs)
  opened_gap d i fs x is gap none_empty same =
      let j = past (all_in (take m cs)) i in
      let all : all_in fs ≡ insert (all_in cs) j (n, false) =
      same
      ∙ flat_set names_total name_in is_there (λ c. c) cs m (insert (get_or cs m d) i x) lt
      ∙ sym (insert_within names_total name_in is_there (all_in (take m cs)) (get_or cs m d) (all_in (drop (suc m) cs)) i x gap.in_range)
      ∙ ap (λ (ps : List Placed). insert ps j x) (sym (whole d)) ∙ ap (insert (all_in cs) j) is in
      let put = inserted_gap names_total exact_names name_in is_there (all_in cs) j (n, false) h.in_order (gap_whole d i gap) in
      let after : AreInOrder (all_in fs) = subst AreInOrder (sym all) put.0 in (
        record { in_order = after; none_empty = none_empty },
        altered opened_vip n (all_in cs) h.in_order (all_in fs) (Some false) after
            (λ q. ap (λ (ps : List Placed). get (by_name ps) q) all ∙ ap (λ (k : FinMap name_cmp Bool). get k q) put.1 ∙ get-insert names_total (by_name (all_in cs)) n false q)
            (sym (ap opened_vip (free d i gap))),
      )

  -- ---- a place that stands empty goes

  closed_at : (d : List Placed) (i : ℕ) (x : Placed) (fs : Chunks) → IsPlaceAt (get_or cs m d) n i → is_there (get_or (get_or cs m d) i x) ≡ false
      → HasNoEmptyChunk fs → all_in fs ≡ all_in (set cs m (remove (get_or cs m d) i))
      → AreChunks fs × Alters swept (n.vip ∷ []) n.key (by_vip cs) (by_vip fs)
  closed_at d i x fs here not none_empty same =
      let j = past (all_in (take m cs)) i in
      let all : all_in fs ≡ remove (all_in cs) j =
      same
      ∙ flat_set names_total name_in is_there (λ c. c) cs m (remove (get_or cs m d) i) lt
      ∙ sym (remove_within names_total name_in is_there (all_in (take m cs)) (get_or cs m d) (all_in (drop (suc m) cs)) i here.in_range)
      ∙ ap (λ (ps : List Placed). remove ps j) (sym (whole d)) in
      let out = removed_at names_total exact_names name_in is_there (all_in cs) n j h.in_order (at_whole d i here) in
      let after : AreInOrder (all_in fs) = subst AreInOrder (sym all) out.0 in (
        record { in_order = after; none_empty = none_empty },
        altered swept n (all_in cs) h.in_order (all_in fs) None after
            (λ q. ap (λ (ps : List Placed). get (by_name ps) q) all ∙ ap (λ (k : FinMap name_cmp Bool). get k q) out.1 ∙ get-remove names_total (by_name (all_in cs)) n q)
            (sym (ap swept (value d i x here ∙ ap (λ b. Some b) not))),
      )

  kept_at : (d : List Placed) (i : ℕ) (x : Placed) → IsPlaceAt (get_or cs m d) n i → is_there (get_or (get_or cs m d) i x) ≡ true → Alters swept (n.vip ∷ []) n.key (by_vip cs) (by_vip cs)
  kept_at d i x here there =
      let is = value d i x here ∙ ap (λ b. Some b) there in
      unaltered swept n (all_in cs) h.in_order (ap swept is ∙ sym is)

  closed_gap : (d : List Placed) (i : ℕ) → IsPlaceGap (get_or cs m d) n i → Alters swept (n.vip ∷ []) n.key (by_vip cs) (by_vip cs)
  closed_gap d i gap = unaltered swept n (all_in cs) h.in_order (ap swept (free d i gap) ∙ sym (free d i gap))

-- ---- the same, of a chunk that was read

-- a chunk that stays as it was read leaves all as they are
pub same_set : (cs : Chunks) (m : ℕ) (c new : List Placed) → c ≡ get_or cs m c → new ≡ c → set cs m new ≡ cs
same_set cs m c new read same = ap (set cs m) (same ∙ read) ∙ set-get_or cs m c

module _ (cs : Chunks) (h : AreChunks cs) (n : Name) (m : ℕ) (ds : Chunks) (same : ds ≡ cs) (inside : m < length ds) (of : IsChunkOf ds n m) (c : List Placed) (read : c ≡ get_or cs m c) where
  lt : m < length cs
  lt = subst (λ (es : Chunks). m < length es) same inside

  chunk : IsChunkOf cs n m
  chunk = subst (λ (es : Chunks). IsChunkOf es n m) same of

  -- what is read once more is the same
  again : (d : List Placed) → d ≡ get_or cs m d → d ≡ c
  again d once = get_or_read cs m d lt once [] ∙ sym (get_or_read cs m c lt read [])

  pub in_order : AreInOrder c
  in_order = subst AreInOrder (sym read) (in_chunk cs h n m lt chunk c)

  at_read : c ≡ get_or cs m []
  at_read = get_or_read cs m c lt read []

  pub write_found : (i : ℕ) (b : Bool) (new e : List Placed) → e ≡ get_or cs m e → IsPlaceAt c n i → ((d : Placed) → new ≡ set e i ((get_or e i d).0, b))
      → AreChunks (set cs m new) × Alters (written b) (n.vip ∷ []) n.key (by_vip cs) (by_vip (set cs m new))
  write_found i b new e once here done =
      let change = subst (λ (ps : List Placed). (d : Placed) → new ≡ set ps i ((get_or ps i d).0, b)) (again e once) done in
      let x : Placed = ((get_or c i (n, b)).0, b) in
      subst (λ (k : List Placed). AreChunks (set cs m k) × Alters (written b) (n.vip ∷ []) n.key (by_vip cs) (by_vip (set cs m k))) (ap (λ (ps : List Placed). set ps i x) (sym at_read) ∙ sym (change (n, b)))
      (written_at cs h n m lt chunk [] i x (subst (λ (ps : List Placed). IsPlaceAt ps n i) at_read here) (exact_names n ((get_or c i (n, b)).0) (here.here (n, b))))

  pub write_absent : (i : ℕ) (b : Bool) → IsPlaceGap c n i → Alters (written b) (n.vip ∷ []) n.key (by_vip cs) (by_vip cs)
  write_absent i b gap = written_gap cs h n m lt chunk [] i b (subst (λ (ps : List Placed). IsPlaceGap ps n i) at_read gap)

  pub close_found : (i : ℕ) (b : Bool) (fs : Chunks) (e : List Placed) → e ≡ get_or cs m e → IsPlaceAt c n i → ((d : Placed) → b ≡ (get_or e i d).1) → b ≡ false → HasNoEmptyChunk fs → all_in fs ≡ all_in (set cs m (remove (get_or cs m []) i))
      → AreChunks fs × Alters swept (n.vip ∷ []) n.key (by_vip cs) (by_vip fs)
  close_found i b fs e once here was not none_empty is_out =
      let is = subst (λ (ps : List Placed). (d : Placed) → b ≡ (get_or ps i d).1) (again e once) was in
      closed_at cs h n m lt chunk [] i (n, b) fs (subst (λ (ps : List Placed). IsPlaceAt ps n i) at_read here)
      (ap (λ (ps : List Placed). is_there (get_or ps i (n, b))) (sym at_read) ∙ sym (is (n, b)) ∙ not) none_empty is_out

  pub close_kept : (i : ℕ) (b : Bool) (e : List Placed) → e ≡ get_or cs m e → IsPlaceAt c n i → ((d : Placed) → b ≡ (get_or e i d).1) → b ≡ true → Alters swept (n.vip ∷ []) n.key (by_vip cs) (by_vip cs)
  close_kept i b e once here was there =
      let is = subst (λ (ps : List Placed). (d : Placed) → b ≡ (get_or ps i d).1) (again e once) was in
      kept_at cs h n m lt chunk [] i (n, b) (subst (λ (ps : List Placed). IsPlaceAt ps n i) at_read here)
      (ap (λ (ps : List Placed). is_there (get_or ps i (n, b))) (sym at_read) ∙ sym (is (n, b)) ∙ there)

  pub close_absent : (i : ℕ) → IsPlaceGap c n i → Alters swept (n.vip ∷ []) n.key (by_vip cs) (by_vip cs)
  close_absent i gap = closed_gap cs h n m lt chunk [] i (subst (λ (ps : List Placed). IsPlaceGap ps n i) at_read gap)

  pub open_found : (i : ℕ) → IsPlaceAt c n i → Alters opened_vip (n.vip ∷ []) n.key (by_vip cs) (by_vip cs)
  open_found i here = opened_at cs h n m lt chunk [] i (n, false) (subst (λ (ps : List Placed). IsPlaceAt ps n i) at_read here)

  pub open_absent : (i : ℕ) (x : Placed) (fs : Chunks) → IsPlaceGap c n i → x ≡ (n, false) → HasNoEmptyChunk fs → all_in fs ≡ all_in (set cs m (insert (get_or cs m []) i x))
      → AreChunks fs × Alters opened_vip (n.vip ∷ []) n.key (by_vip cs) (by_vip fs)
  open_absent i x fs gap is none_empty is_in = opened_gap cs h n m lt chunk [] i fs x is (subst (λ (ps : List Placed). IsPlaceGap ps n i) at_read gap) none_empty is_in

-- ---- no chunks

module _ (cs : Chunks) (h : AreChunks cs) (none : length cs ≡ 0) (n : Name) where
  no_place : get (by_name (all_in cs)) n ≡ None
  no_place = by cs h none
    where
      by : (ds : Chunks) → AreChunks ds → length ds ≡ 0 → get (by_name (all_in ds)) n ≡ None
      by [] g e = get-from_sorted name_cmp [] n tt
      by (c ∷ ds) g e = absurd (omega (arith, e))

  pub none_altered : (f : Step) → f None ≡ None → Alters f (n.vip ∷ []) n.key (by_vip cs) (by_vip cs)
  none_altered f is = unaltered f n (all_in cs) h.in_order (ap f no_place ∙ is ∙ sym no_place)

  pub first_opened : (x : Placed) (fs : Chunks) → x ≡ (n, false) → fs ≡ cs ++ ((x ∷ []) ∷ []) → AreChunks fs × Alters opened_vip (n.vip ∷ []) n.key (by_vip cs) (by_vip fs)
  first_opened x fs is add = by cs h none add
    where
      by : (ds : Chunks) → AreChunks ds → length ds ≡ 0 → fs ≡ ds ++ ((x ∷ []) ∷ []) → AreChunks fs × Alters opened_vip (n.vip ∷ []) n.key (by_vip ds) (by_vip fs)
      by (c ∷ ds) g e add = absurd (omega (arith, e))
      by [] g e add =
          let one : AreChunks (((n, false) ∷ []) ∷ []) = record { in_order = tt; none_empty = (omega arith, tt) } in
          let put = inserted_gap names_total exact_names name_in is_there [] 0 (n, false) tt (record { in_range = omega arith; before = λ j d lt. absurd (omega (arith, lt)); here = λ d lt. absurd (omega (arith, lt)) }) in
          subst (λ (es : Chunks). AreChunks es × Alters opened_vip (n.vip ∷ []) n.key (by_vip []) (by_vip es)) (sym (add ∙ ap (λ (p : Placed). (p ∷ []) ∷ []) is))
          (one, altered opened_vip n [] tt ((n, false) ∷ []) (Some false) tt (λ q. ap (λ (k : FinMap name_cmp Bool). get k q) put.1 ∙ get-insert names_total (by_name []) n false q) (sym (ap opened_vip (get-from_sorted name_cmp [] n tt))))

pub no_chunks : (cs : Chunks) → cs ≡ [] → AreChunks cs
no_chunks cs none = subst (λ (ds : Chunks). AreChunks ds) (sym none) (record { in_order = tt; none_empty = tt })
