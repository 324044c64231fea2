-- The keys of the places under a vip, chunk by chunk.
use Rattle.std.proofs.Common.{◌≡◌, ℕ, zero, suc, ◌+◌, ◌<◌, ◌≤◌, Bool, true, false, ◌&&◌, cond, T, List, [], ◌∷◌, ◌++◌, length, map, filter, get_or, take, drop, refl, sym, ap, subst, ◌∙◌, append_assoc, append-nil}
use Rattle.std.specs.declared.cmp.Ordering.{Ordering}
use Rattle.std.specs.declared.cmp.Ordering.TheVariants.{Less, Equal, Greater}
use Rattle.std.specs.Cmp.Lexicographic.{slice_cmp, nat_list_cmp_total}
use Rattle.std.specs.FinMap.Entries.{below_all, is_sorted}
use Rattle.std.specs.Ordering.{is_eq, is_lt, nat_cmp, ordering_then}
use Rattle.std.specs.Str.{bytes_eq}
use Rattle.std.proofs.lemmas.Map.Lookups.{exact_bytes}
use Rattle.std.proofs.lemmas.Map.Text.{is_eq-slice_cmp}
use Rattle.std.proofs.lemmas.List.{drop_all, drop_more}
use Rattle.disco_values.specs.Key.{key_cmp}
use Rattle.disco_values.specs.declared.key.Key.{Key}
use Rattle.disco_history.specs.SortedBy.{keyed}
use Rattle.disco_history.proofs.Sorted.{both_first, both_second, is_less}
use Rattle.disco_index.specs.ChunkedBy.{ComesAfterAll}
use Rattle.disco_index.specs.Chunks.{AreChunks, AreInOrder, Chunks, IsChunkOf, Placed, all_in, by_vip, is_there, keys_under, name_in, starts_after}
use Rattle.disco_index.specs.Names.{Name, lowest, name, name_cmp, of_name}
use Rattle.disco_index.specs.Places.{under_in}
use Rattle.disco_index.proofs.ChunkSteps.{keyed_same}
use Rattle.disco_index.proofs.ChunkedBy.{sorted_back}
use Rattle.disco_index.proofs.Nested.{names_total, under_of}

-- ---- places before those of a vip

nothing_before : (app id : List ℕ) → key_cmp lowest (record { app = app; id = id }) ≡ Greater → ⊥
nothing_before [] [] e = absurd (cc)
nothing_before [] (x ∷ id) e = absurd (cc)
nothing_before (x ∷ app) id e = absurd (cc)

other_vip : (q : List ℕ) (n : Name) (o : Ordering) → slice_cmp nat_cmp q n.vip ≡ o → ordering_then o (key_cmp lowest n.key) ≡ Greater → is_eq o ≡ false
other_vip q n Less is e = refl
other_vip q n Equal is e = absurd (nothing_before n.key.app n.key.id e)
other_vip q n Greater is e = refl

not_under : (q : List ℕ) (n : Name) → name_cmp (name q lowest) n ≡ Greater → bytes_eq q n.vip ≡ false
not_under q n e = sym (is_eq-slice_cmp q n.vip) ∙ other_vip q n (slice_cmp nat_cmp q n.vip) refl e

one_out : (q : List ℕ) (p : Placed) (ps : List Placed) → bytes_eq q p.0.vip ≡ false → keys_under q (p ∷ ps) ≡ keys_under q ps
one_out q p ps is = ap (λ b. map (λ (e : Placed). e.0.key) (cond (b && p.1) (p ∷ filter (λ (e : Placed). bytes_eq q e.0.vip && e.1) ps) (filter (λ (e : Placed). bytes_eq q e.0.vip && e.1) ps))) is

none_before : (q : List ℕ) (a b : List Placed) → ComesAfterAll name_cmp name_in (name q lowest) a → keys_under q (a ++ b) ≡ keys_under q b
none_before q [] b after = refl
none_before q (p ∷ a) b after = one_out q p (a ++ b) (not_under q p.0 after.0) ∙ none_before q a b after.1

-- ---- places behind those of a vip

is_less_eq : (o : Ordering) → is_lt o ≡ true → o ≡ Less
is_less_eq Less e = refl
is_less_eq Equal e = absurd (cc)
is_less_eq Greater e = absurd (cc)

later_vip : (q : List ℕ) (n m : Name) (o : Ordering) → slice_cmp nat_cmp q n.vip ≡ Less → slice_cmp nat_cmp n.vip m.vip ≡ o → ordering_then o (key_cmp n.key m.key) ≡ Less → slice_cmp nat_cmp q m.vip ≡ Less
later_vip q n m Less before is e = nat_list_cmp_total.trans q n.vip m.vip before is
later_vip q n m Equal before is e = ap (slice_cmp nat_cmp q) (sym (exact_bytes n.vip m.vip is)) ∙ before
later_vip q n m Greater before is e = absurd (cc)

above : (q : List ℕ) (n : Name) (ps : List Placed) → slice_cmp nat_cmp q n.vip ≡ Less → T (below_all name_cmp n (keyed name_in is_there ps)) → keys_under q ps ≡ []
above q n [] before below = refl
above q n (p ∷ ps) before below =
    let later = later_vip q n p.0 (slice_cmp nat_cmp n.vip p.0.vip) before refl (is_less _ (both_first _ _ below)) in
    one_out q p ps (sym (is_eq-slice_cmp q p.0.vip) ∙ ap is_eq later) ∙ above q n ps before (both_second _ _ below)

none_behind : (q : List ℕ) (ps : List Placed) → starts_after q ps ≡ true → AreInOrder ps → keys_under q ps ≡ []
none_behind q [] start sorted = refl
none_behind q (p ∷ ps) start sorted =
    let before = is_less_eq _ start in
    one_out q p ps (sym (is_eq-slice_cmp q p.0.vip) ∙ ap is_eq before) ∙ above q p.0 ps before (both_first _ _ sorted)

starts : (q : List ℕ) (c b : List Placed) → starts_after q c ≡ true → starts_after q (c ++ b) ≡ true
starts q [] b start = absurd (cc)
starts q (p ∷ c) b start = start

-- ---- one chunk after another

sorted_from : (cs : Chunks) (k : ℕ) → AreInOrder (all_in cs) → AreInOrder (all_in (drop k cs))
sorted_from cs zero sorted = sorted
sorted_from [] (suc k) sorted = sorted
sorted_from (c ∷ cs) (suc k) sorted = sorted_from cs k (sorted_back names_total name_in is_there c (all_in cs) sorted)

around : (cs : Chunks) (k : ℕ) → all_in cs ≡ all_in (take k cs) ++ all_in (drop k cs)
around cs zero = refl
around [] (suc k) = refl
around (c ∷ cs) (suc k) = ap (λ l. c ++ l) (around cs k) ∙ sym (append_assoc c (all_in (take k cs)) (all_in (drop k cs)))

module _ (cs : Chunks) (h : AreChunks cs) (q : List ℕ) (n : ℕ) where
  -- the chunks from that of the vip on have all of its places
  under_from : IsChunkOf cs (name q lowest) n → keys_under q (all_in (drop n cs)) ≡ keys_under q (all_in cs)
  under_from chunk = sym (ap (keys_under q) (around cs n) ∙ none_before q (all_in (take n cs)) (all_in (drop n cs)) chunk.after)

  -- and so have those up to the first of a vip behind it
  under_end : (i : ℕ) (d : List Placed) → i < length (drop n cs) → starts_after q (get_or (drop n cs) i d) ≡ true → keys_under q (all_in (drop i (drop n cs))) ≡ []
  under_end i d lt start =
      none_behind q (all_in (drop i (drop n cs)))
      (ap (λ (ds : Chunks). starts_after q (all_in ds)) (drop_more (drop n cs) i d lt) ∙ starts q (get_or (drop n cs) i d) (all_in (drop (i + 1) (drop n cs))) start)
      (sorted_from (drop n cs) i (sorted_from cs n h.in_order))

  -- a slice of those from that of the vip on
  module _ (ds : Chunks) (same : ds ≡ drop n cs) where
    pub slice_start : IsChunkOf cs (name q lowest) n → keys_under q (all_in ds) ≡ keys_under q (all_in cs)
    slice_start chunk = ap (λ (es : Chunks). keys_under q (all_in es)) same ∙ under_from chunk

    pub slice_stop : (i : ℕ) (c : List Placed) → i < length ds → c ≡ get_or ds i c → starts_after q c ≡ true → keys_under q (all_in (drop i ds)) ≡ []
    slice_stop i c lt read start =
        ap (λ (es : Chunks). keys_under q (all_in (drop i es))) same
        ∙ under_end i c (subst (λ (es : Chunks). i < length es) same lt) (ap (starts_after q) (sym (read ∙ ap (λ (es : Chunks). get_or es i c) same)) ∙ start)

pub slice_end : (q : List ℕ) (ds : Chunks) (i : ℕ) → length ds ≤ i → keys_under q (all_in (drop i ds)) ≡ []
slice_end q ds i le = ap (λ (es : Chunks). keys_under q (all_in es)) (drop_all i ds le)

-- none is left behind what was found
pub none_left : {K : Type 0} (found rest all : List K) → found ++ rest ≡ all → rest ≡ [] → found ≡ all
none_left found rest all is none = sym (append-nil found) ∙ ap (λ ks. found ++ ks) (sym none) ∙ is

-- ---- the same keys by vip

one_named : (q : List ℕ) (p : Placed) (ps : List Placed) (a b : Bool) → keys_under q ps ≡ map (λ (e : Key × Bool). e.0) (filter (λ (e : Key × Bool). e.1) (of_name q ps))
    → map (λ (e : Placed). e.0.key) (cond (a && b) (p ∷ filter (λ (e : Placed). bytes_eq q e.0.vip && e.1) ps) (filter (λ (e : Placed). bytes_eq q e.0.vip && e.1) ps))
    ≡ map (λ (e : Key × Bool). e.0) (filter (λ (e : Key × Bool). e.1) (cond a ((p.0.key, b) ∷ of_name q ps) (of_name q ps)))
one_named q p ps true true ih = ap (λ ks. p.0.key ∷ ks) ih
one_named q p ps true false ih = ih
one_named q p ps false b ih = ih

named : (q : List ℕ) (ps : List Placed) → keys_under q ps ≡ map (λ (e : Key × Bool). e.0) (filter (λ (e : Key × Bool). e.1) (of_name q ps))
named q [] = refl
named q (p ∷ ps) = one_named q p ps (bytes_eq q p.0.vip) p.1 (named q ps)

pub under_named : (cs : Chunks) (q : List ℕ) → AreChunks cs → keys_under q (all_in cs) ≡ under_in (by_vip cs) q
under_named cs q h = named q (all_in cs) ∙ sym (under_of (all_in cs) q (subst (λ (ps : List Placed). T (is_sorted name_cmp ps)) (keyed_same (all_in cs)) h.in_order))
