-- Keys that are new, one after another.
use Rattle.std.proofs.Common.{◌≡◌, ℕ, ◌+◌, ◌-◌, Bool, true, false, ◌&&◌, cond, T, List, [], ◌∷◌, ◌++◌, map, is_some, refl, sym, ap, subst, ◌∙◌}
use Rattle.std.proofs.lemmas.List.{map-append}
use Rattle.std.proofs.lemmas.List.Sums.{fold-append}
use Rattle.std.specs.Cmp.{eq_by_cmp_equiv}
use Rattle.std.specs.FinMap.{contains_key, empty, entries, entries_sorted, get-empty, insert, is_sorted, keys, len, len-insert, len-remove, remove}
use Rattle.std.specs.FinMap.Entries.{below_all}
use Rattle.std.specs.Ordering.{is_eq, is_lt}
use Rattle.std.specs.declared.cmp.Ordering.{Ordering}
use Rattle.std.specs.declared.cmp.Ordering.TheVariants.{Less, Equal, Greater}
use Rattle.disco_values.specs.Keys.{doc_cmp, same_doc}
use Rattle.disco_values.specs.declared.doc_key.DocKey.{DocKey}
use Rattle.disco_values.proofs.Orders.{docs_total, exact_docs}
use Rattle.disco_hub.specs.Rounds.{KeySet, kept_keys}
use Rattle.disco_hub.specs.Stored.{AreNew, kept_with, key_pair, key_pairs}
use Rattle.disco_hub.specs.declared.round.CopiedKey.{CopiedKey}
use Rattle.disco_hub.proofs.KeySets.{kept_one}

split : (a b : Bool) → T (a && b) → T a × T b
split true b t = (tt, t)
split false b t = absurd t

equal : (r : Ordering) → is_eq r ≡ true → r ≡ Equal
equal Less e = absurd (cc)
equal Equal e = refl
equal Greater e = absurd (cc)

not_less : (r : Ordering) → r ≡ Equal → T (is_lt r) → ⊥
not_less r e t = subst (λ o. T (is_lt o)) e t

itself : (k : DocKey) → doc_cmp k k ≡ Equal
itself k = equal (doc_cmp k k) ((eq_by_cmp_equiv docs_total).refl k)

never : (b : Bool) → (b ≡ true → ⊥) → b ≡ false
never true n = absurd (n refl)
never false n = refl

unless : (b x : Bool) → b ≡ false → cond b true x ≡ true → x ≡ true
unless true x e is = absurd (cc)
unless false x e is = is

tested : (b : Bool) (P : Type 0) → (b ≡ true → P) → (b ≡ false → P) → P
tested true P t f = t refl
tested false P t f = f refl

-- all of these keys come before those of the entries
abbrev AreBelow : KeySet → List (DocKey × Unit {0}) → Type 0
AreBelow ks es = (q : DocKey) → contains_key ks q ≡ true → T (below_all doc_cmp q es)

all_new : (es : List (DocKey × Unit {0})) (ks : KeySet) → T (is_sorted doc_cmp es) → AreBelow ks es → AreNew ks (map (λ e. e.0) es)
all_new [] ks sorted below = tt
all_new (e ∷ es) ks sorted below =
    let parts = split (below_all doc_cmp e.0 es) (is_sorted doc_cmp es) sorted in
    let next : AreBelow (insert ks e.0 tt) es = λ q is. tested (same_doc q e.0) (T (below_all doc_cmp q es))
    (λ same. subst (λ k. T (below_all doc_cmp k es)) (sym (exact_docs q e.0 (equal (doc_cmp q e.0) same))) parts.0)
    (λ other. (split (is_lt (doc_cmp q e.0)) (below_all doc_cmp q es) (below q (unless (same_doc q e.0) (contains_key ks q) other (sym (kept_one ks e.0 true q) ∙ is)))).1) in
    (never (contains_key ks e.0) (λ there. not_less (doc_cmp e.0 e.0) (itself e.0) (split (is_lt (doc_cmp e.0 e.0)) (below_all doc_cmp e.0 es) (below e.0 there)).0), all_new es (insert ks e.0 tt) parts.1 next)

none_in : (q : DocKey) → contains_key (empty {X = Unit {0}} {R = doc_cmp}) q ≡ true → ⊥
none_in q is = absurd (the (sym (ap is_some (get-empty doc_cmp q)) ∙ is))
  where
    the : false ≡ true → ⊥
    the e = absurd (cc)

-- the keys of a set are new
pub keys_new : (m : KeySet) → AreNew empty (keys m)
keys_new m = all_new (entries m) empty (entries_sorted m) (λ q is. absurd (none_in q is))

stays : (b x y : Bool) → (x ≡ true → y ≡ true) → cond b true x ≡ true → cond b true y ≡ true
stays true x y f e = refl
stays false x y f e = f e

-- they are new to fewer
fewer : (left : List DocKey) (ks js : KeySet) → ((q : DocKey) → contains_key js q ≡ true → contains_key ks q ≡ true) → AreNew ks left → AreNew js left
fewer [] ks js sub new = tt
fewer (k ∷ left) ks js sub new = (
  never (contains_key js k) (λ there. absurd (the (sym (sub k there) ∙ new.0))),
  fewer left (insert ks k tt) (insert js k tt) (λ q is. kept_one ks k true q ∙ stays (same_doc q k) (contains_key js q) (contains_key ks q) (sub q) (sym (kept_one js k true q) ∙ is)) new.1,
)
  where
    the : true ≡ false → ⊥
    the e = absurd (cc)

less : (b x : Bool) → cond b false x ≡ true → cond b true x ≡ true
less true x e = absurd (cc)
less false x e = e

still : (b : Bool) (ks : KeySet) (k : DocKey) (left : List DocKey) → AreNew ks (k ∷ left) → AreNew (kept_with ks (k, b)) left
still true ks k left new = new.1
still false ks k left new = fewer left (insert ks k tt) (remove ks k) (λ q is. kept_one ks k true q ∙ less (same_doc q k) (contains_key ks q) (sym (kept_one ks k false q) ∙ is)) new.1

pub kept_more : (done : List CopiedKey) (c : CopiedKey) → kept_keys (key_pairs (done ++ c ∷ [])) ≡ kept_with (kept_keys (key_pairs done)) (key_pair c)
kept_more done c = ap kept_keys (map-append key_pair done (c ∷ [])) ∙ fold-append kept_with empty (key_pairs done) (key_pair c ∷ [])

-- the rest is new after a copy of the first
pub rest_new : (done more : List CopiedKey) (c : CopiedKey) (left all : List DocKey) → more ≡ done ++ c ∷ [] → all ≡ c.key ∷ left → AreNew (kept_keys (key_pairs done)) all → AreNew (kept_keys (key_pairs more)) left
rest_new done more c left all is was new =
    subst (λ ks. AreNew ks left) (sym (ap (λ cs. kept_keys (key_pairs cs)) is ∙ kept_more done c)) (still c.kept (kept_keys (key_pairs done)) c.key left (subst (AreNew (kept_keys (key_pairs done))) was new))

absent : (b : Bool) (n : ℕ) → b ≡ false → cond b n (n + 1) ≡ n + 1
absent true n e = absurd (cc)
absent false n e = refl

-- one key more where it had a document
pub one_more : (done more : List CopiedKey) (k : DocKey) (left all : List DocKey) → more ≡ done ++ record { key = k; kept = true } ∷ [] → all ≡ k ∷ left → AreNew (kept_keys (key_pairs done)) all
    → len (kept_keys (key_pairs more)) ≡ len (kept_keys (key_pairs done)) + 1
one_more done more k left all is was new =
    ap (λ cs. len (kept_keys (key_pairs cs))) is ∙ ap len (kept_more done (record { key = k; kept = true })) ∙ len-insert docs_total (kept_keys (key_pairs done)) k tt
    ∙ absent (contains_key (kept_keys (key_pairs done)) k) (len (kept_keys (key_pairs done))) (subst (AreNew (kept_keys (key_pairs done))) was new).0

gone : (b : Bool) (n : ℕ) → b ≡ false → cond b (n - 1) n ≡ n
gone true n e = absurd (cc)
gone false n e = refl

-- and none where it had none
pub none_more : (done more : List CopiedKey) (k : DocKey) (left all : List DocKey) → more ≡ done ++ record { key = k; kept = false } ∷ [] → all ≡ k ∷ left → AreNew (kept_keys (key_pairs done)) all
    → len (kept_keys (key_pairs more)) ≡ len (kept_keys (key_pairs done))
none_more done more k left all is was new =
    ap (λ cs. len (kept_keys (key_pairs cs))) is ∙ ap len (kept_more done (record { key = k; kept = false })) ∙ len-remove docs_total (kept_keys (key_pairs done)) k
    ∙ gone (contains_key (kept_keys (key_pairs done)) k) (len (kept_keys (key_pairs done))) (subst (AreNew (kept_keys (key_pairs done))) was new).0
