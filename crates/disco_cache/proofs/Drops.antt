-- Which documents are left after drops.
use Rattle.std.proofs.Common.{◌≡◌, ℕ, Bool, true, false, ◌&&◌, ◌||◌, cond, List, [], ◌∷◌, Option, Some, None, refl, sym, ap, ◌∙◌}
use Rattle.std.specs.List.{list_any}
use Rattle.std.specs.Option.{option_map_or}
use Rattle.std.specs.declared.cmp.Ordering.{Ordering}
use Rattle.std.specs.declared.cmp.Ordering.TheVariants.{Less, Equal, Greater}
use Rattle.std.specs.Cmp.Lexicographic.{slice_cmp, nat_list_eq_equiv}
use Rattle.std.specs.FinMap as map
use Rattle.std.specs.Ordering.{nat_cmp, is_eq, ordering_then}
use Rattle.std.specs.Str.{bytes_eq}
use Rattle.std.proofs.lemmas.Map.Text.{is_eq-slice_cmp}
use Rattle.disco_instance.specs.Row.{Row}
use Rattle.disco_values.specs.declared.form.Form.{Form}
use Rattle.disco_values.specs.declared.form.Form.TheVariants.{Full, Compact}
use Rattle.disco_history.specs.Query.{asks_for, is_named, vips}
use Rattle.disco_history.proofs.Keys.{same_key-parts, same_key-sym}
use Rattle.disco_wire.specs.Documents.{asked_by}
use Rattle.disco_values.specs.declared.query.Query.{Query}
use Rattle.disco_values.specs.declared.query.Query.TheVariants as query
use Rattle.disco_cache.specs.Docs.{Docs, Drops}
use Rattle.disco_values.specs.Keys.{doc_cmp, kind_of, names_in, place_of, same_doc}
use Rattle.disco_cache.specs.Kept.{AreAskedAlike, doc_of, is_of, is_of_any, query_cmp, vip_query}
use Rattle.disco_values.specs.declared.doc_key.DocKey.{DocKey}
use Rattle.disco_values.proofs.Orders.{docs_total, then_then}

-- ---- one drop after another

or_none : {X : Type 0} (a b : Bool) (x : Option X) → cond b None (cond a None x) ≡ cond (a || b) None x
or_none true true x = refl
or_none true false x = refl
or_none false b x = refl

pub then : (a b : DocKey → Bool) (u v w : Docs) → Drops a u v → Drops b v w → Drops (λ k. a k || b k) u w
then a b u v w first second = record {
  docs = λ k. second.docs k ∙ ap (cond (b k) None) (first.docs k) ∙ or_none (a k) (b k) (map.get u.docs k);
  max = second.max ∙ first.max;
}

pub alike : (a b : DocKey → Bool) (u v : Docs) → ((k : DocKey) → a k ≡ b k) → Drops a u v → Drops b u v
alike a b u v same drops = record { docs = λ k. drops.docs k ∙ ap (λ t. cond t None (map.get u.docs k)) (same k); max = drops.max }

pub none : (u : Docs) → Drops (λ k. false) u u
none u = record { docs = λ k. refl; max = refl }

no_doc : {X : Type 0} (b : Bool) (x : Option X) → x ≡ None → x ≡ cond b None x
no_doc true x e = e
no_doc false x e = refl

-- where there is none, whatever is dropped
pub none_there : (of : DocKey → Bool) (u : Docs) → map.len u.docs ≡ 0 → Drops of u u
none_there of u empty = record {
  docs = λ k. no_doc (of k) (map.get u.docs k) (ap (λ m. map.get m k) (map.empty_of_len u.docs empty) ∙ map.get-empty doc_cmp k);
  max = refl;
}

-- ---- a query in both forms

is_eq-then : (o p : Ordering) → is_eq (ordering_then o p) ≡ (is_eq o && is_eq p)
is_eq-then Less p = refl
is_eq-then Equal p = refl
is_eq-then Greater p = refl

abbrev form_is : Form → Form → Bool
form_is f g = is_eq (nat_cmp (place_of f) (place_of g))

same_doc-parts : (k : DocKey) (q : Query) (f : Form) → same_doc k (doc_of q f) ≡ (is_of q k && form_is k.form f)
same_doc-parts k q f =
    ap is_eq (then_then (nat_cmp (kind_of k.query) (kind_of q)) (slice_cmp (slice_cmp nat_cmp) (names_in k.query) (names_in q)) (nat_cmp (place_of k.form) (place_of f)))
    ∙ is_eq-then (query_cmp k.query q) (nat_cmp (place_of k.form) (place_of f))

both_forms : {X : Type 0} (b : Bool) (f : Form) (x : Option X) → cond (b && form_is f Compact) None (cond (b && form_is f Full) None x) ≡ cond b None x
both_forms true Full x = refl
both_forms true Compact x = refl
both_forms false f x = refl

pub both : (q : Query) (u v w : Docs) → v.docs ≡ map.remove u.docs (doc_of q Full) → v.max ≡ u.max → w.docs ≡ map.remove v.docs (doc_of q Compact) → w.max ≡ v.max → Drops (is_of q) u w
both q u v w first first_max second second_max = record {
  docs = λ k.
      ap (λ m. map.get m k) second
      ∙ map.get-remove docs_total v.docs (doc_of q Compact) k
      ∙ ap (cond (same_doc k (doc_of q Compact)) None) (ap (λ m. map.get m k) first ∙ map.get-remove docs_total u.docs (doc_of q Full) k)
      ∙ (λ i. cond (same_doc-parts k q Compact i) None (cond (same_doc-parts k q Full i) None (map.get u.docs k)))
      ∙ both_forms (is_of q k) k.form (map.get u.docs k);
  max = second_max ∙ first_max;
}

-- ---- the vips of an address

-- of these vips some were dropped, and the rest are still to be
pub record Left (secure : Bool) (all rest : List (List ℕ)) (start now : Docs) : Type 0 where
  pub docs : (k : DocKey) → cond (is_of_any secure rest k) None (map.get now.docs k) ≡ cond (is_of_any secure all k) None (map.get start.docs k)
  pub max : now.max ≡ start.max

pub left_step : (secure : Bool) (all rest after : List (List ℕ)) (vip : List ℕ) (start now next : Docs) → rest ≡ vip ∷ after → Drops (is_of (vip_query secure vip)) now next
    → Left secure all rest start now → Left secure all after start next
left_step secure all rest after vip start now next is drops left = record {
  docs = λ k.
      ap (cond (is_of_any secure after k) None) (drops.docs k)
      ∙ or_none (is_of (vip_query secure vip) k) (is_of_any secure after k) (map.get now.docs k)
      ∙ ap (λ vs. cond (is_of_any secure vs k) None (map.get now.docs k)) (sym is)
      ∙ left.docs k;
  max = drops.max ∙ left.max;
}

pub left_none : (secure : Bool) (all rest : List (List ℕ)) (start now : Docs) → rest ≡ [] → Left secure all rest start now → Drops (is_of_any secure all) start now
left_none secure all rest start now is left = record {
  docs = λ k. ap (λ vs. cond (is_of_any secure vs k) None (map.get now.docs k)) (sym is) ∙ left.docs k;
  max = left.max;
}

-- ---- what a record is asked for by

then_equal : (o : Ordering) → is_eq (ordering_then o Equal) ≡ is_eq o
then_equal Less = refl
then_equal Equal = refl
then_equal Greater = refl

one_name : (a b : List ℕ) → is_eq (slice_cmp (slice_cmp nat_cmp) (a ∷ []) (b ∷ [])) ≡ bytes_eq a b
one_name a b = then_equal (slice_cmp nat_cmp a b) ∙ is_eq-slice_cmp a b

two_names : (a b c d : List ℕ) → is_eq (slice_cmp (slice_cmp nat_cmp) (a ∷ b ∷ []) (c ∷ d ∷ [])) ≡ (bytes_eq a c && bytes_eq b d)
two_names a b c d =
    is_eq-then (slice_cmp nat_cmp a c) (slice_cmp (slice_cmp nat_cmp) (b ∷ []) (d ∷ []))
    ∙ (λ i. is_eq-slice_cmp a c i && one_name b d i)

never : (vs : List (List ℕ)) → list_any (λ v. false) vs ≡ false
never [] = refl
never (v ∷ vs) = never vs

any_same : (f g : List ℕ → Bool) (vs : List (List ℕ)) → ((v : List ℕ) → f v ≡ g v) → list_any f vs ≡ list_any g vs
any_same f g vs same = ap (λ h. list_any h vs) (λ i v. same v i)

or_false : (b : Bool) → (b || false) ≡ b
or_false true = refl
or_false false = refl

abbrev pub is_asked : Row → DocKey → Bool
is_asked r k = is_of query.Apps k || (is_of query.Delta k || (is_of (query.App r.key.app) k || (is_of (query.Instance r.key) k || (is_of_any false (vips r.vip_address) k || is_of_any true (vips r.secure_vip_address) k))))

asked_at : (r : Row) (q : Query) (f : Form) → is_asked r (doc_of q f) ≡ asks_for (asked_by q) r
asked_at r query.Apps f = refl
asked_at r query.Delta f = refl
asked_at r (query.App name) f =
    (λ i. one_name name r.key.app i || (never (vips r.vip_address) i || never (vips r.secure_vip_address) i))
    ∙ or_false (bytes_eq name r.key.app) ∙ nat_list_eq_equiv.symm name r.key.app
asked_at r (query.Vip vip) f =
    (λ i. any_same _ _ (vips r.vip_address) (λ v. one_name vip v) i || never (vips r.secure_vip_address) i)
    ∙ or_false (list_any (bytes_eq vip) (vips r.vip_address))
asked_at r (query.Svip vip) f = (λ i. never (vips r.vip_address) i || any_same _ _ (vips r.secure_vip_address) (λ v. one_name vip v) i)
asked_at r (query.Instance key) f =
    (λ i. two_names key.app key.id r.key.app r.key.id i || (never (vips r.vip_address) i || never (vips r.secure_vip_address) i))
    ∙ or_false _ ∙ sym (same_key-parts key r.key) ∙ same_key-sym key r.key

pub asked : (r : Row) (k : DocKey) → is_asked r k ≡ asks_for (asked_by k.query) r
asked r k = asked_at r k.query k.form

twice_or_once : (b : Bool) → b ≡ (b || b)
twice_or_once true = refl
twice_or_once false = refl

-- what a record is asked for by, for one of the same key and vips
asked_as : (r s : Row) → AreAskedAlike (Some r) (Some s) → (k : DocKey) → asks_for (asked_by k.query) r ≡ asks_for (asked_by k.query) s
asked_as r s same k =
    sym (asked r k)
    ∙ (λ i. is_of query.Apps k || (is_of query.Delta k || (is_of (query.App (same.0 i).app) k || (is_of (query.Instance (same.0 i)) k || (is_of_any false (vips (same.1 i)) k || is_of_any true (vips (same.2 i)) k)))))
    ∙ asked s k

-- the new record alone, where the old one is asked for by the same queries
pub one_of_both : (r s : Option Row) (u v : Docs) → AreAskedAlike r s → Drops (λ k. option_map_or (asks_for (asked_by k.query)) s false) u v → Drops (λ k. is_named r s (asked_by k.query)) u v
one_of_both None s u v same drops = absurd same
one_of_both (Some r) None u v same drops = absurd same
one_of_both (Some r) (Some s) u v same drops =
    alike _ _ u v (λ k. twice_or_once (asks_for (asked_by k.query) s) ∙ (λ i. sym (asked_as r s same k) i || asks_for (asked_by k.query) s)) drops
