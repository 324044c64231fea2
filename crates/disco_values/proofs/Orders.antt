-- The order of the keys of documents is total, and keys that compare equal are the same.
use Rattle.std.proofs.Common.{◌≡◌, ℕ, zero, suc, List, [], ◌∷◌, refl, sym, ap, ◌∙◌}
use Rattle.std.specs.declared.cmp.Ordering.{Ordering}
use Rattle.std.specs.declared.cmp.Ordering.TheVariants.{Less, Equal, Greater}
use Rattle.std.specs.Ordering.{nat_cmp, ordering_then}
use Rattle.std.specs.Cmp.{IsTotalOrder, then_total, on_total}
use Rattle.std.specs.Cmp.Lexicographic.{slice_cmp, lists_total, nat_list_cmp_total}
use Rattle.std.specs.FinMap.{slice_cmp-IsAntisymmetric, nat_cmp-IsAntisymmetric}
use Rattle.std.proofs.lemmas.Cmp.{nat_cmp_total}
use Rattle.std.proofs.lemmas.Map.Lookups.{CmpEqualImpliesEq}
use Rattle.disco_values.specs.declared.form.Form.{Form}
use Rattle.disco_values.specs.declared.form.Form.TheVariants.{Full, Compact}
use Rattle.disco_values.specs.declared.query.Query.{Query}
use Rattle.disco_values.specs.declared.query.Query.TheVariants as query
use Rattle.disco_values.specs.Keys.{doc_cmp, kind_of, names_in, place_of}
use Rattle.disco_values.specs.declared.doc_key.DocKey.{DocKey}

pub docs_total : IsTotalOrder doc_cmp
docs_total = then_total (on_total (λ (k : DocKey). kind_of k.query) nat_cmp_total)
    (then_total (on_total (λ (k : DocKey). names_in k.query) (lists_total nat_list_cmp_total)) (on_total (λ (k : DocKey). place_of k.form) nat_cmp_total))

first_equal : (o p : Ordering) → ordering_then o p ≡ Equal → o ≡ Equal
first_equal Less p e = absurd (cc)
first_equal Equal p e = refl
first_equal Greater p e = absurd (cc)

second_equal : (o p : Ordering) → ordering_then o p ≡ Equal → p ≡ Equal
second_equal Less p e = absurd (cc)
second_equal Equal p e = e
second_equal Greater p e = absurd (cc)

abbrev first_of : List (List ℕ) → List ℕ
first_of [] = []
first_of (x ∷ xs) = x

abbrev second_of : List (List ℕ) → List ℕ
second_of [] = []
second_of (x ∷ xs) = first_of xs

-- the query of a kind with these names
abbrev query_from : ℕ → List (List ℕ) → Query
query_from zero names = query.Apps
query_from (suc zero) names = query.Delta
query_from (suc (suc zero)) names = query.App (first_of names)
query_from (suc (suc (suc zero))) names = query.Vip (first_of names)
query_from (suc (suc (suc (suc zero)))) names = query.Svip (first_of names)
query_from (suc (suc (suc (suc (suc n))))) names = query.Instance (record { app = first_of names; id = second_of names })

query_again : (q : Query) → query_from (kind_of q) (names_in q) ≡ q
query_again query.Apps = refl
query_again query.Delta = refl
query_again (query.App name) = refl
query_again (query.Vip vip) = refl
query_again (query.Svip vip) = refl
query_again (query.Instance key) = refl

abbrev form_from : ℕ → Form
form_from zero = Full
form_from (suc n) = Compact

form_again : (f : Form) → form_from (place_of f) ≡ f
form_again Full = refl
form_again Compact = refl

exact_names : CmpEqualImpliesEq (slice_cmp (slice_cmp nat_cmp))
exact_names = slice_cmp-IsAntisymmetric (slice_cmp-IsAntisymmetric nat_cmp-IsAntisymmetric)

pub same_query : (q r : Query) → ordering_then (nat_cmp (kind_of q) (kind_of r)) (slice_cmp (slice_cmp nat_cmp) (names_in q) (names_in r)) ≡ Equal → q ≡ r
same_query q r e =
    let kinds : kind_of q ≡ kind_of r = nat_cmp-IsAntisymmetric _ _ (first_equal _ _ e) in
    let names : names_in q ≡ names_in r = exact_names _ _ (second_equal _ _ e) in
    sym (query_again q) ∙ (λ i. query_from (kinds i) (names i)) ∙ query_again r

pub then_then : (o p r : Ordering) → ordering_then o (ordering_then p r) ≡ ordering_then (ordering_then o p) r
then_then Less p r = refl
then_then Equal p r = refl
then_then Greater p r = refl

pub exact_docs : CmpEqualImpliesEq doc_cmp
exact_docs a b e =
    let both : ordering_then (ordering_then (nat_cmp (kind_of a.query) (kind_of b.query)) (slice_cmp (slice_cmp nat_cmp) (names_in a.query) (names_in b.query))) (nat_cmp (place_of a.form) (place_of b.form)) ≡ Equal = sym (then_then (nat_cmp (kind_of a.query) (kind_of b.query)) (slice_cmp (slice_cmp nat_cmp) (names_in a.query) (names_in b.query)) (nat_cmp (place_of a.form) (place_of b.form))) ∙ e in
    let queries : a.query ≡ b.query = same_query a.query b.query (first_equal _ _ both) in
    let places : place_of a.form ≡ place_of b.form = nat_cmp-IsAntisymmetric _ _ (second_equal _ _ both) in
    let forms : a.form ≡ b.form = sym (form_again a.form) ∙ ap form_from places ∙ form_again b.form in
    λ i. record { query = queries i; form = forms i }
