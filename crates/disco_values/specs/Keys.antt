-- The order of the keys of documents (this project's own rule).
use Rattle.std.specs.Prelude.{Bool, ℕ, List, [], ◌∷◌}
use Rattle.std.specs.declared.cmp.Ordering.{Ordering}
use Rattle.std.specs.Ordering.{nat_cmp, ordering_then, eq_by_cmp}
use Rattle.std.specs.Cmp.Lexicographic.{slice_cmp}
use Rattle.disco_values.specs.declared.form.Form.{Form}
use Rattle.disco_values.specs.declared.form.Form.TheVariants.{Full, Compact}
use Rattle.disco_values.specs.declared.query.Query.{Query}
use Rattle.disco_values.specs.declared.query.Query.TheVariants as query
use Rattle.disco_values.specs.declared.doc_key.DocKey.{DocKey}

-- the number of a query's kind in the order of kinds
abbrev pub kind_of : Query → ℕ
kind_of query.Apps = 0
kind_of query.Delta = 1
kind_of (query.App name) = 2
kind_of (query.Vip vip) = 3
kind_of (query.Svip vip) = 4
kind_of (query.Instance key) = 5

-- the names in a query
abbrev pub names_in : Query → List (List ℕ)
names_in (query.App name) = name ∷ []
names_in (query.Vip vip) = vip ∷ []
names_in (query.Svip vip) = vip ∷ []
names_in (query.Instance key) = key.app ∷ key.id ∷ []
names_in _ = []

abbrev pub place_of : Form → ℕ
place_of Full = 0
place_of Compact = 1

-- by kind, then by names in byte order, then the full form before the compact one
abbrev pub doc_cmp : DocKey → DocKey → Ordering
doc_cmp a b = ordering_then (nat_cmp (kind_of a.query) (kind_of b.query))
    (ordering_then (slice_cmp (slice_cmp nat_cmp) (names_in a.query) (names_in b.query)) (nat_cmp (place_of a.form) (place_of b.form)))

-- whether two keys are the same
abbrev pub same_doc : DocKey → DocKey → Bool
same_doc = eq_by_cmp doc_cmp
