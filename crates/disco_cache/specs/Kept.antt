-- Kept documents as they are stored, and the queries that a change names. Nothing here is to be believed: no public
-- contract rests on it.
use Rattle.std.specs.Prelude.{◌≡◌, ℕ, Bool, List, if◌then◌else◌, Option, Some, None}
use Rattle.disco_instance.specs.Row.{Row}
use Rattle.std.specs.List.{list_any}
use Rattle.std.specs.FinMap.{FinMap}
use Rattle.std.specs.declared.alloc.Global.{Global}
use Rattle.std.specs.declared.cmp.Ordering.{Ordering}
use Rattle.std.specs.declared.sync.Arc.{Arc}
use Rattle.std.specs.Cmp.Lexicographic.{slice_cmp}
use Rattle.std.specs.Ordering.{nat_cmp, ordering_then, is_eq}
use Rattle.disco_history.specs.SortedBy.{AreSortedBy, IsAtBy, IsGapBy, map_by}
use Rattle.disco_values.specs.declared.form.Form.{Form}
use Rattle.disco_values.specs.declared.query.Query.{Query}
use Rattle.disco_values.specs.declared.query.Query.TheVariants as query
use Rattle.disco_values.specs.Keys.{doc_cmp, kind_of, names_in}
use Rattle.disco_values.specs.declared.doc_key.DocKey.{DocKey}
use Rattle.disco_cache.specs.declared.query_ref.QueryRef.{QueryRef}
use Rattle.disco_cache.specs.declared.query_ref.QueryRef.TheVariants as query_ref
use Rattle.disco_cache.specs.declared.payload.Payload.{Payload}

abbrev pub Stored : Type 0
Stored = List (Arc Payload Global)

abbrev pub doc_key : Arc Payload Global → DocKey
doc_key d = d.value.key

abbrev pub payload_in : Arc Payload Global → Payload
payload_in d = d.value

abbrev pub AreDocsSorted : Stored → Type 0
AreDocsSorted ds = AreSortedBy doc_cmp doc_key payload_in ds

abbrev pub docs_map : Stored → FinMap doc_cmp Payload
docs_map ds = map_by doc_cmp doc_key payload_in ds

-- the document at place i is that of the key
abbrev pub IsDocAt : Stored → DocKey → ℕ → Type 0
IsDocAt ds k i = IsAtBy doc_cmp doc_key ds k i

-- no document is of the key, and it would go to place i
abbrev pub IsDocGap : Stored → DocKey → ℕ → Type 0
IsDocGap ds k i = IsGapBy doc_cmp doc_key ds k i

-- a borrowed query as a query
abbrev pub query_of : QueryRef → Query
query_of query_ref.Apps = query.Apps
query_of query_ref.Delta = query.Delta
query_of (query_ref.App name) = query.App name.now
query_of (query_ref.Vip vip) = query.Vip vip.now
query_of (query_ref.Svip vip) = query.Svip vip.now
query_of (query_ref.Instance key) = query.Instance key.now

-- the order of queries: by kind, then by names
abbrev pub query_cmp : Query → Query → Ordering
query_cmp a b = ordering_then (nat_cmp (kind_of a) (kind_of b)) (slice_cmp (slice_cmp nat_cmp) (names_in a) (names_in b))

-- the key of a query in a form
abbrev pub doc_of : Query → Form → DocKey
doc_of q f = record { query = q; form = f }

-- the key is of that query, in any form
abbrev pub is_of : Query → DocKey → Bool
is_of q k = is_eq (query_cmp k.query q)

-- a vip, or a secure one
abbrev pub vip_query : Bool → List ℕ → Query
vip_query secure vip = if secure then query.Svip vip else query.Vip vip

-- the key is of one of these vips, or of these secure ones
abbrev pub is_of_any : Bool → List (List ℕ) → DocKey → Bool
is_of_any secure vips k = list_any (λ vip. is_of (vip_query secure vip) k) vips

-- two records of one key, with the same vips
abbrev pub AreAskedAlike : Option Row → Option Row → Type 0
AreAskedAlike None s = ⊥
AreAskedAlike (Some r) None = ⊥
AreAskedAlike (Some r) (Some s) = (r.key ≡ s.key) × (r.vip_address ≡ s.vip_address) × (r.secure_vip_address ≡ s.secure_vip_address)
