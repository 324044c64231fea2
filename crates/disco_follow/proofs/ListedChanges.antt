-- What became of instances, one after another.
use Rattle.std.proofs.Common.{◌≡◌, ℕ, ◌+◌, ◌<◌, ◌≤◌, List, [], ◌∷◌, ◌++◌, length, map, take, get_or, refl, sym, ap, ◌∙◌, append-nil, append_assoc}
use Rattle.std.proofs.Math.Seq.{take-suc}
use Rattle.std.proofs.lemmas.List.{map-append, take_all}
use Rattle.std.proofs.lemmas.Grind.{flat_map-append}
use Rattle.std.specs.List.{flat_map}
use native.Mathlib.Numerals.{unary_clauses}
use Rattle.std.specs.FinMap.{FinMap, get}
use Rattle.disco_values.specs.Key.{key_cmp}
use Rattle.disco_values.specs.declared.key.Key.{Key}
use Rattle.disco_instance.specs.Row.{Row, row}
use Rattle.disco_history.specs.declared.held.Held.{Held}
use Rattle.disco_follow.specs.Changes.{AreToldOf, InstanceChange, IsToldOf, gone_of}

told_more : (before : FinMap key_cmp Row) (rs : List Row) (r : Row) (t x : List InstanceChange) → AreToldOf before rs t → IsToldOf (get before r.key) r x → AreToldOf before (rs ++ r ∷ []) (t ++ x)
told_more before [] r t x none one = (x, [], one, refl, ap (λ l. l ++ x) none ∙ sym (append-nil x))
told_more before (q ∷ qs) r t x all one =
    (all.0, all.1 ++ x, all.2, told_more before qs r all.1 x all.3 one, ap (λ l. l ++ x) all.4 ∙ append_assoc all.0 all.1 x)

-- the changes of these instances are put behind others
abbrev pub TellsAll : FinMap key_cmp Row → List Row → List InstanceChange → List InstanceChange → Type 0
TellsAll before rs old new = (all : List InstanceChange) × AreToldOf before rs all × (new ≡ old ++ all)

pub tells_none : (before : FinMap key_cmp Row) (o : List InstanceChange) → TellsAll before [] o o
tells_none before o = ([], refl, sym (append-nil o))

-- one instance's change by what was held of a key is put behind others
abbrev pub TellsOne : FinMap key_cmp Row → Key → Row → List InstanceChange → List InstanceChange → Type 0
TellsOne before k r old new = (one : List InstanceChange) × IsToldOf (get before k) r one × (new ≡ old ++ one)

pub tells_more : (before : FinMap key_cmp Row) (rs : List Row) (r : Row) (o m n : List InstanceChange) → TellsAll before rs o m → TellsOne before r.key r m n → TellsAll before (rs ++ r ∷ []) o n
tells_more before rs r o m n all one =
    (all.0 ++ one.0, told_more before rs r all.0 one.0 all.1 one.1, one.2 ∙ ap (λ l. l ++ one.0) all.2 ∙ append_assoc o all.0 one.0)

abbrev row_in : Held → Row
row_in h = row h.rec.value

-- one record more of a list
pub rows_step : (hs : List Held) (i : ℕ) (h : Held) → i < length hs → h ≡ get_or hs i h → map row_in (take (i + 1) hs) ≡ map row_in (take i hs) ++ row_in h ∷ []
rows_step hs i h lt e = simp unary_clauses (ap (map row_in) (take-suc hs i h lt ∙ ap (λ x. take i hs ++ x ∷ []) (sym e)) ∙ map-append row_in (take i hs) (h ∷ []))

pub rows_whole : (hs : List Held) (i : ℕ) → length hs ≤ i → map row_in (take i hs) ≡ map row_in hs
rows_whole hs i le = ap (map row_in) (take_all i hs le)

-- what became of the instances that went is put behind others
abbrev pub TellsGone : FinMap key_cmp Row → List Row → List InstanceChange → List InstanceChange → Type 0
TellsGone now rs old new = new ≡ old ++ flat_map (λ r. gone_of (get now r.key) r) rs

pub gone_none : (now : FinMap key_cmp Row) (o : List InstanceChange) → TellsGone now [] o o
gone_none now o = sym (append-nil o)

pub gone_more : (now : FinMap key_cmp Row) (rs : List Row) (r : Row) (o m n : List InstanceChange) → TellsGone now rs o m → n ≡ m ++ gone_of (get now r.key) r → TellsGone now (rs ++ r ∷ []) o n
gone_more now rs r o m n all one =
    let f = λ (r : Row). gone_of (get now r.key) r in
    let behind = ap (λ l. flat_map f rs ++ l) (sym (append-nil (f r))) ∙ sym (flat_map-append f rs (r ∷ [])) in
    one ∙ ap (λ l. l ++ f r) all ∙ append_assoc o (flat_map f rs) (f r) ∙ ap (λ l. o ++ l) behind
