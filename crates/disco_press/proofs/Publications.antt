-- A log that has gone on begins with what was published before.
use Rattle.std.proofs.Common.{◌≡◌, List, [], ◌∷◌, ◌++◌, fold, refl, sym, ◌∙◌, ap, subst, append-nil, append_assoc}
use Rattle.std.proofs.lemmas.List.Sums.{fold-append}
use Rattle.std.proofs.lemmas.List.Concat.{flat_map-append}
use mathlib.Core.List.{IsPrefix}
use base.Growing.{prefix_refl, prefix_trans}
use Rattle.disco_history.specs.Change.{change_view}
use Rattle.disco_hub.specs.Press.{Note, begin, change, note_of}
use Rattle.disco_press.specs.declared.entry.LogEntry.{LogEntry}
use Rattle.disco_press.specs.declared.entry.LogEntry.TheVariants.{Begun, Changed, Copied, Published}
use Rattle.disco_press.specs.Logs.{Logged, all_noted, notes_in, publications, log_on, logged, with_note}

pub logged_more : (entries : List LogEntry) (m : LogEntry) → logged (entries ++ m ∷ []) ≡ log_on (logged entries) m
logged_more entries m = fold-append log_on (record { published = []; pending = [] }) entries (m ∷ [])

goes_on : (r : Logged) (more : List LogEntry) → IsPrefix r.published (fold log_on r more).published
goes_on r [] = prefix_refl r.published
goes_on r (Begun ∷ more) = goes_on (with_note r begin) more
goes_on r (Changed c ∷ more) = goes_on (with_note r (change (change_view c))) more
goes_on r (Copied c ∷ more) = goes_on (with_note r (note_of c)) more
goes_on r (Published ∷ more) =
    let s : Logged = record { published = r.published ++ r.pending ∷ []; pending = [] } in
    prefix_trans r.published s.published (fold log_on s more).published (r.pending ∷ [], refl) (goes_on s more)

pub begins_too : (xs ys : List LogEntry) → IsPrefix xs ys → IsPrefix (publications xs) (publications ys)
begins_too xs ys p =
    let e : logged ys ≡ fold log_on (logged xs) p.0 = ap logged (sym p.1) ∙ fold-append log_on (record { published = []; pending = [] }) xs p.0 in
    subst (λ (r : Logged). IsPrefix (publications xs) r.published) (sym e) (goes_on (logged xs) p.0)

-- one publication more
pub notes_more : (ps : List (List Note)) (p : List Note) → notes_in (ps ++ p ∷ []) ≡ notes_in ps ++ p
notes_more ps p = flat_map-append (λ (q : List Note). q) ps (p ∷ []) ∙ ap (λ q. notes_in ps ++ q) (append-nil p)

-- ---- all that was noted goes on too

one_noted : (r : Logged) (n : Note) → IsPrefix (all_noted r) (all_noted (with_note r n))
one_noted r n = (n ∷ [], append_assoc (notes_in r.published) r.pending (n ∷ []))

one_published : (r : Logged) → all_noted (record { published = r.published ++ r.pending ∷ []; pending = [] }) ≡ all_noted r
one_published r = append-nil (notes_in (r.published ++ r.pending ∷ [])) ∙ notes_more r.published r.pending

all_go_on : (r : Logged) (more : List LogEntry) → IsPrefix (all_noted r) (all_noted (fold log_on r more))
all_go_on r [] = prefix_refl (all_noted r)
all_go_on r (Begun ∷ more) = prefix_trans (all_noted r) (all_noted (with_note r begin)) (all_noted (fold log_on r (Begun ∷ more))) (one_noted r begin) (all_go_on (with_note r begin) more)
all_go_on r (Changed c ∷ more) = prefix_trans (all_noted r) (all_noted (with_note r (change (change_view c)))) (all_noted (fold log_on r (Changed c ∷ more))) (one_noted r (change (change_view c))) (all_go_on (with_note r (change (change_view c))) more)
all_go_on r (Copied c ∷ more) = prefix_trans (all_noted r) (all_noted (with_note r (note_of c))) (all_noted (fold log_on r (Copied c ∷ more))) (one_noted r (note_of c)) (all_go_on (with_note r (note_of c)) more)
all_go_on r (Published ∷ more) =
    let s : Logged = record { published = r.published ++ r.pending ∷ []; pending = [] } in
    subst (λ l. IsPrefix l (all_noted (fold log_on s more))) (one_published r) (all_go_on s more)

pub notes_begin_too : (xs ys : List LogEntry) → IsPrefix xs ys → IsPrefix (all_noted (logged xs)) (all_noted (logged ys))
notes_begin_too xs ys p =
    let e : logged ys ≡ fold log_on (logged xs) p.0 = ap logged (sym p.1) ∙ fold-append log_on (record { published = []; pending = [] }) xs p.0 in
    subst (λ (r : Logged). IsPrefix (all_noted (logged xs)) (all_noted r)) (sym e) (all_go_on (logged xs) p.0)
