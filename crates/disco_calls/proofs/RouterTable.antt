-- The router's table is the table of paths.
use Rattle.std.proofs.Common.{◌≡◌, inl, inr, ℕ, List, [], ◌∷◌, ◌++◌, Option, Some, None, option_map, Bool, true, false, cond, codes, refl, sym, ap, ◌∙◌, ◌==◌}
use Rattle.std.specs.Str.{bytes_eq}
use Rattle.matchit.specs.Level.{IsText}
use Rattle.matchit.specs.Rows.{RowsOf}
use Rattle.matchit.specs.Router.{rename, map_key}
use Rattle.matchit.specs.Seek.{cuts, own, or_else, seek, first}
use Rattle.matchit.proofs.OnLiterals.{matchit_on_literals}
use Rattle.matchit.proofs.RenameLemmas.{first-rename}
use Rattle.disco_calls.specs.declared.place.Place.{Place}
use Rattle.disco_calls.specs.declared.place.Place.TheVariants as place
use Rattle.disco_calls.specs.declared.route.Route.{Route}
use Rattle.disco_calls.specs.declared.route.Route.TheVariants.{Apps, Delta, App, Instance, Status, Metadata, Id, Vip, Svip}
use Rattle.disco_calls.specs.Paths.{parts, parts_place, of_apps, of_instance, one_name, is_empty}
use Rattle.disco_calls.specs.Table.{table, with_apps, with_instances, with_vips}
use Rattle.disco_calls.proofs.RowWalks.{front, back, more, back_of, parts_of, split_on, same, under, ends, seek-empty, fork, branch, slash_cut, slash_on, param_on, plain_step, word, IsCut, append-nil}
use Rattle.disco_calls.proofs.Named.{IsFolder, through, named, named_last}

-- the row of a place
abbrev pub kind : Place (List ℕ) → Route
kind place.Apps = Apps
kind place.Delta = Delta
kind (place.App app) = App
kind (place.Instance app id) = Instance
kind (place.Status app id) = Status
kind (place.Metadata app id) = Metadata
kind (place.Id id) = Id
kind (place.Vip vip) = Vip
kind (place.Svip svip) = Svip

abbrev Rows : Type 0
Rows = RowsOf Route

abbrev end : Route → Rows
end k = ends (Some k)

-- behind `/apps/{app}/{id}/`
abbrev last_rows : Rows
last_rows = under (codes "metadata") (end Metadata) ++ under (codes "status") (end Status)

abbrev behind_id : Rows
behind_id = under (47 ∷ []) last_rows ++ end Instance

-- behind `/apps/{app}/`
abbrev id_rows : Rows
id_rows = under (256 ∷ []) behind_id ++ ends None

abbrev behind_app : Rows
behind_app = under (47 ∷ []) id_rows ++ end App

-- behind `/apps/`, but for the delta
abbrev app_rows : Rows
app_rows = under (256 ∷ []) behind_app ++ end Apps

abbrev apps_rows : Rows
apps_rows = under (codes "delta") (end Delta) ++ app_rows

abbrev behind_apps : Rows
behind_apps = under (47 ∷ []) apps_rows ++ end Apps

-- behind a folder whose names stand alone
abbrev alone : Route → Rows
alone k = under (256 ∷ []) (end k) ++ ends None

abbrev behind_folder : Route → Rows
behind_folder k = under (47 ∷ []) (alone k) ++ ends None

abbrev vips_rows : Rows
vips_rows = under (codes "vips") (behind_folder Vip) ++ ends None

abbrev svips_rows : Rows
svips_rows = under (codes "svips") (behind_folder Svip) ++ vips_rows

abbrev instances_rows : Rows
instances_rows = under (codes "instances") (behind_folder Id) ++ svips_rows

abbrev folder_rows : Rows
folder_rows = under (codes "apps") behind_apps ++ instances_rows

abbrev all_rows : Rows
all_rows = under (47 ∷ []) folder_rows ++ ends None

same_rows : rename (λ r. r.value) table ≡ all_rows
unfolding table with_apps with_instances with_vips matchit_on_literals
same_rows = refl

-- a row that ends here is a cut
end_cut : (k : Route) → IsCut (end k)
end_cut k b q n = plain_step (end k) b q refl refl ∙ seek-empty 0 q

end_here : (k : Route) → first (end k) [] ≡ Some k
unfolding seek
end_here k = refl

here : (rs : Rows) → first rs [] ≡ own rs
unfolding seek
here rs = refl

-- a choice between two words
two : (u v : Bool) (a b : Place (List ℕ)) → cond u (Some (kind a)) (cond v (Some (kind b)) None) ≡ option_map kind (cond u (Some a) (cond v (Some b) None))
two true v a b = refl
two false true a b = refl
two false false a b = refl

two_cut : (u v : Bool) → let none : Option Route = None in cond u none (cond v none none) ≡ none
two_cut true v = refl
two_cut false true = refl
two_cut false false = refl

end_slash : (k : Route) (q : List ℕ) → first (end k) (47 ∷ q) ≡ None
end_slash k q = plain_step (end k) 47 q refl refl ∙ seek-empty 0 q

last_words : (p : List ℕ) → first last_rows p ≡ cond (bytes_eq (front p) (codes "metadata")) (first (end Metadata) (back p)) (cond (bytes_eq (front p) (codes "status")) (first (end Status) (back p)) None)
last_words p =
    fork 109 (codes "etadata") (end Metadata) (under (codes "status") (end Status)) p refl (end_cut Metadata) refl refl refl
    ∙ ap (cond (bytes_eq (front p) (codes "metadata")) (first (end Metadata) (back p))) (word (codes "status") (end Status) p refl (end_cut Status))

of_last : (app id p : List ℕ) → first last_rows p ≡ option_map kind (of_instance app id (parts p))
of_last app id p = last_words p ∙ elim (back_of p) [
  | inl none ↦ rw (parts_of p, none, end_here Metadata, end_here Status) (two (bytes_eq (front p) (codes "metadata")) (bytes_eq (front p) (codes "status")) (place.Metadata app id) (place.Status app id))
  | inr (q, some) ↦ rw (parts_of p, some, parts_of q, end_slash Metadata q, end_slash Status q) (two_cut (bytes_eq (front p) (codes "metadata")) (bytes_eq (front p) (codes "status")))
]

-- what stands behind a slash is text
text_behind : (p q : List ℕ) → IsText p → back p ≡ 47 ∷ q → IsText q
text_behind [] q text some = absurd (cc)
text_behind (b ∷ p) q text some = elim (split_on (b == 47)) [
  | inl e ↦
      let is : (b ∷ p) ≡ (47 ∷ q) = rw e at some in
      let tail : p ≡ q = ap tail_of is in
      rw (← tail) text.1
  | inr e ↦ text_behind p q text.1 (rw e at some)
]
  where
    tail_of : List ℕ → List ℕ
    tail_of [] = []
    tail_of (x ∷ xs) = xs

-- the rows behind a slash, and one that ends here
id_folder : IsFolder behind_id (under (47 ∷ []) last_rows)
id_folder = record {
  longest = λ seg. elim (split_on (cuts seg (47 ∷ []))) [ inl e ↦ rw e refl | inr e ↦ rw e refl ];
  suffixed = refl;
}

app_folder : IsFolder behind_app (under (47 ∷ []) id_rows)
app_folder = record {
  longest = λ seg. elim (split_on (cuts seg (47 ∷ []))) [ inl e ↦ rw e refl | inr e ↦ rw e refl ];
  suffixed = refl;
}

-- rows behind a slash alone
on_slash : (rs : Rows) (q : List ℕ) → first (under (47 ∷ []) rs) (47 ∷ q) ≡ first rs q
on_slash rs q = ap (λ all. first all (47 ∷ q)) (sym (append-nil (under (47 ∷ []) rs))) ∙ slash_on rs None q

behind_instance : (app : List ℕ) (c : ℕ) (s : List ℕ) → through (Some Instance) (under (47 ∷ []) last_rows) (front (c ∷ s)) (back (c ∷ s)) ≡ option_map kind (cond (is_empty (front (c ∷ s))) None (of_instance app (front (c ∷ s)) (more (back (c ∷ s)))))
behind_instance app c s = elim (split_on (c == 47)) [
  | inl e ↦ rw e refl
  | inr e ↦ elim (back_of s) [
    | inl none ↦ rw (e, none) refl
    | inr (q, some) ↦ rw (e, some) (on_slash last_rows q ∙ of_last app (c ∷ front s) q)
  ]
]

-- behind `/apps/{app}/`
of_id : (x : ℕ) (xs p : List ℕ) → IsText p → first id_rows p ≡ option_map kind (of_apps ((x ∷ xs) ∷ parts p))
of_id x xs [] text = here id_rows
of_id x xs (c ∷ s) text =
    param_on behind_id None c s text.0
    ∙ named behind_id (under (47 ∷ []) last_rows) c s id_folder
    ∙ behind_instance (x ∷ xs) c s
    ∙ ap (λ all. option_map kind (of_apps ((x ∷ xs) ∷ all))) (sym (parts_of (c ∷ s)))

delta_or_app : (u : Bool) (app : List ℕ) → or_else (cond u (Some Delta) None) (Some App) ≡ option_map kind (cond u (Some place.Delta) (Some (place.App app)))
delta_or_app true app = refl
delta_or_app false app = refl

no_delta : (u : Bool) (a : Option Route) → or_else (cond u None None) a ≡ a
no_delta true a = refl
no_delta false a = refl

behind_delta : (b : ℕ) (p : List ℕ) → IsText p → or_else (cond (bytes_eq (front (b ∷ p)) (codes "delta")) (first (end Delta) (back (b ∷ p))) None) (through (Some App) (under (47 ∷ []) id_rows) (front (b ∷ p)) (back (b ∷ p))) ≡ option_map kind (of_apps (front (b ∷ p) ∷ more (back (b ∷ p))))
behind_delta b p text = elim (split_on (b == 47)) [
  | inl e ↦ rw (e, parts_of p) refl
  | inr e ↦ elim (back_of p) [
    | inl none ↦ rw (e, none, end_here Delta) (delta_or_app (bytes_eq (b ∷ front p) (codes "delta")) (b ∷ front p))
    | inr (q, some) ↦ rw (e, some, end_slash Delta q) (no_delta (bytes_eq (b ∷ front p) (codes "delta")) (first (under (47 ∷ []) id_rows) (47 ∷ q)) ∙ on_slash id_rows q ∙ of_id b (front p) q (text_behind p q text some))
  ]
]

-- behind `/apps/`
of_app : (p : List ℕ) → IsText p → first apps_rows p ≡ option_map kind (of_apps (parts p))
of_app [] text = here apps_rows
of_app (b ∷ p) text =
    branch 100 (codes "elta") (end Delta) app_rows (b ∷ p) refl (end_cut Delta) refl refl
    ∙ ap (or_else (cond (bytes_eq (front (b ∷ p)) (codes "delta")) (first (end Delta) (back (b ∷ p))) None)) (param_on behind_app (Some Apps) b p text.0 ∙ named behind_app (under (47 ∷ []) id_rows) b p app_folder)
    ∙ behind_delta b p text.1
    ∙ ap (λ all. option_map kind (of_apps all)) (sym (parts_of (b ∷ p)))

-- behind `/apps`
of_apps_folder : (p : List ℕ) → IsText p → first behind_apps (back p) ≡ option_map kind (of_apps (more (back p)))
of_apps_folder p text = elim (back_of p) [
  | inl none ↦ rw none (here behind_apps)
  | inr (q, some) ↦ rw some (slash_on apps_rows (Some Apps) q ∙ of_app q (text_behind p q text some))
]

behind_name : (k : Route) (to : List ℕ → Place (List ℕ)) (c : ℕ) (s : List ℕ) → ((name : List ℕ) → kind (to name) ≡ k) → through (Some k) [] (front (c ∷ s)) (back (c ∷ s)) ≡ option_map kind (one_name to (front (c ∷ s) ∷ more (back (c ∷ s))))
behind_name k to c s is = elim (split_on (c == 47)) [
  | inl e ↦ rw (e, parts_of s) refl
  | inr e ↦ elim (back_of s) [
    | inl none ↦ rw (e, none) (ap (λ r. Some r) (sym (is (c ∷ front s))))
    | inr (q, some) ↦ rw (e, some, parts_of q) (seek-empty 0 (47 ∷ q))
  ]
]

-- a name alone
of_alone : (k : Route) (to : List ℕ → Place (List ℕ)) (p : List ℕ) → ((name : List ℕ) → kind (to name) ≡ k) → IsText p → first (alone k) p ≡ option_map kind (one_name to (parts p))
of_alone k to [] is text = here (alone k)
of_alone k to (c ∷ s) is text =
    param_on (end k) None c s text.0
    ∙ named_last k c s
    ∙ behind_name k to c s is
    ∙ ap (λ all. option_map kind (one_name to all)) (sym (parts_of (c ∷ s)))

of_folder : (k : Route) (to : List ℕ → Place (List ℕ)) (p : List ℕ) → ((name : List ℕ) → kind (to name) ≡ k) → IsText p → first (behind_folder k) (back p) ≡ option_map kind (one_name to (more (back p)))
of_folder k to p is text = elim (back_of p) [
  | inl none ↦ rw none (here (behind_folder k))
  | inr (q, some) ↦ rw some (slash_on (alone k) None q ∙ of_alone k to q is (text_behind p q text some))
]

-- the four folders
folder_words : (p : List ℕ) → first folder_rows p ≡
    cond (bytes_eq (front p) (codes "apps")) (first behind_apps (back p))
    (cond (bytes_eq (front p) (codes "instances")) (first (behind_folder Id) (back p))
    (cond (bytes_eq (front p) (codes "svips")) (first (behind_folder Svip) (back p))
    (cond (bytes_eq (front p) (codes "vips")) (first (behind_folder Vip) (back p)) None)))
folder_words p =
    fork 97 (codes "pps") behind_apps instances_rows p refl (slash_cut apps_rows (Some Apps)) refl refl refl
    ∙ ap (cond (bytes_eq (front p) (codes "apps")) (first behind_apps (back p))) (
    fork 105 (codes "nstances") (behind_folder Id) svips_rows p refl (slash_cut (alone Id) None) refl refl refl
    ∙ ap (cond (bytes_eq (front p) (codes "instances")) (first (behind_folder Id) (back p))) (
    fork 115 (codes "vips") (behind_folder Svip) vips_rows p refl (slash_cut (alone Svip) None) refl refl refl
    ∙ ap (cond (bytes_eq (front p) (codes "svips")) (first (behind_folder Svip) (back p))) (word (codes "vips") (behind_folder Vip) p refl (slash_cut (alone Vip) None))
    )
    )

four : (t u v w : Bool) (a b c d : Option (Place (List ℕ))) →
    cond t (option_map kind a) (cond u (option_map kind b) (cond v (option_map kind c) (cond w (option_map kind d) None)))
    ≡ option_map kind (cond t a (cond u b (cond v c (cond w d None))))
four true u v w a b c d = refl
four false true v w a b c d = refl
four false false true w a b c d = refl
four false false false true a b c d = refl
four false false false false a b c d = refl

of_folders : (p : List ℕ) → IsText p → first folder_rows p ≡ option_map kind (parts_place ([] ∷ parts p))
of_folders p text =
    folder_words p
    ∙ rw (parts_of p, of_apps_folder p text, of_folder Id (λ id. place.Id id) p (λ name. refl) text, of_folder Svip (λ svip. place.Svip svip) p (λ name. refl) text, of_folder Vip (λ vip. place.Vip vip) p (λ name. refl) text)
    (four (bytes_eq (front p) (codes "apps")) (bytes_eq (front p) (codes "instances")) (bytes_eq (front p) (codes "svips")) (bytes_eq (front p) (codes "vips")) (of_apps (more (back p))) (one_name (λ id. place.Id id) (more (back p))) (one_name (λ svip. place.Svip svip) (more (back p))) (one_name (λ vip. place.Vip vip) (more (back p))))

of_paths : (p : List ℕ) → IsText p → first all_rows p ≡ option_map kind (parts_place (parts p))
of_paths [] text = here all_rows
of_paths (b ∷ p) text = elim (split_on (b == 47)) [
  | inl e ↦ rw (e, same b 47 e) (slash_on folder_rows None p ∙ of_folders p text.1)
  | inr e ↦ rw (e, parts_of p) (slash_cut folder_rows None b p e)
]

-- the router's table, over any path, is the table of paths
pub routed : (p : List ℕ) → IsText p → map_key (λ r. r.value) (first table p) ≡ option_map kind (parts_place (parts p))
routed p text = sym (first-rename (λ r. r.value) table p) ∙ ap (λ rows. first rows p) same_rows ∙ of_paths p text
