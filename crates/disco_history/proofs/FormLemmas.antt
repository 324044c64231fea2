-- The form goes through copies, overlays, restrictions and hash codes.
use Rattle.std.proofs.Common.{◌≡◌, ℕ, ◌+◌, Bool, true, false, cond, List, [], ◌∷◌, map, Option, Some, None, fold, option_map, option_and_then, refl, sym, ap, ◌∙◌}
use Rattle.std.specs.FinMap.{FinMap, get, keys, same_map}
use Rattle.disco_values.specs.Key.{key_cmp}
use Rattle.disco_instance.specs.Row.{Row}
use Rattle.disco_values.specs.Status.{is_same}
use Rattle.disco_values.specs.declared.action.Action.{Action}
use Rattle.disco_values.specs.declared.action.Action.TheVariants.{Added, Modified, Deleted}
use Rattle.disco_values.specs.declared.form.Form.{Form}
use Rattle.disco_values.specs.declared.form.Form.TheVariants.{Full, Compact}
use Rattle.disco_values.specs.declared.key.Key.{Key}
use Rattle.disco_values.specs.declared.status.Status.{Status}
use Rattle.disco_history.specs.Change.{Entry, key_of, last}
use Rattle.disco_history.specs.Forms.{formed, in_form, mention_in}
use Rattle.disco_history.specs.Hash.{count_of, hash, hash_by}
use Rattle.disco_history.specs.Laws.{FormLaw}
use Rattle.disco_instance.specs.Mention.{Mention}
use Rattle.disco_history.specs.Mentions.{copied, known, overlay}
use Rattle.disco_history.specs.Query.{Selector, all, of_app, of_vip, of_secure_vip, of_key, asks_for, restrict}
use Rattle.disco_history.specs.Registry.{put_of}
use Rattle.disco_history.proofs.Keys.{keys_total, exact_keys, get-chosen}
use Rattle.disco_history.proofs.Lasts.{last_mapped}
use Rattle.disco_history.proofs.Sets.{asked_of, first_of, get-overlay, get-reg, get-restrict, not_there, overlaid_by}

abbrev pub entry_in : Form → Entry → Entry
entry_in f e = (formed f e.0, e.1)

abbrev formed_at : Form → Option Row → Option Row
formed_at f o = option_map (formed f) o

pub same_keys : (f : Form) (e : Entry) → key_of (entry_in f e) ≡ key_of e
same_keys Full e = refl
same_keys Compact e = refl

pub get-in_form : (f : Form) (s : FinMap key_cmp Row) (q : Key) → get (in_form f s) q ≡ formed_at f (get s q)
get-in_form f s q = get-chosen (λ k. formed_at f (get s k)) q (keys s) (λ e. ap (formed_at f) (not_there s q e))

-- ---- overlays

known_formed : (f : Form) (ms : List Mention) → known (map (mention_in f) ms) ≡ map (entry_in f) (known ms)
known_formed f [] = refl
known_formed f ((r, None) ∷ ms) = known_formed f ms
known_formed f ((r, Some a) ∷ ms) = ap (λ es. (formed f r, a) ∷ es) (known_formed f ms)

kept_formed : (f : Form) (r : Row) (a : Action) (x : Option Row) → overlaid_by (formed_at f x) (Some (formed f r, a)) ≡ formed_at f (overlaid_by x (Some (r, a)))
kept_formed f r Added x = refl
kept_formed f r Modified x = refl
kept_formed f r Deleted x = refl

overlaid_formed : (f : Form) (x : Option Row) (o : Option Entry) → overlaid_by (formed_at f x) (option_map (entry_in f) o) ≡ formed_at f (overlaid_by x o)
overlaid_formed f x None = refl
overlaid_formed f x (Some (r, a)) = kept_formed f r a x

pub overlay_formed : (f : Form) (s : FinMap key_cmp Row) (ms : List Mention) → overlay (in_form f s) (map (mention_in f) ms) ≡ in_form f (overlay s ms)
overlay_formed f s ms = same_map keys_total exact_keys _ _ (λ q.
    get-overlay (in_form f s) (map (mention_in f) ms) q
    ∙ ap (λ es. overlaid_by (get (in_form f s) q) (last es q)) (known_formed f ms)
    ∙ ap (overlaid_by (get (in_form f s) q)) (last_mapped (entry_in f) (same_keys f) (known ms) q)
    ∙ ap (λ x. overlaid_by x (option_map (entry_in f) (last (known ms) q))) (get-in_form f s q)
    ∙ overlaid_formed f (get s q) (last (known ms) q)
    ∙ ap (formed_at f) (sym (get-overlay s ms q))
    ∙ sym (get-in_form f (overlay s ms) q))

-- ---- copies

abbrev added : Mention → Entry
added m = (m.0, Added)

added_formed : (f : Form) (ms : List Mention) → map added (map (mention_in f) ms) ≡ map (entry_in f) (map added ms)
added_formed f [] = refl
added_formed f (m ∷ ms) = ap (λ r. entry_in f (added m) ∷ r) (added_formed f ms)

put_formed : (f : Form) (r : Row) (a : Action) → first_of (option_and_then put_of (Some (formed f r, a))) ≡ formed_at f (first_of (option_and_then put_of (Some (r, a))))
put_formed f r Added = refl
put_formed f r Modified = refl
put_formed f r Deleted = refl

puts_formed : (f : Form) (o : Option Entry) → first_of (option_and_then put_of (option_map (entry_in f) o)) ≡ formed_at f (first_of (option_and_then put_of o))
puts_formed f None = refl
puts_formed f (Some (r, a)) = put_formed f r a

pub copied_formed : (f : Form) (ms : List Mention) → copied (map (mention_in f) ms) ≡ in_form f (copied ms)
copied_formed f ms = same_map keys_total exact_keys _ _ (λ q.
    get-reg (map added (map (mention_in f) ms)) q
    ∙ ap (λ es. first_of (option_and_then put_of (last es q))) (added_formed f ms)
    ∙ ap (λ o. first_of (option_and_then put_of o)) (last_mapped (entry_in f) (same_keys f) (map added ms) q)
    ∙ puts_formed f (last (map added ms) q)
    ∙ ap (formed_at f) (sym (get-reg (map added ms) q))
    ∙ sym (get-in_form f (copied ms) q))

-- ---- restrictions

asks_alike : (f : Form) (a : Selector) (r : Row) → asks_for a (formed f r) ≡ asks_for a r
asks_alike Full a r = refl
asks_alike Compact all r = refl
asks_alike Compact (of_app name) r = refl
asks_alike Compact (of_vip vip) r = refl
asks_alike Compact (of_secure_vip vip) r = refl
asks_alike Compact (of_key k) r = refl

asked_formed : (f : Form) (a : Selector) (o : Option Row) → asked_of a (formed_at f o) ≡ formed_at f (asked_of a o)
asked_formed f a None = refl
asked_formed f a (Some r) = ap (λ b. cond b (Some (formed f r)) None) (asks_alike f a r) ∙ one (asks_for a r)
  where
    one : (b : Bool) → cond b (Some (formed f r)) None ≡ formed_at f (cond b (Some r) None)
    one true = refl
    one false = refl

restrict_formed : (f : Form) (s : FinMap key_cmp Row) (a : Selector) → restrict (in_form f s) a ≡ in_form f (restrict s a)
restrict_formed f s a = same_map keys_total exact_keys _ _ (λ q.
    get-restrict (in_form f s) a q
    ∙ ap (asked_of a) (get-in_form f s q)
    ∙ asked_formed f a (get s q)
    ∙ ap (formed_at f) (sym (get-restrict s a q))
    ∙ sym (get-in_form f (restrict s a) q))

-- ---- hash codes

status_formed : (f : Form) (r : Row) → (formed f r).status ≡ r.status
status_formed Full r = refl
status_formed Compact r = refl

-- the number so far and one more where the status is the record's
abbrev counted : Status → ℕ → Row → ℕ
counted status n r = n + cond (is_same r.status status) 1 0

count_from : (f : Form) (rows : List Row) (status : Status) (n : ℕ) → fold (counted status) n (map (formed f) rows) ≡ fold (counted status) n rows
count_from f [] status n = refl
count_from f (r ∷ rows) status n =
    count_from f rows status (counted status n (formed f r)) ∙ ap (λ (t : Status). fold (counted status) (n + cond (is_same t status) 1 0) rows) (status_formed f r)

count_formed : (f : Form) (rows : List Row) (status : Status) → count_of (map (formed f) rows) status ≡ count_of rows status
count_formed f rows status = count_from f rows status 0

hash_formed : (f : Form) (rows : List Row) → hash (map (formed f) rows) ≡ hash rows
hash_formed f rows = ap hash_by (λ i status. count_formed f rows status i)

pub form_law : FormLaw
form_law = record { copied = copied_formed; overlay = overlay_formed; restrict = restrict_formed; hash = hash_formed }
