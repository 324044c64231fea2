-- Entries one after another make the overlay, and the rows of a copy.
use Rattle.std.proofs.Common.{◌≡◌, Bool, true, false, cond, List, [], ◌∷◌, map, Option, Some, None, option_map, option_and_then, refl, sym, ap, ◌∙◌}
use Rattle.std.specs.FinMap.{FinMap, empty, get, get-empty, get-insert, get-remove, keys, len, same_map, values}
use Rattle.std.specs.Option.{option_or}
use Rattle.disco_values.specs.Key.{key_cmp, same_key}
use Rattle.disco_instance.specs.Row.{Row}
use Rattle.disco_values.specs.declared.action.Action.TheVariants.{Added, Modified, Deleted}
use Rattle.disco_values.specs.declared.key.Key.{Key}
use Rattle.disco_history.specs.Change.{Entry, key_of, last}
use Rattle.disco_history.specs.Held.{record_at}
use Rattle.disco_instance.specs.Mention.{Mention}
use Rattle.disco_history.specs.Mentions.{copied, known, overlay}
use Rattle.disco_history.specs.Registry.{put_of}
use Rattle.disco_history.proofs.Keys.{keys_total, exact_keys, get-chosen}
use Rattle.disco_history.proofs.Sets.{get-overlay, get-reg, len_first, not_there, values_first, overlaid_by}
use Rattle.disco_client.specs.Copies.{rows_by_key}
use Rattle.disco_client.specs.Steps.{put_or_taken, after_all, with_key}

abbrev first_of : Option Entry → Option Row
first_of o = option_map (λ e. e.0) o

pub get-rows_in : (m : FinMap key_cmp Entry) (q : Key) → get (rows_by_key m) q ≡ record_at m q
get-rows_in m q = get-chosen (record_at m) q (keys m) (λ e. ap first_of (not_there m q e))

pub values-rows_in : (m : FinMap key_cmp Entry) → values (rows_by_key m) ≡ map (λ e. e.0) (values m)
values-rows_in m = values_first (rows_by_key m) m (get-rows_in m)

pub len-rows_in : (m : FinMap key_cmp Entry) → len (rows_by_key m) ≡ len m
len-rows_in m = len_first (rows_by_key m) m (get-rows_in m)

pub rows-empty : (m : FinMap key_cmp Entry) → m ≡ empty → rows_by_key m ≡ empty
rows-empty m e = same_map keys_total exact_keys _ _ (λ q.
    get-rows_in m q ∙ ap (λ x. record_at x q) e ∙ ap first_of (get-empty key_cmp q) ∙ sym (get-empty key_cmp q))

-- ---- one entry

found_after : (m : FinMap key_cmp Entry) (k : Key) (o : Option Entry) (q : Key) → get (with_key m k o) q ≡ cond (same_key q k) o (get m q)
found_after m k None q = get-remove keys_total m k q
found_after m k (Some e) q = get-insert keys_total m k e q

put_row : (e : Entry) (x : Option Row) → first_of (put_of e) ≡ overlaid_by x (Some e)
put_row (r, Added) x = refl
put_row (r, Modified) x = refl
put_row (r, Deleted) x = refl

one_after : (b : Bool) (e : Entry) (o : Option Entry) → first_of (cond b (put_of e) o) ≡ overlaid_by (first_of o) (cond b (Some e) None)
one_after true e o = put_row e (first_of o)
one_after false e o = refl

row_after : (m : FinMap key_cmp Entry) (e : Entry) (q : Key) → record_at (put_or_taken m e) q ≡ overlaid_by (record_at m q) (cond (same_key q (key_of e)) (Some e) None)
row_after m e q = ap first_of (found_after m (key_of e) (put_of e) q) ∙ one_after (same_key q (key_of e)) e (get m q)

-- ---- one after another

-- of two entries the later one counts
later : (x y : Option Row) (a b : Option Entry) → x ≡ overlaid_by y b → overlaid_by x a ≡ overlaid_by y (option_or a b)
later x y None b e = e
later x y (Some c) b e = refl

pub row_after_all : (es : List Entry) (m : FinMap key_cmp Entry) (q : Key) → record_at (after_all m es) q ≡ overlaid_by (record_at m q) (last es q)
row_after_all [] m q = refl
row_after_all (e ∷ es) m q =
    row_after_all es (put_or_taken m e) q
    ∙ later (record_at (put_or_taken m e) q) (record_at m q) (last es q) (cond (same_key q (key_of e)) (Some e) None) (row_after m e q)

pub rows-overlay : (m : FinMap key_cmp Entry) (ms : List Mention) → rows_by_key (after_all m (known ms)) ≡ overlay (rows_by_key m) ms
rows-overlay m ms = same_map keys_total exact_keys _ _ (λ q.
    get-rows_in (after_all m (known ms)) q
    ∙ row_after_all (known ms) m q
    ∙ ap (λ x. overlaid_by x (last (known ms) q)) (sym (get-rows_in m q))
    ∙ sym (get-overlay (rows_by_key m) ms q))

nothing_before : (o : Option Entry) → overlaid_by None o ≡ first_of (option_and_then put_of o)
nothing_before None = refl
nothing_before (Some (r, Added)) = refl
nothing_before (Some (r, Modified)) = refl
nothing_before (Some (r, Deleted)) = refl

pub rows-copied : (ms : List Mention) → rows_by_key (after_all empty (map (λ m. (m.0, Added)) ms)) ≡ copied ms
rows-copied ms = same_map keys_total exact_keys _ _ (λ q.
    let es = map (λ (m : Mention). (m.0, Added)) ms in
    get-rows_in (after_all empty es) q
    ∙ row_after_all es empty q
    ∙ ap (λ o. overlaid_by (first_of o) (last es q)) (get-empty key_cmp q)
    ∙ nothing_before (last es q)
    ∙ sym (get-reg es q))
