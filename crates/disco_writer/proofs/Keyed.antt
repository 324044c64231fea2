-- A walk meets the texts of their keys.
use Rattle.std.proofs.Common.{◌≡◌, List, [], ◌∷◌, map, Some, sym, ap, ◌∙◌}
use Rattle.std.proofs.lemmas.List.Elements.{All-from_recursion}
use Rattle.std.specs.List.{AllByRecursion}
use Rattle.std.specs.Option.{option_flatten}
use Rattle.std.specs.FinMap.{entries, entries_sorted, get-entries}
use Rattle.disco_values.specs.Key.{key_cmp}
use Rattle.std.specs.FinMap.Entries.{find}
use Rattle.disco_values.specs.declared.key.Key.{Key}
use Rattle.disco_history.proofs.PlaceLemmas.{find_filled, sorted_filled}
use Rattle.disco_history.proofs.Sorted.{Own, own}
use Rattle.disco_history.specs.Places.{filled}
use Rattle.disco_writer.specs.InOrder.{AreTheirs, KeyedText, keyed_text}
use Rattle.disco_writer.specs.Kept.{StoredTexts, kept_text_at}
use Rattle.disco_writer.proofs.Walk.{present, same_text}

-- what the texts show under a key is what is found there
shown_at : (v : StoredTexts) (k : Key) → kept_text_at v k ≡ find key_cmp k (present (entries v.places))
shown_at v k = ap option_flatten (get-entries v.places k) ∙ sym (find_filled (λ t. t) k (entries v.places) (entries_sorted v.places) ∙ same_text _)

each_theirs : (v : StoredTexts) (es : List KeyedText) → Own (λ q. find key_cmp q (present (entries v.places))) (map keyed_text es) → AllByRecursion (λ e. kept_text_at v (keyed_text e).0 ≡ Some e.2.now) es
each_theirs v [] own = tt
each_theirs v (e ∷ es) own = (shown_at v (keyed_text e).0 ∙ own.0, each_theirs v es own.1)

pub are_theirs : (v : StoredTexts) (es : List KeyedText) → map keyed_text es ≡ filled (λ t. t) (entries v.places) → AreTheirs v es
are_theirs v es is =
    let ps = present (entries v.places) in
    let all = own ps (sorted_filled (λ t. t) (entries v.places) (entries_sorted v.places)) in
    All-from_recursion (λ (e : KeyedText). kept_text_at v (keyed_text e).0 ≡ Some e.2.now) es (each_theirs v es (rw is all))
