-- The entries of metadata, one after another.
use Rattle.std.proofs.Common.{◌≡◌, ℕ, ◌+◌, ◌<◌, ◌≤◌, Bool, true, false, List, [], ◌∷◌, ◌++◌, codes, drop, get_or, length, Result, OnOk, refl, ap, sym, ◌∙◌, append_assoc, append-nil}
use Rattle.std.proofs.lemmas.List.{drop_all, drop_more}
use Rattle.std.proofs.lemmas.Str.{IsUtf8-nil}
use Rattle.json.specs.Print.{print, print_from, quoted}
use Rattle.json.specs.Tree.{members_tokens}
use Rattle.serde_json.specs.Written.{members_outline}
use Rattle.disco_writer.specs.Fields.{metadata_members}
use Rattle.disco_writer.specs.Groups.{AppendsUtf8, entries_text, entry_member}
use Rattle.disco_writer.proofs.AppendedTexts.{before, both, renamed}

one_entry : (name text rest : List ℕ) → (quoted name ++ (codes ":" ++ quoted text)) ++ rest ≡ (quoted name ++ codes ":") ++ (quoted text ++ rest)
one_entry name text rest = append_assoc (quoted name) (codes ":" ++ quoted text) rest ∙ sym (append_assoc (quoted name) (codes ":") (quoted text ++ rest))

entry_first : (later : Bool) (e : List ℕ × List ℕ) (es : List (List ℕ × List ℕ)) → entry_member later e.0 e.1 ++ entries_text true es ≡ entries_text later (e ∷ es)
unfolding print_from
entry_first true e es = ap (λ (s : List ℕ). 44 ∷ s) (one_entry e.0 e.1 (entries_text true es))
entry_first false e es = one_entry e.0 e.1 (entries_text true es)

entries_end : (later : Bool) → entries_text later [] ≡ codes "}"
unfolding print_from
entries_end true = refl
entries_end false = refl

-- these entries are still to come
pub record EntriesLeft (start now : List ℕ) (later : Bool) (left all : List (List ℕ × List ℕ)) : Type 0 where
  pub done : List ℕ
  pub appends : AppendsUtf8 start now done
  pub total : done ++ entries_text later left ≡ entries_text false all

pub all_left : (start : List ℕ) (left all : List (List ℕ × List ℕ)) → left ≡ all → EntriesLeft start start false left all
all_left start left all is = record { done = []; appends = record { items = sym (append-nil start); utf8 = IsUtf8-nil }; total = ap (entries_text false) is }

pub one_less : (start old now : List ℕ) (later : Bool) (es all : List (List ℕ × List ℕ)) (i : ℕ) (e : List ℕ × List ℕ) → i < length es → e ≡ get_or es i e → EntriesLeft start old later (drop i es) all
    → AppendsUtf8 old now (entry_member later e.0 e.1) → EntriesLeft start now true (drop (i + 1) es) all
one_less start old now later es all i e inside is left adds =
    let text = entry_member later e.0 e.1 in
    let next : drop i es ≡ e ∷ drop (i + 1) es = drop_more es i e inside ∙ ap (λ (x : List ℕ × List ℕ). x ∷ drop (i + 1) es) (sym is) in
    record {
      done = left.done ++ text;
      appends = both left.appends adds;
      total = append_assoc left.done text (entries_text true (drop (i + 1) es))
          ∙ ap (λ (s : List ℕ). left.done ++ s) (entry_first later e (drop (i + 1) es) ∙ ap (entries_text later) (sym next))
          ∙ left.total;
    }

pub none_left : {E : Type 0} (r : Result (Unit {0}) E) (start old now : List ℕ) (later : Bool) (es all : List (List ℕ × List ℕ)) (i : ℕ) → length es ≤ i → EntriesLeft start old later (drop i es) all
    → OnOk r (AppendsUtf8 old now (codes "}")) → OnOk r (AppendsUtf8 start now (entries_text false all))
none_left r start old now later es all i past left adds =
    let end : entries_text later (drop i es) ≡ codes "}" = ap (entries_text later) (drop_all i es past) ∙ entries_end later in
    renamed r start now (ap (λ (s : List ℕ). left.done ++ s) (sym end) ∙ left.total) (before r now (codes "}") left.appends adds)

-- behind them no member of the group comes
pub entries_last : (es : List (List ℕ × List ℕ)) → entries_text false es ≡ print (members_tokens (members_outline (metadata_members es)) ++ [])
entries_last es = ap print (sym (append-nil (members_tokens (members_outline (metadata_members es)))))
