-- Laws of the definitions.
use Rattle.std.specs.Prelude.{◌≡◌, ◌↔◌, ◌≤◌, ℕ, false, List, [], ◌∷◌, ◌++◌, length, map, option_map}
use Rattle.std.specs.FinMap.{FinMap, get, values}
use Rattle.disco_values.specs.Key.{key_cmp}
use Rattle.disco_instance.specs.Row.{Row}
use Rattle.disco_values.specs.declared.form.Form.{Form}
use Rattle.disco_values.specs.declared.status.Status.{Status}
use Rattle.disco_history.specs.Change.{Entry, prefix, key_of}
use Rattle.disco_history.specs.Forms.{formed, in_form, mention_in}
use Rattle.disco_history.specs.Hash.{hash, count_of}
use Rattle.disco_instance.specs.Mention.{Mention}
use Rattle.disco_history.specs.Mentions.{copied, delta, mention_of, overlay}
use Rattle.disco_history.specs.Query.{Selector, is_named, restrict}
use Rattle.disco_history.specs.Registry.{put_of, registry_of, mentions_of}

-- the overlay law: a delta from base o turns a version that isn't older than o into the whole
abbrev pub OverlayLaw : Type 0
OverlayLaw = (h : List Entry) (o a : ℕ) → o ≤ a → a ≤ length h → overlay (registry_of (prefix h a)) (map mention_of (values (delta h o))) ≡ registry_of h

-- the mentions of a registry make a copy of it
abbrev pub CopyLaw : Type 0
CopyLaw = (h : List Entry) → copied (map mention_of (values (mentions_of h (registry_of h)))) ≡ registry_of h

-- the hash law: equal hash codes say that each status has equal numbers, and no more
abbrev pub HashLaw : Type 0
HashLaw = (s t : List Row) → (hash s ≡ hash t) ↔ ((status : Status) → count_of s status ≡ count_of t status)

-- the form law: the form goes through copy, overlay, restriction and hash code unchanged
pub record FormLaw : Type 0 where
  pub copied : (f : Form) (ms : List Mention) → copied (map (mention_in f) ms) ≡ in_form f (copied ms)
  pub overlay : (f : Form) (s : FinMap key_cmp Row) (ms : List Mention) → overlay (in_form f s) (map (mention_in f) ms) ≡ in_form f (overlay s ms)
  pub restrict : (f : Form) (s : FinMap key_cmp Row) (q : Selector) → restrict (in_form f s) q ≡ in_form f (restrict s q)
  pub hash : (f : Form) (rows : List Row) → hash (map (formed f) rows) ≡ hash rows

-- the law of untouched documents: a change leaves the records, and their mentions, of each query that it doesn't name
abbrev pub UntouchedLaw : Type 0
UntouchedLaw = (h : List Entry) (c : Entry) (a : Selector) → is_named (get (registry_of h) (key_of c)) (option_map (λ e. e.0) (put_of c)) a ≡ false
    → let now = h ++ c ∷ [] in (restrict (registry_of now) a ≡ restrict (registry_of h) a)
    × (mentions_of now (restrict (registry_of now) a) ≡ mentions_of h (restrict (registry_of h) a))
