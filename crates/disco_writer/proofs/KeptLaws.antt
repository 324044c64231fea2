-- How the kept texts follow the registry.
use Rattle.std.proofs.Common.{◌≡◌, ℕ, Bool, true, false, cond, List, take, Option, Some, None, refl, sym, ap, subst, ◌∙◌}
use Rattle.std.specs.FinMap.{FinMap, get, insert, remove, empty, get-insert, get-remove, get-empty}
use Rattle.std.specs.Option.{option_flatten, option_or, option_and_then}
use Rattle.disco_values.specs.Key.{key_cmp, same_key}
use Rattle.disco_values.specs.declared.form.Form.{Form}
use Rattle.disco_values.specs.declared.key.Key.{Key}
use Rattle.disco_history.proofs.Keys.{keys_total}
use Rattle.disco_history.proofs.Lasts.{last_by_parts}
use Rattle.disco_history.proofs.Sets.{get-delta, get-said}
use Rattle.disco_history.specs.Change.{Entry, key_of, last}
use Rattle.disco_history.specs.Mentions.{delta, mention_of}
use Rattle.disco_history.specs.Registry.{put_of, registry_of, mentions_of}
use Rattle.disco_writer.specs.Kept.{AreKept, AreTied, IsSameTexts, IsTextOf, StoredTexts, SetsText, none_kept, kept_text_at}

-- of an empty registry no texts are kept
abbrev pub NoneKeptLaw : Type 0
NoneKeptLaw = (f : Form) → AreKept f none_kept empty

-- empty places, and what is put next, change nothing
abbrev pub SameKeptLaw : Type 0
SameKeptLaw = (f : Form) (old new : StoredTexts) (held : FinMap key_cmp Entry) → IsSameTexts old new → AreKept f old held → AreKept f new held

-- with the text of a mention that is put they are those of the registry with it
abbrev pub PutKeptLaw : Type 0
PutKeptLaw = (f : Form) (old new : StoredTexts) (held : FinMap key_cmp Entry) (e : Entry) (text : List ℕ) → IsTextOf f text (mention_of e)
    → SetsText (key_of e) (Some text) old new → AreKept f old held → AreKept f new (insert held (key_of e) e)

-- without that of one that is taken out they are those of the registry without it
abbrev pub GoneKeptLaw : Type 0
GoneKeptLaw = (f : Form) (old new : StoredTexts) (held : FinMap key_cmp Entry) (k : Key) → SetsText k None old new → AreKept f old held → AreKept f new (remove held k)

-- what is kept of a key that a delta names is the text of its entry there where that puts, and nothing where it went
abbrev pub DeltaKeptLaw : Type 0
DeltaKeptLaw = (f : Form) (v : StoredTexts) (h : List Entry) (base : ℕ) (q : Key) (e : Entry) → AreKept f v (mentions_of h (registry_of h))
    → get (delta h base) q ≡ Some e → AreTied f (kept_text_at v q) (put_of e)

-- what is tied stays tied where both sides are equal to others
moved : (f : Form) (s t : Option (List ℕ)) (x y : Option Entry) → s ≡ t → x ≡ y → AreTied f t y → AreTied f s x
moved f s t x y e g tied = subst (λ (z : Option Entry). AreTied f s z) (sym g) (subst (λ (o : Option (List ℕ)). AreTied f o y) (sym e) tied)

either : (f : Form) (b : Bool) (s t : Option (List ℕ)) (x y : Option Entry) → AreTied f s x → AreTied f t y → AreTied f (cond b s t) (cond b x y)
either f true s t x y first second = first
either f false s t x y first second = second

pub none_kept_law : NoneKeptLaw
none_kept_law f k = moved f (kept_text_at none_kept k) None (get empty k) None (ap option_flatten (get-empty key_cmp k)) (get-empty key_cmp k) tt

pub same_kept_law : SameKeptLaw
same_kept_law f old new held same kept k = moved f (kept_text_at new k) (kept_text_at old k) (get held k) (get held k) (same k) refl (kept k)

pub put_kept_law : PutKeptLaw
put_kept_law f old new held e text is sets kept k =
    moved f (kept_text_at new k) (cond (same_key k (key_of e)) (Some text) (kept_text_at old k)) (get (insert held (key_of e) e) k) (cond (same_key k (key_of e)) (Some e) (get held k)) (sets k) (get-insert keys_total held (key_of e) e k)
    (either f (same_key k (key_of e)) (Some text) (kept_text_at old k) (Some e) (get held k) is (kept k))

pub gone_kept_law : GoneKeptLaw
gone_kept_law f old new held q sets kept k =
    moved f (kept_text_at new k) (cond (same_key k q) None (kept_text_at old k)) (get (remove held q) k) (cond (same_key k q) None (get held k)) (sets k) (get-remove keys_total held q k)
    (either f (same_key k q) None (kept_text_at old k) None (get held k) tt (kept k))

pub delta_kept_law : DeltaKeptLaw
delta_kept_law f v h base q e kept there =
    let late : last h q ≡ Some e = last_by_parts h base q ∙ ap (λ (o : Option Entry). option_or o (last (take base h) q)) (sym (get-delta h base q) ∙ there) in
    let held : get (mentions_of h (registry_of h)) q ≡ put_of e = get-said h q ∙ ap (λ (o : Option Entry). option_and_then put_of o) late in
    subst (λ (o : Option Entry). AreTied f (kept_text_at v q) o) held (kept q)
