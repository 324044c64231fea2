-- The texts of what is held, in both forms.
use Rattle.std.specs.Prelude.{◌≡◌, ℕ, List, Option, Some, None, IsSome}
use Rattle.std.specs.FinMap.{FinMap, get}
use Rattle.disco_values.specs.Key.{key_cmp}
use Rattle.disco_values.specs.declared.form.Form.{Form}
use Rattle.disco_values.specs.declared.form.Form.TheVariants.{Compact, Full}
use Rattle.disco_values.specs.declared.key.Key.{Key}
use Rattle.disco_history.specs.Change.{Entry, key_of}
use Rattle.disco_history.specs.Mentions.{mention_of}
use Rattle.disco_history.specs.Registry.{put_of}
use Rattle.disco_writer.specs.Kept.{AreKept, HasNoEmpty, IsReadyFor, IsSameTexts, IsTextOf, StoredTexts, kept_text_at, none_kept}

pub record KeptTexts : Type 0 where
  pub full : StoredTexts
  pub compact : StoredTexts

abbrev pub none_written : KeptTexts
none_written = record { full = none_kept; compact = none_kept }

abbrev pub kept_in : Form → KeptTexts → StoredTexts
kept_in Full w = w.full
kept_in Compact w = w.compact

-- exactly the texts of what is held are kept, in both forms
pub record AreWritten (w : KeptTexts) (held : FinMap key_cmp Entry) : Type 0 where
  pub full : AreKept Full w.full held
  pub compact : AreKept Compact w.compact held

-- the key has its texts, in both forms
abbrev pub HasTextsAt : KeptTexts → Key → Type 0
HasTextsAt w k = IsSome (kept_text_at w.full k) × IsSome (kept_text_at w.compact k)

-- the same but for places and for what is put next, which no answer shows
pub record IsSameWritten (old new : KeptTexts) : Type 0 where
  pub full : IsSameTexts old.full new.full
  pub compact : IsSameTexts old.compact new.compact

-- the text of that mention in a form can be put without memory
pub record HasText (f : Form) (v : StoredTexts) (e : Entry) : Type 0 where
  pub text : List ℕ
  pub ready : IsReadyFor v (key_of e) text
  pub is : IsTextOf f text (mention_of e)

-- the texts of what is put, if something is, can be put
abbrev pub HasTexts : KeptTexts → Option Entry → Type 0
HasTexts w None = Unit {0}
HasTexts w (Some e) = HasText Full w.full e × HasText Compact w.compact e

-- ... of what a change puts, if there is one
abbrev pub HasTextsFor : KeptTexts → Option Entry → Type 0
HasTextsFor w None = Unit {0}
HasTextsFor w (Some c) = HasTexts w (put_of c)

-- no place of a text is empty
abbrev pub HasNoEmptyText : KeptTexts → Type 0
HasNoEmptyText w = HasNoEmpty w.full.places × HasNoEmpty w.compact.places

-- no place of a text is empty that wasn't before
abbrev pub OpensNone : StoredTexts → StoredTexts → Type 0
OpensNone old new = (q : Key) → get new.places q ≡ Some None → get old.places q ≡ Some None

abbrev pub OpensNoText : KeptTexts → KeptTexts → Type 0
OpensNoText old new = OpensNone old.full new.full × OpensNone old.compact new.compact
