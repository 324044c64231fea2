-- How the texts follow what is held.
use Rattle.std.proofs.Common.{◌≡◌, Some, None, Option, sym, subst}
use Rattle.std.specs.FinMap.{FinMap, empty, insert, remove}
use Rattle.disco_values.specs.Key.{key_cmp}
use Rattle.disco_values.specs.declared.form.Form.{Form}
use Rattle.disco_values.specs.declared.form.Form.TheVariants.{Compact, Full}
use Rattle.disco_values.specs.declared.key.Key.{Key}
use Rattle.disco_history.specs.Change.{Entry, key_of}
use Rattle.disco_history.specs.Registry.{put_of}
use Rattle.disco_registry.specs.Commit.{held_after}
use Rattle.disco_writer.specs.Kept.{AreKept, IsReadyFor, StoredTexts, SetsText}
use Rattle.disco_writer.proofs.KeptLaws.{gone_kept_law, none_kept_law, put_kept_law, same_kept_law}
use Rattle.disco_core.specs.Written.{AreWritten, HasNoEmptyText, HasText, HasTexts, IsSameWritten, OpensNoText, KeptTexts, kept_in, none_written}

pub none_are : (w : KeptTexts) (m : FinMap key_cmp Entry) → w ≡ none_written → m ≡ empty → AreWritten w m
none_are w m is none =
    subst (λ (x : KeptTexts). AreWritten x m) (sym is) (subst (λ (n : FinMap key_cmp Entry). AreWritten none_written n) (sym none) record { full = none_kept_law Full; compact = none_kept_law Compact })

pub same_are : (old new : KeptTexts) (m : FinMap key_cmp Entry) → IsSameWritten old new → AreWritten old m → AreWritten new m
same_are old new m same are = record { full = same_kept_law Full old.full new.full m same.full are.full; compact = same_kept_law Compact old.compact new.compact m same.compact are.compact }

pub in_form_are : (f : Form) (w : KeptTexts) (m : FinMap key_cmp Entry) → AreWritten w m → AreKept f (kept_in f w) m
in_form_are Full w m are = are.full
in_form_are Compact w m are = are.compact

put_is : (f : Form) (old new : StoredTexts) (e : Entry) (m : FinMap key_cmp Entry) → HasText f old e → ((k : Key) (t : _) → IsReadyFor old k t → SetsText k (Some t) old new) → AreKept f old m → AreKept f new (insert m (key_of e) e)
put_is f old new e m has sets kept = put_kept_law f old new m e has.text has.is (sets (key_of e) has.text has.ready) kept

pub put_are : (old new : KeptTexts) (e : Entry) (m : FinMap key_cmp Entry) → HasTexts old (Some e) → ((k : Key) (t : _) → IsReadyFor old.full k t → SetsText k (Some t) old.full new.full) → ((k : Key) (t : _) → IsReadyFor old.compact k t → SetsText k (Some t) old.compact new.compact)
    → AreWritten old m → AreWritten new (insert m (key_of e) e)
put_are old new e m has full compact are = record { full = put_is Full old.full new.full e m has.0 full are.full; compact = put_is Compact old.compact new.compact e m has.1 compact are.compact }

pub gone_are : (old new : KeptTexts) (k : Key) (m : FinMap key_cmp Entry) → SetsText k None old.full new.full → SetsText k None old.compact new.compact → AreWritten old m → AreWritten new (remove m k)
gone_are old new k m full compact are = record { full = gone_kept_law Full old.full new.full m k full are.full; compact = gone_kept_law Compact old.compact new.compact m k compact are.compact }

-- what is held once a change is made
abbrev at : FinMap key_cmp Entry → Entry → Option Entry → FinMap key_cmp Entry
at m d None = remove m (key_of d)
at m d (Some e) = insert m (key_of d) e

pub put_follows : (d : Entry) (old new : KeptTexts) → put_of d ≡ Some d → HasTexts old (put_of d) → ((e : Entry) (m : FinMap key_cmp Entry) → HasTexts old (Some e) → AreWritten old m → AreWritten new (insert m (key_of e) e))
    → (m : FinMap key_cmp Entry) → AreWritten old m → AreWritten new (held_after m (Some d))
put_follows d old new is has put m are = subst (λ (o : Option Entry). AreWritten new (at m d o)) (sym is) (put d m (subst (λ (o : Option Entry). HasTexts old o) is has) are)

pub gone_follows : (d : Entry) (k : Key) (old new : KeptTexts) → put_of d ≡ None → k ≡ key_of d → ((m : FinMap key_cmp Entry) → AreWritten old m → AreWritten new (remove m k))
    → (m : FinMap key_cmp Entry) → AreWritten old m → AreWritten new (held_after m (Some d))
gone_follows d k old new is key take m are = subst (λ (o : Option Entry). AreWritten new (at m d o)) (sym is) (subst (λ (q : Key). AreWritten new (remove m q)) key (take m are))

-- where no place stands empty none was opened
pub opens_none : (old new : KeptTexts) → HasNoEmptyText new → OpensNoText old new
opens_none old new none = (λ q is. absurd (none.0 q is), λ q is. absurd (none.1 q is))
