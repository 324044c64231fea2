-- One note more: what it adds to the changes, to the edition and to what was copied, and when the list stays legal.
use Rattle.std.proofs.Common.{◌≡◌, ℕ, List, [], ◌∷◌, ◌++◌, fold, map, append-nil, append_assoc, refl, sym, ap, subst, ◌∙◌}
use Rattle.std.proofs.lemmas.List.Sums.{fold-append}
use Rattle.std.specs.FinMap.{empty, insert, remove}
use Rattle.disco_history.specs.Change.{Entry}
use Rattle.disco_values.specs.declared.doc_key.DocKey.{DocKey}
use Rattle.disco_cache.specs.declared.payload.Payload.{Payload}
use Rattle.disco_hub.specs.Press.{Fits, IsLegal, Note, begin, change, changes_in, copied_in, doc, edit_anew, gone, noted}

-- ---- changes

pub changes_one : (l : List Note) (n : Note) → changes_in (l ++ n ∷ []) ≡ noted (changes_in l) n
changes_one l n = fold-append noted [] l (n ∷ [])

changes_after : (cs h : List Entry) → fold noted h (map change cs) ≡ h ++ cs
changes_after [] h = sym (append-nil h)
changes_after (c ∷ cs) h = changes_after cs (h ++ c ∷ []) ∙ append_assoc h (c ∷ []) cs

pub changes_more : (l : List Note) (cs : List Entry) → changes_in (l ++ map change cs) ≡ changes_in l ++ cs
changes_more l cs = fold-append noted [] l (map change cs) ∙ changes_after cs (changes_in l)

pub changes-begin : (l : List Note) → changes_in (l ++ begin ∷ []) ≡ changes_in l
changes-begin l = changes_one l begin

pub changes-doc : (l : List Note) (d : Payload) → changes_in (l ++ doc d ∷ []) ≡ changes_in l
changes-doc l d = changes_one l (doc d)

pub changes-gone : (l : List Note) (k : DocKey) → changes_in (l ++ gone k ∷ []) ≡ changes_in l
changes-gone l k = changes_one l (gone k)

-- ---- the edition

-- ---- what was copied since the last round began

copied_one : (l : List Note) (n : Note) → copied_in (l ++ n ∷ []) ≡ edit_anew (copied_in l) n
copied_one l n = fold-append edit_anew empty l (n ∷ [])

pub copied-begin : (l : List Note) → copied_in (l ++ begin ∷ []) ≡ empty
copied-begin l = copied_one l begin

pub copied-change : (l : List Note) (c : Entry) → copied_in (l ++ change c ∷ []) ≡ copied_in l
copied-change l c = copied_one l (change c)

pub copied-doc : (l : List Note) (d : Payload) → copied_in (l ++ doc d ∷ []) ≡ insert (copied_in l) d.key d
copied-doc l d = copied_one l (doc d)

pub copied-gone : (l : List Note) (k : DocKey) → copied_in (l ++ gone k ∷ []) ≡ remove (copied_in l) k
copied-gone l k = copied_one l (gone k)

-- ---- legal lists

-- each note of the list may stand behind these changes and those before it
abbrev LegalAfter : ℕ → List Entry → List Note → Type 0
LegalAfter run h l = (before : List Note) (m : Note) (after : List Note) → l ≡ before ++ m ∷ after → Fits run (fold noted h before) m

first_is : (n m : Note) (l k : List Note) → n ∷ l ≡ m ∷ k → n ≡ m
first_is n m l k e = cc

rest_is : (n m : Note) (l k : List Note) → n ∷ l ≡ m ∷ k → l ≡ k
rest_is n m l k e = cc

no_rest : (l k : List Note) (m : Note) → [] ≡ l ++ m ∷ k → ⊥
no_rest [] k m e = absurd (cc)
no_rest (n ∷ l) k m e = absurd (cc)

legal_after : (run : ℕ) (h : List Entry) (l : List Note) (n : Note) → LegalAfter run h l → Fits run (fold noted h l) n → LegalAfter run h (l ++ n ∷ [])
legal_after run h [] n legal fits [] m after e = subst (Fits run h) (first_is n m [] after e) fits
legal_after run h [] n legal fits (b ∷ before) m after e = absurd (no_rest before after m (rest_is n b [] (before ++ m ∷ after) e))
legal_after run h (x ∷ l) n legal fits [] m after e = subst (Fits run h) (first_is x m (l ++ n ∷ []) after e) (legal [] x l refl)
legal_after run h (x ∷ l) n legal fits (b ∷ before) m after e =
    subst (λ y. Fits run (fold noted (noted h y) before) m) (first_is x b (l ++ n ∷ []) (before ++ m ∷ after) e)
    (legal_after run (noted h x) l n (λ front y back is. legal (x ∷ front) y back (ap (λ t. x ∷ t) is)) fits before m after (rest_is x b (l ++ n ∷ []) (before ++ m ∷ after) e))

pub legal_more : (run : ℕ) (l : List Note) (n : Note) → IsLegal run l → Fits run (changes_in l) n → IsLegal run (l ++ n ∷ [])
legal_more run l n legal fits = legal_after run [] l n legal fits

pub legal_changes : (run : ℕ) (cs : List Entry) (l : List Note) → IsLegal run l → IsLegal run (l ++ map change cs)
legal_changes run [] l legal = subst (IsLegal run) (sym (append-nil l)) legal
legal_changes run (c ∷ cs) l legal = subst (IsLegal run) (append_assoc l (change c ∷ []) (map change cs)) (legal_changes run cs (l ++ change c ∷ []) (legal_more run l (change c) legal tt))
