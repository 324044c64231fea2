-- The joined text of a document is the compact text of its tree.
use Rattle.std.proofs.Common.{◌≡◌, ℕ, Bool, true, false, cond, List, [], ◌∷◌, ◌++◌, map, codes, decimal, Some, None, Ok, IsUtf8, ◌<◌, ◌^◌, refl, ap, sym, subst, ◌∙◌, append_assoc}
use Rattle.std.specs.List.{AllByRecursion}
use Rattle.std.specs.Str.{bytes_eq}
use Rattle.std.proofs.lemmas.Str.{IsUtf8-append, IsUtf8-nil, IsUtf8-from_ascii}
use Rattle.std.proofs.lemmas.Fmt.{IsAscii-decimal}
use Rattle.json.proofs.Printed.Utf8.{are_ascii, IsUtf8-are_ascii, IsUtf8-quoted}
use Rattle.std.proofs.lemmas.Slice.Eq.{bytes_eq-Decides}
use Rattle.json.specs.Print.{quoted, escape_byte}
use Rattle.serde_json.specs.Written.{compact_text, items_text}
use Rattle.serde_json.specs.View.{items_of}
use Rattle.disco_values.specs.declared.form.Form.{Form}
use Rattle.disco_history.specs.Change.{Entry}
use Rattle.disco_history.specs.Mentions.{mention_of}
use Rattle.disco_writer.specs.Kept.{IsTextOf}
use Rattle.disco_writer.specs.Joined.{text_of_entry, shown, Shown, AreTextsOf, in_apps, in_commas, before_next, app_open, app_close, many_open, many_close, many_joined, app_joined, one_joined}
use Rattle.disco_wire.specs.Documents.{document_of}
use Rattle.disco_wire.specs.Meaning.{meant}
use Rattle.disco_wire.specs.declared.wire.Shape.TheVariants.{Many, App, One}
use Rattle.disco_wire.specs.Rows.{AreWellFormed, mentions_in}
use Rattle.disco_wire.proofs.Documents.{document_law, app_law, one_law}
use Rattle.disco_writer.proofs.Readable.{text_again, document_again, app_document_again, instance_document_again}
use Rattle.disco_writer.proofs.Plain.{read_again, document_depth, app_document_depth, instance_document_depth}
use Rattle.disco_wire.specs.Written.{instance_tree, app_tree, by_app, with_first, document_tree, app_document, instance_document}

abbrev Groups : Type 0
Groups = List (List ℕ × List Entry)

-- the texts that follow an instance of an app, with the application's end; its bracket is app_close's
abbrev more : (form : Form) → List Entry → List ℕ
more form [] = []
more form (e ∷ es) = 44 ∷ (text_of_entry form e ++ more form es)

more_items : (form : Form) (es : List Entry) → items_text true (items_of (map (instance_tree form) es)) ≡ more form es ++ 93 ∷ []
more_items form [] = refl
more_items form (e ∷ es) = ap (λ r. 44 ∷ (text_of_entry form e ++ r)) (more_items form es) ∙ ap (λ r. 44 ∷ r) (sym (append_assoc (text_of_entry form e) (more form es) (93 ∷ [])))

-- the text of an application of a first instance and more
app_text : (form : Form) (name : List ℕ) (e : Entry) (es : List Entry) → compact_text (app_tree form (name, e ∷ es)) ≡ app_open ++ (text_of_entry form e ++ (more form es ++ app_close name))
unfolding app_open app_close escape_byte
app_text form name e es =
    ap (λ r. codes "{\"instance\":[" ++ r) (append_assoc (text_of_entry form e) (items_text true (items_of (map (instance_tree form) es))) (codes ",\"name\":" ++ (quoted name ++ codes "}")))
    ∙ ap (λ r. codes "{\"instance\":[" ++ (text_of_entry form e ++ (r ++ (codes ",\"name\":" ++ (quoted name ++ codes "}"))))) (more_items form es) ∙ ap (λ r. codes "{\"instance\":[" ++ (text_of_entry form e ++ r)) (append_assoc (more form es) (93 ∷ []) _)

-- ---- the applications of some instances

-- the applications after the first one, and the end of their array
abbrev apps_after : (form : Form) → Groups → List ℕ
apps_after form gs = items_text true (items_of (map (app_tree form) gs))

-- how the instances from a first one on fall into its application and the others
record Falls (form : Form) (e : Entry) (es : List Entry) : Type 0 where
  group : List Entry
  groups : Groups
  are : by_app (e ∷ es) ≡ (e.0.key.app, e ∷ group) ∷ groups
  text : more form group ++ (app_close e.0.key.app ++ apps_after form groups) ≡ in_apps (Some e.0.key.app) (shown form es) ++ 93 ∷ []

regroup : (a b c d : List ℕ) → (a ++ (b ++ c)) ++ d ≡ a ++ (b ++ (c ++ d))
regroup a b c d = append_assoc a (b ++ c) d ∙ ap (λ r. a ++ r) (append_assoc b c d)

app_after : (form : Form) (f : Entry) (group : List Entry) (groups : Groups) (name : List ℕ) → apps_after form ((name, f ∷ group) ∷ groups) ≡ 44 ∷ (app_open ++ (text_of_entry form f ++ (more form group ++ (app_close name ++ apps_after form groups))))
app_after form f group groups name =
    ap (λ r. 44 ∷ (r ++ apps_after form groups)) (app_text form name f group)
    ∙ ap (λ r. 44 ∷ r) (append_assoc app_open (text_of_entry form f ++ (more form group ++ app_close name)) (apps_after form groups)
    ∙ ap (λ r. app_open ++ r) (regroup (text_of_entry form f) (more form group) (app_close name) (apps_after form groups)))

same_app : (form : Form) (e f : Entry) (fs : List Entry) (b : Bool) → bytes_eq f.0.key.app e.0.key.app ≡ b → (group : List Entry) (groups : Groups)
    → more form group ++ (app_close f.0.key.app ++ apps_after form groups) ≡ in_apps (Some f.0.key.app) (shown form fs) ++ 93 ∷ []
    → (g : List Entry) × (gs : Groups) × (cond b ((f.0.key.app, e ∷ f ∷ group) ∷ groups) ((e.0.key.app, e ∷ []) ∷ (f.0.key.app, f ∷ group) ∷ groups) ≡ (e.0.key.app, e ∷ g) ∷ gs)
    × (more form g ++ (app_close e.0.key.app ++ apps_after form gs) ≡ (cond b (codes ",") (app_close e.0.key.app ++ (codes "," ++ app_open)) ++ (text_of_entry form f ++ in_apps (Some f.0.key.app) (shown form fs))) ++ 93 ∷ [])
same_app form e f fs true is group groups text =
    let same : f.0.key.app ≡ e.0.key.app = (bytes_eq-Decides f.0.key.app e.0.key.app).0 is in (
      f ∷ group,
      groups,
      ap (λ (n : List ℕ). (n, e ∷ f ∷ group) ∷ groups) same,
      ap (λ r. 44 ∷ r) (append_assoc (text_of_entry form f) (more form group) _
          ∙ ap (λ r. text_of_entry form f ++ r) (ap (λ (n : List ℕ). more form group ++ (app_close n ++ apps_after form groups)) (sym same) ∙ text)
          ∙ sym (append_assoc (text_of_entry form f) (in_apps (Some f.0.key.app) (shown form fs)) (93 ∷ []))),
    )
same_app form e f fs false is group groups text = (
  [],
  (f.0.key.app, f ∷ group) ∷ groups,
  refl,
  ap (λ r. app_close e.0.key.app ++ r) (app_after form f group groups f.0.key.app ∙ ap (λ r. 44 ∷ (app_open ++ (text_of_entry form f ++ r))) text)
      ∙ sym (regroup_all (app_close e.0.key.app) app_open (text_of_entry form f) (in_apps (Some f.0.key.app) (shown form fs))),
)
  where
    regroup_all : (a b c d : List ℕ) → ((a ++ (44 ∷ b)) ++ (c ++ d)) ++ 93 ∷ [] ≡ a ++ (44 ∷ (b ++ (c ++ (d ++ 93 ∷ []))))
    regroup_all a b c d = simp append_assoc

falls : (form : Form) (e : Entry) (es : List Entry) → Falls form e es
falls form e [] = record { group = []; groups = []; are = refl; text = refl }
falls form e (f ∷ fs) =
    let next = falls form f fs in
    let this = same_app form e f fs (bytes_eq f.0.key.app e.0.key.app) refl next.group next.groups next.text in
    record { group = this.0; groups = this.1; are = ap (with_first e) next.are ∙ this.2; text = this.3 }

-- all applications, with the end of their array
pub apps_joined : (form : Form) (es : List Entry) → items_text false (items_of (map (app_tree form) (by_app es))) ≡ in_apps None (shown form es) ++ 93 ∷ []
apps_joined form [] = refl
apps_joined form (e ∷ es) =
    let how = falls form e es in
    ap (λ (gs : Groups). items_text false (items_of (map (app_tree form) gs))) how.are ∙ first_of e how.group how.groups (in_apps (Some e.0.key.app) (shown form es)) how.text
  where
    first_of : (e : Entry) (group : List Entry) (groups : Groups) (rest : List ℕ) → more form group ++ (app_close e.0.key.app ++ apps_after form groups) ≡ rest ++ 93 ∷ []
        → items_text false (items_of (map (app_tree form) ((e.0.key.app, e ∷ group) ∷ groups))) ≡ (app_open ++ (text_of_entry form e ++ rest)) ++ 93 ∷ []
    first_of e group groups rest text =
        ap (λ r. r ++ apps_after form groups) (app_text form e.0.key.app e group)
        ∙ append_assoc app_open (text_of_entry form e ++ (more form group ++ app_close e.0.key.app)) (apps_after form groups)
        ∙ ap (λ r. app_open ++ r) (regroup (text_of_entry form e) (more form group) (app_close e.0.key.app) (apps_after form groups) ∙ ap (λ r. text_of_entry form e ++ r) text)
        ∙ sym (regroup app_open (text_of_entry form e) rest (93 ∷ []))

-- ---- the documents

ends : (x a h b v c d : List ℕ) → (x ++ (a ++ (h ++ (b ++ (v ++ c))))) ++ d ≡ x ++ (a ++ (h ++ (b ++ (v ++ (c ++ d)))))
ends x a h b v c d = simp append_assoc

pub many_is : (form : Form) (es : List Entry) (hash : List ℕ) (version : ℕ) → many_joined (shown form es) hash version ≡ compact_text (document_tree form es hash version)
unfolding many_open many_close document_tree escape_byte
many_is form es hash version =
    let start = codes "{\"applications\":{\"application\":[" in
    let a = codes ",\"apps__hashcode\":" in
    let b = codes ",\"versions__delta\":" in
    let h = quoted hash in
    let v = quoted (decimal version) in
    let tail = a ++ (h ++ (b ++ (v ++ codes "}}"))) in
    let apps = items_text false (items_of (map (app_tree form) (by_app es))) in
    sym (ap (λ (r : List ℕ). start ++ r) (ends apps a h b v (codes "}") (codes "}")) ∙ ap (λ (r : List ℕ). start ++ (r ++ tail)) (apps_joined form es) ∙ ap (λ (r : List ℕ). start ++ r) (append_assoc (in_apps None (shown form es)) (93 ∷ []) tail))

commas_more : (form : Form) (es : List Entry) → in_commas true (shown form es) ≡ more form es
commas_more form [] = refl
commas_more form (e ∷ es) = ap (λ r. 44 ∷ (text_of_entry form e ++ r)) (commas_more form es)

commas_joined : (form : Form) (es : List Entry) → items_text false (items_of (map (instance_tree form) es)) ≡ in_commas false (shown form es) ++ 93 ∷ []
commas_joined form [] = refl
commas_joined form (e ∷ es) = ap (λ r. text_of_entry form e ++ r) (more_items form es) ∙ sym (append_assoc (text_of_entry form e) (more form es) (93 ∷ [])) ∙ ap (λ r. r ++ 93 ∷ []) (ap (λ r. text_of_entry form e ++ r) (sym (commas_more form es)))

ends_app : (x a n c d : List ℕ) → (x ++ (a ++ (n ++ c))) ++ d ≡ x ++ (a ++ (n ++ (c ++ d)))
ends_app x a n c d = simp append_assoc

pub app_is : (form : Form) (name : List ℕ) (es : List Entry) → app_joined name (shown form es) ≡ compact_text (app_document form name es)
unfolding app_joined app_document app_open app_close escape_byte
app_is form name es =
    let start = codes "{\"application\":{\"instance\":[" in
    let a = codes ",\"name\":" in
    let n = quoted name in
    let all = items_text false (items_of (map (instance_tree form) es)) in
    let tail = a ++ (n ++ codes "}}") in
    sym (ap (λ (r : List ℕ). start ++ r) (ends_app all a n (codes "}") (codes "}")) ∙ ap (λ (r : List ℕ). start ++ (r ++ tail)) (commas_joined form es)
    ∙ ap (λ (r : List ℕ). start ++ r) (append_assoc (in_commas false (shown form es)) (93 ∷ []) tail)
    ∙ ap (λ (r : List ℕ). start ++ (in_commas false (shown form es) ++ (93 ∷ (a ++ r)))) (sym (append_assoc n (codes "}") (codes "}"))))

pub one_is : (form : Form) (e : Entry) → one_joined (text_of_entry form e) ≡ compact_text (instance_document form (e ∷ []))
unfolding one_joined instance_document escape_byte
one_is form e = refl

-- ---- texts of instances

pub shown_are : (form : Form) (ps : List Shown) (es : List Entry) → AreTextsOf form ps es → ps ≡ shown form es
shown_are form [] [] all = refl
shown_are form [] (e ∷ es) all = absurd all
shown_are form (p ∷ ps) [] all = absurd all
shown_are form (p ∷ ps) (e ∷ es) all = λ i. (all.0 i, all.1.all i) ∷ shown_are form ps es all.2 i

pub rows_are : (form : Form) (ps : List Shown) (es : List Entry) → AreTextsOf form ps es → AreWellFormed es
rows_are form [] [] all = tt
rows_are form [] (e ∷ es) all = absurd all
rows_are form (p ∷ ps) [] all = absurd all
rows_are form (p ∷ ps) (e ∷ es) all = (all.1.row, rows_are form ps es all.2)

abbrev AreUtf8 : List Shown → Type 0
AreUtf8 ps = AllByRecursion (λ p. IsUtf8 p.0 × IsUtf8 p.1) ps

pub texts_utf8 : (form : Form) (ps : List Shown) (es : List Entry) → AreTextsOf form ps es → AreUtf8 ps
texts_utf8 form [] [] all = tt
texts_utf8 form [] (e ∷ es) all = absurd all
texts_utf8 form (p ∷ ps) [] all = absurd all
texts_utf8 form (p ∷ ps) (e ∷ es) all = ((subst IsUtf8 (sym all.0) all.1.app, all.1.utf8), texts_utf8 form ps es all.2)

ascii : (s : List ℕ) → are_ascii s ≡ true → IsUtf8 s
ascii s e = IsUtf8-are_ascii s e

open_utf8 : IsUtf8 app_open
unfolding app_open
open_utf8 = ascii _ refl

close_utf8 : (name : List ℕ) → IsUtf8 name → IsUtf8 (app_close name)
unfolding app_close
close_utf8 name is = IsUtf8-append (codes "],\"name\":") _ (ascii _ refl) (IsUtf8-append (quoted name) _ (IsUtf8-quoted name is) (ascii _ refl))

comma_utf8 : (b : Bool) (s t : List ℕ) → IsUtf8 s → IsUtf8 t → IsUtf8 (cond b s t)
comma_utf8 true s t is_s is_t = is_s
comma_utf8 false s t is_s is_t = is_t

apps_utf8 : (last : List ℕ) (ps : List Shown) → IsUtf8 last → AreUtf8 ps → IsUtf8 (in_apps (Some last) ps)
apps_utf8 last [] is all = close_utf8 last is
apps_utf8 last (p ∷ ps) is all =
    IsUtf8-append (before_next (Some last) p.0) _
    (comma_utf8 (bytes_eq p.0 last) (codes ",") (app_close last ++ (codes "," ++ app_open)) (ascii _ refl) (IsUtf8-append (app_close last) _ (close_utf8 last is) (IsUtf8-append (codes ",") _ (ascii _ refl) open_utf8)))
    (IsUtf8-append p.1 _ all.0.1 (apps_utf8 p.0 ps all.0.0 all.1))

many_utf8 : (ps : List Shown) (hash : List ℕ) (version : ℕ) → AreUtf8 ps → IsUtf8 hash → version < 2 ^ 64 → IsUtf8 (many_joined ps hash version)
unfolding many_open many_close
many_utf8 ps hash version all is small =
    IsUtf8-append (codes "{\"applications\":{\"application\":[") _ (ascii _ refl) (IsUtf8-append (in_apps None ps) _ (start ps all)
    (IsUtf8-append (codes "],\"apps__hashcode\":") _ (ascii _ refl) (IsUtf8-append (quoted hash) _ (IsUtf8-quoted hash is)
    (IsUtf8-append (codes ",\"versions__delta\":") _ (ascii _ refl) (IsUtf8-append (quoted (decimal version)) _ (IsUtf8-quoted (decimal version) (IsUtf8-from_ascii (decimal version) (IsAscii-decimal version small))) (ascii _ refl))))))
  where
    start : (ps : List Shown) → AreUtf8 ps → IsUtf8 (in_apps None ps)
    start [] all = IsUtf8-nil
    start (p ∷ ps) all = IsUtf8-append app_open _ open_utf8 (IsUtf8-append p.1 _ all.0.1 (apps_utf8 p.0 ps all.0.0 all.1))

commas_utf8 : (later : Bool) (ps : List Shown) → AreUtf8 ps → IsUtf8 (in_commas later ps)
commas_utf8 later [] all = IsUtf8-nil
commas_utf8 later (p ∷ ps) all = IsUtf8-append (cond later (codes ",") []) _ (comma_utf8 later (codes ",") [] (ascii _ refl) IsUtf8-nil) (IsUtf8-append p.1 _ all.0.1 (commas_utf8 true ps all.1))

app_utf8 : (name : List ℕ) (ps : List Shown) → IsUtf8 name → AreUtf8 ps → IsUtf8 (app_joined name ps)
unfolding app_joined
app_utf8 name ps is all =
    IsUtf8-append (codes "{\"application\":") _ (ascii _ refl) (IsUtf8-append app_open _ open_utf8 (IsUtf8-append (in_commas false ps) _ (commas_utf8 false ps all) (IsUtf8-append (app_close name) _ (close_utf8 name is) (ascii _ refl))))

one_utf8 : (text : List ℕ) → IsUtf8 text → IsUtf8 (one_joined text)
unfolding one_joined
one_utf8 text is = IsUtf8-append (codes "{\"instance\":") _ (ascii _ refl) (IsUtf8-append text _ is (ascii _ refl))

-- ---- a joined document is the text of its tree, and means what the tree means

pub many_holds : (form : Form) (ps : List Shown) (es : List Entry) (hash : List ℕ) (version : ℕ) → AreTextsOf form ps es → IsUtf8 hash → version < 2 ^ 64
    → (many_joined ps hash version ≡ compact_text (document_tree form es hash version)) × (document_of (many_joined ps hash version) ≡ Ok (meant Many (Some hash) (Some version) (mentions_in form es)))
many_holds form ps es hash version all is small =
    let same = ap (λ (qs : List Shown). many_joined qs hash version) (shown_are form ps es all) ∙ many_is form es hash version in
    let rows = rows_are form ps es all in (
      same,
      read_again (document_tree form es hash version) _ (many_joined ps hash version) _ same (subst IsUtf8 same (many_utf8 ps hash version (texts_utf8 form ps es all) is small))
          (text_again (document_tree form es hash version) (document_again form es hash version rows) (document_depth form es hash version)) (document_law form es hash version rows small),
    )

pub app_holds : (form : Form) (name : List ℕ) (ps : List Shown) (es : List Entry) → AreTextsOf form ps es → IsUtf8 name
    → (app_joined name ps ≡ compact_text (app_document form name es)) × (document_of (app_joined name ps) ≡ Ok (meant App None None (mentions_in form es)))
app_holds form name ps es all is =
    let same = ap (app_joined name) (shown_are form ps es all) ∙ app_is form name es in
    let rows = rows_are form ps es all in (
      same,
      read_again (app_document form name es) _ (app_joined name ps) _ same (subst IsUtf8 same (app_utf8 name ps is (texts_utf8 form ps es all))) (text_again (app_document form name es) (app_document_again form name es rows) (app_document_depth form name es))
          (app_law form name es rows),
    )

pub one_holds : (form : Form) (text : List ℕ) (e : Entry) → IsTextOf form text (mention_of e)
    → (one_joined text ≡ compact_text (instance_document form (e ∷ []))) × (document_of (one_joined text) ≡ Ok (meant One None None (mentions_in form (e ∷ []))))
one_holds form text e is =
    let same = ap one_joined is.all ∙ one_is form e in (
      same,
      read_again (instance_document form (e ∷ [])) _ (one_joined text) _ same (subst IsUtf8 same (one_utf8 text is.utf8)) (text_again (instance_document form (e ∷ [])) (instance_document_again form e is.row) (instance_document_depth form e))
          (one_law form e is.row),
    )
