-- From the entries that were written to what is asked for after a history.
use Rattle.std.proofs.Common.{◌≡◌, ℕ, ◌<◌, ◌==◌, ◌&&◌, not, Bool, true, false, cond, List, length, Option, Some, None, Ok, MatchOption, option_map, refl, sym, ap, ◌∙◌, arith, Result, Ok, Err, IfOk}
use Rattle.std.proofs.lemmas.Bool.Decides.{nat_tests}
use Rattle.std.specs.FinMap.{len, values}
use Rattle.serde_json.specs.Written.{compact_text}
use Rattle.disco_values.specs.declared.form.Form.{Form}
use Rattle.disco_history.specs.Change.{Entry}
use Rattle.disco_history.specs.Hash.{hash}
use Rattle.disco_history.specs.Mentions.{delta}
use Rattle.disco_history.specs.Query.{Selector, all, is_absent, may_be_empty, restrict}
use Rattle.disco_history.specs.Registry.{registry_of}
use Rattle.disco_history.proofs.Restrictions.{len-restrict, values-restrict, values-said_all}
use Rattle.disco_history.proofs.Sets.{values-reg}
use Rattle.disco_wire.specs.Documents.{document_of, IsWritten, asked_by, hash_of, if_many, kind, mentioned, told}
use Rattle.disco_wire.specs.Meaning.{meant}
use Rattle.disco_wire.specs.declared.wire.Shape.TheVariants.{Many}
use Rattle.disco_values.specs.Query.{is_delta}
use Rattle.disco_wire.specs.Rows.{mentions_in, rows_in}
use Rattle.disco_wire.specs.Written.{document_tree, tree_of}
use Rattle.disco_values.specs.declared.query.Query.{Query}

is_some_number : (n : ℕ) → 0 < n → (n == 0) ≡ false
is_some_number n some = grind (arith, nat_tests, some)

never : (b : Bool) → (b && false) ≡ false
never true = refl
never false = refl

-- a document of all apps is never absent
pub all_there : (h : List Entry) → is_absent (registry_of h) all ≡ false
all_there h = never (len (restrict (registry_of h) all) == 0)

-- all records are asked for
pub all_asked : (h : List Entry) → values (restrict (registry_of h) all) ≡ values (registry_of h)
all_asked h = values-restrict h all ∙ ap rows_in (values-said_all h) ∙ sym (values-reg h)

module _ (a : Selector) (h : List Entry) (es : List Entry) (same : es ≡ mentioned a h) where
  -- none is asked for
  pub none_written : length es ≡ 0 → may_be_empty a ≡ false → is_absent (registry_of h) a ≡ true
  none_written none must = let all : _ = len-restrict h a ∙ ap length (sym same) ∙ none in (λ i. (all i == 0) && not (must i))

  -- some are
  pub some_there : 0 < length es → is_absent (registry_of h) a ≡ false
  some_there some = ap (λ n. (n == 0) && not (may_be_empty a)) (len-restrict h a ∙ ap length (sym same)) ∙ ap (λ b. b && not (may_be_empty a)) (is_some_number (length es) some)

  -- their hash code
  pub code_is : hash (rows_in es) ≡ hash (values (restrict (registry_of h) a))
  code_is = ap hash (ap rows_in same ∙ sym (values-restrict h a))

-- what was written of some records, with a hash code
pub some_written : (f : Form) (q : Query) (h : List Entry) (base : ℕ) (es : List Entry) (code : List ℕ) (v : ℕ) (text : List ℕ) → es ≡ told q h base → code ≡ hash_of q h → v ≡ length h → is_absent (registry_of h) (asked_by q) ≡ false
    → text ≡ compact_text (tree_of f (asked_by q) es code v) → document_of text ≡ Ok (meant (kind q).shape (if_many (kind q).shape code) (if_many (kind q).shape v) (mentions_in f es)) → IsWritten f q h base (Some text)
some_written f q h base es code v text same code_is version there is means = (
  there,
  is ∙ (λ i. compact_text (tree_of f (asked_by q) (same i) (code_is i) (version i))),
  means ∙ (λ i. Ok (meant (kind q).shape (if_many (kind q).shape (code_is i)) (if_many (kind q).shape (version i)) (mentions_in f (same i)))),
)

-- what was written of some records, with a hash code of their own
pub many_written : {X : Type 0} (items : X → List ℕ) (f : Form) (q : Query) (h : List Entry) (base : ℕ) (es : List Entry) (v n : ℕ) (o : Option X) → es ≡ mentioned (asked_by q) h → is_delta q ≡ false → v ≡ length h → n ≡ length es
    → may_be_empty (asked_by q) ≡ false → (kind q).shape ≡ Many → tree_of f (asked_by q) es (hash (rows_in es)) v ≡ document_tree f es (hash (rows_in es)) v
    → MatchOption o (n ≡ 0) (λ x. (0 < n) × (items x ≡ compact_text (document_tree f es (hash (rows_in es)) v)) × (document_of (items x) ≡ Ok (meant Many (Some (hash (rows_in es))) (Some v) (mentions_in f es))))
    → IsWritten f q h base (option_map items o)
many_written items f q h base es v n None same held version count must shape tree none = none_written (asked_by q) h es same (sym count ∙ none) must
many_written items f q h base es v n (Some x) same held version count must shape tree some =
    some_written f q h base es (hash (rows_in es)) v (items x) (same ∙ ap (λ b. cond b (values (delta h base)) (mentioned (asked_by q) h)) (sym held)) (code_is (asked_by q) h es same) version
    (some_there (asked_by q) h es same (omega (arith, some.0, count))) (some.1 ∙ ap compact_text (sym tree)) (some.2 ∙ ap (λ s. Ok (meant s (if_many s (hash (rows_in es))) (if_many s v) (mentions_in f es))) (sym shape))

-- what holds of a result holds of it under a condition
pub whenever : {A E : Type 0} (K : Type 0) (P : A → Type 0) (r : Result A E) → IfOk r P → IfOk r (λ a. K → P a)
whenever K P (Ok a) h = λ k. h
whenever K P (Err e) h = tt
