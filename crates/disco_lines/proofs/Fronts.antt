-- Fronts of a text that are written one behind another.
use Rattle.std.proofs.Common.{◌≡◌, ◌≢◌, ℕ, suc, ◌+◌, ◌<◌, List, [], ◌∷◌, ◌++◌, length, drop, Option, Result, Ok, Err, IfErr, refl, sym, ap, subst, ◌∙◌, append-nil, append_assoc, arith}
use Rattle.std.proofs.KnownBytes.{Appends-nil, Appends-trans}
use Rattle.std.proofs.Math.Seq.{drop-cons}
use Rattle.std.proofs.Math.ListN.{get_or}
use Rattle.std.specs.List.{flat_map}
use Rattle.std.specs.Io.KnownBytes.{Appends}
use Rattle.std.specs.Result.{IsErr, IsErrAnd}
use Rattle.disco_http.specs.Writes.{AppendsProperFront}
use Rattle.disco_values.specs.declared.fault.Fault.{Fault}
use Rattle.disco_values.specs.declared.fault.Fault.TheVariants.{OutOfMemory, WriteFailed}
use Rattle.disco_lines.specs.Answered.{AppendsFront, AppendsUpTo}

pub whole : (a b : Option (List ℕ)) (text : List ℕ) → Appends a b text → AppendsUpTo a b text []
whole a b text p = (text, p, sym (append-nil text))

pub all_of : (a b : Option (List ℕ)) (text left : List ℕ) → left ≡ [] → AppendsUpTo a b text left → Appends a b text
all_of a b text left none p = subst (Appends a b) (sym (p.2 ∙ ap (λ l. p.0 ++ l) none ∙ append-nil p.0)) p.1

pub not_yet : (a : Option (List ℕ)) (text left : List ℕ) → text ≡ left → AppendsUpTo a a text left
not_yet a text left e = ([], Appends-nil a, e)

-- where memory is wanting, what was written by then stays
pub wanting : {A : Type 0} (a b : Option (List ℕ)) (text left : List ℕ) (r : Result A Fault) → AppendsUpTo a b text left → IfErr r (λ e. e ≡ OutOfMemory)
    → IfErr r (λ e. AppendsFront a b e text)
wanting a b text left (Ok v) p is = tt
wanting a b text left (Err e) p is = (left, p, λ failed. let both = sym is ∙ failed in absurd (cc))

of_error : {A : Type 0} (P : Fault → Type 0) (r : Result A Fault) (e : Fault) → IsErr r × IsErrAnd r (λ x. x ≡ e) → P e → IfErr r P
of_error P (Ok v) e is p = tt
of_error P (Err x) e is p = subst P (sym is.1) p

pub proper : (a b : Option (List ℕ)) (fault : Fault) (text : List ℕ) → AppendsProperFront a b text → AppendsFront a b fault text
proper a b fault text p = (p.1, (p.0, p.4, p.2), λ failed. p.3)

module _ (a b c : Option (List ℕ)) (text l rest : List ℕ) where
  pub goes_on : (left : List ℕ) → AppendsUpTo a b text (l ++ rest) → AppendsUpTo b c l left → AppendsUpTo a c text (left ++ rest)
  goes_on left p q = (
    p.0 ++ q.0,
    Appends-trans a b c p.0 q.0 p.1 q.1,
    p.2 ∙ ap (λ t. p.0 ++ (t ++ rest)) q.2 ∙ ap (λ t. p.0 ++ t) (append_assoc q.0 left rest) ∙ sym (append_assoc p.0 q.0 (left ++ rest)),
  )

  some_left : (left : List ℕ) → left ≢ [] → left ++ rest ≢ []
  some_left [] some = absurd (some refl)
  some_left (x ∷ xs) some = λ none. absurd (cc)

  pub breaks_off : (fault : Fault) → AppendsUpTo a b text (l ++ rest) → AppendsFront b c fault l → AppendsFront a c fault text
  breaks_off fault p q = (q.0 ++ rest, goes_on q.0 p q.1, λ failed. some_left q.0 (q.2 failed))

  -- and so it is told of a call that hands the fault on
  pub failing : {A : Type 0} (r : Result A Fault) (e : Fault) → IsErr r × IsErrAnd r (λ x. x ≡ e) → AppendsUpTo a b text (l ++ rest) → AppendsFront b c e l
      → IfErr r (λ x. AppendsFront a c x text)
  failing r e is p q = of_error (λ x. AppendsFront a c x text) r e is (breaks_off e p q)

  pub failing_last : {A : Type 0} (r : Result A Fault) → AppendsUpTo a b text (l ++ rest) → IfErr r (λ e. AppendsFront b c e l) → IfErr r (λ e. AppendsFront a c e text)
  failing_last (Ok v) p q = tt
  failing_last (Err e) p q = breaks_off e p q

-- what is still to come is one piece, and what comes behind it
pub to_come : {A : Type 0} (f : A → List ℕ) (xs : List A) (i : ℕ) (x : A) (gathered : List ℕ) → i < length xs → x ≡ get_or xs i x
    → gathered ++ flat_map f (drop i xs) ≡ (gathered ++ f x) ++ flat_map f (drop (i + 1) xs)
to_come f xs i x gathered within is =
    let one : suc i ≡ i + 1 = omega arith in
    let rest : drop i xs ≡ x ∷ drop (i + 1) xs = drop-cons xs i x within ∙ ap (λ y. y ∷ drop (suc i) xs) (sym is) ∙ ap (λ n. x ∷ drop n xs) one in
    ap (λ l. gathered ++ flat_map f l) rest ∙ sym (append_assoc gathered (f x) (flat_map f (drop (i + 1) xs)))

-- a document is its front, its text and the end of its line, behind what was gathered
pub parts : (before front text end : List ℕ) → before ++ ((front ++ text) ++ end) ≡ (before ++ front) ++ (text ++ end)
parts before front text end = ap (λ l. before ++ l) (append_assoc front text end) ∙ sym (append_assoc before front (text ++ end))

module _ (a b : Option (List ℕ)) (before front text end : List ℕ) where
  pub fronted : AppendsUpTo a b (before ++ front) [] → AppendsUpTo a b (before ++ ((front ++ text) ++ end)) (text ++ end)
  fronted p = goes_on a a b (before ++ ((front ++ text) ++ end)) (before ++ front) (text ++ end) [] (not_yet a _ _ (parts before front text end)) p

  pub ended : (c : Option (List ℕ)) → AppendsUpTo a b (before ++ front) [] → AppendsUpTo b c text [] → AppendsUpTo a c (before ++ ((front ++ text) ++ end)) end
  ended c p q = goes_on a b c (before ++ ((front ++ text) ++ end)) text end [] (fronted p) q
