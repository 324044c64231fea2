-- Lines of faults, and what stands in front of them.
use Rattle.std.proofs.Common.{◌≡◌, ◌⊎◌, inl, inr, ◌^◌, ◌<◌, ℕ, List, [], Option, Some, None, append-nil, arith, refl, subst, sym}
use Rattle.std.specs.Io.KnownBytes.{Appends}
use Rattle.disco_http.specs.Causes.{Raises}
use Rattle.disco_http.specs.Writes.{AppendsProperFront}
use Rattle.disco_values.specs.declared.fault.Fault.{Fault}
use Rattle.disco_values.specs.declared.fault.Fault.TheVariants.{ReadFailed}
use Rattle.disco_options.specs.Faults.{Says, SaysBehind, StandsBefore, TellsCause, report_line}

none_before : (fault : Fault) (i j : ℕ) → StandsBefore fault [] i j
none_before ReadFailed i j = inl refl
none_before fault i j = refl

-- nothing stands in front
pub says_alone : (fault : Fault) (a b : Option (List ℕ)) (i j : ℕ) → Says fault a b i j → SaysBehind fault a b i j
says_alone fault None b i j h = ([], none_before fault i j, h)
says_alone fault (Some x) b i j h = ([], none_before fault i j, subst (λ xs. Says fault (Some xs) b i j) (sym (append-nil x)) h)

-- one failure behind another, where counts go up to 2^64 - 1
raised_then : (i j k : ℕ) → k < 2 ^ 64 → (j ≡ i) ⊎ Raises i j → Raises j k → Raises i k
raised_then i j k most (inl e) r = subst (λ n. Raises n k) e r
raised_then i j k most (inr (inl up)) (inl more) = inl (omega (arith, up, more))
raised_then i j k most (inr (inl up)) (inr end) = inr end
raised_then i j k most (inr (inr end)) (inl more) = absurd (omega (arith, most, end, more))
raised_then i j k most (inr (inr end)) (inr last) = inr last

-- a failure stays counted
raised_on : (i j k : ℕ) → k < 2 ^ 64 → Raises i j → (k ≡ j) ⊎ Raises j k → Raises i k
raised_on i j k most r (inl e) = subst (λ n. Raises i n) (sym e) r
raised_on i j k most r (inr more) = raised_then i j k most (inr r) more

cause_on : (text : List ℕ) (i j k : ℕ) → k < 2 ^ 64 → TellsCause text i j → (k ≡ j) ⊎ Raises j k → TellsCause text i k
cause_on text i j k most (inl none) on = inl none
cause_on text i j k most (inr (rest, line, inl whole)) on = inr (rest, line, inl whole)
cause_on text i j k most (inr (rest, line, inr r)) on = inr (rest, line, inr (raised_on i j k most r on))

-- the cause of a failed read stands in front, which was written before it
pub says_behind : (text : List ℕ) (a b c : Option (List ℕ)) (i j k : ℕ) → k < 2 ^ 64 → Appends a b text → TellsCause text i j → (j ≡ i) ⊎ Raises i j
    → (k ≡ j) ⊎ Raises j k → Says ReadFailed b c j k → SaysBehind ReadFailed a c i k
says_behind text None b c i j k most h cause up on says = (text, cause_on text i j k most cause on, inl tt)
says_behind text (Some x) None c i j k most h cause up on says = elim h [ ]
says_behind text (Some x) (Some y) c i j k most h cause up on (inl whole) =
    (text, cause_on text i j k most cause on, inl (subst (λ ys. Appends (Some ys) c (report_line ReadFailed)) h whole))
says_behind text (Some x) (Some y) c i j k most h cause up on (inr (front, raised)) =
    (text, cause_on text i j k most cause on, inr (subst (λ ys. AppendsProperFront (Some ys) c (report_line ReadFailed)) h front, raised_then i j k most up raised))
