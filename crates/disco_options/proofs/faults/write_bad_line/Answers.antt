use Rattle.std.proofs.Common.{ℕ, List, ◌≡◌, ◌++◌, ◌∙◌, Option, Result, ap, append_assoc, codes, subst, sym}
use Rattle.std.proofs.lemmas.Result.{err_from_is_err_and}
use Rattle.std.specs.Fmt.{decimal}
use Rattle.disco_http.specs.Writes.{WritesBytes}
use Rattle.disco_http.proofs.Written.{not_written, then_written}
use Rattle.disco_options.proofs.faults.write_bad_line.Goals as goal

apart : (x l n f : List ℕ) → x ++ (l ++ n ++ f) ≡ x ++ l ++ n ++ f
apart x l n f = sym (append_assoc (x ++ l) n f ∙ append_assoc x l (n ++ f) ∙ ap (λ z. x ++ z) (sym (append_assoc l n f)))

whole : {A E : Type 0} (r : Result A E) (a b : Option (List ℕ)) (i j : ℕ) (x l n f : List ℕ) → WritesBytes a b i j r (x ++ (l ++ n ++ f)) → WritesBytes a b i j r (x ++ l ++ n ++ f)
whole r a b i j x l n f h = subst (WritesBytes a b i j r) (apart x l n f) h

pub returns-in_err-write_number : goal.returns-in_err-write_number
returns-in_err-write_number g c =
    let p = err_from_is_err_and c.from_residual.result c.from_residual.ensures.1 in
    let first = codes "discovery: fault " ++ decimal c.args.number in
    let more = codes " at line " ++ decimal c.args.line ++ codes "\n" in
    whole c.from_residual.result _ _ _ _ first (codes " at line ") (decimal c.args.line) (codes "\n")
    (not_written c.from_residual.result p.0 _ _ _ _ first more p.1 c.in_err-write_number.ensures)

pub returns : goal.returns
returns g c =
    let first = codes "discovery: fault " ++ decimal c.args.number in
    let more = codes " at line " ++ decimal c.args.line ++ codes "\n" in
    whole c.write_end.result _ _ _ _ first (codes " at line ") (decimal c.args.line) (codes "\n")
    (then_written c.write_end.result _ _ _ _ _ _ first more c.in_ok-write_number.ensures c.write_end.ensures)
