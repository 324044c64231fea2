use Rattle.std.proofs.Common.{◌≡◌, ℕ, ◌<◌, not, true, false, Bool, List, [], ◌∷◌, refl, ap, ◌∙◌, arith, if◌then◌else◌}
use Rattle.std.proofs.lemmas.Bool.{agree_below, agree_below_at}
use Rattle.std.proofs.lemmas.Bool.Decides.{nat_tests}
use Rattle.std.specs.List.{flat_map}
use Rattle.percent_encoding.specs.AsciiSet.{contains, should_percent_encode}
use Rattle.percent_encoding.specs.Percent.{encode_byte, percent_encode, percent_encode_byte}
use Rattle.disco_follow.specs.Names.{is_shown, shown_name}
use Rattle.disco_follow.specs.declared.names.TheConstants.{ENCODED}
use Rattle.disco_follow.proofs.names.shown.Goals as goal

in_ascii : agree_below (contains ENCODED) (λ b. not (is_shown b)) 128 ≡ true
in_ascii = refl

encoded_unless_shown : (b : ℕ) → should_percent_encode ENCODED b ≡ not (is_shown b)
unfolding should_percent_encode
encoded_unless_shown b =
    let below : b < 128 → contains ENCODED b ≡ not (is_shown b) = agree_below_at (contains ENCODED) (λ b. not (is_shown b)) 128 b in_ascii in
    grind (arith, nat_tests, below)

by_test : (t : Bool) (x y : List ℕ) → (if not t then x else y) ≡ (if t then y else x)
by_test true x y = refl
by_test false x y = refl

one_byte : (b : ℕ) → encode_byte ENCODED b ≡ (if is_shown b then b ∷ [] else percent_encode_byte b)
one_byte b = ap (λ (t : Bool). if t then percent_encode_byte b else b ∷ []) (encoded_unless_shown b) ∙ by_test (is_shown b) (percent_encode_byte b) (b ∷ [])

all_bytes : (bs : List ℕ) → flat_map (encode_byte ENCODED) bs ≡ flat_map (λ b. if is_shown b then b ∷ [] else percent_encode_byte b) bs
all_bytes [] = refl
all_bytes (b ∷ bs) = rw (one_byte b, all_bytes bs) refl

pub returns : goal.returns
unfolding percent_encode shown_name
returns c = c.utf8_percent_encode.ensures.text ∙ all_bytes c.args.name.now
