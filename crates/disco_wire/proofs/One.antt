-- A tree has at most one meaning.
use Rattle.std.proofs.Common.{◌≡◌, List, [], ◌∷◌, get_or, drop, refl, sym, ap, ◌∙◌}
use Rattle.disco_instance.proofs.SameRow.{same_row}
use Rattle.disco_wire.specs.declared.wire.Mention.{Mention}
use Rattle.disco_wire.specs.declared.wire.Wire.{Wire}
use Rattle.disco_wire.specs.Wire.{wire_meaning, tell, tell_all}
use Rattle.disco_wire.specs.Laws.{OneMeaning}
use Rattle.std.proofs.lemmas.Option.{same_Some}

same_mention : (m n : Mention) → tell m ≡ tell n → m ≡ n
same_mention m n e = let r : m.rec ≡ n.rec = same_row m.rec n.rec (ap (λ t. t.0) e) in λ i. record { rec = r i; action = (e i).1 }

pub same_mentions : (ms ns : List Mention) → tell_all ms ≡ tell_all ns → ms ≡ ns
same_mentions [] [] e = refl
same_mentions [] (n ∷ ns) e = absurd (cc)
same_mentions (m ∷ ms) [] e = absurd (cc)
same_mentions (m ∷ ms) (n ∷ ns) e =
    let first = same_mention m n (ap (λ l. get_or l 0 (tell m)) e) in
    let rest = same_mentions ms ns (ap (drop 1) e) in
    λ i. first i ∷ rest i

same_wire : (v w : Wire) → wire_meaning v ≡ wire_meaning w → v ≡ w
same_wire v w e =
    let ms = same_mentions v.mentions w.mentions (ap (λ m. m.mentions) e) in
    λ i. record { shape = (e i).shape; mentions = ms i; hash = (e i).hash; version = (e i).version }

pub one_meaning : OneMeaning
one_meaning d v w a b = same_wire v w (same_Some (wire_meaning v) (wire_meaning w) (sym a ∙ b))
