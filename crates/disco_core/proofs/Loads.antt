-- A written document is true.
use Rattle.std.proofs.Common.{◌≡◌, ◌≤◌, ℕ, true, false, List, length, Some, Ok, refl, sym, ap, subst, ◌∙◌, arith}
use Rattle.std.proofs.Math.Seq.{take-length}
use Rattle.disco_history.specs.Change.{Entry, prefix}
use Rattle.disco_wire.specs.Documents.{IsWritten, meaning_for, text_for}
use Rattle.disco_values.specs.Query.{is_delta}
use Rattle.disco_cache.specs.Payloads.{IsTruePayload}
use Rattle.disco_values.specs.declared.doc_key.DocKey.{DocKey}
use Rattle.disco_cache.specs.declared.payload.Payload.{Payload}

abbrev pub made : DocKey → ℕ → ℕ → ℕ → List ℕ → Payload
made k run base version text = record { key = k; run = run; base = base; version = version; text = text }

-- a document of held records, written now
pub held_true : (k : DocKey) (run v : ℕ) (text : List ℕ) (p : Payload) (h : List Entry) → is_delta k.query ≡ false → v ≡ length h → IsWritten k.form k.query h (length h) (Some text) → p ≡ made k run v v text → IsTruePayload run p h
held_true k run v text p h held now written is = subst (λ q. IsTruePayload run q h) (sym is) (
  refl,
  record {
    written = written.1 ∙ (λ i. text_for k.query k.form h (sym now i) (sym now i));
    means = record {
      meaning = written.2 ∙ (λ i. Ok (meaning_for k.query k.form h (sym now i) (sym now i)));
      there = written.0;
      start = omega arith;
      whole = λ held. refl;
      past = omega (arith, now);
      now = λ kept. now;
      same = ap (λ x. meaning_for k.query k.form x v v) (ap (prefix h) now ∙ take-length h);
    };
  },
)

-- a delta, written now
pub delta_true : (k : DocKey) (run base v : ℕ) (text : List ℕ) (p : Payload) (h : List Entry) → is_delta k.query ≡ true → base ≤ v → v ≡ length h → IsWritten k.form k.query h base (Some text) → p ≡ made k run base v text → IsTruePayload run p h
delta_true k run base v text p h delta start now written is = subst (λ q. IsTruePayload run q h) (sym is) (
  refl,
  record {
    written = written.1 ∙ (λ i. text_for k.query k.form h base (sym now i));
    means = record {
      meaning = written.2 ∙ (λ i. Ok (meaning_for k.query k.form h base (sym now i)));
      there = written.0;
      start = start;
      whole = λ held. absurd (cc);
      past = omega (arith, now);
      now = λ kept. now;
      same = ap (λ x. meaning_for k.query k.form x base v) (ap (prefix h) now ∙ take-length h);
    };
  },
)
