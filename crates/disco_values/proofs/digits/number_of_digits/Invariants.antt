use Rattle.std.proofs.Common.{◌≡◌, ◌<◌, ◌^◌, drop}
use Rattle.disco_values.specs.Digits.{digits_number}
use Rattle.disco_values.proofs.Parsed.{number_after}
use Rattle.disco_values.proofs.digits.number_of_digits.Given as goal

abbrev pub invariant-loop-byte : goal.invariant-loop-byte
invariant-loop-byte l = record {
  fits : l.number < 2 ^ 64;
  rest : number_after l.number (drop l.byte-index l.text) ≡ digits_number l.text;
}
