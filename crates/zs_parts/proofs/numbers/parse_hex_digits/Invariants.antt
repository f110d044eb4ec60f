use Rattle.std.proofs.Common.{◌≡◌, ◌<◌, ◌^◌, drop}
use Rattle.zs_parts.specs.Hexadecimal.{hex_from}
use Rattle.zs_parts.proofs.numbers.parse_hex_digits.Given as goal

abbrev pub invariant-loop-digit : goal.invariant-loop-digit
invariant-loop-digit l = record {
  rest : hex_from l.number (drop l.digit-index l.digits) ≡ hex_from 0 l.digits;
  small : l.number < 16 ^ l.digit-index;
}
