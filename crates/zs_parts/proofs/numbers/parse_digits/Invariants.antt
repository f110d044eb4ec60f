use Rattle.std.proofs.Common.{◌≡◌, ◌+◌, ◌*◌, ◌≤◌, drop}
use Rattle.zs_parts.specs.Symbols.{number_from}
use Rattle.zs_parts.proofs.numbers.parse_digits.Given as goal

abbrev pub invariant-loop-digit : goal.invariant-loop-digit
invariant-loop-digit l = record {
  rest : number_from l.max l.number (drop l.digit-index l.digits) ≡ number_from l.max 0 l.digits;
  most : l.most ≡ l.max;
  small : l.number ≤ 10 * l.max + 9;
}
