use Rattle.std.proofs.Common.{arith, rules, false}
use Rattle.std.proofs.lemmas.Fmt.{hex_byte}
use Rattle.zs_session.proofs.soak.append_byte.Goals as goal

pub returns : goal.returns
returns c = search (rules, hex_byte false c.args.byte (omega arith))
