use Rattle.std.proofs.Common.{lit<, refl}
use Rattle.std.proofs.lemmas.Str.Pattern.{NoCharPasses-char}
use Rattle.zs_keys.proofs.PrefixLemmas.{any-none}
use Rattle.zs_keys.proofs.prefix.nonwild_prefix.Goals as goal

pub returns-in_default : goal.returns-in_default
returns-in_default c =
    rw (any-none c.args.text.now (λ k small. NoCharPasses-char 0x2a c.args.text.now k c.in_default.ensures.cases (lit< tt) small)) refl
