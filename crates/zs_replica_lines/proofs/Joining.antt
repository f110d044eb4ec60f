-- Texts that stand one behind the other.
use Rattle.std.proofs.Common.{append_assoc}
use Rattle.std.proofs.lemmas.List.{append-nil}

pub ruleset joining = (append_assoc, append-nil)
