use Rattle.std.proofs.Common.{map, sym}
use Rattle.std.specs.String.{string_bytes}
use Rattle.zs_modes.proofs.Words.{no_other, not_some}
use Rattle.zs_modes.proofs.running.run.Goals as goal

pub returns-in-Some-clause-runs : goal.returns-in-Some-clause-runs
returns-in-Some-clause-runs g c = λ s found.
    let none = no_other (map string_bytes c.args.words.now) c.in-Some.workers (sym c.in-Some.ensures.named) in absurd (not_some none.settings found)

pub returns-in-Some-clause-soaks : goal.returns-in-Some-clause-soaks
returns-in-Some-clause-soaks g c = λ soak found.
    let none = no_other (map string_bytes c.args.words.now) c.in-Some.workers (sym c.in-Some.ensures.named) in absurd (not_some none.soak found)

pub returns-in-Some-clause-links : goal.returns-in-Some-clause-links
returns-in-Some-clause-links g c = λ s found.
    let none = no_other (map string_bytes c.args.words.now) c.in-Some.workers (sym c.in-Some.ensures.named) in absurd (not_some none.link found)

pub returns-in-Some-clause-hands : goal.returns-in-Some-clause-hands
returns-in-Some-clause-hands g c = λ s found.
    let none = no_other (map string_bytes c.args.words.now) c.in-Some.workers (sym c.in-Some.ensures.named) in absurd (not_some none.link found)
