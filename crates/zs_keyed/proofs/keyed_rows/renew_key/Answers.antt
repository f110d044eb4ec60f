use Rattle.std.proofs.Common.{◌≡◌, false, sym, ◌∙◌}
use Rattle.std.specs.Prelude.{bytes_eq}
use Rattle.zs_keyed.proofs.keyed_rows.renew_key.Goals as goal

pub returns-clause-ok : goal.returns-clause-ok
returns-clause-ok g c =
    let apart : bytes_eq (g.R.Keyed.text c.in-Some.old.now) (g.R.Keyed.text c.args.new.now) ≡ false =
    rw (c.as_str.ensures.text, c.key.ensures, c.as_str-2.ensures.text, c.key-2.ensures) at (sym c.if-eq.ensures) in
    let replaced = rw (c.key-3.ensures, c.key-4.ensures) at c.replace.ensures.ok in
    rw (← c.in-Some.ensures, apart) replaced
