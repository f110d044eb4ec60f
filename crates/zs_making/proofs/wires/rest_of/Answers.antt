use Rattle.std.proofs.Common.{◌≡◌, ◌==◌, ℕ, List, true, false, Option, Some, None, sym, subst, MatchOption, Bor}
use Rattle.std.specs.Prelude.{is_some, IsCharBoundary}
use Rattle.std.specs.List.{starts_with}
use Rattle.std.specs.Str.Pattern.{FindsTextPrefix, StripsPrefix}
use Rattle.std.proofs.lemmas.Str.Pattern.{starts_text}
use Rattle.zs_making.proofs.wires.rest_of.Goals as goal

-- something is left behind a front exactly where the text begins with it
strips : (o : Option (Bor (List ℕ))) (n s : List ℕ) → MatchOption o (FindsTextPrefix n s None) (λ x. StripsPrefix (FindsTextPrefix n) s x.now)
    → is_some o ≡ starts_with (λ a b. a == b) s n
strips None n s h = starts_text false n s h
strips (Some x) n s h = starts_text true n s (h.0, h.1, subst (λ (i : ℕ). IsCharBoundary s i) (sym h.1.0) h.1.2)

pub returns-clause-test : goal.returns-clause-test
returns-clause-test c = strips c.strip_prefix.result c.args.front.now c.args.text.now c.strip_prefix.ensures.cases
