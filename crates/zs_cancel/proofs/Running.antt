-- Runs of handlers.
use Rattle.std.proofs.Common.{Bool, true, false, List, [], ◌∷◌, refl, ap}
use Rattle.std.proofs.lemmas.List.Elements.{All-nil, All-cons}
use Rattle.zs_cancel.specs.declared.entry.Entry.{Entry}
use Rattle.zs_cancel.specs.declared.outcome.Outcome.{Outcome}
use Rattle.zs_cancel.specs.declared.outcome.Outcome.TheVariants.{Done, Failed}
use Rattle.zs_cancel.specs.Runs.{Runs}

module _ {J : Type 0} (fails : J → Bool → Type 0) where
  -- none is left to be run
  pub runs_none : Runs fails [] Done []
  runs_none = (All-nil (λ e. fails e.job false), refl)

  -- the first fails
  pub runs_last : (e : Entry J) (es : List (Entry J)) → fails e.job true → Runs fails (e ∷ es) (Failed e.number) es
  runs_last e es bad = ([], e, refl, All-nil (λ x. fails x.job false), bad, refl)

  -- the first does its job
  pub runs_more : (e : Entry J) (es : List (Entry J)) (outcome : Outcome) (rest : List (Entry J)) → fails e.job false → Runs fails es outcome rest → Runs fails (e ∷ es) outcome rest
  runs_more e es Done rest good (all, none) = (All-cons (λ x. fails x.job false) e es good all, none)
  runs_more e es (Failed number) rest good (ran, last, is, all, bad, same) =
      (e ∷ ran, last, ap (λ xs. e ∷ xs) is, All-cons (λ x. fails x.job false) e ran good all, bad, same)
