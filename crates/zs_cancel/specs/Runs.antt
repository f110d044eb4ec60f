-- A run of handlers, and whole lives of a token. A list of calls has the newest first.
use Rattle.std.specs.Prelude.{◌≡◌, ℕ, ◌+◌, Bool, true, false, All, List, [], ◌∷◌, ◌++◌}
use Rattle.zs_cancel.specs.declared.entry.Entry.{Entry}
use Rattle.zs_cancel.specs.declared.outcome.Outcome.{Outcome}
use Rattle.zs_cancel.specs.declared.outcome.Outcome.TheVariants.{Done, Failed}
use Rattle.zs_cancel.specs.Tokens.{Token, Call, new_token, Step}
use Rattle.zs_cancel.specs.Tokens.Call.{begin, finish}

module _ {J : Type 0} where
  -- the handlers ran in turn up to the first that failed, and the rest was not run
  abbrev pub Runs : (J → Bool → Type 0) → List (Entry J) → Outcome → List (Entry J) → Type 0
  Runs fails handlers Done rest = All (λ e. fails e.job false) handlers × (rest ≡ [])
  Runs fails handlers (Failed number) rest =
      (ran : List (Entry J)) × (last : Entry J) × (handlers ≡ ran ++ last ∷ rest)
      × All (λ e. fails e.job false) ran × fails last.job true × (last.number ≡ number)

  -- the calls lead from a new token to this one
  abbrev pub Leads : List (Call J) → Token J → Type 0
  Leads [] t = t ≡ new_token
  Leads (call ∷ calls) t = (before : Token J) × Leads calls before × Step before call t

  -- the handlers that were given to be run, in order
  abbrev pub given_handlers : List (Call J) → List (Entry J)
  given_handlers [] = []
  given_handlers (begin handlers ∷ calls) = given_handlers calls ++ handlers
  given_handlers (_ ∷ calls) = given_handlers calls

  -- how often handlers were given
  abbrev pub begin_count : List (Call J) → ℕ
  begin_count [] = 0
  begin_count (begin handlers ∷ calls) = begin_count calls + 1
  begin_count (_ ∷ calls) = begin_count calls

  -- the outcomes that were told, in order
  abbrev pub told_outcomes : List (Call J) → List Outcome
  told_outcomes [] = []
  told_outcomes (finish outcome ∷ calls) = told_outcomes calls ++ outcome ∷ []
  told_outcomes (_ ∷ calls) = told_outcomes calls
