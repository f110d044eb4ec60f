-- What a call of an event comes to.
use Rattle.std.specs.Prelude.{◌≡◌, ◌⊎◌, ℕ, ◌<◌, ◌≤◌, List, [], ◌∷◌, ◌++◌, length, take, drop, min, IsSome, IsSomeAnd}
use Rattle.std.specs.declared.option.Option.{Option}
use Rattle.std.specs.declared.option.Option.TheVariants.{None, Some}
use Rattle.zs_events.specs.declared.event.Event.{Event}
use Rattle.zs_events.specs.declared.turn.Answer.{Answer}
use Rattle.zs_events.specs.declared.turn.Effect.{Effect}
use Rattle.zs_line_session.specs.Lined.{Lined, Makes}
use Rattle.zs_message_forms.specs.Answers.{answer_form}
use Rattle.zs_message_forms.specs.Contents.{effect_parts, part_of}
use Rattle.zs_message_forms.specs.Numbers.{effect_form}
use Rattle.zs_message_forms.specs.declared.answers.AnswerForm.{AnswerForm}
use Rattle.zs_message_forms.specs.declared.forms.EffectForm.{EffectForm}
use Rattle.zs_c.specs.Through.{Through}

-- the session took the event and was answered so
pub record Told (event : Event) (form : AnswerForm) (before after : Lined) : Type 0 where
  pub answer : Answer
  pub makes : Makes before after event answer
  pub told : form ≡ answer_form answer

-- a call of an event that C says, or of nothing: at status 0 the session took it and its answer was written; at every other all is
-- as it was, and the status has its cause
pub record Called (said : Option Event) (old new : Option Lined) (kept written : AnswerForm) (status : ℕ) : Type 0 where
  pub done : status ≡ 0 → IsSomeAnd said (λ event. Through (Told event written) old new)
  pub undone : ¬ (status ≡ 0) → (new ≡ old) × (written ≡ kept)
  pub empty : status ≡ 1 → old ≡ None
  pub unsaid : status ≡ 5 → (said ≡ None) × IsSome old
  pub known : (status ≡ 0) ⊎ (status ≡ 1) ⊎ (status ≡ 5) ⊎ (status ≡ 6)

-- the first effect that waits is told
abbrev pub TellsFirst : List Effect → EffectForm → Type 0
TellsFirst [] form = ⊥
TellsFirst (effect ∷ more) form = form ≡ effect_form effect

-- the number of one of an effect's texts and bytes
abbrev pub IsPart : ℕ → Type 0
IsPart part = (1 ≤ part) × (part ≤ 5)

-- as much of a part of the first effect as fits was copied to the front
abbrev pub CopiesFirst : ℕ → List Effect → List ℕ → List ℕ → ℕ → Type 0
CopiesFirst part [] old new count = ⊥
CopiesFirst part (effect ∷ more) old new count = (count ≡ min (length old) (length (part_of part (effect_parts effect))))
    × (new ≡ take count (part_of part (effect_parts effect)) ++ drop count old)

-- the first effect was let go of: there was one, and the others wait still
abbrev pub DropsFirst : Lined → Lined → Type 0
DropsFirst before after = (0 < length before.effects) × (after ≡ record before { effects = drop 1 before.effects })
