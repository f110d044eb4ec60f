-- What an event is answered, in plain numbers.
use Rattle.std.specs.Prelude.{ℕ, true, false, None, Some}
use Rattle.zs_events.specs.declared.turn.Answer.{Answer}
use Rattle.zs_events.specs.declared.turn.Answer.TheVariants.{Ok as accepted, Refused}
use Rattle.zs_events.specs.declared.turn.Refusal.{Refusal}
use Rattle.zs_events.specs.declared.turn.Refusal.TheVariants.{SessionClosedError, NotFound, UnknownScope, BadKeyExpr, QueryCancelled, ReplyDisjoint, NotDeclared, IdsExhausted, Ignored}
use Rattle.zs_message_forms.specs.declared.answers.AnswerForm.{AnswerForm}

-- the number of a refusal
abbrev pub refusal_number : Refusal → ℕ
refusal_number SessionClosedError = 1
refusal_number NotFound = 2
refusal_number UnknownScope = 3
refusal_number BadKeyExpr = 4
refusal_number QueryCancelled = 5
refusal_number ReplyDisjoint = 6
refusal_number NotDeclared = 7
refusal_number IdsExhausted = 8
refusal_number Ignored = 9

-- an answer: 0 where the event was accepted, with the number that it drew, if it drew one
abbrev pub answer_form : Answer → AnswerForm
answer_form (accepted (Some number)) = record { refusal = 0; has_number = true; number = number }
answer_form (accepted None) = record { refusal = 0; has_number = false; number = 0 }
answer_form (Refused refusal) = record { refusal = refusal_number refusal; has_number = false; number = 0 }
