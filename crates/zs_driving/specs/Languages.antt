-- Programs whose lines are events: what they owe is told of the events.
use Rattle.std.specs.Prelude.{ℕ, ◌≡◌, Bool, is_some, List, [], ◌∷◌, ◌++◌, Option, Some, None}
use Rattle.std.specs.List.{filter_map}
use Rattle.zs_driving.specs.Tasks.{Rules, lines_text, closed_text}

-- which event a line is, and the texts that a program owes, each by the events before, the newest first
pub record Language (E : Type 0) : Type 0 where
  pub event_of : List ℕ → Option E
  pub event_text : List E → E → List ℕ
  pub end_text : List E → List ℕ

-- the events of lines, in their order
abbrev pub events_of : {E : Type 0} → Language E → List (List ℕ) → List E
events_of l rows = filter_map l.event_of rows

-- the text of an event, if there is one
abbrev pub text_of : {E : Type 0} → Language E → List E → Option E → List ℕ
text_of l h (Some e) = l.event_text h e
text_of l h None = []

-- the rules of such a program
abbrev pub rules_of : {E : Type 0} → Language E → Rules
rules_of l = record {
  line_text = λ h row. text_of l (events_of l h) (l.event_of row);
  end_text = λ h. l.end_text (events_of l h);
}

-- events behind others, the newest first
abbrev pub events_behind : {E : Type 0} → List E → List E → List E
events_behind h [] = h
events_behind h (e ∷ es) = events_behind (e ∷ h) es

-- what is put out for events behind others
abbrev pub events_text : {E : Type 0} → Language E → List E → List E → List ℕ
events_text l h [] = []
events_text l h (e ∷ es) = l.event_text h e ++ events_text l (e ∷ h) es

-- what is put out for lines is what is put out for their events
abbrev pub TextsAreOfEvents : {E : Type 0} → Language E → Type 0
TextsAreOfEvents l = (rows : List (List ℕ)) → (lines_text (rules_of l) rows ≡ events_text l [] (events_of l rows))
    × (closed_text (rules_of l) rows ≡ events_text l [] (events_of l rows) ++ l.end_text (events_behind [] (events_of l rows)))
