-- Queriers as they are declared, and what their gets ask.
use Rattle.std.specs.Prelude.{ℕ, Bool, ◌==◌, List, [], ◌∷◌, Option, Some, None, option_map}
use Rattle.std.specs.List.{find, list_any}
use Rattle.zs_keys.specs.Key.{undeclared}
use Rattle.zs_keys.specs.declared.declaration.Declared.{Declared}
use Rattle.zs_events.specs.declared.event.Event.{Event}
use Rattle.zs_events.specs.declared.event.Event.TheVariants.{Querier}
use Rattle.zs_events.specs.declared.key_arg.KeyArg.{KeyArg}
use Rattle.zs_events.specs.Kinds.{Question, ToGets, NoGet, Asks, AsksBy}
use Rattle.zs_events.specs.declared.inquiry.Inquiry.{Inquiry}
use Rattle.zs_events.specs.declared.inquiry.QuerySettings.{QuerySettings}
pub use Rattle.zs_model.specs.declared.querier.QuerierRow.{QuerierRow}
use Rattle.zs_model.specs.Publishers.{prefix_of}

-- a querier on the key of this text
abbrev pub querier_on : ℕ → KeyArg → QuerySettings → List ℕ → QuerierRow
querier_on id key settings text = record { id = id; key = undeclared text; prefix = prefix_of key text; settings = settings }

-- the querier that an event declares, given the number that it drew and the text of its key
abbrev pub querier_row : Event → Option ℕ → Option (List ℕ) → List QuerierRow
querier_row (Querier key settings) (Some number) (Some text) =
    querier_on number key settings text ∷ []
querier_row e number text = []

-- whether there is a querier of that number
abbrev pub is_querier : ℕ → List QuerierRow → Bool
is_querier id rows = list_any (λ row. row.id == id) rows

-- the querier of a number
abbrev pub querier_at : ℕ → List QuerierRow → Option QuerierRow
querier_at id rows = find (λ row. row.id == id) rows

-- what a get of a querier asks: the querier says how
abbrev pub question_of : QuerierRow → Inquiry → Question
question_of row inquiry = record { settings = row.settings; inquiry = inquiry; querier = Some row.id }

-- so it is a get, where the querier is live
abbrev pub asks_of : Inquiry → Option QuerierRow → ToGets
asks_of q None = NoGet
asks_of q (Some row) = Asks (question_of row q)

-- what an event is to gets where these queriers are live
abbrev pub to_gets_by : List QuerierRow → ToGets → ToGets
to_gets_by rows (AsksBy id q) = asks_of q (querier_at id rows)
to_gets_by rows to = to

-- the declaration of a querier's key, where it was named by a declared one
abbrev pub querier_declaration : ℕ → Option QuerierRow → Option Declared
querier_declaration tag None = None
querier_declaration tag (Some row) = option_map (λ p. record { number = p.number; prefix_len = p.len; tag = tag }) row.prefix
