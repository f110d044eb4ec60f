-- The open gets with the indexes that find them by their deadline, their cancellation token and their querier.
use Rattle.std.specs.Prelude.{◌≡◌, ℕ, false, List, Option, Some, None}
use Rattle.zs_rows.specs.Ascending.{Ascend}
use Rattle.zs_rows.specs.Index.{is_marked, Notes, Forgets, IsSame, IsIndexOf}
use Rattle.zs_rows.specs.Rows.{AreNumbered}
use Rattle.zs_query.specs.declared.open_get.OpenGet.{OpenGet}
use Rattle.zs_query.specs.declared.get_row.GetRow.{GetRow}
use Rattle.zs_query.specs.declared.get_marks.GetKeys.{GetKeys}
use Rattle.zs_query.specs.declared.get_marks.GetMarks.{GetMarks}

-- the keys under which a get is found
abbrev pub deadline_of : OpenGet → Option ℕ
deadline_of g = Some g.row.deadline

abbrev pub cancellation_token_of : OpenGet → Option ℕ
cancellation_token_of g = g.row.cancellation_token

abbrev pub querier_of : OpenGet → Option ℕ
querier_of g = g.row.querier

abbrev pub keys_of : GetRow → GetKeys
keys_of row = record { number = row.number; deadline = row.deadline; cancellation_token = row.cancellation_token; querier = row.querier }

-- the marks of a get have come
pub record NotesAll (keys : GetKeys) (before after : GetMarks) : Type 0 where
  pub deadlines : Notes (Some keys.deadline) keys.number before.deadlines after.deadlines
  pub cancellation_tokens : Notes keys.cancellation_token keys.number before.cancellation_tokens after.cancellation_tokens
  pub queriers : Notes keys.querier keys.number before.queriers after.queriers

-- the marks of a get are gone
pub record ForgetsAll (keys : GetKeys) (before after : GetMarks) : Type 0 where
  pub deadlines : Forgets (Some keys.deadline) keys.number before.deadlines after.deadlines
  pub cancellation_tokens : Forgets keys.cancellation_token keys.number before.cancellation_tokens after.cancellation_tokens
  pub queriers : Forgets keys.querier keys.number before.queriers after.queriers

-- the marks are the same
pub record AreSame (before after : GetMarks) : Type 0 where
  pub deadlines : IsSame before.deadlines after.deadlines
  pub cancellation_tokens : IsSame before.cancellation_tokens after.cancellation_tokens
  pub queriers : IsSame before.queriers after.queriers

-- a number has no mark
pub record IsFree (number : ℕ) (marks : GetMarks) : Type 0 where
  pub deadlines : (k : ℕ) → is_marked k number marks.deadlines ≡ false
  pub cancellation_tokens : (k : ℕ) → is_marked k number marks.cancellation_tokens ≡ false
  pub queriers : (k : ℕ) → is_marked k number marks.queriers ≡ false

-- each get stands under its number, the numbers ascend, and each index has the marks of these gets and no others
pub record AreIndexed (rows : List (ℕ × OpenGet)) (marks : GetMarks) : Type 0 where
  pub numbered : AreNumbered (λ g. g.row.number) rows
  pub ascending : Ascend (λ e. e.0) rows
  pub deadlines : IsIndexOf deadline_of rows marks.deadlines
  pub cancellation_tokens : IsIndexOf cancellation_token_of rows marks.cancellation_tokens
  pub queriers : IsIndexOf querier_of rows marks.queriers

-- the row of a get, if there is one
abbrev pub row_of_get : Option OpenGet → Option GetRow
row_of_get None = None
row_of_get (Some g) = Some g.row
