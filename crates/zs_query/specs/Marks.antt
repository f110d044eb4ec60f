-- The key and the timestamp of a reply, by which replies are told apart and put in order.
use Rattle.std.specs.Prelude.{ℕ, ◌==◌, ◌&&◌, ◌||◌, nat_lt, Bool, true, false, not, List, [], Option, Some, None, Result, Ok, Err, bytes_eq}
use Rattle.std.specs.List.{find}
use Rattle.zs_wire.specs.declared.origin.Timestamp.{Timestamp}
use Rattle.zs_sample.specs.declared.sample_fields.SampleFields.{SampleFields}
use Rattle.zs_sample.specs.ErrorFields.{ErrorFields}
use Rattle.zs_sample.specs.Reply.{Replied}

-- whether a timestamp is before another: by the time, and then by the clock's id
abbrev pub is_earlier : Timestamp → Timestamp → Bool
is_earlier a b = nat_lt a.time b.time || ((a.time == b.time) && nat_lt a.id b.id)

-- whether a timestamp is below another; none is below any
abbrev pub is_below : Option Timestamp → Option Timestamp → Bool
is_below None None = false
is_below None (Some b) = true
is_below (Some a) None = false
is_below (Some a) (Some b) = is_earlier a b

-- a key's text, and a timestamp
pub record Mark : Type 0 where
  pub key : List ℕ
  pub timestamp : Option Timestamp

-- those of what a reply brings; an error has neither
abbrev pub mark_of_result : Result SampleFields ErrorFields → Mark
mark_of_result (Ok sample) = record { key = sample.key_expr.text; timestamp = sample.timestamp }
mark_of_result (Err error) = record { key = []; timestamp = None }

-- those of a reply
abbrev pub mark_of : Replied → Mark
mark_of reply = mark_of_result reply.result

-- a reply's key
abbrev pub key_of : Replied → List ℕ
key_of reply = (mark_of reply).key

-- the mark of a key
abbrev pub mark_at : List ℕ → List Mark → Option Mark
mark_at key marks = find (λ mark. bytes_eq key mark.key) marks

-- whether it isn't older than the mark that stands for its key
abbrev pub passes_at : Option Mark → Mark → Bool
passes_at None mark = true
passes_at (Some last) mark = not (is_below mark.timestamp last.timestamp)

abbrev pub passes : List Mark → Mark → Bool
passes marks mark = passes_at (mark_at mark.key marks) mark
